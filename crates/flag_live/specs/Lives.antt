-- For each flag the nodes whose assignment of it is live.
use Rattle.std.specs.Prelude.{List}
use Rattle.frame_spec.specs.Frames.{Contract}
use Rattle.graph_nodes.specs.declared.nodes.Graph.{Graph}
use Rattle.flag_live.specs.Contracted.{IsAskedBy}
use Rattle.flag_live.specs.Meanings.{AreLive}
use Rattle.flag_live.specs.declared.trimmed.Lives.{Lives}

-- they are those of a graph
pub record AreAllLive (g : Graph) (live : Lives) : Type 0 where
  pub negative : AreLive g 3 live.negative.items
  pub zero : AreLive g 2 live.zero.items
  pub carry : AreLive g 1 live.carry.items
  pub overflow : AreLive g 0 live.overflow.items

-- they are those of a graph with what contracts read
pub record AreLiveBy (contracts : List Contract) (old : Graph) (live : Lives) : Type 0 where
  pub asked : Graph
  pub is : IsAskedBy contracts old asked
  pub are : AreAllLive asked live
