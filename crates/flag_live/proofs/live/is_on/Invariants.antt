use Rattle.std.proofs.Common.{ℕ, ◌<◌, get_or}
use Rattle.graph_nodes.specs.declared.nodes.Successor.{Successor}
use Rattle.graph_nodes.specs.Places.{AreRising}
use Rattle.flag_live.specs.Meanings.{LeadsOn}
use Rattle.flag_live.proofs.live.is_on.Given as goal

abbrev pub invariant-loop-successor : goal.invariant-loop-successor
invariant-loop-successor l = AreRising l.nodes → (j : ℕ) (d : Successor) → j < l.successor-index → ¬ LeadsOn l.nodes l.marked (get_or l.successor-items j d)
