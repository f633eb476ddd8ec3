use Rattle.std.specs.Prelude.{◌||◌}
use Rattle.graph_nodes.specs.Graphs.{has_flag}
use Rattle.flag_live.proofs.FlagSets.{set_is}
use Rattle.flag_live.proofs.trimmed.joined.Goals as goal

pub returns : goal.returns
returns c =
    set_is c.set_of.result (λ f. has_flag c.args.a f || has_flag c.args.b f) _ _ _ _ c.set_of.ensures c.is_in_one-negative.ensures c.is_in_one-zero.ensures
    c.is_in_one-carry.ensures c.is_in_one-overflow.ensures
