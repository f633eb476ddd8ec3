use Rattle.std.proofs.Common.{refl}
use Rattle.term_names.proofs.Stated.{states_of_part}
use Rattle.term_names.proofs.names.part_names.Goals as goal

pub returns : goal.returns
returns c = states_of_part c.args.dag.now _ _ _ _ _ _ _ _ refl c.in_ok-registers.ensures c.in_ok-flags.ensures c.in_ok-memory.ensures
