use Rattle.machine_spec.proofs.BilTurns.{no_loop_no_turns}
use Rattle.machine_spec.proofs.bil.no_loop_no_turns.Goals as goal

pub returns : goal.returns
returns c = no_loop_no_turns
