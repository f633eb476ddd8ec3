use Rattle.std.proofs.Common.{map}
use Rattle.known_bytes.specs.Runs.{run_of}
use Rattle.model_verdict.proofs.Made.{given_byte, known_byte}
use Rattle.model_verdict.proofs.filling.model_memory.Goals as goal

pub returns-in_ok-filled-in-None : goal.returns-in_ok-filled-in-None
returns-in_ok-filled-in-None c x =
    known_byte (map run_of c.args.known.now) c.args.memory.now c.in_ok-filled-in-None.filled.entries x c.in-None.is (c.in_ok-filled-in-None.ensures.below x)
    (c.in_ok-filled-in-None.ensures.value x)

pub returns-in_ok-filled-in-Some : goal.returns-in_ok-filled-in-Some
returns-in_ok-filled-in-Some c x =
    given_byte (map run_of c.args.known.now) c.args.memory.now c.in-Some.memory c.in_ok-filled-in-Some.filled.entries x c.requires.sound c.in-Some.is
    (rw c.deref.ensures.value at (c.in_ok-filled-in-Some.ensures x))
