use Rattle.std.proofs.Common.{map, refl, subst}
use Rattle.known_bytes.specs.Runs.{run_of}
use Rattle.model_verdict.specs.Models.{IsSoundMemory}
use Rattle.model_verdict.proofs.Filled.{none_by, some_by}
use Rattle.model_verdict.proofs.truth.memory_has.Goals as goal

pub returns-in-None : goal.returns-in-None
returns-in-None c = (λ e. none_by (map run_of c.args.known.now) c.args.memory.now c.in-None.is, λ h. refl)

pub has_known-requires-clause-rising : goal.has_known-requires-clause-rising
has_known-requires-clause-rising c = rw c.deref.ensures.value (subst IsSoundMemory c.in-Some.is c.requires.sound).1

pub returns-in-Some : goal.returns-in-Some
returns-in-Some c =
    some_by (map run_of c.args.known.now) c.args.memory.now c.in-Some.memory c.has_known.result c.in-Some.is
    (rw c.deref.ensures.value at c.has_known.ensures.all) (rw c.deref.ensures.value at c.has_known.ensures.other)
