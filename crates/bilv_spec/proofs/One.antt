-- A program has at most one right verdict.
use Rattle.std.proofs.Common.{◌≡◌, ℕ, refl}
use Rattle.bilv_spec.specs.Run.{Program, Exited, Failed, Turned}
use Rattle.machine_spec.specs.Endings.{Start}
use Rattle.bilv_spec.specs.Verdict.{Verdict, Holds, Vacuous, Fails, Unroll, IsRight, RunExits, RunFails, RunTurns}
use Rattle.bilv_spec.proofs.Over.{one_end}

pub exit_not_fail : (p : Program) (k : ℕ) (s : Start) → RunExits p k s → RunFails p k s → ⊥
exit_not_fail p k s a b = let e = one_end p k s a.0 b.0 (Exited a.1 a.2) (Failed b.3 b.1 b.2) tt tt a.3 b.4 in cc

pub exit_not_turn : (p : Program) (k : ℕ) (s : Start) → RunExits p k s → RunTurns p k s → ⊥
exit_not_turn p k s a b = let e = one_end p k s a.0 b.0 (Exited a.1 a.2) (Turned b.1 b.2) tt tt a.3 b.3 in cc

pub one_verdict : (p : Program) (k : ℕ) (v w : Verdict) → IsRight p k v → IsRight p k w → v ≡ w
one_verdict p k Holds Holds a b = refl
one_verdict p k Vacuous Vacuous a b = refl
one_verdict p k Fails Fails a b = refl
one_verdict p k Unroll Unroll a b = refl
one_verdict p k Holds Vacuous a b = absurd (b a.0.0 a.0.1)
one_verdict p k Vacuous Holds a b = absurd (a b.0.0 b.0.1)
one_verdict p k Holds Fails a b = absurd (exit_not_fail p k b.0 (a.1 b.0 b.1) b.2)
one_verdict p k Fails Holds a b = absurd (exit_not_fail p k a.0 (b.1 a.0 a.1) a.2)
one_verdict p k Holds Unroll a b = absurd (exit_not_turn p k b.1.0 (a.1 b.1.0 b.1.1) b.1.2)
one_verdict p k Unroll Holds a b = absurd (exit_not_turn p k a.1.0 (b.1 a.1.0 a.1.1) a.1.2)
one_verdict p k Vacuous Fails a b = absurd (a b.0.state b.1.entry)
one_verdict p k Fails Vacuous a b = absurd (b a.0.state a.1.entry)
one_verdict p k Vacuous Unroll a b = absurd (a b.1.0.state b.1.1.entry)
one_verdict p k Unroll Vacuous a b = absurd (b a.1.0.state a.1.1.entry)
one_verdict p k Fails Unroll a b = absurd (b.0 a.0 a.1 a.2)
one_verdict p k Unroll Fails a b = absurd (a.0 b.0 b.1 b.2)
