-- What is held after the sweep answers the questions.
use Rattle.std.proofs.Common.{refl}
use Rattle.call_spec.specs.Calls.{EntryQuestion, FailQuestion, TurnQuestion}
use Rattle.walk_spec.proofs.SweepWalk.{sweep_is_walk}
use Rattle.term_spec.specs.Passive.{HeldAnswers}

-- by what is held a question is true, but for the bytes of the file, where the entry condition is met and the walk ends as it asks
pub held_answers : HeldAnswers
held_answers u some later r EntryQuestion = ((λ h. (h.lines, refl)), (λ h. record { lines = h.0; ends = tt }))
held_answers u some later r FailQuestion =
    let s = sweep_is_walk u some later r in
    ((λ h. (h.lines, s.0.1 h.ends)), (λ h. record { lines = h.0; ends = s.0.0 h.1 }))
held_answers u some later r TurnQuestion =
    let s = sweep_is_walk u some later r in
    ((λ h. (h.lines, s.1.1 h.ends)), (λ h. record { lines = h.0; ends = s.1.0 h.1 }))
