use Rattle.std.proofs.Common.{List, ℕ, subst}
use Rattle.suite_notes.specs.Expansions.{IsNotes}
use Rattle.suite_top.specs.Verified.{verified}
use Rattle.suite_top.proofs.verify.BilvVerifier.verify.Goals as goal

pub returns-in_ok-came-in-Notes : goal.returns-in_ok-came-in-Notes
returns-in_ok-came-in-Notes c =
    let notes = c.in-Notes.notes.items in
    verified notes (subst (λ (f : List ℕ). IsNotes f c.args.notes.items notes) c.deref.ensures.value (rw c.in-Notes.is at c.in_ok-notes.ensures))
    c.in_ok-came-in-Notes.ensures
