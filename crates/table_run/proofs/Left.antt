-- The state that the step of a row leaves.
use Rattle.std.proofs.Common.{◌≡◌, ℕ, true, false, Option, Some, None, refl, sym, ap, ◌∙◌}
use Rattle.std.specs.Prelude.{if◌then◌else◌}
use Rattle.word_spec.specs.State.{State}
use Rattle.machine_spec.specs.Machine.{Row, Outcome, Goes, Raises}
use Rattle.bilv_spec.specs.Run.{Program, false_assert, fetchable, row_at}
use Rattle.byte_mem.specs.Views.{IsStep}
use Rattle.byte_mem.specs.declared.StepOut.{StepOut}
use Rattle.trace_spec.specs.Seen.{left_by_assert, left_by_outcome, left_by_row, left_in}

pub left_is : (old new : State) (out : StepOut) (o : Outcome) → IsStep old new out o → new ≡ left_by_outcome old o
left_is old new out (Goes how s) is = is.0
left_is old new out (Raises e) is = is.0

module _ (p : Program) (entry s : State) (choice : ℕ) where
  abbrev row_there : Option Row
  row_there = row_at p (p.word s) s.pc

  same : (o : Option ℕ) → s ≡ left_by_assert o s s
  same (Some line) = refl
  same None = refl

  -- an assert line is false
  pub left_false : (line : ℕ) → false_assert p.machine.endian p.notes.asserts s entry ≡ Some line → s ≡ left_in p entry s choice
  left_false line is = ap (λ o. left_by_assert o s (left_by_row row_there s choice)) (sym is)

  -- there is no row
  pub left_none : row_there ≡ None → s ≡ left_in p entry s choice
  left_none none =
      same (false_assert p.machine.endian p.notes.asserts s entry)
      ∙ ap (λ r. left_by_assert (false_assert p.machine.endian p.notes.asserts s entry) s (left_by_row r s choice)) (sym none)

  -- the word may not be fetched
  pub left_unfetched : fetchable p (p.word s s.pc) s.pc ≡ false → s ≡ left_in p entry s choice
  left_unfetched not = left_none (ap (λ b. if b then p.machine.row (p.word s s.pc) else None) not)

  -- it may, and it has a row or none
  pub left_undecoded : fetchable p (p.word s s.pc) s.pc ≡ true → p.machine.row (p.word s s.pc) ≡ None → s ≡ left_in p entry s choice
  left_undecoded may none = left_none (ap (λ b. if b then p.machine.row (p.word s s.pc) else None) may ∙ none)

  pub left_row : (row : Row) (new : State) → false_assert p.machine.endian p.notes.asserts s entry ≡ None → fetchable p (p.word s s.pc) s.pc ≡ true →
      p.machine.row (p.word s s.pc) ≡ Some row → new ≡ left_by_outcome s (row.effect s choice) → new ≡ left_in p entry s choice
  left_row row new right may is left =
      left
      ∙ ap (λ r. left_by_row r s choice) (sym (ap (λ b. if b then p.machine.row (p.word s s.pc) else None) may ∙ is))
      ∙ ap (λ o. left_by_assert o s (left_by_row row_there s choice)) (sym right)
