-- One step of a row that goes on to the next address, and of a return that exits.
use Rattle.std.proofs.Common.{◌≡◌, ℕ, ap, ◌∙◌, true, false, [], Some, None}
use Rattle.std.specs.Prelude.{◌==◌}
use Rattle.std.specs.List.{list_any}
use Rattle.word_spec.specs.State.{State}
use Rattle.machine_spec.specs.Machine.{Row, On, Indirect, Goes, addresses, is_place}
use Rattle.bilv_spec.specs.Run.{Program, Place, Arrives, Exits, step, fetchable, false_assert, false_line, after_asserts, by_fetch, by_row, after_row, aligned_transfer, exit_or, exit_by, is_named, is_kept}

-- no assert line is judged before the row, its word may be fetched, and it stores nothing
pub record IsPlainStep (p : Program) (c : Place) (row : Row) : Type 0 where
  pub asserts : p.notes.asserts ≡ []
  pub fetches : fetchable p (p.word c.state c.state.pc) c.state.pc ≡ true
  pub is_row : p.machine.row (p.word c.state c.state.pc) ≡ Some row
  pub stored : row.stored c.state ≡ None

module _ (p : Program) (entry : State) (c : Place) (choice : ℕ) (row : Row) (is : IsPlainStep p c row) where
  to_row : step p entry c choice ≡ after_row p entry row c.state c.stack false (row.effect c.state choice)
  to_row =
      ap (λ xs. after_asserts (false_assert p.machine.endian xs c.state entry) p entry c choice) is.asserts
      ∙ ap (λ b. by_fetch b p entry c choice) is.fetches
      ∙ ap (λ o. by_row p entry c choice o) is.is_row
      ∙ ap (λ o. after_row p entry row c.state c.stack (list_any (λ a. is_kept (p.loaded a)) (addresses o)) (row.effect c.state choice)) is.stored

  pub step_on : (new : State) → row.effect c.state choice ≡ Goes On new → is_place p.machine.narrow new.pc ≡ true →
      step p entry c choice ≡ Arrives (record { state = new; stack = c.stack })
  step_on new effect aligned =
      to_row ∙ ap (λ o. after_row p entry row c.state c.stack false o) effect ∙ ap (λ b. aligned_transfer b p entry row c.state c.stack On new) aligned

pub step_exits : (p : Program) (entry now : State) (choice : ℕ) (row : Row) → IsPlainStep p (record { state = now; stack = [] }) row → (new : State) →
    row.effect now choice ≡ Goes Indirect new → is_place p.machine.narrow new.pc ≡ true → (new.pc == entry.regs p.machine.link) ≡ true →
    false_line p.machine.endian p.notes.ensures new entry ≡ None →
    step p entry (record { state = now; stack = [] }) choice ≡ Exits new
step_exits p entry now choice row is new effect aligned link true_lines =
    to_row p entry (record { state = now; stack = [] }) choice row is
    ∙ ap (λ o. after_row p entry row now [] false o) effect
    ∙ ap (λ b. aligned_transfer b p entry row now [] Indirect new) aligned
    ∙ ap (λ b. exit_or b p entry new (is_named p now row new.pc)) link
    ∙ ap (λ o. exit_by o new) true_lines
