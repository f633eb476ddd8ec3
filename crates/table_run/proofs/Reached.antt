-- The row that a step comes to, and what is read before it is judged.
use Rattle.std.proofs.Common.{◌≡◌, ℕ, ap, sym, ◌∙◌, List, [], ◌++◌, Option, Some, None, append_assoc}
use Rattle.std.proofs.lemmas.List.{append-nil}
use Rattle.word_spec.specs.State.{State}
use Rattle.machine_spec.specs.Machine.{Row, addresses}
use Rattle.bilv_spec.specs.Run.{Program, false_assert}
use Rattle.model_spec.specs.Reads.{assert_reads}
use Rattle.table_run.specs.declared.reads.Stage.{Stage}
use Rattle.table_run.specs.Traces.{reached_by, reached_row, row_loads, early_reads, stage_reads}

-- none is reached where an assert line is false
pub reached_none : (p : Program) (entry s : State) (o : Option ℕ) → o ≡ false_assert p.machine.endian p.notes.asserts s entry → (line : ℕ) → o ≡ Some line →
    None ≡ reached_row p entry s
reached_none p entry s o is line false_one = ap (λ z. reached_by z p s) (sym false_one ∙ is)

-- what a step reads, by its row
early_is : (p : Program) (entry s : State) (o : Option Row) (old new : List ℕ) → o ≡ reached_row p entry s →
    new ≡ (old ++ assert_reads p.machine.endian p.notes.asserts s entry) ++ row_loads o s → new ≡ old ++ early_reads p entry s
early_is p entry s o old new is all =
    let asserts : List ℕ = assert_reads p.machine.endian p.notes.asserts s entry in
    all ∙ append_assoc old asserts (row_loads o s) ∙ ap (λ z. old ++ (asserts ++ row_loads z s)) is

module _ (p : Program) (entry s : State) (o : Option Row) where
  abbrev asserts : List ℕ
  asserts = assert_reads p.machine.endian p.notes.asserts s entry

  pub early_none : (old some : List ℕ) → o ≡ reached_row p entry s → o ≡ None → some ≡ old ++ asserts → some ≡ old ++ early_reads p entry s
  early_none old some is none same =
      early_is p entry s o old some is
      (same ∙ sym (append-nil (old ++ asserts)) ∙ ap (λ z. (old ++ asserts) ++ row_loads z s) (sym none))

  pub early_some : (row : Row) (old some new : List ℕ) → o ≡ reached_row p entry s → o ≡ Some row → some ≡ old ++ asserts →
      new ≡ some ++ addresses (row.loaded s) → new ≡ old ++ early_reads p entry s
  early_some row old some new is there same all =
      early_is p entry s o old new is
      (all ∙ ap (λ z. z ++ addresses (row.loaded s)) same ∙ ap (λ z. (old ++ asserts) ++ row_loads z s) (sym there))

-- what is read at a stage that is known, added to nothing
pub reads_at : (p : Program) (entry s : State) (some stage : Stage) (reads old new : List ℕ) → some ≡ stage → old ≡ [] → new ≡ old ++ reads →
    reads ≡ stage_reads p stage entry s → new ≡ stage_reads p some entry s
reads_at p entry s some stage reads old new is none all same =
    all ∙ ap (λ z. z ++ reads) none ∙ same ∙ ap (λ (z : Stage). stage_reads p z entry s) (sym is)
