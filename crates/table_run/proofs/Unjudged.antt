-- A step whose exit is judged behind it, and what it reads.
use Rattle.std.proofs.Common.{◌≡◌, ℕ, refl, ap, sym, ◌∙◌, List, [], ◌∷◌, ◌++◌, Option, Some, None, Bool, true, false, append_assoc}
use Rattle.std.specs.Prelude.{◌==◌, if◌then◌else◌}
use Rattle.word_spec.specs.State.{State}
use Rattle.machine_spec.specs.Machine.{Row, How, On, Direct, DirectCall, Indirect, IndirectCall, Outcome, Goes, Raises, addresses, is_place}
use Rattle.machine_spec.specs.MachineLaws.{IfGoes}
use Rattle.bilv_spec.specs.Run.{Program, Place, Step, Stops, Arrives, Exits, false_line, false_assert, fetchable, is_named, allowed, exit_by, exit, exit_or, return_or, transfer, aligned_transfer, going_on, after_row, writes_kept, by_row, by_fetch, after_asserts, step}
use Rattle.model_spec.specs.Reads.{line_reads, assert_reads, is_exit_step, exit_reads, outcome_reads, row_reads, fetched_reads, reads_after, step_reads}
use Rattle.table_run.specs.Traces.{unjudged, reached_by, reached_row, row_loads, early_reads}

-- the exit is judged
abbrev pub judged : Program → State → Step → Step
judged p entry (Exits s) = exit p entry s
judged p entry (Arrives c) = Arrives c
judged p entry (Stops e) = Stops e

-- what is read then
abbrev pub end_reads : Program → State → Step → List ℕ
end_reads p entry (Exits s) = line_reads p.machine.endian p.notes.ensures s entry
end_reads p entry (Arrives c) = []
end_reads p entry (Stops e) = []

-- the step is the one whose exit is not judged, judged; and it reads what that one does, and then what its exit does
record Is (p : Program) (entry new : State) (x y : Step) : Type 0 where
  judged_is : x ≡ judged p entry y
  reads : exit_reads (is_exit_step x) p entry new ≡ end_reads p entry y

module _ (p : Program) (entry : State) where
  abbrev u : Program
  u = unjudged p

  module _ (new : State) where
    allowed_is : (b : Bool) (c : Place) → Is p entry new (allowed b c) (allowed b c)
    allowed_is true c = record { judged_is = refl; reads = refl }
    allowed_is false c = record { judged_is = refl; reads = refl }

    exit_is : (o : Option ℕ) → exit_reads (is_exit_step (exit_by o new)) p entry new ≡ line_reads p.machine.endian p.notes.ensures new entry
    exit_is None = refl
    exit_is (Some line) = refl

    exit_or_is : (b n : Bool) → Is p entry new (exit_or b p entry new n) (exit_or b u entry new n)
    exit_or_is true n = record { judged_is = refl; reads = exit_is (false_line p.machine.endian p.notes.ensures new entry) }
    exit_or_is false n = allowed_is n (record { state = new; stack = [] })

    return_is : (b n : Bool) (top : ℕ) (below : List ℕ) → Is p entry new (return_or b top below new n) (return_or b top below new n)
    return_is true n top below = record { judged_is = refl; reads = refl }
    return_is false n top below = allowed_is n (record { state = new; stack = top ∷ below })

    module _ (row : Row) (old : State) where
      transfer_is : (how : How) (l : List ℕ) → Is p entry new (transfer p entry row old l how new) (transfer u entry row old l how new)
      transfer_is On l = record { judged_is = refl; reads = refl }
      transfer_is Direct l = record { judged_is = refl; reads = refl }
      transfer_is DirectCall l = record { judged_is = refl; reads = refl }
      transfer_is Indirect [] = exit_or_is (new.pc == entry.regs p.machine.link) (is_named p old row new.pc)
      transfer_is Indirect (top ∷ below) = return_is (new.pc == top) (is_named p old row new.pc) top below
      transfer_is IndirectCall l = allowed_is (is_named p old row new.pc) _

      aligned_is : (b : Bool) (how : How) (l : List ℕ) →
          Is p entry new (aligned_transfer b p entry row old l how new) (aligned_transfer b u entry row old l how new)
      aligned_is true how l = transfer_is how l
      aligned_is false how l = record { judged_is = refl; reads = refl }

      going_is : (b : Bool) (how : How) (l : List ℕ) → Is p entry new (going_on b p entry row old l how new) (going_on b u entry row old l how new)
      going_is true how l = record { judged_is = refl; reads = refl }
      going_is false how l = aligned_is (is_place p.machine.narrow new.pc) how l

  module _ (c : Place) (choice : ℕ) where
    row_judged : (row : Row) (o : Outcome) → after_row p entry row c.state c.stack (writes_kept p row c.state) o
        ≡ judged p entry (after_row u entry row c.state c.stack (writes_kept p row c.state) o)
    row_judged row (Raises e) = refl
    row_judged row (Goes how new) = (going_is new row c.state (writes_kept p row c.state) how c.stack).judged_is

    row_read : (row : Row) (o : Outcome) → outcome_reads p entry row c o
        ≡ end_reads p entry (after_row u entry row c.state c.stack (writes_kept p row c.state) o)
    row_read row (Raises e) = refl
    row_read row (Goes how new) = (going_is new row c.state (writes_kept p row c.state) how c.stack).reads

    by_row_judged : (o : Option Row) → by_row p entry c choice o ≡ judged p entry (by_row u entry c choice o)
    by_row_judged None = refl
    by_row_judged (Some row) = row_judged row (row.effect c.state choice)

    by_row_read : (o : Option Row) → row_reads o p entry c choice ≡ row_loads o c.state ++ end_reads p entry (by_row u entry c choice o)
    by_row_read None = refl
    by_row_read (Some row) = ap (λ z. addresses (row.loaded c.state) ++ z) (row_read row (row.effect c.state choice))

    fetch_judged : (b : Bool) → by_fetch b p entry c choice ≡ judged p entry (by_fetch b u entry c choice)
    fetch_judged true = by_row_judged (p.machine.row (p.word c.state c.state.pc))
    fetch_judged false = refl

    fetch_read : (b : Bool) → fetched_reads b p entry c choice
        ≡ row_loads (if b then p.machine.row (p.word c.state c.state.pc) else None) c.state ++ end_reads p entry (by_fetch b u entry c choice)
    fetch_read true = by_row_read (p.machine.row (p.word c.state c.state.pc))
    fetch_read false = refl

    asserts_judged : (o : Option ℕ) → after_asserts o p entry c choice ≡ judged p entry (after_asserts o u entry c choice)
    asserts_judged (Some line) = refl
    asserts_judged None = fetch_judged (fetchable p (p.word c.state c.state.pc) c.state.pc)

    asserts_read : (o : Option ℕ) → reads_after o p entry c choice
        ≡ row_loads (reached_by o p c.state) c.state ++ end_reads p entry (after_asserts o u entry c choice)
    asserts_read (Some line) = refl
    asserts_read None = fetch_read (fetchable p (p.word c.state c.state.pc) c.state.pc)

    pub step_judged : step p entry c choice ≡ judged p entry (step u entry c choice)
    step_judged = asserts_judged (false_assert p.machine.endian p.notes.asserts c.state entry)

    pub step_read : step_reads p entry c choice ≡ early_reads p entry c.state ++ end_reads p entry (step u entry c choice)
    step_read =
        let asserts : List ℕ = assert_reads p.machine.endian p.notes.asserts c.state entry in
        ap (λ z. asserts ++ z) (asserts_read (false_assert p.machine.endian p.notes.asserts c.state entry))
        ∙ sym (append_assoc asserts (row_loads (reached_row p entry c.state) c.state) (end_reads p entry (step u entry c choice)))

-- what it comes to where it stops or goes on is the same, and where it exits, it is judged
pub judged_same : (p : Program) (entry : State) (c : Place) (choice : ℕ) (x y : Step) → step (unjudged p) entry c choice ≡ x → judged p entry x ≡ y →
    step p entry c choice ≡ y
judged_same p entry c choice x y is same = step_judged p entry c choice ∙ ap (judged p entry) is ∙ same

-- a step that goes on or exits comes to a state of which something is true
abbrev pub ComesIn : (State → Type 0) → Step → Type 0
ComesIn P (Arrives c) = P c.state
ComesIn P (Exits s) = P s
ComesIn P (Stops e) = Unit {0}

module _ (P : State → Type 0) (p : Program) (entry : State) where
  module _ (row : Row) (old new : State) (h : P new) where
    allowed_in : (b : Bool) (l : List ℕ) → ComesIn P (allowed b (record { state = new; stack = l }))
    allowed_in true l = h
    allowed_in false l = tt

    exit_in : (o : Option ℕ) → ComesIn P (exit_by o new)
    exit_in None = h
    exit_in (Some line) = tt

    exit_or_in : (b n : Bool) → ComesIn P (exit_or b p entry new n)
    exit_or_in true n = exit_in (false_line p.machine.endian p.notes.ensures new entry)
    exit_or_in false n = allowed_in n []

    return_in : (b n : Bool) (top : ℕ) (below : List ℕ) → ComesIn P (return_or b top below new n)
    return_in true n top below = h
    return_in false n top below = allowed_in n (top ∷ below)

    transfer_in : (how : How) (l : List ℕ) → ComesIn P (transfer p entry row old l how new)
    transfer_in On l = h
    transfer_in Direct l = h
    transfer_in DirectCall l = h
    transfer_in Indirect [] = exit_or_in (new.pc == entry.regs p.machine.link) (is_named p old row new.pc)
    transfer_in Indirect (top ∷ below) = return_in (new.pc == top) (is_named p old row new.pc) top below
    transfer_in IndirectCall l = allowed_in (is_named p old row new.pc) _

    aligned_in : (b : Bool) (how : How) (l : List ℕ) → ComesIn P (aligned_transfer b p entry row old l how new)
    aligned_in true how l = transfer_in how l
    aligned_in false how l = tt

    going_in : (b : Bool) (how : How) (l : List ℕ) → ComesIn P (going_on b p entry row old l how new)
    going_in true how l = tt
    going_in false how l = aligned_in (is_place p.machine.narrow new.pc) how l

  module _ (c : Place) (choice : ℕ) where
    abbrev Leads : Option Row → Type 0
    Leads o = (row : Row) → o ≡ Some row → IfGoes (row.effect c.state choice) (λ how new. P new)

    row_in : (row : Row) (o : Outcome) → IfGoes o (λ how new. P new) → ComesIn P (after_row p entry row c.state c.stack (writes_kept p row c.state) o)
    row_in row (Raises e) h = tt
    row_in row (Goes how new) h = going_in row c.state new h (writes_kept p row c.state) how c.stack

    by_row_in : (o : Option Row) → Leads o → ComesIn P (by_row p entry c choice o)
    by_row_in None h = tt
    by_row_in (Some row) h = row_in row (row.effect c.state choice) (h row refl)

    fetch_in : (b : Bool) → Leads (if b then p.machine.row (p.word c.state c.state.pc) else None) → ComesIn P (by_fetch b p entry c choice)
    fetch_in true h = by_row_in (p.machine.row (p.word c.state c.state.pc)) h
    fetch_in false h = tt

    asserts_in : (o : Option ℕ) → Leads (reached_by o p c.state) → ComesIn P (after_asserts o p entry c choice)
    asserts_in (Some line) h = tt
    asserts_in None h = fetch_in (fetchable p (p.word c.state c.state.pc) c.state.pc) h

    pub step_comes : ((row : Row) → reached_row p entry c.state ≡ Some row → IfGoes (row.effect c.state choice) (λ how new. P new)) →
        ComesIn P (step p entry c choice)
    step_comes h = asserts_in (false_assert p.machine.endian p.notes.asserts c.state entry) h
