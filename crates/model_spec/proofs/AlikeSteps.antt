-- A step over two memories that are the same where it reads comes to the same, but for memory.
use Rattle.std.proofs.Common.{◌≡◌, inl, ℕ, refl, ap, sym, ◌∙◌, subst, List, [], ◌∷◌, Option, Some, None, Bool, true, false}
use Rattle.std.specs.Prelude.{◌==◌, if◌then◌else◌}
use Rattle.std.specs.List.{list_any}
use Rattle.word_spec.specs.Words.{add}
use Rattle.word_spec.specs.Memory.{Endian, Memory}
use Rattle.word_spec.specs.State.{State, IsState}
use Rattle.machine_spec.specs.Machine.{Row, How, On, Direct, DirectCall, Indirect, IndirectCall, Outcome, Goes, Raises, addresses, is_place}
use Rattle.machine_spec.specs.MachineLaws.{IsLawful, LeavesState, with_memory, SameButMemory}
use Rattle.machine_spec.proofs.LoadedBytes.{loaded_small}
use Rattle.bilv_spec.specs.Elf.{is_kept}
use Rattle.bilv_spec.specs.Run.{Program, Place, Step, Stops, Arrives, Exits, false_line, false_assert, fetchable, is_named, allowed, exit_by, exit_or, return_or, leave, transfer, aligned_transfer, going_on, after_row, writes_kept, by_row, by_fetch, after_asserts, step}
use Rattle.bilv_spec.specs.Points.{file_row, file_word}
use Rattle.bilv_spec.specs.Questions.{by_file}
use Rattle.bilv_spec.specs.PointLaws.{HasLawfulRows}
use Rattle.model_spec.specs.Reads.{assert_reads, is_exit_step, exit_reads, outcome_reads, row_reads, fetched_reads, reads_after, step_reads}
use Rattle.model_spec.proofs.Alike.{Among, Agree, left_among, right_among, lines_same, asserts_same}

-- two places are the same but for memory
pub record Both (A : ℕ → Type 0) (c d : Place) : Type 0 where
  pub stack : c.stack ≡ d.stack
  pub mem : Memory
  pub state : d.state ≡ with_memory c.state mem
  pub agree : Agree A c.state.mem mem
  pub first : IsState c.state
  pub second : IsState (with_memory c.state mem)

-- two steps come to the same but for memory
abbrev pub StepBoth : (ℕ → Type 0) → Step → Step → Type 0
StepBoth A (Stops x) (Stops y) = x ≡ y
StepBoth A (Arrives c) (Arrives d) = Both A c d
StepBoth A (Exits x) (Exits y) = Both A (record { state = x; stack = [] }) (record { state = y; stack = [] })
StepBoth A x y = ⊥

module _ (A : ℕ → Type 0) (p : Program) (s0 : State) (m0 : Memory) (before : Agree A s0.mem m0) where
  abbrev q : Program
  q = by_file p

  abbrev t0 : State
  t0 = with_memory s0 m0

  abbrev E : Endian
  E = p.machine.endian

  module _ (row : Row) (s : State) (m : Memory) where
    abbrev t : State
    t = with_memory s m

    module _ (x : State) (n : Memory) (agree : Agree A x.mem n) (first : IsState x) (second : IsState (with_memory x n)) where
      abbrev y : State
      y = with_memory x n

      both : (stack : List ℕ) → Both A (record { state = x; stack = stack }) (record { state = y; stack = stack })
      both stack = record { stack = refl; mem = n; state = refl; agree = agree; first = first; second = second }

      allowed_both : (b : Bool) (stack : List ℕ) → StepBoth A (allowed b (record { state = x; stack = stack }))
          (allowed b (record { state = y; stack = stack }))
      allowed_both true stack = both stack
      allowed_both false stack = refl

      exit_both : (o : Option ℕ) → false_line E p.notes.ensures x s0 ≡ o → Among A (exit_reads (is_exit_step (exit_by o x)) q s0 x) →
          StepBoth A (exit_by o x) (exit_by (false_line E p.notes.ensures y t0) y)
      exit_both None g h =
          subst (λ z. StepBoth A (Exits x) (exit_by z y)) (sym g ∙ lines_same A E x s0 n m0 agree before p.notes.ensures h) (both [])
      exit_both (Some line) g h =
          subst (λ z. StepBoth A (exit_by (Some line) x) (exit_by z y)) (sym g ∙ lines_same A E x s0 n m0 agree before p.notes.ensures h) refl

      exit_or_both : (b named : Bool) → Among A (exit_reads (is_exit_step (exit_or b q s0 x named)) q s0 x) →
          StepBoth A (exit_or b q s0 x named) (exit_or b q t0 y named)
      exit_or_both true named h = exit_both (false_line E p.notes.ensures x s0) refl h
      exit_or_both false named h = allowed_both named []

      return_both : (b named : Bool) (top : ℕ) (below : List ℕ) → StepBoth A (return_or b top below x named) (return_or b top below y named)
      return_both true named top below = both below
      return_both false named top below = allowed_both named (top ∷ below)

      leave_both : (l : List ℕ) → Among A (exit_reads (is_exit_step (leave q s0 row s l x)) q s0 x) →
          StepBoth A (leave q s0 row s l x) (leave q t0 row t l y)
      leave_both [] h = exit_or_both (x.pc == s0.regs p.machine.link) (is_named q s row x.pc) h
      leave_both (top ∷ below) h = return_both (x.pc == top) (is_named q s row x.pc) top below

      transfer_both : (how : How) (l : List ℕ) → Among A (exit_reads (is_exit_step (transfer q s0 row s l how x)) q s0 x) →
          StepBoth A (transfer q s0 row s l how x) (transfer q t0 row t l how y)
      transfer_both On l h = both l
      transfer_both Direct l h = both l
      transfer_both DirectCall l h = both (add 32 s.pc row.length ∷ l)
      transfer_both Indirect l h = leave_both l h
      transfer_both IndirectCall l h = allowed_both (is_named q s row x.pc) (add 32 s.pc row.length ∷ l)

      aligned_both : (b : Bool) (how : How) (l : List ℕ) → Among A (exit_reads (is_exit_step (aligned_transfer b q s0 row s l how x)) q s0 x) →
          StepBoth A (aligned_transfer b q s0 row s l how x) (aligned_transfer b q t0 row t l how y)
      aligned_both true how l h = transfer_both how l h
      aligned_both false how l h = refl

      going_both : (b : Bool) (how : How) (l : List ℕ) → Among A (exit_reads (is_exit_step (going_on b q s0 row s l how x)) q s0 x) →
          StepBoth A (going_on b q s0 row s l how x) (going_on b q t0 row t l how y)
      going_both true how l h = refl
      going_both false how l h = aligned_both (is_place p.machine.narrow x.pc) how l h

    -- what the row comes to
    outcome_both : (o r : Outcome) (l : List ℕ) → SameButMemory s m (addresses (row.stored s)) o r → LeavesState o → LeavesState r → Agree A s.mem m →
        Among A (outcome_reads q s0 row (record { state = s; stack = l }) o) →
        StepBoth A (after_row q s0 row s l (writes_kept q row s) o) (after_row q t0 row t l (writes_kept q row s) r)
    outcome_both (Raises d) (Raises e) l same first second agree h =
        subst (λ z. StepBoth A (after_row q s0 row s l (writes_kept q row s) (Raises d)) (after_row q t0 row t l (writes_kept q row s) (Raises z))) same refl
    outcome_both (Goes how x) (Raises e) l same first second agree h = absurd same
    outcome_both (Raises d) (Goes how z) l same first second agree h = absurd same
    outcome_both (Goes how x) (Goes other z) l same first second agree h =
        let is : with_memory x z.mem ≡ z = λ i. record { pc = same.1 i; regs = same.2 i; flags = same.3 i; mem = z.mem } in
        let there : Agree A x.mem z.mem = λ a w k. same.4 a w (inl (agree a w k)) in
        let goes = going_both x z.mem there first (subst IsState (sym is) second) (writes_kept q row s) how l h in
        subst (λ (k : How). StepBoth A (going_on (writes_kept q row s) q s0 row s l how x) (going_on (writes_kept q row s) q t0 row t l k z)) same.0
        (subst (λ (k : State). StepBoth A (going_on (writes_kept q row s) q s0 row s l how x) (going_on (writes_kept q row s) q t0 row t l how k)) is goes)

  module _ (lawful : HasLawfulRows p) (s : State) (m : Memory) (l : List ℕ) (agree : Agree A s.mem m) (first : IsState s)
      (second : IsState (with_memory s m)) (choice other : ℕ)
      (drawn : (row : Row) → file_row p s.pc ≡ Some row → row.draws ≡ true → choice ≡ other) where
    abbrev c : Place
    c = record { state = s; stack = l }

    abbrev d : Place
    d = record { state = with_memory s m; stack = l }

    row_both : (o : Option Row) → file_row p s.pc ≡ o → Among A (row_reads o q s0 c choice) → StepBoth A (by_row q s0 c choice o) (by_row q t0 d other o)
    row_both None is h = refl
    row_both (Some row) is h = (
        let law : IsLawful row = lawful s.pc row is in
        let loads = left_among A (addresses (row.loaded s)) (outcome_reads q s0 row c (row.effect s choice)) h in
        let only = law.loads s m choice first second (λ a i. agree a (loaded_small (row.loaded s) a (law.loads_at s first) i) (loads a i)) in
        let chosen : row.effect (with_memory s m) choice ≡ row.effect (with_memory s m) other = by (row.draws) refl law in
        let came = outcome_both row s m (row.effect s choice) (row.effect (with_memory s m) choice) l only.2 (law.states s choice first)
        (law.states (with_memory s m) choice second) agree (right_among A (addresses (row.loaded s)) (outcome_reads q s0 row c (row.effect s choice)) h) in
        let written : writes_kept q row s ≡ writes_kept q row (with_memory s m) = ap (λ z. list_any (λ a. is_kept (p.loaded a)) (addresses z)) only.1 in
        subst (λ z. StepBoth A (after_row q s0 row s l (writes_kept q row s) (row.effect s choice)) (after_row q t0 row (with_memory s m) l
        (writes_kept q row (with_memory s m)) z)) chosen
        (subst (λ (b : Bool). StepBoth A (after_row q s0 row s l (writes_kept q row s) (row.effect s choice)) (after_row q t0 row (with_memory s m) l b
        (row.effect (with_memory s m) choice))) written came))
      where
        by : (b : Bool) → row.draws ≡ b → IsLawful row → row.effect (with_memory s m) choice ≡ row.effect (with_memory s m) other
        by true e law = ap (row.effect (with_memory s m)) (drawn row is e)
        by false e law = law.draws e (with_memory s m) choice other

    fetch_both : (b : Bool) → fetchable p (file_word p s.pc) s.pc ≡ b → Among A (fetched_reads b q s0 c choice) →
        StepBoth A (by_fetch b q s0 c choice) (by_fetch b q t0 d other)
    fetch_both true e h =
        row_both (p.machine.row (file_word p s.pc)) (ap (λ z. if z then p.machine.row (file_word p s.pc) else None) e) h
    fetch_both false e h = refl

    asserts_both : (o : Option ℕ) → Among A (reads_after o q s0 c choice) → StepBoth A (after_asserts o q s0 c choice) (after_asserts o q t0 d other)
    asserts_both (Some line) h = refl
    asserts_both None h = fetch_both (fetchable p (file_word p s.pc) s.pc) refl h

    -- the step
    pub step_both : Among A (step_reads q s0 c choice) → StepBoth A (step q s0 c choice) (step q t0 d other)
    step_both h =
        let asserts : List ℕ = assert_reads E p.notes.asserts s s0 in
        let after : List ℕ = reads_after (false_assert E p.notes.asserts s s0) q s0 c choice in
        subst (λ z. StepBoth A (step q s0 c choice) (after_asserts z q t0 d other))
        (asserts_same A E s s0 m m0 agree before p.notes.asserts (left_among A asserts after h))
        (asserts_both (false_assert E p.notes.asserts s s0) (right_among A asserts after h))
