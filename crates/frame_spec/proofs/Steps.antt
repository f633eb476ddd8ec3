-- What a step of the tables by which a run goes on has done, and the same step deeper in a stack.
use Rattle.std.proofs.Common.{◌≡◌, ◌⊎◌, inl, inr, ℕ, suc, ◌≤◌, ◌%◌, refl, ap, sym, ◌∙◌, subst, arith, List, [], ◌∷◌, length, Option, Some, None, Bool, true, false}
use Rattle.std.specs.Prelude.{Contains, ◌==◌, ◌&&◌, not, if◌then◌else◌}
use Rattle.word_spec.specs.Words as Words
use Rattle.word_spec.specs.Words.{add, sub}
use Rattle.word_spec.specs.Memory.{Endian, load}
use Rattle.word_spec.specs.State.{State}
use Rattle.machine_spec.specs.Machine.{unit, is_place, IsAtPlace, Row, How, On, Direct, DirectCall, Indirect, IndirectCall, Outcome, Goes, Raises}
use Rattle.machine_spec.specs.MachineLaws.{IsCall}
use Rattle.bilv_spec.specs.Notes as notes
use Rattle.bilv_spec.specs.Notes.{Expr, Number, Register, Flag, Pc, Bound, Memory, Old, Not, Binary, NoteLine, Assert, value, is_true}
use Rattle.bilv_spec.specs.Run.{Program, Place, Arrives, Exits, step, is_named, exit_by, exit_or, return_or, allowed, leave, called, transfer, aligned_transfer, going_on, after_row, by_row, by_fetch, after_asserts, false_assert, false_line, fetchable, writes_kept}
use Rattle.bilv_spec.specs.Points.{file_row, file_word}
use Rattle.bilv_spec.specs.Questions.{by_file}
use Rattle.bilv_spec.proofs.PointSteps.{same_number}
use Rattle.frame_spec.specs.Theorems.{IsOfNow}

-- how the stack changed by a step: a call pushed the address behind the row, it stayed, or its top was taken
abbrev pub IsStacked : Row → State → List ℕ → How → List ℕ → Type 0
IsStacked row old before how after =
    (IsCall how × (after ≡ add 32 old.pc row.length ∷ before)) ⊎ (after ≡ before) ⊎ ((top : ℕ) × (before ≡ top ∷ after))

-- where no call pushed, the stack did not grow
pub no_longer : (after before : List ℕ) → (after ≡ before) ⊎ ((top : ℕ) × (before ≡ top ∷ after)) → length after ≤ length before
no_longer after before (inl e) = let l : length after ≡ length before = ap length e in omega arith
no_longer after before (inr (top, e)) = let l : length before ≡ length (top ∷ after) = ap length e in omega arith

-- what was done by a step that arrives somewhere
pub record Came (p : Program) (c : Place) (choice : ℕ) (d : Place) : Type 0 where
  pub row : Row
  pub is_row : file_row p c.state.pc ≡ Some row
  pub how : How
  pub goes : row.effect c.state choice ≡ Goes how d.state
  pub clean : writes_kept p row c.state ≡ false
  pub aligned : IsAtPlace p.machine.narrow d.state.pc
  pub stacked : IsStacked row c.state c.stack how d.stack

module _ (p : Program) (entry : State) (row : Row) (old : State) (d : Place) where
  -- the state and the stack of where a jump comes to
  abbrev Lands : State → List ℕ → How → Type 0
  Lands new stack how = (d.state ≡ new) × IsStacked row old stack how d.stack

  allowed_lands : (b : Bool) (to : Place) → allowed b to ≡ Arrives d → to ≡ d
  allowed_lands true to h = cc
  allowed_lands false to h = absurd (cc)

  exit_never : (o : Option ℕ) (s : State) → exit_by o s ≡ Arrives d → ⊥
  exit_never None s h = cc
  exit_never (Some line) s h = cc

  no_growth : (l : List ℕ) (how : How) (new : State) (to : Place) → to ≡ d → to.state ≡ new → (to.stack ≡ l) ⊎ ((top : ℕ) × (l ≡ top ∷ to.stack)) →
      Lands new l how
  no_growth l how new to h s n = (ap (λ z. z.state) (sym h) ∙ s, inr (subst (λ (z : Place). (z.stack ≡ l) ⊎ ((top : ℕ) × (l ≡ top ∷ z.stack))) h n))

  exit_or_lands : (b n : Bool) (how : How) (new : State) → exit_or b p entry new n ≡ Arrives d → Lands new [] how
  exit_or_lands true n how new h = absurd (exit_never (false_line p.machine.endian p.notes.ensures new entry) new h)
  exit_or_lands false n how new h =
      no_growth [] how new (record { state = new; stack = [] }) (allowed_lands n (record { state = new; stack = [] }) h) refl (inl refl)

  return_lands : (b n : Bool) (how : How) (new : State) (top : ℕ) (below : List ℕ) → return_or b top below new n ≡ Arrives d → Lands new (top ∷ below) how
  return_lands true n how new top below h =
      no_growth (top ∷ below) how new (record { state = new; stack = below }) (cc) refl (inr (top, refl))
  return_lands false n how new top below h =
      no_growth (top ∷ below) how new (record { state = new; stack = top ∷ below })
      (allowed_lands n (record { state = new; stack = top ∷ below }) h) refl (inl refl)

  leave_lands : (stack : List ℕ) (how : How) (new : State) → leave p entry row old stack new ≡ Arrives d → Lands new stack how
  leave_lands [] how new h = exit_or_lands (new.pc == entry.regs p.machine.link) (is_named p old row new.pc) how new h
  leave_lands (top ∷ below) how new h = return_lands (new.pc == top) (is_named p old row new.pc) how new top below h

  call_lands : (stack : List ℕ) (how : How) (new : State) → IsCall how → called row old stack new ≡ d → Lands new stack how
  call_lands stack how new i h = (ap (λ z. z.state) (sym h), inl (i, ap (λ z. z.stack) (sym h)))

  transfer_lands : (stack : List ℕ) (how : How) (new : State) → transfer p entry row old stack how new ≡ Arrives d → Lands new stack how
  transfer_lands stack On new h = no_growth stack On new (record { state = new; stack = stack }) (cc) refl (inl refl)
  transfer_lands stack Direct new h = no_growth stack Direct new (record { state = new; stack = stack }) (cc) refl (inl refl)
  transfer_lands stack DirectCall new h = call_lands stack DirectCall new tt (cc)
  transfer_lands stack Indirect new h = leave_lands stack Indirect new h
  transfer_lands stack IndirectCall new h =
      call_lands stack IndirectCall new tt (allowed_lands (is_named p old row new.pc) (called row old stack new) h)

module _ (p : Program) (entry : State) (c : Place) (choice : ℕ) (d : Place) where
  abbrev q : Program
  q = by_file p

  aligned_came : (row : Row) (how : How) (new : State) (b : Bool) → is_place p.machine.narrow new.pc ≡ b → file_row p c.state.pc ≡ Some row →
      row.effect c.state choice ≡ Goes how new → writes_kept p row c.state ≡ false →
      aligned_transfer b q entry row c.state c.stack how new ≡ Arrives d → Came p c choice d
  aligned_came row how new true a is g w h =
      let l = transfer_lands q entry row c.state d c.stack how new h in
      record {
        row = row;
        is_row = is;
        how = how;
        goes = g ∙ ap (Goes how) (sym l.0);
        clean = w;
        aligned = subst (λ (z : State). IsAtPlace p.machine.narrow z.pc) (sym l.0) (same_number (new.pc % unit p.machine.narrow) 0 a);
        stacked = l.1;
      }
  aligned_came row how new false a is g w h = absurd (cc)

  going_came : (row : Row) (how : How) (new : State) (b : Bool) → writes_kept p row c.state ≡ b → file_row p c.state.pc ≡ Some row →
      row.effect c.state choice ≡ Goes how new → going_on b q entry row c.state c.stack how new ≡ Arrives d → Came p c choice d
  going_came row how new true w is g h = absurd (cc)
  going_came row how new false w is g h = aligned_came row how new (is_place p.machine.narrow new.pc) refl is g w h

  row_came : (row : Row) (o : Outcome) → file_row p c.state.pc ≡ Some row → row.effect c.state choice ≡ o →
      after_row q entry row c.state c.stack (writes_kept p row c.state) o ≡ Arrives d → Came p c choice d
  row_came row (Raises e) is g h = absurd (cc)
  row_came row (Goes how new) is g h = going_came row how new (writes_kept p row c.state) refl is g h

  by_row_came : (o : Option Row) → file_row p c.state.pc ≡ o → by_row q entry c choice o ≡ Arrives d → Came p c choice d
  by_row_came None is h = absurd (cc)
  by_row_came (Some row) is h = row_came row (row.effect c.state choice) is refl h

  fetch_came : (b : Bool) → fetchable p (file_word p c.state.pc) c.state.pc ≡ b → by_fetch b q entry c choice ≡ Arrives d → Came p c choice d
  fetch_came false e h = absurd (cc)
  fetch_came true e h =
      by_row_came (p.machine.row (file_word p c.state.pc)) (ap (λ z. if z then p.machine.row (file_word p c.state.pc) else None) e) h

  asserts_came : (o : Option ℕ) → after_asserts o q entry c choice ≡ Arrives d → Came p c choice d
  asserts_came (Some line) h = absurd (cc)
  asserts_came None h = fetch_came (fetchable p (file_word p c.state.pc) c.state.pc) refl h

  -- what a step did that arrives
  pub came : step (by_file p) entry c choice ≡ Arrives d → Came p c choice d
  came h = asserts_came (false_assert p.machine.endian p.notes.asserts c.state entry) h

-- a step that exits goes to the link value of the state at entry
module _ (p : Program) (entry : State) (c : Place) (choice : ℕ) (s : State) where
  abbrev link_value : ℕ
  link_value = entry.regs p.machine.link

  exit_is : (o : Option ℕ) (new : State) → exit_by o new ≡ Exits s → new ≡ s
  exit_is None new h = cc
  exit_is (Some line) new h = absurd (cc)

  allowed_not : (b : Bool) (to : Place) → allowed b to ≡ Exits s → ⊥
  allowed_not true to h = cc
  allowed_not false to h = cc

  exit_or_pc : (b n : Bool) (new : State) → (new.pc == link_value) ≡ b → exit_or b p entry new n ≡ Exits s → s.pc ≡ link_value
  exit_or_pc true n new e h =
      subst (λ (z : State). z.pc ≡ link_value) (exit_is (false_line p.machine.endian p.notes.ensures new entry) new h) (same_number new.pc link_value e)
  exit_or_pc false n new e h = absurd (allowed_not n (record { state = new; stack = [] }) h)

  return_not : (b n : Bool) (new : State) (top : ℕ) (below : List ℕ) → return_or b top below new n ≡ Exits s → ⊥
  return_not true n new top below h = cc
  return_not false n new top below h = allowed_not n (record { state = new; stack = top ∷ below }) h

  leave_pc : (row : Row) (stack : List ℕ) (new : State) → leave p entry row c.state stack new ≡ Exits s → s.pc ≡ link_value
  leave_pc row [] new h = exit_or_pc (new.pc == link_value) (is_named p c.state row new.pc) new refl h
  leave_pc row (top ∷ below) new h = absurd (return_not (new.pc == top) (is_named p c.state row new.pc) new top below h)

  transfer_pc : (row : Row) (how : How) (new : State) → transfer p entry row c.state c.stack how new ≡ Exits s → s.pc ≡ link_value
  transfer_pc row On new h = absurd (cc)
  transfer_pc row Direct new h = absurd (cc)
  transfer_pc row DirectCall new h = absurd (cc)
  transfer_pc row Indirect new h = leave_pc row c.stack new h
  transfer_pc row IndirectCall new h = absurd (allowed_not (is_named p c.state row new.pc) (called row c.state c.stack new) h)

  aligned_pc : (b : Bool) (row : Row) (how : How) (new : State) → aligned_transfer b p entry row c.state c.stack how new ≡ Exits s → s.pc ≡ link_value
  aligned_pc true row how new h = transfer_pc row how new h
  aligned_pc false row how new h = absurd (cc)

  going_pc : (b : Bool) (row : Row) (how : How) (new : State) → going_on b p entry row c.state c.stack how new ≡ Exits s → s.pc ≡ link_value
  going_pc true row how new h = absurd (cc)
  going_pc false row how new h = aligned_pc (is_place p.machine.narrow new.pc) row how new h

  row_pc : (row : Row) (b : Bool) (o : Outcome) → after_row p entry row c.state c.stack b o ≡ Exits s → s.pc ≡ link_value
  row_pc row b (Raises x) h = absurd (cc)
  row_pc row b (Goes how new) h = going_pc b row how new h

  by_row_pc : (o : Option Row) → by_row p entry c choice o ≡ Exits s → s.pc ≡ link_value
  by_row_pc None h = absurd (cc)
  by_row_pc (Some row) h = row_pc row (writes_kept p row c.state) (row.effect c.state choice) h

  fetch_pc : (b : Bool) → by_fetch b p entry c choice ≡ Exits s → s.pc ≡ link_value
  fetch_pc true h = by_row_pc (p.machine.row (p.word c.state c.state.pc)) h
  fetch_pc false h = absurd (cc)

  asserts_pc : (o : Option ℕ) → after_asserts o p entry c choice ≡ Exits s → s.pc ≡ link_value
  asserts_pc (Some line) h = absurd (cc)
  asserts_pc None h = fetch_pc (fetchable p (p.word c.state c.state.pc) c.state.pc) h

  pub exit_pc : step p entry c choice ≡ Exits s → s.pc ≡ link_value
  exit_pc h = asserts_pc (false_assert p.machine.endian p.notes.asserts c.state entry) h

-- an expression without old values has one value for every state at entry
module _ (e : Endian) (now one other : State) where
  pub value_of_now : (x : Expr) → IsOfNow x → value e x now one ≡ value e x now other
  value_of_now (Number n) h = refl
  value_of_now (Register r) h = refl
  value_of_now (Flag f) h = refl
  value_of_now Pc h = refl
  value_of_now Bound h = refl
  value_of_now (Memory n a) h = ap (load e n now.mem) (value_of_now a h)
  value_of_now (Old a) h = absurd h
  value_of_now (Not a) h = ap (λ z. Words.bit (not (is_true z))) (value_of_now a h)
  value_of_now (Binary op a b) h =
      ap (λ z. notes.apply op z (value e b now one)) (value_of_now a h.0) ∙ ap (notes.apply op (value e a now other)) (value_of_now b h.1)

  pub asserts_of_now : (l : List Assert) → ((a : Assert) → Contains l a → IsOfNow a.says) → false_assert e l now one ≡ false_assert e l now other
  asserts_of_now [] h = refl
  asserts_of_now (a ∷ l) h =
      ap (λ z. if (a.at == now.pc) && not (is_true z) then Some a.line else false_assert e l now one) (value_of_now a.says (h a (0, omega arith, refl)))
      ∙ ap (λ z. if (a.at == now.pc) && not (is_true (value e a.says now other)) then Some a.line else z)
      (asserts_of_now l (λ x i. h x (suc i.0, (let y = i.1 in omega arith), i.2)))
