-- A step of a contract's frame is the step of the tables with the return address and what is below it under the frame's stack.
use Rattle.std.proofs.Common.{◌≡◌, ℕ, refl, ap, sym, ◌∙◌, List, [], ◌∷◌, ◌++◌, Option, Some, None, Bool, true, false}
use Rattle.std.specs.Prelude.{Contains, ◌==◌}
use Rattle.std.proofs.lemmas.List.{append-nil}
use Rattle.word_spec.specs.Words as Words
use Rattle.word_spec.specs.State.{State}
use Rattle.machine_spec.specs.Machine.{is_place, Row, How, On, Direct, DirectCall, Indirect, IndirectCall, Outcome, Goes, Raises}
use Rattle.bilv_spec.specs.Notes.{NoteLine, Assert}
use Rattle.bilv_spec.specs.Run.{Program, Place, Step, Stops, Arrives, Exits, step, is_named, exit_or, return_or, allowed, leave, transfer, aligned_transfer, going_on, after_row, by_row, by_fetch, after_asserts, false_assert, fetchable, writes_kept}
use Rattle.frame_spec.specs.Theorems.{IsOfNow}
use Rattle.frame_spec.proofs.Steps.{asserts_of_now}

-- the place with more below its stack
abbrev pub lift : List ℕ → Place → Place
lift base c = record { state = c.state; stack = c.stack ++ base }

-- the step with more below its stack: an exit is the return
abbrev pub deepen : List ℕ → Step → Step
deepen base (Stops e) = Stops e
deepen base (Arrives d) = Arrives (lift base d)
deepen [] (Exits s) = Exits s
deepen (to ∷ below) (Exits s) = Arrives (record { state = s; stack = below })

-- the program of a contract's frame
abbrev pub program_at : Program → (at : ℕ) → List NoteLine → Program
program_at p at needs = record p { entry = at; notes = record p.notes { requires = needs; ensures = []; fixed = [] } }

module _ (p : Program) (at : ℕ) (needs : List NoteLine) (t e : State) (to : ℕ) (below : List ℕ) (link : t.regs p.machine.link ≡ to)
    (of_now : (a : Assert) → Contains p.notes.asserts a → IsOfNow a.says) where
  abbrev q : Program
  q = program_at p at needs

  abbrev base : List ℕ
  base = to ∷ below

  abbrev t_of : Step → Step
  t_of = deepen base

  module _ (row : Row) (old new : State) where
    allowed_deep : (b : Bool) (l : List ℕ) → allowed b (record { state = new; stack = l ++ base }) ≡ t_of (allowed b (record { state = new; stack = l }))
    allowed_deep true l = refl
    allowed_deep false l = refl

    exit_deep : (b n : Bool) → return_or b to below new n ≡ t_of (exit_or b q t new n)
    exit_deep true n = refl
    exit_deep false n = allowed_deep n []

    return_deep : (b n : Bool) (top : ℕ) (l : List ℕ) → return_or b top (l ++ base) new n ≡ t_of (return_or b top l new n)
    return_deep true n top l = refl
    return_deep false n top l = allowed_deep n (top ∷ l)

    leave_deep : (l : List ℕ) → leave p e row old (l ++ base) new ≡ t_of (leave q t row old l new)
    leave_deep [] =
        ap (λ z. return_or (new.pc == z) to below new (is_named p old row new.pc)) (sym link)
        ∙ exit_deep (new.pc == t.regs p.machine.link) (is_named p old row new.pc)
    leave_deep (top ∷ l) = return_deep (new.pc == top) (is_named p old row new.pc) top l

    transfer_deep : (how : How) (l : List ℕ) → transfer p e row old (l ++ base) how new ≡ t_of (transfer q t row old l how new)
    transfer_deep On l = refl
    transfer_deep Direct l = refl
    transfer_deep DirectCall l = refl
    transfer_deep Indirect l = leave_deep l
    transfer_deep IndirectCall l = allowed_deep (is_named p old row new.pc) (Words.add 32 old.pc row.length ∷ l)

    aligned_deep : (b : Bool) (how : How) (l : List ℕ) →
        aligned_transfer b p e row old (l ++ base) how new ≡ t_of (aligned_transfer b q t row old l how new)
    aligned_deep true how l = transfer_deep how l
    aligned_deep false how l = refl

    going_deep : (b : Bool) (how : How) (l : List ℕ) → going_on b p e row old (l ++ base) how new ≡ t_of (going_on b q t row old l how new)
    going_deep true how l = refl
    going_deep false how l = aligned_deep (is_place p.machine.narrow new.pc) how l

  outcome_deep : (row : Row) (old : State) (l : List ℕ) (w : Bool) (o : Outcome) → after_row p e row old (l ++ base) w o ≡ t_of (after_row q t row old l w o)
  outcome_deep row old l w (Raises x) = refl
  outcome_deep row old l w (Goes how new) = going_deep row old new w how l

  module _ (s : State) (l : List ℕ) (choice : ℕ) where
    row_deep : (o : Option Row) → by_row p e (record { state = s; stack = l ++ base }) choice o ≡ t_of (by_row q t (record { state = s; stack = l }) choice o)
    row_deep None = refl
    row_deep (Some row) = outcome_deep row s l (writes_kept p row s) (row.effect s choice)

    fetch_deep : (b : Bool) → by_fetch b p e (record { state = s; stack = l ++ base }) choice ≡ t_of (by_fetch b q t (record { state = s; stack = l }) choice)
    fetch_deep true = row_deep (p.machine.row (p.word s s.pc))
    fetch_deep false = refl

    after_deep : (o : Option ℕ) →
        after_asserts o p e (record { state = s; stack = l ++ base }) choice ≡ t_of (after_asserts o q t (record { state = s; stack = l }) choice)
    after_deep (Some line) = refl
    after_deep None = fetch_deep (fetchable p (p.word s s.pc) s.pc)

    step_deep : step p e (record { state = s; stack = l ++ base }) choice ≡ t_of (step q t (record { state = s; stack = l }) choice)
    step_deep =
        ap (λ z. after_asserts z p e (record { state = s; stack = l ++ base }) choice) (asserts_of_now p.machine.endian s e t p.notes.asserts of_now)
        ∙ after_deep (false_assert p.machine.endian p.notes.asserts s t)

  pub deeper : (c : Place) (choice : ℕ) → step p e (lift base c) choice ≡ deepen base (step q t c choice)
  deeper c choice = step_deep c.state c.stack choice

-- with nothing below, it is the same step
pub same_depth : (p : Program) (e : State) (c : Place) (choice : ℕ) → step p e (lift [] c) choice ≡ deepen [] (step p e c choice)
same_depth p e c choice = ap (λ z. step p e (record { state = c.state; stack = z }) choice) (append-nil c.stack) ∙ same (step p e c choice)
  where
    same : (s : Step) → s ≡ deepen [] s
    same (Stops x) = refl
    same (Exits x) = refl
    same (Arrives d) = ap (λ z. Arrives (record { state = d.state; stack = z })) (sym (append-nil d.stack))
