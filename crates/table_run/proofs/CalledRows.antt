-- The step of a row in a frame that steps over contracts.
use Rattle.std.proofs.Common.{◌≡◌, ℕ, ◌≤◌, List, [], ◌∷◌, length, Bool, true, false, Option, Some, None, refl, sym, ap, ◌∙◌, subst, arith}
use Rattle.std.specs.Prelude.{◌==◌, ◌&&◌, is_some, nat_lt, if◌then◌else◌}
use Rattle.std.proofs.lemmas.Bool.Decides.{nat_tests}
use Rattle.word_spec.specs.State.{State}
use Rattle.machine_spec.specs.Machine.{Row, How, On, Direct, DirectCall, Indirect, IndirectCall, Outcome, Goes, Raises, is_place}
use Rattle.machine_spec.specs.Endings.{Event, AssertFails, FetchFails, NoRow, HalfwordFails, CodeWritten, Trapped, AlignFails, JumpFails, EnsureFails}
use Rattle.bilv_spec.specs.Notes.{NoteLine, FixedRange}
use Rattle.bilv_spec.specs.Run.{Program, Place, Step, Stops, Arrives, Exits, false_line, false_assert, fetchable, is_named, exit_by, exit, exit_or, leave, transfer, aligned_transfer, going_on, after_row, writes_kept, by_row, by_fetch, after_asserts, step, row_at}
use Rattle.frame_spec.specs.Frames.{Contract, Frame, OfStep, WritesFails, GivesFails, ModifiesFails, contract_at, event_of, has_changed, is_outside, stored_by_row}
use Rattle.frame_spec.specs.FrameRuns.{FrameStep, Halts, GoesTo, Reaches, Calls, Leaves, frame_step, given_by, is_contract_call, lands, leaves_by, links_by, settles, unless_outside}
use Rattle.table_run.specs.Traces.{unjudged}
use Rattle.table_run.specs.declared.ending.CalledStepEnd.{CalledStepEnd}
use Rattle.table_run.specs.declared.ending.CalledStepEnd.TheVariants as end
use Rattle.table_run.specs.CalledFrames.{IsCalled, IsLeft, IsRowEnd, called_frame, landed, program_in}
use Rattle.table_run.proofs.ContractSteps.{no_head}
use Rattle.table_run.proofs.Unjudged.{judged, step_judged}

-- ---- what a row does hangs neither on the address of the function, nor on what is judged at the entry, nor on bytes that stay

module _ (p : Program) (at : ℕ) (requires : List NoteLine) (fixed : List FixedRange) (entry : State) where
  abbrev u : Program
  u = unjudged p

  abbrev q : Program
  q = record p { entry = at; notes = record p.notes { requires = requires; ensures = []; fixed = fixed } }

  leave_as : (row : Row) (old new : State) (stack : List ℕ) → leave u entry row old stack new ≡ leave q entry row old stack new
  leave_as row old new [] = by (new.pc == entry.regs p.machine.link)
    where
      by : (b : Bool) → exit_or b u entry new (is_named u old row new.pc) ≡ exit_or b q entry new (is_named q old row new.pc)
      by true = refl
      by false = refl
  leave_as row old new (top ∷ below) = refl

  transfer_as : (row : Row) (old new : State) (stack : List ℕ) (how : How) → transfer u entry row old stack how new ≡ transfer q entry row old stack how new
  transfer_as row old new stack On = refl
  transfer_as row old new stack Direct = refl
  transfer_as row old new stack DirectCall = refl
  transfer_as row old new stack Indirect = leave_as row old new stack
  transfer_as row old new stack IndirectCall = refl

  going_as : (row : Row) (old new : State) (stack : List ℕ) (how : How) (kept placed : Bool) →
      (if kept then going_on true u entry row old stack how new else aligned_transfer placed u entry row old stack how new)
      ≡ (if kept then going_on true q entry row old stack how new else aligned_transfer placed q entry row old stack how new)
  going_as row old new stack how true placed = refl
  going_as row old new stack how false true = transfer_as row old new stack how
  going_as row old new stack how false false = refl

  outcome_as : (row : Row) (old : State) (stack : List ℕ) (kept : Bool) (o : Outcome) →
      after_row u entry row old stack kept o ≡ after_row q entry row old stack kept o
  outcome_as row old stack kept (Raises e) = refl
  outcome_as row old stack true (Goes how new) = refl
  outcome_as row old stack false (Goes how new) = going_as row old new stack how false (is_place p.machine.narrow new.pc)

  module _ (c : Place) (choice : ℕ) where
    row_as : (o : Option Row) → by_row u entry c choice o ≡ by_row q entry c choice o
    row_as None = refl
    row_as (Some row) = outcome_as row c.state c.stack (writes_kept p row c.state) (row.effect c.state choice)

    fetch_as : (b : Bool) → by_fetch b u entry c choice ≡ by_fetch b q entry c choice
    fetch_as true = row_as (p.machine.row (p.word c.state c.state.pc))
    fetch_as false = refl

    asserts_as : (o : Option ℕ) → after_asserts o u entry c choice ≡ after_asserts o q entry c choice
    asserts_as None = fetch_as (fetchable p (p.word c.state c.state.pc) c.state.pc)
    asserts_as (Some line) = refl

    pub step_as : step u entry c choice ≡ step q entry c choice
    step_as = asserts_as (false_assert p.machine.endian p.notes.asserts c.state entry)

-- ---- the step of a row

module _ (p : Program) (stepped : List Contract) (own : Option Contract) (entry : State) (c : Place) (choice : ℕ) where
  abbrev f : Frame
  f = called_frame p stepped own

  abbrev row : Option Row
  row = row_at p (p.word c.state) c.state.pc

  walked : (x : Step) → step (unjudged p) entry c choice ≡ x → step f.program entry c choice ≡ judged f.program entry x
  walked x is =
      step_judged f.program entry c choice
      ∙ ap (judged f.program entry) (sym (step_as p f.program.entry f.program.notes.requires f.program.notes.fixed entry c choice) ∙ is)

  module _ (outside : Bool) (ahead : outside ≡ is_outside own p.machine.endian entry (stored_by_row row c.state)) where
    made : (x : Step) → step (unjudged p) entry c choice ≡ x → frame_step f entry c choice ≡ unless_outside outside f entry c (judged f.program entry x)
    made x is = ap (λ b. unless_outside b f entry c (step f.program entry c choice)) (sym ahead) ∙ ap (unless_outside outside f entry c) (walked x is)

    pub row_stops : (e : Event) → step (unjudged p) entry c choice ≡ Stops e → frame_step f entry c choice ≡ unless_outside outside f entry c (Stops e)
    row_stops e is = made (Stops e) is

    -- where it goes on
    module _ (d : Place) (is : step (unjudged p) entry c choice ≡ Arrives d) where
      abbrev called : Bool
      called = is_some (contract_at stepped d.state.pc) && nat_lt (length c.stack) (length d.stack) && links_by row

      lands_there : lands f c d ≡ (if called then Calls d else GoesTo d)
      lands_there = ap (λ b. if b then Reaches d else if is_contract_call f c d then Calls d else GoesTo d) (no_head p stepped own d.state.pc)

      pub row_lands : frame_step f entry c choice ≡ (if outside then Halts WritesFails else if called then Calls d else GoesTo d)
      row_lands = made (Arrives d) is ∙ by outside
        where
          by : (b : Bool) → unless_outside b f entry c (Arrives d) ≡ (if b then Halts WritesFails else if called then Calls d else GoesTo d)
          by true = refl
          by false = lands_there

    -- or exits
    pub row_leaves : (s : State) → step (unjudged p) entry c choice ≡ Exits s →
        frame_step f entry c choice ≡ (if outside then Halts WritesFails else settles f entry c (exit f.program entry s))
    row_leaves s is = made (Exits s) is ∙ by outside (false_line f.program.machine.endian f.program.notes.ensures s entry)
      where
        by : (b : Bool) (o : Option ℕ) → unless_outside b f entry c (exit_by o s) ≡ (if b then Halts WritesFails else settles f entry c (exit_by o s))
        by true None = refl
        by true (Some line) = refl
        by false o = refl

-- ---- what the code answers

pub row_landed : (outside called : Bool) (d : Place) (x : FrameStep) → x ≡ (if outside then Halts WritesFails else if called then Calls d else GoesTo d) →
    (end : CalledStepEnd) → end ≡ landed outside called → IsRowEnd end d.state d.stack x
row_landed true b d x is end same = subst (λ e. IsRowEnd e d.state d.stack x) (sym same) is
row_landed false true d x is end same = subst (λ e. IsRowEnd e d.state d.stack x) (sym same) is
row_landed false false d x is end same = subst (λ e. IsRowEnd e d.state d.stack x) (sym same) is

pub called_landed : (outside called : Bool) (end : CalledStepEnd) → end ≡ landed outside called → IsCalled end → called ≡ true
called_landed true b end same yes_called = absurd (subst IsCalled same yes_called)
called_landed false true end same yes_called = refl
called_landed false false end same yes_called = absurd (subst IsCalled same yes_called)

pub row_left : (e : CalledStepEnd) (state : State) (stack : List ℕ) (x : FrameStep) → IsLeft e x → IsRowEnd e state stack x
row_left (end.Halts e) state stack x left = left
row_left end.Leaves state stack x left = left
row_left end.GoesTo state stack x left = absurd left
row_left end.Calls state stack x left = absurd left
row_left (end.Breaks line) state stack x left = absurd left
row_left end.NoCall state stack x left = absurd left

pub not_called : (e : CalledStepEnd) (x : FrameStep) → IsLeft e x → IsCalled e → ⊥
not_called (end.Halts e) x left is = is
not_called end.Leaves x left is = is
not_called end.GoesTo x left is = left
not_called end.Calls x left is = left
not_called (end.Breaks line) x left is = left
not_called end.NoCall x left is = left

pub both_true : (a b c : Bool) → (a && b && c) ≡ true → (a ≡ true) × (b ≡ true)
both_true true true c is = (refl, refl)
both_true true false c is = absurd (let no_such : false ≡ true = is in cc)
both_true false b c is = absurd (let no_such : false ≡ true = is in cc)

pub some_deeper : (a b : ℕ) → nat_lt a b ≡ true → 1 ≤ b
some_deeper a b is = grind (arith, nat_tests)

-- ---- exits

pub leave_entry_is : (p : Program) (stepped : List Contract) (own : Option Contract) (entry s : State) (c : Place) (r : CalledStepEnd) → own ≡ None →
    IsLeft r (settles (called_frame p stepped None) entry c (exit p entry s)) →
    IsLeft r (settles (called_frame p stepped own) entry c (exit (program_in p own) entry s))
leave_entry_is p stepped own entry s c r none left =
    subst (λ o. IsLeft r (settles (called_frame p stepped o) entry c (exit (program_in p o) entry s))) (sym none) left

pub leave_own_is : (p : Program) (stepped : List Contract) (own : Option Contract) (x : Contract) (entry s : State) (c : Place) (r : CalledStepEnd) →
    own ≡ Some x →
    IsLeft r (leaves_by (Some x) (called_frame p stepped own) entry s) →
    IsLeft r (settles (called_frame p stepped own) entry c (exit (program_in p own) entry s))
leave_own_is p stepped own x entry s c r some left =
    subst (λ o. IsLeft r (leaves_by (Some x) (called_frame p stepped o) entry s) →
    IsLeft r (settles (called_frame p stepped o) entry c (exit (program_in p o) entry s)))
    (sym some) (λ l. l) left

-- judged by what the contract gives and by what it may change
pub leave_gives : (x : Contract) (f : Frame) (entry s : State) (line : ℕ) → Some line ≡ false_line f.program.machine.endian x.gives s entry →
    leaves_by (Some x) f entry s ≡ Halts (GivesFails line)
leave_gives x f entry s line is = ap (λ (o : Option ℕ). given_by o (has_changed f x entry s) s) (sym is)

module _ (x : Contract) (f : Frame) (entry s : State) (gives : None ≡ false_line f.program.machine.endian x.gives s entry) where
  pub leave_modifies : true ≡ has_changed f x entry s → leaves_by (Some x) f entry s ≡ Halts ModifiesFails
  leave_modifies changed = ap (λ (o : Option ℕ). given_by o (has_changed f x entry s) s) (sym gives) ∙ ap (λ b. given_by None b s) (sym changed)

  pub leave_leaves : false ≡ has_changed f x entry s → leaves_by (Some x) f entry s ≡ Leaves s
  leave_leaves same = ap (λ (o : Option ℕ). given_by o (has_changed f x entry s) s) (sym gives) ∙ ap (λ b. given_by None b s) (sym same)

-- judged by the ensure lines
pub exit_stops : (p : Program) (stepped : List Contract) (entry s : State) (c : Place) (e : Event) (x : Step) → x ≡ Stops e →
    OfStep e ≡ event_of (called_frame p stepped None) e →
    settles (called_frame p stepped None) entry c x ≡ Halts (OfStep e)
exit_stops p stepped entry s c e x is same = ap (settles (called_frame p stepped None) entry c) is ∙ ap Halts (sym same)

pub event_same : (p : Program) (stepped : List Contract) (own : Option Contract) (e : Event) → OfStep e ≡ event_of (called_frame p stepped own) e
event_same p stepped own (AssertFails line) = refl
event_same p stepped own FetchFails = refl
event_same p stepped own NoRow = refl
event_same p stepped own HalfwordFails = refl
event_same p stepped own CodeWritten = refl
event_same p stepped own Trapped = refl
event_same p stepped own AlignFails = refl
event_same p stepped own JumpFails = refl
event_same p stepped own (EnsureFails line) = refl

pub exit_arrives : (p : Program) (entry s : State) (d : Place) → exit p entry s ≡ Arrives d → ⊥
exit_arrives p entry s d is = by (false_line p.machine.endian p.notes.ensures s entry) is
  where
    by : (o : Option ℕ) → exit_by o s ≡ Arrives d → ⊥
    by None is = absurd (cc)
    by (Some line) is = absurd (cc)
