-- A step over a memory that is filled, and the step of the model's run.
use Rattle.std.proofs.Common.{◌≡◌, ℕ, ◌<◌, ◌^◌, refl, ap, sym, ◌∙◌, subst, List, [], ◌++◌, Option, Some, None, true, false}
use Rattle.std.specs.Prelude.{Contains, ◌||◌, ◌&&◌, is_some}
use Rattle.std.specs.BTreeSet.{BTreeSet, contains}
use Rattle.std.specs.Ordering.{nat_cmp}
use Rattle.std.proofs.lemmas.List.{append-nil}
use Rattle.word_spec.specs.Memory.{Endian}
use Rattle.word_spec.specs.State.{State, IsState}
use Rattle.machine_spec.specs.Machine.{Row, Outcome, Goes, Raises, addresses}
use Rattle.machine_spec.specs.MachineLaws.{IsLawful, IfGoes, with_memory}
use Rattle.machine_spec.proofs.LoadedBytes.{loaded_small}
use Rattle.bilv_spec.specs.Elf.{Cell, kept, is_kept}
use Rattle.bilv_spec.specs.Verdict.{fixed}
use Rattle.bilv_spec.specs.Run.{Program, Place, Step, Stops, Arrives, Exits, false_line, false_assert, exit, exit_by, step}
use Rattle.bilv_spec.specs.Points.{file_row, is_known_at}
use Rattle.bilv_spec.specs.Questions.{by_file}
use Rattle.bilv_spec.specs.PointLaws.{HasLawfulRows, ReadsMemory}
use Rattle.bilv_spec.proofs.FileWords.{Agrees, every, ArrivesIn, Sound, row_same, step_same, step_in}
use Rattle.model_spec.specs.Reads.{line_reads, assert_reads, step_reads}
use Rattle.model_spec.proofs.Alike.{Among, Agree, left_among, right_among, lines_same, asserts_same}
use Rattle.model_spec.proofs.AlikeSteps.{Both, StepBoth, step_both}
use Rattle.state_text.specs.Starts.{event_of}
use Rattle.table_run.specs.declared.ending.StepEnd.{StepEnd}
use Rattle.table_run.specs.declared.ending.StepEnd.TheVariants as end
use Rattle.table_run.specs.Steps.{IsStepEnd}
use Rattle.table_run.specs.Traces.{unjudged, reached_by, reached_row, row_loads, row_stores, early_reads, is_met, AreMet, IsFilled, IsRunAt, IsTracedEnd}
use Rattle.table_run.proofs.ReadsAlike.{lines_alike, asserts_alike}
use Rattle.table_run.proofs.Unjudged.{judged, end_reads, step_judged, step_read, ComesIn, step_comes}

-- a known byte is met
known_met : (p : Program) (met : BTreeSet ℕ) (a : ℕ) → is_known_at p a ≡ true → is_met p met a ≡ true
known_met p met a h = ap (λ b. b || contains nat_cmp met a) h

-- and a kept one is known
kept_known : (p : Program) (a : ℕ) (cell : Cell) → p.loaded a ≡ Some cell → kept cell ≡ true → is_known_at p a ≡ true
kept_known p a cell e k = ap (λ o. is_kept o || (is_some o && fixed p.notes.fixed a)) e ∙ ap (λ b. b || (true && fixed p.notes.fixed a)) k

goes_to : (o : Outcome) (P Q : State → Type 0) → ((s : State) → P s → Q s) → IfGoes o (λ how new. P new) → IfGoes o (λ how new. Q new)
goes_to (Goes how new) P Q f h = f new h
goes_to (Raises e) P Q f h = tt

-- a row is reached only where no assert line is false
reached_none : (p : Program) (s : State) (o : Option ℕ) (row : Row) → reached_by o (by_file p) s ≡ Some row → file_row p s.pc ≡ Some row
reached_none p s None row h = h
reached_none p s (Some line) row h = absurd (cc)

-- the ensure lines have no part in it
reached_unjudged : (p : Program) (s : State) (o : Option ℕ) → reached_by o (by_file (unjudged p)) s ≡ reached_by o (by_file p) s
reached_unjudged p s None = refl
reached_unjudged p s (Some line) = refl

-- the code's states that are those of the other run but for their memories
pub record IsLike (p : Program) (begun : State) (met : BTreeSet ℕ) (entry now s : State) : Type 0 where
  pub entry_is : entry ≡ with_memory begun entry.mem
  pub now_is : now ≡ with_memory s now.mem
  pub filled : IsFilled p begun.mem met entry.mem now.mem s.mem

pub like : (p : Program) (begun : State) (met : BTreeSet ℕ) (entry now : State) (stack : List ℕ) (c : Place) → IsRunAt p begun met entry now stack c →
    IsLike p begun met entry now c.state
like p begun met entry now stack c at = record { entry_is = at.entry_is; now_is = at.now_is; filled = at.filled }

module _ (p : Program) (begun : State) (met : BTreeSet ℕ) (entry now s : State) (is : IsLike p begun met entry now s) where
  abbrev E : Endian
  E = p.machine.endian

  abbrev A : ℕ → Type 0
  A a = is_met p met a ≡ true

  agree : Agree A now.mem s.mem
  agree a l h = sym (is.filled.now_same a l h)

  before : Agree A entry.mem begun.mem
  before a l h = sym (is.filled.entry_same a l h)

  now_back : with_memory now s.mem ≡ s
  now_back = ap (λ (z : State). with_memory z s.mem) is.now_is

  entry_back : with_memory entry begun.mem ≡ begun
  entry_back = ap (λ (z : State). with_memory z begun.mem) is.entry_is

  back : {X : Type 0} (f : State → State → X) → f (with_memory now s.mem) (with_memory entry begun.mem) ≡ f s begun
  back f = ap (λ z. f z (with_memory entry begun.mem)) now_back ∙ ap (f s) entry_back

  -- lines read the same
  lines_read : AreMet p met (line_reads E p.notes.ensures now entry) → line_reads E p.notes.ensures now entry ≡ line_reads E p.notes.ensures s begun
  lines_read h = lines_alike A E now entry s.mem begun.mem agree before p.notes.ensures h ∙ back (line_reads E p.notes.ensures)

  pub required_read : AreMet p met (line_reads E p.notes.requires now entry) → line_reads E p.notes.requires now entry ≡ line_reads E p.notes.requires s begun
  required_read h = lines_alike A E now entry s.mem begun.mem agree before p.notes.requires h ∙ back (line_reads E p.notes.requires)

  lines_judged : AreMet p met (line_reads E p.notes.ensures now entry) → false_line E p.notes.ensures now entry ≡ false_line E p.notes.ensures s begun
  lines_judged h = lines_same A E now entry s.mem begun.mem agree before p.notes.ensures h ∙ back (false_line E p.notes.ensures)

  asserts_read : Among A (assert_reads E p.notes.asserts now entry) → assert_reads E p.notes.asserts now entry ≡ assert_reads E p.notes.asserts s begun
  asserts_read h = asserts_alike A E now entry s.mem begun.mem agree before p.notes.asserts h ∙ back (assert_reads E p.notes.asserts)

  asserts_judged : Among A (assert_reads E p.notes.asserts now entry) → false_assert E p.notes.asserts now entry ≡ false_assert E p.notes.asserts s begun
  asserts_judged h = asserts_same A E now entry s.mem begun.mem agree before p.notes.asserts h ∙ back (false_assert E p.notes.asserts)

  -- an exit that is judged once its lines are read
  exit_ends : (end : StepEnd) (stack after : List ℕ) (o : Option ℕ) → IsStepEnd end now stack (exit_by o now) →
      IsTracedEnd p begun met entry now after end (exit_by o s)
  exit_ends (end.Stops event) stack after None h = absurd (cc)
  exit_ends (end.Stops event) stack after (Some line) h = let same : Stops _ ≡ Stops (event_of event) = h in same
  exit_ends end.Arrives stack after None h = absurd (cc)
  exit_ends end.Arrives stack after (Some line) h = absurd (cc)
  exit_ends end.Exits stack after None h = (s, refl)
  exit_ends end.Exits stack after (Some line) h = absurd (cc)

  pub exit_end : (end : StepEnd) (stack after : List ℕ) → AreMet p met (line_reads E p.notes.ensures now entry) → IsStepEnd end now stack (exit p entry now) →
      IsTracedEnd p begun met entry now after end (exit (by_file p) begun s)
  exit_end end stack after h is_end =
      exit_ends end stack after (false_line E p.notes.ensures s begun)
      (subst (λ o. IsStepEnd end now stack (exit_by o now)) (lines_judged h) is_end)

  pub exit_read : AreMet p met (line_reads E p.notes.ensures now entry) → line_reads E p.notes.ensures now entry ≡ end_reads (by_file p) begun (Exits s)
  exit_read h = lines_read h

module _ (p : Program) (lawful : HasLawfulRows p) (memory : ReadsMemory p) (begun : State) (met : BTreeSet ℕ) (entry now : State) (stack : List ℕ) (c : Place)
    (at : IsRunAt p begun met entry now stack c) (now_state : IsState now) where
  abbrev M : ℕ → Type 0
  M a = is_met p met a ≡ true

  abbrev q : Program
  q = by_file p

  abbrev is : IsLike p begun met entry now c.state
  is = like p begun met entry now stack c at

  back_is : with_memory now c.state.mem ≡ c.state
  back_is = now_back p begun met entry now c.state is

  kept_now : Agrees p every now
  kept_now a cell l e k asks = sym (at.filled.now_same a l (known_met p met a (kept_known p a cell e k))) ∙ at.kept_is a cell l e k

  same_pc : now.pc ≡ c.state.pc
  same_pc = ap (λ (z : State). z.pc) at.now_is

  -- the same row is reached
  reached_as : (o : Option ℕ) → reached_by o p now ≡ reached_by o q c.state
  reached_as None = row_same p memory now kept_now now.pc ∙ ap (file_row p) same_pc
  reached_as (Some line) = refl

  reached_is : Among M (assert_reads p.machine.endian p.notes.asserts now entry) → reached_row p entry now ≡ reached_row q begun c.state
  reached_is h =
      ap (λ o. reached_by o p now) (asserts_judged p begun met entry now c.state is h)
      ∙ reached_as (false_assert p.machine.endian p.notes.asserts c.state begun)

  -- and loads and stores the same bytes
  row_alike : (o : Option Row) → reached_row q begun c.state ≡ o → Among M (row_loads o now) →
      (row_loads o now ≡ row_loads o c.state) × (row_stores o now ≡ row_stores o c.state)
  row_alike None e h = (refl, refl)
  row_alike (Some row) e h =
      let law : IsLawful row = lawful c.state.pc row
      (reached_none p c.state (false_assert p.machine.endian p.notes.asserts c.state begun) row e) in
      let only = law.loads now c.state.mem 0 now_state (subst IsState (sym back_is) at.is_state)
      (λ a i. agree p begun met entry now c.state is a (loaded_small (row.loaded now) a (law.loads_at now now_state) i) (h a i)) in
      (ap addresses (only.0 ∙ ap row.loaded back_is), ap addresses (only.1 ∙ ap row.stored back_is))

  module _ (h : AreMet p met (early_reads p entry now)) where
    abbrev asserts : List ℕ
    asserts = assert_reads p.machine.endian p.notes.asserts now entry

    asserts_among : Among M asserts
    asserts_among = left_among M asserts (row_loads (reached_row p entry now) now) h

    rows_alike : (row_loads (reached_row q begun c.state) now ≡ row_loads (reached_row q begun c.state) c.state)
        × (row_stores (reached_row q begun c.state) now ≡ row_stores (reached_row q begun c.state) c.state)
    rows_alike =
        row_alike (reached_row q begun c.state) refl
        (subst (λ o. Among M (row_loads o now)) (reached_is asserts_among) (right_among M asserts (row_loads (reached_row p entry now) now) h))

    pub early_same : early_reads p entry now ≡ early_reads q begun c.state
    early_same =
        ap (λ z. z ++ row_loads (reached_row p entry now) now) (asserts_read p begun met entry now c.state is asserts_among)
        ∙ ap (λ z. assert_reads p.machine.endian p.notes.asserts c.state begun ++ z)
        (ap (λ o. row_loads o now) (reached_is asserts_among) ∙ rows_alike.0)

    pub stores_same : row_stores (reached_row p entry now) now ≡ row_stores (reached_row q begun c.state) c.state
    stores_same = ap (λ o. row_stores o now) (reached_is asserts_among) ∙ rows_alike.1

  module _ (drawn choice : ℕ) (draws : (row : Row) → file_row p c.state.pc ≡ Some row → row.draws ≡ true → drawn ≡ choice)
      (reads : AreMet p met (early_reads q begun c.state)) (stores : AreMet p met (row_stores (reached_row q begun c.state) c.state)) where
    abbrev u : Program
    u = unjudged p

    abbrev x : Step
    x = step (by_file u) begun c drawn

    none_read : (y : Step) → end_reads (by_file u) begun y ≡ []
    none_read (Stops e) = refl
    none_read (Arrives d) = refl
    none_read (Exits s) = refl

    same_row : reached_row (by_file u) begun c.state ≡ reached_row q begun c.state
    same_row = reached_unjudged p c.state (false_assert p.machine.endian p.notes.asserts c.state begun)

    early_unjudged : early_reads (by_file u) begun c.state ≡ early_reads q begun c.state
    early_unjudged = ap (λ o. assert_reads p.machine.endian p.notes.asserts c.state begun ++ row_loads o c.state) same_row

    none_more : (y : Step) → early_reads (by_file u) begun c.state ++ end_reads (by_file u) begun y ≡ early_reads q begun c.state
    none_more y = ap (λ z. early_reads (by_file u) begun c.state ++ z) (none_read y) ∙ append-nil (early_reads (by_file u) begun c.state) ∙ early_unjudged

    among : Among M (step_reads (by_file u) begun c drawn)
    among = subst (Among M) (sym (step_read (by_file u) begun c drawn ∙ none_more (step (unjudged (by_file u)) begun c drawn))) reads

    came : StepBoth M x (step u entry (record { state = now; stack = stack }) choice)
    came =
        let both = step_both M u begun entry.mem at.filled.entry_same lawful c.state now.mem c.stack at.filled.now_same at.is_state
        (subst IsState at.now_is now_state) drawn choice draws among in
        let first : StepBoth M x (step (by_file u) entry (record { state = with_memory c.state now.mem; stack = c.stack }) choice) =
        subst (λ (z : State). StepBoth M x (step (by_file u) z (record { state = with_memory c.state now.mem; stack = c.stack }) choice)) (sym at.entry_is)
        both in
        let second : StepBoth M x (step (by_file u) entry (record { state = now; stack = c.stack }) choice) =
        subst (λ (z : State). StepBoth M x (step (by_file u) entry (record { state = z; stack = c.stack }) choice)) (sym at.now_is) first in
        let third : StepBoth M x (step (by_file u) entry (record { state = now; stack = stack }) choice) =
        subst (λ z. StepBoth M x (step (by_file u) entry (record { state = now; stack = z }) choice)) at.stack_is second in
        subst (StepBoth M x)
        (sym (step_same u (record { word = memory.word; little = memory.little }) now kept_now entry stack choice)) third

    -- bytes that are not met are as they were
    abbrev Kept : State → Type 0
    Kept new = (a : ℕ) → a < 2 ^ 32 → is_met p met a ≡ false → new.mem a ≡ c.state.mem a

    kept_there : ComesIn Kept x
    kept_there =
        step_comes Kept (by_file u) begun c drawn
        (λ row e. (let found : reached_row q begun c.state ≡ Some row = sym same_row ∙ e in
        let law : IsLawful row = lawful c.state.pc row
        (reached_none p c.state (false_assert p.machine.endian p.notes.asserts c.state begun) row found) in
        let stored : AreMet p met (addresses (row.stored c.state)) = subst (λ o. AreMet p met (row_stores o c.state)) found stores in
        goes_to (row.effect c.state drawn) (λ new. (a : ℕ) → a < 2 ^ 32 → (Contains (addresses (row.stored c.state)) a → ⊥) → new.mem a ≡ c.state.mem a) Kept
        (λ new f a l no. f a l (λ i. absurd (let yes : is_met p met a ≡ true = stored a i in cc)))
        (law.stored c.state drawn at.is_state)))

    sound_there : ArrivesIn (Sound u every) x
    sound_there = step_in u every lawful begun c drawn ((λ a cell l e k asks. at.kept_is a cell l e k), at.is_state)

    -- the other run's state behind the step, and the code's
    filled_there : (s new : State) → Kept s → Agree M s.mem new.mem → IsFilled p begun.mem met entry.mem new.mem s.mem
    filled_there s new same agrees = record {
      entry_same = at.filled.entry_same;
      now_same = agrees;
      other = λ a l no. same a l no ∙ at.filled.other a l no;
    }

    -- where the step goes on, or exits
    walked_on : (y : Step) → StepBoth M y (step u entry (record { state = now; stack = stack }) choice) → ComesIn Kept y → ArrivesIn (Sound u every) y →
        (d : Place) → step u entry (record { state = now; stack = stack }) choice ≡ Arrives d →
        (e : Place) × (y ≡ Arrives e) × IsRunAt p begun met entry d.state d.stack e
    walked_on (Arrives e) both keeps sound d h =
        let b : Both M e d = subst (StepBoth M (Arrives e)) h both in (
          e,
          refl,
          record {
            entry_is = at.entry_is;
            now_is = b.state ∙ ap (with_memory e.state) (sym (ap (λ (z : State). z.mem) b.state));
            stack_is = b.stack;
            filled = filled_there e.state d.state keeps (λ a l m. b.agree a l m ∙ ap (λ (z : State). z.mem a) (sym b.state));
            kept_is = λ a cell l i k. sound.0 a cell l i k refl;
            is_state = sound.1;
          },
        )
    walked_on (Stops e) both keeps sound d h = absurd (subst (StepBoth M (Stops e)) h both)
    walked_on (Exits s) both keeps sound d h = absurd (subst (StepBoth M (Exits s)) h both)

    walked_out : (y : Step) → StepBoth M y (step u entry (record { state = now; stack = stack }) choice) → ComesIn Kept y →
        (t : State) → step u entry (record { state = now; stack = stack }) choice ≡ Exits t → (s : State) × (y ≡ Exits s) × IsLike p begun met entry t s
    walked_out (Exits s) both keeps t h =
        let b = subst (StepBoth M (Exits s)) h both in (
          s,
          refl,
          record {
            entry_is = at.entry_is;
            now_is = b.state ∙ ap (with_memory s) (sym (ap (λ (z : State). z.mem) b.state));
            filled = filled_there s t keeps (λ a l m. b.agree a l m ∙ ap (λ (z : State). z.mem a) (sym b.state));
          },
        )
    walked_out (Stops e) both keeps t h = absurd (subst (StepBoth M (Stops e)) h both)
    walked_out (Arrives e) both keeps t h = absurd (subst (StepBoth M (Arrives e)) h both)

    stopped : (y : Step) → StepBoth M y (step u entry (record { state = now; stack = stack }) choice) →
        (e : _) → step u entry (record { state = now; stack = stack }) choice ≡ Stops e → y ≡ Stops e
    stopped (Stops f) both e h = ap Stops (subst (StepBoth M (Stops f)) h both)
    stopped (Exits s) both e h = absurd (subst (StepBoth M (Exits s)) h both)
    stopped (Arrives d) both e h = absurd (subst (StepBoth M (Arrives d)) h both)

    -- the whole step, and what it reads
    abbrev w : Step
    w = step q begun c drawn

    pub on_end : (new : State) (after : List ℕ) →
        step u entry (record { state = now; stack = stack }) choice ≡ Arrives (record { state = new; stack = after }) →
        ((d : Place) × (w ≡ Arrives d) × IsRunAt p begun met entry new after d) × (step_reads q begun c drawn ≡ early_reads q begun c.state)
    on_end new after h =
        let went = walked_on x came kept_there sound_there (record { state = new; stack = after }) h in (
          (went.0, step_judged q begun c drawn ∙ ap (judged q begun) went.1, went.2),
          step_read q begun c drawn ∙ ap (λ z. early_reads q begun c.state ++ end_reads q begun z) went.1 ∙ append-nil _,
        )

    pub stop_end : (e : _) → step u entry (record { state = now; stack = stack }) choice ≡ Stops e →
        (w ≡ Stops e) × (step_reads q begun c drawn ≡ early_reads q begun c.state)
    stop_end e h =
        let went = stopped x came e h in (
          step_judged q begun c drawn ∙ ap (judged q begun) went,
          step_read q begun c drawn ∙ ap (λ z. early_reads q begun c.state ++ end_reads q begun z) went ∙ append-nil _,
        )

    pub out_end : (t : State) → step u entry (record { state = now; stack = stack }) choice ≡ Exits t →
        (s : State) × IsLike p begun met entry t s × (w ≡ exit q begun s)
        × (step_reads q begun c drawn ≡ early_reads q begun c.state ++ end_reads q begun (Exits s))
    out_end t h =
        let went = walked_out x came kept_there t h in (
          went.0,
          went.2,
          step_judged q begun c drawn ∙ ap (judged q begun) went.1,
          step_read q begun c drawn ∙ ap (λ z. early_reads q begun c.state ++ end_reads q begun z) went.1,
        )
