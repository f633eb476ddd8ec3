-- The run of a model, step by step, and what it has read.
use Rattle.std.proofs.Common.{◌≡◌, ℕ, suc, ◌+◌, ◌<◌, ◌^◌, refl, ap, sym, ◌∙◌, subst, arith, List, [], ◌++◌, Option, Some, None, Bool, true, false, append_assoc}
use Rattle.std.specs.Prelude.{◌||◌, ◌&&◌, is_some, nat_le, if◌then◌else◌, reverse}
use Rattle.std.specs.BTreeSet.{BTreeSet}
use Rattle.std.proofs.lemmas.List.{append-nil}
use Rattle.word_spec.specs.Words.{word}
use Rattle.word_spec.specs.Memory.{memory_of}
use Rattle.word_spec.specs.State.{State, Written}
use Rattle.machine_spec.specs.Machine.{Row}
use Rattle.machine_spec.specs.MachineLaws.{with_memory}
use Rattle.machine_spec.specs.StateText.{Layout, known_or}
use Rattle.bilv_spec.specs.Elf.{Cell, kept, is_kept}
use Rattle.bilv_spec.specs.Run.{Program, Place, Step, Stops, Arrives, Exits, Run, Going, Exited, Failed, Turned, arrive, after_step, step}
use Rattle.bilv_spec.specs.Verdict.{IsEntryState, fixed}
use Rattle.bilv_spec.specs.Points.{file_row, is_known_at, byte_of_cell}
use Rattle.bilv_spec.specs.Questions.{Reading, by_file, point_of, read_on, read_run}
use Rattle.bilv_spec.specs.Answers.{known_byte}
use Rattle.bilv_spec.specs.Reports.{FoundLeft, found_by}
use Rattle.bilv_spec.specs.Scripts.{draws}
use Rattle.model_spec.specs.Reads.{line_reads, step_reads, run_reads, run_reads_at}
use Rattle.model_spec.specs.Models.{all_reads}
use Rattle.machine_law.specs.Facts.{made}
use Rattle.state_text.specs.Starts.{event_of}
use Rattle.table_run.specs.declared.ending.Ending.TheVariants as ending
use Rattle.table_run.specs.declared.ending.StepEnd.{StepEnd}
use Rattle.table_run.specs.declared.ending.StepEnd.TheVariants as end
use Rattle.table_run.specs.Traces.{IsOver, IsModelState, TakesChoices, ComesTo, is_met, AreMet, IsFuller, IsRunAt, IsTracedEnd, IsReadSet}
use Rattle.table_run.proofs.TracedSteps.{like, required_read}
use Rattle.table_run.proofs.WholeSteps.{run_fuller}

-- ---- the entry state

-- the byte that is known is the file's
known_by : (p : Program) (s : State) → IsEntryState p s → (o : Option Cell) (a : ℕ) → a < 2 ^ 32 → p.loaded a ≡ o →
    (is_kept o || (is_some o && fixed p.notes.fixed a)) ≡ true → s.mem a ≡ byte_of_cell o
known_by p s is None a l e h = absurd (let c : false ≡ true = h in cc)
known_by p s is (Some c) a l e h = by (kept c) refl h
  where
    by : (b : Bool) → kept c ≡ b → (b || (true && fixed p.notes.fixed a)) ≡ true → s.mem a ≡ c.byte
    by true q h = is.kept_bytes a c l e q
    by false q h = is.fixed_bytes a c l e h

only_known : (b : Bool) → (b || false) ≡ true → b ≡ true
only_known true h = refl
only_known false h = h

-- the code's states before anything is read
pub begun_at : (p : Program) (form : Layout) (w : Written) (fill : ℕ) (bytes entries : List (ℕ × ℕ)) (met : BTreeSet ℕ) (entry now s : State) →
    IsModelState p form w fill bytes s → now ≡ made form w p.entry entries → entry ≡ now →
    ((x : ℕ) → memory_of entries x ≡ known_or (known_byte p (word 32 x)) [] x) → ((a : ℕ) → is_met p met a ≡ (is_known_at p a || false)) →
    IsRunAt p s met entry now [] (record { state = s; stack = [] })
begun_at p form w fill bytes entries met entry now s is same both given none = record {
  entry_is = both ∙ alike ∙ ap (λ (z : State). with_memory s z.mem) (sym both);
  now_is = alike;
  stack_is = refl;
  filled = record {
    entry_same = λ a l h. at a l h ∙ ap (λ (z : State). z.mem a) (sym both);
    now_same = at;
    other = λ a l h. refl;
  };
  kept_is = λ a c l e k. is.entry.kept_bytes a c l e k;
  is_state = is.entry.state;
}
  where
    alike : now ≡ with_memory s now.mem
    alike = same ∙ (λ i. record { pc = sym is.entry.pc i; regs = sym is.regs i; flags = sym is.flags i; mem = memory_of entries })
        ∙ ap (λ (z : State). with_memory s z.mem) (sym same)

    at : (a : ℕ) → a < 2 ^ 32 → is_met p met a ≡ true → s.mem a ≡ now.mem a
    at a l h =
        let known : is_known_at p a ≡ true = only_known (is_known_at p a) (sym (none a) ∙ h) in
        let wrapped : word 32 a ≡ a = omega arith in
        let there : now.mem a ≡ byte_of_cell (p.loaded a) =
        ap (λ (z : State). z.mem a) same ∙ given a ∙ ap (λ z. known_or (known_byte p z) [] a) wrapped
        ∙ ap (λ (b : Bool). known_or (if b then Some (byte_of_cell (p.loaded a)) else None) [] a) known in
        known_by p s is.entry (p.loaded a) a l refl known ∙ sym there

-- the require lines alone are read before the first step
first_reads : (p : Program) (k : ℕ) (r : Reading) → line_reads p.machine.endian p.notes.requires r.state r.state ≡ all_reads p k r 0
unfolding run_reads
first_reads p k r = sym (append-nil (line_reads p.machine.endian p.notes.requires r.state r.state))

-- the code's states once what they read is filled
pub entry_read : (p : Program) (k : ℕ) (fill : ℕ) (bytes : List (ℕ × ℕ)) (r : Reading) (met more : BTreeSet ℕ) (entry later now next : State)
    (read : BTreeSet ℕ) → IsOver p fill bytes r.state.mem → IsRunAt p r.state met entry now [] (record { state = r.state; stack = [] }) →
    IsFuller p fill bytes met more entry later now next → AreMet p more (line_reads p.machine.endian p.notes.requires next later) →
    IsReadSet p (line_reads p.machine.endian p.notes.requires next later) read →
    IsRunAt p r.state more later next [] (record { state = r.state; stack = [] }) × IsReadSet p (all_reads p k r 0) read
entry_read p k fill bytes r met more entry later now next read over at fuller lines noted =
    let first : Place = record { state = r.state; stack = [] } in
    let there = run_fuller p fill bytes r.state met more entry later now next [] first over fuller at in
    let same = required_read p r.state more later next r.state (like p r.state more later next [] first there) lines in
    (there, subst (λ z. IsReadSet p z read) (same ∙ first_reads p k r) noted)

-- ---- the run

-- the code's run stands at a step of the run of a reading, and has noted what was read
pub record IsRunning (p : Program) (k : ℕ) (r : Reading) (met : BTreeSet ℕ) (entry now : State) (stack : List ℕ) (read : BTreeSet ℕ) (turns n : ℕ)
    : Type 0 where
  pub place : Place
  pub going : read_run p k r n ≡ Going turns n place
  pub at : IsRunAt p r.state met entry now stack place
  pub noted : IsReadSet p (all_reads p k r n) read

-- a step of a row that draws takes the choice of the point
pub drawn_there : (p : Program) (k : ℕ) (r : Reading) (choices : ℕ → ℕ) (n turns choice : ℕ) (c : Place) → TakesChoices p k r choices →
    read_run p k r n ≡ Going turns n c → choice ≡ choices n →
    (row : Row) → file_row p c.state.pc ≡ Some row → row.draws ≡ true → r.choice (point_of turns c) ≡ choice
drawn_there p k r choices n turns choice c takes going is row e d =
    sym (takes n turns c going (ap draws e ∙ d)) ∙ sym is

module _ (p : Program) (k : ℕ) (r : Reading) (turns n at : ℕ) (c : Place) (going : read_run p k r n ≡ Going turns n c) (here : at ≡ c.state.pc) where
  abbrev w : Step
  w = step (by_file p) r.state c (r.choice (point_of turns c))

  -- the run after the step
  next : (x : Run) → after_step k turns n c.state.pc w ≡ x → read_run p k r (n + 1) ≡ x
  unfolding read_run
  next x is =
      let up : suc n ≡ n + 1 = omega arith in
      subst (λ m. read_run p k r m ≡ x) up (ap (read_on p k r) going ∙ is)

  -- what was read behind it
  read_more : all_reads p k r (n + 1) ≡ all_reads p k r n ++ step_reads (by_file p) r.state c (r.choice (point_of turns c))
  unfolding run_reads
  read_more =
      let up : suc n ≡ n + 1 = omega arith in
      let lines : List ℕ = line_reads p.machine.endian p.notes.requires r.state r.state in
      ap (all_reads p k r) (sym up)
      ∙ ap (λ z. lines ++ (run_reads p k r n ++ run_reads_at p r z)) going
      ∙ sym (append_assoc lines (run_reads p k r n) (step_reads (by_file p) r.state c (r.choice (point_of turns c))))

  noted_more : (read : BTreeSet ℕ) → IsReadSet p (all_reads p k r n ++ step_reads (by_file p) r.state c (r.choice (point_of turns c))) read →
      IsReadSet p (all_reads p k r (n + 1)) read
  noted_more read h = subst (λ z. IsReadSet p z read) (sym read_more) h

  failed_so : (e : _) → w ≡ Stops e → read_run p k r (n + 1) ≡ Failed e at n
  failed_so e is = next (Failed e at n) (ap (after_step k turns n c.state.pc) is ∙ ap (λ a. Failed e a n) (sym here))

  exited_so : (s : State) → w ≡ Exits s → read_run p k r (n + 1) ≡ Exited at n
  exited_so s is = next (Exited at n) (ap (after_step k turns n c.state.pc) is ∙ ap (λ a. Exited a n) (sym here))

  arrived_so : (d : Place) (to : ℕ) (x : Run) → w ≡ Arrives d → to ≡ d.state.pc → arrive (nat_le to at) k turns n at d ≡ x →
      read_run p k r (n + 1) ≡ x
  arrived_so d to x is there h =
      next x (ap (after_step k turns n c.state.pc) is
      ∙ sym (ap (λ a. arrive (nat_le a c.state.pc) k turns n c.state.pc d) there)
      ∙ sym (ap (λ a. arrive (nat_le to a) k turns n a d) here)
      ∙ h)

  left_so : (more : ℕ) (d : Place) → read_run p k r (n + 1) ≡ Going more (n + 1) d → found_by (read_run p k r n) (read_run p k r (n + 1)) ≡ FoundLeft at n
  left_so more d on =
      ap (found_by (read_run p k r n)) on ∙ ap (λ z. found_by z (Going more (n + 1) d)) going ∙ ap (λ a. FoundLeft a n) (sym here)

-- the end of a step that is known
traced_is : (p : Program) (begun : State) (met : BTreeSet ℕ) (entry now : State) (stack : List ℕ) (e f : StepEnd) (x : Step) → e ≡ f →
    IsTracedEnd p begun met entry now stack e x → IsTracedEnd p begun met entry now stack f x
traced_is p begun met entry now stack e f x same is = subst (λ (z : StepEnd). IsTracedEnd p begun met entry now stack z x) same is

-- the code's run stands at the beginning
pub running_first : (p : Program) (k : ℕ) (r : Reading) (met : BTreeSet ℕ) (entry now : State) (stack : List ℕ) (read : BTreeSet ℕ) →
    IsRunAt p r.state met entry now [] (record { state = r.state; stack = [] }) → IsReadSet p (all_reads p k r 0) read → stack ≡ [] →
    IsRunning p k r met entry now (reverse stack) read 0 0
unfolding read_run
running_first p k r met entry now stack read at noted none =
    subst (λ z. IsRunning p k r met entry now (reverse z) read 0 0) (sym none)
    (record { place = record { state = r.state; stack = [] }; going = refl; at = at; noted = noted })

-- One more step: of the code's states before it `now0` alone is named, those behind it are the others.
module _ (p : Program) (k : ℕ) (r : Reading) (limit turns n choice at : ℕ) (within : n < limit) (met0 : BTreeSet ℕ) (entry0 now0 : State) (stack0 : List ℕ)
    (read0 : BTreeSet ℕ) (is : IsRunning p k r met0 entry0 now0 stack0 read0 turns n) (here : at ≡ now0.pc) (met : BTreeSet ℕ) (entry now : State)
    (stack : List ℕ) (read : BTreeSet ℕ) (found : StepEnd)
    (stepped : IsTracedEnd p r.state met entry now stack found (step (by_file p) r.state is.place (r.choice (point_of turns is.place)))
    × IsReadSet p (all_reads p k r n ++ step_reads (by_file p) r.state is.place (r.choice (point_of turns is.place))) read) where
  here_is : at ≡ is.place.state.pc
  here_is = here ∙ ap (λ (z : State). z.pc) is.at.now_is

  abbrev s : Step
  s = step (by_file p) r.state is.place (r.choice (point_of turns is.place))

  ended : (e : StepEnd) → found ≡ e → IsTracedEnd p r.state met entry now stack e s
  ended e same = traced_is p r.state met entry now stack found e s same stepped.0

  noted : IsReadSet p (all_reads p k r (n + 1)) read
  noted = noted_more p k r turns n at is.place is.going here_is read stepped.1

  pub run_stops : (event : _) → found ≡ end.Stops event →
      ComesTo (read_run p k r) limit (ending.Failed event at n) × IsReadSet p (all_reads p k r (n + 1)) read
  run_stops event same = (
    (within, failed_so p k r turns n at is.place is.going here_is (event_of event) (ended (end.Stops event) same)),
    noted,
  )

  pub run_exits : found ≡ end.Exits → ComesTo (read_run p k r) limit (ending.Exit at n) × IsReadSet p (all_reads p k r (n + 1)) read
  run_exits same = (let it = ended end.Exits same in ((within, exited_so p k r turns n at is.place is.going here_is it.0 it.1), noted))

  module _ (goes : found ≡ end.Arrives) (to : ℕ) (there : to ≡ now.pc) where
    it : (d : Place) × (s ≡ Arrives d) × IsRunAt p r.state met entry now stack d
    it = ended end.Arrives goes

    arrived : (x : Run) → arrive (nat_le to at) k turns n at it.0 ≡ x → read_run p k r (n + 1) ≡ x
    arrived x h =
        arrived_so p k r turns n at is.place is.going here_is it.0 to x it.1 (there ∙ ap (λ (z : State). z.pc) it.2.now_is) h

    pub run_turns : ((c : Place) → arrive (nat_le to at) k turns n at c ≡ Turned at n) →
        ComesTo (read_run p k r) limit (ending.Turned at n) × IsReadSet p (all_reads p k r (n + 1)) read
    run_turns turned = ((within, arrived (Turned at n) (turned it.0)), noted)

    module _ (more : ℕ) (on : (c : Place) → arrive (nat_le to at) k turns n at c ≡ Going more (n + 1) c) where
      pub run_left : n + 1 ≡ limit → ComesTo (read_run p k r) limit (ending.Left at n) × IsReadSet p (all_reads p k r (n + 1)) read
      run_left last = (
        (last, left_so p k r turns n at is.place is.going here_is more it.0 (arrived (Going more (n + 1) it.0) (on it.0))),
        noted,
      )

      pub run_goes : IsRunning p k r met entry now stack read more (n + 1)
      run_goes = record { place = it.0; going = arrived (Going more (n + 1) it.0) (on it.0); at = it.2; noted = noted }
