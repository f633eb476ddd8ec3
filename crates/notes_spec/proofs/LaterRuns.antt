-- A run over notes whose lines have numbers one greater is the same, but for the numbers in its event.
use Rattle.std.proofs.Common.{◌≡◌, ℕ, zero, suc, ◌+◌, refl, ap, sym, ◌∙◌, List, [], ◌∷◌, map, Option, Some, None, Bool, true, false, ◌==◌, ◌&&◌, nat_le, if◌then◌else◌}
use Rattle.std.specs.Prelude.{not}
use Rattle.word_spec.specs.Memory.{Endian}
use Rattle.word_spec.specs.State.{State}
use Rattle.machine_spec.specs.Machine.{Row, How, On, Direct, DirectCall, Indirect, IndirectCall, Exception, EnvironmentCall, Breakpoint, SoftwareInterrupt, OddHalfword, UnalignedLoad, Outcome, Goes, Raises}
use Rattle.bilv_spec.specs.Notes.{NoteLine, Assert, value, is_true}
use Rattle.bilv_spec.specs.Run.{Program, Place, Step, Stops, Arrives, Exits, false_assert, false_line, fetchable, is_named, exit_by, exit, allowed, exit_or, return_or, leave, transfer, aligned_transfer, event_of, exception_event, going_on, after_row, writes_kept, by_row, by_fetch, after_asserts, step, Run, Going, Exited, Failed, Turned, turn, arrive, after_step, one_more, run}
use Rattle.machine_spec.specs.Endings.{Event, AssertFails, FetchFails, NoRow, HalfwordFails, CodeWritten, Trapped, AlignFails, JumpFails, EnsureFails, Start}
use Rattle.bilv_spec.specs.Verdict.{IsEntryState, IsStart, RunExits, RunFails, RunTurns, Verdict, Holds, Vacuous, Fails, Unroll, IsRight}
use Rattle.notes_spec.specs.Upgrades.{later_line, later_assert, later_program, VerdictIsSame}

abbrev later_event : Event → Event
later_event (AssertFails n) = AssertFails (n + 1)
later_event FetchFails = FetchFails
later_event NoRow = NoRow
later_event HalfwordFails = HalfwordFails
later_event CodeWritten = CodeWritten
later_event Trapped = Trapped
later_event AlignFails = AlignFails
later_event JumpFails = JumpFails
later_event (EnsureFails n) = EnsureFails (n + 1)

abbrev later_step : Step → Step
later_step (Stops e) = Stops (later_event e)
later_step (Arrives c) = Arrives c
later_step (Exits s) = Exits s

abbrev later_run : Run → Run
later_run (Going turns n c) = Going turns n c
later_run (Exited at n) = Exited at n
later_run (Failed e at n) = Failed (later_event e) at n
later_run (Turned at n) = Turned at n

abbrev one_greater : Option ℕ → Option ℕ
one_greater None = None
one_greater (Some n) = Some (n + 1)

-- the first false line
chosen : (b : Bool) (n : ℕ) (x y : Option ℕ) → x ≡ one_greater y → (if b then Some (n + 1) else x) ≡ one_greater (if b then Some n else y)
chosen true n x y h = refl
chosen false n x y h = h

passed : (b : Bool) (n : ℕ) (x y : Option ℕ) → x ≡ one_greater y → (if b then x else Some (n + 1)) ≡ one_greater (if b then y else Some n)
passed true n x y h = h
passed false n x y h = refl

asserts_same : (e : Endian) (xs : List Assert) (now entry : State) → false_assert e (map later_assert xs) now entry ≡ one_greater (false_assert e xs now entry)
asserts_same e [] now entry = refl
asserts_same e (a ∷ xs) now entry =
    chosen ((a.at == now.pc) && not (is_true (value e a.says now entry))) a.line _ _ (asserts_same e xs now entry)

lines_same : (e : Endian) (ls : List NoteLine) (now entry : State) → false_line e (map later_line ls) now entry ≡ one_greater (false_line e ls now entry)
lines_same e [] now entry = refl
lines_same e (l ∷ ls) now entry = passed (is_true (value e l.says now entry)) l.line _ _ (lines_same e ls now entry)

exits_same : (o : Option ℕ) (s : State) → exit_by (one_greater o) s ≡ later_step (exit_by o s)
exits_same None s = refl
exits_same (Some n) s = refl

allowed_same : (b : Bool) (c : Place) → allowed b c ≡ later_step (allowed b c)
allowed_same true c = refl
allowed_same false c = refl

module _ (p : Program) where
  exit_same : (entry new : State) → exit (later_program p) entry new ≡ later_step (exit p entry new)
  exit_same entry new =
      ap (λ o. exit_by o new) (lines_same p.machine.endian p.notes.ensures new entry) ∙ exits_same (false_line p.machine.endian p.notes.ensures new entry) new

  exit_or_same : (b : Bool) (entry new : State) (named : Bool) → exit_or b (later_program p) entry new named ≡ later_step (exit_or b p entry new named)
  exit_or_same true entry new named = exit_same entry new
  exit_or_same false entry new named = allowed_same named _

  return_same : (b : Bool) (top : ℕ) (below : List ℕ) (new : State) (named : Bool) → return_or b top below new named ≡ later_step (return_or b top below new named)
  return_same true top below new named = refl
  return_same false top below new named = allowed_same named _

  leave_same : (entry : State) (row : Row) (old : State) (stack : List ℕ) (new : State) →
      leave (later_program p) entry row old stack new ≡ later_step (leave p entry row old stack new)
  leave_same entry row old [] new = exit_or_same _ entry new (is_named p old row new.pc)
  leave_same entry row old (top ∷ below) new = return_same (new.pc == top) top below new (is_named p old row new.pc)

  transfer_same : (entry : State) (row : Row) (old : State) (stack : List ℕ) (how : How) (new : State) →
      transfer (later_program p) entry row old stack how new ≡ later_step (transfer p entry row old stack how new)
  transfer_same entry row old stack On new = refl
  transfer_same entry row old stack Direct new = refl
  transfer_same entry row old stack DirectCall new = refl
  transfer_same entry row old stack Indirect new = leave_same entry row old stack new
  transfer_same entry row old stack IndirectCall new = allowed_same (is_named p old row new.pc) _

  aligned_same : (b : Bool) (entry : State) (row : Row) (old : State) (stack : List ℕ) (how : How) (new : State) →
      aligned_transfer b (later_program p) entry row old stack how new ≡ later_step (aligned_transfer b p entry row old stack how new)
  aligned_same true entry row old stack how new = transfer_same entry row old stack how new
  aligned_same false entry row old stack how new = refl

  going_same : (b : Bool) (entry : State) (row : Row) (old : State) (stack : List ℕ) (how : How) (new : State) →
      going_on b (later_program p) entry row old stack how new ≡ later_step (going_on b p entry row old stack how new)
  going_same true entry row old stack how new = refl
  going_same false entry row old stack how new = aligned_same _ entry row old stack how new

  event_same : (e : Exception) → event_of e ≡ later_event (event_of e)
  event_same EnvironmentCall = refl
  event_same Breakpoint = refl
  event_same SoftwareInterrupt = refl
  event_same OddHalfword = refl
  event_same UnalignedLoad = refl

  raised_same : (b : Bool) (e : Exception) → exception_event b e ≡ later_event (exception_event b e)
  raised_same true OddHalfword = refl
  raised_same false OddHalfword = refl
  raised_same true EnvironmentCall = refl
  raised_same true Breakpoint = refl
  raised_same true SoftwareInterrupt = refl
  raised_same true UnalignedLoad = refl
  raised_same false EnvironmentCall = refl
  raised_same false Breakpoint = refl
  raised_same false SoftwareInterrupt = refl
  raised_same false UnalignedLoad = refl

  row_same : (entry : State) (row : Row) (old : State) (stack : List ℕ) (b : Bool) (o : Outcome) →
      after_row (later_program p) entry row old stack b o ≡ later_step (after_row p entry row old stack b o)
  row_same entry row old stack b (Raises e) = ap (λ e. Stops e) (raised_same b e)
  row_same entry row old stack b (Goes how new) = going_same b entry row old stack how new

  by_row_same : (entry : State) (c : Place) (choice : ℕ) (o : Option Row) → by_row (later_program p) entry c choice o ≡ later_step (by_row p entry c choice o)
  by_row_same entry c choice None = refl
  by_row_same entry c choice (Some row) = row_same entry row c.state c.stack (writes_kept p row c.state) (row.effect c.state choice)

  fetch_same : (b : Bool) (entry : State) (c : Place) (choice : ℕ) → by_fetch b (later_program p) entry c choice ≡ later_step (by_fetch b p entry c choice)
  fetch_same true entry c choice = by_row_same entry c choice (p.machine.row (p.word c.state c.state.pc))
  fetch_same false entry c choice = refl

  judged_same : (o : Option ℕ) (entry : State) (c : Place) (choice : ℕ) →
      after_asserts (one_greater o) (later_program p) entry c choice ≡ later_step (after_asserts o p entry c choice)
  judged_same None entry c choice = fetch_same (fetchable p (p.word c.state c.state.pc) c.state.pc) entry c choice
  judged_same (Some n) entry c choice = refl

  step_same : (entry : State) (c : Place) (choice : ℕ) → step (later_program p) entry c choice ≡ later_step (step p entry c choice)
  step_same entry c choice =
      ap (λ o. after_asserts o (later_program p) entry c choice) (asserts_same p.machine.endian p.notes.asserts c.state entry)
      ∙ judged_same (false_assert p.machine.endian p.notes.asserts c.state entry) entry c choice

  turn_same : (b : Bool) (turns n at : ℕ) (c : Place) → turn b turns n at c ≡ later_run (turn b turns n at c)
  turn_same true turns n at c = refl
  turn_same false turns n at c = refl

  arrive_same : (b : Bool) (k turns n at : ℕ) (c : Place) → arrive b k turns n at c ≡ later_run (arrive b k turns n at c)
  arrive_same true k turns n at c = turn_same (turns == k) turns n at c
  arrive_same false k turns n at c = refl

  after_same : (k turns n at : ℕ) (s : Step) → after_step k turns n at (later_step s) ≡ later_run (after_step k turns n at s)
  after_same k turns n at (Stops e) = refl
  after_same k turns n at (Exits s) = refl
  after_same k turns n at (Arrives c) = arrive_same (nat_le c.state.pc at) k turns n at c

  more_same : (k : ℕ) (start : Start) (r : Run) → one_more (later_program p) k start (later_run r) ≡ later_run (one_more p k start r)
  more_same k start (Going turns n c) =
      ap (after_step k turns n c.state.pc) (step_same start.state c (start.choices n))
      ∙ after_same k turns n c.state.pc (step p start.state c (start.choices n))
  more_same k start (Exited at n) = refl
  more_same k start (Failed e at n) = refl
  more_same k start (Turned at n) = refl

  run_same : (k : ℕ) (start : Start) (n : ℕ) → run (later_program p) k start n ≡ later_run (run p k start n)
  unfolding run
  run_same k start zero = refl
  run_same k start (suc n) = ap (one_more (later_program p) k start) (run_same k start n) ∙ more_same k start (run p k start n)

  -- entry states and starts
  none_back : (o : Option ℕ) → one_greater o ≡ None → o ≡ None
  none_back None h = refl
  none_back (Some n) h = absurd (let b : ⊥ = cc in b)

  entry_on : (s : State) → IsEntryState p s → IsEntryState (later_program p) s
  entry_on s is = record {
    state = is.state;
    pc = is.pc;
    link = is.link;
    kept_bytes = is.kept_bytes;
    fixed_bytes = is.fixed_bytes;
    requires = lines_same p.machine.endian p.notes.requires s s ∙ ap one_greater is.requires;
  }

  entry_back : (s : State) → IsEntryState (later_program p) s → IsEntryState p s
  entry_back s is = record {
    state = is.state;
    pc = is.pc;
    link = is.link;
    kept_bytes = is.kept_bytes;
    fixed_bytes = is.fixed_bytes;
    requires = none_back (false_line p.machine.endian p.notes.requires s s) (sym (lines_same p.machine.endian p.notes.requires s s) ∙ is.requires);
  }

  start_on : (start : Start) → IsStart p start → IsStart (later_program p) start
  start_on start is = record { entry = entry_on start.state is.entry; choices = is.choices }

  start_back : (start : Start) → IsStart (later_program p) start → IsStart p start
  start_back start is = record { entry = entry_back start.state is.entry; choices = is.choices }

  -- how runs end
  exited_back : (r : Run) (at n : ℕ) → later_run r ≡ Exited at n → r ≡ Exited at n
  exited_back (Exited at n) b m h = h
  exited_back (Going turns n c) b m h = absurd (let x : ⊥ = cc in x)
  exited_back (Failed e at n) b m h = absurd (let x : ⊥ = cc in x)
  exited_back (Turned at n) b m h = absurd (let x : ⊥ = cc in x)

  turned_back : (r : Run) (at n : ℕ) → later_run r ≡ Turned at n → r ≡ Turned at n
  turned_back (Turned at n) b m h = h
  turned_back (Going turns n c) b m h = absurd (let x : ⊥ = cc in x)
  turned_back (Failed e at n) b m h = absurd (let x : ⊥ = cc in x)
  turned_back (Exited at n) b m h = absurd (let x : ⊥ = cc in x)

  failed_back : (r : Run) (e : Event) (at n : ℕ) → later_run r ≡ Failed e at n → (f : Event) × (b m : ℕ) × (r ≡ Failed f b m)
  failed_back (Failed f b m) e at n h = (f, b, m, refl)
  failed_back (Going turns n c) e b m h = absurd (let x : ⊥ = cc in x)
  failed_back (Turned at n) e b m h = absurd (let x : ⊥ = cc in x)
  failed_back (Exited at n) e b m h = absurd (let x : ⊥ = cc in x)

  exits_on : (k : ℕ) (start : Start) → RunExits p k start → RunExits (later_program p) k start
  exits_on k start (steps, at, n, is) = (steps, at, n, run_same k start steps ∙ ap later_run is)

  exits_back : (k : ℕ) (start : Start) → RunExits (later_program p) k start → RunExits p k start
  exits_back k start (steps, at, n, is) = (steps, at, n, exited_back (run p k start steps) at n (sym (run_same k start steps) ∙ is))

  turns_on : (k : ℕ) (start : Start) → RunTurns p k start → RunTurns (later_program p) k start
  turns_on k start (steps, at, n, is) = (steps, at, n, run_same k start steps ∙ ap later_run is)

  turns_back : (k : ℕ) (start : Start) → RunTurns (later_program p) k start → RunTurns p k start
  turns_back k start (steps, at, n, is) = (steps, at, n, turned_back (run p k start steps) at n (sym (run_same k start steps) ∙ is))

  fails_on : (k : ℕ) (start : Start) → RunFails p k start → RunFails (later_program p) k start
  fails_on k start (steps, at, n, e, is) = (steps, at, n, later_event e, run_same k start steps ∙ ap later_run is)

  fails_back : (k : ℕ) (start : Start) → RunFails (later_program p) k start → RunFails p k start
  fails_back k start (steps, at, n, e, is) =
      let f = failed_back (run p k start steps) e at n (sym (run_same k start steps) ∙ is) in (steps, f.1, f.2, f.0, f.3)

  right_on : (k : ℕ) (v : Verdict) → IsRight p k v → IsRight (later_program p) k v
  right_on k Vacuous is = λ s e. is s (entry_back s e)
  right_on k Fails (start, is, f) = (start, start_on start is, fails_on k start f)
  right_on k Unroll (none, (start, is, t)) =
      ((λ s i f. none s (start_back s i) (fails_back k s f)), (start, start_on start is, turns_on k start t))
  right_on k Holds ((s, is), all) = ((s, entry_on s is), λ start i. exits_on k start (all start (start_back start i)))

  right_back : (k : ℕ) (v : Verdict) → IsRight (later_program p) k v → IsRight p k v
  right_back k Vacuous is = λ s e. is s (entry_on s e)
  right_back k Fails (start, is, f) = (start, start_back start is, fails_back k start f)
  right_back k Unroll (none, (start, is, t)) =
      ((λ s i f. none s (start_on s i) (fails_on k s f)), (start, start_back start is, turns_back k start t))
  right_back k Holds ((s, is), all) = ((s, entry_back s is), λ start i. exits_back k start (all start (start_on start i)))

pub verdict_is_same : VerdictIsSame
verdict_is_same p k v = (right_on p k v, right_back p k v)
