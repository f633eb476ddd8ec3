-- A step of the code, whose reads are filled before it, and the step of the model's run.
use Rattle.std.proofs.Common.{◌≡◌, ℕ, ap, sym, ◌∙◌, subst, List, ◌++◌, Some, true, append_assoc}
use Rattle.std.specs.BTreeSet.{BTreeSet}
use Rattle.word_spec.specs.State.{State, IsState}
use Rattle.machine_spec.specs.Machine.{Row}
use Rattle.machine_spec.specs.MachineLaws.{with_memory}
use Rattle.bilv_spec.specs.Run.{Program, Place, Step, Stops, Arrives, Exits, exit, step}
use Rattle.bilv_spec.specs.Points.{file_row}
use Rattle.bilv_spec.specs.Questions.{by_file}
use Rattle.bilv_spec.specs.PointLaws.{HasLawfulRows, ReadsMemory}
use Rattle.model_spec.specs.Reads.{line_reads, step_reads}
use Rattle.table_run.specs.declared.ending.StepEnd.{StepEnd}
use Rattle.table_run.specs.Steps.{IsStepEnd}
use Rattle.table_run.specs.Traces.{unjudged, reached_row, row_stores, early_reads, AreMet, IsOver, IsFuller, IsRunAt, IsTracedEnd, IsReadSet}
use Rattle.table_run.proofs.TracedSteps.{IsLike, exit_end, exit_read, early_same, stores_same, on_end, stop_end, out_end}

-- where more is filled, the code's run still stands where the other does
pub run_fuller : (p : Program) (fill : ℕ) (bytes : List (ℕ × ℕ)) (begun : State) (met more : BTreeSet ℕ) (entry later now next : State) (stack : List ℕ)
    (c : Place) → IsOver p fill bytes begun.mem → IsFuller p fill bytes met more entry later now next → IsRunAt p begun met entry now stack c →
    IsRunAt p begun more later next stack c
run_fuller p fill bytes begun met more entry later now next stack c over fuller at = record {
  entry_is = fuller.entry_is ∙ ap (λ (z : State). with_memory z later.mem) at.entry_is;
  now_is = fuller.now_is ∙ ap (λ (z : State). with_memory z next.mem) at.now_is;
  stack_is = at.stack_is;
  filled = fuller.filled begun.mem c.state.mem over at.filled;
  kept_is = at.kept_is;
  is_state = at.is_state;
}

like_fuller : (p : Program) (fill : ℕ) (bytes : List (ℕ × ℕ)) (begun : State) (met more : BTreeSet ℕ) (entry later now next s : State) →
    IsOver p fill bytes begun.mem → IsFuller p fill bytes met more entry later now next → IsLike p begun met entry now s → IsLike p begun more later next s
like_fuller p fill bytes begun met more entry later now next s over fuller is = record {
  entry_is = fuller.entry_is ∙ ap (λ (z : State). with_memory z later.mem) is.entry_is;
  now_is = fuller.now_is ∙ ap (λ (z : State). with_memory z next.mem) is.now_is;
  filled = fuller.filled begun.mem s.mem over is.filled;
}

-- The code's states at first, once what the step reads is filled, and once what its row stores is.
module _ (p : Program) (lawful : HasLawfulRows p) (memory : ReadsMemory p) (fill : ℕ) (bytes : List (ℕ × ℕ)) (begun : State)
    (met0 met1 met2 : BTreeSet ℕ) (entry0 entry1 entry2 now0 now1 now2 : State) (stack : List ℕ) (c : Place) (over : IsOver p fill bytes begun.mem)
    (at0 : IsRunAt p begun met0 entry0 now0 stack c) (fuller1 : IsFuller p fill bytes met0 met1 entry0 entry1 now0 now1)
    (reads : AreMet p met1 (early_reads p entry1 now1)) (fuller2 : IsFuller p fill bytes met1 met2 entry1 entry2 now1 now2)
    (stores : AreMet p met2 (row_stores (reached_row p entry1 now1) now1)) (state1 : IsState now1) (state2 : IsState now2)
    (drawn choice : ℕ) (draws : (row : Row) → file_row p c.state.pc ≡ Some row → row.draws ≡ true → drawn ≡ choice)
    (before : List ℕ) (read : BTreeSet ℕ) (noted : IsReadSet p (before ++ early_reads p entry1 now1) read) where
  abbrev q : Program
  q = by_file p

  abbrev w : Step
  w = step q begun c drawn

  at1 : IsRunAt p begun met1 entry1 now1 stack c
  at1 = run_fuller p fill bytes begun met0 met1 entry0 entry1 now0 now1 stack c over fuller1 at0

  at2 : IsRunAt p begun met2 entry2 now2 stack c
  at2 = run_fuller p fill bytes begun met1 met2 entry1 entry2 now1 now2 stack c over fuller2 at1

  same_reads : early_reads p entry1 now1 ≡ early_reads q begun c.state
  same_reads = early_same p lawful memory begun met1 entry1 now1 stack c at1 state1 reads

  reads2 : AreMet p met2 (early_reads q begun c.state)
  reads2 = subst (AreMet p met2) same_reads (λ a i. fuller2.keeps a (reads a i))

  stores2 : AreMet p met2 (row_stores (reached_row q begun c.state) c.state)
  stores2 = subst (AreMet p met2) (stores_same p lawful memory begun met1 entry1 now1 stack c at1 state1 reads) stores

  noted_by : step_reads q begun c drawn ≡ early_reads q begun c.state → IsReadSet p (before ++ step_reads q begun c drawn) read
  noted_by is = subst (λ z. IsReadSet p (before ++ z) read) (same_reads ∙ sym is) noted

  abbrev y : Step
  y = step (unjudged p) entry2 (record { state = now2; stack = stack }) choice

  pub step_stops : (e : _) → y ≡ Stops e → (w ≡ Stops e) × IsReadSet p (before ++ step_reads q begun c drawn) read
  step_stops e h = (
      let it = stop_end p lawful memory begun met2 entry2 now2 stack c at2 state2 drawn choice draws reads2 stores2 e h in
      (it.0, noted_by it.1)
      )

  pub step_goes : (new : State) (after : List ℕ) → y ≡ Arrives (record { state = new; stack = after }) →
      ((d : Place) × (w ≡ Arrives d) × IsRunAt p begun met2 entry2 new after d) × IsReadSet p (before ++ step_reads q begun c drawn) read
  step_goes new after h = (
      let it = on_end p lawful memory begun met2 entry2 now2 stack c at2 state2 drawn choice draws reads2 stores2 new after h in
      (it.0, noted_by it.1)
      )

  -- an exit, whose lines are filled before it is judged
  pub step_exits : (new : State) (met3 : BTreeSet ℕ) (entry3 now3 : State) (after : List ℕ) (end : StepEnd) (wider : BTreeSet ℕ) → y ≡ Exits new →
      IsFuller p fill bytes met2 met3 entry2 entry3 new now3 → AreMet p met3 (line_reads p.machine.endian p.notes.ensures now3 entry3) →
      IsStepEnd end now3 after (exit p entry3 now3) →
      (IsReadSet p (before ++ early_reads p entry1 now1) read →
      IsReadSet p ((before ++ early_reads p entry1 now1) ++ line_reads p.machine.endian p.notes.ensures now3 entry3) wider) →
      IsTracedEnd p begun met3 entry3 now3 after end w × IsReadSet p (before ++ step_reads q begun c drawn) wider
  step_exits new met3 entry3 now3 after end wider h fuller3 lines judged more = (
      let it = out_end p lawful memory begun met2 entry2 now2 stack c at2 state2 drawn choice draws reads2 stores2 new h in
      let is3 = like_fuller p fill bytes begun met2 met3 entry2 entry3 new now3 it.0 over fuller3 it.1 in
      let read_is : early_reads p entry1 now1 ++ line_reads p.machine.endian p.notes.ensures now3 entry3 ≡ step_reads q begun c drawn =
      ap (λ z. z ++ line_reads p.machine.endian p.notes.ensures now3 entry3) same_reads
      ∙ ap (λ z. early_reads q begun c.state ++ z) (exit_read p begun met3 entry3 now3 it.0 is3 lines) ∙ sym it.3 in (
        subst (IsTracedEnd p begun met3 entry3 now3 after end) (sym it.2) (exit_end p begun met3 entry3 now3 it.0 is3 end after after lines judged),
        subst (λ z. IsReadSet p z wider)
            (append_assoc before (early_reads p entry1 now1) (line_reads p.machine.endian p.notes.ensures now3 entry3) ∙ ap (λ z. before ++ z) read_is)
            (more noted),
      )
      )
