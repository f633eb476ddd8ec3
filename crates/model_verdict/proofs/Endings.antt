-- The judgement of a start whose run ends as the question asks.
use Rattle.std.proofs.Common.{◌≡◌, ℕ, ◌+◌, List, [], refl, ap, sym, subst}
use Rattle.word_spec.specs.State.{Written}
use Rattle.machine_spec.specs.StateText.{Layout, AreRising}
use Rattle.call_spec.specs.Calls.{EntryQuestion, FailQuestion, TurnQuestion}
use Rattle.bilv_spec.specs.Run.{Program, Run, Going, Exited, Failed, Turned, IsOver}
use Rattle.bilv_spec.specs.PointLaws.{HasLawfulRows, ReadsMemory}
use Rattle.bilv_spec.specs.Questions.{Reading, read_run}
use Rattle.bilv_spec.specs.Reports.{FoundLeft, found_by}
use Rattle.model_spec.specs.Models.{all_reads}
use Rattle.start_value.specs.Starts.{written_of}
use Rattle.state_text.specs.Starts.{event_of}
use Rattle.state_text.specs.declared.start.Event.{Event}
use Rattle.start_value.specs.declared.start.Start.{Start}
use Rattle.table_run.specs.Traces.{AreListed, ComesTo, last_of}
use Rattle.table_run.specs.declared.ending.Ending.{Ending}
use Rattle.table_run.specs.declared.ending.Ending.TheVariants as ending
use Rattle.table_run.specs.declared.tracing.Traced.{Traced}
use Rattle.model_verdict.specs.Runs.{IsRunBy, IsShown, IsShownAs, IsStartBy, IsTracedBy}
use Rattle.model_verdict.specs.declared.judged.End.TheVariants as ends
use Rattle.model_verdict.specs.declared.judged.Judged.TheVariants.{Accepted}
use Rattle.model_verdict.proofs.Printing.{ends_failed, ends_turned, printed_entry, printed_run}
use Rattle.model_verdict.proofs.Steps.{read_one_end}

-- the start of an entry state
pub entry_shown : (p : Program) (layout : Layout) (k : ℕ) (w : Written) (fill : ℕ) (bytes : List (ℕ × ℕ)) (r : Reading) (start : Start)
    (listed : List (ℕ × ℕ)) → IsStartBy p layout k EntryQuestion w fill bytes r → w.choices ≡ [] →
    AreListed p r.state.mem (all_reads p k r 0) listed → AreRising listed →
    written_of start ≡ record w { bytes = listed } → IsShownAs p layout k EntryQuestion r (Accepted ends.AtEntry start)
entry_shown p layout k w fill bytes r start listed by none are rise is =
    subst (λ (x : Written). IsShown p layout k EntryQuestion r ends.AtEntry x) (sym is) (record {
      ends = tt;
      printed = printed_entry p layout k EntryQuestion w fill bytes r by (all_reads p k r 0) listed are rise none refl;
    })

left_over : (before x : Run) (at step : ℕ) → IsOver x → found_by before x ≡ FoundLeft at step → ⊥
left_over before (Going turns n c) at step over e = over
left_over before (Exited b n) at step over e = absurd (cc)
left_over before (Failed f b n) at step over e = absurd (cc)
left_over before (Turned b n) at step over e = absurd (cc)

module _ (p : Program) (layout : Layout) (k limit : ℕ) (r : Reading) (t : Traced) (traced : IsTracedBy p k limit r t) where
  -- what the run comes to
  comes : (x : Ending) → t.ending ≡ x → ComesTo (read_run p k r) limit x
  comes x e = subst (λ (z : Ending). ComesTo (read_run p k r) limit z) e traced.comes

  module _ (w : Written) (fill : ℕ) (bytes : List (ℕ × ℕ)) where
    left_none : (at step : ℕ) → IsOver (read_run p k r limit) → ComesTo (read_run p k r) limit (ending.Left at step) → ⊥
    left_none at step over c =
        left_over (read_run p k r step) (read_run p k r (step + 1)) at step
        (subst (λ (n : ℕ). IsOver (read_run p k r n)) (sym c.0) over) c.1

    -- where a run fails, it comes to an event
    no_event : (x : Ending) → IsRunBy p layout k limit FailQuestion w fill bytes r → ComesTo (read_run p k r) limit x →
        ((v : Event) (at step : ℕ) → x ≡ ending.Failed v at step → ⊥) → ⊥
    no_event (ending.Exit a s) by c none =
        let f = by.start.is_true.ends in
        absurd (let e = read_one_end p k r f.0 (s + 1) (Failed f.3 f.1 f.2) (Exited a s) tt tt f.4 c.1 in cc)
    no_event (ending.Failed v a s) by c none = none v a s refl
    no_event (ending.Turned a s) by c none =
        let f = by.start.is_true.ends in
        absurd (let e = read_one_end p k r f.0 (s + 1) (Failed f.3 f.1 f.2) (Turned a s) tt tt f.4 c.1 in cc)
    no_event (ending.Left a s) by c none = left_none a s by.ended c

    pub fails_somehow : IsRunBy p layout k limit FailQuestion w fill bytes r → ((v : Event) (at step : ℕ) → t.ending ≡ ending.Failed v at step → ⊥) → ⊥
    fails_somehow by none = no_event t.ending by traced.comes none

    no_turn : (x : Ending) → IsRunBy p layout k limit TurnQuestion w fill bytes r → ComesTo (read_run p k r) limit x →
        ((at step : ℕ) → x ≡ ending.Turned at step → ⊥) → ⊥
    no_turn (ending.Exit a s) by c none =
        let f = by.start.is_true.ends in
        absurd (let e = read_one_end p k r f.0 (s + 1) (Turned f.1 f.2) (Exited a s) tt tt f.3 c.1 in cc)
    no_turn (ending.Failed v a s) by c none =
        let f = by.start.is_true.ends in
        absurd (let e = read_one_end p k r f.0 (s + 1) (Turned f.1 f.2) (Failed (event_of v) a s) tt tt f.3 c.1 in cc)
    no_turn (ending.Turned a s) by c none = none a s refl
    no_turn (ending.Left a s) by c none = left_none a s by.ended c

    pub turns_somehow : IsRunBy p layout k limit TurnQuestion w fill bytes r → ((at step : ℕ) → t.ending ≡ ending.Turned at step → ⊥) → ⊥
    turns_somehow by none = no_turn t.ending by traced.comes none

    module _ (lawful : HasLawfulRows p) (memory : ReadsMemory p) (start : Start) (is : written_of start ≡ record w { bytes = t.bytes.items }) where
      pub failed_shown : IsRunBy p layout k limit FailQuestion w fill bytes r → (v : Event) (at step : ℕ) → t.ending ≡ ending.Failed v at step →
          IsShownAs p layout k FailQuestion r (Accepted (ends.Failed v at step) start)
      failed_shown by v at step e =
          let c = (comes (ending.Failed v at step) e).1 in
          let printed = printed_run p layout k FailQuestion w fill bytes r by.start (all_reads p k r (last_of t.ending + 1)) t.bytes.items traced.bytes
          traced.rise (step + 1) by.choices (subst IsOver (sym c) tt) (ap (λ (x : Ending). all_reads p k r (last_of x + 1)) e) in
          subst (λ (x : Written). IsShown p layout k FailQuestion r (ends.Failed v at step) x) (sym is) (record {
            ends = ends_failed p lawful memory layout k FailQuestion w fill bytes r by.start t.bytes.items (step + 1) printed (event_of v) at step c;
            printed = printed;
          })

      pub turned_shown : IsRunBy p layout k limit TurnQuestion w fill bytes r → (at step : ℕ) → t.ending ≡ ending.Turned at step →
          IsShownAs p layout k TurnQuestion r (Accepted (ends.Turned at step) start)
      turned_shown by at step e =
          let c = (comes (ending.Turned at step) e).1 in
          let printed = printed_run p layout k TurnQuestion w fill bytes r by.start (all_reads p k r (last_of t.ending + 1)) t.bytes.items traced.bytes
          traced.rise (step + 1) by.choices (subst IsOver (sym c) tt) (ap (λ (x : Ending). all_reads p k r (last_of x + 1)) e) in
          subst (λ (x : Written). IsShown p layout k TurnQuestion r (ends.Turned at step) x) (sym is) (record {
            ends = ends_turned p lawful memory layout k TurnQuestion w fill bytes r by.start t.bytes.items (step + 1) printed at step c;
            printed = printed;
          })
