-- Runs of a frame by its rank.
use Rattle.std.proofs.Common.{◌≡◌, ℕ, ◌≤◌, ◌∙◌, List, length, map, take, sym, ap, subst}
use Rattle.std.specs.Prelude.{slice_get}
use Rattle.std.proofs.lemmas.List.{length-map, take-map}
use Rattle.word_spec.specs.State.{State, Written}
use Rattle.machine_spec.specs.StateText.{Layout}
use Rattle.bilv_spec.specs.Run.{Program}
use Rattle.frame_spec.specs.Frames as frames
use Rattle.frame_spec.specs.FrameRuns.{Start}
use Rattle.frame_spec.specs.FrameReports.{WrittenCall, registers_of}
use Rattle.notes_value.specs.FrameViews.{contract_of}
use Rattle.program_value.specs.declared.frame.RankedFrame.{RankedFrame}
use Rattle.table_run.specs.CalledFrames.{called_frame}
use Rattle.table_run.specs.CalledRuns.{AreChanged, IsRun, called_start, frame_of_rank, start_called, whole_in}
use Rattle.table_run.specs.WatchedRuns.{IsWatched}
use Rattle.table_run.specs.declared.ending.CalledEnding.{CalledEnding}
use Rattle.table_run.specs.declared.ending.CalledRun.{CalledRun}
use Rattle.table_run.specs.declared.observers.Observer.{Observer}
use Rattle.table_run.proofs.Ranks.{rank_is, registers_taken, run_is, start_same}

pub whole_run : {M I S : _} {m : _} {v : _} (form : Layout) (f : RankedFrame M I S m v) (state : State) (w : Written) (choices : List (ℕ × ℕ)) (calls : List WrittenCall) (k j last : ℕ)
    (run : CalledRun) → f.rank ≤ length f.contracts.now → state ≡ (start_called form f w calls).state → choices ≡ w.choices → k ≡ j →
    ((registers : ℕ → List ℕ) → AreChanged registers (map contract_of (take f.rank f.contracts.now)) →
    IsRun (called_frame (whole_in f).program (map contract_of (take f.rank f.contracts.now)) (slice_get (map contract_of f.contracts.now) f.rank)) k
    (called_start state choices registers calls) calls last run) → IsRun (frame_of_rank f) j (start_called form f w calls) calls last run
whole_run form f state w choices calls k j last run few is same bounds follows =
    let all : List frames.Contract = map contract_of f.contracts.now in
    let taken : take f.rank all ≡ map contract_of (take f.rank f.contracts.now) = take-map contract_of f.rank f.contracts.now in
    let within : f.rank ≤ length all = subst (λ n. f.rank ≤ n) (sym (length-map f.contracts.now contract_of)) few in
    let p : Program = (whole_in f).program in
    let registers = registers_of (whole_in f) in
    let changed : AreChanged registers (map contract_of (take f.rank f.contracts.now)) =
    subst (AreChanged registers) taken (registers_taken (whole_in f) f.rank) in
    run_is (called_frame p (map contract_of (take f.rank f.contracts.now)) (slice_get all f.rank)) (frame_of_rank f)
    (called_start state choices registers calls) (start_called form f w calls) k j calls last run
    (ap (λ l. called_frame p l (slice_get all f.rank)) (sym taken) ∙ rank_is p all f.rank within)
    (start_same state (start_called form f w calls).state choices w.choices registers calls is same) bounds (follows registers changed)

watched_is : (F G : frames.Frame) (s t : Start) (form : Layout) (k j count : ℕ) (e : CalledEnding) (o : Observer) (new : State) → F ≡ G → s ≡ t → k ≡ j →
    IsWatched F form k s count e o new → IsWatched G form j t count e o new
watched_is F G s t form k j count e o new frames starts bounds is =
    subst (λ z. IsWatched z form j t count e o new) frames
    (subst (λ z. IsWatched F form j z count e o new) starts (subst (λ z. IsWatched F form z s count e o new) bounds is))

pub whole_watched : {M I S : _} {m : _} {v : _} (form : Layout) (f : RankedFrame M I S m v) (state : State) (w : Written) (choices : List (ℕ × ℕ))
    (calls : List WrittenCall) (k j count : ℕ) (e : CalledEnding) (o : Observer) (new : State) → f.rank ≤ length f.contracts.now →
    state ≡ (start_called form f w calls).state → choices ≡ w.choices → k ≡ j →
    ((registers : ℕ → List ℕ) → AreChanged registers (map contract_of (take f.rank f.contracts.now)) →
    IsWatched (called_frame (whole_in f).program (map contract_of (take f.rank f.contracts.now)) (slice_get (map contract_of f.contracts.now) f.rank)) form k
    (called_start state choices registers calls) count e o new) → IsWatched (frame_of_rank f) form j (start_called form f w calls) count e o new
whole_watched form f state w choices calls k j count e o new few is same bounds follows =
    let all : List frames.Contract = map contract_of f.contracts.now in
    let taken : take f.rank all ≡ map contract_of (take f.rank f.contracts.now) = take-map contract_of f.rank f.contracts.now in
    let within : f.rank ≤ length all = subst (λ n. f.rank ≤ n) (sym (length-map f.contracts.now contract_of)) few in
    let p : Program = (whole_in f).program in
    let registers = registers_of (whole_in f) in
    let changed : AreChanged registers (map contract_of (take f.rank f.contracts.now)) =
    subst (AreChanged registers) taken (registers_taken (whole_in f) f.rank) in
    watched_is (called_frame p (map contract_of (take f.rank f.contracts.now)) (slice_get all f.rank)) (frame_of_rank f)
    (called_start state choices registers calls) (start_called form f w calls) form k j count e o new
    (ap (λ l. called_frame p l (slice_get all f.rank)) (sym taken) ∙ rank_is p all f.rank within)
    (start_same state (start_called form f w calls).state choices w.choices registers calls is same) bounds (follows registers changed)
