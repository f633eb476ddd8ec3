use Rattle.std.proofs.Common.{◌≡◌, ℕ, ◌≤◌, ◌∙◌, List, length, map, refl, take, sym, ap, subst}
use Rattle.std.specs.Prelude.{All, slice_get}
use Rattle.std.proofs.Math.Path.{fun_ext}
use Rattle.std.proofs.lemmas.List.{length-map, take-map}
use Rattle.std.proofs.lemmas.List.Elements.{All-map}
use Rattle.word_spec.specs.State.{State, Written}
use Rattle.machine_spec.specs.StateText.{Layout}
use Rattle.bilv_spec.specs.Run.{Program}
use Rattle.frame_spec.specs.Frames as frames
use Rattle.frame_spec.specs.FrameReports.{IsWrittenCall, WrittenCall, registers_of}
use Rattle.frame_spec.specs.FrameRuns.{Start}
use Rattle.notes_value.specs.FrameViews.{contract_of}
use Rattle.program_value.specs.declared.frame.RankedFrame.{RankedFrame}
use Rattle.start_value.specs.Starts.{written_of}
use Rattle.state_text.specs.Starts.{written_call_of}
use Rattle.table_run.specs.CalledFrames.{called_frame}
use Rattle.table_run.specs.CalledRuns.{AreChanged, called_start, frame_of_rank, start_called, whole_in}
use Rattle.table_run.specs.MadeCalls.{AreListed, IsShownOf}
use Rattle.table_run.proofs.Lists.{unmapped}
use Rattle.table_run.proofs.Ranks.{blocks_are, loaded_by, rank_is, registers_taken, start_kept, start_same}
use Rattle.table_run.proofs.ShownLists.{AreInOrder, calls_rising}
use Rattle.table_run.proofs.ShownRuns.{shown_rising, written_shown}
use Rattle.table_run.proofs.made.made_calls.Goals as goal

pub made_ranked-requires-clause-kept : goal.made_ranked-requires-clause-kept
made_ranked-requires-clause-kept g c =
    start_kept (whole_in c.args.frame.now).program (frame_of_rank c.args.frame.now).program g.M.Machine.form
    (written_of c.args.start.now) (g.M.State.View.view c.in_ok-state.state) (loaded_by (whole_in c.args.frame.now) c.args.frame.now.rank)
    (c.in_ok-state.ensures (map written_call_of c.args.calls.now))

pub made_ranked-requires-clause-blocks : goal.made_ranked-requires-clause-blocks
made_ranked-requires-clause-blocks g c = blocks_are (whole_in c.args.frame.now) g.M.Machine.form c.args.calls.now c.requires.blocks

whole_made : {M I S : _} {m : _} {v : _} (form : Layout) (f : RankedFrame M I S m v) (state : State) (w : Written) (choices : List (ℕ × ℕ)) (calls : List WrittenCall) (k count : ℕ)
    (made : List WrittenCall) → f.rank ≤ length f.contracts.now → state ≡ (start_called form f w calls).state → choices ≡ w.choices →
    AreListed (frame_of_rank f) k (start_called form f w calls) calls count →
    ((registers : ℕ → List ℕ) → AreChanged registers (map contract_of (take f.rank f.contracts.now)) →
    AreListed (called_frame (whole_in f).program (map contract_of (take f.rank f.contracts.now)) (slice_get (map contract_of f.contracts.now) f.rank)) k
    (called_start state choices registers calls) calls count →
    IsShownOf (called_frame (whole_in f).program (map contract_of (take f.rank f.contracts.now)) (slice_get (map contract_of f.contracts.now) f.rank)) k
    (called_start state choices registers) calls count made) → IsShownOf (frame_of_rank f) k (start_called form f w) calls count made
whole_made form f state w choices calls k count made few is same listed follows =
    let all : List frames.Contract = map contract_of f.contracts.now in
    let taken : take f.rank all ≡ map contract_of (take f.rank f.contracts.now) = take-map contract_of f.rank f.contracts.now in
    let within : f.rank ≤ length all = subst (λ n. f.rank ≤ n) (sym (length-map f.contracts.now contract_of)) few in
    let p : Program = (whole_in f).program in
    let registers = registers_of (whole_in f) in
    let changed : AreChanged registers (map contract_of (take f.rank f.contracts.now)) =
    subst (AreChanged registers) taken (registers_taken (whole_in f) f.rank) in
    let frame : called_frame p (map contract_of (take f.rank f.contracts.now)) (slice_get all f.rank) ≡ frame_of_rank f =
    ap (λ l. called_frame p l (slice_get all f.rank)) (sym taken) ∙ rank_is p all f.rank within in
    let starts : called_start state choices registers ≡ start_called form f w =
    fun_ext (λ l. start_same state (start_called form f w l).state choices w.choices registers l is same) in
    subst (λ (z : frames.Frame). IsShownOf z k (start_called form f w) calls count made) frame
    (subst (λ (s : List WrittenCall → Start). IsShownOf (called_frame p (map contract_of (take f.rank f.contracts.now)) (slice_get all f.rank)) k s calls
    count made) starts
    (follows registers changed
    (subst (λ (s : List WrittenCall → Start). AreListed (called_frame p (map contract_of (take f.rank f.contracts.now)) (slice_get all f.rank)) k (s calls) calls
    count) (sym starts)
    (subst (λ (z : frames.Frame). AreListed z k (start_called form f w calls) calls count) (sym frame) listed))))

pub returns : goal.returns
returns g c =
    let v = whole_in c.args.frame.now in
    let f = frame_of_rank c.args.frame.now in
    let calls = map written_call_of c.args.calls.now in
    let items = c.in_ok-made.made.items in
    let start = start_called g.M.Machine.form c.args.frame.now (written_of c.args.start.now) in
    let r = whole_made g.M.Machine.form c.args.frame.now (g.M.State.View.view c.in_ok-state.state) (written_of c.args.start.now)
    c.deref.result.now calls c.args.k c.args.limit (map written_call_of items)
    c.args.frame.now.ranked (c.in_ok-state.ensures calls) c.deref.ensures.value c.requires.listed c.in_ok-made.ensures in
    record {
      written = unmapped (IsWrittenCall v g.M.Machine.form) written_call_of items items refl
          (subst (All (IsWrittenCall v g.M.Machine.form)) (sym r.is)
          (written_shown v g.M.Machine.form f (start calls) calls c.args.k c.args.limit
          (All-map (IsWrittenCall v g.M.Machine.form) written_call_of c.args.calls.now c.requires.blocks)));
      rising = calls_rising items (subst AreInOrder (sym r.is) (shown_rising f (start calls) calls c.args.k c.args.limit));
      alike = r.alike;
      each = r.each;
      made = r.whole;
    }
