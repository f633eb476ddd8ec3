use Rattle.std.proofs.Common.{◌≡◌, ◌-◌, ap}
use Rattle.std.specs.Prelude.{None, Some, Option, option_map}
use Rattle.program_value.specs.Programs.{program_of}
use Rattle.bilv_spec.specs.Run.{Program}
use Rattle.frame_spec.specs.FrameReports.{WrittenHead, head_place}
use Rattle.start_value.specs.Starts.{written_of}
use Rattle.state_text.specs.Starts.{written_head_of}
use Rattle.table_run.specs.FrameEnds.{frame_found_of, frame_of, start_by, start_shown}
use Rattle.bilv_spec.specs.Reports.{turns_within}
use Rattle.table_run.proofs.WatchedFrames.{watched_same}
use Rattle.table_run.proofs.FrameStarts.{found_same, gifts_shown, shown_entry, shown_head}
use Rattle.table_run.proofs.runs.run_seen.Goals as goal

pub returns-in-None-clause-found : goal.returns-in-None-clause-found
returns-in-None-clause-found g c =
    let p : Program = program_of c.args.program.now in
    let w = written_of c.args.start.now in
    let form = g.M.Machine.form in
    let head : Option WrittenHead = option_map (λ h. written_head_of h.now) c.args.head in
    let none : head ≡ None = ap (option_map (λ h. written_head_of h.now)) c.in-None.is in
    found_same (frame_of p c.args.invariants.now)
    (start_by (g.M.State.View.view c.in_ok-state.state) c.deref.result.now None (gifts_shown p c.args.invariants.now form w))
    (start_shown p c.args.invariants.now form w head) c.turns_within.result (c.args.limit - 1) c.args.k (frame_found_of c.in_ok-found-in-None.found.0)
    (shown_entry p c.args.invariants.now form w (g.M.State.View.view c.in_ok-state.state) c.deref.result.now head c.in_ok-state.ensures
    c.deref.ensures.value none) c.turns_within.ensures (c.in_ok-found-in-None.ensures.found (gifts_shown p c.args.invariants.now form w))

pub returns-clause-found : goal.returns-clause-found
returns-clause-found g c =
    let p : Program = program_of c.args.program.now in
    let w = written_of c.args.start.now in
    let form = g.M.Machine.form in
    let h : WrittenHead = written_head_of c.in-Some.head.now in
    let head : Option WrittenHead = option_map (λ h. written_head_of h.now) c.args.head in
    let some : head ≡ Some h = ap (option_map (λ h. written_head_of h.now)) c.in-Some.is in
    found_same (frame_of p c.args.invariants.now)
    (start_by (g.M.State.View.view c.in_ok-state.state) h.start.choices (Some (head_place p form h)) (gifts_shown p c.args.invariants.now form w))
    (start_shown p c.args.invariants.now form w head) c.turns_within.result (c.args.limit - 1) c.args.k (frame_found_of c.in_ok-found-in-Some.found.0)
    (shown_head p c.args.invariants.now form w (g.M.State.View.view c.in_ok-state.state) h head c.in_ok-state.ensures some)
    c.turns_within.ensures (c.in_ok-found-in-Some.ensures.found (gifts_shown p c.args.invariants.now form w))

pub returns-in-None-clause-seen : goal.returns-in-None-clause-seen
returns-in-None-clause-seen g c fresh =
    let p : Program = program_of c.args.program.now in
    let w = written_of c.args.start.now in
    let form = g.M.Machine.form in
    let head : Option WrittenHead = option_map (λ h. written_head_of h.now) c.args.head in
    let none : head ≡ None = ap (option_map (λ h. written_head_of h.now)) c.in-None.is in
    watched_same (frame_of p c.args.invariants.now) form
    (start_by (g.M.State.View.view c.in_ok-state.state) c.deref.result.now None (gifts_shown p c.args.invariants.now form w))
    (start_shown p c.args.invariants.now form w head) c.turns_within.result
    (turns_within (c.args.limit - 1) c.args.k) c.args.limit c.in_ok-found-in-None.found.0 c.follow_entry.new.seen (g.M.State.View.view c.in_ok-found-in-None.found.1)
    (shown_entry p c.args.invariants.now form w (g.M.State.View.view c.in_ok-state.state) c.deref.result.now head c.in_ok-state.ensures
    c.deref.ensures.value none) c.turns_within.ensures (c.in_ok-found-in-None.ensures.seen (gifts_shown p c.args.invariants.now form w) fresh)

pub returns-clause-seen : goal.returns-clause-seen
returns-clause-seen g c fresh =
    let p : Program = program_of c.args.program.now in
    let w = written_of c.args.start.now in
    let form = g.M.Machine.form in
    let h : WrittenHead = written_head_of c.in-Some.head.now in
    let head : Option WrittenHead = option_map (λ h. written_head_of h.now) c.args.head in
    let some : head ≡ Some h = ap (option_map (λ h. written_head_of h.now)) c.in-Some.is in
    watched_same (frame_of p c.args.invariants.now) form
    (start_by (g.M.State.View.view c.in_ok-state.state) h.start.choices (Some (head_place p form h)) (gifts_shown p c.args.invariants.now form w))
    (start_shown p c.args.invariants.now form w head) c.turns_within.result
    (turns_within (c.args.limit - 1) c.args.k) c.args.limit c.in_ok-found-in-Some.found.0 c.follow_head.new.seen (g.M.State.View.view c.in_ok-found-in-Some.found.1)
    (shown_head p c.args.invariants.now form w (g.M.State.View.view c.in_ok-state.state) h head c.in_ok-state.ensures some)
    c.turns_within.ensures (c.in_ok-found-in-Some.ensures.seen (gifts_shown p c.args.invariants.now form w) fresh)
