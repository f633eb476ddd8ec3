use Rattle.std.proofs.Common.{◌≡◌, ◌-◌, arith, refl, sym, ap, subst, ◌∙◌}
use Rattle.std.specs.Prelude.{[], None, reverse}
use Rattle.word_spec.specs.State.{State}
use Rattle.bilv_spec.specs.Run.{Place}
use Rattle.frame_spec.specs.Frames.{Frame, is_head}
use Rattle.frame_spec.specs.FrameRuns.{Start, run}
use Rattle.frame_spec.specs.FrameFound.{found_within}
use Rattle.program_value.specs.Programs.{program_of}
use Rattle.table_run.specs.FrameEnds.{Begins, frame_found_of, frame_of, start_by}
use Rattle.table_run.specs.WatchedRuns.{IsFrameWatched}
use Rattle.table_run.proofs.WatchedFrames.{arrival_last}
use Rattle.table_run.proofs.FrameFounds.{found_arrival}
use Rattle.table_run.proofs.FrameStarts.{entry_begins, entry_arrives}
use Rattle.table_run.proofs.runs.follow_entry.Goals as goal

pub returns-then-is_head-clause-found : goal.returns-then-is_head-clause-found
returns-then-is_head-clause-found g c given =
    let f : Frame = frame_of (program_of c.args.p.now) c.args.invariants.now in
    let s : State = g.M.State.View.view c.args.state in
    let start : Start = start_by s c.args.choices.now None given in
    c.arrival-ending.ensures.found (run f c.args.limits.turns start (c.args.limits.steps - 1))
    ∙ sym (found_arrival f c.args.limits.turns start 0 0 (c.args.limits.steps - 1) (record { state = s; stack = [] })
    (entry_arrives f s c.args.limits.turns c.args.choices.now given
    (sym (c.if-is_head.ensures ∙ ap (is_head f) c.pc.ensures))) (omega arith))

pub returns-clause-found : goal.returns-clause-found
returns-clause-found g c given =
    let f : Frame = frame_of (program_of c.args.p.now) c.args.invariants.now in
    let s : State = g.M.State.View.view c.args.state in
    let there : Place = record { state = s; stack = reverse c.new.result.items } in
    let begun : Begins f s None there =
    entry_begins f s s c.new.result.items (sym (c.if-is_head.ensures ∙ ap (is_head f) c.pc.ensures)) refl c.new.ensures.items in
    subst (λ (t : State). frame_found_of c.in_ok-found.found.0
    ≡ found_within f c.args.limits.turns (start_by t c.args.choices.now None given) (c.args.limits.steps - 1)) c.in_ok-first.ensures
    (c.in_ok-found.ensures.found None given (subst (λ (t : State). Begins f t None there) (sym c.in_ok-first.ensures) begun))

pub returns-then-is_head-clause-seen : goal.returns-then-is_head-clause-seen
returns-then-is_head-clause-seen g c given fresh =
    let f : Frame = frame_of (program_of c.args.p.now) c.args.invariants.now in
    let s : State = g.M.State.View.view c.args.state in
    let start : Start = start_by s c.args.choices.now None given in
    let some = c.requires.some in
    arrival_last f g.M.Machine.form c.args.limits.turns start 0 0 (record { state = s; stack = [] })
    (entry_arrives f s c.args.limits.turns c.args.choices.now given (sym (c.if-is_head.ensures ∙ ap (is_head f) c.pc.ensures))) c.note_arrival.new.observer
    c.args.limits.steps 0 _ (omega (arith, some)) refl c.arrival-ending.ensures.number (c.in_ok-note_arrival.ensures [] fresh)

pub returns-clause-seen : goal.returns-clause-seen
returns-clause-seen g c given fresh =
    let f : Frame = frame_of (program_of c.args.p.now) c.args.invariants.now in
    let s : State = g.M.State.View.view c.args.state in
    let there : Place = record { state = s; stack = reverse c.new.result.items } in
    let begun : Begins f s None there =
    entry_begins f s s c.new.result.items (sym (c.if-is_head.ensures ∙ ap (is_head f) c.pc.ensures)) refl c.new.ensures.items in
    subst (λ (t : State). IsFrameWatched f g.M.Machine.form c.args.limits.turns (start_by t c.args.choices.now None given) c.args.limits.steps
    c.in_ok-found.found.0 c.follow.new.seen (g.M.State.View.view c.in_ok-found.found.1)) c.in_ok-first.ensures
    (c.in_ok-found.ensures.seen None given fresh (subst (λ (t : State). Begins f t None there) (sym c.in_ok-first.ensures) begun))
