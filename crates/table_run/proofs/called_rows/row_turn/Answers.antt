use Rattle.std.proofs.Common.{◌≡◌, ◌∙◌, List, ap, sym, map, length, subst}
use Rattle.std.specs.Prelude.{◌&&◌, nat_lt, is_some, reverse}
use Rattle.std.proofs.lemmas.List.{length-reverse}
use Rattle.word_spec.specs.State.{State}
use Rattle.bilv_spec.specs.Run.{Place, Program, row_at, step}
use Rattle.frame_spec.specs.Frames as frames
use Rattle.frame_spec.specs.Frames.{contract_at}
use Rattle.frame_spec.specs.FrameRuns.{frame_step, links_by}
use Rattle.notes_value.specs.FrameViews.{contract_of}
use Rattle.state_text.specs.Starts.{event_of}
use Rattle.program_value.specs.Programs.{program_of}
use Rattle.table_run.specs.Traces.{unjudged}
use Rattle.table_run.specs.CalledFrames.{IsLeft, frame_in, landed, own_of}
use Rattle.table_run.proofs.CalledRows.{not_called, row_landed, row_lands, row_leaves, row_left, row_stops}
use Rattle.table_run.proofs.Stepped.{end_is}
use Rattle.table_run.proofs.called_rows.row_turn.Goals as goal

pub returns-in-Stops-clause-end : goal.returns-in-Stops-clause-end
returns-in-Stops-clause-end g c =
    let p : Program = program_of c.args.frame.now.program in
    let stepped : List frames.Contract = map contract_of c.args.frame.now.stepped.now in
    let own = own_of c.args.frame.now.own in
    let entry : State = g.M.State.View.view c.args.entry.now in
    let here : Place = record { state = g.M.State.View.view c.args.state.now; stack = reverse c.args.stack.now.items } in
    row_stops p stepped own entry here c.args.choice c.look_ahead-ahead.result.outside (c.look_ahead-ahead.ensures.outside entry c.requires.own)
    (event_of c.in-Stops.event)
    (end_is c.in_ok-event.field-0 _ (g.M.State.View.view c.walk.new.state) (reverse c.walk.new.stack.items) (step (unjudged p) entry here c.args.choice)
    c.in-Stops.is c.in_ok-event.ensures.end)
    ∙ c.halted.ensures p stepped own entry here

pub returns-in-Exits-clause-end : goal.returns-in-Exits-clause-end
returns-in-Exits-clause-end g c =
    let p : Program = program_of c.args.frame.now.program in
    let stepped : List frames.Contract = map contract_of c.args.frame.now.stepped.now in
    let own = own_of c.args.frame.now.own in
    let entry : State = g.M.State.View.view c.args.entry.now in
    let here : Place = record { state = g.M.State.View.view c.args.state.now; stack = reverse c.args.stack.now.items } in
    let s : State = g.M.State.View.view c.walk.new.state in
    row_left c.leave_within.result s (reverse c.walk.new.stack.items) (frame_step (frame_in c.args.frame.now) entry here c.args.choice)
    (subst (IsLeft c.leave_within.result)
    (sym (row_leaves p stepped own entry here c.args.choice c.look_ahead-ahead.result.outside (c.look_ahead-ahead.ensures.outside entry c.requires.own) s
    (end_is c.in_ok-event.field-0 _ s (reverse c.walk.new.stack.items) (step (unjudged p) entry here c.args.choice) c.in-Exits.is c.in_ok-event.ensures.end)))
    (c.leave_within.ensures here))

pub returns-in-Exits-clause-called : goal.returns-in-Exits-clause-called
returns-in-Exits-clause-called g c is =
    absurd (not_called c.leave_within.result _
    (c.leave_within.ensures (record { state = g.M.State.View.view c.args.state.now; stack = reverse c.args.stack.now.items })) is)

pub returns-in-Exits-clause-deeper : goal.returns-in-Exits-clause-deeper
returns-in-Exits-clause-deeper g c is =
    absurd (not_called c.leave_within.result _
    (c.leave_within.ensures (record { state = g.M.State.View.view c.args.state.now; stack = reverse c.args.stack.now.items })) is)

pub returns-in-Arrives-clause-end : goal.returns-in-Arrives-clause-end
returns-in-Arrives-clause-end g c =
    let p : Program = program_of c.args.frame.now.program in
    let stepped : List frames.Contract = map contract_of c.args.frame.now.stepped.now in
    let own = own_of c.args.frame.now.own in
    let entry : State = g.M.State.View.view c.args.entry.now in
    let here : Place = record { state = g.M.State.View.view c.args.state.now; stack = reverse c.args.stack.now.items } in
    let there : Place = record { state = g.M.State.View.view c.walk.new.state; stack = reverse c.walk.new.stack.items } in
    let row = row_at p (p.word here.state) here.state.pc in
    let depth : c.len-depth.result ≡ length here.stack = c.len-depth.ensures ∙ c.args.stack.now.ok.0 ∙ sym (length-reverse c.args.stack.now.items) in
    let after : c.len.result ≡ length there.stack = c.len.ensures ∙ c.walk.new.stack.ok.0 ∙ sym (length-reverse c.walk.new.stack.items) in
    let links = c.look_ahead-ahead.ensures.links in
    let same : (is_some (contract_at stepped c.pc.result) && nat_lt c.len-depth.result c.len.result && c.look_ahead-ahead.result.links)
    ≡ (is_some (contract_at stepped there.state.pc) && nat_lt (length here.stack) (length there.stack) && links_by row) =
    ap (λ a. is_some (contract_at stepped a) && nat_lt c.len-depth.result c.len.result && c.look_ahead-ahead.result.links) c.pc.ensures
    ∙ ap (λ n. is_some (contract_at stepped there.state.pc) && nat_lt n c.len.result && c.look_ahead-ahead.result.links) depth
    ∙ ap (λ n. is_some (contract_at stepped there.state.pc) && nat_lt (length here.stack) n && c.look_ahead-ahead.result.links) after
    ∙ ap (λ b. is_some (contract_at stepped there.state.pc) && nat_lt (length here.stack) (length there.stack) && b) links in
    row_landed c.look_ahead-ahead.result.outside
    (is_some (contract_at stepped there.state.pc) && nat_lt (length here.stack) (length there.stack) && links_by row) there
    (frame_step (frame_in c.args.frame.now) entry here c.args.choice)
    (row_lands p stepped own entry here c.args.choice c.look_ahead-ahead.result.outside (c.look_ahead-ahead.ensures.outside entry c.requires.own) there
    (end_is c.in_ok-event.field-0 _ there.state there.stack (step (unjudged p) entry here c.args.choice) c.in-Arrives.is c.in_ok-event.ensures.end))
    c.land.result (c.land.ensures ∙ ap (landed c.look_ahead-ahead.result.outside) same)
