use Rattle.std.proofs.Common.{◌≡◌, ℕ, suc, ◌+◌, ◌-◌, ◌≤◌, List, length, ap, arith, refl, subst, sym, ◌∙◌}
use Rattle.std.proofs.lemmas.List.{length-reverse}
use Rattle.word_spec.specs.State.{State}
use Rattle.trace_spec.specs.Seen as trace
use Rattle.trace_spec.specs.Seen.{seen_steps}
use Rattle.table_run.specs.Watching.{HasSeen, frame_later_of, row_places, row_stored}
use Rattle.table_run.proofs.WatchedFrames.{arrival_last, row_last, row_next}
use Rattle.table_run.proofs.WatchedRuns.{seen_over}
use Rattle.std.specs.Prelude.{reverse}
use Rattle.bilv_spec.specs.Run.{Place}
use Rattle.frame_spec.specs.Frames.{Frame}
use Rattle.frame_spec.specs.FrameRuns.{Exited, Failed, Start, Turned, after_step, run}
use Rattle.program_value.specs.Programs.{program_of}
use Rattle.state_text.specs.Starts.{frame_event_of}
use Rattle.table_run.specs.FrameEnds.{frame_of, start_by}
use Rattle.table_run.proofs.FrameFounds.{found_event, found_exit, found_turn, found_left, found_arrival, next, reached, reached_left, one_step, turned_out}
use Rattle.table_run.proofs.FrameStarts.{first_going}
use Rattle.table_run.proofs.FrameSteps.{frame_end_is}
use Rattle.table_run.proofs.runs.follow.Goals as goal

pub loop-stack-init : goal.loop-stack-init
loop-stack-init g c = record {
  few = omega arith;
  within = omega arith;
  seen = λ head given fresh begun. fresh;
  run = λ head given begun.
      first_going (frame_of (program_of c.args.p.now) c.args.invariants.now) c.args.limits.turns (g.M.State.View.view c.args.entry.now)
      c.args.choices.now head given (record { state = g.M.State.View.view c.args.state; stack = reverse c.args.stack.items }) begun;
}

pub returns-in-Halts-clause-found : goal.returns-in-Halts-clause-found
returns-in-Halts-clause-found g c head given begun =
    let within = c.loop-stack.invariant.within in
    found_event (frame_of (program_of c.args.p.now) c.args.invariants.now) c.args.limits.turns
    (start_by (g.M.State.View.view c.args.entry.now) c.args.choices.now head given)
    c.loop-stack.turns c.loop-stack.n (c.args.limits.steps - 1) c.choice_at-choice.result c.pc-at.result
    (record { state = g.M.State.View.view c.loop-stack.state; stack = reverse c.loop-stack.stack.items }) c.choice_at-choice.ensures c.pc-at.ensures
    (c.loop-stack.invariant.run head given begun) (frame_event_of c.in-Halts.event) (omega arith)
    (frame_end_is c.in_ok-end.end _ (g.M.State.View.view c.frame_step.new.state) (reverse c.frame_step.new.stack.items) _ c.in-Halts.is
    c.in_ok-end.ensures.end)

pub returns-in-Leaves-clause-found : goal.returns-in-Leaves-clause-found
returns-in-Leaves-clause-found g c head given begun =
    let within = c.loop-stack.invariant.within in
    found_exit (frame_of (program_of c.args.p.now) c.args.invariants.now) c.args.limits.turns
    (start_by (g.M.State.View.view c.args.entry.now) c.args.choices.now head given)
    c.loop-stack.turns c.loop-stack.n (c.args.limits.steps - 1) c.choice_at-choice.result c.pc-at.result
    (record { state = g.M.State.View.view c.loop-stack.state; stack = reverse c.loop-stack.stack.items }) c.choice_at-choice.ensures c.pc-at.ensures
    (c.loop-stack.invariant.run head given begun) (g.M.State.View.view c.frame_step.new.state) (omega arith)
    (frame_end_is c.in_ok-end.end _ (g.M.State.View.view c.frame_step.new.state) (reverse c.frame_step.new.stack.items) _ c.in-Leaves.is
    c.in_ok-end.ensures.end)

pub returns-then-n-limits-clause-found : goal.returns-then-n-limits-clause-found
returns-then-n-limits-clause-found g c head given begun =
    let last : c.loop-stack.n ≡ c.args.limits.steps - 1 = omega arith in
    reached_left (frame_of (program_of c.args.p.now) c.args.invariants.now) c.args.limits.turns
    (start_by (g.M.State.View.view c.args.entry.now) c.args.choices.now head given)
    c.loop-stack.turns c.loop-stack.n (c.args.limits.steps - 1) c.choice_at-choice.result c.pc-at.result
    (record { state = g.M.State.View.view c.loop-stack.state; stack = reverse c.loop-stack.stack.items }) c.choice_at-choice.ensures c.pc-at.ensures
    (c.loop-stack.invariant.run head given begun)
    (record { state = g.M.State.View.view c.frame_step.new.state; stack = reverse c.frame_step.new.stack.items })
    (frame_end_is c.in_ok-end.end _ (g.M.State.View.view c.frame_step.new.state) (reverse c.frame_step.new.stack.items) _ c.in-Reaches.is
    c.in_ok-end.ensures.end) last

pub returns-in-Reaches-clause-found : goal.returns-in-Reaches-clause-found
returns-in-Reaches-clause-found g c head given begun =
    let within = c.loop-stack.invariant.within in
    let other = c.if-n-limits.false in
    let f : Frame = frame_of (program_of c.args.p.now) c.args.invariants.now in
    let start : Start = start_by (g.M.State.View.view c.args.entry.now) c.args.choices.now head given in
    let there : Place = record { state = g.M.State.View.view c.frame_step.new.state; stack = reverse c.frame_step.new.stack.items } in
    c.arrival-ending.ensures.found (run f c.args.limits.turns start (c.args.limits.steps - 1))
    ∙ sym (found_arrival f c.args.limits.turns start c.loop-stack.turns (c.loop-stack.n + 1) (c.args.limits.steps - 1) there
    (reached f c.args.limits.turns start c.loop-stack.turns c.loop-stack.n (c.args.limits.steps - 1) c.choice_at-choice.result c.pc-at.result
    (record { state = g.M.State.View.view c.loop-stack.state; stack = reverse c.loop-stack.stack.items }) c.choice_at-choice.ensures c.pc-at.ensures
    (c.loop-stack.invariant.run head given begun) there
    (frame_end_is c.in_ok-end.end _ (g.M.State.View.view c.frame_step.new.state) (reverse c.frame_step.new.stack.items) _ c.in-Reaches.is
    c.in_ok-end.ensures.end)) (omega arith))

pub returns-in-None-clause-found : goal.returns-in-None-clause-found
returns-in-None-clause-found g c head given begun =
    let within = c.loop-stack.invariant.within in
    let d : Place = record { state = g.M.State.View.view c.frame_step.new.state; stack = reverse c.frame_step.new.stack.items } in
    found_turn (frame_of (program_of c.args.p.now) c.args.invariants.now) c.args.limits.turns
    (start_by (g.M.State.View.view c.args.entry.now) c.args.choices.now head given)
    c.loop-stack.turns c.loop-stack.n (c.args.limits.steps - 1) c.choice_at-choice.result c.pc-at.result
    (record { state = g.M.State.View.view c.loop-stack.state; stack = reverse c.loop-stack.stack.items }) c.choice_at-choice.ensures c.pc-at.ensures
    (c.loop-stack.invariant.run head given begun) d c.pc.result c.pc.ensures
    (frame_end_is c.in_ok-end.end _ (g.M.State.View.view c.frame_step.new.state) (reverse c.frame_step.new.stack.items) _ c.in-GoesTo.is
    c.in_ok-end.ensures.end) (omega arith) (c.in-None.ensures.turned c.loop-stack.n d)

pub returns-then-n-limits-2-clause-found : goal.returns-then-n-limits-2-clause-found
returns-then-n-limits-2-clause-found g c head given begun =
    let last : c.loop-stack.n ≡ c.args.limits.steps - 1 = omega arith in
    let d : Place = record { state = g.M.State.View.view c.frame_step.new.state; stack = reverse c.frame_step.new.stack.items } in
    found_left (frame_of (program_of c.args.p.now) c.args.invariants.now) c.args.limits.turns
    (start_by (g.M.State.View.view c.args.entry.now) c.args.choices.now head given)
    c.loop-stack.turns c.loop-stack.n (c.args.limits.steps - 1) c.choice_at-choice.result c.pc-at.result
    (record { state = g.M.State.View.view c.loop-stack.state; stack = reverse c.loop-stack.stack.items }) c.choice_at-choice.ensures c.pc-at.ensures
    (c.loop-stack.invariant.run head given begun) d c.pc.result c.pc.ensures
    (frame_end_is c.in_ok-end.end _ (g.M.State.View.view c.frame_step.new.state) (reverse c.frame_step.new.stack.items) _ c.in-GoesTo.is
    c.in_ok-end.ensures.end) c.in-Some.more last (c.in-Some.ensures.turned c.loop-stack.n d)

pub loop-stack-preserved : goal.loop-stack-preserved
loop-stack-preserved g c =
    let few = c.loop-stack.invariant.few in
    let within = c.loop-stack.invariant.within in
    let more = c.in-Some.ensures.few in
    let other = c.if-n-limits-2.false in
    let d : Place = record { state = g.M.State.View.view c.frame_step.new.state; stack = reverse c.frame_step.new.stack.items } in
    record {
      few = omega arith;
      within = omega arith;
      seen = λ head given fresh begun. (
          let f : Frame = frame_of (program_of c.args.p.now) c.args.invariants.now in
          let k = c.args.limits.turns in
          let start : Start = start_by (g.M.State.View.view c.args.entry.now) c.args.choices.now head given in
          let form = g.M.Machine.form in
          let n = c.loop-stack.n in
          let here : Place = record { state = g.M.State.View.view c.loop-stack.state; stack = reverse c.loop-stack.stack.items } in
          let new : State = g.M.State.View.view c.frame_step.new.state in
          let after : List ℕ = reverse c.frame_step.new.stack.items in
          let choice = c.choice_at-choice.result in
          let drawn = c.choice_at-choice.ensures in
          let going = c.loop-stack.invariant.run head given begun in
          let left = c.in_ok-end.ensures.left in
          let has = c.loop-stack.invariant.seen head given fresh begun in
          let depth = c.len-depth.result in
          let deep : depth ≡ length here.stack = c.len-depth.ensures ∙ c.loop-stack.stack.ok.0 ∙ sym (length-reverse c.loop-stack.stack.items) in
          let later = c.frame_later-later.result in
          let deeper : later ≡ frame_later_of c.in_ok-end.end depth (length after) =
          c.frame_later-later.ensures ∙ ap (frame_later_of c.in_ok-end.end depth)
          (c.len.ensures ∙ c.frame_step.new.stack.ok.0 ∙ sym (length-reverse c.frame_step.new.stack.items)) in
          let grown = row_next f form k start c.loop-stack.turns n choice here drawn going new left c.in_ok-end.end after depth later c.in_ok-end.ensures.end deep
          deeper c.note.new.observer (c.in_ok-note.ensures (seen_steps f form k start n) n trace.OfRow here.state depth
          (row_stored f.program here.state) (row_places f.program here.state) c.in_ok-look.ensures.glance has) in
          let up : suc n ≡ n + 1 = omega arith in
          subst (λ j. HasSeen c.note.new.observer (seen_steps f form k start j)) up grown);
      run = λ head given begun.
          one_step (frame_of (program_of c.args.p.now) c.args.invariants.now) c.args.limits.turns
          (start_by (g.M.State.View.view c.args.entry.now) c.args.choices.now head given)
          c.loop-stack.turns c.loop-stack.n (c.args.limits.steps - 1) c.choice_at-choice.result c.pc-at.result
          (record { state = g.M.State.View.view c.loop-stack.state; stack = reverse c.loop-stack.stack.items }) c.choice_at-choice.ensures c.pc-at.ensures
          (c.loop-stack.invariant.run head given begun) d c.pc.result c.pc.ensures
          (frame_end_is c.in_ok-end.end _ (g.M.State.View.view c.frame_step.new.state) (reverse c.frame_step.new.stack.items) _ c.in-GoesTo.is
          c.in_ok-end.ensures.end) c.in-Some.more (c.in-Some.ensures.turned c.loop-stack.n d);
    }

pub loop-stack-preserved-else-n-limits-2 : goal.loop-stack-preserved-else-n-limits-2
loop-stack-preserved-else-n-limits-2 g c =
    let few = c.loop-stack.invariant.few in
    let within = c.loop-stack.invariant.within in
    let more = c.in-Some.ensures.few in
    let other = c.if-n-limits-2.false in
    let d : Place = record { state = g.M.State.View.view c.frame_step.new.state; stack = reverse c.frame_step.new.stack.items } in
    record {
      few = omega arith;
      within = omega arith;
      seen = λ head given fresh begun. (
          let f : Frame = frame_of (program_of c.args.p.now) c.args.invariants.now in
          let k = c.args.limits.turns in
          let start : Start = start_by (g.M.State.View.view c.args.entry.now) c.args.choices.now head given in
          let form = g.M.Machine.form in
          let n = c.loop-stack.n in
          let here : Place = record { state = g.M.State.View.view c.loop-stack.state; stack = reverse c.loop-stack.stack.items } in
          let new : State = g.M.State.View.view c.frame_step.new.state in
          let after : List ℕ = reverse c.frame_step.new.stack.items in
          let choice = c.choice_at-choice.result in
          let drawn = c.choice_at-choice.ensures in
          let going = c.loop-stack.invariant.run head given begun in
          let left = c.in_ok-end.ensures.left in
          let has = c.loop-stack.invariant.seen head given fresh begun in
          let depth = c.len-depth.result in
          let deep : depth ≡ length here.stack = c.len-depth.ensures ∙ c.loop-stack.stack.ok.0 ∙ sym (length-reverse c.loop-stack.stack.items) in
          let later = c.frame_later-later.result in
          let deeper : later ≡ frame_later_of c.in_ok-end.end depth (length after) =
          c.frame_later-later.ensures ∙ ap (frame_later_of c.in_ok-end.end depth)
          (c.len.ensures ∙ c.frame_step.new.stack.ok.0 ∙ sym (length-reverse c.frame_step.new.stack.items)) in
          let grown = row_next f form k start c.loop-stack.turns n choice here drawn going new left c.in_ok-end.end after depth later c.in_ok-end.ensures.end deep
          deeper c.note.new.observer (c.in_ok-note.ensures (seen_steps f form k start n) n trace.OfRow here.state depth
          (row_stored f.program here.state) (row_places f.program here.state) c.in_ok-look.ensures.glance has) in
          let up : suc n ≡ n + 1 = omega arith in
          subst (λ j. HasSeen c.note.new.observer (seen_steps f form k start j)) up grown);
      run = λ head given begun.
          one_step (frame_of (program_of c.args.p.now) c.args.invariants.now) c.args.limits.turns
          (start_by (g.M.State.View.view c.args.entry.now) c.args.choices.now head given)
          c.loop-stack.turns c.loop-stack.n (c.args.limits.steps - 1) c.choice_at-choice.result c.pc-at.result
          (record { state = g.M.State.View.view c.loop-stack.state; stack = reverse c.loop-stack.stack.items }) c.choice_at-choice.ensures c.pc-at.ensures
          (c.loop-stack.invariant.run head given begun) d c.pc.result c.pc.ensures
          (frame_end_is c.in_ok-end.end _ (g.M.State.View.view c.frame_step.new.state) (reverse c.frame_step.new.stack.items) _ c.in-GoesTo.is
          c.in_ok-end.ensures.end) c.in-Some.more (c.in-Some.ensures.turned c.loop-stack.n d);
    }

pub returns-in-Halts-clause-seen : goal.returns-in-Halts-clause-seen
returns-in-Halts-clause-seen g c head given fresh begun =
    let within = c.loop-stack.invariant.within in
    let f : Frame = frame_of (program_of c.args.p.now) c.args.invariants.now in
    let k = c.args.limits.turns in
    let start : Start = start_by (g.M.State.View.view c.args.entry.now) c.args.choices.now head given in
    let form = g.M.Machine.form in
    let n = c.loop-stack.n in
    let here : Place = record { state = g.M.State.View.view c.loop-stack.state; stack = reverse c.loop-stack.stack.items } in
    let new : State = g.M.State.View.view c.frame_step.new.state in
    let after : List ℕ = reverse c.frame_step.new.stack.items in
    let choice = c.choice_at-choice.result in
    let drawn = c.choice_at-choice.ensures in
    let going = c.loop-stack.invariant.run head given begun in
    let left = c.in_ok-end.ensures.left in
    let has = c.loop-stack.invariant.seen head given fresh begun in
    let depth = c.len-depth.result in
    let deep : depth ≡ length here.stack = c.len-depth.ensures ∙ c.loop-stack.stack.ok.0 ∙ sym (length-reverse c.loop-stack.stack.items) in
    let later = c.frame_later-later.result in
    let deeper : later ≡ frame_later_of c.in_ok-end.end depth (length after) =
    c.frame_later-later.ensures ∙ ap (frame_later_of c.in_ok-end.end depth)
    (c.len.ensures ∙ c.frame_step.new.stack.ok.0 ∙ sym (length-reverse c.frame_step.new.stack.items)) in
    let grown = row_next f form k start c.loop-stack.turns n choice here drawn going new left c.in_ok-end.end after depth later c.in_ok-end.ensures.end deep
    deeper c.note.new.observer (c.in_ok-note.ensures (seen_steps f form k start n) n trace.OfRow here.state depth
    (row_stored f.program here.state) (row_places f.program here.state) c.in_ok-look.ensures.glance has) in
    let enough : suc n ≤ c.args.limits.steps = omega (arith, within) in
    row_last f form k start c.loop-stack.turns n choice here drawn going new left c.note.new.observer c.args.limits.steps _ grown
    (seen_over f form k start n (Failed (frame_event_of c.in-Halts.event) here.state.pc n) tt (next f k start c.loop-stack.turns n (c.args.limits.steps - 1) choice c.pc-at.result here drawn c.pc-at.ensures going _ (ap (after_step k c.loop-stack.turns n here.state.pc) (frame_end_is c.in_ok-end.end _ new after _ c.in-Halts.is c.in_ok-end.ensures.end))) c.args.limits.steps enough) refl

pub returns-in-Leaves-clause-seen : goal.returns-in-Leaves-clause-seen
returns-in-Leaves-clause-seen g c head given fresh begun =
    let within = c.loop-stack.invariant.within in
    let f : Frame = frame_of (program_of c.args.p.now) c.args.invariants.now in
    let k = c.args.limits.turns in
    let start : Start = start_by (g.M.State.View.view c.args.entry.now) c.args.choices.now head given in
    let form = g.M.Machine.form in
    let n = c.loop-stack.n in
    let here : Place = record { state = g.M.State.View.view c.loop-stack.state; stack = reverse c.loop-stack.stack.items } in
    let new : State = g.M.State.View.view c.frame_step.new.state in
    let after : List ℕ = reverse c.frame_step.new.stack.items in
    let choice = c.choice_at-choice.result in
    let drawn = c.choice_at-choice.ensures in
    let going = c.loop-stack.invariant.run head given begun in
    let left = c.in_ok-end.ensures.left in
    let has = c.loop-stack.invariant.seen head given fresh begun in
    let depth = c.len-depth.result in
    let deep : depth ≡ length here.stack = c.len-depth.ensures ∙ c.loop-stack.stack.ok.0 ∙ sym (length-reverse c.loop-stack.stack.items) in
    let later = c.frame_later-later.result in
    let deeper : later ≡ frame_later_of c.in_ok-end.end depth (length after) =
    c.frame_later-later.ensures ∙ ap (frame_later_of c.in_ok-end.end depth)
    (c.len.ensures ∙ c.frame_step.new.stack.ok.0 ∙ sym (length-reverse c.frame_step.new.stack.items)) in
    let grown = row_next f form k start c.loop-stack.turns n choice here drawn going new left c.in_ok-end.end after depth later c.in_ok-end.ensures.end deep
    deeper c.note.new.observer (c.in_ok-note.ensures (seen_steps f form k start n) n trace.OfRow here.state depth
    (row_stored f.program here.state) (row_places f.program here.state) c.in_ok-look.ensures.glance has) in
    let enough : suc n ≤ c.args.limits.steps = omega (arith, within) in
    row_last f form k start c.loop-stack.turns n choice here drawn going new left c.note.new.observer c.args.limits.steps _ grown
    (seen_over f form k start n (Exited here.state.pc n) tt (next f k start c.loop-stack.turns n (c.args.limits.steps - 1) choice c.pc-at.result here drawn c.pc-at.ensures going _ (ap (after_step k c.loop-stack.turns n here.state.pc) (frame_end_is c.in_ok-end.end _ new after _ c.in-Leaves.is c.in_ok-end.ensures.end))) c.args.limits.steps enough) refl

pub returns-then-n-limits-clause-seen : goal.returns-then-n-limits-clause-seen
returns-then-n-limits-clause-seen g c head given fresh begun =
    let within = c.loop-stack.invariant.within in
    let f : Frame = frame_of (program_of c.args.p.now) c.args.invariants.now in
    let k = c.args.limits.turns in
    let start : Start = start_by (g.M.State.View.view c.args.entry.now) c.args.choices.now head given in
    let form = g.M.Machine.form in
    let n = c.loop-stack.n in
    let here : Place = record { state = g.M.State.View.view c.loop-stack.state; stack = reverse c.loop-stack.stack.items } in
    let new : State = g.M.State.View.view c.frame_step.new.state in
    let after : List ℕ = reverse c.frame_step.new.stack.items in
    let choice = c.choice_at-choice.result in
    let drawn = c.choice_at-choice.ensures in
    let going = c.loop-stack.invariant.run head given begun in
    let left = c.in_ok-end.ensures.left in
    let has = c.loop-stack.invariant.seen head given fresh begun in
    let depth = c.len-depth.result in
    let deep : depth ≡ length here.stack = c.len-depth.ensures ∙ c.loop-stack.stack.ok.0 ∙ sym (length-reverse c.loop-stack.stack.items) in
    let later = c.frame_later-later.result in
    let deeper : later ≡ frame_later_of c.in_ok-end.end depth (length after) =
    c.frame_later-later.ensures ∙ ap (frame_later_of c.in_ok-end.end depth)
    (c.len.ensures ∙ c.frame_step.new.stack.ok.0 ∙ sym (length-reverse c.frame_step.new.stack.items)) in
    let grown = row_next f form k start c.loop-stack.turns n choice here drawn going new left c.in_ok-end.end after depth later c.in_ok-end.ensures.end deep
    deeper c.note.new.observer (c.in_ok-note.ensures (seen_steps f form k start n) n trace.OfRow here.state depth
    (row_stored f.program here.state) (row_places f.program here.state) c.in_ok-look.ensures.glance has) in
    let full = c.if-n-limits.true in
    let same : c.args.limits.steps ≡ suc n = omega (arith, full) in
    row_last f form k start c.loop-stack.turns n choice here drawn going new left c.note.new.observer c.args.limits.steps _ grown
    (ap (seen_steps f form k start) same) refl

pub returns-in-Reaches-clause-seen : goal.returns-in-Reaches-clause-seen
returns-in-Reaches-clause-seen g c head given fresh begun =
    let within = c.loop-stack.invariant.within in
    let f : Frame = frame_of (program_of c.args.p.now) c.args.invariants.now in
    let k = c.args.limits.turns in
    let start : Start = start_by (g.M.State.View.view c.args.entry.now) c.args.choices.now head given in
    let form = g.M.Machine.form in
    let n = c.loop-stack.n in
    let here : Place = record { state = g.M.State.View.view c.loop-stack.state; stack = reverse c.loop-stack.stack.items } in
    let new : State = g.M.State.View.view c.frame_step.new.state in
    let after : List ℕ = reverse c.frame_step.new.stack.items in
    let choice = c.choice_at-choice.result in
    let drawn = c.choice_at-choice.ensures in
    let going = c.loop-stack.invariant.run head given begun in
    let left = c.in_ok-end.ensures.left in
    let has = c.loop-stack.invariant.seen head given fresh begun in
    let depth = c.len-depth.result in
    let deep : depth ≡ length here.stack = c.len-depth.ensures ∙ c.loop-stack.stack.ok.0 ∙ sym (length-reverse c.loop-stack.stack.items) in
    let later = c.frame_later-later.result in
    let deeper : later ≡ frame_later_of c.in_ok-end.end depth (length after) =
    c.frame_later-later.ensures ∙ ap (frame_later_of c.in_ok-end.end depth)
    (c.len.ensures ∙ c.frame_step.new.stack.ok.0 ∙ sym (length-reverse c.frame_step.new.stack.items)) in
    let grown = row_next f form k start c.loop-stack.turns n choice here drawn going new left c.in_ok-end.end after depth later c.in_ok-end.ensures.end deep
    deeper c.note.new.observer (c.in_ok-note.ensures (seen_steps f form k start n) n trace.OfRow here.state depth
    (row_stored f.program here.state) (row_places f.program here.state) c.in_ok-look.ensures.glance has) in
    let other = c.if-n-limits.false in
    let enough : suc (n + 1) ≤ c.args.limits.steps = omega (arith, within, other) in
    let there : Place = record { state = new; stack = after } in
    let at_head = reached f k start c.loop-stack.turns n (c.args.limits.steps - 1) choice c.pc-at.result here drawn c.pc-at.ensures going there
    (frame_end_is c.in_ok-end.end _ new after _ c.in-Reaches.is c.in_ok-end.ensures.end) in
    let up : suc n ≡ n + 1 = omega arith in
    let before = subst (λ j. HasSeen c.note.new.observer (seen_steps f form k start j)) up grown in
    arrival_last f form k start c.loop-stack.turns (n + 1) there at_head c.note_arrival.new.observer c.args.limits.steps later _ enough
    (deeper ∙ ap (λ e. frame_later_of e depth (length after)) c.in-Reaches.is) c.arrival-ending.ensures.number
    (c.in_ok-note_arrival-in-Reaches.ensures (seen_steps f form k start (n + 1)) before)

pub returns-in-None-clause-seen : goal.returns-in-None-clause-seen
returns-in-None-clause-seen g c head given fresh begun =
    let within = c.loop-stack.invariant.within in
    let f : Frame = frame_of (program_of c.args.p.now) c.args.invariants.now in
    let k = c.args.limits.turns in
    let start : Start = start_by (g.M.State.View.view c.args.entry.now) c.args.choices.now head given in
    let form = g.M.Machine.form in
    let n = c.loop-stack.n in
    let here : Place = record { state = g.M.State.View.view c.loop-stack.state; stack = reverse c.loop-stack.stack.items } in
    let new : State = g.M.State.View.view c.frame_step.new.state in
    let after : List ℕ = reverse c.frame_step.new.stack.items in
    let choice = c.choice_at-choice.result in
    let drawn = c.choice_at-choice.ensures in
    let going = c.loop-stack.invariant.run head given begun in
    let left = c.in_ok-end.ensures.left in
    let has = c.loop-stack.invariant.seen head given fresh begun in
    let depth = c.len-depth.result in
    let deep : depth ≡ length here.stack = c.len-depth.ensures ∙ c.loop-stack.stack.ok.0 ∙ sym (length-reverse c.loop-stack.stack.items) in
    let later = c.frame_later-later.result in
    let deeper : later ≡ frame_later_of c.in_ok-end.end depth (length after) =
    c.frame_later-later.ensures ∙ ap (frame_later_of c.in_ok-end.end depth)
    (c.len.ensures ∙ c.frame_step.new.stack.ok.0 ∙ sym (length-reverse c.frame_step.new.stack.items)) in
    let grown = row_next f form k start c.loop-stack.turns n choice here drawn going new left c.in_ok-end.end after depth later c.in_ok-end.ensures.end deep
    deeper c.note.new.observer (c.in_ok-note.ensures (seen_steps f form k start n) n trace.OfRow here.state depth
    (row_stored f.program here.state) (row_places f.program here.state) c.in_ok-look.ensures.glance has) in
    let enough : suc n ≤ c.args.limits.steps = omega (arith, within) in
    let d : Place = record { state = new; stack = after } in
    row_last f form k start c.loop-stack.turns n choice here drawn going new left c.note.new.observer c.args.limits.steps _ grown
    (seen_over f form k start n (Turned c.pc-at.result n) tt (turned_out f k start c.loop-stack.turns n (c.args.limits.steps - 1) choice c.pc-at.result here drawn c.pc-at.ensures going d c.pc.result c.pc.ensures
    (frame_end_is c.in_ok-end.end _ new after _ c.in-GoesTo.is c.in_ok-end.ensures.end) (c.in-None.ensures.turned n d)) c.args.limits.steps enough) refl

pub returns-then-n-limits-2-clause-seen : goal.returns-then-n-limits-2-clause-seen
returns-then-n-limits-2-clause-seen g c head given fresh begun =
    let within = c.loop-stack.invariant.within in
    let f : Frame = frame_of (program_of c.args.p.now) c.args.invariants.now in
    let k = c.args.limits.turns in
    let start : Start = start_by (g.M.State.View.view c.args.entry.now) c.args.choices.now head given in
    let form = g.M.Machine.form in
    let n = c.loop-stack.n in
    let here : Place = record { state = g.M.State.View.view c.loop-stack.state; stack = reverse c.loop-stack.stack.items } in
    let new : State = g.M.State.View.view c.frame_step.new.state in
    let after : List ℕ = reverse c.frame_step.new.stack.items in
    let choice = c.choice_at-choice.result in
    let drawn = c.choice_at-choice.ensures in
    let going = c.loop-stack.invariant.run head given begun in
    let left = c.in_ok-end.ensures.left in
    let has = c.loop-stack.invariant.seen head given fresh begun in
    let depth = c.len-depth.result in
    let deep : depth ≡ length here.stack = c.len-depth.ensures ∙ c.loop-stack.stack.ok.0 ∙ sym (length-reverse c.loop-stack.stack.items) in
    let later = c.frame_later-later.result in
    let deeper : later ≡ frame_later_of c.in_ok-end.end depth (length after) =
    c.frame_later-later.ensures ∙ ap (frame_later_of c.in_ok-end.end depth)
    (c.len.ensures ∙ c.frame_step.new.stack.ok.0 ∙ sym (length-reverse c.frame_step.new.stack.items)) in
    let grown = row_next f form k start c.loop-stack.turns n choice here drawn going new left c.in_ok-end.end after depth later c.in_ok-end.ensures.end deep
    deeper c.note.new.observer (c.in_ok-note.ensures (seen_steps f form k start n) n trace.OfRow here.state depth
    (row_stored f.program here.state) (row_places f.program here.state) c.in_ok-look.ensures.glance has) in
    let full = c.if-n-limits-2.true in
    let same : c.args.limits.steps ≡ suc n = omega (arith, full) in
    row_last f form k start c.loop-stack.turns n choice here drawn going new left c.note.new.observer c.args.limits.steps _ grown
    (ap (seen_steps f form k start) same) refl
