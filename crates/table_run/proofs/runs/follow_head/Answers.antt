use Rattle.std.proofs.Common.{◌≡◌, ℕ, List, ◌++◌, ◌-◌, ap, subst, ◌∙◌}
use Rattle.std.specs.Prelude.{Some, reverse}
use Rattle.bilv_spec.specs.Run.{Program, Place}
use Rattle.frame_spec.specs.Frames.{Frame}
use Rattle.frame_spec.specs.FrameFound.{found_within}
use Rattle.frame_spec.specs.FrameReports.{head_place}
use Rattle.notes_value.specs.NoteViews.{notes_of}
use Rattle.program_value.specs.Programs.{program_of}
use Rattle.state_text.specs.Starts.{written_head_of}
use Rattle.table_run.specs.FrameEnds.{frame_found_of, frame_of, start_by}
use Rattle.table_run.specs.WatchedRuns.{IsFrameWatched}
use Rattle.table_run.proofs.FrameStarts.{head_begins}
use Rattle.table_run.proofs.runs.follow_head.Goals as goal

pub returns-clause-found : goal.returns-clause-found
returns-clause-found g c given =
    let p : Program = program_of c.args.p.now in
    let f : Frame = frame_of p c.args.invariants.now in
    let stack_is : c.extend_from_slice.new.self.items ≡ c.args.head.now.stack.items =
    c.in_ok-extend_from_slice.ensures.items ∙ ap (λ (l : List ℕ). l ++ c.deref.result.now) c.new-stack.ensures.items ∙ c.deref.ensures.value in
    let there : Place = head_place p g.M.Machine.form (written_head_of c.args.head.now) in
    subst (λ (choices : List (ℕ × ℕ)). frame_found_of c.in_ok-found.found.0 ≡ found_within f c.args.limits.turns
    (start_by (g.M.State.View.view c.args.entry.now) choices (Some there) given) (c.args.limits.steps - 1)) c.deref-2.ensures.value
    (c.in_ok-found.ensures.found (Some there) given
    (head_begins f (g.M.State.View.view c.args.entry.now) there (g.M.State.View.view c.in_ok-state.state) c.extend_from_slice.new.self.items
    (c.in_ok-state.ensures.state (notes_of c.args.p.now.notes.now) c.args.p.now.entry) (ap (λ (xs : List ℕ). reverse xs) stack_is)))

pub returns-clause-seen : goal.returns-clause-seen
returns-clause-seen g c given fresh =
    let p : Program = program_of c.args.p.now in
    let f : Frame = frame_of p c.args.invariants.now in
    let stack_is : c.extend_from_slice.new.self.items ≡ c.args.head.now.stack.items =
    c.in_ok-extend_from_slice.ensures.items ∙ ap (λ (l : List ℕ). l ++ c.deref.result.now) c.new-stack.ensures.items ∙ c.deref.ensures.value in
    let there : Place = head_place p g.M.Machine.form (written_head_of c.args.head.now) in
    subst (λ (choices : List (ℕ × ℕ)). IsFrameWatched f g.M.Machine.form c.args.limits.turns
    (start_by (g.M.State.View.view c.args.entry.now) choices (Some there) given) c.args.limits.steps c.in_ok-found.found.0 c.follow.new.seen
    (g.M.State.View.view c.in_ok-found.found.1)) c.deref-2.ensures.value
    (c.in_ok-found.ensures.seen (Some there) given fresh
    (head_begins f (g.M.State.View.view c.args.entry.now) there (g.M.State.View.view c.in_ok-state.state) c.extend_from_slice.new.self.items
    (c.in_ok-state.ensures.state (notes_of c.args.p.now.notes.now) c.args.p.now.entry) (ap (λ (xs : List ℕ). reverse xs) stack_is)))
