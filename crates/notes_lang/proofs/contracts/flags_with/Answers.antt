use Rattle.notes_spec.specs.FrameNotes.{is_flag}
use Rattle.notes_value.specs.FrameViews.{is_in}
use Rattle.notes_lang.proofs.Contracted.{any_next, any_end}
use Rattle.notes_lang.proofs.contracts.flags_with.Goals as goal

pub loop-change-preserved : goal.loop-change-preserved
loop-change-preserved c n below =
    any_next (is_flag n) c.args.changes.now c.loop-change.change-index _ (is_in c.loop-change.all n) (is_in c.with_flag-all.result n) _ c.loop-change-test.true
    (c.with_flag-all.ensures n below) (c.loop-change.invariant n below)

pub returns : goal.returns
returns c n below =
    any_end (is_flag n) c.args.changes.now c.loop-change.change-index (is_in c.loop-change.all n) _ c.loop-change-test.false (c.loop-change.invariant n below)
