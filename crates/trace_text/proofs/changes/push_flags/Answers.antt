use Rattle.std.proofs.Common.{◌++◌, map}
use Rattle.std.specs.List.{flat_map}
use Rattle.trace_texts_spec.specs.StepLines.{flag_change}
use Rattle.seen_step.specs.Views.{change_of}
use Rattle.trace_text.proofs.Growing.{next_mapped, done_mapped}
use Rattle.trace_text.proofs.changes.push_flags.Goals as goal

pub loop-change-preserved : goal.loop-change-preserved
loop-change-preserved c =
    next_mapped flag_change change_of c.args.changes.now c.loop-change.change-index (record { place = 0; old = 0; new = 0 }) c.loop-change.out.items
    c.push_flag_change.new.out.items (c.args.out.now.items ++ flat_map flag_change (map change_of c.args.changes.now)) c.loop-change-test.true
    c.in_ok-push_flag_change.ensures c.loop-change.invariant

pub returns : goal.returns
returns c =
    done_mapped flag_change change_of c.args.changes.now c.loop-change.change-index c.loop-change.out.items
    (c.args.out.now.items ++ flat_map flag_change (map change_of c.args.changes.now)) c.loop-change-test.false c.loop-change.invariant
