use Rattle.std.proofs.Common.{None, Some}
use Rattle.frame_spec.specs.FrameQuestions.{EntryQuestion}
use Rattle.frame_spec.specs.FrameVerdict.{frame_of}
use Rattle.start_value.specs.Starts.{written_of}
use Rattle.frame_rounds.specs.declared.answers.FrameAnswered.TheVariants.{Sat, Refuted}
use Rattle.frame_verdict.proofs.EarlyFrames.{entry_later}
use Rattle.frame_verdict.proofs.Judging.{answered, holds, partial, stepped, vacuous}
use Rattle.frame_verdict.proofs.smaller.ask_entry.Goals as goal

pub returns-in-None : goal.returns-in-None
returns-in-None c w rank contracts k layout b whole is count h =
    let f = frame_of w rank in
    let ground = is.small.ground in
    holds f ground.lawful ground.reads b.unroll layout (written_of c.in-Sat.segments.parts.entry)
    (answered c.args.passive.now.unrolled.now EntryQuestion c.args.conflicts c.in_ok-segments.field-0 (Sat c.in-Sat.segments) c.in_ok-segments.ensures c.in-Sat.is f
    contracts k layout ground).shows c.args.fail h.0 (stepped f b.unroll c.args.step None h.1 c.in-None.is) c.args.turn h.2

pub returns-in-Some : goal.returns-in-Some
returns-in-Some c w rank contracts k layout b whole is count h =
    let f = frame_of w rank in
    let ground = is.small.ground in
    partial f ground.lawful ground.reads b.unroll layout (written_of c.in-Sat.segments.parts.entry)
    (answered c.args.passive.now.unrolled.now EntryQuestion c.args.conflicts c.in_ok-segments.field-0 (Sat c.in-Sat.segments) c.in_ok-segments.ensures c.in-Sat.is f
    contracts k layout ground).shows c.args.fail h.0 c.in-Some.step (stepped f b.unroll c.args.step (Some c.in-Some.step) h.1 c.in-Some.is) c.args.turn h.2

pub returns-in-Refuted : goal.returns-in-Refuted
returns-in-Refuted c w rank contracts k layout b whole is count h =
    let f = frame_of w rank in
    let ground = is.small.ground in
    vacuous f ground.lawful ground.reads b.unroll layout c.over_variables-entry.result
    (entry_later c.args.passive.now.unrolled.now c.args.conflicts c.args.inputs c.in-Refuted.proof c.over_variables-entry.result c.over_variables-entry.ensures
    f contracts k b.unroll layout whole is count
    (answered c.args.passive.now.unrolled.now EntryQuestion c.args.conflicts c.in_ok-segments.field-0 (Refuted c.in-Refuted.proof) c.in_ok-segments.ensures
    c.in-Refuted.is f contracts k layout ground))
