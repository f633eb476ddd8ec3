use Rattle.cnf_form.specs.Views.{proof_of}
use Rattle.frame_rounds.specs.declared.answers.FrameAnswered.TheVariants.{Sat, Refuted, Spent}
use Rattle.frame_spec.specs.FrameVerdict.{frame_of}
use Rattle.frame_verdict.proofs.Judging.{answered}
use Rattle.frame_verdict.proofs.RefutedFrames.{refuted_is_false}
use Rattle.frame_verdict.proofs.Satisfied.{segments_satisfy}
use Rattle.frame_verdict.proofs.certifying.certified.Goals as goal

pub returns-in-Sat : goal.returns-in-Sat
returns-in-Sat c w rank layout b question u within ground says = (
  within,
  segments_satisfy w rank layout b.unroll u c.in-Sat.field-0 ground question
      (answered u question b.conflicts c.args.answered (Sat c.in-Sat.field-0) says c.in-Sat.is (frame_of w rank) w.contracts b.unroll layout ground),
)

pub returns-in-Refuted : goal.returns-in-Refuted
returns-in-Refuted c w rank layout b question u within ground says =
    let h = answered u question b.conflicts c.args.answered (Refuted c.in-Refuted.proof) says c.in-Refuted.is (frame_of w rank) w.contracts b.unroll layout
    ground in
    (within, refuted_is_false (frame_of w rank) b.unroll question (proof_of c.in-Refuted.proof) h, h)

pub returns : goal.returns
returns c w rank layout b question u within ground says = (
  within,
  answered u question b.conflicts c.args.answered (Spent c.in-Spent.proof) says c.in-Spent.is (frame_of w rank) w.contracts b.unroll layout ground,
)
