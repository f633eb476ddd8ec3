use Rattle.std.proofs.Common.{List, length, subst, sym}
use Rattle.question_form.specs.declared.unrolled.Unrolled.{Unrolled}
use Rattle.frame_verdict.specs.FrameFunctions.{whole_of_framed}
use Rattle.frame_verdict.specs.FrameMeasures.{AreUnrolledTo}
use Rattle.frame_verdict.proofs.RankedVerdicts.{all_end, all_pass, alone_at, last_at}
use Rattle.frame_verdict.proofs.Ready.{contracts_unrolled, last_notes, own_ready}
use Rattle.frame_verdict.proofs.ranking.verdict_within.Goals as goal

pub judge_contracts-requires-clause-frames : goal.judge_contracts-requires-clause-frames
judge_contracts-requires-clause-frames g c =
    let x = c.args.framed.now in
    let b = c.args.budget.now in
    subst (λ (l : List Unrolled). AreUnrolledTo (whole_of_framed x) b.unroll (length x.contracts.now) g.M.Machine.form l) (sym c.deref.ensures.value)
    (contracts_unrolled g.M.Machine.form x b c.requires.runs c.requires.within c.args.frames.now c.requires.frames)

pub returns-in-End : goal.returns-in-End
returns-in-End g c =
    all_end (whole_of_framed c.args.framed.now) g.M.Machine.form c.args.budget.now c.in-End.verdict c.in_ok-passed.field-0
    c.in_ok-passed.ensures c.in-End.is

pub returns : goal.returns
returns g c =
    let w = whole_of_framed c.args.framed.now in
    let last = last_at c.args.framed.now in
    c.in_ok-verdict.ensures w g.M.Machine.form c.args.budget.now last (alone_at c.args.framed.now c.requires.runs.alone) c.requires.within
    (all_pass w g.M.Machine.form c.args.budget.now c.in-Pass.passed c.in_ok-passed.field-0 c.in_ok-passed.ensures c.in-Pass.is _ last) c.in_ok-judged.ensures

pub judge_frame-requires-clause-notes : goal.judge_frame-requires-clause-notes
judge_frame-requires-clause-notes g c = last_notes c.args.framed.now

pub judge_frame-requires-clause-ready : goal.judge_frame-requires-clause-ready
judge_frame-requires-clause-ready g c =
    own_ready g.M.Machine.form c.args.framed.now c.args.budget.now c.requires.runs c.requires.within c.args.frames.now c.requires.frames
