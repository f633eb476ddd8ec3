use Rattle.std.proofs.Common.{subst, sym}
use Rattle.question_form.specs.declared.unrolled.Unrolled.{Unrolled}
use Rattle.frame_verdict.specs.FewerTurns.{IsSmaller}
use Rattle.frame_verdict.specs.FrameFunctions.{CanShow, contracts_of, frame_at}
use Rattle.frame_verdict.proofs.Grounding.{askable}
use Rattle.frame_verdict.proofs.early.judge_smaller.Goals as goal

pub judge_passive-requires-clause-shows : goal.judge_passive-requires-clause-shows
judge_passive-requires-clause-shows g c =
    subst (λ (z : Unrolled). CanShow g.M.Machine.form c.args.framed.now c.args.smaller.now c.args.rank z) (sym c.in_ok-passive.ensures.of)
    c.requires.shows

pub judge_passive-requires-clause-smaller : goal.judge_passive-requires-clause-smaller
judge_passive-requires-clause-smaller g c =
    subst (λ (z : Unrolled). IsSmaller (frame_at c.args.framed.now c.args.rank) (contracts_of c.args.framed.now) c.args.smaller.now.unroll
    c.args.budget.now.unroll g.M.Machine.form c.args.whole.now z) (sym c.in_ok-passive.ensures.of) c.requires.smaller

pub judge_passive-requires-clause-askable : goal.judge_passive-requires-clause-askable
judge_passive-requires-clause-askable g c =
    askable c.args.unrolled.now c.in_ok-passive.passive c.requires.smaller.small.measurable c.in_ok-passive.ensures.of c.in_ok-passive.ensures.passive
