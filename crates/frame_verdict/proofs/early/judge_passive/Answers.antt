use Rattle.std.proofs.Common.{Option, subst}
use Rattle.std.specs.Prelude.{IfSome}
use Rattle.call_form.specs.Views.{budget_of}
use Rattle.frame_verdict.specs.FrameFunctions.{contracts_of, frame_at, whole_of_framed}
use Rattle.frame_verdict.specs.JudgedFrames.{IsJudged}
use Rattle.frame_verdict.specs.declared.judged.Judged.{Judged}
use Rattle.frame_verdict.specs.declared.smaller.NoTurns.TheVariants.{Refuted, Fails}
use Rattle.frame_verdict.proofs.EarlyBounds.{comes, counted, few_points}
use Rattle.frame_verdict.proofs.EarlyFrames.{shown_later}
use Rattle.frame_verdict.proofs.early.judge_passive.Goals as goal

pub free_inputs-inputs-requires : goal.free_inputs-inputs-requires
free_inputs-inputs-requires g c =
    few_points (frame_at c.args.framed.now c.args.rank) (contracts_of c.args.framed.now) c.args.budget.now.unroll g.M.Machine.form c.args.whole.now
    c.requires.smaller.great

pub returns-in-Some : goal.returns-in-Some
returns-in-Some g c =
    let f = frame_at c.args.framed.now c.args.rank in
    let contracts = contracts_of c.args.framed.now in
    let k = c.args.smaller.now.unroll in
    let b = c.args.budget.now in
    let u = c.args.passive.now.unrolled.now in
    let inputs = c.free_inputs-inputs.result in
    subst (λ (o : Option Judged). IfSome o (IsJudged (whole_of_framed c.args.framed.now) c.args.rank g.M.Machine.form (budget_of b))) c.in-Some.is
    (c.in_ok-judged-in-Refuted.ensures (whole_of_framed c.args.framed.now) c.args.rank contracts k g.M.Machine.form (budget_of b) c.args.whole.now c.requires.smaller
    (counted f contracts k b.unroll g.M.Machine.form c.args.whole.now u c.requires.smaller inputs c.free_inputs-inputs.ensures)
    (comes f contracts k b.unroll g.M.Machine.form c.args.whole.now u c.requires.smaller inputs c.free_inputs-inputs.ensures c.in_ok-asked.asked
    (Refuted c.in-Refuted.fail c.in-Refuted.step c.in-Refuted.turn) c.in_ok-asked.ensures c.in-Refuted.is))

pub first_ended-requires-clause-segments : goal.first_ended-requires-clause-segments
first_ended-requires-clause-segments g c =
    comes (frame_at c.args.framed.now c.args.rank) (contracts_of c.args.framed.now) c.args.smaller.now.unroll c.args.budget.now.unroll g.M.Machine.form
    c.args.whole.now c.args.passive.now.unrolled.now c.requires.smaller c.free_inputs-inputs.result c.free_inputs-inputs.ensures c.in_ok-asked.asked
    (Fails c.in-Fails.segments) c.in_ok-asked.ensures c.in-Fails.is

pub returns-in_ok-ended-in-Fails : goal.returns-in_ok-ended-in-Fails
returns-in_ok-ended-in-Fails g c =
    shown_later (whole_of_framed c.args.framed.now) c.args.rank c.args.smaller.now.unroll c.args.budget.now.unroll g.M.Machine.form c.requires.smaller.few
    c.in_ok-ended-in-Fails.ended c.in_ok-ended-in-Fails.ensures
