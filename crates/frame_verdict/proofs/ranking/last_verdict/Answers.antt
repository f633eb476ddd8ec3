use Rattle.std.proofs.Common.{subst}
use Rattle.call_form.specs.Views.{budget_of}
use Rattle.frame_verdict.specs.JudgedFrames.{IsJudged}
use Rattle.frame_verdict.proofs.RankedVerdicts.{last_by_frames, last_holds, last_partial, last_spent, last_vacuous}
use Rattle.frame_verdict.proofs.ranking.last_verdict.Goals as goal

pub returns-then-rank-eq0 : goal.returns-then-rank-eq0
returns-then-rank-eq0 c w layout b is alone within all h =
    last_holds w c.args.rank layout b is alone within c.args.passed.items all c.args.judged h c.in-Holds.start c.in-Holds.fail c.in-Holds.turn c.in-Holds.is
    c.if-rank-eq0.true

pub returns-in_ok-push-in-Holds : goal.returns-in_ok-push-in-Holds
returns-in_ok-push-in-Holds c w layout b is alone within all h =
    last_by_frames w c.args.rank layout b is alone within c.args.passed.items all c.args.judged h c.in-Holds.start c.in-Holds.fail c.in-Holds.turn
    c.in-Holds.is c.if-rank-eq0.false c.push.new.self c.in_ok-push-in-Holds.ensures.items

pub returns-in-Partial : goal.returns-in-Partial
returns-in-Partial c w layout b is alone within all h =
    last_partial w c.args.rank layout b is alone within c.args.passed.items all c.args.judged h c.in-Partial.start c.in-Partial.fail c.in-Partial.step
    c.in-Partial.turn c.in-Partial.is

pub returns-in-Vacuous : goal.returns-in-Vacuous
returns-in-Vacuous c w layout b is alone within all h =
    last_vacuous w c.args.rank layout b is alone within c.args.passed.items all c.args.judged h c.in-Vacuous.proof c.in-Vacuous.is

pub returns-in-Shows : goal.returns-in-Shows
returns-in-Shows c w layout b is alone within all h =
    c.shown_verdict.ensures w layout b is alone within all.0 (subst (IsJudged w c.args.rank layout (budget_of b)) c.in-Shows.is h)

pub returns-in-Spent : goal.returns-in-Spent
returns-in-Spent c w layout b is alone within all h =
    last_spent w c.args.rank layout b is alone within c.args.passed.items all c.args.judged h c.in-Spent.question c.in-Spent.proof c.in-Spent.is
