use Rattle.frame_verdict.proofs.RankedVerdicts.{own_holds, own_partial, own_shows, own_spent, own_vacuous}
use Rattle.frame_verdict.proofs.ranking.pass_or_end.Goals as goal

pub returns-in-Holds : goal.returns-in-Holds
returns-in-Holds c w layout b plain low within below h =
    own_holds w c.args.rank layout b plain low within below c.args.judged h c.in-Holds.start c.in-Holds.fail c.in-Holds.turn c.in-Holds.is

pub returns-in-Partial : goal.returns-in-Partial
returns-in-Partial c w layout b plain low within below h =
    own_partial w c.args.rank layout b plain low within below c.args.judged h c.in-Partial.start c.in-Partial.fail c.in-Partial.step c.in-Partial.turn
    c.in-Partial.is

pub returns-in-Vacuous : goal.returns-in-Vacuous
returns-in-Vacuous c w layout b plain low within below h =
    own_vacuous w c.args.rank layout b plain low within below c.args.judged h c.in-Vacuous.proof c.in-Vacuous.is

pub returns-in-Shows : goal.returns-in-Shows
returns-in-Shows c w layout b plain low within below h =
    own_shows w c.args.rank layout b plain low within below c.args.judged h c.in-Shows.ended c.in-Shows.is

pub returns : goal.returns
returns c w layout b plain low within below h =
    own_spent w c.args.rank layout b plain low within below c.args.judged h c.in-Spent.question c.in-Spent.proof c.in-Spent.is
