use Rattle.verdict.proofs.Certifies.{sat_certified, refuted_certified, spent_certified}
use Rattle.verdict.proofs.certifying.certified.Goals as goal

pub returns-in-Sat : goal.returns-in-Sat
returns-in-Sat c p layout b question lawful reads within is = sat_certified p layout b question c.args.answered lawful reads within is c.in-Sat.field-0 c.in-Sat.is

pub returns-in-Refuted : goal.returns-in-Refuted
returns-in-Refuted c p layout b question lawful reads within is = refuted_certified p layout b question c.args.answered lawful reads within is c.in-Refuted.proof c.in-Refuted.is

pub returns : goal.returns
returns c p layout b question lawful reads within is = spent_certified p layout b question c.args.answered lawful reads within is c.in-Spent.proof c.in-Spent.is
