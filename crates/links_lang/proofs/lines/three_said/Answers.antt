use Rattle.std.proofs.Common.{subst}
use Rattle.links_lang.specs.Telling.{IsTold}
use Rattle.links_lang.proofs.Told.{three_are}
use Rattle.links_lang.proofs.lines.three_said.Goals as goal

pub returns-in-Number-right-clause-told : goal.returns-in-Number-right-clause-told
returns-in-Number-right-clause-told c =
    let a = c.args in
    subst (λ ts. IsTold a.first a.second a.line ts c.range_said.result)
    (three_are a.word a.left a.right c.in-Name.word c.in-Number.low c.in-Number-right.high c.in-Name.is c.in-Number.is c.in-Number-right.is)
    (c.range_said.ensures.told a.first a.second)

pub returns-in-Number-right-clause-form : goal.returns-in-Number-right-clause-form
returns-in-Number-right-clause-form c = c.range_said.ensures.form c.args.first c.args.second
