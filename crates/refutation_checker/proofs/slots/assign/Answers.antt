use Rattle.std.proofs.Common.{◌≡◌, ◌<◌, ap, ◌∙◌, length}
use Rattle.refutation_checker.specs.Slots.{place_of}
use Rattle.refutation_checker.proofs.Assigns.{assigned}
use Rattle.refutation_checker.proofs.slots.assign.Goals as goal

pub returns-clause-values : goal.returns-clause-values
returns-clause-values c =
    let names = c.args.names.now in
    let is : c.place.result ≡ place_of names c.args.lit.variable = c.place.ensures ∙ ap (place_of names) c.variable.ensures.value in
    let lt : c.place.result < length c.args.slots.now = rw is c.requires.within in
    assigned names c.args.slots.now c.args.line c.args.lit c.place.result c.is_positive.result is lt c.is_positive.ensures c.requires.not_false
