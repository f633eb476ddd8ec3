use Rattle.std.proofs.Common.{◌≡◌, Some, ap, ◌∙◌, ◌==◌, length, false, arith, codes, option_map}
use Rattle.std.proofs.lemmas.Bool.Decides.{nat_tests}
use Rattle.toml.specs.View.{array_view, table_view}
use Rattle.suite_file.specs.Suites.{Got, InDefaults, ◌>>=◌, items_at, some_of}
use Rattle.suite_file.proofs.Readings.{some_of_view}
use Rattle.suite_file.proofs.parse.array_of.Goals as goal

pub returns-in-Some-clause-ok : goal.returns-in-Some-clause-ok
returns-in-Some-clause-ok c =
    let array = c.in-Some.array.now in
    let found : items_at InDefaults (codes "check") (table_view c.args.table.now) ≡ Got (Some (array_view array)) =
    c.in_ok-array.ensures.ok ∙ ap (λ o. Got (option_map (λ v. array_view v.now) o)) c.in-Some.is in
    let some : (length array.items == 0) ≡ false = grind (arith, nat_tests, array.ok.0) in
    ap (λ r. r >>= some_of) found ∙ some_of_view array.items some
