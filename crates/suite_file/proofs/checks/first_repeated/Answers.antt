use Rattle.std.proofs.Common.{◌≡◌, sym, ap, ◌∙◌, Some, false, true, map, take, arith, string_bytes}
use Rattle.std.proofs.lemmas.Grind.{common_steps}
use Rattle.std.specs.List.{list_any}
use Rattle.std.specs.Str.{bytes_eq}
use Rattle.suite_file.specs.Views.{check_view}
use Rattle.suite_file.proofs.Readings.{first_more, first_here}
use Rattle.suite_file.proofs.checks.first_repeated.Goals as goal

pub returns-then-is_named : goal.returns-then-is_named
returns-then-is_named c =
    let cs = c.args.checks.now in
    let i = c.loop-i.i in
    let one = c.index-checks-i.result in
    let old : list_any (λ e. bytes_eq e.name (string_bytes one.name)) (map check_view (take i cs)) ≡ true = grind (arith, common_steps) in
    ap Some c.as_str-name.ensures.value ∙ sym (first_here cs i one c.loop-i-test.true (sym c.index-checks-i.is) old) ∙ c.loop-i.invariant

pub loop-i-preserved : goal.loop-i-preserved
loop-i-preserved c =
    let cs = c.args.checks.now in
    let i = c.loop-i.i in
    let one = c.index-checks-i.result in
    let new : list_any (λ e. bytes_eq e.name (string_bytes one.name)) (map check_view (take i cs)) ≡ false = grind (arith, common_steps) in
    sym (first_more cs i one c.loop-i-test.true (sym c.index-checks-i.is) new) ∙ c.loop-i.invariant
