use Rattle.std.proofs.Common.{◌≡◌, true, false, codes, drop, nat_eq, sym, ap, ◌∙◌, arith}
use Rattle.std.proofs.lemmas.Grind.{common_steps}
use Rattle.std.specs.List.{starts_with}
use Rattle.suite_report.specs.Objects.{first_word}
use Rattle.suite_report.proofs.Objects.{place_here, place_more}
use Rattle.suite_report.proofs.json.place_word.Goals as goal

pub returns-then-starts_with : goal.returns-then-starts_with
returns-then-starts_with c =
    let rest = drop c.loop-i.i c.args.text.now in
    let stands : starts_with nat_eq rest (codes " at ") ≡ true = grind (arith, common_steps, c.starts_with.ensures.value) in
    let said : c.first_word.result.now ≡ first_word (drop 4 rest) = grind (arith, common_steps, c.first_word.ensures) in
    said ∙ sym (place_here rest stands) ∙ c.loop-i.invariant

pub loop-i-preserved : goal.loop-i-preserved
loop-i-preserved c =
    let text = c.args.text.now in
    let no : starts_with nat_eq (drop c.loop-i.i text) (codes " at ") ≡ false = grind (arith, common_steps, c.starts_with.ensures.value) in
    sym (place_more text c.loop-i.i c.loop-i-test.true no) ∙ c.loop-i.invariant
