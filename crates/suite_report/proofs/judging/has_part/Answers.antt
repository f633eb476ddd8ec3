use Rattle.std.proofs.Common.{◌≡◌, false, drop, nat_eq, sym, ◌∙◌, arith}
use Rattle.std.proofs.lemmas.Grind.{common_steps}
use Rattle.std.specs.List.{starts_with}
use Rattle.suite_report.proofs.Parts.{part_more}
use Rattle.suite_report.proofs.judging.has_part.Goals as goal

pub loop-i-preserved : goal.loop-i-preserved
loop-i-preserved c =
    let part = c.args.part.now in
    let text = c.args.text.now in
    let no : starts_with nat_eq (drop c.loop-i.i text) part ≡ false = grind (arith, common_steps, c.starts_with.ensures.value) in
    sym (part_more part text c.loop-i.i c.loop-i-test.true no) ∙ c.loop-i.invariant
