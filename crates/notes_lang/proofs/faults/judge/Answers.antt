use Rattle.std.proofs.Common.{arith, ◌∙◌, ap}
use Rattle.notes_lang.specs.Reading.{tokens_view}
use Rattle.notes_lang.proofs.faults.judge.Goals as goal

pub returns : goal.returns
returns c =
    c.in_ok-judged.ensures c.args.number c.args.text.now (omega (arith, c.if-number-limit.false, c.limit.ensures)) (omega (arith, c.if-text-gt1024.false))
    (ap tokens_view c.deref.ensures.value ∙ c.in_ok-tokens.ensures)
