use Rattle.std.proofs.Common.{sym, subst}
use Rattle.std.specs.Prelude.{take}
use Rattle.answer_spec.specs.Outcomes.{IsFirstLine}
use Rattle.bilv_top.proofs.Made.{first_line_is}
use Rattle.bilv_top.proofs.selfrun.first_line.Goals as goal

pub returns : goal.returns
returns c = subst (λ n. IsFirstLine c.args.text.now (take n c.args.text.now)) (sym c.line_length-length.ensures.count)
    (first_line_is c.args.text.now c.requires)
