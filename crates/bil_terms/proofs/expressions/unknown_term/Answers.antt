use Rattle.std.proofs.Common.{sym, subst, arith}
use Rattle.bil_ast.specs.Views.{bil_type_of}
use Rattle.bil_ast.specs.declared.names.BilType.{BilType}
use Rattle.bil_terms.specs.Lowered.{IsUnknown}
use Rattle.bil_terms.proofs.Leaves.{narrow_unknown, wide_unknown}
use Rattle.bil_terms.proofs.expressions.unknown_term.Goals as goal

pub returns-then-width-lt2 : goal.returns-then-width-lt2
returns-then-width-lt2 c =
    subst (λ (k : BilType). IsUnknown c.args.dag.now c.keep-then-width-lt2.new.self c.args.place (bil_type_of k) c.in_ok-term.term.0) (sym c.in-Bits.is)
    (narrow_unknown _ _ _ _ c.in-Bits.width.bits _ _ (omega (arith, c.in-Bits.width.some, c.if-width-lt2.true)) c.in_ok-choice.ensures c.in_ok-term.ensures)

pub returns : goal.returns
returns c =
    subst (λ (k : BilType). IsUnknown c.args.dag.now c.keep-2.new.self c.args.place (bil_type_of k) c.in_ok-term-2.term.0) (sym c.in-Bits.is)
    (wide_unknown _ _ _ _ c.in-Bits.width.bits _ _ (omega (arith, c.if-width-lt2.false)) c.in-Bits.width.few c.in_ok-choice.ensures c.in_ok-term-2.ensures)
