use Rattle.std.proofs.Common.{sym, subst}
use Rattle.bil_ast.specs.Views.{unary_of}
use Rattle.bil_ast.specs.declared.names.UnaryOp.{UnaryOp}
use Rattle.bil_terms.specs.Lowered.{IsUnary}
use Rattle.bil_terms.proofs.Leaves.{negated}
use Rattle.bil_terms.proofs.expressions.unary_term.Goals as goal

pub returns-in_ok-result-in-Negate : goal.returns-in_ok-result-in-Negate
returns-in_ok-result-in-Negate c =
    subst (λ (o : UnaryOp). IsUnary c.args.dag.now c.mk-in-Negate.new.self (unary_of o) c.args.width c.args.term.0 c.in_ok-result-in-Negate.result.0)
    (sym c.in-Negate.is)
    (negated _ _ _ _ _ _ _ c.requires.wide c.requires.operand c.in_ok-zero-in-Negate.ensures c.in_ok-result-in-Negate.ensures)
