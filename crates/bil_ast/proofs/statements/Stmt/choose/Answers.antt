use Rattle.bil_ast.proofs.Blocks.{statement_if}
use Rattle.bil_ast.proofs.statements.Stmt.choose.Goals as goal

pub returns : goal.returns
returns c = statement_if c.args.condition c.args.when_true c.args.when_false
