use Rattle.bil_ast.proofs.Blocks.{statement_while}
use Rattle.bil_ast.proofs.statements.Stmt.repeat.Goals as goal

pub returns : goal.returns
returns c = statement_while c.args.condition c.args.body
