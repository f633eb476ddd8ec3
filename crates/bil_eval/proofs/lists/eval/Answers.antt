use Rattle.bil_ast.specs.Views.{statements}
use Rattle.bil_eval.specs.Views.{held}
use Rattle.bil_eval.proofs.Typed.{runnable}
use Rattle.bil_eval.proofs.lists.eval.Goals as goal

pub run-requires : goal.run-requires
run-requires c = runnable (statements c.args.list.now) (held c.args.env.now.locals.items) c.requires.typed c.requires.held
