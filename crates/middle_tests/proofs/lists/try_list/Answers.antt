use Rattle.bil_ast.specs.Views.{statements}
use Rattle.middle_tests.proofs.Lifted.{list_held}
use Rattle.middle_tests.proofs.lists.try_list.Goals as goal

pub agrees_always-requires-clause-typed : goal.agrees_always-requires-clause-typed
agrees_always-requires-clause-typed c = c.requires.1.typed

pub agrees_always-requires-clause-names : goal.agrees_always-requires-clause-names
agrees_always-requires-clause-names c = list_held c.requires.0 65536 (statements c.args.list.now) c.requires.1
