use Rattle.bil_ast.specs.Views.{statements}
use Rattle.middle_tests.proofs.Lifted.{list_led}
use Rattle.middle_tests.proofs.lists.terms_of.Goals as goal

pub run_list-requires-clause-names : goal.run_list-requires-clause-names
run_list-requires-clause-names c = c.in_ok-names.ensures.names

pub run_list-requires-clause-runs : goal.run_list-requires-clause-runs
run_list-requires-clause-runs c =
    list_led c.requires.0 65536 (statements c.args.list.now) c.requires.1 c.in_ok-names.names c.in_ok-names.ensures.first c.in_ok-names.ensures.registers
