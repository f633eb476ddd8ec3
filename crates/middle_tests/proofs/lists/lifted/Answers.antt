use Rattle.std.proofs.Common.{false}
use Rattle.machine_spec.specs.RvMachine.{rv32}
use Rattle.middle_tests.proofs.Lifted.{has_row}
use Rattle.middle_tests.proofs.lists.lifted.Goals as goal

pub returns-in-Some : goal.returns-in-Some
returns-in-Some c = has_row ((rv32 false).row c.args.word) c.in_ok-lift_word.field-0 c.in-Some.list c.in_ok-lift_word.ensures c.in-Some.is
