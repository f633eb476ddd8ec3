use Rattle.std.proofs.Common.{◌≡◌, string_bytes}
use Rattle.machine_spec.specs.BilText.{indent}
use Rattle.bil_print.proofs.statements.blanks_of.Given as goal

abbrev pub invariant-loop : goal.invariant-loop
invariant-loop l = string_bytes l.blanks ≡ indent l.counter
