use Rattle.std.proofs.Common.{◌≡◌}
use Rattle.bil_ast.specs.Views.{statements}
use Rattle.bil_trim.specs.Flags.{kept_in, with_flags}
use Rattle.bil_trim.proofs.Copies.{before}
use Rattle.bil_trim.proofs.dropping.+flags.Given as goal

abbrev pub invariant-with_flags-loop-stmt : goal.invariant-with_flags-loop-stmt
invariant-with_flags-loop-stmt l =
    before l.found.items (with_flags (kept_in l.keeps) (statements l.stmt-iterator.rest.items))
    ≡ with_flags (kept_in l.keeps) (statements l.fn.list.items)
