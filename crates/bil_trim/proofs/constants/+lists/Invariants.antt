use Rattle.std.proofs.Common.{◌≡◌, drop}
use Rattle.byte_mem.specs.Views.{endian_of}
use Rattle.bil_ast.specs.Views.{statements}
use Rattle.bil_trim.specs.Literals.{with_literal}
use Rattle.bil_trim.proofs.Copies.{before}
use Rattle.bil_trim.proofs.constants.+lists.Given as goal

abbrev pub invariant-with_literal-loop-stmt : goal.invariant-with_literal-loop-stmt
invariant-with_literal-loop-stmt l =
    before l.found.items (with_literal (endian_of l.literal.order) l.literal.at l.literal.value (statements (drop l.stmt-index l.list)))
    ≡ with_literal (endian_of l.literal.order) l.literal.at l.literal.value (statements l.list)
