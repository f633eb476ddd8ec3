use Rattle.std.proofs.Common.{◌≡◌, ℕ, ◌++◌, string_bytes, drop}
use Rattle.machine_spec.specs.BilText.{indent, list_text}
use Rattle.bil_ast.specs.Views.{statements}
use Rattle.bil_print.proofs.statements.+statements.Given as goal

abbrev pub invariant-append_list-loop-stmt : goal.invariant-append_list-loop-stmt
invariant-append_list-loop-stmt l =
    (depth : ℕ) → l.blanks ≡ indent depth →
    string_bytes l.out ++ list_text depth (statements (drop l.stmt-index l.list)) ≡ string_bytes l.fn.out ++ list_text depth (statements l.list)
