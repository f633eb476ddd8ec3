use Rattle.std.proofs.Common.{◌≡◌, ◌+◌, ◌-◌, ◌^◌, ◌∙◌, ap, min, subst, IfOk, Some, None, Option, refl, arith}
use Rattle.std.proofs.lemmas.Grind.{common_steps}
use Rattle.machine_spec.specs.Bil.{Statements, Empty, list_size}
use Rattle.machine_spec.specs.BilTyping.{TypeFault, list_fault}
use Rattle.bil_ast.proofs.Blocks.{seen_if, seen_while}
use Rattle.bil_types.specs.Views.{fault_in, fault_of}
use Rattle.bil_types.proofs.ListFaults.{checked_next, fault_at, list_second, list_third}
use Rattle.bil_types.proofs.Numbers.{capped}
use Rattle.bil_types.proofs.statements.+check.Goals as goal

pub check_at-loop-stmt-preserved : goal.check_at-loop-stmt-preserved
check_at-loop-stmt-preserved t c =
    checked_next c.args.list.now c.args.at c.loop-stmt.stmt-index c.loop-stmt.next c.in_ok-next.next c.stmt-item.result c.loop-stmt-test.true
    c.stmt-item.is c.in_ok-next.ensures.fault c.in_ok-next.ensures.next c.loop-stmt.invariant

pub check_one-returns-in-While-clause-fault : goal.check_one-returns-in-While-clause-fault
check_one-returns-in-While-clause-fault t c =
    let e = seen_while c.args.stmt.now c.in-While.condition c.in-While.body c.deref.result.now Empty c.in-While.is c.deref.ensures.value in
    subst (λ (z : Statements). fault_in c.check_loop.result ≡ list_fault c.args.at z) e c.check_loop.ensures.fault

pub check_one-returns-in-While-clause-next : goal.check_one-returns-in-While-clause-next
check_one-returns-in-While-clause-next t c =
    let e = seen_while c.args.stmt.now c.in-While.condition c.in-While.body c.deref.result.now Empty c.in-While.is c.deref.ensures.value in
    subst (λ (z : Statements). IfOk c.check_loop.result (λ n. n ≡ min (c.args.at + list_size z) (2 ^ 64 - 1))) e c.check_loop.ensures.next

pub check_at-returns-in_err-next-clause-fault : goal.check_at-returns-in_err-next-clause-fault
check_at-returns-in_err-next-clause-fault t c =
    let h = fault_at c.args.list.now c.args.at c.loop-stmt.stmt-index c.loop-stmt.next c.stmt-item.result (Some (fault_of c.in_err-next.field-0.0))
    c.loop-stmt-test.true c.stmt-item.is c.in_err-next.ensures.fault c.loop-stmt.invariant in
    grind (arith, common_steps)

pub check_one-returns-in_err-found-in-If-clause-fault : goal.check_one-returns-in_err-found-in-If-clause-fault
check_one-returns-in_err-found-in-If-clause-fault t c =
    let e = seen_if c.args.stmt.now c.in-If.condition c.in-If.when_true c.in-If.when_false c.in-If.when_true.items c.in-If.when_false.items Empty c.in-If.is
    refl refl in
    subst (λ (z : Statements). fault_in c.from_residual.result ≡ list_fault c.args.at z) e (grind (arith, common_steps, capped, list_second, list_third))

pub check_one-returns-in_err-next-in-If-clause-fault : goal.check_one-returns-in_err-next-in-If-clause-fault
check_one-returns-in_err-next-in-If-clause-fault t c =
    let e = seen_if c.args.stmt.now c.in-If.condition c.in-If.when_true c.in-If.when_false c.in-If.when_true.items c.in-If.when_false.items Empty c.in-If.is
    refl refl in
    subst (λ (z : Statements). fault_in c.from_residual-in_err-next-in-If.result
    ≡ list_fault c.args.at z) e (grind (arith, common_steps, capped, list_second, list_third))

pub check_one-returns-in_err-next-in-If-2-clause-fault : goal.check_one-returns-in_err-next-in-If-2-clause-fault
check_one-returns-in_err-next-in-If-2-clause-fault t c =
    let e = seen_if c.args.stmt.now c.in-If.condition c.in-If.when_true c.in-If.when_false c.in-If.when_true.items c.in-If.when_false.items Empty c.in-If.is
    refl refl in
    subst (λ (z : Statements). fault_in c.from_residual-in_err-next-in-If-2.result
    ≡ list_fault c.args.at z) e (grind (arith, common_steps, capped, list_second, list_third))

pub check_one-returns-in_err-ask_bits-in-If-clause-fault : goal.check_one-returns-in_err-ask_bits-in-If-clause-fault
check_one-returns-in_err-ask_bits-in-If-clause-fault t c =
    let e = seen_if c.args.stmt.now c.in-If.condition c.in-If.when_true c.in-If.when_false c.in-If.when_true.items c.in-If.when_false.items Empty c.in-If.is
    refl refl in
    subst (λ (z : Statements). fault_in c.from_residual-in_err-ask_bits-in-If.result
    ≡ list_fault c.args.at z) e (grind (arith, common_steps, capped, list_second, list_third))

pub check_one-returns-in_ok-ask_bits-in-If-clause-fault : goal.check_one-returns-in_ok-ask_bits-in-If-clause-fault
check_one-returns-in_ok-ask_bits-in-If-clause-fault t c =
    let e = seen_if c.args.stmt.now c.in-If.condition c.in-If.when_true c.in-If.when_false c.in-If.when_true.items c.in-If.when_false.items Empty c.in-If.is
    refl refl in
    subst (λ (z : Statements). ◌≡◌ {A = Option TypeFault} None (list_fault c.args.at z)) e (grind (arith, common_steps, capped, list_second, list_third))

pub check_one-returns-in_ok-ask_bits-in-If-clause-next : goal.check_one-returns-in_ok-ask_bits-in-If-clause-next
check_one-returns-in_ok-ask_bits-in-If-clause-next t c =
    let e = seen_if c.args.stmt.now c.in-If.condition c.in-If.when_true c.in-If.when_false c.in-If.when_true.items c.in-If.when_false.items Empty c.in-If.is
    refl refl in
    subst (λ (z : Statements). c.in_ok-next-in-If-2.next ≡ min (c.args.at + list_size z) (2 ^ 64 - 1)) e (grind (arith, common_steps))
