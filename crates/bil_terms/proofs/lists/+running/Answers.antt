use Rattle.std.proofs.Common.{rules, arith}
use Rattle.bil_ast.specs.declared.statements.Stmt.TheViews.{the_lemmas}
use Rattle.bil_terms.proofs.Leads.{all_led, bits_kept, if_parts, led_none, raise_led, turn_leads, turn_led}
use Rattle.bil_terms.proofs.Sides.{first_asks, first_smaller, second_asks, second_smaller, bits_behind, merge_asks, if_led}
use Rattle.bil_terms.proofs.lists.+running.Goals as goal

pub run_statements-loop-stmt-init : goal.run_statements-loop-stmt-init
run_statements-loop-stmt-init t c = record {
  led = led_none c.args.dag.now c.args.place c.args.run.now c.args.stored.now.items c.requires.run;
}

pub run_statements-act-requires : goal.run_statements-act-requires
run_statements-act-requires t c = (
  search (rules, the_lemmas),
  (
    turn_leads c.args.list.now c.loop-stmt.stmt-index c.stmt-item.result c.args.run.now.names c.loop-stmt.run.names c.requires.leads c.loop-stmt-test.true
        c.stmt-item.is c.loop-stmt.invariant.led.form,
    (
      c.loop-stmt.invariant.led.run,
      bits_kept c.args.dag.now c.loop-stmt.dag _ _ _ _ _ c.args.bits c.loop-stmt.invariant.led.grew c.requires.bits,
    ),
  ),
)

pub run_statements-loop-stmt-preserved : goal.run_statements-loop-stmt-preserved
run_statements-loop-stmt-preserved t c = record {
  led = turn_led c.args.dag.now c.loop-stmt.dag c.act.new.dag c.args.place c.args.run.now c.loop-stmt.run c.act.new.run c.args.stored.now.items
      c.loop-stmt.stored.items c.act.new.stored.items c.args.list.now c.loop-stmt.stmt-index c.stmt-item.result c.requires.leads c.loop-stmt-test.true
      c.stmt-item.is c.loop-stmt.invariant.led c.in_ok-act.ensures;
}

pub run_statements-returns : goal.run_statements-returns
run_statements-returns t c =
    all_led c.args.dag.now c.loop-stmt.dag c.args.place c.args.run.now c.loop-stmt.run c.args.stored.now.items c.loop-stmt.stored.items c.args.list.now
    c.loop-stmt.stmt-index c.loop-stmt-test.false c.loop-stmt.invariant.led

pub act-enter-requires-clause-checked : goal.act-enter-requires-clause-checked
act-enter-requires-clause-checked t c = (if_parts c.args.stmt.now c.in-If.condition c.in-If.when_true c.in-If.when_false _ c.in-If.is c.requires.leads).0

pub act-enter-requires-clause-steady : goal.act-enter-requires-clause-steady
act-enter-requires-clause-steady t c = (if_parts c.args.stmt.now c.in-If.condition c.in-If.when_true c.in-If.when_false _ c.in-If.is c.requires.leads).1

pub act-run_statements-requires : goal.act-run_statements-requires
act-run_statements-requires t c = (
  omega (
    arith,
    first_smaller c.args.stmt.now c.in-If.condition c.in-If.when_true c.in-If.when_false c.deref-in-If.result.now c.in-If.is
        c.deref-in-If.ensures.value,
    c.decreases,
  ),
  first_asks c.args.dag.now c.enter.new.dag c.args.place c.args.run.now _ _ c.args.stmt.now c.in-If.condition c.in-If.when_true c.in-If.when_false
      c.deref-in-If.result.now c.in_ok-sides-in-If.sides c.args.bits c.in-If.is c.deref-in-If.ensures.value c.requires.leads c.requires.run c.requires.bits
      c.in_ok-sides-in-If.ensures,
)

pub act-run_statements-requires-in-If : goal.act-run_statements-requires-in-If
act-run_statements-requires-in-If t c = (
  omega (
    arith,
    second_smaller c.args.stmt.now c.in-If.condition c.in-If.when_true c.in-If.when_false c.deref-in-If-2.result.now c.in-If.is
        c.deref-in-If-2.ensures.value,
    c.decreases,
  ),
  second_asks c.args.dag.now c.enter.new.dag c.run_statements.new.dag c.args.place c.args.run.now c.run_statements.new.run _ _ _ c.args.stmt.now
      c.in-If.condition
      c.in-If.when_true c.in-If.when_false c.deref-in-If.result.now c.deref-in-If-2.result.now c.in_ok-sides-in-If.sides c.args.bits c.in-If.is
      c.deref-in-If-2.ensures.value c.requires.leads c.requires.run c.requires.bits c.in_ok-sides-in-If.ensures c.in_ok-run_statements-in-If.ensures,
)

pub act-merged-requires-clause-bits : goal.act-merged-requires-clause-bits
act-merged-requires-clause-bits t c =
    bits_behind c.args.dag.now c.enter.new.dag c.run_statements.new.dag c.run_statements-in-If.new.dag c.args.place c.args.run.now _ _ _ _ _ _ _ _ _ _ _
    c.in_ok-sides-in-If.sides c.args.bits c.requires.bits c.in_ok-sides-in-If.ensures c.in_ok-run_statements-in-If.ensures
    c.in_ok-run_statements-in-If-2.ensures

pub act-merged-requires-clause-sides : goal.act-merged-requires-clause-sides
act-merged-requires-clause-sides t c =
    merge_asks c.args.dag.now c.enter.new.dag c.run_statements.new.dag c.run_statements-in-If.new.dag c.args.place c.args.run.now _ _ _ _ _ _ c.args.stmt.now
    c.in-If.condition c.in-If.when_true c.in-If.when_false _ _ c.in_ok-sides-in-If.sides c.in-If.is c.requires.leads c.requires.run c.in_ok-sides-in-If.ensures
    c.in_ok-run_statements-in-If.ensures c.in_ok-run_statements-in-If-2.ensures

pub act-returns-in_ok-run-in-If : goal.act-returns-in_ok-run-in-If
act-returns-in_ok-run-in-If t c =
    if_led c.args.dag.now c.enter.new.dag c.run_statements.new.dag c.run_statements-in-If.new.dag c.merged.new.dag c.args.place c.args.run.now _ _ _ _ _ _ _
    c.args.stmt.now c.in-If.condition c.in-If.when_true c.in-If.when_false c.deref-in-If.result.now c.deref-in-If-2.result.now c.in_ok-sides-in-If.sides
    c.in-If.is
    c.deref-in-If.ensures.value c.deref-in-If-2.ensures.value c.requires.leads c.requires.run c.in_ok-sides-in-If.ensures c.in_ok-run_statements-in-If.ensures
    c.in_ok-run_statements-in-If-2.ensures c.in_ok-run-in-If.ensures

pub act-returns-in-Raise : goal.act-returns-in-Raise
act-returns-in-Raise t c =
    raise_led c.args.dag.now c.args.place c.args.run.now c.raise.new.run c.args.stored.now.items c.deref.result.now c.args.stmt.now c.in-Raise.field-0
    c.in-Raise.is
    c.deref.ensures.value c.raise.ensures
