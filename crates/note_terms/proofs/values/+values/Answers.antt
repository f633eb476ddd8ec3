use Rattle.std.proofs.Common.{rules, ap}
use Rattle.notes_value.specs.Views.{expr_of}
use Rattle.notes_value.specs.declared.expressions.Expr.TheViews.{the_lemmas}
use Rattle.term_names.specs.Views.{form_of}
use Rattle.note_terms.proofs.Valued.{joined_none, joined_more, joined_all, all_value, reads_all, state_stays, zero_stays, number_value, register_value, memory_value, not_value, binary_value}
use Rattle.note_terms.proofs.values.+values.Goals as goal

pub value-value-requires-in-Binary-2 : goal.value-value-requires-in-Binary-2
value-value-requires-in-Binary-2 t c =
    let grew = c.in_ok-left-in-Binary.ensures.grew in
    let now = state_stays _ _ _ _ _ _ _ _ grew c.requires.now in
    let entry = state_stays _ _ _ _ _ _ _ _ grew c.requires.entry in
    let zero = zero_stays _ _ _ _ _ _ _ _ grew c.requires.zero in
    let h = rw c.in-Binary.is at c.requires.reads in (
      search (rules, the_lemmas),
      (rw c.deref-in-Binary-2.ensures h.1, (c.requires.same, (now, (entry, zero)))),
    )

pub value-applied-requires-clause-zero : goal.value-applied-requires-clause-zero
value-applied-requires-clause-zero t c =
    zero_stays _ _ _ _ _ _ _ _ c.in_ok-right-in-Binary.ensures.grew (zero_stays _ _ _ _ _ _ _ _ c.in_ok-left-in-Binary.ensures.grew c.requires.zero)

pub value-returns-in_ok-term-in-Number : goal.value-returns-in_ok-term-in-Number
value-returns-in_ok-term-in-Number t c = rw c.in-Number.is (number_value _ _ _ _ _ _ _ c.in_ok-term-in-Number.ensures)

pub value-returns-in-Register : goal.value-returns-in-Register
value-returns-in-Register t c =
    rw c.in-Register.is (register_value _ _ _ _ _ _ c.nodes-typed.ensures.typed c.requires.now c.register.ensures.first c.register.ensures.within c.register.ensures.term)

pub value-returns-in_ok-term-in-Memory : goal.value-returns-in_ok-term-in-Memory
value-returns-in_ok-term-in-Memory t c =
    rw (c.in-Memory.is, ← c.deref.ensures) (memory_value _ _ _ _ _ _ _ _ _ _ c.requires.now c.in_ok-address-in-Memory.ensures c.in_ok-term-in-Memory.ensures)

pub value-returns-in_ok-term-in-Not : goal.value-returns-in_ok-term-in-Not
value-returns-in_ok-term-in-Not t c = rw (c.in-Not.is, ← c.deref-in-Not.ensures)
    (not_value _ _ _ _ _ _ _ _ _ c.in_ok-inner-in-Not.ensures c.in_ok-term-in-Not.ensures)

pub value-returns-in_ok-term-in-Binary : goal.value-returns-in_ok-term-in-Binary
value-returns-in_ok-term-in-Binary t c =
    rw (c.in-Binary.is, ← c.deref-in-Binary.ensures, ← c.deref-in-Binary-2.ensures)
    (binary_value _ _ _ _ _ _ _ _ _ _ _ _ _ c.requires.now c.requires.entry c.in_ok-left-in-Binary.ensures c.in_ok-right-in-Binary.ensures
    c.in_ok-term-in-Binary.ensures)

pub all_true-loop-v-init : goal.all_true-loop-v-init
all_true-loop-v-init t c = joined_none _ _ _ _ _ _ _ _ _ c.in_ok-all.ensures

pub all_true-value-requires : goal.all_true-value-requires
all_true-value-requires t c =
    let grew = c.loop-v.invariant.value.grew in
    let now = state_stays _ _ _ _ _ _ _ _ grew c.requires.now in
    let entry = state_stays _ _ _ _ _ _ _ _ grew c.requires.entry in
    let zero = zero_stays _ _ _ _ _ _ _ _ grew c.requires.zero in
    (search rules, (c.requires.reads, (c.requires.same, (now, (entry, zero)))))

pub all_true-connected-requires-clause-zero : goal.all_true-connected-requires-clause-zero
all_true-connected-requires-clause-zero t c =
    zero_stays _ _ _ _ _ _ _ _ c.in_ok-one.ensures.grew (zero_stays _ _ _ _ _ _ _ _ c.loop-v.invariant.value.grew c.requires.zero)

pub all_true-loop-v-preserved : goal.all_true-loop-v-preserved
all_true-loop-v-preserved t c =
    joined_more _ _ _ _ _ _ _ _ _ _ _ _ _ _ _ c.requires.now c.requires.entry c.loop-v.invariant (search rules) (search rules) c.in_ok-one.ensures
    c.in_ok-all-2.ensures

pub all_true-value-requires-2 : goal.all_true-value-requires-2
all_true-value-requires-2 t c =
    let grew = c.loop-v.invariant.value.grew in
    let now = state_stays _ _ _ _ _ _ _ _ grew c.requires.now in
    let entry = state_stays _ _ _ _ _ _ _ _ grew c.requires.entry in
    let zero = zero_stays _ _ _ _ _ _ _ _ grew c.requires.zero in
    (search rules, (c.requires.reads, (c.requires.same, (now, (entry, zero)))))

pub all_true-connected-requires-2-clause-zero : goal.all_true-connected-requires-2-clause-zero
all_true-connected-requires-2-clause-zero t c =
    zero_stays _ _ _ _ _ _ _ _ c.in_ok-first.ensures.grew (zero_stays _ _ _ _ _ _ _ _ c.loop-v.invariant.value.grew c.requires.zero)

pub all_true-returns : goal.all_true-returns
all_true-returns t c =
    joined_all _ _ _ _ _ _ _ _ _ _ _ _ _ _ c.requires.now c.requires.entry c.loop-v.invariant (search rules) c.in_ok-first.ensures c.in_ok-term.ensures

pub value-all_true-requires : goal.value-all_true-requires
value-all_true-requires t c =
    let r = c.requires in
    let h = rw c.in-All.is at r.reads in
    let inner = reads_all (form_of c.args.now.now.names.now) c.in-All.low c.in-All.high (expr_of c.in-All.inner.value) h in (
      search (rules, the_lemmas),
      (rw c.deref-in-All.ensures inner, (r.same, (r.now, (r.entry, r.zero)))),
    )

pub value-returns-in_ok-term-in-Bound : goal.value-returns-in_ok-term-in-Bound
value-returns-in_ok-term-in-Bound t c = rw c.in-Bound.is (number_value _ _ _ _ _ _ _ c.in_ok-term-in-Bound.ensures)

pub value-returns-in_ok-term-in-All : goal.value-returns-in_ok-term-in-All
value-returns-in_ok-term-in-All t c =
    rw c.in-All.is
    (all_value _ _ _ c.args.bound c.in-All.low c.in-All.high _ (expr_of c.in-All.inner.value) _ _ _ (ap expr_of c.deref-in-All.ensures)
    c.in_ok-term-in-All.ensures)
