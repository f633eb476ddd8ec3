use Rattle.std.proofs.Common.{rules, ◌<◌, subst, sym, ap, ◌∙◌, arith}
use Rattle.word_spec.specs.Memory as memory
use Rattle.bilv_spec.specs.Notes as meaning
use Rattle.notes_value.proofs.WrittenOut.{put_written}
use Rattle.notes_value.specs.Views.{expr_of}
use Rattle.notes_value.specs.Reads.{IsReadable}
use Rattle.notes_value.proofs.Looped.{goes_on, readable_all, smaller}
use Rattle.notes_value.proofs.expressions.Expr.TheLaws.{the_size}
use Rattle.notes_value.proofs.values.+values.Goals as goal

pub all_true-loop-v-preserved : goal.all_true-loop-v-preserved
all_true-loop-v-preserved g t c =
    goes_on (memory.endian c.args.big) (expr_of c.args.expr.now) (g.V.View.view c.args.now.now) (g.V.View.view c.args.old.now) c.args.low c.args.high
    c.loop-v.v c.value_with-in-loop-v.result c.loop-v.invariant (search rules) c.value_with-in-loop-v.ensures (search rules)

pub value_with-all_true-requires : goal.value_with-all_true-requires
value_with-all_true-requires g t c κs within =
    let d = c.decreases in
    let s : the_size c.deref-in-All.result.now < the_size c.args.expr.now =
    smaller c.args.expr.now c.deref-in-All.result.now c.in-All.low c.in-All.high c.in-All.a c.in-All.is c.deref-in-All.ensures in (
      omega arith,
      (
        search rules,
        subst (λ z. IsReadable g.V.View.has_register (expr_of z)) (sym c.deref-in-All.ensures)
            (readable_all g.V.View.has_register c.in-All.low c.in-All.high (expr_of c.in-All.a.value)
            (subst (λ z. IsReadable g.V.View.has_register (expr_of z)) c.in-All.is c.requires.readable)),
      ),
    )

pub value_with-returns-in-All : goal.value_with-returns-in-All
value_with-returns-in-All g t c =
    let now = g.V.View.view c.args.now.now in
    let old = g.V.View.view c.args.old.now in
    let order = memory.endian c.args.big in
    let low = c.in-All.low in
    let high = c.in-All.high in
    c.truth-in-All.ensures ∙ c.all_true.ensures
    ∙ ap (λ z. meaning.value order (meaning.written_out low high (expr_of z)) now old) c.deref-in-All.ensures
    ∙ sym (ap (λ z. meaning.value order z now old) (put_written c.args.bound low high (expr_of c.in-All.a.value)))
    ∙ sym (ap (λ z. meaning.value order (meaning.put_bound c.args.bound (expr_of z)) now old) c.in-All.is)
