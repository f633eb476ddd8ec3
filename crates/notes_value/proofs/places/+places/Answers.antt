use Rattle.std.proofs.Common.{rules, ◌<◌, ◌++◌, subst, sym, ap, ◌∙◌, arith}
use Rattle.word_spec.specs.Memory as memory
use Rattle.bilv_spec.specs.Notes as meaning
use Rattle.model_spec.specs.Reads.{expression_reads}
use Rattle.notes_value.proofs.WrittenOut.{put_written}
use Rattle.notes_value.proofs.ReadPlaces.{reads_more}
use Rattle.notes_value.specs.Views.{expr_of}
use Rattle.notes_value.specs.Reads.{IsReadable}
use Rattle.notes_value.proofs.Looped.{readable_all, smaller}
use Rattle.notes_value.proofs.expressions.Expr.TheLaws.{the_size}
use Rattle.notes_value.proofs.places.+places.Goals as goal

pub add_all_reads-loop-v-preserved : goal.add_all_reads-loop-v-preserved
add_all_reads-loop-v-preserved g t c =
    reads_more (memory.endian c.args.big) (expr_of c.args.expr.now) (g.V.View.view c.args.now.now) (g.V.View.view c.args.old.now) c.args.high c.loop-v.v
    c.loop-v.places.items c.add_reads_with-in-loop-v.new.places.items _ (omega arith) c.loop-v.invariant c.in_ok-add_reads_with-2.ensures

pub add_reads_with-add_all_reads-requires : goal.add_reads_with-add_all_reads-requires
add_reads_with-add_all_reads-requires g t c κs within =
    let d = c.decreases in
    let s : the_size c.deref-in-All.result.now < the_size c.args.expr.now =
    smaller c.args.expr.now c.deref-in-All.result.now c.in-All.low c.in-All.high c.in-All.a c.in-All.is c.deref-in-All.ensures in (
      omega arith,
      (
        search rules,
        subst (λ z. IsReadable g.V.View.has_register (expr_of z)) (sym c.deref-in-All.ensures)
            (readable_all g.V.View.has_register c.in-All.low c.in-All.high (expr_of c.in-All.a.value)
            (subst (λ z. IsReadable g.V.View.has_register (expr_of z)) c.in-All.is c.requires.readable)),
      ),
    )

pub add_reads_with-returns-in_ok-add_all_reads-in-All : goal.add_reads_with-returns-in_ok-add_all_reads-in-All
add_reads_with-returns-in_ok-add_all_reads-in-All g t c =
    let now = g.V.View.view c.args.now.now in
    let old = g.V.View.view c.args.old.now in
    let order = memory.endian c.args.big in
    let low = c.in-All.low in
    let high = c.in-All.high in
    c.in_ok-add_all_reads-in-All.ensures
    ∙ ap (λ z. c.args.places.now.items ++ expression_reads order (meaning.written_out low high (expr_of z)) now old) c.deref-in-All.ensures
    ∙ sym (ap (λ z. c.args.places.now.items ++ expression_reads order z now old) (put_written c.args.bound low high (expr_of c.in-All.a.value)))
    ∙ sym (ap (λ z. c.args.places.now.items ++ expression_reads order (meaning.put_bound c.args.bound (expr_of z)) now old) c.in-All.is)
