use Rattle.std.proofs.Common.{rules, ◌≡◌, ◌+◌, ◌<◌, ◌∷◌, IfSome, IfNone, subst, sym, ap, ◌∙◌, arith}
use Rattle.word_spec.specs.Memory as memory
use Rattle.bilv_spec.specs.Notes as meaning
use Rattle.trace_texts_spec.specs.ValueLines.{shown}
use Rattle.notes_value.proofs.WrittenOut.{put_written}
use Rattle.notes_value.specs.Views.{expr_of}
use Rattle.notes_value.specs.Reads.{IsReadable}
use Rattle.notes_value.proofs.Looped.{behind, readable_all, smaller}
use Rattle.notes_value.proofs.expressions.Expr.TheLaws.{the_size}
use Rattle.value_steps.specs.Pieces.{tried}
use Rattle.value_steps.proofs.FirstFalse.{found, goes_on}
use Rattle.value_steps.proofs.instances.+instances.Goals as goal

pub instance_with-first_false-requires : goal.instance_with-first_false-requires
instance_with-first_false-requires g t c κs within =
    let d = c.decreases in
    let s : the_size c.deref-in-All.result.now < the_size c.args.expr.now =
    smaller c.args.expr.now c.deref-in-All.result.now c.in-All.low c.in-All.high c.in-All.a c.in-All.is c.deref-in-All.ensures in (
      omega arith,
      (
        search rules,
        subst (λ z. IsReadable g.V.View.has_register (expr_of z)) (sym c.deref-in-All.ensures)
            (readable_all g.V.View.has_register c.in-All.low c.in-All.high (expr_of c.in-All.a.value)
            (subst (λ z. IsReadable g.V.View.has_register (expr_of z)) c.in-All.is c.requires.readable)),
      ),
    )

pub instance_with-returns-in_ok-one-in-All-clause-shown : goal.instance_with-returns-in_ok-one-in-All-clause-shown
instance_with-returns-in_ok-one-in-All-clause-shown g t c =
    let now = g.V.View.view c.args.now.now in
    let old = g.V.View.view c.args.old.now in
    let order = memory.endian c.args.big in
    let low = c.in-All.low in
    let high = c.in-All.high in
    c.in_ok-one-in-All.ensures.shown
    ∙ ap (λ z. shown order now old (meaning.written_out low high (expr_of z))) c.deref-in-All.ensures
    ∙ sym (ap (λ z. shown order now old z) (put_written c.args.bound low high (expr_of c.in-All.a.value)))
    ∙ sym (ap (λ z. shown order now old (meaning.put_bound c.args.bound (expr_of z))) c.in-All.is)

pub first_false-returns-in-Some-clause-shown : goal.first_false-returns-in-Some-clause-shown
first_false-returns-in-Some-clause-shown g t c =
    let now = g.V.View.view c.args.now.now in
    let old = g.V.View.view c.args.old.now in
    let order = memory.endian c.args.big in
    let e = expr_of c.args.expr.now in
    subst (λ o. IfSome o (λ x. expr_of x ≡ tried order now old e (c.args.low ∷ behind c.args.high c.args.low))) c.in-Some.is
    (c.in_ok-first.ensures.found (behind c.args.high c.args.low))

pub first_false-returns-in-Some-2-clause-shown : goal.first_false-returns-in-Some-2-clause-shown
first_false-returns-in-Some-2-clause-shown g t c =
    let now = g.V.View.view c.args.now.now in
    let old = g.V.View.view c.args.old.now in
    let order = memory.endian c.args.big in
    let e = expr_of c.args.expr.now in
    let v = c.loop-v.v in
    let vs = behind c.args.high (v + 1) in
    found order now old e c.args.low c.args.high v (expr_of c.in-Some-2.next) c.loop-v.invariant (search rules)
    (subst (λ o. IfSome o (λ x. expr_of x ≡ tried order now old e ((v + 1) ∷ vs))) c.in-Some-2.is (c.in_ok-next.ensures.found vs))

pub first_false-loop-v-preserved : goal.first_false-loop-v-preserved
first_false-loop-v-preserved g t c =
    let now = g.V.View.view c.args.now.now in
    let old = g.V.View.view c.args.old.now in
    let order = memory.endian c.args.big in
    let e = expr_of c.args.expr.now in
    let v = c.loop-v.v in
    let vs = behind c.args.high (v + 1) in
    goes_on order now old e c.args.low c.args.high v c.loop-v.invariant (search rules)
    (subst (λ o. IfNone o (tried order now old e ((v + 1) ∷ vs) ≡ tried order now old e vs)) c.in-None-2.is (c.in_ok-next.ensures.none vs))
