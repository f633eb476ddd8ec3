use Rattle.std.proofs.Common.{◌≡◌, Bool, rules, refl, ap, ◌∙◌, subst}
use Rattle.machine_spec.specs.Bil.{BilVariable}
use Rattle.machine_spec.specs.BilCounts.{width}
use Rattle.machine_spec.specs.BilMeaning.{evaluate}
use Rattle.bil_ast.specs.declared.expressions.Exp.{Exp}
use Rattle.bil_ast.specs.declared.expressions.Exp.TheViews.{the_lemmas}
use Rattle.bil_ast.specs.Views.{expression}
use Rattle.bil_eval.specs.Checked.{IsMemory, IsWord}
use Rattle.bil_eval.specs.Views.{env_of}
use Rattle.bil_eval.proofs.Locals.{held_scope, if_ok, let_value}
use Rattle.bil_eval.proofs.expressions.+evaluation.Goals as goal

pub evaluate_word-evaluate_word-result-requires : goal.evaluate_word-evaluate_word-result-requires
evaluate_word-evaluate_word-result-requires t c =
    let h = rw c.in-Let.is at c.requires in
    let w : c.in_ok-value-in-Let.value.width ≡ c.in-Let.local.width.bits =
    c.in_ok-value-in-Let.ensures.width ∙ ap (λ (z : Exp). width (expression z)) c.deref-in-Let.ensures ∙ h.1 in (
      search (rules, the_lemmas),
      subst (λ (k : BilVariable → Bool). IsWord (expression c.deref-in-Let-2.result.now) k)
          (held_scope c.args.locals.now.items _ _ _ _ _ c.evaluate_word-in-Let.ensures.locals c.in_ok-push-in-Let.ensures.items refl w)
          (rw c.deref-in-Let-2.ensures h.2),
    )

pub evaluate_memory-evaluate_memory-result-requires : goal.evaluate_memory-evaluate_memory-result-requires
evaluate_memory-evaluate_memory-result-requires t c =
    let h = rw c.in-Let.is at c.requires in
    let w : c.in_ok-value-in-Let.value.width ≡ c.in-Let.local.width.bits =
    c.in_ok-value-in-Let.ensures.width ∙ ap (λ (z : Exp). width (expression z)) c.deref-in-Let.ensures ∙ h.1 in (
      search (rules, the_lemmas),
      subst (λ (k : BilVariable → Bool). IsMemory (expression c.deref-in-Let-2.result.now) k)
          (held_scope c.args.locals.now.items _ _ _ _ _ c.evaluate_word-in-Let.ensures.locals c.in_ok-push-in-Let.ensures.items refl w)
          (rw c.deref-in-Let-2.ensures h.2),
    )

pub evaluate_word-returns-in_ok-push-in-Let-clause-value : goal.evaluate_word-returns-in_ok-push-in-Let-clause-value
evaluate_word-returns-in_ok-push-in-Let-clause-value t c =
    let h = rw c.in-Let.is at c.requires in
    let w : c.in_ok-value-in-Let.value.width ≡ c.in-Let.local.width.bits =
    c.in_ok-value-in-Let.ensures.width ∙ ap (λ (z : Exp). width (expression z)) c.deref-in-Let.ensures ∙ h.1 in
    if_ok c.evaluate_word-result.result _ _ (λ v e.
    ap (λ (z : Exp). evaluate (expression z) c.args.machine.now.choice (env_of c.args.machine.now c.args.locals.now.items)) c.in-Let.is
    ∙ let_value c.args.machine.now c.args.machine.now.choice c.in-Let.value.value c.in-Let.body.value c.deref-in-Let.result.now c.deref-in-Let-2.result.now
    c.args.locals.now.items _ _ _ _ _ _ c.evaluate_word-in-Let.ensures.locals c.in_ok-push-in-Let.ensures.items refl w
    c.deref-in-Let.ensures c.deref-in-Let-2.ensures c.in_ok-value-in-Let.ensures.value e)
    c.evaluate_word-result.ensures.value

pub evaluate_memory-returns-in_ok-push-in-Let-clause-value : goal.evaluate_memory-returns-in_ok-push-in-Let-clause-value
evaluate_memory-returns-in_ok-push-in-Let-clause-value t c =
    let h = rw c.in-Let.is at c.requires in
    let w : c.in_ok-value-in-Let.value.width ≡ c.in-Let.local.width.bits =
    c.in_ok-value-in-Let.ensures.width ∙ ap (λ (z : Exp). width (expression z)) c.deref-in-Let.ensures ∙ h.1 in
    if_ok c.evaluate_memory-result.result _ _ (λ v e.
    ap (λ (z : Exp). evaluate (expression z) c.args.machine.now.choice (env_of c.args.machine.now c.args.locals.now.items)) c.in-Let.is
    ∙ let_value c.args.machine.now c.args.machine.now.choice c.in-Let.value.value c.in-Let.body.value c.deref-in-Let.result.now c.deref-in-Let-2.result.now
    c.args.locals.now.items _ _ _ _ _ _ c.evaluate_word-in-Let.ensures.locals c.in_ok-push-in-Let.ensures.items refl w
    c.deref-in-Let.ensures c.deref-in-Let-2.ensures c.in_ok-value-in-Let.ensures.value e)
    c.evaluate_memory-result.ensures.value
