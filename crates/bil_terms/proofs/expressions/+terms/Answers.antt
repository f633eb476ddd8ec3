use Rattle.std.proofs.Common.{◌++◌, ◌∷◌, [], List, rules, refl, sym, ap, ◌∙◌, subst, arith}
use Rattle.machine_spec.specs.Bil as bil
use Rattle.term_spec.specs.Terms.{TermNode, IsTypedOver, HasWidth}
use Rattle.term_dag.proofs.Growth.{grew_width, grew_on}
use Rattle.bil_ast.specs.declared.expressions.Exp.{Exp}
use Rattle.bil_ast.specs.declared.expressions.Exp.TheViews.{the_lemmas}
use Rattle.bil_ast.specs.Views.{expression, variable_of}
use Rattle.bil_eval.specs.Checked.{IsWord}
use Rattle.bil_terms.specs.declared.variables.LocalTerm.{LocalTerm}
use Rattle.bil_terms.specs.Naming.{IsVariableTerm, known}
use Rattle.bil_terms.specs.Lowered.{IsWordTerm, IsMemoryTerm}
use Rattle.bil_terms.proofs.Words.{variable_word, constant_word, unknown_word, binary_word, concat_word, unary_word}
use Rattle.bil_terms.proofs.Memories.{memory_variable, load_word, store_memory, extract_word, cast_to_word, choose_word, let_word, let_memory}
use Rattle.bil_terms.proofs.Calls.{word_at, memory_at, next_word, body_word, body_memory, cast_typed, no_memory_choice}
use Rattle.bil_terms.proofs.expressions.+terms.Goals as goal

pub word_term-word_term-requires : goal.word_term-word_term-requires
word_term-word_term-requires t c =
    let h = rw c.in-Load.is at c.requires.checked in
    let st = rw c.in-Load.is at c.requires.steady in
    let r = next_word _ _ c.args.names.now c.args.locals.now.items _ _ c.in-Load.address.value _ _ _ _ _ _ c.in_ok-memory-in-Load.ensures.locals
    c.deref-in-Load-2.ensures h.1 (omega (arith, st.0), omega (arith, st.1)) (c.in_ok-memory-in-Load.ensures.term.gathered.grew) c.requires.scope in
    (search (rules, the_lemmas), (r.0, (r.1, r.2)))

pub word_term-word_term-requires-in-Binary-2 : goal.word_term-word_term-requires-in-Binary-2
word_term-word_term-requires-in-Binary-2 t c =
    let h = rw c.in-Binary.is at c.requires.checked in
    let st = rw c.in-Binary.is at c.requires.steady in
    let r = next_word _ _ c.args.names.now c.args.locals.now.items _ _ c.in-Binary.right.value _ _ _ _ _ _ c.in_ok-left-in-Binary.ensures.locals
    c.deref-in-Binary-2.ensures h.1 (omega (arith, st.0), omega (arith, st.1)) (c.in_ok-left-in-Binary.ensures.term.gathered.grew) c.requires.scope in
    (search (rules, the_lemmas), (r.0, (r.1, r.2)))

pub word_term-word_term-requires-in-Concat-2 : goal.word_term-word_term-requires-in-Concat-2
word_term-word_term-requires-in-Concat-2 t c =
    let h = rw c.in-Concat.is at c.requires.checked in
    let st = rw c.in-Concat.is at c.requires.steady in
    let r = next_word _ _ c.args.names.now c.args.locals.now.items _ _ c.in-Concat.lower.value _ _ _ _ _ _ c.in_ok-upper-in-Concat.ensures.locals
    c.deref-in-Concat-2.ensures h.1 (omega (arith, st.0), omega (arith, st.1)) (c.in_ok-upper-in-Concat.ensures.term.gathered.grew) c.requires.scope in
    (search (rules, the_lemmas), (r.0, (r.1, r.2)))

pub word_term-word_term-requires-in-Choose-2 : goal.word_term-word_term-requires-in-Choose-2
word_term-word_term-requires-in-Choose-2 t c =
    let h = rw c.in-Choose.is at c.requires.checked in
    let st = rw c.in-Choose.is at c.requires.steady in
    let r = next_word _ _ c.args.names.now c.args.locals.now.items _ _ c.in-Choose.when_true.value _ _ _ _ _ _ c.in_ok-condition-in-Choose.ensures.locals
    c.deref-in-Choose-2.ensures h.2 (omega (arith, st.0), omega (arith, st.1)) (c.in_ok-condition-in-Choose.ensures.term.gathered.grew) c.requires.scope in
    (search (rules, the_lemmas), (r.0, (r.1, r.2)))

pub memory_term-word_term-requires : goal.memory_term-word_term-requires
memory_term-word_term-requires t c =
    let h = rw c.in-Store.is at c.requires.checked in
    let st = rw c.in-Store.is at c.requires.steady in
    let r = next_word _ _ c.args.names.now c.args.locals.now.items _ _ c.in-Store.address.value _ _ _ _ _ _ c.in_ok-memory-in-Store.ensures.locals
    c.deref-in-Store.ensures h.1 (omega (arith, st.0), omega (arith, st.1)) (c.in_ok-memory-in-Store.ensures.term.gathered.grew) c.requires.scope in
    (search (rules, the_lemmas), (r.0, (r.1, r.2)))

pub word_term-word_term-requires-in-Choose-3 : goal.word_term-word_term-requires-in-Choose-3
word_term-word_term-requires-in-Choose-3 t c =
    let h = rw c.in-Choose.is at c.requires.checked in
    let st = rw c.in-Choose.is at c.requires.steady in
    let r = next_word _ _ c.args.names.now c.args.locals.now.items _ _ c.in-Choose.when_false.value _ _ _ _ _ _
    (c.in_ok-when_true-in-Choose.ensures.locals ∙ c.in_ok-condition-in-Choose.ensures.locals) c.deref-in-Choose-3.ensures h.3
    (omega (arith, st.0), omega (arith, st.1)) (grew_on _ _ _ _ _ _ _ _ _ _ _ _ _ c.in_ok-condition-in-Choose.ensures.term.gathered.grew
    c.in_ok-when_true-in-Choose.ensures.term.gathered.grew) c.requires.scope in
    (search (rules, the_lemmas), (r.0, (r.1, r.2)))

pub memory_term-word_term-requires-in-Store : goal.memory_term-word_term-requires-in-Store
memory_term-word_term-requires-in-Store t c =
    let h = rw c.in-Store.is at c.requires.checked in
    let st = rw c.in-Store.is at c.requires.steady in
    let r = next_word _ _ c.args.names.now c.args.locals.now.items _ _ c.in-Store.value.value _ _ _ _ _ _
    (c.in_ok-address-in-Store.ensures.locals ∙ c.in_ok-memory-in-Store.ensures.locals) c.deref-in-Store-2.ensures h.3
    (omega (arith, st.0), omega (arith, st.1)) (grew_on _ _ _ _ _ _ _ _ _ _ _ _ _ c.in_ok-memory-in-Store.ensures.term.gathered.grew
    c.in_ok-address-in-Store.ensures.term.gathered.grew) c.requires.scope in
    (search (rules, the_lemmas), (r.0, (r.1, r.2)))

pub word_term-word_term-requires-in-Let-2 : goal.word_term-word_term-requires-in-Let-2
word_term-word_term-requires-in-Let-2 t c =
    let h = rw c.in-Let.is at c.requires.checked in
    let st = rw c.in-Let.is at c.requires.steady in
    let a = word_at _ _ _ _ _ _ _ _ _ c.in-Let.value.value _ _ refl c.deref-in-Let.ensures c.in_ok-term-in-Let.ensures.term in
    let w = subst (λ z. HasWidth c.word_term-in-Let.new.dag z c.in_ok-term-in-Let.term.0) h.1 a.at in
    let r = body_word _ _ c.args.names.now c.args.locals.now.items _ _ _ _ c.in-Let.body.value _ _ _ _ _ _ c.in_ok-term-in-Let.ensures.locals
    c.in_ok-push-in-Let.ensures.items c.deref-in-Let-2.ensures h.2 (omega (arith, st.0), omega (arith, st.1))
    (c.in-Let.local.width.some, c.in-Let.local.width.few) w a.gathered.grew c.requires.scope in
    (search (rules, the_lemmas), (r.0, (r.1, r.2)))

pub memory_term-memory_term-requires-in-Let : goal.memory_term-memory_term-requires-in-Let
memory_term-memory_term-requires-in-Let t c =
    let h = rw c.in-Let.is at c.requires.checked in
    let st = rw c.in-Let.is at c.requires.steady in
    let a = word_at _ _ _ _ _ _ _ _ _ c.in-Let.value.value _ _ refl c.deref-in-Let.ensures c.in_ok-term-in-Let.ensures.term in
    let w = subst (λ z. HasWidth c.word_term-in-Let.new.dag z c.in_ok-term-in-Let.term.0) h.1 a.at in
    let r = body_memory _ _ c.args.names.now c.args.locals.now.items _ _ _ _ c.in-Let.body.value _ _ _ _ _ _ c.in_ok-term-in-Let.ensures.locals
    c.in_ok-push-in-Let.ensures.items c.deref-in-Let-2.ensures h.2 (omega (arith, st.0), omega (arith, st.1))
    (c.in-Let.local.width.some, c.in-Let.local.width.few) w a.gathered.grew c.requires.scope in
    (search (rules, the_lemmas), (r.0, (r.1, r.2)))

pub memory_term-unreachable-requires : goal.memory_term-unreachable-requires
memory_term-unreachable-requires t c =
    let h = rw c.in-Choose.is at c.requires.checked in
    let st = rw c.in-Choose.is at c.requires.steady in
    no_memory_choice _ _ _ _ h st.0

pub memory_term-returns-in-Var-clause-term : goal.memory_term-returns-in-Var-clause-term
memory_term-returns-in-Var-clause-term t c =
    let h = rw c.in-Var.is at c.requires.checked in
    subst (λ (z : Exp). IsMemoryTerm c.args.dag.now c.args.dag.now c.args.names.now c.args.locals.now.items c.args.place c.args.live.0 c.args.stored.now.items
    c.args.stored.now.items (expression z) c.args.names.now.memory.0) (sym c.in-Var.is)
    (memory_variable _ _ _ _ _ _ (variable_of c.in-Var.field-0) _ c.requires.scope h)

pub word_term-variable_term-requires-clause-word : goal.word_term-variable_term-requires-clause-word
word_term-variable_term-requires-clause-word t c =
    let h = rw c.in-Var.is at c.requires.checked in
    subst (λ (z : List LocalTerm). IsWord (bil.Var (variable_of c.in-Var.variable)) (known c.args.names.now z)) (sym c.deref.ensures.value) h

pub word_term-returns-in-Var-clause-term : goal.word_term-returns-in-Var-clause-term
word_term-returns-in-Var-clause-term t c =
    subst (λ (z : Exp). IsWordTerm c.args.dag.now c.args.dag.now c.args.names.now c.args.locals.now.items c.args.place c.args.live.0 c.args.stored.now.items
    c.args.stored.now.items (expression z) c.variable_term.result.0) (sym c.in-Var.is)
    (variable_word _ _ _ _ _ _ (variable_of c.in-Var.variable) _
    (subst (λ (z : List LocalTerm). IsVariableTerm c.args.dag.now c.args.names.now z
    (variable_of c.in-Var.variable) c.variable_term.result.0) c.deref.ensures.value c.variable_term.ensures))

pub word_term-returns-in_ok-result-in-Constant-clause-term : goal.word_term-returns-in_ok-result-in-Constant-clause-term
word_term-returns-in_ok-result-in-Constant-clause-term t c =
    subst (λ (z : Exp). IsWordTerm c.args.dag.now c.mk.new.self c.args.names.now c.args.locals.now.items c.args.place c.args.live.0 c.args.stored.now.items
    c.args.stored.now.items (expression z) c.in_ok-result-in-Constant.result.0) (sym c.in-Constant.is)
    (constant_word _ _ _ _ _ _ _ _ _ _ (c.in-Constant.word.some, c.in-Constant.word.few) c.in_ok-result-in-Constant.ensures)

pub word_term-returns-in_ok-result-in-Binary-clause-term : goal.word_term-returns-in_ok-result-in-Binary-clause-term
word_term-returns-in_ok-result-in-Binary-clause-term t c =
    let h = rw c.in-Binary.is at c.requires.checked in
    let a = word_at _ _ _ _ _ _ _ _ _ c.in-Binary.left.value _ _ refl c.deref-in-Binary.ensures c.in_ok-left-in-Binary.ensures.term in
    let b = word_at _ _ _ _ _ _ _ _ _ c.in-Binary.right.value _ _ c.in_ok-left-in-Binary.ensures.locals c.deref-in-Binary-2.ensures
    c.in_ok-right-in-Binary.ensures.term in
    subst (λ (z : Exp). IsWordTerm c.args.dag.now c.mk-in-Binary.new.self c.args.names.now c.args.locals.now.items c.args.place c.args.live.0
    c.args.stored.now.items
    c.word_term-in-Binary-2.new.stored.items (expression z) c.in_ok-result-in-Binary.result.0) (sym c.in-Binary.is)
    (binary_word _ _ _ _ _ _ _ _ _ _ _ _ _ _ _ _ _ _ c.requires.scope a b h.2 c.width-width.ensures c.in_ok-result-in-Binary.ensures)

pub word_term-returns-in_ok-result-in-Concat-clause-term : goal.word_term-returns-in_ok-result-in-Concat-clause-term
word_term-returns-in_ok-result-in-Concat-clause-term t c =
    let h = rw c.in-Concat.is at c.requires.checked in
    let a = word_at _ _ _ _ _ _ _ _ _ c.in-Concat.upper.value _ _ refl c.deref-in-Concat.ensures c.in_ok-upper-in-Concat.ensures.term in
    let b = word_at _ _ _ _ _ _ _ _ _ c.in-Concat.lower.value _ _ c.in_ok-upper-in-Concat.ensures.locals c.deref-in-Concat-2.ensures
    c.in_ok-lower-in-Concat.ensures.term in
    subst (λ (z : Exp). IsWordTerm c.args.dag.now c.mk-in-Concat.new.self c.args.names.now c.args.locals.now.items c.args.place c.args.live.0
    c.args.stored.now.items
    c.word_term-in-Concat-2.new.stored.items (expression z) c.in_ok-result-in-Concat.result.0) (sym c.in-Concat.is)
    (concat_word _ _ _ _ _ _ _ _ _ _ _ _ _ _ _ _ _ _ c.requires.scope a b h.2 c.width-high.ensures c.width-low.ensures c.in_ok-result-in-Concat.ensures)

pub word_term-returns-in_ok-result-in-Unary-clause-term : goal.word_term-returns-in_ok-result-in-Unary-clause-term
word_term-returns-in_ok-result-in-Unary-clause-term t c =
    let a = word_at _ _ _ _ _ _ _ _ _ c.in-Unary.word.value _ _ refl c.deref-in-Unary.ensures c.in_ok-term-in-Unary.ensures.term in
    subst (λ (z : Exp). IsWordTerm c.args.dag.now c.unary_term.new.dag c.args.names.now c.args.locals.now.items c.args.place c.args.live.0
    c.args.stored.now.items
    c.word_term-in-Unary.new.stored.items (expression z) c.in_ok-result-in-Unary.result.0) (sym c.in-Unary.is)
    (unary_word _ _ _ _ _ _ _ _ _ _ _ _ _ _ c.requires.scope a c.width-width-in-Unary.ensures c.in_ok-result-in-Unary.ensures)

pub word_term-returns-in_ok-result-in-Extract-clause-term : goal.word_term-returns-in_ok-result-in-Extract-clause-term
word_term-returns-in_ok-result-in-Extract-clause-term t c =
    let h = rw c.in-Extract.is at c.requires.checked in
    let a = word_at _ _ _ _ _ _ _ _ _ c.in-Extract.word.value _ _ refl c.deref-in-Extract.ensures c.in_ok-term-in-Extract.ensures.term in
    subst (λ (z : Exp). IsWordTerm c.args.dag.now c.mk-in-Extract.new.self c.args.names.now c.args.locals.now.items c.args.place c.args.live.0
    c.args.stored.now.items
    c.word_term-in-Extract.new.stored.items (expression z) c.in_ok-result-in-Extract.result.0) (sym c.in-Extract.is)
    (extract_word _ _ _ _ _ _ _ _ _ _ _ _ _ _ c.requires.scope a h.1 h.2 c.in_ok-result-in-Extract.ensures)

pub word_term-returns-in_ok-result-in-Cast-clause-term : goal.word_term-returns-in_ok-result-in-Cast-clause-term
word_term-returns-in_ok-result-in-Cast-clause-term t c =
    let h = rw c.in-Cast.is at c.requires.checked in
    let a = word_at _ _ _ _ _ _ _ _ _ c.in-Cast.word.value _ _ refl c.deref-in-Cast.ensures c.in_ok-term-in-Cast.ensures.term in
    subst (λ (z : Exp). IsWordTerm c.args.dag.now c.mk-in-Cast.new.self c.args.names.now c.args.locals.now.items c.args.place c.args.live.0
    c.args.stored.now.items
    c.word_term-in-Cast.new.stored.items (expression z) c.in_ok-result-in-Cast.result.0) (sym c.in-Cast.is)
    (cast_to_word _ _ _ _ _ _ _ _ _ _ _ _ _ _ _ _ c.requires.scope a h.1
    (c.in-Cast.width.some, c.in-Cast.width.few) c.width-from.ensures c.cast_node.ensures c.in_ok-result-in-Cast.ensures)

pub word_term-mk-requires-in-Cast : goal.word_term-mk-requires-in-Cast
word_term-mk-requires-in-Cast t c =
    let h = rw c.in-Cast.is at c.requires.checked in
    let a = word_at _ _ _ _ _ _ _ _ _ c.in-Cast.word.value _ _ refl c.deref-in-Cast.ensures c.in_ok-term-in-Cast.ensures.term in
    let w = c.width-from.ensures ∙ a.at.1 in
    subst (λ (z : TermNode). IsTypedOver c.word_term-in-Cast.new.dag z) (sym c.cast_node.ensures)
    (cast_typed _ _ c.width-from.result c.in-Cast.width.bits _ (a.at.0, sym c.width-from.ensures) (omega (arith, w, a.wide.0), omega (arith, w, a.wide.1))
    (c.in-Cast.width.some, c.in-Cast.width.few) (rw w h.1))

pub word_term-returns-in_ok-result-in-Unknown-clause-term : goal.word_term-returns-in_ok-result-in-Unknown-clause-term
word_term-returns-in_ok-result-in-Unknown-clause-term t c =
    subst (λ (z : Exp). IsWordTerm c.args.dag.now c.unknown_term.new.dag c.args.names.now c.args.locals.now.items c.args.place c.args.live.0
    c.args.stored.now.items
    c.args.stored.now.items (expression z) c.in_ok-result-in-Unknown.result.0) (sym c.in-Unknown.is)
    (unknown_word _ _ _ _ _ _ _ _ _ c.in_ok-result-in-Unknown.ensures)

pub word_term-returns-in_ok-result-in-Load-clause-term : goal.word_term-returns-in_ok-result-in-Load-clause-term
word_term-returns-in_ok-result-in-Load-clause-term t c =
    let h = rw c.in-Load.is at c.requires.checked in
    let m = memory_at _ _ _ _ _ _ _ _ _ c.in-Load.memory.value _ _ refl c.deref-in-Load.ensures c.in_ok-memory-in-Load.ensures.term in
    let a = word_at _ _ _ _ _ _ _ _ _ c.in-Load.address.value _ _ c.in_ok-memory-in-Load.ensures.locals c.deref-in-Load-2.ensures
    c.in_ok-address-in-Load.ensures.term in
    subst (λ (z : Exp). IsWordTerm c.args.dag.now c.mk-in-Load.new.self c.args.names.now c.args.locals.now.items c.args.place c.args.live.0
    c.args.stored.now.items
    c.word_term.new.stored.items (expression z) c.in_ok-result-in-Load.result.0) (sym c.in-Load.is)
    (load_word _ _ _ _ _ _ _ _ _ _ _ _ _ _ _ _ _ _ _ _ c.requires.scope m a h.2 h.3 refl c.is_big.ensures c.in_ok-result-in-Load.ensures)

pub memory_term-returns-in_ok-push-in-Store-clause-term : goal.memory_term-returns-in_ok-push-in-Store-clause-term
memory_term-returns-in_ok-push-in-Store-clause-term t c =
    let h = rw c.in-Store.is at c.requires.checked in
    let m = memory_at _ _ _ _ _ _ _ _ _ c.in-Store.memory.value _ _ refl c.deref.ensures c.in_ok-memory-in-Store.ensures.term in
    let a = word_at _ _ _ _ _ _ _ _ _ c.in-Store.address.value _ _ c.in_ok-memory-in-Store.ensures.locals c.deref-in-Store.ensures
    c.in_ok-address-in-Store.ensures.term in
    let v = word_at _ _ _ _ _ _ _ _ _ c.in-Store.value.value _ _
    (c.in_ok-address-in-Store.ensures.locals ∙ c.in_ok-memory-in-Store.ensures.locals) c.deref-in-Store-2.ensures c.in_ok-value-in-Store.ensures.term in
    subst (λ (z : Exp). IsMemoryTerm c.args.dag.now c.mk.new.self c.args.names.now c.args.locals.now.items c.args.place c.args.live.0 c.args.stored.now.items
    c.push.new.self.items (expression z) c.in_ok-result-in-Store.result.0) (sym c.in-Store.is)
    (store_memory _ _ _ _ _ _ _ _ _ _ _ _ _ _ _ _ _ _ _ _ _ _ _ _ _ _ c.requires.scope m a v h.2 h.4 h.5 refl c.is_big.ensures c.in_ok-result-in-Store.ensures
    c.in_ok-push-in-Store.ensures.items refl refl refl)

pub word_term-returns-in_ok-result-in-Choose-clause-term : goal.word_term-returns-in_ok-result-in-Choose-clause-term
word_term-returns-in_ok-result-in-Choose-clause-term t c =
    let h = rw c.in-Choose.is at c.requires.checked in
    let st = rw c.in-Choose.is at c.requires.steady in
    let p = word_at _ _ _ _ _ _ _ _ _ c.in-Choose.condition.value _ _ refl c.deref-in-Choose.ensures c.in_ok-condition-in-Choose.ensures.term in
    let a = word_at _ _ _ _ _ _ _ _ _ c.in-Choose.when_true.value _ _ c.in_ok-condition-in-Choose.ensures.locals c.deref-in-Choose-2.ensures
    c.in_ok-when_true-in-Choose.ensures.term in
    let b = word_at _ _ _ _ _ _ _ _ _ c.in-Choose.when_false.value _ _
    (c.in_ok-when_true-in-Choose.ensures.locals ∙ c.in_ok-condition-in-Choose.ensures.locals) c.deref-in-Choose-3.ensures
    c.in_ok-when_false-in-Choose.ensures.term in
    subst (λ (z : Exp). IsWordTerm c.args.dag.now c.mk-in-Choose.new.self c.args.names.now c.args.locals.now.items c.args.place c.args.live.0
    c.args.stored.now.items
    c.word_term-in-Choose-3.new.stored.items (expression z) c.in_ok-result-in-Choose.result.0) (sym c.in-Choose.is)
    (choose_word _ _ _ _ _ _ _ _ _ _ _ _ _ _ _ _ _ _ _ _ _ c.requires.scope p a b h.1 h.4 st.1 c.width-width-in-Choose.ensures c.in_ok-result-in-Choose.ensures)

pub word_term-mk-requires-in-Choose : goal.word_term-mk-requires-in-Choose
word_term-mk-requires-in-Choose t c =
    let h = rw c.in-Choose.is at c.requires.checked in
    let p = word_at _ _ _ _ _ _ _ _ _ c.in-Choose.condition.value _ _ refl c.deref-in-Choose.ensures c.in_ok-condition-in-Choose.ensures.term in
    let a = word_at _ _ _ _ _ _ _ _ _ c.in-Choose.when_true.value _ _ c.in_ok-condition-in-Choose.ensures.locals c.deref-in-Choose-2.ensures
    c.in_ok-when_true-in-Choose.ensures.term in
    let b = word_at _ _ _ _ _ _ _ _ _ c.in-Choose.when_false.value _ _
    (c.in_ok-when_true-in-Choose.ensures.locals ∙ c.in_ok-condition-in-Choose.ensures.locals) c.deref-in-Choose-3.ensures
    c.in_ok-when_false-in-Choose.ensures.term in
    let g = grew_on _ _ _ _ _ _ _ _ _ _ _ _ _ a.gathered.grew b.gathered.grew in
    let pc = grew_width _ _ _ _ _ _ _ _ _ g p.at in
    let pa = grew_width _ _ _ _ _ _ _ _ _ b.gathered.grew a.at in
    let w = c.width-width-in-Choose.ensures ∙ pa.1 in (
      (omega (arith, w, a.wide.0), omega (arith, w, a.wide.1)),
      (pc.0, pc.1 ∙ h.1),
      (pa.0, pa.1 ∙ sym w),
      (b.at.0, b.at.1 ∙ sym (w ∙ h.4)),
    )

pub word_term-returns-in_ok-result-in-Let-clause-term : goal.word_term-returns-in_ok-result-in-Let-clause-term
word_term-returns-in_ok-result-in-Let-clause-term t c =
    let h = rw c.in-Let.is at c.requires.checked in
    let a = word_at _ _ _ _ _ _ _ _ _ c.in-Let.value.value _ _ refl c.deref-in-Let.ensures c.in_ok-term-in-Let.ensures.term in
    let b = word_at _ _ _ _ _ _ _ _ _ c.in-Let.body.value _ _ (c.in_ok-push-in-Let.ensures.items ∙ ap
    (λ z. z ++ record { number = c.in-Let.local.number; width = c.in-Let.local.width.bits; term = c.in_ok-term-in-Let.term }
    ∷ []) c.in_ok-term-in-Let.ensures.locals) c.deref-in-Let-2.ensures c.in_ok-result-in-Let.ensures.term in
    subst (λ (z : Exp). IsWordTerm c.args.dag.now c.word_term-in-Let-2.new.dag c.args.names.now c.args.locals.now.items c.args.place c.args.live.0
    c.args.stored.now.items
    c.word_term-in-Let-2.new.stored.items (expression z) c.in_ok-result-in-Let.result.0) (sym c.in-Let.is)
    (let_word _ _ _ _ _ _ _ _ _ _ _ _ _ _ _ _ _ c.requires.scope a h.1 refl refl refl b)

pub memory_term-returns-in_ok-result-in-Let-clause-term : goal.memory_term-returns-in_ok-result-in-Let-clause-term
memory_term-returns-in_ok-result-in-Let-clause-term t c =
    let h = rw c.in-Let.is at c.requires.checked in
    let a = word_at _ _ _ _ _ _ _ _ _ c.in-Let.value.value _ _ refl c.deref-in-Let.ensures c.in_ok-term-in-Let.ensures.term in
    let b = memory_at _ _ _ _ _ _ _ _ _ c.in-Let.body.value _ _ (c.in_ok-push-in-Let.ensures.items ∙ ap
    (λ z. z ++ record { number = c.in-Let.local.number; width = c.in-Let.local.width.bits; term = c.in_ok-term-in-Let.term }
    ∷ []) c.in_ok-term-in-Let.ensures.locals) c.deref-in-Let-2.ensures c.in_ok-result-in-Let.ensures.term in
    subst (λ (z : Exp). IsMemoryTerm c.args.dag.now c.memory_term-in-Let.new.dag c.args.names.now c.args.locals.now.items c.args.place c.args.live.0
    c.args.stored.now.items
    c.memory_term-in-Let.new.stored.items (expression z) c.in_ok-result-in-Let.result.0) (sym c.in-Let.is)
    (let_memory _ _ _ _ _ _ _ _ _ _ _ _ _ _ _ _ _ c.requires.scope a h.1 refl refl refl b)
