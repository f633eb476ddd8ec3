use Rattle.std.proofs.Common.{ap, sym, ◌∙◌, refl, Some, [], ◌∷◌, ◌++◌}
use Rattle.notes_lang.specs.Reading.{tokens_view}
use Rattle.notes_lang.proofs.Steps as steps
use Rattle.line_tokens.specs.Tokens.{token_of}
use Rattle.notes_lang.specs.Scoping.{scope_of}
use Rattle.notes_value.specs.Views.{expr_of, op_of}
use Rattle.notes_lang.proofs.parser.+parser.Goals as goal

pub atom-returns-in_ok-read-in-Name-clause-read : goal.atom-returns-in_ok-read-in-Name-clause-read
atom-returns-in_ok-read-in-Name-clause-read t c =
    steps.name_atom (scope_of c.args.scope) c.in-Some.first.now c.args.tokens.now c.in-Some.rest.now _ _ c.in-Some.ensures.cases.0
    (ap token_of c.in-Name.is) c.in_ok-read-in-Name.ensures.read

pub atom-returns-in_ok-read-in-Sign-clause-read : goal.atom-returns-in_ok-read-in-Sign-clause-read
atom-returns-in_ok-read-in-Sign-clause-read t c =
    steps.bracket_atom (scope_of c.args.scope) c.in-Some.first.now c.args.tokens.now c.in-Some.rest.now _ _ c.in_ok-read-in-Sign.read c.in-Some.ensures.cases.0
    (ap token_of c.in-Sign.is)
    c.if-not-is_sign.false c.is_sign.ensures c.in_ok-read-in-Sign.ensures.read

pub chain-returns-in_default-clause-read : goal.chain-returns-in_default-clause-read
chain-returns-in_default-clause-read t c =
    steps.first_none (scope_of c.args.scope) c.args.level c.args.tokens.now c.in_ok-first.field-0 c.requires.not_three c.requires.level c.in_default.is
    c.in_ok-first.ensures.read

pub chain-loop-op-init : goal.chain-loop-op-init
chain-loop-op-init t c =
    steps.first_some (scope_of c.args.scope) c.args.level c.args.tokens.now c.in_ok-first.field-0 c.in-Some.first c.requires.not_three c.requires.level
    c.in-Some.is c.in_ok-first.ensures.read c.in_ok-first.ensures.left

pub chain-returns-in_default-2-clause-read : goal.chain-returns-in_default-2-clause-read
chain-returns-in_default-2-clause-read t c =
    steps.right_none (scope_of c.args.scope) c.args.level c.args.tokens.now c.loop-op.rest.now c.in-Some-operator.behind.now (expr_of c.loop-op.expr)
    (op_of c.in-Some-operator.op) c.in_ok-right.field-0
    c.loop-op.invariant c.in-Some-operator.ensures.operator c.in-Some-operator.ensures.rest c.in_default-2.is c.in_ok-right.ensures.read

pub chain-returns-then-level-eq4-clause-read : goal.chain-returns-then-level-eq4-clause-read
chain-returns-then-level-eq4-clause-read t c =
    steps.right_last (scope_of c.args.scope) c.args.level c.args.tokens.now c.loop-op.rest.now c.in-Some-operator.behind.now (expr_of c.loop-op.expr) _
    (op_of c.in-Some-operator.op) c.in_ok-right.field-0 c.in-Some-2.right
    c.loop-op.invariant c.in-Some-operator.ensures.operator c.in-Some-operator.ensures.rest c.in-Some-2.is c.in_ok-right.ensures.read
    c.in_ok-joined.ensures c.if-level-eq4.true

pub chain-loop-op-preserved : goal.chain-loop-op-preserved
chain-loop-op-preserved t c =
    steps.right_some (scope_of c.args.scope) c.args.level c.args.tokens.now c.loop-op.rest.now c.in-Some-operator.behind.now (expr_of c.loop-op.expr) _
    (op_of c.in-Some-operator.op) c.in_ok-right.field-0 c.in-Some-2.right
    c.loop-op.invariant c.in-Some-operator.ensures.operator c.in-Some-operator.ensures.rest c.in-Some-2.is c.in_ok-right.ensures.read c.in_ok-right.ensures.left
    c.in_ok-joined.ensures c.if-level-eq4.false

pub chain-returns-clause-read : goal.chain-returns-clause-read
chain-returns-clause-read t c =
    steps.chain_ends (scope_of c.args.scope) c.args.level c.args.tokens.now c.loop-op.rest.now
    (expr_of c.loop-op.expr) c.loop-op.invariant c.in_default-operator.ensures.operator

pub word_atom-returns-in_default-2-clause-read : goal.word_atom-returns-in_default-2-clause-read
word_atom-returns-in_default-2-clause-read t c =
    steps.load_none (scope_of c.args.scope) c.in-Some.size _ _ c.args.word.now c.args.tokens.now c.in-Some-behind_sign.behind.now c.in_ok-inner.field-0
    c.in-Some.ensures c.in-Some-behind_sign.ensures.found
    c.in-Some-behind_sign.ensures.rest c.in_ok-inner.ensures.read c.in_default-2.is

pub word_atom-returns-in-Some-clause-read : goal.word_atom-returns-in-Some-clause-read
word_atom-returns-in-Some-clause-read t c =
    steps.load_some (scope_of c.args.scope) c.in-Some.size _ _ c.args.word.now c.args.tokens.now c.in-Some-behind_sign.behind.now c.in_ok-inner.field-0
    c.in-Some-2.inner _ c.in-Some.ensures c.in-Some-behind_sign.ensures.found
    c.in-Some-behind_sign.ensures.rest c.in_ok-inner.ensures.read c.in-Some-2.is (ap expr_of c.in_ok-new.ensures.ok)

pub word_atom-returns-in_default-3-clause-read : goal.word_atom-returns-in_default-3-clause-read
word_atom-returns-in_default-3-clause-read t c =
    steps.old_none (scope_of c.args.scope) c.args.word.now c.args.tokens.now c.in-Some-behind_sign-2.behind.now c.in_ok-inner-2.field-0 c.in_default.ensures
    (sym c.if-is_old.true ∙ c.is_old.ensures) c.in-Some-behind_sign-2.ensures.found
    c.in-Some-behind_sign-2.ensures.rest c.in_ok-inner-2.ensures.read c.in_default-3.is

pub word_atom-returns-then-is_old-clause-read : goal.word_atom-returns-then-is_old-clause-read
word_atom-returns-then-is_old-clause-read t c =
    steps.old_some (scope_of c.args.scope) c.args.word.now c.args.tokens.now c.in-Some-behind_sign-2.behind.now c.in_ok-inner-2.field-0 c.in-Some-3.inner _
    c.in_default.ensures (sym c.if-is_old.true ∙ c.is_old.ensures)
    c.in-Some-behind_sign-2.ensures.found c.in-Some-behind_sign-2.ensures.rest c.in_ok-inner-2.ensures.read c.in-Some-3.is (ap expr_of c.in_ok-new-2.ensures.ok)

pub read-returns-then-level-eq3-clause-read : goal.read-returns-then-level-eq3-clause-read
read-returns-then-level-eq3-clause-read t c = steps.negation_read (scope_of c.args.scope) c.args.level _ _ c.if-level-eq3.true c.in_ok-read.ensures.read

pub read-returns-then-level-eq11-clause-read : goal.read-returns-then-level-eq11-clause-read
read-returns-then-level-eq11-clause-read t c = steps.atom_read (scope_of c.args.scope) c.args.level _ _ c.if-level-eq11.true c.in_ok-read-2.ensures.read

pub all_values-returns-in_default-2-clause-read : goal.all_values-returns-in_default-2-clause-read
all_values-returns-in_default-2-clause-read t c =
    steps.all_failed (scope_of c.args.scope) (tokens_view c.args.tokens.now) (Some c.in-Some.head) c.in-Some.head _ c.in_ok-inner.field-0 c.in-Some.ensures.head
    refl
    (steps.bound_more c.args.scope c.deref.result.now c.in-Some.head.word
    (c.deref.ensures.value ∙ (c.in_ok-push.ensures.items ∙ ap (λ l. l ++ c.in-Some.head.word ∷ [])
    (c.in_ok-extend_from_slice.ensures.items ∙ ap (λ l. l ++ c.args.scope.bound.now) c.in_ok-bound.ensures.items))))
    c.in_ok-inner.ensures.read c.in_default-2.is

pub all_values-returns-clause-read : goal.all_values-returns-clause-read
all_values-returns-clause-read t c =
    steps.all_read (scope_of c.args.scope) (tokens_view c.args.tokens.now) (Some c.in-Some.head) c.in-Some.head _ c.in_ok-inner.field-0 c.in-Some-2.inner _
    c.in-Some.ensures.head refl
    (steps.bound_more c.args.scope c.deref.result.now c.in-Some.head.word
    (c.deref.ensures.value ∙ (c.in_ok-push.ensures.items ∙ ap (λ l. l ++ c.in-Some.head.word ∷ [])
    (c.in_ok-extend_from_slice.ensures.items ∙ ap (λ l. l ++ c.args.scope.bound.now) c.in_ok-bound.ensures.items))))
    c.in_ok-inner.ensures.read c.in-Some-2.is (ap expr_of c.in_ok-new.ensures.ok)
