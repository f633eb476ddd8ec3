-- What calls on operands ask for, and what they give, in the words of the whole expression.
use Rattle.std.proofs.Common.{◌≡◌, ℕ, ◌≤◌, true, List, [], ◌∷◌, ◌++◌, refl, sym, ap, ◌∙◌, subst, arith}
use Rattle.std.specs.Prelude.{◌||◌, ◌==◌, if◌then◌else◌, Bool}
use Rattle.std.proofs.lemmas.Bool.{eq-eqb}
use Rattle.std.proofs.lemmas.Bool.Decides.{nat_tests}
use Rattle.machine_spec.specs.Bil.{BilVariable, Register, Flag, Mem, Local, CastKind, Low, High, Signed, Unsigned, Expression, Var, Constant, Load, Store, Binary, Unary, Cast, Let, Unknown, Choose, Extract, Concat, total}
use Rattle.machine_spec.specs.BilTyping.{cast_fits}
use Rattle.machine_spec.specs.BilCounts.{is_local, own_memory_choices, width}
use Rattle.term_spec.specs.Terms.{TermNode, HasWidth, IsWidth, IsTypedOver}
use Rattle.term_dag.specs.Made.{Grew}
use Rattle.bil_ast.specs.declared.expressions.Exp.{Exp}
use Rattle.bil_ast.specs.Views.{expression}
use Rattle.bil_eval.specs.Checked.{IsWord, IsMemory}
use Rattle.term_names.specs.declared.names.Names.{Names}
use Rattle.bil_terms.specs.declared.stored.Stored.{Stored}
use Rattle.bil_terms.specs.declared.variables.LocalTerm.{LocalTerm}
use Rattle.bil_terms.specs.Naming.{known, IsScope}
use Rattle.bil_terms.specs.Lowered.{IsSteady, IsWordTerm, IsMemoryTerm, cast_node}
use Rattle.bil_terms.proofs.Locals.{known_push}
use Rattle.bil_terms.proofs.Scopes.{scope_kept, scope_push}

pub word_at : (d0 d1 : List TermNode) (n : Names) (ls ms : List LocalTerm) (place live : ℕ) (s0 s1 : List Stored) (b r : Exp) (t : ℕ) → ms ≡ ls → r ≡ b →
    IsWordTerm d0 d1 n ms place live s0 s1 (expression r) t → IsWordTerm d0 d1 n ls place live s0 s1 (expression b) t
word_at d0 d1 n ls ms place live s0 s1 b r t e f q =
    subst (λ (z : List LocalTerm). IsWordTerm d0 d1 n z place live s0 s1 (expression b) t) e
    (subst (λ (z : Exp). IsWordTerm d0 d1 n ms place live s0 s1 (expression z) t) f q)

pub memory_at : (d0 d1 : List TermNode) (n : Names) (ls ms : List LocalTerm) (place live : ℕ) (s0 s1 : List Stored) (b r : Exp) (t : ℕ) → ms ≡ ls → r ≡ b →
    IsMemoryTerm d0 d1 n ms place live s0 s1 (expression r) t → IsMemoryTerm d0 d1 n ls place live s0 s1 (expression b) t
memory_at d0 d1 n ls ms place live s0 s1 b r t e f q =
    subst (λ (z : List LocalTerm). IsMemoryTerm d0 d1 n z place live s0 s1 (expression b) t) e
    (subst (λ (z : Exp). IsMemoryTerm d0 d1 n ms place live s0 s1 (expression z) t) f q)

-- the next operand can be called on
pub next_word : (d0 d1 : List TermNode) (n : Names) (ls ms : List LocalTerm) (live : ℕ) (b r : Exp) (g l s j k : ℕ) → ms ≡ ls → r ≡ b →
    IsWord (expression b) (known n ls) →
    IsSteady (expression b) → Grew d0 d1 g l s j k → IsScope d0 n ls live → IsWord (expression r) (known n ms) × IsSteady (expression r) × IsScope d1 n ms live
next_word d0 d1 n ls ms live b r g l s j k e f h st p sc = (
  subst (λ (z : List LocalTerm). IsWord (expression r) (known n z)) (sym e) (subst (λ (z : Exp). IsWord (expression z) (known n ls)) (sym f) h),
  subst (λ (z : Exp). IsSteady (expression z)) (sym f) st,
  subst (λ (z : List LocalTerm). IsScope d1 n z live) (sym e) (scope_kept d0 d1 g l s j k n ls live p sc),
)

push_scope : (d0 d1 : List TermNode) (n : Names) (ls ms news : List LocalTerm) (term : LocalTerm) (live g l s j k : ℕ) → ms ≡ ls → news ≡ ms ++ term ∷ [] →
    IsWidth term.width →
    HasWidth d1 term.width term.term.0 → Grew d0 d1 g l s j k → IsScope d0 n ls live → IsScope d1 n news live
push_scope d0 d1 n ls ms news term live g l s j k e f w h p sc =
    subst (λ (z : List LocalTerm). IsScope d1 n z live) (sym (f ∙ ap (λ z. z ++ term ∷ []) e))
    (scope_push d1 n ls live term (scope_kept d0 d1 g l s j k n ls live p sc) w h)

push_known : (n : Names) (ls ms news : List LocalTerm) (term : LocalTerm) → ms ≡ ls → news ≡ ms ++ term ∷ [] →
    known n news ≡ (λ y. is_local term.number term.width y || known n ls y)
push_known n ls ms news term e f = ap (known n) (f ∙ ap (λ z. z ++ term ∷ []) e) ∙ known_push n ls term

-- the body of a let can be called on
pub body_word : (d0 d1 : List TermNode) (n : Names) (ls ms news : List LocalTerm) (term : LocalTerm) (live : ℕ) (b r : Exp) (g l s j k : ℕ) → ms ≡ ls →
    news ≡ ms ++ term ∷ [] → r ≡ b →
    IsWord (expression b) (λ y. is_local term.number term.width y || known n ls y) → IsSteady (expression b) → IsWidth term.width →
    HasWidth d1 term.width term.term.0 →
    Grew d0 d1 g l s j k → IsScope d0 n ls live → IsWord (expression r) (known n news) × IsSteady (expression r) × IsScope d1 n news live
body_word d0 d1 n ls ms news term live b r g l s j k e f q h st w at p sc = (
  subst (λ (z : BilVariable → Bool). IsWord (expression r) z) (sym (push_known n ls ms news term e f))
      (subst (λ (z : Exp). IsWord (expression z) (λ y. is_local term.number term.width y || known n ls y)) (sym q) h),
  subst (λ (z : Exp). IsSteady (expression z)) (sym q) st,
  push_scope d0 d1 n ls ms news term live g l s j k e f w at p sc,
)

pub body_memory : (d0 d1 : List TermNode) (n : Names) (ls ms news : List LocalTerm) (term : LocalTerm) (live : ℕ) (b r : Exp) (g l s j k : ℕ) → ms ≡ ls →
    news ≡ ms ++ term ∷ [] → r ≡ b →
    IsMemory (expression b) (λ y. is_local term.number term.width y || known n ls y) → IsSteady (expression b) → IsWidth term.width →
    HasWidth d1 term.width term.term.0 →
    Grew d0 d1 g l s j k → IsScope d0 n ls live → IsMemory (expression r) (known n news) × IsSteady (expression r) × IsScope d1 n news live
body_memory d0 d1 n ls ms news term live b r g l s j k e f q h st w at p sc = (
  subst (λ (z : BilVariable → Bool). IsMemory (expression r) z) (sym (push_known n ls ms news term e f))
      (subst (λ (z : Exp). IsMemory (expression z) (λ y. is_local term.number term.width y || known n ls y)) (sym q) h),
  subst (λ (z : Exp). IsSteady (expression z)) (sym q) st,
  push_scope d0 d1 n ls ms news term live g l s j k e f w at p sc,
)

-- the node of a cast is over its operand
pub cast_typed : (ns : List TermNode) (kind : CastKind) (w m t : ℕ) → HasWidth ns w t → IsWidth w → IsWidth m → cast_fits kind m w ≡ true →
    IsTypedOver ns (cast_node kind w m t)
cast_typed ns Low w m t h i j f = (let le : m ≤ w = grind (arith, nat_tests) in (omega arith, omega (arith, h.1, j.0), h.0))
cast_typed ns High w m t h i j f = (let le : m ≤ w = grind (arith, nat_tests) in (omega (arith, j.0), omega (arith, h.1, i.0), h.0))
cast_typed ns Signed w m t h i j f = (let le : w ≤ m = grind (arith, nat_tests) in (i, le, j.1, h))
cast_typed ns Unsigned w m t h i j f = (let le : w ≤ m = grind (arith, nat_tests) in (i, le, j.1, h))

memory_width : (e : Expression) (k : BilVariable → Bool) → IsMemory e k → width e ≡ 0
memory_width (Var (Register b r)) k h = absurd h
memory_width (Var (Flag f)) k h = absurd h
memory_width (Var Mem) k h = refl
memory_width (Var (Local x n)) k h = absurd h
memory_width (Constant n v) k h = absurd h
memory_width (Load m a e n) k h = absurd h
memory_width (Store m a e n v) k h = refl
memory_width (Binary o a b) k h = absurd h
memory_width (Unary o a) k h = absurd h
memory_width (Cast q n a) k h = absurd h
memory_width (Let x n a b) k h = memory_width b (λ y. is_local x n y || k y) h.2
memory_width (Unknown t) k h = absurd h
memory_width (Choose c a b) k h = memory_width a k h.2
memory_width (Extract hi lo a) k h = absurd h
memory_width (Concat a b) k h = absurd h

-- no choice is between memories
pub no_memory_choice : (c a b : Expression) (k : BilVariable → Bool) → IsMemory (Choose c a b) k → total own_memory_choices (Choose c a b) ≡ 0 → ⊥
no_memory_choice c a b k h e =
    let w : (width a == 0) ≡ true = eq-eqb (width a) 0 (memory_width a k h.2) in
    let one : own_memory_choices (Choose c a b) ≡ 1 = ap (λ (z : Bool). if z then 1 else 0) w in
    absurd (omega (arith, one, e))
