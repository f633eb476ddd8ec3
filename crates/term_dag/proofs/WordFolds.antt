-- Folds of words, as folds of nodes.
use Rattle.std.proofs.Common.{◌≡◌, ℕ, ◌^◌, ◌<◌, ◌≤◌, List, length, refl, ap, sym, ◌∙◌, subst, arith, Bool, true, false, Option, Some, None}
use Rattle.std.specs.Prelude.{◌==◌, not, if◌then◌else◌, unwrap_or, IfSome}
use Rattle.std.proofs.Math.Nat.{pow-le-pow_right}
use Rattle.machine_spec.proofs.WordBounds.{bit_below}
use Rattle.word_spec.specs.Words as words
use Rattle.machine_spec.specs.Bil.{BinaryOp, NotEqual, Equal}
use Rattle.machine_spec.specs.BilTyping.{result_width}
use Rattle.machine_spec.specs.BilCounts.{op_weight}
use Rattle.term_spec.specs.Terms.{TermReading, InRange, TermNode, ConstantNode, BinaryNode, word_value, term_word, width_of, node_at, HasWidth, IsWidth, IsTypedOver, AreTyped, operate, own_gates}
use Rattle.term_dag.specs.declared.nodes.Node.TheVariants as node
use Rattle.term_dag.specs.declared.folds.Folded.{Folded}
use Rattle.term_dag.specs.declared.folds.Folded.TheVariants.{Old, New, Onto, Unless}
use Rattle.term_dag.specs.Nodes.{node_of}
use Rattle.term_dag.specs.Folds.{value_over, IsFold, IsNodeWord, IsOntoWord, IsWordFold, IsConstant, IsSum}
use Rattle.term_dag.proofs.ListLaws.{by_node, typed_here}
use Rattle.term_dag.proofs.Ranges.{result_is_width, word_only, word_fits}
use Rattle.term_dag.proofs.WordLaws.{moved}

-- a fold of a word is a fold of each node with its width and value
pub word_fold : (ns : List TermNode) (n : TermNode) (w : ℕ) (f : TermReading → ℕ) (g : ℕ) (r : Folded) → AreTyped ns → 1 ≤ w → width_of n ≡ w →
    ((x : TermReading) → value_over ns n x ≡ word_value (f x)) → g ≤ own_gates n → IsWordFold ns w f g r → IsFold ns n r
word_fold ns n w f g (Old t) h s e v b p = record {
  within = p.place.0;
  width = p.place.1 ∙ sym e;
  value = λ x i. word_only x ns w t.0 h s p.place ∙ ap word_value (p.value x i) ∙ sym (v x);
}
word_fold ns n w f g (New m) h s e v b p = record {
  typed = p.typed;
  width = p.width ∙ sym e;
  value = λ x i. p.value x i ∙ sym (v x);
  gates = omega (arith, p.gates);
  loads = omega (arith, p.loads);
  stores = omega (arith, p.stores);
  joins = omega (arith, p.joins);
  named = λ z. absurd (p.derived z);
}
word_fold ns n w f g (Onto o k t c) h s e v b p = record {
  some = p.some;
  first = p.first;
  second = p.second;
  width = p.width ∙ sym e;
  value = λ x i. ap word_value (p.value x i) ∙ sym (v x);
  gates = omega (arith, p.gates);
}
word_fold ns n w f g (Unless a c) h s e v b p = record {
  first = p.first;
  second = p.second;
  width = p.width ∙ sym e;
  value = λ x i. ap word_value (p.value x i) ∙ sym (v x);
  gates = omega (arith, p.gates);
}

-- a fold of a word is one of each word with the same value, and within each greater bound
pub same_fold : (ns : List TermNode) (w : ℕ) (f k : TermReading → ℕ) (g b : ℕ) (r : Folded) → ((x : TermReading) → InRange x → f x ≡ k x) → g ≤ b →
    IsWordFold ns w f g r → IsWordFold ns w k b r
same_fold ns w f k g b (Old t) e l p = record { place = p.place; value = λ x i. p.value x i ∙ e x i }
same_fold ns w f k g b (New m) e l p = record {
  typed = p.typed;
  width = p.width;
  value = λ x i. p.value x i ∙ ap word_value (e x i);
  gates = omega (arith, p.gates);
  loads = p.loads;
  stores = p.stores;
  joins = p.joins;
  derived = p.derived;
}
same_fold ns w f k g b (Onto o q t c) e l p = record {
  some = p.some;
  first = p.first;
  second = p.second;
  width = p.width;
  value = λ x i. p.value x i ∙ e x i;
  gates = omega (arith, p.gates);
}
same_fold ns w f k g b (Unless a c) e l p = record {
  first = p.first;
  second = p.second;
  width = p.width;
  value = λ x i. p.value x i ∙ e x i;
  gates = omega (arith, p.gates);
}

-- a constant
pub fixed : (ns : List TermNode) (w : ℕ) (f : TermReading → ℕ) (g c : ℕ) → 1 ≤ w → w ≤ 64 → c < 2 ^ w → ((x : TermReading) → InRange x → c ≡ f x) →
    IsWordFold ns w f g (New (node.Constant w c))
fixed ns w f g c s l b e = record {
  typed = ((s, l), b);
  width = refl;
  value = λ x i. ap word_value (e x i);
  gates = omega arith;
  loads = refl;
  stores = refl;
  joins = refl;
  derived = λ z. z;
}

-- a term that is a constant
pub constant_term : (ns : List TermNode) (t w c : ℕ) → AreTyped ns → t < length ns → ConstantNode w c ≡ node_at ns t → IsConstant ns t c
constant_term ns t w c h l e = record {
  value = λ x. ap (λ z. z.word) (by_node x ns t (ConstantNode w c) h l e);
  below = subst (λ (n : TermNode). c < 2 ^ width_of n) e (typed_here ns t (ConstantNode w c) h l e).1;
}

-- a node that is left as it is
pub kept : (ns : List TermNode) (m : _) → IsTypedOver ns (node_of m) → IsFold ns (node_of m) (New m)
kept ns m h = record {
  typed = h;
  width = refl;
  value = λ x i. refl;
  gates = omega arith;
  loads = omega arith;
  stores = omega arith;
  joins = omega arith;
  named = λ z. refl;
}

-- the test whether a sum is a constant, as that of its base
pub moved_onto : (ns : List TermNode) (w t base o r q : ℕ) (d : Bool) (op : BinaryOp) → AreTyped ns → IsWidth w → IsSum ns w t base o → r < 2 ^ w →
    q ≡ words.sub w r o → q < 2 ^ w →
    op ≡ (if d then NotEqual else Equal) → IsOntoWord ns 1 (λ x. words.bit (words.differ d (term_word x ns t == r))) w op w base q
moved_onto ns w t base o r q d op h y s l e k g = subst (λ (z : BinaryOp). IsOntoWord ns 1
    (λ x. words.bit (words.differ d (term_word x ns t == r))) w z w base q) (sym g) (at d)
  where
    test : (x : TermReading) → InRange x → (term_word x ns base == q) ≡ (term_word x ns t == r)
    test x i = ap (λ z. term_word x ns base == z) e ∙ moved w (term_word x ns base) o r (word_fits x ns w base i h s.place) s.below l ∙ ap
        (λ z. z == r) (sym (s.value x i))

    at : (d : Bool) → IsOntoWord ns 1 (λ x. words.bit (words.differ d (term_word x ns t == r))) w (if d then NotEqual else Equal) w base q
    at true = record { some = y; first = s.place; second = k; width = refl; value = λ x i. ap (λ z. words.bit (not z)) (test x i); gates = omega arith }
    at false = record { some = y; first = s.place; second = k; width = refl; value = λ x i. ap words.bit (test x i); gates = omega arith }

-- an operator between two words, left as it is
pub kept_binary : (ns : List TermNode) (o : BinaryOp) (w a b : ℕ) → IsWidth w → HasWidth ns w a → HasWidth ns w b →
    IsNodeWord ns (result_width o w) (λ x. operate o w (term_word x ns a) (term_word x ns b)) (op_weight o w) (BinaryNode o w a b)
kept_binary ns o w a b s p q = record {
  typed = (s, p, q);
  width = refl;
  value = λ x i. refl;
  gates = omega arith;
  loads = refl;
  stores = refl;
  joins = refl;
  derived = λ z. z;
}

-- a fold that was found, or another one
pub found_or : (ns : List TermNode) (w : ℕ) (f k : TermReading → ℕ) (g : ℕ) (o : Option Folded) (d : Folded) → ((x : TermReading) → InRange x → f x ≡ k x) →
    IfSome o (λ r. IsWordFold ns w f g r) → IsWordFold ns w k g d → IsWordFold ns w k g (unwrap_or o d)
found_or ns w f k g None d e h n = n
found_or ns w f k g (Some r) d e h n = same_fold ns w f k g g r e (omega arith) h

-- a bit as a constant of an operator's width
pub fixed_bit : (ns : List TermNode) (o : BinaryOp) (w : ℕ) (f : TermReading → ℕ) (n c : ℕ) (b : Bool) → IsWidth w → n ≡ result_width o w → c ≡ words.bit b →
    ((x : TermReading) → InRange x → f x ≡ words.bit b) → IsNodeWord ns (result_width o w) f 0 (ConstantNode n c)
fixed_bit ns o w f n c b s e g h =
    let r = result_is_width o w s.0 s.1 in
    let p : 2 ^ 1 ≤ 2 ^ result_width o w = pow-le-pow_right (omega arith) r.0 in
    let q : c < 2 ^ result_width o w = omega (arith, bit_below b) in
    subst (λ (z : ℕ). IsNodeWord ns (result_width o w) f 0 (ConstantNode z c)) (sym e) (fixed ns (result_width o w) f 0 c r.0 r.1 q (λ x i. g ∙ sym (h x i)))
