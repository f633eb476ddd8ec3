-- Terms of expressions, by their operands.
use Rattle.std.proofs.Common.{◌≡◌, ℕ, ◌+◌, ◌≤◌, List, refl, sym, ap, ◌∙◌, subst, arith, inl, inr}
use Rattle.machine_spec.specs.Bil.{BilVariable, BinaryOp, UnaryOp, Negate, Not, BilType, Expression, Var, Constant, Binary, Unary, Unknown, Concat}
use Rattle.machine_spec.specs.BilTyping.{result_width}
use Rattle.machine_spec.specs.BilCounts.{width, own_weight, op_weight}
use Rattle.machine_spec.specs.BilMeaning.{Word, Bytes, Env, evaluate, binary, unary, concat_of}
use Rattle.machine_spec.specs.BilStores.{stored_by}
use Rattle.term_spec.specs.Terms.{TermReading, InRange, TermNode, TermValue, ConstantNode, BinaryNode, ConcatNode, HasWidth, HasMemory, IsWidth, term_value, term_word, width_of, node_at}
use Rattle.term_dag.specs.Made.{Grew, IsMade}
use Rattle.term_dag.proofs.Growth.{grew_width, made_width}
use Rattle.term_dag.proofs.Ranges.{result_is_width}
use Rattle.term_names.specs.declared.names.Names.{Names}
use Rattle.bil_terms.specs.declared.stored.Stored.{Stored}
use Rattle.bil_terms.specs.declared.variables.LocalTerm.{LocalTerm}
use Rattle.bil_terms.specs.Naming.{IsScope, Holds, IsVariableTerm}
use Rattle.bil_terms.specs.Gathered.{expression_cost}
use Rattle.bil_terms.specs.Lowered.{IsWordTerm, IsMemoryTerm, IsUnknown, IsUnary, unary_gates}
use Rattle.bil_terms.proofs.Scopes.{word_kept, holds_kept}
use Rattle.bil_terms.proofs.Gathering.{gathered_none, gathered_on, gathered_then, gathered_as, gathered_grew, gathered_made}
use Rattle.bil_terms.proofs.Operations.{binary_is}

-- a term has the word of an expression, in each environment that earlier terms denote
pub record Reads (d0 d : List TermNode) (n : Names) (ls : List LocalTerm) (place : ℕ) (e : Expression) (t : ℕ) : Type 0 where
  pub at : HasWidth d (width e) t
  pub value : (x : TermReading) → InRange x → (v : Env) → Holds d0 x n ls v → evaluate e (x.choice place) v ≡ Word (width e) (term_word x d t)

-- a term has the memory of an expression
pub record ReadsMemory (d0 d : List TermNode) (n : Names) (ls : List LocalTerm) (place : ℕ) (e : Expression) (t : ℕ) : Type 0 where
  pub at : HasMemory d t
  pub value : (x : TermReading) → InRange x → (v : Env) → Holds d0 x n ls v → evaluate e (x.choice place) v ≡ Bytes (term_value x d t).bytes

pub reads : (d0 d1 : List TermNode) (n : Names) (ls : List LocalTerm) (place live : ℕ) (s0 s1 : List Stored) (e : Expression) (t : ℕ) →
    IsWordTerm d0 d1 n ls place live s0 s1 e t →
    Reads d0 d1 n ls place e t
reads d0 d1 n ls place live s0 s1 e t p = record { at = p.at; value = p.value }

pub reads_memory : (d0 d1 : List TermNode) (n : Names) (ls : List LocalTerm) (place live : ℕ) (s0 s1 : List Stored) (e : Expression) (t : ℕ) →
    IsMemoryTerm d0 d1 n ls place live s0 s1 e t →
    ReadsMemory d0 d1 n ls place e t
reads_memory d0 d1 n ls place live s0 s1 e t p = record { at = p.at; value = p.value }

pub reads_later : (d0 d1 d2 : List TermNode) (n : Names) (ls : List LocalTerm) (place : ℕ) (e : Expression) (t g l s j k : ℕ) → Grew d1 d2 g l s j k →
    Reads d0 d1 n ls place e t →
    Reads d0 d2 n ls place e t
reads_later d0 d1 d2 n ls place e t g l s j k p r = record {
  at = grew_width d1 d2 g l s j k _ t p r.at;
  value = λ x i v h. r.value x i v h ∙ ap (Word (width e)) (sym (word_kept d1 d2 g l s j k t x p r.at.0));
}

pub memory_later : (d0 d1 d2 : List TermNode) (n : Names) (ls : List LocalTerm) (place : ℕ) (e : Expression) (t g l s j k : ℕ) → Grew d1 d2 g l s j k →
    ReadsMemory d0 d1 n ls place e t →
    ReadsMemory d0 d2 n ls place e t
memory_later d0 d1 d2 n ls place e t g l s j k p r = record {
  at = grew_width d1 d2 g l s j k _ t p r.at;
  value = λ x i v h. r.value x i v h ∙ ap Bytes (sym (ap (λ (z : TermValue). z.bytes) (p.keeps x t r.at.0)));
}

pub reads_before : (d0 d1 d2 : List TermNode) (n : Names) (ls : List LocalTerm) (place live : ℕ) (e : Expression) (t g l s j k : ℕ) → IsScope d0 n ls live →
    Grew d0 d1 g l s j k →
    Reads d1 d2 n ls place e t → Reads d0 d2 n ls place e t
reads_before d0 d1 d2 n ls place live e t g l s j k sc p r = record {
  at = r.at;
  value = λ x i v h. r.value x i v (holds_kept d0 d1 g l s j k n ls live x v p sc h);
}

-- a variable
pub variable_word : (d : List TermNode) (n : Names) (ls : List LocalTerm) (place live : ℕ) (s : List Stored) (y : BilVariable) (t : ℕ) →
    IsVariableTerm d n ls y t →
    IsWordTerm d d n ls place live s s (Var y) t
variable_word d n ls place live s y t p = record {
  gathered = gathered_none d n ls place live s;
  wide = p.wide;
  at = p.at;
  value = λ x g v h. p.value x v h;
}

-- a constant
pub constant_word : (d0 d1 : List TermNode) (n : Names) (ls : List LocalTerm) (place live : ℕ) (s : List Stored) (w a t : ℕ) → IsWidth w →
    IsMade d0 d1 (ConstantNode w a) t →
    IsWordTerm d0 d1 n ls place live s s (Constant w a) t
constant_word d0 d1 n ls place live s w a t i k = record {
  gathered = gathered_made d0 d1 n ls place live s (ConstantNode w a) t 0 0 0 k (λ i. i) refl refl refl refl;
  wide = i;
  at = made_width d0 d1 (ConstantNode w a) t w k refl;
  value = λ x g v h. ap (Word w) (sym (ap (λ (z : TermValue). z.word) (k.value x g)));
}

-- an unknown
pub unknown_word : (d0 d1 : List TermNode) (n : Names) (ls : List LocalTerm) (place live : ℕ) (s : List Stored) (k : BilType) (t : ℕ) →
    IsUnknown d0 d1 place k t →
    IsWordTerm d0 d1 n ls place live s s (Unknown k) t
unknown_word d0 d1 n ls place live s k t p = record {
  gathered = gathered_grew d0 d1 n ls place live s 0 0 0 2 1 p.grew (λ m c i. elim (p.inputs m c i) [ inl h ↦ inl h | inr h ↦ inr (h, omega arith) ]);
  wide = p.wide;
  at = p.at;
  value = λ x g v h. p.value x g;
}

-- an operator between two words
pub binary_word : (d0 d1 d2 d3 : List TermNode) (n : Names) (ls : List LocalTerm) (place live : ℕ) (s0 s1 s2 : List Stored) (o : BinaryOp) (a b : Expression)
    (ta tb t w : ℕ) →
    IsScope d0 n ls live → IsWordTerm d0 d1 n ls place live s0 s1 a ta → IsWordTerm d1 d2 n ls place live s1 s2 b tb → width a ≡ width b →
    w ≡ width_of (node_at d2 ta) →
    IsMade d2 d3 (BinaryNode o w ta tb) t → IsWordTerm d0 d3 n ls place live s0 s2 (Binary o a b) t
binary_word d0 d1 d2 d3 n ls place live s0 s1 s2 o a b ta tb t w sc p q e f m =
    let ra = reads_later d0 d1 d2 n ls place a ta _ _ _ _ _ q.gathered.grew (reads d0 d1 n ls place live s0 s1 a ta p) in
    let rb = reads_before d0 d1 d2 n ls place live b tb _ _ _ _ _ sc p.gathered.grew (reads d1 d2 n ls place live s1 s2 b tb q) in
    let node = BinaryNode o (width a) ta tb in
    let k : IsMade d2 d3 node t = subst (λ (z : ℕ). IsMade d2 d3 (BinaryNode o z ta tb) t) (f ∙ ra.at.1) m in record {
      gathered = gathered_as d0 d3 n ls place live s0 s2 _ (expression_cost (Binary o a b)) _ (stored_by (Binary o a b)) (omega arith) (omega arith)
          (omega arith) (omega arith) (omega arith)
          (λ x g v h. refl)
          (gathered_then d0 d2 d3 n ls place live s0 s2 _ _ _ sc (gathered_on d0 d1 d2 n ls place live s0 s1 s2 _ _ _ _ sc p.gathered q.gathered)
          (gathered_made d2 d3 n ls place live s2 node t (op_weight o (width a)) 0 0 k (λ i. i) refl refl refl refl));
      wide = result_is_width o (width a) p.wide.0 p.wide.1;
      at = made_width d2 d3 node t (result_width o (width a)) k refl;
      value = λ x g v h.
          ap (λ z. binary o z (evaluate b (x.choice place) v)) (ra.value x g v h) ∙ ap (binary o (Word (width a) (term_word x d2 ta))) (rb.value x g v h)
          ∙ binary_is o (width a) (width b) _ _ e ∙ ap (Word (result_width o (width a))) (sym (ap (λ (z : TermValue). z.word) (k.value x g)));
    }

-- two words one above the other
pub concat_word : (d0 d1 d2 d3 : List TermNode) (n : Names) (ls : List LocalTerm) (place live : ℕ) (s0 s1 s2 : List Stored) (a b : Expression)
    (ta tb t high low : ℕ) →
    IsScope d0 n ls live → IsWordTerm d0 d1 n ls place live s0 s1 a ta → IsWordTerm d1 d2 n ls place live s1 s2 b tb → width a + width b ≤ 64 →
    high ≡ width_of (node_at d2 ta) →
    low ≡ width_of (node_at d2 tb) → IsMade d2 d3 (ConcatNode high low ta tb) t → IsWordTerm d0 d3 n ls place live s0 s2 (Concat a b) t
concat_word d0 d1 d2 d3 n ls place live s0 s1 s2 a b ta tb t high low sc p q e f i m =
    let ra = reads_later d0 d1 d2 n ls place a ta _ _ _ _ _ q.gathered.grew (reads d0 d1 n ls place live s0 s1 a ta p) in
    let rb = reads_before d0 d1 d2 n ls place live b tb _ _ _ _ _ sc p.gathered.grew (reads d1 d2 n ls place live s1 s2 b tb q) in
    let node = ConcatNode (width a) (width b) ta tb in
    let k : IsMade d2 d3 node t = subst (λ (z : ℕ). IsMade d2 d3 (ConcatNode (width a) z ta tb) t) (i ∙ rb.at.1)
    (subst (λ (z : ℕ). IsMade d2 d3 (ConcatNode z low ta tb) t) (f ∙ ra.at.1) m) in record {
      gathered = gathered_as d0 d3 n ls place live s0 s2 _ (expression_cost (Concat a b)) _ (stored_by (Concat a b)) (omega arith) (omega arith) (omega arith)
          (omega arith) (omega arith)
          (λ x g v h. refl)
          (gathered_then d0 d2 d3 n ls place live s0 s2 _ _ _ sc (gathered_on d0 d1 d2 n ls place live s0 s1 s2 _ _ _ _ sc p.gathered q.gathered)
          (gathered_made d2 d3 n ls place live s2 node t 0 0 0 k (λ i. i) refl refl refl refl));
      wide = (omega (arith, p.wide.0), e);
      at = made_width d2 d3 node t (width a + width b) k refl;
      value = λ x g v h.
          ap (λ z. concat_of z (evaluate b (x.choice place) v)) (ra.value x g v h) ∙ ap (concat_of (Word (width a) (term_word x d2 ta))) (rb.value x g v h)
          ∙ ap (Word (width a + width b)) (sym (ap (λ (z : TermValue). z.word) (k.value x g)));
    }

-- an operator on one word
pub unary_word : (d0 d1 d2 : List TermNode) (n : Names) (ls : List LocalTerm) (place live : ℕ) (s0 s1 : List Stored) (o : UnaryOp) (a : Expression)
    (ta t w : ℕ) →
    IsScope d0 n ls live → IsWordTerm d0 d1 n ls place live s0 s1 a ta → w ≡ width_of (node_at d1 ta) → IsUnary d1 d2 o w ta t →
    IsWordTerm d0 d2 n ls place live s0 s1 (Unary o a) t
unary_word d0 d1 d2 n ls place live s0 s1 o a ta t w sc p f m =
    let k : IsUnary d1 d2 o (width a) ta t = subst (λ (z : ℕ). IsUnary d1 d2 o z ta t) (f ∙ p.at.1) m in
    let gates = unary_room o a in record {
      gathered = gathered_as d0 d2 n ls place live s0 s1 _ (expression_cost (Unary o a)) _ (stored_by (Unary o a)) (omega (arith, gates)) (omega arith)
          (omega arith) (omega arith) (omega arith)
          (λ x g v h. refl)
          (gathered_then d0 d1 d2 n ls place live s0 s1 _ _ _ sc p.gathered
          (gathered_grew d1 d2 n ls place live s1 _ 0 0 3 0 k.grew (λ m c i. elim (k.inputs m c i) [ inl h ↦ inl h | inr h ↦ absurd h ])));
      wide = p.wide;
      at = k.at;
      value = λ x g v h. ap (unary o) (p.value x g v h) ∙ k.value x g;
    }
  where
    unary_room : (o : UnaryOp) (a : Expression) → unary_gates o (width a) ≤ own_weight (Unary o a)
    unary_room Negate a = omega arith
    unary_room Not a = omega arith
