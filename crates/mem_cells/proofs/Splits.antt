-- Words as sums of a term and a constant.
use Rattle.std.proofs.Common.{◌≡◌, ℕ, ◌+◌, ◌%◌, ◌^◌, ◌<◌, List, ap, sym, ◌∙◌, subst, arith}
use Rattle.word_spec.specs.Words.{add}
use Rattle.machine_spec.specs.Bil.{Plus}
use Rattle.term_spec.specs.Terms.{TermReading, InRange, TermNode, BinaryNode, HasWidth, AreTyped, node_at, width_of, term_word}
use Rattle.term_dag.proofs.ListLaws.{by_node, typed_here}
use Rattle.term_dag.proofs.Ranges.{word_fits}
use Rattle.mem_cells.specs.Pieces.{IsSplit, IsZero}

-- a reading under which all is 0
nothing : TermReading
nothing = record { regs = λ p n. 0; flags = λ p n. 0; mem = λ p n. 0; choice = λ n. 0; base = λ p n. 0 }

nothing_fits : InRange nothing
unfolding nothing
nothing_fits = record {
  regs = λ p n. omega arith;
  flags = λ p n. omega arith;
  mem = λ p n. omega arith;
  choice = λ n. omega arith;
  base = λ p n. omega arith;
}

-- a constant of 32 bits is below 2 ^ 32
pub constant_below : (ns : List TermNode) (t c : ℕ) → AreTyped ns → HasWidth ns 32 t → ((x : TermReading) → term_word x ns t ≡ c) → c < 2 ^ 32
constant_below ns t c h p e = subst (λ (k : ℕ). k < 2 ^ 32) (e nothing) (word_fits nothing ns 32 t nothing_fits h p)

pub split_constant : (ns : List TermNode) (o t c : ℕ) → AreTyped ns → IsZero ns o → HasWidth ns 32 t → ((x : TermReading) → term_word x ns t ≡ c) →
    IsSplit ns t o c
split_constant ns o t c h z p e =
    let b = constant_below ns t c h p e in
    record {
      place = z.place;
      below = b;
      value = λ x i. e x ∙ (let f : c ≡ (0 + c) % 2 ^ 32 = omega (arith, b) in f) ∙ ap
          (λ k. add 32 k c) (sym (z.value x i));
    }

pub split_own : (ns : List TermNode) (t : ℕ) → AreTyped ns → HasWidth ns 32 t → IsSplit ns t t 0
split_own ns t h p = record {
  place = p;
  below = omega arith;
  value = λ x i. let b = word_fits x ns 32 t i h p in let f : term_word x ns t
      ≡ (term_word x ns t + 0) % 2 ^ 32 = omega (arith, b) in f;
}

-- the widths of the operands of a sum
pub sum_sides : (ns : List TermNode) (t w a b : ℕ) → AreTyped ns → HasWidth ns 32 t → BinaryNode Plus w a b ≡ node_at ns t → HasWidth ns 32 a × HasWidth ns 32 b
sum_sides ns t w a b h p e =
    let o = typed_here ns t (BinaryNode Plus w a b) h p.0 e in
    let f : w ≡ 32 = ap width_of e ∙ p.1 in
    (subst (λ (k : ℕ). HasWidth ns k a) f o.1, subst (λ (k : ℕ). HasWidth ns k b) f o.2)

pub split_sum : (ns : List TermNode) (t w a b c : ℕ) → AreTyped ns → HasWidth ns 32 t → BinaryNode Plus w a b ≡ node_at ns t →
    ((x : TermReading) → term_word x ns b ≡ c) → IsSplit ns t a c
split_sum ns t w a b c h p e k =
    let s = sum_sides ns t w a b h p e in
    let f : w ≡ 32 = ap width_of e ∙ p.1 in
    record {
      place = s.0;
      below = constant_below ns b c h s.1 k;
      value = λ x i. ap (λ z. z.word) (by_node x ns t (BinaryNode Plus w a b) h p.0 e) ∙ ap
          (λ z. add z (term_word x ns a) (term_word x ns b)) f ∙ ap (add 32 (term_word x ns a)) (k x);
    }
