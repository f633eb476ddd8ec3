-- Conjunctions of two literals, as words.
use Rattle.std.proofs.Common.{inl, inr, ◌⊎◌, ◌≡◌, ℕ, ◌+◌, ◌<◌, ◌≤◌, List, refl, ap, sym, ◌∙◌, arith, bit_and, bit_or}
use Rattle.std.specs.Int.Bits.{and_self}
use Rattle.std.proofs.lemmas.Nat.{and_comm, or_comm}
use Rattle.word_spec.specs.Words as words
use Rattle.machine_spec.specs.Bil.{And, Or}
use Rattle.term_spec.specs.Terms.{TermReading, InRange, TermNode, BinaryNode, NotNode, term_word, node_at, HasWidth, AreTyped}
use Rattle.term_dag.specs.declared.conditions.Literal.{Literal}
use Rattle.term_dag.specs.declared.conditions.Cube.{Cube}
use Rattle.term_dag.specs.Made.{Separates}
use Rattle.term_dag.specs.Folds.{IsLiteral, IsPair, IsCube, AreBits, cube_value, literal_value}
use Rattle.term_dag.proofs.Ranges.{word_fits}
use Rattle.term_dag.proofs.Shapes.{binary_sides, not_side}
use Rattle.term_dag.proofs.WordLaws.{and_apart, and_beside, and_denied, and_with, or_beside, and_least, and_none, and_one, or_apart, or_greatest, signed_below}

-- the conjunction of two bits
pub cube_from : (ns : List TermNode) (t : ℕ) (c : Cube) → IsPair ns c →
    ((x : TermReading) → term_word x ns t ≡ bit_and (term_word x ns c.left.0) (term_word x ns c.right.0)) → IsCube ns t c
cube_from ns t c p v = record {
  pair = p;
  value = λ x i. v x ∙ ap (λ z. bit_and z (term_word x ns c.right.0)) (p.first.value x i) ∙ ap (bit_and (literal_value c.first (term_word x ns)))
      (p.second.value x i);
}

-- the operands of a conjunction
pub cube_of_and : (ns : List TermNode) (t v l r : ℕ) (c : Cube) → AreTyped ns → HasWidth ns 1 t → BinaryNode And v l r ≡ node_at ns t → IsPair ns c →
    c.left.0 ≡ l → c.right.0 ≡ r → IsCube ns t c
cube_of_and ns t v l r c h p e k f g =
    let b = binary_sides ns 1 t And v l r h p e refl in
    cube_from ns t c k (λ x. b.2 x ∙ ap (λ z. bit_and (term_word x ns z) (term_word x ns r)) (sym f) ∙ ap
    (λ z. bit_and (term_word x ns c.left.0) (term_word x ns z)) (sym g))

-- a bit as a conjunction of itself
pub cube_of_one : (ns : List TermNode) (t : ℕ) (c : Cube) → IsPair ns c → c.left.0 ≡ t → c.right.0 ≡ t → IsCube ns t c
cube_of_one ns t c k f g =
    cube_from ns t c k (λ x. sym (and_self (term_word x ns t)) ∙ ap (λ z. bit_and (term_word x ns z) (term_word x ns t)) (sym f) ∙ ap
    (λ z. bit_and (term_word x ns c.left.0) (term_word x ns z)) (sym g))

-- the terms of a conjunction's literals have bits
pub cube_bits : (ns : List TermNode) (c : Cube) (x : TermReading) → InRange x → AreTyped ns → IsPair ns c → AreBits (term_word x ns) c
cube_bits ns c x i h k = (word_fits x ns 1 c.first.term.0 i h k.first.place, word_fits x ns 1 c.second.term.0 i h k.second.place)

module _ (ns : List TermNode) (a b : ℕ) (k j : Cube) (x : TermReading) (i : InRange x) (h : AreTyped ns) (p : HasWidth ns 1 a) (q : HasWidth ns 1 b)
    (s : IsCube ns a k) (t : IsCube ns b j) where
  fa : term_word x ns a < 2
  fa = word_fits x ns 1 a i h p

  fb : term_word x ns b < 2
  fb = word_fits x ns 1 b i h q

  ka : AreBits (term_word x ns) k
  ka = cube_bits ns k x i h s.pair

  kb : AreBits (term_word x ns) j
  kb = cube_bits ns j x i h t.pair

  -- not both are 1
  pub excluded : ((v : ℕ → ℕ) → AreBits v k → AreBits v j → cube_value k v + cube_value j v ≤ 1) → 0 ≡ bit_and (term_word x ns a) (term_word x ns b)
  excluded f = let g = f (term_word x ns) ka kb in and_apart _ _ fa fb (omega (arith, g, s.value x i, t.value x i))

  -- the first follows from nothing more than the second
  least_of : ((v : ℕ → ℕ) → AreBits v k → AreBits v j → cube_value k v ≤ cube_value j v) → term_word x ns a ≤ term_word x ns b
  least_of f = let g = f (term_word x ns) ka kb in omega (arith, g, s.value x i, t.value x i)

  pub least : ((v : ℕ → ℕ) → AreBits v k → AreBits v j → cube_value k v ≤ cube_value j v) → term_word x ns a ≡ bit_and (term_word x ns a) (term_word x ns b)
  least f = and_least _ _ fa fb (least_of f)

  pub greatest : ((v : ℕ → ℕ) → AreBits v k → AreBits v j → cube_value k v ≤ cube_value j v) → term_word x ns b ≡ bit_or (term_word x ns a) (term_word x ns b)
  greatest f = or_greatest _ _ fa fb (least_of f)

  -- one of them is 1
  pub covered : ((v : ℕ → ℕ) → AreBits v k → AreBits v j → cube_value k v + cube_value j v ≡ 1) → 1 ≡ bit_or (term_word x ns a) (term_word x ns b)
  covered f = let g = f (term_word x ns) ka kb in or_apart _ _ 1 fa fb (omega arith) (omega (arith, g, s.value x i, t.value x i))

  -- one of them is 1 exactly where a literal is
  pub rejoined : (l : Literal) (m : ℕ) → HasWidth ns 1 m → term_word x ns m ≡ literal_value l (term_word x ns) →
      ((v : ℕ → ℕ) → AreBits v k → AreBits v j → cube_value k v + cube_value j v ≡ literal_value l v) →
      term_word x ns m ≡ bit_or (term_word x ns a) (term_word x ns b)
  rejoined l m w e f = let g = f (term_word x ns) ka kb in or_apart _ _ _ fa fb (word_fits x ns 1 m i h w) (omega (arith, g, e, s.value x i, t.value x i))

module _ (ns : List TermNode) (c m : ℕ) (k j : Cube) (h : AreTyped ns) (s : IsCube ns c k) (t : IsCube ns m j) where
  first : TermReading → ℕ
  first x = literal_value k.first (term_word x ns)

  second : TermReading → ℕ
  second x = literal_value k.second (term_word x ns)

  first_bit : (x : TermReading) → InRange x → first x < 2
  unfolding first
  first_bit x i = signed_below k.first.negated _ (cube_bits ns k x i h s.pair).0

  second_bit : (x : TermReading) → InRange x → second x < 2
  unfolding second
  second_bit x i = signed_below k.second.negated _ (cube_bits ns k x i h s.pair).1

  -- the second bit, where the first is shared
  pub separates_second : ((v : ℕ → ℕ) → AreBits v k → AreBits v j → cube_value k v + cube_value j v ≡ literal_value k.first v) → Separates ns c m k.right.0
  unfolding first second
  separates_second f = record {
    bit = s.pair.right;
    first = λ x i e. s.pair.second.value x i ∙ and_one (first x) (second x) (first_bit x i) (second_bit x i) (sym (s.value x i) ∙ e);
    second = λ x i e z.
        let g = f (term_word x ns) (cube_bits ns k x i h s.pair) (cube_bits ns j x i h t.pair) in
        let o : first x ≡ 1 = omega (arith, g, s.value x i, t.value x i) in
        s.pair.second.value x i ∙ and_none (first x) (second x) (first_bit x i) (second_bit x i) o (sym (s.value x i) ∙ z);
  }

  -- the first bit, where the second is shared
  pub separates_first : ((v : ℕ → ℕ) → AreBits v k → AreBits v j → cube_value k v + cube_value j v ≡ literal_value k.second v) → Separates ns c m k.left.0
  unfolding first second
  separates_first f = record {
    bit = s.pair.left;
    first = λ x i e. s.pair.first.value x i ∙ and_one (second x) (first x) (second_bit x i) (first_bit x i)
        (and_comm (second x) (first x) ∙ sym (s.value x i) ∙ e);
    second = λ x i e z.
        let g = f (term_word x ns) (cube_bits ns k x i h s.pair) (cube_bits ns j x i h t.pair) in
        let o : second x ≡ 1 = omega (arith, g, s.value x i, t.value x i) in
        s.pair.first.value x i ∙ and_none (second x) (first x) (second_bit x i) (first_bit x i) o (and_comm (second x) (first x) ∙ sym (s.value x i) ∙ z);
  }

-- a bit, and a conjunction
module _ (ns : List TermNode) (s t : ℕ) (l : Literal) (k : Cube) (h : AreTyped ns) (p : HasWidth ns 1 s) (a : IsLiteral ns s l) (c : IsCube ns t k) where
  conjoined : (x : TermReading) → InRange x → bit_and (term_word x ns k.left.0) (term_word x ns k.right.0) ≡ term_word x ns t
  conjoined x i =
      ap (λ z. bit_and z (term_word x ns k.right.0)) (c.pair.first.value x i) ∙ ap (bit_and (literal_value k.first (term_word x ns))) (c.pair.second.value x i)
      ∙ sym (c.value x i)

  -- that is without the bit
  pub without_first : ((v : ℕ → ℕ) → v l.term.0 < 2 → literal_value l v + literal_value k.first v ≡ 1) → (x : TermReading) → InRange x →
      bit_or (term_word x ns s) (term_word x ns k.right.0) ≡ bit_or (term_word x ns s) (term_word x ns t)
  without_first f x i =
      let g = f (term_word x ns) (word_fits x ns 1 l.term.0 i h a.place) in
      or_beside (term_word x ns s) (term_word x ns k.left.0) (term_word x ns k.right.0) (word_fits x ns 1 s i h p) (word_fits x ns 1 k.right.0 i h c.pair.right)
      (omega (arith, g, a.value x i, c.pair.first.value x i)) ∙ ap (bit_or (term_word x ns s)) (conjoined x i)

  pub without_second : ((v : ℕ → ℕ) → v l.term.0 < 2 → literal_value l v + literal_value k.second v ≡ 1) → (x : TermReading) → InRange x →
      bit_or (term_word x ns s) (term_word x ns k.left.0) ≡ bit_or (term_word x ns s) (term_word x ns t)
  without_second f x i =
      let g = f (term_word x ns) (word_fits x ns 1 l.term.0 i h a.place) in
      or_beside (term_word x ns s) (term_word x ns k.right.0) (term_word x ns k.left.0) (word_fits x ns 1 s i h p) (word_fits x ns 1 k.left.0 i h c.pair.left)
      (omega (arith, g, a.value x i, c.pair.second.value x i)) ∙ ap (bit_or (term_word x ns s))
      (and_comm (term_word x ns k.right.0) (term_word x ns k.left.0) ∙ conjoined x i)

  -- and that is negated
  denied_by : (x : TermReading) (u v : ℕ) → HasWidth ns 1 u → NotNode v t ≡ node_at ns u →
      bit_and (term_word x ns s) (words.complement 1 (term_word x ns t)) ≡ bit_and (term_word x ns s) (term_word x ns u)
  denied_by x u v w e = ap (bit_and (term_word x ns s)) (sym ((not_side ns 1 u v t h w e).1 x))

  pub denied_first : (u v : ℕ) → HasWidth ns 1 u → NotNode v t ≡ node_at ns u → ((v : ℕ → ℕ) → literal_value l v ≡ literal_value k.first v) →
      (x : TermReading) → InRange x →
      bit_and (term_word x ns s) (words.complement 1 (term_word x ns k.right.0)) ≡ bit_and (term_word x ns s) (term_word x ns u)
  denied_first u v w e f x i =
      let m : term_word x ns s ≡ term_word x ns k.left.0 = a.value x i ∙ f (term_word x ns) ∙ sym (c.pair.first.value x i) in
      and_denied (term_word x ns s) (term_word x ns k.right.0) (word_fits x ns 1 s i h p) (word_fits x ns 1 k.right.0 i h c.pair.right)
      ∙ ap (λ z. bit_and (term_word x ns s) (words.complement 1 (bit_and z (term_word x ns k.right.0)))) m
      ∙ ap (λ z. bit_and (term_word x ns s) (words.complement 1 z)) (conjoined x i) ∙ denied_by x u v w e

  pub denied_second : (u v : ℕ) → HasWidth ns 1 u → NotNode v t ≡ node_at ns u → ((v : ℕ → ℕ) → literal_value l v ≡ literal_value k.second v) →
      (x : TermReading) → InRange x →
      bit_and (term_word x ns s) (words.complement 1 (term_word x ns k.left.0)) ≡ bit_and (term_word x ns s) (term_word x ns u)
  denied_second u v w e f x i =
      let m : term_word x ns s ≡ term_word x ns k.right.0 = a.value x i ∙ f (term_word x ns) ∙ sym (c.pair.second.value x i) in
      and_denied (term_word x ns s) (term_word x ns k.left.0) (word_fits x ns 1 s i h p) (word_fits x ns 1 k.left.0 i h c.pair.left)
      ∙ ap (λ z. bit_and (term_word x ns s) (words.complement 1 (bit_and z (term_word x ns k.left.0)))) m
      ∙ ap (λ z. bit_and (term_word x ns s) (words.complement 1 z))
      (and_comm (term_word x ns k.right.0) (term_word x ns k.left.0) ∙ conjoined x i) ∙ denied_by x u v w e

-- a bit, and a disjunction
module _ (ns : List TermNode) (s t v a b : ℕ) (l : Literal) (k : Cube) (h : AreTyped ns) (p : HasWidth ns 1 s) (q : HasWidth ns 1 t) (e : BinaryNode Or v a b
    ≡ node_at ns t) (c : IsLiteral ns s l) (d : IsPair ns k) (f : k.left.0 ≡ a) (g : k.right.0 ≡ b) where
  disjoined : (x : TermReading) → bit_or (term_word x ns k.left.0) (term_word x ns k.right.0) ≡ term_word x ns t
  disjoined x =
      ap (λ z. bit_or (term_word x ns z) (term_word x ns k.right.0)) f ∙ ap
      (λ z. bit_or (term_word x ns a) (term_word x ns z)) g ∙ sym ((binary_sides ns 1 t Or v a b h q e refl).2 x)

  -- with the bit
  pub within_both : ((v : ℕ → ℕ) → (literal_value l v ≡ literal_value k.first v) ⊎ (literal_value l v ≡ literal_value k.second v)) → (x : TermReading) →
      InRange x →
      bit_and (term_word x ns s) (term_word x ns s) ≡ bit_and (term_word x ns s) (term_word x ns t)
  within_both y x i =
      elim (y (term_word x ns)) [
        | inl o ↦ (
            let m : term_word x ns s ≡ term_word x ns k.left.0 = c.value x i ∙ o ∙ sym (d.first.value x i) in
            and_with (term_word x ns s) (term_word x ns k.right.0) (word_fits x ns 1 s i h p) (word_fits x ns 1 k.right.0 i h d.right)
            ∙ ap (λ z. bit_and (term_word x ns s) (bit_or z (term_word x ns k.right.0))) m ∙ ap (bit_and (term_word x ns s)) (disjoined x))
        | inr o ↦ (
            let m : term_word x ns s ≡ term_word x ns k.right.0 = c.value x i ∙ o ∙ sym (d.second.value x i) in
            and_with (term_word x ns s) (term_word x ns k.left.0) (word_fits x ns 1 s i h p) (word_fits x ns 1 k.left.0 i h d.left)
            ∙ ap (λ z. bit_and (term_word x ns s) (bit_or z (term_word x ns k.left.0))) m
            ∙ ap (bit_and (term_word x ns s)) (or_comm (term_word x ns k.right.0) (term_word x ns k.left.0) ∙ disjoined x))
      ]

  -- with its negation
  pub within_second : ((v : ℕ → ℕ) → v l.term.0 < 2 → literal_value l v + literal_value k.first v ≡ 1) → (x : TermReading) → InRange x →
      bit_and (term_word x ns s) (term_word x ns b) ≡ bit_and (term_word x ns s) (term_word x ns t)
  within_second y x i =
      let m = y (term_word x ns) (word_fits x ns 1 l.term.0 i h c.place) in
      ap (λ z. bit_and (term_word x ns s) (term_word x ns z)) (sym g)
      ∙ and_beside (term_word x ns s) (term_word x ns k.left.0) (term_word x ns k.right.0) (word_fits x ns 1 s i h p) (word_fits x ns 1 k.right.0 i h d.right)
      (omega (arith, m, c.value x i, d.first.value x i)) ∙ ap (bit_and (term_word x ns s)) (disjoined x)

  pub within_first : ((v : ℕ → ℕ) → v l.term.0 < 2 → literal_value l v + literal_value k.second v ≡ 1) → (x : TermReading) → InRange x →
      bit_and (term_word x ns s) (term_word x ns a) ≡ bit_and (term_word x ns s) (term_word x ns t)
  within_first y x i =
      let m = y (term_word x ns) (word_fits x ns 1 l.term.0 i h c.place) in
      ap (λ z. bit_and (term_word x ns s) (term_word x ns z)) (sym f)
      ∙ and_beside (term_word x ns s) (term_word x ns k.right.0) (term_word x ns k.left.0) (word_fits x ns 1 s i h p) (word_fits x ns 1 k.left.0 i h d.left)
      (omega (arith, m, c.value x i, d.second.value x i))
      ∙ ap (bit_and (term_word x ns s)) (or_comm (term_word x ns k.right.0) (term_word x ns k.left.0) ∙ disjoined x)
