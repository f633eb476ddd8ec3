-- Loads of several bytes.
use Rattle.std.proofs.Common.{◌≡◌, ◌⊎◌, inl, inr, [], ℕ, suc, ◌+◌, ◌*◌, ◌^◌, ◌<◌, Bool, true, false, List, ap, sym, ◌∙◌, arith}
use Rattle.word_spec.specs.Words.{add}
use Rattle.word_spec.specs.Memory.{Memory, Endian, Little, Big, endian, load, number}
use Rattle.machine_spec.specs.Bil.{Plus}
use Rattle.term_spec.specs.Terms.{TermReading, TermNode, BinaryNode, ConstantNode, ConcatNode, HasWidth, term_word, values_from, node_value, width_of}
use Rattle.term_dag.proofs.Joins.{power}
use Rattle.mem_cells.specs.declared.building.Build.{Build}
use Rattle.mem_cells.specs.declared.pieces.StoredByte.{StoredByte}
use Rattle.mem_cells.specs.declared.pieces.Piece.{Piece}
use Rattle.mem_cells.specs.Pieces.{ArePieces, piece_at}
use Rattle.mem_cells.specs.Building.{Grown, IsWord, IsByteOf, IsOfMemory, AreMemories, with_byte}
use Rattle.mem_cells.proofs.Growing.{grown_word, gives_before}
use Rattle.mem_cells.proofs.Chains.{piece_words}

-- a sum with a constant
pub raised_word : (old mid new : Build) (g r a c k t : ℕ) → Grown old mid g r → HasWidth old.dag 32 a →
    IsWord mid.dag 32 k (λ x. (node_value x (values_from x [] old.dag) (ConstantNode 32 c)).word) →
    IsWord new.dag 32 t (λ x. (node_value x (values_from x [] mid.dag) (BinaryNode Plus 32 a k)).word) →
    IsWord new.dag 32 t (λ x. add 32 (term_word x old.dag a) c)
raised_word old mid new g r a c k t p w e f = record {
  place = f.place;
  value = λ x i. f.value x i ∙ ap (λ z. add 32 z (term_word x mid.dag k)) (grown_word old mid g r x a p w.0) ∙ ap (add 32 (term_word x old.dag a))
      (e.value x i);
}

-- memories of pieces stay so as cells grow
pub memories_later : (a b : Build) (g r : ℕ) (x : TermReading) (stored : List StoredByte) (pieces : List Piece) (m : ℕ → Memory) → Grown a b g r →
    ArePieces a stored pieces →
    AreMemories (term_word x a.dag) x.mem stored pieces m → AreMemories (term_word x b.dag) x.mem stored pieces m
memories_later a b g r x stored pieces m p h f i l q k = f i l q k ∙ sym (piece_words a b g r x x.mem stored q (piece_at pieces q) (λ n. m n i) i p (h q k))

-- the byte of a memory some bytes behind an address
pub behind : (old mid new : Build) (g r : ℕ) (stored : List StoredByte) (pieces : List Piece) (q a c at t : ℕ) → Grown old mid g r →
    ArePieces old stored pieces →
    IsWord mid.dag 32 at (λ x. add 32 (term_word x old.dag a) c) → IsByteOf mid new stored pieces q at t →
    IsOfMemory old new stored pieces q 8 t (λ x m. m (add 32 (term_word x old.dag a) c))
behind old mid new g r stored pieces q a c at t p h w b = record {
  place = b.place;
  value = λ x i v m f.
      let e = w.value x i in
      let l : add 32 (term_word x old.dag a) c < 2 ^ 32 = omega arith in
      let j : term_word x mid.dag at < 2 ^ 32 = omega (arith, e, l) in
      b.value x i v (λ n. m n (term_word x mid.dag at)) (λ n k. memories_later old mid g r x stored pieces m p h f (term_word x mid.dag at) j n k) ∙ ap (m q) e;
}

first_number : (e : Endian) (f : ℕ → ℕ) → f 0 ≡ number e 1 f
first_number Little f = let z : f 0 ≡ 0 + f 0 * 1 = omega arith in z
first_number Big f = let z : f 0 ≡ 0 * 256 + f 0 = omega arith in z

-- the first byte of a load
pub first_load : (old new : Build) (stored : List StoredByte) (pieces : List Piece) (q a t : ℕ) (e : Endian) →
    IsOfMemory old new stored pieces q 8 t (λ x m. m (add 32 (term_word x old.dag a) 0)) →
    IsOfMemory old new stored pieces q (8 * 1) t (λ x m. load e 1 m (term_word x old.dag a))
first_load old new stored pieces q a t e h = record {
  place = h.place;
  value = λ x i v m f. h.value x i v m f ∙ first_number e (λ k. m q (add 32 (term_word x old.dag a) k));
}

next_number : (e : Endian) (n : ℕ) (f : ℕ → ℕ) → with_byte e n (number e n f) (f n) ≡ number e (n + 1) f
next_number Little n f = let z : suc n ≡ n + 1 = omega arith in ap (λ k. number Little k f) z
next_number Big n f = let z : suc n ≡ n + 1 = omega arith in ap (λ k. number Big k f) z

-- one more byte of a load
pub next_load : (old mid low new : Build) (g r h s k u : ℕ) (stored : List StoredByte) (pieces : List Piece) (q a n w b t : ℕ) (e : Endian) →
    ArePieces old stored pieces → HasWidth old.dag 32 a →
    Grown old mid g r → Grown mid low h s → Grown low new k u → IsOfMemory old mid stored pieces q (8 * n) w (λ x m. load e n m (term_word x old.dag a)) →
    IsOfMemory mid low stored pieces q 8 b (λ x m. m (add 32 (term_word x mid.dag a) n)) →
    IsWord new.dag (8 * (n + 1)) t (λ x. with_byte e n (term_word x low.dag w) (term_word x low.dag b)) →
    IsOfMemory old new stored pieces q (8 * (n + 1)) t (λ x m. load e (n + 1) m (term_word x old.dag a))
next_load old mid low new g r h s k u stored pieces q a n w b t e d ha p v z f j c = record {
  place = c.place;
  value = λ x i y m o.
      let gl = gives_before low new k u x v.built z y in
      let gm = gives_before mid low h s x p.built v gl in
      c.value x i
      ∙ ap (λ o. with_byte e n o (term_word x low.dag b)) (grown_word mid low h s x w v f.place.0 ∙ f.value x i gm m o)
      ∙ ap (with_byte e n (load e n (m q) (term_word x old.dag a)))
      (j.value x i gl m (memories_later old mid g r x stored pieces m p d o) ∙ ap (λ o. m q (add 32 o n)) (grown_word old mid g r x a p ha.0))
      ∙ next_number e n (λ i. m q (add 32 (term_word x old.dag a) i));
}

-- a concatenation is a word with one more byte
pub joined_word : (old new : Build) (big : Bool) (n w b t : ℕ) (node : TermNode) →
    ((big ≡ true) × (node ≡ ConcatNode (8 * n) 8 w b)) ⊎ ((big ≡ false) × (node ≡ ConcatNode 8 (8 * n) b w)) →
    IsWord new.dag (width_of node) t (λ x. (node_value x (values_from x [] old.dag) node).word) →
    IsWord new.dag (8 * (n + 1)) t (λ x. with_byte (endian big) n (term_word x old.dag w) (term_word x old.dag b))
joined_word old new big n w b t node (inl (eb, en)) h = record {
  place = (h.place.0, h.place.1 ∙ ap width_of en ∙ (let z : 8 * n + 8 ≡ 8 * (n + 1) = omega arith in z));
  value = λ x i. h.value x i ∙ ap (λ z. (node_value x (values_from x [] old.dag) z).word) en ∙ ap
      (λ z. with_byte (endian z) n (term_word x old.dag w) (term_word x old.dag b)) (sym eb);
}
joined_word old new big n w b t node (inr (eb, en)) h = record {
  place = (h.place.0, h.place.1 ∙ ap width_of en ∙ (let z : 8 + 8 * n ≡ 8 * (n + 1) = omega arith in z));
  value = λ x i.
      let v = term_word x old.dag w in
      let y = term_word x old.dag b in
      h.value x i ∙ ap (λ z. (node_value x (values_from x [] old.dag) z).word) en ∙ (let z : y * 2 ^ (8 * n) + v ≡ v + y * 2 ^ (8 * n) = omega arith in z) ∙ ap
      (λ z. v + y * z) (sym (power n))
      ∙ ap (λ z. with_byte (endian z) n v y) (sym eb);
}

-- one more of a number
pub one_more_of : (i p : ℕ) → i * p + p ≡ (i + 1) * p
one_more_of i p = mul_comm' i p
  where
    mul_comm' : (i p : ℕ) → i * p + p ≡ (i + 1) * p
    mul_comm' i p = grind arith
