-- Folds of joins and of loads.
use Rattle.std.proofs.Common.{◌≡◌, ℕ, zero, suc, ◌+◌, ◌-◌, ◌*◌, ◌/◌, ◌%◌, ◌^◌, ◌<◌, ◌≤◌, Bool, true, false, List, refl, ap, sym, ◌∙◌, subst, arith}
use Rattle.std.specs.Prelude.{nat_lt, if◌then◌else◌}
use Rattle.std.proofs.lemmas.Bool.Decides.{nat_tests}
use Rattle.std.proofs.lemmas.Nat.{pow-add, mod-pow-add}
use Rattle.std.proofs.Math.Nat.{mod-eq_of_lt, mod-one, div-one, div-eq_of_lt, div-div-eq-div-mul, pow-suc}
use mathlib.Core.Path.{fun_ext}
use Rattle.word_spec.specs.Words as words
use Rattle.word_spec.specs.Memory.{Memory, Endian, Little, Big, endian, little, big, number, load, store, byte_of}
use Rattle.term_spec.specs.Terms.{TermReading, InRange, TermNode, LoadNode, StoreNode, JoinNode, word_value, bytes_value, term_value, term_word, node_at, HasWidth, AreTyped}
use Rattle.term_dag.specs.declared.folds.Folded.{Folded}
use Rattle.term_dag.specs.declared.folds.Folded.TheVariants.{Old, New, Onto, Unless}
use Rattle.term_dag.specs.Nodes.{IsInput}
use Rattle.term_dag.specs.Folds.{IsTermFor, IsNodeFor, IsFold, IsSide, IsConstant, value_over}
use Rattle.term_dag.proofs.ListLaws.{by_node, typed_here}
use Rattle.term_dag.proofs.Ranges.{word_fits, word_only, memory_only}
use Rattle.term_dag.proofs.WordLaws.{select_same, select_sides, select_turned}

module _ (ns : List TermNode) (c a b : ℕ) (h : AreTyped ns) (p : HasWidth ns 1 c) (q : HasWidth ns 0 a) (r : HasWidth ns 0 b) where
  bits : (x : TermReading) → InRange x → term_word x ns c < 2
  bits x i = word_fits x ns 1 c i h p

  -- a memory that has the bytes of the side that is chosen
  pub join_same : (f : ℕ) → HasWidth ns 0 f → ((x : TermReading) → InRange x → term_word x ns c ≡ 1 → term_value x ns f ≡ term_value x ns a) →
      ((x : TermReading) → InRange x → term_word x ns c ≡ 0 → term_value x ns f ≡ term_value x ns b) → IsTermFor ns (JoinNode c a b) f
  join_same f w u v = record {
    within = w.0;
    width = w.1;
    value = λ x i. memory_only x ns f h w ∙ ap bytes_value (fun_ext
        (λ j. select_same (term_word x ns c) _ _ _ (bits x i) (λ e. ap (λ z. z.bytes j) (u x i e)) (λ e. ap (λ z. z.bytes j) (v x i e))));
  }

  pub join_true : (k : ℕ) → IsConstant ns c k → 0 < k → IsTermFor ns (JoinNode c a b) a
  join_true k n l = join_same a q (λ x i e. refl) (λ x i e. absurd (omega (arith, n.value x)))

  pub join_false : (k : ℕ) → IsConstant ns c k → k ≤ 0 → IsTermFor ns (JoinNode c a b) b
  join_false k n l = join_same b r (λ x i e. absurd (omega (arith, n.value x))) (λ x i e. refl)

  -- the same of each side
  pub join_sides : (f s : ℕ) → IsSide ns 0 c a true f → IsSide ns 0 c b false s → IsNodeFor ns (JoinNode c a b) (JoinNode c f s)
  join_sides f s u v = record {
    typed = (p, u.place, v.place);
    width = refl;
    value = λ x i. ap bytes_value (fun_ext (λ j. select_sides (term_word x ns c) _ _ _ _ (bits x i) (λ e. ap (λ z. z.bytes j) (u.value x i e))
        (λ e. ap (λ z. z.bytes j) (v.value x i e))));
    gates = omega arith;
    loads = omega arith;
    stores = omega arith;
    joins = omega arith;
    named = λ z. absurd z;
  }

  -- a join by the negated condition
  pub join_turned : (u : ℕ) (z : Folded) → HasWidth ns 1 u → ((x : TermReading) → term_word x ns c ≡ words.complement 1 (term_word x ns u)) →
      IsFold ns (JoinNode u b a) z → IsFold ns (JoinNode c a b) z
  join_turned u z w e f = turned z f
    where
      same : (x : TermReading) → InRange x → value_over ns (JoinNode u b a) x ≡ value_over ns (JoinNode c a b) x
      same x i = ap bytes_value (fun_ext (λ j. select_turned (term_word x ns u) (term_word x ns c) _ _ (word_fits x ns 1 u i h w) (e x)))

      turned : (z : Folded) → IsFold ns (JoinNode u b a) z → IsFold ns (JoinNode c a b) z
      turned (Old t) k = record { within = k.within; width = k.width; value = λ x i. k.value x i ∙ same x i }
      turned (New m) k = record {
        typed = k.typed;
        width = k.width;
        value =
            λ x i. k.value x i ∙ same x i;
        gates = k.gates;
        loads = k.loads;
        stores = k.stores;
        joins = k.joins;
        named = λ e. absurd (subst IsInput (k.named e) e);
      }
      turned (Onto o n t d) k = record {
        some = k.some;
        first = k.first;
        second = k.second;
        width = k.width;
        value =
            λ x i. k.value x i ∙ same x i;
        gates = k.gates;
      }
      turned (Unless d t) k = record { first = k.first; second = k.second; width = k.width; value = λ x i. k.value x i ∙ same x i; gates = k.gates }

pub power : (n : ℕ) → 256 ^ n ≡ 2 ^ (8 * n)
power zero = refl
power (suc n) =
    let e : 8 * suc n ≡ 8 * n + 8 = omega arith in
    pow-suc 256 n ∙ ap (λ p. p * 256) (power n) ∙ sym (pow-add 2 (8 * n) 8) ∙ ap (λ k. 2 ^ k) (sym e)

-- a number is that of its bytes
little_bytes : (v n : ℕ) → little n (λ i. v / 256 ^ i % 256) ≡ v % 256 ^ n
little_bytes v zero = sym (mod-one v)
little_bytes v (suc n) =
    let e : 8 * suc n ≡ 8 + 8 * n = omega arith in
    let s = mod-pow-add v 8 (8 * n) in
    let p = power n in
    ap (λ z. z + v / 256 ^ n % 256 * 256 ^ n) (little_bytes v n)
    ∙ (let k : v % 256 ^ n + v / 256 ^ n % 256 * 256 ^ n ≡ v / 256 ^ n % 256 * 256 ^ n + v % 256 ^ n = omega arith in k)
    ∙ ap (λ z. v / z % 256 * z + v % z) p ∙ sym s ∙ ap (λ z. v % 2 ^ z) (sym e) ∙ ap (λ z. v % z) (sym (power (suc n)))

split : (v k : ℕ) → v / 256 ^ suc k * 256 + v / 256 ^ k % 256 ≡ v / 256 ^ k
split v k =
    let e : v / 256 ^ suc k ≡ v / 256 ^ k / 256 = ap (λ z. v / z) (pow-suc 256 k) ∙ sym (div-div-eq-div-mul v (256 ^ k) 256) in
    ap (λ z. z * 256 + v / 256 ^ k % 256) e ∙ (let f : v / 256 ^ k / 256 * 256 + v / 256 ^ k % 256 ≡ v / 256 ^ k = omega arith in f)

big_bytes : (v n k : ℕ) → v < 256 ^ n → k ≤ n → big k (λ i. v / 256 ^ (n - 1 - i) % 256) ≡ v / 256 ^ (n - k)
big_bytes v n zero h l = sym (ap (λ z. v / 256 ^ z) (let e : n - zero ≡ n = omega arith in e) ∙ div-eq_of_lt h)
big_bytes v n (suc k) h l =
    let e : n - k ≡ suc (n - suc k) = omega arith in
    let f : n - 1 - k ≡ n - suc k = omega arith in
    ap (λ z. z * 256 + v / 256 ^ (n - 1 - k) % 256) (big_bytes v n k h (omega arith))
    ∙ ap (λ z. v / 256 ^ z * 256 + v / 256 ^ (n - 1 - k) % 256) e ∙ ap (λ z. v / 256 ^ suc (n - suc k) * 256 + v / 256 ^ z % 256) f ∙ split v (n - suc k)

number_bytes : (e : Endian) (n v : ℕ) → v < 256 ^ n → number e n (byte_of e n v) ≡ v
number_bytes Little n v h = little_bytes v n ∙ mod-eq_of_lt h
number_bytes Big n v h = big_bytes v n n h (omega arith) ∙ ap (λ z. v / 256 ^ z) (let e : n - n ≡ 0 = omega arith in e) ∙ div-one v

-- numbers of the same bytes
same_number : (e : Endian) (n : ℕ) (f g : ℕ → ℕ) → ((i : ℕ) → i < n → f i ≡ g i) → number e n f ≡ number e n g
same_number Little zero f g h = refl
same_number Little (suc n) f g h = ap (λ z. z + f n * 256 ^ n) (same_number Little n f g (λ i l. h i (omega arith))) ∙ ap
    (λ z. little n g + z * 256 ^ n) (h n (omega arith))
same_number Big zero f g h = refl
same_number Big (suc n) f g h = ap (λ z. z * 256 + f n) (same_number Big n f g (λ i l. h i (omega arith))) ∙ ap (λ z. big n g * 256 + z) (h n (omega arith))

inside : (k n i y m : ℕ) → k ≡ i → i < n → (f : ℕ → ℕ) → (if nat_lt k n then f k else m) ≡ f i
inside k n i y m e l f = let b : nat_lt k n ≡ true = grind (arith, nat_tests) in ap (λ z. if z then f k else m) b ∙ ap f e

-- a load of exactly what was stored
pub load_after_store : (e : Endian) (n a v : ℕ) (m : Memory) → n ≤ 8 → a < 2 ^ 32 → v < 2 ^ (8 * n) → load e n (store e n m a v) a ≡ v
load_after_store e n a v m few h k =
    same_number e n (λ i. store e n m a v (words.add 32 a i)) (byte_of e n v)
    (λ i l. inside (words.sub 32 (words.add 32 a i) a) n i 0 (m (words.add 32 a i)) (let z : words.sub 32 (words.add 32 a i) a
    ≡ i = omega arith in z) l (byte_of e n v))
    ∙ number_bytes e n v (subst (λ (z : ℕ). v < z) (sym (power n)) k)

-- the term that was stored
pub just_stored : (ns : List TermNode) (n : ℕ) (big : Bool) (m a k : ℕ) (order : Bool) (o t v : ℕ) → AreTyped ns → HasWidth ns 0 m → HasWidth ns 32 a →
    StoreNode k (endian order) o t v ≡ node_at ns m → k ≡ n → order ≡ big → t ≡ a → IsTermFor ns (LoadNode n (endian big) m a) v
just_stored ns n big m a k order o t v h p q e f g i =
    let s : StoreNode n (endian big) o a v ≡ node_at ns m =
    ap (λ z. StoreNode z (endian big) o a v) (sym f) ∙ ap (λ z. StoreNode k (endian z) o a v) (sym g) ∙ ap
    (λ z. StoreNode k (endian order) o z v) (sym i) ∙ e in
    let y = typed_here ns m (StoreNode n (endian big) o a v) h p.0 s in
    record {
      within = y.3.0;
      width = y.3.1;
      value = λ x j.
          word_only x ns (8 * n) v h (omega (arith, y.0.0)) y.3
          ∙ ap word_value (sym (
          ap (λ z. load (endian big) n z.bytes (term_word x ns a)) (by_node x ns m (StoreNode n (endian big) o a v) h p.0 s)
          ∙ load_after_store (endian big) n (term_word x ns a) (term_word x ns v) (term_value x ns o).bytes y.0.1 (word_fits x ns 32 a j h q)
          (word_fits x ns (8 * n) v j h y.3)));
    }
