-- Words that are stored byte by byte.
use Rattle.std.proofs.Common.{◌≡◌, inl, inr, ℕ, ◌+◌, ◌-◌, ◌*◌, ◌/◌, ◌%◌, ◌^◌, ◌<◌, ◌≤◌, true, false, List, [], ◌∷◌, ◌++◌, length, ap, sym, ◌∙◌, subst, arith}
use Rattle.std.specs.Prelude.{if◌then◌else◌, nat_lt}
use Rattle.std.proofs.lemmas.Bool.{cases_lt}
use Rattle.std.proofs.lemmas.Bool.Decides.{nat_tests}
use Rattle.std.proofs.lemmas.List.{get_or_append_left}
use Rattle.word_spec.specs.Words.{add, sub}
use Rattle.word_spec.specs.Memory.{Memory, Endian, place, byte_of, store}
use Rattle.term_spec.specs.Terms.{TermReading, InRange, ExtractNode, HasWidth, term_word, values_from, node_value}
use Rattle.term_dag.proofs.Joins.{power}
use Rattle.term_dag.proofs.ListLaws.{last}
use Rattle.term_dag.proofs.Ranges.{word_fits}
use Rattle.mem_cells.specs.declared.building.Build.{Build}
use Rattle.mem_cells.specs.declared.pieces.Split.{Split}
use Rattle.mem_cells.specs.declared.pieces.StoredByte.{StoredByte}
use Rattle.mem_cells.specs.Pieces.{puts, stored_at, no_byte, IsSplit, IsStored}
use Rattle.mem_cells.specs.Building.{IsBuilt, Grown, IsWord, IsWritten}
use Rattle.mem_cells.proofs.Growing.{grown_on, grown_word, grown_width}
use Rattle.mem_cells.proofs.Puts.{puts_here, puts_apart, puts_same}

back : (a i : ℕ) → a < 2 ^ 32 → i < 2 ^ 32 → i ≡ add 32 a (sub 32 i a)
back a i ha hi = omega (arith, ha, hi)

meets : (a i k : ℕ) → a < 2 ^ 32 → i < 2 ^ 32 → k < 8 → i ≡ add 32 a k → k ≡ sub 32 i a
meets a i k ha hi hk e = omega (arith, ha, hi, hk, e)

at_least : (a n : ℕ) → n ≤ a → nat_lt a n ≡ false
at_least a n h = grind (arith, nat_tests)

below : (a n : ℕ) → a < n → nat_lt a n ≡ true
below a n h = grind (arith, nat_tests)

-- a store is its bytes, put one after another
pub store_puts : (e : Endian) (n : ℕ) (m : Memory) (a v i : ℕ) → n ≤ 8 → a < 2 ^ 32 → i < 2 ^ 32 → puts i (add 32 a) (byte_of e n v) n (m i) ≡ store e n m a v i
store_puts e n m a v i hn ha hi = elim (cases_lt (sub 32 i a) n) [
  | inl l ↦ puts_here i (add 32 a) (byte_of e n v) n (m i) (sub 32 i a) l (back a i ha hi) (λ k q z. meets a i k ha hi (omega (arith, q, hn)) z)
      ∙ sym (ap (λ t. if t then byte_of e n v (sub 32 i a) else m i) (below (sub 32 i a) n l))
  | inr l ↦ puts_apart i (add 32 a) (byte_of e n v) n (m i) (λ k q z. absurd (omega (arith, q, l, meets a i k ha hi (omega (arith, q, hn)) z)))
      ∙ sym (ap (λ t. if t then byte_of e n v (sub 32 i a) else m i) (at_least (sub 32 i a) n l))
]

-- a byte of a word is eight of its bits
pub extracted : (old new : Build) (v t n i lowest : ℕ) (e : Endian) → lowest ≡ place e n i →
    IsWord new.dag (8 * lowest + 7 + 1 - 8 * lowest) t (λ x. (node_value x (values_from x [] old.dag) (ExtractNode (8 * lowest + 7) (8 * lowest) v)).word) →
    IsWord new.dag 8 t (λ x. byte_of e n (term_word x old.dag v) i)
extracted old new v t n i lowest e p h =
    let w : 8 * lowest + 7 + 1 - 8 * lowest ≡ 8 = omega arith in
    record {
      place = (h.place.0, h.place.1 ∙ w);
      value = λ x r.
          h.value x r
          ∙ ap (λ z. term_word x old.dag v / 2 ^ (8 * lowest) % 2 ^ z) w
          ∙ ap (λ z. term_word x old.dag v / z % 256) (sym (power lowest))
          ∙ ap (λ z. term_word x old.dag v / 256 ^ z % 256) p;
    }

kept_word : (old new : Build) (g r w t : ℕ) (f : TermReading → ℕ) → Grown old new g r → IsWord old.dag w t f → IsWord new.dag w t f
kept_word old new g r w t f p h = record { place = grown_width old new g r w t p h.place; value = λ x i. grown_word old new g r x t p h.place.0 ∙ h.value x i }

one_at : (stored : List StoredByte) (s : StoredByte) (i : ℕ) → i < length stored → stored_at (stored ++ s ∷ []) i ≡ stored_at stored i
one_at stored s i l = get_or_append_left stored (s ∷ []) no_byte i l

one_last : (stored : List StoredByte) (s : StoredByte) (i : ℕ) → i ≡ length stored → stored_at (stored ++ s ∷ []) i ≡ s
one_last stored s i e = ap (stored_at (stored ++ s ∷ [])) e ∙ last stored s no_byte

-- one more byte is written
pub written_next : (old mid at new : Build) (g r h s k u : ℕ) (stored : List StoredByte) (first j a v n : ℕ) (e : Endian) (y : StoredByte) → Grown old mid g r →
    Grown mid at h s → Grown at new k u →
    HasWidth old.dag 32 a → HasWidth old.dag (8 * n) v → length stored ≡ first + j → IsWritten old mid stored first j a v n e →
    IsWord at.dag 32 y.address.0 (λ x. add 32 (term_word x mid.dag a) j) →
    IsWord new.dag 8 y.value.0 (λ x. byte_of e n (term_word x at.dag v) j) → IsWritten old new (stored ++ y ∷ []) first (j + 1) a v n e
written_next old mid at new g r h s k u stored first j a v n e y p q o ha hv l w d c = record {
  addresses = λ i b. elim (cases_lt i j) [
    | inl z ↦ subst (λ (t : StoredByte). IsWord new.dag 32 t.address.0
        (λ x. add 32 (term_word x old.dag a) i)) (sym (one_at stored y (first + i) (omega (arith, l, z))))
        (kept_word mid new _ _ 32 _ _ (grown_on mid at new h s k u q o) (w.addresses i z))
    | inr z ↦ (
        let f : i ≡ j = omega (arith, b, z) in
        subst (λ (t : StoredByte). IsWord new.dag 32 t.address.0
        (λ x. add 32 (term_word x old.dag a) i)) (sym (one_last stored y (first + i) (omega (arith, l, f))))
        (subst (λ (t : ℕ). IsWord new.dag 32 y.address.0 (λ x. add 32 (term_word x old.dag a) t)) (sym f)
        (record {
          place = grown_width at new k u 32 y.address.0 o d.place;
          value = λ x r2. grown_word at new k u x y.address.0 o d.place.0 ∙ d.value x r2 ∙ ap
              (λ t. add 32 t j) (grown_word old mid g r x a p ha.0);
        })))
  ];
  values = λ i b. elim (cases_lt i j) [
    | inl z ↦ subst (λ (t : StoredByte). IsWord new.dag 8 t.value.0
        (λ x. byte_of e n (term_word x old.dag v) i)) (sym (one_at stored y (first + i) (omega (arith, l, z))))
        (kept_word mid new _ _ 8 _ _ (grown_on mid at new h s k u q o) (w.values i z))
    | inr z ↦ (
        let f : i ≡ j = omega (arith, b, z) in
        subst (λ (t : StoredByte). IsWord new.dag 8 t.value.0
        (λ x. byte_of e n (term_word x old.dag v) i)) (sym (one_last stored y (first + i) (omega (arith, l, f))))
        (subst (λ (t : ℕ). IsWord new.dag 8 y.value.0 (λ x. byte_of e n (term_word x old.dag v) t)) (sym f)
        (record {
          place = c.place;
          value = λ x r2. c.value x r2 ∙ ap
              (λ t. byte_of e n t j) (grown_word old at (g + h) (r + s) x v (grown_on old mid at g r h s p q) hv.0);
        })))
  ];
}

-- bytes that are written are stored
pub written_stored : (old mid new : Build) (g r h s : ℕ) (stored : List StoredByte) (first a v n : ℕ) (e : Endian) (to : Split) → Grown old mid g r →
    Grown mid new h s → HasWidth old.dag 32 a → n ≤ 8 →
    length stored ≡ first + n → IsWritten old mid stored first n a v n e → IsSplit new.dag a to.base.0 to.offset → IsStored new.dag stored to first n
written_stored old mid new g r h s stored first a v n e to p q ha hn l w y = record {
  are = record {
    few = hn;
    within = omega (arith, l);
    addresses = λ k b. grown_width mid new h s 32 _ q (w.addresses k b).place;
    values = λ k b. grown_width mid new h s 8 _ q (w.values k b).place;
  };
  base = y.place;
  offset = y.below;
  places = λ x i k b.
      grown_word mid new h s x (stored_at stored (first + k)).address.0 q (w.addresses k b).place.0 ∙ (w.addresses k b).value x i
      ∙ ap (λ z. add 32 z k) (sym (grown_word old new (g + h) (r + s) x a (grown_on old mid new g r h s p q) ha.0) ∙ y.value x i);
}

-- and put one after another they are the store
pub written_puts : (old mid new : Build) (h s : ℕ) (stored : List StoredByte) (first a v n : ℕ) (e : Endian) → IsBuilt old → Grown mid new h s →
    HasWidth old.dag 32 a → n ≤ 8 →
    IsWritten old mid stored first n a v n e → (x : TermReading) → InRange x → (i : ℕ) → i < 2 ^ 32 → (m : Memory) →
    puts i (λ k. term_word x new.dag (stored_at stored (first + k)).address.0) (λ k. term_word x new.dag (stored_at stored (first + k)).value.0) n (m i)
    ≡ store e n m (term_word x old.dag a) (term_word x old.dag v) i
written_puts old mid new h s stored first a v n e c q ha hn w x i j l m =
    puts_same j _ (add 32 (term_word x old.dag a)) _ (byte_of e n (term_word x old.dag v)) n (m j)
    (λ k b. grown_word mid new h s x (stored_at stored (first + k)).address.0 q (w.addresses k b).place.0 ∙ (w.addresses k b).value x i)
    (λ k b. grown_word mid new h s x (stored_at stored (first + k)).value.0 q (w.values k b).place.0 ∙ (w.values k b).value x i)
    ∙ store_puts e n m (term_word x old.dag a) (term_word x old.dag v) j hn (word_fits x old.dag 32 a i c.typed ha) l
