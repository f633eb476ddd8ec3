-- Bytes that are put over others.
use Rattle.std.proofs.Common.{◌≡◌, ◌⊎◌, [], ℕ, zero, suc, ◌+◌, ◌^◌, ◌<◌, ◌≤◌, ◌==◌, Bool, true, false, List, refl, ap, sym, ◌∙◌, arith, inl, inr}
use Rattle.std.specs.Prelude.{if◌then◌else◌}
use Rattle.std.proofs.lemmas.Bool.{cases_eq}
use Rattle.std.proofs.lemmas.Bool.Decides.{nat_tests}
use Rattle.word_spec.specs.Words.{add, sub, bit}
use Rattle.machine_spec.specs.Bil.{Equal}
use Rattle.term_spec.specs.Terms.{TermReading, InRange, BinaryNode, SelectNode, HasWidth, term_word, values_from, node_value, select}
use Rattle.term_dag.proofs.Ranges.{word_fits}
use Rattle.mem_cells.specs.declared.building.Build.{Build}
use Rattle.mem_cells.specs.declared.pieces.Split.{Split}
use Rattle.mem_cells.specs.declared.pieces.StoredByte.{StoredByte}
use Rattle.mem_cells.specs.Pieces.{puts, put_bytes, stored_at, ends_in, lies_apart, IsSplit, AreBytes, IsStored}
use Rattle.mem_cells.specs.Building.{IsBuilt, Grown, IsWord, IsByte}
use Rattle.mem_cells.proofs.Growing.{grown_word}

test : (a b : ℕ) → ((a == b) ≡ true) × (a ≡ b) ⊎ ((a == b) ≡ false) × (a ≡ b → ⊥)
test a b = elim (cases_eq a b) [ inl e ↦ inl (grind (arith, nat_tests), e) | inr n ↦ inr (grind (arith, nat_tests), n) ]

-- bytes at other addresses are none
pub puts_apart : (i : ℕ) (at v : ℕ → ℕ) (n b : ℕ) → ((k : ℕ) → k < n → i ≡ at k → ⊥) → puts i at v n b ≡ b
puts_apart i at v zero b h = refl
puts_apart i at v (suc n) b h = elim (test i (at n)) [
  | inl e ↦ absurd (h n (omega arith) e.1)
  | inr e ↦ ap (λ z. if z then v n else puts i at v n b) e.0 ∙ puts_apart i at v n b (λ k l. h k (omega (arith, l)))
]

-- a byte at the address alone is the one
pub puts_here : (i : ℕ) (at v : ℕ → ℕ) (n b d : ℕ) → d < n → i ≡ at d → ((k : ℕ) → k < n → i ≡ at k → k ≡ d) → puts i at v n b ≡ v d
puts_here i at v zero b d l e h = absurd (omega (arith, l))
puts_here i at v (suc n) b d l e h = elim (test i (at n)) [
  | inl t ↦ ap (λ z. if z then v n else puts i at v n b) t.0 ∙ ap v (h n (omega arith) t.1)
  | inr t ↦ ap (λ z. if z then v n else puts i at v n b) t.0 ∙ puts_here i at v n b d (omega (arith, l, apart t.1)) e (λ k m. h k (omega (arith, m)))
]
  where
    apart : (i ≡ at n → ⊥) → (d ≡ n) → ⊥
    apart f q = f (e ∙ ap at q)

-- bytes that are the same at the same addresses
pub puts_same : (i : ℕ) (at av v w : ℕ → ℕ) (n b : ℕ) → ((k : ℕ) → k < n → at k ≡ av k) → ((k : ℕ) → k < n → v k ≡ w k) → puts i at v n b ≡ puts i av w n b
puts_same i at av v w zero b f g = refl
puts_same i at av v w (suc n) b f g =
    ap (λ z. if i == z then v n else puts i at v n b) (f n (omega arith))
    ∙ ap (λ z. if i == av n then z else puts i at v n b) (g n (omega arith))
    ∙ ap (λ z. if i == av n then w n else z) (puts_same i at av v w n b (λ k l. f k (omega (arith, l))) (λ k l. g k (omega (arith, l))))

-- sums of one base
there : (b o s : ℕ) → b < 2 ^ 32 → o < 2 ^ 32 → s < 2 ^ 32 → add 32 b o ≡ add 32 (add 32 b s) (sub 32 o s)
there b o s hb ho hs = omega (arith, hb, ho, hs)

lands : (b o s k : ℕ) → b < 2 ^ 32 → o < 2 ^ 32 → s < 2 ^ 32 → k < 8 → add 32 b o ≡ add 32 (add 32 b s) k → k ≡ sub 32 o s
lands b o s k hb ho hs hk e = omega (arith, hb, ho, hs, hk, e)

both : (a b : Bool) → (if a then b else false) ≡ true → (a ≡ true) × (b ≡ true)
both true b e = (refl, e)
both false b e = cc

-- the byte that a store surely puts at an address, whatever it stands over
put_here : (b : Build) (stored : List StoredByte) (at to : Split) (first n address : ℕ) (x : TermReading) (y : ℕ) → IsBuilt b → InRange x →
    IsStored b.dag stored to first n →
    IsSplit b.dag address at.base.0 at.offset → (at.base.0 ≡ to.base.0) × (sub 32 at.offset to.offset < n) →
    put_bytes (term_word x b.dag) stored first n address y ≡ term_word x b.dag (stored_at stored (first + sub 32 at.offset to.offset)).value.0
put_here b stored at to first n address x y c i s p q =
    let d = sub 32 at.offset to.offset in
    let w = term_word x b.dag to.base.0 in
    let f = word_fits x b.dag 32 to.base.0 i c.typed s.base in
    let e : term_word x b.dag address ≡ add 32 w at.offset = p.value x i ∙ ap (λ z. add 32 (term_word x b.dag z) at.offset) q.0 in
    puts_here _ _ (λ k. term_word x b.dag (stored_at stored (first + k)).value.0) n y d q.1
    (e ∙ there w at.offset to.offset f p.below s.offset ∙ sym (s.places x i d q.1))
    (λ k l h. lands w at.offset to.offset k f p.below s.offset (omega (arith, l, s.are.few)) (sym e ∙ h ∙ s.places x i k l))

within : (at to : Split) (n : ℕ) → ends_in at to n ≡ true → (at.base.0 ≡ to.base.0) × (sub 32 at.offset to.offset < n)
within at to n t = grind (arith, nat_tests)

-- so what it stands over does not matter
pub put_within : (b : Build) (stored : List StoredByte) (at to : Split) (first n address : ℕ) (x : TermReading) (y z : ℕ) → IsBuilt b → InRange x →
    IsStored b.dag stored to first n →
    IsSplit b.dag address at.base.0 at.offset → ends_in at to n ≡ true →
    put_bytes (term_word x b.dag) stored first n address y ≡ put_bytes (term_word x b.dag) stored first n address z
put_within b stored at to first n address x y z c i s p t =
    put_here b stored at to first n address x y c i s p (within at to n t) ∙ sym (put_here b stored at to first n address x z c i s p (within at to n t))

pub within_byte : (b : Build) (stored : List StoredByte) (at to : Split) (first n address : ℕ) (below : TermReading → ℕ) → IsBuilt b →
    IsStored b.dag stored to first n →
    IsSplit b.dag address at.base.0 at.offset → ends_in at to n ≡ true →
    IsByte b (stored_at stored (first + sub 32 at.offset to.offset)).value.0 (λ x. put_bytes (term_word x b.dag) stored first n address (below x))
within_byte b stored at to first n address below c s p t =
    let q = within at to n t in
    record { place = s.are.values (sub 32 at.offset to.offset) q.1; value = λ x i g. sym (put_here b stored at to first n address x (below x) c i s p q) }

-- a store that surely puts no byte at an address
pub apart_byte : (b : Build) (stored : List StoredByte) (at to : Split) (first n address m : ℕ) → IsBuilt b → IsStored b.dag stored to first n →
    IsSplit b.dag address at.base.0 at.offset → lies_apart at to n ≡ true → HasWidth b.dag 8 m →
    IsByte b m (λ x. put_bytes (term_word x b.dag) stored first n address (term_word x b.dag m))
apart_byte b stored at to first n address m c s p t w8 =
    let q : (at.base.0 ≡ to.base.0) × (n ≤ sub 32 at.offset to.offset) = grind (arith, nat_tests) in
    record {
      place = w8;
      value = λ x i g.
          let w = term_word x b.dag to.base.0 in
          let f = word_fits x b.dag 32 to.base.0 i c.typed s.base in
          let e : term_word x b.dag address ≡ add 32 w at.offset = p.value x i ∙ ap (λ z. add 32 (term_word x b.dag z) at.offset) q.0 in
          sym (puts_apart _ _ (λ k. term_word x b.dag (stored_at stored (first + k)).value.0) n (term_word x b.dag m)
          (λ k l h. absurd (omega (
            arith,
            l,
            q.1,
            lands w at.offset to.offset k f p.below s.offset (omega (arith, l, s.are.few))
                (sym e ∙ h ∙ s.places x i k l),
          ))));
    }

picked : (t : Bool) (a b : ℕ) → select (bit t) a b ≡ (if t then a else b)
picked true a b = refl
picked false a b = refl

-- a comparison and a selection
pub put_word : (old mid new : Build) (g r h s a b v m c t : ℕ) → Grown old mid g r → Grown mid new h s → HasWidth old.dag 8 v → HasWidth old.dag 8 m →
    IsWord mid.dag 1 c (λ x. (node_value x (values_from x [] old.dag) (BinaryNode Equal 32 a b)).word) →
    IsWord new.dag 8 t (λ x. (node_value x (values_from x [] mid.dag) (SelectNode 8 c v m)).word) →
    IsWord new.dag 8 t (λ x. if term_word x old.dag a == term_word x old.dag b then term_word x old.dag v else term_word x old.dag m)
put_word old mid new g r h s a b v m c t p q hv hm e k = record {
  place = k.place;
  value = λ x i.
      k.value x i
      ∙ ap (λ z. select z (term_word x mid.dag v) (term_word x mid.dag m)) (e.value x i)
      ∙ picked (term_word x old.dag a == term_word x old.dag b) (term_word x mid.dag v) (term_word x mid.dag m)
      ∙ ap (λ z. if term_word x old.dag a == term_word x old.dag b then z else term_word x mid.dag m) (grown_word old mid g r x v p hv.0)
      ∙ ap (λ z. if term_word x old.dag a == term_word x old.dag b then term_word x old.dag v else z) (grown_word old mid g r x m p hm.0);
}

-- one more byte
pub put_next : (old mid new : Build) (stored : List StoredByte) (first n k g r address below byte t : ℕ) → Grown old mid g r → AreBytes old.dag stored first n →
    k < n →
    HasWidth old.dag 32 address →
    IsWord mid.dag 8 byte (λ x. put_bytes (term_word x old.dag) stored first k address (term_word x old.dag below)) →
    IsWord new.dag 8 t (λ x. if term_word x mid.dag address == term_word x mid.dag (stored_at stored (first + k)).address.0
    then term_word x mid.dag (stored_at stored (first + k)).value.0 else term_word x mid.dag byte) →
    IsWord new.dag 8 t (λ x. put_bytes (term_word x old.dag) stored first (k + 1) address (term_word x old.dag below))
put_next old mid new stored first n k g r address below byte t p a l w e f = record {
  place = f.place;
  value = λ x i.
      let s = stored_at stored (first + k) in
      let one : suc k ≡ k + 1 = omega arith in
      f.value x i
      ∙ ap (λ z. if z == term_word x mid.dag s.address.0 then term_word x mid.dag s.value.0
      else term_word x mid.dag byte) (grown_word old mid g r x address p w.0)
      ∙ ap (λ z. if term_word x old.dag address == z then term_word x mid.dag s.value.0
      else term_word x mid.dag byte) (grown_word old mid g r x s.address.0 p (a.addresses k l).0)
      ∙ ap (λ z. if term_word x old.dag address == term_word x old.dag s.address.0 then z
      else term_word x mid.dag byte) (grown_word old mid g r x s.value.0 p (a.values k l).0)
      ∙ ap (λ z. if term_word x old.dag address == term_word x old.dag s.address.0 then term_word x old.dag s.value.0 else z) (e.value x i)
      ∙ ap (λ z. put_bytes (term_word x old.dag) stored first z address (term_word x old.dag below)) one;
}
