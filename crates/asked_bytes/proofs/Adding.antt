-- Known addresses that are asked become more from round to round, and there are no more than 2^32.
use Rattle.std.proofs.Common.{◌≡◌, refl, sym, ap, subst, ℕ, zero, suc, ◌-◌, ◌<◌, ◌≤◌, ◌^◌, inl, inr, true, List, [], arith}
use Rattle.std.specs.Prelude.{length, nat_eq, Contains, slice_index}
use Rattle.std.specs.Cmp.{IsEquivalence}
use Rattle.std.specs.List.{list_any}
use Rattle.std.proofs.lemmas.Bool.Decides.{nat_tests}
use Rattle.std.proofs.lemmas.List.Elements.{Contains-get_or, at_from_Contains}
use Rattle.std.proofs.lemmas.Map.Views.{list_any-from_Contains}
use Rattle.walk_spec.specs.Unrolled.{ByteRun}
use Rattle.asked_bytes.specs.AskedBytes.{AreAdded, AreFurther, AreMore, AreRising, IsMerged}

-- at first none are asked
pub added_none : (runs : List ByteRun) (added : List ℕ) → added ≡ [] → AreAdded runs added
added_none runs added e = subst (λ (z : List ℕ). AreAdded runs z) (sym e) (record {
  rise = λ i j lt end. absurd (omega arith);
  known = λ a has. let q = at_from_Contains [] a has in absurd (omega (arith, q.1));
})

-- the next round asks these and the further ones
pub added_merged : (runs : List ByteRun) (added further joined : List ℕ) → AreAdded runs added → AreFurther runs added further →
    IsMerged added further joined → AreAdded runs joined
added_merged runs added further joined h f m = record {
  rise = m.rise;
  known =
      λ a has. elim (m.only a has) [ inl old ↦ h.known a old | inr new ↦ f.are.known a new ];
}

-- rising numbers are at least their places
at_least : (xs : List ℕ) → AreRising xs → (i : ℕ) → i < length xs → i ≤ slice_index xs i
at_least xs rise zero lt = omega arith
at_least xs rise (suc i) lt = let before = at_least xs rise i (omega (arith, lt)) in let next = rise i (suc i) (omega arith) lt in omega (arith, before, next)

few_by : (xs : List ℕ) → AreRising xs → ((a : ℕ) → Contains xs a → a < 2 ^ 32) → (n : ℕ) → length xs ≡ n → n ≤ 2 ^ 32
few_by xs rise small zero e = omega arith
few_by xs rise small (suc n) e =
    let last = at_least xs rise n (omega (arith, e)) in
    let below = small (slice_index xs n) (Contains-get_or xs n 0 (omega (arith, e))) in
    omega (arith, last, below)

pub added_few : (runs : List ByteRun) (added : List ℕ) → AreAdded runs added → length added ≤ 2 ^ 32
added_few runs added h = few_by added h.rise (λ a has. (h.known a has).0) (length added) refl

-- so rounds end
pub fewer_left : (runs : List ByteRun) (added asked joined : List ℕ) → asked ≡ added → AreMore runs asked joined →
    2 ^ 32 - length joined < 2 ^ 32 - length added
fewer_left runs added asked joined e h =
    let most = added_few runs joined h.are in
    let more : length added < length joined = subst (λ (z : List ℕ). length z < length joined) e h.longer in
    omega (arith, most, more)

nat_equal : IsEquivalence nat_eq
nat_equal = record {
  refl = λ x. grind (arith, nat_tests);
  symm = λ x y. grind (arith, nat_tests);
  congr = λ x y z h. let e : x ≡ y = grind (arith, nat_tests) in ap (λ n. nat_eq n z) e;
}

-- what a list contains is found by a test of its elements
pub any_contained : (xs : List ℕ) (a : ℕ) → Contains xs a → list_any (nat_eq a) xs ≡ true
any_contained xs a has = list_any-from_Contains nat_equal a xs has
