-- Known addresses beside broken ones.
use Rattle.std.proofs.Common.{◌≡◌, sym, subst, ℕ, ◌+◌, ◌<◌, ◌≤◌, ◌^◌, inl, inr, List, [], ◌∷◌, ◌++◌, Some, map, arith}
use Rattle.std.specs.Prelude.{length, Contains}
use Rattle.std.proofs.lemmas.List.Elements.{Contains-push_cases, at_from_Contains}
use Rattle.walk_spec.specs.Unrolled.{ByteRun, byte_of_runs}
use Rattle.known_bytes.specs.declared.listing.Known.{Known}
use Rattle.known_bytes.specs.Runs.{run_of}
use Rattle.asked_bytes.specs.AskedBytes.{AreAdded, AreBeside, AreFurther, AreMore, IsMerged}
use Rattle.asked_bytes.proofs.Adding.{added_merged}
use Rattle.asked_bytes.proofs.Merging.{snoc_rises}

pub beside_none : (known : List Known) (added found : List ℕ) → found ≡ [] → AreBeside known added 0 found
beside_none known added found e = subst (λ (z : List ℕ). AreBeside known added 0 z) (sym e) (record {
  rise = λ i j lt end. absurd (omega arith);
  known_byte = λ a has. absurd (empty a has);
  new = λ a has. absurd (empty a has);
  below = λ a has. absurd (empty a has);
})
  where
    empty : (a : ℕ) → Contains {X = ℕ} [] a → ⊥
    empty a has = let q = at_from_Contains [] a has in omega (arith, q.1)

-- before a later address
pub beside_later : (known : List Known) (added : List ℕ) (before later : ℕ) (found : List ℕ) → AreBeside known added before found → before ≤ later →
    AreBeside known added later found
beside_later known added before later found h le = record {
  rise = h.rise;
  known_byte = h.known_byte;
  new = h.new;
  below = λ a has. let lt = h.below a has in omega (arith, lt, le);
}

-- one more address
pub beside_more : (known : List Known) (added : List ℕ) (a : ℕ) (old more : List ℕ) → AreBeside known added a old → more ≡ old ++ a ∷ [] → a < 2 ^ 32 →
    (b : ℕ) × (byte_of_runs (map run_of known) a ≡ Some b) → ¬ Contains added a → AreBeside known added (a + 1) more
beside_more known added a old more h e small byte apart = subst (λ (z : List ℕ). AreBeside known added (a + 1) z) (sym e) (record {
  rise = snoc_rises old a h.rise h.below;
  known_byte = λ x has. elim (Contains-push_cases old a x has) [
    | inl before ↦ h.known_byte x before
    | inr is ↦ subst (λ (n : ℕ). (n < 2 ^ 32) × ((b : ℕ) × (byte_of_runs (map run_of known) n ≡ Some b))) is (small, byte)
  ];
  new = λ x has. elim (Contains-push_cases old a x has) [
    | inl before ↦ h.new x before
    | inr is ↦ subst (λ (n : ℕ). ¬ Contains added n) is apart
  ];
  below = λ x has. elim (Contains-push_cases old a x has) [
    | inl before ↦ (let lt = h.below x before in omega (arith, lt))
    | inr is ↦ subst (λ (n : ℕ). n < a + 1) is (omega arith)
  ];
})

-- those that were found, if there are some
pub beside_further : (known : List Known) (added found further : List ℕ) → (before : ℕ) × AreBeside known added before found → 0 < length found →
    further ≡ found → AreFurther (map run_of known) added further
beside_further known added found further (before, h) some f = subst (λ (z : List ℕ). AreFurther (map run_of known) added z) (sym f)
    (record { are = record { rise = h.rise; known = h.known_byte }; some = some; new = h.new })

-- more is asked
pub asks_more : (runs : List ByteRun) (added further joined : List ℕ) → AreAdded runs added → AreFurther runs added further → IsMerged added further joined →
    AreMore runs added joined
asks_more runs added further joined h f m = record { are = added_merged runs added further joined h f m; longer = longer; keep = m.keep }
  where
    longer : length added < length joined
    longer = let count = m.count in let some = f.some in omega (arith, count, some)
