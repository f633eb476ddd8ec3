-- The points and the prices of the frames of a whole, added up in the order of their ranks.
use Rattle.std.proofs.Common.{◌≡◌, ◌≢◌, ◌⊎◌, inl, inr, ℕ, zero, suc, ◌+◌, ◌<◌, ◌≤◌, refl, ap, sym, ◌∙◌, subst, arith, List, [], ◌∷◌, ◌++◌, map, length}
use Rattle.std.specs.Prelude.{Contains, min}
use Rattle.std.specs.List.{AllZip}
use Rattle.std.proofs.lemmas.Bool.{cases_lt}
use Rattle.std.proofs.lemmas.List.{length-append, length-map}
use Rattle.std.proofs.lemmas.List.Sums.{sum_by-append, sum_by-cons}
use Rattle.word_spec.specs.RowFiles.{from_to}
use Rattle.bilv_spec.proofs.Pigeons.{Once, no_longer}
use Rattle.bilv_spec.proofs.PointSteps.{here, in_left, in_right, there}
use Rattle.bilv_spec.proofs.PointsInGraph.{of_map, none_in, split_in}
use Rattle.frame_spec.specs.FramePoints as frames
use Rattle.frame_spec.specs.FramePoints.{ArePoints, AtEntry, IsPoint, IsPrice, Point, first_of}
use Rattle.frame_spec.specs.FrameVerdict.{Whole, frame_of}
use Rattle.frame_spec.specs.FrameReports.{HasMore, IsWholePrice, IsWithin, RankedPoint, last_rank}
use Rattle.frame_laws.proofs.OnceLists.{head_or_tail, not_in_tail, once_more, once_tail}
use Rattle.call_spec.specs.Calls.{Budget}
use Rattle.frame_verdict.specs.FrameMeasures.{ArePointsBelow, IsPriceBelow}

-- ---- lists

-- a list that has none of the elements of another, each once, can stand before it
module _ {X : Type 0} where
  once_both : (xs ys : List X) → Once xs → Once ys → ((x : X) → Contains xs x → Contains ys x → ⊥) → Once (xs ++ ys)
  once_both [] ys a b apart = b
  once_both (x ∷ xs) ys a b apart =
      once_more x (xs ++ ys) (once_both xs ys (once_tail x xs a) b (λ y c d. apart y (there x xs y c) d))
      (λ c. elim (split_in xs ys x c) [ inl l ↦ not_in_tail x xs a l | inr r ↦ apart x (here x xs) r ])

-- points of a rank
module _ (rank : ℕ) where
  abbrev ranked : Point → RankedPoint
  ranked q = (rank, q)

  in_ranked : (qs : List Point) (q : Point) → Contains qs q → Contains (map ranked qs) (rank, q)
  in_ranked [] q c = none_in q c
  in_ranked (p ∷ qs) q c = elim (head_or_tail p qs q c) [
    | inl e ↦ subst (λ (z : Point). Contains (map ranked (p ∷ qs)) (rank, z)) e (here (rank, p) (map ranked qs))
    | inr t ↦ there (rank, p) (map ranked qs) (rank, q) (in_ranked qs q t)
  ]

  point_in : (qs : List Point) (x : RankedPoint) → Contains (map ranked qs) x → (x.0 ≡ rank) × Contains qs x.1
  point_in qs x c =
      let it = of_map ranked qs x c in
      (ap (λ (z : RankedPoint). z.0) (sym it.2), subst (λ (z : RankedPoint). Contains qs z.1) it.2 it.1)

  once_ranked : (qs : List Point) → Once qs → Once (map ranked qs)
  once_ranked [] once = λ i j l h e. absurd (omega arith)
  once_ranked (q ∷ qs) once =
      once_more (rank, q) (map ranked qs) (once_ranked qs (once_tail q qs once))
      (λ c. not_in_tail q qs once (point_in qs (rank, q) c).1)

-- ---- points

pub none_below : (w : Whole) (k : ℕ) → ArePointsBelow w k 0 []
none_below w k = record {
  all = λ i q l. absurd (omega arith);
  only = λ x c. none_in x c;
  once = λ i j l h. absurd (omega arith);
}

module _ (w : Whole) (k rank : ℕ) (xs : List RankedPoint) (are : ArePointsBelow w k rank xs) where
  -- the points of the rank are none of those
  apart : (qs : List Point) (x : RankedPoint) → Contains xs x → Contains (map (ranked rank) qs) x → ⊥
  apart qs x c d = let less = (are.only x c).0 in let same = (point_in rank qs x d).0 in absurd (omega arith)

  -- so they can stand behind them
  pub points_behind : (qs : List Point) → ArePoints (frame_of w rank) k qs → ArePointsBelow w k (rank + 1) (xs ++ map (ranked rank) qs)
  points_behind qs points = record {
    all = λ i q l is. by i q is (cases_lt i rank) l;
    only = λ x c. elim (split_in xs (map (ranked rank) qs) x c) [
      | inl a ↦ (let h = (are.only x a).0 in omega arith, (are.only x a).1)
      | inr a ↦ (
        let e = (point_in rank qs x a).0 in omega arith,
        subst (λ (z : ℕ). IsPoint (frame_of w z) k x.1) (sym (point_in rank qs x a).0) (points.only x.1 (point_in rank qs x a).1),
      )
    ];
    once = once_both xs (map (ranked rank) qs) are.once (once_ranked rank qs points.once) (apart qs);
  }
    where
      by : (i : ℕ) (q : Point) → IsPoint (frame_of w i) k q → (i < rank) ⊎ (rank ≤ i) → i < rank + 1 → Contains (xs ++ map (ranked rank) qs) (i, q)
      by i q is (inl l) below = in_left xs (map (ranked rank) qs) (i, q) (are.all i q l is)
      by i q is (inr m) below =
          let e : rank ≡ i = omega arith in
          subst (λ (z : ℕ). Contains (xs ++ map (ranked rank) qs) (z, q)) e
          (in_right xs (map (ranked rank) qs) (rank, q)
          (in_ranked rank qs q (points.all q (subst (λ (z : ℕ). IsPoint (frame_of w z) k q) (sym e) is))))

  -- and where the frame has more points than are left, all have more together
  pub more_of_rank : (max left : ℕ) → rank ≤ last_rank w → length xs + left ≡ max → frames.HasMore (frame_of w rank) k left → HasMore w k max
  more_of_rank max left within count (qs, big, inside, once) = (
    xs ++ map (ranked rank) qs,
    (let a = length-append xs (map (ranked rank) qs) in let b = length-map qs (ranked rank) in omega arith),
    (λ x c. elim (split_in xs (map (ranked rank) qs) x c) [
      | inl a ↦ (let h = (are.only x a).0 in omega arith, (are.only x a).1)
      | inr a ↦ (
        let e = (point_in rank qs x a).0 in omega arith,
        subst (λ (z : ℕ). IsPoint (frame_of w z) k x.1) (sym (point_in rank qs x a).0) (inside x.1 (point_in rank qs x a).1),
      )
    ]),
    once_both xs (map (ranked rank) qs) are.once (once_ranked rank qs once) (apart qs),
  )

  pub length_behind : (qs : List Point) → length (xs ++ map (ranked rank) qs) ≡ length xs + length qs
  length_behind qs = length-append xs (map (ranked rank) qs) ∙ ap (λ z. length xs + z) (length-map qs (ranked rank))

-- all frames have no more points than these
pub no_more : (w : Whole) (k max : ℕ) (xs : List RankedPoint) → ArePointsBelow w k (last_rank w + 1) xs → length xs ≤ max → ¬ HasMore w k max
no_more w k max xs are few (ys, big, inside, once) =
    let l = no_longer xs ys (λ y c. (let h = inside y c in are.all y.0 y.1 (let r = h.0 in omega arith) h.1)) once (0, first_of w.program.entry AtEntry) in
    absurd (omega arith)

-- ---- prices

from_to_more : (first n : ℕ) → from_to first (suc n) ≡ from_to first n ++ (first + n) ∷ []
from_to_more first zero = ap (λ z. z ∷ []) (let e : first ≡ first + 0 = omega arith in e)
from_to_more first (suc n) =
    ap (λ z. first ∷ z) (from_to_more (first + 1) n ∙ ap (λ z. from_to (first + 1) n ++ z ∷ []) (let e : first + 1 + n ≡ first + suc n = omega arith in e))

module _ {A B : Type 0} (P : A → B → Type 0) where
  zip_more : (xs : List A) (ys : List B) (x : A) (y : B) → AllZip P xs ys → P x y → AllZip P (xs ++ x ∷ []) (ys ++ y ∷ [])
  zip_more [] [] x y all h = (h, tt)
  zip_more [] (b ∷ ys) x y all h = absurd all
  zip_more (a ∷ xs) [] x y all h = absurd all
  zip_more (a ∷ xs) (b ∷ ys) x y all h = (all.0, zip_more xs ys x y all.1 h)

pub zip_next : {B : Type 0} (P : ℕ → B → Type 0) (n : ℕ) (ys : List B) (y : B) → AllZip P (from_to 0 n) ys → P n y → AllZip P (from_to 0 (n + 1)) (ys ++ y ∷ [])
zip_next P n ys y all h =
    let e : from_to 0 (n + 1) ≡ from_to 0 n ++ n ∷ [] =
    (let s : n + 1 ≡ suc n = omega arith in ap (from_to 0) s) ∙ from_to_more 0 n ∙ ap (λ z. from_to 0 n ++ z ∷ []) (let z : 0 + n ≡ n = omega arith in z) in
    subst (λ z. AllZip P z (ys ++ y ∷ [])) (sym e) (zip_more P (from_to 0 n) ys n y all h)

pub no_price : (w : Whole) (k : ℕ) → IsPriceBelow w k 0 0
no_price w k = ([], tt, refl)

pub price_behind : (w : Whole) (k rank price n : ℕ) → IsPriceBelow w k rank price → IsPrice (frame_of w rank) k n → IsPriceBelow w k (rank + 1) (price + n)
price_behind w k rank price n (prices, all, is) one = (
  prices ++ n ∷ [],
  zip_next (λ r m. IsPrice (frame_of w r) k m) rank prices n all one,
  (let a = sum_by-append (λ (m : ℕ). m) prices (n ∷ []) in let b = sum_by-cons (λ (m : ℕ). m) n [] in omega arith),
)

-- a sum that is capped is one of numbers that are not
pub not_capped : (a b price cap : ℕ) → price ≡ min (a + min b cap) cap → price ≢ cap → (a ≢ cap) × (price ≡ a + b)
not_capped a b price cap is other =
    by (cases_lt (a + min b cap) cap)
  where
    by : ((a + min b cap) < cap) ⊎ (cap ≤ a + min b cap) → (a ≢ cap) × (price ≡ a + b)
    by (inl l) = elim (cases_lt b cap) [
      | inl m ↦ (let e : min b cap ≡ b = omega (arith, m) in let f : min (a + min b cap) cap ≡ a + min b cap = omega (arith, l) in
          (λ q. absurd (omega (arith, l, e, q)), omega (arith, e, f, is)))
      | inr m ↦ (let e : min b cap ≡ cap = omega (arith, m) in absurd (omega (arith, l, e)))
    ]
    by (inr l) = absurd (other (let f : min (a + min b cap) cap ≡ cap = omega (arith, l) in is ∙ f))

-- ---- the budgets

pub within : (w : Whole) (b : Budget) (price : ℕ) → ¬ HasMore w b.unroll b.points → IsWholePrice w b.unroll price → price ≤ b.size → IsWithin w b
within w b price few is cheap = record { points = few; price = price; is_price = is; size = cheap }
