-- Successors in order.
use Rattle.std.proofs.Common.{◌≡◌, inl, inr, ℕ, zero, suc, ◌+◌, ◌*◌, ◌==◌, ◌<◌, ◌≤◌, refl, ap, sym, ◌∙◌, subst, arith, List, [], ◌∷◌, length, get_or, map, Bool, true, false}
use Rattle.std.specs.Prelude.{nat_eq, nat_lt, ◌||◌, ◌&&◌, filter, if◌then◌else◌}
use Rattle.std.specs.List.{list_any, dedup, dedup_from}
use Rattle.std.specs.List.Sorted.{IsNonDecreasingBy, IsPermutation}
use Rattle.std.proofs.lemmas.Bool.{eqb-true}
use Rattle.std.proofs.lemmas.Bool.Decides.{nat_tests}
use Rattle.std.proofs.lemmas.List.Sorted.{list_any-IsPermutation}
use Rattle.machine_spec.specs.Machine.{is_place}
use Rattle.bilv_spec.specs.Graph as graph
use Rattle.bilv_spec.specs.Graph.{Letter, NextLetter, JumpLetter, CallLetter, ReturnLetter, letter_order, comes_before}
use Rattle.graph_nodes.specs.declared.nodes.Successor.{Successor}
use Rattle.graph_nodes.specs.Graphs.{successor_of}
use Rattle.flow_graph.specs.Programs.{place}
use Rattle.flow_graph.proofs.Members.{same_truth, or_cases, or_swap, or_twice, any_map, maps, map_filter, head_in, tail_in, in_cases}

-- each number is below those behind it
abbrev pub Rises : List ℕ → Type 0
Rises [] = Unit {0}
Rises (x ∷ xs) = ((y : ℕ) → list_any (nat_eq y) xs ≡ true → x < y) × Rises xs

abbrev AreSame : List ℕ → List ℕ → Type 0
AreSame xs ys = (z : ℕ) → list_any (nat_eq z) xs ≡ list_any (nat_eq z) ys

same_head : (x y : ℕ) (xs ys : List ℕ) → Rises (x ∷ xs) → Rises (y ∷ ys) → AreSame (x ∷ xs) (y ∷ ys) → x ≡ y
same_head x y xs ys r s e =
    elim (in_cases x y ys (sym (e x) ∙ head_in x xs)) [
      | inl p ↦ p
      | inr p ↦ elim (in_cases y x xs (e y ∙ head_in y ys)) [ inl q ↦ sym q | inr q ↦ (let u = s.0 x p in let v = r.0 y q in absurd (omega arith)) ]
    ]

into_tail : (x y z : ℕ) (xs ys : List ℕ) → Rises (x ∷ xs) → x ≡ y → AreSame (x ∷ xs) (y ∷ ys) → list_any (nat_eq z) xs ≡ true → list_any (nat_eq z) ys ≡ true
into_tail x y z xs ys r same e h =
    elim (in_cases z y ys (sym (e z) ∙ tail_in z x xs h)) [ inl p ↦ (let u = r.0 z h in absurd (omega arith)) | inr t ↦ t ]

-- rising numbers with the same members are the same
pub unique : (xs ys : List ℕ) → Rises xs → Rises ys → AreSame xs ys → xs ≡ ys
unique [] [] r s e = refl
unique [] (y ∷ ys) r s e = (let h : false ≡ true = e y ∙ head_in y ys in absurd (cc))
unique (x ∷ xs) [] r s e = (let h : false ≡ true = sym (e x) ∙ head_in x xs in absurd (cc))
unique (x ∷ xs) (y ∷ ys) r s e =
    let same = same_head x y xs ys r s e in
    ap (λ w. w ∷ xs) same
    ∙ ap (λ l. y ∷ l)
    (unique xs ys r.1 s.1 (λ z. same_truth _ _ (into_tail x y z xs ys r same e) (into_tail y x z ys xs s (sym same) (λ w. sym (e w)))))

letter_small : (l : Letter) → letter_order l < 4
letter_small NextLetter = omega arith
letter_small JumpLetter = omega arith
letter_small CallLetter = omega arith
letter_small ReturnLetter = omega arith

letter_at : ℕ → Letter
letter_at zero = NextLetter
letter_at (suc zero) = JumpLetter
letter_at (suc (suc zero)) = CallLetter
letter_at (suc (suc (suc n))) = ReturnLetter

letter_back : (l : Letter) → letter_at (letter_order l) ≡ l
unfolding letter_at
letter_back NextLetter = refl
letter_back JumpLetter = refl
letter_back CallLetter = refl
letter_back ReturnLetter = refl

-- a place tells the successor
place_tells : (x y : graph.Successor) → place x ≡ place y → x ≡ y
place_tells x y e =
    let l = letter_small x.letter in
    let m = letter_small y.letter in
    let to : x.to ≡ y.to = omega arith in
    let order : letter_order x.letter ≡ letter_order y.letter = omega arith in
    let letter : x.letter ≡ y.letter = sym (letter_back x.letter) ∙ ap letter_at order ∙ letter_back y.letter in
    ap (λ v. graph.successor v x.to) letter ∙ ap (λ t. graph.successor y.letter t) to

pub places_tell : (xs ys : List graph.Successor) → map place xs ≡ map place ys → xs ≡ ys
places_tell [] [] e = refl
places_tell [] (y ∷ ys) e = absurd (cc)
places_tell (x ∷ xs) [] e = absurd (cc)
places_tell (x ∷ xs) (y ∷ ys) e =
    let head : place x ≡ place y = cc in
    let tail : map place xs ≡ map place ys = cc in
    ap (λ s. s ∷ xs) (place_tells x y head) ∙ ap (λ l. y ∷ l) (places_tell xs ys tail)

number_less : (a b l m : ℕ) → l < 4 → m < 4 → (nat_lt a b || ((a == b) && nat_lt l m)) ≡ true → a * 4 + l < b * 4 + m
number_less a b l m s t h = grind (arith, nat_tests)

number_same : (a b l m : ℕ) → l < 4 → m < 4 → (nat_lt a b || ((a == b) && nat_lt l m)) ≡ false → (nat_lt b a || ((b == a) && nat_lt m l)) ≡ false →
    a * 4 + l ≡ b * 4 + m
number_same a b l m s t h k = grind (arith, nat_tests)

place_less : (x y : graph.Successor) → comes_before x y ≡ true → place x < place y
place_less x y h = number_less x.to y.to (letter_order x.letter) (letter_order y.letter) (letter_small x.letter) (letter_small y.letter) h

place_same : (x y : graph.Successor) → comes_before x y ≡ false → comes_before y x ≡ false → place x ≡ place y
place_same x y h k = number_same x.to y.to (letter_order x.letter) (letter_order y.letter) (letter_small x.letter) (letter_small y.letter) h k

-- what an insertion comes to, by whether the new one stands before the first, and the first before the new one
abbrev chosen : Bool → Bool → graph.Successor → graph.Successor → List graph.Successor → List graph.Successor → List graph.Successor
chosen b c x y ys rest = if b then x ∷ y ∷ ys else if c then y ∷ rest else y ∷ ys

any_chosen : (b c : Bool) (n : ℕ) (x y : graph.Successor) (ys rest : List graph.Successor) → (b ≡ false → c ≡ false → place x ≡ place y)
    → list_any (nat_eq n) (map place rest) ≡ (nat_eq n (place x) || list_any (nat_eq n) (map place ys))
    → list_any (nat_eq n) (map place (chosen b c x y ys rest)) ≡ (nat_eq n (place x) || (nat_eq n (place y) || list_any (nat_eq n) (map place ys)))
any_chosen true c n x y ys rest same ih = refl
any_chosen false true n x y ys rest same ih =
    ap (λ b. nat_eq n (place y) || b) ih ∙ or_swap (nat_eq n (place y)) (nat_eq n (place x)) (list_any (nat_eq n) (map place ys))
any_chosen false false n x y ys rest same ih =
    sym (or_twice (nat_eq n (place y)) (list_any (nat_eq n) (map place ys)))
    ∙ ap (λ p. nat_eq n p || (nat_eq n (place y) || list_any (nat_eq n) (map place ys))) (sym (same refl refl))

any_insert : (n : ℕ) (x : graph.Successor) (ys : List graph.Successor)
    → list_any (nat_eq n) (map place (graph.insert x ys)) ≡ (nat_eq n (place x) || list_any (nat_eq n) (map place ys))
any_insert n x [] = refl
any_insert n x (y ∷ ys) =
    any_chosen (comes_before x y) (comes_before y x) n x y ys (graph.insert x ys) (place_same x y) (any_insert n x ys)

pub any_sort : (n : ℕ) (xs : List graph.Successor) → list_any (nat_eq n) (map place (graph.sort xs)) ≡ list_any (nat_eq n) (map place xs)
any_sort n [] = refl
any_sort n (x ∷ xs) = any_insert n x (graph.sort xs) ∙ ap (λ b. nat_eq n (place x) || b) (any_sort n xs)

rises_chosen : (b c : Bool) (x y : graph.Successor) (ys rest : List graph.Successor) → (b ≡ true → place x < place y) → (c ≡ true → place y < place x)
    → Rises (map place (y ∷ ys)) → Rises (map place rest)
    → ((n : ℕ) → list_any (nat_eq n) (map place rest) ≡ (nat_eq n (place x) || list_any (nat_eq n) (map place ys)))
    → Rises (map place (chosen b c x y ys rest))
rises_chosen true c x y ys rest less more r s m =
    (λ z h. let first = less refl in elim (in_cases z (place y) (map place ys) h) [ inl e ↦ omega arith | inr t ↦ (let u = r.0 z t in omega arith) ], r)
rises_chosen false true x y ys rest less more r s m = (
  λ z h.
      let first = more refl in
      elim (or_cases (nat_eq z (place x)) (list_any (nat_eq z) (map place ys)) (sym (m z) ∙ h)) [
        | inl e ↦ (let is : z ≡ place x = eqb-true z (place x) e in omega arith)
        | inr t ↦ r.0 z t
      ],
  s,
)
rises_chosen false false x y ys rest less more r s m = r

rises_insert : (x : graph.Successor) (ys : List graph.Successor) → Rises (map place ys) → Rises (map place (graph.insert x ys))
rises_insert x [] r = (λ z h. absurd (cc), r)
rises_insert x (y ∷ ys) r =
    rises_chosen (comes_before x y) (comes_before y x) x y ys (graph.insert x ys) (place_less x y) (place_less y x) r (rises_insert x ys r.1)
    (λ n. any_insert n x ys)

pub rises_sort : (xs : List graph.Successor) → Rises (map place (graph.sort xs))
rises_sort [] = tt
rises_sort (x ∷ xs) = rises_insert x (graph.sort xs) (rises_sort xs)

module _ {X : Type 0} (key : X → ℕ) where
  -- numbers without those that are the one before
  map_dedup_from : (x : X) (xs : List X) → map key (dedup_from (λ p q. key p == key q) x xs) ≡ dedup_from nat_eq (key x) (map key xs)
  map_dedup_from x [] = refl
  map_dedup_from x (y ∷ ys) =
      elim (key y == key x)
      as (λ b. map key (if b then dedup_from (λ p q. key p == key q) x ys else x ∷ dedup_from (λ p q. key p == key q) y ys)
      ≡ (if b then dedup_from nat_eq (key x) (map key ys) else key x ∷ dedup_from nat_eq (key y) (map key ys)))
      [ true ↦ map_dedup_from x ys | false ↦ ap (λ l. key x ∷ l) (map_dedup_from y ys) ]

  map_dedup : (xs : List X) → map key (dedup (λ p q. key p == key q) xs) ≡ dedup nat_eq (map key xs)
  map_dedup [] = refl
  map_dedup (x ∷ xs) = map_dedup_from x xs

-- no number is below the one before
abbrev pub Climbs : List ℕ → Type 0
Climbs [] = Unit {0}
Climbs (x ∷ xs) = ((y : ℕ) → list_any (nat_eq y) xs ≡ true → x ≤ y) × Climbs xs

any_step : (b : Bool) (z k x : ℕ) (xs with_k with_x : List ℕ) → (b ≡ true → x ≡ k)
    → list_any (nat_eq z) with_k ≡ (nat_eq z k || list_any (nat_eq z) xs) → list_any (nat_eq z) with_x ≡ (nat_eq z x || list_any (nat_eq z) xs)
    → list_any (nat_eq z) (if b then with_k else k ∷ with_x) ≡ (nat_eq z k || (nat_eq z x || list_any (nat_eq z) xs))
any_step true z k x xs with_k with_x same i j =
    i ∙ sym (or_twice (nat_eq z k) (list_any (nat_eq z) xs)) ∙ ap (λ w. nat_eq z k || (nat_eq z w || list_any (nat_eq z) xs)) (sym (same refl))
any_step false z k x xs with_k with_x same i j = ap (λ b. nat_eq z k || b) j

any_dedup_from : (z k : ℕ) (xs : List ℕ) → list_any (nat_eq z) (dedup_from nat_eq k xs) ≡ (nat_eq z k || list_any (nat_eq z) xs)
any_dedup_from z k [] = refl
any_dedup_from z k (x ∷ xs) =
    any_step (nat_eq x k) z k x xs (dedup_from nat_eq k xs) (dedup_from nat_eq x xs) (eqb-true x k) (any_dedup_from z k xs) (any_dedup_from z x xs)

any_dedup : (z : ℕ) (xs : List ℕ) → list_any (nat_eq z) (dedup nat_eq xs) ≡ list_any (nat_eq z) xs
any_dedup z [] = refl
any_dedup z (x ∷ xs) = any_dedup_from z x xs

rises_step : (b : Bool) (k x : ℕ) (with_k with_x : List ℕ) → (b ≡ false → k < x) → Rises with_k → Rises with_x
    → ((z : ℕ) → list_any (nat_eq z) with_x ≡ true → x ≤ z) → Rises (if b then with_k else k ∷ with_x)
rises_step true k x with_k with_x less r s above = r
rises_step false k x with_k with_x less r s above = (λ z h. let u = above z h in let v = less refl in omega arith, s)

apart : (k x : ℕ) → k ≤ x → nat_eq x k ≡ false → k < x
apart k x le ne = grind (arith, nat_tests)

rises_dedup_from : (k : ℕ) (xs : List ℕ) → Climbs (k ∷ xs) → Rises (dedup_from nat_eq k xs)
rises_dedup_from k [] c = (λ z h. absurd (cc), tt)
rises_dedup_from k (x ∷ xs) c =
    rises_step (nat_eq x k) k x (dedup_from nat_eq k xs) (dedup_from nat_eq x xs) (apart k x (c.0 x (head_in x xs)))
    (rises_dedup_from k xs (λ z h. c.0 z (tail_in z x xs h), c.1.1)) (rises_dedup_from x xs c.1)
    (λ z h. elim (or_cases (nat_eq z x) (list_any (nat_eq z) xs) (sym (any_dedup_from z x xs) ∙ h)) [
      | inl e ↦ (let is : z ≡ x = eqb-true z x e in omega arith)
      | inr t ↦ c.1.0 z t
    ])

rises_dedup : (xs : List ℕ) → Climbs xs → Rises (dedup nat_eq xs)
rises_dedup [] c = tt
rises_dedup (x ∷ xs) c = rises_dedup_from x xs c

above_first : {X : Type 0} (key : X → ℕ) (x : X) (xs : List X) → ((k : ℕ) → k < length xs → key x ≤ key (get_or xs k x)) → (y : ℕ) →
    list_any (nat_eq y) (map key xs) ≡ true → key x ≤ y
above_first key x [] up y h = absurd (cc)
above_first key x (z ∷ xs) up y h =
    elim (in_cases y (key z) (map key xs) h) [
      | inl e ↦ (let u : key x ≤ key z = up 0 (omega arith) in omega arith)
      | inr t ↦ above_first key x xs (λ k w. up (suc k) (omega arith)) y t
    ]

pub climbs : {X : Type 0} (key : X → ℕ) (xs : List X) → IsNonDecreasingBy key xs → Climbs (map key xs)
climbs key [] up = tt
climbs key (x ∷ xs) up =
    (above_first key x xs (λ k w. up 0 (suc k) x (omega arith) (omega arith)), climbs key xs (λ i j d le w. up (suc i) (suc j) d (omega arith) (omega arith)))

abbrev number : Successor → ℕ
number s = place (successor_of s)

-- successors that are sorted, each once, are the sorted ones
pub ordered_is : (narrow : Bool) (found kept moved left : List Successor) → kept ≡ filter (λ s. is_place narrow s.to) found → IsPermutation kept moved
    → IsNonDecreasingBy number moved → left ≡ dedup (λ x y. number x == number y) moved
    → map successor_of left ≡ graph.sort (filter (λ s. is_place narrow s.to) (map successor_of found))
ordered_is narrow found kept moved left is_kept permutation up is_left =
    let all = filter (λ s. is_place narrow s.to) (map successor_of found) in
    let numbers : map place (map successor_of left) ≡ dedup nat_eq (map number moved) = maps place successor_of left ∙ ap
    (map number) is_left ∙ map_dedup number moved in
    let kept_is : map number kept ≡ map place all = sym (maps place successor_of kept) ∙ ap
    (λ l. map place (map successor_of l)) is_kept ∙ ap (map place) (map_filter successor_of (λ s. is_place narrow s.to) found) in
    places_tell (map successor_of left) (graph.sort all)
    (unique (map place (map successor_of left)) (map place (graph.sort all))
    (subst Rises (sym numbers) (rises_dedup (map number moved) (climbs number moved up))) (rises_sort all)
    (λ z.
    ap (list_any (nat_eq z)) numbers ∙ any_dedup z (map number moved) ∙ any_map (nat_eq z) number moved
    ∙ sym (list_any-IsPermutation (λ s. nat_eq z (number s)) kept moved permutation) ∙ sym (any_map (nat_eq z) number kept) ∙ ap (list_any (nat_eq z)) kept_is
    ∙ sym (any_sort z all)))
