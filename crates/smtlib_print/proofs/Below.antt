-- The order of points in scripts is that of lists of numbers.
use Rattle.std.proofs.Common.{◌≡◌, ℕ, refl, ap, sym, ◌∙◌, arith, Bool, true, false, List, [], ◌∷◌, length, is_lt}
use Rattle.std.specs.Prelude.{◌==◌, ◌&&◌, ◌||◌, not, nat_lt}
use Rattle.std.specs.Cmp.Lexicographic.{slice_cmp}
use Rattle.std.specs.Ordering.{nat_cmp, ordering_then, ordering_reverse}
use Rattle.std.specs.Str.{bytes_eq}
use Rattle.std.specs.declared.cmp.Ordering.{Ordering}
use Rattle.std.specs.declared.cmp.Ordering.TheVariants.{Less, Equal, Greater}
use Rattle.std.proofs.lemmas.Bool.Decides.{nat_tests}
use Rattle.std.proofs.lemmas.Cmp.{nat_list_cmp_total, tied_itself}
use Rattle.std.proofs.lemmas.Map.Lookups.{exact_bytes}
use Rattle.word_spec.specs.Words.{bit}
use Rattle.bilv_spec.specs.Scripts.{is_below_from_end, is_stack_below}
use Rattle.frame_spec.specs.FramePoints.{Anchor, AtEntry, AtHead, Point}
use Rattle.frame_spec.specs.FrameScripts.{is_anchor_below, is_frame_point_below, is_same_anchor}
use Rattle.smtlib_print.specs.Orders.{anchor_key, from_bottom, point_key, point_order, spot_key}

-- numbers in order, the first ones deciding
first_decides : (a b : ℕ) (o : Ordering) → is_lt (ordering_then (nat_cmp a b) o) ≡ (nat_lt a b || ((a == b) && is_lt o))
first_decides a b o = by (nat_cmp a b) refl
  where
    by : (c : Ordering) → nat_cmp a b ≡ c → is_lt (ordering_then (nat_cmp a b) o) ≡ (nat_lt a b || ((a == b) && is_lt o))
    by Less e = (let l : nat_lt a b ≡ true = grind (arith, nat_tests) in rw (e, l) refl)
    by Equal e = (let l : nat_lt a b ≡ false = grind (arith, nat_tests) in let q : (a == b) ≡ true = grind (arith, nat_tests) in rw (e, l, q) refl)
    by Greater e = (let l : nat_lt a b ≡ false = grind (arith, nat_tests) in let q : (a == b) ≡ false = grind (arith, nat_tests) in rw (e, l, q) refl)

regroup : (p q l e x : Bool) → (p || (q && (l || (e && x)))) ≡ ((p || (q && l)) || ((e && q) && x))
regroup true q l e x = refl
regroup false true true e x = refl
regroup false true false true x = refl
regroup false true false false x = refl
regroup false false l true x = refl
regroup false false l false x = refl

-- stacks that have as many addresses are compared from the bottom, and then what stands behind
from_bottom_decides : (s t u v : List ℕ) → length s ≡ length t →
    is_lt (slice_cmp nat_cmp (from_bottom s u) (from_bottom t v)) ≡ (is_below_from_end s t || (bytes_eq s t && is_lt (slice_cmp nat_cmp u v)))
from_bottom_decides [] [] u v h = refl
from_bottom_decides [] (b ∷ t) u v h = absurd (omega (arith, h))
from_bottom_decides (a ∷ s) [] u v h = absurd (omega (arith, h))
from_bottom_decides (a ∷ s) (b ∷ t) u v h =
    from_bottom_decides s t (a ∷ u) (b ∷ v) (omega (arith, h))
    ∙ ap (λ z. is_below_from_end s t || (bytes_eq s t && z)) (first_decides a b (slice_cmp nat_cmp u v))
    ∙ regroup (is_below_from_end s t) (bytes_eq s t) (nat_lt a b) (a == b) (is_lt (slice_cmp nat_cmp u v))

unequal_length : (s t : List ℕ) → (length s == length t) ≡ false → bytes_eq s t ≡ false
unequal_length [] [] h = absurd (let q : (0 == 0) ≡ true = refl in cc)
unequal_length [] (b ∷ t) h = refl
unequal_length (a ∷ s) [] h = refl
unequal_length (a ∷ s) (b ∷ t) h =
    let q : (length s == length t) ≡ false = grind (arith, nat_tests) in rw (unequal_length s t q) (none (a == b))
  where
    none : (b : Bool) → (b && false) ≡ false
    none true = refl
    none false = refl

-- one decides, or two are the same and another decides
abbrev Decides : (o below same next : Bool) → Type 0
Decides o below same next = o ≡ (below || (same && next))

-- stacks with an address each
abbrev spot_below : (s : List ℕ) → (a : ℕ) → (t : List ℕ) → (b : ℕ) → Bool
spot_below s a t b = is_stack_below s t || (bytes_eq s t && nat_lt a b)

abbrev same_spot : (s : List ℕ) → (a : ℕ) → (t : List ℕ) → (b : ℕ) → Bool
same_spot s a t b = bytes_eq s t && (a == b)

equal_by : (p q x n z : Bool) → (p || (q && (x || (n && z)))) ≡ ((p || (q && x)) || ((q && n) && z))
equal_by true q x n z = refl
equal_by false true x n z = refl
equal_by false false x n z = refl

or_nothing : (l : Bool) → (l || false) ≡ ((l || false) || false)
or_nothing true = refl
or_nothing false = refl

spot_decides_by : (s : List ℕ) (a : ℕ) (t : List ℕ) (b : ℕ) (u v : List ℕ) (same : Bool) → (length s == length t) ≡ same →
    Decides (is_lt (slice_cmp nat_cmp (spot_key s a u) (spot_key t b v))) (spot_below s a t b) (same_spot s a t b) (is_lt (slice_cmp nat_cmp u v))
spot_decides_by s a t b u v true h =
    let e : length s ≡ length t = grind (arith, nat_tests) in
    let l : nat_lt (length s) (length t) ≡ false = grind (arith, nat_tests) in
    first_decides (length s) (length t) _
    ∙ rw (h, l) (from_bottom_decides s t (a ∷ u) (b ∷ v) e
    ∙ ap (λ z. is_below_from_end s t || (bytes_eq s t && z)) (first_decides a b (slice_cmp nat_cmp u v))
    ∙ equal_by (is_below_from_end s t) (bytes_eq s t) (nat_lt a b) (a == b) (is_lt (slice_cmp nat_cmp u v)))
spot_decides_by s a t b u v false h =
    first_decides (length s) (length t) _ ∙ rw (h, unequal_length s t h) (or_nothing (nat_lt (length s) (length t)) ∙ plain (nat_lt (length s) (length t)))
  where
    plain : (p : Bool) → ((p || false) || false) ≡ (((p || false) || false) || false)
    plain true = refl
    plain false = refl

spot_decides : (s : List ℕ) (a : ℕ) (t : List ℕ) (b : ℕ) (u v : List ℕ) →
    Decides (is_lt (slice_cmp nat_cmp (spot_key s a u) (spot_key t b v))) (spot_below s a t b) (same_spot s a t b) (is_lt (slice_cmp nat_cmp u v))
spot_decides s a t b u v = spot_decides_by s a t b u v (length s == length t) refl

-- anchors
anchor_decides : (x y : Anchor) (u v : List ℕ) →
    Decides (is_lt (slice_cmp nat_cmp (anchor_key x u) (anchor_key y v))) (is_anchor_below x y) (is_same_anchor x y) (is_lt (slice_cmp nat_cmp u v))
anchor_decides AtEntry AtEntry u v = refl
anchor_decides AtEntry (AtHead t b) u v = refl
anchor_decides (AtHead s a) AtEntry u v = refl
anchor_decides (AtHead s a) (AtHead t b) u v = spot_decides s a t b u v

contract_decides : (b c : Bool) → is_lt (slice_cmp nat_cmp (bit b ∷ []) (bit c ∷ [])) ≡ (not b && c)
contract_decides false false = refl
contract_decides false true = refl
contract_decides true false = refl
contract_decides true true = refl

-- the order of scripts is that of keys
pub order_is : (x y : Point) → is_lt (point_order x y) ≡ is_frame_point_below x y
order_is x y =
    let u = bit x.contract ∷ [] in
    let v = bit y.contract ∷ [] in
    let below = spot_below x.stack x.at y.stack y.at in
    let same = same_spot x.stack x.at y.stack y.at in
    anchor_decides x.anchor y.anchor (x.turns ∷ spot_key x.stack x.at u) (y.turns ∷ spot_key y.stack y.at v)
    ∙ ap (λ z. is_anchor_below x.anchor y.anchor || (is_same_anchor x.anchor y.anchor && z))
    (first_decides x.turns y.turns (slice_cmp nat_cmp (spot_key x.stack x.at u) (spot_key y.stack y.at v))
    ∙ ap (λ z. nat_lt x.turns y.turns || ((x.turns == y.turns) && z))
    (spot_decides x.stack x.at y.stack y.at u v ∙ ap (λ z. below || (same && z)) (contract_decides x.contract y.contract))
    ∙ equal_by (nat_lt x.turns y.turns) (x.turns == y.turns) below same (not x.contract && y.contract))

-- no point is below itself
pub frame_point_itself : (q : Point) → is_frame_point_below q q ≡ false
frame_point_itself q = sym (order_is q q) ∙ ap is_lt (tied_itself nat_list_cmp_total (point_key q))

-- points with one key are one
heads : (a b : ℕ) (s t : List ℕ) → a ∷ s ≡ b ∷ t → (a ≡ b) × (s ≡ t)
heads a b s t e = ((cc), (cc))

bottom_same : (s t u v : List ℕ) → length s ≡ length t → from_bottom s u ≡ from_bottom t v → (s ≡ t) × (u ≡ v)
bottom_same [] [] u v h e = (refl, e)
bottom_same [] (b ∷ t) u v h e = absurd (omega (arith, h))
bottom_same (a ∷ s) [] u v h e = absurd (omega (arith, h))
bottom_same (a ∷ s) (b ∷ t) u v h e =
    let q = bottom_same s t (a ∷ u) (b ∷ v) (omega (arith, h)) e in
    let r = heads a b u v q.1 in
    (let z : a ∷ s ≡ b ∷ s = ap (λ c. c ∷ s) r.0 in z ∙ ap (λ c. b ∷ c) q.0, r.1)

spots_same : (s : List ℕ) (a : ℕ) (t : List ℕ) (b : ℕ) (u v : List ℕ) → spot_key s a u ≡ spot_key t b v → (s ≡ t) × (a ≡ b) × (u ≡ v)
spots_same s a t b u v e =
    let h = heads (length s) (length t) (from_bottom s (a ∷ u)) (from_bottom t (b ∷ v)) e in
    let c = bottom_same s t (a ∷ u) (b ∷ v) h.0 h.1 in
    let d = heads a b u v c.1 in (c.0, d.0, d.1)

anchors_same : (x y : Anchor) (u v : List ℕ) → anchor_key x u ≡ anchor_key y v → (x ≡ y) × (u ≡ v)
anchors_same AtEntry AtEntry u v e = (refl, (heads 0 0 u v e).1)
anchors_same AtEntry (AtHead t b) u v e = absurd (let z : 0 ≡ 1 = (heads 0 1 u (spot_key t b v) e).0 in omega arith)
anchors_same (AtHead s a) AtEntry u v e = absurd (let z : 1 ≡ 0 = (heads 1 0 (spot_key s a u) v e).0 in omega arith)
anchors_same (AtHead s a) (AtHead t b) u v e =
    let q = spots_same s a t b u v (heads 1 1 (spot_key s a u) (spot_key t b v) e).1 in
    (ap (λ z. AtHead z a) q.0 ∙ ap (λ z. AtHead t z) q.1, q.2)

-- the point of its parts
abbrev made : Anchor → (turns : ℕ) → Bool → (stack : List ℕ) → (at : ℕ) → Point
made anchor turns contract stack at = record { anchor = anchor; turns = turns; contract = contract; stack = stack; at = at }

contracts_same : (b c : Bool) → bit b ≡ bit c → b ≡ c
contracts_same false false e = refl
contracts_same false true e = absurd (omega (arith, e))
contracts_same true false e = absurd (omega (arith, e))
contracts_same true true e = refl

keys_same : (x y : Point) → point_key x ≡ point_key y → x ≡ y
keys_same x y e =
    let u = bit x.contract ∷ [] in
    let v = bit y.contract ∷ [] in
    let q = anchors_same x.anchor y.anchor (x.turns ∷ spot_key x.stack x.at u) (y.turns ∷ spot_key y.stack y.at v) e in
    let t = heads x.turns y.turns (spot_key x.stack x.at u) (spot_key y.stack y.at v) q.1 in
    let p = spots_same x.stack x.at y.stack y.at u v t.1 in
    let c = contracts_same x.contract y.contract (heads (bit x.contract) (bit y.contract) [] [] p.2).0 in
    ap (λ z. made z x.turns x.contract x.stack x.at) q.0 ∙ ap (λ z. made y.anchor z x.contract x.stack x.at) t.0
    ∙ ap (λ z. made y.anchor y.turns z x.stack x.at) c ∙ ap (λ z. made y.anchor y.turns y.contract z x.at) p.0
    ∙ ap (λ z. made y.anchor y.turns y.contract y.stack z) p.1

-- a point that is not above another one, and is not that one, is below it
pub below_by_order : (x y : Point) → is_lt (point_order y x) ≡ false → (x ≡ y → ⊥) → is_frame_point_below x y ≡ true
below_by_order x y h other = by (point_order x y) refl
  where
    by : (o : Ordering) → point_order x y ≡ o → is_frame_point_below x y ≡ true
    by Less e = sym (order_is x y) ∙ ap is_lt e
    by Equal e = absurd (other (keys_same x y (exact_bytes (point_key x) (point_key y) e)))
    by Greater e = absurd (let t : true ≡ false = sym (ap (λ o. is_lt (ordering_reverse o)) e)
        ∙ sym (ap is_lt (nat_list_cmp_total.antisymm (point_key y) (point_key x))) ∙ h in cc)
