-- The descent: what is found, and the nodes of it.
use Rattle.std.proofs.Common.{◌≡◌, inl, inr, ℕ, zero, suc, ◌+◌, ◌-◌, ◌<◌, ◌≤◌, ◌^◌, refl, ap, sym, ◌∙◌, subst, arith, List, [], ◌∷◌, ◌++◌, length, get_or, map, take, Bool, true, false}
use Rattle.std.specs.Prelude.{nat_eq, ◌==◌, ◌||◌, if◌then◌else◌, Contains, All}
use Rattle.std.specs.List.{list_any, IsDistinct}
use Rattle.std.specs.List.Sorted.{IsPermutation, IsNonDecreasingBy}
use Rattle.std.specs.Ordering.{nat_cmp, is_eq}
use Rattle.std.specs.Cmp.{nat_eq_equiv}
use Rattle.std.specs.BTreeSet.{BTreeSet, contains}
use Rattle.std.proofs.lemmas.Bool.{eqb-true}
use Rattle.std.proofs.lemmas.Bool.Decides.{nat_tests}
use Rattle.std.proofs.Math.ListN.{length-append}
use Rattle.std.proofs.lemmas.List.{length-map, map-append}
use Rattle.std.proofs.lemmas.List.Elements.{All-push, All-weaker, All-head, All-tail}
use Rattle.std.proofs.lemmas.List.Folds.{list_any-append, list_any_more}
use Rattle.std.proofs.lemmas.List.Sorted.{IsPermutation-map, All-permutation, list_any-IsPermutation}
use Rattle.std.proofs.lemmas.Map.Keys.{IsDistinct-push, IsDistinct-IsPermutation, apart_from_distinct, IsDistinct-from_apart}
use Rattle.std.proofs.lemmas.Map.Steps.{length-le_from_distinct_below}
use Rattle.bilv_spec.specs.Run.{Program}
use Rattle.bilv_spec.specs.Graph as graph
use Rattle.bilv_spec.specs.Graph.{IsAddress, successors_at}
use Rattle.bilv_spec.specs.LiveFlags.{ensures_flag}
use Rattle.graph_nodes.specs.declared.nodes.Successor.{Successor}
use Rattle.graph_nodes.specs.declared.nodes.Node.{Node}
use Rattle.graph_nodes.specs.declared.nodes.Graph.{Graph}
use Rattle.graph_nodes.specs.Graphs.{IsNode, IsGraph, IsFlagSet, addresses_of, successor_of}
use Rattle.flow_graph.specs.Walks.{IsSeen, IsMore, IsWhole, IsAddressFrom, entry, other, listed, IsGraphFrom}
use Rattle.flow_graph.proofs.Members.{same_truth, or_cases, or_left, or_right, any_map, maps, place_in, at_in, in_cases, head_in, tail_in}
use Rattle.flow_graph.proofs.Orders.{Climbs, climbs}
use Rattle.flow_graph.proofs.FlagSets.{take_whole}

-- the addresses of so many of the items are through
pub record Finding {X : Type 0} (f : X → ℕ) (old : List ℕ) (items : List X) (i : ℕ) (found : List ℕ) (seen : BTreeSet ℕ) : Type 0 where
  pub seen_is : IsSeen found seen
  pub rest : List ℕ
  pub begins : found ≡ old ++ rest
  pub any : (a : ℕ) → list_any (nat_eq a) found ≡ (list_any (nat_eq a) old || list_any (λ s. nat_eq a (f s)) (take i items))

or_false : (b : Bool) → b ≡ (b || false)
or_false true = refl
or_false false = refl

append_nil : {X : Type 0} (xs : List X) → xs ≡ xs ++ []
append_nil [] = refl
append_nil (x ∷ xs) = ap (λ l. x ∷ l) (append_nil xs)

assoc : {X : Type 0} (xs ys zs : List X) → (xs ++ ys) ++ zs ≡ xs ++ (ys ++ zs)
assoc [] ys zs = refl
assoc (x ∷ xs) ys zs = ap (λ l. x ∷ l) (assoc xs ys zs)

pub finding_none : {X : Type 0} (f : X → ℕ) (old : List ℕ) (items : List X) (seen : BTreeSet ℕ) → IsSeen old seen → Finding f old items 0 old seen
finding_none f old items seen is = record { seen_is = is; rest = []; begins = append_nil old; any = λ a. or_false (list_any (nat_eq a) old) }

pub finding_all : {X : Type 0} (f : X → ℕ) (old : List ℕ) (items : List X) (i : ℕ) (found : List ℕ) (seen : BTreeSet ℕ) → length items ≤ i →
    Finding f old items i found seen → IsMore old (map f items) found
finding_all f old items i found seen le w = record {
  rest = w.rest;
  begins = w.begins;
  any = λ a.
      w.any a
      ∙ ap (λ l. list_any (nat_eq a) old || list_any (λ s. nat_eq a (f s)) l) (take_whole items i le)
      ∙ ap (λ b. list_any (nat_eq a) old || b) (sym (any_map (nat_eq a) f items));
}

or_three : (a b c : Bool) → ((a || b) || c) ≡ (a || (b || c))
or_three true b c = refl
or_three false b c = refl

had : (a x : ℕ) (found : List ℕ) → list_any (nat_eq x) found ≡ true → list_any (nat_eq a) found ≡ (list_any (nat_eq a) found || nat_eq a x)
had a x found h =
    same_truth (list_any (nat_eq a) found) (list_any (nat_eq a) found || nat_eq a x) (or_left (list_any (nat_eq a) found) (nat_eq a x))
    (λ p. elim (or_cases (list_any (nat_eq a) found) (nat_eq a x) p) [
      | inl q ↦ q
      | inr q ↦ subst
          (λ z. list_any (nat_eq z) found ≡ true) (sym (eqb-true a x q)) h
    ])

either : (b c : Bool) → (if b then true else c) ≡ (c || (b || false))
either true true = refl
either true false = refl
either false true = refl
either false false = refl

equal_flips : (x a : ℕ) → is_eq (nat_cmp x a) ≡ (a == x)
equal_flips x a = grind (arith, nat_tests)

-- one more address is seen
seen_push : (found : List ℕ) (seen more : BTreeSet ℕ) (x : ℕ) → x < 2 ^ 32 → contains nat_cmp seen x ≡ false
    → ((q : ℕ) → contains nat_cmp more q ≡ (if is_eq (nat_cmp x q) then true else contains nat_cmp seen q)) → IsSeen found seen → IsSeen (found ++ x ∷ []) more
seen_push found seen more x word new updates is = record {
  has = λ a.
      updates a ∙ ap (λ b. if is_eq (nat_cmp x a) then true else b) (is.has a) ∙ ap (λ b. if b then true else list_any (nat_eq a) found) (equal_flips x a)
      ∙ either (nat_eq a x) (list_any (nat_eq a) found) ∙ sym (list_any-append (nat_eq a) found (x ∷ []));
  distinct = IsDistinct-push nat_eq_equiv found x is.distinct (sym (is.has x) ∙ new);
  words = λ a h.
      elim (or_cases (list_any (nat_eq a) found) (list_any (nat_eq a) (x ∷ [])) (sym (list_any-append (nat_eq a) found (x ∷ [])) ∙ h)) [
        | inl q ↦ is.words a q
        | inr q ↦ elim (in_cases a x [] q) [ inl e ↦ subst (λ z. z < 2 ^ 32) (sym e) word | inr none ↦ absurd (cc) ]
      ];
}

-- an address that is found already
pub find_had : (found : List ℕ) (seen : BTreeSet ℕ) (x : ℕ) → contains nat_cmp seen x ≡ true → IsSeen found seen → IsMore found (x ∷ []) found
find_had found seen x h is = record {
  rest = [];
  begins = append_nil found;
  any = λ a. had a x found (sym (is.has x) ∙ h) ∙ ap (λ b. list_any (nat_eq a) found || b) (or_false (nat_eq a x));
}

-- one that is new
pub find_new : (found new : List ℕ) (seen more : BTreeSet ℕ) (x : ℕ) → x < 2 ^ 32 → contains nat_cmp seen x ≡ false
    → ((q : ℕ) → contains nat_cmp more q ≡ (if is_eq (nat_cmp x q) then true else contains nat_cmp seen q)) → new ≡ found ++ x ∷ [] → IsSeen found seen
    → IsSeen new more × IsMore found (x ∷ []) new
find_new found new seen more x word is_new updates grown is = (
  subst (λ l. IsSeen l more) (sym grown) (seen_push found seen more x word is_new updates is),
  record { rest = x ∷ []; begins = grown; any = λ a. ap (list_any (nat_eq a)) grown ∙ list_any-append (nat_eq a) found (x ∷ []) },
)

-- the address of one item more
pub finding_more : {X : Type 0} (f : X → ℕ) (old : List ℕ) (items : List X) (i x : ℕ) (s : X) (found new : List ℕ) (seen more : BTreeSet ℕ)
    → i < length items → x ≡ f (get_or items i s) → IsSeen new more → IsMore found (x ∷ []) new → Finding f old items i found seen
    → Finding f old items (i + 1) new more
finding_more f old items i x s found new seen more fits here is wider w = record {
  seen_is = is;
  rest = w.rest ++ wider.rest;
  begins = wider.begins ∙ ap (λ l. l ++ wider.rest) w.begins ∙ assoc old w.rest wider.rest;
  any = λ a.
      wider.any a
      ∙ ap (λ b. list_any (nat_eq a) found || b) (sym (or_false (nat_eq a x)))
      ∙ ap (λ b. b || nat_eq a x) (w.any a)
      ∙ or_three (list_any (nat_eq a) old) (list_any (λ t. nat_eq a (f t)) (take i items)) (nat_eq a x)
      ∙ ap (λ y. list_any (nat_eq a) old || (list_any (λ t. nat_eq a (f t)) (take i items) || nat_eq a y)) here
      ∙ ap (λ b. list_any (nat_eq a) old || b) (sym (list_any_more (λ t. nat_eq a (f t)) items i s fits));
}

-- the entry is found
pub seen_first : (none seen : BTreeSet ℕ) (x : ℕ) (found : List ℕ) → x < 2 ^ 32 → ((q : ℕ) → contains nat_cmp none q ≡ false)
    → ((q : ℕ) → contains nat_cmp seen q ≡ (if is_eq (nat_cmp x q) then true else contains nat_cmp none q)) → found ≡ x ∷ [] → IsSeen found seen
seen_first none seen x found word empty updates e =
    subst (λ l. IsSeen l seen) (sym e)
    (seen_push [] none seen x word (empty x) updates
    (record { has = λ a. empty a; distinct = IsDistinct-from_apart nat_eq [] (λ i j d l w. absurd (omega arith)); words = λ a h. absurd (cc) }))

-- no more addresses are found than there are
pub seen_small : (found : List ℕ) (seen : BTreeSet ℕ) → IsSeen found seen → length found ≤ 2 ^ 32
seen_small found seen is = length-le_from_distinct_below found (2 ^ 32) is.distinct is.words

pub grown_length : {X : Type 0} (xs ys : List X) (x : X) → ys ≡ xs ++ x ∷ [] → length ys ≡ length xs + 1
grown_length xs ys x e = ap length e ∙ length-append xs (x ∷ [])

-- the nodes that are missing get fewer
pub falls : (count more found : ℕ) → more ≡ count + 1 → count < found → found ≤ 2 ^ 32 → 2 ^ 32 - more < 2 ^ 32 - count
falls count more found e lt le = omega arith

-- the nodes are those of the first addresses that are found, and what they lead to is found
pub record Walk (p : Program) (others found : List ℕ) (seen : BTreeSet ℕ) (nodes : List Node) : Type 0 where
  pub seen_is : IsSeen found seen
  pub first : (a : ℕ) → list_any (nat_eq a) (p.entry ∷ others) ≡ true → list_any (nat_eq a) found ≡ true
  pub reached : (a : ℕ) → list_any (nat_eq a) found ≡ true → IsAddressFrom p others a
  pub rest : List ℕ
  pub begins : found ≡ map (λ n. n.at) nodes ++ rest
  pub each : All (λ n. IsNode p n) nodes
  pub stay : All (λ n. n.keeps ≡ n.flags.assigns) nodes
  pub closed : All (λ n. (x : graph.Successor) → Contains (successors_at p n.at) x → list_any (nat_eq x.to) found ≡ true) nodes

-- an image of items is that of one of them
pub from_images : {X : Type 0} (f : X → ℕ) (a : ℕ) (xs : List X) → list_any (nat_eq a) (map f xs) ≡ true → (x : X) × Contains xs x × (f x ≡ a)
from_images f a [] h = absurd (cc)
from_images f a (x ∷ xs) h = elim (in_cases a (f x) (map f xs) h) [
  | inl e ↦ (x, (0, omega arith, refl), sym e)
  | inr t ↦ (let q = from_images f a xs t in (q.0, (suc q.1.0, (let w = q.1.1 in omega arith), q.1.2), q.2))
]

pub to_images : {X : Type 0} (f : X → ℕ) (x : X) (xs : List X) → Contains xs x → list_any (nat_eq (f x)) (map f xs) ≡ true
to_images f x [] (k, w, e) = absurd (omega arith)
to_images f x (y ∷ ys) (zero, w, e) = subst (λ z. list_any (nat_eq (f x)) (f z ∷ map f ys) ≡ true) (sym e) (head_in (f x) (map f ys))
to_images f x (y ∷ ys) (suc k, w, e) = tail_in (f x) (f y) (map f ys) (to_images f x ys (k, omega arith, e))

at_end : (xs : List ℕ) (r : ℕ) (rs : List ℕ) (d : ℕ) → get_or (xs ++ r ∷ rs) (length xs) d ≡ r
at_end [] r rs d = refl
at_end (x ∷ xs) r rs d = at_end xs r rs d

more_left : (xs rest : List ℕ) → length xs < length (xs ++ rest) → (r : ℕ) × (rs : List ℕ) × (rest ≡ r ∷ rs)
more_left [] [] h = absurd (omega arith)
more_left [] (r ∷ rs) h = (r, rs, refl)
more_left (x ∷ xs) rest h = more_left xs rest (omega arith)

none_left : (xs rest : List ℕ) → length (xs ++ rest) ≤ length xs → rest ≡ []
none_left [] [] h = refl
none_left [] (r ∷ rs) h = absurd (omega arith)
none_left (x ∷ xs) rest h = none_left xs rest (omega arith)

-- a node of an address among those of nodes
node_at : (Q : Node → Type 0) (nodes : List Node) (b : ℕ) → list_any (nat_eq b) (map (λ n. n.at) nodes) ≡ true → All Q nodes → (n : Node) × (n.at ≡ b) × Q n
node_at Q [] b h all = absurd (cc)
node_at Q (n ∷ nodes) b h all = elim (in_cases b n.at (map (λ m. m.at) nodes) h) [
  | inl e ↦ (n, sym e, All-head Q n nodes all)
  | inr t ↦ node_at Q nodes b t (All-tail Q n nodes all)
]

-- the members of a list
pub has_of : (a : ℕ) (xs : List ℕ) → list_any (nat_eq a) xs ≡ true → Contains xs a
has_of a xs h = (let q = place_in a xs h in (q.0, q.1, q.2))

pub of_has : (a : ℕ) (xs : List ℕ) → Contains xs a → list_any (nat_eq a) xs ≡ true
of_has a xs (k, w, e) = at_in a xs k a w e

module _ (p : Program) (others : List ℕ) where
  root_of : (a : ℕ) → list_any (nat_eq a) (p.entry ∷ others) ≡ true → IsAddressFrom p others a
  root_of a h = elim (in_cases a p.entry others h) as (λ _. IsAddressFrom p others a) [
    | inl q ↦ subst (λ z. IsAddressFrom p others z) (sym q) entry
    | inr more ↦ other (has_of a others more)
  ]

  -- the roots are found
  pub walk_first : (first found : List ℕ) (seen : BTreeSet ℕ) (nodes : List Node) → IsSeen found seen → first ≡ p.entry ∷ [] → IsMore first others found →
      nodes ≡ [] → Walk p others found seen nodes
  walk_first first found seen nodes is e more f = record {
    seen_is = is;
    first = λ a h. roots_are a ∙ h;
    reached = λ a h. root_of a (sym (roots_are a) ∙ h);
    rest = found;
    begins = ap (λ (l : List Node). map (λ n. n.at) l ++ found) (sym f);
    each = subst (λ l. All (λ n. IsNode p n) l) (sym f) (λ k d w. absurd (omega arith));
    stay = subst (λ (l : List Node). All (λ n. n.keeps ≡ n.flags.assigns) l) (sym f) (λ k d w. absurd (omega arith));
    closed =
        subst (λ (l : List Node). All (λ n. (x : graph.Successor) → Contains (successors_at p n.at) x → list_any (nat_eq x.to) found ≡ true) l) (sym f)
        (λ k d w. absurd (omega arith));
  }
    where
      roots_are : (a : ℕ) → list_any (nat_eq a) found ≡ list_any (nat_eq a) (p.entry ∷ others)
      roots_are a =
          more.any a ∙ ap (λ l. list_any (nat_eq a) l || list_any (nat_eq a) others) e
          ∙ ap (λ b. b || list_any (nat_eq a) others) (sym (or_false (nat_eq a p.entry)))

  -- one more node
  module _ (found new : List ℕ) (seen more : BTreeSet ℕ) (nodes grown : List Node) (n : Node) (d : ℕ) (fits : length nodes < length found) (at : n.at
      ≡ get_or found (length nodes) d)
      (is : IsNode p n) (wider : IsMore found (map (λ s. s.to) n.successors.items) new) (w : Walk p others found seen nodes) where
    places : List ℕ
    places = map (λ m. m.at) nodes

    next_left : (r : ℕ) × (rs : List ℕ) × (w.rest ≡ r ∷ rs)
    unfolding places
    next_left = more_left places w.rest (let a = ap length w.begins in let b = length-map nodes (λ (m : Node). m.at) in omega arith)

    next_is : n.at ≡ next_left.0
    unfolding places
    next_is =
        at
        ∙ ap (λ l. get_or l (length nodes) d) (w.begins ∙ ap (λ l. places ++ l) next_left.2)
        ∙ ap (λ k. get_or (places ++ next_left.0 ∷ next_left.1) k d) (sym (length-map nodes (λ (m : Node). m.at)))
        ∙ at_end places next_left.0 next_left.1 d

    targets_are : map (λ (s : Successor). s.to) n.successors.items ≡ map (λ (x : graph.Successor). x.to) (successors_at p n.at)
    targets_are = sym (maps (λ (x : graph.Successor). x.to) successor_of n.successors.items) ∙ ap (map (λ (x : graph.Successor). x.to)) is.successors

    reaches : (a : ℕ) → list_any (nat_eq a) new ≡ true → IsAddressFrom p others a
    reaches a h =
        elim (or_cases (list_any (nat_eq a) found) (list_any (nat_eq a) (map (λ (s : Successor). s.to) n.successors.items)) (sym (wider.any a) ∙ h)) [
          | inl q ↦ w.reached a q
          | inr q ↦
              (let t = from_images (λ (x : graph.Successor). x.to) a (successors_at p n.at) (sym (ap (list_any (nat_eq a)) targets_are) ∙ q) in
              subst (λ z. IsAddressFrom p others z) t.2 (listed (w.reached n.at (at_in n.at found (length nodes) d fits (sym at))) t.1))
        ]

    begins_more : grown ≡ nodes ++ n ∷ [] → new ≡ map (λ m. m.at) grown ++ (next_left.1 ++ wider.rest)
    unfolding places
    begins_more is_grown =
        wider.begins
        ∙ ap (λ l. l ++ wider.rest) (w.begins ∙ ap (λ l. places ++ l) next_left.2)
        ∙ assoc places (next_left.0 ∷ next_left.1) wider.rest
        ∙ ap (λ r. places ++ r ∷ (next_left.1 ++ wider.rest)) (sym next_is)
        ∙ sym (assoc places (n.at ∷ []) (next_left.1 ++ wider.rest))
        ∙ ap (λ l. l ++ (next_left.1 ++ wider.rest)) (sym (map-append (λ (m : Node). m.at) nodes (n ∷ [])))
        ∙ ap (λ (l : List Node). map (λ m. m.at) l ++ (next_left.1 ++ wider.rest)) (sym is_grown)

    pub walk_more : IsSeen new more → n.keeps ≡ n.flags.assigns → grown ≡ nodes ++ n ∷ [] → Walk p others new more grown
    walk_more seen_is stays is_grown = record {
      seen_is = seen_is;
      first = λ a h.
          wider.any a ∙ or_left (list_any (nat_eq a) found) (list_any (nat_eq a) (map (λ (s : Successor). s.to) n.successors.items)) (w.first a h);
      reached = reaches;
      rest = next_left.1 ++ wider.rest;
      begins = begins_more is_grown;
      each = subst (λ l. All (λ m. IsNode p m) l) (sym is_grown) (All-push (λ m. IsNode p m) nodes n w.each is);
      stay =
          subst (λ (l : List Node). All (λ m. m.keeps ≡ m.flags.assigns) l) (sym is_grown)
          (All-push (λ (m : Node). m.keeps ≡ m.flags.assigns) nodes n w.stay stays);
      closed =
          subst (λ (l : List Node). All (λ m. (x : graph.Successor) → Contains (successors_at p m.at) x → list_any (nat_eq x.to) new ≡ true) l) (sym is_grown)
          (All-push (λ (m : Node). (x : graph.Successor) → Contains (successors_at p m.at) x → list_any (nat_eq x.to) new ≡ true) nodes n
          (All-weaker (λ (m : Node). (x : graph.Successor) → Contains (successors_at p m.at) x → list_any (nat_eq x.to) found ≡ true)
          (λ (m : Node). (x : graph.Successor) → Contains (successors_at p m.at) x → list_any (nat_eq x.to) new ≡ true)
          (λ m c x h. wider.any x.to ∙ or_left (list_any (nat_eq x.to) found) (list_any (nat_eq x.to) (map (λ (s : Successor). s.to) n.successors.items))
          (c x h)) nodes w.closed)
          (λ x h.
          wider.any x.to
          ∙ or_right (list_any (nat_eq x.to) found) (list_any (nat_eq x.to) (map (λ (s : Successor). s.to) n.successors.items))
          (ap (list_any (nat_eq x.to)) targets_are ∙ to_images (λ (y : graph.Successor). y.to) x (successors_at p n.at) h)));
    }

  -- when all that is found has its node
  module _ (found : List ℕ) (seen : BTreeSet ℕ) (nodes : List Node) (le : length found ≤ length nodes) (w : Walk p others found seen nodes) where
    found_is : found ≡ map (λ n. n.at) nodes
    found_is =
        w.begins
        ∙ ap (λ l. map (λ (n : Node). n.at) nodes ++ l)
        (none_left (map (λ (n : Node). n.at) nodes) w.rest (let a = ap length w.begins in let b = length-map nodes (λ (m : Node). m.at) in omega arith))
        ∙ sym (append_nil (map (λ (n : Node). n.at) nodes))

    complete : (a : ℕ) → IsAddressFrom p others a → list_any (nat_eq a) found ≡ true
    complete a entry = w.first a (head_in a others)
    complete a (other h) = w.first a (tail_in a p.entry others (of_has a others h))
    complete to (listed {a} {x} h c) =
        let in_nodes : list_any (nat_eq a) (map (λ (n : Node). n.at) nodes) ≡ true = sym (ap (list_any (nat_eq a)) found_is) ∙ complete a h in
        let n = node_at (λ (m : Node). (y : graph.Successor) → Contains (successors_at p m.at) y →
        list_any (nat_eq y.to) found ≡ true) nodes a in_nodes w.closed in
        n.2 x (subst (λ z. Contains (successors_at p z) x) (sym n.1) c)

    pub walk_whole : IsWhole p others nodes
    walk_whole = record {
      all = λ a. (λ h. w.reached a (ap (list_any (nat_eq a)) found_is ∙ h), λ i. sym (ap (list_any (nat_eq a)) found_is) ∙ complete a i);
      distinct = subst (λ l. IsDistinct nat_eq l) found_is w.seen_is.distinct;
      each = w.each;
      stay = w.stay;
    }

climbs_far : (xs : List ℕ) → Climbs xs → (i j : ℕ) → i < j → j < length xs → get_or xs i 0 ≤ get_or xs j 0
climbs_far [] c i j lt w = absurd (omega arith)
climbs_far (x ∷ xs) c zero zero lt w = absurd (omega arith)
climbs_far (x ∷ xs) c zero (suc j) lt w = c.0 (get_or xs j 0) (at_in (get_or xs j 0) xs j 0 (omega arith) refl)
climbs_far (x ∷ xs) c (suc i) zero lt w = absurd (omega arith)
climbs_far (x ∷ xs) c (suc i) (suc j) lt w = climbs_far xs c.1 i j (omega arith) (omega arith)

apart : (a b : ℕ) → a ≤ b → nat_eq a b ≡ false → a < b
apart a b le ne = grind (arith, nat_tests)

-- all nodes, by rising addresses, are the graph
pub whole_graph : (p : Program) (others : List ℕ) (nodes : List Node) (g : Graph) → IsWhole p others nodes → IsPermutation nodes g.nodes.items →
    IsNonDecreasingBy (λ n. n.at) g.nodes.items
    → g.narrow ≡ p.machine.narrow → IsFlagSet g.ensured (λ f. ensures_flag p f) → IsGraphFrom p others g
whole_graph p others nodes g whole moved rising narrow ensured =
    let sorted = g.nodes.items in
    let same : (a : ℕ) → list_any (nat_eq a) (addresses_of g) ≡ list_any (nat_eq a) (map (λ (n : Node). n.at) nodes) =
    λ a.
    any_map (nat_eq a) (λ (n : Node). n.at) sorted ∙ sym (list_any-IsPermutation (λ (n : Node). nat_eq a n.at) nodes sorted moved)
    ∙ sym (any_map (nat_eq a) (λ (n : Node). n.at) nodes) in
    let distinct : IsDistinct nat_eq (addresses_of g) =
    IsDistinct-IsPermutation nat_eq nat_eq_equiv.symm (map (λ (n : Node). n.at) nodes) (addresses_of g) (IsPermutation-map
    (λ (n : Node). n.at) nodes sorted moved) whole.distinct in
    record {
      narrow = narrow;
      all = λ a. (
        λ has. (whole.all a).0 (sym (same a) ∙ of_has a (addresses_of g) has),
        λ i. has_of a (addresses_of g) (same a ∙ (whole.all a).1 i),
      );
      rising = λ i j lt w.
          let fits : j < length (addresses_of g) = rw (length-map sorted (λ (n : Node). n.at)) w in
          apart (get_or (addresses_of g) i 0) (get_or (addresses_of g) j 0) (climbs_far (addresses_of g) (climbs
          (λ (n : Node). n.at) sorted rising) i j lt fits)
          (apart_from_distinct nat_eq (addresses_of g) i j 0 distinct lt fits);
      nodes = All-permutation (λ n. IsNode p n) nodes sorted moved whole.each;
      ensured = ensured;
    }

-- with no other root it is the program's graph
only_entry : (p : Program) (a : ℕ) → IsAddressFrom p [] a → IsAddress p a
only_entry p a entry = graph.entry
only_entry p a (other (k, w, e)) = absurd (omega arith)
only_entry p a (listed h c) = graph.listed (only_entry p _ h) c

from_entry : (p : Program) (a : ℕ) → IsAddress p a → IsAddressFrom p [] a
from_entry p a graph.entry = entry
from_entry p a (graph.listed h c) = listed (from_entry p _ h) c

pub alone_graph : (p : Program) (g : Graph) → IsGraphFrom p [] g → IsGraph p g
alone_graph p g is = record {
  narrow = is.narrow;
  all = λ a. (λ has. only_entry p a ((is.all a).0 has), λ at. (is.all a).1 (from_entry p a at));
  rising = is.rising;
  nodes = is.nodes;
  ensured = is.ensured;
}
