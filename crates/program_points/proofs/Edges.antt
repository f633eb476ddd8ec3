-- The ends of a row's edges are those that its successors, in order, give.
use Rattle.std.proofs.Common.{◌≡◌, ◌≢◌, ◌⊎◌, inl, inr, ℕ, zero, suc, ◌%◌, refl, ap, sym, ◌∙◌, subst, arith, List, [], ◌∷◌, ◌++◌, Option, Some, None, Bool, true, false}
use Rattle.std.specs.Prelude.{Contains, ◌==◌, ◌&&◌, not, if◌then◌else◌, map, filter}
use Rattle.std.proofs.lemmas.Bool.Decides.{nat_tests}
use Rattle.word_spec.specs.Words.{add}
use Rattle.machine_spec.specs.Machine.{Row, Successors, unit, is_place, IsAtPlace}
use Rattle.bilv_spec.specs.Run.{Program, named, some_of}
use Rattle.bilv_spec.specs.Points.{EdgeEnd, ToAddress, ToExit, edges, edges_by, edges_of, indirect_ends, return_ends, after_call, is_top, leads_on, distinct, file_row, file_word}
use Rattle.bilv_spec.specs.Points as points
use Rattle.bilv_spec.specs.Graph.{Letter, NextLetter, JumpLetter, CallLetter, ReturnLetter, Successor, successor, successors_of, successors_by, comes_before, insert, sort, successors_at, may_return, returns_by}
use Rattle.bilv_spec.proofs.PointSteps.{same_number, here, there, in_left, in_right, in_filter, in_map, in_edges}
use Rattle.bilv_spec.proofs.PointsInGraph.{split_in, of_distinct, of_filter, of_map, in_sort}
use Rattle.graph_nodes.specs.Graphs.{row_length}
use Rattle.program_points.specs.Listed.{HasOneWay}

-- an edge to an address with a stack, as successors say: back is the address behind a call
pub data IsEdge (narrow returns : Bool) (back : ℕ) (stack : List ℕ) (xs : List Successor) (s : List ℕ) (a : ℕ) : Type 0 where
  goes : Contains xs (successor NextLetter a) → s ≡ stack → IsEdge narrow returns back stack xs s a
  jumps : Contains xs (successor JumpLetter a) → (returns && is_top stack a) ≡ false → s ≡ stack → IsEdge narrow returns back stack xs s a
  calls : Contains xs (successor CallLetter a) → s ≡ back ∷ stack → IsEdge narrow returns back stack xs s a
  backs : returns ≡ true → stack ≡ a ∷ s → IsAtPlace narrow a → IsEdge narrow returns back stack xs s a

-- the same where each successor to the address is among others
pub moved : (narrow returns : Bool) (back : ℕ) (stack : List ℕ) (xs ys : List Successor) (s : List ℕ) (a : ℕ) →
    ((x : Successor) → x.to ≡ a → Contains xs x → Contains ys x)
    → IsEdge narrow returns back stack xs s a → IsEdge narrow returns back stack ys s a
moved narrow returns back stack xs ys s a f (goes h e) = goes (f (successor NextLetter a) refl h) e
moved narrow returns back stack xs ys s a f (jumps h t e) = jumps (f (successor JumpLetter a) refl h) t e
moved narrow returns back stack xs ys s a f (calls h e) = calls (f (successor CallLetter a) refl h) e
moved narrow returns back stack xs ys s a f (backs r e m) = backs r e m

-- the same by equal parts
pub same_edge : (m narrow r returns : Bool) (b back : ℕ) (stack : List ℕ) (xs ys : List Successor) (s : List ℕ) (a : ℕ) → m ≡ narrow → r ≡ returns → b ≡ back →
    xs ≡ ys → IsEdge m r b stack xs s a → IsEdge narrow returns back stack ys s a
same_edge m narrow r returns b back stack xs ys s a of_narrow of_returns of_back of_list e =
    subst (λ (z : List Successor). IsEdge narrow returns back stack z s a) of_list
    (subst (λ (z : ℕ). IsEdge narrow returns z stack xs s a) of_back
    (subst (λ (z : Bool). IsEdge narrow z b stack xs s a) of_returns (subst (λ (z : Bool). IsEdge z r b stack xs s a) of_narrow e)))

none_in : {X : Type 0} {P : Type 0} (x : X) → Contains [] x → P
none_in x (i, h, e) = absurd (omega arith)

only_in : {X : Type 0} (y x : X) → Contains (y ∷ []) x → y ≡ x
only_in y x (zero, h, e) = e
only_in y x (suc i, h, e) = absurd (omega arith)

abbrev stack_of : EdgeEnd → List ℕ
stack_of ToExit = []
stack_of (ToAddress s a) = s

abbrev at_of : EdgeEnd → ℕ
at_of ToExit = 0
at_of (ToAddress s a) = a

abbrev is_address : EdgeEnd → Bool
is_address ToExit = false
is_address (ToAddress s a) = true

-- what is in order was there
put_by : (x y : Successor) (ys zs : List Successor) (z : Successor) (b c : Bool) → (Contains zs z → (x ≡ z) ⊎ Contains ys z)
    → Contains (if b then x ∷ y ∷ ys else if c then y ∷ zs else y ∷ ys) z → (x ≡ z) ⊎ Contains (y ∷ ys) z
put_by x y ys zs z true c f (zero, h, e) = inl e
put_by x y ys zs z true c f (suc i, h, e) = inr (i, omega arith, e)
put_by x y ys zs z false true f (zero, h, e) = inr (0, omega arith, e)
put_by x y ys zs z false true f (suc i, h, e) = elim (f (i, omega arith, e)) [ inl q ↦ inl q | inr q ↦ inr (there y ys z q) ]
put_by x y ys zs z false false f h = inr h

of_insert : (x : Successor) (ys : List Successor) (z : Successor) → Contains (insert x ys) z → (x ≡ z) ⊎ Contains ys z
of_insert x [] z h = inl (only_in x z h)
of_insert x (y ∷ ys) z h = put_by x y ys (insert x ys) z (comes_before x y) (comes_before y x) (of_insert x ys z) h

of_sort : (xs : List Successor) (z : Successor) → Contains (sort xs) z → Contains xs z
of_sort [] z h = h
of_sort (x ∷ xs) z h = elim (of_insert x (sort xs) z h) [
  | inl e ↦ (0, omega arith, e)
  | inr q ↦ there x xs z (of_sort xs z q)
]

-- the parts of a row's successors, and of its ends
module _ (narrow next : Bool) (direct : Option ℕ) (indirect call : Bool) (names : List ℕ) (at length : ℕ) (stack : List ℕ) (one : indirect ≡ true →
    direct ≡ None) where
  abbrev letter : Bool → Letter
  letter c = if c then CallLetter else JumpLetter

  abbrev nexts : List Successor
  nexts = if next then successor NextLetter (add 32 at length) ∷ [] else []

  abbrev straight : List Successor
  straight = map (successor (letter call)) (some_of direct)

  abbrev through : List Successor
  through = if indirect then map (successor (letter call)) names else []

  abbrev behind : List Successor
  behind = if call then successor ReturnLetter (add 32 at length) ∷ [] else []

  abbrev all : List Successor
  all = nexts ++ straight ++ through ++ behind

  abbrev ends_direct : List EdgeEnd
  ends_direct = map (λ a. ToAddress (after_call call length at stack) a) (some_of direct)

  abbrev ends_through : List EdgeEnd
  ends_through = if indirect then indirect_ends call length at stack names else []

  abbrev ends_next : List EdgeEnd
  ends_next = if next then ToAddress stack (add 32 at length) ∷ [] else []

  abbrev ends : List EdgeEnd
  ends = ends_direct ++ ends_through ++ ends_next

  abbrev Edge : List ℕ → ℕ → Type 0
  Edge s a = IsEdge narrow (indirect && not call) (add 32 at length) stack all s a

  in_nexts : (x : Successor) → Contains nexts x → Contains all x
  in_nexts x h = in_left (nexts ++ straight ++ through) behind x (in_left (nexts ++ straight) through x (in_left nexts straight x h))

  in_straight : (x : Successor) → Contains straight x → Contains all x
  in_straight x h = in_left (nexts ++ straight ++ through) behind x (in_left (nexts ++ straight) through x (in_right nexts straight x h))

  in_through : (x : Successor) → Contains through x → Contains all x
  in_through x h = in_left (nexts ++ straight ++ through) behind x (in_right (nexts ++ straight) through x h)

  -- a successor of a jump or a call is an edge, where it is not the return
  lettered : (c : Bool) → call ≡ c → (a : ℕ) → Contains all (successor (letter call) a) → ((c ≡ false) → (indirect && not call && is_top stack a) ≡ false)
      → Edge (after_call c length at stack) a
  lettered true e a h t = calls (subst (λ (z : Bool). Contains all (successor (letter z) a)) e h) refl
  lettered false e a h t = jumps (subst (λ (z : Bool). Contains all (successor (letter z) a)) e h) (t refl) refl

  by_direct : (i : Bool) → indirect ≡ i → (a : ℕ) → Contains (some_of direct) a → Edge (after_call call length at stack) a
  by_direct true e a h = none_in a (subst (λ (o : Option ℕ). Contains (some_of o) a) (one e) h)
  by_direct false e a h =
      lettered call refl a (in_straight (successor (letter call) a) (in_map (successor (letter call)) (some_of direct) a h)) (λ n. ap (λ z. z && not call &&
      is_top stack a) e)

  by_named : indirect ≡ true → (a : ℕ) → Contains names a → ((call ≡ false) → is_top stack a ≡ false) → Edge (after_call call length at stack) a
  by_named e a h t =
      let g : Contains through (successor (letter call) a) =
      subst (λ (z : Bool). Contains (if z then map (successor (letter call)) names else []) (successor (letter call) a)) (sym e)
      (in_map (successor (letter call)) names a h) in
      lettered call refl a (in_through (successor (letter call) a) g) (λ n. ap (λ z. z && not call && is_top stack a) e ∙ ap (λ z. not z &&
      is_top stack a) n ∙ t n)

  back_edge : (l : List ℕ) → stack ≡ l → call ≡ false → indirect ≡ true → (s : List ℕ) (a : ℕ) → IsAtPlace narrow a → Contains (return_ends l) (ToAddress s a) → Edge s a
  back_edge [] e c i s a m h = absurd (let t = only_in ToExit (ToAddress s a) h in let u : false ≡ true = ap is_address t in cc)
  back_edge (top ∷ below) e c i s a m h =
      let t = only_in (ToAddress below top) (ToAddress s a) h in
      backs (ap (λ z. z && not call) i ∙ ap not c) (e ∙ ap (λ z. z ∷ below) (ap at_of t) ∙ ap (λ z. a ∷ z) (ap stack_of t)) m

  by_through : (c : Bool) → call ≡ c → indirect ≡ true → (s : List ℕ) (a : ℕ) → IsAtPlace narrow a → Contains (indirect_ends c length at stack names) (ToAddress s a) →
      Edge s a
  by_through true c i s a m h =
      let q = of_map (λ b. ToAddress (after_call true length at stack) b) names (ToAddress s a) h in
      subst (λ (z : List ℕ). Edge z a) (ap (λ z. after_call z length at stack) c ∙ ap stack_of q.2)
      (by_named i a (subst (λ (z : ℕ). Contains names z) (ap at_of q.2) q.1) (λ n. absurd (let t : true ≡ false = sym c ∙ n in cc)))
  by_through false c i s a m h =
      let rest : List ℕ = filter (λ b. not (is_top stack b)) names in
      elim (split_in (return_ends stack) (map (λ b. ToAddress stack b) rest) (ToAddress s a) h) [
        | inl g ↦ back_edge stack refl c i s a m g
        | inr g ↦ (let q = of_map (λ b. ToAddress stack b) rest (ToAddress s a) g in
            let r = of_filter (λ b. not (is_top stack b)) names a (subst (λ (z : ℕ). Contains rest z) (ap at_of q.2) q.1) in
            subst (λ (z : List ℕ). Edge z a) (ap (λ z. after_call z length at stack) c ∙ ap stack_of q.2) (by_named i a r.0 (λ n. unless (is_top stack a) r.1)))
      ]
    where
      unless : (b : Bool) → not b ≡ true → b ≡ false
      unless true e = absurd (cc)
      unless false e = refl

  through_by : (i : Bool) → indirect ≡ i → (s : List ℕ) (a : ℕ) → IsAtPlace narrow a →
      Contains (if i then indirect_ends call length at stack names else []) (ToAddress s a) → Edge s a
  through_by true i s a m h = by_through call refl i s a m h
  through_by false i s a m h = none_in (ToAddress s a) h

  next_by : (b : Bool) → next ≡ b → (s : List ℕ) (a : ℕ) → Contains (if b then ToAddress stack (add 32 at length) ∷ [] else []) (ToAddress s a) → Edge s a
  next_by false n s a h = none_in (ToAddress s a) h
  next_by true n s a h =
      let t = only_in (ToAddress stack (add 32 at length)) (ToAddress s a) h in
      let g : Contains (if true then successor NextLetter (add 32 at length)
      ∷ [] else []) (successor NextLetter a) = (0, omega arith, ap (successor NextLetter) (ap at_of t)) in
      goes (in_nexts (successor NextLetter a) (subst (λ (z : Bool). Contains (if z then successor NextLetter (add 32 at length)
      ∷ [] else []) (successor NextLetter a)) (sym n) g))
      (sym (ap stack_of t))

  -- each end is an edge
  pub to_edge : (s : List ℕ) (a : ℕ) → IsAtPlace narrow a → Contains ends (ToAddress s a) → Edge s a
  to_edge s a m h = elim (split_in (ends_direct ++ ends_through) ends_next (ToAddress s a) h) [
    | inr f ↦ next_by next refl s a f
    | inl j ↦ elim (split_in ends_direct ends_through (ToAddress s a) j) [
      | inl d ↦ (let q = of_map (λ b. ToAddress (after_call call length at stack) b) (some_of direct) (ToAddress s a) d in
          subst (λ (z : List ℕ). Edge z a) (ap stack_of q.2) (by_direct indirect refl a (subst (λ (z : ℕ). Contains (some_of direct) z) (ap at_of q.2) q.1)))
      | inr t ↦ through_by indirect refl s a m t
    ]
  ]

  -- where a successor comes from
  data Part (x : Successor) : Type 0 where
    of_next : next ≡ true → successor NextLetter (add 32 at length) ≡ x → Part x
    of_direct : (b : ℕ) → Contains (some_of direct) b → successor (letter call) b ≡ x → Part x
    of_named : indirect ≡ true → (b : ℕ) → Contains names b → successor (letter call) b ≡ x → Part x
    of_back : successor ReturnLetter (add 32 at length) ≡ x → Part x

  nexts_by : (b : Bool) → next ≡ b → (x : Successor) → Contains (if b then successor NextLetter (add 32 at length) ∷ [] else []) x → Part x
  nexts_by true n x h = of_next n (only_in (successor NextLetter (add 32 at length)) x h)
  nexts_by false n x h = none_in x h

  named_by : (b : Bool) → indirect ≡ b → (x : Successor) → Contains (if b then map (successor (letter call)) names else []) x → Part x
  named_by true n x h = let q = of_map (successor (letter call)) names x h in of_named n q.0 q.1 q.2
  named_by false n x h = none_in x h

  back_by : (b : Bool) → (x : Successor) → Contains (if b then successor ReturnLetter (add 32 at length) ∷ [] else []) x → Part x
  back_by true x h = of_back (only_in (successor ReturnLetter (add 32 at length)) x h)
  back_by false x h = none_in x h

  part : (x : Successor) → Contains all x → Part x
  part x h = elim (split_in (nexts ++ straight ++ through) behind x h) [
    | inr b ↦ back_by call x b
    | inl g ↦ elim (split_in (nexts ++ straight) through x g) [
      | inr t ↦ named_by indirect refl x t
      | inl f ↦ elim (split_in nexts straight x f) [
        | inl n ↦ nexts_by next refl x n
        | inr s ↦ (let q = of_map (successor (letter call)) (some_of direct) x s in of_direct q.0 q.1 q.2)
      ]
    ]
  ]

  abbrev letter_at : Successor → Letter
  letter_at x = x.letter

  abbrev to_at : Successor → ℕ
  to_at x = x.to

  end_direct : (a : ℕ) → Contains (some_of direct) a → Contains ends (ToAddress (after_call call length at stack) a)
  end_direct a h =
      let t : EdgeEnd = ToAddress (after_call call length at stack) a in
      in_left (ends_direct ++ ends_through) ends_next t (in_left ends_direct ends_through t (in_map
      (λ b. ToAddress (after_call call length at stack) b) (some_of direct) a h))

  end_through : (c : Bool) → call ≡ c → indirect ≡ true → (t : EdgeEnd) → Contains (indirect_ends c length at stack names) t → Contains ends t
  end_through c e i t h =
      in_left (ends_direct ++ ends_through) ends_next t (in_right ends_direct ends_through t
      (subst (λ (z : Bool). Contains (if z then indirect_ends call length at stack names else []) t) (sym i) (subst
      (λ (z : Bool). Contains (indirect_ends z length at stack names) t) (sym e) h)))

  end_named : (c : Bool) → call ≡ c → indirect ≡ true → (a : ℕ) → Contains names a → ((c ≡ false) → is_top stack a ≡ false) →
      Contains ends (ToAddress (after_call c length at stack) a)
  end_named true e i a h t = end_through true e i (ToAddress (after_call true length at stack) a) (in_map
      (λ b. ToAddress (after_call true length at stack) b) names a h)
  end_named false e i a h t =
      let rest : List ℕ = filter (λ b. not (is_top stack b)) names in
      end_through false e i (ToAddress stack a)
      (in_right (return_ends stack) (map (λ b. ToAddress stack b) rest) (ToAddress stack a)
      (in_map (λ b. ToAddress stack b) rest a (in_filter (λ b. not (is_top stack b)) names a h (ap not (t refl)))))

  other : (b : Bool) → letter b ≢ NextLetter
  other true r = (cc)
  other false r = (cc)

  no_back : (b : Bool) → ReturnLetter ≢ letter b
  no_back true r = (cc)
  no_back false r = (cc)

  of_letter : (c : Bool) → call ≡ c → (a : ℕ) → ((indirect && not c && is_top stack a) ≡ false) → Part (successor (letter c) a) →
      Contains ends (ToAddress (after_call c length at stack) a)
  of_letter c e a t (of_next n q) = absurd (other c (sym (ap letter_at q)))
  of_letter c e a t (of_direct b h q) =
      subst (λ (z : ℕ). Contains ends (ToAddress (after_call c length at stack) z)) (ap to_at q)
      (subst (λ (z : Bool). Contains ends (ToAddress (after_call z length at stack) b)) e (end_direct b h))
  of_letter c e a t (of_named i b h q) =
      end_named c e i a (subst (λ (z : ℕ). Contains names z) (ap to_at q) h)
      (λ n. sym (ap (λ z. z && not c && is_top stack a) i ∙ ap (λ z. not z && is_top stack a) n) ∙ t)
  of_letter c e a t (of_back q) = absurd (no_back c (ap letter_at q))

  of_goes : (a : ℕ) → Part (successor NextLetter a) → Contains ends (ToAddress stack a)
  of_goes a (of_next n q) =
      let g : Contains (if true then ToAddress stack (add 32 at length)
      ∷ [] else []) (ToAddress stack a) = (0, omega arith, ap (ToAddress stack) (ap to_at q)) in
      in_right (ends_direct ++ ends_through) ends_next (ToAddress stack a)
      (subst (λ (z : Bool). Contains (if z then ToAddress stack (add 32 at length) ∷ [] else []) (ToAddress stack a)) (sym n) g)
  of_goes a (of_direct b h q) = absurd (other call (ap letter_at q))
  of_goes a (of_named i b h q) = absurd (other call (ap letter_at q))
  of_goes a (of_back q) = absurd (let r : ReturnLetter ≡ NextLetter = ap letter_at q in cc)

  jumping : (c : Bool) → call ≡ c → (a : ℕ) → ((indirect && not call) && is_top stack a) ≡ false → Contains all (successor JumpLetter a) →
      Contains ends (ToAddress stack a)
  jumping false e a t h = of_letter false e a (ap (λ z. indirect && not z && is_top stack a) (sym e) ∙ t) (part (successor JumpLetter a) h)
  jumping true e a t h = absurd (no_jump (part (successor JumpLetter a) h))
    where
      no_jump : Part (successor JumpLetter a) → ⊥
      no_jump (of_next n q) = (let r : NextLetter ≡ JumpLetter = ap letter_at q in cc)
      no_jump (of_direct b g q) = (let r : CallLetter ≡ JumpLetter = ap letter (sym e) ∙ ap letter_at q in cc)
      no_jump (of_named i b g q) = (let r : CallLetter ≡ JumpLetter = ap letter (sym e) ∙ ap letter_at q in cc)
      no_jump (of_back q) = (let r : ReturnLetter ≡ JumpLetter = ap letter_at q in cc)

  calling : (c : Bool) → call ≡ c → (a : ℕ) → Contains all (successor CallLetter a) → Contains ends (ToAddress (add 32 at length ∷ stack) a)
  calling true e a h = of_letter true e a (never indirect) (part (successor CallLetter a) h)
    where
      never : (i : Bool) → (i && false && is_top stack a) ≡ false
      never true = refl
      never false = refl
  calling false e a h = absurd (no_call (part (successor CallLetter a) h))
    where
      no_call : Part (successor CallLetter a) → ⊥
      no_call (of_next n q) = (let r : NextLetter ≡ CallLetter = ap letter_at q in cc)
      no_call (of_direct b g q) = (let r : JumpLetter ≡ CallLetter = ap letter (sym e) ∙ ap letter_at q in cc)
      no_call (of_named i b g q) = (let r : JumpLetter ≡ CallLetter = ap letter (sym e) ∙ ap letter_at q in cc)
      no_call (of_back q) = (let r : ReturnLetter ≡ CallLetter = ap letter_at q in cc)

  returning : (i c : Bool) → indirect ≡ i → call ≡ c → (i && not c) ≡ true → (s : List ℕ) (a : ℕ) → stack ≡ a ∷ s → Contains ends (ToAddress s a)
  returning true true e f t s a h = absurd (cc)
  returning false c e f t s a h = absurd (cc)
  returning true false e f t s a h =
      let rest : List ℕ = filter (λ b. not (is_top stack b)) names in
      end_through false f e (ToAddress s a)
      (in_left (return_ends stack) (map (λ b. ToAddress stack b) rest) (ToAddress s a)
      (subst (λ (l : List ℕ). Contains (return_ends l) (ToAddress s a)) (sym h) (here (ToAddress s a) [])))

  -- each edge is an end
  pub of_edge : (s : List ℕ) (a : ℕ) → Edge s a → Contains ends (ToAddress s a)
  of_edge s a (goes h e) = subst (λ (z : List ℕ). Contains ends (ToAddress z a)) (sym e) (of_goes a (part (successor NextLetter a) h))
  of_edge s a (jumps h t e) = subst (λ (z : List ℕ). Contains ends (ToAddress z a)) (sym e) (jumping call refl a t h)
  of_edge s a (calls h e) = subst (λ (z : List ℕ). Contains ends (ToAddress z a)) (sym e) (calling call refl a h)
  of_edge s a (backs r e m) = returning indirect call refl refl r s a e

  -- going on leads to the next address with the same stack
  to_fall : (b : Bool) → next ≡ b → (s : List ℕ) (a : ℕ) → Contains (if b then ToAddress stack (add 32 at length) ∷ [] else []) (ToAddress s a) →
      (s ≡ stack) × Contains all (successor NextLetter a)
  to_fall false n s a h = none_in (ToAddress s a) h
  to_fall true n s a h =
      let t = only_in (ToAddress stack (add 32 at length)) (ToAddress s a) h in
      let g : Contains (if true then successor NextLetter (add 32 at length)
      ∷ [] else []) (successor NextLetter a) = (0, omega arith, ap (successor NextLetter) (ap at_of t)) in (
        sym (ap stack_of t),
        in_nexts (successor NextLetter a) (subst
            (λ (z : Bool). Contains (if z then successor NextLetter (add 32 at length) ∷ [] else []) (successor NextLetter a)) (sym n) g),
      )

  pub fall_to : (s : List ℕ) (a : ℕ) → Contains ends_next (ToAddress s a) → (s ≡ stack) × Contains all (successor NextLetter a)
  fall_to s a h = to_fall next refl s a h

  pub fall_of : (a : ℕ) → Contains all (successor NextLetter a) → Contains ends_next (ToAddress stack a)
  fall_of a h = elim (part (successor NextLetter a) h) [
    | of_next n q ↦
        let g : Contains (if true then ToAddress stack (add 32 at length)
        ∷ [] else []) (ToAddress stack a) = (0, omega arith, ap (ToAddress stack) (ap to_at q)) in
        subst (λ (z : Bool). Contains (if z then ToAddress stack (add 32 at length) ∷ [] else []) (ToAddress stack a)) (sym n) g
    | of_direct b g q ↦ absurd (other call (ap letter_at q))
    | of_named i b g q ↦ absurd (other call (ap letter_at q))
    | of_back q ↦ absurd (let r : ReturnLetter ≡ NextLetter = ap letter_at q in cc)
  ]

-- the letter is that of the next address
abbrev pub goes_on : Letter → Bool
goes_on NextLetter = true
goes_on JumpLetter = false
goes_on CallLetter = false
goes_on ReturnLetter = false

-- the successors by jumps, calls and returns
abbrev pub jumping_from : List Successor → List Successor
jumping_from xs = filter (λ x. not (goes_on x.letter)) xs

-- jumps alone: the same row without going on
module _ (narrow next : Bool) (direct : Option ℕ) (indirect call : Bool) (names : List ℕ) (at length : ℕ) (stack : List ℕ) (one : indirect ≡ true →
    direct ≡ None) where
  abbrev front : List Successor
  front = nexts narrow next direct indirect call names at length stack one

  abbrev middle : List Successor
  middle = straight narrow next direct indirect call names at length stack one

  abbrev named_ones : List Successor
  named_ones = through narrow next direct indirect call names at length stack one

  abbrev last : List Successor
  last = behind narrow next direct indirect call names at length stack one

  abbrev whole : List Successor
  whole = all narrow next direct indirect call names at length stack one

  abbrev alone : List Successor
  alone = all narrow false direct indirect call names at length stack one

  not_on : (b : Bool) → goes_on (if b then CallLetter else JumpLetter) ≡ false
  not_on true = refl
  not_on false = refl

  jumps_on : (x : Successor) → Part narrow false direct indirect call names at length stack one x → not (goes_on x.letter) ≡ true
  jumps_on x (of_next n q) = absurd (cc)
  jumps_on x (of_direct b h q) = ap (λ (z : Successor). not (goes_on z.letter)) (sym q) ∙ ap not (not_on call)
  jumps_on x (of_named i b h q) = ap (λ (z : Successor). not (goes_on z.letter)) (sym q) ∙ ap not (not_on call)
  jumps_on x (of_back q) = ap (λ (z : Successor). not (goes_on z.letter)) (sym q)

  alone_in : (x : Successor) → Contains alone x → Contains (jumping_from whole) x
  alone_in x h =
      in_filter (λ (y : Successor). not (goes_on y.letter)) whole x
      (elim (split_in (middle ++ named_ones) last x h) as (λ _. Contains whole x) [
        | inr b ↦ in_right (front ++ middle ++ named_ones) last x b
        | inl g ↦ in_left (front ++ middle ++ named_ones) last x (elim (split_in middle named_ones x g) as (λ _. Contains (front ++ middle ++ named_ones) x) [
          | inr t ↦ in_right (front ++ middle) named_ones x t
          | inl m ↦ in_left (front ++ middle) named_ones x (in_right front middle x m)
        ])
      ])
      (jumps_on x (part narrow false direct indirect call names at length stack one x h))

  going : (b : Bool) (x : Successor) → Contains (if b then successor NextLetter (add 32 at length) ∷ [] else []) x → goes_on x.letter ≡ true
  going true x h = ap (λ (z : Successor). goes_on z.letter) (sym (only_in (successor NextLetter (add 32 at length)) x h))
  going false x h = none_in x h

  in_alone : (x : Successor) → Contains (jumping_from whole) x → Contains alone x
  in_alone x h =
      let q = of_filter (λ (y : Successor). not (goes_on y.letter)) whole x h in
      elim (split_in (front ++ middle ++ named_ones) last x q.0) as (λ _. Contains alone x) [
        | inr b ↦ in_right (middle ++ named_ones) last x b
        | inl g ↦ in_left (middle ++ named_ones) last x (elim (split_in (front ++ middle) named_ones x g) as (λ _. Contains (middle ++ named_ones) x) [
          | inr t ↦ in_right middle named_ones x t
          | inl f ↦ in_left middle named_ones x (elim (split_in front middle x f) as (λ _. Contains middle x) [
            | inr m ↦ m
            | inl n ↦ absurd (let t = going next x n in let u : not (goes_on x.letter) ≡ true = q.1 in let v : not (goes_on x.letter) ≡ false = ap not t in cc)
          ])
        ])
      ]

  abbrev jump_list : List EdgeEnd
  jump_list = ends_direct narrow next direct indirect call names at length stack one ++ ends_through narrow next direct indirect call names at length stack one

  pub jump_to : (s : List ℕ) (a : ℕ) → IsAtPlace narrow a → Contains jump_list (ToAddress s a) →
      IsEdge narrow (indirect && not call) (add 32 at length) stack (jumping_from whole) s a
  jump_to s a m h =
      moved narrow (indirect && not call) (add 32 at length) stack alone (jumping_from whole) s a (λ x to i. alone_in x i)
      (to_edge narrow false direct indirect call names at length stack one s a m (in_left jump_list [] (ToAddress s a) h))

  pub jump_of : (s : List ℕ) (a : ℕ) → IsEdge narrow (indirect && not call) (add 32 at length) stack (jumping_from whole) s a → Contains jump_list (ToAddress s a)
  jump_of s a e =
      elim (split_in jump_list [] (ToAddress s a) (of_edge narrow false direct indirect call names at length stack one s a
      (moved narrow (indirect && not call) (add 32 at length) stack (jumping_from whole) alone s a (λ x to i. in_alone x i) e))) as
      (λ _. Contains jump_list (ToAddress s a)) [
        | inl j ↦ j
        | inr n ↦ none_in (ToAddress s a) n
      ]

-- a test of a number for 0
pub tests_zero : (x : ℕ) → x ≡ 0 → (x == 0) ≡ true
tests_zero x e = grind (arith, nat_tests)

module _ (p : Program) (way : HasOneWay p) (turns at : ℕ) (stack : List ℕ) where
  abbrev point : points.Point
  point = record { turns = turns; stack = stack; at = at }

  abbrev narrow : Bool
  narrow = p.machine.narrow

  -- the address behind the row
  abbrev back : ℕ
  back = add 32 at (row_length (file_row p at))

  abbrev PointEdge : List ℕ → ℕ → Type 0
  PointEdge s a = IsEdge narrow (may_return p at) back stack (successors_at p at) s a

  module _ (row : Row) (is : file_row p at ≡ Some row) where
    abbrev s : Successors
    s = row.successors at

    abbrev found : List Successor
    found = successors_of p at row s

    abbrev RowEdge : List ℕ → ℕ → Type 0
    RowEdge t a = IsEdge narrow (s.indirect && not s.call) (add 32 at row.length) stack found t a

    returns : may_return p at ≡ (s.indirect && not s.call)
    returns = ap (returns_by at) is

    back_is : add 32 at row.length ≡ back
    back_is = ap (λ (o : Option Row). add 32 at (row_length o)) (sym is)

    listed : (x : Successor) → IsAtPlace narrow x.to → Contains found x → Contains (successors_at p at) x
    listed x e h =
        subst (λ (z : Option Row). Contains (sort (successors_by p at z)) x) (sym is)
        (in_sort (filter (λ y. is_place narrow y.to) found) x (in_filter (λ y. is_place narrow y.to) found x h (tests_zero (x.to % unit narrow) e)))

    unlisted : (x : Successor) → Contains (successors_at p at) x → Contains found x × IsAtPlace narrow x.to
    unlisted x h =
        let q = of_filter (λ y. is_place narrow y.to) found x
        (of_sort (filter (λ y. is_place narrow y.to) found) x (subst (λ (z : Option Row). Contains (sort (successors_by p at z)) x) is h)) in
        (q.0, same_number (x.to % unit narrow) 0 q.1)

    jumping_more : (x : Successor) → IsAtPlace narrow x.to → Contains (jumping_from found) x → Contains (jumping_from (successors_at p at)) x
    jumping_more x m h =
        let q = of_filter (λ (y : Successor). not (goes_on y.letter)) found x h in in_filter
        (λ (y : Successor). not (goes_on y.letter)) (successors_at p at) x (listed x m q.0) q.1

    jumping_less : (x : Successor) → Contains (jumping_from (successors_at p at)) x → Contains (jumping_from found) x
    jumping_less x h =
        let q = of_filter (λ (y : Successor). not (goes_on y.letter)) (successors_at p at) x h in in_filter
        (λ (y : Successor). not (goes_on y.letter)) found x (unlisted x q.0).0 q.1

    -- the ends of jumps are those that the other successors give
    pub jump_from : (t : List ℕ) (a : ℕ) → IsAtPlace narrow a → Contains (points.jump_ends p point row s) (ToAddress t a)
        → IsEdge narrow (may_return p at) back stack (jumping_from (successors_at p at)) t a
    jump_from t a m h =
        same_edge narrow narrow (s.indirect && not s.call) (may_return p at) (add 32 at row.length) back stack (jumping_from (successors_at p at))
        (jumping_from (successors_at p at)) t a refl (sym returns) back_is refl
        (moved narrow (s.indirect && not s.call) (add 32 at row.length) stack (jumping_from found) (jumping_from (successors_at p at)) t a
        (λ x to i. jumping_more x (ap (λ z. z % unit narrow) to ∙ m) i)
        (jump_to narrow s.next s.direct s.indirect s.call (named p (file_word p) row at) at row.length stack (way.direct at row is) t a m h))

    pub jump_into : (t : List ℕ) (a : ℕ) → IsEdge narrow (may_return p at) back stack (jumping_from (successors_at p at)) t a
        → Contains (points.jump_ends p point row s) (ToAddress t a)
    jump_into t a e =
        jump_of narrow s.next s.direct s.indirect s.call (named p (file_word p) row at) at row.length stack (way.direct at row is) t a
        (same_edge narrow narrow (may_return p at) (s.indirect && not s.call) back (add 32 at row.length) stack (jumping_from found) (jumping_from found) t a refl
        returns (sym back_is) refl
        (moved narrow (may_return p at) back stack (jumping_from (successors_at p at)) (jumping_from found) t a (λ x to i. jumping_less x i) e))

    -- and the end of going on is the next address, with the same stack
    pub fall_from : (t : List ℕ) (a : ℕ) → IsAtPlace narrow a → Contains (points.fall_ends point row s) (ToAddress t a) → (t ≡ stack) ×
        Contains (successors_at p at) (successor NextLetter a)
    fall_from t a m h =
        let q = fall_to narrow s.next s.direct s.indirect s.call (named p (file_word p) row at) at row.length stack (way.direct at row is) t a h in
        (q.0, listed (successor NextLetter a) m q.1)

    pub fall_into : (t : List ℕ) (a : ℕ) → t ≡ stack → Contains (successors_at p at) (successor NextLetter a) →
        Contains (points.fall_ends point row s) (ToAddress t a)
    fall_into t a e h =
        subst (λ (z : List ℕ). Contains (points.fall_ends point row s) (ToAddress z a)) (sym e)
        (fall_of narrow s.next s.direct s.indirect s.call (named p (file_word p) row at) at row.length stack (way.direct at row is) a
        (unlisted (successor NextLetter a) h).0)

    row_edge : (t : List ℕ) (a : ℕ) → IsAtPlace narrow a → RowEdge t a → PointEdge t a
    row_edge t a m e =
        same_edge narrow narrow (s.indirect && not s.call) (may_return p at) (add 32 at row.length) back stack (successors_at p at) (successors_at p at) t a refl
        (sym returns) back_is refl
        (moved narrow (s.indirect && not s.call) (add 32 at row.length) stack found (successors_at p at) t a
        (λ x to h. listed x (ap (λ z. z % unit narrow) to ∙ m) h) e)

    edge_row : (t : List ℕ) (a : ℕ) → PointEdge t a → RowEdge t a
    edge_row t a e =
        same_edge narrow narrow (may_return p at) (s.indirect && not s.call) back (add 32 at row.length) stack found found t a refl returns (sym back_is) refl
        (moved narrow (may_return p at) back stack (successors_at p at) found t a (λ x to h. (unlisted x h).0) e)

    edge_aligned : (t : List ℕ) (a : ℕ) → PointEdge t a → IsAtPlace narrow a
    edge_aligned t a (goes h e) = (unlisted (successor NextLetter a) h).1
    edge_aligned t a (jumps h r e) = (unlisted (successor JumpLetter a) h).1
    edge_aligned t a (calls h e) = (unlisted (successor CallLetter a) h).1
    edge_aligned t a (backs r e m) = m

    row_to : (t : List ℕ) (a : ℕ) → Contains (edges p point) (ToAddress t a) → PointEdge t a
    row_to t a h =
        let all : List EdgeEnd = edges_of p point row s in
        let g = subst (λ (z : Option Row). Contains (distinct (filter (leads_on narrow) (edges_by p point z))) (ToAddress t a)) is h in
        let q = of_filter (leads_on narrow) all (ToAddress t a) (of_distinct (filter (leads_on narrow) all) (ToAddress t a) g) in
        let m = same_number (a % unit narrow) 0 q.1 in
        row_edge t a m (to_edge narrow s.next s.direct s.indirect s.call (named p (file_word p) row at) at row.length stack (way.direct at row is) t a m q.0)

    row_of : (t : List ℕ) (a : ℕ) → PointEdge t a → Contains (edges p point) (ToAddress t a)
    row_of t a e =
        in_edges p row turns at stack is (ToAddress t a) (tests_zero (a % unit narrow) (edge_aligned t a e))
        (of_edge narrow s.next s.direct s.indirect s.call (named p (file_word p) row at) at row.length stack (way.direct at row is) t a (edge_row t a e))

  by_row : (o : Option Row) → file_row p at ≡ o → (t : List ℕ) (a : ℕ) → Contains (edges p point) (ToAddress t a) → PointEdge t a
  by_row None is t a h = none_in (ToAddress t a) (subst (λ (z : Option Row). Contains (distinct (filter (leads_on narrow) (edges_by p point z))) (ToAddress t a)) is h)
  by_row (Some row) is t a h = row_to row is t a h

  nothing_listed : file_row p at ≡ None → (x : Successor) → ¬ Contains (successors_at p at) x
  nothing_listed is x h = none_in x (subst (λ (z : Option Row). Contains (sort (successors_by p at z)) x) is h)

  nowhere : file_row p at ≡ None → (t : List ℕ) (a : ℕ) → PointEdge t a → ⊥
  nowhere is t a (goes h e) = nothing_listed is (successor NextLetter a) h
  nowhere is t a (jumps h r e) = nothing_listed is (successor JumpLetter a) h
  nowhere is t a (calls h e) = nothing_listed is (successor CallLetter a) h
  nowhere is t a (backs r e m) = (let q : false ≡ true = sym (ap (returns_by at) is) ∙ r in cc)

  of_row : (o : Option Row) → file_row p at ≡ o → (t : List ℕ) (a : ℕ) → PointEdge t a → Contains (edges p point) (ToAddress t a)
  of_row None is t a e = absurd (nowhere is t a e)
  of_row (Some row) is t a e = row_of row is t a e

  -- the edges of a point to addresses are those that the successors of its address give
  pub edge_from : (t : List ℕ) (a : ℕ) → Contains (edges p point) (ToAddress t a) → PointEdge t a
  edge_from t a h = by_row (file_row p at) refl t a h

  pub edge_to : (t : List ℕ) (a : ℕ) → PointEdge t a → Contains (edges p point) (ToAddress t a)
  edge_to t a e = of_row (file_row p at) refl t a e
