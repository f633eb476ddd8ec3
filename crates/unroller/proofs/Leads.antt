-- The edges of the point of a number, by its ends, are those that a frame has at its place.
use Rattle.std.proofs.Common.{◌≡◌, ◌≢◌, inl, inr, refl, ap, sym, ◌∙◌, subst, arith, ℕ, zero, suc, ◌+◌, ◌<◌, ◌≤◌, Bool, true, false, Option, Some, None, List, [], ◌∷◌, ◌++◌, length, get_or, map}
use Rattle.std.specs.Prelude.{Contains, ◌↔◌, ◌==◌, ◌&&◌, ◌||◌, not, nat_le, slice_get, if◌then◌else◌}
use Rattle.std.specs.List.{AllZip}
use Rattle.std.specs.BTreeMap.{BTreeMap}
use Rattle.std.proofs.lemmas.Bool.Decides.{nat_tests}
use Rattle.std.proofs.lemmas.Bool.{cases_lt}
use Rattle.std.proofs.lemmas.List.{get_or_default}
use Rattle.machine_spec.specs.Machine.{Row}
use Rattle.bilv_spec.specs.Points.{EdgeEnd, ToAddress, ToExit}
use Rattle.bilv_spec.proofs.Pigeons.{Once, no_longer}
use Rattle.bilv_spec.proofs.PointSteps.{there, in_map, in_right}
use Rattle.bilv_spec.proofs.PointsInGraph.{of_map, split_in}
use Rattle.frame_spec.specs.Frames.{Frame, is_head}
use Rattle.frame_spec.specs.FramePoints as spec
use Rattle.frame_spec.specs.FramePoints.{AtHead, IsPoint, next, first_of, is_contract_end, is_cut, end_of, point_to, turns_to, frame_edges}
use Rattle.frame_spec.specs.FrameUnrolling.{IsAim, IsEdge, AreAlong, checks_at, falls_to, jumps_to}
use Rattle.frame_spec.specs.FrameWalk as walk
use Rattle.frame_spec.specs.FrameWalk.{Along, point_at}
use Rattle.program_points.specs.declared.values.Frame as stack
use Rattle.program_points.specs.declared.values.End.{End}
use Rattle.program_points.specs.Tables as tables
use Rattle.program_points.specs.Tables.{end, is_stepped, stack_at, listed, IsTable}
use Rattle.program_points.proofs.Stacked.{one_number}
use Rattle.question_form.specs.declared.unrolled.Aim.{Aim}
use Rattle.question_form.specs.declared.unrolled.Aim.TheVariants.{OnTo, IntoHead, Outward, OverLast}
use Rattle.question_form.specs.declared.unrolled.Edge.{Edge}
use Rattle.question_form.specs.declared.unrolled.Unrolled.{Unrolled}
use Rattle.question_form.specs.FrameViews.{aim_of, checks_between, edge_of, frame_unrolled_of}
use Rattle.unroller.specs.Keys.{key_of, root_of, turns_of, address_of, stack_of, contract_of, target_key, anchor_by, point_of, IsAimAt, AreKeys, AreSegments}
use Rattle.unroller.specs.Led.{is_same, is_among, is_both, is_next_key, exit_edge, IsLedTo, AreLed}
use Rattle.unroller.specs.Places.{IsGroup}
use Rattle.unroller.proofs.CutHeads.{both_ways, right_true}
use Rattle.known_bytes.proofs.Ordered.{rises}
use Rattle.unroller.proofs.Numbered.{address_is, contract_is, root_is, stack_is, turns_is}
use Rattle.unroller.proofs.SameKeys.{same_key}

same_is : (e d : End) → is_same e d ≡ true → e ≡ d
same_is e d h =
    let s : e.stack ≡ d.stack = grind (arith, nat_tests) in
    let a : e.at ≡ d.at = grind (arith, nat_tests) in
    ap (λ (z : ℕ). let r : End = record { stack = z; at = e.at } in r) s ∙ ap (λ (z : ℕ). let r : End = record { stack = d.stack; at = z } in r) a

same_self : (e : End) → is_same e e ≡ true
same_self e = grind (arith, nat_tests)

among_by : (x other : End) (xs : List End) (b : Bool) → is_same x other ≡ b → (is_among xs other ≡ true → Contains xs other) → (b || is_among xs other) ≡ true →
    Contains (x ∷ xs) other
among_by x other xs true e g h = (0, omega arith, same_is x other e)
among_by x other xs false e g h = there x xs other (g h)

among_in : (xs : List End) (other : End) → is_among xs other ≡ true → Contains xs other
among_in [] other h = absurd (cc)
among_in (x ∷ xs) other h = among_by x other xs (is_same x other) refl (among_in xs other) h

in_among : (xs : List End) (other : End) → Contains xs other → is_among xs other ≡ true
in_among [] other (i, w, e) = absurd (omega arith)
in_among (x ∷ xs) other (zero, w, e) = ap (λ (z : End). is_same z other || is_among xs other) e ∙ ap (λ (b : Bool). b || is_among xs other) (same_self other)
in_among (x ∷ xs) other (suc i, w, e) = right_true (is_same x other) (is_among xs other) (in_among xs other (i, omega arith, e))

-- the jump's way, by cases of the end by going on
jump_bool : (among falls both : Bool) → (falls ≡ true → both ≡ among) → (falls ≡ false → among ≡ true) → (not falls || both) ≡ among
jump_bool among true both h g = h refl
jump_bool among false both h g = sym (g refl)

-- the number of an end is above that of its point
above : (own : ℕ) (e : End) (step : Bool) → e.at < 4294967296 → e.stack < 2147483648 → turns_of own ≤ 4096 →
    own < key_of (root_of own) (if nat_le e.at (address_of own) then turns_of own + 1 else turns_of own) e.at e.stack step
above own e step h s t = by (nat_le e.at (address_of own)) refl step
  where
    by : (b : Bool) → nat_le e.at (address_of own) ≡ b → (step : Bool) →
        own < key_of (root_of own) (if b then turns_of own + 1 else turns_of own) e.at e.stack step
    by true q true = omega arith
    by true q false = omega arith
    by false q true = let up : address_of own < e.at = grind (arith, nat_tests) in omega arith
    by false q false = let up : address_of own < e.at = grind (arith, nat_tests) in omega arith

turn_small : (b : Bool) (t : ℕ) → t ≤ 4096 → (if b then t + 1 else t) < 4294967296
turn_small true t h = omega arith
turn_small false t h = omega arith

pub and_parts : (a b : Bool) → (a && b) ≡ true → (a ≡ true) × (b ≡ true)
and_parts true b h = (refl, h)
and_parts false b h = absurd (cc)

pub and_true : (a b : Bool) → a ≡ true → b ≡ true → (a && b) ≡ true
and_true true b h g = g
and_true false b h g = absurd (cc)

next_listed : (o : Option End) (key : ℕ) (e : End) → address_of key ≡ e.at → stack_of key ≡ e.stack → is_next_key o key ≡ true → o ≡ Some e
next_listed None key e a s h = absurd (cc)
next_listed (Some d) key e a s h =
    let q = and_parts (d.at == address_of key) (d.stack == stack_of key) h in
    let at : d.at ≡ e.at = (let z : d.at ≡ address_of key = (let y = q.0 in grind (arith, nat_tests)) in z ∙ a) in
    let stack : d.stack ≡ e.stack = (let z : d.stack ≡ stack_of key = (let y = q.1 in grind (arith, nat_tests)) in z ∙ s) in
    ap (λ (z : ℕ). let r : End = record { stack = z; at = d.at } in Some r) stack ∙ ap
    (λ (z : ℕ). let r : End = record { stack = e.stack; at = z } in Some r) at

listed_next : (o : Option End) (key : ℕ) (e : End) → address_of key ≡ e.at → stack_of key ≡ e.stack → Contains (listed o) e → is_next_key o key ≡ true
listed_next None key e a s (i, w, q) = absurd (omega arith)
listed_next (Some d) key e a s (zero, w, q) =
    let at : d.at ≡ address_of key = ap (λ (z : End). z.at) q ∙ sym a in
    let stack : d.stack ≡ stack_of key = ap (λ (z : End). z.stack) q ∙ sym s in
    and_true (d.at == address_of key) (d.stack == stack_of key) (grind (arith, nat_tests)) (grind (arith, nat_tests))
listed_next (Some d) key e a s (suc i, w, q) = absurd (omega arith)

in_listed : (o : Option End) (e : End) → o ≡ Some e → Contains (listed o) e
in_listed None e h = absurd (cc)
in_listed (Some d) e h = (0, omega arith, (cc))

none_of : (a b : Bool) → (a && false && b) ≡ false
none_of true b = refl
none_of false b = refl

-- the edges of the point of a number, by its ends
module _ (f : Frame) (k : ℕ) (frames : List stack.Frame) (numbers : BTreeMap (ℕ × ℕ) ℕ) (heads stepped : List ℕ) (asserts : List (ℕ × ℕ))
    (segments keys : List ℕ) (own i : ℕ) (row : Option Row) (linked : Option ℕ) (jumps : List End) (next_end : Option End) (exits : Bool)
    (cuts : (a : ℕ) → is_head f a ≡ tables.is_among heads a) (table : IsTable frames numbers) (few : length frames < 2147483648) (k_low : k ≤ 4096)
    (segs : AreSegments f k frames segments) (are : AreKeys f k frames segments keys) (within : i < length keys) (place : get_or keys i 0 ≡ own) (u : Unrolled)
    (size : length (frame_unrolled_of u).points ≡ length keys)
    (points : (j : ℕ) → j < length keys → (point_at (frame_unrolled_of u) j).point ≡ point_of frames segments (get_or keys j 0))
    (lines : (a : ℕ) (bounds : ℕ × ℕ) → IsGroup asserts a bounds → checks_between u bounds ≡ checks_at f a) (led : List Edge)
    (leads : AreLed heads stepped asserts keys own linked jumps next_end exits led) where
  abbrev all : List End
  all = jumps ++ listed next_end

  abbrev q : spec.Point
  q = point_of frames segments own

  abbrev end_at : End → EdgeEnd
  end_at e = ToAddress (stack_at frames e.stack) e.at

  abbrev end_key : ℕ → EdgeEnd
  end_key key = ToAddress (stack_at frames (stack_of key)) (address_of key)

  -- what is known of the ends: they are those of the point's edges, and are taken as those are
  pub record AreEnds : Type 0 where
    pub in_edges : (e : End) → Contains all e → Contains (frame_edges f q) (end_at e)
    pub edge_all : (s : List ℕ) (a : ℕ) → Contains (frame_edges f q) (ToAddress s a) →
        (e : End) × Contains all e × (stack_at frames e.stack ≡ s) × (e.at ≡ a)
    pub low : (e : End) → Contains all e → e.stack ≤ length frames
    pub next_small : (e : End) → Contains (listed next_end) e → e.at < 4294967296
    pub step : (e : End) → Contains all e → is_contract_end f q (stack_at frames e.stack) e.at ≡ is_stepped stepped linked e
    pub falls : (e : End) → Contains all e → (falls_to row q (end_at e) ≡ true) ↔ Contains (listed next_end) e
    pub jumped : (e : End) → Contains all e → (jumps_to f row q (end_at e) ≡ true) ↔ Contains jumps e
    pub exit : Contains (frame_edges f q) ToExit ↔ (exits ≡ true)
    pub exit_falls : exits ≡ true → falls_to row q ToExit ≡ false
    pub exit_jumps : exits ≡ true → jumps_to f row q ToExit ≡ true
    pub once : Once (frame_edges f q)

  module _ (ends_are : AreEnds) where
    small : (e : End) → Contains all e → e.at < 4294967296
    small e h = elim (split_in jumps (listed next_end) e h) as (λ _. e.at < 4294967296) [ inl q ↦ leads.small e q | inr q ↦ ends_are.next_small e q ]

    stack_small : (e : End) → Contains all e → e.stack < 2147483648
    stack_small e h = let l = ends_are.low e h in omega arith

    own_few : turns_of own ≤ k
    own_few = let z : turns_of (get_or keys i 0) ≡ turns_of own = ap turns_of place in let l = are.few i within in omega arith

    abbrev after : End → ℕ
    after e = if nat_le e.at (address_of own) then turns_of own + 1 else turns_of own

    abbrev key_at : End → ℕ
    key_at e = target_key stepped linked own e

    after_small : (e : End) → after e < 4294967296
    after_small e = turn_small (nat_le e.at (address_of own)) (turns_of own) (let l = own_few in omega arith)

    at_key : (e : End) → Contains all e → address_of (key_at e) ≡ e.at
    at_key e h = address_is (root_of own) (after e) e.at e.stack (is_stepped stepped linked e) (after_small e) (small e h) (stack_small e h)

    stack_key : (e : End) → Contains all e → stack_of (key_at e) ≡ e.stack
    stack_key e h = stack_is (root_of own) (after e) e.at e.stack (is_stepped stepped linked e) (after_small e) (small e h) (stack_small e h)

    root_key : (e : End) → Contains all e → root_of (key_at e) ≡ root_of own
    root_key e h = root_is (root_of own) (after e) e.at e.stack (is_stepped stepped linked e) (after_small e) (small e h) (stack_small e h)

    turns_key : (e : End) → Contains all e → turns_of (key_at e) ≡ turns_to q e.at
    turns_key e h = turns_is (root_of own) (after e) e.at e.stack (is_stepped stepped linked e) (after_small e) (small e h) (stack_small e h)

    contract_key : (e : End) → Contains all e → contract_of (key_at e) ≡ is_contract_end f q (stack_at frames e.stack) e.at
    contract_key e h = contract_is (root_of own) (after e) e.at e.stack (is_stepped stepped linked e) ∙ sym (ends_are.step e h)

    end_same : (e : End) → Contains all e → end_key (key_at e) ≡ end_at e
    end_same e h = ap (λ (z : ℕ). ToAddress (stack_at frames z) (address_of (key_at e))) (stack_key e h) ∙ ap
        (λ (z : ℕ). ToAddress (stack_at frames e.stack) z) (at_key e h)

    point_is : (e : End) → Contains all e →
        point_of frames segments (key_at e) ≡ point_to (is_contract_end f q (stack_at frames e.stack) e.at) q (stack_at frames e.stack) e.at
    point_is e h =
        let key = key_at e in
        ap (λ (z : ℕ). let x : spec.Point = record {
          anchor = anchor_by frames segments z;
          turns = turns_of key;
          contract = contract_of key;
          stack = stack_at frames (stack_of key);
          at = address_of key;
        } in x) (root_key e h)
        ∙ ap (λ (z : ℕ). let x : spec.Point = record {
          anchor = q.anchor;
          turns = z;
          contract = contract_of key;
          stack = stack_at frames (stack_of key);
          at = address_of key;
        } in x) (turns_key e h)
        ∙ ap (λ (z : Bool). let x : spec.Point = record {
          anchor = q.anchor;
          turns = turns_to q e.at;
          contract = z;
          stack = stack_at frames (stack_of key);
          at = address_of key;
        } in x) (contract_key e h)
        ∙ ap (λ (z : ℕ). let x : spec.Point = record {
          anchor = q.anchor;
          turns = turns_to q e.at;
          contract = is_contract_end f q (stack_at frames e.stack) e.at;
          stack = stack_at frames z;
          at = address_of key;
        } in x) (stack_key e h)
        ∙ ap (λ (z : ℕ). let x : spec.Point = record {
          anchor = q.anchor;
          turns = turns_to q e.at;
          contract = is_contract_end f q (stack_at frames e.stack) e.at;
          stack = stack_at frames e.stack;
          at = z;
        } in x) (at_key e h)

    -- where an edge to no head leads
    end_is : (s : List ℕ) (a : ℕ) → is_head f a ≡ false → end_of f q s a ≡ point_to (is_contract_end f q s a) q s a
    end_is s a h = ap (λ (b : Bool). if b then first_of f.program.entry (AtHead s a) else point_to (is_contract_end f q s a) q s a) h

    no_head : (e : End) → Contains all e → (b : Bool) → tables.is_among heads (address_of (key_at e)) ≡ b → is_head f e.at ≡ b
    no_head e h b t = cuts e.at ∙ ap (λ (z : ℕ). tables.is_among heads z) (sym (at_key e h)) ∙ t

    of_target : (x : ℕ) → Contains leads.targets x → (e : End) × Contains all e × (key_at e ≡ x)
    of_target x h = of_map (target_key stepped linked own) all x ((leads.same x).1 h)

    to_target : (e : End) → Contains all e → Contains leads.targets (key_at e)
    to_target e h = (leads.same (key_at e)).0 (in_map (target_key stepped linked own) all e h)

    own_point : IsPoint f k q
    own_point = subst (λ (z : ℕ). IsPoint f k (point_of frames segments z)) place (are.only i within)

    found : (e : End) → Contains all e → is_head f e.at ≡ false → turns_to q e.at ≤ k → Contains keys (key_at e)
    found e h t le =
        let s = stack_at frames e.stack in
        let key = key_at e in
        let to = end_is s e.at t in
        let turns : (end_of f q s e.at).turns ≤ k = subst (λ (z : spec.Point). z.turns ≤ k) (sym to) le in
        let there : IsPoint f k (end_of f q s e.at) = next {q = q} {stack = s} {a = e.at} own_point (ends_are.in_edges e h) turns in
        let x = are.all (end_of f q s e.at) there in
        let low_key : stack_of key ≤ length frames = (let s = stack_key e h in let l = ends_are.low e h in omega arith) in
        let rooted : root_of key < length segments =
        (let r = root_key e h in let o = are.rooted i within in let z : root_of (get_or keys i 0) ≡ root_of own = ap root_of place in omega arith) in (
          x.0,
          x.1,
          get_or_default keys x.0 key 0 x.1
              ∙ same_key f k frames numbers segments table segs (get_or keys x.0 0) key (are.rooted x.0 x.1) rooted (are.fits x.0 x.1) low_key
              (x.2 ∙ to ∙ sym (point_is e h)),
        )

    one_over : (a : ℕ) (b : Bool) → a ≤ k → k < (if b then a + 1 else a) → (if b then a + 1 else a) ≡ suc k
    one_over a true le l = omega arith
    one_over a false le l = absurd (omega arith)

    not_above : (j : ℕ) → j ≤ i → get_or keys j 0 ≤ own
    not_above j le = elim (cases_lt j i) as (λ _. get_or keys j 0 ≤ own) [
      | inl l ↦ (let z = are.rise j i l within in let w = place in omega arith)
      | inr l ↦ (let same : j ≡ i = omega arith in let z : get_or keys j 0 ≡ own = ap (λ (m : ℕ). get_or keys m 0) same ∙ place in omega arith)
    ]

    lead_aim : (e : End) → Contains all e → (a : Aim) → IsAimAt heads asserts keys (key_at e) a → IsAim f k (frame_unrolled_of u) i q (end_at e) (aim_of u a)
    lead_aim e h (OnTo j) t =
        let up = above own e (is_stepped stepped linked e) (small e h) (stack_small e h) (let l = own_few in omega arith) in
        let head = no_head e h false t.0 in (
          head,
          (elim (cases_lt i j) as (λ _. i < j) [
            | inl l ↦ l
            | inr le ↦ (let far : get_or keys j 0 ≤ own = not_above j le in let z = t.2 in absurd (omega arith))
          ]),
          (let s = size in let l = t.1 in omega arith),
          points j t.1 ∙ ap (point_of frames segments) t.2 ∙ point_is e h ∙ sym (end_is (stack_at frames e.stack) e.at head),
        )
    lead_aim e h (IntoHead at bounds) t =
        let same : at ≡ e.at = t.1 ∙ at_key e h in
        (no_head e h true t.0, same, lines e.at bounds (subst (λ (z : ℕ). IsGroup asserts z bounds) same t.2))
    lead_aim e h Outward t = absurd t
    lead_aim e h OverLast t =
        let head = no_head e h false t.0 in (
          head,
          ap (λ (z : spec.Point). z.turns) (end_is (stack_at frames e.stack) e.at head)
              ∙ elim (cases_lt k (turns_to q e.at)) as (λ _. turns_to q e.at ≡ suc k) [
                | inl l ↦ one_over (turns_of own) (nat_le e.at (address_of own)) own_few l
                | inr le ↦ absurd (t.1 (found e h head le))
              ],
        )

    falls_is : (e : End) → Contains all e → is_next_key next_end (key_at e) ≡ falls_to row q (end_at e)
    falls_is e h =
        both_ways (is_next_key next_end (key_at e)) (falls_to row q (end_at e))
        (λ t. (ends_are.falls e h).1 (in_listed next_end e (next_listed next_end (key_at e) e (at_key e h) (stack_key e h) t)))
        (λ t. listed_next next_end (key_at e) e (at_key e h) (stack_key e h) ((ends_are.falls e h).0 t))

    jumps_is : (e : End) → Contains all e → (not (is_next_key next_end (key_at e)) || is_both jumps next_end) ≡ jumps_to f row q (end_at e)
    jumps_is e h =
        jump_bool (is_among jumps e) (is_next_key next_end (key_at e)) (is_both jumps next_end)
        (λ t. ap (λ (o : Option End). is_both jumps o) (next_listed next_end (key_at e) e (at_key e h) (stack_key e h) t))
        (λ t. elim (split_in jumps (listed next_end) e h) as (λ _. is_among jumps e ≡ true) [
          | inl q ↦ in_among jumps e q
          | inr q ↦ absurd (let z = listed_next next_end (key_at e) e (at_key e h) (stack_key e h) q in cc)
        ])
        ∙ both_ways (is_among jumps e) (jumps_to f row q (end_at e)) (λ t. (ends_are.jumped e h).1 (among_in jumps e t))
        (λ t. in_among jumps e ((ends_are.jumped e h).0 t))

    led_end : (e : End) → Contains all e → (d : Edge) → IsLedTo heads asserts keys next_end (is_both jumps next_end) (key_at e) d →
        IsEdge f k (frame_unrolled_of u) i q row (end_at e) (edge_of u d)
    led_end e h d l = record {
      aim = aim_of u d.aim;
      leads = lead_aim e h d.aim l.aim;
      is =
          ap (λ (b : Bool). Along b d.jumps d.to (aim_of u d.aim)) (l.falls ∙ falls_is e h)
          ∙ ap (λ (b : Bool). Along (falls_to row q (end_at e)) b d.to (aim_of u d.aim)) (l.jumps ∙ jumps_is e h)
          ∙ ap (λ (o : Option ℕ). Along (falls_to row q (end_at e)) (jumps_to f row q (end_at e)) o (aim_of u d.aim)) (l.to ∙ ap Some (at_key e h));
    }

    led_key : (x : ℕ) → Contains leads.targets x → (d : Edge) → IsLedTo heads asserts keys next_end (is_both jumps next_end) x d →
        IsEdge f k (frame_unrolled_of u) i q row (end_key x) (edge_of u d)
    led_key x h d l =
        let o = of_target x h in
        let l2 : IsLedTo heads asserts keys next_end (is_both jumps next_end) (key_at o.0) d = subst
        (λ (z : ℕ). IsLedTo heads asserts keys next_end (is_both jumps next_end) z d) (sym o.2) l in
        subst (λ (z : EdgeEnd). IsEdge f k (frame_unrolled_of u) i q row z (edge_of u d)) (sym (end_same o.0 o.1) ∙ ap end_key o.2) (led_end o.0 o.1 d l2)

    zip_keys : (xs : List ℕ) (ds : List Edge) → ((x : ℕ) → Contains xs x → Contains leads.targets x) →
        AllZip (IsLedTo heads asserts keys next_end (is_both jumps next_end)) xs ds
        → AllZip (IsEdge f k (frame_unrolled_of u) i q row) (map end_key xs) (map (edge_of u) ds)
    zip_keys [] [] g h = tt
    zip_keys [] (d ∷ ds) g h = absurd h
    zip_keys (x ∷ xs) [] g h = absurd h
    zip_keys (x ∷ xs) (d ∷ ds) g h = (led_key x (g x (0, omega arith, refl)) d h.0, zip_keys xs ds (λ z c. g z (there x xs z c)) h.1)

    exit_is : exits ≡ true → IsEdge f k (frame_unrolled_of u) i q row ToExit (edge_of u exit_edge)
    exit_is h = record {
      aim = walk.Outward;
      leads = tt;
      is =
          ap (λ (b : Bool). Along b true None walk.Outward) (sym (ends_are.exit_falls h))
          ∙ ap (λ (b : Bool). Along (falls_to row q ToExit) b None walk.Outward) (sym (ends_are.exit_jumps h));
    }

    abbrev exit_ends : Bool → List EdgeEnd
    exit_ends b = if b then ToExit ∷ [] else []

    abbrev ends : Bool → List EdgeEnd
    ends b = exit_ends b ++ map end_key leads.targets

    no_exit : Contains (map end_key leads.targets) ToExit → ⊥
    no_exit h = let q = of_map end_key leads.targets ToExit h in absurd (let e = q.2 in cc)

    zip_by : (b : Bool) → exits ≡ b →
        AllZip (IsEdge f k (frame_unrolled_of u) i q row) (ends b) (map (edge_of u) ((if b then exit_edge ∷ [] else []) ++ leads.rest))
    zip_by true e = (exit_is e, zip_keys leads.targets leads.rest (λ x h. h) leads.each)
    zip_by false e = zip_keys leads.targets leads.rest (λ x h. h) leads.each

    same_by : (b : Bool) → exits ≡ b → (t : EdgeEnd) → Contains (frame_edges f q) t ↔ Contains (ends b) t
    same_by b e t = (to t, from b e t)
      where
        exit_in : (b : Bool) → b ≡ true → Contains (ends b) ToExit
        exit_in true h = (0, omega arith, refl)
        exit_in false h = absurd (cc)

        to : (t : EdgeEnd) → Contains (frame_edges f q) t → Contains (ends b) t
        to ToExit h = exit_in b (sym e ∙ ends_are.exit.0 h)
        to (ToAddress s a) h =
            let q = ends_are.edge_all s a h in
            in_right (exit_ends b) (map end_key leads.targets) (ToAddress s a)
            (subst (λ (z : EdgeEnd). Contains (map end_key leads.targets) z) (end_same q.0 q.1 ∙ ap (λ (z : List ℕ). ToAddress z q.0.at) q.2 ∙ ap
            (λ (z : ℕ). ToAddress s z) q.3)
            (in_map end_key leads.targets (key_at q.0) (to_target q.0 q.1)))

        of_key : (t : EdgeEnd) → Contains (map end_key leads.targets) t → Contains (frame_edges f q) t
        of_key t h =
            let o = of_map end_key leads.targets t h in
            let r = of_target o.0 o.1 in
            subst (λ (z : EdgeEnd). Contains (frame_edges f q) z) (sym (end_same r.0 r.1) ∙ ap end_key r.2 ∙ o.2) (ends_are.in_edges r.0 r.1)

        from : (b : Bool) → exits ≡ b → (t : EdgeEnd) → Contains (ends b) t → Contains (frame_edges f q) t
        from true e t (zero, w, z) = subst (λ (z : EdgeEnd). Contains (frame_edges f q) z) z (ends_are.exit.1 e)
        from true e t (suc j, w, z) = of_key t (j, omega arith, z)
        from false e t h = of_key t h

    key_apart : (a b : ℕ) → a < b → b < length leads.targets → end_key (get_or leads.targets a 0) ≡ end_key (get_or leads.targets b 0) → ⊥
    key_apart a b l w e =
        let x = get_or leads.targets a 0 in
        let y = get_or leads.targets b 0 in
        let up = rises leads.targets leads.rise a b l w in
        let o = of_target x (a, (omega arith), get_or_default leads.targets a x 0 (omega arith)) in
        let r = of_target y (b, w, get_or_default leads.targets b y 0 w) in
        let f : end_at o.0 ≡ end_at r.0 = sym (end_same o.0 o.1) ∙ ap end_key o.2 ∙ e ∙ sym (ap end_key r.2) ∙ end_same r.0 r.1 in
        let parts = address_parts (stack_at frames o.0.stack) (stack_at frames r.0.stack) o.0.at r.0.at f in
        let number = one_number frames numbers table o.0.stack o.0.stack r.0.stack (omega arith) (ends_are.low o.0 o.1) (ends_are.low r.0 r.1) parts.0 in
        let same : x ≡ y =
        sym o.2 ∙ ap (λ (z : ℕ). key_at (end z o.0.at)) number ∙ ap (λ (z : ℕ). key_at (end r.0.stack z)) parts.1 ∙ r.2 in
        omega arith
      where
        address_parts : (s t : List ℕ) (a b : ℕ) → ToAddress s a ≡ ToAddress t b → (s ≡ t) × (a ≡ b)
        address_parts s t a b e = ((cc), (cc))

    get_mapped : (xs : List ℕ) (j : ℕ) → j < length xs → slice_get (map end_key xs) j ≡ Some (end_key (get_or xs j 0))
    get_mapped [] j w = absurd (omega arith)
    get_mapped (x ∷ xs) zero w = refl
    get_mapped (x ∷ xs) (suc j) w = get_mapped xs j (omega arith)

    map_length : (xs : List ℕ) → length (map end_key xs) ≡ length xs
    map_length [] = refl
    map_length (x ∷ xs) = ap suc (map_length xs)

    some_same : (a b : EdgeEnd) → Some a ≡ Some b → a ≡ b
    some_same a b e = cc

    keys_once : (a b : ℕ) → a < b → b < length (map end_key leads.targets) → slice_get (map end_key leads.targets) a ≢ slice_get (map end_key leads.targets) b
    keys_once a b l w e =
        let c = map_length leads.targets in
        key_apart a b l (omega arith)
        (some_same (end_key (get_or leads.targets a 0)) (end_key (get_or leads.targets b 0))
        (sym (get_mapped leads.targets a (omega arith)) ∙ e ∙ get_mapped leads.targets b (omega arith)))

    not_first : (b : ℕ) → b < length (map end_key leads.targets) → Some ToExit ≡ slice_get (map end_key leads.targets) b → ⊥
    not_first b w e = let c = map_length leads.targets in let q = e ∙ get_mapped leads.targets b (omega arith) in absurd (cc)

    once_by : (b : Bool) → (j m : ℕ) → j < m → m < length (ends b) → slice_get (ends b) j ≢ slice_get (ends b) m
    once_by true j zero l w e = omega arith
    once_by true zero (suc m) l w e = not_first m (omega arith) e
    once_by true (suc j) (suc m) l w e = keys_once j m (omega arith) (omega arith) e
    once_by false j m l w e = keys_once j m l w e

    first_by : (b : Bool) (t : EdgeEnd) (rest : List EdgeEnd) → ends b ≡ t ∷ rest → ¬ Contains rest ToExit
    first_by true t rest e h = no_exit (subst (λ (l : List EdgeEnd). Contains l ToExit) (sym (tails (map end_key leads.targets) rest ToExit t e)) h)
      where
        tails : (xs ys : List EdgeEnd) (x y : EdgeEnd) → x ∷ xs ≡ y ∷ ys → xs ≡ ys
        tails xs ys x y e = cc
    first_by false t rest e h = no_exit (subst (λ (l : List EdgeEnd). Contains l ToExit) (sym e) (there t rest ToExit h))

    edges_by_bool : (b : Bool) → exits ≡ b → led ≡ (if b then exit_edge ∷ [] else []) ++ leads.rest →
        AreAlong f k (frame_unrolled_of u) i q row (map (edge_of u) led)
    edges_by_bool b e l =
        let x = no_longer (frame_edges f q) (ends b) (λ t h. (same_by b e t).1 h) (once_by b) ToExit in
        let y = no_longer (ends b) (frame_edges f q) (λ t h. (same_by b e t).0 h) ends_are.once ToExit in (
          ends b,
          record { same = same_by b e; count = omega arith; exit_first = first_by b },
          subst (λ (z : List Edge). AllZip (IsEdge f k (frame_unrolled_of u) i q row) (ends b) (map (edge_of u) z)) (sym l) (zip_by b e),
        )

    pub edges_at : AreAlong f k (frame_unrolled_of u) i q row (map (edge_of u) led)
    edges_at = edges_by_bool exits refl leads.is
