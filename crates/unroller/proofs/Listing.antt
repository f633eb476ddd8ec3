-- The numbers of all points, from their list.
use Rattle.std.proofs.Common.{◌≡◌, refl, ap, sym, ◌∙◌, subst, arith, ℕ, zero, suc, ◌+◌, ◌<◌, ◌≤◌, Option, Some, None, Bool, List, [], ◌∷◌, length, get_or, map}
use Rattle.std.specs.Prelude.{Contains, ◌↔◌, slice_get}
use Rattle.std.specs.List.Sorted.{IsStrictlyIncreasing}
use Rattle.std.proofs.lemmas.List.{get_or_default}
use Rattle.std.proofs.lemmas.Option.{slice_get-get_or, get_or_from_slice_get}
use Rattle.bilv_spec.proofs.PointSteps.{in_map}
use Rattle.bilv_spec.proofs.PointsInGraph.{of_map}
use Rattle.frame_spec.specs.Frames as specs
use Rattle.frame_spec.specs.FramePoints as spec
use Rattle.frame_spec.specs.FramePoints.{Anchor, AtEntry, AtHead, IsAnchor, IsPoint, first_of}
use Rattle.program_points.specs.declared.values.Frame.{Frame}
use Rattle.program_points.specs.declared.values.FramePoint.{FramePoint}
use Rattle.program_points.specs.declared.values.FramePoints.{FramePoints}
use Rattle.program_points.specs.declared.values.Root.{Root}
use Rattle.program_points.specs.Listed.{AreStacks, AreFramePointsOf, anchor_of, frame_point_of}
use Rattle.program_points.specs.Tables.{frame, is_root_within, stack_at, stacks_of}
use Rattle.program_points.proofs.Stacked.{stack_none, stack_next}
use Rattle.known_bytes.proofs.Ordered.{rises}
use Rattle.unroller.specs.Keys.{segment_of, place_in, point_key, point_of, turns_of, address_of, stack_of, contract_of, root_of, head_number, head_of, anchor_by, AreKeys, AreSegments}
use Rattle.unroller.proofs.FrameFirst.{points_are_of_segments}
use Rattle.unroller.proofs.Numbered.{root_is, turns_is, address_is, stack_is, contract_is, place_at, IsSmall, head_same}

-- the stacks of frames are the only ones
stacks_are : (frames : List Frame) (stacks : List (List ℕ)) → AreStacks frames stacks → (fuel n : ℕ) → n ≤ fuel → n ≤ length frames →
    get_or stacks n [] ≡ stack_at frames n
stacks_are frames stacks are fuel zero le w = get_or_from_slice_get stacks 0 [] [] are.empty ∙ sym (stack_none frames)
stacks_are frames stacks are zero (suc n) le w = absurd (omega arith)
stacks_are frames stacks are (suc fuel) (suc n) le w =
    let f = get_or frames n (frame 0 0) in
    let e : slice_get frames n ≡ Some f = slice_get-get_or frames n (frame 0 0) w in
    let q = are.each n f e in
    let z : n + 1 ≡ suc n = omega arith in
    let below : f.below ≤ n = q.0 in
    ap (λ (m : ℕ). get_or stacks m []) (sym z) ∙ get_or_from_slice_get stacks (n + 1) (f.top ∷ get_or stacks f.below []) [] q.1
    ∙ ap (λ (l : List ℕ). f.top ∷ l) (stacks_are frames stacks are fuel f.below (omega arith) (omega arith)) ∙ sym (stack_next frames n f e below)

anchor_same : (frames : List Frame) (stacks : List (List ℕ)) → AreStacks frames stacks → (o : Option Root) → is_root_within (length frames) o →
    anchor_of (stacks_of frames) o ≡ anchor_of stacks o
anchor_same frames stacks are None w = refl
anchor_same frames stacks are (Some r) w = ap (λ (l : List ℕ). AtHead l r.at) (sym (stacks_are frames stacks are r.stack r.stack (omega arith) w))

its_anchor : (entry : ℕ) (anchor : Anchor) → (first_of entry anchor).anchor ≡ anchor
its_anchor entry AtEntry = refl
its_anchor entry (AtHead stack a) = refl

root_small : (stacks : List (List ℕ)) (entry : ℕ) (o : Option Root) (q : FramePoint) (most : ℕ) →
    frame_point_of stacks q ≡ first_of entry (anchor_of stacks o) →
    q.at < 4294967296 → is_root_within most o → most ≤ 16777216 → IsSmall o
root_small stacks entry None q most e small w le = tt
root_small stacks entry (Some r) q most e small w le =
    let at : q.at ≡ r.at = ap (λ (z : spec.Point). z.at) e in ((omega arith), (omega arith))

module _ (f : specs.Frame) (k : ℕ) (v : FramePoints) (segments keys listed : List ℕ) (are : AreFramePointsOf f k v)
    (numbered : (q : FramePoint) → Contains v.points.items q → q.stack ≤ length v.stacks.frames.items)
    (rooted : (q : FramePoint) → Contains v.points.items q → is_root_within (length v.stacks.frames.items) q.root)
    (low : (q : FramePoint) → Contains v.points.items q → q.turns ≤ k) (few : k ≤ 4096) (few_stacks : length v.stacks.frames.items ≤ 16777216)
    (small : (q : FramePoint) → Contains v.points.items q → q.at < 4294967296)
    (begun : (x : ℕ) → Contains (map segment_of v.points.items) x ↔ Contains segments x) (rising : IsStrictlyIncreasing segments)
    (list : listed ≡ map (point_key segments) v.points.items) (same : (x : ℕ) → Contains listed x ↔ Contains keys x) (rise : IsStrictlyIncreasing keys) where
  abbrev frames : List Frame
  frames = v.stacks.frames.items

  abbrev stacks : List (List ℕ)
  stacks = are.0

  abbrev point : FramePoint → spec.Point
  point q = frame_point_of stacks q

  its_point : (q : FramePoint) → Contains v.points.items q → IsPoint f k (point q)
  its_point q h = are.2.only (point q) (in_map point v.points.items q h)

  listed_as : (x : spec.Point) → IsPoint f k x → (q : FramePoint) × Contains v.points.items q × (point q ≡ x)
  listed_as x is = of_map point v.points.items x (are.2.all x is)

  its_segment : (q : FramePoint) → Contains v.points.items q → IsAnchor f k (anchor_of stacks q.root)
  its_segment q h = (points_are_of_segments f k (point q) (its_point q h)).anchor

  its_small : (q : FramePoint) → Contains v.points.items q → IsSmall q.root
  its_small q h =
      let first = listed_as (first_of f.program.entry (anchor_of stacks q.root)) (its_segment q h) in
      root_small stacks f.program.entry q.root first.0 (length frames) first.2 (small first.0 first.1) (rooted q h) few_stacks

  its_head : (q : FramePoint) → Contains v.points.items q → head_of (segment_of q) ≡ q.root
  its_head q h = head_same q.root (its_small q h)

  its_place : (q : FramePoint) → Contains v.points.items q → (place_in segments (segment_of q) < length segments) ×
      (get_or segments (place_in segments (segment_of q)) 0 ≡ segment_of q)
  its_place q h = place_at segments (segment_of q) rising ((begun (segment_of q)).0 (in_map segment_of v.points.items q h))

  anchor_is : (q : FramePoint) → Contains v.points.items q → (n : ℕ) → get_or segments n 0 ≡ segment_of q →
      anchor_by frames segments n ≡ anchor_of stacks q.root
  anchor_is q h n e =
      ap (λ (z : ℕ). anchor_of (stacks_of frames) (head_of z)) e ∙ ap (anchor_of (stacks_of frames)) (its_head q h)
      ∙ anchor_same frames stacks are.1 q.root (rooted q h)

  point_same : (q : FramePoint) → Contains v.points.items q → point_of frames segments (point_key segments q) ≡ point q
  point_same q h =
      let a = small q h in
      let n = numbered q h in
      let t = low q h in
      let root = place_in segments (segment_of q) in
      let key = point_key segments q in
      let r : root_of key ≡ root = root_is root q.turns q.at q.stack q.contract (omega arith) a (omega arith) in
      let s : stack_of key ≡ q.stack = stack_is root q.turns q.at q.stack q.contract (omega arith) a (omega arith) in
      ap (λ (z : ℕ). let x : spec.Point = record {
        anchor = anchor_by frames segments z;
        turns = turns_of key;
        contract = contract_of key;
        stack = stack_at frames (stack_of key);
        at = address_of key;
      } in x) r
      ∙ ap (λ (z : Anchor). let x : spec.Point = record {
        anchor = z;
        turns = turns_of key;
        contract = contract_of key;
        stack = stack_at frames (stack_of key);
        at = address_of key;
      } in x) (anchor_is q h root (its_place q h).1)
      ∙ ap (λ (z : ℕ). let x : spec.Point = record {
        anchor = anchor_of stacks q.root;
        turns = z;
        contract = contract_of key;
        stack = stack_at frames (stack_of key);
        at = address_of key;
      } in x) (turns_is root q.turns q.at q.stack q.contract (omega arith) a (omega arith))
      ∙ ap (λ (z : List ℕ). let x : spec.Point = record {
        anchor = anchor_of stacks q.root;
        turns = q.turns;
        contract = contract_of key;
        stack = z;
        at = address_of key;
      } in x) (ap (stack_at frames) s ∙ sym (stacks_are frames stacks are.1 q.stack q.stack (omega arith) n))
      ∙ ap (λ (z : ℕ). let x : spec.Point = record {
        anchor = anchor_of stacks q.root;
        turns = q.turns;
        contract = contract_of key;
        stack = get_or stacks q.stack [];
        at = z;
      } in x) (address_is root q.turns q.at q.stack q.contract (omega arith) a (omega arith))
      ∙ ap (λ (b : Bool). let x : spec.Point = record {
        anchor = anchor_of stacks q.root;
        turns = q.turns;
        contract = b;
        stack = get_or stacks q.stack [];
        at = q.at;
      } in x) (contract_is root q.turns q.at q.stack q.contract)

  segment_point : (n : ℕ) → n < length segments → (q : FramePoint) × Contains v.points.items q × (segment_of q ≡ get_or segments n 0)
  segment_point n w =
      let x = get_or segments n 0 in of_map segment_of v.points.items x ((begun x).1 (n, w, get_or_default segments n x 0 w))

  pub are_segments : AreSegments f k frames segments
  are_segments = record {
    all = λ anchor is.
        let q = listed_as (first_of f.program.entry anchor) is in
        let p = its_place q.0 q.1 in (
          place_in segments (segment_of q.0),
          p.0,
          anchor_is q.0 q.1 (place_in segments (segment_of q.0)) p.1 ∙ ap (λ (z : spec.Point). z.anchor) q.2 ∙ its_anchor f.program.entry anchor,
        );
    only = λ n w.
        let q = segment_point n w in
        subst (λ (z : Anchor). IsAnchor f k z) (sym (anchor_is q.0 q.1 n (sym q.2))) (its_segment q.0 q.1);
    rise = rises segments rising;
    fits = λ n w.
        let q = segment_point n w in
        subst (λ (z : Option Root). is_root_within (length frames) z) (sym (its_head q.0 q.1) ∙ ap head_of q.2) (rooted q.0 q.1);
    exact = λ n w.
        let q = segment_point n w in
        ap (λ (z : ℕ). head_number (head_of z)) (sym q.2) ∙ ap head_number (its_head q.0 q.1) ∙ q.2;
  }

  key_point : (i : ℕ) → i < length keys → (q : FramePoint) × Contains v.points.items q × (point_key segments q ≡ get_or keys i 0)
  key_point i w =
      let x = get_or keys i 0 in
      of_map (point_key segments) v.points.items x (subst (λ (l : List ℕ). Contains l x) list ((same x).1 (i, w, get_or_default keys i x 0 w)))

  pub are_keys : AreKeys f k frames segments keys
  are_keys = record {
    all = λ x is.
        let q = listed_as x is in
        let key = point_key segments q.0 in
        let r = (same key).0 (subst (λ (l : List ℕ). Contains l key) (sym list) (in_map (point_key segments) v.points.items q.0 q.1)) in
        let at : get_or keys r.0 0 ≡ key = get_or_default keys r.0 0 key r.1 ∙ r.2 in
        (r.0, r.1, ap (point_of frames segments) at ∙ point_same q.0 q.1 ∙ q.2);
    only = λ i w.
        let q = key_point i w in
        subst (λ (z : spec.Point). IsPoint f k z) (sym (point_same q.0 q.1) ∙ ap (point_of frames segments) q.2) (its_point q.0 q.1);
    rise = rises keys rise;
    fits = λ i w.
        let q = key_point i w in
        let n = numbered q.0 q.1 in
        let a = small q.0 q.1 in
        let t = low q.0 q.1 in
        let z : stack_of (get_or keys i 0) ≡ q.0.stack = ap stack_of (sym q.2) ∙
        stack_is (place_in segments (segment_of q.0)) q.0.turns q.0.at q.0.stack q.0.contract (omega arith) a (omega arith) in
        omega arith;
    few = λ i w.
        let q = key_point i w in
        let n = numbered q.0 q.1 in
        let a = small q.0 q.1 in
        let t = low q.0 q.1 in
        let z : turns_of (get_or keys i 0) ≡ q.0.turns = ap turns_of (sym q.2) ∙
        turns_is (place_in segments (segment_of q.0)) q.0.turns q.0.at q.0.stack q.0.contract (omega arith) a (omega arith) in
        omega arith;
    rooted = λ i w.
        let q = key_point i w in
        let n = numbered q.0 q.1 in
        let a = small q.0 q.1 in
        let t = low q.0 q.1 in
        let p = its_place q.0 q.1 in
        let z : root_of (get_or keys i 0) ≡ place_in segments (segment_of q.0) = ap root_of (sym q.2) ∙
        root_is (place_in segments (segment_of q.0)) q.0.turns q.0.at q.0.stack q.0.contract (omega arith) a (omega arith) in
        let l = p.0 in
        omega arith;
  }
