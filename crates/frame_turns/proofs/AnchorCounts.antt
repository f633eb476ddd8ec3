-- Unrolled frames with equally many roots have the same anchors.
use Rattle.std.proofs.Common.{◌≡◌, inl, inr, refl, ap, sym, ◌∙◌, subst, arith, ℕ, zero, suc, ◌≤◌, ◌<◌, List, [], ◌∷◌, length, Some, true, false}
use Rattle.std.specs.Prelude.{Contains, ◌==◌, slice_get, map, option_map}
use Rattle.std.specs.List.{list_any}
use Rattle.std.specs.Str.{bytes_eq}
use Rattle.std.proofs.lemmas.Bool.Decides.{nat_tests}
use Rattle.std.proofs.lemmas.List.{length-map}
use Rattle.std.proofs.lemmas.Option.{slice_get-get_or, slice_get-map}
use Rattle.bilv_spec.proofs.Pigeons.{Once, at_in, no_longer, truth}
use Rattle.bilv_spec.proofs.PointSteps.{same_number, same_list, and_both, in_map}
use Rattle.bilv_spec.proofs.PointsInGraph.{of_map}
use Rattle.bilv_spec.proofs.PointTests.{any_is}
use Rattle.frame_spec.specs.Frames.{Contract, Frame}
use Rattle.frame_spec.specs.FramePoints.{Anchor, AtEntry, AtHead, IsAnchor, first, entry_head, next, first_of}
use Rattle.frame_spec.specs.FrameWalk.{UnrolledProgram, Root, no_root, point_at, root_at, same_anchor}
use Rattle.frame_spec.specs.FrameUnrolling.{IsUnrolling, IsRootOf}
use Rattle.frame_spec.proofs.Rooted.{same_place}
use Rattle.frame_laws.proofs.FrameExits.{some_passes}
use Rattle.frame_laws.proofs.OnceLists.{once_more}
use Rattle.frame_turns.specs.Anchors.{AnchorsCount, FramePointsRise}

pub frame_points_rise : FramePointsRise
frame_points_rise f k m h _ first = first
frame_points_rise f k m h _ (entry_head is) = entry_head is
frame_points_rise f k m h _ (next {q} {stack} {a} is edge few) = next (frame_points_rise f k m h q is) edge (omega (arith, few, h))

-- the test for the same anchor
anchor_is : (x y : Anchor) → same_anchor x y ≡ true → x ≡ y
anchor_is AtEntry AtEntry h = refl
anchor_is (AtHead s a) (AtHead t b) h =
    let q = and_both (a == b) (bytes_eq s t) h in ap (λ z. AtHead z a) (same_list s t q.1) ∙ ap (AtHead t) (same_number a b q.0)
anchor_is AtEntry (AtHead t b) h = absurd (cc)
anchor_is (AtHead s a) AtEntry h = absurd (cc)

same_stack : (s : List ℕ) → bytes_eq s s ≡ true
same_stack [] = refl
same_stack (a ∷ s) = let e : (a == a) ≡ true = grind (arith, nat_tests) in rw (e, same_stack s) refl

anchor_self : (x : Anchor) → same_anchor x x ≡ true
anchor_self AtEntry = refl
anchor_self (AtHead s a) = let e : (a == a) ≡ true = grind (arith, nat_tests) in rw (e, same_stack s) refl

anchor_of_first : (entry : ℕ) (a : Anchor) → (first_of entry a).anchor ≡ a
anchor_of_first entry AtEntry = refl
anchor_of_first entry (AtHead s b) = refl

-- the anchors of the roots
abbrev anchor_of : UnrolledProgram → Root → Anchor
anchor_of u x = (point_at u x.place).point.anchor

abbrev anchors : UnrolledProgram → List Anchor
anchors u = map (anchor_of u) u.roots

module _ (f : Frame) (contracts : List Contract) (k : ℕ) (u : UnrolledProgram) (un : IsUnrolling f contracts k u) where
  root_anchor : (x : Root) (a : Anchor) → IsRootOf f u x a → anchor_of u x ≡ a
  root_anchor x a r = ap (λ z. z.anchor) r.point ∙ anchor_of_first f.program.entry a

  -- they are the anchors of the frame
  listed : (a : Anchor) → Contains (anchors u) a → IsAnchor f k a
  listed a has =
      let q = of_map (anchor_of u) u.roots a has in
      let r = un.roots q.0 q.1 in
      subst (IsAnchor f k) (sym (root_anchor q.0 r.0 r.2) ∙ q.2) r.1

  in_list : (a : Anchor) → IsAnchor f k a → Contains (anchors u) a
  in_list a is =
      let q = un.rooted a is in
      subst (λ z. Contains (anchors u) z) (root_anchor q.0 a q.2) (in_map (anchor_of u) u.roots q.0 q.1)

  -- each once
  root_got : (i : ℕ) → i < length u.roots → slice_get u.roots i ≡ Some (root_at u i)
  root_got i l = slice_get-get_or u.roots i no_root l

  got : (i : ℕ) → i < length u.roots → slice_get (anchors u) i ≡ Some (anchor_of u (root_at u i))
  got i l = slice_get-map (anchor_of u) u.roots i ∙ ap (option_map (anchor_of u)) (root_got i l)

  some_is : (a b : Anchor) → Some a ≡ Some b → a ≡ b
  some_is a b e = (cc)

  place_is : (x y : Root) → Contains u.roots x → Contains u.roots y → anchor_of u x ≡ anchor_of u y → x.place ≡ y.place
  place_is x y c d e =
      let a = un.roots x c in
      let b = un.roots y d in
      let same : a.0 ≡ b.0 = sym (root_anchor x a.0 a.2) ∙ e ∙ root_anchor y b.0 b.2 in
      same_place f contracts k u un x.place y.place a.2.place b.2.place (a.2.point ∙ ap (first_of f.program.entry) same ∙ sym b.2.point)

  once : Once (anchors u)
  once i j l m e =
      let n = length-map u.roots (anchor_of u) in
      let below : j < length u.roots = omega arith in
      un.roots_once i j l below
      (place_is (root_at u i) (root_at u j) (at_in u.roots i (root_at u i) (root_got i (omega arith))) (at_in u.roots j (root_at u j) (root_got j below))
      (some_is (anchor_of u (root_at u i)) (anchor_of u (root_at u j)) (sym (got i (omega arith)) ∙ e ∙ got j below)))

module _ (f : Frame) (contracts : List Contract) (k m : ℕ) (h : k ≤ m) (low high : UnrolledProgram) (a : IsUnrolling f contracts k low)
    (b : IsUnrolling f contracts m high) (count : length low.roots ≡ length high.roots) where
  inside : (x : Anchor) → Contains (anchors low) x → Contains (anchors high) x
  inside x has = in_list f contracts m high b x (frame_points_rise f k m h _ (listed f contracts k low a x has))

  -- an anchor that the smaller frame has not would be one more
  same : (x : Anchor) → IsAnchor f m x → IsAnchor f k x
  same x is = elim (truth (list_any (same_anchor x) (anchors low))) [
    | inl t ↦ (let q = any_is (same_anchor x) (anchors low) t in
        subst (IsAnchor f k) (sym (anchor_is x q.0 q.2)) (listed f contracts k low a q.0 q.1))
    | inr t ↦ absurd (
        let most = no_longer (anchors high) (x ∷ anchors low) more
        (once_more x (anchors low) (once f contracts k low a) (λ has. absent has t)) x in
        let n = length-map low.roots (anchor_of low) in
        let o = length-map high.roots (anchor_of high) in
        omega (arith, most, n, o, count))
  ]
    where
      more : (y : Anchor) → Contains (x ∷ anchors low) y → Contains (anchors high) y
      more y (zero, l, e) = subst (λ z. Contains (anchors high) z) e (in_list f contracts m high b x is)
      more y (suc i, l, e) = inside y (i, omega arith, e)

      absent : Contains (anchors low) x → list_any (same_anchor x) (anchors low) ≡ false → ⊥
      absent has t = let q = some_passes (same_anchor x) (anchors low) x has (anchor_self x) in absurd (cc)

pub anchors_count : AnchorsCount
anchors_count f contracts k m h low high a b count x is = same f contracts k m h low high a b count x is
