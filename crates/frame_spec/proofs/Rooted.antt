-- The places of an unrolled frame rise within their anchors, and each anchor has one root.
use Rattle.std.proofs.Common.{◌≡◌, inl, inr, ℕ, zero, suc, ◌<◌, refl, ap, sym, ◌∙◌, subst, arith, List, [], ◌∷◌, ◌++◌, length, Option, Some, None, Bool, true, false}
use Rattle.std.specs.Prelude.{Contains, nat_lt, slice_get, slice_index_or, map, if◌then◌else◌}
use Rattle.std.specs.List.{AllZip}
use Rattle.std.proofs.lemmas.Bool.Decides.{nat_tests}
use Rattle.machine_spec.specs.Machine.{Row}
use Rattle.bilv_spec.specs.Run.{fetchable}
use Rattle.bilv_spec.specs.Points.{EdgeEnd, ToAddress, ToExit, file_row, file_word}
use Rattle.bilv_spec.proofs.Pigeons.{truth}
use Rattle.bilv_spec.proofs.PointsInGraph.{none_in, split_in, of_map}
use Rattle.walk_spec.specs.Unrolling.{stop_event}
use Rattle.frame_spec.specs.Frames.{Contract, Frame, OfStep, is_head, contract_at}
use Rattle.frame_spec.specs.FramePoints.{Anchor, AtEntry, AtHead, Point, first_of, is_cut, end_of, point_to, is_contract_end}
use Rattle.frame_spec.specs.FrameWalk.{Aim, OnTo, IntoHead, Outward, OverLast, ToEvent, Cutting, Nowhere, PointExit, FalseCheck, FalseNeed, Always, Raising, WritingKept, WritingOutside, NotGiven, Unaligned, Root, UnrolledPoint, UnrolledProgram, no_point, point_at, AimsLater, LeadsLater, IsRooted}
use Rattle.frame_spec.specs.FrameUnrolling.{IsAim, IsEdge, DoesContract, DoesAddress, DoesBy, outside_exit, checks_of, IsRootOf, assumed_at, IsUnrolling, UnrollingIsRooted}

anchor_of_first : (entry : ℕ) (a : Anchor) → (first_of entry a).anchor ≡ a
anchor_of_first entry AtEntry = refl
anchor_of_first entry (AtHead s b) = refl

module _ (f : Frame) (contracts : List Contract) (k : ℕ) (u : UnrolledProgram) (i : ℕ) where
  -- the end of an edge that leads to no head is of the same anchor
  same_end_anchor : (q : Point) (stack : List ℕ) (a : ℕ) → is_head f a ≡ false → (end_of f q stack a).anchor ≡ q.anchor
  same_end_anchor q stack a h =
      ap (λ (b : Bool). (if b then first_of f.program.entry (AtHead stack a) else point_to (is_contract_end f q stack a) q stack a).anchor) h

  abbrev Fine : Aim → Type 0
  Fine = AimsLater u i

  module _ (q : Point) (same : (point_at u i).point ≡ q) where
    aim_fine : (t : EdgeEnd) (aim : Aim) → IsAim f k u i q t aim → Fine aim
    aim_fine ToExit Outward h = tt
    aim_fine ToExit (OnTo j) h = absurd h
    aim_fine ToExit (IntoHead at l) h = tt
    aim_fine ToExit OverLast h = tt
    aim_fine ToExit (ToEvent e) h = tt
    aim_fine ToExit Cutting h = tt
    aim_fine ToExit Nowhere h = tt
    aim_fine (ToAddress stack a) (OnTo j) h =
        (h.1, h.2, ap (λ z. z.anchor) h.3 ∙ same_end_anchor q stack a h.0 ∙ ap (λ z. z.anchor) (sym same))
    aim_fine (ToAddress stack a) (IntoHead at l) h = tt
    aim_fine (ToAddress stack a) Outward h = tt
    aim_fine (ToAddress stack a) OverLast h = tt
    aim_fine (ToAddress stack a) (ToEvent e) h = tt
    aim_fine (ToAddress stack a) Cutting h = tt
    aim_fine (ToAddress stack a) Nowhere h = tt

    edge_fine : (row : Option Row) (t : EdgeEnd) (x : PointExit) → IsEdge f k u i q row t x → LeadsLater u i x
    edge_fine row t x e = subst (LeadsLater u i) (sym e.is) (aim_fine t e.aim e.leads)

    edges_fine : (row : Option Row) (ends : List EdgeEnd) (xs : List PointExit) → AllZip (IsEdge f k u i q row) ends xs → (x : PointExit) → Contains xs x →
        LeadsLater u i x
    edges_fine row ends [] z x (n, l, e) = absurd (omega arith)
    edges_fine row [] (y ∷ xs) z x h = absurd z
    edges_fine row (t ∷ ends) (y ∷ xs) z x (zero, l, e) = subst (LeadsLater u i) e (edge_fine row t y z.0)
    edges_fine row (t ∷ ends) (y ∷ xs) z x (suc n, l, e) = edges_fine row ends xs z.1 x (n, omega arith, e)

  -- exits that lead to no point
  one_then : (y : PointExit) (xs : List PointExit) → LeadsLater u i y → ((x : PointExit) → Contains xs x → LeadsLater u i x) →
      (x : PointExit) → Contains (y ∷ xs) x → LeadsLater u i x
  one_then y xs h f x (zero, l, e) = subst (LeadsLater u i) e h
  one_then y xs h f x (suc n, l, e) = f x (n, omega arith, e)

  after_own : (o : Option Contract) (xs : List PointExit) → ((x : PointExit) → Contains xs x → LeadsLater u i x) →
      (x : PointExit) → Contains (outside_exit o ++ xs) x → LeadsLater u i x
  after_own None xs f = f
  after_own (Some c) xs f = one_then WritingOutside xs tt f

  after_mapped : {X : Type 0} (to : X → PointExit) → ((y : X) → LeadsLater u i (to y)) → (l : List X) (xs : List PointExit) →
      ((x : PointExit) → Contains xs x → LeadsLater u i x) → (x : PointExit) → Contains (map to l ++ xs) x → LeadsLater u i x
  after_mapped to h l xs f x c = elim (split_in (map to l) xs x c) [
    | inl m ↦ (let q = of_map to l x m in subst (LeadsLater u i) q.2 (h q.0))
    | inr m ↦ f x m
  ]

  none_fine : (x : PointExit) → Contains [] x → LeadsLater u i x
  none_fine x c = none_in x c

  contract_fine : (q : UnrolledPoint) → (point_at u i).point ≡ q.point → (o : Option Contract) (stack : List ℕ) → DoesContract f k u i q o stack →
      (x : PointExit) → Contains q.exits x → LeadsLater u i x
  contract_fine q same None stack d x c = absurd d
  contract_fine q same (Some y) [] d x c = absurd d
  contract_fine q same (Some y) (to ∷ below) d x c =
      after_mapped (λ l. FalseNeed l.line l.says) (λ l. tt) y.needs (WritingKept ∷ (outside_exit f.own ++ NotGiven ∷ d.0))
      (one_then WritingKept (outside_exit f.own ++ NotGiven ∷ d.0) tt (after_own f.own (NotGiven ∷ d.0) (one_then NotGiven d.0 tt
      (edges_fine q.point same None d.3.0 d.0 d.3.2)))) x (subst (λ z. Contains z x) d.2 c)

  address_fine : (q : UnrolledPoint) → (point_at u i).point ≡ q.point → (o : Option Row) → DoesAddress f contracts k u i q o →
      (x : PointExit) → Contains q.exits x → LeadsLater u i x
  address_fine q same None d x c =
      let stop : PointExit = Always (ToEvent (OfStep (stop_event (fetchable f.program (file_word f.program q.point.at) q.point.at)))) in
      after_mapped FalseCheck (λ l. tt) (checks_of f q.point) (stop ∷ []) (one_then stop [] tt none_fine) x (subst (λ z. Contains z x) d.1 c)
  address_fine q same (Some row) d x c =
      after_mapped FalseCheck (λ l. tt) (checks_of f q.point) (Raising ∷ WritingKept ∷ (outside_exit f.own ++ Unaligned ∷ d.0))
      (one_then Raising (WritingKept ∷ (outside_exit f.own ++ Unaligned ∷ d.0)) tt (one_then WritingKept (outside_exit f.own ++ Unaligned ∷ d.0) tt
      (after_own f.own (Unaligned ∷ d.0) (one_then Unaligned d.0 tt (edges_fine q.point same (Some row) d.2.0 d.0 d.2.2))))) x (subst (λ z. Contains z x) d.1 c)

  by_kind : (contract cut : Bool) (q : UnrolledPoint) → (point_at u i).point ≡ q.point → DoesBy contract cut f contracts k u i q →
      (x : PointExit) → Contains q.exits x → LeadsLater u i x
  by_kind true cut q same d = contract_fine q same (contract_at f.stepped q.point.at) q.point.stack d
  by_kind false true q same d = λ x c.
      after_mapped FalseCheck (λ l. tt) (checks_of f q.point) (Always Cutting
      ∷ []) (one_then (Always Cutting) [] tt none_fine) x (subst (λ z. Contains z x) d.1 c)
  by_kind false false q same d = address_fine q same (file_row f.program q.point.at) d

map_get : (qs : List UnrolledPoint) (i : ℕ) → i < length qs → slice_get (map (λ q. q.point) qs) i ≡ Some ((slice_index_or qs i no_point).point)
map_get [] i l = absurd (omega arith)
map_get (q ∷ qs) zero l = refl
map_get (q ∷ qs) (suc i) l = map_get qs i (omega arith)

map_length : (qs : List UnrolledPoint) → length (map (λ q. q.point) qs) ≡ length qs
map_length [] = refl
map_length (q ∷ qs) = ap suc (map_length qs)

module _ (f : Frame) (contracts : List Contract) (k : ℕ) (u : UnrolledProgram) (un : IsUnrolling f contracts k u) where
  not_twice : (i j : ℕ) → i < j → j < length u.points → (point_at u i).point ≡ (point_at u j).point → ⊥
  not_twice i j l m e =
      un.points.once i j l (subst (λ z. j < z) (sym (map_length u.points)) m)
      (map_get u.points i (omega arith) ∙ ap Some e ∙ sym (map_get u.points j m))

  pub same_place : (i j : ℕ) → i < length u.points → j < length u.points → (point_at u i).point ≡ (point_at u j).point → i ≡ j
  same_place i j l m e = elim (truth (nat_lt i j)) [
    | inl t ↦ absurd (not_twice i j (grind (arith, nat_tests)) m e)
    | inr t ↦ elim (truth (nat_lt j i)) [
      | inl s ↦ absurd (not_twice j i (grind (arith, nat_tests)) l (sym e))
      | inr s ↦ grind (arith, nat_tests)
    ]
  ]

  root_anchor : (x : Root) (a : Anchor) → IsRootOf f u x a → (point_at u x.place).point.anchor ≡ a
  root_anchor x a r = ap (λ z. z.anchor) r.point ∙ anchor_of_first f.program.entry a

  same_root : (x y : Root) → x.place ≡ y.place → x.assumes ≡ y.assumes → x ≡ y
  same_root x y e h = ap (λ z. record { place = z; assumes = x.assumes }) e ∙ ap (λ z. record { place = y.place; assumes = z }) h

  one : (x y : Root) → Contains u.roots x → Contains u.roots y → (point_at u x.place).point.anchor ≡ (point_at u y.place).point.anchor → x ≡ y
  one x y c d e =
      let a = un.roots x c in
      let b = un.roots y d in
      let same : a.0 ≡ b.0 = sym (root_anchor x a.0 a.2) ∙ e ∙ root_anchor y b.0 b.2 in
      same_root x y (same_place x.place y.place a.2.place b.2.place (a.2.point ∙ ap (first_of f.program.entry) same ∙ sym b.2.point))
      (a.2.assumes ∙ ap (assumed_at f) same ∙ sym b.2.assumes)

  pub rooted : IsRooted u
  rooted = record {
    later = λ i x l c. by_kind f contracts k u i (point_at u i).point.contract (is_cut f (point_at u i).point) (point_at u i) refl (un.places i l).does x c;
    places = λ x c. (un.roots x c).2.place;
    one = one;
  }

pub unrolling_is_rooted : UnrollingIsRooted
unrolling_is_rooted f contracts k u un = rooted f contracts k u un
