-- The choices of the points that are met are those of the walk from a root.
use Rattle.std.proofs.Common.{◌≡◌, inl, inr, refl, ap, sym, ◌∙◌, arith, ℕ, zero, suc, ◌+◌, ◌<◌, ◌≤◌, [], ◌∷◌, List, Bool, true, false, length, map, get_or}
use Rattle.std.specs.Prelude.{◌==◌, ◌&&◌, Contains, slice_index, slice_index_or, if◌then◌else◌}
use Rattle.std.specs.Str.{bytes_eq}
use Rattle.std.proofs.lemmas.Bool.Decides.{nat_tests}
use Rattle.std.proofs.lemmas.List.Elements.{Contains-get_or}
use Rattle.word_spec.specs.Words.{bit}
use Rattle.bilv_spec.proofs.Pigeons.{truth}
use Rattle.bilv_spec.proofs.PointSteps.{and_both, same_list, same_number}
use Rattle.bilv_spec.proofs.PointTests.{same_point_self}
use Rattle.frame_spec.specs.Frames.{Content}
use Rattle.frame_spec.specs.FramePoints.{Anchor, AtEntry, AtHead}
use Rattle.frame_spec.specs.FrameQuestions.{Reading, IsReading}
use Rattle.frame_spec.specs.FrameWalk as walks
use Rattle.frame_spec.specs.FrameWalk.{UnrolledPoint, UnrolledProgram, Root, point_at, root_at, Walk, WalkIsAt, WalkArrives, WalkExits, WalkFails, WalkTurns, WalkIsCut, WalkBreaks, walk_on, walk_of, is_assumed, swept, same_anchor, met_of}
use Rattle.frame_spec.proofs.SweepWalks.{sweep_is_walks}
use Rattle.frame_terms.specs.PassiveFrames as frames
use Rattle.frame_terms.specs.PassiveFrames.{part_reading}
use Rattle.frame_terms.specs.FrameStarts.{IsReadingOfParts, IsWrittenAnchor, place_choice}
use Rattle.frame_terms.specs.FrameStarts as starts
use Rattle.term_dag.specs.declared.nodes.Term.{Term}
use Rattle.term_dag.specs.Readings.{AreWords}
use Rattle.question_form.specs.declared.unrolled.Point.{Point}
use Rattle.question_form.specs.declared.unrolled.Root as declared
use Rattle.question_form.specs.declared.unrolled.Unrolled.{Unrolled}
use Rattle.question_form.specs.Forms.{AreRootsFormed}
use Rattle.question_form.specs.FrameViews.{anchor_at, frame_unrolled_of, no_root, points_of, root_of}
use Rattle.bit_blast.specs.Steps.{count_met, is_met_by}
use Rattle.bit_blast.proofs.StartInputs.{mapped_get}
use Rattle.unroller.specs.RootPoints.{BeginAtOwn, root_of_point, no_point}
use Rattle.frame_start.specs.Met.{is_met_of}

-- ---- anchors

anchor_is : (x y : Anchor) → same_anchor x y ≡ true → x ≡ y
anchor_is AtEntry AtEntry h = refl
anchor_is (AtHead s a) (AtHead t b) h =
    let q = and_both (a == b) (bytes_eq s t) h in ap (λ z. AtHead z a) (same_list s t q.1) ∙ ap (AtHead t) (same_number a b q.0)
anchor_is AtEntry (AtHead t b) h = absurd (let e : false ≡ true = h in cc)
anchor_is (AtHead s a) AtEntry h = absurd (let e : false ≡ true = h in cc)

anchor_self : (x : Anchor) → same_anchor x x ≡ true
anchor_self AtEntry = refl
anchor_self (AtHead s a) =
    let p = and_both (0 == 0) (bytes_eq s s && (a == a)) (same_point_self (record { turns = 0; stack = s; at = a })) in
    let q = and_both (bytes_eq s s) (a == a) p.1 in rw (q.1, q.0) refl

-- ---- a walk from the entry does not hang on the head part

module _ (u : UnrolledProgram) (r : Reading) (h : Content) where
  abbrev other : Reading
  other = record r { head = h }

  one_step : (w : Walk) → walk_on u (record r { head = h }) w ≡ walk_on u r w
  one_step (WalkIsAt i c) = refl
  one_step (WalkArrives a l c) = refl
  one_step WalkExits = refl
  one_step (WalkFails e) = refl
  one_step WalkTurns = refl
  one_step WalkIsCut = refl
  one_step WalkBreaks = refl

  begins_by : (a : Anchor) → starts.IsWrittenAnchor false a → walks.root_content (record r { head = h }) a ≡ walks.root_content r a
  begins_by AtEntry w = refl
  begins_by (AtHead stack a) w = absurd (let e : false ≡ true = w in cc)

  module _ (y : Root) (w : starts.IsWrittenAnchor false (point_at u y.place).point.anchor) where
    pub same_walk : (n : ℕ) → walk_of u (record r { head = h }) y n ≡ walk_of u r y n
    unfolding walk_of
    same_walk zero = ap (WalkIsAt y.place) (begins_by (point_at u y.place).point.anchor w)
    same_walk (suc n) = ap (walk_on u (record r { head = h })) (same_walk n) ∙ one_step (walk_of u r y n)

    pub same_assumed : is_assumed u (record r { head = h }) y ≡ is_assumed u r y
    same_assumed = rw (begins_by (point_at u y.place).point.anchor w) refl

-- ---- points and roots of values

module _ (un : Unrolled) where
  pub points_long : (points : List Point) → length (points_of un points) ≡ length points
  points_long [] = refl
  points_long (q ∷ rest) = let e = points_long rest in omega arith

  anchor_in : (points : List Point) (i : ℕ) → i < length points →
      (slice_index_or (points_of un points) i walks.no_point).point.anchor ≡ anchor_at un (root_of_point points i)
  anchor_in [] i l = absurd (omega arith)
  anchor_in (q ∷ rest) zero l = refl
  anchor_in (q ∷ rest) (suc i) l = anchor_in rest i (omega arith)

  root_in : (roots : List declared.Root) (n : ℕ) → n < length roots →
      slice_index_or (map (root_of un) roots) n walks.no_root ≡ root_of un (slice_index_or roots n no_root)
  root_in [] n l = absurd (omega arith)
  root_in (x ∷ rest) zero l = refl
  root_in (x ∷ rest) (suc n) l = root_in rest n (omega arith)

  roots_long : (roots : List declared.Root) → length (map (root_of un) roots) ≡ length roots
  roots_long [] = refl
  roots_long (x ∷ rest) = let e = roots_long rest in omega arith

same_test : (a b : ℕ) (t : Bool) → (a ≡ b → t ≡ true) → (t ≡ true → a ≡ b) → (a == b) ≡ t
same_test a b true f g = let e = g refl in grind (arith, nat_tests)
same_test a b false f g = elim (truth (a == b)) [
  | inl s ↦ absurd (let e : a ≡ b = grind (arith, nat_tests) in let c : false ≡ true = f e in cc)
  | inr s ↦ s
]

bit_one : (b : Bool) → (bit b == 1) ≡ b
bit_one true = refl
bit_one false = refl

and_as : (a b c d : Bool) → a ≡ b → c ≡ d → (a && c) ≡ (d && b)
and_as a b true d e f = rw (sym f) (with_true a ∙ e)
  where
    with_true : (z : Bool) → (z && true) ≡ z
    with_true true = refl
    with_true false = refl
and_as a b false d e f = rw (sym f) (with_false a)
  where
    with_false : (z : Bool) → (z && false) ≡ false
    with_false true = refl
    with_false false = refl

module _ (un : Unrolled) (walkable : frames.IsWalkable (frame_unrolled_of un)) (formed : AreRootsFormed un) (own : BeginAtOwn un) where
  abbrev u : UnrolledProgram
  u = frame_unrolled_of un

  root_is : (n : ℕ) → n < length un.roots.items → root_at (frame_unrolled_of un) n ≡ root_of un (slice_index_or un.roots.items n no_root)
  root_is n l = root_in un un.roots.items n l

  pub root_inside : (n : ℕ) → n < length un.roots.items → Contains (frame_unrolled_of un).roots (root_at (frame_unrolled_of un) n)
  root_inside n l = Contains-get_or (frame_unrolled_of un).roots n walks.no_root (let e = roots_long un un.roots.items in omega arith)

  declared_inside : (n : ℕ) → n < length un.roots.items → Contains un.roots.items (slice_index_or un.roots.items n no_root)
  declared_inside n l = Contains-get_or un.roots.items n no_root l

  -- the anchor of a root is that of its place
  pub root_anchor : (n : ℕ) → n < length un.roots.items →
      (point_at (frame_unrolled_of un) (root_at (frame_unrolled_of un) n).place).point.anchor ≡ anchor_at un n
  root_anchor n l =
      ap (λ (z : Root). (point_at (frame_unrolled_of un) z.place).point.anchor) (root_is n l)
      ∙ anchor_in un un.points.items (slice_index_or un.roots.items n no_root).place (formed.places (slice_index_or un.roots.items n no_root)
      (declared_inside n l)).0
      ∙ ap (anchor_at un) (own n l)

  -- so roots of one anchor are one
  apart : (m n : ℕ) → m < length un.roots.items → n < length un.roots.items → anchor_at un m ≡ anchor_at un n → m ≡ n
  apart m n k l e =
      let same : root_at (frame_unrolled_of un) m ≡ root_at (frame_unrolled_of un) n
      = walkable.rooted.one (root_at (frame_unrolled_of un) m) (root_at (frame_unrolled_of un) n) (root_inside m k) (root_inside n l)
      (root_anchor m k ∙ e ∙ sym (root_anchor n l)) in
      sym (own m k)
      ∙ ap (λ (z : Root). root_of_point un.points.items z.place) (sym (root_is m k) ∙ same ∙ root_is n l)
      ∙ own n l

  root_test : (n : ℕ) → n < length un.roots.items → (j : ℕ) → j < length un.points.items →
      (root_of_point un.points.items j == n)
      ≡ same_anchor (point_at (frame_unrolled_of un) j).point.anchor (point_at (frame_unrolled_of un) (root_at (frame_unrolled_of un) n).place).point.anchor
  root_test n l j k =
      same_test (root_of_point un.points.items j) n _
      (λ e. ap (λ z. same_anchor z (point_at (frame_unrolled_of un) (root_at (frame_unrolled_of un) n).place).point.anchor)
      (anchor_in un un.points.items j k ∙ ap (anchor_at un) e ∙ sym (root_anchor n l))
      ∙ anchor_self (point_at (frame_unrolled_of un) (root_at (frame_unrolled_of un) n).place).point.anchor)
      (λ t. apart (root_of_point un.points.items j) n (formed.points (get_or un.points.items j no_point) (Contains-get_or un.points.items j no_point k)) l
      (sym (anchor_in un un.points.items j k)
      ∙ anchor_is (point_at (frame_unrolled_of un) j).point.anchor
      (point_at (frame_unrolled_of un) (root_at (frame_unrolled_of un) n).place).point.anchor t
      ∙ root_anchor n l))

  -- the words of the points that are met
  module _ (heads : Bool) (q : frames.Passive) (passive : frames.IsPassive (frame_unrolled_of un) heads q) (met : List Term)
      (mets : map (λ (t : Term). t.0) met ≡ q.met) (ws : List ℕ) (r : Reading) (reading : IsReading r) (pc : r.state.pc ≡ un.entry)
      (words : AreWords (part_reading (frame_unrolled_of un) r) q.nodes ws) (n : ℕ) (l : n < length un.roots.items) where
    abbrev y : Root
    y = root_at (frame_unrolled_of un) n

    met_is : (j : ℕ) → j < length un.points.items → is_met_by met ws j ≡ (swept (frame_unrolled_of un) r).met j
    met_is j k =
        let m : j < length (frame_unrolled_of un).points = (let e = points_long un un.points.items in omega arith) in
        ap (λ z. slice_index ws z == 1) (sym (mapped_get met j) ∙ ap (λ (z : List ℕ). slice_index z j) mets)
        ∙ ap (λ z. z == 1) (words.each (slice_index q.met j) (passive.bits j m).0 ∙ passive.mets r reading pc j m)
        ∙ bit_one ((swept (frame_unrolled_of un) r).met j)

    counted : (j : ℕ) → j < length un.points.items → is_met_of un.points.items n met ws j
        ≡ ((swept (frame_unrolled_of un) r).met j
        && same_anchor (point_at (frame_unrolled_of un) j).point.anchor (point_at (frame_unrolled_of un) (root_at (frame_unrolled_of un) n).place).point.anchor)
    counted j k =
        and_as (root_of_point un.points.items j == n) _ (is_met_by met ws j) ((swept (frame_unrolled_of un) r).met j) (root_test n l j k) (met_is j k)

    counts : (i : ℕ) → i ≤ length un.points.items → count_met (is_met_of un.points.items n met ws) i
        ≡ met_of (frame_unrolled_of un) (swept (frame_unrolled_of un) r)
        (point_at (frame_unrolled_of un) (root_at (frame_unrolled_of un) n).place).point.anchor i
    counts zero k = refl
    counts (suc i) k =
        ap (λ z. if z then count_met (is_met_of un.points.items n met ws) i + 1 else count_met (is_met_of un.points.items n met ws) i) (counted i (omega arith))
        ∙ ap (λ z. if (swept (frame_unrolled_of un) r).met i
        && same_anchor (point_at (frame_unrolled_of un) i).point.anchor (point_at (frame_unrolled_of un) (root_at (frame_unrolled_of un) n).place).point.anchor
        then z + 1 else z) (counts i (omega arith))

    -- the step of a place on the walk
    pub on_walk : is_assumed (frame_unrolled_of un) r (root_at (frame_unrolled_of un) n) ≡ true → (step i : ℕ) (d : Content) →
        walk_of (frame_unrolled_of un) r (root_at (frame_unrolled_of un) n) step ≡ WalkIsAt i d →
        (i < length un.points.items) × (is_met_of un.points.items n met ws i ≡ true) × (count_met (is_met_of un.points.items n met ws) i ≡ step)
    on_walk assumed step i d e =
        let h = ((sweep_is_walks (frame_unrolled_of un) walkable.rooted r).3 (root_at (frame_unrolled_of un) n) (root_inside n l) assumed step i d).0 e in
        let k : i < length un.points.items = (let a = h.0 in let b = points_long un un.points.items in omega arith) in (
          k,
          counted i k ∙ ap (λ z. z && same_anchor (point_at (frame_unrolled_of un) i).point.anchor
              (point_at (frame_unrolled_of un) (root_at (frame_unrolled_of un) n).place).point.anchor) h.2
              ∙ ap (λ z. same_anchor z (point_at (frame_unrolled_of un) (root_at (frame_unrolled_of un) n).place).point.anchor) h.1
              ∙ anchor_self (point_at (frame_unrolled_of un) (root_at (frame_unrolled_of un) n).place).point.anchor,
          counts i (omega arith) ∙ h.4,
        )
