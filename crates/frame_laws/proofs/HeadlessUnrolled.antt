-- Without invariants and contracts the unrolled program is the unrolled frame, and there is no other.
use Rattle.std.proofs.Common.{◌≡◌, ℕ, zero, suc, ◌<◌, refl, ap, sym, ◌∙◌, subst, arith, List, [], ◌∷◌, ◌++◌, length, Option, Some, None, true, false}
use Rattle.std.specs.Prelude.{Contains, map, slice_index_or}
use Rattle.std.specs.List.{AllZip}
use Rattle.std.proofs.lemmas.List.{length-map, map-append}
use Rattle.machine_spec.specs.Machine.{Row}
use Rattle.bilv_spec.specs.Run.{Program, fetchable}
use Rattle.bilv_spec.specs.Points as points
use Rattle.bilv_spec.specs.Points.{EdgeEnd, ToAddress, ToExit, file_row, file_word}
use Rattle.walk_spec.specs.Unrolled as tables
use Rattle.walk_spec.specs.Unrolling as unrolling
use Rattle.walk_spec.specs.Unrolling.{stop_event}
use Rattle.frame_spec.specs.Frames.{Frame, OfStep, is_head}
use Rattle.frame_spec.specs.FramePoints.{Anchor, AtEntry, AtHead, Point, first, IsAnchor, ArePoints, first_of, triple, is_cut}
use Rattle.frame_spec.specs.FrameWalk.{Aim, OnTo, IntoHead, Outward, OverLast, ToEvent, Cutting, Nowhere, PointExit, FalseCheck, Always, Raising, WritingKept, Unaligned, Along, Root, UnrolledPoint, UnrolledProgram, no_point, no_root, point_at}
use Rattle.frame_spec.specs.FrameUnrolling.{IsAim, IsEdge, falls_to, jumps_to, checks_of, DoesAddress, DoesBy, IsPlace, IsLiteralOf, IsRootOf, IsUnrolling}
use Rattle.frame_spec.specs.Theorems.{headless}
use Rattle.frame_spec.proofs.Headless.{no_head}
use Rattle.frame_spec.proofs.Rooted.{same_place}
use Rattle.frame_laws.specs.HeadlessLaws.{as_point, as_aim, as_exit, as_action, as_place, entry_root, as_unrolled, HeadlessUnrolling}
use Rattle.frame_laws.proofs.WalkPlaces.{a_point}
use Rattle.frame_laws.proofs.FrameAnswers.{head_anchor}
use Rattle.frame_laws.proofs.HeadlessPoints.{from, to, are_points, are_flat}
use Rattle.frame_laws.proofs.HeadlessWalks.{place_same, count_same}
use Rattle.frame_laws.proofs.HeadlessPlaces.{from_aim, from_exit, from_action, exits_back, checks_same, place_as, place_back}

points_as : (xs : List tables.UnrolledPoint) → map (λ q. q.point) (map as_place xs) ≡ map as_point (map (λ q. q.point) xs)
points_as [] = refl
points_as (q ∷ xs) = ap (λ z. as_point q.point ∷ z) (points_as xs)

-- the only anchor
module _ (p : Program) (k : ℕ) where
  abbrev f : Frame
  f = headless p

  no_anchor : {P : Type 0} (stack : List ℕ) (a : ℕ) → IsAnchor f k (AtHead stack a) → P
  no_anchor stack a h = absurd (let c : false ≡ true = sym (no_head p a) ∙ head_anchor f k (first_of p.entry (AtHead stack a)) h in cc)

  literal_as : (a : ℕ) → unrolling.IsLiteralOf p k a → IsLiteralOf f k a
  literal_as a l = record {
    point = as_point l.point;
    is_point = from p k l.point l.is_point;
    executes = refl;
    row = l.row;
    is_row = l.is_row;
    loads = l.loads;
    is_kept = l.is_kept;
  }

  literal_back : (a : ℕ) → IsLiteralOf f k a → unrolling.IsLiteralOf p k a
  literal_back a l =
      let it = to p k l.point l.is_point in
      record {
        point = it.0;
        is_point = it.1;
        row = l.row;
        is_row = sym (ap (λ z. file_row p z.at) it.2) ∙ l.is_row;
        loads = sym (ap (λ z. l.row.literal z.at) it.2) ∙ l.loads;
        is_kept = l.is_kept;
      }

  module _ (u : tables.UnrolledProgram) where
    abbrev v : UnrolledProgram
    v = as_unrolled u

    -- from the program
    module _ (un : unrolling.IsUnrolling p k u) where
      some : (x : points.Point) → Contains (map (λ q. q.point) u.points) x → 0 < length v.points
      some x (i, l, e) =
          let c = length-map u.points (λ q. q.point) in let d = count_same u in let m : 0 < length u.points = omega arith in subst (λ z. 0 < z) (sym d) m

      entry_place : IsRootOf f v entry_root AtEntry
      entry_place = record {
        place = some (record { turns = 0; stack = []; at = p.entry }) (un.points.all (record { turns = 0; stack = []; at = p.entry }) points.first);
        point = ap (λ z. z.point) (place_same u 0) ∙ ap as_point un.first;
        assumes = refl;
      }

      root_of : (x : Root) → Contains (entry_root ∷ []) x → (anchor : Anchor) × IsAnchor f k anchor × IsRootOf f v x anchor
      root_of x (zero, l, e) = (AtEntry, first, subst (λ z. IsRootOf f v z AtEntry) e entry_place)
      root_of x (suc i, l, e) = absurd (omega arith)

      rooted : (anchor : Anchor) → IsAnchor f k anchor → (x : Root) × Contains (entry_root ∷ []) x × IsRootOf f v x anchor
      rooted AtEntry h = (entry_root, (0, omega arith, refl), entry_place)
      rooted (AtHead stack a) h = no_anchor stack a h

      unrolled_as : IsUnrolling f [] k v
      unrolled_as = record {
        endian = un.endian;
        narrow = un.narrow;
        registers = un.registers;
        registers_rise = un.registers_rise;
        flags = un.flags;
        link = un.link;
        entry = un.entry;
        requires = un.requires;
        ensures = un.ensures;
        own = refl;
        kept = un.kept;
        runs = un.runs;
        kept_runs = un.kept_runs;
        known = un.known;
        known_bytes = un.known_bytes;
        literals = λ a. (λ c. literal_as a ((un.literals a).0 c), λ l. (un.literals a).1 (literal_back a l));
        points = subst (ArePoints f k) (sym (points_as u.points)) (are_points p k (map (λ q. q.point) u.points) un.points);
        first = ap (λ z. z.point) (place_same u 0) ∙ ap as_point un.first;
        roots = root_of;
        rooted = rooted;
        roots_once = λ i j l h. absurd (omega arith);
        places = λ i l. subst (IsPlace f [] k v i) (sym (place_same u i))
            (place_as p k u i (tables.point_at u i) (un.places i (subst (λ z. i < z) (count_same u) l)));
      }

    -- and back
    unrolled_back : IsUnrolling f [] k v → unrolling.IsUnrolling p k u
    unrolled_back un = record {
      endian = un.endian;
      narrow = un.narrow;
      registers = un.registers;
      registers_rise = un.registers_rise;
      flags = un.flags;
      link = un.link;
      entry = un.entry;
      requires = un.requires;
      ensures = un.ensures;
      kept = un.kept;
      runs = un.runs;
      kept_runs = un.kept_runs;
      known = un.known;
      known_bytes = un.known_bytes;
      literals = λ a. (λ c. literal_back a ((un.literals a).0 c), λ l. (un.literals a).1 (literal_as a l));
      points = are_flat p k (map (λ q. q.point) u.points) (subst (ArePoints f k) (points_as u.points) un.points);
      first = ap triple (sym (ap (λ z. z.point) (place_same u 0)) ∙ un.first);
      places = λ i l. place_back p k u i (tables.point_at u i)
          (subst (IsPlace f [] k v i) (place_same u i) (un.places i (subst (λ z. i < z) (sym (count_same u)) l)));
    }

  -- an unrolled frame is that of an unrolled program
  abbrev from_place : UnrolledPoint → tables.UnrolledPoint
  from_place q = record {
    point = triple q.point;
    length = q.length;
    does = from_action q.does;
    draws = q.draws;
    row = q.row;
    loads = q.loads;
    stores = q.stores;
    exits = map from_exit q.exits;
  }

  abbrev from_unrolled : UnrolledProgram → tables.UnrolledProgram
  from_unrolled w = record {
    endian = w.endian;
    narrow = w.narrow;
    registers = w.registers;
    flags = w.flags;
    link = w.link;
    entry = w.entry;
    requires = w.requires;
    ensures = w.ensures;
    kept = w.kept;
    known = w.known;
    literals = w.literals;
    points = map from_place w.points;
  }

  headed : {P : Type 0} (a : ℕ) → is_head f a ≡ true → P
  headed a h = absurd (let c : false ≡ true = sym (no_head p a) ∙ h in cc)

  module _ (w : UnrolledProgram) (un : IsUnrolling f [] k w) where
    aim_round : (i : ℕ) (q : Point) (t : EdgeEnd) (aim : Aim) → IsAim f k w i q t aim → as_aim (from_aim aim) ≡ aim
    aim_round i q ToExit Outward h = refl
    aim_round i q ToExit (OnTo j) h = absurd h
    aim_round i q ToExit (IntoHead at l) h = absurd h
    aim_round i q ToExit OverLast h = absurd h
    aim_round i q ToExit (ToEvent e) h = absurd h
    aim_round i q ToExit Cutting h = absurd h
    aim_round i q ToExit Nowhere h = absurd h
    aim_round i q (ToAddress l a) (OnTo j) h = refl
    aim_round i q (ToAddress l a) OverLast h = refl
    aim_round i q (ToAddress l a) (IntoHead at lines) h = headed a h.0
    aim_round i q (ToAddress l a) Outward h = absurd h
    aim_round i q (ToAddress l a) (ToEvent e) h = absurd h
    aim_round i q (ToAddress l a) Cutting h = absurd h
    aim_round i q (ToAddress l a) Nowhere h = absurd h

    edge_round : (i : ℕ) (q : Point) (o : Option Row) (t : EdgeEnd) (y : PointExit) → IsEdge f k w i q o t y → as_exit (from_exit y) ≡ y
    edge_round i q o t y e =
        ap (λ z. as_exit (from_exit z)) e.is
        ∙ ap (Along (falls_to o q t) (jumps_to f o q t) (unrolling.address_of t))
        (aim_round i q t e.aim e.leads) ∙ sym e.is

    along_round : (i : ℕ) (q : Point) (o : Option Row) (ends : List EdgeEnd) (ys : List PointExit) → AllZip (IsEdge f k w i q o) ends ys →
        map as_exit (map from_exit ys) ≡ ys
    along_round i q o [] [] h = refl
    along_round i q o [] (y ∷ ys) h = absurd h
    along_round i q o (t ∷ ends) [] h = absurd h
    along_round i q o (t ∷ ends) (y ∷ ys) h =
        ap (λ z. z ∷ map as_exit (map from_exit ys)) (edge_round i q o t y h.0) ∙ ap (λ z. y ∷ z) (along_round i q o ends ys h.1)

    module _ (i : ℕ) (q : UnrolledPoint) (x : points.Point) (at : q.point ≡ as_point x) where
      exits_round : (rest : List PointExit) → map as_exit (map from_exit rest) ≡ rest → q.exits ≡ map FalseCheck (checks_of f q.point) ++ rest →
          map as_exit (map from_exit q.exits) ≡ q.exits
      exits_round rest h e =
          let lines = unrolling.assert_exits p x in
          let is : q.exits ≡ map as_exit lines ++ rest = e ∙ ap (λ z. map FalseCheck (checks_of f z) ++ rest) at ∙ ap (λ z. z ++ rest) (checks_same p x) in
          ap (λ z. map as_exit (map from_exit z)) is
          ∙ ap (map as_exit) (map-append from_exit (map as_exit lines) rest)
          ∙ map-append as_exit (map from_exit (map as_exit lines)) (map from_exit rest)
          ∙ ap (λ z. map as_exit z ++ map as_exit (map from_exit rest)) (exits_back lines)
          ∙ ap (λ z. map as_exit lines ++ z) h ∙ sym is

      address_round : (o : Option Row) → DoesAddress f [] k w i q o →
          (map as_exit (map from_exit q.exits) ≡ q.exits) × (as_action (from_action q.does) ≡ q.does)
      address_round None d = (
        exits_round (Always (ToEvent (OfStep (stop_event (fetchable p (file_word p q.point.at) q.point.at)))) ∷ []) refl d.1,
        ap (λ z. as_action (from_action z)) d.0 ∙ sym d.0,
      )
      address_round (Some row) d = (
        exits_round (Raising ∷ WritingKept ∷ Unaligned ∷ d.0)
            (ap (λ z. Raising ∷ WritingKept ∷ Unaligned ∷ z) (along_round i q.point (Some row) d.2.0 d.0 d.2.2)) d.1,
        ap (λ z. as_action (from_action z)) d.3.lists.1 ∙ sym d.3.lists.1,
      )

      place_round : IsPlace f [] k w i q → as_place (from_place q) ≡ q
      place_round h =
          let does : DoesBy false false f [] k w i q = subst (λ z. DoesBy false z f [] k w i q) (ap (is_cut f) at ∙ no_head p x.at)
          (subst (λ z. DoesBy z.contract (is_cut f q.point) f [] k w i q) at h.does) in
          let r = address_round (file_row p q.point.at) does in
          let point : as_point (triple q.point) ≡ q.point = ap (λ z. as_point (triple z)) at ∙ sym at in
          ap (λ z. record q { point = z; does = as_action (from_action q.does); exits = map as_exit (map from_exit q.exits) }) point
          ∙ ap (λ z. record q { does = as_action (from_action q.does); exits = z }) r.0
          ∙ ap (λ z. record q { does = z }) r.1

    at_place : (i : ℕ) → i < length w.points → as_place (from_place (point_at w i)) ≡ point_at w i
    at_place i l =
        let it = to p k (point_at w i).point (a_point f [] k w un i l) in place_round i (point_at w i) it.0 it.2 (un.places i l)

    places_round : (xs : List UnrolledPoint) →
        ((i : ℕ) → i < length xs → as_place (from_place (slice_index_or xs i no_point)) ≡ slice_index_or xs i no_point) →
        map as_place (map from_place xs) ≡ xs
    places_round [] h = refl
    places_round (q ∷ xs) h =
        ap (λ z. z ∷ map as_place (map from_place xs)) (h 0 (omega arith)) ∙ ap (λ z. q ∷ z) (places_round xs (λ i l. h (suc i) (omega arith)))

    -- its root
    root_is : (x : Root) → Contains w.roots x → x ≡ entry_root
    root_is x c = let it = un.roots x c in by it.0 it.1 it.2
      where
        by : (anchor : Anchor) → IsAnchor f k anchor → IsRootOf f w x anchor → x ≡ entry_root
        by AtEntry is root =
            let zero_in : 0 < length w.points = let l = root.place in omega arith in
            let place : x.place ≡ 0 = same_place f [] k w un x.place 0 root.place zero_in (root.point ∙ sym un.first) in
            ap (λ z. record { place = z; assumes = x.assumes }) place ∙ ap (λ z. record { place = 0; assumes = z }) root.assumes
        by (AtHead stack a) is root = no_anchor stack a is

    roots_are : (xs : List Root) → w.roots ≡ xs → xs ≡ entry_root ∷ []
    roots_are [] e =
        let it = un.rooted AtEntry first in
        let c : Contains [] it.0 = subst (λ z. Contains z it.0) e it.1 in absurd (let l = c.1 in omega arith)
    roots_are (x ∷ []) e = ap (λ z. z ∷ []) (root_is x (subst (λ z. Contains z x) (sym e) (0, omega arith, refl)))
    roots_are (x ∷ y ∷ xs) e =
        let a = root_is x (subst (λ z. Contains z x) (sym e) (0, omega arith, refl)) in
        let b = root_is y (subst (λ z. Contains z y) (sym e) (1, omega arith, refl)) in
        absurd (un.roots_once 0 1 (omega arith) (subst (λ z. 1 < length z) (sym e) (omega arith))
        (ap (λ z. (slice_index_or z 0 no_root).place) e ∙ ap (λ z. z.place) (a ∙ sym b) ∙ sym (ap (λ z. (slice_index_or z 1 no_root).place) e)))

    unrolled_round : w ≡ as_unrolled (from_unrolled w)
    unrolled_round =
        ap (λ z. record w { own = z }) un.own
        ∙ ap (λ z. record w { own = None; roots = z }) (roots_are w.roots refl)
        ∙ ap (λ z. record w { own = None; roots = entry_root ∷ []; points = z }) (sym (places_round w.points at_place))

pub headless_unrolling : HeadlessUnrolling
headless_unrolling p k = (
  (λ u. (unrolled_as p k u, unrolled_back p k u)),
  (λ v un. (from_unrolled p k v, unrolled_round p k v un)),
)
