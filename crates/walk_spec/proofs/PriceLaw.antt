-- The price of an unrolled program is that of its program.
use Rattle.std.proofs.Common.{◌≡◌, refl, ap, sym, ◌∙◌, arith, ℕ, zero, suc, ◌+◌, ◌-◌, ◌*◌, ◌<◌, [], ◌∷◌, List, Option, Some, None, Bool, true, false, length}
use Rattle.std.specs.Prelude.{◌++◌, ◌==◌, ◌||◌, sum_by, map, filter, if◌then◌else◌, Contains, slice_index_or}
use Rattle.std.specs.List.{list_any, flat_map, AllZip}
use Rattle.std.proofs.lemmas.List.Sums.{sum_by-cons, sum_by-append}
use Rattle.std.proofs.lemmas.List.Folds.{list_any-append}
use Rattle.std.proofs.lemmas.Grind.{flat_map-append}
use Rattle.std.proofs.lemmas.List.{append-nil}
use Rattle.machine_spec.specs.Machine.{Row}
use Rattle.bilv_spec.specs.Notes.{Expr, Assert}
use Rattle.bilv_spec.specs.Run.{Program, fetchable}
use Rattle.bilv_spec.specs.Points.{Point, EdgeEnd, ToAddress, ToExit, edges, edges_by, distinct, leads_on, is_exit, evaluated, file_row, file_word, row_price, loads_at, stores_at, bytes_loaded, line_price, price_of}
use Rattle.bilv_spec.proofs.PointSteps.{here, there}
use Rattle.walk_spec.specs.Unrolled.{Aim, OnTo, Outward, OverLast, ToEvent, PointExit, FalseAssert, Always, Raising, WritingKept, Unaligned, UnrolledPoint, UnrolledProgram, no_point, is_edge, is_outward, goes_out}
use Rattle.walk_spec.specs.Unrolling.{IsUnrolling, IsPlace, DoesPlace, IsEdge, IsAim, assert_exits, stop_event}
use Rattle.walk_spec.specs.Prices.{line_of, lines_at, edges_of, lines_of, loads_of, stores_of, known_of, unrolled_price, PriceIsPrice}

-- exits that are no edges, with the lines of asserts
edges_in_asserts : (xs0 : List Assert) → sum_by is_edge (map (λ a. FalseAssert a.line a.says) xs0) ≡ 0
edges_in_asserts [] = refl
edges_in_asserts (a ∷ xs0) =
    let h = sum_by-cons is_edge (FalseAssert a.line a.says) (map (λ b. FalseAssert b.line b.says) xs0) in let e = edges_in_asserts xs0 in omega arith

lines_in_asserts : (xs0 : List Assert) → flat_map line_of (map (λ a. FalseAssert a.line a.says) xs0) ≡ map (λ a. a.says) xs0
lines_in_asserts [] = refl
lines_in_asserts (a ∷ xs0) = ap (λ z. a.says ∷ z) (lines_in_asserts xs0)

out_in_asserts : (xs0 : List Assert) → list_any goes_out (map (λ a. FalseAssert a.line a.says) xs0) ≡ false
out_in_asserts [] = refl
out_in_asserts (a ∷ xs0) = out_in_asserts xs0

exit_is : (t : EdgeEnd) → is_exit t ≡ true → t ≡ ToExit
exit_is ToExit h = refl
exit_is (ToAddress stack a) h = absurd (cc)

-- a list has the exit where the test says so
has_exit : (ts : List EdgeEnd) → list_any is_exit ts ≡ true → Contains ts ToExit
has_exit [] h = absurd (cc)
has_exit (ToExit ∷ ts) h = here ToExit ts
has_exit (ToAddress stack a ∷ ts) h = there (ToAddress stack a) ts ToExit (has_exit ts h)

with_exit : (ts : List EdgeEnd) → Contains ts ToExit → list_any is_exit ts ≡ true
with_exit [] (n, l, e) = absurd (omega arith)
with_exit (ToExit ∷ ts) h = refl
with_exit (ToAddress stack a ∷ ts) (zero, l, e) = let q : is_exit (ToAddress stack a) ≡ is_exit ToExit = ap is_exit e in absurd (cc)
with_exit (ToAddress stack a ∷ ts) (suc n, l, e) = with_exit ts (n, omega arith, e)

same_bool : (a b : Bool) → (a ≡ true → b ≡ true) → (b ≡ true → a ≡ true) → a ≡ b
same_bool true b f g = sym (f refl)
same_bool false true f g = g refl
same_bool false false f g = refl

module _ (p : Program) (k : ℕ) (u : UnrolledProgram) (i : ℕ) where
  out_by_aim : (point : Point) (t : EdgeEnd) (aim : Aim) → IsAim u k i point t aim → is_outward aim ≡ is_exit t
  out_by_aim point ToExit Outward h = refl
  out_by_aim point ToExit (OnTo n) h = absurd h
  out_by_aim point ToExit OverLast h = absurd h
  out_by_aim point ToExit (ToEvent e) h = absurd h
  out_by_aim point (ToAddress stack a) (OnTo n) h = refl
  out_by_aim point (ToAddress stack a) OverLast h = refl
  out_by_aim point (ToAddress stack a) Outward h = absurd h
  out_by_aim point (ToAddress stack a) (ToEvent e) h = absurd h

  module _ (point : Point) (row : Row) where
    edge_counts : (ends : List EdgeEnd) (xs : List PointExit) → AllZip (IsEdge p k u i point row) ends xs → sum_by is_edge xs ≡ length ends
    edge_counts [] [] z = refl
    edge_counts [] (x ∷ xs) z = absurd z
    edge_counts (t ∷ ts) [] z = absurd z
    edge_counts (t ∷ ts) (x ∷ xs) z =
        let a = sum_by-cons is_edge x xs in let b = edge_counts ts xs z.1 in let c : is_edge x ≡ 1 = ap is_edge z.0.is in omega arith

    edge_lines : (ends : List EdgeEnd) (xs : List PointExit) → AllZip (IsEdge p k u i point row) ends xs → flat_map line_of xs ≡ []
    edge_lines [] [] z = refl
    edge_lines [] (x ∷ xs) z = absurd z
    edge_lines (t ∷ ts) [] z = absurd z
    edge_lines (t ∷ ts) (x ∷ xs) z = ap (λ y. line_of y ++ flat_map line_of xs) z.0.is ∙ edge_lines ts xs z.1

    edge_outs : (ends : List EdgeEnd) (xs : List PointExit) → AllZip (IsEdge p k u i point row) ends xs → list_any goes_out xs ≡ list_any is_exit ends
    edge_outs [] [] z = refl
    edge_outs [] (x ∷ xs) z = absurd z
    edge_outs (t ∷ ts) [] z = absurd z
    edge_outs (t ∷ ts) (x ∷ xs) z =
        ap (λ y. goes_out y || list_any goes_out xs) z.0.is
        ∙ ap (λ y. y || list_any goes_out xs) (out_by_aim point t z.0.aim z.0.leads) ∙ ap (λ y. is_exit t || y) (edge_outs ts xs z.1)

  -- what is counted at a point is what its program counts there
  record Counts (q : UnrolledPoint) : Type 0 where
    ends : sum_by is_edge q.exits ≡ length (edges p q.point)
    lines : lines_at u q ≡ evaluated p q.point
    outs : list_any goes_out q.exits ≡ list_any is_exit (edges p q.point)

  module _ (same_ensures : u.ensures ≡ p.notes.ensures) (q : UnrolledPoint) where
    asserts : List Assert
    asserts = filter (λ a. a.at == q.point.at) p.notes.asserts

    lines_by : (b : Bool) → list_any is_exit (edges p q.point) ≡ b →
        flat_map line_of q.exits ≡ map (λ a. a.says) (filter (λ a. a.at == q.point.at) p.notes.asserts) →
        list_any goes_out q.exits ≡ list_any is_exit (edges p q.point) → lines_at u q ≡ evaluated p q.point
    lines_by b e f g =
        ap (λ z. z ++ (if list_any goes_out q.exits then map (λ l. l.says) u.ensures else [])) f
        ∙ ap (λ z. map (λ a. a.says) (filter (λ a. a.at == q.point.at) p.notes.asserts) ++ (if z then map (λ l. l.says) u.ensures else [])) g
        ∙ ap (λ z. map (λ a. a.says) (filter (λ a. a.at == q.point.at) p.notes.asserts)
        ++ (if list_any is_exit (edges p q.point) then map (λ l. l.says) z else [])) same_ensures

    counts : (o : Option Row) → file_row p q.point.at ≡ o → DoesPlace p k u i q o → Counts q
    counts None e d =
        let none : edges p q.point ≡ [] = ap (λ z. distinct (filter (leads_on p.machine.narrow) (edges_by p q.point z))) e in
        let stop = Always (stop_event (fetchable p (file_word p q.point.at) q.point.at)) ∷ [] in
        let xs0 = filter (λ a. a.at == q.point.at) p.notes.asserts in
        let outs : list_any goes_out q.exits ≡ list_any is_exit (edges p q.point)
        = ap (list_any goes_out) d.1
        ∙ list_any-append goes_out (assert_exits p q.point) (Always (stop_event (fetchable p (file_word p q.point.at) q.point.at)) ∷ [])
        ∙ ap (λ z. z || false) (out_in_asserts xs0) ∙ sym (ap (list_any is_exit) none) in
        record {
          ends =
              ap (sum_by is_edge) d.1 ∙ sum_by-append is_edge (assert_exits p q.point) (Always (stop_event (fetchable p (file_word p q.point.at) q.point.at)) ∷ [])
              ∙ (let a = edges_in_asserts xs0 in let b : length (edges p q.point) ≡ 0 = ap (λ (z : List EdgeEnd). length z) none in omega arith);
          lines = lines_by (list_any is_exit (edges p q.point)) refl
              (ap (flat_map line_of) d.1 ∙ flat_map-append line_of (assert_exits p q.point) (Always (stop_event (fetchable p (file_word p q.point.at) q.point.at)) ∷ [])
              ∙ ap (λ z. z ++ []) (lines_in_asserts xs0) ∙ append-nil (map (λ a. a.says) xs0)) outs;
          outs = outs;
        }
    counts (Some row) e d =
        let xs0 = filter (λ a. a.at == q.point.at) p.notes.asserts in
        let tail = Raising ∷ WritingKept ∷ Unaligned ∷ d.0 in
        let c = d.2.1 in
        let outs : list_any goes_out q.exits ≡ list_any is_exit (edges p q.point)
        = ap (list_any goes_out) d.1 ∙ list_any-append goes_out (assert_exits p q.point) (Raising ∷ WritingKept ∷ Unaligned ∷ d.0)
        ∙ ap (λ z. z || list_any goes_out d.0) (out_in_asserts xs0) ∙ edge_outs q.point row d.2.0 d.0 d.2.2
        ∙ same_bool (list_any is_exit d.2.0) (list_any is_exit (edges p q.point))
        (λ h. with_exit (edges p q.point) ((c.same ToExit).1 (has_exit d.2.0 h)))
        (λ h. with_exit d.2.0 ((c.same ToExit).0 (has_exit (edges p q.point) h))) in
        record {
          ends =
              ap (sum_by is_edge) d.1 ∙ sum_by-append is_edge (assert_exits p q.point) (Raising ∷ WritingKept ∷ Unaligned ∷ d.0)
              ∙ ap (λ z. z + sum_by is_edge (Raising ∷ WritingKept ∷ Unaligned ∷ d.0)) (edges_in_asserts xs0)
              ∙ (let f = edge_counts q.point row d.2.0 d.0 d.2.2 in let n = c.count in
              let x = sum_by-cons is_edge Raising (WritingKept ∷ Unaligned ∷ d.0) in let y = sum_by-cons is_edge WritingKept (Unaligned ∷ d.0) in
              let z = sum_by-cons is_edge Unaligned d.0 in omega arith);
          lines = lines_by (list_any is_exit (edges p q.point)) refl
              (ap (flat_map line_of) d.1 ∙ flat_map-append line_of (assert_exits p q.point) (Raising ∷ WritingKept ∷ Unaligned ∷ d.0)
              ∙ ap (λ z. z ++ flat_map line_of d.0) (lines_in_asserts xs0) ∙ ap (λ z. map (λ a. a.says) xs0 ++ z) (edge_lines q.point row d.2.0 d.0 d.2.2)
              ∙ append-nil (map (λ a. a.says) xs0)) outs;
          outs = outs;
        }

-- sums over points that agree at each
sum_points : (P : UnrolledPoint → Type 0) (f : UnrolledPoint → ℕ) (g : Point → ℕ) → ((q : UnrolledPoint) → P q → f q ≡ g q.point) →
    (qs : List UnrolledPoint) → ((i : ℕ) → i < length qs → P (slice_index_or qs i no_point)) → sum_by f qs ≡ sum_by g (map (λ q. q.point) qs)
sum_points P f g same [] each = refl
sum_points P f g same (q ∷ qs) each =
    sum_by-cons f q qs ∙ ap (λ z. z + sum_by f qs) (same q (each 0 (omega arith)))
    ∙ ap (λ z. g q.point + z) (sum_points P f g same qs (λ i l. each (suc i) (omega arith)))
    ∙ sym (sum_by-cons g q.point (map (λ x. x.point) qs))

lines_points : (P : UnrolledPoint → Type 0) (f : UnrolledPoint → List Expr) (g : Point → List Expr) → ((q : UnrolledPoint) → P q → f q ≡ g q.point) →
    (qs : List UnrolledPoint) → ((i : ℕ) → i < length qs → P (slice_index_or qs i no_point)) → flat_map f qs ≡ flat_map g (map (λ q. q.point) qs)
lines_points P f g same [] each = refl
lines_points P f g same (q ∷ qs) each =
    ap (λ z. z ++ flat_map f qs) (same q (each 0 (omega arith)))
    ∙ ap (λ z. g q.point ++ z) (lines_points P f g same qs (λ i l. each (suc i) (omega arith)))

-- and counts of points that agree at each
count_points : (P : UnrolledPoint → Type 0) (f : UnrolledPoint → Bool) (g : Point → Bool) → ((q : UnrolledPoint) → P q → f q ≡ g q.point) →
    (qs : List UnrolledPoint) → ((i : ℕ) → i < length qs → P (slice_index_or qs i no_point)) →
    length (filter f qs) ≡ length (filter g (map (λ q. q.point) qs))
count_points P f g same [] each = refl
count_points P f g same (q ∷ qs) each =
    let rest = count_points P f g same qs (λ i l. each (suc i) (omega arith)) in
    ap (λ z. length (if z then q ∷ filter f qs else filter f qs)) (same q (each 0 (omega arith))) ∙ by (g q.point) rest
  where
    by : (b : Bool) → length (filter f qs) ≡ length (filter g (map (λ x. x.point) qs)) →
        length (if b then q ∷ filter f qs else filter f qs)
        ≡ length (if b then q.point ∷ filter g (map (λ x. x.point) qs) else filter g (map (λ x. x.point) qs))
    by true e = omega arith
    by false e = e

module _ (p : Program) (k : ℕ) (u : UnrolledProgram) (un : IsUnrolling p k u) where
  abbrev Place : UnrolledPoint → Type 0
  Place q = (i : ℕ) × IsPlace p k u i q (file_row p q.point.at)

  each : (i : ℕ) → i < length u.points → Place (slice_index_or u.points i no_point)
  each i l = (i, un.places i l)

  count_of : (q : UnrolledPoint) → (h : Place q) → Counts p k u h.0 q
  count_of q h = counts p k u h.0 un.ensures q (file_row p q.point.at) refl h.1.does

  row_sum : sum_by (λ q. q.row) u.points ≡ sum_by (λ point. row_price (file_row p point.at)) (map (λ q. q.point) u.points)
  row_sum = sum_points Place (λ q. q.row) (λ point. row_price (file_row p point.at)) (λ q h. h.1.counted.row_cost) u.points each

  pub load_sum : sum_by (λ q. q.loads) u.points ≡ sum_by (λ point. loads_at p point.at (file_row p point.at)) (map (λ q. q.point) u.points)
  load_sum = sum_points Place (λ q. q.loads) (λ point. loads_at p point.at (file_row p point.at)) (λ q h. h.1.counted.loads) u.points each

  pub store_sum : stores_of u ≡ sum_by (λ point. stores_at (file_row p point.at)) (map (λ q. q.point) u.points)
  store_sum = sum_points Place (λ q. q.stores) (λ point. stores_at (file_row p point.at)) (λ q h. h.1.counted.stores) u.points each

  pub end_sum : edges_of u ≡ sum_by (λ point. length (edges p point)) (map (λ q. q.point) u.points)
  end_sum = sum_points Place (λ q. sum_by is_edge q.exits) (λ point. length (edges p point)) (λ q h. (count_of q h).ends) u.points each

  -- the points that may exit
  pub out_count : length (filter (λ q. list_any goes_out q.exits) u.points)
      ≡ length (filter (λ point. list_any is_exit (edges p point)) (map (λ q. q.point) u.points))
  out_count =
      count_points Place (λ q. list_any goes_out q.exits) (λ point. list_any is_exit (edges p point)) (λ q h. (count_of q h).outs) u.points each

  pub line_list : lines_of u ≡ map (λ l. l.says) p.notes.requires ++ flat_map (evaluated p) (map (λ q. q.point) u.points)
  line_list =
      ap (λ z. map (λ l. l.says) z ++ flat_map (lines_at u) u.points) un.requires
      ∙ ap (λ z. map (λ l. l.says) p.notes.requires ++ z) (lines_points Place (lines_at u) (evaluated p) (λ q h. (count_of q h).lines) u.points each)

  -- the price by its parts
  abbrev total : (rows ends lines loads stores known runs : ℕ) → ℕ
  total r e n l s kn ru = 1024 + r + 1280 * e + n + 128 * l + 128 * s + 64 * (l * s) + 16 * (l * e) + 32 * (l * (l - 1)) + 40 * (l * kn) + 128 * (s * ru)

  unrolled_total : unrolled_price u ≡ total (sum_by (λ q. q.row) u.points) (edges_of u) (sum_by line_price (lines_of u)) (loads_of u) (stores_of u) (known_of u)
      (length u.kept)
  unrolled_total = omega arith

  pub same_price : unrolled_price u ≡ price_of p (map (λ q. q.point) u.points) (known_of u) (length u.kept)
  same_price =
      unrolled_total
      ∙ ap (λ z. total z (edges_of u) (sum_by line_price (lines_of u)) (loads_of u) (stores_of u) (known_of u) (length u.kept)) row_sum
      ∙ ap (λ z. total (sum_by (λ point. row_price (file_row p point.at)) (map (λ q. q.point) u.points)) z (sum_by line_price (lines_of u)) (loads_of u)
      (stores_of u) (known_of u) (length u.kept)) end_sum
      ∙ ap (λ z. total (sum_by (λ point. row_price (file_row p point.at)) (map (λ q. q.point) u.points)) (sum_by
      (λ point. length (edges p point)) (map (λ q. q.point) u.points)) (sum_by line_price z) (sum_by
      (λ q. q.loads) u.points + sum_by bytes_loaded z) (stores_of u) (known_of u) (length u.kept)) line_list
      ∙ ap (λ z. total (sum_by (λ point. row_price (file_row p point.at)) (map (λ q. q.point) u.points)) (sum_by
      (λ point. length (edges p point)) (map (λ q. q.point) u.points)) (sum_by line_price (map (λ l. l.says) p.notes.requires
      ++ flat_map (evaluated p) (map (λ q. q.point) u.points))) (z + sum_by bytes_loaded (map (λ l. l.says) p.notes.requires
      ++ flat_map (evaluated p) (map (λ q. q.point) u.points))) (stores_of u) (known_of u) (length u.kept)) load_sum
      ∙ ap (λ z. total (sum_by (λ point. row_price (file_row p point.at)) (map (λ q. q.point) u.points)) (sum_by
      (λ point. length (edges p point)) (map (λ q. q.point) u.points)) (sum_by line_price (map (λ l. l.says) p.notes.requires
      ++ flat_map (evaluated p) (map (λ q. q.point) u.points))) (sum_by
      (λ point. loads_at p point.at (file_row p point.at)) (map (λ q. q.point) u.points) + sum_by bytes_loaded (map (λ l. l.says) p.notes.requires
      ++ flat_map (evaluated p) (map (λ q. q.point) u.points))) z (known_of u) (length u.kept)) store_sum

pub price_is_price : PriceIsPrice
price_is_price p k u un = (map (λ q. q.point) u.points, known_of u, length u.kept, un.points, un.known_bytes, un.kept_runs, same_price p k u un)
