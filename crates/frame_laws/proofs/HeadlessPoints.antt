-- Without invariants and contracts the points of a frame are its program's, and so is the price.
use Rattle.std.proofs.Common.{◌≡◌, ℕ, suc, ◌+◌, ◌-◌, ◌*◌, ◌≤◌, ◌<◌, refl, ap, sym, ◌∙◌, subst, arith, List, [], ◌∷◌, ◌++◌, length, Option, Some, None, Bool, true, false}
use Rattle.std.specs.Prelude.{Contains, if◌then◌else◌, map, sum_by, slice_get, option_map}
use Rattle.std.specs.List.{list_any, flat_map}
use Rattle.std.proofs.lemmas.Option.{slice_get-map}
use Rattle.std.proofs.lemmas.List.{append-nil, length-map}
use Rattle.std.proofs.lemmas.List.Sums.{sum_by-cons}
use Rattle.bilv_spec.specs.Run.{Program}
use Rattle.bilv_spec.specs.Points as points
use Rattle.bilv_spec.specs.Points.{EdgeEnd, ToAddress, ToExit, edges, end_of, is_exit, file_row, row_price, loads_at, stores_at, bytes_loaded, line_price}
use Rattle.bilv_spec.proofs.PointSteps.{in_map}
use Rattle.bilv_spec.proofs.PointsInGraph.{of_map}
use Rattle.frame_spec.specs.Frames.{Frame}
use Rattle.frame_spec.specs.FramePoints as FramePoints
use Rattle.frame_spec.specs.FramePoints.{AtEntry, AtHead, Point, IsPoint, first, entry_head, next, ArePoints, first_of, point_to, triple, frame_edges, evaluated, lines_at, lines_of_end, entry_lines, exit_lines, says_of, point_price, point_loads, point_stores, own_exit, price_of, has_heads}
use Rattle.frame_spec.specs.Theorems.{headless}
use Rattle.frame_spec.proofs.Headless.{no_head}
use Rattle.frame_spec.proofs.HeadlessVerdict.{none_at}
use Rattle.frame_laws.proofs.OnceLists.{mapped_sum, mapped_lines}
use Rattle.frame_laws.specs.HeadlessLaws.{as_point, HeadlessPoints, HeadlessPrice}

module _ (p : Program) where
  abbrev f : Frame
  f = headless p

  pub edges_same : (x : points.Point) → frame_edges f (as_point x) ≡ edges p x
  edges_same x = ap (λ (z : Bool). if z then [] else edges p x) (no_head p x.at)

  pub end_same : (x : points.Point) (stack : List ℕ) (a : ℕ) → FramePoints.end_of f (as_point x) stack a ≡ as_point (end_of x stack a)
  end_same x stack a = ap (λ (z : Bool). if z then first_of p.entry (AtHead stack a) else point_to false (as_point x) stack a) (no_head p a)

  module _ (k : ℕ) where
    pub from : (x : points.Point) → points.IsPoint p k x → IsPoint f k (as_point x)
    from x points.first = first
    from x (points.next {point = y} {stack} {a} is edge l) =
        subst (IsPoint f k) (end_same y stack a)
        (next (from y is) (subst (λ z. Contains z (ToAddress stack a)) (sym (edges_same y)) edge)
        (subst (λ (z : Point). z.turns ≤ k) (sym (end_same y stack a)) l))

    pub to : (q : Point) → IsPoint f k q → (x : points.Point) × points.IsPoint p k x × (q ≡ as_point x)
    to q first = (record { turns = 0; stack = []; at = p.entry }, points.first, refl)
    to q (entry_head h) = absurd (let c : false ≡ true = sym (no_head p p.entry) ∙ h in cc)
    to q (next {q = y} {stack} {a} is edge l) =
        let it = to y is in
        let x = it.0 in
        let end : FramePoints.end_of f y stack a ≡ as_point (end_of x stack a) = ap (λ z. FramePoints.end_of f z stack a) it.2 ∙ end_same x stack a in (
          end_of x stack a,
          points.next it.1 (subst (λ z. Contains z (ToAddress stack a)) (ap (frame_edges f) it.2 ∙ edges_same x) edge)
              (subst (λ (z : Point). z.turns ≤ k) end l),
          end,
        )

    there_and_back : (o : Option points.Point) → option_map triple (option_map as_point o) ≡ o
    there_and_back None = refl
    there_and_back (Some x) = refl

    flat_once : (xs : List points.Point) (i : ℕ) → option_map triple (slice_get (map as_point xs) i) ≡ slice_get xs i
    flat_once xs i = ap (option_map triple) (slice_get-map as_point xs i) ∙ there_and_back (slice_get xs i)

    pub are_points : (xs : List points.Point) → points.ArePoints p k xs → ArePoints f k (map as_point xs)
    are_points xs are = record {
      all = λ q is. (let it = to q is in subst (Contains (map as_point xs)) (sym it.2) (in_map as_point xs it.0 (are.all it.0 it.1)));
      only = λ q c. (let it = of_map as_point xs q c in subst (IsPoint f k) it.2 (from it.0 (are.only it.0 it.1)));
      once = λ i j l h e. are.once i j l (subst (λ z. j < z) (length-map xs as_point) h) (sym (flat_once xs i) ∙ ap (option_map triple) e ∙ flat_once xs j);
    }

    flat_in : (xs : List points.Point) (x : points.Point) → Contains (map as_point xs) (as_point x) → Contains xs x
    flat_in xs x c = let it = of_map as_point xs (as_point x) c in subst (Contains xs) (ap triple it.2) it.1

    pub are_flat : (xs : List points.Point) → ArePoints f k (map as_point xs) → points.ArePoints p k xs
    are_flat xs are = record {
      all = λ x is. flat_in xs x (are.all (as_point x) (from x is));
      only = λ x c. (let it = to (as_point x) (are.only (as_point x) (in_map as_point xs x c)) in subst (points.IsPoint p k) (sym (ap triple it.2)) it.1);
      once = λ i j l h e. are.once i j l (subst (λ z. j < z) (sym (length-map xs as_point)) h)
          (slice_get-map as_point xs i ∙ ap (option_map as_point) e ∙ sym (slice_get-map as_point xs j));
    }

  -- the lines and sums of the price
  no_line : (t : EdgeEnd) → lines_of_end f t ≡ []
  no_line ToExit = refl
  no_line (ToAddress stack a) = ap (λ (z : Bool). if z then lines_at f a else []) (no_head p a)

  no_lines : (ends : List EdgeEnd) → flat_map (lines_of_end f) ends ≡ []
  no_lines [] = refl
  no_lines (t ∷ ends) = ap (λ z. z ++ flat_map (lines_of_end f) ends) (no_line t) ∙ no_lines ends

  lines_same : (x : points.Point) → evaluated f (as_point x) ≡ points.evaluated p x
  lines_same x =
      ap (λ z. lines_at f x.at ++ z ++ (if list_any is_exit (frame_edges f (as_point x)) then exit_lines f else [])) (no_lines (frame_edges f (as_point x)))
      ∙ ap (λ z. z ++ (if list_any is_exit (frame_edges f (as_point x)) then exit_lines f else [])) (append-nil (lines_at f x.at))
      ∙ ap (λ z. lines_at f x.at ++ (if list_any is_exit z then exit_lines f else [])) (edges_same x)

  nothing : (xs : List Point) → sum_by (λ q. own_exit f.own (list_any is_exit (frame_edges f q))) xs ≡ 0
  nothing [] = refl
  nothing (q ∷ xs) = sum_by-cons (λ q. own_exit f.own (list_any is_exit (frame_edges f q))) q xs ∙ ap (λ z. 0 + z) (nothing xs)

  pub headless_heads : has_heads f ≡ false
  headless_heads = none_at p 0 p.notes.asserts

  pub its_lines : (xs : List points.Point) →
      (entry_lines f ++ flat_map (evaluated f) (map as_point xs)) ≡ (map (λ l. l.says) p.notes.requires ++ flat_map (points.evaluated p) xs)
  its_lines xs =
      ap (λ z. z ++ flat_map (evaluated f) (map as_point xs)) (append-nil (says_of p.notes.requires))
      ∙ ap (λ z. says_of p.notes.requires ++ z) (mapped_lines as_point (evaluated f) (points.evaluated p) lines_same xs)

  plain_sum : (rows ends lines a b c d e g h : ℕ) →
      1024 + 0 + rows + ends + lines + 0 + 512 * 0 + a + b + c + d + e + g + h ≡ 1024 + rows + ends + lines + a + b + c + d + e + g + h
  plain_sum rows ends lines a b c d e g h = omega arith

  arithmetic : (rows ends lines loads stores known runs : ℕ) →
      1024 + 0 + rows + 1280 * ends + lines + 0 + 512 * (stores * 0)
      + 128 * loads + 128 * stores + 64 * (loads * stores) + 16 * (loads * ends) + 32 * (loads * (loads - 1)) + 40 * (loads * known) + 128 * (stores * runs)
      ≡ 1024 + rows + 1280 * ends + lines
      + 128 * loads + 128 * stores + 64 * (loads * stores) + 16 * (loads * ends) + 32 * (loads * (loads - 1)) + 40 * (loads * known) + 128 * (stores * runs)
  arithmetic rows ends lines loads stores known runs =
      let e : stores * 0 ≡ 0 = omega arith in
      rw e (plain_sum rows (1280 * ends) lines (128 * loads) (128 * stores) (64 * (loads * stores)) (16 * (loads * ends)) (32 * (loads * (loads - 1)))
      (40 * (loads * known)) (128 * (stores * runs)))

  price_same : (xs : List points.Point) (known runs : ℕ) → price_of f (map as_point xs) known runs ≡ points.price_of p xs known runs
  price_same xs known runs =
      rw (
        headless_heads,
        its_lines xs,
        nothing (map as_point xs),
        mapped_sum as_point (λ q. length (frame_edges f q)) (λ x. length (edges p x)) (λ x. ap length (edges_same x)) xs,
        mapped_sum as_point (point_price f) (λ x. row_price (file_row p x.at)) (λ x. refl) xs,
        mapped_sum as_point (point_loads f) (λ x. loads_at p x.at (file_row p x.at)) (λ x. refl) xs,
        mapped_sum as_point (point_stores f) (λ x. stores_at (file_row p x.at)) (λ x. refl) xs,
      ) (arithmetic (sum_by (λ x. row_price (file_row p x.at)) xs) (sum_by (λ x. length (edges p x)) xs)
      (sum_by line_price (map (λ l. l.says) p.notes.requires ++ flat_map (points.evaluated p) xs))
      (sum_by (λ x. loads_at p x.at (file_row p x.at)) xs
      + sum_by bytes_loaded (map (λ l. l.says) p.notes.requires ++ flat_map (points.evaluated p) xs))
      (sum_by (λ x. stores_at (file_row p x.at)) xs) known runs)

pub headless_points : HeadlessPoints
headless_points p k q = (to p k q, λ it. subst (IsPoint (headless p) k) (sym it.2) (from p k it.0 it.1))

-- a list of points of the frame is one of points of the program
pub flat_list : (p : Program) (k : ℕ) (list : List Point) → ((q : Point) → Contains list q → IsPoint (headless p) k q) → map as_point (map triple list) ≡ list
flat_list p k [] h = refl
flat_list p k (q ∷ list) h =
    let it = to p k q (h q (0, omega arith, refl)) in
    let e : as_point (triple q) ≡ q = ap (λ z. as_point (triple z)) it.2 ∙ sym it.2 in
    ap (λ z. z ∷ map as_point (map triple list)) e ∙ ap (λ z. q ∷ z) (flat_list p k list (λ x c. h x (suc c.0, (let l = c.1 in omega arith), c.2)))

pub headless_price : HeadlessPrice
headless_price p k price = (
  (λ (list, known, runs, are, c, d, e). (let same = flat_list p k list are.only in (
    map triple list,
    known,
    runs,
    are_flat p k (map triple list) (subst (ArePoints (headless p) k) (sym same) are),
    c,
    d,
    e ∙ ap (λ z. price_of (headless p) z known runs) (sym same) ∙ price_same p (map triple list) known runs,
  ))),
  (λ (xs, known, runs, are, c, d, e). (map as_point xs, known, runs, are_points p k xs are, c, d, e ∙ sym (price_same p xs known runs))),
)
