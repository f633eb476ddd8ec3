-- A program whose exit is a place, as a value.
use Rattle.std.proofs.Common.{◌≡◌, inl, inr, ℕ, suc, ◌+◌, ◌-◌, ◌<◌, ◌≤◌, true, false, List, [], ◌∷◌, ◌++◌, Option, None, Some, length, take, drop, set, get_or, refl, ap, sym, subst, ◌∙◌, arith}
use Rattle.std.specs.Prelude.{map, slice_range, slice_index_or}
use Rattle.std.proofs.lemmas.List.{map-append, length-map, length_push, take-map, drop-map, get_or_append_left, get_or_push, drop-append-le, take_all, drop_all, append-nil}
use Rattle.std.proofs.lemmas.List.Edits.{map_over_more}
use Rattle.std.proofs.lemmas.Bool.Decides.{eqb_tells}
use Rattle.std.specs.Global.{Vec}
use Rattle.machine_spec.specs.Bil.{Statements, Empty}
use Rattle.bilv_spec.specs.Notes as notes
use Rattle.bil_ast.specs.declared.statements.Stmt.{Stmt}
use Rattle.bil_ast.specs.Views.{statements}
use Rattle.walk_spec.specs.Unrolled.{PointExit, Raising, WritingKept, Unaligned, Executes, UnrolledPoint}
use Rattle.notes_value.specs.NoteViews.{notes_of}
use Rattle.program_points.proofs.Stacked.{stack_none}
use Rattle.question_form.specs.declared.unrolled.Aim.{Aim}
use Rattle.question_form.specs.declared.unrolled.Deed.TheVariants.{Row}
use Rattle.question_form.specs.declared.unrolled.Aim.TheVariants.{OnTo, IntoHead, Outward, OverLast}
use Rattle.question_form.specs.declared.unrolled.Edge.{Edge}
use Rattle.question_form.specs.declared.unrolled.Code.{Code}
use Rattle.question_form.specs.declared.unrolled.Point.{Point}
use Rattle.question_form.specs.declared.unrolled.Unrolled.{Unrolled}
use Rattle.question_form.specs.Views.{edge_of, assert_exit, row_exits, no_code, code_of, edges_from, point_by, point_of, points_of, unrolled_of}
use Rattle.question_form.specs.Forms.{IsFormed}
use Rattle.passify.proofs.Pushed.{other_default}
use Rattle.pair_spec.specs.PairTerms.{exit_aimed, exit_place, point_aimed, with_exit_place}
use Rattle.pair_terms.specs.Places.{led_to, edge_led}

-- an edge that is led to a place
edge_same : (n : ℕ) (falls jumps : _) (to : _) (a : Aim) →
    edge_of (record { falls = falls; jumps = jumps; to = to; aim = led_to n a }) ≡ exit_aimed n (edge_of (record { falls = falls; jumps = jumps; to = to; aim = a }))
edge_same n falls jumps to Outward = refl
edge_same n falls jumps to (OnTo i) = refl
edge_same n falls jumps to (IntoHead at asserts) = refl
edge_same n falls jumps to OverLast = refl

edges_same : (n : ℕ) (es : List Edge) → map edge_of (map (edge_led n) es) ≡ map (exit_aimed n) (map edge_of es)
edges_same n [] = refl
edges_same n (e ∷ es) = (λ k. edge_same n e.falls e.jumps e.to e.aim k ∷ edges_same n es k)

-- the other exits stay
asserts_same : (n : ℕ) (asserts : List notes.Assert) (xs : List (ℕ × ℕ)) → map (assert_exit asserts) xs ≡ map (exit_aimed n) (map (assert_exit asserts) xs)
asserts_same n asserts [] = refl
asserts_same n asserts (x ∷ xs) = ap (λ (l : List PointExit). assert_exit asserts x ∷ l) (asserts_same n asserts xs)

row_same : (n : ℕ) (fetchable : _) (list : Option (Vec Stmt)) (es : List Edge) →
    row_exits fetchable list (map (edge_led n) es) ≡ map (exit_aimed n) (row_exits fetchable list es)
row_same n fetchable None es = refl
row_same n fetchable (Some list) es = ap (λ (l : List PointExit). Raising ∷ WritingKept ∷ Unaligned ∷ l) (edges_same n es)

exits_same : (n : ℕ) (asserts : List notes.Assert) (xs : List (ℕ × ℕ)) (fetchable : _) (list : Option (Vec Stmt)) (es : List Edge) →
    map (assert_exit asserts) xs ++ row_exits fetchable list (map (edge_led n) es)
    ≡ map (exit_aimed n) (map (assert_exit asserts) xs ++ row_exits fetchable list es)
exits_same n asserts xs fetchable list es =
    (λ k. asserts_same n asserts xs k ++ row_same n fetchable list es k)
    ∙ sym (map-append (exit_aimed n) (map (assert_exit asserts) xs) (row_exits fetchable list es))

range_same : (n : ℕ) (es : List Edge) (a b : ℕ) → slice_range (map (edge_led n) es) a b ≡ map (edge_led n) (slice_range es a b)
range_same n es a b = ap (take (b - a)) (drop-map (edge_led n) a es) ∙ take-map (edge_led n) (b - a) (drop a es)

take_none : {X : Type 0} → (xs : List X) → take 0 xs ≡ []
take_none [] = refl
take_none (x ∷ xs) = refl

no_point : Point
no_point = record { root = 0; turns = 4097; code = 0; stack = 0; deed = Row; edges = 0 }

-- an empty range of a list
no_range : {X : Type 0} → (xs : List X) (a : ℕ) → slice_range xs a a ≡ []
no_range xs a = let z : a - a ≡ 0 = omega arith in ap (λ (k : ℕ). take k (drop a xs)) z ∙ take_none (drop a xs)

-- the point of the exit
abbrev pub exit_code : Vec Stmt → Code
exit_code list = record { at = 0; length = 4; fetchable = true; list = Some list; draws = false; row = 64; loads = 0; stores = 0; asserts = (0, 0) }

abbrev pub exit_point : Unrolled → Point
exit_point u = record { root = 0; turns = 4097; code = length u.codes.items; stack = 0; deed = Row; edges = length u.edges.items }

-- a program with a code more, a point more, and its edges led to a place
module _ (u : Unrolled) (codes : Vec Code) (points : Vec Point) (edges : Vec Edge) (list : Vec Stmt)
    (codes_are : codes.items ≡ u.codes.items ++ exit_code list ∷ []) (points_are : points.items ≡ u.points.items ++ exit_point u ∷ [])
    (edges_are : edges.items ≡ map (edge_led (length u.points.items)) u.edges.items) (empty : list.items ≡ []) (formed : IsFormed u) where
  abbrev n : ℕ
  n = length u.points.items

  abbrev v : Unrolled
  v = record u { codes = codes; points = points; edges = edges }

  edge_count : length edges.items ≡ length u.edges.items
  edge_count = ap length edges_are ∙ length-map u.edges.items (edge_led n)

  -- the code of a point
  old_code : (i : ℕ) (d : Code) → i < length u.codes.items → slice_index_or codes.items i d ≡ slice_index_or u.codes.items i d
  old_code i d l = ap (λ (z : List Code). slice_index_or z i d) codes_are ∙ get_or_append_left u.codes.items (exit_code list ∷ []) d i l

  new_code : (d : Code) → slice_index_or codes.items (length u.codes.items) d ≡ exit_code list
  new_code d = ap (λ (z : List Code). slice_index_or z (length u.codes.items) d) codes_are ∙ get_or_push u.codes.items (exit_code list) d (length u.codes.items) refl

  -- where the edges of a point end
  ends_same : (rest : List Point) → edges_from v (rest ++ exit_point u ∷ []) ≡ edges_from u rest
  ends_same [] = refl
  ends_same (q ∷ rest) = refl

  -- a point with its code and edges
  point_by_same : (q : Point) (k : Code) (es : List Edge) → point_by v q k (map (edge_led n) es) ≡ point_aimed n (point_by u q k es)
  point_by_same q k es =
      ap (λ (xs : List PointExit). record (point_by u q k es) { exits = xs })
      (exits_same n (notes_of u.notes.now).asserts (slice_range u.asserts.items k.asserts.0 k.asserts.1) k.fetchable k.list es)

  point_same : (q : Point) (rest : List Point) → q.code < length u.codes.items → point_of v q (rest ++ exit_point u ∷ []) ≡ point_aimed n (point_of u q rest)
  point_same q rest l =
      ap (λ (k : Code). point_by v q k (slice_range edges.items q.edges (edges_from v (rest ++ exit_point u ∷ [])))) (old_code q.code no_code l)
      ∙ ap (λ (b : ℕ). point_by v q (code_of u q) (slice_range edges.items q.edges b)) (ends_same rest)
      ∙ ap (λ (es : List Edge). point_by v q (code_of u q) (slice_range es q.edges (edges_from u rest))) edges_are
      ∙ ap (point_by v q (code_of u q)) (range_same n u.edges.items q.edges (edges_from u rest))
      ∙ point_by_same q (code_of u q) (slice_range u.edges.items q.edges (edges_from u rest))

  -- the exit's
  exit_by : (k : Vec Stmt) (stmts : List Stmt) → k.items ≡ stmts → stmts ≡ [] → statements k.items ≡ Empty
  exit_by k stmts e f = ap statements (e ∙ f)

  exit_same : point_of v (exit_point u) [] ≡ exit_place
  exit_same =
      ap (λ (k : Code). point_by v (exit_point u) k (slice_range edges.items (length u.edges.items) (length edges.items))) (new_code no_code)
      ∙ ap (λ (b : ℕ). point_by v (exit_point u) (exit_code list) (slice_range edges.items (length u.edges.items) b)) edge_count
      ∙ ap (point_by v (exit_point u) (exit_code list)) (no_range edges.items (length u.edges.items))
      ∙ ap (λ (z : List ℕ). record (point_by v (exit_point u) (exit_code list) []) { point = record { turns = 4097; stack = z; at = 0 } }) (stack_none u.frames.items)
      ∙ ap (λ (z : List PointExit). record exit_place { does = Executes (statements list.items); exits = z ++ Raising ∷ WritingKept ∷ Unaligned ∷ [] })
      (ap (map (assert_exit (notes_of u.notes.now).asserts)) (no_range u.asserts.items 0))
      ∙ ap (λ (z : Statements). record exit_place { does = Executes z }) (exit_by list list.items refl empty)

  points_same : (ps : List Point) → ((i : ℕ) → i < length ps → (get_or ps i no_point).code < length u.codes.items) →
      points_of v (ps ++ exit_point u ∷ []) ≡ map (point_aimed n) (points_of u ps) ++ exit_place ∷ []
  points_same [] h = ap (λ (q : UnrolledPoint). q ∷ []) exit_same
  points_same (q ∷ ps) h = (λ k. point_same q ps (h 0 (omega arith)) k ∷ points_same ps (λ i l. h (suc i) (omega arith)) k)

  points_count : (ps : List Point) → length (points_of u ps) ≡ length ps
  points_count [] = refl
  points_count (q ∷ ps) = ap suc (points_count ps)

  pub placed_program : unrolled_of v ≡ with_exit_place (unrolled_of u)
  placed_program =
      ap (λ (ps : List Point). record (unrolled_of u) { points = points_of v ps }) points_are
      ∙ ap (λ (qs : List UnrolledPoint). record (unrolled_of u) { points = qs }) (points_same u.points.items (λ i l. formed.codes i no_point l))
      ∙ ap (λ (m : ℕ). record (unrolled_of u) { points = map (point_aimed m) (points_of u u.points.items) ++ exit_place ∷ [] }) (sym (points_count u.points.items))

  -- ---- its form

  old_point : (i : ℕ) (d : Point) → i < n → get_or points.items i d ≡ get_or u.points.items i d
  old_point i d l = ap (λ (z : List Point). get_or z i d) points_are ∙ get_or_append_left u.points.items (exit_point u ∷ []) d i l

  new_point : (i : ℕ) (d : Point) → i ≡ n → get_or points.items i d ≡ exit_point u
  new_point i d e = ap (λ (z : List Point). get_or z i d) points_are ∙ get_or_push u.points.items (exit_point u) d i (sym e)

  old_ends : (i : ℕ) → i < n → edges_from v (drop (i + 1) points.items) ≡ edges_from u (drop (i + 1) u.points.items)
  old_ends i l =
      ap (λ (z : List Point). edges_from v (drop (i + 1) z)) points_are
      ∙ ap (edges_from v) (drop-append-le (i + 1) u.points.items (exit_point u ∷ []) (omega arith)) ∙ ends_same (drop (i + 1) u.points.items)

  new_ends : (i : ℕ) → i ≡ n → edges_from v (drop (i + 1) points.items) ≡ length u.edges.items
  new_ends i e =
      ap (edges_from v) (drop_all (i + 1) points.items (let m = ap length points_are ∙ length_push u.points.items (exit_point u) in omega arith)) ∙ edge_count

  point_count : length points.items ≡ n + 1
  point_count = ap length points_are ∙ length_push u.points.items (exit_point u)

  code_count : length codes.items ≡ length u.codes.items + 1
  code_count = ap length codes_are ∙ length_push u.codes.items (exit_code list)

  code_below : (i : ℕ) (d : Point) → i < length points.items → (get_or points.items i d).code < length codes.items
  code_below i d l = elim (eqb_tells i n) [
    | inl e ↦ let at = ap (λ (q : Point). q.code) (new_point i d e.1) in omega (arith, at, code_count)
    | inr o ↦ let differs = o.1 in
        let m : i < n = omega (arith, point_count, l, differs) in
        let at = ap (λ (q : Point). q.code) (old_point i d m) in omega (arith, at, formed.codes i d m, code_count)
  ]

  edges_end : (i : ℕ) (d : Point) → i < length points.items → (get_or points.items i d).edges ≤ edges_from v (drop (i + 1) points.items)
  edges_end i d l = elim (eqb_tells i n) [
    | inl e ↦ let at = ap (λ (q : Point). q.edges) (new_point i d e.1) in let end = new_ends i e.1 in omega (arith, at, end)
    | inr o ↦ let differs = o.1 in
        let m : i < n = omega (arith, point_count, l, differs) in
        let at = ap (λ (q : Point). q.edges) (old_point i d m) in let end = old_ends i m in omega (arith, at, end, formed.edges i d m)
  ]

  edges_inside : (i : ℕ) (d : Point) → i < length points.items → (get_or points.items i d).edges ≤ length edges.items
  edges_inside i d l = elim (eqb_tells i n) [
    | inl e ↦ let at = ap (λ (q : Point). q.edges) (new_point i d e.1) in omega (arith, at, edge_count)
    | inr o ↦ let differs = o.1 in
        let m : i < n = omega (arith, point_count, l, differs) in
        let at = ap (λ (q : Point). q.edges) (old_point i d m) in omega (arith, at, edge_count, formed.within i d m)
  ]

  abbrev HasAsserts : Code → Type 0
  HasAsserts k = (k.asserts.0 ≤ k.asserts.1) × (k.asserts.1 ≤ length u.asserts.items)

  asserts_inside : (i : ℕ) (d : Code) → i < length codes.items → HasAsserts (slice_index_or codes.items i d)
  asserts_inside i d l = elim (eqb_tells i (length u.codes.items)) [
    | inl e ↦ subst (λ (z : ℕ). HasAsserts (slice_index_or codes.items z d)) (sym e.1) (subst HasAsserts (sym (new_code d)) (omega arith, omega arith))
    | inr o ↦ let differs = o.1 in
        let m : i < length u.codes.items = omega (arith, code_count, l, differs) in subst HasAsserts (sym (old_code i d m)) (formed.asserts i d m)
  ]

  pub placed_formed : IsFormed v
  placed_formed = record { codes = code_below; edges = edges_end; within = edges_inside; asserts = asserts_inside; lines = formed.lines }

-- by the numbers of points, codes and edges
pub placed_by : (u : Unrolled) (codes : Vec Code) (points : Vec Point) (edges : Vec Edge) (list : Vec Stmt) (n k m : ℕ) → n ≡ length u.points.items →
    k ≡ length u.codes.items → m ≡ length u.edges.items → codes.items ≡ u.codes.items ++ exit_code list ∷ [] →
    points.items ≡ u.points.items ++ record { root = 0; turns = 4097; code = k; stack = 0; deed = Row; edges = m } ∷ [] →
    edges.items ≡ map (edge_led n) u.edges.items → list.items ≡ [] → IsFormed u →
    (unrolled_of (record u { codes = codes; points = points; edges = edges }) ≡ with_exit_place (unrolled_of u))
    × IsFormed (record u { codes = codes; points = points; edges = edges })
placed_by u codes points edges list n k m at code from codes_are points_are edges_are empty formed =
    let points_so : points.items ≡ u.points.items ++ exit_point u ∷ [] =
    points_are ∙ (λ i. u.points.items ++ record { root = 0; turns = 4097; code = code i; stack = 0; deed = Row; edges = from i } ∷ []) in
    let edges_so = edges_are ∙ ap (λ (z : ℕ). map (edge_led z) u.edges.items) at in (
      placed_program u codes points edges list codes_are points_so edges_so empty formed,
      placed_formed u codes points edges list codes_are points_so edges_so empty formed,
    )

-- one more edge is led
pub led_more : (n : ℕ) (old edges : List Edge) (i : ℕ) (d : Edge) → i < length old → length edges ≡ length old →
    edges ≡ map (edge_led n) (take i old) ++ drop i old →
    set edges i (edge_led n (get_or edges i d)) ≡ map (edge_led n) (take (i + 1) old) ++ drop (i + 1) old
led_more n old edges i d within long h =
    map_over_more (edge_led n) old edges i (get_or edges i d) within h (other_default edges i d (get_or edges i d) (omega arith))

-- all are
pub led_all : (n : ℕ) (old edges : List Edge) (i : ℕ) → length old ≤ i → edges ≡ map (edge_led n) (take i old) ++ drop i old → edges ≡ map (edge_led n) old
led_all n old edges i l h =
    h ∙ (λ k. map (edge_led n) (take_all i old l k) ++ drop_all i old l k) ∙ append-nil (map (edge_led n) old)
