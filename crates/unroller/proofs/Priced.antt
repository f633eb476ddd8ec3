-- What points come to.
use Rattle.std.proofs.Common.{◌≡◌, refl, ap, ◌∙◌, arith, ℕ, ◌+◌, Bool, true, false, List, [], ◌∷◌, ◌++◌, length, Option, Some, None}
use Rattle.std.specs.Prelude.{map, slice_range, sum_by, if◌then◌else◌, ◌&&◌, ◌||◌}
use Rattle.std.specs.List.{flat_map, list_any}
use Rattle.std.specs.Global.{Vec}
use Rattle.std.proofs.lemmas.List.{append-nil}
use Rattle.std.proofs.lemmas.List.Sums.{sum_by-cons, sum_by-append}
use Rattle.std.proofs.lemmas.List.Concat.{flat_map-append}
use Rattle.std.proofs.lemmas.List.Folds.{list_any-append}
use Rattle.bilv_spec.specs.Notes as notes
use Rattle.bil_ast.specs.declared.statements.Stmt.{Stmt}
use Rattle.walk_spec.specs.Unrolled.{PointExit, Raising, WritingKept, Unaligned, is_edge, goes_out}
use Rattle.walk_spec.specs.Prices.{line_of, lines_at}
use Rattle.notes_value.specs.NoteViews.{notes_of}
use Rattle.question_form.specs.declared.unrolled.Code.{Code}
use Rattle.question_form.specs.declared.unrolled.Edge.{Edge}
use Rattle.question_form.specs.declared.unrolled.Point.{Point}
use Rattle.question_form.specs.declared.unrolled.Unrolled.{Unrolled}
use Rattle.question_form.specs.Views.{assert_exit, asserts_between, row_exits, edge_of, point_by, unrolled_of}
use Rattle.unroller.specs.LineCosts.{AreLineCosts}
use Rattle.unroller.specs.Points.{AreOfCode, is_out}
use Rattle.unroller.specs.Totals.{AreTotals, has_list}
use Rattle.unroller.specs.declared.costs.LineCost.{LineCost}
use Rattle.unroller.specs.declared.prices.Totals.{Totals}
use Rattle.unroller.proofs.Totalled.{one_totals}

zero_plus : (n : ℕ) → 0 + n ≡ n
zero_plus n = omega arith

asserts_no_edge : (asserts : List notes.Assert) (places : List (ℕ × ℕ)) → sum_by is_edge (map (assert_exit asserts) places) ≡ 0
asserts_no_edge asserts [] = refl
asserts_no_edge asserts (x ∷ places) =
    let h = sum_by-cons is_edge (assert_exit asserts x) (map (assert_exit asserts) places) in let e = asserts_no_edge asserts places in omega arith

asserts_stay : (asserts : List notes.Assert) (places : List (ℕ × ℕ)) → list_any goes_out (map (assert_exit asserts) places) ≡ false
asserts_stay asserts [] = refl
asserts_stay asserts (x ∷ places) = asserts_stay asserts places

edges_are : (edges : List Edge) → sum_by is_edge (map edge_of edges) ≡ length edges
edges_are [] = refl
edges_are (e ∷ edges) = let h = sum_by-cons is_edge (edge_of e) (map edge_of edges) in let i = edges_are edges in omega arith

edges_say_nothing : (edges : List Edge) → flat_map line_of (map edge_of edges) ≡ []
edges_say_nothing [] = refl
edges_say_nothing (e ∷ edges) = edges_say_nothing edges

edges_out : (edges : List Edge) → list_any goes_out (map edge_of edges) ≡ list_any (λ e. goes_out (edge_of e)) edges
edges_out [] = refl
edges_out (e ∷ edges) = ap (λ (b : Bool). goes_out (edge_of e) || b) (edges_out edges)

row_edges : (f : Bool) (o : Option (Vec Stmt)) (edges : List Edge) → sum_by is_edge (row_exits f o edges) ≡ (if has_list o then length edges else 0)
row_edges true None edges = refl
row_edges false None edges = refl
row_edges f (Some list) edges =
    sum_by-append is_edge (Raising ∷ WritingKept ∷ Unaligned ∷ []) (map edge_of edges) ∙ ap (λ (z : ℕ). 0 + z) (edges_are edges) ∙ zero_plus (length edges)

row_says_nothing : (f : Bool) (o : Option (Vec Stmt)) (edges : List Edge) → flat_map line_of (row_exits f o edges) ≡ []
row_says_nothing f None edges = refl
row_says_nothing f (Some list) edges = edges_say_nothing edges

row_out : (f : Bool) (o : Option (Vec Stmt)) (edges : List Edge) →
    list_any goes_out (row_exits f o edges) ≡ (has_list o && list_any (λ e. goes_out (edge_of e)) edges)
row_out f None edges = refl
row_out f (Some list) edges = edges_out edges

module _ (u : Unrolled) (q : Point) (c : Code) (edges : List Edge) where
  abbrev asserted_exits : List PointExit
  asserted_exits = asserts_between (notes_of u.notes.now).asserts u.asserts.items c.asserts

  abbrev ensured_lines : List notes.Expr
  ensured_lines = map (λ l. l.says) (notes_of u.notes.now).ensures

  edge_count : sum_by is_edge (point_by u q c edges).exits ≡ (if has_list c.list then length edges else 0)
  edge_count =
      let e = sum_by-append is_edge asserted_exits (row_exits c.fetchable c.list edges) in
      let a = asserts_no_edge (notes_of u.notes.now).asserts (slice_range u.asserts.items c.asserts.0 c.asserts.1) in
      let r = row_edges c.fetchable c.list edges in
      e ∙ ap (λ (z : ℕ). z + sum_by is_edge (row_exits c.fetchable c.list edges)) a ∙ zero_plus (sum_by is_edge (row_exits c.fetchable c.list edges)) ∙ r

  outward : list_any goes_out (point_by u q c edges).exits ≡ is_out c edges
  outward =
      list_any-append goes_out asserted_exits (row_exits c.fetchable c.list edges)
      ∙ ap (λ (b : Bool). b || list_any goes_out (row_exits c.fetchable c.list edges))
      (asserts_stay (notes_of u.notes.now).asserts (slice_range u.asserts.items c.asserts.0 c.asserts.1))
      ∙ row_out c.fetchable c.list edges

  lines_are : lines_at (unrolled_of u) (point_by u q c edges) ≡ flat_map line_of asserted_exits ++ (if is_out c edges then ensured_lines else [])
  lines_are =
      ap (λ (z : List notes.Expr). z ++ (if list_any goes_out (point_by u q c edges).exits then ensured_lines else []))
      (flat_map-append line_of asserted_exits (row_exits c.fetchable c.list edges)
      ∙ ap (λ (z : List notes.Expr). flat_map line_of asserted_exits
      ++ z) (row_says_nothing c.fetchable c.list edges) ∙ append-nil (flat_map line_of asserted_exits))
      ∙ ap (λ (b : Bool). flat_map line_of asserted_exits ++ (if b then ensured_lines else [])) outward

pub code_totals_are : (u : Unrolled) (q : Point) (c : Code) (edges : List Edge) (asserted ensured : LineCost) (t : Totals) →
    AreOfCode c edges asserted ensured t →
    AreLineCosts asserted (flat_map line_of (asserts_between (notes_of u.notes.now).asserts u.asserts.items c.asserts)) →
    AreLineCosts ensured (map (λ l. l.says) (notes_of u.notes.now).ensures) → AreTotals (unrolled_of u) (point_by u q c edges ∷ []) t
code_totals_are u q c edges asserted ensured t are a e =
    one_totals (λ z. z.row) (λ z. z.loads) (λ z. z.stores) (λ z. sum_by is_edge z.exits) (lines_at (unrolled_of u)) (point_by u q c edges) c edges
    (flat_map line_of (asserts_between (notes_of u.notes.now).asserts u.asserts.items c.asserts)) (map (λ l. l.says) (notes_of u.notes.now).ensures)
    asserted ensured t are refl refl refl (edge_count u q c edges) (lines_are u q c edges) a e
