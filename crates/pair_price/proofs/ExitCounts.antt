-- The points that may exit, from the last to the first.
use mir.Val.{bool_byte}
use Rattle.std.proofs.Common.{◌≡◌, refl, ap, sym, ◌∙◌, arith, ℕ, zero, suc, ◌+◌, ◌-◌, ◌<◌, ◌≤◌, Bool, true, false, List, [], ◌∷◌, ◌++◌, length, drop, get_or, Option, Some, None}
use Rattle.std.specs.Prelude.{filter, map, slice_range, if◌then◌else◌, ◌||◌}
use Rattle.std.specs.List.{list_any}
use Rattle.std.specs.Global.{Vec}
use Rattle.std.proofs.lemmas.List.Folds.{list_any-append}
use Rattle.std.proofs.Math.Seq.{drop-cons}
use Rattle.bilv_spec.specs.Notes as notes
use Rattle.bil_ast.specs.declared.statements.Stmt.{Stmt}
use Rattle.walk_spec.specs.Unrolled.{UnrolledPoint, goes_out}
use Rattle.notes_value.specs.NoteViews.{notes_of}
use Rattle.question_form.specs.declared.unrolled.Code.{Code}
use Rattle.question_form.specs.declared.unrolled.Edge.{Edge}
use Rattle.question_form.specs.declared.unrolled.Point.{Point}
use Rattle.question_form.specs.declared.unrolled.Unrolled.{Unrolled}
use Rattle.question_form.specs.Views.{assert_exit, asserts_between, row_exits, edge_of, code_of, edges_from, point_of, points_of}
use Rattle.pair_price.specs.Priced.{leads_out}

asserts_stay : (asserts : List notes.Assert) (places : List (ℕ × ℕ)) → list_any goes_out (map (assert_exit asserts) places) ≡ false
asserts_stay asserts [] = refl
asserts_stay asserts (x ∷ places) = asserts_stay asserts places

edges_out : (edges : List Edge) → list_any goes_out (map edge_of edges) ≡ list_any (λ e. goes_out (edge_of e)) edges
edges_out [] = refl
edges_out (e ∷ edges) = ap (λ (b : Bool). goes_out (edge_of e) || b) (edges_out edges)

row_out : (f : Bool) (o : Option (Vec Stmt)) (edges : List Edge) → list_any goes_out (row_exits f o edges) ≡ leads_out o edges
row_out f None edges = refl
row_out f (Some list) edges = edges_out edges

-- a point is left as its code and edges say
point_out : (asserts : List notes.Assert) (index : List (ℕ × ℕ)) (c : Code) (edges : List Edge) →
    list_any goes_out (asserts_between asserts index c.asserts ++ row_exits c.fetchable c.list edges) ≡ leads_out c.list edges
point_out asserts index c edges =
    list_any-append goes_out (asserts_between asserts index c.asserts) (row_exits c.fetchable c.list edges)
    ∙ ap (λ (b : Bool). b || list_any goes_out (row_exits c.fetchable c.list edges)) (asserts_stay asserts (slice_range index c.asserts.0 c.asserts.1))
    ∙ row_out c.fetchable c.list edges

more : (b : Bool) (n : ℕ) (q : UnrolledPoint) (rest : List UnrolledPoint) → length rest ≡ n → length (if b then q ∷ rest else rest) ≡ n + (if b then 1 else 0)
more true n q rest e = omega (arith, e)
more false n q rest e = omega (arith, e)

drop_is : (points : List Point) (n : ℕ) (q : Point) → 0 < n → n ≤ length points → q ≡ get_or points (n - 1) q → drop (n - 1) points ≡ q ∷ drop n points
drop_is points zero q some low is = absurd (omega (arith, some))
drop_is points (suc n) q some low is =
    let d : suc n - 1 ≡ n = omega arith in
    let at : q ≡ get_or points n q = is ∙ ap (λ (z : ℕ). get_or points z q) d in
    ap (λ (z : ℕ). drop z points) d ∙ drop-cons points n q low ∙ ap (λ (z : Point). z ∷ drop (suc n) points) (sym at)

-- the count with one point more
pub count_step : (u : Unrolled) (n end : ℕ) (q : Point) (b : Bool) (count : ℕ) → 0 < n → n ≤ length u.points.items → q ≡ get_or u.points.items (n - 1) q →
    end ≡ edges_from u (drop n u.points.items) → b ≡ leads_out (code_of u q).list (slice_range u.edges.items q.edges end) →
    count ≡ length (filter (λ q. list_any goes_out q.exits) (points_of u (drop n u.points.items))) →
    (q.edges ≡ edges_from u (drop (n - 1) u.points.items))
    × (count + (if b then 1 else 0) ≡ length (filter (λ q. list_any goes_out q.exits) (points_of u (drop (n - 1) u.points.items))))
count_step u n end q b count some low is ends out so_far =
    let d = drop_is u.points.items n q some low is in
    let rest = drop n u.points.items in
    let one : list_any goes_out (point_of u q rest).exits ≡ b =
    point_out (notes_of u.notes.now).asserts u.asserts.items (code_of u q) (slice_range u.edges.items q.edges (edges_from u rest))
    ∙ ap (λ (z : ℕ). leads_out (code_of u q).list (slice_range u.edges.items q.edges z)) (sym ends) ∙ sym out in (
      sym (ap (λ (w : List Point). edges_from u w) d),
      sym (ap (λ (w : List Point). length (filter (λ q. list_any goes_out q.exits) (points_of u w))) d
          ∙ ap (λ (z : Bool). length (if z then point_of u q rest ∷ filter (λ q. list_any goes_out q.exits) (points_of u rest)
          else filter (λ q. list_any goes_out q.exits) (points_of u rest))) one
          ∙ more b count (point_of u q rest) (filter (λ q. list_any goes_out q.exits) (points_of u rest)) (sym so_far)),
    )

-- a test as a number
pub as_number : (b : Bool) → bool_byte b ≡ (if b then 1 else 0)
as_number true = refl
as_number false = refl

pub at_most_one : (b : Bool) → bool_byte b ≤ 1
at_most_one true = omega arith
at_most_one false = omega arith
