-- What points come to, whatever says what each comes to.
use Rattle.std.proofs.Common.{◌≡◌, refl, ap, sym, ◌∙◌, subst, arith, ℕ, zero, suc, ◌+◌, ◌-◌, ◌<◌, ◌≤◌, Bool, true, false, List, [], ◌∷◌, ◌++◌, length, drop, get_or}
use Rattle.std.specs.Prelude.{slice_range, sum_by, if◌then◌else◌}
use Rattle.std.specs.List.{flat_map}
use Rattle.std.proofs.lemmas.List.{append-nil}
use Rattle.std.proofs.lemmas.List.Sums.{sum_by-cons, sum_by-append}
use Rattle.std.proofs.lemmas.List.Concat.{flat_map-append}
use Rattle.std.proofs.Math.Seq.{drop-cons}
use Rattle.bilv_spec.specs.Notes.{Expr}
use Rattle.bilv_spec.specs.Points.{line_price, bytes_loaded}
use Rattle.question_form.specs.declared.unrolled.Code.{Code}
use Rattle.question_form.specs.declared.unrolled.Edge.{Edge}
use Rattle.question_form.specs.declared.unrolled.Point.{Point}
use Rattle.question_form.specs.declared.unrolled.Unrolled.{Unrolled}
use Rattle.question_form.specs.Views.{edges_from}
use Rattle.unroller.specs.LineCosts.{capped, AreLineCosts}
use Rattle.unroller.specs.Points.{AreOf, AreOfCode, is_out}
use Rattle.unroller.specs.Totals.{AreSums, AreTotalsBy, IsSum, has_list}
use Rattle.unroller.specs.declared.costs.LineCost.{LineCost}
use Rattle.unroller.specs.declared.prices.Totals.{Totals}
use Rattle.unroller.proofs.Capped.{capped_sum}

plus_nothing : (n : ℕ) → n + 0 ≡ n
plus_nothing n = omega arith

regroup : (a b c d x y : ℕ) → x ≡ a + c → y ≡ b + d → (a + b) + (c + d) ≡ x + y
regroup a b c d x y p q = omega arith

cost_cases : (b : Bool) (x y a e : ℕ) → a ≡ capped x → e ≡ capped y → (if b then capped (a + e) else a) ≡ capped (x + (if b then y else 0))
cost_cases true x y a e p q = ap (λ (z : ℕ). capped (z + e)) p ∙ ap (λ (z : ℕ). capped (capped x + z)) q ∙ capped_sum x y
cost_cases false x y a e p q = p ∙ ap capped (sym (plus_nothing x))

capped_right : (n m : ℕ) → capped (n + capped m) ≡ capped (n + m)
capped_right n m = omega arith

single : {X : Type 0} (f : X → ℕ) (x : X) → sum_by f (x ∷ []) ≡ f x
single f x = sum_by-cons f x [] ∙ plus_nothing (f x)

sum_cases : (g : Expr → ℕ) (b : Bool) (e : List Expr) → sum_by g (if b then e else []) ≡ (if b then sum_by g e else 0)
sum_cases g true e = refl
sum_cases g false e = refl

sum_on : (x y a b t : ℕ) → a ≡ capped x → b ≡ capped y → t ≡ capped (a + b) → t ≡ capped (x + y)
sum_on x y a b t p q r = r ∙ ap (λ (z : ℕ). capped (z + b)) p ∙ ap (λ (z : ℕ). capped (capped x + z)) q ∙ capped_sum x y

-- the cost of some lines and of more
pub costs_on : (lines more : List Expr) (a b t : LineCost) → AreLineCosts a lines → AreLineCosts b more → IsSum a b t → AreLineCosts t (lines ++ more)
costs_on lines more a b t x y s = record {
  price = sum_on _ _ a.price b.price t.price x.price y.price s.price ∙ ap capped (sym (sum_by-append line_price lines more));
  loads = sum_on _ _ a.loads b.loads t.loads x.loads y.loads s.loads ∙ ap capped (sym (sum_by-append bytes_loaded lines more));
}

drop_is : {X : Type 0} (xs : List X) (n : ℕ) (x : X) → 0 < n → n ≤ length xs → x ≡ get_or xs (n - 1) x → drop (n - 1) xs ≡ x ∷ drop n xs
drop_is xs zero x some low is = absurd (omega arith)
drop_is xs (suc n) x some low is =
    let e : suc n - 1 ≡ n = omega arith in
    ap (λ (z : ℕ). drop z xs) e ∙ drop-cons xs n x (omega arith) ∙ ap (λ z. z ∷ drop (suc n) xs) (sym (is ∙ ap (λ (z : ℕ). get_or xs z x) e))

module _ {X : Type 0} (row loads stores edges : X → ℕ) (lines : X → List Expr) where
  -- the lines of a point are some, and more where it leads out
  lines_sum : (x : X) (b : Bool) (some more : List Expr) (g : Expr → ℕ) → lines x ≡ some ++ (if b then more else []) →
      sum_by g (flat_map lines (x ∷ [])) ≡ sum_by g some + (if b then sum_by g more else 0)
  lines_sum x b some more g e =
      ap (λ (z : List Expr). sum_by g z) (append-nil (lines x) ∙ e) ∙ sum_by-append g some (if b then more else [])
      ∙ ap (λ (z : ℕ). sum_by g some + z) (sum_cases g b more)

  pub totals_of : (x : X) (row_of loads_of stores_of edges_of : ℕ) (out : Bool) (some more : List Expr) (judged ensured : LineCost) (t : Totals) →
      AreOf row_of loads_of stores_of edges_of out judged ensured t → row x ≡ row_of → loads x ≡ loads_of → stores x ≡ stores_of → edges x ≡ edges_of →
      lines x ≡ some ++ (if out then more else []) → AreLineCosts judged some → AreLineCosts ensured more →
      AreTotalsBy row loads stores edges lines (x ∷ []) t
  totals_of x row_of loads_of stores_of edges_of out some more judged ensured t are r l s d e j k = record {
    rows = are.rows ∙ ap capped (sym r ∙ sym (single row x));
    loads =
        are.loads
        ∙ ap (λ (z : ℕ). capped (loads_of + z)) (cost_cases out (sum_by bytes_loaded some) (sum_by bytes_loaded more) judged.loads ensured.loads j.loads k.loads)
        ∙ capped_right loads_of (sum_by bytes_loaded some + (if out then sum_by bytes_loaded more else 0))
        ∙ ap (λ (z : ℕ). capped (loads_of + z)) (sym (lines_sum x out some more bytes_loaded e))
        ∙ ap (λ (z : ℕ). capped (z + sum_by bytes_loaded (flat_map lines (x ∷ [])))) (sym l ∙ sym (single loads x));
    stores = are.stores ∙ ap capped (sym s ∙ sym (single stores x));
    edges = are.edges ∙ ap capped (sym d ∙ sym (single edges x));
    lines =
        are.lines ∙ cost_cases out (sum_by line_price some) (sum_by line_price more) judged.price ensured.price j.price k.price
        ∙ ap capped (sym (lines_sum x out some more line_price e));
  }

  pub one_totals : (x : X) (c : Code) (led : List Edge) (some more : List Expr) (judged ensured : LineCost) (t : Totals) → AreOfCode c led judged ensured t →
      row x ≡ c.row → loads x ≡ c.loads → stores x ≡ c.stores → edges x ≡ (if has_list c.list then length led else 0) →
      lines x ≡ some ++ (if is_out c led then more else []) → AreLineCosts judged some → AreLineCosts ensured more →
      AreTotalsBy row loads stores edges lines (x ∷ []) t
  one_totals x c led some more judged ensured t are r l s d e j k =
      totals_of x c.row c.loads c.stores (if has_list c.list then length led else 0) (is_out c led) some more judged ensured t
      (record { rows = are.rows; loads = are.loads; stores = are.stores; edges = are.edges; lines = are.lines }) r l s d e j k

  totals_on : (x : X) (rest : List X) (a b t : Totals) → AreTotalsBy row loads stores edges lines (x ∷ []) a →
      AreTotalsBy row loads stores edges lines rest b → AreSums a b t → AreTotalsBy row loads stores edges lines (x ∷ rest) t
  totals_on x rest a b t p q s =
      let both = flat_map-append lines (x ∷ []) rest in
      record {
        rows = sum_on _ _ a.rows b.rows t.rows p.rows q.rows s.rows ∙ ap capped (sym (sum_by-append row (x ∷ []) rest));
        loads =
            sum_on _ _ a.loads b.loads t.loads p.loads q.loads s.loads
            ∙ ap capped (regroup (sum_by loads (x ∷ [])) (sum_by bytes_loaded (flat_map lines (x ∷ []))) (sum_by loads rest)
            (sum_by bytes_loaded (flat_map lines rest)) (sum_by loads (x ∷ rest)) (sum_by bytes_loaded (flat_map lines (x ∷ rest)))
            (sum_by-append loads (x ∷ []) rest)
            (ap (λ (z : List Expr). sum_by bytes_loaded z) both ∙ sum_by-append bytes_loaded (flat_map lines (x ∷ [])) (flat_map lines rest)));
        stores = sum_on _ _ a.stores b.stores t.stores p.stores q.stores s.stores ∙ ap capped (sym (sum_by-append stores (x ∷ []) rest));
        edges = sum_on _ _ a.edges b.edges t.edges p.edges q.edges s.edges ∙ ap capped (sym (sum_by-append edges (x ∷ []) rest));
        lines =
            sum_on _ _ a.lines b.lines t.lines p.lines q.lines s.lines
            ∙ ap capped (sym (ap (λ (z : List Expr). sum_by line_price z) both ∙ sum_by-append line_price (flat_map lines (x ∷ [])) (flat_map lines rest)));
      }

  -- One more point of an unrolled program or frame, before those behind it. at: what a point is with some edges; all: what points are, each with its own edges.
  pub totals_step : (u : Unrolled) (at : Point → List Edge → X) (all : List Point → List X) →
      ((q : Point) (rest : List Point) → all (q ∷ rest) ≡ at q (slice_range u.edges.items q.edges (edges_from u rest)) ∷ all rest) →
      (n end : ℕ) (q : Point) (a b t : Totals) → 0 < n → n ≤ length u.points.items → q ≡ get_or u.points.items (n - 1) q →
      end ≡ edges_from u (drop n u.points.items) → AreTotalsBy row loads stores edges lines (at q (slice_range u.edges.items q.edges end) ∷ []) a →
      AreTotalsBy row loads stores edges lines (all (drop n u.points.items)) b → AreSums a b t →
      (q.edges ≡ edges_from u (drop (n - 1) u.points.items)) × AreTotalsBy row loads stores edges lines (all (drop (n - 1) u.points.items)) t
  totals_step u at all more n end q a b t some low is ends x y s =
      let d = drop_is u.points.items n q some low is in
      let rest = drop n u.points.items in
      let one : X = at q (slice_range u.edges.items q.edges (edges_from u rest)) in
      let z : AreTotalsBy row loads stores edges lines (one ∷ []) a =
      subst (λ (w : ℕ). AreTotalsBy row loads stores edges lines (at q (slice_range u.edges.items q.edges w) ∷ []) a) ends x in (
        sym (ap (λ (w : List Point). edges_from u w) d),
        subst (λ (w : List X). AreTotalsBy row loads stores edges lines w t) (sym (ap all d ∙ more q rest)) (totals_on one (all rest) a b t z y s),
      )
