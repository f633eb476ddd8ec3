-- What points of an unrolled frame come to.
use Rattle.std.proofs.Common.{◌≡◌, refl, ap, ◌∙◌, subst, arith, ℕ, ◌+◌, ◌-◌, Bool, true, false, List, [], ◌∷◌, ◌++◌, length, take, drop, Option, Some, None}
use Rattle.std.specs.Prelude.{◌||◌, Contains, filter, if◌then◌else◌, map, slice_range, sum_by}
use Rattle.std.specs.Global.{Vec}
use Rattle.std.specs.List.{flat_map, list_any}
use Rattle.std.proofs.lemmas.List.{take-append-drop}
use Rattle.std.proofs.lemmas.List.Elements.{Contains-append_left, Contains-append_right}
use Rattle.std.proofs.lemmas.List.Concat.{flat_map-append}
use Rattle.std.proofs.lemmas.List.Folds.{list_any-append}
use Rattle.std.proofs.lemmas.List.Sums.{sum_by-cons, sum_by-append}
use Rattle.bil_ast.specs.declared.statements.Stmt.{Stmt}
use Rattle.bilv_spec.specs.Notes.{Expr, NoteLine}
use Rattle.walk_spec.specs.Unrolled as tables
use Rattle.frame_spec.specs.Frames as contracts
use Rattle.frame_spec.specs.FramePoints.{Anchor, says_of}
use Rattle.frame_spec.specs.FrameUnrolling.{outside_exit}
use Rattle.frame_spec.specs.FrameWalk.{Check, PointExit, FalseCheck, FalseNeed, Always, Cutting, NotGiven, Raising, WritingKept, WritingOutside, Unaligned}
use Rattle.frame_laws.specs.FramePrices.{action_lines, exit_lines, goes_out, is_edge, is_outward, line_of, lines_at, own_exit}
use Rattle.question_form.specs.declared.unrolled.Aim as declared
use Rattle.question_form.specs.declared.unrolled.Aim.TheVariants.{OnTo, IntoHead, Outward, OverLast}
use Rattle.question_form.specs.declared.unrolled.Code.{Code}
use Rattle.question_form.specs.declared.unrolled.Deed.{Deed}
use Rattle.question_form.specs.declared.unrolled.Deed.TheVariants.{Row, Arrival, Contract}
use Rattle.question_form.specs.declared.unrolled.Edge.{Edge}
use Rattle.question_form.specs.declared.unrolled.Point.{Point}
use Rattle.question_form.specs.declared.unrolled.Unrolled.{Unrolled}
use Rattle.question_form.specs.FrameViews.{action_of, aim_of, anchor_at, checks_between, edge_of, exits_of, frame_unrolled_of, is_judged, judged_at, list_of, own_contract, point_by, row_exits, stepped_at}
use Rattle.question_form.specs.Views as views
use Rattle.unroller.specs.LineCosts.{AreLineCosts}
use Rattle.unroller.specs.Points.{AreOf}
use Rattle.unroller.specs.Totals.{IsSum}
use Rattle.unroller.specs.declared.costs.LineCost.{LineCost}
use Rattle.unroller.specs.declared.prices.Totals.{Totals}
use Rattle.unroller.proofs.Totalled.{costs_on, totals_of}
use Rattle.frame_price.specs.Evaluated.{chosen_by, evaluated_lines, exits_begin, first_lines, last_lines}
use Rattle.frame_price.specs.Totals.{AreTotals, row_with_exit}
use Rattle.frame_price.proofs.EvaluatedLines.{judged_lines}

-- the edges of a point that are exits of it
abbrev led_by : Deed → Option (Vec Stmt) → List Edge → List Edge
led_by Row None edges = []
led_by Row (Some list) edges = edges
led_by Arrival list edges = []
led_by (Contract n) list edges = edges

take_none : (n : ℕ) (es : List Edge) → take (n - n) es ≡ []
take_none n [] = let e : n - n ≡ 0 = omega arith in ap (λ z. take z []) e
take_none n (x ∷ es) = let e : n - n ≡ 0 = omega arith in ap (λ z. take z (x ∷ es)) e

led_are : (d : Deed) (list : Option (Vec Stmt)) (es : List Edge) (first end : ℕ) →
    slice_range es (exits_begin d list first end) end ≡ led_by d list (slice_range es first end)
led_are Row None es first end = take_none end (drop end es)
led_are Row (Some list) es first end = refl
led_are Arrival list es first end = take_none end (drop end es)
led_are (Contract n) list es first end = refl

-- no check is an edge
no_edge : (xs : List Check) → sum_by is_edge (map FalseCheck xs) ≡ 0
no_edge [] = refl
no_edge (x ∷ xs) = let h = sum_by-cons is_edge (FalseCheck x) (map FalseCheck xs) in let e = no_edge xs in omega arith

stay : (xs : List Check) → list_any goes_out (map FalseCheck xs) ≡ false
stay [] = refl
stay (x ∷ xs) = stay xs

none_more : (n : ℕ) → 0 + n ≡ n
none_more n = omega arith

-- nor is one a need
no_need : (xs : List NoteLine) → sum_by is_edge (map (λ l. FalseNeed l.line l.says) xs) ≡ 0
no_need [] = refl
no_need (x ∷ xs) =
    let h = sum_by-cons is_edge (FalseNeed x.line x.says) (map (λ l. FalseNeed l.line l.says) xs) in let e = no_need xs in omega arith

needs_stay : (xs : List NoteLine) → list_any goes_out (map (λ l. FalseNeed l.line l.says) xs) ≡ false
needs_stay [] = refl
needs_stay (x ∷ xs) = needs_stay xs

needs_say : (xs : List NoteLine) → flat_map line_of (map (λ l. FalseNeed l.line l.says) xs) ≡ says_of xs
needs_say [] = refl
needs_say (x ∷ xs) = ap (λ (l : List Expr). x.says ∷ l) (needs_say xs)

-- nor the bytes outside
outside_edge : (o : Option contracts.Contract) (rest : List PointExit) → sum_by is_edge (outside_exit o ++ rest) ≡ sum_by is_edge rest
outside_edge None rest = refl
outside_edge (Some x) rest = sum_by-cons is_edge WritingOutside rest ∙ none_more (sum_by is_edge rest)

outside_out : (o : Option contracts.Contract) (rest : List PointExit) → list_any goes_out (outside_exit o ++ rest) ≡ list_any goes_out rest
outside_out None rest = refl
outside_out (Some x) rest = refl

outside_say : (o : Option contracts.Contract) (rest : List PointExit) → flat_map line_of (outside_exit o ++ rest) ≡ flat_map line_of rest
outside_say None rest = refl
outside_say (Some x) rest = refl

plain_edge : (x : PointExit) (rest : List PointExit) → is_edge x ≡ 0 → sum_by is_edge (x ∷ rest) ≡ sum_by is_edge rest
plain_edge x rest e = let h = sum_by-cons is_edge x rest in omega arith

module _ (u : Unrolled) where
  edges_are : (es : List Edge) → sum_by is_edge (map (edge_of u) es) ≡ length es
  edges_are [] = refl
  edges_are (e ∷ es) = let h = sum_by-cons is_edge (edge_of u e) (map (edge_of u) es) in let i = edges_are es in omega arith

  aim_out : (a : declared.Aim) → is_outward (aim_of u a) ≡ tables.is_outward (views.aim_of a)
  aim_out (OnTo i) = refl
  aim_out (IntoHead at asserts) = refl
  aim_out Outward = refl
  aim_out OverLast = refl

  edges_out : (es : List Edge) → list_any goes_out (map (edge_of u) es) ≡ list_any (λ e. tables.goes_out (views.edge_of e)) es
  edges_out [] = refl
  edges_out (e ∷ es) =
      ap (λ (b : Bool). b || list_any goes_out (map (edge_of u) es)) (aim_out e.aim)
      ∙ ap (λ (b : Bool). tables.goes_out (views.edge_of e) || b) (edges_out es)

  rows_edges : (f : Bool) (o : Option (Vec Stmt)) (es : List Edge) → sum_by is_edge (row_exits u f o es) ≡ length (led_by Row o es)
  rows_edges true None es = refl
  rows_edges false None es = refl
  rows_edges f (Some list) es =
      plain_edge Raising (WritingKept ∷ (outside_exit (own_contract u) ++ Unaligned ∷ map (edge_of u) es)) refl
      ∙ plain_edge WritingKept (outside_exit (own_contract u) ++ Unaligned ∷ map (edge_of u) es) refl
      ∙ outside_edge (own_contract u) (Unaligned ∷ map (edge_of u) es) ∙ plain_edge Unaligned (map (edge_of u) es) refl ∙ edges_are es

  rows_out : (f : Bool) (o : Option (Vec Stmt)) (es : List Edge) →
      list_any goes_out (row_exits u f o es) ≡ list_any (λ e. tables.goes_out (views.edge_of e)) (led_by Row o es)
  rows_out f None es = refl
  rows_out f (Some list) es = outside_out (own_contract u) (Unaligned ∷ map (edge_of u) es) ∙ edges_out es

  rows_lines : (f : Bool) (o : Option (Vec Stmt)) (es : List Edge) →
      flat_map line_of (row_exits u f o es) ≡ flat_map line_of (map (edge_of u) (led_by Row o es))
  rows_lines f None es = refl
  rows_lines f (Some list) es = outside_say (own_contract u) (Unaligned ∷ map (edge_of u) es)

module _ (u : Unrolled) (root : ℕ) (c : Code) (es : List Edge) where
  abbrev anchor : Anchor
  anchor = anchor_at u root

  abbrev checks : List Check
  checks = filter (is_judged anchor) (checks_between u c.asserts)

  abbrev exits : Deed → List PointExit
  exits d = judged_at u d anchor c ++ exits_of u d c es

  abbrev led : Deed → List Edge
  led d = led_by d c.list es

  abbrev into : Deed → List Expr
  into d = flat_map line_of (map (edge_of u) (led d))

  abbrev step : ℕ → List PointExit
  step n = outside_exit (own_contract u) ++ NotGiven ∷ map (edge_of u) es

  abbrev needs : ℕ → List NoteLine
  needs n = (stepped_at u n).needs

  abbrev needed : ℕ → List PointExit
  needed n = map (λ l. FalseNeed l.line l.says) (needs n)

  checked_edges : (rest : List PointExit) → sum_by is_edge (map FalseCheck checks ++ rest) ≡ sum_by is_edge rest
  checked_edges rest =
      sum_by-append is_edge (map FalseCheck checks) rest ∙ ap (λ z. z + sum_by is_edge rest) (no_edge checks) ∙ none_more (sum_by is_edge rest)

  edge_count : (d : Deed) → sum_by is_edge (exits d) ≡ length (led d)
  edge_count Row = checked_edges (row_exits u c.fetchable c.list es) ∙ rows_edges u c.fetchable c.list es
  edge_count Arrival = checked_edges (Always Cutting ∷ [])
  edge_count (Contract n) =
      sum_by-append is_edge (needed n) (WritingKept ∷ step n) ∙ ap (λ z. z + sum_by is_edge (WritingKept ∷ step n)) (no_need (needs n))
      ∙ none_more (sum_by is_edge (WritingKept ∷ step n)) ∙ plain_edge WritingKept (step n) refl
      ∙ outside_edge (own_contract u) (NotGiven ∷ map (edge_of u) es) ∙ plain_edge NotGiven (map (edge_of u) es) refl ∙ edges_are u es

  checked_out : (rest : List PointExit) → list_any goes_out (map FalseCheck checks ++ rest) ≡ list_any goes_out rest
  checked_out rest = list_any-append goes_out (map FalseCheck checks) rest ∙ ap (λ (b : Bool). b || list_any goes_out rest) (stay checks)

  outward : (d : Deed) → list_any goes_out (exits d) ≡ list_any (λ e. tables.goes_out (views.edge_of e)) (led d)
  outward Row = checked_out (row_exits u c.fetchable c.list es) ∙ rows_out u c.fetchable c.list es
  outward Arrival = checked_out (Always Cutting ∷ [])
  outward (Contract n) =
      list_any-append goes_out (needed n) (WritingKept ∷ step n) ∙ ap (λ (b : Bool). b || list_any goes_out (step n)) (needs_stay (needs n))
      ∙ outside_out (own_contract u) (NotGiven ∷ map (edge_of u) es) ∙ edges_out u es

  checked_say : (rest : List PointExit) →
      flat_map line_of (map FalseCheck checks ++ rest) ≡ evaluated_lines (chosen_by anchor) (checks_between u c.asserts) ++ flat_map line_of rest
  checked_say rest =
      flat_map-append line_of (map FalseCheck checks) rest
      ∙ ap (λ (l : List Expr). l ++ flat_map line_of rest) (judged_lines anchor (checks_between u c.asserts))

  exits_say : (d : Deed) → flat_map line_of (exits d) ≡ first_lines u d root c.asserts ++ into d
  exits_say Row =
      checked_say (row_exits u c.fetchable c.list es)
      ∙ ap (λ (l : List Expr). evaluated_lines (chosen_by anchor) (checks_between u c.asserts) ++ l) (rows_lines u c.fetchable c.list es)
  exits_say Arrival = checked_say (Always Cutting ∷ [])
  exits_say (Contract n) =
      flat_map-append line_of (needed n) (WritingKept ∷ step n)
      ∙ ap (λ (l : List Expr). l ++ flat_map line_of (step n)) (needs_say (needs n))
      ∙ ap (λ (l : List Expr). says_of (needs n) ++ l) (outside_say (own_contract u) (NotGiven ∷ map (edge_of u) es))

  listed_none : (list : Option (Vec Stmt)) → action_lines (list_of list) ≡ []
  listed_none None = refl
  listed_none (Some list) = refl

  done_lines : (d : Deed) (stack : List ℕ) → action_lines (action_of u d c.list stack) ≡ last_lines u d
  done_lines Row stack = listed_none c.list
  done_lines Arrival stack = refl
  done_lines (Contract n) stack = refl

module _ (u : Unrolled) (q : Point) (c : Code) (es : List Edge) where
  abbrev stack : List ℕ
  stack = (point_by u q c es).point.stack

  abbrev out : Bool
  out = list_any (λ e. tables.goes_out (views.edge_of e)) (led u q.root c es q.deed)

  abbrev before : List Expr
  before = first_lines u q.deed q.root c.asserts ++ into u q.root c es q.deed

  abbrev at_end : List Expr
  at_end = exit_lines (frame_unrolled_of u)

  abbrev when : Bool → List Expr
  when b = if b then at_end else []

  lines_are : lines_at (frame_unrolled_of u) (point_by u q c es) ≡ (before ++ last_lines u q.deed) ++ when out
  lines_are =
      ap (λ (l : List Expr). l ++ action_lines (action_of u q.deed c.list stack) ++ when (list_any goes_out (exits u q.root c es q.deed)))
      (exits_say u q.root c es q.deed)
      ∙ ap (λ (l : List Expr). before ++ l ++ when (list_any goes_out (exits u q.root c es q.deed))) (done_lines u q.root c es q.deed stack)
      ∙ ap (λ (b : Bool). before ++ last_lines u q.deed ++ when b) (outward u q.root c es q.deed)

  point_totals_are : (lines at_exit : LineCost) (t : Totals) →
      AreOf (c.row + own_exit (frame_unrolled_of u).own out) c.loads c.stores (length (led u q.root c es q.deed)) out lines at_exit t →
      AreLineCosts lines (before ++ last_lines u q.deed) → AreLineCosts at_exit at_end → AreTotals (frame_unrolled_of u) (point_by u q c es ∷ []) t
  point_totals_are lines at_exit t are a e =
      totals_of (row_with_exit (frame_unrolled_of u)) (λ z. z.loads) (λ z. z.stores) (λ z. sum_by is_edge z.exits) (lines_at (frame_unrolled_of u))
      (point_by u q c es) (c.row + own_exit (frame_unrolled_of u).own out) c.loads c.stores (length (led u q.root c es q.deed)) out
      (before ++ last_lines u q.deed) at_end lines at_exit t are
      (ap (λ (b : Bool). c.row + own_exit (frame_unrolled_of u).own b) (outward u q.root c es q.deed)) refl refl (edge_count u q.root c es q.deed) lines_are a e

-- what a point comes to by the costs of its lines
pub totals_with : (u : Unrolled) (q : Point) (c : Code) (first end : ℕ) (es : List Edge) (judged into most last lines at_exit : LineCost) (t : Totals) →
    es ≡ u.edges.items → c ≡ views.code_of u q → first ≡ exits_begin q.deed c.list q.edges end →
    AreLineCosts judged (first_lines u q.deed q.root c.asserts) →
    AreLineCosts into (flat_map line_of (map (edge_of u) (slice_range es first end))) → IsSum judged into most → AreLineCosts last (last_lines u q.deed) →
    IsSum most last lines →
    AreOf (c.row + own_exit (frame_unrolled_of u).own (list_any (λ e. tables.goes_out (views.edge_of e)) (slice_range es first end))) c.loads c.stores
    (length (slice_range es first end)) (list_any (λ e. tables.goes_out (views.edge_of e)) (slice_range es first end)) lines at_exit t →
    AreLineCosts at_exit (exit_lines (frame_unrolled_of u)) →
    AreTotals (frame_unrolled_of u) (point_by u q (views.code_of u q) (slice_range u.edges.items q.edges end) ∷ []) t
totals_with u q c first end es judged into most last lines at_exit t edges code begin a i s b r are e =
    let own = slice_range u.edges.items q.edges end in
    let led : slice_range es first end ≡ led_by q.deed c.list own =
    ap (λ (l : List Edge). slice_range l first end) edges ∙ ap (λ (n : ℕ). slice_range u.edges.items n end) begin
    ∙ led_are q.deed c.list u.edges.items q.edges end in
    let of_code = subst (λ (l : List Edge). AreOf (c.row + own_exit (frame_unrolled_of u).own (list_any (λ e. tables.goes_out (views.edge_of e)) l)) c.loads
    c.stores (length l) (list_any (λ e. tables.goes_out (views.edge_of e)) l) lines at_exit t) led are in
    let into_led = subst (λ (l : List Edge). AreLineCosts into (flat_map line_of (map (edge_of u) l))) led i in
    let into_lines = flat_map line_of (map (edge_of u) (led_by q.deed c.list own)) in
    let both = costs_on (first_lines u q.deed q.root c.asserts) into_lines judged into most a into_led s in
    let all = costs_on (first_lines u q.deed q.root c.asserts ++ into_lines) (last_lines u q.deed) most last lines both b r in
    subst (λ (z : Code). AreTotals (frame_unrolled_of u) (point_by u q z own ∷ []) t) code (point_totals_are u q c own lines at_exit t of_code all e)

-- an edge of a part is an edge
pub in_range : (es : List Edge) (first n : ℕ) (e : Edge) → Contains (take n (drop first es)) e → Contains es e
in_range es first n e h =
    let here = subst (λ (l : List Edge). Contains l e) (take-append-drop n (drop first es))
    (Contains-append_left (take n (drop first es)) (drop n (drop first es)) e h) in
    subst (λ (l : List Edge). Contains l e) (take-append-drop first es) (Contains-append_right (take first es) (drop first es) e here)
