-- The parts of the price and of the bounds of an unrolled frame add up, and without heads and contracts they are those of the unrolled program.
use Rattle.std.proofs.Common.{◌≡◌, arith, refl, ap, ◌∙◌, ℕ, ◌+◌, ◌*◌, ◌-◌, List, [], ◌∷◌, ◌++◌, length, None, Bool, false}
use Rattle.std.specs.Prelude.{if◌then◌else◌, ◌||◌, map, sum_by}
use Rattle.std.specs.List.{list_any, flat_map}
use Rattle.std.proofs.lemmas.List.{append-nil, length-map}
use Rattle.std.proofs.lemmas.List.Sums.{sum_by-cons, sum_by-append}
use Rattle.bilv_spec.specs.Notes.{Expr}
use Rattle.bilv_spec.specs.Points.{line_price, bytes_loaded}
use Rattle.walk_spec.specs.Unrolled as tables
use Rattle.walk_spec.specs.Prices as prices
use Rattle.walk_spec.specs.Prices.{cell_price, line_size, line_steps}
use Rattle.frame_spec.specs.FramePoints.{says_of}
use Rattle.frame_spec.specs.FrameWalk.{UnrolledPoint, UnrolledProgram}
use Rattle.frame_laws.proofs.OnceLists.{mapped_sum, mapped_lines}
use Rattle.frame_laws.specs.HeadlessLaws.{as_aim, as_exit, as_action, as_place, as_unrolled}
use Rattle.frame_laws.specs.FramePrices.{is_edge, is_outward, goes_out, lines_into, line_of, action_lines, exit_lines, edges_of, lines_at, required_lines, own_lines, root_lines, begin_lines, point_lines, lines_of, point_loads, loads_of, stores_of, own_writes, own_exit, own_exits, point_price, term_price, unrolled_price, action_size, variables_of, list_nodes, node_bound, point_bound, FramePartsAddUp, HeadlessBounds}

-- a sum over all lines is one over their parts
parts : (g : Expr → ℕ) (a o b c : List Expr) → sum_by g (a ++ o ++ b ++ c) ≡ sum_by g a + sum_by g (o ++ b) + sum_by g c
parts g a o b c =
    let all = sum_by-append g (a ++ o ++ b) c in
    let three = sum_by-append g (a ++ o) b in
    let two = sum_by-append g a o in
    let last = sum_by-append g o b in
    omega (arith, all, three, two, last)

price_parts : (h r e a b c o w k : ℕ) → 1024 + h + r + e + (a + b + c) + o + w + k ≡ r + e + c + o + w + k + (1024 + a) + (h + b)
price_parts h r e a b c o w k = omega arith

load_parts : (l a b c : ℕ) → l + (a + b + c) ≡ l + c + a + b
load_parts l a b c = omega arith

bound_parts : (n e v m p a b c s w : ℕ) →
    4 * (n + e + (v + 16 + m + p + (a + b + c) + s + w)) ≡ 2 * v + 48 + 4 * (n + e + (p + c + s + w)) + (2 * v + 16 + 4 * a) + (4 * m + 4 * b)
bound_parts n e v m p a b c s w = omega arith

pub frame_parts_add_up : FramePartsAddUp
frame_parts_add_up u heads =
    let lines = parts line_price (required_lines u) (own_lines u) (root_lines u) (point_lines u) in
    let loads = parts bytes_loaded (required_lines u) (own_lines u) (root_lines u) (point_lines u) in
    let steps = parts (λ x. line_size x + 4) (required_lines u) (own_lines u) (root_lines u) (point_lines u) in
    let h : ℕ = if heads then 1024 else 0 in (
      ap (λ z. 1024 + (if heads then 1024 else 0) + sum_by (λ q. q.row) u.points + 1280 * edges_of u + z + own_exits u + 512 * (stores_of u * own_writes u)
          + 128 * (stores_of u * length u.kept)) lines
          ∙ price_parts (if heads then 1024 else 0) (sum_by (λ q. q.row) u.points) (1280 * edges_of u) (sum_by line_price (required_lines u))
          (sum_by line_price (begin_lines u)) (sum_by line_price (point_lines u)) (own_exits u) (512 * (stores_of u * own_writes u))
          (128 * (stores_of u * length u.kept)),
      ap (λ z. sum_by (λ q. q.loads) u.points + z) loads
          ∙ load_parts (sum_by (λ q. q.loads) u.points) (sum_by bytes_loaded (required_lines u)) (sum_by bytes_loaded (begin_lines u))
          (sum_by bytes_loaded (point_lines u)),
      ap (λ z. 4 * (list_nodes u + variables_of u * edges_of u
          + (variables_of u + 16 + (length u.roots - 1) * (variables_of u + 16) + 16 * length u.points + z
          + 4 * (stores_of u * length u.kept) + 4 * (stores_of u * own_writes u)))) steps
          ∙ bound_parts (list_nodes u) (variables_of u * edges_of u) (variables_of u) ((length u.roots - 1) * (variables_of u + 16)) (16 * length u.points)
          (line_steps (required_lines u)) (line_steps (begin_lines u)) (line_steps (point_lines u)) (4 * (stores_of u * length u.kept))
          (4 * (stores_of u * own_writes u)),
    )

-- an unrolled program
edge_same : (x : tables.PointExit) → is_edge (as_exit x) ≡ tables.is_edge x
edge_same (tables.FalseAssert line e) = refl
edge_same (tables.Always e) = refl
edge_same tables.Raising = refl
edge_same tables.WritingKept = refl
edge_same tables.Unaligned = refl
edge_same (tables.Along falls jumps to aim) = refl

out_by_aim : (aim : tables.Aim) → is_outward (as_aim aim) ≡ tables.is_outward aim
out_by_aim (tables.OnTo i) = refl
out_by_aim tables.Outward = refl
out_by_aim tables.OverLast = refl
out_by_aim (tables.ToEvent e) = refl

pub out_same : (x : tables.PointExit) → goes_out (as_exit x) ≡ tables.goes_out x
out_same (tables.FalseAssert line e) = refl
out_same (tables.Always e) = refl
out_same tables.Raising = refl
out_same tables.WritingKept = refl
out_same tables.Unaligned = refl
out_same (tables.Along falls jumps to aim) = out_by_aim aim

into_none : (aim : tables.Aim) → lines_into (as_aim aim) ≡ []
into_none (tables.OnTo i) = refl
into_none tables.Outward = refl
into_none tables.OverLast = refl
into_none (tables.ToEvent e) = refl

line_same : (x : tables.PointExit) → line_of (as_exit x) ≡ prices.line_of x
line_same (tables.FalseAssert line e) = refl
line_same (tables.Always e) = refl
line_same tables.Raising = refl
line_same tables.WritingKept = refl
line_same tables.Unaligned = refl
line_same (tables.Along falls jumps to aim) = into_none aim

mapped_any : {X Y : Type 0} (to : X → Y) (g : Y → Bool) (h : X → Bool) → ((x : X) → g (to x) ≡ h x) → (xs : List X) → list_any g (map to xs) ≡ list_any h xs
mapped_any to g h e [] = refl
mapped_any to g h e (x ∷ xs) = ap (λ z. z || list_any g (map to xs)) (e x) ∙ ap (λ z. h x || z) (mapped_any to g h e xs)

no_action_lines : (a : tables.Action) → action_lines (as_action a) ≡ []
no_action_lines (tables.Executes list) = refl

size_same : (a : tables.Action) → action_size (as_action a) ≡ prices.action_size a
size_same (tables.Executes list) = refl

module _ (u : tables.UnrolledProgram) where
  abbrev v : UnrolledProgram
  v = as_unrolled u

  lines_at_same : (q : tables.UnrolledPoint) → lines_at v (as_place q) ≡ prices.lines_at u q
  lines_at_same q =
      let exits = map as_exit q.exits in
      ap (λ z. flat_map line_of exits ++ z ++ (if list_any goes_out exits then exit_lines v else [])) (no_action_lines q.does)
      ∙ ap (λ z. z ++ (if list_any goes_out exits then exit_lines v else [])) (append-nil (flat_map line_of exits))
      ∙ ap (λ z. z ++ (if list_any goes_out exits then exit_lines v else [])) (mapped_lines as_exit line_of prices.line_of line_same q.exits)
      ∙ ap (λ z. flat_map prices.line_of q.exits ++ (if z then exit_lines v else [])) (mapped_any as_exit goes_out tables.goes_out out_same q.exits)

  point_lines_same : point_lines v ≡ prices.point_lines u
  point_lines_same = mapped_lines as_place (lines_at v) (prices.lines_at u) lines_at_same u.points

  lines_same : lines_of v ≡ prices.lines_of u
  lines_same =
      ap (λ z. z ++ [] ++ point_lines v) (append-nil (says_of u.requires)) ∙ ap (λ z. z ++ point_lines v) (append-nil (says_of u.requires))
      ∙ ap (λ z. says_of u.requires ++ z) point_lines_same

  rows_same : sum_by (λ q. q.row) v.points ≡ sum_by (λ q. q.row) u.points
  rows_same = mapped_sum as_place (λ q. q.row) (λ q. q.row) (λ q. refl) u.points

  row_loads_same : sum_by (λ q. q.loads) v.points ≡ sum_by (λ q. q.loads) u.points
  row_loads_same = mapped_sum as_place (λ q. q.loads) (λ q. q.loads) (λ q. refl) u.points

  stores_same : stores_of v ≡ prices.stores_of u
  stores_same = mapped_sum as_place (λ q. q.stores) (λ q. q.stores) (λ q. refl) u.points

  edges_same : edges_of v ≡ prices.edges_of u
  edges_same =
      mapped_sum as_place (λ q. sum_by is_edge q.exits) (λ q. sum_by tables.is_edge q.exits)
      (λ q. mapped_sum as_exit is_edge tables.is_edge edge_same q.exits) u.points

  nodes_same : list_nodes v ≡ prices.list_nodes u
  nodes_same = mapped_sum as_place (λ q. action_size q.does) (λ q. prices.action_size q.does) (λ q. size_same q.does) u.points

  no_own : (xs : List UnrolledPoint) → sum_by (λ q. own_exit None (list_any goes_out q.exits)) xs ≡ 0
  no_own [] = refl
  no_own (q ∷ xs) = sum_by-cons (λ q. own_exit None (list_any goes_out q.exits)) q xs ∙ ap (λ z. 0 + z) (no_own xs)

  loads_same : loads_of v ≡ prices.loads_of u
  loads_same = ap (λ z. z + sum_by bytes_loaded (lines_of v)) row_loads_same ∙ ap (λ z. sum_by (λ q. q.loads) u.points + sum_by bytes_loaded z) lines_same

  point_loads_same : point_loads v ≡ prices.point_loads u
  point_loads_same =
      ap (λ z. z + sum_by bytes_loaded (point_lines v)) row_loads_same ∙ ap (λ z. sum_by (λ q. q.loads) u.points + sum_by bytes_loaded z) point_lines_same

  plain_point : (r e l s k : ℕ) → r + e + l + 0 + 512 * (s * 0) + 128 * (s * k) ≡ r + e + l + 128 * (s * k)
  plain_point r e l s k = let z : s * 0 ≡ 0 = omega arith in omega arith

  point_price_same : point_price v ≡ prices.point_price u
  point_price_same =
      rw (no_own v.points, point_lines_same, rows_same, stores_same, edges_same)
      (plain_point (sum_by (λ q. q.row) u.points) (1280 * prices.edges_of u) (sum_by line_price (prices.point_lines u)) (prices.stores_of u) (length u.kept))

  plain_term : (r e l s k : ℕ) → 1024 + 0 + r + e + l + 0 + 512 * (s * 0) + 128 * (s * k) ≡ 1024 + r + e + l + 128 * (s * k)
  plain_term r e l s k = let z : s * 0 ≡ 0 = omega arith in omega arith

  term_price_same : term_price v false ≡ prices.term_price u
  term_price_same =
      rw (no_own v.points, lines_same, rows_same, stores_same, edges_same)
      (plain_term (sum_by (λ q. q.row) u.points) (1280 * prices.edges_of u) (sum_by line_price (prices.lines_of u)) (prices.stores_of u) (length u.kept))

  price_same : unrolled_price v false ≡ prices.unrolled_price u
  price_same =
      ap (λ z. z + cell_price (loads_of v) (stores_of v) (edges_of v) (prices.known_of u)) term_price_same
      ∙ ap (λ z. prices.term_price u + cell_price z (stores_of v) (edges_of v) (prices.known_of u)) loads_same
      ∙ ap (λ z. prices.term_price u + cell_price (prices.loads_of u) z (edges_of v) (prices.known_of u)) stores_same
      ∙ ap (λ z. prices.term_price u + cell_price (prices.loads_of u) (prices.stores_of u) z (prices.known_of u)) edges_same

  plain_bound : (n v e p l s k : ℕ) →
      4 * (n + v * e + (v + 16 + 0 * (v + 16) + 16 * p + l + 4 * (s * k) + 4 * (s * 0))) ≡ 4 * (n + v * e + (v + 16 + 16 * p + l + 4 * (s * k)))
  plain_bound n v e p l s k = let z : s * 0 ≡ 0 = omega arith in let y : 0 * (v + 16) ≡ 0 = omega arith in omega arith

  bound_same : node_bound v ≡ prices.node_bound u
  bound_same =
      rw (nodes_same, edges_same, lines_same, stores_same, length-map u.points as_place)
      (plain_bound (prices.list_nodes u) (prices.variables_of u) (prices.edges_of u) (length u.points) (line_steps (prices.lines_of u)) (prices.stores_of u)
      (length u.kept))

  plain_points : (n v e p l s k : ℕ) →
      2 * v + 48 + 4 * (n + v * e + (16 * p + l + 4 * (s * k) + 4 * (s * 0))) ≡ 2 * v + 48 + 4 * (n + v * e + (16 * p + l + 4 * (s * k)))
  plain_points n v e p l s k = let z : s * 0 ≡ 0 = omega arith in omega arith

  point_bound_same : point_bound v ≡ prices.point_bound u
  point_bound_same =
      rw (nodes_same, edges_same, point_lines_same, stores_same, length-map u.points as_place)
      (plain_points (prices.list_nodes u) (prices.variables_of u) (prices.edges_of u) (length u.points) (line_steps (prices.point_lines u)) (prices.stores_of u)
      (length u.kept))

pub headless_bounds : HeadlessBounds
headless_bounds u = (
  price_same u,
  term_price_same u,
  point_price_same u,
  loads_same u,
  point_loads_same u,
  stores_same u,
  edges_same u,
  bound_same u,
  point_bound_same u,
)
