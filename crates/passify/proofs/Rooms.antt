-- What all points may cost is what the price counts.
use Rattle.std.proofs.Common.{◌≡◌, ℕ, ◌+◌, ◌-◌, ◌*◌, ◌≤◌, List, [], ◌∷◌, length, sum_by, refl, ap, ◌∙◌, arith}
use Rattle.std.specs.List.{flat_map, list_any}
use Rattle.std.proofs.lemmas.Nat.{mul-le}
use Rattle.std.proofs.lemmas.List.Sums.{sum_by-cons, sum_by-append}
use Rattle.bilv_spec.specs.Notes.{Expr}
use Rattle.bilv_spec.specs.Points.{line_price, bytes_loaded}
use Rattle.term_spec.specs.Terms.{TermNode, term_gates, term_loads, term_stores, term_joins}
use Rattle.walk_spec.specs.Prices.{line_size, line_steps}
use Rattle.frame_spec.specs.FrameWalk.{UnrolledPoint, UnrolledProgram}
use Rattle.frame_laws.specs.FramePrices.{is_edge, goes_out, lines_at, action_size, variables_of, edges_of, stores_of, own_exit, own_writes, point_price, point_loads, point_bound, root_bound, begin_lines}
use Rattle.term_dag.specs.Made.{Grew}
use Rattle.passify.specs.Handled.{point_gates, point_loaded, point_joins, point_nodes}
use Rattle.passify.specs.Planted.{LeaveRootRoom}
use Rattle.passify.specs.Swept.{LeaveRoom}

product_on : (a b k : ℕ) → (a + b) * k ≡ a * k + b * k
product_on a b k = omega arith

product_back : (a b k : ℕ) → k * (a + b) ≡ k * a + k * b
product_back a b k = omega arith

module _ (u : UnrolledProgram) where
  lines_sum : (f : Expr → ℕ) (q : UnrolledPoint) (ps : List UnrolledPoint) →
      sum_by f (flat_map (lines_at u) (q ∷ ps)) ≡ sum_by f (lines_at u q) + sum_by f (flat_map (lines_at u) ps)
  lines_sum f q ps = sum_by-append f (lines_at u q) (flat_map (lines_at u) ps)

  gates_sum : (ps : List UnrolledPoint) →
      sum_by (point_gates u) ps
      ≡ sum_by (λ q. q.row) ps + 1280 * sum_by (λ q. sum_by is_edge q.exits) ps + sum_by line_price (flat_map (lines_at u) ps)
      + sum_by (λ q. own_exit u.own (list_any goes_out q.exits)) ps + 512 * (sum_by (λ q. q.stores) ps * own_writes u)
      + 128 * (sum_by (λ q. q.stores) ps * length u.kept)
  gates_sum [] = let e : 0 ≡ 0 + 512 * (0 * own_writes u) + 128 * (0 * length u.kept) = omega arith in e
  gates_sum (q ∷ ps) =
      let a = sum_by-cons (point_gates u) q ps in
      let b = sum_by-cons (λ (p : UnrolledPoint). p.row) q ps in
      let c = sum_by-cons (λ (p : UnrolledPoint). sum_by is_edge p.exits) q ps in
      let d = lines_sum line_price q ps in
      let x = sum_by-cons (λ (p : UnrolledPoint). own_exit u.own (list_any goes_out p.exits)) q ps in
      let w = ap (λ z. z * own_writes u) (sum_by-cons (λ (p : UnrolledPoint). p.stores) q ps) ∙ product_on q.stores (sum_by
      (λ p. p.stores) ps) (own_writes u) in
      let e = ap (λ z. z * length u.kept) (sum_by-cons (λ (p : UnrolledPoint). p.stores) q ps) ∙ product_on q.stores (sum_by
      (λ p. p.stores) ps) (length u.kept) in
      omega (arith, gates_sum ps, a, b, c, d, x, w, e)

  loads_sum : (ps : List UnrolledPoint) → sum_by (point_loaded u) ps ≡ sum_by (λ q. q.loads) ps + sum_by bytes_loaded (flat_map (lines_at u) ps)
  loads_sum [] = refl
  loads_sum (q ∷ ps) =
      let a = sum_by-cons (point_loaded u) q ps in
      let b = sum_by-cons (λ (p : UnrolledPoint). p.loads) q ps in
      let d = lines_sum bytes_loaded q ps in
      omega (arith, loads_sum ps, a, b, d)

  joins_sum : (ps : List UnrolledPoint) → sum_by point_joins ps ≡ sum_by (λ q. sum_by is_edge q.exits) ps + 2 * sum_by (λ q. q.stores) ps
  joins_sum [] = refl
  joins_sum (q ∷ ps) =
      let a = sum_by-cons point_joins q ps in
      let b = sum_by-cons (λ (p : UnrolledPoint). sum_by is_edge p.exits) q ps in
      let c = sum_by-cons (λ (p : UnrolledPoint). p.stores) q ps in
      omega (arith, joins_sum ps, a, b, c)

  nodes_sum : (ps : List UnrolledPoint) →
      sum_by (point_nodes u) ps
      ≡ 4
      * (sum_by (λ q. action_size q.does) ps + variables_of u * sum_by (λ q. sum_by is_edge q.exits) ps
      + (16 * length ps + line_steps (flat_map (lines_at u) ps) + 4 * (sum_by (λ q. q.stores) ps * length u.kept)
      + 4 * (sum_by (λ q. q.stores) ps * own_writes u)))
  nodes_sum [] = let e : 0 ≡ 4 * (0 + variables_of u * 0 + (16 * 0 + 0 + 4 * (0 * length u.kept) + 4 * (0 * own_writes u))) = omega arith in e
  nodes_sum (q ∷ ps) =
      let a = sum_by-cons (point_nodes u) q ps in
      let b = sum_by-cons (λ (p : UnrolledPoint). action_size p.does) q ps in
      let c = ap (λ z. variables_of u * z) (sum_by-cons (λ (p : UnrolledPoint). sum_by is_edge p.exits) q ps)
      ∙ product_back (sum_by is_edge q.exits) (sum_by (λ p. sum_by is_edge p.exits) ps) (variables_of u) in
      let d = lines_sum (λ e. line_size e + 4) q ps in
      let w = ap (λ z. z * own_writes u) (sum_by-cons (λ (p : UnrolledPoint). p.stores) q ps) ∙ product_on q.stores (sum_by
      (λ p. p.stores) ps) (own_writes u) in
      let e = ap (λ z. z * length u.kept) (sum_by-cons (λ (p : UnrolledPoint). p.stores) q ps) ∙ product_on q.stores (sum_by
      (λ p. p.stores) ps) (length u.kept) in
      omega (arith, nodes_sum ps, a, b, c, d, w, e)

  -- one point more is paid for
  pub room_on : (old new : List TermNode) (q : UnrolledPoint) (rest : List UnrolledPoint) → LeaveRoom u old (q ∷ rest) →
      Grew old new (point_gates u q) (point_loaded u q) q.stores (point_joins q) (point_nodes u q) → LeaveRoom u new rest
  room_on old new q rest r g = record {
    gates = (let a = sum_by-cons (point_gates u) q rest in omega (arith, r.gates, g.gates, a));
    loads = (let a = sum_by-cons (point_loaded u) q rest in omega (arith, r.loads, g.loads, a));
    stores = (let a = sum_by-cons (λ (p : UnrolledPoint). p.stores) q rest in omega (arith, r.stores, g.stores, a));
    joins = (let a = sum_by-cons point_joins q rest in omega (arith, r.joins, g.joins, a));
    few = (let a = sum_by-cons (point_nodes u) q rest in omega (arith, r.few, g.few, a));
  }

  -- or costs nothing
  pub room_past : (nodes : List TermNode) (q : UnrolledPoint) (rest : List UnrolledPoint) → LeaveRoom u nodes (q ∷ rest) → LeaveRoom u nodes rest
  room_past nodes q rest r = record {
    gates = (let a = sum_by-cons (point_gates u) q rest in omega (arith, r.gates, a));
    loads = (let a = sum_by-cons (point_loaded u) q rest in omega (arith, r.loads, a));
    stores = (let a = sum_by-cons (λ (p : UnrolledPoint). p.stores) q rest in omega (arith, r.stores, a));
    joins = (let a = sum_by-cons point_joins q rest in omega (arith, r.joins, a));
    few = (let a = sum_by-cons (point_nodes u) q rest in omega (arith, r.few, a));
  }

  -- nothing is yet, where all segments have begun
  pub room_first : (new : List TermNode) → 1 ≤ length u.roots → LeaveRootRoom u new [] → LeaveRoom u new u.points
  room_first new some r =
      let m = mul-le (length u.roots - 1) 1 (length u.roots - 1) (variables_of u + 16) (omega arith) (omega arith) in record {
        gates = (let a = r.gates in omega (arith, a));
        loads = (let a = r.loads in omega (arith, a));
        stores = (let a = r.stores in omega (arith, a));
        joins = (let a = r.joins in omega (arith, a));
        few = (let a = r.few in omega (arith, a, m, some));
      }

  -- all is
  module _ (nodes : List TermNode) (r : LeaveRoom u nodes []) where
    pub all_gates : term_gates nodes ≤ point_price u + sum_by line_price (begin_lines u)
    all_gates = let a = gates_sum u.points in omega (arith, r.gates, a)

    pub all_loads : term_loads nodes ≤ point_loads u + sum_by bytes_loaded (begin_lines u)
    all_loads = let a = loads_sum u.points in omega (arith, r.loads, a)

    pub all_stores : term_stores nodes ≤ stores_of u
    all_stores = omega (arith, r.stores)

    pub all_joins : term_joins nodes ≤ edges_of u + 2 * stores_of u
    all_joins = let a = joins_sum u.points in omega (arith, r.joins, a)

    pub all_few : length nodes ≤ point_bound u + root_bound u
    all_few = let a = nodes_sum u.points in omega (arith, r.few, a)
