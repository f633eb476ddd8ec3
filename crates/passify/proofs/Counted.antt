-- What a point costs.
use Rattle.std.proofs.Common.{◌≡◌, ℕ, zero, suc, ◌+◌, ◌*◌, ◌≤◌, Bool, true, false, List, [], ◌∷◌, ◌++◌, Option, Some, None, length, map, refl, ap, sym, ◌∙◌, subst, arith, Contains}
use Rattle.std.specs.Prelude.{◌-◌, if◌then◌else◌, ◌||◌, slice_range, sum_by}
use Rattle.std.specs.List.{flat_map, list_any}
use Rattle.std.specs.Global.{Vec}
use Rattle.std.proofs.lemmas.Nat.{mul-le}
use Rattle.std.proofs.lemmas.List.Sums.{sum_by-cons, sum_by-append}
use Rattle.std.proofs.lemmas.List.Concat.{flat_map-append}
use Rattle.std.proofs.lemmas.List.Folds.{list_any-append}
use Rattle.word_spec.specs.Words.{bit}
use Rattle.bilv_spec.specs.Notes.{Expr, NoteLine}
use Rattle.bilv_spec.specs.Points.{line_price, bytes_loaded}
use Rattle.machine_spec.specs.Bil.{list_size}
use Rattle.machine_spec.specs.BilCounts.{list_weight, byte_loads, byte_stores}
use Rattle.bil_ast.specs.declared.statements.Stmt.{Stmt}
use Rattle.bil_ast.specs.Views.{statements}
use Rattle.walk_spec.specs.Prices.{line_size, line_steps}
use Rattle.frame_spec.specs.Frames.{Contract, Writes}
use Rattle.frame_spec.specs.FramePoints.{says_of}
use Rattle.frame_spec.specs.FrameUnrolling.{outside_exit}
use Rattle.frame_spec.specs.FrameWalk.{Action, Check, Executes, PointExit, FalseCheck, FalseNeed, NotGiven, Raising, WritingKept, WritingOutside, Unaligned}
use Rattle.frame_laws.specs.FramePrices.{action_lines, action_size, goes_out, is_edge, line_of, lines_at, lines_into, own_writes, variables_of}
use Rattle.question_form.specs.declared.unrolled.Aim.{Aim}
use Rattle.question_form.specs.declared.unrolled.Aim.TheVariants.{OnTo, IntoHead, Outward, OverLast}
use Rattle.question_form.specs.declared.unrolled.Edge.{Edge}
use Rattle.question_form.specs.declared.unrolled.Unrolled.{Unrolled}
use Rattle.question_form.specs.declared.unrolled.Deed.{Deed}
use Rattle.question_form.specs.declared.unrolled.Deed.TheVariants as deeds
use Rattle.program_points.specs.Tables.{stack_at}
use Rattle.question_form.specs.FrameViews.{action_of, aim_of, anchor_at, edge_of, exits_of, judged_at, list_of, own_contract, row_exits, stepped_at, frame_unrolled_of}
use Rattle.term_names.specs.declared.names.Names.{Names}
use Rattle.passify.specs.Sweeps.{bits_of, terms_of}
use Rattle.passify.specs.declared.spans.Span.{Span}
use Rattle.passify.specs.Spans.{bytes_of, is_own}
use Rattle.passify.specs.Situations.{checks_of, said}
use Rattle.passify.specs.Edges.{aim_gates, aim_loads, aim_joins, aim_nodes, lines_out}
use Rattle.passify.proofs.Tried.{price_room}
use Rattle.passify.specs.Handled.{point_gates, point_loaded, point_joins, point_nodes}
use Rattle.passify.specs.Rows.{index_for, is_of_head, own_code, own_checks, own_edges, own_lines, own_point, framed}

-- the edges among exits that lead out
abbrev outs : List PointExit → ℕ
outs xs = sum_by (λ x. bit (goes_out x)) xs

checks_lines : (checks : List Check) → flat_map line_of (map FalseCheck checks) ≡ said checks
checks_lines [] = refl
checks_lines (x ∷ checks) = ap (λ (l : List Expr). x.says ∷ l) (checks_lines checks)

checks_edges : (checks : List Check) → sum_by is_edge (map FalseCheck checks) ≡ 0
checks_edges [] = refl
checks_edges (x ∷ checks) = let h = sum_by-cons is_edge (FalseCheck x) (map FalseCheck checks) in let e = checks_edges checks in omega arith

checks_outs : (checks : List Check) → outs (map FalseCheck checks) ≡ 0
checks_outs [] = refl
checks_outs (x ∷ checks) = let h = sum_by-cons (λ z. bit (goes_out z)) (FalseCheck x) (map FalseCheck checks) in let e = checks_outs checks in omega arith

checks_stay : (checks : List Check) → list_any goes_out (map FalseCheck checks) ≡ false
checks_stay [] = refl
checks_stay (x ∷ checks) = checks_stay checks

append_nothing : (xs : List Expr) → xs ++ [] ≡ xs
append_nothing [] = refl
append_nothing (x ∷ xs) = ap (λ (z : List Expr). x ∷ z) (append_nothing xs)

sum_cases : (g : Expr → ℕ) (b : Bool) (e : List Expr) → sum_by g (if b then e else []) ≡ (if b then sum_by g e else 0)
sum_cases g true e = refl
sum_cases g false e = refl

module _ (u : Unrolled) where
  edges_are : (es : List Edge) → sum_by is_edge (map (edge_of u) es) ≡ length es
  edges_are [] = refl
  edges_are (e ∷ es) = let h = sum_by-cons is_edge (edge_of u e) (map (edge_of u) es) in let i = edges_are es in omega arith

  -- what the lines at heads cost, where edges lead
  edges_sum : (g : Expr → ℕ) (es : List Edge) →
      sum_by g (flat_map line_of (map (edge_of u) es)) ≡ sum_by (λ e. sum_by g (lines_into (aim_of u e.aim))) es
  edges_sum g [] = refl
  edges_sum g (e ∷ es) =
      let a = sum_by-append g (lines_into (aim_of u e.aim)) (flat_map line_of (map (edge_of u) es)) in
      let c = sum_by-cons (λ (z : Edge). sum_by g (lines_into (aim_of u z.aim))) e es in
      let r = edges_sum g es in
      omega (arith, a, c, r)

-- the exits of an assert line come to its lines alone
module _ (checks : List Check) (xs : List PointExit) where
  all_edges : sum_by is_edge (map FalseCheck checks ++ xs) ≡ sum_by is_edge xs
  all_edges = let h = sum_by-append is_edge (map FalseCheck checks) xs in let e = checks_edges checks in omega arith

  all_outs : outs (map FalseCheck checks ++ xs) ≡ outs xs
  all_outs = let h = sum_by-append (λ z. bit (goes_out z)) (map FalseCheck checks) xs in let e = checks_outs checks in omega arith

  all_stay : list_any goes_out (map FalseCheck checks ++ xs) ≡ list_any goes_out xs
  all_stay = list_any-append goes_out (map FalseCheck checks) xs ∙ ap (λ (b : Bool). b || list_any goes_out xs) (checks_stay checks)

  all_lines : (g : Expr → ℕ) → sum_by g (flat_map line_of (map FalseCheck checks ++ xs)) ≡ sum_by g (said checks) + sum_by g (flat_map line_of xs)
  all_lines g =
      ap (λ (l : List Expr). sum_by g l) (flat_map-append line_of (map FalseCheck checks) xs)
      ∙ sum_by-append g (flat_map line_of (map FalseCheck checks)) (flat_map line_of xs)
      ∙ ap (λ (l : List Expr). sum_by g l + sum_by g (flat_map line_of xs)) (checks_lines checks)

  -- the sum of what the lines cost
  lines_sum : (g : Expr → ℕ) (acts ends : List Expr) →
      sum_by g (flat_map line_of (map FalseCheck checks ++ xs) ++ acts ++ (if list_any goes_out (map FalseCheck checks ++ xs) then ends else []))
      ≡ sum_by g (said checks) + sum_by g (flat_map line_of xs) + sum_by g acts + (if list_any goes_out xs then sum_by g ends else 0)
  lines_sum g acts ends =
      let all = map FalseCheck checks ++ xs in
      let last : List Expr = if list_any goes_out all then ends else [] in
      let a = sum_by-append g (flat_map line_of all ++ acts) last in
      let b = sum_by-append g (flat_map line_of all) acts in
      let c = all_lines g in
      let d = ap (λ (q : Bool). sum_by g (if q then ends else [])) all_stay ∙ sum_cases g (list_any goes_out xs) ends in
      omega (arith, a, b, c, d)

-- what edges cost, of which at most one leads out
module _ (u : Unrolled) (f own : Edge → ℕ) (each out : ℕ) (few : (e : Edge) → f e ≤ each + own e + (if goes_out (edge_of u e) then out else 0)) where
  more_each : (n : ℕ) → each * suc n ≡ each + each * n
  more_each n = omega arith

  none_out_by : (e : Edge) (b : Bool) (n s o r : ℕ) → b ≡ goes_out (edge_of u e) → bit b + r ≡ 0 → s ≤ each * n + o →
      f e ≤ each + own e + (if b then out else 0) → f e + s ≤ each * suc n + (own e + o)
  none_out_by e true n s o r h z l k = absurd (omega arith)
  none_out_by e false n s o r h z l k = let m = more_each n in omega (arith, m, l, k)

  none_out : (es : List Edge) → outs (map (edge_of u) es) ≡ 0 → sum_by f es ≤ each * length es + sum_by own es
  none_out [] h = omega arith
  none_out (e ∷ es) h =
      let c = sum_by-cons f e es in
      let d = sum_by-cons own e es in
      let o = sum_by-cons (λ z. bit (goes_out z)) (edge_of u e) (map (edge_of u) es) in
      let r : outs (map (edge_of u) es) ≡ 0 = omega (arith, o, h) in
      let k = none_out_by e (goes_out (edge_of u e)) (length es) (sum_by f es) (sum_by own es) (outs (map (edge_of u) es)) refl (sym o ∙ h) (none_out es r)
      (few e) in
      omega (arith, c, d, k)

  some_out_by : (e : Edge) (es : List Edge) (b : Bool) → goes_out (edge_of u e) ≡ b → bit b + outs (map (edge_of u) es) ≤ 1 →
      f e ≤ each + own e + (if b then out else 0) →
      (outs (map (edge_of u) es) ≤ 1 → sum_by f es ≤ each * length es + sum_by own es + (if list_any goes_out (map (edge_of u) es) then out else 0)) →
      f e + sum_by f es ≤ each * suc (length es) + (own e + sum_by own es) + (if b || list_any goes_out (map (edge_of u) es) then out else 0)
  some_out_by e es true h o k more =
      let z : outs (map (edge_of u) es) ≡ 0 = omega (arith, o) in
      let n = none_out es z in let m = more_each (length es) in omega (arith, m, n, k)
  some_out_by e es false h o k more = let n = more (omega (arith, o)) in let m = more_each (length es) in omega (arith, m, n, k)

  some_out : (es : List Edge) → outs (map (edge_of u) es) ≤ 1 →
      sum_by f es ≤ each * length es + sum_by own es + (if list_any goes_out (map (edge_of u) es) then out else 0)
  some_out [] h = omega arith
  some_out (e ∷ es) h =
      let c = sum_by-cons f e es in
      let d = sum_by-cons own e es in
      let o = sum_by-cons (λ z. bit (goes_out z)) (edge_of u e) (map (edge_of u) es) in
      let k = some_out_by e es (goes_out (edge_of u e)) refl (omega (arith, o, h)) (few e) (λ l. some_out es l) in
      omega (arith, c, d, k)

-- the terms of a state are as many as the program's variables, within their size
pub record AreSized (v : ℕ) (n : Names) : Type 0 where
  pub bits : bits_of n ≤ 996
  pub terms : terms_of n ≡ v
  pub enough : 16 ≤ v
  pub few : v ≤ 36

own_few : (o : Option Contract) (n : ℕ) → is_own o * n ≤ n
own_few None n = omega arith
own_few (Some x) n = omega arith

module _ (u : Unrolled) (v : ℕ) (n : Names) (sized : AreSized v n) where
  -- what the lines cost where an edge leads to a head
  abbrev into : (Expr → ℕ) → Edge → ℕ
  into g e = sum_by g (lines_into (aim_of u e.aim))

  abbrev goes_to : Bool → Bool → Option ℕ → Aim → Edge
  goes_to f j t a = record { falls = f; jumps = j; to = t; aim = a }

  gates_by : (f j : Bool) (t : Option ℕ) (a : Aim) →
      35 + aim_gates u n a ≤ 1280 + into line_price (goes_to f j t a) + (if goes_out (edge_of u (goes_to f j t a)) then sum_by line_price (lines_out u) else 0)
  gates_by f j t (OnTo k) = let b = sized.bits in omega (arith, b)
  gates_by f j t Outward =
      let b = sized.bits in let t = sized.terms in let m = sized.few in let o = own_few (own_contract u) (bits_of n + terms_of n + 1) in omega (arith, b, t, m, o)
  gates_by f j t (IntoHead at asserts) = omega arith
  gates_by f j t OverLast = omega arith

  loads_by : (f j : Bool) (t : Option ℕ) (a : Aim) →
      aim_loads u a ≤ 0 + into bytes_loaded (goes_to f j t a) + (if goes_out (edge_of u (goes_to f j t a)) then sum_by bytes_loaded (lines_out u) else 0)
  loads_by f j t (OnTo k) = omega arith
  loads_by f j t Outward = omega arith
  loads_by f j t (IntoHead at asserts) = omega arith
  loads_by f j t OverLast = omega arith

  joins_by : (f j : Bool) (t : Option ℕ) (a : Aim) → aim_joins a ≤ 1 + 0 + (if goes_out (edge_of u (goes_to f j t a)) then 0 else 0)
  joins_by f j t (OnTo k) = omega arith
  joins_by f j t Outward = omega arith
  joins_by f j t (IntoHead at asserts) = omega arith
  joins_by f j t OverLast = omega arith

  nodes_by : (f j : Bool) (t : Option ℕ) (a : Aim) →
      14 + aim_nodes u n a
      ≤ 4 * v + 4 * into (λ e. line_size e + 4) (goes_to f j t a) + (if goes_out (edge_of u (goes_to f j t a)) then 4 * line_steps (lines_out u) + 15 else 0)
  nodes_by f j t (OnTo k) = let b = sized.terms in let e = sized.enough in omega (arith, b, e)
  nodes_by f j t Outward = let t = sized.terms in let o = own_few (own_contract u) (4 * terms_of n + 1) in omega (arith, t, o)
  nodes_by f j t (IntoHead at asserts) = let e = sized.enough in omega (arith, e)
  nodes_by f j t OverLast = let e = sized.enough in omega (arith, e)

  four_sum : (g : Edge → ℕ) (es : List Edge) → sum_by (λ e. 4 * g e) es ≡ 4 * sum_by g es
  four_sum g [] = refl
  four_sum g (e ∷ es) = let a = sum_by-cons (λ (z : Edge). 4 * g z) e es in let b = sum_by-cons g e es in let r = four_sum g es in omega (arith, a, b, r)

  none_sum : (es : List Edge) → sum_by (λ e. 0) es ≡ 0
  none_sum [] = refl
  none_sum (e ∷ es) = let a = sum_by-cons (λ (z : Edge). 0) e es in let r = none_sum es in omega (arith, a, r)

  module _ (es : List Edge) (one : outs (map (edge_of u) es) ≤ 1) where
    pub edge_gates : sum_by (λ e. 35 + aim_gates u n e.aim) es
        ≤ 1280 * length es + sum_by line_price (flat_map line_of (map (edge_of u) es))
        + (if list_any goes_out (map (edge_of u) es) then sum_by line_price (lines_out u) else 0)
    edge_gates =
        let s = some_out u (λ e. 35 + aim_gates u n e.aim) (into line_price) 1280 (sum_by line_price (lines_out u))
        (λ e. gates_by e.falls e.jumps e.to e.aim) es one in
        let w = edges_sum u line_price es in omega (arith, s, w)

    pub edge_loads : sum_by (λ e. aim_loads u e.aim) es
        ≤ 0 * length es + sum_by bytes_loaded (flat_map line_of (map (edge_of u) es))
        + (if list_any goes_out (map (edge_of u) es) then sum_by bytes_loaded (lines_out u) else 0)
    edge_loads =
        let s = some_out u (λ e. aim_loads u e.aim) (into bytes_loaded) 0 (sum_by bytes_loaded (lines_out u)) (λ e. loads_by e.falls e.jumps e.to e.aim) es one in
        let w = edges_sum u bytes_loaded es in omega (arith, s, w)

    pub edge_joins : sum_by (λ e. aim_joins e.aim) es ≤ 1 * length es + (if list_any goes_out (map (edge_of u) es) then 0 else 0)
    edge_joins =
        let s = some_out u (λ e. aim_joins e.aim) (λ e. 0) 1 0 (λ e. joins_by e.falls e.jumps e.to e.aim) es one in
        let w = none_sum es in omega (arith, s, w)

    pub edge_nodes : sum_by (λ e. 14 + aim_nodes u n e.aim) es
        ≤ (4 * v) * length es + 4 * line_steps (flat_map line_of (map (edge_of u) es))
        + (if list_any goes_out (map (edge_of u) es) then 4 * line_steps (lines_out u) + 15 else 0)
    edge_nodes =
        let s = some_out u (λ e. 14 + aim_nodes u n e.aim) (λ e. 4 * into (λ x. line_size x + 4) e) (4 * v) (4 * line_steps (lines_out u) + 15)
        (λ e. nodes_by e.falls e.jumps e.to e.aim) es one in
        let f = four_sum (into (λ x. line_size x + 4)) es in
        let w = edges_sum u (λ x. line_size x + 4) es in omega (arith, s, f, w)

zero_plus : (n : ℕ) → 0 + n ≡ n
zero_plus n = omega arith

same_cases : (b : Bool) → ◌≡◌ {A = ℕ} (if b then 0 else 0) 0
same_cases true = refl
same_cases false = refl

four_cases : (b : Bool) (n : ℕ) → (if b then 4 * n + 15 else 0) ≤ 4 * (if b then n else 0) + 15
four_cases true n = omega arith
four_cases false n = omega arith

-- spans have bytes
pub spans_few : (xs : List Span) → ((t : Span) → Contains xs t → 1 ≤ t.bytes) → length xs ≤ bytes_of xs
spans_few [] h = omega arith
spans_few (t ∷ xs) h =
    let c = sum_by-cons (λ (z : Span). z.bytes) t xs in
    let one = h t (0, omega arith, refl) in
    let more = spans_few xs (λ z m. h z (suc m.0, (let l = m.1 in omega (arith, l)), m.2)) in
    omega (arith, c, one, more)

-- what is paid for at a place, beside its assert lines
pub record ArePaid (u : Unrolled) (place gates loads stores joins nodes : ℕ) : Type 0 where
  pub few_gates : gates + sum_by line_price (own_lines u place) + 1 ≤ point_gates (frame_unrolled_of u) (framed u place)
  pub few_loads : loads + sum_by bytes_loaded (own_lines u place) ≤ point_loaded (frame_unrolled_of u) (framed u place)
  pub few_stores : stores ≤ (framed u place).stores
  pub few_joins : joins ≤ point_joins (framed u place)
  pub few_nodes : nodes + 4 * line_steps (own_lines u place) + 3 ≤ point_nodes (frame_unrolled_of u) (framed u place)

-- what the tests of what is written may cost, by how many bytes are counted
module _ (n b st k w : ℕ) (few : n ≤ b) (counted : b ≤ st) where
  runs : n * k ≤ st * k
  runs = mul-le n k st k (omega (arith, few, counted)) (omega arith)

  lines : w * b ≤ st * w
  lines = let m = mul-le w b w st (omega arith) counted in let e : w * st ≡ st * w = omega arith in omega (arith, m, e)

  -- where bytes are kept, or none is written
  pub tests_kept : (o : Option Contract) → (1 ≤ is_own o → 1 ≤ st → 1 ≤ k) →
      (98 * (n * k) + is_own o * (n + 162 * (w * b)) ≤ 512 * (st * w) + 128 * (st * k))
      × (10 * (n * k) + is_own o * (2 * n + 12 * (w * b)) ≤ 16 * (st * w) + 16 * (st * k))
  tests_kept None h = (let r = runs in omega (arith, r), let r = runs in omega (arith, r))
  tests_kept (Some x) h = by st refl
    where
      by : (m : ℕ) → st ≡ m → (98 * (n * k) + 1 * (n + 162 * (w * b)) ≤ 512 * (st * w) + 128 * (st * k))
          × (10 * (n * k) + 1 * (2 * n + 12 * (w * b)) ≤ 16 * (st * w) + 16 * (st * k))
      by zero e =
          let z : n ≡ 0 = omega (arith, few, counted, e) in let r = runs in let l = lines in
          (omega (arith, r, l, z), omega (arith, r, l, z))
      by (suc m) e =
          let one = h (omega arith) (omega (arith, e)) in
          let s = mul-le st 1 st k (omega arith) one in let r = runs in let l = lines in
          (omega (arith, r, l, s, few, counted), omega (arith, r, l, s, few, counted))

  -- or where each span has a line that pays
  pub tests_lined : (o : Option Contract) →
      (98 * (n * k) + is_own o * (n + 162 * (w * b)) ≤ n + 512 * (st * w) + 128 * (st * k))
      × (10 * (n * k) + is_own o * (2 * n + 12 * (w * b)) ≤ 2 * n + 16 * (st * w) + 16 * (st * k))
  tests_lined None = (let r = runs in omega (arith, r), let r = runs in omega (arith, r))
  tests_lined (Some x) = (let r = runs in let l = lines in omega (arith, r, l), let r = runs in let l = lines in omega (arith, r, l))

-- the exit by what may not be written costs nothing
skip_lines : (o : Option Contract) (xs : List PointExit) → flat_map line_of (outside_exit o ++ xs) ≡ flat_map line_of xs
skip_lines None xs = refl
skip_lines (Some x) xs = refl

skip_edges : (o : Option Contract) (xs : List PointExit) → sum_by is_edge (outside_exit o ++ xs) ≡ sum_by is_edge xs
skip_edges None xs = refl
skip_edges (Some x) xs = let h = sum_by-cons is_edge WritingOutside xs in omega (arith, h)

skip_outs : (o : Option Contract) (xs : List PointExit) → outs (outside_exit o ++ xs) ≡ outs xs
skip_outs None xs = refl
skip_outs (Some x) xs = let h = sum_by-cons (λ z. bit (goes_out z)) WritingOutside xs in omega (arith, h)

skip_out : (o : Option Contract) (xs : List PointExit) → list_any goes_out (outside_exit o ++ xs) ≡ list_any goes_out xs
skip_out None xs = refl
skip_out (Some x) xs = refl

-- nor do those of what a contract needs cost more than their lines
module _ (xs : List PointExit) where
  abbrev needing : List NoteLine → List PointExit
  needing lines = map (λ l. FalseNeed l.line l.says) lines ++ xs

  need_lines : (g : Expr → ℕ) (lines : List NoteLine) → sum_by g (flat_map line_of (needing lines)) ≡ sum_by g (says_of lines) + sum_by g (flat_map line_of xs)
  need_lines g [] = let e : sum_by g (flat_map line_of xs) ≡ 0 + sum_by g (flat_map line_of xs) = omega arith in e
  need_lines g (l ∷ lines) =
      let a = sum_by-cons g l.says (flat_map line_of (needing lines)) in
      let b = sum_by-cons g l.says (says_of lines) in
      let r = need_lines g lines in omega (arith, a, b, r)

  need_edges : (lines : List NoteLine) → sum_by is_edge (needing lines) ≡ sum_by is_edge xs
  need_edges [] = refl
  need_edges (l ∷ lines) = let a = sum_by-cons is_edge (FalseNeed l.line l.says) (needing lines) in let r = need_edges lines in omega (arith, a, r)

  need_outs : (lines : List NoteLine) → outs (needing lines) ≡ outs xs
  need_outs [] = refl
  need_outs (l ∷ lines) =
      let a = sum_by-cons (λ z. bit (goes_out z)) (FalseNeed l.line l.says) (needing lines) in let r = need_outs lines in omega (arith, a, r)

  need_out : (lines : List NoteLine) → list_any goes_out (needing lines) ≡ list_any goes_out xs
  need_out [] = refl
  need_out (l ∷ lines) = need_out lines

-- exits are some lines that a contract needs, and edges
pub record AreBehind (u : Unrolled) (xs : List PointExit) (needs : List Expr) (es : List Edge) : Type 0 where
  edges : sum_by is_edge xs ≡ length es
  leaves : outs xs ≡ outs (map (edge_of u) es)
  out : list_any goes_out xs ≡ list_any goes_out (map (edge_of u) es)
  lines : (g : Expr → ℕ) → sum_by g (flat_map line_of xs) ≡ sum_by g needs + sum_by g (flat_map line_of (map (edge_of u) es))

row_behind : (u : Unrolled) (o : Option Contract) (es : List Edge) →
    AreBehind u (Raising ∷ WritingKept ∷ (outside_exit o ++ Unaligned ∷ map (edge_of u) es)) [] es
row_behind u o es =
    let E = map (edge_of u) es in
    let M = outside_exit o ++ Unaligned ∷ E in
    record {
      edges = (
          let a = sum_by-cons is_edge Raising (WritingKept ∷ M) in let b = sum_by-cons is_edge WritingKept M in
          let c = skip_edges o (Unaligned ∷ E) in let d = sum_by-cons is_edge Unaligned E in let e = edges_are u es in omega (arith, a, b, c, d, e));
      leaves = (
          let f = λ (z : PointExit). bit (goes_out z) in
          let a = sum_by-cons f Raising (WritingKept ∷ M) in let b = sum_by-cons f WritingKept M in
          let c = skip_outs o (Unaligned ∷ E) in let d = sum_by-cons f Unaligned E in omega (arith, a, b, c, d));
      out = skip_out o (Unaligned ∷ E);
      lines = λ g. (let c = ap (sum_by g) (skip_lines o (Unaligned ∷ E)) in omega (arith, c));
    }

contract_behind : (u : Unrolled) (o : Option Contract) (needs : List NoteLine) (es : List Edge) →
    AreBehind u (map (λ l. FalseNeed l.line l.says) needs ++ WritingKept ∷ (outside_exit o ++ NotGiven ∷ map (edge_of u) es)) (says_of needs) es
contract_behind u o needs es =
    let E = map (edge_of u) es in
    let M = outside_exit o ++ NotGiven ∷ E in
    record {
      edges = (
          let a = need_edges (WritingKept ∷ M) needs in let b = sum_by-cons is_edge WritingKept M in
          let c = skip_edges o (NotGiven ∷ E) in let d = sum_by-cons is_edge NotGiven E in let e = edges_are u es in omega (arith, a, b, c, d, e));
      leaves = (
          let f = λ (z : PointExit). bit (goes_out z) in
          let a = need_outs (WritingKept ∷ M) needs in let b = sum_by-cons f WritingKept M in
          let c = skip_outs o (NotGiven ∷ E) in let d = sum_by-cons f NotGiven E in omega (arith, a, b, c, d));
      out = need_out (WritingKept ∷ M) needs ∙ skip_out o (NotGiven ∷ E);
      lines = λ g. need_lines (WritingKept ∷ M) g needs ∙ ap (λ (l : List Expr). sum_by g (says_of needs) + sum_by g l) (skip_lines o (NotGiven ∷ E));
    }

module _ (u : Unrolled) (i : ℕ) where
  abbrev behind : List PointExit
  behind = exits_of u (own_point u i).deed (own_code u i) (own_edges u i)

  checks_for : (d : Deed) → judged_at u d (anchor_at u (own_point u i).root) (own_code u i)
      ≡ map FalseCheck (checks_of u (is_of_head u i) (index_for d (slice_range u.asserts.items (own_code u i).asserts.0 (own_code u i).asserts.1)))
  checks_for deeds.Row = refl
  checks_for deeds.Arrival = refl
  checks_for (deeds.Contract n) = refl

  pub own_exits : (framed u i).exits ≡ map FalseCheck (own_checks u i) ++ behind
  own_exits = ap (λ (l : List PointExit). l ++ behind) (checks_for (own_point u i).deed)

  own_sum : (g : Expr → ℕ) → sum_by g (lines_at (frame_unrolled_of u) (framed u i))
      ≡ sum_by g (own_lines u i) + sum_by g (flat_map line_of behind) + sum_by g (action_lines (framed u i).does)
      + (if list_any goes_out behind then sum_by g (lines_out u) else 0)
  own_sum g =
      ap (λ (xs : List PointExit). sum_by g (flat_map line_of xs ++ action_lines (framed u i).does ++ (if list_any goes_out xs then lines_out u else []))) own_exits
      ∙ lines_sum (own_checks u i) behind g (action_lines (framed u i).does) (lines_out u)

  -- where there is no row
  pub none_paid : 64 ≤ (framed u i).row → ArePaid u i 0 0 0 0 0
  none_paid h = record {
    few_gates = (let s = own_sum line_price in omega (arith, s, h));
    few_loads = (let s = own_sum bytes_loaded in omega (arith, s));
    few_stores = omega arith;
    few_joins = omega arith;
    few_nodes = (let s = own_sum (λ e. line_size e + 4) in omega (arith, s));
  }

  -- nothing but its lines is paid where the segment arrives
  pub arrival_paid : sum_by line_price (own_lines u i) ≤ point_gates (frame_unrolled_of u) (framed u i)
  arrival_paid = let s = own_sum line_price in omega (arith, s)

  pub arrival_loaded : sum_by bytes_loaded (own_lines u i) ≤ point_loaded (frame_unrolled_of u) (framed u i)
  arrival_loaded = let s = own_sum bytes_loaded in omega (arith, s)

  pub arrival_nodes : 1 + 4 * line_steps (own_lines u i) ≤ point_nodes (frame_unrolled_of u) (framed u i)
  arrival_nodes = let s = own_sum (λ e. line_size e + 4) in omega (arith, s)

  -- what a point with edges pays
  module _ (needs : List Expr) (b : AreBehind u behind needs (own_edges u i)) (n : Names) (sized : AreSized (variables_of (frame_unrolled_of u)) n)
      (one : outs (framed u i).exits ≤ 1) where
    abbrev es : List Edge
    es = own_edges u i

    edge_count : sum_by is_edge (framed u i).exits ≡ length es
    edge_count = ap (sum_by is_edge) own_exits ∙ all_edges (own_checks u i) behind ∙ b.edges

    one_edge : outs (map (edge_of u) es) ≤ 1
    one_edge = let e = ap outs own_exits ∙ all_outs (own_checks u i) behind ∙ b.leaves in omega (arith, e, one)

    point_sum : (g : Expr → ℕ) → sum_by g (lines_at (frame_unrolled_of u) (framed u i))
        ≡ sum_by g (own_lines u i) + (sum_by g needs + sum_by g (flat_map line_of (map (edge_of u) es))) + sum_by g (action_lines (framed u i).does)
        + (if list_any goes_out (map (edge_of u) es) then sum_by g (lines_out u) else 0)
    point_sum g =
        own_sum g
        ∙ ap (λ (z : ℕ). sum_by g (own_lines u i) + z + sum_by g (action_lines (framed u i).does) + (if list_any goes_out behind then sum_by g (lines_out u) else 0))
        (b.lines g)
        ∙ ap (λ (q : Bool). sum_by g (own_lines u i) + (sum_by g needs + sum_by g (flat_map line_of (map (edge_of u) es)))
        + sum_by g (action_lines (framed u i).does) + (if q then sum_by g (lines_out u) else 0)) b.out

    count_nodes : variables_of (frame_unrolled_of u) * sum_by is_edge (framed u i).exits ≡ variables_of (frame_unrolled_of u) * length es
    count_nodes = ap (λ (z : ℕ). variables_of (frame_unrolled_of u) * z) edge_count

    four_each : (4 * variables_of (frame_unrolled_of u)) * length es ≡ 4 * (variables_of (frame_unrolled_of u) * length es)
    four_each = omega arith

    -- gates, loads, stores, joins and nodes beside those of the edges
    pub point_paid : (gates loads stores joins nodes : ℕ) →
        gates + 1 ≤ (framed u i).row + sum_by line_price needs + sum_by line_price (action_lines (framed u i).does)
        + 512 * ((framed u i).stores * own_writes (frame_unrolled_of u)) + 128 * ((framed u i).stores * length (frame_unrolled_of u).kept) →
        loads ≤ (framed u i).loads + sum_by bytes_loaded needs + sum_by bytes_loaded (action_lines (framed u i).does) →
        stores ≤ (framed u i).stores → joins ≤ 2 * (framed u i).stores →
        nodes + 3 + 15 ≤ 4 * action_size (framed u i).does + 64 + 4 * line_steps needs + 4 * line_steps (action_lines (framed u i).does)
        + 16 * ((framed u i).stores * length (frame_unrolled_of u).kept) + 16 * ((framed u i).stores * own_writes (frame_unrolled_of u)) →
        ArePaid u i (gates + sum_by (λ e. 35 + aim_gates u n e.aim) es) (loads + sum_by (λ e. aim_loads u e.aim) es) stores
        (joins + sum_by (λ e. aim_joins e.aim) es) (nodes + sum_by (λ e. 14 + aim_nodes u n e.aim) es)
    point_paid gates loads stores joins nodes fg fl fs fj fn = record {
      few_gates = (
          let g = edge_gates u (variables_of (frame_unrolled_of u)) n sized es one_edge in
          let s = point_sum line_price in let c = edge_count in omega (arith, g, s, c, fg));
      few_loads = (
          let g = edge_loads u (variables_of (frame_unrolled_of u)) n sized es one_edge in
          let s = point_sum bytes_loaded in omega (arith, g, s, fl));
      few_stores = fs;
      few_joins = (
          let g = edge_joins u (variables_of (frame_unrolled_of u)) n sized es one_edge in
          let z = same_cases (list_any goes_out (map (edge_of u) es)) in let c = edge_count in omega (arith, g, z, c, fj));
      few_nodes = (
          let g = edge_nodes u (variables_of (frame_unrolled_of u)) n sized es one_edge in
          let f = four_cases (list_any goes_out (map (edge_of u) es)) (line_steps (lines_out u)) in
          let s = point_sum (λ e. line_size e + 4) in let c = count_nodes in let v = four_each in omega (arith, g, f, s, c, v, fn));
    }

  module _ (row : (own_point u i).deed ≡ deeds.Row) (list : Vec Stmt) (code : (own_code u i).list ≡ Some list) where
    behind_is : behind ≡ Raising ∷ WritingKept ∷ (outside_exit (own_contract u) ++ Unaligned ∷ map (edge_of u) (own_edges u i))
    behind_is =
        ap (λ (d : Deed). exits_of u d (own_code u i) (own_edges u i)) row
        ∙ ap (λ (o : Option (Vec Stmt)). row_exits u (own_code u i).fetchable o (own_edges u i)) code

    does_is : (framed u i).does ≡ Executes (statements list.items)
    does_is =
        ap (λ (d : Deed). action_of u d (own_code u i).list (stack_at u.frames.items (own_point u i).stack)) row
        ∙ ap (λ (o : Option (Vec Stmt)). list_of o) code

    module _ (n : Names) (spans : List Span) (own : ℕ) (sized : AreSized (variables_of (frame_unrolled_of u)) n) (one : outs (framed u i).exits ≤ 1)
        (few : length spans ≤ bytes_of spans) (counted : bytes_of spans ≤ byte_stores (statements list.items))
        (are : own ≡ own_writes (frame_unrolled_of u)) (kept : 1 ≤ is_own (own_contract u) → 1 ≤ (framed u i).stores → 1 ≤ length (frame_unrolled_of u).kept)
        (weight : list_weight (statements list.items) + 64 ≤ (framed u i).row)
        (loads : byte_loads (statements list.items) ≤ (framed u i).loads)
        (stores : byte_stores (statements list.items) ≤ (framed u i).stores) where
      abbrev K : ℕ
      K = length (frame_unrolled_of u).kept

      tests : (98 * (length spans * K) + is_own (own_contract u) * (length spans + 162 * (own * bytes_of spans))
          ≤ 512 * ((framed u i).stores * own) + 128 * ((framed u i).stores * K))
          × (10 * (length spans * K) + is_own (own_contract u) * (2 * length spans + 12 * (own * bytes_of spans))
          ≤ 16 * ((framed u i).stores * own) + 16 * ((framed u i).stores * K))
      tests = tests_kept (length spans) (bytes_of spans) (framed u i).stores K own few (omega (arith, counted, stores)) (own_contract u) kept

      own_is : (framed u i).stores * own ≡ (framed u i).stores * own_writes (frame_unrolled_of u)
      own_is = ap (λ z. (framed u i).stores * z) are

      no_acts : (g : Expr → ℕ) → sum_by g (action_lines (framed u i).does) ≡ 0
      no_acts g = ap (λ (a : Action). sum_by g (action_lines a)) does_is

      size_is : action_size (framed u i).does ≡ list_size (statements list.items)
      size_is = ap action_size does_is

      pub row_paid : ArePaid u i (list_weight (statements list.items)
          + (98 * (length spans * K) + is_own (own_contract u) * (length spans + 162 * (own * bytes_of spans))) + (32 + 2) + (9 + sum_by
          (λ e. 35 + aim_gates u n e.aim) (own_edges u i)))
          (byte_loads (statements list.items) + 0 + (0 + 0) + sum_by (λ e. aim_loads u e.aim) (own_edges u i))
          (byte_stores (statements list.items) + 0 + (0 + 0) + 0)
          (2 * byte_stores (statements list.items) + 0 + (0 + 0) + sum_by (λ e. aim_joins e.aim) (own_edges u i))
          (4 * list_size (statements list.items) + 8
          + (1 + 10 * (length spans * K) + is_own (own_contract u) * (2 * length spans + 12 * (own * bytes_of spans))) + (3 + 5) + (24 + sum_by
          (λ e. 14 + aim_nodes u n e.aim) (own_edges u i)))
      row_paid =
          let L = list_weight (statements list.items) in let B = byte_stores (statements list.items) in let S = list_size (statements list.items) in
          let T = 98 * (length spans * K) + is_own (own_contract u) * (length spans + 162 * (own * bytes_of spans)) in
          let N = 10 * (length spans * K) + is_own (own_contract u) * (2 * length spans + 12 * (own * bytes_of spans)) in
          let t = tests in let tg = t.0 in let tn = t.1 in let o = own_is in
          let a = no_acts (λ e. line_size e + 4) in let z = size_is in
          let p = point_paid [] (subst (λ (xs : List PointExit). AreBehind u xs [] (own_edges u i)) (sym behind_is)
          (row_behind u (own_contract u) (own_edges u i))) n sized one (L + T + (32 + 2) + 9) (byte_loads (statements list.items)) B (2 * B)
          (4 * S + 8 + (1 + N) + (3 + 5) + 24)
          (omega (arith, weight, tg, o)) (omega (arith, loads)) stores (omega (arith, stores)) (omega (arith, tn, o, a, z)) in
          let pg = p.few_gates in let pl = p.few_loads in let ps = p.few_stores in let pj = p.few_joins in let pn = p.few_nodes in
          record {
            few_gates = omega (arith, pg);
            few_loads = omega (arith, pl);
            few_stores = omega (arith, ps);
            few_joins = omega (arith, pj);
            few_nodes = omega (arith, pn);
          }

  module _ (number : ℕ) (deed : (own_point u i).deed ≡ deeds.Contract number) (n : Names) (spans : List Span) (own : ℕ)
      (sized : AreSized (variables_of (frame_unrolled_of u)) n) (one : outs (framed u i).exits ≤ 1)
      (few : length spans ≤ bytes_of spans) (are : own ≡ own_writes (frame_unrolled_of u))
      (count : length spans ≡ length (stepped_at u number).writes) (bytes : bytes_of spans ≤ (framed u i).stores) (row : 64 ≤ (framed u i).row) where
    abbrev k : Contract
    k = stepped_at u number

    abbrev runs_of : ℕ
    runs_of = length (frame_unrolled_of u).kept

    gift_behind : AreBehind u behind (says_of k.needs) (own_edges u i)
    gift_behind = subst (λ (d : Deed). AreBehind u (exits_of u d (own_code u i) (own_edges u i)) (says_of k.needs) (own_edges u i)) (sym deed)
        (contract_behind u (own_contract u) k.needs (own_edges u i))

    gift_acts : (g : Expr → ℕ) → sum_by g (action_lines (framed u i).does) ≡ sum_by g (says_of k.gives) + sum_by g (map (λ w. w.says) k.writes)
    gift_acts g =
        ap (λ (d : Deed). sum_by g (action_lines (action_of u d (own_code u i).list (stack_at u.frames.items (own_point u i).stack)))) deed
        ∙ sum_by-append g (says_of k.gives) (map (λ w. w.says) k.writes)

    writes_gates : (ws : List Writes) → sum_by (λ w. line_price w.says - 64) ws + 64 * length ws ≤ sum_by line_price (map (λ w. w.says) ws)
    writes_gates [] = omega arith
    writes_gates (w ∷ ws) =
        let a = sum_by-cons (λ (v : Writes). line_price v.says - 64) w ws in
        let b = sum_by-cons line_price w.says (map (λ (v : Writes). v.says) ws) in
        let p = price_room w.says in let r = writes_gates ws in omega (arith, a, b, p, r)

    writes_loads : (ws : List Writes) → sum_by (λ w. bytes_loaded w.says) ws ≡ sum_by bytes_loaded (map (λ w. w.says) ws)
    writes_loads [] = refl
    writes_loads (w ∷ ws) =
        let a = sum_by-cons (λ (v : Writes). bytes_loaded v.says) w ws in
        let b = sum_by-cons bytes_loaded w.says (map (λ (v : Writes). v.says) ws) in let r = writes_loads ws in omega (arith, a, b, r)

    writes_nodes : (ws : List Writes) → sum_by (λ w. 4 * line_size w.says + 8) ws + 8 * length ws ≡ 4 * line_steps (map (λ w. w.says) ws)
    writes_nodes [] = refl
    writes_nodes (w ∷ ws) =
        let a = sum_by-cons (λ (v : Writes). 4 * line_size v.says + 8) w ws in
        let b = sum_by-cons (λ (e : Expr). line_size e + 4) w.says (map (λ (v : Writes). v.says) ws) in let r = writes_nodes ws in omega (arith, a, b, r)

    abbrev tests_gates : ℕ
    tests_gates = 98 * (length spans * runs_of) + is_own (own_contract u) * (length spans + 162 * (own * bytes_of spans))

    abbrev tests_nodes : ℕ
    tests_nodes = 10 * (length spans * runs_of) + is_own (own_contract u) * (2 * length spans + 12 * (own * bytes_of spans))

    pub gift_paid : ArePaid u i
        (sum_by line_price (says_of k.needs) + sum_by (λ w. line_price w.says - 64) k.writes + tests_gates + 3 + sum_by line_price (says_of k.gives)
        + sum_by (λ e. 35 + aim_gates u n e.aim) (own_edges u i))
        (sum_by bytes_loaded (says_of k.needs) + sum_by (λ w. bytes_loaded w.says) k.writes + sum_by bytes_loaded (says_of k.gives)
        + sum_by (λ e. aim_loads u e.aim) (own_edges u i))
        (bytes_of spans) (0 + sum_by (λ e. aim_joins e.aim) (own_edges u i))
        (4 * line_steps (says_of k.needs) + 1 + sum_by (λ w. 4 * line_size w.says + 8) k.writes + (1 + tests_nodes) + 8 + (35 + 2 * length spans) + 1
        + 4 * line_steps (says_of k.gives) + sum_by (λ e. 14 + aim_nodes u n e.aim) (own_edges u i))
    gift_paid =
        let t = tests_lined (length spans) (bytes_of spans) (framed u i).stores runs_of own few bytes (own_contract u) in
        let tg = t.0 in let tn = t.1 in
        let o = ap (λ z. (framed u i).stores * z) are in
        let ag = gift_acts line_price in let al = gift_acts bytes_loaded in let an = gift_acts (λ e. line_size e + 4) in
        let wg = writes_gates k.writes in let wl = writes_loads k.writes in let wn = writes_nodes k.writes in
        point_paid (says_of k.needs) gift_behind n sized one
        (sum_by line_price (says_of k.needs) + sum_by (λ w. line_price w.says - 64) k.writes + tests_gates + 3 + sum_by line_price (says_of k.gives))
        (sum_by bytes_loaded (says_of k.needs) + sum_by (λ w. bytes_loaded w.says) k.writes + sum_by bytes_loaded (says_of k.gives)) (bytes_of spans) 0
        (4 * line_steps (says_of k.needs) + 1 + sum_by (λ w. 4 * line_size w.says + 8) k.writes + (1 + tests_nodes) + 8 + (35 + 2 * length spans) + 1
        + 4 * line_steps (says_of k.gives))
        (omega (arith, tg, o, ag, wg, count, row)) (omega (arith, al, wl)) bytes (omega arith) (omega (arith, tn, o, an, wn, count))
