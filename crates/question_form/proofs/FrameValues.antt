-- The unrolled frame that the value of a program stands for.
use Rattle.std.proofs.Common.{◌≡◌, refl, ap, sym, ◌∙◌, subst, arith, ℕ, zero, suc, ◌+◌, ◌-◌, ◌<◌, ◌≤◌, Bool, true, false, List, [], ◌∷◌, ◌++◌, length, drop, take, Option, Some, None}
use Rattle.std.specs.Prelude.{Contains, map, filter, nat_eq, option_map, slice_index_or, slice_range}
use Rattle.std.specs.List.{list_any}
use Rattle.std.specs.Global.{Vec}
use Rattle.bilv_spec.specs.Notes.{Assert}
use Rattle.walk_spec.specs.Unrolled as tables
use Rattle.frame_spec.specs.FramePoints.{Anchor, AtEntry}
use Rattle.frame_spec.specs.FrameWalk.{Check, PointExit, FalseCheck, Raising, WritingKept, Unaligned, UnrolledPoint, Root}
use Rattle.frame_laws.specs.HeadlessLaws.{as_exit, as_action, as_place, entry_root, as_unrolled}
use Rattle.bil_ast.specs.declared.statements.Stmt.{Stmt}
use Rattle.notes_value.specs.NoteViews.{notes_of}
use Rattle.notes_value.specs.FrameViews.{contract_of}
use Rattle.frame_spec.specs.FrameUnrolling.{own_of, outside_exit}
use Rattle.program_points.specs.Listed.{anchor_of}
use Rattle.program_points.specs.Tables.{stacks_of}
use Rattle.question_form.specs.declared.unrolled.Aim as declared
use Rattle.question_form.specs.declared.unrolled.Aim.TheVariants.{OnTo, IntoHead, Outward, OverLast}
use Rattle.question_form.specs.declared.unrolled.Deed.{Deed}
use Rattle.question_form.specs.declared.unrolled.Deed.TheVariants as deeds
use Rattle.question_form.specs.declared.unrolled.Edge.{Edge}
use Rattle.question_form.specs.declared.unrolled.Code.{Code}
use Rattle.question_form.specs.declared.unrolled.Point.{Point}
use Rattle.question_form.specs.declared.unrolled.Root as roots
use Rattle.question_form.specs.declared.unrolled.Unrolled.{Unrolled}
use Rattle.question_form.specs.Views as views
use Rattle.question_form.specs.Views.{code_of, edges_from, unrolled_of}
use Rattle.question_form.specs.FrameViews.{check_at, checks_between, is_judged, is_invariant, aim_of, edge_of, no_root, anchor_at, row_exits, action_of, is_contract, judged_at, exits_of, own_contract, point_by, point_of, points_of, root_of, frame_unrolled_of, is_headless, IsHeadless, HeadlessValues}

within_take : {A : Type 0} (n : ℕ) (xs : List A) (x : A) → Contains (take n xs) x → Contains xs x
within_take zero xs x (i, l, e) = absurd (omega (arith, l))
within_take (suc n) [] x (i, l, e) = absurd (omega (arith, l))
within_take (suc n) (y ∷ xs) x (zero, l, e) = (zero, omega arith, e)
within_take (suc n) (y ∷ xs) x (suc i, l, e) = let t = within_take n xs x (i, omega (arith, l), e) in (suc t.0, omega (arith, t.1), t.2)

within_drop : {A : Type 0} (n : ℕ) (xs : List A) (x : A) → Contains (drop n xs) x → Contains xs x
within_drop zero xs x h = h
within_drop (suc n) [] x h = h
within_drop (suc n) (y ∷ xs) x h = let t = within_drop n xs x h in (suc t.0, omega (arith, t.1), t.2)

module _ (u : Unrolled) (h : IsHeadless u) where
  one_root : (n : ℕ) → slice_index_or (no_root ∷ []) n no_root ≡ no_root
  one_root zero = refl
  one_root (suc n) = refl

  entry_anchor : (n : ℕ) → anchor_at u n ≡ AtEntry
  entry_anchor n = ap (λ (x : roots.Root). anchor_of (stacks_of u.frames.items) x.head) (ap (λ l. slice_index_or l n no_root) h.roots ∙ one_root n)

  no_invariant : (line : ℕ) → is_invariant u line ≡ false
  no_invariant line = ap (λ l. list_any (nat_eq line) l) h.invariants

  exits_with : (xs : List (ℕ × ℕ)) (r : List tables.PointExit) (s : List PointExit) → map as_exit r ≡ s →
      map as_exit (map (views.assert_exit (notes_of u.notes.now).asserts) xs ++ r) ≡ map FalseCheck (filter (is_judged AtEntry) (map (check_at u) xs)) ++ s
  exits_with [] r s e = e
  exits_with (x ∷ xs) r s e =
      let a : Assert = slice_index_or (notes_of u.notes.now).asserts x.1 views.no_assert in
      let c : Bool → Check = λ b. record { line = a.line; invariant = b; says = a.says } in
      ap (λ l. FalseCheck (c false) ∷ l) (exits_with xs r s e)
      ∙ ap (λ b. FalseCheck (c b) ∷ (map FalseCheck (filter (is_judged AtEntry) (map (check_at u) xs)) ++ s)) (sym (no_invariant a.line))

  edge_with : (falls jumps : Bool) (to : Option ℕ) (a : declared.Aim) → is_headless a →
      as_exit (views.edge_of (record { falls = falls; jumps = jumps; to = to; aim = a })) ≡ edge_of u (record {
        falls = falls;
        jumps = jumps;
        to = to;
        aim = a;
      })
  edge_with falls jumps to (OnTo i) k = refl
  edge_with falls jumps to (IntoHead at asserts) k = absurd k
  edge_with falls jumps to Outward k = refl
  edge_with falls jumps to OverLast k = refl

  edges_with : (es : List Edge) → ((e : Edge) → Contains es e → is_headless e.aim) → map as_exit (map views.edge_of es) ≡ map (edge_of u) es
  edges_with [] k = refl
  edges_with (e ∷ es) k =
      ap (λ l. as_exit (views.edge_of e) ∷ l) (edges_with es (λ x t. k x (suc t.0, omega (arith, t.1), t.2)))
      ∙ ap (λ y. y ∷ map (edge_of u) es) (edge_with e.falls e.jumps e.to e.aim (k e (zero, omega arith, refl)))

  not_outside : outside_exit (own_contract u) ≡ []
  not_outside = ap (λ o. outside_exit (option_map (λ x. contract_of x.now) o)) h.own

  row_with : (fetchable : Bool) (list : Option (Vec Stmt)) (es : List Edge) → ((e : Edge) → Contains es e → is_headless e.aim) →
      map as_exit (views.row_exits fetchable list es) ≡ row_exits u fetchable list es
  row_with fetchable None es k = refl
  row_with fetchable (Some list) es k =
      ap (λ l. Raising ∷ WritingKept ∷ Unaligned ∷ l) (edges_with es k)
      ∙ ap (λ o. Raising ∷ WritingKept ∷ (o ++ Unaligned ∷ map (edge_of u) es)) (sym not_outside)

  action_with : (list : Option (Vec Stmt)) (stack : List ℕ) → as_action (views.action_of list) ≡ action_of u deeds.Row list stack
  action_with None stack = refl
  action_with (Some list) stack = refl

  -- a point whose anchor and deed are given
  abbrev by : Point → Code → List Edge → Anchor → Deed → UnrolledPoint
  by q c es anchor deed = record {
    point = record { anchor = anchor; turns = q.turns; contract = is_contract deed; stack = (views.point_by u q c es).point.stack; at = c.at };
    length = c.length;
    does = action_of u deed c.list (views.point_by u q c es).point.stack;
    draws = c.draws;
    row = c.row;
    loads = c.loads;
    stores = c.stores;
    exits = judged_at u deed anchor c ++ exits_of u deed c es;
  }

  point_with : (q : Point) (c : Code) (es : List Edge) → q.deed ≡ deeds.Row → ((e : Edge) → Contains es e → is_headless e.aim) →
      as_place (views.point_by u q c es) ≡ point_by u q c es
  point_with q c es deed k =
      ap (λ a. record (by q c es AtEntry deeds.Row) { does = a; exits = map as_exit (views.point_by u q c es).exits }) (action_with c.list (views.point_by u q c es).point.stack)
      ∙ ap (λ x. record (by q c es AtEntry deeds.Row) { exits = x })
      (exits_with (slice_range u.asserts.items c.asserts.0 c.asserts.1) (views.row_exits c.fetchable c.list es) (row_exits u c.fetchable c.list es)
      (row_with c.fetchable c.list es k))
      ∙ ap (λ d. by q c es AtEntry d) (sym deed) ∙ ap (λ a. by q c es a q.deed) (sym (entry_anchor q.root))

  points_with : (ps : List Point) → ((q : Point) → Contains ps q → q.deed ≡ deeds.Row) → map as_place (views.points_of u ps) ≡ points_of u ps
  points_with [] k = refl
  points_with (q ∷ ps) k =
      let es = slice_range u.edges.items q.edges (edges_from u ps) in
      ap (λ l. as_place (views.point_of u q ps) ∷ l) (points_with ps (λ x t. k x (suc t.0, omega (arith, t.1), t.2)))
      ∙ ap (λ y. y ∷ points_of u ps) (point_with q (code_of u q) es (k q (zero, omega arith, refl))
      (λ e t. h.edges e (within_drop q.edges u.edges.items e (within_take (edges_from u ps - q.edges) (drop q.edges u.edges.items) e t))))

  roots_with : entry_root ∷ [] ≡ map (root_of u) u.roots.items
  roots_with = ap (map (root_of u)) (sym h.roots)

pub headless_values : HeadlessValues
headless_values u h = sym (
    ap (λ l. record (as_unrolled (unrolled_of u)) { roots = l }) (roots_with u h)
    ∙ ap (λ o. record (as_unrolled (unrolled_of u)) { roots = map (root_of u) u.roots.items; own = own_of (option_map (λ x. contract_of x.now) o) }) (sym h.own)
    ∙ ap (λ l. record (frame_unrolled_of u) { points = l }) (points_with u h u.points.items h.deeds))
