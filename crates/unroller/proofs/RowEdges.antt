-- The edges of the point of a number at its node are those that a frame has at its place.
use Rattle.std.proofs.Common.{◌≡◌, inl, inr, refl, ap, sym, ◌∙◌, subst, arith, ℕ, zero, suc, ◌<◌, ◌≤◌, Bool, true, false, Option, Some, List, [], ◌∷◌, ◌++◌, length, get_or, map}
use Rattle.std.specs.Prelude.{Contains, ◌↔◌, ◌==◌, ◌&&◌, ◌||◌, filter, if◌then◌else◌}
use Rattle.std.specs.List.{list_any}
use Rattle.std.specs.BTreeMap.{BTreeMap}
use Rattle.word_spec.specs.Words.{add}
use Rattle.machine_spec.specs.Machine.{Row, Successors}
use Rattle.bilv_spec.specs.Graph.{may_return}
use Rattle.bilv_spec.specs.Run.{Program}
use Rattle.bilv_spec.specs.Points.{Point, EdgeEnd, ToAddress, ToExit, edges, edges_by, leads_on, same_end, fall_ends, jump_ends, file_row}
use Rattle.bilv_spec.proofs.Pigeons.{Once}
use Rattle.bilv_spec.proofs.PointSteps.{there, same_end_self, same_end_is}
use Rattle.bilv_spec.proofs.PointsInGraph.{split_in, of_filter, of_distinct}
use Rattle.graph_nodes.specs.declared.nodes.Node.{Node}
use Rattle.graph_nodes.specs.Graphs.{IsNode}
use Rattle.frame_spec.specs.Frames.{Frame}
use Rattle.frame_spec.specs.FramePoints as spec
use Rattle.frame_spec.specs.FramePoints.{frame_edges, is_contract_end, is_cut, top_ends, triple}
use Rattle.frame_spec.specs.FrameUnrolling.{AreAlong, checks_at, falls_to, jumps_to}
use Rattle.frame_spec.specs.FrameWalk.{point_at}
use Rattle.program_points.specs.declared.values.Frame as stack
use Rattle.program_points.specs.declared.values.End.{End}
use Rattle.program_points.specs.Listed.{AreCuts, HasOneWay}
use Rattle.program_points.specs.Tables.{end, frame_at, is_stepped, linked, stack_at, jumps_of, listed, IsTable}
use Rattle.program_points.proofs.Stacked.{one_number, stack_none}
use Rattle.program_points.proofs.Stepped.{step_is}
use Rattle.question_form.specs.declared.unrolled.Edge.{Edge}
use Rattle.question_form.specs.declared.unrolled.Unrolled.{Unrolled}
use Rattle.question_form.specs.FrameViews.{checks_between, edge_of, frame_unrolled_of}
use Rattle.unroller.specs.Keys.{address_of, contract_of, stack_of, turns_of, point_of, AreKeys, AreSegments}
use Rattle.unroller.specs.Led.{next_of, AreRowLed, IsCalledBy, IsNoneCalled}
use Rattle.unroller.specs.Places.{IsGroup}
use Rattle.unroller.proofs.CutHeads.{right_true}
use Rattle.unroller.proofs.EdgeLists.{edges_once, exits_are_returns}
use Rattle.unroller.proofs.Ends.{of_next, all_in, all_edge, all_low, edge_all, by_jump, by_fall}
use Rattle.unroller.proofs.Leads.{and_parts, and_true, edges_at}
use Rattle.unroller.proofs.SameKeys.{test_zero, zero_test}

any_by : (t u : EdgeEnd) (ts : List EdgeEnd) (b : Bool) → same_end t u ≡ b → (list_any (same_end t) ts ≡ true → Contains ts t) →
    (b || list_any (same_end t) ts) ≡ true → Contains (u ∷ ts) t
any_by t u ts true e g h = (0, omega arith, sym (same_end_is t u e))
any_by t u ts false e g h = there u ts t (g h)

any_in : (t : EdgeEnd) (ts : List EdgeEnd) → list_any (same_end t) ts ≡ true → Contains ts t
any_in t [] h = absurd (cc)
any_in t (u ∷ ts) h = any_by t u ts (same_end t u) refl (any_in t ts) h

in_any : (t : EdgeEnd) (ts : List EdgeEnd) → Contains ts t → list_any (same_end t) ts ≡ true
in_any t [] (i, w, e) = absurd (omega arith)
in_any t (u ∷ ts) (zero, w, e) = ap (λ (z : EdgeEnd). same_end t z || list_any (same_end t) ts) e ∙ ap (λ (b : Bool). b ||
    list_any (same_end t) ts) (same_end_self t)
in_any t (u ∷ ts) (suc i, w, e) = right_true (same_end t u) (list_any (same_end t) ts) (in_any t ts (i, omega arith, e))

no_exit_fall : (b : Bool) (s : List ℕ) (a : ℕ) → list_any (same_end ToExit) (if b then ToAddress s a ∷ [] else []) ≡ false
no_exit_fall true s a = refl
no_exit_fall false s a = refl

not_fall : (b : Bool) (s : List ℕ) (a : ℕ) → Contains (if b then ToAddress s a ∷ [] else []) ToExit → ⊥
not_fall true s a (zero, w, e) = absurd (cc)
not_fall true s a (suc i, w, e) = absurd (omega arith)
not_fall false s a (i, w, e) = absurd (omega arith)

module _ (f : Frame) (k : ℕ) (n : Node) (frames : List stack.Frame) (numbers : BTreeMap (ℕ × ℕ) ℕ) (heads stepped : List ℕ) (segments : List ℕ)
    (own called : ℕ) (row : Row) (is : IsNode f.program n) (way : HasOneWay f.program) (cuts : AreCuts f heads stepped) (table : IsTable frames numbers)
    (fits : stack_of own ≤ length frames) (calls : IsCalledBy n (stack_of own) frames called) (none : IsNoneCalled n called)
    (some : file_row f.program n.at ≡ Some row) (here : n.at ≡ address_of own) (no_step : contract_of own ≡ false)
    (uncut : is_cut f (point_of frames segments own) ≡ false) where
  abbrev p : Program
  p = f.program

  abbrev stack_number : ℕ
  stack_number = stack_of own

  abbrev jumps : List End
  jumps = jumps_of p.machine.narrow n (frame_at frames stack_number) stack_number called

  abbrev next_end : Option End
  next_end = next_of n stack_number

  abbrev all : List End
  all = jumps ++ listed next_end

  abbrev exits : Bool
  exits = n.returns && (stack_number == 0)

  abbrev q : spec.Point
  q = point_of frames segments own

  abbrev point : ℕ → Point
  point at = record { turns = turns_of own; stack = stack_at frames stack_number; at = at }

  abbrev here_point : Point
  here_point = point (address_of own)

  abbrev s : Successors
  s = row.successors (address_of own)

  edges_same : frame_edges f q ≡ edges p here_point
  edges_same =
      ap (λ (b : Bool). if b then filter (leads_on p.machine.narrow) (top_ends q.stack) else if is_cut f q then [] else edges p here_point) no_step
      ∙ ap (λ (b : Bool). if b then [] else edges p here_point) uncut

  abbrev end_at : End → EdgeEnd
  end_at e = ToAddress (stack_at frames e.stack) e.at

  in_edges : (e : End) → Contains all e → Contains (frame_edges f q) (end_at e)
  in_edges e h =
      subst (λ (l : List EdgeEnd). Contains l (end_at e)) (sym edges_same)
      (subst (λ (z : ℕ). Contains (edges p (point z)) (end_at e)) here
      (all_edge p n frames numbers (turns_of own) stack_number called row is way table fits calls some e h))

  each_edge : (s : List ℕ) (a : ℕ) → Contains (frame_edges f q) (ToAddress s a) → (e : End) × Contains all e × (stack_at frames e.stack ≡ s) × (e.at ≡ a)
  each_edge s a h =
      edge_all p n frames numbers (turns_of own) stack_number called row is way table fits calls some s a
      (subst (λ (z : ℕ). Contains (edges p (point z)) (ToAddress s a)) (sym here) (subst (λ (l : List EdgeEnd). Contains l (ToAddress s a)) edges_same h))

  small_end : (e : End) → e ≡ end stack_number (add 32 n.at n.length) → e.at < 4294967296
  small_end e q = subst (λ (z : End). z.at < 4294967296) (sym q) (omega arith)

  next_small : (e : End) → Contains (listed next_end) e → e.at < 4294967296
  next_small e h = small_end e (of_next p n frames numbers (turns_of own) stack_number called row is way table fits calls some e h).0

  stepped_is : (e : End) → Contains all e → is_contract_end f q (stack_at frames e.stack) e.at ≡ is_stepped stepped (linked n.links called) e
  stepped_is e h =
      step_is frames table.below p.machine.narrow n stack_number called fits calls none f heads stepped cuts is q (sym here) refl e
      (all_in p n frames numbers (turns_of own) stack_number called row is way table fits calls some e h)

  falls : (e : End) → Contains all e → (falls_to (Some row) q (end_at e) ≡ true) ↔ Contains (listed next_end) e
  falls e h =
      let by = subst (λ (z : ℕ). Contains (fall_ends (point z) row (row.successors z)) (end_at e) ↔ Contains (listed next_end) e) here
      (by_fall p n frames numbers (turns_of own) stack_number called row is way table fits calls some e h) in
      ((λ t. by.0 (any_in (end_at e) (fall_ends here_point row s) t)), (λ c. in_any (end_at e) (fall_ends here_point row s) (by.1 c)))

  jumped : (e : End) → Contains all e → (jumps_to f (Some row) q (end_at e) ≡ true) ↔ Contains jumps e
  jumped e h =
      let by = subst (λ (z : ℕ). Contains (jump_ends p (point z) row (row.successors z)) (end_at e) ↔ Contains jumps e) here
      (by_jump p n frames numbers (turns_of own) stack_number called row is way table fits calls some e h) in
      ((λ t. by.0 (any_in (end_at e) (jump_ends p here_point row s) t)), (λ c. in_any (end_at e) (jump_ends p here_point row s) (by.1 c)))

  returns_here : n.returns ≡ may_return p (address_of own)
  returns_here = is.returns ∙ ap (may_return p) here

  exit_edge_in : exits ≡ true → Contains (edges p here_point) ToExit
  exit_edge_in h =
      let q = and_parts n.returns (stack_number == 0) h in
      let zero_stack : stack_number ≡ 0 = test_zero stack_number q.1 in
      (exits_are_returns p (turns_of own) (address_of own) (stack_at frames stack_number)).1 (
        sym returns_here ∙ q.0,
        ap (stack_at frames) zero_stack
            ∙ stack_none frames,
      )

  exit_in : Contains (frame_edges f q) ToExit ↔ (exits ≡ true)
  exit_in = (
    (λ h.
        let q = (exits_are_returns p (turns_of own) (address_of own) (stack_at frames stack_number)).0
        (subst (λ (l : List EdgeEnd). Contains l ToExit) edges_same h) in
        let z = one_number frames numbers table stack_number stack_number 0 (omega arith) fits (omega arith) (q.1 ∙ sym (stack_none frames)) in
        and_true n.returns (stack_number == 0) (returns_here ∙ q.0) (zero_test stack_number z)),
    (λ h. subst (λ (l : List EdgeEnd). Contains l ToExit) (sym edges_same) (exit_edge_in h)),
  )

  exit_jump : exits ≡ true → jumps_to f (Some row) q ToExit ≡ true
  exit_jump e =
      let own_row : file_row p (address_of own) ≡ Some row = ap (file_row p) (sym here) ∙ some in
      let made = (of_filter (leads_on p.machine.narrow) (edges_by p here_point (file_row p (address_of own))) ToExit (of_distinct
      (filter_of (file_row p (address_of own))) ToExit (exit_edge_in e))).0 in
      let inside : Contains (jump_ends p here_point row s ++ fall_ends here_point row s) ToExit = subst
      (λ (o : Option Row). Contains (edges_by p here_point o) ToExit) own_row made in
      in_any ToExit (jump_ends p here_point row s)
      (elim (split_in (jump_ends p here_point row s) (fall_ends here_point row s) ToExit inside) as (λ _. Contains (jump_ends p here_point row s) ToExit) [
        | inl j ↦ j
        | inr g ↦ absurd (not_fall s.next (stack_at frames stack_number) (add 32 (address_of own) row.length) g)
      ])
    where
      filter_of : Option Row → List EdgeEnd
      filter_of o = filter (leads_on p.machine.narrow) (edges_by p here_point o)

  module _ (asserts : List (ℕ × ℕ)) (keys : List ℕ) (i : ℕ) (few : length frames < 2147483648) (k_low : k ≤ 4096) (segs : AreSegments f k frames segments)
      (are : AreKeys f k frames segments keys) (within : i < length keys) (place : get_or keys i 0 ≡ own) (u : Unrolled)
      (size : length (frame_unrolled_of u).points ≡ length keys)
      (points : (j : ℕ) → j < length keys → (point_at (frame_unrolled_of u) j).point ≡ point_of frames segments (get_or keys j 0))
      (lines : (a : ℕ) (bounds : ℕ × ℕ) → IsGroup asserts a bounds → checks_between u bounds ≡ checks_at f a) (led : List Edge)
      (leads : AreRowLed heads stepped asserts f.program.machine.narrow n frames keys own called led) where
    pub row_edges_at : AreAlong f k (frame_unrolled_of u) i q (Some row) (map (edge_of u) led)
    row_edges_at =
        edges_at f k frames numbers heads stepped asserts segments keys own i (Some row) (linked n.links called) jumps next_end exits cuts.heads table few k_low
        segs are within place u size points lines led leads (record {
          in_edges = in_edges;
          edge_all = each_edge;
          low = λ e h. all_low p n frames numbers (turns_of own) stack_number called row is way table fits calls some e h;
          next_small = next_small;
          step = stepped_is;
          falls = falls;
          jumped = jumped;
          exit = exit_in;
          exit_falls = λ h. no_exit_fall s.next (stack_at frames stack_number) (add 32 (address_of own) row.length);
          exit_jumps = exit_jump;
          once = subst (λ (l : List EdgeEnd). Once l) (sym edges_same) (edges_once p here_point);
        })
