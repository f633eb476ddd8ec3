-- The listing of the points of a frame: one more point expanded, and what it comes to.
use Rattle.std.proofs.Common.{◌≡◌, ◌≢◌, inl, inr, ℕ, zero, suc, ◌+◌, ◌<◌, ◌≤◌, refl, ap, sym, ◌∙◌, subst, arith, List, [], ◌∷◌, ◌++◌, length, map, Option, Some, None, Bool, true, false, if◌then◌else◌}
use Rattle.std.specs.Prelude.{slice_get, Contains, All, nat_lt, filter, ◌&&◌, is_none, is_some, ◌↔◌}
use Rattle.std.specs.List.{list_any}
use Rattle.std.specs.BTreeMap.{BTreeMap}
use Rattle.std.specs.BTreeSet.{BTreeSet}
use Rattle.std.proofs.lemmas.Bool.Decides.{nat_tests}
use Rattle.std.proofs.lemmas.List.{length-map}
use Rattle.std.proofs.lemmas.List.Elements.{Contains-append_left}
use Rattle.std.proofs.lemmas.Option.{slice_get_within}
use Rattle.bilv_spec.specs.Run.{Program}
use Rattle.bilv_spec.specs.Points.{EdgeEnd, ToAddress, edges, file_row, leads_on}
use Rattle.bilv_spec.proofs.PointSteps.{in_map}
use Rattle.bilv_spec.proofs.PointsInGraph.{none_in, of_map}
use Rattle.frame_spec.specs.Frames as frames
use Rattle.frame_spec.specs.Frames.{is_head, contract_at}
use Rattle.frame_spec.specs.FramePoints as points
use Rattle.frame_spec.specs.FramePoints.{AtEntry, AtHead, IsPoint, first, entry_head, next, ArePoints, HasMore, first_of, frame_edges, end_of, is_entry, is_contract_end, top_ends, triple}
use Rattle.frame_spec.specs.FrameRuns.{links_by}
use Rattle.frame_laws.proofs.FrameGraph.{of_point}
use Rattle.graph_nodes.specs.declared.nodes.Node.{Node}
use Rattle.graph_nodes.specs.declared.nodes.Graph.{Graph}
use Rattle.graph_nodes.specs.Graphs.{IsNode, IsGraph}
use Rattle.program_points.specs.declared.values.Frame.{Frame}
use Rattle.program_points.specs.declared.values.FramePoint.{FramePoint}
use Rattle.program_points.specs.declared.values.FramePoints.{FramePoints}
use Rattle.program_points.specs.declared.values.Root.{Root}
use Rattle.program_points.specs.declared.values.End.{End}
use Rattle.program_points.specs.Listed.{HasOneWay, AreStacks, AreCuts, AreFramePointsOf, anchor_of, frame_point_of}
use Rattle.program_points.specs.Tables.{stacks_of, stack_at, frame_at, end, ends_of, listed, return_end, entry_point, head_point, point_to, target, linked, is_cut, is_among, is_stepped, is_root_within, is_call, Key, IsTable, IsListed, IsWithin, IsCalled, AreAdded}
use Rattle.program_points.specs.Walks.{AreFirst, Walk, IsStep, nowhere, stops, returns, somewhere}
use Rattle.program_points.proofs.Lists.{truth, at_in, in_at, get_left, longer, nothing_more}
use Rattle.program_points.proofs.Keys.{same_point}
use Rattle.program_points.proofs.Added.{added_none}
use Rattle.program_points.proofs.Stacked.{stack_keeps, stack_none, one_number, are_stacks}
use Rattle.program_points.proofs.Pinned.{are}
use Rattle.program_points.proofs.Stepped.{step_is}
use Rattle.program_points.proofs.Returned.{return_edge, edge_return, return_shallow}

abbrev of : List Frame → FramePoint → points.Point
of frames q = frame_point_of (stacks_of frames) q

each_of : {X : Type 0} (P : X → Type 0) (xs : List X) (x : X) → All P xs → Contains xs x → P x
each_of P xs x all (i, w, e) = subst P e (all i x w)

-- more frames leave a point as it is
root_keeps : (old rest : List Frame) (r : Option Root) → is_root_within (length old) r → anchor_of (stacks_of (old ++ rest)) r ≡ anchor_of (stacks_of old) r
root_keeps old rest None le = refl
root_keeps old rest (Some r) le = ap (λ s. AtHead s r.at) (stack_keeps old rest r.stack le)

of_keeps : (k : ℕ) (old rest new : List Frame) (q : FramePoint) → new ≡ old ++ rest → IsWithin k (length old) q → of new q ≡ of old q
of_keeps k old rest new q e is =
    ap (λ l. of l q) e
    ∙ ap (λ s. record { anchor = anchor_of (stacks_of (old ++ rest)) q.root; turns = q.turns; contract = q.contract; stack = s; at = q.at })
    (stack_keeps old rest q.stack is.stack)
    ∙ ap (λ z. record { anchor = z; turns = q.turns; contract = q.contract; stack = stack_at old q.stack; at = q.at }) (root_keeps old rest q.root is.root)

-- a root is the entry's where it is none
entry_is : (stacks : List (List ℕ)) (r : Option Root) → is_entry (anchor_of stacks r) ≡ is_none r
entry_is stacks None = refl
entry_is stacks (Some r) = refl

no_step : (among links : Bool) → (among && false && links) ≡ false
no_step true true = refl
no_step true false = refl
no_step false true = refl
no_step false false = refl

module _ (f : frames.Frame) (g : Graph) (heads stepped : List ℕ) (k max : ℕ) (is : IsGraph f.program g) (way : HasOneWay f.program)
    (cuts : AreCuts f heads stepped) where
  abbrev p : Program
  p = f.program

  -- the point at an end is the point at its edge
  module _ (frames : List Frame) (link : Option ℕ) (q : FramePoint) (e : End)
      (same : is_contract_end f (of frames q) (stack_at frames e.stack) e.at ≡ is_stepped stepped link e) where
    abbrev its : List ℕ
    its = stack_at frames e.stack

    abbrev code : Bool → FramePoint
    code b = if b then head_point e else point_to (is_stepped stepped link e) q e

    abbrev defined : Bool → points.Point
    defined b = if b then first_of p.entry (AtHead its e.at) else points.point_to (is_contract_end f (of frames q) its e.at) (of frames q) its e.at

    by_head : (b : Bool) → is_among heads e.at ≡ b → of frames (target heads stepped link q e) ≡ end_of f (of frames q) its e.at
    by_head true h = ap (λ b. of frames (code b)) h ∙ sym (ap defined (cuts.heads e.at ∙ h))
    by_head false h =
        ap (λ b. of frames (code b)) h ∙ ap (λ c. points.point_to c (of frames q) its e.at) (sym same) ∙ sym (ap defined (cuts.heads e.at ∙ h))

    target_of : of frames (target heads stepped link q e) ≡ end_of f (of frames q) its e.at
    target_of = by_head (is_among heads e.at) refl

  pub walk_first : (entry : ℕ) (frames : List Frame) (found : List FramePoint) → p.entry ≡ entry → AreFirst heads entry found → Walk f k max frames found 0
  walk_first entry frames found e are = record {
    reached = λ q h. elim (are.only q h) [
      | inl s ↦ subst (λ (z : FramePoint). IsPoint f k (of frames z)) (sym s) at_entry
      | inr (m, s) ↦ subst (λ (z : FramePoint). IsPoint f k (of frames z)) (sym s) (at_head m)
    ];
    first_in = subst (λ z. Contains found (entry_point z)) (sym e) are.entry_in;
    head_in = λ h. subst (λ z. Contains found (head_point (end 0 z))) (sym e) (are.head_in (sym (cuts.heads entry) ∙ ap (is_head f) (sym e) ∙ h));
    closed = λ i q s a le lt c h w. absurd (omega arith);
  }
    where
      at_entry : IsPoint f k (of frames (entry_point entry))
      at_entry =
          subst (λ z. IsPoint f k (of frames (entry_point z))) e
          (subst (λ (s : List ℕ). IsPoint f k (record { anchor = AtEntry; turns = 0; contract = false; stack = s; at = p.entry })) (sym (stack_none frames)) first)

      at_head : is_among heads entry ≡ true → IsPoint f k (of frames (head_point (end 0 entry)))
      at_head m =
          subst (λ z. IsPoint f k (of frames (head_point (end 0 z)))) e
          (subst (λ (s : List ℕ). IsPoint f k (record { anchor = AtHead s p.entry; turns = 0; contract = false; stack = s; at = p.entry }))
          (sym (stack_none frames)) (entry_head (ap (is_head f) e ∙ cuts.heads entry ∙ m)))

  -- the edges of a point, by its kind
  module _ (frames : List Frame) (q : FramePoint) where
    abbrev row_edges : List EdgeEnd
    row_edges = edges p (triple (of frames q))

    abbrev back_edges : List EdgeEnd
    back_edges = filter (leads_on p.machine.narrow) (top_ends (stack_at frames q.stack))

    abbrev kind : (contract cut : Bool) → List EdgeEnd
    kind contract cut = if contract then back_edges else if cut then [] else row_edges

    cut_is : points.is_cut f (of frames q) ≡ is_cut heads q
    cut_is = ap (λ b. b && is_head f q.at) (entry_is (stacks_of frames) q.root) ∙ ap (λ b. is_none q.root && b) (cuts.heads q.at)

    kind_is : (contract cut : Bool) → q.contract ≡ contract → is_cut heads q ≡ cut → frame_edges f (of frames q) ≡ kind contract cut
    kind_is contract cut c h = ap (λ b. kind b (points.is_cut f (of frames q))) c ∙ ap (kind contract) (cut_is ∙ h)

    back_is : q.contract ≡ true → frame_edges f (of frames q) ≡ back_edges
    back_is c = kind_is true (is_cut heads q) c refl

  -- a point that is expanded, by its ends
  module _ (old_frames frames rest : List Frame) (old found : List FramePoint) (n : ℕ) (point : FramePoint) (begins : frames ≡ old_frames ++ rest)
      (within : (q : FramePoint) → Contains old q → IsWithin k (length old_frames) q) (at : slice_get old n ≡ Some point) (w : Walk f k max old_frames old n)
      (link : Option ℕ) (ends : List End) (added : AreAdded (target heads stepped link point) k max ends old found)
      (sound : (e : End) → Contains ends e → Contains (frame_edges f (of frames point)) (ToAddress (stack_at frames e.stack) e.at))
      (whole : (s : List ℕ) (a : ℕ) → Contains (frame_edges f (of frames point)) (ToAddress s a) →
      (e : End) × Contains ends e × (stack_at frames e.stack ≡ s) × (e.at ≡ a))
      (steps : (e : End) → Contains ends e → is_contract_end f (of frames point) (stack_at frames e.stack) e.at ≡ is_stepped stepped link e) where
    keeps : (q : FramePoint) → Contains old q → of frames q ≡ of old_frames q
    keeps q h = of_keeps k old_frames rest frames q begins (within q h)

    still_point : (q : FramePoint) → Contains old q → IsPoint f k (of frames q)
    still_point q h = subst (λ z. IsPoint f k z) (sym (keeps q h)) (w.reached q h)

    reached_more : (q : FramePoint) → Contains found q → IsPoint f k (of frames q)
    reached_more q h = elim (added.only q h) [
      | inl o ↦ still_point q o
      | inr (e, ce, is_target, small) ↦
          (let same = target_of frames link point e (steps e ce) in
          let turns : (target heads stepped link point e).turns ≤ k = subst (λ (z : FramePoint). z.turns ≤ k) is_target small in
          let r = next (still_point point (at_in old n point at)) (sound e ce) (subst (λ (z : points.Point). z.turns ≤ k) same turns) in
          subst (λ (z : FramePoint). IsPoint f k (of frames z)) (sym is_target) (subst (λ z. IsPoint f k z) (sym same) r))
    ]

    wide : length old ≤ length found
    wide = longer old added.rest found added.begins

    still : (q : FramePoint) → Contains old q → Contains found q
    still q h = subst (λ (l : List FramePoint). Contains l q) (sym added.begins) (Contains-append_left old added.rest q h)

    abbrev Leads : FramePoint → List ℕ → ℕ → Type 0
    Leads q s a = (t : FramePoint) × Contains found t × (of frames t ≡ end_of f (of frames q) s a)

    closed_old : (i : ℕ) (q : FramePoint) (s : List ℕ) (a : ℕ) → length found ≤ max → i < n → slice_get old i ≡ Some q →
        Contains (frame_edges f (of frames q)) (ToAddress s a) → (end_of f (of frames q) s a).turns ≤ k → Leads q s a
    closed_old i q s a le lt e c small =
        let o : Contains old q = at_in old i q e in
        let t = w.closed i q s a (let z = wide in omega arith) lt e
        (subst (λ (z : points.Point). Contains (frame_edges f z) (ToAddress s a)) (keeps q o) c)
        (subst (λ (z : points.Point). (end_of f z s a).turns ≤ k) (keeps q o) small) in
        (t.0, still t.0 t.1, keeps t.0 t.1 ∙ t.2 ∙ ap (λ (z : points.Point). end_of f z s a) (sym (keeps q o)))

    closed_here : (s : List ℕ) (a : ℕ) → length found ≤ max → Contains (frame_edges f (of frames point)) (ToAddress s a) →
        (end_of f (of frames point) s a).turns ≤ k → Leads point s a
    closed_here s a le c small =
        let e = whole s a c in
        let same : of frames (target heads stepped link point e.0) ≡ end_of f (of frames point) s a =
        target_of frames link point e.0 (steps e.0 e.1) ∙ ap (λ z. end_of f (of frames point) z e.0.at) e.2 ∙ ap (end_of f (of frames point) s) e.3 in
        let turns : (target heads stepped link point e.0).turns ≤ k = subst (λ (z : points.Point). z.turns ≤ k) (sym same) small in
        (target heads stepped link point e.0, added.all e.0 le e.1 turns, same)

    closed_more : (i : ℕ) (q : FramePoint) (s : List ℕ) (a : ℕ) → length found ≤ max → i < n + 1 → slice_get found i ≡ Some q →
        Contains (frame_edges f (of frames q)) (ToAddress s a) → (end_of f (of frames q) s a).turns ≤ k → Leads q s a
    closed_more i q s a le lt e c small =
        let l : n < length old = slice_get_within old n point at in
        let h : slice_get old i ≡ Some q =
        sym (get_left old added.rest i (omega arith)) ∙ ap (λ (z : List FramePoint). slice_get z i) (sym added.begins) ∙ e in
        elim (truth (nat_lt i n)) [
          | inl t ↦ (let z : i < n = grind (arith, nat_tests) in closed_old i q s a le z h c small)
          | inr t ↦ (let z : i ≡ n = grind (arith, nat_tests) in
              let j : Some point ≡ Some q = sym at ∙ ap (slice_get old) (sym z) ∙ h in
              let r : point ≡ q = (cc) in
              subst (λ (y : FramePoint). Leads y s a) r
              (closed_here s a le (subst (λ (y : FramePoint). Contains (frame_edges f (of frames y)) (ToAddress s a)) (sym r) c)
              (subst (λ (y : FramePoint). (end_of f (of frames y) s a).turns ≤ k) (sym r) small)))
        ]

    walk_on : Walk f k max frames found (n + 1)
    walk_on = record {
      reached = reached_more;
      first_in = still (entry_point p.entry) w.first_in;
      head_in = λ h. still (head_point (end 0 p.entry)) (w.head_in h);
      closed = closed_more;
    }

  module _ (old_frames : List Frame) (old found : List FramePoint) (n : ℕ) (point : FramePoint)
      (within : (q : FramePoint) → Contains old q → IsWithin k (length old_frames) q) (at : slice_get old n ≡ Some point)
      (w : Walk f k max old_frames old n) where
    low : point.stack ≤ length old_frames
    low = (within point (at_in old n point at)).stack

    -- no edge leads on
    walk_stops : frame_edges f (of old_frames point) ≡ [] → found ≡ old → Walk f k max old_frames found (n + 1)
    walk_stops none e =
        let no : List End = [] in
        walk_on old_frames old_frames [] old found n point (nothing_more old_frames) within at w None no
        (subst (λ (l : List FramePoint). AreAdded (target heads stepped None point) k max no old l) (sym e)
        (added_none (target heads stepped None point) k max old no refl))
        (λ x h. none_in x h)
        (λ s a h. none_in (ToAddress s a) (subst (λ (l : List EdgeEnd). Contains l (ToAddress s a)) none h))
        (λ x h. none_in x h)

    -- a contract step
    walk_back : (numbers : BTreeMap (ℕ × ℕ) ℕ) → IsTable old_frames numbers → point.contract ≡ true →
        AreAdded (target heads stepped None point) k max (listed (return_end p.machine.narrow (frame_at old_frames point.stack))) old found →
        Walk f k max old_frames found (n + 1)
    walk_back numbers table contract added =
        let narrow = p.machine.narrow in
        let edges_are = back_is old_frames point contract in
        walk_on old_frames old_frames [] old found n point (nothing_more old_frames) within at w None
        (listed (return_end narrow (frame_at old_frames point.stack))) added
        (λ x h. subst (λ (l : List EdgeEnd). Contains l (ToAddress (stack_at old_frames x.stack) x.at)) (sym edges_are)
        (return_edge old_frames table.below narrow point.stack low x h))
        (λ s a h. edge_return old_frames table.below narrow point.stack low s a (subst (λ (l : List EdgeEnd). Contains l (ToAddress s a)) edges_are h))
        (λ x h.
        ap (λ b. is_some (contract_at f.stepped x.at) && b && links_by (file_row p point.at))
        (return_shallow old_frames table.below narrow point.stack low x h)
        ∙ no_step (is_some (contract_at f.stepped x.at)) (links_by (file_row p point.at)))

  -- the ends at the node of a point
  module _ (old_frames frames : List Frame) (numbers : BTreeMap (ℕ × ℕ) ℕ) (old found : List FramePoint) (n : ℕ) (point : FramePoint)
      (table : IsTable frames numbers) (within : (q : FramePoint) → Contains old q → IsWithin k (length old_frames) q)
      (at : slice_get old n ≡ Some point) (w : Walk f k max old_frames old n) where
    -- the ends of the point at its node
    module _ (node : Node) (called : ℕ) (uncut : is_cut heads point ≡ false) (row : point.contract ≡ false) (here : node.at ≡ point.at)
        (there : Contains g.nodes.items node) (more : IsCalled node point.stack old_frames frames called)
        (none : list_any (λ s. is_call s.letter) node.successors.items ≡ false → called ≡ 0)
        (added : AreAdded (target heads stepped (linked node.links called) point) k max
        (ends_of g.narrow node (frame_at frames point.stack) point.stack called) old found) where
      fits : point.stack ≤ length frames
      fits = let l = (within point (at_in old n point at)).stack in let a = longer old_frames more.rest frames more.begins in omega arith

      node_is : IsNode p node
      node_is = each_of (λ m. IsNode p m) g.nodes.items node is.nodes there

      abbrev ends : List End
      ends = ends_of g.narrow node (frame_at frames point.stack) point.stack called

      same_ends : ends ≡ ends_of p.machine.narrow node (frame_at frames point.stack) point.stack called
      same_ends = ap (λ b. ends_of b node (frame_at frames point.stack) point.stack called) is.narrow

      same_edges : frame_edges f (of frames point) ≡ edges p (record { turns = point.turns; stack = stack_at frames point.stack; at = node.at })
      same_edges =
          kind_is frames point false false row uncut
          ∙ ap (λ a. edges p (record { turns = point.turns; stack = stack_at frames point.stack; at = a })) (sym here)

      both : (s : List ℕ) (a : ℕ) →
          Contains (edges p (record { turns = point.turns; stack = stack_at frames point.stack; at = node.at })) (ToAddress s a)
          ↔ ((e : End) × Contains (ends_of p.machine.narrow node (frame_at frames point.stack) point.stack called) e × (stack_at frames e.stack ≡ s) × (e.at ≡ a))
      both s a = are p node frames point.turns point.stack called node_is way table.below fits more.pushes s a

      sound : (e : End) → Contains ends e → Contains (frame_edges f (of frames point)) (ToAddress (stack_at frames e.stack) e.at)
      sound e h =
          subst (λ (l : List EdgeEnd). Contains l (ToAddress (stack_at frames e.stack) e.at)) (sym same_edges)
          ((both (stack_at frames e.stack) e.at).1 (e, subst (λ (l : List End). Contains l e) same_ends h, refl, refl))

      whole : (s : List ℕ) (a : ℕ) → Contains (frame_edges f (of frames point)) (ToAddress s a) →
          (e : End) × Contains ends e × (stack_at frames e.stack ≡ s) × (e.at ≡ a)
      whole s a h =
          let e = (both s a).0 (subst (λ (l : List EdgeEnd). Contains l (ToAddress s a)) same_edges h) in
          (e.0, subst (λ (l : List End). Contains l e.0) (sym same_ends) e.1, e.2, e.3)

      steps : (e : End) → Contains ends e →
          is_contract_end f (of frames point) (stack_at frames e.stack) e.at ≡ is_stepped stepped (linked node.links called) e
      steps e h =
          step_is frames table.below g.narrow node point.stack called fits more.pushes none f heads stepped cuts node_is (of frames point) (sym here) refl e h

      walk_there : Walk f k max frames found (n + 1)
      walk_there = walk_on old_frames frames more.rest old found n point more.begins within at w (linked node.links called) ends added sound whole steps

    walk_same : frames ≡ old_frames → Walk f k max old_frames found (n + 1) → Walk f k max frames found (n + 1)
    walk_same e h = subst (λ (l : List Frame). Walk f k max l found (n + 1)) (sym e) h

    old_table : frames ≡ old_frames → IsTable old_frames numbers
    old_table e = subst (λ (l : List Frame). IsTable l numbers) e table

    pub walk_more : IsStep g heads stepped k max point old_frames frames old found → Walk f k max frames found (n + 1)
    walk_more (nowhere none contract e same) = absurd (none is.rising ((is.all point.at).1
        (of_point f k (of old_frames point) (w.reached point (at_in old n point at))).0))
    walk_more (stops cut contract e same) =
        walk_same e (walk_stops old_frames old found n point within at w (kind_is old_frames point false true contract cut) same)
    walk_more (returns contract e added) =
        walk_same e (walk_back old_frames old found n point within at w numbers (old_table e) contract
        (subst (λ (l : List Frame). AreAdded (target heads stepped None point) k max (listed (return_end p.machine.narrow (frame_at l point.stack))) old found) e
        (subst (λ b. AreAdded (target heads stepped None point) k max (listed (return_end b (frame_at frames point.stack))) old found) is.narrow added)))
    walk_more (somewhere node called uncut contract here there more none added) = walk_there node called uncut contract here there more none added

  some_at : {X : Type 0} (xs : List X) (i : ℕ) → i < length xs → (x : X) × (slice_get xs i ≡ Some x)
  some_at [] i h = absurd (omega arith)
  some_at (x ∷ xs) zero h = (x, refl)
  some_at (x ∷ xs) (suc i) h = some_at xs i (omega arith)

  map_at : {X Y : Type 0} (f : X → Y) (xs : List X) (i : ℕ) (x : X) → slice_get xs i ≡ Some x → slice_get (map f xs) i ≡ Some (f x)
  map_at f [] i x e = absurd (let l = slice_get_within [] i x e in omega arith)
  map_at f (y ∷ xs) zero x e = (let s : y ≡ x = (cc) in ap (λ z. Some (f z)) s)
  map_at f (y ∷ xs) (suc i) x e = map_at f xs i x e

  -- the list as far as it has come
  module _ (frames : List Frame) (numbers : BTreeMap (ℕ × ℕ) ℕ) (found : List FramePoint) (seen : BTreeSet Key) (n : ℕ) (table : IsTable frames numbers)
      (listing : IsListed k (length frames) found seen) (w : Walk f k max frames found n) where
    only : (x : points.Point) → Contains (map (of frames) found) x → IsPoint f k x
    only x h = let q = of_map (of frames) found x h in subst (λ z. IsPoint f k z) q.2 (w.reached q.0 q.1)

    one_stack : (a b : ℕ) → a ≤ length frames → b ≤ length frames → stack_at frames a ≡ stack_at frames b → a ≡ b
    one_stack a b la lb e = one_number frames numbers table a a b (omega arith) la lb e

    one_root : (x y : Option Root) → is_root_within (length frames) x → is_root_within (length frames) y →
        anchor_of (stacks_of frames) x ≡ anchor_of (stacks_of frames) y → x ≡ y
    one_root None None a b e = refl
    one_root None (Some y) a b e = absurd (cc)
    one_root (Some x) None a b e = absurd (cc)
    one_root (Some x) (Some y) a b e =
        let s : stack_at frames x.stack ≡ stack_at frames y.stack = (cc) in
        let t : x.at ≡ y.at = (cc) in
        ap (λ z. Some (record { stack = z; at = x.at })) (one_stack x.stack y.stack a b s) ∙ ap (λ z. Some (record { stack = y.stack; at = z })) t

    one_point : (x y : FramePoint) → Contains found x → Contains found y → of frames x ≡ of frames y → x ≡ y
    one_point x y a b e =
        let ix = listing.within x a in
        let iy = listing.within y b in
        same_point x y (one_root x.root y.root ix.root iy.root (ap (λ (z : points.Point). z.anchor) e)) (ap (λ (z : points.Point). z.turns) e)
        (ap (λ (z : points.Point). z.contract) e) (one_stack x.stack y.stack ix.stack iy.stack (ap (λ (z : points.Point). z.stack) e))
        (ap (λ (z : points.Point). z.at) e)

    once : (i j : ℕ) → i < j → j < length (map (of frames) found) → slice_get (map (of frames) found) i ≢ slice_get (map (of frames) found) j
    once i j lt h e =
        let l = length-map found (of frames) in
        let x = some_at found i (omega arith) in
        let y = some_at found j (omega arith) in
        let q : Some (of frames x.0) ≡ Some (of frames y.0) = sym (map_at (of frames) found i x.0 x.1) ∙ e ∙ map_at (of frames) found j y.0 y.1 in
        let r : of frames x.0 ≡ of frames y.0 = (cc) in
        let s = one_point x.0 y.0 (at_in found i x.0 x.1) (at_in found j y.0 y.1) r in
        listing.once i j lt (omega arith) (x.1 ∙ ap Some s ∙ sym y.1)

    pub has_more : max < length found → HasMore f k max
    has_more over = (map (of frames) found, (let l = length-map found (of frames) in omega arith), only, once)

    module _ (small : length found ≤ max) (done : length found ≤ n) where
      every : (x : points.Point) → IsPoint f k x → Contains (map (of frames) found) x
      every x first =
          subst (λ (z : List ℕ). Contains (map (of frames) found) (record { anchor = AtEntry; turns = 0; contract = false; stack = z; at = p.entry }))
          (stack_none frames) (in_map (of frames) found (entry_point p.entry) w.first_in)
      every x (entry_head h) =
          subst (λ (z : List ℕ). Contains (map (of frames) found) (record { anchor = AtHead z p.entry; turns = 0; contract = false; stack = z; at = p.entry }))
          (stack_none frames) (in_map (of frames) found (head_point (end 0 p.entry)) (w.head_in h))
      every x (next {q = point} {stack} {a} h edge within) =
          let q = of_map (of frames) found point (every point h) in
          let i = in_at found q.0 q.1 in
          let t = w.closed i.0 q.0 stack a small (let z = i.1 in omega arith) i.2
          (subst (λ (z : points.Point). Contains (frame_edges f z) (ToAddress stack a)) (sym q.2) edge)
          (subst (λ (z : points.Point). (end_of f z stack a).turns ≤ k) (sym q.2) within) in
          subst (λ (z : points.Point). Contains (map (of frames) found) z) (t.2 ∙ ap (λ (z : points.Point). end_of f z stack a) q.2)
          (in_map (of frames) found t.0 t.1)

      pub are_points : (v : FramePoints) → v.stacks.frames.items ≡ frames → v.points.items ≡ found → AreFramePointsOf f k v
      are_points v e h = (
        stacks_of frames,
        subst (λ (l : List Frame). AreStacks l (stacks_of frames)) (sym e) (are_stacks frames numbers table),
        subst (λ (l : List FramePoint). ArePoints f k (map (of frames) l)) (sym h) (record { all = every; only = only; once = once }),
      )
