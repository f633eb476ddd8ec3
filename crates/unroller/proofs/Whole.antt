-- The value is the unrolled frame of a frame.
use Rattle.std.proofs.Common.{◌≡◌, inl, inr, refl, ap, sym, ◌∙◌, subst, arith, ℕ, zero, suc, ◌+◌, ◌<◌, ◌≤◌, ◌^◌, Some, Bool, true, false, List, [], ◌∷◌, ◌++◌, length, get_or, drop, map}
use Rattle.std.specs.Prelude.{Contains, ◌↔◌, ◌≢◌, ◌&&◌, ◌||◌, ◌-◌, Option, None, ◌==◌, filter, not, slice_get, slice_range, if◌then◌else◌}
use Rattle.std.specs.BTreeMap.{BTreeMap}
use Rattle.std.proofs.lemmas.Bool.{cases_lt}
use Rattle.std.proofs.lemmas.Bool.Decides.{nat_tests}
use Rattle.std.proofs.lemmas.List.{get_or_default, get_or-map, length-map}
use Rattle.std.proofs.Math.ListN.{length-append}
use Rattle.std.proofs.lemmas.Option.{slice_get-get_or}
use Rattle.machine_spec.specs.Machine.{Row}
use Rattle.machine_spec.specs.MachineLaws.{IsFitted}
use Rattle.machine_spec.specs.Bil.{Bank}
use Rattle.bilv_spec.specs.Run.{Program, all_kept}
use Rattle.bilv_spec.specs.Points.{file_row}
use Rattle.bilv_spec.proofs.PointSteps.{in_map}
use Rattle.bilv_spec.proofs.PointsInGraph.{of_filter, of_map}
use Rattle.frame_spec.specs.Frames.{Contract, Frame, contract_at}
use Rattle.frame_spec.specs.FramePoints as spec
use Rattle.frame_spec.specs.FramePoints.{Anchor, AtEntry, AtHead, IsAnchor, IsPoint, ArePoints, first_of, has_heads, is_cut, is_entry}
use Rattle.frame_spec.specs.FrameUnrolling.{AreAlong, IsLiteralOf, IsPlace, IsRootOf, assumed_at, checks_of}
use Rattle.frame_spec.specs.FrameWalk as walk
use Rattle.frame_spec.specs.FrameWalk.{UnrolledPoint, UnrolledProgram, no_point, point_at, root_at}
use Rattle.frame_spec.proofs.OfSegments.{heads as some_heads}
use Rattle.frame_laws.proofs.FrameAnswers.{head_anchor}
use Rattle.flag_live.specs.Contracted.{IsLiveWith}
use Rattle.graph_nodes.specs.declared.nodes.Node.{Node}
use Rattle.graph_nodes.specs.declared.nodes.Graph.{Graph}
use Rattle.graph_nodes.specs.Graphs.{addresses_of}
use Rattle.graph_nodes.proofs.Places.{at_is}
use Rattle.notes_value.specs.declared.notes.Contract.{Contract as Declared}
use Rattle.notes_value.specs.FrameViews.{contract_of as shown_contract}
use Rattle.notes_value.specs.NoteViews.{notes_of}
use Rattle.notes_index.specs.Indexed.{assert_places, numbered_from}
use Rattle.program_points.specs.Listed.{anchor_of}
use Rattle.program_points.specs.declared.values.Frame as stack
use Rattle.program_points.specs.declared.values.Root as listed
use Rattle.program_points.specs.Tables.{is_among, stack_at, stacks_of, IsTable}
use Rattle.start_value.specs.Starts.{layout_of}
use Rattle.walk_spec.specs.Unrolled as tables
use Rattle.walk_spec.specs.Unrolled.{is_register_of, is_flag_of}
use Rattle.question_form.specs.declared.unrolled.Aim.{Aim}
use Rattle.question_form.specs.declared.unrolled.Aim.TheVariants.{OnTo, IntoHead, Outward, OverLast}
use Rattle.question_form.specs.declared.unrolled.Code.{Code}
use Rattle.question_form.specs.declared.unrolled.Deed.{Deed}
use Rattle.question_form.specs.declared.unrolled.Deed.TheVariants as deeds
use Rattle.question_form.specs.declared.unrolled.Edge.{Edge}
use Rattle.question_form.specs.declared.unrolled.Point.{Point}
use Rattle.question_form.specs.declared.unrolled.Root.{Root}
use Rattle.question_form.specs.declared.unrolled.Unrolled.{Unrolled}
use Rattle.question_form.specs.Views as views
use Rattle.question_form.specs.Views.{code_of, edges_from, no_code, unrolled_of}
use Rattle.question_form.specs.FrameViews as shown
use Rattle.question_form.specs.FrameViews.{action_of, anchor_at, checks_between, edge_of, frame_unrolled_of, is_contract, is_headless, is_judged, no_contract, no_root, own_contract, point_by, stepped_at}
use Rattle.question_form.specs.Forms.{AreBounds, AreRootsFormed, AreStepsFormed, IsAimFormed, IsFormed}
use Rattle.unroller.specs.Keys.{root_of, turns_of, address_of, stack_of, contract_of, is_of, place_in, head_of, anchor_by, point_of, AreKeys, AreSegments, IsFrameOf}
use Rattle.unroller.specs.Led.{AreBackLed, AreRowLed, IsAimFor, IsCalledBy, IsCoded, IsNoneCalled, AreCalled, IsLeft, IsPlacedAt, ArePlaced, begins_at, deed_at, is_arrival}
use Rattle.unroller.specs.Places.{IsGroup, IsCodeOf, deed_by, step_code}
use Rattle.unroller.specs.Steps.{AreAllCodes, step_codes}
use Rattle.unroller.specs.RootPoints as points
use Rattle.unroller.specs.RootPoints.{BeginAtOwn, IsEntryFirst}
use Rattle.unroller.specs.Roots.{AreRoots, IsGroupOf, IsRootAt}
use Rattle.unroller.specs.Rows.{literal_by, literal_at, AreLiterals, AssignsLiveOnly, HasListsOf, IsListOf, may_assign_in}
use Rattle.unroller.proofs.Coding.{of_nodes}
use Rattle.program_points.proofs.Lists.{or_left}
use Rattle.program_points.proofs.Stacked.{stack_none}
use Rattle.unroller.proofs.BackEdges.{back_edges_at}
use Rattle.unroller.proofs.FrameFirst.{of_contract, points_are_of_segments}
use Rattle.unroller.proofs.FrameLines.{assumed_are, assumed_none, judged_are, lines_are}
use Rattle.unroller.proofs.RowEdges.{row_edges_at}
use Rattle.unroller.proofs.Literals.{of_kept, is_kept_one, code_is_lean, code_is_listed}
use Rattle.unroller.proofs.Looked.{frame_points_are_at, points_are_at}
use Rattle.unroller.proofs.Placed.{places_are_right, steps_are_right}
use Rattle.unroller.proofs.RootPlaces.{first_point, first_root}
use Rattle.unroller.proofs.SameKeys.{entry_is, entry_root, same_key, test_zero, zero_test}

one_node : (g : Graph) → ((i j : ℕ) → i < j → j < length g.nodes.items → get_or (addresses_of g) i 0 < get_or (addresses_of g) j 0) → (m n : Node) →
    Contains g.nodes.items m → Contains g.nodes.items n → m.at ≡ n.at → m ≡ n
one_node g rising m n (i, w, e) (j, v, f) same =
    let a : get_or (addresses_of g) i 0 ≡ m.at = at_is g.nodes.items i m w ∙ ap (λ (z : Node). z.at) e in
    let b : get_or (addresses_of g) j 0 ≡ n.at = at_is g.nodes.items j n v ∙ ap (λ (z : Node). z.at) f in
    elim (cases_lt i j) as (λ _. m ≡ n) [
      | inl l ↦ absurd (let z = rising i j l v in omega arith)
      | inr le ↦ elim (cases_lt j i) as (λ _. m ≡ n) [
        | inl l ↦ absurd (let z = rising j i l w in omega arith)
        | inr ge ↦ (let z : i ≡ j = omega arith in sym e ∙ ap (λ (x : ℕ). get_or g.nodes.items x m) z ∙ get_or_default g.nodes.items j m n v ∙ f)
      ]
    ]

begins_same : (u : Unrolled) (ps : List Point) → edges_from u ps ≡ begins_at u.edges.items ps
begins_same u [] = refl
begins_same u (q ∷ ps) = refl

-- what the value is made of, and what is known of it
pub record IsMade (f : Frame) (contracts : List Contract) (k : ℕ) (bank : Bank) (g : Graph) (u : Unrolled) (numbers : BTreeMap (ℕ × ℕ) ℕ)
    (heads stepped segments keys rows steps called : List ℕ) : Type 0 where
  pub of : IsFrameOf f g heads stepped u.entry
  pub low : k ≤ 4096
  pub own : f.own ≡ own_contract u
  pub over : f.stepped ≡ map shown_contract u.stepped.now
  pub ats : stepped ≡ map (λ (x : Declared). x.at) u.stepped.now
  pub cuts : f.cuts ≡ true
  pub invariants : u.invariants.now ≡ f.invariants
  pub fitted : IsFitted f.program.machine (layout_of u.form)
  pub registers : (r : ℕ) → is_register_of (unrolled_of u) r ≡ f.program.machine.has_register r
  pub flags : (g : ℕ) → is_flag_of (unrolled_of u) g ≡ f.program.machine.has_flag g
  pub table : IsTable u.frames.items numbers
  pub few : length u.frames.items < 2147483648
  pub segs : AreSegments f k u.frames.items segments
  pub are : AreKeys f k u.frames.items segments keys
  pub calls : AreCalled g keys u.frames.items (length keys) called
  pub codes : AreAllCodes f.program bank contracts u.stepped.now stepped rows steps u.asserts.items u.codes.items
  pub placed : ArePlaced g heads stepped u.asserts.items u.frames.items keys rows steps called (length keys) u.points.items u.edges.items
  pub roots : AreRoots segments keys u.asserts.items u.entry (length segments) u.roots.items
  pub index : (at : ℕ) → filter (λ x. x.0 == at) u.asserts.items
      ≡ filter (λ x. x.0 == at) (numbered_from 0 (assert_places u.notes.now.asserts.items))
  pub noted : f.program.notes ≡ notes_of u.notes.now

-- a contract of a list, by the place of its address
abbrev IsAt : List Declared → (a n : ℕ) → Type 0
IsAt xs a n =
    (contract_at (map shown_contract xs) a ≡ Some (get_or (map shown_contract xs) n no_contract))
    × ((get_or (map shown_contract xs) n no_contract).at ≡ a) × (n < length xs)

test_same : (x a : ℕ) → (x == a) ≡ true → x ≡ a
test_same x a h = grind (arith, nat_tests)

step_at_by : (x : Declared) (xs : List Declared) (a : ℕ) (b : Bool) → (x.at == a) ≡ b →
    (is_among (map (λ (y : Declared). y.at) xs) a ≡ true → IsAt xs a (place_in (map (λ (y : Declared). y.at) xs) a)) →
    (b || is_among (map (λ (y : Declared). y.at) xs) a) ≡ true →
    (let n : ℕ = if b then 0 else suc (place_in (map (λ (y : Declared). y.at) xs) a) in
    ((if b then Some (shown_contract x) else contract_at (map shown_contract xs) a) ≡ Some (get_or (map shown_contract (x ∷ xs)) n no_contract))
    × ((get_or (map shown_contract (x ∷ xs)) n no_contract).at ≡ a) × (n < length (x ∷ xs)))
step_at_by x xs a true e g h = (refl, test_same x.at a e, omega arith)
step_at_by x xs a false e g h = (let r = g h in (r.0, r.1, (let l = r.2 in omega arith)))

step_at : (xs : List Declared) (a : ℕ) → is_among (map (λ (x : Declared). x.at) xs) a ≡ true → IsAt xs a (place_in (map (λ (x : Declared). x.at) xs) a)
step_at [] a h = absurd (cc)
step_at (x ∷ xs) a h = step_at_by x xs a (x.at == a) refl (step_at xs a) h

or_right : (xs ys : List Code) (m n : ℕ) (d : Code) → m ≡ length xs + n → get_or (xs ++ ys) m d ≡ get_or ys n d
or_right [] ys m n d e = ap (λ (z : ℕ). get_or ys z d) (let same : m ≡ n = omega arith in same)
or_right (x ∷ xs) ys zero n d e = absurd (omega arith)
or_right (x ∷ xs) ys (suc m) n d e = or_right xs ys m n d (omega arith)

top_below : (s : List ℕ) → 0 < length s → (to : ℕ) × (below : List ℕ) × (s ≡ to ∷ below)
top_below [] h = absurd (omega arith)
top_below (to ∷ below) h = (to, below, refl)

deed_step : (b a : Bool) (n : ℕ) → is_contract (if b then deeds.Contract n else deed_by a) ≡ b
deed_step true a n = refl
deed_step false true n = refl
deed_step false false n = refl

step_deed : (b a : Bool) (m n : ℕ) → (if b then deeds.Contract m else deed_by a) ≡ deeds.Contract n → (b ≡ true) × (m ≡ n)
step_deed true a m n h = (refl, (cc))
step_deed false true m n h = absurd (cc)
step_deed false false m n h = absurd (cc)

not_behind : (x y : ℕ) → x ≤ y → root_of y ≡ 0 → turns_of y ≡ 0 → (root_of x ≡ 0) × (turns_of x ≡ 0) × (address_of x ≤ address_of y)
not_behind x y le r t = ((omega arith), (omega arith), (omega arith))

least_key : (keys : List ℕ) → ((i j : ℕ) → i < j → j < length keys → get_or keys i 0 < get_or keys j 0) → (i : ℕ) → i < length keys →
    get_or keys 0 0 ≤ get_or keys i 0
least_key keys rise zero w = omega arith
least_key keys rise (suc i) w = let l = rise 0 (suc i) (omega arith) w in omega arith

its_anchor : (entry : ℕ) (anchor : Anchor) → is_entry anchor ≡ true → anchor ≡ AtEntry
its_anchor entry AtEntry h = refl
its_anchor entry (AtHead stack a) h = absurd (cc)

module _ (f : Frame) (contracts : List Contract) (k : ℕ) (bank : Bank) (g : Graph) (u : Unrolled) (numbers : BTreeMap (ℕ × ℕ) ℕ)
    (heads stepped segments keys rows steps called : List ℕ)
    (made : IsMade f contracts k bank g u numbers heads stepped segments keys rows steps called) where
  abbrev p : Program
  p = f.program

  abbrev w : UnrolledProgram
  w = frame_unrolled_of u

  abbrev frames : List stack.Frame
  frames = u.frames.items

  abbrev none : Point
  none = record { root = 0; turns = 0; code = 0; stack = 0; deed = deeds.Row; edges = 0 }

  abbrev own : ℕ → Point
  own i = get_or u.points.items i none

  abbrev rest : ℕ → List Point
  rest i = drop (i + 1) u.points.items

  abbrev led : ℕ → List Edge
  led i = slice_range u.edges.items (own i).edges (edges_from u (rest i))

  abbrev code : ℕ → Code
  code i = code_of u (own i)

  abbrev key : ℕ → ℕ
  key i = get_or keys i 0

  abbrev here : ℕ → UnrolledPoint
  here i = point_by u (own i) (code i) (led i)

  pub size : length w.points ≡ length keys
  size = (frame_points_are_at u).0 ∙ made.placed.count

  at : (i : ℕ) → i < length keys → IsPlacedAt g heads stepped u.asserts.items frames keys rows steps (key i) (get_or called i 0) (own i)
      (begins_at u.edges.items (rest i)) u.edges.items
  at i l = made.placed.each i none l

  own_at : (i : ℕ) → i < length keys → slice_get u.points.items i ≡ Some (own i)
  own_at i l = slice_get-get_or u.points.items i none (let c = made.placed.count in omega arith)

  point_is : (i : ℕ) → i < length keys → point_at w i ≡ here i
  point_is i l = (frame_points_are_at u).1 i (own i) (own_at i l)

  -- the codes of points of rows
  coded_row : (i : ℕ) → i < length keys → contract_of (key i) ≡ false → ((own i).code < length rows) × (get_or rows (own i).code 0 ≡ address_of (key i))
  coded_row i l e = by (contract_of (key i)) e (is_arrival heads (key i)) (at i l).code
    where
      by : (b : Bool) → b ≡ false → (a : Bool) →
          IsCoded (if b then deeds.Contract (place_in stepped (address_of (key i))) else deed_by a) rows steps (address_of (key i)) (own i).code →
          ((own i).code < length rows) × (get_or rows (own i).code 0 ≡ address_of (key i))
      by true e a h = absurd (cc)
      by false e true h = h
      by false e false h = h

  row_code : (i : ℕ) → i < length keys → contract_of (key i) ≡ false → IsCodeOf p bank contracts (get_or rows (own i).code 0) u.asserts.items (code i)
  row_code i l e =
      let c = made.codes in
      let low = (coded_row i l e).0 in
      let same : code i ≡ get_or c.of_rows (own i).code no_code =
      ap (λ (xs : List Code). get_or xs (own i).code no_code) c.is
      ∙ or_left c.of_rows (step_codes u.stepped.now stepped steps) (own i).code no_code (let n = c.are.count in omega arith) in
      subst (λ (z : Code). IsCodeOf p bank contracts (get_or rows (own i).code 0) u.asserts.items z) (sym same) (c.are.each (own i).code no_code low)

  -- and of contract steps
  coded_step : (i : ℕ) → i < length keys → contract_of (key i) ≡ true →
      (j : ℕ) × ((own i).code ≡ length rows + j) × (j < length steps) × (get_or steps j 0 ≡ address_of (key i))
  coded_step i l e = by (contract_of (key i)) e (is_arrival heads (key i)) (at i l).code
    where
      by : (b : Bool) → b ≡ true → (a : Bool) →
          IsCoded (if b then deeds.Contract (place_in stepped (address_of (key i))) else deed_by a) rows steps (address_of (key i)) (own i).code →
          (j : ℕ) × ((own i).code ≡ length rows + j) × (j < length steps) × (get_or steps j 0 ≡ address_of (key i))
      by true e a h = h
      by false e a h = absurd (cc)

  abbrev number : ℕ → ℕ
  number i = place_in stepped (address_of (key i))

  abbrev contract : ℕ → Contract
  contract i = stepped_at u (number i)

  step_code_is : (i : ℕ) → i < length keys → contract_of (key i) ≡ true → code i ≡ step_code (contract i)
  step_code_is i l e =
      let c = made.codes in
      let q = coded_step i l e in
      let by : ℕ → Code = λ a. step_code (stepped_at u (place_in stepped a)) in
      ap (λ (xs : List Code). get_or xs (own i).code no_code) c.is
      ∙ or_right c.of_rows (step_codes u.stepped.now stepped steps) (own i).code q.0 no_code (let n = c.are.count in let m = q.1 in omega arith)
      ∙ get_or-map by steps q.0 0 no_code q.2 ∙ ap by q.3

  -- the contract of a point
  its_point : (i : ℕ) → i < length keys → IsPoint f k (point_of frames segments (key i))
  its_point i l = made.are.only i l

  its_contract : (i : ℕ) → i < length keys → contract_of (key i) ≡ true → IsAt u.stepped.now (address_of (key i)) (number i)
  its_contract i l e =
      let some = (of_contract f k (point_of frames segments (key i)) (its_point i l) e).0 in
      let among : is_among stepped (address_of (key i)) ≡ true = sym (made.of.cuts.stepped (address_of (key i))) ∙ some in
      subst (λ (z : List ℕ). IsAt u.stepped.now (address_of (key i)) (place_in z (address_of (key i)))) (sym made.ats)
      (step_at u.stepped.now (address_of (key i)) (ap (λ (z : List ℕ). is_among z (address_of (key i))) (sym made.ats) ∙ among))

  code_at_by : (i : ℕ) → i < length keys → (b : Bool) → contract_of (key i) ≡ b → (code i).at ≡ address_of (key i)
  code_at_by i l true e = ap (λ (z : Code). z.at) (step_code_is i l e) ∙ (its_contract i l e).1
  code_at_by i l false e = (row_code i l e).here ∙ (coded_row i l e).1

  code_at : (i : ℕ) → i < length keys → (code i).at ≡ address_of (key i)
  code_at i l = code_at_by i l (contract_of (key i)) refl

  rooted_at : (i : ℕ) → i < length keys → root_of (key i) < length segments
  rooted_at i l = made.are.rooted i l

  anchor_is : (n : ℕ) → n < length segments → anchor_at u n ≡ anchor_by frames segments n
  anchor_is n l = ap (anchor_of (stacks_of frames)) (made.roots.each n no_root l).head

  own_is : (i : ℕ) → i < length keys → (here i).point ≡ point_of frames segments (key i)
  own_is i l =
      let q = at i l in
      ap (λ (z : ℕ). let r : spec.Point = record {
        anchor = anchor_at u z;
        turns = (own i).turns;
        contract = is_contract (own i).deed;
        stack = stack_at frames (own i).stack;
        at = (code i).at;
      } in r) q.root
      ∙ ap (λ (z : Anchor). let r : spec.Point = record {
        anchor = z;
        turns = (own i).turns;
        contract = is_contract (own i).deed;
        stack = stack_at frames (own i).stack;
        at = (code i).at;
      } in r) (anchor_is (root_of (key i)) (rooted_at i l))
      ∙ ap (λ (z : ℕ). let r : spec.Point = record {
        anchor = anchor_by frames segments (root_of (key i));
        turns = z;
        contract = is_contract (own i).deed;
        stack = stack_at frames (own i).stack;
        at = (code i).at;
      } in r) q.turns
      ∙ ap (λ (z : Bool). let r : spec.Point = record {
        anchor = anchor_by frames segments (root_of (key i));
        turns = turns_of (key i);
        contract = z;
        stack = stack_at frames (own i).stack;
        at = (code i).at;
      } in r) (ap is_contract q.deed ∙ deed_step (contract_of (key i)) (is_arrival heads (key i)) (number i))
      ∙ ap (λ (z : ℕ). let r : spec.Point = record {
        anchor = anchor_by frames segments (root_of (key i));
        turns = turns_of (key i);
        contract = contract_of (key i);
        stack = stack_at frames z;
        at = (code i).at;
      } in r) q.stack
      ∙ ap (λ (z : ℕ). let r : spec.Point = record {
        anchor = anchor_by frames segments (root_of (key i));
        turns = turns_of (key i);
        contract = contract_of (key i);
        stack = stack_at frames (stack_of (key i));
        at = z;
      } in r) (code_at i l)

  pub points_are : (i : ℕ) → i < length keys → (point_at w i).point ≡ point_of frames segments (key i)
  points_are i l = ap (λ (z : UnrolledPoint). z.point) (point_is i l) ∙ own_is i l

  group_at : (i : ℕ) → i < length keys → contract_of (key i) ≡ false → IsGroup u.asserts.items (code i).at (code i).asserts
  group_at i l e = let c = row_code i l e in subst (λ (z : ℕ). IsGroup u.asserts.items z (code i).asserts) (sym c.here) c.group

  checks_are : (i : ℕ) → i < length keys → contract_of (key i) ≡ false →
      filter (is_judged (anchor_at u (own i).root)) (checks_between u (code i).asserts) ≡ checks_of f (here i).point
  checks_are i l e = judged_are u f made.cuts made.invariants made.noted made.index (here i).point (code i).asserts (group_at i l e)

  cut_is : (i : ℕ) → i < length keys → is_arrival heads (key i) ≡ is_cut f (here i).point
  cut_is i l =
      ap (λ (b : Bool). b && is_among heads (address_of (key i)))
      (sym (entry_is f k frames numbers segments made.table made.segs (root_of (key i)) (rooted_at i l)))
      ∙ ap (λ (b : Bool). is_entry (anchor_by frames segments (root_of (key i))) && b) (sym (made.of.cuts.heads (address_of (key i))))
      ∙ ap (is_cut f) (sym (own_is i l))

  left_is : (i : ℕ) → i < length keys → IsLeft (deed_at heads stepped (key i)) g heads stepped u.asserts.items frames keys (key i) (get_or called i 0) (led i)
  left_is i l =
      subst (λ (z : ℕ). IsLeft (deed_at heads stepped (key i)) g heads stepped u.asserts.items frames keys (key i) (get_or called i 0)
      (slice_range u.edges.items (own i).edges z)) (sym (begins_same u (rest i))) (at i l).led

  -- what is done at a point of a row
  row_deed : (i : ℕ) → i < length keys → contract_of (key i) ≡ false → deed_at heads stepped (key i) ≡ deed_by (is_cut f (here i).point)
  row_deed i l e =
      ap (λ (b : Bool). if b then deeds.Contract (number i) else deed_by (is_arrival heads (key i))) e ∙ ap deed_by (cut_is i l)

  edges_are : (i : ℕ) → i < length keys → contract_of (key i) ≡ false → is_cut f (here i).point ≡ false → (row : Row) → file_row p (code i).at ≡ Some row →
      AreAlong f k w i (here i).point (Some row) (map (edge_of u) (led i))
  edges_are i l e uncut row some =
      let x : IsLeft deeds.Row g heads stepped u.asserts.items frames keys (key i) (get_or called i 0) (led i) =
      subst (λ (d : Deed). IsLeft d g heads stepped u.asserts.items frames keys (key i) (get_or called i 0) (led i))
      (row_deed i l e ∙ ap deed_by uncut) (left_is i l) in
      let n = x.0 in
      let c = made.calls.each i l in
      let same : c.0 ≡ n = one_node g made.of.graph.rising c.0 n c.1 x.1 (c.2 ∙ sym x.2) in
      let by : IsCalledBy n (stack_of (key i)) frames (get_or called i 0) = subst
      (λ (z : Node). IsCalledBy z (stack_of (key i)) frames (get_or called i 0)) same c.3 in
      let none : IsNoneCalled n (get_or called i 0) = subst (λ (z : Node). IsNoneCalled z (get_or called i 0)) same c.4 in
      let node_at : n.at ≡ (code i).at = x.2 ∙ sym (code_at i l) in
      let leads : AreRowLed heads stepped u.asserts.items p.machine.narrow n frames keys (key i) (get_or called i 0) (led i) =
      subst (λ (b : Bool). AreRowLed heads stepped u.asserts.items b n frames keys (key i) (get_or called i 0) (led i)) made.of.graph.narrow x.3 in
      subst (λ (z : spec.Point). AreAlong f k w i z (Some row) (map (edge_of u) (led i))) (sym (own_is i l))
      (row_edges_at f k n frames numbers heads stepped segments (key i) (get_or called i 0) row (of_nodes p g n made.of.graph x.1) made.of.way made.of.cuts
      made.table (made.are.fits i l) by none (ap (file_row p) node_at ∙ some) x.2 e (ap (is_cut f) (sym (own_is i l)) ∙ uncut) u.asserts.items keys i made.few
      made.low made.segs made.are l refl u size points_are (lines_are u f made.cuts made.invariants made.noted made.index) (led i) leads)

  -- the edge of a contract step
  back_are : (i : ℕ) → i < length keys → contract_of (key i) ≡ true →
      AreAlong f k w i (point_of frames segments (key i)) None (map (edge_of u) (led i))
  back_are i l e =
      let x : IsLeft (deeds.Contract (number i)) g heads stepped u.asserts.items frames keys (key i) (get_or called i 0) (led i) =
      subst (λ (b : Bool). IsLeft (if b then deeds.Contract (number i) else deed_by (is_arrival heads (key i))) g heads stepped u.asserts.items frames keys
      (key i) (get_or called i 0) (led i)) e (left_is i l) in
      let leads : AreBackLed heads stepped u.asserts.items p.machine.narrow frames keys (key i) (led i) =
      subst (λ (b : Bool). AreBackLed heads stepped u.asserts.items b frames keys (key i) (led i)) made.of.graph.narrow x in
      back_edges_at f k frames numbers heads stepped u.asserts.items segments keys (key i) i made.of.cuts.heads made.table made.few made.low made.segs made.are l
      refl u size points_are (lines_are u f made.cuts made.invariants made.noted made.index) e (made.are.fits i l) (led i) leads

  place_by : (i : ℕ) → i < length keys → (b : Bool) → contract_of (key i) ≡ b → IsPlace f contracts k w i (here i)
  place_by i l false e =
      places_are_right f contracts k u (layout_of u.form) bank i (own i) (code i) (led i) made.own made.fitted made.registers made.flags
      (record { own = (row_code i l e).row; checks = checks_are i l e }) ((at i l).deed ∙ row_deed i l e) (edges_are i l e)
  place_by i l true e =
      let x = contract i in
      let its = its_contract i l e in
      let at_is : contract_at f.stepped x.at ≡ Some x =
      ap (λ (z : ℕ). contract_at f.stepped z) its.1 ∙ ap (λ (z : List Contract). contract_at z (address_of (key i))) made.over ∙ its.0 in
      let some = (of_contract f k (point_of frames segments (key i)) (its_point i l) e).1 in
      let top = top_below (stack_at frames (stack_of (key i))) some in
      let point_is : (point_by u (own i) (step_code x) (led i)).point ≡ point_of frames segments (key i) =
      ap (λ (c : Code). (point_by u (own i) c (led i)).point) (sym (step_code_is i l e)) ∙ own_is i l in
      subst (λ (c : Code). IsPlace f contracts k w i (point_by u (own i) c (led i))) (sym (step_code_is i l e))
      (steps_are_right f contracts k u i (number i) (own i) (led i) made.own
      ((at i l).deed ∙ ap (λ (b : Bool). if b then deeds.Contract (number i) else deed_by (is_arrival heads (key i))) e) at_is top.0 top.1
      (ap (stack_at frames) (at i l).stack ∙ top.2)
      (subst (λ (z : spec.Point). AreAlong f k w i z None (map (edge_of u) (led i))) (sym point_is) (back_are i l e)))

  pub places : (i : ℕ) → i < length keys → IsPlace f contracts k w i (point_at w i)
  places i l = subst (λ (z : UnrolledPoint). IsPlace f contracts k w i z) (sym (point_is i l)) (place_by i l (contract_of (key i)) refl)

  no_step : f.stepped ≡ [] → (i : ℕ) → i < length keys → contract_of (key i) ≡ false
  no_step none i l = (points_are_of_segments f k (point_of frames segments (key i)) (its_point i l)).contract none

  -- the lists, as points of a program
  tables_size : length (unrolled_of u).points ≡ length keys
  tables_size = (points_are_at u).0 ∙ made.placed.count

  table_is : (i : ℕ) → i < length keys → tables.point_at (unrolled_of u) i ≡ views.point_by u (own i) (code i) (led i)
  table_is i l = (points_are_at u).1 i (own i) (own_at i l)

  -- a point at which a list is done is one of a row
  row_only : (i : ℕ) → i < length keys → (own i).deed ≡ deeds.Row → contract_of (key i) ≡ false
  row_only i l e =
      sym (deed_step (contract_of (key i)) (is_arrival heads (key i)) (place_in stepped (address_of (key i)))) ∙ ap is_contract (sym (at i l).deed ∙ e)

  abbrev does : ℕ → Deed → walk.Action
  does i d = action_of u d (code i).list (stack_at frames (own i).stack)

  listed_by : (i : ℕ) → i < length keys → (d : Deed) → (own i).deed ≡ d → IsListOf p bank contracts (file_row p (code i).at) (code i).at (does i d)
  listed_by i l deeds.Row e =
      code_is_listed p bank contracts (file_row p (code i).at) (code i).at (code i).list (row_code i l (row_only i l e)).row.list
  listed_by i l deeds.Arrival e = no_list (file_row p (code i).at)
    where
      no_list : (o : Option Row) → IsListOf p bank contracts o (code i).at walk.Arrives
      no_list None = tt
      no_list (Some row) = tt
  listed_by i l (deeds.Contract n) e = no_list (file_row p (code i).at)
    where
      no_list : (o : Option Row) → IsListOf p bank contracts o (code i).at (does i (deeds.Contract n))
      no_list None = tt
      no_list (Some row) = tt

  pub lists : HasListsOf p bank contracts w
  lists i low =
      let inside : i < length keys = (let s = size in omega arith) in
      subst (λ (z : UnrolledPoint). IsListOf p bank contracts (file_row p z.point.at) z.point.at z.does) (sym (point_is i inside))
      (listed_by i inside (own i).deed refl)

  lean_by : (i n : ℕ) → i < length keys → n < 4 → (d : Deed) → (own i).deed ≡ d → may_assign_in n (does i d) ≡ true → IsLiveWith p contracts n (code i).at
  lean_by i n l low deeds.Row e h =
      code_is_lean p bank contracts (file_row p (code i).at) (code i).at n (code i).list (row_code i l (row_only i l e)).row.list low h
  lean_by i n l low deeds.Arrival e h = absurd (cc)
  lean_by i n l low (deeds.Contract m) e h = absurd (cc)

  pub lean : AssignsLiveOnly p contracts w
  lean i n l low h =
      let inside : i < length keys = (let s = size in omega arith) in
      let e = point_is i inside in
      subst (λ (z : UnrolledPoint). IsLiveWith p contracts n z.point.at) (sym e)
      (lean_by i n inside low (own i).deed refl (ap (λ (z : UnrolledPoint). may_assign_in n z.does) (sym e) ∙ h))

  pub words : (i : ℕ) → i < length (unrolled_of u).points → (tables.point_at (unrolled_of u) i).point.at < 2 ^ 32
  words i l =
      let inside : i < length keys = (let s = tables_size in omega arith) in
      let e : (tables.point_at (unrolled_of u) i).point.at ≡ address_of (key i) =
      ap (λ (z : tables.UnrolledPoint). z.point.at) (table_is i inside) ∙ code_at i inside in
      omega arith

  all_same : (i j : ℕ) → i < length keys → j < length keys → point_of frames segments (key i) ≡ point_of frames segments (key j) → key i ≡ key j
  all_same i j a b e =
      same_key f k frames numbers segments made.table made.segs (key i) (key j) (rooted_at i a) (rooted_at j b) (made.are.fits i a) (made.are.fits j b) e

  abbrev all : List spec.Point
  all = map (λ (q : UnrolledPoint). q.point) w.points

  map_size : (xs : List UnrolledPoint) → length (map (λ (q : UnrolledPoint). q.point) xs) ≡ length xs
  map_size [] = refl
  map_size (x ∷ xs) = ap suc (map_size xs)

  all_at : (i : ℕ) (d : spec.Point) → i < length keys → get_or all i d ≡ point_of frames segments (key i)
  all_at i d l = get_or-map (λ (q : UnrolledPoint). q.point) w.points i no_point d (let s = size in omega arith) ∙ points_are i l

  pub are_points : ArePoints f k all
  are_points = record {
    all = λ point is.
        let q = made.are.all point is in
        (q.0, (let s = size in let m = map_size w.points in let l = q.1 in omega arith), all_at q.0 point q.1 ∙ q.2);
    only = λ point (i, l, e).
        let inside : i < length keys = (let s = size in let m = map_size w.points in omega arith) in
        subst (λ (z : spec.Point). IsPoint f k z) (sym (all_at i point inside) ∙ e) (made.are.only i inside);
    once = λ i j l h e.
        let s = size in
        let m = map_size w.points in
        let a : i < length keys = omega arith in
        let b : j < length keys = omega arith in
        let first = point_of frames segments (key i) in
        let x : slice_get all i ≡ Some (get_or all i first) = slice_get-get_or all i first (omega arith) in
        let y : slice_get all j ≡ Some (get_or all j first) = slice_get-get_or all j first h in
        let z : get_or all i first ≡ get_or all j first = some_same (get_or all i first) (get_or all j first) (sym x ∙ e ∙ y) in
        let same = all_same i j a b (sym (all_at i first a) ∙ z ∙ all_at j first b) in
        let up = made.are.rise i j l b in absurd (omega arith);
  }
    where
      some_same : (a b : spec.Point) → Some a ≡ Some b → a ≡ b
      some_same a b e = cc

  -- the entry's point is the first
  entry_key : (i : ℕ) × (i < length keys) × (point_of frames segments (key i) ≡ first_of p.entry AtEntry)
  entry_key = made.are.all (first_of p.entry AtEntry) spec.first

  pub first : (point_at w 0).point ≡ first_of p.entry AtEntry
  first =
      let q = entry_key in
      let some : 0 < length keys = (let l = q.1 in omega arith) in
      let x = key 0 in
      let y = key q.0 in
      let anchor : anchor_by frames segments (root_of y) ≡ AtEntry = ap (λ (z : spec.Point). z.anchor) q.2 in
      let root : root_of y ≡ 0 =
      test_zero (root_of y) (sym (entry_is f k frames numbers segments made.table made.segs (root_of y) (rooted_at q.0 q.1)) ∙ ap is_entry anchor) in
      let back = not_behind x y (least_key keys made.are.rise q.0 q.1) root (ap (λ (z : spec.Point). z.turns) q.2) in
      let own_anchor : anchor_by frames segments (root_of x) ≡ AtEntry =
      its_anchor p.entry (anchor_by frames segments (root_of x))
      (entry_is f k frames numbers segments made.table made.segs (root_of x) (rooted_at 0 some) ∙ zero_test (root_of x) back.0) in
      let is = points_are_of_segments f k (point_of frames segments x) (made.are.only 0 some) in
      points_are 0 some ∙ elim (is.up back.1) as (λ _. point_of frames segments x ≡ first_of p.entry AtEntry) [
        | inl far ↦ absurd (let l = back.2 in let at : address_of y ≡ p.entry = ap (λ (z : spec.Point). z.at) q.2 in
            let begin : (first_of p.entry (anchor_by frames segments (root_of x))).at ≡ p.entry = ap (λ (z : Anchor). (first_of p.entry z).at) own_anchor in
            omega arith)
        | inr e ↦ e ∙ ap (first_of p.entry) own_anchor
      ]

  -- the roots
  abbrev root : ℕ → Root
  root n = get_or u.roots.items n no_root

  root_is : (n : ℕ) → n < length segments → IsRootAt segments keys u.asserts.items u.entry n (root n)
  root_is n l = made.roots.each n no_root l

  assumes_by : (o : Option listed.Root) (bounds : ℕ × ℕ) → IsGroupOf u.asserts.items o bounds →
      (shown.root_of u (record { place = 0; head = o; asserts = bounds })).assumes ≡ assumed_at f (anchor_of (stacks_of frames) o)
  assumes_by None bounds h = assumed_none u f made.cuts made.invariants made.noted made.index bounds h
  assumes_by (Some r) bounds h =
      assumed_are u f made.cuts made.invariants made.noted made.index (stack_at frames r.stack) r.at bounds h

  of_root : (n : ℕ) → n < length segments → IsRootOf f w (shown.root_of u (root n)) (anchor_by frames segments n)
  of_root n l =
      let x = root_is n l in
      record {
        place = (let s = size in let i = x.within in omega arith);
        point =
            points_are (root n).place x.within ∙ ap (point_of frames segments) x.place
            ∙ first_point f k frames numbers segments keys u.entry made.table made.few made.segs made.are made.of.begins n l
            ∙ ap (λ (z : ℕ). first_of z (anchor_by frames segments n)) (sym made.of.begins);
        assumes = assumes_by (head_of (get_or segments n 0)) (root n).asserts x.group;
      }

  root_count : length w.roots ≡ length segments
  root_count = length-map u.roots.items (shown.root_of u) ∙ made.roots.count

  pub roots_are : (x : walk.Root) → Contains w.roots x → (anchor : Anchor) × IsAnchor f k anchor × IsRootOf f w x anchor
  roots_are x h =
      let q = of_map (shown.root_of u) u.roots.items x h in
      let n = q.1.0 in
      let l : n < length segments = (let c = made.roots.count in let i = q.1.1 in omega arith) in
      let e : root n ≡ q.0 = get_or_default u.roots.items n no_root q.0 q.1.1 ∙ q.1.2 in (
        anchor_by frames segments n,
        made.segs.only n l,
        subst (λ (z : walk.Root). IsRootOf f w z (anchor_by frames segments n)) (ap (shown.root_of u) e ∙
            q.2) (of_root n l),
      )

  pub rooted : (anchor : Anchor) → IsAnchor f k anchor → (x : walk.Root) × Contains w.roots x × IsRootOf f w x anchor
  rooted anchor is =
      let q = made.segs.all anchor is in
      let inside : q.0 < length u.roots.items = (let c = made.roots.count in let l = q.1 in omega arith) in (
        shown.root_of u (root q.0),
        in_map (shown.root_of u) u.roots.items (root q.0) (q.0, inside, get_or_default u.roots.items q.0 (root q.0) no_root inside),
        subst (λ (z : Anchor). IsRootOf f w (shown.root_of u (root q.0)) z) q.2 (of_root q.0 q.1),
      )

  place_root : (n : ℕ) → n < length segments → root_of (key (root n).place) ≡ n
  place_root n l =
      ap root_of (root_is n l).place
      ∙ first_root f k frames numbers segments keys u.entry made.table made.few made.segs made.are made.of.begins n l

  pub roots_once : (i j : ℕ) → i < j → j < length w.roots → (root_at w i).place ≢ (root_at w j).place
  roots_once i j l h e =
      let c = root_count in
      let d = made.roots.count in
      let a : i < length segments = omega arith in
      let b : j < length segments = omega arith in
      let x : (root_at w i).place ≡ (root i).place =
      ap (λ (z : walk.Root). z.place) (get_or-map (shown.root_of u) u.roots.items i no_root walk.no_root (omega arith)) in
      let y : (root_at w j).place ≡ (root j).place =
      ap (λ (z : walk.Root). z.place) (get_or-map (shown.root_of u) u.roots.items j no_root walk.no_root (omega arith)) in
      let same : i ≡ j = sym (place_root i a) ∙ ap (λ (z : ℕ). root_of (key z)) (sym x ∙ e ∙ y) ∙ place_root j b in
      absurd (omega arith)

  -- each root begins at a point of its own, the entry's first, and no other where there is no head
  pub own_roots : BeginAtOwn u
  own_roots n l =
      let inside : n < length segments = (let c = made.roots.count in omega arith) in
      let x = root_is n inside in
      (made.placed.each (root n).place points.no_point x.within).root ∙ place_root n inside

  pub entry_first : IsEntryFirst u
  entry_first =
      let some = entry_root f k frames numbers segments made.table made.segs in
      ((let c = made.roots.count in let l = some.0 in omega arith), (root_is 0 some.0).head ∙ ap head_of some.1)

  none_by : has_heads f ≡ false → (o : Option listed.Root) → IsAnchor f k (anchor_of (stacks_of frames) o) → o ≡ None
  none_by none None is = refl
  none_by none (Some r) is =
      absurd (let z : true ≡ false =
      sym (some_heads f r.at (head_anchor f k (first_of p.entry (anchor_of (stacks_of frames) (Some r))) is)) ∙ none in cc)

  pub no_head_roots : has_heads f ≡ false → (x : Root) → Contains u.roots.items x → x.head ≡ None
  no_head_roots none x (n, l, e) =
      let inside : n < length segments = (let c = made.roots.count in omega arith) in
      let same : root n ≡ x = get_or_default u.roots.items n no_root x l ∙ e in
      ap (λ (z : Root). z.head) (sym same) ∙ (root_is n inside).head ∙ none_by none (head_of (get_or segments n 0)) (made.segs.only n inside)

  -- the form of the value
  pub formed : ((i : ℕ) (d : ℕ × ℕ) → i < length u.asserts.items → (get_or u.asserts.items i d).1 < length u.notes.now.asserts.items) → IsFormed u
  formed lines = record {
    codes = λ i d l.
        let q = made.placed.each i d (let c = made.placed.count in omega arith) in
        let low = coded_low (deed_at heads stepped (key i)) (address_of (key i)) (get_or u.points.items i d).code q.code in
        let n = code_count in omega arith;
    edges = λ i d l.
        let q = made.placed.each i d (let c = made.placed.count in omega arith) in
        let l = q.ordered in let s = begins_same u (drop (i + 1) u.points.items) in omega arith;
    within = λ i d l. (let q = made.placed.each i d (let c = made.placed.count in omega arith) in let l = q.ordered in let m = q.within in omega arith);
    asserts = λ i d l. code_bounds i d l;
    lines = lines;
  }
    where
      coded_low : (d : Deed) (at code : ℕ) → IsCoded d rows steps at code → code < length rows + length steps
      coded_low deeds.Row at code h = let l = h.0 in omega arith
      coded_low deeds.Arrival at code h = let l = h.0 in omega arith
      coded_low (deeds.Contract n) at code h = let e = h.1 in let l = h.2 in omega arith

      code_count : length u.codes.items ≡ length rows + length steps
      code_count =
          let c = made.codes in
          let a = ap length c.is in
          let b = length-append c.of_rows (step_codes u.stepped.now stepped steps) in
          let d = length-map steps (λ (a : ℕ). step_code (stepped_at u (place_in stepped a))) in
          let e = c.are.count in omega arith

      code_bounds : (i : ℕ) (d : Code) → i < length u.codes.items → AreBounds u (get_or u.codes.items i d).asserts
      code_bounds i d l =
          let c = made.codes in
          let extra = step_codes u.stepped.now stepped steps in
          let by : ℕ → Code = λ a. step_code (stepped_at u (place_in stepped a)) in
          let n = code_count in
          let m = c.are.count in
          subst (λ (xs : List Code). AreBounds u (get_or xs i d).asserts) (sym c.is)
          (elim (cases_lt i (length rows)) as (λ _. AreBounds u (get_or (c.of_rows ++ extra) i d).asserts) [
            | inl low ↦
                let q = c.are.each i d low in
                subst (λ (z : Code). AreBounds u z.asserts) (sym (or_left c.of_rows extra i d (omega arith))) (q.group.ordered, q.group.within)
            | inr high ↦
                let j : ℕ = i - length rows in
                let z : get_or (c.of_rows ++ extra) i d ≡ by (get_or steps j 0) =
                or_right c.of_rows extra i j d (omega arith) ∙ get_or-map by steps j 0 d (omega arith) in
                subst (λ (z : Code). AreBounds u z.asserts) (sym z) ((omega arith), (omega arith))
          ])

  -- each contract step is of a contract, on a stack that is not empty
  pub steps_formed : AreStepsFormed u
  steps_formed = record {
    contracts = λ q n (i, l, e) is.
        let inside : i < length keys = (let c = made.placed.count in omega arith) in
        let x = made.placed.each i q inside in
        let deed : deed_at heads stepped (key i) ≡ deeds.Contract n = sym x.deed ∙ ap (λ (z : Point). z.deed) e ∙ is in
        let parts = step_deed (contract_of (key i)) (is_arrival heads (key i)) (number i) n deed in
        let its = its_contract i inside parts.0 in
        let some = (of_contract f k (point_of frames segments (key i)) (its_point i inside) parts.0).1 in
        let stack : q.stack ≡ stack_of (key i) = ap (λ (z : Point). z.stack) (sym e) ∙ x.stack in (
          (let low = its.2 in let same = parts.1 in omega arith),
          (let low = not_empty (stack_of (key i)) some in omega arith),
        );
  }
    where
      not_empty : (n : ℕ) → 0 < length (stack_at frames n) → 1 ≤ n
      not_empty zero h = absurd (let e = ap length (stack_none frames) in omega arith)
      not_empty (suc n) h = omega arith

  bounds_of : (o : Option listed.Root) (bounds : ℕ × ℕ) → IsGroupOf u.asserts.items o bounds → AreBounds u bounds
  bounds_of None bounds e = subst (λ (z : ℕ × ℕ). AreBounds u z) (sym e) ((omega arith), (omega arith))
  bounds_of (Some r) bounds h = (h.ordered, h.within)

  aim_formed : (a : Aim) → IsAimFor heads u.asserts.items a → IsAimFormed u a
  aim_formed (OnTo j) h = tt
  aim_formed (IntoHead at bounds) h = (h.1.ordered, h.1.within)
  aim_formed Outward h = tt
  aim_formed OverLast h = tt

  pub roots_formed : AreRootsFormed u
  roots_formed = record {
    points = λ q (i, l, e).
        let inside : i < length keys = (let c = made.placed.count in omega arith) in
        let x = made.placed.each i q inside in
        let r = rooted_at i inside in
        let c = made.roots.count in
        subst (λ (z : Point). z.root < length u.roots.items) e (let z = x.root in omega arith);
    places = λ x (n, l, e).
        let inside : n < length segments = (let c = made.roots.count in omega arith) in
        let r = made.roots.each n x inside in
        subst (λ (z : Root). (z.place < length u.points.items) × AreBounds u z.asserts) e
        ((let c = made.placed.count in let i = r.within in omega arith), bounds_of (head_of (get_or segments n 0)) (get_or u.roots.items n x).asserts r.group);
    edges = λ e h. aim_formed e.aim (made.placed.aims e h);
  }

  -- without heads it is that of a program
  no_aim : heads ≡ [] → (a : Aim) → IsAimFor heads u.asserts.items a → is_headless a
  no_aim e (OnTo j) h = tt
  no_aim e (IntoHead at bounds) h = absurd (let z : is_among [] at ≡ true = ap (λ (l : List ℕ). is_among l at) (sym e) ∙ h.0 in cc)
  no_aim e Outward h = tt
  no_aim e OverLast h = tt

  pub no_aims : heads ≡ [] → (e : Edge) → Contains u.edges.items e → is_headless e.aim
  no_aims none e h = no_aim none e.aim (made.placed.aims e h)

  no_arrival : heads ≡ [] → (x : ℕ) → is_arrival heads x ≡ false
  no_arrival e x = ap (λ (l : List ℕ). (root_of x == 0) && is_among l (address_of x)) e ∙ and_false (root_of x == 0)
    where
      and_false : (b : Bool) → (b && false) ≡ false
      and_false true = refl
      and_false false = refl

  pub no_arrivals : heads ≡ [] → f.stepped ≡ [] → (q : Point) → Contains u.points.items q → q.deed ≡ deeds.Row
  no_arrivals e none q (i, l, same) =
      let inside : i < length keys = (let c = made.placed.count in omega arith) in
      let x = made.placed.each i q inside in
      subst (λ (z : Point). z.deed ≡ deeds.Row) same
      (x.deed ∙ ap (λ (b : Bool). if b then deeds.Contract (number i) else deed_by (is_arrival heads (key i))) (no_step none i inside)
      ∙ ap deed_by (no_arrival e (key i)))

  -- the entry's root is the only one then
  only_entry : heads ≡ [] → (n : ℕ) → n < length segments → is_entry (anchor_by frames segments n) ≡ true
  only_entry none n l = by (anchor_by frames segments n) (made.segs.only n l)
    where
      by : (anchor : Anchor) → IsAnchor f k anchor → is_entry anchor ≡ true
      by AtEntry is = refl
      by (AtHead stack a) is =
          absurd (let z : false ≡ true = sym (made.of.cuts.heads a ∙ ap (λ (l : List ℕ). is_among l a) none)
          ∙ head_anchor f k (first_of p.entry (AtHead stack a)) is in cc)

  one_segment : heads ≡ [] → length segments ≡ 1
  one_segment none = elim (cases_lt 1 (length segments)) as (λ _. length segments ≡ 1) [
    | inl l ↦ absurd (let e : (1 == 0) ≡ true = sym (entry_is f k frames numbers segments made.table made.segs 1 l) ∙ only_entry none 1 l in cc)
    | inr le ↦ (let s = (entry_root f k frames numbers segments made.table made.segs).0 in omega arith)
  ]

  one_of : (xs : List Root) → length xs ≡ 1 → xs ≡ get_or xs 0 no_root ∷ []
  one_of [] e = absurd (omega arith)
  one_of (x ∷ []) e = refl
  one_of (x ∷ y ∷ xs) e = absurd (omega arith)

  first_place : (n : ℕ) → n < length keys → key n ≡ key 0 → n ≡ 0
  first_place zero l e = refl
  first_place (suc n) l e = absurd (let up = made.are.rise 0 (suc n) (omega arith) l in omega arith)

  pub one_root : heads ≡ [] → u.roots.items ≡ no_root ∷ []
  one_root none =
      let some = entry_root f k frames numbers segments made.table made.segs in
      let x = root_is 0 some.0 in
      let o : head_of (get_or segments 0 0) ≡ None = ap head_of some.1 in
      let rooted = of_root 0 some.0 in
      let entry : anchor_by frames segments 0 ≡ AtEntry = ap (anchor_of (stacks_of frames)) o in
      let start : 0 < length keys = (let l = x.within in omega arith) in
      let same : key (root 0).place ≡ key 0 =
      all_same (root 0).place 0 x.within start
      (sym (points_are (root 0).place x.within) ∙ rooted.point ∙ ap (first_of p.entry) entry ∙ sym first ∙ points_are 0 start) in
      one_of u.roots.items (made.roots.count ∙ one_segment none)
      ∙ ap (λ (z : ℕ). let r : Root = record { place = z; head = (root 0).head; asserts = (root 0).asserts } in r ∷ []) (first_place (root 0).place
      x.within same)
      ∙ ap (λ (z : Option listed.Root). let r : Root = record { place = 0; head = z; asserts = (root 0).asserts } in r ∷ []) (x.head ∙ o)
      ∙ ap (λ (z : ℕ × ℕ). let r : Root = record { place = 0; head = None; asserts = z } in r ∷ [])
      (subst (λ (z : Option listed.Root). IsGroupOf u.asserts.items z (root 0).asserts) o x.group)

  literal_row : (o : Option Row) (at a : ℕ) → literal_by p o at ≡ Some a →
      (row : Row) × (o ≡ Some row) × (row.literal at ≡ Some a) × (all_kept p a ≡ true)
  literal_row None at a h = absurd (cc)
  literal_row (Some row) at a h = let l = of_kept p (row.literal at) a h in (row, refl, l.0, l.1)

  literal_here : (at a i : ℕ) → i < length keys → contract_of (key i) ≡ false → address_of (key i) ≡ at → literal_at p at ≡ Some a → IsLiteralOf f k a
  literal_here at a i w plain e h =
      let l = literal_row (file_row p at) at a h in
      record {
        point = point_of frames segments (key i);
        is_point = made.are.only i w;
        executes = plain;
        row = l.0;
        is_row = ap (file_row p) e ∙ l.1;
        loads = ap l.0.literal e ∙ l.2;
        is_kept = l.3;
      }

  row_key : (x : ℕ) → is_of false x ≡ true → contract_of x ≡ false
  row_key x h = by (contract_of x) h
    where
      by : (b : Bool) → not b ≡ true → b ≡ false
      by true h = absurd (cc)
      by false h = refl

  -- the literals at the addresses of points of rows are those of the points
  pub literals_are : (found : List ℕ) → ((x : ℕ) → Contains (map address_of (filter (is_of false) keys)) x ↔ Contains rows x) →
      AreLiterals p rows (length rows) found → (a : ℕ) → Contains found a ↔ IsLiteralOf f k a
  literals_are found same literals a = (
    (λ h.
        let f = (literals a).0 h in
        let spot = get_or rows f.0 0 in
        let q = of_map address_of (filter (is_of false) keys) spot ((same spot).1 (f.0, f.1, get_or_default rows f.0 spot 0 f.1)) in
        let x = of_filter (is_of false) keys q.0 q.1 in
        let at : get_or keys x.0.0 0 ≡ q.0 = get_or_default keys x.0.0 0 q.0 x.0.1 ∙ x.0.2 in
        literal_here spot a x.0.0 x.0.1 (ap contract_of at ∙ row_key q.0 x.1) (ap address_of at ∙ q.2) f.2),
    (λ l.
        let q = made.are.all l.point l.is_point in
        let plain : contract_of (key q.0) ≡ false = ap (λ (z : spec.Point). z.contract) q.2 ∙ l.executes in
        let x = coded_row q.0 q.1 plain in
        let e : get_or rows (own q.0).code 0 ≡ l.point.at = x.1 ∙ ap (λ (z : spec.Point). z.at) q.2 in
        (literals a).1 (
          (own q.0).code,
          x.0,
          ap (λ (z : ℕ). literal_at p z) e ∙ ap (λ (o : Option Row). literal_by p o l.point.at) l.is_row ∙ is_kept_one p (l.row.literal l.point.at) a l.loads
              l.is_kept,
        )),
  )
