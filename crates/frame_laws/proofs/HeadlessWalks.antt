-- The walk and the sweep of an unrolled program are those of its unrolled frame.
use Rattle.std.proofs.Common.{◌≡◌, ℕ, zero, suc, refl, ap, ◌∙◌, arith, List, [], ◌∷◌, length, Option, Some, None, Bool, true, false}
use Rattle.std.proofs.Math.Path.{fun_ext}
use Rattle.std.specs.Prelude.{◌==◌, ◌&&◌, ◌||◌, if◌then◌else◌, map, slice_index_or}
use Rattle.std.specs.List.{list_any}
use Rattle.std.proofs.lemmas.Bool.Decides.{nat_tests}
use Rattle.std.proofs.lemmas.List.{length-map}
use Rattle.word_spec.specs.State.{State}
use Rattle.machine_spec.specs.BilMeaning.{Ending, Ends, RaisesException, OutOfTurns, Wrong, execute}
use Rattle.machine_spec.specs.Endings.{EnsureFails}
use Rattle.bilv_spec.specs.Run.{false_line}
use Rattle.bilv_spec.specs.Questions as questions
use Rattle.walk_spec.specs.Unrolled as tables
use Rattle.walk_spec.specs.Unrolled.{is_in}
use Rattle.walk_spec.specs.Sweep as sweeps
use Rattle.frame_spec.specs.Frames.{Content, OfStep, content_of}
use Rattle.frame_spec.specs.FramePoints.{AtEntry}
use Rattle.frame_spec.specs.FrameQuestions.{Reading}
use Rattle.frame_spec.specs.FrameWalk as walks
use Rattle.frame_spec.specs.FrameWalk.{Aim, ToEvent, PointExit, UnrolledPoint, UnrolledProgram, no_point, point_at, Leaving, GoesOn, RaisesOne, IsStuck, left_by, stored_by, next_state, gives_of, Situation, is_taken, aim_of, first_aim, Walk, WalkIsAt, out_by, walk_to, situation_at, walk_from, walk_on, root_content, walk_of, Held, held_if, hand, sweep_on, is_begun, held, swept}
use Rattle.frame_laws.specs.HeadlessLaws.{as_point, flat_reading, as_content, as_aim, as_exit, as_action, as_place, entry_root, as_unrolled, as_walk, as_held, HeadlessWalks, HeadlessSweeps}

-- how a point is left
abbrev pub as_leaving : tables.Leaving → Leaving
as_leaving (tables.GoesOn jumped to c) = GoesOn jumped to (as_content c)
as_leaving (tables.RaisesOne n) = RaisesOne n
as_leaving tables.IsStuck = IsStuck

goes_on_same : (q : tables.UnrolledPoint) (o : Option ℕ) (c : tables.Carried) →
    walks.goes_on (as_place q) o (as_content c) ≡ as_leaving (tables.goes_on q o c)
goes_on_same q None c = refl
goes_on_same q (Some a) c = refl

ending_same : (q : tables.UnrolledPoint) (e : Ending) → walks.leaving_by (as_place q) e ≡ as_leaving (tables.leaving_by q e)
ending_same q (Ends p) = goes_on_same q p.jump (record { regs = p.env.regs; flags = p.env.flags; mem = p.env.mem })
ending_same q (RaisesException n p) = refl
ending_same q (OutOfTurns p) = refl
ending_same q Wrong = refl

module _ (u : tables.UnrolledProgram) where
  abbrev v : UnrolledProgram
  v = as_unrolled u

  pub left_same : (q : tables.UnrolledPoint) (choice : ℕ) (g : Content) (c : tables.Carried) (a : tables.Action) →
      left_by v (as_place q) choice g (as_content c) (as_action a) ≡ as_leaving (tables.left_by q choice c a)
  left_same q choice g c (tables.Executes list) =
      ending_same q (execute list choice (tables.begins q c))

  pub stored_same : (q : tables.UnrolledPoint) (choice : ℕ) (c : tables.Carried) (a : tables.Action) →
      stored_by v (as_place q) choice (as_content c) (as_action a) ≡ tables.stored_by q choice c a
  stored_same q choice c (tables.Executes list) = refl

  no_gives : (a : tables.Action) → gives_of (as_action a) ≡ []
  no_gives (tables.Executes list) = refl

  point_by : (xs : List tables.UnrolledPoint) (i : ℕ) → slice_index_or (map as_place xs) i no_point ≡ as_place (slice_index_or xs i tables.no_point)
  point_by [] i = refl
  point_by (q ∷ xs) zero = refl
  point_by (q ∷ xs) (suc i) = point_by xs i

  pub place_same : (i : ℕ) → point_at v i ≡ as_place (tables.point_at u i)
  place_same i = point_by u.points i

  -- which exit is taken
  module _ (entry now next : State) (stored : List ℕ) (l : tables.Leaving) where
    abbrev sit : Situation
    sit = record { entry = entry; now = now; next = next; stored = stored; leaving = as_leaving l; gives = [] }

    abbrev writes : Bool
    writes = list_any (is_in u.kept) stored

    raised_same : (l : tables.Leaving) → walks.is_raised (as_leaving l) ≡ tables.is_raised l
    raised_same (tables.GoesOn jumped to c) = refl
    raised_same (tables.RaisesOne n) = refl
    raised_same tables.IsStuck = refl

    unaligned_same : (l : tables.Leaving) → walks.is_unaligned u.narrow (as_leaving l) ≡ tables.is_unaligned u.narrow l
    unaligned_same (tables.GoesOn jumped to c) = refl
    unaligned_same (tables.RaisesOne n) = refl
    unaligned_same tables.IsStuck = refl

    address_same : (at : Option ℕ) → walks.edge_address v entry at ≡ tables.edge_address u entry at
    address_same None = refl
    address_same (Some a) = refl

    along_same : (falls jumps : Bool) (at : Option ℕ) (l : tables.Leaving) →
        walks.goes_along v entry falls jumps at (as_leaving l) ≡ tables.goes_along u entry falls jumps at l
    along_same falls jumps at (tables.GoesOn jumped to c) = ap (λ z. (if jumped then jumps else falls) && (to == z)) (address_same at)
    along_same falls jumps at (tables.RaisesOne n) = refl
    along_same falls jumps at tables.IsStuck = refl

    taken_same : (x : tables.PointExit) → is_taken v sit (as_exit x) ≡ tables.is_taken u entry now writes l x
    taken_same (tables.FalseAssert line e) = refl
    taken_same (tables.Always e) = refl
    taken_same tables.Raising = raised_same l
    taken_same tables.WritingKept = refl
    taken_same tables.Unaligned = unaligned_same l
    taken_same (tables.Along falls jumps to aim) = along_same falls jumps to l

    event_same : (l : tables.Leaving) → tables.is_raised l ≡ true → walks.raised_event (as_leaving l) ≡ OfStep (tables.raised_event l)
    event_same (tables.GoesOn jumped to c) h = absurd (cc)
    event_same (tables.RaisesOne n) h = refl
    event_same tables.IsStuck h = absurd (cc)

    aim_same : (x : tables.PointExit) → tables.is_taken u entry now writes l x ≡ true → aim_of (as_leaving l) (as_exit x) ≡ as_aim (tables.aim_of l x)
    aim_same (tables.FalseAssert line e) h = refl
    aim_same (tables.Always e) h = refl
    aim_same tables.Raising h = ap ToEvent (event_same l h)
    aim_same tables.WritingKept h = refl
    aim_same tables.Unaligned h = refl
    aim_same (tables.Along falls jumps to aim) h = refl

    first_by : (b : Bool) (x y : Aim) (s t : tables.Aim) → (b ≡ true → x ≡ as_aim s) → y ≡ as_aim t → (if b then x else y) ≡ as_aim (if b then s else t)
    first_by true x y s t h g = h refl
    first_by false x y s t h g = g

    first_same : (xs : List tables.PointExit) → first_aim v sit (map as_exit xs) ≡ as_aim (tables.first_aim u entry now writes l xs)
    first_same [] = refl
    first_same (x ∷ xs) =
        ap (λ (z : Bool). if z then aim_of (as_leaving l) (as_exit x) else first_aim v sit (map as_exit xs)) (taken_same x)
        ∙ first_by (tables.is_taken u entry now writes l x) (aim_of (as_leaving l) (as_exit x)) (first_aim v sit (map as_exit xs)) (tables.aim_of l x)
        (tables.first_aim u entry now writes l xs) (aim_same x) (first_same xs)

  -- where it leads
  out_same : (o : Option ℕ) → out_by o (λ n. OfStep (EnsureFails n)) false ≡ as_walk (tables.out_by o)
  out_same None = refl
  out_same (Some line) = refl

  walk_to_same : (entry next : State) (aim : tables.Aim) → walk_to v entry next (as_aim aim) ≡ as_walk (tables.walk_to u entry next aim)
  walk_to_same entry next (tables.OnTo i) = refl
  walk_to_same entry next tables.Outward = out_same (false_line u.endian u.ensures next entry)
  walk_to_same entry next tables.OverLast = refl
  walk_to_same entry next (tables.ToEvent e) = refl

  abbrev next_of : tables.Leaving → tables.Carried → State
  next_of l c = tables.state_at (tables.carried_on l c) (tables.next_address l)

  next_same : (l : tables.Leaving) (c : tables.Carried) → next_state (as_leaving l) (as_content c) ≡ next_of l c
  next_same (tables.GoesOn jumped to d) c = refl
  next_same (tables.RaisesOne n) c = refl
  next_same tables.IsStuck c = refl

  -- the walk after a point
  from_same : (entry : State) (q : tables.UnrolledPoint) (choice : ℕ) (g : Content) (c : tables.Carried) →
      walk_from v entry (as_place q) choice g (as_content c) ≡ as_walk (tables.walk_from u entry q choice c)
  from_same entry q choice g c =
      let l : tables.Leaving = tables.leaving q choice c in
      let now : State = tables.state_at c q.point.at in
      let exits : List PointExit = map as_exit q.exits in
      let stored : List ℕ = tables.stored_at q choice c in
      ap (λ z. walk_to v entry (next_state z (as_content c)) (first_aim v (record {
        entry = entry;
        now = now;
        next = next_state z (as_content c);
        stored = stored_by v (as_place q) choice (as_content c) (as_action q.does);
        leaving = z;
        gives = gives_of (as_action q.does);
      }) exits)) (left_same q choice g c q.does)
      ∙ ap (λ z. walk_to v entry (next_state (as_leaving l) (as_content c)) (first_aim v (record {
        entry = entry;
        now = now;
        next = next_state (as_leaving l) (as_content c);
        stored = z;
        leaving = as_leaving l;
        gives = gives_of (as_action q.does);
      }) exits)) (stored_same q choice c q.does)
      ∙ ap (λ z. walk_to v entry (next_state (as_leaving l) (as_content c)) (first_aim v (record {
        entry = entry;
        now = now;
        next = next_state (as_leaving l) (as_content c);
        stored = stored;
        leaving = as_leaving l;
        gives = z;
      }) exits)) (no_gives q.does)
      ∙ ap (λ z. walk_to v entry z (first_aim v (sit entry now z stored l) exits)) (next_same l c)
      ∙ ap (walk_to v entry (next_of l c)) (first_same entry now (next_of l c) stored l q.exits)
      ∙ walk_to_same entry (next_of l c) (tables.first_aim u entry now (list_any (is_in u.kept) stored) l q.exits)

  module _ (r : Reading) where
    abbrev flat : questions.Reading
    flat = flat_reading r

    pub on_same : (w : tables.Walk) → walk_on v r (as_walk w) ≡ as_walk (tables.walk_on u flat w)
    on_same (tables.WalkIsAt i c) =
        ap (λ z. walk_from v r.state z (r.choice z.point) (r.given z.point) (as_content c)) (place_same i)
        ∙ from_same r.state (tables.point_at u i) (flat.choice (tables.point_at u i).point) (r.given (as_point (tables.point_at u i).point)) c
    on_same tables.WalkExits = refl
    on_same (tables.WalkFails e) = refl
    on_same tables.WalkTurns = refl

    anchor_same : (i : ℕ) → (point_at v i).point.anchor ≡ AtEntry
    anchor_same i = ap (λ z. z.point.anchor) (place_same i)

    walk_same : (n : ℕ) → walk_of v r entry_root n ≡ as_walk (tables.walk u flat n)
    unfolding walk_of tables.walk
    walk_same zero = ap (λ z. WalkIsAt 0 (root_content r z)) (anchor_same 0)
    walk_same (suc n) = ap (walk_on v r) (walk_same n) ∙ on_same (tables.walk u flat n)

    -- the sweep
    if_same : (b : Bool) (g h : sweeps.Held) → held_if b (as_held g) (as_held h) ≡ as_held (sweeps.held_if b g h)
    if_same true g h = refl
    if_same false g h = refl

    hand_same : (w : tables.Walk) (h : sweeps.Held) → hand v r AtEntry (as_walk w) (as_held h) ≡ as_held (sweeps.hand w h)
    hand_same (tables.WalkIsAt j c) h = refl
    hand_same tables.WalkExits h = refl
    hand_same (tables.WalkFails e) h = refl
    hand_same tables.WalkTurns h = refl

    on_held : (t : ℕ) (h : sweeps.Held) → sweep_on v r t (as_held h) ≡ as_held (sweeps.sweep_on u flat t h)
    on_held t h =
        ap (λ z. held_if (h.met t) (hand v r z (walk_on v r (WalkIsAt t (as_content (h.carried t)))) (as_held h)) (as_held h)) (anchor_same t)
        ∙ ap (λ z. held_if (h.met t) (hand v r AtEntry z (as_held h)) (as_held h)) (on_same (tables.WalkIsAt t (h.carried t)))
        ∙ ap (λ z. held_if (h.met t) z (as_held h)) (hand_same (tables.walk_on u flat (tables.WalkIsAt t (h.carried t))) h)
        ∙ if_same (h.met t) (sweeps.hand (tables.walk_on u flat (tables.WalkIsAt t (h.carried t))) h) h

    begun_by : (b : Bool) → (b && true || false) ≡ b
    begun_by true = refl
    begun_by false = refl

    turned_round : (i : ℕ) → (0 == i) ≡ (i == 0)
    turned_round i = grind (arith, nat_tests)

    begun_same : is_begun v r ≡ (λ i. i == 0)
    begun_same = fun_ext (λ i. begun_by (0 == i) ∙ turned_round i)

    abbrev begin_at : ℕ → Content
    begin_at i = root_content r (point_at v i).point.anchor

    abbrev entry_at : ℕ → Content
    entry_at i = content_of r.state

    begin_content : begin_at ≡ entry_at
    begin_content = fun_ext (λ i. ap (root_content r) (anchor_same i))

    -- what is held after some places
    pub held_same : (n : ℕ) → held v r n ≡ as_held (sweeps.held u flat n)
    unfolding held sweeps.held
    held_same zero =
        ap (λ z. record { met = z; carried = begin_at; fails = false; steps = false; turns = false }) begun_same
        ∙ ap (λ z. record { met = λ i. i == 0; carried = z; fails = false; steps = false; turns = false }) begin_content
    held_same (suc n) = ap (sweep_on v r n) (held_same n) ∙ on_held n (sweeps.held u flat n)

  pub count_same : length v.points ≡ length u.points
  count_same = length-map u.points as_place

pub headless_walks : HeadlessWalks
headless_walks u r n = walk_same u r n

pub headless_sweeps : HeadlessSweeps
headless_sweeps u r = ap (held (as_unrolled u) r) (count_same u) ∙ held_same u r (length u.points)
