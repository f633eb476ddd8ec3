-- Without invariants and contracts what stands at a place of an unrolled frame is what stands there in the unrolled program.
use Rattle.std.proofs.Common.{◌≡◌, ℕ, ◌<◌, refl, ap, sym, ◌∙◌, subst, List, [], ◌∷◌, ◌++◌, length, Option, Some, None, Bool, true, false}
use Rattle.std.proofs.Math.Path.{fun_ext}
use Rattle.std.specs.Prelude.{Contains, ◌↔◌, ◌==◌, ◌&&◌, ◌||◌, not, if◌then◌else◌, map, filter}
use Rattle.std.specs.List.{AllZip}
use Rattle.std.proofs.lemmas.List.{map-append}
use Rattle.word_spec.specs.State.{State}
use Rattle.machine_spec.specs.Machine.{Row, Outcome, Goes, Raises, addresses}
use Rattle.machine_spec.specs.Bil as bil
use Rattle.machine_spec.specs.Bil.{BilVariable, Statements, Empty}
use Rattle.machine_spec.specs.BilCounts.{list_names_only}
use Rattle.machine_spec.specs.Endings.{Event, JumpFails}
use Rattle.bilv_spec.specs.Notes.{Assert}
use Rattle.bilv_spec.specs.Run.{Program, fetchable}
use Rattle.bilv_spec.specs.Points as points
use Rattle.bilv_spec.specs.Points.{EdgeEnd, ToAddress, ToExit, edges, file_row, file_word}
use Rattle.bilv_spec.specs.LiveFlags as live
use Rattle.walk_spec.specs.Unrolled as tables
use Rattle.walk_spec.specs.Unrolling as unrolling
use Rattle.walk_spec.specs.Unrolling.{HoldsLiteral, stop_event}
use Rattle.frame_spec.specs.Frames.{Content, Frame, FrameEvent, OfStep, is_head, is_invariant}
use Rattle.frame_spec.specs.FramePoints.{Point, triple, is_cut}
use Rattle.frame_spec.specs.FrameWalk.{Aim, OnTo, IntoHead, Outward, OverLast, ToEvent, Cutting, Nowhere, PointExit, FalseCheck, Always, Raising, WritingKept, Unaligned, Along, Action, Executes, UnrolledProgram}
use Rattle.frame_spec.specs.FrameUnrolling.{IsRead, IsReadAfter, by_assert, by_row, by_contract, later, on_path, at_exit, exit_reads, IsCarriedOf, LeavesAs, DoesRow, checks_by, checks_of, IsAim, IsEdge, AreEdgesOf, DoesAddress, DoesBy, is_variable_of, CanBeTerms, IsPlace}
use Rattle.frame_spec.specs.Theorems.{headless}
use Rattle.frame_spec.proofs.Headless.{no_head}
use Rattle.frame_laws.specs.HeadlessLaws.{as_point, as_content, as_aim, as_exit, as_action, as_place, as_unrolled}
use Rattle.frame_laws.proofs.HeadlessPoints.{edges_same, end_same}
use Rattle.frame_laws.proofs.HeadlessWalks.{as_leaving, left_same, stored_same, place_same, count_same}

-- back from the frame
abbrev pub from_event : FrameEvent → Event
from_event (OfStep e) = e
from_event e = JumpFails

abbrev pub from_aim : Aim → tables.Aim
from_aim (OnTo i) = tables.OnTo i
from_aim Outward = tables.Outward
from_aim (ToEvent e) = tables.ToEvent (from_event e)
from_aim aim = tables.OverLast

abbrev pub event_at : Aim → Event
event_at (ToEvent e) = from_event e
event_at aim = JumpFails

abbrev pub from_exit : PointExit → tables.PointExit
from_exit (FalseCheck x) = tables.FalseAssert x.line x.says
from_exit (Always aim) = tables.Always (event_at aim)
from_exit WritingKept = tables.WritingKept
from_exit Unaligned = tables.Unaligned
from_exit (Along falls jumps to aim) = tables.Along falls jumps to (from_aim aim)
from_exit x = tables.Raising

abbrev pub from_action : Action → tables.Action
from_action (Executes list) = tables.Executes list
from_action a = tables.Executes Empty

aim_back : (aim : tables.Aim) → from_aim (as_aim aim) ≡ aim
aim_back (tables.OnTo i) = refl
aim_back tables.Outward = refl
aim_back tables.OverLast = refl
aim_back (tables.ToEvent e) = refl

exit_back : (x : tables.PointExit) → from_exit (as_exit x) ≡ x
exit_back (tables.FalseAssert line e) = refl
exit_back (tables.Always e) = refl
exit_back tables.Raising = refl
exit_back tables.WritingKept = refl
exit_back tables.Unaligned = refl
exit_back (tables.Along falls jumps to aim) = ap (tables.Along falls jumps to) (aim_back aim)

pub exits_back : (xs : List tables.PointExit) → map from_exit (map as_exit xs) ≡ xs
exits_back [] = refl
exits_back (x ∷ xs) = ap (λ z. z ∷ map from_exit (map as_exit xs)) (exit_back x) ∙ ap (λ z. x ∷ z) (exits_back xs)

or_false : (b : Bool) → (b || false) ≡ true → b ≡ true
or_false true h = refl
or_false false h = h

-- what is read
module _ (p : Program) (g : ℕ) where
  mutual
    read_from : (a : ℕ) → live.IsRead p g a → IsRead p [] g a
    read_from a (live.by_assert h) = by_assert h
    read_from a (live.by_row h) = by_row h
    read_from a (live.later h r) = later h (after_from a r)

    after_from : (a : ℕ) → live.IsReadAfter p g a → IsReadAfter p [] g a
    after_from a (live.on_path {b = b} l r) = on_path l (read_from b r)
    after_from a (live.at_exit m e) = at_exit m (ap (λ z. z || exit_reads g []) e)

  mutual
    read_to : (a : ℕ) → IsRead p [] g a → live.IsRead p g a
    read_to a (by_assert h) = live.by_assert h
    read_to a (by_row h) = live.by_row h
    read_to a (by_contract h) = absurd (let c : false ≡ true = h in cc)
    read_to a (later h r) = live.later h (after_to a r)

    after_to : (a : ℕ) → IsReadAfter p [] g a → live.IsReadAfter p g a
    after_to a (on_path {b = b} l r) = live.on_path l (read_to b r)
    after_to a (at_exit m e) = live.at_exit m (or_false (live.ensures_flag p g) e)

-- what is carried
module _ (more less : ℕ → Type 0) (to : (g : ℕ) → less g → more g) (s : State) where
  carried_as : (c : tables.Carried) → unrolling.IsCarriedOf more s c → IsCarriedOf less s (as_content c)
  carried_as c h = record {
    state = record { pc = h.state.pc; regs = h.state.regs; flags = h.state.flags; mem = h.state.mem };
    regs = h.regs;
    mem = h.mem;
    flags = λ g r. h.flags g (to g r);
  }

  carried_back : (c : tables.Carried) → IsCarriedOf more s (as_content c) → unrolling.IsCarriedOf less s c
  carried_back c h = record {
    state = record { pc = h.state.pc; regs = h.state.regs; flags = h.state.flags; mem = h.state.mem };
    regs = h.regs;
    mem = h.mem;
    flags = λ g r. h.flags g (to g r);
  }

leaves_as : (more less : ℕ → Type 0) → ((g : ℕ) → less g → more g) → (o : Outcome) (l : tables.Leaving) → unrolling.LeavesAs more o l →
    LeavesAs less o (as_leaving l)
leaves_as more less to (Goes how new) (tables.GoesOn jumped at c) h = (h.0, h.1, carried_as more less to new c h.2)
leaves_as more less to (Raises e) (tables.RaisesOne n) h = h
leaves_as more less to (Goes how new) (tables.RaisesOne n) h = absurd h
leaves_as more less to (Goes how new) tables.IsStuck h = absurd h
leaves_as more less to (Raises e) (tables.GoesOn jumped at c) h = absurd h
leaves_as more less to (Raises e) tables.IsStuck h = absurd h

leaves_back : (more less : ℕ → Type 0) → ((g : ℕ) → less g → more g) → (o : Outcome) (l : tables.Leaving) → LeavesAs more o (as_leaving l) →
    unrolling.LeavesAs less o l
leaves_back more less to (Goes how new) (tables.GoesOn jumped at c) h = (h.0, h.1, carried_back more less to new c h.2)
leaves_back more less to (Raises e) (tables.RaisesOne n) h = h
leaves_back more less to (Goes how new) (tables.RaisesOne n) h = absurd h
leaves_back more less to (Goes how new) tables.IsStuck h = absurd h
leaves_back more less to (Raises e) (tables.GoesOn jumped at c) h = absurd h
leaves_back more less to (Raises e) tables.IsStuck h = absurd h

its_list : (a : tables.Action) → (list : Statements) × (as_action a ≡ Executes list)
its_list (tables.Executes list) = (list, refl)

-- the lists at a place
module _ (p : Program) (u : tables.UnrolledProgram) (q : tables.UnrolledPoint) (row : Row) where
  abbrev v : UnrolledProgram
  v = as_unrolled u

  abbrev carried : Content → tables.Carried
  carried c = record { regs = c.regs; flags = c.flags; mem = c.mem }

  pub row_as : unrolling.DoesRow p q row → DoesRow p [] v (as_place q) row
  row_as d = record {
    length = d.length;
    lists = its_list q.does;
    leaves = λ s c choice is at small literal h.
        subst (LeavesAs (λ g. IsReadAfter p [] g s.pc) (row.effect s choice)) (sym (left_same u q choice c (carried c) q.does))
        (leaves_as (λ g. live.IsReadAfter p g s.pc) (λ g. IsReadAfter p [] g s.pc) (λ g r. after_to p g s.pc r) (row.effect s choice)
        (tables.leaving q choice (carried c)) (d.leaves s (carried c) choice is at small literal
        (carried_back (λ g. IsRead p [] g s.pc) (λ g. live.IsRead p g s.pc) (λ g r. read_from p g s.pc r) s (carried c) h)));
    stores = λ s c choice is at small literal h a.
        subst (λ z. Contains z a ↔ Contains (addresses (row.stored s)) a) (sym (stored_same u q choice (carried c) q.does))
        (d.stores s (carried c) choice is at small literal
        (carried_back (λ g. IsRead p [] g s.pc) (λ g. live.IsRead p g s.pc) (λ g r. read_from p g s.pc r) s (carried c) h) a);
  }

  row_back : DoesRow p [] v (as_place q) row → unrolling.DoesRow p q row
  row_back d = record {
    length = d.length;
    leaves = λ s c choice is at small literal h.
        leaves_back (λ g. IsReadAfter p [] g s.pc) (λ g. live.IsReadAfter p g s.pc) (λ g r. after_from p g s.pc r) (row.effect s choice)
        (tables.leaving q choice c)
        (subst (LeavesAs (λ g. IsReadAfter p [] g s.pc) (row.effect s choice)) (left_same u q choice (as_content c) c q.does)
        (d.leaves s (as_content c) choice is at small literal
        (carried_as (λ g. live.IsRead p g s.pc) (λ g. IsRead p [] g s.pc) (λ g r. read_to p g s.pc r) s c h)));
    stores = λ s c choice is at small literal h a.
        subst (λ z. Contains z a ↔ Contains (addresses (row.stored s)) a) (stored_same u q choice c q.does)
        (d.stores s (as_content c) choice is at small literal
        (carried_as (λ g. live.IsRead p g s.pc) (λ g. IsRead p [] g s.pc) (λ g r. read_to p g s.pc r) s c h) a);
  }

-- the lines at a point
module _ (p : Program) where
  abbrev f : Frame
  f = headless p

  test_by : (b h : Bool) → h ≡ false → (b && not (h && not true && false)) ≡ b
  test_by true h e = rw e refl
  test_by false h e = refl

  abbrev asserts : List Assert → ℕ → List tables.PointExit
  asserts l a = map (λ x. tables.FalseAssert x.line x.says) (filter (λ x. x.at == a) l)

  check_by : (x : Assert) (l rest : List Assert) (b : Bool) → map FalseCheck (checks_by f l) ≡ map as_exit (map (λ x. tables.FalseAssert x.line x.says) rest) →
      map FalseCheck (checks_by f (if b then x ∷ l else l)) ≡ map as_exit (map (λ x. tables.FalseAssert x.line x.says) (if b then x ∷ rest else rest))
  check_by x l rest true h = ap (λ z. FalseCheck (record { line = x.line; invariant = false; says = x.says }) ∷ z) h
  check_by x l rest false h = h

  checks_by_list : (l : List Assert) (a : ℕ) →
      map FalseCheck (checks_by f (filter (λ x. (x.at == a) && not (is_head f a && not true && is_invariant f x)) l)) ≡ map as_exit (asserts l a)
  checks_by_list [] a = refl
  checks_by_list (x ∷ l) a =
      let test : Assert → Bool = λ x. (x.at == a) && not (is_head f a && not true && is_invariant f x) in
      ap (λ (b : Bool). map FalseCheck (checks_by f (if b then x ∷ filter test l else filter test l))) (test_by (x.at == a) (is_head f a) (no_head p a))
      ∙ check_by x (filter test l) (filter (λ x. x.at == a) l) (x.at == a) (checks_by_list l a)

  pub checks_same : (x : points.Point) → map FalseCheck (checks_of f (as_point x)) ≡ map as_exit (unrolling.assert_exits p x)
  checks_same x = checks_by_list p.notes.asserts x.at

-- what a point does can be made terms where the program's can
module _ (u : tables.UnrolledProgram) (q : tables.UnrolledPoint) where
  abbrev terms_of : UnrolledProgram
  terms_of = as_unrolled u

  variable_same : (x : BilVariable) → is_variable_of terms_of x ≡ unrolling.is_variable_of u x
  variable_same (bil.Register b r) = refl
  variable_same (bil.Flag g) = refl
  variable_same bil.Mem = refl
  variable_same (bil.Local x n) = refl

  names_same : (list : Statements) → list_names_only list (is_variable_of terms_of) ≡ list_names_only list (unrolling.is_variable_of u)
  names_same list = ap (list_names_only list) (fun_ext variable_same)

  pub terms_as : (a : tables.Action) → unrolling.CanBeTerms u q a → CanBeTerms terms_of (as_place q) (as_action a)
  terms_as (tables.Executes list) h = record {
    typed = h.typed;
    no_loop = h.no_loop;
    no_special = h.no_special;
    nests = h.nests;
    picks = h.picks;
    steady = h.steady;
    names = names_same list ∙ h.names;
    draws = h.draws;
    weight = h.weight;
    loads = h.loads;
    byte_stores = h.byte_stores;
  }

  pub terms_back : (a : tables.Action) → CanBeTerms terms_of (as_place q) (as_action a) → unrolling.CanBeTerms u q a
  terms_back (tables.Executes list) h = record {
    typed = h.typed;
    no_loop = h.no_loop;
    no_special = h.no_special;
    nests = h.nests;
    picks = h.picks;
    steady = h.steady;
    names = sym (names_same list) ∙ h.names;
    draws = h.draws;
    weight = h.weight;
    loads = h.loads;
    byte_stores = h.byte_stores;
  }

module _ (p : Program) (k : ℕ) (u : tables.UnrolledProgram) where
  abbrev f' : Frame
  f' = headless p

  abbrev w : UnrolledProgram
  w = as_unrolled u

  -- edges
  aim_as : (i : ℕ) (x : points.Point) (t : EdgeEnd) (aim : tables.Aim) → unrolling.IsAim u k i x t aim → IsAim f' k w i (as_point x) t (as_aim aim)
  aim_as i x ToExit tables.Outward h = tt
  aim_as i x ToExit (tables.OnTo j) h = absurd h
  aim_as i x ToExit tables.OverLast h = absurd h
  aim_as i x ToExit (tables.ToEvent e) h = absurd h
  aim_as i x (ToAddress l a) (tables.OnTo j) h = (
    no_head p a,
    h.0,
    subst (λ z. j < z) (sym (count_same u)) h.1,
    ap (λ z. z.point) (place_same u j) ∙ ap as_point h.2 ∙ sym (end_same p x l a),
  )
  aim_as i x (ToAddress l a) tables.OverLast h = (no_head p a, ap (λ (z : Point). z.turns) (end_same p x l a) ∙ h)
  aim_as i x (ToAddress l a) tables.Outward h = absurd h
  aim_as i x (ToAddress l a) (tables.ToEvent e) h = absurd h

  headed : {P : Type 0} (a : ℕ) → is_head f' a ≡ true → P
  headed a h = absurd (let c : false ≡ true = sym (no_head p a) ∙ h in cc)

  aim_from : (i : ℕ) (x : points.Point) (t : EdgeEnd) (aim : Aim) → IsAim f' k w i (as_point x) t aim → unrolling.IsAim u k i x t (from_aim aim)
  aim_from i x ToExit Outward h = tt
  aim_from i x ToExit (OnTo j) h = absurd h
  aim_from i x ToExit (IntoHead at l) h = absurd h
  aim_from i x ToExit OverLast h = absurd h
  aim_from i x ToExit (ToEvent e) h = absurd h
  aim_from i x ToExit Cutting h = absurd h
  aim_from i x ToExit Nowhere h = absurd h
  aim_from i x (ToAddress l a) (OnTo j) h = (
    h.1,
    subst (λ z. j < z) (count_same u) h.2,
    ap triple (sym (ap (λ z. z.point) (place_same u j)) ∙ h.3 ∙ end_same p x l a),
  )
  aim_from i x (ToAddress l a) OverLast h = sym (ap (λ (z : Point). z.turns) (end_same p x l a)) ∙ h.1
  aim_from i x (ToAddress l a) (IntoHead at lines) h = headed a h.0
  aim_from i x (ToAddress l a) Outward h = absurd h
  aim_from i x (ToAddress l a) (ToEvent e) h = absurd h
  aim_from i x (ToAddress l a) Cutting h = absurd h
  aim_from i x (ToAddress l a) Nowhere h = absurd h

  module _ (i : ℕ) (x : points.Point) (row : Row) where
    abbrev Edge : EdgeEnd → tables.PointExit → Type 0
    Edge t y = unrolling.IsEdge p k u i x row t y

    abbrev FrameEdge : EdgeEnd → PointExit → Type 0
    FrameEdge t y = IsEdge f' k w i (as_point x) (Some row) t y

    edge_as : (t : EdgeEnd) (y : tables.PointExit) → Edge t y → FrameEdge t (as_exit y)
    edge_as t y e = record { aim = as_aim e.aim; leads = aim_as i x t e.aim e.leads; is = ap as_exit e.is }

    edge_from : (t : EdgeEnd) (y : PointExit) → FrameEdge t y → Edge t (from_exit y)
    edge_from t y e = record { aim = from_aim e.aim; leads = aim_from i x t e.aim e.leads; is = ap from_exit e.is }

    along_as : (ends : List EdgeEnd) (ys : List tables.PointExit) → AllZip Edge ends ys → AllZip FrameEdge ends (map as_exit ys)
    along_as [] [] h = tt
    along_as [] (y ∷ ys) h = absurd h
    along_as (t ∷ ends) [] h = absurd h
    along_as (t ∷ ends) (y ∷ ys) h = (edge_as t y h.0, along_as ends ys h.1)

    along_from : (ends : List EdgeEnd) (ys : List PointExit) → AllZip FrameEdge ends ys → AllZip Edge ends (map from_exit ys)
    along_from [] [] h = tt
    along_from [] (y ∷ ys) h = absurd h
    along_from (t ∷ ends) [] h = absurd h
    along_from (t ∷ ends) (y ∷ ys) h = (edge_from t y h.0, along_from ends ys h.1)

  ends_as : (x : points.Point) (ends : List EdgeEnd) → unrolling.AreEdgesOf p x ends → AreEdgesOf f' (as_point x) ends
  ends_as x ends are = record {
    same = λ t. subst (λ z. Contains z t ↔ Contains ends t) (sym (edges_same p x)) (are.same t);
    count = are.count ∙ ap length (sym (edges_same p x));
    exit_first = are.exit_first;
  }

  ends_back : (x : points.Point) (ends : List EdgeEnd) → AreEdgesOf f' (as_point x) ends → unrolling.AreEdgesOf p x ends
  ends_back x ends are = record {
    same = λ t. subst (λ z. Contains z t ↔ Contains ends t) (edges_same p x) (are.same t);
    count = are.count ∙ ap length (edges_same p x);
    exit_first = are.exit_first;
  }

  -- what stands at an address
  module _ (i : ℕ) (q : tables.UnrolledPoint) where
    exits_as : (rest : List tables.PointExit) → q.exits ≡ unrolling.assert_exits p q.point ++ rest →
        map as_exit q.exits ≡ map FalseCheck (checks_of f' (as_point q.point)) ++ map as_exit rest
    exits_as rest e =
        ap (map as_exit) e ∙ map-append as_exit (unrolling.assert_exits p q.point) rest ∙ ap (λ z. z ++ map as_exit rest) (sym (checks_same p q.point))

    exits_from : (rest : List PointExit) → map as_exit q.exits ≡ map FalseCheck (checks_of f' (as_point q.point)) ++ rest →
        q.exits ≡ unrolling.assert_exits p q.point ++ map from_exit rest
    exits_from rest e =
        sym (exits_back q.exits) ∙ ap (map from_exit) (e ∙ ap (λ z. z ++ rest) (checks_same p q.point))
        ∙ map-append from_exit (map as_exit (unrolling.assert_exits p q.point)) rest
        ∙ ap (λ z. z ++ map from_exit rest) (exits_back (unrolling.assert_exits p q.point))

    address_as : (o : Option Row) → unrolling.DoesPlace p k u i q o → DoesAddress f' [] k w i (as_place q) o
    address_as None d = (ap as_action d.0, exits_as (tables.Always (stop_event (fetchable p (file_word p q.point.at) q.point.at)) ∷ []) d.1)
    address_as (Some row) d = (
      map as_exit d.0,
      exits_as (tables.Raising ∷ tables.WritingKept ∷ tables.Unaligned ∷ d.0) d.1,
      (d.2.0, ends_as q.point d.2.0 d.2.1, along_as i q.point row d.2.0 d.0 d.2.2),
      row_as p u q row d.3,
    )

    list_of : (a : tables.Action) → as_action a ≡ Executes Empty → a ≡ tables.Executes Empty
    list_of (tables.Executes list) h = ap (λ z. tables.Executes z) (let s : list ≡ Empty = cc in s)

    address_from : (o : Option Row) → DoesAddress f' [] k w i (as_place q) o → unrolling.DoesPlace p k u i q o
    address_from None d = (
      list_of q.does d.0,
      exits_from (Always (ToEvent (OfStep (stop_event (fetchable p (file_word p q.point.at) q.point.at)))) ∷ []) d.1,
    )
    address_from (Some row) d = (
      map from_exit d.0,
      exits_from (Raising ∷ WritingKept ∷ Unaligned ∷ d.0) d.1,
      (d.2.0, ends_back q.point d.2.0 d.2.1, along_from i q.point row d.2.0 d.0 d.2.2),
      row_back p u q row d.3,
    )

    uncut : is_cut f' (as_point q.point) ≡ false
    uncut = no_head p q.point.at

    pub place_as : unrolling.IsPlace p k u i q (file_row p q.point.at) → IsPlace f' [] k w i (as_place q)
    place_as h = record {
      does = subst (λ z. DoesBy false z f' [] k w i (as_place q)) (sym uncut) (address_as (file_row p q.point.at) h.does);
      terms = terms_as u q q.does h.terms;
      counted = record { draws = h.counted.draws; row = h.counted.row_cost; loads = h.counted.loads; stores = h.counted.stores };
    }

    pub place_back : IsPlace f' [] k w i (as_place q) → unrolling.IsPlace p k u i q (file_row p q.point.at)
    place_back h = record {
      does = address_from (file_row p q.point.at) (subst (λ z. DoesBy false z f' [] k w i (as_place q)) uncut h.does);
      terms = terms_back u q q.does h.terms;
      counted = record { draws = h.counted.draws; row_cost = h.counted.row; loads = h.counted.loads; stores = h.counted.stores };
    }
