-- What stands at a place is what the definitions want there.
use Rattle.std.proofs.Common.{◌≡◌, refl, ap, sym, ◌∙◌, subst, arith, ℕ, ◌+◌, ◌≤◌, Option, Some, None, Bool, true, false, List, [], ◌∷◌, ◌++◌}
use Rattle.std.specs.Prelude.{filter, map}
use Rattle.std.specs.Global.{Vec}
use Rattle.machine_spec.specs.Machine.{Row}
use Rattle.machine_spec.specs.MachineLaws.{IsFitted}
use Rattle.machine_spec.specs.StateText.{Layout}
use Rattle.machine_spec.specs.Bil.{Bank}
use Rattle.bilv_spec.specs.Run.{Program}
use Rattle.bilv_spec.specs.Points.{file_row, row_price, loads_at, stores_at}
use Rattle.bil_ast.specs.declared.statements.Stmt.{Stmt}
use Rattle.bil_ast.specs.Views.{statements}
use Rattle.walk_spec.specs.Unrolled.{is_register_of, is_flag_of}
use Rattle.walk_spec.specs.Unrolling.{stop_event, row_draws}
use Rattle.frame_spec.specs.Frames.{Contract, Frame, OfStep, contract_at}
use Rattle.frame_spec.specs.FramePoints.{bytes_of, is_cut}
use Rattle.frame_spec.specs.FrameUnrolling.{AreAlong, CanBeTerms, DoesAddress, DoesBy, DoesContract, IsCounted, IsPlace, checks_of, outside_exit}
use Rattle.frame_spec.specs.FrameWalk.{Check, PointExit, FalseCheck, FalseNeed, Always, ToEvent, Cutting, NotGiven, Raising, StepsOver, WritingKept, Unaligned, UnrolledPoint, UnrolledProgram}
use Rattle.graph_nodes.specs.Graphs.{row_length}
use Rattle.question_form.specs.declared.unrolled.Code.{Code}
use Rattle.question_form.specs.declared.unrolled.Deed.{Deed}
use Rattle.question_form.specs.declared.unrolled.Deed.TheVariants as deeds
use Rattle.question_form.specs.declared.unrolled.Edge.{Edge}
use Rattle.question_form.specs.declared.unrolled.Point as declared
use Rattle.question_form.specs.declared.unrolled.Unrolled.{Unrolled}
use Rattle.program_points.specs.Tables.{stack_at}
use Rattle.question_form.specs.FrameViews.{anchor_at, checks_between, edge_of, frame_unrolled_of, gift_of, is_judged, list_of, own_contract, point_by, stepped_at, top_of}
use Rattle.question_form.specs.Views.{unrolled_of}
use Rattle.unroller.specs.Places.{IsCode, deed_by, step_code, PlacesAreRight, StepsAreRight}
use Rattle.unroller.specs.Rows.{IsCosted, IsListAt, IsListedAt}
use Rattle.unroller.proofs.Literals.{lists_do_rows}

module _ (f : Frame) (k : ℕ) (u : Unrolled) (form : Layout) (bank : Bank) (i root turns coded stack begin : ℕ) (edges : List Edge)
    (contracts : List Contract) (own : f.own ≡ own_contract u)
    (fitted : IsFitted f.program.machine form) (registers : (r : ℕ) → is_register_of (unrolled_of u) r ≡ f.program.machine.has_register r)
    (flags : (g : ℕ) → is_flag_of (unrolled_of u) g ≡ f.program.machine.has_flag g) where
  abbrev p : Program
  p = f.program

  abbrev w : UnrolledProgram
  w = frame_unrolled_of u

  abbrev point : Deed → declared.Point
  point deed = record { root = root; turns = turns; code = coded; stack = stack; deed = deed; edges = begin }

  abbrev made : Deed → Code → UnrolledPoint
  made deed c = point_by u (point deed) c edges

  abbrev exits : Code → List PointExit → List PointExit
  exits c rest = map FalseCheck (filter (is_judged (anchor_at u root)) (checks_between u c.asserts)) ++ rest

  abbrev judged : Code → List PointExit → List PointExit
  judged c rest = map FalseCheck (checks_of f (made deeds.Row c).point) ++ rest

  exits_are : (c : Code) → IsCode f bank contracts u (point deeds.Row) c edges → (rest : List PointExit) → exits c rest ≡ judged c rest
  exits_are c code rest = ap (λ (l : List Check). map FalseCheck l ++ rest) code.checks

  row_by : (at size : ℕ) (fetch : Bool) (list : Option (Vec Stmt)) (draws : Bool) (row loads stores : ℕ) (asserts : ℕ × ℕ) →
      let c : Code = record {
        at = at;
        length = size;
        fetchable = fetch;
        list = list;
        draws = draws;
        row = row;
        loads = loads;
        stores = stores;
        asserts =
            asserts;
      } in
      IsCode f bank contracts u (point deeds.Row) c edges →
      ((r : Row) → file_row p at ≡ Some r → AreAlong f k w i (made deeds.Row c).point (Some r) (map (edge_of u) edges)) →
      (o : Option Row) → file_row p at ≡ o → DoesAddress f contracts k w i (made deeds.Row c) o × CanBeTerms w (made deeds.Row c) (list_of list)
  row_by at size fetch None draws row loads stores asserts code led None is =
      let c : Code = record {
        at = at;
        length = size;
        fetchable = fetch;
        list = None;
        draws = draws;
        row = row;
        loads = loads;
        stores = stores;
        asserts =
            asserts;
      } in (
        (
          refl,
          exits_are c code (Always (ToEvent (OfStep (stop_event fetch))) ∷ [])
              ∙ ap (λ (b : Bool). judged c (Always (ToEvent (OfStep (stop_event b))) ∷ [])) code.own.fetchable,
        ),
        record {
          typed = refl;
          no_loop = refl;
          no_special = refl;
          nests = omega arith;
          picks = refl;
          steady = refl;
          names = refl;
          draws = λ e. refl;
          weight = subst (λ (z : ℕ). 0 + 64 ≤ z) (sym (code.own.row ∙ ap row_price is)) (omega arith);
          loads = omega arith;
          byte_stores = omega arith;
        },
      )
  row_by at size fetch None draws row loads stores asserts code led (Some r) is = absurd (subst
      (λ (z : Option Row). IsListedAt p bank contracts z at None) is code.own.list)
  row_by at size fetch (Some v) draws row loads stores asserts code led None is = absurd (subst
      (λ (z : Option Row). IsListedAt p bank contracts z at (Some v)) is code.own.list)
  row_by at size fetch (Some v) draws row loads stores asserts code led (Some r) is =
      let c : Code = record {
        at = at;
        length = size;
        fetchable = fetch;
        list = Some v;
        draws = draws;
        row = row;
        loads = loads;
        stores = stores;
        asserts =
            asserts;
      } in
      let x : UnrolledPoint = made deeds.Row c in
      let costed : IsCosted p x r =
      record {
        draws = code.own.draws ∙ ap row_draws is;
        row_cost = code.own.row ∙ ap row_price is;
        loads = code.own.loads ∙ ap (λ (z : Option Row). loads_at p at z) is;
        stores = code.own.stores ∙ ap stores_at is;
      } in
      let listed : IsListAt p bank contracts r at (statements v.items) = subst (λ (z : Option Row). IsListedAt p bank contracts z at (Some v)) is code.own.list in
      let law = lists_do_rows p contracts w form bank x r (statements v.items) fitted registers flags is (code.own.fit r is) listed refl
      (code.own.length ∙ ap row_length is) costed in (
        (
          map (edge_of u) edges,
          exits_are c code (Raising ∷ WritingKept ∷ (outside_exit (own_contract u) ++ Unaligned ∷ map (edge_of u) edges))
              ∙ ap (λ (o : Option Contract). judged c (Raising ∷ WritingKept ∷ (outside_exit o ++ Unaligned ∷ map (edge_of u) edges))) (sym own),
          led r is,
          law.0,
        ),
        law.1,
      )

  counted_row : (c : Code) → IsCode f bank contracts u (point deeds.Row) c edges → IsCounted f (made deeds.Row c)
  counted_row c code = record { draws = code.own.draws; row = code.own.row; loads = code.own.loads; stores = code.own.stores }

  counted_arrival : (c : Code) → IsCode f bank contracts u (point deeds.Row) c edges → IsCounted f (made deeds.Arrival c)
  counted_arrival c code = record { draws = code.own.draws; row = code.own.row; loads = code.own.loads; stores = code.own.stores }

  place_by : (c : Code) → IsCode f bank contracts u (point deeds.Row) c edges → (cut : Bool) → is_cut f (made deeds.Row c).point ≡ cut →
      (cut ≡ false → (r : Row) → file_row p c.at ≡ Some r → AreAlong f k w i (made deeds.Row c).point (Some r) (map (edge_of u) edges)) →
      IsPlace f contracts k w i (made (deed_by cut) c)
  place_by c code true is led = record {
    does = subst (λ (b : Bool). DoesBy false b f contracts k w i (made deeds.Arrival c)) (sym is) (refl, exits_are c code (Always Cutting ∷ []));
    terms = tt;
    counted = counted_arrival c code;
  }
  place_by c code false is led =
      let row = row_by c.at c.length c.fetchable c.list c.draws c.row c.loads c.stores c.asserts code (led refl) (file_row p c.at) refl in
      record {
        does = subst (λ (b : Bool). DoesBy false b f contracts k w i (made deeds.Row c)) (sym is) row.0;
        terms = row.1;
        counted = counted_row c code;
      }

pub places_are_right : PlacesAreRight
places_are_right f contracts k u form bank i q c edges own fitted registers flags code deed led =
    subst (λ (d : Deed). IsPlace f contracts k (frame_unrolled_of u) i
    (point_by u (record { root = q.root; turns = q.turns; code = q.code; stack = q.stack; deed = d; edges = q.edges }) c edges)) (sym deed)
    (place_by f k u form bank i q.root q.turns q.code q.stack q.edges edges contracts own fitted registers flags c
    (record { own = code.own; checks = code.checks }) (is_cut f (point_by u q c edges).point) refl
    (λ uncut r some.
    subst (λ (d : Deed). AreAlong f k (frame_unrolled_of u) i
    (point_by u (record { root = q.root; turns = q.turns; code = q.code; stack = q.stack; deed = d; edges = q.edges }) c edges).point (Some r)
    (map (edge_of u) edges)) (deed ∙ ap deed_by uncut) (led uncut r some)))

-- the point of a contract step
module _ (f : Frame) (contracts : List Contract) (k : ℕ) (u : Unrolled) (i n root turns coded stack begin : ℕ) (edges : List Edge)
    (own : f.own ≡ own_contract u) (at : contract_at f.stepped (stepped_at u n).at ≡ Some (stepped_at u n)) (to : ℕ) (below : List ℕ)
    (top : stack_at u.frames.items stack ≡ to ∷ below) where
  abbrev x : Contract
  x = stepped_at u n

  abbrev step : UnrolledPoint
  step = point_by u (record { root = root; turns = turns; code = coded; stack = stack; deed = deeds.Contract n; edges = begin }) (step_code x) edges

  abbrev exits_with : Option Contract → List PointExit
  exits_with o = map (λ l. FalseNeed l.line l.says) x.needs ++ WritingKept ∷ (outside_exit o ++ NotGiven ∷ map (edge_of u) edges)

  step_by : AreAlong f k (frame_unrolled_of u) i step.point None (map (edge_of u) edges) → IsPlace f contracts k (frame_unrolled_of u) i step
  step_by led = record {
    does =
        subst (λ (o : Option Contract). DoesContract f k (frame_unrolled_of u) i step o step.point.stack) (sym at)
        (subst (λ (s : List ℕ). DoesContract f k (frame_unrolled_of u) i step (Some x) s) (sym top) (
          map (edge_of u) edges,
          ap (λ (s : List ℕ). StepsOver (gift_of x (top_of s))) top,
          ap exits_with (sym own),
          led,
        ));
    terms = tt;
    counted = record { draws = refl; row = refl; loads = refl; stores = sym (ap bytes_of at) };
  }

pub steps_are_right : StepsAreRight
steps_are_right f contracts k u i n q edges own deed at to below top =
    subst (λ (d : Deed). AreAlong f k (frame_unrolled_of u) i
    (point_by u (record { root = q.root; turns = q.turns; code = q.code; stack = q.stack; deed = d; edges = q.edges }) (step_code (stepped_at u n)) edges).point
    None (map (edge_of u) edges) →
    IsPlace f contracts k (frame_unrolled_of u) i
    (point_by u (record { root = q.root; turns = q.turns; code = q.code; stack = q.stack; deed = d; edges = q.edges }) (step_code (stepped_at u n)) edges))
    (sym deed) (step_by f contracts k u i n q.root q.turns q.code q.stack q.edges edges own at to below top)
