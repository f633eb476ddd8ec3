-- The price of an unrolled frame is that of its frame.
use Rattle.std.proofs.Common.{◌≡◌, ℕ, suc, ◌+◌, ◌-◌, ◌*◌, ◌<◌, refl, ap, sym, ◌∙◌, subst, arith, List, [], ◌∷◌, ◌++◌, length, Option, Some, None, Bool, true, false}
use Rattle.std.specs.Prelude.{Contains, ◌==◌, ◌&&◌, not, if◌then◌else◌, filter, map, sum_by, slice_get, slice_index_or, option_map}
use Rattle.std.specs.List.{list_any, flat_map}
use Rattle.std.proofs.lemmas.List.Sums.{sum_by-cons, sum_by-append}
use Rattle.std.proofs.lemmas.List.{length-map}
use Rattle.std.proofs.lemmas.Option.{slice_get-map, slice_get-get_or}
use Rattle.machine_spec.specs.Machine.{Row}
use Rattle.bilv_spec.specs.Notes.{Expr, Assert}
use Rattle.bilv_spec.specs.Run.{Program, fetchable}
use Rattle.bilv_spec.specs.Points.{EdgeEnd, edges, edges_by, distinct, leads_on, is_exit, file_row, file_word, line_price, bytes_loaded}
use Rattle.bilv_spec.proofs.Pigeons.{Once, at_in, same_sum}
use Rattle.bilv_spec.proofs.PointSteps.{and_both, in_filter, in_map}
use Rattle.bilv_spec.proofs.PointsInGraph.{of_filter, of_map}
use Rattle.walk_spec.specs.Unrolling.{stop_event}
use Rattle.frame_spec.specs.Frames.{Contract, Frame, OfStep, is_head, contract_at, invariants_of}
use Rattle.frame_spec.specs.FramePoints as FramePoints
use Rattle.frame_spec.specs.FramePoints.{Anchor, AtEntry, AtHead, Point, IsPoint, first, entry_head, next, IsAnchor, first_of, point_to, is_contract_end, is_entry, is_cut, frame_edges, triple, contract_lines, evaluated, lines_of_end, has_heads, says_of, price_of, top_ends}
use Rattle.frame_spec.specs.FrameWalk.{ToEvent, Cutting, PointExit, FalseCheck, Always, Raising, WritingKept, NotGiven, Unaligned, Root, UnrolledPoint, UnrolledProgram, no_point, no_root, point_at, root_at}
use Rattle.frame_spec.specs.FrameUnrolling.{checks_of, DoesContract, DoesAddress, DoesCut, DoesBy, IsPlace, outside_exit, own_of, lines_of, IsRootOf, IsUnrolling}
use Rattle.frame_spec.proofs.Rooted.{same_place}
use Rattle.frame_spec.specs.FrameReports.{loads_among}
use Rattle.frame_laws.specs.FramePrices as FramePrices
use Rattle.frame_laws.specs.FramePrices.{is_edge, goes_out, line_of, action_lines, exit_lines, edges_of, lines_at, entry_lines, root_lines, point_lines, loads_of, stores_of, known_of, own_writes, own_exit, own_exits, unrolled_price, FramePriceIsPrice}
use Rattle.frame_laws.proofs.FrameAnswers.{head_anchor}
use Rattle.frame_laws.proofs.WalkPlaces.{a_point}
use Rattle.frame_laws.proofs.OnceLists.{filter_once, filter_sum, flat_sum}
use Rattle.frame_laws.proofs.FrameTallies.{Tally, idle, outside, checks, needs, along, says, assumed_sum, check_lines}

-- a point at a head is the first of its anchor
end_first : (f : Frame) (q : Point) (stack : List ℕ) (a : ℕ) (b : Bool) → is_head f a ≡ b →
    let e : Point = if b then first_of f.program.entry (AtHead stack a) else point_to (is_contract_end f q stack a) q stack a in
    is_head f e.at ≡ true → e ≡ first_of f.program.entry e.anchor
end_first f q stack a true t h = refl
end_first f q stack a false t h = absurd (let c : false ≡ true = sym t ∙ h in cc)

at_head_first : (f : Frame) (k : ℕ) (q : Point) → IsPoint f k q → is_head f q.at ≡ true → q ≡ first_of f.program.entry q.anchor
at_head_first f k q first h = refl
at_head_first f k q (entry_head t) h = refl
at_head_first f k q (next {q = from} {stack} {a} is edge l) h = end_first f from stack a (is_head f a) refl h

no_contract : (entry : ℕ) (a : Anchor) → (first_of entry a).contract ≡ false
no_contract entry AtEntry = refl
no_contract entry (AtHead stack b) = refl

module _ (f : Frame) (contracts : List Contract) (k : ℕ) (u : UnrolledProgram) (un : IsUnrolling f contracts k u) where
  abbrev p : Program
  p = f.program

  -- what hangs on the frame's own contract
  exits_by : (o : Option Contract) → f.own ≡ o → exit_lines u ≡ FramePoints.exit_lines f
  exits_by None e =
      ap (λ z. exit_lines (record u { own = z })) (un.own ∙ ap own_of e) ∙ ap (λ z. says_of z) un.ensures
      ∙ sym (ap (λ z. FramePoints.exit_lines (record f { own = z })) e)
  exits_by (Some x) e =
      ap (λ z. exit_lines (record u { own = z })) (un.own ∙ ap own_of e) ∙ sym (ap (λ z. FramePoints.exit_lines (record f { own = z })) e)

  exits_same : exit_lines u ≡ FramePoints.exit_lines f
  exits_same = exits_by f.own refl

  entries_by : (o : Option Contract) → f.own ≡ o → entry_lines u ≡ FramePoints.entry_lines f
  entries_by None e =
      ap (λ z. entry_lines (record u { own = z })) (un.own ∙ ap own_of e) ∙ ap (λ z. says_of z ++ []) un.requires
      ∙ sym (ap (λ z. FramePoints.entry_lines (record f { own = z })) e)
  entries_by (Some x) e =
      ap (λ z. entry_lines (record u { own = z })) (un.own ∙ ap own_of e) ∙ ap (λ z. says_of z ++ map (λ w. w.says) x.writes) un.requires
      ∙ sym (ap (λ z. FramePoints.entry_lines (record f { own = z })) e)

  writes_by : (o : Option Contract) → f.own ≡ o → own_writes u ≡ FramePoints.own_writes f.own
  writes_by None e = ap (λ z. own_writes (record u { own = z })) (un.own ∙ ap own_of e) ∙ sym (ap FramePoints.own_writes e)
  writes_by (Some x) e = ap (λ z. own_writes (record u { own = z })) (un.own ∙ ap own_of e) ∙ sym (ap FramePoints.own_writes e)

  exit_by : (o : Option Contract) (b : Bool) → own_exit (own_of o) b ≡ FramePoints.own_exit o b
  exit_by None b = refl
  exit_by (Some x) true = refl
  exit_by (Some x) false = refl

  -- what is counted at a point is what the frame counts there
  record Counts (q : UnrolledPoint) : Type 0 where
    ends : sum_by is_edge q.exits ≡ length (frame_edges f q.point)
    out : list_any goes_out q.exits ≡ list_any is_exit (frame_edges f q.point)
    lines : (g : Expr → ℕ) → sum_by g (lines_at u q) + assumed_sum f g q.point ≡ sum_by g (evaluated f q.point)

  abbrev out_lines : List Expr → Bool → List Expr
  out_lines l b = if b then l else []

  -- by the exits, what the point does, and what is left to be assumed
  from_tally : (q : UnrolledPoint) (own : List Expr) (lines : (Expr → ℕ) → ℕ) →
      Tally q.exits (length (frame_edges f q.point)) lines (list_any is_exit (frame_edges f q.point)) →
      evaluated f q.point ≡ own ++ flat_map (lines_of_end f) (frame_edges f q.point)
      ++ (if list_any is_exit (frame_edges f q.point) then FramePoints.exit_lines f else []) →
      ((g : Expr → ℕ) → lines g + sum_by g (action_lines q.does) + assumed_sum f g q.point
      ≡ sum_by g own + sum_by g (flat_map (lines_of_end f) (frame_edges f q.point))) → Counts q
  from_tally q own lines t e same = record { ends = t.edges; out = t.out; lines = its_lines }
    where
      b : Bool
      b = list_any is_exit (frame_edges f q.point)

      its_lines : (g : Expr → ℕ) → sum_by g (lines_at u q) + assumed_sum f g q.point ≡ sum_by g (evaluated f q.point)
      its_lines g =
          let a = sum_by-append g (flat_map line_of q.exits ++ action_lines q.does) (out_lines (exit_lines u) (list_any goes_out q.exits)) in
          let c = sum_by-append g (flat_map line_of q.exits) (action_lines q.does) in
          let d = t.lines g in
          let x : sum_by g (out_lines (exit_lines u) (list_any goes_out q.exits))
          ≡ sum_by g (out_lines (FramePoints.exit_lines f) (list_any is_exit (frame_edges f q.point))) =
          ap (λ z. sum_by g (out_lines z (list_any goes_out q.exits))) exits_same ∙ ap (λ z. sum_by g (out_lines (FramePoints.exit_lines f) z)) t.out in
          let s = same g in
          let r = sum_by-append g (own ++ flat_map (lines_of_end f) (frame_edges f q.point))
          (out_lines (FramePoints.exit_lines f) (list_any is_exit (frame_edges f q.point))) in
          let v = sum_by-append g own (flat_map (lines_of_end f) (frame_edges f q.point)) in
          let y : sum_by g (evaluated f q.point) ≡ sum_by g (own ++ flat_map (lines_of_end f) (frame_edges f q.point)
          ++ (if list_any is_exit (frame_edges f q.point) then FramePoints.exit_lines f else [])) = ap (sum_by g) e in
          omega arith

  module _ (i : ℕ) (q : UnrolledPoint) (is : IsPoint f k q.point) where
    -- the lines of the row's point
    own_lines : q.point.contract ≡ false → evaluated f q.point ≡ FramePoints.lines_at f q.point.at ++ flat_map (lines_of_end f) (frame_edges f q.point)
        ++ (if list_any is_exit (frame_edges f q.point) then FramePoints.exit_lines f else [])
    own_lines h =
        ap (λ z. (if z then contract_lines (contract_at f.stepped q.point.at) else FramePoints.lines_at f q.point.at)
        ++ flat_map (lines_of_end f) (frame_edges f q.point) ++ (if list_any is_exit (frame_edges f q.point) then FramePoints.exit_lines f else [])) h

    check_sum : (l : ℕ) (g : Expr → ℕ) → (sum_by g (says (checks_of f q.point)) + l) + 0 + assumed_sum f g q.point
        ≡ sum_by g (FramePoints.lines_at f q.point.at) + l
    check_sum l g = let c = check_lines f g q.point in omega arith

    none_edges : frame_edges f q.point ≡ [] → (own : List Expr) →
        Tally q.exits 0 (λ g. sum_by g own) false → Tally q.exits (length (frame_edges f q.point))
        (λ g. sum_by g own + sum_by g (flat_map (lines_of_end f) (frame_edges f q.point))) (list_any is_exit (frame_edges f q.point))
    none_edges e own t = record {
      edges = t.edges ∙ sym (ap (λ (z : List EdgeEnd). length z) e);
      lines = λ g. t.lines g ∙ (let z : sum_by g (flat_map (lines_of_end f) (frame_edges f q.point)) ≡ 0 = ap (λ z. sum_by g (flat_map (lines_of_end f) z)) e in
          omega arith);
      out = t.out ∙ sym (ap (list_any is_exit) e);
    }

    last : (x : PointExit) → is_edge x ≡ 0 → line_of x ≡ [] → goes_out x ≡ false → q.exits ≡ map FalseCheck (checks_of f q.point) ++ x ∷ [] →
        Tally q.exits 0 (λ g. sum_by g (says (checks_of f q.point))) false
    last x e l o h =
        let t = checks 0 (λ g. 0) false (x ∷ []) (idle 0 (λ g. 0) false x [] e l o (record { edges = refl; lines = λ g. refl; out = refl }))
        (checks_of f q.point) in
        record {
          edges = ap (sum_by is_edge) h ∙ t.edges;
          lines = λ g. ap (λ z. sum_by g (flat_map line_of z)) h ∙ t.lines g ∙ (omega arith);
          out = ap (list_any goes_out) h ∙ t.out;
        }

    by_address : (o : Option Row) → file_row p q.point.at ≡ o → q.point.contract ≡ false → is_cut f q.point ≡ false →
        DoesAddress f contracts k u i q o → Counts q
    by_address None e c cut d =
        let none : frame_edges f q.point ≡ [] =
        ap (λ z. if z then filter (leads_on p.machine.narrow) (top_ends q.point.stack) else if is_cut f q.point then [] else edges p (triple q.point)) c
        ∙ ap (λ (z : Bool). if z then [] else edges p (triple q.point)) cut
        ∙ ap (λ z. distinct (filter (leads_on p.machine.narrow) (edges_by p (triple q.point) z))) e in
        let t = none_edges none (says (checks_of f q.point))
        (last (Always (ToEvent (OfStep (stop_event (fetchable p (file_word p q.point.at) q.point.at))))) refl refl refl d.1) in
        from_tally q (FramePoints.lines_at f q.point.at)
        (λ g. sum_by g (says (checks_of f q.point)) + sum_by g (flat_map (lines_of_end f) (frame_edges f q.point))) t (own_lines c)
        (λ g. ap (λ z. (sum_by g (says (checks_of f q.point)) + sum_by g (flat_map (lines_of_end f) (frame_edges f q.point))) + sum_by g (action_lines z)
        + assumed_sum f g q.point) d.0 ∙ check_sum (sum_by g (flat_map (lines_of_end f) (frame_edges f q.point))) g)
    by_address (Some row) e c cut d =
        let ends : ℕ = length (frame_edges f q.point) in
        let lines : (Expr → ℕ) → ℕ = λ g. sum_by g (flat_map (lines_of_end f) (frame_edges f q.point)) in
        let out : Bool = list_any is_exit (frame_edges f q.point) in
        let a = along f k u i q.point (Some row) d.0 d.2 in
        let t = checks ends lines out (Raising ∷ WritingKept ∷ (outside_exit f.own ++ Unaligned ∷ d.0))
        (idle ends lines out Raising (WritingKept ∷ (outside_exit f.own ++ Unaligned ∷ d.0)) refl refl refl
        (idle ends lines out WritingKept (outside_exit f.own ++ Unaligned ∷ d.0) refl refl refl
        (outside ends lines out f.own (Unaligned ∷ d.0) (idle ends lines out Unaligned d.0 refl refl refl a)))) (checks_of f q.point) in
        from_tally q (FramePoints.lines_at f q.point.at) (λ g. sum_by g (says (checks_of f q.point)) + lines g) (record {
          edges = ap (sum_by is_edge) d.1 ∙ t.edges;
          lines = λ g. ap (λ z. sum_by g (flat_map line_of z)) d.1 ∙ t.lines g;
          out = ap (list_any goes_out) d.1 ∙ t.out;
        }) (own_lines c)
        (λ g. ap (λ z. (sum_by g (says (checks_of f q.point)) + lines g) + sum_by g (action_lines z) + assumed_sum f g q.point) d.3.lists.1
        ∙ check_sum (lines g) g)

    by_cut : q.point.contract ≡ false → is_cut f q.point ≡ true → DoesCut f q → Counts q
    by_cut c cut d =
        let none : frame_edges f q.point ≡ [] =
        ap (λ z. if z then filter (leads_on p.machine.narrow) (top_ends q.point.stack) else if is_cut f q.point then [] else edges p (triple q.point)) c
        ∙ ap (λ (z : Bool). if z then [] else edges p (triple q.point)) cut in
        from_tally q (FramePoints.lines_at f q.point.at)
        (λ g. sum_by g (says (checks_of f q.point)) + sum_by g (flat_map (lines_of_end f) (frame_edges f q.point)))
        (none_edges none (says (checks_of f q.point)) (last (Always Cutting) refl refl refl d.1)) (own_lines c)
        (λ g. ap (λ z. (sum_by g (says (checks_of f q.point)) + sum_by g (flat_map (lines_of_end f) (frame_edges f q.point))) + sum_by g (action_lines z)
        + assumed_sum f g q.point) d.0 ∙ check_sum (sum_by g (flat_map (lines_of_end f) (frame_edges f q.point))) g)

    -- no contract's point is at a head
    off_head : q.point.contract ≡ true → is_head f q.point.at ≡ true → ⊥
    off_head c h =
        let e = at_head_first f k q.point is h in
        let x : true ≡ false = sym c ∙ ap (λ z. z.contract) e ∙ no_contract p.entry q.point.anchor in cc

    none_assumed : (g : Expr → ℕ) → q.point.contract ≡ true → (b : Bool) → is_head f q.point.at ≡ b → assumed_sum f g q.point ≡ 0
    none_assumed g c true h = absurd (off_head c h)
    none_assumed g c false h =
        ap (λ z. if z && not (is_entry q.point.anchor) then sum_by g (map (λ x. x.says) (filter (λ x. x.at == q.point.at) (invariants_of f p.notes.asserts)))
        else 0) h

    contract_sum : (a b c l : ℕ) → (a + l) + (b + c) + 0 ≡ a + b + c + l
    contract_sum a b c l = omega arith

    by_contract : (o : Option Contract) (stack : List ℕ) → contract_at f.stepped q.point.at ≡ o → q.point.contract ≡ true →
        DoesContract f k u i q o stack → Counts q
    by_contract None stack e c d = absurd d
    by_contract (Some x) [] e c d = absurd d
    by_contract (Some x) (to ∷ below) e c d =
        let ends : ℕ = length (frame_edges f q.point) in
        let lines : (Expr → ℕ) → ℕ = λ g. sum_by g (flat_map (lines_of_end f) (frame_edges f q.point)) in
        let out : Bool = list_any is_exit (frame_edges f q.point) in
        let a = along f k u i q.point None d.0 d.3 in
        let t = needs ends lines out (WritingKept ∷ (outside_exit f.own ++ NotGiven ∷ d.0))
        (idle ends lines out WritingKept (outside_exit f.own ++ NotGiven ∷ d.0) refl refl refl
        (outside ends lines out f.own (NotGiven ∷ d.0) (idle ends lines out NotGiven d.0 refl refl refl a))) x.needs in
        from_tally q (contract_lines (Some x)) (λ g. sum_by g (says_of x.needs) + lines g) (record {
          edges = ap (sum_by is_edge) d.2 ∙ t.edges;
          lines = λ g. ap (λ z. sum_by g (flat_map line_of z)) d.2 ∙ t.lines g;
          out = ap (list_any goes_out) d.2 ∙ t.out;
        })
        (ap (λ z. (if z then contract_lines (contract_at f.stepped q.point.at) else FramePoints.lines_at f q.point.at)
        ++ flat_map (lines_of_end f) (frame_edges f q.point) ++ (if list_any is_exit (frame_edges f q.point) then FramePoints.exit_lines f else [])) c
        ∙ ap (λ z. contract_lines z ++ flat_map (lines_of_end f) (frame_edges f q.point)
        ++ (if list_any is_exit (frame_edges f q.point) then FramePoints.exit_lines f else [])) e)
        (λ g. (let r = none_assumed g c (is_head f q.point.at) refl in
        let m : sum_by g (action_lines q.does) ≡ sum_by g (says_of x.gives ++ map (λ w. w.says) x.writes) = ap (λ z. sum_by g (action_lines z)) d.1 in
        let n = sum_by-append g (says_of x.gives) (map (λ w. w.says) x.writes) in
        let v = sum_by-append g (says_of x.needs ++ says_of x.gives) (map (λ w. w.says) x.writes) in
        let w = sum_by-append g (says_of x.needs) (says_of x.gives) in
        omega arith))

    by_kind : (contract cut : Bool) → q.point.contract ≡ contract → is_cut f q.point ≡ cut → DoesBy contract cut f contracts k u i q → Counts q
    by_kind true cut c t d = by_contract (contract_at f.stepped q.point.at) q.point.stack refl c d
    by_kind false true c t d = by_cut c t d
    by_kind false false c t d = by_address (file_row p q.point.at) refl c t d

    counts : IsPlace f contracts k u i q → Counts q
    counts h = by_kind q.point.contract (is_cut f q.point) refl refl h.does

  -- a place of the frame
  abbrev Placed : UnrolledPoint → Type 0
  Placed q = (i : ℕ) × IsPoint f k q.point × IsPlace f contracts k u i q

  each : (i : ℕ) → i < length u.points → Placed (slice_index_or u.points i no_point)
  each i l = (i, a_point f contracts k u un i l, un.places i l)

  count_of : (q : UnrolledPoint) → Placed q → Counts q
  count_of q h = counts h.0 q h.1 h.2

  abbrev flat : List Point
  flat = map (λ q. q.point) u.points

  -- sums over places
  sums : (a : UnrolledPoint → ℕ) (b : Point → ℕ) → ((q : UnrolledPoint) → Placed q → a q ≡ b q.point) → (qs : List UnrolledPoint) →
      ((i : ℕ) → i < length qs → Placed (slice_index_or qs i no_point)) → sum_by a qs ≡ sum_by b (map (λ q. q.point) qs)
  sums a b same [] all = refl
  sums a b same (q ∷ qs) all =
      sum_by-cons a q qs ∙ ap (λ z. z + sum_by a qs) (same q (all 0 (omega arith)))
      ∙ ap (λ z. b q.point + z) (sums a b same qs (λ i l. all (suc i) (omega arith))) ∙ sym (sum_by-cons b q.point (map (λ x. x.point) qs))

  two_sums : (a b : UnrolledPoint → ℕ) (qs : List UnrolledPoint) → sum_by (λ q. a q + b q) qs ≡ sum_by a qs + sum_by b qs
  two_sums a b [] = refl
  two_sums a b (q ∷ qs) =
      let x = sum_by-cons (λ q. a q + b q) q qs in let y = sum_by-cons a q qs in let z = sum_by-cons b q qs in let r = two_sums a b qs in omega arith

  line_sums : (g : Expr → ℕ) → sum_by g (point_lines u) + sum_by (assumed_sum f g) flat ≡ sum_by g (flat_map (evaluated f) flat)
  line_sums g =
      let a = flat_sum g (lines_at u) u.points in
      let b = flat_sum g (evaluated f) flat in
      let c = sums (λ q. assumed_sum f g q.point) (assumed_sum f g) (λ q h. refl) u.points each in
      let d = two_sums (λ q. sum_by g (lines_at u q)) (λ q. assumed_sum f g q.point) u.points in
      let e = sums (λ q. sum_by g (lines_at u q) + assumed_sum f g q.point) (λ q. sum_by g (evaluated f q)) (λ q h. (count_of q h).lines g) u.points each in
      omega arith

  -- the roots are the first points of heads, and the entry's
  abbrev firsts : List Point
  firsts = map (λ x. (point_at u x.place).point) u.roots

  abbrev heads : Point → Bool
  heads q = is_head f q.at && not (is_entry q.anchor)

  says_lines : (g : Expr → ℕ) (l : List Assert) → sum_by g (says_of (lines_of l)) ≡ sum_by g (map (λ x. x.says) l)
  says_lines g l = ap (sum_by g) (by l)
    where
      by : (l : List Assert) → says_of (lines_of l) ≡ map (λ x. x.says) l
      by [] = refl
      by (x ∷ l) = ap (λ z. x.says ∷ z) (by l)

  root_sum : (g : Expr → ℕ) (x : Root) → Contains u.roots x → sum_by g (says_of x.assumes) ≡ assumed_sum f g (point_at u x.place).point
  root_sum g x c = let it = un.roots x c in by it.0 it.1 it.2
    where
      by : (anchor : Anchor) → IsAnchor f k anchor → IsRootOf f u x anchor → sum_by g (says_of x.assumes) ≡ assumed_sum f g (point_at u x.place).point
      by AtEntry is root =
          ap (λ z. sum_by g (says_of z)) root.assumes ∙ sym (entry_none (is_head f p.entry)) ∙ sym (ap (assumed_sum f g) root.point)
        where
          entry_none : (b : Bool) →
              (if b && false then sum_by g (map (λ x. x.says) (filter (λ x. x.at == p.entry) (invariants_of f p.notes.asserts))) else 0) ≡ 0
          entry_none true = refl
          entry_none false = refl
      by (AtHead stack a) is root =
          ap (λ z. sum_by g (says_of z)) root.assumes ∙ says_lines g (filter (λ x. x.at == a) (invariants_of f p.notes.asserts))
          ∙ sym (ap (λ (b : Bool). if b && true then sum_by g (map (λ x. x.says) (filter (λ x. x.at == a) (invariants_of f p.notes.asserts))) else 0)
          (head_anchor f k (first_of p.entry (AtHead stack a)) is)) ∙ sym (ap (assumed_sum f g) root.point)

  root_sums : (g : Expr → ℕ) (xs : List Root) → ((x : Root) → Contains xs x → Contains u.roots x) →
      sum_by g (flat_map (λ x. says_of x.assumes) xs) ≡ sum_by (assumed_sum f g) (map (λ x. (point_at u x.place).point) xs)
  root_sums g [] h = refl
  root_sums g (x ∷ xs) h =
      sum_by-append g (says_of x.assumes) (flat_map (λ x. says_of x.assumes) xs)
      ∙ ap (λ z. z + sum_by g (flat_map (λ x. says_of x.assumes) xs)) (root_sum g x (h x (0, omega arith, refl)))
      ∙ ap (λ z. assumed_sum f g (point_at u x.place).point + z) (root_sums g xs (λ y c. h y (suc c.0, (let l = c.1 in omega arith), c.2)))
      ∙ sym (sum_by-cons (assumed_sum f g) (point_at u x.place).point (map (λ x. (point_at u x.place).point) xs))

  firsts_once : Once firsts
  firsts_once i j l h e = un.roots_once i j l in_roots same
    where
      in_roots : j < length u.roots
      in_roots = subst (λ z. j < z) (length-map u.roots (λ x. (point_at u x.place).point)) h

      its : (n : ℕ) → n < length u.roots → Contains u.roots (root_at u n)
      its n m = at_in u.roots n (root_at u n) (slice_get-get_or u.roots n no_root m)

      at : (n : ℕ) → n < length u.roots → slice_get firsts n ≡ Some ((point_at u (root_at u n).place).point)
      at n m =
          slice_get-map (λ x. (point_at u x.place).point) u.roots n
          ∙ ap (option_map (λ x. (point_at u x.place).point)) (slice_get-get_or u.roots n no_root m)

      some_is : (a b : Point) → Some a ≡ Some b → a ≡ b
      some_is a b s = cc

      same : (root_at u i).place ≡ (root_at u j).place
      same =
          let n : j < length u.roots = in_roots in
          let m : i < length u.roots = omega arith in
          same_place f contracts k u un (root_at u i).place (root_at u j).place (un.roots (root_at u i) (its i m)).2.place
          (un.roots (root_at u j) (its j in_roots)).2.place
          (some_is (point_at u (root_at u i).place).point (point_at u (root_at u j).place).point (sym (at i m) ∙ e ∙ at j in_roots))

  none_off : (g : Expr → ℕ) (q : Point) → heads q ≡ false → assumed_sum f g q ≡ 0
  none_off g q h = ap (λ (b : Bool). if b then sum_by g (map (λ x. x.says) (filter (λ x. x.at == q.at) (invariants_of f p.notes.asserts))) else 0) h

  to_first : (q : Point) → Contains (filter heads flat) q → Contains (filter heads firsts) q
  to_first q c =
      let it = of_filter heads flat q c in
      let is = un.points.only q it.0 in
      let e = at_head_first f k q is (and_both (is_head f q.at) (not (is_entry q.anchor)) it.1).0 in
      let r = un.rooted q.anchor (subst (IsPoint f k) e is) in
      in_filter heads firsts q (subst (Contains firsts) (r.2.point ∙ sym e) (in_map (λ x. (point_at u x.place).point) u.roots r.0 r.1)) it.1

  from_first : (q : Point) → Contains (filter heads firsts) q → Contains (filter heads flat) q
  from_first q c =
      let it = of_filter heads firsts q c in
      let m = of_map (λ x. (point_at u x.place).point) u.roots q it.0 in
      let l = (un.roots m.0 m.1).2.place in
      let inside = at_in u.points m.0.place (point_at u m.0.place) (slice_get-get_or u.points m.0.place no_point l) in
      in_filter heads flat q (subst (Contains flat) m.2 (in_map (λ q. q.point) u.points (point_at u m.0.place) inside)) it.1

  assumed_same : (g : Expr → ℕ) → sum_by (assumed_sum f g) flat ≡ sum_by g (root_lines u)
  assumed_same g =
      sym (filter_sum heads (assumed_sum f g) (none_off g) flat)
      ∙ same_sum (assumed_sum f g) (filter heads flat) (filter heads firsts) (filter_once heads flat un.points.once) (filter_once heads firsts firsts_once)
      to_first from_first
      ∙ filter_sum heads (assumed_sum f g) (none_off g) firsts ∙ sym (root_sums g u.roots (λ x c. c))

  -- so all lines are those of the frame
  all_lines : (g : Expr → ℕ) → sum_by g (FramePrices.lines_of u) ≡ sum_by g (FramePoints.entry_lines f ++ flat_map (evaluated f) flat)
  all_lines g =
      let a = sum_by-append g (entry_lines u ++ root_lines u) (point_lines u) in
      let b = sum_by-append g (entry_lines u) (root_lines u) in
      let c : sum_by g (entry_lines u) ≡ sum_by g (FramePoints.entry_lines f) = ap (sum_by g) (entries_by f.own refl) in
      let d = line_sums g in
      let e = assumed_same g in
      let h = sum_by-append g (FramePoints.entry_lines f) (flat_map (evaluated f) flat) in
      omega arith

  abbrev total : (h r e n x o l s kn ru : ℕ) → ℕ
  total h r e n x o l s kn ru =
      1024 + h + r + 1280 * e + n + x + 512 * (s * o) + 128 * l + 128 * s + 64 * (l * s) + 16 * (l * e) + 32 * (l * (l - 1)) + 40 * (l * kn) + 128 * (s * ru)

  totals : (h r e n x so l s ls le ll lk sr : ℕ) →
      1024 + h + r + e + n + x + so + sr + (l + s + ls + le + ll + lk) ≡ 1024 + h + r + e + n + x + so + l + s + ls + le + ll + lk + sr
  totals h r e n x so l s ls le ll lk sr = omega arith

  abbrev head_price : ℕ
  head_price = if has_heads f then 1024 else 0

  abbrev row_sum : ℕ
  row_sum = sum_by (λ q. q.row) u.points

  abbrev line_sum : ℕ
  line_sum = sum_by line_price (FramePrices.lines_of u)

  unrolled_total : unrolled_price u (has_heads f)
      ≡ total head_price row_sum (edges_of u) line_sum (own_exits u) (own_writes u) (loads_of u) (stores_of u) (known_of u) (length u.kept)
  unrolled_total =
      totals head_price row_sum (1280 * edges_of u) line_sum (own_exits u) (512 * (stores_of u * own_writes u)) (128 * loads_of u) (128 * stores_of u)
      (64 * (loads_of u * stores_of u)) (16 * (loads_of u * edges_of u)) (32 * (loads_of u * (loads_of u - 1))) (40 * (loads_of u * known_of u))
      (128 * (stores_of u * length u.kept))

  rows_same : row_sum ≡ sum_by (FramePoints.point_price f) flat
  rows_same = sums (λ q. q.row) (FramePoints.point_price f) (λ q h. h.2.counted.row) u.points each

  row_loads_same : sum_by (λ q. q.loads) u.points ≡ sum_by (FramePoints.point_loads f) flat
  row_loads_same = sums (λ q. q.loads) (FramePoints.point_loads f) (λ q h. h.2.counted.loads) u.points each

  stores_same : stores_of u ≡ sum_by (FramePoints.point_stores f) flat
  stores_same = sums (λ q. q.stores) (FramePoints.point_stores f) (λ q h. h.2.counted.stores) u.points each

  edges_same : edges_of u ≡ sum_by (λ q. length (frame_edges f q)) flat
  edges_same = sums (λ q. sum_by is_edge q.exits) (λ q. length (frame_edges f q)) (λ q h. (count_of q h).ends) u.points each

  outs_same : own_exits u ≡ sum_by (λ q. FramePoints.own_exit f.own (list_any is_exit (frame_edges f q))) flat
  outs_same =
      sums (λ q. own_exit u.own (list_any goes_out q.exits)) (λ q. FramePoints.own_exit f.own (list_any is_exit (frame_edges f q)))
      (λ q h. ap (λ z. own_exit z (list_any goes_out q.exits)) un.own ∙ ap (own_exit (own_of f.own)) (count_of q h).out
      ∙ exit_by f.own (list_any is_exit (frame_edges f q.point))) u.points each

  loads_same : loads_of u ≡ sum_by (FramePoints.point_loads f) flat + sum_by bytes_loaded (FramePoints.entry_lines f ++ flat_map (evaluated f) flat)
  loads_same =
      ap (λ z. z + sum_by bytes_loaded (FramePrices.lines_of u)) row_loads_same
      ∙ ap (λ z. sum_by (FramePoints.point_loads f) flat + z) (all_lines bytes_loaded)

  same_price : unrolled_price u (has_heads f) ≡ price_of f flat (known_of u) (length u.kept)
  same_price =
      unrolled_total
      ∙ ap (λ z. total head_price z (edges_of u) line_sum (own_exits u) (own_writes u) (loads_of u) (stores_of u) (known_of u) (length u.kept)) rows_same
      ∙ ap (λ z. total head_price (sum_by (FramePoints.point_price f) flat) z line_sum (own_exits u) (own_writes u) (loads_of u) (stores_of u) (known_of u)
      (length u.kept)) edges_same
      ∙ ap (λ z. total head_price (sum_by (FramePoints.point_price f) flat) (sum_by (λ q. length (frame_edges f q)) flat) z (own_exits u) (own_writes u)
      (loads_of u) (stores_of u) (known_of u) (length u.kept)) (all_lines line_price)
      ∙ ap (λ z. total head_price (sum_by (FramePoints.point_price f) flat) (sum_by (λ q. length (frame_edges f q)) flat)
      (sum_by line_price (FramePoints.entry_lines f ++ flat_map (evaluated f) flat)) z (own_writes u) (loads_of u) (stores_of u) (known_of u)
      (length u.kept)) outs_same
      ∙ ap (λ z. total head_price (sum_by (FramePoints.point_price f) flat) (sum_by (λ q. length (frame_edges f q)) flat)
      (sum_by line_price (FramePoints.entry_lines f ++ flat_map (evaluated f) flat))
      (sum_by (λ q. FramePoints.own_exit f.own (list_any is_exit (frame_edges f q))) flat) z (loads_of u) (stores_of u) (known_of u) (length u.kept))
      (writes_by f.own refl)
      ∙ ap (λ z. total head_price (sum_by (FramePoints.point_price f) flat) (sum_by (λ q. length (frame_edges f q)) flat)
      (sum_by line_price (FramePoints.entry_lines f ++ flat_map (evaluated f) flat))
      (sum_by (λ q. FramePoints.own_exit f.own (list_any is_exit (frame_edges f q))) flat) (FramePoints.own_writes f.own) z (stores_of u) (known_of u)
      (length u.kept)) loads_same
      ∙ ap (λ z. total head_price (sum_by (FramePoints.point_price f) flat) (sum_by (λ q. length (frame_edges f q)) flat)
      (sum_by line_price (FramePoints.entry_lines f ++ flat_map (evaluated f) flat))
      (sum_by (λ q. FramePoints.own_exit f.own (list_any is_exit (frame_edges f q))) flat) (FramePoints.own_writes f.own)
      (sum_by (FramePoints.point_loads f) flat + sum_by bytes_loaded (FramePoints.entry_lines f ++ flat_map (evaluated f) flat)) z (known_of u)
      (length u.kept)) stores_same

-- so are its byte loads those of the frame
pub loads_are : (f : Frame) (contracts : List Contract) (k : ℕ) (u : UnrolledProgram) → IsUnrolling f contracts k u →
    loads_of u ≡ loads_among f (map (λ q. q.point) u.points)
loads_are f contracts k u un = loads_same f contracts k u un

pub frame_price_is_price : FramePriceIsPrice
frame_price_is_price f contracts k u un =
    (map (λ q. q.point) u.points, known_of u, length u.kept, un.points, un.known_bytes, un.kept_runs, same_price f contracts k u un)
