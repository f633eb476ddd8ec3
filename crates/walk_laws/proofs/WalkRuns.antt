-- The walk of an unrolled program is the run of the reading.
use Rattle.std.proofs.Common.{◌≡◌, inl, inr, ℕ, zero, suc, ◌+◌, ◌%◌, ◌≤◌, ◌<◌, refl, ap, sym, ◌∙◌, subst, arith, List, [], ◌∷◌, ◌++◌, length, Option, Some, None, Bool, true, false}
use Rattle.std.specs.Prelude.{Contains, ◌==◌, ◌||◌, not, nat_le, if◌then◌else◌, ◌↔◌, map}
use Rattle.std.specs.List.{list_any, AllZip}
use Rattle.std.proofs.lemmas.Bool.Decides.{nat_tests}
use Rattle.std.proofs.lemmas.Option.{slice_get-get_or}
use Rattle.std.proofs.lemmas.Bool.{or_right}
use Rattle.word_spec.specs.Words.{add}
use Rattle.word_spec.specs.State.{State, IsState}
use Rattle.machine_spec.specs.Machine.{unit, is_place, IsAtPlace, Row, How, On, Outcome, Goes, Raises, Exception, EnvironmentCall, Breakpoint, SoftwareInterrupt, OddHalfword, UnalignedLoad, addresses, exception_number}
use Rattle.machine_spec.specs.MachineLaws.{IsLawful, IsSuccessor, ComesNext, LeavesState, IfRaises}
use Rattle.bilv_spec.specs.Run.{Program, Place, Step, Stops, Run, Going, Exited, Failed, Turned, step, after_step, arrive, turn, exit_by, transfer, aligned_transfer, going_on, after_row, by_row, by_fetch, after_asserts, false_assert, false_line, fetchable, is_kept, writes_kept, exception_event}
use Rattle.machine_spec.specs.Endings.{CodeWritten, AlignFails, JumpFails, FetchFails}
use Rattle.bilv_spec.specs.Points.{Point, EdgeEnd, ToAddress, ToExit, end_of, edges, file_row, file_word, IsPoint, first, next, is_kept_at}
use Rattle.bilv_spec.specs.LiveFlags.{IsRead, IsReadAfter, by_assert, on_path, at_exit}
use Rattle.bilv_spec.specs.Graph.{LeadsTo}
use Rattle.bilv_spec.specs.Questions.{Reading, by_file, point_of, read_run, read_on, IsEntryStateOver}
use Rattle.bilv_spec.specs.PointLaws.{HasLawfulRows, IsInGraph}
use Rattle.walk_spec.specs.Unrolled.{Carried, state_at, Aim, OnTo, Outward, OverLast, ToEvent, PointExit, Always, Raising, WritingKept, Unaligned, UnrolledPoint, UnrolledProgram, no_point, is_in, point_at, Leaving, GoesOn, RaisesOne, IsStuck, leaving, stored_at, first_aim, number_event, carried_on, next_address, Walk, WalkIsAt, WalkExits, WalkFails, WalkTurns, out_by, walk_to, walk_from, walk_on, walk}
use Rattle.walk_spec.specs.Unrolling.{IsCarriedOf, jumps, LeavesAs, HoldsLiteral, DoesRow, IsEdge, AreEdgesOf, DoesPlace, assert_exits, stop_event, IsPlace, IsUnrolling}
use Rattle.term_spec.specs.TermLaws.{AsksLiterals}
use Rattle.walk_laws.specs.RunOfWalk.{IsSame, WalkIsRun}
use Rattle.bilv_spec.proofs.Pigeons.{truth, at_in}
use Rattle.bilv_spec.proofs.PointSteps.{same_number, and_both, in_map, steps_along}
use Rattle.bilv_spec.proofs.PointTests.{any_is, not_any}
use Rattle.bilv_spec.proofs.PointRuns.{Stands, stepped}
use Rattle.bilv_spec.proofs.PointsInGraph.{points_are_in_graph, of_map}
use Rattle.bilv_spec.proofs.FileWords.{Sound, Standing, stepped_in, step_in, kept_number}
use Rattle.walk_spec.proofs.WalkEdges.{first_hit, takes, found, of_row, step_is, step_of}
use Rattle.walk_spec.proofs.HitOrder.{any_order}
use Rattle.walk_spec.proofs.WalkSteps.{false_line_same, assert_or, asserts_aim, Chosen, chosen}

-- some element passes, by the same elements and the same test
any_elements : (f : ℕ → Bool) (xs ys : List ℕ) → ((a : ℕ) → Contains xs a ↔ Contains ys a) → list_any f xs ≡ list_any f ys
any_elements f xs ys h = elim (truth (list_any f xs)) [
  | inl t ↦ (let q = any_is f xs t in elim (truth (list_any f ys)) [ inl y ↦ t ∙ sym y | inr n ↦ absurd (not_any f ys n q.0 ((h q.0).0 q.1) q.2) ])
  | inr n ↦ elim (truth (list_any f ys)) [ inl y ↦ (let q = any_is f ys y in absurd (not_any f xs n q.0 ((h q.0).1 q.1) q.2)) | inr m ↦ n ∙ sym m ]
]

any_test : (f g : ℕ → Bool) (xs : List ℕ) → ((a : ℕ) → f a ≡ g a) → list_any f xs ≡ list_any g xs
any_test f g [] h = refl
any_test f g (x ∷ xs) h = ap (λ z. z || list_any f xs) (h x) ∙ ap (λ z. g x || z) (any_test f g xs h)

raised_same : (e : Exception) → number_event (exception_number e) ≡ exception_event false e
raised_same EnvironmentCall = refl
raised_same Breakpoint = refl
raised_same SoftwareInterrupt = refl
raised_same OddHalfword = refl
raised_same UnalignedLoad = refl

tests_equal : (a b : ℕ) → a ≡ b → (a == b) ≡ true
tests_equal a b e = grind (arith, nat_tests)

tests_less : (a b : ℕ) → a < b → (a == b) ≡ false
tests_less a b h = grind (arith, nat_tests)

within : (p : Program) (k : ℕ) (x : Point) → IsPoint p k x → x.turns ≤ k
within p k x first = omega arith
within p k x (next h edge l) = l

module _ (p : Program) (k : ℕ) (u : UnrolledProgram) (un : IsUnrolling p k u) (entry : State) (i n turns : ℕ) (old : State) (stack : List ℕ) (turns_fit : turns
    ≤ k)
    (graph : IsInGraph p (record { turns = turns; stack = stack; at = old.pc })) where
  abbrev here : Point
  here = record { turns = turns; stack = stack; at = old.pc }

  abbrev after : Step → Run
  after s = after_step k turns n old.pc s

  a_point : (j : ℕ) → j < length u.points → IsPoint p k (point_at u j).point
  a_point j h =
      un.points.only (point_at u j).point
      (in_map (λ q. q.point) u.points (point_at u j) (at_in u.points j (point_at u j) (slice_get-get_or u.points j no_point h)))

  -- what is read at the next point is read after this one
  carried_to : (new : State) (c : Carried) → LeadsTo p old.pc new.pc → IsCarriedOf (λ f. IsReadAfter p f old.pc) new c →
      IsCarriedOf (λ f. IsRead p f new.pc) new c
  carried_to new c leads h = record { state = h.state; regs = h.regs; mem = h.mem; flags = λ f r. h.flags f (on_path leads r) }

  arrives : (b : Bool) (j : ℕ) (l : List ℕ) (new : State) (c : Carried) → j < length u.points → (if b then turns + 1 else turns) ≤ k →
      (point_at u j).point ≡ (record { turns = (if b then turns + 1 else turns); stack = l; at = new.pc }) → IsCarriedOf (λ f. IsRead p f new.pc) new c →
      IsSame p u (WalkIsAt j c) (arrive b k turns n old.pc (record { state = new; stack = l }))
  arrives false j l new c h w e g = (h, e, g)
  arrives true j l new c h w e g =
      let t : (turns == k) ≡ false = tests_less turns k (omega arith) in
      subst (λ (z : Bool). IsSame p u (WalkIsAt j c) (turn z turns n old.pc (record { state = new; stack = l }))) (sym t) (h, e, g)

  passes : (b : Bool) (l : List ℕ) (new : State) → (if b then turns + 1 else turns) ≡ suc k →
      IsSame p u WalkTurns (arrive b k turns n old.pc (record { state = new; stack = l }))
  passes false l new e = absurd (omega arith)
  passes true l new e =
      let t : (turns == k) ≡ true = tests_equal turns k (omega arith) in
      subst (λ (z : Bool). IsSame p u WalkTurns (turn z turns n old.pc (record { state = new; stack = l }))) (sym t) tt

  leaves_by : (o : Option ℕ) (new : State) → IsSame p u (out_by o) (after (exit_by o new))
  leaves_by None new = tt
  leaves_by (Some line) new = refl

  module _ (new : State) (c : Carried) (carried : IsCarriedOf (λ f. IsReadAfter p f old.pc) new c) where
    exit_same : Contains (edges p here) ToExit → IsSame p u (out_by (false_line u.endian u.ensures (state_at c new.pc) entry))
        (after (exit_by (false_line p.machine.endian p.notes.ensures new entry) new))
    exit_same h =
        let lines : false_line u.endian u.ensures (state_at c new.pc) entry ≡ false_line p.machine.endian p.notes.ensures new entry
        = ap (λ z. false_line z u.ensures (state_at c new.pc) entry) un.endian ∙ ap (λ z. false_line p.machine.endian z (state_at c new.pc) entry) un.ensures
        ∙ false_line_same p.machine.endian p.notes.ensures (state_at c new.pc) new entry
        (record { pc = refl; regs = carried.regs; mem = carried.mem; flags = λ f r. carried.flags f (at_exit (graph.exits h) (or_right (p.out f) _ r)) }) in
        subst (λ (z : Option ℕ). IsSame p u (out_by z) (after (exit_by (false_line p.machine.endian p.notes.ensures new entry) new))) (sym lines)
        (leaves_by (false_line p.machine.endian p.notes.ensures new entry) new)

    module _ (row : Row) where
      abbrev its_step : Option EdgeEnd → Step
      its_step o = step_of p u entry old new row turns stack un.link o

      edge_same : (o : Option EdgeEnd) (aim : Aim) → Chosen u k i here o aim → ((t : EdgeEnd) → o ≡ Some t → Contains (edges p here) t) →
          ((l : List ℕ) (a : ℕ) → o ≡ Some (ToAddress l a) → new.pc ≡ a) → IsSame p u (walk_to u entry (state_at c new.pc) aim) (after (its_step o))
      edge_same None aim h inside to = subst (λ (z : Aim). IsSame p u (walk_to u entry (state_at c new.pc) z) (after (Stops JumpFails))) (sym h) refl
      edge_same (Some ToExit) Outward h inside to = exit_same (inside ToExit refl)
      edge_same (Some ToExit) (OnTo j) h inside to = absurd h
      edge_same (Some ToExit) OverLast h inside to = absurd h
      edge_same (Some ToExit) (ToEvent e) h inside to = absurd h
      edge_same (Some (ToAddress l a)) Outward h inside to = absurd h
      edge_same (Some (ToAddress l a)) (ToEvent e) h inside to = absurd h
      edge_same (Some (ToAddress l a)) (OnTo j) h inside to =
          let same : new.pc ≡ a = to l a refl in
          let at : (point_at u j).point ≡ end_of here l new.pc = h.2 ∙ ap (end_of here l) (sym same) in
          let leads : LeadsTo p old.pc new.pc = subst (λ (z : ℕ). LeadsTo p old.pc z) (sym same) (graph.leads l a (inside (ToAddress l a) refl)) in
          arrives (nat_le new.pc old.pc) j l new c h.1 (within p k (end_of here l new.pc) (subst (λ (z : Point). IsPoint p k z) at (a_point j h.1))) at
          (carried_to new c leads carried)
      edge_same (Some (ToAddress l a)) OverLast h inside to =
          passes (nat_le new.pc old.pc) l new (ap (λ z. (end_of here l z).turns) (to l a refl) ∙ h)

      module _ (is : file_row p old.pc ≡ Some row) (now : State) (writes : Bool) (how : How) (ends : List EdgeEnd) (are : AreEdgesOf p here ends)
          (exits : List PointExit) (zip : AllZip (IsEdge p k u i here row) ends exits)
          (successor : IsSuccessor (row.successors old.pc) (Goes how new)) (comes : how ≡ On → new.pc ≡ add 32 old.pc row.length)
          (one_way : (row.successors old.pc).indirect ≡ true → (row.successors old.pc).direct ≡ None) where
        abbrev hit : EdgeEnd → Bool
        hit t = takes p u entry old new row turns stack un.link (jumps how) t

        landing : (t : EdgeEnd) (l : List ℕ) (a : ℕ) → t ≡ ToAddress l a → hit t ≡ true → new.pc ≡ a
        landing ToExit l a e h = absurd (cc)
        landing (ToAddress m b) l a e h =
            let r = and_both _ (new.pc == b) h in
            let s : b ≡ a = cc in
            same_number new.pc b r.1 ∙ s

        along_same : IsAtPlace p.machine.narrow new.pc → IsSame p u (walk_to u entry (state_at c new.pc) (first_aim u entry now writes (GoesOn (jumps how) new.pc c) exits))
            (after (transfer (by_file p) entry row old stack how new))
        along_same aligned =
            let o : Option EdgeEnd = first_hit hit ends in
            let which : its_step o ≡ transfer (by_file p) entry row old stack how new
            = ap its_step (sym (any_order p u entry old new row turns stack un.link is one_way (jumps how) ends are))
            ∙ ap its_step (of_row p u entry old new row turns stack un.link aligned is
            (jumps how)) ∙ step_is p u entry old new row turns stack un.link how successor comes one_way in
            subst (λ (z : Step). IsSame p u (walk_to u entry (state_at c new.pc) (first_aim u entry now writes (GoesOn (jumps how) new.pc c) exits))
            (after z)) which
            (edge_same (first_hit hit ends) (first_aim u entry now writes (GoesOn (jumps how) new.pc c) exits)
            (chosen p k i u entry now old new row turns stack un.link writes (jumps how) new.pc c refl ends exits zip)
            (λ t e. (are.same t).1 (found hit ends t e).1)
            (λ l a e. landing (ToAddress l a) l a refl (found hit ends (ToAddress l a) e).0))

        aligned_same : (b : Bool) → is_place p.machine.narrow new.pc ≡ b →
            IsSame p u (walk_to u entry (state_at c new.pc) (if not b then ToEvent AlignFails
            else first_aim u entry now writes (GoesOn (jumps how) new.pc c) exits))
            (after (aligned_transfer b (by_file p) entry row old stack how new))
        aligned_same true e = along_same (same_number (new.pc % unit p.machine.narrow) 0 e)
        aligned_same false e = refl

        going_same : (b : Bool) →
            IsSame p u (walk_to u entry (state_at c new.pc) (if b then ToEvent CodeWritten else if not (is_place u.narrow new.pc) then ToEvent AlignFails
            else first_aim u entry now writes (GoesOn (jumps how) new.pc c) exits))
            (after (going_on b (by_file p) entry row old stack how new))
        going_same true = refl
        going_same false =
            subst (λ (m : Bool). IsSame p u (walk_to u entry (state_at c new.pc) (if not (is_place m new.pc) then ToEvent AlignFails
            else first_aim u entry now writes (GoesOn (jumps how) new.pc c) exits))
            (after (going_on false (by_file p) entry row old stack how new))) (sym un.narrow)
            (aligned_same (is_place p.machine.narrow new.pc) refl)

module _ (p : Program) (lawful : HasLawfulRows p) (k : ℕ) (u : UnrolledProgram) (un : IsUnrolling p k u) (asked : ℕ → Bool) (asks : AsksLiterals p k asked)
    (entry : State) (i n turns choice : ℕ) (small : choice < 4) (old : State) (stack : List ℕ) (turns_fit : turns ≤ k)
    (met : IsPoint p k (record { turns = turns; stack = stack; at = old.pc })) (sound : Sound p asked old) (c : Carried) (carried : IsCarriedOf
    (λ f. IsRead p f old.pc) old c) where
  abbrev spot : Point
  spot = record { turns = turns; stack = stack; at = old.pc }

  graph : IsInGraph p (record { turns = turns; stack = stack; at = old.pc })
  graph = points_are_in_graph p k spot met

  abbrev then_is : Step → Run
  then_is s = after_step k turns n old.pc s

  module _ (q : UnrolledPoint) (at : q.point ≡ record { turns = turns; stack = stack; at = old.pc }) where
    abbrev l : Leaving
    l = leaving q choice c

    abbrev now : State
    now = state_at c q.point.at

    abbrev writes : Bool
    writes = list_any (is_in u.kept) (stored_at q choice c)

    abbrev go_to : Aim → Walk
    go_to aim = walk_to u entry (state_at (carried_on l c) (next_address l)) aim

    module _ (row : Row) (is : file_row p old.pc ≡ Some row) (does : DoesRow p q row) (ends : List EdgeEnd) (are : AreEdgesOf p spot ends)
        (exits : List PointExit) (zip : AllZip (IsEdge p k u i spot row) ends exits) where
      law : IsLawful row
      law = lawful old.pc row is

      literal : HoldsLiteral p row old
      literal a e h = kept_number p asked old sound.0 a (λ j s. asks a j
          (record { point = spot; is_point = met; row = row; is_row = is; loads = e; is_kept = h }) s) h

      pc : old.pc ≡ q.point.at
      pc = ap (λ z. z.at) (sym at)

      writes_same : (how : How) (new : State) → row.effect old choice ≡ Goes how new → writes ≡ writes_kept (by_file p) row old
      writes_same how new e =
          any_test (is_in u.kept) (is_kept_at p) (stored_at q choice c) un.kept
          ∙ any_elements (is_kept_at p) (stored_at q choice c) (addresses (row.stored old))
          (does.stores old c choice sound.1 pc small literal carried)

      quiet : (e : Exception) → row.effect old choice ≡ Raises e → writes_kept (by_file p) row old ≡ false
      quiet e h = ap (λ z. list_any (λ a. is_kept (p.loaded a)) (addresses z)) (subst
          (λ z. IfRaises z (row.stored old ≡ None)) h (law.raised old choice sound.1))

      abbrev tries : Leaving → List PointExit → Aim
      tries m xs = first_aim u entry now writes m xs

      outcome_same : (o : Outcome) (m : Leaving) → row.effect old choice ≡ o → LeavesAs (λ f. IsReadAfter p f old.pc) o m →
          IsSame p u (walk_to u entry (state_at (carried_on m c) (next_address m)) (tries m (Raising ∷ WritingKept ∷ Unaligned ∷ exits)))
          (then_is (after_row (by_file p) entry row old stack (writes_kept (by_file p) row old) o))
      outcome_same (Raises e) (GoesOn jumped to d) h a = absurd a
      outcome_same (Raises e) IsStuck h a = absurd a
      outcome_same (Raises e) (RaisesOne m) h a = ap number_event a ∙ raised_same e ∙ ap (λ z. exception_event z e) (sym (quiet e h))
      outcome_same (Goes how new) (RaisesOne m) h a = absurd a
      outcome_same (Goes how new) IsStuck h a = absurd a
      outcome_same (Goes how new) (GoesOn jumped to d) h a =
          let good : IsState new = subst LeavesState h (law.states old choice sound.1) in
          let next_is : ComesNext row.length old (Goes how new) = subst (ComesNext row.length old) h (law.next old choice sound.1) in
          let way : IsSuccessor (row.successors old.pc) (Goes how new) = subst (IsSuccessor (row.successors old.pc)) h (law.successors old choice sound.1) in
          let there = going_same p k u un entry i n turns old stack turns_fit graph new d a.2 row is now writes how ends are exits zip way next_is
          (law.one_way old.pc)
          (writes_kept (by_file p) row old) in
          let same : writes ≡ writes_kept (by_file p) row old = writes_same how new h in
          subst (λ (z : Bool). IsSame p u (walk_to u entry (state_at d to) (tries (GoesOn z to d) (Raising ∷ WritingKept ∷ Unaligned ∷ exits)))
          (then_is (after_row (by_file p) entry row old stack (writes_kept (by_file p) row old) (Goes how new)))) (sym a.0)
          (subst (λ (z : ℕ). IsSame p u (walk_to u entry (state_at d z) (tries (GoesOn (jumps how) z d) (Raising ∷ WritingKept ∷ Unaligned ∷ exits)))
          (then_is (after_row (by_file p) entry row old stack (writes_kept (by_file p) row old) (Goes how new)))) (sym a.1)
          (subst (λ (z : Bool). IsSame p u (walk_to u entry (state_at d new.pc) (if z then ToEvent CodeWritten
          else tries (GoesOn (jumps how) new.pc d) (Unaligned ∷ exits)))
          (then_is (after_row (by_file p) entry row old stack (writes_kept (by_file p) row old) (Goes how new)))) (sym same) there))

      row_same : IsSame p u (go_to (tries l (Raising ∷ WritingKept ∷ Unaligned ∷ exits)))
          (then_is (by_row (by_file p) entry (record { state = old; stack = stack }) choice (Some row)))
      row_same = outcome_same (row.effect old choice) l refl (does.leaves old c choice sound.1 pc small literal carried)

    -- where there is no row
    no_row : (b : Bool) (o : Option Row) → fetchable p (file_word p old.pc) old.pc ≡ b → (if b then o else None) ≡ None →
        IsSame p u (WalkFails (stop_event (fetchable p (file_word p q.point.at) q.point.at))) (then_is (if b
        then by_row (by_file p) entry (record { state = old; stack = stack }) choice o else Stops FetchFails))
    no_row false o e h = ap stop_event (ap (λ z. fetchable p (file_word p z.at) z.at) at ∙ e)
    no_row true None e h = ap stop_event (ap (λ z. fetchable p (file_word p z.at) z.at) at ∙ e)
    no_row true (Some row) e h = absurd (cc)

    asserts_same : (rest : List PointExit) → q.exits ≡ assert_exits p q.point ++ rest → (o : Option ℕ) →
        false_assert p.machine.endian p.notes.asserts old entry ≡ o →
        first_aim u entry now writes l q.exits ≡ assert_or o (first_aim u entry now writes l rest)
    asserts_same rest e o h =
        ap (first_aim u entry now writes l) (e ∙ ap (λ z. assert_exits p z ++ rest) at)
        ∙ asserts_aim u entry now old writes l rest p.notes.asserts (record {
          pc = ap (λ z. z.at) (sym at);
          regs = sym carried.regs;
          mem = sym carried.mem;
          flags = λ f r. sym (carried.flags f (by_assert r));
        })
        ∙ ap (λ z. assert_or (false_assert z p.notes.asserts old entry) (first_aim u entry now writes l rest)) un.endian
        ∙ ap (λ z. assert_or z (first_aim u entry now writes l rest)) h

    abbrev place : Place
    place = record { state = old; stack = stack }

    combine : (rest : List PointExit) → q.exits ≡ assert_exits p q.point ++ rest → (o : Option ℕ) →
        false_assert p.machine.endian p.notes.asserts old entry ≡ o →
        IsSame p u (go_to (first_aim u entry now writes l rest)) (then_is (by_fetch (fetchable p (file_word p old.pc) old.pc) (by_file p) entry place choice)) →
        IsSame p u (go_to (first_aim u entry now writes l q.exits)) (then_is (after_asserts o (by_file p) entry place choice))
    combine rest e (Some line) h inner =
        subst (λ (z : Aim). IsSame p u (go_to z) (then_is (after_asserts (Some line) (by_file p) entry place choice)))
        (sym (asserts_same rest e (Some line) h)) refl
    combine rest e None h inner =
        subst (λ (z : Aim). IsSame p u (go_to z) (then_is (after_asserts None (by_file p) entry place choice))) (sym (asserts_same rest e None h)) inner

    fetched : (b : Bool) (o : Option Row) → fetchable p (file_word p old.pc) old.pc ≡ b → p.machine.row (file_word p old.pc) ≡ o → (w : Walk) →
        IsSame p u w (then_is (if b then by_row (by_file p) entry place choice o else Stops FetchFails)) →
        IsSame p u w (then_is (by_fetch (fetchable p (file_word p old.pc) old.pc) (by_file p) entry place choice))
    fetched false o e r w h = subst (λ (z : Bool). IsSame p u w (then_is (by_fetch z (by_file p) entry place choice))) (sym e) h
    fetched true o e r w h =
        subst (λ (z : Bool). IsSame p u w (then_is (by_fetch z (by_file p) entry place choice))) (sym e)
        (subst (λ (z : Option Row). IsSame p u w (then_is (by_row (by_file p) entry place choice z))) (sym r) h)

    step_same : (b : Bool) (o : Option Row) → fetchable p (file_word p old.pc) old.pc ≡ b → p.machine.row (file_word p old.pc) ≡ o → DoesPlace p k u i q (if b then o else None) →
        IsSame p u (go_to (first_aim u entry now writes l q.exits)) (then_is (step (by_file p) entry place choice))
    step_same false o e r at_place =
        combine (Always (stop_event (fetchable p (file_word p q.point.at) q.point.at)) ∷ []) at_place.1 (false_assert p.machine.endian p.notes.asserts old entry) refl
        (fetched false o e r (WalkFails (stop_event (fetchable p (file_word p q.point.at) q.point.at))) (no_row false o e refl))
    step_same true None e r at_place =
        combine (Always (stop_event (fetchable p (file_word p q.point.at) q.point.at)) ∷ []) at_place.1 (false_assert p.machine.endian p.notes.asserts old entry) refl
        (fetched true None e r (WalkFails (stop_event (fetchable p (file_word p q.point.at) q.point.at))) (no_row true None e refl))
    step_same true (Some row) e r at_place =
        let is : file_row p old.pc ≡ Some row = ap (λ z. if z then p.machine.row (file_word p old.pc) else None) e ∙ r in
        let are : AreEdgesOf p spot at_place.2.0 = subst (λ (z : Point). AreEdgesOf p z at_place.2.0) at at_place.2.1 in
        let zip : AllZip (IsEdge p k u i spot row) at_place.2.0 at_place.0 = subst
        (λ (z : Point). AllZip (IsEdge p k u i z row) at_place.2.0 at_place.0) at at_place.2.2 in
        combine (Raising ∷ WritingKept ∷ Unaligned ∷ at_place.0) at_place.1 (false_assert p.machine.endian p.notes.asserts old entry) refl
        (fetched true (Some row) e r (go_to (first_aim u entry now writes l (Raising ∷ WritingKept ∷ Unaligned ∷ at_place.0)))
        (row_same row is at_place.3 at_place.2.0 are at_place.0 zip))

    pub point_same : IsPlace p k u i q (file_row p q.point.at) → IsSame p u (walk_from u entry q choice c) (then_is (step (by_file p) entry place choice))
    point_same h =
        step_same (fetchable p (file_word p old.pc) old.pc) (p.machine.row (file_word p old.pc)) refl refl (subst (λ (z : Point). DoesPlace p k u i q (file_row p z.at)) at h.does)

module _ (p : Program) (lawful : HasLawfulRows p) (k : ℕ) (u : UnrolledProgram) (un : IsUnrolling p k u) (asked : ℕ → Bool) (asks : AsksLiterals p k asked)
    (r : Reading) (small : (point : Point) → r.choice point < 4) where
  one : (w : Walk) (x : Run) → IsSame p u w x → Stands p k x → Standing (Sound p asked) k x → IsSame p u (walk_on u r w) (read_on p k r x)
  one (WalkIsAt i c) (Going turns n d) h s g =
      subst (λ (z : Point). IsSame p u (walk_from u r.state (point_at u i) (r.choice z) c)
      (after_step k turns n d.state.pc (step (by_file p) r.state d (r.choice (point_of turns d))))) (sym h.1)
      (point_same p lawful k u un asked asks r.state i n turns (r.choice (point_of turns d)) (small (point_of turns d)) d.state d.stack s.2
      s.0 g c h.2 (point_at u i) h.1 (un.places i h.0))
  one (WalkIsAt i c) (Exited at n) h s g = absurd h
  one (WalkIsAt i c) (Failed e at n) h s g = absurd h
  one (WalkIsAt i c) (Turned at n) h s g = absurd h
  one WalkExits (Exited at n) h s g = tt
  one WalkExits (Going turns n d) h s g = absurd h
  one WalkExits (Failed e at n) h s g = absurd h
  one WalkExits (Turned at n) h s g = absurd h
  one (WalkFails e) (Failed f at n) h s g = h
  one (WalkFails e) (Going turns n d) h s g = absurd h
  one (WalkFails e) (Exited at n) h s g = absurd h
  one (WalkFails e) (Turned at n) h s g = absurd h
  one WalkTurns (Turned at n) h s g = tt
  one WalkTurns (Going turns n d) h s g = absurd h
  one WalkTurns (Exited at n) h s g = absurd h
  one WalkTurns (Failed e at n) h s g = absurd h

  stands_on : (x : Run) → Stands p k x → Stands p k (read_on p k r x)
  stands_on (Going turns n d) h =
      stepped p k n (point_of turns d) (step (by_file p) r.state d (r.choice (point_of turns d))) h.2 h.0
      (steps_along p lawful turns (r.choice (point_of turns d)) r.state d h.1)
  stands_on (Exited at n) h = tt
  stands_on (Failed e at n) h = tt
  stands_on (Turned at n) h = tt

  sound_on : (x : Run) → Standing (Sound p asked) k x → Standing (Sound p asked) k (read_on p k r x)
  sound_on (Going turns n d) h =
      stepped_in (Sound p asked) k turns n d.state.pc (step (by_file p) r.state d (r.choice (point_of turns d)))
      (step_in p asked lawful r.state d (r.choice (point_of turns d)) h)
  sound_on (Exited at n) h = tt
  sound_on (Failed e at n) h = tt
  sound_on (Turned at n) h = tt

  module _ (is : IsEntryStateOver p asked r.state) where
    pub stands : (n : ℕ) → Stands p k (read_run p k r n)
    unfolding read_run
    stands zero = (subst (λ (z : ℕ). IsPoint p k (record { turns = 0; stack = []; at = z })) (sym is.pc) first, is.state, omega arith)
    stands (suc n) = stands_on (read_run p k r n) (stands n)

    pub sound : (n : ℕ) → Standing (Sound p asked) k (read_run p k r n)
    unfolding read_run
    sound zero = ((λ a c l e h q. is.bytes a c l e q), is.state)
    sound (suc n) = sound_on (read_run p k r n) (sound n)

    some : Contains (map (λ q. q.point) u.points) (record { turns = 0; stack = []; at = p.entry }) → 0 < length u.points
    some h = let q = of_map (λ q. q.point) u.points (record { turns = 0; stack = []; at = p.entry }) h in let l = q.1.1 in omega arith

    walk_same : (n : ℕ) → IsSame p u (walk u r n) (read_run p k r n)
    unfolding walk read_run
    walk_same zero = (
      some (un.points.all (record { turns = 0; stack = []; at = p.entry }) first),
      un.first ∙ ap (λ z. record { turns = 0; stack = []; at = z }) (sym is.pc),
      record { state = is.state; regs = refl; mem = refl; flags = λ f h. refl },
    )
    walk_same (suc n) = one (walk u r n) (read_run p k r n) (walk_same n) (stands n) (sound n)

pub walk_is_run : WalkIsRun
walk_is_run p lawful k u un asked asks r small is steps = walk_same p lawful k u un asked asks r small is steps
