-- Where the walk of a reading leaves the function, the run of the reading exits, and in the same state as far as anything looks at it.
use Rattle.std.proofs.Common.{◌≡◌, refl, ap, sym, ◌∙◌, subst, ℕ, suc, ◌<◌, List, [], ◌∷◌, Option, Some, None, Bool, true, false}
use Rattle.std.specs.Prelude.{◌==◌, if◌then◌else◌}
use Rattle.std.specs.List.{list_any}
use Rattle.word_spec.specs.State.{State}
use Rattle.machine_spec.specs.Machine.{Row, How, On, Direct, DirectCall, Indirect, IndirectCall, Outcome, Goes, Raises, is_place}
use Rattle.bilv_spec.specs.Run.{Program, Place, Step, Exits, Run, Going, Exited, Failed, Turned, false_line, false_assert, fetchable, exit_by, allowed, exit_or, return_or, leave, is_named, transfer, aligned_transfer, going_on, writes_kept, after_row, by_row, by_fetch, after_asserts, step, after_step}
use Rattle.bilv_spec.specs.Points.{Point, file_row, file_word}
use Rattle.bilv_spec.specs.LiveFlags.{IsReadAfter, at_exit, ensures_flag}
use Rattle.bilv_spec.specs.Questions.{Reading, IsEntryStateOver, by_file, point_of, read_run, read_on}
use Rattle.bilv_spec.specs.PointLaws.{HasLawfulRows, GoesAlong}
use Rattle.bilv_spec.proofs.PointSteps.{steps_along}
use Rattle.bilv_spec.proofs.PointRuns.{Stands}
use Rattle.bilv_spec.proofs.PointsInGraph.{points_are_in_graph}
use Rattle.bilv_spec.proofs.FileWords.{Sound, Standing, kept_number}
use Rattle.bilv_spec.proofs.ReadingRuns.{Numbered, numbered, start_of, followed, follows}
use Rattle.walk_spec.specs.Unrolled.{Carried, state_at, Aim, OnTo, Outward, OverLast, ToEvent, UnrolledProgram, is_in, point_at, Leaving, GoesOn, RaisesOne, IsStuck, leaving, stored_at, first_aim, carried_on, next_address, Walk, WalkIsAt, WalkExits, WalkFails, WalkTurns, out_by, walk_to, walk_on, walk}
use Rattle.walk_spec.specs.Unrolling.{IsCarriedOf, LeavesAs, HoldsLiteral, DoesPlace, IsUnrolling}
use Rattle.term_spec.specs.TermLaws.{AsksLiterals}
use Rattle.walk_laws.specs.RunOfWalk.{IsSame}
use Rattle.walk_laws.proofs.WalkRuns.{walk_is_run, stands, sound}
use Rattle.pair_spec.specs.Pairs.{ReadingExitsIn}
use Rattle.pair_spec.specs.PairTerms.{WalkLeaves}
use Rattle.pair_spec.proofs.ExitStates.{exits_by}

-- what a walk carries out to an address is that of the state at the exit, with the flags that are asked for there
pub record IsCarriedOut (p : Program) (s : State) (out : Carried) (pc : ℕ) : Type 0 where
  pub to : pc ≡ s.pc
  pub regs : out.regs ≡ s.regs
  pub mem : out.mem ≡ s.mem
  pub flags : (f : ℕ) → ensures_flag p f ≡ true → out.flags f ≡ s.flags f

abbrev state_of : State → Step → State
state_of old (Exits s) = s
state_of old x = old

abbrev IsOut : Step → Type 0
IsOut (Exits s) = Unit {0}
IsOut x = ⊥

exit_is : (o : Option ℕ) (new s : State) → exit_by o new ≡ Exits s → new ≡ s
exit_is None new s h = ap (state_of new) h
exit_is (Some line) new s h = absurd (subst IsOut (sym h) tt)

none_allowed : (b : Bool) (c : Place) (s : State) → allowed b c ≡ Exits s → ⊥
none_allowed true c s h = subst IsOut (sym h) tt
none_allowed false c s h = subst IsOut (sym h) tt

-- the row by which a step exits goes to the state of the exit
module _ (p : Program) (entry : State) where
  exit_or_is : (b n : Bool) (new s : State) → exit_or b (by_file p) entry new n ≡ Exits s → new ≡ s
  exit_or_is true n new s h = exit_is (false_line p.machine.endian p.notes.ensures new entry) new s h
  exit_or_is false n new s h = absurd (none_allowed n (record { state = new; stack = [] }) s h)

  none_returned : (b n : Bool) (top : ℕ) (below : List ℕ) (new s : State) → return_or b top below new n ≡ Exits s → ⊥
  none_returned true n top below new s h = subst IsOut (sym h) tt
  none_returned false n top below new s h = none_allowed n (record { state = new; stack = top ∷ below }) s h

  module _ (row : Row) (old : State) where
    leave_is : (stack : List ℕ) (new s : State) → leave (by_file p) entry row old stack new ≡ Exits s → new ≡ s
    leave_is [] new s h = exit_or_is (new.pc == entry.regs p.machine.link) (is_named (by_file p) old row new.pc) new s h
    leave_is (top ∷ below) new s h = absurd (none_returned (new.pc == top) (is_named (by_file p) old row new.pc) top below new s h)

    transfer_is : (stack : List ℕ) (how : How) (new s : State) → transfer (by_file p) entry row old stack how new ≡ Exits s → new ≡ s
    transfer_is stack On new s h = absurd (subst IsOut (sym h) tt)
    transfer_is stack Direct new s h = absurd (subst IsOut (sym h) tt)
    transfer_is stack DirectCall new s h = absurd (subst IsOut (sym h) tt)
    transfer_is stack Indirect new s h = leave_is stack new s h
    transfer_is stack IndirectCall new s h = absurd (none_allowed (is_named (by_file p) old row new.pc) _ s h)

    aligned_is : (b : Bool) (stack : List ℕ) (how : How) (new s : State) → aligned_transfer b (by_file p) entry row old stack how new ≡ Exits s → new ≡ s
    aligned_is true stack how new s h = transfer_is stack how new s h
    aligned_is false stack how new s h = absurd (subst IsOut (sym h) tt)

    going_is : (b : Bool) (stack : List ℕ) (how : How) (new s : State) → going_on b (by_file p) entry row old stack how new ≡ Exits s → new ≡ s
    going_is true stack how new s h = absurd (subst IsOut (sym h) tt)
    going_is false stack how new s h = aligned_is (is_place p.machine.narrow new.pc) stack how new s h

    after_is : (b : Bool) (stack : List ℕ) (o : Outcome) (s : State) → after_row (by_file p) entry row old stack b o ≡ Exits s → (how : How) × (o ≡ Goes how s)
    after_is b stack (Raises e) s h = absurd (subst IsOut (sym h) tt)
    after_is b stack (Goes how new) s h = (how, ap (Goes how) (going_is b stack how new s h))

  module _ (d : Place) (choice : ℕ) (s : State) where
    -- the row that goes there
    abbrev pub ByRow : Option Row → Type 0
    ByRow o = (row : Row) × (o ≡ Some row) × (how : How) × (row.effect d.state choice ≡ Goes how s)

    row_is : (o : Option Row) → by_row (by_file p) entry d choice o ≡ Exits s → ByRow o
    row_is None h = absurd (subst IsOut (sym h) tt)
    row_is (Some row) h =
        let goes = after_is row d.state (writes_kept (by_file p) row d.state) d.stack (row.effect d.state choice) s h in (row, refl, goes.0, goes.1)

    fetch_is : (b : Bool) → by_fetch b (by_file p) entry d choice ≡ Exits s → ByRow (if b then p.machine.row (file_word p d.state.pc) else None)
    fetch_is true h = row_is (p.machine.row (file_word p d.state.pc)) h
    fetch_is false h = absurd (subst IsOut (sym h) tt)

    asserts_is : (o : Option ℕ) → after_asserts o (by_file p) entry d choice ≡ Exits s → ByRow (file_row p d.state.pc)
    asserts_is (Some line) h = absurd (subst IsOut (sym h) tt)
    asserts_is None h = fetch_is (fetchable p (file_word p d.state.pc) d.state.pc) h

    pub step_is : step (by_file p) entry d choice ≡ Exits s → ByRow (file_row p d.state.pc)
    step_is h = asserts_is (false_assert p.machine.endian p.notes.asserts d.state entry) h

left_as : (reads : ℕ → Type 0) (how : How) (s : State) (c : Carried) (l : Leaving) → LeavesAs reads (Goes how s) l →
    (next_address l ≡ s.pc) × IsCarriedOf reads s (carried_on l c)
left_as reads how s c (GoesOn jumped to d) h = (h.1, h.2)
left_as reads how s c (RaisesOne n) h = absurd h
left_as reads how s c IsStuck h = absurd h

abbrev HasExited : Walk → Type 0
HasExited WalkExits = Unit {0}
HasExited w = ⊥

none_out : (o : Option ℕ) → out_by o ≡ WalkExits → o ≡ None
none_out None h = refl
none_out (Some line) h = absurd (subst HasExited (sym h) tt)

module _ (p : Program) (u : UnrolledProgram) where
  -- a walk that has exited came by an exit that leads out
  abbrev GoesOut : State → State → Aim → Type 0
  GoesOut entry next aim = (aim ≡ Outward) × (false_line u.endian u.ensures next entry ≡ None)

  goes_out : (entry next : State) (aim : Aim) → walk_to u entry next aim ≡ WalkExits → GoesOut entry next aim
  goes_out entry next (OnTo i) h = absurd (subst HasExited (sym h) tt)
  goes_out entry next Outward h = (refl, none_out (false_line u.endian u.ensures next entry) h)
  goes_out entry next OverLast h = absurd (subst HasExited (sym h) tt)
  goes_out entry next (ToEvent e) h = absurd (subst HasExited (sym h) tt)

  -- a walk and a run that are the same
  walk_at : (x : Walk) (turns n : ℕ) (d : Place) → IsSame p u x (Going turns n d) → (i : ℕ) × (c : Carried) × (x ≡ WalkIsAt i c)
  walk_at (WalkIsAt i c) turns n d h = (i, c, refl)
  walk_at WalkExits turns n d h = absurd h
  walk_at (WalkFails e) turns n d h = absurd h
  walk_at WalkTurns turns n d h = absurd h

  run_at : (x : Run) (i : ℕ) (c : Carried) → IsSame p u (WalkIsAt i c) x → (turns n : ℕ) × (d : Place) × (x ≡ Going turns n d)
  run_at (Going turns n d) i c h = (turns, n, d, refl)
  run_at (Exited at n) i c h = absurd h
  run_at (Failed e at n) i c h = absurd h
  run_at (Turned at n) i c h = absurd h

  walk_out : (x : Walk) (at n : ℕ) → IsSame p u x (Exited at n) → x ≡ WalkExits
  walk_out WalkExits at n h = refl
  walk_out (WalkIsAt i c) at n h = absurd h
  walk_out (WalkFails e) at n h = absurd h
  walk_out WalkTurns at n h = absurd h

  run_out : (x : Run) → IsSame p u WalkExits x → (at n : ℕ) × (x ≡ Exited at n)
  run_out (Exited at n) h = (at, n, refl)
  run_out (Going turns n d) h = absurd h
  run_out (Failed e at n) h = absurd h
  run_out (Turned at n) h = absurd h

module _ (p : Program) (lawful : HasLawfulRows p) (k : ℕ) (u : UnrolledProgram) (un : IsUnrolling p k u) (asked : ℕ → Bool) (asks : AsksLiterals p k asked)
    (r : Reading) (small : (point : Point) → r.choice point < 4) (is : IsEntryStateOver p asked r.state) where
  same : (n : ℕ) → IsSame p u (walk u r n) (read_run p k r n)
  same n = walk_is_run p lawful k u un asked asks r small is n

  abbrev left : ℕ → Carried → Leaving
  left i c = leaving (point_at u i) (r.choice (point_at u i).point) c

  abbrev aim : ℕ → Carried → Leaving → Aim
  aim i c l =
      first_aim u r.state (state_at c (point_at u i).point.at) (list_any (is_in u.kept) (stored_at (point_at u i) (r.choice (point_at u i).point) c)) l
      (point_at u i).exits

  next_walk : (n i : ℕ) (c : Carried) → walk u r n ≡ WalkIsAt i c →
      walk u r (suc n) ≡ walk_to u r.state (state_at (carried_on (left i c) c) (next_address (left i c))) (aim i c (left i c))
  unfolding walk
  next_walk n i c e = ap (walk_on u r) e

  next_run : (n turns m : ℕ) (d : Place) → read_run p k r n ≡ Going turns m d →
      read_run p k r (suc n) ≡ after_step k turns m d.state.pc (step (by_file p) r.state d (r.choice (point_of turns d)))
  unfolding read_run
  next_run n turns m d e = ap (read_on p k r) e

  -- where a step exits, the walk carries out what the state has
  module _ (n i turns m : ℕ) (c : Carried) (d : Place) (s : State) (run_is : read_run p k r n ≡ Going turns m d)
      (both : IsSame p u (WalkIsAt i c) (Going turns m d))
      (out : step (by_file p) r.state d (r.choice (point_of turns d)) ≡ Exits s) where
    standing : Stands p k (Going turns m d)
    standing = subst (Stands p k) run_is (stands p lawful k u un asked asks r small is n)

    holds : Standing (Sound p asked) k (Going turns m d)
    holds = subst (Standing (Sound p asked) k) run_is (sound p lawful k u un asked asks r small is n)

    carried_out : IsCarriedOut p s (carried_on (left i c) c) (next_address (left i c))
    carried_out =
        let by = step_is p r.state d (r.choice (point_of turns d)) s out in
        let row = by.0 in
        let at : (point_at u i).point ≡ point_of turns d = both.1 in
        let here : file_row p (point_at u i).point.at ≡ Some row = ap (λ z. file_row p z.at) at ∙ by.1 in
        let does = (subst (DoesPlace p k u i (point_at u i)) here (un.places i both.0).does).3 in
        let literal : HoldsLiteral p row d.state =
        λ a e h. kept_number p asked d.state holds.0 a (λ j l. asks a j
        (record { point = point_of turns d; is_point = standing.0; row = row; is_row = by.1; loads = e; is_kept = h }) l) h in
        let leaves = does.leaves d.state c (r.choice (point_of turns d)) holds.1 (ap (λ z. z.at) (sym at)) (small (point_of turns d)) literal both.2 in
        let outcome = subst (λ z. LeavesAs (λ f. IsReadAfter p f d.state.pc) z (left i c)) by.3
        (subst (λ z. LeavesAs (λ f. IsReadAfter p f d.state.pc) (row.effect d.state (r.choice (point_of turns d)))
        (leaving (point_at u i) (r.choice z) c)) (sym at) leaves) in
        let l = left_as (λ f. IsReadAfter p f d.state.pc) by.2 s c (left i c) outcome in
        let exits = subst (GoesAlong p (point_of turns d)) out (steps_along p lawful turns (r.choice (point_of turns d)) r.state d standing.1) in
        let may = (points_are_in_graph p k (point_of turns d) standing.0).exits exits in
        record { to = l.0; regs = l.1.regs; mem = l.1.mem; flags = λ f h. l.1.flags f (at_exit may h) }

  -- where the run exits, the walk leaves
  pub to_walk : (s : State) → ReadingExitsIn p k r s → (out : Carried) × (pc : ℕ) × WalkLeaves u r out pc × IsCarriedOut p s out pc
  to_walk s e =
      let here : IsSame p u (walk u r e.number) (Going e.turns e.number e.place) =
      subst (λ (z : Run). IsSame p u (walk u r e.number) z) e.before (same e.number) in
      let at = walk_at p u (walk u r e.number) e.turns e.number e.place here in
      let i = at.0 in
      let c = at.1 in
      let both = subst (λ (z : Walk). IsSame p u z (Going e.turns e.number e.place)) at.2 here in
      let ended = next_run e.number e.turns e.number e.place e.before ∙ ap (after_step k e.turns e.number e.place.state.pc) e.leaves in
      let left_walk = walk_out p u (walk u r (suc e.number)) e.place.state.pc e.number
      (subst (λ (z : Run). IsSame p u (walk u r (suc e.number)) z) ended (same (suc e.number))) in
      let aims = goes_out p u r.state (state_at (carried_on (left i c) c) (next_address (left i c))) (aim i c (left i c))
      (sym (next_walk e.number i c at.2) ∙ left_walk) in (
        carried_on (left i c) c,
        next_address (left i c),
        record {
          comes_out = record {
            points = e.number;
            place = i;
            carried = c;
            is_at = at.2;
            leaving_is = left i c;
            left_so = refl;
            aim = aims.0;
            out_is = refl;
            pc_is = refl;
          };
          ensured = aims.1;
        },
        carried_out e.number i e.turns e.number c e.place s e.before both e.leaves,
      )

  -- where the walk has come out, it exits at the next point
  exits_next : (n i : ℕ) (c : Carried) (l : Leaving) → walk u r n ≡ WalkIsAt i c → l ≡ left i c → aim i c l ≡ Outward →
      false_line u.endian u.ensures (state_at (carried_on l c) (next_address l)) r.state ≡ None → walk u r (suc n) ≡ WalkExits
  exits_next n i c l e same out line =
      next_walk n i c e ∙ ap (λ z. walk_to u r.state (state_at (carried_on z c) (next_address z)) (aim i c z)) (sym same)
      ∙ ap (walk_to u r.state (state_at (carried_on l c) (next_address l))) out ∙ ap out_by line

  -- and the run exits there
  exits_there : (n i : ℕ) (c : Carried) → walk u r n ≡ WalkIsAt i c → walk u r (suc n) ≡ WalkExits →
      (s : State) × ReadingExitsIn p k r s × IsCarriedOut p s (carried_on (left i c) c) (next_address (left i c))
  exits_there n i c e ended =
      let here = subst (λ (z : Walk). IsSame p u z (read_run p k r n)) e (same n) in
      let at = run_at p u (read_run p k r n) i c here in
      let number : at.1 ≡ n = subst (Numbered n) at.3
      (subst (Numbered n) (followed p k r (start_of p k r) (follows p k r) n) (numbered (by_file p) k (start_of p k r) n)) in
      let run_is : read_run p k r n ≡ Going at.0 n at.2 = at.3 ∙ ap (λ z. Going at.0 z at.2) number in
      let both = subst (λ (z : Run). IsSame p u (WalkIsAt i c) z) run_is here in
      let over = run_out p u (read_run p k r (suc n)) (subst (λ (z : Walk). IsSame p u z (read_run p k r (suc n))) ended (same (suc n))) in
      let x = exits_by k at.0 n at.2.state.pc (step (by_file p) r.state at.2 (r.choice (point_of at.0 at.2))) over.0 over.1
      (sym (next_run n at.0 n at.2 run_is) ∙ over.2) in (
        x.state,
        record { number = n; turns = at.0; place = at.2; before = run_is; leaves = x.is },
        carried_out n i at.0 n c at.2 x.state run_is both x.is,
      )

  -- where the walk leaves, the run exits
  pub from_walk : (out : Carried) (pc : ℕ) → WalkLeaves u r out pc → (s : State) × ReadingExitsIn p k r s × IsCarriedOut p s out pc
  from_walk out pc w =
      let o = w.comes_out in
      let line = sym (ap (λ z. false_line u.endian u.ensures (state_at z pc) r.state) o.out_is
      ∙ ap (λ z. false_line u.endian u.ensures (state_at (carried_on o.leaving_is o.carried) z) r.state) o.pc_is) ∙ w.ensured in
      let x = exits_there o.points o.place o.carried o.is_at
      (exits_next o.points o.place o.carried o.leaving_is o.is_at o.left_so o.aim line) in
      let at = x.2 in (
        x.0,
        x.1,
        record {
          to = o.pc_is ∙ ap next_address o.left_so ∙ at.to;
          regs = ap (λ z. z.regs) (o.out_is ∙ ap (λ z. carried_on z o.carried) o.left_so) ∙ at.regs;
          mem = ap (λ z. z.mem) (o.out_is ∙ ap (λ z. carried_on z o.carried) o.left_so) ∙ at.mem;
          flags = λ f h. ap (λ z. z.flags f) (o.out_is ∙ ap (λ z. carried_on z o.carried) o.left_so) ∙ at.flags f h;
        },
      )
