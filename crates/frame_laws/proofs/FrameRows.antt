-- One step of a frame by a row is one step of the walk.
use Rattle.std.proofs.Common.{◌≡◌, inl, inr, ℕ, ◌%◌, ◌<◌, refl, ap, sym, ◌∙◌, subst, List, [], ◌∷◌, ◌++◌, length, Option, Some, None, Bool, true, false}
use Rattle.std.specs.Prelude.{Contains, ◌==◌, ◌&&◌, ◌↔◌, not, if◌then◌else◌, map}
use Rattle.std.specs.List.{list_any, AllZip}
use Rattle.std.proofs.lemmas.Bool.{or_left, or_right}
use Rattle.word_spec.specs.Words.{add}
use Rattle.word_spec.specs.Memory.{Endian}
use Rattle.word_spec.specs.State.{State}
use Rattle.machine_spec.specs.Machine.{unit, is_place, IsAtPlace, Row, How, On, Direct, DirectCall, Indirect, IndirectCall, Outcome, Goes, Raises, Exception, EnvironmentCall, Breakpoint, SoftwareInterrupt, OddHalfword, UnalignedLoad, addresses, exception_number}
use Rattle.machine_spec.specs.MachineLaws.{IsLawful, IsSuccessor, ComesNext, IfRaises}
use Rattle.machine_spec.specs.Endings.{CodeWritten, AlignFails, JumpFails, EnsureFails, FetchFails}
use Rattle.bilv_spec.specs.Notes.{NoteLine, value, is_true}
use Rattle.bilv_spec.specs.Run.{Program, Place, Step, Stops, Arrives, Exits, step, exit_by, exit_or, return_or, allowed, called, transfer, aligned_transfer, going_on, after_row, by_row, by_fetch, after_asserts, false_assert, false_line, fetchable, is_kept, is_named, writes_kept, exception_event}
use Rattle.bilv_spec.specs.Points as points
use Rattle.bilv_spec.specs.Points.{EdgeEnd, ToAddress, ToExit, edges, file_row, file_word, is_kept_at}
use Rattle.bilv_spec.specs.Questions as questions
use Rattle.bilv_spec.specs.PointLaws.{HasLawfulRows}
use Rattle.bilv_spec.specs.Graph.{LeadsTo}
use Rattle.bilv_spec.proofs.PointSteps.{same_number, and_both}
use Rattle.bilv_spec.proofs.FileWords.{Sound, kept_number}
use Rattle.walk_spec.specs.Unrolled.{is_in, number_event}
use Rattle.walk_spec.specs.Unrolling as tables
use Rattle.walk_spec.specs.Unrolling.{jumps, HoldsLiteral, stop_event}
use Rattle.walk_spec.proofs.WalkEdges.{first_hit, takes, found, of_row, step_is, step_of}
use Rattle.walk_spec.proofs.HitOrder.{any_order}
use Rattle.walk_spec.proofs.WalkSteps.{false_line_same}
use Rattle.frame_spec.specs.Frames as Frames
use Rattle.frame_spec.specs.Frames.{Content, Contract, Frame, FrameEvent, OfStep, WritesFails, GivesFails, content_at, is_head, event_of, is_early, contract_at, stored_by_row, covers, invariants_of}
use Rattle.frame_spec.specs.FrameRuns.{FrameStep, Halts, GoesTo, Reaches, Calls, lands, settles, unless_outside, leaves_by, given_by, frame_step, is_contract_call}
use Rattle.frame_spec.specs.FramePoints.{Anchor, Point, IsPoint, is_entry, is_cut, frame_edges, is_contract_end}
use Rattle.frame_spec.specs.FrameQuestions.{by_file}
use Rattle.frame_spec.specs.FrameWalk as walks
use Rattle.frame_spec.specs.FrameWalk.{Check, check_event, Aim, OnTo, IntoHead, Outward, OverLast, ToEvent, Cutting, Nowhere, PointExit, FalseCheck, Always, Raising, WritingKept, WritingOutside, Unaligned, Own, Executes, UnrolledPoint, UnrolledProgram, point_at, Leaving, GoesOn, RaisesOne, IsStuck, left_by, stored_by, next_state, gives_of, Situation, first_aim, false_check, Walk, WalkIsAt, WalkArrives, WalkExits, WalkFails, WalkTurns, out_by, walk_out, walk_to, situation_at, walk_from}
use Rattle.frame_spec.specs.FrameUnrolling.{IsRead, IsReadAfter, on_path, at_exit, exit_reads, IsCarriedOf, LeavesAs, DoesRow, checks_of, IsAim, IsEdge, AreEdgesOf, outside_exit, DoesAddress, own_of, IsUnrolling}
use Rattle.frame_laws.specs.RunOfFrame.{IsOwnAmong, IsAmong, AsksLiterals}
use Rattle.frame_laws.proofs.FrameGraph.{leads, exits}
use Rattle.frame_laws.proofs.CheckLines.{SameLine, at_point}
use Rattle.frame_laws.proofs.WalkPlaces.{end_within, Comes}
use Rattle.frame_laws.proofs.FrameExits.{any_elements, any_test, shadow, Chosen, chosen, gives_same, changed_same}

-- what is false of the checks is judged before the other exits
abbrev pub check_or : Option Check → Aim → Aim
check_or None a = a
check_or (Some x) a = ToEvent (check_event x)

if_check : (b : Bool) (x : Check) (o : Option Check) (a : Aim) →
    (if not b then ToEvent (check_event x) else check_or o a) ≡ check_or (if b then o else Some x) a
if_check true x o a = refl
if_check false x o a = refl

pub checks_aim : (u : UnrolledProgram) (s : Situation) (l : List Check) (rest : List PointExit) →
    first_aim u s (map FalseCheck l ++ rest) ≡ check_or (false_check u.endian l s.now s.entry) (first_aim u s rest)
checks_aim u s [] rest = refl
checks_aim u s (x ∷ l) rest =
    let b = is_true (value u.endian x.says s.now s.entry) in
    ap (λ z. if not b then ToEvent (check_event x) else z) (checks_aim u s l rest)
    ∙ if_check b x (false_check u.endian l s.now s.entry) (first_aim u s rest)

-- an exception that stores nothing is the walk's
raised_is : (f : Frame) (x : Exception) → OfStep (number_event (exception_number x)) ≡ event_of f (exception_event false x)
raised_is f EnvironmentCall = refl
raised_is f Breakpoint = refl
raised_is f SoftwareInterrupt = refl
raised_is f OddHalfword = refl
raised_is f UnalignedLoad = refl

-- what a row that goes on comes to is judged behind the bytes that the frame's contract may write
abbrev IsLate : Step → Type 0
IsLate (Stops e) = is_early e ≡ false
IsLate s = Unit {0}

module _ (p : Program) (entry : State) (row : Row) (old new : State) where
  allowed_late : (b : Bool) (c : Place) → IsLate (allowed b c)
  allowed_late true c = tt
  allowed_late false c = refl

  exit_late : (o : Option ℕ) → IsLate (exit_by o new)
  exit_late None = tt
  exit_late (Some line) = refl

  exit_or_late : (b n : Bool) → IsLate (exit_or b p entry new n)
  exit_or_late true n = exit_late (false_line p.machine.endian p.notes.ensures new entry)
  exit_or_late false n = allowed_late n (record { state = new; stack = [] })

  return_late : (b n : Bool) (top : ℕ) (below : List ℕ) → IsLate (return_or b top below new n)
  return_late true n top below = tt
  return_late false n top below = allowed_late n (record { state = new; stack = top ∷ below })

  transfer_late : (how : How) (stack : List ℕ) → IsLate (transfer p entry row old stack how new)
  transfer_late On stack = tt
  transfer_late Direct stack = tt
  transfer_late DirectCall stack = tt
  transfer_late Indirect [] = exit_or_late (new.pc == entry.regs p.machine.link) (is_named p old row new.pc)
  transfer_late Indirect (top ∷ below) = return_late (new.pc == top) (is_named p old row new.pc) top below
  transfer_late IndirectCall stack = allowed_late (is_named p old row new.pc) (called row old stack new)

  aligned_late : (b : Bool) (how : How) (stack : List ℕ) → IsLate (aligned_transfer b p entry row old stack how new)
  aligned_late true how stack = transfer_late how stack
  aligned_late false how stack = refl

late_outside : (f : Frame) (entry : State) (c : Place) (s : Step) → IsLate s → unless_outside true f entry c s ≡ Halts WritesFails
late_outside f entry c (Stops e) h = ap (λ (z : Bool). Halts (if z then event_of f e else WritesFails)) h
late_outside f entry c (Arrives d) h = refl
late_outside f entry c (Exits s) h = refl

none_outside : (o : Option Contract) (e : Endian) (entry : State) → Frames.is_outside o e entry [] ≡ false
none_outside None e entry = refl
none_outside (Some x) e entry = refl

pub and_cut : (a b : Bool) → (b ≡ true → a ≡ false) → (a && b) ≡ false
and_cut true true h = h refl
and_cut true false h = refl
and_cut false b h = refl

module _ (f : Frame) (lawful : HasLawfulRows f.program) (contracts : List Contract) (among : IsAmong f contracts) (k : ℕ) (u : UnrolledProgram)
    (un : IsUnrolling f contracts k u) (entry : State) (i : ℕ) (anchor : Anchor) (turns : ℕ) (old : State) (stack : List ℕ)
    (is_point : IsPoint f k (record { anchor = anchor; turns = turns; contract = false; stack = stack; at = old.pc }))
    (uncut : is_cut f (record { anchor = anchor; turns = turns; contract = false; stack = stack; at = old.pc }) ≡ false) where
  abbrev p : Program
  p = f.program

  abbrev E : Endian
  E = f.program.machine.endian

  -- the frame whose words are the file's
  abbrev g : Frame
  g = by_file f

  abbrev spot : Point
  spot = record { anchor = anchor; turns = turns; contract = false; stack = stack; at = old.pc }

  abbrev flat : points.Point
  flat = record { turns = turns; stack = stack; at = old.pc }

  abbrev place : Place
  place = record { state = old; stack = stack }

  abbrev Reached : FrameStep → Walk → Type 0
  Reached s w = Comes f contracts k u un spot s w

  edges_here : frame_edges f spot ≡ edges p flat
  edges_here = ap (λ (z : Bool). if z then [] else edges p flat) uncut

  ends_of : (ends : List EdgeEnd) → AreEdgesOf f spot ends → tables.AreEdgesOf p flat ends
  ends_of ends are = record {
    same = λ t. subst (λ z. Contains z t ↔ Contains ends t) edges_here (are.same t);
    count = are.count ∙ ap length edges_here;
    exit_first = are.exit_first;
  }

  module _ (new : State) (c : Content) (carried : IsCarriedOf (λ n. IsReadAfter p contracts n old.pc) new c) where
    abbrev after : State
    after = content_at c new.pc

    carried_to : LeadsTo p old.pc new.pc → IsCarriedOf (λ n. IsRead p contracts n new.pc) new c
    carried_to l = record { state = carried.state; regs = carried.regs; mem = carried.mem; flags = λ n r. carried.flags n (on_path l r) }

    -- the exit
    exit_flags : Contains (edges p flat) ToExit → (n : ℕ) → exit_reads n contracts ≡ true → c.flags n ≡ new.flags n
    exit_flags h n r = carried.flags n (at_exit (exits f k spot is_point h) (or_right _ (exit_reads n contracts) r))

    ensures_same : Contains (edges p flat) ToExit → false_line u.endian u.ensures after entry ≡ false_line E p.notes.ensures new entry
    ensures_same h =
        ap (λ z. false_line z u.ensures after entry) un.endian ∙ ap (λ z. false_line E z after entry) un.ensures
        ∙ false_line_same E p.notes.ensures after new entry (record {
          pc = refl;
          regs = carried.regs;
          mem = carried.mem;
          flags = λ n r. carried.flags n (at_exit (exits f k spot is_point h) (or_left _ (exit_reads n contracts) (or_right (p.out n) _ r)));
        })

    plain_exit : f.own ≡ None → (o : Option ℕ) → Reached (settles g entry place (exit_by o new)) (out_by o (λ n. OfStep (EnsureFails n)) false)
    plain_exit own (Some line) = refl
    plain_exit own None = subst (λ z. Reached (leaves_by z g entry new) WalkExits) (sym own) refl

    own_exit : (x : Contract) (o : Option ℕ) (b : Bool) → Reached (given_by o b new) (out_by o GivesFails b)
    own_exit x (Some line) b = refl
    own_exit x None true = refl
    own_exit x None false = refl

    exit_by_own : Contains (edges p flat) ToExit → (o : Option Contract) → f.own ≡ o →
        Reached (settles g entry place (exit_by (false_line E p.notes.ensures new entry) new)) (walk_out u.own u entry after)
    exit_by_own h None own =
        subst (λ z. Reached (settles g entry place (exit_by (false_line E p.notes.ensures new entry) new)) (walk_out z u entry after))
        (sym (un.own ∙ ap own_of own))
        (subst (λ z. Reached (settles g entry place (exit_by (false_line E p.notes.ensures new entry) new)) (out_by z (λ n. OfStep (EnsureFails n)) false))
        (sym (ensures_same h)) (plain_exit own (false_line E p.notes.ensures new entry)))
    exit_by_own h (Some x) own =
        let mine : IsOwnAmong f contracts x = among.own x own in
        let its : Own = record { gives = x.gives; writes = x.writes; registers = x.registers; flags = x.flags } in
        let lines = gives_same f contracts k u un x mine entry new c carried.regs carried.mem (exit_flags h) in
        let changes = changed_same f contracts k u un x mine entry new c carried.regs carried.mem (exit_flags h) in
        subst (λ z. Reached (settles g entry place (exit_by (false_line E z new entry) new)) (walk_out u.own u entry after)) (sym mine.ensures)
        (subst (λ z. Reached (leaves_by z g entry new) (walk_out u.own u entry after)) (sym own)
        (subst (λ z. Reached (given_by (false_line E x.gives new entry) (Frames.has_changed g x entry new) new) (walk_out z u entry after))
        (sym (un.own ∙ ap own_of own))
        (subst (λ z. Reached (given_by (false_line E x.gives new entry) (Frames.has_changed g x entry new) new)
        (out_by z GivesFails (walks.has_changed u its entry after))) (sym lines)
        (subst (λ z. Reached (given_by (false_line E x.gives new entry) (Frames.has_changed g x entry new) new)
        (out_by (false_line E x.gives new entry) GivesFails z)) (sym changes)
        (own_exit x (false_line E x.gives new entry) (Frames.has_changed f x entry new))))))

    module _ (row : Row) where
      abbrev its_step : Option EdgeEnd → Step
      its_step o = step_of p (shadow u) entry old new row turns stack un.link o

      -- where the edge goes to a place
      landed : (l : List ℕ) → (aim : Aim) → IsAim f k u i spot (ToAddress l new.pc) aim → LeadsTo p old.pc new.pc →
          Reached (lands g place (record { state = new; stack = l })) (walk_to u entry after aim)
      landed l (OnTo j) h path =
          subst (λ (z : Bool). Reached (if z then Reaches d else if is_contract_call g place d then Calls d else GoesTo d) (WalkIsAt j c)) (sym h.0)
          (by (is_contract_end f spot l new.pc) refl)
        where
          d : Place
          d = record { state = new; stack = l }

          by : (b : Bool) → is_contract_end f spot l new.pc ≡ b → Reached (if b then Calls d else GoesTo d) (WalkIsAt j c)
          by true e = inl (j, c, refl, (h.2, h.3 ∙ end_within f true spot l new.pc h.0 e, carried_to path))
          by false e = inl (j, c, refl, (h.2, h.3 ∙ end_within f false spot l new.pc h.0 e, carried_to path))
      landed l (IntoHead at lines) h path =
          subst (λ (z : Bool). Reached (if z then Reaches d else if is_contract_call g place d then Calls d else GoesTo d) (WalkArrives at lines c)) (sym h.0)
          (c, ap (λ z. WalkArrives z lines c) h.1 ∙ ap (λ z. WalkArrives new.pc z c) h.2, carried_to path)
        where
          d : Place
          d = record { state = new; stack = l }
      landed l OverLast h path =
          subst (λ (z : Bool). Reached (if z then Reaches d else if is_contract_call g place d then Calls d else GoesTo d) WalkTurns) (sym h.0)
          (by (is_contract_end f spot l new.pc) refl)
        where
          d : Place
          d = record { state = new; stack = l }

          by : (b : Bool) → is_contract_end f spot l new.pc ≡ b → Reached (if b then Calls d else GoesTo d) WalkTurns
          by true e = inr (refl, sym (ap (λ z. z.turns) (end_within f true spot l new.pc h.0 e)) ∙ h.1)
          by false e = inr (refl, sym (ap (λ z. z.turns) (end_within f false spot l new.pc h.0 e)) ∙ h.1)
      landed l Outward h path = absurd h
      landed l (ToEvent v) h path = absurd h
      landed l Cutting h path = absurd h
      landed l Nowhere h path = absurd h

      left : (aim : Aim) → IsAim f k u i spot ToExit aim → Contains (edges p flat) ToExit →
          Reached (settles g entry place (exit_by (false_line E p.notes.ensures new entry) new)) (walk_to u entry after aim)
      left Outward h inside = exit_by_own inside f.own refl
      left (OnTo j) h inside = absurd h
      left (IntoHead at lines) h inside = absurd h
      left OverLast h inside = absurd h
      left (ToEvent v) h inside = absurd h
      left Cutting h inside = absurd h
      left Nowhere h inside = absurd h

      edge_same : (o : Option EdgeEnd) (aim : Aim) → Chosen f k u i spot o aim → ((t : EdgeEnd) → o ≡ Some t → Contains (edges p flat) t) →
          ((l : List ℕ) (a : ℕ) → o ≡ Some (ToAddress l a) → new.pc ≡ a) → Reached (settles g entry place (its_step o)) (walk_to u entry after aim)
      edge_same None aim h inside to = subst (λ z. Reached (settles g entry place (Stops JumpFails)) (walk_to u entry after z)) (sym h) refl
      edge_same (Some ToExit) aim h inside to = left aim h (inside ToExit refl)
      edge_same (Some (ToAddress l a)) aim h inside to =
          let same : new.pc ≡ a = to l a refl in
          landed l aim (subst (λ z. IsAim f k u i spot (ToAddress l z) aim) (sym same) h)
          (subst (λ (z : ℕ). LeadsTo p old.pc z) (sym same) (leads f k spot is_point l a (inside (ToAddress l a) refl)))

      module _ (is : file_row p old.pc ≡ Some row) (now : State) (stored : List ℕ) (gives : List NoteLine) (how : How) (ends : List EdgeEnd)
          (are : AreEdgesOf f spot ends) (along : List PointExit) (zip : AllZip (IsEdge f k u i spot (Some row)) ends along)
          (successor : IsSuccessor (row.successors old.pc) (Goes how new)) (comes : how ≡ On → new.pc ≡ add 32 old.pc row.length)
          (one_way : (row.successors old.pc).indirect ≡ true → (row.successors old.pc).direct ≡ None) where
        abbrev sit : Situation
        sit = record { entry = entry; now = now; next = after; stored = stored; leaving = GoesOn (jumps how) new.pc c; gives = gives }

        abbrev hit : EdgeEnd → Bool
        hit t = takes p (shadow u) entry old new row turns stack un.link (jumps how) t

        landing : (t : EdgeEnd) (l : List ℕ) (a : ℕ) → t ≡ ToAddress l a → hit t ≡ true → new.pc ≡ a
        landing ToExit l a e h = absurd (cc)
        landing (ToAddress m b) l a e h =
            let r = and_both _ (new.pc == b) h in
            let s : b ≡ a = cc in
            same_number new.pc b r.1 ∙ s

        along_same : IsAtPlace p.machine.narrow new.pc →
            Reached (settles g entry place (transfer (questions.by_file p) entry row old stack how new)) (walk_to u entry after (first_aim u sit along))
        along_same aligned =
            let which : its_step (first_hit hit ends) ≡ transfer (questions.by_file p) entry row old stack how new
            = ap its_step (sym (any_order p (shadow u) entry old new row turns stack un.link is one_way (jumps how) ends (ends_of ends are)))
            ∙ ap its_step (of_row p (shadow u) entry old new row turns stack un.link aligned is (jumps how))
            ∙ step_is p (shadow u) entry old new row turns stack un.link how successor comes one_way in
            subst (λ (z : Step). Reached (settles g entry place z) (walk_to u entry after (first_aim u sit along))) which
            (edge_same (first_hit hit ends) (first_aim u sit along)
            (chosen f k i u entry now old new row anchor turns stack un.link stored gives (jumps how) c ends along zip)
            (λ t e. ((ends_of ends are).same t).1 (found hit ends t e).1)
            (λ l a e. landing (ToAddress l a) l a refl (found hit ends (ToAddress l a) e).0))

        abbrev going : Bool → Step
        going b = aligned_transfer b (questions.by_file p) entry row old stack how new

        aligned_same : (b : Bool) → is_place p.machine.narrow new.pc ≡ b →
            Reached (settles g entry place (going b)) (walk_to u entry after (if not b then ToEvent (OfStep AlignFails) else first_aim u sit along))
        aligned_same true e = along_same (same_number (new.pc % unit p.machine.narrow) 0 e)
        aligned_same false e = refl

        unaligned_same : Reached (settles g entry place (going (is_place p.machine.narrow new.pc)))
            (walk_to u entry after (first_aim u sit (Unaligned ∷ along)))
        unaligned_same =
            subst (λ (m : Bool). Reached (settles g entry place (going (is_place p.machine.narrow new.pc)))
            (walk_to u entry after (if not (is_place m new.pc) then ToEvent (OfStep AlignFails) else first_aim u sit along))) (sym un.narrow)
            (aligned_same (is_place p.machine.narrow new.pc) refl)

        module _ (writes : (h : ℕ → Bool) → list_any h stored ≡ list_any h (addresses (row.stored old))) where
          abbrev places : List ℕ
          places = addresses (row.stored old)

          outside_is : (o : Option Contract) → walks.is_outside (own_of o) u.endian entry stored ≡ Frames.is_outside o E entry places
          outside_is None = refl
          outside_is (Some y) =
              ap (λ z. list_any (λ a. not (covers z y.writes entry a)) stored) un.endian ∙ writes (λ a. not (covers E y.writes entry a))

          outside_same : (o : Option Contract) → u.own ≡ own_of o →
              Reached (unless_outside (Frames.is_outside o E entry places) g entry place (going (is_place p.machine.narrow new.pc)))
              (walk_to u entry after (first_aim u sit (outside_exit o ++ Unaligned ∷ along)))
          outside_same None own = unaligned_same
          outside_same (Some y) own =
              by (Frames.is_outside (Some y) E entry places) (walks.is_outside u.own u.endian entry stored)
              (ap (λ z. walks.is_outside z u.endian entry stored) own ∙ outside_is (Some y))
            where
              by : (a b : Bool) → b ≡ a → Reached (unless_outside a g entry place (going (is_place p.machine.narrow new.pc)))
                  (walk_to u entry after (if b then ToEvent WritesFails else first_aim u sit (Unaligned ∷ along)))
              by true true e =
                  subst (λ z. Reached z (WalkFails WritesFails))
                  (sym (late_outside g entry place (going (is_place p.machine.narrow new.pc))
                  (aligned_late (questions.by_file p) entry row old new (is_place p.machine.narrow new.pc) how stack))) refl
              by false false e = unaligned_same
              by true false e = absurd (cc)
              by false true e = absurd (cc)

          kept_is : list_any (is_in u.kept) stored ≡ writes_kept (questions.by_file p) row old
          kept_is = any_test (is_in u.kept) (is_kept_at p) stored un.kept ∙ writes (is_kept_at p)

          going_same : Reached (unless_outside (Frames.is_outside f.own E entry places) g entry place
              (going_on (writes_kept (questions.by_file p) row old) (questions.by_file p) entry row old stack how new))
              (walk_to u entry after (first_aim u sit (WritingKept ∷ (outside_exit f.own ++ Unaligned ∷ along))))
          going_same = by (writes_kept (questions.by_file p) row old) (list_any (is_in u.kept) stored) kept_is
            where
              early : (b : Bool) → Reached (unless_outside b g entry place (Stops CodeWritten)) (WalkFails (OfStep CodeWritten))
              early true = refl
              early false = refl

              by : (a b : Bool) → b ≡ a → Reached (unless_outside (Frames.is_outside f.own E entry places) g entry place
                  (going_on a (questions.by_file p) entry row old stack how new))
                  (walk_to u entry after (if b then ToEvent (OfStep CodeWritten) else first_aim u sit (outside_exit f.own ++ Unaligned ∷ along)))
              by true true e = early (Frames.is_outside f.own E entry places)
              by false false e = outside_same f.own un.own
              by true false e = absurd (cc)
              by false true e = absurd (cc)

  module _ (asked : ℕ → Bool) (asks : AsksLiterals f k asked) (sound : Sound p asked old) (choice : ℕ) (small : choice < 4) (given : Content) (c : Content)
      (carried : IsCarriedOf (λ n. IsRead p contracts n old.pc) old c)
      (assured : is_head f old.pc ≡ true → is_entry anchor ≡ false → false_assert E (invariants_of f p.notes.asserts) old entry ≡ None)
      (q : UnrolledPoint) (at : q.point ≡ record { anchor = anchor; turns = turns; contract = false; stack = stack; at = old.pc }) where
    pc : old.pc ≡ q.point.at
    pc = ap (λ z. z.at) (sym at)

    -- the situation, by how the point is left
    abbrev sit_by : Leaving → Situation
    sit_by l = record {
      entry = entry;
      now = content_at c q.point.at;
      next = next_state l c;
      stored = stored_by u q choice c q.does;
      leaving = l;
      gives = gives_of q.does;
    }

    abbrev go_to : Leaving → List PointExit → Walk
    go_to l xs = walk_to u entry (next_state l c) (first_aim u (sit_by l) xs)

    abbrev leaving : Leaving
    leaving = left_by u q choice given c q.does

    abbrev outside_by : Option Row → Bool
    outside_by o = Frames.is_outside f.own E entry (stored_by_row o old)

    module _ (row : Row) (is : file_row p old.pc ≡ Some row) (does : DoesRow p contracts u q row) (ends : List EdgeEnd) (are : AreEdgesOf f spot ends)
        (along : List PointExit) (zip : AllZip (IsEdge f k u i spot (Some row)) ends along) where
      law : IsLawful row
      law = lawful old.pc row is

      literal : HoldsLiteral p row old
      literal a e h = kept_number p asked old sound.0 a (λ j s. asks a j (record {
        point = spot;
        is_point = is_point;
        executes = refl;
        row = row;
        is_row = is;
        loads = e;
        is_kept = h;
      }) s) h

      writes_same : (h : ℕ → Bool) → list_any h (stored_by u q choice c q.does) ≡ list_any h (addresses (row.stored old))
      writes_same h =
          any_elements h (stored_by u q choice c q.does) (addresses (row.stored old)) (does.stores old c choice sound.1 pc small literal carried)

      stores_none : (x : Exception) → row.effect old choice ≡ Raises x → addresses (row.stored old) ≡ []
      stores_none x h = ap addresses (subst (λ z. IfRaises z (row.stored old ≡ None)) h (law.raised old choice sound.1))

      abbrev tried : List PointExit
      tried = Raising ∷ WritingKept ∷ (outside_exit f.own ++ Unaligned ∷ along)

      abbrev comes_to : Outcome → FrameStep
      comes_to o =
          unless_outside (Frames.is_outside f.own E entry (addresses (row.stored old))) g entry place
          (after_row (questions.by_file p) entry row old stack (writes_kept (questions.by_file p) row old) o)

      outcome_same : (o : Outcome) (l : Leaving) → row.effect old choice ≡ o → LeavesAs (λ n. IsReadAfter p contracts n old.pc) o l →
          Reached (comes_to o) (go_to l tried)
      outcome_same (Raises x) (GoesOn jumped to d) h a = absurd a
      outcome_same (Raises x) IsStuck h a = absurd a
      outcome_same (Goes how new) (RaisesOne m) h a = absurd a
      outcome_same (Goes how new) IsStuck h a = absurd a
      outcome_same (Raises x) (RaisesOne m) h a =
          subst (λ z. Reached (unless_outside (Frames.is_outside f.own E entry z) g entry place
          (Stops (exception_event (list_any (λ b. is_kept (p.loaded b)) z) x))) (WalkFails (OfStep (number_event m)))) (sym (stores_none x h))
          (subst (λ (z : Bool). Reached (unless_outside z g entry place (Stops (exception_event false x))) (WalkFails (OfStep (number_event m))))
          (sym (none_outside f.own E entry)) (ap (λ z. WalkFails (OfStep (number_event z))) a ∙ ap WalkFails (raised_is g x)))
      outcome_same (Goes how new) (GoesOn jumped to d) h a =
          let next_is : ComesNext row.length old (Goes how new) = subst (ComesNext row.length old) h (law.next old choice sound.1) in
          let way : IsSuccessor (row.successors old.pc) (Goes how new) = subst (IsSuccessor (row.successors old.pc)) h (law.successors old choice sound.1) in
          subst (λ (z : Bool). Reached (comes_to (Goes how new)) (go_to (GoesOn z to d) tried)) (sym a.0)
          (subst (λ (z : ℕ). Reached (comes_to (Goes how new)) (go_to (GoesOn (jumps how) z d) tried)) (sym a.1)
          (going_same new d a.2 row is (content_at c q.point.at) (stored_by u q choice c q.does) (gives_of q.does) how ends are along zip way next_is
          (law.one_way old.pc) writes_same))

      -- what is given is not looked at
      left_same : leaving ≡ left_by u q choice c c q.does
      left_same = let e = does.lists.1 in ap (left_by u q choice given c) e ∙ sym (ap (left_by u q choice c c) e)

      row_same : Reached (comes_to (row.effect old choice)) (go_to leaving tried)
      row_same =
          subst (λ z. Reached (comes_to (row.effect old choice)) (go_to z tried)) (sym left_same)
          (outcome_same (row.effect old choice) (left_by u q choice c c q.does) refl (does.leaves old c choice sound.1 pc small literal carried))

    -- where there is no row
    no_row : (b : Bool) (o : Option Row) → fetchable p (file_word p old.pc) old.pc ≡ b → (if b then o else None) ≡ None → (out : Bool) →
        Reached (unless_outside out g entry place (if b then by_row (questions.by_file p) entry place choice o else Stops FetchFails))
        (WalkFails (OfStep (stop_event (fetchable p (file_word p q.point.at) q.point.at))))
    no_row false o e h true = ap (λ z. WalkFails (OfStep (stop_event z))) (ap (λ z. fetchable p (file_word p z) z) (sym pc) ∙ e)
    no_row false o e h false = ap (λ z. WalkFails (OfStep (stop_event z))) (ap (λ z. fetchable p (file_word p z) z) (sym pc) ∙ e)
    no_row true None e h true = ap (λ z. WalkFails (OfStep (stop_event z))) (ap (λ z. fetchable p (file_word p z) z) (sym pc) ∙ e)
    no_row true None e h false = ap (λ z. WalkFails (OfStep (stop_event z))) (ap (λ z. fetchable p (file_word p z) z) (sym pc) ∙ e)
    no_row true (Some row) e h out = absurd (cc)

    -- the lines come first
    lines_same : SameLine f (false_check u.endian (checks_of f q.point) (content_at c q.point.at) entry) (false_assert E p.notes.asserts old entry)
    lines_same =
        subst (λ z. SameLine f (false_check u.endian (checks_of f z) (content_at c z.at) entry) (false_assert E p.notes.asserts old entry)) (sym at)
        (subst (λ z. SameLine f (false_check z (checks_of f spot) (content_at c old.pc) entry) (false_assert E p.notes.asserts old entry)) (sym un.endian)
        (at_point f contracts entry old c carried spot refl assured))

    abbrev judged_step : Option ℕ → Step
    judged_step o = after_asserts o (questions.by_file p) entry place choice

    judged : (out : Bool) (x : Option Check) (o : Option ℕ) → SameLine f x o → (aim : Aim) →
        Reached (unless_outside out g entry place (judged_step None)) (walk_to u entry (next_state leaving c) aim) →
        Reached (unless_outside out g entry place (judged_step o)) (walk_to u entry (next_state leaving c) (check_or x aim))
    judged out None None h aim inner = inner
    judged true (Some x) (Some line) h aim inner = ap WalkFails h
    judged false (Some x) (Some line) h aim inner = ap WalkFails h
    judged out None (Some line) h aim inner = absurd h
    judged out (Some x) None h aim inner = absurd h

    combine : (out : Bool) (rest : List PointExit) → q.exits ≡ map FalseCheck (checks_of f q.point) ++ rest →
        Reached (unless_outside out g entry place (judged_step None)) (go_to leaving rest) →
        Reached (unless_outside out g entry place (step (questions.by_file p) entry place choice)) (go_to leaving q.exits)
    combine out rest e inner =
        subst (λ z. Reached (unless_outside out g entry place (step (questions.by_file p) entry place choice)) (walk_to u entry (next_state leaving c) z))
        (sym (ap (first_aim u (sit_by leaving)) e ∙ checks_aim u (sit_by leaving) (checks_of f q.point) rest))
        (judged out (false_check u.endian (checks_of f q.point) (content_at c q.point.at) entry) (false_assert E p.notes.asserts old entry) lines_same
        (first_aim u (sit_by leaving) rest) inner)

    fetched : (out b : Bool) (o : Option Row) → fetchable p (file_word p old.pc) old.pc ≡ b → p.machine.row (file_word p old.pc) ≡ o → (w : Walk) →
        Reached (unless_outside out g entry place (if b then by_row (questions.by_file p) entry place choice o else Stops FetchFails)) w →
        Reached (unless_outside out g entry place (judged_step None)) w
    fetched out false o e r w h =
        subst (λ (z : Bool). Reached (unless_outside out g entry place (by_fetch z (questions.by_file p) entry place choice)) w) (sym e) h
    fetched out true o e r w h =
        subst (λ (z : Bool). Reached (unless_outside out g entry place (by_fetch z (questions.by_file p) entry place choice)) w) (sym e)
        (subst (λ (z : Option Row). Reached (unless_outside out g entry place (by_row (questions.by_file p) entry place choice z)) w) (sym r) h)

    abbrev stop : PointExit
    stop = Always (ToEvent (OfStep (stop_event (fetchable p (file_word p q.point.at) q.point.at))))

    abbrev whole : Option Row → FrameStep
    whole o = unless_outside (outside_by o) g entry place (step (questions.by_file p) entry place choice)

    step_same : (b : Bool) (o : Option Row) → fetchable p (file_word p old.pc) old.pc ≡ b → p.machine.row (file_word p old.pc) ≡ o →
        DoesAddress f contracts k u i q (if b then o else None) → Reached (whole (if b then o else None)) (go_to leaving q.exits)
    step_same false o e r d =
        combine (outside_by None) (stop ∷ []) d.1 (fetched (outside_by None) false o e r (go_to leaving (stop ∷ [])) (no_row false o e refl (outside_by None)))
    step_same true None e r d =
        combine (outside_by None) (stop ∷ []) d.1
        (fetched (outside_by None) true None e r (go_to leaving (stop ∷ [])) (no_row true None e refl (outside_by None)))
    step_same true (Some row) e r d =
        let is : file_row p old.pc ≡ Some row = ap (λ z. if z then p.machine.row (file_word p old.pc) else None) e ∙ r in
        let are : AreEdgesOf f spot d.2.0 = subst (λ (z : Point). AreEdgesOf f z d.2.0) at d.2.1 in
        let zip : AllZip (IsEdge f k u i spot (Some row)) d.2.0 d.0 = subst (λ (z : Point). AllZip (IsEdge f k u i z (Some row)) d.2.0 d.0) at d.2.2 in
        combine (outside_by (Some row)) (Raising ∷ WritingKept ∷ (outside_exit f.own ++ Unaligned ∷ d.0)) d.1
        (fetched (outside_by (Some row)) true (Some row) e r (go_to leaving (Raising ∷ WritingKept ∷ (outside_exit f.own ++ Unaligned ∷ d.0)))
        (row_same row is d.3 d.2.0 are d.0 zip))

    -- a step of the frame at a point is a step of the walk
    pub row_step : DoesAddress f contracts k u i q (file_row p q.point.at) → Reached (frame_step g entry place choice) (walk_from u entry q choice given c)
    row_step d =
        step_same (fetchable p (file_word p old.pc) old.pc) (p.machine.row (file_word p old.pc)) refl refl
        (subst (λ (z : ℕ). DoesAddress f contracts k u i q (file_row p z)) (sym pc) d)
