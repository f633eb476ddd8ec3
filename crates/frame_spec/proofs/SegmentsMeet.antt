-- A segment meets points alone.
use Rattle.std.proofs.Common.{◌≡◌, ℕ, zero, suc, ◌+◌, ◌≤◌, refl, ap, sym, ◌∙◌, subst, arith, List, [], ◌∷◌, Option, Some, None, Bool, true, false}
use Rattle.std.specs.Prelude.{Contains, ◌==◌, ◌&&◌, nat_lt, nat_le, is_some, length, if◌then◌else◌}
use Rattle.std.specs.List.{list_any}
use Rattle.std.proofs.lemmas.Bool.Decides.{nat_tests}
use Rattle.word_spec.specs.State.{State}
use Rattle.machine_spec.specs.Machine.{IsAtPlace}
use Rattle.bilv_spec.specs.Elf.{is_kept}
use Rattle.bilv_spec.specs.Run.{Program, Place, Step, Stops, Arrives, Exits, step, false_line, false_assert}
use Rattle.bilv_spec.specs.Points.{ToAddress, edges, file_row, leads_on}
use Rattle.bilv_spec.specs.Questions as questions
use Rattle.bilv_spec.specs.Verdict.{IsEntryState}
use Rattle.bilv_spec.specs.PointLaws.{HasLawfulRows, ReadsMemory, GoesAlong}
use Rattle.bilv_spec.proofs.PointSteps.{steps_along, in_filter}
use Rattle.bilv_spec.proofs.FileWords.{step_same}
use Rattle.frame_spec.specs.Frames as Frames
use Rattle.frame_spec.specs.Frames.{Content, IsContent, Contract, Frame, is_head, is_outside, written, stored_by_row, contract_at}
use Rattle.frame_spec.specs.FrameRuns.{Start, Run, Going, Arriving, Calling, Exited, Failed, Turned, Cut, Broken, FrameStep, Halts, GoesTo, Reaches, Calls, Leaves, Breaks, lands, settles, unless_outside, leaves_by, given_by, frame_step, contract_by, needs_by, writes_by, returns_by, contract_step, state_after, is_contract_call, links_by, row_of_place, after_step, arrive, turn, arrival, one_more, begins, run}
use Rattle.frame_spec.specs.FramePoints.{Anchor, AtEntry, AtHead, Point, IsPoint, first, entry_head, next, IsAnchor, first_of, end_of, point_to, turns_to, is_contract_end, is_cut, frame_edges, top_ends}
use Rattle.frame_spec.specs.FrameQuestions.{point_of}
use Rattle.frame_spec.specs.FrameVerdict.{IsOrigin}
use Rattle.frame_spec.specs.FrameLaws.{HasPlaces, anchor_of, StandsAt, SegmentsMeetPoints}
use Rattle.bilv_spec.proofs.FileWords.{row_same}
use Rattle.frame_spec.proofs.Stacks.{AreAll, of_point, pushed_place, place_passes}
use Rattle.frame_spec.proofs.ByFile.{Stands, Good, good}

-- return addresses on a point's stack are places for rows
pub stack_places : (f : Frame) (k : ℕ) → HasPlaces f.program → (q : Point) → IsPoint f k q → AreAll (IsAtPlace f.program.machine.narrow) q.stack
stack_places f k places q is =
    (of_point (IsAtPlace f.program.machine.narrow) (IsAtPlace f.program.machine.narrow) f (λ a h. h) places.entry
    (λ a row h i. pushed_place f.program.machine.narrow a row.length (places.lengths a row i) h) k q is).1

pub and_false : (a b : Bool) → (a && false && b) ≡ false
and_false true b = refl
and_false false b = refl

module _ (f : Frame) (k : ℕ) where
  -- an edge of the point
  abbrev Edge : Point → Place → Type 0
  Edge q d = Contains (frame_edges f q) (ToAddress d.stack d.state.pc)

  -- where a step comes to goes along an edge, to the point at its end
  abbrev Fits : Point → FrameStep → Type 0
  Fits q (GoesTo d) = Edge q d × (is_head f d.state.pc ≡ false) × (is_contract_end f q d.stack d.state.pc ≡ false)
  Fits q (Calls d) = Edge q d × (is_head f d.state.pc ≡ false) × (is_contract_end f q d.stack d.state.pc ≡ true)
  Fits q (Reaches d) = Edge q d × (is_head f d.state.pc ≡ true)
  Fits q s = Unit {0}

  lands_fit : (q : Point) (c d : Place) → Edge q d → is_contract_call f c d ≡ is_contract_end f q d.stack d.state.pc → Fits q (lands f c d)
  lands_fit q c d h e = by (is_head f d.state.pc) (is_contract_call f c d) refl e
    where
      by : (a b : Bool) → is_head f d.state.pc ≡ a → b ≡ is_contract_end f q d.stack d.state.pc →
          Fits q (if a then Reaches d else if b then Calls d else GoesTo d)
      by true b t e = (h, t)
      by false true t e = (h, t, sym e)
      by false false t e = (h, t, sym e)

  leaves_fit : (q : Point) (o : Option Contract) (entry s : State) → Fits q (leaves_by o f entry s)
  leaves_fit q None entry s = tt
  leaves_fit q (Some x) entry s = by (false_line f.program.machine.endian x.gives s entry) (Frames.has_changed f x entry s)
    where
      by : (o : Option ℕ) (b : Bool) → Fits q (given_by o b s)
      by (Some l) b = tt
      by None true = tt
      by None false = tt

  -- a run that goes on stands at a point that is not the entry's own at a head, after few transfers
  abbrev Meets : Anchor → Run → Type 0
  Meets a (Going t n c) = IsPoint f k (point_of a false t c) × (is_cut f (point_of a false t c) ≡ false) × (t ≤ k)
  Meets a (Calling t n c) = IsPoint f k (point_of a true t c) × (t ≤ k)
  Meets a (Arriving t n c) = IsAnchor f k (AtHead c.stack c.state.pc)
  Meets a r = Unit {0}

  module _ (q : Point) (is : IsPoint f k q) (few : q.turns ≤ k) where
    uncut : (a : Anchor) (contract : Bool) (t : ℕ) (c : Place) → is_head f c.state.pc ≡ false → is_cut f (point_of a contract t c) ≡ false
    uncut AtEntry contract t c h = h
    uncut (AtHead stack b) contract t c h = refl

    -- the end of an edge that leads to no head
    within : (contract : Bool) (d : Place) → is_head f d.state.pc ≡ false → is_contract_end f q d.stack d.state.pc ≡ contract →
        end_of f q d.stack d.state.pc ≡ point_to contract q d.stack d.state.pc
    within contract d h e =
        ap (λ (z : Bool). if z then first_of f.program.entry (AtHead d.stack d.state.pc)
        else point_to (is_contract_end f q d.stack d.state.pc) q d.stack d.state.pc) h
        ∙ ap (λ z. point_to z q d.stack d.state.pc) e

    its_point : (contract : Bool) (d : Place) → Edge q d → is_head f d.state.pc ≡ false → is_contract_end f q d.stack d.state.pc ≡ contract →
        (t : ℕ) → turns_to q d.state.pc ≡ t → t ≤ k → IsPoint f k (point_of q.anchor contract t d)
    its_point contract d edge h e t s l =
        subst (λ z. IsPoint f k (point_of q.anchor contract z d)) s
        (subst (IsPoint f k) (within contract d h e)
        (next is edge (subst (λ (z : Point). z.turns ≤ k) (sym (within contract d h e)) (subst (λ z. z ≤ k) (sym s) l))))

    its_anchor : (d : Place) → Edge q d → is_head f d.state.pc ≡ true → IsAnchor f k (AtHead d.stack d.state.pc)
    its_anchor d edge h =
        let e : end_of f q d.stack d.state.pc ≡ first_of f.program.entry (AtHead d.stack d.state.pc) =
        ap (λ (z : Bool). if z then first_of f.program.entry (AtHead d.stack d.state.pc)
        else point_to (is_contract_end f q d.stack d.state.pc) q d.stack d.state.pc) h in
        subst (IsPoint f k) e (next is edge (subst (λ (z : Point). z.turns ≤ k) (sym e) (omega arith)))

    module _ (contract : Bool) (to : ℕ → ℕ → Place → Run)
        (meets : (t n : ℕ) (d : Place) → is_head f d.state.pc ≡ false → IsPoint f k (point_of q.anchor contract t d) → t ≤ k → Meets q.anchor (to t n d))
        (d : Place) (edge : Edge q d) (h : is_head f d.state.pc ≡ false) (e : is_contract_end f q d.stack d.state.pc ≡ contract) (n : ℕ) where
      turned : (b : Bool) → (q.turns == k) ≡ b → nat_le d.state.pc q.at ≡ true → Meets q.anchor (turn to b q.turns n q.at d)
      turned true s t = tt
      turned false s t =
          let l : q.turns + 1 ≤ k = grind (arith, nat_tests) in
          meets (q.turns + 1) (n + 1) d h (its_point contract d edge h e (q.turns + 1) (ap (λ (z : Bool). if z then q.turns + 1 else q.turns) t) l) l

      arrived : (b : Bool) → nat_le d.state.pc q.at ≡ b → Meets q.anchor (arrive to b k q.turns n q.at d)
      arrived false t = meets q.turns (n + 1) d h (its_point contract d edge h e q.turns (ap (λ (z : Bool). if z then q.turns + 1 else q.turns) t) few) few
      arrived true t = turned (q.turns == k) refl t

    pub stepped : (n : ℕ) (s : FrameStep) → Fits q s → Meets q.anchor (after_step k q.turns n q.at s)
    stepped n (Halts v) h = tt
    stepped n (Leaves v) h = tt
    stepped n (Breaks v) h = tt
    stepped n (GoesTo d) h =
        arrived false Going (λ t m c g i l. (i, uncut q.anchor false t c g, l)) d h.0 h.1 h.2 n (nat_le d.state.pc q.at) refl
    stepped n (Calls d) h = arrived true Calling (λ t m c g i l. (i, l)) d h.0 h.1 h.2 n (nat_le d.state.pc q.at) refl
    stepped n (Reaches d) h = its_anchor d h.0 h.1

  module _ (lawful : HasLawfulRows f.program) (memory : ReadsMemory f.program) (places : HasPlaces f.program) (e : State) (anchor : Anchor) where
    abbrev p : Program
    p = f.program

    module _ (t : ℕ) (c : Place) (choice : ℕ) (ok : Good f lawful memory c) (whole : is_cut f (point_of anchor false t c) ≡ false) where
      abbrev q : Point
      q = point_of anchor false t c

      call_is_end : (d : Place) → is_contract_call f c d ≡ is_contract_end f q d.stack d.state.pc
      call_is_end d =
          ap (λ z. is_some (contract_at f.stepped d.state.pc) && nat_lt (length c.stack) (length d.stack) && links_by z)
          (row_same p memory c.state ok.0.0 c.state.pc)

      along_edge : (d : Place) → GoesAlong p (questions.point_of t c) (Arrives d) → Edge q d
      along_edge d g = subst (λ z. Contains z (ToAddress d.stack d.state.pc))
          (sym (ap (λ (z : Bool). if z then [] else edges p (questions.point_of t c)) whole)) g.0

      settles_fit : (s : Step) → GoesAlong p (questions.point_of t c) s → Fits q (settles f e c s)
      settles_fit (Stops v) g = tt
      settles_fit (Exits v) g = leaves_fit q f.own e v
      settles_fit (Arrives d) g = lands_fit q c d (along_edge d g) (call_is_end d)

      unless_fit : (b : Bool) (s : Step) → GoesAlong p (questions.point_of t c) s → Fits q (unless_outside b f e c s)
      unless_fit false s g = settles_fit s g
      unless_fit true (Stops v) g = tt
      unless_fit true (Arrives d) g = tt
      unless_fit true (Exits v) g = tt

      frame_fits : Fits q (frame_step f e c choice)
      frame_fits =
          unless_fit (is_outside f.own p.machine.endian e (stored_by_row (row_of_place f c) c.state)) (step p e c choice)
          (subst (GoesAlong p (questions.point_of t c)) (sym (step_same p memory c.state ok.0.0 e c.stack choice)) (steps_along p lawful t choice e c ok.0.1))

    module _ (t : ℕ) (s : State) (G : Content) where
      abbrev r : List ℕ → Point
      r stack = point_of anchor true t (record { state = s; stack = stack })

      module _ (x : Contract) (to : ℕ) (below : List ℕ) (is_place : IsAtPlace p.machine.narrow to) where
        abbrev c : Place
        c = record { state = s; stack = to ∷ below }

        abbrev d : Place
        d = record { state = state_after f x s to G; stack = below }

        no_longer : nat_lt (length c.stack) (length d.stack) ≡ false
        no_longer = grind (arith, nat_tests)

        back_fits : Fits (r (to ∷ below)) (lands f c d)
        back_fits =
            lands_fit (r (to ∷ below)) c d
            (in_filter (leads_on p.machine.narrow) (top_ends (to
            ∷ below)) (ToAddress below to) (0, omega arith, refl) (place_passes p.machine.narrow to is_place))
            (ap (λ z. is_some (contract_at f.stepped to) && z && links_by (row_of_place f c)) no_longer
            ∙ and_false (is_some (contract_at f.stepped to)) (links_by (row_of_place f c))
            ∙ sym (ap (λ z. is_some (contract_at f.stepped to) && z && links_by (file_row p s.pc)) no_longer
            ∙ and_false (is_some (contract_at f.stepped to)) (links_by (file_row p s.pc))))

        returns_fit : (o : Option ℕ) → Fits (r (to ∷ below)) (returns_by o f c d)
        returns_fit (Some l) = tt
        returns_fit None = back_fits

        writes_fit : (a b : Bool) → Fits (r (to ∷ below)) (writes_by a b f x c d)
        writes_fit true b = tt
        writes_fit false true = tt
        writes_fit false false = returns_fit (false_line p.machine.endian x.gives d.state c.state)

        needs_fit : (o : Option ℕ) → Fits (r (to ∷ below)) (needs_by o f e x c d)
        needs_fit (Some l) = tt
        needs_fit None =
            writes_fit (list_any (λ a. is_kept (p.loaded a)) (written p.machine.endian x.writes s))
            (is_outside f.own p.machine.endian e (written p.machine.endian x.writes s))

      by_contract : (o : Option Contract) (stack : List ℕ) → AreAll (IsAtPlace p.machine.narrow) stack → Fits (r stack) (contract_by o f e s stack G)
      by_contract None stack h = tt
      by_contract (Some x) [] h = tt
      by_contract (Some x) (to ∷ below) h = needs_fit x to below h.0 (false_line p.machine.endian x.needs s s)

  module _ (lawful : HasLawfulRows f.program) (memory : ReadsMemory f.program) (places : HasPlaces f.program) (start : Start)
      (is : IsEntryState f.program start.state) (origin : IsOrigin f k start.state start.head) (given : (i : ℕ) → IsContent (start.given i)) where
    abbrev its : Anchor
    its = anchor_of start.head

    over : (o : Option ℕ) (n at : ℕ) → Meets its (arrival f o n at)
    over None n at = tt
    over (Some l) n at = tt

    more : (r : Run) → Stands (Good f lawful memory) r → Meets its r → Meets its (one_more f k start r)
    more (Going t n c) g h =
        stepped (point_of its false t c) h.0 h.2 n (frame_step f start.state c (start.choices n))
        (frame_fits lawful memory places start.state its t c (start.choices n) g h.1)
    more (Calling t n c) g h =
        stepped (point_of its true t c) h.0 h.1 n (contract_step f start.state c (start.given n))
        (by_contract lawful memory places start.state its t c.state (start.given n) (contract_at f.stepped c.state.pc) c.stack
        (stack_places f k places (point_of its true t c) h.0))
    more (Arriving t n c) g h = over (false_assert f.program.machine.endian f.program.notes.asserts c.state start.state) n c.state.pc
    more (Exited at n) g h = tt
    more (Failed v at n) g h = tt
    more (Turned at n) g h = tt
    more (Cut at n) g h = tt
    more (Broken l at n) g h = tt

    begins_by : (o : Option Place) → IsOrigin f k start.state o → Meets (anchor_of o) (begins f start.state o)
    begins_by (Some c) h = (h.0, refl, omega arith)
    begins_by None h = by (is_head f start.state.pc) refl
      where
        by : (b : Bool) → is_head f start.state.pc ≡ b → Meets AtEntry (if b then Arriving 0 0 (record { state = start.state; stack = [] })
            else Going 0 0 (record { state = start.state; stack = [] }))
        by true t = subst (λ z. IsAnchor f k (AtHead [] z)) (sym is.pc) (entry_head (subst (λ z. is_head f z ≡ true) is.pc t))
        by false t = (subst (λ z. IsPoint f k (record { anchor = AtEntry; turns = 0; contract = false; stack = []; at = z })) (sym is.pc) first, t, omega arith)

    meets : (n : ℕ) → Meets its (run f k start n)
    unfolding run
    meets zero = begins_by start.head origin
    meets (suc n) = more (run f k start n) (good f lawful memory k start is origin given n) (meets n)

    stands : (r : Run) → Meets its r → StandsAt f k its r
    stands (Going t n c) h = h.0
    stands (Calling t n c) h = h.0
    stands (Arriving t n c) h = h
    stands (Exited at n) h = tt
    stands (Failed v at n) h = tt
    stands (Turned at n) h = tt
    stands (Cut at n) h = tt
    stands (Broken l at n) h = tt

pub segments_meet_points : SegmentsMeetPoints
segments_meet_points f lawful memory places k start is origin given steps =
    stands f k lawful memory places start is origin given (run f k start steps) (meets f k lawful memory places start is origin given steps)
