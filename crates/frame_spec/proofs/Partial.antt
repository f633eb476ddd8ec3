-- Where the verdict with heads is partial, no run of the tables from an entry state has an event: at each head a run is in a head state, from which a new
-- segment begins.
use Rattle.std.proofs.Common.{◌≡◌, inl, inr, ℕ, zero, suc, ◌+◌, ◌≤◌, ◌<◌, refl, ap, sym, ◌∙◌, subst, arith, List, [], ◌∷◌, Option, Some, None, Bool, true, false}
use Rattle.std.specs.Prelude.{Contains, ◌==◌, ◌&&◌, not, nat_le, nat_lt, is_some, length, if◌then◌else◌}
use Rattle.std.proofs.lemmas.Bool.Decides.{nat_tests}
use Rattle.word_spec.specs.State.{State}
use Rattle.word_spec.specs.Memory.{Endian}
use Rattle.bilv_spec.specs.Notes.{Assert, value, is_true}
use Rattle.machine_spec.specs.Endings as endings
use Rattle.bilv_spec.specs.Run as tables
use Rattle.bilv_spec.specs.Run.{Program, Place, Step, Stops, Arrives, Exits, step, false_assert}
use Rattle.machine_spec.specs.Endings.{Event, AssertFails}
use Rattle.bilv_spec.specs.Points.{ToAddress, edges, file_row}
use Rattle.bilv_spec.specs.Verdict as verdict
use Rattle.bilv_spec.specs.Questions.{by_file, point_of}
use Rattle.bilv_spec.specs.PointLaws.{HasLawfulRows, ReadsMemory, GoesAlong}
use Rattle.bilv_spec.proofs.PointSteps.{steps_along}
use Rattle.bilv_spec.proofs.FileWords.{Sound, every, ArrivesIn, step_in, step_same}
use Rattle.frame_spec.specs.Frames.{Frame, event_of, is_head, is_invariant, invariants_of, contract_at, is_outside, stored_by_row}
use Rattle.frame_spec.specs.FrameRuns as frames
use Rattle.frame_spec.specs.FrameRuns.{Start, Run, Going, Arriving, Calling, Exited, Failed, Turned, Cut, Broken, FrameStep, GoesTo, Reaches, Calls, lands, settles, unless_outside, frame_step, is_contract_call, links_by, row_of_place, after_step, arrive, turn, arrival, one_more, begins, run}
use Rattle.frame_spec.specs.FramePoints.{Anchor, AtEntry, AtHead, Point, first_of, is_cut, frame_edges, end_of, point_to, is_contract_end, turns_to, IsPoint, first, entry_head, next, IsAnchor}
use Rattle.frame_spec.specs.FrameVerdict.{IsOrigin, IsStart, IsRight, Partial, RunFails, RunTurns}
use Rattle.frame_spec.specs.Theorems.{PartialNeverFails}
use Rattle.frame_spec.proofs.HeadlessVerdict.{nothing}
use Rattle.frame_spec.proofs.OneEnd.{exit_not_fail, exit_not_turn, cut_not_fail, cut_not_turn}

-- where no assert line is false, no invariant is
module _ (f : Frame) (e : Endian) (now entry : State) where
  abbrev fails : Assert → Bool
  fails a = (a.at == now.pc) && not (is_true (value e a.says now entry))

  kept_by : (a : Assert) (l : List Assert) (b : Bool) → fails a ≡ false → false_assert e (invariants_of f l) now entry ≡ None →
      false_assert e (if b then a ∷ invariants_of f l else invariants_of f l) now entry ≡ None
  kept_by a l true t h = ap (λ z. if z then Some a.line else false_assert e (invariants_of f l) now entry) t ∙ h
  kept_by a l false t h = h

  step_by : (a : Assert) (l : List Assert) (b : Bool) → fails a ≡ b → (if b then Some a.line else false_assert e l now entry) ≡ None →
      (fails a ≡ false) × (false_assert e l now entry ≡ None)
  step_by a l true t h = absurd (cc)
  step_by a l false t h = (t, h)

  pub invariants_hold : (l : List Assert) → false_assert e l now entry ≡ None → false_assert e (invariants_of f l) now entry ≡ None
  invariants_hold [] h = refl
  invariants_hold (a ∷ l) h = let q = step_by a l (fails a) refl h in kept_by a l (is_invariant f a) q.0 (invariants_hold l q.1)

module _ (f : Frame) (lawful : HasLawfulRows f.program) (memory : ReadsMemory f.program) (unstepped : f.stepped ≡ []) (unowned : f.own ≡ None) (k : ℕ)
    (right : IsRight f k Partial) (e : State) (is : verdict.IsEntryState f.program e) (ch : ℕ → ℕ) (small : (i : ℕ) → ch i < 4) where
  abbrev p : Program
  p = f.program

  no_call : (c d : Place) → is_contract_call f c d ≡ false
  no_call c d = ap (λ z. is_some (contract_at z d.state.pc) && nat_lt (length c.stack) (length d.stack) && links_by (row_of_place f c)) unstepped

  no_end : (q : Point) (stack : List ℕ) (a : ℕ) → is_contract_end f q stack a ≡ false
  no_end q stack a = ap (λ z. is_some (contract_at z a) && nat_lt (length q.stack) (length stack) && links_by (file_row p q.at)) unstepped

  step_is : (c : Place) (choice : ℕ) → frame_step f e c choice ≡ settles f e c (step p e c choice)
  step_is c choice = ap (λ z. unless_outside (is_outside z p.machine.endian e (stored_by_row (row_of_place f c) c.state)) f e c (step p e c choice)) unowned

  -- a run without contract steps breaks nothing
  abbrev IsWhole : Run → Type 0
  IsWhole (Calling turns n c) = ⊥
  IsWhole (Broken l at n) = ⊥
  IsWhole r = Unit {0}

  whole_turn : (b : Bool) (turns n at : ℕ) (c : Place) → IsWhole (turn Going b turns n at c)
  whole_turn true turns n at c = tt
  whole_turn false turns n at c = tt

  whole_arrive : (b : Bool) (turns n at : ℕ) (c : Place) → IsWhole (arrive Going b k turns n at c)
  whole_arrive false turns n at c = tt
  whole_arrive true turns n at c = whole_turn (turns == k) turns n at c

  whole_lands : (b : Bool) (turns n at : ℕ) (c d : Place) → is_head f d.state.pc ≡ b →
      IsWhole (after_step k turns n at (if b then Reaches d else if is_contract_call f c d then Calls d else GoesTo d))
  whole_lands true turns n at c d h = tt
  whole_lands false turns n at c d h =
      subst (λ (z : Bool). IsWhole (after_step k turns n at (if z then Calls d else GoesTo d))) (sym (no_call c d))
      (whole_arrive (nat_le d.state.pc at) turns n at d)

  whole_exit : (turns n at : ℕ) (s : State) → IsWhole (after_step k turns n at (frames.leaves_by f.own f e s))
  whole_exit turns n at s = subst (λ z. IsWhole (after_step k turns n at (frames.leaves_by z f e s))) (sym unowned) tt

  whole_step : (turns n at : ℕ) (c : Place) (s : Step) → IsWhole (after_step k turns n at (settles f e c s))
  whole_step turns n at c (Stops v) = tt
  whole_step turns n at c (Exits s) = whole_exit turns n at s
  whole_step turns n at c (Arrives d) = whole_lands (is_head f d.state.pc) turns n at c d refl

  whole_arrival : (o : Option ℕ) (n at : ℕ) → IsWhole (arrival f o n at)
  whole_arrival None n at = tt
  whole_arrival (Some line) n at = tt

  module _ (s : Start) (of : s.state ≡ e) where
    whole_more : (r : Run) → IsWhole r → IsWhole (one_more f k s r)
    whole_more (Going turns n c) h =
        subst (λ (z : State). IsWhole (after_step k turns n c.state.pc (frame_step f z c (s.choices n)))) (sym of)
        (subst (λ z. IsWhole (after_step k turns n c.state.pc z)) (sym (step_is c (s.choices n))) (whole_step turns n c.state.pc c (step p e c (s.choices n))))
    whole_more (Arriving turns n c) h = whole_arrival (false_assert p.machine.endian p.notes.asserts c.state s.state) n c.state.pc
    whole_more (Calling turns n c) h = absurd h
    whole_more (Exited at n) h = tt
    whole_more (Failed v at n) h = tt
    whole_more (Turned at n) h = tt
    whole_more (Cut at n) h = tt
    whole_more (Broken l at n) h = absurd h

    whole_begins : (h : Option Place) (b : Bool) → is_head f s.state.pc ≡ b → IsWhole (begins f s.state h)
    whole_begins (Some c) b t = tt
    whole_begins None true t =
        subst (λ (z : Bool). IsWhole (if z then Arriving 0 0 (record { state = s.state; stack = [] }) else Going 0 0
        (record { state = s.state; stack = [] }))) (sym t) tt
    whole_begins None false t =
        subst (λ (z : Bool). IsWhole (if z then Arriving 0 0 (record { state = s.state; stack = [] }) else Going 0 0
        (record { state = s.state; stack = [] }))) (sym t) tt

    whole : (n : ℕ) → IsWhole (run f k s n)
    unfolding run
    whole zero = whole_begins s.head (is_head f s.state.pc) refl
    whole (suc n) = whole_more (run f k s n) (whole n)

  -- the segment from the entry, or from a head state, that takes the choices of the run from a step on
  abbrev segment : Option Place → ℕ → Start
  segment h m = record { state = e; head = h; choices = λ j. ch (m + j); given = λ i. nothing }

  segment_is : (h : Option Place) (m : ℕ) → IsOrigin f k e h → IsStart f k (segment h m)
  segment_is h m o = record {
    entry = is;
    origin = o;
    choices = λ j. small (m + j);
    given = λ i. record { regs = λ r. omega arith; flags = λ g. omega arith; mem = λ a. omega arith };
    is_run = λ b. subst IsWhole b.4 (whole (segment h m) refl b.0);
  }

  no_fail : (h : Option Place) (m : ℕ) → IsOrigin f k e h → RunFails f k (segment h m) → ⊥
  no_fail h m o b = elim (right.2 (segment h m) (segment_is h m o)) [
    | inl x ↦ exit_not_fail f k (segment h m) x b
    | inr x ↦ cut_not_fail f k (segment h m) x b
  ]

  no_turn : (h : Option Place) (m : ℕ) → IsOrigin f k e h → RunTurns f k (segment h m) → ⊥
  no_turn h m o b = elim (right.2 (segment h m) (segment_is h m o)) [
    | inl x ↦ exit_not_turn f k (segment h m) x b
    | inr x ↦ cut_not_turn f k (segment h m) x b
  ]

  -- the place of a run at a step is the place of a segment
  pub record Covered (m : ℕ) (c : Place) : Type 0 where
    head : Option Place
    origin : IsOrigin f k e head
    from : ℕ
    count : ℕ
    sum : from + count ≡ m
    turns : ℕ
    goes : run f k (segment head from) count ≡ Going turns count c
    anchor : Anchor
    point : IsPoint f k (record { anchor = anchor; turns = turns; contract = false; stack = c.stack; at = c.state.pc })
    uncut : is_cut f (record { anchor = anchor; turns = turns; contract = false; stack = c.stack; at = c.state.pc }) ≡ false
    few : turns ≤ k
    sound : Sound p every c.state

  -- the point at which a covered place stands
  abbrev spot : {m : ℕ} {c : Place} → Covered m c → Point
  spot {m} {c} v = record { anchor = v.anchor; turns = v.turns; contract = false; stack = c.stack; at = c.state.pc }

  begun_at : (d : Place) (m : ℕ) → run f k (segment (Some d) m) 0 ≡ Going 0 0 d
  unfolding run
  begun_at d m = refl

  begun_in : (m : ℕ) → (b : Bool) → is_head f e.pc ≡ b → run f k (segment None m) 0 ≡ (if b then Arriving 0 0 (record { state = e; stack = [] })
      else Going 0 0 (record { state = e; stack = [] }))
  unfolding run
  begun_in m b h = ap (λ (z : Bool). if z then Arriving 0 0 (record { state = e; stack = [] }) else Going 0 0 (record { state = e; stack = [] })) h

  module _ (m : ℕ) (c : Place) (v : Covered m c) where
    abbrev its_start : Start
    its_start = segment v.head v.from

    -- its run after one more step
    ran : (s : Step) → step p e c (ch m) ≡ s → run f k its_start (suc v.count) ≡ after_step k v.turns v.count c.state.pc (settles f e c s)
    unfolding run
    ran s h =
        ap (one_more f k its_start) v.goes
        ∙ ap (λ z. after_step k v.turns v.count c.state.pc (frame_step f e c (ch z))) v.sum
        ∙ ap (after_step k v.turns v.count c.state.pc) (step_is c (ch m) ∙ ap (settles f e c) h)

    by_words : step p e c (ch m) ≡ step (by_file p) e c (ch m)
    by_words = step_same p memory c.state v.sound.0 e c.stack (ch m)

    along : (s : Step) → step p e c (ch m) ≡ s → GoesAlong p (point_of v.turns c) s × ArrivesIn (Sound p every) s
    along s h =
        let same : step (by_file p) e c (ch m) ≡ s = sym by_words ∙ h in (
          subst (GoesAlong p (point_of v.turns c)) same (steps_along p lawful v.turns (ch m) e c v.sound.1),
          subst (ArrivesIn (Sound p every)) same (step_in p every lawful e c (ch m) v.sound),
        )

    edges_are : frame_edges f (spot v) ≡ edges p (point_of v.turns c)
    edges_are = ap (λ (z : Bool). if z then [] else edges p (point_of v.turns c)) v.uncut

    -- the next place, of the same segment
    module _ (d : Place) (at : GoesAlong p (point_of v.turns c) (Arrives d)) (sound : Sound p every d.state) where
      edge : Contains (frame_edges f (spot v)) (ToAddress d.stack d.state.pc)
      edge = subst (λ z. Contains z (ToAddress d.stack d.state.pc)) (sym edges_are) at.0

      end_here : is_head f d.state.pc ≡ false → end_of f (spot v) d.stack d.state.pc ≡ point_to false (spot v) d.stack d.state.pc
      end_here h =
          ap (λ (z : Bool). if z then first_of p.entry (AtHead d.stack d.state.pc)
          else point_to (is_contract_end f (spot v) d.stack d.state.pc) (spot v) d.stack d.state.pc) h
          ∙ ap (λ z. point_to z (spot v) d.stack d.state.pc) (no_end (spot v) d.stack d.state.pc)

      end_there : is_head f d.state.pc ≡ true → end_of f (spot v) d.stack d.state.pc ≡ first_of p.entry (AtHead d.stack d.state.pc)
      end_there h =
          ap (λ (z : Bool). if z then first_of p.entry (AtHead d.stack d.state.pc)
          else point_to (is_contract_end f (spot v) d.stack d.state.pc) (spot v) d.stack d.state.pc) h

      point_here : is_head f d.state.pc ≡ false → turns_to (spot v) d.state.pc ≤ k → IsPoint f k (point_to false (spot v) d.stack d.state.pc)
      point_here h l = subst (IsPoint f k) (end_here h) (next v.point edge (subst (λ (z : Point). z.turns ≤ k) (sym (end_here h)) l))

      anchor_there : is_head f d.state.pc ≡ true → IsAnchor f k (AtHead d.stack d.state.pc)
      anchor_there h = subst (IsPoint f k) (end_there h) (next v.point edge (subst (λ (z : Point). z.turns ≤ k) (sym (end_there h)) (omega arith)))

      landed : step p e c (ch m) ≡ Arrives d → (b : Bool) → is_head f d.state.pc ≡ b →
          run f k its_start (suc v.count) ≡ after_step k v.turns v.count c.state.pc (if b then Reaches d else GoesTo d)
      landed h true t = ran (Arrives d) h ∙ ap (λ (z : Bool). after_step k v.turns v.count c.state.pc (if z then Reaches d
          else if is_contract_call f c d then Calls d else GoesTo d)) t
      landed h false t = ran (Arrives d) h ∙ ap (λ (z : Bool). after_step k v.turns v.count c.state.pc (if z then Reaches d
          else if is_contract_call f c d then Calls d else GoesTo d)) t
          ∙ ap (λ (z : Bool). after_step k v.turns v.count c.state.pc (if z then Calls d else GoesTo d)) (no_call c d)

      abbrev is_back : Bool
      is_back = nat_le d.state.pc c.state.pc

      uncut_there : (a : Anchor) → is_head f d.state.pc ≡ false →
          is_cut f (record { anchor = a; turns = turns_to (spot v) d.state.pc; contract = false; stack = d.stack; at = d.state.pc }) ≡ false
      uncut_there AtEntry h = h
      uncut_there (AtHead s b) h = refl

      on : (turns : ℕ) → turns_to (spot v) d.state.pc ≡ turns → turns ≤ k → is_head f d.state.pc ≡ false →
          run f k its_start (suc v.count) ≡ Going turns (v.count + 1) d → Covered (suc m) d
      on turns t l h g = record {
        head = v.head;
        origin = v.origin;
        from = v.from;
        count = suc v.count;
        sum = let s = v.sum in omega arith;
        turns = turns;
        goes = g ∙ ap (λ z. Going turns z d) (let q : v.count + 1 ≡ suc v.count = omega arith in q);
        anchor = v.anchor;
        point = subst (λ z. IsPoint f k (record { anchor = v.anchor; turns = z; contract = false; stack = d.stack; at = d.state.pc })) t
            (point_here h (subst (λ z. z ≤ k) (sym t) l));
        uncut = subst (λ z. is_cut f (record { anchor = v.anchor; turns = z; contract = false; stack = d.stack; at = d.state.pc }) ≡ false) t
            (uncut_there v.anchor h);
        few = l;
        sound = sound;
      }

      on_turn : (b : Bool) → (v.turns == k) ≡ b → is_back ≡ true → is_head f d.state.pc ≡ false →
          run f k its_start (suc v.count) ≡ turn Going b v.turns v.count c.state.pc d → Covered (suc m) d
      on_turn true q t h g = absurd (no_turn v.head v.from v.origin (suc v.count, c.state.pc, v.count, g))
      on_turn false q t h g =
          let few = v.few in
          on (v.turns + 1) (ap (λ (z : Bool). if z then v.turns + 1 else v.turns) t) (grind (arith, nat_tests)) h g

      on_arrive : (b : Bool) → is_back ≡ b → is_head f d.state.pc ≡ false →
          run f k its_start (suc v.count) ≡ arrive Going b k v.turns v.count c.state.pc d → Covered (suc m) d
      on_arrive false t h g = on v.turns (ap (λ (z : Bool). if z then v.turns + 1 else v.turns) t) v.few h g
      on_arrive true t h g = on_turn (v.turns == k) refl t h g

      -- a new segment
      abbrev judged : Option ℕ
      judged = false_assert p.machine.endian p.notes.asserts d.state e

      arrived : run f k its_start (suc v.count) ≡ Arriving v.turns (v.count + 1) d →
          run f k its_start (suc (suc v.count)) ≡ arrival f judged (v.count + 1) d.state.pc
      unfolding run
      arrived g = ap (one_more f k its_start) g

      anew : (o : Option ℕ) → judged ≡ o → is_head f d.state.pc ≡ true → run f k its_start (suc v.count) ≡ Arriving v.turns (v.count + 1) d → Covered (suc m) d
      anew (Some line) j h g =
          absurd (no_fail v.head v.from v.origin (
            suc (suc v.count),
            d.state.pc,
            v.count + 1,
            event_of f (AssertFails line),
            arrived g ∙ ap (λ z. arrival f z (v.count + 1) d.state.pc) j,
          ))
      anew None j h g =
          let anchor = anchor_there h in
          record {
            head = Some d;
            origin = (
              anchor,
              record {
                state = sound.1;
                head = h;
                kept_bytes = λ a x l o q. sound.0 a x l o q refl;
                invariants = invariants_hold f p.machine.endian d.state e p.notes.asserts j;
              },
            );
            from = suc m;
            count = 0;
            sum = omega arith;
            turns = 0;
            goes = begun_at d (suc m);
            anchor = AtHead d.stack d.state.pc;
            point = anchor;
            uncut = refl;
            few = omega arith;
            sound = sound;
          }

      goes_on : step p e c (ch m) ≡ Arrives d → (b : Bool) → is_head f d.state.pc ≡ b → Covered (suc m) d
      goes_on h true t = anew judged refl t (landed h true t)
      goes_on h false t = on_arrive is_back refl t (landed h false t)

    -- what a step of the tables from a covered place comes to
    abbrev IsFine : Step → Type 0
    IsFine (Stops ev) = ⊥
    IsFine (Exits s) = Unit {0}
    IsFine (Arrives d) = Covered (suc m) d

    fine : (s : Step) → step p e c (ch m) ≡ s → IsFine s
    fine (Stops ev) h = no_fail v.head v.from v.origin (suc v.count, c.state.pc, v.count, event_of f ev, ran (Stops ev) h)
    fine (Exits s) h = tt
    fine (Arrives d) h = let q = along (Arrives d) h in goes_on d q.0 q.1 h (is_head f d.state.pc) refl

  entry_sound : Sound p every e
  entry_sound = ((λ a c l h q r. is.kept_bytes a c l h q), is.state)

  abbrev entry_place : Place
  entry_place = record { state = e; stack = [] }

  entry_judged : Option ℕ
  entry_judged = false_assert p.machine.endian p.notes.asserts e e

  entry_arrival : run f k (segment None 0) 0 ≡ Arriving 0 0 entry_place →
      run f k (segment None 0) 1 ≡ arrival f (false_assert p.machine.endian p.notes.asserts e e) 0 e.pc
  unfolding run
  entry_arrival g = ap (one_more f k (segment None 0)) g

  -- the entry itself is covered: by its own segment, or, where it is a head, as a head state
  entry_anew : (o : Option ℕ) → false_assert p.machine.endian p.notes.asserts e e ≡ o → is_head f e.pc ≡ true →
      run f k (segment None 0) 0 ≡ Arriving 0 0 entry_place → Covered 0 entry_place
  entry_anew (Some line) j h g =
      absurd (no_fail None 0 tt (1, e.pc, 0, event_of f (AssertFails line), entry_arrival g ∙ ap (λ z. arrival f z 0 e.pc) j))
  entry_anew None j h g =
      let entry_is_head : is_head f p.entry ≡ true = subst (λ z. is_head f z ≡ true) is.pc h in
      let anchor : IsAnchor f k (AtHead [] e.pc) = subst (λ z. IsAnchor f k (AtHead [] z)) (sym is.pc) (entry_head entry_is_head) in
      record {
        head = Some entry_place;
        origin = (
          anchor,
          record {
            state = is.state;
            head = h;
            kept_bytes = λ a x l o q. is.kept_bytes a x l o q;
            invariants = invariants_hold f p.machine.endian e e p.notes.asserts j;
          },
        );
        from = 0;
        count = 0;
        sum = refl;
        turns = 0;
        goes = begun_at entry_place 0;
        anchor = AtHead [] e.pc;
        point = anchor;
        uncut = refl;
        few = omega arith;
        sound = entry_sound;
      }

  entry_covered : (b : Bool) → is_head f e.pc ≡ b → Covered 0 entry_place
  entry_covered true h = entry_anew (false_assert p.machine.endian p.notes.asserts e e) refl h (begun_in 0 true h)
  entry_covered false h = record {
    head = None;
    origin = tt;
    from = 0;
    count = 0;
    sum = refl;
    turns = 0;
    goes = begun_in 0 false h;
    anchor = AtEntry;
    point = subst (λ z. IsPoint f k (record { anchor = AtEntry; turns = 0; contract = false; stack = []; at = z })) (sym is.pc) first;
    uncut = h;
    few = omega arith;
    sound = entry_sound;
  }

  -- the run of the tables: no event, and each place that it comes to is covered
  abbrev pub IsQuiet : ℕ → tables.Run → Type 0
  IsQuiet m (tables.Going turns n c) = (n ≡ m) × Covered n c
  IsQuiet m (tables.Failed ev at n) = ⊥
  IsQuiet m r = Unit {0}

  module _ (bound : ℕ) where
    quiet_turn : (b : Bool) (turns n at : ℕ) (d : Place) → Covered (suc n) d → IsQuiet (suc n) (tables.turn b turns n at d)
    quiet_turn true turns n at d v = tt
    quiet_turn false turns n at d v = ((let e : n + 1 ≡ suc n = omega arith in e), subst (λ z. Covered z d) (let e : suc n ≡ n + 1 = omega arith in e) v)

    quiet_arrive : (b : Bool) (turns n at : ℕ) (d : Place) → Covered (suc n) d → IsQuiet (suc n) (tables.arrive b bound turns n at d)
    quiet_arrive false turns n at d v = ((let e : n + 1 ≡ suc n = omega arith in e), subst (λ z. Covered z d) (let e : suc n ≡ n + 1 = omega arith in e) v)
    quiet_arrive true turns n at d v = quiet_turn (turns == bound) turns n at d v

    quiet_step : (turns n : ℕ) (c : Place) (v : Covered n c) (s : Step) → step p e c (ch n) ≡ s → IsQuiet (suc n) (tables.after_step bound turns n c.state.pc s)
    quiet_step turns n c v (Stops ev) h = absurd (fine n c v (Stops ev) h)
    quiet_step turns n c v (Exits s) h = tt
    quiet_step turns n c v (Arrives d) h = quiet_arrive (nat_le d.state.pc c.state.pc) turns n c.state.pc d (fine n c v (Arrives d) h)

    abbrev the_start : endings.Start
    the_start = record { state = e; choices = ch }

    quiet_more : (m : ℕ) (r : tables.Run) → IsQuiet m r → IsQuiet (suc m) (tables.one_more p bound the_start r)
    quiet_more m (tables.Going turns n c) q =
        subst (λ z. IsQuiet (suc z) (tables.one_more p bound the_start (tables.Going turns n c))) q.0
        (quiet_step turns n c q.1 (step p e c (ch n)) refl)
    quiet_more m (tables.Exited at n) q = tt
    quiet_more m (tables.Failed ev at n) q = absurd q
    quiet_more m (tables.Turned at n) q = tt

    quiet : (m : ℕ) → IsQuiet m (tables.run p bound the_start m)
    unfolding tables.run
    quiet zero = (refl, entry_covered (is_head f e.pc) refl)
    quiet (suc m) = quiet_more m (tables.run p bound the_start m) (quiet m)

pub partial_never_fails : PartialNeverFails
partial_never_fails f lawful memory unstepped unowned k right start is bound (steps, at, n, ev, h) =
    subst (IsQuiet f lawful memory unstepped unowned k right start.state is.entry start.choices is.choices steps) h
    (quiet f lawful memory unstepped unowned k right start.state is.entry start.choices is.choices bound steps)
