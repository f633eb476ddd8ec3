-- Where the frames of all contracts pass, a contract's function comes back from each state that meets what it needs, by induction over the ranks.
use Rattle.std.proofs.Common.{◌≡◌, ◌⊎◌, inl, inr, ℕ, zero, suc, ◌+◌, ◌*◌, ◌<◌, ◌≤◌, refl, ap, sym, ◌∙◌, subst, arith, List, [], ◌∷◌, ◌++◌, length, Option, Some, None, Bool, true, false}
use Rattle.std.specs.Prelude.{◌==◌, ◌&&◌, not, nat_le, nat_lt, nat_eq, is_some, slice_get, take, if◌then◌else◌}
use Rattle.std.specs.List.{list_any}
use Rattle.std.proofs.lemmas.Bool.Decides.{nat_tests}
use Rattle.std.proofs.lemmas.List.{length-append}
use Rattle.word_spec.specs.Words.{add}
use Rattle.word_spec.specs.State.{State}
use Rattle.machine_spec.specs.Machine.{IsAtPlace}
use Rattle.machine_spec.specs.MachineLaws.{IfGoes, IsCall}
use Rattle.machine_spec.specs.Endings.{CodeWritten}
use Rattle.bilv_spec.specs.Notes.{NoteLine, FixedRange, Assert}
use Rattle.bilv_spec.specs.Run.{Program, Place, Step, Stops, Arrives, Exits, step, false_line}
use Rattle.bilv_spec.specs.Elf.{is_kept}
use Rattle.bilv_spec.specs.Verdict.{IsEntryState}
use Rattle.bilv_spec.specs.Questions.{by_file}
use Rattle.bilv_spec.specs.PointLaws.{ReadsMemory}
use Rattle.bilv_spec.proofs.PointSteps.{same_number, and_both}
use Rattle.bilv_spec.proofs.FileWords.{Sound, every, ArrivesIn, step_in, step_same}
use Rattle.frame_spec.specs.Frames.{Content, IsContent, content_of, Contract, Frame, FrameEvent, OfStep, NeedsFails, WritesFails, event_of, is_early, is_head, invariants_of, contract_at, is_outside, written, has_changed, stored_by_row}
use Rattle.frame_spec.specs.FrameRuns.{Start, Run, Going, Arriving, Calling, Failed, Turned, Broken, Halts, GoesTo, Reaches, Calls, Leaves, lands, unless_outside, given_by, leaves_by, frame_step, contract_by, needs_by, writes_by, returns_by, contract_step, state_after, is_contract_call, links_by, row_of_place, after_step, arrive, turn, one_more, run}
use Rattle.frame_spec.specs.FrameVerdict as FrameVerdict
use Rattle.frame_spec.specs.FrameVerdict.{IsStart, IsRight, Holds, Whole, contract_frame, ContractsPass, RunExits, RunFails, RunTurns, RunBreaks}
use Rattle.frame_spec.specs.Theorems.{IsContracted, ComesBack, Keeps, here, by_row, by_contract}
use Rattle.frame_spec.proofs.HeadlessVerdict.{nothing}
use Rattle.frame_spec.proofs.OneEnd.{one_end, exit_not_fail, exit_not_turn}
use Rattle.frame_spec.proofs.Prefix.{same_to}
use Rattle.bilv_spec.proofs.FileWords.{row_same}
use Rattle.frame_spec.proofs.Stacks.{pushed_place}
use Rattle.frame_spec.proofs.Steps.{no_longer, Came, came, exit_pc}
use Rattle.frame_spec.proofs.Deeper.{lift, deepen, program_at, deeper}
use Rattle.frame_spec.proofs.Within.{Within, row_within, contract_within, registers_same, flags_same, after_is}

module _ (w : Whole) (con : IsContracted w) (k : ℕ) where
  abbrev p : Program
  p = w.program

  keeps_trans : (e : State) (ch : ℕ → ℕ) {floor : ℕ} {f : Frame} {m n o : ℕ} {a b c : Place} → Keeps w e ch floor f m a n b →
      Keeps w e ch floor f n b o c → Keeps w e ch floor f m a o c
  keeps_trans e ch here g = g
  keeps_trans e ch (by_row d deep s n h) g = by_row d deep s n (keeps_trans e ch h g)
  keeps_trans e ch (by_contract d z rank o x deep s call at is needs inner back h) g =
      by_contract d z rank o x deep s call at is needs inner back (keeps_trans e ch h g)

  -- what lies on a stack is no deeper than the stack
  below_top : (top base : List ℕ) → length base ≤ length (top ++ base)
  below_top top base = let n : length (top ++ base) ≡ length top + length base = length-append top base in omega arith

  -- what a function with a contract comes back with
  abbrev pub Returned : State → (ℕ → ℕ) → (rank : ℕ) → Contract → (m : ℕ) → Place → Type 0
  Returned e ch rank x m d =
      (o : ℕ) × (z : Place) × Keeps w e ch (length d.stack) (contract_frame w rank x) m d o z × ComesBack (contract_frame w rank x) x d z × Sound p every z.state

  -- from each place where its function begins behind a call, in a state that meets what it needs
  abbrev pub Returns : ℕ → Type 0
  Returns rank =
      (x : Contract) → slice_get w.contracts rank ≡ Some x → (e : State) (ch : ℕ → ℕ) → ((i : ℕ) → ch i < 4) → (m : ℕ) (d : Place) (to : ℕ)
      (below : List ℕ) → d.stack ≡ to ∷ below → d.state.pc ≡ x.at → d.state.regs p.machine.link ≡ to → IsAtPlace p.machine.narrow to → Sound p every d.state →
      false_line p.machine.endian x.needs d.state d.state ≡ None → Returned e ch rank x m d

  -- the program and the frame
  abbrev program_like : ℕ → List NoteLine → List NoteLine → List FixedRange → Program
  program_like at rq es fx = record p { entry = at; notes = record p.notes { requires = rq; ensures = es; fixed = fx } }

  abbrev frame_like : ℕ → List NoteLine → List NoteLine → List FixedRange → List Contract → Option Contract → Frame
  frame_like at rq es fx st ow =
      record { program = program_like at rq es fx; invariants = w.invariants; cuts = true; stepped = st; own = ow }

  -- the contracts that are stepped over come back
  abbrev Lower : List Contract → Type 0
  Lower st = (x : Contract) (a : ℕ) → contract_at st a ≡ Some x → (j : ℕ) × (slice_get w.contracts j ≡ Some x) × (x.at ≡ a) × Returns j

  -- the run of a frame exits at the next step, and so far the run of the tables was kept, deeper in its stack
  pub record Ended (f : Frame) (t e : State) (base : List ℕ) (ch : ℕ → ℕ) (m0 : ℕ) : Type 0 where
    pub spot : Place
    pub sound : Sound p every spot.state
    pub within : Within f f.own t spot.state
    pub last : ℕ
    pub kept : Keeps w e ch (length base) f m0 (lift base (record { state = t; stack = [] })) last (lift base spot)
    pub inside : is_outside f.own p.machine.endian t (stored_by_row (row_of_place f spot) spot.state) ≡ false
    pub out : State
    pub exits : step f.program t spot (ch last) ≡ Exits out
    pub leaves : leaves_by f.own f t out ≡ Leaves out

  module _ (at : ℕ) (rq es : List NoteLine) (fx : List FixedRange) (st : List Contract) (ow : Option Contract) (lower : Lower st)
      (t e : State) (base : List ℕ) (ch : ℕ → ℕ) (small : (i : ℕ) → ch i < 4) (m0 : ℕ)
      (deep : (c : Place) (choice : ℕ) → step p e (lift base c) choice ≡ deepen base (step (program_like at rq es fx) t c choice))
      (entry : IsEntryState (program_like at rq es fx) t) (place : IsAtPlace p.machine.narrow at)
      (holds : IsRight (frame_like at rq es fx st ow) k Holds) where
    abbrev q : Program
    q = program_like at rq es fx

    from_memory : ReadsMemory q
    from_memory = record { word = con.memory.word; little = con.memory.little }

    abbrev f : Frame
    f = frame_like at rq es fx st ow

    abbrev root : Place
    root = record { state = t; stack = [] }

    none_of : (l : List Assert) → invariants_of f l ≡ []
    none_of [] = refl
    none_of (a ∷ l) =
        ap (λ z. if list_any (nat_eq a.line) z then a ∷ invariants_of f l else invariants_of f l) con.plain ∙ none_of l

    no_head : (a : ℕ) → is_head f a ≡ false
    no_head a = ap (list_any (λ (x : Assert). x.at == a)) (none_of p.notes.asserts)

    -- a start of the frame whose choices and gifts are in range
    record Fair (s : Start) : Type 0 where
      state : s.state ≡ t
      head : s.head ≡ None
      choices : (i : ℕ) → s.choices i < 4
      given : (i : ℕ) → IsContent (s.given i)

    is_start : (s : Start) → Fair s → ¬ RunBreaks f k s → IsStart f k s
    is_start s h b = record {
      entry = subst (IsEntryState q) (sym h.state) entry;
      origin = subst (λ z. FrameVerdict.IsOrigin f k s.state z) (sym h.head) tt;
      choices = h.choices;
      given = h.given;
      is_run = b;
    }

    no_fail : (s : Start) → Fair s → RunFails f k s → ⊥
    no_fail s h r =
        let is = is_start s h (λ b. let x = one_end f k s r.0 b.0 (Failed r.3 r.1 r.2) (Broken b.1 b.2 b.3) tt tt r.4 b.4 in cc) in
        exit_not_fail f k s (holds.2 s is) r

    no_turn : (s : Start) → Fair s → RunTurns f k s → ⊥
    no_turn s h r =
        let is = is_start s h (λ b. let x = one_end f k s r.0 b.0 (Turned r.1 r.2) (Broken b.1 b.2 b.3) tt tt r.3 b.4 in cc) in
        exit_not_turn f k s (holds.2 s is) r

    abbrev much : ℕ
    much = 4294967296

    -- the frame's run stands at a place, and so does the run of the tables, deeper in its stack
    record Standing (i : ℕ) : Type 0 where
      start : Start
      fair : Fair start
      turns : ℕ
      spot : Place
      goes : run f k start i ≡ Going turns i spot
      few : turns ≤ k
      passed : i ≤ turns * 4294967296 + spot.state.pc
      sound : Sound p every spot.state
      aligned : IsAtPlace p.machine.narrow spot.state.pc
      within : Within f ow t spot.state
      last : ℕ
      kept : Keeps w e ch (length base) f m0 (lift base root) last (lift base spot)

    abbrev Done : Type 0
    Done = Ended f t e base ch m0

    module _ (i : ℕ) (v : Standing i) where
      abbrev c : Place
      c = v.spot

      -- the start with the choice of the tables at this step
      abbrev picked : Start
      picked = record { state = v.start.state; head = v.start.head; choices = λ j. if j == i then ch v.last else v.start.choices j; given = v.start.given }

      pick_small : (b : Bool) (x y : ℕ) → x < 4 → y < 4 → (if b then x else y) < 4
      pick_small true x y g h = g
      pick_small false x y g h = h

      picked_fair : Fair picked
      picked_fair = record {
        state = v.fair.state;
        head = v.fair.head;
        choices = λ j. pick_small (j == i) (ch v.last) (v.start.choices j) (small v.last) (v.fair.choices j);
        given = v.fair.given;
      }

      other : (j n : ℕ) → j < n → (j == n) ≡ false
      other j n l = grind (arith, nat_tests)

      self : (n : ℕ) → (n == n) ≡ true
      self n = grind (arith, nat_tests)

      picked_goes : run f k picked i ≡ Going v.turns i c
      picked_goes = same_to f k i picked v.start (record {
        state = refl;
        head = refl;
        choices = λ j l. ap (λ z. if z then ch v.last else v.start.choices j) (other j i l);
        given = λ j l. refl;
      }) ∙ v.goes

      abbrev outside : Bool
      outside = is_outside ow p.machine.endian t (stored_by_row (row_of_place f c) c.state)

      ran : (b : Bool) → outside ≡ b → (s : Step) → step q t c (ch v.last) ≡ s →
          run f k picked (suc i) ≡ after_step k v.turns i c.state.pc (unless_outside b f t c s)
      unfolding run
      ran b o s h =
          ap (one_more f k picked) picked_goes
          ∙ ap (λ z. after_step k v.turns i c.state.pc (frame_step f z c (picked.choices i))) v.fair.state
          ∙ ap (λ z. after_step k v.turns i c.state.pc (frame_step f t c (if z then ch v.last else v.start.choices i))) (self i)
          ∙ ap (λ z. after_step k v.turns i c.state.pc (unless_outside outside f t c z)) h
          ∙ ap (λ z. after_step k v.turns i c.state.pc (unless_outside z f t c s)) o

      halted : (x : FrameEvent) → run f k picked (suc i) ≡ after_step k v.turns i c.state.pc (Halts x) → ⊥
      halted x r = no_fail picked picked_fair (suc i, c.state.pc, i, x, r)

      leaves_or : (o : Option Contract) (s : State) → (leaves_by o f t s ≡ Leaves s) ⊎ ((x : FrameEvent) × (leaves_by o f t s ≡ Halts x))
      leaves_or None s = inl refl
      leaves_or (Some x) s = by (false_line p.machine.endian x.gives s t) (has_changed f x t s)
        where
          by : (l : Option ℕ) (b : Bool) → (given_by l b s ≡ Leaves s) ⊎ ((y : FrameEvent) × (given_by l b s ≡ Halts y))
          by (Some line) b = inr (FrameEvent.GivesFails line, refl)
          by None true = inr (FrameEvent.ModifiesFails, refl)
          by None false = inl refl

      finished : (s : State) → outside ≡ false → step q t c (ch v.last) ≡ Exits s → Done
      finished s o h = elim (leaves_or ow s) [
        | inl l ↦ record {
          spot = c;
          sound = v.sound;
          within = v.within;
          last = v.last;
          kept = v.kept;
          inside = o;
          out = s;
          exits = h;
          leaves = l;
        }
        | inr l ↦ absurd (halted l.0 (ran false o (Exits s) h ∙ ap (after_step k v.turns i c.state.pc) l.1))
      ]

      -- what the step did
      words : step q t c (ch v.last) ≡ step (by_file q) t c (ch v.last)
      words = step_same q from_memory c.state v.sound.0 t c.stack (ch v.last)

      module _ (d : Place) (h : step q t c (ch v.last) ≡ Arrives d) (o : outside ≡ false) where
        it : Came q c (ch v.last) d
        it = came q t c (ch v.last) d (sym words ∙ h)

        sound_there : Sound p every d.state
        sound_there = subst (ArrivesIn (Sound q every)) (sym words ∙ h) (step_in q every con.lawful t c (ch v.last) v.sound)

        within_there : Within f ow t d.state
        within_there = row_within f con.lawful from_memory ow t c d.state (ch v.last) it.row it.how it.is_row it.goes v.sound o v.within

        deep_step : step p e (lift base c) (ch v.last) ≡ Arrives (lift base d)
        deep_step = deep c (ch v.last) ∙ ap (deepen base) h

        -- whether it is a call of a contract is the same deeper in a stack
        lengths : (a b : List ℕ) → nat_lt (length (a ++ base)) (length (b ++ base)) ≡ nat_lt (length a) (length b)
        lengths a b =
            let x : length (a ++ base) ≡ length a + length base = length-append a base in
            let y : length (b ++ base) ≡ length b + length base = length-append b base in
            grind (arith, nat_tests)

        same_call : is_contract_call f (lift base c) (lift base d) ≡ is_contract_call f c d
        same_call = ap (λ z. is_some (contract_at st d.state.pc) && z && links_by (row_of_place f c)) (lengths c.stack d.stack)

        landed : (b : Bool) → is_contract_call f c d ≡ b →
            run f k picked (suc i) ≡ after_step k v.turns i c.state.pc (if b then Calls d else GoesTo d)
        landed b g =
            ran false o (Arrives d) h
            ∙ ap (λ (z : Bool). after_step k v.turns i c.state.pc (if z then Reaches d else if is_contract_call f c d then Calls d else GoesTo d))
            (no_head d.state.pc)
            ∙ ap (λ (z : Bool). after_step k v.turns i c.state.pc (if z then Calls d else GoesTo d)) g

        -- the transfer is within the bound
        record Arrival (next : ℕ → ℕ → Place → Run) : Type 0 where
          turns : ℕ
          few : turns ≤ k
          passed : suc i ≤ turns * 4294967296 + d.state.pc
          goes : run f k picked (suc i) ≡ next turns (i + 1) d

        arrival_turn : (next : ℕ → ℕ → Place → Run) → (b : Bool) → (v.turns == k) ≡ b → run f k picked (suc i) ≡ turn next b v.turns i c.state.pc d →
            Arrival next
        arrival_turn next true e g = absurd (no_turn picked picked_fair (suc i, c.state.pc, i, g))
        arrival_turn next false e g =
            let few = v.few in
            let passed = v.passed in
            let small_pc = v.sound.1.pc in
            record {
              turns = v.turns + 1;
              few = grind (arith, nat_tests);
              passed = omega arith;
              goes = g;
            }

        arrival_by : (next : ℕ → ℕ → Place → Run) → (b : Bool) → nat_le d.state.pc c.state.pc ≡ b →
            run f k picked (suc i) ≡ arrive next b k v.turns i c.state.pc d → Arrival next
        arrival_by next false e g =
            let passed = v.passed in
            let up : c.state.pc < d.state.pc = grind (arith, nat_tests) in
            record { turns = v.turns; few = v.few; passed = omega arith; goes = g }
        arrival_by next true e g = arrival_turn next (v.turns == k) refl g

        -- no contract is called
        on : is_contract_call f c d ≡ false → Standing (suc i)
        on g =
            let a = arrival_by Going (nat_le d.state.pc c.state.pc) refl (landed false g) in
            record {
              start = picked;
              fair = picked_fair;
              turns = a.turns;
              spot = d;
              goes = a.goes ∙ ap (λ z. Going a.turns z d) (let n : i + 1 ≡ suc i = omega arith in n);
              few = a.few;
              passed = a.passed;
              sound = sound_there;
              aligned = it.aligned;
              within = within_there;
              last = suc v.last;
              kept = keeps_trans e ch v.kept
                  (subst (λ z. Keeps w e ch (length base) f v.last (lift base c) z (lift base d)) (let n : v.last + 1 ≡ suc v.last = omega arith in n)
                  (by_row (lift base d) (below_top c.stack base) deep_step (same_call ∙ g) here));
            }

        -- a contract is called
        some_of : (x : Option Contract) → is_some x ≡ true → (y : Contract) × (x ≡ Some y)
        some_of None r = absurd (let n : false ≡ true = r in cc)
        some_of (Some y) r = (y, refl)

        module _ (g : is_contract_call f c d ≡ true) where
          abbrev has_one : Bool
          has_one = is_some (contract_at st d.state.pc)

          abbrev grows : Bool
          grows = nat_lt (length c.stack) (length d.stack)

          abbrev links_there : Bool
          links_there = links_by (row_of_place f c)

          tests : ((has_one && grows) ≡ true) × (links_there ≡ true)
          tests = and_both (has_one && grows) links_there g

          grown : nat_lt (length c.stack) (length d.stack) ≡ true
          grown = (and_both has_one grows tests.0).1

          linked : links_by (row_of_place f c) ≡ true
          linked = tests.1

          found : (x : Contract) × (contract_at st d.state.pc ≡ Some x)
          found = some_of (contract_at st d.state.pc) (and_both has_one grows tests.0).0

          abbrev x : Contract
          x = found.0

          its_rank : (j : ℕ) × (slice_get w.contracts j ≡ Some x) × (x.at ≡ d.state.pc) × Returns j
          its_rank = lower x d.state.pc found.1

          abbrev to : ℕ
          to = add 32 c.state.pc it.row.length

          call_or : (IsCall it.how × (d.stack ≡ to ∷ c.stack)) ⊎ ((d.stack ≡ c.stack) ⊎ ((top : ℕ) × (c.stack ≡ top ∷ d.stack))) →
              IsCall it.how × (d.stack ≡ to ∷ c.stack)
          call_or (inl y) = y
          call_or (inr r) = let l = no_longer d.stack c.stack r in absurd (let n = grown in grind (arith, nat_tests))

          pushed : IsCall it.how × (d.stack ≡ to ∷ c.stack)
          pushed = call_or it.stacked

          row_is : row_of_place f c ≡ Some it.row
          row_is = row_same q from_memory c.state v.sound.0 c.state.pc ∙ it.is_row

          link_is : d.state.regs p.machine.link ≡ to
          link_is =
              let links : it.row.links ≡ true = subst (λ z. links_by z ≡ true) row_is linked in
              subst (λ z. IfGoes z (λ how new. IsCall how → new.regs p.machine.link ≡ add 32 c.state.pc it.row.length)) it.goes
              (con.links c.state.pc it.row it.is_row links c.state (ch v.last) v.sound.1) pushed.0

          to_aligned : IsAtPlace p.machine.narrow to
          to_aligned = pushed_place p.machine.narrow c.state.pc it.row.length (con.lengths c.state.pc it.row it.is_row) v.aligned

          entered : Arrival Calling
          entered = arrival_by Calling (nat_le d.state.pc c.state.pc) refl (landed true g)

          abbrev there : Place
          there = record { state = d.state; stack = to ∷ c.stack }

          abbrev back_at : Content → Place
          back_at G = record { state = state_after f x d.state to G; stack = c.stack }

          abbrev needed : Option ℕ
          needed = false_line p.machine.endian x.needs d.state d.state

          abbrev places : List ℕ
          places = written p.machine.endian x.writes d.state

          contract_is : (G : Content) → contract_step f t d G ≡ needs_by needed f t x there (back_at G)
          contract_is G =
              ap (λ z. contract_by z f t d.state d.stack G) found.1
              ∙ ap (λ z. contract_by (Some x) f t d.state z G) pushed.1

          -- the contract step of a start
          next_of : (s : Start) → s.state ≡ t → run f k s (suc i) ≡ Calling entered.turns (i + 1) d →
              run f k s (suc (suc i)) ≡ after_step k entered.turns (i + 1) d.state.pc (needs_by needed f t x there (back_at (s.given (i + 1))))
          unfolding run
          next_of s e2 r =
              ap (one_more f k s) r
              ∙ ap (λ z. after_step k entered.turns (i + 1) d.state.pc (contract_step f z d (s.given (i + 1)))) e2
              ∙ ap (after_step k entered.turns (i + 1) d.state.pc) (contract_is (s.given (i + 1)))

          abbrev gift : Content
          gift = picked.given (i + 1)

          fails_there : (y : FrameEvent) → needs_by needed f t x there (back_at gift) ≡ Halts y → ⊥
          fails_there y r = no_fail picked picked_fair
              (suc (suc i), d.state.pc, i + 1, y, next_of picked v.fair.state entered.goes ∙ ap (after_step k entered.turns (i + 1) d.state.pc) r)

          needs_or : (n : Option ℕ) → needed ≡ n → needed ≡ None
          needs_or None r = r
          needs_or (Some line) r = absurd (fails_there (NeedsFails line) (ap (λ z. needs_by z f t x there (back_at gift)) r))

          needs_met : needed ≡ None
          needs_met = needs_or needed refl

          abbrev is_kept_there : Bool
          is_kept_there = list_any (λ a. is_kept (p.loaded a)) places

          abbrev is_outside_there : Bool
          is_outside_there = is_outside ow p.machine.endian t places

          writes_or : (a b : Bool) → is_kept_there ≡ a → is_outside_there ≡ b → (is_kept_there ≡ false) × (is_outside_there ≡ false)
          writes_or true b r s = absurd (fails_there (OfStep CodeWritten) (ap (λ z. needs_by z f t x there (back_at gift)) needs_met
              ∙ ap (λ z. writes_by z is_outside_there f x there (back_at gift)) r))
          writes_or false true r s = absurd (fails_there WritesFails (ap (λ z. needs_by z f t x there (back_at gift)) needs_met
              ∙ ap (λ z. writes_by z is_outside_there f x there (back_at gift)) r ∙ ap (λ z. writes_by false z f x there (back_at gift)) s))
          writes_or false false r s = (r, s)

          writes_met : (is_kept_there ≡ false) × (is_outside_there ≡ false)
          writes_met = writes_or is_kept_there is_outside_there refl refl

          -- what the tables come back with
          back : Returned e ch its_rank.0 x (suc v.last) (lift base d)
          back = its_rank.3 x its_rank.1 e ch small (suc v.last) (lift base d) to (c.stack ++ base) (ap (λ z. z ++ base) pushed.1) (sym its_rank.2) link_is
              to_aligned sound_there needs_met

          abbrev z : Place
          z = back.1

          comes : ComesBack f x (lift base d) z
          comes =
              let b = back.3 in
              record {
                stack = b.stack;
                gives = b.gives;
                registers = λ r h. b.registers r h;
                flags = λ r h. b.flags r h;
                bytes = λ r h. b.bytes r h;
              }

          top_is : (z.state.pc ≡ to) × (z.stack ≡ c.stack ++ base)
          top_is =
              let e1 : d.stack ++ base ≡ to ∷ (c.stack ++ base) = ap (λ u. u ++ base) pushed.1 in
              let e2 : z.state.pc ∷ z.stack ≡ to ∷ (c.stack ++ base) = sym comes.stack ∙ e1 in
              (cc, cc)

          abbrev G : Content
          G = content_of z.state

          after_same : state_after f x d.state to G ≡ z.state
          after_same = ap (λ u. state_after f x d.state u G) (sym top_is.0) ∙ after_is f x (lift base d) z comes

          abbrev back_place : Place
          back_place = record { state = z.state; stack = c.stack }

          back_same : back_at G ≡ back_place
          back_same = ap (λ u. record { state = u; stack = c.stack }) after_same

          no_call_back : is_contract_call f there back_place ≡ false
          no_call_back =
              let l : nat_lt (length (to ∷ c.stack)) (length c.stack) ≡ false = grind (arith, nat_tests) in
              ap (λ u. is_some (contract_at st z.state.pc) && u && links_by (row_of_place f there)) l
              ∙ by (is_some (contract_at st z.state.pc)) (links_by (row_of_place f there))
            where
              by : (b y : Bool) → (b && false && y) ≡ false
              by true y = refl
              by false y = refl

          lands_back : lands f there back_place ≡ GoesTo back_place
          lands_back =
              ap (λ (u : Bool). if u then Reaches back_place else if is_contract_call f there back_place then Calls back_place else GoesTo back_place)
              (no_head z.state.pc)
              ∙ ap (λ (u : Bool). if u then Calls back_place else GoesTo back_place) no_call_back

          steps_back : needs_by needed f t x there (back_at G) ≡ GoesTo back_place
          steps_back =
              ap (needs_by needed f t x there) back_same
              ∙ ap (λ u. needs_by u f t x there back_place) needs_met
              ∙ ap (λ u. writes_by u is_outside_there f x there back_place) writes_met.0
              ∙ ap (λ u. writes_by false u f x there back_place) writes_met.1
              ∙ ap (λ u. returns_by u f there back_place) comes.gives
              ∙ lands_back

          -- the start that is given this
          abbrev gifted : Start
          gifted = record { state = picked.state; head = picked.head; choices = picked.choices; given = λ j. if j == i + 1 then G else picked.given j }

          content_if : (b : Bool) (u y : Content) → IsContent u → IsContent y → IsContent (if b then u else y)
          content_if true u y l r = l
          content_if false u y l r = r

          gifted_fair : Fair gifted
          gifted_fair = record {
            state = picked_fair.state;
            head = picked_fair.head;
            choices = picked_fair.choices;
            given = λ j. content_if (j == i + 1) G (picked.given j)
                (record { regs = back.4.1.regs; flags = back.4.1.flags; mem = back.4.1.mem }) (picked_fair.given j);
          }

          gifted_goes : run f k gifted (suc i) ≡ Calling entered.turns (i + 1) d
          gifted_goes = same_to f k (suc i) gifted picked (record {
            state = refl;
            head = refl;
            choices = λ j l. refl;
            given = λ j l. ap (λ u. if u then G else picked.given j) (other j (i + 1) (omega arith));
          }) ∙ entered.goes

          gifted_next : run f k gifted (suc (suc i)) ≡ arrive Going (nat_le z.state.pc d.state.pc) k entered.turns (i + 1) d.state.pc back_place
          gifted_next =
              next_of gifted v.fair.state gifted_goes
              ∙ ap (λ u. after_step k entered.turns (i + 1) d.state.pc (needs_by needed f t x there (back_at (if u then G else picked.given (i + 1)))))
              (self (i + 1))
              ∙ ap (after_step k entered.turns (i + 1) d.state.pc) steps_back

          kept_back : Keeps w e ch (length base) f m0 (lift base root) back.0 (lift base back_place)
          kept_back =
              let same : z ≡ lift base back_place = ap (λ u. record { state = z.state; stack = u }) top_is.1 in
              let inner = subst (λ n. Keeps w e ch (length (d.stack ++ base)) (contract_frame w its_rank.0 x) n (lift base d) back.0 z)
              (let n : suc v.last ≡ v.last + 1 = omega arith in n) back.2 in
              keeps_trans e ch v.kept (subst (λ u. Keeps w e ch (length base) f v.last (lift base c) back.0 u) same
              (by_contract (lift base d) z its_rank.0 back.0 x (below_top c.stack base) deep_step (same_call ∙ g) found.1 its_rank.1 needs_met inner comes here))

          settled : (turns : ℕ) → turns ≤ k → suc (suc i) ≤ turns * 4294967296 + z.state.pc →
              run f k gifted (suc (suc i)) ≡ Going turns (i + 1 + 1) back_place →
              Standing (suc (suc i))
          settled turns l n r = record {
            start = gifted;
            fair = gifted_fair;
            turns = turns;
            spot = back_place;
            goes = r ∙ ap (λ u. Going turns u back_place) (let m : i + 1 + 1 ≡ suc (suc i) = omega arith in m);
            few = l;
            passed = n;
            sound = back.4;
            aligned = subst (IsAtPlace p.machine.narrow) (sym top_is.0) to_aligned;
            within = contract_within f con.lawful from_memory ow t x d.state z.state writes_met.1 comes.bytes within_there;
            last = back.0;
            kept = kept_back;
          }

          settled_turn : (b : Bool) → (entered.turns == k) ≡ b →
              run f k gifted (suc (suc i)) ≡ turn Going b entered.turns (i + 1) d.state.pc back_place → Standing (suc (suc i))
          settled_turn true r h2 = absurd (no_turn gifted gifted_fair (suc (suc i), d.state.pc, i + 1, h2))
          settled_turn false r h2 =
              let few = entered.few in
              let passed = entered.passed in
              let small_pc = sound_there.1.pc in
              settled (entered.turns + 1) (grind (arith, nat_tests)) (omega arith) h2

          settled_by : (b : Bool) → nat_le z.state.pc d.state.pc ≡ b →
              run f k gifted (suc (suc i)) ≡ arrive Going b k entered.turns (i + 1) d.state.pc back_place → Standing (suc (suc i))
          settled_by false r h2 =
              let passed = entered.passed in
              let up : d.state.pc < z.state.pc = grind (arith, nat_tests) in
              settled entered.turns entered.few (omega arith) h2
          settled_by true r h2 = settled_turn (entered.turns == k) refl h2

          returned : Standing (suc (suc i))
          returned = settled_by (nat_le z.state.pc d.state.pc) refl gifted_next

      abbrev Next : Type 0
      Next = Done ⊎ ((j : ℕ) × (i < j) × Standing j)

      arrives_to : (b : Bool) (d : Place) → is_contract_call f c d ≡ b → outside ≡ false → step q t c (ch v.last) ≡ Arrives d → Next
      arrives_to false d g o h = inr (suc i, omega arith, on d h o g)
      arrives_to true d g o h = inr (suc (suc i), omega arith, returned d h o g)

      next_by : (b : Bool) (s : Step) → outside ≡ b → step q t c (ch v.last) ≡ s → Next
      next_by true (Stops y) o h = absurd (halted (if is_early y then event_of f y else WritesFails) (ran true o (Stops y) h))
      next_by true (Arrives d) o h = absurd (halted WritesFails (ran true o (Arrives d) h))
      next_by true (Exits s) o h = absurd (halted WritesFails (ran true o (Exits s) h))
      next_by false (Stops y) o h = absurd (halted (event_of f y) (ran false o (Stops y) h))
      next_by false (Exits s) o h = inl (finished s o h)
      next_by false (Arrives d) o h = arrives_to (is_contract_call f c d) d refl o h

      progress : Next
      progress = next_by outside (step q t c (ch v.last)) refl refl

    -- the number of transfers and then the address rise, so the frame's run comes to its end
    loop : (fuel i : ℕ) → suc k * 4294967296 ≤ i + fuel → Standing i → Done
    loop zero i l v =
        let few = v.few in
        let passed = v.passed in
        let small_pc = v.sound.1.pc in
        absurd (omega arith)
    loop (suc fuel) i l v = elim (progress i v) [ inl d ↦ d | inr n ↦ (let u = n.1 in loop fuel n.0 (omega arith) n.2) ]

    begun : (o : Option Contract) → Within f o t t
    begun None = tt
    begun (Some x) = λ a h. refl

    abbrev first_start : Start
    first_start = record { state = t; head = None; choices = λ j. 0; given = λ j. nothing }

    first_goes : run f k first_start 0 ≡ Going 0 0 root
    unfolding run
    first_goes = ap (λ (z : Bool). if z then Arriving 0 0 root else Going 0 0 root) (no_head t.pc)

    pub exits_at_last : Done
    exits_at_last = loop (suc k * 4294967296) 0 (omega arith) (record {
      start = first_start;
      fair = record {
        state = refl;
        head = refl;
        choices = λ j. omega arith;
        given = λ j. record { regs = λ r. omega arith; flags = λ r. omega arith; mem = λ a. omega arith };
      };
      turns = 0;
      spot = root;
      goes = first_goes;
      few = omega arith;
      passed = omega arith;
      sound = ((λ a y l h s r. entry.kept_bytes a y l h s), entry.state);
      aligned = subst (IsAtPlace p.machine.narrow) (sym entry.pc) place;
      within = begun ow;
      last = m0;
      kept = here;
    })

  -- the contract that is stepped over has a lower rank
  abbrev RankOf : ℕ → List Contract → ℕ → Contract → Type 0
  RankOf n l a x = (j : ℕ) × (j < n) × (slice_get l j ≡ Some x) × (x.at ≡ a)

  rank_by : (b : Bool) (n : ℕ) (y : Contract) (l : List Contract) (a : ℕ) (x : Contract) → (y.at == a) ≡ b →
      (contract_at (take n l) a ≡ Some x → RankOf n l a x) → (if b then Some y else contract_at (take n l) a) ≡ Some x → RankOf (suc n) (y ∷ l) a x
  rank_by true n y l a x e r g =
      let s : y ≡ x = cc in (0, omega arith, ap Some s, subst (λ (z : Contract). z.at ≡ a) s (same_number y.at a e))
  rank_by false n y l a x e r g = let i = r g in (suc i.0, (let u = i.1 in omega arith), i.2, i.3)

  rank_of : (n : ℕ) (l : List Contract) (a : ℕ) (x : Contract) → contract_at (take n l) a ≡ Some x → RankOf n l a x
  rank_of zero l a x h = absurd (cc)
  rank_of (suc n) [] a x h = absurd (cc)
  rank_of (suc n) (y ∷ l) a x h = rank_by (y.at == a) n y l a x refl (rank_of n l a x) h

  -- the return of a contract's frame, deeper in the stack
  module _ (rank : ℕ) (x : Contract) (is : slice_get w.contracts rank ≡ Some x) (e : State) (ch : ℕ → ℕ) (m : ℕ) (d : Place) (to : ℕ) (below : List ℕ)
      (stack : d.stack ≡ to ∷ below) (link : d.state.regs p.machine.link ≡ to) (v : Ended (contract_frame w rank x) d.state e (to ∷ below) ch m) where
    abbrev g : Frame
    g = contract_frame w rank x

    abbrev leaving_at : Place
    leaving_at = lift (to ∷ below) v.spot

    abbrev home : Place
    home = record { state = v.out; stack = below }

    last_step : step p e leaving_at (ch v.last) ≡ Arrives home
    last_step = deeper p x.at x.needs d.state e to below link con.of_now v.spot (ch v.last) ∙ ap (deepen (to ∷ below)) v.exits

    deep_words : step p e leaving_at (ch v.last) ≡ step (by_file p) e leaving_at (ch v.last)
    deep_words = step_same p con.memory leaving_at.state v.sound.0 e leaving_at.stack (ch v.last)

    did : Came p leaving_at (ch v.last) home
    did = came p e leaving_at (ch v.last) home (sym deep_words ∙ last_step)

    shorter : is_contract_call g leaving_at home ≡ false
    shorter =
        let n : length (v.spot.stack ++ (to ∷ below)) ≡ length v.spot.stack + length (to ∷ below) = length-append v.spot.stack (to ∷ below) in
        let l : nat_lt (length (v.spot.stack ++ (to ∷ below))) (length below) ≡ false = grind (arith, nat_tests) in
        ap (λ u. is_some (contract_at g.stepped home.state.pc) && u && links_by (row_of_place g leaving_at)) l
        ∙ by (is_some (contract_at g.stepped home.state.pc)) (links_by (row_of_place g leaving_at))
      where
        by : (b y : Bool) → (b && false && y) ≡ false
        by true y = refl
        by false y = refl

    given_or : (o : Option ℕ) (b : Bool) → given_by o b v.out ≡ Leaves v.out → (o ≡ None) × (b ≡ false)
    given_or (Some line) b r = absurd (cc)
    given_or None true r = absurd (cc)
    given_or None false r = (refl, refl)

    left : (false_line p.machine.endian x.gives v.out d.state ≡ None) × (has_changed g x d.state v.out ≡ false)
    left = given_or (false_line p.machine.endian x.gives v.out d.state) (has_changed g x d.state v.out) v.leaves

    within_out : Within g (Some x) d.state v.out
    within_out = row_within g con.lawful (record { word = con.memory.word; little = con.memory.little }) (Some x) d.state v.spot v.out
        (ch v.last) did.row did.how did.is_row did.goes v.sound v.inside v.within

    comes_back : ComesBack g x d home
    comes_back = record {
      stack = stack ∙ ap (λ u. u ∷ below) (sym link ∙ sym (exit_pc g.program d.state v.spot (ch v.last) v.out v.exits));
      gives = left.0;
      registers = λ r h. registers_same g x d.state v.out left.1 r
          (con.registers r (and_both (p.machine.has_register r) (not (list_any (nat_eq r) x.registers)) h).0) h;
      flags = λ r h. flags_same g x d.state v.out left.1 r (con.flags r (and_both (p.machine.has_flag r) (not (list_any (nat_eq r) x.flags)) h).0) h;
      bytes = within_out;
    }

    came_back : Returned e ch rank x m d
    came_back = (
      suc v.last,
      home,
      subst (λ (u : Place). Keeps w e ch (length u.stack) g m u (suc v.last) home) (ap (λ u. record { state = d.state; stack = u }) (sym stack))
          (keeps_trans e ch v.kept (subst (λ n. Keeps w e ch (length (to ∷ below)) g v.last leaving_at n home)
          (let n : v.last + 1 ≡ suc v.last = omega arith in n) (by_row home (below_top v.spot.stack (to ∷ below)) last_step shorter here))),
      comes_back,
      subst (ArrivesIn (Sound p every)) (sym deep_words ∙ last_step) (step_in p every con.lawful e leaving_at (ch v.last) v.sound),
    )

  module _ (pass : ContractsPass w k) where
    returns_at : (rank : ℕ) → ((i : ℕ) → i < rank → Returns i) → Returns rank
    returns_at rank below_ranks x is e ch small m d to below stack pc link aligned sound needs =
        let entry : IsEntryState (program_at p x.at x.needs) d.state = record {
          state = sound.1;
          pc = pc;
          link = subst (IsAtPlace p.machine.narrow) (sym link) aligned;
          kept_bytes = λ a y l h s. sound.0 a y l h s refl;
          fixed_bytes = λ a y l h s. absurd (let n : false ≡ true = s in cc);
          requires = needs;
        } in
        elim (pass rank x is) [
          | inr vacuous ↦ absurd (vacuous d.state entry)
          | inl holds ↦ came_back rank x is e ch m d to below stack link (exits_at_last x.at x.needs [] [] (take rank w.contracts) (Some x)
              (λ y a h. (let r = rank_of rank w.contracts a y h in (r.0, r.2, r.3, below_ranks r.0 r.1))) d.state e (to ∷ below) ch small m
              (deeper p x.at x.needs d.state e to below link con.of_now) entry (con.places rank x is) holds)
        ]

    all_return : (n j : ℕ) → j < n → Returns j
    all_return zero j l = absurd (omega arith)
    all_return (suc n) j l = returns_at j (λ i h. all_return n i (omega arith))

    pub returns : (rank : ℕ) → Returns rank
    returns rank = all_return (suc rank) rank (omega arith)
