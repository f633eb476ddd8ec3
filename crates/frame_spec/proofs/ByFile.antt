-- The words that a segment executes are the file's.
use Rattle.std.proofs.Common.{◌≡◌, inl, inr, ℕ, zero, suc, ◌+◌, ◌^◌, ◌<◌, refl, ap, sym, ◌∙◌, subst, arith, List, [], ◌∷◌, Option, Some, None, Bool, true, false}
use Rattle.std.specs.Prelude.{◌==◌, ◌&&◌, not, nat_lt, nat_le, nat_eq, is_some, length, if◌then◌else◌}
use Rattle.std.specs.List.{list_any}
use Rattle.std.proofs.lemmas.Bool.Decides.{nat_tests}
use Rattle.word_spec.specs.State.{State}
use Rattle.bilv_spec.specs.Elf.{Cell, kept, is_kept}
use Rattle.bilv_spec.specs.Run.{Program, Place, Step, Stops, Arrives, Exits, step, false_line, false_assert}
use Rattle.bilv_spec.specs.PointLaws.{HasLawfulRows, ReadsMemory}
use Rattle.bilv_spec.proofs.Pigeons.{truth}
use Rattle.bilv_spec.proofs.PointSteps.{same_number}
use Rattle.bilv_spec.proofs.PointTests.{any_is, not_any}
use Rattle.bilv_spec.proofs.FileWords.{Sound, every, ArrivesIn, step_in, step_same}
use Rattle.frame_spec.specs.Frames as Frames
use Rattle.frame_spec.specs.Frames.{Content, IsContent, Contract, Frame, FrameEvent, covers, written, is_head, is_outside, contract_at, stored_by_row, keeps_register, keeps_flag, keeps_byte}
use Rattle.bilv_spec.specs.Verdict.{IsEntryState}
use Rattle.frame_spec.specs.FrameRuns.{Start, Run, Going, Arriving, Calling, Exited, Failed, Turned, Cut, Broken, FrameStep, Halts, GoesTo, Reaches, Calls, Leaves, Breaks, lands, settles, unless_outside, leaves_by, given_by, frame_step, contract_by, needs_by, writes_by, returns_by, contract_step, state_after, is_contract_call, links_by, row_of_place, after_step, arrive, turn, arrival, one_more, begins, run}
use Rattle.frame_spec.specs.FrameVerdict.{IsOrigin}
use Rattle.frame_spec.specs.FrameLaws.{SegmentsByFile}
use Rattle.frame_spec.specs.FrameQuestions.{by_file}
use Rattle.bilv_spec.proofs.FileWords.{row_same}
use Rattle.frame_spec.proofs.Steps.{came}
use Rattle.frame_spec.proofs.Stacks.{AreWords, stacked_words, anchor_words}

-- a step of a frame lands at a place of which something is true
abbrev pub LandsIn : (Place → Type 0) → FrameStep → Type 0
LandsIn P (GoesTo d) = P d
LandsIn P (Reaches d) = P d
LandsIn P (Calls d) = P d
LandsIn P s = Unit {0}

-- a run that goes on stands at such a place
abbrev pub Stands : (Place → Type 0) → Run → Type 0
Stands P (Going t n c) = P c
Stands P (Arriving t n c) = P c
Stands P (Calling t n c) = P c
Stands P r = Unit {0}

module _ (P : Place → Type 0) (k : ℕ) where
  turned : (next : ℕ → ℕ → Place → Run) → ((t n : ℕ) (c : Place) → P c → Stands P (next t n c)) → (b : Bool) (t n at : ℕ) (c : Place) → P c →
      Stands P (turn next b t n at c)
  turned next f true t n at c h = tt
  turned next f false t n at c h = f (t + 1) (n + 1) c h

  arrived : (next : ℕ → ℕ → Place → Run) → ((t n : ℕ) (c : Place) → P c → Stands P (next t n c)) → (b : Bool) (t n at : ℕ) (c : Place) → P c →
      Stands P (arrive next b k t n at c)
  arrived next f false t n at c h = f t (n + 1) c h
  arrived next f true t n at c h = turned next f (t == k) t n at c h

  pub stepped : (t n at : ℕ) (s : FrameStep) → LandsIn P s → Stands P (after_step k t n at s)
  stepped t n at (Halts e) h = tt
  stepped t n at (GoesTo c) h = arrived Going (λ t n c p. p) (nat_le c.state.pc at) t n at c h
  stepped t n at (Reaches c) h = h
  stepped t n at (Calls c) h = arrived Calling (λ t n c p. p) (nat_le c.state.pc at) t n at c h
  stepped t n at (Leaves s) h = tt
  stepped t n at (Breaks l) h = tt

-- behind a contract step that writes no kept byte
module _ (f : Frame) (asked : ℕ → Bool) (x : Contract) (s : State) (to : ℕ) (G : Content) (h : Sound f.program asked s) (ok : IsContent G)
    (small : to < 2 ^ 32) (clean : list_any (λ a. is_kept (f.program.loaded a)) (written f.program.machine.endian x.writes s) ≡ false) where
  if_below : (n : ℕ) (b : Bool) (u v : ℕ) → u < n → v < n → (if b then u else v) < n
  if_below n true u v a c = a
  if_below n false u v a c = c

  kept_there : (a : ℕ) (c : Cell) → a < 2 ^ 32 → f.program.loaded a ≡ Some c → kept c ≡ true → asked a ≡ true → (state_after f x s to G).mem a ≡ c.byte
  kept_there a c l e k q = elim (truth (covers f.program.machine.endian x.writes s a)) [
    | inl t ↦ (let i = any_is (nat_eq a) (written f.program.machine.endian x.writes s) t in
        let at : i.0 ≡ a = sym (same_number a i.0 i.2) in
        absurd (not_any (λ b. is_kept (f.program.loaded b)) (written f.program.machine.endian x.writes s) clean i.0 i.1
        (ap (λ b. is_kept (f.program.loaded b)) at ∙ ap is_kept e ∙ k)))
    | inr n ↦ (let low : nat_lt a 4294967296 ≡ true = grind (arith, nat_tests) in
        ap (λ b. if b && not (covers f.program.machine.endian x.writes s a) then s.mem a else G.mem a) low
        ∙ ap (λ b. if not b then s.mem a else G.mem a) n ∙ h.0 a c l e k q)
  ]

  pub sound_after : Sound f.program asked (state_after f x s to G)
  sound_after = (
    kept_there,
    record {
      pc = small;
      regs = λ r. if_below (2 ^ 32) (keeps_register f x r) (s.regs r) (G.regs r) (h.1.regs r) (ok.regs r);
      flags = λ n. if_below 2 (keeps_flag f x n) (s.flags n) (G.flags n) (h.1.flags n) (ok.flags n);
      mem = λ a. if_below 256 (keeps_byte f x s a) (s.mem a) (G.mem a) (h.1.mem a) (ok.mem a);
    },
  )

module _ (f : Frame) (lawful : HasLawfulRows f.program) (memory : ReadsMemory f.program) where
  abbrev p : Program
  p = f.program

  abbrev g : Frame
  g = by_file f

  -- the row of a place
  row_same_there : (c : Place) → Sound p every c.state → row_of_place f c ≡ row_of_place g c
  row_same_there c h = row_same p memory c.state h.0 c.state.pc

  lands_same : (c d : Place) → Sound p every c.state → lands f c d ≡ lands g c d
  lands_same c d h =
      ap (λ z. if is_head f d.state.pc then Reaches d
      else if is_some (contract_at f.stepped d.state.pc) && nat_lt (length c.stack) (length d.stack) && links_by z then Calls d else GoesTo d)
      (row_same_there c h)

  leaves_same : (o : Option Contract) (entry s : State) → leaves_by o f entry s ≡ leaves_by o g entry s
  leaves_same None entry s = refl
  leaves_same (Some x) entry s = refl

  settles_same : (entry : State) (c : Place) (s : Step) → Sound p every c.state → settles f entry c s ≡ settles g entry c s
  settles_same entry c (Stops e) h = refl
  settles_same entry c (Arrives d) h = lands_same c d h
  settles_same entry c (Exits s) h = leaves_same f.own entry s

  unless_same : (b : Bool) (entry : State) (c : Place) (s : Step) → Sound p every c.state → unless_outside b f entry c s ≡ unless_outside b g entry c s
  unless_same false entry c s h = settles_same entry c s h
  unless_same true entry c (Stops e) h = refl
  unless_same true entry c (Arrives d) h = refl
  unless_same true entry c (Exits s) h = refl

  pub frame_step_same : (entry : State) (c : Place) (choice : ℕ) → Sound p every c.state → frame_step f entry c choice ≡ frame_step g entry c choice
  frame_step_same entry c choice h =
      ap (λ z. unless_outside (is_outside f.own p.machine.endian entry (stored_by_row z c.state)) f entry c (step p entry c choice)) (row_same_there c h)
      ∙ ap (unless_outside (is_outside f.own p.machine.endian entry (stored_by_row (row_of_place g c) c.state)) f entry c)
      (step_same p memory c.state h.0 entry c.stack choice)
      ∙ unless_same (is_outside f.own p.machine.endian entry (stored_by_row (row_of_place g c) c.state)) entry c (step g.program entry c choice) h

  returns_same : (o : Option ℕ) (c d : Place) → Sound p every c.state → returns_by o f c d ≡ returns_by o g c d
  returns_same None c d h = lands_same c d h
  returns_same (Some l) c d h = refl

  writes_same : (a b : Bool) (x : Contract) (c d : Place) → Sound p every c.state → writes_by a b f x c d ≡ writes_by a b g x c d
  writes_same true b x c d h = refl
  writes_same false true x c d h = refl
  writes_same false false x c d h = returns_same (false_line p.machine.endian x.gives d.state c.state) c d h

  needs_same : (o : Option ℕ) (entry : State) (x : Contract) (c d : Place) → Sound p every c.state → needs_by o f entry x c d ≡ needs_by o g entry x c d
  needs_same (Some l) entry x c d h = refl
  needs_same None entry x c d h =
      writes_same (list_any (λ a. is_kept (p.loaded a)) (written p.machine.endian x.writes c.state))
      (is_outside f.own p.machine.endian entry (written p.machine.endian x.writes c.state)) x c d h

  contract_same : (o : Option Contract) (entry s : State) (stack : List ℕ) (G : Content) → Sound p every s →
      contract_by o f entry s stack G ≡ contract_by o g entry s stack G
  contract_same None entry s stack G h = refl
  contract_same (Some x) entry s [] G h = refl
  contract_same (Some x) entry s (to ∷ below) G h =
      needs_same (false_line p.machine.endian x.needs s s) entry x (record { state = s; stack = to ∷ below })
      (record { state = state_after f x s to G; stack = below }) h

  pub contract_step_same : (entry : State) (c : Place) (G : Content) → Sound p every c.state → contract_step f entry c G ≡ contract_step g entry c G
  contract_step_same entry c G h = contract_same (contract_at f.stepped c.state.pc) entry c.state c.stack G h

  -- a place whose state has the kept bytes of the file, with addresses on its stack
  abbrev pub Good : Place → Type 0
  Good c = Sound p every c.state × AreWords c.stack

  lands_in : (c d : Place) → Good d → LandsIn Good (lands f c d)
  lands_in c d h = by (is_head f d.state.pc) (is_contract_call f c d)
    where
      by : (a b : Bool) → LandsIn Good (if a then Reaches d else if b then Calls d else GoesTo d)
      by true b = h
      by false true = h
      by false false = h

  leaves_in : (o : Option Contract) (entry s : State) → LandsIn Good (leaves_by o f entry s)
  leaves_in None entry s = tt
  leaves_in (Some x) entry s = by (false_line p.machine.endian x.gives s entry) (Frames.has_changed f x entry s)
    where
      by : (o : Option ℕ) (b : Bool) → LandsIn Good (given_by o b s)
      by (Some l) b = tt
      by None true = tt
      by None false = tt

  module _ (entry : State) (c : Place) (choice : ℕ) (h : Good c) where
    good_step : (s : Step) → step p entry c choice ≡ s → ArrivesIn (Sound p every) s → LandsIn Good (settles f entry c s)
    good_step (Stops e) is g = tt
    good_step (Exits s) is g = leaves_in f.own entry s
    good_step (Arrives d) is g =
        let it = came p entry c choice d (sym (step_same p memory c.state h.0.0 entry c.stack choice) ∙ is) in
        lands_in c d (g, stacked_words it.row c.state c.stack it.how d.stack it.stacked h.1)

    unless_in : (b : Bool) (s : Step) → step p entry c choice ≡ s → ArrivesIn (Sound p every) s → LandsIn Good (unless_outside b f entry c s)
    unless_in false s is g = good_step s is g
    unless_in true (Stops e) is g = tt
    unless_in true (Arrives d) is g = tt
    unless_in true (Exits s) is g = tt

    pub step_lands : LandsIn Good (frame_step f entry c choice)
    step_lands =
        unless_in (is_outside f.own p.machine.endian entry (stored_by_row (row_of_place f c) c.state)) (step p entry c choice) refl
        (subst (ArrivesIn (Sound p every)) (sym (step_same p memory c.state h.0.0 entry c.stack choice)) (step_in p every lawful entry c choice h.0))

  module _ (G : Content) (ok : IsContent G) (entry : State) where
    module _ (x : Contract) (c : Place) (to : ℕ) (below : List ℕ) (h : Sound p every c.state) (words : AreWords (to ∷ below)) where
      abbrev back : Place
      back = record { state = state_after f x c.state to G; stack = below }

      returns_in : (o : Option ℕ) → Good back → LandsIn Good (returns_by o f c back)
      returns_in (Some l) g = tt
      returns_in None g = lands_in c back g

      writes_in : (a b : Bool) → list_any (λ a. is_kept (p.loaded a)) (written p.machine.endian x.writes c.state) ≡ a →
          LandsIn Good (writes_by a b f x c back)
      writes_in true b e = tt
      writes_in false true e = tt
      writes_in false false e =
          returns_in (false_line p.machine.endian x.gives back.state c.state) (sound_after f every x c.state to G h ok words.0 e, words.1)

      needs_in : (o : Option ℕ) → LandsIn Good (needs_by o f entry x c back)
      needs_in (Some l) = tt
      needs_in None =
          writes_in (list_any (λ a. is_kept (p.loaded a)) (written p.machine.endian x.writes c.state))
          (is_outside f.own p.machine.endian entry (written p.machine.endian x.writes c.state)) refl

    contract_in : (o : Option Contract) (s : State) (stack : List ℕ) → Sound p every s → AreWords stack → LandsIn Good (contract_by o f entry s stack G)
    contract_in None s stack h w = tt
    contract_in (Some x) s [] h w = tt
    contract_in (Some x) s (to ∷ below) h w =
        needs_in x (record { state = s; stack = to ∷ below }) to below h w (false_line p.machine.endian x.needs s s)

    pub contract_lands : (c : Place) → Good c → LandsIn Good (contract_step f entry c G)
    contract_lands c h = contract_in (contract_at f.stepped c.state.pc) c.state c.stack h.0 h.1

  module _ (k : ℕ) (start : Start) (is : IsEntryState p start.state) (origin : IsOrigin f k start.state start.head)
      (given : (i : ℕ) → IsContent (start.given i)) where
    good_more : (r : Run) → Stands Good r → Stands Good (one_more f k start r)
    good_more (Going t n c) h = stepped Good k t n c.state.pc (frame_step f start.state c (start.choices n)) (step_lands start.state c (start.choices n) h)
    good_more (Arriving t n c) h = over (false_assert p.machine.endian p.notes.asserts c.state start.state)
      where
        over : (o : Option ℕ) → Stands Good (arrival f o n c.state.pc)
        over None = tt
        over (Some l) = tt
    good_more (Calling t n c) h =
        stepped Good k t n c.state.pc (contract_step f start.state c (start.given n)) (contract_lands (start.given n) (given n) start.state c h)
    good_more (Exited at n) h = tt
    good_more (Failed e at n) h = tt
    good_more (Turned at n) h = tt
    good_more (Cut at n) h = tt
    good_more (Broken l at n) h = tt

    entry_good : Good (record { state = start.state; stack = [] })
    entry_good = (((λ a c l e q r. is.kept_bytes a c l e q), is.state), tt)

    good_begins : (o : Option Place) → IsOrigin f k start.state o → Stands Good (begins f start.state o)
    good_begins None h = by (is_head f start.state.pc)
      where
        by : (b : Bool) → Stands Good (if b then Arriving 0 0 (record { state = start.state; stack = [] })
            else Going 0 0 (record { state = start.state; stack = [] }))
        by true = entry_good
        by false = entry_good
    good_begins (Some c) h = (((λ a x l e q r. h.1.kept_bytes a x l e q), h.1.state), anchor_words f k c.stack c.state.pc h.0)

    pub good : (n : ℕ) → Stands Good (run f k start n)
    unfolding run
    good zero = good_begins start.head origin
    good (suc n) = good_more (run f k start n) (good n)

    more_same : (r : Run) → Stands Good r → one_more f k start r ≡ one_more g k start r
    more_same (Going t n c) h = ap (after_step k t n c.state.pc) (frame_step_same start.state c (start.choices n) h.0)
    more_same (Arriving t n c) h = refl
    more_same (Calling t n c) h = ap (after_step k t n c.state.pc) (contract_step_same start.state c (start.given n) h.0)
    more_same (Exited at n) h = refl
    more_same (Failed e at n) h = refl
    more_same (Turned at n) h = refl
    more_same (Cut at n) h = refl
    more_same (Broken l at n) h = refl

    pub runs_same : (n : ℕ) → run f k start n ≡ run g k start n
    unfolding run
    runs_same zero = refl
    runs_same (suc n) = ap (one_more f k start) (runs_same n) ∙ more_same (run g k start n) (subst (Stands Good) (runs_same n) (good n))

pub segments_by_file : SegmentsByFile
segments_by_file f lawful memory k start is origin given steps = runs_same f lawful memory k start is origin given steps
