-- What the segment of a reading keeps: the bytes that are kept and asked; and a row is executed at a head only where the segment begins.
use Rattle.std.proofs.Common.{◌≡◌, ℕ, ◌+◌, ◌^◌, ◌<◌, refl, ap, sym, ◌∙◌, arith, List, [], ◌∷◌, length, Option, Some, None, Bool, true, false}
use Rattle.std.specs.Prelude.{◌==◌, ◌&&◌, nat_lt, nat_le, is_some, if◌then◌else◌}
use Rattle.std.specs.List.{list_any}
use Rattle.std.proofs.lemmas.Bool.Decides.{nat_tests}
use Rattle.word_spec.specs.State.{State}
use Rattle.bilv_spec.specs.Elf.{is_kept}
use Rattle.bilv_spec.specs.Run.{Program, Place, Step, Stops, Arrives, Exits, step, false_line, false_assert}
use Rattle.bilv_spec.specs.PointLaws.{HasLawfulRows}
use Rattle.bilv_spec.proofs.FileWords.{Sound, ArrivesIn, step_in}
use Rattle.bilv_spec.specs.Questions as questions
use Rattle.frame_spec.specs.Frames as Frames
use Rattle.frame_spec.specs.Frames.{Content, IsContent, Contract, Frame, is_head, is_outside, contract_at, stored_by_row, written, invariants_of}
use Rattle.frame_spec.specs.FrameRuns.{Run, Going, Calling, FrameStep, Halts, GoesTo, Reaches, Calls, Leaves, Breaks, lands, settles, unless_outside, leaves_by, given_by, frame_step, contract_by, needs_by, writes_by, returns_by, contract_step, state_after, is_contract_call, links_by, row_of_place, after_step, arrive, turn}
use Rattle.frame_spec.specs.FramePoints.{Anchor, Point, IsPoint, is_entry}
use Rattle.frame_spec.specs.FrameQuestions.{by_file}
use Rattle.frame_spec.proofs.SegmentsMeet.{and_false}
use Rattle.frame_spec.proofs.Stacks.{AreWords, of_point}
use Rattle.frame_spec.proofs.ByFile.{sound_after}

-- addresses on the stack of a point are words
pub point_words : (f : Frame) (k : ℕ) (q : Point) → IsPoint f k q → AreWords q.stack
point_words f k q h = (of_point (λ a. Unit {0}) (λ a. a < 2 ^ 32) f (λ a l. tt) tt (λ a row i e. omega arith) k q h).1

not_longer : (to : ℕ) (below : List ℕ) → nat_lt (length (to ∷ below)) (length below) ≡ false
not_longer to below = grind (arith, nat_tests)

-- where a return lands does not hang on the row
module _ (f : Frame) where
  abbrev g : Frame
  g = by_file f

  no_call : (h : Frame) (c d : Place) → nat_lt (length c.stack) (length d.stack) ≡ false → is_contract_call h c d ≡ false
  no_call h c d l =
      ap (λ z. is_some (contract_at h.stepped d.state.pc) && z && links_by (row_of_place h c)) l
      ∙ and_false (is_some (contract_at h.stepped d.state.pc)) (links_by (row_of_place h c))

  lands_same : (c d : Place) → nat_lt (length c.stack) (length d.stack) ≡ false → lands g c d ≡ lands f c d
  lands_same c d l = ap (λ z. if is_head f d.state.pc then Reaches d else if z then Calls d else GoesTo d) (no_call g c d l ∙ sym (no_call f c d l))

  returns_same : (o : Option ℕ) (c d : Place) → nat_lt (length c.stack) (length d.stack) ≡ false → returns_by o g c d ≡ returns_by o f c d
  returns_same None c d l = lands_same c d l
  returns_same (Some line) c d l = refl

  writes_same : (a b : Bool) (x : Contract) (c d : Place) → nat_lt (length c.stack) (length d.stack) ≡ false → writes_by a b g x c d ≡ writes_by a b f x c d
  writes_same true b x c d l = refl
  writes_same false true x c d l = refl
  writes_same false false x c d l = returns_same (false_line f.program.machine.endian x.gives d.state c.state) c d l

  needs_same : (o : Option ℕ) (e : State) (x : Contract) (c d : Place) → nat_lt (length c.stack) (length d.stack) ≡ false →
      needs_by o g e x c d ≡ needs_by o f e x c d
  needs_same (Some line) e x c d l = refl
  needs_same None e x c d l =
      writes_same (list_any (λ a. is_kept (f.program.loaded a)) (written f.program.machine.endian x.writes c.state))
      (is_outside f.own f.program.machine.endian e (written f.program.machine.endian x.writes c.state)) x c d l

  by_same : (o : Option Contract) (e s : State) (stack : List ℕ) (G : Content) → contract_by o g e s stack G ≡ contract_by o f e s stack G
  by_same None e s stack G = refl
  by_same (Some x) e s [] G = refl
  by_same (Some x) e s (to ∷ below) G =
      needs_same (false_line f.program.machine.endian x.needs s s) e x (record { state = s; stack = to ∷ below })
      (record { state = state_after f x s to G; stack = below }) (not_longer to below)

  -- so a contract step is that of the frame that takes the words from memory
  pub contract_step_same : (e : State) (c : Place) (G : Content) → contract_step g e c G ≡ contract_step f e c G
  contract_step_same e c G = by_same (contract_at f.stepped c.state.pc) e c.state c.stack G

module _ (f : Frame) (asked : ℕ → Bool) where
  abbrev p : Program
  p = f.program

  -- where a step comes to
  abbrev pub FitStep : FrameStep → Type 0
  FitStep (GoesTo d) = Sound p asked d.state × (is_head f d.state.pc ≡ false)
  FitStep (Calls d) = Sound p asked d.state
  FitStep s = Unit {0}

  lands_fit : (h : Frame) (c d : Place) → Sound p asked d.state →
      FitStep (if is_head f d.state.pc then Reaches d else if is_contract_call h c d then Calls d else GoesTo d)
  lands_fit h c d s = by (is_head f d.state.pc) (is_contract_call h c d) refl
    where
      by : (a b : Bool) → is_head f d.state.pc ≡ a → FitStep (if a then Reaches d else if b then Calls d else GoesTo d)
      by true b e = tt
      by false true e = s
      by false false e = (s, e)

  leaves_fit : (o : Option Contract) (e s : State) → FitStep (leaves_by o (by_file f) e s)
  leaves_fit None e s = tt
  leaves_fit (Some x) e s = by (false_line p.machine.endian x.gives s e) (Frames.has_changed (by_file f) x e s)
    where
      by : (o : Option ℕ) (b : Bool) → FitStep (given_by o b s)
      by (Some line) b = tt
      by None true = tt
      by None false = tt

  settles_fit : (e : State) (c : Place) (s : Step) → ArrivesIn (Sound p asked) s → FitStep (settles (by_file f) e c s)
  settles_fit e c (Stops v) h = tt
  settles_fit e c (Arrives d) h = lands_fit (by_file f) c d h
  settles_fit e c (Exits s) h = leaves_fit f.own e s

  unless_fit : (b : Bool) (e : State) (c : Place) (s : Step) → ArrivesIn (Sound p asked) s → FitStep (unless_outside b (by_file f) e c s)
  unless_fit false e c s h = settles_fit e c s h
  unless_fit true e c (Stops v) h = tt
  unless_fit true e c (Arrives d) h = tt
  unless_fit true e c (Exits s) h = tt

  pub row_fits : HasLawfulRows p → (e : State) (c : Place) (choice : ℕ) → Sound p asked c.state → FitStep (frame_step (by_file f) e c choice)
  row_fits lawful e c choice h =
      unless_fit (is_outside f.own p.machine.endian e (stored_by_row (row_of_place (by_file f) c) c.state)) e c
      (step (questions.by_file p) e c choice) (step_in p asked lawful e c choice h)

  -- where a contract step comes to: back, with a smaller stack
  abbrev pub BackStep : Place → FrameStep → Type 0
  BackStep c (GoesTo d) = Sound p asked d.state × (is_head f d.state.pc ≡ false) × (nat_lt (length c.stack) (length d.stack) ≡ false)
  BackStep c (Reaches d) = Sound p asked d.state
  BackStep c (Calls d) = Sound p asked d.state
  BackStep c s = Unit {0}

  pub fits_back : (c : Place) (s : FrameStep) → BackStep c s → FitStep s
  fits_back c (Halts v) h = tt
  fits_back c (GoesTo d) h = (h.0, h.1)
  fits_back c (Reaches d) h = tt
  fits_back c (Calls d) h = h
  fits_back c (Leaves s) h = tt
  fits_back c (Breaks line) h = tt

  module _ (G : Content) (ok : IsContent G) (e : State) where
    module _ (x : Contract) (s : State) (to : ℕ) (below : List ℕ) (h : Sound p asked s) (words : AreWords (to ∷ below)) where
      abbrev from : Place
      from = record { state = s; stack = to ∷ below }

      abbrev d : Place
      d = record { state = state_after f x s to G; stack = below }

      lands_back : Sound p asked d.state → BackStep from (lands f from d)
      lands_back i = by (is_head f to) (is_contract_call f from d) refl
        where
          by : (a b : Bool) → is_head f to ≡ a → BackStep from (if a then Reaches d else if b then Calls d else GoesTo d)
          by true b t = i
          by false true t = i
          by false false t = (i, t, not_longer to below)

      returns_back : (o : Option ℕ) → Sound p asked d.state → BackStep from (returns_by o f from d)
      returns_back (Some line) i = tt
      returns_back None i = lands_back i

      writes_back : (a b : Bool) → list_any (λ a. is_kept (p.loaded a)) (written p.machine.endian x.writes s) ≡ a → BackStep from (writes_by a b f x from d)
      writes_back true b t = tt
      writes_back false true t = tt
      writes_back false false t = returns_back (false_line p.machine.endian x.gives d.state s) (sound_after f asked x s to G h ok words.0 t)

      needs_back : (o : Option ℕ) → BackStep from (needs_by o f e x from d)
      needs_back (Some line) = tt
      needs_back None =
          writes_back (list_any (λ a. is_kept (p.loaded a)) (written p.machine.endian x.writes s))
          (is_outside f.own p.machine.endian e (written p.machine.endian x.writes s)) refl

    by_back : (o : Option Contract) (s : State) (stack : List ℕ) → Sound p asked s → AreWords stack →
        BackStep (record { state = s; stack = stack }) (contract_by o f e s stack G)
    by_back None s stack h w = tt
    by_back (Some x) s [] h w = tt
    by_back (Some x) s (to ∷ below) h w = needs_back x s to below h w (false_line p.machine.endian x.needs s s)

    pub contract_back : (c : Place) → Sound p asked c.state → AreWords c.stack → BackStep c (contract_step f e c G)
    contract_back c h w = by_back (contract_at f.stepped c.state.pc) c.state c.stack h w

  -- what a run keeps
  module _ (e : State) (anchor : Anchor) (k : ℕ) where
    abbrev pub Fit : Run → Type 0
    Fit (Going t n c) =
        Sound p asked c.state
        × (is_head f c.state.pc ≡ true → (is_entry anchor ≡ false) × (false_assert p.machine.endian (invariants_of f p.notes.asserts) c.state e ≡ None))
    Fit (Calling t n c) = Sound p asked c.state
    Fit r = Unit {0}

    not_head : (d : Place) → is_head f d.state.pc ≡ false → {P : Type 0} → is_head f d.state.pc ≡ true → P
    not_head d h t = absurd (let c : false ≡ true = sym h ∙ t in cc)

    module _ (to : ℕ → ℕ → Place → Run) (d : Place) (fit : (t n : ℕ) → Fit (to t n d)) where
      turned : (b : Bool) (t n at : ℕ) → Fit (turn to b t n at d)
      turned true t n at = tt
      turned false t n at = fit (t + 1) (n + 1)

      arrived : (b : Bool) (t n at : ℕ) → Fit (arrive to b k t n at d)
      arrived false t n at = fit t (n + 1)
      arrived true t n at = turned (t == k) t n at

    pub after_fits : (t n at : ℕ) (s : FrameStep) → FitStep s → Fit (after_step k t n at s)
    after_fits t n at (Halts v) h = tt
    after_fits t n at (GoesTo d) h = arrived Going d (λ t n. (h.0, λ i. not_head d h.1 i)) (nat_le d.state.pc at) t n at
    after_fits t n at (Reaches d) h = tt
    after_fits t n at (Calls d) h = arrived Calling d (λ t n. h) (nat_le d.state.pc at) t n at
    after_fits t n at (Leaves s) h = tt
    after_fits t n at (Breaks line) h = tt
