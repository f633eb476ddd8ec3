-- Without invariants and contracts a frame's runs and verdict are those of the program.
use Rattle.std.proofs.Common.{◌≡◌, ℕ, zero, suc, refl, ap, sym, ◌∙◌, List, [], ◌∷◌, Option, Some, None, Bool, true, false}
use Rattle.std.specs.Prelude.{◌==◌, nat_le, if◌then◌else◌}
use Rattle.std.specs.List.{list_any}
use Rattle.word_spec.specs.State.{State}
use Rattle.bilv_spec.specs.Notes.{Assert}
use Rattle.bilv_spec.specs.Run as tables
use Rattle.bilv_spec.specs.Run.{Program, Place, Step, Stops, Arrives, Exits, step}
use Rattle.machine_spec.specs.Endings.{Event, AssertFails, FetchFails, NoRow, HalfwordFails, CodeWritten, Trapped, AlignFails, JumpFails, EnsureFails}
use Rattle.frame_spec.specs.Frames.{Frame, OfStep, event_of, invariants_of, is_head}
use Rattle.frame_spec.specs.FrameRuns.{Start, Run, Going, Exited, Failed, Turned, FrameStep, after_step, arrive, turn, settles, one_more, run}
use Rattle.frame_spec.specs.FrameRuns as FrameRuns
use Rattle.frame_spec.specs.Theorems.{headless, as_frame_run, as_start, HeadlessIsRun}

module _ (p : Program) where
  abbrev f : Frame
  f = headless p

  none_of : (l : List Assert) → invariants_of f l ≡ []
  none_of [] = refl
  none_of (a ∷ l) = none_of l

  pub no_head : (a : ℕ) → is_head f a ≡ false
  no_head a = ap (list_any (λ (x : Assert). x.at == a)) (none_of p.notes.asserts)

  plain_event : (e : Event) → event_of f e ≡ OfStep e
  plain_event (AssertFails n) = refl
  plain_event FetchFails = refl
  plain_event NoRow = refl
  plain_event HalfwordFails = refl
  plain_event CodeWritten = refl
  plain_event Trapped = refl
  plain_event AlignFails = refl
  plain_event JumpFails = refl
  plain_event (EnsureFails n) = refl

  module _ (k : ℕ) (entry : State) where
    turned : (b : Bool) (turns n at : ℕ) (c : Place) → turn Going b turns n at c ≡ as_frame_run (tables.turn b turns n at c)
    turned true turns n at c = refl
    turned false turns n at c = refl

    arrived : (b : Bool) (turns n at : ℕ) (c : Place) → arrive Going b k turns n at c ≡ as_frame_run (tables.arrive b k turns n at c)
    arrived false turns n at c = refl
    arrived true turns n at c = turned (turns == k) turns n at c

    pub stepped : (c : Place) (s : Step) (turns n at : ℕ) → after_step k turns n at (settles f entry c s) ≡ as_frame_run (tables.after_step k turns n at s)
    stepped c (Stops e) turns n at = ap (λ z. Failed z at n) (plain_event e)
    stepped c (Exits s) turns n at = refl
    stepped c (Arrives d) turns n at =
        ap (λ z. after_step k turns n at (if z then FrameStep.Reaches d else FrameStep.GoesTo d)) (no_head d.state.pc)
        ∙ arrived (nat_le d.state.pc at) turns n at d

    more_is : (start : Start) → start.state ≡ entry → (x : tables.Run) →
        one_more f k start (as_frame_run x) ≡ as_frame_run (tables.one_more p k (as_start start) x)
    more_is start e (tables.Going turns n c) =
        ap (λ z. after_step k turns n c.state.pc (settles f z c (step p z c (start.choices n)))) e
        ∙ stepped c (step p entry c (start.choices n)) turns n c.state.pc
        ∙ ap (λ z. as_frame_run (tables.after_step k turns n c.state.pc (step p z c (start.choices n)))) (sym e)
    more_is start e (tables.Exited at n) = refl
    more_is start e (tables.Failed v at n) = refl
    more_is start e (tables.Turned at n) = refl

  begins_by : (s : State) (b : Bool) → is_head f s.pc ≡ b → (if b then Run.Arriving 0 0 (record { state = s; stack = [] })
      else Going 0 0 (record { state = s; stack = [] })) ≡ Going 0 0 (record { state = s; stack = [] })
  begins_by s true e = absurd (let c : true ≡ false = sym e ∙ no_head s.pc in cc)
  begins_by s false e = refl

  begins_is : (start : Start) (h : Option Place) → h ≡ None → FrameRuns.begins f start.state h ≡ Going 0 0 (record { state = start.state; stack = [] })
  begins_is start None e = begins_by start.state (is_head f start.state.pc) refl
  begins_is start (Some c) e = absurd (cc)

  pub run_is : (k : ℕ) (start : Start) → start.head ≡ None → (n : ℕ) → run f k start n ≡ as_frame_run (tables.run p k (as_start start) n)
  unfolding run tables.run
  run_is k start h zero = begins_is start start.head h
  run_is k start h (suc n) = ap (one_more f k start) (run_is k start h n) ∙ more_is k start.state start refl (tables.run p k (as_start start) n)

pub headless_is_run : HeadlessIsRun
headless_is_run p k start h n = run_is p k start h n
