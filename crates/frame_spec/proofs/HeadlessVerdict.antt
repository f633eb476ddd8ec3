-- Without invariants and contracts a frame's right verdict is the program's.
use Rattle.std.proofs.Common.{◌≡◌, ℕ, refl, ap, sym, ◌∙◌, arith, List, [], ◌∷◌, Option, Some, None, true, false}
use Rattle.std.specs.Prelude.{◌||◌}
use Rattle.std.specs.List.{list_any}
use Rattle.word_spec.specs.State.{State}
use Rattle.bilv_spec.specs.Notes.{Assert}
use Rattle.machine_spec.specs.Endings as endings
use Rattle.bilv_spec.specs.Run as tables
use Rattle.bilv_spec.specs.Run.{Program, Place}
use Rattle.machine_spec.specs.Endings.{Event}
use Rattle.bilv_spec.specs.Verdict as verdict
use Rattle.frame_spec.specs.Frames.{Frame, FrameEvent, OfStep, Content, is_head}
use Rattle.frame_spec.specs.FrameRuns.{Start, Exited, Failed, Turned, Broken, run}
use Rattle.frame_spec.specs.FrameVerdict.{IsStart, IsOrigin, IsRight, RunExits, RunFails, RunTurns}
use Rattle.frame_spec.specs.Theorems.{headless, as_frame_run, as_start, as_verdict, HeadlessIsVerdict}
use Rattle.frame_spec.proofs.Headless.{no_head, run_is}

-- what a run of the tables is as one of a frame
exited : (x : tables.Run) (at n : ℕ) → as_frame_run x ≡ Exited at n → x ≡ tables.Exited at n
exited (tables.Going t m c) at n e = absurd (cc)
exited (tables.Exited a m) at n e = let p : a ≡ at = cc in let q : m ≡ n = cc in ap (λ z. tables.Exited z m) p ∙ ap (tables.Exited at) q
exited (tables.Failed v a m) at n e = absurd (cc)
exited (tables.Turned a m) at n e = absurd (cc)

pub failed : (x : tables.Run) (v : FrameEvent) (at n : ℕ) → as_frame_run x ≡ Failed v at n → (w : Event) × (x ≡ tables.Failed w at n)
failed (tables.Going t m c) v at n e = absurd (cc)
failed (tables.Exited a m) v at n e = absurd (cc)
failed (tables.Failed w a m) v at n e = let p : a ≡ at = cc in let q : m ≡ n = cc in (w, ap (λ z. tables.Failed w z m) p ∙ ap (tables.Failed w at) q)
failed (tables.Turned a m) v at n e = absurd (cc)

pub turned : (x : tables.Run) (at n : ℕ) → as_frame_run x ≡ Turned at n → x ≡ tables.Turned at n
turned (tables.Going t m c) at n e = absurd (cc)
turned (tables.Exited a m) at n e = absurd (cc)
turned (tables.Failed v a m) at n e = absurd (cc)
turned (tables.Turned a m) at n e = let p : a ≡ at = cc in let q : m ≡ n = cc in ap (λ z. tables.Turned z m) p ∙ ap (tables.Turned at) q

never_broken : (x : tables.Run) (l at n : ℕ) → as_frame_run x ≡ Broken l at n → ⊥
never_broken (tables.Going t m c) l at n e = cc
never_broken (tables.Exited a m) l at n e = cc
never_broken (tables.Failed v a m) l at n e = cc
never_broken (tables.Turned a m) l at n e = cc

abbrev pub nothing : Content
nothing = record { regs = λ r. 0; flags = λ f. 0; mem = λ a. 0 }

module _ (p : Program) (k : ℕ) where
  abbrev f : Frame
  f = headless p

  no_origin : (e : State) (h : Option Place) → IsOrigin f k e h → h ≡ None
  no_origin e None o = refl
  no_origin e (Some c) o = absurd (let t = o.1.head in let c : true ≡ false = sym t ∙ no_head p c.state.pc in cc)

  pub none_at : (l : List Assert) → list_any (λ x. is_head f x.at) l ≡ false
  none_at [] = refl
  none_at (a ∷ l) = ap (λ z. z || list_any (λ x. is_head f x.at) l) (no_head p a.at) ∙ none_at l

  -- a start of the tables as one of the frame
  abbrev pub lifted : endings.Start → Start
  lifted s = record { state = s.state; head = None; choices = s.choices; given = λ i. nothing }

  pub is_start : (s : endings.Start) → verdict.IsStart p s → IsStart f k (lifted s)
  is_start s is = record {
    entry = is.entry;
    origin = tt;
    choices = is.choices;
    given = λ i. record { regs = λ r. omega arith; flags = λ g. omega arith; mem = λ a. omega arith };
    is_run = λ b. never_broken (tables.run p k s b.0) b.1 b.2 b.3 (sym (run_is p k (lifted s) refl b.0) ∙ b.4);
  }

  pub was_start : (s : Start) → IsStart f k s → verdict.IsStart p (as_start s)
  was_start s is = record { entry = is.entry; choices = is.choices }

  module _ (s : Start) (is : IsStart f k s) where
    at : (n : ℕ) → run f k s n ≡ as_frame_run (tables.run p k (as_start s) n)
    at n = run_is p k s (no_origin s.state s.head is.origin) n

    exits_to : RunExits f k s → verdict.RunExits p k (as_start s)
    exits_to r = (r.0, r.1, r.2, exited (tables.run p k (as_start s) r.0) r.1 r.2 (sym (at r.0) ∙ r.3))

    exits_from : verdict.RunExits p k (as_start s) → RunExits f k s
    exits_from r = (r.0, r.1, r.2, at r.0 ∙ ap as_frame_run r.3)

    pub fails_to : RunFails f k s → verdict.RunFails p k (as_start s)
    fails_to r = let q = failed (tables.run p k (as_start s) r.0) r.3 r.1 r.2 (sym (at r.0) ∙ r.4) in (r.0, r.1, r.2, q.0, q.1)

    pub fails_from : verdict.RunFails p k (as_start s) → RunFails f k s
    fails_from r = (r.0, r.1, r.2, OfStep r.3, at r.0 ∙ ap as_frame_run r.4)

    turns_to : RunTurns f k s → verdict.RunTurns p k (as_start s)
    turns_to r = (r.0, r.1, r.2, turned (tables.run p k (as_start s) r.0) r.1 r.2 (sym (at r.0) ∙ r.3))

    turns_from : verdict.RunTurns p k (as_start s) → RunTurns f k s
    turns_from r = (r.0, r.1, r.2, at r.0 ∙ ap as_frame_run r.3)

  to_verdict : (v : verdict.Verdict) → IsRight f k (as_verdict v) → verdict.IsRight p k v
  to_verdict verdict.Vacuous r = r
  to_verdict verdict.Fails r = (as_start r.0, was_start r.0 r.1, fails_to r.0 r.1 r.3)
  to_verdict verdict.Unroll r = (
    (λ s is b. r.0 (lifted s) (is_start s is) (fails_from (lifted s) (is_start s is) b)),
    (as_start r.1.0, was_start r.1.0 r.1.1, turns_to r.1.0 r.1.1 r.1.2),
  )
  to_verdict verdict.Holds r = (r.1, λ s is. exits_to (lifted s) (is_start s is) (r.2 (lifted s) (is_start s is)))

  from_verdict : (v : verdict.Verdict) → verdict.IsRight p k v → IsRight f k (as_verdict v)
  from_verdict verdict.Vacuous r = r
  from_verdict verdict.Fails r = (lifted r.0, is_start r.0 r.1, refl, fails_from (lifted r.0) (is_start r.0 r.1) r.2)
  from_verdict verdict.Unroll r = (
    (λ s is b. r.0 (as_start s) (was_start s is) (fails_to s is b)),
    (lifted r.1.0, is_start r.1.0 r.1.1, turns_from (lifted r.1.0) (is_start r.1.0 r.1.1) r.1.2),
  )
  from_verdict verdict.Holds r = (none_at p.notes.asserts, r.0, λ s is. exits_from s is (r.1 (as_start s) (was_start s is)))

pub headless_is_verdict : HeadlessIsVerdict
headless_is_verdict p k v = (to_verdict p k v, from_verdict p k v)
