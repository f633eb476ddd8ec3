-- How runs of frames have ended.
use Rattle.std.proofs.Common.{◌≡◌, refl, ap, ◌∙◌, arith, ℕ, ◌+◌, ◌-◌, ◌≤◌, Option, Some, None}
use Rattle.frame_spec.specs.Frames.{Frame, FrameEvent}
use Rattle.frame_spec.specs.FrameFound.{found, found_by}
use Rattle.frame_spec.specs.FrameReports.{ByEvent, ByTurn, EndsAs, Named}
use Rattle.frame_spec.specs.FrameRuns.{IsOver, Start, Run, Going, Arriving, Calling, Exited, Failed, Turned, Cut, Broken, run}
use Rattle.frame_spec.specs.FrameVerdict.{RunBreaks, RunFails, RunTurns}
use Rattle.frame_spec.proofs.OneEnd.{one_end}
use Rattle.frame_verdict.specs.ShownEnds.{named_in}

-- an event, or one backward transfer too many, by which a run has ended
abbrev pub end_named : Run → Option Named
end_named (Going t n c) = None
end_named (Arriving t n c) = None
end_named (Calling t n c) = None
end_named (Exited at n) = None
end_named (Failed e at n) = Some (ByEvent e at n)
end_named (Turned at n) = Some (ByTurn at n)
end_named (Cut at n) = None
end_named (Broken l at n) = None

-- that is what is found
over_named : (x y : Run) → IsOver y → named_in (found_by x y) ≡ end_named y
over_named x (Going t n c) over = absurd over
over_named x (Arriving t n c) over = absurd over
over_named x (Calling t n c) over = absurd over
over_named x (Exited at n) over = refl
over_named x (Failed e at n) over = refl
over_named x (Turned at n) over = refl
over_named x (Cut at n) over = refl
over_named x (Broken l at n) over = refl

-- such a run is over
named_over : (x : Run) (m : Named) → end_named x ≡ Some m → IsOver x
named_over (Going t n c) m h = absurd (cc)
named_over (Arriving t n c) m h = absurd (cc)
named_over (Calling t n c) m h = absurd (cc)
named_over (Exited at n) m h = tt
named_over (Failed e at n) m h = tt
named_over (Turned at n) m h = tt
named_over (Cut at n) m h = tt
named_over (Broken l at n) m h = tt

event_is : (x : Run) (e : FrameEvent) (at n : ℕ) → end_named x ≡ Some (ByEvent e at n) → x ≡ Failed e at n
event_is (Going t m c) e at n h = absurd (cc)
event_is (Arriving t m c) e at n h = absurd (cc)
event_is (Calling t m c) e at n h = absurd (cc)
event_is (Exited a m) e at n h = absurd (cc)
event_is (Failed v a m) e at n h = cc
event_is (Turned a m) e at n h = absurd (cc)
event_is (Cut a m) e at n h = absurd (cc)
event_is (Broken l a m) e at n h = absurd (cc)

turn_is : (x : Run) (at n : ℕ) → end_named x ≡ Some (ByTurn at n) → x ≡ Turned at n
turn_is (Going t m c) at n h = absurd (cc)
turn_is (Arriving t m c) at n h = absurd (cc)
turn_is (Calling t m c) at n h = absurd (cc)
turn_is (Exited a m) at n h = absurd (cc)
turn_is (Failed v a m) at n h = absurd (cc)
turn_is (Turned a m) at n h = cc
turn_is (Cut a m) at n h = absurd (cc)
turn_is (Broken l a m) at n h = absurd (cc)

module _ (f : Frame) (k : ℕ) (start : Start) (points : ℕ) where
  -- what is found of a run that is over
  pub found_is : 1 ≤ points → IsOver (run f k start points) → named_in (found f (Some k) start (points - 1)) ≡ end_named (run f k start points)
  found_is some over =
      let e : points - 1 + 1 ≡ points = omega arith in
      ap (λ (z : ℕ). named_in (found_by (run f k start (points - 1)) (run f k start z))) e
      ∙ over_named (run f k start (points - 1)) (run f k start points) over

  -- it ends so
  pub ends_as : (m : Named) → end_named (run f k start points) ≡ Some m → EndsAs f k start m
  ends_as (ByEvent e at n) h = (points, event_is (run f k start points) e at n h)
  ends_as (ByTurn at n) h = (points, turn_is (run f k start points) at n h)

  unbroken_by : (m : Named) → end_named (run f k start points) ≡ Some m → (x : Run) → run f k start points ≡ x → end_named x ≡ Some m → ¬ RunBreaks f k start
  unbroken_by m h (Going t n c) e q b = absurd (cc)
  unbroken_by m h (Arriving t n c) e q b = absurd (cc)
  unbroken_by m h (Calling t n c) e q b = absurd (cc)
  unbroken_by m h (Exited at n) e q b = absurd (cc)
  unbroken_by m h (Failed v at n) e q b = let same = one_end f k start points b.0 (Failed v at n) (Broken b.1 b.2 b.3) tt tt e b.4 in absurd (cc)
  unbroken_by m h (Turned at n) e q b = let same = one_end f k start points b.0 (Turned at n) (Broken b.1 b.2 b.3) tt tt e b.4 in absurd (cc)
  unbroken_by m h (Cut at n) e q b = absurd (cc)
  unbroken_by m h (Broken l at n) e q b = absurd (cc)

  -- and so it is a run
  pub unbroken : (m : Named) → end_named (run f k start points) ≡ Some m → ¬ RunBreaks f k start
  unbroken m h = unbroken_by m h (run f k start points) refl h

  -- a run that fails or turns has ended so
  pub fails_named : IsOver (run f k start points) → RunFails f k start →
      (e : FrameEvent) × (at : ℕ) × (n : ℕ) × (end_named (run f k start points) ≡ Some (ByEvent e at n))
  fails_named over (steps, at, n, e, h) =
      let same = one_end f k start points steps (run f k start points) (Failed e at n) over tt refl h in (e, at, n, ap end_named same)

  pub turns_named : IsOver (run f k start points) → RunTurns f k start → (at : ℕ) × (n : ℕ) × (end_named (run f k start points) ≡ Some (ByTurn at n))
  turns_named over (steps, at, n, h) =
      let same = one_end f k start points steps (run f k start points) (Turned at n) over tt refl h in (at, n, ap end_named same)

-- a run that ends so has an event, or makes one backward transfer too many
pub fails_by : (f : Frame) (k : ℕ) (start : Start) (e : FrameEvent) (at n : ℕ) → EndsAs f k start (ByEvent e at n) → RunFails f k start
fails_by f k start e at n h = (h.0, at, n, e, h.1)

pub turns_by : (f : Frame) (k : ℕ) (start : Start) (at n : ℕ) → EndsAs f k start (ByTurn at n) → RunTurns f k start
turns_by f k start at n h = (h.0, at, n, h.1)
