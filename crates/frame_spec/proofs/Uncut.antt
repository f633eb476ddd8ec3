-- Where a frame has no head, no segment is cut.
use Rattle.std.proofs.Common.{◌≡◌, ◌+◌, ℕ, zero, suc, subst, List, [], ◌∷◌, Option, Some, None, Bool, true, false}
use Rattle.std.specs.Prelude.{◌==◌, nat_le, if◌then◌else◌}
use Rattle.std.specs.List.{list_any}
use Rattle.word_spec.specs.State.{State}
use Rattle.bilv_spec.specs.Elf.{is_kept}
use Rattle.bilv_spec.specs.Run.{Place, Step, Stops, Arrives, Exits, step, false_line}
use Rattle.frame_spec.specs.Frames as Frames
use Rattle.frame_spec.specs.Frames.{Content, Contract, Frame, is_head, is_outside, written, stored_by_row, contract_at}
use Rattle.frame_spec.specs.FrameRuns.{Start, Run, Going, Arriving, Calling, Exited, Failed, Turned, Cut, Broken, FrameStep, Halts, GoesTo, Reaches, Calls, Leaves, Breaks, lands, unless_outside, leaves_by, given_by, frame_step, contract_by, needs_by, writes_by, returns_by, contract_step, state_after, is_contract_call, row_of_place, after_step, arrive, turn, one_more, begins, run}
use Rattle.frame_spec.specs.FrameVerdict.{RunIsCut}

abbrev NoReach : FrameStep → Type 0
NoReach (Reaches d) = ⊥
NoReach s = Unit {0}

abbrev IsUncut : Run → Type 0
IsUncut (Arriving t n c) = ⊥
IsUncut (Cut at n) = ⊥
IsUncut r = Unit {0}

module _ (k : ℕ) (next : ℕ → ℕ → Place → Run) (is : (t n : ℕ) (c : Place) → IsUncut (next t n c)) where
  turned : (b : Bool) (t n at : ℕ) (c : Place) → IsUncut (turn next b t n at c)
  turned true t n at c = tt
  turned false t n at c = is (t + 1) (n + 1) c

  arrived : (b : Bool) (t n at : ℕ) (c : Place) → IsUncut (arrive next b k t n at c)
  arrived false t n at c = is t (n + 1) c
  arrived true t n at c = turned (t == k) t n at c

stepped : (k t n at : ℕ) (s : FrameStep) → NoReach s → IsUncut (after_step k t n at s)
stepped k t n at (Halts e) h = tt
stepped k t n at (GoesTo c) h = arrived k Going (λ t n c. tt) (nat_le c.state.pc at) t n at c
stepped k t n at (Reaches c) h = h
stepped k t n at (Calls c) h = arrived k Calling (λ t n c. tt) (nat_le c.state.pc at) t n at c
stepped k t n at (Leaves s) h = tt
stepped k t n at (Breaks l) h = tt

module _ (f : Frame) (none : (a : ℕ) → is_head f a ≡ false) where
  lands_on : (c d : Place) → NoReach (lands f c d)
  lands_on c d = by (is_head f d.state.pc) (is_contract_call f c d) (none d.state.pc)
    where
      by : (a b : Bool) → a ≡ false → NoReach (if a then Reaches d else if b then Calls d else GoesTo d)
      by true b e = absurd (cc)
      by false true e = tt
      by false false e = tt

  leaves : (o : Option Contract) (entry s : State) → NoReach (leaves_by o f entry s)
  leaves None entry s = tt
  leaves (Some x) entry s = by (false_line f.program.machine.endian x.gives s entry) (Frames.has_changed f x entry s)
    where
      by : (o : Option ℕ) (b : Bool) → NoReach (given_by o b s)
      by (Some l) b = tt
      by None true = tt
      by None false = tt

  unless : (b : Bool) (entry : State) (c : Place) (s : Step) → NoReach (unless_outside b f entry c s)
  unless true entry c (Stops e) = tt
  unless true entry c (Arrives d) = tt
  unless true entry c (Exits s) = tt
  unless false entry c (Stops e) = tt
  unless false entry c (Arrives d) = lands_on c d
  unless false entry c (Exits s) = leaves f.own entry s

  frame : (entry : State) (c : Place) (choice : ℕ) → NoReach (frame_step f entry c choice)
  frame entry c choice =
      unless (is_outside f.own f.program.machine.endian entry (stored_by_row (row_of_place f c) c.state)) entry c (step f.program entry c choice)

  returns : (o : Option ℕ) (c d : Place) → NoReach (returns_by o f c d)
  returns None c d = lands_on c d
  returns (Some l) c d = tt

  writes : (a b : Bool) (x : Contract) (c d : Place) → NoReach (writes_by a b f x c d)
  writes true b x c d = tt
  writes false true x c d = tt
  writes false false x c d = returns (false_line f.program.machine.endian x.gives d.state c.state) c d

  needs : (o : Option ℕ) (entry : State) (x : Contract) (c d : Place) → NoReach (needs_by o f entry x c d)
  needs (Some l) entry x c d = tt
  needs None entry x c d =
      writes (list_any (λ a. is_kept (f.program.loaded a)) (written f.program.machine.endian x.writes c.state))
      (is_outside f.own f.program.machine.endian entry (written f.program.machine.endian x.writes c.state)) x c d

  by_contract : (o : Option Contract) (entry s : State) (stack : List ℕ) (g : Content) → NoReach (contract_by o f entry s stack g)
  by_contract None entry s stack g = tt
  by_contract (Some x) entry s [] g = tt
  by_contract (Some x) entry s (to ∷ below) g =
      needs (false_line f.program.machine.endian x.needs s s) entry x (record { state = s; stack = to ∷ below })
      (record { state = state_after f x s to g; stack = below })

  module _ (k : ℕ) (start : Start) where
    more : (r : Run) → IsUncut r → IsUncut (one_more f k start r)
    more (Going t n c) h = stepped k t n c.state.pc (frame_step f start.state c (start.choices n)) (frame start.state c (start.choices n))
    more (Calling t n c) h =
        stepped k t n c.state.pc (contract_step f start.state c (start.given n))
        (by_contract (contract_at f.stepped c.state.pc) start.state c.state c.stack (start.given n))
    more (Arriving t n c) h = absurd h
    more (Exited at n) h = tt
    more (Failed e at n) h = tt
    more (Turned at n) h = tt
    more (Cut at n) h = absurd h
    more (Broken l at n) h = tt

    begun : (o : Option Place) → IsUncut (begins f start.state o)
    begun (Some c) = tt
    begun None = by (is_head f start.state.pc) (none start.state.pc)
      where
        by : (b : Bool) → b ≡ false → IsUncut
            (if b then Arriving 0 0 (record { state = start.state; stack = [] }) else Going 0 0 (record { state = start.state; stack = [] }))
        by true e = absurd (cc)
        by false e = tt

    uncut : (n : ℕ) → IsUncut (run f k start n)
    unfolding run
    uncut zero = begun start.head
    uncut (suc n) = more (run f k start n) (uncut n)

    pub never_cut : RunIsCut f k start → ⊥
    never_cut (n, at, m, h) = subst IsUncut h (uncut n)
