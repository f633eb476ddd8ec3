-- What is carried, with the memory as machines see it; and the sweep, which hangs on no more of it.
use Rattle.std.specs.Prelude.{ℕ, ◌≡◌}
use Rattle.word_spec.specs.State.{State}
use Rattle.frame_spec.specs.Frames.{Content}
use Rattle.frame_spec.specs.FrameQuestions.{Reading}
use Rattle.frame_spec.specs.FrameWalk.{UnrolledProgram, Leaving, GoesOn, RaisesOne, IsStuck, Walk, WalkIsAt, WalkArrives, WalkExits, WalkFails, WalkTurns, WalkIsCut, WalkBreaks, Held, sweep_on}
use Rattle.low_memory.specs.LowMemory.{low}

-- a state, and what is carried, with such a memory
abbrev pub low_state : State → State
low_state s = record { pc = s.pc; regs = s.regs; flags = s.flags; mem = low s.mem }

abbrev pub low_content : Content → Content
low_content c = record { regs = c.regs; flags = c.flags; mem = low c.mem }

abbrev pub low_leaving : Leaving → Leaving
low_leaving (GoesOn jumped to c) = GoesOn jumped to (low_content c)
low_leaving (RaisesOne n) = RaisesOne n
low_leaving IsStuck = IsStuck

abbrev pub low_walk : Walk → Walk
low_walk (WalkIsAt place c) = WalkIsAt place (low_content c)
low_walk (WalkArrives at checks c) = WalkArrives at checks (low_content c)
low_walk WalkExits = WalkExits
low_walk (WalkFails e) = WalkFails e
low_walk WalkTurns = WalkTurns
low_walk WalkIsCut = WalkIsCut
low_walk WalkBreaks = WalkBreaks

abbrev pub low_held : Held → Held
low_held h = record { met = h.met; carried = λ i. low_content (h.carried i); fails = h.fails; steps = h.steps; turns = h.turns }

-- Where the same is held, but for memory that no machine sees, so it is after a place more.
abbrev pub SweepsSeeLow : Type 0
SweepsSeeLow =
    (u : UnrolledProgram) (r : Reading) (t : ℕ) (g h : Held) → low_held g ≡ low_held h → low_held (sweep_on u r t g) ≡ low_held (sweep_on u r t h)
