-- Runs of a frame from a start: what a step comes to in it, what a contract step does, and a segment, which also ends where it arrives at a head.
use Rattle.std.specs.Prelude.{ℕ, zero, suc, ◌+◌, Bool, true, false, List, [], ◌∷◌, Option, Some, None, ◌==◌, ◌&&◌, nat_lt, nat_le, if◌then◌else◌, is_some, length}
use Rattle.std.specs.List.{list_any}
use Rattle.word_spec.specs.State.{State}
use Rattle.machine_spec.specs.Machine.{Row}
use Rattle.bilv_spec.specs.Elf.{is_kept}
use Rattle.machine_spec.specs.Endings.{AssertFails, CodeWritten}
use Rattle.bilv_spec.specs.Run.{Place, Step, Stops, Arrives, Exits, step, false_assert, false_line, row_at}
use Rattle.frame_spec.specs.Frames.{Content, Contract, Frame, FrameEvent, OfStep, NeedsFails, WritesFails, GivesFails, ModifiesFails, event_of, is_early, is_head, is_outside, contract_at, written, keeps_register, keeps_flag, keeps_byte, has_changed, stored_by_row}

-- What a step comes to in a frame: an event; a place at which a row is executed next, a head, or a contract that is stepped over; the exit in a state; or
-- nothing, since what a contract step is given breaks a line of what the contract gives: there is no such run.
pub data FrameStep : Type 0 where
  Halts : FrameEvent → FrameStep
  GoesTo : Place → FrameStep
  Reaches : Place → FrameStep
  Calls : Place → FrameStep
  Leaves : State → FrameStep
  Breaks : (line : ℕ) → FrameStep

-- the row at the place, where it may be fetched
abbrev pub row_of_place : Frame → Place → Option Row
row_of_place f c = row_at f.program (f.program.word c.state) c.state.pc

-- the row's call keeps its return address in the link register
abbrev pub links_by : Option Row → Bool
links_by None = false
links_by (Some row) = row.links

-- the step between two places is a call, by the link register, of a contract that is stepped over
abbrev pub is_contract_call : Frame → (from to : Place) → Bool
is_contract_call f c d = is_some (contract_at f.stepped d.state.pc) && nat_lt (length c.stack) (length d.stack) && links_by (row_of_place f c)

-- where a step comes to a place
abbrev pub lands : Frame → (from to : Place) → FrameStep
lands f c d = if is_head f d.state.pc then Reaches d else if is_contract_call f c d then Calls d else GoesTo d

-- the exit of a contract's frame is judged by what it gives, and then by what it may change
abbrev pub given_by : Option ℕ → Bool → State → FrameStep
given_by (Some line) changed s = Halts (GivesFails line)
given_by None true s = Halts ModifiesFails
given_by None false s = Leaves s

-- the exit of a frame
abbrev pub leaves_by : Option Contract → Frame → (entry new : State) → FrameStep
leaves_by None f entry s = Leaves s
leaves_by (Some x) f entry s = given_by (false_line f.program.machine.endian x.gives s entry) (has_changed f x entry s) s

-- what a step of the tables is in the frame
abbrev pub settles : Frame → (entry : State) → Place → Step → FrameStep
settles f entry c (Stops e) = Halts (event_of f e)
settles f entry c (Arrives d) = lands f c d
settles f entry c (Exits s) = leaves_by f.own f entry s

-- a byte that the frame's contract may not write comes before what is judged later
abbrev pub unless_outside : (outside : Bool) → Frame → (entry : State) → Place → Step → FrameStep
unless_outside false f entry c s = settles f entry c s
unless_outside true f entry c (Stops e) = Halts (if is_early e then event_of f e else WritesFails)
unless_outside true f entry c s = Halts WritesFails

-- one step of a frame from a place, under a choice
abbrev pub frame_step : Frame → (entry : State) → Place → (choice : ℕ) → FrameStep
frame_step f entry c choice =
    unless_outside (is_outside f.own f.program.machine.endian entry (stored_by_row (row_of_place f c) c.state)) f entry c (step f.program entry c choice)

-- The state after a contract step: at the return address, with what is given, but for what the contract may not change. What no machine can see, as a register
-- that it does not have, is as given.
abbrev pub state_after : Frame → Contract → (before : State) → (to : ℕ) → Content → State
state_after f x before to g = record {
  pc = to;
  regs = λ r. if keeps_register f x r then before.regs r else g.regs r;
  flags = λ n. if keeps_flag f x n then before.flags n else g.flags n;
  mem = λ a. if keeps_byte f x before a then before.mem a else g.mem a;
}

-- what is given meets what the contract gives, or not
abbrev pub returns_by : Option ℕ → Frame → Place → Place → FrameStep
returns_by (Some line) f c d = Breaks line
returns_by None f c d = lands f c d

-- after what the contract needs: a byte that it may write is kept, or none of the frame's own; else the return
abbrev pub writes_by : (kept outside : Bool) → Frame → Contract → Place → Place → FrameStep
writes_by true outside f x c d = Halts (OfStep CodeWritten)
writes_by false true f x c d = Halts WritesFails
writes_by false false f x c d = returns_by (false_line f.program.machine.endian x.gives d.state c.state) f c d

-- what the contract needs is judged first
abbrev pub needs_by : Option ℕ → Frame → (entry : State) → Contract → Place → Place → FrameStep
needs_by (Some line) f entry x c d = Halts (NeedsFails line)
needs_by None f entry x c d =
    writes_by (list_any (λ a. is_kept (f.program.loaded a)) (written f.program.machine.endian x.writes c.state))
    (is_outside f.own f.program.machine.endian entry (written f.program.machine.endian x.writes c.state)) f x c d

-- a contract step at a place whose stack has the return address on top
abbrev pub contract_by : Option Contract → Frame → (entry : State) → State → List ℕ → Content → FrameStep
contract_by None f entry s stack g = Breaks 0
contract_by (Some x) f entry s [] g = Breaks 0
contract_by (Some x) f entry s (to ∷ below) g =
    needs_by (false_line f.program.machine.endian x.needs s s) f entry x (record { state = s; stack = to ∷ below })
    (record { state = state_after f x s to g; stack = below })

-- a contract step from a place, by what is given
abbrev pub contract_step : Frame → (entry : State) → Place → Content → FrameStep
contract_step f entry c g = contract_by (contract_at f.stepped c.state.pc) f entry c.state c.stack g

-- A start of a segment: the state at entry; the place of a head state, if the segment is not the entry's; a choice for each step; and for each step what a
-- contract step is given there.
pub record Start : Type 0 where
  pub state : State
  pub head : Option Place
  pub choices : ℕ → ℕ
  pub given : ℕ → Content

-- A run after some steps: it goes on with a row, with an arrival at a head, or with a contract step; or it has ended, by the exit, an event, one backward
-- transfer too many, the arrival at a head, or since what a contract step is given is no run.
pub data Run : Type 0 where
  Going : (turns step : ℕ) → Place → Run
  Arriving : (turns step : ℕ) → Place → Run
  Calling : (turns step : ℕ) → Place → Run
  Exited : (at step : ℕ) → Run
  Failed : FrameEvent → (at step : ℕ) → Run
  Turned : (at step : ℕ) → Run
  Cut : (at step : ℕ) → Run
  Broken : (line at step : ℕ) → Run

-- one more backward transfer: the (k + 1)th ends the run
abbrev pub turn : (next : ℕ → ℕ → Place → Run) → Bool → (turns n at : ℕ) → Place → Run
turn next true turns n at c = Turned at n
turn next false turns n at c = next (turns + 1) (n + 1) c

-- a step is a backward transfer where it doesn't lead to a greater address
abbrev pub arrive : (next : ℕ → ℕ → Place → Run) → Bool → (k turns n at : ℕ) → Place → Run
arrive next false k turns n at c = next turns (n + 1) c
arrive next true k turns n at c = turn next (turns == k) turns n at c

-- the run after step n, which was made at an address; a transfer to a head is not counted
abbrev pub after_step : (k turns n at : ℕ) → FrameStep → Run
after_step k turns n at (Halts e) = Failed e at n
after_step k turns n at (GoesTo c) = arrive Going (nat_le c.state.pc at) k turns n at c
after_step k turns n at (Reaches c) = Arriving turns (n + 1) c
after_step k turns n at (Calls c) = arrive Calling (nat_le c.state.pc at) k turns n at c
after_step k turns n at (Leaves s) = Exited at n
after_step k turns n at (Breaks line) = Broken line at n

-- an arrival at a head is judged by the assert lines there, invariants among them
abbrev pub arrival : Frame → Option ℕ → (n at : ℕ) → Run
arrival f None n at = Cut at n
arrival f (Some line) n at = Failed (event_of f (AssertFails line)) at n

-- the run after one more step
abbrev pub one_more : Frame → ℕ → Start → Run → Run
one_more f k start (Going turns n c) = after_step k turns n c.state.pc (frame_step f start.state c (start.choices n))
one_more f k start (Arriving turns n c) = arrival f (false_assert f.program.machine.endian f.program.notes.asserts c.state start.state) n c.state.pc
one_more f k start (Calling turns n c) = after_step k turns n c.state.pc (contract_step f start.state c (start.given n))
one_more f k start (Exited at n) = Exited at n
one_more f k start (Failed e at n) = Failed e at n
one_more f k start (Turned at n) = Turned at n
one_more f k start (Cut at n) = Cut at n
one_more f k start (Broken line at n) = Broken line at n

-- where a segment begins: an entry that is a head is arrived at, a head state makes a step
abbrev pub begins : Frame → State → Option Place → Run
begins f s None = if is_head f s.pc then Arriving 0 0 (record { state = s; stack = [] }) else Going 0 0 (record { state = s; stack = [] })
begins f s (Some c) = Going 0 0 c

-- the run from a start after a number of steps, for at most k backward transfers
unfoldable pub run : Frame → ℕ → Start → ℕ → Run
run f k start zero = begins f start.state start.head
run f k start (suc n) = one_more f k start (run f k start n)

-- a run that has ended
abbrev pub IsOver : Run → Type 0
IsOver (Going turns n c) = ⊥
IsOver (Arriving turns n c) = ⊥
IsOver (Calling turns n c) = ⊥
IsOver (Exited at n) = Unit {0}
IsOver (Failed e at n) = Unit {0}
IsOver (Turned at n) = Unit {0}
IsOver (Cut at n) = Unit {0}
IsOver (Broken line at n) = Unit {0}
