-- One step of a run of the instruction table, and a run.
use Rattle.std.specs.Prelude.{ℕ, zero, suc, ◌+◌, Bool, true, false, List, [], ◌∷◌, ◌++◌, Option, Some, None, ◌==◌, ◌&&◌, not, nat_le, if◌then◌else◌, nat_eq}
use Rattle.std.specs.List.{list_any, list_all}
use Rattle.word_spec.specs.Words.{add, sub}
use Rattle.word_spec.specs.Memory.{Endian, load}
use Rattle.word_spec.specs.State.{State}
use Rattle.machine_spec.specs.Machine.{Machine, Row, How, On, Direct, DirectCall, Indirect, IndirectCall, Exception, EnvironmentCall, Breakpoint, SoftwareInterrupt, OddHalfword, UnalignedLoad, Outcome, Goes, Raises, addresses, pair_of, is_place, width, first_half, taken, offsets}
pub use Rattle.bilv_spec.specs.Elf.{is_kept, is_executable}
use Rattle.bilv_spec.specs.Elf.{Cell}
use Rattle.bilv_spec.specs.Notes.{Notes, NoteLine, Assert, Targets, value, is_true}
use Rattle.machine_spec.specs.Endings.{Event, AssertFails, FetchFails, NoRow, HalfwordFails, CodeWritten, Trapped, AlignFails, JumpFails, EnsureFails, Start}

-- What is verified: a machine, what is decoded at an address in a state, the bytes that the file loads, the address of the function, and the notes; and the
-- flags that are asked for at the exit besides those that the notes name, which no run looks at.
pub record Program : Type 0 where
  pub machine : Machine
  pub word : State → ℕ → ℕ
  pub loaded : ℕ → Option Cell
  pub entry : ℕ
  pub notes : Notes
  pub out : ℕ → Bool

-- where a run stands: the state, and the addresses that calls are to return to, the last one first
pub record Place : Type 0 where
  pub state : State
  pub stack : List ℕ

-- what a step comes to: an event, the next place, or the exit in a state
pub data Step : Type 0 where
  Stops : Event → Step
  Arrives : Place → Step
  Exits : State → Step

-- the first assert line of the address that is false
abbrev pub false_assert : Endian → List Assert → State → State → Option ℕ
false_assert e [] now entry = None
false_assert e (a ∷ rest) now entry =
    if (a.at == now.pc) && not (is_true (value e a.says now entry)) then Some a.line else false_assert e rest now entry

-- the first line that is false
abbrev pub false_line : Endian → List NoteLine → State → State → Option ℕ
false_line e [] now entry = None
false_line e (l ∷ rest) now entry = if is_true (value e l.says now entry) then false_line e rest now entry else Some l.line

-- the bytes from an address on are loaded and executable, as many as the row of the word has
abbrev pub fetchable : Program → (word at : ℕ) → Bool
fetchable p w a = list_all (λ i. is_executable (p.loaded (add 32 a i))) (offsets (width p.machine.narrow (first_half w)))

-- the four bytes from an address on are kept
abbrev pub all_kept : Program → ℕ → Bool
all_kept p a = list_all (λ i. is_kept (p.loaded (add 32 a i))) (0 ∷ 1 ∷ 2 ∷ 3 ∷ [])

-- what is decoded of the bytes in memory at an address, in the machine's byte order
abbrev pub in_memory : Machine → State → ℕ → ℕ
in_memory m s a = taken m.narrow (load m.endian 4 s.mem a)

-- word : the word at each address. The row of the word at an address, where it may be fetched.
abbrev pub row_at : Program → (word : ℕ → ℕ) → ℕ → Option Row
row_at p word at = if fetchable p (word at) at then p.machine.row (word at) else None

-- the address that there is, if there is one
abbrev pub some_of : Option ℕ → List ℕ
some_of None = []
some_of (Some a) = a ∷ []

-- the targets that the notes list for an address
abbrev pub targets_at : List Targets → ℕ → List ℕ
targets_at [] at = []
targets_at (t ∷ rest) at = (if t.at == at then t.to else []) ++ targets_at rest at

-- the word of a literal whose four bytes are kept
abbrev pub literal_target : Program → (word : ℕ → ℕ) → Option ℕ → List ℕ
literal_target p word None = []
literal_target p word (Some a) = if all_kept p a then word a ∷ [] else []

-- The targets that an indirect jump of a row at an address may have whatever the stack is: those of the notes, of its pair, of its literal.
abbrev pub named : Program → (word : ℕ → ℕ) → Row → ℕ → List ℕ
named p word row at =
    targets_at p.notes.targets at ++ some_of (pair_of (row_at p word (sub 32 at 4)) (Some row) at) ++ literal_target p word (row.literal at)

-- the target of the indirect jump of a row is one of these
abbrev pub is_named : Program → State → Row → ℕ → Bool
is_named p old row to = list_any (nat_eq to) (named p (p.word old) row old.pc)

-- an exit is judged by the ensure lines, in the state that it reaches
abbrev pub exit_by : Option ℕ → State → Step
exit_by None s = Exits s
exit_by (Some line) s = Stops (EnsureFails line)

-- the step that exits
abbrev pub exit : Program → State → State → Step
exit p entry new = exit_by (false_line p.machine.endian p.notes.ensures new entry) new

-- a step to a place where the jump is allowed, and else the event
abbrev pub allowed : Bool → Place → Step
allowed true place = Arrives place
allowed false place = Stops JumpFails

-- the jump is an exit, or goes to a named target with the empty stack
abbrev pub exit_or : Bool → Program → State → State → Bool → Step
exit_or true p entry new is_named = exit p entry new
exit_or false p entry new is_named = allowed is_named (record { state = new; stack = [] })

-- the jump is a return, which pops the stack's top, or goes to a named target
abbrev pub return_or : Bool → (top : ℕ) → (below : List ℕ) → State → Bool → Step
return_or true top below new is_named = Arrives (record { state = new; stack = below })
return_or false top below new is_named = allowed is_named (record { state = new; stack = top ∷ below })

-- An indirect jump that is no call, judged in this order: a return to the stack's top, the exit where the stack is empty, a named target.
abbrev pub leave : Program → State → Row → State → List ℕ → State → Step
leave p entry row old [] new = exit_or (new.pc == entry.regs p.machine.link) p entry new (is_named p old row new.pc)
leave p entry row old (top ∷ below) new = return_or (new.pc == top) top below new (is_named p old row new.pc)

-- the place that a call comes to: the address behind its row is pushed
abbrev pub called : Row → State → List ℕ → State → Place
called row old stack new = record { state = new; stack = add 32 old.pc row.length ∷ stack }

-- the step of a row that goes on; an indirect call is judged by the named targets alone
abbrev pub transfer : Program → State → Row → State → List ℕ → How → State → Step
transfer p entry row old stack On new = Arrives (record { state = new; stack = stack })
transfer p entry row old stack Direct new = Arrives (record { state = new; stack = stack })
transfer p entry row old stack DirectCall new = Arrives (called row old stack new)
transfer p entry row old stack Indirect new = leave p entry row old stack new
transfer p entry row old stack IndirectCall new = allowed (is_named p old row new.pc) (called row old stack new)

-- the step of a row that goes on, where a row can stand at its next address
abbrev pub aligned_transfer : Bool → Program → State → Row → State → List ℕ → How → State → Step
aligned_transfer true p entry row old stack how new = transfer p entry row old stack how new
aligned_transfer false p entry row old stack how new = Stops AlignFails

-- the event of an exception of a row that writes no kept byte
abbrev pub event_of : Exception → Event
event_of EnvironmentCall = Trapped
event_of Breakpoint = Trapped
event_of SoftwareInterrupt = Trapped
event_of OddHalfword = HalfwordFails
event_of UnalignedLoad = AlignFails

-- an odd address of a halfword is judged before the bytes that are written, every other exception behind them
abbrev pub exception_event : (writes_kept : Bool) → Exception → Event
exception_event writes_kept OddHalfword = HalfwordFails
exception_event true e = CodeWritten
exception_event false e = event_of e

-- a row that goes on
abbrev pub going_on : (writes_kept : Bool) → Program → State → Row → State → List ℕ → How → State → Step
going_on true p entry row old stack how new = Stops CodeWritten
going_on false p entry row old stack how new = aligned_transfer (is_place p.machine.narrow new.pc) p entry row old stack how new

-- what a row comes to, in the order: an odd address, a kept byte that is written, a trap, an unaligned target, a jump that isn't allowed, the row's effect
abbrev pub after_row : Program → State → Row → State → List ℕ → (writes_kept : Bool) → Outcome → Step
after_row p entry row old stack writes_kept (Raises e) = Stops (exception_event writes_kept e)
after_row p entry row old stack writes_kept (Goes how new) = going_on writes_kept p entry row old stack how new

-- one of the bytes that the row stores is kept
abbrev pub writes_kept : Program → Row → State → Bool
writes_kept p row s = list_any (λ a. is_kept (p.loaded a)) (addresses (row.stored s))

-- the step of the row of the word
abbrev pub by_row : Program → State → Place → ℕ → Option Row → Step
by_row p entry c choice None = Stops NoRow
by_row p entry c choice (Some row) = after_row p entry row c.state c.stack (writes_kept p row c.state) (row.effect c.state choice)

-- the step where the word may be fetched, or not
abbrev pub by_fetch : Bool → Program → State → Place → ℕ → Step
by_fetch true p entry c choice = by_row p entry c choice (p.machine.row (p.word c.state c.state.pc))
by_fetch false p entry c choice = Stops FetchFails

-- the step after the assert lines
abbrev pub after_asserts : Option ℕ → Program → State → Place → ℕ → Step
after_asserts (Some line) p entry c choice = Stops (AssertFails line)
after_asserts None p entry c choice = by_fetch (fetchable p (p.word c.state c.state.pc) c.state.pc) p entry c choice

-- one step from a place, under a choice, of a run that began in the state at entry
abbrev pub step : Program → State → Place → ℕ → Step
step p entry c choice = after_asserts (false_assert p.machine.endian p.notes.asserts c.state entry) p entry c choice

-- A run after some steps: it goes on, with so many backward transfers made, at the next step's number, from a place; or it has ended, with the address and
-- the number of its last step.
pub data Run : Type 0 where
  Going : (turns step : ℕ) → Place → Run
  Exited : (at step : ℕ) → Run
  Failed : Event → (at step : ℕ) → Run
  Turned : (at step : ℕ) → Run

-- one more backward transfer: the (k + 1)th ends the run
abbrev pub turn : Bool → (turns n at : ℕ) → Place → Run
turn true turns n at c = Turned at n
turn false turns n at c = Going (turns + 1) (n + 1) c

-- a step without event or exit is a backward transfer where it doesn't lead to a greater address
abbrev pub arrive : Bool → (k turns n at : ℕ) → Place → Run
arrive false k turns n at c = Going turns (n + 1) c
arrive true k turns n at c = turn (turns == k) turns n at c

-- the run after step n, which was made at an address
abbrev pub after_step : (k turns n at : ℕ) → Step → Run
after_step k turns n at (Stops e) = Failed e at n
after_step k turns n at (Exits s) = Exited at n
after_step k turns n at (Arrives c) = arrive (nat_le c.state.pc at) k turns n at c

-- the run after one more step
abbrev pub one_more : Program → ℕ → Start → Run → Run
one_more p k start (Going turns n c) = after_step k turns n c.state.pc (step p start.state c (start.choices n))
one_more p k start (Exited at n) = Exited at n
one_more p k start (Failed e at n) = Failed e at n
one_more p k start (Turned at n) = Turned at n

-- the run from a start after a number of steps, for at most k backward transfers
unfoldable pub run : Program → ℕ → Start → ℕ → Run
run p k start zero = Going 0 0 (record { state = start.state; stack = [] })
run p k start (suc n) = one_more p k start (run p k start n)

-- a run that has ended
abbrev pub IsOver : Run → Type 0
IsOver (Going turns n c) = ⊥
IsOver (Exited at n) = Unit {0}
IsOver (Failed e at n) = Unit {0}
IsOver (Turned at n) = Unit {0}
