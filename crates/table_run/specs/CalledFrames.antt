-- Frames that step over contracts as the code has them, and what their steps come to.
use Rattle.std.specs.Prelude.{ℕ, is_some, ◌≡◌, ◌<◌, ◌≤◌, ◌^◌, ◌==◌, ◌&&◌, Bool, true, false, not, List, [], ◌∷◌, Option, Some, None, All, IfSome, filter, length, map, nat_eq, if◌then◌else◌}
use Rattle.std.specs.List.{list_any}
use Rattle.std.specs.Option.{option_map}
use Rattle.word_spec.specs.Memory.{Endian, byte_in}
use Rattle.word_spec.specs.RowFiles.{from_to}
use Rattle.word_spec.specs.State.{State, IsState}
use Rattle.machine_spec.specs.MachineLaws.{with_memory}
use Rattle.machine_spec.specs.StateText.{Layout, AreRising}
use Rattle.bilv_spec.specs.Notes.{NoteLine, FixedRange}
use Rattle.bilv_spec.specs.Elf.{is_kept}
use Rattle.bilv_spec.specs.Run.{Program, Place, false_line}
use Rattle.frame_spec.specs.Frames as frames
use Rattle.frame_spec.specs.Frames.{Content, Contract, Frame, contract_at, keeps_flag, keeps_register, written}
use Rattle.frame_spec.specs.FrameRuns as runs
use Rattle.frame_spec.specs.FrameRuns.{FrameStep, Run, contract_step, frame_step, returns_by, state_after}
use Rattle.frame_spec.specs.FrameReports.{WrittenCall, given_by, value_in}
use Rattle.frame_texts_spec.specs.CallReplays.{BlockCause, WrongAt, BreaksLine, is_block_of, none_there, wrong_by}
use Rattle.notes_value.specs.FrameViews.{contract_of, is_in}
use Rattle.notes_value.specs.Reads.{IsReadableContract}
use Rattle.notes_index.specs.Indexed.{AreIndexed}
use Rattle.state_text.specs.Starts.{event_of}
use Rattle.program_value.specs.Programs.{program_of}
use Rattle.table_run.specs.FrameEnds.{HasKept}
use Rattle.table_run.specs.Spans.{bytes_of}
use Rattle.table_run.specs.declared.called_turns.Stand.{Stand}
use Rattle.table_run.specs.declared.called_turns.Stand.TheVariants as stand
use Rattle.table_run.specs.declared.frame.CallFrame.{CallFrame}
use Rattle.table_run.specs.declared.frame.Own.{Own}
use Rattle.table_run.specs.declared.ending.CalledEvent.{CalledEvent}
use Rattle.table_run.specs.declared.ending.CalledEvent.TheVariants as event
use Rattle.table_run.specs.declared.ending.CalledStepEnd.{CalledStepEnd}
use Rattle.table_run.specs.declared.ending.CalledStepEnd.TheVariants as end

-- ---- frames

-- where a frame begins and what is judged at its entry and its exit, by its own contract, if it has one
abbrev pub entry_in : Option Contract → ℕ → ℕ
entry_in None at = at
entry_in (Some x) at = x.at

abbrev pub requires_in : Option Contract → List NoteLine → List NoteLine
requires_in None lines = lines
requires_in (Some x) lines = x.needs

abbrev pub ensures_in : Option Contract → List NoteLine → List NoteLine
ensures_in None lines = lines
ensures_in (Some x) lines = []

abbrev pub fixed_in : Option Contract → List FixedRange → List FixedRange
fixed_in None ranges = ranges
fixed_in (Some x) ranges = []

abbrev pub program_in : Program → Option Contract → Program
program_in p own = record p {
  entry = entry_in own p.entry;
  notes = record p.notes {
    requires = requires_in own p.notes.requires;
    ensures = ensures_in own p.notes.ensures;
    fixed = fixed_in own p.notes.fixed;
  };
}

-- the frame of a program that steps over these contracts, by its own one
abbrev pub called_frame : Program → (stepped : List Contract) → (own : Option Contract) → Frame
called_frame p stepped own = record { program = program_in p own; invariants = []; cuts = true; stepped = stepped; own = own }

abbrev pub own_of : Option Own → Option Contract
own_of own = option_map (λ o. contract_of o.contract.now) own

abbrev pub frame_in : {M I S : _} {m : _} {v : _} → CallFrame M I S m v → Frame
frame_in f = called_frame (program_of f.program) (map contract_of f.stepped.now) (own_of f.own)

-- the bytes that the frame's contract may write are evaluated in the state where its function begins
abbrev pub IsOwnAt : Endian → Option Own → (entry : State) → Type 0
IsOwnAt e own entry = IfSome own (λ o. bytes_of o.spans.now ≡ written e (contract_of o.contract.now).writes entry)

-- what the code has of a frame: an index of its notes, and contracts that can be read
pub record IsRunnable {M I S : _} {m : _} {v : _} (f : CallFrame M I S m v) : Type 0 where
  pub index : AreIndexed f.program.notes.now f.index.now
  pub stepped : All (λ x. IsReadableContract v.has_register (contract_of x)) f.stepped.now
  pub own : IfSome f.own (λ o. IsReadableContract v.has_register (contract_of o.contract.now))

-- ---- what a contract may change

-- a register, or a flag, differs that it may not change
abbrev pub register_differs : Frame → Contract → State → State → ℕ → Bool
register_differs f x entry new r = keeps_register f x r && not (new.regs r == entry.regs r)

abbrev pub flag_differs : Frame → Contract → State → State → ℕ → Bool
flag_differs f x entry new g = keeps_flag f x g && not (new.flags g == entry.flags g)

-- one of so many, from a number on
unfoldable pub registers_differ : Frame → Contract → State → State → (first count : ℕ) → Bool
registers_differ f x entry new first count = list_any (register_differs f x entry new) (from_to first count)

unfoldable pub flags_differ : Frame → Contract → State → State → (first count : ℕ) → Bool
flags_differ f x entry new first count = list_any (flag_differs f x entry new) (from_to first count)

-- the registers that a contract may change, in the machine's order
unfoldable pub changed_by : Contract → List ℕ
changed_by x = filter (λ r. list_any (nat_eq r) x.registers) (from_to 0 32)

-- the value of a register, where those of a set among so many from a number on have values in their order
unfoldable pub value_from : (set : ℕ) → (values : List ℕ) → (register first count : ℕ) → ℕ
value_from set values r first count = value_in (filter (is_in set) (from_to first count)) values r

-- a register after a contract step
abbrev pub register_after : (set : ℕ) → State → (values : List ℕ) → ℕ → ℕ
register_after set s values r = if is_in set r then value_from set values r 0 32 else s.regs r

-- ---- blocks

-- what can be put into a state: words, flags of the form, and bytes at rising addresses
pub record IsBlock (form : Layout) (c : WrittenCall) : Type 0 where
  pub words : All (λ v. v < 2 ^ 32) c.regs
  pub flags : c.flags < 2 ^ length form.flags
  pub bytes : All (λ b. b.1 ≤ 255) c.bytes
  pub bytes_rise : AreRising c.bytes

-- the contract step of a block is given its content
abbrev pub IsGift : (stepped : List Contract) → Option WrittenCall → Content → Type 0
IsGift stepped None g = Unit {0}
IsGift stepped (Some c) g = (x : Contract) → contract_at stepped c.at ≡ Some x → g ≡ given_by (changed_by x) c

-- some bytes have those of a list, 0 where it has none, and all else is as it was
pub record IsFilledBy (bytes : List (ℕ × ℕ)) (places : List ℕ) (old new : State) : Type 0 where
  pub rest : new ≡ with_memory old new.mem
  pub mem : (a : ℕ) → a < 2 ^ 32 → new.mem a ≡ (if list_any (nat_eq a) places then byte_in bytes a else old.mem a)

-- ---- places

-- a state is the code's but for bytes that no machine sees
pub record IsSeenAs (s now : State) : Type 0 where
  pub rest : now ≡ with_memory s now.mem
  pub mem : (a : ℕ) → a < 2 ^ 32 → s.mem a ≡ now.mem a

-- so a place, whose state has the kept bytes of the file
pub record IsAt (p : Program) (c : Place) (now : State) (stack : List ℕ) : Type 0 where
  pub seen : IsSeenAs c.state now
  pub stack_is : c.stack ≡ stack
  pub is_state : IsState c.state
  pub kept : HasKept p c.state

-- ---- what steps come to

abbrev pub called_event_of : CalledEvent → frames.FrameEvent
called_event_of (event.OfStep e) = frames.OfStep (event_of e)
called_event_of (event.NeedsFails line) = frames.NeedsFails line
called_event_of event.WritesFails = frames.WritesFails
called_event_of (event.GivesFails line) = frames.GivesFails line
called_event_of event.ModifiesFails = frames.ModifiesFails

-- an exit, or what is false there
abbrev pub IsLeft : CalledStepEnd → FrameStep → Type 0
IsLeft (end.Halts e) x = x ≡ runs.Halts (called_event_of e)
IsLeft end.Leaves x = (s : State) × (x ≡ runs.Leaves s)
IsLeft other x = ⊥

-- the step of a row, with the state and the stack that it leaves
abbrev pub IsRowEnd : CalledStepEnd → State → List ℕ → FrameStep → Type 0
IsRowEnd (end.Halts e) state stack x = x ≡ runs.Halts (called_event_of e)
IsRowEnd end.GoesTo state stack x = x ≡ runs.GoesTo (record { state = state; stack = stack })
IsRowEnd end.Calls state stack x = x ≡ runs.Calls (record { state = state; stack = stack })
IsRowEnd end.Leaves state stack x = (s : State) × (x ≡ runs.Leaves s)
IsRowEnd (end.Breaks line) state stack x = ⊥
IsRowEnd end.NoCall state stack x = ⊥

abbrev pub IsCalled : CalledStepEnd → Type 0
IsCalled end.Calls = Unit {0}
IsCalled other = ⊥

-- where a step goes on that stores outside of what the frame's contract may write, or that calls a contract
abbrev pub landed : (outside called : Bool) → CalledStepEnd
landed outside called = if outside then end.Halts event.WritesFails else if called then end.Calls else end.GoesTo

-- a contract step, by whether its block is there
abbrev pub IsContractEnd : CalledStepEnd → Program → State → List ℕ → FrameStep → (is_block : Bool) → Type 0
IsContractEnd (end.Halts e) p state stack x b = x ≡ runs.Halts (called_event_of e)
IsContractEnd end.GoesTo p state stack x b = (d : Place) × (x ≡ runs.GoesTo d) × IsAt p d state stack × (b ≡ true)
IsContractEnd (end.Breaks line) p state stack x b = (x ≡ runs.Breaks line) × (b ≡ true)
IsContractEnd end.NoCall p state stack x b = ((n : ℕ) → wrong_by x false n ≡ Some (WrongAt n)) × (b ≡ false)
IsContractEnd end.Calls p state stack x b = ⊥
IsContractEnd end.Leaves p state stack x b = ⊥

-- ---- turns

-- where a run stands: at a row, or at a contract that is stepped over, to which a call has pushed its return address
abbrev pub IsStanding : Stand → (stepped : List Contract) → State → (stack : List ℕ) → Type 0
IsStanding stand.Row stepped s stack = Unit {0}
IsStanding stand.Contract stepped s stack = (is_some (contract_at stepped s.pc) ≡ true) × (1 ≤ length stack)

abbrev pub standing : Stand → (turns step : ℕ) → Place → Run
standing stand.Row turns n c = runs.Going turns n c
standing stand.Contract turns n c = runs.Calling turns n c

-- where it stands after a step
abbrev pub stand_after : CalledStepEnd → Stand
stand_after end.Calls = stand.Contract
stand_after other = stand.Row

abbrev pub next_of : CalledStepEnd → Option Stand
next_of end.GoesTo = Some stand.Row
next_of end.Calls = Some stand.Contract
next_of other = None

abbrev pub is_contract : Stand → Bool
is_contract stand.Row = false
is_contract stand.Contract = true

-- what the step there comes to
abbrev pub turned : Stand → Frame → (entry : State) → Place → (choice : ℕ) → Content → FrameStep
turned stand.Row f entry c choice given = frame_step f entry c choice
turned stand.Contract f entry c choice given = contract_step f entry c given

-- and what is wrong with its block
abbrev pub turned_wrong : Stand → Frame → (entry : State) → Place → Option WrittenCall → Content → (step : ℕ) → Option BlockCause
turned_wrong stand.Row f entry c block given n = none_there block n
turned_wrong stand.Contract f entry c block given n = wrong_by (contract_step f entry c given) (is_block_of f c block) n

-- a step's end, with the state and the stack that it leaves, and what is wrong with its block
abbrev pub IsTurnEnd : CalledStepEnd → Program → State → List ℕ → (step : ℕ) → FrameStep → Option BlockCause → Type 0
IsTurnEnd (end.Halts e) p state stack n x wrong = (x ≡ runs.Halts (called_event_of e)) × (wrong ≡ None)
IsTurnEnd end.GoesTo p state stack n x wrong = (d : Place) × (x ≡ runs.GoesTo d) × IsAt p d state stack × (wrong ≡ None)
IsTurnEnd end.Calls p state stack n x wrong = (d : Place) × (x ≡ runs.Calls d) × IsAt p d state stack × (wrong ≡ None)
IsTurnEnd end.Leaves p state stack n x wrong = (s : State) × (x ≡ runs.Leaves s) × (wrong ≡ None)
IsTurnEnd (end.Breaks line) p state stack n x wrong = (x ≡ runs.Breaks line) × (wrong ≡ Some (BreaksLine line))
IsTurnEnd end.NoCall p state stack n x wrong = wrong ≡ Some (WrongAt n)

-- the return from a contract step, of a block that is its own and of bytes that are not kept
abbrev pub IsReturn : {M I S : _} {m : _} {v : _} → CallFrame M I S m v → Contract → WrittenCall → CalledStepEnd → (old : State) → (stack : List ℕ) →
    (new : State) → (after : List ℕ) → Type 0
IsReturn {m = m} f x c end old stack new after =
    (to : ℕ) (below : List ℕ) → stack ≡ to ∷ below → HasKept (program_of f.program) old →
    list_any (λ a. is_kept ((program_of f.program).loaded a)) (written m.machine.endian x.writes old) ≡ false →
    IsContractEnd end (program_of f.program) new after
    (returns_by (false_line m.machine.endian x.gives (state_after (frame_in f) x old to (given_by (changed_by x) c)) old) (frame_in f)
    (record { state = old; stack = stack }) (record { state = state_after (frame_in f) x old to (given_by (changed_by x) c); stack = below })) true
