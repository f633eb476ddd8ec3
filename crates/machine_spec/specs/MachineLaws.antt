-- The laws of a row, of a machine, and of a row's lifted list.
use Rattle.std.specs.Prelude.{◌≡◌, ◌↔◌, ◌⊎◌, ℕ, ◌≤◌, ◌<◌, ◌+◌, ◌^◌, ◌&&◌, nat_le, nat_lt, length, true, false, not, Option, Some, None, List, Contains}
use Rattle.word_spec.specs.Words.{add}
use Rattle.word_spec.specs.Memory.{Little, Memory}
use Rattle.word_spec.specs.State.{State, IsState, put}
use Rattle.machine_spec.specs.Machine.{Row, Cost, Successors, How, On, Direct, DirectCall, Indirect, IndirectCall, Outcome, Goes, Raises, addresses, byte_count, Machine, width, first_half}
use Rattle.machine_spec.specs.StateText.{Layout}
use Rattle.machine_spec.specs.Bil.{Bank, Statements}
use Rattle.machine_spec.specs.BilTyping.{IsWellTyped}
use Rattle.machine_spec.specs.BilCounts.{list_weight, byte_loads, byte_stores, memory_choices, chosen_stores, other_loads, unknowns, has_no_loop, has_no_special, nesting, list_names_only, is_own, may_assign, surely_assigns, reads_within, reads_first}
use Rattle.machine_spec.specs.BilStores.{list_stored}
use Rattle.machine_spec.specs.Simulation.{Locals, position, Simulates}

-- where a row goes on, this holds of how it does and of the new state
abbrev pub IfGoes : Outcome → (How → State → Type 0) → Type 0
IfGoes (Goes how new) claim = claim how new
IfGoes (Raises e) claim = Unit {0}

-- where a row raises an exception, this holds
abbrev pub IfRaises : Outcome → Type 0 → Type 0
IfRaises (Goes how new) claim = Unit {0}
IfRaises (Raises e) claim = claim

-- of the memory only these bytes may change
abbrev pub KeepsOthers : List ℕ → State → Outcome → Type 0
KeepsOthers places old o = IfGoes o (λ how new. (a : ℕ) → a < 2 ^ 32 → (Contains places a → ⊥) → new.mem a ≡ old.mem a)

-- A way on to an address that the successors allow: on to the next address, a direct jump to its target, or an indirect one; and a call exactly where they say
-- so.
abbrev pub IsWay : Successors → How → (to : ℕ) → Type 0
IsWay s On to = s.next ≡ true
IsWay s Direct to = (s.direct ≡ Some to) × (s.call ≡ false)
IsWay s DirectCall to = (s.direct ≡ Some to) × (s.call ≡ true)
IsWay s Indirect to = (s.indirect ≡ true) × (s.call ≡ false)
IsWay s IndirectCall to = (s.indirect ≡ true) × (s.call ≡ true)

-- the outcome is a way on that the successors allow
abbrev pub IsSuccessor : Successors → Outcome → Type 0
IsSuccessor s o = IfGoes o (λ how new. IsWay s how new.pc)

-- what goes on without a jump comes to the address behind the row, which has a length in bytes
abbrev pub ComesNext : (length : ℕ) → State → Outcome → Type 0
ComesNext length old o = IfGoes o (λ how new. how ≡ On → new.pc ≡ add 32 old.pc length)

-- what is left is a state
abbrev pub LeavesState : Outcome → Type 0
LeavesState o = IfGoes o (λ how new. IsState new)

-- the state with one flag changed
abbrev pub with_flag : State → ℕ → ℕ → State
with_flag s f v = record s { flags = put s.flags f v }

-- two states are the same but for a flag
pub record AgreeBut (f : ℕ) (s t : State) : Type 0 where
  pub pc : s.pc ≡ t.pc
  pub regs : s.regs ≡ t.regs
  pub flags : (g : ℕ) → (g ≡ f → ⊥) → s.flags g ≡ t.flags g
  pub mem : s.mem ≡ t.mem

-- two outcomes are the same but for a flag
abbrev pub OutcomesAgreeBut : ℕ → Outcome → Outcome → Type 0
OutcomesAgreeBut f (Goes how s) (Goes other t) = (how ≡ other) × AgreeBut f s t
OutcomesAgreeBut f (Raises d) (Raises e) = d ≡ e
OutcomesAgreeBut f (Goes how s) (Raises e) = ⊥
OutcomesAgreeBut f (Raises e) (Goes how s) = ⊥

-- two outcomes have the same flag
abbrev pub HaveSameFlag : ℕ → Outcome → Outcome → Type 0
HaveSameFlag f (Goes how s) (Goes other t) = s.flags f ≡ t.flags f
HaveSameFlag f (Raises d) other = Unit {0}
HaveSameFlag f (Goes how s) (Raises e) = Unit {0}

-- the state with another memory
abbrev pub with_memory : State → Memory → State
with_memory s m = record s { mem = m }

-- Two outcomes, of a state and of the state with another memory, are the same but for memory: there the bytes that were the same still are, and those that are
-- stored are the same.
abbrev pub SameButMemory : State → Memory → (stored : List ℕ) → Outcome → Outcome → Type 0
SameButMemory s m stored (Goes how x) (Goes other y) =
    (how ≡ other) × (x.pc ≡ y.pc) × (x.regs ≡ y.regs) × (x.flags ≡ y.flags)
    × ((a : ℕ) → a < 2 ^ 32 → (s.mem a ≡ m a) ⊎ Contains stored a → x.mem a ≡ y.mem a)
SameButMemory s m stored (Raises d) (Raises e) = d ≡ e
SameButMemory s m stored (Goes how x) (Raises e) = ⊥
SameButMemory s m stored (Raises e) (Goes how x) = ⊥

-- with another memory that has the same bytes where the row loads, it loads and stores at the same addresses and does the same
abbrev pub OnlyLoads : Row → Type 0
OnlyLoads row =
    (s : State) (m : Memory) (c : ℕ) → IsState s → IsState (with_memory s m) → ((a : ℕ) → Contains (addresses (row.loaded s)) a → s.mem a ≡ m a) →
    (row.loaded s ≡ row.loaded (with_memory s m)) × (row.stored s ≡ row.stored (with_memory s m))
    × SameButMemory s m (addresses (row.stored s)) (row.effect s c) (row.effect (with_memory s m) c)

-- what is loaded, if anything, begins at an address of 32 bits
abbrev pub BeginsInMemory : Option (ℕ × ℕ) → Type 0
BeginsInMemory None = Unit {0}
BeginsInMemory (Some bytes) = bytes.0 < 2 ^ 32

-- the way on is a call
abbrev pub IsCall : How → Type 0
IsCall On = ⊥
IsCall Direct = ⊥
IsCall DirectCall = Unit {0}
IsCall Indirect = ⊥
IsCall IndirectCall = Unit {0}

-- where the row calls, the link register has the address after the row
abbrev pub LinksIn : (link : ℕ) → Row → Type 0
LinksIn link row = (s : State) (c : ℕ) → IsState s → IfGoes (row.effect s c) (λ how new. IsCall how → new.regs link ≡ add 32 s.pc row.length)

-- where the row calls, the link register is as it was
abbrev pub KeepsLink : (link : ℕ) → Row → Type 0
KeepsLink link row = (s : State) (c : ℕ) → IsState s → IfGoes (row.effect s c) (λ how new. IsCall how → new.regs link ≡ s.regs link)

-- The price of a row's point, within bounds by which the price of a program fits 128 bits. The least of it pays for what a point costs besides its list.
pub record IsPriced (cost : Cost) : Type 0 where
  pub least : 64 ≤ cost.row
  pub most : cost.row ≤ 20000
  pub loads : cost.loads ≤ 64
  pub stores : cost.stores ≤ 64

-- What a row does in any state, under any choice.
-- stored, raised: where it goes on, it changes only the bytes that it says; where it raises an exception, it says none. successors, next, one_way: it goes on
-- only to a static successor, comes to the address behind it where it does not jump, and has no direct and no indirect successor at once. states: what it
-- leaves is a state. unassigned, unread, sure: a flag that it doesn't assign is unchanged; a flag that it doesn't read changes nothing but that flag itself,
-- and not even that where it surely assigns it. sure_flags: it surely assigns none but the four lowest. draws: it reads the choice only where it says so.
-- plain: one that may assign a flag stores no byte. stored_unread: a flag that it doesn't read does not change which bytes it stores. priced: its cost is
-- within the bounds. loads, unloaded, few_loads, loads_at: of the memory it reads only the bytes that it says; where it raises an exception, it says none; they
-- are no more than its cost has; and they begin at an address of 32 bits. calls: a row that links can call.
pub record IsLawful (row : Row) : Type 0 where
  pub stored : (s : State) (c : ℕ) → IsState s → KeepsOthers (addresses (row.stored s)) s (row.effect s c)
  pub raised : (s : State) (c : ℕ) → IsState s → IfRaises (row.effect s c) (row.stored s ≡ None)
  pub successors : (s : State) (c : ℕ) → IsState s → IsSuccessor (row.successors s.pc) (row.effect s c)
  pub next : (s : State) (c : ℕ) → IsState s → ComesNext row.length s (row.effect s c)
  pub one_way : (at : ℕ) → (row.successors at).indirect ≡ true → (row.successors at).direct ≡ None
  pub states : (s : State) (c : ℕ) → IsState s → LeavesState (row.effect s c)
  pub unassigned : (s : State) (c f : ℕ) → f < 4 → row.flags.assigns f ≡ false → IfGoes (row.effect s c) (λ how new. new.flags f ≡ s.flags f)
  pub unread : (s : State) (c f v : ℕ) → f < 4 → row.flags.reads f ≡ false → OutcomesAgreeBut f (row.effect s c) (row.effect (with_flag s f v) c)
  pub sure : (s : State) (c f v : ℕ) → f < 4 → row.flags.reads f ≡ false → row.flags.surely f ≡ true →
      HaveSameFlag f (row.effect s c) (row.effect (with_flag s f v) c)
  pub sure_flags : (f : ℕ) → row.flags.surely f ≡ true → f < 4
  pub draws : row.draws ≡ false → (s : State) (c d : ℕ) → row.effect s c ≡ row.effect s d
  pub plain : (f : ℕ) → f < 4 → row.flags.assigns f ≡ true → (s : State) → row.stored s ≡ None
  pub stored_unread : (s : State) (f v : ℕ) → f < 4 → row.flags.reads f ≡ false → row.stored s ≡ row.stored (with_flag s f v)
  pub priced : IsPriced row.cost
  pub loads : OnlyLoads row
  pub unloaded : (s : State) (c : ℕ) → IsState s → IfRaises (row.effect s c) (row.loaded s ≡ None)
  pub few_loads : (s : State) → byte_count (row.loaded s) ≤ row.cost.loads
  pub loads_at : (s : State) → IsState s → BeginsInMemory (row.loaded s)
  pub calls : row.links ≡ true → (at : ℕ) → (row.successors at).call ≡ true

-- Each word of 32 bits that has a row has a lawful one, as long as its first halfword says; and where some rows have 2 bytes, the lowest byte stands first, so
-- that the first halfword is the low one. linked, unlinked: a call of a row that links keeps the address after it in the link register, and that of any other
-- row leaves that register as it was.
pub record IsLawfulMachine (m : Machine) : Type 0 where
  pub rows : (w : ℕ) (row : Row) → w < 2 ^ 32 → m.row w ≡ Some row → IsLawful row
  pub lengths : (w : ℕ) (row : Row) → w < 2 ^ 32 → m.row w ≡ Some row → row.length ≡ width m.narrow (first_half w)
  pub little : m.narrow ≡ true → m.endian ≡ Little
  pub linked : (w : ℕ) (row : Row) → w < 2 ^ 32 → m.row w ≡ Some row → row.links ≡ true → LinksIn m.link row
  pub unlinked : (w : ℕ) (row : Row) → w < 2 ^ 32 → m.row w ≡ Some row → row.links ≡ false → KeepsLink m.link row

-- The form of state texts is the machine's: the registers are those from the form's first on, at least 15 and at most 31, for which prices and bounds are
-- meant, and all below 32; the flags are those below the number of the form's, at most 4; the link register is one of the registers.
pub record IsFitted (m : Machine) (form : Layout) : Type 0 where
  pub registers : (r : ℕ) → m.has_register r ≡ (nat_le form.first r && nat_lt r (form.first + length form.registers))
  pub enough_registers : 15 ≤ length form.registers
  pub few_registers : length form.registers ≤ 31
  pub low_registers : form.first + length form.registers ≤ 32
  pub flags : (f : ℕ) → m.has_flag f ≡ nat_lt f (length form.flags)
  pub few_flags : length form.flags ≤ 4
  pub link : m.has_register m.link ≡ true

-- The list of a row that stands at an address, of a machine whose registers have the letter of a bank.
-- simulates: it does what the row does. stored: it stores just the bytes that the row stores, and none before an exception, since a lawful row then stores
-- none.
-- typed, no_loop, no_special, nests, names: it is well typed, has neither loop nor special, ifs at most two deep, and only the machine's variables.
-- assigns, surely, reads, reads_first: it uses the flags as the row does, and reads none that it has assigned. draws: it has an unknown only where the row
-- draws.
-- picks, steady: it chooses between words alone, and no side of a choice has a store. literal: where the row loads a literal, each of its loads is of that
-- word, at a constant address, and it stores nothing.
-- weight, loads, stores: they are within the row's cost, of which 64 are left for the exits of the row's point.
pub record IsLifting (m : Machine) (bank : Bank) (row : Row) (at : ℕ) (list : Statements) : Type 0 where
  pub simulates : Simulates row.effect at list
  pub stored : (s : State) → IsState s → s.pc ≡ at → (choice turns : ℕ) → choice < 4 → (l : Locals) → (a : ℕ) →
      Contains (list_stored list choice (position l turns None s)) a ↔ Contains (addresses (row.stored s)) a
  pub typed : IsWellTyped list
  pub no_loop : has_no_loop list ≡ true
  pub no_special : has_no_special list ≡ true
  pub nests : nesting list ≤ 2
  pub names : list_names_only list (is_own m bank) ≡ true
  pub assigns : (f : ℕ) → f < 4 → may_assign f list ≡ true → row.flags.assigns f ≡ true
  pub surely : (f : ℕ) → f < 4 → row.flags.surely f ≡ true → surely_assigns f list ≡ true
  pub reads : (f : ℕ) → f < 4 → reads_within f (row.flags.reads f) (not (row.flags.surely f)) list ≡ true
  pub reads_first : (f : ℕ) → f < 4 → reads_first f false list ≡ true
  pub draws : row.draws ≡ false → unknowns list ≡ 0
  pub picks : memory_choices list ≡ 0
  pub steady : chosen_stores list ≡ 0
  pub literal : (a : ℕ) → row.literal at ≡ Some a → (other_loads m.endian a list ≡ 0) × (byte_stores list ≡ 0)
  pub weight : list_weight list + 64 ≤ row.cost.row
  pub loads : byte_loads list ≤ row.cost.loads
  pub stores : byte_stores list ≤ row.cost.stores
