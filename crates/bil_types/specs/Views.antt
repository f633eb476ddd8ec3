-- Faults and results of the code as those of the definitions.
use Rattle.std.specs.Prelude.{ℕ, Option, Some, None, Result, Ok, Err}
use Rattle.machine_spec.specs.BilTyping as typing
use Rattle.machine_spec.specs.BilTyping.{Typed, Has, Faulty}
use Rattle.bil_ast.specs.declared.names.BilType.{BilType}
use Rattle.bil_ast.specs.declared.width.Width.{Width}
use Rattle.bil_ast.specs.Views.{bil_type_of}
use Rattle.bil_types.specs.declared.faults.Need.{Need}
use Rattle.bil_types.specs.declared.faults.Need.TheVariants as need
use Rattle.bil_types.specs.declared.faults.TypeFault.{TypeFault}

-- what a rule asks
abbrev pub need_of : Need → typing.Need
need_of (need.Bits n) = typing.NeedBits n.bits
need_of need.AnyBits = typing.AnyBits
need_of need.Memory = typing.NeedMemory
need_of need.Fits = typing.Fits

-- a fault
abbrev pub fault_of : TypeFault → typing.TypeFault
fault_of f = record { place = f.place; need = need_of f.need; found = bil_type_of f.found }

-- a type, or a fault
abbrev pub typed_of : Result BilType TypeFault → Typed
typed_of (Ok t) = Has (bil_type_of t)
typed_of (Err f) = Faulty (fault_of f)

-- a type with the number of the next node, or a fault
abbrev pub numbered_of : Result (BilType × ℕ) TypeFault → Typed
numbered_of (Ok t) = Has (bil_type_of t.0)
numbered_of (Err f) = Faulty (fault_of f)

-- what is met leaves the rest of the rule, and what is not is the fault
abbrev pub met : {A : Type 0} → Result A TypeFault → Typed → Typed
met (Ok a) rest = rest
met (Err f) rest = Faulty (fault_of f)

-- a word that is found leaves the rest of the rule at its width
abbrev pub met_word : Result Width TypeFault → (ℕ → Typed) → Typed
met_word (Ok n) rest = rest n.bits
met_word (Err f) rest = Faulty (fault_of f)

-- the fault, if there is one
abbrev pub fault_in : {A : Type 0} → Result A TypeFault → Option typing.TypeFault
fault_in (Ok a) = None
fault_in (Err f) = Some (fault_of f)
