-- What checks, places and faults of the code are.
use Rattle.std.specs.Prelude.{◌≡◌, List, Option, Some, None, map, option_copied, string_bytes}
use Rattle.suite_file.specs.Suites as spec
use Rattle.suite_file.specs.Suites.{Read, Refused, Text}
use Rattle.suite_file.specs.declared.check.Check.{Check}
use Rattle.suite_file.specs.declared.check.Draft.{Draft}
use Rattle.suite_file.specs.declared.check.Suite.{Suite}
use Rattle.suite_file.specs.declared.checks.Defaults.{Defaults as CodeDefaults}
use Rattle.suite_file.specs.declared.fault.Place as place
use Rattle.suite_file.specs.declared.fault.Place.TheVariants.{Defaults, Check as InCheck}
use Rattle.suite_file.specs.declared.fault.SuiteFault.{SuiteFault}
use Rattle.suite_file.specs.declared.fault.SuiteFault.TheVariants.{NotToml, UnknownKey, WrongType, Missing, Empty, RepeatedName, Memory}

-- a check
abbrev pub check_view : Check → spec.Check
check_view c = record {
  name = string_bytes c.name;
  notes = string_bytes c.notes;
  elf = string_bytes c.elf;
  options = map string_bytes c.options.items;
  expect = string_bytes c.expect;
}

-- a check of texts and options
abbrev pub draft_view : Draft → List Text → spec.Check
draft_view d options = record { name = d.name.now; notes = d.notes.now; elf = d.elf.now; options = options; expect = d.expect.now }

-- a place
abbrev pub place_of : place.Place → spec.Place
place_of Defaults = spec.InDefaults
place_of (InCheck n) = spec.InCheck n

-- a fault; want of memory is none
abbrev pub fault_of : SuiteFault → Option spec.Fault
fault_of (NotToml e) = Some spec.NotToml
fault_of (UnknownKey p key) = Some (spec.UnknownKey (place_of p) (string_bytes key))
fault_of (WrongType p key) = Some (spec.WrongType (place_of p) key.now)
fault_of (Missing p key) = Some (spec.Missing (place_of p) key.now)
fault_of Empty = Some spec.NoCheck
fault_of (RepeatedName name) = Some (spec.RepeatedName (string_bytes name))
fault_of Memory = None

-- the error is the fault that a reading has; want of memory is none
abbrev pub IsFaultOf : {A : Type 0} → Read A → Option spec.Fault → Type 0
IsFaultOf reading None = Unit {0}
IsFaultOf reading (Some fault) = reading ≡ Refused fault

abbrev pub IsRefusal : {A : Type 0} → Read A → SuiteFault → Type 0
IsRefusal reading e = IsFaultOf reading (fault_of e)

-- the defaults
abbrev pub defaults_view : CodeDefaults → spec.Defaults
defaults_view d = record { elf = option_copied d.elf; options = map string_bytes d.options.items }

-- the checks of a suite
abbrev pub suite_view : Suite → List spec.Check
suite_view s = map check_view s.checks.items
