-- A lifting of a row in one profile is one in each: what it says asks of the machine its byte order, registers and flags alone.
use Rattle.std.proofs.Common.{◌≡◌, ℕ, refl, ap, ◌∙◌}
use Rattle.std.proofs.Math.Path.{fun_ext}
use Rattle.word_spec.specs.Memory.{Endian}
use Rattle.machine_spec.specs.Machine.{Row}
use Rattle.word_spec.specs.Profiles.{Profile, V4}
use Rattle.machine_spec.specs.Arm.{arm}
use Rattle.machine_spec.specs.Bil.{RRegisters, BilVariable, Register, Flag, Mem, Local, Statements}
use Rattle.machine_spec.specs.BilCounts.{is_own, list_names_only}
use Rattle.machine_spec.specs.MachineLaws.{IsLifting}

same_own : (m : Endian) (p : Profile) (x : BilVariable) → is_own (arm m p) RRegisters x ≡ is_own (arm m V4) RRegisters x
same_own m p (Register b r) = refl
same_own m p (Flag f) = refl
same_own m p Mem = refl
same_own m p (Local x n) = refl

pub in_profile : (m : Endian) (p : Profile) (row : Row) (at : ℕ) (list : Statements) → IsLifting (arm m V4) RRegisters row at list →
    IsLifting (arm m p) RRegisters row at list
in_profile m p row at list h = record {
  simulates = h.simulates;
  stored = h.stored;
  typed = h.typed;
  no_loop = h.no_loop;
  no_special = h.no_special;
  nests = h.nests;
  names = ap (list_names_only list) (fun_ext (same_own m p)) ∙ h.names;
  assigns = h.assigns;
  surely = h.surely;
  reads = h.reads;
  reads_first = h.reads_first;
  draws = h.draws;
  picks = h.picks;
  steady = h.steady;
  literal = h.literal;
  weight = h.weight;
  loads = h.loads;
  stores = h.stores;
}
