-- The order of the inputs, and the readings of valuations.
use Rattle.std.proofs.Common.{◌≡◌, refl, ℕ, [], ◌∷◌, Some, None, Bool, true, false}
use Rattle.std.specs.Prelude.{◌==◌, ◌||◌, nat_le, length, slice_get}
use Rattle.word_spec.specs.Memory.{Little}
use Rattle.machine_spec.specs.Bil.{Empty}
use Rattle.walk_spec.specs.Unrolled.{UnrolledPoint, UnrolledProgram, Executes}
use Rattle.term_spec.specs.Cells.{Cells}
use Rattle.bilv_spec.specs.Evidence.{OfRegister, OfFlag, OfChoice, OfByte}
use Rattle.term_spec.specs.ClauseForm.{inputs, input_list, reading}

-- a point at an address that draws or not
abbrev point : (at : ℕ) → (draws : Bool) → UnrolledPoint
point at draws = record {
  point = record { turns = 0; stack = []; at = at };
  length = 4;
  does = Executes Empty;
  draws = draws;
  row = 1024;
  loads = 1;
  stores = 0;
  exits = [];
}

-- registers 3 and 5, two flags, three points of which the first and the third draw
abbrev u : UnrolledProgram
u = record {
  endian = Little;
  narrow = false;
  registers = 3 ∷ 5 ∷ [];
  flags = 2;
  link = 3;
  entry = 0;
  requires = [];
  ensures = [];
  kept = [];
  known = [];
  literals = [];
  points = point 0 true ∷ point 4 false ∷ point 8 true ∷ [];
}

-- two base reads
abbrev c : Cells
c = record { nodes = []; addresses = 0 ∷ 0 ∷ []; agrees = []; asked = []; root = 0 }

-- as many inputs are named as are counted
pub count : (inputs u c ≡ 86) × (length (input_list u c) ≡ inputs u c)
count = (refl, refl)

-- the first of each kind
pub order :
    (slice_get (input_list u c) 32 ≡ Some (OfRegister 5 0)) × (slice_get (input_list u c) 65 ≡ Some (OfFlag 1))
    × (slice_get (input_list u c) 68 ≡ Some (OfChoice (record { turns = 0; stack = []; at = 8 }) 0)) × (slice_get (input_list u c) 78 ≡ Some (OfByte 1 0))
    × (slice_get (input_list u c) 86 ≡ None)
order = (refl, refl, refl, refl, refl)

-- a variable is one more than its input: these set x5 to 2, flag 1, the choice of place 2 to 1 and byte 1 to 129
abbrev v : ℕ → Bool
v i = (i == 34) || (i == 66) || (i == 69) || (i == 79) || (i == 86) || nat_le 87 i

pub values :
    ((reading u c v).regs 0 5 ≡ 2) × ((reading u c v).regs 0 3 ≡ 0) × ((reading u c v).regs 0 4 ≡ 0) × ((reading u c v).flags 0 1 ≡ 1) × ((reading u c v).flags 0 2 ≡ 0)
    × ((reading u c v).choice 2 ≡ 1) × ((reading u c v).choice 1 ≡ 0) × ((reading u c v).choice 7 ≡ 0) × ((reading u c v).base 0 1 ≡ 129) ×
    ((reading u c v).base 0 2 ≡ 0)
values = (refl, refl, refl, refl, refl, refl, refl, refl, refl, refl)
