-- Terms for a state as those of the definitions.
use Rattle.std.specs.Prelude.{◌≡◌, false, [], length, map}
use Rattle.word_spec.specs.Memory.{Little}
use Rattle.word_spec.specs.RowFiles.{from_to}
use Rattle.term_spec.specs.Passive as walk
use Rattle.walk_spec.specs.Unrolled.{UnrolledProgram}
use Rattle.term_names.specs.declared.names.Names.{Names}

-- the terms
abbrev pub names_of : Names → walk.Names
names_of n = record { registers = map (λ t. t.0) n.registers.items; flags = map (λ t. t.0) n.flags.items; memory = n.memory.0 }

-- the registers and flags that terms are for, as a program without points, of which the definitions of terms ask no more
abbrev pub form_of : Names → UnrolledProgram
form_of n = record {
  endian = Little;
  narrow = false;
  registers = from_to n.first (length n.registers.items);
  flags = length n.flags.items;
  link = 0;
  entry = 0;
  requires = [];
  ensures = [];
  kept = [];
  known = [];
  literals = [];
  points = [];
}

-- the terms are for the registers and flags of a program
pub record AreFor (u : UnrolledProgram) (n : Names) : Type 0 where
  pub registers : u.registers ≡ from_to n.first (length n.registers.items)
  pub flags : u.flags ≡ length n.flags.items
