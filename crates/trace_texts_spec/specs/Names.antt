-- What traces call the registers of a machine: as the ABI does, with the names that notes take.
use Rattle.std.specs.Prelude.{ℕ, ◌==◌, List, [], ◌∷◌, ◌++◌, codes, slice_index_or, if◌then◌else◌}
use Rattle.std.specs.Str.{bytes_eq}
use Rattle.word_spec.specs.Texts.{number_text}
use Rattle.machine_spec.specs.StateText.{Layout}

-- names of registers by their numbers, and the letter in front of a number that is another name
pub record Names : Type 0 where
  pub registers : List (List ℕ)
  pub letter : ℕ

-- RV32 (RISC-V Unprivileged ISA 20191213, chapter 25)
unfoldable pub rv_registers : List (List ℕ)
rv_registers =
    codes "zero" ∷ codes "ra" ∷ codes "sp" ∷ codes "gp" ∷ codes "tp" ∷ codes "t0" ∷ codes "t1" ∷ codes "t2" ∷
    codes "s0" ∷ codes "s1" ∷ codes "a0" ∷ codes "a1" ∷ codes "a2" ∷ codes "a3" ∷ codes "a4" ∷ codes "a5" ∷
    codes "a6" ∷ codes "a7" ∷ codes "s2" ∷ codes "s3" ∷ codes "s4" ∷ codes "s5" ∷ codes "s6" ∷ codes "s7" ∷
    codes "s8" ∷ codes "s9" ∷ codes "s10" ∷ codes "s11" ∷ codes "t3" ∷ codes "t4" ∷ codes "t5" ∷ codes "t6" ∷ []

-- ARM (ARM Architecture Reference Manual, section A2.4)
unfoldable pub arm_registers : List (List ℕ)
arm_registers =
    codes "r0" ∷ codes "r1" ∷ codes "r2" ∷ codes "r3" ∷ codes "r4" ∷ codes "r5" ∷ codes "r6" ∷ codes "r7" ∷
    codes "r8" ∷ codes "r9" ∷ codes "r10" ∷ codes "r11" ∷ codes "r12" ∷ codes "sp" ∷ codes "lr" ∷ []

abbrev pub rv_called : Names
rv_called = record { registers = rv_registers; letter = 120 }

abbrev pub arm_called : Names
arm_called = record { registers = arm_registers; letter = 114 }

-- those of the machine of a layout
abbrev pub names_of : Layout → Names
names_of layout = if layout.first == 1 then rv_called else arm_called

-- a register's name
abbrev pub register_name : Names → ℕ → List ℕ
register_name n r = slice_index_or n.registers r []

-- the letter with the number
abbrev pub numbered : Names → ℕ → List ℕ
numbered n r = n.letter ∷ number_text r

-- a register's name, and its other name behind it
abbrev pub register_names : Names → ℕ → List ℕ
register_names n r = if bytes_eq (register_name n r) (numbered n r) then register_name n r else register_name n r ++ codes " " ++ numbered n r
