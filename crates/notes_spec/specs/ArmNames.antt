-- What notes call the registers and flags of ARM (ARM Architecture Reference Manual, sections A2.4 and A2.5; fp and ip are names of the procedure call
-- standard).
use Rattle.std.specs.Prelude.{ℕ, List, [], ◌∷◌, Option, codes}
use Rattle.bilv_spec.specs.Notes.{Expr, Register, Flag, Pc}
use Rattle.notes_spec.specs.RvNames.{name_in}

-- r15 and pc are the address of the step
unfoldable pub arm_table : List (List ℕ × Expr)
arm_table =
    (codes "r0", Register 0) ∷ (codes "r1", Register 1) ∷ (codes "r2", Register 2) ∷ (codes "r3", Register 3) ∷
    (codes "r4", Register 4) ∷ (codes "r5", Register 5) ∷ (codes "r6", Register 6) ∷ (codes "r7", Register 7) ∷
    (codes "r8", Register 8) ∷ (codes "r9", Register 9) ∷ (codes "r10", Register 10) ∷ (codes "r11", Register 11) ∷
    (codes "r12", Register 12) ∷ (codes "r13", Register 13) ∷ (codes "r14", Register 14) ∷ (codes "r15", Pc) ∷
    (codes "fp", Register 11) ∷ (codes "ip", Register 12) ∷ (codes "sp", Register 13) ∷ (codes "lr", Register 14) ∷ (codes "pc", Pc) ∷
    (codes "N", Flag 3) ∷ (codes "Z", Flag 2) ∷ (codes "C", Flag 1) ∷ (codes "V", Flag 0) ∷ []

-- the names by the table
abbrev pub arm_names : List ℕ → Option Expr
arm_names = name_in arm_table
