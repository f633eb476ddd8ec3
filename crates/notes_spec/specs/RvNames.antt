-- What notes call the registers of RV32 (RISC-V Unprivileged ISA 20191213, chapter 25, and the ABI's names).
use Rattle.std.specs.Prelude.{ℕ, List, [], ◌∷◌, Option, Some, None, codes, if◌then◌else◌}
use Rattle.std.specs.Str.{bytes_eq}
use Rattle.bilv_spec.specs.Notes.{Expr, Number, Register, Pc}

-- the register of a name, by a table
abbrev pub name_in : List (List ℕ × Expr) → List ℕ → Option Expr
name_in [] w = None
name_in (n ∷ rest) w = if bytes_eq w n.0 then Some n.1 else name_in rest w

-- the names of the registers
unfoldable pub rv_table : List (List ℕ × Expr)
rv_table =
    (codes "zero", Number 0) ∷ (codes "x0", Number 0) ∷
    (codes "ra", Register 1) ∷ (codes "x1", Register 1) ∷
    (codes "sp", Register 2) ∷ (codes "x2", Register 2) ∷
    (codes "gp", Register 3) ∷ (codes "x3", Register 3) ∷
    (codes "tp", Register 4) ∷ (codes "x4", Register 4) ∷
    (codes "t0", Register 5) ∷ (codes "x5", Register 5) ∷
    (codes "t1", Register 6) ∷ (codes "x6", Register 6) ∷
    (codes "t2", Register 7) ∷ (codes "x7", Register 7) ∷
    (codes "s0", Register 8) ∷ (codes "x8", Register 8) ∷
    (codes "s1", Register 9) ∷ (codes "x9", Register 9) ∷
    (codes "a0", Register 10) ∷ (codes "x10", Register 10) ∷
    (codes "a1", Register 11) ∷ (codes "x11", Register 11) ∷
    (codes "a2", Register 12) ∷ (codes "x12", Register 12) ∷
    (codes "a3", Register 13) ∷ (codes "x13", Register 13) ∷
    (codes "a4", Register 14) ∷ (codes "x14", Register 14) ∷
    (codes "a5", Register 15) ∷ (codes "x15", Register 15) ∷
    (codes "a6", Register 16) ∷ (codes "x16", Register 16) ∷
    (codes "a7", Register 17) ∷ (codes "x17", Register 17) ∷
    (codes "s2", Register 18) ∷ (codes "x18", Register 18) ∷
    (codes "s3", Register 19) ∷ (codes "x19", Register 19) ∷
    (codes "s4", Register 20) ∷ (codes "x20", Register 20) ∷
    (codes "s5", Register 21) ∷ (codes "x21", Register 21) ∷
    (codes "s6", Register 22) ∷ (codes "x22", Register 22) ∷
    (codes "s7", Register 23) ∷ (codes "x23", Register 23) ∷
    (codes "s8", Register 24) ∷ (codes "x24", Register 24) ∷
    (codes "s9", Register 25) ∷ (codes "x25", Register 25) ∷
    (codes "s10", Register 26) ∷ (codes "x26", Register 26) ∷
    (codes "s11", Register 27) ∷ (codes "x27", Register 27) ∷
    (codes "t3", Register 28) ∷ (codes "x28", Register 28) ∷
    (codes "t4", Register 29) ∷ (codes "x29", Register 29) ∷
    (codes "t5", Register 30) ∷ (codes "x30", Register 30) ∷
    (codes "t6", Register 31) ∷ (codes "x31", Register 31) ∷
    (codes "fp", Register 8) ∷ (codes "pc", Pc) ∷ []

-- the names by the table
abbrev pub rv_names : List ℕ → Option Expr
rv_names = name_in rv_table
