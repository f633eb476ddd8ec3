-- What names stand for.
use Rattle.std.specs.Prelude.{ℕ, ◌≡◌, ◌⊎◌, Bool, true, false, List, Option, Some, None}
use Rattle.std.specs.Borrow.{Bor}
use Rattle.bilv_spec.specs.Notes.{Expr, Pc}
use Rattle.links_lang.specs.declared.links.Named.{Named}
use Rattle.links_lang.specs.declared.links.Named.TheVariants.{Zero, Register, Flag}
use Rattle.links_lang.specs.Views.{named_of}

-- a row of a table; the program counter has names, and is neither a register nor a flag
abbrev pub meaning_of : Option Named → Expr
meaning_of None = Pc
meaning_of (Some x) = named_of x

abbrev pub row_of : Bor (List ℕ) × Option Named → List ℕ × Expr
row_of row = (row.0.now, meaning_of row.1)

-- what a name stands for is this register or flag, or none
abbrev pub IsMeaning : Option Expr → Option Named → Type 0
IsMeaning meaning (Some x) = meaning ≡ Some (named_of x)
IsMeaning meaning None = (meaning ≡ None) ⊎ (meaning ≡ Some Pc)

-- it is a flag
abbrev pub is_flag : Named → Bool
is_flag Zero = false
is_flag (Register r) = false
is_flag (Flag f) = true
