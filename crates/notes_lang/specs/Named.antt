-- What names stand for, as definitions see it.
use Rattle.std.specs.Prelude.{ℕ, List, Option}
use Rattle.std.specs.Borrow.{Bor}
use Rattle.bilv_spec.specs.Notes as notes
use Rattle.notes_spec.specs.RvNames.{rv_names}
use Rattle.notes_spec.specs.ArmNames.{arm_names}
use Rattle.notes_spec.specs.Scopes as scopes
use Rattle.notes_lang.specs.declared.names.Meaning.{Meaning}
use Rattle.notes_lang.specs.declared.names.Meaning.TheVariants as meaning
use Rattle.notes_lang.specs.declared.names.Names.{Names}
use Rattle.notes_lang.specs.declared.names.Names.TheVariants.{Rv32, Arm}
use Rattle.notes_lang.specs.declared.names.Vocabulary.{Vocabulary}
use Rattle.notes_lang.specs.declared.notes.Dialect.{Dialect}
use Rattle.notes_lang.specs.declared.notes.Dialect.TheVariants as dialect

-- what a name stands for
abbrev pub meaning_of : Meaning → notes.Expr
meaning_of (meaning.Number n) = notes.Number n
meaning_of (meaning.Register r) = notes.Register r
meaning_of (meaning.Flag f) = notes.Flag f
meaning_of meaning.Pc = notes.Pc
meaning_of meaning.Bound = notes.Bound

-- a row of a table
abbrev pub named_of : Bor (List ℕ) × Meaning → List ℕ × notes.Expr
named_of row = (row.0.now, meaning_of row.1)

-- the names of a machine's registers and flags
abbrev pub names_of : Names → List ℕ → Option notes.Expr
names_of Rv32 = rv_names
names_of Arm = arm_names

-- which lines of invariants and contracts there may be
abbrev pub dialect_of : Dialect → scopes.Dialect
dialect_of dialect.Plain = scopes.Plain
dialect_of dialect.Framed = scopes.Framed
dialect_of dialect.Paired = scopes.Paired

-- the vocabulary of a machine
abbrev pub vocabulary_of : Vocabulary → scopes.Vocabulary
vocabulary_of v = record { names = names_of v.names; narrow = v.narrow; dialect = dialect_of v.dialect }
