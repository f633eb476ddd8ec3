-- Live flags: the assignments of flags that some static path reads.
use Rattle.std.specs.Prelude.{ℕ, ◌≡◌, ◌==◌, ◌&&◌, ◌||◌, Bool, true, false, Option, Some, None}
use Rattle.std.specs.List.{list_any}
use Rattle.machine_spec.specs.Machine.{Row}
use Rattle.bilv_spec.specs.Notes.{Expr, Number, Register, Flag, Pc, Bound, Memory, Old, Not, Binary}
use Rattle.bilv_spec.specs.Run.{Program}
use Rattle.bilv_spec.specs.Points.{file_row}
use Rattle.bilv_spec.specs.Graph.{may_return, LeadsTo}

-- an expression names a flag outside old
abbrev pub names_flag : ℕ → Expr → Bool
names_flag f (Flag g) = g == f
names_flag f (Memory n e) = names_flag f e
names_flag f (Not e) = names_flag f e
names_flag f (Binary op a b) = names_flag f a || names_flag f b
names_flag f (Old e) = false
names_flag f (Number n) = false
names_flag f (Register r) = false
names_flag f Pc = false
names_flag f Bound = false

-- the row reads the flag
abbrev pub reads_by : ℕ → Option Row → Bool
reads_by f None = false
reads_by f (Some row) = row.flags.reads f

-- the row may assign the flag
abbrev pub assigns_by : ℕ → Option Row → Bool
assigns_by f None = false
assigns_by f (Some row) = row.flags.assigns f

-- the row surely assigns the flag; a run does not go on behind an address without a row
abbrev pub surely_by : ℕ → Option Row → Bool
surely_by f None = true
surely_by f (Some row) = row.flags.surely f

-- an assert line at the address names the flag
abbrev pub asserts_flag : Program → ℕ → ℕ → Bool
asserts_flag p f a = list_any (λ x. (x.at == a) && names_flag f x.says) p.notes.asserts

-- the flag is asked for at the exit: by itself, or as an ensure line names it
abbrev pub ensures_flag : Program → ℕ → Bool
ensures_flag p f = p.out f || list_any (λ l. names_flag f l.says) p.notes.ensures

mutual
  -- the flag is read from an address on before it is surely assigned
  pub data IsRead (p : Program) (f : ℕ) : ℕ → Type 0 where
    by_assert : {a : ℕ} → asserts_flag p f a ≡ true → IsRead p f a
    by_row : {a : ℕ} → reads_by f (file_row p a) ≡ true → IsRead p f a
    later : {a : ℕ} → surely_by f (file_row p a) ≡ false → IsReadAfter p f a → IsRead p f a

  -- the flag is read after the row at an address, before it is surely assigned again
  pub data IsReadAfter (p : Program) (f : ℕ) : ℕ → Type 0 where
    on_path : {a b : ℕ} → LeadsTo p a b → IsRead p f b → IsReadAfter p f a
    at_exit : {a : ℕ} → may_return p a ≡ true → ensures_flag p f ≡ true → IsReadAfter p f a

-- the assignment of a flag at an address is live: some static path reads the flag before it is assigned again
pub record IsLive (p : Program) (f a : ℕ) : Type 0 where
  pub assigns : assigns_by f (file_row p a) ≡ true
  pub read : IsReadAfter p f a
