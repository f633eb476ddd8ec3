-- What is known of registers, by lines that are true.
use Rattle.std.specs.Prelude.{ℕ, ◌≡◌, ◌<◌, ◌≤◌, ◌/◌, ◌%◌, ◌^◌, ◌-◌, bit_and, Bool, true, false, ◌||◌, List, slice_index_or}
use Rattle.word_spec.specs.Memory.{Endian}
use Rattle.word_spec.specs.State.{State}
use Rattle.bilv_spec.specs.Notes.{Expr, value, is_true}
use Rattle.walk_spec.specs.Unrolled.{UnrolledProgram}
use Rattle.walk_spec.specs.Prices.{entry_lines}
use Rattle.notes_value.specs.declared.expressions.Expr as declared
use Rattle.notes_value.specs.declared.expressions.Expr.TheVariants as expr
use Rattle.weakest_pre.specs.declared.facts.Known.{Known}
use Rattle.weakest_pre.specs.declared.facts.Runs.{Runs}
use Rattle.weakest_pre.specs.declared.facts.Fact.{Fact}
use Rattle.weakest_pre.specs.Entry.{all_true}

-- A word is as is known: its bits of the mask are those that are given, and it is between the bounds.
pub record IsMet (k : Known) (w : ℕ) : Type 0 where
  pub bits : bit_and w k.mask ≡ k.bits
  pub low : k.low ≤ w
  pub high : w ≤ k.high

-- nothing is known of a word of 32 bits
abbrev pub nothing : Known
nothing = record { mask = 0; bits = 0; low = 0; high = 2 ^ 32 - 1 }

-- what is known of a register, by its number; nothing is known of one behind the list
abbrev pub known_of : List Known → ℕ → Known
known_of ks r = slice_index_or ks r nothing

-- registers hold words of 32 bits
abbrev pub AreWords : (ℕ → ℕ) → Type 0
AreWords regs = (r : ℕ) → regs r < 2 ^ 32

-- registers are as is known
abbrev pub AreMet : List Known → (ℕ → ℕ) → Type 0
AreMet ks regs = (r : ℕ) → IsMet (known_of ks r) (regs r)

-- an expression that is true says it of a register
abbrev pub IsSaid : Expr → Fact → Type 0
IsSaid x f = (e : Endian) (s : State) → AreWords s.regs → is_true (value e x s s) ≡ true → IsMet f.known (s.regs f.register)

-- it is known besides what was
abbrev pub IsLearnt : (old new : List Known) → Fact → Type 0
IsLearnt old new f = (regs : ℕ → ℕ) → AreMet old regs → IsMet f.known (regs f.register) → AreMet new regs

-- what an expression that is true says is known besides what was
abbrev pub IsNoted : (old new : List Known) → Expr → Type 0
IsNoted old new x = (e : Endian) (s : State) → AreWords s.regs → is_true (value e x s s) ≡ true → AreMet old s.regs → AreMet new s.regs

-- and what expressions that are all true say
abbrev pub AreNoted : (old new : List Known) → List Expr → Type 0
AreNoted old new xs = (e : Endian) (s : State) → AreWords s.regs → all_true e xs s ≡ true → AreMet old s.regs → AreMet new s.regs

-- it is known where all lines that are required of the entry state are true
abbrev pub AreFactsOf : UnrolledProgram → List Known → Type 0
AreFactsOf u ks = (s : State) → AreWords s.regs → all_true u.endian (entry_lines u) s ≡ true → AreMet ks s.regs

-- an expression loads memory
abbrev pub has_load : declared.Expr → Bool
has_load (expr.Memory' n p a) = true
has_load (expr.Old' p a) = has_load a
has_load (expr.Not' p a) = has_load a
has_load (expr.Binary' op p a q b) = has_load a || has_load b
has_load (expr.All' low high p a) = has_load a
has_load x = false

-- The bits of a word from a place on are those that are given, and so are so many of its lowest bits.
pub record IsRuns (r : Runs) (w : ℕ) : Type 0 where
  pub above : w / 2 ^ r.place ≡ r.above
  pub below : w % 2 ^ r.count ≡ r.below
