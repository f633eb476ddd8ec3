-- Terms for the variables of an environment.
use Rattle.std.specs.Prelude.{ℕ, ◌≡◌, ◌||◌, Bool, List, [], ◌∷◌, Contains}
use Rattle.machine_spec.specs.Bil.{BilVariable, type_of}
use Rattle.machine_spec.specs.BilTyping.{type_width}
use Rattle.machine_spec.specs.BilCounts.{is_local}
use Rattle.machine_spec.specs.BilMeaning.{Value, Word, Stuck, Env, get, put_local}
use Rattle.term_spec.specs.Terms.{TermReading, TermNode, HasWidth, IsWidth, term_word}
use Rattle.walk_spec.specs.Unrolling.{is_variable_of}
use Rattle.term_spec.specs.Passive.{AreNames, Denotes}
use Rattle.term_names.specs.Views.{form_of, names_of}
use Rattle.term_names.specs.declared.names.Names.{Names}
use Rattle.bil_terms.specs.declared.variables.LocalTerm.{LocalTerm}

-- the known variables with further locals
abbrev pub known_after : (BilVariable → Bool) → List LocalTerm → BilVariable → Bool
known_after known [] = known
known_after known (l ∷ ls) = known_after (λ y. is_local l.number l.width y || known y) ls

-- the variables that have a term
abbrev pub known : Names → List LocalTerm → BilVariable → Bool
known n ls = known_after (is_variable_of (form_of n)) ls

-- the values of locals after further ones; the last of a local counts
abbrev pub values_after : List TermNode → TermReading → (ℕ → ℕ → Value) → List LocalTerm → ℕ → ℕ → Value
values_after nodes x f [] = f
values_after nodes x f (l ∷ ls) = values_after nodes x (put_local l.number l.width (term_word x nodes l.term.0) f) ls

-- the values of locals; a local without a term has none
abbrev pub values : List TermNode → TermReading → List LocalTerm → ℕ → ℕ → Value
values nodes x ls = values_after nodes x (λ y w. Stuck) ls

-- the terms of locals have their widths
abbrev pub AreLocals : List TermNode → List LocalTerm → Type 0
AreLocals nodes ls = (l : LocalTerm) → Contains ls l → IsWidth l.width × HasWidth nodes l.width l.term.0

-- what expressions are read in: terms of the right widths for variables, and a bit that says whether the run comes by
pub record IsScope (nodes : List TermNode) (n : Names) (ls : List LocalTerm) (live : ℕ) : Type 0 where
  pub names : AreNames (form_of n) nodes (names_of n)
  pub locals : AreLocals nodes ls
  pub live_bit : HasWidth nodes 1 live

-- under a reading the terms have the values of an environment
pub record Holds (nodes : List TermNode) (x : TermReading) (n : Names) (ls : List LocalTerm) (v : Env) : Type 0 where
  pub names : Denotes (form_of n) nodes x (names_of n) (record { regs = v.regs; flags = v.flags; mem = v.mem })
  pub locals : v.locals ≡ values nodes x ls

-- the term of a local word, by number and width
pub record IsLocalTerm (nodes : List TermNode) (ls : List LocalTerm) (y w t : ℕ) : Type 0 where
  pub wide : IsWidth w
  pub at : HasWidth nodes w t
  pub value : (x : TermReading) → values nodes x ls y w ≡ Word w (term_word x nodes t)

-- the term of a variable other than the memory
pub record IsVariableTerm (nodes : List TermNode) (n : Names) (ls : List LocalTerm) (y : BilVariable) (t : ℕ) : Type 0 where
  pub wide : IsWidth (type_width (type_of y))
  pub at : HasWidth nodes (type_width (type_of y)) t
  pub value : (x : TermReading) (v : Env) → Holds nodes x n ls v → get y v ≡ Word (type_width (type_of y)) (term_word x nodes t)
