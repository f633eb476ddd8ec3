-- A parser of expressions that reads from the left to the right.
use Rattle.std.proofs.Common.{◌≡◌, ℕ, zero, suc, ◌≤◌, ◌+◌, arith, List, [], ◌∷◌, Option, Some, None, Bool, true, false, if◌then◌else◌, codes, bytes_eq, nat_lt, ◌==◌, ◌&&◌}
use Rattle.bilv_spec.specs.Notes.{Op, Expr, Number, Memory, Old, Not, Binary, written_out}
use Rattle.word_spec.specs.Tokens.{Token, NumberToken, NameToken, SignToken, BadByte, BadText}
use Rattle.notes_spec.specs.NotesGrammar.{operators, number_at}
use Rattle.notes_spec.specs.Scopes.{Scope, named, may_bind, binding}
use Rattle.notes_spec.proofs.NotesTables.{same_token, line_of, size_of}

-- what to read: an expression of a level, or what goes on behind one
pub data Task : Type 0 where
  Level : ℕ → Task
  Behind : ℕ → Expr → Task

-- what is read: nothing yet, no expression, or one with the tokens that are left
pub data Read : Type 0 where
  Unready : Read
  Fails : Read
  Reads : Expr → List Token → Read

-- and then what is behind it
abbrev pub then_read : Read → (Expr → List Token → Read) → Read
then_read Unready f = Unready
then_read Fails f = Fails
then_read (Reads e ts) f = f e ts

-- a bracket that closes
abbrev pub closed : Token → (Expr → Expr) → Expr → List Token → Read
closed c f e [] = Fails
closed c f e (t ∷ ts) = if same_token t c then Reads (f e) ts else Fails

-- an expression in brackets, where the first one is there
abbrev pub opened_if : (Task → List Token → Read) → Bool → Token → (Expr → Expr) → List Token → Read
opened_if go true c f ts = then_read (go (Level 1) ts) (closed c f)
opened_if go false c f ts = Fails

-- an expression in brackets
abbrev pub opened : (Task → List Token → Read) → Token → Token → (Expr → Expr) → List Token → Read
opened go o c f [] = Fails
opened go o c f (t ∷ ts) = opened_if go (same_token t o) c f ts

-- a name
abbrev pub named_at : Option Expr → List Token → Read
named_at None ts = Fails
named_at (Some e) ts = Reads e ts

-- behind a name and two numbers, where they may stand in an `all` or not
abbrev pub all_if : (Task → List Token → Read) → Bool → (low high : ℕ) → List Token → Read
all_if go true low high ts = opened go (SignToken (codes "(")) (SignToken (codes ")")) (λ e. written_out low high e) ts
all_if go false low high ts = Fails

abbrev pub all_with : Scope → (Task → List Token → Read) → List ℕ → Option ℕ → Option ℕ → List Token → Read
all_with s go w (Some low) (Some high) ts = all_if go (may_bind s w low high) low high ts
all_with s go w (Some low) None ts = Fails
all_with s go w None high ts = Fails

-- behind `all`: a name, two numbers, and an expression in brackets, in which the name is bound
abbrev pub all_numbers : Scope → (Task → List Token → Read) → List ℕ → List Token → Read
all_numbers s go w [] = Fails
all_numbers s go w (b ∷ []) = Fails
all_numbers s go w (b ∷ c ∷ ts) = all_with s go w (number_at s b) (number_at s c) ts

abbrev pub all_at : Scope → (inner : List ℕ → Task → List Token → Read) → List Token → Read
all_at s inner [] = Fails
all_at s inner (NameToken w ∷ ts) = all_numbers s (inner w) w ts
all_at s inner (NumberToken n ∷ ts) = Fails
all_at s inner (SignToken w ∷ ts) = Fails
all_at s inner (BadByte ∷ ts) = Fails
all_at s inner (BadText ∷ ts) = Fails

-- a word: of a load of some size, `old`, `all`, or a name
abbrev pub word_at : Scope → (Task → List Token → Read) → (inner : List ℕ → Task → List Token → Read) → ℕ → (is_old is_all : Bool) → List ℕ → List Token → Read
word_at names go inner zero false false w ts = named_at (named names w) ts
word_at names go inner zero false true w ts = all_at names inner ts
word_at names go inner zero true is_all w ts = opened go (SignToken (codes "(")) (SignToken (codes ")")) (λ e. Old e) ts
word_at names go inner (suc k) is_old is_all w ts = opened go (SignToken (codes "[")) (SignToken (codes "]")) (λ e. Memory (suc k) e) ts

-- what stands alone or in brackets
abbrev pub atom_at : Scope → (Task → List Token → Read) → (inner : List ℕ → Task → List Token → Read) → List Token → Read
atom_at names go inner [] = Fails
atom_at names go inner (NumberToken n ∷ ts) = Reads (Number n) ts
atom_at names go inner (NameToken w ∷ ts) =
    word_at names go inner (size_of w) (bytes_eq w (codes "old")) (names.is_second && bytes_eq w (codes "all")) w ts
atom_at names go inner (SignToken s ∷ ts) = opened go (SignToken (codes "(")) (SignToken (codes ")")) (λ e. e) (SignToken s ∷ ts)
atom_at names go inner (BadByte ∷ ts) = Fails
atom_at names go inner (BadText ∷ ts) = Fails

-- level 3, where `not` is first or another token
abbrev pub negated_if : (Task → List Token → Read) → Bool → Token → List Token → Read
negated_if go true t ts = then_read (go (Level 3) ts) (λ e us. Reads (Not e) us)
negated_if go false t ts = go (Level 4) (t ∷ ts)

-- level 3
abbrev pub negated_at : (Task → List Token → Read) → List Token → Read
negated_at go [] = Fails
negated_at go (t ∷ ts) = negated_if go (same_token t (NameToken (codes "not"))) t ts

-- how a level is read
pub data Sort : Type 0 where
  Negation : Sort
  Tightest : Sort
  Chains : Sort
  NoLevel : Sort

-- by its number
abbrev pub sort : ℕ → Sort
sort l = if l == 3 then Negation else if l == 11 then Tightest else if nat_lt l 11 then Chains else NoLevel

-- an expression of a level
abbrev pub level_at : Scope → (Task → List Token → Read) → (inner : List ℕ → Task → List Token → Read) → Sort → ℕ → List Token → Read
level_at names go inner Negation l ts = negated_at go ts
level_at names go inner Tightest l ts = atom_at names go inner ts
level_at names go inner NoLevel l ts = Fails
level_at names go inner Chains l ts = then_read (go (Level (l + 1)) ts) (λ a us. go (Behind l a) us)

-- the operator of a level
abbrev pub of_level : Option (ℕ × Op) → ℕ → Option Op
of_level None l = None
of_level (Some o) l = if o.0 == l then Some o.1 else None

-- comparisons are not chained, the other operators are
abbrev pub again : (Task → List Token → Read) → Bool → ℕ → Expr → List Token → Read
again go true l a ts = Reads a ts
again go false l a ts = go (Behind l a) ts

-- behind an expression, where its operator is there or is not
abbrev pub behind_by : (Task → List Token → Read) → ℕ → Expr → Option Op → Token → List Token → Read
behind_by go l a None t ts = Reads a (t ∷ ts)
behind_by go l a (Some op) t ts = then_read (go (Level (l + 1)) ts) (λ b us. again go (l == 4) l (Binary op a b) us)

-- behind an expression
abbrev pub behind_at : (Task → List Token → Read) → ℕ → Expr → List Token → Read
behind_at go l a [] = Reads a []
behind_at go l a (t ∷ ts) = behind_by go l a (of_level (line_of operators t) l) t ts

-- one step, by what the steps after it give, in this scope and within an `all`
abbrev pub step : Scope → (Task → List Token → Read) → (inner : List ℕ → Task → List Token → Read) → Task → List Token → Read
step names go inner (Level l) ts = level_at names go inner (sort l) l ts
step names go inner (Behind l a) ts = behind_at go l a ts

-- what is read within so many steps
abbrev pub work : Scope → ℕ → Task → List Token → Read
work names zero task ts = Unready
work names (suc n) task ts = step names (work names n) (λ w. work (binding names w) n) task ts

-- one step behind so many
abbrev pub step_of : Scope → ℕ → Task → List Token → Read
step_of names m task ts = step names (work names m) (λ w. work (binding names w) m) task ts

-- from some number of steps on this is read
abbrev pub Ends : Scope → Task → List Token → Read → Type 0
Ends names task ts r = (n : ℕ) × ((m : ℕ) → n ≤ m → work names m task ts ≡ r)

-- what a step gives from some number of steps on
pub from_step : (names : Scope) (n : ℕ) (task : Task) (ts : List Token) (r : Read) → ((m : ℕ) → n ≤ m → step_of names m task ts ≡ r) →
    (m : ℕ) → suc n ≤ m → work names m task ts ≡ r
from_step names n task ts r each zero le = absurd (omega (arith, le))
from_step names n task ts r each (suc m) le = each m (omega (arith, le))

pub by_step : (names : Scope) (n : ℕ) (task : Task) (ts : List Token) (r : Read) → ((m : ℕ) → n ≤ m → step_of names m task ts ≡ r) →
    Ends names task ts r
by_step names n task ts r each = (suc n, λ m le. from_step names n task ts r each m le)

-- all tokens are one expression
abbrev pub all_read : Read → Option Expr
all_read Unready = None
all_read Fails = None
all_read (Reads e []) = Some e
all_read (Reads e (t ∷ ts)) = None

-- enough steps were made
abbrev pub is_ready : Read → Bool
is_ready Unready = false
is_ready Fails = true
is_ready (Reads e ts) = true
