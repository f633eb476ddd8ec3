-- What becomes of watches, and of clauses that have none.
use Rattle.std.specs.Prelude.{◌≡◌, ℕ, ◌<◌, ◌-◌, ◌*◌, ◌⊎◌, Bool, true, false, List, [], Some, slice_get, slice_index_or, length, nat_eq}
use Rattle.std.specs.List.{IsDistinct}
use Rattle.clause_spec.specs.Clauses.{Literal, Clause, same, opposite, has, AreOnVariables}
use Rattle.clause_spec.specs.UnitPropagation.{Includes}
use Rattle.sat_core.specs.Steps.{IsConflictAt}
use Rattle.sat_core.specs.Links.{place, watched_at, among, AreKept, IsChain, IsLinked, IsPlaced}
use Rattle.sat_core.specs.declared.visit.Move.{Move}
use Rattle.sat_core.specs.declared.visit.Move.TheVariants.{To, Conflict}

-- the clause at a place has the literal
abbrev pub HasAt : List Clause → ℕ → Literal → Type 0
HasAt cs k l = (c : Clause) × (slice_get cs k ≡ Some c) × (has c l ≡ true)

-- The literal to which a watch goes from a literal that is false, which may be its own. Where it is false in some set of literals that are true, the other
-- watched
-- literal is true: now, and in each set of which that was said before.
pub record IsTarget (cs : List Clause) (owner : ℕ) (watched : List Literal) (other : Literal) (h : Literal → Bool) (size : ℕ) (target : Literal) : Type 0 where
  pub room : place target < 2 * size
  pub inside : (c : Clause) → slice_get cs owner ≡ Some c → has c target ≡ true
  pub apart : same target other ≡ false
  pub kept : (d : Literal → Bool) → Includes d h → d (opposite target) ≡ true → h other ≡ true
  pub cuts : (d k : Literal → Bool) → Includes d h → AreKept watched [] d k → d (opposite target) ≡ true → k other ≡ true

-- what becomes of a watch of the clause at the place `owner`
abbrev pub IsMoved : List Clause → (owner : ℕ) → List Literal → Literal → (Literal → Bool) → ℕ → Move → Type 0
IsMoved cs owner watched other h size (To target) = IsTarget cs owner watched other h size target
IsMoved cs owner watched other h size (Conflict k) = IsConflictAt cs h k

-- a list that was detached, from one of its watches on
pub record IsDetached (heads links : List ℕ) (watched : List Literal) (from p : ℕ) : Type 0 where
  pub rest : List ℕ
  pub chained : IsChain links from rest
  pub distinct : IsDistinct nat_eq rest
  pub linked : IsLinked heads links watched rest
  pub listed : (n : ℕ) → among rest n ≡ true → place (watched_at watched n) ≡ p

-- all literals of the clause are the same
abbrev pub IsShort : Clause → Type 0
IsShort c = (l m : Literal) → has c l ≡ true → has c m ≡ true → l ≡ m

-- a number of the list
abbrev pub IsIn : List ℕ → ℕ → Type 0
IsIn ns k = (j : ℕ) × (j < length ns) × (slice_index_or ns j 0 ≡ k)

-- each clause has watches, or is short
pub record AreCovered (cs : List Clause) (owners short : List ℕ) : Type 0 where
  pub covered : (k : ℕ) → k < length cs → IsIn short k ⊎ IsIn owners k
  pub shorts : (j : ℕ) → j < length short → (c : Clause) × (slice_get cs (slice_index_or short j 0) ≡ Some c) × IsShort c

-- a literal of the clause at the place is true
abbrev pub IsMetAt : List Clause → (Literal → Bool) → ℕ → Type 0
IsMetAt cs holds k = (c : Clause) → slice_get cs k ≡ Some c → (l : Literal) × (has c l ≡ true) × (holds l ≡ true)

-- every clause on the list has a literal that is true
abbrev pub AreMet : List Clause → List ℕ → (Literal → Bool) → Type 0
AreMet cs short holds = (j : ℕ) → j < length short → IsMetAt cs holds (slice_index_or short j 0)

-- watches by which clauses can be propagated; size is one more than the number of variables
pub record AreReady (cs : List Clause) (heads links owners short : List ℕ) (watched : List Literal) (size : ℕ) : Type 0 where
  pub over : AreOnVariables (size - 1) cs
  pub heads_size : length heads ≡ 2 * size
  pub linked : IsLinked heads links watched []
  pub placed : IsPlaced cs owners watched
  pub covered : AreCovered cs owners short
