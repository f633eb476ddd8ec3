-- Learned clauses with their hints.
use Rattle.std.specs.Prelude.{◌≡◌, ℕ, Bool, true, false, not, ◌&&◌, nat_lt, nat_le, List, None, length, map, filter}
use Rattle.std.specs.List.{list_all}
use Rattle.clause_spec.specs.Clauses.{Literal, Clause, same, has}
use Rattle.clause_spec.specs.UnitPropagation.{Conflicts, negations, negations_but}
use Rattle.clause_spec.specs.Refutation.{judge_hints, at_start, is_tautology}
use Rattle.cnf_form.specs.declared.form.Hint.{Hint}
use Rattle.cnf_form.specs.declared.form.Hint.TheVariants.{ById, Negative}
use Rattle.cnf_form.specs.Views.{hint_of}

-- the clause without a literal
abbrev pub others : Clause → Literal → Clause
others c l = filter (λ m. not (same m l)) c

-- the hint names one of the first n clauses
abbrev pub names : ℕ → Hint → Bool
names n (ById i) = nat_lt 0 i && nat_le i n
names n (Negative i) = false

-- the hints lead to a conflict from the negations of the clause's literals
pub record AreHintsOf (cs : List Clause) (c : Clause) (hints : List Hint) : Type 0 where
  pub judged : judge_hints (at_start cs) (negations c) (map hint_of hints) ≡ None
  pub named : list_all (names (length cs)) hints ≡ true

-- the clause follows by its hints, and has only literals of `full`, among them each without which nothing follows
pub record IsKept (cs : List Clause) (full kept : Clause) (hints : List Hint) : Type 0 where
  pub hinted : AreHintsOf cs kept hints
  pub part : (m : Literal) → has kept m ≡ true → has full m ≡ true
  pub plain : is_tautology kept ≡ false
  pub needed : (x : Literal) → has full x ≡ true → (Conflicts cs (negations_but full x) → ⊥) → has kept x ≡ true

-- without the literal nothing follows
abbrev pub IsNeeded : List Clause → Clause → Literal → Type 0
IsNeeded cs kept l = has kept l ≡ true → Conflicts cs (negations_but kept l) → ⊥
