-- Unit propagation, as the least closed set of literals.
use Rattle.std.specs.Prelude.{◌≡◌, Bool, true, not, ◌&&◌, ◌||◌, List, [], ◌∷◌, Contains}
use Rattle.clause_spec.specs.Clauses.{Literal, Clause, same, opposite, has}

-- every literal of the clause but l is false, where holds tells the true ones
abbrev pub others_false : (Literal → Bool) → Literal → Clause → Bool
others_false holds l [] = true
others_false holds l (m ∷ ms) = (same m l || holds (opposite m)) && others_false holds l ms

-- a set of literals (by its test) is closed: where all literals of a clause but one are false, that one is in the set
abbrev pub IsClosed : List Clause → (Literal → Bool) → Type 0
IsClosed cs holds =
    (c : Clause) → Contains cs c → (l : Literal) → has c l ≡ true → others_false holds l c ≡ true → holds l ≡ true

-- one set of literals is part of another
abbrev pub Includes : (Literal → Bool) → (Literal → Bool) → Type 0
Includes some more = (l : Literal) → some l ≡ true → more l ≡ true

-- unit propagation from the literals given gives l: it is in each closed set that includes them
abbrev pub Gives : List Clause → (Literal → Bool) → Literal → Type 0
Gives cs given l = (holds : Literal → Bool) → Includes given holds → IsClosed cs holds → holds l ≡ true

-- unit propagation from the literals given gives a conflict: a clause whose literals it makes all false
abbrev pub Conflicts : List Clause → (Literal → Bool) → Type 0
Conflicts cs given = (c : Clause) × Contains cs c × ((m : Literal) → has c m ≡ true → Gives cs given (opposite m))

-- the negations of a clause's literals
abbrev pub negations : Clause → Literal → Bool
negations c m = has c (opposite m)

-- the negations of a clause's literals but l
abbrev pub negations_but : Clause → Literal → Literal → Bool
negations_but c l m = has c (opposite m) && not (same l (opposite m))

-- the clause follows from the clauses by unit propagation
abbrev pub FollowsByUnits : List Clause → Clause → Type 0
FollowsByUnits cs c = Conflicts cs (negations c)
