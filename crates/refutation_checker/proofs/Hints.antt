-- Hints under tests of the literals that are true.
use Rattle.std.proofs.Common.{◌≡◌, ℕ, Bool, false, List, ◌∷◌, Option, Some, sym, ap, ◌∙◌, ◌<◌, arith}
use Rattle.std.specs.Prelude.{nat_le}
use Rattle.std.proofs.lemmas.Bool.Decides.{nat_tests}
use Rattle.clause_spec.specs.Clauses.{Literal, Clause}
use Rattle.clause_spec.specs.UnitPropagation.{negations}
use Rattle.clause_spec.specs.Refutation.{Hint, ById, Present, UnitOf, look_of, judge_hints, added, Cause, Known, judge_added, some_above, is_tautology, some_negative}

pub fun_ext : {A B : Type 0} (f g : A → B) → ((x : A) → f x ≡ g x) → f ≡ g
fun_ext f g h = λ i. λ x. h x i

-- a hint whose clause is a unit
pub hint-unit : (p : Present) (h k : Literal → Bool) (i : ℕ) (c : Clause) (l : Literal) (hs : List Hint) → p i ≡ Some c → look_of h c ≡ UnitOf l →
    ((m : Literal) → k m ≡ added l h m) → judge_hints p h (ById i ∷ hs) ≡ judge_hints p k hs
hint-unit p h k i c l hs e u new = rw (e, u) (ap (λ (f : Literal → Bool). judge_hints p f hs) (sym (fun_ext k (added l h) new)))

-- an added clause that none of the earlier causes refuses
pub judged : (n : ℕ) (k : Known) (id : ℕ) (c : Clause) (hs : List Hint) (h : Literal → Bool) (o : Option Cause) → k.last < id → some_above n c ≡ false →
    is_tautology c ≡ false → some_negative hs ≡ false → ((m : Literal) → h m ≡ negations c m) → o ≡ judge_hints k.present h hs → o ≡ judge_added n k id c hs
judged n k id c hs h o low b t g new e = let a : nat_le id k.last
    ≡ false = grind (arith, nat_tests) in rw (a, b, t, g) (e ∙ ap (λ (f : Literal → Bool). judge_hints k.present f hs) (fun_ext h (negations c) new))
