-- What is said of a word that is loaded and rotated, without its value.
use Rattle.std.proofs.Common.{◌≡◌, ℕ, ◌+◌, Bool, true, false, ◌&&◌, ◌||◌, refl, arith, List, [], Option, Some, None}
use Rattle.word_spec.specs.Memory.{Endian}
use Rattle.machine_spec.specs.Bil.{BilVariable, Mem, Local, Expression, Var, Constant, Load, Store, Binary, Unary, Cast, Let, Unknown, Choose, Extract, Concat}
use Rattle.machine_spec.specs.BilMeaning.{Env, assign, evaluate}
use Rattle.machine_spec.specs.BilCounts.{names_only, is_local}
use Rattle.machine_spec.specs.BilStores.{stored_in}
use Rattle.arm_lift_alu.proofs.Plain.{own, IsPlain}
use Rattle.arm_lift_alu.proofs.Fetches.{IsFetch}
use Rattle.arm_lift_mem.specs.Accesses.{word}

both : (a b c d : Bool) → (a ≡ true → c ≡ true) → (b ≡ true → d ≡ true) → (a && b) ≡ true → (c && d) ≡ true
both true true c d f g h = rw (f refl, g refl) refl
both true false c d f g h = cc
both false b c d f g h = cc

-- a set of variables is within another
abbrev IsWithin : (BilVariable → Bool) → (BilVariable → Bool) → Type 0
IsWithin k j = (x : BilVariable) → k x ≡ true → j x ≡ true

bound_too : (x n : ℕ) (k j : BilVariable → Bool) → IsWithin k j → IsWithin (λ y. is_local x n y || k y) (λ y. is_local x n y || j y)
bound_too x n k j h y = by (is_local x n y)
  where
    by : (b : Bool) → (b || k y) ≡ true → (b || j y) ≡ true
    by true e = refl
    by false e = h y e

-- what names only known variables does so where more are known
pub names_more : (e : Expression) (k j : BilVariable → Bool) → IsWithin k j → names_only e k ≡ true → names_only e j ≡ true
names_more (Var x) k j h = h x
names_more (Constant n v) k j h = λ t. t
names_more (Load m a o n) k j h = both _ _ _ _ (names_more m k j h) (names_more a k j h)
names_more (Store m a o n v) k j h = both _ _ _ _ (both _ _ _ _ (names_more m k j h) (names_more a k j h)) (names_more v k j h)
names_more (Binary o a b) k j h = both _ _ _ _ (names_more a k j h) (names_more b k j h)
names_more (Unary o a) k j h = names_more a k j h
names_more (Cast c n a) k j h = names_more a k j h
names_more (Let x n a b) k j h =
    both _ _ _ _ (names_more a k j h) (names_more b (λ y. is_local x n y || k y) (λ y. is_local x n y || j y) (bound_too x n k j h))
names_more (Unknown t) k j h = λ e. e
names_more (Choose t a b) k j h = both _ _ _ _ (both _ _ _ _ (names_more t k j h) (names_more a k j h)) (names_more b k j h)
names_more (Extract hi lo a) k j h = names_more a k j h
names_more (Concat a b) k j h = both _ _ _ _ (names_more a k j h) (names_more b k j h)

with_local : (x n : ℕ) (k : BilVariable → Bool) → IsWithin k (λ y. is_local x n y || k y)
with_local x n k y h = by (is_local x n y)
  where
    by : (b : Bool) → (b || k y) ≡ true
    by true = refl
    by false = h

nothing_in : (o : Option Env) (f : Env → List ℕ) → ((v : Env) → f v ≡ []) → stored_in o f ≡ []
nothing_in None f h = refl
nothing_in (Some v) f h = h v

-- the word at a place, rotated
pub word_fetch : (w v : ℕ) (o : Endian) (r : ℕ → Bool) (a n : Expression) → IsPlain 32 w r a → IsPlain 64 v r n → IsFetch 32 (w + v + 512) 4 0 r (word o a n)
word_fetch w v o r a n p q = record {
  typed = λ at. rw (p.typed _, q.typed _) refl;
  width = refl;
  weight = let i = p.weight in let j = q.weight in omega arith;
  loads = let i = p.loads in let j = q.loads in omega arith;
  stores = let i = p.stores in let j = q.stores in omega arith;
  unknowns = let i = p.unknowns in let j = q.unknowns in omega arith;
  picks = let i = p.picks in let j = q.picks in omega arith;
  steady = let i = p.steady in let j = q.steady in omega arith;
  stored = λ c e. rw (p.stored c e) (nothing_in (assign (Local 0 32) (evaluate (Load (Var Mem) a o 32) c e) e) _ (λ x. q.stored c x));
  names = λ m. rw (p.names m) (names_more n (own m) (λ y. is_local 0 32 y || own m y) (with_local 0 32 (own m)) (q.names m));
  reads = λ f g. rw (p.reads f g, q.reads f g) refl;
}
