-- What is said of a list beside its end: it is put together from its statements.
use Rattle.std.proofs.Common.{◌≡◌, ℕ, suc, ◌+◌, ◌*◌, ◌<◌, ◌≤◌, Bool, true, false, refl, arith, List, [], ◌==◌, None}
use Rattle.word_spec.specs.Memory.{Endian}
use Rattle.machine_spec.specs.Bil.{Bits, BilVariable, Expression, Statements, Empty, Assign, JumpTo, Raise, If, type_of, size, list_size}
use Rattle.machine_spec.specs.BilMeaning.{Position, Ending, Ends, RaisesException, OutOfTurns, Wrong, evaluate}
use Rattle.machine_spec.specs.BilTyping.{list_fault}
use Rattle.machine_spec.specs.BilCounts.{list_weight, byte_loads, byte_stores, memory_choices, chosen_stores, unknowns, has_no_loop, has_no_special, nesting, list_names_only, may_assign, surely_assigns, reads_within, reads_first}
use Rattle.machine_spec.specs.BilStores.{list_stored, then_stored}
use Rattle.arm_lift_alu.proofs.Plain.{own, IsPlain, nothing_chosen}

-- a list that weighs at most w, nests at most d deep and has u unknowns, and neither loads nor stores
pub record IsListed (w d u : ℕ) (list : Statements) : Type 0 where
  pub typed : (at : ℕ) → list_fault at list ≡ None
  pub no_loop : has_no_loop list ≡ true
  pub no_special : has_no_special list ≡ true
  pub nests : nesting list ≤ d
  pub names : (m : Endian) → list_names_only list (own m) ≡ true
  pub unknowns : unknowns list ≡ u
  pub picks : memory_choices list ≡ 0
  pub steady : chosen_stores list ≡ 0
  pub weight : list_weight list ≤ w
  pub loads : byte_loads list ≡ 0
  pub stores : byte_stores list ≡ 0
  pub stored : (c : ℕ) (s : Position) → list_stored list c s ≡ []

pub empty_listed : IsListed 0 0 0 Empty
empty_listed = record {
  typed = λ at. refl;
  no_loop = refl;
  no_special = refl;
  nests = omega arith;
  names = λ m. refl;
  unknowns = refl;
  picks = refl;
  steady = refl;
  weight = omega arith;
  loads = refl;
  stores = refl;
  stored = λ c s. refl;
}

pub raise_listed : (n : ℕ) → IsListed 4 0 0 (Raise n Empty)
raise_listed n = record {
  typed = λ at. refl;
  no_loop = refl;
  no_special = refl;
  nests = omega arith;
  names = λ m. refl;
  unknowns = refl;
  picks = refl;
  steady = refl;
  weight = omega arith;
  loads = refl;
  stores = refl;
  stored = λ c s. refl;
}

-- the same with a greater depth
pub shallow : {w u : ℕ} {list : Statements} (d : ℕ) → IsListed w 0 u list → IsListed w d u list
shallow d p = record {
  typed = p.typed;
  no_loop = p.no_loop;
  no_special = p.no_special;
  nests = let h = p.nests in omega arith;
  names = p.names;
  unknowns = p.unknowns;
  picks = p.picks;
  steady = p.steady;
  weight = p.weight;
  loads = p.loads;
  stores = p.stores;
  stored = p.stored;
}

-- nothing is stored afterwards
pub then_nothing : (e : Ending) (f : Position → List ℕ) → ((s : Position) → f s ≡ []) → then_stored e f ≡ []
then_nothing (Ends s) f h = h s
then_nothing (RaisesException n s) f h = refl
then_nothing (OutOfTurns s) f h = refl
then_nothing Wrong f h = refl

-- a variable of n bits takes a value
pub assign_listed : (n w v d u t : ℕ) (r : ℕ → Bool) (x : BilVariable) (e : Expression) (rest : Statements) → IsPlain n v r e → IsListed w d u rest →
    type_of x ≡ Bits n → ((m : Endian) → own m x ≡ true) → (n == n) ≡ true → 2 * n + v + w ≤ t → IsListed t d u (Assign x e rest)
assign_listed n w v d u t r x e rest p q wide known same h = record {
  typed = λ at. rw (p.typed (at + 1), wide, same) (q.typed _);
  no_loop = q.no_loop;
  no_special = q.no_special;
  nests = q.nests;
  names = λ m. rw (known m, p.names m) (q.names m);
  unknowns = let g = p.unknowns in let k = q.unknowns in omega arith;
  picks = let g = p.picks in let k = q.picks in omega arith;
  steady = let g = p.steady in let k = q.steady in omega arith;
  weight = let i = p.weight in let k = q.weight in rw wide (omega arith);
  loads = let g = p.loads in let k = q.loads in omega arith;
  stores = let g = p.stores in let k = q.stores in omega arith;
  stored = λ c s. rw (p.stored c s.env) (then_nothing _ (list_stored rest c) (q.stored c));
}

-- a jump
pub jump_listed : (w v d u t : ℕ) (r : ℕ → Bool) (e : Expression) (rest : Statements) → IsPlain 32 v r e → IsListed w d u rest → 64 + v + w ≤ t →
    IsListed t d u (JumpTo e rest)
jump_listed w v d u t r e rest p q h = record {
  typed = λ at. rw (p.typed (at + 1)) (q.typed _);
  no_loop = q.no_loop;
  no_special = q.no_special;
  nests = q.nests;
  names = λ m. rw (p.names m) (q.names m);
  unknowns = let g = p.unknowns in let k = q.unknowns in omega arith;
  picks = let g = p.picks in let k = q.picks in omega arith;
  steady = let g = p.steady in let k = q.steady in omega arith;
  weight = let i = p.weight in let k = q.weight in omega arith;
  loads = let g = p.loads in let k = q.loads in omega arith;
  stores = let g = p.stores in let k = q.stores in omega arith;
  stored = λ c s. rw (p.stored c s.env) (then_nothing _ (list_stored rest c) (q.stored c));
}

-- one of two lists, and what comes behind
pub if_listed : (v w z y d x j u t : ℕ) (r : ℕ → Bool) (e : Expression) (a b rest : Statements) → IsPlain 1 v r e → IsListed w d x a → IsListed z d j b →
    IsListed y (suc d) u rest →
    4 + v + w + z + y ≤ t → IsListed t (suc d) (x + j + u) (If e a b rest)
if_listed v w z y d x n u t r e a b rest p f g q h = record {
  typed = λ at. rw (p.typed (at + 1), f.typed (at + 1 + size e), g.typed (at + 1 + size e + list_size a)) (q.typed _);
  no_loop = rw (f.no_loop, g.no_loop) q.no_loop;
  no_special = rw (f.no_special, g.no_special) q.no_special;
  nests = let i = f.nests in let j = g.nests in let k = q.nests in omega arith;
  names = λ m. rw (p.names m, f.names m, g.names m) (q.names m);
  unknowns = let h = p.unknowns in let i = f.unknowns in let j = g.unknowns in let k = q.unknowns in omega arith;
  picks = let h = p.picks in let i = f.picks in let j = g.picks in let k = q.picks in omega arith;
  steady = let h = p.steady in let i = f.steady in let j = g.steady in let k = q.steady in omega arith;
  weight = let l = p.weight in let i = f.weight in let j = g.weight in let k = q.weight in omega arith;
  loads = let h = p.loads in let i = f.loads in let j = g.loads in let k = q.loads in omega arith;
  stores = let h = p.stores in let i = f.stores in let j = g.stores in let k = q.stores in omega arith;
  stored = λ c s. rw (p.stored c s.env, f.stored c s, g.stored c s, nothing_chosen (evaluate e c s.env)) (then_nothing _ (list_stored rest c) (q.stored c));
}

-- how a list uses flags: those that it may read before it assigns them, may assign, and surely assigns
pub record IsUsing (read set sure : ℕ → Bool) (list : Statements) : Type 0 where
  pub assigns : (f : ℕ) → f < 4 → may_assign f list ≡ true → set f ≡ true
  pub surely : (f : ℕ) → f < 4 → sure f ≡ true → surely_assigns f list ≡ true
  pub reads : (f : ℕ) (a i : Bool) → f < 4 → (read f ≡ true → a ≡ true) → (sure f ≡ false → i ≡ true) → reads_within f a i list ≡ true
  pub reads_first : (f : ℕ) → f < 4 → reads_first f false list ≡ true
