-- What is said of an expression that may load, without its value: its width and weight, the bytes that it loads, its unknowns, that it names only the machine's
-- variables, and the flags that it reads.
use Rattle.std.proofs.Common.{◌≡◌, ℕ, ◌+◌, ◌/◌, ◌≤◌, Bool, true, false, ◌&&◌, refl, ap, arith, []}
use Rattle.std.specs.Prelude.{◌==◌}
use Rattle.word_spec.specs.Memory.{Endian}
use Rattle.machine_spec.specs.Bil.{Bits, Mem, BinaryOp, CastKind, Expression, Var, Load, Binary, Cast, Unknown, Choose, total, size}
use Rattle.machine_spec.specs.BilMeaning.{Env, evaluate}
use Rattle.machine_spec.specs.BilTyping.{Has, type_or_fault, result_width, cast_fits, is_width, is_load_width}
use Rattle.machine_spec.specs.BilCounts.{width, op_weight, weight, own_loads, own_stores, own_unknowns, own_memory_choices, own_chosen_stores, names_only, reads_flag}
use Rattle.machine_spec.specs.BilStores.{stored_by}
use Rattle.arm_lift_alu.proofs.Plain.{own, IsPlain, nothing_chosen}

-- an expression of n bits that weighs at most w, loads at most l bytes, has at most u unknowns, and reads no flag outside a set
pub record IsFetch (n w l u : ℕ) (r : ℕ → Bool) (e : Expression) : Type 0 where
  pub typed : (at : ℕ) → type_or_fault at e ≡ Has (Bits n)
  pub width : width e ≡ n
  pub weight : weight e ≤ w
  pub loads : total own_loads e ≤ l
  pub stores : total own_stores e ≡ 0
  pub unknowns : total own_unknowns e ≤ u
  pub picks : total own_memory_choices e ≡ 0
  pub steady : total own_chosen_stores e ≡ 0
  pub stored : (c : ℕ) (v : Env) → stored_by e c v ≡ []
  pub names : (m : Endian) → names_only e (own m) ≡ true
  pub reads : (f : ℕ) → r f ≡ false → reads_flag f e ≡ false

-- one that loads nothing
pub fetch : (n w : ℕ) (r : ℕ → Bool) (e : Expression) → IsPlain n w r e → IsFetch n w 0 0 r e
fetch n w r e p = record {
  typed = p.typed;
  width = p.width;
  weight = p.weight;
  loads = let h = p.loads in omega arith;
  stores = p.stores;
  unknowns = let h = p.unknowns in omega arith;
  picks = p.picks;
  steady = p.steady;
  stored = p.stored;
  names = p.names;
  reads = p.reads;
}

-- the same with room to spare
pub roomier : (n w l u v k z : ℕ) (r : ℕ → Bool) (e : Expression) → IsFetch n w l u r e → w ≤ v → l ≤ k → u ≤ z → IsFetch n v k z r e
roomier n w l u v k z r e p f g h = record {
  typed = p.typed;
  width = p.width;
  weight = let x = p.weight in omega arith;
  loads = let x = p.loads in omega arith;
  stores = p.stores;
  unknowns = let x = p.unknowns in omega arith;
  picks = p.picks;
  steady = p.steady;
  stored = p.stored;
  names = p.names;
  reads = p.reads;
}

pub load_fetch : (n w : ℕ) (o : Endian) (r : ℕ → Bool) (a : Expression) → IsPlain 32 w r a → is_load_width n ≡ true →
    IsFetch n w (n / 8) 0 r (Load (Var Mem) a o n)
load_fetch n w o r a p e = record {
  typed = λ at. rw (p.typed (at + 1 + 1), e) refl;
  width = refl;
  weight = let h = p.weight in omega arith;
  loads = let h = p.loads in omega arith;
  stores = let h = p.stores in omega arith;
  unknowns = let h = p.unknowns in omega arith;
  picks = let h = p.picks in omega arith;
  steady = let h = p.steady in omega arith;
  stored = p.stored;
  names = p.names;
  reads = p.reads;
}

pub cast_fetch : (k : CastKind) (m n w l u : ℕ) (r : ℕ → Bool) (a : Expression) → IsFetch n w l u r a → (cast_fits k m n && is_width m) ≡ true →
    IsFetch m w l u r (Cast k m a)
cast_fetch k m n w l u r a p e = record {
  typed = λ at. rw (p.typed (at + 1), e) refl;
  width = refl;
  weight = let h = p.weight in omega arith;
  loads = let h = p.loads in omega arith;
  stores = let h = p.stores in omega arith;
  unknowns = let h = p.unknowns in omega arith;
  picks = let h = p.picks in omega arith;
  steady = let h = p.steady in omega arith;
  stored = p.stored;
  names = p.names;
  reads = p.reads;
}

-- an operator between two words
pub binary_fetch : (o : BinaryOp) (n w v l k u z y : ℕ) (r : ℕ → Bool) (a b : Expression) → IsFetch n w l u r a → IsFetch n v k z r b → (n == n) ≡ true →
    op_weight o n + w + v ≤ y → IsFetch (result_width o n) y (l + k) (u + z) r (Binary o a b)
binary_fetch o n w v l k u z y r a b p q e h = record {
  typed = λ at. rw (p.typed (at + 1), q.typed (at + 1 + size a), e) refl;
  width = ap (result_width o) p.width;
  weight = let i = p.weight in let j = q.weight in rw p.width (omega arith);
  loads = let i = p.loads in let j = q.loads in omega arith;
  stores = let i = p.stores in let j = q.stores in omega arith;
  unknowns = let i = p.unknowns in let j = q.unknowns in omega arith;
  picks = let i = p.picks in let j = q.picks in omega arith;
  steady = let i = p.steady in let j = q.steady in omega arith;
  stored = λ c v. rw (p.stored c v, q.stored c v) refl;
  names = λ m. rw (p.names m, q.names m) refl;
  reads = λ f g. rw (p.reads f g, q.reads f g) refl;
}

-- a choice between two words, by a bit that may be unknown
pub choice_fetch : (w v u z : ℕ) (r : ℕ → Bool) (t a b : Expression) → IsFetch 1 w 0 u r t → IsPlain 32 v r a → IsPlain 32 z r b →
    IsFetch 32 (w + v + z + 32) 0 u r (Choose t a b)
choice_fetch w v u z r t a b o p q = record {
  typed = λ at. rw (o.typed (at + 1), p.typed (at + 1 + size t), q.typed (at + 1 + size t + size a)) refl;
  width = p.width;
  weight = let g = o.weight in let h = p.weight in let k = q.weight in rw p.width (omega arith);
  loads = let g = o.loads in let h = p.loads in let k = q.loads in omega arith;
  stores = let g = o.stores in let h = p.stores in let k = q.stores in omega arith;
  unknowns = let g = o.unknowns in let h = p.unknowns in let k = q.unknowns in omega arith;
  picks = let g = o.picks in let h = p.picks in let k = q.picks in rw p.width (omega arith);
  steady = let g = o.steady in let h = p.steady in let k = q.steady in let i = p.stores in let j = q.stores in omega arith;
  stored = λ c x. rw (o.stored c x, p.stored c x, q.stored c x) (nothing_chosen (evaluate t c x));
  names = λ m. rw (o.names m, p.names m, q.names m) refl;
  reads = λ f g. rw (o.reads f g, p.reads f g, q.reads f g) refl;
}

pub unknown_fetch : (r : ℕ → Bool) → IsFetch 1 0 0 1 r (Unknown (Bits 1))
unknown_fetch r = record {
  typed = λ at. refl;
  width = refl;
  weight = omega arith;
  loads = omega arith;
  stores = refl;
  unknowns = omega arith;
  picks = refl;
  steady = refl;
  stored = λ c v. refl;
  names = λ m. refl;
  reads = λ f h. refl;
}
