-- What is said of an expression without its value: its width and weight, that it neither loads nor stores, that it names only the machine's variables, and the
-- flags that it reads.
use Rattle.std.proofs.Common.{◌≡◌, ℕ, zero, suc, ◌+◌, ◌-◌, ◌^◌, ◌<◌, ◌≤◌, ◌==◌, min, nat_lt, nat_le, Bool, true, false, ◌&&◌, refl, ap, ◌∙◌, arith, []}
use Rattle.std.proofs.lemmas.Bool.Decides.{nat_tests}
use Rattle.word_spec.specs.Memory.{Endian}
use Rattle.word_spec.specs.Profiles.{V4}
use Rattle.machine_spec.specs.Arm.{arm}
use Rattle.machine_spec.specs.Bil.{Bits, RRegisters, BilVariable, BinaryOp, Not, CastKind, Expression, Var, Constant, Binary, Unary, Cast, Choose, Extract, Concat, total, size}
use Rattle.machine_spec.specs.Bil as bil
use Rattle.machine_spec.specs.BilMeaning.{Value, Word, Bytes, Stuck, Env, evaluate}
use Rattle.machine_spec.specs.BilTyping.{Has, type_or_fault, result_width, cast_fits, is_width}
use Rattle.machine_spec.specs.BilCounts.{width, op_weight, weight, own_loads, own_stores, own_unknowns, own_memory_choices, own_chosen_stores, names_only, is_own, reads_flag}
use Rattle.machine_spec.specs.BilStores.{stored_by, chosen}
use Rattle.arm_lift_alu.specs.Lifted as lifts

-- the machine's variables
abbrev pub own : Endian → BilVariable → Bool
own m = is_own (arm m V4) RRegisters

-- an expression of n bits that weighs at most w and reads no flag outside a set
pub record IsPlain (n w : ℕ) (r : ℕ → Bool) (e : Expression) : Type 0 where
  pub typed : (at : ℕ) → type_or_fault at e ≡ Has (Bits n)
  pub width : width e ≡ n
  pub weight : weight e ≤ w
  pub loads : total own_loads e ≡ 0
  pub stores : total own_stores e ≡ 0
  pub unknowns : total own_unknowns e ≡ 0
  pub picks : total own_memory_choices e ≡ 0
  pub steady : total own_chosen_stores e ≡ 0
  pub stored : (c : ℕ) (v : Env) → stored_by e c v ≡ []
  pub names : (m : Endian) → names_only e (own m) ≡ true
  pub reads : (f : ℕ) → r f ≡ false → reads_flag f e ≡ false

pub constant_plain : (n v : ℕ) (r : ℕ → Bool) → (is_width n && nat_lt v (2 ^ (min n 64))) ≡ true → IsPlain n 0 r (Constant n v)
constant_plain n v r h = record {
  typed = λ at. rw h refl;
  width = refl;
  weight = omega arith;
  loads = refl;
  stores = refl;
  unknowns = refl;
  picks = refl;
  steady = refl;
  stored = λ c e. refl;
  names = λ m. refl;
  reads = λ f g. refl;
}

pub number_plain : (v : ℕ) (r : ℕ → Bool) → v < 2 ^ 32 → IsPlain 32 0 r (lifts.number v)
number_plain v r h = constant_plain 32 v r (let e : nat_lt v (2 ^ 32) ≡ true = grind (arith, nat_tests) in e)

pub flag_plain : (g : ℕ) (r : ℕ → Bool) → nat_le g 3 ≡ true → ((f : ℕ) → r f ≡ false → (g == f) ≡ false) → IsPlain 1 0 r (lifts.flag g)
flag_plain g r small h = record {
  typed = λ at. refl;
  width = refl;
  weight = omega arith;
  loads = refl;
  stores = refl;
  unknowns = refl;
  picks = refl;
  steady = refl;
  stored = λ c e. refl;
  names = λ m. small;
  reads = h;
}

pub own_register : (q : ℕ) (r : ℕ → Bool) → q < 15 → IsPlain 32 0 r (Var (bil.Register RRegisters q))
own_register q r h = record {
  typed = λ at. refl;
  width = refl;
  weight = omega arith;
  loads = refl;
  stores = refl;
  unknowns = refl;
  picks = refl;
  steady = refl;
  stored = λ c e. refl;
  names = λ m. let e : nat_le q 14 ≡ true = grind (arith, nat_tests) in e;
  reads = λ f g. refl;
}

-- an operator between two words
pub binary_plain : (o : BinaryOp) (n w v u : ℕ) (r : ℕ → Bool) (a b : Expression) → IsPlain n w r a → IsPlain n v r b → (n == n) ≡ true →
    op_weight o n + w + v ≤ u → IsPlain (result_width o n) u r (Binary o a b)
binary_plain o n w v u r a b p q e h = record {
  typed = λ at. rw (p.typed (at + 1), q.typed (at + 1 + size a), e) refl;
  width = ap (result_width o) p.width;
  weight = rw p.width (omega arith);
  loads = omega arith;
  stores = omega arith;
  unknowns = omega arith;
  picks = omega arith;
  steady = omega arith;
  stored = λ c z. rw (p.stored c z, q.stored c z) refl;
  names = λ m. rw (p.names m, q.names m) refl;
  reads = λ f g. rw (p.reads f g, q.reads f g) refl;
}

-- a node over one word that only picks, turns or adds bits
over_plain : (m n w : ℕ) (r : ℕ → Bool) (e a : Expression) → IsPlain n w r a → ((at : ℕ) → type_or_fault at e ≡ Has (Bits m)) → width e ≡ m →
    weight e ≡ 0 + weight a → total own_loads e ≡ 0 + total own_loads a → total own_stores e ≡ 0 + total own_stores a →
    total own_unknowns e ≡ 0 + total own_unknowns a → total own_memory_choices e ≡ 0 + total own_memory_choices a →
    total own_chosen_stores e ≡ 0 + total own_chosen_stores a → ((c : ℕ) (v : Env) → stored_by e c v ≡ stored_by a c v) →
    ((m : Endian) → names_only e (own m) ≡ names_only a (own m)) → ((f : ℕ) → reads_flag f e ≡ reads_flag f a) → IsPlain m w r e
over_plain m n w r e a p t wide weighs loads stores unknowns picks steady stored names flags = record {
  typed = t;
  width = wide;
  weight = let h = p.weight in omega arith;
  loads = let h = p.loads in omega arith;
  stores = let h = p.stores in omega arith;
  unknowns = let h = p.unknowns in omega arith;
  picks = let h = p.picks in omega arith;
  steady = let h = p.steady in omega arith;
  stored = λ c v. stored c v ∙ p.stored c v;
  names = λ m. names m ∙ p.names m;
  reads = λ f g. flags f ∙ p.reads f g;
}

pub not_plain : (n w : ℕ) (r : ℕ → Bool) (a : Expression) → IsPlain n w r a → IsPlain n w r (Unary Not a)
not_plain n w r a p =
    over_plain n n w r (Unary Not a) a p (λ at. rw (p.typed (at + 1)) refl) p.width refl refl refl refl refl refl (λ c v. refl) (λ m. refl) (λ f. refl)

pub cast_plain : (k : CastKind) (m n w : ℕ) (r : ℕ → Bool) (a : Expression) → IsPlain n w r a →
    (cast_fits k m n && is_width m) ≡ true → IsPlain m w r (Cast k m a)
cast_plain k m n w r a p e =
    over_plain m n w r (Cast k m a) a p (λ at. rw (p.typed (at + 1), e) refl) refl refl refl refl refl refl refl (λ c v. refl) (λ m. refl) (λ f. refl)

pub extract_plain : (hi lo n w : ℕ) (r : ℕ → Bool) (a : Expression) → IsPlain n w r a → (nat_le lo hi && nat_lt hi n) ≡ true → hi + 1 - lo ≡ hi - lo + 1 →
    IsPlain (hi - lo + 1) w r (Extract hi lo a)
extract_plain hi lo n w r a p e h =
    over_plain (hi - lo + 1) n w r (Extract hi lo a) a p (λ at. rw (p.typed (at + 1), e) refl) h refl refl refl refl refl refl (λ c v. refl) (λ m. refl)
    (λ f. refl)

-- two words, one above the other
pub concat_plain : (m n w v : ℕ) (r : ℕ → Bool) (a b : Expression) → IsPlain m w r a → IsPlain n v r b → nat_le (m + n) 64 ≡ true →
    IsPlain (m + n) (w + v) r (Concat a b)
concat_plain m n w v r a b p q e = record {
  typed = λ at. rw (p.typed (at + 1), q.typed (at + 1 + size a), e) refl;
  width = let h = p.width in let k = q.width in omega arith;
  weight = let h = p.weight in let k = q.weight in omega arith;
  loads = let h = p.loads in let k = q.loads in omega arith;
  stores = let h = p.stores in let k = q.stores in omega arith;
  unknowns = let h = p.unknowns in let k = q.unknowns in omega arith;
  picks = let h = p.picks in let k = q.picks in omega arith;
  steady = let h = p.steady in let k = q.steady in omega arith;
  stored = λ c z. rw (p.stored c z, q.stored c z) refl;
  names = λ m. rw (p.names m, q.names m) refl;
  reads = λ f g. rw (p.reads f g, q.reads f g) refl;
}

-- the same with room to spare
pub lighter : (n w v : ℕ) (r : ℕ → Bool) (e : Expression) → IsPlain n w r e → w ≤ v → IsPlain n v r e
lighter n w v r e p h = record {
  typed = p.typed;
  width = p.width;
  weight = let g = p.weight in omega arith;
  loads = p.loads;
  stores = p.stores;
  unknowns = p.unknowns;
  picks = p.picks;
  steady = p.steady;
  stored = p.stored;
  names = p.names;
  reads = p.reads;
}

-- no bytes on either side
pub nothing_chosen : (v : Value) → chosen v [] [] ≡ []
nothing_chosen (Word n zero) = refl
nothing_chosen (Word n (suc v)) = refl
nothing_chosen (Bytes m) = refl
nothing_chosen Stuck = refl

-- one of two bits
pub choose_plain : (w v u : ℕ) (r : ℕ → Bool) (t a b : Expression) → IsPlain 1 w r t → IsPlain 1 v r a → IsPlain 1 u r b →
    IsPlain 1 (w + v + u + 1) r (Choose t a b)
choose_plain w v u r t a b o p q = record {
  typed = λ at. rw (o.typed (at + 1), p.typed (at + 1 + size t), q.typed (at + 1 + size t + size a)) refl;
  width = p.width;
  weight = let g = o.weight in let h = p.weight in let k = q.weight in rw p.width (omega arith);
  loads = let g = o.loads in let h = p.loads in let k = q.loads in omega arith;
  stores = let g = o.stores in let h = p.stores in let k = q.stores in omega arith;
  unknowns = let g = o.unknowns in let h = p.unknowns in let k = q.unknowns in omega arith;
  picks = let g = o.picks in let h = p.picks in let k = q.picks in rw p.width (omega arith);
  steady = let g = o.steady in let h = p.steady in let k = q.steady in let i = p.stores in let j = q.stores in omega arith;
  stored = λ c z. rw (o.stored c z, p.stored c z, q.stored c z) (nothing_chosen (evaluate t c z));
  names = λ m. rw (o.names m, p.names m, q.names m) refl;
  reads = λ f g. rw (o.reads f g, p.reads f g, q.reads f g) refl;
}
