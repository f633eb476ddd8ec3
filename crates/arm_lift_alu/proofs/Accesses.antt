-- What is said of a list that loads and stores, beside its end: it is put together from its statements.
use Rattle.std.proofs.Common.{◌≡◌, ℕ, ◌+◌, ◌/◌, ◌<◌, ◌≤◌, Bool, true, false, not, ◌&&◌, ◌||◌, refl, arith, [], None}
use Rattle.std.specs.Prelude.{◌==◌}
use Rattle.word_spec.specs.Memory.{Endian}
use Rattle.machine_spec.specs.Bil.{RRegisters, Mem, Expression, Var, Store, Statements, Empty, Assign, JumpTo, Raise}
use Rattle.machine_spec.specs.Bil as bil
use Rattle.machine_spec.specs.BilMeaning.{Position}
use Rattle.machine_spec.specs.BilTyping.{list_fault, is_load_width}
use Rattle.machine_spec.specs.BilCounts.{list_weight, byte_loads, byte_stores, memory_choices, chosen_stores, unknowns, has_no_loop, has_no_special, nesting, list_names_only, may_assign, reads_within, reads_first, reads_flag}
use Rattle.machine_spec.specs.BilStores.{list_stored}
use Rattle.arm_lift_alu.proofs.Plain.{own, IsPlain, own_register}
use Rattle.arm_lift_alu.proofs.Lists.{then_nothing}
use Rattle.arm_lift_alu.proofs.Fetches.{IsFetch}

-- A list that weighs at most w, loads at most l and stores at most t bytes, and has at most u unknowns. It assigns no flag, and reads none outside a set.
pub record IsAccess (w l t u : ℕ) (r : ℕ → Bool) (list : Statements) : Type 0 where
  pub typed : (at : ℕ) → list_fault at list ≡ None
  pub no_loop : has_no_loop list ≡ true
  pub no_special : has_no_special list ≡ true
  pub nests : nesting list ≤ 1
  pub names : (m : Endian) → list_names_only list (own m) ≡ true
  pub unknowns : unknowns list ≤ u
  pub picks : memory_choices list ≡ 0
  pub steady : chosen_stores list ≡ 0
  pub weight : list_weight list ≤ w
  pub loads : byte_loads list ≤ l
  pub stores : byte_stores list ≤ t
  pub assigns : (f : ℕ) → may_assign f list ≡ false
  pub reads : (f : ℕ) (a i : Bool) → (r f ≡ true → a ≡ true) → reads_within f a i list ≡ true
  pub reads_first : (f : ℕ) → reads_first f false list ≡ true
  pub stored : t ≡ 0 → (c : ℕ) (s : Position) → list_stored list c s ≡ []

pub empty_access : (r : ℕ → Bool) → IsAccess 0 0 0 0 r Empty
empty_access r = record {
  typed = λ at. refl;
  no_loop = refl;
  no_special = refl;
  nests = omega arith;
  names = λ m. refl;
  unknowns = omega arith;
  picks = refl;
  steady = refl;
  weight = omega arith;
  loads = omega arith;
  stores = omega arith;
  assigns = λ f. refl;
  reads = λ f a i h. refl;
  reads_first = λ f. refl;
  stored = λ z c s. refl;
}

pub raise_access : (n : ℕ) (r : ℕ → Bool) → IsAccess 4 0 0 0 r (Raise n Empty)
raise_access n r = record {
  typed = λ at. refl;
  no_loop = refl;
  no_special = refl;
  nests = omega arith;
  names = λ m. refl;
  unknowns = omega arith;
  picks = refl;
  steady = refl;
  weight = omega arith;
  loads = omega arith;
  stores = omega arith;
  assigns = λ f. refl;
  reads = λ f a i h. refl;
  reads_first = λ f. refl;
  stored = λ z c s. refl;
}

-- the same with room to spare
pub spare : (w l t u v k s z : ℕ) (r : ℕ → Bool) (list : Statements) → IsAccess w l t u r list → w ≤ v → l ≤ k → t ≤ s → u ≤ z → IsAccess v k s z r list
spare w l t u v k s z r list p f g h i = record {
  typed = p.typed;
  no_loop = p.no_loop;
  no_special = p.no_special;
  nests = p.nests;
  names = p.names;
  unknowns = let x = p.unknowns in omega arith;
  picks = p.picks;
  steady = p.steady;
  weight = let x = p.weight in omega arith;
  loads = let x = p.loads in omega arith;
  stores = let x = p.stores in omega arith;
  assigns = p.assigns;
  reads = p.reads;
  reads_first = p.reads_first;
  stored = λ z. p.stored (omega arith);
}

-- a read that is allowed
allowed : (b r a x : Bool) → (r ≡ false → b ≡ false) → (r ≡ true → a ≡ true) → (not b || a || x) ≡ true
allowed b true a x h k = rw (k refl) (any b)
  where
    any : (b : Bool) → (not b || true || x) ≡ true
    any true = refl
    any false = refl
allowed b false a x h k = rw (h refl) refl

pub allowed_test : (b r a : Bool) → (r ≡ false → b ≡ false) → (r ≡ true → a ≡ true) → (not b || a) ≡ true
allowed_test b true a h k = rw (k refl) (any b)
  where
    any : (b : Bool) → (not b || true) ≡ true
    any true = refl
    any false = refl
allowed_test b false a h k = rw (h refl) refl

-- a register takes a value
pub register_access : (q v w l k t u z x : ℕ) (r : ℕ → Bool) (e : Expression) (rest : Statements) → q < 15 → IsFetch 32 v l u r e → IsAccess w k t z r rest →
    64 + v + w ≤ x → IsAccess x (l + k) t (u + z) r (Assign (bil.Register RRegisters q) e rest)
register_access q v w l k t u z x r e rest small p s h = record {
  typed = λ at. rw (p.typed (at + 1)) (s.typed _);
  no_loop = s.no_loop;
  no_special = s.no_special;
  nests = s.nests;
  names = λ m. rw ((own_register q r small).names m, p.names m) (s.names m);
  unknowns = let i = p.unknowns in let j = s.unknowns in omega arith;
  picks = let i = p.picks in let j = s.picks in omega arith;
  steady = let i = p.steady in let j = s.steady in omega arith;
  weight = let i = p.weight in let j = s.weight in omega arith;
  loads = let i = p.loads in let j = s.loads in omega arith;
  stores = let i = p.stores in let j = s.stores in omega arith;
  assigns = s.assigns;
  reads = λ f a i g. rw (allowed (reads_flag f e) (r f) a (i && false) (p.reads f) g) (s.reads f a i g);
  reads_first = s.reads_first;
  stored = λ e c b. rw (p.stored c b.env) (then_nothing _ (list_stored rest c) (s.stored e c));
}

-- a jump
pub jump_access : (v w l k t u z x : ℕ) (r : ℕ → Bool) (e : Expression) (rest : Statements) → IsFetch 32 v l u r e → IsAccess w k t z r rest → 64 + v + w ≤ x →
    IsAccess x (l + k) t (u + z) r (JumpTo e rest)
jump_access v w l k t u z x r e rest p s h = record {
  typed = λ at. rw (p.typed (at + 1)) (s.typed _);
  no_loop = s.no_loop;
  no_special = s.no_special;
  nests = s.nests;
  names = λ m. rw (p.names m) (s.names m);
  unknowns = let i = p.unknowns in let j = s.unknowns in omega arith;
  picks = let i = p.picks in let j = s.picks in omega arith;
  steady = let i = p.steady in let j = s.steady in omega arith;
  weight = let i = p.weight in let j = s.weight in omega arith;
  loads = let i = p.loads in let j = s.loads in omega arith;
  stores = let i = p.stores in let j = s.stores in omega arith;
  assigns = s.assigns;
  reads = λ f a i g. rw (allowed_test (reads_flag f e) (r f) a (p.reads f) g) (s.reads f a i g);
  reads_first = s.reads_first;
  stored = λ e c b. rw (p.stored c b.env) (then_nothing _ (list_stored rest c) (s.stored e c));
}

-- the memory takes a word of n bits at an address
pub store_access : (n v y w l k t u z x : ℕ) (o : Endian) (r : ℕ → Bool) (a e : Expression) (rest : Statements) → IsPlain 32 v r a → IsFetch n y l u r e →
    IsAccess w k t z r rest → v + y + w ≤ x → (n == n) ≡ true → is_load_width n ≡ true → 1 ≤ n / 8 →
    IsAccess x (l + k) (n / 8 + t) (u + z) r (Assign Mem (Store (Var Mem) a o n e) rest)
store_access n v y w l k t u z x o r a e rest p q s h same wide some = record {
  typed = λ at. rw (p.typed _, q.typed _, same, wide) (s.typed _);
  no_loop = s.no_loop;
  no_special = s.no_special;
  nests = s.nests;
  names = λ m. rw (p.names m, q.names m) (s.names m);
  unknowns = let i = p.unknowns in let g = q.unknowns in let j = s.unknowns in omega arith;
  picks = let i = p.picks in let g = q.picks in let j = s.picks in omega arith;
  steady = let i = p.steady in let g = q.steady in let j = s.steady in omega arith;
  weight = let i = p.weight in let g = q.weight in let j = s.weight in omega arith;
  loads = let i = p.loads in let g = q.loads in let j = s.loads in omega arith;
  stores = let i = p.stores in let g = q.stores in let j = s.stores in omega arith;
  assigns = s.assigns;
  reads = λ f b i g.
      rw (allowed (reads_flag f (Store (Var Mem) a o n e)) (r f) b (i && false) (λ none. rw (p.reads f none, q.reads f none) refl) g) (s.reads f b i g);
  reads_first = s.reads_first;
  stored = λ e. absurd (omega arith);
}
