-- What is well typed is never stuck, and each value has its type.
use Rattle.std.proofs.Common.{◌≡◌, ℕ, zero, suc, ◌+◌, ◌-◌, ◌/◌, ◌%◌, ◌^◌, ◌<◌, ◌≤◌, Bool, true, false, Option, Some, None, refl, sym, ap, ◌∙◌, subst, arith}
use Rattle.std.specs.Prelude.{◌==◌, ◌&&◌, ◌||◌, nat_lt, nat_le, if◌then◌else◌, min}
use Rattle.std.proofs.lemmas.Nat.{mod_below, pow_pos, pow-add, mul-add-lt, shr_below}
use Rattle.std.proofs.lemmas.Bool.Decides.{nat_tests}
use Rattle.std.proofs.lemmas.Bool.{eqb-true, eq-eqb}
use Rattle.std.proofs.Math.Nat.{mul_comm, pow-le-pow_right}
use Rattle.machine_spec.proofs.WordBounds.{op_below, neg_below, complement_below, load_below, sign_extend_below, stored_below}
use Rattle.word_spec.specs.Words as words
use Rattle.word_spec.specs.Memory.{Endian}
use Rattle.machine_spec.specs.Bil.{BilType, Bits, Memory, BilVariable, Register, Flag, Mem, Local, BinaryOp, UnaryOp, Negate, Not, CastKind, Low, High, Signed, Unsigned, Expression, Var, Constant, Load, Store, Binary, Unary, Cast, Let, Unknown, Choose, Extract, Concat, type_of, size, list_size, Statements, Empty, Assign, JumpTo, Raise, Special, While, If}
use Rattle.machine_spec.specs.BilTyping.{Typed, TypeFault, fault_in, or_fault, wants, list_fault, Has, Faulty, type_or_fault, of_operand, asks_bits, asks_any, asks_memory, asks_type, asks_fit, is_width, is_load_width, cast_fits, result_width, type_in}
use Rattle.machine_spec.specs.BilMeaning.{Value, Word, Bytes, Stuck, Env, get, put_local, assign, evaluate, binary, unary, cast_to, extract_from, concat_of, choose, load_from, store_to, HoldsVariables, IsOfType, Position, Ending, Ends, RaisesException, OutOfTurns, Wrong, execute, then_do, assigned, jumped, branch_on, spend, loop}
use Rattle.machine_spec.specs.BilCounts.{names_only, list_names_only, is_local}
use Rattle.machine_spec.specs.BilLaws.{TypedIsSound, WellTypedIsSound, EndHolds}

-- what a rule that gave a type found
pub same : {k j : BilType} → Has k ≡ Has j → k ≡ j
same h = cc

pub of_operand_gave : (x : Typed) (rule : BilType → Typed) (k : BilType) → of_operand x rule ≡ Has k → (t : BilType) × (x ≡ Has t) × (rule t ≡ Has k)
of_operand_gave (Has t) rule k h = (t, refl, h)
of_operand_gave (Faulty f) rule k h = cc

pub of_two : (x y : Typed) (rule : BilType → BilType → Typed) (k : BilType) → of_operand x (λ t. of_operand y (λ u. rule t u)) ≡ Has k →
    (t : BilType) × (u : BilType) × (x ≡ Has t) × (y ≡ Has u) × (rule t u ≡ Has k)
of_two (Has t) (Has u) rule k h = (t, u, refl, refl, h)
of_two (Has t) (Faulty f) rule k h = cc
of_two (Faulty f) y rule k h = cc

pub of_three : (x y z : Typed) (rule : BilType → BilType → BilType → Typed) (k : BilType) →
    of_operand x (λ t. of_operand y (λ u. of_operand z (λ w. rule t u w))) ≡ Has k →
    (t : BilType) × (u : BilType) × (w : BilType) × (x ≡ Has t) × (y ≡ Has u) × (z ≡ Has w) × (rule t u w ≡ Has k)
of_three (Has t) y z rule k h = let i = of_two y z (rule t) k h in (t, i.0, i.1, refl, i.2, i.3, i.4)
of_three (Faulty f) y z rule k h = cc

pub if_gave : (b : Bool) (x y : Typed) (k : BilType) → (y ≡ Has k → ⊥) → (if b then x else y) ≡ Has k → (b ≡ true) × (x ≡ Has k)
if_gave true x y k never h = (refl, h)
if_gave false x y k never h = absurd (never h)

pub bits_gave : (at n : ℕ) (t : BilType) (x : Typed) (k : BilType) → asks_bits at n t x ≡ Has k → (t ≡ Bits n) × (x ≡ Has k)
bits_gave at n (Bits m) x k h = let i = if_gave (m == n) x _ k (λ e. cc) h in (ap (λ z. Bits z) (eqb-true m n i.0), i.1)
bits_gave at n Memory x k h = cc

pub any_gave : (at : ℕ) (t : BilType) (rest : ℕ → Typed) (k : BilType) → asks_any at t rest ≡ Has k → (n : ℕ) × (t ≡ Bits n) × (rest n ≡ Has k)
any_gave at (Bits n) rest k h = (n, refl, h)
any_gave at Memory rest k h = cc

pub memory_gave : (at : ℕ) (t : BilType) (x : Typed) (k : BilType) → asks_memory at t x ≡ Has k → (t ≡ Memory) × (x ≡ Has k)
memory_gave at Memory x k h = (refl, h)
memory_gave at (Bits n) x k h = cc

pub type_gave : (at : ℕ) (t u : BilType) (x : Typed) (k : BilType) → asks_type at t u x ≡ Has k → (u ≡ t) × (x ≡ Has k)
type_gave at (Bits n) u x k h = bits_gave at n u x k h
type_gave at Memory u x k h = memory_gave at u x k h

pub fit_gave : (at : ℕ) (b : Bool) (t : BilType) (x : Typed) (k : BilType) → asks_fit at b t x ≡ Has k → (b ≡ true) × (x ≡ Has k)
fit_gave at true t x k h = (refl, h)
fit_gave at false t x k h = cc

pub both : (a b : Bool) → (a && b) ≡ true → (a ≡ true) × (b ≡ true)
both true b h = (refl, h)
both false b h = cc

-- a value of a type, by its form
pub word_of : (n : ℕ) (v : Value) → IsOfType (Bits n) v → (a : ℕ) × (v ≡ Word n a) × (a < 2 ^ n)
word_of n (Word m a) (e, h) = (a, ap (λ z. Word z a) (sym e), h)
word_of n (Bytes m) h = absurd h
word_of n Stuck h = absurd h

pub memory_of : (v : Value) → IsOfType Memory v → (m : ℕ → ℕ) × (v ≡ Bytes m) × ((a : ℕ) → m a < 256)
memory_of (Word n a) h = absurd h
memory_of (Bytes m) h = (m, refl, h)
memory_of Stuck h = absurd h

-- each form keeps types
binary_of : (o : BinaryOp) (x y : Value) (n : ℕ) → IsOfType (Bits n) x → IsOfType (Bits n) y → IsOfType (Bits (result_width o n)) (binary o x y)
binary_of o x y n p q =
    let a = word_of n x p in let b = word_of n y q in
    let t : (n == n) ≡ true = eq-eqb n n refl in
    rw (a.1, b.1, t) (op_below o n a.0 b.0 a.2 b.2)

unary_of : (o : UnaryOp) (x : Value) (n : ℕ) → IsOfType (Bits n) x → IsOfType (Bits n) (unary o x)
unary_of Negate x n p = let a = word_of n x p in rw a.1 (refl, neg_below n a.0)
unary_of Not x n p = let a = word_of n x p in rw a.1 (refl, complement_below n a.0)

cast_of : (q : CastKind) (m n : ℕ) (v : Value) → IsOfType (Bits n) v → cast_fits q m n ≡ true → IsOfType (Bits m) (cast_to q m v)
cast_of Low m n v h f = let a = word_of n v h in rw (a.1, f) (refl, mod_below a.0 (2 ^ m) (pow_pos m))
cast_of High m n v h f =
    let a = word_of n v h in let le : m ≤ n = grind (arith, nat_tests) in
    let e : n ≡ m + (n - m) = omega arith in
    rw (a.1, f) (refl, shr_below a.0 m (n - m) (subst (λ (z : ℕ). a.0 < 2 ^ z) e a.2))
cast_of Signed m n v h f =
    let a = word_of n v h in let le : n ≤ m = grind (arith, nat_tests) in
    rw (a.1, f) (refl, sign_extend_below n m a.0 a.2 le)
cast_of Unsigned m n v h f =
    let a = word_of n v h in let le : n ≤ m = grind (arith, nat_tests) in
    let p : 2 ^ n ≤ 2 ^ m = pow-le-pow_right (omega arith) le in let l = a.2 in
    rw (a.1, f) (refl, omega arith)

width_of_bits : (hi lo : ℕ) → lo ≤ hi → hi + 1 - lo ≡ hi - lo + 1
width_of_bits hi lo h = omega arith

extract_of : (hi lo n : ℕ) (v : Value) → IsOfType (Bits n) v → (nat_le lo hi && nat_lt hi n) ≡ true → IsOfType (Bits (hi - lo + 1)) (extract_from hi lo v)
extract_of hi lo n v h f =
    let a = word_of n v h in
    let le : lo ≤ hi = (let g = (both (nat_le lo hi) (nat_lt hi n) f).0 in grind (arith, nat_tests)) in
    let e = width_of_bits hi lo le in
    let l = mod_below (a.0 / 2 ^ lo) (2 ^ (hi + 1 - lo)) (pow_pos (hi + 1 - lo)) in
    rw (a.1, f) (refl, subst (λ (z : ℕ). words.bits hi lo a.0 < 2 ^ z) e l)

concat_of_types : (n m : ℕ) (u v : Value) → IsOfType (Bits n) u → IsOfType (Bits m) v → IsOfType (Bits (n + m)) (concat_of u v)
concat_of_types n m u v p q =
    let a = word_of n u p in let b = word_of m v q in
    rw (a.1, b.1) (refl, rw (pow-add, mul_comm (2 ^ n) (2 ^ m)) (mul-add-lt a.0 (2 ^ m) b.0 (2 ^ n) a.2 b.2))

choose_of : (k : BilType) (c x y : Value) → IsOfType (Bits 1) c → IsOfType k x → IsOfType k y → IsOfType k (choose c x y)
choose_of k c x y h p q = let a = word_of 1 c h in rw a.1 (one_of a.0 a.2)
  where
    one_of : (b : ℕ) → b < 2 → IsOfType k (choose (Word 1 b) x y)
    one_of zero l = q
    one_of (suc b) l = p

load_of : (o : Endian) (n : ℕ) (m a : Value) → is_load_width n ≡ true → IsOfType Memory m → IsOfType (Bits 32) a → IsOfType (Bits n) (load_from o n m a)
load_of o n m a w p q = let x = memory_of m p in let y = word_of 32 a q in rw (x.1, y.1) (refl, load_below o n x.0 y.0 (eqb-true (n % 8) 0 (both _ _ w).1) x.2)

store_of : (o : Endian) (n : ℕ) (m a v : Value) → IsOfType Memory m → IsOfType (Bits 32) a → IsOfType (Bits n) v → IsOfType Memory (store_to o n m a v)
store_of o n m a v p q r =
    let x = memory_of m p in let y = word_of 32 a q in let z = word_of n v r in
    let t : (n == n) ≡ true = eq-eqb n n refl in
    rw (x.1, y.1, z.1, t) (λ k. stored_below o (n / 8) x.0 y.0 z.0 k (x.2 k))

-- an environment after an assignment
pub below_if : (b : Bool) (x y m : ℕ) → x < m → y < m → (if b then x else y) < m
below_if true x y m p q = p
below_if false x y m p q = q

pub local_if : (b k : Bool) (t : BilType) (u w : Value) → (b ≡ true → IsOfType t u) → (k ≡ true → IsOfType t w) → (b || k) ≡ true →
    IsOfType t (if b then u else w)
local_if true k t u w p q h = p refl
local_if false k t u w p q h = q h

or_right : (b k : Bool) → k ≡ true → (b || k) ≡ true
or_right true k h = refl
or_right false k h = h

pub has_local : (x n a y m : ℕ) → a < 2 ^ n → ((y == x) && (m == n)) ≡ true → IsOfType (Bits m) (Word n a)
has_local x n a y m l h = let e = eqb-true m n (both (y == x) (m == n) h).1 in (e, subst (λ (z : ℕ). a < 2 ^ z) (sym e) l)

pub let_holds : (x n : ℕ) (v : Value) (known : BilVariable → Bool) (e : Env) → HoldsVariables known e → IsOfType (Bits n) v →
    (d : Env) × (assign (Local x n) v e ≡ Some d) × HoldsVariables (λ y. is_local x n y || known y) d
let_holds x n (Word m a) known e h (p, l) = (
  record e { locals = put_local x n a e.locals },
  (rw (eq-eqb m n (sym p)) refl),
  record {
    variable = elim [
      | Register b r ↦ h.variable (Register b r)
      | Flag f ↦ h.variable (Flag f)
      | Mem ↦ h.variable Mem
      | Local y k ↦ local_if ((y == x) && (k == n)) (known (Local y k)) (Bits k) (Word n a) (e.locals y k)
          (has_local x n a y k l) (h.variable (Local y k))
    ];
  },
)
let_holds x n (Bytes m) known e h l = absurd l
let_holds x n Stuck known e h l = absurd l

pub assign_holds : (x : BilVariable) (v : Value) (known : BilVariable → Bool) (e : Env) → HoldsVariables known e → IsOfType (type_of x) v →
    (d : Env) × (assign x v e ≡ Some d) × HoldsVariables known d
assign_holds (Register b r) (Word n a) known e h (p, l) = (
  _,
  (rw (eq-eqb n 32 (sym p)) refl),
  record {
    variable = elim [
      | Register c s ↦ λ k. (refl, below_if (s == r) a (e.regs s) (2 ^ 32) l (h.variable (Register c s) k).1)
      | Flag f ↦ h.variable (Flag f)
      | Mem ↦ h.variable Mem
      | Local y k ↦ h.variable (Local y k)
    ];
  },
)
assign_holds (Register b r) (Bytes m) known e h l = absurd l
assign_holds (Register b r) Stuck known e h l = absurd l
assign_holds (Flag g) (Word n a) known e h (p, l) = (
  _,
  (rw (eq-eqb n 1 (sym p)) refl),
  record {
    variable = elim [
      | Register c s ↦ h.variable (Register c s)
      | Flag f ↦ λ k. (refl, below_if (f == g) a (e.flags f) (2 ^ 1) l (h.variable (Flag f) k).1)
      | Mem ↦ h.variable Mem
      | Local y k ↦ h.variable (Local y k)
    ];
  },
)
assign_holds (Flag g) (Bytes m) known e h l = absurd l
assign_holds (Flag g) Stuck known e h l = absurd l
assign_holds Mem (Word n a) known e h l = absurd l
assign_holds Mem (Bytes m) known e h l = (
  _,
  refl,
  record {
    variable = elim [
      | Register c s ↦ h.variable (Register c s)
      | Flag f ↦ h.variable (Flag f)
      | Mem ↦ λ k. l
      | Local y k ↦ h.variable (Local y k)
    ];
  },
)
assign_holds Mem Stuck known e h l = absurd l
assign_holds (Local x n) v known e h l =
    let d = let_holds x n v known e h l in
    (d.0, d.1, record { variable = λ y k. d.2.variable y (or_right (is_local x n y) (known y) k) })

-- the type of each form
pub sound : (x : Expression) (at : ℕ) (k : BilType) (known : BilVariable → Bool) (e : Env) (c : ℕ) →
    type_or_fault at x ≡ Has k → names_only x known ≡ true → HoldsVariables known e → IsOfType k (evaluate x c e)
sound (Var x) at k known e c d b h =
    let i = fit_gave _ _ _ _ _ d in subst (λ (z : BilType). IsOfType z (get x e)) (same i.1) (h.variable x b)
sound (Constant n v) at k known e c d b h =
    let i = fit_gave _ _ _ _ _ d in
    let w = both (is_width n) (nat_lt v (2 ^ min n 64)) i.0 in
    let s = (both (nat_lt 0 n) (nat_le n 64) w.0).1 in
    let m : min n 64 ≡ n = grind (arith, nat_tests) in
    let y : nat_lt v (2 ^ n) ≡ true = subst (λ (z : ℕ). nat_lt v (2 ^ z) ≡ true) m w.1 in
    let l : v < 2 ^ n = grind (arith, nat_tests) in
    subst (λ (z : BilType). IsOfType z (Word n v)) (same i.1) (refl, l)
sound (Load m a o n) at k known e c d b h =
    let bs = both (names_only m known) (names_only a known) b in
    let i = of_two _ _ _ _ d in
    let f = memory_gave _ _ _ _ i.4 in
    let g = bits_gave _ _ _ _ _ f.1 in
    let w = fit_gave _ _ _ _ _ g.1 in
    let x = sound m _ i.0 known e c i.2 bs.0 h in
    let y = sound a _ i.1 known e c i.3 bs.1 h in
    subst (λ (z : BilType). IsOfType z (load_from o n (evaluate m c e) (evaluate a c e))) (same w.1)
    (load_of o n _ _ w.0 (subst (λ (z : BilType). IsOfType z (evaluate m c e)) f.0 x) (subst (λ (z : BilType). IsOfType z (evaluate a c e)) g.0 y))
sound (Store m a o n v) at k known e c d b h =
    let bs = both (names_only m known && names_only a known) (names_only v known) b in
    let bt = both (names_only m known) (names_only a known) bs.0 in
    let i = of_three _ _ _ _ _ d in
    let f = memory_gave _ _ _ _ i.6 in
    let g = bits_gave _ _ _ _ _ f.1 in
    let u = bits_gave _ _ _ _ _ g.1 in
    let w = fit_gave _ _ _ _ _ u.1 in
    let x = sound m _ i.0 known e c i.3 bt.0 h in
    let y = sound a _ i.1 known e c i.4 bt.1 h in
    let z = sound v _ i.2 known e c i.5 bs.1 h in
    subst (λ (z : BilType). IsOfType z (store_to o n (evaluate m c e) (evaluate a c e) (evaluate v c e))) (same w.1)
    (store_of o n _ _ _ (subst (λ (z : BilType). IsOfType z (evaluate m c e)) f.0 x) (subst (λ (z : BilType). IsOfType z (evaluate a c e)) g.0 y)
    (subst (λ (z : BilType). IsOfType z (evaluate v c e)) u.0 z))
sound (Binary o a q) at k known e c d b h =
    let bs = both (names_only a known) (names_only q known) b in
    let i = of_two _ _ _ _ d in
    let f = any_gave _ _ _ _ i.4 in
    let g = bits_gave _ _ _ _ _ f.2 in
    let x = sound a _ i.0 known e c i.2 bs.0 h in
    let y = sound q _ i.1 known e c i.3 bs.1 h in
    subst (λ (z : BilType). IsOfType z (binary o (evaluate a c e) (evaluate q c e))) (same g.1)
    (binary_of o _ _ f.0 (subst (λ (z : BilType). IsOfType z (evaluate a c e)) f.1 x) (subst (λ (z : BilType). IsOfType z (evaluate q c e)) g.0 y))
sound (Unary o a) at k known e c d b h =
    let i = of_operand_gave _ _ _ d in
    let f = any_gave _ _ _ _ i.2 in
    let x = sound a _ i.0 known e c i.1 b h in
    subst (λ (z : BilType). IsOfType z (unary o (evaluate a c e))) (same f.2)
    (unary_of o _ f.0 (subst (λ (z : BilType). IsOfType z (evaluate a c e)) f.1 x))
sound (Cast q m a) at k known e c d b h =
    let i = of_operand_gave _ _ _ d in
    let f = any_gave _ _ _ _ i.2 in
    let w = fit_gave _ _ _ _ _ f.2 in
    let x = sound a _ i.0 known e c i.1 b h in
    subst (λ (z : BilType). IsOfType z (cast_to q m (evaluate a c e))) (same w.1)
    (cast_of q m f.0 _ (subst (λ (z : BilType). IsOfType z (evaluate a c e)) f.1 x) (both (cast_fits q m f.0) (is_width m) w.0).0)
sound (Let y n a q) at k known e c d b h =
    let bs = both (names_only a known) (names_only q (λ z. is_local y n z || known z)) b in
    let i = of_two _ _ _ _ d in
    let f = bits_gave _ _ _ _ _ i.4 in
    let x = sound a _ i.0 known e c i.2 bs.0 h in
    let p = let_holds y n (evaluate a c e) known e h (subst (λ (z : BilType). IsOfType z (evaluate a c e)) f.0 x) in
    rw p.1 (sound q _ k (λ z. is_local y n z || known z) p.0 c (i.3 ∙ ap (λ z. Has z) (same f.1)) bs.1 p.2)
sound (Unknown (Bits n)) at k known e c d b h =
    let i = fit_gave _ _ _ _ _ d in
    let l : IsOfType (Bits n) (Word n (c % 2 ^ n)) = (refl, mod_below c (2 ^ n) (pow_pos n)) in
    subst (λ (z : BilType). IsOfType z (Word n (c % 2 ^ n))) (same i.1) l
sound (Unknown Memory) at k known e c d b h = cc
sound (Choose t a q) at k known e c d b h =
    let bs = both (names_only t known && names_only a known) (names_only q known) b in
    let bt = both (names_only t known) (names_only a known) bs.0 in
    let i = of_three _ _ _ _ _ d in
    let f = bits_gave _ _ _ _ _ i.6 in
    let g = type_gave _ _ _ _ _ f.1 in
    let w = sound t _ i.0 known e c i.3 bt.0 h in
    let x = sound a _ i.1 known e c i.4 bt.1 h in
    let y = sound q _ i.2 known e c i.5 bs.1 h in
    choose_of k _ _ _ (subst (λ (z : BilType). IsOfType z (evaluate t c e)) f.0 w) (subst (λ (z : BilType). IsOfType z (evaluate a c e)) (same g.1) x)
    (subst (λ (z : BilType). IsOfType z (evaluate q c e)) (g.0 ∙ same g.1) y)
sound (Extract hi lo a) at k known e c d b h =
    let i = of_operand_gave _ _ _ d in
    let f = any_gave _ _ _ _ i.2 in
    let w = fit_gave _ _ _ _ _ f.2 in
    let x = sound a _ i.0 known e c i.1 b h in
    subst (λ (z : BilType). IsOfType z (extract_from hi lo (evaluate a c e))) (same w.1)
    (extract_of hi lo f.0 _ (subst (λ (z : BilType). IsOfType z (evaluate a c e)) f.1 x) w.0)
sound (Concat a q) at k known e c d b h =
    let bs = both (names_only a known) (names_only q known) b in
    let i = of_two _ _ _ _ d in
    let f = any_gave _ _ _ _ i.4 in
    let g = any_gave _ _ _ _ f.2 in
    let w = fit_gave _ _ _ _ _ g.2 in
    let x = sound a _ i.0 known e c i.2 bs.0 h in
    let y = sound q _ i.1 known e c i.3 bs.1 h in
    subst (λ (z : BilType). IsOfType z (concat_of (evaluate a c e) (evaluate q c e))) (same w.1)
    (concat_of_types f.0 g.0 _ _ (subst (λ (z : BilType). IsOfType z (evaluate a c e)) f.1 x) (subst (λ (z : BilType). IsOfType z (evaluate q c e)) g.1 y))

-- and of lists
pub no_fault : (x : Typed) → fault_in x ≡ None → (k : BilType) × (x ≡ Has k)
no_fault (Has k) h = (k, refl)
no_fault (Faulty f) h = cc

pub neither : (a b : Option TypeFault) → or_fault a b ≡ None → (a ≡ None) × (b ≡ None)
neither None b h = (refl, h)
neither (Some f) b h = cc

pub wants_gave : (at : ℕ) (t : BilType) (x : Typed) → wants at t x ≡ None → x ≡ Has t
wants_gave at t (Has u) h =
    let i = no_fault _ h in let j = type_gave at t u (Has u) i.0 i.1 in ap (λ z. Has z) j.0
wants_gave at t (Faulty f) h = cc

goes_on : (known : BilVariable → Bool) (a : Ending) (f : Position → Ending) → EndHolds known a →
    ((p : Position) → HoldsVariables known p.env → EndHolds known (f p)) → EndHolds known (then_do a f)
goes_on known (Ends p) f h g = g p h
goes_on known (RaisesException n p) f h g = h
goes_on known (OutOfTurns p) f h g = h
goes_on known Wrong f h g = h

branch_holds : (known : BilVariable → Bool) (v : Value) (a b : Ending) → IsOfType (Bits 1) v → EndHolds known a → EndHolds known b →
    EndHolds known (branch_on v a b)
branch_holds known v a b t p q = let w = word_of 1 v t in rw w.1 (by_bit w.0 w.2)
  where
    by_bit : (n : ℕ) → n < 2 → EndHolds known (branch_on (Word 1 n) a b)
    by_bit zero l = q
    by_bit (suc n) l = p

spend_holds : (known : BilVariable → Bool) (t : ℕ) (p : Position) (f : Position → Ending) → HoldsVariables known p.env →
    ((q : Position) → HoldsVariables known q.env → EndHolds known (f q)) → EndHolds known (spend t p f)
spend_holds known zero p f h g = h
spend_holds known (suc t) p f h g = g (record p { turns = t }) h

loop_holds : (known : BilVariable → Bool) (n : ℕ) (test : Position → Value) (body : Position → Ending) →
    ((p : Position) → HoldsVariables known p.env → IsOfType (Bits 1) (test p)) → ((p : Position) → HoldsVariables known p.env → EndHolds known (body p)) →
    (p : Position) → HoldsVariables known p.env → EndHolds known (loop n test body p)
loop_holds known zero test body t b p h = branch_holds known (test p) _ _ (t p h) h h
loop_holds known (suc n) test body t b p h =
    branch_holds known (test p) _ _ (t p h)
    (spend_holds known p.turns p _ h (λ q k. goes_on known (body q) (loop n test body) (b q k) (loop_holds known n test body t b))) h

assigned_holds : (known : BilVariable → Bool) (x : BilVariable) (v : Value) (p : Position) → HoldsVariables known p.env → IsOfType (type_of x) v →
    EndHolds known (assigned (assign x v p.env) p)
assigned_holds known x v p h t = let d = assign_holds x v known p.env h t in rw d.1 d.2

jumped_holds : (known : BilVariable → Bool) (v : Value) (p : Position) → HoldsVariables known p.env → IsOfType (Bits 32) v → EndHolds known (jumped v p)
jumped_holds known v p h t = let w = word_of 32 v t in rw w.1 h

pub list_sound : (list : Statements) (at : ℕ) (known : BilVariable → Bool) (c : ℕ) → list_fault at list ≡ None → list_names_only list known ≡ true →
    (p : Position) → HoldsVariables known p.env → EndHolds known (execute list c p)
list_sound Empty at known c d b p h = h
list_sound (Assign x e rest) at known c d b p h =
    let bs = both (known x && names_only e known) (list_names_only rest known) b in
    let i = neither _ _ d in
    goes_on known _ (execute rest c)
    (assigned_holds known x (evaluate e c p.env) p h (sound e _ _ known p.env c (wants_gave _ _ _ i.0) (both (known x) (names_only e known) bs.0).1 h))
    (list_sound rest _ known c i.1 bs.1)
list_sound (JumpTo e rest) at known c d b p h =
    let bs = both (names_only e known) (list_names_only rest known) b in
    let i = neither _ _ d in
    goes_on known _ (execute rest c) (jumped_holds known (evaluate e c p.env) p h
    (sound e (at + 1) (Bits 32) known p.env c (wants_gave at (Bits 32) _ i.0) bs.0 h))
    (list_sound rest (at + 1 + size e) known c i.1 bs.1)
list_sound (Raise n rest) at known c d b p h = h
list_sound (Special t rest) at known c d b p h = list_sound rest _ known c d b p h
list_sound (While e body rest) at known c d b p h =
    let bs = both (names_only e known && list_names_only body known) (list_names_only rest known) b in
    let bt = both (names_only e known) (list_names_only body known) bs.0 in
    let i = neither _ _ d in
    let j = neither _ _ i.1 in
    let k = neither _ _ j.1 in
    goes_on known _ (execute rest c)
    (loop_holds known p.turns (λ t. evaluate e c t.env) (execute body c)
    (λ q g. sound e (at + 1) (Bits 1) known q.env c (wants_gave at (Bits 1) _ k.0) bt.0 g) (list_sound body _ known c j.0 bt.1) p h)
    (list_sound rest (at + 1 + size e + list_size body) known c k.1 bs.1)
list_sound (If e x y rest) at known c d b p h =
    let bs = both (names_only e known && list_names_only x known && list_names_only y known) (list_names_only rest known) b in
    let bt = both (names_only e known && list_names_only x known) (list_names_only y known) bs.0 in
    let bu = both (names_only e known) (list_names_only x known) bt.0 in
    let i = neither _ _ d in
    let j = neither _ _ i.1 in
    let k = neither _ _ j.1 in
    let l = neither _ _ k.1 in
    goes_on known _ (execute rest c)
    (branch_holds known (evaluate e c p.env) _ _ (sound e (at + 1) (Bits 1) known p.env c (wants_gave at (Bits 1) _ l.0) bu.0 h)
    (list_sound x _ known c j.0 bu.1 p h) (list_sound y _ known c k.0 bt.1 p h))
    (list_sound rest (at + 1 + size e + list_size x + list_size y) known c l.1 bs.1)

pub type_in_gave : (x : Typed) (t : BilType) → type_in x ≡ Some t → x ≡ Has t
type_in_gave (Has u) t h = cc
type_in_gave (Faulty f) t h = cc

pub typed_is_sound : TypedIsSound
typed_is_sound x t known e c d b h = sound x 0 t known e c (type_in_gave _ t d) b h

pub well_typed_is_sound : WellTypedIsSound
well_typed_is_sound list known p c d b h = list_sound list 0 known c d b p h
