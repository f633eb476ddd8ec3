-- The number of a node shows only in the place of a fault, where it is at most 2 ^ 64 - 1: what the code counts, which stops there, serves as well.
use Rattle.std.proofs.Common.{◌≡◌, ℕ, ◌+◌, ◌-◌, ◌*◌, ◌%◌, ◌^◌, ◌==◌, min, nat_lt, nat_le, Bool, true, false, ◌&&◌, refl, ap, ◌∙◌, arith}
use Rattle.std.specs.Prelude.{if◌then◌else◌}
use Rattle.machine_spec.specs.Bil.{BilType, Bits, Memory, Expression, Var, Constant, Load, Store, Binary, Unary, Cast, Let, Unknown, Choose, Extract, Concat, size, type_of}
use Rattle.machine_spec.specs.BilTyping.{Typed, Has, Faulty, Need, NeedBits, AnyBits, NeedMemory, Fits, of_operand, type_or_fault, is_width, is_type, is_load_width, result_width, cast_fits}

-- two numbers that faults show alike
abbrev pub Alike : ℕ → ℕ → Type 0
Alike a b = min a (2 ^ 64 - 1) ≡ min b (2 ^ 64 - 1)

-- the rules, over the place that a fault shows
abbrev pub broken : ℕ → Need → BilType → Typed
broken p need found = Faulty (record { place = p; need = need; found = found })

abbrev pub bits : ℕ → ℕ → BilType → Typed → Typed
bits p n (Bits m) rest = if m == n then rest else broken p (NeedBits n) (Bits m)
bits p n Memory rest = broken p (NeedBits n) Memory

abbrev word : ℕ → BilType → (ℕ → Typed) → Typed
word p (Bits m) rest = rest m
word p Memory rest = broken p AnyBits Memory

abbrev pub memory : ℕ → BilType → Typed → Typed
memory p Memory rest = rest
memory p (Bits m) rest = broken p NeedMemory (Bits m)

abbrev pub same : ℕ → BilType → BilType → Typed → Typed
same p (Bits n) t rest = bits p n t rest
same p Memory t rest = memory p t rest

abbrev fit : ℕ → Bool → BilType → Typed → Typed
fit p true t rest = rest
fit p false t rest = broken p Fits t

abbrev unknown : ℕ → BilType → Typed
unknown p (Bits n) = fit p (is_width n) (Bits n) (Has (Bits n))
unknown p Memory = broken p Fits Memory

-- a rule over a place and three operands
each : (rule : ℕ → Typed → Typed → Typed → Typed) (p q : ℕ) (x a y b z c : Typed) → p ≡ q → x ≡ a → y ≡ b → z ≡ c → rule p x y z ≡ rule q a b c
each rule p q x a y b z c h i j k =
    ap (λ v. rule v x y z) h ∙ ap (λ v. rule q v y z) i ∙ ap (λ v. rule q a v z) j ∙ ap (λ v. rule q a b v) k

one : (rule : ℕ → Typed → Typed) (p q : ℕ) (x a : Typed) → p ≡ q → x ≡ a → rule p x ≡ rule q a
one rule p q x a h i = ap (λ v. rule v x) h ∙ ap (λ v. rule q v) i

two : (rule : ℕ → Typed → Typed → Typed) (p q : ℕ) (x a y b : Typed) → p ≡ q → x ≡ a → y ≡ b → rule p x y ≡ rule q a b
two rule p q x a y b h i j = ap (λ v. rule v x y) h ∙ ap (λ v. rule q v y) i ∙ ap (λ v. rule q a v) j

pub further : (a b n : ℕ) → Alike a b → Alike (a + n) (b + n)
further a b n h = omega arith

pub alike : (e : Expression) (p q : ℕ) → Alike p q → type_or_fault p e ≡ type_or_fault q e
alike (Var x) p q h = ap (λ v. fit v (is_type (type_of x)) (type_of x) (Has (type_of x))) h
alike (Constant n k) p q h = ap (λ v. fit v (is_width n && nat_lt k (2 ^ min n 64)) (Bits n) (Has (Bits n))) h
alike (Load m a e n) p q h =
    two (λ v x y. of_operand x (λ t. of_operand y (λ u. memory v t (bits v 32 u (fit v (is_load_width n) t (Has (Bits n))))))) _ _ _ _ _ _ h
    (alike m (p + 1) (q + 1) (further p q 1 h))
    (alike a (p + 1 + size m) (q + 1 + size m) (further (p + 1) (q + 1) (size m) (further p q 1 h)))
alike (Store m a e n w) p q h =
    each (λ v x y z. of_operand x (λ t. of_operand y (λ u. of_operand z
    (λ w. memory v t (bits v 32 u (bits v n w (fit v (is_load_width n) t (Has Memory)))))))) _ _ _ _ _ _ _ _ h
    (alike m (p + 1) (q + 1) (further p q 1 h))
    (alike a (p + 1 + size m) (q + 1 + size m) (further (p + 1) (q + 1) (size m) (further p q 1 h)))
    (alike w (p + 1 + size m + size a) (q + 1 + size m + size a)
    (further (p + 1 + size m) (q + 1 + size m) (size a) (further (p + 1) (q + 1) (size m) (further p q 1 h))))
alike (Binary o a b) p q h =
    two (λ v x y. of_operand x (λ t. of_operand y (λ u. word v t (λ n. bits v n u (Has (Bits (result_width o n))))))) _ _ _ _ _ _ h
    (alike a (p + 1) (q + 1) (further p q 1 h))
    (alike b (p + 1 + size a) (q + 1 + size a) (further (p + 1) (q + 1) (size a) (further p q 1 h)))
alike (Unary o a) p q h = one (λ v x. of_operand x (λ t. word v t (λ n. Has (Bits n)))) _ _ _ _ h (alike a (p + 1) (q + 1) (further p q 1 h))
alike (Cast k m a) p q h =
    one (λ v x. of_operand x (λ t. word v t (λ n. fit v (cast_fits k m n && is_width m) t (Has (Bits m))))) _ _ _ _ h
    (alike a (p + 1) (q + 1) (further p q 1 h))
alike (Let x n a b) p q h =
    two (λ v x y. of_operand x (λ t. of_operand y (λ u. bits v n t (Has u)))) _ _ _ _ _ _ h
    (alike a (p + 1) (q + 1) (further p q 1 h))
    (alike b (p + 1 + size a) (q + 1 + size a) (further (p + 1) (q + 1) (size a) (further p q 1 h)))
alike (Unknown t) p q h = ap (λ v. unknown v t) h
alike (Choose c a b) p q h =
    each (λ v x y z. of_operand x (λ t. of_operand y (λ u. of_operand z (λ w. bits v 1 t (same v u w (Has u)))))) _ _ _ _ _ _ _ _ h
    (alike c (p + 1) (q + 1) (further p q 1 h))
    (alike a (p + 1 + size c) (q + 1 + size c) (further (p + 1) (q + 1) (size c) (further p q 1 h)))
    (alike b (p + 1 + size c + size a) (q + 1 + size c + size a)
    (further (p + 1 + size c) (q + 1 + size c) (size a) (further (p + 1) (q + 1) (size c) (further p q 1 h))))
alike (Extract hi lo a) p q h =
    one (λ v x. of_operand x (λ t. word v t (λ n. fit v (nat_le lo hi && nat_lt hi n) t (Has (Bits (hi - lo + 1)))))) _ _ _ _ h
    (alike a (p + 1) (q + 1) (further p q 1 h))
alike (Concat a b) p q h =
    two (λ v x y. of_operand x (λ t. of_operand y (λ u. word v t (λ n. word v u (λ m. fit v (nat_le (n + m) 64) t (Has (Bits (n + m)))))))) _ _ _ _ _ _ h
    (alike a (p + 1) (q + 1) (further p q 1 h))
    (alike b (p + 1 + size a) (q + 1 + size a) (further (p + 1) (q + 1) (size a) (further p q 1 h)))

-- a number that is counted up to 2 ^ 64 - 1 serves as well
pub capped : (p : ℕ) (e : Expression) → type_or_fault (min p (2 ^ 64 - 1)) e ≡ type_or_fault p e
capped p e = alike e (min p (2 ^ 64 - 1)) p (omega arith)

-- so does one that is counted over one operand
pub capped_second : (p s : ℕ) (e : Expression) → type_or_fault (min (min (p + 1) (2 ^ 64 - 1) + s) (2 ^ 64 - 1)) e ≡ type_or_fault (p + 1 + s) e
capped_second p s e = alike e (min (min (p + 1) (2 ^ 64 - 1) + s) (2 ^ 64 - 1)) (p + 1 + s) (omega arith)

-- and one that is counted over two
pub capped_third : (p s r : ℕ) (e : Expression) →
    type_or_fault (min (min (min (p + 1) (2 ^ 64 - 1) + s) (2 ^ 64 - 1) + r) (2 ^ 64 - 1)) e ≡ type_or_fault (p + 1 + s + r) e
capped_third p s r e = alike e (min (min (min (p + 1) (2 ^ 64 - 1) + s) (2 ^ 64 - 1) + r) (2 ^ 64 - 1)) (p + 1 + s + r) (omega arith)
