-- Expressions have their types wherever they stand, and a list is well typed with a known word in place of its loads, if it is without.
use Rattle.std.proofs.Common.{◌≡◌, refl, ap, sym, ◌∙◌, arith, ℕ, ◌+◌, ◌-◌, ◌<◌, ◌^◌, Bool, true, false, Option, Some, None}
use Rattle.std.specs.Prelude.{◌==◌, ◌&&◌, nat_lt, nat_le, min, if◌then◌else◌}
use Rattle.std.proofs.lemmas.Bool.Decides.{nat_tests}
use Rattle.word_spec.specs.Memory.{Endian}
use Rattle.machine_spec.specs.Bil.{BilType, Bits, Memory, BilVariable, BinaryOp, UnaryOp, CastKind, Expression, Var, Constant, Load, Store, Binary, Unary, Cast, Let, Unknown, Choose, Extract, Concat, Statements, Empty, Assign, JumpTo, Raise, Special, While, If, type_of, size}
use Rattle.machine_spec.specs.BilTyping.{Typed, Has, Faulty, TypeFault, asks_bits, asks_any, asks_memory, asks_type, asks_fit, of_operand, is_width, is_load_width, is_type, cast_fits, result_width, unknown_type, type_or_fault, fault_in, or_fault, wants, list_fault}
use Rattle.machine_spec.proofs.BilSound.{bits_gave, memory_gave, fit_gave, of_operand_gave}
use Rattle.bil_trim.specs.Literals.{is_load_of, put_literal, with_literal}
use Rattle.bil_trim.proofs.Loads.{that_load}
use Rattle.bil_trim.proofs.Counted.{either}

-- where the first has a type the second has it
pub record Follows (x y : Typed) : Type 0 where
  pub keeps : (t : BilType) → x ≡ Has t → y ≡ Has t

itself : (x : Typed) → Follows x x
itself x = record { keeps = λ t h. h }

operand : (x y : Typed) (f g : BilType → Typed) → Follows x y → ((t : BilType) → Follows (f t) (g t)) → Follows (of_operand x f) (of_operand y g)
operand (Has t) y f g a b = record { keeps = λ u h. ap (λ (z : Typed). of_operand z g) (a.keeps t refl) ∙ (b t).keeps u h }
operand (Faulty w) y f g a b = record { keeps = λ u h. absurd (cc) }

if_follows : (b : Bool) (x y : Typed) (p q : TypeFault) → Follows x y → Follows (if b then x else Faulty p) (if b then y else Faulty q)
if_follows true x y p q a = a
if_follows false x y p q a = record { keeps = λ u h. absurd (cc) }

bits : (at k n : ℕ) (t : BilType) (x y : Typed) → Follows x y → Follows (asks_bits at n t x) (asks_bits k n t y)
bits at k n (Bits m) x y a = if_follows (m == n) x y _ _ a
bits at k n Memory x y a = record { keeps = λ u h. absurd (cc) }

any : (at k : ℕ) (t : BilType) (f g : ℕ → Typed) → ((n : ℕ) → Follows (f n) (g n)) → Follows (asks_any at t f) (asks_any k t g)
any at k (Bits n) f g a = a n
any at k Memory f g a = record { keeps = λ u h. absurd (cc) }

memory : (at k : ℕ) (t : BilType) (x y : Typed) → Follows x y → Follows (asks_memory at t x) (asks_memory k t y)
memory at k Memory x y a = a
memory at k (Bits n) x y a = record { keeps = λ u h. absurd (cc) }

kind : (at k : ℕ) (s t : BilType) (x y : Typed) → Follows x y → Follows (asks_type at s t x) (asks_type k s t y)
kind at k (Bits n) t x y a = bits at k n t x y a
kind at k Memory t x y a = memory at k t x y a

fit : (at k : ℕ) (b : Bool) (t : BilType) (x y : Typed) → Follows x y → Follows (asks_fit at b t x) (asks_fit k b t y)
fit at k true t x y a = a
fit at k false t x y a = record { keeps = λ u h. absurd (cc) }

unknown : (at k : ℕ) (t : BilType) → Follows (unknown_type at t) (unknown_type k t)
unknown at k (Bits n) = fit at k (is_width n) (Bits n) (Has (Bits n)) (Has (Bits n)) (itself (Has (Bits n)))
unknown at k Memory = record { keeps = λ u h. absurd (cc) }

word_fits : (v : ℕ) → v < 2 ^ 32 → (is_width 32 && nat_lt v (2 ^ min 32 64)) ≡ true
word_fits v low = grind (arith, nat_tests)

of_load : (at n : ℕ) (x y : Typed) (t : BilType) →
    of_operand x (λ t. of_operand y (λ u. asks_memory at t (asks_bits at 32 u (asks_fit at (is_load_width n) t (Has (Bits n)))))) ≡ Has t → t ≡ Bits n
of_load at n x y t h =
    let a = of_operand_gave x _ t h in
    let b = of_operand_gave y _ t a.2 in
    let c = memory_gave at a.0 _ t b.2 in
    let d = bits_gave at 32 b.0 _ t c.1 in
    let e = fit_gave at (is_load_width n) a.0 _ t d.1 in
    let f = e.1 in cc

-- an expression has a type wherever another has it
pub record IsTypedAs (x y : Expression) : Type 0 where
  pub follows : (at k : ℕ) → Follows (type_or_fault at x) (type_or_fault k y)

pub as_variable : (x : BilVariable) → IsTypedAs (Var x) (Var x)
as_variable x = record { follows = λ at k. fit at k (is_type (type_of x)) (type_of x) (Has (type_of x)) (Has (type_of x)) (itself (Has (type_of x))) }

pub as_constant : (n w : ℕ) → IsTypedAs (Constant n w) (Constant n w)
as_constant n w = record {
  follows = λ at k. fit at k (is_width n && nat_lt w (2 ^ min n 64)) (Bits n) (Has (Bits n)) (Has (Bits n)) (itself (Has (Bits n)));
}

pub as_unknown : (t : BilType) → IsTypedAs (Unknown t) (Unknown t)
as_unknown t = record { follows = λ at k. unknown at k t }

pub as_load : (m b p q : Expression) (o : Endian) (n : ℕ) → IsTypedAs m p → IsTypedAs b q → IsTypedAs (Load m b o n) (Load p q o n)
as_load m b p q o n f g = record {
  follows = λ at k.
      operand (type_or_fault (at + 1) m) (type_or_fault (k + 1) p) _ _ (f.follows (at + 1) (k + 1)) (λ s.
      operand (type_or_fault (at + 1 + size m) b) (type_or_fault (k + 1 + size p) q) _ _ (g.follows (at + 1 + size m) (k + 1 + size p)) (λ u.
      memory at k s _ _ (bits at k 32 u _ _ (fit at k (is_load_width n) s _ _ (itself (Has (Bits n)))))));
}

pub as_store : (m b w p q r : Expression) (o : Endian) (n : ℕ) → IsTypedAs m p → IsTypedAs b q → IsTypedAs w r →
    IsTypedAs (Store m b o n w) (Store p q o n r)
as_store m b w p q r o n f g h = record {
  follows = λ at k.
      operand (type_or_fault (at + 1) m) (type_or_fault (k + 1) p) _ _ (f.follows (at + 1) (k + 1)) (λ s.
      operand (type_or_fault (at + 1 + size m) b) (type_or_fault (k + 1 + size p) q) _ _ (g.follows (at + 1 + size m) (k + 1 + size p)) (λ u.
      operand (type_or_fault (at + 1 + size m + size b) w) (type_or_fault (k + 1 + size p + size q) r) _ _
      (h.follows (at + 1 + size m + size b) (k + 1 + size p + size q)) (λ y.
      memory at k s _ _ (bits at k 32 u _ _ (bits at k n y _ _ (fit at k (is_load_width n) s _ _ (itself (Has Memory))))))));
}

pub as_binary : (o : BinaryOp) (x y p q : Expression) → IsTypedAs x p → IsTypedAs y q → IsTypedAs (Binary o x y) (Binary o p q)
as_binary o x y p q f g = record {
  follows = λ at k.
      operand (type_or_fault (at + 1) x) (type_or_fault (k + 1) p) _ _ (f.follows (at + 1) (k + 1)) (λ s.
      operand (type_or_fault (at + 1 + size x) y) (type_or_fault (k + 1 + size p) q) _ _ (g.follows (at + 1 + size x) (k + 1 + size p)) (λ u.
      any at k s _ _ (λ n. bits at k n u _ _ (itself (Has (Bits (result_width o n)))))));
}

pub as_unary : (o : UnaryOp) (x p : Expression) → IsTypedAs x p → IsTypedAs (Unary o x) (Unary o p)
as_unary o x p f = record {
  follows = λ at k.
      operand (type_or_fault (at + 1) x) (type_or_fault (k + 1) p) _ _ (f.follows (at + 1) (k + 1)) (λ s. any at k s _ _ (λ n. itself (Has (Bits n))));
}

pub as_cast : (c : CastKind) (m : ℕ) (x p : Expression) → IsTypedAs x p → IsTypedAs (Cast c m x) (Cast c m p)
as_cast c m x p f = record {
  follows = λ at k.
      operand (type_or_fault (at + 1) x) (type_or_fault (k + 1) p) _ _ (f.follows (at + 1) (k + 1)) (λ s.
      any at k s _ _ (λ n. fit at k (cast_fits c m n && is_width m) s _ _ (itself (Has (Bits m)))));
}

pub as_let : (i n : ℕ) (x y p q : Expression) → IsTypedAs x p → IsTypedAs y q → IsTypedAs (Let i n x y) (Let i n p q)
as_let i n x y p q f g = record {
  follows = λ at k.
      operand (type_or_fault (at + 1) x) (type_or_fault (k + 1) p) _ _ (f.follows (at + 1) (k + 1)) (λ s.
      operand (type_or_fault (at + 1 + size x) y) (type_or_fault (k + 1 + size p) q) _ _ (g.follows (at + 1 + size x) (k + 1 + size p)) (λ u.
      bits at k n s _ _ (itself (Has u))));
}

pub as_choose : (c x y d p q : Expression) → IsTypedAs c d → IsTypedAs x p → IsTypedAs y q → IsTypedAs (Choose c x y) (Choose d p q)
as_choose c x y d p q f g h = record {
  follows = λ at k.
      operand (type_or_fault (at + 1) c) (type_or_fault (k + 1) d) _ _ (f.follows (at + 1) (k + 1)) (λ s.
      operand (type_or_fault (at + 1 + size c) x) (type_or_fault (k + 1 + size d) p) _ _ (g.follows (at + 1 + size c) (k + 1 + size d)) (λ u.
      operand (type_or_fault (at + 1 + size c + size x) y) (type_or_fault (k + 1 + size d + size p) q) _ _
      (h.follows (at + 1 + size c + size x) (k + 1 + size d + size p)) (λ r.
      bits at k 1 s _ _ (kind at k u r _ _ (itself (Has u))))));
}

pub as_extract : (hi lo : ℕ) (x p : Expression) → IsTypedAs x p → IsTypedAs (Extract hi lo x) (Extract hi lo p)
as_extract hi lo x p f = record {
  follows = λ at k.
      operand (type_or_fault (at + 1) x) (type_or_fault (k + 1) p) _ _ (f.follows (at + 1) (k + 1)) (λ s.
      any at k s _ _ (λ n. fit at k (nat_le lo hi && nat_lt hi n) s _ _ (itself (Has (Bits (hi - lo + 1))))));
}

pub as_concat : (x y p q : Expression) → IsTypedAs x p → IsTypedAs y q → IsTypedAs (Concat x y) (Concat p q)
as_concat x y p q f g = record {
  follows = λ at k.
      operand (type_or_fault (at + 1) x) (type_or_fault (k + 1) p) _ _ (f.follows (at + 1) (k + 1)) (λ s.
      operand (type_or_fault (at + 1 + size x) y) (type_or_fault (k + 1 + size p) q) _ _ (g.follows (at + 1 + size x) (k + 1 + size p)) (λ u.
      any at k s _ _ (λ n. any at k u _ _ (λ m. fit at k (nat_le (n + m) 64) s _ _ (itself (Has (Bits (n + m))))))));
}

-- an expression has its type wherever it stands
pub anywhere : (x : Expression) → IsTypedAs x x
anywhere (Var x) = as_variable x
anywhere (Constant n w) = as_constant n w
anywhere (Load m b o n) = as_load m b m b o n (anywhere m) (anywhere b)
anywhere (Store m b o n w) = as_store m b w m b w o n (anywhere m) (anywhere b) (anywhere w)
anywhere (Binary o x y) = as_binary o x y x y (anywhere x) (anywhere y)
anywhere (Unary o x) = as_unary o x x (anywhere x)
anywhere (Cast c m x) = as_cast c m x x (anywhere x)
anywhere (Let i n x y) = as_let i n x y x y (anywhere x) (anywhere y)
anywhere (Unknown t) = as_unknown t
anywhere (Choose c x y) = as_choose c x y c x y (anywhere c) (anywhere x) (anywhere y)
anywhere (Extract hi lo x) = as_extract hi lo x x (anywhere x)
anywhere (Concat x y) = as_concat x y x y (anywhere x) (anywhere y)

no_fault : (x : Typed) → fault_in x ≡ None → (t : BilType) × (x ≡ Has t)
no_fault (Has t) h = (t, refl)
no_fault (Faulty f) h = absurd (cc)

pub fault_follows : (x y : Typed) → Follows x y → fault_in x ≡ None → fault_in y ≡ None
fault_follows x y f h = let t = no_fault x h in ap fault_in (f.keeps t.0 t.1)

pub wants_follows : (at k : ℕ) (t : BilType) (x y : Typed) → Follows x y → wants at t x ≡ None → wants k t y ≡ None
wants_follows at k t x y f h =
    fault_follows (of_operand x (λ u. asks_type at t u (Has u))) (of_operand y (λ u. asks_type k t u (Has u)))
    (operand x y _ _ f (λ u. kind at k t u _ _ (itself (Has u)))) h

pub two_none : (x y : Option TypeFault) → or_fault x y ≡ None → (x ≡ None) × (y ≡ None)
two_none None y h = (refl, h)
two_none (Some f) y h = absurd (cc)

pub none_two : (x y : Option TypeFault) → x ≡ None → y ≡ None → or_fault x y ≡ None
none_two None y h i = i
none_two (Some f) y h i = absurd (cc)

module _ (e : Endian) (a v : ℕ) (low : v < 2 ^ 32) where
  type_stays : (x : Expression) → IsTypedAs x (put_literal e a v x)
  type_stays (Var x) = as_variable x
  type_stays (Constant n w) = as_constant n w
  type_stays (Load m b o n) =
      either e a v (λ z. IsTypedAs (Load m b o n) z) (is_load_of e a m b o n) (Constant 32 v) (Load (put_literal e a v m) (put_literal e a v b) o n)
      (λ t. record {
        follows = λ at k. record {
          keeps = λ u h.
              ap (λ (z : Bool). asks_fit k z (Bits 32) (Has (Bits 32))) (word_fits v low)
              ∙ ap (λ (z : ℕ). Has (Bits z)) (sym ((that_load e a m b o n t).3))
              ∙ ap (λ (z : BilType). Has z) (sym (of_load at n (type_or_fault (at + 1) m) (type_or_fault (at + 1 + size m) b) u h));
        };
      })
      (λ t. as_load m b (put_literal e a v m) (put_literal e a v b) o n (type_stays m) (type_stays b))
  type_stays (Store m b o n w) =
      as_store m b w (put_literal e a v m) (put_literal e a v b) (put_literal e a v w) o n (type_stays m) (type_stays b) (type_stays w)
  type_stays (Binary o x y) = as_binary o x y (put_literal e a v x) (put_literal e a v y) (type_stays x) (type_stays y)
  type_stays (Unary o x) = as_unary o x (put_literal e a v x) (type_stays x)
  type_stays (Cast c m x) = as_cast c m x (put_literal e a v x) (type_stays x)
  type_stays (Let i n x y) = as_let i n x y (put_literal e a v x) (put_literal e a v y) (type_stays x) (type_stays y)
  type_stays (Unknown t) = as_unknown t
  type_stays (Choose c x y) =
      as_choose c x y (put_literal e a v c) (put_literal e a v x) (put_literal e a v y) (type_stays c) (type_stays x) (type_stays y)
  type_stays (Extract hi lo x) = as_extract hi lo x (put_literal e a v x) (type_stays x)
  type_stays (Concat x y) = as_concat x y (put_literal e a v x) (put_literal e a v y) (type_stays x) (type_stays y)

  pub list_typed : (list : Statements) (at k : ℕ) → list_fault at list ≡ None → list_fault k (with_literal e a v list) ≡ None
  list_typed Empty at k h = refl
  list_typed (Assign x w rest) at k h =
      let l = two_none _ _ h in
      none_two _ _ (wants_follows at k (type_of x) _ _ ((type_stays w).follows (at + 1) (k + 1)) l.0) (list_typed rest _ _ l.1)
  list_typed (JumpTo w rest) at k h =
      let l = two_none _ _ h in
      none_two _ _ (wants_follows at k (Bits 32) _ _ ((type_stays w).follows (at + 1) (k + 1)) l.0) (list_typed rest _ _ l.1)
  list_typed (Raise n rest) at k h = list_typed rest (at + 1) (k + 1) h
  list_typed (Special t rest) at k h = list_typed rest (at + 1) (k + 1) h
  list_typed (While w body rest) at k h =
      let l = two_none _ _ h in let m = two_none _ _ l.1 in let n = two_none _ _ m.1 in
      none_two _ _ (fault_follows _ _ ((type_stays w).follows (at + 1) (k + 1)) l.0)
      (none_two _ _ (list_typed body _ _ m.0)
      (none_two _ _ (wants_follows at k (Bits 1) _ _ ((type_stays w).follows (at + 1) (k + 1)) n.0) (list_typed rest _ _ n.1)))
  list_typed (If w x y rest) at k h =
      let l = two_none _ _ h in let m = two_none _ _ l.1 in let n = two_none _ _ m.1 in let o = two_none _ _ n.1 in
      none_two _ _ (fault_follows _ _ ((type_stays w).follows (at + 1) (k + 1)) l.0)
      (none_two _ _ (list_typed x _ _ m.0)
      (none_two _ _ (list_typed y _ _ n.0)
      (none_two _ _ (wants_follows at k (Bits 1) _ _ ((type_stays w).follows (at + 1) (k + 1)) o.0) (list_typed rest _ _ o.1))))
