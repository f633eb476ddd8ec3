-- What formulas make, and that their expressions evaluate to it.
use Rattle.std.proofs.Common.{◌≡◌, ℕ, ◌/◌, ◌%◌, ◌^◌, ◌<◌, nat_le, true, refl, sym, ap, subst, arith}
use Rattle.std.proofs.lemmas.Nat.{and_mask}
use Rattle.machine_spec.specs.Bil.{BinaryOp, Plus, Expression}
use Rattle.machine_spec.specs.BilMeaning.{Word, Env, on_words, cast_to, evaluate}
use Rattle.machine_spec.specs.BilTyping.{result_width}
use Rattle.bil_ast.specs.Views.{binary_of}
use Rattle.word_formula.specs.declared.formula.Extension.{Extension}
use Rattle.word_formula.specs.declared.formula.Extension.TheVariants.{Signed, Unsigned}
use Rattle.word_formula.specs.declared.formula.Formula.{Formula}
use Rattle.word_formula.specs.declared.formula.Formula.TheVariants.{Operator, Truth, Shift, Upper}
use Rattle.word_formula.specs.Formulas.{word_part, operate, extended, cast_by, value, expression_of, width_of}

pub narrow : (o : BinaryOp) → nat_le (result_width o 32) 32 ≡ true
narrow Plus = refl
narrow o = refl

in_word : (o : BinaryOp) (n : ℕ) → n < 2 ^ result_width o 32 → n < 2 ^ 32
in_word Plus n h = h
in_word o n h = omega arith

pub small : (o : BinaryOp) (w n : ℕ) → w ≡ result_width o 32 → n < 2 ^ w → n < 2 ^ 32
small o w n e h = in_word o n (subst (λ k. n < 2 ^ k) e h)

-- the upper half of a product modulo 2 ^ 64
pub upper_of : (p : ℕ) → p % 2 ^ 64 / 2 ^ 32 ≡ p / 2 ^ 32 % 2 ^ 32
upper_of p = omega arith

pub operated : (o : BinaryOp) (a b w n : ℕ) → on_words o 32 a b ≡ Word w n → n ≡ operate o a b
operated o a b w n e = sym (ap word_part e)

on_words_is : (o : BinaryOp) (a b : ℕ) → on_words o 32 a b ≡ Word (result_width o 32) (operate o a b)
on_words_is Plus a b = refl
on_words_is o a b = refl

extended_is : (j : Extension) (a : ℕ) → cast_to (cast_by j) 64 (Word 32 a) ≡ Word 64 (extended j a)
extended_is Signed a = refl
extended_is Unsigned a = refl

-- a formula's expression evaluates to what the formula makes of its operands' words
pub evaluates : (f : Formula) (a b : Expression) (c : ℕ) (e : Env) (x y : ℕ) → evaluate a c e ≡ Word 32 x → evaluate b c e ≡ Word 32 y →
    evaluate (expression_of f a b) c e ≡ Word (width_of f) (value f x y)
evaluates (Operator o) a b c e x y p q = rw (p, q) (on_words_is (binary_of o) x y)
evaluates (Truth o) a b c e x y p q = rw (p, q, on_words_is (binary_of o) x y, narrow (binary_of o)) refl
evaluates (Shift o) a b c e x y p q = rw (p, q, and_mask y 5) (on_words_is (binary_of o) x (y % 32))
evaluates (Upper j k) a b c e x y p q = rw (p, q, extended_is j x, extended_is k y) (ap (λ z. Word 32 z) (upper_again _)) where
  upper_again : (p : ℕ) → p % 2 ^ 64 / 2 ^ 32 % 2 ^ 32 ≡ p / 2 ^ 32 % 2 ^ 32
  upper_again p = omega arith
