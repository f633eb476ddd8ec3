-- Operators have the values that they have in lifted code.
use Rattle.std.proofs.Common.{◌≡◌, ℕ, ◌-◌, ◌/◌, ◌^◌, ◌<◌, ◌≤◌, refl, ap, sym, arith, true, false, Bool, List, Option, Some}
use Rattle.std.specs.Prelude.{◌==◌, not, nat_lt, nat_le, if◌then◌else◌}
use Rattle.std.proofs.lemmas.Bool.Decides.{nat_tests}
use Rattle.std.proofs.lemmas.Nat.{pow_pos}
use Rattle.std.proofs.Math.Nat.{mod-eq_of_lt, div-le_self}
use Rattle.word_spec.specs.Words as words
use Rattle.machine_spec.specs.Bil.{BinaryOp, Plus, Minus, Times, Divide, SignedDivide, Modulo, SignedModulo, And, Or, Xor, ShiftLeft, ShiftRight, ShiftSigned, Equal, NotEqual, Less, LessEqual, SignedLess, SignedLessEqual}
use Rattle.machine_spec.specs.BilTyping.{result_width}
use Rattle.bilv_spec.specs.SmtLib.{SmtValue, WordValue, atom_value, term_value, smt_sdiv}
use Rattle.machine_spec.proofs.Spelling.{same_number}
use Rattle.term_spec.specs.Terms.{operate}
use Rattle.smtlib_print.specs.Commands.{term_name, operation, constant_text}

bit_value : (c : Bool) → (if c then 1 else 0) ≡ words.bit c
bit_value true = refl
bit_value false = refl

sized : (minus : Bool) (p half a : ℕ) → 0 < half → a < p → (minus ≡ true → half ≤ a) → (if minus then p - a else a) < p
sized true p half a s h k = omega (arith, k refl)
sized false p half a s h k = h

not_none : (minus : Bool) (p a : ℕ) → 0 < a → a < p → 0 < (if minus then p - a else a)
not_none true p a s h = omega arith
not_none false p a s h = s

magnitude_below : (n a : ℕ) → a < 2 ^ n → words.magnitude n a < 2 ^ n
magnitude_below n a h = sized (words.is_negative n a) (2 ^ n) (2 ^ (n - 1)) a (pow_pos (n - 1)) h (λ e. grind (arith, nat_tests))

quotient : (n a b : ℕ) → a < 2 ^ n → 0 < b → words.udiv n a b ≡ words.word n (a / b)
quotient n a b h s =
    let z : (b == 0) ≡ false = grind (arith, nat_tests) in
    rw z (sym (mod-eq_of_lt (omega (arith, div-le_self a b))))

-- signed division but by 0
by_zero : (zero_is : Bool) (n a b : ℕ) → (b == 0) ≡ zero_is → a < 2 ^ n → b < 2 ^ n →
    (if zero_is then 2 ^ n - 1 else smt_sdiv n a b) ≡
    (if zero_is then 2 ^ n - 1 else words.with_sign n (words.differ (words.is_negative n a) (words.is_negative n b))
    (words.word n (words.magnitude n a / words.magnitude n b)))
by_zero true n a b e h k = refl
by_zero false n a b e h k =
    let s : 0 < b = grind (arith, nat_tests) in
    ap (words.with_sign n (words.differ (words.is_negative n a) (words.is_negative n b)))
    (quotient n (words.magnitude n a) (words.magnitude n b) (magnitude_below n a h) (not_none (words.is_negative n b) (2 ^ n) b s k))

sdiv_value : (n a b : ℕ) → a < 2 ^ n → b < 2 ^ n → (if b == 0 then 2 ^ n - 1 else smt_sdiv n a b) ≡ words.sdiv n a b
sdiv_value n a b h k = by_zero (b == 0) n a b refl h k

module _ (symbols : List ℕ → Option SmtValue) (w a b x y : ℕ) (h : atom_value symbols (term_name a)
    ≡ Some (WordValue w x)) (k : atom_value symbols (term_name b) ≡ Some (WordValue w y)) where
  pub operation_value : (o : BinaryOp) → x < 2 ^ w → y < 2 ^ w → ((v : ℕ) → v < 2 ^ w → atom_value symbols (constant_text w v) ≡ Some (WordValue w v)) →
      term_value symbols (operation o w a b) ≡ Some (WordValue (result_width o w) (operate o w x y))
  operation_value Plus p q c = rw (h, k, same_number w) refl
  operation_value Minus p q c = rw (h, k, same_number w) refl
  operation_value Times p q c = rw (h, k, same_number w) refl
  operation_value Divide p q c = rw (h, k, same_number w) refl
  operation_value SignedDivide p q c =
      let e : 0 < 2 ^ w = pow_pos w in
      rw (h, k, c 0 e, c (2 ^ w - 1) (omega arith), same_number w, same_number w) (ap (λ z. Some (WordValue w z)) (sdiv_value w x y p q))
  operation_value Modulo p q c = rw (h, k, same_number w) refl
  operation_value SignedModulo p q c = rw (h, k, same_number w) refl
  operation_value And p q c = rw (h, k, same_number w) refl
  operation_value Or p q c = rw (h, k, same_number w) refl
  operation_value Xor p q c = rw (h, k, same_number w) refl
  operation_value ShiftLeft p q c = rw (h, k, same_number w) refl
  operation_value ShiftRight p q c = rw (h, k, same_number w) refl
  operation_value ShiftSigned p q c = rw (h, k, same_number w) refl
  operation_value Equal p q c = rw (h, k, same_number w) (ap (λ z. Some (WordValue 1 z)) (bit_value (x == y)))
  operation_value NotEqual p q c = rw (h, k, same_number w) (ap (λ z. Some (WordValue 1 z)) (bit_value (not (x == y))))
  operation_value Less p q c = rw (h, k, same_number w) (ap (λ z. Some (WordValue 1 z)) (bit_value (nat_lt x y)))
  operation_value LessEqual p q c = rw (h, k, same_number w) (ap (λ z. Some (WordValue 1 z)) (bit_value (nat_le x y)))
  operation_value SignedLess p q c = rw (h, k, same_number w) (ap (λ z. Some (WordValue 1 z)) (bit_value (words.signed_lt w x y)))
  operation_value SignedLessEqual p q c = rw (h, k, same_number w) (ap (λ z. Some (WordValue 1 z)) (bit_value (words.signed_le w x y)))
