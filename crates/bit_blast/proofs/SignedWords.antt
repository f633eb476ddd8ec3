-- Words that are signed extensions of their lowest bits.
use Rattle.std.proofs.Common.{
  ◌≡◌,
  ℕ,
  ◌+◌,
  ◌-◌,
  ◌*◌,
  ◌%◌,
  ◌^◌,
  ◌≤◌,
  ◌==◌,
  Bool,
  true,
  false,
  cond,
  not,
  List,
  length,
  take,
  get_or,
  ap,
  sym,
  ◌∙◌,
  arith,
  length-take,
}
use Rattle.std.proofs.lemmas.List.{get_or-take}
use Rattle.std.proofs.lemmas.Nat.{mod_below, pow_pos}
use Rattle.std.proofs.Math.Nat.{pow-le-pow_right}
use Rattle.std.proofs.lemmas.Bool.Decides.{nat_tests}
use Rattle.word_spec.specs.Words.{bit, is_negative, magnitude, with_sign, sign_extend}
use Rattle.gates.specs.declared.bit.Bit.{Bit}
use Rattle.gates.specs.Circuits.{bit_value}
use Rattle.word_gates.specs.Numbers.{number, digit}
use Rattle.word_gates.proofs.Words.{no_bit, number_take}
use Rattle.word_gates.proofs.Signs.{sign_bit}
use Rattle.word_gates.proofs.Quotients.{magnitude_is}

-- bits that the test does not tell apart
pub same_bit : (x y : Bit) → false ≡ not (x.code == y.code) → x ≡ y
same_bit x y e =
    let k : x.code ≡ y.code = grind (arith, nat_tests) in
    let f : ℕ → Bit = λ n. record { code = n } in
    ap f k

pub lowest_len : (ls : List Bit) (b : ℕ) → b ≤ length ls → length (take b ls) ≡ b
lowest_len ls b h = grind (arith, length-take b ls)

-- the highest of the lowest bits is their sign
pub sign_at : (v : ℕ → Bool) (ls : List Bit) (b : ℕ) → 1 ≤ b → b ≤ length ls → bit_value v (get_or ls (b - 1) no_bit) ≡ is_negative b (number v ls % 2 ^ b)
sign_at v ls b o h =
    ap (bit_value v) (sym (get_or-take b ls (b - 1) no_bit (omega arith)))
    ∙ sign_bit v (take b ls) b o (lowest_len ls b h)
    ∙ ap (is_negative b) (number_take v ls b h)

pub size_at : (v : ℕ → Bool) (ls : List Bit) (b : ℕ) → 1 ≤ b → b ≤ length ls →
    with_sign b (bit_value v (get_or ls (b - 1) no_bit)) (number v ls % 2 ^ b) ≡ magnitude b (number v ls % 2 ^ b)
size_at v ls b o h = ap (λ c. with_sign b c (number v ls % 2 ^ b)) (sign_at v ls b o h)
    ∙ magnitude_is b (number v ls % 2 ^ b) (mod_below (number v ls) (2 ^ b) (pow_pos b))

extended_place : (p q x l : ℕ) (c : Bool) → p ≤ q → x + p * bit c ≡ l + q * bit c → x ≡ cond c (l + (q - p)) l
extended_place p q x l true h e = omega arith
extended_place p q x l false h e = omega arith

-- where the bits above the lowest ones are their sign
pub extended : (v : ℕ → Bool) (ls : List Bit) (b : ℕ) → 1 ≤ b → b ≤ length ls →
    number v ls + 2 ^ b * digit v (get_or ls (b - 1) no_bit) ≡ number v (take b ls) + 2 ^ length ls * digit v (get_or ls (b - 1) no_bit) →
    number v ls ≡ sign_extend b (length ls) (number v ls % 2 ^ b)
extended v ls b o h e =
    let l = number v ls % 2 ^ b in
    let d : digit v (get_or ls (b - 1) no_bit) ≡ bit (is_negative b l) = ap bit (sign_at v ls b o h) in
    let f : number v ls + 2 ^ b * bit (is_negative b l) ≡ l + 2 ^ length ls * bit (is_negative b l) = rw (d, number_take v ls b h) at e in
    let k : 2 ^ b ≤ 2 ^ length ls = pow-le-pow_right (omega arith) h in
    extended_place (2 ^ b) (2 ^ length ls) (number v ls) l (is_negative b l) k f

-- one bit more that is the sign
pub extended_more : (p q x l d : ℕ) → x + p * d ≡ l + q * d → x + q * d + p * d ≡ l + 2 * q * d
extended_more p q x l d e = omega arith
