-- The bits of some flags, by the number that they make.
use Rattle.std.proofs.Common.{◌≡◌, ℕ, zero, suc, ◌+◌, ◌-◌, ◌*◌, ◌/◌, ◌%◌, ◌^◌, ◌<◌, ◌≤◌, refl, ap, sym, ◌∙◌, arith, List, [], ◌∷◌, length, map}
use Rattle.std.specs.Prelude.{All, AllPairs}
use Rattle.std.proofs.Math.Nat.{mul-add-div_right, mul_assoc, mul_comm, pow-le-pow_right, pow-suc}
use Rattle.std.proofs.lemmas.Nat.{div-mul-add, pow-add, pow_pos}
use Rattle.word_spec.specs.Words.{bit_at}
use Rattle.frame_texts_spec.specs.CallTexts.{flags_by}

abbrev pub Bits : List ℕ → Type 0
Bits [] = Unit {0}
Bits (b ∷ bs) = (b ≤ 1) × Bits bs

-- the highest bit of a number
top_bit : (f b rest : ℕ) → b ≤ 1 → rest < 2 ^ f → bit_at f (b * 2 ^ f + rest) ≡ b
top_bit f b rest small low = ap (λ k. k % 2) (div-mul-add b (2 ^ f) rest low) ∙ one_digit b small
  where
    one_digit : (b : ℕ) → b ≤ 1 → b % 2 ≡ b
    one_digit b small = omega (arith, small)

-- a lower bit is that of the rest
even_part : (y z : ℕ) → (2 * z + y) % 2 ≡ y % 2
even_part y z = omega arith

low_bit : (f g b rest : ℕ) → g < f → bit_at g (b * 2 ^ f + rest) ≡ bit_at g rest
low_bit f g b rest less =
    let j = f - g - 1 in
    let split : f ≡ suc j + g = omega (arith, less) in
    let power : b * 2 ^ f ≡ (2 * (b * 2 ^ j)) * 2 ^ g =
    ap (λ k. b * 2 ^ k) split ∙ ap (λ p. b * p) (pow-add 2 (suc j) g ∙ ap (λ p. p * 2 ^ g) (pow-suc 2 j)) ∙ regroup b (2 ^ j) (2 ^ g) in
    ap (λ x. (x + rest) / 2 ^ g % 2) power ∙ ap (λ x. x % 2) (mul-add-div_right {m = 2 ^ g} (pow_pos g) (2 * (b * 2 ^ j)) rest)
    ∙ even_part (rest / 2 ^ g) (b * 2 ^ j)
  where
    regroup : (b p q : ℕ) → b * (p * 2 * q) ≡ 2 * (b * p) * q
    regroup b p q = sym (mul_assoc b (p * 2) q) ∙ ap (λ x. x * q) (sym (mul_assoc b p 2) ∙ mul_comm (b * p) 2)

-- flags below one make a number below its power
pub below : (f : ℕ) (flags bits : List ℕ) → All (λ g. g < f) flags → AllPairs (λ x y. y < x) flags → Bits bits → flags_by flags bits < 2 ^ f
below f [] bits low fall good = pow_pos f
below f (g ∷ flags) [] low fall good = pow_pos f
below f (g ∷ flags) (b ∷ bits) low fall good =
    let rest = below g flags bits (λ k d l. fall 0 (suc k) d (omega arith) (omega arith)) (λ i j d h k. fall (suc i) (suc j) d (omega arith) (omega arith)) good.1 in
    let less : g < f = low 0 g (omega arith) in
    let more : 2 ^ suc g ≤ 2 ^ f = pow-le-pow_right {n = 2} (omega arith) {i = suc g} {j = f} (omega (arith, less)) in
    let twice : 2 ^ suc g ≡ 2 ^ g * 2 = pow-suc 2 g in
    by_bit b (2 ^ g) (2 ^ f) (flags_by flags bits) good.0 rest (omega (arith, more, twice))
  where
    by_bit : (b p q r : ℕ) → b ≤ 1 → r < p → p * 2 ≤ q → b * p + r < q
    by_bit zero p q r small low more = omega (arith, low, more)
    by_bit (suc zero) p q r small low more = omega (arith, low, more)
    by_bit (suc (suc b)) p q r small low more = absurd (omega (arith, small))

-- the other bits are those of the rest
rest_bits : (f b rest : ℕ) (flags : List ℕ) → All (λ g. g < f) flags → map (λ g. bit_at g (b * 2 ^ f + rest)) flags ≡ map (λ g. bit_at g rest) flags
rest_bits f b rest [] low = refl
rest_bits f b rest (g ∷ flags) low =
    ap (λ x. x ∷ map (λ h. bit_at h (b * 2 ^ f + rest)) flags) (low_bit f g b rest (low 0 g (omega arith)))
    ∙ ap (λ (l : List ℕ). bit_at g rest ∷ l) (rest_bits f b rest flags (λ k d l. low (suc k) d (omega arith)))

-- the bits are those that were given
pub bits_said : (flags bits : List ℕ) → length bits ≡ length flags → AllPairs (λ x y. y < x) flags → Bits bits →
    map (λ f. bit_at f (flags_by flags bits)) flags ≡ bits
bits_said [] [] count fall good = refl
bits_said [] (b ∷ bits) count fall good = absurd (omega arith)
bits_said (f ∷ flags) [] count fall good = absurd (omega arith)
bits_said (f ∷ flags) (b ∷ bits) count fall good =
    let low : All (λ g. g < f) flags = λ k d l. fall 0 (suc k) d (omega arith) (omega arith) in
    let falls : AllPairs (λ x y. y < x) flags = λ i j d h k. fall (suc i) (suc j) d (omega arith) (omega arith) in
    let rest = flags_by flags bits in
    ap (λ x. x ∷ map (λ g. bit_at g (b * 2 ^ f + rest)) flags) (top_bit f b rest good.0 (below f flags bits low falls good.1))
    ∙ ap (λ (l : List ℕ). b ∷ l) (rest_bits f b rest flags low ∙ bits_said flags bits (omega arith) falls good.1)
