-- Sets of flags as numbers.
use Rattle.std.proofs.Common.{◌≡◌, ℕ, zero, suc, ◌+◌, ◌*◌, ◌/◌, ◌%◌, ◌<◌, refl, ap, subst, ◌∙◌, Bool, true, false, arith}
use Rattle.std.specs.Prelude.{◌==◌, ◌&&◌, ◌||◌}
use Rattle.word_spec.specs.Words.{bit, bit_at}
use Rattle.machine_spec.specs.Machine as table
use Rattle.machine_spec.specs.Arm.{with_flags, flag_set, flag_use}
use Rattle.machine_law.specs.declared.facts.FlagUse.{FlagUse}
use Rattle.machine_law.specs.Facts.{IsFlagUse}

-- the bits of four flags
pub number_bit : (a b d g f : ℕ) → a < 2 → b < 2 → d < 2 → g < 2 → f < 4 →
    (bit_at f (8 * a + 4 * b + 2 * d + g) == 1) ≡ (with_flags (λ f. 0) a b d g f == 1)
number_bit a b d g zero p q r s l = ap (λ x. x == 1) (let e : (8 * a + 4 * b + 2 * d + g) / 1 % 2 ≡ g = omega arith in e)
number_bit a b d g (suc zero) p q r s l = ap (λ x. x == 1) (let e : (8 * a + 4 * b + 2 * d + g) / 2 % 2 ≡ d = omega arith in e)
number_bit a b d g (suc (suc zero)) p q r s l = ap (λ x. x == 1) (let e : (8 * a + 4 * b + 2 * d + g) / 4 % 2 ≡ b = omega arith in e)
number_bit a b d g (suc (suc (suc zero))) p q r s l = ap (λ x. x == 1) (let e : (8 * a + 4 * b + 2 * d + g) / 8 % 2 ≡ a = omega arith in e)
number_bit a b d g (suc (suc (suc (suc f)))) p q r s l = absurd (omega arith)

pub bit_small : (b : Bool) → bit b < 2
bit_small true = omega arith
bit_small false = omega arith

none : (b : Bool) → (b && false) ≡ false
none true = refl
none false = refl

one : (b : Bool) → (bit b == 1) ≡ (b && true)
one true = refl
one false = refl

one_or : (b : Bool) → (bit b == 1) ≡ ((b && true) || false)
one_or true = refl
one_or false = refl

one_or_or : (b : Bool) → (bit b == 1) ≡ (((b && true) || false) || false)
one_or_or true = refl
one_or_or false = refl

pub set_flag : (nz c v : Bool) (f : ℕ) → f < 4 → (with_flags (λ f. 0) (bit nz) (bit nz) (bit c) (bit v) f == 1) ≡ flag_set nz c v f
set_flag nz c v zero l = rw (none nz, none c) (one v)
set_flag nz c v (suc zero) l = rw (none nz, none v) (one_or c)
set_flag nz c v (suc (suc zero)) l = rw (none c, none v) (one_or_or nz)
set_flag nz c v (suc (suc (suc zero))) l = rw (none c, none v) (one_or_or nz)
set_flag nz c v (suc (suc (suc (suc f)))) l = absurd (omega arith)

-- a flag, and C
kept : (b r : Bool) → (bit b == 1) ≡ (b || ((r && false) || false))
kept true r = refl
kept false true = refl
kept false false = refl

joined : (b r : Bool) → (bit (b || r) == 1) ≡ (b || ((r && true) || false))
joined true r = refl
joined false true = refl
joined false false = refl

pub read_flag : (n z c v r : Bool) (named : ℕ → Bool) (f : ℕ) → f < 4 → v ≡ named 0 → c ≡ (named 1 || r) → z ≡ named 2 → n ≡ named 3 →
    (with_flags (λ f. 0) (bit n) (bit z) (bit c) (bit v) f == 1) ≡ (named f || flag_set false r false f)
read_flag n z c v r named zero l a b d e = ap (λ x. bit x == 1) a ∙ kept (named 0) r
read_flag n z c v r named (suc zero) l a b d e = ap (λ x. bit x == 1) b ∙ joined (named 1) r
read_flag n z c v r named (suc (suc zero)) l a b d e = ap (λ x. bit x == 1) d ∙ kept (named 2) r
read_flag n z c v r named (suc (suc (suc zero))) l a b d e = ap (λ x. bit x == 1) e ∙ kept (named 3) r
read_flag n z c v r named (suc (suc (suc (suc f)))) l a b d e = absurd (omega arith)

-- the flags of a row by equal parts
pub same_use : (found : FlagUse) (w : ℕ) (r a b d x y z q k l m n o p : Bool) → r ≡ q → a ≡ k → b ≡ l → d ≡ m → x ≡ n → y ≡ o → z ≡ p →
    IsFlagUse found (flag_use w (flag_set false r false) (flag_set a b d) (flag_set x y z)) →
    IsFlagUse found (flag_use w (flag_set false q false) (flag_set k l m) (flag_set n o p))
same_use found w r a b d x y z q k l m n o p er ea eb ed ex ey ez h =
    let made : Bool → Bool → Bool → Bool → Bool → Bool → Bool → table.FlagUse =
    λ r a b d x y z. flag_use w (flag_set false r false) (flag_set a b d) (flag_set x y z) in
    subst (IsFlagUse found) (ap (λ r. made r a b d x y z) er ∙ ap (λ a. made q a b d x y z) ea ∙ ap (λ b. made q k b d x y z) eb
    ∙ ap (λ d. made q k l d x y z) ed ∙ ap (λ x. made q k l m x y z) ex ∙ ap (λ y. made q k l m n y z) ey ∙ ap (made q k l m n o) ez) h
