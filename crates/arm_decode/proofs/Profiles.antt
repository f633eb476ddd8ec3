-- The profile of a number.
use Rattle.std.proofs.Common.{◌≡◌, ℕ, refl, Bool, true, false}
use Rattle.std.specs.Prelude.{◌==◌, ◌&&◌, not}
use Rattle.word_spec.specs.Profiles.{Profile}
use Rattle.machine_spec.specs.Arm.{profile_of, has_exchange, is_fifth, is_exchange, is_count}

pub exchange_is : (n : ℕ) → not (n == 0) ≡ has_exchange (profile_of n)
exchange_is n = by_tests (n == 0) (n == 1) refl refl
  where
    by_tests : (a b : Bool) → (n == 0) ≡ a → (n == 1) ≡ b → not (n == 0) ≡ has_exchange (profile_of n)
    by_tests true b p q = rw p refl
    by_tests false true p q = rw (p, q) refl
    by_tests false false p q = rw (p, q) refl

pub fifth_is : (n : ℕ) → (not (n == 0) && not (n == 1)) ≡ is_fifth (profile_of n)
fifth_is n = by_tests (n == 0) (n == 1) refl refl
  where
    by_tests : (a b : Bool) → (n == 0) ≡ a → (n == 1) ≡ b → (not (n == 0) && not (n == 1)) ≡ is_fifth (profile_of n)
    by_tests true b p q = rw p refl
    by_tests false true p q = rw (p, q) refl
    by_tests false false p q = rw (p, q) refl

-- a word has no row where the profile has none, or the word
pub no_exchange : (profile : Profile) (w : ℕ) → is_exchange w ≡ false → (has_exchange profile && is_exchange w) ≡ false
no_exchange profile w h = by_profile (has_exchange profile) h
  where
    by_profile : (b : Bool) → is_exchange w ≡ false → (b && is_exchange w) ≡ false
    by_profile true h = h
    by_profile false h = refl

pub no_count : (profile : Profile) (w : ℕ) → is_count w ≡ false → (is_fifth profile && is_count w) ≡ false
no_count profile w h = by_profile (is_fifth profile) h
  where
    by_profile : (b : Bool) → is_count w ≡ false → (b && is_count w) ≡ false
    by_profile true h = h
    by_profile false h = refl
