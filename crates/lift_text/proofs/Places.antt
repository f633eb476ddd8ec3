-- Addresses at which rows can stand.
use Rattle.std.proofs.Common.{◌≡◌, ℕ, ◌+◌, ◌*◌, ◌/◌, ◌≤◌, ◌<◌, ◌^◌, Bool, true, false, sym, subst, arith, refl}
use Rattle.machine_spec.specs.Machine.{IsAtPlace}
use Rattle.lift_text.specs.Found.{IsNextPlace}

pub even_place : (n : Bool) (from : ℕ) → from ≤ 2 ^ 32 → n ≡ true → IsNextPlace n from ((from + 1) / 2 * 2)
even_place n from small is =
    subst (λ (n : Bool). IsNextPlace n from ((from + 1) / 2 * 2)) (sym is) (record {
      behind = omega arith;
      within = omega arith;
      aligned = omega arith;
      first = λ a low high even. omega arith;
    })

pub fourth_place : (n : Bool) (from : ℕ) → from ≤ 2 ^ 32 → n ≡ false → IsNextPlace n from ((from + 3) / 4 * 4)
fourth_place n from small is =
    subst (λ (n : Bool). IsNextPlace n from ((from + 3) / 4 * 4)) (sym is) (record {
      behind = omega arith;
      within = omega arith;
      aligned = omega arith;
      first = λ a low high even. omega arith;
    })

-- the least address, and the first number that is none
pub zero_place : (n : Bool) → IsAtPlace n 0
zero_place true = refl
zero_place false = refl

pub end_place : (n : Bool) → IsAtPlace n (2 ^ 32)
end_place true = refl
end_place false = refl
