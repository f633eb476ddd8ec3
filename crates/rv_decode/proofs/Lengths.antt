-- Instructions of words have 4 bytes.
use Rattle.std.proofs.Common.{◌≡◌, ℕ, refl, Option, Some, None}
use Rattle.rv_decode.specs.declared.plain.Plain.{Plain}
use Rattle.rv_decode.specs.declared.plain.Plain.TheVariants.{Lui}
use Rattle.rv_decode.specs.Plains.{plain_row}
use Rattle.rv_decode.specs.Insns.{length_by}

four_bytes : (i : Plain) → (plain_row i).length ≡ 4
four_bytes (Lui rd imm) = refl
four_bytes i = refl

-- the length of an instruction's row
pub length_of_row : (i : Plain) (half : Option ℕ) (n : ℕ) → n ≡ length_by half 4 → n ≡ length_by half (plain_row i).length
length_of_row i None n e = let f = four_bytes i in cc
length_of_row i (Some h) n e = e
