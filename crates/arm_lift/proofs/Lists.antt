-- Lists that do a row in every byte order and every profile.
use Rattle.std.proofs.Common.{IfOk, Result, Ok, Err}

-- what is so in every one is so in one
pub in_one : {I T E : Type 0} (r : Result T E) (claim : I → T → Type 0) (i : I) → IfOk r (λ t. (i : I) → claim i t) → IfOk r (claim i)
in_one (Ok t) claim i h = h i
in_one (Err x) claim i h = tt
