-- The price of two unrolled programs.
use Rattle.std.specs.Prelude.{ℕ, ◌≡◌, ◌<◌, ◌-◌, ◌^◌, Bool, false, List, Option, Some, None}
use Rattle.std.specs.Global.{Vec}
use Rattle.std.specs.List.{list_any}
use Rattle.bil_ast.specs.declared.statements.Stmt.{Stmt}
use Rattle.bilv_spec.specs.Run.{Program}
use Rattle.walk_spec.specs.Unrolled.{goes_out}
use Rattle.walk_spec.specs.Unrolling.{IsUnrolling}
use Rattle.question_form.specs.Views.{edge_of, unrolled_of}
use Rattle.question_form.specs.declared.unrolled.Edge.{Edge}
use Rattle.question_form.specs.declared.unrolled.Unrolled.{Unrolled}
use Rattle.pair_spec.specs.Links.{Link}
use Rattle.pair_spec.specs.Pairs.{IsPairPrice}
use Rattle.unroller.specs.LineCosts.{capped}

-- an edge of a point with a row leads out
abbrev pub leads_out : Option (Vec Stmt) → List Edge → Bool
leads_out None edges = false
leads_out (Some list) edges = list_any (λ e. goes_out (edge_of e)) edges

-- below the greatest number it is the price of the programs
abbrev pub PricesPair : Unrolled → Unrolled → List Link → ℕ → Type 0
PricesPair u w links price = price < 2 ^ 128 - 1 → (a b : Program) (k : ℕ) → IsUnrolling a k (unrolled_of u) → IsUnrolling b k (unrolled_of w) →
    IsPairPrice a b k links price

-- it is every price of the programs, as a number of 128 bits
abbrev pub IsPriceOf : Unrolled → Unrolled → List Link → ℕ → Type 0
IsPriceOf u w links price = (a b : Program) (k n : ℕ) → IsUnrolling a k (unrolled_of u) → IsUnrolling b k (unrolled_of w) → IsPairPrice a b k links n →
    price ≡ capped n
