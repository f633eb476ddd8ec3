-- Sets of flags.
use Rattle.std.proofs.Common.{◌≡◌, ℕ, zero, suc, ◌<◌, refl, ◌∙◌, arith}
use Rattle.std.specs.Prelude.{Bool, false}
use Rattle.graph_nodes.specs.Graphs.{has_flag, IsFlagSet}
use Rattle.flag_live.specs.Keeps.{IsSetOf}

-- a set that has those of the four flags that pass a test
pub set_is : (set : ℕ) (test : ℕ → Bool) (n z c v : Bool) → IsSetOf set n z c v → n ≡ test 3 → z ≡ test 2 → c ≡ test 1 → v ≡ test 0 → IsFlagSet set test
set_is set test n z c v is three two one none = record { small = is.small; exact = exact }
  where
    exact : (f : ℕ) → f < 4 → has_flag set f ≡ test f
    exact zero few = is.overflow ∙ none
    exact (suc zero) few = is.carry ∙ one
    exact (suc (suc zero)) few = is.zeroed ∙ two
    exact (suc (suc (suc zero))) few = is.negative ∙ three
    exact (suc (suc (suc (suc f)))) few = absurd (omega arith)

-- a set has the flags that it has
pub own_flags : (set : ℕ) → set < 16 → IsFlagSet set (λ f. has_flag set f)
own_flags set small = record { small = small; exact = λ f few. refl }

none_has : (f : ℕ) → f < 4 → has_flag 0 f ≡ false
none_has zero few = refl
none_has (suc zero) few = refl
none_has (suc (suc zero)) few = refl
none_has (suc (suc (suc zero))) few = refl
none_has (suc (suc (suc (suc f)))) few = absurd (omega arith)

-- the empty set has none
pub no_flags : IsFlagSet 0 (λ f. false)
no_flags = record { small = omega arith; exact = none_has }
