-- Equal functions are not different; where both hold and none differ, each linked pair exits alike.
use Rattle.std.proofs.Common.{◌≡◌, ℕ, refl, sym, ◌∙◌, ap, Option, Some, None, List}
use Rattle.bilv_spec.specs.Run.{Program}
use Rattle.machine_spec.specs.Endings.{Start}
use Rattle.bilv_spec.specs.Verdict.{RunExits}
use Rattle.pair_spec.specs.Links.{Link, differing_line}
use Rattle.pair_spec.specs.Pairs.{AreDifferent, ArePairedStarts, ExitAlike}
use Rattle.pair_spec.specs.PairLaws.{EqualNotDifferent, NotDifferentIsEqual}
use Rattle.pair_spec.proofs.ExitStates.{exited_in, one_state}

pub equal_not_different : EqualNotDifferent
equal_not_different a b k links e d =
    let x = d.0 in let y = d.1 in let apart = d.6 in
    let alike = e.1 x y d.5 in
    let first = (one_state a k x alike.first_at alike.first_step apart.first_at d.3 alike.first_state apart.first_state alike.first apart.first).1 in
    let second = (one_state b k y alike.second_at alike.second_step apart.second_at d.4 alike.second_state apart.second_state alike.second apart.second).1 in
    let lines : differing_line links alike.first_state alike.second_state ≡ differing_line links apart.first_state apart.second_state =
    ap (λ s. differing_line links s alike.second_state) first ∙ ap (λ t. differing_line links apart.first_state t) second in
    let both : None ≡ Some d.2 = sym alike.alike ∙ lines ∙ apart.apart in cc

-- by the first line on which two exits differ
by_line : (a b : Program) (k : ℕ) (links : List Link) → (AreDifferent a b k links → ⊥) → (x y : Start) → ArePairedStarts a b links x y →
    (e : RunExits a k x) (f : RunExits b k y) → (line : Option ℕ) →
    differing_line links (exited_in a k x e.0 e.1 e.2 e.3).0 (exited_in b k y f.0 f.1 f.2 f.3).0 ≡ line → ExitAlike a b k links x y
by_line a b k links none x y pair e f None h = record {
  first_at = e.1;
  first_step = e.2;
  first_state = (exited_in a k x e.0 e.1 e.2 e.3).0;
  second_at = f.1;
  second_step = f.2;
  second_state = (exited_in b k y f.0 f.1 f.2 f.3).0;
  first = (exited_in a k x e.0 e.1 e.2 e.3).1;
  second = (exited_in b k y f.0 f.1 f.2 f.3).1;
  alike = h;
}
by_line a b k links none x y pair e f (Some n) h = absurd (none (
  x,
  y,
  n,
  e.2,
  f.2,
  pair,
  record {
    first_at = e.1;
    first_state = (exited_in a k x e.0 e.1 e.2 e.3).0;
    second_at = f.1;
    second_state = (exited_in b k y f.0 f.1 f.2 f.3).0;
    first = (exited_in a k x e.0 e.1 e.2 e.3).1;
    second = (exited_in b k y f.0 f.1 f.2 f.3).1;
    apart = h;
  },
))

pub not_different_is_equal : NotDifferentIsEqual
not_different_is_equal a b k links holds other pair none =
    (pair, λ x y p. by_line a b k links none x y p (holds.1 x p.first) (other.1 y p.second) _ refl)
