use Rattle.std.proofs.Common.{◌≡◌, drop}
use Rattle.std.specs.List.{list_any}
use Rattle.question_form.specs.Views.{unrolled_of}
use Rattle.pair_terms.specs.Exits.{leads_to, is_led_to}
use Rattle.pair_terms.proofs.exits.is_led_to.Given as goal

abbrev pub invariant-loop-at : goal.invariant-loop-at
invariant-loop-at l = is_led_to (unrolled_of l.unrolled) l.place ≡ list_any (λ q. list_any (leads_to l.place) q.exits) (drop l.at (unrolled_of l.unrolled).points)
