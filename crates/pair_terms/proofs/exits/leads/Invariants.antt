use Rattle.std.proofs.Common.{◌≡◌, drop}
use Rattle.std.specs.Prelude.{map}
use Rattle.std.specs.List.{list_any}
use Rattle.question_form.specs.Views.{edge_of}
use Rattle.pair_terms.specs.Exits.{leads_to}
use Rattle.pair_terms.proofs.exits.leads.Given as goal

abbrev pub invariant-loop-i : goal.invariant-loop-i
invariant-loop-i l = list_any (leads_to l.place) (map edge_of l.edges) ≡ list_any (leads_to l.place) (drop l.i (map edge_of l.edges))
