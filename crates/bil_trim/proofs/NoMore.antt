-- A list with a known word in place of its loads has no more in it.
use Rattle.std.proofs.Common.{◌≡◌, ◌∙◌, ℕ, ◌≤◌, arith}
use Rattle.machine_spec.specs.Bil.{total}
use Rattle.machine_spec.specs.BilCounts.{own_stores, own_memory_choices, own_chosen_stores, own_unknowns}
use Rattle.bil_trim.specs.Parts.{LiteralsAddNothing}
use Rattle.bil_trim.specs.Flags.{LiteralsAssignTheSame}
use Rattle.bil_trim.proofs.Counted.{lists_same, total_same, stores_own, choices_own, chosen_own, unknowns_own, weight_same, loop_same, special_same, nesting_same, names_same, assigns_same, no_loads, fewer_loads}
use Rattle.bil_trim.proofs.Typed.{list_typed}

as_much : (x y : ℕ) → x ≡ y → x ≤ y
as_much x y e = omega arith

pub literals_add_nothing : LiteralsAddNothing
literals_add_nothing e a v list low = (
  record {
    typed = λ h. list_typed e a v low list 0 0 h;
    no_loop = λ h. loop_same e a v list ∙ h;
    no_special = λ h. special_same e a v list ∙ h;
    nests = as_much _ _ (nesting_same e a v list);
    names = λ k h. names_same e a v list k h;
    weight = as_much _ _ (weight_same e a v list);
    loads = fewer_loads e a v list;
    stores = as_much _ _ (lists_same e a v (total own_stores) (total_same e a v own_stores (stores_own e a v)) list);
    picks = as_much _ _ (lists_same e a v (total own_memory_choices) (total_same e a v own_memory_choices (choices_own e a v)) list);
    steady = as_much _ _ (lists_same e a v (total own_chosen_stores) (total_same e a v own_chosen_stores (chosen_own e a v)) list);
    draws = as_much _ _ (lists_same e a v (total own_unknowns) (total_same e a v own_unknowns (unknowns_own e a v)) list);
  },
  no_loads e a v list,
)

pub literals_assign_the_same : LiteralsAssignTheSame
literals_assign_the_same e a v f list = assigns_same e a v f list
