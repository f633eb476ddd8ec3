-- The difference of the definitions that a value stands for.
use Rattle.std.specs.Prelude.{◌≤◌}
use Rattle.machine_spec.specs.StateText.{last_step}
use Rattle.pair_spec.specs.Differs as spec
use Rattle.difference_replay.specs.declared.named.NamedDifference.{NamedDifference}

-- the named difference
abbrev pub named_of : NamedDifference → spec.NamedDifference
named_of d = record { line = d.line; first = d.first; second = d.second }

-- both steps are ones that a text names
abbrev pub AreSteps : NamedDifference → Type 0
AreSteps d = (d.first ≤ last_step) × (d.second ≤ last_step)
