use Rattle.std.proofs.Common.{◌≡◌, map}
use Rattle.toml.specs.View.{members_view}
use Rattle.suite_file.specs.Suites.{first_unknown}
use Rattle.suite_file.proofs.keys.only_keys.Given as goal

abbrev pub invariant-loop-key : goal.invariant-loop-key
invariant-loop-key l =
    (goal.iterator-loop-key).can_next l.key-iterator ×
    (goal.iterator-loop-key).is_finite l.key-iterator ×
    (first_unknown (map (λ k. k.now) l.known) (members_view l.key-iterator) ≡ first_unknown (map (λ k. k.now) l.known) (members_view l.table.entries))
