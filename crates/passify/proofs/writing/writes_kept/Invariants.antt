use Rattle.std.proofs.Common.{◌+◌, ◌*◌, length, map, take}
use Rattle.std.specs.List.{list_any}
use Rattle.term_spec.specs.Passive.{Tells}
use Rattle.question_form.specs.Views.{kept_of}
use Rattle.passify.specs.Bits.{Makes}
use Rattle.passify.proofs.Writes.{keeps_hit}
use Rattle.passify.proofs.writing.writes_kept.Given as goal

abbrev pub invariant-loop-i : goal.invariant-loop-i
invariant-loop-i l =
    Makes l.fn.dag l.dag (98 * (l.i * length (map kept_of l.kept))) (1 + 10 * (l.i * length (map kept_of l.kept))) 1 l.some.0
    (λ x. Tells l.dag x l.some.0 (list_any (keeps_hit l.fn.dag x (map kept_of l.kept)) (take l.i l.spans)))
