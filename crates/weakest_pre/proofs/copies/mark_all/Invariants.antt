use Rattle.std.proofs.Common.{◌≡◌, ◌<◌, length, map, drop}
use Rattle.std.specs.List.{AllByRecursion}
use Rattle.weakest_pre.specs.Copies.{marked}
use Rattle.weakest_pre.proofs.copies.mark_all.Given as goal

abbrev pub invariant-loop-term : goal.invariant-loop-term
invariant-loop-term l =
    (marked l.marks (map (λ t. t.0) (drop l.term-index l.terms)) ≡ marked l.fn.marks (map (λ t. t.0) l.terms))
    × AllByRecursion (λ a. a < length l.fn.marks) (map (λ t. t.0) (drop l.term-index l.terms))
