use Rattle.std.proofs.Common.{◌≡◌, map, drop}
use Rattle.std.specs.List.{list_any}
use Rattle.std.specs.Str.{bytes_eq}
use Rattle.suite_file.proofs.keys.is_among.Given as goal

abbrev pub invariant-loop-k : goal.invariant-loop-k
invariant-loop-k l = list_any (λ x. bytes_eq x l.key) (map (λ k. k.now) (drop l.k-index l.known)) ≡ list_any (λ x. bytes_eq x l.key) (map (λ k. k.now) l.known)
