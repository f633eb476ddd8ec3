use Rattle.std.proofs.Common.{◌≡◌, ◌-◌, ◌++◌, drop, map}
use Rattle.call_text.proofs.changes.push_flag_places.Given as goal

abbrev pub invariant-loop-flag : goal.invariant-loop-flag
invariant-loop-flag l = l.out.items ++ map (λ f. l.last - f) (drop l.flag-index l.flags) ≡ l.initial.out.items ++ map (λ f. l.last - f) l.flags
