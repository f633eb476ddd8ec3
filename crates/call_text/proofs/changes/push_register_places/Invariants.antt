use Rattle.std.proofs.Common.{◌≡◌, ◌-◌, ◌++◌, drop, map}
use Rattle.call_text.proofs.changes.push_register_places.Given as goal

abbrev pub invariant-loop-register : goal.invariant-loop-register
invariant-loop-register l =
    l.out.items ++ map (λ r. r - l.first) (drop l.register-index l.registers) ≡ l.initial.out.items ++ map (λ r. r - l.first) l.registers
