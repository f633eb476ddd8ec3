use Rattle.std.proofs.Common.{◌≡◌, ◌++◌, drop, map}
use Rattle.word_spec.specs.Words.{bit_at}
use Rattle.call_text.proofs.changes.push_bits.Given as goal

abbrev pub invariant-loop-flag : goal.invariant-loop-flag
invariant-loop-flag l =
    l.out.items ++ map (λ f. bit_at f l.set) (drop l.flag-index l.flags) ≡ l.initial.out.items ++ map (λ f. bit_at f l.set) l.flags
