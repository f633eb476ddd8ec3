use Rattle.std.proofs.Common.{◌≡◌, ◌%◌, take}
use Rattle.machine_spec.specs.StateText.{number_of_bits}
use Rattle.state_text.proofs.draft.flags_of.Given as goal

abbrev pub invariant-loop-bit : goal.invariant-loop-bit
invariant-loop-bit l = l.flags ≡ number_of_bits (take l.bit-index l.bits) % 256
