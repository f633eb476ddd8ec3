use Rattle.std.proofs.Common.{ℕ, ◌<◌, ◌^◌, get_or, length}
use Rattle.notes_value.specs.declared.notes.Contract.{Contract}
use Rattle.bilv_top.proofs.asked.places_are_words.Given as goal

abbrev pub invariant-loop-contract : goal.invariant-loop-contract
invariant-loop-contract l = (i : ℕ) (d : Contract) → i < l.contract-index → i < length l.contracts → (get_or l.contracts i d).at < 2 ^ 32
