use Rattle.std.proofs.Common.{◌≡◌, ℕ, ◌&&◌, Bool, take}
use Rattle.std.specs.List.{list_all}
use Rattle.gates.specs.Circuits.{Within}
use Rattle.gates.specs.Pushes.{satisfied, AreOver}
use Rattle.bit_blast.specs.BitWords.{AreWithin}
use Rattle.bit_blast.specs.Said.{asked_at}
use Rattle.bit_blast.proofs.reads.tie_asked.Given as goal

abbrev pub invariant-loop-i : goal.invariant-loop-i
invariant-loop-i l = record {
  value : (v : ℕ → Bool) → satisfied v l.ties.items ≡ (satisfied v l.fn.ties.items && list_all (asked_at l.places l.inputs l.words v) (take l.i l.asked));
  over : (n : ℕ) → Within n l.inputs → AreWithin n l.words → AreOver n l.fn.ties.items → AreOver n l.ties.items;
}
