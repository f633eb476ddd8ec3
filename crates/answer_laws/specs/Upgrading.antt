-- What `upgrade` prints keeps the verdict.
use Rattle.std.specs.Prelude.{ℕ, ◌≡◌, ◌≤◌, ◌↔◌, List, Some, length}
use Rattle.call_spec.specs.Outside.{Appends}
use Rattle.bilv_spec.specs.Run.{Program}
use Rattle.bilv_spec.specs.Verdict.{Verdict, IsRight}
use Rattle.call_spec.specs.Calls.{Options, Evidence, Surroundings}
use Rattle.notes_spec.specs.Programs.{IsProgram}
use Rattle.notes_spec.specs.Upgrades.{upgraded}
use Rattle.notes_spec.specs.Verified.{notes_limit, IsFound}
use Rattle.command_spec.specs.Commands.{Upgrade}
use Rattle.answer_spec.specs.Outcomes.{IsOutcome}
use Rattle.answer_laws.specs.Completeness.{AreTold}

-- with the second text as its notes in place of the first, a file is a program as well, and one with the same right verdicts
abbrev pub KeepsVerdict : Options → (file text later : List ℕ) → Type 0
KeepsVerdict o file text later =
    (p : Program) → IsProgram o file text p → (r : Program) × IsProgram o file later r × ((k : ℕ) (v : Verdict) → IsRight p k v ↔ IsRight r k v)

-- so it is with notes of version 2 in place of a text
abbrev pub UpgradeKeepsVerdict : Type 0
UpgradeKeepsVerdict = (o : Options) (file text : List ℕ) → KeepsVerdict o file text (upgraded text)

-- where they are no longer than notes may be, they are found where the text was
abbrev pub UpgradeIsFound : Type 0
UpgradeIsFound =
    (o : Options) (file text : List ℕ) (p : Program) → IsFound o file text p → length (upgraded text) ≤ notes_limit →
    (r : Program) × IsFound o file (upgraded text) r × ((k : ℕ) (v : Verdict) → IsRight p k v ↔ IsRight r k v)

-- where both files are told and read without fault, and the status is 0, such notes are printed
abbrev pub UpgradeIsPrinted : Type 0
UpgradeIsPrinted =
    (s : Surroundings) (o : Options) (elf notes file text : List ℕ) (status : ℕ) (evidence : Evidence) → AreTold s elf notes file text →
    IsOutcome s (Some (Upgrade o elf notes)) status evidence → status ≡ 0 →
    (q : List ℕ) × Appends s.text_before q s.text_after × (q ≡ upgraded text) × (length q ≤ notes_limit) × KeepsVerdict o file text q
