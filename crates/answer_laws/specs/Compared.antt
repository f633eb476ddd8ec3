-- What a call that compares two functions says of them, and the replay of a difference that it printed.
use Rattle.std.specs.Prelude.{ℕ, ◌≡◌, ◌≤◌, ◌++◌, List, Some, codes, length}
use Rattle.answer_laws.specs.Replayed.{AreBytes}
use Rattle.answer_laws.specs.Told.{AreToldTo}
use Rattle.answer_laws.specs.TwoCalls.{IsPrinted, Sufficed, Writes}
use Rattle.answer_spec.specs.Outcomes.{IsOutcome}
use Rattle.notes_spec.specs.Programs.{names_of}
use Rattle.bilv_spec.specs.Run.{Program}
use Rattle.bilv_spec.specs.Verdict.{Holds, IsRight}
use Rattle.notes_spec.specs.Verified.{IsFound}
use Rattle.call_spec.specs.Calls.{Budget, IsBudget, Evidence, Two, Options, Surroundings}
use Rattle.clause_spec.specs.Checks.{text_limit}
use Rattle.command_spec.specs.Commands.{PairNames, Equal, Differ}
use Rattle.pair_spec.specs.Equals.{differs_words}
use Rattle.pair_spec.specs.Links.{Link, IsLinksText}
use Rattle.pair_spec.specs.Pairs.{AreEqual}
use Rattle.word_spec.specs.Texts.{line, joined}

-- The files are two programs and links between them. Both programs hold, there is a linked pair of entry states, and the runs of each such pair exit, whatever
-- their choices are, in states that agree on all that the links compare.
pub record AreFoundEqual (o : Options) (content : List ℕ → List ℕ) (names : PairNames) (turns : ℕ) : Type 0 where
  pub first : Program
  pub second : Program
  pub links : List Link
  pub first_found : IsFound o (content names.elf) (content names.notes) first
  pub second_found : IsFound o (content names.other_elf) (content names.other_notes) second
  pub said : IsLinksText (names_of (content names.elf)) (names_of (content names.other_elf)) (content names.links) links
  pub first_holds : IsRight first turns Holds
  pub second_holds : IsRight second turns Holds
  pub equal : AreEqual first second turns links

-- where a call over files that are told wrote that they are equal, with status 0, they are
abbrev pub EqualMeans : Type 0
EqualMeans =
    (s : Surroundings) (o : Options) (content : List ℕ → List ℕ) (names : PairNames) (b : Budget) (e : Evidence) → AreToldTo s content (Equal o names b) →
    IsOutcome s (Some (Equal o names b)) 0 e → IsPrinted s (line (codes "equal")) → AreFoundEqual o content names b.unroll

-- the evidence is two starts, which the text shows
abbrev pub ShowsTwo : Evidence → Type 0
ShowsTwo (Two x y) = Unit {0}
ShowsTwo other = ⊥

-- The difference that a call wrote, where it shows two starts, is replayed by a call over the same files, within the limit of bytes: what is printed again are
-- the words of its first line.
abbrev pub DifferenceIsReplayed : Type 0
DifferenceIsReplayed =
    (s t : Surroundings) (o : Options) (content : List ℕ → List ℕ) (names : PairNames) (report : List ℕ) (b : Budget) (first status : ℕ) (e f : Evidence) →
    AreBytes (content names.elf) → AreBytes (content names.other_elf) → IsBudget b → AreToldTo s content (Equal o names b) →
    IsOutcome s (Some (Equal o names b)) first e → ShowsTwo e → IsPrinted s (content report) → length (content report) ≤ text_limit →
    AreToldTo t content (Differ o names report) → Sufficed t status → IsOutcome t (Some (Differ o names report)) status f →
    (n i j : ℕ) × (blocks : List ℕ) × (content report ≡ line (joined (differs_words n i j)) ++ blocks)
    × Writes t status (line (codes "replayed " ++ joined (differs_words n i j)))
