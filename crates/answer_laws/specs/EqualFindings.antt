-- What two functions come to: the comparison answers that and nothing else, but for the run that it prints and for questions that spend their conflicts.
use Rattle.std.specs.Prelude.{ℕ, ◌≡◌, ◌≢◌, ◌<◌, ◌↔◌, ◌⊎◌, List, Some, codes}
use Rattle.answer_laws.specs.Compared.{ShowsTwo}
use Rattle.answer_laws.specs.Completeness.{IsSpentEvidence, ShowsRun, Says, HasVerdict}
use Rattle.answer_laws.specs.Told.{AreToldTo, IsAnswerTo}
use Rattle.answer_spec.specs.Outcomes.{IsOutcome}
use Rattle.bilv_spec.specs.Run.{Program}
use Rattle.bilv_spec.specs.Verdict.{Verdict, Holds, IsRight}
use Rattle.call_spec.specs.Calls.{Answer, Budget, Evidence, Options, Surroundings}
use Rattle.call_spec.specs.Outside.{Rose, Appends}
use Rattle.command_spec.specs.Commands.{PairNames, Equal}
use Rattle.notes_spec.specs.Programs.{names_of}
use Rattle.notes_spec.specs.Verified.{IsFound}
use Rattle.pair_spec.specs.Equals.{PairReport, OfFirst, OfSecond, NoPairReport, DiffersReport, EqualReport, PairPointsReport, PairSizeReport, AreWithin, IsRightPair, links_limit, pair_status, pair_text, side_of}
use Rattle.pair_spec.specs.Links.{Link, IsLinksText}
use Rattle.pair_spec.specs.Pairs.{AreDifferent, AreEqual, HaveMore, IsLinkedPair, IsPairPrice}
use Rattle.std.specs.Prelude.{◌≤◌, length}
use Rattle.word_spec.specs.State.{State}
use Rattle.word_spec.specs.Texts.{line}

-- the programs and the links that the contents of five files are
pub record AreCompared (o : Options) (content : List ℕ → List ℕ) (names : PairNames) : Type 0 where
  pub first : Program
  pub second : Program
  pub links : List Link
  pub first_found : IsFound o (content names.elf) (content names.notes) first
  pub second_found : IsFound o (content names.other_elf) (content names.other_notes) second
  pub short : length (content names.links) ≤ links_limit
  pub said : IsLinksText (names_of (content names.elf)) (names_of (content names.other_elf)) (content names.links) links

-- What two functions come to within a budget, where no question spends its conflicts: too many points; a price above the size; another verdict than that the first
-- holds, or that the second does; that no pair of entry states is linked; that the runs from some linked pair exit in states that differ; or that there is a
-- linked pair, and the runs from each exit alike.
pub data PairFinding : Type 0 where
  TooManyPoints : PairFinding
  TooLarge : (price : ℕ) → PairFinding
  FirstHas : Verdict → PairFinding
  SecondHas : Verdict → PairFinding
  NoneLinked : PairFinding
  SomeDiffer : PairFinding
  AllAlike : PairFinding

-- both hold, within the budget
abbrev pub BothHold : (a b : Program) → List Link → Budget → Type 0
BothHold a b links budget = AreWithin a b links budget × IsRight a budget.unroll Holds × IsRight b budget.unroll Holds

-- they come to it
abbrev pub PairComesTo : (a b : Program) → List Link → Budget → PairFinding → Type 0
PairComesTo a b links budget TooManyPoints = HaveMore a b budget.unroll budget.points
PairComesTo a b links budget (TooLarge price) =
    (¬ HaveMore a b budget.unroll budget.points) × IsPairPrice a b budget.unroll links price × (budget.size < price)
PairComesTo a b links budget (FirstHas v) = AreWithin a b links budget × (v ≢ Holds) × IsRight a budget.unroll v
PairComesTo a b links budget (SecondHas v) =
    AreWithin a b links budget × IsRight a budget.unroll Holds × (v ≢ Holds) × IsRight b budget.unroll v
PairComesTo a b links budget NoneLinked = BothHold a b links budget × ((s t : State) → ¬ IsLinkedPair a b links s t)
PairComesTo a b links budget SomeDiffer = BothHold a b links budget × AreDifferent a b budget.unroll links
PairComesTo a b links budget AllAlike = BothHold a b links budget × AreEqual a b budget.unroll links

-- two functions have one price, and come to one finding at most
abbrev pub OnePairPrice : Type 0
OnePairPrice = (a b : Program) (k : ℕ) (links : List Link) (n m : ℕ) → IsPairPrice a b k links n → IsPairPrice a b k links m → n ≡ m

abbrev pub OnePairFinding : Type 0
OnePairFinding = (a b : Program) (links : List Link) (budget : Budget) (f g : PairFinding) → PairComesTo a b links budget f →
    PairComesTo a b links budget g → f ≡ g

-- the report says the finding
abbrev pub PairSays : PairReport → PairFinding → Type 0
PairSays PairPointsReport TooManyPoints = Unit {0}
PairSays PairSizeReport (TooLarge price) = Unit {0}
PairSays (OfFirst r) (FirstHas v) = Says r (HasVerdict v)
PairSays (OfSecond r) (SecondHas v) = Says r (HasVerdict v)
PairSays NoPairReport NoneLinked = Unit {0}
PairSays (DiffersReport n i j) SomeDiffer = Unit {0}
PairSays EqualReport AllAlike = Unit {0}
PairSays report finding = ⊥

-- Where the five files are told and are two programs and links, no write failed, memory sufficed, and no question spent its conflicts, the call reports what they
-- come to, and in no other way.
abbrev pub PairFindingIsReported : Type 0
PairFindingIsReported =
    (s : Surroundings) (o : Options) (content : List ℕ → List ℕ) (names : PairNames) (b : Budget) (status : ℕ) (e : Evidence) →
    AreToldTo s content (Equal o names b) → (status ≡ 7 → ¬ Rose s.sink_before s.sink_after) → status ≢ 8 → (¬ IsSpentEvidence e) →
    (x : AreCompared o content names) (f : PairFinding) → PairComesTo x.first x.second x.links b f → IsOutcome s (Some (Equal o names b)) status e →
    (r : PairReport) × PairSays r f
    × IsRightPair (side_of o (content names.elf) x.first) (side_of o (content names.other_elf) x.second) x.links b r e × (status ≡ pair_status r)
    × Appends s.text_before (pair_text (side_of o (content names.elf) x.first) (side_of o (content names.other_elf) x.second) b r e) s.text_after

-- So where both hold, a linked pair exists, and every linked pair exits alike for all choices, it says that they are equal.
abbrev pub EqualIsComplete : Type 0
EqualIsComplete =
    (s : Surroundings) (o : Options) (content : List ℕ → List ℕ) (names : PairNames) (b : Budget) (status : ℕ) (e : Evidence) →
    AreToldTo s content (Equal o names b) → (status ≡ 7 → ¬ Rose s.sink_before s.sink_after) → status ≢ 8 → (¬ IsSpentEvidence e) →
    (x : AreCompared o content names) → BothHold x.first x.second x.links b → AreEqual x.first x.second b.unroll x.links →
    IsOutcome s (Some (Equal o names b)) status e → (status ≡ 0) × Appends s.text_before (line (codes "equal")) s.text_after

-- the evidence is what a text shows of runs
abbrev pub ShowsRuns : Evidence → Type 0
ShowsRuns e = ShowsRun e ⊎ ShowsTwo e

-- Two answers to one comparison, without spent conflicts: one status; runs are shown by both or by neither; and the same text where none is shown.
pub record AreSameButRuns (a c : Answer) : Type 0 where
  pub status : a.status ≡ c.status
  pub shows : ShowsRuns a.evidence ↔ ShowsRuns c.evidence
  pub text : (¬ ShowsRuns a.evidence) → a.text ≡ c.text

abbrev pub OnePairAnswer : Type 0
OnePairAnswer =
    (content : List ℕ → List ℕ) (o : Options) (names : PairNames) (b : Budget) (a c : Answer) → (¬ IsSpentEvidence a.evidence) →
    (¬ IsSpentEvidence c.evidence) → IsAnswerTo content (Equal o names b) a → IsAnswerTo content (Equal o names b) c → AreSameButRuns a c
