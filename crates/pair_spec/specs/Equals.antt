-- What the command that compares two functions answers to the contents of its files.
use Rattle.std.specs.Prelude.{ℕ, ◌≡◌, ◌≤◌, ◌<◌, ◌+◌, List, [], ◌∷◌, ◌++◌, Option, Some, None, codes, length}
use Rattle.bilv_spec.specs.Run.{Program}
use Rattle.word_spec.specs.State.{State, Written}
use Rattle.bilv_spec.specs.Verdict.{Holds, IsRight}
use Rattle.bilv_spec.specs.Points.{is_known_at}
use Rattle.clause_spec.specs.Refutation.{Proof}
use Rattle.bilv_spec.specs.Files.{layout_of}
use Rattle.notes_spec.specs.Programs.{names_of}
use Rattle.machine_spec.specs.StateText.{Layout, IsWritten, block_text}
use Rattle.word_spec.specs.Texts.{line, joined, spaced, number_text}
use Rattle.call_spec.specs.Calls.{Options, Budget, PairQuestion, PairOfStates, DifferenceOfExits, Holding, Evidence, Refutations, EntryRefuted, Count, Two, Both, SpentOnPair, Answer, plain_answer}
use Rattle.bilv_spec.specs.Answers.{Report, HoldsReport, PointsReport, SizeReport, IsRightReport, start_in, status_of, report_text, budget_text}
use Rattle.notes_spec.specs.Scopes.{Paired}
use Rattle.notes_spec.specs.Verified.{IsAccepted, IsElfRefused, AreNotesRefusedIn, IsFound}
use Rattle.pair_spec.specs.Links.{Link, IsLinksText, IsFirstLinkFault, LinkFault, LimitFault, SyntaxFault, NameFault, RangeFault}
use Rattle.pair_spec.specs.Pairs.{IsLinkedPair, ArePairedStarts, ExitApart, AreEqual, HaveMore, IsPairPrice}
use Rattle.pair_spec.specs.PairEvidence.{RefutesPair, SpendsPair, IsPairDue}

-- one of two functions: its program and the form of its states
pub record Side : Type 0 where
  pub program : Program
  pub layout : Layout

-- the side of a file, by options and by its program
abbrev pub side_of : Options → (file : List ℕ) → Program → Side
side_of o file p = record { program = p; layout = layout_of o file }

-- what is answered about both
pub data PairReport : Type 0 where
  OfFirst : Report → PairReport
  OfSecond : Report → PairReport
  NoPairReport : PairReport
  DiffersReport : (line first_step second_step : ℕ) → PairReport
  EqualReport : PairReport
  PairPointsReport : PairReport
  PairSizeReport : PairReport
  PairConflictsReport : PairReport

-- no more points than the budget together, and a price within the size
pub record AreWithin (a b : Program) (links : List Link) (budget : Budget) : Type 0 where
  pub points : ¬ HaveMore a b budget.unroll budget.points
  pub price : ℕ
  pub is_price : IsPairPrice a b budget.unroll links price
  pub size : price ≤ budget.size

-- the report of a side is none of holds, points and size: the last two are judged of both sides together
abbrev pub IsOther : Report → Type 0
IsOther HoldsReport = ⊥
IsOther PointsReport = ⊥
IsOther SizeReport = ⊥
IsOther other = Unit {0}

-- a side holds
abbrev pub HoldsBy : Side → Budget → Holding → Type 0
HoldsBy s budget h = IsRightReport s.program s.layout budget HoldsReport (Refutations h.start h.fail h.turn)

-- starts that are written for both sides
pub record AreWritten (a b : Side) (x y : Written) : Type 0 where
  pub first : IsWritten a.layout (is_known_at a.program) x
  pub second : IsWritten b.layout (is_known_at b.program) y

-- The report is right, and the evidence shows it.
abbrev pub IsRightPair : (a b : Side) → List Link → Budget → PairReport → Evidence → Type 0
IsRightPair a b links budget PairPointsReport (Count n) = HaveMore a.program b.program budget.unroll budget.points × (n ≡ budget.points + 1)
IsRightPair a b links budget PairSizeReport (Count n) =
    (¬ HaveMore a.program b.program budget.unroll budget.points) × IsPairPrice a.program b.program budget.unroll links n × (budget.size < n)
IsRightPair a b links budget (OfFirst report) e =
    AreWithin a.program b.program links budget × IsOther report × IsRightReport a.program a.layout budget report e
IsRightPair a b links budget (OfSecond report) e =
    AreWithin a.program b.program links budget × IsRight a.program budget.unroll Holds × IsOther report × IsRightReport b.program b.layout budget report e
IsRightPair a b links budget PairConflictsReport (SpentOnPair question proof) =
    AreWithin a.program b.program links budget × IsRight a.program budget.unroll Holds × IsRight b.program budget.unroll Holds
    × IsPairDue a.program b.program links question × SpendsPair a.program b.program budget.unroll links question budget.conflicts proof
IsRightPair a b links budget NoPairReport (EntryRefuted proof) =
    AreWithin a.program b.program links budget × IsRight a.program budget.unroll Holds × IsRight b.program budget.unroll Holds
    × ((s t : State) → ¬ IsLinkedPair a.program b.program links s t) × RefutesPair a.program b.program budget.unroll links PairOfStates proof
IsRightPair a b links budget (DiffersReport n i j) (Two x y) =
    AreWithin a.program b.program links budget × IsRight a.program budget.unroll Holds × IsRight b.program budget.unroll Holds × AreWritten a b x y
    × ArePairedStarts a.program b.program links (start_in a.program a.layout x) (start_in b.program b.layout y)
    × ExitApart a.program b.program budget.unroll links (start_in a.program a.layout x) (start_in b.program b.layout y) n i j
IsRightPair a b links budget EqualReport (Both e f x y proof) =
    AreWithin a.program b.program links budget × HoldsBy a budget e × HoldsBy b budget f × AreEqual a.program b.program budget.unroll links
    × AreWritten a b x y × IsLinkedPair a.program b.program links (start_in a.program a.layout x).state (start_in b.program b.layout y).state
    × RefutesPair a.program b.program budget.unroll links DifferenceOfExits proof
IsRightPair a b links budget report other = ⊥

abbrev pub pair_status : PairReport → ℕ
pair_status (OfFirst report) = status_of report
pair_status (OfSecond report) = status_of report
pair_status NoPairReport = 0
pair_status (DiffersReport n i j) = 1
pair_status EqualReport = 0
pair_status other = 3

-- the words of a difference
abbrev pub differs_words : (line first_step second_step : ℕ) → List (List ℕ)
differs_words n i j = codes "differs" ∷ number_text n ∷ codes "steps" ∷ number_text i ∷ number_text j ∷ []

abbrev pub two_texts : (a b : Side) → Evidence → List ℕ
two_texts a b (Two x y) = block_text a.layout x ++ block_text b.layout y
two_texts a b other = []

abbrev pub side_text : (word : List ℕ) → Side → Budget → Report → Evidence → List ℕ
side_text word s budget report e = word ++ codes " " ++ report_text s.layout budget report e

abbrev pub pair_text : (a b : Side) → Budget → PairReport → Evidence → List ℕ
pair_text a b budget (OfFirst report) e = side_text (codes "first") a budget report e
pair_text a b budget (OfSecond report) e = side_text (codes "second") b budget report e
pair_text a b budget NoPairReport e = line (codes "no pair")
pair_text a b budget (DiffersReport n i j) e = line (joined (differs_words n i j)) ++ two_texts a b e
pair_text a b budget EqualReport e = line (codes "equal")
pair_text a b budget PairPointsReport e = budget_text (codes "points") budget.points
pair_text a b budget PairSizeReport e = budget_text (codes "size") budget.size
pair_text a b budget PairConflictsReport e = budget_text (codes "conflicts") budget.conflicts

-- the answer with a right report
abbrev pub IsPairReported : (a b : Side) → List Link → Budget → Answer → Type 0
IsPairReported a b links budget x =
    (report : PairReport) × (e : Evidence) × IsRightPair a b links budget report e
    × (x ≡ record { status = pair_status report; text = pair_text a b budget report e; evidence = e })

-- ---- the order of the files

abbrev pub link_fault_words : LinkFault → List ℕ
link_fault_words LimitFault = codes "M1 Limit"
link_fault_words SyntaxFault = codes "M2 Syntax"
link_fault_words NameFault = codes "M3 Name"
link_fault_words RangeFault = codes "M4 Range"

abbrev pub links_limit : ℕ
links_limit = 262144

-- what is said of links over two files
pub data AfterLinks (first second text : List ℕ) (Next : List Link → Answer → Type 0) (a : Answer) : Type 0 where
  too_large : links_limit < length text → a ≡ plain_answer 5 (line (codes "links: TooLarge")) → AfterLinks first second text Next a
  refused : (n : ℕ) (f : LinkFault) → length text ≤ links_limit → IsFirstLinkFault (names_of first) (names_of second) text n f →
      a ≡ plain_answer 5 (line (codes "links: line" ++ spaced (number_text n ∷ link_fault_words f ∷ []))) → AfterLinks first second text Next a
  linked : (links : List Link) → length text ≤ links_limit → IsLinksText (names_of first) (names_of second) text links → Next links a →
      AfterLinks first second text Next a

-- a file of a side that is refused, with the side's word before the text
pub data AfterElfOf (word file : List ℕ) (Next : Answer → Type 0) (a : Answer) : Type 0 where
  elf_refused : (written : List ℕ) → IsElfRefused file written → a ≡ plain_answer 4 (word ++ codes " " ++ written) → AfterElfOf word file Next a
  elf_accepted : IsAccepted file → Next a → AfterElfOf word file Next a

pub data AfterNotesOf (o : Options) (word file text : List ℕ) (Next : Program → Answer → Type 0) (a : Answer) : Type 0 where
  notes_refused : (written : List ℕ) → AreNotesRefusedIn Paired o file text written → a ≡ plain_answer 5 (word ++ codes " " ++ written) →
      AfterNotesOf o word file text Next a
  program_found : (p : Program) → IsFound o file text p → Next p a → AfterNotesOf o word file text Next a

-- the answer to the contents of the five files, in the order: the first ELF file, the second, the first notes with their symbol, the second, the links
abbrev pub ByContents : Options → (first second first_notes second_notes text : List ℕ) →
    (Next : (a b : Program) → List Link → Answer → Type 0) → Answer → Type 0
ByContents o f g m n text Next =
    AfterElfOf (codes "first") f (AfterElfOf (codes "second") g
    (AfterNotesOf o (codes "first") f m (λ p. AfterNotesOf o (codes "second") g n (λ q. AfterLinks f g text (λ links. Next p q links)))))

abbrev pub IsCompared : Options → (first second first_notes second_notes text : List ℕ) → Budget → Answer → Type 0
IsCompared o f g m n text budget =
    ByContents o f g m n text
    (λ p q links. IsPairReported (side_of o f p) (side_of o g q) links budget)
