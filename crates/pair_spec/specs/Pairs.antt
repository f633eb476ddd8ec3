-- Two functions beside each other: linked pairs of entry states, runs up to their exits, and the two questions about both.
use Rattle.std.specs.Prelude.{ℕ, ◌≡◌, ◌<◌, ◌+◌, ◌-◌, ◌*◌, Bool, Some, None, List, [], ◌∷◌, length, filter, sum_by}
use Rattle.std.specs.List.{list_any}
use Rattle.word_spec.specs.State.{State}
use Rattle.bilv_spec.specs.Run.{Program, Place, Going, Exits, run, step}
use Rattle.machine_spec.specs.Endings.{Start}
use Rattle.call_spec.specs.Calls.{PairQuestion, PairOfStates, DifferenceOfExits}
use Rattle.bilv_spec.specs.Verdict.{IsEntryState, IsStart}
use Rattle.bilv_spec.specs.Points.{Point, ArePoints, HasMore, IsCount, edges, is_exit, file_row, stores_at, is_known_at, begins_run, price_of}
use Rattle.bilv_spec.specs.Questions.{Reading, IsEntryStateOver, by_file, point_of, read_run}
use Rattle.bilv_spec.specs.Evidence.{loads_among}
use Rattle.pair_spec.specs.Links.{Link, SharedBytes, SameBytes, unlinked_line, differing_line}

-- The run from a start exits in a state, by the step of a number at an address: it stands there before that step, and the step is the exit.
pub record ExitsIn (p : Program) (k : ℕ) (start : Start) (at number : ℕ) (s : State) : Type 0 where
  pub turns : ℕ
  pub place : Place
  pub before : run p k start number ≡ Going turns number place
  pub at_is : at ≡ place.state.pc
  pub leaves : step p start.state place (start.choices number) ≡ Exits s

-- two entry states that agree on each link that speaks of entries
pub record IsLinkedPair (a b : Program) (links : List Link) (s t : State) : Type 0 where
  pub first : IsEntryState a s
  pub second : IsEntryState b t
  pub linked : unlinked_line links s t ≡ None

-- both runs exit, in states that agree on each link that speaks of exits
pub record ExitAlike (a b : Program) (k : ℕ) (links : List Link) (x y : Start) : Type 0 where
  pub first_at : ℕ
  pub first_step : ℕ
  pub first_state : State
  pub second_at : ℕ
  pub second_step : ℕ
  pub second_state : State
  pub first : ExitsIn a k x first_at first_step first_state
  pub second : ExitsIn b k y second_at second_step second_state
  pub alike : differing_line links first_state second_state ≡ None

-- they exit in states that differ first on a line
pub record ExitApart (a b : Program) (k : ℕ) (links : List Link) (x y : Start) (line first_step second_step : ℕ) : Type 0 where
  pub first_at : ℕ
  pub first_state : State
  pub second_at : ℕ
  pub second_state : State
  pub first : ExitsIn a k x first_at first_step first_state
  pub second : ExitsIn b k y second_at second_step second_state
  pub apart : differing_line links first_state second_state ≡ Some line

-- a pair of starts from a linked pair
pub record ArePairedStarts (a b : Program) (links : List Link) (x y : Start) : Type 0 where
  pub first : IsStart a x
  pub second : IsStart b y
  pub linked : unlinked_line links x.state y.state ≡ None

-- the two functions are equal: there is a linked pair, and both runs of each exit alike, whatever the choices are
abbrev pub AreEqual : (a b : Program) → (k : ℕ) → List Link → Type 0
AreEqual a b k links =
    ((s t : State) × IsLinkedPair a b links s t)
    × ((x y : Start) → ArePairedStarts a b links x y → ExitAlike a b k links x y)

-- some linked pair exits in states that differ
abbrev pub AreDifferent : (a b : Program) → (k : ℕ) → List Link → Type 0
AreDifferent a b k links = (x y : Start) × (line m n : ℕ) × ArePairedStarts a b links x y × ExitApart a b k links x y line m n

-- ---- the two questions

-- a reading of each side
pub record Readings : Type 0 where
  pub first : Reading
  pub second : Reading

-- the run of a reading exits in a state
pub record ReadingExitsIn (p : Program) (k : ℕ) (r : Reading) (s : State) : Type 0 where
  pub number : ℕ
  pub turns : ℕ
  pub place : Place
  pub before : read_run p k r number ≡ Going turns number place
  pub leaves : step (by_file p) r.state place (r.choice (point_of turns place)) ≡ Exits s

-- the runs of both readings exit in states that differ
pub record ReadingsDiffer (a b : Program) (k : ℕ) (links : List Link) (r : Readings) : Type 0 where
  pub line : ℕ
  pub first_state : State
  pub second_state : State
  pub first : ReadingExitsIn a k r.first first_state
  pub second : ReadingExitsIn b k r.second second_state
  pub apart : differing_line links first_state second_state ≡ Some line

abbrev pub PairEndsBy : (a b : Program) → (k : ℕ) → List Link → Readings → PairQuestion → Type 0
PairEndsBy a b k links r PairOfStates = Unit {0}
PairEndsBy a b k links r DifferenceOfExits = ReadingsDiffer a b k links r

-- the question over some bytes of each file, which tests of addresses tell, is true of the readings
pub record IsTrueOfPairOver (a b : Program) (first_asked second_asked : ℕ → Bool) (k : ℕ) (links : List Link) (r : Readings) (question : PairQuestion) :
    Type 0 where
  pub first_choice : (point : Point) → r.first.choice point < 4
  pub second_choice : (point : Point) → r.second.choice point < 4
  pub first_entry : IsEntryStateOver a first_asked r.first.state
  pub second_entry : IsEntryStateOver b second_asked r.second.state
  pub linked : unlinked_line links r.first.state r.second.state ≡ None
  pub ends : PairEndsBy a b k links r question

-- the question is true of the readings
pub record IsTrueOfPair (a b : Program) (k : ℕ) (links : List Link) (r : Readings) (question : PairQuestion) : Type 0 where
  pub first_choice : (point : Point) → r.first.choice point < 4
  pub second_choice : (point : Point) → r.second.choice point < 4
  pub pair : IsLinkedPair a b links r.first.state r.second.state
  pub ends : PairEndsBy a b k links r question

abbrev pub IsSatisfiablePair : (a b : Program) → (k : ℕ) → List Link → PairQuestion → Type 0
IsSatisfiablePair a b k links question = (r : Readings) × IsTrueOfPair a b k links r question

-- ---- points and price of both together

-- there are more points than max
abbrev pub HaveMore : (a b : Program) → (k max : ℕ) → Type 0
HaveMore a b k max = (m n : ℕ) × HasMore a k m × HasMore b k n × (m + n + 2 ≡ max + 1)

-- the bytes that links share, and those that they want the same
abbrev pub shared_bytes : List Link → ℕ
shared_bytes [] = 0
shared_bytes (SharedBytes n low high ∷ rest) = high + 1 - low + shared_bytes rest
shared_bytes (other ∷ rest) = shared_bytes rest

abbrev pub same_bytes : List Link → ℕ
same_bytes [] = 0
same_bytes (SameBytes n low high ∷ rest) = high + 1 - low + same_bytes rest
same_bytes (other ∷ rest) = same_bytes rest

-- the points that may exit
abbrev pub exit_points : Program → List Point → ℕ
exit_points p points = length (filter (λ q. list_any is_exit (edges p q)) points)

-- the byte loads that links add to a side: one for each shared byte, and one for each byte that is to be the same at each point that may exit
abbrev pub linked_loads : List Link → Program → List Point → ℕ
linked_loads links p points = shared_bytes links + same_bytes links * exit_points p points

-- What more byte loads add to a price: the loads, their pairs with stores, with edges, with each other and with the loads that were there, and with known
-- bytes.
abbrev pub added_price : (more loads stores ends known : ℕ) → ℕ
added_price x l s e k = 128 * x + 64 * (x * s) + 16 * (x * e) + 32 * (x * (2 * l + x - 1)) + 40 * (x * k)

-- the price of a side with the loads of the links
abbrev pub side_price : List Link → Program → List Point → (known runs : ℕ) → ℕ
side_price links p points known runs =
    price_of p points known runs
    + added_price (linked_loads links p points) (loads_among p points) (sum_by (λ q. stores_at (file_row p q.at)) points)
    (sum_by (λ q. length (edges p q)) points) known

-- the price of both: the sides', and what pays for the links
abbrev pub links_price : List Link → ℕ
links_price links = 1024 + 512 * length links + 512 * (shared_bytes links + same_bytes links)

pub record IsPairPrice (a b : Program) (k : ℕ) (links : List Link) (price : ℕ) : Type 0 where
  pub first_points : List Point
  pub second_points : List Point
  pub first_known : ℕ
  pub first_runs : ℕ
  pub second_known : ℕ
  pub second_runs : ℕ
  pub are_first : ArePoints a k first_points
  pub are_second : ArePoints b k second_points
  pub first_known_is : IsCount (is_known_at a) first_known
  pub first_runs_are : IsCount (begins_run a) first_runs
  pub second_known_is : IsCount (is_known_at b) second_known
  pub second_runs_are : IsCount (begins_run b) second_runs
  pub price_is : price ≡ side_price links a first_points first_known first_runs + side_price links b second_points second_known second_runs + links_price links
