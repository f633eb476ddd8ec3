-- Clauses that are tied to a question about two functions, and what shows an answer about both.
use Rattle.std.specs.Prelude.{ℕ, ◌≡◌, ◌≤◌, ◌<◌, ◌+◌, ◌^◌, Bool, true, List, Some, length, filter, slice_get}
use Rattle.clause_spec.specs.Clauses.{Cnf, ExtendsOnceWhere}
use Rattle.clause_spec.specs.Refutation.{IsRefutation, Proof}
use Rattle.clause_spec.specs.Empowering.{IsSpent}
use Rattle.bilv_spec.specs.Run.{Program}
use Rattle.bilv_spec.specs.Points.{Point, ArePoints, is_known_at}
use Rattle.bilv_spec.specs.Questions.{Reading, IsReading}
use Rattle.bilv_spec.specs.Evidence.{Input, OfByte, is_of_byte, AreInputs, Addresses, ComesFrom, AgreeOnFirst, AgreesOn, loads_among}
use Rattle.pair_spec.specs.Links.{Link}
use Rattle.call_spec.specs.Calls.{PairQuestion, PairOfStates, DifferenceOfExits}
use Rattle.pair_spec.specs.Pairs.{Readings, IsLinkedPair, IsTrueOfPairOver, IsPairPrice, linked_loads}

-- The inputs of one side, within its byte loads and those of the links; the bytes of its file that are asked; and the addresses of its base reads, each of
-- which is decided by the inputs of this side that stand before it.
pub record AreOfSide (p : Program) (k : ℕ) (links : List Link) (inputs : List Input) (asked : ℕ → Bool) (address : Addresses) : Type 0 where
  pub points : List Point
  pub are_points : ArePoints p k points
  pub are_inputs : AreInputs p k (loads_among p points + linked_loads links p points) inputs
  pub asks_known : (a : ℕ) → asked a ≡ true → is_known_at p a ≡ true
  pub below : (r : Reading) (read : ℕ) → address r read < 2 ^ 32
  pub by_earlier : (r t : Reading) (n read i : ℕ) → slice_get inputs n ≡ Some (OfByte read i) → IsReading r → IsReading t →
      AgreeOnFirst n inputs address r t → address r read ≡ address t read

-- a valuation from a place on
abbrev pub behind : ℕ → (ℕ → Bool) → ℕ → Bool
behind n v i = v (n + i)

-- the inputs of both sides, the first side's before the second's
pub record ComeFrom (first second : List Input) (first_address second_address : Addresses) (v : ℕ → Bool) (r : Readings) : Type 0 where
  pub of_first : ComesFrom first first_address v r.first
  pub of_second : ComesFrom second second_address (behind (length first) v) r.second

-- The clauses are those of a question about two functions: as those of a question about one, with the inputs of both sides.
pub record AreOfPair (a b : Program) (k : ℕ) (links : List Link) (question : PairQuestion) (cnf : Cnf) : Type 0 where
  pub first : List Input
  pub second : List Input
  pub first_asked : ℕ → Bool
  pub second_asked : ℕ → Bool
  pub first_address : Addresses
  pub second_address : Addresses
  pub of_first : AreOfSide a k links first first_asked first_address
  pub of_second : AreOfSide b k links second second_asked second_address
  pub decides : (r t : Readings) → IsTrueOfPairOver a b first_asked second_asked k links r question → IsReading t.first → IsReading t.second →
      t.first.state.pc ≡ r.first.state.pc → t.second.state.pc ≡ r.second.state.pc →
      AgreesOn a first_asked t.first.state → AgreesOn b second_asked t.second.state →
      AgreeOnFirst (length first) first first_address r.first t.first → AgreeOnFirst (length second) second second_address r.second t.second →
      IsTrueOfPairOver a b first_asked second_asked k links t question
  pub extends : ExtendsOnceWhere (length first + length second) cnf
      (λ v. (r : Readings) × ComeFrom first second first_address second_address v r × IsTrueOfPairOver a b first_asked second_asked k links r question)
  pub price : ℕ
  pub is_price : IsPairPrice a b k links price
  pub few_inputs : (length first + length second ≤ price) × (length first + length second ≤ cnf.variables)
  pub few_gates : cnf.variables + (length (filter is_of_byte first) + length (filter is_of_byte second)) ≤ length first + length second + price

-- a refutation of the question, and a search that spent the conflicts on it
pub record RefutesPair (a b : Program) (k : ℕ) (links : List Link) (question : PairQuestion) (proof : Proof) : Type 0 where
  pub of_pair : AreOfPair a b k links question proof.clauses
  pub refutation : IsRefutation proof.clauses.variables proof.clauses.clauses proof.log

pub record SpendsPair (a b : Program) (k : ℕ) (links : List Link) (question : PairQuestion) (conflicts : ℕ) (proof : Proof) : Type 0 where
  pub of_pair : AreOfPair a b k links question proof.clauses
  pub spent : IsSpent proof.clauses.clauses conflicts proof.log

-- the question of the pair is due where both sides hold, that of the difference where besides there is a linked pair
abbrev pub IsPairDue : (a b : Program) → List Link → PairQuestion → Type 0
IsPairDue a b links PairOfStates = Unit {0}
IsPairDue a b links DifferenceOfExits = (s : _) × (t : _) × IsLinkedPair a b links s t
