-- A refutation of a question about two functions within a bound that no run of either exceeds is one within every greater bound.
use Rattle.std.proofs.Common.{◌≡◌, refl, ap, ◌∙◌, arith, ℕ, ◌+◌, ◌≤◌, ◌<◌, List, length, Option, Some, None, Bool, true, false}
use Rattle.std.specs.Prelude.{Contains, filter, is_some, map, max, ◌||◌, ◌&&◌}
use Rattle.word_spec.specs.State.{State}
use Rattle.clause_spec.specs.Clauses.{Satisfies}
use Rattle.clause_spec.specs.Refutation.{Proof}
use Rattle.clause_spec.proofs.RefutationSound.{refutation_sound}
use Rattle.bilv_spec.specs.Elf.{Cell, is_kept, kept}
use Rattle.bilv_spec.specs.Run.{Program}
use Rattle.bilv_spec.specs.Points.{Point, ArePoints, IsCount, begins_run, is_known_at, price_of}
use Rattle.bilv_spec.specs.Questions.{IsEntryStateOver, Reading}
use Rattle.bilv_spec.specs.Verdict.{IsEntryState, fixed}
use Rattle.bilv_spec.specs.Evidence.{Input, OfRegister, OfFlag, OfChoice, OfByte, IsInput, is_of_byte, AreInputs, loads_among}
use Rattle.bilv_spec.proofs.AllPoints.{one_price}
use Rattle.call_spec.specs.Calls.{PairQuestion}
use Rattle.pair_spec.specs.Links.{Link}
use Rattle.pair_spec.specs.PairEvidence.{AreOfPair, AreOfSide, RefutesPair}
use Rattle.pair_spec.specs.Pairs.{IsPairPrice, IsTrueOfPair, IsTrueOfPairOver, Readings, linked_loads, side_price}
use Rattle.term_spec.specs.Cells.{Cells}
use Rattle.term_spec.specs.ClauseForm.{first_byte, input_list}
use Rattle.walk_spec.specs.Prices.{unrolled_price}
use Rattle.walk_spec.specs.Unrolled.{UnrolledProgram}
use Rattle.walk_spec.proofs.PriceLaw.{price_is_price}
use Rattle.walk_laws.proofs.InputPlaces.{all_long}
use Rattle.walk_laws.proofs.InputsWithin.{inputs_within}
use Rattle.walk_laws.proofs.QuestionClauses.{inputs_are, byte_inputs}
use Rattle.turn_laws.specs.Raised.{over_variables}
use Rattle.turn_laws.proofs.Raising.{inputs_rise, no_cells, refutes_more}
use Rattle.pair_turns.specs.PairBounds.{NoneExceeds}
use Rattle.pair_turns.specs.PairsRaised.{IsFitted, RefutedPairsRise}
use Rattle.pair_turns.proofs.PairPrices.{pair_prices_rise}
use Rattle.pair_turns.proofs.PairsAlike.{falls}
use Rattle.pair_turns.proofs.Refuted.{refuted_pair}

-- a byte that is kept or fixed is known
known_as_kept : (o : Option Cell) (c : Cell) (f : Bool) → o ≡ Some c → kept c ≡ true → (is_kept o || (is_some o && f)) ≡ true
known_as_kept None c f e k = absurd (cc)
known_as_kept (Some d) c f e k = let same : d ≡ c = cc in rw (same, k) refl

or_true : (b : Bool) → (b || true) ≡ true
or_true true = refl
or_true false = refl

known_as_fixed : (o : Option Cell) (c : Cell) (f : Bool) → o ≡ Some c → f ≡ true → (is_kept o || (is_some o && f)) ≡ true
known_as_fixed None c f e k = absurd (cc)
known_as_fixed (Some d) c f e k = rw (k) (or_true (kept d))

-- an entry state as far as all known bytes are asked is one
whole : (p : Program) (s : State) → IsEntryStateOver p (is_known_at p) s → IsEntryState p s
whole p s is = record {
  state = is.state;
  pc = is.pc;
  link = is.link;
  kept_bytes = λ a c low e k. is.bytes a c low e (known_as_kept (p.loaded a) c (fixed p.notes.fixed a) e k);
  fixed_bytes = λ a c low e k. is.bytes a c low e (known_as_fixed (p.loaded a) c (fixed p.notes.fixed a) e k);
  requires = is.requires;
}

whole_pair : (a b : Program) (m : ℕ) (links : List Link) (r : Readings) (question : PairQuestion) →
    IsTrueOfPairOver a b (is_known_at a) (is_known_at b) m links r question → IsTrueOfPair a b m links r question
whole_pair a b m links r question t = record {
  first_choice = t.first_choice;
  second_choice = t.second_choice;
  pair = record { first = whole a r.first.state t.first_entry; second = whole b r.second.state t.second_entry; linked = t.linked };
  ends = t.ends;
}

-- inputs within so many byte loads are inputs within more
module _ (p : Program) (m loads more : ℕ) where
  wider : (x : Input) → IsInput p m loads x → IsInput p m (loads + more) x
  wider (OfRegister n i) is = is
  wider (OfFlag f) is = is
  wider (OfChoice point i) is = is
  wider (OfByte read i) is = (let few = is.0 in omega (arith, few), is.1)

  narrower : (x : Input) → is_of_byte x ≡ false → IsInput p m (loads + more) x → IsInput p m loads x
  narrower (OfRegister n i) word is = is
  narrower (OfFlag f) word is = is
  narrower (OfChoice point i) word is = is
  narrower (OfByte read i) word is = absurd (let e : true ≡ false = word in cc)

  with_loads : (xs : List Input) → AreInputs p m loads xs → AreInputs p m (loads + more) xs
  with_loads xs are = record {
    only = λ x has. wider x (are.only x has);
    all = λ x is word. are.all x (narrower x word is) word;
    whole = are.whole;
    once = are.once;
  }

-- the inputs of a side besides bytes
module _ (p : Program) (m : ℕ) (links : List Link) (u : UnrolledProgram) (is : IsFitted p m u) where
  abbrev points : List Point
  points = map (λ q. q.point) u.points

  pub of_side : AreOfSide p m links (input_list u no_cells) (is_known_at p) (λ r read. 0)
  of_side = record {
    points = points;
    are_points = is.unrolling.points;
    are_inputs = with_loads p m (loads_among p points) (linked_loads links p points) (input_list u no_cells)
        (inputs_are p m u is.unrolling no_cells (omega arith));
    asks_known = λ a e. e;
    below = λ r read. omega arith;
    by_earlier = λ r t n read i at ir it first. refl;
  }

  pub long : length (input_list u no_cells) ≡ first_byte u
  long = let all = all_long p m u is.unrolling no_cells in omega (arith, all)

  pub no_bytes : length (filter is_of_byte (input_list u no_cells)) ≡ 0
  no_bytes = let few = byte_inputs p m u is.unrolling no_cells (omega arith) in omega (arith, few)

  -- they are paid for
  pub paid : first_byte u ≤ unrolled_price u
  paid = let fits = inputs_within u no_cells is.fitting (λ i l. (is.unrolling.places i l).terms) (omega arith) in omega (arith, fits)

  pub side_paid : (xs : List Point) (known runs : ℕ) → ArePoints p m xs → IsCount (is_known_at p) known → IsCount (begins_run p) runs →
      first_byte u ≤ side_price links p xs known runs
  side_paid xs known runs are a b =
      let same = one_price p m (unrolled_price u) (price_of p xs known runs) (price_is_price p m u is.unrolling) (xs, known, runs, are, a, b, refl) in
      let enough = paid in omega (arith, same, enough)

-- those of both sides are paid for
pub both_paid : (a b : Program) (m : ℕ) (links : List Link) (price : ℕ) → IsPairPrice a b m links price → (u w : UnrolledProgram) → IsFitted a m u →
    IsFitted b m w → first_byte u + first_byte w ≤ price
both_paid a b m links price is u w first second =
    let one = side_paid a m links u first is.first_points is.first_known is.first_runs is.are_first is.first_known_is is.first_runs_are in
    let two = side_paid b m links w second is.second_points is.second_known is.second_runs is.are_second is.second_known_is is.second_runs_are in
    let total = is.price_is in
    omega (arith, one, two, total)

module _ (a b : Program) (k m : ℕ) (h : k ≤ m) (one : NoneExceeds a k) (two : NoneExceeds b k) (links : List Link) (question : PairQuestion) (proof : Proof)
    (is : RefutesPair a b k links question proof) (price : ℕ) (is_price : IsPairPrice a b m links price) (u w : UnrolledProgram) (first : IsFitted a m u)
    (second : IsFitted b m w) where
  -- no readings make the question of the greater bound true
  never : (r : Readings) → ¬ IsTrueOfPairOver a b (is_known_at a) (is_known_at b) m links r question
  never r t = refuted_pair a b k links question proof is (r, falls k m h a b links one two r question (whole_pair a b m links r question t))

  unsatisfied : (v : ℕ → Bool) → Satisfies v proof.clauses.clauses → ⊥
  unsatisfied v sat = refutation_sound proof.clauses.variables proof.clauses.clauses proof.log is.refutation v sat

  raised : AreOfPair a b m links question (over_variables (first_byte u + first_byte w) proof).clauses
  raised =
      let q = is.of_pair in
      let side = of_side a m links u first in
      let other = of_side b m links w second in
      let first_long = long a m links u first in
      let second_long = long b m links w second in
      let first_none = no_bytes a m links u first in
      let second_none = no_bytes b m links w second in
      let paid = both_paid a b m links price is_price u w first second in
      let rise = pair_prices_rise a b k m h links q.price price q.is_price is_price in
      let first_more = inputs_rise a k m h _ _ q.first (input_list u no_cells) q.of_first.are_inputs side.are_inputs in
      let second_more = inputs_rise b k m h _ _ q.second (input_list w no_cells) q.of_second.are_inputs other.are_inputs in
      let gates = q.few_gates in
      record {
        first = input_list u no_cells;
        second = input_list w no_cells;
        first_asked = is_known_at a;
        second_asked = is_known_at b;
        first_address = λ r read. 0;
        second_address = λ r read. 0;
        of_first = side;
        of_second = other;
        decides = λ r t holds it jt pc pc' agree agree' same same'. absurd (never r holds);
        extends = record {
          over = λ c has l is_in. (let f = q.extends.over c has l is_in in (f.0, omega (arith, f.1)));
          once = λ v w a s t. absurd (unsatisfied v s);
          only = λ v s. absurd (unsatisfied v s);
          where_true = λ a fact. absurd (never fact.0 fact.2);
        };
        price = price;
        is_price = is_price;
        few_inputs = (omega (arith, first_long, second_long, paid), omega (arith, first_long, second_long));
        few_gates = omega (arith, first_long, second_long, first_none, second_none, first_more, second_more, rise, gates);
      }

  pub rises : RefutesPair a b m links question (over_variables (first_byte u + first_byte w) proof)
  rises = record {
    of_pair = raised;
    refutation = refutes_more proof.clauses.variables (max proof.clauses.variables (first_byte u + first_byte w)) (omega arith) proof.clauses.clauses proof.log
        is.refutation;
  }

pub refuted_pairs_rise : RefutedPairsRise
refuted_pairs_rise a b k m h one two links question proof is price is_price u w first second =
    rises a b k m h one two links question proof is price is_price u w first second
