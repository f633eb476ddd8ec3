-- A question about two functions that is refuted is true of no readings.
use Rattle.std.proofs.Common.{◌≡◌, ℕ, zero, suc, ◌+◌, ◌-◌, Bool, false, List, Option, Some, None, ap, ◌∙◌, add-one, arith}
use Rattle.std.specs.Prelude.{slice_get, length, true}
use Rattle.std.proofs.lemmas.Option.{slice_get_past}
use Rattle.clause_spec.specs.Refutation.{Proof}
use Rattle.clause_spec.proofs.RefutationSound.{refutation_sound}
use Rattle.bilv_spec.specs.Run.{Program}
use Rattle.bilv_spec.specs.Points.{is_known_at}
use Rattle.bilv_spec.specs.Questions.{Reading}
use Rattle.bilv_spec.specs.Evidence.{Input, Addresses, input_value}
use Rattle.bilv_spec.proofs.AskedBytes.{entry_over}
use Rattle.call_spec.specs.Calls.{PairQuestion}
use Rattle.pair_spec.specs.Links.{Link}
use Rattle.pair_spec.specs.Pairs.{Readings, IsTrueOfPair, IsTrueOfPairOver, IsSatisfiablePair}
use Rattle.pair_spec.specs.PairEvidence.{ComeFrom, RefutesPair}

abbrev value_or : Addresses → Reading → Option Input → Bool → Bool
value_or address r None other = other
value_or address r (Some x) other = input_value address r x

-- the valuation that has the values of the inputs of both readings
module _ (first second : List Input) (first_address second_address : Addresses) (r : Readings) where
  abbrev after_first : ℕ → Bool
  after_first i = value_or second_address r.second (slice_get second (i - length first)) false

  abbrev values : ℕ → Bool
  values zero = false
  values (suc i) = value_or first_address r.first (slice_get first i) (after_first i)

  come_second : (i : ℕ) (x : Input) → slice_get second i ≡ Some x → values (length first + (i + 1)) ≡ input_value second_address r.second x
  come_second i x h =
      let none : slice_get first (length first + i) ≡ None = slice_get_past first (length first + i) (omega arith) in
      let back : length first + i - length first ≡ i = omega arith in
      let at : length first + (i + 1) ≡ suc (length first + i) = omega arith in
      ap values at ∙ ap (λ o. value_or first_address r.first o (after_first (length first + i))) none
      ∙ ap (λ n. value_or second_address r.second (slice_get second n) false) back
      ∙ ap (λ o. value_or second_address r.second o false) h

  come : ComeFrom first second first_address second_address values r
  come = record {
    of_first = λ i x h. rw (add-one) (ap (λ o. value_or first_address r.first o (after_first i)) h);
    of_second = come_second;
  }

-- a question that is true of readings is true over known bytes that are asked
true_over : (a b : Program) (first_asked second_asked : ℕ → Bool) (k : ℕ) (links : List Link) (r : Readings) (question : PairQuestion) →
    ((x : ℕ) → first_asked x ≡ true → is_known_at a x ≡ true) → ((x : ℕ) → second_asked x ≡ true → is_known_at b x ≡ true) →
    IsTrueOfPair a b k links r question → IsTrueOfPairOver a b first_asked second_asked k links r question
true_over a b first_asked second_asked k links r question asks ask t = record {
  first_choice = t.first_choice;
  second_choice = t.second_choice;
  first_entry = entry_over a first_asked r.first.state asks t.pair.first;
  second_entry = entry_over b second_asked r.second.state ask t.pair.second;
  linked = t.pair.linked;
  ends = t.ends;
}

pub refuted_pair : (a b : Program) (k : ℕ) (links : List Link) (question : PairQuestion) (proof : Proof) → RefutesPair a b k links question proof →
    ¬ IsSatisfiablePair a b k links question
refuted_pair a b k links question proof h s =
    let q = h.of_pair in
    let over = true_over a b q.first_asked q.second_asked k links s.0 question q.of_first.asks_known q.of_second.asks_known s.1 in
    let v = q.extends.where_true (values q.first q.second q.first_address q.second_address s.0)
    (s.0, come q.first q.second q.first_address q.second_address s.0, over) in
    refutation_sound proof.clauses.variables proof.clauses.clauses proof.log h.refutation v.0 v.2
