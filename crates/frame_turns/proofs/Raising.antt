-- A refutation of a question of a frame within a bound is one of the question within every greater bound.
use Rattle.std.proofs.Common.{◌≡◌, ◌⊎◌, inl, inr, refl, arith, ℕ, zero, suc, ◌+◌, ◌≤◌, List, [], ◌∷◌, ◌++◌, length, Option, Some, None, Bool, true, false, ap, add-one}
use Rattle.std.specs.Prelude.{Contains, ◌==◌, ◌||◌, nat_eq, filter, map, max, slice_get}
use Rattle.std.specs.List.{list_any}
use Rattle.std.proofs.lemmas.Bool.{or_right}
use Rattle.std.proofs.lemmas.List.Elements.{Contains-append_left, Contains-append_right}
use Rattle.std.proofs.lemmas.List.{length-append, length-map}
use Rattle.word_spec.specs.Words.{add}
use Rattle.clause_spec.specs.Clauses.{Satisfies}
use Rattle.clause_spec.specs.Refutation.{Proof}
use Rattle.clause_spec.proofs.RefutationSound.{refutation_sound}
use Rattle.bilv_spec.proofs.Pigeons.{truth, no_longer}
use Rattle.bilv_spec.proofs.PointSteps.{in_filter}
use Rattle.bilv_spec.proofs.PointTests.{any_is}
use Rattle.frame_spec.specs.Frames.{Contract, Frame}
use Rattle.frame_spec.specs.FramePoints.{has_heads}
use Rattle.frame_spec.specs.FrameQuestions.{Addresses, EntryPart, EntryQuestion, FailQuestion, GivenPart, HasFlag, HasRegister, HeadPart, Input, IsInput, IsTrueOver, OfByte, OfChoice, OfFlag, OfRegister, Part, Question, Reading, StepQuestion, TurnQuestion, input_value}
use Rattle.frame_spec.specs.FrameReports.{AreInputs, AreOfQuestion, ComesFrom, Refutes, is_of_byte, loads_among}
use Rattle.frame_spec.specs.FrameWalk.{UnrolledProgram}
use Rattle.frame_spec.specs.FrameUnrolling.{IsUnrolling}
use Rattle.frame_laws.specs.FramePrices.{unrolled_price}
use Rattle.frame_laws.specs.RunOfFrame.{AsksKnown}
use Rattle.frame_laws.proofs.FrameExits.{some_passes}
use Rattle.frame_laws.proofs.FramePriceLaw.{frame_price_is_price}
use Rattle.frame_terms.specs.FrameClauseForm.{input_list, named}
use Rattle.frame_terms.proofs.FrameInputPrices.{byte_inputs, inputs_within}
use Rattle.frame_turns.specs.Bounds.{NeverTrue, SameAnchors}
use Rattle.frame_turns.specs.Raised.{AskedOfMore, FrameRefutationsMove, FrameRefutationsRise, FrameRefutedNeverTrue, IsWhole, NeverTrueOfMore, NoneTurns, free_inputs, over_variables}
use Rattle.frame_turns.proofs.AlikeQuestions.{frame_questions_rise}
use Rattle.frame_turns.proofs.AnchorCounts.{frame_points_rise}
use Rattle.frame_turns.proofs.FreeInputs.{inputs_are, one_cell}
use Rattle.frame_turns.proofs.MoreVariables.{refutes_more}
use Rattle.frame_turns.proofs.Prices.{frame_prices_rise}

abbrev value_if : Addresses → Reading → Option Input → Bool
value_if address r None = false
value_if address r (Some x) = input_value address r x == 1

-- the valuation that has the reading's values of the inputs
abbrev values : List Input → Addresses → Reading → ℕ → Bool
values inputs address r zero = false
values inputs address r (suc i) = value_if address r (slice_get inputs i)

comes : (inputs : List Input) (address : Addresses) (r : Reading) → ComesFrom inputs address (values inputs address r) r
comes inputs address r i x h = rw (add-one) (ap (value_if address r) h)

pub frame_refuted_never_true : FrameRefutedNeverTrue
frame_refuted_never_true f k question proof h r t =
    let q = h.of_question in
    let v = q.extends.where_true (values q.inputs q.address r) (r, comes q.inputs q.address r, t) in
    refutation_sound proof.clauses.variables proof.clauses.clauses proof.log h.refutation v.0 v.2

-- what is true over some bytes is true over fewer
fewer : (f : Frame) (few many : ℕ → Bool) → ((a : ℕ) → few a ≡ true → many a ≡ true) → (k : ℕ) (q : Question) (r : Reading) → IsTrueOver f many k r q →
    IsTrueOver f few k r q
fewer f few many asks k q r t = record {
  reading = t.reading;
  entry = record {
    state = t.entry.state;
    pc = t.entry.pc;
    link = t.entry.link;
    bytes = λ a c low is ask. t.entry.bytes a c low is (asks a ask);
    requires = t.entry.requires;
  };
  head = λ heads of_head a c low is kept ask. t.head heads of_head a c low is kept (asks a ask);
  ends = t.ends;
}

pub never_true_of_more : NeverTrueOfMore
never_true_of_more f few many asks k question never r t = never r (fewer f few many asks k question r t)

module _ (f : Frame) (k m : ℕ) (h : k ≤ m) where
  -- what is an input within a bound, and no byte, is one within a greater bound
  register_rises : (part : Part) (n : ℕ) → HasRegister f k part n → HasRegister f m part n
  register_rises EntryPart n is = is
  register_rises HeadPart n is = is
  register_rises (GivenPart q) n (x, is, inside) =
      (x, record { point = frame_points_rise f k m h q is.point; contract = is.contract; is = is.is }, inside)

  flag_rises : (part : Part) (g : ℕ) → HasFlag f k part g → HasFlag f m part g
  flag_rises EntryPart g is = is
  flag_rises HeadPart g is = is
  flag_rises (GivenPart q) g (x, is, inside) =
      (x, record { point = frame_points_rise f k m h q is.point; contract = is.contract; is = is.is }, inside)

  input_rises : (loads more : ℕ) (x : Input) → is_of_byte x ≡ false → IsInput f k loads x → IsInput f m more x
  input_rises loads more (OfRegister part n i) word is = (register_rises part n is.0, is.1)
  input_rises loads more (OfFlag part g) word is = flag_rises part g is
  input_rises loads more (OfChoice q i) word is = (frame_points_rise f k m h q is.0, is.1, is.2, is.3)
  input_rises loads more (OfByte part read i) word is = absurd (let e : true ≡ false = word in cc)

  -- so there are no more of them
  inputs_rise : (loads more : ℕ) (xs ys : List Input) → AreInputs f k loads xs → AreInputs f m more ys → length xs ≤ length (filter is_of_byte xs) + length ys
  inputs_rise loads more xs ys a b =
      let most = no_longer (filter is_of_byte xs ++ ys) xs inside a.once (OfFlag EntryPart 0) in
      let long = length-append (filter is_of_byte xs) ys in omega (arith, most, long)
    where
      inside : (x : Input) → Contains xs x → Contains (filter is_of_byte xs ++ ys) x
      inside x has = elim (truth (is_of_byte x)) [
        | inl t ↦ Contains-append_left (filter is_of_byte xs) ys x (in_filter is_of_byte xs x has t)
        | inr t ↦ Contains-append_right (filter is_of_byte xs) ys x (b.all x (input_rises loads more x t (a.only x has)) t)
      ]

  module _ (contracts : List Contract) (question : Question) (proof : Proof) (is : Refutes f k question proof) (asked : ℕ → Bool) (known : AsksKnown f asked)
      (never : NeverTrue f asked m question) (u : UnrolledProgram) (whole : IsWhole f contracts m u) where
    unsatisfied : (v : ℕ → Bool) → Satisfies v proof.clauses.clauses → ⊥
    unsatisfied v sat = refutation_sound proof.clauses.variables proof.clauses.clauses proof.log is.refutation v sat

    abbrev un : IsUnrolling f contracts m u
    un = whole.unrolling

    abbrev inputs : List Input
    inputs = map (named u) (input_list u (has_heads f) one_cell)

    raised : AreOfQuestion f m question (over_variables (free_inputs u (has_heads f)) proof).clauses
    raised =
        let q = is.of_question in
        let all = inputs_are f contracts m u un (loads_among f (map (λ q. q.point) u.points)) whole.fitting in
        let long : length inputs ≡ free_inputs u (has_heads f) = length-map (input_list u (has_heads f) one_cell) (named u) in
        let bytes = byte_inputs f whole.lawful contracts m u un whole.fitting (has_heads f) one_cell in
        let fits = inputs_within f whole.lawful contracts m u un whole.fitting (has_heads f) one_cell (omega arith) in
        let price = frame_prices_rise f k m h q.price (unrolled_price u (has_heads f)) q.is_price (frame_price_is_price f contracts m u un) in
        let more = inputs_rise _ _ q.inputs inputs q.are_inputs all in
        let gates = q.few_gates in
        record {
          points = map (λ q. q.point) u.points;
          are_points = un.points;
          inputs = inputs;
          are_inputs = all;
          asked = asked;
          asks_known = known;
          address = λ r part read. 0;
          decide = record {
            below = λ r part read. omega arith;
            by_earlier = λ r t n part read i at ir it first. refl;
            decides = λ r t holds it pc agrees head first. absurd (never r holds);
          };
          extends = record {
            over = λ c has l is_in. (let g = q.extends.over c has l is_in in (g.0, omega (arith, g.1)));
            once = λ v w a s t. absurd (unsatisfied v s);
            only = λ v s. absurd (unsatisfied v s);
            where_true = λ a fact. absurd (never fact.0 fact.2);
          };
          price = unrolled_price u (has_heads f);
          is_price = frame_price_is_price f contracts m u un;
          few_inputs = (omega arith, omega arith);
          few_gates = omega arith;
        }

    pub moves : Refutes f m question (over_variables (free_inputs u (has_heads f)) proof)
    moves = record {
      of_question = raised;
      refutation = refutes_more proof.clauses.variables (max proof.clauses.variables (free_inputs u (has_heads f))) (omega arith) proof.clauses.clauses
          proof.log is.refutation;
    }

pub frame_refutations_move : FrameRefutationsMove
frame_refutations_move f contracts k m h question proof is asked known never u whole = moves f k m h contracts question proof is asked known never u whole

module _ (f : Frame) (asked : ℕ → Bool) (k m : ℕ) (h : k ≤ m) where
  same_entry : (r : Reading) → IsTrueOver f asked m r EntryQuestion → IsTrueOver f asked k r EntryQuestion
  same_entry r t = record { reading = t.reading; entry = t.entry; head = t.head; ends = tt }

  by_turns : (question : Question) → SameAnchors f k m → NeverTrue f asked k TurnQuestion → NeverTrue f asked k question → NeverTrue f asked m question
  by_turns question anchors turn never r t = never r ((frame_questions_rise f asked k m h anchors turn r question).1 t)

  -- what no reading makes true within the smaller bound, none does within the greater one
  never_rises : (question : Question) → NeverTrue f asked k question → NoneTurns f asked k m question → NeverTrue f asked m question
  never_rises EntryQuestion never none r t = never r (same_entry r t)
  never_rises FailQuestion never none r t = by_turns FailQuestion none.0 none.1 never r t
  never_rises StepQuestion never none r t = by_turns StepQuestion none.0 none.1 never r t
  never_rises TurnQuestion never none r t = by_turns TurnQuestion none never never r t

pub frame_refutations_rise : FrameRefutationsRise
frame_refutations_rise f contracts k m h question proof is asked known never none u whole =
    moves f k m h contracts question proof is asked known (never_rises f asked k m h question never none) u whole

either : (a b : Bool) → (a || b) ≡ true → (a ≡ true) ⊎ (b ≡ true)
either true b h = inl refl
either false b h = inr h

pub asked_of_more : AskedOfMore
asked_of_more few many literals inside a is =
    elim (either (list_any (nat_eq a) few) (list_any (λ l. list_any (λ i. a == add 32 l i) (0 ∷ 1 ∷ 2 ∷ 3 ∷ [])) literals) is) [
      | inl t ↦ (let q = any_is (nat_eq a) few t in
          let found = some_passes (nat_eq a) many q.0 (inside q.0 q.1) q.2 in
          ap (λ z. z || list_any (λ l. list_any (λ i. a == add 32 l i) (0 ∷ 1 ∷ 2 ∷ 3 ∷ [])) literals) found)
      | inr t ↦ or_right (list_any (nat_eq a) many) (list_any (λ l. list_any (λ i. a == add 32 l i) (0 ∷ 1 ∷ 2 ∷ 3 ∷ [])) literals) t
    ]
