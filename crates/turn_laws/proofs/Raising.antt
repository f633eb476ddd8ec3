-- A refutation of a question within a bound is one of the question within every greater bound.
use Rattle.std.proofs.Common.{◌≡◌, inl, inr, refl, ap, ◌∙◌, arith, ℕ, ◌+◌, ◌≤◌, ◌<◌, List, [], ◌∷◌, ◌++◌, length, Option, Some, None, Bool, true, false}
use Rattle.std.specs.Prelude.{Contains, filter, map, max, nat_le, nat_lt, ◌||◌, not, if◌then◌else◌}
use Rattle.std.proofs.lemmas.Bool.Decides.{nat_tests}
use Rattle.std.proofs.lemmas.List.Elements.{Contains-append_left, Contains-append_right}
use Rattle.std.proofs.lemmas.List.{length-append}
use Rattle.clause_spec.specs.Clauses.{Clause, Satisfies}
use Rattle.clause_spec.specs.Refutation.{Proof, LogLine, Add, Delete, Bad, Cause, IdNotAbove, VariableAbove, NotOfGrammar, Known, Hint, some_above, first_of_two, judge, judge_added, judge_of_grammar, is_of_grammar, after_judge, known_after, known_at_start, first_refusal, IsRefutation}
use Rattle.clause_spec.proofs.RefutationSound.{refutation_sound}
use Rattle.bilv_spec.specs.Run.{Program}
use Rattle.bilv_spec.specs.Questions.{Reading, IsTrueOver}
use Rattle.bilv_spec.specs.Evidence.{Input, OfRegister, OfFlag, OfChoice, OfByte, IsInput, is_of_byte, AreInputs, AreOfQuestion, Refutes}
use Rattle.bilv_spec.proofs.Pigeons.{truth, no_longer}
use Rattle.bilv_spec.proofs.PointSteps.{in_filter}
use Rattle.bilv_spec.proofs.RefutedQuestions.{refuted_over}
use Rattle.call_spec.specs.Calls.{Question, EntryQuestion, FailQuestion, TurnQuestion}
use Rattle.walk_spec.specs.Unrolled.{UnrolledProgram}
use Rattle.walk_spec.specs.Unrolling.{IsUnrolling}
use Rattle.walk_spec.specs.Prices.{unrolled_price}
use Rattle.term_spec.specs.Cells.{Cells}
use Rattle.term_spec.specs.ClauseForm.{first_byte, input_list}
use Rattle.walk_spec.proofs.PriceLaw.{price_is_price}
use Rattle.walk_laws.specs.Layers.{IsFitting}
use Rattle.walk_laws.proofs.InputPlaces.{all_long}
use Rattle.walk_laws.proofs.InputsWithin.{inputs_within}
use Rattle.walk_laws.proofs.QuestionClauses.{inputs_are, byte_inputs}
use Rattle.turn_laws.specs.Raised.{BothRise, NoneTurns, RefutationsRise, over_variables}
use Rattle.turn_laws.proofs.Alike.{over}
use Rattle.turn_laws.proofs.Prices.{points_rise, prices_rise}

-- more variables refuse no line that fewer accept
above_by : (n m v : ℕ) → n ≤ m → (a b rest more : Bool) → nat_lt n v ≡ a → nat_lt m v ≡ b → (rest ≡ false → more ≡ false) → (a || rest) ≡ false →
    (b || more) ≡ false
above_by n m v h true b rest more f g next e = absurd (cc)
above_by n m v h false true rest more f g next e =
    let low : v ≤ n = grind (arith, nat_tests) in let high : m < v = grind (arith, nat_tests) in absurd (omega (arith, low, high, h))
above_by n m v h false false rest more f g next e = next e

none_above : (n m : ℕ) → n ≤ m → (c : Clause) → some_above n c ≡ false → some_above m c ≡ false
none_above n m h [] e = refl
none_above n m h (l ∷ ls) e =
    above_by n m l.variable h (nat_lt n l.variable) (nat_lt m l.variable) (some_above n ls) (some_above m ls) refl refl (none_above n m h ls) e

unless : (b : Bool) (e : Cause) (rest : Option Cause) → first_of_two b e rest ≡ None → (b ≡ false) × (rest ≡ None)
unless true e rest h = absurd (cc)
unless false e rest h = (refl, h)

neither : (b : Bool) (e : Cause) (rest : Option Cause) → b ≡ false → rest ≡ None → first_of_two b e rest ≡ None
neither true e rest h g = absurd (cc)
neither false e rest h g = g

added_more : (n m : ℕ) → n ≤ m → (k : Known) (id : ℕ) (c : Clause) (hints : List Hint) → judge_added n k id c hints ≡ None → judge_added m k id c hints ≡ None
added_more n m h k id c hints e =
    let outer = unless (nat_le id k.last) IdNotAbove _ e in
    let inner = unless (some_above n c) VariableAbove _ outer.1 in
    neither (nat_le id k.last) IdNotAbove _ outer.0 (neither (some_above m c) VariableAbove _ (none_above n m h c inner.0) inner.1)

ended_or : (b : Bool) (x y : Option Cause) → (x ≡ None → y ≡ None) → (if b then None else x) ≡ None → (if b then None else y) ≡ None
ended_or true x y f e = refl
ended_or false x y f e = f e

line_more : (n m : ℕ) → n ≤ m → (k : Known) (l : LogLine) → judge_of_grammar n k l ≡ None → judge_of_grammar m k l ≡ None
line_more n m h k (Add id c hints) e = ended_or k.ended (judge_added n k id c hints) (judge_added m k id c hints) (added_more n m h k id c hints) e
line_more n m h k (Delete id ids) e = refl
line_more n m h k Bad e = refl

judged_more : (n m : ℕ) → n ≤ m → (k : Known) (l : LogLine) → judge n k l ≡ None → judge m k l ≡ None
judged_more n m h k l e =
    let q = unless (not (is_of_grammar l)) NotOfGrammar (judge_of_grammar n k l) e in
    neither (not (is_of_grammar l)) NotOfGrammar (judge_of_grammar m k l) q.0 (line_more n m h k l q.1)

both_none : (x : Option Cause) (line : ℕ) (rest : Option (ℕ × Cause)) → after_judge x line rest ≡ None → (x ≡ None) × (rest ≡ None)
both_none None line rest h = (refl, h)
both_none (Some e) line rest h = absurd (cc)

lines_more : (n m : ℕ) → n ≤ m → (k : Known) (line : ℕ) (ls : List LogLine) → first_refusal n k line ls ≡ None → first_refusal m k line ls ≡ None
lines_more n m h k line [] e = e
lines_more n m h k line (l ∷ ls) e =
    let q = both_none (judge n k l) line (first_refusal n (known_after k l) (line + 1) ls) e in
    ap (λ z. after_judge z line (first_refusal m (known_after k l) (line + 1) ls)) (judged_more n m h k l q.0)
    ∙ lines_more n m h (known_after k l) (line + 1) ls q.1

pub refutes_more : (n m : ℕ) → n ≤ m → (cs : List Clause) (ls : List LogLine) → IsRefutation n cs ls → IsRefutation m cs ls
refutes_more n m h cs ls e = lines_more n m h (known_at_start cs) 1 ls e

-- no base reads
abbrev pub no_cells : Cells
no_cells = record { nodes = []; addresses = []; agrees = []; asked = []; root = 0 }

module _ (p : Program) (k m : ℕ) (h : k ≤ m) where
  -- what is an input within a bound, and no byte, is one within a greater bound
  input_rises : (loads more : ℕ) (x : Input) → is_of_byte x ≡ false → IsInput p k loads x → IsInput p m more x
  input_rises loads more (OfRegister n i) word is = is
  input_rises loads more (OfFlag f) word is = is
  input_rises loads more (OfChoice point i) word is = ((points_rise p k m h point is.0.0, is.0.1), is.1)
  input_rises loads more (OfByte read i) word is = absurd (let e : true ≡ false = word in cc)

  -- so there are no more of them
  pub inputs_rise : (loads more : ℕ) (xs ys : List Input) → AreInputs p k loads xs → AreInputs p m more ys → length xs ≤ length (filter is_of_byte xs) + length ys
  inputs_rise loads more xs ys a b =
      let most = no_longer (filter is_of_byte xs ++ ys) xs inside a.once (OfFlag 0) in
      let long = length-append (filter is_of_byte xs) ys in omega (arith, most, long)
    where
      inside : (x : Input) → Contains xs x → Contains (filter is_of_byte xs ++ ys) x
      inside x has = elim (truth (is_of_byte x)) [
        | inl t ↦ Contains-append_left (filter is_of_byte xs) ys x (in_filter is_of_byte xs x has t)
        | inr t ↦ Contains-append_right (filter is_of_byte xs) ys x (b.all x (input_rises loads more x t (a.only x has)) t)
      ]

  module _ (question : Question) (proof : Proof) (is : Refutes p k question proof) (none : NoneTurns p is.of_question.asked k question) (u : UnrolledProgram)
      (un : IsUnrolling p m u) (fit : IsFitting u) where
    abbrev asked : ℕ → Bool
    asked = is.of_question.asked

    unsatisfied : (v : ℕ → Bool) → Satisfies v proof.clauses.clauses → ⊥
    unsatisfied v sat = refutation_sound proof.clauses.variables proof.clauses.clauses proof.log is.refutation v sat

    -- no reading makes the question of the greater bound true
    none_by : (q : Question) → NoneTurns p asked k q → ((r : Reading) → ¬ IsTrueOver p asked k r q) → (r : Reading) → ¬ IsTrueOver p asked m r q
    none_by EntryQuestion turns never r t = never r ((over p k m h r asked).entry.1 t)
    none_by FailQuestion turns never r t = elim ((over p k m h r asked).failed t) [ inl f ↦ never r f | inr f ↦ turns r f ]
    none_by TurnQuestion turns never r t = never r ((over p k m h r asked).turns t)

    never : (r : Reading) → ¬ IsTrueOver p asked m r question
    never = none_by question none (refuted_over p k question proof is)

    raised : AreOfQuestion p m question (over_variables (first_byte u) proof).clauses
    raised =
        let q = is.of_question in
        let long = all_long p m u un no_cells in
        let all = inputs_are p m u un no_cells (omega arith) in
        let bytes = byte_inputs p m u un no_cells (omega arith) in
        let fits = inputs_within u no_cells fit (λ i l. (un.places i l).terms) (omega arith) in
        let price = prices_rise p k m h q.price (unrolled_price u) q.is_price (price_is_price p m u un) in
        let more = inputs_rise _ _ q.inputs (input_list u no_cells) q.are_inputs all in
        let gates = q.few_gates in
        record {
          points = map (λ q. q.point) u.points;
          are_points = un.points;
          inputs = input_list u no_cells;
          are_inputs = all;
          asked = asked;
          asks_known = q.asks_known;
          address = λ r read. 0;
          decide = record {
            below = λ r read. omega arith;
            by_earlier = λ r t n read i at ir it first. refl;
            decides = λ r t holds it pc agrees first. absurd (never r holds);
          };
          extends = record {
            over = λ c has l is_in. (let f = q.extends.over c has l is_in in (f.0, omega (arith, f.1)));
            once = λ v w a s t. absurd (unsatisfied v s);
            only = λ v s. absurd (unsatisfied v s);
            where_true = λ a fact. absurd (never fact.0 fact.2);
          };
          price = unrolled_price u;
          is_price = price_is_price p m u un;
          few_inputs = (omega arith, omega arith);
          few_gates = omega arith;
        }

    pub rises : Refutes p m question (over_variables (first_byte u) proof)
    rises = record {
      of_question = raised;
      refutation = refutes_more proof.clauses.variables (max proof.clauses.variables (first_byte u)) (omega arith) proof.clauses.clauses proof.log is.refutation;
    }

pub refutations_rise : RefutationsRise
refutations_rise p k m h question proof is none u un fit = rises p k m h question proof is none u un fit

-- what is true over some bytes is true over fewer
fewer : (p : Program) (few many : ℕ → Bool) (k : ℕ) (r : Reading) (q : Question) → ((a : ℕ) → few a ≡ true → many a ≡ true) → IsTrueOver p many k r q →
    IsTrueOver p few k r q
fewer p few many k r q asks t = record {
  choice = t.choice;
  entry = record {
    state = t.entry.state;
    pc = t.entry.pc;
    link = t.entry.link;
    bytes = λ a c low is ask. t.entry.bytes a c low is (asks a ask);
    requires = t.entry.requires;
  };
  ends = t.ends;
}

pub both_rise : BothRise
both_rise p k m h turn fail t f asks u un fit = (
  rises p k m h FailQuestion fail f
      (λ r turns. refuted_over p k TurnQuestion turn t r (fewer p t.of_question.asked f.of_question.asked k r TurnQuestion asks turns)) u un fit,
  rises p k m h TurnQuestion turn t tt u un fit,
)
