-- What a round of a question about two functions comes to, over the values of its steps.
use Rattle.std.proofs.Common.{◌≡◌, refl, sym, ap, subst, ◌∙◌, ℕ, zero, suc, ◌-◌, ◌≤◌, Bool, false, List, [], ◌∷◌, take, drop, Result, Ok, IfOk, arith}
use Rattle.std.specs.Prelude.{All, length}
use Rattle.std.specs.List.{flat_map}
use Rattle.std.proofs.lemmas.List.{length-drop}
use Rattle.clause_spec.specs.Clauses.{AreOnVariables, Satisfies, valuation}
use Rattle.clause_spec.specs.Refutation.{IsRefutation}
use Rattle.clause_spec.specs.Empowering.{IsSpent}
use Rattle.call_spec.specs.Calls.{PairQuestion, DifferenceOfExits}
use Rattle.cnf_form.specs.Views.{cnf_of, lines_of}
use Rattle.cnf_form.specs.declared.form.Cnf.{Cnf}
use Rattle.cnf_form.specs.declared.form.Log.{Log}
use Rattle.sat_core.specs.Answers.{IsAnswer}
use Rattle.sat_core.specs.declared.answer.Answer.{Answer}
use Rattle.sat_core.specs.declared.answer.Answer.TheVariants as search
use Rattle.start_value.specs.declared.layout.Layout as forms
use Rattle.links_lang.specs.Views.{AreLinksOf, links_of}
use Rattle.links_lang.specs.declared.links.Link as declared
use Rattle.pair_form.specs.Views.{program_of_side_cells, side_cells_of}
use Rattle.pair_form.specs.declared.sides.SideCells.{SideCells}
use Rattle.pair_form.specs.declared.sides.SideQuestion.{SideQuestion}
use Rattle.pair_spec.specs.Links.{ComparesAlike, Link}
use Rattle.pair_spec.specs.PairEvidence.{behind}
use Rattle.pair_spec.specs.PairTerms.{HaveWidths, TellsPair, exit_widths}
use Rattle.pair_terms.specs.Sides.{TellsCellsOf}
use Rattle.term_spec.specs.ClauseForm.{inputs}
use Rattle.pair_verdict.specs.PairRounds.{AreAskableSides, AreAsked, AreJudged, AreValues, IsPairRound, first_placed, second_placed}
use Rattle.pair_verdict.specs.declared.rounds.Asked.{Asked}
use Rattle.pair_verdict.specs.declared.rounds.Sides.{Sides}
use Rattle.pair_verdict.specs.declared.rounds.PairRound.{PairRound}
use Rattle.pair_verdict.specs.declared.rounds.PairRound.TheVariants.{Answered, Broken}
use Rattle.pair_verdict.specs.declared.verdicts.PairAnswered.TheVariants.{Sat, Refuted, Spent}
use Rattle.pair_verdict.proofs.ReadingsAlike.{AreSame, behind_values}
use Rattle.pair_verdict.proofs.RoundsTold.{cell_exits, first_further, first_values, refuted_so, second_further, second_values, shown_so, spent_so}
use Rattle.pair_verdict.proofs.SideLayers.{alike}

-- the values after some
take_all : (l : List Bool) (n : ℕ) → length l ≤ n → take n l ≡ l
take_all [] zero le = refl
take_all [] (suc n) le = refl
take_all (b ∷ l) zero le = absurd (omega (arith, le))
take_all (b ∷ l) (suc n) le = ap (λ r. b ∷ r) (take_all l n (omega (arith, le)))

later_values : (values : List Bool) (n : ℕ) →
    AreSame (valuation (take (length values - n) (drop n values))) (behind n (valuation values))
later_values values n =
    let count : length (drop n values) ≡ length values - n = length-drop n values in
    let all : take (length values - n) (drop n values) ≡ drop n values = take_all (drop n values) (length values - n) (omega (arith, count)) in
    subst (λ (l : List Bool). AreSame (valuation l) (behind n (valuation values))) (sym all) (behind_values n values)

-- ---- what the search says

pub values_satisfy : (cnf : Cnf) (conflicts : ℕ) (a : Answer) (values : _) (bits : List Bool) → IsAnswer (cnf_of cnf) conflicts a → a ≡ search.Sat values →
    bits ≡ values.items → (length bits ≡ cnf.variables) × Satisfies (valuation bits) (cnf_of cnf).clauses
values_satisfy cnf conflicts a values bits h is same =
    let k = subst (λ (z : Answer). IsAnswer (cnf_of cnf) conflicts z) is h in
    subst (λ (z : List Bool). (length z ≡ cnf.variables) × Satisfies (valuation z) (cnf_of cnf).clauses) (sym same) k

pub log_refutes : (cnf : Cnf) (conflicts : ℕ) (a : Answer) (log : Log) → IsAnswer (cnf_of cnf) conflicts a → a ≡ search.Unsat log →
    IsRefutation (cnf_of cnf).variables (cnf_of cnf).clauses (lines_of log)
log_refutes cnf conflicts a log h is = subst (λ (z : Answer). IsAnswer (cnf_of cnf) conflicts z) is h

pub log_spends : (cnf : Cnf) (conflicts : ℕ) (a : Answer) (log : Log) → IsAnswer (cnf_of cnf) conflicts a → a ≡ search.Spent log →
    IsSpent (cnf_of cnf).clauses conflicts (lines_of log)
log_spends cnf conflicts a log h is = (subst (λ (z : Answer). IsAnswer (cnf_of cnf) conflicts z) is h).0

-- ---- the cells and the clauses of both sides

pub record IsRoundOf (links : List Link) (question : PairQuestion) (s : Sides) (asked : Asked) (c d : SideCells) (cnf : Cnf) : Type 0 where
  pub alike : All ComparesAlike links
  pub sides : AreAskableSides links question s
  pub asked_are : AreAsked (first_placed s) (second_placed s) asked
  pub of : c.celled.question.now ≡ s.first.now.question
  pub other_of : d.celled.question.now ≡ s.second.now.question
  pub tells : TellsCellsOf s.first.now asked.first.items c
  pub tell : TellsCellsOf s.second.now asked.second.items d
  pub clauses : TellsPair (program_of_side_cells c) (program_of_side_cells d) links question (side_cells_of c) (side_cells_of d) (cnf_of cnf)

told_of : (s : SideQuestion) (x y : List ℕ) (c : SideCells) → x ≡ y → TellsCellsOf s x c → TellsCellsOf s y c
told_of s x y c e h = subst (λ (z : List ℕ). TellsCellsOf s z c) e h

-- the clauses tell both sides for every list of links whose words the cells have
abbrev pub TellAll : PairQuestion → (c d : SideCells) → {E : Type 0} → Result Cnf E → Type 0
TellAll question c d r =
    (l : List Link) → (question ≡ DifferenceOfExits → HaveWidths (side_cells_of c).cells.nodes (side_cells_of c).exits (flat_map exit_widths l)) →
    IfOk r (λ f. TellsPair (program_of_side_cells c) (program_of_side_cells d) l question (side_cells_of c) (side_cells_of d) (cnf_of f))

pub round_of : (form other : forms.Layout) (links : List declared.Link) (question : PairQuestion) (s : Sides) (asked : Asked) (x y : List ℕ)
    (c d : SideCells) {E : Type 0} (r : Result Cnf E) (cnf : Cnf) → AreLinksOf form other links → AreAskableSides (links_of links) question s →
    AreAsked (first_placed s) (second_placed s) asked → x ≡ asked.first.items → y ≡ asked.second.items →
    c.celled.question.now ≡ s.first.now.question → d.celled.question.now ≡ s.second.now.question →
    TellsCellsOf s.first.now x c → TellsCellsOf s.second.now y d → TellAll question c d r → r ≡ Ok cnf → IsRoundOf (links_of links) question s asked c d cnf
round_of form other links question s asked x y c d {E} r cnf linked sides are e f of other_of tells tell all is = record {
  alike = alike form other links linked;
  sides = sides;
  asked_are = are;
  of = of;
  other_of = other_of;
  tells = told_of s.first.now x asked.first.items c e tells;
  tell = told_of s.second.now y asked.second.items d f tell;
  clauses = subst (λ (z : Result Cnf E). IfOk z (λ g. TellsPair (program_of_side_cells c) (program_of_side_cells d) (links_of links) question
      (side_cells_of c) (side_cells_of d) (cnf_of g))) is
      (all (links_of links) (cell_exits false (links_of links) question s.first.now s.first_passive.now sides.first x c of tells));
}

module _ (links : List Link) (question : PairQuestion) (s : Sides) (asked : Asked) (c d : SideCells) (cnf : Cnf) (h : IsRoundOf links question s asked c d cnf)
  where
    pub clauses_over : AreOnVariables cnf.variables cnf.clauses.items
    clauses_over = h.clauses.extends.over

    -- the inputs of the first side are among the variables
    pub inputs_within : inputs (program_of_side_cells c) (side_cells_of c).cells ≤ cnf.variables
    inputs_within = let all = h.clauses.all in omega (arith, all)

    pub count_within : (count : ℕ) (bits : List Bool) → count ≡ inputs (program_of_side_cells c) (side_cells_of c).cells → length bits ≡ cnf.variables →
        count ≤ length bits
    count_within count bits e long = let within = inputs_within in omega (arith, within, e, long)

    -- the values of the second side are those after the inputs of the first one
    pub later_same : (count : ℕ) (bits again items : List Bool) → count ≡ inputs (program_of_side_cells c) (side_cells_of c).cells → bits ≡ items →
        again ≡ items → AreSame (valuation (take (length bits - count) (drop count bits)))
        (behind (inputs (program_of_side_cells c) (side_cells_of c).cells) (valuation again))
    later_same count bits again items e f g =
        subst (λ n. AreSame (valuation (take (length bits - count) (drop count bits))) (behind n (valuation again))) e
        (subst (λ (z : List Bool). AreSame (valuation (take (length z - count) (drop count z))) (behind count (valuation again))) (g ∙ sym f)
        (later_values again count))

    module _ (conflicts : ℕ) where
      pub round_refuted : (a : Answer) (log : Log) → IsAnswer (cnf_of cnf) conflicts a → a ≡ search.Unsat log →
          IsPairRound links s question asked conflicts (Answered (Refuted (record { clauses = cnf; log = log })))
      round_refuted a log found is u w pu pw p q k form other g g' =
          refuted_so links question h.alike s.first.now s.second.now s.first_passive.now s.second_passive.now h.sides.first h.sides.second
          asked.first.items asked.second.items h.asked_are.of_first h.asked_are.of_second c d h.of h.other_of h.tells h.tell (cnf_of cnf) h.clauses
          u w pu pw p q k form other g g' (lines_of log) (log_refutes cnf conflicts a log found is)

      pub round_spent : (a : Answer) (log : Log) → IsAnswer (cnf_of cnf) conflicts a → a ≡ search.Spent log →
          IsPairRound links s question asked conflicts (Answered (Spent (record { clauses = cnf; log = log })))
      round_spent a log found is u w pu pw p q k form other g g' =
          spent_so links question h.alike s.first.now s.second.now s.first_passive.now s.second_passive.now h.sides.first h.sides.second
          asked.first.items asked.second.items h.asked_are.of_first h.asked_are.of_second c d h.of h.other_of h.tells h.tell (cnf_of cnf) h.clauses
          u w pu pw p q k form other g g' conflicts (lines_of log) (log_spends cnf conflicts a log found is)

    -- satisfying values
    module _ (values later : List Bool)
        (same : AreSame (valuation later) (behind (inputs (program_of_side_cells c) (side_cells_of c).cells) (valuation values)))
        (sat : Satisfies (valuation values) (cnf_of cnf).clauses) where
      pub values_first : AreValues c.celled values s.first_passive.now
      values_first =
          first_values links question h.alike s.first.now s.second.now s.first_passive.now s.second_passive.now h.sides.first h.sides.second
          asked.first.items asked.second.items h.asked_are.of_first h.asked_are.of_second c d h.of h.other_of h.tells h.tell (cnf_of cnf) h.clauses
          values later same sat

      pub values_second : AreValues d.celled later s.second_passive.now
      values_second =
          second_values links question h.alike s.first.now s.second.now s.first_passive.now s.second_passive.now h.sides.first h.sides.second
          asked.first.items asked.second.items h.asked_are.of_first h.asked_are.of_second c d h.of h.other_of h.tells h.tell (cnf_of cnf) h.clauses
          values later same sat

      pub round_judged : (conflicts : ℕ) (r : PairRound) → AreJudged c d values later r → IsPairRound links s question asked conflicts r
      round_judged conflicts (Answered (Sat x y)) is = λ u w pu pw p q k form other g g'.
          shown_so links question h.alike s.first.now s.second.now s.first_passive.now s.second_passive.now h.sides.first h.sides.second
          asked.first.items asked.second.items h.asked_are.of_first h.asked_are.of_second c d h.of h.other_of h.tells h.tell (cnf_of cnf) h.clauses
          u w pu pw p q k form other g g' values later same sat conflicts x y is.0 is.1
      round_judged conflicts (Answered (Refuted proof)) is = absurd is
      round_judged conflicts (Answered (Spent proof)) is = absurd is
      round_judged conflicts (Broken more) is = record {
        of_first =
            first_further links question h.alike s.first.now s.second.now s.first_passive.now s.second_passive.now h.sides.first h.sides.second
            asked.first.items asked.second.items h.asked_are.of_first h.asked_are.of_second c d h.of h.other_of h.tells h.tell (cnf_of cnf) h.clauses
            values later same sat more.first.items is.0;
        of_second =
            second_further links question h.alike s.first.now s.second.now s.first_passive.now s.second_passive.now h.sides.first h.sides.second
            asked.first.items asked.second.items h.asked_are.of_first h.asked_are.of_second c d h.of h.other_of h.tells h.tell (cnf_of cnf) h.clauses
            values later same sat more.second.items is.1;
        some = is.2;
      }
