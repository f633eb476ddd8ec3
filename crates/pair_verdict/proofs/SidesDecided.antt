-- The bytes that are asked of both sides become more from round to round, and a side's question is one of which rounds can be made.
use Rattle.std.proofs.Common.{◌≡◌, sym, ap, subst, ◌∙◌, ℕ, ◌+◌, ◌-◌, ◌<◌, ◌≤◌, ◌^◌, Bool, List, [], arith}
use Rattle.std.specs.Prelude.{length}
use Rattle.call_spec.specs.Calls.{PairQuestion}
use Rattle.links_lang.specs.Views.{links_of}
use Rattle.links_lang.specs.declared.links.Link as declared
use Rattle.pair_form.specs.Views.{program_of_side_question}
use Rattle.pair_form.specs.declared.sides.SideQuestion.{SideQuestion}
use Rattle.pair_terms.specs.Sides.{CanBeCells, IsPlacedAs, TellsSideOf, program_of_exit}
use Rattle.pair_terms.specs.declared.exits.ExitTerms.{ExitTerms}
use Rattle.question_form.specs.Views.{unrolled_of}
use Rattle.question_form.specs.declared.questions.Passive.{Passive}
use Rattle.walk_spec.specs.Unrolled.{UnrolledProgram}
use Rattle.verdict.specs.Rounds.{AreFurther}
use Rattle.asked_bytes.proofs.Adding.{added_few, added_none}
use Rattle.pair_spec.specs.Links.{Link}
use Rattle.pair_verdict.specs.PairRounds.{AreAsked, AreNew, IsAskableSide, IsReady, PairAnswers}
use Rattle.pair_verdict.specs.declared.verdicts.PairAnswered.{PairAnswered}
use Rattle.pair_verdict.specs.declared.rounds.Asked.{Asked}

-- new addresses of which there are some
pub further_of : (u : UnrolledProgram) (added found : List ℕ) → AreNew u added found → 0 < length found → AreFurther u added found
further_of u added found h some = record { are = h.are; some = some; new = h.new }

-- at first nothing is asked
pub asked_none : (u w : UnrolledProgram) (a : Asked) → a.first.items ≡ [] → a.second.items ≡ [] → AreAsked u w a
asked_none u w a e f = record { of_first = added_none u.known a.first.items e; of_second = added_none w.known a.second.items f }

-- so rounds end
pub fewer_left : (u w : UnrolledProgram) (old new : Asked) → AreAsked u w new →
    length old.first.items + length old.second.items < length new.first.items + length new.second.items →
    2 ^ 33 - (length new.first.items + length new.second.items) < 2 ^ 33 - (length old.first.items + length old.second.items)
fewer_left u w old new h more =
    let first = added_few u.known new.first.items h.of_first in
    let second = added_few w.known new.second.items h.of_second in
    omega (arith, first, second, more)

-- a side that is made of the terms at an exit
pub askable_side : (second : Bool) (links : List declared.Link) (question : PairQuestion) (e : ExitTerms) (q : Passive) (s : SideQuestion) →
    IsReady second links e q → s.question.passive.now ≡ e.passive → CanBeCells s → TellsSideOf s second (links_of links) question →
    IsAskableSide second (links_of links) question s q
askable_side second links question e q s h of ready tells =
    let same : program_of_side_question s ≡ program_of_exit e = ap (λ (z : Passive). unrolled_of z.unrolled.now) of in
    record {
      same = same ∙ h.same;
      decidable = h.decidable;
      few = subst (λ (z : Passive). length z.unrolled.now.points.items ≤ 2 ^ 28) (sym of) h.few;
      ready = ready;
      tells = tells;
      some = (h.some.0, subst (IsPlacedAs h.some.0) (sym same) h.some.1, h.some.2);
    }

-- what the question comes to by sides is what it comes to by their exits
pub answers_of : (links : List Link) (question : PairQuestion) (conflicts : ℕ) (a : PairAnswered) (s z : SideQuestion) (e f : ExitTerms) →
    s.question.passive.now ≡ e.passive → z.question.passive.now ≡ f.passive →
    PairAnswers links (program_of_side_question s) (program_of_side_question z) question conflicts a →
    PairAnswers links (program_of_exit e) (program_of_exit f) question conflicts a
answers_of links question conflicts a s z e f of other_of h =
    subst (λ (x : Passive). PairAnswers links (program_of_exit e) (unrolled_of x.unrolled.now) question conflicts a) other_of
    (subst (λ (x : Passive). PairAnswers links (unrolled_of x.unrolled.now) (program_of_side_question z) question conflicts a) of h)
