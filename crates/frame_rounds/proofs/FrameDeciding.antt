-- A question of a passive program of a frame, from round to round.
use Rattle.std.proofs.Common.{◌≡◌, subst, sym, ℕ, List, map}
use Rattle.std.specs.Prelude.{Contains}
use Rattle.known_bytes.specs.Runs.{run_of}
use Rattle.asked_bytes.specs.AskedBytes.{AreAdded, AreMore}
use Rattle.question_form.specs.Asked.{frame_question}
use Rattle.call_form.specs.declared.kind.Asked.{Asked}
use Rattle.question_form.specs.declared.questions.Passive.{Passive}
use Rattle.question_form.specs.declared.questions.Question.{Question}
use Rattle.frame_rounds.specs.FrameGrounds.{AnswersFrame, RulesOut}
use Rattle.frame_rounds.specs.FrameRounds.{IsFrameDecided, IsRound}
use Rattle.frame_rounds.specs.declared.answers.FrameDecided.{FrameDecided}
use Rattle.frame_rounds.specs.declared.rounds.Round.{Round}
use Rattle.frame_rounds.specs.declared.rounds.Round.TheVariants as round

-- the addresses are those of known bytes of the passive program, those from the beginning among them
pub record AreAsked (p : Passive) (first added : List ℕ) : Type 0 where
  pub are : AreAdded (map run_of p.unrolled.now.known.items) added
  pub keep : (a : ℕ) → Contains first a → Contains added a

pub more_asked : (p : Passive) (first added asked more : List ℕ) → AreAsked p first added → asked ≡ added →
    AreMore (map run_of p.unrolled.now.known.items) asked more → AreAsked p first more
more_asked p first added asked more h e m =
    record { are = m.are; keep = λ a has. m.keep a (subst (λ (z : List ℕ). Contains z a) (sym e) (h.keep a has)) }

-- the answer of a round is that of the passive program's question
pub decided : (p : Passive) (asked : Asked) (q : Question) → (q.passive.now ≡ p) × (q.asked ≡ asked) → (first added : List ℕ) (conflicts : ℕ) (r : Round) →
    IsRound q added conflicts r → (d : FrameDecided) → r ≡ round.Answered d.answered → added ≡ d.added.items → AreAsked p first d.added.items →
    IsFrameDecided p.unrolled.now (frame_question asked) conflicts first d
decided p asked q of first added conflicts r is d e same from =
    let Both : Passive → Asked → List ℕ → Type 0 = λ x y z. AnswersFrame x.unrolled.now (frame_question y) conflicts d.answered
    × RulesOut x.unrolled.now (frame_question y) z d.answered in
    let both : Both p asked d.added.items =
    subst (Both p asked) same (subst (λ (y : Asked). Both p y added) of.1 (subst (λ (x : Passive). Both x q.asked added) of.0
    (subst (λ (z : Round). IsRound q added conflicts z) e is))) in
    record { answers = both.0; rules = both.1; added = from.are; keep = from.keep }
