-- A frame has one verdict.
use Rattle.std.proofs.Common.{◌≡◌, ℕ, refl, sym, ◌∙◌, true, false}
use Rattle.frame_spec.specs.Frames.{Frame}
use Rattle.frame_spec.specs.FrameVerdict.{Verdict, Holds, Vacuous, Fails, NotInductive, Unroll, Partial}
use Rattle.frame_spec.specs.FrameQuestions.{Question, EntryQuestion, IsSatisfiable}
use Rattle.frame_spec.specs.FrameLaws.{IsDecided, OneFrameVerdict}
use Rattle.frame_spec.proofs.FrameDeciding.{frames_decide}

module _ (f : Frame) (k : ℕ) where
  -- where a question is true of some reading, there is an entry state
  enters : {question : Question} → IsSatisfiable f k question → IsSatisfiable f k EntryQuestion
  enters s = (
    s.0,
    record {
      reading = s.1.reading;
      entry = s.1.entry;
      head = λ heads asks. absurd (let c : false ≡ true = asks in cc);
      ends = tt;
    },
  )

  -- what the questions decide is one verdict
  apart : (v w : Verdict) → IsDecided f k v → IsDecided f k w → v ≡ w
  apart Vacuous Vacuous a b = refl
  apart Vacuous Fails a b = absurd (a (enters b))
  apart Vacuous NotInductive a b = absurd (a (enters b.1))
  apart Vacuous Unroll a b = absurd (a (enters b.2))
  apart Vacuous Holds a b = absurd (a (enters b.1))
  apart Vacuous Partial a b = absurd (a (enters b.1))
  apart Fails Vacuous a b = absurd (b (enters a))
  apart Fails Fails a b = refl
  apart Fails NotInductive a b = absurd (b.0 a)
  apart Fails Unroll a b = absurd (b.0 a)
  apart Fails Holds a b = absurd (b.2 a)
  apart Fails Partial a b = absurd (b.2 a)
  apart NotInductive Vacuous a b = absurd (b (enters a.1))
  apart NotInductive Fails a b = absurd (a.0 b)
  apart NotInductive NotInductive a b = refl
  apart NotInductive Unroll a b = absurd (b.1 a.1)
  apart NotInductive Holds a b = absurd (b.3 a.1)
  apart NotInductive Partial a b = absurd (b.3 a.1)
  apart Unroll Vacuous a b = absurd (b (enters a.2))
  apart Unroll Fails a b = absurd (a.0 b)
  apart Unroll NotInductive a b = absurd (a.1 b.1)
  apart Unroll Unroll a b = refl
  apart Unroll Holds a b = absurd (b.4 a.2)
  apart Unroll Partial a b = absurd (b.4 a.2)
  apart Holds Vacuous a b = absurd (b (enters a.1))
  apart Holds Fails a b = absurd (a.2 b)
  apart Holds NotInductive a b = absurd (a.3 b.1)
  apart Holds Unroll a b = absurd (a.4 b.2)
  apart Holds Holds a b = refl
  apart Holds Partial a b = absurd ((let c : false ≡ true = sym a.0 ∙ b.0 in cc))
  apart Partial Vacuous a b = absurd (b (enters a.1))
  apart Partial Fails a b = absurd (a.2 b)
  apart Partial NotInductive a b = absurd (a.3 b.1)
  apart Partial Unroll a b = absurd (a.4 b.2)
  apart Partial Holds a b = absurd ((let c : false ≡ true = sym b.0 ∙ a.0 in cc))
  apart Partial Partial a b = refl

pub one_frame_verdict : OneFrameVerdict
one_frame_verdict f lawful memory k v w r s = apart f k v w ((frames_decide f lawful memory k v).1 r) ((frames_decide f lawful memory k w).1 s)
