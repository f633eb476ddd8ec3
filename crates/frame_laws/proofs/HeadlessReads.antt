-- Without invariants and contracts a frame's questions are its program's.
use Rattle.std.proofs.Common.{◌≡◌, inl, inr, ℕ, zero, suc, ◌<◌, refl, ap, sym, ◌∙◌, None, Bool, true, false, []}
use Rattle.std.specs.Prelude.{if◌then◌else◌}
use Rattle.word_spec.specs.State.{IsState}
use Rattle.call_spec.specs.Calls as calls
use Rattle.bilv_spec.specs.Run as tables
use Rattle.bilv_spec.specs.Run.{Program, Place}
use Rattle.bilv_spec.specs.Points.{Point, is_known_at}
use Rattle.bilv_spec.specs.Questions as questions
use Rattle.bilv_spec.proofs.AskedBytes as AskedBytes
use Rattle.frame_spec.specs.Frames.{Frame, OfStep, content_of}
use Rattle.frame_spec.specs.FrameRuns.{Going, Arriving, begins}
use Rattle.frame_spec.specs.FramePoints.{Anchor, AtEntry, triple}
use Rattle.frame_spec.specs.FrameQuestions.{Reading, IsReading, StepQuestion, EndsBy, IsTrueOver, ReadingFails, ReadingTurns, FromHead, read_on, read_run}
use Rattle.frame_spec.specs.Theorems.{headless, as_frame_run}
use Rattle.frame_spec.proofs.Headless.{no_head, stepped}
use Rattle.frame_spec.proofs.HeadlessVerdict.{failed, turned}
use Rattle.frame_spec.proofs.OfSegments.{entry_of}
use Rattle.frame_laws.specs.HeadlessLaws.{as_point, flat_reading, as_question, HeadlessReads, HeadlessQuestions, HeadlessIsSatisfiable}
use Rattle.frame_laws.proofs.HeadlessPoints.{headless_heads}

module _ (p : Program) (k : ℕ) (r : Reading) where
  abbrev f : Frame
  f = headless p

  abbrev flat : questions.Reading
  flat = flat_reading r

  more : (x : tables.Run) → read_on f k r AtEntry (as_frame_run x) ≡ as_frame_run (questions.read_on p k flat x)
  more (tables.Going t n c) =
      stepped (questions.by_file p) k r.state c (tables.step (questions.by_file p) r.state c (flat.choice (questions.point_of t c))) t n c.state.pc
  more (tables.Exited at n) = refl
  more (tables.Failed e at n) = refl
  more (tables.Turned at n) = refl

  begins_at : begins f r.state None ≡ Going 0 0 (record { state = r.state; stack = [] })
  begins_at =
      ap (λ (z : Bool). if z then Arriving 0 0 (record { state = r.state; stack = [] }) else Going 0 0 (record { state = r.state; stack = [] }))
      (no_head p r.state.pc)

  pub reads : (n : ℕ) → read_run f k r AtEntry n ≡ as_frame_run (questions.read_run p k flat n)
  unfolding read_run questions.read_run
  reads zero = begins_at
  reads (suc n) = ap (read_on f k r AtEntry) (reads n) ∙ more (questions.read_run p k flat n)

  no_anchor : {P : Type 0} (Ends : Anchor → Type 0) → FromHead f k r Ends → P
  no_anchor Ends h = absurd (let c : false ≡ true = sym (no_head p h.1) ∙ h.3.head in cc)

  ends_from : (question : calls.Question) → EndsBy f k r (as_question question) → questions.EndsBy p k flat question
  ends_from calls.EntryQuestion h = tt
  ends_from calls.FailQuestion (steps, at, n, v, h) =
      let it = failed (questions.read_run p k flat steps) v at n (sym (reads steps) ∙ h) in (steps, at, n, it.0, it.1)
  ends_from calls.TurnQuestion (inl (steps, at, n, h)) =
      (steps, at, n, turned (questions.read_run p k flat steps) at n (sym (reads steps) ∙ h))
  ends_from calls.TurnQuestion (inr h) = no_anchor (ReadingTurns f k r) h

  ends_to : (question : calls.Question) → questions.EndsBy p k flat question → EndsBy f k r (as_question question)
  ends_to calls.EntryQuestion h = tt
  ends_to calls.FailQuestion (steps, at, n, e, h) = (steps, at, n, OfStep e, reads steps ∙ ap as_frame_run h)
  ends_to calls.TurnQuestion (steps, at, n, h) = inl (steps, at, n, reads steps ∙ ap as_frame_run h)

  module _ (asked : ℕ → Bool) where
    pub true_from : (question : calls.Question) → IsTrueOver f asked k r (as_question question) → questions.IsTrueOver p asked k flat question
    true_from question t = record { choice = λ q. t.reading.choice (as_point q); entry = t.entry; ends = ends_from question t.ends }

    pub true_to : IsReading r → (question : calls.Question) → questions.IsTrueOver p asked k flat question → IsTrueOver f asked k r (as_question question)
    true_to reading question t = record {
      reading = reading;
      entry = t.entry;
      head = λ h s a c l e q w. absurd (let x : false ≡ true = sym (headless_heads p) ∙ h in cc);
      ends = ends_to question t.ends;
    }

    pub no_step : ¬ IsTrueOver f asked k r StepQuestion
    no_step t = no_anchor (ReadingFails f k r) t.ends

pub headless_reads : HeadlessReads
headless_reads p k r n = reads p k r n

pub headless_questions : HeadlessQuestions
headless_questions p asked k r reading = (
  (λ question. (true_from p k r asked question, true_to p k r asked reading question)),
  no_step p k r asked,
)

-- a reading of the program, as one of the frame
abbrev pub full_reading : questions.Reading → Reading
full_reading r = record { state = r.state; head = content_of r.state; choice = λ q. r.choice (triple q); given = λ q. content_of r.state }

pub is_full : (r : questions.Reading) → IsState r.state → ((q : Point) → r.choice q < 4) → IsReading (full_reading r)
is_full r is small = record {
  state = is;
  head = record { regs = is.regs; flags = is.flags; mem = is.mem };
  choice = λ q. small (triple q);
  given = λ q. record { regs = is.regs; flags = is.flags; mem = is.mem };
}

pub headless_is_satisfiable : HeadlessIsSatisfiable
headless_is_satisfiable p k = (
  (λ question. (
    (λ (r, t). (let it = true_from p k r (is_known_at p) question t in (
      flat_reading r,
      record { choice = it.choice; entry = entry_of p r.state it.entry; ends = it.ends },
    ))),
    (λ (r, t). (
      full_reading r,
      true_to p k (full_reading r) (is_known_at p) (is_full r t.entry.state t.choice) question
          (AskedBytes.true_over p (is_known_at p) k r question (λ a h. h) t),
    )),
  )),
  λ (r, t). no_step p k r (is_known_at p) t,
)
