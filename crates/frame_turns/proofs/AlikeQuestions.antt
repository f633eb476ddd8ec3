-- Starts, questions and verdicts of a frame within two bounds on backward transfers.
use Rattle.std.proofs.Common.{◌≡◌, ◌≢◌, ◌⊎◌, ◌↔◌, inl, inr, refl, ap, ◌∙◌, ℕ, zero, suc, ◌≤◌, arith, Bool, Option, Some, None}
use Rattle.bilv_spec.specs.Run.{Place}
use Rattle.frame_spec.specs.Frames.{Content, Frame, content_of}
use Rattle.frame_spec.specs.FrameRuns.{Start, Run, Going, Arriving, Calling, Exited, Failed, Turned, Cut, Broken}
use Rattle.frame_spec.specs.FramePoints.{AtEntry, AtHead, Point, IsPoint, first, entry_head, next}
use Rattle.frame_spec.specs.FrameQuestions.{Reading, IsReading, Question, EntryQuestion, FailQuestion, StepQuestion, TurnQuestion, read_on, read_run, ReadingFails, ReadingTurns, FromHead, EndsBy, IsTrueOver}
use Rattle.frame_spec.specs.FrameVerdict.{IsStart, IsOrigin, RunExits, RunFails, RunTurns, RunIsCut, RunBreaks, Verdict, Holds, Vacuous, Fails, NotInductive, Unroll, Partial, IsRight}
use Rattle.frame_spec.proofs.OneEnd.{one_end}
use Rattle.frame_turns.specs.Bounds.{SameAnchors, NeverTrue, FrameStartsRise, FrameQuestionsRise, FrameVerdictsRise}
use Rattle.frame_turns.proofs.Alike.{ends, reading_fails, reading_turns, reading_failed}

-- two ends of a segment are one
fail_not_turn : (f : Frame) (k : ℕ) (s : Start) → RunFails f k s → RunTurns f k s → ⊥
fail_not_turn f k s a b = let e = one_end f k s a.0 b.0 (Failed a.3 a.1 a.2) (Turned b.1 b.2) tt tt a.4 b.3 in cc

fail_not_break : (f : Frame) (k : ℕ) (s : Start) → RunFails f k s → RunBreaks f k s → ⊥
fail_not_break f k s a b = let e = one_end f k s a.0 b.0 (Failed a.3 a.1 a.2) (Broken b.1 b.2 b.3) tt tt a.4 b.4 in cc

module _ (f : Frame) (k m : ℕ) (h : k ≤ m) where
  -- what is met within a bound is met within a greater one
  point_rises : {q : Point} → IsPoint f k q → IsPoint f m q
  point_rises first = first
  point_rises (entry_head is) = entry_head is
  point_rises (next is has few) = next (point_rises is) has (omega (arith, few, h))

  origin_rises : (start : Start) (o : Option Place) → IsOrigin f k start.state o → IsOrigin f m start.state o
  origin_rises start None is = is
  origin_rises start (Some c) is = (point_rises is.0, is.1)

  pub start_rises : (start : Start) → IsStart f k start → RunFails f k start → IsStart f m start × RunFails f m start
  start_rises start is fails =
      let fails_too = (ends f k m h start).fails fails in (
        record {
          entry = is.entry;
          origin = origin_rises start start.head is.origin;
          choices = is.choices;
          given = is.given;
          is_run = λ b. fail_not_break f m start fails_too b;
        },
        fails_too,
      )

  module _ (anchors : SameAnchors f k m) where
    origin_falls : (start : Start) (o : Option Place) → IsOrigin f m start.state o → IsOrigin f k start.state o
    origin_falls start None is = is
    origin_falls start (Some c) is = (anchors (AtHead c.stack c.state.pc) is.0, is.1)

    start_falls : (start : Start) → IsStart f m start → IsStart f k start
    start_falls start is = record {
      entry = is.entry;
      origin = origin_falls start start.head is.origin;
      choices = is.choices;
      given = is.given;
      is_run = λ b. is.is_run ((ends f k m h start).breaks b);
    }

    passes : (start : Start) → RunExits f k start ⊎ RunIsCut f k start → RunExits f m start ⊎ RunIsCut f m start
    passes start e = elim e [ inl x ↦ inl ((ends f k m h start).exits x) | inr c ↦ inr ((ends f k m h start).cuts c) ]

    pub right : (v : Verdict) → v ≢ NotInductive → v ≢ Unroll → IsRight f k v → IsRight f m v
    right Vacuous a b is = is
    right Fails a b (start, is, none, fails) = let q = start_rises start is fails in (start, q.0, none, q.1)
    right NotInductive a b is = absurd (a refl)
    right Unroll a b is = absurd (b refl)
    right Holds a b (none, entered, all) = (none, entered, λ start is. (ends f k m h start).exits (all start (start_falls start is)))
    right Partial a b (some, entered, all) = (some, entered, λ start is. passes start (all start (start_falls start is)))

-- the reading with another head part
abbrev with_head : Reading → Content → Reading
with_head r g = record { state = r.state; head = g; choice = r.choice; given = r.given }

-- the segment from the entry reads nothing of the head part
on_headless : (f : Frame) (k : ℕ) (r : Reading) (g : Content) (x : Run) → read_on f k (with_head r g) AtEntry x ≡ read_on f k r AtEntry x
on_headless f k r g (Going turns n c) = refl
on_headless f k r g (Arriving turns n c) = refl
on_headless f k r g (Calling turns n c) = refl
on_headless f k r g (Exited at n) = refl
on_headless f k r g (Failed e at n) = refl
on_headless f k r g (Turned at n) = refl
on_headless f k r g (Cut at n) = refl
on_headless f k r g (Broken line at n) = refl

headless_run : (f : Frame) (k : ℕ) (r : Reading) (g : Content) (steps : ℕ) → read_run f k (with_head r g) AtEntry steps ≡ read_run f k r AtEntry steps
unfolding read_run
headless_run f k r g zero = refl
headless_run f k r g (suc n) = ap (read_on f k (with_head r g) AtEntry) (headless_run f k r g n) ∙ on_headless f k r g (read_run f k r AtEntry n)

module _ (f : Frame) (asked : ℕ → Bool) (k m : ℕ) (h : k ≤ m) (anchors : SameAnchors f k m) (never : NeverTrue f asked k TurnQuestion) (r : Reading) where
  -- A segment from the entry that turns too often makes the turn question true of the reading whose head part is the state at entry, which has the kept bytes.
  entry_turns : IsReading r → (question : Question) → IsTrueOver f asked m r question → ReadingTurns f k r AtEntry → ⊥
  entry_turns reading question is (steps, at, n, e) = never (with_head r (content_of r.state)) (record {
    reading = record {
      state = reading.state;
      head = record { regs = reading.state.regs; flags = reading.state.flags; mem = reading.state.mem };
      choice = reading.choice;
      given = reading.given;
    };
    entry = is.entry;
    head = λ has asks a c low loaded kept ask. is.entry.bytes a c low loaded ask;
    ends = inl (steps, at, n, headless_run f k r (content_of r.state) steps ∙ e);
  })

  entry_fails : (question : Question) → IsTrueOver f asked m r question → ReadingFails f m r AtEntry → ReadingFails f k r AtEntry
  entry_fails question is fails = elim (reading_failed f k m h r AtEntry fails) [ inl x ↦ x | inr t ↦ absurd (entry_turns is.reading question is t) ]

  -- the same question of another bound, by how the segments end
  moved : (i j : ℕ) (question : Question) → (EndsBy f i r question → EndsBy f j r question) → IsTrueOver f asked i r question →
      IsTrueOver f asked j r question
  moved i j question ends is = record { reading = is.reading; entry = is.entry; head = is.head; ends = ends is.ends }

  up : (question : Question) → IsTrueOver f asked k r question → IsTrueOver f asked m r question
  up EntryQuestion is = moved k m EntryQuestion (λ e. e) is
  up FailQuestion is = moved k m FailQuestion (reading_fails f k m h r AtEntry) is
  up StepQuestion is =
      moved k m StepQuestion (λ e. (e.0, e.1, point_rises f k m h e.2, e.3, reading_fails f k m h r (AtHead e.0 e.1) e.4)) is
  up TurnQuestion is = absurd (never r is)

  -- a segment from the head part that fails within the greater bound fails within the smaller one
  head_fails : IsTrueOver f asked m r StepQuestion → FromHead f m r (ReadingFails f m r) → FromHead f k r (ReadingFails f k r)
  head_fails is (stack, a, anchor, part, e) = elim (reading_failed f k m h r (AtHead stack a) e) [
    | inl x ↦ (stack, a, anchors (AtHead stack a) anchor, part, x)
    | inr t ↦ absurd (never r (record {
      reading = is.reading;
      entry = is.entry;
      head = is.head;
      ends = inr (stack, a, anchors (AtHead stack a) anchor, part, t);
    }))
  ]

  turns_fall : EndsBy f m r TurnQuestion → EndsBy f k r TurnQuestion
  turns_fall e = elim e [
    | inl t ↦ inl (reading_turns f k m h r AtEntry t)
    | inr t ↦ inr (t.0, t.1, anchors (AtHead t.0 t.1) t.2, t.3, reading_turns f k m h r (AtHead t.0 t.1) t.4)
  ]

  down : (question : Question) → IsTrueOver f asked m r question → IsTrueOver f asked k r question
  down EntryQuestion is = moved m k EntryQuestion (λ e. e) is
  down FailQuestion is = moved m k FailQuestion (entry_fails FailQuestion is) is
  down StepQuestion is = moved m k StepQuestion (head_fails is) is
  down TurnQuestion is = moved m k TurnQuestion turns_fall is

  pub alike : (question : Question) → IsTrueOver f asked k r question ↔ IsTrueOver f asked m r question
  alike question = (up question, down question)

pub frame_starts_rise : FrameStartsRise
frame_starts_rise f k m h start is fails = start_rises f k m h start is fails

pub frame_verdicts_rise : FrameVerdictsRise
frame_verdicts_rise f k m h anchors v a b is = right f k m h anchors v a b is

pub frame_questions_rise : FrameQuestionsRise
frame_questions_rise f asked k m h anchors never r question = alike f asked k m h anchors never r question
