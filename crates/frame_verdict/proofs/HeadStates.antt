-- The head state of a start that is shown, and its end.
use Rattle.std.proofs.Common.{◌≡◌, sym, ap, subst, ◌∙◌, ℕ, true, List, Option, Some, None}
use Rattle.std.specs.Borrow.{Bor}
use Rattle.std.specs.Option.{option_copied}
use Rattle.std.specs.Prelude.{option_map}
use Rattle.word_spec.specs.State.{State, Written}
use Rattle.bilv_spec.specs.Run.{Program, false_assert}
use Rattle.machine_spec.specs.StateText.{Layout}
use Rattle.frame_spec.specs.Frames.{Frame, is_head, invariants_of}
use Rattle.frame_spec.specs.FrameFound.{found}
use Rattle.frame_spec.specs.FrameReports.{head_of, head_place}
use Rattle.frame_spec.specs.FrameVerdict.{IsHeadState}
use Rattle.state_text.specs.Starts.{written_head_of}
use Rattle.state_text.specs.declared.start.HeadStart.{HeadStart}
use Rattle.table_run.specs.FrameEnds.{HasKept, frame_found_of, frame_of, start_shown}
use Rattle.table_run.specs.declared.ending.FrameEnding.{FrameEnding}
use Rattle.frame_verdict.specs.ShownEnds.{IsEndOf, IsHeadFor, IsHeadWritten}

-- head states that are borrowed
abbrev borrowed : Bor HeadStart → HeadStart
borrowed h = h.now

module _ (p : Program) (invariants : List ℕ) (form : Layout) where
  abbrev f : Frame
  f = frame_of p invariants

  abbrev Fits : State → Option (Bor HeadStart) → Type 0
  Fits entry o = IsHeadFor f entry (head_of f form (option_map (λ h. written_head_of h.now) o))

  module _ (entry state : State) (o : Option (Bor HeadStart)) (h : Bor HeadStart) (is : o ≡ Some h)
      (same : state ≡ (head_place p form (written_head_of h.now)).state) where
    -- it is one for the state at entry
    pub fits : IsHeadWritten p invariants form (option_map borrowed o) → (is_head f state.pc ≡ true → HasKept p state → IsHeadState f entry state) →
        HasKept p state → Fits entry o
    fits written ok kept =
        let at = subst (λ (z : Option (Bor HeadStart)). IsHeadWritten p invariants form (option_map borrowed z)) is written in
        subst (Fits entry) (sym is)
        (subst (λ (z : State). IsHeadState f entry z) same (ok (subst (λ (z : State). is_head f z.pc ≡ true) (sym same) at.1) kept))

    -- an invariant of the head is false
    pub fits_not : (line : ℕ) → Some line ≡ false_assert f.program.machine.endian (invariants_of f f.program.notes.asserts) state entry → ¬ Fits entry o
    fits_not line e fit =
        let h = subst (λ (z : State). IsHeadState f entry z) (sym same) (subst (Fits entry) is fit) in
        let z = e ∙ h.invariants in cc

  -- the start that is shown has the head state
  start_as : (a : Option (Bor HeadStart)) (b : Option HeadStart) → option_copied a ≡ b →
      option_map (λ h. written_head_of h.now) a ≡ option_map written_head_of b
  start_as None b e = ap (option_map written_head_of) e
  start_as (Some h) b e = ap (option_map written_head_of) e

  module _ (k last : ℕ) (w : Written) (a : Option (Bor HeadStart)) (b : Option HeadStart) (same : option_copied a ≡ b) (entry : State)
      (is : entry ≡ (start_shown p invariants form w (option_map written_head_of b)).state) where
    abbrev head_by : State → Option HeadStart → Type 0
    head_by z c = IsHeadFor f z (head_of f form (option_map written_head_of c))

    here : Fits entry a → head_by (start_shown p invariants form w (option_map written_head_of b)).state b
    here fit =
        subst (λ (z : State). head_by z b) is
        (subst (λ z. IsHeadFor f entry (head_of f form z)) (start_as a b same) fit)

    there : head_by (start_shown p invariants form w (option_map written_head_of b)).state b → Fits entry a
    there fit =
        subst (λ z. IsHeadFor f entry (head_of f form z)) (sym (start_as a b same))
        (subst (λ (z : State). head_by z b) (sym is) fit)

    -- what it comes to
    pub no_end : ¬ Fits entry a → IsEndOf f k last (start_shown p invariants form w (option_map written_head_of b)) None
    no_end not fit = not (there fit)

    pub end : (e : FrameEnding) → Fits entry a →
        frame_found_of e ≡ found f (Some k) (start_shown p invariants form w (option_map (λ h. written_head_of h.now) a)) last →
        IsEndOf f k last (start_shown p invariants form w (option_map written_head_of b)) (Some e)
    end e fit finds = (
      here fit,
      finds ∙ ap (λ z. found f (Some k) (start_shown p invariants form w z) last) (start_as a b same),
    )
