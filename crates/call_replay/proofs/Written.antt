-- What a text says of a program with contracts can be written.
use Rattle.std.proofs.Common.{◌≡◌, ℕ, ◌≤◌, ◌<◌, refl, ap, sym, ◌∙◌, subst, arith, true, false, List, [], Option, Some, None, length, map, get_or}
use Rattle.std.specs.Prelude.{All, AllPairs}
use Rattle.std.proofs.lemmas.List.{get_or-map, length-map}
use Rattle.machine_spec.specs.StateText.{Layout, IsWritten, last_step}
use Rattle.bilv_spec.specs.Points.{is_known_at}
use Rattle.frame_spec.specs.Frames.{Frame}
use Rattle.frame_spec.specs.FrameReports.{IsWrittenCall, WrittenHead}
use Rattle.frame_spec.specs.FrameVerdict.{Whole, frame_of}
use Rattle.frame_texts_spec.specs.CallReplays.{bare, call_checks, frame_checks, frame_named, rank_named}
use Rattle.frame_texts_spec.specs.CallTextLaws.{HasContracts}
use Rattle.frame_texts_spec.specs.CallTexts.{CallChecks, CallEnding, CallIs, CallText, CallTold, FrameName, Plain, UnprovedBy, UnprovedTurns, IsCallEnding, IsCallText, call_text_of, frame_name}
use Rattle.frame_texts_spec.specs.FrameReplays.{step_of}
use Rattle.frame_texts_spec.specs.FrameTexts.{FramedEnding, FramedFails, FramedTurns, NotInductiveBy, IsFramedEnding, IsHeadPart}
use Rattle.frame_texts_spec.proofs.CallsSaid.{told_blocks_are_printed}
use Rattle.frame_texts_spec.proofs.ProgramBlocks.{changes_are_of_layout, written_is_shown}
use Rattle.call_replay.proofs.Ranked.{named_is, none_named}

-- what holds of images
pub of_images : {X Y : Type 0} (P : Y → Type 0) (f : X → Y) (xs : List X) → All P (map f xs) → All (λ x. P (f x)) xs
of_images P f xs all i d below =
    subst P (get_or-map f xs i d (f d) below) (all i (f d) (subst (λ n. i < n) (sym (length-map xs f)) below))

pub of_pairs : {X Y : Type 0} (P : Y → Y → Type 0) (f : X → Y) (xs : List X) → AllPairs P (map f xs) → AllPairs (λ x y. P (f x) (f y)) xs
of_pairs P f xs all i j d less below =
    let early : i < length xs = omega (arith, less, below) in
    subst (λ y. P y (f (get_or xs j d))) (get_or-map f xs i d (f d) early)
    (subst (P (get_or (map f xs) i (f d))) (get_or-map f xs j d (f d) below) (all i j (f d) less (subst (λ n. j < n) (sym (length-map xs f)) below)))

-- the frame of a name by its rank
pub frame_is : (w : Whole) (rank : ℕ) (g f : FrameName) → rank ≡ rank_named w g → g ≡ f → frame_of w rank ≡ frame_named w f
frame_is w rank g f ranks names = ap (frame_of w) (ranks ∙ ap (rank_named w) names) ∙ named_is w f

-- what is told in the layout of the machine
pub told_in : (layout form : Layout) (w : Whole) (text : List ℕ) (t : CallText) (r : CallTold) → layout ≡ form →
    call_text_of layout (call_checks w (λ a. false)) text ≡ r → r ≡ CallIs t → call_text_of form (call_checks w (λ a. false)) text ≡ CallIs t
told_in layout form w text t r same told is = sym (ap (λ (l : Layout). call_text_of l (call_checks w (λ a. false)) text) same) ∙ told ∙ is

-- the step of an ending that can be written
framed_within : (n : FramedEnding) → IsFramedEnding n → step_of n ≤ last_step
framed_within (FramedFails e at step) is = is.2
framed_within (FramedTurns k at step) is = is.2
framed_within (NotInductiveBy e at step) is = is.2

step_within : (c : CallChecks) (n : CallEnding) → IsCallEnding c n → step_of (bare n) ≤ last_step
step_within c (Plain n) is = framed_within n is
step_within c (UnprovedBy f e at step) is = is.3
step_within c (UnprovedTurns f k at step) is = is.3

module _ (layout : Layout) (w : Whole) (none : w.invariants ≡ []) (has : HasContracts layout w) (text : List ℕ) (t : CallText)
    (told : call_text_of layout (call_checks w (λ a. false)) text ≡ CallIs t) where
  is_text : IsCallText layout (call_checks w (λ a. false)) t
  is_text = (told_blocks_are_printed layout (call_checks w (λ a. false)) text t (changes_are_of_layout layout w (λ a. false) has) told).0

  pub start_written : (f : Frame) → f ≡ frame_named w (frame_name t.named) → IsWritten layout (is_known_at f.program) t.start
  start_written f same = subst (λ (g : Frame). IsWritten layout (is_known_at g.program) t.start) (sym same) is_text.start

  pub calls_written : All (IsWrittenCall w layout) t.calls
  calls_written = (written_is_shown layout w (λ a. false) t is_text).calls

  pub calls_rising : AllPairs (λ x y. x.step < y.step) t.calls
  calls_rising = is_text.calls_rise

  pub step_low : step_of (bare t.named) ≤ last_step
  step_low = step_within (call_checks w (λ a. false)) t.named is_text.named

  no_part : (o : Option WrittenHead) → IsHeadPart layout (frame_checks w (λ a. false) (frame_name t.named)) t.start o → o ≡ None
  no_part None part = refl
  no_part (Some h) part = absurd (let z : true ≡ false = sym part.head ∙ none_named w (frame_name t.named) none h.at in cc)

  pub headless : t.head ≡ None
  headless = no_part t.head is_text.head
