-- What a text says of a program without contracts can be written, it is of the entry's frame, and its step is within the last.
use Rattle.std.proofs.Common.{◌≡◌, ℕ, ◌≤◌, List, [], ◌∷◌, Option, Some, None, Bool, true, refl, sym, subst, ◌∙◌, ap}
use Rattle.std.specs.Prelude.{All, is_some}
use Rattle.std.proofs.lemmas.List.Elements.{All-head}
use Rattle.word_spec.specs.State.{Written}
use Rattle.machine_spec.specs.StateText.{Layout, IsWritten, last_step}
use Rattle.bilv_spec.specs.Points.{is_kept_at, is_known_at}
use Rattle.frame_spec.specs.Frames.{Contract, contract_at}
use Rattle.frame_spec.specs.FrameReports.{WrittenCall, WrittenHead}
use Rattle.frame_spec.specs.FrameVerdict.{Whole}
use Rattle.frame_texts_spec.specs.CallReplays.{bare, call_checks, changes_by, frame_checks}
use Rattle.frame_texts_spec.specs.CallTextLaws.{AreOfLayout}
use Rattle.frame_texts_spec.specs.CallTexts.{CallChecks, CallEnding, CallIs, CallText, Changes, EntryFrame, FrameName, ContractFrame, IsBlock, IsCallEnding, IsFrameName, Plain, UnprovedBy, UnprovedTurns, call_text_of, frame_name}
use Rattle.frame_texts_spec.specs.FrameReplays.{step_of}
use Rattle.frame_texts_spec.specs.FrameTexts.{Checks, FramedEnding, FramedFails, FramedTurns, NotInductiveBy, IsFramedEnding, IsHeadPart}
use Rattle.frame_texts_spec.proofs.CallsSaid.{told_blocks_are_printed}

-- the start and the head state can be written
abbrev pub IsHeadWritten : Layout → (kept : ℕ → Bool) → Option WrittenHead → Type 0
IsHeadWritten layout kept None = Unit {0}
IsHeadWritten layout kept (Some h) = IsWritten layout kept h.start

pub record IsTextWritten (layout : Layout) (w : Whole) (t : CallText) : Type 0 where
  pub start : IsWritten layout (is_known_at w.program) t.start
  pub head : IsHeadWritten layout (is_kept_at w.program) t.head
  pub entry : frame_name t.named ≡ EntryFrame
  pub calls : t.calls ≡ []
  pub step : step_of (bare t.named) ≤ last_step

head_written : (layout : Layout) (c : Checks) (w : Written) (o : Option WrittenHead) → IsHeadPart layout c w o → IsHeadWritten layout c.kept o
head_written layout c w None part = tt
head_written layout c w (Some h) part = part.start

framed_within : (n : FramedEnding) → IsFramedEnding n → step_of n ≤ last_step
framed_within (FramedFails e at step) is = is.2
framed_within (FramedTurns k at step) is = is.2
framed_within (NotInductiveBy e at step) is = is.2

step_within : (c : CallChecks) (n : CallEnding) → IsCallEnding c n → step_of (bare n) ≤ last_step
step_within c (Plain n) is = framed_within n is
step_within c (UnprovedBy f e at step) is = is.3
step_within c (UnprovedTurns f k at step) is = is.3

-- a program without contracts has none at an address
module _ (w : Whole) (returns : ℕ → Bool) (free : w.contracts ≡ []) where
  no_change : (a : ℕ) → (call_checks w returns).changes a ≡ None
  no_change a = ap (λ (cs : List Contract). changes_by w a (contract_at cs a)) free

  pub of_layout : (layout : Layout) → AreOfLayout layout (call_checks w returns)
  of_layout layout a x is = absurd (let z : None ≡ Some x = sym (no_change a) ∙ is in let no : ⊥ = cc in no)

  entry_named : (f : FrameName) → IsFrameName (call_checks w returns) f → f ≡ EntryFrame
  entry_named EntryFrame is = refl
  entry_named (ContractFrame a) is =
      let z = subst (λ (o : Option Changes). is_some o ≡ true) (no_change a) is.1 in
      absurd (let no : ⊥ = cc in no)

  of_entry : (n : CallEnding) → IsCallEnding (call_checks w returns) n → frame_name n ≡ EntryFrame
  of_entry (Plain n) is = refl
  of_entry (UnprovedBy f e at step) is = entry_named f is.0
  of_entry (UnprovedTurns f k at step) is = entry_named f is.0

  no_blocks : (layout : Layout) (calls : List WrittenCall) → All (IsBlock layout (call_checks w returns)) calls → calls ≡ []
  no_blocks layout [] all = refl
  no_blocks layout (x ∷ rest) all =
      let b = All-head (IsBlock layout (call_checks w returns)) x rest all in
      absurd (let z : None ≡ Some b.contract = sym (no_change x.at) ∙ b.is_contract in let no : ⊥ = cc in no)

  pub text_written : (layout : Layout) (text : List ℕ) (t : CallText) → call_text_of layout (call_checks w returns) text ≡ CallIs t → IsTextWritten layout w t
  text_written layout text t e =
      let c = call_checks w returns in
      let p = (told_blocks_are_printed layout c text t (of_layout layout) e).0 in
      let entry = of_entry t.named p.named in
      record {
        start = subst (λ (f : FrameName). IsWritten layout (frame_checks w returns f).known t.start) entry p.start;
        head = head_written layout (frame_checks w returns EntryFrame) t.start t.head
            (subst (λ (f : FrameName). IsHeadPart layout (frame_checks w returns f) t.start t.head) entry p.head);
        entry = entry;
        calls = no_blocks layout t.calls p.calls;
        step = step_within c t.named p.named;
      }
