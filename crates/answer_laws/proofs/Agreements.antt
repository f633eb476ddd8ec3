-- Memory that agrees with the file on all known bytes, and starts that take a reading's choices.
use Rattle.std.proofs.Common.{◌≡◌, ℕ, zero, suc, refl, ap, sym, ◌∙◌, subst, arith, Bool, true, false, Some, None}
use Rattle.std.specs.Prelude.{◌||◌, ◌&&◌, is_some, if◌then◌else◌}
use Rattle.bilv_spec.specs.Elf.{Cell, kept}
use Rattle.bilv_spec.specs.Run.{Program, Run, Going, Exited, Failed, Turned, Place, run, one_more, is_kept}
use Rattle.machine_spec.specs.Endings.{Start}
use Rattle.bilv_spec.specs.Verdict.{fixed}
use Rattle.bilv_spec.specs.Points.{is_known_at, byte_of_cell}
use Rattle.bilv_spec.specs.Questions.{Reading, IsTrue, IsTrueOver, by_file, point_of, read_run, read_on}
use Rattle.call_spec.specs.Calls.{Question}
use Rattle.bilv_spec.specs.QuestionLaws.{Follows}
use Rattle.bilv_spec.specs.Evidence.{AgreesOn}
use Rattle.machine_spec.specs.StateText.{Layout, known_or}
use Rattle.word_spec.specs.State.{Written}
use Rattle.bilv_spec.specs.Answers.{known_byte, start_in}
use Rattle.word_spec.specs.Words.{word}
use Rattle.bilv_spec.proofs.ReadingRuns.{Numbered, numbered}

or_left : (x y : Bool) → x ≡ true → (x || y) ≡ true
or_left true y e = refl
or_left false y e = absurd (cc)

or_right : (x y : Bool) → y ≡ true → (x || y) ≡ true
or_right true y e = refl
or_right false y e = e

kept_is_known : (p : Program) (a : ℕ) (c : Cell) → p.loaded a ≡ Some c → kept c ≡ true → is_known_at p a ≡ true
kept_is_known p a c at e =
    ap (λ o. is_kept o || (is_some o && fixed p.notes.fixed a)) at ∙ or_left (kept c) (fixed p.notes.fixed a) e

fixed_is_known : (p : Program) (a : ℕ) (c : Cell) → p.loaded a ≡ Some c → fixed p.notes.fixed a ≡ true → is_known_at p a ≡ true
fixed_is_known p a c at e =
    ap (λ o. is_kept o || (is_some o && fixed p.notes.fixed a)) at ∙ or_right (kept c) (fixed p.notes.fixed a) e

pub written_agrees : (p : Program) (layout : Layout) (w : Written) → AgreesOn p (is_known_at p) (start_in p layout w).state
written_agrees p layout w a c low at known =
    let same : word 32 a ≡ a = omega arith in
    ap (λ x. known_or (known_byte p x) w.bytes a) same
    ∙ ap (λ b. known_or (if b then Some (byte_of_cell (p.loaded a)) else None) w.bytes a) known
    ∙ ap byte_of_cell at

pub agreement_is_enough : (p : Program) (asked : ℕ → Bool) (k : ℕ) (r : Reading) (question : Question) → AgreesOn p (is_known_at p) r.state →
    IsTrueOver p asked k r question → IsTrue p k r question
agreement_is_enough p asked k r question agrees t = record {
  choice = t.choice;
  entry = record {
    state = t.entry.state;
    pc = t.entry.pc;
    link = t.entry.link;
    kept_bytes = λ a c low at e. agrees a c low at (kept_is_known p a c at e);
    fixed_bytes = λ a c low at e. agrees a c low at (fixed_is_known p a c at e);
    requires = t.entry.requires;
  };
  ends = t.ends;
}

module _ (p : Program) (k : ℕ) (r : Reading) (start : Start) (same : start.state ≡ r.state)
    (choices : (n turns : ℕ) (c : Place) → read_run p k r n ≡ Going turns n c → start.choices n ≡ r.choice (point_of turns c)) where
  same_step : (n : ℕ) (x : Run) → Numbered n x → read_run p k r n ≡ x → one_more (by_file p) k start x ≡ read_on p k r x
  same_step n (Going turns m c) h e =
      let at : read_run p k r m ≡ Going turns m c = ap (read_run p k r) h ∙ e in rw (same, choices m turns c at) refl
  same_step n (Exited at m) h e = refl
  same_step n (Failed x at m) h e = refl
  same_step n (Turned at m) h e = refl

  same_runs : (n : ℕ) → run (by_file p) k start n ≡ read_run p k r n
  unfolding run read_run
  same_runs zero = rw same refl
  same_runs (suc n) =
      let e = same_runs n in
      ap (one_more (by_file p) k start) e ∙ same_step n (read_run p k r n) (subst (Numbered n) e (numbered (by_file p) k start n)) refl

pub choices_follow : (p : Program) (k : ℕ) (r : Reading) (start : Start) → start.state ≡ r.state →
    ((n turns : ℕ) (c : Place) → read_run p k r n ≡ Going turns n c → start.choices n ≡ r.choice (point_of turns c)) → Follows p k r start
choices_follow p k r start same choices = record {
  state = same;
  choices = λ n turns c e. choices n turns c (sym (same_runs p k r start same choices n) ∙ e);
}
