-- What `upgrade` prints keeps the verdict.
use Rattle.std.proofs.Common.{◌≡◌, ℕ, ◌≤◌, refl, ap, sym, ◌∙◌, subst, arith, Bool, true, false, List, ◌∷◌, ◌++◌, None, Some, length}
use Rattle.std.specs.Prelude.{◌↔◌, codes, nat_le, if◌then◌else◌}
use Rattle.std.proofs.lemmas.Bool.Decides.{nat_tests}
use Rattle.call_spec.specs.Outside.{Appends}
use Rattle.bilv_spec.specs.Run.{Program}
use Rattle.bilv_spec.specs.Verdict.{Verdict, IsRight}
use Rattle.notes_spec.specs.NotesGrammar.{lines_of, is_second, IsNotesText}
use Rattle.notes_spec.specs.RvNames.{rv_names}
use Rattle.notes_spec.specs.ArmNames.{arm_names}
use Rattle.call_spec.specs.Calls.{Options, Evidence, Answer, plain_answer, Surroundings, AfterRead}
use Rattle.bilv_spec.specs.Files.{is_rv}
use Rattle.notes_spec.specs.Programs.{vocabulary_of}
use Rattle.word_spec.specs.Texts.{line}
use Rattle.notes_spec.specs.Upgrades.{upgraded, later_notes, later_program}
use Rattle.notes_spec.specs.Verified.{notes_limit, IsFound, AfterImage, elf_refused, elf_accepted}
use Rattle.answer_spec.specs.FrameAnswers.{AfterFrames, frames_refused, frames_found}
use Rattle.command_spec.specs.Commands.{Upgrade}
use Rattle.answer_spec.specs.Outcomes.{upgrade_answer, IsOutcome, whole, cut, no_memory}
use Rattle.notes_spec.proofs.LaterRuns.{verdict_is_same}
use Rattle.notes_spec.proofs.Upgrading.{upgrade_says_same, none_is_all}
use Rattle.answer_laws.specs.Completeness.{AreTold}
use Rattle.answer_laws.specs.Upgrading.{KeepsVerdict}
use Rattle.answer_laws.proofs.Completeness.{read_calm}

none_by : (b : Bool) → (if b then rv_names (codes "all") else arm_names (codes "all")) ≡ None
none_by true = none_is_all.0
none_by false = none_is_all.1

-- by the version of the text
kept_by : (o : Options) (file text : List ℕ) (second : Bool) → is_second (lines_of text) ≡ second →
    KeepsVerdict o file text (if second then text else codes "notes 2" ++ 10 ∷ text)
kept_by o file text true e p is = (p, is, λ k v. (λ h. h, λ h. h))
kept_by o file text false e p is =
    let printed : upgraded text ≡ codes "notes 2" ++ 10 ∷ text = ap (λ (b : Bool). if b then text else codes "notes 2" ++ 10 ∷ text) e in (
      later_program p,
      (
        later_notes is.0,
        is.1,
        subst (λ (t : List ℕ). IsNotesText (vocabulary_of o file) t (later_notes is.0)) printed
            (upgrade_says_same (vocabulary_of o file) (none_by (is_rv file)) text is.0 e is.2),
        is.3,
        ap later_program is.4,
      ),
      verdict_is_same p,
    )

pub upgrade_keeps_verdict : (o : Options) (file text : List ℕ) → KeepsVerdict o file text (upgraded text)
upgrade_keeps_verdict o file text = kept_by o file text (is_second (lines_of text)) refl

pub upgrade_is_found : (o : Options) (file text : List ℕ) (p : Program) → IsFound o file text p → length (upgraded text) ≤ notes_limit →
    (r : Program) × IsFound o file (upgraded text) r × ((k : ℕ) (v : Verdict) → IsRight p k v ↔ IsRight r k v)
upgrade_is_found o file text p found room =
    let kept = upgrade_keeps_verdict o file text p found.2 in (kept.0, (found.0, room, kept.1), kept.2)

-- an answer of status 0 to the text
abbrev IsPrinted : Options → (file text : List ℕ) → Answer → Type 0
IsPrinted o file text a = (a.text ≡ upgraded text) × (length a.text ≤ notes_limit)

sized : (text : List ℕ) (small : Bool) → nat_le (length (upgraded text)) notes_limit ≡ small → (a : Answer) →
    a ≡ (if small then plain_answer 0 (upgraded text) else plain_answer 5 (line (codes "notes: TooLarge"))) → a.status ≡ 0 →
    (a.text ≡ upgraded text) × (length a.text ≤ notes_limit)
sized text true e a is zero_is =
    let same : a.text ≡ upgraded text = ap (λ (x : Answer). x.text) is in
    let room : length (upgraded text) ≤ notes_limit = grind (arith, nat_tests, e) in
    (same, subst (λ (t : List ℕ). length t ≤ notes_limit) (sym same) room)
sized text false e a is zero_is = let five : a.status ≡ 5 = ap (λ (x : Answer). x.status) is in absurd (omega arith)

by_notes : (o : Options) (file text : List ℕ) (a : Answer) → AfterFrames o file text (λ w a. a ≡ upgrade_answer text) a → a.status ≡ 0 → IsPrinted o file text a
by_notes o file text a (frames_refused written h is) e = let five : a.status ≡ 5 = ap (λ (x : Answer). x.status) is in absurd (omega arith)
by_notes o file text a (frames_found w found next) e = sized text (nat_le (length (upgraded text)) notes_limit) refl a next e

by_image : (s : Surroundings) (o : Options) (elf notes file text : List ℕ) (a : Answer) → AreTold s elf notes file text →
    AfterImage file (AfterRead s notes (λ text. AfterFrames o file text (λ w a. a ≡ upgrade_answer text))) a → a.status ≡ 0 → IsPrinted o file text a
by_image s o elf notes file text a told (elf_refused written h is) e =
    let four : a.status ≡ 4 = ap (λ (x : Answer). x.status) is in absurd (omega arith)
by_image s o elf notes file text a told (elf_accepted accepted next) e =
    by_notes o file text a (read_calm s notes text told.notes_held told.notes_calm next) e

pub upgrade_is_printed : (s : Surroundings) (o : Options) (elf notes file text : List ℕ) (status : ℕ) (evidence : Evidence) → AreTold s elf notes file text →
    IsOutcome s (Some (Upgrade o elf notes)) status evidence → status ≡ 0 →
    (q : List ℕ) × Appends s.text_before q s.text_after × (q ≡ upgraded text) × (length q ≤ notes_limit) × KeepsVerdict o file text q
upgrade_is_printed s o elf notes file text status shown told (whole a due appends e d) zero_is =
    let is = by_image s o elf notes file text a told (read_calm s elf file told.elf_held told.elf_calm due) (sym e ∙ zero_is) in (
      a.text,
      appends,
      is.0,
      is.1,
      subst (λ (q : List ℕ). KeepsVerdict o file text q) (sym is.0) (upgrade_keeps_verdict o file text),
    )
upgrade_is_printed s o elf notes file text status shown told (cut a n due l appends rose e d) zero_is = absurd (omega (arith, e, zero_is))
upgrade_is_printed s o elf notes file text status shown told (no_memory appends e d) zero_is = absurd (omega (arith, e, zero_is))
