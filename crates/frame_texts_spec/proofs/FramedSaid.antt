-- What a text says can be written, and its lines are those that are printed of it.
use Rattle.std.proofs.Common.{◌≡◌, ℕ, refl, ap, sym, ◌∙◌, subst, List, [], ◌∷◌, Option, Some, None}
use Rattle.word_spec.specs.Texts.{joined, split_lines}
use Rattle.machine_spec.specs.StateText.{Layout}
use Rattle.frame_texts_spec.specs.FrameTexts.{Checks, FrameFault, FramedEnding, FramedIs, FramedRefused, FramedText, IsFramed, IsFramedEnding, ending_of, ending_words, framed_lines, framed_of, framed_told, part_of, told_behind}
use Rattle.frame_texts_spec.specs.FrameTextLaws.{ToldIsFramed}
use Rattle.frame_texts_spec.proofs.Blockless.{behind_alike, renamed}
use Rattle.frame_texts_spec.proofs.EndingsSaid.{first_said}
use Rattle.frame_texts_spec.proofs.PartsSaid.{behind_said}

module _ (layout : Layout) (c : Checks) (t : FramedText) where
  abbrev IsRight : List (List ℕ) → Type 0
  IsRight ls = IsFramed layout c t × (ls ≡ framed_lines layout t)

  refused : {P : Type 0} (n : ℕ) (f : FrameFault) → FramedRefused n f ≡ FramedIs t → P
  refused n f e = absurd (let z : FramedRefused n f ≡ FramedIs t = e in cc)

  named_is : (n : FramedEnding) → FramedIs t ≡ renamed n (FramedIs t) → n ≡ t.named
  named_is n e = let z : FramedIs t ≡ FramedIs (record { named = n; start = t.start; head = t.head }) = e in cc

  of_ending : (first : List ℕ) (rest : List (List ℕ)) (o : Option FramedEnding) → ending_of layout first ≡ o →
      told_behind layout c o (part_of layout rest) ≡ FramedIs t → IsRight (first ∷ rest)
  of_ending first rest None is e = refused 1 _ e
  of_ending first rest (Some n) is e =
      let ending = first_said layout first n is in
      let body = behind_said layout c t n rest e in
      let same = named_is n (sym e ∙ behind_alike layout c n n (part_of layout rest) ∙ ap (renamed n) e) in (
        record { named = subst IsFramedEnding same ending.ending; start = body.start; head = body.head },
        ap (λ (l : List ℕ). l ∷ rest) (ending.line ∙ ap (λ (m : FramedEnding). joined (ending_words m)) same)
            ∙ ap (λ (ls : List (List ℕ)). joined (ending_words t.named) ∷ ls) body.lines,
      )

  of_lines : (ls : List (List ℕ)) → framed_told layout c ls ≡ FramedIs t → IsRight ls
  of_lines [] e = refused 1 _ e
  of_lines (first ∷ rest) e = of_ending first rest (ending_of layout first) refl e

pub told_is_framed : ToldIsFramed
unfolding framed_of
told_is_framed layout c text t e = of_lines layout c t (split_lines text) e
