-- Lines that begin a head part, and the parts before them.
use Rattle.std.proofs.Common.{◌≡◌, ℕ, refl, ap, sym, ◌∙◌, Bool, true, false, List, [], ◌∷◌, Option, Some, None, take, codes}
use Rattle.std.specs.Prelude.{if◌then◌else◌}
use Rattle.std.specs.Option.{option_map}
use Rattle.std.specs.Str.{bytes_eq}
use Rattle.std.proofs.lemmas.Slice.Eq.{bytes_eq-Decides}
use Rattle.word_spec.specs.Memory.{endian}
use Rattle.word_spec.specs.Texts.{hex_word, words_in}
use Rattle.machine_spec.specs.StateText.{Layout, StateLine, line_of_words, register_line}
use Rattle.frame_texts_spec.specs.FrameTexts.{HeadMark, StackMark, mark_in, mark_of, mark_unless}
use Rattle.frame_texts_spec.proofs.EndingsBack.{HasMarks}
use Rattle.frame_texts_spec.proofs.PartsBack.{arm_marks, rv_marks}
use Rattle.start_value.specs.Starts.{layout_of, profile_in}
use Rattle.start_value.specs.declared.layout.Layout.{Layout as Machine}
use Rattle.start_value.specs.declared.layout.Layout.TheVariants.{Rv32, Arm}

-- the layouts of all machines
pub has_marks : (m : Machine) → HasMarks (layout_of m)
has_marks (Rv32 compressed) = rv_marks compressed
has_marks (Arm big profile) = arm_marks (endian big) (profile_in profile)

mark_eight : (ws : List (List ℕ)) → mark_in (take 8 ws) ≡ mark_in ws
mark_eight [] = refl
mark_eight (a ∷ []) = refl
mark_eight (a ∷ b ∷ []) = refl
mark_eight (a ∷ b ∷ c ∷ ws) = refl

-- a line that begins a head part is no line of a start
module _ (layout : Layout) (marks : HasMarks layout) where
  no_mark : (o : Option StateLine) → mark_unless o None ≡ None
  no_mark None = refl
  no_mark (Some l) = refl

  no_head_line : (w a : List ℕ) → w ≡ codes "head" → line_of_words layout (w ∷ a ∷ []) ≡ None
  no_head_line w a e = ap (λ v. line_of_words layout (v ∷ a ∷ [])) e ∙ ap (λ o. register_line layout o (a ∷ [])) marks.no_head

  no_stack_line : (w a : List ℕ) → w ≡ codes "stack" → line_of_words layout (w ∷ a ∷ []) ≡ None
  no_stack_line w a e = ap (λ v. line_of_words layout (v ∷ a ∷ [])) e ∙ ap (λ o. register_line layout o (a ∷ [])) marks.no_stack

  mark_alone : (ws : List (List ℕ)) → mark_in ws ≡ mark_unless (line_of_words layout ws) (mark_in ws)
  mark_alone [] = refl
  mark_alone (a ∷ []) = sym (no_mark (line_of_words layout (a ∷ [])))
  mark_alone (a ∷ b ∷ c ∷ ws) = sym (no_mark (line_of_words layout (a ∷ b ∷ c ∷ ws)))
  mark_alone (w ∷ a ∷ []) = by_test (bytes_eq w (codes "head")) (bytes_eq w (codes "stack")) refl refl
    where
      by_test : (t s : Bool) → bytes_eq w (codes "head") ≡ t → bytes_eq w (codes "stack") ≡ s →
          (if t then option_map HeadMark (hex_word 8 a) else if s then option_map StackMark (hex_word 8 a) else None)
          ≡ mark_unless (line_of_words layout (w ∷ a ∷ []))
          (if t then option_map HeadMark (hex_word 8 a) else if s then option_map StackMark (hex_word 8 a) else None)
      by_test true s e f = ap (λ o. mark_unless o (option_map HeadMark (hex_word 8 a))) (sym (no_head_line w a ((bytes_eq-Decides w (codes "head")).0 e)))
      by_test false true e f =
          ap (λ o. mark_unless o (option_map StackMark (hex_word 8 a))) (sym (no_stack_line w a ((bytes_eq-Decides w (codes "stack")).0 f)))
      by_test false false e f = sym (no_mark (line_of_words layout (w ∷ a ∷ [])))

  pub mark_by : (text : List ℕ) (ws : List (List ℕ)) → ws ≡ take 8 (words_in text) → mark_in ws ≡ mark_of layout text
  mark_by text ws e = ap mark_in e ∙ mark_eight (words_in text) ∙ mark_alone (words_in text)
