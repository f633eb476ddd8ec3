-- The endings of texts and the lines that begin a head part are read back.
use Rattle.std.proofs.Common.{◌≡◌, ℕ, ◌-◌, ◌^◌, ◌<◌, ◌≤◌, refl, ap, ◌∙◌, arith, true, List, [], ◌∷◌, ◌++◌, Option, Some, None}
use Rattle.std.specs.Prelude.{nat_lt, nat_le, codes}
use Rattle.std.specs.Option.{option_map}
use Rattle.std.proofs.lemmas.Bool.Decides.{nat_tests}
use Rattle.word_spec.specs.Texts.{word_text, number_text, joined, words_in, decimal_word, hex_word, at_most}
use Rattle.machine_spec.specs.Endings.{Event, AssertFails, FetchFails, NoRow, HalfwordFails, CodeWritten, Trapped, AlignFails, JumpFails, EnsureFails, FailsBy, UnknownBy, event_words, place_words}
use Rattle.machine_spec.specs.StateText.{Layout, IsEvent, NamedLine, last_step, place_of, value_names, place_in, register_line, line_of_words}
use Rattle.machine_spec.proofs.Spelling.{Above, AllAbove, words_in_joined, joined_above, number_above, decimal_back, hex_back, hex_word_above}
use Rattle.machine_spec.proofs.StateLines.{IsLayout, and_true, line_back, is_plain}
use Rattle.frame_spec.specs.Frames.{FrameEvent, OfStep, InvariantFails, NeedsFails, WritesFails, GivesFails, ModifiesFails}
use Rattle.frame_texts_spec.specs.FrameTexts.{FramedEnding, FramedFails, FramedTurns, NotInductiveBy, framed, frame_event_words, ending_words, head_line, stack_line, IsFrameEvent, IsFramedEnding, first_of, named_in, new_ending, ending_of, Mark, HeadMark, StackMark, mark_in, mark_unless, mark_of}

-- numbers and places
pub at_most_back : (bound n : ℕ) → n ≤ bound → bound < 2 ^ 64 → at_most bound (decimal_word (number_text n)) ≡ Some n
at_most_back bound n h small = let t : nat_le n bound ≡ true = grind (arith, nat_tests) in rw (decimal_back n (omega arith), t) refl

pub place_back : (at step : ℕ) → at < 2 ^ 32 → step ≤ last_step → place_of (codes "at") (word_text at) (codes "step") (number_text step) ≡ Some (at, step)
place_back at step h k = rw (hex_back 8 at h, at_most_back last_step step k (omega arith)) refl

-- the bytes of words
pub plain_above : (w : List ℕ) → is_plain w ≡ true → Above 32 w
plain_above [] e = tt
plain_above (b ∷ w) e = let p = and_true (nat_lt 32 b) (is_plain w) e in (grind (arith, nat_tests, p.0), plain_above w p.1)

pub place_above : (at step : ℕ) → step ≤ last_step → AllAbove 32 (place_words at step)
place_above at step h = (plain_above (codes "at") refl, (hex_word_above 8 at, (plain_above (codes "step") refl, (number_above step (omega arith), tt))))

numbered_above : (w : List ℕ) (m : ℕ) (rest : List (List ℕ)) → is_plain w ≡ true → m < 2 ^ 64 → AllAbove 32 rest → AllAbove 32 (w ∷ number_text m ∷ rest)
numbered_above w m rest plain small above = (plain_above w plain, (number_above m small, above))

step_event_above : (e : Event) (rest : List (List ℕ)) → IsEvent e → AllAbove 32 rest → AllAbove 32 (event_words e ++ rest)
step_event_above (AssertFails m) rest b above = numbered_above (codes "assert") m rest refl b above
step_event_above FetchFails rest b above = (plain_above (codes "fetch") refl, above)
step_event_above NoRow rest b above = (plain_above (codes "norow") refl, above)
step_event_above HalfwordFails rest b above = (plain_above (codes "halfword") refl, above)
step_event_above CodeWritten rest b above = (plain_above (codes "codewrite") refl, above)
step_event_above Trapped rest b above = (plain_above (codes "trap") refl, above)
step_event_above AlignFails rest b above = (plain_above (codes "align") refl, above)
step_event_above JumpFails rest b above = (plain_above (codes "jump") refl, above)
step_event_above (EnsureFails m) rest b above = numbered_above (codes "ensure") m rest refl b above

pub event_above : (e : FrameEvent) (rest : List (List ℕ)) → IsFrameEvent e → AllAbove 32 rest → AllAbove 32 (frame_event_words e ++ rest)
event_above (OfStep e) rest b above = step_event_above e rest b above
event_above (InvariantFails m) rest b above = numbered_above (codes "invariant") m rest refl b above
event_above (NeedsFails m) rest b above = numbered_above (codes "needs") m rest refl b above
event_above WritesFails rest b above = (plain_above (codes "writes") refl, above)
event_above (GivesFails m) rest b above = numbered_above (codes "gives") m rest refl b above
event_above ModifiesFails rest b above = (plain_above (codes "modifies") refl, above)

pub ending_above : (n : FramedEnding) → IsFramedEnding n → AllAbove 32 (ending_words n)
ending_above (FramedFails e at step) b = (plain_above (codes "fails") refl, event_above e (place_words at step) b.0 (place_above at step b.2))
ending_above (FramedTurns k at step) b =
    (plain_above (codes "unknown") refl, (plain_above (codes "unroll") refl, (number_above k (omega (arith, b.0)), place_above at step b.2)))
ending_above (NotInductiveBy e at step) b =
    (plain_above (codes "not") refl, (plain_above (codes "inductive") refl, event_above e (place_words at step) b.0 (place_above at step b.2)))

-- the text of an ending has no line feed
pub ending_line_above : (n : FramedEnding) → IsFramedEnding n → Above 31 (joined (ending_words n))
ending_line_above (FramedFails e at step) b =
    joined_above (codes "fails") (frame_event_words e ++ place_words at step) (ending_above (FramedFails e at step) b)
ending_line_above (FramedTurns k at step) b =
    joined_above (codes "unknown") (codes "unroll" ∷ number_text k ∷ place_words at step) (ending_above (FramedTurns k at step) b)
ending_line_above (NotInductiveBy e at step) b =
    joined_above (codes "not") (codes "inductive" ∷ frame_event_words e ++ place_words at step) (ending_above (NotInductiveBy e at step) b)

-- a register has one value
pub no_register : (layout : Layout) (o : Option ℕ) (a b : List ℕ) (ws : List (List ℕ)) → register_line layout o (a ∷ b ∷ ws) ≡ None
no_register layout None a b ws = refl
no_register layout (Some i) a b ws = refl

-- the ending that words say
abbrev said_by : Layout → List (List ℕ) → Option FramedEnding
said_by layout ws = first_of (option_map framed (named_in (line_of_words layout ws))) (new_ending ws)

new_fails : (layout : Layout) (e : FrameEvent) (at step : ℕ) → IsFramedEnding (FramedFails e at step) →
    ((d : Event) → e ≡ OfStep d → ⊥) → said_by layout (ending_words (FramedFails e at step)) ≡ Some (FramedFails e at step)
new_fails layout (OfStep e) at step b other = absurd (other e refl)
new_fails layout (InvariantFails m) at step b other =
    rw (at_most_back (2 ^ 64 - 1) m (omega (arith, b.0)) (omega arith), place_back at step b.1 b.2) refl
new_fails layout (NeedsFails m) at step b other = rw (at_most_back (2 ^ 64 - 1) m (omega (arith, b.0)) (omega arith), place_back at step b.1 b.2) refl
new_fails layout WritesFails at step b other = rw (place_back at step b.1 b.2) refl
new_fails layout (GivesFails m) at step b other = rw (at_most_back (2 ^ 64 - 1) m (omega (arith, b.0)) (omega arith), place_back at step b.1 b.2) refl
new_fails layout ModifiesFails at step b other = rw (place_back at step b.1 b.2) refl

-- by the new words alone
new_inductive : (e : FrameEvent) (at step : ℕ) → IsFramedEnding (NotInductiveBy e at step) →
    new_ending (ending_words (NotInductiveBy e at step)) ≡ Some (NotInductiveBy e at step)
new_inductive (OfStep (AssertFails m)) at step b =
    rw (at_most_back (2 ^ 64 - 1) m (omega (arith, b.0)) (omega arith), place_back at step b.1 b.2) refl
new_inductive (OfStep FetchFails) at step b = rw (place_back at step b.1 b.2) refl
new_inductive (OfStep NoRow) at step b = rw (place_back at step b.1 b.2) refl
new_inductive (OfStep HalfwordFails) at step b = rw (place_back at step b.1 b.2) refl
new_inductive (OfStep CodeWritten) at step b = rw (place_back at step b.1 b.2) refl
new_inductive (OfStep Trapped) at step b = rw (place_back at step b.1 b.2) refl
new_inductive (OfStep AlignFails) at step b = rw (place_back at step b.1 b.2) refl
new_inductive (OfStep JumpFails) at step b = rw (place_back at step b.1 b.2) refl
new_inductive (OfStep (EnsureFails m)) at step b =
    rw (at_most_back (2 ^ 64 - 1) m (omega (arith, b.0)) (omega arith), place_back at step b.1 b.2) refl
new_inductive (InvariantFails m) at step b = rw (at_most_back (2 ^ 64 - 1) m (omega (arith, b.0)) (omega arith), place_back at step b.1 b.2) refl
new_inductive (NeedsFails m) at step b = rw (at_most_back (2 ^ 64 - 1) m (omega (arith, b.0)) (omega arith), place_back at step b.1 b.2) refl
new_inductive WritesFails at step b = rw (place_back at step b.1 b.2) refl
new_inductive (GivesFails m) at step b = rw (at_most_back (2 ^ 64 - 1) m (omega (arith, b.0)) (omega arith), place_back at step b.1 b.2) refl
new_inductive ModifiesFails at step b = rw (place_back at step b.1 b.2) refl

module _ (layout : Layout) (good : IsLayout layout) where
  by_words : (w : List ℕ) (ws : List (List ℕ)) → AllAbove 32 (w ∷ ws) → ending_of layout (joined (w ∷ ws)) ≡ said_by layout (w ∷ ws)
  by_words w ws above = ap (said_by layout) (words_in_joined w ws above)

  fails_back : (e : FrameEvent) (at step : ℕ) → IsFramedEnding (FramedFails e at step) → ((d : Event) → e ≡ OfStep d → ⊥) →
      ending_of layout (joined (ending_words (FramedFails e at step))) ≡ Some (FramedFails e at step)
  fails_back e at step b other =
      by_words (codes "fails") (frame_event_words e ++ place_words at step) (ending_above (FramedFails e at step) b) ∙ new_fails layout e at step b other

  inductive_back : (e : FrameEvent) (at step : ℕ) → IsFramedEnding (NotInductiveBy e at step) →
      ending_of layout (joined (ending_words (NotInductiveBy e at step))) ≡ Some (NotInductiveBy e at step)
  inductive_back e at step b =
      by_words (codes "not") (codes "inductive" ∷ frame_event_words e ++ place_words at step) (ending_above (NotInductiveBy e at step) b)
      ∙ ap (λ o. first_of (option_map framed (named_in o)) (new_ending (ending_words (NotInductiveBy e at step)))) (no_line e)
      ∙ new_inductive e at step b
    where
      no_line : (d : FrameEvent) → line_of_words layout (ending_words (NotInductiveBy d at step)) ≡ None
      no_line d = by_place (place_in (value_names layout) (codes "not")) (frame_event_words d)
        where
          by_place : (o : Option ℕ) (ws : List (List ℕ)) → register_line layout o (codes "inductive" ∷ ws ++ place_words at step) ≡ None
          by_place o [] = no_register layout o (codes "inductive") (codes "at") (word_text at ∷ codes "step" ∷ number_text step ∷ [])
          by_place o (w ∷ ws) = no_register layout o (codes "inductive") w (ws ++ place_words at step)

  pub ending_back : (n : FramedEnding) → IsFramedEnding n → ending_of layout (joined (ending_words n)) ≡ Some n
  ending_back (FramedFails (OfStep e) at step) b =
      ap (λ o. first_of (option_map framed (named_in o)) (new_ending (words_in (joined (ending_words (FramedFails (OfStep e) at step))))))
      (line_back layout good (NamedLine (FailsBy e at step)) b)
  ending_back (FramedTurns k at step) b =
      ap (λ o. first_of (option_map framed (named_in o)) (new_ending (words_in (joined (ending_words (FramedTurns k at step))))))
      (line_back layout good (NamedLine (UnknownBy k at step)) b)
  ending_back (FramedFails (InvariantFails m) at step) b = fails_back (InvariantFails m) at step b (λ d e. cc)
  ending_back (FramedFails (NeedsFails m) at step) b = fails_back (NeedsFails m) at step b (λ d e. cc)
  ending_back (FramedFails WritesFails at step) b = fails_back WritesFails at step b (λ d e. cc)
  ending_back (FramedFails (GivesFails m) at step) b = fails_back (GivesFails m) at step b (λ d e. cc)
  ending_back (FramedFails ModifiesFails at step) b = fails_back ModifiesFails at step b (λ d e. cc)
  ending_back (NotInductiveBy e at step) b = inductive_back e at step b

-- the words of a head part's beginning are no names
pub record HasMarks (layout : Layout) : Type 0 where
  pub no_head : place_in (value_names layout) (codes "head") ≡ None
  pub no_stack : place_in (value_names layout) (codes "stack") ≡ None

module _ (layout : Layout) (marks : HasMarks layout) where
  head_words_above : (a : ℕ) → AllAbove 32 (codes "head" ∷ word_text a ∷ [])
  head_words_above a = (plain_above (codes "head") refl, (hex_word_above 8 a, tt))

  stack_words_above : (a : ℕ) → AllAbove 32 (codes "stack" ∷ word_text a ∷ [])
  stack_words_above a = (plain_above (codes "stack") refl, (hex_word_above 8 a, tt))

  pub head_above : (a : ℕ) → Above 31 (head_line a)
  head_above a = joined_above (codes "head") (word_text a ∷ []) (head_words_above a)

  pub stack_above : (a : ℕ) → Above 31 (stack_line a)
  stack_above a = joined_above (codes "stack") (word_text a ∷ []) (stack_words_above a)

  abbrev mark_by : List (List ℕ) → Option Mark
  mark_by ws = mark_unless (line_of_words layout ws) (mark_in ws)

  pub head_back : (a : ℕ) → a < 2 ^ 32 → mark_of layout (head_line a) ≡ Some (HeadMark a)
  head_back a h =
      ap mark_by (words_in_joined (codes "head") (word_text a ∷ []) (head_words_above a))
      ∙ ap (λ o. mark_unless (register_line layout o (word_text a ∷ [])) (option_map HeadMark (hex_word 8 (word_text a)))) marks.no_head
      ∙ ap (option_map HeadMark) (hex_back 8 a h)

  pub stack_back : (a : ℕ) → a < 2 ^ 32 → mark_of layout (stack_line a) ≡ Some (StackMark a)
  stack_back a h =
      ap mark_by (words_in_joined (codes "stack") (word_text a ∷ []) (stack_words_above a))
      ∙ ap (λ o. mark_unless (register_line layout o (word_text a ∷ [])) (option_map StackMark (hex_word 8 (word_text a)))) marks.no_stack
      ∙ ap (option_map StackMark) (hex_back 8 a h)
