-- A text without a head part says what it says without heads.
use Rattle.std.proofs.Common.{◌≡◌, ℕ, suc, ◌+◌, refl, ap, sym, ◌∙◌, arith, Bool, false, List, [], ◌∷◌, Option, Some, None, length, map}
use Rattle.std.specs.Prelude.{◌&&◌, ◌||◌, not, nat_lt, nat_le, ◌==◌}
use Rattle.std.specs.List.{list_any, list_all}
use Rattle.std.specs.Option.{option_map}
use Rattle.std.proofs.lemmas.Bool.Decides.{nat_tests}
use Rattle.word_spec.specs.Texts.{words_in, split_lines}
use Rattle.machine_spec.specs.Endings.{NamedEnding}
use Rattle.machine_spec.specs.StateText.{Layout, StateLine, NamedLine, MachineLine, RegisterLine, ByteLine, ChoiceLine, EndLine, StateFault, StateLineFault, StateRegisterFault, StateByteFault, StateChoiceFault, StateEndFault, is_byte_below, is_choice_below, is_end_line, is_behind_bytes, lines_of_head, missed, unless, or_else, line_refusal, end_refusal, refused_or, first_refused, Told, StateIs, StateRefused, told_by, told_of, line_of, state_of}
use Rattle.frame_texts_spec.specs.FrameTexts.{Checks, FramedEnding, framed, named_in, first_of, new_ending, ending_of, part_from, part_of, some_ending, entry_part, plain_told, told_behind, framed_told, framed_of}
use Rattle.frame_texts_spec.specs.FrameTextLaws.{without_head, IsPlainFirst, HasNoMark, HasNoHeadPart, HeadlessIsStateText}

-- lines that a later line does not tell apart
pub record Alike (a b : List StateLine) : Type 0 where
  pub count : length a ≡ length b
  pub bytes : (x : ℕ) → list_all (is_byte_below x) a ≡ list_all (is_byte_below x) b
  pub choices : (x : ℕ) → list_all (is_choice_below x) a ≡ list_all (is_choice_below x) b
  pub behind : list_any is_behind_bytes a ≡ list_any is_behind_bytes b
  pub ended : list_any is_end_line a ≡ list_any is_end_line b

alike_next : (l : StateLine) (a b : List StateLine) → Alike a b → Alike (l ∷ a) (l ∷ b)
alike_next l a b h = record {
  count = ap suc h.count;
  bytes = λ x. ap (λ t. is_byte_below x l && t) (h.bytes x);
  choices = λ x. ap (λ t. is_choice_below x l && t) (h.choices x);
  behind = ap (λ t. is_behind_bytes l || t) h.behind;
  ended = ap (λ t. is_end_line l || t) h.ended;
}

module _ (layout : Layout) (known : ℕ → Bool) where
  alike_refusal : (l : StateLine) (a b : List StateLine) → Alike a b → line_refusal layout known a l ≡ line_refusal layout known b l
  alike_refusal (NamedLine n) a b h = ap (λ k. unless (k == 0) StateLineFault) h.count
  alike_refusal MachineLine a b h = ap (λ k. unless (k == 1) StateLineFault) h.count
  alike_refusal (RegisterLine i v) a b h = ap
      (λ k. or_else (unless (nat_le 2 k) StateLineFault) (unless (k == 2 + i) StateRegisterFault)) h.count
  alike_refusal (ByteLine x v) a b h =
      ap
      (λ k. or_else (missed layout k)
      (unless (not (list_any is_behind_bytes a) && list_all (is_byte_below x) a && nat_lt 0 v && not (known x)) StateByteFault))
      h.count
      ∙ ap
      (λ t. or_else (missed layout (length b))
      (unless (not t && list_all (is_byte_below x) a && nat_lt 0 v && not (known x)) StateByteFault))
      h.behind
      ∙ ap
      (λ t. or_else (missed layout (length b))
      (unless (not (list_any is_behind_bytes b) && t && nat_lt 0 v && not (known x)) StateByteFault))
      (h.bytes x)
  alike_refusal (ChoiceLine s c) a b h =
      ap
      (λ k. or_else (missed layout k)
      (unless (not (list_any is_end_line a) && list_all (is_choice_below s) a && nat_lt 0 c && nat_lt c 4) StateChoiceFault))
      h.count
      ∙ ap
      (λ t. or_else (missed layout (length b))
      (unless (not t && list_all (is_choice_below s) a && nat_lt 0 c && nat_lt c 4) StateChoiceFault))
      h.ended
      ∙ ap
      (λ t. or_else (missed layout (length b))
      (unless (not (list_any is_end_line b) && t && nat_lt 0 c && nat_lt c 4) StateChoiceFault))
      (h.choices s)
  alike_refusal EndLine a b h =
      ap (λ k. or_else (missed layout k) (unless (not (list_any is_end_line a)) StateEndFault)) h.count
      ∙ ap (λ t. or_else (missed layout (length b)) (unless (not t) StateEndFault)) h.ended

  alike_end : (a b : List StateLine) → Alike a b → end_refusal layout a ≡ end_refusal layout b
  alike_end a b h =
      ap (λ k. or_else (unless (nat_le (lines_of_head layout) k) StateRegisterFault) (unless (list_any is_end_line a) StateEndFault)) h.count
      ∙ ap (λ t. or_else (unless (nat_le (lines_of_head layout) (length b)) StateRegisterFault) (unless t StateEndFault)) h.ended

  alike_refused : (ls : List (Option StateLine)) (a b : List StateLine) → Alike a b → first_refused layout known a ls ≡ first_refused layout known b ls
  alike_refused [] a b h = ap (λ k. refused_or (k + 1) (end_refusal layout a) None) h.count ∙ ap (λ r. refused_or (length b + 1) r None) (alike_end a b h)
  alike_refused (None ∷ ls) a b h = ap (λ k. Some (k + 1, StateLineFault)) h.count
  alike_refused (Some l ∷ ls) a b h =
      ap (λ k. refused_or (k + 1) (line_refusal layout known a l) (first_refused layout known (l ∷ a) ls)) h.count
      ∙ ap (λ r. refused_or (length b + 1) r (first_refused layout known (l ∷ a) ls)) (alike_refusal l a b h)
      ∙ ap (λ r. refused_or (length b + 1) (line_refusal layout known b l) r) (alike_refused ls (l ∷ a) (l ∷ b) (alike_next l a b h))

  -- what is told of lines behind an ending hangs on it alone in that it is told
  abbrev with_ending : NamedEnding → Told → Told
  with_ending n (StateIs t) = StateIs (record { named = n; start = t.start })
  with_ending n (StateRefused k f) = StateRefused k f

  same_told : (n m : NamedEnding) (ls : List (Option StateLine)) (r : Option (ℕ × StateFault)) →
      told_by layout r (Some (NamedLine n) ∷ ls) ≡ with_ending n (told_by layout r (Some (NamedLine m) ∷ ls))
  same_told n m ls (Some x) = refl
  same_told n m ls None = refl

  first_alike : (n m : NamedEnding) → Alike (NamedLine n ∷ []) (NamedLine m ∷ [])
  first_alike n m = record { count = refl; bytes = λ x. refl; choices = λ x. refl; behind = refl; ended = refl }

  pub other_ending : (n m : NamedEnding) (ls : List (Option StateLine)) →
      told_of layout known (Some (NamedLine n) ∷ ls) ≡ with_ending n (told_of layout known (Some (NamedLine m) ∷ ls))
  other_ending n m ls =
      ap (λ r. told_by layout r (Some (NamedLine n) ∷ ls)) (alike_refused ls (NamedLine n ∷ []) (NamedLine m ∷ []) (first_alike n m))
      ∙ same_told n m ls (first_refused layout known (NamedLine m ∷ []) ls)

  plain_same : (n : NamedEnding) (told : Told) → plain_told (framed n) told ≡ without_head (with_ending n told)
  plain_same n (StateIs t) = refl
  plain_same n (StateRefused k f) = refl

-- lines without a mark are one part
pub whole_part : (layout : Layout) (texts : List (List ℕ)) → HasNoMark layout texts → part_of layout texts ≡ record { lines = texts; behind = None }
whole_part layout [] h = refl
whole_part layout (text ∷ rest) h =
    ap (λ m. part_from text m rest (part_of layout rest)) h.0 ∙ ap (part_from text None rest) (whole_part layout rest h.1)

module _ (layout : Layout) (c : Checks) where
  of_lines : (first : List ℕ) (rest : List (List ℕ)) (o : Option StateLine) (e : Option FramedEnding) →
      e ≡ None →
      told_behind layout c (first_of (option_map framed (named_in o)) e) (record { lines = rest; behind = None })
      ≡ without_head (told_of layout c.known (o ∷ map (line_of layout) rest))
  of_lines first rest None e none = ap (λ x. told_behind layout c x (record { lines = rest; behind = None })) none
  of_lines first rest (Some (NamedLine n)) e none =
      plain_same layout c.known n (told_of layout c.known (entry_part layout rest))
      ∙ ap without_head (sym (other_ending layout c.known n some_ending (map (line_of layout) rest)))
  of_lines first rest (Some MachineLine) e none = ap (λ x. told_behind layout c x (record { lines = rest; behind = None })) none
  of_lines first rest (Some (RegisterLine i v)) e none = ap (λ x. told_behind layout c x (record { lines = rest; behind = None })) none
  of_lines first rest (Some (ByteLine a v)) e none = ap (λ x. told_behind layout c x (record { lines = rest; behind = None })) none
  of_lines first rest (Some (ChoiceLine s k)) e none = ap (λ x. told_behind layout c x (record { lines = rest; behind = None })) none
  of_lines first rest (Some EndLine) e none = ap (λ x. told_behind layout c x (record { lines = rest; behind = None })) none

  no_lines : StateRefused 1 StateRegisterFault ≡ told_of layout c.known []
  no_lines = ap (λ t. told_by layout (refused_or 1 (or_else (unless t StateRegisterFault) (unless false StateEndFault)) None) []) (sym fails)
    where
      fails : nat_le (lines_of_head layout) 0 ≡ false
      fails = grind (arith, nat_tests)

  pub by_lines : (texts : List (List ℕ)) → IsPlainFirst texts → HasNoHeadPart layout texts →
      framed_told layout c texts ≡ without_head (told_of layout c.known (map (line_of layout) texts))
  by_lines [] plain none = ap without_head no_lines
  by_lines (first ∷ rest) plain none =
      ap (told_behind layout c (ending_of layout first)) (whole_part layout rest none)
      ∙ of_lines first rest (line_of layout first) (new_ending (words_in first)) plain

pub headless_is_state_text : HeadlessIsStateText
unfolding framed_of state_of
headless_is_state_text layout c text plain none = by_lines layout c (split_lines text) plain none
