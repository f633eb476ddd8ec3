-- Lines that say a start, with or without a head state, are those that are printed of it, which can be written.
use Rattle.std.proofs.Common.{◌≡◌, ℕ, suc, ◌+◌, ◌^◌, ◌<◌, refl, ap, sym, ◌∙◌, subst, arith, Bool, true, false, List, [], ◌∷◌, ◌++◌, Option, Some, None, length, map, get_or, drop}
use Rattle.std.specs.Prelude.{All, ◌&&◌, codes, if◌then◌else◌}
use Rattle.std.specs.Option.{option_map}
use Rattle.std.proofs.lemmas.List.{append_cancel_right, map-append}
use Rattle.std.proofs.lemmas.List.Elements.{All-cons, All-nil}
use Rattle.word_spec.specs.State.{Written}
use Rattle.word_spec.specs.Texts.{hex_word, joined, words_in}
use Rattle.machine_spec.specs.Endings.{NamedEnding}
use Rattle.machine_spec.specs.StateText.{Layout, StateText, IsWritten, StateFault, StateLine, NamedLine, MachineLine, ChoiceLine, EndLine, first_refused, lines_behind, line_of, words_of_line, Told, StateIs, StateRefused, told_by, told_of}
use Rattle.machine_spec.proofs.StateExact.{exact}
use Rattle.machine_spec.proofs.StateLines.{and_true}
use Rattle.machine_spec.proofs.StateSaid.{joined_words}
use Rattle.machine_spec.proofs.StateShape.{first_shape}
use Rattle.frame_texts_spec.specs.FrameTexts.{Checks, FramedEnding, FramedText, FramedIs, FramedRefused, FrameFault, HeadFault, IsHeadPart, Mark, HeadMark, StackMark, Part, Stack, bad_return, closed, content_lines, entry_part, head_line, head_part, head_told, is_none, last_lines, line_texts, lines_of_parts, mark_in, mark_of, mark_unless, misplaced, part_from, part_of, plain_told, some_ending, stack_from, stack_line, stack_of, told_behind, told_head, told_mark, told_parts, told_registers, told_stack}
use Rattle.frame_texts_spec.proofs.PartsBack.{behind_is}
use Rattle.frame_texts_spec.proofs.WordsSaid.{hex_is, none_is, some_is, word_case}

-- ---- a part that is judged by itself

abbrev first_text : List ℕ
first_text = codes "unknown unroll 0 at 0x00000000 step 0"

-- the lines after an ending are those of a start
pub record IsStartSaid (layout : Layout) (known : ℕ → Bool) (part : List (List ℕ)) (w : Written) : Type 0 where
  pub written : IsWritten layout known w
  pub lines : part ≡ line_texts layout (lines_behind layout w)

module _ (layout : Layout) (known : ℕ → Bool) where
  abbrev text_of : StateLine → List ℕ
  text_of l = joined (words_of_line layout l)

  entry_said : (part : List (List ℕ)) (t : StateText) → told_of layout known (entry_part layout part) ≡ StateIs t → IsStartSaid layout known part t.start
  entry_said part t e =
      let x = exact layout known (first_text ∷ part) t e in
      record { written = x.written; lines = ap (λ (ls : List (List ℕ)). drop 1 ls) x.lines }

  closed_said : (part : List (List ℕ)) (t : StateText) → told_of layout known (closed (entry_part layout part)) ≡ StateIs t →
      IsStartSaid layout known (part ++ codes "end" ∷ []) t.start
  closed_said part t e =
      entry_said (part ++ codes "end" ∷ []) t
      (ap (λ ls. told_of layout known (Some (NamedLine some_ending) ∷ ls)) (map-append (line_of layout) part (codes "end" ∷ [])) ∙ e)

  -- the line of the machine
  not_refused : (ls : List (Option StateLine)) (t : StateText) (r : Option (ℕ × StateFault)) → told_by layout r ls ≡ StateIs t → r ≡ None
  not_refused ls t None e = refl
  not_refused ls t (Some x) e = absurd (let z : StateRefused x.0 x.1 ≡ StateIs t = e in cc)

  machine_in : (part : List (List ℕ)) (t : StateText) → told_of layout known (entry_part layout part) ≡ StateIs t →
      (s : List ℕ) × (line_of layout s ≡ Some MachineLine)
  machine_in part t e =
      let ls = entry_part layout part in second part (first_shape layout known ls (not_refused ls t (first_refused layout known [] ls) e)).is
    where
      second : {n : NamedEnding} {rest : List (Option StateLine)} (part : List (List ℕ)) →
          entry_part layout part ≡ Some (NamedLine n) ∷ Some MachineLine ∷ rest → (s : List ℕ) × (line_of layout s ≡ Some MachineLine)
      second [] is = absurd (omega (arith, ap length is))
      second (s ∷ part) is = (s, ap (λ xs. get_or xs 1 None) is)

  machine_of : (part : List (List ℕ)) (t : StateText) → told_of layout known (closed (entry_part layout part)) ≡ StateIs t →
      (s : List ℕ) × (line_of layout s ≡ Some MachineLine)
  machine_of part t e =
      machine_in (part ++ codes "end" ∷ []) t
      (ap (λ ls. told_of layout known (Some (NamedLine some_ending) ∷ ls)) (map-append (line_of layout) part (codes "end" ∷ [])) ∙ e)

  -- the lines after the machine's
  head_said : (machine : List ℕ) (part : List (List ℕ)) (t : StateText) → line_of layout machine ≡ Some MachineLine →
      told_of layout known (head_part layout part) ≡ StateIs t →
      IsWritten layout known t.start × (part ≡ line_texts layout (content_lines layout t.start ++ last_lines t.start))
  head_said machine part t is e =
      let said = entry_said (machine ∷ part) t (ap (λ o. told_of layout known (Some (NamedLine some_ending) ∷ o ∷ map (line_of layout) part)) is ∙ e) in
      (said.written, ap (λ (ls : List (List ℕ)). drop 1 ls) (said.lines ∙ ap (line_texts layout) (behind_is layout t.start)))

  -- without choices, before the end
  content_said : (part : List (List ℕ)) (w : Written) → w.choices ≡ [] → part ++ codes "end" ∷ [] ≡ line_texts layout (lines_behind layout w) →
      part ≡ line_texts layout (MachineLine ∷ content_lines layout w)
  content_said part w none e =
      let content = MachineLine ∷ content_lines layout w in
      append_cancel_right part (line_texts layout content) (codes "end" ∷ [])
      (e ∙ ap (line_texts layout) (behind_is layout w)
      ∙ ap (λ (cs : List (ℕ × ℕ)). line_texts layout (content ++ (map (λ c. ChoiceLine c.0 c.1) cs ++ EndLine ∷ []))) none
      ∙ map-append text_of content (EndLine ∷ []))

-- ---- marks

-- the line of a mark
abbrev mark_line : Mark → List ℕ
mark_line (HeadMark a) = head_line a
mark_line (StackMark a) = stack_line a

abbrev mark_at : Mark → ℕ
mark_at (HeadMark a) = a
mark_at (StackMark a) = a

hex_mark : (make : ℕ → Mark) (o : Option ℕ) (m : Mark) → option_map make o ≡ Some m → (a : ℕ) × (o ≡ Some a) × (make a ≡ m)
hex_mark make None m e = none_is m e
hex_mark make (Some a) m e = (a, refl, some_is (make a) m e)

marked : (w u : List ℕ) (m : Mark) → mark_in (w ∷ u ∷ []) ≡ Some m → (joined (w ∷ u ∷ []) ≡ mark_line m) × (mark_at m < 2 ^ 32)
marked w u m e =
    word_case w (codes "head") (option_map HeadMark (hex_word 8 u)) _ m e
    (λ is e.
    let x = hex_mark HeadMark (hex_word 8 u) m e in
    let said = hex_is u x.0 x.1 in
    subst (λ (k : Mark). (joined (w ∷ u ∷ []) ≡ mark_line k) × (mark_at k < 2 ^ 32)) x.2
    (ap (λ y. joined (y ∷ u ∷ [])) is ∙ ap (λ y. joined (codes "head" ∷ y ∷ [])) said.0, said.1))
    (λ e. word_case w (codes "stack") (option_map StackMark (hex_word 8 u)) None m e
    (λ is e.
    let x = hex_mark StackMark (hex_word 8 u) m e in
    let said = hex_is u x.0 x.1 in
    subst (λ (k : Mark). (joined (w ∷ u ∷ []) ≡ mark_line k) × (mark_at k < 2 ^ 32)) x.2
    (ap (λ y. joined (y ∷ u ∷ [])) is ∙ ap (λ y. joined (codes "stack" ∷ y ∷ [])) said.0, said.1))
    (λ e. none_is m e))

marks_in : (ws : List (List ℕ)) (m : Mark) → mark_in ws ≡ Some m → (joined ws ≡ mark_line m) × (mark_at m < 2 ^ 32)
marks_in [] m e = none_is m e
marks_in (w ∷ []) m e = none_is m e
marks_in (w ∷ u ∷ []) m e = marked w u m e
marks_in (w ∷ u ∷ v ∷ ws) m e = none_is m e

module _ (layout : Layout) where
  mark_said : (text : List ℕ) (m : Mark) → mark_of layout text ≡ Some m → (text ≡ mark_line m) × (mark_at m < 2 ^ 32)
  mark_said text m e = by_line (line_of layout text) e
    where
      by_line : (o : Option StateLine) → mark_unless o (mark_in (words_in text)) ≡ Some m → (text ≡ mark_line m) × (mark_at m < 2 ^ 32)
      by_line (Some l) e = none_is m e
      by_line None e = let said = marks_in (words_in text) m e in (sym (joined_words text) ∙ said.0, said.1)

  -- lines by their first part
  abbrev IsSplit : List (List ℕ) → (lines : List (List ℕ)) → Option (Mark × List (List ℕ)) → Type 0
  IsSplit ls lines None = ls ≡ lines
  IsSplit ls lines (Some x) = (ls ≡ lines ++ mark_line x.0 ∷ x.1) × (mark_at x.0 < 2 ^ 32)

  split : (ls : List (List ℕ)) → IsSplit ls (part_of layout ls).lines (part_of layout ls).behind
  split [] = refl
  split (text ∷ rest) = by_mark (mark_of layout text) refl (part_of layout rest) (split rest)
    where
      behind_line : (p : Part) (o : Option (Mark × List (List ℕ))) → IsSplit rest p.lines o → IsSplit (text ∷ rest) (text ∷ p.lines) o
      behind_line p None e = ap (λ (ls : List (List ℕ)). text ∷ ls) e
      behind_line p (Some x) e = (ap (λ (ls : List (List ℕ)). text ∷ ls) e.0, e.1)

      by_mark : (o : Option Mark) → mark_of layout text ≡ o → (p : Part) → IsSplit rest p.lines p.behind →
          IsSplit (text ∷ rest) (part_from text o rest p).lines (part_from text o rest p).behind
      by_mark None is p e = behind_line p p.behind e
      by_mark (Some m) is p e = let said = mark_said text m is in (ap (λ (l : List ℕ). l ∷ rest) said.0, said.1)

  -- lines by their return addresses
  pub record IsStacked (ls : List (List ℕ)) (s : Stack) : Type 0 where
    pub lines : ls ≡ map stack_line s.addresses ++ s.behind
    pub small : All (λ r. r < 2 ^ 32) s.addresses

  stacked : (ls : List (List ℕ)) → IsStacked ls (stack_of layout ls)
  stacked [] = record { lines = refl; small = All-nil (λ r. r < 2 ^ 32) }
  stacked (text ∷ rest) = by_mark (mark_of layout text) refl (stack_of layout rest) (stacked rest)
    where
      by_mark : (o : Option Mark) → mark_of layout text ≡ o → (s : Stack) → IsStacked rest s → IsStacked (text ∷ rest) (stack_from text o rest s)
      by_mark (Some (StackMark a)) is s e =
          let said = mark_said text (StackMark a) is in
          record {
            lines = ap (λ (l : List ℕ). l ∷ rest) said.0 ∙ ap (λ (ls : List (List ℕ)). stack_line a ∷ ls) e.lines;
            small = All-cons (λ r. r < 2 ^ 32) a s.addresses said.1 e.small;
          }
      by_mark (Some (HeadMark a)) is s e = record { lines = refl; small = All-nil (λ r. r < 2 ^ 32) }
      by_mark None is s e = record { lines = refl; small = All-nil (λ r. r < 2 ^ 32) }

-- return addresses of which none is bad
all_return : (returns : ℕ → Bool) (n : ℕ) (stack : List ℕ) → bad_return returns n stack ≡ None → All (λ r. r < 2 ^ 32) stack →
    All (λ r. (r < 2 ^ 32) × (returns r ≡ true)) stack
all_return returns n [] e small = All-nil (λ r. (r < 2 ^ 32) × (returns r ≡ true))
all_return returns n (a ∷ stack) e small =
    let here = by_test (returns a) refl e in
    All-cons (λ r. (r < 2 ^ 32) × (returns r ≡ true)) a stack (small 0 a (omega arith), here.0)
    (all_return returns (n + 1) stack here.1 (λ k d l. small (suc k) d (omega arith)))
  where
    by_test : (t : Bool) → returns a ≡ t → (if t then bad_return returns (n + 1) stack else Some n) ≡ None → (returns a ≡ true) × (bad_return returns (n + 1) stack ≡ None)
    by_test true is e = (is, e)
    by_test false is e = absurd (let z : ◌≡◌ {A = Option ℕ} (Some n) None = e in cc)

-- ---- a whole text after its first line

pub record IsBodySaid (layout : Layout) (c : Checks) (ls : List (List ℕ)) (t : FramedText) : Type 0 where
  pub start : IsWritten layout c.known t.start
  pub head : IsHeadPart layout c t.start t.head
  pub lines : ls ≡ lines_of_parts layout t.start t.head

none_chosen : (cs : List (ℕ × ℕ)) → is_none cs ≡ true → cs ≡ []
none_chosen [] e = refl
none_chosen (x ∷ rest) e = let z : false ≡ true = e in cc

module _ (layout : Layout) (c : Checks) (t : FramedText) where
  refused : {P : Type 0} (n : ℕ) (f : FrameFault) → FramedRefused n f ≡ FramedIs t → P
  refused n f e = absurd (let z : FramedRefused n f ≡ FramedIs t = e in cc)

  told_same : (x : FramedText) → FramedIs x ≡ FramedIs t → x ≡ t
  told_same x e = let z : FramedIs x ≡ FramedIs t = e in cc

  module _ (n : FramedEnding) where
    of_plain : (part : List (List ℕ)) (told : Told) → told_of layout c.known (entry_part layout part) ≡ told → plain_told n told ≡ FramedIs t →
        IsBodySaid layout c part t
    of_plain part (StateRefused k f) is e = refused k _ e
    of_plain part (StateIs s) is e =
        let said = entry_said layout c.known part s is in
        subst (IsBodySaid layout c part) (told_same (record { named = n; start = s.start; head = None }) e)
        (record { start = said.written; head = tt; lines = said.lines })

    -- a head part after the line of a head
    module _ (w : Written) (written : IsWritten layout c.known w) (none : w.choices ≡ []) (machine : List ℕ) (is : line_of layout machine ≡ Some MachineLine)
        (a : ℕ) (small : a < 2 ^ 32) (at_head : c.heads a ≡ true) (content rest : List (List ℕ))
        (content_is : content ≡ line_texts layout (MachineLine ∷ content_lines layout w)) where
      of_head : (s : Stack) (before : ℕ) (told : Told) → All (λ r. (r < 2 ^ 32) × (c.returns r ≡ true)) s.addresses → rest ≡ map stack_line s.addresses ++ s.behind →
          told_of layout c.kept (head_part layout s.behind) ≡ told → head_told n w a s.addresses before told ≡ FramedIs t →
          IsBodySaid layout c (content ++ head_line a ∷ rest) t
      of_head s before (StateRefused k f) good lines told e = refused _ _ e
      of_head s before (StateIs h) good lines told e =
          let said = head_said layout c.kept machine s.behind h is told in
          let stack = map stack_line s.addresses in
          subst (IsBodySaid layout c (content ++ head_line a ∷ rest))
          (told_same (record { named = n; start = w; head = Some (record { at = a; stack = s.addresses; start = h.start }) }) e)
          (record {
            start = written;
            head = record { no_choices = none; at = small; head = at_head; stack = good; start = said.0 };
            lines =
                ap (λ (ls : List (List ℕ)). ls ++ head_line a ∷ rest) content_is
                ∙ ap (λ (ls : List (List ℕ)). line_texts layout (MachineLine ∷ content_lines layout w) ++ head_line a ∷ ls) lines
                ∙ ap (λ (ls : List (List ℕ)). line_texts layout (MachineLine ∷ content_lines layout w) ++ head_line a ∷ (stack ++ ls)) said.1;
          })

      of_registers : (s : Stack) (before : ℕ) (part : List (List ℕ)) (o : Option (Mark × List (List ℕ))) → IsSplit layout s.behind part o →
          All (λ r. (r < 2 ^ 32) × (c.returns r ≡ true)) s.addresses → rest ≡ map stack_line s.addresses ++ s.behind →
          told_registers layout c n w a s.addresses before part o ≡ FramedIs t → IsBodySaid layout c (content ++ head_line a ∷ rest) t
      of_registers s before part (Some x) parted good lines e =
          of_misplaced (told_of layout c.kept (closed (head_part layout part))) e
        where
          of_misplaced : (told : Told) → misplaced before (before + length part + 1) told ≡ FramedIs t → IsBodySaid layout c (content ++ head_line a ∷ rest) t
          of_misplaced (StateRefused k f) e = refused _ _ e
          of_misplaced (StateIs h) e = refused _ _ e
      of_registers s before part None parted good lines e =
          of_head (record { addresses = s.addresses; behind = part }) before (told_of layout c.kept (head_part layout part)) good
          (lines ∙ ap (λ (ls : List (List ℕ)). map stack_line s.addresses ++ ls) parted) refl e

      of_stack : (line : ℕ) (s : Stack) (o : Option ℕ) → bad_return c.returns (line + 1) s.addresses ≡ o → IsStacked layout rest s →
          told_stack layout c n w a line s o ≡ FramedIs t → IsBodySaid layout c (content ++ head_line a ∷ rest) t
      of_stack line s (Some bad) is stacked e = refused _ _ e
      of_stack line s None is stacked e =
          of_registers s (line + length s.addresses) (part_of layout s.behind).lines (part_of layout s.behind).behind (split layout s.behind)
          (all_return c.returns (line + 1) s.addresses is stacked.small) stacked.lines e

    of_mark : (part : List (List ℕ)) (line : ℕ) (m : Mark) (rest : List (List ℕ)) (told : Told) → mark_at m < 2 ^ 32 →
        told_of layout c.known (closed (entry_part layout part)) ≡ told → told_mark layout c n line m rest told ≡ FramedIs t →
        IsBodySaid layout c (part ++ mark_line m ∷ rest) t
    of_mark part line (HeadMark a) rest (StateRefused k f) small is e = refused _ _ e
    of_mark part line (StackMark a) rest (StateRefused k f) small is e = refused _ _ e
    of_mark part line (StackMark a) rest (StateIs s) small is e = refused _ _ e
    of_mark part line (HeadMark a) rest (StateIs s) small is e = by_test (is_none s.start.choices && c.heads a) refl e
      where
        by_test : (b : Bool) → (is_none s.start.choices && c.heads a) ≡ b →
            (if b then told_head layout c n s.start a line (stack_of layout rest) else FramedRefused line HeadFault) ≡ FramedIs t →
            IsBodySaid layout c (part ++ head_line a ∷ rest) t
        by_test false t e = refused _ _ e
        by_test true t e =
            let said = closed_said layout c.known part s is in
            let both = and_true (is_none s.start.choices) (c.heads a) t in
            let none = none_chosen s.start.choices both.0 in
            let machine = machine_of layout c.known part s is in
            of_stack s.start said.written none machine.0 machine.1 a small both.1 part rest (content_said layout c.known part s.start none said.lines) line
            (stack_of layout rest) (bad_return c.returns (line + 1) (stack_of layout rest).addresses) refl (stacked layout rest) e

    of_parts : (ls part : List (List ℕ)) (o : Option (Mark × List (List ℕ))) → IsSplit layout ls part o → told_parts layout c n part o ≡ FramedIs t →
        IsBodySaid layout c ls t
    of_parts ls part None parted e =
        subst (λ (l : List (List ℕ)). IsBodySaid layout c l t) (sym parted) (of_plain part (told_of layout c.known (entry_part layout part)) refl e)
    of_parts ls part (Some x) parted e =
        subst (λ (l : List (List ℕ)). IsBodySaid layout c l t) (sym parted.0)
        (of_mark part (length part + 2) x.0 x.1 (told_of layout c.known (closed (entry_part layout part))) parted.1 refl e)

  pub behind_said : (n : FramedEnding) (ls : List (List ℕ)) → told_behind layout c (Some n) (part_of layout ls) ≡ FramedIs t → IsBodySaid layout c ls t
  behind_said n ls e = of_parts n ls (part_of layout ls).lines (part_of layout ls).behind (split layout ls) e
