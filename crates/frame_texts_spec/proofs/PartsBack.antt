-- A printed text is read back as the same state, part by part.
use Rattle.std.proofs.Common.{◌≡◌, ℕ, suc, ◌+◌, ◌^◌, ◌<◌, ◌≤◌, refl, ap, sym, ◌∙◌, subst, arith, Bool, true, false, List, [], ◌∷◌, ◌++◌, Option, Some, None, length, map, append_assoc}
use Rattle.std.specs.Prelude.{All, ◌==◌, ◌&&◌, codes, if◌then◌else◌}
use Rattle.std.proofs.lemmas.Bool.Decides.{nat_tests}
use Rattle.std.proofs.lemmas.List.{map-append}
use Rattle.std.specs.Fmt.{digits}
use Rattle.word_spec.specs.State.{Written}
use Rattle.word_spec.specs.Memory.{Endian, Little, Big}
use Rattle.word_spec.specs.Profiles.{Profile, V4, V4T, V5}
use Rattle.word_spec.specs.Texts.{in_front, joined, line, lines, split_lines, words_in}
use Rattle.machine_spec.specs.Endings.{named_words}
use Rattle.machine_spec.specs.StateText.{Layout, StateText, StateLine, NamedLine, MachineLine, ByteLine, ChoiceLine, EndLine, StateFault, IsWritten, rv_layout, arm_layout, words_of_line, register_lines, flag_bits, lines_behind, state_lines, printed, line_of, line_refusal, refused_or, first_refused, StateIs, StateRefused, told_by, told_of, state_of}
use Rattle.machine_spec.proofs.Spelling.{Above}
use Rattle.machine_spec.proofs.StateLines.{IsLayout, line_back, rv_is_layout, arm_is_layout}
use Rattle.machine_spec.proofs.StateBack.{printed_back}
use Rattle.machine_spec.proofs.StateRead.{told_is_printed}
use Rattle.frame_spec.specs.FrameReports.{WrittenHead}
use Rattle.frame_texts_spec.specs.FrameTexts.{FramedText, FramedEnding, ending_words, head_line, stack_line, content_lines, last_lines, line_texts, lines_of_parts, framed_lines, framed_printed, Checks, IsWrittenHead, IsHeadPart, IsFramed, is_none, FramedRefused, HeadFault, Mark, HeadMark, StackMark, mark_of, mark_unless, mark_in, Part, part_from, part_of, stack_from, stack_of, some_ending, entry_part, head_part, closed, bad_return, head_told, told_registers, told_stack, told_head, told_mark, plain_told, told_behind, framed_told, FramedIs, framed_of}
use Rattle.frame_texts_spec.specs.FrameTextLaws.{HasNoMark, PrintedIsReadBack}
use Rattle.frame_texts_spec.proofs.EndingsBack.{ending_back, ending_line_above, HasMarks, head_above, stack_above, head_back, stack_back}
use Rattle.frame_texts_spec.proofs.Headless.{whole_part}

-- a line has no line feed
abbrev pub NoFeed : List ℕ → Type 0
NoFeed [] = Unit {0}
NoFeed (b ∷ w) = ((b == 10) ≡ false) × NoFeed w

abbrev pub AllNoFeed : List (List ℕ) → Type 0
AllNoFeed [] = Unit {0}
AllNoFeed (l ∷ ls) = NoFeed l × AllNoFeed ls

pub no_feed : (w : List ℕ) → Above 31 w → NoFeed w
no_feed [] p = tt
no_feed (b ∷ w) p = (grind (arith, nat_tests, p.0), no_feed w p.1)

pub split_no_feed : (text : List ℕ) → AllNoFeed (split_lines text)
split_no_feed [] = tt
split_no_feed (b ∷ rest) = by_test (b == 10) refl (split_lines rest) (split_no_feed rest)
  where
    by_test : (t : Bool) → (b == 10) ≡ t → (ls : List (List ℕ)) → AllNoFeed ls → AllNoFeed (if t then [] ∷ ls else in_front b ls)
    by_test true e ls p = (tt, p)
    by_test false e [] p = ((e, tt), tt)
    by_test false e (l ∷ ls) p = ((e, p.0), p.1)

line_split : (l rest : List ℕ) → NoFeed l → split_lines (line l ++ rest) ≡ l ∷ split_lines rest
line_split [] rest p = refl
line_split (b ∷ l) rest p = rw (p.0, line_split l rest p.1) refl

pub lines_split : (ls : List (List ℕ)) → AllNoFeed ls → split_lines (lines ls) ≡ ls
lines_split [] p = refl
lines_split (l ∷ ls) p = line_split l (lines ls) p.0 ∙ ap (λ x. l ∷ x) (lines_split ls p.1)

pub feeds-append : (ls ms : List (List ℕ)) → AllNoFeed ls → AllNoFeed ms → AllNoFeed (ls ++ ms)
feeds-append [] ms p q = q
feeds-append (l ∷ ls) ms p q = (p.0, feeds-append ls ms p.1 q)

pub feeds_before : (ls ms : List (List ℕ)) → AllNoFeed (ls ++ ms) → AllNoFeed ls
feeds_before [] ms p = tt
feeds_before (l ∷ ls) ms p = (p.0, feeds_before ls ms p.1)

-- lines of a state that is told are all of the grammar
abbrev pub AllSaid : List (Option StateLine) → Type 0
AllSaid [] = Unit {0}
AllSaid (None ∷ ls) = ⊥
AllSaid (Some l ∷ ls) = AllSaid ls

not_refused : (n : ℕ) (r : Option StateFault) (later : Option (ℕ × StateFault)) → refused_or n r later ≡ None → later ≡ None
not_refused n (Some f) later e = absurd (let z : ◌≡◌ {A = Option (ℕ × StateFault)} (Some (n, f)) None = e in cc)
not_refused n None later e = e

all_said : (layout : Layout) (known : ℕ → Bool) (ls : List (Option StateLine)) (before : List StateLine) →
    first_refused layout known before ls ≡ None → AllSaid ls
all_said layout known [] before e = tt
all_said layout known (None ∷ ls) before e = let z : ◌≡◌ {A = Option (ℕ × StateFault)} (Some _) None = e in cc
all_said layout known (Some l ∷ ls) before e =
    all_said layout known ls (l ∷ before)
    (not_refused (length before + 1) (line_refusal layout known before l) (first_refused layout known (l ∷ before) ls) e)

pub told_said : (layout : Layout) (known : ℕ → Bool) (ls : List (Option StateLine)) (t : StateText) → told_of layout known ls ≡ StateIs t → AllSaid ls
told_said layout known ls t e = by_refusal (first_refused layout known [] ls) refl e
  where
    by_refusal : (r : Option (ℕ × StateFault)) → first_refused layout known [] ls ≡ r → told_by layout r ls ≡ StateIs t → AllSaid ls
    by_refusal None same e = all_said layout known ls [] same
    by_refusal (Some x) same e = absurd (let z : StateRefused x.0 x.1 ≡ StateIs t = e in cc)

no_marks : (layout : Layout) (texts : List (List ℕ)) → AllSaid (map (line_of layout) texts) → HasNoMark layout texts
no_marks layout [] said = tt
no_marks layout (text ∷ rest) said = by_line (line_of layout text) refl said (no_marks layout rest)
  where
    by_line : (o : Option StateLine) → line_of layout text ≡ o → AllSaid (o ∷ map (line_of layout) rest) →
        (AllSaid (map (line_of layout) rest) → HasNoMark layout rest) → HasNoMark layout (text ∷ rest)
    by_line None e said others = absurd said
    by_line (Some l) e said others = (ap (λ x. mark_unless x (mark_in (words_in text))) e, others said)

marks_before : (layout : Layout) (xs ys : List (List ℕ)) → HasNoMark layout (xs ++ ys) → HasNoMark layout xs
marks_before layout [] ys h = tt
marks_before layout (x ∷ xs) ys h = (h.0, marks_before layout xs ys h.1)

-- a part that a mark closes
part_then : (layout : Layout) (xs : List (List ℕ)) (text : List ℕ) (rest : List (List ℕ)) (m : Mark) → HasNoMark layout xs → mark_of layout text ≡ Some m →
    part_of layout (xs ++ text ∷ rest) ≡ record { lines = xs; behind = Some (m, rest) }
part_then layout [] text rest m h e = ap (λ x. part_from text x rest (part_of layout rest)) e
part_then layout (x ∷ xs) text rest m h e =
    ap (λ o. part_from x o (xs ++ text ∷ rest) (part_of layout (xs ++ text ∷ rest))) h.0
    ∙ ap (part_from x None (xs ++ text ∷ rest)) (part_then layout xs text rest m h.1 e)

-- a stack before a part
stack_end : (layout : Layout) (rest : List (List ℕ)) → HasNoMark layout rest → stack_of layout rest ≡ record { addresses = []; behind = rest }
stack_end layout [] h = refl
stack_end layout (text ∷ rest) h = ap (λ o. stack_from text o rest (stack_of layout rest)) h.0

stack_then : (layout : Layout) → HasMarks layout → (c : Checks) (stack : List ℕ) (rest : List (List ℕ)) →
    All (λ r. (r < 2 ^ 32) × (c.returns r ≡ true)) stack → HasNoMark layout rest →
    stack_of layout (map stack_line stack ++ rest) ≡ record { addresses = stack; behind = rest }
stack_then layout marks c [] rest good h = stack_end layout rest h
stack_then layout marks c (a ∷ stack) rest good h =
    ap (λ o. stack_from (stack_line a) o (map stack_line stack ++ rest) (stack_of layout (map stack_line stack ++ rest)))
    (stack_back layout marks a (good 0 a (omega arith)).0)
    ∙ ap (stack_from (stack_line a) (Some (StackMark a)) (map stack_line stack ++ rest))
    (stack_then layout marks c stack rest (λ k d l. good (suc k) d (omega arith)) h)

good_returns : (c : Checks) (n : ℕ) (stack : List ℕ) → All (λ r. (r < 2 ^ 32) × (c.returns r ≡ true)) stack → bad_return c.returns n stack ≡ None
good_returns c n [] good = refl
good_returns c n (a ∷ stack) good =
    rw (good 0 a (omega arith)).1 (good_returns c (n + 1) stack (λ k d l. good (suc k) d (omega arith)))

stack_feeds : (layout : Layout) → HasMarks layout → (stack : List ℕ) → AllNoFeed (map stack_line stack)
stack_feeds layout marks [] = tt
stack_feeds layout marks (a ∷ stack) = (no_feed (stack_line a) (stack_above layout marks a), stack_feeds layout marks stack)

-- the lines of a start, before and behind its choices
pub behind_is : (layout : Layout) (w : Written) → lines_behind layout w ≡ MachineLine ∷ (content_lines layout w ++ last_lines w)
behind_is layout w =
    ap (λ x. MachineLine ∷ x)
    (sym (append_assoc (register_lines 0 (w.regs ++ flag_bits (length layout.flags) w.flags)) (map (λ b. ByteLine b.0 b.1) w.bytes) (last_lines w)))

-- a start behind an ending, by its lines
module _ (layout : Layout) (good : IsLayout layout) (known : ℕ → Bool) (w : Written) (written : IsWritten layout known w) where
  abbrev text : StateText
  text = record { named = some_ending; start = w }

  abbrev first : List ℕ
  first = joined (named_words some_ending)

  some_is_named : (0 ≤ 4096) × (0 < 2 ^ 32) × (0 ≤ 16777215)
  some_is_named = (omega arith, omega arith, omega arith)

  back : state_of layout known (printed layout text) ≡ StateIs text
  back = printed_back layout good known text written some_is_named

  split_is : split_lines (printed layout text) ≡ state_lines layout text
  split_is = (told_is_printed layout known (printed layout text) text back).2

  lines_told : told_of layout known (map (line_of layout) (state_lines layout text)) ≡ StateIs text
  unfolding state_of
  lines_told = ap (λ ls. told_of layout known (map (line_of layout) ls)) (sym split_is) ∙ back

  first_back : line_of layout first ≡ Some (NamedLine some_ending)
  first_back = line_back layout good (NamedLine some_ending) some_is_named

  pub start_told : told_of layout known (entry_part layout (line_texts layout (lines_behind layout w))) ≡ StateIs text
  start_told = ap (λ o. told_of layout known (o ∷ map (line_of layout) (line_texts layout (lines_behind layout w)))) (sym first_back) ∙ lines_told

  pub start_feeds : AllNoFeed (line_texts layout (lines_behind layout w))
  start_feeds = (subst AllNoFeed split_is (split_no_feed (printed layout text))).1

  pub start_marks : HasNoMark layout (line_texts layout (lines_behind layout w))
  start_marks = no_marks layout (line_texts layout (lines_behind layout w))
      (told_said layout known (entry_part layout (line_texts layout (lines_behind layout w))) text start_told)

  abbrev machine : List ℕ
  machine = joined (words_of_line layout MachineLine)

  abbrev behind : List (List ℕ)
  behind = line_texts layout (content_lines layout w ++ last_lines w)

  texts_are : line_texts layout (lines_behind layout w) ≡ machine ∷ behind
  texts_are = ap (line_texts layout) (behind_is layout w)

  pub head_start_told : told_of layout known (head_part layout behind) ≡ StateIs text
  head_start_told =
      ap (λ o. told_of layout known (Some (NamedLine some_ending) ∷ o ∷ map (line_of layout) behind)) (sym (line_back layout good MachineLine tt))
      ∙ ap (λ ls. told_of layout known (entry_part layout ls)) (sym texts_are) ∙ start_told

  pub behind_feeds : AllNoFeed behind
  behind_feeds = (subst AllNoFeed texts_are start_feeds).1

  pub behind_marks : HasNoMark layout behind
  behind_marks = (subst (HasNoMark layout) texts_are start_marks).1

  -- without choices, before the end
  module _ (none : w.choices ≡ []) where
    abbrev content : List (List ℕ)
    content = line_texts layout (MachineLine ∷ content_lines layout w)

    last_is : last_lines w ≡ EndLine ∷ []
    last_is = ap (λ cs. map (λ c. ChoiceLine c.0 c.1) cs ++ EndLine ∷ []) none

    pub content_is : line_texts layout (lines_behind layout w) ≡ content ++ codes "end" ∷ []
    content_is =
        texts_are ∙ ap (λ x. machine ∷ line_texts layout (content_lines layout w ++ x)) last_is
        ∙ ap (λ x. machine ∷ x) (map-append (λ l. joined (words_of_line layout l)) (content_lines layout w) (EndLine ∷ []))

    pub content_told : told_of layout known (closed (entry_part layout content)) ≡ StateIs text
    content_told =
        ap (λ x. told_of layout known (Some (NamedLine some_ending) ∷ x)) (sym (map-append (line_of layout) content (codes "end" ∷ [])))
        ∙ ap (λ ls. told_of layout known (entry_part layout ls)) (sym content_is) ∙ start_told

    pub content_feeds : AllNoFeed content
    content_feeds = feeds_before content (codes "end" ∷ []) (subst AllNoFeed content_is start_feeds)

    pub content_marks : HasNoMark layout content
    content_marks = marks_before layout content (codes "end" ∷ []) (subst (HasNoMark layout) content_is start_marks)

module _ (layout : Layout) (good : IsLayout layout) (marks : HasMarks layout) (c : Checks) where
  pub parts_feeds : (w : Written) → IsWritten layout c.known w → (h : Option WrittenHead) → IsHeadPart layout c w h → AllNoFeed (lines_of_parts layout w h)
  parts_feeds w written None part = start_feeds layout good c.known w written
  parts_feeds w written (Some h) part =
      feeds-append (line_texts layout (MachineLine ∷ content_lines layout w))
      (head_line h.at ∷ map stack_line h.stack ++ line_texts layout (content_lines layout h.start ++ last_lines h.start))
      (content_feeds layout good c.known w written part.no_choices) (
        no_feed (head_line h.at) (head_above layout marks h.at),
        feeds-append (map stack_line h.stack)
            (line_texts layout (content_lines layout h.start ++ last_lines h.start)) (stack_feeds layout marks h.stack)
            (behind_feeds layout good c.kept h.start part.start),
      )

  head_back_told : (n : FramedEnding) (w : Written) (h : WrittenHead) (line : ℕ) → IsWrittenHead layout c w h →
      told_head layout c n w h.at line (stack_of layout (map stack_line h.stack ++ line_texts layout (content_lines layout h.start ++ last_lines h.start)))
      ≡ FramedIs (record { named = n; start = w; head = Some h })
  head_back_told n w h line part =
      let rest = line_texts layout (content_lines layout h.start ++ last_lines h.start) in
      let free = behind_marks layout good c.kept h.start part.start in
      ap (told_head layout c n w h.at line) (stack_then layout marks c h.stack rest part.stack free)
      ∙ ap (told_stack layout c n w h.at line (record { addresses = h.stack; behind = rest })) (good_returns c (line + 1) h.stack part.stack)
      ∙ ap (λ (p : Part). told_registers layout c n w h.at h.stack (line + length h.stack) p.lines p.behind) (whole_part layout rest free)
      ∙ ap (head_told n w h.at h.stack (line + length h.stack)) (head_start_told layout good c.kept h.start part.start)

  pub parts_back : (n : FramedEnding) (w : Written) → IsWritten layout c.known w → (h : Option WrittenHead) → IsHeadPart layout c w h →
      told_behind layout c (Some n) (part_of layout (lines_of_parts layout w h)) ≡ FramedIs (record { named = n; start = w; head = h })
  parts_back n w written None part =
      ap (told_behind layout c (Some n))
      (whole_part layout (line_texts layout (lines_behind layout w)) (start_marks layout good c.known w written))
      ∙ ap (plain_told n) (start_told layout good c.known w written)
  parts_back n w written (Some h) part =
      let content = line_texts layout (MachineLine ∷ content_lines layout w) in
      let rest = map stack_line h.stack ++ line_texts layout (content_lines layout h.start ++ last_lines h.start) in
      ap (told_behind layout c (Some n))
      (part_then layout content (head_line h.at) rest (HeadMark h.at) (content_marks layout good c.known w written part.no_choices)
      (head_back layout marks h.at part.at))
      ∙ ap (told_mark layout c n (length content + 2) (HeadMark h.at) rest) (content_told layout good c.known w written part.no_choices)
      ∙ ap (λ cs. if is_none cs && c.heads h.at then told_head layout c n w h.at (length content + 2) (stack_of layout rest)
      else FramedRefused (length content + 2) HeadFault) part.no_choices
      ∙ ap (λ t. if t then told_head layout c n w h.at (length content + 2) (stack_of layout rest) else FramedRefused (length content + 2) HeadFault) part.head
      ∙ head_back_told n w h (length content + 2) part

  pub framed_back : (t : FramedText) → IsFramed layout c t → framed_of layout c (framed_printed layout t) ≡ FramedIs t
  unfolding framed_of framed_printed
  framed_back t p =
      ap (framed_told layout c)
      (lines_split (framed_lines layout t)
      (no_feed (joined (ending_words t.named)) (ending_line_above t.named p.named), parts_feeds t.start p.start t.head p.head))
      ∙ ap (λ n. told_behind layout c n (part_of layout (lines_of_parts layout t.start t.head))) (ending_back layout good t.named p.named)
      ∙ parts_back t.named t.start p.start t.head p.head

pub rv_marks : (compressed : Bool) → HasMarks (rv_layout compressed)
unfolding digits
rv_marks true = record { no_head = refl; no_stack = refl }
rv_marks false = record { no_head = refl; no_stack = refl }

pub arm_marks : (e : Endian) (profile : Profile) → HasMarks (arm_layout e profile)
unfolding digits
arm_marks Little V4 = record { no_head = refl; no_stack = refl }
arm_marks Little V4T = record { no_head = refl; no_stack = refl }
arm_marks Little V5 = record { no_head = refl; no_stack = refl }
arm_marks Big V4 = record { no_head = refl; no_stack = refl }
arm_marks Big V4T = record { no_head = refl; no_stack = refl }
arm_marks Big V5 = record { no_head = refl; no_stack = refl }

pub printed_is_read_back : PrintedIsReadBack
printed_is_read_back = (
  λ compressed. framed_back (rv_layout compressed) (rv_is_layout compressed) (rv_marks compressed),
  λ e profile. framed_back (arm_layout e profile) (arm_is_layout e profile) (arm_marks e profile),
)
