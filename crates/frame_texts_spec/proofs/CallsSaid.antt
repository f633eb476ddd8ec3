-- What a text with blocks says can be written, and its lines are those that are printed of it.
use Rattle.std.proofs.Common.{◌≡◌, ℕ, ◌+◌, refl, ap, sym, ◌∙◌, subst, arith, List, [], ◌∷◌, ◌++◌, Option, Some, None, length, append-nil}
use Rattle.std.specs.Prelude.{codes}
use Rattle.std.proofs.lemmas.List.Elements.{All-nil}
use Rattle.word_spec.specs.Texts.{joined, split_lines}
use Rattle.machine_spec.specs.StateText.{Layout, arm_layout, rv_layout}
use Rattle.frame_spec.specs.FrameReports.{WrittenCall}
use Rattle.frame_texts_spec.specs.FrameTexts.{Checks, FramedText, FramedTold, FramedIs, FramedRefused, lines_of_parts}
use Rattle.frame_texts_spec.specs.CallTexts.{BlocksAre, BlocksRefused, BlocksTold, Body, CallChecks, CallEnding, CallIs, CallRefused, CallText, CallTold, InBlocks, IsBlock, IsCallText, blocks, blocks_told, body_from, body_of, but_last, call_ending_of, call_ending_words, call_of, call_printed, call_text_lines, call_text_of, call_told, frame_name, some_framed, told_after, told_before, told_body, told_by_both}
use Rattle.frame_texts_spec.specs.CallTextLaws.{AreOfLayout, OneTextForOne, PrintedBlocksOnce, IsCallPrintedOnceIn, IsCallReadBackIn, ToldBlocksArePrinted}
use Rattle.frame_texts_spec.proofs.BlocksSaid.{AreBlocksSaid, blocks_said}
use Rattle.frame_texts_spec.proofs.CallsBack.{before_end, but_last_is, parts_end, printed_blocks_are_read_back}
use Rattle.frame_texts_spec.proofs.EndingsSaid.{IsCallFirst, call_first_said}
use Rattle.frame_texts_spec.proofs.PartsSaid.{IsBodySaid, behind_said}

-- lines by their body
abbrev Begin : List (List ℕ) → Type 0
Begin [] = Unit {0}
Begin (text ∷ rest) = (x : ℕ × ℕ) × (call_of text ≡ Some x)

abbrev IsBody : List (List ℕ) → Body → Type 0
IsBody ls b = (ls ≡ b.lines ++ b.blocks) × Begin b.blocks

body_split : (ls : List (List ℕ)) → IsBody ls (body_of ls)
body_split [] = (refl, tt)
body_split (text ∷ rest) = by_call (call_of text) refl (body_of rest) (body_split rest)
  where
    by_call : (o : Option (ℕ × ℕ)) → call_of text ≡ o → (b : Body) → IsBody rest b → IsBody (text ∷ rest) (body_from text o rest b)
    by_call None is b h = (ap (λ (ls : List (List ℕ)). text ∷ ls) h.0, h.1)
    by_call (Some x) is b h = (refl, (x, is))

-- what is said before the blocks and by them
record IsBoth (n : CallEnding) (told : FramedTold) (b : BlocksTold) (t : CallText) : Type 0 where
  text : FramedText
  values : List ℕ
  bytes : List (ℕ × ℕ)
  calls : List WrittenCall
  before : told ≡ FramedIs text
  blocks : b ≡ BlocksAre values bytes calls
  is : record { named = n; start = text.start; head = text.head; calls = calls } ≡ t

both_said : (n : CallEnding) (told : FramedTold) (b : BlocksTold) (t : CallText) → told_by_both n told b ≡ CallIs t → IsBoth n told b t
both_said n (FramedRefused k f) (BlocksAre vs bs calls) t e = absurd (let z : CallRefused k _ ≡ CallIs t = e in cc)
both_said n (FramedRefused k f) (BlocksRefused j g) t e = absurd (let z : CallRefused k _ ≡ CallIs t = e in cc)
both_said n (FramedIs u) (BlocksRefused k f) t e = absurd (let z : CallRefused k f ≡ CallIs t = e in cc)
both_said n (FramedIs u) (BlocksAre vs bs calls) t e =
    let z : CallIs (record { named = n; start = u.start; head = u.head; calls = calls }) ≡ CallIs t = e in
    record { text = u; values = vs; bytes = bs; calls = calls; before = refl; blocks = refl; is = cc }

module _ (layout : Layout) (c : CallChecks) (fits : AreOfLayout layout c) where
  -- a text, by its first line and its body
  record IsSaid (n : CallEnding) (rest : List (List ℕ)) (t : CallText) : Type 0 where
    named : t.named ≡ n
    right : IsCallText layout c t
    lines : rest ≡ but_last (lines_of_parts layout t.start t.head) ++ (blocks layout c.changes t.calls ++ codes "end" ∷ [])

  module _ (n : CallEnding) (first : List ℕ) (ending : IsCallFirst c first n) (t : CallText) where
    abbrev checks : Checks
    checks = c.frames (frame_name n)

    said : (before later rest : List (List ℕ)) (u : FramedText) (calls : List WrittenCall) → rest ≡ before ++ later →
        IsBodySaid layout checks (before ++ codes "end" ∷ []) u → AreBlocksSaid layout c fits later calls →
        IsSaid n rest (record { named = n; start = u.start; head = u.head; calls = calls })
    said before later rest u calls split body after = record {
      named = refl;
      right = record {
        named = ending.ending;
        start = body.start;
        head = body.head;
        calls = after.each;
        calls_rise = after.rise;
      };
      lines =
          split ∙ ap (λ (ls : List (List ℕ)). before ++ ls) after.lines
          ∙ ap (λ (ls : List (List ℕ)). ls ++ (blocks layout c.changes calls ++ codes "end" ∷ []))
          (sym (but_last_is before (codes "end")) ∙ ap but_last body.lines);
    }

    of_body : (before later rest : List (List ℕ)) → rest ≡ before ++ later → Begin later → told_body layout c n before later ≡ CallIs t → IsSaid n rest t
    of_body before [] rest split begin e =
        let both = both_said n (told_before layout checks before) (BlocksAre [] [] []) t e in
        let body = behind_said layout checks both.text some_framed before both.before in
        subst (IsSaid n rest) both.is
        (subst (λ (calls : List WrittenCall). IsSaid n rest (record { named = n; start = both.text.start; head = both.text.head; calls = calls }))
        (no_calls both.values both.bytes both.calls both.blocks) (plain rest both.text (split ∙ append-nil before ∙ body.lines) body))
      where
        no_calls : (vs : List ℕ) (bs : List (ℕ × ℕ)) (calls : List WrittenCall) → BlocksAre [] [] [] ≡ BlocksAre vs bs calls → [] ≡ calls
        no_calls vs bs calls e = cc

        plain : (ls : List (List ℕ)) (u : FramedText) → ls ≡ lines_of_parts layout u.start u.head → IsBodySaid layout checks before u →
            IsSaid n ls (record { named = n; start = u.start; head = u.head; calls = [] })
        plain ls u same body =
            let ends = parts_end layout u.start u.head in
            record {
              named = refl;
              right = record {
                named = ending.ending;
                start = body.start;
                head = body.head;
                calls = All-nil (IsBlock layout c);
                calls_rise = λ i j d h k. absurd (omega arith);
              };
              lines =
                  same ∙ ends
                  ∙ ap (λ (l : List (List ℕ)). l ++ codes "end" ∷ [])
                  (sym (ap but_last ends ∙ but_last_is (before_end layout u.start u.head) (codes "end")));
            }
    of_body before (text ∷ more) rest split begin e =
        let both = both_said n (told_before layout checks (before ++ codes "end" ∷ []))
        (blocks_told layout c.changes (InBlocks 0 [] 0) (length before + 2) (text ∷ more)) t e in
        subst (IsSaid n rest) both.is
        (said before (text ∷ more) rest both.text both.calls split
        (behind_said layout checks both.text some_framed (before ++ codes "end" ∷ []) both.before)
        (blocks_said layout c fits text more begin.0 (length before + 2) both.values both.bytes both.calls begin.1 both.blocks))

  abbrev IsRight : List (List ℕ) → CallText → Type 0
  IsRight ls t = IsCallText layout c t × (ls ≡ call_text_lines layout c.changes t)

  of_ending : (first : List ℕ) (rest : List (List ℕ)) (o : Option CallEnding) (t : CallText) → call_ending_of layout c.changes first ≡ o →
      told_after layout c o (body_of rest) ≡ CallIs t → IsRight (first ∷ rest) t
  of_ending first rest None t is e = absurd (let z : CallRefused 1 _ ≡ CallIs t = e in cc)
  of_ending first rest (Some n) t is e =
      let ending = call_first_said layout c first n is in
      let split = body_split rest in
      let said = of_body n first ending t (body_of rest).lines (body_of rest).blocks rest split.0 split.1 e in (
        said.right,
        ap (λ (l : List ℕ). l ∷ rest) (ending.line ∙ ap (λ (m : CallEnding). joined (call_ending_words m)) (sym said.named))
            ∙ ap (λ (ls : List (List ℕ)). joined (call_ending_words t.named) ∷ ls) said.lines,
      )

  of_lines : (ls : List (List ℕ)) (t : CallText) → call_told layout c ls ≡ CallIs t → IsRight ls t
  of_lines [] t e = absurd (let z : CallRefused 1 _ ≡ CallIs t = e in cc)
  of_lines (first ∷ rest) t e = of_ending first rest (call_ending_of layout c.changes first) t refl e

pub told_blocks_are_printed : ToldBlocksArePrinted
unfolding call_text_of
told_blocks_are_printed layout c text t fits e = of_lines layout c fits (split_lines text) t e

pub one_text_for_one : OneTextForOne
one_text_for_one layout c text other t fits e f =
    (told_blocks_are_printed layout c text t fits e).1 ∙ sym (told_blocks_are_printed layout c other t fits f).1

-- two states that are read back from one text
once : (told : CallTold) (t u : CallText) → told ≡ CallIs t → told ≡ CallIs u → t ≡ u
once told t u a b = let z : CallIs t ≡ CallIs u = sym a ∙ b in cc

once_in : (layout : Layout) → IsCallReadBackIn layout → IsCallPrintedOnceIn layout
once_in layout back c t u p q e =
    once (call_text_of layout c (call_printed layout c.changes t)) t u (back c t p) (ap (call_text_of layout c) e ∙ back c u q)

pub printed_blocks_once : PrintedBlocksOnce
printed_blocks_once = (
  λ compressed. once_in (rv_layout compressed) (printed_blocks_are_read_back.0 compressed),
  λ e profile. once_in (arm_layout e profile) (printed_blocks_are_read_back.1 e profile),
)
