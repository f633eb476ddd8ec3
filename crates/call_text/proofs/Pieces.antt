-- Texts that are printed piece by piece.
use Rattle.std.proofs.Common.{◌≡◌, ℕ, suc, ◌+◌, ◌-◌, ◌<◌, ◌≤◌, ◌%◌, ◌^◌, get_or, drop, take, drop-cons, add-one, refl, ap, sym, ◌∙◌, arith, List, [], ◌∷◌, ◌++◌, Option, length, length-append, map, append_assoc, append-nil, codes}
use Rattle.std.proofs.lemmas.List.{drop_all, take_at}
use Rattle.std.proofs.Math.Nat.{div-eq_of_lt, pow-le-pow_right}
use Rattle.word_spec.specs.Words.{bit_at}
use Rattle.word_spec.specs.State.{Written}
use Rattle.word_spec.specs.Texts.{joined, line, lines}
use Rattle.machine_spec.specs.StateText.{Layout, StateLine, RegisterLine, ByteLine}
use Rattle.frame_spec.specs.FrameReports.{WrittenCall, WrittenHead}
use Rattle.frame_texts_spec.specs.FrameTexts.{lines_of_parts}
use Rattle.frame_texts_spec.specs.CallTexts.{CallText, Changes, block_lines, blocks, but_last, call_ending_words, call_line, call_printed, changes_or_none, value_lines, values_of, places}
use Rattle.frame_texts_spec.proofs.CallsBack.{before_end, but_last_is, parts_end}
use Rattle.state_text.specs.Starts.{line_text, lines_text}
use Rattle.state_text.proofs.Printing.{lines_append}
use Rattle.frame_text.proofs.Pieces.{lines_then}

-- a flag above all of a set
pub no_flag : (flag set : ℕ) → 8 ≤ flag → set < 256 → 0 ≡ bit_at flag set
no_flag flag set high low =
    let most : 2 ^ 8 ≤ 2 ^ flag = pow-le-pow_right {n = 2} (omega arith) high in
    let below : set < 2 ^ flag = omega (arith, most, low) in
    sym (ap (λ n. n % 2) (div-eq_of_lt below))

-- the line that begins a block
pub call_line_is : (n w : List ℕ) → codes "call " ++ (n ++ (codes " " ++ (w ++ codes "\n"))) ≡ line (joined (codes "call" ∷ n ∷ w ∷ []))
call_line_is n w =
    ap (λ l. codes "call " ++ (n ++ (codes " " ++ (l ++ codes "\n")))) (sym (append-nil w))
    ∙ ap (λ l. codes "call " ++ l) (sym (append_assoc n (codes " " ++ (w ++ [])) (codes "\n")))

-- a frame's name, and words after it
pub named_then : (name rest : List ℕ) → (codes "unproved " ++ (name ++ codes " ")) ++ rest ≡ codes "unproved " ++ (name ++ (codes " " ++ rest))
named_then name rest = ap (λ l. codes "unproved " ++ l) (append_assoc name (codes " ") rest)

-- values and places of which none are left
no_values : (layout : Layout) (ps : List ℕ) → lines_text layout (value_lines ps []) ≡ []
no_values layout [] = refl
no_values layout (p ∷ ps) = refl

pub values_end : (layout : Layout) (ps vs : List ℕ) (i : ℕ) (out all : List ℕ) → length vs ≤ i →
    out ++ lines_text layout (value_lines (drop i ps) (drop i vs)) ≡ all → out ≡ all
values_end layout ps vs i out all over inv =
    sym (append-nil out) ∙ ap (λ l. out ++ l) (sym (no_values layout (drop i ps)))
    ∙ ap (λ l. out ++ lines_text layout (value_lines (drop i ps) l)) (sym (drop_all i vs over)) ∙ inv

-- the next value at the next place
pub next_value : (layout : Layout) (ps vs : List ℕ) (i : ℕ) (out first all : List ℕ) → i < length ps → i < length vs →
    first ≡ out ++ line (line_text layout (RegisterLine (get_or ps i 0) (get_or vs i 0))) →
    out ++ lines_text layout (value_lines (drop i ps) (drop i vs)) ≡ all →
    first ++ lines_text layout (value_lines (drop (i + 1) ps) (drop (i + 1) vs)) ≡ all
next_value layout ps vs i out first all below within e inv =
    ap (λ k. first ++ lines_text layout (value_lines (drop k ps) (drop k vs))) (add-one i) ∙ ap (λ l. l ++ rest) e ∙ append_assoc out here rest
    ∙ ap (λ l. out ++ lines_text layout (value_lines l (get_or vs i 0 ∷ drop (suc i) vs))) (sym (drop-cons ps i 0 below))
    ∙ ap (λ l. out ++ lines_text layout (value_lines (drop i ps) l)) (sym (drop-cons vs i 0 within)) ∙ inv
  where
    rest : List ℕ
    rest = lines_text layout (value_lines (drop (suc i) ps) (drop (suc i) vs))

    here : List ℕ
    here = line (line_text layout (RegisterLine (get_or ps i 0) (get_or vs i 0)))

-- the lines of a block after each other
pub block_is : (layout : Layout) (x : Changes) (c : WrittenCall) (bytes : List (ℕ × ℕ)) → bytes ≡ c.bytes →
    line (call_line c.step c.at) ++ (lines_text layout (value_lines (places layout x) (values_of x c)) ++ lines_text layout (map (λ b. ByteLine b.0 b.1) bytes))
    ≡ lines (block_lines layout x c)
block_is layout x c bytes same =
    ap (λ bs. line (call_line c.step c.at) ++ (lines_text layout values ++ lines_text layout (map (λ b. ByteLine b.0 b.1) bs))) same
    ∙ ap (λ l. line (call_line c.step c.at) ++ l) (sym (lines_append layout values (map (λ b. ByteLine b.0 b.1) c.bytes)))
  where
    values : List StateLine
    values = value_lines (places layout x) (values_of x c)

-- the next block
pub next_block : {X : Type 0} (layout : Layout) (changes : ℕ → Option Changes) (call : X → WrittenCall) (xs : List X) (i : ℕ) (x : X) (out first all : List ℕ) →
    i < length xs → x ≡ get_or xs i x →
    first ≡ out ++ lines (block_lines layout (changes_or_none (changes (call x).at)) (call x)) →
    out ++ lines (blocks layout changes (map call (drop i xs))) ≡ all → first ++ lines (blocks layout changes (map call (drop (i + 1) xs))) ≡ all
next_block layout changes call xs i x out first all below item e inv =
    ap (λ k. first ++ lines (blocks layout changes (map call (drop k xs)))) (add-one i) ∙ ap (λ l. l ++ lines rest) e
    ∙ append_assoc out (lines here) (lines rest)
    ∙ ap (λ l. out ++ l) (sym (lines_then here rest))
    ∙ ap (λ y. out ++ lines (blocks layout changes (map call (y ∷ drop (suc i) xs)))) item
    ∙ ap (λ l. out ++ lines (blocks layout changes (map call l))) (sym (drop-cons xs i x below)) ∙ inv
  where
    here : List (List ℕ)
    here = block_lines layout (changes_or_none (changes (call x).at)) (call x)

    rest : List (List ℕ)
    rest = blocks layout changes (map call (drop (suc i) xs))

-- lines without the end
pub open_lines : (layout : Layout) (w : Written) (h : Option WrittenHead) (out first : List ℕ) (n : ℕ) → first ≡ out ++ lines (lines_of_parts layout w h) →
    n ≡ length first - 4 → take n first ≡ out ++ lines (but_last (lines_of_parts layout w h))
open_lines layout w h out first n e count =
    ap (take n) whole ∙ take_at front (codes "end\n") n (sym (count ∙ length_is)) ∙ ap (λ ls. out ++ lines ls) (sym unended)
  where
    before : List (List ℕ)
    before = before_end layout w h

    front : List ℕ
    front = out ++ lines before

    unended : but_last (lines_of_parts layout w h) ≡ before
    unended = ap but_last (parts_end layout w h) ∙ but_last_is before (codes "end")

    whole : first ≡ front ++ codes "end\n"
    whole =
        e ∙ ap (λ ls. out ++ lines ls) (parts_end layout w h) ∙ ap (λ l. out ++ l) (lines_then before (codes "end" ∷ []))
        ∙ sym (append_assoc out (lines before) (codes "end\n"))

    length_is : length first - 4 ≡ length front
    length_is = let long : length first ≡ length front + 4 = ap length whole ∙ length-append front (codes "end\n") in omega (arith, long)

-- the lines of the text after each other
pub whole_text : (layout : Layout) (changes : ℕ → Option Changes) (t : CallText) →
    joined (call_ending_words t.named) ++ (codes "\n" ++ (lines (but_last (lines_of_parts layout t.start t.head))
    ++ (lines (blocks layout changes t.calls) ++ codes "end\n")))
    ≡ call_printed layout changes t
unfolding call_printed
whole_text layout changes t =
    ap (λ l. first ++ (codes "\n" ++ (lines parts ++ l))) (sym (lines_then calls (codes "end" ∷ [])))
    ∙ ap (λ l. first ++ (codes "\n" ++ l)) (sym (lines_then parts (calls ++ codes "end" ∷ [])))
    ∙ sym (append_assoc first (codes "\n") (lines (parts ++ (calls ++ codes "end" ∷ []))))
  where
    first : List ℕ
    first = joined (call_ending_words t.named)

    parts : List (List ℕ)
    parts = but_last (lines_of_parts layout t.start t.head)

    calls : List (List ℕ)
    calls = blocks layout changes t.calls
