-- Texts that are printed piece by piece.
use Rattle.std.proofs.Common.{◌≡◌, ℕ, suc, ◌+◌, ◌<◌, get_or, drop, drop-cons, add-one, refl, ap, sym, ◌∙◌, arith, List, [], ◌∷◌, ◌++◌, length, map, append_assoc, append-nil, codes}
use Rattle.word_spec.specs.State.{Written}
use Rattle.word_spec.specs.Texts.{blank, joined, spaced, line, lines, number_text, word_text}
use Rattle.machine_spec.specs.Endings.{AssertFails, FetchFails, NoRow, HalfwordFails, CodeWritten, Trapped, AlignFails, JumpFails, EnsureFails, place_words}
use Rattle.machine_spec.specs.StateText.{Layout, StateLine, ByteLine, ChoiceLine, EndLine, register_lines, flag_bits}
use Rattle.frame_spec.specs.Frames.{FrameEvent, OfStep, InvariantFails, NeedsFails, WritesFails, GivesFails, ModifiesFails}
use Rattle.frame_texts_spec.specs.FrameTexts.{FramedText, frame_event_words, ending_words, content_lines, last_lines, line_texts, lines_of_parts, stack_line, framed_printed}
use Rattle.state_text.specs.Starts.{lines_text}
use Rattle.state_text.proofs.Appends.{fails_line}
use Rattle.state_text.proofs.Printing.{lines_append, registers_append}

-- the words of an event, behind another word
pub event_spaced : (e : FrameEvent) (ws : List (List ℕ)) → blank ∷ joined (frame_event_words e ++ ws) ≡ spaced (frame_event_words e ++ ws)
event_spaced (OfStep (AssertFails n)) ws = refl
event_spaced (OfStep FetchFails) ws = refl
event_spaced (OfStep NoRow) ws = refl
event_spaced (OfStep HalfwordFails) ws = refl
event_spaced (OfStep CodeWritten) ws = refl
event_spaced (OfStep Trapped) ws = refl
event_spaced (OfStep AlignFails) ws = refl
event_spaced (OfStep JumpFails) ws = refl
event_spaced (OfStep (EnsureFails n)) ws = refl
event_spaced (InvariantFails n) ws = refl
event_spaced (NeedsFails n) ws = refl
event_spaced WritesFails ws = refl
event_spaced (GivesFails n) ws = refl
event_spaced ModifiesFails ws = refl

-- an event and its place
pub event_then : (e : FrameEvent) (at step : ℕ) →
    joined (frame_event_words e) ++ (codes " " ++ joined (place_words at step)) ≡ joined (frame_event_words e ++ place_words at step)
event_then (OfStep e) at step =
    let z : codes "fails " ++ (joined (frame_event_words (OfStep e)) ++ (codes " " ++ joined (place_words at step)))
    ≡ codes "fails " ++ joined (frame_event_words (OfStep e) ++ place_words at step) =
    fails_line e at step ∙ ap (λ l. codes "fails" ++ l) (sym (event_spaced (OfStep e) (place_words at step))) in cc
event_then (InvariantFails n) at step = ap (λ l. codes "invariant " ++ (l ++ spaced (place_words at step))) (append-nil (number_text n))
event_then (NeedsFails n) at step = ap (λ l. codes "needs " ++ (l ++ spaced (place_words at step))) (append-nil (number_text n))
event_then WritesFails at step = refl
event_then (GivesFails n) at step = ap (λ l. codes "gives " ++ (l ++ spaced (place_words at step))) (append-nil (number_text n))
event_then ModifiesFails at step = refl

-- lines behind lines
pub lines_then : (xs ys : List (List ℕ)) → lines (xs ++ ys) ≡ lines xs ++ lines ys
lines_then [] ys = refl
lines_then (x ∷ xs) ys = ap (λ l. line x ++ l) (lines_then xs ys) ∙ sym (append_assoc (line x) (lines xs) (lines ys))

-- the lines of a start's registers, flags and bytes behind each other
pub content_by : (layout : Layout) (w : Written) (regs : List ℕ) (n count : ℕ) (bytes : List (ℕ × ℕ)) → regs ≡ w.regs → n ≡ length w.regs →
    count ≡ length layout.flags → bytes ≡ w.bytes →
    lines_text layout (register_lines 0 regs)
    ++ (lines_text layout (register_lines n (flag_bits count w.flags)) ++ lines_text layout (map (λ b. ByteLine b.0 b.1) bytes))
    ≡ lines (line_texts layout (content_lines layout w))
content_by layout w regs n count bytes same_regs same_n same_count same_bytes = rw (same_regs, same_n, same_count, same_bytes) content
  where
    bits : List ℕ
    bits = flag_bits (length layout.flags) w.flags

    front : List StateLine
    front = register_lines 0 w.regs

    back : List StateLine
    back = register_lines (length w.regs) bits

    last : List StateLine
    last = map (λ b. ByteLine b.0 b.1) w.bytes

    zero_add : length w.regs ≡ 0 + length w.regs
    zero_add = omega arith

    content : lines_text layout front ++ (lines_text layout back ++ lines_text layout last) ≡ lines_text layout (content_lines layout w)
    content =
        sym (append_assoc (lines_text layout front) (lines_text layout back) (lines_text layout last))
        ∙ ap (λ l. l ++ lines_text layout last) (sym (lines_append layout front back))
        ∙ sym (lines_append layout (front ++ back) last)
        ∙ ap (λ l. lines_text layout (l ++ last))
        (ap (λ k. front ++ register_lines k bits) zero_add ∙ sym (registers_append 0 w.regs bits))

-- the lines of choices, and the end
pub last_by : (layout : Layout) (w : Written) (choices : List (ℕ × ℕ)) → choices ≡ w.choices →
    lines_text layout (map (λ c. ChoiceLine c.0 c.1) choices) ++ codes "end\n" ≡ lines (line_texts layout (last_lines w))
last_by layout w choices same =
    ap (λ cs. lines_text layout (map (λ c. ChoiceLine c.0 c.1) cs) ++ codes "end\n") same
    ∙ sym (lines_append layout (map (λ c. ChoiceLine c.0 c.1) w.choices) (EndLine ∷ []))

-- a first line, and lines behind lines
pub first_then : (x : List ℕ) (xs ys : List (List ℕ)) → line x ++ (lines xs ++ lines ys) ≡ lines (x ∷ xs ++ ys)
first_then x xs ys = ap (λ l. line x ++ l) (sym (lines_then xs ys))

-- the lines of a head part behind each other
pub head_by : (layout : Layout) (first : List ℕ) (stack : List (List ℕ)) (xs ys : List StateLine) →
    line first ++ (lines stack ++ (lines (line_texts layout xs) ++ lines (line_texts layout ys)))
    ≡ lines (first ∷ stack ++ line_texts layout (xs ++ ys))
head_by layout first stack xs ys =
    ap (λ l. line first ++ (lines stack ++ l)) (sym (lines_append layout xs ys)) ∙ first_then first stack (line_texts layout (xs ++ ys))

-- the line of a word and an address
pub address_line : (word : List ℕ) (a : ℕ) → word ++ (codes " " ++ (word_text a ++ codes "\n")) ≡ line (joined (word ∷ word_text a ∷ []))
address_line word a =
    ap (λ l. word ++ (codes " " ++ (l ++ codes "\n"))) (sym (append-nil (word_text a)))
    ∙ sym (append_assoc word (codes " " ++ (word_text a ++ [])) (codes "\n"))

-- the line of the next return address
pub next_address : (xs : List ℕ) (i : ℕ) (out first all : List ℕ) → i < length xs → first ≡ out ++ line (stack_line (get_or xs i 0)) →
    out ++ lines (map stack_line (drop i xs)) ≡ all → first ++ lines (map stack_line (drop (i + 1) xs)) ≡ all
next_address xs i out first all below e inv =
    let rest : List ℕ = lines (map stack_line (drop (suc i) xs)) in
    let here : List ℕ = line (stack_line (get_or xs i 0)) in
    ap (λ k. first ++ lines (map stack_line (drop k xs))) (add-one i) ∙ ap (λ l. l ++ rest) e
    ∙ append_assoc out here rest ∙ ap (λ l. out ++ lines (map stack_line l)) (sym (drop-cons xs i 0 below)) ∙ inv

-- the line of an ending and the lines behind it
pub framed_whole : (layout : Layout) (t : FramedText) →
    joined (ending_words t.named) ++ (codes "\n" ++ lines (lines_of_parts layout t.start t.head)) ≡ framed_printed layout t
unfolding framed_printed
framed_whole layout t = sym (append_assoc (joined (ending_words t.named)) (codes "\n") (lines (lines_of_parts layout t.start t.head)))
