-- The lines of a text, printed one after another.
use Rattle.std.proofs.Common.{◌≡◌, ℕ, zero, suc, ◌+◌, ◌-◌, ◌<◌, ◌≢◌, refl, ap, sym, ◌∙◌, arith, List, [], ◌∷◌, ◌++◌, length, get_or, drop, map, append_assoc, add-one, drop-cons, codes}
use Rattle.word_spec.specs.Words.{bit_at}
use Rattle.word_spec.specs.State.{Written}
use Rattle.word_spec.specs.Texts.{line}
use Rattle.machine_spec.specs.Endings.{named_line}
use Rattle.machine_spec.specs.StateText.{Layout, StateText, StateLine, MachineLine, RegisterLine, ByteLine, ChoiceLine, EndLine, block_text, register_lines, flag_bits, printed}
use Rattle.state_text.specs.Starts.{line_text, lines_text}

-- the next line of a list
pub next_line : (f : ℕ × ℕ → StateLine) (layout : Layout) (xs : List (ℕ × ℕ)) (i : ℕ) (out first all : List ℕ) → i < length xs →
    first ≡ out ++ line (line_text layout (f (get_or xs i (0, 0)))) → out ++ lines_text layout (map f (drop i xs)) ≡ all →
    first ++ lines_text layout (map f (drop (i + 1) xs)) ≡ all
next_line f layout xs i out first all below e inv =
    let rest : List ℕ = lines_text layout (map f (drop (suc i) xs)) in
    let here : List ℕ = line (line_text layout (f (get_or xs i (0, 0)))) in
    ap (λ k. first ++ lines_text layout (map f (drop k xs))) (add-one i) ∙ ap (λ l. l ++ rest) e ∙ append_assoc out here rest
    ∙ ap (λ l. out ++ lines_text layout (map f l)) (sym (drop-cons xs i (0, 0) below)) ∙ inv

-- the highest flag stands first
pub flags_more : (layout : Layout) (place count flags v : ℕ) → count ≢ 0 → v ≡ bit_at (count - 1) flags →
    line (line_text layout (RegisterLine place v)) ++ lines_text layout (register_lines (place + 1) (flag_bits (count - 1) flags))
    ≡ lines_text layout (register_lines place (flag_bits count flags))
flags_more layout place zero flags v some bit = absurd (some refl)
flags_more layout place (suc n) flags v some bit =
    let same : suc n - 1 ≡ n = omega arith in
    ap (λ b. line (line_text layout (RegisterLine place b)) ++ lines_text layout (register_lines (place + 1) (flag_bits (suc n - 1) flags))) bit
    ∙ ap (λ k. line (line_text layout (RegisterLine place (bit_at k flags))) ++ lines_text layout (register_lines (place + 1) (flag_bits k flags))) same

-- lines behind lines
pub lines_append : (layout : Layout) (xs ys : List StateLine) → lines_text layout (xs ++ ys) ≡ lines_text layout xs ++ lines_text layout ys
lines_append layout [] ys = refl
lines_append layout (x ∷ xs) ys =
    ap (λ l. line (line_text layout x) ++ l) (lines_append layout xs ys) ∙ sym
    (append_assoc (line (line_text layout x)) (lines_text layout xs) (lines_text layout ys))

-- values behind values
pub registers_append : (i : ℕ) (xs ys : List ℕ) → register_lines i (xs ++ ys) ≡ register_lines i xs ++ register_lines (i + length xs) ys
registers_append i [] ys = ap (λ k. register_lines k ys) (omega arith)
registers_append i (x ∷ xs) ys =
    let same : (i + 1) + length xs ≡ i + suc (length xs) = omega arith in
    ap (λ l. RegisterLine i x ∷ l) (registers_append (i + 1) xs ys ∙ ap (λ k. register_lines (i + 1) xs ++ register_lines k ys) same)

-- the lines of a start behind each other
pub block : (layout : Layout) (w : Written) →
    line (line_text layout MachineLine) ++ (lines_text layout (register_lines 0 w.regs)
    ++ (lines_text layout (register_lines (length w.regs) (flag_bits (length layout.flags) w.flags))
    ++ (lines_text layout (map (λ b. ByteLine b.0 b.1) w.bytes)
    ++ (lines_text layout (map (λ c. ChoiceLine c.0 c.1) w.choices) ++ codes "end\n"))))
    ≡ block_text layout w
block layout w =
    ap (λ l. line (line_text layout MachineLine) ++ l)
    (sym (append_assoc (lines_text layout regs) (lines_text layout flags) (lines_text layout bytes ++ (lines_text layout choices ++ codes "end\n")))
    ∙ ap (λ l. l ++ (lines_text layout bytes ++ (lines_text layout choices ++ codes "end\n")))
    (sym (lines_append layout regs flags) ∙ ap (λ l. lines_text layout l) (ap
    (λ k. regs ++ register_lines k bits) zero_add ∙ sym (registers_append 0 w.regs bits)))
    ∙ ap (λ l. lines_text layout values ++ (lines_text layout bytes ++ l)) (sym (lines_append layout choices (EndLine ∷ [])))
    ∙ ap (λ l. lines_text layout values ++ l) (sym (lines_append layout bytes (choices ++ EndLine ∷ [])))
    ∙ sym (lines_append layout values (bytes ++ (choices ++ EndLine ∷ []))))
  where
    bits : List ℕ
    bits = flag_bits (length layout.flags) w.flags

    regs : List StateLine
    regs = register_lines 0 w.regs

    flags : List StateLine
    flags = register_lines (length w.regs) bits

    values : List StateLine
    values = register_lines 0 (w.regs ++ bits)

    bytes : List StateLine
    bytes = map (λ b. ByteLine b.0 b.1) w.bytes

    choices : List StateLine
    choices = map (λ c. ChoiceLine c.0 c.1) w.choices

    zero_add : length w.regs ≡ 0 + length w.regs
    zero_add = omega arith

-- the same for equal parts
pub block_by : (layout : Layout) (w : Written) (regs : List ℕ) (n count : ℕ) (bytes choices : List (ℕ × ℕ)) → regs ≡ w.regs → n ≡ length w.regs →
    count ≡ length layout.flags → bytes ≡ w.bytes → choices ≡ w.choices →
    line (line_text layout MachineLine) ++ (lines_text layout (register_lines 0 regs)
    ++ (lines_text layout (register_lines n (flag_bits count w.flags))
    ++ (lines_text layout (map (λ b. ByteLine b.0 b.1) bytes) ++ (lines_text layout (map (λ c. ChoiceLine c.0 c.1) choices) ++ codes "end\n"))))
    ≡ block_text layout w
block_by layout w regs n count bytes choices same_regs same_n same_count same_bytes same_choices =
    rw (same_regs, same_n, same_count, same_bytes, same_choices) (block layout w)

-- a text is the line of its ending and the lines of its start
pub whole : (layout : Layout) (t : StateText) → line (named_line t.named) ++ block_text layout t.start ≡ printed layout t
unfolding printed
whole layout t = refl
