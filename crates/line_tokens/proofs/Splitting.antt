-- Texts are split at the first byte of a kind.
use Rattle.std.proofs.Common.{◌≡◌, ℕ, suc, ◌+◌, ◌-◌, ◌<◌, refl, ap, sym, ◌∙◌, arith, Bool, true, false, List, [], ◌∷◌, Bor, Option, Some, None, length, take, drop, min}
use Rattle.std.specs.Prelude.{◌==◌, not}
use Rattle.std.specs.List.{prefix_len}
use Rattle.std.proofs.lemmas.List.{take_all, length-drop, drop_min}
use Rattle.word_spec.specs.Texts.{split_lines, in_front, words_in}
use Rattle.line_tokens.proofs.Numbers.{one_more, none_more}
use Rattle.line_tokens.specs.Words.{is_other}

module _ (end : ℕ) where
  abbrev p : ℕ → Bool
  p = is_other end

  front_end : (b : ℕ) (text : List ℕ) → (b == end) ≡ true → prefix_len p (b ∷ text) ≡ 0
  front_end b text e = none_more p b text (ap not e)

  front_more : (b : ℕ) (text : List ℕ) → (b == end) ≡ false → prefix_len p (b ∷ text) ≡ suc (prefix_len p text)
  front_more b text e = one_more p b text (ap not e)

-- the lines of a text with so many bytes before its first line feed
abbrev pub lines_at : List ℕ → ℕ → List (List ℕ)
lines_at text n = take n text ∷ split_lines (drop (n + 1) text)

line_ends : (b : ℕ) (text : List ℕ) → (b == 10) ≡ true → split_lines (b ∷ text) ≡ lines_at (b ∷ text) 0
line_ends b text e = rw e

line_more : (b n : ℕ) (text : List ℕ) → (b == 10) ≡ false → split_lines text ≡ lines_at text n → split_lines (b ∷ text) ≡ lines_at (b ∷ text) (suc n)
line_more b n text e h =
    let same : suc (n + 1) ≡ suc n + 1 = omega arith in
    one ∙ ap (in_front b) h ∙ ap (λ k. (b ∷ take n text) ∷ split_lines (drop k (b ∷ text))) same
  where
    one : split_lines (b ∷ text) ≡ in_front b (split_lines text)
    one = rw e

line_last : (b : ℕ) → (b == 10) ≡ false → split_lines (b ∷ []) ≡ lines_at (b ∷ []) 1
line_last b e = rw e

-- the first line, and the lines behind its line feed
pub line_first : (text : List ℕ) → 0 < length text → split_lines text ≡ lines_at text (prefix_len (is_other 10) text)
line_first [] some = absurd (omega arith)
line_first (b ∷ []) some = by_test (b == 10) refl
  where
    by_test : (x : Bool) → (b == 10) ≡ x → split_lines (b ∷ []) ≡ lines_at (b ∷ []) (prefix_len (is_other 10) (b ∷ []))
    by_test true e = line_ends b [] e ∙ ap (lines_at (b ∷ [])) (sym (front_end 10 b [] e))
    by_test false e = line_last b e ∙ ap (lines_at (b ∷ [])) (sym (front_more 10 b [] e))
line_first (b ∷ c ∷ text) some = by_test (b == 10) refl (line_first (c ∷ text) (omega arith))
  where
    by_test : (x : Bool) → (b == 10) ≡ x → split_lines (c ∷ text) ≡ lines_at (c ∷ text) (prefix_len (is_other 10) (c ∷ text)) →
        split_lines (b ∷ c ∷ text) ≡ lines_at (b ∷ c ∷ text) (prefix_len (is_other 10) (b ∷ c ∷ text))
    by_test true e rest = line_ends b (c ∷ text) e ∙ ap (lines_at (b ∷ c ∷ text)) (sym (front_end 10 b (c ∷ text) e))
    by_test false e rest =
        line_more b (prefix_len (is_other 10) (c ∷ text)) (c ∷ text) e rest ∙ ap (lines_at (b ∷ c ∷ text)) (sym (front_more 10 b (c ∷ text) e))

-- what the code leaves behind the first line
pub left_behind : (text : List ℕ) (count end : ℕ) → end ≡ min (length text) (count + 1) → take (length text - end) (drop end text) ≡ drop (count + 1) text
left_behind text count end e =
    take_all (length text - end) (drop end text) (omega (arith, length-drop end text)) ∙ ap (λ k. drop k text) (e ∙ sym flipped) ∙ drop_min (count + 1) text
  where
    flipped : min (count + 1) (length text) ≡ min (length text) (count + 1)
    flipped = omega arith

-- the words of a line with so many bytes before its first blank
abbrev pub words_at : List ℕ → ℕ → List (List ℕ)
words_at line n = take n line ∷ words_in (drop (n + 1) line)

word_ends : (b : ℕ) (line : List ℕ) → (b == 32) ≡ true → words_in (b ∷ line) ≡ words_at (b ∷ line) 0
word_ends b line e = rw e

word_goes_on : (b : ℕ) (line : List ℕ) → (b == 32) ≡ false → words_in (b ∷ line) ≡ in_front b (words_in line)
word_goes_on b line e = rw e

-- the first word, and the words behind its blank
pub word_first : (line : List ℕ) → prefix_len (is_other 32) line < length line → words_in line ≡ words_at line (prefix_len (is_other 32) line)
word_first [] some = absurd (omega arith)
word_first (b ∷ line) some = by_test (b == 32) refl (λ h. word_first line h)
  where
    n : ℕ
    n = prefix_len (is_other 32) line

    by_test : (x : Bool) → (b == 32) ≡ x → (prefix_len (is_other 32) line < length line → words_in line ≡ words_at line (prefix_len (is_other 32) line)) →
        words_in (b ∷ line) ≡ words_at (b ∷ line) (prefix_len (is_other 32) (b ∷ line))
    by_test true e rest = word_ends b line e ∙ ap (words_at (b ∷ line)) (sym (front_end 32 b line e))
    by_test false e rest =
        let below : prefix_len (is_other 32) line < length line = omega (arith, some, front_more 32 b line e) in
        let same : suc (prefix_len (is_other 32) line + 1) ≡ suc (prefix_len (is_other 32) line) + 1 = omega arith in
        word_goes_on b line e ∙ ap (in_front b) (rest below)
        ∙ ap (λ k. (b ∷ take (prefix_len (is_other 32) line) line) ∷ words_in (drop k (b ∷ line))) same
        ∙ ap (words_at (b ∷ line)) (sym (front_more 32 b line e))

-- the last word
pub word_last : (line : List ℕ) → prefix_len (is_other 32) line ≡ length line → words_in line ≡ line ∷ []
word_last [] all = refl
word_last (b ∷ line) all = by_test (b == 32) refl (λ h. word_last line h)
  where
    by_test : (x : Bool) → (b == 32) ≡ x → (prefix_len (is_other 32) line ≡ length line → words_in line ≡ line ∷ []) → words_in (b ∷ line) ≡ (b ∷ line) ∷ []
    by_test true e rest = absurd (omega (arith, all, front_end 32 b line e))
    by_test false e rest =
        let same : prefix_len (is_other 32) line ≡ length line = omega (arith, all, front_more 32 b line e) in
        word_goes_on b line e ∙ ap (in_front b) (rest same)

-- the words of what is left of a line
abbrev pub words_left : Option (Bor (List ℕ)) → List (List ℕ)
words_left None = []
words_left (Some line) = words_in line.now

-- how much is left of a line
abbrev pub size_left : Option (Bor (List ℕ)) → ℕ
size_left None = 0
size_left (Some line) = suc (length line.now)
