-- Where a text is cut: its first line, and the first word of a line.
use Rattle.std.proofs.Common.{◌≡◌, ℕ, zero, suc, ◌<◌, ◌≤◌, ◌+◌, ◌-◌, Bool, true, false, not, List, [], ◌∷◌, ◌++◌, refl, arith, sym, ap, ◌∙◌, length, take, drop, drop-cons, length-drop, get_or, add-one, append_assoc, take-append-drop}
use Rattle.std.specs.Prelude.{◌==◌, filter}
use Rattle.std.specs.List.{list_all}
use Rattle.std.proofs.lemmas.List.{take_all, drop_all, drop-drop}
use Rattle.std.proofs.lemmas.Bool.{and_parts, both_ways}
use Rattle.word_spec.specs.Texts.{is_blank, split_lines, in_front, line}
use Rattle.clause_spec.specs.CertificateGrammar.{parts, is_word, words_of}
use Rattle.clause_spec.proofs.PrintedWords.{in_line, split_line, parts_cut, parts_last}

-- what the code writes for all that stands behind a place
pub behind : (xs : List ℕ) (n : ℕ) → take (length xs - n) (drop n xs) ≡ drop n xs
behind xs n = take_all (length xs - n) (drop n xs) (omega (arith, length-drop n xs))

-- a length of what stands behind a place names the place
pub behind-by-length : (xs : List ℕ) (n : ℕ) → n ≤ length xs →
    take (length xs - n) (drop n xs) ≡ drop (length xs - length (take (length xs - n) (drop n xs))) xs
behind-by-length xs n le =
    let e : length (take (length xs - n) (drop n xs)) ≡ length xs - n = ap (λ (ys : List ℕ). length ys) (behind xs n) ∙ length-drop n xs in
    let q : n ≡ length xs - length (take (length xs - n) (drop n xs)) = omega arith in
    behind xs n ∙ ap (λ k. drop k xs) q

-- what stands behind a place of what stands behind a place
pub behind-twice : (xs ys zs : List ℕ) → ys ≡ drop (length xs - length ys) xs → zs ≡ drop (length ys - length zs) ys → length zs ≤ length ys →
    length ys ≤ length xs →
    zs ≡ drop (length xs - length zs) xs
behind-twice xs ys zs e f h g =
    let q : (length xs - length ys) + (length ys - length zs) ≡ length xs - length zs = omega arith in
    f ∙ ap (drop (length ys - length zs)) e ∙ drop-drop (length ys - length zs) (length xs - length ys) xs ∙ ap (λ k. drop k xs) q

-- one more line
pub line-dropped : (rest behind line : List ℕ) (text : List ℕ) (n : ℕ) → split_lines rest ≡ drop n (split_lines text) →
    split_lines rest ≡ line ∷ split_lines behind →
    split_lines behind ≡ drop (n + 1) (split_lines text)
line-dropped rest more line text n e f = ap (drop 1) (sym f ∙ e) ∙ drop-drop 1 n (split_lines text)

-- no more lines
pub no-line-dropped : (rest text : List ℕ) (n m : ℕ) → split_lines rest ≡ drop n (split_lines text) → split_lines rest ≡ [] → n ≤ m →
    split_lines rest ≡ drop m (split_lines text)
no-line-dropped rest text n m e f le =
    let q : n + (m - n) ≡ m = omega arith in
    f ∙ sym (drop_all (m - n) [] (omega arith)) ∙ ap (drop (m - n)) (sym f ∙ e) ∙ drop-drop (m - n) n (split_lines text) ∙ ap (λ k. drop k (split_lines text)) q

around : (xs : List ℕ) (i : ℕ) → i < length xs → xs ≡ take i xs ++ get_or xs i 0 ∷ drop (i + 1) xs
around xs i lt =
    let d : drop i xs ≡ get_or xs i 0 ∷ drop (i + 1) xs = rw (add-one, drop-cons xs i 0) refl in
    sym (take-append-drop i xs) ∙ ap (λ (ys : List ℕ). take i xs ++ ys) d

-- a line feed ends a line
pub line-cut : (xs : List ℕ) (i : ℕ) → i < length xs → get_or xs i 0 ≡ 10 → list_all in_line (take i xs) ≡ true →
    split_lines xs ≡ take i xs ∷ split_lines (take (length xs - (i + 1)) (drop (i + 1) xs))
line-cut xs i lt e h =
    let a : xs ≡ line (take i xs) ++ drop (i + 1) xs =
    around xs i lt ∙ ap (λ n. take i xs ++ n ∷ drop (i + 1) xs) e ∙ sym (append_assoc (take i xs) (10 ∷ []) (drop (i + 1) xs)) in
    ap split_lines a ∙ split_line (take i xs) (drop (i + 1) xs) h ∙ ap (λ (ys : List ℕ). take i xs ∷ split_lines ys) (sym (behind xs (i + 1)))

one-line : (b : ℕ) (xs : List ℕ) → list_all in_line (b ∷ xs) ≡ true → split_lines (b ∷ xs) ≡ (b ∷ xs) ∷ []
one-line b [] h = let g = and_parts (in_line b) true h in let n : (b == 10) ≡ false = grind (arith, g.0) in rw n refl
one-line b (x ∷ xs) h =
    let g = and_parts (in_line b) (list_all in_line (x ∷ xs)) h in
    let n : (b == 10) ≡ false = grind (arith, g.0) in
    rw n (ap (in_front b) (one-line x xs g.1))

nothing-behind : (xs : List ℕ) → take (length xs - length xs) (drop (length xs) xs) ≡ []
nothing-behind xs = behind xs (length xs) ∙ drop_all (length xs) xs (omega arith)

all-of : (P : ℕ → Bool) (xs : List ℕ) (i : ℕ) → length xs ≤ i → list_all P (take i xs) ≡ true → list_all P xs ≡ true
all-of P xs i le h = ap (list_all P) (sym (take_all i xs le)) ∙ h

-- the last line may lack its line feed
pub line-last : (xs : List ℕ) (i : ℕ) → length xs ≤ i → (length xs == 0) ≡ false → list_all in_line (take i xs) ≡ true →
    split_lines xs ≡ xs ∷ split_lines (take (length xs - length xs) (drop (length xs) xs))
line-last [] i le n h = cc
line-last (b ∷ xs) i le n h =
    one-line b xs (all-of in_line (b ∷ xs) i le h) ∙ ap (λ (ys : List ℕ). (b ∷ xs) ∷ split_lines ys) (sym (nothing-behind (b ∷ xs)))

taken-word : (xs : List ℕ) (i : ℕ) → 0 < i → 0 < length xs → is_word (take i xs) ≡ true
taken-word [] i lt le = absurd (omega arith)
taken-word (b ∷ xs) zero lt le = absurd (omega arith)
taken-word (b ∷ xs) (suc i) lt le = refl

keep : (w : List ℕ) (ws : List (List ℕ)) → is_word w ≡ true → filter is_word (w ∷ ws) ≡ w ∷ filter is_word ws
keep w ws h = rw h refl

-- a blank ends a word
pub word-cut : (xs : List ℕ) (i : ℕ) → i < length xs → is_blank (get_or xs i 0) ≡ true → is_blank (get_or xs 0 0) ≡ false →
    list_all (λ b. not (is_blank b)) (take i xs) ≡ true →
    words_of xs ≡ take i xs ∷ words_of (take (length xs - i) (drop i xs))
word-cut xs zero lt e s h = absurd (both_ways (is_blank (get_or xs 0 0)) s e)
word-cut xs (suc k) lt e s h =
    let i = suc k in
    let d : drop i xs ≡ get_or xs i 0 ∷ drop (i + 1) xs = rw (add-one, drop-cons xs i 0) refl in
    let rest : words_of (drop i xs) ≡ filter is_word (parts is_blank (drop (i + 1) xs)) = ap words_of d ∙ skip (get_or xs i 0) (drop (i + 1) xs) e in
    ap words_of (around xs i lt) ∙ ap (filter is_word) (parts_cut is_blank (take i xs) (get_or xs i 0) (drop (i + 1) xs) h e)
    ∙ keep (take i xs) (parts is_blank (drop (i + 1) xs)) (taken-word xs i (omega arith) (omega arith))
    ∙ ap (λ (ws : List (List ℕ)). take i xs ∷ ws) (sym rest) ∙ ap (λ (ys : List ℕ). take i xs ∷ words_of ys) (sym (behind xs i)) where
      skip : (b : ℕ) (ys : List ℕ) → is_blank b ≡ true → words_of (b ∷ ys) ≡ filter is_word (parts is_blank ys)
      skip b ys f = rw f refl

-- a word that ends the line
pub word-last : (xs : List ℕ) (i : ℕ) → length xs ≤ i → (length xs == 0) ≡ false → list_all (λ b. not (is_blank b)) (take i xs) ≡ true →
    words_of xs ≡ xs ∷ words_of (take (length xs - length xs) (drop (length xs) xs))
word-last [] i le n h = cc
word-last (b ∷ xs) i le n h =
    ap (filter is_word) (parts_last is_blank b xs (all-of (λ c. not (is_blank c)) (b ∷ xs) i le h))
    ∙ ap (λ (ys : List ℕ). (b ∷ xs) ∷ words_of ys) (sym (nothing-behind (b ∷ xs)))
