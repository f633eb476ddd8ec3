-- The first line of a text, by the place of its LF.
use Rattle.std.proofs.Common.{◌≡◌, ◌≢◌, ℕ, zero, suc, ◌<◌, ◌≤◌, ◌+◌, ◌-◌, refl, ap, sym, ◌∙◌, arith, List, [], ◌∷◌, Bool, true, false, ◌&&◌, if◌then◌else◌, ◌==◌, length, get_or, take, drop, add-one, length-drop, zero-add, suc-add}
use Rattle.notes_spec.specs.NotesGrammar.{lines_of, onto_first, begins_with}
use Rattle.notes_spec.proofs.NotesTables.{is_false}
use Rattle.notes_lang.specs.Lines.{stripped}

is_byte : (b c : ℕ) → b ≡ c → (b == c) ≡ true
is_byte b c e = grind arith

other_byte : (b c : ℕ) → b ≢ c → (b == c) ≡ false
other_byte b c e = is_false (b == c) (λ h. e (grind arith))

-- the last byte of a line
strips_at : (l : List ℕ) (k : ℕ) → suc k ≡ length l → get_or l k 0 ≡ 13 → take k l ≡ stripped l
strips_at [] k last is = absurd (omega (arith, last))
strips_at (b ∷ []) zero last is = sym (ap (λ t. if t then [] else b ∷ []) (is_byte b 13 is))
strips_at (b ∷ []) (suc k) last is = absurd (omega (arith, last))
strips_at (b ∷ c ∷ l) zero last is = absurd (omega (arith, last))
strips_at (b ∷ c ∷ l) (suc k) last is = ap (λ r. b ∷ r) (strips_at (c ∷ l) k (omega (arith, last)) is)

pub strips : (l : List ℕ) → 0 < length l → get_or l (length l - 1) 0 ≡ 13 → take (length l - 1) l ≡ stripped l
strips l some is = strips_at l (length l - 1) (omega (arith, some)) is

keeps_at : (l : List ℕ) (k : ℕ) → suc k ≡ length l → get_or l k 0 ≢ 13 → l ≡ stripped l
keeps_at [] k last other = absurd (omega (arith, last))
keeps_at (b ∷ []) zero last other = sym (ap (λ t. if t then [] else b ∷ []) (other_byte b 13 other))
keeps_at (b ∷ []) (suc k) last other = absurd (omega (arith, last))
keeps_at (b ∷ c ∷ l) zero last other = absurd (omega (arith, last))
keeps_at (b ∷ c ∷ l) (suc k) last other = ap (λ r. b ∷ r) (keeps_at (c ∷ l) k (omega (arith, last)) other)

pub keeps : (l : List ℕ) → 0 < length l → get_or l (length l - 1) 0 ≢ 13 → l ≡ stripped l
keeps l some other = keeps_at l (length l - 1) (omega (arith, some)) other

pub keeps_empty : (l : List ℕ) → length l ≡ 0 → l ≡ stripped l
keeps_empty [] none = refl
keeps_empty (b ∷ l) none = absurd (omega (arith, none))

-- a byte that goes onto the line behind it
neither : (t : Bool) (y z : List (List ℕ)) → (if t && false then y else z) ≡ z
neither true y z = refl
neither false y z = refl

onto : (b : ℕ) (rest : List ℕ) → b ≢ 10 → begins_with 10 rest ≡ false → lines_of (b ∷ rest) ≡ onto_first b (lines_of rest)
onto b rest other no_feed =
    ap (λ s. if s then [] ∷ lines_of rest else if (b == 13) && begins_with 10 rest then lines_of rest else onto_first b (lines_of rest)) (other_byte b 10 other)
    ∙ (ap (λ u. if (b == 13) && u then lines_of rest else onto_first b (lines_of rest)) no_feed ∙ neither (b == 13) (lines_of rest)
    (onto_first b (lines_of rest)))

-- a byte before LF
before_feed : (t : Bool) (b : ℕ) (ls : List (List ℕ)) → (if t && true then [] ∷ ls else (b ∷ []) ∷ ls) ≡ (if t then [] else b ∷ []) ∷ ls
before_feed true b ls = refl
before_feed false b ls = refl

-- a text without LF is one line
pub last_line : (text : List ℕ) → 0 < length text → ((k : ℕ) → k < length text → get_or text k 0 ≢ 10) → lines_of text ≡ text ∷ []
last_line [] some none = absurd (omega (arith, some))
last_line (b ∷ []) some none = onto b [] (none 0 (omega arith)) refl
last_line (b ∷ c ∷ rest) some none =
    onto b (c ∷ rest) (none 0 (omega arith)) (other_byte 10 c (λ e. none 1 (omega arith) (sym e)))
    ∙ ap (onto_first b) (last_line (c ∷ rest) (omega arith) (λ k below. none (suc k) (omega (arith, below))))

first_at : (b : ℕ) (rest : List ℕ) → b ≡ 10 → lines_of (b ∷ rest) ≡ [] ∷ lines_of rest
first_at b rest is = ap (λ s. if s then [] ∷ lines_of rest else if (b == 13) &&
    begins_with 10 rest then lines_of rest else onto_first b (lines_of rest)) (is_byte b 10 is)

-- a line up to its LF
by_place : (text : List ℕ) (k : ℕ) → k < length text → ((j : ℕ) → j < k → get_or text j 0 ≢ 10) → get_or text k 0 ≡ 10 →
    lines_of text ≡ stripped (take k text) ∷ lines_of (drop (suc k) text)
by_place [] k below none is = absurd (omega (arith, below))
by_place (b ∷ rest) zero below none is = first_at b rest is
by_place (b ∷ []) (suc k) below none is = absurd (omega (arith, below))
by_place (b ∷ c ∷ rest) (suc zero) below none is =
    ap (λ s. if s then [] ∷ lines_of (c ∷ rest) else if (b == 13) &&
    begins_with 10 (c ∷ rest) then lines_of (c ∷ rest) else onto_first b (lines_of (c ∷ rest))) (other_byte b 10 (none 0 (omega arith)))
    ∙ (ap (λ u. if (b == 13) && u then lines_of (c ∷ rest) else onto_first b (lines_of (c ∷ rest))) (is_byte 10 c (sym is))
    ∙ (ap (λ ls. if (b == 13) && true then ls else onto_first b ls) (first_at c rest is) ∙ before_feed (b == 13) b (lines_of rest)))
by_place (b ∷ c ∷ rest) (suc (suc k)) below none is =
    onto b (c ∷ rest) (none 0 (omega arith)) (other_byte 10 c (λ e. none 1 (omega arith) (sym e)))
    ∙ ap (onto_first b) (by_place (c ∷ rest) (suc k) (omega (arith, below)) (λ j less. none (suc j) (omega (arith, less))) is)

pub line_at : (text : List ℕ) (k : ℕ) → k < length text → ((j : ℕ) → j < k → get_or text j 0 ≢ 10) → get_or text k 0 ≡ 10 →
    lines_of text ≡ stripped (take k text) ∷ lines_of (drop (k + 1) text)
line_at text k below none is = by_place text k below none is ∙ ap (λ j. stripped (take k text) ∷ lines_of (drop j text)) (sym (add-one k))

take_all : (l : List ℕ) (n : ℕ) → length l ≤ n → take n l ≡ l
take_all [] zero le = refl
take_all [] (suc n) le = refl
take_all (b ∷ l) zero le = absurd (omega (arith, le))
take_all (b ∷ l) (suc n) le = ap (λ r. b ∷ r) (take_all l n (omega (arith, le)))

pub split_at : (text : List ℕ) (k : ℕ) (line : List ℕ) → k ≤ length text → (k ≡ length text → ⊥) → ((j : ℕ) → j < k → get_or text j 0 ≢ 10) →
    (k < length text → get_or text k 0 ≡ 10) → line ≡ stripped (take k text) →
    lines_of text ≡ line ∷ lines_of (take (length text - (k + 1)) (drop (k + 1) text))
split_at text k line within other none found is =
    let below : k < length text = omega (arith, within, other) in
    let n : length (drop (k + 1) text) ≡ length text - (k + 1) = length-drop (k + 1) text in
    line_at text k below none (found below) ∙ (ap (λ l. l ∷ lines_of (drop (k + 1) text)) (sym is)
    ∙ ap (λ r. line ∷ lines_of r) (sym (take_all (drop (k + 1) text) (length text - (k + 1)) (omega (arith, n)))))

-- what is behind a place
pub rest_is : (text : List ℕ) (k : ℕ) → take (length text - k) (drop k text) ≡ drop k text
rest_is text k = let n : length (drop k text) ≡ length text - k = length-drop k text in take_all (drop k text) (length text - k) (omega (arith, n))

pub suffix_at : (text : List ℕ) (k : ℕ) → k ≤ length text → take (length text - k) (drop k text)
    ≡ drop (length text - length (take (length text - k) (drop k text))) text
suffix_at text k le =
    let n : length (drop k text) ≡ length text - k = length-drop k text in
    let m : length (take (length text - k) (drop k text)) ≡ length text - k = ap length (rest_is text k) ∙ n in
    rest_is text k ∙ ap (λ j. drop j text) (let e : k ≡ length text - length (take (length text - k) (drop k text)) = omega (arith, m, le) in e)

drop_drop : (l : List ℕ) (i j : ℕ) → drop i (drop j l) ≡ drop (j + i) l
drop_drop l i zero = ap (λ k. drop k l) (sym (zero-add i))
drop_drop [] zero (suc j) = ap (λ k. drop k []) (let e : suc (j + 0) ≡ suc j + 0 = omega arith in e)
drop_drop [] (suc i) (suc j) = ap (λ k. drop k []) (let e : suc (j + suc i) ≡ suc j + suc i = omega arith in e)
drop_drop (b ∷ l) i (suc j) = drop_drop l i j ∙ ap (λ k. drop k (b ∷ l)) (sym (suc-add j i))

pub left_of_text : (text rest behind : List ℕ) (k : ℕ) → rest ≡ drop k text → k ≤ length text → length behind < length rest →
    behind ≡ drop (length rest - length behind) rest →
    drop (length text - length behind) text ≡ behind
left_of_text text rest behind k is le shorter suffix =
    let n : length rest ≡ length text - k = ap length is ∙ length-drop k text in
    ap (λ j. drop j text) (let e : length text - length behind ≡ k + (length rest - length behind) = omega (arith, n, le, shorter) in e)
    ∙ (sym (drop_drop text (length rest - length behind) k) ∙ (ap (drop (length rest - length behind)) (sym is) ∙ sym suffix))
