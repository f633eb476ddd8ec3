-- A line reads the same with its numbers capped.
use Rattle.std.proofs.Common.{◌≡◌, ℕ, ◌+◌, ◌^◌, Bool, true, false, not, ◌&&◌, List, [], ◌∷◌, Option, Some, None, refl, arith, sym, ap, ◌∙◌, map, inl, inr, option_map}
use Rattle.std.specs.Prelude.{min, nat_le, nat_lt, codes}
use Rattle.std.specs.List.{list_all}
use Rattle.std.specs.Str.{bytes_eq}
use Rattle.std.proofs.lemmas.Bool.{and_parts, and_from, cases_Bool}
use Rattle.std.proofs.lemmas.Bool.Decides.{nat_tests}
use Rattle.clause_spec.specs.Clauses.{Literal}
use Rattle.clause_spec.specs.Refutation.{LogLine, Bad, is_of_grammar, is_listed, greatest_number, hint_size}
use Rattle.clause_spec.specs.CertificateGrammar.{Integer, parts, before_first, is_zero, is_ended, some_below, added_by, deleted_by, literal_of, hint_by, hint_of, words_of, integer_of, numbers_of, clauses_line, line_by_number, line_by_id, line_behind_id, line_of_numbers, proof_line}
use Rattle.cnf_form.specs.Numbers.{capped}
use Rattle.refutation_checker.specs.Readings.{read_as}

abbrev small : Integer → Bool
small n = nat_le n.size greatest_number

abbrev integer : Bool → ℕ → Integer
integer b s = record { negative = b; size = s }

same-size : (n : Integer) → small (capped n) ≡ true → capped n ≡ n
same-size n h = let e : min n.size (2 ^ 62 + 1) ≡ n.size = grind (arith, nat_tests, h) in ap (λ s. integer n.negative s) e

same-all : (ns : List Integer) → list_all small (map capped ns) ≡ true → map capped ns ≡ ns
same-all [] h = refl
same-all (n ∷ ns) h =
    let g = and_parts (small (capped n)) (list_all small (map capped ns)) h in
    ap (λ m. m ∷ map capped ns) (same-size n g.0) ∙ ap (λ (ms : List Integer). n ∷ ms) (same-all ns g.1)

small-still : (ns : List Integer) → list_all small ns ≡ true → list_all small (map capped ns) ≡ true
small-still [] h = refl
small-still (n ∷ ns) h =
    let g = and_parts (small n) (list_all small ns) h in
    and_from (small (capped n)) (list_all small (map capped ns)) (grind (arith, nat_tests, g.0)) (small-still ns g.1)

bad-of : (l : LogLine) → is_of_grammar l ≡ false → read_as l ≡ Bad
bad-of l h = rw h refl

module _ (F : ℕ → List Integer → LogLine) (lawful : (i : ℕ) (ns : List Integer) → is_of_grammar (F i ns) ≡ true → (nat_le i greatest_number ≡ true) ×
    (list_all small ns ≡ true)) where
  same : (i : ℕ) (ns : List Integer) → min i (2 ^ 62 + 1) ≡ i → map capped ns ≡ ns → read_as (F (min i (2 ^ 62 + 1)) (map capped ns)) ≡ read_as (F i ns)
  same i ns e f = ap (λ j. read_as (F j (map capped ns))) e ∙ ap (λ (ms : List Integer). read_as (F i ms)) f

  pub cap : (i : ℕ) (ns : List Integer) → read_as (F (min i (2 ^ 62 + 1)) (map capped ns)) ≡ read_as (F i ns)
  cap i ns = elim (cases_Bool (is_of_grammar (F i ns))) [
    | inl a ↦ let g = lawful i ns a in same i ns (low i g.0) (same-all ns (small-still ns g.1))
    | inr a ↦ elim (cases_Bool (is_of_grammar (F (min i (2 ^ 62 + 1)) (map capped ns)))) [
      | inl b ↦ let g = lawful (min i (2 ^ 62 + 1)) (map capped ns) b in same i ns (low-capped i g.0) (same-all ns g.1)
      | inr b ↦ bad-of (F (min i (2 ^ 62 + 1)) (map capped ns)) b ∙ sym (bad-of (F i ns) a)
    ]
  ] where
    low : (j : ℕ) → nat_le j greatest_number ≡ true → min j (2 ^ 62 + 1) ≡ j
    low j h = grind (arith, nat_tests, h)

    low-capped : (j : ℕ) → nat_le (min j (2 ^ 62 + 1)) greatest_number ≡ true → min j (2 ^ 62 + 1) ≡ j
    low-capped j h = grind (arith, nat_tests, h)

small-literals : (ns : List Integer) → list_all (λ (l : Literal). is_listed l.variable) (map literal_of ns) ≡ true → list_all small ns ≡ true
small-literals [] h = refl
small-literals (n ∷ ns) h =
    let g = and_parts (is_listed n.size) (list_all (λ (l : Literal). is_listed l.variable) (map literal_of ns)) h in
    and_from (small n) (list_all small ns) (listed-small n.size g.0) (small-literals ns g.1) where
      listed-small : (s : ℕ) → is_listed s ≡ true → nat_le s greatest_number ≡ true
      listed-small s k = (and_parts (nat_lt 0 s) (nat_le s greatest_number) k).1

small-hints : (ns : List Integer) → list_all (λ h. is_listed (hint_size h)) (map hint_of ns) ≡ true → list_all small ns ≡ true
small-hints [] h = refl
small-hints (n ∷ ns) h =
    let g = and_parts (is_listed (hint_size (hint_of n))) (list_all (λ k. is_listed (hint_size k)) (map hint_of ns)) h in
    and_from (small n) (list_all small ns) (sized n.negative n.size g.0) (small-hints ns g.1) where
      sized : (b : Bool) (s : ℕ) → is_listed (hint_size (hint_by b s)) ≡ true → nat_le s greatest_number ≡ true
      sized true s k = (and_parts (nat_lt 0 s) (nat_le s greatest_number) k).1
      sized false s k = (and_parts (nat_lt 0 s) (nat_le s greatest_number) k).1

small-ids : (ns : List Integer) → list_all is_listed (map (λ (n : Integer). n.size) ns) ≡ true → list_all small ns ≡ true
small-ids [] h = refl
small-ids (n ∷ ns) h =
    let g = and_parts (is_listed n.size) (list_all is_listed (map (λ (m : Integer). m.size) ns)) h in
    and_from (small n) (list_all small ns) (and_parts (nat_lt 0 n.size) (small n) g.0).1 (small-ids ns g.1)

two-of : (a b : List Integer) → list_all small a ≡ true → list_all small b ≡ true → list_all (list_all small) (a ∷ b ∷ []) ≡ true
two-of a b h k = rw (h, k) refl

lawful-added : (id : ℕ) (e : Bool) (ps : List (List Integer)) → is_of_grammar (added_by id e ps) ≡ true → (nat_le id greatest_number ≡ true) ×
    (list_all (list_all small) ps ≡ true)
lawful-added id false ps h = cc
lawful-added id true [] h = cc
lawful-added id true (a ∷ []) h = cc
lawful-added id true (a ∷ b ∷ []) h =
    let g = and_parts (nat_le id greatest_number && list_all (λ (l : Literal). is_listed l.variable) (map literal_of a)) (list_all
    (λ k. is_listed (hint_size k)) (map hint_of b)) h in
    let f = and_parts (nat_le id greatest_number) (list_all (λ (l : Literal). is_listed l.variable) (map literal_of a)) g.0 in
    (f.0, two-of a b (small-literals a f.1) (small-hints b g.1))
lawful-added id true (a ∷ b ∷ c ∷ ps) h = cc

lawful-deleted : (id : ℕ) (e : Bool) (ps : List (List Integer)) → is_of_grammar (deleted_by id e ps) ≡ true → (nat_le id greatest_number ≡ true) ×
    (list_all (list_all small) ps ≡ true)
lawful-deleted id false ps h = cc
lawful-deleted id true [] h = cc
lawful-deleted id true (a ∷ []) h =
    let g = and_parts (nat_le id greatest_number) (list_all is_listed (map (λ (n : Integer). n.size) a)) h in
    (g.0, rw (small-ids a g.1) refl)
lawful-deleted id true (a ∷ b ∷ ps) h = cc

parts-small : (ns : List Integer) → list_all (list_all small) (parts is_zero ns) ≡ true → list_all small ns ≡ true
parts-small [] h = refl
parts-small (n ∷ ns) h = elim (cases_Bool (is_zero n)) [
  | inl a ↦ and_from (small n) (list_all small ns) (zero-small n a) (parts-small ns (rw a at h))
  | inr a ↦ let g = first (parts is_zero ns) (rw a at h) in and_from (small n) (list_all small ns) g.0 (parts-small ns g.1)
] where
  zero-small : (m : Integer) → is_zero m ≡ true → small m ≡ true
  zero-small m k = grind (arith, nat_tests, k)

  first : (ps : List (List Integer)) → list_all (list_all small) (before_first n ps) ≡ true → (small n ≡ true) × (list_all (list_all small) ps ≡ true)
  first [] k = ((and_parts (small n) true (and_parts (small n && true) true k).0).0, refl)
  first (p ∷ ps) k =
      let g = and_parts (small n && list_all small p) (list_all (list_all small) ps) k in
      let f = and_parts (small n) (list_all small p) g.0 in
      (f.0, and_from (list_all small p) (list_all (list_all small) ps) f.1 g.1)

pub cap-added : (i : ℕ) (ns : List Integer) →
    read_as (added_by (min i (2 ^ 62 + 1)) (is_ended (map capped ns)) (parts is_zero (map capped ns))) ≡ read_as (added_by i (is_ended ns) (parts is_zero ns))
cap-added = cap (λ i ns. added_by i (is_ended ns) (parts is_zero ns))
    (λ i ns h. let g = lawful-added i (is_ended ns) (parts is_zero ns) h in (g.0, parts-small ns g.1))

pub cap-deleted : (i : ℕ) (ns : List Integer) →
    read_as (deleted_by (min i (2 ^ 62 + 1)) (is_ended (map capped ns) && not (some_below (map capped ns))) (parts is_zero (map capped ns)))
    ≡ read_as (deleted_by i (is_ended ns && not (some_below ns)) (parts is_zero ns))
cap-deleted = cap (λ i ns. deleted_by i (is_ended ns && not (some_below ns)) (parts is_zero ns)) (λ i ns h. let g = lawful-deleted i (is_ended ns &&
    not (some_below ns)) (parts is_zero ns) h in (g.0, parts-small ns g.1))

some-of : (o : Option Integer) (n : Integer) → Some n ≡ option_map capped o → (m : Integer) × (o ≡ Some m) × (n ≡ capped m)
some-of None n h = cc
some-of (Some m) n h = (m, refl, cc)

all-of : (o : Option (List Integer)) (xs : List Integer) → Some xs ≡ option_map (map capped) o → (ns : List Integer) × (o ≡ Some ns) × (xs ≡ map capped ns)
all-of None xs h = cc
all-of (Some ns) xs h = (ns, refl, cc)

none-of : (o : Option (List Integer)) → None ≡ option_map (map capped) o → o ≡ None
none-of None h = refl
none-of (Some ns) h = cc

-- a line behind its id and its first word
module _ (text word rest second behind : List ℕ) (id : Integer) (w : words_of text ≡ word ∷ words_of rest) (v : words_of rest ≡ second ∷ words_of behind)
    (e : Some id ≡ option_map capped (integer_of word)) (n : id.negative ≡ false) where
  by-id : (m : Integer) → integer_of word ≡ Some m → id ≡ capped m → clauses_line (words_of text) ≡ line_behind_id m.size (words_of rest)
  by-id m f g =
      let neg : m.negative ≡ false = sym (ap (λ (x : Integer). x.negative) g) ∙ n in
      ap clauses_line w ∙ ap (λ (o : Option Integer). line_by_number o (words_of rest)) f ∙ ap (λ b. line_by_id b m.size (words_of rest)) neg

  pub read-deletion : bytes_eq second (codes "d") ≡ true → (xs : List Integer) → Some xs ≡ option_map (map capped) (numbers_of (words_of behind)) →
      read_as (deleted_by id.size (is_ended xs && not (some_below xs)) (parts is_zero xs)) ≡ proof_line text
  read-deletion d xs h =
      let m = some-of (integer_of word) id e in
      let ns = all-of (numbers_of (words_of behind)) xs h in
      let l : line_behind_id m.0.size (words_of rest) ≡ deleted_by m.0.size (is_ended ns.0 && not (some_below ns.0)) (parts is_zero ns.0) =
      ap (line_behind_id m.0.size) v ∙ rw d (ap (line_of_numbers true m.0.size) ns.1) in
      ap (λ (x : Integer). read_as (deleted_by x.size (is_ended xs && not (some_below xs)) (parts is_zero xs))) m.2
      ∙ ap (λ (ys : List Integer). read_as (deleted_by (min m.0.size (2 ^ 62 + 1)) (is_ended ys && not (some_below ys)) (parts is_zero ys))) ns.2
      ∙ cap-deleted m.0.size ns.0 ∙ sym (ap read_as (by-id m.0 m.1 m.2 ∙ l))

  pub read-addition : bytes_eq second (codes "d") ≡ false → (xs : List Integer) → Some xs ≡ option_map (map capped) (numbers_of (words_of rest)) →
      read_as (added_by id.size (is_ended xs) (parts is_zero xs)) ≡ proof_line text
  read-addition d xs h =
      let m = some-of (integer_of word) id e in
      let ns = all-of (numbers_of (words_of rest)) xs h in
      let l : line_behind_id m.0.size (words_of rest) ≡ added_by m.0.size (is_ended ns.0) (parts is_zero ns.0) =
      ap (line_behind_id m.0.size) v ∙ rw d (ap (line_of_numbers false m.0.size) (ap numbers_of (sym v) ∙ ns.1)) in
      ap (λ (x : Integer). read_as (added_by x.size (is_ended xs) (parts is_zero xs))) m.2
      ∙ ap (λ (ys : List Integer). read_as (added_by (min m.0.size (2 ^ 62 + 1)) (is_ended ys) (parts is_zero ys))) ns.2
      ∙ cap-added m.0.size ns.0 ∙ sym (ap read_as (by-id m.0 m.1 m.2 ∙ l))

  pub no-addition : bytes_eq second (codes "d") ≡ false → None ≡ option_map (map capped) (numbers_of (words_of rest)) → Bad ≡ proof_line text
  no-addition d h =
      let m = some-of (integer_of word) id e in
      let l : line_behind_id m.0.size (words_of rest) ≡ Bad =
      ap (line_behind_id m.0.size) v ∙ rw d (ap (line_of_numbers false m.0.size) (ap numbers_of (sym v) ∙ none-of (numbers_of (words_of rest)) h)) in
      sym (ap read_as (by-id m.0 m.1 m.2 ∙ l))
