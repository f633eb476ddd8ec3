-- A printed log is read again.
use Rattle.std.proofs.Common.{◌≡◌, ℕ, ◌<◌, ◌^◌, Bool, true, false, not, ◌&&◌, List, [], ◌∷◌, ◌++◌, Some, None, refl, arith, sym, ap, ◌∙◌, inl, inr}
use Rattle.std.specs.Prelude.{map, nat_lt, nat_le, codes}
use Rattle.std.specs.List.{list_all}
use Rattle.std.specs.Str.{bytes_eq}
use Rattle.std.proofs.lemmas.List.{append_assoc}
use Rattle.std.proofs.lemmas.List.Folds.{list_all-append, list_all-map}
use Rattle.std.proofs.lemmas.Slice.Eq.{bytes_eq-Decides}
use Rattle.std.proofs.lemmas.Bool.{cases_Bool, and_parts, and_from}
use Rattle.std.proofs.lemmas.Bool.Decides.{nat_tests}
use Rattle.clause_spec.specs.Clauses.{Literal, Clause}
use Rattle.clause_spec.specs.Refutation.{Hint, ById, Negative, LogLine, Add, Delete, Bad, is_of_grammar, is_listed, hint_size, greatest_number}
use Rattle.clause_spec.specs.Certificates.{to_zero, literal_text, hint_text, log_line}
use Rattle.clause_spec.specs.CertificateGrammar.{parts, words_of, Integer, integer_of, number_before, numbers_of, is_zero, is_ended, literal_of, hint_of, some_below, added_by, line_of_numbers, line_behind_id, line_by_number, clauses_line, bounded, proof_line, until_bad, log_of_lines}
use Rattle.word_spec.specs.Texts.{number_text, joined}
use Rattle.clause_spec.proofs.PrintedWords.{passes_more, in_line, is_token, words_joined, joined_in_line, integer, printed_number, printed_signed, numbers_before, tokens_before, parts_cut}

-- the number that ends a list
abbrev pub end_zero : Integer
end_zero = integer false 0

abbrev pub literal_number : Literal → Integer
literal_number l = integer (not l.positive) l.variable

abbrev pub hint_number : Hint → Integer
hint_number (ById n) = integer false n
hint_number (Negative n) = integer true n

abbrev pub literal_listed : Literal → Bool
literal_listed l = is_listed l.variable

abbrev hint_listed : Hint → Bool
hint_listed h = is_listed (hint_size h)

small : (n : ℕ) → nat_le n greatest_number ≡ true → n < 10 ^ 64
small n h = grind (arith, nat_tests)

pub each_literal : (l : Literal) → literal_listed l ≡ true → (integer_of (literal_text l) ≡ Some (literal_number l)) × (is_token (literal_text l) ≡ true)
each_literal l h =
    let g = and_parts (nat_lt 0 l.variable) (nat_le l.variable greatest_number) h in printed_signed l.positive l.variable g.0 (small l.variable g.1)

each_hint : (h : Hint) → hint_listed h ≡ true → (integer_of (hint_text h) ≡ Some (hint_number h)) × (is_token (hint_text h) ≡ true)
each_hint (ById n) h = let g = and_parts (nat_lt 0 n) (nat_le n greatest_number) h in printed_signed true n g.0 (small n g.1)
each_hint (Negative n) h = let g = and_parts (nat_lt 0 n) (nat_le n greatest_number) h in printed_signed false n g.0 (small n g.1)

each_id : (n : ℕ) → is_listed n ≡ true → (integer_of (number_text n) ≡ Some (integer false n)) × (is_token (number_text n) ≡ true)
each_id n h = let g = and_parts (nat_lt 0 n) (nat_le n greatest_number) h in printed_signed true n g.0 (small n g.1)

-- a word that is a number is no other word
pub not_word : (k : List ℕ) → integer_of k ≡ None → (w : List ℕ) (ws : List (List ℕ)) (ns : List Integer) → numbers_of (w ∷ ws) ≡ Some ns → bytes_eq w k ≡ false
not_word k n w ws ns h = elim (cases_Bool (bytes_eq w k)) [
  | inl e ↦
      let q = (bytes_eq-Decides w k).0 e in
      let g : numbers_of (w ∷ ws) ≡ None = ap (λ v. number_before (integer_of v) (numbers_of ws)) q ∙ ap (λ o. number_before o (numbers_of ws)) n in
      let f : Some ns ≡ None = sym h ∙ g in absurd (cc)
  | inr e ↦ e
]

-- numbers end where the last is 0
pub ended_by_last : (xs : List Integer) (y : Integer) (ys : List Integer) → is_ended (xs ++ y ∷ ys) ≡ is_ended (y ∷ ys)
ended_by_last [] y ys = refl
ended_by_last (x ∷ []) y ys = refl
ended_by_last (x ∷ z ∷ xs) y ys = ended_by_last (z ∷ xs) y ys

-- the numbers of a list have no 0
module _ {A : Type 0} (number : A → Integer) (ok : A → Bool) (each : (x : A) → ok x ≡ true → is_zero (number x) ≡ false) where
  pub no_zero : (xs : List A) → list_all ok xs ≡ true → list_all (λ n. not (is_zero n)) (map number xs) ≡ true
  no_zero xs h = list_all-map (λ n. not (is_zero n)) number xs ∙ passes_more ok (λ x. not (is_zero (number x))) (λ x e. rw (each x e) refl) xs h

pub listed_nonzero : (minus : Bool) (n : ℕ) → is_listed n ≡ true → is_zero (integer minus n) ≡ false
listed_nonzero minus n h = let g = and_parts (nat_lt 0 n) (nat_le n greatest_number) h in grind (arith, nat_tests, g.0)

hint_nonzero : (h : Hint) → hint_listed h ≡ true → is_zero (hint_number h) ≡ false
hint_nonzero (ById n) e = listed_nonzero false n e
hint_nonzero (Negative n) e = listed_nonzero true n e

pub map_back : {A B : Type 0} (there : A → B) (back : B → A) → ((x : A) → back (there x) ≡ x) → (xs : List A) → map back (map there xs) ≡ xs
map_back there back f [] = refl
map_back there back f (x ∷ xs) = rw (f x, map_back there back f xs) refl

pub literal_back : (l : Literal) → literal_of (literal_number l) ≡ l
literal_back l = ap (λ b. record { variable = l.variable; positive = b }) (twice l.positive) where
  twice : (b : Bool) → not (not b) ≡ b
  twice true = refl
  twice false = refl

hint_back : (h : Hint) → hint_of (hint_number h) ≡ h
hint_back (ById n) = refl
hint_back (Negative n) = refl

-- the line of words behind an id that are numbers
behind_id : (id : ℕ) (ws : List (List ℕ)) (ns : List Integer) → numbers_of ws ≡ Some ns → line_behind_id id ws ≡ line_of_numbers false id (Some ns)
behind_id id [] ns h = ap (line_of_numbers false id) h
behind_id id (w ∷ ws) ns h = rw (not_word (codes "d") refl w ws ns h) (ap (line_of_numbers false id) h)

-- the line of words
of_words : (id : ℕ) → nat_le id greatest_number ≡ true → (ws : List (List ℕ)) → list_all is_token ws ≡ true →
    clauses_line (words_of (joined (number_text id ∷ ws))) ≡ line_behind_id id ws
of_words id low ws h =
    let n = printed_number id (small id low) in
    ap clauses_line (words_joined (number_text id ∷ ws) (and_from (is_token (number_text id)) (list_all is_token ws) n.1 h))
    ∙ ap (λ o. line_by_number o ws) n.0

as_read : (text : List ℕ) (l : LogLine) → clauses_line (words_of text) ≡ l → is_of_grammar l ≡ true → proof_line text ≡ l
as_read text l e h = ap (λ m. bounded (is_of_grammar m) m) e ∙ ap (λ b. bounded b l) h

-- literals and hints, each list ended by 0
module _ (c : Clause) (hints : List Hint) (hc : list_all literal_listed c ≡ true) (hh : list_all hint_listed hints ≡ true) where
  literals : List Integer
  literals = map literal_number c

  both_words : List (List ℕ)
  both_words = to_zero (map literal_text c) ++ to_zero (map hint_text hints)

  both_tokens : list_all is_token both_words ≡ true
  unfolding both_words
  both_tokens =
      list_all-append is_token (to_zero (map literal_text c)) (to_zero (map hint_text hints))
      ∙ and_from (list_all is_token (to_zero (map literal_text c))) (list_all is_token (to_zero (map hint_text hints)))
      (tokens_before literal_text literal_number literal_listed each_literal c hc (codes "0" ∷ []) refl)
      (tokens_before hint_text hint_number hint_listed each_hint hints hh (codes "0" ∷ []) refl)

  both_numbers : numbers_of both_words ≡ Some (map literal_number c ++ end_zero ∷ (map hint_number hints ++ end_zero ∷ []))
  unfolding both_words
  both_numbers =
      ap numbers_of (append_assoc (map literal_text c) (codes "0" ∷ []) (to_zero (map hint_text hints)))
      ∙ numbers_before literal_text literal_number literal_listed each_literal c hc (codes "0" ∷ to_zero (map hint_text hints))
      (end_zero ∷ (map hint_number hints ++ end_zero ∷ []))
      (ap (number_before (Some end_zero)) (numbers_before hint_text hint_number hint_listed each_hint hints hh (codes "0" ∷ []) (end_zero ∷ []) refl))

  both_parts : parts is_zero (map literal_number c ++ end_zero ∷ (map hint_number hints ++ end_zero ∷ [])) ≡ map literal_number c ∷ map hint_number hints ∷ []
  both_parts =
      parts_cut is_zero (map literal_number c) end_zero (map hint_number hints ++ end_zero ∷ [])
      (no_zero literal_number literal_listed (λ l e. listed_nonzero (not l.positive) l.variable e) c hc) refl
      ∙ ap (λ (ps : List (List Integer)). map literal_number c ∷ ps)
      (parts_cut is_zero (map hint_number hints) end_zero [] (no_zero hint_number hint_listed hint_nonzero hints hh) refl)

  both_ended : is_ended (map literal_number c ++ end_zero ∷ (map hint_number hints ++ end_zero ∷ [])) ≡ true
  both_ended =
      ended_by_last (map literal_number c) end_zero (map hint_number hints ++ end_zero ∷ [])
      ∙ ended_by_last (end_zero ∷ map hint_number hints) end_zero []

  added_line : (id : ℕ) → line_behind_id id both_words ≡ Add id c hints
  added_line id =
      behind_id id both_words (map literal_number c ++ end_zero ∷ (map hint_number hints ++ end_zero ∷ [])) both_numbers
      ∙ ap (λ b. added_by id b (parts is_zero (map literal_number c ++ end_zero ∷ (map hint_number hints ++ end_zero ∷ [])))) both_ended
      ∙ ap (added_by id true) both_parts
      ∙ ap (λ (d : Clause). Add id d (map hint_of (map hint_number hints))) (map_back literal_number literal_of literal_back c)
      ∙ ap (λ (hs : List Hint). Add id c hs) (map_back hint_number hint_of hint_back hints)

  pub printed_add : (id : ℕ) → nat_le id greatest_number ≡ true → clauses_line (words_of (log_line (Add id c hints))) ≡ Add id c hints
  unfolding both_words
  printed_add id low = of_words id low both_words both_tokens ∙ added_line id

  pub add_in_line : (id : ℕ) → nat_le id greatest_number ≡ true → list_all in_line (log_line (Add id c hints)) ≡ true
  unfolding both_words
  add_in_line id low =
      joined_in_line (number_text id ∷ both_words)
      (and_from (is_token (number_text id)) (list_all is_token both_words) (printed_number id (small id low)).1 both_tokens)

none_below : (ids : List ℕ) → some_below (map (integer false) ids ++ end_zero ∷ []) ≡ false
none_below [] = refl
none_below (i ∷ ids) = none_below ids

module _ (ids : List ℕ) (hi : list_all is_listed ids ≡ true) where
  id_numbers : numbers_of (to_zero (map number_text ids)) ≡ Some (map (integer false) ids ++ end_zero ∷ [])
  id_numbers = numbers_before number_text (integer false) is_listed each_id ids hi (codes "0" ∷ []) (end_zero ∷ []) refl

  id_tokens : list_all is_token (codes "d" ∷ to_zero (map number_text ids)) ≡ true
  id_tokens = tokens_before number_text (integer false) is_listed each_id ids hi (codes "0" ∷ []) refl

  id_parts : parts is_zero (map (integer false) ids ++ end_zero ∷ []) ≡ map (integer false) ids ∷ []
  id_parts = parts_cut is_zero (map (integer false) ids) end_zero [] (no_zero (integer false) is_listed (λ n e. listed_nonzero false n e) ids hi) refl

  deleted_line : (id : ℕ) → line_behind_id id (codes "d" ∷ to_zero (map number_text ids)) ≡ Delete id ids
  deleted_line id =
      ap (line_of_numbers true id) id_numbers
      ∙ rw (ended_by_last (map (integer false) ids) end_zero [], none_below ids, id_parts) (ap (Delete id) (map_back (integer false) (λ n. n.size)
      (λ n. refl) ids))

  pub printed_delete : (id : ℕ) → nat_le id greatest_number ≡ true → clauses_line (words_of (log_line (Delete id ids))) ≡ Delete id ids
  printed_delete id low = of_words id low (codes "d" ∷ to_zero (map number_text ids)) id_tokens ∙ deleted_line id

  pub delete_in_line : (id : ℕ) → nat_le id greatest_number ≡ true → list_all in_line (log_line (Delete id ids)) ≡ true
  delete_in_line id low =
      joined_in_line (number_text id ∷ codes "d" ∷ to_zero (map number_text ids))
      (and_from (is_token (number_text id)) (list_all is_token (codes "d" ∷ to_zero (map number_text ids))) (printed_number id (small id low)).1 id_tokens)

-- a line of the grammar is printed in one line, and read again
pub printed_line : (l : LogLine) → is_of_grammar l ≡ true → (proof_line (log_line l) ≡ l) × (list_all in_line (log_line l) ≡ true)
printed_line (Add id c hints) h =
    let a = and_parts (nat_le id greatest_number && list_all literal_listed c) (list_all hint_listed hints) h in
    let b = and_parts (nat_le id greatest_number) (list_all literal_listed c) a.0 in
    (as_read (log_line (Add id c hints)) (Add id c hints) (printed_add c hints b.1 a.1 id b.0) h, add_in_line c hints b.1 a.1 id b.0)
printed_line (Delete id ids) h =
    let a = and_parts (nat_le id greatest_number) (list_all is_listed ids) h in
    (as_read (log_line (Delete id ids)) (Delete id ids) (printed_delete ids a.1 id a.0) h, delete_in_line ids a.1 id a.0)
printed_line Bad h = cc

until_line : (l : LogLine) (rest : List LogLine) → is_of_grammar l ≡ true → until_bad l rest ≡ l ∷ rest
until_line (Add id c hints) rest h = refl
until_line (Delete id ids) rest h = refl
until_line Bad rest h = cc

-- a printed log is read again, and stands in as many lines
pub printed_log : (log : List LogLine) → list_all is_of_grammar log ≡ true →
    (log_of_lines (map log_line log) ≡ log) × (list_all (list_all in_line) (map log_line log) ≡ true)
printed_log [] h = (refl, refl)
printed_log (l ∷ ls) h =
    let g = and_parts (is_of_grammar l) (list_all is_of_grammar ls) h in
    let p = printed_line l g.0 in
    let r = printed_log ls g.1 in
    (rw (p.0, r.0) (until_line l ls g.0), and_from (list_all in_line (log_line l)) (list_all (list_all in_line) (map log_line ls)) p.1 r.1)
