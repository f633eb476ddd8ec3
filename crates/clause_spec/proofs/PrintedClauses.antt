-- Printed clauses, and a printed certificate, are read again; a certificate of a refutation is accepted.
use Rattle.std.proofs.Common.{◌≡◌, ℕ, suc, ◌+◌, ◌<◌, ◌≤◌, ◌^◌, Bool, true, false, not, ◌&&◌, List, [], ◌∷◌, ◌++◌, Some, None, refl, arith, sym, ap, ◌∙◌, length, drop, inl, inr, eq-eqb}
use Rattle.std.specs.Prelude.{◌==◌, map, nat_lt, nat_le, codes}
use Rattle.std.specs.List.{list_all}
use Rattle.std.specs.Str.{bytes_eq}
use Rattle.std.proofs.lemmas.List.{append-nil, append_assoc}
use Rattle.std.proofs.lemmas.List.Folds.{list_all-append, list_all-map}
use Rattle.std.proofs.lemmas.Slice.Eq.{bytes_eq-Decides}
use Rattle.std.proofs.lemmas.Bool.{cases_Bool, and_parts, and_from, lt-ltb, le-leb}
use Rattle.std.proofs.lemmas.Bool.Decides.{nat_tests}
use Rattle.clause_spec.specs.Clauses.{Literal, Clause, Cnf, IsOnVariables, AreOnVariables, has, same}
use Rattle.clause_spec.specs.Refutation.{LogLine, is_of_grammar, greatest_number}
use Rattle.word_spec.specs.Texts.{split_lines, number_text, line}
use Rattle.clause_spec.specs.Certificates.{to_zero, literal_text, clause_line, cnf_header, cnf_lines, cnf_text, certificate_text, log_line, log_text, IsPrintable}
use Rattle.clause_spec.specs.CertificateGrammar.{words_of, Integer, numbers_of, is_zero, is_ended, literal_of, clauses_in, log_of_lines, Numbers, HeaderLine, numbers_line, cnf_line, cnf_line_of_words, Header, greatest_count, is_small, VariableFault, fault_unless, numbers_fault, Clauses, is_counted, clauses_if, at_proof, answer_from, cnf_of}
use Rattle.clause_spec.specs.CertificateLaws.{IsReadAs}
use Rattle.clause_spec.proofs.Looks.{same-self, or_left, or_right}
use Rattle.clause_spec.proofs.PrintedWords.{passes_more, in_line, is_token, words_joined, joined_in_line, printed_digits, printed_number, numbers_before, tokens_before, parts_cut, split_line, split_all}
use Rattle.clause_spec.proofs.PrintedLogs.{end_zero, literal_number, literal_listed, each_literal, not_word, ended_by_last, no_zero, listed_nonzero, map_back, literal_back, printed_log}

-- a literal over the variables 1 to n
abbrev in_range : ℕ → Literal → Bool
in_range n l = nat_lt 0 l.variable && nat_le l.variable n

range_of : (n : ℕ) (c : Clause) → IsOnVariables n c → list_all (in_range n) c ≡ true
range_of n [] f = refl
range_of n (l ∷ ls) f =
    let g = f l (or_left (same l l) (has ls l) (same-self l)) in
    and_from (in_range n l) (list_all (in_range n) ls)
    (and_from (nat_lt 0 l.variable) (nat_le l.variable n) (lt-ltb 0 l.variable (omega arith)) (le-leb l.variable n g.1))
    (range_of n ls (λ m h. f m (or_right (same l m) (has ls m) h)))

ranges_of : (n : ℕ) (cs : List Clause) → AreOnVariables n cs → list_all (list_all (in_range n)) cs ≡ true
ranges_of n [] f = refl
ranges_of n (c ∷ cs) f =
    and_from (list_all (in_range n) c) (list_all (list_all (in_range n)) cs) (range_of n c (f c (0, omega arith, refl)))
    (ranges_of n cs (λ d h. f d (suc h.0, omega arith, h.2)))

listed_in : (n : ℕ) → n ≤ greatest_count → (l : Literal) → in_range n l ≡ true → literal_listed l ≡ true
listed_in n low l h =
    let g = and_parts (nat_lt 0 l.variable) (nat_le l.variable n) h in
    and_from (nat_lt 0 l.variable) (nat_le l.variable greatest_number) g.0 (grind (arith, nat_tests))

-- the numbers of a clause's line, and of all clauses
abbrev numbers_of_clause : Clause → List Integer
numbers_of_clause c = map literal_number c ++ end_zero ∷ []

abbrev all_numbers : List Clause → List Integer
all_numbers [] = []
all_numbers (c ∷ cs) = numbers_of_clause c ++ all_numbers cs

of_number_words : (ws : List (List ℕ)) (ns : List Integer) → numbers_of ws ≡ Some ns → cnf_line_of_words ws ≡ Numbers ns
of_number_words [] ns h = ap numbers_line h
of_number_words (w ∷ ws) ns h = rw (not_word (codes "c") refl w ws ns h, not_word (codes "p") refl w ws ns h) (ap numbers_line h)

not_proof : (t : List ℕ) (ns : List Integer) → numbers_of (words_of t) ≡ Some ns → bytes_eq t (codes "proof") ≡ false
not_proof t ns h = elim (cases_Bool (bytes_eq t (codes "proof"))) [
  | inl e ↦
      let q = (bytes_eq-Decides t (codes "proof")).0 e in
      let g : numbers_of (words_of t) ≡ None = ap (λ u. numbers_of (words_of u)) q in
      let f : Some ns ≡ None = sym h ∙ g in absurd (cc)
  | inr e ↦ e
]

module _ (n : ℕ) (low : n ≤ greatest_count) where
  line_tokens : (c : Clause) → list_all (in_range n) c ≡ true → list_all is_token (to_zero (map literal_text c)) ≡ true
  line_tokens c h =
      tokens_before literal_text literal_number literal_listed each_literal c (passes_more (in_range n) literal_listed (listed_in n low) c h) (codes "0"
      ∷ []) refl

  line_numbers : (c : Clause) → list_all (in_range n) c ≡ true → numbers_of (words_of (clause_line c)) ≡ Some (numbers_of_clause c)
  line_numbers c h =
      ap numbers_of (words_joined (to_zero (map literal_text c)) (line_tokens c h))
      ∙ numbers_before literal_text literal_number literal_listed each_literal c (passes_more (in_range n) literal_listed (listed_in n low) c h) (codes "0"
      ∷ []) (end_zero ∷ []) refl

  within_header : (c : Clause) → list_all (in_range n) c ≡ true → list_all (λ i. nat_le i.size n) (numbers_of_clause c) ≡ true
  within_header c h =
      list_all-append (λ i. nat_le i.size n) (map literal_number c) (end_zero ∷ [])
      ∙ and_from (list_all (λ i. nat_le i.size n) (map literal_number c)) (nat_le 0 n && true)
      (list_all-map (λ i. nat_le i.size n) literal_number c
      ∙ passes_more (in_range n) (λ l. nat_le l.variable n) (λ l e. (and_parts (nat_lt 0 l.variable) (nat_le l.variable n) e).1) c h)
      (grind (arith, nat_tests))

  no_fault : (m : ℕ) (ns : List Integer) → list_all (λ i. nat_le i.size n) ns ≡ true → numbers_fault (Some (record { variables = n; clauses = m })) ns ≡ None
  no_fault m [] h = refl
  no_fault m (i ∷ ns) h = ap (λ b. fault_unless b VariableFault) h

  clauses_answer : (m : ℕ) (rest : List (List ℕ)) (cs : List Clause) → list_all (list_all (in_range n)) cs ≡ true → (k : ℕ) (before : List Integer) →
      answer_from k (Some (record { variables = n; clauses = m })) before (map clause_line cs ++ codes "proof" ∷ rest)
      ≡ at_proof (k + length cs) (Some (record { variables = n; clauses = m })) (before ++ all_numbers cs)
  clauses_answer m rest [] h k before =
      let e : k ≡ k + 0 = omega arith in
      ap (λ i. at_proof i (Some (record { variables = n; clauses = m })) before) e
      ∙ ap (at_proof (k + 0) (Some (record { variables = n; clauses = m }))) (sym (append-nil before))
  clauses_answer m rest (c ∷ cs) h k before =
      let g = and_parts (list_all (in_range n) c) (list_all (list_all (in_range n)) cs) h in
      let ns = line_numbers c g.0 in
      let e : k + 1 + length cs ≡ k + length (c ∷ cs) = omega arith in
      rw (
        not_proof (clause_line c) (numbers_of_clause c) ns,
        of_number_words (words_of (clause_line c)) (numbers_of_clause c) ns,
        no_fault m (numbers_of_clause c) (within_header c g.0),
      )
      (clauses_answer m rest cs g.1 (k + 1) (before ++ numbers_of_clause c)
      ∙ ap (λ i. at_proof i (Some (record { variables = n; clauses = m })) (before ++ numbers_of_clause c ++ all_numbers cs)) e
      ∙ ap (at_proof (k + length (c ∷ cs)) (Some (record { variables = n; clauses = m }))) (append_assoc before (numbers_of_clause c) (all_numbers cs)))

  clauses_back : (cs : List Clause) → list_all (list_all (in_range n)) cs ≡ true → clauses_in (all_numbers cs) ≡ cs
  clauses_back [] h = refl
  clauses_back (c ∷ cs) h =
      let g = and_parts (list_all (in_range n) c) (list_all (list_all (in_range n)) cs) h in
      ap clauses_in (append_assoc (map literal_number c) (end_zero ∷ []) (all_numbers cs))
      ∙ ap (map (map literal_of)) (parts_cut is_zero (map literal_number c) end_zero (all_numbers cs)
      (no_zero literal_number literal_listed (λ l e. listed_nonzero (not l.positive) l.variable e) c
      (passes_more (in_range n) literal_listed (listed_in n low) c g.0)) refl)
      ∙ ap (λ (d : Clause). d ∷ clauses_in (all_numbers cs)) (map_back literal_number literal_of literal_back c)
      ∙ ap (λ (ds : List Clause). c ∷ ds) (clauses_back cs g.1)

ended_zero : (ns : List Integer) → is_ended ns ≡ true → is_ended (end_zero ∷ ns) ≡ true
ended_zero [] h = refl
ended_zero (i ∷ ns) h = h

all_ended : (cs : List Clause) → is_ended (all_numbers cs) ≡ true
all_ended [] = refl
all_ended (c ∷ cs) =
    ap is_ended (append_assoc (map literal_number c) (end_zero ∷ []) (all_numbers cs))
    ∙ ended_by_last (map literal_number c) end_zero (all_numbers cs) ∙ ended_zero (all_numbers cs) (all_ended cs)

-- the lines of a printed certificate
module _ (cnf : Cnf) (log : List LogLine) (is : IsPrintable cnf) (of_grammar : list_all is_of_grammar log ≡ true) where
  bounded_by : (n : ℕ) → n ≤ 2 ^ 30 → n < 10 ^ 64
  bounded_by n h = omega arith

  header_words : List (List ℕ)
  header_words = codes "p" ∷ codes "cnf" ∷ number_text cnf.variables ∷ number_text (length cnf.clauses) ∷ []

  header_tokens : list_all is_token header_words ≡ true
  unfolding header_words
  header_tokens =
      and_from (is_token (number_text cnf.variables)) (is_token (number_text (length cnf.clauses)) && true)
      (printed_number cnf.variables (bounded_by cnf.variables is.variables)).1
      (and_from (is_token (number_text (length cnf.clauses))) true (printed_number (length cnf.clauses) (bounded_by (length cnf.clauses) is.clauses)).1 refl)

  abbrev header : Header
  header = record { variables = cnf.variables; clauses = length cnf.clauses }

  header_is : cnf_line (cnf_header cnf) ≡ HeaderLine header
  unfolding header_words
  header_is =
      let v = printed_digits cnf.variables (bounded_by cnf.variables is.variables) in
      let m = printed_digits (length cnf.clauses) (bounded_by (length cnf.clauses) is.clauses) in
      ap cnf_line_of_words (words_joined header_words header_tokens) ∙ rw (v.0, m.0, v.1, m.1) refl

  header_small : is_small header ≡ true
  header_small =
      and_from (nat_le cnf.variables greatest_count) (nat_le (length cnf.clauses) greatest_count) (le-leb cnf.variables greatest_count is.variables)
      (le-leb (length cnf.clauses) greatest_count is.clauses)

  ranges : list_all (list_all (in_range cnf.variables)) cnf.clauses ≡ true
  ranges = ranges_of cnf.variables cnf.clauses is.over

  in_lines : (cs : List Clause) → list_all (list_all (in_range cnf.variables)) cs ≡ true → list_all (list_all in_line) (map clause_line cs) ≡ true
  in_lines [] h = refl
  in_lines (c ∷ cs) h =
      let g = and_parts (list_all (in_range cnf.variables) c) (list_all (list_all (in_range cnf.variables)) cs) h in
      and_from (list_all in_line (clause_line c)) (list_all (list_all in_line) (map clause_line cs))
      (joined_in_line (to_zero (map literal_text c)) (line_tokens cnf.variables is.variables c g.0)) (in_lines cs g.1)

  cnf_in_lines : list_all (list_all in_line) (cnf_lines cnf) ≡ true
  unfolding header_words
  cnf_in_lines =
      and_from (list_all in_line (cnf_header cnf)) (list_all (list_all in_line) (map clause_line cnf.clauses)) (joined_in_line header_words header_tokens)
      (in_lines cnf.clauses ranges)

  log_lines : split_lines (log_text log) ≡ map log_line log
  log_lines =
      ap split_lines (sym (append-nil (log_text log))) ∙ split_all (map log_line log) [] (printed_log log of_grammar).1 ∙ append-nil (map log_line log)

  certificate_lines : split_lines (certificate_text cnf log) ≡ cnf_header cnf ∷ (map clause_line cnf.clauses ++ codes "proof" ∷ map log_line log)
  certificate_lines =
      ap split_lines (append_assoc (cnf_text cnf) (line (codes "proof")) (log_text log))
      ∙ split_all (cnf_lines cnf) (line (codes "proof") ++ log_text log) cnf_in_lines
      ∙ ap (λ (ts : List (List ℕ)). cnf_lines cnf ++ ts) (split_line (codes "proof") (log_text log) refl ∙ ap
      (λ (ts : List (List ℕ)). codes "proof" ∷ ts) log_lines)

  counted : is_counted header (all_numbers cnf.clauses) ≡ true
  counted =
      and_from (is_ended (all_numbers cnf.clauses)) (length (clauses_in (all_numbers cnf.clauses)) == length cnf.clauses) (all_ended cnf.clauses)
      (eq-eqb (length (clauses_in (all_numbers cnf.clauses))) (length cnf.clauses) (ap
      (λ (cs : List Clause). length cs) (clauses_back cnf.variables is.variables cnf.clauses ranges)))

  printed_clauses : cnf_of (certificate_text cnf log) ≡ Clauses cnf (2 + length cnf.clauses)
  printed_clauses =
      ap (answer_from 1 None []) certificate_lines
      ∙ rw (header_is, header_small)
      (clauses_answer cnf.variables is.variables (length cnf.clauses) (map log_line log) cnf.clauses ranges 2 []
      ∙ ap (λ b. clauses_if b (2 + length cnf.clauses) header (all_numbers cnf.clauses)) counted
      ∙ ap (λ (cs : List Clause). Clauses (record { variables = cnf.variables; clauses = cs }) (2 + length cnf.clauses))
      (clauses_back cnf.variables is.variables cnf.clauses ranges))

  dropped : (h p : List ℕ) (cs : List Clause) (rest : List (List ℕ)) → drop (2 + length cs) (h ∷ (map clause_line cs ++ p ∷ rest)) ≡ rest
  dropped h p [] rest = refl
  dropped h p (c ∷ cs) rest =
      let e : 2 + length (c ∷ cs) ≡ suc (2 + length cs) = omega arith in
      ap (λ i. drop i (h ∷ (map clause_line (c ∷ cs) ++ p ∷ rest))) e ∙ dropped (clause_line c) p cs rest

  printed_proof : log_of_lines (drop (2 + length cnf.clauses) (split_lines (certificate_text cnf log))) ≡ log
  printed_proof =
      ap (λ (ts : List (List ℕ)). log_of_lines (drop (2 + length cnf.clauses) ts)) certificate_lines
      ∙ ap log_of_lines (dropped (cnf_header cnf) (codes "proof") cnf.clauses (map log_line log)) ∙ (printed_log log of_grammar).0

  -- a printed certificate is read again
  pub read_again : IsReadAs (certificate_text cnf log) cnf log
  read_again = record { before = 2 + length cnf.clauses; clauses = printed_clauses; proof = printed_proof }
