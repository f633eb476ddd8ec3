-- What is read of a text of clauses: a reading or a first fault, and a reading within the bounds of the grammar.
use Rattle.std.proofs.Common.{◌≡◌, ℕ, zero, suc, ◌+◌, Bool, true, false, not, ◌&&◌, List, [], ◌∷◌, ◌++◌, Option, Some, None, refl, subst, ap, ◌∙◌, length, arith, ◌⊎◌, inl, inr}
use Rattle.std.specs.Prelude.{◌==◌, map, nat_le, codes, Contains, if◌then◌else◌}
use Rattle.std.specs.List.{list_all}
use Rattle.std.specs.Str.{bytes_eq}
use Rattle.std.proofs.lemmas.List.Folds.{list_all-append}
use Rattle.std.proofs.lemmas.Bool.{eqb-true, and_parts, and_from, or_cases}
use Rattle.std.proofs.lemmas.Bool.Decides.{nat_tests}
use Rattle.clause_spec.specs.Clauses.{Literal, Clause, Cnf, IsOnVariables, AreOnVariables, has, same}
use Rattle.word_spec.specs.Texts.{split_lines}
use Rattle.clause_spec.specs.CertificateGrammar.{parts, before_first, Integer, is_zero, is_ended, literal_of, clauses_in, CnfLine, Comment, HeaderLine, Numbers, NoCnfLine, cnf_line, Header, header_after, greatest_count, is_small, CnfFault, HeaderFault, VariableFault, fault_unless, numbers_fault, line_fault, numbers_in, CnfAnswer, Clauses, RefusedAt, is_counted, clauses_if, at_proof, at_end, clauses_refused_or, answer_from, cnf_of}
use Rattle.clause_spec.specs.CertificateLaws.{ExactlyOne}
use Rattle.clause_spec.specs.Certificates.{IsPrintable}
use Rattle.clause_spec.proofs.Looks.{same-true}

abbrev is_read : CnfAnswer → Bool
is_read (Clauses cnf n) = true
is_read (RefusedAt n f) = false

one_of : (a : CnfAnswer) → ExactlyOne ((cnf : Cnf) × (before : ℕ) × (a ≡ Clauses cnf before)) ((n : ℕ) × (f : CnfFault) × (a ≡ RefusedAt n f))
one_of (Clauses cnf n) = (inl (cnf, n, refl), λ x y. let e = ap is_read y.2 in cc)
one_of (RefusedAt n f) = (inr (n, f, refl), λ x y. let e = ap is_read x.2 in cc)

pub one_reading : (text : List ℕ) →
    ExactlyOne ((cnf : Cnf) × (before : ℕ) × (cnf_of text ≡ Clauses cnf before)) ((n : ℕ) × (f : CnfFault) × (cnf_of text ≡ RefusedAt n f))
one_reading text = one_of (cnf_of text)

-- a number of a literal over the variables 1 to v
abbrev in_range : ℕ → Integer → Bool
in_range v i = not (is_zero i) && nat_le i.size v

first_passes : {A : Type 0} (p : A → Bool) (x : A) (xs : List (List A)) → p x ≡ true → list_all (list_all p) xs ≡ true →
    list_all (list_all p) (before_first x xs) ≡ true
first_passes p x [] h g = rw h refl
first_passes p x (ys ∷ rest) h g = rw h g

parts_if : (b : Bool) (i : Integer) (rest : List (List Integer)) (v : ℕ) → is_zero i ≡ b → nat_le i.size v ≡ true →
    list_all (list_all (in_range v)) rest ≡ true →
    list_all (list_all (in_range v)) (if b then [] ∷ rest else before_first i rest) ≡ true
parts_if true i rest v z h g = g
parts_if false i rest v z h g = first_passes (in_range v) i rest (rw z h) g

parts_in_range : (v : ℕ) (ns : List Integer) → list_all (λ i. nat_le i.size v) ns ≡ true → list_all (list_all (in_range v)) (parts is_zero ns) ≡ true
parts_in_range v [] h = refl
parts_in_range v (i ∷ ns) h =
    let g = and_parts (nat_le i.size v) (list_all (λ j. nat_le j.size v) ns) h in
    parts_if (is_zero i) i (parts is_zero ns) v refl g.0 (parts_in_range v ns g.1)

over_one : (v : ℕ) (ns : List Integer) → list_all (in_range v) ns ≡ true → IsOnVariables v (map literal_of ns)
over_one v [] h l k = cc
over_one v (i ∷ ns) h l k =
    let g = and_parts (in_range v i) (list_all (in_range v) ns) h in
    elim (or_cases (same (literal_of i) l) (has (map literal_of ns) l) k) [
      | inl e ↦
          let q : i.size ≡ l.variable = ap (λ (m : Literal). m.variable) (same-true (literal_of i) l e) in
          let f = and_parts (not (is_zero i)) (nat_le i.size v) g.0 in
          (grind (arith, nat_tests, f.0, q), grind (arith, nat_tests, f.1, q))
      | inr e ↦ over_one v ns g.1 l e
    ]

cases_contains : (x : Clause) (xs : List Clause) (c : Clause) → Contains (x ∷ xs) c → (x ≡ c) ⊎ Contains xs c
cases_contains x xs c (zero, k, e) = inl e
cases_contains x xs c (suc i, k, e) = inr (i, omega arith, e)

over_get : (v : ℕ) (ps : List (List Integer)) → list_all (list_all (in_range v)) ps ≡ true → AreOnVariables v (map (map literal_of) ps)
over_get v [] h c k = absurd (omega arith)
over_get v (p ∷ ps) h c k =
    let g = and_parts (list_all (in_range v) p) (list_all (list_all (in_range v)) ps) h in
    elim (cases_contains (map literal_of p) (map (map literal_of) ps) c k) [
      | inl e ↦ subst (IsOnVariables v) e (over_one v p g.0)
      | inr t ↦ over_get v ps g.1 c t
    ]

-- the numbers before a line are behind a header, and none is above its variables
abbrev IsBehind : Option Header → List Integer → Type 0
IsBehind None ns = ns ≡ []
IsBehind (Some h) ns = (is_small h ≡ true) × (list_all (λ i. nat_le i.size h.variables) ns ≡ true)

abbrev IfRead : CnfAnswer → Type 0
IfRead (Clauses cnf n) = IsPrintable cnf
IfRead (RefusedAt n f) = Unit {0}

printable : (h : Header) (ns : List Integer) → IsBehind (Some h) ns → is_counted h ns ≡ true →
    IsPrintable (record { variables = h.variables; clauses = clauses_in ns })
printable h ns is c =
    let s = and_parts (nat_le h.variables greatest_count) (nat_le h.clauses greatest_count) is.0 in
    let n = and_parts (is_ended ns) (length (clauses_in ns) == h.clauses) c in
    let e = eqb-true (length (clauses_in ns)) h.clauses n.1 in
    record {
      variables = grind (arith, nat_tests, s.0);
      clauses = grind (arith, nat_tests, s.1, e);
      over = over_get h.variables (parts is_zero ns) (parts_in_range h.variables ns is.1);
    }

counted_read : (b : Bool) (n : ℕ) (h : Header) (ns : List Integer) → IsBehind (Some h) ns → is_counted h ns ≡ b → IfRead (clauses_if b n h ns)
counted_read true n h ns is c = printable h ns is c
counted_read false n h ns is c = tt

proof_read : (n : ℕ) (header : Option Header) (ns : List Integer) → IsBehind header ns → IfRead (at_proof n header ns)
proof_read n None ns is = tt
proof_read n (Some h) ns is = counted_read (is_counted h ns) n h ns is refl

end_read : (n : ℕ) (header : Option Header) (ns : List Integer) → IfRead (at_end n header ns)
end_read n None ns = tt
end_read n (Some h) ns = tt

unless_none : (b : Bool) (f : CnfFault) → fault_unless b f ≡ None → b ≡ true
unless_none true f h = refl
unless_none false f h = cc

append_numbers : (h : Header) (before ns : List Integer) → IsBehind (Some h) before → numbers_fault (Some h) ns ≡ None → IsBehind (Some h) (before ++ ns)
append_numbers h before [] is e = (
  is.0,
  list_all-append (λ i. nat_le i.size h.variables) before [] ∙ and_from (list_all
      (λ i. nat_le i.size h.variables) before) true is.1 refl,
)
append_numbers h before (i ∷ ns) is e = (
  is.0,
  list_all-append (λ j. nat_le j.size h.variables) before (i ∷ ns)
      ∙ and_from (list_all (λ j. nat_le j.size h.variables) before) (list_all (λ j. nat_le j.size h.variables) (i ∷ ns)) is.1
      (unless_none (list_all (λ j. nat_le j.size h.variables) (i ∷ ns)) VariableFault e),
)

-- a line that is not refused keeps this
line_keeps : (header : Option Header) (before : List Integer) (l : CnfLine) → IsBehind header before → line_fault header l ≡ None →
    IsBehind (header_after header l) (before ++ numbers_in l)
line_keeps None before (HeaderLine h) is e = (unless_none (is_small h) HeaderFault e, rw is refl)
line_keeps None before Comment is e = rw is refl
line_keeps None before (Numbers []) is e = rw is refl
line_keeps None before (Numbers (i ∷ ns)) is e = cc
line_keeps None before NoCnfLine is e = cc
line_keeps (Some h) before (HeaderLine g) is e = cc
line_keeps (Some h) before Comment is e = append_numbers h before [] is refl
line_keeps (Some h) before (Numbers ns) is e = append_numbers h before ns is e
line_keeps (Some h) before NoCnfLine is e = cc

or_read : (o : Option CnfFault) (n : ℕ) (rest : CnfAnswer) → (o ≡ None → IfRead rest) → IfRead (clauses_refused_or o n rest)
or_read None n rest f = f refl
or_read (Some g) n rest f = tt

line_read : (b : Bool) (x y : CnfAnswer) → IfRead x → IfRead y → IfRead (if b then x else y)
line_read true x y f g = f
line_read false x y f g = g

answer_read : (ts : List (List ℕ)) (n : ℕ) (header : Option Header) (before : List Integer) → IsBehind header before → IfRead (answer_from n header before ts)
answer_read [] n header before is = end_read n header before
answer_read (t ∷ ts) n header before is =
    line_read (bytes_eq t (codes "proof")) (at_proof n header before) _ (proof_read n header before is)
    (or_read (line_fault header (cnf_line t)) n (answer_from (n + 1) (header_after header (cnf_line t)) (before ++ numbers_in (cnf_line t)) ts)
    (λ e. answer_read ts (n + 1) (header_after header (cnf_line t)) (before ++ numbers_in (cnf_line t)) (line_keeps header before (cnf_line t) is e)))

pub read_is_printable : (text : List ℕ) (cnf : Cnf) (before : ℕ) → cnf_of text ≡ Clauses cnf before → IsPrintable cnf
read_is_printable text cnf before h = subst IfRead h (answer_read (split_lines text) 1 None [] refl)
