-- Learned clauses as lines of a log.
use Rattle.std.proofs.Common.{◌≡◌, ℕ, zero, suc, ◌+◌, ◌^◌, ◌≤◌, Bool, true, false, ◌&&◌, List, [], ◌∷◌, ◌++◌, Some, None, refl, arith, sym, ap, ◌∙◌, length, eq-eqb, append_assoc, append-nil, length-append, inl, inr, ◌⊎◌, map}
use Rattle.std.specs.Prelude.{◌==◌, Contains, slice_get, if◌then◌else◌, nat_lt, nat_le, max, Vec}
use Rattle.std.specs.List.{list_all}
use Rattle.std.proofs.lemmas.Bool.{and_parts, both_ways, ne_eqb, cases_eq}
use Rattle.std.proofs.lemmas.Bool.Decides.{nat_tests}
use Rattle.std.proofs.lemmas.List.{map-append}
use Rattle.std.proofs.lemmas.List.Elements.{Contains-append_left, Contains-push_cases}
use Rattle.clause_spec.specs.Clauses.{Literal, Clause, same, has, IsOnVariables, AreOnVariables}
use Rattle.clause_spec.specs.Refutation.{LogLine, Add, Known, Present, judge, at_start, present_after, known_at_start, known_after, first_refusal, some_above, some_negative, is_listed, hint_size, is_empty_clause}
use Rattle.clause_spec.specs.Empowering.{IsEmpowering, AreLearned}
use Rattle.clause_spec.proofs.Looks.{same-self, or_left, or_right}
use Rattle.cnf_form.specs.declared.form.Hint.{Hint}
use Rattle.cnf_form.specs.declared.form.Hint.TheVariants.{ById, Negative}
use Rattle.cnf_form.specs.declared.form.LogLine as code
use Rattle.cnf_form.specs.declared.form.LogLine.TheVariants as variants
use Rattle.cnf_form.specs.Views.{hint_of, line_of}
use Rattle.std.specs.declared.alloc.Global.{Global}
use Rattle.sat_core.specs.Kept.{names}
use Rattle.sat_core.specs.Answers.{IsLearned}
use Rattle.sat_core.proofs.Literals.{fun_ext}
use Rattle.sat_core.proofs.Shorter.{hints-follow}

none-above : (n : ℕ) (c : Clause) → IsOnVariables n c → some_above n c ≡ false
none-above n [] w = refl
none-above n (x ∷ xs) w =
    let a = (w x (or_left (same x x) (has xs x) (same-self x))).1 in
    let b : nat_lt n x.variable ≡ false = grind (arith, nat_tests, a) in
    rw b (none-above n xs (λ l p. w l (or_right (same x l) (has xs l) p)))

listed-literals : (n : ℕ) (c : Clause) → n ≤ 2 ^ 62 → IsOnVariables n c → list_all (λ (l : Literal). is_listed l.variable) c ≡ true
listed-literals n [] few w = refl
listed-literals n (x ∷ xs) few w =
    let a = w x (or_left (same x x) (has xs x) (same-self x)) in
    let b : is_listed x.variable ≡ true = grind (arith, nat_tests, a.0, a.1, few) in
    rw b (listed-literals n xs few (λ l p. w l (or_right (same x l) (has xs l) p)))

-- hints that name some of the first clauses
listed-hints : (n : ℕ) (hints : List Hint) → n ≤ 2 ^ 62 → list_all (names n) hints ≡ true →
    (list_all (λ h. is_listed (hint_size h)) (map hint_of hints) ≡ true) × (some_negative (map hint_of hints) ≡ false)
listed-hints n [] few h = (refl, refl)
listed-hints n (Negative i ∷ hs) few h = absurd (cc)
listed-hints n (ById i ∷ hs) few h =
    let p = and_parts (nat_lt 0 i && nat_le i n) (list_all (names n) hs) h in
    let a = and_parts (nat_lt 0 i) (nat_le i n) p.0 in
    let b : is_listed i ≡ true = grind (arith, nat_tests, a.0, a.1, few) in
    let r = listed-hints n hs few p.1 in
    (rw b r.0, r.1)

pub get-last : (cs : List Clause) (c : Clause) (i : ℕ) → slice_get (cs ++ c ∷ []) i ≡ (if i == length cs then Some c else slice_get cs i)
get-last [] c zero = refl
get-last [] c (suc i) = rw (ne_eqb (suc i) 0 (λ e. omega (arith, e))) refl
get-last (x ∷ xs) c zero = rw (ne_eqb 0 (length (x ∷ xs)) (λ e. omega (arith, e))) refl
get-last (x ∷ xs) c (suc i) = elim (cases_eq i (length xs)) [
  | inl e ↦ rw (eq-eqb (suc i) (length (x ∷ xs)) (omega (arith, e))) (get-last xs c i ∙ rw (eq-eqb i (length xs) e) refl)
  | inr e ↦ rw (ne_eqb (suc i) (length (x ∷ xs)) (λ z. e (omega (arith, z)))) (get-last xs c i ∙ rw (ne_eqb i (length xs) e) refl)
]

start-last : (cs : List Clause) (c : Clause) (i : ℕ) → (if i == length cs + 1 then Some c else at_start cs i) ≡ at_start (cs ++ c ∷ []) i
start-last cs c zero = rw (ne_eqb 0 (length cs + 1) (λ e. omega (arith, e))) refl
start-last cs c (suc i) = elim (cases_eq i (length cs)) [
  | inl e ↦ rw (eq-eqb (suc i) (length cs + 1) (omega (arith, e))) (sym (get-last cs c i ∙ rw (eq-eqb i (length cs) e) refl))
  | inr e ↦ rw (ne_eqb (suc i) (length cs + 1) (λ z. e (omega (arith, z)))) (sym (get-last cs c i ∙ rw (ne_eqb i (length cs) e) refl))
]

abbrev known_of : ℕ → Present → Bool → Known
known_of l p b = record { last = l; present = p; ended = b }

module _ (cs : List Clause) (c : Clause) (hints : List Hint) where
  abbrev pub line : LogLine
  line = Add (length cs + 1) c (map hint_of hints)

  known-last : is_empty_clause c ≡ false → known_after (known_at_start cs) line ≡ known_at_start (cs ++ c ∷ [])
  known-last e =
      let f : present_after (at_start cs) line ≡ at_start (cs ++ c
      ∷ []) = fun_ext (present_after (at_start cs) line) (at_start (cs ++ c ∷ [])) (start-last cs c) in
      let n : length cs + 1 ≡ length (cs ++ c ∷ []) = sym (length-append cs (c ∷ [])) in
      let high : max (length cs) (length cs + 1) ≡ length cs + 1 = omega arith in
      ap (λ m. known_of m (present_after (at_start cs) line) (is_empty_clause c)) high
      ∙ ap (λ b. known_of (length cs + 1) (present_after (at_start cs) line) b) e
      ∙ ap (λ (p : Present). known_of (length cs + 1) p false) f
      ∙ ap (λ l. known_of l (at_start (cs ++ c ∷ [])) false) n

  module _ (n : ℕ) (few : n ≤ 2 ^ 62) (small : length cs + 1 ≤ 2 ^ 62) (h : IsLearned cs n c hints) where
    judged : judge n (known_at_start cs) line ≡ None
    judged =
        let a : nat_le (length cs + 1) (2 ^ 62) ≡ true = grind (arith, nat_tests, small) in
        let b : nat_le (length cs + 1) (length cs) ≡ false = grind (arith, nat_tests) in
        let l : length cs ≤ 2 ^ 62 = omega arith in
        let g = listed-hints (length cs) hints l h.hinted.named in
        rw (a, listed-literals n c few h.over, g.0, b, none-above n c h.over, h.plain, g.1) h.hinted.judged

    line-judged : is_empty_clause c ≡ false → (rest : List LogLine) → ((k : ℕ) → first_refusal n (known_at_start (cs ++ c ∷ [])) k rest ≡ None) →
        (k : ℕ) → first_refusal n (known_at_start cs) k (line ∷ rest) ≡ None
    line-judged e rest f k = rw (judged, known-last e) (f (k + 1))

    last-judged : c ≡ [] → (k : ℕ) → first_refusal n (known_at_start cs) k (line ∷ []) ≡ None
    last-judged e k = rw (judged, e) refl

-- the clauses by now, and the lines that added them to the first ones
pub record IsSearched (n : ℕ) (first cs : List Clause) (lines : List LogLine) : Type 0 where
  pub over : AreOnVariables n cs
  pub more : (c : Clause) → Contains first c → Contains cs c
  pub judged : (rest : List LogLine) → ((k : ℕ) → first_refusal n (known_at_start cs) k rest ≡ None) →
      (k : ℕ) → first_refusal n (known_at_start first) k (lines ++ rest) ≡ None
  pub spent : (rest : List LogLine) → AreLearned cs rest → AreLearned first (lines ++ rest)

pub searched-start : (n : ℕ) (first cs : List Clause) (lines : List LogLine) → AreOnVariables n first → cs ≡ first → lines ≡ [] → IsSearched n first cs lines
searched-start n first cs lines w e f = rw (e, f) record { over = w; more = λ c h. h; judged = λ rest h k. h k; spent = λ rest h. h }

pub searched-spent : (n : ℕ) (first cs : List Clause) (lines : List LogLine) → IsSearched n first cs lines → AreLearned first lines
searched-spent n first cs lines s = let f = s.spent [] tt in let e : lines ++ [] ≡ lines = simp append-nil in rw e at f

pub searched-next : (n : ℕ) (first cs : List Clause) (lines : List LogLine) → IsSearched n first cs lines → (c : Clause) (hints : List Hint) →
    IsLearned cs n c hints → (length c == 0) ≡ false → AreLearned first (lines ++ Add 0 c [] ∷ [])
searched-next n first cs lines s c hints h z =
    let useful : IsEmpowering cs c = elim h.useful [ inl e ↦ absurd (let g = rw e at z in cc) | inr f ↦ f ] in
    s.spent (Add 0 c [] ∷ []) (hints-follow cs c hints h.hinted, useful, tt)

not-empty : (c : Clause) → (length c == 0) ≡ false → is_empty_clause c ≡ false
not-empty [] h = absurd (cc)
not-empty (x ∷ xs) h = refl

empty-from : (c : Clause) → (length c == 0) ≡ true → c ≡ []
empty-from [] h = refl
empty-from (x ∷ xs) h = absurd (both_ways (length (x ∷ xs) == 0) (ne_eqb (length (x ∷ xs)) 0 (λ e. omega (arith, e))) h)

module _ (n : ℕ) (first cs : List Clause) (lines : List LogLine) (s : IsSearched n first cs lines) (c : Clause) (hints : List Hint) (h : IsLearned cs n c hints)
    (few : n ≤ 2 ^ 62) (small : length cs + 1 ≤ 2 ^ 62) where
  useful-now : (length c == 0) ≡ false → (c ≡ []) ⊎ IsEmpowering cs c → IsEmpowering cs c
  useful-now z u = elim u [ inl e ↦ absurd (let g = rw e at z in cc) | inr f ↦ f ]

  regroup : (rest : List LogLine) → (lines ++ line cs c hints ∷ []) ++ rest ≡ lines ++ (line cs c hints ∷ rest)
  regroup rest = simp append_assoc

  pub searched-step : (length c == 0) ≡ false → IsSearched n first (cs ++ c ∷ []) (lines ++ line cs c hints ∷ [])
  searched-step z = record {
    over = λ d k. elim (Contains-push_cases cs c d k) [ inl e ↦ s.over d e | inr e ↦ rw (← e) h.over ];
    more = λ x k. Contains-append_left cs (c ∷ []) x (s.more x k);
    judged = λ rest f k. rw (regroup rest) (s.judged (line cs c hints ∷ rest) (line-judged cs c hints n few small h (not-empty c z) rest f) k);
    spent = λ rest f. rw (regroup rest) (s.spent (line cs c hints ∷ rest) (hints-follow cs c hints h.hinted, useful-now z h.useful, f));
  }

  pub searched-end : (length c == 0) ≡ true → first_refusal n (known_at_start first) 1 (lines ++ line cs c hints ∷ []) ≡ None
  searched-end z = s.judged (line cs c hints ∷ []) (last-judged cs c hints n few small h (empty-from c z)) 1

-- one more line of the code's log
pub line-pushed : (cs : List Clause) (c clause : Clause) (hints : Vec Hint Global) (id : ℕ) (lines more : List code.LogLine) →
    more ≡ lines ++ variants.Add id clause hints ∷ [] → id ≡ length cs + 1 → clause ≡ c → map line_of more ≡ map line_of lines ++ line cs c hints.items ∷ []
line-pushed cs c clause hints id lines more e is same_clause =
    ap (map line_of) e ∙ map-append line_of lines (variants.Add id clause hints ∷ []) ∙ rw (is, same_clause) refl
