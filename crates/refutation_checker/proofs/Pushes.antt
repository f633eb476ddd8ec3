-- One more entry, whose id is above every id before.
use Rattle.std.proofs.Common.{◌≡◌, ℕ, zero, suc, ◌<◌, ◌≤◌, ◌+◌, Bool, true, false, List, [], ◌∷◌, ◌++◌, Some, refl, arith, sym, ap, subst, ◌∙◌, length, inl, inr, get_or, length-append}
use Rattle.std.specs.Prelude.{◌==◌, max, if◌then◌else◌}
use Rattle.std.proofs.lemmas.Bool.{eqb-true, cases_Bool, ne_eqb, cases_eq}
use Rattle.std.proofs.lemmas.List.{map-append, get_or_append_left}
use Rattle.std.proofs.Math.Seq.{get_or-append_seam}
use Rattle.clause_spec.specs.Clauses.{Clause}
use Rattle.clause_spec.specs.Refutation.{Hint, Known, Present, Add, is_empty_clause, present_after, known_after_line}
use Rattle.refutation_checker.specs.declared.entries.Entry.{Entry}
use Rattle.refutation_checker.specs.Entries.{look_up, ids_of, IsRising}
use Rattle.refutation_checker.proofs.Hints.{fun_ext}

-- what is known, of its parts
abbrev pub known : ℕ → Present → Bool → Known
known l p b = record { last = l; present = p; ended = b }

get-before : (xs : List ℕ) (x k : ℕ) → k < length xs → get_or (xs ++ x ∷ []) k 0 ≡ get_or xs k 0
get-before xs x k lt = get_or_append_left xs (x ∷ []) 0 k lt

get-last : (xs : List ℕ) (x k : ℕ) → k ≡ length xs → get_or (xs ++ x ∷ []) k 0 ≡ x
get-last xs x k e = rw e (get_or-append_seam xs x [] 0)

pub highest-more : (xs : List ℕ) (x last : ℕ) → ((j : ℕ) → get_or xs j 0 ≤ last) → (k : ℕ) → get_or (xs ++ x ∷ []) k 0 ≤ max last x
highest-more [] x last h zero = omega arith
highest-more [] x last h (suc k) = omega arith
highest-more (y ∷ ys) x last h zero = let a = h 0 in omega arith
highest-more (y ∷ ys) x last h (suc k) = highest-more ys x last (λ j. h (suc j)) k

pub rising-more : (xs : List ℕ) (x last : ℕ) → IsRising xs → ((j : ℕ) → get_or xs j 0 ≤ last) → last < x → IsRising (xs ++ x ∷ [])
rising-more xs x last r h lt j k less le =
    let n : length (xs ++ x ∷ []) ≡ length xs + 1 = length-append xs (x ∷ []) in
    elim (cases_eq k (length xs)) [
      | inl e ↦
          let low : j < length xs = omega (arith, e) in
          let a = h j in
          rw (get-before xs x j low, get-last xs x k e) (omega arith)
      | inr e ↦
          let high : k < length xs = omega (arith, e, n) in
          let low : j < length xs = omega arith in
          rw (get-before xs x j low, get-before xs x k high) (r j k less high)
    ]

-- every id is below
abbrev AreBelow : List Entry → ℕ → Type 0
AreBelow [] n = Unit {0}
AreBelow (e ∷ es) n = (e.id < n) × AreBelow es n

are-below : (es : List Entry) (last n : ℕ) → ((j : ℕ) → get_or (ids_of es) j 0 ≤ last) → last < n → AreBelow es n
are-below [] last n h lt = tt
are-below (e ∷ es) last n h lt = (let a = h 0 in omega arith, are-below es last n (λ j. h (suc j)) lt)

look-more : (es : List Entry) (e : Entry) (i : ℕ) → e.is_present ≡ true → AreBelow es e.id →
    look_up (es ++ e ∷ []) i ≡ (if i == e.id then Some e.clause.now else look_up es i)
look-more [] e i p b = rw p refl
look-more (x ∷ xs) e i p b = elim (cases_Bool (i == x.id)) [
  | inl a ↦
      let n : (i == e.id) ≡ false = ne_eqb i e.id (λ q. let w = eqb-true i x.id a in let l = b.0 in omega (arith, q, w, l)) in
      rw (a, n) refl
  | inr a ↦ rw (a, look-more xs e i p b.1) refl
]

module _ (es new : List Entry) (e : Entry) (last : ℕ) (set : new ≡ es ++ e ∷ []) (p : e.is_present ≡ true) (h : (j : ℕ) →
    get_or (ids_of es) j 0 ≤ last) (lt : last < e.id) where
  ids : ids_of new ≡ ids_of es ++ e.id ∷ []
  ids = ap ids_of set ∙ map-append (λ (x : Entry). x.id) es (e ∷ [])

  pub looks : (i : ℕ) → look_up new i ≡ (if i == e.id then Some e.clause.now else look_up es i)
  looks i = ap (λ (ys : List Entry). look_up ys i) set ∙ look-more es e i p (are-below es last e.id h lt)

  pub pushed-rising : IsRising (ids_of es) → IsRising (ids_of new)
  pushed-rising r = subst IsRising (sym ids) (rising-more (ids_of es) e.id last r h lt)

  pub pushed-highest : (k : ℕ) → get_or (ids_of new) k 0 ≤ max last e.id
  pushed-highest k = subst (λ (xs : List ℕ). get_or xs k 0 ≤ max last e.id) (sym ids) (highest-more (ids_of es) e.id last h k)

  pub pushed-all : (P : Clause → Type 0) → ((i : ℕ) (c : Clause) → look_up es i ≡ Some c → P c) → P e.clause.now → (i : ℕ) (c : Clause) →
      look_up new i ≡ Some c → P c
  pushed-all P w we i c f = elim (cases_Bool (i == e.id)) [
    | inl a ↦ let g : Some e.clause.now ≡ Some c = sym (looks i ∙ rw a refl) ∙ f in let q : e.clause.now ≡ c = cc in subst P q we
    | inr a ↦ w i c (sym (looks i ∙ rw a refl) ∙ f)
  ]

  pub pushed-known : (b : Bool) (k : Known) (hints : List Hint) → k.last ≡ last → k.present ≡ look_up es → b ≡ is_empty_clause e.clause.now →
      known (max last e.id) (look_up new) b ≡ known_after_line k (Add e.id e.clause.now hints)
  pushed-known b k hints l q f =
      ap (λ m. known (max m e.id) (look_up new) b) (sym l)
      ∙ ap (λ (g : Present). known (max k.last e.id) g b) (fun_ext (look_up new) (present_after k.present (Add e.id e.clause.now hints))
      (λ i. looks i ∙ ap (λ (g : Present). if i == e.id then Some e.clause.now else g i) (sym q)))
      ∙ ap (λ v. known (max k.last e.id) (present_after k.present (Add e.id e.clause.now hints)) v) f

pub empty-length : (c : Clause) → (length c == 0) ≡ is_empty_clause c
empty-length [] = refl
empty-length (x ∷ xs) = ne_eqb (length (x ∷ xs)) 0 (λ e. omega (arith, e))
