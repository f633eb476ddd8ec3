-- What the commands of a script say of a model rests on its values for the symbols that they declare.
use Rattle.std.proofs.Common.{◌≡◌, ℕ, refl, ap, ◌∙◌, arith, Bool, true, false, List, [], ◌∷◌, ◌++◌, Option, Some, None}
use Rattle.std.specs.Prelude.{◌&&◌, ◌||◌, Contains, codes, if◌then◌else◌}
use Rattle.std.specs.Str.{bytes_eq}
use Rattle.std.proofs.lemmas.List.Elements.{Contains-append_right}
use Rattle.bilv_spec.specs.SmtLib.{Sexp, Atom, Nil, Cons, SmtValue, asserted, atom_value, binds, commands_truth, declared, declared_symbols, is_new, is_of_sort, term_value, truth_of}

abbrev Model : Type 0
Model = List ℕ → Option SmtValue

-- a symbol that is declared, and those behind it
abbrev names : Bool → List ℕ → List (List ℕ) → List (List ℕ)
names b x behind = (if b then x ∷ [] else []) ++ behind

named : (d e : Bool) (x : List ℕ) (behind : List (List ℕ)) → (d ≡ true) → Contains (names (d || e) x behind) x
named true e x behind is = (0, omega arith, refl)
named false e x behind is = absurd (cc)

named_other : (d e : Bool) (x : List ℕ) (behind : List (List ℕ)) → (e ≡ true) → Contains (names (d || e) x behind) x
named_other true e x behind is = (0, omega arith, refl)
named_other false true x behind is = (0, omega arith, refl)
named_other false false x behind is = absurd (cc)

-- two that are the same where a test is passed
where_true : (d b : Bool) (u v : Option Bool) → (d ≡ true → u ≡ v) → (if d && b then u else None) ≡ (if d && b then v else None)
where_true true b u v same = ap (λ z. if b then z else None) (same refl)
where_true false b u v same = refl

declared_by : (o : Option SmtValue) (sort : Sexp) (F G : SmtValue → Option Bool) → ((v : SmtValue) → F v ≡ G v) → declared o sort F ≡ declared o sort G
declared_by None sort F G same = refl
declared_by (Some v) sort F G same = ap (λ z. if is_of_sort v sort then z else None) (same v)

declared_same : (o p : Option SmtValue) (sort : Sexp) (F G : SmtValue → Option Bool) → o ≡ p → ((v : SmtValue) → F v ≡ G v) →
    declared o sort F ≡ declared p sort G
declared_same o p sort F G is same = ap (λ z. declared z sort F) is ∙ declared_by p sort F G same

module _ (m n : Model) where
  abbrev Agree : List (List ℕ) → Type 0
  Agree xs = (w : List ℕ) → Contains xs w → m w ≡ n w

  behind : (b : Bool) (x : List ℕ) (xs : List (List ℕ)) → Agree (names b x xs) → Agree xs
  behind b x xs agree w c = agree w (Contains-append_right (if b then x ∷ [] else []) xs w c)

  abbrev is_declared : List ℕ → Bool
  is_declared c = bytes_eq c (codes "declare-const") || bytes_eq c (codes "declare-fun")

  truth_same : (symbols : Model) (commands : Sexp) → Agree (declared_symbols commands) → truth_of m symbols commands ≡ truth_of n symbols commands
  truth_same symbols (Cons (Cons (Atom c) Nil) rest) agree = refl
  truth_same symbols (Cons (Cons (Atom c) (Cons (Atom x) Nil)) rest) agree =
      ap (λ z. if bytes_eq c (codes "set-logic") && bytes_eq x (codes "QF_ABV") then z else
      if bytes_eq c (codes "assert") then asserted (atom_value symbols x) z else None)
      (truth_same symbols rest (behind (is_declared c) x (declared_symbols rest) agree))
  truth_same symbols (Cons (Cons (Atom c) (Cons term Nil)) rest) agree =
      ap (λ z. if bytes_eq c (codes "assert") then asserted (term_value symbols term) z else None) (truth_same symbols rest agree)
  truth_same symbols (Cons (Cons (Atom c) (Cons (Atom x) (Cons sort Nil))) rest) agree =
      where_true (bytes_eq c (codes "declare-const")) (is_new (symbols x)) _ _
      (λ is. declared_same (m x) (n x) sort _ _ (agree x (named _ _ x (declared_symbols rest) is))
      (λ v. truth_same (binds symbols x v) rest (behind (is_declared c) x (declared_symbols rest) agree)))
  truth_same symbols (Cons (Cons (Atom c) (Cons (Atom x) (Cons Nil (Cons sort Nil)))) rest) agree =
      where_true (bytes_eq c (codes "declare-fun")) (is_new (symbols x)) _ _
      (λ is. declared_same (m x) (n x) sort _ _ (agree x (named_other _ _ x (declared_symbols rest) is))
      (λ v. truth_same (binds symbols x v) rest (behind (is_declared c) x (declared_symbols rest) agree)))
  truth_same symbols (Cons (Cons (Atom c) (Cons (Atom x) (Cons Nil (Cons sort (Cons term Nil))))) rest) agree =
      where_true (bytes_eq c (codes "define-fun")) (is_new (symbols x)) _ _
      (λ is. declared_by (term_value symbols term) sort _ _
      (λ v. truth_same (binds symbols x v) rest (behind (is_declared c) x (declared_symbols rest) agree)))
  truth_same symbols other agree = refl

  pub commands_same : (commands : Sexp) → Agree (declared_symbols commands) → commands_truth m commands ≡ commands_truth n commands
  unfolding commands_truth
  commands_same commands agree = truth_same (λ x. None) commands agree
