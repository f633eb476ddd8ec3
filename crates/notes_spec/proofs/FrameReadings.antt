-- A text says its invariants and contracts once; and with a contract no line speaks of the entry, and contracts have addresses of their own.
use Rattle.std.proofs.Common.{◌≡◌, ℕ, zero, suc, ◌+◌, refl, ap, sym, ◌∙◌, subst, arith, List, [], ◌∷◌, Some, Bool, true, false, ◌||◌, ◌&&◌, ◌==◌, not, map, filter, if◌then◌else◌, slice_get, option_map, Contains}
use Rattle.std.specs.List.{list_any}
use Rattle.machine_spec.specs.Machine.{IsAtPlace}
use Rattle.bilv_spec.specs.Notes as notes
use Rattle.bilv_spec.specs.Notes.{Expr, Number, Register, Flag, Pc, Bound, Old, Not, Binary, Notes, Assert}
use Rattle.bilv_spec.proofs.Decided.{none_some}
use Rattle.frame_spec.specs.Frames.{Contract}
use Rattle.frame_spec.specs.Theorems.{IsOfNow}
use Rattle.notes_spec.specs.Scopes.{Scope, begin}
use Rattle.notes_spec.specs.NotesGrammar.{lines_of, is_second, Says, AssertIs, InvariantIs, NeedIs, GiveIs, ModifiesAre, WritesAre, AreLines, after, has_old, is_of_entry, is_of_contract, is_invariant, is_mixed, asserts_of}
use Rattle.notes_spec.specs.FrameNotes.{FrameNotes, invariants_of, places_of, each_once, contract_of, contracts_of}
use Rattle.notes_spec.specs.FrameLaws.{OneFrameReading, NotesAreFramed, PlainHasNone, ContractsAreApart}
use Rattle.notes_spec.proofs.NotesTables.{Each, of_each}
use Rattle.notes_spec.proofs.NotesSaid.{same_says, one_reading}
use Rattle.notes_spec.proofs.Dialects.{is_framing, plain_lines}

-- notes with invariants and contracts are their parts
same_parts : (m n : FrameNotes) → m.notes ≡ n.notes → m.invariants ≡ n.invariants → m.contracts ≡ n.contracts → m ≡ n
same_parts m n a b c = λ i. record { notes = a i; invariants = b i; contracts = c i }

pub one_frame_reading : OneFrameReading
one_frame_reading v text m n p q =
    let scope = begin v (is_second (lines_of text)) in
    let is = same_says scope (lines_of text) p.is_notes.says q.is_notes.says p.is_notes.lines q.is_notes.lines in
    same_parts m n (one_reading v text m.notes n.notes p.is_notes q.is_notes)
    (sym p.invariants_are ∙ (ap (invariants_of 1) is ∙ q.invariants_are)) (sym p.contracts_are ∙ (ap contracts_of is ∙ q.contracts_are))

pub notes_are_framed : NotesAreFramed
notes_are_framed v text notes is = (
  record { notes = notes; invariants = invariants_of 1 is.says; contracts = contracts_of is.says },
  refl,
  record { is_notes = is; invariants_are = refl; contracts_are = refl },
)

-- neither of two tests
neither_of : (a b : Bool) → (a || b) ≡ false → (a ≡ false) × (b ≡ false)
neither_of false b h = (refl, h)
neither_of true b h = absurd (let x : ⊥ = cc in x)

no_invariants : (n : ℕ) (says : List Says) → list_any is_invariant says ≡ false → invariants_of n says ≡ []
no_invariants n [] h = refl
no_invariants n (InvariantIs a e ∷ says) h = absurd (let x : ⊥ = cc in x)
no_invariants n (x ∷ says) h = no_invariants (n + 1) says h

no_places : (says : List Says) → list_any is_of_contract says ≡ false → places_of says ≡ []
no_places [] h = refl
no_places (NeedIs a e ∷ says) h = absurd (let x : ⊥ = cc in x)
no_places (GiveIs a e ∷ says) h = absurd (let x : ⊥ = cc in x)
no_places (ModifiesAre a cs ∷ says) h = absurd (let x : ⊥ = cc in x)
no_places (WritesAre a e n ∷ says) h = absurd (let x : ⊥ = cc in x)
no_places (x ∷ says) h = no_places says h

no_contracts : (says : List Says) → places_of says ≡ [] → contracts_of says ≡ []
no_contracts says none = ap (λ ps. map (contract_of says) (each_once ps)) none

-- lines that are neither invariants nor of contracts
no_framing : (says : List Says) → list_any is_framing says ≡ false → (list_any is_invariant says ≡ false) × (list_any is_of_contract says ≡ false)
no_framing [] h = (refl, refl)
no_framing (x ∷ says) h =
    let p = neither_of (is_framing x) (list_any is_framing says) h in
    let q = neither_of (is_invariant x) (is_of_contract x) p.0 in
    let r = no_framing says p.1 in (
      ap (λ b. b || list_any is_invariant says) q.0 ∙ r.0,
      ap (λ b. b || list_any is_of_contract says) q.1 ∙ r.1,
    )

pub plain_has_none : PlainHasNone
plain_has_none v text n is =
    let says = is.is_notes.says in
    let none = no_framing says (plain_lines (begin v (is_second (lines_of text))) (lines_of text) says is.is_notes.lines) in
    (sym is.invariants_are ∙ no_invariants 1 says none.0, sym is.contracts_are ∙ no_contracts says (no_places says none.1))

-- lines that do not speak of the entry are no invariants, and their assert lines have no values at entry
no_entry : (says : List Says) → list_any is_of_entry says ≡ false → list_any is_invariant says ≡ false
no_entry [] h = refl
no_entry (InvariantIs a e ∷ says) h = absurd (let x : ⊥ = cc in x)
no_entry (AssertIs a e ∷ says) h = no_entry says (neither_of (has_old e) (list_any is_of_entry says) h).1
no_entry (x ∷ says) h = no_entry says h

of_now : (e : Expr) → has_old e ≡ false → IsOfNow e
of_now (notes.Memory n a) h = of_now a h
of_now (Old a) h = cc
of_now (Not a) h = of_now a h
of_now (Binary op a b) h = let p = neither_of (has_old a) (has_old b) h in (of_now a p.0, of_now b p.1)
of_now e h = tt

asserts_of_now : (n : ℕ) (says : List Says) → list_any is_of_entry says ≡ false → Each (λ (a : Assert). IsOfNow a.says) (asserts_of n says)
asserts_of_now n [] h = tt
asserts_of_now n (InvariantIs a e ∷ says) h = absurd (let x : ⊥ = cc in x)
asserts_of_now n (AssertIs a e ∷ says) h =
    let p = neither_of (has_old e) (list_any is_of_entry says) h in (of_now e p.0, asserts_of_now (n + 1) says p.1)
asserts_of_now n (x ∷ says) h = asserts_of_now (n + 1) says h

-- where some line is of a contract, none speaks of the entry
none_of_entry : (says : List Says) → is_mixed says ≡ false → (places_of says ≡ [] → ⊥) → list_any is_of_entry says ≡ false
none_of_entry says h some = by (list_any is_of_contract says) refl h where
  by : (b : Bool) → list_any is_of_contract says ≡ b → (b && list_any is_of_entry says) ≡ false → list_any is_of_entry says ≡ false
  by true is g = g
  by false is g = absurd (some (no_places says is))

-- a row can stand at the address of each line of a contract
places_aligned : (s : Scope) (texts : List (List ℕ)) (says : List Says) → AreLines s texts says → Each (IsAtPlace s.narrow) (places_of says)
places_aligned s [] [] h = tt
places_aligned s [] (x ∷ says) h = absurd h
places_aligned s (text ∷ texts) [] h = absurd h
places_aligned s (text ∷ texts) (NeedIs a e ∷ says) h = (h.0.aligned, places_aligned (after s (NeedIs a e)) texts says h.1)
places_aligned s (text ∷ texts) (GiveIs a e ∷ says) h = (h.0.aligned, places_aligned (after s (GiveIs a e)) texts says h.1)
places_aligned s (text ∷ texts) (ModifiesAre a cs ∷ says) h = (h.0.aligned, places_aligned (after s (ModifiesAre a cs)) texts says h.1)
places_aligned s (text ∷ texts) (WritesAre a e n ∷ says) h = (h.0.aligned, places_aligned (after s (WritesAre a e n)) texts says h.1)
places_aligned s (text ∷ texts) (x ∷ says) h = places_aligned (after s x) texts says h.1

-- what holds of each number, holds of those that pass a test, and of each of them once
each_filter : (P : ℕ → Type 0) (test : ℕ → Bool) (xs : List ℕ) → Each P xs → Each P (filter test xs)
each_filter P test [] h = tt
each_filter P test (x ∷ xs) h = by (test x) (each_filter P test xs h.1) where
  by : (b : Bool) → Each P (filter test xs) → Each P (if b then x ∷ filter test xs else filter test xs)
  by true rest = (h.0, rest)
  by false rest = rest

each_of_once : (P : ℕ → Type 0) (xs : List ℕ) → Each P xs → Each P (each_once xs)
each_of_once P [] h = tt
each_of_once P (x ∷ xs) h = (h.0, each_filter P (λ b. not (b == x)) (each_once xs) (each_of_once P xs h.1))

passes : (test : ℕ → Bool) (xs : List ℕ) → Each (λ x. test x ≡ true) (filter test xs)
passes test [] = tt
passes test (x ∷ xs) = by (test x) refl (passes test xs) where
  by : (b : Bool) → test x ≡ b → Each (λ x. test x ≡ true) (filter test xs) → Each (λ x. test x ≡ true) (if b then x ∷ filter test xs else filter test xs)
  by true is rest = (is, rest)
  by false is rest = rest

-- numbers that differ
abbrev pub Differ : List ℕ → Type 0
Differ [] = Unit {0}
Differ (x ∷ xs) = Each (λ y. not (y == x) ≡ true) xs × Differ xs

differ_filter : (test : ℕ → Bool) (xs : List ℕ) → Differ xs → Differ (filter test xs)
differ_filter test [] h = tt
differ_filter test (x ∷ xs) h = by (test x) (differ_filter test xs h.1) where
  by : (b : Bool) → Differ (filter test xs) → Differ (if b then x ∷ filter test xs else filter test xs)
  by true rest = (each_filter (λ y. not (y == x) ≡ true) test xs h.0, rest)
  by false rest = rest

pub once_differ : (xs : List ℕ) → Differ (each_once xs)
once_differ [] = tt
once_differ (x ∷ xs) =
    let test : ℕ → Bool = λ b. not (b == x) in (passes test (each_once xs), differ_filter test (each_once xs) (once_differ xs))

each_at : {X : Type 0} (P : X → Type 0) (xs : List X) (i : ℕ) (x : X) → Each P xs → slice_get xs i ≡ Some x → P x
each_at {X = X} P [] i x h is = absurd (none_some X x is)
each_at P (y ∷ xs) zero x h is = let same : y ≡ x = cc in subst P same h.0
each_at P (y ∷ xs) (suc i) x h is = each_at P xs i x h.1 is

not_again : (x y a : ℕ) → x ≡ a → y ≡ a → not (y == x) ≡ true → ⊥
not_again x y a p q h = grind arith

same_rank : (xs : List ℕ) (i j a : ℕ) → Differ xs → slice_get xs i ≡ Some a → slice_get xs j ≡ Some a → i ≡ j
same_rank [] i j a h p q = absurd (none_some ℕ a p)
same_rank (x ∷ xs) zero zero a h p q = refl
same_rank (x ∷ xs) zero (suc j) a h p q =
    let is : x ≡ a = cc in absurd (not_again x a a is refl (each_at (λ y. not (y == x) ≡ true) xs j a h.0 q))
same_rank (x ∷ xs) (suc i) zero a h p q =
    let is : x ≡ a = cc in absurd (not_again x a a is refl (each_at (λ y. not (y == x) ≡ true) xs i a h.0 p))
same_rank (x ∷ xs) (suc i) (suc j) a h p q = ap suc (same_rank xs i j a h.1 p q)

-- the address of a contract is that of its rank
ranked_at : (f : ℕ → Contract) → ((a : ℕ) → (f a).at ≡ a) → (xs : List ℕ) (i : ℕ) (x : Contract) → slice_get (map f xs) i ≡ Some x →
    slice_get xs i ≡ Some x.at
ranked_at f at_is [] i x is = absurd (none_some Contract x is)
ranked_at f at_is (a ∷ xs) zero x is = ap (λ a. Some a) (sym (at_is a)) ∙ ap (option_map (λ (c : Contract). c.at)) is
ranked_at f at_is (a ∷ xs) (suc i) x is = ranked_at f at_is xs i x is

some_place : (ps : List ℕ) (i a : ℕ) → slice_get (each_once ps) i ≡ Some a → ps ≡ [] → ⊥
some_place [] i a is none = none_some ℕ a is
some_place (p ∷ ps) i a is none = cc

pub contracts_are_apart : ContractsAreApart
contracts_are_apart v text n is rank x at =
    let says = is.is_notes.says in
    let at_rank : (i : ℕ) (y : Contract) → slice_get n.contracts i ≡ Some y → slice_get (each_once (places_of says)) i ≡ Some y.at =
    λ i y h. ranked_at (contract_of says) (λ a. refl) (each_once (places_of says)) i y (ap (λ l. slice_get l i) is.contracts_are ∙ h) in
    let here = at_rank rank x at in
    let none = none_of_entry says is.is_notes.unmixed (some_place (places_of says) rank x.at here) in
    let aligned = places_aligned (begin v (is_second (lines_of text))) (lines_of text) says is.is_notes.lines in (
      sym is.invariants_are ∙ no_invariants 1 says (no_entry says none),
      λ a c. of_each (λ (a : Assert). IsOfNow a.says) (asserts_of 1 says) a (asserts_of_now 1 says none)
          (subst (λ l. Contains l a) (sym is.is_notes.notes_are.3) c),
      each_at (IsAtPlace v.narrow) (each_once (places_of says)) rank x.at (each_of_once (IsAtPlace v.narrow) (places_of says) aligned) here,
      λ other y there same. same_rank (each_once (places_of says)) rank other x.at (once_differ (places_of says)) here
          (subst (λ a. slice_get (each_once (places_of says)) other ≡ Some a) (sym same) (at_rank other y there)),
    )
