-- Look-ups by id among entries with rising ids.
use Rattle.std.proofs.Common.{◌≡◌, ◌≢◌, ℕ, zero, suc, ◌<◌, ◌≤◌, ◌+◌, Bool, true, false, List, [], ◌∷◌, ◌++◌, Option, Some, None, refl, arith, sym, ap, subst, ◌∙◌, eq-eqb, length, inl, inr, get_or, take, ◌||◌}
use Rattle.std.specs.Prelude.{◌==◌, slice_set, if◌then◌else◌, nat_eq}
use Rattle.std.specs.List.{list_any}
use Rattle.std.proofs.lemmas.Bool.{eqb-true, cases_Bool, cases_eq, ne_eqb}
use Rattle.std.proofs.lemmas.List.{get_or-map, length-map, take_more}
use Rattle.std.proofs.Math.Seq.{map-set_same}
use Rattle.clause_spec.specs.Clauses.{Clause}
use Rattle.refutation_checker.specs.declared.entries.Entry.{Entry}
use Rattle.refutation_checker.specs.Entries.{look_up, present_in, ids_of, IsRising}

pub id-at : (es : List Entry) (k : ℕ) (e : Entry) → k < length es → e ≡ get_or es k e → get_or (ids_of es) k 0 ≡ e.id
id-at es k e lt is = get_or-map (λ (x : Entry). x.id) es k e 0 lt ∙ ap (λ (x : Entry). x.id) (sym is)

pub as-rising : (old es : List Entry) → IsRising (ids_of old) → ids_of es ≡ ids_of old → IsRising (ids_of es)
as-rising old es r e = subst IsRising (sym e) r

pub id-there : (es : List Entry) (k : ℕ) (e : Entry) → k < length es → get_or (ids_of es) k 0 ≡ (get_or es k e).id
id-there es k e lt = get_or-map (λ (x : Entry). x.id) es k e 0 lt

pub length-ids : (es : List Entry) → length (ids_of es) ≡ length es
length-ids es = length-map es (λ (x : Entry). x.id)

-- what is left of the search
pub below-more : (ids : List ℕ) (m id : ℕ) → IsRising ids → m < length ids → (v : ℕ) → get_or ids m 0 ≡ v → v < id → (k : ℕ) → k < m + 1 → get_or ids k 0 < id
below-more ids m id r lt v q h k le = elim (cases_eq k m) [
  | inl e ↦ rw (e, q) h
  | inr e ↦ let s = r k m (omega (arith, e)) lt in omega arith
]

pub above-more : (ids : List ℕ) (m id : ℕ) → IsRising ids → m < length ids → (v : ℕ) → get_or ids m 0 ≡ v → id < v → (k : ℕ) → m ≤ k → k < length ids →
    id < get_or ids k 0
above-more ids m id r lt v q h k le in_range = elim (cases_eq k m) [
  | inl e ↦ rw (e, q) h
  | inr e ↦ let s = r m k (omega (arith, e)) in_range in omega arith
]

pub rising-tail : (i : ℕ) (ids : List ℕ) → IsRising (i ∷ ids) → IsRising ids
rising-tail i ids r j k lt le = r (suc j) (suc k) (omega arith) (omega arith)

pub head-below : (i : ℕ) (ids : List ℕ) (k : ℕ) → IsRising (i ∷ ids) → k < length ids → i < get_or ids k 0
head-below i ids k r lt = r 0 (suc k) (omega arith) (omega arith)

-- the entry at a place is what its id finds
pub look_up-at : (es : List Entry) (k : ℕ) (e : Entry) (id : ℕ) → IsRising (ids_of es) → k < length es → e ≡ get_or es k e → get_or (ids_of es) k 0 ≡ id →
    look_up es id ≡ present_in e
look_up-at [] k e id r lt is found = absurd (omega arith)
look_up-at (x ∷ xs) zero e id r lt is found = rw (eq-eqb id x.id (sym found)) (ap present_in (sym is))
look_up-at (x ∷ xs) (suc k) e id r lt is found =
    let b = head-below x.id (ids_of xs) k r (rw (length-ids xs) (omega arith)) in
    let n : (id == x.id) ≡ false = ne_eqb id x.id (λ q. omega (arith, q, b, found)) in
    rw n (look_up-at xs k e id (rising-tail x.id (ids_of xs) r) (omega arith) is found)

pub seen : (e : Entry) → e.is_present ≡ true → present_in e ≡ Some e.clause.now
seen e h = rw h refl

pub unseen : (e : Entry) → e.is_present ≡ false → present_in e ≡ None
unseen e h = rw h refl

pub look_up-none : (es : List Entry) (id : ℕ) → ((k : ℕ) → k < length es → get_or (ids_of es) k 0 ≢ id) → look_up es id ≡ None
look_up-none [] id h = refl
look_up-none (x ∷ xs) id h =
    let n : (id == x.id) ≡ false = ne_eqb id x.id (λ q. h 0 (omega arith) (sym q)) in
    rw n (look_up-none xs id (λ k lt. h (suc k) (omega arith)))

abbrev pub gone : Entry → Entry
gone e = record e { is_present = false }

-- an entry is taken away
pub look_up-gone : (es : List Entry) (k : ℕ) (e : Entry) → IsRising (ids_of es) → k < length es → e ≡ get_or es k e → (i : ℕ) →
    look_up (slice_set es k (gone e)) i ≡ (if i == e.id then None else look_up es i)
look_up-gone [] k e r lt is i = absurd (omega arith)
look_up-gone (x ∷ xs) zero e r lt is i = elim (cases_Bool (i == e.id)) [
  | inl a ↦ rw a refl
  | inr a ↦ let b : (i == x.id) ≡ false = ap (λ (y : Entry). i == y.id) (sym is) ∙ a in rw (a, b) refl
]
look_up-gone (x ∷ xs) (suc k) e r lt is i = elim (cases_Bool (i == x.id)) [
  | inl a ↦
      let b = head-below x.id (ids_of xs) k r (rw (length-ids xs) (omega arith)) in
      let found = id-at xs k e (omega arith) is in
      let n : (i == e.id) ≡ false = ne_eqb i e.id (λ q. let w = eqb-true i x.id a in omega (arith, q, b, found, w)) in
      rw (a, n) refl
  | inr a ↦ rw a (look_up-gone xs k e (rising-tail x.id (ids_of xs) r) (omega arith) is i)
]

or_false : (b : Bool) → (b || false) ≡ (false || b)
or_false true = refl
or_false false = refl

any-front : (i : ℕ) (xs : List ℕ) (x : ℕ) → list_any (nat_eq i) (xs ++ x ∷ []) ≡ (list_any (nat_eq i) xs || (i == x))
any-front i [] x = or_false (i == x)
any-front i (y ∷ ys) x = grind (arith, any-front i ys x)

abbrev Absent : Option Clause
Absent = None

if-or : (a b : Bool) (o : Option Clause) → (if a || b then Absent else o) ≡ (if b then Absent else if a then Absent else o)
if-or true true o = refl
if-or true false o = refl
if-or false true o = refl
if-or false false o = refl

-- one more id of a line that deletes
module _ (ids : List ℕ) (k id : ℕ) (lt : k < length ids) (is : id ≡ get_or ids k 0) (was : ℕ → Option Clause) where
  more : (i : ℕ) → (if list_any (nat_eq i) (take (k + 1) ids) then Absent else was i)
      ≡ (if i == id then Absent else if list_any (nat_eq i) (take k ids) then Absent else was i)
  more i =
      ap (λ (xs : List ℕ). if list_any (nat_eq i) xs then Absent else was i) (take_more ids k 0 lt ∙ ap (λ n. take k ids ++ n ∷ []) (sym is))
      ∙ ap (λ b. if b then Absent else was i) (any-front i (take k ids) id) ∙ if-or (list_any (nat_eq i) (take k ids)) (i == id) (was i)

  pub deleted-found : (es new : List Entry) (j : ℕ) (e : Entry) → new ≡ slice_set es j (gone (get_or es j e)) → IsRising (ids_of es) → j < length es →
      e ≡ get_or es j e → get_or (ids_of es) j 0 ≡ id →
      ((i : ℕ) → look_up es i ≡ (if list_any (nat_eq i) (take k ids) then Absent else was i)) →
      (i : ℕ) → look_up new i ≡ (if list_any (nat_eq i) (take (k + 1) ids) then Absent else was i)
  deleted-found es new j e set r lt-j is-j here inv i =
      let q : e.id ≡ id = sym (id-at es j e lt-j is-j) ∙ here in
      ap (λ (ys : List Entry). look_up ys i) (set ∙ ap (λ (y : Entry). slice_set es j (gone y)) (sym is-j)) ∙ look_up-gone es j e r lt-j is-j i ∙ ap
      (λ n. if i == n then Absent else look_up es i) q ∙ ap (λ (o : Option Clause). if i == id then Absent else o) (inv i) ∙ sym (more i)

  pub deleted-none : (es : List Entry) → ((j : ℕ) → j < length es → get_or (ids_of es) j 0 ≢ id) →
      ((i : ℕ) → look_up es i ≡ (if list_any (nat_eq i) (take k ids) then Absent else was i)) →
      (i : ℕ) → look_up es i ≡ (if list_any (nat_eq i) (take (k + 1) ids) then Absent else was i)
  deleted-none es none inv i = elim (cases_Bool (i == id)) [
    | inl a ↦ let n : look_up es i ≡ None = ap (look_up es) (eqb-true i id a) ∙ look_up-none es id none in n ∙ sym (more i ∙ rw a refl)
    | inr a ↦ inv i ∙ sym (more i ∙ rw a refl)
  ]

pub ids-gone : (es new : List Entry) (j : ℕ) (e : Entry) → new ≡ slice_set es j (gone (get_or es j e)) → ids_of new ≡ ids_of es
ids-gone es new j e set = ap ids_of set ∙ map-set_same (λ (x : Entry). x.id) es j (gone (get_or es j e)) e refl
