-- Lines of an address: the first assert line that is false, and the targets.
use Rattle.std.proofs.Common.{◌≡◌, ℕ, zero, suc, ◌≤◌, ◌<◌, List, [], ◌∷◌, length, get_or, map, true, false, refl, sym, ap, ◌∙◌, subst, arith, inl, inr, eq-eqb, ne_eqb}
use Rattle.std.specs.Prelude.{Bool, Some, None, ◌==◌, ◌||◌, ◌&&◌, nat_eq, not, if◌then◌else◌}
use Rattle.std.specs.List.{list_any}
use Rattle.std.proofs.lemmas.Bool.{cases_eq}
use Rattle.std.proofs.lemmas.List.{length-map, get_or_default}
use Rattle.std.proofs.Math.ListN.{get_or-map}
use Rattle.std.proofs.lemmas.List.Folds.{list_any-append}
use Rattle.word_spec.specs.Memory.{Endian}
use Rattle.word_spec.specs.State.{State}
use Rattle.bilv_spec.specs.Notes as notes
use Rattle.bilv_spec.specs.Run.{false_assert, targets_at}
use Rattle.notes_value.specs.Views.{expr_of}
use Rattle.notes_value.specs.NoteViews.{assert_of, targets_of}
use Rattle.notes_value.specs.declared.notes.Assert.{Assert}
use Rattle.notes_value.specs.declared.notes.Targets.{Targets}
use Rattle.notes_index.specs.Indexed.{ArePlacesOf, assert_places, targets_places}
use Rattle.table_run.specs.Asserts.{is_hit}

module _ {X : Type 0} (f : X → ℕ) (xs : List X) (index : List (ℕ × ℕ)) (at low high : ℕ) (group : ArePlacesOf (map f xs) index at low high) where
  -- what stands in the group of an address is the place of an element with the address
  pub place_at : (j : ℕ) (d : ℕ × ℕ) (e : X) → low ≤ j → j < high
      → ((get_or index j d).1 < length xs) × (f (get_or xs (get_or index j d).1 e) ≡ at)
  place_at j d e from upto =
      let only = group.only j d from upto in
      let fits : (get_or index j d).1 < length (map f xs) = only.0 in
      let k = (get_or index j d).1 in
      (rw (length-map xs f) at fits, sym (get_or_default (map f xs) k 0 (f e) fits ∙ get_or-map f xs k e) ∙ only.1)

  -- and an element with the address stands in the group
  pub in_group : (k : ℕ) (e : X) → k < length xs → f (get_or xs k e) ≡ at → (j : ℕ) × (low ≤ j) × (j < high) × ((d : ℕ × ℕ) → (get_or index j d).1 ≡ k)
  in_group k e w here =
      let fits : k < length (map f xs) = rw (length-map xs f) w in
      group.all k fits (get_or_default (map f xs) k 0 (f e) fits ∙ get_or-map f xs k e ∙ here)

module _ (o : Endian) (now entry : State) where
  first_none : (asserts : List Assert) → ((k : ℕ) (e : Assert) → k < length asserts → is_hit o now entry (get_or asserts k e) ≡ false)
      → None ≡ false_assert o (map assert_of asserts) now entry
  first_none [] none = refl
  first_none (a ∷ rest) none = rw (none 0 a (omega arith)) (first_none rest (λ k e w. none (suc k) e (omega arith)))

  first_some : (asserts : List Assert) (i : ℕ) (d : Assert) → i < length asserts → is_hit o now entry (get_or asserts i d) ≡ true
      → ((k : ℕ) (e : Assert) → k < i → is_hit o now entry (get_or asserts k e) ≡ false) →
      Some (get_or asserts i d).line ≡ false_assert o (map assert_of asserts) now entry
  first_some [] i d w hit none = absurd (omega arith)
  first_some (a ∷ rest) zero d w hit none = rw hit refl
  first_some (a ∷ rest) (suc i) d w hit none = rw (none 0 a (omega arith)) (first_some rest i d (omega arith) hit (λ k e l. none (suc k) e (omega arith)))

  -- no line before the least place that was found is a false one of the address
  before_least : (asserts : List Assert) (index : List (ℕ × ℕ)) (low high least : ℕ) → ArePlacesOf (assert_places asserts) index now.pc low high
      → least ≤ length asserts
      → ((j : ℕ) (d : ℕ × ℕ) (e : Assert) → low ≤ j → j < high → (get_or index j d).1 < least →
      is_hit o now entry (get_or asserts (get_or index j d).1 e) ≡ false)
      → (k : ℕ) (e : Assert) → k < least → is_hit o now entry (get_or asserts k e) ≡ false
  before_least asserts index low high least group most none k e less =
      elim (cases_eq (get_or asserts k e).at now.pc) as (λ _. is_hit o now entry (get_or asserts k e) ≡ false) [
        | inl here ↦
            let found = in_group (λ (a : Assert). a.at) asserts index now.pc low high group k e (omega arith) here in
            let same = found.3 (0, 0) in
            subst (λ n. is_hit o now entry (get_or asserts n e) ≡ false) same (none found.0 (0, 0) e found.1 found.2 (omega arith))
        | inr away ↦
            ap (λ b. b && not (notes.is_true (notes.value o (expr_of (get_or asserts k e).says) now entry))) (ne_eqb (get_or asserts k e).at now.pc away)
      ]

  pub no_assert : (asserts : List Assert) (index : List (ℕ × ℕ)) (low high least : ℕ) → ArePlacesOf (assert_places asserts) index now.pc low high
      → least ≡ length asserts
      → ((j : ℕ) (d : ℕ × ℕ) (e : Assert) → low ≤ j → j < high → (get_or index j d).1 < least →
      is_hit o now entry (get_or asserts (get_or index j d).1 e) ≡ false)
      → None ≡ false_assert o (map assert_of asserts) now entry
  no_assert asserts index low high least group all none =
      first_none asserts (λ k e w. before_least asserts index low high least group (omega arith) none k e (omega arith))

  pub some_assert : (asserts : List Assert) (index : List (ℕ × ℕ)) (low high least : ℕ) (d : Assert) → ArePlacesOf (assert_places asserts) index now.pc low high
      → least < length asserts → is_hit o now entry (get_or asserts least d) ≡ true
      → ((j : ℕ) (d : ℕ × ℕ) (e : Assert) → low ≤ j → j < high → (get_or index j d).1 < least →
      is_hit o now entry (get_or asserts (get_or index j d).1 e) ≡ false)
      → Some (get_or asserts least d).line ≡ false_assert o (map assert_of asserts) now entry
  some_assert asserts index low high least d group within hit none =
      first_some asserts least d within hit (λ k e l. before_least asserts index low high least group (omega arith) none k e l)

or_true : (b : Bool) → (b || true) ≡ true
or_true true = refl
or_true false = refl

listed_more : (to at : ℕ) (t : Targets) (rest : List Targets)
    → list_any (nat_eq to) (targets_at (map targets_of (t ∷ rest)) at)
    ≡ (list_any (nat_eq to) (if t.at == at then t.to.items else []) || list_any (nat_eq to) (targets_at (map targets_of rest) at))
listed_more to at t rest = list_any-append (nat_eq to) (if t.at == at then t.to.items else []) (targets_at (map targets_of rest) at)

listed_some : (to at : ℕ) (targets : List Targets) (k : ℕ) (e : Targets) → k < length targets → (get_or targets k e).at ≡ at
    → list_any (nat_eq to) (get_or targets k e).to.items ≡ true → list_any (nat_eq to) (targets_at (map targets_of targets) at) ≡ true
listed_some to at [] k e w here has = absurd (omega arith)
listed_some to at (t ∷ rest) zero e w here has =
    listed_more to at t rest
    ∙ ap (λ b. list_any (nat_eq to) (if b then t.to.items else []) || list_any (nat_eq to) (targets_at (map targets_of rest) at)) (eq-eqb t.at at here)
    ∙ ap (λ b. b || list_any (nat_eq to) (targets_at (map targets_of rest) at)) has
listed_some to at (t ∷ rest) (suc k) e w here has =
    listed_more to at t rest
    ∙ ap (λ b. list_any (nat_eq to) (if t.at == at then t.to.items else []) || b) (listed_some to at rest k e (omega arith) here has)
    ∙ or_true (list_any (nat_eq to) (if t.at == at then t.to.items else []))

listed_none : (to at : ℕ) (targets : List Targets)
    → ((k : ℕ) (e : Targets) → k < length targets → (get_or targets k e).at ≡ at → list_any (nat_eq to) (get_or targets k e).to.items ≡ false)
    → list_any (nat_eq to) (targets_at (map targets_of targets) at) ≡ false
listed_none to at [] none = refl
listed_none to at (t ∷ rest) none =
    listed_more to at t rest
    ∙ ap (λ b. list_any (nat_eq to) (if t.at == at then t.to.items else []) || b) (listed_none to at rest (λ k e w. none (suc k) e (omega arith)))
    ∙ elim (cases_eq t.at at) as (λ _. (list_any (nat_eq to) (if t.at == at then t.to.items else []) || false) ≡ false) [
      | inl here ↦
          ap (λ b. list_any (nat_eq to) (if b then t.to.items else []) || false) (eq-eqb t.at at here)
          ∙ ap (λ b. b || false) (none 0 t (omega arith) here)
      | inr away ↦ ap (λ b. list_any (nat_eq to) (if b then t.to.items else []) || false) (ne_eqb t.at at away)
    ]

-- the target stands in the line of a place of the group
pub is_listed : (to at : ℕ) (targets : List Targets) (index : List (ℕ × ℕ)) (low high i : ℕ) (d : ℕ × ℕ) (t : Targets) →
    ArePlacesOf (targets_places targets) index at low high
    → low ≤ i → i < high → list_any (nat_eq to) (get_or targets (get_or index i d).1 t).to.items ≡ true
    → true ≡ list_any (nat_eq to) (targets_at (map targets_of targets) at)
is_listed to at targets index low high i d t group from upto has =
    let place = place_at (λ (x : Targets). x.at) targets index at low high group i d t from upto in
    let k = (get_or index i d).1 in
    sym (listed_some to at targets k t place.0 place.1 has)

-- it stands in none of them
pub not_listed : (to at : ℕ) (targets : List Targets) (index : List (ℕ × ℕ)) (low high : ℕ) → ArePlacesOf (targets_places targets) index at low high
    → ((j : ℕ) (d : ℕ × ℕ) (e : Targets) → low ≤ j → j < high → list_any (nat_eq to) (get_or targets (get_or index j d).1 e).to.items ≡ false)
    → false ≡ list_any (nat_eq to) (targets_at (map targets_of targets) at)
not_listed to at targets index low high group none =
    sym (listed_none to at targets (λ k e w here.
    let found = in_group (λ (x : Targets). x.at) targets index at low high group k e w here in
    subst (λ n. list_any (nat_eq to) (get_or targets n e).to.items ≡ false) (found.3 (0, 0)) (none found.0 (0, 0) e found.1 found.2)))
