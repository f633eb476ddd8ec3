-- Lists of the edges of a point.
use Rattle.std.proofs.Common.{◌≡◌, ⊎_elim, refl, ap, sym, ◌∙◌, subst, arith, ℕ, zero, suc, Option, Some, None, Bool, true, false, List, [], ◌∷◌}
use Rattle.std.specs.Prelude.{map, filter, not, ◌&&◌, Contains, if◌then◌else◌}
use Rattle.word_spec.specs.Words.{add}
use Rattle.machine_spec.specs.Machine.{Row, Successors}
use Rattle.bilv_spec.specs.Run.{Program, some_of, named}
use Rattle.bilv_spec.specs.Points.{Point, EdgeEnd, ToAddress, ToExit, distinct, same_end, leads_on, is_top, after_call, return_ends, indirect_ends, fall_ends, jump_ends, edges_by, edges, file_row, file_word}
use Rattle.bilv_spec.specs.Graph.{returns_by}
use Rattle.bilv_spec.proofs.Pigeons.{Once, at_in, no_longer}
use Rattle.bilv_spec.proofs.PointSteps.{same_end_self, in_distinct, in_filter, in_left, in_right}
use Rattle.bilv_spec.proofs.PointsInGraph.{none_in, split_in, of_filter, of_map, of_distinct}
use Rattle.unroller.specs.Edges.{EndsMakeEdges, ExitsAreReturns}

-- each element is none of those behind it
abbrev Apart : List EdgeEnd → Type 0
Apart [] = Unit {0}
Apart (x ∷ xs) = (Contains xs x → ⊥) × Apart xs

apart_by : (f : EdgeEnd → Bool) (x : EdgeEnd) (xs : List EdgeEnd) (b : Bool) → (Contains xs x → ⊥) → Apart (filter f xs) →
    Apart (if b then x ∷ filter f xs else filter f xs)
apart_by f x xs true n a = (λ h. n (of_filter f xs x h).0, a)
apart_by f x xs false n a = a

apart_filter : (f : EdgeEnd → Bool) (xs : List EdgeEnd) → Apart xs → Apart (filter f xs)
apart_filter f [] a = tt
apart_filter f (x ∷ xs) a = apart_by f x xs (f x) a.0 (apart_filter f xs a.1)

apart_distinct : (xs : List EdgeEnd) → Apart (distinct xs)
apart_distinct [] = tt
apart_distinct (x ∷ xs) = (
  (λ h. let q = (of_filter (λ u. not (same_end x u)) (distinct xs) x h).1 in let e = same_end_self x
      in absurd (let c : false ≡ true = ap not (sym e) ∙ q in cc)),
  apart_filter (λ u. not (same_end x u)) (distinct xs) (apart_distinct xs),
)

apart_once : (xs : List EdgeEnd) → Apart xs → Once xs
apart_once [] a i j l h e = omega arith
apart_once (x ∷ xs) a zero zero l h e = omega arith
apart_once (x ∷ xs) a zero (suc j) l h e = a.0 (at_in xs j x (sym e))
apart_once (x ∷ xs) a (suc i) zero l h e = omega arith
apart_once (x ∷ xs) a (suc i) (suc j) l h e = apart_once xs a.1 i j (omega arith) (omega arith) e

-- a program's edges are each once
pub edges_once : (p : Program) (point : Point) → Once (edges p point)
edges_once p point = apart_once (edges p point) (apart_distinct (filter (leads_on p.machine.narrow) (edges_by p point (file_row p point.at))))

pub ends_make_edges : EndsMakeEdges
ends_make_edges p point ends same once first =
    let own : List EdgeEnd = edges p point in
    let own_once = apart_once own (apart_distinct (filter (leads_on p.machine.narrow) (edges_by p point (file_row p point.at)))) in
    let a = no_longer own ends (λ t h. (same t).1 h) once ToExit in
    let b = no_longer ends own (λ t h. (same t).0 h) own_once ToExit in
    record { same = same; count = omega arith; exit_first = first }

no_exit : (f : ℕ → List ℕ) (xs : List ℕ) → Contains (map (λ a. ToAddress (f a) a) xs) ToExit → ⊥
no_exit f xs h = let q = of_map (λ a. ToAddress (f a) a) xs ToExit h in absurd (let e = q.2 in cc)

module _ (length at : ℕ) (names : List ℕ) where
  through : (b call : Bool) (stack : List ℕ) → Contains (if b then indirect_ends call length at stack names else []) ToExit → (b ≡ true) × (call ≡ false) ×
      (stack ≡ [])
  through false call stack h = none_in ToExit h
  through true true stack h = absurd (no_exit (λ a. after_call true length at stack) names h)
  through true false [] h = (refl, refl, refl)
  through true false (top ∷ below) h =
      ⊎_elim (λ q. absurd (one_exit below top q)) (λ q. absurd (no_exit (λ a. top ∷ below) (filter (λ a. not (is_top (top ∷ below) a)) names) q))
      (split_in (return_ends (top ∷ below)) (map (λ a. ToAddress (top ∷ below) a) (filter (λ a. not (is_top (top ∷ below) a)) names)) ToExit h)
    where
      one_exit : (below : List ℕ) (top : ℕ) → Contains (ToAddress below top ∷ []) ToExit → ⊥
      one_exit below top (zero, l, e) = absurd (cc)
      one_exit below top (suc i, l, e) = omega arith

  into : (b call : Bool) → b ≡ true → call ≡ false → Contains (if b then indirect_ends call length at [] names else []) ToExit
  into true false h i = (0, omega arith, refl)
  into true true h i = absurd (cc)
  into false call h i = absurd (cc)

fall_no_exit : (b : Bool) (stack : List ℕ) (a : ℕ) → Contains (if b then ToAddress stack a ∷ [] else []) ToExit → ⊥
fall_no_exit false stack a h = none_in ToExit h
fall_no_exit true stack a h = no_exit (λ x. stack) (a ∷ []) h

both_true : (a b : Bool) → a ≡ true → b ≡ false → (a && not b) ≡ true
both_true true false h i = refl
both_true true true h i = absurd (cc)
both_true false b h i = absurd (cc)

of_both : (a b : Bool) → (a && not b) ≡ true → (a ≡ true) × (b ≡ false)
of_both true false h = (refl, refl)
of_both true true h = absurd (cc)
of_both false b h = absurd (cc)

module _ (p : Program) (turns at : ℕ) (stack : List ℕ) where
  abbrev point : Point
  point = record { turns = turns; stack = stack; at = at }

  exit_by : (o : Option Row) → Contains (edges_by p point o) ToExit → (returns_by at o ≡ true) × (stack ≡ [])
  exit_by None h = none_in ToExit h
  exit_by (Some row) h =
      let s : Successors = row.successors at in
      let names = named p (file_word p) row at in
      ⊎_elim
      (λ j. ⊎_elim (λ d. absurd (no_exit (λ a. after_call s.call row.length at stack) (some_of s.direct) d))
      (λ i. let q = through row.length at names s.indirect s.call stack i in (both_true s.indirect s.call q.0 q.1, q.2))
      (split_in (map (λ a. ToAddress (after_call s.call row.length at stack) a) (some_of s.direct)) (if s.indirect
      then indirect_ends s.call row.length at stack names else []) ToExit j))
      (λ f. absurd (fall_no_exit s.next stack (add 32 at row.length) f))
      (split_in (jump_ends p point row s) (fall_ends point row s) ToExit h)

exit_into : (p : Program) (turns at : ℕ) (o : Option Row) → returns_by at o ≡ true →
    Contains (edges_by p (record { turns = turns; stack = []; at = at }) o) ToExit
exit_into p turns at None h = absurd (cc)
exit_into p turns at (Some row) h =
    let s : Successors = row.successors at in
    let q = of_both s.indirect s.call h in
    let names = named p (file_word p) row at in
    let none : Point = record { turns = turns; stack = []; at = at } in
    in_left (jump_ends p none row s) (fall_ends none row s) ToExit
    (in_right (map (λ a. ToAddress (after_call s.call row.length at []) a) (some_of s.direct)) (if s.indirect then indirect_ends s.call row.length at [] names
    else []) ToExit
    (into row.length at names s.indirect s.call q.0 q.1))

pub exits_are_returns : ExitsAreReturns
exits_are_returns p turns at stack = (
  (λ h.
      let all = edges_by p (record { turns = turns; stack = stack; at = at }) (file_row p at) in
      exit_by p turns at stack (file_row p at) (of_filter (leads_on p.machine.narrow) all ToExit (of_distinct (filter (leads_on p.machine.narrow) all) ToExit h)).0),
  (λ h.
      subst (λ (z : List ℕ). Contains (edges p (record { turns = turns; stack = z; at = at })) ToExit) (sym h.1)
      (let all = edges_by p (record { turns = turns; stack = []; at = at }) (file_row p at) in
      in_distinct (filter (leads_on p.machine.narrow) all) ToExit (in_filter (leads_on p.machine.narrow) all ToExit (exit_into p turns at (file_row p at) h.0) refl))),
)
