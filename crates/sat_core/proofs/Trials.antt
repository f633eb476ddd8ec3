-- Trials: what a trail with more steps keeps, and what is tested half by half.
use Rattle.std.proofs.Common.{◌≡◌, ℕ, ◌<◌, ◌-◌, Bool, true, false, not, List, [], ◌∷◌, ◌++◌, sym, ap, ◌∙◌, subst, arith, length, length-drop, take, drop, append_assoc, append-nil, inl, inr, ◌⊎◌, vec_capacity}
use Rattle.std.specs.Prelude.{reverse}
use Rattle.std.proofs.lemmas.Bool.{or_cases, and_parts, not-true, both_ways}
use Rattle.std.proofs.lemmas.List.{take-append-drop, take_all}
use Rattle.clause_spec.specs.Clauses.{Literal, Clause, same, opposite, has}
use Rattle.clause_spec.specs.UnitPropagation.{Includes, negations_but}
use Rattle.clause_spec.proofs.Looks.{same-true, or_left, or_right}
use Rattle.clause_spec.proofs.NewClauses.{opposite_twice}
use Rattle.sat_core.specs.declared.propagator.Propagator.{Propagator}
use Rattle.sat_core.specs.declared.trail.Step.{Step}
use Rattle.sat_core.specs.declared.trail.Trail.{Trail}
use Rattle.sat_core.specs.ClosedSets.{IsQuiet}
use Rattle.sat_core.specs.Kept.{IsNeeded}
use Rattle.sat_core.specs.Tables.{true_in}
use Rattle.sat_core.specs.Steps.{told}
use Rattle.sat_core.specs.Trails.{nothing, IsTrail}
use Rattle.sat_core.specs.Links.{AreKept}
use Rattle.sat_core.specs.Propagators.{IsSound}
use Rattle.sat_core.specs.Trials.{IsCalm, IsLater, also, IsTestedAt, AreTested}
use Rattle.sat_core.proofs.Closing.{told-part, take-length}
use Rattle.sat_core.proofs.Literals.{fun_ext, has-append}
use Rattle.sat_core.proofs.Quiet.{quiet-no_conflict}

pub later-includes : (old new : Propagator) → IsSound old → IsLater old new → Includes (true_in old.trail.table.items) (true_in new.trail.table.items)
later-includes old new s k l h =
    k.sound.trail.told_by l ∙ ap (λ (z : List Step). told nothing (reverse z) l) k.steps ∙ told-part old.trail.steps.items k.more l
    (sym (s.trail.told_by l) ∙ h)

pub later-later : (a b d : Propagator) → IsSound a → IsLater a b → IsLater b d → IsLater a d
later-later a b d s k n = record {
  sound = n.sound;
  clauses = n.clauses ∙ k.clauses;
  size = n.size ∙ k.size;
  more = k.more ++ n.more;
  steps = n.steps ∙ ap (λ (z : List Step). z ++ n.more) k.steps ∙ append_assoc a.trail.steps.items k.more n.more;
  cuts = λ done holds i j kept. n.cuts done holds (λ l p. later-includes a b s k l (i l p))
      (λ l p. later-includes a b s k l (j l p)) (k.cuts done holds i j kept);
}

-- the steps behind the first ones are taken back
module _ (old mid : Propagator) (t : Trail) (n : ℕ) (k : IsLater old mid) (trail : IsTrail t.table.items t.steps.items (vec_capacity t.steps))
    (left : t.steps.items ≡ take n mid.trail.steps.items) (mark : n ≡ length old.trail.steps.items) (size : length t.table.items
    ≡ length mid.trail.table.items) where
  pub back-steps : t.steps.items ≡ old.trail.steps.items
  back-steps = left ∙ ap (take n) k.steps ∙ take-length n old.trail.steps.items k.more mark

  pub back-later : IsLater old (record { clauses = mid.clauses; short = mid.short; watches = mid.watches; trail = t })
  back-later = record {
    sound = record { ready = rw size k.sound.ready; trail = trail };
    clauses = k.clauses;
    size = size ∙ k.size;
    more = [];
    steps = back-steps ∙ sym (append-nil old.trail.steps.items);
    cuts = k.cuts;
  }

-- where no step is left behind, propagation has nothing to do as before
module _ (old new : Propagator) (s : IsSound old) (k : IsLater old new) (e : new.trail.steps.items ≡ old.trail.steps.items) where
  same-values : true_in new.trail.table.items ≡ true_in old.trail.table.items
  same-values = fun_ext (true_in new.trail.table.items) (true_in old.trail.table.items)
      (λ l. k.sound.trail.told_by l ∙ ap (λ (z : List Step). told nothing (reverse z) l) e ∙ sym (s.trail.told_by l))

  pub calm-back : IsCalm old → IsCalm new
  calm-back c = record {
    kept = subst (λ (h : Literal → Bool). AreKept new.watches.watched.items [] h h) (sym same-values)
        (k.cuts (true_in old.trail.table.items) (true_in old.trail.table.items) (λ l p. p) (λ l p. p) c.kept);
    quiet = subst (λ (h : Literal → Bool). IsQuiet new.clauses.items h) (sym same-values) (rw k.clauses c.quiet);
  }

pub also-includes : (given holds : Literal → Bool) (c : Clause) → Includes given holds → ((m : Literal) → has c (opposite m) ≡ true → holds m ≡ true) →
    Includes (also given c) holds
also-includes given holds c i j m h = elim (or_cases (given m) (has c (opposite m)) h) [ inl a ↦ i m a | inr b ↦ j m b ]

pub tested-more : (cs : List Clause) (given more : Literal → Bool) (c : Clause) → Includes given more → AreTested cs more c → AreTested cs given c
tested-more cs given more c i t = λ l h.
    (let r = t l h in record { holds = r.holds; quiet = r.quiet; included = λ m p. r.included m (i m p); denied = r.denied })

one-literal : (c : Clause) (l m : Literal) → length c < 2 → has c l ≡ true → has c m ≡ true → same l m ≡ false → ⊥
one-literal [] l m few h g d = cc
one-literal (x ∷ y ∷ ys) l m few h g d = omega arith
one-literal (x ∷ []) l m few h g d = elim (or_cases (same x l) false h) [
  | inl a ↦ elim (or_cases (same x m) false g) [
    | inl b ↦ both_ways (same l m) d (ap (λ (z : Literal). same z m) (sym (same-true x l a)) ∙ b)
    | inr b ↦ cc
  ]
  | inr a ↦ cc
]

-- at most one literal
pub tested-one : (cs : List Clause) (given : Literal → Bool) (c : Clause) → length c < 2 → IsQuiet cs given → AreTested cs given c
tested-one cs given c few q = λ l h. record { holds = given; quiet = q; included = λ m p. p; denied = λ m g d. absurd (one-literal c l m few h g d) }

half-tested : (cs : List Clause) (given : Literal → Bool) (full one other : Clause) →
    ((m : Literal) → has full m ≡ true → (has one m ≡ true) ⊎ (has other m ≡ true)) →
    (l : Literal) → IsTestedAt cs (also given one) other l → IsTestedAt cs given full l
half-tested cs given full one other parts l t = record {
  holds = t.holds;
  quiet = t.quiet;
  included = λ m p. t.included m (or_left (given m) (has one (opposite m)) p);
  denied = λ m h d. elim (parts m h) [
    | inl a ↦ t.included (opposite m) (or_right (given (opposite m)) (has one (opposite (opposite m))) (ap (has one) (opposite_twice m) ∙ a))
    | inr b ↦ t.denied m b d
  ];
}

in-parts : (n : ℕ) (c : Clause) (m : Literal) → has c m ≡ true → (has (take n c) m ≡ true) ⊎ (has (drop n c) m ≡ true)
in-parts n c m h =
    or_cases (has (take n c) m) (has (drop n c) m) (sym (has-append (take n c) (drop n c) m) ∙ ap (λ (z : Clause). has z m) (take-append-drop n c) ∙ h)

other-way : {A B : Type 0} → A ⊎ B → B ⊎ A
other-way (inl a) = inr a
other-way (inr b) = inl b

-- each half where the other is denied
pub tested-halves : (cs : List Clause) (given : Literal → Bool) (n : ℕ) (c : Clause) → AreTested cs (also given (take n c)) (drop n c) →
    AreTested cs (also given (drop n c)) (take n c) →
    AreTested cs given c
tested-halves cs given n c back front = λ l h. elim (in-parts n c l h) [
  | inl a ↦ half-tested cs given c (drop n c) (take n c) (λ m p. other-way (in-parts n c m p)) l (front l a)
  | inr b ↦ half-tested cs given c (take n c) (drop n c) (in-parts n c) l (back l b)
]

-- without the literal nothing follows
pub tested-needed : (cs : List Clause) (given : Literal → Bool) (c : Clause) → AreTested cs given c → (l : Literal) → IsNeeded cs c l
tested-needed cs given c t l h =
    let r = t l h in
    quiet-no_conflict cs (negations_but c l) r.holds r.quiet (λ m p.
    (let q = and_parts (has c (opposite m)) (not (same l (opposite m))) p in
    ap r.holds (sym (opposite_twice m)) ∙ r.denied (opposite m) q.0 (not-true (same l (opposite m)) q.1)))

pub in-front : (n : ℕ) (c : Clause) (m : Literal) → has (take n c) m ≡ true → has c m ≡ true
in-front n c m h =
    ap (λ (z : Clause). has z m) (sym (take-append-drop n c)) ∙ has-append (take n c) (drop n c) m ∙ or_left (has (take n c) m) (has (drop n c) m) h

pub in-back : (n : ℕ) (c : Clause) (m : Literal) → has (drop n c) m ≡ true → has c m ≡ true
in-back n c m h =
    ap (λ (z : Clause). has z m) (sym (take-append-drop n c)) ∙ has-append (take n c) (drop n c) m ∙ or_right (has (take n c) m) (has (drop n c) m) h

-- all behind the first ones
pub whole-back : (n : ℕ) (c : Clause) → take (length c - n) (drop n c) ≡ drop n c
whole-back n c = take_all (length c - n) (drop n c) (omega (arith, length-drop n c))

pub also-more : (given more : Literal → Bool) (c : Clause) → Includes given more → Includes (also given c) (also more c)
also-more given more c i =
    also-includes given (also more c) c (λ m p. or_left (more m) (has c (opposite m)) (i m p)) (λ m p. or_right (more m) (has c (opposite m)) p)
