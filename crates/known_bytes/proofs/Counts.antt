-- How many addresses pass a test.
use Rattle.std.proofs.Common.{◌≡◌, ◌≢◌, ℕ, zero, suc, ◌+◌, ◌-◌, ◌≤◌, ◌<◌, ◌^◌, List, [], ◌∷◌, ◌++◌, length, get_or, map, true, false, refl, ap, sym, ◌∙◌, subst, arith, inl, inr, length-append}
use Rattle.std.specs.Prelude.{Bool, Contains, ◌==◌, ◌&&◌, ◌||◌, not}
use Rattle.std.proofs.lemmas.Bool.{cases_lt, ne_eqb}
use Rattle.std.proofs.lemmas.List.{length-map, get_or_default, get_or-map}
use Rattle.std.proofs.lemmas.Bool.Decides.{nat_tests}
use Rattle.std.proofs.Math.Nat.{eq-or-lt_of_le}
use Rattle.std.proofs.Math.ListN.{get_or-append}
use Rattle.std.proofs.Math.Seq.{get_or-append_seam}
use Rattle.bilv_spec.specs.Elf.{kept_at, IsInRuns, IsKeptRuns}
use Rattle.machine_spec.specs.Machine.{Machine}
use Rattle.bilv_spec.specs.Files.{program_of}
use Rattle.bilv_spec.specs.Notes.{Notes}
use Rattle.bilv_spec.specs.Points.{IsCount, begins_run}
use Rattle.bilv_spec.proofs.PointSteps.{in_left, in_right, here}
use Rattle.bilv_spec.proofs.PointsInGraph.{split_in}
use Rattle.known_bytes.specs.Runs.{IsCountTo}

only_in : (y x : ℕ) → Contains (y ∷ []) x → y ≡ x
only_in y x (zero, h, e) = e
only_in y x (suc i, h, e) = absurd (omega arith)

pub count_none : (test : ℕ → Bool) → IsCountTo test 0 0
count_none test = ([], refl, (λ i j l w. absurd (omega arith)), λ a. ((λ (k, w, e). absurd (omega arith)), (λ q. absurd (let l = q.0 in omega arith))))

-- addresses that do not pass
pub count_gap : (test : ℕ → Bool) (at to n : ℕ) → at ≤ to → ((x : ℕ) → at ≤ x → x < to → test x ≡ false) → IsCountTo test at n → IsCountTo test to n
count_gap test at to n le gap c = (
  c.0,
  c.1,
  c.2,
  λ a. (
    (λ h. let q = (c.3 a).0 h in ((let l = q.0 in omega arith), q.1)),
    (λ q. elim (cases_lt a at) as (λ _. Contains c.0 a) [
      | inl l ↦ (c.3 a).1 (l, q.1)
      | inr r ↦ absurd (let none = gap a r q.0 in let some = q.1 in cc (none, some))
    ]),
  ),
)

-- one that passes
count_one : (test : ℕ → Bool) (at n : ℕ) → test at ≡ true → IsCountTo test at n → IsCountTo test (at + 1) (n + 1)
count_one test at n passes c =
    let places = c.0 in
    let size : length (places ++ at ∷ []) ≡ length places + 1 = length-append places (at ∷ []) in
    let count = c.1 in (
      places ++ at ∷ [],
      (omega arith),
      (λ i j l w. elim (cases_lt j (length places)) as (λ _. get_or (places ++ at ∷ []) i 0 < get_or (places ++ at ∷ []) j 0) [
        | inl low ↦
            let one = get_or-append places (at ∷ []) 0 i (omega arith) in
            let other = get_or-append places (at ∷ []) 0 j low in
            let up = c.2 i j l low in omega arith
        | inr high ↦
            let end : j ≡ length places = omega arith in
            let inside : i < length places = omega arith in
            let one = get_or-append places (at ∷ []) 0 i inside in
            let other : get_or (places ++ at ∷ []) j 0 ≡ at = ap (λ k. get_or (places ++ at ∷ []) k 0) end ∙ get_or-append_seam places at [] 0 in
            let below = ((c.3 (get_or places i 0)).0 (i, inside, get_or_default places i (get_or places i 0) 0 inside)).0 in omega arith
      ]),
      λ a. (
        (λ h. elim (split_in places (at ∷ []) a h) as (λ _. (a < at + 1) × (test a ≡ true)) [
          | inl g ↦ (let q = (c.3 a).0 g in ((let l = q.0 in omega arith), q.1))
          | inr g ↦ (let e = only_in at a g in ((omega arith), ap test (sym e) ∙ passes))
        ]),
        (λ q. let le : a ≤ at = (let l = q.0 in omega arith) in
            elim (eq-or-lt_of_le le) as (λ _. Contains (places ++ at ∷ []) a) [
              | inl e ↦ in_right places (at ∷ []) a (subst (λ (z : ℕ). Contains (at ∷ []) z) (sym e) (here at []))
              | inr l ↦ in_left places (at ∷ []) a ((c.3 a).1 (l, q.1))
            ]),
      ),
    )

pub count_all : (test : ℕ → Bool) (at n m : ℕ) → ((x : ℕ) → at ≤ x → x < at + m → test x ≡ true) → IsCountTo test at n → IsCountTo test (at + m) (n + m)
count_all test at n zero pass c =
    let e : at ≡ at + 0 = omega arith in
    let f : n ≡ n + 0 = omega arith in
    subst (λ (z : ℕ). IsCountTo test z (n + 0)) e (subst (λ (z : ℕ). IsCountTo test at z) f c)
count_all test at n (suc m) pass c =
    let e : at + m + 1 ≡ at + suc m = omega arith in
    let f : n + m + 1 ≡ n + suc m = omega arith in
    let before = count_all test at n m (λ x low high. pass x low (omega arith)) c in
    let next = count_one test (at + m) (n + m) (pass (at + m) (omega arith) (omega arith)) before in
    subst (λ (z : ℕ). IsCountTo test z (n + suc m)) e (subst (λ (z : ℕ). IsCountTo test (at + m + 1) z) f next)

-- the runs of kept bytes begin where such a run begins
module _ (file : List ℕ) (runs : List (ℕ × ℕ)) (is : IsKeptRuns file runs) (small : (k : ℕ) → k < length runs → (get_or runs k (0, 0)).0 < 2 ^ 32) where
  abbrev first : ℕ → ℕ
  first k = (get_or runs k (0, 0)).0

  climb : (i j : ℕ) → i < j → j < length runs → first i < first j
  climb i zero l w = absurd (omega arith)
  climb i (suc j) l w =
      let near : first j < first (suc j) =
      (let f = is.filled j (omega arith) in let a = is.apart j (omega arith) in let e : first (j + 1)
      ≡ first (suc j) = ap first (let z : j + 1 ≡ suc j = omega arith in z) in omega arith) in
      let le : i ≤ j = omega arith in
      elim (eq-or-lt_of_le le) as (λ _. first i < first (suc j)) [
        | inl e ↦ (let f = ap first e in omega arith)
        | inr less ↦ (let f = climb i j less (omega arith) in omega arith)
      ]

  abbrev starts : List ℕ
  starts = map (λ (r : ℕ × ℕ). r.0) runs

  start_is : (k : ℕ) → k < length runs → get_or starts k 0 ≡ first k
  start_is k w = get_or-map (λ (r : ℕ × ℕ). r.0) runs k (0, 0) 0 w

  size : length starts ≡ length runs
  size = length-map runs (λ (r : ℕ × ℕ). r.0)

  after : (i k : ℕ) → i < k → k < length runs → (get_or runs i (0, 0)).1 + 1 < first k
  after i k l w =
      let near = is.apart i (omega arith) in
      let le : i + 1 ≤ k = omega arith in
      elim (eq-or-lt_of_le le) as (λ _. (get_or runs i (0, 0)).1 + 1 < first k) [
        | inl e ↦ (let f = ap first e in omega arith)
        | inr less ↦ (let f = climb (i + 1) k less w in omega arith)
      ]

  -- no kept byte stands right before a run
  not_before : (k : ℕ) → k < length runs → first k ≢ 0 → ¬ IsInRuns runs (first k - 1)
  not_before k w some (i, inside, low, high) = elim (cases_lt i k) as (λ _. ⊥) [
    | inl l ↦ (let f = after i k l w in absurd (omega arith))
    | inr l ↦ elim (eq-or-lt_of_le l) as (λ _. ⊥) [
      | inl e ↦ (let f = ap first e in absurd (omega arith))
      | inr m ↦ (let f = climb k i m inside in absurd (omega arith))
    ]
  ]

  unless : (b : Bool) → ¬ (b ≡ true) → b ≡ false
  unless true h = absurd (h refl)
  unless false h = refl

  both : (a b : Bool) → a ≡ true → b ≡ true → (a && b) ≡ true
  both a b h g = rw (h, g) refl

  parts : (a b : Bool) → (a && b) ≡ true → (a ≡ true) × (b ≡ true)
  parts true b h = (refl, h)
  parts false b h = absurd (cc)

  opens : (a : ℕ) (b : Bool) → (a ≢ 0 → b ≡ false) → ((a == 0) || not b) ≡ true
  opens zero b h = refl
  opens (suc a) b h = let f : b ≡ false = h (λ e. absurd (omega arith)) in rw f (grind (arith, nat_tests))

  closed : (a : ℕ) (b : Bool) → a ≢ 0 → b ≡ true → ((a == 0) || not b) ≡ true → ⊥
  closed a b some h g = let f : (a == 0) ≡ false = ne_eqb a 0 some in let z : ((a == 0) || not b) ≡ false = rw (f, h) refl in absurd (cc)

  pub run_starts : (m : Machine) (notes : Notes) (entry : ℕ) → IsCount (begins_run (program_of m file notes entry)) (length runs)
  run_starts m notes entry = (
    starts,
    size,
    (λ i j l w. (
        let count = size in
        let below : j < length runs = omega arith in
        let one = start_is i (omega arith) in
        let other = start_is j below in
        let up = climb i j l below in omega arith)),
    λ a. (
      (λ (k, w, e).
          let inside : k < length runs = (let z = size in omega arith) in
          let at : first k ≡ a = sym (start_is k inside) ∙ get_or_default starts k 0 a w ∙ e in
          let f = is.filled k inside in
          let s = small k inside in
          let here : kept_at file a ≡ true = (is.exact a).1 (k, inside, (omega arith), (omega arith)) in (
            (omega arith),
            both (kept_at file a) ((a == 0) || not (kept_at file (a - 1))) here
                (opens a (kept_at file (a - 1)) (λ some. unless (kept_at file (a - 1)) (λ h.
                not_before k inside (λ z. some (sym at ∙ z)) (subst (λ (n : ℕ). IsInRuns runs (n - 1)) (sym at) ((is.exact (a - 1)).0 h))))),
          )),
      (λ q.
          let b = parts (kept_at file a) ((a == 0) || not (kept_at file (a - 1))) q.1 in
          let r = (is.exact a).0 b.0 in
          let k = r.0 in
          let w : k < length runs = r.1 in
          let low : first k ≤ a = r.2 in
          let high : a ≤ (get_or runs k (0, 0)).1 = r.3 in
          elim (eq-or-lt_of_le low) as (λ _. Contains starts a) [
            | inl e ↦ (k, (let z = size in omega arith), get_or_default starts k a 0 (let z = size in omega arith) ∙ start_is k w ∙ e)
            | inr l ↦
                let before : kept_at file (a - 1) ≡ true = (is.exact (a - 1)).1 (k, w, (omega arith), (omega arith)) in
                absurd (closed a (kept_at file (a - 1)) (λ z. absurd (omega arith)) before b.1)
          ]),
    ),
  )
