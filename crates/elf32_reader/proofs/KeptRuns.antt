-- The runs of kept addresses, by one segment more.
use Rattle.std.proofs.Common.{◌≡◌, ◌≢◌, ℕ, ◌+◌, ◌-◌, ◌≤◌, ◌<◌, ◌⊎◌, ◌↔◌, List, [], ◌∷◌, ◌++◌, length, get_or, set, refl, ap, sym, ◌∙◌, subst, arith, inl, inr, Some, true, false, length-append}
use Rattle.std.proofs.lemmas.List.{get_or-set_same, get_or-set_other, length-set}
use Rattle.std.proofs.Math.ListN.{get_or-append}
use Rattle.std.proofs.Math.Seq.{get_or-append_seam}
use Rattle.std.specs.Prelude.{slice_get}
use Rattle.std.specs.List.{All}
use Rattle.std.proofs.lemmas.Option.{slice_get_within, get_or_from_slice_get}
use Rattle.std.proofs.lemmas.Bool.{cases_lt}
use Rattle.bilv_spec.specs.Elf.{covers, IsInRuns}
use Rattle.elf32_reader.specs.declared.segments.ProgramHeader.{ProgramHeader}
use Rattle.elf32_reader.specs.Loads.{segment, has_addresses, IsApart}
use Rattle.elf32_reader.specs.Images.{IsKeptBelow, IsRunsTo, ExtendsRun, PushesRun, keeps}
use Rattle.elf32_reader.proofs.Apart.{covers_in, covers_from, has-kind, has-bytes}

-- where a loop begins
pub runs_start : (found : List ProgramHeader) (runs : List (ℕ × ℕ)) → runs ≡ [] → IsRunsTo found 0 runs
runs_start found runs e = subst (IsRunsTo found 0) (sym e) record {
  filled = λ i w. absurd (omega arith);
  apart = λ i w. absurd (omega arith);
  exact = λ a. ((λ k. let l : k.0 < 0 = k.2 in absurd (omega arith)), (λ r. let l : r.0 < 0 = r.1 in absurd (omega arith)));
}

-- a segment that is not kept
pub runs_skip : (found : List ProgramHeader) (n : ℕ) (h : ProgramHeader) (runs : List (ℕ × ℕ)) → slice_get found n ≡ Some h → keeps h.flags ≡ false
    → IsRunsTo found n runs → IsRunsTo found (n + 1) runs
runs_skip found n h runs at drops r = record {
  filled = r.filled;
  apart = r.apart;
  exact = λ a. (
    (λ k. elim (cases_lt k.0 n) as (λ _. IsInRuns runs a) [
      | inl l ↦ (r.exact a).0 (k.0, k.1, l, k.3, k.4, k.5)
      | inr l ↦
          let low : k.0 < n + 1 = k.2 in
          let same : k.0 ≡ n = omega arith in
          let here : slice_get found n ≡ Some k.1 = subst (λ i. slice_get found i ≡ Some k.1) same k.3 in
          let one : k.1 ≡ h = cc (here, at) in
          let keeps_it : keeps h.flags ≡ true = subst (λ (x : ProgramHeader). keeps x.flags ≡ true) one k.5 in
          absurd (cc (keeps_it, drops))
    ]),
    (λ i. let k = (r.exact a).1 i in (k.0, k.1, (let l : k.0 < n = k.2 in omega arith), k.3, k.4, k.5)),
  );
}

-- a list of runs with one run more at its end
in_pushed : (old : List (ℕ × ℕ)) (first last a : ℕ)
    → IsInRuns (old ++ (first, last) ∷ []) a ↔ (IsInRuns old a ⊎ ((first ≤ a) × (a ≤ last)))
in_pushed old first last a =
    let new = old ++ (first, last) ∷ [] in
    let size : length new ≡ length old + 1 = length-append old ((first, last) ∷ []) in
    let end : get_or new (length old) (0, 0) ≡ (first, last) = get_or-append_seam old (first, last) [] (0, 0) in (
      (λ r. elim (cases_lt r.0 (length old)) as (λ _. IsInRuns old a ⊎ ((first ≤ a) × (a ≤ last))) [
        | inl l ↦
            let same : get_or new r.0 (0, 0) ≡ get_or old r.0 (0, 0) = get_or-append old ((first, last) ∷ []) (0, 0) r.0 l in
            inl (r.0, l, subst (λ (p : ℕ × ℕ). p.0 ≤ a) same r.2, subst (λ (p : ℕ × ℕ). a ≤ p.1) same r.3)
        | inr l ↦
            let within : r.0 < length new = r.1 in
            let there : r.0 ≡ length old = omega arith in
            let same : get_or new r.0 (0, 0) ≡ (first, last) = ap (λ i. get_or new i (0, 0)) there ∙ end in
            inr (subst (λ (p : ℕ × ℕ). p.0 ≤ a) same r.2, subst (λ (p : ℕ × ℕ). a ≤ p.1) same r.3)
      ]),
      (λ s. elim s as (λ _. IsInRuns new a) [
        | inl r ↦
            let same : get_or new r.0 (0, 0) ≡ get_or old r.0 (0, 0) = get_or-append old ((first, last) ∷ []) (0, 0) r.0 r.1 in
            let within : r.0 < length old = r.1 in
            (r.0, (omega arith), subst (λ (p : ℕ × ℕ). p.0 ≤ a) (sym same) r.2, subst (λ (p : ℕ × ℕ). a ≤ p.1) (sym same) r.3)
        | inr b ↦ (length old, (omega arith), subst (λ (p : ℕ × ℕ). p.0 ≤ a) (sym end) b.0, subst (λ (p : ℕ × ℕ). a ≤ p.1) (sym end) b.1)
      ]),
    )

-- the last run goes on
in_extended : (old : List (ℕ × ℕ)) (e start stop first last a : ℕ) → length old ≡ e + 1 → get_or old e (0, 0) ≡ (start, stop)
    → start ≤ stop → stop + 1 ≡ first → first ≤ last
    → IsInRuns (set old e (start, last)) a ↔ (IsInRuns old a ⊎ ((first ≤ a) × (a ≤ last)))
in_extended old e start stop first last a count at filled meets up =
    let new = set old e (start, last) in
    let size : length new ≡ length old = length-set old e (start, last) in
    let end : get_or new e (0, 0) ≡ (start, last) = get_or-set_same old e (start, last) (0, 0) (omega arith) in (
      (λ r. elim (cases_lt r.0 e) as (λ _. IsInRuns old a ⊎ ((first ≤ a) × (a ≤ last))) [
        | inl l ↦
            let same : get_or new r.0 (0, 0) ≡ get_or old r.0 (0, 0) = get_or-set_other old e r.0 (start, last) (0, 0) (λ x. omega arith) in
            inl (r.0, (omega arith), subst (λ (p : ℕ × ℕ). p.0 ≤ a) same r.2, subst (λ (p : ℕ × ℕ). a ≤ p.1) same r.3)
        | inr l ↦
            let within : r.0 < length new = r.1 in
            let there : r.0 ≡ e = omega arith in
            let same : get_or new r.0 (0, 0) ≡ (start, last) = ap (λ i. get_or new i (0, 0)) there ∙ end in
            let low : start ≤ a = subst (λ (p : ℕ × ℕ). p.0 ≤ a) same r.2 in
            let high : a ≤ last = subst (λ (p : ℕ × ℕ). a ≤ p.1) same r.3 in
            elim (cases_lt a first) as (λ _. IsInRuns old a ⊎ ((first ≤ a) × (a ≤ last))) [
              | inl m ↦ inl (e, (omega arith), subst (λ (p : ℕ × ℕ). p.0 ≤ a) (sym at) low, subst (λ (p : ℕ × ℕ). a ≤ p.1) (sym at) (omega arith))
              | inr m ↦ inr (m, high)
            ]
      ]),
      (λ s. elim s as (λ _. IsInRuns new a) [
        | inl r ↦
            let within : r.0 < length old = r.1 in
            elim (cases_lt r.0 e) as (λ _. IsInRuns new a) [
              | inl l ↦
                  let same : get_or new r.0 (0, 0) ≡ get_or old r.0 (0, 0) = get_or-set_other old e r.0 (start, last) (0, 0) (λ x. omega arith) in
                  (r.0, (omega arith), subst (λ (p : ℕ × ℕ). p.0 ≤ a) (sym same) r.2, subst (λ (p : ℕ × ℕ). a ≤ p.1) (sym same) r.3)
              | inr l ↦
                  let there : r.0 ≡ e = omega arith in
                  let same : get_or old r.0 (0, 0) ≡ (start, stop) = ap (λ i. get_or old i (0, 0)) there ∙ at in
                  let low : start ≤ a = subst (λ (p : ℕ × ℕ). p.0 ≤ a) same r.2 in
                  let high : a ≤ stop = subst (λ (p : ℕ × ℕ). a ≤ p.1) same r.3 in
                  (e, (omega arith), subst (λ (p : ℕ × ℕ). p.0 ≤ a) (sym end) low, subst (λ (p : ℕ × ℕ). a ≤ p.1) (sym end) (omega arith))
            ]
        | inr b ↦
            let low : first ≤ a = b.0 in
            (e, (omega arith), subst (λ (p : ℕ × ℕ). p.0 ≤ a) (sym end) (omega arith), subst (λ (p : ℕ × ℕ). a ≤ p.1) (sym end) b.1)
      ]),
    )

-- a segment that is kept
module _ (found : List ProgramHeader) (n : ℕ) (h : ProgramHeader) (runs new : List (ℕ × ℕ))
    (at : slice_get found n ≡ Some h) (is_kept : keeps h.flags ≡ true) (separate : IsApart found)
    (solid : All (λ h. has_addresses (segment h) ≡ true) found) (r : IsRunsTo found n runs) where
  within : n < length found
  within = slice_get_within found n h at

  has : has_addresses (segment h) ≡ true
  has = subst (λ (x : ProgramHeader). has_addresses (segment x) ≡ true) (get_or_from_slice_get found n h h at) (solid n h within)

  behind : (i : ℕ) → i < length runs → (get_or runs i (0, 0)).1 < h.address
  behind i w =
      let a = (get_or runs i (0, 0)).1 in
      let k = (r.exact a).1 (i, w, r.filled i w, (let e : a ≤ a = omega arith in e)) in
      let over = covers_from a (segment k.1) k.4 in
      let high : a < k.1.address + k.1.in_memory = over.2 in
      let gap = separate k.0 n h k.2 within in
      let first : get_or found k.0 h ≡ k.1 = get_or_from_slice_get found k.0 k.1 h k.3 in
      let second : get_or found n h ≡ h = get_or_from_slice_get found n h h at in
      let end : (get_or found k.0 h).address + (get_or found k.0 h).in_memory
      ≡ k.1.address + k.1.in_memory = ap (λ (x : ProgramHeader). x.address + x.in_memory) first in
      let start : (get_or found n h).address ≡ h.address = ap (λ (x : ProgramHeader). x.address) second in
      omega arith

  more : (a : ℕ) → IsKeptBelow found (n + 1) a ↔ (IsKeptBelow found n a ⊎ ((h.address ≤ a) × (a ≤ h.address + (h.in_memory - 1))))
  more a = (
    (λ k. elim (cases_lt k.0 n) as (λ _. IsKeptBelow found n a ⊎ ((h.address ≤ a) × (a ≤ h.address + (h.in_memory - 1)))) [
      | inl l ↦ inl (k.0, k.1, l, k.3, k.4, k.5)
      | inr l ↦
          let low : k.0 < n + 1 = k.2 in
          let same : k.0 ≡ n = omega arith in
          let here : slice_get found n ≡ Some k.1 = subst (λ i. slice_get found i ≡ Some k.1) same k.3 in
          let one : k.1 ≡ h = cc (here, at) in
          let over = covers_from a (segment h) (subst (λ (x : ProgramHeader). covers a (segment x) ≡ true) one k.4) in
          let below : a < h.address + h.in_memory = over.2 in
          inr (over.1, omega arith)
    ]),
    (λ s. elim s as (λ _. IsKeptBelow found (n + 1) a) [
      | inl k ↦ (k.0, k.1, (let l : k.0 < n = k.2 in omega arith), k.3, k.4, k.5)
      | inr b ↦
          let low : h.address ≤ a = b.0 in
          let high : a ≤ h.address + (h.in_memory - 1) = b.1 in
          let some = has-bytes (segment h) has in
          (n, h, omega arith, at, covers_in a (segment h) (has-kind (segment h) has) low (omega arith), is_kept)
    ]),
  )

  pub runs_push : PushesRun runs h.address (h.address + (h.in_memory - 1)) new → IsRunsTo found (n + 1) new
  runs_push p =
      let first = h.address in
      let last = h.address + (h.in_memory - 1) in
      let pushed = runs ++ (first, last) ∷ [] in
      let size : length pushed ≡ length runs + 1 = length-append runs ((first, last) ∷ []) in
      let end : get_or pushed (length runs) (0, 0) ≡ (first, last) = get_or-append_seam runs (first, last) [] (0, 0) in
      let old : (i : ℕ) → i < length runs → get_or pushed i (0, 0) ≡ get_or runs i (0, 0) = λ i w. get_or-append runs ((first, last) ∷ []) (0, 0) i w in
      subst (IsRunsTo found (n + 1)) (sym p.is) record {
        filled = λ i w. elim (cases_lt i (length runs)) as (λ _. (get_or pushed i (0, 0)).0 ≤ (get_or pushed i (0, 0)).1) [
          | inl l ↦ subst (λ (q : ℕ × ℕ). q.0 ≤ q.1) (sym (old i l)) (r.filled i l)
          | inr l ↦
              let there : i ≡ length runs = omega arith in
              subst (λ (q : ℕ × ℕ). q.0 ≤ q.1) (sym (ap (λ j. get_or pushed j (0, 0)) there ∙ end)) (let e : first ≤ last = omega arith in e)
        ];
        apart = λ i w. elim (cases_lt (i + 1) (length runs)) as (λ _. (get_or pushed i (0, 0)).1 + 1 < (get_or pushed (i + 1) (0, 0)).0) [
          | inl l ↦
              subst (λ (q : ℕ × ℕ). q.1 + 1 < (get_or pushed (i + 1) (0, 0)).0) (sym (old i (omega arith)))
              (subst (λ (q : ℕ × ℕ). (get_or runs i (0, 0)).1 + 1 < q.0) (sym (old (i + 1) l)) (r.apart i l))
          | inr l ↦
              let there : i + 1 ≡ length runs = omega arith in
              let before : i ≡ length runs - 1 = omega arith in
              let low = behind i (omega arith) in
              let gap : (get_or runs i (0, 0)).1 + 1 ≢ first = subst (λ j. (get_or runs j (0, 0)).1 + 1 ≢ first) (sym before) (p.gap (omega arith)) in
              subst (λ (q : ℕ × ℕ). q.1 + 1 < (get_or pushed (i + 1) (0, 0)).0) (sym (old i (omega arith)))
              (subst (λ (q : ℕ × ℕ). (get_or runs i (0, 0)).1 + 1 < q.0) (sym (ap (λ j. get_or pushed j (0, 0)) there ∙ end)) (omega (arith, gap)))
        ];
        exact = λ a. (
          (λ k. (in_pushed runs first last a).1 (elim ((more a).0 k) as (λ _. IsInRuns runs a ⊎ ((first ≤ a) ×
              (a ≤ last))) [ inl x ↦ inl ((r.exact a).0 x) | inr b ↦ inr b ])),
          (λ i. (more a).1 (elim ((in_pushed runs first last a).0 i) as (λ _. IsKeptBelow found n a ⊎ ((first ≤ a) ×
              (a ≤ last))) [ inl x ↦ inl ((r.exact a).1 x) | inr b ↦ inr b ])),
        );
      }

  pub runs_extend : ExtendsRun runs h.address (h.address + (h.in_memory - 1)) new → IsRunsTo found (n + 1) new
  runs_extend p =
      let first = h.address in
      let last = h.address + (h.in_memory - 1) in
      let e = length runs - 1 in
      let some : 0 < length runs = p.some in
      let count : length runs ≡ e + 1 = omega arith in
      let start = (get_or runs e (0, 0)).0 in
      let stop = (get_or runs e (0, 0)).1 in
      let set_runs = set runs e (start, last) in
      let size : length set_runs ≡ length runs = length-set runs e (start, last) in
      let end : get_or set_runs e (0, 0) ≡ (start, last) = get_or-set_same runs e (start, last) (0, 0) (omega arith) in
      let old : (i : ℕ) → i < e → get_or set_runs i (0, 0) ≡ get_or runs i (0, 0) = λ i w. get_or-set_other runs e i (start, last) (0, 0) (λ x. omega arith) in
      let fills : start ≤ stop = r.filled e (omega arith) in
      let meets : stop + 1 ≡ first = p.meets in
      let up : first ≤ last = omega arith in
      let inside = in_extended runs e start stop first last in
      subst (IsRunsTo found (n + 1)) (sym p.is) record {
        filled = λ i w. elim (cases_lt i e) as (λ _. (get_or set_runs i (0, 0)).0 ≤ (get_or set_runs i (0, 0)).1) [
          | inl l ↦ subst (λ (q : ℕ × ℕ). q.0 ≤ q.1) (sym (old i l)) (r.filled i (omega arith))
          | inr l ↦
              let there : i ≡ e = omega arith in
              subst (λ (q : ℕ × ℕ). q.0 ≤ q.1) (sym (ap (λ j. get_or set_runs j (0, 0)) there ∙ end)) (let z : start ≤ last = omega arith in z)
        ];
        apart = λ i w.
            let near = r.apart i (omega arith) in
            let first_same = old i (omega arith) in
            elim (cases_lt (i + 1) e) as (λ _. (get_or set_runs i (0, 0)).1 + 1 < (get_or set_runs (i + 1) (0, 0)).0) [
              | inl l ↦
                  subst (λ (q : ℕ × ℕ). q.1 + 1 < (get_or set_runs (i + 1) (0, 0)).0) (sym first_same)
                  (subst (λ (q : ℕ × ℕ). (get_or runs i (0, 0)).1 + 1 < q.0) (sym (old (i + 1) l)) near)
              | inr l ↦
                  let there : i + 1 ≡ e = omega arith in
                  subst (λ (q : ℕ × ℕ). q.1 + 1 < (get_or set_runs (i + 1) (0, 0)).0) (sym first_same)
                  (subst (λ (q : ℕ × ℕ). (get_or runs i (0, 0)).1 + 1 < q.0) (sym (ap (λ j. get_or set_runs j (0, 0)) there ∙ end))
                  (subst (λ j. (get_or runs i (0, 0)).1 + 1 < (get_or runs j (0, 0)).0) there near))
            ];
        exact = λ a. (
          (λ k. (inside a count refl fills meets up).1 (elim ((more a).0 k) as (λ _. IsInRuns runs a ⊎ ((first ≤ a) ×
              (a ≤ last))) [ inl x ↦ inl ((r.exact a).0 x) | inr b ↦ inr b ])),
          (λ i. (more a).1 (elim ((inside a count refl fills meets up).0 i) as (λ _. IsKeptBelow found n a ⊎ ((first ≤ a) ×
              (a ≤ last))) [ inl x ↦ inl ((r.exact a).1 x) | inr b ↦ inr b ])),
        );
      }
