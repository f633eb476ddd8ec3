-- The known bytes as runs, one run more.
use Rattle.std.proofs.Common.{◌≡◌, ℕ, ◌+◌, ◌-◌, ◌≤◌, ◌<◌, ◌^◌, List, [], ◌∷◌, ◌++◌, length, get_or, map, true, false, refl, ap, sym, ◌∙◌, subst, arith, inl, inr, length-append, Some, None}
use Rattle.std.specs.Prelude.{Bool, Option, ◌&&◌, nat_le, nat_lt, sum_by, find, if◌then◌else◌}
use Rattle.std.proofs.lemmas.Bool.{cases_lt}
use Rattle.std.proofs.lemmas.Bool.Decides.{nat_tests}
use Rattle.std.proofs.lemmas.List.{map-append}
use Rattle.std.proofs.lemmas.List.Sums.{sum_by-append}
use Rattle.std.proofs.Math.ListN.{get_or-append}
use Rattle.std.proofs.Math.Seq.{get_or-append_seam}
use Rattle.bilv_spec.specs.Elf.{loaded}
use Rattle.bilv_spec.specs.Notes.{FixedRange}
use Rattle.bilv_spec.specs.Points.{byte_of_cell}
use Rattle.walk_spec.specs.Unrolled.{ByteRun, byte_in_run, byte_of_runs}
use Rattle.elf32_reader.specs.declared.parts.Part.{Part}
use Rattle.known_bytes.specs.declared.listing.Known.{Known}
use Rattle.known_bytes.specs.Known.{is_known, given, IsFirstKnown}
use Rattle.known_bytes.specs.Runs.{run_of, sum_of, AreRuns, IsCountTo, HasKnownTo}
use Rattle.known_bytes.proofs.Counts.{count_none, count_gap, count_all}

-- the byte of runs with one more at their end
module _ (x : ℕ) (r : ByteRun) where
  abbrev holds : ByteRun → Bool
  holds y = nat_le y.at x && nat_lt x (y.at + y.count)

  abbrev or_run : Option ℕ → Option ℕ
  or_run None = if holds r then Some (get_or r.bytes (x - r.at) 0) else None
  or_run (Some b) = Some b

  last_by : (b : Bool) → byte_in_run x (if b then Some r else None) ≡ (if b then Some (get_or r.bytes (x - r.at) 0) else None)
  last_by true = refl
  last_by false = refl

  next_by : (y : ByteRun) (b : Bool) (f g : Option ByteRun) → byte_in_run x g ≡ or_run (byte_in_run x f) →
      byte_in_run x (if b then Some y else g) ≡ or_run (byte_in_run x (if b then Some y else f))
  next_by y true f g h = refl
  next_by y false f g h = h

  more_run : (rs : List ByteRun) → byte_of_runs (rs ++ r ∷ []) x ≡ or_run (byte_of_runs rs x)
  more_run [] = last_by (holds r)
  more_run (y ∷ rs) = next_by y (holds y) (find holds rs) (find holds (rs ++ r ∷ [])) (more_run rs)

  apart : (o : Option ℕ) → holds r ≡ false → or_run o ≡ o
  apart None h = rw h refl
  apart (Some b) h = refl

  within : (o : Option ℕ) → o ≡ None → holds r ≡ true → or_run o ≡ Some (get_or r.bytes (x - r.at) 0)
  within None e h = rw h refl
  within (Some b) e h = absurd (cc)

not_given : (file : List ℕ) (ranges : List FixedRange) (x : ℕ) → is_known file ranges x ≡ false → given file ranges x ≡ None
not_given file ranges x h = rw h refl

is_given : (file : List ℕ) (ranges : List FixedRange) (x : ℕ) → is_known file ranges x ≡ true → given file ranges x ≡ Some (byte_of_cell (loaded file x))
is_given file ranges x h = rw h refl

pub known_none : (file : List ℕ) (ranges : List FixedRange) (runs : List Known) → runs ≡ [] → HasKnownTo file ranges 0 runs 0
known_none file ranges runs e = subst (λ (l : List Known). HasKnownTo file ranges 0 l 0) (sym e) (record {
  are = record { some = λ i d w. absurd (omega arith); rising = λ i j d l w. absurd (omega arith) };
  before = λ i d w. absurd (omega arith);
  bytes = λ x. let none : nat_lt x 0 ≡ false = grind (arith, nat_tests) in rw none refl;
  sum = refl;
  count_is = count_none (is_known file ranges);
  few = omega arith;
})

-- addresses whose byte is not known
pub known_gap : (file : List ℕ) (ranges : List FixedRange) (at to : ℕ) (runs : List Known) (count : ℕ) → at ≤ to →
    ((x : ℕ) → at ≤ x → x < to → is_known file ranges x ≡ false) → HasKnownTo file ranges at runs count → HasKnownTo file ranges to runs count
known_gap file ranges at to runs count le gap h = record {
  are = h.are;
  before = λ i d w. let b = h.before i d w in omega arith;
  bytes = λ x. h.bytes x ∙ elim (cases_lt x at) as (λ _. (if nat_lt x at then given file ranges x else None)
      ≡ (if nat_lt x to then given file ranges x else None)) [
        | inl l ↦
            let one : nat_lt x at ≡ true = grind (arith, nat_tests) in
            let other : nat_lt x to ≡ true = grind (arith, nat_tests) in
            rw (one, other) refl
        | inr l ↦
            let one : nat_lt x at ≡ false = grind (arith, nat_tests) in
            rw one (elim (cases_lt x to) as (λ _. None ≡ (if nat_lt x to then given file ranges x else None)) [
              | inl m ↦ (let other : nat_lt x to ≡ true = grind (arith, nat_tests) in rw other (sym (not_given file ranges x (gap x l m))))
              | inr m ↦ (let other : nat_lt x to ≡ false = grind (arith, nat_tests) in rw other refl)
            ])
      ];
  sum = h.sum;
  count_is = count_gap (is_known file ranges) at to count le gap h.count_is;
  few = let f = h.few in omega arith;
}

module _ (file : List ℕ) (ranges : List FixedRange) (first last : ℕ) (runs new : List Known) (count more : ℕ) (k : Known) (up : first ≤ last)
    (starts : k.first ≡ first) (ends : k.last ≡ last) (known : (x : ℕ) → first ≤ x → x ≤ last → is_known file ranges x ≡ true)
    (bytes : (x : ℕ) → first ≤ x → x ≤ last → byte_of_cell (loaded file x) ≡ get_or k.bytes.now (x - first) 0)
    (h : HasKnownTo file ranges first runs count) (pushed : new ≡ runs ++ k ∷ []) (counted : more ≡ count + (last - first + 1)) where
  abbrev all : List Known
  all = runs ++ k ∷ []

  size : length all ≡ length runs + 1
  size = length-append runs (k ∷ [])

  old : (i : ℕ) (d : Known) → i < length runs → get_or all i d ≡ get_or runs i d
  old i d w = get_or-append runs (k ∷ []) d i w

  end : (i : ℕ) (d : Known) → i ≡ length runs → get_or all i d ≡ k
  end i d e = ap (λ j. get_or all j d) e ∙ get_or-append_seam runs k [] d

  before : (i : ℕ) (d : Known) → i < length all → (get_or all i d).last < last + 1
  before i d w = elim (cases_lt i (length runs)) as (λ _. (get_or all i d).last < last + 1) [
    | inl l ↦ (let e = ap (λ (z : Known). z.last) (old i d l) in let b = h.before i d l in omega arith)
    | inr l ↦ (let z : i ≡ length runs = (let n = size in omega arith) in let e = ap (λ (z : Known). z.last) (end i d z) in omega arith)
  ]

  are : AreRuns all
  are = record {
    some = λ i d w. elim (cases_lt i (length runs)) as (λ _. (get_or all i d).first ≤ (get_or all i d).last) [
      | inl l ↦ subst (λ (z : Known). z.first ≤ z.last) (sym (old i d l)) (h.are.some i d l)
      | inr l ↦ (let z : i ≡ length runs = (let n = size in omega arith) in subst (λ (z : Known). z.first ≤ z.last) (sym (end i d z)) (omega arith))
    ];
    rising = λ i j d l w. elim (cases_lt j (length runs)) as (λ _. (get_or all i d).last < (get_or all j d).first) [
      | inl m ↦
          let one = ap (λ (z : Known). z.last) (old i d (omega arith)) in
          let other = ap (λ (z : Known). z.first) (old j d m) in
          let r = h.are.rising i j d l m in omega arith
      | inr m ↦
          let z : j ≡ length runs = (let n = size in omega arith) in
          let inside : i < length runs = omega arith in
          let one = ap (λ (y : Known). y.last) (old i d inside) in
          let other = ap (λ (y : Known). y.first) (end j d z) in
          let b = h.before i d inside in omega arith
    ];
  }

  given_by : (x : ℕ) → byte_of_runs (map run_of all) x ≡ (if nat_lt x (last + 1) then given file ranges x else None)
  given_by x =
      ap (λ (l : List ByteRun). byte_of_runs l x) (map-append run_of runs (k
      ∷ [])) ∙ more_run x (run_of k) (map run_of runs) ∙ ap (or_run x (run_of k)) (h.bytes x)
      ∙ elim (cases_lt x first) as (λ _. or_run x (run_of k) (if nat_lt x first then given file ranges x else None)
      ≡ (if nat_lt x (last + 1) then given file ranges x else None)) [
        | inl l ↦
            let out : holds x (run_of k) (run_of k) ≡ false = grind (arith, nat_tests) in
            let one : nat_lt x first ≡ true = grind (arith, nat_tests) in
            let other : nat_lt x (last + 1) ≡ true = grind (arith, nat_tests) in
            apart x (run_of k) _ out ∙ rw (one, other) refl
        | inr l ↦
            let one : nat_lt x first ≡ false = grind (arith, nat_tests) in
            elim (cases_lt x (last + 1)) as (λ _. or_run x (run_of k) (if nat_lt x first then given file ranges x else None)
            ≡ (if nat_lt x (last + 1) then given file ranges x else None)) [
              | inl m ↦
                  let inside : holds x (run_of k) (run_of k) ≡ true = grind (arith, nat_tests) in
                  let other : nat_lt x (last + 1) ≡ true = grind (arith, nat_tests) in
                  let none : (if nat_lt x first then given file ranges x else None) ≡ None = rw one refl in
                  within x (run_of k) _ none inside ∙ ap (λ n. Some (get_or k.bytes.now (x - n) 0)) starts ∙ ap Some (sym (bytes x l (omega arith)))
                  ∙ sym (is_given file ranges x (known x l (omega arith))) ∙ sym (ap (λ b. if b then given file ranges x else None) other)
              | inr m ↦
                  let out : holds x (run_of k) (run_of k) ≡ false = grind (arith, nat_tests) in
                  let other : nat_lt x (last + 1) ≡ false = grind (arith, nat_tests) in
                  apart x (run_of k) _ out ∙ rw (one, other) refl
            ]
      ]

  pub known_more : HasKnownTo file ranges (last + 1) new more
  known_more = subst (λ (l : List Known). HasKnownTo file ranges (last + 1) l more) (sym pushed) (subst
      (λ n. HasKnownTo file ranges (last + 1) all n) (sym counted) (record {
        are = are;
        before = before;
        bytes = given_by;
        sum =
            ap (λ (l : List ByteRun). sum_by (λ (r : ByteRun). r.count) l) (map-append run_of runs (k ∷ [])) ∙ sum_by-append
            (λ (r : ByteRun). r.count) (map run_of runs) (run_of k ∷ [])
            ∙ (let s = h.sum in let z : sum_of runs + (0 + (k.last - k.first + 1)) ≡ count + (last - first + 1) = omega arith in z);
        count_is =
            let m = last - first + 1 in
            let to : first + m ≡ last + 1 = omega arith in
            subst (λ (n : ℕ). IsCountTo (is_known file ranges) n (count + m)) to
            (count_all (is_known file ranges) first count m (λ x low high. known x low (omega arith)) h.count_is);
        few = let f = h.few in omega arith;
      }))

-- the runs of all known bytes
pub known_all : (file : List ℕ) (ranges : List FixedRange) (runs : List Known) (count : ℕ) → HasKnownTo file ranges (2 ^ 32) runs count →
    ((x : ℕ) → x < 2 ^ 32 → byte_of_runs (map run_of runs) x ≡ given file ranges x) × IsCountTo (is_known file ranges) (2 ^ 32) count
known_all file ranges runs count h = (
  (λ x l. let all : nat_lt x (2 ^ 32) ≡ true = grind (arith, nat_tests) in h.bytes x ∙ ap (λ b. if b then given file ranges x else None) all),
  h.count_is,
)

-- and none from 2^32 on
pub known_beyond : (file : List ℕ) (ranges : List FixedRange) (runs : List Known) (count : ℕ) → HasKnownTo file ranges (2 ^ 32) runs count →
    (x : ℕ) → 2 ^ 32 ≤ x → byte_of_runs (map run_of runs) x ≡ None
known_beyond file ranges runs count h x l =
    let behind : nat_lt x (2 ^ 32) ≡ false = grind (arith, nat_tests) in h.bytes x ∙ ap (λ b. if b then given file ranges x else None) behind

-- one more part
pub part_more : (file : List ℕ) (ranges : List FixedRange) (at : ℕ) (part : Part) (runs new : List Known) (count more : ℕ) (k : Known) → k.first ≡ part.first →
    k.last ≡ part.last
    → k.bytes.now ≡ part.bytes.now → IsFirstKnown file ranges at part → HasKnownTo file ranges at runs count → new ≡ runs ++ k ∷ []
    → more ≡ count + (part.last - part.first + 1) → HasKnownTo file ranges (part.last + 1) new more
part_more file ranges at part runs new count more k starts ends own first h pushed counted =
    known_more file ranges part.first part.last runs new count more k first.some starts ends first.known
    (λ x low high. first.bytes x low high ∙ ap (λ (l : List ℕ). get_or l (x - part.first) 0) (sym own))
    (known_gap file ranges at part.first runs count first.behind first.gap h) pushed counted

-- the last part
pub part_last : (file : List ℕ) (ranges : List FixedRange) (at : ℕ) (part : Part) (runs new : List Known) (count more : ℕ) (k : Known) → k.first ≡ part.first →
    k.last ≡ part.last
    → k.bytes.now ≡ part.bytes.now → IsFirstKnown file ranges at part → HasKnownTo file ranges at runs count → new ≡ runs ++ k ∷ []
    → more ≡ count + (part.last - part.first + 1) → part.last + 1 ≡ 2 ^ 32
    → ((x : ℕ) → x < 2 ^ 32 → byte_of_runs (map run_of new) x ≡ given file ranges x) × IsCountTo (is_known file ranges) (2 ^ 32) more
part_last file ranges at part runs new count more k starts ends own first h pushed counted full =
    known_all file ranges new more
    (subst (λ (n : ℕ). HasKnownTo file ranges n new more) full (part_more file ranges at part runs new count more k starts ends own first h pushed counted))

pub part_beyond : (file : List ℕ) (ranges : List FixedRange) (at : ℕ) (part : Part) (runs new : List Known) (count more : ℕ) (k : Known) →
    k.first ≡ part.first → k.last ≡ part.last
    → k.bytes.now ≡ part.bytes.now → IsFirstKnown file ranges at part → HasKnownTo file ranges at runs count → new ≡ runs ++ k ∷ []
    → more ≡ count + (part.last - part.first + 1) → part.last + 1 ≡ 2 ^ 32 → (x : ℕ) → 2 ^ 32 ≤ x → byte_of_runs (map run_of new) x ≡ None
part_beyond file ranges at part runs new count more k starts ends own first h pushed counted full =
    known_beyond file ranges new more
    (subst (λ (n : ℕ). HasKnownTo file ranges n new more) full (part_more file ranges at part runs new count more k starts ends own first h pushed counted))
