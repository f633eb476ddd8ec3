-- A list of bytes over a fill against the runs of a file.
use Rattle.std.proofs.Common.{◌≡◌, ℕ, zero, suc, ◌+◌, ◌-◌, ◌^◌, ◌<◌, ◌≤◌, Bool, true, false, List, [], ◌∷◌, Option, Some, length, map, get_or, refl, ap, sym, ◌∙◌, subst, arith, inl, inr}
use Rattle.std.specs.Prelude.{◌&&◌, nat_le, nat_lt, slice_index, find, if◌then◌else◌}
use Rattle.std.specs.List.{AllWithin}
use Rattle.std.proofs.lemmas.Bool.{and_parts, cases_lt}
use Rattle.std.proofs.lemmas.Bool.Decides.{nat_tests}
use Rattle.word_spec.specs.Words.{word}
use Rattle.machine_spec.specs.StateText.{AreRising}
use Rattle.bilv_spec.proofs.Pigeons.{truth}
use Rattle.walk_spec.specs.Unrolled.{ByteRun, byte_in_run, byte_of_runs}
use Rattle.known_bytes.specs.declared.listing.Known.{Known}
use Rattle.known_bytes.specs.Runs.{AreRuns, run_of}
use Rattle.bit_blast.proofs.StepChoices.{any_default}
use Rattle.table_run.specs.Traces.{byte_over}
use Rattle.model_verdict.specs.Readings.{AreFill, HasKnown, HasRun}
use Rattle.model_verdict.proofs.Bytes.{over_at, over_free}

-- ---- bytes that are all the fill

-- so many bytes from a place on are
pub fill_more : (bytes : List ℕ) (fill low place : ℕ) → AreFill bytes fill low place → slice_index bytes place ≡ fill → AreFill bytes fill low (place + 1)
fill_more bytes fill low place so_far here i a b = elim (cases_lt i place) [
  | inl l ↦ so_far i a l
  | inr l ↦ (let e : place ≡ i = omega (arith, l, b) in subst (λ (n : ℕ). slice_index bytes n ≡ fill) e here)
]

pub behind : (bytes : List ℕ) (i : ℕ) → length bytes ≤ i → slice_index bytes i ≡ 0
behind [] i l = refl
behind (b ∷ bytes) zero l = absurd (omega arith)
behind (b ∷ bytes) (suc i) l = behind bytes i (omega (arith, l))

-- all behind the list are 0
pub fill_zero : (bytes : List ℕ) (fill low place high : ℕ) → length bytes ≤ place → fill ≡ 0 → AreFill bytes fill low place → AreFill bytes fill low high
fill_zero bytes fill low place high past e so_far i a b = elim (cases_lt i place) [
  | inl l ↦ so_far i a l
  | inr l ↦ behind bytes i (omega (arith, past, l)) ∙ sym e
]

pub fill_other : (bytes : List ℕ) (fill low place high : ℕ) → length bytes ≤ place → low ≤ place → place < high → (fill ≡ 0 → ⊥) →
    ¬ AreFill bytes fill low high
fill_other bytes fill low place high past a b e all = e (sym (all place a b) ∙ behind bytes place past)

-- ---- one run

-- a list has the run's bytes before a distance, and from a place on it lists no address below that one
pub record HasTo (fill : ℕ) (bytes : List (ℕ × ℕ)) (k : Known) (from next : ℕ) : Type 0 where
  pub within : from ≤ k.last - k.first + 1
  pub below : (i : ℕ) (d : ℕ × ℕ) → i < next → i < length bytes → (get_or bytes i d).0 < k.first + from
  pub above : (i : ℕ) (d : ℕ × ℕ) → next ≤ i → i < length bytes → k.first + from ≤ (get_or bytes i d).0
  pub same : (x : ℕ) → x < from → byte_over fill bytes (k.first + x) ≡ slice_index k.bytes.now x

pub has_none : (fill : ℕ) (bytes : List (ℕ × ℕ)) (k : Known) (next : ℕ) → AllWithin (λ e. e.0 < k.first) bytes 0 next →
    AllWithin (λ e. k.first ≤ e.0) bytes next (length bytes) → HasTo fill bytes k 0 next
has_none fill bytes k next low high = record {
  within = omega arith;
  below = λ i d l m. (let h = low i d (omega arith) l in omega (arith, h));
  above = λ i d l m. (let h = high i d l m in omega (arith, h));
  same = λ x l. absurd (omega (arith, l));
}

module _ (fill : ℕ) (bytes : List (ℕ × ℕ)) (k : Known) (rise : AreRising bytes) where
  module _ (from next : ℕ) (to : HasTo fill bytes k from next) where
    -- what is not listed is the fill
    free : (x place : ℕ) → from ≤ x → x < place → ((i : ℕ) (d : ℕ × ℕ) → next ≤ i → i < length bytes → k.first + place ≤ (get_or bytes i d).0) →
        byte_over fill bytes (k.first + x) ≡ fill
    free x place a b up = over_free fill bytes (k.first + x) (λ i d l e. elim (cases_lt i next) [
      | inl m ↦ (let h = to.below i d m l in omega (arith, h, e, a))
      | inr m ↦ (let h = up i d m l in omega (arith, h, e, b))
    ])

    -- so a gap has other bytes than the run where these are not all the fill
    pub gap_other : (place : ℕ) → place ≤ k.last - k.first + 1 → ((i : ℕ) (d : ℕ × ℕ) → next ≤ i → i < length bytes → k.first + place ≤ (get_or bytes i d).0) →
        ¬ AreFill k.bytes.now fill from place → ¬ HasRun fill bytes k
    gap_other place most up other all = other (λ x a b. sym (all x (omega (arith, most, b))) ∙ free x place a b up)

    gap_same : (place : ℕ) → ((i : ℕ) (d : ℕ × ℕ) → next ≤ i → i < length bytes → k.first + place ≤ (get_or bytes i d).0) →
        AreFill k.bytes.now fill from place → (x : ℕ) → x < place → byte_over fill bytes (k.first + x) ≡ slice_index k.bytes.now x
    gap_same place up fills x l = elim (cases_lt x from) [
      | inl m ↦ to.same x m
      | inr m ↦ free x place m l up ∙ sym (fills x m l)
    ]

    -- the addresses from the next one that is listed on are not below it
    up_from : (d e : ℕ × ℕ) → next < length bytes → (i : ℕ) → next ≤ i → i < length bytes → (get_or bytes next d).0 ≤ (get_or bytes i e).0
    up_from d e l i a b = elim (cases_lt next i) [
      | inl m ↦ (let h = rise next i e m b in let s = ap (λ (x : ℕ × ℕ). x.0) (any_default bytes next d e l) in omega (arith, h, s))
      | inr m ↦ (let n : i ≡ next = omega (arith, a, m) in
          let s = ap (λ (x : ℕ × ℕ). x.0) (any_default bytes next d e l ∙ ap (λ (j : ℕ). get_or bytes j e) (sym n)) in omega (arith, s))
    ]

    -- the next listed byte stands at a distance
    pub next_at : (d : ℕ × ℕ) → next < length bytes → (get_or bytes next d).0 ≡ k.first + ((get_or bytes next d).0 - k.first)
    next_at d l = let h = to.above next d (omega arith) l in omega (arith, h)

    module _ (d : ℕ × ℕ) (l : next < length bytes) (place : ℕ) (at : (get_or bytes next d).0 ≡ k.first + place)
        (inside : (get_or bytes next d).0 ≤ k.last) where
      up : (i : ℕ) (e : ℕ × ℕ) → next ≤ i → i < length bytes → k.first + place ≤ (get_or bytes i e).0
      up i e a b = let h = up_from d e l i a b in omega (arith, h, at)

      -- before the next listed byte
      pub before_other : ¬ AreFill k.bytes.now fill from place → ¬ HasRun fill bytes k
      before_other other = gap_other place (omega (arith, at, inside)) up other

      listed : byte_over fill bytes (k.first + place) ≡ (get_or bytes next d).1
      listed = ap (byte_over fill bytes) (sym at) ∙ over_at fill bytes next d rise l

      -- at it
      pub here_other : (slice_index k.bytes.now place ≡ (get_or bytes next d).1 → ⊥) → ¬ HasRun fill bytes k
      here_other other all = other (sym (all place (omega (arith, at, inside))) ∙ listed)

      -- and behind it
      pub has_more : AreFill k.bytes.now fill from place → slice_index k.bytes.now place ≡ (get_or bytes next d).1 → HasTo fill bytes k (place + 1) (next + 1)
      has_more fills same = record {
        within = omega (arith, at, inside);
        below = λ i e a b. elim (cases_lt i next) [
          | inl m ↦ (let h = rise i next e m l in let s = up_from d e l next (omega arith) l in
              let t = up_from e d l next (omega arith) l in omega (arith, h, s, t, at))
          | inr m ↦ (let n : i ≡ next = omega (arith, a, m) in
              let t = up_from e d l next (omega arith) l in
              let s = ap (λ (j : ℕ). (get_or bytes j e).0) n in omega (arith, t, s, at))
        ];
        above = λ i e a b. (let h = rise next i e (omega (arith, a)) b in let s = up_from d e l next (omega arith) l in omega (arith, h, s, at));
        same = λ x b. elim (cases_lt x place) [
          | inl m ↦ gap_same place up fills x m
          | inr m ↦ (let e : place ≡ x = omega (arith, b, m) in
              subst (λ (n : ℕ). byte_over fill bytes (k.first + n) ≡ slice_index k.bytes.now n) e (listed ∙ sym same))
        ];
      }

    -- behind the last listed byte of the run
    module _ (past : (i : ℕ) (e : ℕ × ℕ) → next ≤ i → i < length bytes → k.last < (get_or bytes i e).0) where
      past_all : k.first ≤ k.last → (i : ℕ) (e : ℕ × ℕ) → next ≤ i → i < length bytes → k.first + (k.last - k.first + 1) ≤ (get_or bytes i e).0
      past_all some i e a b = let h = past i e a b in omega (arith, h, some)

      pub has_all : k.first ≤ k.last → AreFill k.bytes.now fill from (k.last - k.first + 1) → HasRun fill bytes k
      has_all some fills x l = gap_same (k.last - k.first + 1) (past_all some) fills x (omega (arith, l))

      pub last_other : k.first ≤ k.last → ¬ AreFill k.bytes.now fill from (k.last - k.first + 1) → ¬ HasRun fill bytes k
      last_other some other = gap_other (k.last - k.first + 1) (omega arith) (past_all some) other

    -- no further byte of the list is in the run
    pub none_left : length bytes ≤ next → (i : ℕ) (e : ℕ × ℕ) → next ≤ i → i < length bytes → k.last < (get_or bytes i e).0
    none_left end i e a b = absurd (omega (arith, end, a, b))

    pub next_past : (d : ℕ × ℕ) → next < length bytes → k.last < (get_or bytes next d).0 → (i : ℕ) (e : ℕ × ℕ) → next ≤ i → i < length bytes →
        k.last < (get_or bytes i e).0
    next_past d l past i e a b = let h = up_from d e l i a b in omega (arith, h, past)

-- ---- all runs

-- a test of an address of a run
abbrev in_run : Known → ℕ → Bool
in_run r a = nat_le r.first a && nat_lt a (r.first + (r.last - r.first + 1))

both_true : (a b : Bool) → a ≡ true → b ≡ true → (a && b) ≡ true
both_true true b h k = k
both_true false b h k = absurd (cc h)

inside_run : (r : Known) (a : ℕ) → r.first ≤ a → a ≤ r.last → in_run r a ≡ true
inside_run r a l m =
    both_true (nat_le r.first a) (nat_lt a (r.first + (r.last - r.first + 1))) (grind (arith, nat_tests))
    (let n : a < r.first + (r.last - r.first + 1) = omega arith in grind (arith, nat_tests))

before_run : (r : Known) (a : ℕ) → r.first ≤ r.last → r.last < a → in_run r a ≡ false
before_run r a some l =
    let n : r.first + (r.last - r.first + 1) ≤ a = omega arith in
    let h : nat_lt a (r.first + (r.last - r.first + 1)) ≡ false = grind (arith, nat_tests) in
    ap (λ z. nat_le r.first a && z) h ∙ never (nat_le r.first a)
  where
    never : (b : Bool) → (b && false) ≡ false
    never true = refl
    never false = refl

run_parts : (r : Known) (a : ℕ) → r.first ≤ r.last → in_run r a ≡ true → (r.first ≤ a) × (a ≤ r.last)
run_parts r a some h =
    let p = and_parts (nat_le r.first a) (nat_lt a (r.first + (r.last - r.first + 1))) h in
    let low : r.first ≤ a = (let q = p.0 in grind (arith, nat_tests)) in
    let high : a < r.first + (r.last - r.first + 1) = (let q = p.1 in grind (arith, nat_tests)) in
    (low, omega (arith, high, some))

-- whether the first run has the address
abbrev found_by : (b : Bool) → ℕ → Known → List Known → Option ℕ
found_by b a r rest =
    byte_in_run a (if b then Some (run_of r) else find (λ (q : ByteRun). nat_le q.at a && nat_lt a (q.at + q.count)) (map run_of rest))

tail_runs : (r : Known) (rest : List Known) → AreRuns (r ∷ rest) → AreRuns rest
tail_runs r rest are = record {
  some = λ i d l. are.some (suc i) d (omega (arith, l));
  rising = λ i j d l m. are.rising (suc i) (suc j) d (omega (arith, l)) (omega (arith, m));
}

-- the byte at an address of a run
run_byte : (runs : List Known) (i : ℕ) (d : Known) (a : ℕ) → AreRuns runs → i < length runs → (get_or runs i d).first ≤ a → a ≤ (get_or runs i d).last →
    byte_of_runs (map run_of runs) a ≡ Some (slice_index (get_or runs i d).bytes.now (a - (get_or runs i d).first))
run_byte [] i d a are l low high = absurd (omega arith)
run_byte (r ∷ rest) zero d a are l low high = ap (λ z. found_by z a r rest) (inside_run r a low high)
run_byte (r ∷ rest) (suc i) d a are l low high =
    let some : r.first ≤ r.last = are.some 0 d (omega arith) in
    let far : r.last < (get_or rest i d).first = are.rising 0 (suc i) d (omega arith) l in
    ap (λ z. found_by z a r rest) (before_run r a some (omega (arith, far, low))) ∙ run_byte rest i d a (tail_runs r rest are) (omega (arith, l)) low high

-- a list that has the bytes of each run has those of all
runs_by : (runs : List Known) (fill : ℕ) (bytes : List (ℕ × ℕ)) (a b : ℕ) → AreRuns runs →
    ((i : ℕ) (d : Known) → i < length runs → HasRun fill bytes (get_or runs i d)) →
    byte_of_runs (map run_of runs) a ≡ Some b → byte_over fill bytes a ≡ b
runs_by [] fill bytes a b are each e = absurd (cc)
runs_by (r ∷ rest) fill bytes a b are each e = elim (truth (in_run r a)) [
  | inl t ↦ (let some : r.first ≤ r.last = are.some 0 r (omega arith) in
      let p = run_parts r a some t in
      let at : r.first + (a - r.first) ≡ a = omega (arith, p.0) in
      let is : Some (slice_index r.bytes.now (a - r.first)) ≡ Some b = sym (ap (λ z. found_by z a r rest) t) ∙ e in
      let same : slice_index r.bytes.now (a - r.first) ≡ b = cc in
      ap (byte_over fill bytes) (sym at) ∙ each 0 r (omega arith) (a - r.first) (omega (arith, p.1)) ∙ same)
  | inr f ↦ runs_by rest fill bytes a b (tail_runs r rest are) (λ i d l. each (suc i) d (omega (arith, l))) (sym (ap (λ z. found_by z a r rest) f) ∙ e)
]

word_same : (a : ℕ) → a < 2 ^ 32 → word 32 a ≡ a
word_same a l = omega arith

pub all_known : (runs : List Known) (fill : ℕ) (bytes : List (ℕ × ℕ)) → AreRuns runs →
    ((i : ℕ) (d : Known) → i < length runs → HasRun fill bytes (get_or runs i d)) → HasKnown (map run_of runs) (λ a. byte_over fill bytes (word 32 a))
all_known runs fill bytes are each a b l e = ap (byte_over fill bytes) (word_same a l) ∙ runs_by runs fill bytes a b are each e

-- one run more
pub runs_more : (runs : List Known) (fill : ℕ) (bytes : List (ℕ × ℕ)) (i : ℕ) (e : Known) → i < length runs →
    ((n : ℕ) (d : Known) → n < i → HasRun fill bytes (get_or runs n d)) → HasRun fill bytes (get_or runs i e) →
    (n : ℕ) (d : Known) → n < i + 1 → HasRun fill bytes (get_or runs n d)
runs_more runs fill bytes i e l so_far here n d m = elim (cases_lt n i) [
  | inl a ↦ so_far n d a
  | inr a ↦ (let s : i ≡ n = omega (arith, m, a) in
      subst (HasRun fill bytes) (any_default runs i e d l ∙ ap (λ (j : ℕ). get_or runs j d) s) here)
]

-- one that has not those of some run has not those of all
pub run_known : (runs : List Known) (fill : ℕ) (bytes : List (ℕ × ℕ)) (i : ℕ) (d : Known) → AreRuns runs → i < length runs → (get_or runs i d).last < 2 ^ 32 →
    HasKnown (map run_of runs) (λ a. byte_over fill bytes (word 32 a)) → HasRun fill bytes (get_or runs i d)
run_known runs fill bytes i d are l small all x m =
    let r = get_or runs i d in
    let some : r.first ≤ r.last = are.some i d l in
    let a : r.first + x < 2 ^ 32 = omega (arith, some, m, small) in
    let back : r.first + x - r.first ≡ x = omega arith in
    ap (byte_over fill bytes) (sym (word_same (r.first + x) a))
    ∙ all (r.first + x) (slice_index r.bytes.now (r.first + x - r.first)) a (run_byte runs i d (r.first + x) are l (omega arith) (omega (arith, some, m)))
    ∙ ap (slice_index r.bytes.now) back
