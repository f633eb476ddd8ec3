-- Values of registers in the order of a set, and flags by their bits.
use Rattle.std.proofs.Common.{◌≡◌, ◌≢◌, inl, inr, ℕ, zero, suc, ◌+◌, ◌*◌, ◌-◌, ◌%◌, ◌^◌, ◌<◌, ◌≤◌, List, [], ◌∷◌, ◌++◌, length, get_or, drop, map, Bool, true, false, refl, sym, ap, ◌∙◌, arith, eq-eqb, ne_eqb, append_assoc, append-nil}
use Rattle.std.specs.Prelude.{◌&&◌, ◌||◌, not, filter, nat_eq, nat_lt, slice_index, if◌then◌else◌}
use Rattle.std.specs.List.{list_any}
use Rattle.std.proofs.lemmas.Bool.{cases_eq}
use Rattle.std.proofs.lemmas.List.{get_or-drop, drop-drop}
use Rattle.std.proofs.Math.Nat.{div-eq_of_lt, pow-le-pow_right}
use Rattle.word_spec.specs.Words.{bit_at}
use Rattle.word_spec.specs.RowFiles.{from_to}
use Rattle.std.proofs.lemmas.Bool.Decides.{nat_tests}
use Rattle.machine_spec.specs.Machine.{Machine}
use Rattle.machine_spec.specs.MachineLaws.{IsFitted}
use Rattle.machine_spec.specs.StateText.{Layout}
use Rattle.frame_spec.specs.Frames.{Frame, Contract, keeps_flag}
use Rattle.frame_spec.specs.FrameReports.{value_in}
use Rattle.notes_value.specs.FrameViews.{is_in}
use Rattle.table_run.specs.CalledFrames.{value_from}

-- ---- values in the order of a set

no_value : (names : List ℕ) (r : ℕ) → value_in names [] r ≡ 0
no_value [] r = refl
no_value (n ∷ names) r = refl

-- a register that is not named has none
pub value_out : (names values : List ℕ) (r : ℕ) → list_any (nat_eq r) names ≡ false → value_in names values r ≡ 0
value_out [] values r out = refl
value_out (n ∷ names) [] r out = refl
value_out (n ∷ names) (v ∷ values) r out = elim (cases_eq r n) as (λ _. value_in (n ∷ names) (v ∷ values) r ≡ 0) [
  | inl same ↦ absurd (let hit : true ≡ false = sym (ap (λ b. b || list_any (nat_eq r) names) (eq-eqb r n same)) ∙ out in cc)
  | inr other ↦ ap (λ b. if b then v else value_in names values r) (ne_eqb n r (λ is. other (sym is)))
      ∙ value_out names values r (sym (ap (λ b. b || list_any (nat_eq r) names) (ne_eqb r n other)) ∙ out)
]

value_first : (n : ℕ) (names values : List ℕ) (r : ℕ) → n ≡ r → value_in (n ∷ names) values r ≡ get_or values 0 0
value_first n names [] r same = refl
value_first n names (v ∷ values) r same = ap (λ b. if b then v else value_in names values r) (eq-eqb n r same)

value_later : (n : ℕ) (names values : List ℕ) (r : ℕ) → n ≢ r → value_in (n ∷ names) values r ≡ value_in names (drop 1 values) r
value_later n names [] r other = sym (no_value names r)
value_later n names (v ∷ values) r other = ap (λ b. if b then v else value_in names values r) (ne_eqb n r other)

module _ (set r : ℕ) (values : List ℕ) (i n end : ℕ) (below : n < end) where
  next : (b : Bool) → is_in set n ≡ b → filter (is_in set) (from_to n (end - n)) ≡ (if b then n ∷ filter (is_in set) (from_to (n + 1) (end - (n + 1)))
      else filter (is_in set) (from_to (n + 1) (end - (n + 1))))
  next b is =
      let more : end - n ≡ suc (end - (n + 1)) = omega (arith, below) in
      ap (λ k. filter (is_in set) (from_to n k)) more
      ∙ ap (λ z. if z then n ∷ filter (is_in set) (from_to (n + 1) (end - (n + 1))) else filter (is_in set) (from_to (n + 1) (end - (n + 1)))) is

  pub value_skips : is_in set n ≡ false → value_from set (drop i values) r (n + 1) (end - (n + 1)) ≡ value_from set (drop i values) r n (end - n)
  unfolding value_from
  value_skips out = sym (ap (λ names. value_in names (drop i values) r) (next false out))

  pub value_is : is_in set n ≡ true → n ≡ r → value_from set (drop i values) r n (end - n) ≡ get_or values i 0
  unfolding value_from
  value_is has same =
      let place : i + 0 ≡ i = omega arith in
      ap (λ names. value_in names (drop i values) r) (next true has)
      ∙ value_first n (filter (is_in set) (from_to (n + 1) (end - (n + 1)))) (drop i values) r same
      ∙ get_or-drop i values 0 0 ∙ ap (λ k. get_or values k 0) place

  pub value_passes : is_in set n ≡ true → n ≢ r → value_from set (drop (i + 1) values) r (n + 1) (end - (n + 1)) ≡ value_from set (drop i values) r n (end - n)
  unfolding value_from
  value_passes has other =
      sym (ap (λ names. value_in names (drop i values) r) (next true has)
      ∙ value_later n (filter (is_in set) (from_to (n + 1) (end - (n + 1)))) (drop i values) r other
      ∙ ap (λ l. value_in (filter (is_in set) (from_to (n + 1) (end - (n + 1)))) l r) (drop-drop 1 i values))

pub value_ends : (set r n left : ℕ) (values : List ℕ) → left ≡ 0 → value_from set values r n left ≡ 0
unfolding value_from
value_ends set r n left values none = ap (λ k. value_in (filter (is_in set) (from_to n k)) values r) none

-- ---- lists of numbers

-- tests that agree on a range
pub filter_same : (P Q : ℕ → Bool) (n k : ℕ) → ((r : ℕ) → k ≤ r → r < k + n → P r ≡ Q r) → filter P (from_to k n) ≡ filter Q (from_to k n)
filter_same P Q zero k same = refl
filter_same P Q (suc n) k same =
    ap (λ b. if b then k ∷ filter P (from_to (k + 1) n) else filter P (from_to (k + 1) n)) (same k (omega arith) (omega arith))
    ∙ ap (λ l. if Q k then k ∷ l else l) (filter_same P Q n (k + 1) (λ r from upto. same r (omega arith) (omega arith)))

-- the values of a function on a range
pub next_mapped : (h : ℕ → ℕ) (first i count : ℕ) (out more all : List ℕ) → i < count → more ≡ out ++ h (first + i) ∷ [] →
    out ++ map h (from_to (first + i) (count - i)) ≡ all → more ++ map h (from_to (first + (i + 1)) (count - (i + 1))) ≡ all
next_mapped h first i count out more all below pushed inv =
    let left : count - i ≡ suc (count - (i + 1)) = omega (arith, below) in
    let place : first + (i + 1) ≡ first + i + 1 = omega arith in
    ap (λ l. l ++ map h (from_to (first + (i + 1)) (count - (i + 1)))) pushed
    ∙ append_assoc out (h (first + i) ∷ []) (map h (from_to (first + (i + 1)) (count - (i + 1))))
    ∙ ap (λ k. out ++ h (first + i) ∷ map h (from_to k (count - (i + 1)))) place
    ∙ ap (λ k. out ++ map h (from_to (first + i) k)) (sym left) ∙ inv

pub all_mapped : (h : ℕ → ℕ) (first i count : ℕ) (out all : List ℕ) → count ≤ i → out ++ map h (from_to (first + i) (count - i)) ≡ all → out ≡ all
all_mapped h first i count out all over inv =
    let none : count - i ≡ 0 = omega (arith, over) in
    sym (append-nil out) ∙ ap (λ k. out ++ map h (from_to (first + i) k)) (sym none) ∙ inv

pub length_mapped : (h : ℕ → ℕ) (k n : ℕ) → length (map h (from_to k n)) ≡ n
length_mapped h k zero = refl
length_mapped h k (suc n) = ap suc (length_mapped h (k + 1) n)

pub mapped_at : (h : ℕ → ℕ) (n k i : ℕ) → i < n → slice_index (map h (from_to k n)) i ≡ h (k + i)
mapped_at h zero k i below = absurd (omega arith)
mapped_at h (suc n) k zero below = let same : k ≡ k + 0 = omega arith in ap h same
mapped_at h (suc n) k (suc i) below =
    let same : k + 1 + i ≡ k + suc i = omega arith in mapped_at h n (k + 1) i (omega arith) ∙ ap h same

pub mapped_after : (h : ℕ → ℕ) (n k i : ℕ) → n ≤ i → slice_index (map h (from_to k n)) i ≡ 0
mapped_after h zero k zero over = refl
mapped_after h zero k (suc i) over = refl
mapped_after h (suc n) k zero over = absurd (omega arith)
mapped_after h (suc n) k (suc i) over = mapped_after h n (k + 1) i (omega arith)

-- ---- flags by their bits

-- a flag above all of a set
pub bit_above : (n set most : ℕ) → set < 2 ^ most → most ≤ n → bit_at n set ≡ 0
bit_above n set most small above =
    let grows : 2 ^ most ≤ 2 ^ n = pow-le-pow_right {n = 2} (omega arith) above in
    let below : set < 2 ^ n = omega (arith, small, grows) in
    ap (λ k. k % 2) (div-eq_of_lt below)

abbrev pub sum : (v c z n : ℕ) → ℕ
sum v c z n = v + 2 * c + 4 * z + 8 * n

module _ (v c z n : ℕ) (v_bit : v < 2) (c_bit : c < 2) (z_bit : z < 2) (n_bit : n < 2) where
  pub few_flags : (most : ℕ) → most ≤ 4 → (most ≤ 0 → v ≡ 0) → (most ≤ 1 → c ≡ 0) → (most ≤ 2 → z ≡ 0) → (most ≤ 3 → n ≡ 0) → sum v c z n < 2 ^ most
  few_flags zero low a b d e =
      let one = a (omega arith) in let two = b (omega arith) in let three = d (omega arith) in let four = e (omega arith) in
      omega (arith, one, two, three, four)
  few_flags (suc zero) low a b d e =
      let two = b (omega arith) in let three = d (omega arith) in let four = e (omega arith) in omega (arith, v_bit, two, three, four)
  few_flags (suc (suc zero)) low a b d e =
      let three = d (omega arith) in let four = e (omega arith) in omega (arith, v_bit, c_bit, three, four)
  few_flags (suc (suc (suc zero))) low a b d e = let four = e (omega arith) in omega (arith, v_bit, c_bit, z_bit, four)
  few_flags (suc (suc (suc (suc zero)))) low a b d e = omega (arith, v_bit, c_bit, z_bit, n_bit)
  few_flags (suc (suc (suc (suc (suc k))))) low a b d e = absurd (omega arith)

  pub flag_of : (K : ℕ → Bool) (old : ℕ → ℕ) (given : ℕ) → given < 2 ^ 4 → ((k : ℕ) → 4 ≤ k → K k ≡ false) →
      v ≡ (if K 0 then old 0 else bit_at 0 given) → c ≡ (if K 1 then old 1 else bit_at 1 given) →
      z ≡ (if K 2 then old 2 else bit_at 2 given) → n ≡ (if K 3 then old 3 else bit_at 3 given) →
      (k : ℕ) → bit_at k (sum v c z n) ≡ (if K k then old k else bit_at k given)
  flag_of K old given low out a b d e zero = let at : bit_at 0 (sum v c z n) ≡ v = omega arith in at ∙ a
  flag_of K old given low out a b d e (suc zero) = let at : bit_at 1 (sum v c z n) ≡ c = omega arith in at ∙ b
  flag_of K old given low out a b d e (suc (suc zero)) = let at : bit_at 2 (sum v c z n) ≡ z = omega arith in at ∙ d
  flag_of K old given low out a b d e (suc (suc (suc zero))) = let at : bit_at 3 (sum v c z n) ≡ n = omega arith in at ∙ e
  flag_of K old given low out a b d e (suc (suc (suc (suc k)))) =
      let small : sum v c z n < 2 ^ 4 = omega (arith, v_bit, c_bit, z_bit, n_bit) in
      above (suc (suc (suc (suc k)))) small (omega arith)
    where
      above : (j : ℕ) → sum v c z n < 2 ^ 4 → 4 ≤ j → bit_at j (sum v c z n) ≡ (if K j then old j else bit_at j given)
      above j small high =
          bit_above j (sum v c z n) 4 small high
          ∙ sym (ap (λ t. if t then old j else bit_at j given) (out j high) ∙ bit_above j given 4 low high)

pub low_flags : (given most : ℕ) → given < 2 ^ most → most ≤ 4 → given < 2 ^ 4
low_flags given most small few = let grows : 2 ^ most ≤ 2 ^ 4 = pow-le-pow_right {n = 2} (omega arith) few in omega (arith, small, grows)

-- no machine has a flag above
pub no_flag_above : (f : Frame) (m : Machine) (form : Layout) (x : Contract) → f.program.machine ≡ m → IsFitted m form → (k : ℕ) → 4 ≤ k →
    keeps_flag f x k ≡ false
no_flag_above f m form x machine fitted k above =
    let few = fitted.few_flags in
    let over : nat_lt k (length form.flags) ≡ false = grind (arith, nat_tests) in
    ap (λ (z : Machine). z.has_flag k && not (list_any (nat_eq k) x.flags)) machine
    ∙ ap (λ b. b && not (list_any (nat_eq k) x.flags)) (fitted.flags k ∙ over)
