-- The bytes of runs are in a memory exactly where each byte that is known is.
use Rattle.std.proofs.Common.{◌≡◌, ℕ, zero, suc, ◌+◌, ◌-◌, ◌^◌, ◌<◌, ◌≤◌, refl, ap, sym, ◌∙◌, arith, true, false, Bool, List, [], ◌∷◌, Some, inl, inr}
use Rattle.std.specs.Prelude.{◌==◌, ◌&&◌, nat_lt, nat_le, find, slice_index, if◌then◌else◌}
use Rattle.std.proofs.lemmas.Bool.{cases_lt}
use Rattle.std.proofs.lemmas.Bool.Decides.{nat_tests}
use Rattle.walk_spec.specs.Unrolled.{AddressRun, ByteRun, byte_in_run, byte_of_runs}
use Rattle.smtlib_print.specs.Commands.{is_of_part, held_bytes, held_runs, held_head}
use Rattle.smtlib_print.specs.Scripted.{AreBehind, FitMemory}
use Rattle.smtlib_print.proofs.Declared.{both_true}

-- the memory of a part has its bytes of runs
abbrev pub HasKnown : (part : ℕ) → (kept : List AddressRun) → List ByteRun → (mem : ℕ → ℕ) → Type 0
HasKnown p kept runs mem = (a b : ℕ) → a < 2 ^ 32 → byte_of_runs runs a ≡ Some b → is_of_part p kept a ≡ true → mem a ≡ b

-- one byte more, which is of the part or not
byte_from : (asked one rest : Bool) → (if asked then one && rest else rest) ≡ true → (rest ≡ true) × (asked ≡ true → one ≡ true)
byte_from true one rest h = let t = both_true one rest h in (t.1, λ e. t.0)
byte_from false one rest h = (h, λ e. absurd (cc))

byte_to : (asked one rest : Bool) → rest ≡ true → (asked ≡ true → one ≡ true) → (if asked then one && rest else rest) ≡ true
byte_to true one rest h f = rw (f refl) h
byte_to false one rest h f = h

same_number : (m n : ℕ) → (m == n) ≡ true → m ≡ n
same_number m n h = grind (arith, nat_tests)

equal_numbers : (m n : ℕ) → m ≡ n → (m == n) ≡ true
equal_numbers m n h = grind (arith, nat_tests)

-- the run has the address
abbrev has : ℕ → ByteRun → Bool
has a r = nat_le r.at a && nat_lt a (r.at + r.count)

-- a known byte of later runs lies behind
behind_by : (t : Bool) (low a b : ℕ) (r : ByteRun) (rs : List ByteRun) → has a r ≡ t → low ≤ r.at →
    byte_in_run a (if t then Some r else find (λ q. has a q) rs) ≡ Some b →
    (byte_of_runs rs a ≡ Some b → r.at + r.count ≤ a) → low ≤ a
behind_by true low a b r rs e h f later = let k : r.at ≤ a = grind (arith, nat_tests) in omega (arith, h, k)
behind_by false low a b r rs e h f later = omega (arith, h, later f)

found_behind : (rs : List ByteRun) (low a b : ℕ) → AreBehind low rs → byte_of_runs rs a ≡ Some b → low ≤ a
found_behind [] low a b h f = absurd (cc f)
found_behind (r ∷ rs) low a b h f = behind_by (has a r) low a b r rs refl h.0 f (found_behind rs (r.at + r.count) a b h.1)

has_own : (r : ByteRun) (j : ℕ) → j < r.count → has (r.at + j) r ≡ true
has_own r j l =
    let p : nat_le r.at (r.at + j) ≡ true = grind (arith, nat_tests) in
    let q : nat_lt (r.at + j) (r.at + r.count) ≡ true = grind (arith, nat_tests) in
    rw (p, q) refl

has_none : (r : ByteRun) (a : ℕ) → r.at + r.count ≤ a → has a r ≡ false
has_none r a l =
    let p : nat_le r.at a ≡ true = grind (arith, nat_tests) in
    let q : nat_lt a (r.at + r.count) ≡ false = grind (arith, nat_tests) in
    rw (p, q) refl

module _ (p : ℕ) (kept : List AddressRun) (mem : ℕ → ℕ) where
  -- it has those of one run from a distance on
  abbrev HasRun : ByteRun → (from count : ℕ) → Type 0
  HasRun r i n = (j : ℕ) → i ≤ j → j < i + n → is_of_part p kept (r.at + j) ≡ true → mem (r.at + j) ≡ slice_index r.bytes j

  bytes_from : (r : ByteRun) (n i : ℕ) (b : Bool) → held_bytes p kept mem r i n b ≡ true → (b ≡ true) × HasRun r i n
  bytes_from r zero i b h = (h, λ j l k e. absurd (omega (arith, l, k)))
  bytes_from r (suc n) i b h =
      let t = byte_from (is_of_part p kept (r.at + i)) (mem (r.at + i) == slice_index r.bytes i) (held_bytes p kept mem r (suc i) n b) h in
      let next = bytes_from r n (suc i) b t.0 in (
        next.0,
        λ j l k e. elim (cases_lt i j) [
          | inl m ↦ next.1 j m (omega (arith, k)) e
          | inr m ↦ (
              let same : j ≡ i = omega (arith, l, m) in
              let here : is_of_part p kept (r.at + i) ≡ true = ap (λ z. is_of_part p kept (r.at + z)) (sym same) ∙ e in
              ap (λ z. mem (r.at + z)) same ∙ same_number (mem (r.at + i)) (slice_index r.bytes i) (t.1 here) ∙ ap (slice_index r.bytes) (sym same))
        ],
      )

  bytes_to : (r : ByteRun) (n i : ℕ) (b : Bool) → b ≡ true → HasRun r i n → held_bytes p kept mem r i n b ≡ true
  bytes_to r zero i b h f = h
  bytes_to r (suc n) i b h f =
      byte_to (is_of_part p kept (r.at + i)) (mem (r.at + i) == slice_index r.bytes i) (held_bytes p kept mem r (suc i) n b)
      (bytes_to r n (suc i) b h (λ j l k. f j (omega (arith, l)) (omega (arith, k))))
      (λ e. equal_numbers (mem (r.at + i)) (slice_index r.bytes i) (f i (omega arith) (omega arith) e))

  known_by : (t : Bool) (a b : ℕ) (r : ByteRun) (rs : List ByteRun) → has a r ≡ t → a < 2 ^ 32 →
      byte_in_run a (if t then Some r else find (λ q. has a q) rs) ≡ Some b → is_of_part p kept a ≡ true →
      HasRun r 0 r.count → HasKnown p kept rs mem → mem a ≡ b
  known_by true a b r rs e l f asked run later =
      let k : r.at ≤ a = grind (arith, nat_tests) in
      let q : a < r.at + r.count = grind (arith, nat_tests) in
      let z : r.at + (a - r.at) ≡ a = omega (arith, k) in
      ap mem (sym z) ∙ run (a - r.at) (omega arith) (omega (arith, k, q)) (ap (is_of_part p kept) z ∙ asked) ∙ cc f
  known_by false a b r rs e l f asked run later = later a b l f asked

  -- what is known is in the memory
  pub from_held : (rs : List ByteRun) (b : Bool) → held_runs p kept mem rs b ≡ true → (b ≡ true) × HasKnown p kept rs mem
  from_held [] b h = (h, λ a v l f asked. absurd (cc f))
  from_held (r ∷ rs) b h =
      let run = bytes_from r r.count 0 (held_runs p kept mem rs b) h in
      let next = from_held rs b run.0 in
      (next.0, λ a v l f asked. known_by (has a r) a v r rs refl l f asked (λ j k m. run.1 j k (omega (arith, m))) next.1)

  -- and the other way round
  pub to_held : (rs : List ByteRun) (low : ℕ) (b : Bool) → FitMemory rs → AreBehind low rs → b ≡ true → HasKnown p kept rs mem →
      held_runs p kept mem rs b ≡ true
  to_held [] low b fit behind h known = h
  to_held (r ∷ rs) low b fit behind h known =
      bytes_to r r.count 0 (held_runs p kept mem rs b)
      (to_held rs (r.at + r.count) b fit.1 behind.1 h
      (λ a v l f asked. known a v l (let t = has_none r a (found_behind rs (r.at + r.count) a v behind.1 f) in rw t f) asked))
      (λ j l k asked. known (r.at + j) (slice_index r.bytes j) (omega (arith, fit.0.within, k))
      (let t = has_own r j (omega (arith, k)) in let z : r.at + j - r.at ≡ j = omega arith in rw (t, z) refl) asked)

-- of the head, if it is asked
pub head_from : (asked : Bool) (kept : List AddressRun) (mem : ℕ → ℕ) (rs : List ByteRun) (b : Bool) → held_head asked kept mem rs b ≡ true →
    (b ≡ true) × (asked ≡ true → HasKnown 1 kept rs mem)
head_from false kept mem rs b h = (h, λ e. absurd (cc))
head_from true kept mem rs b h = let t = from_held 1 kept mem rs b h in (t.0, λ e. t.1)

pub head_to : (asked : Bool) (kept : List AddressRun) (mem : ℕ → ℕ) (rs : List ByteRun) (b : Bool) → FitMemory rs → AreBehind 0 rs → b ≡ true →
    (asked ≡ true → HasKnown 1 kept rs mem) → held_head asked kept mem rs b ≡ true
head_to false kept mem rs b fit behind h known = h
head_to true kept mem rs b fit behind h known = to_held 1 kept mem rs 0 b fit behind h (known refl)
