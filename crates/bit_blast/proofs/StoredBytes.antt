-- Bytes that are stored one by one.
use Rattle.std.proofs.Common.{◌≡◌, ℕ, zero, suc, ◌+◌, ◌-◌, ◌^◌, ◌<◌, ◌≤◌, Bool, true, false, List, [], ◌∷◌, length, drop, map, get_or, refl, ap, sym, ◌∙◌, subst, arith, inl, inr, length-drop}
use Rattle.std.specs.Prelude.{◌==◌, ◌&&◌, nat_le, nat_lt, if◌then◌else◌, slice_index, min, Some, None, All, find}
use Rattle.std.proofs.lemmas.Bool.Decides.{nat_tests}
use Rattle.std.proofs.lemmas.Bool.{and_parts}
use Rattle.std.proofs.lemmas.List.{drop_more, get_or-drop, get_or_past}
use Rattle.byte_mem.proofs.Spans.{byte_none}
use Rattle.bit_blast.proofs.StepChoices.{any_default}
use Rattle.word_spec.specs.Words.{word, sub}
use Rattle.word_spec.specs.Memory.{Little, store, byte_of, byte_in, memory_of}
use Rattle.machine_spec.specs.StateText.{known_or}
use Rattle.bilv_spec.proofs.Pigeons.{truth}
use Rattle.walk_spec.specs.Unrolled.{ByteRun, byte_in_run, byte_of_runs}
use Rattle.known_bytes.specs.declared.listing.Known.{Known}
use Rattle.known_bytes.specs.Runs.{AreRuns, run_of}
use Rattle.bit_blast.specs.Stored.{AreBytes, filled}

-- a store of one byte
pub put_of : (old new : List (ℕ × ℕ)) (a value bits : ℕ) → a < 2 ^ 32 → value < 256 → bits ≡ value → memory_of new ≡ store Little 1 (memory_of old) a bits →
    (x : ℕ) → memory_of new x ≡ (if word 32 x == a then value else memory_of old x)
put_of old new a value bits low small is e x = elim (truth (word 32 x == a)) [
  | inl t ↦ (
      let same : word 32 x ≡ a = grind (arith, nat_tests) in
      let at : sub 32 a a ≡ 0 = omega arith in
      let bottom : byte_of Little 1 bits 0 ≡ value = omega arith in
      let w : word 32 x ≡ word 32 a = omega arith in
      ap (byte_in new) w ∙ ap (λ (f : ℕ → ℕ). f a) e ∙ ap (λ n. if nat_lt n 1 then byte_of Little 1 bits n else memory_of old a) at ∙ bottom
      ∙ sym (ap (λ z. if z then value else memory_of old x) t))
  | inr f ↦ (
      let low' : word 32 x < 2 ^ 32 = omega arith in
      let apart : (word 32 x ≡ a → ⊥) = grind (arith, nat_tests) in
      let away : nat_lt (sub 32 (word 32 x) a) 1 ≡ false = grind (arith, nat_tests) in
      let w : word 32 x ≡ word 32 (word 32 x) = omega arith in
      ap (byte_in new) w ∙ ap (λ (g : ℕ → ℕ). g (word 32 x)) e ∙ ap
      (λ b. if b then byte_of Little 1 bits (sub 32 (word 32 x) a) else memory_of old (word 32 x)) away
      ∙ ap (byte_in old) (sym w) ∙ sym (ap (λ z. if z then value else memory_of old x) f))
]

-- stored bytes stay below 256
pub put_small : (old new : List (ℕ × ℕ)) (a value : ℕ) → value < 256 → ((x : ℕ) → memory_of new x ≡ (if word 32 x == a then value else memory_of old x)) →
    AreBytes (memory_of old) → AreBytes (memory_of new)
put_small old new a value small e h x = subst (λ (n : ℕ). n < 256) (sym (e x)) (by (word 32 x == a))
  where
    by : (b : Bool) → (if b then value else memory_of old x) < 256
    by true = small
    by false = h x

-- one more byte in front
pub byte_front : (bytes old new : List (ℕ × ℕ)) (i : ℕ) (d : ℕ × ℕ) → i < length bytes → ((x : ℕ) → memory_of old x ≡ memory_of (drop (i + 1) bytes) x) →
    ((x : ℕ) → memory_of new x ≡ (if word 32 x == (get_or bytes i d).0 then (get_or bytes i d).1 else memory_of old x)) → (x : ℕ) →
    memory_of new x ≡ memory_of (drop i bytes) x
byte_front bytes old new i d l h p x =
    p x ∙ ap (λ z. if word 32 x == (get_or bytes i d).0 then (get_or bytes i d).1 else z) (h x) ∙ sym (ap (λ z. byte_in z (word 32 x)) (drop_more bytes i d l))

-- one more byte of a run
pub filled_more : (r : Known) (i x old m new : ℕ) → i < length r.bytes.now → m ≡ filled r i x old →
    new ≡ (if x == r.first + i then get_or r.bytes.now i 0 else m) → new ≡ filled r (i + 1) x old
filled_more r i x old m new l e f = elim (truth (x == r.first + i)) [
  | inl t ↦ (
      let s : x ≡ r.first + i = grind (arith, nat_tests) in
      let a : x - r.first ≡ i = omega arith in
      let b : nat_le r.first x ≡ true = grind (arith, nat_tests) in
      let c : nat_lt x (r.first + (i + 1)) ≡ true = grind (arith, nat_tests) in
      f ∙ ap (λ z. if z then get_or r.bytes.now i 0 else m) t ∙ ap (λ z. slice_index r.bytes.now z) (sym a)
      ∙ sym (ap (λ z. if z && nat_lt x (r.first + (i + 1)) then slice_index r.bytes.now (x - r.first) else old) b ∙ ap
      (λ z. if z then slice_index r.bytes.now (x - r.first) else old) c))
  | inr g ↦ (
      let same : nat_lt x (r.first + i) ≡ nat_lt x (r.first + (i + 1)) = grind (arith, nat_tests) in
      f ∙ ap (λ z. if z then get_or r.bytes.now i 0 else m) g ∙ e ∙ ap (λ z. if nat_le r.first x && z then slice_index r.bytes.now (x - r.first) else old) same)
]

pub filled_none : (r : Known) (x old : ℕ) → old ≡ filled r 0 x old
filled_none r x old = elim (truth (nat_le r.first x)) [
  | inl t ↦ (let b : nat_lt x (r.first + 0) ≡ false = grind (arith, nat_tests) in
      sym (ap (λ z. if nat_le r.first x && z then slice_index r.bytes.now (x - r.first) else old) b ∙ both (nat_le r.first x)))
  | inr g ↦ sym (ap (λ z. if z && nat_lt x (r.first + 0) then slice_index r.bytes.now (x - r.first) else old) g)
]
  where
    both : (b : Bool) → (if b && false then slice_index r.bytes.now (x - r.first) else old) ≡ old
    both true = refl
    both false = refl

-- ---- runs

some_none : (n : ℕ) → Some n ≡ None → ⊥
some_none n e = cc

-- no run that begins behind an address has it
none_behind : (rest : List Known) (w : ℕ) → ((k : ℕ) (d : Known) → k < length rest → w < (get_or rest k d).first) → byte_of_runs (map run_of rest) w ≡ None
none_behind [] w h = refl
none_behind (r ∷ rest) w h =
    let l : w < r.first = h 0 r (omega arith) in
    let e : (nat_le r.first w && nat_lt w (r.first + (r.last - r.first + 1))) ≡ false = ap (λ z. z &&
    nat_lt w (r.first + (r.last - r.first + 1))) (let f : nat_le r.first w ≡ false = grind (arith, nat_tests) in f) in
    ap (λ z. byte_in_run w (if z then Some (run_of r) else find (λ (q : ByteRun). nat_le q.at w && nat_lt w (q.at + q.count)) (map run_of rest))) e
    ∙ none_behind rest w (λ k d m. h (suc k) d (omega arith))

-- an address of a run is known
not_none : (runs : List Known) (i : ℕ) (d : Known) (w : ℕ) → i < length runs →
    (nat_le (get_or runs i d).first w && nat_lt w ((get_or runs i d).first + ((get_or runs i d).last - (get_or runs i d).first + 1))) ≡ true →
    byte_of_runs (map run_of runs) w ≡ None → ⊥
not_none [] i d w l t e = absurd (omega arith)
not_none (r ∷ runs) zero d w l t e =
    some_none _ (sym (ap (λ z. byte_in_run w (if z then Some (run_of r) else find (λ (q : ByteRun). nat_le q.at w &&
    nat_lt w (q.at + q.count)) (map run_of runs))) t) ∙ e)
not_none (r ∷ runs) (suc i) d w l t e = elim (truth (nat_le r.first w && nat_lt w (r.first + (r.last - r.first + 1)))) [
  | inl s ↦ some_none _ (sym (ap (λ z. byte_in_run w (if z then Some (run_of r) else find (λ (q : ByteRun). nat_le q.at w &&
      nat_lt w (q.at + q.count)) (map run_of runs))) s) ∙ e)
  | inr s ↦ not_none runs i d w (omega arith) t (sym (ap (λ z. byte_in_run w (if z then Some (run_of r) else find (λ (q : ByteRun). nat_le q.at w &&
      nat_lt w (q.at + q.count)) (map run_of runs))) s) ∙ e)
]

-- one more run in front
front : (r : Known) (rest : List Known) (bytes : List (ℕ × ℕ)) (x w old new : ℕ) →
    (byte_of_runs (map run_of rest) w ≡ None → (nat_le r.first w && nat_lt w (r.first + (r.last - r.first + 1))) ≡ true → memory_of bytes x ≡ 0) →
    ((nat_le r.first w && nat_lt w (r.first + (r.last - r.first + 1))) ≡ true → byte_of_runs (map run_of rest) w ≡ None) →
    old ≡ known_or (byte_of_runs (map run_of rest) w) bytes x → new ≡ filled r (min (length r.bytes.now) (r.last - r.first + 1)) w old →
    new ≡ known_or (byte_of_runs (run_of r ∷ map run_of rest) w) bytes x
front r rest bytes x w old new zero' apart e f = elim (truth (nat_le r.first w && nat_lt w (r.first + (r.last - r.first + 1)))) [
  | inl t ↦ f ∙ here t ∙ sym (ap (λ z. known_or (byte_in_run w (if z then Some (run_of r) else find (λ (q : ByteRun). nat_le q.at w &&
      nat_lt w (q.at + q.count)) (map run_of rest))) bytes x) t)
  | inr s ↦ f ∙ away s ∙ e ∙ sym (ap (λ z. known_or (byte_in_run w (if z then Some (run_of r) else find (λ (q : ByteRun). nat_le q.at w &&
      nat_lt w (q.at + q.count)) (map run_of rest))) bytes x) s)
]
  where
    here : (nat_le r.first w && nat_lt w (r.first + (r.last - r.first + 1))) ≡ true →
        filled r (min (length r.bytes.now) (r.last - r.first + 1)) w old ≡ slice_index r.bytes.now (w - r.first)
    here t = elim (truth (nat_lt w (r.first + min (length r.bytes.now) (r.last - r.first + 1)))) [
      | inl s ↦ (let p = (and_parts (nat_le r.first w) (nat_lt w (r.first + (r.last - r.first + 1))) t).0 in
          ap (λ z. if z && nat_lt w (r.first + min (length r.bytes.now) (r.last - r.first + 1)) then slice_index r.bytes.now (w - r.first) else old) p
          ∙ ap (λ z. if z then slice_index r.bytes.now (w - r.first) else old) s)
      | inr s ↦ (let p = (and_parts (nat_le r.first w) (nat_lt w (r.first + (r.last - r.first + 1))) t).0 in
          let q = (and_parts (nat_le r.first w) (nat_lt w (r.first + (r.last - r.first + 1))) t).1 in
          let past : length r.bytes.now ≤ w - r.first = (let a : r.first ≤ w = grind (arith, nat_tests) in let b : w
          < r.first + (r.last - r.first + 1) = grind (arith, nat_tests) in let c : r.first + min (length r.bytes.now) (r.last - r.first + 1)
          ≤ w = grind (arith, nat_tests) in omega arith) in
          let none = apart t in
          ap (λ z. if nat_le r.first w && z then slice_index r.bytes.now (w - r.first) else old) s ∙ off (nat_le r.first w)
          ∙ e ∙ ap (λ z. known_or z bytes x) none ∙ zero' none t ∙ sym (get_or_past r.bytes.now (w - r.first) 0 past))
    ]
      where
        off : (b : Bool) → (if b && false then slice_index r.bytes.now (w - r.first) else old) ≡ old
        off true = refl
        off false = refl

    away : (nat_le r.first w && nat_lt w (r.first + (r.last - r.first + 1))) ≡ false → filled r (min (length r.bytes.now) (r.last - r.first + 1)) w old ≡ old
    away s = elim (truth (nat_le r.first w)) [
      | inl t ↦ (
          let u : nat_lt w (r.first + (r.last - r.first + 1)) ≡ false = sym (ap (λ z. z && nat_lt w (r.first + (r.last - r.first + 1))) t) ∙ s in
          let v : nat_lt w (r.first + min (length r.bytes.now) (r.last - r.first + 1))
          ≡ false = (let a : r.first + (r.last - r.first + 1) ≤ w = grind (arith, nat_tests) in
          let b : r.first + min (length r.bytes.now) (r.last - r.first + 1) ≤ w = omega arith in grind (arith, nat_tests)) in
          ap (λ z. if z && nat_lt w (r.first + min (length r.bytes.now) (r.last - r.first + 1)) then slice_index r.bytes.now (w - r.first) else old) t
          ∙ ap (λ z. if z then slice_index r.bytes.now (w - r.first) else old) v)
      | inr g ↦ ap (λ z. if z && nat_lt w (r.first + min (length r.bytes.now) (r.last - r.first + 1)) then slice_index r.bytes.now (w - r.first) else old) g
    ]

pub run_front_at : (runs : List Known) (bytes : List (ℕ × ℕ)) (i m k : ℕ) (d : Known) (x old new : ℕ) → AreRuns runs →
    ((j : ℕ) (b : ℕ × ℕ) → j < length bytes → (get_or bytes j b).0 ≡ word 32 x → byte_of_runs (map run_of runs) (get_or bytes j b).0 ≡ None) → i < length runs → m ≡ i + 1 → k ≡ i →
    old ≡ known_or (byte_of_runs (map run_of (drop m runs)) (word 32 x)) bytes x →
    new ≡ filled (get_or runs i d) (min (length (get_or runs i d).bytes.now) ((get_or runs i d).last - (get_or runs i d).first + 1)) (word 32 x) old →
    new ≡ known_or (byte_of_runs (map run_of (drop k runs)) (word 32 x)) bytes x
run_front_at runs bytes i m k d x old new are unknown l p q e f =
    front (get_or runs i d) (drop (i + 1) runs) bytes x (word 32 x) old new
    (λ none t. byte_none bytes (word 32 x) (λ j b n s. not_none runs i d (word 32 x) l t (subst
    (λ (z : ℕ). byte_of_runs (map run_of runs) z ≡ None) s (unknown j b n s))))
    (λ t. none_behind (drop (i + 1) runs) (word 32 x) (λ j b n.
    let g = ap (λ (z : Known). z.first) (get_or-drop (i + 1) runs j b) in
    let r = are.rising i (i + 1 + j) b (omega arith) (omega (arith, n, length-drop (i + 1) runs)) in
    let s = are.some i d l in
    let a = ap (λ (z : Known). z.last) (any_default runs i b d l) in
    let c = (and_parts (nat_le (get_or runs i d).first (word 32 x))
    (nat_lt (word 32 x) ((get_or runs i d).first + ((get_or runs i d).last - (get_or runs i d).first + 1))) t).1 in
    let h : word 32 x < (get_or runs i d).first + ((get_or runs i d).last - (get_or runs i d).first + 1) = grind (arith, nat_tests) in
    omega arith))
    (e ∙ ap (λ z. known_or (byte_of_runs (map run_of (drop z runs)) (word 32 x)) bytes x) p) f
    ∙ sym (ap (λ z. known_or (byte_of_runs (map run_of z) (word 32 x)) bytes x) (ap (λ z. drop z runs) q ∙ drop_more runs i d l))

pub run_front : (runs : List Known) (bytes : List (ℕ × ℕ)) (i m k : ℕ) (d : Known) (x old new : ℕ) → AreRuns runs →
    All (λ (b : ℕ × ℕ). byte_of_runs (map run_of runs) b.0 ≡ None) bytes → i < length runs → m ≡ i + 1 → k ≡ i →
    old ≡ known_or (byte_of_runs (map run_of (drop m runs)) (word 32 x)) bytes x →
    new ≡ filled (get_or runs i d) (min (length (get_or runs i d).bytes.now) ((get_or runs i d).last - (get_or runs i d).first + 1)) (word 32 x) old →
    new ≡ known_or (byte_of_runs (map run_of (drop k runs)) (word 32 x)) bytes x
run_front runs bytes i m k d x old new are unknown = run_front_at runs bytes i m k d x old new are (λ j b n s. unknown j b n)
