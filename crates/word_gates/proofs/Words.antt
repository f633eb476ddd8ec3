-- Words bit by bit.
use Rattle.std.proofs.Common.{◌≡◌, ℕ, suc, zero, ◌+◌, ◌*◌, ◌^◌, ◌<◌, ◌≤◌, Bool, true, false, List, [], ◌∷◌, ◌++◌, length, take, get_or, refl, sym, ◌∙◌, ap, subst, arith, length-append, drop, replicate, ◌-◌, ◌/◌, ◌%◌, length-drop, length-take}
use Rattle.std.proofs.lemmas.List.{take_more, take_all, drop_more, take-append-drop}
use Rattle.std.proofs.lemmas.List.Elements.{All-push, All-append, All-replicate, All-take, All-drop, All-cons, All-nil}
use Rattle.std.proofs.Math.Nat.{pow-suc}
use Rattle.std.proofs.lemmas.Nat.{shr_high, mod_low, shr_le}
use Rattle.word_spec.specs.Words.{bit}
use Rattle.gates.specs.declared.bit.Bit.{Bit}
use Rattle.gates.specs.Circuits.{Within, bit_value, variable_of, Netlist, next, Grows, IsBit}
use Rattle.word_gates.specs.Numbers.{number, digit, IsWord}
use Rattle.gates.proofs.Netlists.{grows_then, grows_none}

-- what a read of a word past its end would give
abbrev pub no_bit : Bit
no_bit = record { code = 0 }

pub within_none : {n : ℕ} → Within n []
within_none {n} = record { each = All-nil _ }

pub within_push : {n : ℕ} {ls : List Bit} (m : ℕ) (l : Bit) → Within n ls → n ≤ m → variable_of l < m → Within m (ls ++ l ∷ [])
within_push {n} {ls} m l w e h = record {
  each = All-push (λ (l : Bit). variable_of l < m) ls l
      (λ k d i. let x : variable_of (get_or ls k d) < n = w.each k d i in omega arith) h;
}

pub within_more : {n : ℕ} {ls : List Bit} (m : ℕ) → Within n ls → n ≤ m → Within m ls
within_more {n} {ls} m w e = record { each = λ k d i. let x : variable_of (get_or ls k d) < n = w.each k d i in omega arith }

pub within_at : {n : ℕ} {ls : List Bit} (k : ℕ) (l : Bit) → Within n ls → k < length ls → l ≡ get_or ls k l → variable_of l < n
within_at {n} {ls} k l w i e = let P : Bit → Type 0 = λ (x : Bit). variable_of x < n in subst P (sym e) (w.each k l i)

pub pow_more : (i : ℕ) → 2 ^ (i + 1) ≡ 2 * 2 ^ i
pow_more i = grind (arith, pow-suc 2 i)

pub number_push : (v : ℕ → Bool) (ls : List Bit) (l : Bit) → number v (ls ++ l ∷ []) ≡ number v ls + 2 ^ length ls * digit v l
number_push v [] l = grind arith
number_push v (x ∷ ls) l = grind (arith, number_push v ls l, pow-suc 2 (length ls))

pub number_push_at : (v : ℕ → Bool) (ls : List Bit) (l : Bit) (i : ℕ) → length ls ≡ i → number v (ls ++ l ∷ []) ≡ number v ls + 2 ^ i * digit v l
number_push_at v ls l i e = number_push v ls l ∙ ap (λ k. number v ls + 2 ^ k * digit v l) e

-- one bit more of the number that is read so far
pub number_more : (v : ℕ → Bool) (ls : List Bit) (i : ℕ) → i < length ls →
    number v (take (i + 1) ls) ≡ number v (take i ls) + 2 ^ i * digit v (get_or ls i no_bit)
number_more v ls i h =
    let n : length (take i ls) ≡ i = grind (arith, length-take i ls) in
    let l = get_or ls i no_bit in
    ap (number v) (take_more ls i no_bit h) ∙ (number_push v (take i ls) l ∙ ap (λ k. number v (take i ls) + 2 ^ k * digit v l) n)

pub digit_small : (b : Bool) → bit b ≤ 1
digit_small true = omega arith
digit_small false = omega arith

pub number_below : (v : ℕ → Bool) (ls : List Bit) → number v ls < 2 ^ length ls
number_below v [] = omega arith
number_below v (x ∷ ls) =
    let h = number_below v ls in
    let d : digit v x ≤ 1 = digit_small (bit_value v x) in
    let e : 2 ^ suc (length ls) ≡ 2 * 2 ^ length ls = grind (arith, pow-suc 2 (length ls)) in
    rw e (omega arith)

pub number_take_below : (v : ℕ → Bool) (ls : List Bit) (i : ℕ) → i ≤ length ls → number v (take i ls) < 2 ^ i
number_take_below v ls i h =
    let n : length (take i ls) ≡ i = grind (arith, length-take i ls) in
    let P : ℕ → Type 0 = λ k. number v (take i ls) < 2 ^ k in
    subst P n (number_below v (take i ls))

pub number_append : (v : ℕ → Bool) (xs ys : List Bit) → number v (xs ++ ys) ≡ number v xs + 2 ^ length xs * number v ys
number_append v [] ys = omega arith
number_append v (x ∷ xs) ys =
    let e : 2 ^ suc (length xs) ≡ 2 * 2 ^ length xs = grind (arith, pow-suc 2 (length xs)) in
    rw (number_append v xs ys, e) (omega arith)

pub number_split : (v : ℕ → Bool) (ls : List Bit) (k : ℕ) → k ≤ length ls → number v ls ≡ number v (drop k ls) * 2 ^ k + number v (take k ls)
number_split v ls k h =
    let n : length (take k ls) ≡ k = grind (arith, length-take k ls) in
    let a = number_append v (take k ls) (drop k ls) in
    let e : number v (take k ls ++ drop k ls) ≡ number v ls = ap (number v) (take-append-drop k ls) in
    let f : number v ls ≡ number v (take k ls) + 2 ^ k * number v (drop k ls) = rw (e, n) at a in
    omega arith

pub number_drop : (v : ℕ → Bool) (ls : List Bit) (k : ℕ) → k ≤ length ls → number v (drop k ls) ≡ number v ls / 2 ^ k
number_drop v ls k h = rw (number_split v ls k h) (sym (shr_high _ k _ (number_take_below v ls k h)))

pub number_take : (v : ℕ → Bool) (ls : List Bit) (k : ℕ) → k ≤ length ls → number v (take k ls) ≡ number v ls % 2 ^ k
number_take v ls k h = rw (number_split v ls k h) (sym (mod_low _ k _ (number_take_below v ls k h)))

pub number_zeros : (v : ℕ → Bool) (z : Bit) (k : ℕ) → bit_value v z ≡ false → number v (replicate k z) ≡ 0
number_zeros v z zero h = refl
number_zeros v z (suc k) h = let e : digit v z ≡ 0 = ap bit h in rw (e, number_zeros v z k h) refl

pub half_pow : (n : ℕ) → 0 < n → 2 ^ n ≡ 2 * 2 ^ (n - 1)
half_pow n h = let e : n ≡ (n - 1) + 1 = omega arith in ap (λ t. 2 ^ t) e ∙ pow_more (n - 1)

-- the bits from the place k - 1 on are one bit and those from k on
pub number_from : (v : ℕ → Bool) (ls : List Bit) (i j k : ℕ) → k < length ls → i ≡ k → j ≡ k + 1 →
    number v (drop i ls) ≡ digit v (get_or ls k no_bit) + 2 * number v (drop j ls)
number_from v ls i j k h e f = rw (e, f) (ap (number v) (drop_more ls k no_bit h))

-- the bits below the highest, and the highest
pub number_top : (v : ℕ → Bool) (ls : List Bit) (k : ℕ) → length ls ≡ k + 1 → number v ls ≡ number v (take k ls) + 2 ^ k * digit v (get_or ls k no_bit)
number_top v ls k e =
    let a = number_more v ls k (omega arith) in
    let t : take (k + 1) ls ≡ ls = take_all (k + 1) ls (omega arith) in
    rw t at a

pub within_cons : {n : ℕ} {ls : List Bit} (m : ℕ) (l : Bit) → Within n ls → n ≤ m → variable_of l < m → Within m (l ∷ ls)
within_cons {n} {ls} m l w e h = record {
  each = All-cons (λ (l : Bit). variable_of l < m) l ls h
      (λ k d i. let x : variable_of (get_or ls k d) < n = w.each k d i in omega arith);
}

-- what `&ls[k..]` holds
pub rest_is : (ls : List Bit) (k : ℕ) → take (length ls - k) (drop k ls) ≡ drop k ls
rest_is ls k = take_all (length ls - k) (drop k ls) (omega (arith, length-drop k ls))

pub number_drop_below : (v : ℕ → Bool) (ls : List Bit) (k n : ℕ) → k ≤ length ls → length ls ≡ n → number v (drop k ls) < 2 ^ n
number_drop_below v ls k n h e =
    let a : number v (drop k ls) ≡ number v ls / 2 ^ k = number_drop v ls k h in
    let b : number v ls / 2 ^ k ≤ number v ls = shr_le (number v ls) k in
    let f = number_below v ls in
    let g : number v ls < 2 ^ n = rw e at f in
    omega arith

pub take_nothing : (k : ℕ) → take {A = Bit} k [] ≡ []
take_nothing zero = refl
take_nothing (suc k) = refl

-- ---- words as they are made

pub word_push : {a b c : Netlist} {m n w : ℕ} {ls : List Bit} {l : Bit} (k : ℕ) → IsWord a b m w ls → IsBit b c n l → m + n ≤ k →
    IsWord a c k (w + 1) (ls ++ l ∷ [])
word_push {ls = ls} {l = l} k g h e =
    record {
      grows = grows_then k g.grows h.grows e;
      within = within_push _ _ g.within h.grows.more h.within;
      len = length-append ls (l ∷ []) ∙ ap (λ k. k + 1) g.len;
    }

pub word_then : {a b c : Netlist} {m n u : ℕ} {ls : List Bit} (k w : ℕ) → Grows a b m → IsWord b c n u ls → m + n ≤ k → u ≡ w → IsWord a c k w ls
word_then k w g h e f = record { grows = grows_then k g h.grows e; within = h.within; len = h.len ∙ f }

pub word_cons : {a b c : Netlist} {m n w : ℕ} {ls : List Bit} (l : Bit) (k : ℕ) → IsWord a b m w ls → Grows b c n → variable_of l < next c → m + n ≤ k →
    IsWord a c k (w + 1) (l ∷ ls)
word_cons {ls = ls} l k g h i e = record { grows = grows_then k g.grows h e; within = within_cons _ l g.within h.more i; len = let f = g.len in omega arith }

-- a bit that is there already
pub word_has : {a b : Netlist} {m w : ℕ} {ls : List Bit} (l : Bit) → IsWord a b m w ls → variable_of l < next b → IsWord a b m (w + 1) (ls ++ l ∷ [])
word_has {b = b} {m = m} l g h = let t : IsBit b b 0 l = record { grows = grows_none b 0; within = h } in word_push m g t (omega arith)

pub within_take : {n : ℕ} {ls : List Bit} (k : ℕ) → Within n ls → Within n (take k ls)
within_take {n} {ls} k w = record { each = All-take (λ (l : Bit). variable_of l < n) k ls w.each }

pub within_drop : {n : ℕ} {ls : List Bit} (k : ℕ) → Within n ls → Within n (drop k ls)
within_drop {n} {ls} k w = record { each = All-drop (λ (l : Bit). variable_of l < n) k ls w.each }

pub within_append : {n : ℕ} {ls ms : List Bit} → Within n ls → Within n ms → Within n (ls ++ ms)
within_append {n} {ls} {ms} w u = record { each = All-append (λ (l : Bit). variable_of l < n) ls ms w.each u.each }

pub within_replicate : {n : ℕ} (k : ℕ) (z : Bit) → variable_of z < n → Within n (replicate k z)
within_replicate {n} k z h = record { each = All-replicate (λ (l : Bit). variable_of l < n) k z h }
