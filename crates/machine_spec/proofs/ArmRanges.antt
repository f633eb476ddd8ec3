-- What the rows of ARM leave in registers, flags and bytes is in range.
use Rattle.std.proofs.Common.{◌≡◌, ℕ, ◌+◌, ◌-◌, ◌*◌, ◌/◌, ◌%◌, ◌^◌, ◌<◌, ◌≤◌, refl, sym, ap, subst, ◌∙◌, inl, inr, ◌⊎◌, true, false, Bool, arith, Some, List, [], ◌∷◌, length}
use Rattle.std.specs.Prelude.{◌==◌, nat_lt, if◌then◌else◌, Contains}
use Rattle.std.proofs.lemmas.Nat.{mod_below, pow_pos, pow-add, mul-add-lt, shr_below}
use Rattle.std.proofs.lemmas.Bool.Decides.{nat_tests}
use Rattle.machine_spec.proofs.WordBounds.{load_below, stored_below}
use Rattle.machine_spec.proofs.Lawful.{in_span}
use Rattle.machine_spec.proofs.LoadedBytes.{number_same, load_same, store_near, store_same}
use Rattle.word_spec.specs.Words.{add, sub, ror, aligned}
use Rattle.word_spec.specs.Memory.{Endian, Memory, load, store, span}
use Rattle.word_spec.specs.State.{State, IsState, put}
use Rattle.machine_spec.specs.Machine.{addresses}
use Rattle.machine_spec.specs.Arm.{reg, stored_reg, load_by, store_by, access_of, moved, base_written, load_all, store_all, with_flags, is_up, writes_back, field_n}
use Rattle.machine_spec.specs.MachineLaws.{with_memory}

pub below_if : (b : Bool) (x y m : ℕ) → x < m → y < m → (if b then x else y) < m
below_if true x y m p q = p
below_if false x y m p q = q

pub mod_word : (a : ℕ) → a % 2 ^ 32 < 2 ^ 32
mod_word a = omega arith

pub put_below : (f : ℕ → ℕ) (at v m : ℕ) → ((r : ℕ) → f r < m) → v < m → (r : ℕ) → put f at v r < m
put_below f at v m small p r = below_if (r == at) v (f r) m p (small r)

pub reg_small : (s : State) (r : ℕ) → IsState s → reg s r < 2 ^ 32
reg_small s r is = below_if (r == 15) _ _ (2 ^ 32) (mod_word (s.pc + 8)) (is.regs r)

pub ror_small : (a b : ℕ) → a < 2 ^ 32 → ror 32 a b < 2 ^ 32
ror_small a b p = by_amount (b % 32) (omega arith)
  where
    by_amount : (k : ℕ) → k < 32 → a / 2 ^ k + a % 2 ^ k * 2 ^ (32 - k) < 2 ^ 32
    by_amount k l =
        let e : 32 ≡ (32 - k) + k = omega arith in
        let upper = shr_below a (32 - k) k (subst (λ (z : ℕ). a < 2 ^ z) e p) in
        let lower = mod_below a (2 ^ k) (pow_pos k) in
        let whole = mul-add-lt (a % 2 ^ k) (2 ^ (32 - k)) (a / 2 ^ k) (2 ^ k) lower upper in
        let joined : 2 ^ (32 - k) * 2 ^ k ≡ 2 ^ 32 = sym (pow-add 2 (32 - k) k) ∙ ap (λ z. 2 ^ z) (sym e) in
        let whole_32 : a % 2 ^ k * 2 ^ (32 - k) + a / 2 ^ k < 2 ^ 32 = subst (λ (z : ℕ). a % 2 ^ k * 2 ^ (32 - k) + a / 2 ^ k < z) joined whole in
        omega arith

pub load_1 : (e : Endian) (m : Memory) (a : ℕ) → ((i : ℕ) → m i < 256) → load e 1 m a < 2 ^ 8
load_1 e m a h = load_below e 8 m a refl h

pub load_2 : (e : Endian) (m : Memory) (a : ℕ) → ((i : ℕ) → m i < 256) → load e 2 m a < 2 ^ 16
load_2 e m a h = load_below e 16 m a refl h

pub load_4 : (e : Endian) (m : Memory) (a : ℕ) → ((i : ℕ) → m i < 256) → load e 4 m a < 2 ^ 32
load_4 e m a h = load_below e 32 m a refl h

pub load_by_small : (byte : Bool) (e : Endian) (m : Memory) (a : ℕ) → ((i : ℕ) → m i < 256) → load_by byte e m a < 2 ^ 32
load_by_small true e m a h = let l = load_1 e m a h in omega arith
load_by_small false e m a h = ror_small (load e 4 m (aligned a)) (8 * (a % 4)) (load_4 e m (aligned a) h)

pub store_by_small : (byte : Bool) (e : Endian) (m : Memory) (a v x : ℕ) → m x < 256 → store_by byte e m a v x < 256
store_by_small true e m a v x h = stored_below e 1 m a v x h
store_by_small false e m a v x h = stored_below e 4 m (aligned a) v x h

-- a byte outside the stored ones
pub untouched : (e : Endian) (n a v x : ℕ) (m : ℕ → ℕ) → n ≤ sub 32 x a → store e n m a v x ≡ m x
untouched e n a v x m l = let t : nat_lt (sub 32 x a) n ≡ false = grind (arith, nat_tests) in rw t refl

pub outside : (n a x : ℕ) → a < 2 ^ 32 → x < 2 ^ 32 → (Contains (span a n) x → ⊥) → n ≤ sub 32 x a
outside n a x p q out = by_test (nat_lt (sub 32 x a) n) refl
  where
    by_test : (b : Bool) → nat_lt (sub 32 x a) n ≡ b → n ≤ sub 32 x a
    by_test true t = absurd (out (in_span n a x p q (grind (arith, nat_tests))))
    by_test false t = grind (arith, nat_tests)

pub store_by_keeps : (byte : Bool) (e : Endian) (m : Memory) (a v x : ℕ) → a < 2 ^ 32 → x < 2 ^ 32 →
    (Contains (addresses (Some (access_of byte a))) x → ⊥) → store_by byte e m a v x ≡ m x
store_by_keeps true e m a v x p q out = untouched e 1 a v x m (outside 1 a x p q out)
store_by_keeps false e m a v x p q out = untouched e 4 (aligned a) v x m (outside 4 (aligned a) x (omega arith) q out)

pub moved_small : (w base offset : ℕ) → moved w base offset < 2 ^ 32
moved_small w base offset = below_if (is_up w) _ _ (2 ^ 32) (mod_word _) (mod_word _)

pub base_small : (w : ℕ) (s : State) (offset : ℕ) → IsState s → (r : ℕ) → base_written w s offset r < 2 ^ 32
base_small w s offset is r = by_case (writes_back w)
  where
    by_case : (b : Bool) → (if b then put s.regs (field_n w) (moved w (s.regs (field_n w)) offset) else s.regs) r < 2 ^ 32
    by_case true = put_below s.regs (field_n w) _ (2 ^ 32) is.regs (moved_small w _ offset) r
    by_case false = is.regs r

pub load_all_small : (e : Endian) (m : Memory) (a : ℕ) (rs : List ℕ) (f : ℕ → ℕ) → ((i : ℕ) → m i < 256) → ((r : ℕ) → f r < 2 ^ 32) →
    (r : ℕ) → load_all e m a rs f r < 2 ^ 32
load_all_small e m a [] f h p r = p r
load_all_small e m a (x ∷ rs) f h p r = load_all_small e m (add 32 a 4) rs _ h (loaded (x == 15)) r
  where
    loaded : (b : Bool) (r : ℕ) → (if b then f else put f x (load e 4 m a)) r < 2 ^ 32
    loaded true r = p r
    loaded false r = put_below f x _ (2 ^ 32) p (load_4 e m a h) r

pub store_all_small : (e : Endian) (s : State) (c a : ℕ) (rs : List ℕ) (m : Memory) → ((i : ℕ) → m i < 256) → (x : ℕ) → store_all e s c a rs m x < 256
store_all_small e s c a [] m h x = h x
store_all_small e s c a (r ∷ rs) m h x = store_all_small e s c (add 32 a 4) rs (store e 4 m a (stored_reg s c r)) (λ i. stored_below e 4 m a _ i (h i)) x

pub store_all_keeps : (e : Endian) (s : State) (c a : ℕ) (rs : List ℕ) (m : Memory) (x : ℕ) → a < 2 ^ 32 → x < 2 ^ 32 →
    4 * length rs ≤ sub 32 x a → store_all e s c a rs m x ≡ m x
store_all_keeps e s c a [] m x p q l = refl
store_all_keeps e s c a (r ∷ rs) m x p q l =
    let k : 4 + 4 * length rs ≤ sub 32 x a = omega arith in
    store_all_keeps e s c (add 32 a 4) rs (store e 4 m a (stored_reg s c r)) x (mod_word _) q (omega arith) ∙ untouched e 4 a (stored_reg s c r) x m
    (omega arith)

pub with_flags_small : (f : ℕ → ℕ) (n z c v : ℕ) → ((k : ℕ) → f k < 2) → n < 2 → z < 2 → c < 2 → v < 2 → (k : ℕ) → with_flags f n z c v k < 2
with_flags_small f n z c v h p q r t k = put_below _ 0 v 2 (put_below _ 1 c 2 (put_below _ 2 z 2 (put_below f 3 n 2 h p) q) r) t k

-- over two memories with the same bytes where they are loaded, loads give the same
aligned_small : (a : ℕ) → a < 2 ^ 32 → aligned a < 2 ^ 32
aligned_small a p = omega arith

pub load_by_same : (byte : Bool) (e : Endian) (m k : Memory) (a : ℕ) → a < 2 ^ 32 →
    ((x : ℕ) → Contains (addresses (Some (access_of byte a))) x → m x ≡ k x) → load_by byte e m a ≡ load_by byte e k a
load_by_same true e m k a p h = load_same e 1 a m k p h
load_by_same false e m k a p h = ap (λ z. ror 32 z (8 * (a % 4))) (load_same e 4 (aligned a) m k (aligned_small a p) h)

pub store_by_same : (byte : Bool) (e : Endian) (m k : Memory) (a v x : ℕ) → a < 2 ^ 32 →
    (m x ≡ k x) ⊎ Contains (addresses (Some (access_of byte a))) x → store_by byte e m a v x ≡ store_by byte e k a v x
store_by_same true e m k a v x p h = store_same e 1 a v x m k p (omega arith) h
store_by_same false e m k a v x p h = store_same e 4 (aligned a) v x m k (aligned_small a p) (omega arith) h

add_add : (a b i : ℕ) → add 32 a (b + i) ≡ add 32 (add 32 a b) i
add_add a b i = omega arith

-- the words of a list, by their distance from the first byte
pub load_at : (e : Endian) (m k : Memory) (a b n : ℕ) → b + 4 ≤ n → ((i : ℕ) → i < n → m (add 32 a i) ≡ k (add 32 a i)) →
    load e 4 m (add 32 a b) ≡ load e 4 k (add 32 a b)
load_at e m k a b n few h =
    number_same e 4 (λ i. m (add 32 (add 32 a b) i)) (λ i. k (add 32 (add 32 a b) i))
    (λ i l. ap m (sym (add_add a b i)) ∙ h (b + i) (omega arith) ∙ ap k (add_add a b i))

pub load_all_same : (e : Endian) (m k : Memory) (a : ℕ) (rs : List ℕ) (f : ℕ → ℕ) → a < 2 ^ 32 →
    ((i : ℕ) → i < 4 * length rs → m (add 32 a i) ≡ k (add 32 a i)) → load_all e m a rs f ≡ load_all e k a rs f
load_all_same e m k a [] f p h = refl
load_all_same e m k a (r ∷ rs) f p h =
    ap (λ (v : ℕ). load_all e m (add 32 a 4) rs (if r == 15 then f else put f r v)) first
    ∙ load_all_same e m k (add 32 a 4) rs (if r == 15 then f else put f r (load e 4 k a)) (mod_word _)
    (λ i l. ap m (sym (add_add a 4 i)) ∙ h (4 + i) (omega arith) ∙ ap k (add_add a 4 i))
  where
    first : load e 4 m a ≡ load e 4 k a
    first = number_same e 4 (λ i. m (add 32 a i)) (λ i. k (add 32 a i)) (λ i l. h i (omega arith))

pub store_all_same : (e : Endian) (s : State) (o : Memory) (c a : ℕ) (rs : List ℕ) (m k : Memory) (x : ℕ) → a < 2 ^ 32 → x < 2 ^ 32 →
    (m x ≡ k x) ⊎ (sub 32 x a < 4 * length rs) → store_all e s c a rs m x ≡ store_all e (with_memory s o) c a rs k x
store_all_same e s o c a [] m k x p q (inl same) = same
store_all_same e s o c a [] m k x p q (inr l) = absurd (omega arith)
store_all_same e s o c a (r ∷ rs) m k x p q h =
    store_all_same e s o c (add 32 a 4) rs (store e 4 m a (stored_reg s c r)) (store e 4 k a (stored_reg s c r)) x (mod_word _) q
    (by_place (nat_lt (sub 32 x a) 4) refl h)
  where
    near : (m x ≡ k x) ⊎ (sub 32 x a < 4) → store e 4 m a (stored_reg s c r) x ≡ store e 4 k a (stored_reg s c r) x
    near h = store_near e 4 a (stored_reg s c r) x m k h

    by_place : (b : Bool) → nat_lt (sub 32 x a) 4 ≡ b → (m x ≡ k x) ⊎ (sub 32 x a < 4 * length (r ∷ rs)) →
        (store e 4 m a (stored_reg s c r) x ≡ store e 4 k a (stored_reg s c r) x) ⊎ (sub 32 x (add 32 a 4) < 4 * length rs)
    by_place b t (inl same) = inl (near (inl same))
    by_place true t (inr l) = inl (near (inr (grind (arith, nat_tests))))
    by_place false t (inr l) =
        let far : 4 ≤ sub 32 x a = grind (arith, nat_tests) in
        let few : sub 32 x a < 4 + 4 * length rs = omega arith in inr (omega arith)
