-- What addresses, offsets, loads and stores evaluate to.
use Rattle.std.proofs.Common.{◌≡◌, ℕ, ◌+◌, ◌*◌, ◌/◌, ◌%◌, ◌^◌, ◌<◌, Bool, true, false, not, refl, ap, ◌∙◌, arith, min, bit_and, [], Some, if◌then◌else◌}
use Rattle.std.proofs.lemmas.Nat.Bits.{and_high}
use Rattle.word_spec.specs.Words as words
use Rattle.word_spec.specs.Words.{add, sub, ror}
use Rattle.word_spec.specs.Memory.{Endian, load}
use Rattle.word_spec.specs.State.{State, IsState}
use Rattle.machine_spec.specs.Machine.{addresses}
use Rattle.machine_spec.specs.Arm as rows
use Rattle.machine_spec.specs.Arm.{is_up, load_by, store_by, access_of}
use Rattle.machine_spec.specs.Bil.{Expression}
use Rattle.machine_spec.specs.BilMeaning.{Word, Bytes, Env, evaluate}
use Rattle.machine_spec.specs.BilStores.{stored_by}
use Rattle.machine_spec.specs.Simulation.{Locals, env_of}
use Rattle.machine_spec.proofs.ArmRanges.{load_4}
use Rattle.byte_mem.proofs.Numbers.{store_cut}
use Rattle.arm_lift_alu.proofs.Shifts.{turned_by, rotation}
use Rattle.arm_lift_mem.specs.Accesses as lifts

-- a word of an expression in a state, whatever the locals are
abbrev pub IsWord : Expression → ℕ → State → ℕ → Type 0
IsWord e c s a = (l : Locals) → evaluate e c (env_of l s) ≡ Word 32 a

pub word_is : (n x y : ℕ) → x ≡ y → Word n x ≡ Word n y
word_is n x y h = ap (λ z. Word n z) h

moved_as : (up : Bool) (x y : ℕ) → lifts.moved_number up x y ≡ (if up then add 32 x y else sub 32 x y)
moved_as true x y = refl
moved_as false x y = refl

-- the base with the offset, by the row's bit U
pub moved_is : (w : ℕ) (up : Bool) (x y : ℕ) → up ≡ is_up w → lifts.moved_number up x y ≡ rows.moved w x y
moved_is w up x y h = moved_as up x y ∙ ap (λ b. if b then add 32 x y else sub 32 x y) h

pub moved_value : (up : Bool) (a b : Expression) (c x y : ℕ) (s : State) → IsWord a c s x → IsWord b c s y →
    IsWord (lifts.moved up a b) c s (lifts.moved_number up x y)
moved_value true a b c x y s p q l = rw (p l, q l) refl
moved_value false a b c x y s p q l = rw (p l, q l) refl

pub moved_below : (up : Bool) (x y : ℕ) → lifts.moved_number up x y < 2 ^ 32
moved_below true x y = omega arith
moved_below false x y = omega arith

-- the base is found again
pub back : (up : Bool) (x y : ℕ) → x < 2 ^ 32 → y < 2 ^ 32 → lifts.moved_number (not up) (lifts.moved_number up x y) y ≡ x
back true x y h k = omega arith
back false x y h k = omega arith

-- the multiple of 4 at or below an address
pub aligned_is : (a : ℕ) → a < 2 ^ 32 → bit_and a 0xfffffffc ≡ words.aligned a
aligned_is a h = and_high a 30 2 ∙ omega arith

pub aligned_value : (e : Expression) (c a : ℕ) (s : State) → IsWord e c s a → a < 2 ^ 32 → IsWord (lifts.aligned e) c s (words.aligned a)
aligned_value e c a s p h l = rw (p l) (word_is 32 _ _ (aligned_is a h))

-- 8 for each byte
turn_number : (a : ℕ) → a % 2 ^ 2 * 2 ^ 3 + 0 ≡ 8 * (a % 4)
turn_number a = omega arith

pub turn_value : (e : Expression) (c a : ℕ) (s : State) → IsWord e c s a → (l : Locals) →
    evaluate (lifts.turn e) c (env_of l s) ≡ Word 64 (8 * (a % 4))
turn_value e c a s p l = rw (p l) (word_is 64 _ _ (turn_number a))

-- the word at a place, rotated
pub word_value : (o : Endian) (e n : Expression) (c a k : ℕ) (s : State) → IsState s → IsWord e c s a →
    ((l : Locals) → evaluate n c (env_of l s) ≡ Word 64 k) → k < 32 → IsWord (lifts.word o e n) c s (ror 32 (load o 4 s.mem a) k)
word_value o e n c a k s is p q small l =
    let v : ℕ = load o 4 s.mem a in
    let t : min k 64 ≡ k = omega arith in
    let same : k ≡ k % 32 = omega arith in
    rw (p l, q _) (word_is 32 _ _ (ap (λ z. (v * 2 ^ 32 + v) / 2 ^ z % 2 ^ 32) t ∙ rotation v k (load_4 o s.mem a is.mem) small ∙ ap (turned_by v) same))

pub turn_small : (a : ℕ) → 8 * (a % 4) < 32
turn_small a = omega arith

-- what is loaded
pub loaded_value : (b : Bool) (o : Endian) (e : Expression) (c a : ℕ) (s : State) → IsState s → IsWord e c s a → a < 2 ^ 32 →
    IsWord (lifts.loaded b o e) c s (load_by b o s.mem a)
loaded_value true o e c a s is p h l = rw (p l) refl
loaded_value false o e c a s is p h l =
    word_value o (lifts.aligned e) (lifts.turn e) c (words.aligned a) (8 * (a % 4)) s is (aligned_value e c a s p h) (turn_value e c a s p) (turn_small a) l

-- what is stored
pub stored_value : (b : Bool) (o : Endian) (e v : Expression) (c a x : ℕ) (s : State) → IsWord e c s a → IsWord v c s x → a < 2 ^ 32 → (l : Locals) →
    evaluate (lifts.stored b o e v) c (env_of l s) ≡ Bytes (store_by b o s.mem a x)
stored_value true o e v c a x s p q h l = rw (p l, q l) (ap Bytes (store_cut o 1 s.mem a x))
stored_value false o e v c a x s p q h l = rw (aligned_value e c a s p h l, q l) refl

-- where it is stored
pub stored_places : (b : Bool) (o : Endian) (e v : Expression) (c a : ℕ) (s : State) → IsWord e c s a → a < 2 ^ 32 →
    ((l : Env) → stored_by e c l ≡ []) → ((l : Env) → stored_by v c l ≡ []) → (l : Locals) →
    stored_by (lifts.stored b o e v) c (env_of l s) ≡ addresses (Some (access_of b a))
stored_places true o e v c a s p h none nothing l = rw (none (env_of l s), nothing (env_of l s), p l) refl
stored_places false o e v c a s p h none nothing l = rw (none (env_of l s), nothing (env_of l s), aligned_value e c a s p h l) refl
