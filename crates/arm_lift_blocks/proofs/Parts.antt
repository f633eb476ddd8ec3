-- What is said of the lists of LDM and STM beside what they do: they are put together from their statements.
use Rattle.std.proofs.Common.{◌≡◌, ℕ, ◌+◌, ◌*◌, ◌^◌, ◌<◌, ◌≤◌, Bool, true, false, refl, arith, List, [], ◌∷◌, length, Option, Some, None, inl, inr}
use Rattle.std.specs.Prelude.{◌==◌, if◌then◌else◌}
use Rattle.std.proofs.lemmas.Bool.{eq-eqb, cases_eq}
use Rattle.word_spec.specs.Words.{add}
use Rattle.word_spec.specs.Memory.{Endian}
use Rattle.machine_spec.specs.Arm.{none}
use Rattle.machine_spec.specs.Bil.{Statements, Empty, Assign}
use Rattle.machine_spec.specs.Bil as bil
use Rattle.arm_lift_alu.proofs.Plain.{IsPlain, number_plain, own_register, binary_plain}
use Rattle.arm_lift_alu.proofs.Fetches.{IsFetch, fetch, roomier, load_fetch, choice_fetch, unknown_fetch}
use Rattle.arm_lift_alu.proofs.Accesses.{IsAccess, empty_access, spare, register_access, jump_access, store_access}
use Rattle.arm_lift_blocks.specs.Lifted as lifts

word_plain : (b d : ℕ) → b < 15 → d < 2 ^ 32 → IsPlain 32 96 none (lifts.word_at b d)
word_plain b d h k =
    binary_plain bil.Plus 32 32 0 96 none _ _
    (binary_plain bil.And 32 0 0 32 none _ _ (own_register b none h) (number_plain 0xfffffffc none (omega arith)) refl (omega arith))
    (number_plain d none k) refl (omega arith)

loaded_fetch : (e : Endian) (b d : ℕ) → b < 15 → d < 2 ^ 32 → IsFetch 32 96 4 0 none (lifts.loaded e b d)
loaded_fetch e b d h k = load_fetch 32 96 e none _ (word_plain b d h k) refl

moved_plain : (up : Bool) (b n : ℕ) → b < 15 → n < 2 ^ 32 → IsPlain 32 64 none (lifts.moved up b n)
moved_plain true b n h k = binary_plain bil.Plus 32 0 0 64 none _ _ (own_register b none h) (number_plain n none k) refl (omega arith)
moved_plain false b n h k = binary_plain bil.Minus 32 0 0 64 none _ _ (own_register b none h) (number_plain n none k) refl (omega arith)

pub written_part : (writes up : Bool) (b n : ℕ) → b < 15 → n < 2 ^ 32 → IsAccess 160 0 0 0 none (lifts.written_back writes up b n)
written_part true up b n h k =
    register_access b 64 0 0 0 0 0 0 160 none _ Empty h (fetch 32 64 none _ (moved_plain up b n h k)) (empty_access none) (omega arith)
written_part false up b n h k = spare 0 0 0 0 160 0 0 0 none Empty (empty_access none) (omega arith) (omega arith) (omega arith) (omega arith)

-- a place is a word
abbrev pub IsWord : Option ℕ → Type 0
IsWord None = Unit {0}
IsWord (Some d) = d < 2 ^ 32

-- the bytes that are loaded from a place
abbrev pub place_bytes : Option ℕ → ℕ
place_bytes None = 0
place_bytes (Some d) = 4

pub base_part : (place : Option ℕ) (e : Endian) (writes up : Bool) (b n : ℕ) → b < 15 → n < 2 ^ 32 → IsWord place →
    IsAccess 160 (place_bytes place) 0 0 none (lifts.base_last place e writes up b n)
base_part (Some d) e writes up b n h k i =
    register_access b 96 0 4 0 0 0 0 160 none _ Empty h (loaded_fetch e b d h i) (empty_access none) (omega arith)
base_part None e writes up b n h k i = written_part writes up b n h k

place_word : (t : Bool) (d : ℕ) (found : Option ℕ) → d < 2 ^ 32 → IsWord found → IsWord (if t then Some d else found)
place_word true d found h k = h
place_word false d found h k = k

pub place_is_word : (b d : ℕ) (rs : List ℕ) (found : Option ℕ) → d < 2 ^ 32 → IsWord found → IsWord (lifts.place_of b d rs found)
place_is_word b d [] found h k = k
place_is_word b d (r ∷ rs) found h k =
    place_is_word b (add 32 d 4) rs (if r == b then Some d else found) (omega arith) (place_word (r == b) d found h k)

-- the registers are r0 to r15
abbrev pub AreRegisters : List ℕ → Type 0
AreRegisters [] = Unit {0}
AreRegisters (r ∷ rs) = (r < 16) × AreRegisters rs

-- the bytes that a register but the base takes
abbrev pub one_bytes : (is_base : Bool) → ℕ
one_bytes true = 0
one_bytes false = 4

-- the bytes that the registers but the base take
abbrev pub other_bytes : ℕ → List ℕ → ℕ
other_bytes b [] = 0
other_bytes b (r ∷ rs) = one_bytes (r == b) + other_bytes b rs

placed_bytes : (t : Bool) (d : ℕ) (found : Option ℕ) → one_bytes t + place_bytes (if t then Some d else found) ≤ 4 + place_bytes found
placed_bytes true d found = omega arith
placed_bytes false d found = omega arith

-- each word is loaded once
pub all_bytes : (b d : ℕ) (rs : List ℕ) (found : Option ℕ) →
    other_bytes b rs + place_bytes (lifts.place_of b d rs found) ≤ 4 * length rs + place_bytes found
all_bytes b d [] found = omega arith
all_bytes b d (r ∷ rs) found =
    let h = all_bytes b (add 32 d 4) rs (if r == b then Some d else found) in
    let k = placed_bytes (r == b) d found in
    omega arith

below_15 : (r : ℕ) → r < 16 → (r == 15) ≡ false → r < 15
below_15 r h n = elim (cases_eq r 15) [
  | inl is ↦ (let t = eq-eqb r 15 is in cc)
  | inr ne ↦ omega arith
]

one_part : (p q : Bool) (e : Endian) (b d r w l t u : ℕ) (rest : Statements) → b < 15 → d < 2 ^ 32 → r < 16 → (r == 15) ≡ q → IsAccess w l t u none rest →
    IsAccess (160 + w) (one_bytes p + l) t (0 + u) none (lifts.load_one p q e b d r rest)
one_part true q e b d r w l t u rest base fits few pc p =
    spare w l t u (160 + w) (0 + l) t (0 + u) none rest p (omega arith) (omega arith) (omega arith) (omega arith)
one_part false true e b d r w l t u rest base fits few pc p =
    jump_access 96 w 4 l t 0 u (160 + w) none _ rest (loaded_fetch e b d base fits) p (omega arith)
one_part false false e b d r w l t u rest base fits few pc p =
    register_access r 96 w 4 l t 0 u (160 + w) none _ rest (below_15 r few pc) (loaded_fetch e b d base fits) p (omega arith)

pub loads_part : (e : Endian) (b d w l t u : ℕ) (rs : List ℕ) (rest : Statements) → b < 15 → d < 2 ^ 32 → AreRegisters rs → IsAccess w l t u none rest →
    IsAccess (160 * length rs + w) (other_bytes b rs + l) t u none (lifts.loads e b d rs rest)
loads_part e b d w l t u [] rest base fits few p =
    spare w l t u (160 * 0 + w) (0 + l) t u none rest p (omega arith) (omega arith) (omega arith) (omega arith)
loads_part e b d w l t u (r ∷ rs) rest base fits few p =
    let q = loads_part e b (add 32 d 4) w l t u rs rest base (omega arith) few.1 p in
    let o = one_part (r == b) (r == 15) e b d r (160 * length rs + w) (other_bytes b rs + l) t u _ base fits few.0 refl q in
    spare (160 + (160 * length rs + w)) (one_bytes (r == b) + (other_bytes b rs + l)) t (0 + u)
    (160 * length (r ∷ rs) + w) (other_bytes b (r ∷ rs) + l) t u none _ o (omega arith) (omega arith) (omega arith) (omega arith)

-- how many unknowns the stores of registers have
abbrev pub one_drawn : (is_pc : Bool) → ℕ
one_drawn true = 1
one_drawn false = 0

abbrev pub drawn : List ℕ → ℕ
drawn [] = 0
drawn (r ∷ rs) = one_drawn (r == 15) + drawn rs

stored_fetch : (p : Bool) (r at : ℕ) → r < 16 → (r == 15) ≡ p → IsFetch 32 32 0 (one_drawn p) none (lifts.stored_by p r at)
stored_fetch true r at few pc =
    choice_fetch 0 0 1 0 none _ _ _ (unknown_fetch none) (number_plain (add 32 at 12) none (omega arith)) (number_plain (add 32 at 8) none (omega arith))
stored_fetch false r at few pc =
    roomier 32 0 0 0 32 0 0 none _ (fetch 32 0 none _ (own_register r none (below_15 r few pc))) (omega arith) (omega arith) (omega arith)

one_stored : (e : Endian) (b at d r w l t u : ℕ) (rest : Statements) → b < 15 → d < 2 ^ 32 → r < 16 → IsAccess w l t u none rest →
    IsAccess (128 + w) (0 + l) (4 + t) (one_drawn (r == 15) + u) none (Assign bil.Mem (lifts.stored e b d (lifts.stored_by (r == 15) r at)) rest)
one_stored e b at d r w l t u rest base fits few p =
    store_access 32 96 32 w 0 l t (one_drawn (r == 15)) u (128 + w) e none _ _ rest (word_plain b d base fits) (stored_fetch (r == 15) r at few refl) p
    (omega arith) refl refl (omega arith)

pub stores_part : (e : Endian) (b at d w l t u : ℕ) (rs : List ℕ) (rest : Statements) → b < 15 → d < 2 ^ 32 → AreRegisters rs → IsAccess w l t u none rest →
    IsAccess (128 * length rs + w) l (4 * length rs + t) (drawn rs + u) none (lifts.stores e b at d rs rest)
stores_part e b at d w l t u [] rest base fits few p =
    spare w l t u (128 * 0 + w) l (4 * 0 + t) (0 + u) none rest p (omega arith) (omega arith) (omega arith) (omega arith)
stores_part e b at d w l t u (r ∷ rs) rest base fits few p =
    let q = stores_part e b at (add 32 d 4) w l t u rs rest base (omega arith) few.1 p in
    let o = one_stored e b at d r (128 * length rs + w) l (4 * length rs + t) (drawn rs + u) _ base fits few.0 q in
    spare (128 + (128 * length rs + w)) (0 + l) (4 + (4 * length rs + t)) (one_drawn (r == 15) + (drawn rs + u))
    (128 * length (r ∷ rs) + w) l (4 * length (r ∷ rs) + t) (drawn (r ∷ rs) + u) none _ o (omega arith) (omega arith) (omega arith) (omega arith)
