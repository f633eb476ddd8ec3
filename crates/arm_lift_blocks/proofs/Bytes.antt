-- The bytes that the list of STM stores.
use Rattle.std.proofs.Common.{◌≡◌, ℕ, suc, ◌*◌, ◌^◌, ◌<◌, Bool, true, false, refl, ap, ◌∙◌, arith, List, [], ◌∷◌, ◌++◌, length, Option}
use Rattle.std.specs.Prelude.{◌==◌}
use Rattle.word_spec.specs.Words.{add, aligned}
use Rattle.word_spec.specs.Memory.{Endian, Memory, store, span}
use Rattle.word_spec.specs.State.{State}
use Rattle.machine_spec.specs.Arm.{stored_reg}
use Rattle.machine_spec.specs.Bil as bil
use Rattle.machine_spec.specs.Bil.{Statements}
use Rattle.machine_spec.specs.BilMeaning.{Value, Word, Bytes, Env, Position, assign, assigned, store_to, evaluate}
use Rattle.machine_spec.specs.BilStores.{bytes_at, stored_by, then_stored, list_stored}
use Rattle.machine_spec.specs.Simulation.{Locals, env_of, position}
use Rattle.arm_lift_alu.proofs.Plain.{nothing_chosen}
use Rattle.arm_lift_blocks.specs.Lifted as lifts
use Rattle.arm_lift_blocks.proofs.Numbers.{address_is}
use Rattle.arm_lift_blocks.proofs.Runs.{with_mem, stored_is}

value_bytes : (p : Bool) (r at c : ℕ) (e : Env) → stored_by (lifts.stored_by p r at) c e ≡ []
value_bytes true r at c e = nothing_chosen (evaluate (bil.Unknown (bil.Bits 1)) c e)
value_bytes false r at c e = refl

-- a word's bytes before those of others
span_four : (a x k n : ℕ) → n ≡ suc (suc (suc (suc k))) → x ≡ add 32 a 4 → span a 4 ++ span x k ≡ span a n
span_four a x k n h i =
    let e : x ≡ add 32 (add 32 (add 32 (add 32 a 1) 1) 1) 1 = omega arith in
    rw h (ap (λ z. span a 4 ++ span z k) e)

pub stores_bytes : (e : Endian) (b at d v c turns : ℕ) (l : Locals) (rs : List ℕ) (s : State) (m : Memory) (j : Option ℕ) (rest : Statements) →
    s.regs b ≡ v → v < 2 ^ 32 → s.pc ≡ at → ((t : Position) → list_stored rest c t ≡ []) →
    list_stored (lifts.stores e b at d rs rest) c (position l turns j (with_mem s m)) ≡ span (add 32 (aligned v) d) (4 * length rs)
stores_bytes e b at d v c turns l [] s m j rest h k here nothing = nothing _
stores_bytes e b at d v c turns l (r ∷ rs) s m j rest h k here nothing =
    let a : ℕ = add 32 (aligned v) d in
    let t : State = with_mem s m in
    let value = lifts.stored_by (r == 15) r at in
    let all : ℕ → Value → List ℕ → List ℕ = λ a v xs.
    (xs ++ bytes_at 4 (Word 32 a))
    ++ then_stored (assigned (assign bil.Mem (store_to e 32 (Bytes m) (Word 32 a) v) (env_of l t)) (position l turns j t))
    (list_stored (lifts.stores e b at (add 32 d 4) rs rest) c) in
    ap (λ a. all a (evaluate value c (env_of l t)) (stored_by value c (env_of l t))) (address_is (s.regs b) d v h k)
    ∙ ap (λ v. all a v (stored_by value c (env_of l t))) (stored_is (r == 15) r at c l t refl here)
    ∙ ap (all a (Word 32 (stored_reg s c r))) (value_bytes (r == 15) r at c (env_of l t))
    ∙ ap (λ xs. span a 4 ++ xs) (stores_bytes e b at (add 32 d 4) v c turns l rs s (store e 4 m a (stored_reg s c r)) j rest h k here nothing)
    ∙ span_four a (add 32 (aligned v) (add 32 d 4)) (4 * length rs) (4 * length (r ∷ rs)) (omega arith) (omega arith)
