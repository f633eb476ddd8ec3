-- What the lists of LDM and STM do.
use Rattle.std.proofs.Common.{◌≡◌, ℕ, ◌^◌, ◌<◌, Bool, true, false, refl, ap, sym, ◌∙◌, List, [], ◌∷◌, Option, Some, None}
use Rattle.std.specs.Prelude.{◌==◌, if◌then◌else◌}
use Rattle.word_spec.specs.Words.{add, sub, aligned}
use Rattle.word_spec.specs.Memory.{Endian, Memory, load, store}
use Rattle.word_spec.specs.State.{State, put}
use Rattle.machine_spec.specs.Arm.{has_bit, stored_reg, store_all}
use Rattle.machine_spec.specs.Bil as bil
use Rattle.machine_spec.specs.Bil.{Statements}
use Rattle.machine_spec.specs.BilMeaning.{Value, Word, Bytes, Ending, Ends, assign, assigned, store_to, then_do, evaluate, execute}
use Rattle.machine_spec.specs.Simulation.{Locals, env_of, position}
use Rattle.arm_lift_blocks.specs.Lifted as lifts
use Rattle.arm_lift_blocks.proofs.Numbers.{address_is, next_word, picked}
use Rattle.arm_lift_blocks.proofs.LoadedRegisters.{one_put, load_others, one_kept}

-- the jump after one register that is loaded
abbrev pub one_jump : (is_base is_pc : Bool) → Option ℕ → (x : ℕ) → Option ℕ
one_jump true is_pc j x = j
one_jump false true j x = Some x
one_jump false false j x = j

-- the jump after registers that are loaded from the words from an address on
abbrev pub jump_by : Endian → Memory → (a b : ℕ) → List ℕ → Option ℕ → Option ℕ
jump_by e m a b [] j = j
jump_by e m a b (r ∷ rs) j = jump_by e m (add 32 a 4) b rs (one_jump (r == b) (r == 15) j (load e 4 m a))

one_runs : (p q : Bool) (e : Endian) (b d r v c turns : ℕ) (l : Locals) (s : State) (j : Option ℕ) (rest : Statements) → s.regs b ≡ v → v < 2 ^ 32 →
    execute (lifts.load_one p q e b d r rest) c (position l turns j s)
    ≡ execute rest c (position l turns (one_jump p q j (load e 4 s.mem (add 32 (aligned v) d)))
    (record s { regs = one_put p q s.regs r (load e 4 s.mem (add 32 (aligned v) d)) }))
one_runs true q e b d r v c turns l s j rest h k = refl
one_runs false true e b d r v c turns l s j rest h k =
    ap (λ a. execute rest c (position l turns (Some (load e 4 s.mem a)) s)) (address_is (s.regs b) d v h k)
one_runs false false e b d r v c turns l s j rest h k =
    ap (λ a. execute rest c (position l turns j (record s { regs = put s.regs r (load e 4 s.mem a) }))) (address_is (s.regs b) d v h k)

-- where the others are loaded
abbrev pub others_loaded : Endian → (a b : ℕ) → List ℕ → State → State
others_loaded e a b rs s = record s { regs = load_others e s.mem a b rs s.regs }

pub loads_run : (e : Endian) (b d v c turns : ℕ) (l : Locals) (rs : List ℕ) (s : State) (j : Option ℕ) (rest : Statements) → s.regs b ≡ v → v < 2 ^ 32 →
    execute (lifts.loads e b d rs rest) c (position l turns j s)
    ≡ execute rest c (position l turns (jump_by e s.mem (add 32 (aligned v) d) b rs j) (others_loaded e (add 32 (aligned v) d) b rs s))
loads_run e b d v c turns l [] s j rest h k = refl
loads_run e b d v c turns l (r ∷ rs) s j rest h k =
    let a : ℕ = add 32 (aligned v) d in
    let x : ℕ = load e 4 s.mem a in
    let t : State = record s { regs = one_put (r == b) (r == 15) s.regs r x } in
    let i : Option ℕ = one_jump (r == b) (r == 15) j x in
    one_runs (r == b) (r == 15) e b d r v c turns l s j (lifts.loads e b (add 32 d 4) rs rest) h k
    ∙ loads_run e b (add 32 d 4) v c turns l rs t i rest (one_kept (r == b) (r == 15) s.regs r b x refl ∙ h) k
    ∙ ap (λ z. execute rest c (position l turns (jump_by e s.mem z b rs i) (others_loaded e z b rs t))) (sym (next_word (aligned v) d))

-- the base that is written back
abbrev pub moved_by : (is_up : Bool) → (v n : ℕ) → ℕ
moved_by up v n = if up then add 32 v n else sub 32 v n

-- the registers with the base written back
abbrev pub written_by : (writes is_up : Bool) → (f : ℕ → ℕ) → (b v n : ℕ) → ℕ → ℕ
written_by true up f b v n = put f b (moved_by up v n)
written_by false up f b v n = f

pub written_runs : (writes up : Bool) (b v n c turns : ℕ) (l : Locals) (s : State) (j : Option ℕ) → s.regs b ≡ v →
    execute (lifts.written_back writes up b n) c (position l turns j s) ≡ Ends (position l turns j (record s { regs = written_by writes up s.regs b v n }))
written_runs true true b v n c turns l s j h = rw h refl
written_runs true false b v n c turns l s j h = rw h refl
written_runs false up b v n c turns l s j h = refl

-- the registers with the base loaded, or else written back
abbrev pub based : Option ℕ → Endian → Memory → (writes is_up : Bool) → (f : ℕ → ℕ) → (b v n : ℕ) → ℕ → ℕ
based (Some d) e m writes up f b v n = put f b (load e 4 m (add 32 (aligned v) d))
based None e m writes up f b v n = written_by writes up f b v n

pub base_runs : (place : Option ℕ) (e : Endian) (writes up : Bool) (b v n c turns : ℕ) (l : Locals) (s : State) (j : Option ℕ) → s.regs b ≡ v → v < 2 ^ 32 →
    execute (lifts.base_last place e writes up b n) c (position l turns j s)
    ≡ Ends (position l turns j (record s { regs = based place e s.mem writes up s.regs b v n }))
base_runs (Some d) e writes up b v n c turns l s j h k =
    ap (λ a. Ends (position l turns j (record s { regs = put s.regs b (load e 4 s.mem a) }))) (address_is (s.regs b) d v h k)
base_runs None e writes up b v n c turns l s j h k = written_runs writes up b v n c turns l s j h

pub stored_is : (p : Bool) (r at c : ℕ) (l : Locals) (s : State) → (r == 15) ≡ p → s.pc ≡ at →
    evaluate (lifts.stored_by p r at) c (env_of l s) ≡ Word 32 (stored_reg s c r)
stored_is true r at c l s h here =
    rw (← here, h) (picked c (add 32 s.pc 12) (add 32 s.pc 8) ∙ ap (λ z. Word 32 z) (either (has_bit 0 c)))
  where
    either : (t : Bool) → (if t then add 32 s.pc 12 else add 32 s.pc 8) ≡ add 32 s.pc (if t then 12 else 8)
    either true = refl
    either false = refl
stored_is false r at c l s h here = rw h refl

-- a state with another memory
abbrev pub with_mem : State → Memory → State
with_mem s m = record s { mem = m }

pub stores_run : (e : Endian) (b at d v c turns : ℕ) (l : Locals) (rs : List ℕ) (s : State) (m : Memory) (j : Option ℕ) (rest : Statements) →
    s.regs b ≡ v → v < 2 ^ 32 → s.pc ≡ at →
    execute (lifts.stores e b at d rs rest) c (position l turns j (with_mem s m))
    ≡ execute rest c (position l turns j (with_mem s (store_all e s c (add 32 (aligned v) d) rs m)))
stores_run e b at d v c turns l [] s m j rest h k here = refl
stores_run e b at d v c turns l (r ∷ rs) s m j rest h k here =
    let a : ℕ = add 32 (aligned v) d in
    let t : State = with_mem s m in
    let after : ℕ → Value → Ending = λ a v.
    then_do (assigned (assign bil.Mem (store_to e 32 (Bytes m) (Word 32 a) v) (env_of l t)) (position l turns j t))
    (execute (lifts.stores e b at (add 32 d 4) rs rest) c) in
    ap (λ a. after a (evaluate (lifts.stored_by (r == 15) r at) c (env_of l t))) (address_is (s.regs b) d v h k)
    ∙ ap (after a) (stored_is (r == 15) r at c l t refl here)
    ∙ stores_run e b at (add 32 d 4) v c turns l rs s (store e 4 m a (stored_reg s c r)) j rest h k here
    ∙ ap (λ z. execute rest c (position l turns j (with_mem s (store_all e s c z rs (store e 4 m a (stored_reg s c r)))))) (sym (next_word (aligned v) d))
