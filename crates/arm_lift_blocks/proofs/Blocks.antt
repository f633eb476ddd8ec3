-- What LDM and STM do is what their lists do.
use Rattle.std.proofs.Common.{◌≡◌, ℕ, ◌-◌, ◌*◌, ◌<◌, ◌≤◌, Bool, true, false, refl, ap, sym, ◌∙◌, arith, List, length, Option, Some, None}
use Rattle.std.specs.Prelude.{◌==◌, if◌then◌else◌}
use Rattle.std.proofs.lemmas.Bool.{ne_eqb}
use Rattle.word_spec.specs.Words.{add, sub, aligned}
use Rattle.word_spec.specs.Memory.{Endian, Memory, load}
use Rattle.word_spec.specs.State.{State, put}
use Rattle.machine_spec.specs.Arm.{reg, has_bit, is_up, is_pre, bit_w, field_n, listed, load_all, store_all, block_start, block_base, block_loaded, block_done}
use Rattle.machine_spec.specs.Simulation.{Locals, position, of_list, of_row, Finished, Simulates}
use Rattle.arm_lift_blocks.specs.Lifted as lifts
use Rattle.arm_lift_blocks.proofs.Numbers.{first_up, first_down}
use Rattle.arm_lift_blocks.proofs.LoadedRegisters.{load_others, base_of, base_kept, all_loaded, all_written, put_kept, value_at, base_placed}
use Rattle.arm_lift_blocks.proofs.Runs.{jump_by, others_loaded, loads_run, moved_by, written_by, written_runs, based, base_runs, with_mem, stores_run}
use Rattle.arm_lift_blocks.proofs.Listed.{few_listed, no_jump, last_jump}

-- the first address, from a base and a number of registers
start : (up pre : Bool) (x k : ℕ) → k ≤ 16 →
    aligned (if up then add 32 x (if pre then 4 else 0) else sub 32 x (4 * k - (if pre then 0 else 4))) ≡ add 32 (aligned x) (lifts.first up pre (4 * k))
start true true x k h = first_up x 4 refl
start true false x k h = first_up x 0 refl
start false true x k h = first_down x (4 * k - 0) (omega arith) (omega arith)
start false false x k h = first_down x (4 * k - 4) (omega arith) (omega arith)

-- the distance of the first word of a block
abbrev pub first_of : ℕ → ℕ
first_of w = lifts.first (is_up w) (is_pre w) (4 * length (listed w))

own_reg : (s : State) (r : ℕ) → r < 15 → reg s r ≡ s.regs r
own_reg s r h = rw (ne_eqb r 15 (λ e. omega arith)) refl

pub start_is : (w : ℕ) (s : State) → field_n w < 15 → block_start w s ≡ add 32 (aligned (s.regs (field_n w))) (first_of w)
start_is w s h =
    let n : ℕ = 4 * length (listed w) in
    ap (λ x. aligned (if is_up w then add 32 x (if is_pre w then 4 else 0) else sub 32 x (n - (if is_pre w then 0 else 4)))) (own_reg s (field_n w) h)
    ∙ start (is_up w) (is_pre w) (s.regs (field_n w)) (length (listed w)) (few_listed w 0 16)

-- the registers with the base written back
abbrev pub base_by : (writes up : Bool) → (ℕ → ℕ) → (b v n : ℕ) → ℕ → ℕ
base_by writes up f b v n = if writes then put f b (moved_by up v n) else f

written_is : (writes up : Bool) (f : ℕ → ℕ) (b v n : ℕ) → written_by writes up f b v n ≡ base_by writes up f b v n
written_is true up f b v n = refl
written_is false up f b v n = refl

-- the base comes last, and has what it would have in its place
written_last : (e : Endian) (m : Memory) (up : Bool) (f g : ℕ → ℕ) (b v n x : ℕ) (place : Option ℕ) → x ≡ value_at e m (aligned v) (moved_by up v n) place →
    based place e m true up g b v n ≡ put g b x
written_last e m up f g b v n x None h = ap (put g b) (sym h)
written_last e m up f g b v n x (Some d) h = ap (put g b) (sym h)

kept_last : (e : Endian) (m : Memory) (up : Bool) (g : ℕ → ℕ) (b v n x : ℕ) (place : Option ℕ) → g b ≡ v → x ≡ value_at e m (aligned v) v place →
    based place e m false up g b v n ≡ put g b x
kept_last e m up g b v n x None k h = put_kept g b x (k ∙ sym h)
kept_last e m up g b v n x (Some d) k h = ap (put g b) (sym h)

registers_are : (writes up : Bool) (e : Endian) (m : Memory) (b d n : ℕ) (rs : List ℕ) (f : ℕ → ℕ) → (b == 15) ≡ false →
    based (lifts.place_of b d rs None) e m writes up (load_others e m (add 32 (aligned (f b)) d) b rs f) b (f b) n
    ≡ load_all e m (add 32 (aligned (f b)) d) rs (base_by writes up f b (f b) n)
registers_are true up e m b d n rs f h =
    let v : ℕ = f b in
    let a : ℕ = add 32 (aligned v) d in
    let y : ℕ = moved_by up v n in
    written_last e m up f (load_others e m a b rs f) b v n (base_of e m a b rs y) (lifts.place_of b d rs None) (base_placed e m (aligned v) y b d rs None)
    ∙ sym (all_written e m a b y rs f h)
registers_are false up e m b d n rs f h =
    let v : ℕ = f b in
    let a : ℕ = add 32 (aligned v) d in
    kept_last e m up (load_others e m a b rs f) b v n (base_of e m a b rs v) (lifts.place_of b d rs None)
    (base_kept e m a b rs f) (base_placed e m (aligned v) v b d rs None)
    ∙ sym (all_loaded e m a b rs f h)

-- the end of LDM, with its jump
loaded_end : (p : Bool) (e : Endian) (w turns : ℕ) (l : Locals) (s : State) (g : ℕ → ℕ) (j : Option ℕ) → has_bit 15 w ≡ p →
    g ≡ load_all e s.mem (block_start w s) (listed w) (block_base w s) →
    (p ≡ true → j ≡ Some (load e 4 s.mem (add 32 (block_start w s) (4 * length (listed w) - 4)))) → (p ≡ false → j ≡ None) →
    Finished (position l turns j (record s { regs = g })) ≡ of_row l turns (block_loaded p e w s)
loaded_end true e w turns l s g j is h jumps stays = rw (h, jumps refl) refl
loaded_end false e w turns l s g j is h jumps stays = rw (h, stays refl) refl

pub load_runs : (e : Endian) (w at : ℕ) → field_n w < 15 →
    Simulates (block_done true e w) at (lifts.loaded_list e (bit_w w) (is_up w) (field_n w) (first_of w) (4 * length (listed w)) (listed w))
load_runs e w at few s is here c turns low l =
    let b : ℕ = field_n w in
    let rs : List ℕ = listed w in
    let n : ℕ = 4 * length rs in
    let d : ℕ = first_of w in
    let v : ℕ = s.regs b in
    let a : ℕ = add 32 (aligned v) d in
    let place : Option ℕ = lifts.place_of b d rs None in
    let j : Option ℕ = jump_by e s.mem a b rs None in
    let away : (b == 15) ≡ false = ne_eqb b 15 (λ z. omega arith) in
    let begins : a ≡ block_start w s = sym (start_is w s few) in
    ap of_list (
    loads_run e b d v c turns l rs s None (lifts.base_last place e (bit_w w) (is_up w) b n) refl (is.regs b)
    ∙ base_runs place e (bit_w w) (is_up w) b v n c turns l (others_loaded e a b rs s) j (base_kept e s.mem a b rs s.regs) (is.regs b)
    )
    ∙ loaded_end (has_bit 15 w) e w turns l s _ j refl
    (registers_are (bit_w w) (is_up w) e s.mem b d n rs s.regs away ∙ ap (λ z. load_all e s.mem z rs (block_base w s)) begins)
    (λ t. last_jump e s.mem a b w 0 15 None refl t away (omega arith) ∙ ap (λ z. Some (load e 4 s.mem (add 32 z (n - 4)))) begins)
    (λ t. no_jump e s.mem a b w 0 16 None t)

pub store_runs : (e : Endian) (w at : ℕ) → field_n w < 15 →
    Simulates (block_done false e w) at (lifts.stored_list e (bit_w w) (is_up w) (field_n w) at (first_of w) (4 * length (listed w)) (listed w))
store_runs e w at few s is here c turns low l =
    let b : ℕ = field_n w in
    let rs : List ℕ = listed w in
    let n : ℕ = 4 * length rs in
    let d : ℕ = first_of w in
    let v : ℕ = s.regs b in
    let a : ℕ = add 32 (aligned v) d in
    let m : Memory = store_all e s c a rs s.mem in
    ap of_list (
    stores_run e b at d v c turns l rs s s.mem None (lifts.written_back (bit_w w) (is_up w) b n) refl (is.regs b) here
    ∙ written_runs (bit_w w) (is_up w) b v n c turns l (with_mem s m) None refl
    )
    ∙ ap (λ f. Finished (position l turns None (record s { regs = f; mem = m }))) (written_is (bit_w w) (is_up w) s.regs b v n)
    ∙ ap (λ z. Finished (position l turns None (record s { regs = block_base w s; mem = store_all e s c z rs s.mem }))) (sym (start_is w s few))
