-- The lists of LDM and STM are liftings of their rows.
use Rattle.std.proofs.Common.{◌≡◌, ℕ, zero, suc, ◌+◌, ◌-◌, ◌*◌, ◌/◌, ◌%◌, ◌^◌, ◌<◌, ◌≤◌, Bool, true, false, not, ◌&&◌, refl, sym, ap, subst, ◌∙◌, arith, List, [], ◌∷◌, length, Option, Some, None, if◌then◌else◌, IfOk, Result, Ok, Err, Vec, Global}
use Rattle.std.specs.Prelude.{◌==◌}
use Rattle.std.specs.declared.alloc.AllocError.{AllocError}
use Rattle.std.proofs.Math.Nat.{div-one}
use Rattle.std.proofs.Math.Pow.{mod-mod-pow}
use Rattle.std.proofs.lemmas.Nat.{field_of}
use Rattle.word_spec.specs.Words.{bits}
use Rattle.word_spec.specs.Memory.{Endian, span}
use Rattle.word_spec.specs.State.{State, IsState}
use Rattle.machine_spec.specs.Machine.{Row, addresses}
use Rattle.machine_spec.specs.Arm as rows
use Rattle.word_spec.specs.Profiles.{Profile, V4}
use Rattle.machine_spec.specs.Arm.{arm, has_bit, is_load, is_up, is_pre, bit_w, field_n, listed, listed_from, condition_code, may_write_pc, block_start, block_done, holds, none, when_stored}
use Rattle.machine_spec.specs.Bil.{RRegisters, Statements}
use Rattle.machine_spec.specs.BilStores.{list_stored}
use Rattle.machine_spec.specs.Simulation.{Locals, position}
use Rattle.machine_spec.specs.MachineLaws.{IsLifting}
use Rattle.bil_ast.specs.Views.{statements}
use Rattle.bil_ast.specs.declared.statements.Stmt.{Stmt}
use Rattle.arm_decode.specs.declared.parts.Condition.{Condition}
use Rattle.arm_decode.specs.declared.blocks.BlockFields.{BlockFields}
use Rattle.arm_decode.specs.Forms.{IsBlock}
use Rattle.arm_decode.specs.Parts.{condition_number}
use Rattle.arm_lift_alu.specs.Lifted.{conditional}
use Rattle.arm_lift_alu.proofs.Accesses.{IsAccess, spare}
use Rattle.arm_lift_alu.proofs.AccessRows.{row_from, conditional_lifting}
use Rattle.arm_lift_alu.proofs.Profiles.{in_profile}
use Rattle.arm_lift_blocks.specs.Lifted as lifts
use Rattle.arm_lift_blocks.proofs.Parts.{written_part, base_part, place_bytes, place_is_word, other_bytes, all_bytes, loads_part, drawn, stores_part}
use Rattle.arm_lift_blocks.proofs.Listed.{are_registers, few_listed, none_drawn}
use Rattle.arm_lift_blocks.proofs.Bytes.{stores_bytes}
use Rattle.arm_lift_blocks.proofs.Blocks.{first_of, start_is, load_runs, store_runs}

-- the first distance is a word
first_fits : (up pre : Bool) (n : ℕ) → lifts.first up pre n < 2 ^ 32
first_fits true true n = omega arith
first_fits true false n = omega arith
first_fits false true n = omega arith
first_fits false false n = omega arith

-- the list of a word's LDM, or STM
abbrev pub list_by : (load : Bool) → Endian → (w at : ℕ) → Statements
list_by l e w at = lifts.block l e (bit_w w) (is_up w) (is_pre w) (field_n w) at (listed w)

-- the bytes that the row stores
abbrev pub stored_by : (load : Bool) → (w : ℕ) → State → Option (ℕ × ℕ)
stored_by l w s = when_stored (holds w s && not l) (block_start w s, 4 * length (listed w))

-- the bytes that the row loads
abbrev pub loaded_by : (load : Bool) → (w : ℕ) → State → Option (ℕ × ℕ)
loaded_by l w s = when_stored (holds w s && l) (block_start w s, 4 * length (listed w))

-- the row of a word's LDM, or STM
abbrev pub row_by : (load : Bool) → Endian → (w : ℕ) → Row
row_by l e w =
    let n = length (listed w) in
    row_from w (block_done l e w) (stored_by l w) (loaded_by l w) none (not l && has_bit 15 w) (4096 + 512 * n) (if l then 4 * n else 0)
    (if l then 0 else 4 * n) (may_write_pc w (l && has_bit 15 w)) (λ a. None)

load_part : (e : Endian) (w at : ℕ) → field_n w < 15 → IsAccess (160 * length (listed w) + 160) (4 * length (listed w)) 0 0 none (list_by true e w at)
load_part e w at few =
    let b : ℕ = field_n w in
    let rs : List ℕ = listed w in
    let d : ℕ = first_of w in
    let n : ℕ = 4 * length rs in
    let place : Option ℕ = lifts.place_of b d rs None in
    let small = few_listed w 0 16 in
    let fits = first_fits (is_up w) (is_pre w) n in
    let last = base_part place e (bit_w w) (is_up w) b n few (omega arith) (place_is_word b d rs None fits tt) in
    let all = all_bytes b d rs None in
    spare (160 * length rs + 160) (other_bytes b rs + place_bytes place) 0 0 (160 * length rs + 160) n 0 0 none _
    (loads_part e b d 160 (place_bytes place) 0 0 rs _ few fits (are_registers w 0 16 (omega arith)) last)
    (omega arith) (omega arith) (omega arith) (omega arith)

store_part : (e : Endian) (w at : ℕ) → field_n w < 15 →
    IsAccess (160 * length (listed w) + 160) 0 (4 * length (listed w)) (drawn (listed w)) none (list_by false e w at)
store_part e w at few =
    let b : ℕ = field_n w in
    let rs : List ℕ = listed w in
    let d : ℕ = first_of w in
    let n : ℕ = 4 * length rs in
    let small = few_listed w 0 16 in
    spare (128 * length rs + 160) 0 (4 * length rs + 0) (drawn rs + 0) (160 * length rs + 160) 0 n (drawn rs) none _
    (stores_part e b at d 160 0 0 0 rs _ few (first_fits (is_up w) (is_pre w) n) (are_registers w 0 16 (omega arith))
    (written_part (bit_w w) (is_up w) b n few (omega arith)))
    (omega arith) (omega arith) (omega arith) (omega arith)

-- what a list of STM stores
store_bytes : (e : Endian) (w at : ℕ) → field_n w < 15 → (s : State) → IsState s → s.pc ≡ at → (c turns : ℕ) (l : Locals) →
    list_stored (list_by false e w at) c (position l turns None s) ≡ addresses (Some (block_start w s, 4 * length (listed w)))
store_bytes e w at few s is here c turns l =
    let b : ℕ = field_n w in
    let n : ℕ = 4 * length (listed w) in
    let small = few_listed w 0 16 in
    stores_bytes e b at (first_of w) (s.regs b) c turns l (listed w) s s.mem None _ refl (is.regs b) here
    ((written_part (bit_w w) (is_up w) b n few (omega arith)).stored refl c)
    ∙ ap (λ a. span a n) (sym (start_is w s few))

-- what a row stores, where it stores nothing, where its condition holds and where it fails
stores_none : (held : Bool) (bytes : ℕ × ℕ) → [] ≡ addresses (when_stored (held && false) bytes)
stores_none true bytes = refl
stores_none false bytes = refl

held_bytes : (held : Bool) (bytes : ℕ × ℕ) → held ≡ true → addresses (Some bytes) ≡ addresses (when_stored (held && true) bytes)
held_bytes held bytes h = rw h refl

skipped_bytes : (held stores : Bool) (bytes : ℕ × ℕ) → held ≡ false → addresses (when_stored (held && stores) bytes) ≡ []
skipped_bytes held stores bytes h = rw h refl

lifting_by : (load : Bool) (e : Endian) (w at : ℕ) (k : Condition) → field_n w < 15 → condition_number k ≡ condition_code w →
    IsLifting (arm e V4) RRegisters (row_by load e w) at (conditional k (list_by load e w at))
lifting_by true e w at k few code =
    let n : ℕ = length (listed w) in
    let static = load_part e w at few in
    conditional_lifting e w at (160 * n + 160) (4096 + 512 * n) (4 * n) 0 0 (block_done true e w) (stored_by true w) (loaded_by true w) none false (4 * n) 0
    (may_write_pc w (has_bit 15 w)) (λ a. None) (list_by true e w at) (load_runs e w at few) static
    (λ s is here held c turns l. static.stored refl c _ ∙ stores_none (holds w s) (block_start w s, 4 * n))
    (λ s h. skipped_bytes (holds w s) false (block_start w s, 4 * n) h) (λ t. refl) (λ a h. cc) (omega arith) (omega arith) (omega arith) k code
lifting_by false e w at k few code =
    let n : ℕ = length (listed w) in
    conditional_lifting e w at (160 * n + 160) (4096 + 512 * n) 0 (4 * n) (drawn (listed w)) (block_done false e w) (stored_by false w) (loaded_by false w) none
    (has_bit 15 w) 0 (4 * n) (may_write_pc w false) (λ a. None) (list_by false e w at) (store_runs e w at few) (store_part e w at few)
    (λ s is here held c turns l. store_bytes e w at few s is here c turns l ∙ held_bytes (holds w s) (block_start w s, 4 * n) held)
    (λ s h. skipped_bytes (holds w s) true (block_start w s, 4 * n) h) (λ t. none_drawn w 0 16 t) (λ a h. cc)
    (omega arith) (omega arith) (omega arith) k code

-- a bit of the lower 16
same_bit : (w r : ℕ) → r < 16 → has_bit r (bits 15 0 w) ≡ has_bit r w
same_bit w r h =
    let e : 16 ≡ 15 - r + 1 + r = omega arith in
    ap (λ x. x == 1) (
    ap (λ x. x % 2 ^ 16 / 2 ^ r % 2) (div-one w) ∙ ap (λ k. w % 2 ^ k / 2 ^ r % 2) e
    ∙ ap (λ x. x % 2) (field_of w (15 - r + 1) r) ∙ mod-mod-pow (w / 2 ^ r) (15 - r) 1
    )

if_same : (a b : Bool) (xs ys : List ℕ) (r : ℕ) → a ≡ b → xs ≡ ys → (if a then r ∷ xs else xs) ≡ (if b then r ∷ ys else ys)
if_same a b xs ys r e h = ap (λ a. if a then r ∷ xs else xs) e ∙ ap (λ xs. if b then r ∷ xs else xs) h

same_from : (w r n : ℕ) → r + n ≤ 16 → listed_from (bits 15 0 w) r n ≡ listed_from w r n
same_from w r zero l = refl
same_from w r (suc n) l =
    if_same (has_bit r (bits 15 0 w)) (has_bit r w) (listed_from (bits 15 0 w) (r + 1) n) (listed_from w (r + 1) n) r (same_bit w r (omega arith))
    (same_from w (r + 1) n (omega arith))

same_listed : (b w n : ℕ) → b ≡ bits 15 0 w → n ≤ 16 → listed_from b 0 n ≡ listed_from w 0 n
same_listed b w n e l = ap (λ b. listed_from b 0 n) e ∙ same_from w 0 n (omega arith)

-- the list of an instruction's fields is its word's
same_block : (e : Endian) (w at : ℕ) (x : BlockFields) → IsBlock w x → (rs : List ℕ) → rs ≡ listed w →
    lifts.block x.is_load e x.writes_back x.is_up x.is_before x.rn.number at rs ≡ list_by (is_load w) e w at
same_block e w at x h rs same =
    ap (λ l. lifts.block l e x.writes_back x.is_up x.is_before x.rn.number at rs) h.is_load
    ∙ ap (λ p. lifts.block (is_load w) e p x.is_up x.is_before x.rn.number at rs) h.writes_back
    ∙ ap (λ p. lifts.block (is_load w) e (bit_w w) p x.is_before x.rn.number at rs) h.is_up
    ∙ ap (λ p. lifts.block (is_load w) e (bit_w w) (is_up w) p x.rn.number at rs) h.is_before
    ∙ ap (λ p. lifts.block (is_load w) e (bit_w w) (is_up w) (is_pre w) p at rs) h.rn
    ∙ ap (lifts.block (is_load w) e (bit_w w) (is_up w) (is_pre w) (field_n w) at) same

pub returned : (e : Endian) (w at n : ℕ) (k : Condition) (x : BlockFields) (list : Statements) (r : Result (Vec Stmt Global) AllocError) →
    IsBlock w x → condition_number k ≡ condition_code w → n ≡ 16 →
    list ≡ lifts.block x.is_load e x.writes_back x.is_up x.is_before x.rn.number at (listed_from x.list.bits 0 n) →
    IfOk r (λ all. statements all.items ≡ conditional k list) →
    IfOk r (λ all. (profile : Profile) → IsLifting (arm e profile) RRegisters (rows.block e w) at (statements all.items))
returned e w at n k x list (Ok all) h code whole same made =
    let few : field_n w < 15 = subst (λ (r : ℕ). r < 15) h.rn x.rn.in_range in
    let registers : listed_from x.list.bits 0 n ≡ listed w = ap (listed_from x.list.bits 0) whole ∙ same_listed x.list.bits w 16 h.list (omega arith) in
    let is : list ≡ list_by (is_load w) e w at = same ∙ same_block e w at x h (listed_from x.list.bits 0 n) registers in
    λ p. in_profile e p (rows.block e w) at (statements all.items)
    (subst (λ (z : Statements). IsLifting (arm e V4) RRegisters (rows.block e w) at z) (sym (made ∙ ap (conditional k) is))
    (lifting_by (is_load w) e w at k few code))
returned e w at n k x list (Err error) h code whole same made = tt

-- the list of LDM, where it is one
pub chosen : (load : Bool) (e : Endian) (writes up pre : Bool) (b at : ℕ) (rs : List ℕ) (r : Result (Vec Stmt Global) AllocError) → load ≡ true →
    IfOk r (λ list. (at : ℕ) → statements list.items ≡ lifts.block true e writes up pre b at rs) →
    IfOk r (λ list. statements list.items ≡ lifts.block load e writes up pre b at rs)
chosen load e writes up pre b at rs (Ok list) h made = made at ∙ ap (λ l. lifts.block l e writes up pre b at rs) (sym h)
chosen load e writes up pre b at rs (Err error) h made = tt
