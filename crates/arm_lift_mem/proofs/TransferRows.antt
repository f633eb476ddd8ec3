-- The lists of LDR, LDRB, STR and STRB are liftings of their rows, but for those of literals.
use Rattle.std.proofs.Common.{◌≡◌, ℕ, zero, suc, ◌+◌, ◌*◌, ◌/◌, ◌%◌, ◌^◌, ◌<◌, ◌≤◌, Bool, true, false, not, ◌&&◌, refl, ap, sym, subst, ◌∙◌, arith, [], append-nil, Some, None, if◌then◌else◌}
use Rattle.std.specs.Prelude.{◌==◌}
use Rattle.std.proofs.lemmas.Bool.Decides.{nat_tests}
use Rattle.word_spec.specs.Words as words
use Rattle.word_spec.specs.Words.{add, bit, ror}
use Rattle.word_spec.specs.Memory.{Endian, Memory, load}
use Rattle.word_spec.specs.State.{State, IsState, put, with_pc}
use Rattle.machine_spec.specs.Machine.{Goes, Indirect, addresses}
use Rattle.machine_spec.specs.Arm as rows
use Rattle.word_spec.specs.Profiles.{V4}
use Rattle.machine_spec.specs.Arm.{arm, reg, stored_reg, on, has_bit, field_d, is_load, is_byte, is_transfer, writes_back, base_written, load_by, load_word, store_by, access_of, transferred, loaded_by, write_by, transfer_address, transfer_offset, single_transfer, literal_address, condition_code, holds, when_stored}
use Rattle.machine_spec.specs.Bil.{RRegisters, Mem, Expression, Var, Load, Statements, Empty, JumpTo}
use Rattle.machine_spec.specs.Bil as bil
use Rattle.machine_spec.specs.BilMeaning.{Word, Position, Ends, RaisesException, choose, branch_on, then_do, execute}
use Rattle.machine_spec.specs.BilStores.{list_stored}
use Rattle.machine_spec.specs.Simulation.{Locals, position, of_list, of_row, Simulates}
use Rattle.machine_spec.specs.MachineLaws.{IsLifting}
use Rattle.machine_spec.proofs.ArmRanges.{reg_small, store_by_small}
use Rattle.arm_decode.specs.declared.parts.Condition.{Condition}
use Rattle.arm_decode.specs.Parts.{condition_number}
use Rattle.arm_decode.specs.Forms.{IsTransfer}
use Rattle.arm_decode.specs.declared.transfers.TransferFields.{TransferFields}
use Rattle.arm_decode.specs.declared.parts.Indexing.{Indexing}
use Rattle.arm_lift_alu.specs.Lifted.{conditional}
use Rattle.arm_lift_alu.specs.Operands.{register}
use Rattle.arm_lift_alu.proofs.Plain.{IsPlain, number_plain, own_register, constant_plain, cast_plain, binary_plain}
use Rattle.arm_lift_alu.proofs.Weights.{register_plain}
use Rattle.arm_lift_mem.specs.Accesses as parts
use Rattle.arm_lift_mem.specs.Transfers as lifts
use Rattle.arm_lift_alu.proofs.Fetches.{IsFetch, fetch, load_fetch, choice_fetch, unknown_fetch, roomier}
use Rattle.arm_lift_alu.proofs.Accesses.{IsAccess, empty_access, spare, register_access, jump_access}
use Rattle.arm_lift_alu.proofs.AccessRows.{conditional_lifting}
use Rattle.arm_lift_mem.proofs.Values.{IsWord, word_is, loaded_value, stored_value, stored_places}
use Rattle.arm_lift_mem.proofs.Bases.{based, register_value, address_below, address_value, state_behind, written_back_runs, written_back_stores, again_value}
use Rattle.arm_lift_mem.proofs.Facts.{transfer_n, transfer_word}
use Rattle.arm_lift_mem.proofs.Parts.{address_plain, again_plain, written_access, loaded_fetch, bytes_of, stored_access, unless_access}
use Rattle.arm_lift_mem.proofs.Offsets.{offset_reads, offset_plain, offset_value, offset_below, offset_behind}

-- the word at an aligned address is not rotated
pub unrotated : (o : Endian) (m : Memory) (a : ℕ) → (a % 4 == 0) ≡ true → load_word o m a ≡ load o 4 m (words.aligned a)
unrotated o m a h =
    let z : a % 4 ≡ 0 = grind (arith, nat_tests) in
    ap (λ k. ror 32 (load o 4 m (words.aligned a)) (8 * k)) z ∙ whole (load o 4 m (words.aligned a))
  where
    whole : (x : ℕ) → ror 32 x (8 * 0) ≡ x
    whole x = omega arith

pub same_place : (a : ℕ) → (a % 4 == 0) ≡ true → words.aligned a ≡ a
same_place a h = let z : a % 4 ≡ 0 = grind (arith, nat_tests) in omega arith

-- what STR stores
source_chosen : (z a : ℕ) → z < 2 → choose (Word 1 z) (Word 32 (add 32 a 12)) (Word 32 (add 32 a 8)) ≡ Word 32 (add 32 a (if z == 1 then 12 else 8))
source_chosen zero a h = refl
source_chosen (suc zero) a h = refl
source_chosen (suc (suc z)) a h = absurd (omega arith)

low_bit : (c : ℕ) → c % 2 ^ 1 ≡ c / 2 ^ 0 % 2
low_bit c = omega arith

below_2 : (c : ℕ) → c % 2 ^ 1 < 2
below_2 c = omega arith

source_is : (b : Bool) (d at c : ℕ) (s : State) → s.pc ≡ at →
    IsWord (lifts.source_by b d at) c s (if b then add 32 s.pc (if has_bit 0 c then 12 else 8) else s.regs d)
source_is true d at c s here l =
    source_chosen (c % 2 ^ 1) at (below_2 c) ∙ word_is 32 _ _ (ap (λ z. add 32 at (if z == 1 then 12 else 8)) (low_bit c)
    ∙ ap (λ a. add 32 a (if has_bit 0 c then 12 else 8)) (sym here))
source_is false d at c s here l = refl

source_value : (d at c : ℕ) (s : State) → s.pc ≡ at → IsWord (lifts.source d at) c s (stored_reg s c d)
source_value d at c s here = source_is (d == 15) d at c s here

-- how many unknowns a stored register has
abbrev unknowns_of : Bool → ℕ
unknowns_of true = 1
unknowns_of false = 0

source_fetch : (d at : ℕ) (r : ℕ → Bool) → d < 16 → IsFetch 32 32 0 (unknowns_of (d == 15)) r (lifts.source d at)
source_fetch d at r small = by (d == 15) (λ h. grind (arith, nat_tests))
  where
    by : (b : Bool) → (b ≡ false → d < 15) → IsFetch 32 32 0 (unknowns_of b) r (lifts.source_by b d at)
    by true h =
        choice_fetch 0 0 1 0 r _ _ _ (unknown_fetch r) (number_plain (add 32 at 12) r (omega arith)) (number_plain (add 32 at 8) r (omega arith))
    by false h = roomier 32 0 0 0 32 0 0 r _ (fetch 32 0 r _ (own_register d r (h refl))) (omega arith) (omega arith) (omega arith)

unaligned_plain : (v : ℕ) (r : ℕ → Bool) (a : Expression) → IsPlain 32 v r a → IsPlain 1 (v + 2) r (lifts.is_unaligned a)
unaligned_plain v r a p = binary_plain bil.NotEqual 2 v 0 (v + 2) r _ _ (cast_plain bil.Low 2 32 v r a p refl) (constant_plain 2 0 r refl) refl (omega arith)

-- an exception, or what comes behind the test
guarded : (b : Bool) (m : Endian) (w c turns : ℕ) (l : Locals) (s : State) (p : Position) (rest : Statements) →
    (b ≡ false → of_list (execute rest c p) ≡ of_row l turns (loaded_by false m w s)) →
    of_list (then_do (branch_on (Word 1 (bit b)) (RaisesException 5 p) (Ends p)) (execute rest c)) ≡ of_row l turns (loaded_by b m w s)
guarded true m w c turns l s p rest h = refl
guarded false m w c turns l s p rest h = h refl

not_false : (b : Bool) → not b ≡ false → b ≡ true
not_false true h = refl
not_false false h = cc

-- an access that loads stores nothing
pub none_stored : (b a : Bool) (x : ℕ × ℕ) → a ≡ true → addresses (when_stored (b && not a) x) ≡ []
none_stored true a x h = rw h refl
none_stored false a x h = refl

pub skipped_stores : (b a : Bool) (x : ℕ × ℕ) → b ≡ false → addresses (when_stored (b && a) x) ≡ []
skipped_stores b a x h = rw h refl

all_stored : (b a : Bool) (x : ℕ × ℕ) → b ≡ true → a ≡ false → addresses (Some x) ≡ addresses (when_stored (b && not a) x)
all_stored b a x h k = rw (h, k) refl

-- the bytes of a row's access
abbrev bytes : Bool → ℕ
bytes b = if b then 1 else 4

pub same_bytes : (b : Bool) → bytes_of b ≡ bytes b
same_bytes true = refl
same_bytes false = refl

pub enough_loads : (b load byte : Bool) → load ≡ true → b ≡ byte → bytes_of b ≤ (if load then bytes byte else 0)
enough_loads b load byte h k = let e : bytes_of b ≡ (if load then bytes byte else 0) = rw h (same_bytes b ∙ ap bytes k) in omega arith

enough_stores : (b load byte : Bool) → load ≡ false → b ≡ byte → bytes_of b ≤ (if load then 0 else bytes byte)
enough_stores b load byte h k = let e : bytes_of b ≡ (if load then 0 else bytes byte) = rw h (same_bytes b ∙ ap bytes k) in omega arith

drawn_by : (load pc : Bool) → load ≡ false → (not load && pc) ≡ false → unknowns_of pc ≡ 0
drawn_by load true h k = let e : (not load && true) ≡ true = rw h refl in cc
drawn_by load false h k = refl

module _ (m : Endian) (w at : ℕ) (k : Condition) (i : TransferFields) (code : condition_number k ≡ condition_code w) (x : IsTransfer w i)
    (row : is_transfer w ≡ true) where
  abbrev index : Indexing
  index = i.addressing.indexing

  abbrev up : Bool
  up = i.addressing.is_up

  abbrev n : ℕ
  n = i.rn.number

  abbrev d : ℕ
  d = i.rd.number

  abbrev base : Expression
  base = register n at

  abbrev offset : Expression
  offset = parts.offset_of i.offset at

  abbrev moved_by : State → ℕ
  moved_by s = transfer_offset w s

  abbrev place : State → ℕ
  place s = rows.address w (reg s n) (moved_by s)

  small_base : writes_back w ≡ true → n < 15
  small_base h = subst (λ (z : ℕ). z < 15) (sym x.rn) (transfer_n w row h)

  base_plain : IsPlain 32 0 (offset_reads w) base
  base_plain = register_plain n at _ i.rn.in_range

  moved_plain : IsPlain 32 512 (offset_reads w) offset
  moved_plain = offset_plain w i.offset at x.offset

  same_address : (s : State) → place s ≡ transfer_address w s
  same_address s = ap (λ r. rows.address w (reg s r) (moved_by s)) x.rn

  place_below : (s : State) → IsState s → place s < 2 ^ 32
  place_below s is = address_below w (reg s n) (moved_by s) (reg_small s n is)

  place_value : (c : ℕ) (s : State) → IsState s → s.pc ≡ at → IsWord (parts.address index up base offset) c s (place s)
  place_value c s is here =
      address_value w index up base offset c (reg s n) (moved_by s) s x.addressing.1 x.addressing.0 (register_value s n at c here)
      (offset_value w at i.offset c s is here x.offset)

  -- the write-back, of a state and of one that has other bytes
  behind_value : (c : ℕ) (s : State) → IsState s → s.pc ≡ at → IsWord offset c (based w s (moved_by s)) (moved_by s)
  behind_value c s is here l =
      offset_value w at i.offset c (based w s (moved_by s)) (state_behind w s (moved_by s) is) here x.offset l
      ∙ word_is 32 _ _ (offset_behind w s (moved_by s) row)

  again : (c : ℕ) (s : State) → IsState s → s.pc ≡ at → IsWord (parts.address_again index up base offset) c (based w s (moved_by s)) (place s)
  again c s is here =
      again_value w at index up n offset (moved_by s) c s x.addressing.1 x.addressing.0 x.rn small_base is here (offset_below w at i.offset s is here x.offset)
      (behind_value c s is here)

  -- the row by its parts
  lifting : (v l t u : ℕ) (list : Statements) → Simulates (transferred (is_load w) m w) at list → IsAccess v l t u (offset_reads w) list →
      ((s : State) → IsState s → s.pc ≡ at → holds w s ≡ true → (c turns : ℕ) (k : Locals) →
      list_stored list c (position k turns None s) ≡ addresses ((single_transfer m w).stored s)) →
      ((single_transfer m w).draws ≡ false → u ≡ 0) → literal_address w at ≡ None → v + 70 ≤ 4096 → l ≤ (single_transfer m w).cost.loads →
      t ≤ (single_transfer m w).cost.stores → IsLifting (arm m V4) RRegisters (single_transfer m w) at (conditional k list)
  lifting v l t u list runs static places drawn none fits loads stores =
      conditional_lifting m w at v 4096 l t u (transferred (is_load w) m w) (single_transfer m w).stored (single_transfer m w).loaded (offset_reads w)
      (single_transfer m w).draws (single_transfer m w).cost.loads (single_transfer m w).cost.stores (single_transfer m w).successors (literal_address w) list runs static places
      (λ s h. skipped_stores (holds w s) (not (is_load w)) (access_of (is_byte w) (transfer_address w s)) h) drawn (λ a h. cc) fits loads stores k code

  -- a load to a register
  abbrev load_list : Statements
  load_list = lifts.access_by true false i m at base offset

  load_row : (s : State) (c : ℕ) → is_load w ≡ true → (field_d w == 15) ≡ false →
      transferred (is_load w) m w s c
      ≡ on s (record s { regs = put (base_written w s (moved_by s)) (field_d w) (load_by (is_byte w) m s.mem (transfer_address w s)) })
  load_row s c h e =
      ap (λ b. transferred b m w s c) h ∙ ap (λ b. loaded_by (b && not (transfer_address w s % 4 == 0)) m w s) e
      ∙ ap (λ b. write_by b s (based w s (moved_by s)) (field_d w) (load_by (is_byte w) m s.mem (transfer_address w s))) e

  load_runs : is_load w ≡ true → (field_d w == 15) ≡ false → Simulates (transferred (is_load w) m w) at load_list
  load_runs h e s is here c turns few l =
      let o : ℕ = moved_by s in
      let made : Bool → ℕ → ℕ → State = λ b d a. record s { regs = put (base_written w s o) d (load_by b m s.mem a) } in
      ap of_list (written_back_runs w index up n offset o c turns l None s _ x.addressing.1 x.addressing.0 x.rn
      (offset_value w at i.offset c s is here x.offset))
      ∙ rw (loaded_value i.is_byte m _ c (place s) (based w s o) (state_behind w s o is) (again c s is here) (place_below s is) l) (
      ap (λ b. of_row l turns (on s (made b d (place s)))) x.is_byte ∙ ap (λ d. of_row l turns (on s (made (is_byte w) d (place s)))) x.rd
      ∙ ap (λ a. of_row l turns (on s (made (is_byte w) (field_d w) a))) (same_address s) ∙ sym (ap (of_row l turns) (load_row s c h e))
      )

  load_static : d < 15 → IsAccess 2400 (bytes_of i.is_byte) 0 0 (offset_reads w) load_list
  load_static less =
      spare _ _ _ _ 2400 (bytes_of i.is_byte) 0 0 _ _
      (written_access w index up n 512 1760 (bytes_of i.is_byte + 0) 0 0 _ offset _ x.addressing.1 small_base moved_plain
      (register_access d 1696 0 (bytes_of i.is_byte) 0 0 0 0 1760 _ _ Empty less
      (loaded_fetch i.is_byte m 576 _ _ (again_plain index up 512 _ base offset base_plain moved_plain)) (empty_access _) (omega arith)))
      (omega arith) (omega arith) (omega arith) (omega arith)

  pub load_lifting : is_load w ≡ true → (field_d w == 15) ≡ false → literal_address w at ≡ None →
      IsLifting (arm m V4) RRegisters (single_transfer m w) at (conditional k load_list)
  load_lifting h e none =
      let less : d < 15 = below d i.rd.in_range (ap (λ d. d == 15) x.rd ∙ e) in
      let static = load_static less in
      lifting 2400 (bytes_of i.is_byte) 0 0 load_list (load_runs h e) static
      (λ s is here held c turns l. static.stored refl c _ ∙ sym (none_stored (holds w s) (is_load w) (access_of (is_byte w) (transfer_address w s)) h))
      (λ z. refl) none (omega arith) (enough_loads i.is_byte (is_load w) (is_byte w) h x.is_byte) (omega arith)
    where
      below : (q : ℕ) → q < 16 → (q == 15) ≡ false → q < 15
      below q l h = grind (arith, nat_tests)

  -- a load to r15
  abbrev pc_list : Statements
  pc_list = lifts.access_by true true i m at base offset

  abbrev jump_list : Statements
  jump_list = JumpTo (Load (Var Mem) (parts.address index up base offset) m 32) (parts.written_back index up n offset Empty)

  jump_row : (s : State) → (field_d w == 15) ≡ true →
      loaded_by false m w s ≡ Goes Indirect (with_pc (based w s (moved_by s)) (load_by (is_byte w) m s.mem (transfer_address w s)))
  jump_row s e = ap (λ b. write_by b s (based w s (moved_by s)) (field_d w) (load_by (is_byte w) m s.mem (transfer_address w s))) e

  jump_runs : (field_d w == 15) ≡ true → (s : State) → IsState s → s.pc ≡ at → (c turns : ℕ) (l : Locals) → (place s % 4 == 0) ≡ true →
      of_list (execute jump_list c (position l turns None s)) ≡ of_row l turns (loaded_by false m w s)
  jump_runs e s is here c turns l even =
      let o : ℕ = moved_by s in
      let v : ℕ = load m 4 s.mem (place s) in
      let same : v ≡ load_by (is_byte w) m s.mem (transfer_address w s)
      = ap (load m 4 s.mem) (sym (same_place (place s) even)) ∙ sym (unrotated m s.mem (place s) even)
      ∙ ap (λ b. load_by b m s.mem (place s)) (sym (transfer_word w row e)) ∙ ap (load_by (is_byte w) m s.mem) (same_address s) in
      rw (place_value c s is here l) (
      ap of_list (written_back_runs w index up n offset o c turns l (Some v) s Empty x.addressing.1 x.addressing.0 x.rn
      (offset_value w at i.offset c s is here x.offset))
      ∙ ap (λ v. of_row l turns (Goes Indirect (with_pc (based w s o) v))) same ∙ sym (ap (of_row l turns) (jump_row s e))
      )

  pc_row : (s : State) (c : ℕ) → is_load w ≡ true → (field_d w == 15) ≡ true → loaded_by (not (place s % 4 == 0)) m w s ≡ transferred (is_load w) m w s c
  pc_row s c h e =
      ap (λ a. loaded_by (not (a % 4 == 0)) m w s) (same_address s) ∙ ap (λ b. loaded_by (b && not (transfer_address w s % 4 == 0)) m w s) (sym e)
      ∙ ap (λ b. transferred b m w s c) (sym h)

  pc_runs : is_load w ≡ true → (field_d w == 15) ≡ true → Simulates (transferred (is_load w) m w) at pc_list
  pc_runs h e s is here c turns few l =
      rw (place_value c s is here l) (
      guarded (not (place s % 4 == 0)) m w c turns l s (position l turns None s) jump_list
      (λ t. jump_runs e s is here c turns l (not_false (place s % 4 == 0) t))
      ∙ ap (of_row l turns) (pc_row s c h e)
      )

  pc_static : IsAccess 1866 4 0 0 (offset_reads w) pc_list
  pc_static =
      let address = address_plain index up 512 _ base offset base_plain moved_plain in
      spare _ _ _ _ 1866 4 0 0 _ _
      (unless_access 5 578 1280 (4 + 0) 0 0 1866 _ _ _ (unaligned_plain 576 _ _ address)
      (jump_access 576 640 4 0 0 0 0 1280 _ _ _ (load_fetch 32 576 m _ _ address refl)
      (written_access w index up n 512 0 0 0 0 _ offset Empty x.addressing.1 small_base moved_plain (empty_access _)) (omega arith)) (omega arith))
      (omega arith) (omega arith) (omega arith) (omega arith)

  pub pc_lifting : is_load w ≡ true → (field_d w == 15) ≡ true → literal_address w at ≡ None →
      IsLifting (arm m V4) RRegisters (single_transfer m w) at (conditional k pc_list)
  pc_lifting h e none =
      lifting 1866 4 0 0 pc_list (pc_runs h e) pc_static
      (λ s is here held c turns l. pc_static.stored refl c _ ∙ sym (none_stored (holds w s) (is_load w) (access_of (is_byte w) (transfer_address w s)) h))
      (λ z. refl) none (omega arith) (enough_loads false (is_load w) (is_byte w) h (sym (transfer_word w row e))) (omega arith)

  -- a store
  abbrev store_list : Statements
  store_list = lifts.access_by false (d == 15) i m at base offset

  store_runs : is_load w ≡ false → Simulates (transferred (is_load w) m w) at store_list
  store_runs h s is here c turns few l =
      let o : ℕ = moved_by s in
      let made : Bool → ℕ → ℕ → State = λ b a v. record s { regs = base_written w s o; mem = store_by b m s.mem a v } in
      let t : State = record s { mem = store_by i.is_byte m s.mem (place s) (stored_reg s c d) } in
      let is_t : IsState t = record {
        pc = is.pc;
        regs = is.regs;
        flags = is.flags;
        mem = λ a. store_by_small i.is_byte m s.mem (place s)
            (stored_reg s c d) a (is.mem a);
      } in
      rw (stored_value i.is_byte m _ _ c (place s) (stored_reg s c d) s (place_value c s is here) (source_value d at c s here) (place_below s is) l) (
      ap of_list (written_back_runs w index up n offset o c turns l None t Empty x.addressing.1 x.addressing.0 x.rn
      (offset_value w at i.offset c t is_t here x.offset))
      ∙ ap (λ b. of_row l turns (on s (made b (place s) (stored_reg s c d)))) x.is_byte
      ∙ ap (λ d. of_row l turns (on s (made (is_byte w) (place s) (stored_reg s c d)))) x.rd
      ∙ ap (λ a. of_row l turns (on s (made (is_byte w) a (stored_reg s c (field_d w))))) (same_address s)
      ∙ sym (ap (λ b. of_row l turns (transferred b m w s c)) h)
      )

  store_static : IsAccess 1280 0 (bytes_of i.is_byte) (unknowns_of (d == 15)) (offset_reads w) store_list
  store_static =
      spare _ _ _ _ 1280 0 (bytes_of i.is_byte) (unknowns_of (d == 15)) _ _
      (stored_access i.is_byte m 576 32 640 0 0 0 (unknowns_of (d == 15)) 0 _ _ _ _ (address_plain index up 512 _ base offset base_plain moved_plain)
      (source_fetch d at _ i.rd.in_range)
      (written_access w index up n 512 0 0 0 0 _ offset Empty x.addressing.1 small_base moved_plain (empty_access _)))
      (omega arith) (omega arith) (omega arith) (omega arith)

  store_places : is_load w ≡ false → (s : State) → IsState s → s.pc ≡ at → holds w s ≡ true → (c turns : ℕ) (l : Locals) →
      list_stored store_list c (position l turns None s) ≡ addresses ((single_transfer m w).stored s)
  store_places h s is here held c turns l =
      let t : State = record s { mem = store_by i.is_byte m s.mem (place s) (stored_reg s c d) } in
      let is_t : IsState t = record {
        pc = is.pc;
        regs = is.regs;
        flags = is.flags;
        mem = λ a. store_by_small i.is_byte m s.mem (place s)
            (stored_reg s c d) a (is.mem a);
      } in
      rw (
        stored_places i.is_byte m _ _ c (place s) s (place_value c s is here) (place_below s is)
            ((address_plain index up 512 _ base offset base_plain moved_plain).stored c) ((source_fetch d at (offset_reads w) i.rd.in_range).stored c) l,
        stored_value i.is_byte m _ _ c (place s) (stored_reg s c d) s (place_value c s is here) (source_value d at c s here) (place_below s is) l,
        written_back_stores w index up n offset (moved_by s) c turns l None t Empty x.addressing.1 x.addressing.0 x.rn
            (offset_value w at i.offset c t is_t here x.offset)
            (moved_plain.stored c),
      ) (
      append-nil _ ∙ ap (λ b. addresses (Some (access_of b (place s)))) x.is_byte ∙ ap (λ a. addresses (Some (access_of (is_byte w) a))) (same_address s)
      ∙ all_stored (holds w s) (is_load w) (access_of (is_byte w) (transfer_address w s)) held h
      )

  pub store_lifting : is_load w ≡ false → literal_address w at ≡ None → IsLifting (arm m V4) RRegisters (single_transfer m w) at (conditional k store_list)
  store_lifting h none =
      lifting 1280 0 (bytes_of i.is_byte) (unknowns_of (d == 15)) store_list (store_runs h) store_static (store_places h)
      (λ z. drawn_by (is_load w) (d == 15) h (ap (λ q. not (is_load w) && (q == 15)) x.rd ∙ z)) none (omega arith) (omega arith)
      (enough_stores i.is_byte (is_load w) (is_byte w) h x.is_byte)
