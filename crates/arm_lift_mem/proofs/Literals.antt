-- The lists of literal loads are liftings of their rows.
use Rattle.std.proofs.Common.{◌≡◌, ℕ, ◌+◌, ◌*◌, ◌%◌, ◌^◌, ◌<◌, ◌≤◌, Bool, true, false, not, ◌&&◌, ◌||◌, refl, ap, sym, subst, ◌∙◌, arith, Some, None, if◌then◌else◌}
use Rattle.std.specs.Prelude.{◌==◌, nat_lt}
use Rattle.std.proofs.lemmas.Bool.{eqb-true}
use Rattle.std.proofs.lemmas.Bool.Decides.{nat_tests}
use Rattle.word_spec.specs.Words as words
use Rattle.word_spec.specs.Words.{add, bits}
use Rattle.word_spec.specs.Memory.{Endian, Little, Big}
use Rattle.word_spec.specs.State.{State, put, with_pc}
use Rattle.machine_spec.specs.Machine.{Goes, Indirect}
use Rattle.machine_spec.specs.Arm as rows
use Rattle.word_spec.specs.Profiles.{V4}
use Rattle.machine_spec.specs.Arm.{arm, reg, on, field_n, field_d, bit_i, is_load, is_byte, is_up, is_transfer, writes_back, base_written, load_by, load_word, access_of, transferred, loaded_by, write_by, transfer_address, transfer_offset, single_transfer, literal_address, condition_code, holds}
use Rattle.machine_spec.specs.Bil.{RRegisters, Mem, Var, Constant, Load, Statements, Empty, Assign, JumpTo}
use Rattle.machine_spec.specs.Bil as bil
use Rattle.machine_spec.specs.BilMeaning.{assign, assigned, then_do, execute}
use Rattle.machine_spec.specs.BilCounts.{other_loads, byte_stores, same_order}
use Rattle.machine_spec.specs.Simulation.{env_of, position, of_list, of_row, Simulates}
use Rattle.machine_spec.specs.MachineLaws.{IsLifting}
use Rattle.arm_decode.specs.declared.parts.Condition.{Condition}
use Rattle.arm_decode.specs.declared.parts.Indexing.{Indexing}
use Rattle.arm_decode.specs.declared.parts.Indexing.TheVariants as indexing
use Rattle.arm_decode.specs.declared.parts.Offset as offsets
use Rattle.arm_decode.specs.declared.parts.Offset.TheVariants as offset
use Rattle.arm_decode.specs.Parts.{condition_number, HasIndexing, HasOffset}
use Rattle.arm_decode.specs.Forms.{IsTransfer}
use Rattle.arm_decode.specs.declared.transfers.TransferFields.{TransferFields}
use Rattle.arm_lift_alu.specs.Lifted.{conditional, number}
use Rattle.arm_lift_alu.specs.Operands.{register}
use Rattle.arm_lift_alu.proofs.Plain.{number_plain, constant_plain}
use Rattle.arm_lift_mem.specs.Accesses as parts
use Rattle.arm_lift_mem.specs.Transfers as lifts
use Rattle.arm_lift_alu.proofs.Fetches.{load_fetch}
use Rattle.arm_lift_mem.proofs.Fetches.{word_fetch}
use Rattle.arm_lift_alu.proofs.Accesses.{IsAccess, empty_access, raise_access, spare, register_access, jump_access}
use Rattle.arm_lift_alu.proofs.AccessRows.{conditional_lifting}
use Rattle.arm_lift_mem.proofs.Values.{word_value, moved_is, moved_below}
use Rattle.arm_lift_mem.proofs.Bases.{based}
use Rattle.arm_lift_mem.proofs.Offsets.{offset_reads}
use Rattle.arm_lift_mem.proofs.TransferRows.{unrotated, none_stored, skipped_stores, enough_loads, load_lifting, pc_lifting, store_lifting}

-- a byte order is itself, and so is an address
own_order : (m : Endian) → same_order m m ≡ true
own_order Little = refl
own_order Big = refl

itself : (a : ℕ) → (a == a) ≡ true
itself a = grind (arith, nat_tests)

jump_alone : (m : Endian) (a : ℕ) → other_loads m a (JumpTo (Load (Var Mem) (number a) m 32) Empty) ≡ 0
jump_alone m a = rw (own_order m, itself a) refl

word_alone : (m : Endian) (a d : ℕ) → other_loads m a (Assign (bil.Register RRegisters d) (Load (Var Mem) (number a) m 32) Empty) ≡ 0
word_alone m a d = rw (own_order m, itself a) refl

turned_alone : (m : Endian) (a d k : ℕ) → other_loads m a (Assign (bil.Register RRegisters d) (parts.word m (number a) (Constant 64 k)) Empty) ≡ 0
turned_alone m a d k = rw (own_order m, itself a) refl

some_is : (a b : ℕ) → Some a ≡ Some b → b ≡ a
some_is a b h = cc

-- with no write-back the offset is added before the access
pre_kept : (p b : Bool) → (not p || b) ≡ false → p ≡ true
pre_kept true b h = refl
pre_kept false b h = cc

-- the row of a literal's load
module _ (m : Endian) (w at : ℕ) (k : Condition) (code : condition_number k ≡ condition_code w) (row : is_transfer w ≡ true) (loads : is_load w ≡ true)
    (byte : is_byte w ≡ false) (base : field_n w ≡ 15) (kept : writes_back w ≡ false) (by_number : bit_i w ≡ false) (up : Bool) (same_up : up ≡ is_up w)
    (z : ℕ) (same_z : z ≡ bits 11 0 w) where
  -- the address
  abbrev a : ℕ
  a = parts.moved_number up (add 32 at 8) z

  address_is : (s : State) → s.pc ≡ at → transfer_address w s ≡ a
  address_is s here =
      ap (λ b. if b then rows.moved w (reg s (field_n w)) (transfer_offset w s) else reg s (field_n w)) (pre_kept _ _ kept)
      ∙ ap (λ n. rows.moved w (reg s n) (transfer_offset w s)) base ∙ ap (λ p. rows.moved w (add 32 p 8) (transfer_offset w s)) here
      ∙ ap (λ b. rows.moved w (add 32 at 8) (if b then (rows.by_number (rows.kind_of w) (rows.amount_of w) (reg s (rows.field_m w))
      (s.flags 1)).value else bits 11 0 w)) by_number
      ∙ ap (rows.moved w (add 32 at 8)) (sym same_z) ∙ sym (moved_is w up (add 32 at 8) z same_up)

  a_below : a < 2 ^ 32
  a_below = moved_below up (add 32 at 8) z

  place_below : words.aligned a < 2 ^ 32
  place_below = let h = a_below in omega arith

  regs_kept : (s : State) (o : ℕ) → base_written w s o ≡ s.regs
  regs_kept s o = ap (λ b. if b then put s.regs (field_n w) (rows.moved w (s.regs (field_n w)) o) else s.regs) kept

  -- its address is told
  told : literal_address w at ≡ Some (words.aligned a)
  told =
      ap (λ b. if b then Some (words.aligned (rows.moved w (add 32 at 8) (bits 11 0 w))) else None) tests
      ∙ ap (λ y. Some (words.aligned y)) (ap (rows.moved w (add 32 at 8)) (sym same_z) ∙ sym (moved_is w up (add 32 at 8) z same_up))
    where
      tests : (is_load w && not (bit_i w) && not (is_byte w) && (field_n w == 15) && not (writes_back w)) ≡ true
      tests = rw (loads, byte, by_number, kept, base) refl

  lifting : (v : ℕ) (list : Statements) → Simulates (transferred (is_load w) m w) at list → IsAccess v 4 0 0 (offset_reads w) list → v + 70 ≤ 4096 →
      other_loads m (words.aligned a) list ≡ 0 → byte_stores list ≡ 0 → IsLifting (arm m V4) RRegisters (single_transfer m w) at (conditional k list)
  lifting v list runs static fits alone stores =
      conditional_lifting m w at v 4096 4 0 0 (transferred (is_load w) m w) (single_transfer m w).stored (single_transfer m w).loaded (offset_reads w)
      (single_transfer m w).draws (single_transfer m w).cost.loads (single_transfer m w).cost.stores (single_transfer m w).successors (literal_address w) list runs static
      (λ s is here held c turns l. static.stored refl c _ ∙ sym (none_stored (holds w s) (is_load w) (access_of (is_byte w) (transfer_address w s)) loads))
      (λ s h. skipped_stores (holds w s) (not (is_load w)) (access_of (is_byte w) (transfer_address w s)) h) (λ t. refl)
      (λ b h. (subst (λ (y : ℕ). other_loads m y list ≡ 0) (sym (some_is _ _ (sym told ∙ h))) alone, stores)) fits
      (enough_loads false (is_load w) (is_byte w) loads (sym byte)) (omega arith) k code

  -- what the row does where it is no exception
  done : (s : State) (c : ℕ) (pc : Bool) → (field_d w == 15) ≡ pc → s.pc ≡ at → (pc && not (a % 4 == 0)) ≡ false →
      transferred (is_load w) m w s c ≡ write_by pc s s (field_d w) (load_word m s.mem a)
  done s c pc e here good =
      ap (λ b. transferred b m w s c) loads ∙ ap (λ y. loaded_by ((field_d w == 15) && not (y % 4 == 0)) m w s) (address_is s here)
      ∙ ap (λ b. loaded_by (b && not (a % 4 == 0)) m w s) e ∙ ap (λ b. loaded_by b m w s) good
      ∙ ap (λ b. write_by b s (based w s (transfer_offset w s)) (field_d w) (load_by (is_byte w) m s.mem (transfer_address w s))) e
      ∙ ap (λ f. write_by pc s (record s { regs = f }) (field_d w) (load_by (is_byte w) m s.mem (transfer_address w s))) (regs_kept s (transfer_offset w s))
      ∙ ap (λ b. write_by pc s s (field_d w) (load_by b m s.mem (transfer_address w s))) byte
      ∙ ap (λ y. write_by pc s s (field_d w) (load_word m s.mem y)) (address_is s here)

  abbrev list : Bool → Bool → ℕ → Statements
  list pc even d = lifts.literal_list pc even m d a

  runs : (pc even : Bool) (d : ℕ) → d ≡ field_d w → (field_d w == 15) ≡ pc → (a % 4 == 0) ≡ even → Simulates (transferred (is_load w) m w) at (list pc even d)
  runs true true d name e t s is here c turns few l =
      ap (λ v. of_row l turns (Goes Indirect (with_pc s v))) (sym (unrotated m s.mem a t))
      ∙ sym (ap (of_row l turns) (done s c true e here (ap not t)))
  runs true false d name e t s is here c turns few l =
      sym (ap (of_row l turns) (
      ap (λ b. transferred b m w s c) loads ∙ ap (λ y. loaded_by ((field_d w == 15) && not (y % 4 == 0)) m w s) (address_is s here)
      ∙ ap (λ b. loaded_by (b && not (a % 4 == 0)) m w s) e ∙ ap (λ b. loaded_by (not b) m w s) t
      ))
  runs false true d name e t s is here c turns few l =
      ap (λ v. of_row l turns (on s (record s { regs = put s.regs d v }))) (sym (unrotated m s.mem a t))
      ∙ ap (λ d. of_row l turns (on s (record s { regs = put s.regs d (load_word m s.mem a) }))) name
      ∙ sym (ap (of_row l turns) (done s c false e here refl))
  runs false false d name e t s is here c turns few l =
      ap (λ v. of_list (then_do (assigned (assign (bil.Register RRegisters d) v (env_of l s)) (position l turns None s)) (execute Empty c)))
      (word_value m (number (words.aligned a)) (Constant 64 (8 * (a % 4))) c (words.aligned a) (8 * (a % 4)) s is (λ k. refl) (λ k. refl) (turn_small a) l)
      ∙ ap (λ d. of_row l turns (on s (record s { regs = put s.regs d (load_word m s.mem a) }))) name
      ∙ sym (ap (of_row l turns) (done s c false e here refl))
    where
      turn_small : (y : ℕ) → 8 * (y % 4) < 32
      turn_small y = omega arith

  static : (pc even : Bool) (d : ℕ) → (pc ≡ false → d < 15) → IsAccess 600 4 0 0 (offset_reads w) (list pc even d)
  static true true d less =
      spare _ _ _ _ 600 4 0 0 _ _
      (jump_access 0 0 4 0 0 0 0 64 _ _ Empty (load_fetch 32 0 m _ _ (number_plain (words.aligned a) _ place_below) refl) (empty_access _) (omega arith))
      (omega arith) (omega arith) (omega arith) (omega arith)
  static true false d less = spare 4 0 0 0 600 4 0 0 _ _ (raise_access 5 _) (omega arith) (omega arith) (omega arith) (omega arith)
  static false true d less =
      spare _ _ _ _ 600 4 0 0 _ _
      (register_access d 0 0 4 0 0 0 0 64 _ _ Empty (less refl) (load_fetch 32 0 m _ _ (number_plain (words.aligned a) _ place_below) refl) (empty_access _)
      (omega arith))
      (omega arith) (omega arith) (omega arith) (omega arith)
  static false false d less =
      spare _ _ _ _ 600 4 0 0 _ _
      (register_access d 512 0 4 0 0 0 0 600 _ _ Empty (less refl)
      (word_fetch 0 0 m _ _ _ (number_plain (words.aligned a) _ place_below) (constant_plain 64 (8 * (a % 4)) _ (fits a))) (empty_access _) (omega arith))
      (omega arith) (omega arith) (omega arith) (omega arith)
    where
      fits : (y : ℕ) → (true && nat_lt (8 * (y % 4)) (2 ^ 64)) ≡ true
      fits y = let t : nat_lt (8 * (y % 4)) (2 ^ 64) ≡ true = grind (arith, nat_tests) in t

  by : (pc even : Bool) (d : ℕ) → d ≡ field_d w → d < 16 → (field_d w == 15) ≡ pc → (a % 4 == 0) ≡ even →
      IsLifting (arm m V4) RRegisters (single_transfer m w) at (conditional k (list pc even d))
  by pc even d name small e t =
      let less : pc ≡ false → d < 15 = λ h. below d small (ap (λ d. d == 15) name ∙ e ∙ h) in
      lifting 600 (list pc even d) (runs pc even d name e t) (static pc even d less) (omega arith) (alone pc even) (unstored pc even)
    where
      below : (q : ℕ) → q < 16 → (q == 15) ≡ false → q < 15
      below q l h = grind (arith, nat_tests)

      alone : (pc even : Bool) → other_loads m (words.aligned a) (list pc even d) ≡ 0
      alone true true = jump_alone m (words.aligned a)
      alone true false = refl
      alone false true = word_alone m (words.aligned a) d
      alone false false = turned_alone m (words.aligned a) d (8 * (a % 4))

      unstored : (pc even : Bool) → byte_stores (list pc even d) ≡ 0
      unstored true true = refl
      unstored true false = refl
      unstored false true = refl
      unstored false false = refl

  pub literal_lifting : (d : ℕ) → d ≡ field_d w → d < 16 →
      IsLifting (arm m V4) RRegisters (single_transfer m w) at (conditional k (lifts.literal_list (d == 15) (a % 4 == 0) m d a))
  literal_lifting d name small = by (d == 15) (a % 4 == 0) d name small (ap (λ d. d == 15) (sym name)) refl

-- the write-back of a word
writes_back_is : (w : ℕ) (k : Indexing) → HasIndexing w k → lifts.writes_back k ≡ writes_back w
writes_back_is w indexing.Offset h = sym h.1
writes_back_is w indexing.Pre h = sym h.1
writes_back_is w indexing.Post h = sym h.1

front : (a b : Bool) → (a && b) ≡ true → a ≡ true
front true b h = refl
front false b h = cc

back : (a b : Bool) → (a && b) ≡ true → b ≡ true
back true b h = h
back false b h = cc

not_true : (a : Bool) → not a ≡ true → a ≡ false
not_true true h = cc
not_true false h = refl

not_literal : (l i b n v : Bool) → (l && b && n && v) ≡ false → (l && i && b && n && v) ≡ false
not_literal l true b n v h = subst (λ (x : Bool). (x && b && n && v) ≡ false) (same l) h
  where
    same : (l : Bool) → l ≡ (l && true)
    same true = refl
    same false = refl
not_literal l false b n v h = rw (none l) refl
  where
    none : (l : Bool) → (l && false) ≡ false
    none true = refl
    none false = refl

no_number : (l b n v : Bool) → (l && false && b && n && v) ≡ false
no_number true b n v = refl
no_number false b n v = refl

module _ (m : Endian) (w at : ℕ) (k : Condition) (i : TransferFields) (code : condition_number k ≡ condition_code w) (x : IsTransfer w i)
    (row : is_transfer w ≡ true) where
  abbrev test : Bool
  test = i.is_load && not i.is_byte && (i.rn.number == 15) && not (lifts.writes_back i.addressing.indexing)

  same_test : test ≡ (is_load w && not (is_byte w) && (field_n w == 15) && not (writes_back w))
  same_test =
      ap (λ b. b && not i.is_byte && (i.rn.number == 15) && not (lifts.writes_back i.addressing.indexing)) x.is_load
      ∙ ap (λ b. is_load w && not b && (i.rn.number == 15) && not (lifts.writes_back i.addressing.indexing)) x.is_byte
      ∙ ap (λ n. is_load w && not (is_byte w) && (n == 15) && not (lifts.writes_back i.addressing.indexing)) x.rn
      ∙ ap (λ b. is_load w && not (is_byte w) && (field_n w == 15) && not b) (writes_back_is w i.addressing.indexing x.addressing.1)

  -- an access that is no literal's load
  access : literal_address w at ≡ None → IsLifting (arm m V4) RRegisters (single_transfer m w) at (conditional k (lifts.transfer_by None i m at))
  access none = by i.is_load (i.rd.number == 15) x.is_load (ap (λ d. d == 15) x.rd)
    where
      by : (load pc : Bool) → load ≡ is_load w → pc ≡ (field_d w == 15) → IsLifting (arm m V4) RRegisters (single_transfer m w) at
          (conditional k (lifts.access_by load pc i m at (register i.rn.number at) (parts.offset_of i.offset at)))
      by true false h e = load_lifting m w at k i code x row (sym h) (sym e) none
      by true true h e = pc_lifting m w at k i code x row (sym h) (sym e) none
      by false pc h e = store_lifting m w at k i code x row (sym h) none

  unless_literal : (b : Bool) → b ≡ false → (if b then Some (words.aligned (rows.moved w (add 32 at 8) (bits 11 0 w))) else None) ≡ None
  unless_literal b h = rw h refl

  whole : (b : Bool) (o : offsets.Offset) → HasOffset w o → test ≡ b →
      IsLifting (arm m V4) RRegisters (single_transfer m w) at (conditional k (lifts.transfer_by (lifts.literal_by b i.addressing.is_up o at) i m at))
  whole true (offset.Number z) h t =
      let t : (is_load w && not (is_byte w) && (field_n w == 15) && not (writes_back w)) ≡ true = sym same_test ∙ t in
      literal_lifting m w at k code row (front _ _ (front _ _ (front _ _ t))) (not_true _ (back _ _ (front _ _ (front _ _ t))))
      (eqb-true _ _ (back _ _ (front _ _ t))) (not_true _ (back _ _ t)) h.0 i.addressing.is_up x.addressing.0 z h.1 i.rd.number x.rd i.rd.in_range
  whole true (offset.Shifted r kind amount) h t =
      access (unless_literal _ (ap (λ b. is_load w && not b && not (is_byte w) && (field_n w == 15) && not (writes_back w)) h.0 ∙ no_number _ _ _ _))
  whole false o h t = access (unless_literal _ (not_literal (is_load w) (not (bit_i w)) _ _ _ (sym same_test ∙ t)))

  pub transfer_lifting : IsLifting (arm m V4) RRegisters (single_transfer m w) at (conditional k (lifts.transfer i m at))
  transfer_lifting = whole test i.offset x.offset refl
