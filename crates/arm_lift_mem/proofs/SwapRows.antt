-- The lists of SWP and SWPB are liftings of their rows.
use Rattle.std.proofs.Common.{◌≡◌, ℕ, ◌+◌, ◌*◌, ◌%◌, ◌^◌, ◌<◌, ◌≤◌, Bool, true, false, refl, ap, sym, ◌∙◌, arith, [], append-nil, Some, None, if◌then◌else◌}
use Rattle.std.specs.Prelude.{◌==◌, nat_lt}
use Rattle.std.proofs.lemmas.Bool.{eqb-true}
use Rattle.std.proofs.lemmas.Bool.Decides.{nat_tests}
use Rattle.std.proofs.Math.Path.{fun_ext}
use Rattle.word_spec.specs.Words as words
use Rattle.word_spec.specs.Words.{add, sub}
use Rattle.word_spec.specs.Memory.{Endian, Little, Big, Memory, load, store, number, byte_of}
use Rattle.word_spec.specs.State.{State, IsState, put}
use Rattle.machine_spec.specs.Machine.{addresses}
use Rattle.word_spec.specs.Profiles.{V4}
use Rattle.machine_spec.specs.Arm.{arm, reg, on, field_n, field_d, field_m, is_byte, is_swap, load_by, store_by, access_of, swapped, swap, condition_code, holds, when_stored, none}
use Rattle.machine_spec.specs.Bil.{RRegisters, Expression, Binary, Statements, Empty}
use Rattle.machine_spec.specs.Bil as bil
use Rattle.machine_spec.specs.BilMeaning.{Word, Bytes, evaluate}
use Rattle.machine_spec.specs.BilStores.{list_stored}
use Rattle.machine_spec.specs.Simulation.{Locals, env_of, position, of_row, Simulates}
use Rattle.machine_spec.specs.MachineLaws.{IsLifting}
use Rattle.machine_spec.proofs.ArmRanges.{load_1, load_by_small, reg_small, put_below}
use Rattle.arm_decode.specs.declared.parts.Condition.{Condition}
use Rattle.arm_decode.specs.Parts.{condition_number}
use Rattle.arm_decode.specs.Forms.{IsSwap}
use Rattle.arm_decode.specs.declared.swaps.SwapFields.{SwapFields}
use Rattle.arm_lift_alu.specs.Lifted.{conditional}
use Rattle.arm_lift_alu.specs.Operands.{own}
use Rattle.arm_lift_alu.proofs.Plain.{IsPlain, own_register}
use Rattle.arm_lift_mem.specs.Accesses as parts
use Rattle.arm_lift_mem.specs.Swaps as lifts
use Rattle.arm_lift_alu.proofs.Fetches.{IsFetch, fetch, load_fetch, cast_fetch, binary_fetch, roomier}
use Rattle.arm_lift_alu.proofs.Accesses.{IsAccess, empty_access, spare, register_access}
use Rattle.arm_lift_alu.proofs.AccessRows.{conditional_lifting}
use Rattle.arm_lift_mem.proofs.Values.{IsWord, word_is, aligned_value, loaded_value, stored_value, stored_places}
use Rattle.arm_lift_mem.proofs.Bases.{own_reg, put_same}
use Rattle.arm_lift_mem.proofs.Facts.{swap_n_d}
use Rattle.arm_lift_mem.proofs.Parts.{loaded_fetch, bytes_of, stored_access, aligned_plain}
use Rattle.arm_lift_mem.proofs.TransferRows.{same_bytes}

-- a load of what was just stored
inside : (j n i y z : ℕ) (f : ℕ → ℕ) → j ≡ i → i < n → (if nat_lt j n then f j else z) ≡ f i
inside j n i y z f e l = let b : nat_lt j n ≡ true = grind (arith, nat_tests) in ap (λ t. if t then f j else z) b ∙ ap f e

byte_stored : (o : Endian) (n : ℕ) (m : Memory) (a v i : ℕ) → a < 2 ^ 32 → n ≤ 4 → i < n → store o n m a v (add 32 a i) ≡ byte_of o n v i
byte_stored o n m a v i h few l =
    inside (sub 32 (add 32 a i) a) n i 0 (m (add 32 a i)) (byte_of o n v) (let z : sub 32 (add 32 a i) a ≡ i = omega arith in z) l

again_1 : (o : Endian) (m : Memory) (a v : ℕ) → a < 2 ^ 32 → load o 1 (store o 1 m a v) a ≡ v % 256
again_1 Little m a v h = ap (λ x. 0 + x * 256 ^ 0) (byte_stored Little 1 m a v 0 h (omega arith) (omega arith)) ∙ omega arith
again_1 Big m a v h = ap (λ x. 0 * 256 + x) (byte_stored Big 1 m a v 0 h (omega arith) (omega arith)) ∙ omega arith

four : (f g : ℕ → ℕ) (o : Endian) → f 0 ≡ g 0 → f 1 ≡ g 1 → f 2 ≡ g 2 → f 3 ≡ g 3 → number o 4 f ≡ number o 4 g
four f g Little p q r s =
    ap (λ x. 0 + x * 256 ^ 0 + f 1 * 256 ^ 1 + f 2 * 256 ^ 2 + f 3 * 256 ^ 3) p ∙ ap (λ x. 0 + g 0 * 256 ^ 0 + x * 256 ^ 1 + f 2 * 256 ^ 2 + f 3 * 256 ^ 3) q
    ∙ ap (λ x. 0 + g 0 * 256 ^ 0 + g 1 * 256 ^ 1 + x * 256 ^ 2 + f 3 * 256 ^ 3) r ∙ ap (λ x. 0 + g 0 * 256 ^ 0 + g 1 * 256 ^ 1 + g 2 * 256 ^ 2 + x * 256 ^ 3) s
four f g Big p q r s =
    ap (λ x. (((0 * 256 + x) * 256 + f 1) * 256 + f 2) * 256 + f 3) p ∙ ap (λ x. (((0 * 256 + g 0) * 256 + x) * 256 + f 2) * 256 + f 3) q
    ∙ ap (λ x. (((0 * 256 + g 0) * 256 + g 1) * 256 + x) * 256 + f 3) r ∙ ap (λ x. (((0 * 256 + g 0) * 256 + g 1) * 256 + g 2) * 256 + x) s

whole_4 : (o : Endian) (v : ℕ) → v < 2 ^ 32 → number o 4 (byte_of o 4 v) ≡ v
whole_4 Little v h = omega arith
whole_4 Big v h = omega arith

again_4 : (o : Endian) (m : Memory) (a v : ℕ) → a < 2 ^ 32 → v < 2 ^ 32 → load o 4 (store o 4 m a v) a ≡ v
again_4 o m a v h k =
    four (λ i. store o 4 m a v (add 32 a i)) (byte_of o 4 v) o (byte_stored o 4 m a v 0 h (omega arith) (omega arith)) (byte_stored o 4 m a v 1 h
    (omega arith) (omega arith))
    (byte_stored o 4 m a v 2 h (omega arith) (omega arith)) (byte_stored o 4 m a v 3 h (omega arith) (omega arith)) ∙ whole_4 o v k

-- a sum and what was added
taken_off : (v y : ℕ) → v < 2 ^ 32 → y < 2 ^ 32 → sub 32 (add 32 v y) y ≡ v
taken_off v y h k = omega arith

left_word : (v y : ℕ) → v < 2 ^ 32 → y < 2 ^ 32 → sub 32 (add 32 v y) v ≡ y
left_word v y h k = omega arith

left_byte : (v y : ℕ) → v < 2 ^ 32 → y < 2 ^ 8 → sub 8 ((v + y) % 2 ^ 32 % 2 ^ 8) (v % 256) ≡ y
left_byte v y h k = omega arith

-- what is left over, in a state behind the store
left_value : (b : Bool) (o : Endian) (x e : Expression) (c a v y : ℕ) (old : Memory) (t : State) → t.mem ≡ store_by b o old a v → IsWord x c t (add 32 v y) →
    IsWord e c t a → a < 2 ^ 32 → v < 2 ^ 32 → (b ≡ true → y < 2 ^ 8) → y < 2 ^ 32 → IsWord (lifts.left_over b o x e) c t y
left_value true o x e c a v y old t same p q ha hv byte hy l =
    rw (p l, q l) (word_is 32 _ _ (
    ap (λ m. sub 8 ((v + y) % 2 ^ 32 % 2 ^ 8) (load o 1 m a)) same ∙ ap (λ z. sub 8 ((v + y) % 2 ^ 32 % 2 ^ 8) z) (again_1 o old a v ha)
    ∙ left_byte v y hv (byte refl)
    ))
left_value false o x e c a v y old t same p q ha hv byte hy l =
    rw (p l, aligned_value e c a t q ha l) (word_is 32 _ _ (
    ap (λ m. sub 32 (add 32 v y) (load o 4 m (words.aligned a))) same ∙ ap (λ z. sub 32 (add 32 v y) z) (again_4 o old (words.aligned a) v (omega arith) hv)
    ∙ left_word v y hv hy
    ))

left_fetch : (b : Bool) (o : Endian) (r : ℕ → Bool) (x a : Expression) → IsPlain 32 0 r x → IsPlain 32 0 r a →
    IsFetch 32 96 (bytes_of b) 0 r (lifts.left_over b o x a)
left_fetch true o r x a p q =
    roomier 32 16 (0 + 1) (0 + 0) 96 1 0 r _
    (cast_fetch bil.Unsigned 32 8 16 (0 + 1) (0 + 0) r _
    (binary_fetch bil.Minus 8 0 0 0 1 0 0 16 r _ _ (cast_fetch bil.Low 8 32 0 0 0 r x (fetch 32 0 r x p) refl) (load_fetch 8 0 o r a q refl) refl
    (omega arith)) refl)
    (omega arith) (omega arith) (omega arith)
left_fetch false o r x a p q =
    roomier 32 96 (0 + 4) (0 + 0) 96 4 0 r _
    (binary_fetch bil.Minus 32 0 32 0 4 0 0 96 r _ _ (fetch 32 0 r x p) (load_fetch 32 32 o r _ (aligned_plain 0 r a q) refl) refl (omega arith))
    (omega arith) (omega arith) (omega arith)

-- a byte that is loaded
byte_small : (b : Bool) (o : Endian) (m : Memory) (a : ℕ) → ((i : ℕ) → m i < 256) → b ≡ true → load_by b o m a < 2 ^ 8
byte_small true o m a h e = load_1 o m a h
byte_small false o m a h e = cc

held_stores : (b : Bool) (x : ℕ × ℕ) → b ≡ true → addresses (Some x) ≡ addresses (when_stored b x)
held_stores b x h = rw h refl

skipped : (b : Bool) (x : ℕ × ℕ) → b ≡ false → addresses (when_stored b x) ≡ []
skipped b x h = rw h refl

put_twice : (f : ℕ → ℕ) (d x y i : ℕ) → put (put f d x) d y i ≡ put f d y i
put_twice f d x y i = by (i == d)
  where
    by : (b : Bool) → (if b then y else (if b then x else f i)) ≡ (if b then y else f i)
    by true = refl
    by false = refl

module _ (m : Endian) (w at : ℕ) (k : Condition) (i : SwapFields) (code : condition_number k ≡ condition_code w) (x : IsSwap w i) (row : is_swap w ≡ true) where
  abbrev n : ℕ
  n = i.rn.number

  abbrev d : ℕ
  d = i.rd.number

  abbrev q : ℕ
  q = i.rm.number

  abbrev b : Bool
  b = i.is_byte

  -- the address, and what is loaded
  abbrev place : State → ℕ
  place s = reg s n

  abbrev taken : State → ℕ
  taken s = load_by b m s.mem (place s)

  own_value : (s : State) (r c : ℕ) → r < 15 → IsWord (own r) c s (reg s r)
  own_value s r c h l = word_is 32 _ _ (sym (own_reg s r h))

  small : (s : State) (r : ℕ) → IsState s → reg s r < 2 ^ 32
  small s r is = reg_small s r is

  base_plain : IsPlain 32 0 none (own n)
  base_plain = own_register n none i.rn.in_range

  loaded : IsFetch 32 544 (bytes_of b) 0 none (parts.loaded b m (own n))
  loaded = roomier 32 (0 + 0 + 544) (bytes_of b) 0 544 (bytes_of b) 0 none _ (loaded_fetch b m 0 none (own n) base_plain) (omega arith) (omega arith)
      (omega arith)

  take : (s : State) (c : ℕ) → IsState s → IsWord (parts.loaded b m (own n)) c s (taken s)
  take s c is = loaded_value b m (own n) c (place s) s is (own_value s n c i.rn.in_range) (small s n is)

  -- a state with a register set has the base as it was
  abbrev set : State → ℕ → State
  set s v = record s { regs = put s.regs d v }

  is_set : (s : State) (v : ℕ) → IsState s → v < 2 ^ 32 → IsState (set s v)
  is_set s v is h = record { pc = is.pc; regs = put_below s.regs d v (2 ^ 32) is.regs h; flags = is.flags; mem = is.mem }

  other : (s : State) (v r : ℕ) → (r == d) ≡ false → reg (set s v) r ≡ reg s r
  other s v r h = ap (λ y. if r == 15 then add 32 s.pc 8 else y) (ap (λ b. if b then v else s.regs r) h)

  base_apart : (n == d) ≡ false
  base_apart = ap (λ a. a == d) x.rn ∙ ap (λ a. field_n w == a) x.rd ∙ swap_n_d w row

  -- what the row does, by the fields
  abbrev done : State → State
  done s = record s { regs = put s.regs d (taken s); mem = store_by b m s.mem (place s) (reg s q) }

  row_is : (s : State) → on s (done s) ≡ swapped m w s
  row_is s =
      let made : Bool → ℕ → ℕ → ℕ → State = λ b n d q. record s {
        regs = put s.regs d (load_by b m s.mem (reg s n));
        mem = store_by b m s.mem (reg s n)
            (reg s q);
      } in
      ap (λ b. on s (made b n d q)) x.is_byte ∙ ap (λ n. on s (made (is_byte w) n d q)) x.rn ∙ ap (λ d. on s (made (is_byte w) (field_n w) d q)) x.rd
      ∙ ap (λ q. on s (made (is_byte w) (field_n w) (field_d w) q)) x.rm

  place_is : (s : State) → access_of b (place s) ≡ access_of (is_byte w) (reg s (field_n w))
  place_is s = ap (λ b. access_of b (place s)) x.is_byte ∙ ap (λ n. access_of (is_byte w) (reg s n)) x.rn

  lifting : (v l : ℕ) (list : Statements) → Simulates (λ s c. swapped m w s) at list → IsAccess v l (bytes_of b) 0 none list →
      ((s : State) → IsState s → s.pc ≡ at → (c turns : ℕ) (k : Locals) →
      list_stored list c (position k turns None s) ≡ addresses (Some (access_of b (place s)))) →
      v + 70 ≤ 4096 → l ≤ (swap m w).cost.loads → IsLifting (arm m V4) RRegisters (swap m w) at (conditional k list)
  lifting v l list runs static places fits loads =
      conditional_lifting m w at v 4096 l (bytes_of b) 0 (λ s c. swapped m w s) (swap m w).stored (swap m w).loaded none false (swap m w).cost.loads
      (swap m w).cost.stores (swap m w).successors (swap m w).literal list runs static
      (λ s is here held c turns k. places s is here c turns k ∙ ap (λ z. addresses (Some z)) (place_is s) ∙ held_stores (holds w s) _ held)
      (λ s h. skipped (holds w s) _ h) (λ t. refl) (λ a h. cc) fits loads
      (let e : bytes_of b ≡ (if is_byte w then 1 else 4) = same_bytes b ∙ ap (λ b. if b then 1 else 4) x.is_byte in omega arith) k code

  -- the registers differ
  abbrev apart_list : Statements
  apart_list = lifts.swap_by false b m n d q

  apart_value : (s : State) → IsState s → (q == d) ≡ false → (c : ℕ) (l : Locals) →
      evaluate (parts.stored b m (own n) (own q)) c (env_of l (set s (taken s))) ≡ Bytes (store_by b m s.mem (place s) (reg s q))
  apart_value s is h c l =
      stored_value b m (own n) (own q) c (place s) (reg s q) (set s (taken s))
      (λ l. own_value (set s (taken s)) n c i.rn.in_range l ∙ word_is 32 _ _ (other s (taken s) n base_apart))
      (λ l. own_value (set s (taken s)) q c i.rm.in_range l ∙ word_is 32 _ _ (other s (taken s) q h)) (small s n is) l

  apart_runs : (q == d) ≡ false → Simulates (λ s c. swapped m w s) at apart_list
  apart_runs h s is here c turns few l = rw (take s c is l) (rw (apart_value s is h c l) (ap (of_row l turns) (row_is s)))

  apart_static : IsAccess 1216 (bytes_of b) (bytes_of b) 0 none apart_list
  apart_static =
      spare _ _ _ _ 1216 (bytes_of b) (bytes_of b) 0 _ _
      (register_access d 544 32 (bytes_of b) (0 + 0) (bytes_of b + 0) 0 (0 + 0) 1216 none _ _ i.rd.in_range loaded
      (stored_access b m 0 0 0 0 0 0 0 0 none _ _ _ base_plain (fetch 32 0 none _ (own_register q none i.rm.in_range)) (empty_access none)) (omega arith))
      (omega arith) (omega arith) (omega arith) (omega arith)

  apart_places : (q == d) ≡ false → (s : State) → IsState s → s.pc ≡ at → (c turns : ℕ) (k : Locals) →
      list_stored apart_list c (position k turns None s) ≡ addresses (Some (access_of b (place s)))
  apart_places h s is here c turns l =
      rw (loaded.stored c (env_of l s), take s c is l) (
      rw (
        stored_places b m (own n) (own q) c (place s) (set s (taken s))
            (λ l. own_value (set s (taken s)) n c i.rn.in_range l ∙ word_is 32 _ _ (other s (taken s) n base_apart)) (small s n is) (λ v. refl) (λ v. refl) l,
        apart_value s is h c l,
      ) (append-nil _)
      )

  loads_apart : (d == q) ≡ false → bytes_of b ≤ (swap m w).cost.loads
  loads_apart h =
      let e : bytes_of b ≡ (if is_byte w then 1 else 4) = same_bytes b ∙ ap (λ b. if b then 1 else 4) x.is_byte in
      let f : (if field_d w == field_m w then 3 * (if is_byte w then 1 else 4) else (if is_byte w then 1 else 4)) ≡ (if is_byte w then 1 else 4)
      = ap (λ t. if t then 3 * (if is_byte w then 1 else 4) else (if is_byte w then 1 else 4))
      (sym (ap (λ d. d == q) x.rd ∙ ap (λ q. field_d w == q) x.rm) ∙ h) in
      at_most _ _ _ e f
    where
      at_most : (u v y : ℕ) → u ≡ v → y ≡ v → u ≤ y
      at_most u v y e f = omega arith

  apart_lifting : (d == q) ≡ false → IsLifting (arm m V4) RRegisters (swap m w) at (conditional k apart_list)
  apart_lifting h =
      let t : (q == d) ≡ false = turned d q h in
      lifting 1216 (bytes_of b) apart_list (apart_runs t) apart_static (apart_places t) (omega arith) (loads_apart h)
    where
      turned : (d q : ℕ) → (d == q) ≡ false → (q == d) ≡ false
      turned d q h = grind (arith, nat_tests)

  -- one register is taken and given
  abbrev same_list : Statements
  same_list = lifts.swap_by true b m n d q

  abbrev sum : State → ℕ
  sum s = add 32 (reg s d) (taken s)

  sum_value : (s : State) → IsState s → (c : ℕ) (l : Locals) → evaluate (Binary bil.Plus (own d) (parts.loaded b m (own n))) c (env_of l s) ≡ Word 32 (sum s)
  sum_value s is c l = rw (own_value s d c i.rd.in_range l, take s c is l) refl

  sum_below : (s : State) → sum s < 2 ^ 32
  sum_below s = omega arith

  taken_below : (s : State) → IsState s → taken s < 2 ^ 32
  taken_below s is = load_by_small b m s.mem (place s) is.mem

  place_kept : (s : State) (v : ℕ) → reg (set s v) n ≡ reg s n
  place_kept s v = other s v n base_apart

  set_reg : (s : State) (v : ℕ) → reg (set s v) d ≡ v
  set_reg s v = own_reg (set s v) d i.rd.in_range ∙ put_same s.regs d v

  -- what is stored is the register as it was
  stored_sum : (s : State) → IsState s → (c : ℕ) → IsWord (Binary bil.Minus (own d) (parts.loaded b m (own n))) c (set s (sum s)) (reg s d)
  stored_sum s is c l =
      let t : State = set s (sum s) in
      rw (own_value t d c i.rd.in_range l, take t c (is_set s (sum s) is (sum_below s)) l) (word_is 32 _ _ (
      ap (λ y. sub 32 y (load_by b m s.mem (place t))) (set_reg s (sum s)) ∙ ap (λ a. sub 32 (sum s) (load_by b m s.mem a)) (place_kept s (sum s))
      ∙ taken_off (reg s d) (taken s) (small s d is) (taken_below s is)
      ))

  same_value : (s : State) → IsState s → (c : ℕ) (l : Locals) →
      evaluate (parts.stored b m (own n) (Binary bil.Minus (own d) (parts.loaded b m (own n)))) c (env_of l (set s (sum s)))
      ≡ Bytes (store_by b m s.mem (place s) (reg s d))
  same_value s is c l =
      stored_value b m (own n) _ c (place s) (reg s d) (set s (sum s))
      (λ l. own_value (set s (sum s)) n c i.rn.in_range l ∙ word_is 32 _ _ (place_kept s (sum s))) (stored_sum s is c) (small s n is) l

  -- the state behind the store
  abbrev given : State → State
  given s = record s { regs = put s.regs d (sum s); mem = store_by b m s.mem (place s) (reg s d) }

  rest_value : (s : State) → IsState s → (c : ℕ) → IsWord (lifts.left_over b m (own d) (own n)) c (given s) (taken s)
  rest_value s is c =
      left_value b m (own d) (own n) c (place s) (reg s d) (taken s) s.mem (given s) refl
      (λ l. own_value (given s) d c i.rd.in_range l ∙ word_is 32 _ _ (set_reg s (sum s)))
      (λ l. own_value (given s) n c i.rn.in_range l ∙ word_is 32 _ _ (place_kept s (sum s))) (small s n is) (small s d is)
      (byte_small b m s.mem (place s) is.mem) (taken_below s is)

  same_runs : q ≡ d → Simulates (λ s c. swapped m w s) at same_list
  same_runs h s is here c turns few l =
      let made : (ℕ → ℕ) → ℕ → State = λ f v. record s { regs = f; mem = store_by b m s.mem (place s) v } in
      rw (sum_value s is c l) (rw (same_value s is c l) (rw (rest_value s is c l) (
      ap (λ f. of_row l turns (on s (made f (reg s d)))) (fun_ext (put_twice s.regs d (sum s) (taken s)))
      ∙ ap (λ v. of_row l turns (on s (made (put s.regs d (taken s)) v))) (ap (reg s) (sym h)) ∙ ap (of_row l turns) (row_is s)
      )))

  own_d : IsPlain 32 0 none (own d)
  own_d = own_register d none i.rd.in_range

  same_static : IsAccess 1472 (bytes_of b + bytes_of b + bytes_of b) (bytes_of b) 0 none same_list
  same_static =
      spare _ _ _ _ 1472 (bytes_of b + bytes_of b + bytes_of b) (bytes_of b) 0 _ _
      (register_access d 608 800 (0 + bytes_of b) ((0 + bytes_of b) + (bytes_of b + 0)) (bytes_of b + 0) (0 + 0) ((0 + 0) + (0 + 0)) 1472 none _ _ i.rd.in_range
      (binary_fetch bil.Plus 32 0 544 0 (bytes_of b) 0 0 608 none _ _ (fetch 32 0 none _ own_d) loaded refl (omega arith))
      (stored_access b m 0 608 160 (0 + bytes_of b) (bytes_of b + 0) 0 (0 + 0) (0 + 0) none _ _ _ base_plain
      (binary_fetch bil.Minus 32 0 544 0 (bytes_of b) 0 0 608 none _ _ (fetch 32 0 none _ own_d) loaded refl (omega arith))
      (register_access d 96 0 (bytes_of b) 0 0 0 0 160 none _ Empty i.rd.in_range (left_fetch b m none _ _ own_d base_plain) (empty_access none) (omega arith)))
      (omega arith))
      (omega arith) (omega arith) (omega arith) (omega arith)

  same_places : (s : State) → IsState s → s.pc ≡ at → (c turns : ℕ) (k : Locals) →
      list_stored same_list c (position k turns None s) ≡ addresses (Some (access_of b (place s)))
  same_places s is here c turns l =
      rw (loaded.stored c (env_of l s), sum_value s is c l) (
      rw (
        stored_places b m (own n) _ c (place s) (set s (sum s))
            (λ l. own_value (set s (sum s)) n c i.rn.in_range l ∙ word_is 32 _ _ (place_kept s (sum s))) (small s n is) (λ v. refl) (λ v. loaded.stored c v) l,
        same_value s is c l,
      ) (
      rw ((left_fetch b m none (own d) (own n) own_d base_plain).stored c _, rest_value s is c l) (append-nil _)
      )
      )

  loads_same : (d == q) ≡ true → bytes_of b + bytes_of b + bytes_of b ≤ (swap m w).cost.loads
  loads_same h =
      let e : bytes_of b ≡ (if is_byte w then 1 else 4) = same_bytes b ∙ ap (λ b. if b then 1 else 4) x.is_byte in
      let f : (if field_d w == field_m w then 3 * (if is_byte w then 1 else 4) else (if is_byte w then 1 else 4)) ≡ 3 * (if is_byte w then 1 else 4)
      = ap (λ t. if t then 3 * (if is_byte w then 1 else 4) else (if is_byte w then 1 else 4))
      (sym (ap (λ d. d == q) x.rd ∙ ap (λ q. field_d w == q) x.rm) ∙ h) in
      at_most _ _ _ e f
    where
      at_most : (u v y : ℕ) → u ≡ v → y ≡ 3 * v → u + u + u ≤ y
      at_most u v y e f = omega arith

  same_lifting : (d == q) ≡ true → IsLifting (arm m V4) RRegisters (swap m w) at (conditional k same_list)
  same_lifting h =
      lifting 1472 (bytes_of b + bytes_of b + bytes_of b) same_list (same_runs (sym (eqb-true d q h))) same_static same_places (omega arith) (loads_same h)

  pub swap_lifting : IsLifting (arm m V4) RRegisters (swap m w) at (conditional k (lifts.swap i m))
  swap_lifting = by (d == q) refl
    where
      by : (t : Bool) → (d == q) ≡ t → IsLifting (arm m V4) RRegisters (swap m w) at (conditional k (lifts.swap_by t b m n d q))
      by true h = same_lifting h
      by false h = apart_lifting h
