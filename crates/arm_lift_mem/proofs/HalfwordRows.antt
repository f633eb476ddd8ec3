-- The lists of LDRH, STRH, LDRSB and LDRSH are liftings of their rows.
use Rattle.std.proofs.Common.{◌≡◌, ℕ, zero, suc, ◌+◌, ◌/◌, ◌%◌, ◌^◌, ◌<◌, ◌≤◌, Bool, true, false, not, ◌&&◌, refl, ap, sym, subst, ◌∙◌, arith, [], ◌++◌, append-nil, Some, None, if◌then◌else◌}
use Rattle.std.specs.Prelude.{◌==◌}
use Rattle.word_spec.specs.Words.{sign_extend}
use Rattle.word_spec.specs.Memory.{Endian, Memory, load, store}
use Rattle.word_spec.specs.State.{State, IsState, put}
use Rattle.machine_spec.specs.Machine.{Outcome, Raises, OddHalfword, addresses}
use Rattle.machine_spec.specs.Arm as rows
use Rattle.word_spec.specs.Profiles.{V4}
use Rattle.machine_spec.specs.Arm.{arm, reg, on, field_d, is_load, is_halfword, writes_back, base_written, halfword_size, halfword_value, halfword_by, halfword_done, halfword_address, halfword_offset, halfword, condition_code, holds, when_stored, none}
use Rattle.machine_spec.specs.Bil.{RRegisters, Mem, CastKind, Expression, Var, Load, Store, Cast, Statements, Empty, Assign}
use Rattle.machine_spec.specs.Bil as bil
use Rattle.machine_spec.specs.BilMeaning.{Word, Bytes, Position, Ends, RaisesException, branch_on, then_do, evaluate, execute}
use Rattle.machine_spec.specs.BilTyping.{cast_fits}
use Rattle.machine_spec.specs.BilStores.{list_stored, then_stored, chosen}
use Rattle.machine_spec.specs.Simulation.{Locals, env_of, position, of_list, of_row, Simulates}
use Rattle.machine_spec.specs.MachineLaws.{IsLifting}
use Rattle.machine_spec.proofs.ArmRanges.{reg_small}
use Rattle.byte_mem.proofs.Numbers.{store_cut}
use Rattle.arm_decode.specs.declared.parts.Condition.{Condition}
use Rattle.arm_decode.specs.declared.parts.Indexing.{Indexing}
use Rattle.arm_decode.specs.declared.parts.HalfwordOp.{HalfwordOp}
use Rattle.arm_decode.specs.declared.parts.HalfwordOp.TheVariants.{Ldrh, Ldrsb, Ldrsh, Strh}
use Rattle.arm_decode.specs.Parts.{condition_number, HasHalfwordOp}
use Rattle.arm_decode.specs.Forms.{IsHalfword}
use Rattle.arm_decode.specs.declared.halfwords.HalfwordFields.{HalfwordFields}
use Rattle.arm_lift_alu.specs.Lifted.{conditional}
use Rattle.arm_lift_alu.specs.Operands.{own, register}
use Rattle.arm_lift_alu.proofs.Plain.{IsPlain, own_register, cast_plain}
use Rattle.arm_lift_alu.proofs.Weights.{register_plain}
use Rattle.arm_lift_mem.specs.Accesses as parts
use Rattle.arm_lift_mem.specs.Halfwords as lifts
use Rattle.arm_lift_alu.proofs.Fetches.{IsFetch, fetch, load_fetch, cast_fetch}
use Rattle.arm_lift_alu.proofs.Accesses.{IsAccess, empty_access, spare, register_access, store_access}
use Rattle.arm_lift_alu.proofs.AccessRows.{conditional_lifting}
use Rattle.arm_lift_mem.proofs.Values.{IsWord, word_is}
use Rattle.arm_lift_mem.proofs.Bases.{based, register_value, address_below, address_value, written_back_runs, written_back_stores, again_value}
use Rattle.arm_lift_mem.proofs.Facts.{halfword_n}
use Rattle.arm_lift_mem.proofs.Parts.{address_plain, again_plain, written_access, unless_access}
use Rattle.arm_lift_mem.proofs.Offsets.{half_plain, half_value, half_below, half_behind}

-- what an access loads, and how many bytes it has
abbrev value_of : HalfwordOp → Endian → Memory → ℕ → ℕ
value_of Ldrh o m a = load o 2 m a
value_of Ldrsb o m a = sign_extend 8 32 (load o 1 m a)
value_of Ldrsh o m a = sign_extend 16 32 (load o 2 m a)
value_of Strh o m a = load o 2 m a

abbrev size_of : HalfwordOp → ℕ
size_of Ldrh = 2
size_of Ldrsb = 1
size_of Ldrsh = 2
size_of Strh = 2

abbrev by_kind : ℕ → Endian → Memory → ℕ → ℕ
by_kind k o m a = if k == 1 then load o 2 m a else if k == 2 then sign_extend 8 32 (load o 1 m a) else sign_extend 16 32 (load o 2 m a)

value_is : (w : ℕ) (p : HalfwordOp) (o : Endian) (m : Memory) (a : ℕ) → HasHalfwordOp w p → value_of p o m a ≡ halfword_value o w m a
value_is w Ldrh o m a h = ap (λ k. by_kind k o m a) (sym h.1)
value_is w Ldrsb o m a h = ap (λ k. by_kind k o m a) (sym h.1)
value_is w Ldrsh o m a h = ap (λ k. by_kind k o m a) (sym h.1)
value_is w Strh o m a h = ap (λ k. by_kind k o m a) (sym h.1)

size_is : (w : ℕ) (p : HalfwordOp) → HasHalfwordOp w p → size_of p ≡ halfword_size w
size_is w Ldrh h = ap (λ k. if k == 2 then 1 else 2) (sym h.1)
size_is w Ldrsb h = ap (λ k. if k == 2 then 1 else 2) (sym h.1)
size_is w Ldrsh h = ap (λ k. if k == 2 then 1 else 2) (sym h.1)
size_is w Strh h = ap (λ k. if k == 2 then 1 else 2) (sym h.1)

-- an exception where an address is odd, or what comes behind the test
odd_ends : (z : ℕ) (p : Position) (rest : Statements) (c turns : ℕ) (l : Locals) (outcome : Bool → Outcome) → z < 2 → outcome false ≡ Raises OddHalfword →
    ((z == 0) ≡ true → of_list (execute rest c p) ≡ of_row l turns (outcome true)) →
    of_list (then_do (branch_on (Word 1 z) (RaisesException 4 p) (Ends p)) (execute rest c)) ≡ of_row l turns (outcome (z == 0))
odd_ends zero p rest c turns l outcome few odd even = even refl
odd_ends (suc zero) p rest c turns l outcome few odd even = sym (ap (of_row l turns) odd)
odd_ends (suc (suc z)) p rest c turns l outcome few odd even = absurd (omega arith)

-- what is stored behind the test
odd_stores : (z : ℕ) (p : Position) (rest : Statements) (c : ℕ) (b : Bool) (x : ℕ × ℕ) → z < 2 → b ≡ true →
    ((z == 0) ≡ true → list_stored rest c p ≡ addresses (Some x)) →
    chosen (Word 1 z) [] [] ++ then_stored (branch_on (Word 1 z) (RaisesException 4 p) (Ends p)) (list_stored rest c)
    ≡ addresses (when_stored (b && (z == 0)) x)
odd_stores zero p rest c b x few held even = rw held (even refl)
odd_stores (suc zero) p rest c b x few held even = rw held refl
odd_stores (suc (suc z)) p rest c b x few held even = absurd (omega arith)

below_2 : (a : ℕ) → a % 2 ^ 1 < 2
below_2 a = omega arith

one_divides : (a : ℕ) → (a % 1 == 0) ≡ true
one_divides a = let z : a % 1 ≡ 0 = omega arith in rw z refl

none_stored : (b a c : Bool) (x : ℕ × ℕ) → a ≡ true → addresses (when_stored (b && not a && c) x) ≡ []
none_stored true a c x h = rw h refl
none_stored false a c x h = refl

skipped : (b a c : Bool) (x : ℕ × ℕ) → b ≡ false → addresses (when_stored (b && a && c) x) ≡ []
skipped b a c x h = rw h refl

loads_of : (b : Bool) (n k : ℕ) → b ≡ true → k ≡ n → k ≤ (if b then n else 0)
loads_of true n k h e = omega arith
loads_of false n k h e = cc

stores_of : (b : Bool) → b ≡ false → 2 ≤ (if b then 0 else 2)
stores_of true h = cc
stores_of false h = omega arith

module _ (m : Endian) (w at : ℕ) (k : Condition) (i : HalfwordFields) (code : condition_number k ≡ condition_code w) (x : IsHalfword w i)
    (row : is_halfword w ≡ true) where
  abbrev index : Indexing
  index = i.addressing.indexing

  abbrev up : Bool
  up = i.addressing.is_up

  abbrev n : ℕ
  n = i.rn.number

  abbrev d : ℕ
  d = i.rd.number

  abbrev base : Expression
  base = register n at

  abbrev offset : Expression
  offset = lifts.offset_of i.offset at

  abbrev moved_by : State → ℕ
  moved_by s = halfword_offset w s

  abbrev place : State → ℕ
  place s = rows.address w (reg s n) (moved_by s)

  small_base : writes_back w ≡ true → n < 15
  small_base h = subst (λ (z : ℕ). z < 15) (sym x.rn) (halfword_n w row h)

  base_plain : IsPlain 32 0 none base
  base_plain = register_plain n at none i.rn.in_range

  moved_plain : IsPlain 32 0 none offset
  moved_plain = half_plain w i.offset at x.offset

  same_address : (s : State) → place s ≡ halfword_address w s
  same_address s = ap (λ r. rows.address w (reg s r) (moved_by s)) x.rn

  place_below : (s : State) → IsState s → place s < 2 ^ 32
  place_below s is = address_below w (reg s n) (moved_by s) (reg_small s n is)

  offset_is : (c : ℕ) (s : State) → s.pc ≡ at → IsWord offset c s (moved_by s)
  offset_is c s here = half_value w at i.offset c s here x.offset

  place_value : (c : ℕ) (s : State) → s.pc ≡ at → IsWord (lifts.place i base offset) c s (place s)
  place_value c s here =
      address_value w index up base offset c (reg s n) (moved_by s) s x.addressing.1 x.addressing.0 (register_value s n at c here) (offset_is c s here)

  again : (c : ℕ) (s : State) → IsState s → s.pc ≡ at → IsWord (lifts.place_again i base offset) c (based w s (moved_by s)) (place s)
  again c s is here =
      again_value w at index up n offset (moved_by s) c s x.addressing.1 x.addressing.0 x.rn small_base is here (half_below w s is)
      (λ l. half_value w at i.offset c (based w s (moved_by s)) here x.offset l ∙ word_is 32 _ _ (half_behind w s (moved_by s) row))

  address : IsPlain 32 64 none (lifts.place i base offset)
  address = address_plain index up 0 none base offset base_plain moved_plain

  address_again : IsPlain 32 64 none (lifts.place_again i base offset)
  address_again = again_plain index up 0 none base offset base_plain moved_plain

  odd_plain : IsPlain 1 64 none (lifts.is_odd (lifts.place i base offset))
  odd_plain = cast_plain bil.Low 1 32 64 none _ address refl

  lifting : (l t : ℕ) (list : Statements) → Simulates (λ s c. halfword_done m w s) at list → IsAccess 600 l t 0 none list →
      ((s : State) → IsState s → s.pc ≡ at → holds w s ≡ true → (c turns : ℕ) (k : Locals) →
      list_stored list c (position k turns None s) ≡ addresses ((halfword m w).stored s)) →
      l ≤ (halfword m w).cost.loads → t ≤ (halfword m w).cost.stores → IsLifting (arm m V4) RRegisters (halfword m w) at (conditional k list)
  lifting l t list runs static places loads stores =
      conditional_lifting m w at 600 4096 l t 0 (λ s c. halfword_done m w s) (halfword m w).stored (halfword m w).loaded none false
      (halfword m w).cost.loads (halfword m w).cost.stores (halfword m w).successors (halfword m w).literal list runs static places
      (λ s h. skipped (holds w s) (not (is_load w)) (halfword_address w s % 2 == 0) (halfword_address w s, 2) h) (λ t. refl) (λ a h. cc)
      (omega arith) loads stores k code

  -- the row, where the address may be odd
  abbrev outcome : Bool → State → Bool → Outcome
  outcome load s even = halfword_by even load m w s

  row_by : (p : HalfwordOp) (load : Bool) (s : State) → HasHalfwordOp w p → is_load w ≡ load →
      halfword_by (place s % size_of p == 0) load m w s ≡ halfword_done m w s
  row_by p load s h e =
      ap (λ a. halfword_by (a % size_of p == 0) load m w s) (same_address s) ∙ ap (λ z. halfword_by (halfword_address w s % z == 0) load m w s) (size_is w p h)
      ∙ ap (λ b. halfword_by (halfword_address w s % halfword_size w == 0) b m w s) (sym e)

  -- a load
  load_runs : (p : HalfwordOp) (e : Expression) → HasHalfwordOp w p → (s : State) → IsState s → s.pc ≡ at → (c turns : ℕ) (l : Locals) →
      evaluate e c (env_of l (based w s (moved_by s))) ≡ Word 32 (value_of p m s.mem (place s)) →
      of_list (execute (lifts.load_list i e offset) c (position l turns None s)) ≡ of_row l turns (halfword_by true true m w s)
  load_runs p e h s is here c turns l v =
      let made : ℕ → ℕ → State = λ d a. record s { regs = put (base_written w s (moved_by s)) d a } in
      ap of_list (written_back_runs w index up n offset (moved_by s) c turns l None s _ x.addressing.1 x.addressing.0 x.rn (offset_is c s here))
      ∙ rw v (
      ap (λ d. of_row l turns (on s (made d (value_of p m s.mem (place s))))) x.rd
      ∙ ap (λ a. of_row l turns (on s (made (field_d w) a))) (value_is w p m s.mem (place s) h ∙ ap (halfword_value m w s.mem) (same_address s))
      )

  load_static : (l : ℕ) (e : Expression) → IsFetch 32 64 l 0 none e → IsAccess 256 l 0 0 none (lifts.load_list i e offset)
  load_static l e p =
      spare _ _ _ _ 256 l 0 0 _ _
      (written_access w index up n 0 128 (l + 0) 0 0 none offset _ x.addressing.1 small_base moved_plain
      (register_access d 64 0 l 0 0 0 0 128 none e Empty i.rd.in_range p (empty_access none) (omega arith)))
      (omega arith) (omega arith) (omega arith) (omega arith)

  -- a load of a halfword, by the cast to a word
  abbrev half_expression : CastKind → Expression
  half_expression g = Cast g 32 (Load (Var Mem) (lifts.place_again i base offset) m 16)

  half_runs : (p : HalfwordOp) (g : CastKind) → HasHalfwordOp w p → size_of p ≡ 2 → is_load w ≡ true →
      ((s : State) → IsState s → s.pc ≡ at → (c : ℕ) (l : Locals) →
      evaluate (half_expression g) c (env_of l (based w s (moved_by s))) ≡ Word 32 (value_of p m s.mem (place s))) →
      Simulates (λ s c. halfword_done m w s) at (parts.unless (lifts.is_odd (lifts.place i base offset)) 4 (lifts.load_list i (half_expression g) offset))
  half_runs p g h two e v s is here c turns few l =
      rw (place_value c s here l) (
      odd_ends (place s % 2 ^ 1) (position l turns None s) (lifts.load_list i (half_expression g) offset) c turns l (outcome true s) (below_2 (place s)) refl
      (λ t. load_runs p (half_expression g) h s is here c turns l (v s is here c l))
      ∙ ap (of_row l turns) (ap (λ z. halfword_by (place s % z == 0) true m w s) (sym two) ∙ row_by p true s h e)
      )

  half_static : (g : CastKind) → IsFetch 32 64 2 0 none (half_expression g) →
      IsAccess 600 2 0 0 none (parts.unless (lifts.is_odd (lifts.place i base offset)) 4 (lifts.load_list i (half_expression g) offset))
  half_static g p =
      unless_access 4 64 256 2 0 0 600 none _ _ odd_plain (load_static 2 (half_expression g) p) (omega arith)

  no_places : (l : ℕ) (list : Statements) → IsAccess 600 l 0 0 none list → is_load w ≡ true → (s : State) → (c turns : ℕ) (k : Locals) →
      list_stored list c (position k turns None s) ≡ addresses ((halfword m w).stored s)
  no_places l list static e s c turns k =
      static.stored refl c _ ∙ sym (none_stored (holds w s) (is_load w) (halfword_address w s % 2 == 0) (halfword_address w s, 2) e)

  half_fetch : (g : CastKind) → (cast_fits g 32 16 && true) ≡ true → IsFetch 32 64 2 0 none (half_expression g)
  half_fetch g fits = cast_fetch g 32 16 64 2 0 none _ (load_fetch 16 64 m none _ address_again refl) fits

  half_lifting : (p : HalfwordOp) (g : CastKind) → HasHalfwordOp w p → size_of p ≡ 2 → is_load w ≡ true → IsFetch 32 64 2 0 none (half_expression g) →
      ((s : State) → IsState s → s.pc ≡ at → (c : ℕ) (l : Locals) →
      evaluate (half_expression g) c (env_of l (based w s (moved_by s))) ≡ Word 32 (value_of p m s.mem (place s))) →
      IsLifting (arm m V4) RRegisters (halfword m w) at
      (conditional k (parts.unless (lifts.is_odd (lifts.place i base offset)) 4 (lifts.load_list i (half_expression g) offset)))
  half_lifting p g h two e f v =
      lifting 2 0 _ (half_runs p g h two e v) (half_static g f) (λ s is here held c turns k. no_places 2 _ (half_static g f) e s c turns k)
      (loads_of (is_load w) (halfword_size w) 2 e (sym two ∙ size_is w p h)) (omega arith)

  -- a load of a signed byte
  abbrev byte_expression : Expression
  byte_expression = Cast bil.Signed 32 (Load (Var Mem) (lifts.place_again i base offset) m 8)

  byte_runs : HasHalfwordOp w Ldrsb → Simulates (λ s c. halfword_done m w s) at (lifts.load_list i byte_expression offset)
  byte_runs h s is here c turns few l =
      load_runs Ldrsb byte_expression h s is here c turns l (rw (again c s is here l) refl)
      ∙ ap (of_row l turns) (ap (λ b. halfword_by b true m w s) (sym (one_divides (place s))) ∙ row_by Ldrsb true s h h.0)

  byte_static : IsAccess 600 1 0 0 none (lifts.load_list i byte_expression offset)
  byte_static =
      spare _ _ _ _ 600 1 0 0 _ _ (load_static 1 byte_expression (cast_fetch bil.Signed 32 8 64 1 0 none _ (load_fetch 8 64 m none _ address_again refl) refl))
      (omega arith) (omega arith) (omega arith) (omega arith)

  byte_lifting : HasHalfwordOp w Ldrsb → IsLifting (arm m V4) RRegisters (halfword m w) at (conditional k (lifts.load_list i byte_expression offset))
  byte_lifting h =
      lifting 1 0 _ (byte_runs h) byte_static (λ s is here held c turns k. no_places 1 _ byte_static h.0 s c turns k)
      (loads_of (is_load w) (halfword_size w) 1 h.0 (size_is w Ldrsb h)) (omega arith)

  -- a store
  abbrev write_list : Statements
  write_list =
      Assign Mem (Store (Var Mem) (lifts.place i base offset) m 16 (Cast bil.Low 16 (own d))) (parts.written_back index up n offset Empty)

  write_value : (c : ℕ) (s : State) → s.pc ≡ at → (l : Locals) →
      evaluate (Store (Var Mem) (lifts.place i base offset) m 16 (Cast bil.Low 16 (own d))) c (env_of l s) ≡ Bytes (store m 2 s.mem (place s) (s.regs d))
  write_value c s here l = rw (place_value c s here l) (ap Bytes (store_cut m 2 s.mem (place s) (s.regs d)))

  abbrev written : State → State
  written s = record s { mem = store m 2 s.mem (place s) (s.regs d) }

  write_runs : (s : State) → s.pc ≡ at → (c turns : ℕ) (l : Locals) →
      of_list (execute write_list c (position l turns None s)) ≡ of_row l turns (halfword_by true false m w s)
  write_runs s here c turns l =
      let made : ℕ → ℕ → State = λ a d. record s { regs = base_written w s (moved_by s); mem = store m 2 s.mem a (s.regs d) } in
      rw (write_value c s here l) (
      ap of_list (written_back_runs w index up n offset (moved_by s) c turns l None (written s) Empty x.addressing.1 x.addressing.0 x.rn (offset_is c
      (written s) here))
      ∙ ap (λ a. of_row l turns (on s (made a d))) (same_address s) ∙ ap (λ d. of_row l turns (on s (made (halfword_address w s) d))) x.rd
      )

  store_runs : HasHalfwordOp w Strh →
      Simulates (λ s c. halfword_done m w s) at (parts.unless (lifts.is_odd (lifts.place i base offset)) 4 write_list)
  store_runs h s is here c turns few l =
      rw (place_value c s here l) (
      odd_ends (place s % 2 ^ 1) (position l turns None s) write_list c turns l (outcome false s) (below_2 (place s)) refl
      (λ t. write_runs s here c turns l) ∙ ap (of_row l turns) (row_by Strh false s h h.0)
      )

  store_static : IsAccess 600 0 2 0 none (parts.unless (lifts.is_odd (lifts.place i base offset)) 4 write_list)
  store_static =
      spare _ _ _ _ 600 0 2 0 _ _
      (unless_access 4 64 192 (0 + 0) (16 / 8 + 0) (0 + 0) 600 none _ _ odd_plain
      (store_access 16 64 0 128 0 0 0 0 0 192 m none _ _ _ address (fetch 16 0 none _ (cast_plain bil.Low 16 32 0 none _
      (own_register d none i.rd.in_range) refl))
      (written_access w index up n 0 0 0 0 0 none offset Empty x.addressing.1 small_base moved_plain (empty_access none)) (omega arith) refl refl (omega arith))
      (omega arith))
      (omega arith) (omega arith) (omega arith) (omega arith)

  write_places : (s : State) → s.pc ≡ at → (c turns : ℕ) (l : Locals) → list_stored write_list c (position l turns None s) ≡ addresses (Some (place s, 2))
  write_places s here c turns l =
      rw (
        address.stored c (env_of l s),
        write_value c s here l,
        place_value c s here l,
        written_back_stores w index up n offset (moved_by s) c turns l None (written s) Empty x.addressing.1 x.addressing.0 x.rn (offset_is c
            (written s) here) (moved_plain.stored c),
      ) (append-nil _)

  store_places : is_load w ≡ false → (s : State) → s.pc ≡ at → holds w s ≡ true → (c turns : ℕ) (l : Locals) →
      list_stored (parts.unless (lifts.is_odd (lifts.place i base offset)) 4 write_list) c (position l turns None s) ≡ addresses ((halfword m w).stored s)
  store_places e s here held c turns l =
      rw (address.stored c (env_of l s), place_value c s here l) (
      odd_stores (place s % 2 ^ 1) (position l turns None s) write_list c (holds w s && not (is_load w)) (place s, 2) (below_2 (place s)) (rw (held, e) refl)
      (λ t. write_places s here c turns l)
      ∙ ap (λ a. addresses (when_stored (holds w s && not (is_load w) && (a % 2 == 0)) (a, 2))) (same_address s)
      )

  store_lifting : HasHalfwordOp w Strh →
      IsLifting (arm m V4) RRegisters (halfword m w) at (conditional k (parts.unless (lifts.is_odd (lifts.place i base offset)) 4 write_list))
  store_lifting h =
      lifting 0 2 _ (store_runs h) store_static (λ s is here held c turns k. store_places h.0 s here held c turns k) (omega arith) (stores_of (is_load w) h.0)

  pub halfword_lifting : IsLifting (arm m V4) RRegisters (halfword m w) at (conditional k (lifts.halfword i m at))
  halfword_lifting = by i.op x.op
    where
      by : (p : HalfwordOp) → HasHalfwordOp w p → IsLifting (arm m V4) RRegisters (halfword m w) at (conditional k (lifts.access_by p i m base offset))
      by Ldrh h = half_lifting Ldrh bil.Unsigned h refl h.0 (half_fetch bil.Unsigned refl) (λ s is here c l. rw (again c s is here l) refl)
      by Ldrsb h = byte_lifting h
      by Ldrsh h = half_lifting Ldrsh bil.Signed h refl h.0 (half_fetch bil.Signed refl) (λ s is here c l. rw (again c s is here l) refl)
      by Strh h = store_lifting h
