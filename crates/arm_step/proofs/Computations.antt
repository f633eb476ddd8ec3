-- Steps of data processing and of multiplies, by the states between.
use Rattle.std.proofs.Common.{◌≡◌, ℕ, ◌/◌, ◌%◌, ◌^◌, ap, subst, ◌∙◌, Bool, true, false, arith}
use Rattle.std.specs.Prelude.{◌==◌, if◌then◌else◌}
use Rattle.std.specs.Int.Count.{count_leading_zeros}
use Rattle.std.proofs.Math.Nat.{div-div-eq-div-mul}
use Rattle.word_spec.specs.Words.{add, bit, bit_at}
use Rattle.word_spec.specs.State.{State, put, with_pc, flag_c, flag_v}
use Rattle.machine_spec.specs.Machine.{Outcome}
use Rattle.machine_spec.specs.Arm.{Shifted, Result, reg, results, result_at, operand, opcode, is_test, sets_flags, with_flags, flags_of, computed, write, field_n, field_d, field_m, multiplied, multiplied_long, counted}
use Rattle.byte_mem.specs.declared.StepOut.{StepOut}
use Rattle.byte_mem.specs.declared.StepOut.TheVariants.{Next}
use Rattle.byte_mem.specs.Views.{IsStep}
use Rattle.arm_step.specs.Parts.{short_product, long_product}

-- flags that are set from equal parts
pub flags_from : (g : ℕ → ℕ) (a b : Bool) (n m z y c d v u : ℕ) → a ≡ b → n ≡ m → z ≡ y → c ≡ d → v ≡ u →
    (if a then with_flags g n z c v else g) ≡ (if b then with_flags g m y d u else g)
flags_from g a b n m z y c d v u e h i j k =
    let f : Bool → ℕ → ℕ → ℕ → ℕ → ℕ → ℕ = λ a n z c v. if a then with_flags g n z c v else g in
    ap (λ a. f a n z c v) e ∙ ap (λ n. f b n z c v) h ∙ ap (λ z. f b m z c v) i ∙ ap (λ c. f b m y c v) j ∙ ap (f b m y d) k

-- bits 24 to 23 are the upper half of the opcode
pub test_of : (w k : ℕ) (t : Bool) → k ≡ opcode w → t ≡ (k / 4 == 2) → t ≡ is_test w
test_of w k t e h =
    let q = div-div-eq-div-mul w 2097152 4 in
    let p : w / 2097152 % 16 / 4 ≡ w / 8388608 % 4 = omega arith in
    h ∙ ap (λ k. k / 4 == 2) e ∙ ap (λ x. x == 2) p

-- the result of an opcode from its parts
pub result_from : (w : ℕ) (s : State) (made : Result) (x k : ℕ) (o : Shifted) → made ≡ result_at (results s x o) k → x ≡ reg s (field_n w) → o ≡ operand w s →
    k ≡ opcode w →
    made ≡ result_at (results s (reg s (field_n w)) (operand w s)) (opcode w)
result_from w s made x k o h a b c =
    h ∙ ap (λ x. result_at (results s x o) k) a ∙ ap (λ o. result_at (results s (reg s (field_n w)) o) k) b
    ∙ ap (result_at (results s (reg s (field_n w)) (operand w s))) c

abbrev result_in : ℕ → State → Result
result_in w s = result_at (results s (reg s (field_n w)) (operand w s)) (opcode w)

abbrev flagged : ℕ → State → Result → State
flagged w s r = record s { flags = flags_of w s r }

-- a test goes on with its flags
pub tested : (w : ℕ) (s mid new : State) (out : StepOut) (made : Result) → is_test w ≡ true → made ≡ result_in w s → mid ≡ flagged w s made →
    new ≡ with_pc mid (add 32 mid.pc 4) → out ≡ Next → IsStep s new out (computed w s)
tested w s mid new out made t e m h o =
    rw t (h ∙ ap (λ t. with_pc t (add 32 t.pc 4)) (m ∙ ap (flagged w s) e), o)

-- any other opcode writes a register
pub computes : (w : ℕ) (s mid new : State) (out : StepOut) (made : Result) (rd : ℕ) → is_test w ≡ false → made ≡ result_in w s → mid ≡ flagged w s made →
    rd ≡ field_d w → IsStep s new out (write s mid rd made.value) → IsStep s new out (computed w s)
computes w s mid new out made rd t e m d h =
    let same : write s mid rd made.value ≡ write s (flagged w s (result_in w s)) (field_d w) (result_in w s).value =
    ap (λ x. write s x rd made.value) (m ∙ ap (flagged w s) e) ∙ ap (λ r. write s (flagged w s (result_in w s)) r made.value) d
    ∙ ap (λ r. write s (flagged w s (result_in w s)) (field_d w) r.value) e in
    rw t (subst (λ (o : Outcome). IsStep s new out o) same h)

-- flags, a register, and the next address
pub set_and_on : (s mid last new : State) (f g : ℕ → ℕ) (r d v u : ℕ) → mid ≡ record s { flags = f } → last ≡ record mid { regs = put mid.regs r v } →
    new ≡ with_pc last (add 32 last.pc 4) → f ≡ g → r ≡ d → v ≡ u →
    new ≡ with_pc (record s { regs = put s.regs d u; flags = g }) (add 32 s.pc 4)
set_and_on s mid last new f g r d v u a b h i j k =
    let made : (ℕ → ℕ) → ℕ → ℕ → State = λ f r v. with_pc (record s { regs = put s.regs r v; flags = f }) (add 32 s.pc 4) in
    h ∙ ap (λ t. with_pc t (add 32 t.pc 4)) (b ∙ ap (λ t. let x : State = record t { regs = put t.regs r v } in x) a)
    ∙ ap (λ f. made f r v) i ∙ ap (λ r. made g r v) j ∙ ap (made g d) k

-- a flag that is kept, or that is drawn
pub kept_flag : (keeps : Bool) (r o d x y : ℕ) → r ≡ (if keeps then o else d) → o ≡ x → d ≡ y → r ≡ (if keeps then x else y)
kept_flag true r o d x y e p q = e ∙ p
kept_flag false r o d x y e p q = e ∙ q

pub counts : (w v rd : ℕ) (s last new : State) (out : StepOut) → last ≡ record s { regs = put s.regs rd (count_leading_zeros 32 v) } →
    new ≡ with_pc last (add 32 last.pc 4) → out ≡ Next → rd ≡ field_d w → v ≡ reg s (field_m w) → IsStep s new out (counted w s)
counts w v rd s last new out a h o r m =
    let made : ℕ → ℕ → State = λ r v. with_pc (record s { regs = put s.regs r (count_leading_zeros 32 v) }) (add 32 s.pc 4) in
    (h ∙ ap (λ t. with_pc t (add 32 t.pc 4)) a ∙ ap (λ r. made r v) r ∙ ap (made (field_d w)) m, o)

pub multiplies : (keeps : Bool) (w c : ℕ) (s mid last new : State) (out : StepOut) (sets : Bool) (n z y v rd value : ℕ) →
    mid ≡ record s { flags = (if sets then with_flags s.flags n z y v else s.flags) } → last ≡ record mid { regs = put mid.regs rd value } →
    new ≡ with_pc last (add 32 last.pc 4) → out ≡ Next → sets ≡ sets_flags w → n ≡ bit_at 31 value → z ≡ bit (value == 0) → y ≡ (if keeps then s.flags flag_c else bit_at 0 c) →
    v ≡ s.flags flag_v →
    rd ≡ field_n w → value ≡ short_product w s → IsStep s new out (multiplied keeps w s c)
multiplies keeps w c s mid last new out sets n z y v rd value a b h o i j k l m r e =
    let x = short_product w s in
    let carry : ℕ = if keeps then s.flags flag_c else bit_at 0 c in (
      set_and_on s mid last new _ (if sets_flags w then with_flags s.flags (bit_at 31 x) (bit (x == 0)) carry (s.flags flag_v)
          else s.flags) rd (field_n w) value x a b h
          (flags_from s.flags sets (sets_flags w) n (bit_at 31 x) z (bit (x == 0)) y carry v (s.flags flag_v) i (j ∙ ap (bit_at 31) e) (k ∙ ap
          (λ t. bit (t == 0)) e) l m) r e,
      o,
    )

pub multiplies_long : (keeps : Bool) (w c : ℕ) (s mid low last new : State) (out : StepOut) (sets : Bool) (n z y v lower upper value : ℕ) →
    mid ≡ record s { flags = (if sets then with_flags s.flags n z y v else s.flags) } → low ≡ record mid { regs = put mid.regs lower (value % 2 ^ 32) } →
    last ≡ record low { regs = put low.regs upper (value / 2 ^ 32) } →
    new ≡ with_pc last (add 32 last.pc 4) → out ≡ Next → sets ≡ sets_flags w → n ≡ bit_at 63 value → z ≡ bit (value == 0) →
    y ≡ (if keeps then s.flags flag_c else bit_at 0 c) → v ≡ (if keeps then s.flags flag_v else bit_at 1 c) →
    lower ≡ field_d w → upper ≡ field_n w → value ≡ long_product w s → IsStep s new out (multiplied_long keeps w s c)
multiplies_long keeps w c s mid low last new out sets n z y v lower upper value a q b h o i j k l m p r e =
    let x = long_product w s in
    let carry : ℕ = if keeps then s.flags flag_c else bit_at 0 c in
    let overflow : ℕ = if keeps then s.flags flag_v else bit_at 1 c in
    let made : (ℕ → ℕ) → ℕ → ℕ → ℕ → State =
    λ f d u v. with_pc (record s { regs = put (put s.regs d (v % 2 ^ 32)) u (v / 2 ^ 32); flags = f }) (add 32 s.pc 4) in
    let f : ℕ → ℕ = if sets then with_flags s.flags n z y v else s.flags in
    let g : ℕ → ℕ = if sets_flags w then with_flags s.flags (bit_at 63 x) (bit (x == 0)) carry overflow else s.flags in
    let same : f ≡ g = flags_from s.flags sets (sets_flags w) n (bit_at 63 x) z (bit (x == 0)) y carry v overflow i (j ∙ ap (bit_at 63) e) (k ∙ ap
    (λ t. bit (t == 0)) e) l m in (
      h ∙ ap (λ t. with_pc t (add 32 t.pc 4)) (b ∙ ap (λ t. let x : State = record t { regs = put t.regs upper (value / 2 ^ 32) } in x)
          (q ∙ ap (λ t. let x : State = record t { regs = put t.regs lower (value % 2 ^ 32) } in x) a))
          ∙ ap (λ f. made f lower upper value) same ∙ ap (λ d. made g d upper value) p ∙ ap
          (λ u. made g (field_d w) u value) r ∙ ap (made g (field_d w) (field_n w)) e,
      o,
    )
