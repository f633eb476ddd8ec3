-- Steps of accesses to one place, by the states between.
use Rattle.std.proofs.Common.{◌≡◌, ℕ, ◌%◌, ◌<◌, refl, ap, sym, subst, ◌∙◌, Bool, true, false, arith}
use Rattle.std.specs.Prelude.{◌==◌, ◌&&◌, ◌||◌, not}
use Rattle.std.proofs.lemmas.Bool.Decides.{nat_tests}
use Rattle.word_spec.specs.Words.{add, bits}
use Rattle.word_spec.specs.Memory.{Endian, store}
use Rattle.word_spec.specs.State.{State, put, with_pc}
use Rattle.machine_spec.specs.Machine.{Outcome}
use Rattle.machine_spec.specs.Arm.{reg, field_n, field_d, field_m, is_byte, is_load, is_pre, bit_i, bit_w, has_offset, is_bad_base, writes_back, is_transfer, is_halfword, load_by, store_by, swapped, base_written, write, word_loaded, loaded_by, stored, stored_reg, transfer_address, transfer_offset, halfword_by, halfword_done, halfword_offset, halfword_address, halfword_size, halfword_value}
use Rattle.byte_mem.specs.declared.StepOut.{StepOut}
use Rattle.byte_mem.specs.declared.StepOut.TheVariants.{Next}
use Rattle.byte_mem.specs.Views.{IsStep}

-- the base that is written back is not the program counter
base_register : (a b t r q : Bool) (n : ℕ) → n < 16 → not ((a || b) || (t && (((n == 15) || r) || q))) ≡ true → t ≡ true → n < 15
base_register a b t r q n l h e = grind (arith, nat_tests)

left : (a b : Bool) → (a && b) ≡ true → a ≡ true
left true b h = refl
left false b h = cc

right : (a b : Bool) → (a && b) ≡ true → b ≡ true
right true b h = h
right false b h = cc

under_16 : (a : ℕ) → a % 16 < 16
under_16 a = omega arith

good_base : (w : ℕ) (by : Bool) → not (is_bad_base w by) ≡ true → writes_back w ≡ true → field_n w < 15
good_base w by h t =
    base_register (not (is_pre w) && bit_w w) (by && (field_m w == 15)) (writes_back w) (field_n w == field_d w) (by &&
    (field_n w == field_m w)) (bits 19 16 w) (under_16 _) h t

pub transfer_n : (w : ℕ) → is_transfer w ≡ true → writes_back w ≡ true → field_n w < 15
transfer_n w h t = good_base w (bit_i w) (right _ _ (left _ _ h)) t

pub halfword_n : (w : ℕ) → is_halfword w ≡ true → writes_back w ≡ true → field_n w < 15
halfword_n w h t = good_base w (not (has_offset w)) (right _ _ (left _ _ (left _ _ h))) t

-- a state with a base, a register and the next address
abbrev next_of : State → State
next_of t = with_pc t (add 32 t.pc 4)

pub swaps : (w : ℕ) (e : Endian) (s mid last new : State) (out : StepOut) (b : Bool) (a v x rd : ℕ) →
    mid ≡ record s { mem = store_by b e s.mem a v } → last ≡ record mid { regs = put mid.regs rd x } → new ≡ next_of last → out ≡ Next →
    b ≡ is_byte w → a ≡ reg s (field_n w) → v ≡ reg s (field_m w) → x ≡ load_by b e s.mem a → rd ≡ field_d w → IsStep s new out (swapped e w s)
swaps w e s mid last new out b a v x rd h i j o eb ea ev ex ed =
    let made : Bool → ℕ → ℕ → ℕ → ℕ → State = λ b a v x rd. with_pc (record s { regs = put s.regs rd x; mem = store_by b e s.mem a v }) (add 32 s.pc 4) in
    let loaded : x ≡ load_by (is_byte w) e s.mem (reg s (field_n w)) = ex ∙ ap (λ b. load_by b e s.mem a) eb ∙ ap (load_by (is_byte w) e s.mem) ea in (
      j ∙ ap next_of (i ∙ ap (λ t. let y : State = record t { regs = put t.regs rd x } in y) h)
          ∙ ap (λ b. made b a v x rd) eb ∙ ap (λ a. made (is_byte w) a v x rd) ea ∙ ap (λ v. made (is_byte w) (reg s (field_n w)) v x rd) ev
          ∙ ap (λ x. made (is_byte w) (reg s (field_n w)) (reg s (field_m w)) x rd) loaded
          ∙ ap (made (is_byte w) (reg s (field_n w)) (reg s (field_m w)) (load_by (is_byte w) e s.mem (reg s (field_n w)))) ed,
      o,
    )

pub loads : (w : ℕ) (e : Endian) (s mid new : State) (out : StepOut) (u b : Bool) (a x rd offset : ℕ) → u ≡ false → u ≡ ((rd == 15) && not (a % 4 == 0)) →
    rd ≡ field_d w → a ≡ transfer_address w s → x ≡ load_by b e s.mem a → b ≡ is_byte w → offset ≡ transfer_offset w s →
    mid ≡ record s { regs = base_written w s offset } → IsStep s new out (write s mid rd x) → IsStep s new out (word_loaded e w s)
loads w e s mid new out u b a x rd offset n t d ea ex eb eo m h =
    let made : ℕ → State = λ offset. record s { regs = base_written w s offset } in
    let even : ((field_d w == 15) && not (transfer_address w s % 4 == 0)) ≡ false =
    ap (λ a. (field_d w == 15) && not (a % 4 == 0)) (sym ea) ∙ ap (λ d. (d == 15) && not (a % 4 == 0)) (sym d) ∙ sym t ∙ n in
    let loaded : x ≡ load_by (is_byte w) e s.mem (transfer_address w s) = ex ∙ ap (λ b. load_by b e s.mem a) eb ∙ ap (load_by (is_byte w) e s.mem) ea in
    let same : write s mid rd x ≡ loaded_by false e w s =
    ap (λ t. write s t rd x) (m ∙ ap made eo) ∙ ap (λ d. write s (made (transfer_offset w s)) d x) d ∙ ap
    (write s (made (transfer_offset w s)) (field_d w)) loaded in
    rw even (subst (λ (y : Outcome). IsStep s new out y) same h)

pub stores : (w : ℕ) (e : Endian) (s : State) (c : ℕ) (mid last new : State) (out : StepOut) (b : Bool) (a v offset : ℕ) →
    mid ≡ record s { mem = store_by b e s.mem a v } → last ≡ record mid { regs = base_written w mid offset } → new ≡ next_of last → out ≡ Next →
    b ≡ is_byte w → a ≡ transfer_address w s → v ≡ stored_reg s c (field_d w) → offset ≡ transfer_offset w s → IsStep s new out (stored e w s c)
stores w e s c mid last new out b a v offset h i j o eb ea ev eo =
    let made : Bool → ℕ → ℕ → ℕ → State = λ b a v offset. with_pc (record s { regs = base_written w s offset; mem = store_by b e s.mem a v }) (add 32 s.pc 4)
    in (
      j ∙ ap next_of (i ∙ ap (λ t. let y : State = record t { regs = base_written w t offset } in y) h)
          ∙ ap (λ b. made b a v offset) eb ∙ ap (λ a. made (is_byte w) a v offset) ea ∙ ap (λ v. made (is_byte w) (transfer_address w s) v offset) ev
          ∙ ap (made (is_byte w) (transfer_address w s) (stored_reg s c (field_d w))) eo,
      o,
    )

pub half_loads : (w : ℕ) (e : Endian) (s mid last new : State) (out : StepOut) (offset rd x : ℕ) →
    mid ≡ record s { regs = base_written w s offset } → last ≡ record mid { regs = put mid.regs rd x } → new ≡ next_of last → out ≡ Next →
    offset ≡ halfword_offset w s → rd ≡ field_d w → x ≡ halfword_value e w s.mem (halfword_address w s) → IsStep s new out (halfword_by true true e w s)
half_loads w e s mid last new out offset rd x h i j o eo ed ex =
    let made : ℕ → ℕ → ℕ → State = λ offset rd x. with_pc (record s { regs = put (base_written w s offset) rd x }) (add 32 s.pc 4) in (
      j ∙ ap next_of (i ∙ ap (λ t. let y : State = record t { regs = put t.regs rd x } in y) h)
          ∙ ap (λ offset. made offset rd x) eo ∙ ap (λ rd. made (halfword_offset w s) rd x) ed ∙ ap (made (halfword_offset w s) (field_d w)) ex,
      o,
    )

pub half_stores : (w : ℕ) (e : Endian) (s mid last new : State) (out : StepOut) (offset a v : ℕ) →
    mid ≡ record s { mem = store e 2 s.mem a v } → last ≡ record mid { regs = base_written w mid offset } → new ≡ next_of last → out ≡ Next →
    offset ≡ halfword_offset w s → a ≡ halfword_address w s → v ≡ s.regs (field_d w) → IsStep s new out (halfword_by true false e w s)
half_stores w e s mid last new out offset a v h i j o eo ea ev =
    let made : ℕ → ℕ → ℕ → State = λ offset a v. with_pc (record s { regs = base_written w s offset; mem = store e 2 s.mem a v }) (add 32 s.pc 4) in (
      j ∙ ap next_of (i ∙ ap (λ t. let y : State = record t { regs = base_written w t offset } in y) h)
          ∙ ap (λ offset. made offset a v) eo ∙ ap (λ a. made (halfword_offset w s) a v) ea ∙ ap (made (halfword_offset w s) (halfword_address w s)) ev,
      o,
    )

-- a row by its evenness and its kind
pub half_by : (w : ℕ) (e : Endian) (s new : State) (out : StepOut) (a n : ℕ) (even load : Bool) → a ≡ halfword_address w s → n ≡ halfword_size w →
    (a % n == 0) ≡ even →
    is_load w ≡ load → IsStep s new out (halfword_by even load e w s) → IsStep s new out (halfword_done e w s)
half_by w e s new out a n even load ea en t l h =
    let test : (halfword_address w s % halfword_size w == 0) ≡ even = ap (λ a. a % halfword_size w == 0) (sym ea) ∙ ap (λ n. a % n == 0) (sym en) ∙ t in
    rw (test, l) h
