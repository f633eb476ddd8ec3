-- Lists of registers, and steps of LDM and STM by the states between.
use Rattle.std.proofs.Common.{◌≡◌, ℕ, zero, suc, ◌+◌, ◌-◌, ◌*◌, ◌/◌, ◌%◌, ◌<◌, ◌≤◌, refl, ap, sym, ◌∙◌, Bool, true, false, List, [], ◌∷◌, length, arith}
use Rattle.std.specs.Prelude.{◌==◌, if◌then◌else◌}
use Rattle.std.proofs.lemmas.Bool.{ne_eqb}
use Rattle.word_spec.specs.Words.{add, sub, bits, aligned}
use Rattle.word_spec.specs.Memory.{Endian, Memory, load, store}
use Rattle.word_spec.specs.State.{State, put, with_pc}
use Rattle.machine_spec.specs.Arm.{reg, has_bit, is_up, is_pre, bit_w, moved, field_n, listed, listed_from, load_all, store_all, stored_reg, block_start, block_base, block_loaded, block_done}
use Rattle.byte_mem.specs.declared.StepOut.{StepOut}
use Rattle.byte_mem.specs.declared.StepOut.TheVariants.{Next, Jump}
use Rattle.byte_mem.specs.declared.How.TheVariants.{Indirect}
use Rattle.byte_mem.specs.Views.{IsStep}

-- a bit of the lower 16
pub same_bit : (w r : ℕ) → r < 16 → has_bit r (bits 15 0 w) ≡ has_bit r w
same_bit w zero l = ap (λ x. x == 1) (let e : w / 1 % 65536 / 1 % 2 ≡ w / 1 % 2 = omega arith in e)
same_bit w (suc zero) l = ap (λ x. x == 1) (let e : w / 1 % 65536 / 2 % 2 ≡ w / 2 % 2 = omega arith in e)
same_bit w (suc (suc zero)) l = ap (λ x. x == 1) (let e : w / 1 % 65536 / 4 % 2 ≡ w / 4 % 2 = omega arith in e)
same_bit w (suc (suc (suc zero))) l = ap (λ x. x == 1) (let e : w / 1 % 65536 / 8 % 2 ≡ w / 8 % 2 = omega arith in e)
same_bit w (suc (suc (suc (suc zero)))) l = ap (λ x. x == 1) (let e : w / 1 % 65536 / 16 % 2 ≡ w / 16 % 2 = omega arith in e)
same_bit w (suc (suc (suc (suc (suc zero))))) l = ap (λ x. x == 1) (let e : w / 1 % 65536 / 32 % 2 ≡ w / 32 % 2 = omega arith in e)
same_bit w (suc (suc (suc (suc (suc (suc zero)))))) l = ap (λ x. x == 1) (let e : w / 1 % 65536 / 64 % 2 ≡ w / 64 % 2 = omega arith in e)
same_bit w (suc (suc (suc (suc (suc (suc (suc zero))))))) l = ap (λ x. x == 1) (let e : w / 1 % 65536 / 128 % 2 ≡ w / 128 % 2 = omega arith in e)
same_bit w (suc (suc (suc (suc (suc (suc (suc (suc k)))))))) l = upper k (omega arith)
  where
    upper : (k : ℕ) → k < 8 → has_bit (suc (suc (suc (suc (suc (suc (suc (suc k)))))))) (bits 15 0 w)
        ≡ has_bit (suc (suc (suc (suc (suc (suc (suc (suc k)))))))) w
    upper zero m = ap (λ x. x == 1) (let e : w / 1 % 65536 / 256 % 2 ≡ w / 256 % 2 = omega arith in e)
    upper (suc zero) m = ap (λ x. x == 1) (let e : w / 1 % 65536 / 512 % 2 ≡ w / 512 % 2 = omega arith in e)
    upper (suc (suc zero)) m = ap (λ x. x == 1) (let e : w / 1 % 65536 / 1024 % 2 ≡ w / 1024 % 2 = omega arith in e)
    upper (suc (suc (suc zero))) m = ap (λ x. x == 1) (let e : w / 1 % 65536 / 2048 % 2 ≡ w / 2048 % 2 = omega arith in e)
    upper (suc (suc (suc (suc zero)))) m = ap (λ x. x == 1) (let e : w / 1 % 65536 / 4096 % 2 ≡ w / 4096 % 2 = omega arith in e)
    upper (suc (suc (suc (suc (suc zero))))) m = ap (λ x. x == 1) (let e : w / 1 % 65536 / 8192 % 2 ≡ w / 8192 % 2 = omega arith in e)
    upper (suc (suc (suc (suc (suc (suc zero)))))) m = ap (λ x. x == 1) (let e : w / 1 % 65536 / 16384 % 2 ≡ w / 16384 % 2 = omega arith in e)
    upper (suc (suc (suc (suc (suc (suc (suc zero))))))) m = ap (λ x. x == 1) (let e : w / 1 % 65536 / 32768 % 2 ≡ w / 32768 % 2 = omega arith in e)
    upper (suc (suc (suc (suc (suc (suc (suc (suc j)))))))) m = absurd (let h : suc (suc (suc (suc (suc (suc (suc (suc j))))))) < 8 = m in omega arith)

pub bit_of : (b w r : ℕ) → b ≡ bits 15 0 w → r < 16 → has_bit r b ≡ has_bit r w
bit_of b w r e l = ap (has_bit r) e ∙ same_bit w r l

if_same : (a b : Bool) (xs ys : List ℕ) (r : ℕ) → a ≡ b → xs ≡ ys → (if a then r ∷ xs else xs) ≡ (if b then r ∷ ys else ys)
if_same a b xs ys r e h = ap (λ a. if a then r ∷ xs else xs) e ∙ ap (λ xs. if b then r ∷ xs else xs) h

same_from : (b w r n : ℕ) → b ≡ bits 15 0 w → r + n ≤ 16 → listed_from b r n ≡ listed_from w r n
same_from b w r zero e l = refl
same_from b w r (suc n) e l = if_same (has_bit r b) (has_bit r w) (listed_from b (r + 1) n) (listed_from w (r + 1) n) r (bit_of b w r e (omega arith))
    (same_from b w (r + 1) n e (omega arith))

pub same_list : (b w n : ℕ) → b ≡ bits 15 0 w → n ≤ 16 → listed_from b 0 n ≡ listed_from w 0 n
same_list b w n e l = same_from b w 0 n e (omega arith)

hit : (b r n : ℕ) → r < n → has_bit r b ≡ true → listed_from b r (n - r) ≡ r ∷ listed_from b (r + 1) (n - (r + 1))
hit b r n l h = let e : n - r ≡ suc (n - (r + 1)) = omega arith in rw (e, h) refl

miss : (b r n : ℕ) → r < n → has_bit r b ≡ false → listed_from b r (n - r) ≡ listed_from b (r + 1) (n - (r + 1))
miss b r n l h = let e : n - r ≡ suc (n - (r + 1)) = omega arith in rw (e, h) refl

past : (b r n : ℕ) → n ≤ r → listed_from b r (n - r) ≡ []
past b r n l = let e : n - r ≡ 0 = omega arith in rw e refl

-- counting them
pub counted_hit : (b r n c t : ℕ) → r < n → has_bit r b ≡ true → c + length (listed_from b r (n - r)) ≡ t →
    (c + 1) + length (listed_from b (r + 1) (n - (r + 1))) ≡ t
counted_hit b r n c t l h e = let f = ap length (hit b r n l h) in omega (arith, f)

pub counted_miss : (b r n c t : ℕ) → r < n → has_bit r b ≡ false → c + length (listed_from b r (n - r)) ≡ t →
    c + length (listed_from b (r + 1) (n - (r + 1))) ≡ t
counted_miss b r n c t l h e = let f = ap length (miss b r n l h) in omega (arith, f)

pub counted : (b r n c t : ℕ) → n ≤ r → c + length (listed_from b r (n - r)) ≡ t → c ≡ t
counted b r n c t l e = let f = ap length (past b r n l) in omega (arith, f)

-- loading them
pub loads_hit : (e : Endian) (b r n a x : ℕ) (old s new : State) (t : ℕ → ℕ) → r < n → has_bit r b ≡ true →
    s ≡ record old { regs = s.regs } → load_all e old.mem a (listed_from b r (n - r)) s.regs ≡ t →
    new ≡ record s { regs = (if r == 15 then s.regs else put s.regs r (load e 4 s.mem a)) } → x ≡ add 32 a 4 →
    (new ≡ record old { regs = new.regs }) × (load_all e old.mem x (listed_from b (r + 1) (n - (r + 1))) new.regs ≡ t)
loads_hit e b r n a x old s new t l h only left is next =
    let rest = listed_from b (r + 1) (n - (r + 1)) in
    let f : Memory → ℕ → ℕ = λ m. if r == 15 then s.regs else put s.regs r (load e 4 m a) in
    let regs : new.regs ≡ f old.mem = ap (λ y. y.regs) is ∙ ap f (ap (λ y. y.mem) only) in (
      is ∙ ap (λ y. let z : State = record y { regs = f s.mem } in z) only ∙ ap (λ g. let z : State = record old { regs = g } in z) (sym (ap (λ y. y.regs) is)),
      ap (λ x. load_all e old.mem x rest new.regs) next ∙ ap (load_all e old.mem (add 32 a 4) rest) regs
          ∙ sym (ap (λ rs. load_all e old.mem a rs s.regs) (hit b r n l h)) ∙ left,
    )

pub loads_miss : (e : Endian) (b r n a : ℕ) (old s : State) (t : ℕ → ℕ) → r < n → has_bit r b ≡ false →
    load_all e old.mem a (listed_from b r (n - r)) s.regs ≡ t → load_all e old.mem a (listed_from b (r + 1) (n - (r + 1))) s.regs ≡ t
loads_miss e b r n a old s t l h left = sym (ap (λ rs. load_all e old.mem a rs s.regs) (miss b r n l h)) ∙ left

pub loads_done : (e : Endian) (b r n a : ℕ) (old s : State) (t : ℕ → ℕ) → n ≤ r → s ≡ record old { regs = s.regs } →
    load_all e old.mem a (listed_from b r (n - r)) s.regs ≡ t → s ≡ record old { regs = t }
loads_done e b r n a old s t l only left =
    only ∙ ap (λ g. let z : State = record old { regs = g } in z) (sym (ap (λ rs. load_all e old.mem a rs s.regs) (past b r n l)) ∙ left)

-- storing them
pub stores_hit : (e : Endian) (b r n c a x v : ℕ) (old s new : State) (t : Memory) → r < n → has_bit r b ≡ true →
    s ≡ record old { mem = s.mem } → store_all e old c a (listed_from b r (n - r)) s.mem ≡ t →
    new ≡ record s { mem = store e 4 s.mem a v } → v ≡ stored_reg s c r → x ≡ add 32 a 4 →
    (new ≡ record old { mem = new.mem }) × (store_all e old c x (listed_from b (r + 1) (n - (r + 1))) new.mem ≡ t)
stores_hit e b r n c a x v old s new t l h only left is value next =
    let rest = listed_from b (r + 1) (n - (r + 1)) in
    let same : v ≡ stored_reg old c r = value ∙ ap (λ y. stored_reg y c r) only in
    let mem : new.mem ≡ store e 4 s.mem a (stored_reg old c r) = ap (λ y. y.mem) is ∙ ap (store e 4 s.mem a) same in (
      is ∙ ap (λ y. let z : State = record y { mem = store e 4 s.mem a v } in z) only ∙ ap
          (λ g. let z : State = record old { mem = g } in z) (sym (ap (λ y. y.mem) is)),
      ap (λ x. store_all e old c x rest new.mem) next ∙ ap (store_all e old c (add 32 a 4) rest) mem
          ∙ sym (ap (λ rs. store_all e old c a rs s.mem) (hit b r n l h)) ∙ left,
    )

pub stores_miss : (e : Endian) (b r n c a : ℕ) (old s : State) (t : Memory) → r < n → has_bit r b ≡ false →
    store_all e old c a (listed_from b r (n - r)) s.mem ≡ t → store_all e old c a (listed_from b (r + 1) (n - (r + 1))) s.mem ≡ t
stores_miss e b r n c a old s t l h left = sym (ap (λ rs. store_all e old c a rs s.mem) (miss b r n l h)) ∙ left

pub stores_done : (e : Endian) (b r n c a : ℕ) (old s : State) (t : Memory) → n ≤ r → s ≡ record old { mem = s.mem } →
    store_all e old c a (listed_from b r (n - r)) s.mem ≡ t → s ≡ record old { mem = t }
stores_done e b r n c a old s t l only left =
    only ∙ ap (λ g. let z : State = record old { mem = g } in z) (sym (ap (λ rs. store_all e old c a rs s.mem) (past b r n l)) ∙ left)

-- the first address
one_way : (u : Bool) (b p q : ℕ) → (if u then add 32 b (if u then p else q) else sub 32 b (if u then p else q)) ≡ (if u then add 32 b p else sub 32 b q)
one_way true b p q = refl
one_way false b p q = refl

pub starts : (w : ℕ) (s : State) (up pre : Bool) (b o m x k : ℕ) → up ≡ is_up w → pre ≡ is_pre w → k ≡ length (listed w) → b ≡ reg s (field_n w) →
    o ≡ (if up then (if pre then 4 else 0) else 4 * k - (if pre then 0 else 4)) → m ≡ moved w b o → x ≡ aligned m → x ≡ block_start w s
starts w s up pre b o m x k eu ep ek eb eo em ex =
    let p : ℕ = if is_pre w then 4 else 0 in
    let q : ℕ = 4 * length (listed w) - (if is_pre w then 0 else 4) in
    let offset : o ≡ (if is_up w then p else q) =
    eo ∙ ap (λ u. if u then (if pre then 4 else 0) else 4 * k - (if pre then 0 else 4)) eu
    ∙ ap (λ d. if is_up w then (if d then 4 else 0) else 4 * k - (if d then 0 else 4)) ep
    ∙ ap (λ k. if is_up w then p else 4 * k - (if is_pre w then 0 else 4)) ek in
    ex ∙ ap aligned (em ∙ ap (moved w b) offset ∙ one_way (is_up w) b p q ∙ ap (λ b. if is_up w then add 32 b p else sub 32 b q) eb)

-- the base written back
pub block_put : (w : ℕ) (s : State) (r b v k : ℕ) → bit_w w ≡ true → r ≡ field_n w → b ≡ s.regs r → k ≡ length (listed w) → v ≡ moved w b (4 * k) →
    put s.regs r v ≡ block_base w s
block_put w s r b v k t er eb ek ev =
    let value : v ≡ moved w (s.regs (field_n w)) (4 * length (listed w)) = ev ∙ ap (λ b. moved w b (4 * k)) (eb ∙ ap s.regs er) ∙ ap
    (λ k. moved w (s.regs (field_n w)) (4 * k)) ek in
    rw t (ap (λ r. put s.regs r v) er ∙ ap (put s.regs (field_n w)) value)

pub block_kept : (w : ℕ) (s : State) → bit_w w ≡ false → s.regs ≡ block_base w s
block_kept w s t = rw t refl

abbrev loaded_regs : Endian → ℕ → State → ℕ → List ℕ → ℕ → ℕ
loaded_regs e w s first rs = load_all e s.mem first rs (block_base w s)

-- the registers that LDM loads
all_loaded : (e : Endian) (w : ℕ) (s base all : State) (first : ℕ) (rs : List ℕ) → base ≡ record s { regs = block_base w s } →
    all ≡ record base { regs = load_all e base.mem first rs base.regs } → first ≡ block_start w s → rs ≡ listed w →
    all ≡ record s { regs = loaded_regs e w s (block_start w s) (listed w) }
all_loaded e w s base all first rs b a f l =
    let made : ℕ → List ℕ → State = λ first rs. record s { regs = loaded_regs e w s first rs } in
    a ∙ ap (λ y. let z : State = record y { regs = load_all e y.mem first rs y.regs } in z) b ∙ ap (λ first. made first rs) f ∙ ap (made (block_start w s)) l

pub block_jumps : (e : Endian) (w : ℕ) (s base all new : State) (out : StepOut) (first to last k : ℕ) (rs : List ℕ) → has_bit 15 w ≡ true →
    base ≡ record s { regs = block_base w s } → all ≡ record base { regs = load_all e base.mem first rs base.regs } → new ≡ with_pc all to →
    out ≡ Jump to Indirect →
    first ≡ block_start w s → rs ≡ listed w → to ≡ load e 4 s.mem last → last ≡ add 32 first (4 * k - 4) → k ≡ length (listed w) →
    IsStep s new out (block_loaded (has_bit 15 w) e w s)
block_jumps e w s base all new out first to last k rs t b a n o f l et el ek =
    let target : to ≡ load e 4 s.mem (add 32 (block_start w s) (4 * length (listed w) - 4)) =
    et ∙ ap (load e 4 s.mem) (el ∙ ap (λ x. add 32 x (4 * k - 4)) f ∙ ap (λ k. add 32 (block_start w s) (4 * k - 4)) ek) in
    rw t (
      n ∙ ap (λ y. with_pc y to) (all_loaded e w s base all first rs b a f l)
          ∙ ap (λ p. with_pc (record s { regs = loaded_regs e w s (block_start w s) (listed w) }) p) target,
      o ∙ ap (λ p. Jump p Indirect) target,
    )

pub block_goes : (e : Endian) (w : ℕ) (s base all new : State) (out : StepOut) (first : ℕ) (rs : List ℕ) → has_bit 15 w ≡ false →
    base ≡ record s { regs = block_base w s } → all ≡ record base { regs = load_all e base.mem first rs base.regs } → new ≡ with_pc all (add 32 all.pc 4) →
    out ≡ Next →
    first ≡ block_start w s → rs ≡ listed w → IsStep s new out (block_loaded (has_bit 15 w) e w s)
block_goes e w s base all new out first rs t b a n o f l =
    rw t (n ∙ ap (λ y. with_pc y (add 32 y.pc 4)) (all_loaded e w s base all first rs b a f l), o)

pub block_stores : (e : Endian) (w c : ℕ) (s mid last new : State) (out : StepOut) (first : ℕ) (rs : List ℕ) →
    mid ≡ record s { mem = store_all e s c first rs s.mem } →
    last ≡ record mid { regs = block_base w mid } → new ≡ with_pc last (add 32 last.pc 4) → out ≡ Next → first ≡ block_start w s → rs ≡ listed w →
    IsStep s new out (block_done false e w s c)
block_stores e w c s mid last new out first rs m b n o f l =
    let made : ℕ → List ℕ → State = λ first rs. with_pc (record s { regs = block_base w s; mem = store_all e s c first rs s.mem }) (add 32 s.pc 4) in (
      n ∙ ap (λ y. with_pc y (add 32 y.pc 4)) (b ∙ ap (λ y. let z : State = record y { regs = block_base w y } in z) m)
          ∙ ap (λ first. made first rs) f ∙ ap (made (block_start w s)) l,
      o,
    )

-- one register is loaded, but r15
pub one_loaded : (r p v x : ℕ) (f : ℕ → ℕ) → r < 15 → p ≡ r → v ≡ x → put f p v ≡ (if r == 15 then f else put f r x)
one_loaded r p v x f l e h = rw (ne_eqb r 15 (λ y. omega arith)) (ap (λ p. put f p v) e ∙ ap (put f r) h)
