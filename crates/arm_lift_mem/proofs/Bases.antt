-- The base of an access: its address, the write-back, and the address behind it.
use Rattle.std.proofs.Common.{◌≡◌, ℕ, ◌^◌, ◌<◌, Bool, true, false, not, refl, ap, sym, ◌∙◌, arith, Option, if◌then◌else◌, List}
use Rattle.std.specs.Prelude.{◌==◌}
use Rattle.std.proofs.lemmas.Bool.{ne_eqb}
use Rattle.std.proofs.lemmas.Bool.Decides.{nat_tests}
use Rattle.word_spec.specs.Words.{add}
use Rattle.word_spec.specs.State.{State, IsState, put}
use Rattle.machine_spec.specs.Arm as rows
use Rattle.machine_spec.specs.Arm.{reg, is_up, is_pre, writes_back, base_written, field_n}
use Rattle.machine_spec.specs.Bil.{RRegisters, Expression, Statements}
use Rattle.machine_spec.specs.Bil as bil
use Rattle.machine_spec.specs.BilMeaning.{execute}
use Rattle.machine_spec.specs.BilStores.{list_stored, stored_by}
use Rattle.machine_spec.specs.Simulation.{Locals, env_of, position}
use Rattle.machine_spec.proofs.ArmRanges.{reg_small, base_small, moved_small}
use Rattle.arm_decode.specs.declared.parts.Indexing.{Indexing}
use Rattle.arm_decode.specs.declared.parts.Indexing.TheVariants as indexing
use Rattle.arm_decode.specs.Parts.{HasIndexing}
use Rattle.arm_lift_alu.specs.declared.shifter.CarryIn.TheVariants.{Flag}
use Rattle.arm_lift_alu.specs.Operands.{own, register}
use Rattle.arm_lift_alu.proofs.Values.{register_gives}
use Rattle.arm_lift_mem.specs.Accesses as lifts
use Rattle.arm_lift_mem.specs.Accesses.{moved_number}
use Rattle.arm_lift_mem.proofs.Values.{IsWord, word_is, moved_is, moved_value, back}

-- the state behind the write-back
abbrev pub based : ℕ → State → ℕ → State
based w s offset = record s { regs = base_written w s offset }

pub register_value : (s : State) (r at c : ℕ) → s.pc ≡ at → IsWord (register r at) c s (reg s r)
register_value s r at c here l = (register_gives Flag s r at here).is s.flags refl c l

-- a register that is not r15
pub own_reg : (s : State) (r : ℕ) → r < 15 → reg s r ≡ s.regs r
own_reg s r h = rw (ne_eqb r 15 (λ e. omega arith)) refl

pub put_same : (f : ℕ → ℕ) (r v : ℕ) → put f r v r ≡ v
put_same f r v = let e : (r == r) ≡ true = grind (arith, nat_tests) in rw e refl

put_other : (f : ℕ → ℕ) (n v r : ℕ) → (n == r) ≡ false → put f n v r ≡ f r
put_other f n v r h = let e : (r == n) ≡ false = grind (arith, nat_tests) in rw e refl

-- the registers with the base written, and without
abbrev written : ℕ → State → ℕ → ℕ → ℕ
written w s o = put s.regs (field_n w) (rows.moved w (s.regs (field_n w)) o)

written_base : (w : ℕ) (s : State) (o : ℕ) → writes_back w ≡ true → base_written w s o ≡ written w s o
written_base w s o h = ap (λ b. if b then written w s o else s.regs) h

kept_base : (w : ℕ) (s : State) (o : ℕ) → writes_back w ≡ false → base_written w s o ≡ s.regs
kept_base w s o h = ap (λ b. if b then written w s o else s.regs) h

-- the address before the access, and behind it
pre_address : (w x y : ℕ) → is_pre w ≡ true → rows.address w x y ≡ rows.moved w x y
pre_address w x y h = ap (λ b. if b then rows.moved w x y else x) h

post_address : (w x y : ℕ) → is_pre w ≡ false → rows.address w x y ≡ x
post_address w x y h = ap (λ b. if b then rows.moved w x y else x) h

pub address_below : (w x y : ℕ) → x < 2 ^ 32 → rows.address w x y < 2 ^ 32
address_below w x y h = by (is_pre w)
  where
    by : (b : Bool) → (if b then rows.moved w x y else x) < 2 ^ 32
    by true = moved_small w x y
    by false = h

-- the address of an access
pub address_value : (w : ℕ) (k : Indexing) (up : Bool) (a b : Expression) (c x y : ℕ) (s : State) → HasIndexing w k → up ≡ is_up w → IsWord a c s x →
    IsWord b c s y →
    IsWord (lifts.address k up a b) c s (rows.address w x y)
address_value w indexing.Offset up a b c x y s h u p q l =
    moved_value up a b c x y s p q l ∙ word_is 32 _ _ (moved_is w up x y u ∙ sym (pre_address w x y h.0))
address_value w indexing.Pre up a b c x y s h u p q l =
    moved_value up a b c x y s p q l ∙ word_is 32 _ _ (moved_is w up x y u ∙ sym (pre_address w x y h.0))
address_value w indexing.Post up a b c x y s h u p q l = p l ∙ word_is 32 _ _ (sym (post_address w x y h.0))

-- the state behind a base that is written
pub state_behind : (w : ℕ) (s : State) (o : ℕ) → IsState s → IsState (based w s o)
state_behind w s o is = record { pc = is.pc; regs = base_small w s o is; flags = is.flags; mem = is.mem }

-- the write-back leads to that state
pub written_back_runs : (w : ℕ) (k : Indexing) (up : Bool) (n : ℕ) (b : Expression) (o c turns : ℕ) (l : Locals) (j : Option ℕ) (s : State)
    (rest : Statements) →
    HasIndexing w k → up ≡ is_up w → n ≡ field_n w → IsWord b c s o →
    execute (lifts.written_back k up n b rest) c (position l turns j s) ≡ execute rest c (position l turns j (based w s o))
written_back_runs w k up n b o c turns l j s rest has u name q = by k has
  where
    to : (ℕ → ℕ) → State
    to f = record s { regs = f }

    done : writes_back w ≡ true →
        execute (bil.Assign (bil.Register RRegisters n) (lifts.moved up (own n) b) rest) c (position l turns j s) ≡ execute rest c (position l turns j
        (based w s o))
    done h =
        rw (moved_value up (own n) b c (s.regs n) o s (λ l. refl) q l) (
        ap (λ f. execute rest c (position l turns j (to f)))
        (ap (λ v. put s.regs n v) (moved_is w up (s.regs n) o u) ∙ ap (λ n. put s.regs n (rows.moved w (s.regs n) o)) name ∙ sym (written_base w s o h))
        )

    by : (k : Indexing) → HasIndexing w k →
        execute (lifts.written_back k up n b rest) c (position l turns j s) ≡ execute rest c (position l turns j (based w s o))
    by indexing.Offset h = ap (λ f. execute rest c (position l turns j (to f))) (sym (kept_base w s o h.1))
    by indexing.Pre h = done h.1
    by indexing.Post h = done h.1

-- and stores nothing by itself
pub written_back_stores : (w : ℕ) (k : Indexing) (up : Bool) (n : ℕ) (b : Expression) (o c turns : ℕ) (l : Locals) (j : Option ℕ) (s : State)
    (rest : Statements) →
    HasIndexing w k → up ≡ is_up w → n ≡ field_n w → IsWord b c s o → ((v : _) → stored_by b c v ≡ List.[]) →
    list_stored (lifts.written_back k up n b rest) c (position l turns j s) ≡ list_stored rest c (position l turns j (based w s o))
written_back_stores w k up n b o c turns l j s rest has u name q none = by k has
  where
    to : (ℕ → ℕ) → State
    to f = record s { regs = f }

    quiet : (up : Bool) → stored_by (lifts.moved up (own n) b) c (env_of l s) ≡ List.[]
    quiet true = none (env_of l s)
    quiet false = none (env_of l s)

    done : writes_back w ≡ true →
        list_stored (bil.Assign (bil.Register RRegisters n) (lifts.moved up (own n) b) rest) c (position l turns j s)
        ≡ list_stored rest c (position l turns j (based w s o))
    done h =
        rw (quiet up, moved_value up (own n) b c (s.regs n) o s (λ l. refl) q l) (
        ap (λ f. list_stored rest c (position l turns j (to f)))
        (ap (λ v. put s.regs n v) (moved_is w up (s.regs n) o u) ∙ ap (λ n. put s.regs n (rows.moved w (s.regs n) o)) name ∙ sym (written_base w s o h))
        )

    by : (k : Indexing) → HasIndexing w k →
        list_stored (lifts.written_back k up n b rest) c (position l turns j s) ≡ list_stored rest c (position l turns j (based w s o))
    by indexing.Offset h = ap (λ f. list_stored rest c (position l turns j (to f))) (sym (kept_base w s o h.1))
    by indexing.Pre h = done h.1
    by indexing.Post h = done h.1

-- a register behind the write-back: another one, and the base
pub other_behind : (w : ℕ) (s : State) (o r : ℕ) → (writes_back w ≡ true → (field_n w == r) ≡ false) → reg (based w s o) r ≡ reg s r
other_behind w s o r h = by (writes_back w) h
  where
    by : (b : Bool) → (b ≡ true → (field_n w == r) ≡ false) →
        (if r == 15 then add 32 s.pc 8 else (if b then written w s o else s.regs) r) ≡ (if r == 15 then add 32 s.pc 8 else s.regs r)
    by true h = ap (λ x. if r == 15 then add 32 s.pc 8 else x) (put_other s.regs (field_n w) _ r (h refl))
    by false h = refl

base_behind : (w : ℕ) (s : State) (o n : ℕ) → writes_back w ≡ true → n ≡ field_n w → n < 15 → reg (based w s o) n ≡ rows.moved w (reg s n) o
base_behind w s o n h name small =
    own_reg (based w s o) n small ∙ ap (λ f. f n) (written_base w s o h) ∙ ap (written w s o) name ∙ put_same s.regs (field_n w) _
    ∙ ap (λ n. rows.moved w (s.regs n) o) (sym name) ∙ ap (λ x. rows.moved w x o) (sym (own_reg s n small))

-- the address behind the write-back is the one before it
pub again_value : (w at : ℕ) (k : Indexing) (up : Bool) (n : ℕ) (b : Expression) (o c : ℕ) (s : State) → HasIndexing w k → up ≡ is_up w → n ≡ field_n w →
    (writes_back w ≡ true → n < 15) → IsState s → s.pc ≡ at → o < 2 ^ 32 → IsWord b c (based w s o) o →
    IsWord (lifts.address_again k up (register n at) b) c (based w s o) (rows.address w (reg s n) o)
again_value w at indexing.Offset up n b o c s h u name small is here few q l =
    moved_value up (register n at) b c (reg (based w s o) n) o (based w s o) (register_value (based w s o) n at c here) q l
    ∙ word_is 32 _ _ (moved_is w up _ o u ∙ ap (λ f. rows.moved w (reg (record s { regs = f }) n) o) (kept_base w s o h.1)
    ∙ sym (pre_address w (reg s n) o h.0))
again_value w at indexing.Pre up n b o c s h u name small is here few q l =
    register_value (based w s o) n at c here l
    ∙ word_is 32 _ _ (base_behind w s o n h.1 name (small h.1) ∙ sym (pre_address w (reg s n) o h.0))
again_value w at indexing.Post up n b o c s h u name small is here few q l =
    moved_value (not up) (register n at) b c (reg (based w s o) n) o (based w s o) (register_value (based w s o) n at c here) q l
    ∙ word_is 32 _ _ (
    ap (λ x. moved_number (not up) x o) (base_behind w s o n h.1 name (small h.1) ∙ sym (moved_is w up (reg s n) o u))
    ∙ back up (reg s n) o (reg_small s n is) few ∙ sym (post_address w (reg s n) o h.0)
    )
