-- What the lifted expressions evaluate to.
use Rattle.std.proofs.Common.{◌≡◌, ℕ, zero, suc, ◌+◌, ◌%◌, ◌^◌, nat_lt, not, Bool, true, false, refl, ap, ◌∙◌, arith, bit_and}
use Rattle.std.proofs.lemmas.Nat.Bits.{and_high}
use Rattle.word_spec.specs.Words.{add, bit, signed_lt, complement}
use Rattle.word_spec.specs.Memory.{Little, load, store}
use Rattle.word_spec.specs.State.{State}
use Rattle.machine_spec.specs.Machine.{even}
use Rattle.machine_spec.specs.Rv.{reg}
use Rattle.machine_spec.specs.Bil.{Expression}
use Rattle.machine_spec.specs.BilMeaning.{Word, Bytes, Env, evaluate}
use Rattle.machine_spec.specs.Simulation.{Locals, env_of}
use Rattle.byte_mem.proofs.Numbers.{store_cut}
use Rattle.rv_decode.specs.declared.plain.BranchOp.{BranchOp}
use Rattle.rv_decode.specs.declared.plain.BranchOp.TheVariants.{Beq, Bne, Blt, Bge, Bltu, Bgeu}
use Rattle.rv_decode.specs.declared.plain.LoadOp.{LoadOp}
use Rattle.rv_decode.specs.declared.plain.LoadOp.TheVariants.{Lb, Lh, Lw, Lbu, Lhu}
use Rattle.rv_decode.specs.declared.plain.StoreOp.{StoreOp}
use Rattle.rv_decode.specs.declared.plain.StoreOp.TheVariants.{Sb, Sh, Sw}
use Rattle.rv_decode.specs.Plains.{test_of, loaded_bytes, extended, stored_bytes}
use Rattle.rv_lift.specs.Lifted as lifts

pub register_value_is : (r c : ℕ) (l : Locals) (s : State) → evaluate (lifts.register r) c (env_of l s) ≡ Word 32 (reg s r)
register_value_is zero c l s = refl
register_value_is (suc r) c l s = refl

pub address_is : (r v c : ℕ) (l : Locals) (s : State) → evaluate (lifts.address r v) c (env_of l s) ≡ Word 32 (add 32 (reg s r) v)
address_is r v c l s = rw (register_value_is r c l s) refl

turned : (b : Bool) → Word 1 (complement 1 (bit b)) ≡ Word 1 (bit (not b))
turned true = refl
turned false = refl

pub test_is : (o : BranchOp) (a b : Expression) (c : ℕ) (e : Env) (x y : ℕ) → evaluate a c e ≡ Word 32 x → evaluate b c e ≡ Word 32 y →
    evaluate (lifts.test o a b) c e ≡ Word 1 (bit (test_of o x y))
test_is Beq a b c e x y p q = rw (p, q) refl
test_is Bne a b c e x y p q = rw (p, q) refl
test_is Blt a b c e x y p q = rw (p, q) refl
test_is Bge a b c e x y p q = rw (p, q) (turned (signed_lt 32 x y))
test_is Bltu a b c e x y p q = rw (p, q) refl
test_is Bgeu a b c e x y p q = rw (p, q) (turned (nat_lt x y))

pub load_is : (o : LoadOp) (t : Expression) (a c : ℕ) (l : Locals) (s : State) → evaluate t c (env_of l s) ≡ Word 32 a →
    evaluate (lifts.loaded o t) c (env_of l s) ≡ Word 32 (extended o (load Little (loaded_bytes o) s.mem a))
load_is Lb t a c l s h = rw h refl
load_is Lh t a c l s h = rw h refl
load_is Lw t a c l s h = rw h refl
load_is Lbu t a c l s h = rw h refl
load_is Lhu t a c l s h = rw h refl

pub store_is : (o : StoreOp) (t u : Expression) (a x c : ℕ) (l : Locals) (s : State) → evaluate t c (env_of l s) ≡ Word 32 a →
    evaluate u c (env_of l s) ≡ Word 32 x →
    evaluate (lifts.stored o t u) c (env_of l s) ≡ Bytes (store Little (stored_bytes o) s.mem a x)
store_is Sb t u a x c l s h k = rw (h, k) (ap Bytes (store_cut Little 1 s.mem a x))
store_is Sh t u a x c l s h k = rw (h, k) (ap Bytes (store_cut Little 2 s.mem a x))
store_is Sw t u a x c l s h k = rw (h, k) refl

pub even_is : (m v : ℕ) → bit_and ((m + v) % 2 ^ 32) 0xfffffffe ≡ even ((m + v) % 2 ^ 32)
even_is m v = and_high ((m + v) % 2 ^ 32) 31 1 ∙ omega arith
