-- What is said of an expression without its value: its width, its weight, the bytes that it loads, that it stores none, and that it names only registers and
-- the memory.
use Rattle.std.proofs.Common.{◌≡◌, ℕ, zero, suc, ◌+◌, ◌/◌, ◌^◌, ◌<◌, ◌≤◌, ◌==◌, nat_lt, nat_le, Bool, true, false, ◌&&◌, refl, ap, ◌∙◌, arith, [], add-zero}
use Rattle.std.proofs.lemmas.Bool.Decides.{nat_tests}
use Rattle.word_spec.specs.Memory.{Little}
use Rattle.machine_spec.specs.RvMachine.{rv32}
use Rattle.machine_spec.specs.Bil.{Bits, XRegisters, Mem, BinaryOp, Not, CastKind, Expression, Var, Load, Binary, Unary, Cast, Extract, total, size}
use Rattle.machine_spec.specs.Bil as bil
use Rattle.machine_spec.specs.BilMeaning.{Env}
use Rattle.machine_spec.specs.BilTyping.{Has, type_or_fault, result_width, cast_fits, is_width, is_load_width}
use Rattle.machine_spec.specs.BilCounts.{width, op_weight, weight, own_loads, own_stores, own_unknowns, own_memory_choices, own_chosen_stores, names_only, is_own, reads_flag}
use Rattle.machine_spec.specs.BilStores.{stored_by}
use Rattle.rv_decode.specs.declared.plain.BranchOp.{BranchOp}
use Rattle.rv_decode.specs.declared.plain.BranchOp.TheVariants.{Beq, Bne, Blt, Bge, Bltu, Bgeu}
use Rattle.rv_decode.specs.declared.plain.LoadOp.{LoadOp}
use Rattle.rv_decode.specs.declared.plain.LoadOp.TheVariants.{Lb, Lh, Lw, Lbu, Lhu}
use Rattle.rv_decode.specs.declared.plain.ImmediateOp.{ImmediateOp}
use Rattle.rv_decode.specs.declared.plain.ImmediateOp.TheVariants.{Addi}
use Rattle.rv_decode.specs.declared.plain.ShiftOp.{ShiftOp}
use Rattle.rv_decode.specs.declared.plain.ShiftOp.TheVariants.{Slli}
use Rattle.rv_decode.specs.declared.plain.RegisterOp.{RegisterOp}
use Rattle.rv_decode.specs.declared.plain.RegisterOp.TheVariants.{Add}
use Rattle.rv_decode.specs.declared.operations.Operation.{Operation}
use Rattle.rv_decode.specs.Operations.{immediate_line, shift_line, register_line}
use Rattle.rv_decode.specs.Plains.{loaded_bytes}
use Rattle.bil_ast.specs.Views.{binary_of}
use Rattle.word_formula.specs.declared.formula.Extension.{Extension}
use Rattle.word_formula.specs.declared.formula.Extension.TheVariants.{Signed, Unsigned}
use Rattle.word_formula.specs.declared.formula.Formula.{Formula}
use Rattle.word_formula.specs.declared.formula.Formula.TheVariants.{Operator, Truth, Shift, Upper}
use Rattle.word_formula.specs.Formulas.{cast_by, expression_of, width_of}
use Rattle.word_formula.proofs.Values.{narrow}
use Rattle.rv_lift.specs.Lifted as lifts

abbrev pub own : bil.BilVariable → Bool
own = is_own (rv32 false) XRegisters

-- an expression of n bits that weighs at most w and loads at most l bytes
pub record IsPlain (n w l : ℕ) (e : Expression) : Type 0 where
  pub typed : (at : ℕ) → type_or_fault at e ≡ Has (Bits n)
  pub width : width e ≡ n
  pub weight : weight e ≤ w
  pub loads : total own_loads e ≤ l
  pub stores : total own_stores e ≡ 0
  pub unknowns : total own_unknowns e ≡ 0
  pub picks : total own_memory_choices e ≡ 0
  pub steady : total own_chosen_stores e ≡ 0
  pub stored : (c : ℕ) (v : Env) → stored_by e c v ≡ []
  pub names : names_only e own ≡ true
  pub flags : (f : ℕ) → reads_flag f e ≡ false

pub number_plain : (v : ℕ) → v < 2 ^ 32 → IsPlain 32 0 0 (lifts.number v)
number_plain v h = record {
  typed = λ at. let e : nat_lt v (2 ^ 32) ≡ true = grind (arith, nat_tests) in rw e refl;
  width = refl;
  weight = omega arith;
  loads = omega arith;
  stores = refl;
  unknowns = refl;
  picks = refl;
  steady = refl;
  stored = λ c e. refl;
  names = refl;
  flags = λ f. refl;
}

pub own_register : (r : ℕ) → suc r < 32 → own (bil.Register XRegisters (suc r)) ≡ true
own_register r h = grind (arith, nat_tests)

pub register_plain : (r : ℕ) → r < 32 → IsPlain 32 0 0 (lifts.register r)
register_plain zero h = number_plain 0 (omega arith)
register_plain (suc r) h = record {
  typed = λ at. refl;
  width = refl;
  weight = omega arith;
  loads = omega arith;
  stores = refl;
  unknowns = refl;
  picks = refl;
  steady = refl;
  stored = λ c e. refl;
  names = own_register r h;
  flags = λ f. refl;
}

-- an operator between two words
pub binary_plain : (o : BinaryOp) (n w v u : ℕ) (a b : Expression) → IsPlain n w 0 a → IsPlain n v 0 b → (n == n) ≡ true →
    nat_le (op_weight o n + w + v) u ≡ true → IsPlain (result_width o n) u 0 (Binary o a b)
binary_plain o n w v u a b p q e h = record {
  typed = λ at. rw (p.typed (at + 1), q.typed (at + 1 + size a), e) refl;
  width = ap (result_width o) p.width;
  weight = let g : op_weight o n + w + v ≤ u = grind (arith, nat_tests) in rw p.width (omega arith);
  loads = omega arith;
  stores = omega arith;
  unknowns = omega arith;
  picks = omega arith;
  steady = omega arith;
  stored = λ c z. rw (p.stored c z, q.stored c z) refl;
  names = rw (p.names, q.names) refl;
  flags = λ f. rw (p.flags f, q.flags f) refl;
}

-- a node over one word that only picks, turns or adds bits
over_plain : (m n w l : ℕ) (e a : Expression) → IsPlain n w l a → ((at : ℕ) → type_or_fault at e ≡ Has (Bits m)) → width e ≡ m →
    weight e ≡ 0 + weight a → total own_loads e ≡ 0 + total own_loads a → total own_stores e ≡ 0 + total own_stores a →
    total own_unknowns e ≡ 0 + total own_unknowns a → total own_memory_choices e ≡ 0 + total own_memory_choices a →
    total own_chosen_stores e ≡ 0 + total own_chosen_stores a → ((c : ℕ) (v : Env) → stored_by e c v ≡ stored_by a c v) →
    names_only e own ≡ names_only a own → ((f : ℕ) → reads_flag f e ≡ reads_flag f a) → IsPlain m w l e
over_plain m n w l e a p t wide weighs loads stores unknowns picks steady stored names flags = record {
  typed = t;
  width = wide;
  weight = omega arith;
  loads = omega arith;
  stores = omega arith;
  unknowns = omega arith;
  picks = omega arith;
  steady = omega arith;
  stored = λ c v. stored c v ∙ p.stored c v;
  names = names ∙ p.names;
  flags = λ f. flags f ∙ p.flags f;
}

pub not_plain : (n w l : ℕ) (a : Expression) → IsPlain n w l a → IsPlain n w l (Unary Not a)
not_plain n w l a p =
    over_plain n n w l (Unary Not a) a p (λ at. rw (p.typed (at + 1)) refl) p.width refl refl refl refl refl refl (λ c v. refl) refl (λ f. refl)

pub cast_plain : (k : CastKind) (m n w l : ℕ) (a : Expression) → IsPlain n w l a → (cast_fits k m n && is_width m) ≡ true → IsPlain m w l (Cast k m a)
cast_plain k m n w l a p e =
    over_plain m n w l (Cast k m a) a p (λ at. rw (p.typed (at + 1), e) refl) refl refl refl refl refl refl refl (λ c v. refl) refl (λ f. refl)

upper_plain : (w l : ℕ) (a : Expression) → IsPlain 64 w l a → IsPlain 32 w l (Extract 63 32 a)
upper_plain w l a p =
    over_plain 32 64 w l (Extract 63 32 a) a p (λ at. rw (p.typed (at + 1)) refl) refl refl refl refl refl refl refl (λ c v. refl) refl (λ f. refl)

load_plain : (n w : ℕ) (a : Expression) → IsPlain 32 w 0 a → is_load_width n ≡ true → IsPlain n w (n / 8) (Load (Var Mem) a Little n)
load_plain n w a p e = record {
  typed = λ at. rw (p.typed (at + 1 + 1), e) refl;
  width = refl;
  weight = let h = p.weight in omega arith;
  loads = let h = p.loads in omega arith;
  stores = let h = p.stores in omega arith;
  unknowns = let h = p.unknowns in omega arith;
  picks = let h = p.picks in omega arith;
  steady = let h = p.steady in omega arith;
  stored = p.stored;
  names = p.names;
  flags = p.flags;
}

pub address_plain : (r v : ℕ) → r < 32 → v < 2 ^ 32 → IsPlain 32 64 0 (lifts.address r v)
address_plain r v h k = binary_plain bil.Plus 32 0 0 64 _ _ (register_plain r h) (number_plain v k) refl refl

-- what is made of two words
abbrev OfWords : ℕ → ℕ → (Expression → Expression → Expression) → Type 0
OfWords n u f = (a b : Expression) → IsPlain 32 0 0 a → IsPlain 32 0 0 b → IsPlain n u 0 (f a b)

op : (o : BinaryOp) (u : ℕ) → nat_le (op_weight o 32) u ≡ true → OfWords (result_width o 32) u (Binary o)
op o u h a b p q = binary_plain o 32 0 0 u a b p q refl (simp add-zero h)

-- the weight of a formula over words that have none
abbrev pub weight_of : Formula → ℕ
weight_of (Operator o) = op_weight (binary_of o) 32
weight_of (Truth o) = op_weight (binary_of o) 32
weight_of (Shift o) = op_weight (binary_of o) 32 + 32
weight_of (Upper j k) = op_weight bil.Times 64

within : (n : ℕ) → nat_le n n ≡ true
within n = grind (arith, nat_tests)

beside : (n : ℕ) → nat_le (n + 0 + 32) (n + 32) ≡ true
beside n = grind (arith, nat_tests)

extended_plain : (j : Extension) (a : Expression) → IsPlain 32 0 0 a → IsPlain 64 0 0 (Cast (cast_by j) 64 a)
extended_plain Signed a p = cast_plain bil.Signed 64 32 0 0 a p refl
extended_plain Unsigned a p = cast_plain bil.Unsigned 64 32 0 0 a p refl

pub formula_plain : (f : Formula) → OfWords (width_of f) (weight_of f) (expression_of f)
formula_plain (Operator o) = op (binary_of o) _ (within _)
formula_plain (Truth o) = λ a b p q. cast_plain bil.Unsigned 32 _ _ 0 _ (op (binary_of o) _ (within _) a b p q) (rw (narrow (binary_of o)) refl)
formula_plain (Shift o) =
    λ a b p q. binary_plain (binary_of o) 32 0 32 _ a _ p (op bil.And 32 refl b (lifts.number 31) q (number_plain 31 (omega arith))) refl (beside _)
formula_plain (Upper j k) =
    λ a b p q. upper_plain _ _ _ (binary_plain bil.Times 64 0 0 _ _ _ (extended_plain j a p) (extended_plain k b q) refl refl)

-- what the row's price leaves beside an assignment to a register and what the row's exits take
pub record IsPriced (line : Operation) : Type 0 where
  pub width : width_of line.formula ≡ 32
  pub room : weight_of line.formula + 128 ≤ line.price

pub immediate_priced : (o : ImmediateOp) → IsPriced (immediate_line o)
immediate_priced Addi = record { width = refl; room = omega arith }
immediate_priced o = record { width = refl; room = omega arith }

pub shift_priced : (o : ShiftOp) → IsPriced (shift_line o)
shift_priced Slli = record { width = refl; room = omega arith }
shift_priced o = record { width = refl; room = omega arith }

pub register_priced : (o : RegisterOp) → IsPriced (register_line o)
register_priced Add = record { width = refl; room = omega arith }
register_priced o = record { width = refl; room = omega arith }

pub test_plain : (o : BranchOp) → OfWords 1 32 (lifts.test o)
test_plain Beq = op bil.Equal _ refl
test_plain Bne = op bil.NotEqual _ refl
test_plain Blt = op bil.SignedLess _ refl
test_plain Bge = λ a b p q. not_plain 1 _ 0 _ (op bil.SignedLess _ refl a b p q)
test_plain Bltu = op bil.Less _ refl
test_plain Bgeu = λ a b p q. not_plain 1 _ 0 _ (op bil.Less _ refl a b p q)

pub loaded_plain : (o : LoadOp) (a : Expression) → IsPlain 32 64 0 a → IsPlain 32 64 (loaded_bytes o) (lifts.loaded o a)
loaded_plain Lb a p = cast_plain bil.Signed 32 8 64 1 _ (load_plain 8 64 a p refl) refl
loaded_plain Lh a p = cast_plain bil.Signed 32 16 64 2 _ (load_plain 16 64 a p refl) refl
loaded_plain Lw a p = load_plain 32 64 a p refl
loaded_plain Lbu a p = cast_plain bil.Unsigned 32 8 64 1 _ (load_plain 8 64 a p refl) refl
loaded_plain Lhu a p = cast_plain bil.Unsigned 32 16 64 2 _ (load_plain 16 64 a p refl) refl
