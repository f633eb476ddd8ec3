-- The loads of a word that is known.
use Rattle.std.proofs.Common.{◌≡◌, refl, ap, ◌∙◌, ℕ, Bool, true, false}
use Rattle.std.specs.Prelude.{◌==◌, ◌&&◌, if◌then◌else◌}
use Rattle.std.proofs.lemmas.Bool.{eqb-true}
use Rattle.word_spec.specs.Memory.{Endian, Little, Big}
use Rattle.machine_spec.specs.Bil.{Register, Flag, Mem, Local, Expression, Var, Constant, Load, Store, Binary, Unary, Cast, Let, Unknown, Choose, Extract, Concat}
use Rattle.machine_spec.specs.BilCounts.{same_order}
use Rattle.bil_trim.specs.Literals.{is_load_of, is_memory, is_constant}

pub both : (a b : Bool) → (a && b) ≡ true → (a ≡ true) × (b ≡ true)
both true true h = (refl, refl)
both true false h = absurd (cc)
both false b h = absurd (cc)

pub all_three : (a b c : Bool) → (a && b && c) ≡ true → (a ≡ true) × (b ≡ true) × (c ≡ true)
all_three a b c h = let l = both (a && b) c h in let r = both a b l.0 in (r.0, r.1, l.1)

pub all_four : (a b c d : Bool) → (a && b && c && d) ≡ true → (a ≡ true) × (b ≡ true) × (c ≡ true) × (d ≡ true)
all_four a b c d h = let l = both (a && b && c) d h in let r = all_three a b c l.0 in (r.0, r.1, r.2, l.1)

pub join : (a b : Bool) → a ≡ true → b ≡ true → (a && b) ≡ true
join true b h i = i
join false b h i = absurd (cc)

one_order : (e f : Endian) → same_order e f ≡ true → f ≡ e
one_order Little Little h = refl
one_order Big Big h = refl
one_order Little Big h = absurd (cc)
one_order Big Little h = absurd (cc)

none_else : (b : Bool) → ((if b then 0 else 1) == 0) ≡ true → b ≡ true
none_else true h = refl
none_else false h = absurd (cc)

abbrev IsThat : Endian → ℕ → Expression → Expression → Endian → ℕ → Type 0
IsThat e a m b f n = (m ≡ Var Mem) × (b ≡ Constant 32 a) × (f ≡ e) × (n ≡ 32)

constant_load : (e : Endian) (a w v : ℕ) (f : Endian) (n : ℕ) → is_load_of e a (Var Mem) (Constant w v) f n ≡ true → IsThat e a (Var Mem) (Constant w v) f n
constant_load e a w v f n h =
    let l = all_four (same_order e f) (w == 32) (v == a) (n == 32) (none_else (same_order e f && (w == 32) && (v == a) && (n == 32)) h) in (
      refl,
      ap (λ (z : ℕ). Constant z v) (eqb-true w 32 l.1) ∙ ap (λ (z : ℕ). Constant 32 z) (eqb-true v a l.2),
      one_order e f l.0,
      eqb-true n 32 l.3,
    )

memory_load : (e : Endian) (a : ℕ) (b : Expression) (f : Endian) (n : ℕ) → is_load_of e a (Var Mem) b f n ≡ true → IsThat e a (Var Mem) b f n
memory_load e a (Constant w v) f n h = constant_load e a w v f n h
memory_load e a (Var x) f n h = absurd (cc)
memory_load e a (Load m b g k) f n h = absurd (cc)
memory_load e a (Store m b g k v) f n h = absurd (cc)
memory_load e a (Binary o x y) f n h = absurd (cc)
memory_load e a (Unary o x) f n h = absurd (cc)
memory_load e a (Cast k m x) f n h = absurd (cc)
memory_load e a (Let y m x b) f n h = absurd (cc)
memory_load e a (Unknown t) f n h = absurd (cc)
memory_load e a (Choose c x y) f n h = absurd (cc)
memory_load e a (Extract hi lo x) f n h = absurd (cc)
memory_load e a (Concat x y) f n h = absurd (cc)

-- a load that is that of the word is written so
pub that_load : (e : Endian) (a : ℕ) (m b : Expression) (f : Endian) (n : ℕ) → is_load_of e a m b f n ≡ true → IsThat e a m b f n
that_load e a (Var Mem) b f n h = memory_load e a b f n h
that_load e a (Var (Register k r)) b f n h = absurd (cc)
that_load e a (Var (Flag g)) b f n h = absurd (cc)
that_load e a (Var (Local x w)) b f n h = absurd (cc)
that_load e a (Constant w v) b f n h = absurd (cc)
that_load e a (Load m c g k) b f n h = absurd (cc)
that_load e a (Store m c g k v) b f n h = absurd (cc)
that_load e a (Binary o x y) b f n h = absurd (cc)
that_load e a (Unary o x) b f n h = absurd (cc)
that_load e a (Cast k m x) b f n h = absurd (cc)
that_load e a (Let y m x c) b f n h = absurd (cc)
that_load e a (Unknown t) b f n h = absurd (cc)
that_load e a (Choose c x y) b f n h = absurd (cc)
that_load e a (Extract hi lo x) b f n h = absurd (cc)
that_load e a (Concat x y) b f n h = absurd (cc)

turned : (p q r s : Bool) → ((if p && q && r && s then 0 else 1) == 0) ≡ (true && (q && r) && p && s)
turned true true true true = refl
turned true true true false = refl
turned true true false s = refl
turned true false r s = refl
turned false true true s = refl
turned false true false s = refl
turned false false r s = refl

memory_is : (e : Endian) (a : ℕ) (b : Expression) (f : Endian) (n : ℕ) →
    is_load_of e a (Var Mem) b f n ≡ (is_memory (Var Mem) && is_constant a b && same_order e f && (n == 32))
memory_is e a (Constant w v) f n = turned (same_order e f) (w == 32) (v == a) (n == 32)
memory_is e a (Var x) f n = refl
memory_is e a (Load m b g k) f n = refl
memory_is e a (Store m b g k v) f n = refl
memory_is e a (Binary o x y) f n = refl
memory_is e a (Unary o x) f n = refl
memory_is e a (Cast k m x) f n = refl
memory_is e a (Let y m x b) f n = refl
memory_is e a (Unknown t) f n = refl
memory_is e a (Choose c x y) f n = refl
memory_is e a (Extract hi lo x) f n = refl
memory_is e a (Concat x y) f n = refl

-- what makes a load that of the word
pub load_is : (e : Endian) (a : ℕ) (m b : Expression) (f : Endian) (n : ℕ) →
    is_load_of e a m b f n ≡ (is_memory m && is_constant a b && same_order e f && (n == 32))
load_is e a (Var Mem) b f n = memory_is e a b f n
load_is e a (Var (Register k r)) b f n = refl
load_is e a (Var (Flag g)) b f n = refl
load_is e a (Var (Local x w)) b f n = refl
load_is e a (Constant w v) b f n = refl
load_is e a (Load m d g k) b f n = refl
load_is e a (Store m d g k v) b f n = refl
load_is e a (Binary o x y) b f n = refl
load_is e a (Unary o x) b f n = refl
load_is e a (Cast k m x) b f n = refl
load_is e a (Let y m x d) b f n = refl
load_is e a (Unknown t) b f n = refl
load_is e a (Choose c x y) b f n = refl
load_is e a (Extract hi lo x) b f n = refl
load_is e a (Concat x y) b f n = refl
