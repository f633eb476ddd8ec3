-- The values of an `all`, tried one after the other.
use Rattle.std.proofs.Common.{rules, Box, Global, ◌≡◌, ℕ, zero, suc, ◌+◌, ◌-◌, ◌<◌, ◌≤◌, Bool, true, false, List, [], ◌∷◌, refl, sym, ap, subst, ◌∙◌, map, arith}
use Rattle.std.specs.Prelude.{◌==◌, ◌&&◌, not}
use Rattle.word_spec.specs.Words.{bit}
use Rattle.word_spec.specs.Memory.{Endian}
use Rattle.word_spec.specs.State.{State}
use Rattle.word_spec.specs.RowFiles.{from_to}
use Rattle.bilv_spec.specs.Notes.{Expr, Number, Register, Flag, Pc, Bound, Memory, Old, Not, Binary, value, is_true, put_bound, each, written_out}
use Rattle.notes_value.specs.Reads.{IsReadable}
use Rattle.notes_value.specs.declared.expressions.Expr as code
use Rattle.notes_value.specs.declared.expressions.Expr.{size-Expr}
use Rattle.notes_value.specs.declared.expressions.Expr.TheViews.{the_lemmas}
use Rattle.notes_value.specs.declared.expressions.Expr.TheVariants as expr

-- the numbers behind one
abbrev pub behind : (high v : ℕ) → List ℕ
behind high v = from_to (v + 1) (high - v)

-- the value of the expression for some numbers, joined
abbrev pub tried : Endian → Expr → State → State → List ℕ → ℕ
tried order e now entry vs = value order (each (map (λ v. put_bound v e) vs)) now entry

-- up to a number all are true
pub record IsLeft (order : Endian) (e : Expr) (now entry : State) (low high v : ℕ) : Type 0 where
  pub same : value order (written_out low high e) now entry ≡ tried order e now entry (behind high v)
  pub above : low ≤ v

is_bit : (b : Bool) → bit (is_true (bit b)) ≡ bit b
is_bit true = refl
is_bit false = refl

tried_bit : (order : Endian) (e : Expr) (now entry : State) (vs : List ℕ) → bit (is_true (tried order e now entry vs)) ≡ tried order e now entry vs
tried_bit order e now entry [] = refl
tried_bit order e now entry (v ∷ vs) = is_bit _

-- one that is true leaves the others
pub next_true : (order : Endian) (e : Expr) (now entry : State) (v : ℕ) (vs : List ℕ) → is_true (value order (put_bound v e) now entry) ≡ true →
    tried order e now entry (v ∷ vs) ≡ tried order e now entry vs
next_true order e now entry v vs t =
    ap (λ b. bit (b && is_true (tried order e now entry vs))) t ∙ tried_bit order e now entry vs

-- one that is false makes all false
pub next_false : (order : Endian) (e : Expr) (now entry : State) (v : ℕ) (vs : List ℕ) → is_true (value order (put_bound v e) now entry) ≡ false →
    tried order e now entry (v ∷ vs) ≡ 0
next_false order e now entry v vs t = ap (λ b. bit (b && is_true (tried order e now entry vs))) t

behind_next : (high v n : ℕ) → high - v ≡ suc n → high - (v + 1) ≡ n
behind_next high v n e = omega arith

pub behind_is : (high v : ℕ) → v < high → behind high v ≡ (v + 1) ∷ behind high (v + 1)
behind_is high v lt = by (high - v) refl where
  by : (n : ℕ) → high - v ≡ n → behind high v ≡ (v + 1) ∷ behind high (v + 1)
  by zero e = absurd (omega arith)
  by (suc n) e = ap (from_to (v + 1)) e ∙ ap (λ z. (v + 1) ∷ from_to (v + 1 + 1) z) (sym (behind_next high v n e))

pub behind_none : (high v : ℕ) → high ≤ v → behind high v ≡ []
behind_none high v le = let z : high - v ≡ 0 = omega arith in ap (from_to (v + 1)) z

true_of : (n : ℕ) → (n == 0) ≡ false → is_true n ≡ true
true_of n e = ap not e

false_of : (n : ℕ) → (n == 0) ≡ true → is_true n ≡ false
false_of n e = ap not e

module _ (order : Endian) (e : Expr) (now entry : State) (low high : ℕ) where
  -- the first is false
  pub none_left : (r : ℕ) → r ≡ value order (put_bound low e) now entry → (r == 0) ≡ true → 0 ≡ value order (written_out low high e) now entry
  none_left r is z =
      sym (next_false order e now entry low (behind high low) (false_of _ (subst (λ x. (x == 0) ≡ true) is z)))

  -- the first is true
  pub begins : (r : ℕ) → r ≡ value order (put_bound low e) now entry → (r == 0) ≡ false → IsLeft order e now entry low high low
  begins r is n = record {
    same = next_true order e now entry low (behind high low) (true_of _ (subst (λ x. (x == 0) ≡ false) is n));
    above = omega arith;
  }

  -- one more is false
  pub stops : (v r : ℕ) → IsLeft order e now entry low high v → v < high → r ≡ value order (put_bound (v + 1) e) now entry → (r == 0) ≡ true →
      0 ≡ value order (written_out low high e) now entry
  stops v r left lt is z =
      sym (left.same ∙ ap (tried order e now entry) (behind_is high v lt)
      ∙ next_false order e now entry (v + 1) (behind high (v + 1)) (false_of _ (subst (λ x. (x == 0) ≡ true) is z)))

  -- one more is true
  pub goes_on : (v r : ℕ) → IsLeft order e now entry low high v → v < high → r ≡ value order (put_bound (v + 1) e) now entry → (r == 0) ≡ false →
      IsLeft order e now entry low high (v + 1)
  goes_on v r left lt is n = record {
    same = left.same ∙ ap (tried order e now entry) (behind_is high v lt)
        ∙ next_true order e now entry (v + 1) (behind high (v + 1)) (true_of _ (subst (λ x. (x == 0) ≡ false) is n));
    above = let a = left.above in omega arith;
  }

  -- none is left
  pub ends : (v : ℕ) → IsLeft order e now entry low high v → high ≤ v → 1 ≡ value order (written_out low high e) now entry
  ends v left le = sym (left.same ∙ ap (tried order e now entry) (behind_none high v le))

-- what is read is read with a number in place of the bound name, and what was read before it
open_readable : (has : ℕ → Bool) (v : ℕ) (e : Expr) → IsReadable has (put_bound v e) → IsReadable has e
open_readable has v (Number n) h = h
open_readable has v (Register r) h = h
open_readable has v (Flag f) h = h
open_readable has v Pc h = h
open_readable has v Bound h = h
open_readable has v (Memory n a) h = open_readable has v a h
open_readable has v (Old a) h = open_readable has v a h
open_readable has v (Not a) h = open_readable has v a h
open_readable has v (Binary op a b) h = (open_readable has v a h.0, open_readable has v b h.1)

pub readable_all : (has : ℕ → Bool) (low high : ℕ) (e : Expr) → IsReadable has (written_out low high e) → IsReadable has e
readable_all has low high e h = open_readable has low e h.0

-- the expression of an `all` is less deep than it
pub smaller : (e a : code.Expr) (low high : ℕ) (b : Box code.Expr Global) → e ≡ expr.All low high b → a ≡ b.value → size-Expr a < size-Expr e
smaller e a low high b is at = search (rules, the_lemmas)
