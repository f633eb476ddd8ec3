-- What lines that are true say of registers.
use Rattle.std.specs.Int.Bits.{and_zero_r}
use Rattle.std.proofs.Common.{◌≡◌, ℕ, zero, suc, ◌^◌, ◌<◌, ◌≤◌, Bool, true, false, ◌&&◌, bit_and, List, [], ◌∷◌, ◌++◌, replicate, refl, sym, subst, ◌∙◌, arith}
use Rattle.std.proofs.lemmas.Bool.{eqb-true, ltb-true, leb-true}
use Rattle.std.proofs.lemmas.Nat.{and_comm}
use Rattle.std.proofs.lemmas.List.Folds.{list_all-append}
use Rattle.word_spec.specs.Words.{bit}
use Rattle.bilv_spec.specs.Notes.{Expr, And, Equal, Above, AtLeast, BitAnd, Number, Register, Binary, value, apply, is_true}
use Rattle.walk_spec.specs.Unrolled.{UnrolledProgram}
use Rattle.walk_spec.specs.Prices.{entry_lines}
use Rattle.weakest_pre.specs.declared.facts.Known.{Known}
use Rattle.weakest_pre.specs.declared.facts.Fact.{Fact}
use Rattle.weakest_pre.specs.Entry.{all_true}
use Rattle.weakest_pre.specs.Known.{AreWords, IsMet, AreMet, AreFactsOf, IsSaid, IsLearnt, IsNoted, AreNoted, known_of, nothing}

-- a bit that counts as true
true_bit : (b : Bool) → is_true (bit b) ≡ true → b ≡ true
true_bit true h = refl
true_bit false h = h

-- comparisons that are true
pub equal_true : (a b : ℕ) → is_true (apply Equal a b) ≡ true → a ≡ b
equal_true a b h = eqb-true a b (true_bit _ h)

pub above_true : (a b : ℕ) → is_true (apply Above a b) ≡ true → b < a
above_true a b h = ltb-true b a (true_bit _ h)

pub least_true : (a b : ℕ) → is_true (apply AtLeast a b) ≡ true → b ≤ a
least_true a b h = leb-true b a (true_bit _ h)

-- two tests of which both are true
both_parts : (p q : Bool) → (p && q) ≡ true → (p ≡ true) × (q ≡ true)
both_parts true q h = (refl, h)
both_parts false q h = absurd (cc)

-- so are both sides of `and`
pub and_true : (a b : ℕ) → is_true (apply And a b) ≡ true → (is_true a ≡ true) × (is_true b ≡ true)
and_true a b h = both_parts _ _ (true_bit _ h)

-- what is said of a register whose bits are picked by a mask before it
pub picked_turned : (a b : Expr) (m r n : ℕ) (f : Fact) → a ≡ Number m → b ≡ Register r → f.register ≡ r →
    ((w : ℕ) → w < 2 ^ 32 → bit_and w m ≡ n → IsMet f.known w) → IsSaid (Binary Equal (Binary BitAnd a b) (Number n)) f
picked_turned a b m r n f p q same known = λ e s w h.
    let first = subst (λ (z : Expr). is_true (value e (Binary Equal (Binary BitAnd z b) (Number n)) s s) ≡ true) p h in
    let both = subst (λ (z : Expr). is_true (value e (Binary Equal (Binary BitAnd (Number m) z) (Number n)) s s) ≡ true) q first in
    subst (λ (z : ℕ). IsMet f.known (s.regs z)) (sym same) (known (s.regs r) (w r) (and_comm (s.regs r) m ∙ equal_true (bit_and m (s.regs r)) n both))

-- what `and` says besides what is known: what both its sides say
pub noted_both : (old mid new : List Known) (x a b : Expr) → x ≡ Binary And a b → IsNoted old mid a → IsNoted mid new b → IsNoted old new x
noted_both old mid new x a b is p q = λ e s w h met.
    let parts = and_true (value e a s s) (value e b s s) (subst (λ (z : Expr). is_true (value e z s s) ≡ true) is h) in
    q e s w parts.1 (p e s w parts.0 met)

-- what an expression says of a register
pub noted_one : (old new : List Known) (x y : Expr) (f : Fact) → x ≡ y → IsSaid y f → IsLearnt old new f → IsNoted old new x
noted_one old new x y f is said learnt = λ e s w h met.
    learnt s.regs met (said e s w (subst (λ (z : Expr). is_true (value e z s s) ≡ true) is h))

-- one expression besides those before it
pub noted_more : (old mid new : List Known) (done : List Expr) (x : Expr) → AreNoted old mid done → IsNoted mid new x → AreNoted old new (done ++ x ∷ [])
noted_more old mid new done x before one = λ e s w h met.
    let test = λ (z : Expr). is_true (value e z s s) in
    let parts = both_parts (all_true e done s) _ (sym (list_all-append test done (x ∷ [])) ∙ h) in
    one e s w (both_parts _ _ parts.1).0 (before e s w parts.0 met)

-- nothing is known at first
blank : (n r : ℕ) → known_of (replicate n nothing) r ≡ nothing
blank zero r = refl
blank (suc n) zero = refl
blank (suc n) (suc r) = blank n r

pub blank_met : (n : ℕ) (regs : ℕ → ℕ) → AreWords regs → AreMet (replicate n nothing) regs
blank_met n regs w r =
    let below = w r in
    subst (λ (k : Known). IsMet k (regs r)) (sym (blank n r)) (record { bits = and_zero_r (regs r); low = omega arith; high = omega arith })

-- what the required lines say is known
pub facts_met : (u : UnrolledProgram) (n : ℕ) (lines : List Expr) (old new : List Known) → lines ≡ entry_lines u → old ≡ replicate n nothing →
    AreNoted old new lines → AreFactsOf u new
facts_met u n lines old new e blank noted = λ s w h.
    noted u.endian s w (subst (λ (z : List Expr). all_true u.endian z s ≡ true) (sym e) h)
    (subst (λ (z : List Known). AreMet z s.regs) (sym blank) (blank_met n s.regs w))
