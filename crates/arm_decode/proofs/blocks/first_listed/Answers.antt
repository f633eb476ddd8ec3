use Rattle.std.proofs.Common.{◌≡◌, ℕ, ◌+◌, ◌-◌, ◌<◌, suc, refl, sym, ◌∙◌, true, false, arith}
use Rattle.machine_spec.specs.Arm.{has_bit, first_of, listed_from}
use Rattle.arm_decode.proofs.blocks.first_listed.Goals as goal

found : (w r n : ℕ) → r < n → has_bit r w ≡ true → first_of (listed_from w r (n - r)) ≡ r
found w r n l h = let e : n - r ≡ suc (n - (r + 1)) = omega arith in rw (e, h) refl

passed : (w r n : ℕ) → r < n → has_bit r w ≡ false → first_of (listed_from w r (n - r)) ≡ first_of (listed_from w (r + 1) (n - (r + 1)))
passed w r n l h = let e : n - r ≡ suc (n - (r + 1)) = omega arith in rw (e, h) refl

pub returns-then-is_set : goal.returns-then-is_set
returns-then-is_set c =
    sym (c.loop-register.invariant ∙ found c.args.word c.loop-register.register c.args.«end» c.loop-register-test.true
    (sym c.is_set.ensures ∙ c.if-is_set.true))

pub loop-register-preserved : goal.loop-register-preserved
loop-register-preserved c =
    c.loop-register.invariant ∙ passed c.args.word c.loop-register.register c.args.«end» c.loop-register-test.true (sym c.is_set.ensures ∙ c.if-is_set.false)
