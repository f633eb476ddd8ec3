use Rattle.std.proofs.Common.{◌≡◌, ℕ, ◌+◌, ◌-◌, ◌*◌, ◌/◌, ◌%◌, ◌^◌, ◌<◌, arith}
use Rattle.std.proofs.lemmas.Grind.{common_steps}
use Rattle.std.proofs.lemmas.Nat.{and_mask}
use Rattle.rv_decode.proofs.fields.field.Goals as goal

-- a one, shifted to the left within 32 bits
shifted : (k : ℕ) → k < 32 → 1 * 2 ^ k % 2 ^ 32 ≡ 2 ^ k
shifted k h = grind (arith, common_steps)

pub returns : goal.returns
returns c =
    let e = shifted (c.args.high + 1 - c.args.low) (omega arith) in
    rw e (and_mask (c.args.word / 2 ^ c.args.low) (c.args.high + 1 - c.args.low))
