use Rattle.std.proofs.Common.{refl, ◌+◌, ◌*◌}
use Rattle.unroller.proofs.prices.gate_price.Goals as goal

pub returns : goal.returns
returns c = λ r e l s k hr he hl hs hk.
    let first = c.plus-first.ensures 1024 r refl hr in
    let led = c.plus-led.ensures (1024 + r) (1280 * e) first (c.times.ensures 1280 e refl he) in
    let evaluated = c.plus-evaluated.ensures (1024 + r + 1280 * e) l led hl in
    c.plus.ensures (1024 + r + 1280 * e + l) (128 * (s * k)) evaluated (c.times-3.ensures 128 (s * k) refl (c.times-2.ensures s k hs hk))
