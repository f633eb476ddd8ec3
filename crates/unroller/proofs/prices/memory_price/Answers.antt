use Rattle.std.proofs.Common.{refl, ◌+◌, ◌*◌, ◌-◌}
use Rattle.unroller.proofs.prices.memory_price.Goals as goal

pub returns : goal.returns
returns c = λ l s e k hl hs he hk.
    let own = c.plus-own.ensures (128 * l) (128 * s) (c.times-own_loads.ensures 128 l refl hl) (c.times-own_stores.ensures 128 s refl hs) in
    let stored = c.plus-stored.ensures (128 * l + 128 * s) (64 * (l * s)) own (c.times-with_stores.ensures 64 (l * s) refl (c.times.ensures l s hl hs)) in
    let joined = c.plus-joined.ensures (128 * l + 128 * s + 64 * (l * s)) (16 * (l * e)) stored
    (c.times-with_edges.ensures 16 (l * e) refl (c.times-2.ensures l e hl he)) in
    let paired = c.plus-paired.ensures (128 * l + 128 * s + 64 * (l * s) + 16 * (l * e)) (32 * (l * (l - 1))) joined
    (c.times-with_loads.ensures 32 (l * (l - 1)) refl (c.pairs.ensures l hl)) in
    c.plus.ensures (128 * l + 128 * s + 64 * (l * s) + 16 * (l * e) + 32 * (l * (l - 1))) (40 * (l * k)) paired
    (c.times-with_known.ensures 40 (l * k) refl (c.times-3.ensures l k hl hk))
