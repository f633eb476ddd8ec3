use Rattle.std.proofs.Common.{◌≡◌, ℕ, ◌+◌, ◌%◌, ◌^◌, ◌<◌, ap, subst, ◌∙◌, arith, bit_xor}
use Rattle.word_spec.specs.Memory.{byte_in}
use Rattle.term_dag.proofs.values.memory_byte.Goals as goal

pub returns : goal.returns
returns c =
    let r = c.args.reading.now in
    let a = c.args.address in
    let same : (a + 0) % 2 ^ 32 % 2 ^ 32 ≡ a % 2 ^ 32 = omega arith in
    let e : byte_in r.memory.entries ((a + 0) % 2 ^ 32 % 2 ^ 32) ≡ byte_in r.memory.entries (a % 2 ^ 32) = ap (byte_in r.memory.entries) same in
    let l : c.load.result.bits < 2 ^ 8 = subst (λ (w : ℕ). c.load.result.bits < 2 ^ w) c.load.ensures.width c.load.result.below in
    let k : c.load.result.bits ≡ byte_in r.memory.entries (a % 2 ^ 32) % 256 = omega (arith, c.load.ensures.bits, e, l) in
    let f : r.fill ≡ r.fill % 256 = omega arith in
    ap (bit_xor r.fill) k ∙ ap (λ z. bit_xor z (byte_in r.memory.entries (a % 2 ^ 32) % 256)) f
