use Rattle.std.proofs.Common.{◌≡◌, ℕ, ◌∙◌, ◌+◌, ◌-◌, ◌*◌, ap, sym, take, drop, arith}
use Rattle.std.specs.Prelude.{unwrap_or}
use Rattle.word_gates.specs.Numbers.{input_number, number}
use Rattle.bit_blast.specs.Places.{seen}
use Rattle.bit_blast.proofs.PartPlaces.{one_read}
use Rattle.bit_blast.proofs.Seen.{seen_number}
use Rattle.bit_blast.proofs.reads.read_bits.Goals as goal

pub returns-clause-value : goal.returns-clause-value
returns-clause-value c = λ v.
    let bits = c.args.inputs.now in
    let p = c.args.places.now in
    let f : ℕ = p.first_byte + 8 * c.in-Some.place in
    let e : f + 8 - f ≡ 8 = omega arith in
    let at = sym c.read.ensures ∙ c.in-Some.is in
    let few = one_read p c.args.part c.args.read c.in-Some.place c.requires.there at in
    ap (λ (z : ℕ). number v (take z (drop f bits))) e
    ∙ seen_number v bits f 8 (omega (arith, few, c.requires.order.all, c.requires.all))
    ∙ ap (λ z. input_number (seen bits v) (p.first_byte + 8 * z) 8) (sym (ap (λ z. unwrap_or z 0) at))
