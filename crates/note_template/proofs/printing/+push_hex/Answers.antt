use Rattle.std.proofs.Common.{◌≡◌, ap, ◌∙◌, ◌++◌, ◌-◌, ◌/◌, ◌%◌, ◌∷◌, []}
use Rattle.word_spec.specs.Texts.{hex_digit, hex_digits}
use Rattle.note_template.proofs.Appends.{two, hex_more}
use Rattle.note_template.proofs.printing.+push_hex.Goals as goal

pub returns : goal.returns
returns t c =
    let digit : c.hex_digit.result ∷ [] ≡ hex_digit (c.args.v % 16) ∷ [] = ap (λ d. d ∷ []) c.hex_digit.ensures in
    two c.args.out.now.items c.push_hex.new.out.items c.push.new.self.items (hex_digits (c.args.count - 1) (c.args.v / 16)) (c.hex_digit.result ∷ [])
    c.in_ok-push_hex.ensures c.in_ok-push.ensures.items
    ∙ ap (λ l. c.args.out.now.items ++ l) (ap (λ l. hex_digits (c.args.count - 1) (c.args.v / 16)
    ++ l) digit ∙ hex_more c.args.count c.args.v c.if-count-eq0.false)
