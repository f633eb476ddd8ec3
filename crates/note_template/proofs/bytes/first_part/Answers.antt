use Rattle.std.proofs.Common.{ℕ, List, ap, sym, ◌∙◌, ◌∷◌, [], ◌<◌, ◌-◌, ◌+◌, take, drop, length, arith}
use Rattle.std.proofs.lemmas.List.{take_all, length-drop}
use Rattle.note_template.specs.TemplateLines.{parts}
use Rattle.note_template.proofs.Parting.{before, parts_at, part_first, part_last}
use Rattle.note_template.proofs.bytes.first_part.Goals as goal

pub returns-then-count-text-clause-last : goal.returns-then-count-text-clause-last
returns-then-count-text-clause-last c =
    let text : List ℕ = c.args.text.now in
    let n : ℕ = c.count_before-count.result in
    part_last c.args.end text (sym c.count_before-count.ensures.count ∙ c.if-count-text.true) ∙ ap
    (λ w. w ∷ []) (sym (take_all n text (omega (arith, c.if-count-text.true))))

pub returns-clause-more : goal.returns-clause-more
returns-clause-more c =
    let text : List ℕ = c.args.text.now in
    let n : ℕ = c.count_before-count.result in
    let below : before c.args.end text < length text = omega
    (arith, c.count_before-count.ensures.count, c.count_before-count.ensures.within, c.if-count-text.false) in
    part_first c.args.end text below ∙ ap (λ k. parts_at c.args.end text k) (sym c.count_before-count.ensures.count)
    ∙ ap (λ l. take n text ∷ parts c.args.end l) (sym (take_all (length text - (n + 1)) (drop (n + 1) text) (omega (arith, length-drop (n + 1) text))))
