use Rattle.std.proofs.Common.{rules, ◌∙◌, ap, sym}
use Rattle.clause_spec.specs.Clauses.{valuation}
use Rattle.word_gates.specs.Numbers.{input_number}
use Rattle.pair_blast.proofs.linked.stand_in.Goals as goal

pub returns-clause-value : goal.returns-clause-value
returns-clause-value c = λ v ts x e r h.
    c.put.ensures.value v ts e
    (h (search rules) ∙ sym (c.first_input-first.ensures.value (valuation ts) x r)
    ∙ ap (input_number (valuation ts) c.first_input-first.result) (sym c.requires.width))
