use Rattle.std.proofs.Common.{◌+◌, refl, ap, sym, ◌∙◌, bit_and}
use Rattle.term_dag.specs.Folds.{literal_value}
use Rattle.term_dag.proofs.WordLaws.{rejoined_bits, signed_below}
use Rattle.term_dag.proofs.conditions.rejoins.Goals as goal

pub returns-then-is_same : goal.returns-then-is_same
returns-then-is_same c = λ t v f s.
    ap (λ z. bit_and (literal_value c.args.first v) (literal_value c.args.second v) + bit_and z (literal_value c.args.other_second v))
    (sym (c.if-is_same.ensures refl v))
    ∙ rejoined_bits _ _ _ (signed_below c.args.first.negated (v c.args.first.term.0) f) (signed_below c.args.second.negated (v c.args.second.term.0) s)
    (c.is_opposite.ensures t v s)
