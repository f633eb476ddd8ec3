use Rattle.std.proofs.Common.{◌≡◌, true, subst, arith}
use Rattle.bilv_spec.specs.Notes.{apply, is_true}
use Rattle.notes_value.specs.declared.expressions.Operator.{Operator}
use Rattle.notes_value.specs.Views.{op_of}
use Rattle.weakest_pre.proofs.Said.{above_true, least_true}
use Rattle.weakest_pre.proofs.facts.compared.Goals as goal

pub returns-in_ok-checked_add-in-Above : goal.returns-in_ok-checked_add-in-Above
returns-in_ok-checked_add-in-Above c = λ w l h.
    let more = above_true w c.args.number (subst (λ (o : Operator). is_true (apply (op_of o) w c.args.number) ≡ true) c.in-Above.is h) in
    c.between-in-Above.ensures w (omega (arith, c.in_ok-checked_add-in-Above.ensures)) (omega arith)

pub returns-in-AtLeast : goal.returns-in-AtLeast
returns-in-AtLeast c = λ w l h.
    let more = least_true w c.args.number (subst (λ (o : Operator). is_true (apply (op_of o) w c.args.number) ≡ true) c.in-AtLeast.is h) in
    c.between-in-AtLeast.ensures w more (omega arith)
