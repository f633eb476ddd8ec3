use Rattle.std.proofs.Common.{sym, ◌∙◌, ap, length}
use Rattle.std.specs.Prelude.{◌==◌}
use Rattle.cnf_form.proofs.Gatherings.{counted-ended, counted-unended}
use Rattle.cnf_form.proofs.gather.Gathered.is_counted.Goals as goal

pub returns-then-is_empty : goal.returns-then-is_empty
returns-then-is_empty c =
    rw (c.len.ensures, c.self.inside.ended.ok.0, c.clauses.ensures)
    (counted-ended c.self.inside.ended.items c.args.self.now c.args.header c.self.inside.unended (sym c.self.view_is) c.self.invariant
    (ap (λ x. length x == 0) (sym c.lits.ensures) ∙ sym c.is_empty.ensures ∙ c.if-is_empty.true))

pub returns-else-is_empty : goal.returns-else-is_empty
returns-else-is_empty c =
    c.if-is_empty.false
    ∙ counted-unended c.self.inside.ended.items c.args.self.now c.args.header c.self.inside.unended (sym c.self.view_is) c.self.invariant
    (ap (λ x. length x == 0) (sym c.lits.ensures) ∙ sym c.is_empty.ensures ∙ c.if-is_empty.false)
