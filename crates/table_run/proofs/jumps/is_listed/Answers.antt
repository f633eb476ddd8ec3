use Rattle.std.proofs.Common.{sym, ap, ◌∙◌, arith}
use Rattle.std.specs.Prelude.{nat_eq}
use Rattle.std.specs.List.{list_any}
use Rattle.table_run.proofs.Hits.{is_listed, not_listed}
use Rattle.table_run.proofs.jumps.is_listed.Goals as goal

pub returns-then-is_among : goal.returns-then-is_among
returns-then-is_among c =
    is_listed c.args.to c.args.at c.args.targets.now c.args.index.now c.group-low.result.0 c.group-low.result.1 c.loop-i.i _ c.index-targets-index.result
    (c.group-low.ensures.places _ c.requires) (omega arith) (omega arith)
    (ap (list_any (nat_eq c.args.to)) (sym c.deref.ensures.value) ∙ sym c.if-is_among.ensures)

pub returns : goal.returns
returns c =
    not_listed c.args.to c.args.at c.args.targets.now c.args.index.now c.group-low.result.0 c.group-low.result.1 (c.group-low.ensures.places _ c.requires)
    (λ j d e from upto. c.loop-i.invariant j d e from (omega arith))
