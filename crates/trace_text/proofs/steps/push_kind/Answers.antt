use Rattle.std.proofs.Common.{sym, refl, subst, codes}
use Rattle.trace_texts_spec.specs.StepLines.{IsKindText}
use Rattle.seen_step.specs.Views.{kind_of}
use Rattle.trace_text.specs.Appending.{IsAppended}
use Rattle.trace_text.proofs.steps.push_kind.Goals as goal

pub returns-in_ok-push_row-in-Row : goal.returns-in_ok-push_row-in-Row
returns-in_ok-push_row-in-Row g c =
    subst (λ k. IsAppended (IsKindText g.M.Machine.machine g.M.Machine.bank c.args.image.now c.args.step.now.at (kind_of k)) c.args.out.now.items
    c.push_row.new.out.items) (sym c.in-Row.is) c.in_ok-push_row-in-Row.ensures

pub returns-in_ok-push_text-in-Contract : goal.returns-in_ok-push_text-in-Contract
returns-in_ok-push_text-in-Contract g c =
    subst (λ k. IsAppended (IsKindText g.M.Machine.machine g.M.Machine.bank c.args.image.now c.args.step.now.at (kind_of k)) c.args.out.now.items
    c.push_text.new.out.items) (sym c.in-Contract.is) (codes "  contract", refl, c.in_ok-push_text-in-Contract.ensures)

pub returns-in_ok-push_text-in-Arrival : goal.returns-in_ok-push_text-in-Arrival
returns-in_ok-push_text-in-Arrival g c =
    subst (λ k. IsAppended (IsKindText g.M.Machine.machine g.M.Machine.bank c.args.image.now c.args.step.now.at (kind_of k)) c.args.out.now.items
    c.push_text-in-Arrival.new.out.items) (sym c.in-Arrival.is) (codes "  head", refl, c.in_ok-push_text-in-Arrival.ensures)
