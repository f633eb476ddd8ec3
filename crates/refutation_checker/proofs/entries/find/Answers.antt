use Rattle.std.proofs.Common.{sym, ◌∙◌, ap}
use Rattle.std.specs.Option.{option_copied}
use Rattle.refutation_checker.proofs.Places.{look_up-at, look_up-none, seen, unseen}
use Rattle.refutation_checker.proofs.entries.find.Goals as goal

pub returns-in_err-at : goal.returns-in_err-at
returns-in_err-at c = ap option_copied c.from_residual.ensures ∙ sym (look_up-none c.args.entries.now c.args.id c.in_err-at.ensures.absent)

pub returns-then-entry : goal.returns-then-entry
returns-then-entry c =
    sym (look_up-at c.args.entries.now c.in_ok-at.at c.index-entries-at.result c.args.id c.requires c.in_ok-at.ensures.within c.index-entries-at.is
    c.in_ok-at.ensures.found
    ∙ seen c.index-entries-at.result c.if-entry.true)

pub returns-else-entry : goal.returns-else-entry
returns-else-entry c =
    sym (look_up-at c.args.entries.now c.in_ok-at.at c.index-entries-at.result c.args.id c.requires c.in_ok-at.ensures.within c.index-entries-at.is
    c.in_ok-at.ensures.found
    ∙ unseen c.index-entries-at.result c.if-entry.false)
