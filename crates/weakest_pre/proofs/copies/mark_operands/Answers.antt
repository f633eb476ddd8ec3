use Rattle.std.proofs.Common.{◌<◌, ℕ, List, length, sym, subst, ap, ◌∙◌}
use Rattle.std.specs.List.{AllByRecursion}
use Rattle.weakest_pre.specs.Copies.{marked}
use Rattle.weakest_pre.proofs.copies.mark_operands.Goals as goal

pub mark_all-requires : goal.mark_all-requires
mark_all-requires c = subst (λ (is : List ℕ). AllByRecursion (λ a. a < length c.args.marks.now) is) (sym c.operands-count.ensures.are) c.requires

pub returns : goal.returns
returns c = c.mark_all.ensures ∙ ap (marked c.args.marks.now) c.operands-count.ensures.are
