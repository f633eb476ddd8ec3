use Rattle.std.proofs.Common.{rules, is_lt}
use Rattle.std.proofs.lemmas.Cmp.{nat_list_cmp_total}
use Rattle.std.proofs.lemmas.Fn.{always_returns_same}
use Rattle.std.proofs.lemmas.List.MinMax.{ranks_by}
use Rattle.std.proofs.lemmas.Result.{on_ok_weaker}
use Rattle.smtlib_print.specs.Orders.{placed_order, placed_point, point_key}
use Rattle.smtlib_print.proofs.ordering.sort.Goals as goal

pub returns-clause-sorted : goal.returns-clause-sorted
returns-clause-sorted c =
    let frames = c.args.frames.now in
    on_ok_weaker c.sort_by.result
    (λ sorted. sorted (λ a b. is_lt (placed_order frames a b)) (ranks_by nat_list_cmp_total (λ x. point_key (placed_point frames x)))
    (always_returns_same _ _ _ (λ a r f k. search rules)))
    c.sort_by.ensures.sorted
