use Rattle.std.proofs.Common.{true, List, ap, subst, sym, ◌∙◌}
use Rattle.frame_spec.specs.FramePoints.{Point}
use Rattle.smtlib_print.specs.Numbered.{AreOnce, AreRanks}
use Rattle.smtlib_print.specs.Orders.{points_by}
use Rattle.smtlib_print.proofs.Placing.{frame_points}
use Rattle.smtlib_print.proofs.numbering.frame_numbers.Goals as goal

pub returns-clause-ranks : goal.returns-clause-ranks
returns-clause-ranks c apart =
    let same = frame_points c.args.unrolled.now ∙ ap (points_by c.args.unrolled.now true) (sym c.deref.ensures.value) in
    subst (λ (l : List Point). AreRanks l c.in_ok-numbers.numbers.items) (sym same) (c.in_ok-numbers.ensures.ranks (subst AreOnce same apart))
