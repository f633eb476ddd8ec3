use Rattle.smtlib_print.proofs.terms.+push_take.Given as goal

abbrev pub decreases-push_take : goal.decreases-push_take
decreases-push_take l = l.count
