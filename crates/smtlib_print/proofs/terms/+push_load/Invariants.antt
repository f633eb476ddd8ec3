use Rattle.smtlib_print.proofs.terms.+push_load.Given as goal

abbrev pub decreases-push_load : goal.decreases-push_load
decreases-push_load l = l.more
