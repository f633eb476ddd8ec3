use Rattle.smtlib_print.proofs.terms.+push_store.Given as goal

abbrev pub decreases-push_store : goal.decreases-push_store
decreases-push_store l = l.count
