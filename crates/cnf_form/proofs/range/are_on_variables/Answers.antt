use Rattle.std.proofs.Common.{sym, ◌∙◌}
use Rattle.cnf_form.proofs.OnVariables.{on-sound, on-complete}
use Rattle.cnf_form.proofs.range.are_on_variables.Goals as goal

pub returns-clause-sound : goal.returns-clause-sound
returns-clause-sound c = λ h.
    on-sound c.args.cnf.now.variables c.args.cnf.now.clauses.items (rw c.deref.ensures.value at (sym c.are_within.ensures ∙ h))

pub returns-clause-complete : goal.returns-clause-complete
returns-clause-complete c = λ h. rw c.deref.ensures.value at c.are_within.ensures ∙ on-complete c.args.cnf.now.variables c.args.cnf.now.clauses.items h
