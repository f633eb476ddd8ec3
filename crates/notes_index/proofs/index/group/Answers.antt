use Rattle.notes_index.proofs.Indexes.{group_ordered, group_is}
use Rattle.notes_index.proofs.index.group.Goals as goal

pub returns-clause-ordered : goal.returns-clause-ordered
returns-clause-ordered c =
    group_ordered c.args.index.now c.args.at c.first_from.result c.first_above.result c.first_from.ensures.within c.first_above.ensures.within
    c.first_from.ensures.before c.first_above.ensures.behind

pub returns-clause-places : goal.returns-clause-places
returns-clause-places c =
    group_is c.args.index.now c.args.at c.first_from.result c.first_above.result c.first_from.ensures.within c.first_above.ensures.within
    c.first_from.ensures.before c.first_from.ensures.behind c.first_above.ensures.before c.first_above.ensures.behind
