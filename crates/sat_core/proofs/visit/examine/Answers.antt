use Rattle.std.proofs.Common.{◌∙◌, ap, sym, ◌/◌, length}
use Rattle.std.specs.Prelude.{slice_index}
use Rattle.clause_spec.specs.Clauses.{Clause, has}
use Rattle.sat_core.specs.declared.trail.Step.{Step}
use Rattle.sat_core.specs.Tables.{true_in}
use Rattle.sat_core.specs.Links.{mate, watched_at}
use Rattle.sat_core.specs.Moves.{HasAt}
use Rattle.sat_core.proofs.Backwards.{clause-read}
use Rattle.sat_core.proofs.Watching.{unit-from, conflict-from}
use Rattle.sat_core.proofs.Stepping.{run-nothing, run-step}
use Rattle.sat_core.proofs.Visiting.{owner-has, has-within, target-moves}
use Rattle.sat_core.proofs.visit.examine.Goals as goal

pub is_true-requires : goal.is_true-requires
is_true-requires c =
    let w = c.args.watches.now in
    let cs = c.args.clauses.now in
    let at = owner-has cs w.owners.items w.watched.items c.requires.placed c.args.watch c.requires.watch in
    rw (c.deref.ensures.value, c.owner-owner.ensures.mate) (has-within (length c.args.trail.now.table.items) cs _ _ c.requires.over at)

pub is_true-requires-in-None : goal.is_true-requires-in-None
is_true-requires-in-None c =
    let w = c.args.watches.now in
    let cs = c.args.clauses.now in
    let at = owner-has cs w.owners.items w.watched.items c.requires.placed c.args.watch c.requires.watch in
    rw (c.deref-in-None.ensures.value, c.opposite.ensures, c.owner-owner.ensures.mate)
    (has-within (length c.args.trail.now.table.items) cs _ _ c.requires.over at)

pub push-requires-clause-within : goal.push-requires-clause-within
push-requires-clause-within c =
    let w = c.args.watches.now in
    let cs = c.args.clauses.now in
    let at = owner-has cs w.owners.items w.watched.items c.requires.placed c.args.watch c.requires.watch in
    rw c.owner-owner.ensures.mate (has-within (length c.args.trail.now.table.items) cs _ _ c.requires.over at)

pub returns-in-Some-clause-moved : goal.returns-in-Some-clause-moved
returns-in-Some-clause-moved c =
    let w = c.args.watches.now in
    let cs = c.args.clauses.now in
    let e = c.in-Some.ensures in
    let o : HasAt cs c.owner-owner.result.0 c.owner-owner.result.1 =
    rw (c.owner-owner.ensures.owner, c.owner-owner.ensures.mate)
    (owner-has cs w.owners.items w.watched.items c.requires.placed c.args.watch c.requires.watch) in
    let q = clause-read cs c.owner-owner.result.0 o.0 c.index-clauses-owner.result o.1 c.index-clauses-owner.is in
    let at : HasAt cs c.owner-owner.result.0 c.in-Some.other = (o.0, o.1, ap (λ (z : Clause). has z c.in-Some.other) (sym (c.lits.ensures ∙ q)) ∙ e.among) in
    target-moves cs (slice_index w.owners.items (c.args.watch / 2)) w.watched.items (watched_at w.watched.items (mate c.args.watch))
    (true_in c.args.trail.now.table.items)
    (length c.args.trail.now.table.items) c.in-Some.other c.requires.over (rw c.owner-owner.ensures.owner at at) (rw c.deref-2.ensures.value at e.not_false)
    (rw c.owner-owner.ensures.mate at e.another)

pub returns-then-is_true-2-clause-moved : goal.returns-then-is_true-2-clause-moved
returns-then-is_true-2-clause-moved c =
    let w = c.args.watches.now in
    let cs = c.args.clauses.now in
    let o : HasAt cs c.owner-owner.result.0 c.owner-owner.result.1 =
    rw (c.owner-owner.ensures.owner, c.owner-owner.ensures.mate)
    (owner-has cs w.owners.items w.watched.items c.requires.placed c.args.watch c.requires.watch) in
    let q = clause-read cs c.owner-owner.result.0 o.0 c.index-clauses-owner.result o.1 c.index-clauses-owner.is in
    let e = rw (c.lits.ensures, q, c.deref-2.ensures.value) at c.in-None.ensures.none in
    let f = rw (c.deref-in-None.ensures.value, c.opposite.ensures, c.if-is_true-2.true) at c.is_true-in-None.ensures in
    (o.0, o.1, conflict-from (true_in c.args.trail.now.table.items) o.0 c.owner-owner.result.1 e (sym f))

pub returns-else-is_true-2-clause-run : goal.returns-else-is_true-2-clause-run
returns-else-is_true-2-clause-run c =
    let w = c.args.watches.now in
    let cs = c.args.clauses.now in
    let h = true_in c.args.trail.now.table.items in
    let steps = c.args.trail.now.steps.items in
    let o : HasAt cs c.owner-owner.result.0 c.owner-owner.result.1 =
    rw (c.owner-owner.ensures.owner, c.owner-owner.ensures.mate)
    (owner-has cs w.owners.items w.watched.items c.requires.placed c.args.watch c.requires.watch) in
    let q = clause-read cs c.owner-owner.result.0 o.0 c.index-clauses-owner.result o.1 c.index-clauses-owner.is in
    let e = rw (c.lits.ensures, q, c.deref-2.ensures.value) at c.in-None.ensures.none in
    let f = rw (c.deref-in-None.ensures.value, c.opposite.ensures, c.if-is_true-2.false) at c.is_true-in-None.ensures in
    let g = rw (c.deref.ensures.value, c.if-is_true.false) at c.is_true.ensures in
    let s : Step = record { clause = c.owner-owner.result.0; lit = c.owner-owner.result.1 } in
    run-step cs steps steps c.push.new.self.steps.items s h (run-nothing cs steps) c.requires.trail.told_by
    (o.0, o.1, unit-from h o.0 c.owner-owner.result.1 o.2 e (sym g) (sym f)) c.push.ensures.steps
