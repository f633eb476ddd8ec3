use Rattle.std.proofs.Common.{◌≡◌, ◌+◌, ◌-◌, length, arith}
use Rattle.clause_spec.specs.Clauses.{AreOnVariables}
use Rattle.sat_core.proofs.Places.{count-values, table-satisfies}
use Rattle.sat_core.proofs.Learning.{learned-useful}
use Rattle.sat_core.proofs.search.take_turn.Goals as goal

pub minimise-requires-clause-conflict : goal.minimise-requires-clause-conflict
minimise-requires-clause-conflict c =
    let e = c.in_ok-descend.ensures in
    rw (c.deref-in-Blocked.ensures.value, e.clauses) (rw c.in-Blocked.is at e.descent).1

pub returns-in_ok-list-in-Model-clause-turn : goal.returns-in_ok-list-in-Model-clause-turn
returns-in_ok-list-in-Model-clause-turn c =
    let t = c.descend.new.propagator.trail.table.items in
    let e = c.in_ok-descend.ensures in
    let d = rw c.in-Model.is at e.descent in
    let some = c.requires.some in
    let size : length t ≡ (length c.args.propagator.now.trail.table.items - 1) + 1 = (let q = e.size in omega arith) in
    let n : length t - 1 ≡ length c.args.propagator.now.trail.table.items - 1 = omega arith in
    let over : AreOnVariables (length t - 1) c.args.propagator.now.clauses.items = rw e.size c.requires.sound.ready.over in
    rw (c.in_ok-list-in-Model.ensures, c.deref.ensures.value)
    (count-values t (length c.args.propagator.now.trail.table.items - 1) size, table-satisfies t c.args.propagator.now.clauses.items over d.1 d.0)

pub returns-in_ok-learned-in-Blocked-clause-turn : goal.returns-in_ok-learned-in-Blocked-clause-turn
returns-in_ok-learned-in-Blocked-clause-turn c =
    let e = c.in_ok-descend.ensures in
    let d = rw c.in-Blocked.is at e.descent in
    let m = c.in_ok-learned-in-Blocked.ensures in
    let k = rw (c.deref-in-Blocked.ensures.value, e.clauses) at m.kept in
    let w = rw e.size at d.0.over in
    record {
      hinted = k.hinted;
      over = λ l p. w l (k.part l p);
      plain = k.plain;
      useful = learned-useful c.args.propagator.now.clauses.items c.in-Blocked.full.items c.in_ok-learned-in-Blocked.learned.lits.items
          c.in_ok-learned-in-Blocked.learned.hints.items k (rw e.clauses at m.minimal) d.0.decided;
    }
