use Rattle.std.proofs.Common.{◌≡◌, ◌∙◌, length}
use Rattle.sat_core.proofs.Adding.{ready-short, ready-wide}
use Rattle.sat_core.proofs.propagator.Propagator.add.Goals as goal

pub returns-in_ok-push-in-None-clause-sound : goal.returns-in_ok-push-in-None-clause-sound
returns-in_ok-push-in-None-clause-sound c =
    let p = c.args.self.now in
    let s = c.requires.sound in
    let place : c.len-place.result ≡ length p.clauses.items = c.len-place.ensures ∙ p.clauses.ok.0 in
    record {
      ready = rw (c.in_ok-push.ensures.items, c.in_ok-push-in-None.ensures.items, place)
          (ready-short p.clauses.items c.args.clause p.watches.heads.items p.watches.links.items p.watches.owners.items p.short.items p.watches.watched.items
          (length p.trail.table.items) s.ready c.requires.over (rw c.lits.ensures at c.in-None.ensures.none));
      trail = s.trail;
    }

pub returns-in_ok-add-in-Some-clause-sound : goal.returns-in_ok-add-in-Some-clause-sound
returns-in_ok-add-in-Some-clause-sound c =
    let p = c.args.self.now in
    let s = c.requires.sound in
    let place : c.len-place.result ≡ length p.clauses.items = c.len-place.ensures ∙ p.clauses.ok.0 in
    let e = c.in_ok-add-in-Some.ensures in
    let t = c.in-Some.ensures in
    record {
      ready = rw (c.in_ok-push.ensures.items, e.owners, e.watched, place)
          (ready-wide p.clauses.items c.args.clause p.watches.heads.items p.watches.links.items p.watches.owners.items p.short.items p.watches.watched.items
          (length p.trail.table.items) s.ready c.requires.over c.in-Some.pair.0 c.in-Some.pair.1 (rw c.lits.ensures at t.first)
          (rw c.lits.ensures at t.second) t.apart
          c.add.new.self.heads.items c.add.new.self.links.items e.heads (rw e.watched at e.linked));
      trail = s.trail;
    }
