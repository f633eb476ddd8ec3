use Rattle.sat_core.proofs.Adding.{ready-start}
use Rattle.sat_core.proofs.propagator.Propagator.new.Goals as goal

pub returns-clause-sound : goal.returns-clause-sound
returns-clause-sound c =
    let w = c.in_ok-new.ensures in
    let t = c.in_ok-new-2.ensures in
    record {
      ready = rw (c.new.ensures.items, c.new-2.ensures.items, w.links, w.watched, w.owners, t.size)
          (ready-start c.in_ok-new.field-0.heads.items c.args.size w.heads.0 w.heads.1);
      trail = t.trail;
    }
