use Rattle.std.proofs.Common.{refl, ap, ◌∙◌, length}
use Rattle.std.proofs.lemmas.List.{length-set}
use Rattle.sat_core.specs.Links.{place}
use Rattle.sat_core.proofs.Detaching.{detached-end, detached-next, from-within, from-listed, walk-smaller}
use Rattle.sat_core.proofs.visit.put_back.Goals as goal

pub index-next-requires : goal.index-next-requires
index-next-requires c =
    let w = c.loop-watch.watches in
    let lt = from-within w.heads.items w.links.items w.watched.items c.loop-watch.watch
    (place c.args.lit) c.loop-watch.invariant.detached c.loop-watch-test.true in
    rw w.links.ok.0 lt

pub link-requires-clause-watch : goal.link-requires-clause-watch
link-requires-clause-watch c =
    let w = c.loop-watch.watches in
    from-within w.heads.items w.links.items w.watched.items c.loop-watch.watch (place c.args.lit) c.loop-watch.invariant.detached c.loop-watch-test.true

pub loop-watch-smaller : goal.loop-watch-smaller
loop-watch-smaller c =
    let w = c.loop-watch.watches in
    let d = c.loop-watch.invariant.detached in
    let ne = c.loop-watch-test.true in
    let here = from-listed w.heads.items w.links.items w.watched.items c.loop-watch.watch (place c.args.lit) d ne in
    let within = rw (← c.loop-watch.invariant.heads) at c.requires.within in
    walk-smaller w.heads.items w.links.items w.watched.items c.loop-watch.watch (place c.args.lit) d ne w.watched.items
    (λ i h. refl) refl (place c.args.lit) c.index-next.result.now
    here within c.index-next.ensures c.link.new.self.links.items c.link.ensures.links

pub loop-watch-preserved : goal.loop-watch-preserved
loop-watch-preserved c =
    let w = c.loop-watch.watches in
    let inv = c.loop-watch.invariant in
    let ne = c.loop-watch-test.true in
    let here = from-listed w.heads.items w.links.items w.watched.items c.loop-watch.watch (place c.args.lit) inv.detached ne in
    let within = rw (← inv.heads) at c.requires.within in
    let next = detached-next w.heads.items w.links.items w.watched.items c.loop-watch.watch (place c.args.lit) inv.detached ne w.watched.items
    (λ i h. refl) refl (place c.args.lit)
    c.index-next.result.now here within c.index-next.ensures in
    record {
      detached = rw (c.link.ensures.heads, c.link.ensures.links, c.link.ensures.watched) next;
      heads = ap length c.link.ensures.heads ∙ length-set w.heads.items (place c.args.lit) c.loop-watch.watch ∙ inv.heads;
      watched = c.link.ensures.watched ∙ inv.watched;
      owners = c.link.ensures.owners ∙ inv.owners;
    }

pub returns-clause-linked : goal.returns-clause-linked
returns-clause-linked c =
    let w = c.loop-watch.watches in
    detached-end w.heads.items w.links.items w.watched.items c.loop-watch.watch (place c.args.lit) c.loop-watch.invariant.detached c.loop-watch-test.false
