use Rattle.std.proofs.Common.{◌≡◌, ◌<◌, ◌*◌, ◌/◌, true, refl, sym, ap, ◌∙◌, length}
use Rattle.std.proofs.lemmas.List.{length-set}
use Rattle.std.specs.Prelude.{slice_index}
use Rattle.clause_spec.specs.Clauses.{opposite}
use Rattle.clause_spec.proofs.Looks.{same-true}
use Rattle.sat_core.specs.Tables.{true_in}
use Rattle.sat_core.specs.Links.{place}
use Rattle.sat_core.proofs.Chains.{place-same}
use Rattle.sat_core.proofs.Keeping.{placed-put}
use Rattle.sat_core.proofs.Detaching.{detached-end, from-within, from-listed}
use Rattle.sat_core.proofs.Stepping.{run-nothing, run-run}
use Rattle.sat_core.proofs.Visiting.{consistent, place-within, left-first, left-end, here-within, left-step, left-smaller, left-cuts}
use Rattle.sat_core.proofs.visit.visit.Goals as goal

pub loop-watch-init : goal.loop-watch-init
loop-watch-init c =
    let w = c.args.watches.now in
    let p = place c.args.lit in
    let lt : p < length w.heads.items = rw c.requires.heads (place-within c.args.lit (length c.args.trail.now.table.items) c.requires.within) in
    let e = c.detach-watch.ensures in
    record {
      trail = c.requires.trail;
      size = refl;
      room = refl;
      grows = λ l h. h;
      run = run-nothing c.args.clauses.now c.args.trail.now.steps.items;
      heads = ap length e.heads ∙ length-set w.heads.items p _;
      left = rw (e.heads, e.links, e.watched) (left-first w.heads.items w.links.items w.watched.items c.args.lit _ c.requires.linked c.detach-watch.result lt
          e.first);
      placed = rw (e.owners, e.watched) c.requires.placed;
      owners = e.owners;
      cuts = λ done holds i j a. rw e.watched a;
    }

pub examine-requires-clause-watch : goal.examine-requires-clause-watch
examine-requires-clause-watch c =
    let w = c.loop-watch.watches in
    let d = c.loop-watch.invariant.left.detached in
    rw d.linked.sizes (from-within w.heads.items w.links.items w.watched.items c.loop-watch.watch (place c.args.lit) d c.loop-watch-test.true)

pub examine-requires-clause-here : goal.examine-requires-clause-here
examine-requires-clause-here c =
    let w = c.loop-watch.watches in
    let d = c.loop-watch.invariant.left.detached in
    same-true _ _ (place-same _ _ (from-listed w.heads.items w.links.items w.watched.items c.loop-watch.watch (place c.args.lit) d c.loop-watch-test.true))

pub returns-in-Conflict-clause-run : goal.returns-in-Conflict-clause-run
returns-in-Conflict-clause-run c =
    run-run c.args.clauses.now c.args.trail.now.steps.items c.loop-watch.trail.steps.items c.examine.new.trail.steps.items c.loop-watch.invariant.run
    c.examine.ensures.run

pub returns-in-Conflict-clause-cuts : goal.returns-in-Conflict-clause-cuts
returns-in-Conflict-clause-cuts c = λ done holds i j a. rw c.put_back.ensures.watched (c.loop-watch.invariant.cuts done holds i j a)

pub index-next-requires : goal.index-next-requires
index-next-requires c =
    let w = c.loop-watch.watches in
    rw w.links.ok.0 (from-within w.heads.items w.links.items w.watched.items c.loop-watch.watch
    (place c.args.lit) c.loop-watch.invariant.left.detached c.loop-watch-test.true)

pub index_mut-requires : goal.index_mut-requires
index_mut-requires c =
    let w = c.loop-watch.watches in
    let d = c.loop-watch.invariant.left.detached in
    rw (w.watched.ok.0, d.linked.sizes) (from-within w.heads.items w.links.items w.watched.items c.loop-watch.watch (place c.args.lit) d c.loop-watch-test.true)

pub link-requires-clause-within : goal.link-requires-clause-within
link-requires-clause-within c =
    let t = c.in-To.ensures.moved in
    rw (c.loop-watch.invariant.heads, c.requires.heads, ← c.loop-watch.invariant.size, ← c.examine.ensures.size) t.room

pub link-requires-clause-watch : goal.link-requires-clause-watch
link-requires-clause-watch c =
    let w = c.loop-watch.watches in
    from-within w.heads.items w.links.items w.watched.items c.loop-watch.watch (place c.args.lit) c.loop-watch.invariant.left.detached c.loop-watch-test.true

pub returns-clause-linked : goal.returns-clause-linked
returns-clause-linked c =
    let w = c.loop-watch.watches in
    detached-end w.heads.items w.links.items w.watched.items c.loop-watch.watch (place c.args.lit) c.loop-watch.invariant.left.detached c.loop-watch-test.false

pub returns-clause-kept : goal.returns-clause-kept
returns-clause-kept c =
    let w = c.loop-watch.watches in
    left-end w.heads.items w.links.items w.watched.items c.args.lit c.args.watches.now.watched.items c.loop-watch.watch _ _ c.loop-watch.invariant.left
    c.loop-watch-test.false

pub loop-watch-smaller : goal.loop-watch-smaller
loop-watch-smaller c =
    let w = c.loop-watch.watches in
    let inv = c.loop-watch.invariant in
    let sizes : length w.heads.items ≡ 2 * length c.examine.new.trail.table.items =
    inv.heads ∙ c.requires.heads ∙ ap (λ n. 2 * n) (sym (c.examine.ensures.size ∙ inv.size)) in
    left-smaller w.heads.items w.links.items w.watched.items c.args.lit c.args.watches.now.watched.items c.loop-watch.watch
    (true_in c.args.trail.now.table.items)
    (true_in c.loop-watch.trail.table.items) inv.left c.loop-watch-test.true c.args.clauses.now (slice_index w.owners.items (c.loop-watch.watch / 2))
    (length c.examine.new.trail.table.items) (true_in c.examine.new.trail.table.items) c.in-To.target c.in-To.ensures.moved sizes c.examine.ensures.grows
    inv.grows
    (inv.grows (opposite c.args.lit) c.requires.negated)
    (λ z. consistent c.loop-watch.trail.table.items c.args.lit z (inv.grows (opposite c.args.lit) c.requires.negated))
    c.index-next.result.now c.index-next.ensures c.link.new.self.links.items c.link.ensures.links

pub loop-watch-preserved : goal.loop-watch-preserved
loop-watch-preserved c =
    let w = c.loop-watch.watches in
    let inv = c.loop-watch.invariant in
    let cs = c.args.clauses.now in
    let t = c.in-To.ensures.moved in
    let h = true_in c.args.trail.now.table.items in
    let k = true_in c.loop-watch.trail.table.items in
    let now = true_in c.examine.new.trail.table.items in
    let size = length c.examine.new.trail.table.items in
    let owner = slice_index w.owners.items (c.loop-watch.watch / 2) in
    let before = c.args.watches.now.watched.items in
    let grows = c.examine.ensures.grows in
    let negated = inv.grows (opposite c.args.lit) c.requires.negated in
    let dead = λ (z : k c.args.lit ≡ true). consistent c.loop-watch.trail.table.items c.args.lit z negated in
    let sizes : length w.heads.items ≡ 2 * size = inv.heads ∙ c.requires.heads ∙ ap (λ n. 2 * n) (sym (c.examine.ensures.size ∙ inv.size)) in
    let lt = here-within w.heads.items w.links.items w.watched.items c.args.lit before c.loop-watch.watch h k inv.left c.loop-watch-test.true cs owner size now
    c.in-To.target t sizes
    grows inv.grows negated dead c.index-next.result.now c.index-next.ensures in
    let left = left-step w.heads.items w.links.items w.watched.items c.args.lit before c.loop-watch.watch h k inv.left c.loop-watch-test.true cs owner size now
    c.in-To.target t sizes
    grows inv.grows negated dead c.index-next.result.now c.index-next.ensures in
    let cuts = left-cuts w.heads.items w.links.items w.watched.items c.args.lit before c.loop-watch.watch h k inv.left c.loop-watch-test.true cs owner size now
    c.in-To.target t sizes
    grows inv.grows negated dead c.index-next.result.now c.index-next.ensures in
    record {
      trail = c.examine.ensures.trail;
      size = c.examine.ensures.size ∙ inv.size;
      room = c.examine.ensures.room ∙ inv.room;
      grows = λ l p. grows l (inv.grows l p);
      run = run-run cs c.args.trail.now.steps.items c.loop-watch.trail.steps.items c.examine.new.trail.steps.items inv.run c.examine.ensures.run;
      heads = ap length c.link.ensures.heads ∙ length-set w.heads.items (place c.in-To.target) c.loop-watch.watch ∙ inv.heads;
      left = rw (c.link.ensures.heads, c.link.ensures.links, c.link.ensures.watched) left;
      placed = rw (c.link.ensures.owners, c.link.ensures.watched)
          (placed-put w.watched.items c.loop-watch.watch c.in-To.target lt cs w.owners.items inv.placed t.inside t.apart);
      owners = c.link.ensures.owners ∙ inv.owners;
      cuts = λ done holds i j a. rw c.link.ensures.watched
          (cuts done holds (λ l p. grows l (inv.grows l (i l p))) (λ l p. inv.grows l (j l p)) (inv.cuts done holds i j a));
    }
