use Rattle.std.proofs.Common.{◌<◌, ◌≤◌, ◌+◌, ◌∙◌, ap, sym, arith, length, length-append, take, []}
use Rattle.std.specs.Prelude.{reverse}
use Rattle.std.proofs.lemmas.List.{take_all, take-append-le}
use Rattle.clause_spec.specs.Clauses.{Literal, opposite}
use Rattle.clause_spec.specs.UnitPropagation.{Includes}
use Rattle.clause_spec.specs.Refutation.{added}
use Rattle.clause_spec.proofs.NewClauses.{opposite_twice}
use Rattle.sat_core.specs.Tables.{true_in}
use Rattle.sat_core.specs.Steps.{told}
use Rattle.sat_core.specs.Trails.{nothing}
use Rattle.sat_core.proofs.Closing.{told-take, told-next, kept-fewer, ready-quiet, step-variable, step-true}
use Rattle.sat_core.proofs.Stepping.{run-run}
use Rattle.sat_core.proofs.Visiting.{consistent, met-more}
use Rattle.sat_core.proofs.propagate.propagate.Goals as goal

pub loop-done-init : goal.loop-done-init
loop-done-init c =
    let e = c.assert_short.ensures in
    let r = e.run in
    let le : c.args.from ≤ length c.args.trail.now.steps.items = c.requires.from in
    record {
      ready = rw e.size c.requires.ready;
      trail = e.trail;
      size = e.size;
      room = e.room;
      grows = e.grows;
      run = r;
      few = (let n = ap length r.1 in omega (arith, length-append c.args.trail.now.steps.items r.0));
      kept = kept-fewer c.args.watches.now.watched.items [] (told nothing (reverse (take c.args.from c.args.trail.now.steps.items)))
          (told nothing (reverse (take c.args.from c.assert_short.new.trail.steps.items))) (true_in c.args.trail.now.table.items)
          (true_in c.assert_short.new.trail.table.items)
          (λ l p. ap (λ z. told nothing (reverse z) l) (sym (ap
          (take c.args.from) r.1 ∙ take-append-le c.args.from c.args.trail.now.steps.items r.0 le)) ∙ p) e.grows c.requires.kept;
      met = c.in_default.ensures.met;
      cuts = λ done holds i j a. a;
    }

pub visit-requires-clause-within : goal.visit-requires-clause-within
visit-requires-clause-within c =
    let steps = c.loop-done.trail.steps.items in
    let lt : c.loop-done.done < length steps = (let a = c.loop-done-test.true in let b = c.len.ensures in let d = c.loop-done.trail.steps.ok.0
    in omega arith) in
    rw c.opposite-lit.ensures
    (step-variable (length c.loop-done.trail.table.items) steps c.loop-done.done c.index.result.now c.loop-done.invariant.trail.fresh lt c.index.ensures)

pub visit-requires-clause-negated : goal.visit-requires-clause-negated
visit-requires-clause-negated c =
    let steps = c.loop-done.trail.steps.items in
    let lt : c.loop-done.done < length steps = (let a = c.loop-done-test.true in let b = c.len.ensures in let d = c.loop-done.trail.steps.ok.0
    in omega arith) in
    ap (true_in c.loop-done.trail.table.items) (ap opposite c.opposite-lit.ensures ∙ opposite_twice c.index.result.now.lit)
    ∙ (c.loop-done.invariant.trail.told_by c.index.result.now.lit ∙ step-true steps c.loop-done.done c.index.result.now lt c.index.ensures)

pub returns-in-Some-visit-clause-run : goal.returns-in-Some-visit-clause-run
returns-in-Some-visit-clause-run c =
    run-run c.args.clauses.now c.args.trail.now.steps.items c.loop-done.trail.steps.items c.visit.new.trail.steps.items c.loop-done.invariant.run
    c.visit.ensures.run

pub returns-in-Some-visit-clause-cuts : goal.returns-in-Some-visit-clause-cuts
returns-in-Some-visit-clause-cuts c = λ done holds i j a.
    c.visit.ensures.cuts done holds (λ l p. c.loop-done.invariant.grows l (i l p))
    (λ l p. c.loop-done.invariant.grows l (j l p)) (c.loop-done.invariant.cuts done holds i j a)

pub returns-clause-kept : goal.returns-clause-kept
returns-clause-kept c =
    let inv = c.loop-done.invariant in
    let le : length c.loop-done.trail.steps.items ≤ c.loop-done.done = (let a = c.loop-done-test.false in let b = c.len.ensures in
    let d = c.loop-done.trail.steps.ok.0 in omega arith) in
    kept-fewer c.loop-done.watches.watched.items [] (told nothing (reverse (take c.loop-done.done c.loop-done.trail.steps.items)))
    (true_in c.loop-done.trail.table.items) (true_in c.loop-done.trail.table.items) (true_in c.loop-done.trail.table.items)
    (λ l p. ap (λ z. told nothing (reverse z) l) (take_all c.loop-done.done c.loop-done.trail.steps.items le) ∙ sym (inv.trail.told_by l) ∙ p)
    (λ l p. p) inv.kept

pub returns-clause-quiet : goal.returns-clause-quiet
returns-clause-quiet c =
    let inv = c.loop-done.invariant in
    let w = c.loop-done.watches in
    let le : length c.loop-done.trail.steps.items ≤ c.loop-done.done = (let a = c.loop-done-test.false in let b = c.len.ensures in
    let d = c.loop-done.trail.steps.ok.0 in omega arith) in
    let kept = kept-fewer c.loop-done.watches.watched.items [] (told nothing (reverse (take c.loop-done.done c.loop-done.trail.steps.items)))
    (true_in c.loop-done.trail.table.items) (true_in c.loop-done.trail.table.items) (true_in c.loop-done.trail.table.items)
    (λ l p. ap (λ z. told nothing (reverse z) l) (take_all c.loop-done.done c.loop-done.trail.steps.items le) ∙ sym (inv.trail.told_by l) ∙ p)
    (λ l p. p) inv.kept in
    ready-quiet c.args.clauses.now w.heads.items w.links.items w.owners.items c.args.short.now w.watched.items (length c.loop-done.trail.table.items) inv.ready
    (true_in c.loop-done.trail.table.items) (consistent c.loop-done.trail.table.items) inv.met kept

pub loop-done-preserved : goal.loop-done-preserved
loop-done-preserved c =
    let inv = c.loop-done.invariant in
    let steps = c.loop-done.trail.steps.items in
    let lt : c.loop-done.done < length steps = (let a = c.loop-done-test.true in let b = c.len.ensures in let d = c.loop-done.trail.steps.ok.0
    in omega arith) in
    let e = c.visit.ensures in
    let s = c.index.result.now in
    let h = true_in c.loop-done.trail.table.items in
    let now = true_in c.visit.new.trail.table.items in
    let done = told nothing (reverse (take c.loop-done.done steps)) in
    let r = inv.ready in
    let part : Includes done h = λ l p. inv.trail.told_by l ∙ told-take c.loop-done.done steps l p in
    let kept = c.in_default-visit.ensures.kept done part inv.kept in
    record {
      ready = rw e.size record {
        over = r.over;
        heads_size = e.heads ∙ r.heads_size;
        linked = e.linked;
        placed = e.placed;
        covered = rw e.owners r.covered;
      };
      trail = e.trail;
      size = e.size ∙ inv.size;
      room = e.room ∙ inv.room;
      grows = λ l p. e.grows l (inv.grows l p);
      run = run-run c.args.clauses.now c.args.trail.now.steps.items steps c.visit.new.trail.steps.items inv.run e.run;
      few = (let n = ap length e.run.1 in omega (arith, length-append steps e.run.0));
      kept = kept-fewer c.visit.new.watches.watched.items [] (added (opposite c.opposite-lit.result) done)
          (told nothing (reverse (take (c.loop-done.done + 1) c.visit.new.trail.steps.items))) now now
          (λ l p. ap (λ (z : Literal). added z done l) (ap opposite c.opposite-lit.ensures ∙ opposite_twice s.lit) ∙
          (told-next c.loop-done.done steps c.visit.new.trail.steps.items e.run.0 s lt c.index.ensures e.run.1 l p))
          (λ l p. p) kept;
      met = λ j lt_j. met-more c.args.clauses.now h now _ e.grows (inv.met j lt_j);
      cuts = λ d k i j a. e.cuts d k (λ l p. inv.grows l (i l p)) (λ l p. inv.grows l (j l p)) (inv.cuts d k i j a);
    }
