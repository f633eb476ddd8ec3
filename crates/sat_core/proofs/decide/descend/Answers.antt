use Rattle.std.proofs.Common.{◌≡◌, ◌+◌, ◌≤◌, ◌-◌, ◌∙◌, List, [], ◌∷◌, length, length-append, take, arith, sym, ap, refl}
use Rattle.std.specs.Prelude.{reverse}
use Rattle.clause_spec.specs.Clauses.{Literal, same, opposite}
use Rattle.clause_spec.specs.UnitPropagation.{negations}
use Rattle.clause_spec.proofs.AcceptedLines.{given-conflict}
use Rattle.clause_spec.proofs.Looks.{or_right}
use Rattle.clause_spec.proofs.RefutationSound.{get-contains}
use Rattle.sat_core.specs.declared.trail.Step.{Step}
use Rattle.sat_core.specs.Links.{no_watch}
use Rattle.sat_core.specs.Tables.{true_in}
use Rattle.sat_core.specs.Steps.{told}
use Rattle.sat_core.specs.Trails.{nothing}
use Rattle.sat_core.proofs.Closing.{run-given, kept-fewer, take-length, fewer-open-steps}
use Rattle.sat_core.proofs.Places.{open-false}
use Rattle.sat_core.proofs.Taken.{taken-start, taken-grows, decide}
use Rattle.sat_core.proofs.decide.descend.Goals as goal

pub loop-full-init : goal.loop-full-init
loop-full-init c =
    let t = c.requires.sound.trail in
    let none = λ (m : Literal). t.told_by m ∙ ap (λ z. told nothing (reverse z) m) c.requires.empty in
    record {
      sound = c.requires.sound;
      clauses = refl;
      size = refl;
      few = omega arith;
      kept = λ n lt f p. absurd (cc);
      taken = rw c.new-full.ensures.items
          (taken-start c.args.propagator.now.clauses.items (length c.args.propagator.now.trail.table.items - 1)
          (true_in c.args.propagator.now.trail.table.items) none);
    }

pub returns-in-Some-clause-descent : goal.returns-in-Some-clause-descent
returns-in-Some-clause-descent c =
    let inv = c.loop-full.invariant in
    let p = c.propagate.ensures in
    let cs = c.loop-full.propagator.clauses.items in
    let n = length c.loop-full.propagator.trail.table.items - 1 in
    let h = true_in c.loop-full.propagator.trail.table.items in
    let k = true_in c.propagate.new.self.trail.table.items in
    let t = taken-grows cs n c.loop-full.full.items h k inv.taken p.grows
    (run-given cs c.loop-full.propagator.trail.steps.items c.propagate.new.self.trail.steps.items h k p.run inv.sound.trail.told_by p.sound.trail.told_by) in
    let x = c.in-Some.ensures.conflict in
    let r = given-conflict cs (negations c.loop-full.full.items) k x.0 t.given (get-contains cs _ x.0 x.1) x.2 in
    (rw (p.size, ← inv.clauses) t, rw (← inv.clauses) r)

pub loop-full-smaller : goal.loop-full-smaller
loop-full-smaller c =
    let a = c.loop-full.invariant.sound.trail.count in
    let b = c.push-in-loop-full.ensures.trail.count in
    let r = c.propagate.ensures.run in
    let size = c.propagate.ensures.size in
    let more = c.push-in-loop-full.ensures.size in
    fewer-open-steps c.loop-full.propagator.trail.table.items c.push-in-loop-full.new.self.table.items c.loop-full.propagator.trail.steps.items
    c.propagate.new.self.trail.steps.items c.push-in-loop-full.new.self.steps.items r.0 _ a b (more ∙ size) r.1 c.push-in-loop-full.ensures.steps

pub loop-full-preserved : goal.loop-full-preserved
loop-full-preserved c =
    let inv = c.loop-full.invariant in
    let p = c.propagate.ensures in
    let cs = c.loop-full.propagator.clauses.items in
    let n = length c.loop-full.propagator.trail.table.items - 1 in
    let h = true_in c.loop-full.propagator.trail.table.items in
    let k = true_in c.propagate.new.self.trail.table.items in
    let now = true_in c.push-in-loop-full.new.self.table.items in
    let steps = c.propagate.new.self.trail.steps.items in
    let d = c.new-decision.result in
    let o = rw c.deref.ensures.value at c.in-Some-pick.ensures.open in
    let v = c.new-decision.ensures.variable in
    let t = taken-grows cs n c.loop-full.full.items h k inv.taken p.grows
    (run-given cs c.loop-full.propagator.trail.steps.items steps h k p.run inv.sound.trail.told_by p.sound.trail.told_by) in
    let q = c.push-in-loop-full.ensures in
    let low : 1 ≤ d.variable = rw v o.0 in
    let high : d.variable ≤ n = (let a = o.1 in let e = p.size in rw v (omega arith)) in
    let free = open-false c.propagate.new.self.trail.table.items d (rw v o.2) in
    let not_false = open-false c.propagate.new.self.trail.table.items (opposite d) (rw v o.2) in
    let from : c.len-from.result ≡ length steps = c.len-from.ensures ∙ c.propagate.new.self.trail.steps.ok.0 in
    let e = c.in_default.ensures in
    let step : Step = record { clause = no_watch; lit = d } in
    let r = p.sound.ready in
    record {
      sound = record { ready = rw q.size r; trail = q.trail };
      clauses = p.clauses ∙ inv.clauses;
      size = q.size ∙ p.size ∙ inv.size;
      few = (let a : length c.push-in-loop-full.new.self.steps.items ≡ length steps + 1 = ap length q.steps ∙ length-append steps (step ∷ []) in omega arith);
      kept = kept-fewer c.propagate.new.self.watches.watched.items [] k
          (told nothing (reverse (take c.len-from.result c.push-in-loop-full.new.self.steps.items))) k now
          (λ l z. p.sound.trail.told_by l ∙ ap (λ (y : List Step). told nothing (reverse y) l)
          (sym (ap (take c.len-from.result) q.steps ∙ take-length c.len-from.result steps (step ∷ []) from)) ∙ z)
          (λ l z. q.values l ∙ or_right (same d l) (k l) z) e.kept;
      taken = rw (p.clauses, q.size, p.size, c.in_ok-push.ensures.items, c.opposite.ensures)
          (decide cs n c.loop-full.full.items k now t e.quiet d low high free not_false q.values);
    }
