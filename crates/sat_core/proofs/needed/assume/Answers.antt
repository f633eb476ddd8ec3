use Rattle.std.proofs.Common.{◌≡◌, ◌++◌, ◌∙◌, List, [], ap, sym, length, take, append_assoc}
use Rattle.std.specs.Prelude.{reverse}
use Rattle.sat_core.specs.declared.trail.Step.{Step}
use Rattle.sat_core.specs.Tables.{true_in}
use Rattle.sat_core.specs.Steps.{told}
use Rattle.sat_core.specs.Trails.{nothing}
use Rattle.sat_core.proofs.Closing.{kept-fewer, take-length}
use Rattle.sat_core.proofs.needed.assume.Goals as goal

pub propagate-requires-clause-kept : goal.propagate-requires-clause-kept
propagate-requires-clause-kept c =
    let old = c.args.propagator.now.trail.steps.items in
    let h = true_in c.args.propagator.now.trail.table.items in
    let n = c.len-from.result in
    let r = c.refuse.ensures in
    let from : n ≡ length old = c.len-from.ensures ∙ c.args.propagator.now.trail.steps.ok.0 in
    kept-fewer c.args.propagator.now.watches.watched.items [] h (told nothing (reverse (take n c.refuse.new.self.steps.items))) h
    (true_in c.refuse.new.self.table.items)
    (λ l p. c.requires.sound.trail.told_by l ∙ ap (λ (y : List Step). told nothing (reverse y) l)
    (sym (ap (take n) r.steps.1 ∙ take-length n old r.steps.0 from)) ∙ p)
    r.grows c.requires.calm.kept

pub returns-in-Some-clause-later : goal.returns-in-Some-clause-later
returns-in-Some-clause-later c =
    let r = c.refuse.ensures in
    let p = c.propagate.ensures in
    record {
      sound = p.sound;
      clauses = p.clauses;
      size = p.size ∙ r.size;
      more = r.steps.0 ++ p.run.0;
      steps = p.run.1 ∙ ap (λ (z : List Step). z ++ p.run.0) r.steps.1 ∙ append_assoc c.args.propagator.now.trail.steps.items r.steps.0 p.run.0;
      cuts = λ done holds i j a. p.cuts done holds (λ l q. r.grows l (i l q)) (λ l q. r.grows l (j l q)) a;
    }

pub returns-in-None-clause-later : goal.returns-in-None-clause-later
returns-in-None-clause-later c =
    let r = c.refuse.ensures in
    let p = c.propagate.ensures in
    record {
      sound = p.sound;
      clauses = p.clauses;
      size = p.size ∙ r.size;
      more = r.steps.0 ++ p.run.0;
      steps = p.run.1 ∙ ap (λ (z : List Step). z ++ p.run.0) r.steps.1 ∙ append_assoc c.args.propagator.now.trail.steps.items r.steps.0 p.run.0;
      cuts = λ done holds i j a. p.cuts done holds (λ l q. r.grows l (i l q)) (λ l q. r.grows l (j l q)) a;
    }
