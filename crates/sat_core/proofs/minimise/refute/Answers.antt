use Rattle.std.proofs.Common.{◌≡◌, ◌∙◌, ◌-◌, arith, sym, ap, length, length-drop, take, drop}
use Rattle.std.specs.Prelude.{reverse}
use Rattle.std.proofs.lemmas.List.{take_all}
use Rattle.clause_spec.specs.UnitPropagation.{negations}
use Rattle.sat_core.specs.Tables.{true_in}
use Rattle.sat_core.specs.Steps.{IsWay}
use Rattle.sat_core.proofs.Closing.{run-way}
use Rattle.sat_core.proofs.Quiet.{quiet-no_conflict}
use Rattle.sat_core.proofs.minimise.refute.Goals as goal

pub propagate-requires-clause-sound : goal.propagate-requires-clause-sound
propagate-requires-clause-sound c = record { ready = rw c.deny.ensures.size c.requires.sound.ready; trail = c.deny.ensures.trail }

pub prune-requires-clause-way : goal.prune-requires-clause-way
prune-requires-clause-way c =
    let steps = c.propagate.new.self.trail.steps.items in
    let base : c.len-base.result ≡ length c.deny.new.self.steps.items = c.len-base.ensures ∙ c.deny.new.self.steps.ok.0 in
    let s : c.in_ok-steps-in-Some.steps.items ≡ drop c.len-base.result steps =
    c.in_ok-steps-in-Some.ensures.items ∙ ap (λ z. take (length z - c.len-base.result) (drop c.len-base.result z)) c.deref.ensures.value
    ∙ take_all (length steps - c.len-base.result) (drop c.len-base.result steps) (omega (arith, length-drop c.len-base.result steps)) in
    let way : IsWay c.args.propagator.now.clauses.items (negations c.args.lits.now) (reverse c.in_ok-steps-in-Some.steps.items) c.in-Some.clause =
    rw s (run-way c.args.propagator.now.clauses.items c.deny.new.self.steps.items steps (negations c.args.lits.now)
    (true_in c.propagate.new.self.trail.table.items)
    c.in-Some.clause c.propagate.ensures.run (λ m. sym (c.deny.ensures.trail.told_by m) ∙ c.deny.ensures.values m) c.propagate.ensures.sound.trail.told_by
    c.in-Some.ensures.conflict c.len-base.result base) in
    (negations c.args.lits.now, rw (c.deref-in-Some.ensures.value, c.propagate.ensures.clauses) way)

pub returns-in-None-clause-hints : goal.returns-in-None-clause-hints
returns-in-None-clause-hints c =
    quiet-no_conflict c.args.propagator.now.clauses.items (negations c.args.lits.now) (true_in c.propagate.new.self.trail.table.items) c.in-None.ensures.quiet
    (λ m h. c.propagate.ensures.grows m (c.deny.ensures.values m ∙ h))

pub returns-in_ok-hints-in-Some-clause-hints : goal.returns-in_ok-hints-in-Some-clause-hints
returns-in_ok-hints-in-Some-clause-hints c =
    let steps = c.propagate.new.self.trail.steps.items in
    let base : c.len-base.result ≡ length c.deny.new.self.steps.items = c.len-base.ensures ∙ c.deny.new.self.steps.ok.0 in
    let s : c.in_ok-steps-in-Some.steps.items ≡ drop c.len-base.result steps =
    c.in_ok-steps-in-Some.ensures.items ∙ ap (λ z. take (length z - c.len-base.result) (drop c.len-base.result z)) c.deref.ensures.value
    ∙ take_all (length steps - c.len-base.result) (drop c.len-base.result steps) (omega (arith, length-drop c.len-base.result steps)) in
    let way : IsWay c.args.propagator.now.clauses.items (negations c.args.lits.now) (reverse c.in_ok-steps-in-Some.steps.items) c.in-Some.clause =
    rw s (run-way c.args.propagator.now.clauses.items c.deny.new.self.steps.items steps (negations c.args.lits.now)
    (true_in c.propagate.new.self.trail.table.items)
    c.in-Some.clause c.propagate.ensures.run (λ m. sym (c.deny.ensures.trail.told_by m) ∙ c.deny.ensures.values m) c.propagate.ensures.sound.trail.told_by
    c.in-Some.ensures.conflict c.len-base.result base) in
    let e = rw (c.deref-in-Some.ensures.value, c.propagate.ensures.clauses) at c.in_ok-hints-in-Some.ensures in
    record { judged = e.judged (negations c.args.lits.now) way; named = e.named }
