use Rattle.std.proofs.Common.{◌≡◌, ◌<◌, ◌-◌, ◌∙◌, sym, ap, subst, length, arith, rules, map, [], List, refl, false, get_or, vec_len}
use Rattle.std.specs.Prelude.{reverse}
use Rattle.std.proofs.lemmas.Option.{slice_get_within}
use Rattle.clause_spec.proofs.RefutationSound.{get-contains}
use Rattle.cnf_form.specs.Views.{hint_of}
use Rattle.sat_core.specs.declared.trail.Step.{Step}
use Rattle.sat_core.specs.Steps.{told}
use Rattle.sat_core.proofs.Backwards.{IsLed, step-within, step-now, back-first, back-skip, back-more, named-more, clause-read, no-items}
use Rattle.sat_core.proofs.hints.prune.Goals as goal

pub loop-step-init : goal.loop-step-init
loop-step-init c =
    let marked = rw c.lits.ensures at c.mark.ensures.marked in
    let w = c.requires.way.1 in
    record {
      back = back-first c.args.clauses.now c.args.steps.items c.args.clause c.mark.new.needed c.index-clauses-clause.result marked c.index-clauses-clause.is
          c.new-hints.result.items c.push.new.self.items c.new-hints.ensures.items c.in_ok-push.ensures.items;
      named = named-more (length c.args.clauses.now) c.args.clause c.new-hints.result.items c.push.new.self.items c.in_ok-push.ensures.items
          (slice_get_within c.args.clauses.now c.args.clause w.1.0 w.1.1) (rw c.new-hints.ensures.items (search rules));
    }

pub bounds-needed-variable : goal.bounds-needed-variable
bounds-needed-variable c =
    let s = step-now c.args.clauses.now c.args.steps.items c.args.clause c.loop-step.steps.items c.pop.new.self.items c.in-Some.step c.in-Some.ensures.items
    c.loop-step.needed c.loop-step.hints.items c.loop-step.invariant.back c.requires.way.0 c.requires.way.1 in
    let w = step-within (c.args.size - 1) c.args.clauses.now (told c.requires.way.0
    (reverse c.pop.new.self.items)) c.in-Some.step.clause c.in-Some.step.lit c.requires.over s in
    let n : length c.loop-step.needed ≡ c.args.size = c.loop-step.auto.needed ∙ c.mark.auto.needed ∙ c.as_mut_slice-needed.ensures.len ∙
    c.in_ok-slots.ensures.len in
    rw (c.variable.ensures.value, n) (let a = w.1 in let b = w.2 in omega arith)

pub loop-step-preserved-then-not-needed-variable : goal.loop-step-preserved-then-not-needed-variable
loop-step-preserved-then-not-needed-variable c = record {
  back = back-skip c.args.clauses.now c.args.steps.items c.args.clause c.loop-step.steps.items c.pop.new.self.items c.in-Some.step c.in-Some.ensures.items
      c.loop-step.needed c.loop-step.hints.items c.loop-step.invariant.back
      (ap (λ v. get_or c.loop-step.needed v false) (sym c.variable.ensures.value) ∙ c.if-not-needed-variable.true);
  named = c.loop-step.invariant.named;
}

pub bounds-clauses-step : goal.bounds-clauses-step
bounds-clauses-step c =
    let s = step-now c.args.clauses.now c.args.steps.items c.args.clause c.loop-step.steps.items c.pop.new.self.items c.in-Some.step c.in-Some.ensures.items
    c.loop-step.needed c.loop-step.hints.items c.loop-step.invariant.back c.requires.way.0 c.requires.way.1 in
    let w = step-within (c.args.size - 1) c.args.clauses.now (told c.requires.way.0
    (reverse c.pop.new.self.items)) c.in-Some.step.clause c.in-Some.step.lit c.requires.over s in
    w.0

pub offset_bounds-clauses-step : goal.offset_bounds-clauses-step
offset_bounds-clauses-step c =
    let s = step-now c.args.clauses.now c.args.steps.items c.args.clause c.loop-step.steps.items c.pop.new.self.items c.in-Some.step c.in-Some.ensures.items
    c.loop-step.needed c.loop-step.hints.items c.loop-step.invariant.back c.requires.way.0 c.requires.way.1 in
    let w = step-within (c.args.size - 1) c.args.clauses.now (told c.requires.way.0
    (reverse c.pop.new.self.items)) c.in-Some.step.clause c.in-Some.step.lit c.requires.over s in
    let lt : c.in-Some.step.clause < length c.args.clauses.now = w.0 in
    search rules

pub mark-requires-in-Some : goal.mark-requires-in-Some
mark-requires-in-Some c =
    let s = step-now c.args.clauses.now c.args.steps.items c.args.clause c.loop-step.steps.items c.pop.new.self.items c.in-Some.step c.in-Some.ensures.items
    c.loop-step.needed c.loop-step.hints.items c.loop-step.invariant.back c.requires.way.0 c.requires.way.1 in
    let q : c.index-clauses-step.result ≡ s.0 = clause-read c.args.clauses.now c.in-Some.step.clause s.0 c.index-clauses-step.result s.1 c.index-clauses-step.is
    in
    let n : length c.loop-step.needed ≡ c.args.size = c.loop-step.auto.needed ∙ c.mark.auto.needed ∙ c.as_mut_slice-needed.ensures.len ∙
    c.in_ok-slots.ensures.len in
    rw (c.lits-in-Some.ensures, q, n) (c.requires.over s.0 (get-contains c.args.clauses.now c.in-Some.step.clause s.0 s.1))

pub overflow_add-step : goal.overflow_add-step
overflow_add-step c =
    let s = step-now c.args.clauses.now c.args.steps.items c.args.clause c.loop-step.steps.items c.pop.new.self.items c.in-Some.step c.in-Some.ensures.items
    c.loop-step.needed c.loop-step.hints.items c.loop-step.invariant.back c.requires.way.0 c.requires.way.1 in
    let w = step-within (c.args.size - 1) c.args.clauses.now (told c.requires.way.0
    (reverse c.pop.new.self.items)) c.in-Some.step.clause c.in-Some.step.lit c.requires.over s in
    let lt : c.in-Some.step.clause < length c.args.clauses.now = w.0 in
    search rules

pub loop-step-preserved : goal.loop-step-preserved
loop-step-preserved c =
    let s = step-now c.args.clauses.now c.args.steps.items c.args.clause c.loop-step.steps.items c.pop.new.self.items c.in-Some.step c.in-Some.ensures.items
    c.loop-step.needed c.loop-step.hints.items c.loop-step.invariant.back c.requires.way.0 c.requires.way.1 in
    let w = step-within (c.args.size - 1) c.args.clauses.now (told c.requires.way.0
    (reverse c.pop.new.self.items)) c.in-Some.step.clause c.in-Some.step.lit c.requires.over s in
    record {
      back = back-more c.args.clauses.now c.args.steps.items c.args.clause c.loop-step.steps.items c.pop.new.self.items c.in-Some.step c.in-Some.ensures.items
          c.loop-step.needed c.loop-step.hints.items c.loop-step.invariant.back
          c.mark-in-Some.new.needed c.index-clauses-step.result
          (rw c.lits-in-Some.ensures at c.mark-in-Some.ensures.marked) c.index-clauses-step.is c.mark-in-Some.ensures.stays
          c.push-in-Some.new.self.items c.in_ok-push-2.ensures.items;
      named = named-more (length c.args.clauses.now) c.in-Some.step.clause c.loop-step.hints.items c.push-in-Some.new.self.items c.in_ok-push-2.ensures.items
          w.0 c.loop-step.invariant.named;
    }

pub returns-clause-judged : goal.returns-clause-judged
returns-clause-judged c = λ given w.
    let z : (vec_len c.loop-step.steps ≡ 0) × (vec_len c.pop.new.self ≡ 0) = c.in_default.ensures.cases in
    let e : c.loop-step.steps.items ≡ [] = no-items c.loop-step.steps.items (sym c.loop-step.steps.ok.0 ∙ z.0) in
    let led = (c.loop-step.invariant.back given w).1 in
    rw c.reverse.ensures.items (subst (λ (x : List Step). IsLed c.args.clauses.now c.loop-step.needed (told given (reverse x))
    (map hint_of (reverse c.loop-step.hints.items))) e led given (λ m p. refl))
