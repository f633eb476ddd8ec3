use Rattle.std.proofs.Common.{Option, Some, None, ◌+◌, ◌∙◌, sym, subst, arith}
use Rattle.std.specs.Vec.{with_item}
use Rattle.term_names.specs.declared.names.Names.{Names}
use Rattle.passify.specs.Sweeps.{AreWell}
use Rattle.passify.specs.Swept.{AreSwept, IsPassed}
use Rattle.question_form.specs.FrameViews.{frame_unrolled_of}
use Rattle.passify.proofs.Visited.{carried_there, carries_on, forget_well, handled_by, met_within, none_met, passed_by, place, stays_carried, taken_was, zero_met}
use Rattle.passify.proofs.sweeping.visit.Goals as goal

pub index-met-requires : goal.index-met-requires
index-met-requires c = omega (
  arith,
  place c.args.unrolled.now c.args.place c.args.dag.now c.args.sweep.now c.requires.swept c.requires.place,
  c.args.sweep.now.met.ok.0,
)

pub index_mut-requires : goal.index_mut-requires
index_mut-requires c =
    omega (
      arith,
      place c.args.unrolled.now c.args.place c.args.dag.now c.args.sweep.now c.requires.swept c.requires.place,
      c.requires.swept.well.count,
      c.args.sweep.now.states.ok.0,
    )

pub constant-requires : goal.constant-requires
constant-requires c = met_within c.args.unrolled.now c.args.place c.args.dag.now c.args.sweep.now c.requires.swept c.requires.place c.index-met.result.now
    c.index-met.ensures

pub returns-in-Some-eq0-clause-swept : goal.returns-in-Some-eq0-clause-swept
returns-in-Some-eq0-clause-swept c =
    subst (λ (o : Option Names). AreSwept c.args.unrolled.now (c.args.place + 1) c.args.dag.now
    (record c.args.sweep.now { states = with_item c.args.sweep.now.states c.args.place o })) (sym c.replace-state.ensures.after)
    (passed_by c.args.unrolled.now c.args.place c.args.dag.now c.args.sweep.now c.requires.swept c.requires.place
    (zero_met c.args.unrolled.now c.args.place c.args.dag.now c.args.sweep.now c.requires.swept c.requires.place c.index-met.result.now c.index-met.ensures
    (λ x. c.in-Some-eq0.ensures.some x ∙ c.in-Some-eq0.field-0-test)))

pub pass-requires-clause-well : goal.pass-requires-clause-well
pass-requires-clause-well c =
    subst (λ (o : Option Names). AreWell c.args.dag.now (record c.args.sweep.now { states = with_item c.args.sweep.now.states c.args.place o }))
    (sym c.replace-state.ensures.after)
    (forget_well c.args.dag.now c.args.sweep.now c.args.place c.requires.swept.well)

pub pass-requires-clause-names : goal.pass-requires-clause-names
pass-requires-clause-names c =
    c.requires.swept.well.states c.args.place c.in-Some.names
    (taken_was c.args.unrolled.now c.args.place c.args.dag.now c.args.sweep.now c.requires.swept c.requires.place c.index_mut.result.now c.replace-state.result
    (Some c.in-Some.names) c.index_mut.ensures.value
    c.replace-state.ensures.value c.in-Some.is)

pub returns-in-None-clause-swept : goal.returns-in-None-clause-swept
returns-in-None-clause-swept c =
    subst (λ (o : Option Names). AreSwept c.args.unrolled.now (c.args.place + 1) c.args.dag.now
    (record c.args.sweep.now { states = with_item c.args.sweep.now.states c.args.place o })) (sym c.replace-state.ensures.after)
    (passed_by c.args.unrolled.now c.args.place c.args.dag.now c.args.sweep.now c.requires.swept c.requires.place
    (none_met c.args.unrolled.now c.args.place c.args.dag.now c.args.sweep.now c.requires.swept c.requires.place
    (taken_was c.args.unrolled.now c.args.place c.args.dag.now c.args.sweep.now c.requires.swept c.requires.place c.index_mut.result.now c.replace-state.result
    None
    c.index_mut.ensures.value c.replace-state.ensures.value
    c.in-None.is)))

pub returns-in_ok-pass-in-Some-clause-swept : goal.returns-in_ok-pass-in-Some-clause-swept
returns-in_ok-pass-in-Some-clause-swept c =
    handled_by c.args.unrolled.now c.args.place c.args.dag.now c.args.sweep.now c.requires.swept c.requires.place c.pass.new.dag c.pass.new.sweep
    c.in-Some.names
    (taken_was c.args.unrolled.now c.args.place c.args.dag.now c.args.sweep.now c.requires.swept c.requires.place c.index_mut.result.now c.replace-state.result
    (Some c.in-Some.names) c.index_mut.ensures.value
    c.replace-state.ensures.value c.in-Some.is)
    (subst (λ (o : Option Names). IsPassed c.args.unrolled.now c.args.dag.now c.pass.new.dag
    (record c.args.sweep.now { states = with_item c.args.sweep.now.states c.args.place o }) c.pass.new.sweep c.args.place c.in-Some.names)
    c.replace-state.ensures.after c.in_ok-pass-in-Some.ensures)

pub returns-in-None-clause-carried : goal.returns-in-None-clause-carried
returns-in-None-clause-carried c =
    none_met c.args.unrolled.now c.args.place c.args.dag.now c.args.sweep.now c.requires.swept c.requires.place
    (taken_was c.args.unrolled.now c.args.place c.args.dag.now c.args.sweep.now c.requires.swept c.requires.place c.index_mut.result.now c.replace-state.result
    None
    c.index_mut.ensures.value c.replace-state.ensures.value
    c.in-None.is)

pub returns-in-Some-eq0-clause-carried : goal.returns-in-Some-eq0-clause-carried
returns-in-Some-eq0-clause-carried c =
    carried_there c.args.unrolled.now c.args.place c.args.dag.now c.args.sweep.now c.requires.swept c.requires.place c.in-Some.names
    (taken_was c.args.unrolled.now c.args.place c.args.dag.now c.args.sweep.now c.requires.swept c.requires.place c.index_mut.result.now c.replace-state.result
    (Some c.in-Some.names) c.index_mut.ensures.value
    c.replace-state.ensures.value c.in-Some.is)

pub returns-in_ok-pass-in-Some-clause-carried : goal.returns-in_ok-pass-in-Some-clause-carried
returns-in_ok-pass-in-Some-clause-carried c =
    carries_on (frame_unrolled_of c.args.unrolled.now) c.args.place c.args.dag.now c.pass.new.dag c.in-Some.names c.in_ok-pass-in-Some.ensures.grew
    (carried_there c.args.unrolled.now c.args.place c.args.dag.now c.args.sweep.now c.requires.swept c.requires.place c.in-Some.names
    (taken_was c.args.unrolled.now c.args.place c.args.dag.now c.args.sweep.now c.requires.swept c.requires.place c.index_mut.result.now c.replace-state.result
    (Some c.in-Some.names) c.index_mut.ensures.value
    c.replace-state.ensures.value c.in-Some.is))

pub returns-in_ok-pass-in-Some-clause-kept : goal.returns-in_ok-pass-in-Some-clause-kept
returns-in_ok-pass-in-Some-clause-kept c i names h =
    stays_carried (frame_unrolled_of c.args.unrolled.now) i c.args.dag.now c.pass.new.dag names c.in_ok-pass-in-Some.ensures.grew h

pub pass-requires-clause-sweep : goal.pass-requires-clause-sweep
pass-requires-clause-sweep c = record { form = c.requires.swept.sweep.form; at = c.requires.swept.sweep.at; places = c.requires.swept.sweep.places }

pub pass-requires-clause-own : goal.pass-requires-clause-own
pass-requires-clause-own c = record { each = c.requires.swept.own.each; count = c.requires.swept.own.count; written = c.requires.swept.own.written }
