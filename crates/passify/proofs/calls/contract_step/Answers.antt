use Rattle.std.proofs.Common.{◌∙◌, ◌<◌, List, Contains, length, refl, sym, ap, map, subst, rules, get_or}
use Rattle.notes_value.specs.FrameViews.{writes_of}
use Rattle.notes_value.specs.NoteViews.{note_line_of}
use Rattle.term_dag.proofs.Growth.{grew_width}
use Rattle.passify.specs.declared.spans.Span.{Span}
use Rattle.passify.specs.Spans.{IsSpan}
use Rattle.passify.proofs.Called.{needs_read, ready_is_yes, ready_kept, ready_names, ready_now, ready_pc, ready_sweep, ready_well, ready_yes, step_begun, step_from, step_within, stepped_is, writes_read}
use Rattle.passify.proofs.Kept.{names_keep, well_keeps}
use Rattle.passify.proofs.Outside.{spans_keep}
use Rattle.passify.proofs.Pointed.{own_keeps}
use Rattle.passify.proofs.Standing.{sets_for}
use Rattle.passify.proofs.calls.contract_step.Goals as goal

pub offset_bounds-unrolled-number : goal.offset_bounds-unrolled-number
offset_bounds-unrolled-number c =
    let lt : c.args.number < length c.args.unrolled.now.stepped.now = step_within c.args.unrolled.now c.args.place c.args.number c.requires.steps
    c.requires.place c.requires.deed in
    search rules

pub bounds-unrolled-number : goal.bounds-unrolled-number
bounds-unrolled-number c =
    step_within c.args.unrolled.now c.args.place c.args.number c.requires.steps c.requires.place c.requires.deed

pub needs-requires-clause-reads : goal.needs-requires-clause-reads
needs-requires-clause-reads c l at =
    let u = c.args.unrolled.now in
    needs_read u c.args.place c.args.number c.requires.walkable c.requires.formed c.requires.place c.requires.deed c.args.sweep.now c.args.now.now.names.now
    c.requires.sweep c.requires.now.same c.deref.result.now
    (ap (map note_line_of) c.deref.ensures.value ∙ ap (λ k. k.needs) (stepped_is u c.args.number (get_or c.args.unrolled.now.stepped.now c.args.number c.index-unrolled-number.result)
    (step_within u c.args.place c.args.number c.requires.steps c.requires.place c.requires.deed) (ap (λ z. get_or c.args.unrolled.now.stepped.now c.args.number z) c.index-unrolled-number.is))) l at

pub spans-requires-clause-reads : goal.spans-requires-clause-reads
spans-requires-clause-reads c w at =
    let u = c.args.unrolled.now in
    (writes_read u c.args.place c.args.number c.requires.walkable c.requires.formed c.requires.place c.requires.deed c.args.sweep.now c.args.now.now.names.now
    c.requires.sweep c.requires.now.same c.deref-2.result.now
    (ap (map writes_of) c.deref-2.ensures.value ∙ ap (λ k. k.writes) (stepped_is u c.args.number (get_or c.args.unrolled.now.stepped.now c.args.number c.index-unrolled-number.result)
    (step_within u c.args.place c.args.number c.requires.steps c.requires.place c.requires.deed) (ap (λ z. get_or c.args.unrolled.now.stepped.now c.args.number z) c.index-unrolled-number.is))) w at).0

pub spans-requires-clause-some : goal.spans-requires-clause-some
spans-requires-clause-some c w at =
    let u = c.args.unrolled.now in
    (writes_read u c.args.place c.args.number c.requires.walkable c.requires.formed c.requires.place c.requires.deed c.args.sweep.now c.args.now.now.names.now
    c.requires.sweep c.requires.now.same c.deref-2.result.now
    (ap (map writes_of) c.deref-2.ensures.value ∙ ap (λ k. k.writes) (stepped_is u c.args.number (get_or c.args.unrolled.now.stepped.now c.args.number c.index-unrolled-number.result)
    (step_within u c.args.place c.args.number c.requires.steps c.requires.place c.requires.deed) (ap (λ z. get_or c.args.unrolled.now.stepped.now c.args.number z) c.index-unrolled-number.is))) w at).1

pub spans-requires-clause-now : goal.spans-requires-clause-now
spans-requires-clause-now c =
    let n = c.args.now.now.names.now in
    record {
      names = names_keep c.in_ok-yes.ensures.grew n (names_keep c.in_ok-needed.ensures.lines.steps.grew n c.requires.now.names);
      pc = grew_width c.needs.new.dag c.constant.new.dag _ _ _ _ _ 32 c.args.now.now.pc.0 c.in_ok-yes.ensures.grew
          (grew_width c.args.dag.now c.needs.new.dag _ _ _ _ _ 32 c.args.now.now.pc.0 c.in_ok-needed.ensures.lines.steps.grew c.requires.pc);
    }

pub refused-requires-clause-spans : goal.refused-requires-clause-spans
refused-requires-clause-spans c =
    subst (λ (z : List Span). (k : Span) → Contains z k → IsSpan c.spans.new.dag k) (sym c.deref-3.ensures.value)
    (λ k at. (c.in_ok-spans.ensures.each k at).0)

pub refused-requires-clause-own : goal.refused-requires-clause-own
refused-requires-clause-own c =
    let u = c.args.unrolled.now in
    let l = c.in_ok-needed.ensures.lines.steps in
    subst (λ (z : List Span). (k : Span) → Contains z k → IsSpan c.spans.new.dag k) (sym c.deref-4.ensures.value)
    (own_keeps u c.constant.new.dag c.spans.new.dag c.needs.new.sweep c.needs.new.sweep
    (own_keeps u c.needs.new.dag c.constant.new.dag c.needs.new.sweep c.needs.new.sweep
    (own_keeps u c.args.dag.now c.needs.new.dag c.args.sweep.now c.needs.new.sweep c.requires.own l.grew l.like.own l.like.at)
    c.in_ok-yes.ensures.grew refl refl) c.in_ok-spans.ensures.grew refl refl).each

pub refused-requires-clause-runs : goal.refused-requires-clause-runs
refused-requires-clause-runs c = c.requires.walkable.runs

pub event-requires-clause-well : goal.event-requires-clause-well
event-requires-clause-well c =
    let s = c.needs.new.sweep in
    well_keeps c.in_ok-wrote.ensures.grew s c.in_ok-wrote.ensures.typed (well_keeps c.in_ok-spans.ensures.grew s c.in_ok-spans.ensures.typed
    (well_keeps c.in_ok-yes.ensures.grew s c.in_ok-yes.ensures.typed c.in_ok-needed.ensures.lines.steps.well))

pub event-requires-clause-rest : goal.event-requires-clause-rest
event-requires-clause-rest c =
    let t = c.in_ok-needed.needed.0 in
    grew_width c.spans.new.dag c.refused.new.dag _ _ _ _ _ 1 t c.in_ok-wrote.ensures.grew
    (grew_width c.constant.new.dag c.spans.new.dag _ _ _ _ _ 1 t c.in_ok-spans.ensures.grew
    (grew_width c.needs.new.dag c.constant.new.dag _ _ _ _ _ 1 t c.in_ok-yes.ensures.grew c.in_ok-needed.ensures.bit))

pub given-requires-clause-registers : goal.given-requires-clause-registers
given-requires-clause-registers c =
    (sets_for c.args.unrolled.now c.args.sweep.now c.args.now.now.names.now c.requires.walkable c.requires.sweep c.requires.now.same).0

pub given-requires-clause-flags : goal.given-requires-clause-flags
given-requires-clause-flags c =
    (sets_for c.args.unrolled.now c.args.sweep.now c.args.now.now.names.now c.requires.walkable c.requires.sweep c.requires.now.same).1

pub given-requires-clause-spans : goal.given-requires-clause-spans
given-requires-clause-spans c =
    subst (λ (z : List Span). (k : Span) → Contains z k → IsSpan c.event.new.dag k) (sym c.deref-5.ensures.value)
    (spans_keep c.refused.new.dag c.event.new.dag _ _ _ _ _ c.in_ok-spans.spans.items c.in_ok-kept.ensures.steps.grew
    (spans_keep c.spans.new.dag c.refused.new.dag _ _ _ _ _ c.in_ok-spans.spans.items c.in_ok-wrote.ensures.grew
    (λ k at. (c.in_ok-spans.ensures.each k at).0)))

pub given-requires-clause-names : goal.given-requires-clause-names
given-requires-clause-names c =
    let n = c.args.now.now.names.now in
    names_keep c.in_ok-kept.ensures.steps.grew n (names_keep c.in_ok-wrote.ensures.grew n (names_keep c.in_ok-spans.ensures.grew n
    (names_keep c.in_ok-yes.ensures.grew n (names_keep c.in_ok-needed.ensures.lines.steps.grew n c.requires.now.names))))

pub onward-requires : goal.onward-requires
onward-requires c =
    let b = step_begun c.args.unrolled.now c.args.place c.args.number c.args.now.now c.args.dag.now c.needs.new.dag c.constant.new.dag c.spans.new.dag
    c.refused.new.dag c.event.new.dag c.given.new.dag c.args.sweep.now c.needs.new.sweep c.event.new.sweep c.args.rest.0 c.in_ok-needed.needed.0
    c.in_ok-yes.yes.0 c.in_ok-wrote.wrote.0 c.in_ok-kept.kept.0 c.in_ok-spans.spans.items c.in_ok-names.names (get_or c.args.unrolled.now.stepped.now c.args.number c.index-unrolled-number.result) c.deref.result.now
    c.deref-2.result.now c.deref-3.result.now c.deref-4.result.now c.deref-5.result.now c.requires.walkable c.requires.formed c.requires.steps
    c.requires.place c.requires.deed c.requires.paid c.requires.sweep c.requires.own c.requires.now c.requires.pc c.requires.at (ap (λ z. get_or c.args.unrolled.now.stepped.now c.args.number z) c.index-unrolled-number.is)
    c.deref.ensures.value c.deref-2.ensures.value c.deref-3.ensures.value c.deref-4.ensures.value c.deref-5.ensures.value c.in_ok-needed.ensures
    c.in_ok-yes.ensures c.in_ok-spans.ensures c.in_ok-wrote.ensures c.in_ok-kept.ensures.steps c.in_ok-kept.ensures.bit c.in_ok-kept.ensures.tries
    c.in_ok-kept.ensures.narrows c.in_ok-names.ensures in
    record {
      walkable = c.requires.walkable;
      formed = c.requires.formed;
      roots = c.requires.roots;
      steps = c.requires.steps;
      place = c.requires.place;
      deed = c.requires.deed;
      well = ready_well _ _ _ _ _ _ _ _ _ _ _ _ _ _ _ _ _ _ _ _ _ _ b;
      sweep = ready_sweep _ _ _ _ _ _ _ _ _ _ _ _ _ _ _ _ _ _ _ _ _ _ b;
      names = ready_names _ _ _ _ _ _ _ _ _ _ _ _ _ _ _ _ _ _ _ _ _ _ b;
      now = ready_now _ _ _ _ _ _ _ _ _ _ _ _ _ _ _ _ _ _ _ _ _ _ b;
      pc = ready_pc _ _ _ _ _ _ _ _ _ _ _ _ _ _ _ _ _ _ _ _ _ _ b;
      yes = ready_yes _ _ _ _ _ _ _ _ _ _ _ _ _ _ _ _ _ _ _ _ _ _ b;
      is_yes = ready_is_yes _ _ _ _ _ _ _ _ _ _ _ _ _ _ _ _ _ _ _ _ _ _ b;
      kept = ready_kept _ _ _ _ _ _ _ _ _ _ _ _ _ _ _ _ _ _ _ _ _ _ b;
    }

pub returns : goal.returns
returns c =
    let b = step_begun c.args.unrolled.now c.args.place c.args.number c.args.now.now c.args.dag.now c.needs.new.dag c.constant.new.dag c.spans.new.dag
    c.refused.new.dag c.event.new.dag c.given.new.dag c.args.sweep.now c.needs.new.sweep c.event.new.sweep c.args.rest.0 c.in_ok-needed.needed.0
    c.in_ok-yes.yes.0 c.in_ok-wrote.wrote.0 c.in_ok-kept.kept.0 c.in_ok-spans.spans.items c.in_ok-names.names (get_or c.args.unrolled.now.stepped.now c.args.number c.index-unrolled-number.result) c.deref.result.now
    c.deref-2.result.now c.deref-3.result.now c.deref-4.result.now c.deref-5.result.now c.requires.walkable c.requires.formed c.requires.steps
    c.requires.place c.requires.deed c.requires.paid c.requires.sweep c.requires.own c.requires.now c.requires.pc c.requires.at (ap (λ z. get_or c.args.unrolled.now.stepped.now c.args.number z) c.index-unrolled-number.is)
    c.deref.ensures.value c.deref-2.ensures.value c.deref-3.ensures.value c.deref-4.ensures.value c.deref-5.ensures.value c.in_ok-needed.ensures
    c.in_ok-yes.ensures c.in_ok-spans.ensures c.in_ok-wrote.ensures c.in_ok-kept.ensures.steps c.in_ok-kept.ensures.bit c.in_ok-kept.ensures.tries
    c.in_ok-kept.ensures.narrows c.in_ok-names.ensures in
    step_from _ _ _ _ _ _ _ _ _ _ _ _ _ _ _ _ _ _ _ _ _ _ b c.onward.new.dag c.onward.new.sweep c.in_ok-left.left.0 c.in_ok-left.ensures
