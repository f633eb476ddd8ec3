use Rattle.std.proofs.Common.{◌≡◌, ◌+◌, ◌∷◌, [], List, Some, None, ap, sym, ◌∙◌, arith, map, length}
use Rattle.std.specs.Option.{option_map}
use Rattle.word_spec.specs.Texts.{split_lines}
use Rattle.machine_spec.specs.StateText as texts
use Rattle.machine_spec.specs.StateText.{NamedLine, line_of, line_refusal, told_of, lines_of_head, StateRefused}
use Rattle.start_value.specs.Starts.{layout_of}
use Rattle.state_text.specs.Starts.{named_of}
use Rattle.state_text.specs.Lines.{line_said}
use Rattle.state_text.specs.Readings.{fault_of, refusal_of, told_but}
use Rattle.state_text.specs.declared.state_line.StateLine.{StateLine}
use Rattle.state_text.specs.declared.state_fault.StateFault.{StateFault}
use Rattle.state_text.proofs.Judging.{none}
use Rattle.state_text.proofs.Keeping.{stands_first, stands_bytes, stands_refused, stands_next, end_refused, end_told, of_fault, of_value, is_nothing}
use Rattle.state_text.proofs.parser.read_lines.Goals as goal

pub loop-rest-init : goal.loop-rest-init
loop-rest-init c = record {
  before = NamedLine (named_of c.args.named) ∷ [];
  stands =
      stands_first (layout_of c.args.layout) (named_of c.args.named) c.behind_ending-progress.result c.new-draft.result c.args.text.now
      (c.behind_ending-progress.ensures.start (named_of c.args.named)) c.new-draft.ensures.values c.new-draft.ensures.bytes c.new-draft.ensures.choices;
  room = omega arith;
}

pub returns-in-Err-clause-refused : goal.returns-in-Err-clause-refused
returns-in-Err-clause-refused c known =
    let layout : texts.Layout = layout_of c.args.layout in
    let before : List texts.StateLine = c.loop-rest.invariant.before in
    let whole = Some (NamedLine (named_of c.args.named)) ∷ map (line_of layout) (split_lines c.args.text.now) in
    c.refused.ensures.told known layout (told_of layout known whole)
    (stands_refused layout known whole c.loop-rest.progress c.loop-rest.draft c.loop-rest.rest.now c.first_line.result.0.now c.first_line.result.1.now before
    (fault_of c.in-Err.kind) c.loop-rest.invariant.stands c.first_line.ensures.line
    (of_fault (λ (f : StateFault). refusal_of layout before (line_of layout c.first_line.result.0.now)
    ≡ Some (fault_of f)) c.in_ok-kind.field-0 c.in-Err.kind c.in-Err.is
    (c.in_ok-kind.ensures.refused before c.loop-rest.invariant.stands.behind))
    ∙ ap (λ n. told_but known (lines_of_head layout + 1) c.loop-rest.draft.bytes.items (StateRefused n (fault_of c.in-Err.kind))) (sym c.next_line.ensures))

pub returns-in-Err-clause-bytes : goal.returns-in-Err-clause-bytes
returns-in-Err-clause-bytes c =
    let whole = Some (NamedLine (named_of c.args.named)) ∷ map (line_of (layout_of c.args.layout)) (split_lines c.args.text.now) in
    c.refused.ensures.bytes whole
    (stands_bytes (layout_of c.args.layout) whole c.loop-rest.progress c.loop-rest.draft c.loop-rest.rest.now c.loop-rest.invariant.before c.next_line.result
    c.loop-rest.invariant.stands c.next_line.ensures)

pub loop-rest-preserved : goal.loop-rest-preserved
loop-rest-preserved c =
    let layout : texts.Layout = layout_of c.args.layout in
    let before : List texts.StateLine = c.loop-rest.invariant.before in
    let whole = Some (NamedLine (named_of c.args.named)) ∷ map (line_of layout) (split_lines c.args.text.now) in
    let free : line_refusal layout none before (line_said c.in-Ok.line) ≡ None =
    of_value (λ (l : StateLine). refusal_of layout before (Some (line_said l)) ≡ None) c.in_ok-kind.field-0 c.in-Ok.line c.in-Ok.is
    (c.in_ok-kind.ensures.accepted before c.loop-rest.invariant.stands.behind) in
    record {
      before = line_said c.in-Ok.line ∷ before;
      stands =
          stands_next layout whole c.loop-rest.progress c.after-progress.result c.loop-rest.draft c.add.new.self c.loop-rest.rest.now c.first_line.result.0.now
          c.first_line.result.1.now before (line_said c.in-Ok.line) c.loop-rest.invariant.stands c.first_line.ensures.line
          (of_value (λ (l : StateLine). line_of layout c.first_line.result.0.now ≡ Some (line_said l)) c.in_ok-kind.field-0 c.in-Ok.line c.in-Ok.is
          (c.in_ok-kind.ensures.said before c.loop-rest.invariant.stands.behind))
          free (c.after-progress.ensures.behind layout before c.loop-rest.invariant.stands.behind free) c.in_ok-add-in-Ok.ensures.values
          c.in_ok-add-in-Ok.ensures.bytes c.in_ok-add-in-Ok.ensures.choices;
      room = omega arith;
    }

pub returns-in-Some-clause-refused : goal.returns-in-Some-clause-refused
returns-in-Some-clause-refused c known =
    let layout : texts.Layout = layout_of c.args.layout in
    let before : List texts.StateLine = c.loop-rest.invariant.before in
    let whole = Some (NamedLine (named_of c.args.named)) ∷ map (line_of layout) (split_lines c.args.text.now) in
    c.refused-in-Some.ensures.told known layout (told_of layout known whole)
    (end_refused layout known whole c.loop-rest.progress c.loop-rest.draft c.loop-rest.rest.now before (fault_of c.in-Some.kind) c.loop-rest.invariant.stands
    (is_nothing c.is_empty.result (length c.loop-rest.rest.now) c.is_empty.ensures c.loop-rest-test.false)
    (sym (c.end_refusal.ensures before c.loop-rest.invariant.stands.behind) ∙ ap (option_map fault_of) c.in-Some.is)
    ∙ ap (λ n. told_but known (lines_of_head layout + 1) c.loop-rest.draft.bytes.items (StateRefused n (fault_of c.in-Some.kind)))
    (sym c.next_line-in-Some.ensures))

pub returns-in-Some-clause-bytes : goal.returns-in-Some-clause-bytes
returns-in-Some-clause-bytes c =
    let whole = Some (NamedLine (named_of c.args.named)) ∷ map (line_of (layout_of c.args.layout)) (split_lines c.args.text.now) in
    c.refused-in-Some.ensures.bytes whole
    (stands_bytes (layout_of c.args.layout) whole c.loop-rest.progress c.loop-rest.draft c.loop-rest.rest.now c.loop-rest.invariant.before
    c.next_line-in-Some.result
    c.loop-rest.invariant.stands c.next_line-in-Some.ensures)

pub returns-in-None-clause-told : goal.returns-in-None-clause-told
returns-in-None-clause-told c known =
    end_told (layout_of c.args.layout) known (named_of c.args.named)
    (map (line_of (layout_of c.args.layout)) (split_lines c.args.text.now)) c.loop-rest.progress
    c.loop-rest.draft c.loop-rest.rest.now c.loop-rest.invariant.before c.loop-rest.invariant.stands
    (is_nothing c.is_empty.result (length c.loop-rest.rest.now) c.is_empty.ensures c.loop-rest-test.false)
    (sym (c.end_refusal.ensures c.loop-rest.invariant.before c.loop-rest.invariant.stands.behind) ∙ ap (option_map fault_of) c.in-None.is)
