use Rattle.std.proofs.Common.{◌≡◌, ℕ, List, Some, None, refl, subst, sym, ap, ◌∙◌, length, map, Contains}
use Rattle.bil_ast.specs.declared.statements.Stmt.{Stmt}
use Rattle.bil_ast.specs.Views.{statements}
use Rattle.term_spec.specs.Terms.{HasWidth}
use Rattle.frame_spec.specs.FrameWalk.{Executes}
use Rattle.question_form.specs.declared.unrolled.Code.{Code}
use Rattle.question_form.specs.declared.unrolled.Edge.{Edge}
use Rattle.question_form.specs.FrameViews.{frame_unrolled_of}
use Rattle.passify.specs.Edges.{CanGo}
use Rattle.passify.specs.declared.spans.Span.{Span}
use Rattle.passify.specs.Rows.{own_code, framed}
use Rattle.passify.specs.Spans.{IsRefused, IsSpan, span_of}
use Rattle.passify.proofs.Joined.{form_on}
use Rattle.passify.proofs.Kept.{names_keep, well_keeps}
use Rattle.passify.proofs.Counted.{none_paid}
use Rattle.passify.proofs.Standing.{own_is, led_for, point_terms, edges_go, link_for, link_width, row_edges}
use Rattle.passify.proofs.Pointed.{gone_at, none_priced, own_keeps, row_does, row_none, row_from}
use Rattle.passify.proofs.Rowed.{stores_are_spans}
use Rattle.passify.proofs.point.row.Goals as goal

pub run_list-requires-clause-runs : goal.run_list-requires-clause-runs
run_list-requires-clause-runs c =
    let u = c.args.unrolled.now in
    let own = own_is u c.args.place c.index.result.now c.index-code.result.now c.requires.formed c.requires.place c.index.ensures c.index-code.ensures in
    let code : (own_code u c.args.place).list ≡ Some c.in-Some.list = ap (λ (k : Code). k.list) (sym own) ∙ c.in-Some.is in
    led_for (frame_unrolled_of u) c.args.sweep.now.entry c.args.names.now c.requires.sweep.form c.requires.names.same (framed u c.args.place)
    (statements c.deref.result.now)
    (row_does u c.args.place c.in-Some.list c.requires.deed code ∙ ap (λ (z : List Stmt). Executes (statements z)) (sym c.deref.ensures.value))
    (point_terms u c.args.place c.requires.walkable c.requires.formed c.requires.place)

pub refused-requires-clause-spans : goal.refused-requires-clause-spans
refused-requires-clause-spans c =
    subst (λ (z : List Span). (k : Span) → Contains z k → IsSpan c.run_list.new.dag k)
    (sym (c.deref-3.ensures.value ∙ c.in_ok-stored.ensures ∙ ap (map span_of) c.deref-2.ensures.value))
    (stores_are_spans c.run_list.new.dag c.in_ok-left.left.stored.items c.in_ok-left.ensures.stores)

pub refused-requires-clause-own : goal.refused-requires-clause-own
refused-requires-clause-own c =
    subst (λ (z : List Span). (k : Span) → Contains z k → IsSpan c.run_list.new.dag k) (sym c.deref-4.ensures.value)
    (own_keeps c.args.unrolled.now c.args.dag.now c.run_list.new.dag c.args.sweep.now c.args.sweep.now c.requires.own c.in_ok-left.ensures.grew refl refl).each

pub refused-requires-clause-runs : goal.refused-requires-clause-runs
refused-requires-clause-runs c = c.requires.walkable.runs

pub leave-requires-clause-well : goal.leave-requires-clause-well
leave-requires-clause-well c =
    let s = c.args.sweep.now in
    let a = c.in_ok-left.ensures in
    let b = c.in_ok-wrote.ensures in
    let d = c.in_ok-next.ensures in
    let e = c.in_ok-odd.ensures in
    well_keeps e.grew s e.typed (well_keeps d.grew s d.typed (well_keeps b.grew s b.typed (well_keeps a.grew s a.typed c.requires.well)))

pub leave-requires-clause-goes : goal.leave-requires-clause-goes
leave-requires-clause-goes c =
    let u = c.args.unrolled.now in
    let n = c.in_ok-left.left.names in
    let own = own_is u c.args.place c.index.result.now c.index-code.result.now c.requires.formed c.requires.place c.index.ensures c.index-code.ensures in
    let code : (own_code u c.args.place).list ≡ Some c.in-Some.list = ap (λ (k : Code). k.list) (sym own) ∙ c.in-Some.is in
    subst (λ (z : List Edge). (e : Edge) → Contains z e → CanGo u (length c.args.sweep.now.met.items) n e.aim) (sym c.edges_at-list.ensures)
    (edges_go u c.args.place c.requires.walkable c.requires.formed c.requires.place
    (row_edges u c.args.place c.requires.walkable c.requires.formed c.requires.place c.requires.deed c.in-Some.list code) c.args.sweep.now n c.requires.roots
    c.requires.sweep (form_on c.args.sweep.now.entry c.args.names.now n c.requires.names.same c.in_ok-left.ensures.form))

pub leave-requires-clause-next : goal.leave-requires-clause-next
leave-requires-clause-next c =
    let n = c.in_ok-left.left.names in
    record {
      same = form_on c.args.sweep.now.entry c.args.names.now n c.requires.names.same c.in_ok-left.ensures.form;
      names = names_keep c.in_ok-odd.ensures.grew n (names_keep c.in_ok-next.ensures.grew n (names_keep c.in_ok-wrote.ensures.grew n
          c.in_ok-left.ensures.names));
    }

pub leave-requires-clause-link : goal.leave-requires-clause-link
leave-requires-clause-link c =
    let s = c.args.sweep.now in
    let a = c.in_ok-left.ensures in
    let b = c.in_ok-wrote.ensures in
    let d = c.in_ok-next.ensures in
    let e = c.in_ok-odd.ensures in
    subst (λ (t : ℕ). HasWidth c.unaligned.new.dag 32 t) (sym c.entry_link-link.ensures)
    (link_width c.unaligned.new.dag s (well_keeps e.grew s e.typed
    (well_keeps d.grew s d.typed (well_keeps b.grew s b.typed (well_keeps a.grew s a.typed c.requires.well))))
    c.args.unrolled.now.link
    (link_for c.args.unrolled.now s c.requires.walkable c.requires.sweep))

pub returns-in_default : goal.returns-in_default
returns-in_default c =
    let u = c.args.unrolled.now in
    let own = own_is u c.args.place c.index.result.now c.index-code.result.now c.requires.formed c.requires.place c.index.ensures c.index-code.ensures in
    let none : (own_code u c.args.place).list ≡ None = ap (λ (k : Code). k.list) (sym own) ∙ c.in_default.is in
    row_none u c.args.place c.args.names.now c.args.dag.now c.args.sweep.now c.args.rest.0 c.requires.well c.requires.rest c.requires.deed none
    (none_paid u c.args.place (none_priced u c.args.place c.requires.deed none
    (point_terms u c.args.place c.requires.walkable c.requires.formed c.requires.place)))

pub returns : goal.returns
returns c =
    let u = c.args.unrolled.now in
    let own = own_is u c.args.place c.index.result.now c.index-code.result.now c.requires.formed c.requires.place c.index.ensures c.index-code.ensures in
    let code : (own_code u c.args.place).list ≡ Some c.in-Some.list = ap (λ (k : Code). k.list) (sym own) ∙ c.in-Some.is in
    row_from u c.args.place c.args.names.now c.args.dag.now c.run_list.new.dag c.refused.new.dag c.next_address.new.dag c.unaligned.new.dag c.leave.new.dag
    c.args.sweep.now
    c.leave.new.sweep c.args.rest.0
    c.in_ok-last.last.0 c.in-Some.list c.deref.result.now c.in_ok-left.left c.deref-3.result.now c.in_ok-wrote.wrote.0 c.in_ok-odd.odd.0 _
    c.in_ok-next.next.0
    c.entry_link-link.result.0 c.edges_at-list.result.now
    (record {
      walkable = c.requires.walkable;
      formed = c.requires.formed;
      within = c.requires.place;
      of = c.requires.sweep;
      well = c.requires.well;
      names = c.requires.names;
      rest_bit = c.requires.rest;
      roots = c.requires.roots;
      row = c.requires.deed;
      code = code;
      items_are = c.deref.ensures.value;
      stored_are = c.deref-3.ensures.value ∙ c.in_ok-stored.ensures ∙ ap (map span_of) c.deref-2.ensures.value;
      own = c.requires.own;
      edges_are = c.edges_at-list.ensures;
      left = c.in_ok-left.ensures;
      kept = subst (λ (z : List Span). IsRefused u c.run_list.new.dag c.refused.new.dag c.deref-3.result.now z c.in_ok-wrote.wrote.0) c.deref-4.ensures.value
          c.in_ok-wrote.ensures;
      gone = gone_at u c.args.place c.refused.new.dag c.next_address.new.dag c.in_ok-next.next.0 c.in_ok-left.left.jumped.0 c.in_ok-left.left.target.0
          c.index-code.result.now own c.in_ok-next.ensures;
      off = c.in_ok-odd.ensures;
      leaving = c.in_ok-last.ensures;
      next_names = refl;
      next_pc = refl;
      link_is = c.entry_link-link.ensures;
    })
