use Rattle.std.proofs.Common.{◌∙◌, ◌<◌, ℕ, List, Contains, length, refl, sym, ap, map, subst, rules, get_or}
use Rattle.term_spec.specs.Terms.{ConstantNode, HasWidth, term_word}
use Rattle.notes_value.specs.NoteViews.{note_line_of}
use Rattle.program_points.specs.Tables.{stack_at}
use Rattle.program_points.specs.declared.values.Frame.{Frame}
use Rattle.question_form.specs.declared.unrolled.Edge.{Edge}
use Rattle.question_form.specs.declared.unrolled.Point.{Point}
use Rattle.question_form.specs.FrameViews.{stepped_at, top_of}
use Rattle.term_dag.proofs.Growth.{grew_width, interned_grew, interned_width}
use Rattle.passify.specs.Edges.{CanGo}
use Rattle.passify.proofs.Called.{gives_read, step_within, stepped_is}
use Rattle.passify.proofs.Heads.{own_point_is}
use Rattle.passify.proofs.Joined.{form_back, form_on}
use Rattle.passify.proofs.Kept.{names_keep, terms_keep, well_keeps}
use Rattle.passify.proofs.Standing.{contract_edges, edges_go, edges_later, link_for, link_width, link_word}
use Rattle.passify.proofs.Stepped.{went_on}
use Rattle.passify.proofs.calls.onward.Goals as goal

pub offset_bounds-unrolled-number : goal.offset_bounds-unrolled-number
offset_bounds-unrolled-number c =
    let lt : c.args.number < length c.args.unrolled.now.stepped.now = step_within c.args.unrolled.now c.args.place c.args.number c.requires.steps
    c.requires.place c.requires.deed in
    search rules

pub bounds-unrolled-number : goal.bounds-unrolled-number
bounds-unrolled-number c =
    step_within c.args.unrolled.now c.args.place c.args.number c.requires.steps c.requires.place c.requires.deed

pub gives-requires-clause-reads : goal.gives-requires-clause-reads
gives-requires-clause-reads c l at =
    let u = c.args.unrolled.now in
    gives_read u c.args.place c.args.number c.requires.walkable c.requires.formed c.requires.place c.requires.deed c.args.sweep.now c.args.names.now
    c.requires.sweep c.requires.names.same c.deref-2.result.now
    (ap (map note_line_of) c.deref-2.ensures.value ∙ ap (λ k. k.gives) (stepped_is u c.args.number (get_or c.args.unrolled.now.stepped.now c.args.number c.index-unrolled-number.result)
    (step_within u c.args.place c.args.number c.requires.steps c.requires.place c.requires.deed) (ap (λ z. get_or c.args.unrolled.now.stepped.now c.args.number z) c.index-unrolled-number.is))) l at

pub gives-requires-clause-same : goal.gives-requires-clause-same
gives-requires-clause-same c =
    form_on c.args.names.now c.args.sweep.now.entry c.args.now.now.names.now (form_back c.args.sweep.now.entry c.args.names.now c.requires.names.same)
    c.requires.now.same

pub gives-requires-clause-next : goal.gives-requires-clause-next
gives-requires-clause-next c =
    let g = interned_grew c.args.dag.now c.keep.new.self (ConstantNode 32 c.from.result) c.in_ok-pc.pc.0 c.in_ok-pc.ensures in
    record {
      names = names_keep g c.args.names.now c.requires.names.names;
      pc = interned_width c.args.dag.now c.keep.new.self (ConstantNode 32 c.from.result) c.in_ok-pc.pc.0 32 c.in_ok-pc.ensures refl;
    }

pub gives-requires-clause-now : goal.gives-requires-clause-now
gives-requires-clause-now c =
    let g = interned_grew c.args.dag.now c.keep.new.self (ConstantNode 32 c.from.result) c.in_ok-pc.pc.0 c.in_ok-pc.ensures in
    record {
      names = names_keep g c.args.now.now.names.now c.requires.now.names;
      pc = grew_width c.args.dag.now c.keep.new.self 0 0 0 0 1 32 c.args.now.now.pc.0 g c.requires.pc;
    }

pub gives-requires-clause-rest : goal.gives-requires-clause-rest
gives-requires-clause-rest c =
    grew_width c.args.dag.now c.keep.new.self 0 0 0 0 1 1 c.args.kept.0
    (interned_grew c.args.dag.now c.keep.new.self (ConstantNode 32 c.from.result) c.in_ok-pc.pc.0 c.in_ok-pc.ensures) c.requires.kept

pub edges-requires-clause-well : goal.edges-requires-clause-well
edges-requires-clause-well c =
    well_keeps c.in_ok-left.ensures.grew c.args.sweep.now c.in_ok-left.ensures.typed
    (well_keeps (interned_grew c.args.dag.now c.keep.new.self (ConstantNode 32 c.from.result) c.in_ok-pc.pc.0 c.in_ok-pc.ensures) c.args.sweep.now
    c.in_ok-pc.ensures.typed c.requires.well)

pub edges-requires-clause-goes : goal.edges-requires-clause-goes
edges-requires-clause-goes c =
    let u = c.args.unrolled.now in
    subst (λ (z : List Edge). (e : Edge) → Contains z e → CanGo u (length c.args.sweep.now.met.items) c.args.names.now e.aim) (sym c.edges_at-list.ensures)
    (edges_go u c.args.place c.requires.walkable c.requires.formed c.requires.place
    (contract_edges u c.args.place c.requires.walkable c.requires.formed c.requires.place c.args.number c.requires.deed) c.args.sweep.now c.args.names.now
    c.requires.roots c.requires.sweep c.requires.names.same)

pub edges-requires-clause-next : goal.edges-requires-clause-next
edges-requires-clause-next c =
    terms_keep c.in_ok-left.ensures.grew c.args.sweep.now.entry c.args.names.now
    (terms_keep (interned_grew c.args.dag.now c.keep.new.self (ConstantNode 32 c.from.result) c.in_ok-pc.pc.0 c.in_ok-pc.ensures) c.args.sweep.now.entry
    c.args.names.now c.requires.names)

pub edges-requires-clause-pc : goal.edges-requires-clause-pc
edges-requires-clause-pc c =
    grew_width c.keep.new.self c.gives.new.dag _ _ _ _ _ 32 c.in_ok-pc.pc.0 c.in_ok-left.ensures.grew
    (interned_width c.args.dag.now c.keep.new.self (ConstantNode 32 c.from.result) c.in_ok-pc.pc.0 32 c.in_ok-pc.ensures refl)

pub edges-requires-clause-jumped : goal.edges-requires-clause-jumped
edges-requires-clause-jumped c =
    grew_width c.keep.new.self c.gives.new.dag _ _ _ _ _ 1 c.args.yes.0 c.in_ok-left.ensures.grew
    (grew_width c.args.dag.now c.keep.new.self 0 0 0 0 1 1 c.args.yes.0
    (interned_grew c.args.dag.now c.keep.new.self (ConstantNode 32 c.from.result) c.in_ok-pc.pc.0 c.in_ok-pc.ensures) c.requires.yes)

pub edges-requires-clause-link : goal.edges-requires-clause-link
edges-requires-clause-link c =
    let s = c.args.sweep.now in
    subst (λ (t : ℕ). HasWidth c.gives.new.dag 32 t) (sym c.entry_link-link.ensures)
    (link_width c.gives.new.dag s (well_keeps c.in_ok-left.ensures.grew s c.in_ok-left.ensures.typed
    (well_keeps (interned_grew c.args.dag.now c.keep.new.self (ConstantNode 32 c.from.result) c.in_ok-pc.pc.0 c.in_ok-pc.ensures) s
    c.in_ok-pc.ensures.typed c.requires.well)) c.args.unrolled.now.link (link_for c.args.unrolled.now s c.requires.walkable c.requires.sweep))

pub returns : goal.returns
returns c =
    let u = c.args.unrolled.now in
    let s = c.args.sweep.now in
    let w = well_keeps c.in_ok-left.ensures.grew s c.in_ok-left.ensures.typed
    (well_keeps (interned_grew c.args.dag.now c.keep.new.self (ConstantNode 32 c.from.result) c.in_ok-pc.pc.0 c.in_ok-pc.ensures) s c.in_ok-pc.ensures.typed
    c.requires.well) in
    let h = link_for u s c.requires.walkable c.requires.sweep in
    went_on u c.args.place (stepped_at u c.args.number) c.args.names.now c.args.now.now _ c.args.dag.now c.keep.new.self c.gives.new.dag c.edges.new.dag s
    c.edges.new.sweep c.args.kept.0 c.in_ok-left.left.0 c.in_ok-last.last.0 c.args.yes.0 c.from.result c.in_ok-pc.pc.0 c.entry_link-link.result.0 _ _
    c.in_ok-left.ensures c.in_ok-last.ensures
    (ap (map note_line_of) c.deref-2.ensures.value ∙ ap (λ q. q.gives) (stepped_is u c.args.number (get_or c.args.unrolled.now.stepped.now c.args.number c.index-unrolled-number.result)
    (step_within u c.args.place c.args.number c.requires.steps c.requires.place c.requires.deed) (ap (λ z. get_or c.args.unrolled.now.stepped.now c.args.number z) c.index-unrolled-number.is)))
    c.edges_at-list.ensures refl refl
    (edges_later u c.args.place c.requires.walkable c.requires.formed c.requires.place
    (contract_edges u c.args.place c.requires.walkable c.requires.formed c.requires.place c.args.number c.requires.deed))
    c.requires.well c.requires.names c.requires.now c.requires.pc c.requires.kept c.requires.yes c.requires.is_yes c.in_ok-pc.ensures
    (c.from.ensures ∙ c.returns_to.ensures ∙ ap (λ (l : List Frame). top_of (stack_at l c.index.result.now.stack)) c.deref.ensures.value
    ∙ ap (λ (q : Point). top_of (stack_at u.frames.items q.stack))
    (own_point_is u c.args.place c.index.result.now c.requires.roots c.requires.place c.index.ensures))
    (subst (λ (t : ℕ). HasWidth c.gives.new.dag 32 t) (sym c.entry_link-link.ensures) (link_width c.gives.new.dag s w u.link h))
    (λ x r. ap (λ (i : ℕ). term_word x c.gives.new.dag i) c.entry_link-link.ensures ∙ link_word c.gives.new.dag s w u.link h x r)
