use Rattle.std.proofs.Common.{◌+◌, List, false, None, subst, drop, get_or}
use Rattle.std.proofs.lemmas.List.Elements.{Contains-get_or}
use Rattle.question_form.specs.declared.unrolled.Edge.{Edge}
use Rattle.question_form.specs.declared.unrolled.Aim.TheVariants.{OnTo}
use Rattle.passify.specs.Edges.{EdgesTried}
use Rattle.passify.proofs.Lines.{drop_all, drop_here, like_sweep}
use Rattle.passify.proofs.Pushed.{other_default}
use Rattle.passify.proofs.Taken.{edges_none, edge_tried, can_go_on}
use Rattle.passify.proofs.edges.edges.Goals as goal

abbrev zero_edge : Edge
zero_edge = record { falls = false; jumps = false; to = None; aim = OnTo 0 }

pub loop-i-init : goal.loop-i-init
loop-i-init c = edges_none c.args.unrolled.now c.args.dag.now c.args.sweep.now c.args.rest.0 c.args.gone.now.next c.args.gone.now.jumped.0 c.args.link.0
    c.args.list.now c.requires.well c.requires.rest

pub taken-requires-clause-goes : goal.taken-requires-clause-goes
taken-requires-clause-goes c =
    can_go_on c.args.unrolled.now c.args.sweep.now c.loop-i.sweep c.args.gone.now.next.names.now c.loop-i.invariant.edges.steps.like
    (c.requires.goes (get_or c.args.list.now c.loop-i.i zero_edge) (Contains-get_or c.args.list.now c.loop-i.i zero_edge c.loop-i-test.true))

pub loop-i-preserved : goal.loop-i-preserved
loop-i-preserved c =
    let u = c.args.unrolled.now in
    let r = c.in_ok-left.ensures in
    let e = get_or c.args.list.now c.loop-i.i zero_edge in
    edge_tried u c.args.dag.now c.loop-i.dag c.taken.new.dag c.args.sweep.now c.loop-i.sweep c.taken.new.sweep c.args.rest.0 c.loop-i.left.0
    c.in_ok-left.left.0 c.args.gone.now.next c.args.gone.now.jumped.0 c.args.link.0 c.args.list.now (drop (c.loop-i.i + 1) c.args.list.now) e
    c.requires.well c.requires.next c.requires.pc c.requires.jumped c.requires.link
    (subst (λ (q : List Edge). EdgesTried u c.args.dag.now c.loop-i.dag c.args.sweep.now c.loop-i.sweep c.args.rest.0 c.loop-i.left.0 c.args.gone.now.next
    c.args.gone.now.jumped.0 c.args.link.0 c.args.list.now q)
    (drop_here c.args.list.now c.loop-i.i e c.loop-i-test.true (other_default c.args.list.now c.loop-i.i zero_edge e c.loop-i-test.true)) c.loop-i.invariant)
    r.steps r.bit r.tries r.narrows

pub returns : goal.returns
returns c =
    subst (λ (q : List Edge). EdgesTried c.args.unrolled.now c.args.dag.now c.loop-i.dag c.args.sweep.now c.loop-i.sweep c.args.rest.0 c.loop-i.left.0
    c.args.gone.now.next c.args.gone.now.jumped.0 c.args.link.0 c.args.list.now q)
    (drop_all c.args.list.now c.loop-i.i c.loop-i-test.false) c.loop-i.invariant

pub taken-requires-clause-sweep : goal.taken-requires-clause-sweep
taken-requires-clause-sweep c = like_sweep c.args.unrolled.now c.args.sweep.now c.loop-i.sweep c.loop-i.invariant.edges.steps.like c.requires.sweep
