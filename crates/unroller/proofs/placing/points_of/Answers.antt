use Rattle.std.proofs.Common.{ℕ, sym, subst, arith, get_or}
use Rattle.question_form.specs.declared.unrolled.Deed.{Deed}
use Rattle.unroller.specs.Keys.{address_of}
use Rattle.unroller.specs.Led.{AreLeft, HasCode, IsCoded, deed_at}
use Rattle.unroller.proofs.Places.{placed_more, placed_none}
use Rattle.unroller.proofs.placing.points_of.Goals as goal

pub code_place-code-requires-clause-among : goal.code_place-code-requires-clause-among
code_place-code-requires-clause-among c =
    let aims = c.args.aims.now in
    let coded = c.args.coded in
    subst (λ (d : Deed). HasCode d coded.rows.now coded.steps.now c.address_of.result) (sym c.deed-deed.ensures)
    (subst (λ (a : ℕ). HasCode (deed_at aims.heads.now aims.stepped.now (get_or aims.keys.now c.loop-place.place 0)) coded.rows.now coded.steps.now a)
    (sym c.address_of.ensures) (c.requires.coded c.loop-place.place c.loop-place-test.true))

pub loop-place-init : goal.loop-place-init
loop-place-init c =
    let aims = c.args.aims.now in
    placed_none c.args.graph.now aims.heads.now aims.stepped.now aims.asserts.now c.args.frames.now aims.keys.now c.args.coded.rows.now c.args.coded.steps.now
    c.args.called.now c.in_ok-points.points.items c.new-edges.result.items c.in_ok-points.ensures.items c.new-edges.ensures.items

pub loop-place-preserved : goal.loop-place-preserved
loop-place-preserved c =
    let aims = c.args.aims.now in
    let coded = c.args.coded in
    let key = get_or aims.keys.now c.loop-place.place 0 in
    let deed = deed_at aims.heads.now aims.stepped.now key in
    placed_more c.args.graph.now aims.heads.now aims.stepped.now aims.asserts.now c.args.frames.now aims.keys.now coded.rows.now coded.steps.now
    c.args.called.now c.loop-place.place c.loop-place.points.items c.push.new.self.items c.loop-place.edges.items c.add_left.new.edges.items
    (record {
      root = c.root_of.result;
      turns = c.turns_of.result;
      code = c.code_place-code.result;
      stack = c.stack_of.result;
      deed = c.deed-deed.result;
      edges = c.len-begin.result;
    })
    c.loop-place.invariant c.in_ok-push.ensures.items c.root_of.ensures c.turns_of.ensures c.stack_of.ensures c.deed-deed.ensures
    (subst (λ (d : Deed). IsCoded d coded.rows.now coded.steps.now (address_of key) c.code_place-code.result) c.deed-deed.ensures
    (subst (λ (a : ℕ). IsCoded c.deed-deed.result coded.rows.now coded.steps.now a c.code_place-code.result) c.address_of.ensures
    c.code_place-code.ensures.code))
    (let e = c.len-begin.ensures in let f = c.loop-place.edges.ok.0 in omega arith)
    (subst (λ (d : Deed). AreLeft d c.args.graph.now aims.heads.now aims.stepped.now aims.asserts.now c.args.frames.now aims.keys.now key
    (get_or c.args.called.now c.loop-place.place 0) c.loop-place.edges.items c.add_left.new.edges.items) c.deed-deed.ensures c.in_ok-add_left.ensures)
