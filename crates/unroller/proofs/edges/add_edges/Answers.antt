use Rattle.std.proofs.Common.{ℕ, List, Option, ◌∙◌, subst, Bool}
use Rattle.std.specs.Prelude.{◌==◌, ◌&&◌}
use Rattle.program_points.specs.declared.values.End.{End}
use Rattle.program_points.specs.Tables.{frame_at, jumps_of, linked}
use Rattle.unroller.specs.Led.{HasLed, next_of}
use Rattle.unroller.proofs.edges.add_edges.Goals as goal

pub returns : goal.returns
returns c =
    let n = c.args.node.now in
    let aims = c.args.aims.now in
    let frames = c.args.frames.now in
    let old = c.args.edges.now.items in
    let new = c.add_ends.new.edges.items in
    let stack = c.stack_of-stack.result in
    let Has : Option ℕ → List End → Option End → Bool → Type 0 =
    λ o l e b. HasLed aims.heads.now aims.stepped.now aims.asserts.now aims.keys.now c.args.own o l e b old new in
    let link : Option ℕ = linked n.links c.args.called in
    let exits : Bool = n.returns && (stack == 0) in
    subst (λ (s : ℕ). Has link (jumps_of c.args.narrow n (frame_at frames s) s c.args.called) (next_of n s) (n.returns && (s == 0))) c.stack_of-stack.ensures
    (subst (λ (l : List End). Has link l (next_of n stack) exits) (c.deref.ensures.value ∙ c.in_ok-jumps.ensures)
    (subst (λ (e : Option End). Has link c.deref.result.now e exits) c.next_end.ensures
    (subst (λ (o : Option ℕ). Has o c.deref.result.now c.next_end.result exits) c.linked.ensures
    (subst (Has c.linked.result c.deref.result.now c.next_end.result) c.exits.ensures c.in_ok-add_ends.ensures))))
