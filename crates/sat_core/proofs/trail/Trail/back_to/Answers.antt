use Rattle.std.proofs.Common.{◌≡◌, ◌≤◌, ◌∷◌, ◌++◌, [], ◌∙◌, length, length-append, take, arith, sym, ap}
use Rattle.std.proofs.lemmas.List.{take-append-le, length-set}
use Rattle.sat_core.proofs.Stepping.{trail-less}
use Rattle.sat_core.proofs.trail.Trail.back_to.Goals as goal

pub loop-self-preserved : goal.loop-self-preserved
loop-self-preserved c =
    let inv = c.loop-self.invariant in
    let fewer = c.pop.new.self.items in
    let s = c.in-Some.step in
    let is : c.loop-self.self.steps.items ≡ fewer ++ s ∷ [] = c.in-Some.ensures.items in
    let le : c.args.count ≤ length fewer = (let a = c.loop-self-test.true in let b = c.len.ensures in let d = c.loop-self.self.steps.ok.0
    in omega (arith, ap length is, length-append fewer (s ∷ []))) in
    record {
      trail = rw (c.variable.ensures.value, c.pop.ensures.capacity)
          (trail-less c.loop-self.self.table.items c.loop-self.self.steps.items fewer s _ inv.trail is);
      left = sym (take-append-le c.args.count fewer (s ∷ []) le) ∙ ap (take c.args.count) (sym is) ∙ inv.left;
      size = length-set c.loop-self.self.table.items c.variable.result _ ∙ inv.size;
    }
