use Rattle.std.proofs.Common.{ℕ, List, Some, None, ap, sym, ◌∙◌, subst, map, [], ◌∷◌, ◌++◌}
use Rattle.std.specs.Prelude.{Contains, ◌↔◌}
use Rattle.bilv_spec.proofs.PointsInGraph.{none_in}
use Rattle.program_points.specs.declared.values.End.{End}
use Rattle.program_points.proofs.Lists.{nothing_more, take_whole}
use Rattle.unroller.proofs.Ordered.{map_more}
use Rattle.unroller.specs.Keys.{target_key}
use Rattle.unroller.proofs.Adding.{map_listed, take_none, small_more}
use Rattle.unroller.proofs.edges.targets.Goals as goal
use Rattle.unroller.proofs.edges.targets.Goals.{in-Some+in_ok-push-2, in_default}

pub returns-clause-same : goal.returns-clause-same
returns-clause-same c =
    subst (λ (l : List ℕ). (x : ℕ) → Contains l x ↔ Contains c.in_ok-ordered.ordered.items x)
    (elim c.match-next.branch [
      | in-Some+in_ok-push-2 w ↦
          rw (w.found-is)
          (map_listed (target_key c.args.stepped.now c.args.linked c.args.own) c.args.jumps.now c.loop-end.end-index c.args.next
          (Some w.in-Some.end) c.loop-end.found.items w.push-in-Some.new.self.items c.loop-end-test.false
          c.loop-end.invariant.found w.in-Some.is (w.in_ok-push-2.ensures.items ∙ ap
          (λ k. c.loop-end.found.items ++ k ∷ []) w.target_key-in-Some.ensures.value))
      | in_default w ↦
          rw (w.found-is)
          (map_listed (target_key c.args.stepped.now c.args.linked c.args.own) c.args.jumps.now c.loop-end.end-index c.args.next None c.loop-end.found.items c.loop-end.found.items
          c.loop-end-test.false c.loop-end.invariant.found w.in_default.is
          (nothing_more c.loop-end.found.items))
    ]) c.in_ok-ordered.ensures.same

pub loop-end-init : goal.loop-end-init
loop-end-init c = record {
  found = c.new-found.ensures.items ∙ sym (ap (map (target_key c.args.stepped.now c.args.linked c.args.own)) (take_none c.args.jumps.now));
  small = λ e h. absurd (none_in e (subst (λ l. Contains l e) (take_none c.args.jumps.now) h));
}

pub loop-end-preserved : goal.loop-end-preserved
loop-end-preserved c =
    let none : End = record { stack = 0; at = 0 } in
    record {
      found =
          map_more (target_key c.args.stepped.now c.args.linked c.args.own) c.args.jumps.now c.loop-end.end-index none c.loop-end.found.items c.push.new.self.items c.loop-end-test.true
          c.loop-end.invariant.found
          (c.in_ok-push.ensures.items ∙ ap (λ k. c.loop-end.found.items ++ k ∷ []) c.target_key.ensures.value);
      small = λ e h.
          small_more c.args.jumps.now c.loop-end.end-index c.loop-end-test.true none c.target_key.ensures.small c.loop-end.invariant.small e h;
    }

pub returns-clause-small : goal.returns-clause-small
returns-clause-small c = λ e h.
    c.loop-end.invariant.small e (subst (λ l. Contains l e) (sym (take_whole c.args.jumps.now c.loop-end.end-index c.loop-end-test.false)) h)
