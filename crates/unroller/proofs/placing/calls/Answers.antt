use Rattle.std.proofs.Common.{ℕ, List, ap, sym, ◌∙◌, subst, arith, ◌++◌}
use Rattle.std.specs.Prelude.{Contains}
use Rattle.graph_nodes.specs.Graphs.{addresses_of}
use Rattle.program_points.specs.declared.values.Frame.{Frame}
use Rattle.word_spec.specs.Words.{add}
use Rattle.program_points.specs.Tables.{frame, IsCalled}
use Rattle.program_points.proofs.Lists.{regroup}
use Rattle.program_points.proofs.Expanded.{ok_zero}
use Rattle.unroller.proofs.Adding.{called_more, pushed_few}
use Rattle.unroller.proofs.placing.calls.Goals as goal

pub unreachable-requires : goal.unreachable-requires
unreachable-requires c =
    c.in-None.ensures c.requires.nodes
    (subst (λ (a : ℕ). Contains (addresses_of c.args.graph.now) a) (sym c.address_of.ensures) (c.requires.among c.loop-key.key-index c.loop-key-test.true))

pub loop-key-preserved : goal.loop-key-preserved
loop-key-preserved c =
    let old = c.loop-key.invariant.begins in
    let more = c.in_ok-number.ensures.called in
    record {
      table = c.in_ok-number.ensures.table;
      begins = (
        old.0 ++ more.rest,
        more.begins ∙ ap (λ (l : List Frame). l ++ more.rest) old.1 ∙ regroup c.args.stacks.now.frames.items old.0 more.rest,
        pushed_few old.0 more.rest (frame (add 32 c.in-Some.node.now.at c.in-Some.node.now.length) c.stack_of.result) c.loop-key.key-index old.2 more.only,
      );
      called =
          called_more c.args.graph.now c.args.keys.now c.loop-key.stacks.frames.items c.called.new.stacks.frames.items c.loop-key.key-index
          c.loop-key.found.items c.push.new.self.items
          c.in-Some.node.now c.in_ok-number.number c.loop-key.invariant.called c.in_ok-push.ensures.items c.in-Some.ensures.1
          (c.in-Some.ensures.0 ∙ c.address_of.ensures)
          (subst (λ (s : ℕ). IsCalled c.in-Some.node.now s c.loop-key.stacks.frames.items c.called.new.stacks.frames.items c.in_ok-number.number)
          c.stack_of.ensures more)
          (λ h. ok_zero c.called.result c.in_ok-number.number c.in_ok-number.was (c.called.ensures.none h).0);
    }

pub returns-clause-begins : goal.returns-clause-begins
returns-clause-begins c =
    let b = c.loop-key.invariant.begins in
    let few = b.2 in
    let inside = c.loop-key.auto.key-index-end in
    (b.0, b.1, (omega arith))
