use Rattle.std.proofs.Common.{◌≡◌, ◌∙◌, sym, ℕ, subst, get_or, arith, length}
use Rattle.std.proofs.lemmas.List.{get_or_default}
use Rattle.bilv_spec.specs.Run.{Program}
use Rattle.unroller.specs.Asking.{program_asking}
use Rattle.unroller.specs.Places.{IsGroup, AreCodes}
use Rattle.unroller.proofs.Coding.{codes_none, codes_more, of_nodes, kept_of_nodes}
use Rattle.unroller.proofs.codes.codes_at.Goals as goal

pub unreachable-requires : goal.unreachable-requires
unreachable-requires g c =
    c.in-None.ensures c.requires.nodes
    (c.requires.among (get_or c.args.addresses.now c.loop-at.at-index 0) (
      c.loop-at.at-index,
      c.loop-at-test.true,
      get_or_default c.args.addresses.now c.loop-at.at-index
          (get_or c.args.addresses.now c.loop-at.at-index 0) 0 c.loop-at-test.true,
    ))

pub loop-at-init : goal.loop-at-init
loop-at-init g c = λ n e o noted is live.
    codes_none (program_asking g.M.Machine.machine c.args.program.now.image.now n e o) g.M.Machine.bank noted c.args.addresses.now c.args.asserts.now c.in_ok-codes.codes.items
    c.in_ok-codes.ensures.items

pub loop-at-preserved : goal.loop-at-preserved
loop-at-preserved g c = λ n e o noted is live.
    let p : Program = program_asking g.M.Machine.machine c.args.program.now.image.now n e o in
    codes_more p g.M.Machine.bank noted c.args.addresses.now c.args.asserts.now c.loop-at.at-index c.loop-at.codes.items c.push.new.self.items c.in_ok-code.code
    (c.loop-at.invariant n e o noted is live)
    c.in_ok-push.ensures.items (record {
      here = c.in_ok-code.ensures.at ∙ c.in-Some.ensures.0;
      row = c.in_ok-code.ensures.row n e o noted (of_nodes p c.args.graph.now c.in-Some.node.now is c.in-Some.ensures.1)
          (kept_of_nodes p noted c.args.graph.now c.in-Some.node.now live c.in-Some.ensures.1);
      group =
          subst (λ (b : ℕ × ℕ). IsGroup c.args.asserts.now (get_or c.args.addresses.now c.loop-at.at-index 0) b) (sym c.in_ok-code.ensures.asserts) (record {
            ordered = c.group.ensures.ordered;
            within = c.group.ensures.within;
            here = c.group.ensures.here;
            before = c.group.ensures.before;
            behind = c.group.ensures.behind;
          });
    })

pub returns : goal.returns
returns g c = λ n e o noted is live.
    let p : Program = program_asking g.M.Machine.machine c.args.program.now.image.now n e o in
    let whole : c.loop-at.at-index ≡ length c.args.addresses.now = omega arith in
    subst (λ (z : ℕ). AreCodes p g.M.Machine.bank noted c.args.addresses.now c.args.asserts.now z c.loop-at.codes.items) whole (c.loop-at.invariant n e o noted is live)
