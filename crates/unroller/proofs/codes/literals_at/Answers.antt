use Rattle.std.proofs.Common.{◌≡◌, ◌∙◌, ap, ℕ, subst, get_or, arith, length}
use Rattle.std.proofs.lemmas.List.{get_or_default}
use Rattle.bilv_spec.specs.Run.{Program}
use Rattle.unroller.specs.Asking.{program_asking}
use Rattle.unroller.specs.Rows.{AreLiterals, literal_at}
use Rattle.unroller.proofs.Coding.{of_nodes}
use Rattle.unroller.proofs.Found.{literals_none, literals_more}
use Rattle.unroller.proofs.codes.literals_at.Goals as goal

pub unreachable-requires : goal.unreachable-requires
unreachable-requires g c =
    c.in-None.ensures c.requires.nodes
    (c.requires.among (get_or c.args.addresses.now c.loop-at.at-index 0) (
      c.loop-at.at-index,
      c.loop-at-test.true,
      get_or_default c.args.addresses.now c.loop-at.at-index
          (get_or c.args.addresses.now c.loop-at.at-index 0) 0 c.loop-at-test.true,
    ))

pub loop-at-init : goal.loop-at-init
loop-at-init g c = λ n e o is.
    literals_none (program_asking g.M.Machine.machine c.args.image.now n e o) c.args.addresses.now c.new-found.result.items c.new-found.ensures.items

pub loop-at-preserved : goal.loop-at-preserved
loop-at-preserved g c = λ n e o is.
    let p : Program = program_asking g.M.Machine.machine c.args.image.now n e o in
    literals_more p c.args.addresses.now c.loop-at.at-index c.loop-at.found.items c.add_address.new.found.items c.node_literal.result
    (c.loop-at.invariant n e o is) c.in_ok-add_address.ensures
    (c.node_literal.ensures n e o (of_nodes p c.args.graph.now c.in-Some.node.now is c.in-Some.ensures.1) ∙ ap (literal_at p) c.in-Some.ensures.0)

pub returns : goal.returns
returns g c = λ n e o is.
    let whole : c.loop-at.at-index ≡ length c.args.addresses.now = omega arith in
    subst (λ (z : ℕ). AreLiterals (program_asking g.M.Machine.machine c.args.image.now n e o) c.args.addresses.now z c.loop-at.found.items) whole
    (c.loop-at.invariant n e o is)
