use Rattle.std.proofs.Common.{◌∙◌, arith, false}
use Rattle.machine_spec.specs.RvMachine.{rv32}
use Rattle.condition_tests.proofs.Written.{written}
use Rattle.condition_tests.proofs.starts.start_with.Goals as goal

pub returns : goal.returns
returns c =
    let last = c.known_stretch-stretch.ensures.last in
    written c.in_ok-regs.regs.items c.args.registers.now c.in_ok-bytes.bytes.items c.new-choices.result.items 131073 167 c.in_ok-regs.ensures.items
    c.requires (λ i. omega (arith, c.type_inv.registers i)) c.in_ok-bytes.ensures.items c.new-choices.ensures.items _ (omega arith) (omega arith)
    (omega arith) (c.known_stretch-stretch.ensures.same (rv32 false) c.args.program.now.entry 131073 (omega arith) (omega (arith, last)) ∙ c.if-stretch.false)
