use Rattle.std.proofs.Common.{◌∙◌, ap}
use Rattle.word_spec.specs.Memory.{Memory}
use Rattle.word_spec.specs.State.{State}
use Rattle.byte_mem.specs.Views.{endian_of}
use Rattle.arm_step.specs.States.{state_of}
use Rattle.arm_step.proofs.Operands.{stored_byte, stored_word}
use Rattle.arm_step.proofs.access.store_by.Goals as goal

pub returns-then-is_byte-clause-state : goal.returns-then-is_byte-clause-state
returns-then-is_byte-clause-state c =
    let s = state_of c.args.state.now in
    let made : Memory → State = λ m. record s { mem = m } in
    c.store.ensures.state ∙ ap made (stored_byte c.args.is_byte (endian_of c.args.endian) s.mem c.args.a c.args.value c.if-is_byte.true)

pub returns-else-is_byte-clause-state : goal.returns-else-is_byte-clause-state
returns-else-is_byte-clause-state c =
    let s = state_of c.args.state.now in
    let made : Memory → State = λ m. record s { mem = m } in
    c.store-else-is_byte.ensures.state
    ∙ ap made (stored_word c.args.is_byte (endian_of c.args.endian) s.mem c.args.a c.aligned.result c.args.value c.if-is_byte.false c.aligned.ensures)
