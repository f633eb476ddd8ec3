use Rattle.std.proofs.Common.{◌∙◌, ◌*◌, ◌%◌, ◌^◌, ◌<◌, ap, subst, sym}
use Rattle.word_spec.specs.Memory.{Memory, Little, memory_of, store}
use Rattle.word_spec.specs.State.{State}
use Rattle.machine_spec.proofs.WordBounds.{stored_below}
use Rattle.byte_mem.proofs.Numbers.{store_cut}
use Rattle.rv_step.specs.RegisterFile.{registers_of}
use Rattle.rv_step.proofs.state.State.store.Goals as goal

pub returns-clause-state : goal.returns-clause-state
returns-clause-state c =
    let old = c.args.self.now in
    let n = c.args.n in
    let m = memory_of old.memory.entries in
    let made : Memory → State = λ m. record { pc = old.pc; regs = registers_of old.registers.words; flags = λ f. 0; mem = m } in
    ap made (c.store_reserved.ensures.memory
    ∙ ap (store Little n m c.args.a) (c.low-low.ensures.bits ∙ ap (λ v. v % 2 ^ (8 * n)) c.new.ensures.bits)
    ∙ store_cut Little n m c.args.a c.args.value)

pub invariant_of-self-clause-bytes_in_range : goal.invariant_of-self-clause-bytes_in_range
invariant_of-self-clause-bytes_in_range c = λ x.
    let old = c.args.self.now.memory.entries in
    subst (λ (m : Memory). m x < 256) (sym c.store_reserved.ensures.memory)
    (stored_below Little c.args.n (memory_of old) c.args.a c.low-low.result.bits x (c.args.self.now.bytes_in_range x))
