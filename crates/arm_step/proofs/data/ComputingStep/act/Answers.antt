use Rattle.std.proofs.Common.{◌∙◌, ap, sym}
use Rattle.word_spec.specs.Words.{bit, bit_at}
use Rattle.word_spec.specs.State.{State}
use Rattle.machine_spec.specs.Arm.{reg, sets_flags}
use Rattle.arm_decode.specs.Parts.{opcode_number}
use Rattle.arm_decode.proofs.Predicates.{test_is}
use Rattle.arm_step.specs.Parts.{computed_of, shifted_of}
use Rattle.arm_step.specs.States.{state_of}
use Rattle.arm_step.proofs.Computations.{flags_from, result_from, tested, computes}
use Rattle.arm_step.proofs.data.ComputingStep.act.Goals as goal

pub returns-then-is_test-clause-step : goal.returns-then-is_test-clause-step
returns-then-is_test-clause-step c = rw c.requires.holds (
    let w = c.args.self.word in
    let s = state_of c.args.state.now in
    let x = c.fields-fields.ensures in
    let r = c.fields-fields.result in
    let m = computed_of c.result_of-made.result in
    let f = c.result_flags-flags in
    let made = result_from w s m c.read_any-x.result (opcode_number r.opcode) (shifted_of c.operand-operand.result)
    (c.result_of-made.ensures s (sym c.flags.ensures))
    (c.read_any-x.ensures ∙ ap (reg s) x.rn) (c.operand-operand.ensures w x.operand) x.opcode in
    let flags = flags_from s.flags r.sets_flags (sets_flags w) (bit f.result.n) (bit_at 31 m.value) (bit f.result.z) _ (bit f.result.c) m.carry
    (bit f.result.v) m.overflow
    x.sets_flags f.ensures.n (ap bit f.ensures.z) (ap bit f.ensures.c) (ap bit f.ensures.v) in
    tested w s (state_of c.set_flags_if.new.state) (state_of c.go_on.new.self) c.go_on.result m
    (sym (c.is_test.ensures ∙ test_is w r.opcode x.opcode) ∙ c.if-is_test.true) made
    (c.set_flags_if.ensures.state ∙ ap (λ g. let t : State = record s { flags = g } in t) flags) c.go_on.ensures.state c.go_on.ensures.out
    )

pub returns-clause-step : goal.returns-clause-step
returns-clause-step c = rw c.requires.holds (
    let w = c.args.self.word in
    let s = state_of c.args.state.now in
    let x = c.fields-fields.ensures in
    let r = c.fields-fields.result in
    let m = computed_of c.result_of-made.result in
    let f = c.result_flags-flags in
    let made = result_from w s m c.read_any-x.result (opcode_number r.opcode) (shifted_of c.operand-operand.result)
    (c.result_of-made.ensures s (sym c.flags.ensures))
    (c.read_any-x.ensures ∙ ap (reg s) x.rn) (c.operand-operand.ensures w x.operand) x.opcode in
    let flags = flags_from s.flags r.sets_flags (sets_flags w) (bit f.result.n) (bit_at 31 m.value) (bit f.result.z) _ (bit f.result.c) m.carry
    (bit f.result.v) m.overflow
    x.sets_flags f.ensures.n (ap bit f.ensures.z) (ap bit f.ensures.c) (ap bit f.ensures.v) in
    computes w s (state_of c.set_flags_if.new.state) (state_of c.write.new.state) c.write.result m r.rd.number
    (sym (c.is_test.ensures ∙ test_is w r.opcode x.opcode) ∙ c.if-is_test.false) made
    (c.set_flags_if.ensures.state ∙ ap (λ g. let t : State = record s { flags = g } in t) flags) x.rd
    (c.write.ensures.step s (ap (λ t. t.pc) (sym c.set_flags_if.ensures.state)))
    )
