use Rattle.std.proofs.Common.{◌∙◌, ap, sym, true, false}
use Rattle.std.specs.Prelude.{◌==◌}
use Rattle.byte_mem.specs.Views.{endian_of}
use Rattle.arm_step.specs.States.{state_of}
use Rattle.arm_step.proofs.Accesses.{half_by, halfword_n}
use Rattle.arm_step.proofs.halfwords.HalfwordStep.act.Goals as goal

pub returns-then-is_load-clause-step : goal.returns-then-is_load-clause-step
returns-then-is_load-clause-step c = rw c.requires.holds (
    let w = c.args.self.word in
    let x = c.fields-fields.ensures in
    half_by w (endian_of c.args.endian) (state_of c.args.state.now)
    (state_of c.load_halfword.new.state) c.load_halfword.result c.halfword_address.result c.halfword_size.result
    true true (c.halfword_address.ensures w x) (c.halfword_size.ensures.size w x.op) (ap (λ n. n == 0) c.if-halfword_address-halfword_size-ne0.false)
    (sym (c.is_load.ensures w x.op) ∙ c.if-is_load.true) (c.load_halfword.ensures.step w x (halfword_n w c.args.self.row.1))
    )

pub returns-else-is_load-clause-step : goal.returns-else-is_load-clause-step
returns-else-is_load-clause-step c = rw c.requires.holds (
    let w = c.args.self.word in
    let x = c.fields-fields.ensures in
    half_by w (endian_of c.args.endian) (state_of c.args.state.now)
    (state_of c.store_halfword.new.state) c.store_halfword.result c.halfword_address.result c.halfword_size.result
    true false (c.halfword_address.ensures w x) (c.halfword_size.ensures.size w x.op) (ap (λ n. n == 0) c.if-halfword_address-halfword_size-ne0.false)
    (sym (c.is_load.ensures w x.op) ∙ c.if-is_load.false) (c.store_halfword.ensures.step w x (halfword_n w c.args.self.row.1))
    )
