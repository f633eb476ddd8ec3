use Rattle.std.proofs.Common.{◌∙◌, ap, sym, lit≤, lit<}
use Rattle.word_spec.specs.Words.{add}
use Rattle.machine_spec.specs.Arm.{listed_from}
use Rattle.byte_mem.specs.Views.{endian_of}
use Rattle.arm_step.specs.States.{state_of}
use Rattle.arm_step.proofs.RegisterLists.{same_list, bit_of, block_jumps, block_goes}
use Rattle.arm_step.proofs.blocks.load_block.Goals as goal

pub returns-then-has-clause-step : goal.returns-then-has-clause-step
returns-then-has-clause-step c = λ w x.
    let b = c.args.fields.list.bits in
    block_jumps (endian_of c.args.endian) w (state_of c.args.state.now) (state_of c.write_block_base.new.state) (state_of c.load_all.new.state)
    (state_of c.jump.new.self) c.jump.result
    c.block_start-first.result c.loaded-to.result _ c.listed.result (listed_from b 0 16)
    (sym (bit_of b w 15 x.list (lit< tt)) ∙ sym c.has.ensures ∙ c.if-has.true)
    (c.write_block_base.ensures.state w x) c.load_all.ensures.state c.jump.ensures.state c.jump.ensures.out (c.block_start-first.ensures w x)
    (same_list b w 16 x.list (lit≤ tt)) c.loaded-to.ensures.number (ap (add 32 c.block_start-first.result) c.saturating_sub.ensures)
    (c.listed.ensures.listed w x)

pub returns-clause-step : goal.returns-clause-step
returns-clause-step c = λ w x.
    let b = c.args.fields.list.bits in
    block_goes (endian_of c.args.endian) w (state_of c.args.state.now) (state_of c.write_block_base.new.state) (state_of c.load_all.new.state)
    (state_of c.go_on.new.self) c.go_on.result
    c.block_start-first.result (listed_from b 0 16) (sym (bit_of b w 15 x.list (lit< tt)) ∙ sym c.has.ensures ∙ c.if-has.false)
    (c.write_block_base.ensures.state w x) c.load_all.ensures.state c.go_on.ensures.state c.go_on.ensures.out (c.block_start-first.ensures w x)
    (same_list b w 16 x.list (lit≤ tt))
