use Rattle.std.proofs.Common.{lit≤}
use Rattle.machine_spec.specs.Arm.{listed_from}
use Rattle.byte_mem.specs.Views.{endian_of}
use Rattle.arm_step.specs.States.{state_of}
use Rattle.arm_step.proofs.RegisterLists.{same_list, block_stores}
use Rattle.arm_step.proofs.blocks.store_block.Goals as goal

pub returns-clause-step : goal.returns-clause-step
returns-clause-step c = λ w x.
    let b = c.args.fields.list.bits in
    block_stores (endian_of c.args.endian) w c.args.choice (state_of c.args.state.now) (state_of c.store_all.new.state) (state_of c.write_block_base.new.state)
    (state_of c.go_on.new.self) c.go_on.result c.block_start-first.result (listed_from b 0 16) c.store_all.ensures.state (c.write_block_base.ensures.state w x)
    c.go_on.ensures.state c.go_on.ensures.out (c.block_start-first.ensures w x) (same_list b w 16 x.list (lit≤ tt))
