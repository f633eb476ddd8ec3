use Rattle.std.proofs.Common.{◌≡◌, ◌∙◌, sym, true, rules}
use Rattle.arm_step.specs.States.{state_of}
use Rattle.arm_step.proofs.LoadedRows.{block_loaded}
use Rattle.arm_step.proofs.blocks.loaded_bytes.Goals as goal

pub returns : goal.returns
returns c = λ w x.
    let loads : c.args.fields.is_load ≡ true = search (rules, c.if-not-fields.false) in
    block_loaded w (state_of c.args.state.now) c.block_start.result c.listed.result (sym x.is_load ∙ loads) (c.block_start.ensures w x)
    (c.listed.ensures.listed w x)
