use Rattle.arm_step.specs.States.{state_of}
use Rattle.arm_step.proofs.LoadedRows.{halfword_row}
use Rattle.arm_step.proofs.halfwords.HalfwordStep.loaded.Goals as goal

pub returns : goal.returns
returns c = λ e.
    let w = c.args.self.word in
    halfword_row e w (state_of c.args.state.now) c.loaded_bytes.result c.requires (c.loaded_bytes.ensures w c.fields.ensures)
