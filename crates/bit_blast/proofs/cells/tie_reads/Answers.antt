use Rattle.std.proofs.Common.{refl}
use Rattle.mem_cells.specs.FrameViews.{frame_cells_of}
use Rattle.mem_cells.specs.Views.{cells_of, program_of_cells}
use Rattle.bit_blast.proofs.Allowed.{can_agree, can_be_asked}
use Rattle.bit_blast.proofs.Told.{flat_reads, program_said}
use Rattle.bit_blast.proofs.cells.tie_reads.Goals as goal

pub tie_said-requires-clause-order : goal.tie_said-requires-clause-order
tie_said-requires-clause-order c = c.requires.placed.order

pub tie_said-requires-clause-agrees : goal.tie_said-requires-clause-agrees
tie_said-requires-clause-agrees c =
    let m = c.requires.words in
    let k = c.args.c.now in
    can_agree (frame_cells_of k) c.args.places.now c.args.words.now m.count m.widths k.agrees.items
    (flat_reads (program_of_cells k) (cells_of k) c.args.places.now c.requires.placed c.requires.formed (frame_cells_of k) c.requires.flat).agrees

pub tie_said-requires-clause-asked : goal.tie_said-requires-clause-asked
tie_said-requires-clause-asked c =
    let m = c.requires.words in
    let k = c.args.c.now in
    can_be_asked (frame_cells_of k) c.args.places.now c.args.words.now m.count m.widths k.asked.items
    (flat_reads (program_of_cells k) (cells_of k) c.args.places.now c.requires.placed c.requires.formed (frame_cells_of k) c.requires.flat).asked

pub returns-clause-value : goal.returns-clause-value
returns-clause-value c = λ v h.
    let k = c.args.c.now in
    program_said (program_of_cells k) (cells_of k) c.requires.formed c.args.places.now c.requires.placed c.args.inputs.now c.args.circuit.now
    c.args.words.now c.requires.words (frame_cells_of k) c.requires.flat k.agrees.items k.asked.items refl refl v h _ _ (c.in_ok-tie_said.ensures.value v)

pub returns-clause-over : goal.returns-clause-over
returns-clause-over c = c.in_ok-tie_said.ensures.over _ c.requires.within c.requires.words.within
