use Rattle.std.proofs.Common.{◌∙◌}
use Rattle.mem_cells.proofs.PartReads.{among}
use Rattle.mem_cells.proofs.parts.has_part.Goals as goal

pub returns : goal.returns
returns c = c.contains.ensures.value ∙ among c.args.part c.args.parts.now
