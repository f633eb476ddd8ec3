use Rattle.std.proofs.Common.{arith}
use Rattle.elf32_reader.proofs.Headers.{no_size_fault}
use Rattle.elf32_reader.proofs.segments.passes_file.Goals as goal

pub returns : goal.returns
returns c = no_size_fault c.args.file.now (λ k w. c.loop-i.invariant k (omega arith))
