use Rattle.std.proofs.Common.{ℕ, ◌<◌, List, subst}
use Rattle.std.specs.Prelude.{slice_index}
use Rattle.elf32_reader.proofs.image.Image.bytes.Goals as goal

pub returns : goal.returns
returns c i = subst (λ (file : List ℕ). slice_index file i < 256) c.self.view_is (c.bytes_of.ensures i)
