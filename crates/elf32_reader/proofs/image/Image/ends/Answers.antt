use Rattle.std.proofs.Common.{◌≡◌, List, ℕ, None, subst, sym}
use Rattle.bilv_spec.specs.Elf.{loaded}
use Rattle.elf32_reader.proofs.image.Image.ends.Goals as goal

pub returns : goal.returns
returns c x high = subst (λ (file : List ℕ). loaded file x ≡ None) c.self.view_is (c.ends_of.ensures x high)
