use Rattle.std.proofs.Common.{ℕ, ◌≡◌, ◌≤◌, List, None, subst}
use Rattle.std.specs.Prelude.{MatchOption}
use Rattle.bilv_spec.specs.Elf.{loaded}
use Rattle.elf32_reader.specs.Portions.{IsFirstPart}
use Rattle.elf32_reader.proofs.image.Image.part_from.Goals as goal

pub returns : goal.returns
returns c =
    subst (λ (file : List ℕ). MatchOption c.first_part.result ((x : ℕ) → c.args.a ≤ x →
    loaded file x ≡ None) (IsFirstPart file c.args.a)) c.self.view_is c.first_part.ensures
