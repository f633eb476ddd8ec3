use Rattle.std.proofs.Common.{◌≡◌, List, [], ◌∷◌, ◌++◌, ap, ◌∙◌}
use Rattle.io_edges.specs.Files.{held_by, or_empty}
use Rattle.io_edges.specs.declared.files.MemFile.{MemFile}
use Rattle.suite_top.proofs.Told.{files_told}
use Rattle.suite_top.proofs.verify.shelf_of.Goals as goal

pub returns : goal.returns
returns c = λ n.
    let a = c.in_ok-elf_file.elf_file in
    let b = c.in_ok-notes_file.notes_file in
    let first : c.push.new.self.items ≡ a ∷ [] = c.in_ok-push.ensures.items ∙ ap (λ (t : List MemFile). t ++ a ∷ []) c.new-files.ensures.items in
    let both : c.push-2.new.self.items ≡ a ∷ b ∷ [] = c.in_ok-push-2.ensures.items ∙ ap (λ (t : List MemFile). t ++ b ∷ []) first in
    c.new-shelf.ensures n ∙ ap (λ t. or_empty (held_by t n)) both
    ∙ files_told a b c.args.elf.items c.args.notes.items n c.in_ok-elf_file.ensures.named c.in_ok-notes_file.ensures.named c.in_ok-elf_file.ensures.bytes
    c.in_ok-notes_file.ensures.bytes
