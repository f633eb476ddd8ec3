use Rattle.std.proofs.Common.{List, length, refl, subst}
use Rattle.bilv_spec.specs.ElfFaults.{BadSymbolTable}
use Rattle.elf32_reader.specs.Images.{IsRunsTo}
use Rattle.elf32_reader.specs.declared.segments.ProgramHeader.{ProgramHeader}
use Rattle.elf32_reader.proofs.Order.{clear_more, all_clear}
use Rattle.elf32_reader.proofs.Tied.{runs_of_file}
use Rattle.elf32_reader.proofs.image.read_image.Goals as goal

pub invariant_of-result : goal.invariant_of-result
invariant_of-result c = record {
  image = all_clear c.args.bytes.now (clear_more c.args.bytes.now 11 BadSymbolTable refl c.in_ok-found.ensures.clear c.in_ok-check_symbols.ensures.clear);
  tied = c.in_ok-found.ensures.tied;
  kept = runs_of_file c.args.bytes.now c.in_ok-found.found.items c.in-Ok.runs.items c.in_ok-found.ensures.tied
      (subst (λ (found : List ProgramHeader). IsRunsTo found (length found) c.in-Ok.runs.items) c.deref.ensures.value c.in-Ok.ensures);
}
