-- Files that are refused.
use Rattle.std.proofs.Common.{◌≡◌, ◌∙◌, ℕ, List, [], ap}
use Rattle.bilv_spec.specs.ElfFaults.{ShortFile, BadMagic, BadClass, BadData, BadVersion, BadType, BadMachine, BadHeaderTable, BadSegmentRange, BadFileSize, SegmentsOverlap, BadSymbolTable}
use Rattle.call_spec.specs.Calls as calls
use Rattle.call_spec.specs.Calls.{plain_answer}
use Rattle.elf32_reader.specs.Refusals.{IsRefused}
use Rattle.elf32_reader.specs.declared.fault.ElfFault.{ElfFault}
use Rattle.elf32_reader.specs.declared.fault.ElfFault.TheVariants.{Short, Magic, Class, Data, Version, «Type», Machine, HeaderTable, SegmentRange, FileSize, Overlap, SymbolTable, Memory}
use Rattle.note_check.specs.declared.warning.Warning.{Warning}
use Rattle.bilv_top.specs.Answers.{IsOfFile, elf_text_of}
use Rattle.suite_top.specs.Singles.{IsExpandedAnswer, no_image}

-- what is answered to a template over a file that is refused
pub refused_file : (file template : List ℕ) (e : ElfFault) (status : ℕ) (report : List ℕ) (warnings : List Warning) → IsOfFile e → status ≡ 4 →
    report ≡ elf_text_of e → warnings ≡ [] → IsRefused file e → IsExpandedAnswer file template status report warnings
refused_file file template Short status report warnings of st re none is = no_image ShortFile is re st none
refused_file file template Magic status report warnings of st re none is = no_image BadMagic is re st none
refused_file file template Class status report warnings of st re none is = no_image BadClass is re st none
refused_file file template Data status report warnings of st re none is = no_image BadData is re st none
refused_file file template Version status report warnings of st re none is = no_image BadVersion is re st none
refused_file file template «Type» status report warnings of st re none is = no_image BadType is re st none
refused_file file template Machine status report warnings of st re none is = no_image BadMachine is re st none
refused_file file template HeaderTable status report warnings of st re none is = no_image BadHeaderTable is re st none
refused_file file template SegmentRange status report warnings of st re none is = no_image BadSegmentRange is re st none
refused_file file template FileSize status report warnings of st re none is = no_image BadFileSize is re st none
refused_file file template Overlap status report warnings of st re none is = no_image SegmentsOverlap is re st none
refused_file file template SymbolTable status report warnings of st re none is = no_image BadSymbolTable is re st none
refused_file file template Memory status report warnings of st re none is = absurd of
