-- Files that are refused, and what was found of others.
use Rattle.std.proofs.Common.{◌≡◌, ℕ, List, [], ap, refl, sym, subst}
use Rattle.bilv_spec.specs.ElfFaults.{ShortFile, BadMagic, BadClass, BadData, BadVersion, BadType, BadMachine, BadHeaderTable, BadSegmentRange, BadFileSize, SegmentsOverlap, BadSymbolTable}
use Rattle.call_spec.specs.Calls as calls
use Rattle.call_spec.specs.Calls.{Options, plain_answer}
use Rattle.elf32_reader.specs.Refusals.{IsRefused}
use Rattle.elf32_reader.specs.declared.fault.ElfFault.{ElfFault}
use Rattle.elf32_reader.specs.declared.fault.ElfFault.TheVariants.{Short, Magic, Class, Data, Version, «Type», Machine, HeaderTable, SegmentRange, FileSize, Overlap, SymbolTable, Memory}
use Rattle.bilv_top.specs.Answers.{IsOfFile, elf_text_of}
use Rattle.suite_check.specs.Warned.{IsChecked, no_image}

-- what is told of a file that is refused
pub none_of : (o : Options) (file text : List ℕ) (e : ElfFault) (status : ℕ) (refusal : List ℕ) → IsOfFile e → status ≡ 4 → refusal ≡ elf_text_of e →
    IsRefused file e → IsChecked o file text status refusal []
none_of o file text Short status refusal of st re is = no_image ShortFile is st re refl
none_of o file text Magic status refusal of st re is = no_image BadMagic is st re refl
none_of o file text Class status refusal of st re is = no_image BadClass is st re refl
none_of o file text Data status refusal of st re is = no_image BadData is st re refl
none_of o file text Version status refusal of st re is = no_image BadVersion is st re refl
none_of o file text «Type» status refusal of st re is = no_image BadType is st re refl
none_of o file text Machine status refusal of st re is = no_image BadMachine is st re refl
none_of o file text HeaderTable status refusal of st re is = no_image BadHeaderTable is st re refl
none_of o file text SegmentRange status refusal of st re is = no_image BadSegmentRange is st re refl
none_of o file text FileSize status refusal of st re is = no_image BadFileSize is st re refl
none_of o file text Overlap status refusal of st re is = no_image SegmentsOverlap is st re refl
none_of o file text SymbolTable status refusal of st re is = no_image BadSymbolTable is st re refl
none_of o file text Memory status refusal of st re is = absurd of
