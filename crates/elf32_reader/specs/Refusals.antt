-- What the reader's answers say of a file.
use Rattle.std.specs.Prelude.{ℕ, ◌≤◌, List}
use Rattle.bilv_spec.specs.ElfFaults.{FileFault, ShortFile, BadMagic, BadClass, BadData, BadVersion, BadType, BadMachine, BadHeaderTable, BadSegmentRange, BadFileSize, SegmentsOverlap, BadSymbolTable, FileFaultApplies, file_fault_rank, IsFirstFileFault}
use Rattle.elf32_reader.specs.declared.fault.ElfFault.{ElfFault}
use Rattle.elf32_reader.specs.declared.fault.ElfFault.TheVariants.{Short, Magic, Class, Data, Version, «Type», Machine, HeaderTable, SegmentRange, FileSize, Overlap, SymbolTable, Memory}

-- the file is refused for the fault that is answered; want of memory says nothing of the file
abbrev pub IsRefused : List ℕ → ElfFault → Type 0
IsRefused file Short = IsFirstFileFault file ShortFile
IsRefused file Magic = IsFirstFileFault file BadMagic
IsRefused file Class = IsFirstFileFault file BadClass
IsRefused file Data = IsFirstFileFault file BadData
IsRefused file Version = IsFirstFileFault file BadVersion
IsRefused file «Type» = IsFirstFileFault file BadType
IsRefused file Machine = IsFirstFileFault file BadMachine
IsRefused file HeaderTable = IsFirstFileFault file BadHeaderTable
IsRefused file SegmentRange = IsFirstFileFault file BadSegmentRange
IsRefused file FileSize = IsFirstFileFault file BadFileSize
IsRefused file Overlap = IsFirstFileFault file SegmentsOverlap
IsRefused file SymbolTable = IsFirstFileFault file BadSymbolTable
IsRefused file Memory = Unit {0}

-- none of the first n faults applies
abbrev pub IsClear : List ℕ → ℕ → Type 0
IsClear file n = (f : FileFault) → file_fault_rank f ≤ n → ¬ FileFaultApplies file f
