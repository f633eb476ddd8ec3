-- Answers, as the definitions have them, and what is met on the way to one.
use Rattle.std.specs.Prelude.{ℕ, List, [], Option, Some, None, codes, map}
use Rattle.call_spec.specs.Calls as spec
use Rattle.call_spec.specs.Framed as framed
use Rattle.clause_spec.specs.Refutation.{Proof}
use Rattle.notes_spec.specs.Verified.{elf_fault_text}
use Rattle.bilv_spec.specs.Answers.{budget_text}
use Rattle.bilv_spec.specs.ElfFaults.{ShortFile, BadMagic, BadClass, BadData, BadVersion, BadType, BadMachine, BadHeaderTable, BadSegmentRange, BadFileSize, SegmentsOverlap, BadSymbolTable}
use Rattle.cnf_form.specs.Views.{proof_of}
use Rattle.pair_form.specs.Views.{pair_question_of}
use Rattle.pair_verdict.specs.Verdicts.{holding_of}
use Rattle.question_form.specs.Views.{kind_of}
use Rattle.call_form.specs.Views.{frame_question}
use Rattle.start_value.specs.Starts.{written_of}
use Rattle.state_text.specs.Starts.{written_call_of, written_head_of}
use Rattle.frame_verdict.specs.FrameVerdicts.{passed_of}
use Rattle.verdict.specs.declared.verdicts.Exceeded.{Exceeded}
use Rattle.verdict.specs.declared.verdicts.Exceeded.TheVariants.{Points, Size}
use Rattle.elf32_reader.specs.declared.fault.ElfFault.{ElfFault}
use Rattle.elf32_reader.specs.declared.fault.ElfFault.TheVariants.{Short, Magic, Class, Data, Version, «Type», Machine, HeaderTable, SegmentRange, FileSize, Overlap, SymbolTable, Memory}
use Rattle.bilv_top.specs.declared.answer.Answer.{Answer}
use Rattle.bilv_top.specs.declared.answer.Evidence.{Evidence}
use Rattle.bilv_top.specs.declared.answer.Evidence.TheVariants.{None as Nothing, Refutations, EntryRefuted, RunOf, SpentOn, Inductive, FromHead, Frames, WithCalls, SpentOnFrame, Count, Two, Both, SpentOnPair}
use Rattle.bilv_top.specs.declared.answer.Step.{Step}
use Rattle.bilv_top.specs.declared.answer.Step.TheVariants.{Answered, Go}

-- what shows that an answer is right
abbrev pub evidence_of : Evidence → spec.Evidence
evidence_of Nothing = spec.NoEvidence
evidence_of (Refutations start fail turn) = spec.Refutations (written_of start) (proof_of fail) (proof_of turn)
evidence_of (EntryRefuted proof) = spec.EntryRefuted (proof_of proof)
evidence_of (RunOf start) = spec.RunOf (written_of start)
evidence_of (SpentOn question proof) = spec.SpentOn (kind_of question) (proof_of proof)
evidence_of (Inductive start fail step turn) = spec.Inductive (written_of start) (proof_of fail) (proof_of step) (proof_of turn)
evidence_of (FromHead start head) = spec.FromHead (written_of start) (written_head_of head)
evidence_of (Frames passed) = spec.Frames (map passed_of passed.items)
evidence_of (WithCalls rank start calls) = spec.WithCalls rank (written_of start) (map written_call_of calls.items)
evidence_of (SpentOnFrame rank question proof) = spec.SpentOnFrame rank (frame_question question) (proof_of proof)
evidence_of (Count n) = spec.Count n
evidence_of (Two first second) = spec.Two (written_of first) (written_of second)
evidence_of (Both first second first_start second_start difference) =
    spec.Both (holding_of first) (holding_of second) (written_of first_start) (written_of second_start) (proof_of difference)
evidence_of (SpentOnPair question proof) = spec.SpentOnPair (pair_question_of question) (proof_of proof)

-- an answer
abbrev pub answer_of : Answer → spec.Answer
answer_of a = record { status = a.status; text = a.text.items; evidence = evidence_of a.evidence }

-- What shows an answer about the one frame of notes without invariants and contracts, as what shows one about their program: a question of the frame that spent
-- its conflicts, if it is one of a program, is named as that.
abbrev pub spent_on : Option spec.Question → (rank : ℕ) → framed.Question → Proof → spec.Evidence
spent_on (Some kind) rank question proof = spec.SpentOn kind proof
spent_on None rank question proof = spec.SpentOnFrame rank question proof

abbrev pub program_evidence : spec.Evidence → spec.Evidence
program_evidence (spec.SpentOnFrame rank question proof) = spent_on (spec.program_question question) rank question proof
program_evidence other = other

-- such an answer as one about the program
abbrev pub program_answer : spec.Answer → spec.Answer
program_answer a = record a { evidence = program_evidence a.evidence }

-- the answer where a budget is exceeded
abbrev pub exceeded_answer : spec.Budget → Exceeded → spec.Answer
exceeded_answer b (Points count) = record { status = 3; text = budget_text (codes "points") b.points; evidence = spec.Count count }
exceeded_answer b (Size price) = record { status = 3; text = budget_text (codes "size") b.size; evidence = spec.Count price }

-- a step that answered at once, or what it goes on with
abbrev pub IfStep : {T : Type 0} → Step T → (spec.Answer → Type 0) → (T → Type 0) → Type 0
IfStep (Answered a) answered go = answered (answer_of a)
IfStep (Go t) answered go = go t

-- the text of a refused ELF file; want of memory has none
abbrev pub elf_text_of : ElfFault → List ℕ
elf_text_of Short = elf_fault_text ShortFile
elf_text_of Magic = elf_fault_text BadMagic
elf_text_of Class = elf_fault_text BadClass
elf_text_of Data = elf_fault_text BadData
elf_text_of Version = elf_fault_text BadVersion
elf_text_of «Type» = elf_fault_text BadType
elf_text_of Machine = elf_fault_text BadMachine
elf_text_of HeaderTable = elf_fault_text BadHeaderTable
elf_text_of SegmentRange = elf_fault_text BadSegmentRange
elf_text_of FileSize = elf_fault_text BadFileSize
elf_text_of Overlap = elf_fault_text SegmentsOverlap
elf_text_of SymbolTable = elf_fault_text BadSymbolTable
elf_text_of Memory = []

-- a file is refused, and memory did not run out
abbrev pub IsOfFile : ElfFault → Type 0
IsOfFile Memory = ⊥
IsOfFile other = Unit {0}
