-- What a run reads, by computation alone.
use Rattle.std.proofs.Common.{◌≡◌, ℕ, refl, List, [], ◌∷◌, false}
use Rattle.word_spec.specs.Memory.{memory_of}
use Rattle.word_spec.specs.RowFiles.{rv_file}
use Rattle.machine_spec.specs.Rv.{table, rv_row}
use Rattle.machine_spec.specs.RvMachine.{rv32}
use Rattle.bilv_spec.specs.Elf.{loaded}
use Rattle.bilv_spec.specs.Notes.{NoteLine, At, Number, Register, Memory, Old, Binary, Equal}
use Rattle.bilv_spec.specs.Run.{Program, in_memory}
use Rattle.bilv_spec.specs.Questions.{Reading, read_run}
use Rattle.model_spec.specs.Reads.{run_reads}
use Rattle.model_spec.specs.Models.{all_reads}

abbrev program : List ℕ → (requires ensures : List NoteLine) → Program
program rows requires ensures = record {
  machine = rv32 false;
  word = in_memory (rv32 false);
  loaded = loaded (rv_file rows);
  entry = 0x10000;
  notes = record { entry = At 0x10000; requires = requires; ensures = ensures; asserts = []; targets = []; fixed = [] };
  out = λ f. false;
}

-- each byte of memory is 1
abbrev ones : List (ℕ × ℕ) → Reading
ones regs = record { state = record { pc = 0x10000; regs = memory_of regs; flags = λ f. 0; mem = λ a. 1 }; choice = λ q. 0 }

-- lw a2,0(a1); lb x0,0(a2); ret, with ensure a0 = 0: the load to x0 is read, from where the other one led
abbrev loads : List ℕ
loads = 0x0005a603 ∷ 0x00060003 ∷ 0x00008067 ∷ []

loads_read : run_reads (program loads [] (record { line = 2; says = Binary Equal (Register 10) (Number 0) } ∷ [])) 64 (ones ((11, 0x20000) ∷ (1, 0x40) ∷ [])) 3
    ≡ 0x20000 ∷ 0x20001 ∷ 0x20002 ∷ 0x20003 ∷ 0x01010101 ∷ []
unfolding run_reads read_run table rv_row
loads_read = refl

-- ret: the require line and the first ensure line, which is false; the second is not reached
lines_read : all_reads (program (0x00008067 ∷ []) (record { line = 2; says = Binary Equal (Memory 2 (Number 0xffffffff)) (Number 0x101) } ∷ [])
    (record { line = 3; says = Memory 1 (Memory 1 (Number 7)) } ∷ record { line = 4; says = Binary Equal (Old (Memory 1 (Number 9))) (Number 0) } ∷ record
    { line = 5; says = Memory 1 (Number 11) } ∷ []))
    64 (ones ((1, 0x40) ∷ [])) 1
    ≡ 0xffffffff ∷ 0 ∷ 7 ∷ 1 ∷ 9 ∷ []
unfolding run_reads read_run table rv_row
lines_read = refl

-- an entry alone has no run
none_read : run_reads (program loads [] []) 64 (ones []) 0 ≡ []
unfolding run_reads
none_read = refl
