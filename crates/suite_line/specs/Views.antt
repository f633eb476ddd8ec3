-- What is asked for, in the code.
use Rattle.std.specs.Prelude.{ℕ, ◌≡◌}
use Rattle.suite_line.specs.Requests as spec
use Rattle.suite_line.specs.Requests.{RunSuite, PrintNotes, PrintWarnings}
use Rattle.suite_line.specs.declared.request.Files.{Files}
use Rattle.suite_line.specs.declared.request.Request.{Request}
use Rattle.suite_line.specs.declared.request.Request.TheVariants.{Run, Notes, Check}
use Rattle.suite_run.specs.Requests.{run_of}

abbrev pub files_of : Files → spec.Files
files_of f = record { elf = f.elf.now; notes = f.notes.now; arm = f.arm.now; rvc = f.rvc }

abbrev pub request_of : Request → spec.Request
request_of (Run r) = RunSuite (run_of r)
request_of (Notes f) = PrintNotes (files_of f)
request_of (Check f) = PrintWarnings (files_of f)
