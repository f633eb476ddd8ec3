use Rattle.std.proofs.Common.{string_bytes, map}
use Rattle.question_form.specs.Views.{kept_of}
use Rattle.smtlib_print.proofs.Runs.{AreRunsWritten}
use Rattle.smtlib_print.proofs.file_bytes.push_runs.Given as goal

abbrev pub invariant-loop-i : goal.invariant-loop-i
invariant-loop-i l = AreRunsWritten l.part (map kept_of l.kept) l.runs (string_bytes l.fn.out) l.i (string_bytes l.out)
