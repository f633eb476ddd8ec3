use Rattle.std.proofs.Common.{◌≡◌, ◌++◌, string_bytes, map}
use Rattle.known_bytes.specs.Runs.{run_of}
use Rattle.question_form.specs.Views.{kept_of}
use Rattle.smtlib_print.proofs.Appended.{unlisted}
use Rattle.smtlib_print.proofs.Runs.{AreBytesTo}
use Rattle.smtlib_print.proofs.file_bytes.push_run.Given as goal

abbrev pub invariant-loop-distance : goal.invariant-loop-distance
invariant-loop-distance l = record {
  text : string_bytes l.out ++ unlisted l.part (map kept_of l.kept) (run_of l.run) l.distance
      ≡ string_bytes l.fn.out ++ unlisted l.part (map kept_of l.kept) (run_of l.run) 0;
  bytes : AreBytesTo (run_of l.run) l.distance;
}
