use Rattle.std.proofs.Common.{refl, string_bytes, map, arith}
use Rattle.question_form.specs.Views.{kept_of}
use Rattle.smtlib_print.proofs.Runs.{run_more, runs_begin}
use Rattle.smtlib_print.proofs.file_bytes.push_runs.Goals as goal

pub loop-i-init : goal.loop-i-init
loop-i-init c = runs_begin c.args.part (map kept_of c.args.kept.now) c.args.runs.now (string_bytes c.args.out.now)

pub loop-i-preserved : goal.loop-i-preserved
loop-i-preserved c =
    run_more c.args.part (map kept_of c.args.kept.now) c.args.runs.now c.loop-i.i _ _ (string_bytes c.args.out.now) (string_bytes c.loop-i.out)
    (string_bytes c.push_run.new.out)
    (omega arith) refl c.in_ok-push_run.ensures.fits c.in_ok-push_run.ensures.text c.loop-i.invariant
