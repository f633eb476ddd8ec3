use Rattle.std.proofs.Common.{string_bytes, ap, ◌∙◌, ◌+◌, ◌++◌, map, arith}
use Rattle.known_bytes.specs.Runs.{run_of}
use Rattle.question_form.specs.Views.{kept_of}
use Rattle.smtlib_print.specs.Commands.{assertion, has_byte, is_of_part}
use Rattle.smtlib_print.proofs.Appended.{byte_more, text_if}
use Rattle.smtlib_print.proofs.Runs.{byte_below}
use Rattle.smtlib_print.proofs.file_bytes.push_run.Goals as goal

pub loop-distance-preserved : goal.loop-distance-preserved
loop-distance-preserved c =
    let r = run_of c.args.run.now in
    let i = c.loop-distance.distance in
    let p = c.args.part in
    let kept = map kept_of c.args.kept.now in
    record {
      text = byte_more p kept r i (string_bytes c.loop-distance.out) (string_bytes c.push_asked.new.out) _ c.loop-distance-test.true
          (c.in_ok-push_asked.ensures
          ∙ ap (λ v. string_bytes c.loop-distance.out ++ text_if (is_of_part p kept (r.at + i)) (assertion (has_byte p (r.at + i) v))) c.listed.ensures)
          c.loop-distance.invariant.text;
      bytes = byte_below r i c.listed.result c.loop-distance.invariant.bytes (omega arith) c.listed.ensures;
    }
