use Rattle.machine_spec.specs.StateText.{ByteLine}
use Rattle.state_text.proofs.Printing.{next_line}
use Rattle.std.proofs.Common.{◌++◌, map}
use Rattle.state_text.specs.Starts.{lines_text}
use Rattle.state_text.proofs.printer.push_bytes.Goals as goal

pub loop-at-preserved : goal.loop-at-preserved
loop-at-preserved c layout =
    next_line (λ b. ByteLine b.0 b.1) layout c.args.bytes.now c.loop-at.at-index c.loop-at.out.items c.push_byte_line.new.out.items
    (c.args.out.now.items ++ lines_text layout (map (λ b. ByteLine b.0 b.1) c.args.bytes.now)) c.loop-at-test.true
    (c.in_ok-push_byte_line.ensures layout) (c.loop-at.invariant layout)
