use Rattle.std.proofs.Common.{string_bytes, ap}
use Rattle.smtlib_print.specs.Written.{written}
use Rattle.smtlib_print.proofs.Printed.{on_text, behind_more}
use Rattle.smtlib_print.proofs.terms.push_behind.Goals as goal

pub returns : goal.returns
returns c =
    on_text c.push_further.result (string_bytes c.push_further.new.out) (string_bytes c.args.out.now) _ _
    (ap written (behind_more c.args.address.0 c.args.distance c.if-distance-eq0.false))
    c.push_further.ensures
