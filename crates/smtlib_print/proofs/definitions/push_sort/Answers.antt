use Rattle.std.proofs.Common.{string_bytes, ap}
use Rattle.smtlib_print.specs.Written.{written}
use Rattle.smtlib_print.proofs.Printed.{on_text, sort_more}
use Rattle.smtlib_print.proofs.definitions.push_sort.Goals as goal

pub returns : goal.returns
returns c = on_text c.write.result (string_bytes c.write.new.self) (string_bytes c.args.out.now) _ _ (ap written (sort_more c.args.width c.if-width-eq0.false))
    c.write.ensures.bytes
