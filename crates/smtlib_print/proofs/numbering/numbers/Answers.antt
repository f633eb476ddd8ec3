use Rattle.smtlib_print.proofs.Plain.{program_numbers, program_once}
use Rattle.smtlib_print.proofs.numbering.numbers.Goals as goal

pub returns-clause-numbers : goal.returns-clause-numbers
returns-clause-numbers c apart =
    program_numbers c.args.unrolled.now c.in_ok-numbers.numbers.items (c.in_ok-numbers.ensures.ranks (program_once c.args.unrolled.now apart))
