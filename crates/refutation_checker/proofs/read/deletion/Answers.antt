use Rattle.std.proofs.Common.{sym, ◌∙◌, not, ◌&&◌}
use Rattle.clause_spec.specs.CertificateGrammar.{is_ended, some_below}
use Rattle.refutation_checker.proofs.Lists.{deleted-without-zero, deleted-with-more}
use Rattle.refutation_checker.proofs.read.deletion.Goals as goal

pub returns-in_default : goal.returns-in_default
returns-in_default c = deleted-without-zero c.args.id (not (some_below c.args.numbers.now)) c.args.numbers.now c.in_default.ensures.parts

pub returns-then-not-is_empty : goal.returns-then-not-is_empty
returns-then-not-is_empty c =
    deleted-with-more c.args.id (is_ended c.args.numbers.now &&
    not (some_below c.args.numbers.now)) c.args.numbers.now c.in-Some.id_numbers.now c.in-Some.rest.now c.in-Some.ensures.parts
    (sym c.is_empty.ensures ∙ c.if-not-is_empty.true)
