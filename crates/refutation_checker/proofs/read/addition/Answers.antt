use Rattle.std.proofs.Common.{sym, ◌∙◌, ap}
use Rattle.clause_spec.specs.CertificateGrammar.{is_ended}
use Rattle.refutation_checker.specs.Readings.{read_as}
use Rattle.refutation_checker.proofs.Lists.{without-zero, with-one-zero, with-more, with-unlisted}
use Rattle.refutation_checker.proofs.read.addition.Goals as goal

pub returns-in_default : goal.returns-in_default
returns-in_default c = ap read_as (without-zero c.args.id (is_ended c.args.numbers.now) c.args.numbers.now c.in_default.ensures.parts)

pub returns-in_default-split_at_zero : goal.returns-in_default-split_at_zero
returns-in_default-split_at_zero c =
    ap read_as (with-one-zero c.args.id c.args.numbers.now c.in-Some.literal_numbers.now c.in-Some.behind.now c.in-Some.ensures.parts c.in-Some.ensures.ended
    c.in_default-split_at_zero.ensures.parts)

pub returns-then-not-is_empty : goal.returns-then-not-is_empty
returns-then-not-is_empty c =
    ap read_as (with-more c.args.id (is_ended c.args.numbers.now) c.args.numbers.now c.in-Some.literal_numbers.now c.in-Some.behind.now
    c.in-Some-split_at_zero.hint_numbers.now c.in-Some-split_at_zero.rest.now
    c.in-Some.ensures.parts c.in-Some-split_at_zero.ensures.parts (sym c.is_empty.ensures ∙ c.if-not-is_empty.true))

pub returns-in_default-2 : goal.returns-in_default-2
returns-in_default-2 c =
    with-unlisted c.args.id c.args.numbers.now c.in-Some.literal_numbers.now c.in-Some.behind.now c.in-Some-split_at_zero.hint_numbers.now
    c.in-Some-split_at_zero.rest.now
    c.in-Some.ensures.parts c.in-Some.ensures.ended c.in-Some-split_at_zero.ensures.parts c.in-Some-split_at_zero.ensures.ended
    (sym c.is_empty.ensures ∙ c.if-not-is_empty.false)
    (rw c.in_default-2.is at c.in_ok-clause.ensures)
