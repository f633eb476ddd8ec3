use Rattle.std.proofs.Common.{sym, ◌∙◌, map, false, option_map}
use Rattle.cnf_form.specs.Views.{hint_of}
use Rattle.refutation_checker.specs.Answers.{cause_of}
use Rattle.refutation_checker.specs.Slots.{true_in}
use Rattle.refutation_checker.specs.Entries.{look_up}
use Rattle.refutation_checker.proofs.Hints.{judged}
use Rattle.refutation_checker.proofs.judge.judge_clause.Goals as goal

pub deny-requires-clause-within : goal.deny-requires-clause-within
deny-requires-clause-within c =
    c.requires.ready (sym c.has_above.ensures ∙ c.if-has_above.false)

pub returns-clause-judged : goal.returns-clause-judged
returns-clause-judged c =
    judged c.args.variables (record { last = c.args.last; present = look_up c.args.entries.now; ended = false }) c.args.id c.args.clause.now
    (map hint_of c.args.hints.now)
    (true_in c.args.line c.args.names.now c.deny.new.slots) (option_map cause_of c.follow.result) c.if-id-last.false
    (sym c.has_above.ensures ∙ c.if-has_above.false)
    (sym c.deny.ensures.tautology ∙ c.if-deny.false) (sym c.has_negative.ensures ∙ c.if-has_negative.false)
    (c.deny.ensures.values c.if-deny.false) c.follow.ensures.judged
