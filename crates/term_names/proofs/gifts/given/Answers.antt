use Rattle.std.proofs.Common.{sym, ◌∙◌}
use Rattle.term_names.proofs.Given.{flag_given, register_given}
use Rattle.term_names.proofs.gifts.given.Goals as goal

pub returns-then-flag : goal.returns-then-flag
returns-then-flag c =
    flag_given c.args.dag.now c.keep.new.self c.args.flag c.args.part c.args.set c.args.number c.args.before.0 c.in_ok-term.term.0
    (sym c.is_in.ensures ∙ c.if-not-is_in.false) c.if-flag.true c.in_ok-term.ensures

pub returns : goal.returns
returns c =
    register_given c.args.dag.now c.keep-2.new.self c.args.flag c.args.part c.args.set c.args.number c.args.before.0 c.in_ok-term-2.term.0
    (sym c.is_in.ensures ∙ c.if-not-is_in.false) c.if-flag.false c.in_ok-term-2.ensures
