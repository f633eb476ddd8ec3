use Rattle.std.proofs.Common.{sym, ◌∙◌, ap, not}
use Rattle.cnf_form.proofs.Gatherings.{ended-now, one-more-now}
use Rattle.cnf_form.proofs.gather.Gathered.push.Goals as goal

pub returns-in_ok-push : goal.returns-in_ok-push
returns-in_ok-push c =
    ended-now c.self.inside.ended.items c.push.new.self.items c.self.inside.unended c.replace-clause.result c.replace-clause.new.dest c.args.self.now
    c.args.number
    c.in_ok-push.ensures.items c.replace-clause.ensures.value (c.replace-clause.ensures.after ∙ c.new.ensures) (sym c.self.view_is)
    (sym c.is_zero.ensures ∙ c.if-is_zero.true) c.requires.plain

pub returns-in_ok-push-2 : goal.returns-in_ok-push-2
returns-in_ok-push-2 c =
    one-more-now c.self.inside.ended.items c.self.inside.unended c.push-else-is_zero.new.self c.new-else-is_zero.result c.args.self.now c.args.number
    c.in_ok-push-2.ensures.ok (sym c.self.view_is) (c.new-else-is_zero.ensures.variable ∙ c.size.ensures.value)
    (c.new-else-is_zero.ensures.sign ∙ ap not c.is_negative.ensures)
