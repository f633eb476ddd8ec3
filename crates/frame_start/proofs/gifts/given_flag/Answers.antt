use Rattle.std.proofs.Common.{sym, ◌∙◌}
use Rattle.frame_start.specs.Changes.{changed_flags}
use Rattle.frame_start.proofs.GiftInputs.{among, not_among}
use Rattle.frame_start.proofs.gifts.given_flag.Goals as goal

pub flag_at-requires-clause-named : goal.flag_at-requires-clause-named
flag_at-requires-clause-named c = c.requires.named.flags c.args.number c.requires.flag (sym c.changes_flag.ensures ∙ c.if-changes_flag.true)

pub returns-then-changes_flag : goal.returns-then-changes_flag
returns-then-changes_flag c x at =
    c.flag_at.ensures x at
    ∙ sym (among x c.args.part (changed_flags c.args.changed) c.args.number (sym c.changes_flag.ensures ∙ c.if-changes_flag.true))

pub returns : goal.returns
returns c x at = sym (not_among x c.args.part (changed_flags c.args.changed) c.args.number (sym c.changes_flag.ensures ∙ c.if-changes_flag.false))
