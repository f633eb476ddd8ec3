use Rattle.std.proofs.Common.{◌≡◌, true, false, sym, ◌∙◌}
use Rattle.frame_start.proofs.gifts.given_register.Goals as goal

pub register_at-requires-clause-named : goal.register_at-requires-clause-named
register_at-requires-clause-named c = c.requires.named.registers c.args.number (sym c.is_given.ensures ∙ c.if-is_given.true)

pub returns-then-is_given : goal.returns-then-is_given
returns-then-is_given c t x at = c.register_at.ensures x at

pub returns : goal.returns
returns c t = absurd (let e : true ≡ false = sym t ∙ sym c.is_given.ensures ∙ c.if-is_given.false in cc)
