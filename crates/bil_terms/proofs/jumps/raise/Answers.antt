use Rattle.bil_terms.proofs.Flags.{led_raise}
use Rattle.bil_terms.proofs.jumps.raise.Goals as goal

pub returns : goal.returns
returns c number = led_raise _ _ _ _ _ number c.requires.run c.requires.bits
