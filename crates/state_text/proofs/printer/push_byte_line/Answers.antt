use Rattle.std.proofs.Common.{codes}
use Rattle.word_spec.specs.Texts.{word_text, byte_text}
use Rattle.state_text.proofs.Appends.{five}
use Rattle.state_text.proofs.printer.push_byte_line.Goals as goal

pub returns : goal.returns
returns c layout =
    five c.args.out.now.items c.push_text.new.out.items c.push_word.new.out.items c.push_text-2.new.out.items c.push_byte.new.out.items
    c.push_text-3.new.out.items
    (codes "byte ") (word_text c.args.at) (codes " ") (byte_text c.args.v) (codes "\n")
    c.in_ok-push_text.ensures c.in_ok-push_word.ensures c.in_ok-push_text-2.ensures c.in_ok-push_byte.ensures c.in_ok-push_text-3.ensures
