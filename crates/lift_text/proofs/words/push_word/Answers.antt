use Rattle.std.proofs.Common.{◌∙◌}
use Rattle.word_spec.specs.Memory.{endian}
use Rattle.lift_text.proofs.Written.{appended}
use Rattle.lift_text.proofs.words.push_word.Goals as goal

pub returns : goal.returns
returns g c =
    appended g.M.Machine.machine g.met.M.Machine.lawful g.M.Machine.bank c.args.image.now c.args.at c.args.row (endian c.is_big_machine.result)
    c.number-word.result c.in_ok-lifted.lifted _ _ _ c.bytes.result.now c.requires.found (c.is_big_machine.ensures ∙ c.requires.order)
    c.number-word.ensures c.in_ok-lifted.ensures c.bytes.ensures c.in_ok-push_word_line.ensures c.in_ok-push_rest.ensures
