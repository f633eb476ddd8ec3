use Rattle.std.proofs.Common.{◌∙◌, ap}
use Rattle.clap.proofs.WalkLemmas.{one_text-rows}
use Rattle.clap.specs.Words.{found_of, one_text}
use Rattle.std.specs.Str.Parse.{ParsesUnsigned, ExplainsUnsignedError, HasUnsignedDigitsIfOk}
use Rattle.command_line.specs.Lines.{◌>>=◌, whole_number}
use Rattle.command_line.proofs.Wholes.{whole_read}
use Rattle.command_line.proofs.found.whole.Goals as goal

pub returns : goal.returns
returns c = whole_read _ (λ bs r. ParsesUnsigned 64 10 bs r × ExplainsUnsignedError 10 bs r ×
    HasUnsignedDigitsIfOk bs r) (one_text (found_of c.args.matches.now) c.args.id.now) c.get_one.result c.get_one.ensures.none c.get_one.ensures.value
    (λ t x g. g.0)
    ∙ ap (λ o. o >>= whole_number) (one_text-rows (found_of c.args.matches.now) c.args.id.now)
