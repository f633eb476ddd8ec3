use Rattle.std.proofs.Common.{ap, ◌∙◌}
use Rattle.word_spec.specs.Words.{add}
use Rattle.passify.proofs.GoneOn.{next_made}
use Rattle.passify.proofs.leaving.next_address.Goals as goal

pub returns : goal.returns
returns c =
    next_made c.args.dag.now c.keep.new.self c.mk.new.self c.args.jumped.0 c.args.target.0 c.args.at c.args.bytes c.from-2.result c.in_ok-behind.behind.0
    c.in_ok-next.next.0 c.requires.jumped c.requires.target (c.from-2.ensures ∙ ap (add 32 c.args.at) c.from.ensures) c.in_ok-behind.ensures
    c.in_ok-next.ensures
