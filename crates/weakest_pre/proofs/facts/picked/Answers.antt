use Rattle.std.proofs.Common.{ap}
use Rattle.notes_value.specs.Views.{expr_of}
use Rattle.weakest_pre.proofs.Said.{picked_turned}
use Rattle.weakest_pre.proofs.facts.picked.Goals as goal

pub returns-in-Number-Register : goal.returns-in-Number-Register
returns-in-Number-Register c =
    let f = c.masked-in-Number-Register.ensures in
    picked_turned _ _ c.in-Number-Register.mask c.in-Number-Register.register c.args.bits _ (ap expr_of c.in-Number-Register.is-0)
    (ap expr_of c.in-Number-Register.is-1) f.register f.known
