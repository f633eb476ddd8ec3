use Rattle.std.proofs.Common.{sym, subst, ◌≤◌, length}
use Rattle.call_spec.specs.Outside.{Agrees}
use Rattle.links_lang.specs.Telling.{fault_of}
use Rattle.pair_spec.specs.Equals.{links_limit}
use Rattle.bilv_top.specs.Pairs.{IsLinksAnswer}
use Rattle.bilv_top.proofs.pair.read_links.Goals as goal

pub returns-in-Err-Refused-clause-read : goal.returns-in-Err-Refused-clause-read
returns-in-Err-Refused-clause-read g c =
    let read = rw c.in-Go.is at c.in_ok-text.ensures.read in
    let text = c.deref.result.now in
    let held = g.H.Shelf.holds c.args.shelf.now c.args.name.now in
    IsLinksAnswer.refused text c.in-Err-Refused.line (fault_of c.in-Err-Refused.fault) (subst (Agrees held) (sym c.deref.ensures.value) read.0)
    (subst (λ t. length t ≤ links_limit) (sym c.deref.ensures.value) read.1) (rw c.in-Err-Refused.field-0-is at c.in-Err-Refused.ensures.refused)
    c.in_ok-refuse_links-in-Err-Refused.ensures
