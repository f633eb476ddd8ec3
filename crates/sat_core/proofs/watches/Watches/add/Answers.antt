use Rattle.std.proofs.Common.{◌≡◌, ◌+◌, ◌≤◌, ◌∙◌, arith, length}
use Rattle.sat_core.specs.Links.{no_watch}
use Rattle.sat_core.proofs.Chains.{two-more}
use Rattle.sat_core.proofs.watches.Watches.add.Goals as goal

pub returns-clause-linked : goal.returns-clause-linked
returns-clause-linked c =
    let w = c.args.self.now in
    let n : c.len-watch.result ≡ length w.links.items = c.len-watch.ensures ∙ w.links.ok.0 in
    let few : length w.links.items + 2 ≤ no_watch =
    (let a = c.in_ok-extend_from_slice.ensures.len in
    let b = c.extend_from_slice.new.self.ok in
    let s = c.extend_from_slice.new.self.small in
    let d = w.links.ok.0 in
    omega arith) in
    let first = c.link.ensures in
    let second = c.link-2.ensures in
    rw (
      second.heads,
      second.links,
      second.watched,
      first.heads,
      first.links,
      first.watched,
      c.in_ok-extend_from_slice.ensures.items,
      c.in_ok-extend_from_slice-2.ensures.items,
    )
    (two-more w.heads.items w.links.items w.watched.items c.requires.linked c.args.first c.args.second c.len-watch.result n few c.requires.first
    c.requires.second)
