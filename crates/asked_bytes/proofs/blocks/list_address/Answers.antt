use Rattle.std.proofs.Common.{◌+◌, arith}
use Rattle.asked_bytes.proofs.Beside.{beside_later, beside_more}
use Rattle.asked_bytes.proofs.blocks.list_address.Goals as goal

pub returns-then-not-is_known-clause-beside : goal.returns-then-not-is_known-clause-beside
returns-then-not-is_known-clause-beside c = beside_later c.args.known.now c.args.added.now c.args.address (c.args.address + 1) c.args.found.now.items c.requires.before
    (omega arith)

pub returns-clause-beside : goal.returns-clause-beside
returns-clause-beside c =
    beside_more c.args.known.now c.args.added.now c.args.address c.args.found.now.items c.push.new.self.items c.requires.before
    c.in_ok-push.ensures.items c.ranges.address.fits (c.is_known.ensures.known c.if-not-is_known.false) (c.is_among.ensures.absent c.if-is_among.false)
