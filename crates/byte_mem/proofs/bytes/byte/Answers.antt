use Rattle.std.proofs.Common.{ℕ, sym, ap, ◌∙◌}
use Rattle.byte_mem.specs.Gaps.{entries_of}
use Rattle.byte_mem.proofs.Places.{none_at}
use Rattle.byte_mem.proofs.Spans.{byte_at, byte_none}
use Rattle.byte_mem.proofs.bytes.byte.Goals as goal

pub returns-then-not-is_at : goal.returns-then-not-is_at
returns-then-not-is_at c =
    let p = c.place-i.ensures in
    sym (byte_none (entries_of c.args.g.now) c.args.address
    (none_at (entries_of c.args.g.now) c.place-i.result c.args.address c.requires.rising p.within p.below p.from (c.is_at.ensures.away c.if-not-is_at.true)))

pub returns : goal.returns
returns c =
    let at = c.is_at.ensures.at c.if-not-is_at.false in
    sym (byte_at (entries_of c.args.g.now) c.place-i.result c.args.address (0, 0) c.place-i.ensures.below at.0 at.1 ∙ ap (λ (e : ℕ ×
    ℕ). e.1) (c.entry.ensures (0, 0)))
