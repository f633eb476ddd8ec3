use Rattle.std.proofs.Common.{sym, ◌∙◌}
use Rattle.passify.proofs.Prepared.{head_made}
use Rattle.passify.proofs.roots.head_names.Goals as goal

pub returns : goal.returns
returns c =
    head_made c.args.unrolled.now c.args.dag.now c.part_names.new.dag c.args.entry.now c.in_ok-names-2.names _ _ _
    (c.requires.first ∙ sym c.registers-first.ensures.first) (c.requires.registers ∙ sym c.registers-first.ensures.count)
    (c.requires.flags ∙ sym c.flag_count.ensures) c.requires.registers c.requires.flags c.in_ok-names-2.ensures c.if-not-unrolled.false
