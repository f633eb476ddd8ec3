use Rattle.std.proofs.Common.{◌≡◌, [], length, replicate, ap, ◌∙◌, arith}
use Rattle.mem_cells.specs.Parts.{lists_of}
use Rattle.mem_cells.proofs.PartReads.{noted_none, noted_next, noted_all}
use Rattle.mem_cells.proofs.parts.parts_read.Goals as goal

pub loop-place-init : goal.loop-place-init
loop-place-init c = noted_none c.args.build.now.dag (length c.args.build.now.addresses.items) (lists_of c.in_ok-parts.parts.items)
    (c.in_ok-parts.ensures ∙ ap (λ z. replicate z [])
    (let e : c.len.result ≡ length c.args.build.now.addresses.items = omega
    (arith, c.len.ensures) in e))

pub loop-place-preserved : goal.loop-place-preserved
loop-place-preserved c =
    noted_next c.args.build.now.dag c.loop-place.place (length c.args.build.now.addresses.items) (lists_of c.loop-place.parts.items)
    (lists_of c.note.new.parts.items) _
    (omega (arith, c.nodes-count.ensures.count)) c.node.ensures c.in_ok-note.ensures c.loop-place.invariant

pub returns-clause-parts : goal.returns-clause-parts
returns-clause-parts c =
    noted_all c.args.build.now (lists_of c.loop-place.parts.items) c.loop-place.place c.requires.built (omega (arith, c.nodes-count.ensures.count))
    c.loop-place.invariant
