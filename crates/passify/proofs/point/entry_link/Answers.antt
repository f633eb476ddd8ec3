use Rattle.std.proofs.Common.{length, ap, sym, ◌-◌, ◌∙◌, ◌<◌, arith}
use Rattle.std.proofs.lemmas.List.{get_or-map}
use Rattle.note_terms.proofs.Valued.{in_range}
use Rattle.passify.proofs.point.entry_link.Goals as goal

pub overflow_sub-link : goal.overflow_sub-link
overflow_sub-link c = (in_range _ _ _ c.requires).0

pub index-requires : goal.index-requires
index-requires c =
    let h = in_range c.args.link c.args.names.now.first (length c.args.names.now.registers.items) c.requires in
    omega (arith, h.0, h.1, c.args.names.now.registers.ok.0)

pub returns : goal.returns
returns c =
    let terms = c.args.names.now.registers.items in
    let h = in_range c.args.link c.args.names.now.first (length terms) c.requires in
    let within : c.args.link - c.args.names.now.first < length terms = omega (arith, h.0, h.1) in
    ap (λ t. t.0) c.index.ensures ∙ sym (get_or-map (λ t. t.0) terms (c.args.link - c.args.names.now.first) c.index.result.now 0 within)
