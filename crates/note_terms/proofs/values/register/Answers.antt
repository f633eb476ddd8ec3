use Rattle.std.proofs.Common.{length, ap, sym, ◌-◌, ◌∙◌, ◌<◌, arith}
use Rattle.std.proofs.lemmas.List.{get_or-map}
use Rattle.note_terms.proofs.Valued.{in_range}
use Rattle.note_terms.proofs.values.register.Goals as goal

pub overflow_sub-number : goal.overflow_sub-number
overflow_sub-number c = (in_range _ _ _ c.requires).0

pub index-requires : goal.index-requires
index-requires c =
    let h = in_range c.args.number c.args.names.now.first (length c.args.names.now.registers.items) c.requires in
    omega (arith, h.0, h.1, c.args.names.now.registers.ok.0)

pub returns-clause-first : goal.returns-clause-first
returns-clause-first c = (in_range _ _ _ c.requires).0

pub returns-clause-within : goal.returns-clause-within
returns-clause-within c = (in_range _ _ _ c.requires).1

pub returns-clause-term : goal.returns-clause-term
returns-clause-term c =
    let terms = c.args.names.now.registers.items in
    let h = in_range c.args.number c.args.names.now.first (length terms) c.requires in
    let within : c.args.number - c.args.names.now.first < length terms = omega (arith, h.0, h.1) in
    ap (λ t. t.0) c.index.ensures ∙ sym (get_or-map (λ t. t.0) terms (c.args.number - c.args.names.now.first) c.index.result.now 0 within)
