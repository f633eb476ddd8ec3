use Rattle.std.proofs.Common.{ℕ, List, ◌∙◌, refl, sym, ap, subst, replicate, None}
use Rattle.term_spec.specs.Terms.{TermNode, ConstantNode}
use Rattle.term_dag.specs.Made.{IsInterned}
use Rattle.term_names.specs.Chosen.{AreEntryNames}
use Rattle.term_dag.proofs.Growth.{grew_width, interned_grew, interned_width}
use Rattle.passify.proofs.Kept.{names_keep}
use Rattle.passify.proofs.Prepared.{entry_form, prepared, same_range}
use Rattle.passify.proofs.roots.prepare.Goals as goal

pub returns : goal.returns
returns c =
    let u = c.args.unrolled.now in
    let e = c.registers-first.ensures in
    prepared u c.entry_names.new.dag c.head_names.new.dag c.keep.new.self c.constant.new.dag c.constant-2.new.dag c.own_spans.new.dag c.registers-first.result.0
    c.registers-first.result.1 c.flag_count.result c.in_ok-entry.entry c.in_ok-head.head c.in_ok-pc.pc c.in_ok-yes.yes c.in_ok-never.never c.in_ok-met.met
    c.in_ok-states.states c.in_ok-own.own (same_range _ _ _ _ e.first e.count) (sym c.flag_count.ensures)
    (subst (λ (z : List TermNode). AreEntryNames z c.entry_names.new.dag c.registers-first.result.0 c.registers-first.result.1 c.flag_count.result
    c.in_ok-entry.entry)
    c.requires.empty c.in_ok-entry.ensures) c.in_ok-head.ensures
    (subst (λ (z : ℕ). IsInterned c.head_names.new.dag c.keep.new.self
    (ConstantNode 32 z) c.in_ok-pc.pc.0) c.from.ensures c.in_ok-pc.ensures) c.in_ok-yes.ensures
    c.in_ok-never.ensures
    (c.in_ok-met.ensures ∙ ap (λ (n : ℕ). replicate n c.in_ok-never.never) (c.len-places.ensures ∙ u.points.ok.0))
    (c.in_ok-states.ensures ∙ ap (λ (n : ℕ). replicate n None) (c.len-places.ensures ∙ u.points.ok.0)) c.in_ok-own.ensures

pub own_spans-requires-clause-form : goal.own_spans-requires-clause-form
own_spans-requires-clause-form c =
    let e = c.registers-first.ensures in
    entry_form c.args.unrolled.now c.entry_names.new.dag c.registers-first.result.0 c.registers-first.result.1 c.flag_count.result c.in_ok-entry.entry
    (same_range _ _ _ _ e.first e.count) (sym c.flag_count.ensures)
    (subst (λ (z : List TermNode). AreEntryNames z c.entry_names.new.dag c.registers-first.result.0 c.registers-first.result.1 c.flag_count.result
    c.in_ok-entry.entry) c.requires.empty c.in_ok-entry.ensures)

pub own_spans-requires-clause-names : goal.own_spans-requires-clause-names
own_spans-requires-clause-names c =
    let n = c.in_ok-entry.entry in
    names_keep c.in_ok-never.ensures.grew n (names_keep c.in_ok-yes.ensures.grew n
    (names_keep (interned_grew c.head_names.new.dag c.keep.new.self (ConstantNode 32 c.from.result) c.in_ok-pc.pc.0 c.in_ok-pc.ensures) n
    (names_keep c.in_ok-head.ensures.grew n c.in_ok-entry.ensures.names)))

pub own_spans-requires-clause-pc : goal.own_spans-requires-clause-pc
own_spans-requires-clause-pc c =
    grew_width c.constant.new.dag c.constant-2.new.dag _ _ _ _ _ 32 c.in_ok-pc.pc.0 c.in_ok-never.ensures.grew
    (grew_width c.keep.new.self c.constant.new.dag _ _ _ _ _ 32 c.in_ok-pc.pc.0 c.in_ok-yes.ensures.grew
    (interned_width c.head_names.new.dag c.keep.new.self (ConstantNode 32 c.from.result) c.in_ok-pc.pc.0 32 c.in_ok-pc.ensures refl))

pub own_spans-requires-clause-yes : goal.own_spans-requires-clause-yes
own_spans-requires-clause-yes c =
    grew_width c.constant.new.dag c.constant-2.new.dag _ _ _ _ _ 1 c.in_ok-yes.yes.0 c.in_ok-never.ensures.grew c.in_ok-yes.ensures.width
