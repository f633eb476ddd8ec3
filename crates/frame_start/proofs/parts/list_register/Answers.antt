use Rattle.std.proofs.Common.{ℕ, List, ◌++◌, ◌∷◌, [], ap, sym, ◌∙◌, append-nil}
use Rattle.frame_start.specs.Changes.{changed_registers, is_given}
use Rattle.frame_start.proofs.SegmentLists.{none_kept, one_kept}
use Rattle.frame_start.proofs.parts.list_register.Goals as goal

pub register_at-requires-clause-named : goal.register_at-requires-clause-named
register_at-requires-clause-named c = c.requires.named.registers c.args.number (sym c.is_given.ensures ∙ c.if-is_given.true)

pub returns-then-is_given : goal.returns-then-is_given
returns-then-is_given c x at =
    let old = c.args.found.now in
    c.in_ok-push.ensures.items ∙ ap (λ (z : ℕ). old.items ++ z ∷ []) (c.register_at.ensures x at)
    ∙ ap (λ (z : List ℕ). old.items ++ z) (sym (one_kept (x.regs c.args.part) (is_given c.args.places.now (changed_registers c.args.changed)) c.args.number
    (sym c.is_given.ensures ∙ c.if-is_given.true)))

pub returns : goal.returns
returns c x at =
    let old = c.args.found.now in
    sym (ap (λ (z : List ℕ). old.items ++ z) (none_kept (x.regs c.args.part) (is_given c.args.places.now (changed_registers c.args.changed)) c.args.number
    (sym c.is_given.ensures ∙ c.if-is_given.false)) ∙ append-nil old.items)
