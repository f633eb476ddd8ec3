use Rattle.std.proofs.Common.{◌∙◌, sym, ap, arith, nat_eq}
use Rattle.symbol_table.proofs.NameLaws.{same_more, same_ended, same_differs, same_all}
use Rattle.symbol_table.proofs.names.is_named.Goals as goal

pub loop-i-preserved : goal.loop-i-preserved
loop-i-preserved c =
    c.loop-i.invariant ∙ same_more c.args.text.now c.args.name.now c.loop-i.i c.loop-i-test.true
    (λ e. c.if-own-eq0.false (c.byte_at-own.ensures ∙ e)) (sym c.byte_at-own.ensures ∙ c.if-own-byte.false)

pub returns-then-own-eq0 : goal.returns-then-own-eq0
returns-then-own-eq0 c =
    sym (c.loop-i.invariant ∙ same_ended c.args.text.now c.args.name.now c.loop-i.i c.loop-i-test.true (sym c.byte_at-own.ensures ∙ c.if-own-eq0.true))

pub returns-then-own-byte : goal.returns-then-own-byte
returns-then-own-byte c =
    sym (c.loop-i.invariant ∙ same_differs c.args.text.now c.args.name.now c.loop-i.i c.loop-i-test.true
    (λ e. c.if-own-eq0.false (c.byte_at-own.ensures ∙ e)) (λ e. c.if-own-byte.true (c.byte_at-own.ensures ∙ e)))

pub returns : goal.returns
returns c =
    ap (λ b. nat_eq b 0) c.byte_at.ensures
    ∙ sym (c.loop-i.invariant ∙ same_all c.args.text.now c.args.name.now c.loop-i.i c.loop-i-test.false (omega arith))
