use Rattle.std.proofs.Common.{◌+◌, ◌∙◌, sym, ap, arith}
use Rattle.symbol_table.proofs.NameLaws.{shared_more, shared_ended, shared_differs, shared_all}
use Rattle.symbol_table.proofs.names.shared.Goals as goal

pub loop-i-preserved : goal.loop-i-preserved
loop-i-preserved c =
    c.loop-i.invariant ∙ ap (λ n. c.loop-i.i + n) (shared_more c.args.text.now c.args.name.now c.loop-i.i c.loop-i-test.true
    (λ e. c.if-own-eq0.false (c.byte_at-own.ensures ∙ e)) (sym c.byte_at-own.ensures ∙ c.if-own-byte.false)) ∙ omega arith

pub returns-then-own-eq0 : goal.returns-then-own-eq0
returns-then-own-eq0 c =
    sym (c.loop-i.invariant ∙ ap (λ n. c.loop-i.i + n) (shared_ended c.args.text.now c.args.name.now c.loop-i.i c.loop-i-test.true (sym c.byte_at-own.ensures ∙ c.if-own-eq0.true)) ∙ omega arith)

pub returns-then-own-byte : goal.returns-then-own-byte
returns-then-own-byte c =
    sym (c.loop-i.invariant ∙ ap (λ n. c.loop-i.i + n) (shared_differs c.args.text.now c.args.name.now c.loop-i.i c.loop-i-test.true
    (λ e. c.if-own-eq0.false (c.byte_at-own.ensures ∙ e)) (λ e. c.if-own-byte.true (c.byte_at-own.ensures ∙ e))) ∙ omega arith)

pub returns : goal.returns
returns c = sym (c.loop-i.invariant ∙ shared_all c.args.text.now c.args.name.now c.loop-i.i c.loop-i-test.false (omega arith))
