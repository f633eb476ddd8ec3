use Rattle.std.proofs.Common.{refl, arith}
use Rattle.term_dag.proofs.Growth.{grew_width}
use Rattle.passify.proofs.Gifted.{gift_state, wide_bits, wide_words}
use Rattle.passify.proofs.Outside.{spans_keep}
use Rattle.passify.proofs.calls.given.Goals as goal

pub gift_names-requires-clause-flags : goal.gift_names-requires-clause-flags
gift_names-requires-clause-flags c = let l = c.requires.flags in omega (arith, l)

pub gift_names-requires-clause-words : goal.gift_names-requires-clause-words
gift_names-requires-clause-words c = wide_words c.args.dag.now c.args.names.now c.requires.names

pub gift_names-requires-clause-bits : goal.gift_names-requires-clause-bits
gift_names-requires-clause-bits c = wide_bits c.args.dag.now c.args.names.now c.requires.names

pub taken-requires-clause-spans : goal.taken-requires-clause-spans
taken-requires-clause-spans c =
    spans_keep c.args.dag.now c.gift_names.new.dag _ _ _ _ _ c.args.spans.now c.in_ok-before.ensures.grew c.requires.spans

pub taken-requires-clause-memory : goal.taken-requires-clause-memory
taken-requires-clause-memory c =
    grew_width c.args.dag.now c.gift_names.new.dag _ _ _ _ _ 0 c.args.names.now.memory.0 c.in_ok-before.ensures.grew c.requires.names.memory

pub returns : goal.returns
returns c =
    gift_state c.args.dag.now c.gift_names.new.dag c.taken.new.dag c.args.part c.args.contract.now c.args.spans.now c.args.names.now c.in_ok-before.before _
    c.in_ok-memory.memory c.requires.registers c.requires.flags c.requires.names c.requires.spans c.in_ok-before.ensures c.in_ok-memory.ensures refl refl refl
    refl
