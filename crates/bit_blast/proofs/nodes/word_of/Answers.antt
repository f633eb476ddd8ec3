use Rattle.std.proofs.Common.{◌∙◌, ap, sym, subst}
use Rattle.term_spec.specs.Terms.{node_value, own_gates, width_of, IsTypedOver}
use Rattle.term_dag.specs.Nodes.{node_of}
use Rattle.word_gates.specs.Numbers.{IsWord}
use Rattle.bit_blast.specs.BitWords.{shapes, values_of}
use Rattle.bit_blast.proofs.NextNode.{no_gates}
use Rattle.bit_blast.proofs.nodes.word_of.Goals as goal

pub returns-in_ok-binary-in-Binary-clause-value : goal.returns-in_ok-binary-in-Binary-clause-value
returns-in_ok-binary-in-Binary-clause-value c = λ v x h r.
    c.in_ok-binary-in-Binary.ensures.value v x h ∙ sym (ap (λ n. (node_value x (values_of v c.args.words.now) (node_of n)).word) c.in-Binary.is)

pub returns-in_ok-not-in-Not-clause-made : goal.returns-in_ok-not-in-Not-clause-made
returns-in_ok-not-in-Not-clause-made c =
    let o = subst (λ n. IsTypedOver (shapes c.args.words.now) (node_of n)) c.in-Not.is c.requires.typed in
    subst (λ n. IsWord c.args.circuit.now c.args.circuit.now (own_gates (node_of n)) (width_of (node_of n)) c.in_ok-not-in-Not.field-0.items) (sym c.in-Not.is)
    (no_gates _ _ _ (c.in_ok-not-in-Not.ensures.within _ (c.operand.ensures.within _ c.requires.within))
    (c.in_ok-not-in-Not.ensures.len ∙ c.operand.ensures.len ∙ o.1.1))

pub returns-in_ok-selection-in-Select-clause-value : goal.returns-in_ok-selection-in-Select-clause-value
returns-in_ok-selection-in-Select-clause-value c = λ v x h r.
    c.in_ok-selection-in-Select.ensures.value v x h ∙ sym (ap (λ n. (node_value x (values_of v c.args.words.now) (node_of n)).word) c.in-Select.is)

pub returns-in_ok-bits_of-in-Extract-clause-made : goal.returns-in_ok-bits_of-in-Extract-clause-made
returns-in_ok-bits_of-in-Extract-clause-made c =
    subst (λ n. IsWord c.args.circuit.now c.args.circuit.now (own_gates (node_of n)) (width_of (node_of n)) c.in_ok-bits_of-in-Extract.field-0.items)
    (sym c.in-Extract.is)
    (no_gates _ _ _ (c.in_ok-bits_of-in-Extract.ensures.within _ c.requires.within) c.in_ok-bits_of-in-Extract.ensures.len)

pub returns-in_ok-bits_of-in-Extract-clause-value : goal.returns-in_ok-bits_of-in-Extract-clause-value
returns-in_ok-bits_of-in-Extract-clause-value c = λ v x h r.
    c.in_ok-bits_of-in-Extract.ensures.value v x ∙ sym (ap (λ n. (node_value x (values_of v c.args.words.now) (node_of n)).word) c.in-Extract.is)

pub returns-in_ok-joined-in-Concat-clause-made : goal.returns-in_ok-joined-in-Concat-clause-made
returns-in_ok-joined-in-Concat-clause-made c =
    subst (λ n. IsWord c.args.circuit.now c.args.circuit.now (own_gates (node_of n)) (width_of (node_of n)) c.in_ok-joined-in-Concat.field-0.items)
    (sym c.in-Concat.is)
    (no_gates _ _ _ (c.in_ok-joined-in-Concat.ensures.within _ c.requires.within) c.in_ok-joined-in-Concat.ensures.len)

pub returns-in_ok-joined-in-Concat-clause-value : goal.returns-in_ok-joined-in-Concat-clause-value
returns-in_ok-joined-in-Concat-clause-value c = λ v x h r.
    c.in_ok-joined-in-Concat.ensures.value v x ∙ sym (ap (λ n. (node_value x (values_of v c.args.words.now) (node_of n)).word) c.in-Concat.is)

pub returns-in_ok-extended-in-Extend-clause-value : goal.returns-in_ok-extended-in-Extend-clause-value
returns-in_ok-extended-in-Extend-clause-value c = λ v x h r.
    c.in_ok-extended-in-Extend.ensures.value v x h ∙ sym (ap (λ n. (node_value x (values_of v c.args.words.now) (node_of n)).word) c.in-Extend.is)
