use Rattle.term_dag.proofs.Sharing.{made_by_node, made_by_onto, made_by_unless}
use Rattle.term_dag.proofs.dag.Dag.mk.Goals as goal

pub returns-in_ok-term-in-New : goal.returns-in_ok-term-in-New
returns-in_ok-term-in-New c =
    made_by_node _ _ _ _ c.in-New.node _ c.as_nodes.ensures c.in-New.ensures c.in_ok-term-in-New.ensures

pub returns-in_ok-term-in-Onto : goal.returns-in_ok-term-in-Onto
returns-in_ok-term-in-Onto c =
    made_by_onto _ _ _ _ _ c.in-Onto.op _ _ c.in-Onto.left _ _
    c.as_nodes.ensures c.in-Onto.ensures c.in_ok-right-in-Onto.ensures c.in_ok-term-in-Onto.ensures

pub returns-in_ok-term-in-Unless : goal.returns-in_ok-term-in-Unless
returns-in_ok-term-in-Unless c =
    made_by_unless _ _ _ _ _ c.in-Unless.bit c.in-Unless.other _ _ _ _
    c.as_nodes.ensures c.in-Unless.ensures c.in_ok-negation-in-Unless.ensures c.by_place.ensures
    c.in_ok-term-in-Unless.ensures
