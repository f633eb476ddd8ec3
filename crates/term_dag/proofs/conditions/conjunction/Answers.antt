use Rattle.std.proofs.Common.{refl, ◌∙◌, arith}
use Rattle.std.proofs.lemmas.Nat.{and_comm}
use Rattle.term_dag.proofs.Cubes.{excluded, least}
use Rattle.term_dag.proofs.WordFolds.{same_fold}
use Rattle.term_dag.proofs.conditions.conjunction.Goals as goal

pub returns-then-excludes : goal.returns-then-excludes
returns-then-excludes c =
    same_fold _ 1 _ _ 0 1 _ (λ x i. excluded _ _ _ _ _ x i c.args.nodes.now.typed c.requires.left c.requires.right c.split-a.ensures c.split-b.ensures
    (c.if-excludes.ensures refl)) (omega arith) (c.truth.ensures _)

pub returns-then-implies : goal.returns-then-implies
returns-then-implies c = record {
  place = c.requires.left;
  value = λ x i. least _ _ _ _ _ x i c.args.nodes.now.typed c.requires.left c.requires.right c.split-a.ensures c.split-b.ensures (c.if-implies.ensures refl);
}

pub returns-then-implies-2 : goal.returns-then-implies-2
returns-then-implies-2 c = record {
  place = c.requires.right;
  value = λ x i. least _ _ _ _ _ x i c.args.nodes.now.typed c.requires.right c.requires.left c.split-b.ensures c.split-a.ensures
      (c.if-implies-2.ensures refl) ∙ and_comm _ _;
}
