use Rattle.std.proofs.Common.{refl, ◌∙◌, arith}
use Rattle.std.proofs.lemmas.Nat.{or_comm}
use Rattle.term_spec.specs.Terms.{term_word}
use Rattle.term_dag.specs.Lists.{terms}
use Rattle.term_dag.proofs.Cubes.{greatest, covered, rejoined}
use Rattle.term_dag.proofs.WordFolds.{same_fold}
use Rattle.term_dag.proofs.conditions.disjunction.Goals as goal

pub returns-then-implies : goal.returns-then-implies
returns-then-implies c = record {
  place = c.requires.right;
  value = λ x i. greatest _ _ _ _ _ x i c.args.nodes.now.typed c.requires.left c.requires.right c.split-a.ensures c.split-b.ensures (c.if-implies.ensures refl);
}

pub returns-then-implies-2 : goal.returns-then-implies-2
returns-then-implies-2 c = record {
  place = c.requires.left;
  value = λ x i. greatest _ _ _ _ _ x i c.args.nodes.now.typed c.requires.right c.requires.left c.split-b.ensures c.split-a.ensures
      (c.if-implies-2.ensures refl) ∙ or_comm (term_word x (terms c.args.nodes.now) c.args.right.0) (term_word x (terms c.args.nodes.now) c.args.left.0);
}

pub returns-then-covers : goal.returns-then-covers
returns-then-covers c =
    same_fold _ 1 _ _ 0 1 _ (λ x i. covered _ _ _ _ _ x i c.args.nodes.now.typed c.requires.left c.requires.right c.split-a.ensures c.split-b.ensures
    (c.if-covers.ensures refl)) (omega arith) (c.truth.ensures _)

pub returns-then-shares_first : goal.returns-then-shares_first
returns-then-shares_first c =
    let p = c.split-a.ensures.pair in
    record {
      place = p.left;
      value = λ x i.
          rejoined _ _ _ _ _ x i c.args.nodes.now.typed c.requires.left c.requires.right c.split-a.ensures c.split-b.ensures c.split-a.result.first _ p.left
          (p.first.value x i) (c.if-shares_first.ensures refl);
    }

pub returns-then-shares_second : goal.returns-then-shares_second
returns-then-shares_second c =
    let p = c.split-a.ensures.pair in
    record {
      place = p.right;
      value = λ x i.
          rejoined _ _ _ _ _ x i c.args.nodes.now.typed c.requires.left c.requires.right c.split-a.ensures c.split-b.ensures c.split-a.result.second _ p.right
          (p.second.value x i) (c.if-shares_second.ensures refl);
    }
