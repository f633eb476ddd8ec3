use Rattle.std.proofs.Common.{ap, sym, ◌∙◌, arith, bit_and}
use Rattle.std.specs.Int.Bits.{and_self}
use Rattle.std.proofs.lemmas.Nat.{and_comm}
use Rattle.term_spec.specs.Terms.{term_word}
use Rattle.term_dag.specs.Lists.{terms}
use Rattle.term_dag.proofs.WordFolds.{same_fold}
use Rattle.term_dag.proofs.conditions.narrowed.Goals as goal

pub returns-then-first-right : goal.returns-then-first-right
returns-then-first-right c =
    let ns = terms c.args.nodes.now in
    record {
      place = c.requires.right;
      value = λ x i.
          sym (and_self (term_word x ns c.args.right.0)) ∙ ap (λ t. bit_and (term_word x ns c.args.right.0) (term_word x ns t)) (sym c.if-first-right.true)
          ∙ c.within-first.ensures.value x i ∙ and_comm (term_word x ns c.args.right.0) (term_word x ns c.args.left.0);
    }

pub returns-then-first-left : goal.returns-then-first-left
returns-then-first-left c =
    let ns = terms c.args.nodes.now in
    same_fold ns 1 _ _ 1 1 _
    (λ x i. and_comm (term_word x ns c.within-first.result.0) (term_word x ns c.args.right.0) ∙ c.within-first.ensures.value x i ∙ and_comm
    (term_word x ns c.args.right.0) (term_word x ns c.args.left.0))
    (omega arith) c.pair-then-first-left.ensures

pub returns-in-Some-denied : goal.returns-in-Some-denied
returns-in-Some-denied c =
    let ns = terms c.args.nodes.now in
    same_fold ns 1 _ _ 1 1 _ (λ x i. c.in-Some-denied.ensures.value x i ∙ and_comm (term_word x ns c.args.right.0) (term_word x ns c.args.left.0))
    (omega arith) c.unless-in-Some-denied.ensures
