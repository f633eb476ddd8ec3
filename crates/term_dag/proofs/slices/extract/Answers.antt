use Rattle.std.proofs.Common.{ℕ, ◌+◌, ◌-◌, sym, subst, arith}
use Rattle.word_spec.specs.Words as words
use Rattle.term_spec.specs.Terms.{term_word}
use Rattle.term_dag.specs.Lists.{terms}
use Rattle.term_dag.specs.Folds.{IsWordFold}
use Rattle.term_dag.proofs.WordFolds.{same_fold}
use Rattle.term_dag.proofs.slices.extract.Goals as goal

pub returns : goal.returns
returns c =
    let v = c.innermost-slice.ensures in
    let ns = terms c.args.nodes.now in
    let s = c.innermost-slice.result in
    same_fold ns (c.args.hi + 1 - c.args.lo) (λ x. words.bits s.hi s.lo (term_word x ns s.term.0)) _ 0 0 _ (λ x i. sym (v.value x i)) (omega arith)
    (subst (λ (w : ℕ). IsWordFold ns w (λ x. words.bits s.hi s.lo (term_word x ns s.term.0)) 0 c.outer.result) v.width c.outer.ensures)
