use Rattle.std.proofs.Common.{◌≡◌, ◌==◌, ◌∙◌, ap, length}
use Rattle.bit_blast.proofs.Allowed.{one_to}
use Rattle.pair_blast.proofs.Parts.{one_within, over_up, root_said}
use Rattle.pair_blast.proofs.sides.side_words.Goals as goal

pub returns-clause-value : goal.returns-clause-value
returns-clause-value c = λ v h.
    let m = c.in_ok-words.ensures.words in
    let k = rw c.deref-2.ensures.value at c.operand-root.ensures in
    let one : length c.operand-root.result.now ≡ 1 = k.len ∙ m.widths c.args.c.now.root.0 c.requires.formed.root.0 ∙ c.requires.formed.root.1 in
    root_said _ _ _ _ _ (c.in_ok-push_tie.ensures.value v)
    (one_to v c.operand-root.result.now _ one (k.value v) ∙ ap (λ z. z == 1) (m.values v h c.args.c.now.root.0 c.requires.formed.root.0))
    (c.in_ok-tie_reads.ensures.value v h)

pub returns-clause-over : goal.returns-clause-over
returns-clause-over c = λ o.
    let m = c.in_ok-words.ensures.words in
    let k = rw c.deref-2.ensures.value at c.operand-root.ensures in
    let one : length c.operand-root.result.now ≡ 1 = k.len ∙ m.widths c.args.c.now.root.0 c.requires.formed.root.0 ∙ c.requires.formed.root.1 in
    c.in_ok-push_tie.ensures.over _ (one_within _ c.operand-root.result.now one (k.within _ m.within))
    (c.in_ok-tie_reads.ensures.over (over_up _ _ c.args.ties.now.items o c.in_ok-words.ensures.grows.more))
