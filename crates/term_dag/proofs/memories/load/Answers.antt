use Rattle.std.proofs.Common.{◌≡◌, Bool, true, false, refl, true≢false, sym}
use mathlib.Core.Bool.{beq}
use Rattle.term_dag.proofs.Joins.{just_stored}
use Rattle.term_dag.proofs.memories.load.Goals as goal

alike : (a b : Bool) → beq a b ≡ true → a ≡ b
alike true true h = refl
alike true false h = absurd (true≢false (sym h))
alike false true h = absurd (true≢false (sym h))
alike false false h = refl

pub returns-then-at-address : goal.returns-then-at-address
returns-then-at-address c =
    just_stored _ c.args.bytes c.args.big _ _ _ c.in-Store.order _ _ _ c.args.nodes.now.typed c.requires.memory c.requires.address c.in-Store.ensures
    c.if-stored-bytes.true
    (alike _ _ c.if-order-big.true) c.if-at-address.true
