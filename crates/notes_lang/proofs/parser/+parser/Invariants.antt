use Rattle.std.proofs.Common.{◌+◌, ◌-◌, ◌*◌, length}
use Rattle.notes_lang.proofs.Steps.{Chained}
use Rattle.notes_lang.specs.Scoping.{scope_of}
use Rattle.notes_value.specs.Views.{expr_of}
use Rattle.notes_lang.proofs.parser.+parser.Given as goal

-- Fewer tokens, or a tighter level of the same: each function calls one with a lower number.
abbrev pub decreases-read : goal.decreases-read
decreases-read l = 64 * length l.tokens.now + 4 * (15 - l.level) + 3

abbrev pub decreases-chain : goal.decreases-chain
decreases-chain l = 64 * length l.tokens.now + 4 * (15 - l.level) + 2

abbrev pub decreases-negation : goal.decreases-negation
decreases-negation l = 64 * length l.tokens.now + 50

abbrev pub decreases-atom : goal.decreases-atom
decreases-atom l = 64 * length l.tokens.now + 18

abbrev pub decreases-word_atom : goal.decreases-word_atom
decreases-word_atom l = 64 * length l.tokens.now + 62

abbrev pub decreases-all_values : goal.decreases-all_values
decreases-all_values l = 64 * length l.tokens.now + 61

abbrev pub decreases-enclosed : goal.decreases-enclosed
decreases-enclosed l = 64 * length l.tokens.now + 60

-- what is read behind the expression so far is what is read of all
abbrev pub invariant-chain-loop-op : goal.invariant-chain-loop-op
invariant-chain-loop-op l = Chained (scope_of l.scope) l.level l.tokens (expr_of l.expr) l.rest

abbrev pub decreases-chain-loop-op : goal.decreases-chain-loop-op
decreases-chain-loop-op l = length l.rest
