use Rattle.std.proofs.Common.{◌≡◌, ◌++◌, map, length}
use Rattle.word_spec.specs.Tokens.{tokens_of}
use Rattle.line_tokens.specs.Tokens.{token_of, capped}
use Rattle.line_tokens.proofs.lexer.tokens.Given as goal

abbrev pub invariant-loop-token : goal.invariant-loop-token
invariant-loop-token l = map capped (tokens_of l.fn.line) ≡ map token_of l.out.items ++ map capped (tokens_of l.rest)

abbrev pub decreases-loop-token : goal.decreases-loop-token
decreases-loop-token l = length l.rest
