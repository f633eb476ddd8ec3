use Rattle.std.proofs.Common.{◌≡◌, ◌≤◌, ◌++◌, map, length}
use Rattle.word_spec.specs.Texts.{words_in}
use Rattle.line_tokens.proofs.Splitting.{words_left, size_left}
use Rattle.line_tokens.proofs.words.first_words.Given as goal

abbrev pub invariant-loop-rest : goal.invariant-loop-rest
invariant-loop-rest l = record {
  said : map (λ word. word.now) l.out.items ++ words_left l.rest ≡ words_in l.fn.line;
  few : length l.out.items ≤ 8;
}

abbrev pub decreases-loop-rest : goal.decreases-loop-rest
decreases-loop-rest l = size_left l.rest
