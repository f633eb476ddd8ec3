use Rattle.std.proofs.Common.{◌≡◌, take, true, not}
use Rattle.std.specs.List.{list_all}
use Rattle.word_spec.specs.Texts.{is_blank}
use Rattle.cnf_form.proofs.words.next_word.Given as goal

abbrev pub invariant-loop-i : goal.invariant-loop-i
invariant-loop-i l = list_all (λ b. not (is_blank b)) (take l.i l.rest) ≡ true
