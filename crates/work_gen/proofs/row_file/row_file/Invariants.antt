use Rattle.std.proofs.Common.{◌≡◌, ◌++◌, drop}
use Rattle.std.specs.List.{flat_map}
use Rattle.word_spec.specs.Memory.{Little}
use Rattle.word_spec.specs.RowFiles.{bytes_of, rv_file}
use Rattle.work_gen.proofs.row_file.row_file.Given as goal

abbrev pub invariant-loop-word : goal.invariant-loop-word
invariant-loop-word l = l.file.items ++ flat_map (bytes_of Little 4) (drop l.word-index l.words) ≡ rv_file l.words
