use Rattle.std.proofs.Common.{◌≡◌, ◌-◌, ℕ}
use Rattle.std.specs.List.{list_any}
use Rattle.word_spec.specs.Memory.{span}
use Rattle.bilv_spec.specs.Elf.{loaded, is_kept}
use Rattle.table_run.proofs.words.any_kept.Given as goal

abbrev pub invariant-loop : goal.invariant-loop
invariant-loop l = list_any (λ (x : ℕ). is_kept (loaded l.image x)) (span l.first l.count)
    ≡ list_any (λ (x : ℕ). is_kept (loaded l.image x)) (span l.at (l.count - l.counter))
