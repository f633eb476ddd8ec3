use Rattle.std.proofs.Common.{◌≡◌, ℕ, drop}
use Rattle.std.specs.List.{list_any}
use Rattle.bilv_spec.specs.Elf.{loaded, is_kept}
use Rattle.table_run.specs.Spans.{bytes_of}
use Rattle.table_run.proofs.spans.any_kept_of.Given as goal

abbrev pub invariant-loop-span : goal.invariant-loop-span
invariant-loop-span l =
    list_any (λ (a : ℕ). is_kept (loaded l.image a)) (bytes_of (drop l.span-index l.spans)) ≡ list_any (λ (a : ℕ). is_kept (loaded l.image a))
    (bytes_of l.spans)
