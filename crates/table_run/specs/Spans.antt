-- Bytes that a contract may write, as the code has them.
use Rattle.std.specs.Prelude.{ℕ, Bool, List, not, nat_eq}
use Rattle.std.specs.List.{list_any, flat_map}
use Rattle.word_spec.specs.Memory.{span}
use Rattle.table_run.specs.declared.spans.Span.{Span}

-- the addresses of the bytes of a span, and of several
abbrev pub bytes_at : Span → List ℕ
bytes_at s = span s.first s.count

abbrev pub bytes_of : List Span → List ℕ
bytes_of spans = flat_map bytes_at spans

-- one of these places is none of the bytes
abbrev pub has_other : List Span → (places : List ℕ) → Bool
has_other own places = list_any (λ a. not (list_any (nat_eq a) (bytes_of own))) places
