-- Parts of texts.
use Rattle.std.proofs.Common.{◌≡◌, ℕ, ◌+◌, ◌<◌, List, false, drop, length, nat_eq, refl, ◌∙◌}
use Rattle.std.proofs.lemmas.List.{at_drop_more, drop_more}
use Rattle.std.specs.List.{starts_with}
use Rattle.suite_report.specs.Reports.{has_part}

-- a place where the part does not stand is passed over
pub part_more : (part text : List ℕ) (i : ℕ) → i < length text → starts_with nat_eq (drop i text) part ≡ false →
    has_part part (drop i text) ≡ has_part part (drop (i + 1) text)
part_more part text i h absent =
    let here = rw (drop_more text i 0 h) at absent in
    at_drop_more (has_part part) text i 0 h ∙ rw here refl
