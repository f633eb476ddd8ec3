use Rattle.std.proofs.Common.{◌≡◌, ℕ, ◌+◌, ◌-◌, List, ap, sym, subst, ◌∙◌, arith}
use Rattle.std.specs.Prelude.{map}
use Rattle.word_spec.specs.RowFiles.{from_to}
use Rattle.mem_cells.specs.Words.{places_of}
use Rattle.pair_terms.specs.declared.words.Part.{Part}
use Rattle.pair_terms.specs.Words.{AreBlankTerms, IsRange, part_widths}
use Rattle.pair_terms.proofs.Blank.{eights}
use Rattle.pair_terms.proofs.words.blank_part.Goals as goal

pub returns-in_ok-terms-in-Bytes : goal.returns-in_ok-terms-in-Bytes
returns-in_ok-terms-in-Bytes c =
    let low = c.in-Bytes.low in
    let high = c.in-Bytes.high in
    let range = subst IsRange c.in-Bytes.is c.requires.range in
    let count : high - low + 1 ≡ high + 1 - low = omega (arith, range.0) in
    let new = c.blanks-in-Bytes.new.dag in
    let terms = places_of c.in_ok-terms-in-Bytes.terms.items in
    subst (λ (z : Part). AreBlankTerms c.args.dag.now new (part_widths z) 1 terms) (sym c.in-Bytes.is)
    (subst (λ (z : List ℕ). AreBlankTerms c.args.dag.now new z 1 terms)
    (eights low (high - low + 1) ∙ ap (λ (n : ℕ). map (λ a. 8) (from_to low n)) count) c.in_ok-terms-in-Bytes.ensures)
