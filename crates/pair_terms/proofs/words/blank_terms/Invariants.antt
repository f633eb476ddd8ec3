use Rattle.std.proofs.Common.{true, take}
use Rattle.std.specs.List.{flat_map}
use Rattle.links_lang.specs.Views.{links_of}
use Rattle.mem_cells.specs.Words.{places_of}
use Rattle.pair_terms.specs.Words.{AreBlankTerms, link_widths}
use Rattle.pair_terms.proofs.words.blank_terms.Given as goal

abbrev pub invariant-loop-i : goal.invariant-loop-i
invariant-loop-i l = AreBlankTerms l.fn.dag l.dag (flat_map (link_widths true) (links_of (take l.i l.links))) l.i (places_of l.terms.items)
