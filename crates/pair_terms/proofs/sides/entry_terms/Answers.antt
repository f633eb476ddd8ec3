use Rattle.std.proofs.Common.{length, sym, ◌∙◌}
use Rattle.std.proofs.lemmas.List.{length-map}
use Rattle.question_form.specs.Views.{unrolled_of}
use Rattle.links_lang.specs.Views.{link_of, links_of}
use Rattle.weakest_pre.proofs.Entries.{same_range}
use Rattle.mem_cells.specs.Words.{places_of}
use Rattle.pair_terms.proofs.EntryMade.{entry_terms_made}
use Rattle.pair_terms.proofs.sides.entry_terms.Goals as goal

pub link_terms-requires-clause-links : goal.link_terms-requires-clause-links
link_terms-requires-clause-links c =
    let e = c.registers-first.ensures in
    let n = c.in_ok-names.ensures in
    (c.args.unrolled.now.form, record { first = n.first ∙ e.first; registers = n.registers ∙ e.count; flags = n.flags ∙ c.flag_count.ensures }, c.requires.links)

pub returns : goal.returns
returns c =
    let e = c.registers-first.ensures in
    let links = c.args.links.now in
    entry_terms_made (unrolled_of c.args.unrolled.now) c.args.second (links_of links) (length links) _ _ _ _ _ _ c.in_ok-names.names
    (places_of c.in_ok-terms.terms.items) (same_range _ _ _ _ e.first e.count) (sym c.flag_count.ensures) (sym (length-map links link_of)) c.in_ok-names.ensures
    c.in_ok-terms.ensures
