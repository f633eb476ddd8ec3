use Rattle.std.proofs.Common.{List, subst}
use Rattle.term_spec.specs.Terms.{TermNode}
use Rattle.links_lang.specs.Views.{links_of}
use Rattle.weakest_pre.specs.Entry.{IsEntryBit}
use Rattle.pair_form.specs.Views.{pair_question_of}
use Rattle.mem_cells.specs.Words.{places_of}
use Rattle.pair_terms.specs.Sides.{program_of_exit}
use Rattle.pair_terms.proofs.SideReady.{side_ready}
use Rattle.pair_terms.proofs.SidesTold.{side_told}
use Rattle.pair_terms.proofs.sides.side.Goals as goal

pub returns-clause-tells : goal.returns-clause-tells
returns-clause-tells c = λ u p.
    let exit = c.args.exit.now in
    let w = program_of_exit exit in
    side_told u w (links_of c.args.links.now) c.args.second (pair_question_of c.args.kind) exit.passive.dag c.entry_bit.new.dag c.entry_terms.new.dag
    c.tied_by.new.dag c.in_ok-entry.entry.0 (places_of c.in_ok-entries.entries.items) exit.met.0 (places_of exit.words.items) c.in_ok-tied.tied.root.0
    (places_of c.in_ok-tied.tied.exits.items) p c.requires.walkable
    (subst (λ (z : List TermNode). IsEntryBit w z c.entry_bit.new.dag c.in_ok-entry.entry.0) c.new-dag.ensures c.in_ok-entry.ensures) c.in_ok-entries.ensures
    c.requires.terms.within c.requires.terms.tells c.in_ok-tied.ensures

pub returns-clause-ready : goal.returns-clause-ready
returns-clause-ready c =
    let exit = c.args.exit.now in
    let w = program_of_exit exit in
    let k = side_ready w c.args.second (links_of c.args.links.now) (pair_question_of c.args.kind) exit.passive.dag c.entry_bit.new.dag c.entry_terms.new.dag
    c.tied_by.new.dag c.in_ok-entry.entry.0 (places_of c.in_ok-entries.entries.items) exit.met.0 (places_of exit.words.items) c.in_ok-tied.tied.root.0
    (places_of c.in_ok-tied.tied.exits.items)
    (subst (λ (z : List TermNode). IsEntryBit w z c.entry_bit.new.dag c.in_ok-entry.entry.0) c.new-dag.ensures c.in_ok-entry.ensures)
    c.in_ok-entries.ensures c.requires.terms.within c.requires.terms.tells c.in_ok-tied.ensures in
    record { headless = c.requires.headless; terms = k.terms; root = k.bit_of; entries = k.entries; exits = k.exits }
