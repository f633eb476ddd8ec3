use Rattle.std.proofs.Common.{length, ap, sym, refl, ◌∙◌, arith}
use Rattle.term_spec.specs.Terms.{width_of}
use Rattle.start_value.specs.Starts.{layout_of}
use Rattle.question_form.specs.Views.{unrolled_of}
use Rattle.term_names.specs.Views.{form_of, names_of}
use Rattle.note_terms.proofs.Valued.{in_range, names_stay}
use Rattle.links_lang.specs.Views.{links_of}
use Rattle.weakest_pre.specs.Entry.{said}
use Rattle.weakest_pre.proofs.Entries.{link_is, link_word, said_is, same_range}
use Rattle.mem_cells.specs.Words.{places_of}
use Rattle.pair_terms.proofs.AtExit.{ensured_read, same_form, form_for, last_names_stay, bit_stays, entry_names_stay}
use Rattle.pair_terms.proofs.ExitMade.{exit_made}
use Rattle.pair_terms.proofs.exits.at_exit.Goals as goal

pub index-link-requires : goal.index-link-requires
index-link-requires c =
    let layout = layout_of c.args.unrolled.now.form in
    let h = in_range c.args.unrolled.now.link layout.first (length layout.registers) c.requires.walkable.link in
    let e = c.registers-first.ensures in
    let count = c.in_ok-entry.ensures.registers in
    omega (arith, h.0, h.1, e.first, e.count, count, c.in_ok-entry.entry.registers.ok.0)

pub all_true-requires-clause-reads : goal.all_true-requires-clause-reads
all_true-requires-clause-reads c =
    let last = c.requires.last in
    ensured_read (unrolled_of c.args.unrolled.now) c.args.names.now _ c.args.unrolled.now.notes.now.ensured.items c.deref.ensures.value refl last.form
    c.requires.walkable.ensures

pub all_true-requires-clause-same : goal.all_true-requires-clause-same
all_true-requires-clause-same c =
    let e = c.registers-first.ensures in
    let n = c.in_ok-entry.ensures in
    same_form (unrolled_of c.args.unrolled.now) c.args.names.now c.in_ok-entry.entry c.requires.last.form
    (record { registers = same_range _ _ _ _ (n.first ∙ e.first) (n.registers ∙ e.count); flags = sym (n.flags ∙ c.flag_count.ensures) })
    (let k = c.requires.walkable.sized.enough in omega arith)

pub all_true-requires-clause-now : goal.all_true-requires-clause-now
all_true-requires-clause-now c =
    let layout = layout_of c.args.unrolled.now.form in
    let h = in_range c.args.unrolled.now.link layout.first (length layout.registers) c.requires.walkable.link in
    let e = c.registers-first.ensures in
    record {
      names = last_names_stay (unrolled_of c.args.unrolled.now) _ _ _ _ _ _ _ _ c.args.names.now c.in_ok-entry.entry c.requires.last c.in_ok-entry.ensures
          c.in_ok-pc.ensures;
      pc = link_word _ _ _ _ _ _ _ _ c.args.unrolled.now.link _ c.index-link.result.now c.in_ok-entry.ensures c.in_ok-pc.ensures (omega (arith, h.0, e.first))
          (omega (arith, h.1, e.first, e.count)) c.index-link.ensures;
    }

pub all_true-requires-clause-entry : goal.all_true-requires-clause-entry
all_true-requires-clause-entry c =
    let pc = c.in_ok-pc.ensures in
    record {
      names = entry_names_stay _ _ _ _ c.in_ok-entry.entry pc c.in_ok-entry.ensures.names;
      pc = (pc.within, ap width_of pc.stored);
    }

pub all_true-requires-clause-first : goal.all_true-requires-clause-first
all_true-requires-clause-first c =
    bit_stays _ _ _ _ _ _ _ _ c.args.reached.0 c.in_ok-entry.entry c.in_ok-entry.ensures c.in_ok-pc.ensures c.requires.reached.0

pub link_terms-requires-clause-names : goal.link_terms-requires-clause-names
link_terms-requires-clause-names c =
    let n = c.args.names.now in
    names_stay (form_of n) _ _ _ _ _ _ _ (names_of n) c.in_ok-met.ensures.grew
    (last_names_stay (unrolled_of c.args.unrolled.now) _ _ _ _ _ _ _ _ n c.in_ok-entry.entry c.requires.last c.in_ok-entry.ensures c.in_ok-pc.ensures)

pub link_terms-requires-clause-links : goal.link_terms-requires-clause-links
link_terms-requires-clause-links c =
    let u = c.args.unrolled.now in (
      u.form,
      form_for u.form (unrolled_of u) c.args.names.now refl refl c.requires.last.form (let k = c.requires.walkable.sized.enough in omega arith),
      c.requires.links,
    )

pub returns : goal.returns
returns c =
    let u = c.args.unrolled.now in
    let layout = layout_of u.form in
    let h = in_range u.link layout.first (length layout.registers) c.requires.walkable.link in
    let e = c.registers-first.ensures in
    let links = c.args.links.now in
    exit_made (unrolled_of u) c.args.second (links_of links) (length links) _ _ _ _ _ c.args.names.now _ _ _ _ _ c.args.reached.0 _ u.big _
    (places_of c.in_ok-words.words.items) (same_range _ _ _ _ e.first e.count) (sym c.flag_count.ensures) refl
    (ap said c.deref.ensures.value ∙ said_is u.notes.now.ensured.items) (omega (arith, h.0, e.first)) (omega (arith, h.1, e.first, e.count)) c.requires.last
    c.requires.reached c.in_ok-entry.ensures c.in_ok-pc.ensures refl
    (link_is c.in_ok-entry.entry _ c.index-link.result.now
    (let count = c.in_ok-entry.ensures.registers in omega (arith, h.0, h.1, e.first, e.count, count)) c.index-link.ensures) c.in_ok-met.ensures
    c.in_ok-words.ensures
