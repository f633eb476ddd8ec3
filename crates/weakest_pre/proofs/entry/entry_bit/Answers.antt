use Rattle.std.proofs.Common.{◌∙◌, ap, sym, refl, arith, length}
use Rattle.start_value.specs.Starts.{layout_of}
use Rattle.question_form.specs.Views.{unrolled_of}
use Rattle.note_terms.proofs.Valued.{in_range}
use Rattle.weakest_pre.specs.Entry.{said}
use Rattle.weakest_pre.proofs.Entries.{entry_made, link_is, link_word, lines_read, names_ready, said_is, same_range}
use Rattle.weakest_pre.proofs.entry.entry_bit.Goals as goal

pub index-link-requires : goal.index-link-requires
index-link-requires c =
    let layout = layout_of c.args.unrolled.now.form in
    let h = in_range c.args.unrolled.now.link layout.first (length layout.registers) c.requires.link in
    let e = c.registers-first.ensures in
    let count = c.in_ok-names.ensures.registers in
    omega (arith, h.0, h.1, e.first, e.count, count, c.in_ok-names.names.registers.ok.0)

pub is_at_place-requires : goal.is_at_place-requires
is_at_place-requires c =
    let layout = layout_of c.args.unrolled.now.form in
    let h = in_range c.args.unrolled.now.link layout.first (length layout.registers) c.requires.link in
    let e = c.registers-first.ensures in
    record {
      word = link_word _ _ _ _ _ _ _ _ c.args.unrolled.now.link _ c.index-link.result.now c.in_ok-names.ensures c.in_ok-pc.ensures (omega (arith, h.0, e.first))
          (omega (arith, h.1, e.first, e.count)) c.index-link.ensures;
    }

pub all_true-requires-clause-reads : goal.all_true-requires-clause-reads
all_true-requires-clause-reads c =
    let e = c.registers-first.ensures in
    let n = c.in_ok-names.ensures in
    lines_read (unrolled_of c.args.unrolled.now) c.in_ok-names.names _ c.args.unrolled.now.notes.now.required.items c.deref.ensures.value refl
    (same_range _ _ _ _ (n.first ∙ e.first) (n.registers ∙ e.count)) (sym (n.flags ∙ c.flag_count.ensures)) c.requires.lines

pub all_true-requires-clause-now : goal.all_true-requires-clause-now
all_true-requires-clause-now c =
    let h = names_ready _ _ _ _ _ _ _ _ _ _ _ _ c.in_ok-names.ensures c.in_ok-pc.ensures c.in_ok-aligned.ensures in
    record { names = h.0; pc = h.1 }

pub all_true-requires-clause-entry : goal.all_true-requires-clause-entry
all_true-requires-clause-entry c =
    let h = names_ready _ _ _ _ _ _ _ _ _ _ _ _ c.in_ok-names.ensures c.in_ok-pc.ensures c.in_ok-aligned.ensures in
    record { names = h.0; pc = h.1 }

pub returns : goal.returns
returns c =
    let layout = layout_of c.args.unrolled.now.form in
    let h = in_range c.args.unrolled.now.link layout.first (length layout.registers) c.requires.link in
    let e = c.registers-first.ensures in
    let n = c.in_ok-names.ensures in
    entry_made (unrolled_of c.args.unrolled.now) _ _ _ _ _ _ _ _ _ _ _ _ _ _ (same_range _ _ _ _ e.first e.count) (sym c.flag_count.ensures) refl
    (ap said c.deref.ensures.value ∙ said_is c.args.unrolled.now.notes.now.required.items) (omega (arith, h.0, e.first))
    (omega (arith, h.1, e.first, e.count)) n
    c.in_ok-pc.ensures
    (link_is c.in_ok-names.names _ c.index-link.result.now
    (let count = n.registers in omega (arith, h.0, h.1, e.first, e.count, count)) c.index-link.ensures) c.in_ok-aligned.ensures c.in_ok-bit.ensures
