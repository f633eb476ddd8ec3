use Rattle.std.proofs.Common.{◌∙◌, ap}
use Rattle.term_spec.specs.Terms.{TermReading, term_word}
use Rattle.term_spec.specs.ClauseForm.{reading}
use Rattle.mem_cells.specs.Views.{cells_of, program_of_cells}
use Rattle.bit_blast.proofs.Lists.{within_up}
use Rattle.bit_blast.proofs.Placed.{named}
use Rattle.pair_blast.proofs.Alike.{alike_as, as_wide_self}
use Rattle.pair_blast.proofs.BothSides.{both_sides, read_so}
use Rattle.pair_blast.proofs.sides.second_words.Goals as goal

pub linked_inputs-requires-clause-named : goal.linked_inputs-requires-clause-named
linked_inputs-requires-clause-named c = λ n k.
    named (program_of_cells c.args.second.now.celled) (cells_of c.args.second.now.celled) c.args.places.now c.requires.placed n (c.requires.formed.named n k)

pub linked_inputs-requires-clause-alike : goal.linked_inputs-requires-clause-alike
linked_inputs-requires-clause-alike c =
    rw (c.deref-2.ensures.value, c.deref-3.ensures.value)
    (alike_as _ _ _ _ _ _ (record { count = c.requires.words.count; widths = c.requires.words.widths }) (as_wide_self _) c.requires.alike)

pub side_words-requires-clause-within : goal.side_words-requires-clause-within
side_words-requires-clause-within c =
    rw c.deref-6.ensures.value ((rw c.deref.ensures.value at c.in_ok-bits.ensures.within) _ c.in_ok-own.ensures.made.within c.requires.words.within)

pub returns-clause-value : goal.returns-clause-value
returns-clause-value c = λ v h.
    let own = c.in_ok-own.own.items in
    let bits = c.in_ok-bits.bits.items in
    let d = cells_of c.args.second.now.celled in
    let k = cells_of c.args.first.now.celled in
    let x = reading (program_of_cells c.args.first.now.celled) k v in
    let made = rw c.deref-6.ensures.value at c.in_ok-made.ensures.words in
    both_sides (program_of_cells c.args.second.now.celled) d c.args.places.now c.requires.placed v c.args.before own bits c.in_ok-own.ensures.made.len
    (c.in_ok-own.ensures.value v) (rw c.deref.ensures.value at c.in_ok-bits.ensures.len) x k.nodes c.args.words.now c.args.first.now.entries.items
    c.args.second.now.entries.items c.requires.alike (c.requires.words.values v (c.in_ok-made.ensures.grows.keeps v h))
    (λ y. rw (c.deref.ensures.value, c.deref-2.ensures.value, c.deref-3.ensures.value) at (c.in_ok-bits.ensures.value v y))
    c.in_ok-made.made.items (made.values v h) _ _ _ _
    (rw (c.deref-4.ensures.value, c.deref-5.ensures.value) at (c.in_ok-tie_equal.ensures.value v))
    (rw c.deref-6.ensures.value at (c.in_ok-made.ensures.value v h))
    (rw (c.deref-7.ensures.value, c.deref-8.ensures.value, c.deref-9.ensures.value) at (c.in_ok-tie_entries.ensures.value v))

pub returns-clause-words : goal.returns-clause-words
returns-clause-words c =
    let own = c.in_ok-own.own.items in
    let bits = c.in_ok-bits.bits.items in
    let d = cells_of c.args.second.now.celled in
    let k = cells_of c.args.first.now.celled in
    let w = program_of_cells c.args.second.now.celled in
    let made = rw c.deref-6.ensures.value at c.in_ok-made.ensures.words in
    record {
      count = made.count;
      widths = made.widths;
      within = made.within;
      values = λ v f t l.
          made.values v f.0 t l ∙ ap (λ (z : TermReading). term_word z d.nodes t)
          (read_so w d c.args.places.now c.requires.placed v c.args.before own bits c.in_ok-own.ensures.made.len (c.in_ok-own.ensures.value v)
          (rw c.deref.ensures.value at c.in_ok-bits.ensures.len) (reading (program_of_cells c.args.first.now.celled) k v) k.nodes c.args.words.now
          c.args.first.now.entries.items c.args.second.now.entries.items c.requires.alike
          (c.requires.words.values v (c.in_ok-made.ensures.grows.keeps v f.0))
          (λ y. rw (c.deref.ensures.value, c.deref-2.ensures.value, c.deref-3.ensures.value) at (c.in_ok-bits.ensures.value v y))
          c.in_ok-made.made.items (made.values v f.0) _ _ _ _
          (rw (c.deref-4.ensures.value, c.deref-5.ensures.value) at (c.in_ok-tie_equal.ensures.value v))
          (rw c.deref-6.ensures.value at (c.in_ok-made.ensures.value v f.0))
          (rw (c.deref-7.ensures.value, c.deref-8.ensures.value, c.deref-9.ensures.value) at (c.in_ok-tie_entries.ensures.value v)) f.1);
    }

pub returns-clause-over : goal.returns-clause-over
returns-clause-over c = λ o.
    let g = c.in_ok-made.ensures.grows.more in
    let own = c.in_ok-own.ensures.made.within in
    let bits = (rw c.deref.ensures.value at c.in_ok-bits.ensures.within) _ own c.requires.words.within in
    let words = within_up _ _ c.args.words.now c.requires.words.within g in
    let made = rw c.deref-6.ensures.value at c.in_ok-made.ensures.words in
    let tied = (rw (c.deref-4.ensures.value, c.deref-5.ensures.value) at c.in_ok-tie_equal.ensures.over) _ own bits o in
    (rw c.deref-7.ensures.value at c.in_ok-tie_entries.ensures.over) _ words made.within (c.in_ok-made.ensures.over tied)
