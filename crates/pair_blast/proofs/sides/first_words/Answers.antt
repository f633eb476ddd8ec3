use Rattle.std.proofs.Common.{◌∙◌, ◌≡◌, ◌↔◌, ap, subst, true}
use Rattle.term_spec.specs.Terms.{TermReading, term_word}
use Rattle.mem_cells.specs.Views.{cells_of, program_of_cells}
use Rattle.gates.specs.Pushes.{satisfied}
use Rattle.pair_blast.proofs.BothSides.{HoldsBy, first_read}
use Rattle.pair_blast.proofs.sides.first_words.Goals as goal

pub returns-clause-words : goal.returns-clause-words
returns-clause-words c =
    let m = rw c.deref.ensures.value at c.in_ok-words.ensures.words in
    let k = cells_of c.args.c.now in
    let u = program_of_cells c.args.c.now in
    record {
      count = m.count;
      widths = m.widths;
      within = m.within;
      values = λ v h t l.
          m.values v h t l
          ∙ ap (λ (x : TermReading). term_word x k.nodes t)
          (first_read u k c.args.places.now c.requires.placed v c.in_ok-own.own.items c.in_ok-own.ensures.made.len (c.in_ok-own.ensures.value v));
    }

pub returns-clause-value : goal.returns-clause-value
returns-clause-value c = λ v h.
    let m = rw c.deref.ensures.value at c.in_ok-words.ensures.value in
    let k = cells_of c.args.c.now in
    let u = program_of_cells c.args.c.now in
    subst (λ (x : TermReading). (satisfied v c.side_words.new.ties.items ≡ true) ↔ ((satisfied v c.args.ties.now.items ≡ true) × HoldsBy k x))
    (first_read u k c.args.places.now c.requires.placed v c.in_ok-own.own.items c.in_ok-own.ensures.made.len (c.in_ok-own.ensures.value v)) (m v h)
