use Rattle.std.proofs.Common.{◌≡◌, true, false, refl, subst, length, List}
use Rattle.term_dag.specs.declared.values.Reading.{Reading}
use Rattle.term_dag.specs.Readings.{AreWords}
use Rattle.frame_start.specs.Inputs.{both_reading}
use Rattle.frame_start.specs.Segments.{written_parts}
use Rattle.frame_start.proofs.MetWords.{met_words_are, of_other, with_memory}
use Rattle.frame_start.proofs.PartInputs.{memory_is}
use Rattle.frame_start.proofs.RootChoices.{place_is, uncalled_are, undrawn_are}
use Rattle.frame_start.proofs.met.met_points.Goals as goal

pub start_memory-requires-clause-unknown : goal.start_memory-requires-clause-unknown
start_memory-requires-clause-unknown c = rw (c.deref.ensures.value, c.deref-2.ensures.value) c.requires.parts.2.at_entry.unknown

pub returns-then-not-is_needed-clause-met : goal.returns-then-not-is_needed-clause-met
returns-then-not-is_needed-clause-met c =
    let e = c.args.e in
    let none = c.is_needed.ensures c.if-not-is_needed.true in
    let p = written_parts c.args.parts.now in
    record {
      words = λ t. absurd (let f : false ≡ true = t in cc);
      choices = λ t. absurd (let f : false ≡ true = t in cc);
      no_choices = λ t n x hx. undrawn_are e.celled.now e.values.now e.places c.requires.evaluated.placed none.0 x p n;
      no_calls = λ t n x hx. uncalled_are e.celled.now none.1 x p n;
    }

pub returns-clause-met : goal.returns-clause-met
returns-clause-met c =
    let e = c.args.e in
    let k = e.celled.now in
    let is = c.requires.evaluated in
    let m = rw (c.deref.ensures.value, c.deref-2.ensures.value) at c.in_ok-memory.ensures.value in
    let parts = c.args.parts.now in
    let first = record e.entry { memory = c.in_ok-memory.memory } in
    let o = c.in_ok-others.ensures in
    record {
      words = λ t. (
        o.head,
        λ x hx r isr. met_words_are k e.values.now e.places is.placed parts c.requires.parts first
            (record {
              has = with_memory e.places e.values.now 0 (length k.addresses.items) e.entry c.in_ok-memory.memory is.entry;
              memory = λ a. memory_is first c.in_ok-memory.memory.entries refl is.fill_entry a _ (c.in_ok-memory.ensures.below a) (m a);
            })
            is.each o.head o.of_head c.in_ok-others.others.items o.others_are r
            (of_other k e.values.now e.places is.placed parts x c.requires.parts.0 hx c.requires.parts.1 r isr)
            k.question.now.passive.now.dag c.requires.askable.passive.terms.named c.in_ok-words.words.items
            (subst (λ (z : List Reading). AreWords (both_reading first z) k.question.now.passive.now.dag c.in_ok-words.words.items)
            c.deref-3.ensures.value c.in_ok-words.ensures),
      );
      choices = λ t x hx. place_is k e.values.now e.places is.placed e.entry.choices.items is.each is.count x hx;
      no_choices = λ t. absurd (let e : true ≡ false = t in cc);
      no_calls = λ t. absurd (let e : true ≡ false = t in cc);
    }
