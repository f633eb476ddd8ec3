use Rattle.std.proofs.Common.{refl, ap, ◌∙◌, arith}
use Rattle.std.proofs.Math.Facts.{Fits-of_lt}
use Rattle.term_dag.specs.Readings.{reading_of, reading_of_parts}
use Rattle.term_dag.proofs.Bytes.{entry_byte, address_within, in_store, past_store, store_before, first_before, second_before, in_take, past_take, take_before, join_first, join_second, no_bytes, parts_in_range}
use Rattle.term_dag.proofs.Ranges.{word_fits}
use Rattle.term_dag.proofs.ListLaws.{typed_here}
use Rattle.term_dag.proofs.values.byte.Goals as goal

pub returns-in-Memory : goal.returns-in-Memory
returns-in-Memory c =
    let v = c.loop-of.invariant in
    c.memory_byte.ensures
    ∙ ap (λ z. (reading_of z).mem 0 c.args.address) c.part.ensures
    ∙ entry_byte (reading_of_parts c.args.parts.now) _ _ _ c.args.address c.args.nodes.now.typed c.requires.words v.within _ c.in-Memory.ensures
    ∙ v.same

pub bounds-words-first : goal.bounds-words-first
bounds-words-first c =
    let k = address_within (reading_of_parts c.args.parts.now) _ _ _ c.args.address c.args.nodes.now.typed c.requires.words c.loop-of.invariant.within _ c.in-Store.big
    _ _ _ _ c.in-Store.ensures refl in
    omega (arith, k, c.requires.words.count)

pub overflow_cast-place-in-Store : goal.overflow_cast-place-in-Store
overflow_cast-place-in-Store c =
    let r = reading_of_parts c.args.parts.now in
    let y = typed_here _ _ _ c.args.nodes.now.typed c.loop-of.invariant.within c.in-Store.ensures in
    Fits-of_lt (omega (
      arith,
      c.requires.words.each c.in-Store.first.0 y.2.0,
      word_fits r _ 32 c.in-Store.first.0
          (parts_in_range c.args.parts.now) c.args.nodes.now.typed y.2,
    ))

pub bounds-words-value : goal.bounds-words-value
bounds-words-value c =
    let y = typed_here _ _ _ c.args.nodes.now.typed c.loop-of.invariant.within c.in-Store.ensures in
    omega (arith, y.3.0, c.requires.words.count)

pub stored_byte-requires-clause-few : goal.stored_byte-requires-clause-few
stored_byte-requires-clause-few c = (typed_here _ _ _ c.args.nodes.now.typed c.loop-of.invariant.within c.in-Store.ensures).0.1

pub returns-then-place-bytes : goal.returns-then-place-bytes
returns-then-place-bytes c =
    let v = c.loop-of.invariant in
    c.stored_byte.ensures
    ∙ in_store (reading_of_parts c.args.parts.now) _ _ _ c.args.address c.args.nodes.now.typed c.requires.words v.within _ c.in-Store.big _ _ _ _ c.in-Store.ensures refl
    c.if-place-bytes.true ∙ v.same

pub loop-of-smaller-in-Store : goal.loop-of-smaller-in-Store
loop-of-smaller-in-Store c =
    store_before (reading_of_parts c.args.parts.now) _ _ _ c.args.address c.args.nodes.now.typed c.requires.words c.loop-of.invariant.within _ c.in-Store.big _ _ _ _
    c.in-Store.ensures refl

pub loop-of-preserved-in-Store : goal.loop-of-preserved-in-Store
loop-of-preserved-in-Store c =
    let v = c.loop-of.invariant in
    let y = typed_here _ _ _ c.args.nodes.now.typed v.within c.in-Store.ensures in
    record {
      within = y.1.0;
      same = past_store (reading_of_parts c.args.parts.now) _ _ _ c.args.address c.args.nodes.now.typed c.requires.words v.within _ c.in-Store.big _ _ _ _
          c.in-Store.ensures refl c.if-place-bytes.false ∙ v.same;
    }

pub bounds-words-condition : goal.bounds-words-condition
bounds-words-condition c =
    let y = typed_here _ _ _ c.args.nodes.now.typed c.loop-of.invariant.within c.in-Join.ensures in
    omega (arith, y.0.0, c.requires.words.count)

pub loop-of-smaller-then-words-condition-gt0 : goal.loop-of-smaller-then-words-condition-gt0
loop-of-smaller-then-words-condition-gt0 c =
    first_before (reading_of_parts c.args.parts.now) _ _ _ c.args.address c.args.nodes.now.typed c.requires.words c.loop-of.invariant.within _ _ _ c.in-Join.ensures

pub loop-of-preserved-then-words-condition-gt0 : goal.loop-of-preserved-then-words-condition-gt0
loop-of-preserved-then-words-condition-gt0 c =
    let v = c.loop-of.invariant in
    let y = typed_here _ _ _ c.args.nodes.now.typed v.within c.in-Join.ensures in
    record {
      within = y.1.0;
      same = join_first (reading_of_parts c.args.parts.now) _ _ _ c.args.address c.args.nodes.now.typed c.requires.words v.within _ _ _ c.in-Join.ensures
          c.if-words-condition-gt0.true ∙ v.same;
    }

pub loop-of-smaller-else-words-condition-gt0 : goal.loop-of-smaller-else-words-condition-gt0
loop-of-smaller-else-words-condition-gt0 c =
    second_before (reading_of_parts c.args.parts.now) _ _ _ c.args.address c.args.nodes.now.typed c.requires.words c.loop-of.invariant.within _ _ _ c.in-Join.ensures

pub loop-of-preserved-else-words-condition-gt0 : goal.loop-of-preserved-else-words-condition-gt0
loop-of-preserved-else-words-condition-gt0 c =
    let v = c.loop-of.invariant in
    let y = typed_here _ _ _ c.args.nodes.now.typed v.within c.in-Join.ensures in
    record {
      within = y.2.0;
      same = join_second (reading_of_parts c.args.parts.now) _ _ _ c.args.address c.args.nodes.now.typed c.requires.words v.within _ _ _ c.in-Join.ensures
          c.if-words-condition-gt0.false ∙ v.same;
    }

pub bounds-words-first-in-Take : goal.bounds-words-first-in-Take
bounds-words-first-in-Take c =
    let y = typed_here _ _ _ c.args.nodes.now.typed c.loop-of.invariant.within c.in-Take.ensures in
    omega (arith, y.2.0, c.requires.words.count)

pub overflow_cast-place-in-Take-2 : goal.overflow_cast-place-in-Take-2
overflow_cast-place-in-Take-2 c =
    let r = reading_of_parts c.args.parts.now in
    let y = typed_here _ _ _ c.args.nodes.now.typed c.loop-of.invariant.within c.in-Take.ensures in
    Fits-of_lt (omega (
      arith,
      c.requires.words.each c.in-Take.first.0 y.2.0,
      word_fits r _ 32 c.in-Take.first.0
          (parts_in_range c.args.parts.now) c.args.nodes.now.typed y.2,
    ))

pub returns-then-place-bytes-2 : goal.returns-then-place-bytes-2
returns-then-place-bytes-2 c =
    let v = c.loop-of.invariant in
    c.memory_byte-then-place-bytes-2.ensures
    ∙ ap (λ z. (reading_of z).mem 0 c.args.address) c.part-then-place-bytes-2.ensures
    ∙ in_take (reading_of_parts c.args.parts.now) _ _ _ c.args.address c.args.nodes.now.typed c.requires.words v.within _ _ _ _ _ c.in-Take.ensures
    (parts_in_range c.args.parts.now) c.ranges.address.fits refl c.if-place-bytes-2.true ∙ v.same

pub loop-of-smaller : goal.loop-of-smaller
loop-of-smaller c =
    take_before (reading_of_parts c.args.parts.now) _ _ _ c.args.address c.args.nodes.now.typed c.requires.words c.loop-of.invariant.within _ _ _ _ _
    c.in-Take.ensures (parts_in_range c.args.parts.now) c.ranges.address.fits refl

pub loop-of-preserved : goal.loop-of-preserved
loop-of-preserved c =
    let v = c.loop-of.invariant in
    let y = typed_here _ _ _ c.args.nodes.now.typed v.within c.in-Take.ensures in
    record {
      within = y.1.0;
      same = past_take (reading_of_parts c.args.parts.now) _ _ _ c.args.address c.args.nodes.now.typed c.requires.words v.within _ _ _ _ _
          c.in-Take.ensures (parts_in_range c.args.parts.now) c.ranges.address.fits refl c.if-place-bytes-2.false ∙ v.same;
    }

pub returns-in_default : goal.returns-in_default
returns-in_default c =
    let v = c.loop-of.invariant in
    no_bytes (reading_of_parts c.args.parts.now) _ _ _ c.args.address c.args.nodes.now.typed v.within c.look.ensures c.in_default.not-Memory c.in_default.not-Store
    c.in_default.not-Join c.in_default.not-Take ∙ v.same
