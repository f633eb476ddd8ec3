use Rattle.std.proofs.Common.{◌≡◌, ◌<◌, ℕ, List, [], ap, ◌∙◌, arith, length, map}
use Rattle.std.specs.Prelude.{filter, slice_index_or, if◌then◌else◌}
use Rattle.question_form.specs.FrameQuestions.{is_of_heads}
use Rattle.bit_blast.proofs.StepChoices.{any_default}
use Rattle.frame_start.specs.Inputs.{both_reading}
use Rattle.frame_start.specs.Reads.{is_of, pair_at}
use Rattle.frame_start.proofs.CellInputs.{both_in_range, placed_reads, small_address, within}
use Rattle.frame_start.proofs.reads.reads_of_parts.Goals as goal

pub reads_of_part-requires-clause-places : goal.reads_of_part-requires-clause-places
reads_of_part-requires-clause-places c = rw (c.deref.ensures.value, c.deref-2.ensures.value) (placed_reads c.args.c.now c.requires.formed)

pub reads_of_part-requires-clause-within : goal.reads_of_part-requires-clause-within
reads_of_part-requires-clause-within c =
    rw (c.deref-2.ensures.value, c.deref-3.ensures.value)
    (within c.args.c.now c.requires.formed (both_reading c.args.entry.now c.args.others.now) (both_in_range c.args.entry.now c.args.others.now)
    c.in_ok-words.words.items c.in_ok-words.ensures)

pub reads_of_part-requires-clause-small : goal.reads_of_part-requires-clause-small
reads_of_part-requires-clause-small c =
    rw (c.deref-2.ensures.value, c.deref-3.ensures.value)
    (small_address c.args.c.now c.requires.formed (both_reading c.args.entry.now c.args.others.now) (both_in_range c.args.entry.now c.args.others.now)
    c.in_ok-words.words.items c.in_ok-words.ensures)

pub reads_of_head-requires-clause-places : goal.reads_of_head-requires-clause-places
reads_of_head-requires-clause-places c = placed_reads c.args.c.now c.requires.formed

pub reads_of_head-requires-clause-within : goal.reads_of_head-requires-clause-within
reads_of_head-requires-clause-within c =
    rw (c.deref-5.ensures.value)
    (within c.args.c.now c.requires.formed (both_reading c.args.entry.now c.args.others.now) (both_in_range c.args.entry.now c.args.others.now)
    c.in_ok-words.words.items c.in_ok-words.ensures)

pub reads_of_head-requires-clause-small : goal.reads_of_head-requires-clause-small
reads_of_head-requires-clause-small c =
    rw (c.deref-5.ensures.value)
    (small_address c.args.c.now c.requires.formed (both_reading c.args.entry.now c.args.others.now) (both_in_range c.args.entry.now c.args.others.now)
    c.in_ok-words.words.items c.in_ok-words.ensures)

pub reads_of_head-requires-clause-count : goal.reads_of_head-requires-clause-count
reads_of_head-requires-clause-count c =
    let long : length (slice_index_or c.args.others.now 0 c.index-others-0.result).base.items ≡ length c.args.c.now.addresses.items
    = c.requires.others.head c.index-others-0.result in
    let b = c.deref-6.ensures.value in
    let s = c.index-others-0.is in
    cc

pub reads_of_gifts-requires-clause-readable : goal.reads_of_gifts-requires-clause-readable
reads_of_gifts-requires-clause-readable c =
    rw (c.deref-7.ensures.value) (record {
      places = placed_reads c.args.c.now c.requires.formed;
      within = within c.args.c.now c.requires.formed (both_reading c.args.entry.now c.args.others.now) (both_in_range c.args.entry.now c.args.others.now)
          c.in_ok-words.words.items c.in_ok-words.ensures;
      small = small_address c.args.c.now c.requires.formed (both_reading c.args.entry.now c.args.others.now)
          (both_in_range c.args.entry.now c.args.others.now) c.in_ok-words.words.items c.in_ok-words.ensures;
    })

pub returns : goal.returns
returns c =
    let k = c.args.c.now in
    let others = c.args.others.now in
    let some : 0 < length others = omega (arith, c.requires.others.count) in
    let found = rw (c.deref-5.ensures.value) at c.in_ok-of_head.ensures in
    record {
      words = c.in_ok-words.words.items;
      are = c.in_ok-words.ensures;
      at_entry = rw (c.deref.ensures.value, c.deref-2.ensures.value, c.deref-3.ensures.value, c.deref-4.ensures.value) at c.in_ok-of_entry.ensures;
      at_head = λ d. found ∙ ap (λ (base : List ℕ). if is_of_heads k.question.now
          then map (pair_at k.addresses.items c.in_ok-words.words.items base) (filter (is_of 1) k.reads.items) else [])
          (let e : slice_index_or others 0 c.index-others-0.result ≡ slice_index_or others 0 d = any_default others 0 c.index-others-0.result d some in
          let b = c.deref-6.ensures.value in let s = c.index-others-0.is in
          let own : c.deref-6.result.now ≡ (slice_index_or others 0 d).base.items = cc in own);
      at_gifts = rw (c.deref-7.ensures.value) at c.in_ok-gifts.ensures;
    }
