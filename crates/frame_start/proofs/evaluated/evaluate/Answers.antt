use Rattle.std.proofs.Common.{◌≡◌, ◌≤◌, ◌<◌, ℕ, List, ap, sym, ◌∙◌, subst, length, slice_index, arith}
use Rattle.clause_spec.specs.Clauses.{valuation}
use Rattle.question_form.specs.FrameQuestions.{heads_of_question}
use Rattle.mem_cells.specs.FrameViews.{frame_cells_of, frame_of_cells}
use Rattle.bit_blast.specs.Steps.{choice_at}
use Rattle.frame_start.specs.Inputs.{HasInputs}
use Rattle.frame_start.proofs.CellInputs.{have_reads, long_are}
use Rattle.frame_start.proofs.GiftInputs.{gifts_named}
use Rattle.frame_start.proofs.evaluated.evaluate.Goals as goal

pub other_readings-requires-clause-named : goal.other_readings-requires-clause-named
other_readings-requires-clause-named c =
    let k = c.args.celled.now in
    gifts_named (frame_of_cells k) (heads_of_question k.question.now) (frame_cells_of k) c.in_ok-places.places c.in_ok-places.ensures.frame

pub reads_of_parts-requires-clause-others : goal.reads_of_parts-requires-clause-others
reads_of_parts-requires-clause-others c =
    let k = c.args.celled.now in
    let count : c.len-count.result ≡ length k.addresses.items = omega (arith, c.len-count.ensures, k.addresses.ok.0) in
    rw (c.deref.ensures.value)
    (long_are k c.in_ok-places.places c.args.values.now c.len-count.result count c.in_ok-head.head _ c.in_ok-others.others.items c.in_ok-head.ensures.bytes
    c.in_ok-others.ensures)

pub returns-clause-is : goal.returns-clause-is
returns-clause-is c =
    let k = c.args.celled.now in
    let count : c.len-count.result ≡ length k.addresses.items = omega (arith, c.len-count.ensures, k.addresses.ok.0) in
    let p = c.in_ok-places.places in
    let v = c.args.values.now in
    let each : (i : ℕ) → i < length p.drawn.items → slice_index c.in_ok-entry.entry.choices.items i ≡ choice_at p (valuation v) i =
    λ i l. ap (λ z. slice_index z i) c.in_ok-entry.ensures.choices ∙ c.in_ok-choices.ensures.each i l in
    let under = rw (c.deref.ensures.value) at c.in_ok-reads.ensures in
    record {
      placed = c.in_ok-places.ensures.frame;
      entry = subst (λ (n : ℕ). HasInputs p v 0 n c.in_ok-entry.entry) count c.in_ok-entry.ensures.inputs;
      fill_entry = c.in_ok-entry.ensures.fill;
      read_count = under.at_gifts.count;
      few_points = omega (arith, k.question.now.passive.now.unrolled.now.points.ok.0);
      few_addresses = omega arith;
      each = each;
      count = ap length c.in_ok-entry.ensures.choices ∙ c.in_ok-choices.ensures.count;
      few = λ i. subst (λ (xs : List ℕ). slice_index xs i ≤ 3) (sym c.in_ok-entry.ensures.choices) (c.in_ok-choices.ensures.few i);
      reads = λ x hx. have_reads k c.requires.formed p c.in_ok-places.ensures.frame v c.len-count.result count c.in_ok-entry.entry c.in_ok-head.head
          c.in_ok-others.others.items c.in_ok-entry.ensures.inputs c.in_ok-head.ensures.inputs _ c.in_ok-others.ensures each under.words under.are x hx
          c.in_ok-reads.reads under.at_entry under.at_head under.at_gifts;
    }
