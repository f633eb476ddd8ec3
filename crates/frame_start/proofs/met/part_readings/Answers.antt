use Rattle.std.proofs.Common.{◌≡◌, ℕ, subst, arith, length}
use Rattle.question_form.specs.FrameQuestions.{heads_of_question}
use Rattle.mem_cells.specs.FrameViews.{frame_cells_of, frame_of_cells}
use Rattle.frame_start.specs.Changes.{AreOthers}
use Rattle.frame_start.proofs.GiftInputs.{gifts_named}
use Rattle.frame_start.proofs.met.part_readings.Goals as goal

pub head_reading-requires-clause-unknown : goal.head_reading-requires-clause-unknown
head_reading-requires-clause-unknown c = λ t. (c.requires.parts.2.at_head t).unknown

pub other_readings-requires-clause-named : goal.other_readings-requires-clause-named
other_readings-requires-clause-named c =
    let k = c.args.e.now.celled.now in
    gifts_named (frame_of_cells k) (heads_of_question k.question.now) (frame_cells_of k) c.args.e.now.places c.requires.evaluated.placed

pub returns : goal.returns
returns c =
    let e = c.args.e.now in
    let k = e.celled.now in
    let count : c.len-count.result ≡ length k.addresses.items = omega (arith, c.len-count.ensures, k.addresses.ok.0) in
    let others = rw (c.deref.ensures.value) at c.in_ok-others.ensures in
    record {
      head = c.in_ok-head.head;
      of_head = c.in_ok-head.ensures;
      others_are = subst (λ (n : ℕ). AreOthers (frame_of_cells k) e.places e.values.now n (length k.question.now.passive.now.unrolled.now.points.items)
          c.in_ok-head.head c.args.parts.now.gifts.items c.in_ok-others.others.items) count others;
    }
