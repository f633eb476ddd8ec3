use Rattle.std.proofs.Common.{◌≡◌, ◌+◌, ◌<◌, ℕ, suc, refl, ap, sym, ◌∙◌, subst, arith, length}
use Rattle.std.specs.Prelude.{slice_index_or}
use Rattle.question_form.specs.FrameViews.{is_contract}
use Rattle.bit_blast.proofs.StepChoices.{any_default}
use Rattle.frame_start.proofs.CellInputs.{gift_reads_by}
use Rattle.frame_start.proofs.ChangedSets.{deed_is, gift_there, no_gift_at}
use Rattle.frame_start.proofs.reads.reads_of_gift.Goals as goal

pub reads_of_part-requires-clause-places : goal.reads_of_part-requires-clause-places
reads_of_part-requires-clause-places c = rw (c.deref.ensures.value, c.deref-then-is_contract_step.ensures.value) c.requires.readable.places

pub reads_of_part-requires-clause-count : goal.reads_of_part-requires-clause-count
reads_of_part-requires-clause-count c =
    let u = c.args.c.now.question.now.passive.now.unrolled.now in
    let others = c.args.others.now in
    let i = c.args.place in
    let q = c.index.result.now in
    let g = gift_there u i c.requires.place
    (ap is_contract (deed_is u.points.items i q q.deed c.requires.place c.index.ensures refl) ∙ sym c.is_contract_step.ensures ∙ c.if-is_contract_step.true) in
    let d = c.index-others-place.result in
    let next : suc i ≡ i + 1 = omega arith in
    let long : length (slice_index_or others (i + 1) d).base.items ≡ length c.args.c.now.addresses.items
    = subst (λ (k : ℕ). length (slice_index_or others k d).base.items ≡ length c.args.c.now.addresses.items) next (c.requires.others.gifts i g.0 d g.1) in
    let a = c.deref-then-is_contract_step.ensures.value in
    let b = (c.deref-then-is_contract_step-2).ensures.value in
    let s = c.index-others-place.is in
    cc

pub returns-then-is_contract_step : goal.returns-then-is_contract_step
returns-then-is_contract_step c =
    let others = c.args.others.now in
    let i = c.args.place in
    let inside : i + 1 < length others = omega (arith, c.requires.others.count, c.requires.place) in
    let found = rw (c.deref.ensures.value, c.deref-then-is_contract_step.ensures.value) at c.in_ok-reads.ensures in
    gift_reads_by c.args.c.now c.args.words.now others i (i + 2) (i + 1) (omega arith) (omega arith) (c.deref-then-is_contract_step-2).result.now
    (λ d. (let k : slice_index_or others (i + 1) c.index-others-place.result ≡ slice_index_or others (i + 1) d
    = any_default others (i + 1) c.index-others-place.result d inside in
    let b = (c.deref-then-is_contract_step-2).ensures.value in
    let s = c.index-others-place.is in
    cc)) c.in_ok-reads.reads.items found

pub returns : goal.returns
returns c g d at =
    let u = c.args.c.now.question.now.passive.now.unrolled.now in
    let q = c.index.result.now in
    absurd (no_gift_at u c.args.place c.requires.place
    (ap is_contract (deed_is u.points.items c.args.place q q.deed c.requires.place c.index.ensures refl)
    ∙ sym c.is_contract_step.ensures ∙ c.if-is_contract_step.false) g at)
