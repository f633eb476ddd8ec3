use Rattle.std.proofs.Common.{ℕ, ap, sym, ◌∙◌, arith, length, get_or, ◌<◌, ◌++◌, ◌∷◌, []}
use Rattle.std.specs.Prelude.{Contains}
use Rattle.std.proofs.lemmas.List.{get_or_default, length-map}
use Rattle.notes_value.specs.declared.notes.Contract.{Contract}
use Rattle.notes_value.specs.FrameViews.{contract_of}
use Rattle.question_form.specs.declared.unrolled.Code.{Code}
use Rattle.unroller.specs.Keys.{place_in}
use Rattle.unroller.specs.Places.{step_code}
use Rattle.unroller.proofs.Addressed.{place_within}
use Rattle.unroller.proofs.Coding.{steps_more}
use Rattle.unroller.proofs.steps.add_codes.Goals as goal

pub prove-unreachable-requires : goal.prove-unreachable-requires
prove-unreachable-requires c =
    let steps = c.args.steps.now in
    let i = c.loop-at.at-index in
    let at = get_or steps i 0 in
    let among : Contains c.args.stepped.now at = c.requires.among at (i, c.loop-at-test.true, get_or_default steps i at 0 c.loop-at-test.true) in
    let low = place_within c.args.stepped.now at among in
    let count = ap length c.requires.stepped in
    let same = length-map c.args.contracts.now (λ (x : Contract). x.at) in
    let place = c.contract_place-place.ensures in
    let not = c.if-prove.true in
    omega arith

pub code_of-requires : goal.code_of-requires
code_of-requires c =
    let x = c.index-contracts-place.result in
    c.requires.few x (c.contract_place-place.result, c.if-prove.false, sym c.index-contracts-place.is)

pub loop-at-preserved : goal.loop-at-preserved
loop-at-preserved c =
    let x = c.index-contracts-place.result in
    let at = get_or c.args.steps.now c.loop-at.at-index 0 in
    let low : place_in c.args.stepped.now at < length c.args.contracts.now = (let p = c.contract_place-place.ensures in let l = c.if-prove.false in omega arith) in
    steps_more c.args.contracts.now c.args.stepped.now c.args.steps.now c.loop-at.at-index x c.args.codes.now.items c.loop-at.codes.items
    c.push.new.self.items c.loop-at-test.true low c.loop-at.invariant
    (c.in_ok-push.ensures.items
    ∙ ap (λ (k : Code). c.loop-at.codes.items ++ k ∷ [])
    (c.code_of.ensures ∙ ap (λ (y : Contract). step_code (contract_of y)) (c.index-contracts-place.is
    ∙ ap (λ (n : ℕ). get_or c.args.contracts.now n x) c.contract_place-place.ensures)))
