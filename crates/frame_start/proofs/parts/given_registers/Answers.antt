use Rattle.std.proofs.Common.{◌≡◌, List, ℕ, ap, sym, ◌∙◌, ◌++◌, ◌∷◌, [], map, arith}
use Rattle.word_spec.specs.RowFiles.{from_to}
use Rattle.std.specs.Prelude.{filter}
use Rattle.frame_start.specs.Changes.{changed_registers, is_given}
use Rattle.frame_start.proofs.SegmentLists.{kept_push}
use Rattle.frame_start.proofs.parts.given_registers.Goals as goal

pub loop-number-preserved : goal.loop-number-preserved
loop-number-preserved c x at =
    let p = is_given c.args.places.now (changed_registers c.args.changed) in
    let f = x.regs c.args.part in
    c.in_ok-list_register.ensures x at
    ∙ ap (λ (z : List ℕ). z ++ map f (filter p (c.loop-number.number ∷ []))) (c.loop-number.invariant x at)
    ∙ sym (kept_push f p c.loop-number.number)

pub returns : goal.returns
returns c x at =
    let all : c.loop-number.number ≡ 32 = omega arith in
    c.loop-number.invariant x at
    ∙ ap (λ (k : ℕ). map (x.regs c.args.part) (filter (is_given c.args.places.now (changed_registers c.args.changed)) (from_to 0 k))) all
