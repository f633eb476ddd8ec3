use Rattle.std.proofs.Common.{◌≡◌, ℕ, length, subst, arith}
use Rattle.frame_start.specs.Segments.{AreChoicesOf, AreChoicesTo}
use Rattle.frame_start.proofs.SegmentLists.{each_more}
use Rattle.frame_start.proofs.choices.choices_of_roots.Goals as goal

pub loop-root-preserved : goal.loop-root-preserved
loop-root-preserved c values p met =
    each_more (AreChoicesOf c.args.c.now values p) c.loop-root.root c.loop-root.choices.items c.push.new.self.items c.in_ok-choices_of_root.field-0
    (c.loop-root.invariant values p met) c.in_ok-push.ensures.items (c.in_ok-choices_of_root.ensures values p met)

pub returns : goal.returns
returns c values p met =
    let all : c.loop-root.root ≡ length c.args.c.now.question.now.passive.now.unrolled.now.roots.items
    = (let past = c.loop-root-test.false in let most = c.loop-root.auto.root-end in let long = c.len-root-end.ensures in
    let is = c.args.c.now.question.now.passive.now.unrolled.now.roots.ok.0 in omega arith) in
    subst (λ (n : ℕ). AreChoicesTo c.args.c.now values p n c.loop-root.choices.items) all (c.loop-root.invariant values p met)
