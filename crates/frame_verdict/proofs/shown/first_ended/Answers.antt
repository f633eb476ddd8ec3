use Rattle.std.proofs.Common.{◌≡◌, ℕ, ◌+◌, ◌<◌, Option, None, below_more, subst, arith}
use Rattle.std.specs.Prelude.{MatchOption, length}
use Rattle.machine_spec.specs.StateText.{Layout}
use Rattle.frame_spec.specs.FrameQuestions.{Question}
use Rattle.frame_spec.specs.FrameVerdict.{Whole}
use Rattle.question_form.specs.Asked.{frame_question}
use Rattle.question_form.specs.declared.unrolled.Unrolled.{Unrolled}
use Rattle.frame_start.specs.declared.meaning.Segments.{Segments}
use Rattle.frame_verdict.specs.FrameFunctions.{whole_of_framed}
use Rattle.frame_verdict.specs.ShownEnds.{EndsAsAsked, IsEnded}
use Rattle.frame_verdict.specs.declared.judged.Ended.{Ended}
use Rattle.frame_verdict.proofs.Trying.{later, some_root}
use Rattle.frame_verdict.proofs.shown.first_ended.Goals as goal

-- a root that was tried is none
not_tried : (w : Whole) (rank k : ℕ) (layout : Layout) (question : Question) (u : Unrolled) (s : Segments) (i : ℕ) (o : Option Ended) →
    MatchOption o (¬ EndsAsAsked w rank k layout question u s i) (IsEnded w rank k layout question) → o ≡ None →
    ((n : ℕ) → n < i → ¬ EndsAsAsked w rank k layout question u s n) → (n : ℕ) → n < i + 1 → ¬ EndsAsAsked w rank k layout question u s n
not_tried w rank k layout question u s i o h e before =
    below_more (λ (n : ℕ). ¬ EndsAsAsked w rank k layout question u s n) i before
    (subst (λ (z : Option Ended). MatchOption z (¬ EndsAsAsked w rank k layout question u s i) (IsEnded w rank k layout question)) e h)

pub loop-root-preserved : goal.loop-root-preserved
loop-root-preserved g c =
    not_tried (whole_of_framed c.args.framed.now) c.args.rank c.args.budget.now.unroll g.M.Machine.form (frame_question c.args.asked)
    c.args.unrolled.now c.args.segments.now c.loop-root.root c.in_ok-tried.tried c.in_ok-tried.ensures c.in_default.is c.loop-root.invariant

pub unreachable-requires : goal.unreachable-requires
unreachable-requires g c =
    let ready = c.requires.ready in
    let some = some_root (whole_of_framed c.args.framed.now) c.args.rank c.args.budget.now.unroll g.M.Machine.form
    (frame_question c.args.asked) c.args.unrolled.now c.args.segments.now ready.unrolled.ground.among.stepped ready.unrolled.measurable.first.0
    c.requires.segments.shows (later c.args.asked c.requires.later) in
    let few : some.0 < length c.args.unrolled.now.roots.items = some.1 in
    let count = c.args.unrolled.now.roots.ok.0 in
    let of = c.len-root-end.ensures in
    let past = c.loop-root-test.false in
    c.loop-root.invariant some.0 (omega (arith, few, count, of, past)) some.2
