use Rattle.std.proofs.Common.{◌∙◌, arith, sym}
use Rattle.model_verdict.proofs.KnownRuns.{before_other, has_all, has_more, here_other, last_other, next_at, next_past, none_left}
use Rattle.model_verdict.proofs.known.has_run.Goals as goal
use Rattle.model_verdict.proofs.known.has_run.Goals.{else-loop-next-test, then-loop-next-test+else-bytes-next}

pub returns-then-not-are_fill-clause-other : goal.returns-then-not-are_fill-clause-other
returns-then-not-are_fill-clause-other c =
    let bytes = c.args.bytes.now in
    let k = c.args.run.now in
    let from = c.loop-next.from in
    let next = c.loop-next.next in
    let to = c.loop-next.invariant in
    let at = next_at c.args.fill bytes k c.requires.rising from next to (0, 0) c.loop-next-test.true in
    λ e. before_other c.args.fill bytes k c.requires.rising from next to (0, 0) c.loop-next-test.true _ at c.if-bytes-next.true
    (c.are_fill.ensures.other c.if-not-are_fill.true)

pub returns-then-byte_at-bytes-clause-other : goal.returns-then-byte_at-bytes-clause-other
returns-then-byte_at-bytes-clause-other c =
    let bytes = c.args.bytes.now in
    let k = c.args.run.now in
    let from = c.loop-next.from in
    let next = c.loop-next.next in
    let to = c.loop-next.invariant in
    let at = next_at c.args.fill bytes k c.requires.rising from next to (0, 0) c.loop-next-test.true in
    λ e. here_other c.args.fill bytes k c.requires.rising from next to (0, 0) c.loop-next-test.true _ at c.if-bytes-next.true
    (λ s. c.if-byte_at-bytes.true (c.byte_at.ensures ∙ s))

pub loop-next-preserved : goal.loop-next-preserved
loop-next-preserved c =
    let bytes = c.args.bytes.now in
    let k = c.args.run.now in
    let from = c.loop-next.from in
    let next = c.loop-next.next in
    let to = c.loop-next.invariant in
    let at = next_at c.args.fill bytes k c.requires.rising from next to (0, 0) c.loop-next-test.true in
    has_more c.args.fill bytes k c.requires.rising from next to (0, 0) c.loop-next-test.true _ at c.if-bytes-next.true
    (c.are_fill.ensures.all c.if-not-are_fill.false) (sym c.byte_at.ensures ∙ c.if-byte_at-bytes.false)

pub returns-clause-all : goal.returns-clause-all
returns-clause-all c =
    let bytes = c.args.bytes.now in
    let k = c.args.run.now in
    let from = c.loop-next.from in
    let next = c.loop-next.next in
    let to = c.loop-next.invariant in
    λ e. has_all c.args.fill bytes k c.requires.rising from next to (elim c.loop-next-test.branch [
      | then-loop-next-test+else-bytes-next w ↦ next_past c.args.fill bytes k c.requires.rising from next to (0, 0) w.loop-next-test.true
          (omega (arith, w.if-bytes-next.false))
      | else-loop-next-test w ↦ none_left c.args.fill bytes k c.requires.rising from next to (omega (arith, w.loop-next-test.false))
    ]) c.requires.some (c.are_fill-2.ensures.all e)

pub returns-clause-other : goal.returns-clause-other
returns-clause-other c =
    let bytes = c.args.bytes.now in
    let k = c.args.run.now in
    let from = c.loop-next.from in
    let next = c.loop-next.next in
    let to = c.loop-next.invariant in
    λ e. last_other c.args.fill bytes k c.requires.rising from next to (elim c.loop-next-test.branch [
      | then-loop-next-test+else-bytes-next w ↦ next_past c.args.fill bytes k c.requires.rising from next to (0, 0) w.loop-next-test.true
          (omega (arith, w.if-bytes-next.false))
      | else-loop-next-test w ↦ none_left c.args.fill bytes k c.requires.rising from next to (omega (arith, w.loop-next-test.false))
    ]) c.requires.some (c.are_fill-2.ensures.other e)
