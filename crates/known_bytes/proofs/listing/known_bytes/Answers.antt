use Rattle.std.proofs.Common.{◌^◌, map, refl, arith, rules}
use Rattle.notes_value.specs.NoteViews.{fixed_of}
use Rattle.known_bytes.proofs.Runs.{known_none, known_gap, known_all, known_beyond, part_more, part_last, part_beyond}
use Rattle.known_bytes.proofs.listing.known_bytes.Goals as goal

pub loop-runs-init : goal.loop-runs-init
loop-runs-init c = record { known = known_none _ _ _ c.new-runs.ensures.items; below = omega arith }

pub returns-in-None-clause-rising : goal.returns-in-None-clause-rising
returns-in-None-clause-rising c = c.loop-runs.invariant.known.are

pub returns-in-None-clause-bytes : goal.returns-in-None-clause-bytes
returns-in-None-clause-bytes c = λ m entry.
    let below = c.loop-runs.invariant.below in
    (known_all _ _ _ _
    (known_gap c.args.image.now (map fixed_of c.args.notes.now.fixed.items) c.loop-runs.at (2 ^ 32) _ _
    (omega arith) c.in-None.ensures c.loop-runs.invariant.known)).0

pub returns-in-None-clause-sum : goal.returns-in-None-clause-sum
returns-in-None-clause-sum c = c.loop-runs.invariant.known.sum

pub returns-in-None-clause-count : goal.returns-in-None-clause-count
returns-in-None-clause-count c = λ m entry.
    let below = c.loop-runs.invariant.below in
    (known_all _ _ _ _
    (known_gap c.args.image.now (map fixed_of c.args.notes.now.fixed.items) c.loop-runs.at (2 ^ 32) _ _
    (omega arith) c.in-None.ensures c.loop-runs.invariant.known)).1

pub returns-then-part-clause-rising : goal.returns-then-part-clause-rising
returns-then-part-clause-rising c =
    (part_more c.args.image.now (map fixed_of c.args.notes.now.fixed.items) c.loop-runs.at c.in-Some.part _ _ c.loop-runs.count _ _ refl refl refl
    c.in-Some.ensures
    c.loop-runs.invariant.known c.in_ok-push.ensures.items refl).are

pub returns-then-part-clause-bytes : goal.returns-then-part-clause-bytes
returns-then-part-clause-bytes c = λ m entry.
    (part_last c.args.image.now (map fixed_of c.args.notes.now.fixed.items) c.loop-runs.at c.in-Some.part _ _ c.loop-runs.count _ _ refl refl refl
    c.in-Some.ensures
    c.loop-runs.invariant.known c.in_ok-push.ensures.items refl (omega arith)).0

pub returns-then-part-clause-sum : goal.returns-then-part-clause-sum
returns-then-part-clause-sum c =
    (part_more c.args.image.now (map fixed_of c.args.notes.now.fixed.items) c.loop-runs.at c.in-Some.part _ _ c.loop-runs.count _ _ refl refl refl
    c.in-Some.ensures
    c.loop-runs.invariant.known c.in_ok-push.ensures.items refl).sum

pub returns-then-part-clause-count : goal.returns-then-part-clause-count
returns-then-part-clause-count c = λ m entry.
    (part_last c.args.image.now (map fixed_of c.args.notes.now.fixed.items) c.loop-runs.at c.in-Some.part _ _ c.loop-runs.count _ _ refl refl refl
    c.in-Some.ensures
    c.loop-runs.invariant.known c.in_ok-push.ensures.items refl (omega arith)).1

pub loop-runs-preserved : goal.loop-runs-preserved
loop-runs-preserved c = record {
  known =
      part_more c.args.image.now (map fixed_of c.args.notes.now.fixed.items) c.loop-runs.at c.in-Some.part _ _ c.loop-runs.count _ _ refl refl refl
      c.in-Some.ensures
      c.loop-runs.invariant.known c.in_ok-push.ensures.items refl;
  below = search rules;
}

pub returns-in-None-clause-beyond : goal.returns-in-None-clause-beyond
returns-in-None-clause-beyond c =
    let below = c.loop-runs.invariant.below in
    known_beyond _ _ _ _
    (known_gap c.args.image.now (map fixed_of c.args.notes.now.fixed.items) c.loop-runs.at (2 ^ 32) _ _
    (omega arith) c.in-None.ensures c.loop-runs.invariant.known)

pub returns-then-part-clause-beyond : goal.returns-then-part-clause-beyond
returns-then-part-clause-beyond c =
    part_beyond c.args.image.now (map fixed_of c.args.notes.now.fixed.items) c.loop-runs.at c.in-Some.part _ _ c.loop-runs.count _ _ refl refl refl
    c.in-Some.ensures
    c.loop-runs.invariant.known c.in_ok-push.ensures.items refl (omega arith)
