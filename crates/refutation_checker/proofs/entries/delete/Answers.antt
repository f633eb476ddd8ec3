use Rattle.std.proofs.Common.{◌∙◌, refl, get_or}
use Rattle.refutation_checker.specs.Entries.{look_up}
use Rattle.refutation_checker.proofs.Places.{deleted-found, deleted-none, ids-gone, as-rising}
use Rattle.refutation_checker.proofs.entries.delete.Goals as goal
use Rattle.refutation_checker.proofs.entries.delete.Goals.{in-Some, in_default}

pub place-requires : goal.place-requires
place-requires c = as-rising c.args.entries.now c.loop-id.entries c.requires c.loop-id.invariant.same_ids

pub loop-id-preserved : goal.loop-id-preserved
loop-id-preserved c =
    let old = c.args.entries.now in
    let es = c.loop-id.entries in
    let ids = c.args.ids.now in
    let k = c.loop-id.id-index in
    let inv = c.loop-id.invariant in
    let rising = as-rising old es c.requires inv.same_ids in
    elim c.match-place.branch [
      | in-Some w ↦
          let e = w.index-entries-at.result in
          record {
            looks = deleted-found ids k (get_or ids k 0) c.loop-id-test.true refl
                (look_up old) es c.match-place.entries w.in-Some.at e w.entries-is rising w.in-Some.ensures.within
                w.index-entries-at.is w.in-Some.ensures.found inv.looks;
            same_ids = ids-gone es c.match-place.entries w.in-Some.at e w.entries-is ∙ inv.same_ids;
          }
      | in_default w ↦ record {
        looks = rw w.entries-is (deleted-none ids k (get_or ids k 0) c.loop-id-test.true refl (look_up old) es w.in_default.ensures.absent inv.looks);
        same_ids = rw w.entries-is inv.same_ids;
      }
    ]
