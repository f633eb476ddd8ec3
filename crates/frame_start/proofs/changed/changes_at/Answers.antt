use Rattle.std.proofs.Common.{ap}
use Rattle.question_form.specs.declared.unrolled.Deed.TheVariants as deeds
use Rattle.question_form.specs.FrameViews.{is_contract}
use Rattle.frame_start.proofs.ChangedSets.{changes_are, deed_is, no_gift_at}
use Rattle.frame_start.proofs.changed.changes_at.Goals as goal

pub returns-in-Row : goal.returns-in-Row
returns-in-Row c g at =
    let u = c.args.unrolled.now in
    no_gift_at u c.args.place c.requires (ap is_contract (deed_is u.points.items c.args.place _ deeds.Row c.requires c.index.ensures c.in-Row.is)) g at

pub returns-in-Arrival : goal.returns-in-Arrival
returns-in-Arrival c g at =
    let u = c.args.unrolled.now in
    no_gift_at u c.args.place c.requires (ap is_contract (deed_is u.points.items c.args.place _ deeds.Arrival c.requires c.index.ensures c.in-Arrival.is)) g at

pub returns-in-Contract : goal.returns-in-Contract
returns-in-Contract c =
    let u = c.args.unrolled.now in
    let n = c.in-Contract.number in
    changes_are u c.args.place c.requires n (deed_is u.points.items c.args.place _ (deeds.Contract n) c.requires c.index.ensures c.in-Contract.is)
    c.changed_by.result c.changed_by.ensures.registers c.changed_by.ensures.flags
