use Rattle.std.proofs.Common.{refl, length, true}
use Rattle.std.specs.Prelude.{◌==◌}
use Rattle.refutation_checker.specs.declared.entries.Entry.{Entry}
use Rattle.refutation_checker.specs.Known.{known_of}
use Rattle.refutation_checker.specs.Slots.{IsWithin}
use Rattle.refutation_checker.proofs.Pushes.{pushed-rising, pushed-highest, pushed-all, pushed-known, empty-length}
use Rattle.refutation_checker.proofs.marks.add.Goals as goal

pub returns-clause-good : goal.returns-clause-good
returns-clause-good c =
    let es = c.args.marks.now.entries.items in
    let e : Entry = record { id = c.args.id; is_present = true; clause = c.args.clause } in
    let good = c.requires.good in
    record {
      named = good.named;
      rising = pushed-rising es c.push.new.self.items e c.args.marks.now.last c.in-Ok.ensures.items refl good.highest c.requires.above good.rising;
      highest = rw c.max-marks.ensures (pushed-highest es c.push.new.self.items e c.args.marks.now.last c.in-Ok.ensures.items refl good.highest
          c.requires.above);
      within = pushed-all es c.push.new.self.items e c.args.marks.now.last c.in-Ok.ensures.items refl good.highest c.requires.above
          (IsWithin c.args.marks.now.names.items (length c.args.marks.now.slots.items)) good.within c.requires.within;
    }

pub returns-clause-known : goal.returns-clause-known
returns-clause-known c = λ hints.
    let es = c.args.marks.now.entries.items in
    let e : Entry = record { id = c.args.id; is_present = true; clause = c.args.clause } in
    rw (c.max-marks.ensures, c.is_empty-marks.ensures, c.lits.ensures)
    (pushed-known es c.push.new.self.items e c.args.marks.now.last c.in-Ok.ensures.items refl c.requires.good.highest c.requires.above
    (length c.args.clause.now == 0) (known_of c.args.marks.now) hints refl refl (empty-length c.args.clause.now))
