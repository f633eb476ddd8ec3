use Rattle.std.proofs.Common.{◌≡◌, ◌<◌, ◌/◌, ◌-◌, ◌∙◌, ◌≤◌, ap, length, length-drop, take, drop, arith, refl}
use Rattle.std.proofs.lemmas.List.{length-take-le}
use Rattle.sat_core.specs.Tables.{true_in}
use Rattle.sat_core.specs.Trials.{also, AreTested}
use Rattle.sat_core.proofs.Trials.{later-includes, later-later, back-later, calm-back, also-includes, also-more, tested-more, tested-one, tested-halves, in-front, in-back, whole-back}
use Rattle.sat_core.proofs.needed.+needed.Goals as goal

pub are_needed-returns-then-lits-lt2-clause-tested : goal.are_needed-returns-then-lits-lt2-clause-tested
are_needed-returns-then-lits-lt2-clause-tested t c = λ e.
    let few : length c.args.lits.now < 2 = (let a = c.if-lits-lt2.true in omega arith) in
    tested-one c.args.propagator.now.clauses.items (true_in c.args.propagator.now.trail.table.items) c.args.lits.now few c.requires.calm.quiet

pub are_needed-are_needed_where-requires : goal.are_needed-are_needed_where-requires
are_needed-are_needed_where-requires t c =
    let lits = c.args.lits.now in
    let h = length lits / 2 in
    let d = c.decreases in
    let n : length (take (length lits - h) (drop h lits)) ≡ length lits - h = ap length (whole-back h lits) ∙ length-drop h lits in
    let some = c.if-lits-lt2.false in (
      omega arith,
      (
        c.requires.sound,
        (
          c.requires.calm,
          (
            rw (whole-back h lits) (λ l p. c.requires.within l (in-back h lits l p)),
            λ l p. c.requires.within l (in-front h lits l p),
          ),
        ),
      ),
    )

pub are_needed-are_needed_where-requires-2 : goal.are_needed-are_needed_where-requires-2
are_needed-are_needed_where-requires-2 t c =
    let lits = c.args.lits.now in
    let h = length lits / 2 in
    let old = c.args.propagator.now in
    let k = c.are_needed_where.ensures.later in
    let d = c.decreases in
    let le : h ≤ length lits = omega arith in
    let n : length (take h lits) ≡ h = length-take-le h lits le in
    let some = c.if-lits-lt2.false in (
      omega arith,
      (
        k.sound,
        (
          calm-back old c.are_needed_where.new.propagator c.requires.sound k c.are_needed_where.ensures.back c.requires.calm,
          (rw k.size (λ l p. c.requires.within l (in-front h lits l p)), rw (k.size, whole-back h lits) (λ l p. c.requires.within l (in-back h lits l p))),
        ),
      ),
    )

pub are_needed-returns-clause-later : goal.are_needed-returns-clause-later
are_needed-returns-clause-later t c =
    later-later c.args.propagator.now c.are_needed_where.new.propagator c.are_needed_where-2.new.propagator c.requires.sound c.are_needed_where.ensures.later
    c.are_needed_where-2.ensures.later

pub are_needed-returns-clause-tested : goal.are_needed-returns-clause-tested
are_needed-returns-clause-tested t c = λ e.
    let lits = c.args.lits.now in
    let h = length lits / 2 in
    let old = c.args.propagator.now in
    let cs = old.clauses.items in
    let g = true_in old.trail.table.items in
    let next = c.are_needed_where.new.propagator in
    let k = c.are_needed_where.ensures.later in
    let back : AreTested cs (also g (take h lits)) (drop h lits) = rw (whole-back h lits) at
    (c.are_needed_where.ensures.tested c.if-not-are_needed_where.false) in
    let front : AreTested cs (also (true_in next.trail.table.items) (drop h lits)) (take h lits) =
    rw (k.clauses, whole-back h lits) at (c.are_needed_where-2.ensures.tested e) in
    tested-halves cs g h lits back
    (tested-more cs (also g (drop h lits)) (also (true_in next.trail.table.items) (drop h lits)) (take h lits)
    (also-more g (true_in next.trail.table.items) (drop h lits) (later-includes old next c.requires.sound k)) front)

pub are_needed_where-returns-clause-later : goal.are_needed_where-returns-clause-later
are_needed_where-returns-clause-later t c =
    let old = c.args.propagator.now in
    let mid = c.assume.new.propagator in
    let end = c.are_needed-are_tested.new.propagator in
    let k = later-later old mid end c.requires.sound c.assume.ensures.later c.are_needed-are_tested.ensures.later in
    let mark : c.len-mark.result ≡ length old.trail.steps.items = c.len-mark.ensures ∙ old.trail.steps.ok.0 in
    let b = c.back_to-2.ensures in
    back-later old end c.back_to-2.new.self c.len-mark.result k b.trail b.steps mark b.size

pub are_needed_where-returns-clause-tested : goal.are_needed_where-returns-clause-tested
are_needed_where-returns-clause-tested t c = λ e.
    let old = c.args.propagator.now in
    let cs = old.clauses.items in
    let g = true_in old.trail.table.items in
    let mid = c.assume.new.propagator in
    let k = c.assume.ensures.later in
    let h = true_in mid.trail.table.items in
    let r : AreTested cs h c.args.lits.now = rw k.clauses at (c.are_needed-are_tested.ensures.tested e) in
    tested-more cs (also g c.args.assumed.now) h c.args.lits.now
    (also-includes g h c.args.assumed.now (later-includes old mid c.requires.sound k) (λ m p. c.if-assume.ensures.denied refl m p)) r
