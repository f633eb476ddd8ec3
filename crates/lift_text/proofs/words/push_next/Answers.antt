use Rattle.std.proofs.Common.{Bool, ◌+◌, ◌≤◌, arith, subst}
use Rattle.lift_text.specs.Found.{IsNextPlace}
use Rattle.lift_text.proofs.Texts.{skip, more}
use Rattle.lift_text.proofs.words.push_next.Goals as goal

pub returns-in-Next : goal.returns-in-Next
returns-in-Next g c =
    let gap = c.in-Next.ensures in
    let behind : c.args.at ≤ c.in-Next.next = omega (arith, gap.later) in
    record {
      later = gap.later;
      within = gap.within;
      aligned = gap.aligned;
      text = skip g.M.Machine.machine g.M.Machine.bank c.args.image.now c.args.at c.in-Next.next c.args.out.now.items behind gap.none;
    }

pub returns-in_ok-push_word-in-Word : goal.returns-in_ok-push_word-in-Word
returns-in_ok-push_word-in-Word g c =
    let place : IsNextPlace g.M.Machine.machine.narrow (c.args.at + 1) c.place_from.result =
    subst (λ (n : Bool). IsNextPlace n (c.args.at + 1) c.place_from.result) c.is_narrow.ensures c.place_from.ensures in
    let behind = place.behind in
    record {
      later = omega arith;
      within = place.within;
      aligned = place.aligned;
      text = more g.M.Machine.machine g.M.Machine.bank c.args.image.now c.args.at c.place_from.result c.args.out.now.items c.push_word.new.out.items
          place c.in-Word.ensures.word c.in_ok-push_word-in-Word.ensures;
    }
