use Rattle.std.proofs.Common.{ℕ, List, None, false, ◌∙◌, subst}
use Rattle.program_points.specs.declared.values.End.{End}
use Rattle.program_points.specs.Tables.{frame_at, listed, return_end}
use Rattle.unroller.specs.Led.{HasLed}
use Rattle.unroller.proofs.edges.add_return.Goals as goal

pub returns : goal.returns
returns c =
    let aims = c.args.aims.now in
    let Has : List End → Type 0 =
    λ l. HasLed aims.heads.now aims.stepped.now aims.asserts.now aims.keys.now c.args.own None l None false c.args.edges.now.items c.add_ends.new.edges.items in
    subst (λ (s : ℕ). Has (listed (return_end c.args.narrow (frame_at c.args.frames.now s)))) c.stack_of.ensures
    (subst Has (c.deref.ensures.value ∙ c.in_ok-jumps.ensures) c.in_ok-add_ends.ensures)
