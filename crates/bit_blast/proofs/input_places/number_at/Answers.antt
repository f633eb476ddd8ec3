use Rattle.std.proofs.Common.{ap, ◌∙◌, arith, ℕ, Option, None}
use Rattle.std.specs.Global.{Vec}
use Rattle.std.specs.Prelude.{slice_index_or}
use Rattle.bit_blast.proofs.GivenInputs.{list_at, list_out}
use Rattle.bit_blast.proofs.input_places.number_at.Goals as goal

pub returns-then-place-lists : goal.returns-then-place-lists
returns-then-place-lists c =
    c.option_at-found.ensures
    ∙ ap (λ z. slice_index_or z c.args.number None) (c.deref.ensures.value ∙ ap (λ (z : Vec (Option ℕ)). z.items) c.index-lists-place.is)
    ∙ list_at c.args.lists.now c.args.place c.args.number c.index-lists-place.result (omega arith)

pub returns : goal.returns
returns c = list_out c.args.lists.now c.args.place c.args.number (omega arith)
