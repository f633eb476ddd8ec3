use Rattle.std.proofs.Common.{◌<◌, ◌∙◌, Some, length, ap, sym, refl, arith}
use Rattle.std.specs.Option.{option_map}
use Rattle.std.proofs.lemmas.Option.{slice_get-get_or, slice_get-map}
use Rattle.notes_value.specs.FrameViews.{contract_of}
use Rattle.notes_value.specs.declared.notes.Contract.{Contract}
use Rattle.table_run.proofs.called.own.Goals as goal

pub returns-clause-own : goal.returns-clause-own
returns-clause-own c =
    let inside : c.args.rank < length c.args.contracts.now = omega arith in
    ap (λ (x : Contract). Some (contract_of x)) c.index-contracts-rank.is
    ∙ sym (slice_get-map contract_of c.args.contracts.now c.args.rank
    ∙ ap (option_map contract_of) (slice_get-get_or c.args.contracts.now c.args.rank c.index-contracts-rank.result inside))

pub returns-clause-parts : goal.returns-clause-parts
returns-clause-parts c =
    let inside : c.args.rank < length c.args.contracts.now = omega arith in (
      slice_get-get_or c.args.contracts.now c.args.rank c.index-contracts-rank.result inside
          ∙ ap (λ (x : Contract). Some x) (sym c.index-contracts-rank.is),
      refl,
    )
