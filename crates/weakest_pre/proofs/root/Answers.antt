use Rattle.std.proofs.Common.{refl, sym, subst}
use Rattle.term_dag.specs.declared.nodes.Term.{Term}
use Rattle.call_form.specs.declared.kind.Asked.{Asked}
use Rattle.weakest_pre.specs.Roots.{IsTied, IsTiedBy}
use Rattle.weakest_pre.proofs.root.Goals.{in-Fail, in-Step, in-Turn}
use Rattle.weakest_pre.proofs.root.Goals as goal

pub returns-in-Entry : goal.returns-in-Entry
returns-in-Entry c =
    subst (λ (a : Asked). IsTiedBy c.args.passive.now a c.args.dag.now c.args.entry.0 (record { nodes = c.args.dag.now; root = c.args.entry.0 }))
    (sym c.in-Entry.is) (refl, refl)

pub returns : goal.returns
returns c =
    let p = c.args.passive.now in
    let by = λ (a : Asked). IsTiedBy p a c.args.dag.now c.args.entry.0 (record { nodes = c.tied.new.dag; root = c.in_ok-bit.bit.0 }) in
    let of = λ (z : Term). IsTied p.dag c.args.dag.now c.tied.new.dag c.args.entry.0 z.0 c.in_ok-bit.bit.0 in
    elim c.match-asked.branch [
      | in-Fail w ↦ subst by (sym w.in-Fail.is) (subst of w.end-is c.in_ok-bit.ensures)
      | in-Step w ↦ subst by (sym w.in-Step.is) (subst of w.end-is c.in_ok-bit.ensures)
      | in-Turn w ↦ subst by (sym w.in-Turn.is) (subst of w.end-is c.in_ok-bit.ensures)
    ]
