use Rattle.std.proofs.Common.{◌≡◌, ◌∙◌, length, ap, sym, subst, arith}
use Rattle.gates.specs.Circuits.{Within}
use Rattle.pair_blast.proofs.StandIns.{written}
use Rattle.pair_blast.proofs.linked.linked_inputs.Goals as goal

pub returns-clause-within : goal.returns-clause-within
returns-clause-within c = λ n a b.
    let same : c.in_ok-bits.bits.items ≡ c.args.own.now = c.in_ok-bits.ensures.items_if_clones_equal (λ y z e. e) in
    let len : length c.stand_in_all.new.bits ≡ length c.in_ok-bits.bits.items = c.stand_in_all.ensures.len ∙ ap length c.deref_mut.ensures.value in
    subst (Within n) (sym (written c.stand_in_all.new.bits c.in_ok-bits.bits.items c.in_ok-bits.bits.len len (omega (arith, c.in_ok-bits.bits.ok.0))))
    (c.stand_in_all.ensures.within n (subst (Within n) (sym (c.deref_mut.ensures.value ∙ same)) a) b)
