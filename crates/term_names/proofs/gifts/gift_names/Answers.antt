use Rattle.std.proofs.Common.{ℕ, List, true, false, length, refl, subst}
use Rattle.term_dag.specs.declared.nodes.Term.{Term}
use Rattle.term_names.specs.Choices.{places}
use Rattle.term_names.specs.Gifts.{AreGiven}
use Rattle.term_names.proofs.Given.{gift_named}
use Rattle.term_names.proofs.gifts.gift_names.Goals as goal

pub returns : goal.returns
returns c =
    let b = c.args.names.now in
    gift_named c.args.dag.now c.all_given.new.dag c.all_given-2.new.dag c.args.part c.args.registers c.args.flags b
    (record { first = b.first; registers = c.in_ok-words.words; flags = c.in_ok-bits.bits; memory = b.memory }) c.requires.words c.requires.bits refl refl
    (subst (λ (z : List Term). AreGiven c.args.dag.now c.all_given.new.dag false c.args.part c.args.registers b.first (length z) (places z)
    (places c.in_ok-words.words.items)) c.deref.ensures.value c.in_ok-words.ensures)
    (subst (λ (z : List Term). AreGiven c.all_given.new.dag c.all_given-2.new.dag true c.args.part c.args.flags 0 (length z) (places z)
    (places c.in_ok-bits.bits.items)) c.deref-2.ensures.value
    (subst (λ (v : ℕ). AreGiven c.all_given.new.dag c.all_given-2.new.dag true c.args.part v 0 (length c.deref-2.result.now) (places c.deref-2.result.now)
    (places c.in_ok-bits.bits.items)) c.from.ensures c.in_ok-bits.ensures))
