use Rattle.std.proofs.Common.{ℕ, ◌+◌, ◌*◌, List, length, subst}
use Rattle.term_dag.specs.declared.nodes.Term.{Term}
use Rattle.term_names.specs.Choices.{places}
use Rattle.passify.specs.Bits.{Makes}
use Rattle.passify.specs.Changes.{TellsAmong}
use Rattle.passify.proofs.Changes.{all_changes}
use Rattle.passify.proofs.own.changed.Goals as goal

pub returns : goal.returns
returns c =
    let k = c.args.contract.now in
    let entry = c.args.entry.now in
    let next = c.args.next.now in
    let a = c.constant.new.dag in
    let b = c.changed_among.new.dag in
    let d = c.changed_among-2.new.dag in
    let never = c.in_ok-never.never.0 in
    let words = c.in_ok-words.words.0 in
    let all = c.in_ok-all.all.0 in
    all_changes k c.args.dag.now a b d entry next never words all c.requires.registers c.requires.flags c.requires.same c.requires.entry c.requires.next
    c.in_ok-never.ensures
    (subst (λ (y : List Term). Makes a b ((32 + 1) * length entry.registers.items) (4 * length entry.registers.items) 1 words
    (TellsAmong a b k.registers next.first (places entry.registers.items) (places y) (length entry.registers.items) never words)) c.deref-2.ensures.value
    (subst (λ (z : List Term). Makes a b ((32 + 1) * length z) (4 * length z) 1 words
    (TellsAmong a b k.registers next.first (places z) (places c.deref-2.result.now) (length z) never words)) c.deref.ensures.value c.in_ok-words.ensures))
    (subst (λ (y : List Term). Makes b d ((1 + 1) * length entry.flags.items) (4 * length entry.flags.items) 1 all
    (TellsAmong b d k.flags 0 (places entry.flags.items) (places y) (length entry.flags.items) words all)) c.deref-4.ensures.value
    (subst (λ (z : List Term). Makes b d ((1 + 1) * length z) (4 * length z) 1 all
    (TellsAmong b d k.flags 0 (places z) (places c.deref-4.result.now) (length z) words all)) c.deref-3.ensures.value
    (subst (λ (set : ℕ). Makes b d ((1 + 1) * length c.deref-3.result.now) (4 * length c.deref-3.result.now) 1 all
    (TellsAmong b d set 0 (places c.deref-3.result.now) (places c.deref-4.result.now) (length c.deref-3.result.now) words all)) c.from.ensures
    c.in_ok-all.ensures)))
