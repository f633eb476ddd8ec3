use Rattle.std.proofs.Common.{refl}
use Rattle.notes_spec.specs.FrameNotes.{is_register, is_flag}
use Rattle.notes_value.specs.NoteViews.{note_line_of}
use Rattle.notes_value.specs.FrameViews.{writes_of}
use Rattle.notes_lang.proofs.Contracted.{joined, one_here, changes_here, then_none, or_none}
use Rattle.notes_lang.proofs.contracts.add.Goals as goal

pub returns-in_ok-push-in-Needs-clause-added : goal.returns-in_ok-push-in-Needs-clause-added
returns-in_ok-push-in-Needs-clause-added c says number p =
    rw c.in-Needs.is (joined says _ c.args.contract.now _ c.args.line number p refl (one_here note_line_of c.args.contract.now.needs.items _ _ _
    c.args.contract.now.at c.in_ok-push-in-Needs.ensures.items refl)
    (then_none _ _ refl) (then_none _ _ refl)
    (λ r below. or_none (is_register r) _ _ refl) (λ f below. or_none (is_flag f) _ _ refl))

pub returns-in_ok-push-in-Gives-clause-added : goal.returns-in_ok-push-in-Gives-clause-added
returns-in_ok-push-in-Gives-clause-added c says number p =
    rw c.in-Gives.is (joined says _ c.args.contract.now _ c.args.line number p refl (then_none _ _ refl)
    (one_here note_line_of c.args.contract.now.gives.items _ _ _ c.args.contract.now.at c.in_ok-push-in-Gives.ensures.items refl) (then_none _ _ refl)
    (λ r below. or_none (is_register r) _ _ refl) (λ f below. or_none (is_flag f) _ _ refl))

pub returns-in_ok-push-in-Writes-clause-added : goal.returns-in_ok-push-in-Writes-clause-added
returns-in_ok-push-in-Writes-clause-added c says number p =
    rw c.in-Writes.is (joined says _ c.args.contract.now _ c.args.line number p refl (then_none _ _ refl)
    (then_none _ _ refl) (one_here writes_of c.args.contract.now.writes.items _ _ _ c.args.contract.now.at c.in_ok-push-in-Writes.ensures.items refl)
    (λ r below. or_none (is_register r) _ _ refl) (λ f below. or_none (is_flag f) _ _ refl))

pub returns-in-Modifies-clause-added : goal.returns-in-Modifies-clause-added
returns-in-Modifies-clause-added c says number p =
    rw c.in-Modifies.is (joined says _ c.args.contract.now _ c.args.line number p refl (then_none _ _ refl) (then_none _ _ refl) (then_none _ _ refl)
    (λ r below. changes_here (is_register r) c.args.contract.now.at _ _ _ c.in-Modifies.changes.items c.deref.ensures.value
    (c.registers_with-contract.ensures r below))
    (λ f below. changes_here (is_flag f) c.args.contract.now.at _ _ _ c.in-Modifies.changes.items c.deref-in-Modifies.ensures.value
    (c.flags_with-contract.ensures f below)))
