use Rattle.std.proofs.Common.{refl, sym, append-nil, ap, ◌||◌}
use Rattle.notes_lang.specs.Drafting.{place_list}
use Rattle.notes_value.specs.NoteViews.{note_line_of, assert_of, targets_of, fixed_of}
use Rattle.notes_lang.specs.Saying.{says_of}
use Rattle.notes_value.specs.NoteViews.{function_of}
use Rattle.notes_lang.proofs.Growing.{grows, contract_grows, same, more, no_place, one_more, unchanged, is_so}
use Rattle.notes_lang.proofs.Contracted.{all_kept}
use Rattle.notes_lang.proofs.drafts.Draft.add.Goals as goal

pub returns-in-Nothing : goal.returns-in-Nothing
returns-in-Nothing c says number new p =
    rw c.in-Nothing.is (grows says _ c.args.self.now _ c.args.line number p (sym (append-nil (place_list c.args.self.now.entry)))
    (same note_line_of c.args.self.now.required.items) (same note_line_of c.args.self.now.ensured.items) (same assert_of c.args.self.now.asserts.items)
    (same targets_of c.args.self.now.targets.items) (same fixed_of c.args.self.now.fixed.items) p.addresses
    (unchanged c.args.self.now.is_of_entry) (unchanged c.args.self.now.has_contract) (sym (append-nil c.args.self.now.invariants.items))
    (all_kept says _ c.args.self.now.contracts.items c.args.line number refl p.contracts))

pub returns-in_ok-push-in-Require : goal.returns-in_ok-push-in-Require
returns-in_ok-push-in-Require c says number new p =
    rw c.in-Require.is (grows says _ c.args.self.now _ c.args.line number p (sym (append-nil (place_list c.args.self.now.entry)))
    (more note_line_of c.args.self.now.required.items _ _ _ c.in_ok-push-in-Require.ensures.items refl) (same note_line_of c.args.self.now.ensured.items)
    (same assert_of c.args.self.now.asserts.items) (same targets_of c.args.self.now.targets.items) (same fixed_of c.args.self.now.fixed.items) p.addresses
    (unchanged c.args.self.now.is_of_entry) (unchanged c.args.self.now.has_contract) (sym (append-nil c.args.self.now.invariants.items))
    (all_kept says _ c.args.self.now.contracts.items c.args.line number refl p.contracts))

pub returns-in_ok-push-in-Ensure : goal.returns-in_ok-push-in-Ensure
returns-in_ok-push-in-Ensure c says number new p =
    rw c.in-Ensure.is (grows says _ c.args.self.now _ c.args.line number p (sym (append-nil (place_list c.args.self.now.entry)))
    (same note_line_of c.args.self.now.required.items) (more note_line_of c.args.self.now.ensured.items _ _ _ c.in_ok-push-in-Ensure.ensures.items refl)
    (same assert_of c.args.self.now.asserts.items) (same targets_of c.args.self.now.targets.items) (same fixed_of c.args.self.now.fixed.items) p.addresses
    (unchanged c.args.self.now.is_of_entry) (unchanged c.args.self.now.has_contract) (sym (append-nil c.args.self.now.invariants.items))
    (all_kept says _ c.args.self.now.contracts.items c.args.line number refl p.contracts))

pub returns-in_ok-push-in-Assert : goal.returns-in_ok-push-in-Assert
returns-in_ok-push-in-Assert c says number new p =
    rw c.in-Assert.is (grows says _ c.args.self.now _ c.args.line number p (sym (append-nil (place_list c.args.self.now.entry)))
    (same note_line_of c.args.self.now.required.items) (same note_line_of c.args.self.now.ensured.items)
    (more assert_of c.args.self.now.asserts.items _ _ _ c.in_ok-push-in-Assert.ensures.items refl) (same targets_of c.args.self.now.targets.items)
    (same fixed_of c.args.self.now.fixed.items) p.addresses
    (ap (λ b. c.args.self.now.is_of_entry || b) c.has_old.ensures) (unchanged c.args.self.now.has_contract) (sym (append-nil c.args.self.now.invariants.items))
    (all_kept says _ c.args.self.now.contracts.items c.args.line number refl p.contracts))

pub returns-in_ok-insert-in-Targets : goal.returns-in_ok-insert-in-Targets
returns-in_ok-insert-in-Targets c says number new p =
    rw c.in-Targets.is (grows says _ c.args.self.now _ c.args.line number p (sym (append-nil (place_list c.args.self.now.entry)))
    (same note_line_of c.args.self.now.required.items) (same note_line_of c.args.self.now.ensured.items) (same assert_of c.args.self.now.asserts.items)
    (more targets_of c.args.self.now.targets.items _ _ _ c.in_ok-push-in-Targets.ensures.items refl) (same fixed_of c.args.self.now.fixed.items)
    (one_more c.args.self.now.addresses _ c.args.self.now.targets.items _ _ c.in-Targets.at refl c.in_ok-push-in-Targets.ensures.items
    c.in_ok-insert-in-Targets.ensures.updates.0 p.addresses)
    (unchanged c.args.self.now.is_of_entry) (unchanged c.args.self.now.has_contract) (sym (append-nil c.args.self.now.invariants.items))
    (all_kept says _ c.args.self.now.contracts.items c.args.line number refl p.contracts))

pub returns-in_ok-push-in-Fixed : goal.returns-in_ok-push-in-Fixed
returns-in_ok-push-in-Fixed c says number new p =
    rw c.in-Fixed.is (grows says _ c.args.self.now _ c.args.line number p (sym (append-nil (place_list c.args.self.now.entry)))
    (same note_line_of c.args.self.now.required.items) (same note_line_of c.args.self.now.ensured.items) (same assert_of c.args.self.now.asserts.items)
    (same targets_of c.args.self.now.targets.items) (more fixed_of c.args.self.now.fixed.items _ _ _ c.in_ok-push-in-Fixed.ensures.items refl) p.addresses
    (unchanged c.args.self.now.is_of_entry) (unchanged c.args.self.now.has_contract) (sym (append-nil c.args.self.now.invariants.items))
    (all_kept says _ c.args.self.now.contracts.items c.args.line number refl p.contracts))

pub returns-in-Entry : goal.returns-in-Entry
returns-in-Entry c says number new p =
    rw c.in-Entry.is (grows says _ c.args.self.now _ c.args.line number p
    (no_place says c.args.self.now.entry _ (function_of c.in-Entry.function) (ap says_of c.in-Entry.is) p.entry new)
    (same note_line_of c.args.self.now.required.items) (same note_line_of c.args.self.now.ensured.items) (same assert_of c.args.self.now.asserts.items)
    (same targets_of c.args.self.now.targets.items)
    (same fixed_of c.args.self.now.fixed.items) p.addresses
    (unchanged c.args.self.now.is_of_entry) (unchanged c.args.self.now.has_contract) (sym (append-nil c.args.self.now.invariants.items))
    (all_kept says _ c.args.self.now.contracts.items c.args.line number refl p.contracts))

pub returns-in-Version : goal.returns-in-Version
returns-in-Version c says number new p =
    rw c.in-Version.is (grows says _ c.args.self.now _ c.args.line number p (sym (append-nil (place_list c.args.self.now.entry)))
    (same note_line_of c.args.self.now.required.items) (same note_line_of c.args.self.now.ensured.items) (same assert_of c.args.self.now.asserts.items)
    (same targets_of c.args.self.now.targets.items) (same fixed_of c.args.self.now.fixed.items) p.addresses
    (unchanged c.args.self.now.is_of_entry) (unchanged c.args.self.now.has_contract) (sym (append-nil c.args.self.now.invariants.items))
    (all_kept says _ c.args.self.now.contracts.items c.args.line number refl p.contracts))

pub returns-in-Const : goal.returns-in-Const
returns-in-Const c says number new p =
    rw c.in-Const.is (grows says _ c.args.self.now _ c.args.line number p (sym (append-nil (place_list c.args.self.now.entry)))
    (same note_line_of c.args.self.now.required.items) (same note_line_of c.args.self.now.ensured.items) (same assert_of c.args.self.now.asserts.items)
    (same targets_of c.args.self.now.targets.items) (same fixed_of c.args.self.now.fixed.items) p.addresses
    (unchanged c.args.self.now.is_of_entry) (unchanged c.args.self.now.has_contract) (sym (append-nil c.args.self.now.invariants.items))
    (all_kept says _ c.args.self.now.contracts.items c.args.line number refl p.contracts))

pub returns-in_ok-push-in-Loaded : goal.returns-in_ok-push-in-Loaded
returns-in_ok-push-in-Loaded c says number new p =
    rw c.in-Loaded.is (grows says _ c.args.self.now _ c.args.line number p (sym (append-nil (place_list c.args.self.now.entry)))
    (same note_line_of c.args.self.now.required.items) (same note_line_of c.args.self.now.ensured.items) (same assert_of c.args.self.now.asserts.items)
    (same targets_of c.args.self.now.targets.items) (more fixed_of c.args.self.now.fixed.items _ _ _ c.in_ok-push-in-Loaded.ensures.items refl) p.addresses
    (unchanged c.args.self.now.is_of_entry) (unchanged c.args.self.now.has_contract) (sym (append-nil c.args.self.now.invariants.items))
    (all_kept says _ c.args.self.now.contracts.items c.args.line number refl p.contracts))

pub returns-in_ok-push-in-Invariant-2 : goal.returns-in_ok-push-in-Invariant-2
returns-in_ok-push-in-Invariant-2 c says number new p =
    rw c.in-Invariant.is (grows says _ c.args.self.now _ c.args.line number p (sym (append-nil (place_list c.args.self.now.entry)))
    (same note_line_of c.args.self.now.required.items) (same note_line_of c.args.self.now.ensured.items)
    (more assert_of c.args.self.now.asserts.items _ _ _ c.in_ok-push-in-Invariant-2.ensures.items refl) (same targets_of c.args.self.now.targets.items)
    (same fixed_of c.args.self.now.fixed.items) p.addresses
    (is_so c.args.self.now.is_of_entry) (unchanged c.args.self.now.has_contract) c.in_ok-push-in-Invariant.ensures.items
    (all_kept says _ c.args.self.now.contracts.items c.args.line number refl p.contracts))

pub returns-in_ok-join-in-Contract : goal.returns-in_ok-join-in-Contract
returns-in_ok-join-in-Contract c says number new p =
    rw c.in-Contract.is (contract_grows says c.in-Contract.at c.in-Contract.told c.args.self.now _ c.args.line number p refl
    (c.in_ok-join-in-Contract.ensures says number p.contracts))
