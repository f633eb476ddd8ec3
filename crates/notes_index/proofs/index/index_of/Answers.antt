use Rattle.std.proofs.Common.{List, length, sym, subst}
use Rattle.std.proofs.lemmas.List.{length-map}
use Rattle.notes_value.specs.declared.notes.Assert.{Assert}
use Rattle.notes_value.specs.declared.notes.Targets.{Targets}
use Rattle.notes_index.specs.Indexed.{assert_places, targets_places, IsNumbered}
use Rattle.notes_index.proofs.Indexes.{index_is}
use Rattle.notes_index.proofs.index.index_of.Goals as goal

pub returns : goal.returns
returns c =
    let asserts = c.args.notes.now.asserts.items in
    let targets = c.args.notes.now.targets.items in
    record {
      asserts =
          index_is (assert_places asserts) c.in_ok-numbered_asserts.field-0.items c.in_ok-asserts.asserts.items (length asserts)
          (sym (length-map asserts (λ (a : Assert). a.at)))
          (subst (λ (xs : List Assert). IsNumbered (assert_places xs) c.in_ok-numbered_asserts.field-0.items
          (length xs)) c.deref.ensures.value c.in_ok-numbered_asserts.ensures)
          c.in_ok-asserts.ensures.moved c.in_ok-asserts.ensures.rising c.in_ok-asserts.ensures.stable;
      targets =
          index_is (targets_places targets) c.in_ok-numbered_targets.field-0.items c.in_ok-targets.targets.items (length targets)
          (sym (length-map targets (λ (t : Targets). t.at)))
          (subst (λ (xs : List Targets). IsNumbered (targets_places xs) c.in_ok-numbered_targets.field-0.items
          (length xs)) c.deref-2.ensures.value c.in_ok-numbered_targets.ensures)
          c.in_ok-targets.ensures.moved c.in_ok-targets.ensures.rising c.in_ok-targets.ensures.stable;
    }
