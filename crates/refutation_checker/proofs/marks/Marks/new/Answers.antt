use Rattle.std.proofs.Common.{sym, ◌∙◌, ap, refl, ◌≡◌, arith, ◌<◌, ◌≤◌, ◌+◌, ◌++◌, length, false, vec_len, ℕ, List}
use Rattle.std.specs.List.{Contains}
use Rattle.clause_spec.specs.Clauses.{Clause}
use Rattle.std.proofs.lemmas.List.{take_all}
use Rattle.clause_spec.specs.Refutation.{at_start, Present}
use Rattle.cnf_form.specs.Views.{lines_of}
use Rattle.refutation_checker.specs.Entries.{look_up}
use Rattle.refutation_checker.specs.Occurrences.{variables_in, variables_added}
use Rattle.refutation_checker.specs.Slots.{place_of}
use Rattle.refutation_checker.proofs.Pushes.{pushed-rising, pushed-highest, looks, known}
use Rattle.refutation_checker.proofs.Hints.{fun_ext}
use Rattle.refutation_checker.proofs.Starts.{more, unset-up}
use Rattle.refutation_checker.proofs.Occurs.{start-within, start-ready}
use Rattle.refutation_checker.proofs.Taken.{length-lines}
use Rattle.refutation_checker.proofs.marks.Marks.new.Goals as goal

pub loop-i-preserved : goal.loop-i-preserved
loop-i-preserved c =
    let cs = c.args.cnf.now.clauses.items in
    let k = c.loop-i.i in
    let es = c.loop-i.entries.items in
    let inv = c.loop-i.invariant in
    let len : k < length cs = rw (← c.deref-clause-items.ensures.value) c.loop-i-test.true in
    let is = rw c.deref-clause-items.ensures.value at c.clause-item.is in
    let set = c.in-Ok.ensures.items in
    let low : k < k + 1 = omega arith in
    record {
      looks = λ i. looks es c.push.new.self.items _ k set refl inv.highest low i ∙ more cs k c.clause-item.result (look_up es i) i len is (inv.looks i);
      rising = pushed-rising es c.push.new.self.items _ k set refl inv.highest low inv.rising;
      highest = λ i. let h = pushed-highest es c.push.new.self.items _ k set refl inv.highest low i in omega arith;
      len = omega (arith, c.in-Ok.ensures.len, inv.len);
      room = omega (arith, c.push.ensures.capacity, inv.room);
    }

pub returns : goal.returns
returns c =
    let cs = c.args.cnf.now.clauses.items in
    let inv = c.loop-i.invariant in
    let past = rw c.deref-clause-items.ensures.value at c.loop-i-test.false in
    let all = take_all c.loop-i.i cs past in
    let here : (i : ℕ) → look_up c.loop-i.entries.items i ≡ at_start cs i = λ i. inv.looks i ∙ ap (λ (z : List Clause). at_start z i) all in
    let slots = c.in_ok-slots.ensures.items_if_clones_equal (λ y h. h) in
    let size = sym c.in_ok-slots.slots.ok.0 ∙ c.in_ok-slots.ensures.len in
    let names = c.in_ok-names.names.items in
    let fits : (x : ℕ) → x ≤ c.args.cnf.now.variables → Contains (variables_in cs ++ variables_added (lines_of c.args.log.now)) x →
    place_of names x < length c.in_ok-slots.slots.items
    = λ x le h. let w = c.in_ok-names.ensures.enough x le h in omega (arith, w, size) in
    let room = (rw c.in_ok-room.ensures.ok_part at c.checked_add.ensures).1 in
    let len : length cs ≡ vec_len c.args.cnf.now.clauses = rw c.deref-clause-items.ensures.value at c.deref-clause-items.ensures.len in
    let end = rw c.deref-clause-items.ensures.value at c.loop-i.auto.i-end in
    record {
      good = record {
        named = c.in_ok-names.ensures.rising;
        rising = inv.rising;
        highest = λ i. let h = inv.highest i in omega (arith, len, end, c.len-3.ensures);
        within = λ i d h. start-within c.args.cnf.now.variables (length c.in_ok-slots.slots.items) names cs (lines_of c.args.log.now) fits c.requires i d
            (sym (here i) ∙ h);
      };
      known = ap (λ n. known n (look_up c.loop-i.entries.items) false) (c.len-3.ensures ∙ sym len) ∙ ap
          (λ (p : Present). known (length cs) p false) (fun_ext (look_up c.loop-i.entries.items) (at_start cs) here);
      slots = rw slots (unset-up c.in_ok-names.size);
      ready = start-ready c.args.cnf.now.variables (length c.in_ok-slots.slots.items) names cs (lines_of c.args.log.now) fits;
      room = omega (arith, room, inv.len, inv.room, len, end, past, c.len.ensures, c.len-2.ensures, length-lines c.args.log.now, c.args.log.now.lines.ok.0);
    }
