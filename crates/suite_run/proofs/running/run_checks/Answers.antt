use Rattle.std.proofs.Common.{◌≡◌, ℕ, ◌+◌, ◌≤◌, Err, List, length, map, take, drop, refl, sym, ap, ap₂, subst, ◌∙◌, arith}
use Rattle.std.proofs.lemmas.List.{length-map, take_all}
use mir.Val.{bool_byte}
use Rattle.call_spec.specs.Outside.{Appends}
use Rattle.io_edges.specs.WriteFaults.{Stopped}
use Rattle.io_edges.proofs.Meeting.{front_of_stopped}
use Rattle.suite_file.specs.Suites.{Check}
use Rattle.suite_file.specs.Views.{check_view}
use Rattle.suite_report.specs.Reports.{one_if, worse}
use Rattle.suite_report.specs.RunTexts.{summary_by}
use Rattle.suite_run.proofs.SoFar.{SoFar, byte_is, byte_small, cut_behind, cut_in, one_more, risen_wider, so_far_more, split_at, split_here, stopped_of, whole_of}
use Rattle.suite_run.proofs.running.run_checks.Goals as goal

pub returns-in-Err-Write-clause-ran : goal.returns-in-Err-Write-clause-ran
returns-in-Err-Write-clause-ran g c =
    let inv = c.loop-check.invariant in
    let cs = c.args.checks.now in
    let i = c.loop-check.check-index in
    let one = c.check-item.result in
    cut_in (g.V.Verifier.is_answer c.args.verifier.now) (g.H.Shelf.holds c.args.shelf.now) (g.H.Shelf.faults c.args.shelf.now) c.args.run.strict c.args.run.json
    (g.K.Sink.written c.args.out.now) (g.H.Shelf.holds c.loop-check.shelf) (g.H.Shelf.faults c.loop-check.shelf)
    (g.H.Shelf.faults c.run_check.new.shelf) (map (λ x. check_view x.now) cs) (map (λ x. check_view x.now) (take i cs))
    (map (λ x. check_view x.now) (drop (i + 1) cs)) (check_view one.now) (g.K.Sink.written c.loop-check.out) (g.K.Sink.written c.run_check.new.out)
    (g.K.Sink.faults c.args.out.now) (g.K.Sink.faults c.loop-check.out) (g.K.Sink.faults c.run_check.new.out) c.loop-check.status c.loop-check.expected
    inv.keeps inv.never_falls c.run_check.ensures.never_falls inv.sink_never_falls inv.far (c.in-Err-Write.ensures.cut (ap Err c.in-Err-Write.field-0-is))
    (split_here (λ x. check_view x.now) cs i one c.loop-check-test.true (sym c.check-item.is))

pub returns-in-Err-Memory-clause-ran : goal.returns-in-Err-Memory-clause-ran
returns-in-Err-Memory-clause-ran g c =
    let inv = c.loop-check.invariant in
    let cs = c.args.checks.now in
    let i = c.loop-check.check-index in
    stopped_of (g.V.Verifier.is_answer c.args.verifier.now) (g.H.Shelf.holds c.args.shelf.now) (g.H.Shelf.faults c.args.shelf.now) c.args.run.strict c.args.run.json
    (g.K.Sink.written c.args.out.now) (g.H.Shelf.faults c.loop-check.shelf) (g.H.Shelf.faults c.run_check.new.shelf) (map (λ x. check_view x.now) cs)
    (map (λ x. check_view x.now) (take i cs)) (map (λ x. check_view x.now) (drop i cs)) (g.K.Sink.written c.loop-check.out)
    (g.K.Sink.written c.run_check.new.out) (g.K.Sink.faults c.args.out.now) (g.K.Sink.faults c.run_check.new.out) c.loop-check.status c.loop-check.expected
    c.run_check.ensures.never_falls inv.far (split_at (λ x. check_view x.now) cs i) (c.in-Err-Memory.ensures.memory (ap Err c.in-Err-Memory.field-0-is))

pub loop-check-preserved : goal.loop-check-preserved
loop-check-preserved g c =
    let inv = c.loop-check.invariant in
    let cs = c.args.checks.now in
    let i = c.loop-check.check-index in
    let one = c.check-item.result in
    let d = c.in-Ok.done in
    let answers = g.V.Verifier.is_answer c.args.verifier.now in
    let held = g.H.Shelf.holds c.args.shelf.now in
    let first = g.H.Shelf.faults c.args.shelf.now in
    let after = g.H.Shelf.faults c.run_check.new.shelf in
    let text = g.K.Sink.written c.args.out.now in
    let new = g.K.Sink.written c.run_check.new.out in
    let done = map (λ x. check_view x.now) (take (i + 1) cs) in
    let small = byte_small d.expected in
    let far = so_far_more answers held first c.args.run.strict c.args.run.json text (g.H.Shelf.holds c.loop-check.shelf) (g.H.Shelf.faults c.loop-check.shelf) after
    (map (λ x. check_view x.now) (take i cs)) done (check_view one.now) (g.K.Sink.written c.loop-check.out) new c.loop-check.status c.loop-check.expected d
    inv.keeps inv.never_falls c.run_check.ensures.never_falls inv.far c.in-Ok.ensures.done
    (one_more (λ x. check_view x.now) cs i one c.loop-check-test.true (sym c.check-item.is)) in
    record {
      keeps = λ n. c.run_check.ensures.keeps n ∙ inv.keeps n;
      never_falls = λ n. omega (arith, inv.never_falls n, c.run_check.ensures.never_falls n);
      sink_never_falls = omega arith;
      few = omega arith;
      far =
          subst (λ s. SoFar answers held first after c.args.run.strict c.args.run.json done text new s (c.loop-check.expected + bool_byte d.expected)) (sym c.worse-status.ensures)
          (subst (λ e. SoFar answers held first after c.args.run.strict c.args.run.json done text new (worse c.loop-check.status d.status) (c.loop-check.expected + e))
          (sym (byte_is d.expected)) far);
    }

pub returns-in_default-clause-ran : goal.returns-in_default-clause-ran
returns-in_default-clause-ran g c =
    let inv = c.loop-check.invariant in
    let cs = c.args.checks.now in
    let i = c.loop-check.check-index in
    stopped_of (g.V.Verifier.is_answer c.args.verifier.now) (g.H.Shelf.holds c.args.shelf.now) (g.H.Shelf.faults c.args.shelf.now) c.args.run.strict c.args.run.json
    (g.K.Sink.written c.args.out.now) (g.H.Shelf.faults c.loop-check.shelf) (g.H.Shelf.faults c.loop-check.shelf) (map (λ x. check_view x.now) cs)
    (map (λ x. check_view x.now) (take i cs)) (map (λ x. check_view x.now) (drop i cs)) (g.K.Sink.written c.loop-check.out)
    (g.K.Sink.written c.loop-check.out) (g.K.Sink.faults c.args.out.now) (g.K.Sink.faults c.loop-check.out) c.loop-check.status c.loop-check.expected
    (λ n. omega arith) inv.far (split_at (λ x. check_view x.now) cs i) refl

pub returns-in-Ok-write_all-clause-ran : goal.returns-in-Ok-write_all-clause-ran
returns-in-Ok-write_all-clause-ran g c =
    let inv = c.loop-check.invariant in
    let cs = c.args.checks.now in
    let answers = g.V.Verifier.is_answer c.args.verifier.now in
    let held = g.H.Shelf.holds c.args.shelf.now in
    let first = g.H.Shelf.faults c.args.shelf.now in
    let after = g.H.Shelf.faults c.loop-check.shelf in
    let text = g.K.Sink.written c.args.out.now in
    let mid = g.K.Sink.written c.loop-check.out in
    let new = g.K.Sink.written c.write_all.new.sink in
    let all : List Check = map (λ x. check_view x.now) cs in
    let far = subst (λ xs. SoFar answers held first after c.args.run.strict c.args.run.json (map (λ x. check_view x.now) xs) text mid c.loop-check.status c.loop-check.expected)
    (take_all c.loop-check.check-index cs c.loop-check-test.false) inv.far in
    let said : c.deref.result.now ≡ summary_by c.args.run.json (length all) c.loop-check.expected =
    c.deref.ensures.value ∙ c.in-Ok-summary_by.ensures ∙ ap (λ n. summary_by c.args.run.json n c.loop-check.expected) (sym (length-map cs (λ x. check_view x.now))) in
    whole_of answers held first c.args.run.strict c.args.run.json text after all mid new (g.K.Sink.faults c.args.out.now) (g.K.Sink.faults c.write_all.new.sink)
    c.loop-check.status c.loop-check.expected far (subst (λ t. Appends mid t new) said c.in-Ok-write_all.ensures.ok)

pub returns-clause-ran : goal.returns-clause-ran
returns-clause-ran g c =
    let inv = c.loop-check.invariant in
    let cs = c.args.checks.now in
    let answers = g.V.Verifier.is_answer c.args.verifier.now in
    let held = g.H.Shelf.holds c.args.shelf.now in
    let first = g.H.Shelf.faults c.args.shelf.now in
    let after = g.H.Shelf.faults c.loop-check.shelf in
    let text = g.K.Sink.written c.args.out.now in
    let mid = g.K.Sink.written c.loop-check.out in
    let new = g.K.Sink.written c.write_all.new.sink in
    let all : List Check = map (λ x. check_view x.now) cs in
    let far = subst (λ xs. SoFar answers held first after c.args.run.strict c.args.run.json (map (λ x. check_view x.now) xs) text mid c.loop-check.status c.loop-check.expected)
    (take_all c.loop-check.check-index cs c.loop-check-test.false) inv.far in
    let said : c.deref.result.now ≡ summary_by c.args.run.json (length all) c.loop-check.expected =
    c.deref.ensures.value ∙ c.in-Ok-summary_by.ensures ∙ ap (λ n. summary_by c.args.run.json n c.loop-check.expected) (sym (length-map cs (λ x. check_view x.now))) in
    let front = front_of_stopped mid (summary_by c.args.run.json (length all) c.loop-check.expected) new c.in-Err.field-0
    (subst (λ t. Stopped mid t new c.in-Err.field-0) said c.in-Err.ensures.by_fault) in
    cut_behind answers held first c.args.run.strict c.args.run.json text after all mid new (g.K.Sink.faults c.args.out.now) (g.K.Sink.faults c.write_all.new.sink)
    c.loop-check.status c.loop-check.expected front.0 far front.1 front.2
    (risen_wider (g.K.Sink.faults c.args.out.now) (g.K.Sink.faults c.loop-check.out) (g.K.Sink.faults c.write_all.new.sink) inv.sink_never_falls c.in-Err.ensures.risen)
