use Rattle.std.proofs.Common.{◌≤◌, length, codes, subst, map, string_bytes}
use Rattle.word_spec.specs.Texts.{line}
use Rattle.call_spec.specs.Outside.{Agrees}
use Rattle.suite_file.specs.Views.{check_view}
use Rattle.suite_run.specs.Answers.{came, IsUnread}
use Rattle.suite_run.specs.Views.{came_of}
use Rattle.suite_run.proofs.Answered.{verified, without_notes}
use Rattle.suite_run.proofs.answering.answer_check.Goals as goal

pub returns-in-Unread-2-clause-answer : goal.returns-in-Unread-2-clause-answer
returns-in-Unread-2-clause-answer g c =
    let held = g.H.Shelf.holds c.args.shelf.now in
    let now = g.H.Shelf.holds c.read_file.new.shelf in
    let mid = g.H.Shelf.faults c.read_file.new.shelf in
    let last = g.H.Shelf.faults c.read_file-2.new.shelf in
    let file = c.in-Go.file.items in
    let a = came_of c.in-Unread-2.came in
    let read = subst (λ n. Agrees (held n) file × (length file ≤ 16777216)) c.as_str.ensures.value (rw c.in-Go.is at c.in_ok-file.ensures.read) in
    let missed = subst (λ n. IsUnread now mid last n 262144 (came 5 (line (codes "notes: TooLarge"))) a) c.as_str-2.ensures.value
    (rw c.in-Unread-2.is at c.in_ok-notes.ensures.read) in
    without_notes (g.V.Verifier.is_answer c.args.verifier.now) held now (g.H.Shelf.faults c.args.shelf.now) mid last c.read_file.ensures.keeps
    c.read_file.ensures.never_falls (check_view c.args.check.now) a file read.0 read.1 missed

pub returns-clause-answer : goal.returns-clause-answer
returns-clause-answer g c =
    let held = g.H.Shelf.holds c.args.shelf.now in
    let now = g.H.Shelf.holds c.read_file.new.shelf in
    let mid = g.H.Shelf.faults c.read_file.new.shelf in
    let last = g.H.Shelf.faults c.read_file-2.new.shelf in
    let file = c.in-Go.file.items in
    let notes = c.in-Go-2.notes.items in
    let a = came_of c.in_ok-came.came in
    let answers = g.V.Verifier.is_answer c.args.verifier.now in
    let read = subst (λ n. Agrees (held n) file × (length file ≤ 16777216)) c.as_str.ensures.value (rw c.in-Go.is at c.in_ok-file.ensures.read) in
    let told = subst (λ n. Agrees (now n) notes × (length notes ≤ 262144)) c.as_str-2.ensures.value (rw c.in-Go-2.is at c.in_ok-notes.ensures.read) in
    verified answers held now (g.H.Shelf.faults c.args.shelf.now) mid last c.read_file.ensures.keeps c.read_file.ensures.never_falls
    (check_view c.args.check.now) a file read.0 read.1 notes told.0 told.1
    (subst (λ os. answers (map string_bytes os) file notes a.status a.report a.warnings) c.deref.ensures.value c.in_ok-came.ensures)
