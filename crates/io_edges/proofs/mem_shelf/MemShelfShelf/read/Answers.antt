use Rattle.std.proofs.Common.{◌≡◌, arith, ap, ◌∙◌, subst}
use Rattle.call_spec.specs.Outside.{Absent}
use Rattle.io_edges.specs.Counts.{count_begun, one_more}
use Rattle.io_edges.specs.Files.{held_by}
use Rattle.io_edges.specs.Places.{IsPlace}
use Rattle.io_edges.proofs.FileCounts.{begins_here, raises_here, raises_absent}
use Rattle.io_edges.proofs.mem_shelf.MemShelfShelf.read.Goals as goal

pub returns-in_default-clause-raises : goal.returns-in_default-clause-raises
returns-in_default-clause-raises c =
    let s = c.args.self.now in
    let none = subst (λ fs. held_by fs c.args.name.now ≡ Absent) c.deref-2.ensures.value c.in_default.ensures in
    raises_absent s.files.items s.counts.items s.absent c.raised-self-in_default.result c.args.name.now none (omega arith) c.raised-self-in_default.ensures

pub returns-then-fails-clause-raises : goal.returns-then-fails-clause-raises
returns-then-fails-clause-raises c =
    let s = c.args.self.now in
    let place = subst (λ fs. IsPlace fs c.args.name.now c.in-Some.place) c.deref-2.ensures.value c.in-Some.ensures.1 in
    let more = c.raised.ensures ∙ ap one_more c.index-then-fails.ensures in
    raises_here s.files.items s.counts.items s.absent c.args.name.now c.in-Some.place c.index-then-fails.result.now c.raised.result place (omega arith) more

pub returns-then-fails-clause-begins : goal.returns-then-fails-clause-begins
returns-then-fails-clause-begins c =
    let s = c.args.self.now in
    let place = subst (λ fs. IsPlace fs c.args.name.now c.in-Some.place) c.deref-2.ensures.value c.in-Some.ensures.1 in
    let more = c.begun_after.ensures ∙ ap (count_begun c.args.at) c.index.ensures in
    begins_here s.files.items s.begun.items c.args.name.now c.in-Some.place c.index.result.now c.begun_after.result c.args.at place (omega arith) more

pub returns-clause-begins : goal.returns-clause-begins
returns-clause-begins c =
    let s = c.args.self.now in
    let place = subst (λ fs. IsPlace fs c.args.name.now c.in-Some.place) c.deref-2.ensures.value c.in-Some.ensures.1 in
    let more = c.begun_after.ensures ∙ ap (count_begun c.args.at) c.index.ensures in
    begins_here s.files.items s.begun.items c.args.name.now c.in-Some.place c.index.result.now c.begun_after.result c.args.at place (omega arith) more
