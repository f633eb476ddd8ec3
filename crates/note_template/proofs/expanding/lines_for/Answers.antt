use Rattle.std.proofs.Common.{◌<◌, ◌++◌, ap, sym, ◌∙◌, length, arith}
use Rattle.note_template.specs.Templates.{behind}
use Rattle.note_template.specs.TemplateLines.{lines_for, parts}
use Rattle.note_template.specs.Views.{machine_of}
use Rattle.note_template.specs.Forms.{fault_of}
use Rattle.note_template.proofs.LineLaws.{line_pushed, line_refused}
use Rattle.note_template.proofs.Parting.{first_known}
use Rattle.note_template.proofs.expanding.lines_for.Goals as goal

pub returns-in-Err-clause-refused : goal.returns-in-Err-clause-refused
returns-in-Err-clause-refused c =
    let m = machine_of c.args.machine in
    let known = first_known 10 c.lines.left.now c.first_part.result.0.now c.first_part.result.1 c.first_part.ensures.last c.first_part.ensures.more in
    c.refused.ensures (lines_for m c.args.symbols.now c.args.stack.now 1 (parts 10 c.args.template.now))
    (c.lines.invariant.said ∙ ap (λ ps. behind c.lines.out.items (lines_for m c.args.symbols.now c.args.stack.now c.lines.number ps)) known.1
    ∙ line_refused m c.args.symbols.now c.args.stack.now c.lines.number c.first_part.result.0.now known.0 (fault_of c.in-Err.fault)
    (sym (rw c.in-Err.is at c.in_ok-fault.ensures)) c.lines.out.items)

pub lines-preserved : goal.lines-preserved
lines-preserved c =
    let m = machine_of c.args.machine in
    let less = rw c.in-Some.is at c.first_part.ensures.shorter in
    record {
      said = c.lines.invariant.said
          ∙ ap (λ ps. behind c.lines.out.items (lines_for m c.args.symbols.now c.args.stack.now c.lines.number ps)) (rw c.in-Some.is at c.first_part.ensures.more)
          ∙ line_pushed m c.args.symbols.now c.args.stack.now c.lines.number c.first_part.result.0.now c.in-Some.next.now c.in-Ok.text.items c.lines.out.items
          c.push_text.new.out.items c.push.new.self.items (sym (rw c.in-Ok.is at c.in_ok-fault.ensures))
          (c.in_ok-push_text-in-Ok.ensures ∙ ap (λ t. c.lines.out.items ++ t) c.deref.ensures.value) c.in_ok-push.ensures.items;
      few = (let shorter : length c.in-Some.next.now < length c.lines.left.now = less in omega (arith, c.lines.invariant.few));
    }
