use Rattle.std.proofs.Common.{◌∙◌, List, ℕ, ap, subst, sym}
use Rattle.bilv_spec.specs.ElfFaults.{IsImage}
use Rattle.call_spec.specs.Calls as calls
use Rattle.elf32_reader.specs.Refusals.{IsRefused}
use Rattle.suite_top.proofs.Refused.{refused_file}
use Rattle.suite_top.proofs.single.ExpanderVerifier.verify.Goals as goal

pub expanded-requires : goal.expanded-requires
expanded-requires c =
    subst (λ (f : List ℕ). IsImage f) (c.deref.ensures.value ∙ sym c.deref-in-Ok.ensures.value) c.in-Ok.ensures.accepted

pub returns : goal.returns
returns c =
    let is = c.in_ok-answer-in-Err.ensures in
    let a = c.plain.result in
    refused_file c.args.file.items c.args.notes.items c.in-Err.fault a.status a.report.items a.warnings.items is.0
    (c.plain.ensures.status ∙ ap (λ (b : calls.Answer). b.status) is.1) (c.plain.ensures.report ∙ ap (λ (b : calls.Answer). b.text) is.1) c.plain.ensures.none
    (subst (λ (f : List ℕ). IsRefused f c.in-Err.fault) c.deref.ensures.value c.in-Err.ensures.refused)
