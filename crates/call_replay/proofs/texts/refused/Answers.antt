use Rattle.std.proofs.Common.{◌≡◌, IfOk, sym, subst}
use Rattle.call_spec.specs.Calls.{plain_answer}
use Rattle.frame_texts_spec.specs.CallReplays.{call_told_answer}
use Rattle.frame_texts_spec.specs.CallTexts.{CallRefused}
use Rattle.call_text.specs.Blocks.{call_fault_of}
use Rattle.call_text.specs.declared.fault.CallFault.{CallFault}
use Rattle.call_replay.proofs.texts.refused.Goals as goal

pub returns-in-OfFramed : goal.returns-in-OfFramed
returns-in-OfFramed c w layout =
    subst (λ (k : CallFault). IfOk c.refused.result (λ r. plain_answer r.status r.text.items
    ≡ call_told_answer w layout (CallRefused c.args.refusal.line (call_fault_of k)))) (sym c.in-OfFramed.is) (c.refused.ensures w layout)

pub returns-in-Block : goal.returns-in-Block
returns-in-Block c w layout =
    subst (λ (k : CallFault). IfOk c.bad_block.result (λ r. plain_answer r.status r.text.items
    ≡ call_told_answer w layout (CallRefused c.args.refusal.line (call_fault_of k)))) (sym c.in-Block.is) (c.bad_block.ensures w layout)
