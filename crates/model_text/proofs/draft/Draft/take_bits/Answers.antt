use Rattle.std.proofs.Common.{Bool, sym, subst, ◌∙◌, refl}
use Rattle.model_text.specs.declared.bits.Bits.{Bits as BitsRead}
use Rattle.model_text.specs.Bits.{bits_traced}
use Rattle.model_text.specs.Tokens.{token_of}
use Rattle.model_text.specs.Drafts.{IsDraft}
use Rattle.model_text.specs.Traces.{role_if}
use Rattle.model_text.proofs.DraftSteps.{bits_draft}
use Rattle.model_text.proofs.draft.Draft.take_bits.Goals as goal

pub returns : goal.returns
returns c = λ tr h.
    let more : BitsRead = bits_traced c.args.at (token_of c.args.token) tr.bits in
    let here = bits_draft c.args.self.now (record c.args.self.now { bits = c.behind-self.result }) tr more h refl (c.behind-self.ensures tr.bits h.bits) in
    subst (λ (b : Bool). IsDraft c.take_role.new.self (role_if b c.args.role (record tr { bits = more }))) (sym c.if-not-is_last.false ∙ c.is_last.ensures)
    (c.in_ok-take_role.ensures (record tr { bits = more }) here)
