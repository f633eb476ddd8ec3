use Rattle.std.proofs.Common.{◌≡◌, Bool, true, false, sym, ap, ◌∙◌, refl}
use Rattle.model_text.proofs.DraftSteps.{byte_draft}
use Rattle.model_text.proofs.draft.Draft.take_byte.Goals.{then-self, else-self, then-is_memory, else-is_memory, then-fits, else-fits}
use Rattle.model_text.proofs.draft.Draft.take_byte.Goals as goal

pub returns-in_ok-push : goal.returns-in_ok-push
returns-in_ok-push c = λ tr h. elim c.if-fits.branch [
  | then-fits w ↦ elim c.if-is_memory.branch [
    | then-is_memory v ↦ elim c.if-self.branch [
      | then-self u ↦ byte_draft c.args.self.now
          (record c.args.self.now { good = c.if-fits.self; stored = record { fill = c.args.self.now.stored.fill; stores = c.push.new.self } }) tr h
          u.if-self.true
          (sym u.is_memory.ensures ∙ sym u.value-is ∙ v.if-is_memory.true) (sym (v.fits.ensures.capped tr.index h.index) ∙ sym v.value-is ∙ w.if-fits.true)
          (sym (w.fits-self.ensures.capped tr.bits h.bits) ∙ sym w.self-is ∙ c.if-self-2.true)
          (ap (λ (b : Bool). record c.args.self.now { good = b; stored = record { fill = c.args.self.now.stored.fill; stores = c.push.new.self } })
          c.if-self-2.true)
          refl c.in_ok-push.ensures.items
      | else-self u ↦ absurd (let x : false ≡ true = sym u.if-self.false ∙ sym u.value-is ∙ v.if-is_memory.true in cc)
    ]
    | else-is_memory v ↦ absurd (let x : false ≡ true = sym v.if-is_memory.false ∙ sym v.value-is ∙ w.if-fits.true in cc)
  ]
  | else-fits w ↦ absurd (let x : false ≡ true = sym w.if-fits.false ∙ sym w.self-is ∙ c.if-self-2.true in cc)
]
