use Rattle.std.proofs.Common.{refl, sym, subst}
use Rattle.model_text.specs.declared.place.Place.{Place}
use Rattle.model_text.specs.Tokens.{token_of}
use Rattle.model_text.specs.Drafts.{IsDraft}
use Rattle.model_text.specs.Traces.{drafted}
use Rattle.model_text.proofs.DraftSteps.{sort_draft, constant_draft}
use Rattle.model_text.proofs.draft.Draft.take.Goals as goal

pub returns-in-Sort : goal.returns-in-Sort
returns-in-Sort c = λ tr h. subst (λ (p : Place). IsDraft (record c.args.self.now { sort_left = c.matched-self.result }) (drafted p (token_of c.args.token)
    tr)) (sym c.in-Sort.is)
    (sort_draft c.args.self.now (record c.args.self.now { sort_left = c.matched-self.result }) tr (token_of c.args.token) h refl c.matched-self.ensures)

pub returns-in-ConstSort : goal.returns-in-ConstSort
returns-in-ConstSort c = λ tr h. subst (λ (p : Place). IsDraft (record c.args.self.now { constant_left = c.matched-self-in-ConstSort.result }) (drafted p
    (token_of c.args.token) tr))
    (sym c.in-ConstSort.is) (constant_draft c.args.self.now (record c.args.self.now { constant_left = c.matched-self-in-ConstSort.result }) tr (token_of
    c.args.token) h refl
    c.matched-self-in-ConstSort.ensures)
