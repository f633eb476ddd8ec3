use Rattle.std.proofs.Common.{[], ◌∷◌, ◌++◌, List, ℕ, refl, sym, subst}
use Rattle.model_spec.specs.ModelText.{Gives}
use Rattle.model_text.specs.Drafts.{AreFindings}
use Rattle.model_text.specs.Symbols.{IsOtherName}
use Rattle.model_text.proofs.GivenWords.{other_new}
use Rattle.model_text.proofs.findings.Findings.take_other.Goals as goal

pub returns : goal.returns
returns c = λ layout count kept ds sort v o h.
    let same = c.in_ok-name.ensures.items_if_clones_equal (λ x y e. e) in
    let new = record c.args.self.now { others = c.push.new.self } in
    subst (λ (z : List ℕ). AreFindings layout count kept new (ds ++ Gives z sort v ∷ [])) same
    (other_new layout count kept ds sort v c.args.self.now new c.in_ok-name.name h (subst (IsOtherName layout count) (sym same) o) refl refl
    c.in_ok-push.ensures.items)
