use Rattle.std.proofs.Common.{ap, arith, subst, sym, ◌∙◌, All}
use Rattle.notes_spec.specs.NotesGrammar.{IsGood}
use Rattle.line_tokens.specs.Tokens.{token_of}
use Rattle.notes_lang.specs.Reading.{tokens_view}
use Rattle.notes_lang.proofs.Judged.{not_true}
use Rattle.links_lang.proofs.Least.{bad_token, is_judged}
use Rattle.links_lang.proofs.lines.judge.Goals as goal

pub returns-then-not-are_good-clause-judged : goal.returns-then-not-are_good-clause-judged
returns-then-not-are_good-clause-judged c =
    bad_token c.args.first c.args.second c.args.line c.args.text.now c.deref.result.now (ap tokens_view c.deref.ensures.value ∙ c.in_ok-tokens.ensures)
    (not_true _ _ c.are_good.ensures c.if-not-are_good.true)

pub returns-clause-judged : goal.returns-clause-judged
returns-clause-judged c =
    is_judged c.args.first c.args.second c.args.line c.args.text.now (omega (arith, c.if-line-gt256.false)) (omega (arith, c.if-text-gt1024.false))
    c.deref-2.result.now (ap tokens_view c.deref-2.ensures.value ∙ c.in_ok-tokens.ensures)
    (subst (All (λ t. IsGood (token_of t))) (c.deref.ensures.value ∙ sym c.deref-2.ensures.value) (c.are_good.ensures.0 c.if-not-are_good.false))
    c.said-said.result c.said-said.ensures.told
