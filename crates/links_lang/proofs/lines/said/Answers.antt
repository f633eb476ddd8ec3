use Rattle.std.proofs.Common.{length, subst, sym, ◌∙◌}
use Rattle.pair_spec.specs.Links.{IsSaid, Nothing}
use Rattle.notes_lang.specs.Parsing.{layout_names}
use Rattle.links_lang.proofs.Told.{blank_view, none_left, not_three, some_tokens}
use Rattle.links_lang.proofs.lines.said.Goals as goal

pub returns-then-is_empty-clause-told : goal.returns-then-is_empty-clause-told
returns-then-is_empty-clause-told c =
    let a = c.args in (
      subst (λ ts. IsSaid (layout_names a.first) (layout_names a.second) a.line ts Nothing)
          (sym (blank_view a.tokens.now (none_left (length a.tokens.now) (sym c.if-is_empty.true ∙ c.is_empty.ensures)))) IsSaid.nothing,
      tt,
    )

pub returns-then-tokens-ne3-clause-told : goal.returns-then-tokens-ne3-clause-told
returns-then-tokens-ne3-clause-told c =
    let a = c.args in
    not_three a.tokens.now (some_tokens (length a.tokens.now) (sym c.if-is_empty.false ∙ c.is_empty.ensures)) c.if-tokens-ne3.true
