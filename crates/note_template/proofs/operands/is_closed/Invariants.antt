use Rattle.std.proofs.Common.{◌≡◌, ◌≤◌, drop}
use Rattle.note_template.specs.TemplateLines.{is_closed}
use Rattle.note_template.specs.Forms.{tokens_view}
use Rattle.note_template.proofs.operands.is_closed.Given as goal

abbrev pub invariant-loop-token : goal.invariant-loop-token
invariant-loop-token l = record {
  said : is_closed 0 (tokens_view l.tokens) ≡ is_closed l.depth (tokens_view (drop l.token-index l.tokens));
  within : l.depth ≤ l.token-index;
}
