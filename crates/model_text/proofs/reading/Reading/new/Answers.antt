use Rattle.std.proofs.Common.{ℕ, ◌+◌, List, [], None, length, sym, ap, ◌∙◌, subst, arith}
use denote.Ref.{Bor}
use Rattle.std.proofs.lemmas.List.{length-map}
use Rattle.start_value.specs.Starts.{layout_of}
use Rattle.model_text.specs.Symbols.{count_of}
use Rattle.model_text.specs.Drafts.{AreApart, AreFindings}
use Rattle.model_text.proofs.SymbolNames.{own_names, names_apart}
use Rattle.model_text.proofs.Keeping.{start_keeps}
use Rattle.model_text.proofs.reading.Reading.new.Goals as goal

pub returns-clause-keeps : goal.returns-clause-keeps
returns-clause-keeps c =
    let layout = layout_of c.args.layout in
    let apart = names_apart layout c.args.drawn.now (own_names c.args.layout) (omega arith) in
    start_keeps layout (count_of layout c.args.drawn.now) c.in_ok-findings.findings c.new-2.result c.new-2.ensures
    (subst (λ (n : ℕ). AreApart layout n → AreFindings layout n None c.in_ok-findings.findings [])
    (ap (λ (n : ℕ). n + length c.args.drawn.now) (sym (length-map c.names.result.now (λ (n : Bor (List ℕ)). n.now)) ∙ ap length c.names.ensures)) (λ a.
    c.in_ok-findings.ensures layout None a) apart)
