use Rattle.std.proofs.Common.{◌≡◌, Bool, refl, ap, ◌∙◌}
use Rattle.std.specs.Prelude.{is_some}
use Rattle.std.specs.Option.{option_map}
use Rattle.start_value.specs.Starts.{layout_of}
use Rattle.model_text.specs.Faults.{fault_of}
use Rattle.model_text.specs.Symbols.{symbol_in, count_of}
use Rattle.model_text.specs.Tokens.{placed_of, token_of}
use Rattle.model_text.specs.Places.{next_place}
use Rattle.model_text.specs.Traces.{begun_at}
use Rattle.model_text.proofs.Keeping.{taken_keeps}
use Rattle.model_text.proofs.reading.Reading.take.Goals as goal

pub returns-clause-keeps : goal.returns-clause-keeps
returns-clause-keeps c = λ s h.
    let layout = layout_of c.args.layout in
    let count = count_of layout c.args.drawn.now in
    taken_keeps layout count (symbol_in layout c.args.drawn.now c.args.others.now) c.args.self.now
    (record {
      place = c.in-Some.next;
      begun = c.begun_at-begun.result;
      kept = c.with_fault-self.result;
      draft = c.learn.new.draft;
      findings = c.learn.new.findings;
    }) s (placed_of c.args.placed) c.symbol_at-symbol.result c.in-Some.next (option_map fault_of c.fault-fault.result) h c.symbol_at-symbol.ensures.symbol
    c.symbol_at-symbol.ensures.named
    (let some : c.is_some.result ≡ is_some c.symbol_at-symbol.result = cc in
    c.in-Some.ensures.place ∙ ap (λ (b : Bool). next_place b c.args.self.now.place (token_of c.args.placed.token)) some) (λ k tr named good learnt.
    c.in_ok-learn.ensures layout count k tr named good learnt)
    (λ k tr learnt. c.fault-fault.ensures layout count k tr learnt) refl
    (c.begun_at-begun.ensures ∙ ap (λ (b : Bool). begun_at b c.args.placed.line c.args.self.now.begun) c.begins.ensures) c.with_fault-self.ensures
