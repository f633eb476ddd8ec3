use Rattle.std.proofs.Common.{List, ℕ, ap, sym, ◌∙◌, ◌++◌, codes}
use Rattle.word_spec.specs.Texts.{joined, number_text}
use Rattle.machine_spec.specs.Endings.{place_words}
use Rattle.frame_texts_spec.specs.CallTexts.{call_ending_words, name_word}
use Rattle.state_text.proofs.Appends.{five}
use Rattle.call_text.specs.Texts.{called_ending_of, frame_name_of}
use Rattle.call_text.specs.declared.text.CalledEnding.{CalledEnding}
use Rattle.call_text.proofs.Pieces.{named_then}
use Rattle.call_text.proofs.printer.push_called_ending.Goals as goal

pub returns-in_ok-push_step-in-UnprovedTurns : goal.returns-in_ok-push_step-in-UnprovedTurns
returns-in_ok-push_step-in-UnprovedTurns c =
    let name : List ℕ = name_word (frame_name_of c.in-UnprovedTurns.frame) in
    let number : List ℕ = number_text c.in-UnprovedTurns.k in
    let place : List ℕ = joined (place_words c.in-UnprovedTurns.at c.in-UnprovedTurns.step) in
    five c.args.out.now.items c.push_frame-in-UnprovedTurns.new.out.items c.push_text.new.out.items c.push_number.new.out.items
    c.push_text-in-UnprovedTurns.new.out.items c.push_step.new.out.items
    (codes "unproved " ++ (name ++ codes " ")) (codes "unroll ") number (codes " ") place
    c.in_ok-push_frame-in-UnprovedTurns.ensures c.in_ok-push_text-in-UnprovedTurns.ensures c.in_ok-push_number-in-UnprovedTurns.ensures
    c.in_ok-push_text-in-UnprovedTurns-2.ensures c.in_ok-push_step-in-UnprovedTurns.ensures
    ∙ ap (λ l. c.args.out.now.items ++ l) (named_then name (codes "unroll " ++ (number ++ (codes " " ++ place))))
    ∙ ap (λ (n : CalledEnding). c.args.out.now.items ++ joined (call_ending_words (called_ending_of n))) (sym c.in-UnprovedTurns.is)
