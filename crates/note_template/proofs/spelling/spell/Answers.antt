use Rattle.std.proofs.Common.{false, ◌≡◌, ◌≤◌, ◌+◌, ◌-◌, ℕ, List, ap, sym, ◌∙◌, take, drop, length, arith}
use Rattle.std.proofs.lemmas.List.{take_all, length-drop}
use Rattle.note_template.specs.Templates.{behind, spelled}
use Rattle.note_template.proofs.SpellingLaws.{next_pushed}
use Rattle.note_template.proofs.spelling.spell.Goals as goal

-- what is left of a text from a place on
same : (at : ℕ) (text : List ℕ) → take (length text - at) (drop at text) ≡ drop at text
same at text = take_all (length text - at) (drop at text) (omega (arith, length-drop at text))

pub returns-in-Err : goal.returns-in-Err
returns-in-Err c =
    let at : ℕ = c.loop-at.at in
    let text : List ℕ = c.args.text.now in
    sym (c.loop-at.invariant.said
    ∙ ap (λ l. behind c.loop-at.out.items (spelled c.args.symbols.now c.loop-at.joined 0 (at + 1) l)) (sym (same at text))
    ∙ ap (behind c.loop-at.out.items) (rw c.in-Err.is at (c.in_ok-refusal.ensures.refused (at + 1))))

pub loop-at-preserved : goal.loop-at-preserved
loop-at-preserved c =
    let at : ℕ = c.loop-at.at in
    let text : List ℕ = c.args.text.now in
    let left : List ℕ = take (length text - at) (drop at text) in
    let long : length left ≡ length text - at = ap length (same at text) ∙ length-drop at text in
    let room = rw c.in-Ok.is at c.in_ok-refusal.ensures.within in
    record {
      said = next_pushed c.args.symbols.now c.loop-at.out.items c.push_next.new.out.items c.loop-at.joined at c.in-Ok.count text left
          (spelled c.args.symbols.now false 0 1 text) c.loop-at-test.true (same at text) c.loop-at.invariant.said
          (rw c.in-Ok.is at (c.in_ok-refusal.ensures.pushed (at + 1)))
          ∙ ap (λ j. behind c.push_next.new.out.items (spelled c.args.symbols.now j 0 (at + c.in-Ok.count + 1) (drop (at + c.in-Ok.count) text)))
          (sym c.is_joining-joined.ensures);
      within = (let fits : c.in-Ok.count ≤ length left = room.1 in omega (arith, c.loop-at-test.true));
    }
