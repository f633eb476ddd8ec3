use Rattle.std.proofs.Common.{◌∷◌, ◌++◌, [], codes, ◌∙◌, ap}
use Rattle.word_spec.specs.Texts.{lines, spaced, number_text, word_text}
use Rattle.work_gen.proofs.Appends.{seven_texts, notes_are}
use Rattle.work_gen.proofs.made.notes.Goals as goal

pub returns : goal.returns
returns c =
    seven_texts c.push_text.new.out.items c.push_number.new.out.items c.push_text-2.new.out.items c.push_number-2.new.out.items c.push_text-3.new.out.items
    c.push_word.new.out.items
    c.push_text-4.new.out.items (codes "entry 0x10000" ++ 10 ∷ codes "require a0 = ") (number_text c.args.seed) (10
    ∷ codes "require a1 = ") (number_text c.args.count) (10 ∷ codes "ensure a0 = ")
    (word_text c.args.left) (10 ∷ []) (c.in_ok-push_text.ensures ∙ ap
    (λ z. z ++ (codes "entry 0x10000" ++ 10 ∷ codes "require a0 = ")) c.new-text.ensures.items)
    c.in_ok-push_number.ensures c.in_ok-push_text-2.ensures c.in_ok-push_number-2.ensures c.in_ok-push_text-3.ensures
    c.in_ok-push_word.ensures c.in_ok-push_text-4.ensures
    ∙ notes_are (number_text c.args.seed) (number_text c.args.count) (word_text c.args.left)
    ∙ ap (λ r. lines (codes "entry 0x10000" ∷ (codes "require a0 =" ++ spaced (number_text c.args.seed ∷ []))
    ∷ (codes "require a1 =" ++ spaced (number_text c.args.count ∷ []))
    ∷ (codes "ensure a0 =" ++ spaced (word_text r ∷ [])) ∷ [])) c.requires
