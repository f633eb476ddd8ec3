use Rattle.std.proofs.Common.{◌+◌, ◌∷◌, ◌++◌, [], codes, ◌∙◌, ap}
use Rattle.word_spec.specs.Texts.{spaced, number_text, word_text}
use Rattle.work_gen.proofs.Appends.{nine_texts, front_is}
use Rattle.work_gen.proofs.made.front.Goals as goal

pub returns : goal.returns
returns c =
    nine_texts c.push_text.new.out.items c.push_number.new.out.items c.push_text-2.new.out.items c.push_number-2.new.out.items c.push_text-3.new.out.items
    c.push_number-3.new.out.items
    c.push_text-4.new.out.items c.push_word.new.out.items c.push_text-5.new.out.items
    (codes "selfrun ") (number_text c.args.seed) (codes " ") (number_text c.args.count) (codes " words ") (number_text (c.args.count + 1)) (codes " a0 ")
    (word_text c.args.left) (codes " ")
    (c.in_ok-push_text.ensures ∙ ap (λ z. z ++ codes "selfrun ") c.new-text.ensures.items) c.in_ok-push_number.ensures c.in_ok-push_text-2.ensures
    c.in_ok-push_number-2.ensures c.in_ok-push_text-3.ensures
    c.in_ok-push_number-3.ensures c.in_ok-push_text-4.ensures c.in_ok-push_word.ensures c.in_ok-push_text-5.ensures
    ∙ front_is (number_text c.args.seed) (number_text c.args.count) (number_text (c.args.count + 1)) (word_text c.args.left)
    ∙ ap (λ r. codes "selfrun" ++ spaced (number_text c.args.seed ∷ number_text c.args.count ∷ codes "words" ∷ number_text (c.args.count + 1) ∷ codes "a0"
    ∷ word_text r ∷ []) ++ 32 ∷ [])
    c.requires.left
