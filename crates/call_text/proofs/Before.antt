-- The lines before the blocks, as lines of their own.
use Rattle.std.proofs.Common.{◌≡◌, ℕ, refl, ap, sym, ◌∙◌, Bool, true, false, List, [], ◌∷◌, ◌++◌, Option, Some, None, codes}
use Rattle.word_spec.specs.Texts.{lines, split_lines}
use Rattle.machine_spec.specs.StateText.{Layout}
use Rattle.frame_texts_spec.specs.FrameTexts.{Checks, part_of, told_behind}
use Rattle.frame_texts_spec.specs.CallTexts.{body_from, body_of, call_of, some_framed, told_before}
use Rattle.frame_texts_spec.proofs.PartsBack.{AllNoFeed, NoFeed, feeds-append, lines_split}
use Rattle.frame_texts_spec.proofs.PartsBack as back
use Rattle.frame_text.proofs.Pieces.{lines_then}
use Rattle.call_text.specs.Lines.{ended}

-- the lines of a body are lines
body_no_feed : (ls : List (List ℕ)) → AllNoFeed ls → AllNoFeed (body_of ls).lines
body_no_feed [] feeds = tt
body_no_feed (l ∷ ls) feeds = by_call (call_of l) (body_no_feed ls feeds.1)
  where
    by_call : (o : Option (ℕ × ℕ)) → AllNoFeed (body_of ls).lines → AllNoFeed (body_from l o ls (body_of ls)).lines
    by_call None later = (feeds.0, later)
    by_call (Some x) later = tt

end_feed : NoFeed (codes "end")
end_feed = (refl, (refl, (refl, tt)))

ended_feed : (closed : Bool) (text : List ℕ) → AllNoFeed (ended closed (body_of (split_lines text)).lines)
ended_feed false text = body_no_feed (split_lines text) (back.split_no_feed text)
ended_feed true text =
    feeds-append (body_of (split_lines text)).lines (codes "end" ∷ []) (body_no_feed (split_lines text) (back.split_no_feed text)) (end_feed, tt)

-- what a text of them says
pub before_is : (layout : Layout) (c : Checks) (closed : Bool) (text part : List ℕ) → part ≡ lines (ended closed (body_of (split_lines text)).lines) →
    told_behind layout c (Some some_framed) (part_of layout (split_lines part)) ≡ told_before layout c (ended closed (body_of (split_lines text)).lines)
before_is layout c closed text part e =
    ap (λ t. told_behind layout c (Some some_framed) (part_of layout (split_lines t))) e
    ∙ ap (λ ls. told_behind layout c (Some some_framed) (part_of layout ls))
    (lines_split (ended closed (body_of (split_lines text)).lines) (ended_feed closed text))

-- the end after lines
pub with_end : (ls : List (List ℕ)) (b : Bool) (out all : List ℕ) → out ≡ lines ls → all ≡ out ++ codes "end\n" → b ≡ true → all ≡ lines (ended b ls)
with_end ls b out all e f is =
    f ∙ ap (λ t. t ++ codes "end\n") e ∙ sym (lines_then ls (codes "end" ∷ [])) ∙ ap (λ b. lines (ended b ls)) (sym is)
