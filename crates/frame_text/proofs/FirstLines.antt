-- What first lines say by their words.
use Rattle.std.proofs.Common.{◌≡◌, ℕ, ◌-◌, ◌^◌, ◌<◌, ◌≤◌, refl, ap, sym, ◌∙◌, arith, Bool, true, false, List, [], ◌∷◌, ◌++◌, Option, Some, None, Bor, length, map, take, drop, codes}
use Rattle.std.specs.Prelude.{nat_eq, nat_le, if◌then◌else◌}
use Rattle.std.specs.List.{starts_with}
use Rattle.std.specs.Option.{option_map}
use Rattle.std.specs.Str.{bytes_eq}
use Rattle.std.proofs.lemmas.Slice.Eq.{bytes_eq-Decides, starts_is}
use Rattle.std.proofs.lemmas.Bool.Decides.{Decides-eqb}
use Rattle.word_spec.specs.Texts.{at_most, decimal_word, joined, spaced, words_in}
use Rattle.machine_spec.specs.Endings.{NamedEnding}
use Rattle.machine_spec.specs.StateText.{Layout, StateLine, NamedLine, MachineLine, RegisterLine, ByteLine, ChoiceLine, EndLine, StateLineFault, StateRegisterFault, StateEndFault, StateRefused, lines_of_head, or_else, refused_or, unless, told_by, told_of, line_of, place_of}
use Rattle.machine_spec.proofs.StateSaid.{joined_words}
use Rattle.frame_spec.specs.Frames.{FrameEvent}
use Rattle.frame_texts_spec.specs.FrameTexts.{FramedEnding, FramedFails, NotInductiveBy, any_line, any_word, after_not, ending_after, ending_at, ending_of, frame_line, frame_word, framed, first_of, named_in, new_ending}
use Rattle.frame_text.specs.Endings.{event_and_place, event_at, fails_words, line_by, word_by}

-- an event and its place are not said by fewer than five words, or by more than six
pub few_words : (any : Bool) (ws : List (Bor (List ℕ))) → length ws < 5 → None ≡ event_at any (map (λ word. word.now) ws)
few_words any [] few = refl
few_words any (a ∷ []) few = refl
few_words any (a ∷ b ∷ []) few = refl
few_words any (a ∷ b ∷ c ∷ []) few = refl
few_words any (a ∷ b ∷ c ∷ d ∷ []) few = refl
few_words any (a ∷ b ∷ c ∷ d ∷ e ∷ ws) few = absurd (omega arith)

pub many_words : (any : Bool) (ws : List (Bor (List ℕ))) → 7 ≤ length ws → None ≡ event_at any (map (λ word. word.now) ws)
many_words any [] many = absurd (omega arith)
many_words any (a ∷ []) many = absurd (omega arith)
many_words any (a ∷ b ∷ []) many = absurd (omega arith)
many_words any (a ∷ b ∷ c ∷ []) many = absurd (omega arith)
many_words any (a ∷ b ∷ c ∷ d ∷ []) many = absurd (omega arith)
many_words any (a ∷ b ∷ c ∷ d ∷ e ∷ []) many = absurd (omega arith)
many_words any (a ∷ b ∷ c ∷ d ∷ e ∷ f ∷ []) many = absurd (omega arith)
many_words any (a ∷ b ∷ c ∷ d ∷ e ∷ f ∷ g ∷ ws) many = refl

-- an ending by its event and its place
abbrev by_event : (FrameEvent → ℕ → ℕ → FramedEnding) → FrameEvent × (ℕ × ℕ) → FramedEnding
by_event ending p = ending p.0 p.1.0 p.1.1

module _ (ending : FrameEvent → ℕ → ℕ → FramedEnding) where
  ending_placed : (e : Option FrameEvent) (place : Option (ℕ × ℕ)) → option_map (by_event ending) (event_and_place e place) ≡ ending_at ending e place
  ending_placed (Some e) (Some place) = refl
  ending_placed (Some e) None = refl
  ending_placed None place = refl

  ending_said : (any : Bool) (ws : List (List ℕ)) → option_map (by_event ending) (event_at any ws) ≡ ending_after ending (word_by any) (line_by any) ws
  ending_said any [] = refl
  ending_said any (a ∷ []) = refl
  ending_said any (a ∷ b ∷ []) = refl
  ending_said any (a ∷ b ∷ c ∷ []) = refl
  ending_said any (a ∷ b ∷ c ∷ d ∷ []) = refl
  ending_said any (e ∷ at ∷ a ∷ step ∷ n ∷ []) = ending_placed (word_by any e) (place_of at a step n)
  ending_said any (e ∷ m ∷ at ∷ a ∷ step ∷ n ∷ []) =
      ending_placed (line_by any e (at_most (2 ^ 64 - 1) (decimal_word m))) (place_of at a step n)
  ending_said any (a ∷ b ∷ c ∷ d ∷ e ∷ f ∷ g ∷ ws) = refl

  pub ending_from : (any : Bool) (ws : List (List ℕ)) (o : Option (FrameEvent × (ℕ × ℕ))) → o ≡ event_at any ws →
      option_map (by_event ending) o ≡ ending_after ending (word_by any) (line_by any) ws
  ending_from any ws o e = ap (option_map (by_event ending)) e ∙ ending_said any ws

  -- the first seven words tell an ending
  first_seven : (word : List ℕ → Option FrameEvent) (line : List ℕ → Option ℕ → Option FrameEvent) (ws : List (List ℕ)) →
      ending_after ending word line (take 7 ws) ≡ ending_after ending word line ws
  first_seven word line [] = refl
  first_seven word line (a ∷ []) = refl
  first_seven word line (a ∷ b ∷ []) = refl
  first_seven word line (a ∷ b ∷ c ∷ []) = refl
  first_seven word line (a ∷ b ∷ c ∷ d ∷ []) = refl
  first_seven word line (a ∷ b ∷ c ∷ d ∷ e ∷ []) = refl
  first_seven word line (a ∷ b ∷ c ∷ d ∷ e ∷ f ∷ []) = refl
  first_seven word line (a ∷ b ∷ c ∷ d ∷ e ∷ f ∷ g ∷ ws) = refl

fails_eight : (ws : List (List ℕ)) → fails_words (take 8 ws) ≡ fails_words ws
fails_eight [] = refl
fails_eight (w ∷ ws) = ap (λ o. if bytes_eq w (codes "fails") then o else None) (first_seven FramedFails frame_word frame_line ws)

not_eight : (ws : List (List ℕ)) → after_not (take 8 ws) ≡ after_not ws
not_eight [] = refl
not_eight (w ∷ ws) = ap (λ o. if bytes_eq w (codes "inductive") then o else None) (first_seven NotInductiveBy any_word any_line ws)

-- a line that begins with the word not
pub behind_not : (text : List ℕ) (ws : List (List ℕ)) → starts_with nat_eq text (codes "not ") ≡ true → ws ≡ take 8 (words_in (drop 4 text)) →
    after_not ws ≡ new_ending (words_in text)
behind_not text ws e same =
    ap after_not same ∙ not_eight (words_in (drop 4 text)) ∙ sym (ap (λ t. new_ending (words_in t)) begins)
  where
    begins : text ≡ codes "not " ++ drop 4 text
    begins = (starts_is Decides-eqb text (codes "not ") (starts_with nat_eq text (codes "not ")) refl).0 e

-- another line
pub no_not : (text : List ℕ) (ws : List (List ℕ)) → starts_with nat_eq text (codes "not ") ≡ false → ws ≡ take 8 (words_in text) →
    fails_words ws ≡ new_ending (words_in text)
no_not text ws e same = ap fails_words same ∙ fails_eight (words_in text) ∙ by_words (words_in text) (joined_words text)
  where
    no_more : (w v : List ℕ) (vs : List (List ℕ)) → joined (w ∷ v ∷ vs) ≡ text → bytes_eq w (codes "not") ≡ true → ⊥
    no_more w v vs is t =
        let same : w ≡ codes "not" = (bytes_eq-Decides w (codes "not")).0 t in
        let begins : text ≡ codes "not " ++ (v ++ spaced vs) = sym (ap (λ u. u ++ spaced (v ∷ vs)) (sym same) ∙ is) in
        let yes : starts_with nat_eq text (codes "not ") ≡ true =
        (starts_is Decides-eqb text (codes "not ") (starts_with nat_eq text (codes "not ")) refl).1 (v ++ spaced vs) begins in
        let z : false ≡ true = sym e ∙ yes in cc

    by_second : (w : List ℕ) (vs : List (List ℕ)) (t : Bool) → joined (w ∷ vs) ≡ text → bytes_eq w (codes "not") ≡ t → None ≡ (if t then after_not vs else None)
    by_second w [] true is t = refl
    by_second w (v ∷ vs) true is t = absurd (no_more w v vs is t)
    by_second w vs false is t = refl

    by_words : (vs : List (List ℕ)) → joined vs ≡ text → fails_words vs ≡ new_ending vs
    by_words [] is = refl
    by_words (w ∷ vs) is =
        ap (λ o. if bytes_eq w (codes "fails") then ending_after FramedFails frame_word frame_line vs else o)
        (by_second w vs (bytes_eq w (codes "not")) is refl)

-- a first line that names no ending of the tables
pub no_named : (layout : Layout) (text : List ℕ) → told_of layout (λ a. false) (line_of layout text ∷ []) ≡ StateRefused 1 StateLineFault →
    new_ending (words_in text) ≡ ending_of layout text
no_named layout text e = by_line (line_of layout text) refl e
  where
    same : Option StateLine → Option FramedEnding
    same o = first_of (option_map framed (named_in o)) (new_ending (words_in text))

    -- behind an ending the second line is refused
    later : (n : NamedEnding) (t : Bool) →
        told_by layout (refused_or 2 (or_else (unless t StateRegisterFault) (unless false StateEndFault)) None) (Some (NamedLine n) ∷ [])
        ≡ StateRefused 1 StateLineFault → ⊥
    later n true e = cc
    later n false e = cc

    by_line : (o : Option StateLine) → line_of layout text ≡ o → told_of layout (λ a. false) (o ∷ []) ≡ StateRefused 1 StateLineFault →
        new_ending (words_in text) ≡ first_of (option_map framed (named_in (line_of layout text))) (new_ending (words_in text))
    by_line None is e = ap same (sym is)
    by_line (Some MachineLine) is e = ap same (sym is)
    by_line (Some (RegisterLine i v)) is e = ap same (sym is)
    by_line (Some (ByteLine a v)) is e = ap same (sym is)
    by_line (Some (ChoiceLine s c)) is e = ap same (sym is)
    by_line (Some EndLine) is e = ap same (sym is)
    by_line (Some (NamedLine n)) is e = absurd (later n (nat_le (lines_of_head layout) 1) e)
