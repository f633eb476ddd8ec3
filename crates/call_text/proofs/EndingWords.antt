-- The words of a first line, and of a line that begins a block.
use Rattle.std.proofs.Common.{◌≡◌, ◌≤◌, ◌<◌, ℕ, refl, ap, sym, ◌∙◌, arith, Bool, true, false, Bor, List, [], ◌∷◌, ◌++◌, Option, Some, None, length, map, take, drop, codes}
use Rattle.std.specs.Prelude.{nat_eq, if◌then◌else◌}
use Rattle.std.specs.List.{starts_with}
use Rattle.std.specs.Option.{option_map}
use Rattle.std.specs.Str.{bytes_eq}
use Rattle.std.proofs.lemmas.Slice.Eq.{bytes_eq-Decides, starts_is}
use Rattle.std.proofs.lemmas.Bool.Decides.{Decides-eqb}
use Rattle.word_spec.specs.Texts.{joined, spaced, words_in}
use Rattle.machine_spec.specs.StateText.{after_unknown}
use Rattle.machine_spec.proofs.StateSaid.{joined_words}
use Rattle.frame_spec.specs.Frames.{FrameEvent}
use Rattle.frame_texts_spec.specs.FrameTexts.{FramedEnding, FramedFails, first_of, framed, named_in}
use Rattle.frame_texts_spec.specs.CallTexts.{Changes, after_frame, call_in, frame_in, unproved_by, unproved_ending}
use Rattle.frame_text.specs.Endings.{event_at}
use Rattle.frame_text.proofs.FirstLines.{ending_from}
use Rattle.call_text.specs.Lines.{after_unproved}

-- an event after a frame, and none
pub event_said : (ws : List (List ℕ)) (e : FrameEvent) (at step : ℕ) → Some (e, (at, step)) ≡ event_at true ws → Some (FramedFails e at step) ≡ after_frame ws
event_said ws e at step h =
    ap (λ o. first_of o (option_map framed (named_in (after_unknown ws)))) (ending_from FramedFails true ws (Some (e, (at, step))) h)

pub no_event_said : (ws : List (List ℕ)) (n : Option FramedEnding) → None ≡ event_at true ws → n ≡ option_map framed (named_in (after_unknown ws)) →
    n ≡ after_frame ws
no_event_said ws n h e = e ∙ ap (λ o. first_of o (option_map framed (named_in (after_unknown ws)))) (ending_from FramedFails true ws None h)

-- the first seven words after a frame tell the ending
seven : (ws : List (List ℕ)) → after_frame (take 7 ws) ≡ after_frame ws
seven [] = refl
seven (a ∷ []) = refl
seven (a ∷ b ∷ []) = refl
seven (a ∷ b ∷ c ∷ []) = refl
seven (a ∷ b ∷ c ∷ d ∷ []) = refl
seven (a ∷ b ∷ c ∷ d ∷ e ∷ []) = refl
seven (a ∷ b ∷ c ∷ d ∷ e ∷ f ∷ []) = refl
seven (a ∷ b ∷ c ∷ d ∷ e ∷ f ∷ g ∷ ws) = refl

module _ (changes : ℕ → Option Changes) where
  eight : (ws : List (List ℕ)) → after_unproved changes (take 8 ws) ≡ after_unproved changes ws
  eight [] = refl
  eight (f ∷ ws) = ap (unproved_by (frame_in changes f)) (seven ws)

  after_word : (ws : List (List ℕ)) → after_unproved changes ws ≡ unproved_ending changes (codes "unproved" ∷ ws)
  after_word [] = refl
  after_word (f ∷ ws) = refl

  -- a line that begins with the word unproved
  pub behind_unproved : (text : List ℕ) (ws : List (List ℕ)) → starts_with nat_eq text (codes "unproved ") ≡ true → ws ≡ take 8 (words_in (drop 9 text)) →
      after_unproved changes ws ≡ unproved_ending changes (words_in text)
  behind_unproved text ws e same =
      ap (after_unproved changes) same ∙ eight (words_in (drop 9 text)) ∙ after_word (words_in (drop 9 text))
      ∙ sym (ap (λ t. unproved_ending changes (words_in t)) begins)
    where
      begins : text ≡ codes "unproved " ++ drop 9 text
      begins = (starts_is Decides-eqb text (codes "unproved ") (starts_with nat_eq text (codes "unproved ")) refl).0 e

  -- another line
  pub no_unproved : (text : List ℕ) → starts_with nat_eq text (codes "unproved ") ≡ false → None ≡ unproved_ending changes (words_in text)
  no_unproved text e = by_words (words_in text) (joined_words text)
    where
      no_more : (w v : List ℕ) (vs : List (List ℕ)) → joined (w ∷ v ∷ vs) ≡ text → bytes_eq w (codes "unproved") ≡ true → ⊥
      no_more w v vs is t =
          let same : w ≡ codes "unproved" = (bytes_eq-Decides w (codes "unproved")).0 t in
          let begins : text ≡ codes "unproved " ++ (v ++ spaced vs) = sym (ap (λ u. u ++ spaced (v ∷ vs)) (sym same) ∙ is) in
          let yes : starts_with nat_eq text (codes "unproved ") ≡ true =
          (starts_is Decides-eqb text (codes "unproved ") (starts_with nat_eq text (codes "unproved ")) refl).1 (v ++ spaced vs) begins in
          let z : false ≡ true = sym e ∙ yes in cc

      by_test : (w v : List ℕ) (vs : List (List ℕ)) (t : Bool) → joined (w ∷ v ∷ vs) ≡ text → bytes_eq w (codes "unproved") ≡ t →
          None ≡ (if t then unproved_by (frame_in changes v) (after_frame vs) else None)
      by_test w v vs true is t = absurd (no_more w v vs is t)
      by_test w v vs false is t = refl

      by_words : (vs : List (List ℕ)) → joined vs ≡ text → None ≡ unproved_ending changes vs
      by_words [] is = refl
      by_words (w ∷ []) is = refl
      by_words (w ∷ v ∷ vs) is = by_test w v vs (bytes_eq w (codes "unproved")) is refl

-- the words of a line that begins a block
pub call_eight : (ws : List (List ℕ)) → call_in (take 8 ws) ≡ call_in ws
call_eight [] = refl
call_eight (a ∷ []) = refl
call_eight (a ∷ b ∷ []) = refl
call_eight (a ∷ b ∷ c ∷ []) = refl
call_eight (a ∷ b ∷ c ∷ d ∷ ws) = refl

-- backward transfers are not said by fewer than six words, or by more
pub few_turns : (ws : List (Bor (List ℕ))) → length ws < 6 → None ≡ option_map framed (named_in (after_unknown (map (λ word. word.now) ws)))
few_turns [] few = refl
few_turns (a ∷ []) few = refl
few_turns (a ∷ b ∷ []) few = refl
few_turns (a ∷ b ∷ c ∷ []) few = refl
few_turns (a ∷ b ∷ c ∷ d ∷ []) few = refl
few_turns (a ∷ b ∷ c ∷ d ∷ e ∷ []) few = refl
few_turns (a ∷ b ∷ c ∷ d ∷ e ∷ f ∷ ws) few = absurd (omega arith)

pub many_turns : (ws : List (Bor (List ℕ))) → 7 ≤ length ws → None ≡ option_map framed (named_in (after_unknown (map (λ word. word.now) ws)))
many_turns [] many = absurd (omega arith)
many_turns (a ∷ []) many = absurd (omega arith)
many_turns (a ∷ b ∷ []) many = absurd (omega arith)
many_turns (a ∷ b ∷ c ∷ []) many = absurd (omega arith)
many_turns (a ∷ b ∷ c ∷ d ∷ []) many = absurd (omega arith)
many_turns (a ∷ b ∷ c ∷ d ∷ e ∷ []) many = absurd (omega arith)
many_turns (a ∷ b ∷ c ∷ d ∷ e ∷ f ∷ []) many = absurd (omega arith)
many_turns (a ∷ b ∷ c ∷ d ∷ e ∷ f ∷ g ∷ ws) many = refl
