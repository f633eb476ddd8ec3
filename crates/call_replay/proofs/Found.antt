-- How what is found of a run is named.
use Rattle.std.proofs.Common.{◌≡◌, ℕ, refl, ap, sym, ◌∙◌, Bool, true, false, List, ◌∷◌, Some, None, codes}
use Rattle.machine_spec.specs.Endings.{place_words}
use Rattle.frame_texts_spec.specs.CallReplays.{call_found_words, is_of_frame, words_by}
use Rattle.frame_texts_spec.specs.CallTexts.{FrameName}
use Rattle.frame_texts_spec.specs.FrameTexts.{FramedEnding, ending_words}
use Rattle.table_run.specs.declared.ending.CalledEnding.{CalledEnding}
use Rattle.table_run.specs.declared.ending.CalledEnding.TheVariants as ending
use Rattle.call_replay.specs.Found.{called_found}

-- the words of what is no event and no backward transfer
none_by : (b : Bool) (f : FrameName) (other : List (List ℕ)) → other ≡ words_by b f None other
none_by true f other = refl
none_by false f other = refl

-- the words of an event and of a backward transfer
abbrev pub named_by : FrameName → (called : Bool) → FramedEnding → List (List ℕ)
named_by f called n = words_by (is_of_frame f called) f (Some n) (ending_words n)

pub left_words : (f : FrameName) (called : Bool) (k : ℕ) (e : CalledEnding) (at step : ℕ) → e ≡ ending.Left at step →
    codes "running" ∷ place_words at step ≡ call_found_words f called false k (called_found e)
left_words f called k e at step is =
    none_by (is_of_frame f called) f (codes "running" ∷ place_words at step)
    ∙ sym (ap (λ (x : CalledEnding). call_found_words f called false k (called_found x)) is)
