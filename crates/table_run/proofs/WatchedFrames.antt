-- Runs that are cut at heads and whose steps are seen.
use Rattle.std.proofs.Common.{◌≡◌, ℕ, suc, ◌≤◌, List, [], ◌∷◌, ◌++◌, length, Some, None, sym, ap, ◌∙◌, subst}
use Rattle.word_spec.specs.State.{State}
use Rattle.machine_spec.specs.StateText.{Layout}
use Rattle.bilv_spec.specs.Run.{Place, false_assert}
use Rattle.frame_spec.specs.Frames.{Frame}
use Rattle.frame_spec.specs.FrameRuns.{Start, Going, Arriving, FrameStep, arrival, frame_step, one_more, run}
use Rattle.trace_spec.specs.Seen as trace
use Rattle.trace_spec.specs.Seen.{left_in, left_of, next_place, seen_arrival, seen_between, seen_of, seen_row, seen_steps}
use Rattle.table_run.specs.declared.ending.FrameEnding.{FrameEnding}
use Rattle.table_run.specs.declared.ending.FrameStepEnd.{FrameStepEnd}
use Rattle.table_run.specs.declared.ending.FrameStepEnd.TheVariants as frame
use Rattle.table_run.specs.declared.observers.Observer.{Observer}
use Rattle.table_run.specs.FrameEnds.{IsFrameStepEnd}
use Rattle.table_run.specs.Watching.{HasSeen, frame_later_of, row_places, row_stored}
use Rattle.table_run.specs.WatchedRuns.{IsFrameWatched, frame_step_in}
use Rattle.table_run.proofs.FrameFounds.{arrival_over}
use Rattle.table_run.proofs.WatchedRuns.{seen_over}

module _ (f : Frame) (form : Layout) (k : ℕ) (s : Start) where
  -- ---- the step of a row

  module _ (turns n choice : ℕ) (c : Place) (drawn : choice ≡ s.choices n) (going : run f k s n ≡ Going turns n c) (new : State)
      (left : new ≡ left_in f.program s.state c.state choice) where
    abbrev steps : List trace.SeenStep
    steps = seen_steps f form k s n

    pub row_left : (e : FrameEnding) → frame_step_in e ≡ n → (t : State) → left_of f s (run f k s (frame_step_in e)) ≡ Some t → t ≡ new
    row_left e same t found =
        let there : Some t ≡ Some (left_in f.program s.state c.state choice) =
        sym found ∙ ap (λ j. left_of f s (run f k s j)) same ∙ ap (left_of f s) going
        ∙ ap (λ h. Some (left_in f.program s.state c.state h)) (sym drawn) in
        let is : t ≡ left_in f.program s.state c.state choice = cc in is ∙ sym left

    laters : (e : FrameStepEnd) (after : List ℕ) (x : FrameStep) → IsFrameStepEnd e new after x → (depth : ℕ) → depth ≡ length c.stack →
        frame_later_of e depth (length after) ≡ length (next_place c x).stack
    laters (frame.Halts h) after x is depth deep = deep ∙ sym (ap (λ z. length (next_place c z).stack) is)
    laters frame.GoesTo after x is depth deep = sym (ap (λ z. length (next_place c z).stack) is)
    laters frame.Reaches after x is depth deep = sym (ap (λ z. length (next_place c z).stack) is)
    laters frame.Leaves after x is depth deep = deep ∙ sym (ap (λ z. length (next_place c z).stack) is)

    pub row_next : (e : FrameStepEnd) (after : List ℕ) (depth later : ℕ) → IsFrameStepEnd e new after (frame_step f s.state c choice) →
        depth ≡ length c.stack → later ≡ frame_later_of e depth (length after) → (o : Observer) → HasSeen o (steps
        ++ seen_between form trace.OfRow n (row_stored f.program c.state) (row_places f.program c.state) c.state depth new later ∷ []) →
        HasSeen o (seen_steps f form k s (suc n))
    row_next e after depth later is deep deeper o has =
        let code : ℕ → State → ℕ → trace.SeenStep =
        λ d t l. seen_between form trace.OfRow n (row_stored f.program c.state) (row_places f.program c.state) c.state d t l in
        let one : code depth new later ≡ seen_row f form s.state n c choice =
        ap (λ d. code d new later) deep ∙ ap (λ t. code (length c.stack) t later) left
        ∙ ap (code (length c.stack) (left_in f.program s.state c.state choice))
        (deeper ∙ laters e after (frame_step f s.state c choice) is depth deep) in
        subst (HasSeen o)
        (ap (λ z. steps ++ z ∷ []) one ∙ ap (λ h. steps ++ seen_row f form s.state n c h ∷ []) drawn
        ∙ ap (λ z. steps ++ seen_of f form s z) (sym going))
        has

    -- the run is over behind it, or as many steps were asked for
    pub row_last : (o : Observer) (count : ℕ) (e : FrameEnding) → HasSeen o (seen_steps f form k s (suc n)) →
        seen_steps f form k s count ≡ seen_steps f form k s (suc n) → frame_step_in e ≡ n → IsFrameWatched f form k s count e o new
    row_last o count e has same last = record { seen = subst (HasSeen o) (sym same) has; left = row_left e last }

  -- ---- the arrival at a head

  module _ (turns m : ℕ) (d : Place) (arriving : run f k s m ≡ Arriving turns m d) where
    behind : run f k s (suc m) ≡ arrival f (false_assert f.program.machine.endian f.program.notes.asserts d.state s.state) m d.state.pc
    unfolding run
    behind = ap (one_more f k s) arriving

    pub arrival_last : (o : Observer) (count depth : ℕ) (e : FrameEnding) → suc m ≤ count → depth ≡ length d.stack → frame_step_in e ≡ m →
        HasSeen o (seen_steps f form k s m ++ seen_between form trace.OfArrival m None [] d.state depth d.state depth ∷ []) →
        IsFrameWatched f form k s count e o d.state
    arrival_last o count depth e enough deep last has =
        let over = false_assert f.program.machine.endian f.program.notes.asserts d.state s.state in record {
          seen =
              subst (HasSeen o)
              (ap (λ n. seen_steps f form k s m ++ seen_between form trace.OfArrival m None [] d.state n d.state n ∷ []) deep
              ∙ ap (λ z. seen_steps f form k s m ++ seen_of f form s z) (sym arriving)
              ∙ sym (seen_over f form k s m (arrival f over m d.state.pc) (arrival_over f over m d.state.pc) behind count enough))
              has;
          left = λ t found.
              let there : Some t ≡ Some d.state = sym found ∙ ap (λ j. left_of f s (run f k s j)) last ∙ ap (left_of f s) arriving in cc;
        }

-- of starts and bounds that are the same
pub watched_same : (f : Frame) (form : Layout) (s t : Start) (k j count : ℕ) (e : FrameEnding) (o : Observer) (new : State) → s ≡ t → k ≡ j →
    IsFrameWatched f form k s count e o new → IsFrameWatched f form j t count e o new
watched_same f form s t k j count e o new starts bounds is =
    subst (λ z. IsFrameWatched f form j z count e o new) starts (subst (λ z. IsFrameWatched f form z s count e o new) bounds is)
