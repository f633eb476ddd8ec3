-- What is shown of a root of the frame of a rank is a start whose segment ends as a question asks, or not.
use Rattle.std.proofs.Common.{◌≡◌, ◌≢◌, refl, sym, ap, subst, ◌∙◌, ℕ, ◌-◌, ◌<◌, ◌≤◌, Bool, true, false, List, [], ◌∷◌, Option, Some, None, length, map, get_or}
use Rattle.std.specs.Prelude.{◌&&◌, option_map, slice_get}
use Rattle.std.proofs.lemmas.List.{get_or_default, length-map, reverse-reverse}
use Rattle.word_spec.specs.State.{State}
use Rattle.bilv_spec.specs.Points.{is_known_at, is_kept_at}
use Rattle.bilv_spec.specs.Run.{Place}
use Rattle.bilv_spec.specs.Verdict.{IsEntryState}
use Rattle.machine_spec.specs.StateText.{Layout, IsWritten}
use Rattle.frame_spec.specs.Frames.{Contract, Frame, IsContent, is_head}
use Rattle.frame_spec.specs.FrameFound.{found}
use Rattle.frame_spec.specs.FramePoints as frames
use Rattle.frame_spec.specs.FramePoints.{Anchor, AtEntry, AtHead, IsAnchor, first_of, has_heads}
use Rattle.frame_spec.specs.FrameQuestions.{Question, EntryQuestion, FailQuestion, StepQuestion, TurnQuestion, asks_head}
use Rattle.frame_spec.specs.FrameReports as reports
use Rattle.frame_spec.specs.FrameReports.{IsShown, Named, WrittenCall, WrittenHead, head_of, registers_of, shown_start}
use Rattle.frame_spec.specs.FrameRuns as runs
use Rattle.frame_spec.specs.FrameRuns.{IsOver, run}
use Rattle.frame_spec.specs.FrameVerdict.{IsOrigin, Whole, frame_by, frame_of}
use Rattle.frame_laws.proofs.FewSteps.{few_points_end_segments, wholes_are_few}
use Rattle.frame_laws.proofs.FrameAnswers.{head_anchor}
use Rattle.frame_terms.specs.FrameStarts as starts
use Rattle.frame_terms.specs.FrameStarts.{IsWrittenAnchor, WrittenParts}
use Rattle.frame_terms.proofs.WrittenGifts.{gifts_small}
use Rattle.call_form.specs.declared.budget.Budget.{Budget}
use Rattle.question_form.specs.Asked.{frame_question}
use Rattle.program_points.specs.Listed.{anchor_of}
use Rattle.program_points.specs.Tables.{stacks_of}
use Rattle.question_form.specs.FrameViews.{anchor_at, frame_unrolled_of, no_root}
use Rattle.call_form.specs.declared.kind.Asked.{Asked}
use Rattle.call_form.specs.declared.kind.Asked.TheVariants as asked
use Rattle.question_form.specs.declared.unrolled.Root.{Root}
use Rattle.question_form.specs.declared.unrolled.Unrolled.{Unrolled}
use Rattle.notes_value.specs.FrameViews.{contract_of}
use Rattle.frame_verdict.specs.FrameMeasures.{IsFrameMeasurable}
use Rattle.state_text.specs.declared.start.CallState.{CallState}
use Rattle.start_value.specs.Starts.{written_of}
use Rattle.state_text.specs.Starts.{written_call_of, written_head_of}
use Rattle.state_text.specs.declared.start.HeadStart.{HeadStart}
use Rattle.table_run.specs.FrameEnds as plain
use Rattle.table_run.specs.MadeCalls.{AreListed}
use Rattle.frame_rounds.specs.FrameGrounds.{AreSegments, HasStepped, IsFrameGround, ShowsQuestion, shown_at}
use Rattle.frame_start.specs.declared.meaning.Segments.{Segments}
use Rattle.frame_start.specs.Segments.{calls_at, choices_at, written_parts}
use Rattle.frame_rounds.proofs.FrameRoots.{root_of_number, head_written}
use Rattle.frame_verdict.specs.FrameFunctions.{CanShow, contracts_of, frame_at, program_of_framed, whole_of_framed}
use Rattle.frame_verdict.specs.FrameVerdicts.{named_of}
use Rattle.frame_verdict.specs.ShownEnds.{CanEnd, Ends, EndsAsAsked, HasHead, IsCame, IsEnded, IsHeadFor, IsHeadWritten, begun, is_end, named_in, shown_of, wants_anchor}
use Rattle.frame_verdict.specs.declared.framed.Framed.{Framed}
use Rattle.frame_verdict.specs.declared.judged.Ended.{Ended}
use Rattle.frame_verdict.specs.declared.segments.Shown.{Shown}
use Rattle.frame_verdict.proofs.EndedRuns.{end_named, ends_as, fails_named, found_is, turns_named, unbroken}
use Rattle.frame_verdict.proofs.Unheaded.{invariants_same, no_head, none_stepped_by}
use Rattle.verdict.proofs.Judging.{written_choice}

-- a question that asks for segments of a head speaks of head states
speaks : (q : Question) (stack : List ℕ) (a : ℕ) → wants_anchor q (AtHead stack a) ≡ true → asks_head q ≡ true
speaks EntryQuestion stack a h = absurd (cc)
speaks FailQuestion stack a h = absurd (cc)
speaks StepQuestion stack a h = refl
speaks TurnQuestion stack a h = refl

-- where a segment begins is a head state, if it is not the entry
head_of_origin : (f : Frame) (k : ℕ) (entry : State) (o : Option Place) → IsOrigin f k entry o → IsHeadFor f entry o
head_of_origin f k entry None h = tt
head_of_origin f k entry (Some c) h = h.1

-- ---- frames of ranks have the heads and the kept bytes of the program

module _ (w : Whole) (rank : ℕ) where
  head_by : (o : Option Contract) (a : ℕ) → is_head (frame_by w rank o) a ≡ is_head (plain.frame_of w.program w.invariants) a
  head_by None a = refl
  head_by (Some x) a = refl

  kept_by : (o : Option Contract) → is_kept_at (frame_by w rank o).program ≡ is_kept_at w.program
  kept_by None = refl
  kept_by (Some x) = refl

  pub heads_same : (a : ℕ) → is_head (frame_of w rank) a ≡ is_head (plain.frame_of w.program w.invariants) a
  heads_same a = head_by (slice_get w.contracts rank) a

  pub kept_same : is_kept_at (frame_of w rank).program ≡ is_kept_at w.program
  kept_same = kept_by (slice_get w.contracts rank)

-- a segment that is shown, of an anchor
module _ (w : Whole) (f : Frame) (k : ℕ) (layout : Layout) (parts : WrittenParts) (choices : List (ℕ × ℕ)) (calls : List WrittenCall) where
  abbrev at : Anchor → runs.Start
  at a = shown_start w f layout (starts.shown_of parts a choices calls)

  -- its head state is at a head
  head_there : (a : Anchor) → IsAnchor f k a → (h : WrittenHead) → (starts.shown_of parts a choices calls).head ≡ Some h → is_head f h.at ≡ true
  head_there AtEntry is h e = absurd (cc)
  head_there (AtHead stack b) is h e =
      let same : b ≡ h.at = cc in subst (λ z. is_head f z ≡ true) same (head_anchor f k (first_of f.program.entry (AtHead stack b)) is)

  -- and so it begins in one
  origin_is : (a : Anchor) → IsAnchor f k a → IsHeadFor f (at a).state (at a).head → IsOrigin f k (at a).state (at a).head
  origin_is AtEntry is h = tt
  origin_is (AtHead stack b) is h = (subst (λ (z : List ℕ). IsAnchor f k (AtHead z b)) (sym (reverse-reverse stack)) is, h)

  choices_few : (a : Anchor) → IsShown w f layout (starts.shown_of parts a choices calls) → (n : ℕ) → (at a).choices n < 4
  choices_few AtEntry shown n = written_choice layout (is_known_at f.program) _ shown.entry n
  choices_few (AtHead stack b) shown n = written_choice layout (is_kept_at f.program) _ (shown.head _ refl) n

  state_at : (a : Anchor) → (at a).state ≡ (at AtEntry).state
  state_at AtEntry = refl
  state_at (AtHead stack b) = refl

  has_head : (a : Anchor) (q : Question) (o : Option HeadStart) → wants_anchor q a ≡ true →
      option_map written_head_of o ≡ (starts.shown_of parts a choices calls).head → HasHead q o
  has_head AtEntry EntryQuestion o wanted e = absurd (cc)
  has_head (AtHead stack b) EntryQuestion o wanted e = absurd (cc)
  has_head AtEntry FailQuestion None wanted e = refl
  has_head AtEntry FailQuestion (Some h) wanted e = absurd (cc)
  has_head (AtHead stack b) FailQuestion o wanted e = absurd (cc)
  has_head AtEntry StepQuestion o wanted e = absurd (cc)
  has_head (AtHead stack b) StepQuestion None wanted e = absurd (cc)
  has_head (AtHead stack b) StepQuestion (Some h) wanted e = λ q. cc
  has_head a TurnQuestion o wanted e = tt

  no_written_head : (a : Anchor) → a ≡ AtEntry → (o : Option HeadStart) → option_map written_head_of o ≡ (starts.shown_of parts a choices calls).head → o ≡ None
  no_written_head AtEntry e None h = refl
  no_written_head AtEntry e (Some x) h = absurd (cc)
  no_written_head (AtHead stack b) e o h = absurd (cc)

-- the state at entry is the same for all segments
state_same : (w : Whole) (f : Frame) (k : ℕ) (layout : Layout) (parts : WrittenParts) (a b : Anchor) (xs ys : List (ℕ × ℕ)) (cs ds : List WrittenCall) →
    (at w f k layout parts xs cs a).state ≡ (at w f k layout parts ys ds b).state
state_same w f k layout parts a b xs ys cs ds = state_at w f k layout parts xs cs a ∙ sym (state_at w f k layout parts ys ds b)

module _ {M I S : Type 0} {ms : _} {vs : _} (form : Layout) (x : Framed M I S ms vs) (b : Budget) (rank : ℕ) (u : Unrolled) (ready : CanShow form x b rank u) (question : Question)
    (s : Segments) (segments : AreSegments (frame_at x rank) b.unroll form question u s) (i : ℕ) (inside : i < length u.roots.items)
    (wanted : wants_anchor question (anchor_at u i) ≡ true) where
  abbrev w : Whole
  w = whole_of_framed x

  abbrev f : Frame
  f = frame_at x rank

  abbrev k : ℕ
  k = b.unroll

  abbrev ground : IsFrameGround f (contracts_of x) k form u
  ground = ready.unrolled.ground

  abbrev choices : List (ℕ × ℕ)
  choices = choices_at s.choices.items i

  abbrev calls : List WrittenCall
  calls = calls_at (frame_unrolled_of u) s.parts s.calls.items i

  abbrev its : runs.Start
  its = begun w rank form (shown_at u s i)

  abbrev measured : IsFrameMeasurable u
  measured = ready.unrolled.measurable

  has : HasStepped f w.contracts
  has = ground.among.stepped

  anchor : IsAnchor f k (anchor_at u i)
  anchor = (root_of_number u measured.walkable measured.roots measured.own f (contracts_of x) k ground.unrolling i inside).0

  written_by : (a : Anchor) → a ≡ anchor_at u i → wants_anchor question a ≡ true → IsWrittenAnchor (has_heads f && asks_head question) (anchor_at u i)
  written_by AtEntry e h = subst (λ (z : Anchor). IsWrittenAnchor (has_heads f && asks_head question) z) e tt
  written_by (AtHead stack a) e h =
      head_written u measured.walkable measured.roots measured.own f (contracts_of x) k ground.unrolling (asks_head question) (speaks question stack a h) stack a i
      inside e

  shown : IsShown w f form (shown_at u s i)
  shown = segments.shown w has i inside (written_by (anchor_at u i) refl wanted)

  entry_by : (q : Question) → ShowsQuestion f k form u s q → wants_anchor q (anchor_at u i) ≡ true → IsEntryState f.program its.state
  entry_by EntryQuestion h want = absurd (none_wanted (anchor_at u i) want)
    where
      none_wanted : (a : Anchor) → wants_anchor EntryQuestion a ≡ true → ⊥
      none_wanted a h = cc
  entry_by FailQuestion h want =
      subst (IsEntryState f.program) (state_same w f k form (written_parts s.parts) (anchor_at u 0) (anchor_at u i) (choices_at s.choices.items 0) choices
      (calls_at (frame_unrolled_of u) s.parts s.calls.items 0) calls) (h.1 w has).1.entry
  entry_by StepQuestion h want =
      subst (IsEntryState f.program) (state_same w f k form (written_parts s.parts) (anchor_at u h.0) (anchor_at u i) (choices_at s.choices.items h.0) choices
      (calls_at (frame_unrolled_of u) s.parts s.calls.items h.0) calls) (h.2 w has).1.entry
  entry_by TurnQuestion h want =
      subst (IsEntryState f.program) (state_same w f k form (written_parts s.parts) (anchor_at u h.0) (anchor_at u i) (choices_at s.choices.items h.0) choices
      (calls_at (frame_unrolled_of u) s.parts s.calls.items h.0) calls) (h.2 w has).1.entry

  entry : IsEntryState f.program its.state
  entry = entry_by question segments.shows wanted

  few : ¬ frames.HasMore f k b.points
  few = wholes_are_few w k b.points rank (subst (λ (n : ℕ). rank ≤ n) (sym (length_map x)) ready.ranked) ready.few
    where
      length_map : {M I S : Type 0} {ms : _} {vs : _} (x : Framed M I S ms vs) → length (contracts_of x) ≡ length x.contracts.now
      length_map x = length-map x.contracts.now contract_of

  -- what contract steps are given, in a start that can be written
  given_is : (z : reports.Shown) → IsShown w f form z → (n : ℕ) → IsContent ((shown_start w f form z).given n)
  given_is z is n = gifts_small (registers_of w) z.calls (λ j d l. record { words = (is.calls j d l).words; bytes = (is.calls j d l).bytes }) n

  -- the run has ended after as many steps as there may be points
  over : IsHeadFor f its.state its.head → IsOver (run f k its b.points)
  over h =
      few_points_end_segments f ground.lawful ground.reads ready.unrolled.places k its entry
      (origin_is w f k form (written_parts s.parts) choices calls (anchor_at u i) anchor h) (given_is (shown_at u s i) shown) b.points few

  -- with contracts it begins at the entry
  at_entry : x.contracts.now ≢ [] → anchor_at u i ≡ AtEntry
  at_entry some = by (anchor_at u i) refl
    where
      by : (a : Anchor) → anchor_at u i ≡ a → anchor_at u i ≡ AtEntry
      by AtEntry e = e
      by (AtHead stack a) e =
          let head = head_anchor f k (first_of f.program.entry (AtHead stack a)) (subst (λ (z : Anchor). IsAnchor f k z) e anchor) in
          let none = no_head f (invariants_same w rank ∙ ready.runs.alone some) a in
          let z : true ≡ false = sym head ∙ none in absurd (cc)

  no_contracts : x.contracts.now ≡ [] → w.contracts ≡ []
  no_contracts e = ap (map contract_of) e

  listed_by : anchor_at u i ≡ AtEntry → AreListed f k its calls b.points
  listed_by e steps turns n c less is quiet =
      let it = segments.listed w has i inside e steps turns n c is in
      record { call = it.call; listed = it.listed; step = it.step; at = it.at; flags = it.flags }

  -- what is shown of the root
  module _ (sh : Shown) (same : shown_of sh ≡ shown_at u s i) where
    heads_by : (o : Option HeadStart) → option_map written_head_of o ≡ (shown_at u s i).head → IsHeadWritten (program_of_framed x) x.invariants.now form o
    heads_by None e = tt
    heads_by (Some h) e = (
      subst (λ (kept : ℕ → Bool). IsWritten form kept (written_of h.start)) (kept_same w rank) (shown.head (written_head_of h) (sym e)),
      sym (heads_same w rank h.at)
          ∙ head_there w f k form (written_parts s.parts) choices calls (anchor_at u i) anchor (written_head_of h) (sym e),
    )

    pub can_end : CanEnd form x b rank sh
    can_end = record {
      shown = subst (λ (z : reports.Shown). IsShown w f form z) (sym same) shown;
      head = heads_by sh.head (ap (λ (z : reports.Shown). z.head) same);
      alone = λ some. no_written_head w f k form (written_parts s.parts) choices calls (anchor_at u i) (at_entry some) sh.head
          (ap (λ (z : reports.Shown). z.head) same);
      none = λ e. none_listed sh.calls.items (ap (λ (z : reports.Shown). z.calls) same
          ∙ calls_same (anchor_at u i)
          ∙ segments.none (none_stepped_by w rank (no_contracts e)) i inside (written_by (anchor_at u i) refl wanted));
      listed = λ some. subst (λ (z : reports.Shown). AreListed f k (begun w rank form z) z.calls b.points) (sym same)
          (subst (λ (l : List WrittenCall). AreListed f k its l b.points) (sym (calls_same (anchor_at u i))) (listed_by (at_entry some)));
      over = subst (λ (z : reports.Shown). IsHeadFor f (begun w rank form z).state (begun w rank form z).head → IsOver (run f k (begun w rank form z) b.points))
          (sym same) over;
    }
      where
        calls_same : (a : Anchor) → (starts.shown_of (written_parts s.parts) a choices calls).calls ≡ calls
        calls_same AtEntry = refl
        calls_same (AtHead stack a) = refl

        none_listed : (l : List CallState) → map written_call_of l ≡ [] → l ≡ []
        none_listed [] e = refl
        none_listed (c ∷ l) e = absurd (cc)

    -- what it comes to
    module _ (o : Option Ended) (came : IsCame w rank k b.points form (shown_of sh) o) where
      its_came : IsCame w rank k b.points form (shown_at u s i) o
      its_came = subst (λ (z : reports.Shown). IsCame w rank k b.points form z o) same came

      named_by : (q : Question) → Ends q f k its → IsHeadFor f its.state its.head →
          (n : Named) × (named_in (found f (Some k) its (b.points - 1)) ≡ Some n) × (is_end q n ≡ true)
      named_by EntryQuestion h begins = absurd h
      named_by FailQuestion h begins =
          let q = fails_named f k its b.points (over begins) h in
          (_, found_is f k its b.points b.in_range.points.0 (over begins) ∙ q.3, refl)
      named_by StepQuestion h begins =
          let q = fails_named f k its b.points (over begins) h in
          (_, found_is f k its b.points b.in_range.points.0 (over begins) ∙ q.3, refl)
      named_by TurnQuestion h begins =
          let q = turns_named f k its b.points (over begins) h in
          (_, found_is f k its b.points b.in_range.points.0 (over begins) ∙ q.2, refl)

      none_by : (p : Option Ended) → IsCame w rank k b.points form (shown_at u s i) p → p ≡ None → ¬ EndsAsAsked w rank k form question u s i
      none_by None c e h =
          let begins = head_of_origin f k its.state its.head h.start.origin in
          let q = named_by question h.ends begins in let z = sym q.1 ∙ c begins in cc
      none_by (Some y) c e h = absurd (cc)

      -- not an end
      pub no_end : o ≡ None → ¬ EndsAsAsked w rank k form question u s i
      no_end e = none_by o its_came e

    module _ (e : Ended) (came : IsCame w rank k b.points form (shown_of sh) (Some e)) where
      here : IsCame w rank k b.points form (shown_at u s i) (Some e)
      here = subst (λ (z : reports.Shown). IsCame w rank k b.points form z (Some e)) same came

      -- another end than is asked for
      pub other_end : is_end question (named_of e.ending) ≡ false → ¬ EndsAsAsked w rank k form question u s i
      other_end other h =
          let q = named_by (Some e) came question h.ends here.0 in
          let t : named_of e.ending ≡ q.0 = (let z : Some (named_of e.ending) ≡ Some q.0 = sym here.1 ∙ q.1 in cc) in
          let z : true ≡ false = sym q.2 ∙ ap (is_end question) (sym t) ∙ other in cc

      abbrev told : runs.Start
      told = begun w rank form (shown_of e.shown)

      told_ends : end_named (run f k told b.points) ≡ Some (named_of e.ending)
      told_ends = ap end_named here.2.same ∙ sym (found_is f k its b.points b.in_range.points.0 (over here.0)) ∙ here.1

      told_state : told.state ≡ its.state
      told_state = ap (λ (z : _). (begun w rank form (record (shown_of e.shown) { start = z })).state) here.2.start

      told_origin : IsOrigin f k told.state told.head
      told_origin =
          subst (λ (z : State). IsOrigin f k z told.head) (sym told_state)
          (subst (λ (z : Option WrittenHead). IsOrigin f k its.state (head_of f form z)) (sym here.2.head)
          (origin_is w f k form (written_parts s.parts) choices calls (anchor_at u i) anchor here.0))

      told_choices : (n : ℕ) → told.choices n < 4
      told_choices n =
          subst (λ (z : ℕ → ℕ). z n < 4) (sym choices_told)
          (choices_few w f k form (written_parts s.parts) choices calls (anchor_at u i) shown n)
        where
          choices_told : told.choices ≡ its.choices
          choices_told =
              ap (λ (z : _). reports.choices_of z (shown_of e.shown).head) here.2.start
              ∙ ap (λ (z : Option WrittenHead). reports.choices_of (shown_at u s i).start z) here.2.head

      -- or as the question asks
      pub is_ended : is_end question (named_of e.ending) ≡ true → IsEnded w rank k form question e
      is_ended is = record {
        shown = here.2.shown;
        head = has_head w f k form (written_parts s.parts) choices calls (anchor_at u i) question e.shown.head wanted here.2.head;
        start = record {
          entry = subst (IsEntryState f.program) (sym told_state) entry;
          origin = told_origin;
          choices = told_choices;
          given = given_is (shown_of e.shown) here.2.shown;
          is_run = unbroken f k told b.points (named_of e.ending) told_ends;
        };
        ends = ends_as f k told b.points (named_of e.ending) told_ends;
        asked = is;
        made = here.2.made;
        called = here.2.called;
        uncalled = here.2.uncalled;
      }

-- a root for which the question does not ask
pub not_wanted : (w : Whole) (rank k : ℕ) (layout : Layout) (question : Question) (u : Unrolled) (s : Segments) (i : ℕ) →
    wants_anchor question (anchor_at u i) ≡ false → ¬ EndsAsAsked w rank k layout question u s i
not_wanted w rank k layout question u s i other e = let z : true ≡ false = sym e.wants ∙ other in cc

-- some root shows the question
pub some_root : (w : Whole) (rank k : ℕ) (layout : Layout) (question : Question) (u : Unrolled) (s : Segments) → HasStepped (frame_of w rank) w.contracts →
    0 < length u.roots.items → ShowsQuestion (frame_of w rank) k layout u s question → question ≢ EntryQuestion →
    (i : ℕ) × (i < length u.roots.items) × EndsAsAsked w rank k layout question u s i
some_root w rank k layout EntryQuestion u s told some h other = absurd (other refl)
some_root w rank k layout FailQuestion u s told some h other =
    let q = h.1 w told in (0, some, record { wants = ap (wants_anchor FailQuestion) h.0; start = q.1; ends = q.2 })
some_root w rank k layout StepQuestion u s told some h other =
    let q = h.2 w told in (h.0, h.1.0, record { wants = ap (wants_anchor StepQuestion) h.1.1.2; start = q.1; ends = q.2 })
some_root w rank k layout TurnQuestion u s told some h other =
    let q = h.2 w told in (h.0, h.1, record { wants = refl; start = q.1; ends = q.2 })

-- whether the question asks for the root of a number, by its value
pub wanted_by : (u : Unrolled) (i : ℕ) (x : Root) (question : Question) (b t : Bool) → i < length u.roots.items → x ≡ get_or u.roots.items i x →
    b ≡ wants_anchor question (anchor_of (stacks_of u.frames.items) x.head) → b ≡ t → wants_anchor question (anchor_at u i) ≡ t
wanted_by u i x question b t inside is told e =
    ap (λ (z : Root). wants_anchor question (anchor_of (stacks_of u.frames.items) z.head)) (sym (is ∙ get_or_default u.roots.items i x no_root inside))
    ∙ sym told ∙ e

-- what a segment comes to
pub came_as : (w : Whole) (rank k points : ℕ) (layout : Layout) (s : reports.Shown) (o p : Option Ended) → IsCame w rank k points layout s o → o ≡ p →
    IsCame w rank k points layout s p
came_as w rank k points layout s o p h e = subst (IsCame w rank k points layout s) e h

-- a later question than the entry's
pub later : (a : Asked) → a ≢ asked.Entry → frame_question a ≢ EntryQuestion
later asked.Entry h e = h refl
later asked.Fail h e = cc
later asked.Step h e = cc
later asked.Turn h e = cc
