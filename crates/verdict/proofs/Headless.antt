-- What the answer to a question of the frame of a program says of the program.
use Rattle.std.proofs.Common.{◌≡◌, refl, sym, subst, ap, ◌∙◌, ℕ, zero, suc, ◌≤◌, ◌<◌, ◌+◌, Bool, true, false, List, [], ◌∷◌, None, arith}
use Rattle.std.specs.Prelude.{◌&&◌, Contains, length, slice_index_or}
use Rattle.std.proofs.lemmas.List.{length-map}
use Rattle.word_spec.specs.State.{Written}
use Rattle.clause_spec.specs.Refutation as clauses
use Rattle.machine_spec.specs.StateText.{Layout, IsWritten, last_step}
use Rattle.bilv_spec.specs.Run as tables
use Rattle.bilv_spec.specs.Run.{Program}
use Rattle.bilv_spec.specs.Answers.{start_in}
use Rattle.machine_spec.specs.Endings as endings
use Rattle.bilv_spec.specs.PointLaws.{ReadsMemory}
use Rattle.bilv_spec.specs.Points.{is_known_at}
use Rattle.bilv_spec.specs.Verdict.{RunTurns}
use Rattle.bilv_spec.specs.Evidence.{Refutes, Spends}
use Rattle.call_spec.specs.Calls.{Question, EntryQuestion, FailQuestion, TurnQuestion}
use Rattle.walk_spec.specs.Unrolling.{IsLaidOut}
use Rattle.term_spec.specs.WalkQuestions.{is_asked}
use Rattle.term_spec.proofs.Asked.{asked_is_right}
use Rattle.frame_spec.specs.Frames.{Frame}
use Rattle.frame_spec.specs.FramePoints.{Anchor, AtEntry, has_heads}
use Rattle.frame_spec.specs.FrameQuestions as frames
use Rattle.frame_spec.specs.FrameQuestions.{asks_head}
use Rattle.frame_spec.specs.FrameReports as reports
use Rattle.frame_spec.specs.FrameRuns.{Start}
use Rattle.frame_spec.specs.FrameReports.{Shown, WrittenCall, shown_start}
use Rattle.frame_spec.specs.FrameUnrolling.{IsUnrolling}
use Rattle.frame_spec.specs.FrameVerdict as ends
use Rattle.frame_spec.specs.FrameWalk.{UnrolledProgram}
use Rattle.frame_spec.specs.Theorems.{headless, as_start}
use Rattle.frame_spec.proofs.Headless.{no_head, run_is}
use Rattle.frame_spec.proofs.HeadlessVerdict.{turned, was_start, fails_to}
use Rattle.frame_laws.specs.HeadlessLaws.{as_place, as_question, as_unrolled, headless_whole}
use Rattle.frame_laws.proofs.HeadlessPoints.{headless_heads}
use Rattle.frame_laws.proofs.HeadlessInputs.{headless_clauses}
use Rattle.frame_laws.proofs.HeadlessReads.{full_reading, headless_questions, is_full}
use Rattle.frame_laws.proofs.HeadlessUnrolled.{headless_unrolling}
use Rattle.frame_terms.specs.FrameStarts.{IsWrittenAnchor, shown_of}
use Rattle.frame_terms.specs.PassiveFrames as passives
use Rattle.frame_terms.proofs.HeadlessNodes.{headless_passive}
use Rattle.call_form.specs.declared.kind.Kind.{Kind}
use Rattle.call_form.specs.declared.kind.Kind.TheVariants as kinds
use Rattle.call_form.specs.declared.kind.Asked.{Asked}
use Rattle.cnf_form.specs.Views.{proof_of}
use Rattle.cnf_form.specs.declared.form.Proof.{Proof}
use Rattle.start_value.specs.Starts.{layout_of}
use Rattle.question_form.specs.Asked.{asked_of, frame_question}
use Rattle.question_form.specs.Forms.{AreRootsFormed}
use Rattle.question_form.specs.FrameQuestions.{frame_passive_of}
use Rattle.question_form.specs.FrameViews.{IsHeadless, anchor_at, frame_unrolled_of, no_root}
use Rattle.question_form.specs.Questions.{passive_of}
use Rattle.question_form.specs.Views.{kind_of, unrolled_of}
use Rattle.question_form.proofs.FrameValues.{headless_values}
use Rattle.question_form.specs.declared.questions.Passive.{Passive}
use Rattle.question_form.specs.declared.unrolled.Point.{Point}
use Rattle.question_form.specs.declared.unrolled.Root.{Root}
use Rattle.question_form.specs.declared.unrolled.Unrolled.{Unrolled}
use Rattle.known_bytes.specs.Runs.{AreRuns}
use Rattle.passify.specs.Made.{IsPassiveOf}
use Rattle.passify.proofs.Headless.{frame_walkable}
use Rattle.unroller.specs.RootPoints.{BeginAtOwn, IsEntryFirst, root_of_point}
use Rattle.frame_start.specs.Segments.{IsFrameAskable, written_parts}
use Rattle.frame_start.specs.declared.meaning.Segments.{Segments}
use Rattle.frame_rounds.specs.FrameGrounds.{AnswersFrame, AreSegments, IsFrameGround, RulesOut, ShowsStart, shown_at}
use Rattle.frame_rounds.specs.FrameRounds.{IsFrameDecided}
use Rattle.frame_rounds.specs.declared.answers.FrameAnswered.{FrameAnswered}
use Rattle.frame_rounds.specs.declared.answers.FrameAnswered.TheVariants as answer
use Rattle.frame_rounds.specs.declared.answers.FrameDecided.{FrameDecided}
use Rattle.frame_rounds.proofs.FrameRoots.{entry_anchor, none_fit, none_had}
use Rattle.verdict.specs.Grounds.{HasRunOf, IsAnsweredOver, IsGround, RefutesOver}
use Rattle.verdict.specs.Measures.{IsMeasurable}
use Rattle.verdict.specs.Rounds.{AreAdded, HasBytes, IsAskable, IsDecidable, IsDecided, IsTold, entry_shown}
use Rattle.verdict.specs.declared.verdicts.Answered.{Answered}
use Rattle.verdict.specs.declared.verdicts.Answered.TheVariants.{Sat, Refuted, Spent}
use Rattle.verdict.proofs.Answering.{asks, refutes_over}
use Rattle.verdict.proofs.SameForms.{same_start, same_written}

-- ---- the frame of a program as a value

first_root : (roots : List Root) → roots ≡ no_root ∷ [] → (0 < length roots) × ((slice_index_or roots 0 no_root).head ≡ None)
first_root roots e = subst (λ (z : List Root). (0 < length z) × ((slice_index_or z 0 no_root).head ≡ None)) (sym e) (omega arith, refl)

-- points of one root
of_first : (points : List Point) → ((q : Point) → Contains points q → q.root < 1) → (i : ℕ) → root_of_point points i ≡ 0
of_first [] few i = refl
of_first (q ∷ points) few zero = let l = few q (0, omega arith, refl) in omega arith
of_first (q ∷ points) few (suc i) = of_first points (λ x has. few x (suc has.0, (let l = has.1 in omega arith), has.2)) i

module _ (u : Unrolled) (h : IsHeadless u) where
  one_root : length u.roots.items ≡ 1
  one_root = ap length h.roots

  first_is : IsEntryFirst u
  first_is = first_root u.roots.items h.roots

  own : AreRootsFormed u → BeginAtOwn u
  own formed n l =
      let inside : n < 1 = subst (λ (z : ℕ). n < z) one_root l in
      let zero_is : n ≡ 0 = omega arith in
      of_first u.points.items (λ q has. subst (λ (z : ℕ). q.root < z) one_root (formed.points q has)) _ ∙ sym zero_is

  module _ (some : 0 < length (unrolled_of u).registers) (p : Program) (k : ℕ) (layout : Layout) (reads : ReadsMemory p)
      (g : IsGround p k layout (unrolled_of u)) where
    -- its own form of states
    abbrev own_form : Layout
    own_form = layout_of u.form

    own_laid : IsLaidOut own_form (unrolled_of u)
    own_laid = record { registers = refl; flags = refl }

    abbrev f : Frame
    f = headless p

    frame_ground : IsFrameGround f [] k own_form u
    frame_ground = record {
      lawful = g.lawful;
      reads = reads;
      low = λ a e. absurd (let t : true ≡ false = sym e ∙ no_head p a in cc);
      among = record { stepped = λ a x e. absurd (cc); places = λ n. absurd (n refl); own = λ x e. absurd (cc) };
      fits = none_fit f refl (frame_unrolled_of u);
      unrolling = subst (λ (z : UnrolledProgram). IsUnrolling f [] k z) (sym (headless_values u h))
          (((headless_unrolling p k).0 (unrolled_of u)).0 g.unrolling);
      heads = h.heads ∙ sym (headless_heads p);
      form = refl;
      steps = subst (λ (z : UnrolledProgram). length z.points ≤ last_step + 1) (sym (headless_values u h))
          (subst (λ (n : ℕ). n ≤ last_step + 1) (sym (length-map (unrolled_of u).points as_place)) g.steps);
    }

    -- ---- refutations, and spent logs

    refuted : (question : Question) (proof : clauses.Proof) → reports.Refutes f k (as_question question) proof → Refutes p k question proof
    refuted question proof is = record { of_question = (headless_clauses p k question proof.clauses).0 is.of_question; refutation = is.refutation }

    spent : (question : Question) (conflicts : ℕ) (proof : clauses.Proof) → reports.Spends f k (as_question question) conflicts proof →
        Spends p k question conflicts proof
    spent question conflicts proof is = record { of_question = (headless_clauses p k question proof.clauses).0 is.of_question; spent = is.spent }

    refuted_over : (question : Question) (proof : clauses.Proof) (added : List ℕ) → AreAdded (unrolled_of u) added →
        reports.Refutes f k (as_question question) proof →
        ((r : frames.Reading) → ¬ frames.IsTrueOver f (is_asked added u.literals.items) k r (as_question question)) →
        RefutesOver p k question (is_asked added u.literals.items) proof
    refuted_over question proof added are is none =
        refutes_over p k question proof (refuted question proof is) (is_asked added u.literals.items)
        (asked_is_right p k (unrolled_of u) g.unrolling added (asks p k layout (unrolled_of u) g added are)).0
        (λ r true_is. none (full_reading r)
        (((headless_questions p (is_asked added u.literals.items) k (full_reading r) (is_full r true_is.entry.state true_is.choice)).0 question).1 true_is))

    -- ---- what is shown

    module _ (s : Segments) where
      abbrev its : Shown
      its = shown_of (written_parts s.parts) AtEntry (entry_shown s).choices []

      at_entry : (question : frames.Question) → IsWrittenAnchor (has_heads f && asks_head question) (anchor_at u 0)
      at_entry question = subst (λ (z : Anchor). IsWrittenAnchor (has_heads f && asks_head question) z) (sym (entry_anchor u first_is)) tt

      shown_is : (question : frames.Question) → AreSegments f k own_form question u s → shown_at u s 0 ≡ its
      shown_is question is =
          ap (λ (l : List WrittenCall). shown_of (written_parts s.parts) (anchor_at u 0) (entry_shown s).choices l)
          (is.none refl 0 first_is.0 (at_entry question))
          ∙ ap (λ (z : Anchor). shown_of (written_parts s.parts) z (entry_shown s).choices []) (entry_anchor u first_is)

      abbrev start : Start
      start = shown_start (headless_whole p) f own_form its

      written : (question : frames.Question) → AreSegments f k own_form question u s → IsWritten own_form (is_known_at p) (entry_shown s)
      written question is =
          (subst (λ (z : Shown). reports.IsShown (headless_whole p) f own_form z) (shown_is question is)
          (is.shown (headless_whole p) (none_had f refl []) 0 first_is.0 (at_entry question))).entry

      -- the start of the first root ends so
      at_first : (Ends : Frame → ℕ → Start → Type 0) (question : frames.Question) → AreSegments f k own_form question u s →
          ShowsStart f k own_form Ends (shown_at u s 0) → ends.IsStart f k start × Ends f k start
      at_first Ends question is shows =
          let q = subst (ShowsStart f k own_form Ends) (shown_is question is) shows (headless_whole p) (none_had f refl []) in (q.1, q.2)

      turns_to : ends.RunTurns f k start → RunTurns p k (start_in p own_form (entry_shown s))
      turns_to r = (r.0, r.1, r.2, turned (tables.run p k (as_start start) r.0) r.1 r.2 (sym (run_is p k start refl r.0) ∙ r.3))

      has_run : (question : Question) → AreSegments f k own_form (as_question question) u s → HasRunOf p k question (start_in p own_form (entry_shown s))
      has_run EntryQuestion is = is.shows.1
      has_run FailQuestion is = let q = at_first ends.RunFails (as_question FailQuestion) is is.shows.1 in (was_start p k start q.0, fails_to p k start q.0 q.1)
      has_run TurnQuestion is =
          let inside : is.shows.0 < 1 = subst (λ (n : ℕ). is.shows.0 < n) one_root is.shows.1 in
          let first : is.shows.0 ≡ 0 = omega arith in
          let q = at_first ends.RunTurns (as_question TurnQuestion) is (subst (λ (n : ℕ). ShowsStart f k own_form ends.RunTurns (shown_at u s n)) first is.shows.2) in
          (was_start p k start q.0, turns_to q.1)

    -- ---- the answer

    told_over : (question : Question) (conflicts : ℕ) (added : List ℕ) → AreAdded (unrolled_of u) added → (a : FrameAnswered) (b : Answered) → IsTold a b →
        AnswersFrame u (as_question question) conflicts a → RulesOut u (as_question question) added a →
        IsAnsweredOver p k layout question (is_asked added u.literals.items) conflicts b
    told_over question conflicts added are (answer.Sat s) (Sat begun) told is rules =
        let segments = is f [] k own_form frame_ground in
        let same = told (segments.count ∙ one_root) in (
          subst (λ (z : Written). IsWritten layout (is_known_at p) z) (sym same)
              (same_written own_form layout (unrolled_of u) own_laid g.laid (is_known_at p) (entry_shown s) (written s (as_question question) segments)),
          subst (λ (z : Written). HasRunOf p k question (start_in p layout z)) (sym same)
              (subst (λ (z : endings.Start). HasRunOf p k question z) (same_start own_form layout (unrolled_of u) own_laid g.laid some p (entry_shown s))
              (has_run s question segments)),
        )
    told_over question conflicts added are (answer.Refuted x) (Refuted y) told is rules =
        subst (λ (z : Proof). RefutesOver p k question (is_asked added u.literals.items) (proof_of z)) told
        (refuted_over question (proof_of x) added are (is f [] k own_form frame_ground) (rules f [] k own_form frame_ground))
    told_over question conflicts added are (answer.Spent x) (Spent y) told is rules =
        subst (λ (z : Proof). Spends p k question conflicts (proof_of z)) told (spent question conflicts (proof_of x) (is f [] k own_form frame_ground))
    told_over question conflicts added are (answer.Sat s) (Refuted y) told is rules = absurd told
    told_over question conflicts added are (answer.Sat s) (Spent y) told is rules = absurd told
    told_over question conflicts added are (answer.Refuted x) (Sat begun) told is rules = absurd told
    told_over question conflicts added are (answer.Refuted x) (Spent y) told is rules = absurd told
    told_over question conflicts added are (answer.Spent x) (Sat begun) told is rules = absurd told
    told_over question conflicts added are (answer.Spent x) (Refuted y) told is rules = absurd told

-- the question of a kind is that of the frame
question_same : (kind : Kind) → frame_question (asked_of kind) ≡ as_question (kind_of kind)
question_same kinds.Entry = refl
question_same kinds.Fail = refl
question_same kinds.Turn = refl

some_registers : (q : Passive) → IsAskable q → 0 < length (unrolled_of q.unrolled.now).registers
some_registers q h = let l = h.walkable.sized.enough in omega (arith, l)

-- what the frame's question came to, the program's question came to
pub decided : (q : Passive) (kind : Kind) (asked : Asked) (conflicts : ℕ) (first : List ℕ) (d : FrameDecided) (a : Answered) → IsDecidable q →
    asked ≡ asked_of kind → IsFrameDecided q.unrolled.now (frame_question asked) conflicts first d → IsTold d.answered a →
    IsDecided (unrolled_of q.unrolled.now) (kind_of kind) conflicts first (record { answered = a; asked = d.added })
decided q kind asked conflicts first d a decidable same h told =
    let is : IsFrameDecided q.unrolled.now (as_question (kind_of kind)) conflicts first d =
    subst (λ (z : frames.Question). IsFrameDecided q.unrolled.now z conflicts first d) (ap frame_question same ∙ question_same kind) h in
    record {
      answers = λ p k layout reads g.
          told_over q.unrolled.now decidable.askable.headless (some_registers q decidable.askable) p k layout reads g (kind_of kind) conflicts d.added.items
          is.added d.answered a told is.answers is.rules;
      added = is.added;
      keep = is.keep;
    }

-- the passive program of a program is one of its frame
pub frame_askable : (u : Unrolled) (q : Passive) → IsMeasurable u → IsPassiveOf u q → IsFrameAskable q
frame_askable u q m of = record {
  walkable = subst (λ (z : Unrolled). passives.IsWalkable (frame_unrolled_of z)) (sym of.of) (frame_walkable u m.headless m.walkable);
  bytes = subst (λ (z : Unrolled). HasBytes (unrolled_of z)) (sym of.of) m.bytes;
  runs = subst (λ (z : Unrolled). AreRuns z.known.items) (sym of.of) m.runs;
  roots = subst AreRootsFormed (sym of.of) m.roots;
  own = subst BeginAtOwn (sym of.of) (own u m.headless m.roots);
  first = subst IsEntryFirst (sym of.of) (first_is u m.headless);
  passive = subst (λ (z : Unrolled). passives.IsPassive (frame_unrolled_of z) z.heads (frame_passive_of q)) (sym of.of)
      (subst (λ (z : UnrolledProgram). passives.IsPassive z u.heads (frame_passive_of q)) (sym (headless_values u m.headless))
      (subst (λ (b : Bool). passives.IsPassive (as_unrolled (unrolled_of u)) b (frame_passive_of q)) (sym m.headless.heads)
      ((headless_passive (unrolled_of u) (passive_of q) q.steps.0 (record { bit = of.steps_bit; zero = of.never })).0 of.tells)));
}
