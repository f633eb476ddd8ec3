-- What a reading is judged to be.
use Rattle.std.proofs.Common.{◌≡◌, ℕ, ◌^◌, ◌≤◌, ◌<◌, Bool, true, false, List, [], Option, Some, None, length, refl, ap, sym, ◌∙◌, subst}
use Rattle.std.specs.Prelude.{◌↔◌, All, if◌then◌else◌, slice_index}
use Rattle.word_spec.specs.State.{Written}
use Rattle.word_spec.specs.Memory.{byte_in}
use Rattle.word_spec.specs.Words.{bit_at}
use Rattle.machine_spec.specs.StateText.{Layout, known_or, register_at}
use Rattle.call_spec.specs.Calls.{Question}
use Rattle.bilv_spec.specs.Run.{Program}
use Rattle.bilv_spec.specs.Points.{byte_of_cell, is_known_at}
use Rattle.bilv_spec.specs.Questions.{Reading, IsTrue}
use Rattle.machine_law.specs.Facts.{IsFit}
use Rattle.term_spec.specs.Terms.{TermReading}
use Rattle.walk_spec.specs.Unrolled.{UnrolledProgram, byte_of_runs}
use Rattle.term_spec.specs.WalkQuestions.{IsTrueOfWalk}
use Rattle.model_spec.specs.ModelText.{Declared, Definition, IsAnswer}
use Rattle.model_spec.specs.Models.{AreDeclared}
use Rattle.smtlib_print.specs.Numbered.{AreNumbersOf}
use Rattle.smtlib_print.proofs.Programs.{numbered, walk_from, walk_to}
use Rattle.start_value.specs.Starts.{layout_of}
use Rattle.start_value.specs.declared.layout.Layout as forms
use Rattle.table_run.specs.Traces as traces
use Rattle.table_run.specs.Traces.{IsModelState, TakesChoices, byte_over}
use Rattle.verdict.specs.Grounds.{IsGround}
use Rattle.model_text.specs.Answers.{IsModelOf}
use Rattle.model_text.specs.Faults.{IsRefusal}
use Rattle.model_text.specs.Symbols.{AreSymbols}
use Rattle.model_text.specs.declared.fault.ModelFault.TheVariants.{Text}
use Rattle.model_text.specs.declared.fault.ModelFaultKind.{ModelFaultKind}
use Rattle.model_text.specs.declared.model.Model.{Model}
use Rattle.model_text.specs.declared.model.ModelMemory.{ModelMemory}
use Rattle.model_verdict.specs.Judgements.{IsJudged, IsRead}
use Rattle.model_verdict.specs.Models.{filler, listed, memory_over, HasModel, IsSound}
use Rattle.model_verdict.specs.Readings.{AreDrawn, IsModelled, IsOfModel, StandsFor, TakesNumbers}
use Rattle.model_verdict.specs.Runs.{AreRunChoices, IsFound, IsRunBy, IsShownAs, IsStartBy}
use Rattle.model_verdict.specs.Shown.{IsTrulyOf}
use Rattle.model_verdict.specs.declared.judged.Judged.{Judged}
use Rattle.model_verdict.specs.declared.judged.Judged.TheVariants.{Accepted, Refused, Untrue}
use Rattle.model_verdict.proofs.Declarations.{are_declared, are_symbols, declared_of}
use Rattle.model_verdict.proofs.ModelReadings as readings
use Rattle.model_verdict.proofs.ModelReadings.{is_sound, reading_is, reading_of, stands_for}
use Rattle.model_verdict.proofs.Numbers.{drawn_is}
use Rattle.model_verdict.proofs.Filled.{word_same}
use Rattle.model_verdict.proofs.Steps.{has_ended}

-- ---- whether the question is true

module _ (p : Program) (k : ℕ) (layout : Layout) (question : Question) (u : UnrolledProgram) (ground : IsGround p k layout u) (numbers : List ℕ) (m : Model)
    (sound : IsSound layout (length numbers) m) (y : TermReading) (of : IsOfModel u layout numbers m y) (b : Bool)
    (tells : (r : Reading) → StandsFor u y r → (b ≡ true) ↔ IsTrueOfWalk u r question) (r : Reading) (modelled : IsModelled u layout m r)
    (takes : TakesNumbers u numbers m r) where
  stands : StandsFor u y r
  stands = stands_for u layout ground.laid ground.fitting numbers m sound y of r modelled takes

  pub found_untrue : b ≡ false → IsFound p layout k question r Untrue
  found_untrue f t =
      let e = (tells r stands).1 (walk_from p k u ground.unrolling ground.lawful r question t) in
      let h : false ≡ true = sym f ∙ e in cc

  pub is_truly : b ≡ true → IsTrulyOf p layout k question u m y r
  is_truly e = record { modelled = modelled; stands = stands; is_true = walk_to p k u ground.unrolling ground.lawful r question ((tells r stands).0 e) }

-- what is shown of a reading of which the question is true
pub found_shown : (p : Program) (k : ℕ) (layout : Layout) (question : Question) (r : Reading) (j : Judged) → IsTrue p k r question →
    IsShownAs p layout k question r j → IsFound p layout k question r j
found_shown p k layout question r (Accepted end start) t h = (t, h)
found_shown p k layout question r Untrue t h = absurd h
found_shown p k layout question r (Refused line kind) t h = absurd h

-- what is found of the reading of an answer
pub judged_found : (p : Program) (k : ℕ) (layout : Layout) (question : Question) (text : List ℕ) (r : Reading) (j : Judged) → IsRead p layout k text r →
    IsFound p layout k question r j → IsJudged p layout k question text j
judged_found p k layout question text r (Accepted end start) read h = record { reading = r; is_read = read; is_true = h.0; shown = h.1 }
judged_found p k layout question text r Untrue read h = record { reading = r; is_read = read; untrue = h }
judged_found p k layout question text r (Refused line kind) read h = absurd h

-- ---- its start

module _ (p : Program) (k : ℕ) (layout : Layout) (question : Question) (u : UnrolledProgram) (ground : IsGround p k layout u) (m : Model) (count : ℕ)
    (sound : IsSound layout count m) (w : Written) (has : HasModel m w) where
  pub fits : IsFit layout w
  fits = record {
    registers = ap (λ (xs : List ℕ). length xs) has.regs ∙ sound.registers;
    flags = subst (λ (n : ℕ). n < 2 ^ length layout.flags) (sym has.flags) sound.flags;
  }

  -- the bytes that the model lists are those of its memory where the file gives none
  over_by : (o : Option ModelMemory) → traces.IsOver p (filler o) (listed o) (memory_over u.known o)
  over_by None a l unknown =
      ap (λ z. known_or (byte_of_runs u.known z) [] a) (word_same a l) ∙ ap (λ z. known_or z [] a) (ground.unrolling.known a l ∙ none (is_known_at p a) unknown)
    where
      none : (b : Bool) → b ≡ false → (if b then Some (byte_of_cell (p.loaded a)) else None) ≡ None
      none true e = absurd (cc)
      none false e = refl
  over_by (Some n) a l unknown = ap (byte_over n.fill n.bytes.items) (word_same a l)

  module _ (y : TermReading) (r : Reading) (truly : IsTrulyOf p layout k question u m y r) where
    pub start_by : IsStartBy p layout k question w (filler m.memory) (listed m.memory) r
    start_by = record {
      reading = truly.modelled.reading;
      is_true = truly.is_true;
      fit = fits;
      words = subst (All (λ v. v < 2 ^ 32)) (sym has.regs) sound.words;
      regs = truly.modelled.regs ∙ ap (register_at layout) (sym has.regs);
      flags = truly.modelled.flags ∙ ap (λ (n : ℕ). λ (f : ℕ). bit_at f n) (sym has.flags);
      mem = subst (traces.IsOver p (filler m.memory) (listed m.memory)) (sym truly.modelled.mem) (over_by m.memory);
    }

    pub run_by : (limit : ℕ) → length u.points ≤ limit → AreRunChoices p k r w.choices →
        IsRunBy p layout k limit question w (filler m.memory) (listed m.memory) r
    run_by limit few choices = record { start = start_by; choices = choices; ended = has_ended p k layout u ground question r truly.is_true limit few }

-- ---- what a run of it needs

module _ (p : Program) (k : ℕ) (layout : Layout) (question : Question) (w : Written) (fill : ℕ) (bytes : List (ℕ × ℕ)) (r : Reading)
    (start : IsStartBy p layout k question w fill bytes r) where
  pub model_state : IsModelState p layout w fill bytes r.state
  model_state = record { entry = start.is_true.entry; regs = start.regs; flags = start.flags; mem = start.mem }

  pub takes_choices : AreRunChoices p k r w.choices → TakesChoices p k r (byte_in w.choices)
  takes_choices choices n turns c e drawn = choices.each n turns c e drawn

-- ---- what is known of a text that was read

module _ (p : Program) (k : ℕ) (layout : Layout) (u : UnrolledProgram) (ground : IsGround p k layout u) (numbers : List ℕ) (m : Model)
    (sound : IsSound layout (length numbers) m) where
  -- a model has a reading
  pub some_reading : (r : Reading) × IsModelled u layout m r × TakesNumbers u numbers m r
  some_reading = (
    reading_of p k layout u ground.unrolling ground.fitting numbers m sound,
    readings.modelled p k layout u ground.unrolling ground.fitting numbers m sound,
    readings.takes p k layout u ground.unrolling ground.fitting numbers m sound,
  )

module _ (p : Program) (k : ℕ) (question : Question) (text : List ℕ) (u : UnrolledProgram) (numbers : List ℕ) (of : AreNumbersOf u numbers) (drawn : List Bool)
    (are : AreDrawn u numbers drawn) (form : forms.Layout) where
  abbrev declared : List Declared
  declared = declared_of (layout_of form) drawn

  module _ (ground : IsGround p k (layout_of form) u) where
    declares : AreDeclared p (layout_of form) of.0 declared
    declares = are_declared form drawn p of.0 (drawn_is p k u ground.unrolling numbers of.0 of.1 of.2 drawn are)

    refused_text : (line : ℕ) (kind : ModelFaultKind) → IsRefusal declared text (Text line kind) →
        IsJudged p (layout_of form) k question text (Refused line kind)
    refused_text line kind fault = record {
      points = of.0;
      declared = declared;
      are_numbered = numbered p k u ground.unrolling of.0 of.1;
      are_declared = declares;
      is_fault = fault;
    }

    module _ (ds : List Definition) (answer : IsAnswer declared text ds) (m : Model) (sound : IsSound (layout_of form) (length numbers) m)
        (is : IsModelOf (layout_of form) (length numbers) ds m) where
      judged_text : (j : Judged) →
          ((r : Reading) → IsModelled u (layout_of form) m r → TakesNumbers u numbers m r → IsFound p (layout_of form) k question r j) →
          IsJudged p (layout_of form) k question text j
      judged_text j found =
          let some = some_reading p k (layout_of form) u ground numbers m sound in
          judged_found p k (layout_of form) question text some.0 j (record {
            points = of.0;
            declared = declared;
            definitions = ds;
            are_numbered = numbered p k u ground.unrolling of.0 of.1;
            are_declared = declares;
            is_answer = answer;
            is_reading = reading_is p k (layout_of form) u ground.unrolling numbers of.0 of.1 of.2 m ds is some.0 some.1 some.2;
          }) (found some.0 some.1 some.2)

  -- a text that is refused, and one that gives a model
  text_refused : (layout : Layout) → layout_of form ≡ layout → IsGround p k layout u → (line : ℕ) (kind : ModelFaultKind) →
      IsRefusal declared text (Text line kind) → IsJudged p layout k question text (Refused line kind)
  text_refused layout same =
      subst (λ l. IsGround p k l u → (line : ℕ) (kind : ModelFaultKind) → IsRefusal declared text (Text line kind) →
      IsJudged p l k question text (Refused line kind)) same refused_text

  drawn_count : length drawn ≡ length numbers
  drawn_count = are.count ∙ sym of.2.count

  model_sound : (layout : Layout) → layout_of form ≡ layout → (ds : List Definition) (m : Model) → ((i : ℕ) → slice_index m.registers.items i < 2 ^ 32) →
      filler m.memory < 256 → IsModelOf (layout_of form) (length drawn) ds m → IsSound layout (length numbers) m
  model_sound layout same ds m words fill is =
      subst (λ l. IsSound l (length numbers) m) same
      (is_sound (layout_of form) (length numbers) ds m words fill (subst (λ n. IsModelOf (layout_of form) n ds m) drawn_count is))

  text_judged : (layout : Layout) → layout_of form ≡ layout → IsGround p k layout u → (ds : List Definition) (m : Model) → IsAnswer declared text ds →
      IsModelOf (layout_of form) (length drawn) ds m → IsSound layout (length numbers) m → (j : Judged) →
      ((r : Reading) → IsModelled u layout m r → TakesNumbers u numbers m r → IsFound p layout k question r j) → IsJudged p layout k question text j
  text_judged layout same ground ds m answer is =
      subst (λ l. IsGround p k l u → IsSound l (length numbers) m → (j : Judged) →
      ((r : Reading) → IsModelled u l m r → TakesNumbers u numbers m r → IsFound p l k question r j) → IsJudged p l k question text j) same
      (λ here sound. judged_text here ds answer m sound (subst (λ n. IsModelOf (layout_of form) n ds m) drawn_count is)) ground

  -- ---- by the clauses of the reader

  pub refused_by : (layout : Layout) → layout_of form ≡ layout → IsGround p k layout u → (line : ℕ) (kind : ModelFaultKind) →
      ((xs : List Declared) → AreSymbols (layout_of form) drawn xs → IsRefusal xs text (Text line kind)) → IsJudged p layout k question text (Refused line kind)
  refused_by layout same ground line kind refusal =
      text_refused layout same ground line kind (refusal (declared_of (layout_of form) drawn) (are_symbols (layout_of form) drawn))

  module _ (layout : Layout) (same : layout_of form ≡ layout) (m : Model)
      (read : (xs : List Declared) → AreSymbols (layout_of form) drawn xs →
      (ds : List Definition) × IsAnswer xs text ds × IsModelOf (layout_of form) (length drawn) ds m)
      (words : (i : ℕ) → slice_index m.registers.items i < 2 ^ 32) (fill : filler m.memory < 256) where
    pub sound_by : IsSound layout (length numbers) m
    sound_by =
        let found = read (declared_of (layout_of form) drawn) (are_symbols (layout_of form) drawn) in
        model_sound layout same found.0 m words fill found.2

    pub judged_by : IsGround p k layout u → (j : Judged) →
        ((r : Reading) → IsModelled u layout m r → TakesNumbers u numbers m r → IsFound p layout k question r j) → IsJudged p layout k question text j
    judged_by ground =
        let found = read (declared_of (layout_of form) drawn) (are_symbols (layout_of form) drawn) in
        text_judged layout same ground found.0 m found.1 found.2 sound_by
