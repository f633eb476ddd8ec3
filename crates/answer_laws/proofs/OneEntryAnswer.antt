-- To one text about the entry states of a frame there is one answer, but for the start that it shows.
use Rattle.std.proofs.Common.{◌≡◌, ℕ, ◌+◌, ◌-◌, ◌^◌, ◌<◌, ◌≤◌, true, List, ◌∷◌, [], ◌++◌, Option, Some, None, length, refl, ap, sym, ◌∙◌, subst, arith}
use Rattle.std.specs.Prelude.{codes, slice_get}
use Rattle.std.specs.List.{All}
use Rattle.std.proofs.lemmas.Option.{get_or_from_slice_get, slice_get_within}
use Rattle.word_spec.specs.State.{State, Written}
use Rattle.word_spec.specs.Texts.{line, number_text, spaced}
use Rattle.clause_spec.specs.Checks.{text_limit}
use Rattle.machine_spec.specs.MachineLaws.{with_memory}
use Rattle.machine_spec.specs.StateText.{Layout, block_text}
use Rattle.call_spec.specs.Calls.{Answer, Budget, Options, RunOf, plain_answer}
use Rattle.bilv_spec.specs.Elf.{file_endian}
use Rattle.bilv_spec.specs.Files.{is_rv, layout_of, machine_of}
use Rattle.bilv_spec.specs.Notes.{NoteLine}
use Rattle.bilv_spec.specs.Run.{Program}
use Rattle.bilv_spec.specs.Verdict.{IsEntryState}
use Rattle.frame_spec.specs.Frames.{Contract, Frame}
use Rattle.frame_spec.specs.FramePoints.{Point}
use Rattle.frame_spec.specs.FrameScripts.{AreFrameNumbered}
use Rattle.frame_spec.specs.FrameVerdict.{Whole, frame_by, frame_of}
use Rattle.model_spec.specs.ModelText.{Definition, IsAnswer, IsModelFault, ModelFault}
use Rattle.model_spec.specs.Models.{model_fault_words}
use Rattle.model_spec.proofs.Alike.{lines_same}
use Rattle.model_spec.proofs.OneFault.{one_model_fault}
use Rattle.model_text.proofs.OneAnswers.{one_answer}
use Rattle.notes_lang.specs.Framed.{IsContractOver}
use Rattle.notes_value.specs.Reads.{IsOver}
use Rattle.answer_spec.specs.FrameAnswers.{IsFrameFound}
use Rattle.answer_spec.specs.FrameModels.{IsEntryModelAnswer, large, refused, untrue, accepted, IsStateOf, frame_declared}
use Rattle.answer_spec.proofs.OneNumbering.{one_numbering}
use Rattle.answer_laws.specs.Completeness.{AreSameButRun}
use Rattle.answer_laws.specs.Contracted.{IsOfMachine}
use Rattle.answer_laws.specs.ModelAnswers.{OneEntryModelAnswer}
use Rattle.answer_laws.proofs.AcceptedStarts.{IsAlike, IsShownBy, entry_alike, shown_by}
use Rattle.answer_laws.proofs.OfMachine.{wholes_are_of_machine}
use Rattle.answer_laws.proofs.SameFrames.{same_answer}

-- lines over the registers and flags of a program's machine
abbrev AreLinesOver : Program → List NoteLine → Type 0
AreLinesOver p ls = All (λ l. IsOver p.machine.has_register p.machine.has_flag l.says) ls

-- ---- of two states of one answer both are entry states, or none is

module _ (p : Program) (layout : Layout) (shown : IsShownBy layout p.machine) (over : AreLinesOver p p.notes.requires) (ds : List Definition) (s t : State)
    (a : IsStateOf p layout ds s) (b : IsStateOf p layout ds t) where
  same_bytes : (x : ℕ) → x < 2 ^ 32 → s.mem x ≡ t.mem x
  same_bytes x l = a.mem x l ∙ sym (b.mem x l)

  moved : IsEntryState p s → IsEntryState p (with_memory s t.mem)
  moved e = record {
    state = record { pc = e.state.pc; regs = e.state.regs; flags = e.state.flags; mem = b.state.mem };
    pc = e.pc;
    link = e.link;
    kept_bytes = λ x c l at k. sym (same_bytes x l) ∙ e.kept_bytes x c l at k;
    fixed_bytes = λ x c l at k. sym (same_bytes x l) ∙ e.fixed_bytes x c l at k;
    requires =
        sym (lines_same (λ x. Unit {0}) p.machine.endian s s t.mem t.mem (λ x l u. same_bytes x l) (λ x l u. same_bytes x l) p.notes.requires (λ x c. tt))
        ∙ e.requires;
  }

  same_register : (n : ℕ) → p.machine.has_register n ≡ true → s.regs n ≡ t.regs n
  same_register n has =
      let within = shown.registers n has in
      let there : layout.first + (n - layout.first) ≡ n = omega (arith, within.0) in
      let l : n - layout.first < length layout.registers = omega (arith, within.0, within.1) in
      ap s.regs (sym there) ∙ a.regs (n - layout.first) l ∙ sym (b.regs (n - layout.first) l) ∙ ap t.regs there

  is_alike : IsAlike p.machine.has_register p.machine.has_flag (with_memory s t.mem) t
  is_alike = record {
    pc = a.pc ∙ sym b.pc;
    regs = same_register;
    flags = λ f has. a.flags f (shown.flags f has) ∙ sym (b.flags f (shown.flags f has));
    mem = refl;
  }

  carried : IsEntryState p s → IsEntryState p t
  carried e = entry_alike p over shown.link (with_memory s t.mem) t is_alike b.state (moved e)

-- ---- one answer

abbrev refusal_of : (n : ℕ) → ModelFault → Answer
refusal_of n fault = plain_answer 9 (line (codes "model: line" ++ spaced (number_text n ∷ model_fault_words fault ∷ [])))

abbrev acceptance_of : Layout → Written → Answer
acceptance_of layout w = record { status = 0; text = line (codes "accepted") ++ block_text layout w; evidence = RunOf w }

one_start : (w v : Written) → RunOf w ≡ RunOf v → w ≡ v
one_start w v e = cc

acceptances : (layout : Layout) (w v : Written) → AreSameButRun (acceptance_of layout w) (acceptance_of layout v)
acceptances layout w v = record {
  status = refl;
  shows = (λ h. h, λ h. h);
  text = λ none. absurd (none tt);
  whole = λ e. ap (acceptance_of layout) (one_start w v e);
}

module _ (f : Frame) (layout : Layout) (shown : IsShownBy layout f.program.machine) (over : AreLinesOver f.program f.program.notes.requires) (b : Budget)
    (text : List ℕ) where
  abbrev Names : List Point → Type 0
  Names points = AreFrameNumbered f b.unroll points

  -- an answer by other numbers
  answer_by : (ps qs : List Point) → Names ps → Names qs → (ds : List Definition) → IsAnswer (frame_declared f layout qs) text ds →
      IsAnswer (frame_declared f layout ps) text ds
  answer_by ps qs n m ds h = subst (λ (z : List Point). IsAnswer (frame_declared f layout z) text ds) (sym (one_numbering f b.unroll ps qs n m)) h

  no_fault : (ps qs : List Point) (n : ℕ) (fault : ModelFault) (ds : List Definition) → Names ps → Names qs → IsModelFault (frame_declared f layout ps) text n fault →
      IsAnswer (frame_declared f layout qs) text ds → ⊥
  no_fault ps qs n fault ds h k is answer =
      (one_model_fault (frame_declared f layout ps) text n n fault fault ds is).1 (answer_by ps qs h k ds answer)

  same_definitions : (ps qs : List Point) (ds es : List Definition) → Names ps → Names qs → IsAnswer (frame_declared f layout ps) text ds →
      IsAnswer (frame_declared f layout qs) text es → ds ≡ es
  same_definitions ps qs ds es h k x y = one_answer (frame_declared f layout ps) text ds es x (answer_by ps qs h k es y)

  -- what is true of the reading of one is so of that of the other
  excludes : (ps qs : List Point) (ds es : List Definition) (s t : State) → Names ps → Names qs → IsAnswer (frame_declared f layout ps) text ds →
      IsAnswer (frame_declared f layout qs) text es → IsStateOf f.program layout ds s → IsStateOf f.program layout es t → IsEntryState f.program s →
      (IsEntryState f.program t → ⊥) → ⊥
  excludes ps qs ds es s t h k x y a c entry none =
      none (carried f.program layout shown over ds s t a
      (subst (λ (z : List Definition). IsStateOf f.program layout z t) (sym (same_definitions ps qs ds es h k x y)) c) entry)

  one_refusal : (ps qs : List Point) (n m : ℕ) (v w : ModelFault) → Names ps → Names qs → IsModelFault (frame_declared f layout ps) text n v →
      IsModelFault (frame_declared f layout qs) text m w → refusal_of n v ≡ refusal_of m w
  one_refusal ps qs n m v w h k x y =
      let r = (one_model_fault (frame_declared f layout ps) text n m v w [] x).0
      (subst (λ (z : List Point). IsModelFault (frame_declared f layout z) text m w) (sym (one_numbering f b.unroll ps qs h k)) y) in
      ap (λ (z : ℕ). refusal_of z v) r.0 ∙ ap (refusal_of m) r.1

  one : (x y : Answer) → IsEntryModelAnswer f layout b text x → IsEntryModelAnswer f layout b text y → AreSameButRun x y
  one x y (large l e) (large m g) = same_answer x y (e ∙ sym g)
  one x y (large l e) (refused n v short numbered is g) = absurd (omega (arith, l, short))
  one x y (large l e) (untrue s short numbered answer reading not g) = absurd (omega (arith, l, short))
  one x y (large l e) (accepted s w short numbered answer reading entry printed g) = absurd (omega (arith, l, short))
  one x y (refused n v short numbered is e) (large l g) = absurd (omega (arith, l, short))
  one x y (refused {points = ps} n v short numbered is e) (refused {points = qs} m w also numbers fault g) =
      same_answer x y (e ∙ one_refusal ps qs n m v w numbered numbers is fault ∙ sym g)
  one x y (refused {points = ps} n v short numbered is e) (untrue {points = qs} {ds} s also numbers answer reading not g) =
      absurd (no_fault ps qs n v ds numbered numbers is answer)
  one x y (refused {points = ps} n v short numbered is e) (accepted {points = qs} {ds} s w also numbers answer reading entry printed g) =
      absurd (no_fault ps qs n v ds numbered numbers is answer)
  one x y (untrue s short numbered answer reading not e) (large l g) = absurd (omega (arith, l, short))
  one x y (untrue {points = qs} {ds} s short numbered answer reading not e) (refused {points = ps} n v also numbers is g) =
      absurd (no_fault ps qs n v ds numbers numbered is answer)
  one x y (untrue s short numbered answer reading not e) (untrue t also numbers other read none g) = same_answer x y (e ∙ sym g)
  one x y (untrue {points = ps} {ds} s short numbered answer reading not e) (accepted {points = qs} {ds = es} t w also numbers other read entry printed g) =
      absurd (excludes qs ps es ds t s numbers numbered other answer read reading entry not)
  one x y (accepted s w short numbered answer reading entry printed e) (large l g) = absurd (omega (arith, l, short))
  one x y (accepted {points = qs} {ds} s w short numbered answer reading entry printed e) (refused {points = ps} n v also numbers is g) =
      absurd (no_fault ps qs n v ds numbers numbered is answer)
  one x y (accepted {points = ps} {ds} s w short numbered answer reading entry printed e) (untrue {points = qs} {ds = es} t also numbers other read none g) =
      absurd (excludes ps qs ds es s t numbered numbers answer other reading read entry none)
  one x y (accepted s w short numbered answer reading entry printed e) (accepted t v also numbers other read enters shows g) =
      subst (λ (z : Answer). AreSameButRun z y) (sym e) (subst (λ (z : Answer). AreSameButRun (acceptance_of layout w) z) (sym g) (acceptances layout w v))

-- ---- of a frame that was found

listed : (A : Contract → Type 0) (xs : List Contract) (i : ℕ) (x : Contract) → All A xs → slice_get xs i ≡ Some x → A x
listed A xs i x all e = subst A (get_or_from_slice_get xs i x x e) (all i x (slice_get_within xs i x e))

pub one_entry_model_answer : OneEntryModelAnswer
one_entry_model_answer o file notes w rank b text x y found = by (slice_get w.contracts rank) refl
  where
    machine_is : w.program.machine ≡ machine_of o file
    machine_is = ap (λ (z : Whole). z.program.machine) found.2.4

    shows : IsShownBy (layout_of o file) w.program.machine
    shows = subst (IsShownBy (layout_of o file)) (sym machine_is) (shown_by (is_rv file) (file_endian file) o)

    of : IsOfMachine o file w
    of = wholes_are_of_machine o file notes w found

    by : (c : Option Contract) → slice_get w.contracts rank ≡ c → IsEntryModelAnswer (frame_by w rank c) (layout_of o file) b text x →
        IsEntryModelAnswer (frame_by w rank c) (layout_of o file) b text y → AreSameButRun x y
    by None e = one (frame_by w rank None) (layout_of o file) shows of.over.requires b text x y
    by (Some c) e =
        one (frame_by w rank (Some c)) (layout_of o file) shows (listed (IsContractOver w.program.machine.has_register w.program.machine.has_flag) w.contracts rank c of.changes e).needs b text x y
