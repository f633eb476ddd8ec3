-- What a call that compares two functions says of them, and the replay of a difference that it printed.
use Rattle.std.proofs.Common.{◌≡◌, ℕ, ◌<◌, ◌≤◌, ◌^◌, refl, ap, sym, ◌∙◌, subst, arith, List, [], ◌∷◌, ◌++◌, length, Some}
use Rattle.std.specs.Prelude.{codes, ◌-◌, Contains}
use Rattle.answer_laws.specs.Compared.{AreFoundEqual, EqualMeans, ShowsTwo, DifferenceIsReplayed}
use Rattle.answer_laws.specs.EqualFindings.{AreCompared}
use Rattle.answer_laws.specs.Replayed.{AreBytes}
use Rattle.answer_laws.specs.Told.{AreToldTo, AfterPairFiles}
use Rattle.answer_laws.proofs.EndingNames.{exit_is_written}
use Rattle.answer_laws.proofs.LinkLines.{differing_few}
use Rattle.answer_laws.proofs.OneProgram.{one_program, refused_or_accepted, paired_refused_or_found}
use Rattle.answer_laws.proofs.Told.{answer_told, outcome_told}
use Rattle.answer_laws.proofs.TwoCalls.{printed_is}
use Rattle.answer_spec.specs.Outcomes.{IsOutcome, whole, cut, no_memory}
use Rattle.bilv_spec.specs.Answers.{Report, HoldsReport, VacuousReport, FailsReport, UnrollReport, PointsReport, SizeReport, ConflictsReport, IsRightReport, start_in}
use Rattle.bilv_spec.specs.Files.{layout_of}
use Rattle.bilv_spec.specs.Points.{Point, IsPoint, HasMore}
use Rattle.bilv_spec.specs.Run.{Program}
use Rattle.call_spec.specs.Calls.{Answer, Budget, IsBudget, Evidence, NoEvidence, Refutations, EntryRefuted, RunOf, SpentOn, Count, Two, Both, SpentOnPair, Inductive, FromHead, Frames, WithCalls, SpentOnFrame, Options, Surroundings, plain_answer}
use Rattle.call_spec.specs.Outside.{Appends}
use Rattle.clause_spec.specs.Checks.{text_limit}
use Rattle.command_spec.specs.Commands.{PairNames, Equal, Differ}
use Rattle.machine_spec.specs.StateText.{last_step}
use Rattle.pair_spec.specs.Differs.{differ_answer}
use Rattle.pair_spec.specs.Equals.{PairReport, OfFirst, OfSecond, NoPairReport, DiffersReport, EqualReport, PairPointsReport, PairSizeReport, PairConflictsReport, IsRightPair, IsPairReported, pair_text, side_of, differs_words, elf_refused, elf_accepted, notes_refused, program_found, too_large, refused, linked}
use Rattle.pair_spec.specs.Links.{Link}
use Rattle.pair_spec.specs.Pairs.{HaveMore}
use Rattle.pair_spec.proofs.DifferenceTold.{difference_replays}
use Rattle.pair_spec.proofs.ExitLaws.{run_has_exit}
use Rattle.pair_spec.proofs.LinkTexts.{one_links, links_have_no_fault}
use Rattle.word_spec.specs.State.{Written}
use Rattle.word_spec.specs.Texts.{line, joined}

-- ---- what an answer over told files is of

module _ (o : Options) (content : List ℕ → List ℕ) (names : PairNames) where
  -- an answer that is no refusal is due to such
  pair_of : (Next : (p q : Program) → List Link → Answer → Type 0) (a : Answer) → ((status : ℕ) (written : List ℕ) → 4 ≤ status →
      a ≡ plain_answer status written → ⊥) → AfterPairFiles o content names Next a → (x : AreCompared o content names) × Next x.first x.second x.links a
  pair_of Next a other (elf_refused w x is) = absurd (other 4 _ (omega arith) is)
  pair_of Next a other (elf_accepted x (elf_refused w y is)) = absurd (other 4 _ (omega arith) is)
  pair_of Next a other (elf_accepted x (elf_accepted y (notes_refused w z is))) = absurd (other 5 _ (omega arith) is)
  pair_of Next a other (elf_accepted x (elf_accepted y (program_found p f (notes_refused w z is)))) = absurd (other 5 _ (omega arith) is)
  pair_of Next a other (elf_accepted x (elf_accepted y (program_found p f (program_found q g (too_large large is))))) = absurd (other 5 _ (omega arith) is)
  pair_of Next a other (elf_accepted x (elf_accepted y (program_found p f (program_found q g (refused n fault short first is))))) =
      absurd (other 5 _ (omega arith) is)
  pair_of Next a other (elf_accepted x (elf_accepted y (program_found p f (program_found q g (linked links short says next))))) =
      (record { first = p; second = q; links = links; first_found = f; second_found = g; short = short; said = says }, next)

  -- what is due to the programs and links that the files are
  pub next_of : (Next : (p q : Program) → List Link → Answer → Type 0) (a : Answer) (x : AreCompared o content names) → AfterPairFiles o content names Next a →
      Next x.first x.second x.links a
  next_of Next a x (elf_refused w y is) = absurd (refused_or_accepted (content names.elf) w y x.first_found.0)
  next_of Next a x (elf_accepted f (elf_refused w y is)) = absurd (refused_or_accepted (content names.other_elf) w y x.second_found.0)
  next_of Next a x (elf_accepted f (elf_accepted g (notes_refused w y is))) =
      absurd (paired_refused_or_found o (content names.elf) (content names.notes) w x.first y x.first_found)
  next_of Next a x (elf_accepted f (elf_accepted g (program_found p m (notes_refused w y is)))) =
      absurd (paired_refused_or_found o (content names.other_elf) (content names.other_notes) w x.second y x.second_found)
  next_of Next a x (elf_accepted f (elf_accepted g (program_found p m (program_found q n (too_large large is))))) =
      absurd (let short = x.short in omega (arith, short, large))
  next_of Next a x (elf_accepted f (elf_accepted g (program_found p m (program_found q n (refused i fault short first is))))) =
      absurd (links_have_no_fault _ _ (content names.links) x.links i fault x.said first)
  next_of Next a x (elf_accepted f (elf_accepted g (program_found p m (program_found q n (linked links short says is))))) =
      subst (λ z. Next x.first x.second z a) (one_links _ _ (content names.links) links x.links says x.said)
      (subst (λ z. Next x.first z links a) (one_program o (content names.other_elf) (content names.other_notes) q x.second n x.second_found)
      (subst (λ z. Next z q links a) (one_program o (content names.elf) (content names.notes) p x.first m x.first_found) is))

-- ---- the text that says that two functions are equal

abbrev first_byte : List ℕ → ℕ
first_byte [] = 0
first_byte (b ∷ rest) = b

module _ (o : Options) (content : List ℕ → List ℕ) (names : PairNames) (b : Budget) (a : Answer) (text : a.text ≡ line (codes "equal")) where
  -- no other report begins with the same letter
  other : (first : ℕ) (written : List ℕ) → first_byte written ≡ first → a.text ≡ written → (first ≡ 101 → ⊥) → ⊥
  other first written is same differs = differs (sym is ∙ ap first_byte (sym same ∙ text))

  of_report : (x : AreCompared o content names) →
      IsPairReported (side_of o (content names.elf) x.first) (side_of o (content names.other_elf) x.second) x.links b a →
      AreFoundEqual o content names b.unroll
  of_report x (EqualReport, Both e f u v proof, right, is) = record {
    first = x.first;
    second = x.second;
    links = x.links;
    first_found = x.first_found;
    second_found = x.second_found;
    said = x.said;
    first_holds = right.1.1;
    second_holds = right.2.1;
    equal = right.3;
  }
  of_report x (EqualReport, e, right, is) = absurd right
  of_report x (OfFirst r, e, right, is) = absurd (other 102 _ refl (ap (λ (y : Answer). y.text) is) (λ h. omega (arith, h)))
  of_report x (OfSecond r, e, right, is) = absurd (other 115 _ refl (ap (λ (y : Answer). y.text) is) (λ h. omega (arith, h)))
  of_report x (NoPairReport, e, right, is) = absurd (other 110 _ refl (ap (λ (y : Answer). y.text) is) (λ h. omega (arith, h)))
  of_report x (DiffersReport n i j, e, right, is) = absurd (other 100 _ refl (ap (λ (y : Answer). y.text) is) (λ h. omega (arith, h)))
  of_report x (PairPointsReport, e, right, is) = absurd (other 117 _ refl (ap (λ (y : Answer). y.text) is) (λ h. omega (arith, h)))
  of_report x (PairSizeReport, e, right, is) = absurd (other 117 _ refl (ap (λ (y : Answer). y.text) is) (λ h. omega (arith, h)))
  of_report x (PairConflictsReport, e, right, is) = absurd (other 117 _ refl (ap (λ (y : Answer). y.text) is) (λ h. omega (arith, h)))

pub equal_means : EqualMeans
equal_means s o content names b e told (whole a due appends status evidence) printed =
    let no : (n : ℕ) (written : List ℕ) → 4 ≤ n → a ≡ plain_answer n written → ⊥ =
    λ n written above is. let zero_is : 0 ≡ n = status ∙ ap (λ (x : Answer). x.status) is in omega (arith, above, zero_is) in
    let found = pair_of o content names (λ p q links. IsPairReported (side_of o (content names.elf) p) (side_of o (content names.other_elf) q) links b) a no
    (answer_told s content (Equal o names b) a told due) in
    of_report o content names b a (printed_is s (line (codes "equal")) a.text printed appends) found.0 found.1
equal_means s o content names b e told (cut a n due l appends rose status evidence) printed = absurd (omega (arith, status))
equal_means s o content names b e told (no_memory appends status evidence) printed = absurd (omega (arith, status))

-- ---- a difference

no_two : (p : Program) (layout : _) (b : Budget) (r : Report) (x y : Written) → IsRightReport p layout b r (Two x y) → ⊥
no_two p layout b HoldsReport x y h = h
no_two p layout b VacuousReport x y h = h
no_two p layout b (FailsReport e at step) x y h = h
no_two p layout b (UnrollReport at step) x y h = h
no_two p layout b PointsReport x y h = h
no_two p layout b SizeReport x y h = h
no_two p layout b ConflictsReport x y h = h

-- what a report that shows two starts is of
record IsOfTwo (o : Options) (content : List ℕ → List ℕ) (names : PairNames) (b : Budget) (a : Answer) : Type 0 where
  pub pair : AreCompared o content names
  pub line_is : ℕ
  pub first_step : ℕ
  pub second_step : ℕ
  pub first_start : Written
  pub second_start : Written
  pub right : IsRightPair (side_of o (content names.elf) pair.first) (side_of o (content names.other_elf) pair.second) pair.links b
      (DiffersReport line_is first_step second_step) (Two first_start second_start)
  pub text : a.text ≡ pair_text (side_of o (content names.elf) pair.first) (side_of o (content names.other_elf) pair.second) b
      (DiffersReport line_is first_step second_step) (Two first_start second_start)

module _ (o : Options) (content : List ℕ → List ℕ) (names : PairNames) (b : Budget) (a : Answer) where
  two_of : (x : AreCompared o content names) (r : PairReport) (e : Evidence) → ShowsTwo e →
      IsRightPair (side_of o (content names.elf) x.first) (side_of o (content names.other_elf) x.second) x.links b r e →
      a.text ≡ pair_text (side_of o (content names.elf) x.first) (side_of o (content names.other_elf) x.second) b r e → IsOfTwo o content names b a
  two_of x (DiffersReport n i j) (Two v w) shows right text =
      record { pair = x; line_is = n; first_step = i; second_step = j; first_start = v; second_start = w; right = right; text = text }
  two_of x (OfFirst r) (Two v w) shows right text = absurd (no_two x.first _ b r v w right.2)
  two_of x (OfSecond r) (Two v w) shows right text = absurd (no_two x.second _ b r v w right.3)
  two_of x NoPairReport (Two v w) shows right text = absurd right
  two_of x EqualReport (Two v w) shows right text = absurd right
  two_of x PairPointsReport (Two v w) shows right text = absurd right
  two_of x PairSizeReport (Two v w) shows right text = absurd right
  two_of x PairConflictsReport (Two v w) shows right text = absurd right
  two_of x r NoEvidence shows right text = absurd shows
  two_of x r (Refutations w fail turn) shows right text = absurd shows
  two_of x r (EntryRefuted proof) shows right text = absurd shows
  two_of x r (RunOf w) shows right text = absurd shows
  two_of x r (SpentOn kind proof) shows right text = absurd shows
  two_of x r (Count n) shows right text = absurd shows
  two_of x r (Both u v w z proof) shows right text = absurd shows
  two_of x r (SpentOnPair kind proof) shows right text = absurd shows
  two_of x r (Inductive w fail step turn) shows right text = absurd shows
  two_of x r (FromHead w head) shows right text = absurd shows
  two_of x r (Frames list) shows right text = absurd shows
  two_of x r (WithCalls rank w calls) shows right text = absurd shows
  two_of x r (SpentOnFrame rank question proof) shows right text = absurd shows

  two_answered : ShowsTwo a.evidence →
      AfterPairFiles o content names
      (λ p q links. IsPairReported (side_of o (content names.elf) p) (side_of o (content names.other_elf) q) links b) a → IsOfTwo o content names b a
  two_answered shows due =
      let no : (n : ℕ) (written : List ℕ) → 4 ≤ n → a ≡ plain_answer n written → ⊥ =
      λ n written above is. subst ShowsTwo (ap (λ (x : Answer). x.evidence) is) shows in
      let found = pair_of o content names (λ p q links. IsPairReported (side_of o (content names.elf) p) (side_of o (content names.other_elf) q) links b) a no
      due in
      two_of found.0 found.1.0 found.1.1 (subst ShowsTwo (ap (λ (x : Answer). x.evidence) found.1.3) shows) found.1.2
      (ap (λ (x : Answer). x.text) found.1.3)

two_written : (s : Surroundings) (o : Options) (content : List ℕ → List ℕ) (names : PairNames) (b : Budget) (first : ℕ) (e : Evidence) →
    AreToldTo s content (Equal o names b) → IsOutcome s (Some (Equal o names b)) first e → ShowsTwo e →
    (a : Answer) × IsOfTwo o content names b a × Appends s.text_before a.text s.text_after
two_written s o content names b first e told (whole a due appends status evidence) shows =
    (a, two_answered o content names b a (subst ShowsTwo evidence shows) (answer_told s content (Equal o names b) a told due), appends)
two_written s o content names b first e told (cut a n due l appends rose status evidence) shows = absurd (subst ShowsTwo evidence shows)
two_written s o content names b first e told (no_memory appends status evidence) shows = absurd (subst ShowsTwo evidence shows)

-- the other side has one point at least
one_point : (p : Program) (k : ℕ) → HasMore p k 0
one_point p k = (
  entry ∷ [],
  omega arith,
  (λ point h. subst (IsPoint p k) (entry_only point h) IsPoint.first),
  (λ i j l h e. omega (arith, l, h)),
)
  where
    entry : Point
    entry = record { turns = 0; stack = []; at = p.entry }

    entry_only : (point : Point) → Contains (entry ∷ []) point → entry ≡ point
    entry_only point h = grind arith

few_of_first : (p q : Program) (k max : ℕ) → 1 ≤ max → (¬ HaveMore p q k max) → ¬ HasMore p k max
few_of_first p q k max some few more =
    few (max - 1, 0, (more.0, (let l = more.1 in omega (arith, some, l)), more.2, more.3), one_point q k, omega (arith, some))

few_of_second : (p q : Program) (k max : ℕ) → 1 ≤ max → (¬ HaveMore p q k max) → ¬ HasMore q k max
few_of_second p q k max some few more =
    few (0, max - 1, one_point p k, (more.0, (let l = more.1 in omega (arith, some, l)), more.2, more.3), omega (arith, some))

module _ (o : Options) (content : List ℕ → List ℕ) (names : PairNames) (b : Budget) (budget : IsBudget b) (bytes : AreBytes (content names.elf))
    (other_bytes : AreBytes (content names.other_elf)) (a : Answer) (x : IsOfTwo o content names b a) where
  abbrev text : List ℕ
  text = pair_text (side_of o (content names.elf) x.pair.first) (side_of o (content names.other_elf) x.pair.second) b
      (DiffersReport x.line_is x.first_step x.second_step) (Two x.first_start x.second_start)

  line_small : x.line_is < 2 ^ 64
  line_small =
      let apart = x.right.5 in
      let few = differing_few _ _ (content names.links) x.pair.links apart.first_state apart.second_state x.line_is x.pair.said apart.apart in
      omega (arith, few)

  first_small : x.first_step ≤ last_step
  first_small =
      let apart = x.right.5 in
      exit_is_written o (content names.elf) (content names.notes) x.pair.first bytes x.pair.first_found.2 b (budget.unroll, budget.points.1)
      (few_of_first x.pair.first x.pair.second b.unroll b.points budget.points.0 x.right.0.points)
      (start_in x.pair.first (layout_of o (content names.elf)) x.first_start) x.right.4.first.entry apart.first_at x.first_step
      ((run_has_exit x.pair.first b.unroll (start_in x.pair.first (layout_of o (content names.elf)) x.first_start) apart.first_at x.first_step).1
      (apart.first_state, apart.first))

  second_small : x.second_step ≤ last_step
  second_small =
      let apart = x.right.5 in
      exit_is_written o (content names.other_elf) (content names.other_notes) x.pair.second other_bytes x.pair.second_found.2 b
      (budget.unroll, budget.points.1)
      (few_of_second x.pair.first x.pair.second b.unroll b.points budget.points.0 x.right.0.points)
      (start_in x.pair.second (layout_of o (content names.other_elf)) x.second_start) x.right.4.second.entry apart.second_at x.second_step
      ((run_has_exit x.pair.second b.unroll (start_in x.pair.second (layout_of o (content names.other_elf)) x.second_start) apart.second_at
      x.second_step).1 (apart.second_state, apart.second))

  replayed : length text ≤ text_limit →
      differ_answer (side_of o (content names.elf) x.pair.first) (side_of o (content names.other_elf) x.pair.second) x.pair.links text
      ≡ plain_answer 0 (line (codes "replayed " ++ joined (differs_words x.line_is x.first_step x.second_step)))
  replayed short =
      difference_replays o (content names.elf) (content names.other_elf) x.pair.first x.pair.second x.pair.links b x.line_is x.first_step x.second_step
      x.first_start x.second_start x.right line_small first_small second_small short

pub difference_is_replayed : DifferenceIsReplayed
difference_is_replayed s t o content names report b first status e f bytes other_bytes budget told outcome shows printed short told_too sufficed outcome_too =
    let written = two_written s o content names b first e told outcome shows in
    let a = written.0 in
    let x = written.1 in
    let is : content report ≡ text o content names b budget bytes other_bytes a x = sym (printed_is s (content report) a.text printed written.2) ∙ x.text in
    let answered = outcome_told t content (Differ o names report) status f told_too sufficed.0 sufficed.1 outcome_too in
    let due : Program → Program → List Link → Answer =
    λ p q links. differ_answer (side_of o (content names.elf) p) (side_of o (content names.other_elf) q) links (content report) in
    let same = next_of o content names (λ p q links y. y ≡ due p q links) answered.0 x.pair answered.1
    ∙ ap (differ_answer (side_of o (content names.elf) x.pair.first) (side_of o (content names.other_elf) x.pair.second) x.pair.links) is
    ∙ replayed o content names b budget bytes other_bytes a x (subst (λ z. length z ≤ text_limit) is short) in (
      x.line_is,
      x.first_step,
      x.second_step,
      _,
      is,
      (answered.2 ∙ ap (λ (y : Answer). y.status) same, subst (λ z. Appends t.text_before z t.text_after) (ap (λ (y : Answer). y.text) same) answered.4),
    )
