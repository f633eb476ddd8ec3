-- What two functions come to is one thing, and the comparison reports it.
use Rattle.std.proofs.Common.{◌≡◌, ◌≢◌, ◌⊎◌, inl, inr, ℕ, ◌+◌, ◌*◌, ◌<◌, refl, ap, sym, ◌∙◌, subst, arith, Bool, true, false, List, [], ◌∷◌, ◌++◌, length}
use Rattle.std.specs.Prelude.{codes, filter, if◌then◌else◌, map, sum_by}
use Rattle.std.specs.List.{flat_map, list_any}
use Rattle.std.proofs.lemmas.List.Sums.{sum_by-cons, sum_by-append}
use Rattle.answer_laws.specs.Compared.{ShowsTwo}
use Rattle.answer_laws.specs.Completeness.{IsSpentEvidence, ShowsRun, Says, HasVerdict}
use Rattle.answer_laws.specs.EqualFindings.{AreCompared, PairFinding, TooManyPoints, TooLarge, FirstHas, SecondHas, NoneLinked, SomeDiffer, AllAlike, PairComesTo, OnePairPrice, PairSays, PairFindingIsReported, EqualIsComplete, ShowsRuns, AreSameButRuns, OnePairAnswer}
use Rattle.answer_laws.proofs.Compared.{next_of}
use Rattle.answer_laws.proofs.OneProgram.{one_elf_refusal, one_program, one_refusal_in, paired_refused_or_found, refused_or_accepted}
use Rattle.answer_laws.proofs.Told.{answer_told}
use Rattle.answer_spec.specs.Outcomes.{whole, cut, no_memory}
use Rattle.bilv_spec.specs.Answers.{Report, HoldsReport, VacuousReport, FailsReport, UnrollReport, PointsReport, SizeReport, ConflictsReport, IsRightReport, start_in, status_of}
use Rattle.bilv_spec.specs.Evidence.{loads_among}
use Rattle.bilv_spec.specs.Notes.{Expr}
use Rattle.bilv_spec.specs.Points.{Point, ArePoints, IsCount, begins_run, bytes_loaded, edges, evaluated, file_row, is_exit, is_known_at, loads_at, price_of, stores_at}
use Rattle.bilv_spec.specs.Run.{Program}
use Rattle.bilv_spec.specs.Verdict.{Verdict, Holds, Vacuous, Fails, Unroll, IsRight}
use Rattle.bilv_spec.proofs.AllPoints.{one_count, one_price, sum_lines}
use Rattle.bilv_spec.proofs.One.{one_verdict}
use Rattle.bilv_spec.proofs.Pigeons.{same_sum}
use Rattle.call_spec.specs.Calls.{Answer, Budget, Evidence, EntryRefuted, RunOf, SpentOn, Count, Two, Both, SpentOnPair, Options, plain_answer}
use Rattle.call_spec.specs.Outside.{Appends}
use Rattle.command_spec.specs.Commands.{PairNames, Equal}
use Rattle.machine_spec.specs.StateText.{Layout}
use Rattle.notes_spec.specs.Scopes.{Paired}
use Rattle.pair_spec.specs.Equals.{Side, PairReport, OfFirst, OfSecond, NoPairReport, DiffersReport, EqualReport, PairPointsReport, PairSizeReport, PairConflictsReport, AreWithin, IsOther, IsRightPair, IsPairReported, pair_status, pair_text, side_of, side_text, AfterElfOf, AfterNotesOf, AfterLinks, elf_refused, elf_accepted, notes_refused, program_found, too_large, refused, linked, link_fault_words}
use Rattle.pair_spec.specs.Links.{Link}
use Rattle.pair_spec.specs.Pairs.{AreDifferent, IsLinkedPair, IsPairPrice, added_price, exit_points, linked_loads, links_price, same_bytes, shared_bytes, side_price}
use Rattle.pair_spec.proofs.OnePair.{equal_not_different}
use Rattle.pair_spec.proofs.LinkTexts.{one_links, one_link_fault, links_have_no_fault}
use Rattle.word_spec.specs.State.{State}
use Rattle.word_spec.specs.Texts.{line, number_text, spaced}

-- ---- the price

kept_or : {X : Type 0} (b : Bool) (x : X) (rest : List X) → length (if b then x ∷ rest else rest) ≡ (if b then 1 else 0) + length rest
kept_or true x rest = omega arith
kept_or false x rest = omega arith

-- how many pass a test is a sum
counted : {X : Type 0} (f : X → Bool) (xs : List X) → length (filter f xs) ≡ sum_by (λ x. if f x then 1 else 0) xs
counted f [] = refl
counted f (x ∷ xs) = kept_or (f x) x (filter f xs) ∙ ap (λ z. (if f x then 1 else 0) + z) (counted f xs) ∙ sym (sum_by-cons (λ x. if f x then 1 else 0) x xs)

module _ (p : Program) (k : ℕ) (xs ys : List Point) (a : ArePoints p k xs) (b : ArePoints p k ys) where
  same : (f : Point → ℕ) → sum_by f xs ≡ sum_by f ys
  same f = same_sum f xs ys a.once b.once (λ y h. b.all y (a.only y h)) (λ y h. a.all y (b.only y h))

  same_lines : (f : Expr → ℕ) (before : List Expr) → sum_by f (before ++ flat_map (evaluated p) xs) ≡ sum_by f (before ++ flat_map (evaluated p) ys)
  same_lines f before =
      sum_by-append f before (flat_map (evaluated p) xs)
      ∙ ap (λ z. sum_by f before + z) (sum_lines f (evaluated p) xs ∙ same (λ x. sum_by f (evaluated p x)) ∙ sym (sum_lines f (evaluated p) ys))
      ∙ sym (sum_by-append f before (flat_map (evaluated p) ys))

  same_exits : exit_points p xs ≡ exit_points p ys
  same_exits =
      counted (λ q. list_any is_exit (edges p q)) xs ∙ same (λ q. if list_any is_exit (edges p q) then 1 else 0)
      ∙ sym (counted (λ q. list_any is_exit (edges p q)) ys)

  same_loads : loads_among p xs ≡ loads_among p ys
  same_loads =
      ap (λ z. z + sum_by bytes_loaded (map (λ l. l.says) p.notes.requires ++ flat_map (evaluated p) xs))
      (same (λ point. loads_at p point.at (file_row p point.at)))
      ∙ ap (λ z. sum_by (λ point. loads_at p point.at (file_row p point.at)) ys + z) (same_lines bytes_loaded (map (λ l. l.says) p.notes.requires))

  same_linked : (links : List Link) → linked_loads links p xs ≡ linked_loads links p ys
  same_linked links = ap (λ z. shared_bytes links + same_bytes links * z) same_exits

  module _ (links : List Link) (n m r s : ℕ) (known : IsCount (is_known_at p) n) (other_known : IsCount (is_known_at p) m) (runs : IsCount (begins_run p) r)
      (other_runs : IsCount (begins_run p) s) where
    same_side : side_price links p xs n r ≡ side_price links p ys m s
    same_side =
        let e : n ≡ m = one_count (is_known_at p) n m known other_known in
        let price : price_of p xs n r ≡ price_of p ys m s =
        one_price p k (price_of p xs n r) (price_of p ys m s) (xs, n, r, a, known, runs, refl) (ys, m, s, b, other_known, other_runs, refl) in
        ap (λ z. z + added_price (linked_loads links p xs) (loads_among p xs) (sum_by (λ q. stores_at (file_row p q.at)) xs)
        (sum_by (λ q. length (edges p q)) xs) n) price
        ∙ ap (λ z. price_of p ys m s + added_price z (loads_among p xs) (sum_by (λ q. stores_at (file_row p q.at)) xs)
        (sum_by (λ q. length (edges p q)) xs) n) (same_linked links)
        ∙ ap (λ z. price_of p ys m s + added_price (linked_loads links p ys) z (sum_by (λ q. stores_at (file_row p q.at)) xs)
        (sum_by (λ q. length (edges p q)) xs) n) same_loads
        ∙ ap (λ z. price_of p ys m s + added_price (linked_loads links p ys) (loads_among p ys) z (sum_by (λ q. length (edges p q)) xs) n)
        (same (λ q. stores_at (file_row p q.at)))
        ∙ ap (λ z. price_of p ys m s + added_price (linked_loads links p ys) (loads_among p ys) (sum_by (λ q. stores_at (file_row p q.at)) ys) z n)
        (same (λ q. length (edges p q)))
        ∙ ap (λ z. price_of p ys m s + added_price (linked_loads links p ys) (loads_among p ys) (sum_by (λ q. stores_at (file_row p q.at)) ys)
        (sum_by (λ q. length (edges p q)) ys) z) e

pub one_pair_price : OnePairPrice
one_pair_price a b k links n m x y =
    let first = same_side a k x.first_points y.first_points x.are_first y.are_first links x.first_known y.first_known x.first_runs y.first_runs
    x.first_known_is y.first_known_is x.first_runs_are y.first_runs_are in
    let second = same_side b k x.second_points y.second_points x.are_second y.are_second links x.second_known y.second_known x.second_runs y.second_runs
    x.second_known_is y.second_known_is x.second_runs_are y.second_runs_are in
    x.price_is ∙ ap (λ z. z + side_price links b x.second_points x.second_known x.second_runs + links_price links) first
    ∙ ap (λ z. side_price links a y.first_points y.first_known y.first_runs + z + links_price links) second ∙ sym y.price_is

-- ---- one finding

module _ (a b : Program) (links : List Link) (budget : Budget) where
  abbrev Within : Type 0
  Within = AreWithin a b links budget

  too_large_within : (n : ℕ) → IsPairPrice a b budget.unroll links n → budget.size < n → Within → ⊥
  too_large_within n is above within =
      let e = one_pair_price a b budget.unroll links n within.price is within.is_price in let l = within.size in omega (arith, above, l, e)

  not_holding : (p : Program) (v : Verdict) → v ≢ Holds → IsRight p budget.unroll v → IsRight p budget.unroll Holds → ⊥
  not_holding p v other is holds = other (one_verdict p budget.unroll v Holds is holds)

  pair_of_starts : AreDifferent a b budget.unroll links → (s t : State) × IsLinkedPair a b links s t
  pair_of_starts d =
      let is = d.5 in (d.0.state, d.1.state, record { first = is.first.entry; second = is.second.entry; linked = is.linked })

  -- a finding after points and size is within both
  abbrev IsLater : PairFinding → Type 0
  IsLater TooManyPoints = ⊥
  IsLater (TooLarge price) = ⊥
  IsLater f = Unit {0}

  within_of : (f : PairFinding) → IsLater f → PairComesTo a b links budget f → Within
  within_of TooManyPoints later x = absurd later
  within_of (TooLarge price) later x = absurd later
  within_of (FirstHas v) later x = x.0
  within_of (SecondHas v) later x = x.0
  within_of NoneLinked later x = x.0.0
  within_of SomeDiffer later x = x.0.0
  within_of AllAlike later x = x.0.0

  many_first : (g : PairFinding) → IsLater g → PairComesTo a b links budget TooManyPoints → PairComesTo a b links budget g → ⊥
  many_first g later x y = (within_of g later y).points x

  large_first : (price : ℕ) (g : PairFinding) → IsLater g → PairComesTo a b links budget (TooLarge price) → PairComesTo a b links budget g → ⊥
  large_first price g later x y = too_large_within price x.1 x.2 (within_of g later y)

  -- a finding after the first function's verdict is that it holds
  first_holds : (g : PairFinding) → PairComesTo a b links budget g → (v : Verdict) → PairComesTo a b links budget (FirstHas v) →
      (IsRight a budget.unroll Holds) → ⊥
  first_holds g y v x holds = not_holding a v x.1 x.2 holds

  pub one_pair_finding : (f g : PairFinding) → PairComesTo a b links budget f → PairComesTo a b links budget g → f ≡ g
  one_pair_finding TooManyPoints TooManyPoints x y = refl
  one_pair_finding TooManyPoints (TooLarge m) x y = absurd (y.0 x)
  one_pair_finding TooManyPoints (FirstHas w) x y = absurd (many_first (FirstHas w) tt x y)
  one_pair_finding TooManyPoints (SecondHas w) x y = absurd (many_first (SecondHas w) tt x y)
  one_pair_finding TooManyPoints NoneLinked x y = absurd (many_first NoneLinked tt x y)
  one_pair_finding TooManyPoints SomeDiffer x y = absurd (many_first SomeDiffer tt x y)
  one_pair_finding TooManyPoints AllAlike x y = absurd (many_first AllAlike tt x y)
  one_pair_finding (TooLarge n) TooManyPoints x y = absurd (x.0 y)
  one_pair_finding (TooLarge n) (TooLarge m) x y = ap TooLarge (one_pair_price a b budget.unroll links n m x.1 y.1)
  one_pair_finding (TooLarge n) (FirstHas w) x y = absurd (large_first n (FirstHas w) tt x y)
  one_pair_finding (TooLarge n) (SecondHas w) x y = absurd (large_first n (SecondHas w) tt x y)
  one_pair_finding (TooLarge n) NoneLinked x y = absurd (large_first n NoneLinked tt x y)
  one_pair_finding (TooLarge n) SomeDiffer x y = absurd (large_first n SomeDiffer tt x y)
  one_pair_finding (TooLarge n) AllAlike x y = absurd (large_first n AllAlike tt x y)
  one_pair_finding (FirstHas v) TooManyPoints x y = absurd (many_first (FirstHas v) tt y x)
  one_pair_finding (FirstHas v) (TooLarge m) x y = absurd (large_first m (FirstHas v) tt y x)
  one_pair_finding (FirstHas v) (FirstHas w) x y = ap FirstHas (one_verdict a budget.unroll v w x.2 y.2)
  one_pair_finding (FirstHas v) (SecondHas w) x y = absurd (not_holding a v x.1 x.2 y.1)
  one_pair_finding (FirstHas v) NoneLinked x y = absurd (not_holding a v x.1 x.2 y.0.1)
  one_pair_finding (FirstHas v) SomeDiffer x y = absurd (not_holding a v x.1 x.2 y.0.1)
  one_pair_finding (FirstHas v) AllAlike x y = absurd (not_holding a v x.1 x.2 y.0.1)
  one_pair_finding (SecondHas v) TooManyPoints x y = absurd (many_first (SecondHas v) tt y x)
  one_pair_finding (SecondHas v) (TooLarge m) x y = absurd (large_first m (SecondHas v) tt y x)
  one_pair_finding (SecondHas v) (FirstHas w) x y = absurd (not_holding a w y.1 y.2 x.1)
  one_pair_finding (SecondHas v) (SecondHas w) x y = ap SecondHas (one_verdict b budget.unroll v w x.3 y.3)
  one_pair_finding (SecondHas v) NoneLinked x y = absurd (not_holding b v x.2 x.3 y.0.2)
  one_pair_finding (SecondHas v) SomeDiffer x y = absurd (not_holding b v x.2 x.3 y.0.2)
  one_pair_finding (SecondHas v) AllAlike x y = absurd (not_holding b v x.2 x.3 y.0.2)
  one_pair_finding NoneLinked TooManyPoints x y = absurd (many_first NoneLinked tt y x)
  one_pair_finding NoneLinked (TooLarge m) x y = absurd (large_first m NoneLinked tt y x)
  one_pair_finding NoneLinked (FirstHas w) x y = absurd (not_holding a w y.1 y.2 x.0.1)
  one_pair_finding NoneLinked (SecondHas w) x y = absurd (not_holding b w y.2 y.3 x.0.2)
  one_pair_finding NoneLinked NoneLinked x y = refl
  one_pair_finding NoneLinked SomeDiffer x y = absurd (let q = pair_of_starts y.1 in x.1 q.0 q.1 q.2)
  one_pair_finding NoneLinked AllAlike x y = absurd (let q = y.1.0 in x.1 q.0 q.1 q.2)
  one_pair_finding SomeDiffer TooManyPoints x y = absurd (many_first SomeDiffer tt y x)
  one_pair_finding SomeDiffer (TooLarge m) x y = absurd (large_first m SomeDiffer tt y x)
  one_pair_finding SomeDiffer (FirstHas w) x y = absurd (not_holding a w y.1 y.2 x.0.1)
  one_pair_finding SomeDiffer (SecondHas w) x y = absurd (not_holding b w y.2 y.3 x.0.2)
  one_pair_finding SomeDiffer NoneLinked x y = absurd (let q = pair_of_starts x.1 in y.1 q.0 q.1 q.2)
  one_pair_finding SomeDiffer SomeDiffer x y = refl
  one_pair_finding SomeDiffer AllAlike x y = absurd (equal_not_different a b budget.unroll links y.1 x.1)
  one_pair_finding AllAlike TooManyPoints x y = absurd (many_first AllAlike tt y x)
  one_pair_finding AllAlike (TooLarge m) x y = absurd (large_first m AllAlike tt y x)
  one_pair_finding AllAlike (FirstHas w) x y = absurd (not_holding a w y.1 y.2 x.0.1)
  one_pair_finding AllAlike (SecondHas w) x y = absurd (not_holding b w y.2 y.3 x.0.2)
  one_pair_finding AllAlike NoneLinked x y = absurd (let q = x.1.0 in y.1 q.0 q.1 q.2)
  one_pair_finding AllAlike SomeDiffer x y = absurd (equal_not_different a b budget.unroll links x.1 y.1)
  one_pair_finding AllAlike AllAlike x y = refl

-- ---- a right report says the finding

-- a report of one side that is not about points, the size or spent conflicts gives another verdict than that it holds
other_verdict : (p : Program) (layout : Layout) (b : Budget) (r : Report) (e : Evidence) → (¬ IsSpentEvidence e) → IsOther r → IsRightReport p layout b r e →
    (v : Verdict) × (v ≢ Holds) × IsRight p b.unroll v × Says r (HasVerdict v)
other_verdict p layout b HoldsReport e s o a = absurd o
other_verdict p layout b PointsReport e s o a = absurd o
other_verdict p layout b SizeReport e s o a = absurd o
other_verdict p layout b ConflictsReport (SpentOn kind proof) s o a = absurd (s tt)
other_verdict p layout b ConflictsReport e s o a = absurd a
other_verdict p layout b VacuousReport (EntryRefuted proof) s o a = (Vacuous, (λ h. absurd (cc)), a.1, tt)
other_verdict p layout b VacuousReport e s o a = absurd a
other_verdict p layout b (FailsReport event at step) (RunOf w) s o a = (Fails, (λ h. absurd (cc)), a.1, tt)
other_verdict p layout b (FailsReport event at step) e s o a = absurd a
other_verdict p layout b (UnrollReport at step) (RunOf w) s o a = (Unroll, (λ h. absurd (cc)), a.1, tt)
other_verdict p layout b (UnrollReport at step) e s o a = absurd a

module _ (a b : Side) (links : List Link) (budget : Budget) where
  abbrev Comes : PairFinding → Type 0
  Comes = PairComesTo a.program b.program links budget

  pub finding_of_pair : (r : PairReport) (e : Evidence) → (¬ IsSpentEvidence e) → IsRightPair a b links budget r e → (f : PairFinding) × Comes f × PairSays r f
  finding_of_pair PairPointsReport (Count n) s x = (TooManyPoints, x.0, tt)
  finding_of_pair PairPointsReport e s x = absurd x
  finding_of_pair PairSizeReport (Count n) s x = (TooLarge n, (x.0, x.1, x.2), tt)
  finding_of_pair PairSizeReport e s x = absurd x
  finding_of_pair (OfFirst r) e s x =
      let v = other_verdict a.program a.layout budget r e s x.1 x.2 in (FirstHas v.0, (x.0, v.1, v.2), v.3)
  finding_of_pair (OfSecond r) e s x =
      let v = other_verdict b.program b.layout budget r e s x.2 x.3 in (SecondHas v.0, (x.0, x.1, v.1, v.2), v.3)
  finding_of_pair PairConflictsReport (SpentOnPair kind proof) s x = absurd (s tt)
  finding_of_pair PairConflictsReport e s x = absurd x
  finding_of_pair NoPairReport (EntryRefuted proof) s x = (NoneLinked, ((x.0, x.1, x.2), x.3), tt)
  finding_of_pair NoPairReport e s x = absurd x
  finding_of_pair (DiffersReport n i j) (Two v w) s x =
      (SomeDiffer, ((x.0, x.1, x.2), (start_in a.program a.layout v, start_in b.program b.layout w, n, i, j, x.4, x.5)), tt)
  finding_of_pair (DiffersReport n i j) e s x = absurd x
  finding_of_pair EqualReport (Both e f v w proof) s x = (AllAlike, ((x.0, x.1.1, x.2.1), x.3), tt)
  finding_of_pair EqualReport e s x = absurd x

-- ---- what is reported

module _ (o : Options) (content : List ℕ → List ℕ) (names : PairNames) (b : Budget) (x : AreCompared o content names) where
  abbrev left : Side
  left = side_of o (content names.elf) x.first

  abbrev right : Side
  right = side_of o (content names.other_elf) x.second

  -- the report that is due says what they come to
  due_says : (a : Answer) → (¬ IsSpentEvidence a.evidence) → (f : PairFinding) → PairComesTo x.first x.second x.links b f →
      IsPairReported left right x.links b a →
      (r : PairReport) × PairSays r f × IsRightPair left right x.links b r a.evidence × (a.status ≡ pair_status r) × (a.text ≡ pair_text left right b r a.evidence)
  due_says a unspent f comes (r, e, is_right, is) =
      let evidence_is : e ≡ a.evidence = sym (ap (λ (y : Answer). y.evidence) is) in
      let found = finding_of_pair left right x.links b r e (λ s. unspent (subst IsSpentEvidence evidence_is s)) is_right in
      let one : found.0 ≡ f = one_pair_finding x.first x.second x.links b found.0 f found.1 comes in (
        r,
        subst (PairSays r) one found.2,
        subst (IsRightPair left right x.links b r) evidence_is is_right,
        ap (λ (y : Answer). y.status) is,
        ap (λ (y : Answer). y.text) is ∙ ap (pair_text left right b r) evidence_is,
      )

pub pair_finding_is_reported : PairFindingIsReported
pair_finding_is_reported s o content names b status e told calm memory unspent x f comes (whole a due appends at shown) =
    let answered = next_of o content names (λ p q links. IsPairReported (side_of o (content names.elf) p) (side_of o (content names.other_elf) q) links b) a x
    (answer_told s content (Equal o names b) a told due) in
    let said = due_says o content names b x a (λ h. unspent (subst IsSpentEvidence (sym shown) h)) f comes answered in (
      said.0,
      said.1,
      subst (IsRightPair (left o content names b x) (right o content names b x) x.links b said.0) (sym shown) said.2,
      at ∙ said.3,
      subst (λ z. Appends s.text_before z s.text_after)
          (said.4 ∙ ap (pair_text (left o content names b x) (right o content names b x) b said.0) (sym shown)) appends,
    )
pair_finding_is_reported s o content names b status e told calm memory unspent x f comes (cut a n due l appends rose at shown) = absurd (calm at rose)
pair_finding_is_reported s o content names b status e told calm memory unspent x f comes (no_memory appends at shown) = absurd (memory at)

-- no other report says that all exit alike
says_alike : (a b : Side) (budget : Budget) (r : PairReport) (e : Evidence) → PairSays r AllAlike →
    (pair_status r ≡ 0) × (pair_text a b budget r e ≡ line (codes "equal"))
says_alike a b budget EqualReport e says = (refl, refl)
says_alike a b budget (OfFirst r) e says = absurd says
says_alike a b budget (OfSecond r) e says = absurd says
says_alike a b budget NoPairReport e says = absurd says
says_alike a b budget (DiffersReport n i j) e says = absurd says
says_alike a b budget PairPointsReport e says = absurd says
says_alike a b budget PairSizeReport e says = absurd says
says_alike a b budget PairConflictsReport e says = absurd says

pub equal_is_complete : EqualIsComplete
equal_is_complete s o content names b status e told calm memory unspent x hold alike outcome =
    let said = pair_finding_is_reported s o content names b status e told calm memory unspent x AllAlike (hold, alike) outcome in
    let is = says_alike (left o content names b x) (right o content names b x) b said.0 e said.1 in
    (said.3 ∙ is.0, subst (λ z. Appends s.text_before z s.text_after) is.1 said.4)

-- ---- one answer

-- one answer is the same as itself
same_runs : (a c : Answer) → a ≡ c → AreSameButRuns a c
same_runs a c is = record {
  status = ap (λ (y : Answer). y.status) is;
  shows = ((λ h. subst (λ (y : Answer). ShowsRuns y.evidence) is h), (λ h. subst (λ (y : Answer). ShowsRuns y.evidence) (sym is) h));
  text = λ none. ap (λ (y : Answer). y.text) is;
}

-- a file is refused in one way, or accepted
elf_level : (word file : List ℕ) (Next : Answer → Type 0) (a c : Answer) → (Next a → Next c → AreSameButRuns a c) → AfterElfOf word file Next a →
    AfterElfOf word file Next c → AreSameButRuns a c
elf_level word file Next a c next (elf_refused v x i) (elf_refused w y j) =
    same_runs a c (i ∙ ap (λ z. plain_answer 4 (word ++ codes " " ++ z)) (one_elf_refusal file v w x y) ∙ sym j)
elf_level word file Next a c next (elf_refused v x i) (elf_accepted y j) = absurd (refused_or_accepted file v x y)
elf_level word file Next a c next (elf_accepted x i) (elf_refused w y j) = absurd (refused_or_accepted file w y x)
elf_level word file Next a c next (elf_accepted x i) (elf_accepted y j) = next i j

notes_level : (o : Options) (word file text : List ℕ) (Next : Program → Answer → Type 0) (a c : Answer) →
    ((p : Program) → Next p a → Next p c → AreSameButRuns a c) → AfterNotesOf o word file text Next a → AfterNotesOf o word file text Next c → AreSameButRuns a c
notes_level o word file text Next a c next (notes_refused v x i) (notes_refused w y j) =
    same_runs a c (i ∙ ap (λ z. plain_answer 5 (word ++ codes " " ++ z)) (one_refusal_in Paired o file text v w x y) ∙ sym j)
notes_level o word file text Next a c next (notes_refused v x i) (program_found q y j) = absurd (paired_refused_or_found o file text v q x y)
notes_level o word file text Next a c next (program_found p x i) (notes_refused w y j) = absurd (paired_refused_or_found o file text w p y x)
notes_level o word file text Next a c next (program_found p x i) (program_found q y j) =
    next q (subst (λ z. Next z a) (one_program o file text p q x y) i) j

links_level : (first second text : List ℕ) (Next : List Link → Answer → Type 0) (a c : Answer) →
    ((links : List Link) → Next links a → Next links c → AreSameButRuns a c) → AfterLinks first second text Next a → AfterLinks first second text Next c →
    AreSameButRuns a c
links_level first second text Next a c next (too_large l i) (too_large m j) = same_runs a c (i ∙ sym j)
links_level first second text Next a c next (too_large l i) (refused n f m x j) = absurd (omega (arith, l, m))
links_level first second text Next a c next (too_large l i) (linked links m x j) = absurd (omega (arith, l, m))
links_level first second text Next a c next (refused n f l x i) (too_large m j) = absurd (omega (arith, l, m))
links_level first second text Next a c next (refused n f l x i) (refused m g k y j) =
    let q = one_link_fault _ _ text n m f g x y in
    same_runs a c (i ∙ ap (λ z. plain_answer 5 (line (codes "links: line" ++ spaced (number_text z ∷ link_fault_words f ∷ [])))) q.0
    ∙ ap (λ z. plain_answer 5 (line (codes "links: line" ++ spaced (number_text m ∷ link_fault_words z ∷ [])))) q.1 ∙ sym j)
links_level first second text Next a c next (refused n f l x i) (linked links m y j) = absurd (links_have_no_fault _ _ text links n f y x)
links_level first second text Next a c next (linked links l x i) (too_large m j) = absurd (omega (arith, l, m))
links_level first second text Next a c next (linked links l x i) (refused m f k y j) = absurd (links_have_no_fault _ _ text links m f x y)
links_level first second text Next a c next (linked links l x i) (linked others m y j) =
    next others (subst (λ z. Next z a) (one_links _ _ text links others x y) i) j

-- of two reports both show runs, or neither does and their texts are one
abbrev ShowAlike : (e d : Evidence) (text other : List ℕ) → Type 0
ShowAlike e d text other = (ShowsRuns e × ShowsRuns d) ⊎ ((¬ ShowsRuns e) × (¬ ShowsRuns d) × (text ≡ other))

-- reports of one side that give one verdict, another than that it holds
side_alike : (s : Side) (budget : Budget) (word : List ℕ) (v : Verdict) (q r : Report) (e d : Evidence) → IsOther q → IsOther r → Says q (HasVerdict v) →
    Says r (HasVerdict v) → IsRightReport s.program s.layout budget q e → IsRightReport s.program s.layout budget r d →
    (status_of q ≡ status_of r) × ShowAlike e d (side_text word s budget q e) (side_text word s budget r d)
side_alike s budget word Holds HoldsReport r e d i j x y left right = absurd i
side_alike s budget word Holds q r e d i j x y left right = absurd x
side_alike s budget word Vacuous VacuousReport VacuousReport (EntryRefuted proof) (EntryRefuted other) i j x y left right =
    (refl, inr ((λ h. elim h [ inl n ↦ absurd n | inr n ↦ absurd n ]), (λ h. elim h [ inl n ↦ absurd n | inr n ↦ absurd n ]), refl))
side_alike s budget word Vacuous VacuousReport VacuousReport (EntryRefuted proof) d i j x y left right = absurd right
side_alike s budget word Vacuous VacuousReport VacuousReport e d i j x y left right = absurd left
side_alike s budget word Vacuous VacuousReport r e d i j x y left right = absurd y
side_alike s budget word Vacuous q r e d i j x y left right = absurd x
side_alike s budget word Fails (FailsReport event at step) (FailsReport other there number) (RunOf w) (RunOf z) i j x y left right =
    (refl, inl (inl tt, inl tt))
side_alike s budget word Fails (FailsReport event at step) (FailsReport other there number) (RunOf w) d i j x y left right = absurd right
side_alike s budget word Fails (FailsReport event at step) (FailsReport other there number) e d i j x y left right = absurd left
side_alike s budget word Fails (FailsReport event at step) r e d i j x y left right = absurd y
side_alike s budget word Fails q r e d i j x y left right = absurd x
side_alike s budget word Unroll (UnrollReport at step) (UnrollReport there number) (RunOf w) (RunOf z) i j x y left right = (refl, inl (inl tt, inl tt))
side_alike s budget word Unroll (UnrollReport at step) (UnrollReport there number) (RunOf w) d i j x y left right = absurd right
side_alike s budget word Unroll (UnrollReport at step) (UnrollReport there number) e d i j x y left right = absurd left
side_alike s budget word Unroll (UnrollReport at step) r e d i j x y left right = absurd y
side_alike s budget word Unroll q r e d i j x y left right = absurd x

module _ (a b : Side) (links : List Link) (budget : Budget) where
  -- two right reports of one finding
  abbrev OneReport : PairFinding → (r t : PairReport) → (e d : Evidence) → Type 0
  OneReport f r t e d =
      PairSays r f → PairSays t f → IsRightPair a b links budget r e → IsRightPair a b links budget t d →
      (pair_status r ≡ pair_status t) × ShowAlike e d (pair_text a b budget r e) (pair_text a b budget t d)

  neither : (e d : Evidence) {text other : List ℕ} → (¬ ShowsRun e) → (¬ ShowsTwo e) → (¬ ShowsRun d) → (¬ ShowsTwo d) → text ≡ other → ShowAlike e d text other
  neither e d g h i j is =
      inr ((λ n. elim n [ inl m ↦ absurd (g m) | inr m ↦ absurd (h m) ]), (λ n. elim n [ inl m ↦ absurd (i m) | inr m ↦ absurd (j m) ]), is)

  by_points : (r t : PairReport) (e d : Evidence) → OneReport TooManyPoints r t e d
  by_points PairPointsReport PairPointsReport (Count n) (Count m) x y left right = (refl, neither (Count n) (Count m) (λ h. h) (λ h. h) (λ h. h) (λ h. h) refl)
  by_points PairPointsReport PairPointsReport (Count n) d x y left right = absurd right
  by_points PairPointsReport PairPointsReport e d x y left right = absurd left
  by_points PairPointsReport t e d x y left right = absurd y
  by_points r t e d x y left right = absurd x

  by_size : (price : ℕ) (r t : PairReport) (e d : Evidence) → OneReport (TooLarge price) r t e d
  by_size price PairSizeReport PairSizeReport (Count n) (Count m) x y left right =
      (refl, neither (Count n) (Count m) (λ h. h) (λ h. h) (λ h. h) (λ h. h) refl)
  by_size price PairSizeReport PairSizeReport (Count n) d x y left right = absurd right
  by_size price PairSizeReport PairSizeReport e d x y left right = absurd left
  by_size price PairSizeReport t e d x y left right = absurd y
  by_size price r t e d x y left right = absurd x

  by_first : (v : Verdict) (r t : PairReport) (e d : Evidence) → OneReport (FirstHas v) r t e d
  by_first v (OfFirst q) (OfFirst r) e d x y left right = side_alike a budget (codes "first") v q r e d left.1 right.1 x y left.2 right.2
  by_first v (OfFirst q) t e d x y left right = absurd y
  by_first v r t e d x y left right = absurd x

  by_second : (v : Verdict) (r t : PairReport) (e d : Evidence) → OneReport (SecondHas v) r t e d
  by_second v (OfSecond q) (OfSecond r) e d x y left right = side_alike b budget (codes "second") v q r e d left.2 right.2 x y left.3 right.3
  by_second v (OfSecond q) t e d x y left right = absurd y
  by_second v r t e d x y left right = absurd x

  by_none : (r t : PairReport) (e d : Evidence) → OneReport NoneLinked r t e d
  by_none NoPairReport NoPairReport (EntryRefuted proof) (EntryRefuted other) x y left right =
      (refl, neither (EntryRefuted proof) (EntryRefuted other) (λ h. h) (λ h. h) (λ h. h) (λ h. h) refl)
  by_none NoPairReport NoPairReport (EntryRefuted proof) d x y left right = absurd right
  by_none NoPairReport NoPairReport e d x y left right = absurd left
  by_none NoPairReport t e d x y left right = absurd y
  by_none r t e d x y left right = absurd x

  by_difference : (r t : PairReport) (e d : Evidence) → OneReport SomeDiffer r t e d
  by_difference (DiffersReport n i j) (DiffersReport m k l) (Two u v) (Two w z) x y left right = (refl, inl (inr tt, inr tt))
  by_difference (DiffersReport n i j) (DiffersReport m k l) (Two u v) d x y left right = absurd right
  by_difference (DiffersReport n i j) (DiffersReport m k l) e d x y left right = absurd left
  by_difference (DiffersReport n i j) t e d x y left right = absurd y
  by_difference r t e d x y left right = absurd x

  by_alike : (r t : PairReport) (e d : Evidence) → OneReport AllAlike r t e d
  by_alike EqualReport EqualReport (Both e f u v proof) (Both g h w z other) x y left right =
      (refl, neither (Both e f u v proof) (Both g h w z other) (λ h. h) (λ h. h) (λ h. h) (λ h. h) refl)
  by_alike EqualReport EqualReport (Both e f u v proof) d x y left right = absurd right
  by_alike EqualReport EqualReport e d x y left right = absurd left
  by_alike EqualReport t e d x y left right = absurd y
  by_alike r t e d x y left right = absurd x

  one_report : (f : PairFinding) (r t : PairReport) (e d : Evidence) → OneReport f r t e d
  one_report TooManyPoints r t e d x y left right = by_points r t e d x y left right
  one_report (TooLarge price) r t e d x y left right = by_size price r t e d x y left right
  one_report (FirstHas v) r t e d x y left right = by_first v r t e d x y left right
  one_report (SecondHas v) r t e d x y left right = by_second v r t e d x y left right
  one_report NoneLinked r t e d x y left right = by_none r t e d x y left right
  one_report SomeDiffer r t e d x y left right = by_difference r t e d x y left right
  one_report AllAlike r t e d x y left right = by_alike r t e d x y left right

  answers_of : (x y : Answer) (r t : PairReport) (e d : Evidence) → x ≡ record { status = pair_status r; text = pair_text a b budget r e; evidence = e } →
      y ≡ record { status = pair_status t; text = pair_text a b budget t d; evidence = d } →
      (pair_status r ≡ pair_status t) × ShowAlike e d (pair_text a b budget r e) (pair_text a b budget t d) → AreSameButRuns x y
  answers_of x y r t e d i j (status, shows) =
      subst (λ (z : Answer). AreSameButRuns z y) (sym i)
      (subst (λ (z : Answer). AreSameButRuns (record { status = pair_status r; text = pair_text a b budget r e; evidence = e }) z) (sym j)
      (elim shows [
        | inl both ↦ record { status = status; shows = ((λ h. both.1), (λ h. both.0)); text = λ none. absurd (none both.0) }
        | inr none ↦ record { status = status; shows = ((λ h. absurd (none.0 h)), (λ h. absurd (none.1 h))); text = λ calm. none.2 }
      ]))

  reported_level : (x y : Answer) → (¬ IsSpentEvidence x.evidence) → (¬ IsSpentEvidence y.evidence) → IsPairReported a b links budget x →
      IsPairReported a b links budget y → AreSameButRuns x y
  reported_level x y unspent calm (r, e, left, i) (t, d, right, j) =
      let f = finding_of_pair a b links budget r e (λ s. unspent (subst (λ (z : Answer). IsSpentEvidence z.evidence) (sym i) s)) left in
      let g = finding_of_pair a b links budget t d (λ s. calm (subst (λ (z : Answer). IsSpentEvidence z.evidence) (sym j) s)) right in
      let one : g.0 ≡ f.0 = one_pair_finding a.program b.program links budget g.0 f.0 g.1 f.1 in
      answers_of x y r t e d i j (one_report f.0 r t e d f.2 (subst (PairSays t) one g.2) left right)

pub one_pair_answer : OnePairAnswer
one_pair_answer content o names b a c unspent calm left right =
    let file = content names.elf in
    let other = content names.other_elf in
    elf_level (codes "first") file _ a c (λ left right. elf_level (codes "second") other _ a c (λ left right.
    notes_level o (codes "first") file (content names.notes) _ a c (λ p left right.
    notes_level o (codes "second") other (content names.other_notes) _ a c (λ q left right.
    links_level file other (content names.links) _ a c (λ links left right.
    reported_level (side_of o file p) (side_of o other q) links b a c unspent calm left right) left right) left right) left right) left right) left right
