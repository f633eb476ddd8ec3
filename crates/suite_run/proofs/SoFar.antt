-- What stands of a run behind some of its checks.
use Rattle.std.proofs.Common.{◌≡◌, ℕ, ◌+◌, ◌≤◌, ◌<◌, Bool, true, false, List, [], ◌∷◌, ◌++◌, Option, length, get_or, map, take, drop, fold, subst, sym, ap, ap₂, ◌∙◌, refl, arith, append_assoc, append-nil}
use Rattle.std.proofs.lemmas.Grind.{common_steps}
use Rattle.std.proofs.Math.Seq.{take-append-add}
use Rattle.std.proofs.lemmas.List.{drop_more, map-append, take-append-drop, take_more}
use mir.Val.{bool_byte}
use Rattle.call_spec.specs.Outside.{Held, Appends, Rose}
use Rattle.io_edges.specs.Met.{met, seen}
use Rattle.suite_file.specs.Suites.{Check}
use Rattle.suite_report.specs.Reports.{asked_status, expected_count, is_expected, one_if, run_status, worse}
use Rattle.suite_report.specs.RunTexts.{line_by, lines_by, summary_by}
use Rattle.suite_run.specs.Answers.{Came, IsAnswer}
use Rattle.suite_run.specs.Runs.{Answered, AreAnswers, IsRun, whole, cut, no_memory, checks_of, told_of}
use Rattle.suite_run.specs.Steps.{IsCut, IsStep, told}
use Rattle.suite_run.specs.declared.stepping.Done.{Done}
use Rattle.suite_run.proofs.Wider.{Same, Rising, answer_wider, answers_wider, answers_last, appends_then, nothing_appended}
use Rattle.note_check.specs.declared.warning.Warning.{Warning}

-- the texts, the status and the count of one check more
lines_last : (json : Bool) (xs : List Answered) (x : Answered) → lines_by json (told_of (xs ++ x ∷ [])) ≡ lines_by json (told_of xs) ++ line_by json (told x.check x.came)
lines_last json [] x = append-nil (line_by json (told x.check x.came))
lines_last json (y ∷ ys) x =
    ap (λ t. line_by json (told y.check y.came) ++ t) (lines_last json ys x)
    ∙ sym (append_assoc (line_by json (told y.check y.came)) (lines_by json (told_of ys)) (line_by json (told x.check x.came)))

status_last : (strict : Bool) (s : ℕ) (xs : List Answered) (x : Answered) → fold worse s (map (asked_status strict) (told_of (xs ++ x ∷ [])))
    ≡ worse (fold worse s (map (asked_status strict) (told_of xs))) (asked_status strict (told x.check x.came))
status_last strict s [] x = refl
status_last strict s (y ∷ ys) x = status_last strict (worse s (asked_status strict (told y.check y.came))) ys x

count_last : (xs : List Answered) (x : Answered) → expected_count (told_of (xs ++ x ∷ [])) ≡ expected_count (told_of xs) + one_if (is_expected (told x.check x.came))
count_last [] x = omega arith
count_last (y ∷ ys) x = omega (arith, count_last ys x)

length_told : (xs : List Answered) → length (told_of xs) ≡ length (checks_of xs)
length_told [] = refl
length_told (x ∷ xs) = omega (arith, length_told xs)

take_first : (xs ys : List ℕ) (n : ℕ) → n < length xs → take n (xs ++ ys) ≡ take n xs
take_first xs ys n h = grind (arith, common_steps)

within_both : (xs ys : List ℕ) (n : ℕ) → n < length ys → length xs + n < length (xs ++ ys)
within_both xs ys n h = grind (arith, common_steps)

longer : (xs ys : List ℕ) (n : ℕ) → n < length xs → n < length (xs ++ ys)
longer xs ys n h = grind (arith, common_steps)

pub risen_wider : (b c d : ℕ) → b ≤ c → Rose c d → Rose b d
risen_wider b c d h risen = omega arith

-- the parts of a list at a place
pub split_at : {A B : Type 0} (f : A → B) (xs : List A) (i : ℕ) → map f xs ≡ map f (take i xs) ++ map f (drop i xs)
split_at f xs i = ap (map f) (sym (take-append-drop i xs)) ∙ map-append f (take i xs) (drop i xs)

pub split_here : {A B : Type 0} (f : A → B) (xs : List A) (i : ℕ) (d : A) → i < length xs → get_or xs i d ≡ d →
    map f xs ≡ map f (take i xs) ++ f d ∷ map f (drop (i + 1) xs)
split_here f xs i d h here =
    split_at f xs i ∙ ap (λ t. map f (take i xs) ++ map f t) (drop_more xs i d h ∙ ap (λ x. x ∷ drop (i + 1) xs) here)

pub one_more : {A B : Type 0} (f : A → B) (xs : List A) (i : ℕ) (d : A) → i < length xs → get_or xs i d ≡ d →
    map f (take (i + 1) xs) ≡ map f (take i xs) ++ f d ∷ []
one_more f xs i d h here =
    ap (map f) (take_more xs i d h ∙ ap (λ x. take i xs ++ x ∷ []) here) ∙ map-append f (take i xs) (d ∷ [])

-- a truth as a number
pub byte_is : (b : Bool) → bool_byte b ≡ one_if b
byte_is true = refl
byte_is false = refl

pub byte_small : (b : Bool) → bool_byte b ≤ 1
byte_small true = omega arith
byte_small false = omega arith

-- Behind some checks: each was answered, and their lines were written.
pub record SoFar (Answers : List (List ℕ) → (file notes : List ℕ) → (status : ℕ) → (report : List ℕ) → List Warning → Type 0) (held : List ℕ → Held)
    (before after : List ℕ → ℕ) (strict json : Bool) (done : List Check) (text_before text_after : Option (List ℕ)) (status expected : ℕ) : Type 0 where
  pub answered : List Answered
  pub checks : checks_of answered ≡ done
  pub answers : AreAnswers Answers held before after answered
  pub written : Appends text_before (lines_by json (told_of answered)) text_after
  pub status_is : status ≡ run_status strict (told_of answered)
  pub expected_is : expected ≡ expected_count (told_of answered)

module _ (Answers : List (List ℕ) → (file notes : List ℕ) → (status : ℕ) → (report : List ℕ) → List Warning → Type 0) (held : List ℕ → Held)
    (first : List ℕ → ℕ) (strict json : Bool) (text : Option (List ℕ)) where
  pub so_far_none : (after : List ℕ → ℕ) → SoFar Answers held first after strict json [] text text 0 0
  so_far_none after = record {
    answered = [];
    checks = refl;
    answers = tt;
    written = nothing_appended text;
    status_is = refl;
    expected_is = refl;
  }

  pub so_far_more : (now : List ℕ → Held) (before after : List ℕ → ℕ) (done more : List Check) (c : Check) (mid new : Option (List ℕ))
      (status expected : ℕ) (d : Done) → Same held now → Rising first before → Rising before after →
      SoFar Answers held first before strict json done text mid status expected → IsStep Answers now before after strict json c mid new d → more ≡ done ++ c ∷ [] →
      SoFar Answers held first after strict json more text new (worse status d.status) (expected + one_if d.expected)
  so_far_more now before after done more c mid new status expected d same early late far step is =
      let x : Answered = record { check = c; came = step.came } in
      let xs = far.answered in
      let old : AreAnswers Answers held first after xs = answers_wider held held first first before after (λ n. refl) (λ n. omega arith) late Answers xs far.answers in
      let fresh : IsAnswer Answers held first after c step.came =
      answer_wider held now first before after after same early (λ n. omega arith) Answers c step.came step.answer in
      let lines : Appends text (lines_by json (told_of xs) ++ line_by json (told c step.came)) new =
      appends_then text mid new (lines_by json (told_of xs)) (line_by json (told c step.came)) far.written step.written in
      record {
        answered = xs ++ x ∷ [];
        checks = map-append (λ a. a.check) xs (x ∷ []) ∙ ap (λ t. t ++ c ∷ []) far.checks ∙ sym is;
        answers = answers_last Answers held first after xs x old fresh;
        written = subst (λ t. Appends text t new) (sym (lines_last json xs x)) lines;
        status_is = ap₂ worse far.status_is step.status ∙ sym (status_last strict 0 xs x);
        expected_is = ap₂ (λ a b. a + one_if b) far.expected_is step.expected ∙ sym (count_last xs x);
      }

  -- all checks are done, and the summary was written
  pub whole_of : (after : List ℕ → ℕ) (checks : List Check) (mid new : Option (List ℕ)) (sink_before sink_after status expected : ℕ) →
      SoFar Answers held first after strict json checks text mid status expected → Appends mid (summary_by json (length checks) expected) new →
      IsRun Answers (met (seen held first after) text new sink_before sink_after) strict json checks status
  whole_of after checks mid new sink_before sink_after status expected far behind =
      let xs = far.answered in
      let counted : summary_by json (length checks) expected ≡ summary_by json (length (told_of xs)) (expected_count (told_of xs)) =
      ap₂ (summary_by json) (sym (length_told xs ∙ ap length far.checks)) far.expected_is in
      whole xs far.checks far.answers
      (appends_then text mid new (lines_by json (told_of xs)) _ far.written (subst (λ t. Appends mid t new) counted behind)) far.status_is

  -- the write of the summary failed
  pub cut_behind : (after : List ℕ → ℕ) (checks : List Check) (mid new : Option (List ℕ)) (sink_before sink_after status expected n : ℕ) →
      SoFar Answers held first after strict json checks text mid status expected → n < length (summary_by json (length checks) expected) →
      Appends mid (take n (summary_by json (length checks) expected)) new → Rose sink_before sink_after →
      IsRun Answers (met (seen held first after) text new sink_before sink_after) strict json checks 7
  cut_behind after checks mid new sink_before sink_after status expected n far proper front risen =
      let xs = far.answered in
      let lines = lines_by json (told_of xs) in
      let counted : summary_by json (length checks) expected ≡ summary_by json (length (told_of xs)) (expected_count (told_of xs)) =
      ap₂ (summary_by json) (sym (length_told xs ∙ ap length far.checks)) far.expected_is in
      let last = summary_by json (length (told_of xs)) (expected_count (told_of xs)) in
      let within : n < length last = rw counted at proper in
      let piece : Appends mid (take n last) new = subst (λ t. Appends mid (take n t) new) counted front in
      let joined : Appends text (lines ++ take n last) new = appends_then text mid new lines (take n last) far.written piece in
      cut xs [] (length lines + n) (sym (append-nil (checks_of xs) ∙ far.checks)) far.answers (within_both lines last n within)
      (subst (λ t. Appends text t new) (sym (take-append-add lines last n)) joined) risen refl

  -- the write of a line failed
  pub cut_in : (now : List ℕ → Held) (before after : List ℕ → ℕ) (checks done rest : List Check) (c : Check) (mid new : Option (List ℕ))
      (sink_before sink_mid sink_after status expected : ℕ) → Same held now → Rising first before → Rising before after → sink_before ≤ sink_mid →
      SoFar Answers held first before strict json done text mid status expected → IsCut Answers now before after json c mid new sink_mid sink_after →
      checks ≡ done ++ c ∷ rest → IsRun Answers (met (seen held first after) text new sink_before sink_after) strict json checks 7
  cut_in now before after checks done rest c mid new sink_before sink_mid sink_after status expected same early late below far here is =
      let x : Answered = record { check = c; came = here.came } in
      let xs = far.answered in
      let n = here.count in
      let lines = lines_by json (told_of xs) in
      let last = line_by json (told c here.came) in
      let old : AreAnswers Answers held first after xs = answers_wider held held first first before after (λ n. refl) (λ n. omega arith) late Answers xs far.answers in
      let fresh : IsAnswer Answers held first after c here.came =
      answer_wider held now first before after after same early (λ n. omega arith) Answers c here.came here.answer in
      let joined : Appends text (lines ++ take n last) new = appends_then text mid new lines (take n last) far.written here.written in
      let all = told_of (xs ++ x ∷ []) in
      let end = summary_by json (length all) (expected_count all) in
      let within : length lines + n < length (lines ++ last) = within_both lines last n here.proper in
      let front : take (length lines + n) (lines_by json all ++ end) ≡ lines ++ take n last =
      ap (λ t. take (length lines + n) (t ++ end)) (lines_last json xs x) ∙ take_first (lines ++ last) end (length lines + n) within ∙ take-append-add lines last n in
      let proper : length lines + n < length (lines_by json all ++ end) = rw (lines_last json xs x) (longer (lines ++ last) end _ within) in
      let listed : checks_of (xs ++ x ∷ []) ≡ done ++ c ∷ [] = map-append (λ a. a.check) xs (x ∷ []) ∙ ap (λ t. t ++ c ∷ []) far.checks in
      let asked : checks ≡ checks_of (xs ++ x ∷ []) ++ rest = is ∙ sym (append_assoc done (c ∷ []) rest) ∙ ap (λ t. t ++ rest) (sym listed) in
      cut (xs ++ x ∷ []) rest (length lines + n) asked (answers_last Answers held first after xs x old fresh) proper
      (subst (λ t. Appends text t new) (sym front) joined) (risen_wider sink_before sink_mid sink_after below here.risen) refl

  -- memory ran out
  pub stopped_of : (before after : List ℕ → ℕ) (checks done rest : List Check) (mid new : Option (List ℕ)) (sink_before sink_after status expected : ℕ) →
      Rising before after → SoFar Answers held first before strict json done text mid status expected → checks ≡ done ++ rest → new ≡ mid →
      IsRun Answers (met (seen held first after) text new sink_before sink_after) strict json checks 8
  stopped_of before after checks done rest mid new sink_before sink_after status expected late far is same =
      let xs = far.answered in
      let old : AreAnswers Answers held first after xs = answers_wider held held first first before after (λ n. refl) (λ n. omega arith) late Answers xs far.answers in
      no_memory xs rest (is ∙ ap (λ t. t ++ rest) (sym far.checks)) old (subst (λ t. Appends text (lines_by json (told_of xs)) t) (sym same) far.written) refl
