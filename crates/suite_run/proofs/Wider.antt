-- What was answered amid a run is answered in the run.
use Rattle.std.proofs.Common.{◌≡◌, ℕ, ◌≤◌, List, [], ◌∷◌, ◌++◌, Option, Some, None, subst, sym, ap, ◌∙◌, refl, arith, append_assoc, append-nil}
use Rattle.call_spec.specs.Outside.{Held, Agrees, IsLonger, Rose, Appends}
use Rattle.suite_file.specs.Suites.{Check}
use Rattle.suite_run.specs.Answers.{Came, IsUnread, read_failed, too_large, AfterFile, unread, was_read, IsAnswer, came, elf_limit, notes_limit}
use Rattle.suite_run.specs.Runs.{Answered, AreAnswers}
use Rattle.suite_run.specs.Steps.{told}
use Rattle.note_check.specs.declared.warning.Warning.{Warning}

-- a count that has risen amid others has risen
pub rose_wider : (b c d e : ℕ) → b ≤ c → d ≤ e → Rose c d → Rose b e
rose_wider b c d e below above risen = omega arith

-- what two shelves tell is the same
abbrev pub Same : (held now : List ℕ → Held) → Type 0
Same held now = (n : List ℕ) → now n ≡ held n

-- no count falls
abbrev pub Rising : (before after : List ℕ → ℕ) → Type 0
Rising before after = (n : List ℕ) → before n ≤ after n

module _ (held now : List ℕ → Held) (first before after last : List ℕ → ℕ) (same : Same held now) (early : Rising first before) (late : Rising after last)
  where
    pub unread_wider : (name : List ℕ) (limit : ℕ) (large a : Came) → IsUnread now before after name limit large a → IsUnread held first last name limit large a
    unread_wider name limit large a (read_failed risen is) =
        read_failed (rose_wider (first name) (before name) (after name) (last name) (early name) (late name) risen) is
    unread_wider name limit large a (too_large longer is) = too_large (subst (λ h. IsLonger h limit) (same name) longer) is

    pub file_wider : (name : List ℕ) (limit : ℕ) (large : Came) (Next Other : List ℕ → Came → Type 0) (a : Came) →
        ((bytes : List ℕ) → Next bytes a → Other bytes a) → AfterFile now before after name limit large Next a → AfterFile held first last name limit large Other a
    file_wider name limit large Next Other a step (unread is) = unread (unread_wider name limit large a is)
    file_wider name limit large Next Other a step (was_read bytes agrees within next) =
        was_read bytes (subst (λ h. Agrees h bytes) (same name) agrees) within (step bytes next)

    pub answer_wider : (Answers : List (List ℕ) → (file notes : List ℕ) → (status : ℕ) → (report : List ℕ) → List Warning → Type 0) (c : Check) (a : Came) →
        IsAnswer Answers now before after c a → IsAnswer Answers held first last c a
    answer_wider Answers c a =
        file_wider c.elf elf_limit _ _ _ a (λ file. file_wider c.notes notes_limit _ _ _ a (λ notes is. is))

    pub answers_wider : (Answers : List (List ℕ) → (file notes : List ℕ) → (status : ℕ) → (report : List ℕ) → List Warning → Type 0) (xs : List Answered) →
        AreAnswers Answers now before after xs → AreAnswers Answers held first last xs
    answers_wider Answers [] are = tt
    answers_wider Answers (x ∷ xs) are = (answer_wider Answers x.check x.came are.0, answers_wider Answers xs are.1)

-- one answer more
pub answers_last : (Answers : List (List ℕ) → (file notes : List ℕ) → (status : ℕ) → (report : List ℕ) → List Warning → Type 0) (held : List ℕ → Held)
    (before after : List ℕ → ℕ) (xs : List Answered) (x : Answered) → AreAnswers Answers held before after xs →
    IsAnswer Answers held before after x.check x.came → AreAnswers Answers held before after (xs ++ x ∷ [])
answers_last Answers held before after [] x are is = (is, tt)
answers_last Answers held before after (y ∷ ys) x are is = (are.0, answers_last Answers held before after ys x are.1 is)

pub nothing_appended : (text : Option (List ℕ)) → Appends text [] text
nothing_appended None = refl
nothing_appended (Some text) = ap Some (sym (append-nil text))

-- a piece behind another
pub appends_then : (old mid new : Option (List ℕ)) (p q : List ℕ) → Appends old p mid → Appends mid q new → Appends old (p ++ q) new
appends_then None mid new p q one two = subst (λ m. Appends m q new) one two
appends_then (Some text) mid new p q one two =
    let joined : Appends (Some (text ++ p)) q new = subst (λ m. Appends m q new) one two in
    joined ∙ ap Some (append_assoc text p q)
