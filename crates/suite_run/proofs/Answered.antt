-- What a check comes to, by what was read.
use Rattle.std.proofs.Common.{◌≡◌, ℕ, ◌≤◌, List, codes, length, subst, arith}
use Rattle.word_spec.specs.Texts.{line}
use Rattle.call_spec.specs.Outside.{Held, Agrees}
use Rattle.suite_file.specs.Suites.{Check}
use Rattle.suite_run.specs.Answers.{Came, came, IsUnread, IsAnswer, unread, was_read, elf_limit, notes_limit}
use Rattle.suite_run.proofs.Wider.{Same, Rising, unread_wider}
use Rattle.note_check.specs.declared.warning.Warning.{Warning}

module _ (Answers : List (List ℕ) → (file notes : List ℕ) → (status : ℕ) → (report : List ℕ) → List Warning → Type 0) (held now : List ℕ → Held)
    (first mid last : List ℕ → ℕ) (same : Same held now) (early : Rising first mid) (c : Check) (a : Came) (file : List ℕ)
    (agrees : Agrees (held c.elf) file) (within : length file ≤ elf_limit) where
  pub without_notes : IsUnread now mid last c.notes notes_limit (came 5 (line (codes "notes: TooLarge"))) a → IsAnswer Answers held first last c a
  without_notes is =
      was_read file agrees within (unread (unread_wider held now first mid last last same early (λ n. omega arith) c.notes notes_limit _ a is))

  pub verified : (notes : List ℕ) → Agrees (now c.notes) notes → length notes ≤ notes_limit → Answers c.options file notes a.status a.report a.warnings →
      IsAnswer Answers held first last c a
  verified notes told short is = was_read file agrees within (was_read notes (subst (λ h. Agrees h notes) (same c.notes) told) short is)
