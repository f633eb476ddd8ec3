-- What is answered over the files of two functions.
use Rattle.std.proofs.Common.{◌≡◌, ℕ, ◌<◌, ◌≤◌, Bool, true, List, Option, length, refl, sym, subst, ap, ◌∙◌, arith}
use Rattle.std.proofs.lemmas.Bool.Decides.{nat_tests}
use Rattle.std.proofs.Math.Nat.{le_trans}
use Rattle.std.specs.Prelude.{codes, nat_lt, if◌then◌else◌}
use Rattle.notes_spec.specs.Programs.{names_of}
use Rattle.bilv_spec.specs.Notes.{Expr}
use Rattle.bilv_spec.specs.Run.{Program}
use Rattle.notes_spec.specs.Scopes.{Paired}
use Rattle.notes_spec.specs.Verified.{AreNotesRefusedIn, IsAccepted, elf_large, elf_limit, notes_large, notes_limit}
use Rattle.call_spec.specs.Calls.{Answer, AfterRead, read_failed, was_read, Options, Surroundings, plain_answer}
use Rattle.call_spec.specs.Outside.{Held, Agrees, Rose}
use Rattle.clause_spec.specs.Checks.{text_limit}
use Rattle.io_edges.specs.Met.{seen}
use Rattle.links_lang.specs.Views.{links_of}
use Rattle.links_lang.specs.declared.links.Link as of
use Rattle.notes_value.specs.NoteViews.{notes_of}
use Rattle.notes_lang.specs.Parsing.{layout_names}
use Rattle.pair_spec.specs.Differs.{differ_answer, by_texts}
use Rattle.pair_spec.specs.Equals.{Side, AfterElfOf, elf_refused, elf_accepted, AfterNotesOf, notes_refused, program_found, AfterLinks, too_large, linked, links_limit}
use Rattle.pair_spec.specs.Equals as pairs
use Rattle.pair_spec.specs.Links.{Link, IsFirstLinkFault, IsLinksText}
use Rattle.start_value.specs.declared.layout.Layout.{Layout}
use Rattle.word_spec.specs.Texts.{line, split_lines}
use Rattle.bilv_top.specs.declared.inputs.Found.{Found}
use Rattle.bilv_top.specs.declared.pair.Which.{Which}
use Rattle.bilv_top.specs.Answers.{IfStep}
use Rattle.bilv_top.specs.declared.answer.Step.{Step}
use Rattle.bilv_top.specs.declared.answer.Step.TheVariants.{Answered, Go}
use Rattle.bilv_top.specs.Due.{IsUnread, failed, longer, IsFoundBy}
use Rattle.bilv_top.specs.Pairs.{word_of, with_word, IsMetSince, IsElfAnswered, IsNotesAnswerOf, IsLinksAnswer, AreLinksFound, program_found_by, AfterLinksRead}
use Rattle.bilv_top.proofs.Refused.{rose_since}

-- what is met since a call began is met since a later part of it
pub met_later : (s : Surroundings) (held later : List ℕ → Held) (before between after : List ℕ → ℕ) → IsMetSince s held before after →
    ((n : List ℕ) → later n ≡ held n) → ((n : List ℕ) → before n ≤ between n) → IsMetSince s later between after
met_later s held later before between after is keeps rises = record {
  held_is = λ n. is.held_is n ∙ sym (keeps n);
  risen = λ n. le_trans (is.risen n) (rises n);
  after_is = is.after_is;
}

-- a call meets what it sees
pub met_by_call : (held : List ℕ → Held) (before after : List ℕ → ℕ) → IsMetSince (seen held before after) held before after
met_by_call held before after =
    record { held_is = λ n. refl; risen = λ n. (let l : before n ≤ before n = omega arith in l); after_is = λ n. refl }

module _ (s : Surroundings) (held : List ℕ → Held) (before after : List ℕ → ℕ) (is : IsMetSince s held before after) (name : List ℕ) (a : Answer) where
  agrees_told : (bytes : List ℕ) → Agrees (held name) bytes → Agrees (s.held name) bytes
  agrees_told bytes h = subst (λ x. Agrees x bytes) (sym (is.held_is name)) h

  -- a file that was not read
  file_unread : (limit : ℕ) (large : Answer) (Next : List ℕ → Answer → Type 0) →
      ((bytes : List ℕ) → limit < length bytes → a ≡ large → Next bytes a) → IsUnread (held name) (before name) (after name) limit large a →
      AfterRead s name Next a
  file_unread limit large Next next (failed rose fault) =
      let since = rose_since (s.shelf_before name) (before name) (after name) (is.risen name) rose in
      read_failed (subst (λ n. Rose (s.shelf_before name) n) (sym (is.after_is name)) since) fault
  file_unread limit large Next next (longer long fault) = was_read long.0 (agrees_told long.0 long.1) (next long.0 long.2 fault)

  -- a file that was
  pub file_read : (Next : List ℕ → Answer → Type 0) (bytes : List ℕ) → Agrees (held name) bytes → Next bytes a → AfterRead s name Next a
  file_read Next bytes agrees next = was_read bytes (agrees_told bytes agrees) next

  pub elf_unread_of : (which : Which) (Next : List ℕ → Answer → Type 0) →
      IsUnread (held name) (before name) (after name) elf_limit (plain_answer 4 (with_word which (line (codes "elf: TooLarge")))) a →
      AfterRead s name (λ file. AfterElfOf (word_of which) file (Next file)) a
  elf_unread_of which Next u =
      file_unread elf_limit _ (λ file. AfterElfOf (word_of which) file (Next file))
      (λ bytes long fault. elf_refused (line (codes "elf: TooLarge")) (elf_large long) fault) u

  pub notes_answered_of : (which : Which) (o : Options) (file : List ℕ) (Next : Program → Answer → Type 0) →
      IsNotesAnswerOf which (held name) (before name) (after name) o file a → AfterRead s name (λ m. AfterNotesOf o (word_of which) file m Next) a
  notes_answered_of which o file Next (IsNotesAnswerOf.unread u) =
      file_unread notes_limit _ (λ m. AfterNotesOf o (word_of which) file m Next)
      (λ bytes long fault. notes_refused (line (codes "notes: TooLarge")) (notes_large long) fault) u
  notes_answered_of which o file Next (IsNotesAnswerOf.refused text written agrees refusal fault) =
      was_read text (agrees_told text agrees) (notes_refused written refusal fault)

  pub notes_found_of : (which : Which) (o : Options) (file : List ℕ) (f : Found) (Next : Program → Answer → Type 0) → Agrees (held name) f.text.items →
      length f.text.items ≤ notes_limit → IsAccepted file → IsFoundBy o file f → Next (program_found_by o file f) a →
      AfterRead s name (λ m. AfterNotesOf o (word_of which) file m Next) a
  notes_found_of which o file f Next agrees short accepted found next =
      was_read f.text.items (agrees_told f.text.items agrees)
      (program_found (program_found_by o file f) (accepted, short, (notes_of f.notes, f.entry, found.says, found.at, refl)) next)

  pub links_answered : (f g : List ℕ) (first second : List ℕ → Option Expr) (Next : List Link → Answer → Type 0) → first ≡ names_of f →
      second ≡ names_of g → IsLinksAnswer (held name) (before name) (after name) first second a → AfterLinksRead s name f g Next a
  links_answered f g first second Next i j (IsLinksAnswer.unread u) =
      file_unread links_limit _ (λ text. AfterLinks f g text Next) (λ bytes long fault. too_large long fault) u
  links_answered f g first second Next i j (IsLinksAnswer.refused text n fault agrees short at answer) =
      was_read text (agrees_told text agrees)
      (pairs.refused n fault short
      (subst (λ z. IsFirstLinkFault (names_of f) z text n fault) j (subst (λ z. IsFirstLinkFault z second text n fault) i at)) answer)

  pub links_found : (f g : List ℕ) (first second : Layout) (links : List of.Link) (Next : List Link → Answer → Type 0) →
      layout_names first ≡ names_of f → layout_names second ≡ names_of g → AreLinksFound (held name) first second links → Next (links_of links) a →
      AfterLinksRead s name f g Next a
  links_found f g first second links Next i j found next =
      was_read found.text (agrees_told found.text found.agrees)
      (linked (links_of links) found.short
      (subst (λ z. IsLinksText (names_of f) z found.text (links_of links)) j
      (subst (λ z. IsLinksText z (layout_names second) found.text (links_of links)) i found.said)) next)

-- a step that found the program of a side in the text of notes, or answered
pub step_found_of : (which : Which) (held : Held) (before after : ℕ) (o : Options) (file text : List ℕ) (step : Step Found) → Agrees held text →
    length text ≤ notes_limit →
    IfStep step (λ a. (written : List ℕ) × AreNotesRefusedIn Paired o file text written × (a ≡ plain_answer 5 (with_word which written)))
    (λ f. (f.text.items ≡ text) × IsFoundBy o file f) →
    IfStep step (IsNotesAnswerOf which held before after o file)
    (λ f. Agrees held f.text.items × (length f.text.items ≤ notes_limit) × IsFoundBy o file f)
step_found_of which held before after o file text (Answered a) agrees le is = IsNotesAnswerOf.refused text is.0 agrees is.1 is.2
step_found_of which held before after o file text (Go f) agrees le is =
    (subst (Agrees held) (sym is.0) agrees, subst (λ t. length t ≤ notes_limit) (sym is.0) le, is.1)

-- a report of a difference that is too long
difference_large : (a b : Side) (links : List Link) (text : List ℕ) → text_limit < length text →
    differ_answer a b links text ≡ plain_answer 9 (line (codes "state: TooLarge"))
difference_large a b links text h =
    let large : nat_lt text_limit (length text) ≡ true = grind (arith, nat_tests) in
    ap (λ (t : Bool). if t then plain_answer 9 (line (codes "state: TooLarge")) else by_texts a b links (split_lines text)) large

-- one that was not read
pub difference_unread : (s : Surroundings) (held : List ℕ → Held) (before after : List ℕ → ℕ) → IsMetSince s held before after → (name : List ℕ) (x : Answer)
    (a b : Side) (links : List Link) →
    IsUnread (held name) (before name) (after name) text_limit (plain_answer 9 (line (codes "state: TooLarge"))) x →
    AfterRead s name (λ text y. y ≡ differ_answer a b links text) x
difference_unread s held before after is name x a b links u =
    file_unread s held before after is name x text_limit _ (λ text y. y ≡ differ_answer a b links text)
    (λ bytes long fault. fault ∙ sym (difference_large a b links bytes long)) u

-- a file that is refused
pub elf_answered : (which : Which) (file : List ℕ) (Next : Answer → Type 0) (a : Answer) → IsElfAnswered which file a → AfterElfOf (word_of which) file Next a
elf_answered which file Next a is = elf_refused is.0 is.1 is.2
