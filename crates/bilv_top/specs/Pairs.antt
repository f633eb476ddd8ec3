-- Two functions, what is met on the way to the answer about both, and what is asked of them.
use Rattle.std.specs.Prelude.{ℕ, ◌≡◌, ◌≤◌, ◌++◌, List, [], ◌∷◌, Option, codes, length}
use Rattle.bilv_spec.specs.Files.{machine_of, program_of}
use Rattle.bilv_spec.specs.Notes.{Expr}
use Rattle.bilv_spec.specs.Run.{Program}
use Rattle.notes_spec.specs.Scopes.{Paired}
use Rattle.notes_spec.specs.Verified.{AreNotesRefusedIn, IsElfRefused, notes_limit}
use Rattle.call_spec.specs.Calls.{Answer, AfterRead, Options, Surroundings, plain_answer}
use Rattle.call_spec.specs.Outside.{Held, Agrees}
use Rattle.command_spec.specs.Commands.{PairNames}
use Rattle.pair_spec.specs.Differs.{differ_answer}
use Rattle.pair_spec.specs.Equals.{Side, side_of, AfterElfOf, AfterNotesOf, AfterLinks, IsPairReported, link_fault_words, links_limit}
use Rattle.pair_spec.specs.Links.{Link, LinkFault, IsLinksText, IsFirstLinkFault}
use Rattle.word_spec.specs.Texts.{line, number_text, spaced}
use Rattle.command_line.specs.Commands.{budget_of}
use Rattle.links_lang.specs.Views.{AreLinksOf, links_of}
use Rattle.links_lang.specs.declared.links.Link as of
use Rattle.notes_value.specs.NoteViews.{notes_of}
use Rattle.notes_lang.specs.Parsing.{layout_names}
use Rattle.start_value.specs.Starts.{layout_of}
use Rattle.start_value.specs.declared.layout.Layout.{Layout}
use Rattle.bilv_top.specs.declared.inputs.Found.{Found}
use Rattle.bilv_top.specs.declared.comparing.PairTask.{PairTask}
use Rattle.bilv_top.specs.declared.comparing.PairTask.TheVariants as task
use Rattle.bilv_top.specs.declared.pair.Which.{Which}
use Rattle.bilv_top.specs.declared.pair.Which.TheVariants.{First, Second}
use Rattle.bilv_top.specs.Due.{IsUnread}

-- the word of a side
abbrev pub word_of : Which → List ℕ
word_of First = codes "first"
word_of Second = codes "second"

-- a text with that word before it
abbrev pub with_word : Which → List ℕ → List ℕ
with_word which text = word_of which ++ codes " " ++ text

-- What is met since a call began: the shelf holds what it held, and its counts have not fallen.
pub record IsMetSince (s : Surroundings) (held : List ℕ → Held) (before after : List ℕ → ℕ) : Type 0 where
  pub held_is : (n : List ℕ) → s.held n ≡ held n
  pub risen : (n : List ℕ) → s.shelf_before n ≤ before n
  pub after_is : (n : List ℕ) → s.shelf_after n ≡ after n

-- a file of a side is refused, with this answer
abbrev pub IsElfAnswered : Which → (file : List ℕ) → Answer → Type 0
IsElfAnswered which file a = (written : List ℕ) × IsElfRefused file written × (a ≡ plain_answer 4 (with_word which written))

-- the answer where no program of a side is found: the notes of a name were not read, or are refused
pub data IsNotesAnswerOf (which : Which) (held : Held) (before after : ℕ) (o : Options) (file : List ℕ) (a : Answer) : Type 0 where
  unread : IsUnread held before after notes_limit (plain_answer 5 (with_word which (line (codes "notes: TooLarge")))) a →
      IsNotesAnswerOf which held before after o file a
  refused : (text written : List ℕ) → Agrees held text → AreNotesRefusedIn Paired o file text written → a ≡ plain_answer 5 (with_word which written) →
      IsNotesAnswerOf which held before after o file a

-- the text that refuses a line of links
abbrev pub link_fault_text : ℕ → LinkFault → List ℕ
link_fault_text n f = line (codes "links: line" ++ spaced (number_text n ∷ link_fault_words f ∷ []))

-- the answer where no links are found: their text was not read, or is refused
pub data IsLinksAnswer (held : Held) (before after : ℕ) (first second : List ℕ → Option Expr) (a : Answer) : Type 0 where
  unread : IsUnread held before after links_limit (plain_answer 5 (line (codes "links: TooLarge"))) a → IsLinksAnswer held before after first second a
  refused : (text : List ℕ) (n : ℕ) (f : LinkFault) → Agrees held text → length text ≤ links_limit → IsFirstLinkFault first second text n f →
      a ≡ plain_answer 5 (link_fault_text n f) → IsLinksAnswer held before after first second a

-- links that a text says
pub record AreLinksFound (held : Held) (first second : Layout) (links : List of.Link) : Type 0 where
  pub text : List ℕ
  pub agrees : Agrees held text
  pub short : length text ≤ links_limit
  pub said : IsLinksText (layout_names first) (layout_names second) text (links_of links)
  pub forms : AreLinksOf first second links

-- the program that was found over a file
abbrev pub program_found_by : Options → (file : List ℕ) → Found → Program
program_found_by o file f = program_of (machine_of o file) file (notes_of f.notes) f.entry

-- the side of a program whose states have a form
abbrev pub side_in : Layout → Program → Side
side_in form p = record { program = p; layout = layout_of form }

-- ---- the answer after each file

abbrev pub AfterLinksRead : Surroundings → (links f g : List ℕ) → (List Link → Answer → Type 0) → Answer → Type 0
AfterLinksRead s links f g Next = AfterRead s links (λ text. AfterLinks f g text Next)

abbrev pub AfterSecondNotes : Surroundings → Options → PairNames → (f g : List ℕ) → (Program → List Link → Answer → Type 0) → Answer → Type 0
AfterSecondNotes s o names f g Next =
    AfterRead s names.other_notes (λ n. AfterNotesOf o (codes "second") g n (λ q. AfterLinksRead s names.links f g (Next q)))

abbrev pub AfterFirstNotes : Surroundings → Options → PairNames → (f g : List ℕ) → (Program → Program → List Link → Answer → Type 0) → Answer → Type 0
AfterFirstNotes s o names f g Next =
    AfterRead s names.notes (λ m. AfterNotesOf o (codes "first") f m (λ p. AfterSecondNotes s o names f g (Next p)))

abbrev pub AfterSecondElf : Surroundings → Options → PairNames → (f : List ℕ) → (List ℕ → Program → Program → List Link → Answer → Type 0) → Answer →
    Type 0
AfterSecondElf s o names f Next =
    AfterRead s names.other_elf (λ g. AfterElfOf (codes "second") g (AfterFirstNotes s o names f g (Next g)))

-- ---- what is asked

-- the right answer to it about two functions and their links
abbrev pub IsCompared : Surroundings → PairTask → (a b : Side) → List Link → Answer → Type 0
IsCompared s (task.Equal budget) a b links x = IsPairReported a b links (budget_of budget) x
IsCompared s (task.Differ name) a b links x = AfterRead s name.now (λ text y. y ≡ differ_answer a b links text) x

-- the same, of the programs of two files
abbrev pub AreCompared : Surroundings → Options → PairTask → (f g : List ℕ) → (p q : Program) → List Link → Answer → Type 0
AreCompared s o t f g p q links x = IsCompared s t (side_of o f p) (side_of o g q) links x
