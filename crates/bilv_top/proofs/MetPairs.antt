-- The answer about two functions that is due stays so, whatever is written.
use Rattle.std.proofs.Common.{ℕ, List, Option}
use Rattle.std.specs.Prelude.{codes}
use Rattle.answer_spec.specs.Outcomes.{AfterPair}
use Rattle.bilv_spec.specs.Run.{Program}
use Rattle.call_spec.specs.Calls.{Options, Answer, Surroundings}
use Rattle.command_spec.specs.Commands.{PairNames}
use Rattle.io_edges.specs.Met.{met}
use Rattle.io_edges.proofs.Meeting.{read_met}
use Rattle.pair_spec.specs.Equals.{AfterElfOf, elf_refused, elf_accepted, AfterNotesOf, notes_refused, program_found, AfterLinks, too_large, refused, linked}
use Rattle.pair_spec.specs.Links.{Link}
use Rattle.bilv_top.specs.Pairs.{AfterLinksRead, AfterSecondNotes, AfterFirstNotes, AfterSecondElf}

-- what comes next after the ELF file of a side, after its notes, and after links
elf_next : (word file : List ℕ) (Next Other : Answer → Type 0) (a : Answer) → (Next a → Other a) → AfterElfOf word file Next a → AfterElfOf word file Other a
elf_next word file Next Other a step (elf_refused written x is) = elf_refused written x is
elf_next word file Next Other a step (elf_accepted x next) = elf_accepted x (step next)

notes_next : (o : Options) (word file text : List ℕ) (Next Other : Program → Answer → Type 0) (a : Answer) → ((p : Program) → Next p a → Other p a) →
    AfterNotesOf o word file text Next a → AfterNotesOf o word file text Other a
notes_next o word file text Next Other a step (notes_refused written x is) = notes_refused written x is
notes_next o word file text Next Other a step (program_found p x next) = program_found p x (step p next)

links_next : (f g text : List ℕ) (Next Other : List Link → Answer → Type 0) (a : Answer) → ((links : List Link) → Next links a → Other links a) →
    AfterLinks f g text Next a → AfterLinks f g text Other a
links_next f g text Next Other a step (too_large long is) = too_large long is
links_next f g text Next Other a step (refused n fault short first is) = refused n fault short first is
links_next f g text Next Other a step (linked links short said next) = linked links short said (step links next)

module _ (s : Surroundings) (before after : Option (List ℕ)) (sink_before sink_after : ℕ) (o : Options) (names : PairNames) (a : Answer) where
  abbrev there : Surroundings
  there = met s before after sink_before sink_after

  links_met : (f g : List ℕ) (Next Other : List Link → Answer → Type 0) → ((links : List Link) → Next links a → Other links a) →
      AfterLinksRead s names.links f g Next a → AfterLinksRead there names.links f g Other a
  links_met f g Next Other step =
      read_met s before after sink_before sink_after names.links (λ text. AfterLinks f g text Next) (λ text. AfterLinks f g text Other) a
      (λ text. links_next f g text Next Other a step)

  second_notes_met : (f g : List ℕ) (Next Other : Program → List Link → Answer → Type 0) →
      ((q : Program) (links : List Link) → Next q links a → Other q links a) → AfterSecondNotes s o names f g Next a → AfterSecondNotes there o names f g Other a
  second_notes_met f g Next Other step =
      read_met s before after sink_before sink_after names.other_notes
      (λ n. AfterNotesOf o (codes "second") g n (λ q. AfterLinksRead s names.links f g (Next q)))
      (λ n. AfterNotesOf o (codes "second") g n (λ q. AfterLinksRead there names.links f g (Other q))) a
      (λ n. notes_next o (codes "second") g n (λ q. AfterLinksRead s names.links f g (Next q)) (λ q. AfterLinksRead there names.links f g (Other q)) a
      (λ q. links_met f g (Next q) (Other q) (step q)))

  first_notes_met : (f g : List ℕ) (Next Other : Program → Program → List Link → Answer → Type 0) →
      ((p q : Program) (links : List Link) → Next p q links a → Other p q links a) → AfterFirstNotes s o names f g Next a →
      AfterFirstNotes there o names f g Other a
  first_notes_met f g Next Other step =
      read_met s before after sink_before sink_after names.notes
      (λ m. AfterNotesOf o (codes "first") f m (λ p. AfterSecondNotes s o names f g (Next p)))
      (λ m. AfterNotesOf o (codes "first") f m (λ p. AfterSecondNotes there o names f g (Other p))) a
      (λ m. notes_next o (codes "first") f m (λ p. AfterSecondNotes s o names f g (Next p)) (λ p. AfterSecondNotes there o names f g (Other p)) a
      (λ p. second_notes_met f g (Next p) (Other p) (step p)))

  second_elf_met : (f : List ℕ) (Next Other : List ℕ → Program → Program → List Link → Answer → Type 0) →
      ((g : List ℕ) (p q : Program) (links : List Link) → Next g p q links a → Other g p q links a) → AfterSecondElf s o names f Next a →
      AfterSecondElf there o names f Other a
  second_elf_met f Next Other step =
      read_met s before after sink_before sink_after names.other_elf
      (λ g. AfterElfOf (codes "second") g (AfterFirstNotes s o names f g (Next g)))
      (λ g. AfterElfOf (codes "second") g (AfterFirstNotes there o names f g (Other g))) a
      (λ g. elf_next (codes "second") g (AfterFirstNotes s o names f g (Next g)) (AfterFirstNotes there o names f g (Other g)) a
      (first_notes_met f g (Next g) (Other g) (step g)))

  pub pair_met : (Next Other : (first second : List ℕ) → (p q : Program) → List Link → Answer → Type 0) →
      ((f g : List ℕ) (p q : Program) (links : List Link) → Next f g p q links a → Other f g p q links a) → AfterPair s o names Next a →
      AfterPair there o names Other a
  pair_met Next Other step =
      read_met s before after sink_before sink_after names.elf (λ f. AfterElfOf (codes "first") f (AfterSecondElf s o names f (Next f)))
      (λ f. AfterElfOf (codes "first") f (AfterSecondElf there o names f (Other f))) a
      (λ f. elf_next (codes "first") f (AfterSecondElf s o names f (Next f)) (AfterSecondElf there o names f (Other f)) a
      (second_elf_met f (Next f) (Other f) (step f)))
