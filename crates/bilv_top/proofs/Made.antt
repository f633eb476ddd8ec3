-- What is answered to made work.
use Rattle.std.proofs.Common.{◌≡◌, ℕ, zero, suc, ◌+◌, ◌*◌, ◌<◌, ◌≤◌, List, [], ◌∷◌, ◌++◌, length, Bool, true, false, refl, ap, sym, subst, ◌∙◌, arith}
use Rattle.std.specs.Prelude.{codes, map, Contains, take, if◌then◌else◌, ◌==◌, not}
use Rattle.std.specs.List.{prefix_len, flat_map}
use Rattle.std.proofs.lemmas.Bool.{eqb-true}
use Rattle.std.proofs.lemmas.Bool.Decides.{nat_tests}
use Rattle.std.proofs.lemmas.List.Elements.{Contains-push, Contains-append_left}
use Rattle.word_spec.specs.Memory.{Little}
use Rattle.bilv_spec.specs.Run.{Program}
use Rattle.word_spec.specs.Texts.{line, line_feed, lines, joined, spaced, number_text, word_text}
use Rattle.command_spec.specs.Work.{item_words, next_item, work_file, work_notes, work_text}
use Rattle.word_spec.specs.RowFiles.{bytes_of, rv_file}
use Rattle.call_spec.specs.Calls.{Options, default_options, Answer, Budget, Evidence, NoEvidence, Refutations, EntryRefuted, RunOf, SpentOn, Count, Two, Both, SpentOnPair, plain_answer, default_budget, Inductive, FromHead, Frames, WithCalls, SpentOnFrame}
use Rattle.bilv_spec.specs.Files.{layout_of, machine_of, program_of}
use Rattle.notes_spec.specs.Programs.{vocabulary_of}
use Rattle.notes_spec.specs.NotesGrammar.{IsNotesText}
use Rattle.machine_spec.specs.Endings.{NamedEnding, FailsBy, UnknownBy}
use Rattle.machine_spec.specs.StateText.{Layout, NamedLine, words_of_line, lines_behind, printed}
use Rattle.word_spec.specs.State.{Written}
use Rattle.bilv_spec.specs.Answers.{Report, HoldsReport, VacuousReport, FailsReport, UnrollReport, PointsReport, SizeReport, ConflictsReport, IsRightReport, IsReported, budget_text, report_text}
use Rattle.notes_spec.specs.Verified.{elf_fault_words, note_fault_words, elf_refused, elf_accepted, AfterNotes, notes_refused, program_found, IsElfRefused, elf_large, elf_fault, AreNotesRefused, notes_large, notes_fault, no_function, ambiguous, IsVerified, IsAccepted, elf_limit, notes_limit}
use Rattle.answer_spec.specs.Outcomes.{IsFirstLine, IsSelfRun}
use Rattle.notes_value.specs.NoteViews.{notes_of}
use Rattle.bilv_top.specs.declared.inputs.Found.{Found}
use Rattle.bilv_top.specs.Due.{AreNotesAnswered, IsFoundBy}

-- the file of a number

words_long : (x n : ℕ) → length (item_words x n) ≡ suc n
words_long x zero = refl
words_long x (suc n) = ap suc (words_long (next_item x) n)

bytes_long : (words : List ℕ) → length (flat_map (bytes_of Little 4) words) ≡ 4 * length words
bytes_long [] = refl
bytes_long (w ∷ words) = let h = bytes_long words in omega arith

work_short : (seed count : ℕ) → count ≤ 16000 → length (work_file seed count) ≤ elf_limit
work_short seed count few =
    let words = words_long seed count in
    let long : length (rv_file (item_words seed count)) ≡ 84 + 4 * length (item_words seed count) = let h = bytes_long (item_words seed count) in omega arith in
    omega arith

pub file_short : (file : List ℕ) (seed count : ℕ) → file ≡ work_file seed count → count ≤ 16000 → length file ≤ elf_limit
file_short file seed count is few = subst (λ f. length f ≤ elf_limit) (sym is) (work_short seed count few)

-- notes over an accepted file

module _ (file text image : List ℕ) (b : Budget) (a : Answer) (same : image ≡ file) (accepted : IsAccepted file) where
  pub large_verified : notes_limit < length text → a ≡ plain_answer 5 (line (codes "notes: TooLarge")) → IsVerified default_options file text b a
  large_verified long is = elf_accepted accepted (notes_refused (line (codes "notes: TooLarge")) (notes_large long) is)

  pub answered_verified : AreNotesAnswered default_options image text a → IsVerified default_options file text b a
  answered_verified answered =
      elf_accepted accepted (notes_refused answered.0 (subst (λ x. AreNotesRefused default_options x text answered.0) same answered.1) answered.2)

  pub found_verified : (f : Found) → length text ≤ notes_limit → (f.text.items ≡ text) × IsFoundBy default_options image f →
      IsReported (program_of (machine_of default_options image) image (notes_of f.notes) f.entry) (layout_of default_options image) b a →
      IsVerified default_options file text b a
  found_verified f short found said =
      let by = subst (λ x. IsFoundBy default_options x f) same found.1 in
      let says = subst (λ t. IsNotesText (vocabulary_of default_options file) t (notes_of f.notes)) found.0 by.says in
      elf_accepted accepted (program_found (program_of (machine_of default_options file) file (notes_of f.notes) f.entry)
      (accepted, short, (notes_of f.notes, f.entry, says, by.at, refl))
      (subst (λ x. IsReported (program_of (machine_of default_options x) x (notes_of f.notes) f.entry) (layout_of default_options x) b a) same said))

-- each answer has a line

line_has : (text : List ℕ) → Contains (line text) line_feed
line_has text = Contains-push text line_feed

printed_has : (layout : Layout) (named : NamedEnding) (w : Written) → Contains (printed layout (record { named = named; start = w })) line_feed
unfolding printed
printed_has layout named w =
    let first = joined (words_of_line layout (NamedLine named)) in
    Contains-append_left (line first) (lines (map (λ l. joined (words_of_line layout l)) (lines_behind layout w))) line_feed (line_has first)

budget_has : (name : List ℕ) (n : ℕ) → Contains (budget_text name n) line_feed
budget_has name n = line_has (joined (codes "unknown" ∷ name ∷ number_text n ∷ []))

report_has : (p : Program) (layout : Layout) (b : Budget) (r : Report) (e : Evidence) → IsRightReport p layout b r e →
    Contains (report_text layout b r e) line_feed
report_has p layout b HoldsReport e is = line_has (codes "holds")
report_has p layout b VacuousReport e is = line_has (codes "vacuous")
report_has p layout b (FailsReport event at step) (RunOf w) is = printed_has layout (FailsBy event at step) w
report_has p layout b (FailsReport event at step) NoEvidence is = absurd is
report_has p layout b (FailsReport event at step) (Refutations w fail turn) is = absurd is
report_has p layout b (FailsReport event at step) (EntryRefuted proof) is = absurd is
report_has p layout b (FailsReport event at step) (SpentOn q proof) is = absurd is
report_has p layout b (FailsReport event at step) (Count n) is = absurd is
report_has p layout b (FailsReport event at step) (Two x y) is = absurd is
report_has p layout b (FailsReport event at step) (Both x y z t proof) is = absurd is
report_has p layout b (FailsReport event at step) (SpentOnPair q proof) is = absurd is
report_has p layout b (FailsReport event at step) (Inductive w fail second turn) is = absurd is
report_has p layout b (FailsReport event at step) (FromHead w head) is = absurd is
report_has p layout b (FailsReport event at step) (Frames list) is = absurd is
report_has p layout b (FailsReport event at step) (WithCalls rank w list) is = absurd is
report_has p layout b (FailsReport event at step) (SpentOnFrame rank q proof) is = absurd is
report_has p layout b (UnrollReport at step) (RunOf w) is = printed_has layout (UnknownBy b.unroll at step) w
report_has p layout b (UnrollReport at step) NoEvidence is = absurd is
report_has p layout b (UnrollReport at step) (Refutations w fail turn) is = absurd is
report_has p layout b (UnrollReport at step) (EntryRefuted proof) is = absurd is
report_has p layout b (UnrollReport at step) (SpentOn q proof) is = absurd is
report_has p layout b (UnrollReport at step) (Count n) is = absurd is
report_has p layout b (UnrollReport at step) (Two x y) is = absurd is
report_has p layout b (UnrollReport at step) (Both x y z t proof) is = absurd is
report_has p layout b (UnrollReport at step) (SpentOnPair q proof) is = absurd is
report_has p layout b (UnrollReport at step) (Inductive w fail second turn) is = absurd is
report_has p layout b (UnrollReport at step) (FromHead w head) is = absurd is
report_has p layout b (UnrollReport at step) (Frames list) is = absurd is
report_has p layout b (UnrollReport at step) (WithCalls rank w list) is = absurd is
report_has p layout b (UnrollReport at step) (SpentOnFrame rank q proof) is = absurd is
report_has p layout b PointsReport e is = budget_has (codes "points") b.points
report_has p layout b SizeReport e is = budget_has (codes "size") b.size
report_has p layout b ConflictsReport e is = budget_has (codes "conflicts") b.conflicts

elf_has : (file written : List ℕ) → IsElfRefused file written → Contains written line_feed
elf_has file written (elf_large long) = line_has (codes "elf: TooLarge")
elf_has file written (elf_fault f short first) = line_has (codes "elf:" ++ spaced (elf_fault_words f ∷ []))

notes_have : (o : Options) (file text written : List ℕ) → AreNotesRefused o file text written → Contains written line_feed
notes_have o file text written (notes_large long) = line_has (codes "notes: TooLarge")
notes_have o file text written (notes_fault n f short first) = line_has (codes "notes: line" ++ spaced (number_text n ∷ note_fault_words f ∷ []))
notes_have o file text written (no_function notes name short is at none) = line_has (codes "notes: NoFunction")
notes_have o file text written (ambiguous notes name a c short is at two) = line_has (codes "notes: Ambiguous" ++ spaced (word_text a ∷ word_text c ∷ []))

text_has : (a : Answer) (status : ℕ) (written : List ℕ) → a ≡ plain_answer status written → Contains written line_feed → Contains a.text line_feed
text_has a status written is has = subst (λ t. Contains t line_feed) (sym (ap (λ x. x.text) is)) has

found_has : (file text : List ℕ) (b : Budget) (a : Answer) → AfterNotes default_options file text (λ p. IsReported p (layout_of default_options file) b) a →
    Contains a.text line_feed
found_has file text b a (notes_refused written refused is) = text_has a 5 written is (notes_have default_options file text written refused)
found_has file text b a (program_found p found is) =
    subst (λ t. Contains t line_feed) (sym (ap (λ x. x.text) is.3)) (report_has p (layout_of default_options file) b is.0 is.1 is.2)

pub verified_has : (file text : List ℕ) (b : Budget) (a : Answer) → IsVerified default_options file text b a → Contains a.text line_feed
verified_has file text b a (elf_refused written refused is) = text_has a 4 written is (elf_has file written refused)
verified_has file text b a (elf_accepted accepted next) = found_has file text b a next

-- the first line

-- a byte that ends no line
abbrev is_within : ℕ → Bool
is_within b = not (b == 10)

-- what stands before the first line feed
abbrev front_of : List ℕ → List ℕ
front_of text = take (prefix_len is_within text) text

behind : (b : ℕ) (rest : List ℕ) → (b == 10) ≡ false → Contains (b ∷ rest) line_feed → Contains rest line_feed
behind b rest e (zero, lt, is) = absurd (grind (arith, nat_tests, e, is))
behind b rest e (suc k, lt, is) = (k, omega (arith, lt), is)

one_more : (n x : ℕ) (xs : List ℕ) → take (1 + n) (x ∷ xs) ≡ x ∷ take n xs
one_more n x xs = let h : 1 + n ≡ suc n = omega arith in ap (λ m. take m (x ∷ xs)) h

first_more : (b : ℕ) (rest : List ℕ) (t : Bool) → (b == 10) ≡ t → (Contains rest line_feed → IsFirstLine rest (front_of rest)) → Contains (b ∷ rest) line_feed →
    IsFirstLine (b ∷ rest) (take (if not t then 1 + prefix_len is_within rest else 0) (b ∷ rest))
first_more b rest true e next has = (rest, ap (λ x. x ∷ rest) (eqb-true b 10 e), λ none. absurd (omega (arith, none.1)))
first_more b rest false e next has =
    let left = next (behind b rest e has) in
    subst (λ f. IsFirstLine (b ∷ rest) f) (sym (one_more (prefix_len is_within rest) b rest))
    (left.0, ap (λ x. b ∷ x) left.1, λ has. left.2 (behind b (front_of rest) e has))

pub first_line_is : (text : List ℕ) → Contains text line_feed → IsFirstLine text (front_of text)
first_line_is [] has = absurd (omega (arith, has.1))
first_line_is (b ∷ rest) has = first_more b rest (b == 10) refl (first_line_is rest) has

-- the answer

module _ (seed count : ℕ) (file notes : List ℕ) (b : Budget) (inner : Answer) (file_is : file ≡ work_file seed count) (notes_is : notes ≡ work_notes seed count)
    (b_is : b ≡ default_budget) (verified : IsVerified default_options file notes b inner) where
  made_verified : IsVerified default_options (work_file seed count) (work_notes seed count) default_budget inner
  made_verified =
      let f = subst (λ x. IsVerified default_options x notes b inner) file_is verified in
      let n = subst (λ x. IsVerified default_options (work_file seed count) x b inner) notes_is f in
      subst (λ x. IsVerified default_options (work_file seed count) (work_notes seed count) x inner) b_is n

  pub selfrun_is : (shown first front with_first text : List ℕ) → shown ≡ inner.text → IsFirstLine shown first → front ≡ work_text seed count →
      with_first ≡ front ++ first → text ≡ with_first ++ line_feed ∷ [] → IsSelfRun seed count (record inner { text = text })
  selfrun_is shown first front with_first text same is front_is one two = (
    inner,
    first,
    made_verified,
    subst (λ t. IsFirstLine t first) same is,
    ap (λ t. record inner { text = t }) (two ∙ ap (λ t. t ++ line_feed ∷ []) (one ∙ ap (λ t. t ++ first) front_is)),
  )
