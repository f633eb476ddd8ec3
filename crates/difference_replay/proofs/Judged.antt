-- The answer to a report, by what its text, its states and its runs come to.
use Rattle.std.proofs.Common.{◌≡◌, ℕ, suc, ◌<◌, ◌≤◌, refl, ap, sym, ◌∙◌, arith, Bool, true, false, List, [], ◌∷◌, ◌++◌, Option, Some, None, length}
use Rattle.std.specs.Prelude.{nat_lt, codes, if◌then◌else◌}
use Rattle.std.proofs.lemmas.Bool.Decides.{nat_tests}
use Rattle.word_spec.specs.State.{State}
use Rattle.word_spec.specs.Texts.{line, joined, split_lines, words_in}
use Rattle.machine_spec.specs.Machine.{is_place}
use Rattle.machine_spec.specs.Endings.{Start}
use Rattle.machine_spec.specs.StateText.{StateRegisterFault, StateLineFault}
use Rattle.clause_spec.specs.Checks.{text_limit}
use Rattle.call_spec.specs.Calls.{Answer, plain_answer}
use Rattle.bilv_spec.specs.Run.{Program}
use Rattle.bilv_spec.specs.EntryFaults.{false_require}
use Rattle.bilv_spec.specs.Reports.{Found, found_words, turns_within}
use Rattle.pair_spec.specs.Links.{Link, first_line, unlinked_line, differing_line}
use Rattle.pair_spec.specs.Equals.{Side}
use Rattle.pair_spec.specs.Differs.{NamedDifference, difference_of_words, blocks_told, exit_at, found_in, side_end, found_text, by_line, by_exits, by_links, by_require, by_state, by_starts, refused_at, by_told, by_first, by_texts, differ_answer}
use Rattle.links_lang.specs.Views.{links_of}
use Rattle.links_lang.specs.declared.links.Link as code
use Rattle.difference_replay.specs.declared.probes.Half.{Half}
use Rattle.difference_replay.specs.declared.probes.Half.TheVariants.{First, Second}
use Rattle.difference_replay.specs.declared.probes.RunEnd.{RunEnd}
use Rattle.difference_replay.specs.declared.probes.RunEnd.TheVariants.{Entry, Exit}
use Rattle.difference_replay.specs.declared.probes.Probe.{Probe}
use Rattle.difference_replay.specs.Probes.{all_probes, values_on, first_unlike, agrees_at}
use Rattle.difference_replay.proofs.Agreeing.{unlike_is}

-- ---- the text

module _ (a b : Side) (links : List Link) (text : List ℕ) where
  pub large_is : text_limit < length text → plain_answer 9 (line (codes "state: TooLarge")) ≡ differ_answer a b links text
  large_is more =
      let test : nat_lt text_limit (length text) ≡ true = grind (arith, nat_tests) in
      sym (ap (λ (c : Bool). if c then plain_answer 9 (line (codes "state: TooLarge")) else by_texts a b links (split_lines text)) test)

  module _ (less : length text ≤ text_limit) where
    pub small_is : (ls : List (List ℕ)) → split_lines text ≡ ls → by_texts a b links ls ≡ differ_answer a b links text
    small_is ls is =
        let test : nat_lt text_limit (length text) ≡ false = grind (arith, nat_tests) in
        ap (by_texts a b links) (sym is)
        ∙ sym (ap (λ (c : Bool). if c then plain_answer 9 (line (codes "state: TooLarge")) else by_texts a b links (split_lines text)) test)

    pub empty_is : length text ≡ 0 → refused_at 1 StateRegisterFault ≡ differ_answer a b links text
    empty_is none = small_is [] (by text none)
      where
        by : (t : List ℕ) → length t ≡ 0 → split_lines t ≡ []
        by [] h = refl
        by (c ∷ t) h = absurd (omega (arith, h))

    pub unnamed_is : (first : List ℕ) (rest : List (List ℕ)) → split_lines text ≡ first ∷ rest → difference_of_words (words_in first) ≡ None →
        refused_at 1 StateLineFault ≡ differ_answer a b links text
    unnamed_is first rest is none = ap (by_first a b links rest) (sym none) ∙ small_is (first ∷ rest) is

    pub named_is : (first : List ℕ) (rest : List (List ℕ)) (d : NamedDifference) → split_lines text ≡ first ∷ rest →
        difference_of_words (words_in first) ≡ Some d → by_told a b links d (blocks_told a b rest) ≡ differ_answer a b links text
    named_is first rest d is some = ap (by_first a b links rest) (sym some) ∙ small_is (first ∷ rest) is

-- ---- the entry states

module _ (word : List ℕ) (p : Program) (s : State) (next : Answer) where
  pub passed : is_place p.machine.narrow (s.regs p.machine.link) ≡ true → false_require p s ≡ None → next ≡ by_state word p s next
  passed even none =
      sym
      (ap (λ (c : Bool). if c then by_require word (false_require p s) next else plain_answer 9 (line (codes "state: " ++ word ++ codes " link"))) even
      ∙ ap (λ o. by_require word o next) none)

module _ (a b : Side) (links : List Link) (d : NamedDifference) (x y : Start) where
  abbrev after_first : Answer
  after_first = by_state (codes "second") b.program y.state (by_links a.program b.program links d x y (unlinked_line links x.state y.state))

  pub first_passed : is_place a.program.machine.narrow (x.state.regs a.program.machine.link) ≡ true → false_require a.program x.state ≡ None →
      after_first ≡ by_starts a b links d x y
  first_passed even none = passed (codes "first") a.program x.state after_first even none

  pub both_passed : (o : Option ℕ) → is_place a.program.machine.narrow (x.state.regs a.program.machine.link) ≡ true → false_require a.program x.state ≡ None →
      is_place b.program.machine.narrow (y.state.regs b.program.machine.link) ≡ true → false_require b.program y.state ≡ None →
      unlinked_line links x.state y.state ≡ o → by_links a.program b.program links d x y o ≡ by_starts a b links d x y
  both_passed o even none also nor is =
      ap (by_links a.program b.program links d x y) (sym is)
      ∙ passed (codes "second") b.program y.state (by_links a.program b.program links d x y (unlinked_line links x.state y.state)) also nor
      ∙ first_passed even none

-- ---- the first line by the values of two states

module _ (s t : State) (links : List code.Link) (ps : List Probe) (xs ys : List ℕ) (o : Option ℕ) (first : xs ≡ values_on First s ps)
    (second : ys ≡ values_on Second t ps) (is : o ≡ first_unlike ps xs ys) where
  line_by : (at : RunEnd) → ps ≡ all_probes at links → first_line (agrees_at at s t) (links_of links) ≡ o
  line_by at all =
      sym (unlike_is s t at links)
      ∙ ap (λ l. first_unlike l (values_on First s l) (values_on Second t l)) (sym all)
      ∙ ap (λ l. first_unlike ps l (values_on Second t ps)) (sym first)
      ∙ ap (first_unlike ps xs) (sym second)
      ∙ sym is

  pub unlinked_by : ps ≡ all_probes Entry links → unlinked_line (links_of links) s t ≡ o
  unlinked_by all = line_by Entry all

  pub differing_by : ps ≡ all_probes Exit links → differing_line (links_of links) s t ≡ o
  differing_by all = line_by Exit all

-- ---- the exits

module _ (a b : Program) (links : List Link) (d : NamedDifference) (x y : Start) where
  pub first_stays : exit_at a x d.first ≡ None →
      plain_answer 9 (found_text d (side_end (codes "first") a x d.first)) ≡ by_exits a b links d x y (exit_at a x d.first) (exit_at b y d.second)
  first_stays none = ap (λ o. by_exits a b links d x y o (exit_at b y d.second)) (sym none)

  pub second_stays : (s : State) → exit_at a x d.first ≡ Some s → exit_at b y d.second ≡ None →
      plain_answer 9 (found_text d (side_end (codes "second") b y d.second)) ≡ by_exits a b links d x y (exit_at a x d.first) (exit_at b y d.second)
  second_stays s some none =
      ap (by_exits a b links d x y (Some s)) (sym none) ∙ ap (λ o. by_exits a b links d x y o (exit_at b y d.second)) (sym some)

  pub both_exit : (s t : State) (o : Option ℕ) → exit_at a x d.first ≡ Some s → exit_at b y d.second ≡ Some t → differing_line links s t ≡ o →
      by_line d o ≡ by_exits a b links d x y (exit_at a x d.first) (exit_at b y d.second)
  both_exit s t o some also is =
      ap (by_line d) (sym is)
      ∙ ap (by_exits a b links d x y (Some s)) (sym also)
      ∙ ap (λ r. by_exits a b links d x y r (exit_at b y d.second)) (sym some)

-- what the run of a side is found to come to
pub end_is : (word : List ℕ) (p : Program) (start : Start) (n : ℕ) (d : NamedDifference) (f : Found) → f ≡ found_in p start n →
    plain_answer 9 (found_text d (word ++ codes " " ++ joined (found_words (turns_within n None) f))) ≡ plain_answer 9 (found_text d (side_end word p start n))
end_is word p start n d f is = ap (λ g. plain_answer 9 (found_text d (word ++ codes " " ++ joined (found_words (turns_within n None) g)))) is

-- there are as many values as places
pub values_many : (half : Half) (s : State) (ps qs : List Probe) (xs : List ℕ) → xs ≡ values_on half s ps → ps ≡ qs → length xs ≡ length qs
values_many half s ps qs xs is same = ap length is ∙ many ps ∙ ap length same
  where
    many : (rs : List Probe) → length (values_on half s rs) ≡ length rs
    many [] = refl
    many (r ∷ rs) = ap suc (many rs)
