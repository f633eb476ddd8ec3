-- The starts of values of both sides: their readings make the question true, and the starts follow them.
use Rattle.std.proofs.Common.{refl, ◌∙◌, ℕ, List, Bool, true, false}
use Rattle.std.specs.Prelude.{All}
use Rattle.clause_spec.specs.Clauses.{Cnf, Satisfies}
use Rattle.machine_spec.specs.StateText.{Layout}
use Rattle.word_spec.specs.State.{Written}
use Rattle.bilv_spec.specs.Run.{Program}
use Rattle.bilv_spec.specs.Verdict.{IsEntryState}
use Rattle.bilv_spec.specs.Questions.{Reading, IsEntryStateOver, by_file}
use Rattle.bilv_spec.specs.QuestionLaws.{Follows}
use Rattle.bilv_spec.specs.Answers.{start_in}
use Rattle.walk_spec.specs.Unrolled.{UnrolledProgram}
use Rattle.walk_spec.specs.Unrolling.{IsLaidOut}
use Rattle.term_spec.specs.ClauseForm.{inputs, IsStartOf, IsReadingOf}
use Rattle.walk_laws.proofs.StartReadings as starts
use Rattle.pair_spec.specs.Links.{Link, ComparesAlike, asking}
use Rattle.call_spec.specs.Calls.{PairQuestion}
use Rattle.pair_spec.specs.Pairs.{Readings, IsTrueOfPair}
use Rattle.pair_spec.specs.PairEvidence.{behind}
use Rattle.pair_spec.specs.PairTerms.{SideTerm, SideCells, TellsPair}
use Rattle.pair_spec.specs.PairLayers.{IsPairSide, ValuesGivePair, BrokenIsNewInPair}
use Rattle.pair_spec.proofs.Asking.{entry_of, run_same}
use Rattle.pair_spec.proofs.PairSides as sides
use Rattle.pair_spec.proofs.PairReadings as both

-- one side
module _ (p : Program) (k : ℕ) (side : Bool) (links : List Link) (question : PairQuestion) (asked : ℕ → Bool) (u : UnrolledProgram)
    (t : SideTerm) (c : SideCells) (layered : IsPairSide p k side links question asked u t c) (form : Layout) (laid : IsLaidOut form u) (v : ℕ → Bool) (w : Written)
    (given : IsStartOf u c.cells v w) where
  abbrev pub of_start : Reading
  of_start = starts.start_reading (asking side links p) k u layered.unrolling layered.fitting c.cells layered.cells.formed form laid v w given

  pub enters : IsEntryStateOver p asked of_start.state → IsEntryState p of_start.state
  enters over =
      entry_of p (asking side links p).out p.out of_start.state
      (starts.entry_state (asking side links p) k u layered.unrolling layered.fitting c.cells layered.cells.formed form laid v w given
      (sides.lawful p k side links question asked u t c layered) asked layered.asks_known (sides.literals p k side links question asked u t c layered)
      (sides.over_to p k side links question asked u t c layered of_start.state over))

  pub follows : IsEntryStateOver p asked of_start.state → Follows p k of_start (start_in p form w)
  follows over =
      let f = starts.follows (asking side links p) k u layered.unrolling layered.fitting c.cells layered.cells.formed form laid v w given
      (sides.lawful p k side links question asked u t c layered) asked layered.asks_known (sides.literals p k side links question asked u t c layered)
      (sides.over_to p k side links question asked u t c layered of_start.state over) in
      record {
        state = f.state;
        choices = λ n turns d h. f.choices n turns d (run_same (by_file p) (asking side links p).out k (start_in p form w) n ∙ h);
      }

module _ (a b : Program) (k : ℕ) (links : List Link) (question : PairQuestion) (first_asked second_asked : ℕ → Bool) (u w : UnrolledProgram)
    (t x : SideTerm) (c d : SideCells) (alike : All ComparesAlike links) (one : IsPairSide a k false links question first_asked u t c)
    (two : IsPairSide b k true links question second_asked w x d) (cnf : Cnf) (tells : TellsPair u w links question c d cnf) (form other : Layout)
    (laid : IsLaidOut form u) (lies : IsLaidOut other w) (v : ℕ → Bool) (sat : Satisfies v cnf.clauses) (first second : Written)
    (given : IsStartOf u c.cells v first) (gives : IsStartOf w d.cells (behind (inputs u c.cells) v) second) where
  abbrev r : Readings
  r = record {
    first = of_start a k false links question first_asked u t c one form laid v first given;
    second = of_start b k true links question second_asked w x d two other lies (behind (inputs u c.cells) v) second gives;
  }

  over : both.IsTruePair a b k links question first_asked second_asked u w t x c d alike one two r
  over =
      both.from_made a b k links question first_asked second_asked u w t x c d alike one two r
      (starts.is (asking false links a) k u one.unrolling one.fitting c.cells one.cells.formed form laid v first given)
      (starts.is (asking true links b) k w two.unrolling two.fitting d.cells two.cells.formed other lies (behind (inputs u c.cells) v) second gives)
      refl refl
      (λ n m l e ask. starts.has (asking false links a) k u one.unrolling one.fitting c.cells one.cells.formed form laid v first given n m l e)
      (λ n m l e ask. starts.has (asking true links b) k w two.unrolling two.fitting d.cells two.cells.formed other lies (behind (inputs u c.cells) v) second
      gives n m l e)
      (both.made_same a b k links question first_asked second_asked u w t x c d alike one two _ _ _ _
      (starts.agree (asking false links a) k u one.unrolling one.fitting c.cells one.cells.formed form laid v first given)
      (starts.agree (asking true links b) k w two.unrolling two.fitting d.cells two.cells.formed other lies (behind (inputs u c.cells) v) second gives)
      (tells.extends.only v sat))

  true_of : IsTrueOfPair a b k links r question
  true_of = record {
    first_choice = over.first_choice;
    second_choice = over.second_choice;
    pair = record {
      first = enters a k false links question first_asked u t c one form laid v first given over.first_entry;
      second = enters b k true links question second_asked w x d two other lies (behind (inputs u c.cells) v) second gives over.second_entry;
      linked = over.linked;
    };
    ends = over.ends;
  }

  pub gives_pair : (r : Readings) × IsReadingOf u c.cells v first r.first × IsReadingOf w d.cells (behind (inputs u c.cells) v) second r.second
      × IsTrueOfPair a b k links r question × Follows a k r.first (start_in a form first) × Follows b k r.second (start_in b other second)
  gives_pair = (
    r,
    starts.is_of (asking false links a) k u one.unrolling one.fitting c.cells one.cells.formed form laid v first given,
    starts.is_of (asking true links b) k w two.unrolling two.fitting d.cells two.cells.formed other lies (behind (inputs u c.cells) v) second gives,
    true_of,
    follows a k false links question first_asked u t c one form laid v first given over.first_entry,
    follows b k true links question second_asked w x d two other lies (behind (inputs u c.cells) v) second gives over.second_entry,
  )

pub values_give_pair : ValuesGivePair
values_give_pair a b k links question first_asked second_asked u w t x c d alike one two cnf tells form other laid lies v sat first second given gives =
    gives_pair a b k links question first_asked second_asked u w t x c d alike one two cnf tells form other laid lies v sat first second given gives

pub broken_is_new_in_pair : BrokenIsNewInPair
broken_is_new_in_pair u w links question t x first_asked second_asked c d one two cnf tells v sat at =
    let made = tells.extends.only v sat in (
      (λ h. starts.broken_was_free u first_asked c.cells one.formed one.complete v made.first_allowed at h),
      (λ h. starts.broken_was_free w second_asked d.cells two.formed two.complete (behind (inputs u c.cells) v) made.second_allowed at h),
    )
