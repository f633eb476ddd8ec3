-- Two functions exit within a greater bound on backward transfers as within a smaller one, as far as their runs do not exceed that.
use Rattle.std.proofs.Common.{◌≡◌, ◌∙◌, sym, inl, inr, ℕ, ◌<◌, ◌≤◌, List}
use Rattle.word_spec.specs.State.{State}
use Rattle.machine_spec.specs.Endings.{Start}
use Rattle.bilv_spec.specs.Run.{Program, Run, Going, Exited, Failed, Turned, run}
use Rattle.bilv_spec.specs.Questions.{Reading, read_run, ReadingTurns}
use Rattle.bilv_spec.specs.Verdict.{IsEntryState}
use Rattle.bilv_spec.specs.Points.{Point}
use Rattle.call_spec.specs.Calls.{PairQuestion, PairOfStates, DifferenceOfExits, TurnQuestion}
use Rattle.pair_spec.specs.Links.{Link}
use Rattle.pair_spec.specs.Pairs.{AreEqual, ArePairedStarts, ExitAlike, ExitApart, ExitsIn, IsTrueOfPair, PairEndsBy, ReadingExitsIn, Readings}
use Rattle.turn_laws.specs.Bounds.{HasTurned}
use Rattle.turn_laws.proofs.Alike.{go_alike, read_go_alike, turned}
use Rattle.pair_turns.specs.PairBounds.{ExitsRise, NoneExceeds, PairQuestionsFall, PairsRise}

-- a run that goes on has not turned
going : (r : Run) (turns n : ℕ) (c : _) → r ≡ Going turns n c → HasTurned r → ⊥
going (Going t i d) turns n c e h = h
going (Exited at i) turns n c e h = h
going (Failed v at i) turns n c e h = h
going (Turned at i) turns n c e h = absurd (cc)

module _ (k m : ℕ) (h : k ≤ m) where
  module _ (p : Program) where
    pub rise : (start : Start) (at n : ℕ) (s : State) → ExitsIn p k start at n s → ExitsIn p m start at n s
    rise start at n s e = record {
      turns = e.turns;
      place = e.place;
      before = elim (go_alike p k m h start n) [
        | inl t ↦ absurd (going (run p k start n) e.turns n e.place e.before t)
        | inr same ↦ same ∙ e.before
      ];
      at_is = e.at_is;
      leaves = e.leaves;
    }

    -- where no reading turns, a reading exits within the smaller bound
    pub fall : NoneExceeds p k → (r : Reading) → ((point : Point) → r.choice point < 4) → IsEntryState p r.state → (s : State) → ReadingExitsIn p m r s →
        ReadingExitsIn p k r s
    fall none r choice entry s e = record {
      number = e.number;
      turns = e.turns;
      place = e.place;
      before = elim (read_go_alike p k m h r e.number) [
        | inl t ↦ absurd
            (let q = turned (read_run p k r e.number) t in none (r, record { choice = choice; entry = entry; ends = (e.number, q.0, q.1, q.2) }))
        | inr same ↦ sym same ∙ e.before
      ];
      leaves = e.leaves;
    }

  module _ (a b : Program) (links : List Link) where
    alike : (x y : Start) → ExitAlike a b k links x y → ExitAlike a b m links x y
    alike x y e = record {
      first_at = e.first_at;
      first_step = e.first_step;
      first_state = e.first_state;
      second_at = e.second_at;
      second_step = e.second_step;
      second_state = e.second_state;
      first = rise a x e.first_at e.first_step e.first_state e.first;
      second = rise b y e.second_at e.second_step e.second_state e.second;
      alike = e.alike;
    }

    pub equal : AreEqual a b k links → AreEqual a b m links
    equal (some, all) = (some, λ x y are. alike x y (all x y are))

    pub apart : (x y : Start) (line i j : ℕ) → ExitApart a b k links x y line i j → ExitApart a b m links x y line i j
    apart x y line i j e = record {
      first_at = e.first_at;
      first_state = e.first_state;
      second_at = e.second_at;
      second_state = e.second_state;
      first = rise a x e.first_at i e.first_state e.first;
      second = rise b y e.second_at j e.second_state e.second;
      apart = e.apart;
    }

    module _ (one : NoneExceeds a k) (two : NoneExceeds b k) (r : Readings) where
      ends : (question : PairQuestion) → IsTrueOfPair a b m links r question → PairEndsBy a b m links r question → PairEndsBy a b k links r question
      ends PairOfStates t e = tt
      ends DifferenceOfExits t e = record {
        line = e.line;
        first_state = e.first_state;
        second_state = e.second_state;
        first = fall a one r.first t.first_choice t.pair.first e.first_state e.first;
        second = fall b two r.second t.second_choice t.pair.second e.second_state e.second;
        apart = e.apart;
      }

      pub falls : (question : PairQuestion) → IsTrueOfPair a b m links r question → IsTrueOfPair a b k links r question
      falls question t =
          record { first_choice = t.first_choice; second_choice = t.second_choice; pair = t.pair; ends = ends question t t.ends }

pub exits_rise : ExitsRise
exits_rise p k m h start at n s e = rise k m h p start at n s e

pub pairs_rise : PairsRise
pairs_rise a b k m h links = (equal k m h a b links, apart k m h a b links)

pub pair_questions_fall : PairQuestionsFall
pair_questions_fall a b k m h one two links question r t = falls k m h a b links one two r question t
