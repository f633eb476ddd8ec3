-- What is asked for at the exit changes no run, no entry state and no point.
use Rattle.std.proofs.Common.{◌≡◌, ℕ, zero, suc, refl, ap, ◌∙◌, Bool, true, false, List, [], ◌∷◌, ◌++◌, Option, Some, None}
use Rattle.std.specs.Prelude.{◌==◌, nat_eq}
use Rattle.std.specs.List.{list_any}
use Rattle.word_spec.specs.Words.{sub}
use Rattle.word_spec.specs.State.{State}
use Rattle.machine_spec.specs.Machine.{Row, How, On, Direct, DirectCall, Indirect, IndirectCall, Outcome, Goes, Raises, pair_of, is_place}
use Rattle.machine_spec.specs.Endings.{Start}
use Rattle.bilv_spec.specs.Run.{Program, Place, Run, Going, Exited, Failed, Turned, false_assert, fetchable, row_at, some_of, targets_at, literal_target, named, is_named, allowed, exit_or, return_or, leave, called, transfer, aligned_transfer, going_on, after_row, writes_kept, by_row, by_fetch, after_asserts, step, after_step, one_more, run}
use Rattle.bilv_spec.specs.Verdict.{IsEntryState}
use Rattle.bilv_spec.specs.Points.{Point, IsPoint, first, next}
use Rattle.bilv_spec.specs.Questions.{Reading, by_file, point_of, read_on, read_run}
use Rattle.pair_spec.specs.PairLaws.{AskingIsFree}

module _ (p : Program) (out : ℕ → Bool) where
  abbrev asked : Program
  asked = record p { out = out }

  literal_same : (word : ℕ → ℕ) (o : Option ℕ) → literal_target asked word o ≡ literal_target p word o
  literal_same word None = refl
  literal_same word (Some a) = refl

  named_same : (word : ℕ → ℕ) (row : Row) (at : ℕ) → named asked word row at ≡ named p word row at
  named_same word row at =
      ap (λ z. targets_at p.notes.targets at ++ some_of (pair_of (row_at p word (sub 32 at 4)) (Some row) at) ++ z) (literal_same word (row.literal at))

  is_named_same : (old : State) (row : Row) (to : ℕ) → is_named asked old row to ≡ is_named p old row to
  is_named_same old row to = ap (list_any (nat_eq to)) (named_same (p.word old) row old.pc)

  exit_same : (b : Bool) (entry new : State) (n : Bool) → exit_or b asked entry new n ≡ exit_or b p entry new n
  exit_same true entry new n = refl
  exit_same false entry new n = refl

  leave_same : (entry : State) (row : Row) (old : State) (stack : List ℕ) (new : State) → leave asked entry row old stack new ≡ leave p entry row old stack new
  leave_same entry row old [] new =
      ap (exit_or (new.pc == entry.regs p.machine.link) asked entry new) (is_named_same old row new.pc)
      ∙ exit_same (new.pc == entry.regs p.machine.link) entry new (is_named p old row new.pc)
  leave_same entry row old (top ∷ below) new = ap (return_or (new.pc == top) top below new) (is_named_same old row new.pc)

  transfer_same : (entry : State) (row : Row) (old : State) (stack : List ℕ) (how : How) (new : State) →
      transfer asked entry row old stack how new ≡ transfer p entry row old stack how new
  transfer_same entry row old stack On new = refl
  transfer_same entry row old stack Direct new = refl
  transfer_same entry row old stack DirectCall new = refl
  transfer_same entry row old stack Indirect new = leave_same entry row old stack new
  transfer_same entry row old stack IndirectCall new = ap (λ b. allowed b (called row old stack new)) (is_named_same old row new.pc)

  aligned_same : (b : Bool) (entry : State) (row : Row) (old : State) (stack : List ℕ) (how : How) (new : State) →
      aligned_transfer b asked entry row old stack how new ≡ aligned_transfer b p entry row old stack how new
  aligned_same true entry row old stack how new = transfer_same entry row old stack how new
  aligned_same false entry row old stack how new = refl

  going_same : (b : Bool) (entry : State) (row : Row) (old : State) (stack : List ℕ) (how : How) (new : State) →
      going_on b asked entry row old stack how new ≡ going_on b p entry row old stack how new
  going_same true entry row old stack how new = refl
  going_same false entry row old stack how new = aligned_same (is_place p.machine.narrow new.pc) entry row old stack how new

  after_same : (entry : State) (row : Row) (old : State) (stack : List ℕ) (b : Bool) (o : Outcome) →
      after_row asked entry row old stack b o ≡ after_row p entry row old stack b o
  after_same entry row old stack b (Raises e) = refl
  after_same entry row old stack b (Goes how new) = going_same b entry row old stack how new

  row_same : (entry : State) (c : Place) (choice : ℕ) (o : Option Row) → by_row asked entry c choice o ≡ by_row p entry c choice o
  row_same entry c choice None = refl
  row_same entry c choice (Some row) = after_same entry row c.state c.stack (writes_kept p row c.state) (row.effect c.state choice)

  fetch_same : (b : Bool) (entry : State) (c : Place) (choice : ℕ) → by_fetch b asked entry c choice ≡ by_fetch b p entry c choice
  fetch_same true entry c choice = row_same entry c choice (p.machine.row (p.word c.state c.state.pc))
  fetch_same false entry c choice = refl

  asserts_same : (o : Option ℕ) (entry : State) (c : Place) (choice : ℕ) → after_asserts o asked entry c choice ≡ after_asserts o p entry c choice
  asserts_same (Some line) entry c choice = refl
  asserts_same None entry c choice = fetch_same (fetchable p (p.word c.state c.state.pc) c.state.pc) entry c choice

  pub step_same : (entry : State) (c : Place) (choice : ℕ) → step asked entry c choice ≡ step p entry c choice
  step_same entry c choice = asserts_same (false_assert p.machine.endian p.notes.asserts c.state entry) entry c choice

module _ (p : Program) (out : ℕ → Bool) (k : ℕ) where
  abbrev other : Program
  other = record p { out = out }

  more_same : (start : Start) (r : Run) → one_more other k start r ≡ one_more p k start r
  more_same start (Going turns n c) = ap (after_step k turns n c.state.pc) (step_same p out start.state c (start.choices n))
  more_same start (Exited at n) = refl
  more_same start (Failed e at n) = refl
  more_same start (Turned at n) = refl

  pub run_same : (start : Start) (n : ℕ) → run other k start n ≡ run p k start n
  unfolding run
  run_same start zero = refl
  run_same start (suc n) = more_same start (run other k start n) ∙ ap (one_more p k start) (run_same start n)

  on_same : (r : Reading) (x : Run) → read_on other k r x ≡ read_on p k r x
  on_same r (Going turns n c) = ap (after_step k turns n c.state.pc) (step_same (by_file p) out r.state c (r.choice (point_of turns c)))
  on_same r (Exited at n) = refl
  on_same r (Failed e at n) = refl
  on_same r (Turned at n) = refl

  pub read_same : (r : Reading) (n : ℕ) → read_run other k r n ≡ read_run p k r n
  unfolding read_run
  read_same r zero = refl
  read_same r (suc n) = on_same r (read_run other k r n) ∙ ap (read_on p k r) (read_same r n)

-- what is asked may be changed in each direction
pub entry_of : (p : Program) (some others : ℕ → Bool) (s : State) → IsEntryState (record p { out = some }) s → IsEntryState (record p { out = others }) s
entry_of p some others s e = record {
  state = e.state;
  pc = e.pc;
  link = e.link;
  kept_bytes = e.kept_bytes;
  fixed_bytes = e.fixed_bytes;
  requires = e.requires;
}

pub points_of : (p : Program) (some others : ℕ → Bool) (k : ℕ) (point : Point) → IsPoint (record p { out = some }) k point →
    IsPoint (record p { out = others }) k point
points_of p some others k _ first = first
points_of p some others k _ (next q edge few) = next (points_of p some others k _ q) edge few

pub asking_is_free : AskingIsFree
asking_is_free p out k = (
  run_same p out k,
  read_same p out k,
  (λ s. ((λ e. entry_of p out p.out s e), (λ e. entry_of p p.out out s e))),
  (λ q. ((λ e. points_of p out p.out k q e), (λ e. points_of p p.out out k q e))),
)
