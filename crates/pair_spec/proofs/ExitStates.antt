-- A run that has exited did so in one state.
use Rattle.std.proofs.Common.{◌≡◌, ◌==◌, ℕ, zero, suc, ◌+◌, refl, ap, sym, ◌∙◌, subst, arith, Bool, true, false, nat_le, []}
use Rattle.word_spec.specs.State.{State}
use Rattle.bilv_spec.specs.Run.{Program, Place, Run, Going, Exited, Failed, Turned, Step, Stops, Arrives, Exits, run, one_more, after_step, arrive, turn, step}
use Rattle.machine_spec.specs.Endings.{Start}
use Rattle.bilv_spec.proofs.Over.{one_end}
use Rattle.bilv_spec.proofs.SameRuns.{same_run}
use Rattle.pair_spec.specs.Pairs.{ExitsIn}

-- the step that exits, and its number
pub record IsExit (m here : ℕ) (s : Step) (at n : ℕ) : Type 0 where
  pub number : m ≡ n
  pub address : here ≡ at
  pub state : State
  pub is : s ≡ Exits state

pub exits_by : (k turns m here : ℕ) (s : Step) (at n : ℕ) → after_step k turns m here s ≡ Exited at n → IsExit m here s at n
exits_by k turns m here (Stops e) at n h = absurd (let x : Failed e here m ≡ Exited at n = h in cc)
exits_by k turns m here (Exits t) at n h = let x : Exited here m ≡ Exited at n = h in record { number = cc; address = cc; state = t; is = refl }
exits_by k turns m here (Arrives d) at n h = by_address (nat_le d.state.pc here) h
  where
    by_bound : (b : Bool) → turn b turns m here d ≡ Exited at n → IsExit m here (Arrives d) at n
    by_bound true g = absurd (let x : Turned here m ≡ Exited at n = g in cc)
    by_bound false g = absurd (let x : Going (turns + 1) (m + 1) d ≡ Exited at n = g in cc)

    by_address : (b : Bool) → arrive b k turns m here d ≡ Exited at n → IsExit m here (Arrives d) at n
    by_address false g = absurd (let x : Going turns (m + 1) d ≡ Exited at n = g in cc)
    by_address true g = by_bound (turns == k) g

module _ (p : Program) (k : ℕ) (start : Start) where
  numbered : (n t i : ℕ) (c : Place) → run p k start n ≡ Going t i c → i ≡ n
  numbered n t i c h = (same_run p start k n n (omega arith) t i c h).0

  exit_on : (m at n : ℕ) (r : Run) → run p k start m ≡ r → (r ≡ Exited at n → (s : State) × ExitsIn p k start at n s) →
      one_more p k start r ≡ Exited at n → (s : State) × ExitsIn p k start at n s
  exit_on m at n (Going u j d) e before g =
      let x = exits_by k u j d.state.pc (step p start.state d (start.choices j)) at n g in
      let y = numbered m u j d e in
      let same : m ≡ n = sym y ∙ x.number in (
        x.state,
        record {
          turns = u;
          place = d;
          before = subst (λ i. run p k start i ≡ Going u n d) same (e ∙ ap (λ i. Going u i d) x.number);
          at_is = sym x.address;
          leaves = subst (λ i. step p start.state d (start.choices i) ≡ Exits x.state) x.number x.is;
        },
      )
  exit_on m at n (Exited a j) e before g = before g
  exit_on m at n (Failed f a j) e before g = absurd (let x : Failed f a j ≡ Exited at n = g in cc)
  exit_on m at n (Turned a j) e before g = absurd (let x : Turned a j ≡ Exited at n = g in cc)

  -- a run that has exited did so by the step that it names, in some state
  pub exited_in : (steps at n : ℕ) → run p k start steps ≡ Exited at n → (s : State) × ExitsIn p k start at n s
  unfolding run
  exited_in zero at n h = absurd (let x : Going 0 0 (record { state = start.state; stack = [] }) ≡ Exited at n = h in cc)
  exited_in (suc m) at n h = exit_on m at n (run p k start m) refl (λ e. exited_in m at n e) h

  -- and a run that exits in a state has then exited
  pub in_exited : (at n : ℕ) (s : State) → ExitsIn p k start at n s → run p k start (suc n) ≡ Exited at n
  unfolding run
  in_exited at n s e =
      ap (one_more p k start) e.before ∙ ap (after_step k e.turns n e.place.state.pc) e.leaves ∙ ap (λ a. Exited a n) (sym e.at_is)

  -- so there is one such state
  pub one_state : (at n b m : ℕ) (s t : State) → ExitsIn p k start at n s → ExitsIn p k start b m t → (n ≡ m) × (s ≡ t)
  one_state at n b m s t x y =
      let same : Exited at n ≡ Exited b m = one_end p k start (suc n) (suc m) (Exited at n) (Exited b m) tt tt (in_exited at n s x) (in_exited b m t y) in
      let numbers : n ≡ m = cc in
      let goings : Going x.turns n x.place ≡ Going y.turns m y.place = sym x.before ∙ ap (run p k start) numbers ∙ y.before in
      let places : x.place ≡ y.place = cc in
      let left : step p start.state x.place (start.choices n) ≡ step p start.state y.place (start.choices m) =
      ap (λ c. step p start.state c (start.choices n)) places ∙ ap (λ i. step p start.state y.place (start.choices i)) numbers in
      let exits : Exits s ≡ Exits t = sym x.leaves ∙ left ∙ y.leaves in
      (numbers, cc)
