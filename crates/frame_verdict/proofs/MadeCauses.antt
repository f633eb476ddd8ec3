-- Where what is shown are the contract steps of a run that have no event, and no others, no block is wrong in as many steps as the run ends in.
use Rattle.std.proofs.Common.{◌≡◌, ◌⊎◌, inl, inr, ℕ, zero, suc, ◌+◌, ◌-◌, ◌<◌, ◌≤◌, refl, ap, sym, ◌∙◌, subst, arith, Bool, true, false, List, [], ◌∷◌, Option, Some, None}
use Rattle.std.specs.Prelude.{◌≢◌, ◌==◌, ◌&&◌, if◌then◌else◌, nat_lt, All, Contains, length, slice_index_or}
use Rattle.std.specs.List.{list_all}
use Rattle.std.proofs.lemmas.Bool.{cases_lt}
use Rattle.std.proofs.lemmas.Bool.Decides.{nat_tests}
use Rattle.std.proofs.lemmas.List.Sums.{list_all-from_AllPass}
use Rattle.machine_spec.proofs.Spelling.{same_number}
use Rattle.bilv_spec.specs.Run.{Place}
use Rattle.frame_spec.specs.Frames.{Contract, Frame, contract_at, covers}
use Rattle.frame_spec.specs.FrameReports.{AreMade, HasNoEvent, IsMade, WrittenCall}
use Rattle.frame_spec.specs.FrameRuns.{FrameStep, Halts, GoesTo, Reaches, Calls, Leaves, Breaks, IsOver, Start, Run, Going, Arriving, Calling, Exited, Failed, Turned, Cut, Broken, after_step, contract_step, one_more, run}
use Rattle.frame_spec.proofs.OneEnd.{over_stays}
use Rattle.frame_spec.proofs.Prefix.{Numbered, numbered}
use Rattle.frame_texts_spec.specs.CallReplays.{WrongAt, block_after, block_at, first_wrong, given_wrong, is_block_of, may_write, may_write_by, none_there, wrong_at, wrong_by}
use Rattle.frame_texts_spec.specs.FrameTexts.{first_of}

-- ---- blocks by their steps

is_some_block : {w : WrittenCall} (o : Option WrittenCall) → o ≡ Some w → o ≢ None
is_some_block o e n = cc

-- the block of a step is one of those that are shown
block_is : (P : WrittenCall → Type 0) (calls : List WrittenCall) (n : ℕ) (w : WrittenCall) → All P calls → block_at calls n ≡ Some w → P w × (w.step ≡ n)
block_is P [] n w all is = absurd (is_some_block None is refl)
block_is P (c ∷ rest) n w all is = by_test (c.step == n) refl is (λ e. block_is P rest n w (λ i d l. all (suc i) d (omega (arith, l))) e)
  where
    by_test : (b : Bool) → (c.step == n) ≡ b → (if b then Some c else block_at rest n) ≡ Some w →
        (block_at rest n ≡ Some w → P w × (w.step ≡ n)) → P w × (w.step ≡ n)
    by_test true t is later =
        let e : c ≡ w = cc in
        let at : c.step ≡ n = grind (arith, nat_tests, t) in
        (subst P e (all 0 c (omega arith)), ap (λ (x : WrittenCall). x.step) (sym e) ∙ at)
    by_test false t is later = later is

-- and where one is shown there is such a block
has_block : (calls : List WrittenCall) (n : ℕ) (call : WrittenCall) → Contains calls call → call.step ≡ n → (w : WrittenCall) × (block_at calls n ≡ Some w)
has_block [] n call (i, l, e) at = absurd (omega (arith, l))
has_block (c ∷ rest) n call (i, l, e) at = by_test (c.step == n) refl i l e (λ j h. has_block rest n call (j, h.0, h.1) at)
  where
    Has : Bool → Type 0
    Has b = (w : WrittenCall) × ((if b then Some c else block_at rest n) ≡ Some w)

    by_test : (b : Bool) → (c.step == n) ≡ b → (i : ℕ) → i < length (c ∷ rest) → slice_index_or (c ∷ rest) i call ≡ call →
        ((j : ℕ) → (j < length rest) × (slice_index_or rest j call ≡ call) → Has false) → Has b
    by_test true t i l e later = (c, refl)
    by_test false t zero l e later =
        let same : c.step ≡ n = ap (λ (x : WrittenCall). x.step) e ∙ at in
        absurd (grind (arith, nat_tests, t, same))
    by_test false t (suc i) l e later = later i (omega (arith, l), e)

-- there is no block after a step where none is shown
none_after : (calls : List WrittenCall) (n : ℕ) → All (λ c. c.step ≤ n) calls → block_after calls n ≡ None
none_after [] n few = refl
none_after (c ∷ rest) n few = by_test (nat_lt n c.step) refl (none_after rest n (λ i d l. few (suc i) d (omega (arith, l))))
  where
    by_test : (b : Bool) → nat_lt n c.step ≡ b → block_after rest n ≡ None → (if b then Some (WrongAt c.step) else block_after rest n) ≡ None
    by_test true t later = let h = few 0 c (omega arith) in absurd (grind (arith, nat_tests, t, h))
    by_test false t later = later

none_first : (f : Frame) (m : ℕ) (start : Start) (calls : List WrittenCall) (count : ℕ) →
    ((i : ℕ) → i < count → wrong_at f start calls i (run f m start i) ≡ None) → first_wrong f m start calls count ≡ None
none_first f m start calls zero each = refl
none_first f m start calls (suc n) each =
    ap (λ x. first_of x (wrong_at f start calls n (run f m start n))) (none_first f m start calls n (λ i l. each i (omega (arith, l))))
    ∙ each n (omega arith)

-- ---- the run

-- the run does not end since what a contract step is given is no run
abbrev pub IsUnbroken : Run → Type 0
IsUnbroken (Broken l at n) = ⊥
IsUnbroken other = Unit {0}

abbrev place_in : Run → Place → Place
place_in (Calling t m c) other = c
place_in x other = other

module _ (f : Frame) (k : ℕ) (start : Start) (calls : List WrittenCall) (made : AreMade f k start calls) (r : Run) (n : ℕ) (over : IsOver r)
    (unbroken : IsUnbroken r) (is : run f k start (n + 1) ≡ r) where
  -- a block's step is that before which the run stands at it
  comes : (call : WrittenCall) (m : IsMade f k start call) → run f k start call.step ≡ Calling m.turns call.step m.place
  comes call m =
      let at : call.step ≡ m.steps = subst (Numbered m.steps) m.comes (numbered f k start m.steps) in
      ap (run f k start) at ∙ m.comes

  early : (call : WrittenCall) → IsMade f k start call → call.step ≤ n
  early call m = by (cases_lt call.step (n + 1))
    where
      by : (call.step < n + 1) ⊎ (n + 1 ≤ call.step) → call.step ≤ n
      by (inl low) = omega (arith, low)
      by (inr high) =
          let place : (call.step - (n + 1)) + (n + 1) ≡ call.step = omega (arith, high) in
          let stays = over_stays f k start (n + 1) (call.step - (n + 1)) r over is in
          absurd (subst IsOver (sym stays ∙ ap (run f k start) place ∙ comes call m) over)

  few : All (λ c. c.step ≤ n) calls
  few i d l = early (slice_index_or calls i d) (made.each i d l)

  -- where the run makes no contract step no block stands
  no_block : (i : ℕ) → ((t m : ℕ) (c : Place) → ¬ (run f k start i ≡ Calling t m c)) → none_there (block_at calls i) i ≡ None
  no_block i never = by_block (block_at calls i) refl
    where
      by_block : (o : Option WrittenCall) → block_at calls i ≡ o → none_there o i ≡ None
      by_block None e = refl
      by_block (Some w) e =
          let found = block_is (IsMade f k start) calls i w made.each e in
          absurd (never found.0.turns w.step found.0.place (ap (run f k start) (sym found.1) ∙ comes w found.0))

  writes : (c : Place) (x : Contract) → contract_at f.stepped c.state.pc ≡ Some x → (bytes : List (ℕ × ℕ)) →
      All (λ b. covers f.program.machine.endian x.writes c.state b.0 ≡ true) bytes → list_all (λ b. may_write f c b.0) bytes ≡ true
  writes c x at bytes all =
      list_all-from_AllPass (λ b. may_write f c b.0) bytes (λ i d l. ap (λ o. may_write_by o f c (slice_index_or bytes i d).0) at ∙ all i d l)

  -- the block of a contract step without an event is its own
  own : (i t : ℕ) (c : Place) → run f k start i ≡ Calling t i c → HasNoEvent f start i c → is_block_of f c (block_at calls i) ≡ true
  own i t c at quiet =
      let shown = made.whole i t i c at quiet in
      let there = has_block calls i shown.0 shown.1 shown.2 in
      let found = block_is (IsMade f k start) calls i there.0 made.each there.1 in
      let m = found.0 in
      let same : m.place ≡ c =
      ap (λ x. place_in x c) (sym (comes there.0 m) ∙ ap (run f k start) found.1 ∙ at) in
      let place : there.0.at ≡ c.state.pc = m.is.at ∙ ap (λ (p : Place). p.state.pc) same in
      let contract = subst (λ (p : Place). contract_at f.stepped p.state.pc ≡ Some m.contract) same m.stepped in
      let bytes = subst (λ (p : Place). All (λ (b : ℕ × ℕ). covers f.program.machine.endian m.contract.writes p.state b.0 ≡ true) there.0.bytes) same m.is.bytes in
      ap (is_block_of f c) there.1
      ∙ ap (λ a. (a == c.state.pc) && list_all (λ b. may_write f c b.0) there.0.bytes) place
      ∙ ap (λ b. b && list_all (λ b. may_write f c b.0) there.0.bytes) (same_number c.state.pc)
      ∙ writes c m.contract contract there.0.bytes bytes

  goes_on : (i : ℕ) → i < n + 1 → (t : ℕ) (c : Place) → run f k start i ≡ Calling t i c → (l : ℕ) →
      ¬ (contract_step f start.state c (start.given i) ≡ Breaks l)
  unfolding run
  goes_on i low t c at l breaks =
      let next : run f k start (suc i) ≡ Broken l c.state.pc i = ap (one_more f k start) at ∙ ap (after_step k t i c.state.pc) breaks in
      let place : (n - i) + suc i ≡ n + 1 = omega (arith, low) in
      let stays = over_stays f k start (suc i) (n - i) (Broken l c.state.pc i) tt next in
      absurd (subst IsUnbroken (sym is ∙ ap (run f k start) (sym place) ∙ stays) unbroken)

  -- no block is wrong at a step
  right_at : (i : ℕ) → i < n + 1 → wrong_at f start calls i (run f k start i) ≡ None
  right_at i low = by_run (run f k start i) refl (numbered f k start i)
    where
      by_step : (t : ℕ) (c : Place) → run f k start i ≡ Calling t i c → (s : FrameStep) → contract_step f start.state c (start.given i) ≡ s →
          wrong_by s (is_block_of f c (block_at calls i)) i ≡ None
      by_step t c at (Halts e) is = refl
      by_step t c at (Breaks l) is = absurd (goes_on i low t c at l is)
      by_step t c at (GoesTo d) is = ap (λ b. given_wrong b i None) (own i t c at (λ e h. let z : Halts e ≡ GoesTo d = sym h ∙ is in cc))
      by_step t c at (Reaches d) is = ap (λ b. given_wrong b i None) (own i t c at (λ e h. let z : Halts e ≡ Reaches d = sym h ∙ is in cc))
      by_step t c at (Calls d) is = ap (λ b. given_wrong b i None) (own i t c at (λ e h. let z : Halts e ≡ Calls d = sym h ∙ is in cc))
      by_step t c at (Leaves s) is = ap (λ b. given_wrong b i None) (own i t c at (λ e h. let z : Halts e ≡ Leaves s = sym h ∙ is in cc))

      by_run : (x : Run) → run f k start i ≡ x → Numbered i x → wrong_at f start calls i x ≡ None
      by_run (Going t m c) at number = no_block i (λ u v d e. let z : Going t m c ≡ Calling u v d = sym at ∙ e in cc)
      by_run (Arriving t m c) at number = no_block i (λ u v d e. let z : Arriving t m c ≡ Calling u v d = sym at ∙ e in cc)
      by_run (Calling t m c) at number =
          by_step t c (subst (λ z. run f k start i ≡ Calling t z c) number at) (contract_step f start.state c (start.given i)) refl
      by_run (Exited a m) at number = no_block i (λ u v d e. let z : Exited a m ≡ Calling u v d = sym at ∙ e in cc)
      by_run (Failed x a m) at number = no_block i (λ u v d e. let z : Failed x a m ≡ Calling u v d = sym at ∙ e in cc)
      by_run (Turned a m) at number = no_block i (λ u v d e. let z : Turned a m ≡ Calling u v d = sym at ∙ e in cc)
      by_run (Cut a m) at number = no_block i (λ u v d e. let z : Cut a m ≡ Calling u v d = sym at ∙ e in cc)
      by_run (Broken l a m) at number = no_block i (λ u v d e. let z : Broken l a m ≡ Calling u v d = sym at ∙ e in cc)

  -- none in those steps and none after them
  pub none_wrong : first_of (first_wrong f k start calls (n + 1)) (block_after calls n) ≡ None
  none_wrong = ap (λ x. first_of x (block_after calls n)) (none_first f k start calls (n + 1) right_at) ∙ none_after calls n few
