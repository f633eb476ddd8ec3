-- Steps from places that no machine can tell apart.
use Rattle.std.proofs.Common.{inl, ◌≡◌, ℕ, ◌^◌, ◌<◌, List, [], ◌∷◌, ◌++◌, length, map, Bool, true, false, Option, Some, None, refl, sym, ap, ◌∙◌, subst, arith}
use Rattle.std.specs.Prelude.{◌==◌, ◌&&◌, is_some, nat_eq, nat_lt, not, if◌then◌else◌}
use Rattle.std.specs.Option.{option_map}
use Rattle.std.specs.List.{list_all, list_any}
use Rattle.std.proofs.Math.Path.{fun_ext}
use Rattle.std.proofs.lemmas.Bool.Decides.{nat_tests}
use Rattle.word_spec.specs.Words.{add}
use Rattle.word_spec.specs.Memory.{Endian}
use Rattle.word_spec.specs.RowFiles.{from_to}
use Rattle.word_spec.specs.State.{State, IsState}
use Rattle.machine_spec.specs.Machine.{Row, Outcome, Goes, Raises, addresses}
use Rattle.machine_spec.specs.MachineLaws.{IsLawful, SameButMemory, with_memory}
use Rattle.machine_spec.proofs.LoadedBytes.{loaded_small}
use Rattle.bilv_spec.specs.Elf.{is_kept}
use Rattle.bilv_spec.specs.Notes.{value}
use Rattle.bilv_spec.specs.Points.{file_row}
use Rattle.bilv_spec.specs.PointLaws.{HasLawfulRows, ReadsMemory}
use Rattle.bilv_spec.specs.Questions.{by_file}
use Rattle.bilv_spec.specs.Run.{Program, Place, Step, Stops, Arrives, Exits, false_assert, false_line, step}
use Rattle.bilv_spec.proofs.FileWords.{ArrivesIn, Sound, every, row_same, step_in, step_same}
use Rattle.frame_spec.specs.Frames.{Content, Contract, Frame, Writes, contract_at, has_changed, is_outside, keeps_flag, keeps_register, stored_by_row, written}
use Rattle.frame_spec.specs.FrameRuns.{FrameStep, Halts, GoesTo, Reaches, Calls, Leaves, Breaks, contract_by, contract_step, frame_step, given_by, is_contract_call, lands, leaves_by, links_by, needs_by, returns_by, row_of_place, state_after, unless_outside, writes_by}
use Rattle.frame_spec.specs.FrameReports.{WrittenCall}
use Rattle.frame_texts_spec.specs.CallReplays.{is_block_of, may_write_by, none_there, wrong_by, given_wrong, WrongAt, BreaksLine}
use Rattle.model_spec.proofs.Alike.{asserts_same, lines_same, value_same}
use Rattle.model_spec.proofs.AlikeSteps.{Both, StepBoth, step_both}
use Rattle.trace_spec.specs.Seen.{left_by_assert, left_by_outcome, left_by_row, left_in, stored_of}
use Rattle.table_run.specs.FrameEnds.{HasKept}
use Rattle.table_run.specs.declared.ending.CalledStepEnd.{CalledStepEnd}
use Rattle.table_run.specs.declared.ending.CalledStepEnd.TheVariants as end
use Rattle.table_run.specs.CalledFrames.{IsAt, IsContractEnd, IsRowEnd, IsSeenAs, IsTurnEnd, called_frame, program_in, stand_after}
use Rattle.table_run.specs.declared.called_turns.Stand.TheVariants as stand
use Rattle.table_run.proofs.ContractSteps.{lands_back, no_head}

abbrev pub all : ℕ → Type 0
all a = Unit {0}

-- two steps of a frame come to the same, but for bytes that no machine sees
abbrev pub FrameBoth : (State → Type 0) → FrameStep → FrameStep → Type 0
FrameBoth P (Halts d) (Halts e) = d ≡ e
FrameBoth P (GoesTo c) (GoesTo d) = Both all c d × P c.state
FrameBoth P (Reaches c) (Reaches d) = Both all c d × P c.state
FrameBoth P (Calls c) (Calls d) = Both all c d × P c.state
FrameBoth P (Leaves s) (Leaves t) = Unit {0}
FrameBoth P (Breaks l) (Breaks m) = l ≡ m
FrameBoth P x y = ⊥

module _ (p : Program) (stepped : List Contract) (own : Option Contract) where
  abbrev f : Frame
  f = called_frame p stepped own

  abbrev q : Program
  q = program_in p own

  -- the places that both come to
  pub at_both : (c : Place) (now : State) (stack : List ℕ) → Both all c (record { state = now; stack = stack }) → Sound q every c.state → IsAt p c now stack
  at_both c now stack both sound = record {
    seen = record {
      rest = both.state ∙ ap (with_memory c.state) (sym (ap (λ (z : State). z.mem) both.state));
      mem = λ a low. both.agree a low tt ∙ sym (ap (λ (z : State). z.mem a) both.state);
    };
    stack_is = both.stack;
    is_state = sound.1;
    kept = λ a cell low is kept. sound.0 a cell low is kept refl;
  }

  -- ---- the step of a row

  row_end : (e : CalledStepEnd) (state : State) (stack : List ℕ) (n : ℕ) (x y : FrameStep) → FrameBoth (Sound q every) x y → IsRowEnd e state stack y →
      IsTurnEnd e p state stack n x None
  row_end (end.Halts e) state stack n (Halts d) y both is =
      (ap Halts (subst (FrameBoth (Sound q every) (Halts d)) is both), refl)
  row_end (end.Halts e) state stack n (GoesTo d) y both is = absurd (subst (FrameBoth (Sound q every) (GoesTo d)) is both)
  row_end (end.Halts e) state stack n (Reaches d) y both is = absurd (subst (FrameBoth (Sound q every) (Reaches d)) is both)
  row_end (end.Halts e) state stack n (Calls d) y both is = absurd (subst (FrameBoth (Sound q every) (Calls d)) is both)
  row_end (end.Halts e) state stack n (Leaves d) y both is = absurd (subst (FrameBoth (Sound q every) (Leaves d)) is both)
  row_end (end.Halts e) state stack n (Breaks d) y both is = absurd (subst (FrameBoth (Sound q every) (Breaks d)) is both)
  row_end end.GoesTo state stack n (GoesTo d) y both is =
      let b = subst (FrameBoth (Sound q every) (GoesTo d)) is both in (d, refl, at_both d state stack b.0 b.1, refl)
  row_end end.GoesTo state stack n (Halts d) y both is = absurd (subst (FrameBoth (Sound q every) (Halts d)) is both)
  row_end end.GoesTo state stack n (Reaches d) y both is = absurd (subst (FrameBoth (Sound q every) (Reaches d)) is both)
  row_end end.GoesTo state stack n (Calls d) y both is = absurd (subst (FrameBoth (Sound q every) (Calls d)) is both)
  row_end end.GoesTo state stack n (Leaves d) y both is = absurd (subst (FrameBoth (Sound q every) (Leaves d)) is both)
  row_end end.GoesTo state stack n (Breaks d) y both is = absurd (subst (FrameBoth (Sound q every) (Breaks d)) is both)
  row_end end.Calls state stack n (Calls d) y both is =
      let b = subst (FrameBoth (Sound q every) (Calls d)) is both in (d, refl, at_both d state stack b.0 b.1, refl)
  row_end end.Calls state stack n (Halts d) y both is = absurd (subst (FrameBoth (Sound q every) (Halts d)) is both)
  row_end end.Calls state stack n (Reaches d) y both is = absurd (subst (FrameBoth (Sound q every) (Reaches d)) is both)
  row_end end.Calls state stack n (GoesTo d) y both is = absurd (subst (FrameBoth (Sound q every) (GoesTo d)) is both)
  row_end end.Calls state stack n (Leaves d) y both is = absurd (subst (FrameBoth (Sound q every) (Leaves d)) is both)
  row_end end.Calls state stack n (Breaks d) y both is = absurd (subst (FrameBoth (Sound q every) (Breaks d)) is both)
  row_end end.Leaves state stack n (Leaves s) y both is = (s, refl, refl)
  row_end end.Leaves state stack n (Halts d) y both is = absurd (subst (FrameBoth (Sound q every) (Halts d)) is.1 both)
  row_end end.Leaves state stack n (Reaches d) y both is = absurd (subst (FrameBoth (Sound q every) (Reaches d)) is.1 both)
  row_end end.Leaves state stack n (GoesTo d) y both is = absurd (subst (FrameBoth (Sound q every) (GoesTo d)) is.1 both)
  row_end end.Leaves state stack n (Calls d) y both is = absurd (subst (FrameBoth (Sound q every) (Calls d)) is.1 both)
  row_end end.Leaves state stack n (Breaks d) y both is = absurd (subst (FrameBoth (Sound q every) (Breaks d)) is.1 both)
  row_end (end.Breaks line) state stack n x y both is = absurd is
  row_end end.NoCall state stack n x y both is = absurd is

  module _ (lawful : HasLawfulRows q) (memory : ReadsMemory q) (entry : State) (c : Place) (now : State) (stack : List ℕ) (at : IsAt p c now stack)
      (now_state : IsState now) where
    abbrev d : Place
    d = record { state = now; stack = stack }

    sound_c : Sound q every c.state
    sound_c = ((λ a cell l e k asks. at.kept a cell l e k), at.is_state)

    sound_d : Sound q every now
    sound_d = ((λ a cell l e k asks. sym (at.seen.mem a l) ∙ at.kept a cell l e k), now_state)

    other_state : IsState (with_memory c.state now.mem)
    other_state = subst IsState at.seen.rest now_state

    same_pc : c.state.pc ≡ now.pc
    same_pc = sym (ap (λ (z : State). z.pc) at.seen.rest)

    rows_same : row_of_place f c ≡ row_of_place f d
    rows_same = row_same q memory c.state sound_c.0 c.state.pc ∙ (ap (file_row q) same_pc ∙ sym (row_same q memory now sound_d.0 now.pc))

    stored_same : (o : Option Row) → file_row q c.state.pc ≡ o → stored_by_row o c.state ≡ stored_by_row o now
    stored_same None is = refl
    stored_same (Some row) is =
        let law : IsLawful row = lawful c.state.pc row is in
        let only = law.loads c.state now.mem 0 at.is_state other_state
        (λ a i. at.seen.mem a (loaded_small (row.loaded c.state) a (law.loads_at c.state at.is_state) i)) in
        ap addresses (only.1 ∙ ap row.stored (sym at.seen.rest))

    outside_same : is_outside own p.machine.endian entry (stored_by_row (row_of_place f c) c.state)
        ≡ is_outside own p.machine.endian entry (stored_by_row (row_of_place f d) now)
    outside_same =
        let by_rows = row_same q memory c.state sound_c.0 c.state.pc in
        ap (λ o. is_outside own p.machine.endian entry (stored_by_row o c.state)) by_rows
        ∙ ap (is_outside own p.machine.endian entry) (stored_same (file_row q c.state.pc) refl)
        ∙ ap (λ o. is_outside own p.machine.endian entry (stored_by_row o now)) (sym by_rows ∙ rows_same)

    came : (choice : ℕ) → StepBoth all (step q entry c choice) (step q entry d choice)
    came choice =
        let both = step_both all q entry entry.mem (λ a l h. refl) lawful c.state now.mem c.stack
        (λ a l h. at.seen.mem a l) at.is_state other_state choice choice
        (λ row e draws. refl) (λ a i. tt) in
        let first : StepBoth all (step (by_file q) entry c choice) (step (by_file q) entry (record { state = now; stack = c.stack }) choice) =
        subst (λ (z : State). StepBoth all (step (by_file q) entry c choice) (step (by_file q) entry (record { state = z; stack = c.stack }) choice))
        (sym at.seen.rest) both in
        let second : StepBoth all (step (by_file q) entry c choice) (step (by_file q) entry d choice) =
        subst (λ l. StepBoth all (step (by_file q) entry c choice) (step (by_file q) entry (record { state = now; stack = l }) choice)) at.stack_is first in
        subst (λ x. StepBoth all x (step q entry d choice)) (sym (step_same q memory c.state sound_c.0 entry c.stack choice))
        (subst (StepBoth all (step (by_file q) entry c choice)) (sym (step_same q memory now sound_d.0 entry stack choice)) second)

    comes_in : (choice : ℕ) → ArrivesIn (Sound q every) (step q entry c choice)
    comes_in choice =
        subst (ArrivesIn (Sound q every)) (sym (step_same q memory c.state sound_c.0 entry c.stack choice)) (step_in q every lawful entry c choice sound_c)

    lands_is : (from to : Place) → lands f from to ≡ (if is_contract_call f from to then Calls to else GoesTo to)
    lands_is from to = ap (λ b. if b then Reaches to else if is_contract_call f from to then Calls to else GoesTo to) (no_head p stepped own to.state.pc)

    lands_both : (z y : Place) → Both all z y → Sound q every z.state → FrameBoth (Sound q every) (lands f c z) (lands f d y)
    lands_both z y both sound =
        subst (λ x. FrameBoth (Sound q every) x (lands f d y)) (sym (lands_is c z))
        (subst (FrameBoth (Sound q every) (if is_contract_call f c z then Calls z else GoesTo z)) (sym (lands_is d y))
        (subst (λ b. FrameBoth (Sound q every) (if is_contract_call f c z then Calls z else GoesTo z) (if b then Calls y else GoesTo y)) calls
        (by (is_contract_call f c z))))
      where
        calls : is_contract_call f c z ≡ is_contract_call f d y
        calls =
            ap (λ a. is_some (contract_at stepped a) && nat_lt (length c.stack) (length z.stack) && links_by (row_of_place f c))
            (sym (ap (λ (s : State). s.pc) both.state))
            ∙ ap (λ l. is_some (contract_at stepped y.state.pc) && nat_lt (length l) (length z.stack) && links_by (row_of_place f c)) at.stack_is
            ∙ ap (λ l. is_some (contract_at stepped y.state.pc) && nat_lt (length stack) (length l) && links_by (row_of_place f c)) both.stack
            ∙ ap (λ o. is_some (contract_at stepped y.state.pc) && nat_lt (length stack) (length y.stack) && links_by o) rows_same

        by : (b : Bool) → FrameBoth (Sound q every) (if b then Calls z else GoesTo z) (if b then Calls y else GoesTo y)
        by true = (both, sound)
        by false = (both, sound)

    leaves_both : (o : Option Contract) (s t : State) → Both all (record { state = s; stack = [] }) (record { state = t; stack = [] }) →
        FrameBoth (Sound q every) (leaves_by o f entry s) (leaves_by o f entry t)
    leaves_both None s t both = tt
    leaves_both (Some x) s t both =
        subst (λ z. FrameBoth (Sound q every) (leaves_by (Some x) f entry s) (leaves_by (Some x) f entry z)) (sym both.state)
        (subst (λ o. FrameBoth (Sound q every) (leaves_by (Some x) f entry s) (given_by o (has_changed f x entry s) (with_memory s both.mem)))
        (lines_same all p.machine.endian s entry both.mem entry.mem both.agree (λ a l h. refl) x.gives (λ a i. tt))
        (by (false_line p.machine.endian x.gives s entry) (has_changed f x entry s)))
      where
        by : (o : Option ℕ) (b : Bool) → FrameBoth (Sound q every) (given_by o b s) (given_by o b (with_memory s both.mem))
        by (Some line) b = refl
        by None true = refl
        by None false = tt

    settles_both : (x y : Step) → StepBoth all x y → ArrivesIn (Sound q every) x → (b : Bool) →
        FrameBoth (Sound q every) (unless_outside b f entry c x) (unless_outside b f entry d y)
    settles_both (Stops e) (Stops g) both sound b =
        subst (λ z. FrameBoth (Sound q every) (unless_outside b f entry c (Stops e)) (unless_outside b f entry d (Stops z))) both (by b)
      where
        by : (b : Bool) → FrameBoth (Sound q every) (unless_outside b f entry c (Stops e)) (unless_outside b f entry d (Stops e))
        by true = refl
        by false = refl
    settles_both (Arrives z) (Arrives y) both sound true = refl
    settles_both (Arrives z) (Arrives y) both sound false = lands_both z y both sound
    settles_both (Exits s) (Exits t) both sound true = refl
    settles_both (Exits s) (Exits t) both sound false = leaves_both own s t both
    settles_both (Stops e) (Arrives y) both sound b = absurd both
    settles_both (Stops e) (Exits y) both sound b = absurd both
    settles_both (Arrives e) (Stops y) both sound b = absurd both
    settles_both (Arrives e) (Exits y) both sound b = absurd both
    settles_both (Exits e) (Stops y) both sound b = absurd both
    settles_both (Exits e) (Arrives y) both sound b = absurd both

    pub frame_both : (choice : ℕ) → FrameBoth (Sound q every) (frame_step f entry c choice) (frame_step f entry d choice)
    frame_both choice =
        subst (λ b. FrameBoth (Sound q every) (frame_step f entry c choice) (unless_outside b f entry d (step q entry d choice))) outside_same
        (settles_both (step q entry c choice) (step q entry d choice) (came choice) (comes_in choice)
        (is_outside own p.machine.endian entry (stored_by_row (row_of_place f c) c.state)))

    -- what the code's step comes to is what the run's does
    pub row_turned : (choice : ℕ) (e : CalledStepEnd) (state : State) (after : List ℕ) (n : ℕ) → IsRowEnd e state after (frame_step f entry d choice) →
        IsTurnEnd e p state after n (frame_step f entry c choice) None
    row_turned choice e state after n is = row_end e state after n (frame_step f entry c choice) (frame_step f entry d choice) (frame_both choice) is

    -- ---- what the row leaves

    stored_of_same : (o : Option Row) → file_row q c.state.pc ≡ o → stored_of o c.state ≡ stored_of o now
    stored_of_same None is = refl
    stored_of_same (Some row) is =
        let law : IsLawful row = lawful c.state.pc row is in
        let only = law.loads c.state now.mem 0 at.is_state other_state
        (λ a i. at.seen.mem a (loaded_small (row.loaded c.state) a (law.loads_at c.state at.is_state) i)) in
        only.1 ∙ ap row.stored (sym at.seen.rest)

    abbrev by_rows : row_of_place f c ≡ file_row q c.state.pc
    by_rows = row_same q memory c.state sound_c.0 c.state.pc

    pub stores_same : stored_of (row_of_place f c) c.state ≡ stored_of (row_of_place f d) now
    stores_same =
        ap (λ o. stored_of o c.state) by_rows ∙ stored_of_same (file_row q c.state.pc) refl ∙ ap (λ o. stored_of o now) (sym by_rows ∙ rows_same)

    pub places_same : stored_by_row (row_of_place f c) c.state ≡ stored_by_row (row_of_place f d) now
    places_same =
        ap (λ o. stored_by_row o c.state) by_rows ∙ stored_same (file_row q c.state.pc) refl ∙ ap (λ o. stored_by_row o now) (sym by_rows ∙ rows_same)

    asserts_are : false_assert q.machine.endian q.notes.asserts c.state entry ≡ false_assert q.machine.endian q.notes.asserts now entry
    asserts_are =
        asserts_same all q.machine.endian c.state entry now.mem entry.mem (λ a l h. at.seen.mem a l) (λ a l h. refl) q.notes.asserts (λ a i. tt)
        ∙ ap (λ (z : State). false_assert q.machine.endian q.notes.asserts z entry) (sym at.seen.rest)

    outcome_left : (places : List ℕ) (o r : Outcome) → SameButMemory c.state now.mem places o r → IsSeenAs (left_by_outcome c.state o) (left_by_outcome now r)
    outcome_left places (Raises x) (Raises y) same = at.seen
    outcome_left places (Goes how x) (Raises y) same = absurd same
    outcome_left places (Raises x) (Goes how y) same = absurd same
    outcome_left places (Goes how x) (Goes other y) same =
        let is : with_memory x y.mem ≡ y = λ i. record { pc = same.1 i; regs = same.2 i; flags = same.3 i; mem = y.mem } in record {
          rest = sym is;
          mem = λ a low. same.4 a low (inl (at.seen.mem a low));
        }

    row_left : (choice : ℕ) (o : Option Row) → file_row q c.state.pc ≡ o → IsSeenAs (left_by_row o c.state choice) (left_by_row o now choice)
    row_left choice None is = at.seen
    row_left choice (Some row) is =
        let law : IsLawful row = lawful c.state.pc row is in
        let only = law.loads c.state now.mem choice at.is_state other_state
        (λ a i. at.seen.mem a (loaded_small (row.loaded c.state) a (law.loads_at c.state at.is_state) i)) in
        subst (λ (z : State). IsSeenAs (left_by_outcome c.state (row.effect c.state choice)) (left_by_outcome now (row.effect z choice))) (sym at.seen.rest)
        (outcome_left (addresses (row.stored c.state)) (row.effect c.state choice) (row.effect (with_memory c.state now.mem) choice) only.2)

    assert_left : (x y : State) → IsSeenAs x y → (o : Option ℕ) → IsSeenAs (left_by_assert o c.state x) (left_by_assert o now y)
    assert_left x y both (Some line) = at.seen
    assert_left x y both None = both

    pub left_alike : (choice : ℕ) → IsSeenAs (left_in q entry c.state choice) (left_in q entry now choice)
    left_alike choice =
        let rows : IsSeenAs (left_by_row (row_of_place f c) c.state choice) (left_by_row (row_of_place f d) now choice) =
        subst (λ r. IsSeenAs (left_by_row (row_of_place f c) c.state choice) (left_by_row r now choice)) (sym by_rows ∙ rows_same)
        (subst (λ r. IsSeenAs (left_by_row r c.state choice) (left_by_row (file_row q c.state.pc) now choice)) (sym by_rows)
        (row_left choice (file_row q c.state.pc) refl)) in
        subst (λ o. IsSeenAs (left_in q entry c.state choice) (left_by_assert o now (left_by_row (row_of_place f d) now choice))) asserts_are
        (assert_left (left_by_row (row_of_place f c) c.state choice) (left_by_row (row_of_place f d) now choice) rows
        (false_assert q.machine.endian q.notes.asserts c.state entry))

  -- ---- a contract step

  module _ (entry s now : State) (seen : IsSeenAs s now) where
    abbrev E : Endian
    E = p.machine.endian

    pub written_same : (writes : List Writes) → written E writes s ≡ written E writes now
    written_same [] = refl
    written_same (w ∷ rest) =
        let here : value E w.says s s ≡ value E w.says now now =
        value_same all E w.says s s now.mem now.mem (λ a l h. seen.mem a l) (λ a l h. seen.mem a l) (λ a i. tt)
        ∙ ap (λ (z : State). value E w.says z z) (sym seen.rest) in
        ap (λ v. map (add 32 v) (from_to 0 w.count) ++ written E rest s) here
        ∙ ap (λ l. map (add 32 (value E w.says now now)) (from_to 0 w.count) ++ l) (written_same rest)

    module _ (x : Contract) (g : Content) where
      after_same : (to : ℕ) → state_after f x s to g ≡ state_after f x now to g
      after_same to i = record {
        pc = to;
        regs = regs_same i;
        flags = flags_same i;
        mem = mem_same i;
      }
        where
          regs_same : (state_after f x s to g).regs ≡ (state_after f x now to g).regs
          regs_same = fun_ext (λ r. ap (λ (z : State). if keeps_register f x r then z.regs r else g.regs r) (sym seen.rest))

          flags_same : (state_after f x s to g).flags ≡ (state_after f x now to g).flags
          flags_same = fun_ext (λ n. ap (λ (z : State). if keeps_flag f x n then z.flags n else g.flags n) (sym seen.rest))

          low : (a : ℕ) → nat_lt a 4294967296 ≡ true → a < 2 ^ 32
          low a is = grind (arith, nat_tests)

          byte_same : (a : ℕ) (b : Bool) → nat_lt a 4294967296 ≡ b →
              (if b && not (list_any (nat_eq a) (written E x.writes s)) then s.mem a else g.mem a)
              ≡ (if b && not (list_any (nat_eq a) (written E x.writes now)) then now.mem a else g.mem a)
          byte_same a true is =
              ap (λ l. if not (list_any (nat_eq a) l) then s.mem a else g.mem a) (written_same x.writes)
              ∙ ap (λ v. if not (list_any (nat_eq a) (written E x.writes now)) then v else g.mem a) (seen.mem a (low a is))
          byte_same a false is = refl

          mem_same : (state_after f x s to g).mem ≡ (state_after f x now to g).mem
          mem_same = fun_ext (λ a. byte_same a (nat_lt a 4294967296) refl)

      module _ (to : ℕ) (below : List ℕ) where
        abbrev c1 : Place
        c1 = record { state = s; stack = to ∷ below }

        abbrev c2 : Place
        c2 = record { state = now; stack = to ∷ below }

        abbrev d1 : Place
        d1 = record { state = state_after f x s to g; stack = below }

        abbrev d2 : Place
        d2 = record { state = state_after f x now to g; stack = below }

        places : d1 ≡ d2
        places = ap (λ (z : State). record { state = z; stack = below }) (after_same to)

        back : (o : Option ℕ) → returns_by o f c1 d2 ≡ returns_by o f c2 d2
        back (Some line) = refl
        back None = lands_back p stepped own s to below d2.state ∙ sym (lands_back p stepped own now to below d2.state)

        gives : false_line E x.gives d1.state s ≡ false_line E x.gives d2.state now
        gives =
            lines_same all E d1.state s d1.state.mem now.mem (λ a l h. refl) (λ a l h. seen.mem a l) x.gives (λ a i. tt)
            ∙ ap (λ (z : State). false_line E x.gives d1.state z) (sym seen.rest) ∙ ap (λ (z : State). false_line E x.gives z now) (after_same to)

        writes : (a b : Bool) → writes_by a b f x c1 d1 ≡ writes_by a b f x c2 d2
        writes true b = refl
        writes false true = refl
        writes false false =
            ap (λ o. returns_by o f c1 d1) gives ∙ ap (returns_by (false_line E x.gives d2.state now) f c1) places
            ∙ back (false_line E x.gives d2.state now)

        by_needs : (r : Option ℕ) → needs_by r f entry x c1 d1 ≡ needs_by r f entry x c2 d2
        by_needs (Some line) = refl
        by_needs None =
            writes (list_any (λ a. is_kept (p.loaded a)) (written E x.writes s)) (is_outside own E entry (written E x.writes s))
            ∙ ap (λ l. writes_by (list_any (λ a. is_kept (p.loaded a)) l) (is_outside own E entry l) f x c2 d2) (written_same x.writes)

        needs_same : (o r : Option ℕ) → o ≡ r → needs_by o f entry x c1 d1 ≡ needs_by r f entry x c2 d2
        needs_same o r same = ap (λ (z : Option ℕ). needs_by z f entry x c1 d1) same ∙ by_needs r

    contract_same : (o : Option Contract) (stack : List ℕ) (g : Content) → contract_by o f entry s stack g ≡ contract_by o f entry now stack g
    contract_same None stack g = refl
    contract_same (Some x) [] g = refl
    contract_same (Some x) (to ∷ below) g =
        needs_same x g to below (false_line E x.needs s s) (false_line E x.needs now now)
        (lines_same all E s s now.mem now.mem (λ a l h. seen.mem a l) (λ a l h. seen.mem a l) x.needs (λ a i. tt)
        ∙ ap (λ (z : State). false_line E x.needs z z) (sym seen.rest))

    block_same : (o : Option Contract) (w : WrittenCall) (stack other : List ℕ) (a b : ℕ) → a ≡ b →
        ((w.at == a) && list_all (λ (e : ℕ × ℕ). may_write_by o f (record { state = s; stack = stack }) e.0) w.bytes)
        ≡ ((w.at == b) && list_all (λ (e : ℕ × ℕ). may_write_by o f (record { state = now; stack = other }) e.0) w.bytes)
    block_same None w stack other a b same = ap (λ z. (w.at == z) && list_all (λ (e : ℕ × ℕ). false) w.bytes) same
    block_same (Some x) w stack other a b same =
        ap (λ z. (w.at == z) && list_all (λ (e : ℕ × ℕ). list_any (nat_eq e.0) (written E x.writes s)) w.bytes) same
        ∙ ap (λ l. (w.at == b) && list_all (λ (e : ℕ × ℕ). list_any (nat_eq e.0) l) w.bytes) (written_same x.writes)

  module _ (entry : State) (c : Place) (now : State) (stack : List ℕ) (at : IsAt p c now stack) (g : Content) where
    abbrev dd : Place
    dd = record { state = now; stack = stack }

    pc_same : c.state.pc ≡ now.pc
    pc_same = sym (ap (λ (z : State). z.pc) at.seen.rest)

    pub contract_steps_same : contract_step f entry c g ≡ contract_step f entry dd g
    contract_steps_same =
        ap (λ a. contract_by (contract_at stepped a) f entry c.state c.stack g) pc_same
        ∙ ap (λ l. contract_by (contract_at stepped now.pc) f entry c.state l g) at.stack_is
        ∙ contract_same entry c.state now at.seen (contract_at stepped now.pc) stack g

    blocks_same : (o : Option WrittenCall) → is_block_of f c o ≡ is_block_of f dd o
    blocks_same None = refl
    blocks_same (Some w) =
        ap (λ a. (w.at == c.state.pc) && list_all (λ (e : ℕ × ℕ). may_write_by (contract_at stepped a) f c e.0) w.bytes) pc_same
        ∙ block_same entry c.state now at.seen (contract_at stepped now.pc) w c.stack stack c.state.pc now.pc pc_same

    pub kept_now : HasKept p now
    kept_now a cell low is kept = sym (at.seen.mem a low) ∙ at.kept a cell low is kept

    contract_end : (e : CalledStepEnd) (state : State) (after : List ℕ) (n : ℕ) (x : FrameStep) (b : Bool) → IsContractEnd e p state after x b →
        IsTurnEnd e p state after n x (wrong_by x b n)
    contract_end (end.Halts e) state after n x b is = (is, ap (λ y. wrong_by y b n) is)
    contract_end end.GoesTo state after n x b is =
        (is.0, is.1, is.2, ap (λ y. wrong_by y b n) is.1 ∙ ap (λ z. given_wrong z n None) is.3)
    contract_end (end.Breaks line) state after n x b is =
        (is.0, ap (λ y. wrong_by y b n) is.0 ∙ ap (λ z. given_wrong z n (Some (BreaksLine line))) is.1)
    contract_end end.NoCall state after n x b is = ap (λ z. wrong_by x z n) is.1 ∙ is.0 n
    contract_end end.Calls state after n x b is = absurd is
    contract_end end.Leaves state after n x b is = absurd is

    pub contract_turned : (e : CalledStepEnd) (state : State) (after : List ℕ) (n : ℕ) (o : Option WrittenCall) →
        (HasKept p now → IsContractEnd e p state after (contract_step f entry dd g) (is_block_of f dd o)) →
        IsTurnEnd e p state after n (contract_step f entry c g) (wrong_by (contract_step f entry c g) (is_block_of f c o) n)
    contract_turned e state after n o is =
        contract_end e state after n (contract_step f entry c g) (is_block_of f c o)
        (subst (λ y. IsContractEnd e p state after y (is_block_of f c o)) (sym contract_steps_same)
        (subst (IsContractEnd e p state after (contract_step f entry dd g)) (sym (blocks_same o)) (is kept_now)))

    -- a contract step goes on at a row
    pub contract_stands : (e : CalledStepEnd) (state : State) (after : List ℕ) (x : FrameStep) (b : Bool) → IsContractEnd e p state after x b →
        stand_after e ≡ stand.Row
    contract_stands (end.Halts e) state after x b is = refl
    contract_stands end.GoesTo state after x b is = refl
    contract_stands (end.Breaks line) state after x b is = refl
    contract_stands end.NoCall state after x b is = refl
    contract_stands end.Calls state after x b is = absurd is
    contract_stands end.Leaves state after x b is = refl

-- a row's step is given none
pub none_given : {X : Type 0} (f : X → WrittenCall) (o : Option X) (n : ℕ) → false ≡ is_some o → none_there (option_map f o) n ≡ None
none_given f None n is = refl
none_given f (Some x) n is = absurd (let no_such : false ≡ true = is in cc)

pub some_given : {X : Type 0} (f : X → WrittenCall) (o : Option X) (n : ℕ) → true ≡ is_some o → none_there (option_map f o) n ≡ Some (WrongAt n)
some_given f None n is = absurd (let no_such : true ≡ false = is in cc)
some_given f (Some x) n is = refl
