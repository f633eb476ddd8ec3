-- Steps of the code that are handed some bytes of what contract steps are given, as steps of the run that is given all.
use Rattle.std.proofs.Common.{◌≡◌, ◌⊎◌, inl, inr, ℕ, suc, ◌+◌, ◌-◌, ◌<◌, List, [], ◌++◌, Bool, true, Option, Some, None, refl, sym, ap, ◌∙◌, subst, arith, Bor}
use Rattle.std.specs.Prelude.{◌≢◌, ◌==◌, ◌&&◌, All, filter, nat_eq, nat_le, option_copied, option_to_list, reverse}
use Rattle.std.specs.List.{list_all, list_any}
use Rattle.std.specs.Option.{option_map}
use Rattle.std.proofs.lemmas.List.Sums.{list_all-from_AllPass}
use Rattle.word_spec.specs.Memory.{byte_in}
use Rattle.word_spec.specs.State.{State, IsState}
use Rattle.machine_spec.specs.MachineLaws.{with_memory}
use Rattle.machine_spec.specs.StateText.{Layout}
use Rattle.machine_spec.proofs.Spelling.{same_number}
use Rattle.bilv_spec.specs.PointLaws.{HasLawfulRows, ReadsMemory}
use Rattle.bilv_spec.specs.Run as tables
use Rattle.bilv_spec.specs.Run.{Program, Place}
use Rattle.frame_spec.specs.Frames.{Contract, Frame, FrameEvent, contract_at, written}
use Rattle.frame_spec.specs.FrameRuns.{Start, Run, Going, Calling, Exited, Failed, Turned, Broken, FrameStep, Halts, GoesTo, Reaches, Calls, Leaves, Breaks, IsOver, after_step, arrive, contract_step, one_more, run}
use Rattle.frame_spec.specs.FrameReports.{WrittenCall, gifts}
use Rattle.frame_texts_spec.specs.CallReplays.{BlockCause, BreaksLine, WrongAt, block_at, given_wrong, is_block_of, may_write, may_write_by, wrong_by}
use Rattle.state_text.specs.Starts.{written_call_of}
use Rattle.state_text.specs.declared.start.CallState.{CallState}
use Rattle.table_run.specs.FrameEnds.{HasKept}
use Rattle.table_run.specs.declared.called_turns.Stand.{Stand}
use Rattle.table_run.specs.declared.called_turns.Stand.TheVariants as stand
use Rattle.table_run.specs.declared.ending.CalledStepEnd.{CalledStepEnd}
use Rattle.table_run.specs.declared.ending.CalledStepEnd.TheVariants as end
use Rattle.table_run.specs.CalledFrames.{IsAt, IsBlock, IsTurnEnd, called_event_of, called_frame, next_of, program_in, standing, turned, turned_wrong}
use Rattle.table_run.specs.CalledRuns.{called_start}
use Rattle.table_run.specs.MadeCalls.{AreListed, covered, handed, kept_of, shown_at, shown_by, shown_in}
use Rattle.table_run.proofs.CalledRuns.{arrives_going, arrives_turned, begins_running}
use Rattle.table_run.proofs.SeenSteps.{written_same}
use Rattle.table_run.proofs.ShownLists.{AreInOrder, all_passed}
use Rattle.table_run.proofs.ShownRuns.{gift_of, given_at, handed_both, shown_rest}
use Rattle.table_run.proofs.ShownSteps.{AreBack, AreEnded, AreTwins}

-- ---- what the code hands over

module _ (p : Program) (stepped : List Contract) (own : Option Contract) (c : Place) (now : State) (stack : List ℕ) (at : IsAt p c now stack) where
  abbrev f : Frame
  f = called_frame p stepped own

  abbrev here : Place
  here = record { state = now; stack = [] }

  writes_same : (o : Option Contract) → may_write_by o f c ≡ may_write_by o f here
  writes_same None = refl
  writes_same (Some x) = ap (λ l a. list_any (nat_eq a) l) (written_same p stepped own c.state c.state now at.seen x.writes)

  covered_same : (w : WrittenCall) → covered f c w ≡ covered f here w
  covered_same w =
      ap (λ a. record w { bytes = filter (λ (b : ℕ × ℕ). may_write_by (contract_at stepped a) f c b.0) w.bytes })
      (sym (ap (λ (z : State). z.pc) at.seen.rest))
      ∙ ap (λ (t : ℕ → Bool). record w { bytes = filter (λ (b : ℕ × ℕ). t b.0) w.bytes }) (writes_same (contract_at stepped now.pc))

  pub handed_same : (s : Stand) (o : Option WrittenCall) → handed s f c o ≡ handed s f here o
  handed_same stand.Row o = refl
  handed_same stand.Contract None = refl
  handed_same stand.Contract (Some w) = ap (λ (z : WrittenCall). Some z) (covered_same w)

-- a block with those bytes alone that the contract there may write
pub covered_is : (p : Program) (stepped : List Contract) (own : Option Contract) (now : State) (x : Contract) (w : WrittenCall) (places : List ℕ) →
    contract_at stepped now.pc ≡ Some x → places ≡ written p.machine.endian x.writes now →
    record w { bytes = filter (λ (b : ℕ × ℕ). list_any (nat_eq b.0) places) w.bytes }
    ≡ covered (called_frame p stepped own) (record { state = now; stack = [] }) w
covered_is p stepped own now x w places found is =
    let here : Place = record { state = now; stack = [] } in
    ap (λ l. record w { bytes = filter (λ (b : ℕ × ℕ). list_any (nat_eq b.0) l) w.bytes }) is
    ∙ ap (λ (o : Option Contract). record w { bytes = filter (λ (b : ℕ × ℕ). may_write_by o (called_frame p stepped own) here b.0) w.bytes }) (sym found)

-- ---- what a step comes to

abbrev pub IsFirst : CalledStepEnd → Program → State → List ℕ → FrameStep → Type 0
IsFirst (end.Halts e) p state stack x = x ≡ Halts (called_event_of e)
IsFirst end.GoesTo p state stack x = (d : Place) × (x ≡ GoesTo d) × IsAt p d state stack
IsFirst end.Calls p state stack x = (d : Place) × (x ≡ Calls d) × IsAt p d state stack
IsFirst end.Leaves p state stack x = (s : State) × (x ≡ Leaves s)
IsFirst (end.Breaks line) p state stack x = x ≡ Breaks line
IsFirst end.NoCall p state stack x = ⊥

no_wrong : (y : CalledStepEnd) (p : Program) (state : State) (stack : List ℕ) (n : ℕ) (x : FrameStep) (wrong : Option BlockCause) →
    wrong ≢ Some (WrongAt n) → IsTurnEnd y p state stack n x wrong → IsFirst y p state stack x
no_wrong (end.Halts e) p state stack n x wrong right is = is.0
no_wrong end.GoesTo p state stack n x wrong right is = (is.0, is.1, is.2)
no_wrong end.Calls p state stack n x wrong right is = (is.0, is.1, is.2)
no_wrong end.Leaves p state stack n x wrong right is = (is.0, is.1)
no_wrong (end.Breaks line) p state stack n x wrong right is = is.0
no_wrong end.NoCall p state stack n x wrong right is = right is

pub somewhere : (y : CalledStepEnd) (s : Stand) (p : Program) (state : State) (stack : List ℕ) (n : ℕ) (x : FrameStep) (wrong : Option BlockCause) →
    next_of y ≡ Some s → IsTurnEnd y p state stack n x wrong → (d : Place) × IsAt p d state stack
somewhere end.GoesTo s p state stack n x wrong on is = (is.0, is.2)
somewhere end.Calls s p state stack n x wrong on is = (is.0, is.2)
somewhere (end.Halts e) s p state stack n x wrong on is = absurd (cc)
somewhere end.Leaves s p state stack n x wrong on is = absurd (cc)
somewhere (end.Breaks line) s p state stack n x wrong on is = absurd (cc)
somewhere end.NoCall s p state stack n x wrong on is = absurd (cc)

onward : (p : Program) (c d : Place) (now : State) (stack : List ℕ) → AreTwins p c d → IsAt p d now stack → IsAt p c now stack
onward p c d now stack twins at = record {
  seen = record {
    rest = at.seen.rest ∙ ap (λ s. with_memory s now.mem) twins.at.seen.rest;
    mem = λ a low. twins.at.seen.mem a low ∙ at.seen.mem a low;
  };
  stack_is = twins.at.stack_is ∙ at.stack_is;
  is_state = twins.at.is_state;
  kept = twins.at.kept;
}

back_first : (y : CalledStepEnd) (p : Program) (state : State) (stack : List ℕ) (x z : FrameStep) → AreBack p x z → IsFirst y p state stack z →
    IsFirst y p state stack x
back_first end.GoesTo p state stack x z back is =
    let one : GoesTo back.d ≡ GoesTo is.0 = sym back.second ∙ is.1 in
    let same : back.d ≡ is.0 = cc in
    (back.c, back.first, onward p back.c back.d state stack back.twins (subst (λ d. IsAt p d state stack) (sym same) is.2))
back_first (end.Halts e) p state stack x z back is = absurd (let no : GoesTo back.d ≡ Halts (called_event_of e) = sym back.second ∙ is in cc)
back_first end.Calls p state stack x z back is = absurd (let no : GoesTo back.d ≡ Calls is.0 = sym back.second ∙ is.1 in cc)
back_first end.Leaves p state stack x z back is = absurd (let no : GoesTo back.d ≡ Leaves is.0 = sym back.second ∙ is.1 in cc)
back_first (end.Breaks line) p state stack x z back is = absurd (let no : GoesTo back.d ≡ Breaks line = sym back.second ∙ is in cc)
back_first end.NoCall p state stack x z back is = absurd is

both_first : (y : CalledStepEnd) (p : Program) (state : State) (stack : List ℕ) (x z : FrameStep) → AreEnded x z ⊎ AreBack p x z →
    IsFirst y p state stack z → IsFirst y p state stack x
both_first y p state stack x z (inl ended) is = subst (IsFirst y p state stack) (ended.second ∙ sym ended.first) is
both_first y p state stack x z (inr back) is = back_first y p state stack x z back is

both_quiet : (p : Program) (x z : FrameStep) → AreEnded x z ⊎ AreBack p x z → ((e : FrameEvent) → z ≢ Halts e) → (e : FrameEvent) → x ≢ Halts e
both_quiet p x z (inl ended) quiet e is = quiet e (ended.second ∙ sym ended.first ∙ is)
both_quiet p x z (inr back) quiet e is = let no : GoesTo back.c ≡ Halts e = sym back.first ∙ is in absurd (cc)

-- the block of a contract step without an event is not wrong
right_by : (x : FrameStep) (b : Bool) (n : ℕ) → (((e : FrameEvent) → x ≢ Halts e) → b ≡ true) → wrong_by x b n ≢ Some (WrongAt n)
right_by (Halts e) b n quiet is = absurd (let no : None ≡ Some (WrongAt n) = is in cc)
right_by (Breaks line) b n quiet is =
    let own = quiet (λ e h. let no : Breaks line ≡ Halts e = h in cc) in
    let no : Some (BreaksLine line) ≡ Some (WrongAt n) = sym (ap (λ z. given_wrong z n (Some (BreaksLine line))) own) ∙ is in absurd (cc)
right_by (GoesTo d) b n quiet is =
    let own = quiet (λ e h. let no : GoesTo d ≡ Halts e = h in cc) in
    let no : None ≡ Some (WrongAt n) = sym (ap (λ z. given_wrong z n None) own) ∙ is in absurd (cc)
right_by (Reaches d) b n quiet is =
    let own = quiet (λ e h. let no : Reaches d ≡ Halts e = h in cc) in
    let no : None ≡ Some (WrongAt n) = sym (ap (λ z. given_wrong z n None) own) ∙ is in absurd (cc)
right_by (Calls d) b n quiet is =
    let own = quiet (λ e h. let no : Calls d ≡ Halts e = h in cc) in
    let no : None ≡ Some (WrongAt n) = sym (ap (λ z. given_wrong z n None) own) ∙ is in absurd (cc)
right_by (Leaves s) b n quiet is =
    let own = quiet (λ e h. let no : Leaves s ≡ Halts e = h in cc) in
    let no : None ≡ Some (WrongAt n) = sym (ap (λ z. given_wrong z n None) own) ∙ is in absurd (cc)

-- ---- a run, with what has been kept so far

pub record IsWalking (f : Frame) (k : ℕ) (start : Start) (calls : List WrittenCall) (p : Program) (stands : Stand) (turns n : ℕ) (now : State)
    (stack : List ℕ) (made : List WrittenCall) : Type 0 where
  pub place : Place
  pub goes : run f k start n ≡ standing stands turns n place
  pub at : IsAt p place now stack
  pub shown : made ≡ shown_in f k start calls n

-- what is kept of a step is what is shown of it
kept_shown : (f : Frame) (start : Start) (calls : List WrittenCall) (s : Stand) (turns n choice : ℕ) (c : Place) (y : CalledStepEnd) (p : Program)
    (state : State) (stack : List ℕ) (o : Option WrittenCall) → o ≡ handed s f c (block_at calls n) →
    IsFirst y p state stack (turned s f start.state c choice (start.given n)) → kept_of y o ≡ shown_at f start calls n (standing s turns n c)
kept_shown f start calls stand.Row turns n choice c y p state stack o is first = ap (kept_of y) is ∙ none y
  where
    none : (y : CalledStepEnd) → kept_of y None ≡ []
    none (end.Halts e) = refl
    none end.GoesTo = refl
    none end.Calls = refl
    none end.Leaves = refl
    none (end.Breaks line) = refl
    none end.NoCall = refl
kept_shown f start calls stand.Contract turns n choice c (end.Halts e) p state stack o is first =
    sym (ap (λ x. shown_by x f c (block_at calls n)) first)
kept_shown f start calls stand.Contract turns n choice c end.GoesTo p state stack o is first =
    ap option_to_list is ∙ sym (ap (λ x. shown_by x f c (block_at calls n)) first.1)
kept_shown f start calls stand.Contract turns n choice c end.Calls p state stack o is first =
    ap option_to_list is ∙ sym (ap (λ x. shown_by x f c (block_at calls n)) first.1)
kept_shown f start calls stand.Contract turns n choice c end.Leaves p state stack o is first =
    ap option_to_list is ∙ sym (ap (λ x. shown_by x f c (block_at calls n)) first.1)
kept_shown f start calls stand.Contract turns n choice c (end.Breaks line) p state stack o is first =
    ap option_to_list is ∙ sym (ap (λ x. shown_by x f c (block_at calls n)) first)
kept_shown f start calls stand.Contract turns n choice c end.NoCall p state stack o is first = absurd first

module _ (p : Program) (stepped : List Contract) (own : Option Contract) (k : ℕ) (entry : State) (choices : List (ℕ × ℕ)) (registers : ℕ → List ℕ)
    (form : Layout) (lawful : HasLawfulRows (program_in p own)) (memory : ReadsMemory (program_in p own)) (is_entry : IsState entry)
    (kept : HasKept p entry) (calls : List WrittenCall) (blocks : All (IsBlock form) calls) (rising : AreInOrder calls) (count : ℕ)
    (listed : AreListed (called_frame p stepped own) k (called_start entry choices registers calls) calls count) where
  abbrev F : Frame
  F = called_frame p stepped own

  abbrev start : Start
  start = called_start entry choices registers calls

  module _ (n turns choice : ℕ) (c : Place) (less : n < count) (o : Option WrittenCall) where
    -- a contract step that is handed some of what it is given
    contract_first : run F k start n ≡ Calling turns n c → o ≡ option_map (covered F c) (block_at calls n) → (y : CalledStepEnd) (state : State)
        (stack : List ℕ) → IsTurnEnd y p state stack n (contract_step F entry c (gift_of registers o))
        (wrong_by (contract_step F entry c (gift_of registers o)) (is_block_of F c o) n) →
        IsFirst y p state stack (contract_step F entry c (gifts registers calls n))
    contract_first is handed_is y state stack turn_end =
        both_first y p state stack x z both (no_wrong y p state stack n z (wrong_by z (is_block_of F c o) n) (right_by z (is_block_of F c o) n own_block) turn_end)
      where
        x : FrameStep
        x = contract_step F entry c (gifts registers calls n)

        z : FrameStep
        z = contract_step F entry c (gift_of registers o)

        both : AreEnded x z ⊎ AreBack p x z
        both = handed_both p stepped own k entry choices registers form lawful memory is_entry kept calls blocks rising count listed n turns c less is o
            handed_is

        own_block : ((e : FrameEvent) → z ≢ Halts e) → is_block_of F c o ≡ true
        own_block quiet =
            let g = given_at p stepped own k entry choices registers form lawful memory is_entry kept calls blocks rising count listed n turns c less is
            (both_quiet p x z both quiet) in
            ap (is_block_of F c) (handed_is ∙ ap (option_map (covered F c)) g.block)
            ∙ ap (λ a. (a == c.state.pc) && list_all (λ (b : ℕ × ℕ). may_write F c b.0) (covered F c g.w).bytes) g.at
            ∙ ap (λ t. t && list_all (λ (b : ℕ × ℕ). may_write F c b.0) (covered F c g.w).bytes) (same_number c.state.pc)
            ∙ list_all-from_AllPass (λ (b : ℕ × ℕ). may_write F c b.0) (covered F c g.w).bytes (all_passed (may_write F c) g.w.bytes)

    turn_first : (s : Stand) → run F k start n ≡ standing s turns n c → o ≡ handed s F c (block_at calls n) → (y : CalledStepEnd) (state : State)
        (stack : List ℕ) → IsTurnEnd y p state stack n (turned s F entry c choice (gift_of registers o))
        (turned_wrong s F entry c o (gift_of registers o) n) → IsFirst y p state stack (turned s F entry c choice (gifts registers calls n))
    turn_first stand.Contract is handed_is y state stack turn_end = contract_first is handed_is y state stack turn_end
    turn_first stand.Row is handed_is y state stack turn_end =
        no_wrong y p state stack n (turned stand.Row F entry c choice (gifts registers calls n)) (turned_wrong stand.Row F entry c o (gift_of registers o) n)
        (λ wrong. let no : None ≡ Some (WrongAt n) = sym (ap (λ z. turned_wrong stand.Row F entry c z (gift_of registers z) n) handed_is) ∙ wrong in absurd (cc))
        turn_end

  -- ---- a run that goes on

  module _ (stands : Stand) (turns n : ℕ) (now : State) (stack : List ℕ) (made : List WrittenCall)
      (r : IsWalking F k start calls p stands turns n now stack made) (less : n < count) (choice at : ℕ) (drawn : choice ≡ byte_in choices n)
      (here_at : at ≡ now.pc) (o : Option WrittenCall) (handed_is : o ≡ handed stands F (record { state = now; stack = [] }) (block_at calls n))
      (y : CalledStepEnd) (state : State) (after : List ℕ)
      (turn_end : IsTurnEnd y p state after n (turned stands F entry r.place choice (gift_of registers o))
      (turned_wrong stands F entry r.place o (gift_of registers o) n)) where
    abbrev c : Place
    c = r.place

    abbrev step_made : FrameStep
    step_made = turned stands F entry c choice (gifts registers calls n)

    handed_there : o ≡ handed stands F c (block_at calls n)
    handed_there = handed_is ∙ sym (handed_same p stepped own c now stack r.at stands (block_at calls n))

    first : IsFirst y p state after step_made
    first = turn_first n turns choice c less o stands r.goes handed_there y state after turn_end

    at_is : at ≡ c.state.pc
    at_is = here_at ∙ ap (λ (z : State). z.pc) r.at.seen.rest

    more_is : (s : Stand) → one_more F k start (standing s turns n c)
        ≡ after_step k turns n c.state.pc (turned s F entry c (byte_in choices n) (gifts registers calls n))
    more_is stand.Row = refl
    more_is stand.Contract = refl

    next_as : (z : FrameStep) → step_made ≡ z → run F k start (suc n) ≡ after_step k turns n at z
    unfolding run
    next_as z is =
        ap (one_more F k start) r.goes ∙ more_is stands
        ∙ ap (λ h. after_step k turns n c.state.pc (turned stands F entry c h (gifts registers calls n))) (sym drawn)
        ∙ ap (after_step k turns n c.state.pc) is ∙ ap (λ a. after_step k turns n a z) (sym at_is)

    module _ (list : List WrittenCall) (pushed : list ≡ made ++ kept_of y o) where
      now_shown : list ≡ shown_in F k start calls (suc n)
      now_shown =
          pushed ∙ ap (λ l. made ++ l) (kept_shown F start calls stands turns n choice c y p state after o handed_there first)
          ∙ ap (λ l. l ++ shown_at F start calls n (standing stands turns n c)) r.shown
          ∙ ap (λ z. shown_in F k start calls n ++ shown_at F start calls n z) (sym r.goes)

      over_shown : (z : Run) → IsOver z → run F k start (suc n) ≡ z → list ≡ shown_in F k start calls count
      over_shown z over is =
          let place : (count - suc n) + suc n ≡ count = omega (arith, less) in
          now_shown ∙ sym (shown_rest F start calls k (suc n) (count - suc n) z over is) ∙ ap (shown_in F k start calls) place

      pub ends : next_of y ≡ None → list ≡ shown_in F k start calls count
      ends = by y first
        where
          by : (e : CalledStepEnd) → IsFirst e p state after step_made → next_of e ≡ None → list ≡ shown_in F k start calls count
          by (end.Halts e) is out = over_shown (Failed (called_event_of e) at n) tt (next_as (Halts (called_event_of e)) is)
          by end.Leaves is out = over_shown (Exited at n) tt (next_as (Leaves is.0) is.1)
          by (end.Breaks line) is out = over_shown (Broken line at n) tt (next_as (Breaks line) is)
          by end.GoesTo is out = absurd (cc)
          by end.Calls is out = absurd (cc)
          by end.NoCall is out = absurd is

      -- where it goes on
      abbrev onto : Stand → Place → FrameStep
      onto stand.Row d = GoesTo d
      onto stand.Contract d = Calls d

      pub record IsOn (s : Stand) : Type 0 where
        pub d : Place
        pub comes : step_made ≡ onto s d
        pub stays_at : IsAt p d state after

      pub goes_on : (s : Stand) → next_of y ≡ Some s → IsOn s
      goes_on s = by y first
        where
          by : (e : CalledStepEnd) → IsFirst e p state after step_made → next_of e ≡ Some s → IsOn s
          by end.GoesTo is on =
              let same : stand.Row ≡ s = cc in subst IsOn same (record { d = is.0; comes = is.1; stays_at = is.2 })
          by end.Calls is on =
              let same : stand.Contract ≡ s = cc in subst IsOn same (record { d = is.0; comes = is.1; stays_at = is.2 })
          by (end.Halts e) is on = absurd (cc)
          by end.Leaves is on = absurd (cc)
          by (end.Breaks line) is on = absurd (cc)
          by end.NoCall is on = absurd (cc)

      module _ (s : Stand) (on : IsOn s) (to : ℕ) (there : to ≡ state.pc) where
        to_is : to ≡ on.d.state.pc
        to_is = there ∙ ap (λ (z : State). z.pc) on.stays_at.seen.rest

        arrives : (s : Stand) (z : Run) → ((next : ℕ → ℕ → Place → Run) → next ≡ standing s → arrive next (nat_le to at) k turns n at on.d ≡ z) →
            after_step k turns n at (onto s on.d) ≡ z
        arrives stand.Row z h = ap (λ a. arrive Going (nat_le a at) k turns n at on.d) (sym to_is) ∙ h Going refl
        arrives stand.Contract z h = ap (λ a. arrive Calling (nat_le a at) k turns n at on.d) (sym to_is) ∙ h Calling refl

        pub turns_out : tables.arrive (nat_le to at) k turns n at on.d ≡ tables.Turned at n → list ≡ shown_in F k start calls count
        turns_out out =
            over_shown (Turned at n) tt
            (next_as (onto s on.d) on.comes ∙ arrives s (Turned at n) (λ next is. arrives_turned next (nat_le to at) k turns n at on.d out))

        abbrev one_up : suc n ≡ n + 1
        one_up = omega arith

        pub runs_on : (more : ℕ) → tables.arrive (nat_le to at) k turns n at on.d ≡ tables.Going more (n + 1) on.d →
            IsWalking F k start calls p s more (n + 1) state after list
        runs_on more stays = record {
          place = on.d;
          goes = ap (run F k start) (sym one_up) ∙ next_as (onto s on.d) on.comes
              ∙ arrives s (standing s more (n + 1) on.d)
              (λ next is. arrives_going next (nat_le to at) k turns n at more on.d stays ∙ ap (λ (g : ℕ → ℕ → Place → Run). g more (n + 1) on.d) is);
          at = on.stays_at;
          shown = now_shown ∙ ap (shown_in F k start calls) one_up;
        }

-- where the run begins
pub begins_walking : (p : Program) (stepped : List Contract) (own : Option Contract) (k : ℕ) (entry now : State) (choices : List (ℕ × ℕ))
    (registers : ℕ → List ℕ) (calls : List WrittenCall) (items : List ℕ) (made : List WrittenCall) → now ≡ entry → items ≡ [] → made ≡ [] → IsState entry →
    HasKept p entry →
    IsWalking (called_frame p stepped own) k (called_start entry choices registers calls) calls p stand.Row 0 0 now (reverse items) made
begins_walking p stepped own k entry now choices registers calls items made same none nothing is kept =
    let r = begins_running p stepped own k entry now choices registers calls items same none is kept in
    record { place = r.place; goes = r.goes; at = r.at; shown = nothing }

-- what is lent of what was handed over
pub lent_is : (r : Option (Bor CallState)) (b : Option CallState) → option_copied r ≡ b →
    option_map (λ (z : Bor CallState). written_call_of z.now) r ≡ option_map written_call_of b
lent_is None b is = ap (option_map written_call_of) is
lent_is (Some z) b is = ap (option_map written_call_of) is
