-- Contract steps that are given the same where it matters.
use Rattle.std.proofs.Common.{◌≡◌, ◌⊎◌, inl, inr, ℕ, ◌^◌, ◌<◌, List, [], ◌∷◌, Bool, true, false, Option, Some, None, refl, sym, ap, ◌∙◌, subst, arith}
use Rattle.std.specs.Prelude.{◌≢◌, ◌&&◌, nat_eq, nat_lt, not, if◌then◌else◌}
use Rattle.std.specs.List.{list_any}
use Rattle.std.proofs.lemmas.Bool.Decides.{nat_tests}
use Rattle.word_spec.specs.Memory.{Endian, Memory}
use Rattle.word_spec.specs.State.{State, IsState}
use Rattle.machine_spec.specs.Endings.{CodeWritten}
use Rattle.bilv_spec.specs.Elf.{is_kept}
use Rattle.bilv_spec.specs.Run.{Program, Place, false_line}
use Rattle.bilv_spec.proofs.FileWords.{Sound, every}
use Rattle.frame_spec.proofs.ByFile.{sound_after}
use Rattle.frame_spec.proofs.Stacks.{AreWords}
use Rattle.frame_spec.specs.Frames.{Content, Contract, IsContent, Frame, FrameEvent, OfStep, NeedsFails, WritesFails, is_outside, keeps_flag, keeps_register, written}
use Rattle.frame_spec.specs.FrameRuns.{FrameStep, Halts, GoesTo, Breaks, contract_by, needs_by, returns_by, state_after, writes_by}
use Rattle.table_run.specs.CalledFrames.{IsAt, IsSeenAs, called_frame, program_in}
use Rattle.table_run.proofs.ContractSteps.{lands_back, lines_seen}

-- two contents are the same for a contract step in a state, but for bytes that no machine sees
pub record AreGivenAlike (e : Endian) (x : Contract) (s : State) (g h : Content) : Type 0 where
  pub regs : g.regs ≡ h.regs
  pub flags : g.flags ≡ h.flags
  pub mem : (a : ℕ) → a < 2 ^ 32 → list_any (nat_eq a) (written e x.writes s) ≡ true → g.mem a ≡ h.mem a

-- two places are one but for bytes that no machine sees
pub record AreTwins (p : Program) (c d : Place) : Type 0 where
  pub at : IsAt p c d.state d.stack
  pub is_state : IsState d.state

-- a step after which a run does not go on
abbrev pub Ends : FrameStep → Type 0
Ends (Halts e) = Unit {0}
Ends (Breaks line) = Unit {0}
Ends other = ⊥

pub record AreEnded (x y : FrameStep) : Type 0 where
  pub end : FrameStep
  pub ends : Ends end
  pub first : x ≡ end
  pub second : y ≡ end

pub record AreBack (p : Program) (x y : FrameStep) : Type 0 where
  pub c : Place
  pub d : Place
  pub first : x ≡ GoesTo c
  pub second : y ≡ GoesTo d
  pub twins : AreTwins p c d

module _ (p : Program) (stepped : List Contract) (own : Option Contract) where
  abbrev f : Frame
  f = called_frame p stepped own

  abbrev E : Endian
  E = p.machine.endian

  -- ---- the state after a contract step

  module _ (x : Contract) (s : State) (g h : Content) (alike : AreGivenAlike E x s g h) (to : ℕ) where
    abbrev after : (ℕ → ℕ) → (ℕ → ℕ) → Memory → State
    after regs flags mem = record {
      pc = to;
      regs = λ r. if keeps_register f x r then s.regs r else regs r;
      flags = λ n. if keeps_flag f x n then s.flags n else flags n;
      mem = mem;
    }

    byte_alike : (a : ℕ) → a < 2 ^ 32 → (state_after f x s to g).mem a ≡ (state_after f x s to h).mem a
    byte_alike a low = by (list_any (nat_eq a) (written E x.writes s)) refl
      where
        test : nat_lt a 4294967296 ≡ true
        test = grind (arith, nat_tests)

        plain : (k : Content) → (state_after f x s to k).mem a ≡ (if not (list_any (nat_eq a) (written E x.writes s)) then s.mem a else k.mem a)
        plain k = ap (λ b. if b && not (list_any (nat_eq a) (written E x.writes s)) then s.mem a else k.mem a) test

        by : (t : Bool) → list_any (nat_eq a) (written E x.writes s) ≡ t → (state_after f x s to g).mem a ≡ (state_after f x s to h).mem a
        by true is =
            plain g ∙ ap (λ t. if not t then s.mem a else g.mem a) is ∙ alike.mem a low is
            ∙ sym (plain h ∙ ap (λ t. if not t then s.mem a else h.mem a) is)
        by false is =
            plain g ∙ ap (λ t. if not t then s.mem a else g.mem a) is ∙ sym (plain h ∙ ap (λ t. if not t then s.mem a else h.mem a) is)

    pub after_alike : IsSeenAs (state_after f x s to g) (state_after f x s to h)
    after_alike = record {
      rest = ap (λ r. after r h.flags (state_after f x s to h).mem) (sym alike.regs)
          ∙ ap (λ n. after g.regs n (state_after f x s to h).mem) (sym alike.flags);
      mem = byte_alike;
    }

  -- ---- what a contract step comes to

  abbrev AreSteps : FrameStep → FrameStep → Type 0
  AreSteps x y = AreEnded x y ⊎ AreBack p x y

  module _ (entry s : State) (x : Contract) (to : ℕ) (below : List ℕ) (g h : Content) (sound : Sound (program_in p own) every s)
      (words : AreWords (to ∷ below)) (one : IsContent g) (other : IsContent h) where
    abbrev c : Place
    c = record { state = s; stack = to ∷ below }

    abbrev d1 : Place
    d1 = record { state = state_after f x s to g; stack = below }

    abbrev d2 : Place
    d2 = record { state = state_after f x s to h; stack = below }

    no_event : (o : Option ℕ) (e : FrameEvent) → returns_by o f c d1 ≢ Halts e
    no_event (Some line) e is = absurd (cc)
    no_event None e is =
        let back : GoesTo d1 ≡ Halts e = sym (lands_back p stepped own s to below d1.state) ∙ is in absurd (cc)

    by_gives : (o : Option ℕ) → AreTwins p d1 d2 → AreSteps (returns_by o f c d1) (returns_by o f c d2)
    by_gives (Some line) twins = inl (record { end = Breaks line; ends = tt; first = refl; second = refl })
    by_gives None twins =
        inr (record {
          c = d1;
          d = d2;
          first = lands_back p stepped own s to below d1.state;
          second = lands_back p stepped own s to below d2.state;
          twins = twins;
        })

    by_writes : (a b : Bool) → list_any (λ z. is_kept (p.loaded z)) (written E x.writes s) ≡ a →
        (((e : FrameEvent) → writes_by a b f x c d1 ≢ Halts e) → AreGivenAlike E x s g h) →
        AreSteps (writes_by a b f x c d1) (writes_by a b f x c d2)
    by_writes true b is quiet = inl (record { end = Halts (OfStep CodeWritten); ends = tt; first = refl; second = refl })
    by_writes false true is quiet = inl (record { end = Halts WritesFails; ends = tt; first = refl; second = refl })
    by_writes false false is quiet =
        let alike = quiet (no_event (false_line E x.gives d1.state s)) in
        let seen = after_alike x s g h alike to in
        let first = sound_after f every x s to g sound one words.0 is in
        let second = sound_after f every x s to h sound other words.0 is in
        let at : IsAt p d1 d2.state below = record {
          seen = seen;
          stack_is = refl;
          is_state = first.1;
          kept = λ a cell low cell_is kept. first.0 a cell low cell_is kept refl;
        } in
        subst (λ o. AreSteps (returns_by (false_line E x.gives d1.state s) f c d1) (returns_by o f c d2))
        (lines_seen E x.gives d1.state d2.state s seen)
        (by_gives (false_line E x.gives d1.state s) (record { at = at; is_state = second.1 }))

    by_needs : (o : Option ℕ) → (((e : FrameEvent) → needs_by o f entry x c d1 ≢ Halts e) → AreGivenAlike E x s g h) →
        AreSteps (needs_by o f entry x c d1) (needs_by o f entry x c d2)
    by_needs (Some line) quiet = inl (record { end = Halts (NeedsFails line); ends = tt; first = refl; second = refl })
    by_needs None quiet =
        by_writes (list_any (λ z. is_kept (p.loaded z)) (written E x.writes s)) (is_outside own E entry (written E x.writes s)) refl quiet

  -- two contents give the same where the step has no event; an event does not hang on them
  pub contract_both : (o : Option Contract) (entry s : State) (stack : List ℕ) (g h : Content) → Sound (program_in p own) every s → AreWords stack →
      IsContent g → IsContent h →
      (((e : FrameEvent) → contract_by o f entry s stack g ≢ Halts e) → (x : Contract) → o ≡ Some x → AreGivenAlike E x s g h) →
      AreSteps (contract_by o f entry s stack g) (contract_by o f entry s stack h)
  contract_both None entry s stack g h sound words one other quiet = inl (record { end = Breaks 0; ends = tt; first = refl; second = refl })
  contract_both (Some x) entry s [] g h sound words one other quiet = inl (record { end = Breaks 0; ends = tt; first = refl; second = refl })
  contract_both (Some x) entry s (to ∷ below) g h sound words one other quiet =
      by_needs entry s x to below g h sound words one other (false_line E x.needs s s) (λ none. quiet none x refl)
