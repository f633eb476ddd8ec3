-- What a run is found to come to.
use Rattle.std.proofs.Common.{◌≡◌, ℕ, suc, ◌+◌, ◌-◌, ◌≤◌, sym, ap, ◌∙◌, subst, arith, List, []}
use Rattle.std.specs.Prelude.{Option, Some, None, nat_le, reverse}
use Rattle.std.proofs.Math.Path.{fun_ext}
use Rattle.word_spec.specs.Words.{word}
use Rattle.word_spec.specs.Memory.{memory_of, byte_in}
use Rattle.word_spec.specs.State.{State, Written}
use Rattle.bilv_spec.specs.Run.{Program, Place, Stops, Arrives, Exits, Run, Going, Exited, Failed, Turned, IsOver, run, one_more, after_step, arrive, step}
use Rattle.machine_spec.specs.Endings.{Start, Event}
use Rattle.bilv_spec.specs.Reports.{Found, FoundExit, FoundEvent, FoundTurn, FoundLeft, found, found_by, turns_within}
use Rattle.machine_spec.specs.StateText.{Layout, known_or}
use Rattle.bilv_spec.specs.Answers.{known_byte, start_in}
use Rattle.bilv_spec.proofs.Over.{over_stays}
use Rattle.machine_law.specs.Facts.{made}

pub first_run : (p : Program) (k : ℕ) (s : Start) (state : State) (stack : List ℕ) → state ≡ s.state → stack ≡ [] →
    run p k s 0 ≡ Going 0 0 (record { state = state; stack = reverse stack })
unfolding run
first_run p k s state stack same none =
    ap (λ (t : State). Going 0 0 (record { state = t; stack = [] })) (sym same) ∙ ap
    (λ (xs : List ℕ). Going 0 0 (record { state = state; stack = reverse xs })) (sym none)

module _ (p : Program) (k : ℕ) (s : Start) (turns n last choice at : ℕ) (c : Place) (drawn : choice ≡ s.choices n) (here : at ≡ c.state.pc)
    (going : run p k s n ≡ Going turns n c) where
  -- the run after this step, and what its end is behind any later one
  pub next : (r : Run) → after_step k turns n c.state.pc (step p s.state c choice) ≡ r → run p k s (suc n) ≡ r
  unfolding run
  next r is = ap (one_more p k s) going ∙ ap (λ h. after_step k turns n c.state.pc (step p s.state c h)) (sym drawn) ∙ is

  ends : (r : Run) → IsOver r → after_step k turns n c.state.pc (step p s.state c choice) ≡ r → n ≤ last → run p k s (last + 1) ≡ r
  ends r over is le =
      let place : (last - n) + suc n ≡ last + 1 = omega arith in
      subst (λ m. run p k s m ≡ r) place (over_stays p k s (suc n) (last - n) r over (next r is))

  pub found_event : (e : Event) → n ≤ last → step p s.state c choice ≡ Stops e → FoundEvent e at n ≡ found_by (run p k s last) (run p k s (last + 1))
  found_event e le is =
      ap (λ a. FoundEvent e a n) here ∙ sym (ap (found_by (run p k s last)) (ends (Failed e c.state.pc n) tt (ap (after_step k turns n c.state.pc) is) le))

  pub found_exit : (t : State) → n ≤ last → step p s.state c choice ≡ Exits t → FoundExit at n ≡ found_by (run p k s last) (run p k s (last + 1))
  found_exit t le is =
      ap (λ a. FoundExit a n) here ∙ sym (ap (found_by (run p k s last)) (ends (Exited c.state.pc n) tt (ap (after_step k turns n c.state.pc) is) le))

  module _ (d : Place) (to : ℕ) (there : to ≡ d.state.pc) (is : step p s.state c choice ≡ Arrives d) where
    pub arrived : (r : Run) → arrive (nat_le to at) k turns n at d ≡ r → after_step k turns n c.state.pc (step p s.state c choice) ≡ r
    arrived r h =
        ap (after_step k turns n c.state.pc) is
        ∙ sym (ap (λ a. arrive (nat_le a c.state.pc) k turns n c.state.pc d) there)
        ∙ sym (ap (λ a. arrive (nat_le to a) k turns n a d) here)
        ∙ h

    pub found_turn : n ≤ last → arrive (nat_le to at) k turns n at d ≡ Turned at n → FoundTurn at n ≡ found_by (run p k s last) (run p k s (last + 1))
    found_turn le h = sym (ap (found_by (run p k s last)) (ends (Turned at n) tt (arrived (Turned at n) h) le))

    pub one_step : (more : ℕ) → arrive (nat_le to at) k turns n at d ≡ Going more (n + 1) d → run p k s (n + 1) ≡ Going more (n + 1) d
    one_step more h =
        let up : suc n ≡ n + 1 = omega arith in
        subst (λ m. run p k s m ≡ Going more (n + 1) d) up (next (Going more (n + 1) d) (arrived (Going more (n + 1) d) h))

    pub found_left : (more : ℕ) → n ≡ last → arrive (nat_le to at) k turns n at d ≡ Going more (n + 1) d →
        FoundLeft at n ≡ found_by (run p k s last) (run p k s (last + 1))
    found_left more same h =
        let behind : run p k s (last + 1) ≡ Going more (n + 1) d = subst (λ m. run p k s (m + 1) ≡ Going more (n + 1) d) same (one_step more h) in
        let before : run p k s last ≡ Going turns n c = subst (λ m. run p k s m ≡ Going turns n c) same going in
        ap (λ a. FoundLeft a n) here ∙ sym (ap (λ r. found_by r (Going more (n + 1) d)) before) ∙ sym (ap (found_by (run p k s last)) behind)

-- the same start, within the same bounds
pub found_same : (p : Program) (s t : Start) (bound last : ℕ) (k : Option ℕ) (f : Found) → s ≡ t → bound ≡ turns_within last k
    → f ≡ found_by (run p bound s last) (run p bound s (last + 1)) → f ≡ found p k t last
found_same p s t bound last k f starts bounds is =
    is
    ∙ ap (λ b. found_by (run p b s last) (run p b s (last + 1))) bounds
    ∙ ap (λ (r : Start). found p k r last) starts

-- the state that the code makes is that of the start
pub state_is : (p : Program) (form : Layout) (w : Written) (entries : List (ℕ × ℕ)) (s : State) → s ≡ made form w p.entry entries
    → ((x : ℕ) → memory_of entries x ≡ known_or (known_byte p (word 32 x)) w.bytes x) → s ≡ (start_in p form w).state
state_is p form w entries s is h = is ∙ ap (λ (mem : ℕ → ℕ). record (made form w p.entry entries) { mem = mem }) (fun_ext h)

-- the start is that state with its choices
pub start_is : (start : Start) (s : State) (drawn choices : List (ℕ × ℕ)) → s ≡ start.state → start.choices ≡ byte_in choices → drawn ≡ choices
    → record { state = s; choices = byte_in drawn } ≡ start
start_is start s drawn choices is given same =
    ap (λ (t : State). record { state = t; choices = byte_in drawn }) is
    ∙ ap (λ (cs : ℕ → ℕ). record { state = start.state; choices = cs }) (ap byte_in same ∙ sym given)

-- the bound for no number
pub no_bound : (limit bound : ℕ) (k : Option ℕ) → 1 ≤ limit → k ≡ None → bound ≡ limit → bound ≡ turns_within (limit - 1) k
no_bound limit bound k some none is = let full : limit ≡ limit - 1 + 1 = omega arith in is ∙ full ∙ sym (ap (turns_within (limit - 1)) none)

pub some_bound : (limit bound n : ℕ) (k : Option ℕ) → k ≡ Some n → bound ≡ n → bound ≡ turns_within (limit - 1) k
some_bound limit bound n k some is = is ∙ sym (ap (turns_within (limit - 1)) some)
