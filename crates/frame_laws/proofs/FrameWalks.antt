-- The walk of a reading from a root is its segment from the root's anchor.
use Rattle.std.proofs.Common.{◌≡◌, inl, inr, ℕ, zero, suc, refl, ap, sym, ◌∙◌, subst, List, [], ◌∷◌, length, Option, Some, None, Bool, true, false}
use Rattle.std.specs.Prelude.{◌&&◌, nat_lt, is_some, if◌then◌else◌}
use Rattle.word_spec.specs.Memory.{Endian}
use Rattle.word_spec.specs.State.{State}
use Rattle.bilv_spec.specs.Run.{Place, false_assert}
use Rattle.bilv_spec.specs.Points.{file_row}
use Rattle.bilv_spec.specs.Questions.{IsEntryStateOver}
use Rattle.bilv_spec.specs.PointLaws.{HasLawfulRows}
use Rattle.bilv_spec.proofs.PointSteps.{and_both}
use Rattle.bilv_spec.proofs.FileWords.{Sound}
use Rattle.frame_spec.specs.Frames.{Content, Contract, Frame, content_at, content_of, is_head, contract_at}
use Rattle.frame_spec.specs.FrameRuns.{Run, Going, Arriving, Calling, Exited, Failed, Turned, Cut, Broken, FrameStep, Halts, GoesTo, Reaches, Calls, Leaves, Breaks, frame_step, contract_step, arrival, begins, links_by}
use Rattle.frame_spec.specs.FramePoints.{Anchor, AtEntry, AtHead, Point, IsPoint, is_entry, is_cut, is_contract_end}
use Rattle.frame_spec.specs.FrameQuestions.{Reading, IsReading, by_file, point_of, origin_of, read_on, read_run}
use Rattle.frame_spec.specs.FrameWalk.{Check, Cutting, Always, UnrolledPoint, UnrolledProgram, Root, point_at, Situation, situation_at, first_aim, false_check, Walk, WalkIsAt, WalkArrives, WalkExits, WalkFails, WalkTurns, WalkIsCut, WalkBreaks, arrival_by, walk_to, walk_from, walk_on, root_content, root_walk, walk_of}
use Rattle.frame_spec.specs.FrameUnrolling.{IsRead, IsCarriedOf, checks_at, checks_of, DoesContract, DoesAddress, DoesCut, DoesBy, IsRootOf, IsUnrolling, IsStep}
use Rattle.frame_spec.proofs.ContractWalks.{contract_step_is_walk}
use Rattle.frame_spec.proofs.OfSegments.{heads}
use Rattle.frame_spec.proofs.SegmentsMeet.{and_false}
use Rattle.frame_laws.specs.RunOfFrame.{IsAmong, AsksLiterals, IsAt, IsSame, BeginsAt, FrameWalkIsRun}
use Rattle.frame_laws.proofs.CheckLines.{SameLine, at_address, at_point}
use Rattle.frame_laws.proofs.WalkPlaces.{within, end_within, a_point, Comes, stepped}
use Rattle.frame_laws.proofs.FrameRows.{check_or, checks_aim, and_cut, row_step}
use Rattle.frame_laws.proofs.FrameFits.{point_words, contract_step_same, FitStep, row_fits, BackStep, fits_back, contract_back, Fit, after_fits}

-- a contract point is one of a frame that steps over some
stepped_some : (f : Frame) (k : ℕ) (u : UnrolledProgram) (i : ℕ) (q : UnrolledPoint) → DoesContract f k u i q (contract_at f.stepped q.point.at) q.point.stack →
    f.stepped ≡ [] → ⊥
stepped_some f k u i q h e = subst (λ z. DoesContract f k u i q (contract_at z q.point.at) q.point.stack) e h

-- where a contract step comes to, the walk comes to
module _ (f : Frame) (contracts : List Contract) (k : ℕ) (u : UnrolledProgram) (un : IsUnrolling f contracts k u) (asked : ℕ → Bool) (q : Point) where
  exact : (d : Place) → Sound f.program asked d.state → IsCarriedOf (λ n. IsRead f.program contracts n d.state.pc) d.state (content_of d.state)
  exact d h = record { state = h.1; regs = refl; mem = refl; flags = λ n r. refl }

  not_call : (d : Place) → (b : Bool) → nat_lt (length q.stack) (length d.stack) ≡ b → b ≡ false → is_contract_end f q d.stack d.state.pc ≡ false
  not_call d b e h =
      ap (λ z. is_some (contract_at f.stepped d.state.pc) && z && links_by (file_row f.program q.at)) (e ∙ h)
      ∙ and_false (is_some (contract_at f.stepped d.state.pc)) (links_by (file_row f.program q.at))

  comes_back : (c : Place) → c.stack ≡ q.stack → (s : FrameStep) (w : Walk) → IsStep f k u q s w → BackStep f asked c s → Comes f contracts k u un q s w
  comes_back c same (Halts v) w h b = h
  comes_back c same (Breaks line) w h b = h
  comes_back c same (GoesTo d) w (inl (j, e, l, h)) b =
      let end = end_within f false q d.stack d.state.pc b.1 (not_call d (nat_lt (length q.stack) (length d.stack)) refl
      (ap (λ z. nat_lt (length z) (length d.stack)) (sym same) ∙ b.2)) in
      inl (j, content_of d.state, e, (l, h ∙ end, exact d b.0))
  comes_back c same (GoesTo d) w (inr (e, h)) b =
      let end = end_within f false q d.stack d.state.pc b.1 (not_call d (nat_lt (length q.stack) (length d.stack)) refl
      (ap (λ z. nat_lt (length z) (length d.stack)) (sym same) ∙ b.2)) in
      inr (e, sym (ap (λ z. z.turns) end) ∙ h)
  comes_back c same (Reaches d) w h b = (content_of d.state, h, exact d b)
  comes_back c same (Calls d) w h b = absurd h
  comes_back c same (Leaves s) w h b = absurd h

module _ (f : Frame) (lawful : HasLawfulRows f.program) (contracts : List Contract) (among : IsAmong f contracts) (k : ℕ)
    (u : UnrolledProgram) (un : IsUnrolling f contracts k u) (asked : ℕ → Bool) (asks : AsksLiterals f k asked) (r : Reading) (reading : IsReading r)
    (anchor : Anchor) where
  abbrev E : Endian
  E = f.program.machine.endian

  abbrev Same : Walk → Run → Type 0
  Same w x = IsSame f contracts u anchor w x

  abbrev Fits : Run → Type 0
  Fits x = Fit f asked r.state anchor k x

  -- the lines at an arrival
  arrival_same : (o : Option Check) (l : Option ℕ) (n at : ℕ) → SameLine f o l → Same (arrival_by o) (arrival f l n at)
  arrival_same None None n at h = tt
  arrival_same (Some x) (Some line) n at h = h
  arrival_same None (Some line) n at h = absurd h
  arrival_same (Some x) None n at h = absurd h

  cut_same : (next : State) (o : Option Check) (l : Option ℕ) (n at : ℕ) → SameLine f o l →
      Same (walk_to u r.state next (check_or o Cutting)) (arrival f l n at)
  cut_same next None None n at h = tt
  cut_same next (Some x) (Some line) n at h = h
  cut_same next None (Some line) n at h = absurd h
  cut_same next (Some x) None n at h = absurd h

  module _ (i n turns : ℕ) (c : Content) (d : Place) where
    abbrev q : UnrolledPoint
    q = point_at u i

    abbrev spot : Bool → Point
    spot contract = point_of anchor contract turns d

    its_point : (contract : Bool) → IsAt f contracts u i (spot contract) d.state c → IsPoint f k (spot contract)
    its_point contract h = subst (IsPoint f k) h.1 (a_point f contracts k u un i h.0)

    does_at : (contract : Bool) (h : IsAt f contracts u i (spot contract) d.state c) →
        DoesBy contract (is_cut f (spot contract)) f contracts k u i q
    does_at contract h =
        subst (λ z. DoesBy z.contract (is_cut f z) f contracts k u i q) h.1 (un.places i h.0).does

    at_row : IsAt f contracts u i (spot false) d.state c → Fits (Going turns n d) →
        Same (walk_on u r (WalkIsAt i c)) (read_on f k r anchor (Going turns n d))
    at_row h s =
        let is_point = its_point false h in
        let uncut : is_cut f (spot false) ≡ false = and_cut (is_entry anchor) (is_head f d.state.pc) (λ t. (s.1 t).0) in
        let does : DoesAddress f contracts k u i q (file_row f.program q.point.at)
        = subst (λ z. DoesBy false z f contracts k u i q) uncut (does_at false h) in
        subst (λ (z : Point). Same (walk_from u r.state q (r.choice z) (r.given z) c) (read_on f k r anchor (Going turns n d))) (sym h.1)
        (stepped f contracts k u un (spot false) (within f k (spot false) is_point) n
        (frame_step (by_file f) r.state d (r.choice (spot false))) (walk_from u r.state q (r.choice (spot false)) (r.given (spot false)) c)
        (row_step f lawful contracts among k u un r.state i anchor turns d.state d.stack is_point uncut asked asks s.0 (r.choice (spot false))
        (reading.choice (spot false)) (r.given (spot false)) c h.2 (λ t e. (s.1 t).1) q h.1 does))

    at_contract : IsAt f contracts u i (spot true) d.state c → Fits (Calling turns n d) →
        Same (walk_on u r (WalkIsAt i c)) (read_on f k r anchor (Calling turns n d))
    at_contract h s =
        let is_point = its_point true h in
        let G : Content = r.given (spot true) in
        let back = contract_back f asked G (reading.given (spot true)) r.state d s (point_words f k (spot true) is_point) in
        let walk = contract_step_is_walk f contracts k u un (among.places (stepped_some f k u i q (does_at true h))) among.stepped i h.0
        (ap (λ z. z.contract) h.1) d.state r.state c G (r.choice (spot true))
        (sym (ap (λ z. z.at) h.1)) h.2 in
        subst (λ (z : Point). Same (walk_from u r.state q (r.choice z) (r.given z) c) (read_on f k r anchor (Calling turns n d))) (sym h.1)
        (stepped f contracts k u un (spot true) (within f k (spot true) is_point) n (contract_step (by_file f) r.state d G)
        (walk_from u r.state q (r.choice (spot true)) G c)
        (subst (λ z. Comes f contracts k u un (spot true) z (walk_from u r.state q (r.choice (spot true)) G c)) (sym (contract_step_same f r.state d G))
        (comes_back f contracts k u un asked (spot true) d refl (contract_step f r.state d G) (walk_from u r.state q (r.choice (spot true)) G c)
        (subst (λ (z : Point). IsStep f k u z (contract_step f r.state (record { state = d.state; stack = z.stack }) G)
        (walk_from u r.state q (r.choice (spot true)) G c)) h.1 walk) back)))

    at_cut : (is_cut f (spot false) ≡ true) × IsAt f contracts u i (spot false) d.state c →
        Same (walk_on u r (WalkIsAt i c)) (read_on f k r anchor (Arriving turns n d))
    at_cut (cut, h) =
        let does : DoesCut f q = subst (λ z. DoesBy false z f contracts k u i q) cut (does_at false h) in
        let G : Content = r.given q.point in
        let sit : Situation = situation_at u r.state q (r.choice q.point) G c in
        let lines : SameLine f (false_check u.endian (checks_of f q.point) (content_at c q.point.at) r.state)
        (false_assert E f.program.notes.asserts d.state r.state) =
        subst (λ z. SameLine f (false_check u.endian (checks_of f z) (content_at c z.at) r.state) (false_assert E f.program.notes.asserts d.state r.state))
        (sym h.1)
        (subst (λ z. SameLine f (false_check z (checks_of f (spot false)) (content_at c d.state.pc) r.state)
        (false_assert E f.program.notes.asserts d.state r.state)) (sym un.endian)
        (at_point f contracts r.state d.state c h.2 (spot false) refl
        (λ t e. absurd (let x : true ≡ false = sym (and_both (is_entry anchor) (is_head f d.state.pc) cut).0 ∙ e in cc)))) in
        subst (λ z. Same (walk_to u r.state sit.next z) (arrival f (false_assert E f.program.notes.asserts d.state r.state) n d.state.pc))
        (sym (ap (first_aim u sit) does.1 ∙ checks_aim u sit (checks_of f q.point) (Always Cutting ∷ [])))
        (cut_same sit.next (false_check u.endian (checks_of f q.point) (content_at c q.point.at) r.state)
        (false_assert E f.program.notes.asserts d.state r.state) n d.state.pc lines)

  at_arrival : (at : ℕ) (checks : List Check) (c : Content) (t n : ℕ) (d : Place) → Same (WalkArrives at checks c) (Arriving t n d) →
      Same (walk_on u r (WalkArrives at checks c)) (read_on f k r anchor (Arriving t n d))
  at_arrival at checks c t n d h =
      arrival_same (false_check u.endian checks (content_at c at) r.state) (false_assert E f.program.notes.asserts d.state r.state) n d.state.pc
      (subst (λ z. SameLine f (false_check z checks (content_at c at) r.state) (false_assert E f.program.notes.asserts d.state r.state)) (sym un.endian)
      (subst (λ z. SameLine f (false_check E z (content_at c at) r.state) (false_assert E f.program.notes.asserts d.state r.state)) (sym h.1)
      (subst (λ z. SameLine f (false_check E (checks_at f d.state.pc) (content_at c z) r.state) (false_assert E f.program.notes.asserts d.state r.state))
      (sym h.0) (at_address f contracts r.state d.state c h.2))))

  -- one more step
  one : (w : Walk) (x : Run) → Same w x → Fits x → Same (walk_on u r w) (read_on f k r anchor x)
  one (WalkIsAt i c) (Going t n d) h s = at_row i n t c d h s
  one (WalkIsAt i c) (Calling t n d) h s = at_contract i n t c d h s
  one (WalkIsAt i c) (Arriving t n d) h s = at_cut i n t c d h
  one (WalkArrives at checks c) (Arriving t n d) h s = at_arrival at checks c t n d h
  one (WalkIsAt i c) (Exited a n) h s = absurd h
  one (WalkIsAt i c) (Failed y a n) h s = absurd h
  one (WalkIsAt i c) (Turned a n) h s = absurd h
  one (WalkIsAt i c) (Cut a n) h s = absurd h
  one (WalkIsAt i c) (Broken l a n) h s = absurd h
  one (WalkArrives at checks c) (Going t n d) h s = absurd h
  one (WalkArrives at checks c) (Calling t n d) h s = absurd h
  one (WalkArrives at checks c) (Exited a n) h s = absurd h
  one (WalkArrives at checks c) (Failed y a n) h s = absurd h
  one (WalkArrives at checks c) (Turned a n) h s = absurd h
  one (WalkArrives at checks c) (Cut a n) h s = absurd h
  one (WalkArrives at checks c) (Broken l a n) h s = absurd h
  one WalkExits (Going t n d) h s = absurd h
  one WalkExits (Arriving t n d) h s = absurd h
  one WalkExits (Calling t n d) h s = absurd h
  one WalkExits (Exited a n) h s = tt
  one WalkExits (Failed y a n) h s = absurd h
  one WalkExits (Turned a n) h s = absurd h
  one WalkExits (Cut a n) h s = absurd h
  one WalkExits (Broken l a n) h s = absurd h
  one (WalkFails v) (Going t n d) h s = absurd h
  one (WalkFails v) (Arriving t n d) h s = absurd h
  one (WalkFails v) (Calling t n d) h s = absurd h
  one (WalkFails v) (Exited a n) h s = absurd h
  one (WalkFails v) (Failed y a n) h s = h
  one (WalkFails v) (Turned a n) h s = absurd h
  one (WalkFails v) (Cut a n) h s = absurd h
  one (WalkFails v) (Broken l a n) h s = absurd h
  one WalkTurns (Going t n d) h s = absurd h
  one WalkTurns (Arriving t n d) h s = absurd h
  one WalkTurns (Calling t n d) h s = absurd h
  one WalkTurns (Exited a n) h s = absurd h
  one WalkTurns (Failed y a n) h s = absurd h
  one WalkTurns (Turned a n) h s = tt
  one WalkTurns (Cut a n) h s = absurd h
  one WalkTurns (Broken l a n) h s = absurd h
  one WalkIsCut (Going t n d) h s = absurd h
  one WalkIsCut (Arriving t n d) h s = absurd h
  one WalkIsCut (Calling t n d) h s = absurd h
  one WalkIsCut (Exited a n) h s = absurd h
  one WalkIsCut (Failed y a n) h s = absurd h
  one WalkIsCut (Turned a n) h s = absurd h
  one WalkIsCut (Cut a n) h s = tt
  one WalkIsCut (Broken l a n) h s = absurd h
  one WalkBreaks (Going t n d) h s = absurd h
  one WalkBreaks (Arriving t n d) h s = absurd h
  one WalkBreaks (Calling t n d) h s = absurd h
  one WalkBreaks (Exited a n) h s = absurd h
  one WalkBreaks (Failed y a n) h s = absurd h
  one WalkBreaks (Turned a n) h s = absurd h
  one WalkBreaks (Cut a n) h s = absurd h
  one WalkBreaks (Broken l a n) h s = tt

  over_fits : (o : Option ℕ) (n at : ℕ) → Fits (arrival f o n at)
  over_fits None n at = tt
  over_fits (Some line) n at = tt

  calling_point : (w : Walk) (t n : ℕ) (d : Place) → Same w (Calling t n d) → IsPoint f k (point_of anchor true t d)
  calling_point (WalkIsAt i c) t n d h = its_point i n t c d true h
  calling_point (WalkArrives at checks c) t n d h = absurd h
  calling_point WalkExits t n d h = absurd h
  calling_point (WalkFails v) t n d h = absurd h
  calling_point WalkTurns t n d h = absurd h
  calling_point WalkIsCut t n d h = absurd h
  calling_point WalkBreaks t n d h = absurd h

  fits_on : (w : Walk) (x : Run) → Same w x → Fits x → Fits (read_on f k r anchor x)
  fits_on w (Going t n d) h s =
      after_fits f asked r.state anchor k t n d.state.pc (frame_step (by_file f) r.state d (r.choice (point_of anchor false t d)))
      (row_fits f asked lawful r.state d (r.choice (point_of anchor false t d)) s.0)
  fits_on w (Calling t n d) h s =
      let G : Content = r.given (point_of anchor true t d) in
      let words = point_words f k (point_of anchor true t d) (calling_point w t n d h) in
      after_fits f asked r.state anchor k t n d.state.pc (contract_step (by_file f) r.state d G)
      (subst (FitStep f asked) (sym (contract_step_same f r.state d G))
      (fits_back f asked d (contract_step f r.state d G) (contract_back f asked G (reading.given (point_of anchor true t d)) r.state d s words)))
  fits_on w (Arriving t n d) h s = over_fits (false_assert E f.program.notes.asserts d.state r.state) n d.state.pc
  fits_on w (Exited a n) h s = tt
  fits_on w (Failed y a n) h s = tt
  fits_on w (Turned a n) h s = tt
  fits_on w (Cut a n) h s = tt
  fits_on w (Broken l a n) h s = tt

-- where the walk and the segment begin
module _ (f : Frame) (contracts : List Contract) (k : ℕ) (u : UnrolledProgram) (asked : ℕ → Bool) (r : Reading) (reading : IsReading r)
    (entry : IsEntryStateOver f.program asked r.state) (x : Root) where
  entry_exact : IsCarriedOf (λ n. IsRead f.program contracts n r.state.pc) r.state (content_of r.state)
  entry_exact = record { state = entry.state; regs = refl; mem = refl; flags = λ n h. refl }

  at_root : (anchor : Anchor) → IsRootOf f u x anchor → (point_at u x.place).point.anchor ≡ anchor
  at_root AtEntry root = ap (λ z. z.anchor) root.point
  at_root (AtHead stack a) root = ap (λ z. z.anchor) root.point

  begin_same : (anchor : Anchor) → IsRootOf f u x anchor → BeginsAt f asked r anchor →
      IsSame f contracts u anchor (root_walk u r x) (begins f r.state (origin_of r anchor))
  begin_same AtEntry root h =
      subst (λ z. IsSame f contracts u AtEntry (WalkIsAt x.place (root_content r z)) (begins f r.state None)) (sym (at_root AtEntry root))
      (by (is_head f r.state.pc) refl)
    where
      its : IsAt f contracts u x.place (record { anchor = AtEntry; turns = 0; contract = false; stack = []; at = r.state.pc }) r.state (content_of r.state)
      its = (
        root.place,
        root.point ∙ ap (λ z. record { anchor = AtEntry; turns = 0; contract = false; stack = []; at = z }) (sym entry.pc),
        entry_exact,
      )

      by : (b : Bool) → is_head f r.state.pc ≡ b → IsSame f contracts u AtEntry (WalkIsAt x.place (content_of r.state))
          (if b then Arriving 0 0 (record { state = r.state; stack = [] }) else Going 0 0 (record { state = r.state; stack = [] }))
      by true t = (t, its)
      by false t = its
  begin_same (AtHead stack a) root h =
      subst (λ z. IsSame f contracts u (AtHead stack a) (WalkIsAt x.place (root_content r z)) (begins f r.state (origin_of r (AtHead stack a))))
      (sym (at_root (AtHead stack a) root)) (
        root.place,
        root.point,
        record {
          state = record { pc = h.0.low; regs = reading.head.regs; flags = reading.head.flags; mem = reading.head.mem };
          regs = refl;
          mem = refl;
          flags = λ n h. refl;
        },
      )

  begin_fits : (anchor : Anchor) → BeginsAt f asked r anchor → Fit f asked r.state anchor k (begins f r.state (origin_of r anchor))
  begin_fits AtEntry h = by (is_head f r.state.pc) refl
    where
      by : (b : Bool) → is_head f r.state.pc ≡ b → Fit f asked r.state AtEntry k
          (if b then Arriving 0 0 (record { state = r.state; stack = [] }) else Going 0 0 (record { state = r.state; stack = [] }))
      by true t = tt
      by false t = (((λ a c l e q s. entry.bytes a c l e s), entry.state), λ s. absurd (let c : false ≡ true = sym t ∙ s in cc))
  begin_fits (AtHead stack a) h = (
    (
      (λ b c l e q s. h.1 (heads f a h.0.head) refl b c l e q s),
      record { pc = h.0.low; regs = reading.head.regs; flags = reading.head.flags; mem = reading.head.mem },
    ),
    λ s. (refl, h.0.invariants),
  )

module _ (f : Frame) (lawful : HasLawfulRows f.program) (contracts : List Contract) (among : IsAmong f contracts) (k : ℕ)
    (u : UnrolledProgram) (un : IsUnrolling f contracts k u) (asked : ℕ → Bool) (asks : AsksLiterals f k asked) (r : Reading) (reading : IsReading r)
    (entry : IsEntryStateOver f.program asked r.state) (x : Root) (anchor : Anchor) (root : IsRootOf f u x anchor) (begin : BeginsAt f asked r anchor) where
  both : (n : ℕ) → IsSame f contracts u anchor (walk_of u r x n) (read_run f k r anchor n) × Fit f asked r.state anchor k (read_run f k r anchor n)
  unfolding walk_of read_run
  both zero = (
    begin_same f contracts k u asked r reading entry x anchor root begin,
    begin_fits f contracts k u asked r reading entry x anchor begin,
  )
  both (suc n) =
      let h = both n in (
        one f lawful contracts among k u un asked asks r reading anchor (walk_of u r x n) (read_run f k r anchor n) h.0 h.1,
        fits_on f lawful contracts among k u un asked asks r reading anchor (walk_of u r x n) (read_run f k r anchor n) h.0 h.1,
      )

pub frame_walk_is_run : FrameWalkIsRun
frame_walk_is_run f lawful contracts among k u un asked asks r reading entry x anchor root is begin steps =
    (both f lawful contracts among k u un asked asks r reading entry x anchor root begin steps).0
