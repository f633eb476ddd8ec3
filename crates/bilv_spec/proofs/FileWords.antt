-- From an entry state a run executes the words of the file.
use Rattle.std.proofs.Common.{subst, ◌≡◌, ℕ, zero, suc, ◌+◌, ◌*◌, ◌^◌, ◌<◌, refl, ap, sym, ◌∙◌, arith, List, [], ◌∷◌, ◌++◌, Option, Some, None, Bool, true, false}
use Rattle.std.specs.Prelude.{Contains, ◌==◌, ◌&&◌, ◌||◌, not, nat_le, nat_eq, if◌then◌else◌}
use Rattle.std.specs.List.{list_any, list_all}
use Rattle.word_spec.specs.Words.{add, sub}
use Rattle.word_spec.specs.Memory.{Endian, Little, Big, number, load}
use Rattle.word_spec.specs.State.{State, IsState}
use Rattle.bilv_spec.specs.Elf.{Cell, kept, writable}
use Rattle.machine_spec.specs.Machine.{is_place, width, first_half, taken, offsets, Row, How, On, Direct, DirectCall, Indirect, IndirectCall, Outcome, Goes, Raises, addresses, pair_of}
use Rattle.machine_spec.specs.MachineLaws.{KeepsOthers, LeavesState}
use Rattle.bilv_spec.specs.Run.{Program, Run, Going, Exited, Failed, Turned, Place, Step, Stops, Arrives, Exits, in_memory, step, run, one_more, after_step, arrive, turn, named, is_named, some_of, targets_at, literal_target, row_at, exit_by, exit_or, return_or, allowed, transfer, aligned_transfer, going_on, after_row, by_row, by_fetch, after_asserts, false_line, false_assert, fetchable, all_kept, is_kept, is_executable, writes_kept}
use Rattle.machine_spec.specs.Endings.{Start}
use Rattle.bilv_spec.specs.Points.{file_number, file_word, file_row, byte_of_cell}
use Rattle.bilv_spec.specs.Verdict.{IsEntryState}
use Rattle.bilv_spec.specs.Questions.{by_file}
use Rattle.bilv_spec.specs.PointLaws.{HasLawfulRows, ReadsMemory}
use Rattle.bilv_spec.proofs.PointSteps.{and_both}

number_same : (e : Endian) (f g : ℕ → ℕ) → f 0 ≡ g 0 → f 1 ≡ g 1 → f 2 ≡ g 2 → f 3 ≡ g 3 → number e 4 f ≡ number e 4 g
number_same Little f g a b c d = rw (a, b, c, d) refl
number_same Big f g a b c d = rw (a, b, c, d) refl

-- the kept bytes that are asked are those of the file
abbrev pub Agrees : Program → (ℕ → Bool) → State → Type 0
Agrees p asked s = (a : ℕ) (c : Cell) → a < 2 ^ 32 → p.loaded a ≡ Some c → kept c ≡ true → asked a ≡ true → s.mem a ≡ c.byte

abbrev pub every : ℕ → Bool
every a = true

module _ (p : Program) (asked : ℕ → Bool) (s : State) (agrees : Agrees p asked s) where
  byte_by : (o : Option Cell) (a : ℕ) → a < 2 ^ 32 → p.loaded a ≡ o → is_kept o ≡ true → asked a ≡ true → s.mem a ≡ byte_of_cell o
  byte_by None a l e h q = absurd (let c : false ≡ true = h in cc)
  byte_by (Some c) a l e h q = agrees a c l e h q

  byte_same : (a i : ℕ) → asked (add 32 a i) ≡ true → is_kept (p.loaded (add 32 a i)) ≡ true → s.mem (add 32 a i) ≡ byte_of_cell (p.loaded (add 32 a i))
  byte_same a i q h = byte_by (p.loaded (add 32 a i)) (add 32 a i) (omega arith) refl h q

  -- a number of four kept bytes is the file's
  pub kept_number : (a : ℕ) → ((i : ℕ) → i < 4 → asked (add 32 a i) ≡ true) → all_kept p a ≡ true → load p.machine.endian 4 s.mem a ≡ file_number p a
  kept_number a asks h =
      let k : ℕ → Bool = λ i. is_kept (p.loaded (add 32 a i)) in
      let h0 = and_both (k 0) (list_all k (1 ∷ 2 ∷ 3 ∷ [])) h in
      let h1 = and_both (k 1) (list_all k (2 ∷ 3 ∷ [])) h0.1 in
      let h2 = and_both (k 2) (list_all k (3 ∷ [])) h1.1 in
      let h3 = and_both (k 3) (list_all k []) h2.1 in
      number_same p.machine.endian (λ i. s.mem (add 32 a i)) (λ i. byte_of_cell (p.loaded (add 32 a i)))
      (byte_same a 0 (asks 0 (omega arith)) h0.0) (byte_same a 1 (asks 1 (omega arith)) h1.0)
      (byte_same a 2 (asks 2 (omega arith)) h2.0) (byte_same a 3 (asks 3 (omega arith)) h3.0)

  -- and so is what is decoded of them
  pub kept_word : (a : ℕ) → ((i : ℕ) → i < 4 → asked (add 32 a i) ≡ true) → all_kept p a ≡ true → in_memory p.machine s a ≡ file_word p a
  kept_word a asks h = ap (taken p.machine.narrow) (kept_number a asks h)

-- each byte of four that are kept
pub all_kept_at : (p : Program) (a i : ℕ) → all_kept p a ≡ true → i < 4 → is_kept (p.loaded (add 32 a i)) ≡ true
all_kept_at p a i h l =
    let k : ℕ → Bool = λ i. is_kept (p.loaded (add 32 a i)) in
    let h0 = and_both (k 0) (list_all k (1 ∷ 2 ∷ 3 ∷ [])) h in
    let h1 = and_both (k 1) (list_all k (2 ∷ 3 ∷ [])) h0.1 in
    let h2 = and_both (k 2) (list_all k (3 ∷ [])) h1.1 in
    let h3 = and_both (k 3) (list_all k []) h2.1 in
    by i l h0.0 h1.0 h2.0 h3.0
  where
    by : (i : ℕ) → i < 4 → is_kept (p.loaded (add 32 a 0)) ≡ true → is_kept (p.loaded (add 32 a 1)) ≡ true → is_kept (p.loaded (add 32 a 2)) ≡ true →
        is_kept (p.loaded (add 32 a 3)) ≡ true →
        is_kept (p.loaded (add 32 a i)) ≡ true
    by zero l a b c d = a
    by (suc zero) l a b c d = b
    by (suc (suc zero)) l a b c d = c
    by (suc (suc (suc zero))) l a b c d = d
    by (suc (suc (suc (suc i)))) l a b c d = absurd (omega arith)

executable_kept : (o : Option Cell) → is_executable o ≡ true → is_kept o ≡ true
executable_kept None h = absurd (let c : false ≡ true = h in cc)
executable_kept (Some c) h = ap (λ z. z || not (writable c.flags)) h

four_kept : (p : Program) (a : ℕ) → list_all (λ i. is_executable (p.loaded (add 32 a i))) (0 ∷ 1 ∷ 2 ∷ 3 ∷ []) ≡ true → all_kept p a ≡ true
four_kept p a h =
    let k : ℕ → Bool = λ i. is_executable (p.loaded (add 32 a i)) in
    let h0 = and_both (k 0) (list_all k (1 ∷ 2 ∷ 3 ∷ [])) h in
    let h1 = and_both (k 1) (list_all k (2 ∷ 3 ∷ [])) h0.1 in
    let h2 = and_both (k 2) (list_all k (3 ∷ [])) h1.1 in
    let h3 = and_both (k 3) (list_all k []) h2.1 in
    let one : (i : ℕ) → k i ≡ true → is_kept (p.loaded (add 32 a i)) ≡ true = λ i e. executable_kept (p.loaded (add 32 a i)) e in
    rw (one 0 h0.0, one 1 h1.0, one 2 h2.0, one 3 h3.0) refl

-- what is decoded of a word begins as the word does
pub half_of_taken : (n : Bool) (w : ℕ) → first_half (taken n w) ≡ first_half w
half_of_taken n w = by_width (width n (first_half w) == 2)
  where
    by_width : (b : Bool) → first_half (if b then first_half w else w) ≡ first_half w
    by_width true = omega arith
    by_width false = refl

-- the first two bytes are the low half of a word whose lowest byte stands first
pub low_half : (f : ℕ → ℕ) → first_half (number Little 4 f) ≡ first_half (f 0 + f 1 * 256)
low_half f = omega arith

module _ (p : Program) (memory : ReadsMemory p) (s : State) (agrees : Agrees p every s) where
  abbrev in_state : ℕ → ℕ
  in_state a = number p.machine.endian 4 (λ i. s.mem (add 32 a i))

  abbrev in_file : ℕ → ℕ
  in_file a = number p.machine.endian 4 (λ i. byte_of_cell (p.loaded (add 32 a i)))

  abbrev executes : ℕ → ℕ → Bool
  executes a i = is_executable (p.loaded (add 32 a i))

  -- of rows of 2 bytes, the first halfword is that of the file where its bytes are executable
  half_same : (a : ℕ) → p.machine.narrow ≡ true → executes a 0 ≡ true → executes a 1 ≡ true → first_half (in_state a) ≡ first_half (in_file a)
  half_same a n e0 e1 =
      subst (λ (e : Endian). first_half (number e 4 (λ i. s.mem (add 32 a i))) ≡ first_half (number e 4 (λ i. byte_of_cell (p.loaded (add 32 a i)))))
      (sym (memory.little n))
      (low_half (λ i. s.mem (add 32 a i))
      ∙ (ap (λ b. first_half (b + s.mem (add 32 a 1) * 256)) (byte_same p every s agrees a 0 refl (executable_kept (p.loaded (add 32 a 0)) e0))
      ∙ (ap (λ b. first_half (byte_of_cell (p.loaded (add 32 a 0)) + b * 256))
      (byte_same p every s agrees a 1 refl (executable_kept (p.loaded (add 32 a 1)) e1))
      ∙ sym (low_half (λ i. byte_of_cell (p.loaded (add 32 a i)))))))

  abbrev fetched : Bool → ℕ → ℕ → Bool
  fetched n w a = list_all (executes a) (offsets (width n (first_half w)))

  -- the offsets after the first two
  abbrev rest : ℕ → List ℕ
  rest w = if width true (first_half w) == 2 then [] else 2 ∷ 3 ∷ []

  fetched_by : (a : ℕ) (n : Bool) → p.machine.narrow ≡ n → fetched n (taken n (in_state a)) a ≡ fetched n (taken n (in_file a)) a
  fetched_by a false e = refl
  fetched_by a true e = by_two (executes a 0) (executes a 1) refl refl
    where
      by_two : (x y : Bool) → executes a 0 ≡ x → executes a 1 ≡ y → fetched true (taken true (in_state a)) a ≡ fetched true (taken true (in_file a)) a
      by_two true true e0 e1 =
          ap (λ h. list_all (executes a) (offsets (width true h)))
          (half_of_taken true (in_state a) ∙ (half_same a e e0 e1 ∙ sym (half_of_taken true (in_file a))))
      by_two true false e0 e1 =
          ap (λ (b : Bool). executes a 0 && (b && list_all (executes a) (rest (taken true (in_state a))))) e1
          ∙ sym (ap (λ (b : Bool). executes a 0 && (b && list_all (executes a) (rest (taken true (in_file a))))) e1)
      by_two false y e0 e1 =
          ap (λ (b : Bool). b && (executes a 1 && list_all (executes a) (rest (taken true (in_state a))))) e0
          ∙ sym (ap (λ (b : Bool). b && (executes a 1 && list_all (executes a) (rest (taken true (in_file a))))) e0)

  fetch_same_at : (a : ℕ) → fetchable p (p.word s a) a ≡ fetchable p (file_word p a) a
  fetch_same_at a = ap (λ w. fetchable p w a) (memory.word s a) ∙ fetched_by a p.machine.narrow refl

  word_same : (a : ℕ) → all_kept p a ≡ true → p.word s a ≡ file_word p a
  word_same a h = memory.word s a ∙ kept_word p every s agrees a (λ i l. refl) h

  taken_by : (a : ℕ) (n : Bool) → p.machine.narrow ≡ n → fetched n (taken n (in_file a)) a ≡ true → taken n (in_state a) ≡ taken n (in_file a)
  taken_by a false e h = ap (λ (n : Bool). taken n (in_state a)) (sym e) ∙ (kept_word p every s agrees a (λ i l. refl) (four_kept p a h) ∙ ap (λ (n : Bool). taken n (in_file a)) e)
  taken_by a true e h = by_width (width true (first_half (in_file a)) == 2) refl
    where
      firsts : (executes a 0 ≡ true) × (executes a 1 ≡ true)
      firsts =
          let h0 = and_both (executes a 0) (list_all (executes a) (1 ∷ (rest (taken true (in_file a))))) h in
          let h1 = and_both (executes a 1) (list_all (executes a) (rest (taken true (in_file a)))) h0.1 in
          (h0.0, h1.0)

      halves : first_half (in_state a) ≡ first_half (in_file a)
      halves = half_same a e firsts.0 firsts.1

      by_width : (b : Bool) → (width true (first_half (in_file a)) == 2) ≡ b → taken true (in_state a) ≡ taken true (in_file a)
      by_width true t =
          ap (λ (b : Bool). if b then first_half (in_state a) else in_state a) (ap (λ h. width true h == 2) halves ∙ t)
          ∙ (halves ∙ sym (ap (λ (b : Bool). if b then first_half (in_file a) else in_file a) t))
      by_width false t =
          let same : (width true (first_half (taken true (in_file a))) == 2) ≡ false = ap (λ h. width true h == 2) (half_of_taken true (in_file a)) ∙ t in
          let four = sym (ap (λ (b : Bool). list_all (executes a) (0 ∷ 1 ∷ (if b then [] else 2 ∷ 3 ∷ []))) same) ∙ h in
          ap (λ (n : Bool). taken n (in_state a)) (sym e) ∙ (kept_word p every s agrees a (λ i l. refl) (four_kept p a four) ∙ ap (λ (n : Bool). taken n (in_file a)) e)

  fetched_word : (a : ℕ) → fetchable p (file_word p a) a ≡ true → p.word s a ≡ file_word p a
  fetched_word a h = memory.word s a ∙ taken_by a p.machine.narrow refl h

  row_by : (a : ℕ) (b : Bool) → fetchable p (file_word p a) a ≡ b →
      (if b then p.machine.row (p.word s a) else None) ≡ (if b then p.machine.row (file_word p a) else None)
  row_by a false e = refl
  row_by a true e = ap p.machine.row (fetched_word a e)

  -- the row in memory is the file's
  pub row_same : (a : ℕ) → row_at p (p.word s) a ≡ file_row p a
  row_same a =
      ap (λ (b : Bool). if b then p.machine.row (p.word s a) else None) (fetch_same_at a) ∙ row_by a (fetchable p (file_word p a) a) refl

  literal_by : (a : ℕ) (b : Bool) → all_kept p a ≡ b → (if b then p.word s a ∷ [] else []) ≡ (if b then file_word p a ∷ [] else [])
  literal_by a false e = refl
  literal_by a true e = ap (λ z. z ∷ []) (word_same a e)

  literal_same : (o : Option ℕ) → literal_target p (p.word s) o ≡ literal_target p (file_word p) o
  literal_same None = refl
  literal_same (Some a) = literal_by a (all_kept p a) refl

  named_same : (row : Row) (at : ℕ) → named p (p.word s) row at ≡ named p (file_word p) row at
  named_same row at =
      ap (λ z. targets_at p.notes.targets at ++ some_of (pair_of z (Some row) at) ++ literal_target p (p.word s) (row.literal at)) (row_same (sub 32 at 4))
      ∙ ap (λ z. targets_at p.notes.targets at ++ some_of (pair_of (row_at p (file_word p) (sub 32 at 4)) (Some row) at) ++ z) (literal_same (row.literal at))

  is_named_same : (row : Row) (to : ℕ) → is_named p s row to ≡ is_named (by_file p) s row to
  is_named_same row to = ap (list_any (nat_eq to)) (named_same row s.pc)

  module _ (entry : State) (row : Row) (new : State) where
    return_same : (b : Bool) (top : ℕ) (below : List ℕ) → return_or b top below new (is_named p s row new.pc)
        ≡ return_or b top below new (is_named (by_file p) s row new.pc)
    return_same b top below = ap (return_or b top below new) (is_named_same row new.pc)

    exit_same : (b : Bool) → exit_or b p entry new (is_named p s row new.pc) ≡ exit_or b (by_file p) entry new (is_named (by_file p) s row new.pc)
    exit_same true = refl
    exit_same false = ap (λ z. allowed z (record { state = new; stack = [] })) (is_named_same row new.pc)

    transfer_same : (how : How) (stack : List ℕ) → transfer p entry row s stack how new ≡ transfer (by_file p) entry row s stack how new
    transfer_same On stack = refl
    transfer_same Direct stack = refl
    transfer_same DirectCall stack = refl
    transfer_same Indirect [] = exit_same (new.pc == entry.regs p.machine.link)
    transfer_same Indirect (top ∷ below) = return_same (new.pc == top) top below
    transfer_same IndirectCall stack = ap (λ z. allowed z (record { state = new; stack = add 32 s.pc row.length ∷ stack })) (is_named_same row new.pc)

    aligned_same : (b : Bool) (how : How) (stack : List ℕ) → aligned_transfer b p entry row s stack how new
        ≡ aligned_transfer b (by_file p) entry row s stack how new
    aligned_same true how stack = transfer_same how stack
    aligned_same false how stack = refl

    going_same : (writes : Bool) (how : How) (stack : List ℕ) →
        going_on writes p entry row s stack how new ≡ going_on writes (by_file p) entry row s stack how new
    going_same true how stack = refl
    going_same false how stack = aligned_same (is_place p.machine.narrow new.pc) how stack

  outcome_same : (entry : State) (row : Row) (stack : List ℕ) (writes : Bool) (o : Outcome) →
      after_row p entry row s stack writes o ≡ after_row (by_file p) entry row s stack writes o
  outcome_same entry row stack writes (Raises e) = refl
  outcome_same entry row stack writes (Goes how new) = going_same entry row new writes how stack

  by_row_same : (entry : State) (stack : List ℕ) (choice : ℕ) (o : Option Row) →
      by_row p entry (record { state = s; stack = stack }) choice o ≡ by_row (by_file p) entry (record { state = s; stack = stack }) choice o
  by_row_same entry stack choice None = refl
  by_row_same entry stack choice (Some row) = outcome_same entry row stack (writes_kept p row s) (row.effect s choice)

  fetch_same : (entry : State) (stack : List ℕ) (choice : ℕ) (b : Bool) → fetchable p (file_word p s.pc) s.pc ≡ b →
      by_fetch b p entry (record { state = s; stack = stack }) choice ≡ by_fetch b (by_file p) entry (record { state = s; stack = stack }) choice
  fetch_same entry stack choice false e = refl
  fetch_same entry stack choice true e =
      ap (λ z. by_row p entry (record { state = s; stack = stack }) choice (p.machine.row z)) (fetched_word s.pc e)
      ∙ by_row_same entry stack choice (p.machine.row (file_word p s.pc))

  asserts_same : (entry : State) (stack : List ℕ) (choice : ℕ) (o : Option ℕ) →
      after_asserts o p entry (record { state = s; stack = stack }) choice ≡ after_asserts o (by_file p) entry (record { state = s; stack = stack }) choice
  asserts_same entry stack choice (Some line) = refl
  asserts_same entry stack choice None =
      ap (λ (b : Bool). by_fetch b p entry (record { state = s; stack = stack }) choice) (fetch_same_at s.pc)
      ∙ fetch_same entry stack choice (fetchable p (file_word p s.pc) s.pc) refl

  pub step_same : (entry : State) (stack : List ℕ) (choice : ℕ) →
      step p entry (record { state = s; stack = stack }) choice ≡ step (by_file p) entry (record { state = s; stack = stack }) choice
  step_same entry stack choice = asserts_same entry stack choice (false_assert p.machine.endian p.notes.asserts s entry)

-- a step that arrives, arrives in a state of which something is true
abbrev pub ArrivesIn : (State → Type 0) → Step → Type 0
ArrivesIn P (Arrives c) = P c.state
ArrivesIn P (Exits s) = Unit {0}
ArrivesIn P (Stops e) = Unit {0}

module _ (P : State → Type 0) (p : Program) (entry : State) (row : Row) (old new : State) (h : P new) where
  allowed_in : (b : Bool) (stack : List ℕ) → ArrivesIn P (allowed b (record { state = new; stack = stack }))
  allowed_in true stack = h
  allowed_in false stack = tt

  exit_in : (o : Option ℕ) → ArrivesIn P (exit_by o new)
  exit_in None = tt
  exit_in (Some line) = tt

  exit_or_in : (b n : Bool) → ArrivesIn P (exit_or b p entry new n)
  exit_or_in true n = exit_in (false_line p.machine.endian p.notes.ensures new entry)
  exit_or_in false n = allowed_in n []

  return_in : (b n : Bool) (top : ℕ) (below : List ℕ) → ArrivesIn P (return_or b top below new n)
  return_in true n top below = h
  return_in false n top below = allowed_in n (top ∷ below)

  transfer_in : (how : How) (stack : List ℕ) → ArrivesIn P (transfer p entry row old stack how new)
  transfer_in On stack = h
  transfer_in Direct stack = h
  transfer_in DirectCall stack = h
  transfer_in Indirect [] = exit_or_in (new.pc == entry.regs p.machine.link) (is_named p old row new.pc)
  transfer_in Indirect (top ∷ below) = return_in (new.pc == top) (is_named p old row new.pc) top below
  transfer_in IndirectCall stack = allowed_in (is_named p old row new.pc) (add 32 old.pc row.length ∷ stack)

  pub aligned_in : (b : Bool) (how : How) (stack : List ℕ) → ArrivesIn P (aligned_transfer b p entry row old stack how new)
  aligned_in true how stack = transfer_in how stack
  aligned_in false how stack = tt

-- an address that is kept is not among those that no kept byte is among
kept_not_in : (p : Program) (places : List ℕ) (a : ℕ) → list_any (λ x. is_kept (p.loaded x)) places ≡ false → is_kept (p.loaded a) ≡ true → ¬ Contains places a
kept_not_in p [] a h k (i, l, e) = absurd (omega arith)
kept_not_in p (x ∷ xs) a h k (zero, l, e) =
    let t : is_kept (p.loaded x) ≡ true = ap (λ z. is_kept (p.loaded z)) e ∙ k in
    let f : true ≡ false = ap (λ z. z || list_any (λ x. is_kept (p.loaded x)) xs) (sym t) ∙ h in
    absurd (cc)
kept_not_in p (x ∷ xs) a h k (suc i, l, e) = kept_not_in p xs a (rest (is_kept (p.loaded x)) (list_any (λ x. is_kept (p.loaded x)) xs) h) k (i, omega arith, e)
  where
    rest : (b c : Bool) → (b || c) ≡ false → c ≡ false
    rest true c h = absurd (let q : true ≡ false = h in cc)
    rest false c h = h

-- a state whose kept bytes that are asked are the file's
abbrev pub Sound : Program → (ℕ → Bool) → State → Type 0
Sound p asked s = Agrees p asked s × IsState s

module _ (p : Program) (asked : ℕ → Bool) (row : Row) (entry old : State) (stack : List ℕ) (sound : Sound p asked old) where
  agrees_on : (new : State) → list_any (λ a. is_kept (p.loaded a)) (addresses (row.stored old)) ≡ false →
      ((a : ℕ) → a < 2 ^ 32 → (Contains (addresses (row.stored old)) a → ⊥) → new.mem a ≡ old.mem a) → Agrees p asked new
  agrees_on new free others a c l e k q =
      others a l (kept_not_in p (addresses (row.stored old)) a free (ap is_kept e ∙ k)) ∙ sound.0 a c l e k q

  going_in : (writes : Bool) (how : How) (new : State) → list_any (λ a. is_kept (p.loaded a)) (addresses (row.stored old)) ≡ writes →
      KeepsOthers (addresses (row.stored old)) old (Goes how new) → IsState new → ArrivesIn (Sound p asked) (going_on writes p entry row old stack how new)
  going_in true how new e others ok = tt
  going_in false how new e others ok = aligned_in (Sound p asked) p entry row old new (agrees_on new e others, ok) (is_place p.machine.narrow new.pc) how stack

  row_in : (o : Outcome) → KeepsOthers (addresses (row.stored old)) old o → LeavesState o →
      ArrivesIn (Sound p asked) (after_row p entry row old stack (writes_kept p row old) o)
  row_in (Raises e) others ok = tt
  row_in (Goes how new) others ok = going_in (writes_kept p row old) how new refl others ok

module _ (p : Program) (asked : ℕ → Bool) (lawful : HasLawfulRows p) (entry : State) (c : Place) (choice : ℕ) (sound : Sound p asked c.state) where
  by_row_in : (o : Option Row) → file_row p c.state.pc ≡ o → ArrivesIn (Sound p asked) (by_row (by_file p) entry c choice o)
  by_row_in None e = tt
  by_row_in (Some row) e =
      let law = lawful c.state.pc row e in
      row_in (by_file p) asked row entry c.state c.stack sound (row.effect c.state choice) (law.stored c.state choice sound.1)
      (law.states c.state choice sound.1)

  by_fetch_in : (b : Bool) → fetchable p (file_word p c.state.pc) c.state.pc ≡ b → ArrivesIn (Sound p asked) (by_fetch b (by_file p) entry c choice)
  by_fetch_in false e = tt
  by_fetch_in true e = by_row_in (p.machine.row (file_word p c.state.pc)) (ap (λ z. if z then p.machine.row (file_word p c.state.pc) else None) e)

  after_asserts_in : (o : Option ℕ) → ArrivesIn (Sound p asked) (after_asserts o (by_file p) entry c choice)
  after_asserts_in (Some line) = tt
  after_asserts_in None = by_fetch_in (fetchable p (file_word p c.state.pc) c.state.pc) refl

  pub step_in : ArrivesIn (Sound p asked) (step (by_file p) entry c choice)
  step_in = after_asserts_in (false_assert p.machine.endian p.notes.asserts c.state entry)

-- a run that goes on stands in a state of which something is true
module _ (P : State → Type 0) (k : ℕ) where
  abbrev pub Standing : Run → Type 0
  Standing (Going turns n c) = P c.state
  Standing x = Unit {0}

  turned : (b : Bool) (turns n at : ℕ) (c : Place) → P c.state → Standing (turn b turns n at c)
  turned true turns n at c h = tt
  turned false turns n at c h = h

  arrived : (b : Bool) (turns n at : ℕ) (c : Place) → P c.state → Standing (arrive b k turns n at c)
  arrived false turns n at c h = h
  arrived true turns n at c h = turned (turns == k) turns n at c h

  pub stepped_in : (turns n at : ℕ) (s : Step) → ArrivesIn P s → Standing (after_step k turns n at s)
  stepped_in turns n at (Stops e) h = tt
  stepped_in turns n at (Exits s) h = tt
  stepped_in turns n at (Arrives c) h = arrived (nat_le c.state.pc at) turns n at c h

module _ (p : Program) (lawful : HasLawfulRows p) (memory : ReadsMemory p) (k : ℕ) (start : Start) (is : IsEntryState p start.state) where
  abbrev Stands : Run → Type 0
  Stands = Standing (Sound p every) k

  one : (x : Run) → Stands x → Stands (one_more (by_file p) k start x)
  one (Going turns n c) h = stepped_in (Sound p every) k turns n c.state.pc (step (by_file p) start.state c (start.choices n))
      (step_in p every lawful start.state c (start.choices n) h)
  one (Exited at n) h = tt
  one (Failed e at n) h = tt
  one (Turned at n) h = tt

  stands : (n : ℕ) → Stands (run (by_file p) k start n)
  unfolding run
  stands zero = ((λ a c l e k q. is.kept_bytes a c l e k), is.state)
  stands (suc n) = one (run (by_file p) k start n) (stands n)

  more_same : (x : Run) → Stands x → one_more p k start x ≡ one_more (by_file p) k start x
  more_same (Going turns n c) h = ap (after_step k turns n c.state.pc) (step_same p memory c.state h.0 start.state c.stack (start.choices n))
  more_same (Exited at n) h = refl
  more_same (Failed e at n) h = refl
  more_same (Turned at n) h = refl

  run_same : (n : ℕ) → run p k start n ≡ run (by_file p) k start n
  unfolding run
  run_same zero = refl
  run_same (suc n) = ap (one_more p k start) (run_same n) ∙ more_same (run (by_file p) k start n) (stands n)

pub runs_by_file : (p : Program) → HasLawfulRows p → ReadsMemory p → (k : ℕ) (start : Start) → IsEntryState p start.state →
    (steps : ℕ) → run p k start steps ≡ run (by_file p) k start steps
runs_by_file p lawful memory k start is steps = run_same p lawful memory k start is steps
