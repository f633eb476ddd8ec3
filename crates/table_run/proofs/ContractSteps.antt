-- Contract steps of a frame, by what is judged of them.
use Rattle.std.proofs.Common.{◌≡◌, ℕ, zero, suc, ◌-◌, ◌^◌, ◌<◌, ◌≤◌, List, [], ◌∷◌, ◌++◌, length, get_or, take, Bool, true, false, Option, Some, None, refl, sym, ap, ◌∙◌, subst, arith}
use Rattle.std.specs.Prelude.{◌==◌, ◌&&◌, All, is_some, nat_eq, nat_lt, not, reverse, if◌then◌else◌}
use Rattle.std.specs.List.{list_any, list_all}
use Rattle.std.proofs.lemmas.Bool.Decides.{nat_tests}
use Rattle.std.proofs.lemmas.List.{reverse-append}
use Rattle.word_spec.specs.Words.{word}
use Rattle.word_spec.specs.Memory.{Endian, byte_in}
use Rattle.word_spec.specs.State.{State, IsState}
use Rattle.machine_spec.specs.Endings.{CodeWritten}
use Rattle.machine_spec.specs.StateText.{Layout}
use Rattle.bilv_spec.specs.Elf.{is_kept}
use Rattle.bilv_spec.specs.Notes.{Assert, NoteLine}
use Rattle.bilv_spec.specs.Run.{Program, Place, false_line}
use Rattle.bilv_spec.proofs.FileWords.{Sound, every}
use Rattle.frame_spec.proofs.ByFile.{sound_after}
use Rattle.frame_spec.specs.Frames.{Content, Contract, IsContent, Frame, OfStep, NeedsFails, WritesFails, contract_at, invariants_of, is_head, is_outside, written}
use Rattle.frame_spec.specs.FrameRuns.{FrameStep, Halts, GoesTo, Breaks, Reaches, Calls, contract_step, contract_by, is_contract_call, lands, links_by, needs_by, returns_by, row_of_place, state_after, writes_by}
use Rattle.frame_spec.specs.FrameReports.{WrittenCall, given_by, value_in}
use Rattle.frame_texts_spec.specs.CallReplays.{WrongAt, is_block_of, may_write_by, wrong_by}
use Rattle.bilv_spec.proofs.PointSteps.{same_number}
use Rattle.model_spec.proofs.Alike.{lines_same}
use Rattle.notes_value.specs.FrameViews.{contract_of}
use Rattle.notes_value.specs.Reads.{IsReadableContract}
use Rattle.notes_value.specs.declared.notes.Contract.{Contract as CodeContract}
use Rattle.table_run.specs.Spans.{bytes_of, has_other}
use Rattle.table_run.specs.declared.ending.CalledStepEnd.{CalledStepEnd}
use Rattle.table_run.specs.declared.frame.Own.{Own}
use Rattle.table_run.specs.CalledFrames.{IsAt, IsBlock, IsContractEnd, IsGift, IsOwnAt, IsSeenAs, called_frame, changed_by, own_of}

-- ---- heads

none_there : (p : Program) (stepped : List Contract) (own : Option Contract) (l : List Assert) → invariants_of (called_frame p stepped own) l ≡ []
none_there p stepped own [] = refl
none_there p stepped own (a ∷ rest) = none_there p stepped own rest

-- a frame without invariants has no head
pub no_head : (p : Program) (stepped : List Contract) (own : Option Contract) (at : ℕ) → is_head (called_frame p stepped own) at ≡ false
no_head p stepped own at = ap (list_any (λ (x : Assert). x.at == at)) (none_there p stepped own p.notes.asserts)

-- ---- lines over states that no machine can tell apart

pub lines_seen : (e : Endian) (lines : List NoteLine) (s now entry : State) → IsSeenAs s now → false_line e lines s entry ≡ false_line e lines now entry
lines_seen e lines s now entry seen =
    lines_same (λ a. Unit {0}) e s entry now.mem entry.mem (λ a low h. seen.mem a low) (λ a low h. refl) lines (λ a i. tt)
    ∙ ap (λ z. false_line e lines z entry) (sym seen.rest)

-- ---- a contract step

not_deeper : (a b : Bool) (n : ℕ) → (a && nat_lt (suc n) n && b) ≡ false
not_deeper true b n = let no_more : nat_lt (suc n) n ≡ false = grind (arith, nat_tests) in ap (λ z. z && b) no_more
not_deeper false b n = refl

module _ (p : Program) (stepped : List Contract) (own : Option Contract) (s : State) (to : ℕ) (below : List ℕ) where
  abbrev f : Frame
  f = called_frame p stepped own

  abbrev c : Place
  c = record { state = s; stack = to ∷ below }

  -- the return from it is no call
  pub lands_back : (t : State) → lands f c (record { state = t; stack = below }) ≡ GoesTo (record { state = t; stack = below })
  lands_back t =
      let d : Place = record { state = t; stack = below } in
      ap (λ b. if b then Reaches d else if is_contract_call f c d then Calls d else GoesTo d) (no_head p stepped own t.pc)
      ∙ ap (λ b. if b then Calls d else GoesTo d) (not_deeper (is_some (contract_at stepped t.pc)) (links_by (row_of_place f c)) (length below))

  pub goes_back : (o : Option ℕ) (t : State) → o ≡ None → returns_by o f c (record { state = t; stack = below }) ≡ GoesTo (record { state = t; stack = below })
  goes_back o t none = ap (λ (z : Option ℕ). returns_by z f c (record { state = t; stack = below })) none ∙ lands_back t

  -- without its block
  pub no_block : (o : Option ℕ) (t : State) (n : ℕ) → wrong_by (returns_by o f c (record { state = t; stack = below })) false n ≡ Some (WrongAt n)
  no_block (Some line) t n = refl
  no_block None t n = ap (λ x. wrong_by x false n) (lands_back t)

  module _ (entry : State) (x : Contract) (g : Content) (stack : List ℕ) (found : contract_at stepped s.pc ≡ Some x) (stacked : stack ≡ to ∷ below) where
    abbrev e : Endian
    e = p.machine.endian

    abbrev made : FrameStep
    made = contract_step f entry (record { state = s; stack = stack }) g

    abbrev back : Place
    back = record { state = state_after f x s to g; stack = below }

    by_needs : made ≡ needs_by (false_line e x.needs s s) f entry x c back
    by_needs = ap (λ (o : Option Contract). contract_by o f entry s stack g) found ∙ ap (λ l. contract_by (Some x) f entry s l g) stacked

    pub needs_fail : (line : ℕ) → Some line ≡ false_line e x.needs s s → made ≡ Halts (NeedsFails line)
    needs_fail line is = by_needs ∙ ap (λ (o : Option ℕ). needs_by o f entry x c back) (sym is)

    module _ (needs : None ≡ false_line e x.needs s s) where
      by_writes : made ≡ writes_by (list_any (λ a. is_kept (p.loaded a)) (written e x.writes s)) (is_outside own e entry (written e x.writes s)) f x c back
      by_writes = by_needs ∙ ap (λ (o : Option ℕ). needs_by o f entry x c back) (sym needs)

      pub code_written : true ≡ list_any (λ a. is_kept (p.loaded a)) (written e x.writes s) → made ≡ Halts (OfStep CodeWritten)
      code_written kept = by_writes ∙ ap (λ b. writes_by b (is_outside own e entry (written e x.writes s)) f x c back) (sym kept)

      module _ (kept : false ≡ list_any (λ a. is_kept (p.loaded a)) (written e x.writes s)) where
        by_own : made ≡ writes_by false (is_outside own e entry (written e x.writes s)) f x c back
        by_own = by_writes ∙ ap (λ b. writes_by b (is_outside own e entry (written e x.writes s)) f x c back) (sym kept)

        pub writes_fail : true ≡ is_outside own e entry (written e x.writes s) → made ≡ Halts WritesFails
        writes_fail out = by_own ∙ ap (λ b. writes_by false b f x c back) (sym out)

        pub returns : false ≡ is_outside own e entry (written e x.writes s) → made ≡ returns_by (false_line e x.gives (state_after f x s to g) s) f c back
        returns within = by_own ∙ ap (λ b. writes_by false b f x c back) (sym within)

        pub not_given : false ≡ is_outside own e entry (written e x.writes s) → (n : ℕ) → wrong_by made false n ≡ Some (WrongAt n)
        not_given within n =
            ap (λ y. wrong_by y false n) (returns within) ∙ no_block (false_line e x.gives (state_after f x s to g) s) (state_after f x s to g) n

  -- ---- its block

  pub block_is : (x : Contract) (w : WrittenCall) (stack bytes : List ℕ) → contract_at stepped s.pc ≡ Some x →
      bytes ≡ written p.machine.endian x.writes s →
      ((w.at == s.pc) && list_all (λ (b : ℕ × ℕ). list_any (nat_eq b.0) bytes) w.bytes) ≡ is_block_of f (record { state = s; stack = stack }) (Some w)
  block_is x w stack bytes found same =
      ap (λ l. (w.at == s.pc) && list_all (λ (b : ℕ × ℕ). list_any (nat_eq b.0) l) w.bytes) same
      ∙ sym (ap (λ (o : Option Contract). (w.at == s.pc) && list_all (λ (b : ℕ × ℕ). may_write_by o f (record { state = s; stack = stack }) b.0) w.bytes) found)

-- ---- the top of a stack

last_apart : (l : List ℕ) (n : ℕ) → suc n ≡ length l → l ≡ take n l ++ get_or l n 0 ∷ []
last_apart [] n is = absurd (omega (arith, is))
last_apart (x ∷ []) zero is = refl
last_apart (x ∷ y ∷ rest) zero is = absurd (omega (arith, is))
last_apart (x ∷ rest) (suc n) is = ap (λ l. x ∷ l) (last_apart rest n (omega (arith, is)))

top_apart : (l : List ℕ) (n : ℕ) → suc n ≡ length l → reverse l ≡ get_or l n 0 ∷ reverse (take n l)
top_apart l n is = ap reverse (last_apart l n is) ∙ reverse-append (take n l) (get_or l n 0 ∷ [])

pub stack_top : (l : List ℕ) → 1 ≤ length l → (to : ℕ) × (below : List ℕ) × (reverse l ≡ to ∷ below)
stack_top l some =
    let n : ℕ = length l - 1 in let last : suc n ≡ length l = omega (arith, some) in (get_or l n 0, reverse (take n l), top_apart l n last)

pub popped : (l : List ℕ) (to n : ℕ) (below : List ℕ) → reverse l ≡ to ∷ below → suc n ≡ length l → (get_or l n 0 ≡ to) × (reverse (take n l) ≡ below)
popped l to n below is last =
    let both : get_or l n 0 ∷ reverse (take n l) ≡ to ∷ below = sym (top_apart l n last) ∙ is in
    let first : get_or l n 0 ≡ to = cc in
    let rest : reverse (take n l) ≡ below = cc in
    (first, rest)

-- ---- what is given

value_small : (names values : List ℕ) (r : ℕ) → All (λ v. v < 2 ^ 32) values → value_in names values r < 2 ^ 32
value_small [] values r words = omega arith
value_small (n ∷ names) [] r words = omega arith
value_small (n ∷ names) (v ∷ values) r words =
    by (n == r) (words 0 0 (omega arith)) (value_small names values r (λ k d less. words (suc k) d (omega arith)))
  where
    by : (b : Bool) {u w : ℕ} → u < 2 ^ 32 → w < 2 ^ 32 → (if b then u else w) < 2 ^ 32
    by true one other = one
    by false one other = other

byte_small : (bytes : List (ℕ × ℕ)) (a : ℕ) → All (λ b. b.1 ≤ 255) bytes → byte_in bytes a < 256
byte_small [] a small = omega arith
byte_small (e ∷ rest) a small =
    by (a == e.0) (let most : e.1 ≤ 255 = small 0 (0, 0) (omega arith) in omega (arith, most))
    (byte_small rest a (λ k d less. small (suc k) d (omega arith)))
  where
    by : (b : Bool) {u w : ℕ} → u < 256 → w < 256 → (if b then u else w) < 256
    by true one other = one
    by false one other = other

pub given_is : (form : Layout) (names : List ℕ) (c : WrittenCall) → IsBlock form c → IsContent (given_by names c)
given_is form names c is = record {
  regs = λ r. value_small names c.regs r is.words;
  flags = λ n. (omega arith);
  mem = λ a. byte_small c.bytes (word 32 a) is.bytes;
}

-- ---- the return

module _ (p : Program) (stepped : List Contract) (own : Option Contract) (s now before : State) (items after : List ℕ) (last n to : ℕ) (below : List ℕ)
    (x : Contract) (g : Content) (gives : List NoteLine) (e : Endian) (stacked : reverse items ≡ to ∷ below) (count : suc n ≡ length items)
    (top : last ≡ get_or items n 0) (rest : after ≡ take n items) (seen : IsSeenAs (state_after (called_frame p stepped own) x s last g) now)
    (same : before ≡ s) (order : e ≡ p.machine.endian) (lines : gives ≡ x.gives) where
  abbrev F : Frame
  F = called_frame p stepped own

  abbrev d : Place
  d = record { state = state_after F x s to g; stack = below }

  top_is : last ≡ to
  top_is = top ∙ (popped items to n below stacked count).0

  seen_there : IsSeenAs d.state now
  seen_there = subst (λ t. IsSeenAs (state_after F x s t g) now) top_is seen

  judged : (o : Option ℕ) → o ≡ false_line e gives now before → o ≡ false_line p.machine.endian x.gives d.state s
  judged o is =
      is ∙ ap (λ (z : State). false_line e gives now z) same ∙ ap (λ (z : Endian). false_line z gives now s) order
      ∙ ap (λ l. false_line p.machine.endian l now s) lines ∙ sym (lines_seen p.machine.endian x.gives d.state now s seen_there)

  pub breaks : (line : ℕ) → Some line ≡ false_line e gives now before →
      returns_by (false_line p.machine.endian x.gives d.state s) F (record { state = s; stack = reverse items }) d ≡ Breaks line
  breaks line is = ap (λ (o : Option ℕ). returns_by o F (record { state = s; stack = reverse items }) d) (sym (judged (Some line) is))

  module _ (sound : Sound p every s) (content : IsContent g) (is_state : IsState now)
      (clean : list_any (λ a. is_kept (p.loaded a)) (written p.machine.endian x.writes s) ≡ false) where
    after_is : Sound p every d.state
    after_is =
        let at : now.pc ≡ last = ap (λ (z : State). z.pc) seen.rest in
        sound_after F every x s to g sound content (let is = top_is in let low = is_state.pc in omega (arith, is, at, low)) clean

    pub goes : None ≡ false_line e gives now before →
        (z : Place) × (returns_by (false_line p.machine.endian x.gives d.state s) F (record { state = s; stack = reverse items }) d ≡ GoesTo z)
        × IsAt p z now (reverse after) × (true ≡ true)
    goes is = (
      d,
      ap (λ l. returns_by (false_line p.machine.endian x.gives d.state s) F (record { state = s; stack = l }) d) stacked
          ∙ goes_back p stepped own s to below (false_line p.machine.endian x.gives d.state s) d.state (sym (judged None is)),
      record {
        seen = seen_there;
        stack_is = sym (ap reverse rest ∙ (popped items to n below stacked count).1);
        is_state = after_is.1;
        kept = λ a cell low is_cell kept. after_is.0 a cell low is_cell kept refl;
      },
      refl,
    )

-- ---- the whole step, by what the code has

-- what the lines of a listed contract read
pub readable_at : (has : ℕ → Bool) (xs : List CodeContract) (x : CodeContract) → All (λ x. IsReadableContract has (contract_of x)) xs →
    (i : ℕ) × (i < length xs) × (x ≡ get_or xs i x) → IsReadableContract has (contract_of x)
readable_at has xs x all (i, less, is) = subst (λ z. IsReadableContract has (contract_of z)) (sym is) (all i x less)

-- of bytes that a contract may write, none is another than its own
pub outside_is : (e : Endian) (own : Option Own) (o : Own) (entry : State) (places : List ℕ) (b : Bool) → own ≡ Some o → IsOwnAt e own entry →
    b ≡ has_other o.spans.now places → b ≡ is_outside (own_of own) e entry places
outside_is e own o entry places b some at is =
    let own_at : bytes_of o.spans.now ≡ written e (contract_of o.contract.now).writes entry = subst (λ (z : Option Own). IsOwnAt e z entry) some at in
    is ∙ ap (λ l. list_any (λ a. not (list_any (nat_eq a) l)) places) own_at ∙ sym (ap (λ (z : Option Own). is_outside (own_of z) e entry places) some)

module _ (p : Program) (stepped : List Contract) (own : Option Contract) (s entry : State) (items : List ℕ) (some : 1 ≤ length items) (x : Contract)
    (g : Content) (found : contract_at stepped s.pc ≡ Some x) where
  abbrev Fr : Frame
  Fr = called_frame p stepped own

  abbrev E : Endian
  E = p.machine.endian

  abbrev there : Place
  there = record { state = s; stack = reverse items }

  abbrev comes : FrameStep
  comes = contract_step Fr entry there g

  pub turn_needs : (line : ℕ) → Some line ≡ false_line E x.needs s s → comes ≡ Halts (NeedsFails line)
  turn_needs line is =
      let st = stack_top items some in needs_fail p stepped own s st.0 st.1 entry x g (reverse items) found st.2 line is

  module _ (bytes : List ℕ) (is_bytes : bytes ≡ written E x.writes s) (needs : None ≡ false_line E x.needs s s) where
    pub turn_kept : true ≡ list_any (λ a. is_kept (p.loaded a)) bytes → comes ≡ Halts (OfStep CodeWritten)
    turn_kept kept =
        let st = stack_top items some in
        code_written p stepped own s st.0 st.1 entry x g (reverse items) found st.2 needs (kept ∙ ap (list_any (λ a. is_kept (p.loaded a))) is_bytes)

    module _ (kept : false ≡ list_any (λ a. is_kept (p.loaded a)) bytes) where
      abbrev clean : false ≡ list_any (λ a. is_kept (p.loaded a)) (written E x.writes s)
      clean = kept ∙ ap (list_any (λ a. is_kept (p.loaded a))) is_bytes

      pub turn_outside : true ≡ is_outside own E entry bytes → comes ≡ Halts WritesFails
      turn_outside out =
          let st = stack_top items some in
          writes_fail p stepped own s st.0 st.1 entry x g (reverse items) found st.2 needs clean (out ∙ ap (is_outside own E entry) is_bytes)

      module _ (within : false ≡ is_outside own E entry bytes) where
        abbrev inside : false ≡ is_outside own E entry (written E x.writes s)
        inside = within ∙ ap (is_outside own E entry) is_bytes

        pub turn_not_given : (o : Option WrittenCall) → o ≡ None →
            ((n : ℕ) → wrong_by comes false n ≡ Some (WrongAt n)) × (is_block_of Fr there o ≡ false)
        turn_not_given o none =
            let st = stack_top items some in (
              not_given p stepped own s st.0 st.1 entry x g (reverse items) found st.2 needs clean inside,
              ap (is_block_of Fr there) none,
            )

        module _ (o : Option WrittenCall) (w : WrittenCall) (here : o ≡ Some w) where
          abbrev test : Bool
          test = (w.at == s.pc) && list_all (λ (b : ℕ × ℕ). list_any (nat_eq b.0) bytes) w.bytes

          is_block : test ≡ is_block_of Fr there o
          is_block = block_is p stepped own s 0 [] x w (reverse items) bytes found is_bytes ∙ sym (ap (is_block_of Fr there) here)

          pub turn_other : false ≡ test → ((n : ℕ) → wrong_by comes false n ≡ Some (WrongAt n)) × (is_block_of Fr there o ≡ false)
          turn_other no_test =
              let st = stack_top items some in (
                not_given p stepped own s st.0 st.1 entry x g (reverse items) found st.2 needs clean inside,
                sym (no_test ∙ is_block),
              )

          at_is : (a b : Bool) → true ≡ (a && b) → a ≡ true
          at_is true b is = refl
          at_is false b is = sym is

          pub turn_returns : true ≡ test → IsGift stepped o g → (end : CalledStepEnd) (now : State) (after : List ℕ) →
              ((to : ℕ) (below : List ℕ) → reverse items ≡ to ∷ below → IsContractEnd end p now after
              (returns_by (false_line E x.gives (state_after Fr x s to (given_by (changed_by x) w)) s) Fr there
              (record { state = state_after Fr x s to (given_by (changed_by x) w); stack = below })) true) →
              IsContractEnd end p now after comes (is_block_of Fr there o)
          turn_returns yes_test gift end now after ends =
              let st = stack_top items some in
              let same_at : w.at ≡ s.pc = same_number w.at s.pc (at_is (w.at == s.pc) _ yes_test) in
              let given : g ≡ given_by (changed_by x) w =
              (subst (λ z. IsGift stepped z g) here gift) x (ap (contract_at stepped) same_at ∙ found) in
              let step_is = returns p stepped own s st.0 st.1 entry x g (reverse items) found st.2 needs clean inside in
              let made_so : comes ≡ returns_by (false_line E x.gives (state_after Fr x s st.0 (given_by (changed_by x) w)) s) Fr there
              (record { state = state_after Fr x s st.0 (given_by (changed_by x) w); stack = st.1 }) =
              step_is ∙ ap (λ l. returns_by (false_line E x.gives (state_after Fr x s st.0 g) s) Fr (record { state = s; stack = l })
              (record { state = state_after Fr x s st.0 g; stack = st.1 })) (sym st.2)
              ∙ ap (λ z. returns_by (false_line E x.gives (state_after Fr x s st.0 z) s) Fr there
              (record { state = state_after Fr x s st.0 z; stack = st.1 })) given in
              subst (λ b. IsContractEnd end p now after comes b) (yes_test ∙ is_block)
              (subst (λ y. IsContractEnd end p now after y true) (sym made_so) (ends st.0 st.1 st.2))
