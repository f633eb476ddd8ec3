-- What contract steps are given as it is written: registers by their names, which a text has in the same order, and what a start gives at the steps of calls.
use Rattle.std.proofs.Common.{◌≡◌, inl, inr, refl, ap, sym, ◌∙◌, subst, arith, ℕ, zero, suc, ◌+◌, ◌-◌, ◌/◌, ◌^◌, ◌<◌, ◌≤◌, [], ◌∷◌, List, Option, Some, None, Bool, true, false, length, get_or}
use Rattle.std.specs.Prelude.{Contains, ◌==◌, ◌||◌, nat_eq, map, filter, All, AllPairs, if◌then◌else◌}
use Rattle.std.specs.List.{list_any}
use Rattle.std.proofs.lemmas.Bool.Decides.{nat_tests}
use Rattle.std.proofs.lemmas.Nat.{mod_below}
use Rattle.word_spec.specs.Words.{word}
use Rattle.word_spec.specs.RowFiles.{from_to}
use Rattle.bilv_spec.proofs.Pigeons.{truth}
use Rattle.bilv_spec.proofs.PointSteps.{in_any}
use Rattle.bilv_spec.proofs.PointsInGraph.{none_in}
use Rattle.walk_laws.proofs.StartReadings.{byte_small}
use Rattle.frame_spec.specs.Frames.{Content, IsContent, Contract, Frame, contract_at}
use Rattle.frame_spec.specs.FramePoints.{is_cut}
use Rattle.frame_spec.specs.FrameVerdict.{Whole}
use Rattle.frame_spec.specs.FrameWalk.{StepsOver, Gift, UnrolledProgram, point_at}
use Rattle.machine_spec.specs.Machine.{Row}
use Rattle.machine_spec.specs.StateText.{Layout}
use Rattle.bilv_spec.specs.Points.{file_row}
use Rattle.walk_spec.specs.Unrolling.{IsLaidOut}
use Rattle.frame_spec.specs.FrameUnrolling.{DoesContract, DoesAddress, DoesBy, IsUnrolling}
use Rattle.frame_spec.proofs.Within.{in_range}
use Rattle.frame_spec.specs.FrameReports.{WrittenCall, value_in, given_by, gifts, registers_of}
use Rattle.frame_terms.specs.PassiveFrames.{gift_part, IsGiftAt, inputs_of}
use Rattle.frame_terms.specs.FrameStarts.{part_registers, gift_registers, AreTold}
use Rattle.frame_terms.proofs.FrameInputs.{of_range, found_in}

-- a value by its name
pub value_is : (f : ℕ → ℕ) (names : List ℕ) (n : ℕ) → list_any (nat_eq n) names ≡ true → value_in names (map f names) n ≡ f n
value_is f [] n h = absurd (let c : false ≡ true = h in cc)
value_is f (m ∷ names) n h = elim (truth (m == n)) [
  | inl t ↦ (let e : m ≡ n = grind (arith, nat_tests) in ap (λ b. if b then f m else value_in names (map f names) n) t ∙ ap f e)
  | inr g ↦ (let e : nat_eq n m ≡ false = grind (arith, nat_tests) in
      ap (λ b. if b then f m else value_in names (map f names) n) g
      ∙ value_is f names n (sym (ap (λ b. b || list_any (nat_eq n) names) e) ∙ h))
]

pub value_small : (names values : List ℕ) (n : ℕ) → All (λ v. v < 2 ^ 32) values → value_in names values n < 2 ^ 32
value_small [] values n h = omega arith
value_small (m ∷ names) [] n h = omega arith
value_small (m ∷ names) (v ∷ values) n h = by (m == n) (h 0 v (omega arith)) (value_small names values n (λ i d l. h (suc i) d (omega arith)))
  where
    by : (b : Bool) → v < 2 ^ 32 → value_in names values n < 2 ^ 32 → (if b then v else value_in names values n) < 2 ^ 32
    by true l g = l
    by false l g = g

-- a list of numbers, of which some within a range are kept
module _ (p : ℕ → Bool) where
  none_from : (first count : ℕ) → ((n : ℕ) → first ≤ n → n < first + count → p n ≡ false) → filter p (from_to first count) ≡ []
  none_from first zero h = refl
  none_from first (suc count) h =
      ap (λ b. if b then first ∷ filter p (from_to (first + 1) count) else filter p (from_to (first + 1) count)) (h first (omega arith) (omega arith))
      ∙ none_from (first + 1) count (λ n l m. h n (omega arith) (omega arith))

  without_tail : (first count all : ℕ) → count ≤ all → ((n : ℕ) → first + count ≤ n → p n ≡ false) →
      filter p (from_to first all) ≡ filter p (from_to first count)
  without_tail first zero all l h = none_from first all (λ n b c. h n (omega arith))
  without_tail first (suc count) zero l h = absurd (omega arith)
  without_tail first (suc count) (suc all) l h =
      ap (λ (z : List ℕ). if p first then first ∷ z else z) (without_tail (first + 1) count all (omega arith) (λ n b. h n (omega arith)))

  without_head : (gap start all rest : ℕ) → all ≡ gap + rest → ((n : ℕ) → start ≤ n → n < start + gap → p n ≡ false) →
      filter p (from_to start all) ≡ filter p (from_to (start + gap) rest)
  without_head zero start all rest e h =
      let a : all ≡ rest = omega arith in
      let b : start ≡ start + zero = omega arith in
      ap (λ z. filter p (from_to start z)) a ∙ ap (λ z. filter p (from_to z rest)) b
  without_head (suc gap) start zero rest e h = absurd (omega arith)
  without_head (suc gap) start (suc all) rest e h =
      let s : (start + 1) + gap ≡ start + suc gap = omega arith in
      ap (λ b. if b then start ∷ filter p (from_to (start + 1) all) else filter p (from_to (start + 1) all)) (h start (omega arith) (omega arith))
      ∙ without_head gap (start + 1) all rest (omega arith) (λ n l m. h n (omega arith) (omega arith))
      ∙ ap (λ z. filter p (from_to z rest)) s

  unless : (n : ℕ) → (p n ≡ true → ⊥) → p n ≡ false
  unless n h = elim (truth (p n)) [ inl t ↦ absurd (h t) | inr g ↦ g ]

  -- of all numbers below one, those that are kept are of the range
  pub kept_range : (first count all : ℕ) → ((n : ℕ) → p n ≡ true → (first ≤ n) × (n < first + count)) → ((n : ℕ) → first ≤ n → n < first + count → n < all) →
      filter p (from_to 0 all) ≡ filter p (from_to first count)
  kept_range first zero all inside low =
      none_from 0 all (λ n l m. unless n (λ t. (let q = inside n t in let a = q.0 in let b = q.1 in omega arith)))
  kept_range first (suc count) all inside low =
      let last : first + count < all = low (first + count) (omega arith) (omega arith) in
      let e : 0 + first ≡ first = omega arith in
      without_head first 0 all (all - first) (omega arith) (λ n l m. unless n (λ t. (let a = (inside n t).0 in omega arith)))
      ∙ ap (λ z. filter p (from_to z (all - first))) e
      ∙ without_tail first (suc count) (all - first) (omega arith) (λ n l. unless n (λ t. (let b = (inside n t).1 in omega arith)))

-- the contract of a contract point, which its frame steps over
module _ (f : Frame) (contracts : List Contract) (k : ℕ) (u : UnrolledProgram) (un : IsUnrolling f contracts k u) where
  pub record IsSteppedOver (i : ℕ) (g : Gift) : Type 0 where
    pub contract : Contract
    pub stepped : contract_at f.stepped (point_at u i).point.at ≡ Some contract
    pub registers : g.registers ≡ contract.registers

  of_gift : {x y : Gift} → StepsOver x ≡ StepsOver y → x ≡ y
  of_gift e = (cc)

  stepped_over : (i : ℕ) (g : Gift) → IsGiftAt u i g → IsSteppedOver i g
  stepped_over i g at =
      by (point_at u i).point.contract (is_cut f (point_at u i).point) (un.places i at.place).does
    where
      by_contract : (o : Option Contract) (stack : List ℕ) → contract_at f.stepped (point_at u i).point.at ≡ o →
          DoesContract f k u i (point_at u i) o stack → IsSteppedOver i g
      by_contract None stack e does = absurd does
      by_contract (Some x) [] e does = absurd does
      by_contract (Some x) (to ∷ below) e (along, does, exits, are) =
          record { contract = x; stepped = e; registers = ap (λ (z : Gift). z.registers) (of_gift (sym at.does ∙ does)) }

      by_row : (o : Option Row) → DoesAddress f contracts k u i (point_at u i) o → IsSteppedOver i g
      by_row None does = absurd (let e = sym at.does ∙ does.0 in cc)
      by_row (Some row) (along, exits, are, does) = absurd (let e = sym at.does ∙ does.lists.1 in cc)

      by : (contract cut : Bool) → DoesBy contract cut f contracts k u i (point_at u i) → IsSteppedOver i g
      by true cut does = by_contract (contract_at f.stepped (point_at u i).point.at) (point_at u i).point.stack refl does
      by false true does = absurd (let e = sym at.does ∙ does.0 in cc)
      by false false does = by_row (file_row f.program (point_at u i).point.at) does

  -- a text has its registers in the order of the frame
  module _ (layout : Layout) (laid : IsLaidOut layout (inputs_of u)) (w : Whole) (told : AreTold w f u) where
    registers_by : (a : ℕ) (x : Contract) → contract_at w.contracts a ≡ Some x →
        registers_of w a ≡ filter (λ r. list_any (nat_eq r) x.registers) (from_to 0 32)
    registers_by a x e = rw (e) refl

    in_frame : (n : ℕ) → list_any (nat_eq n) u.registers ≡ true → (layout.first ≤ n) × (n < layout.first + length layout.registers)
    in_frame n h = of_range layout.first (length layout.registers) n (in_any n (from_to layout.first (length layout.registers))
        (subst (λ (z : List ℕ). list_any (nat_eq n) z ≡ true) laid.registers h))

    from_frame : (n : ℕ) → layout.first ≤ n → n < layout.first + length layout.registers → list_any (nat_eq n) u.registers ≡ true
    from_frame n l m = subst (λ (z : List ℕ). list_any (nat_eq n) z ≡ true) (sym laid.registers)
        (found_in (from_to layout.first (length layout.registers)) n (in_range layout.first (length layout.registers) n l m))

    pub registers_same : (i : ℕ) (g : Gift) → IsGiftAt u i g → registers_of w (point_at u i).point.at ≡ part_registers u (gift_part i)
    registers_same i g at =
        let is = stepped_over i g at in
        let a = (point_at u i).point.at in
        registers_by a is.contract (told.contracts a is.contract is.stepped)
        ∙ kept_range (λ r. list_any (nat_eq r) is.contract.registers) layout.first (length layout.registers) 32
        (λ n t. in_frame n (told.registers a n is.contract is.stepped (in_any n is.contract.registers t)))
        (λ n l m. told.low a n is.contract is.stepped (from_frame n l m))
        ∙ ap (filter (λ r. list_any (nat_eq r) is.contract.registers)) (sym laid.registers)
        ∙ ap (λ (z : List ℕ). filter (λ r. list_any (nat_eq r) z) u.registers) (sym is.registers)
        ∙ ap (gift_registers u) (sym at.does)

-- what a start gives at the step of a call is what the call gives
module _ (names : ℕ → List ℕ) where
  abbrev by_step : Bool → Content → Content → Content
  by_step b g h = record {
    regs = λ r. if b then g.regs r else h.regs r;
    flags = λ i. if b then g.flags i else h.flags i;
    mem = λ a. if b then g.mem a else h.mem a;
  }

  pub gift_at : (calls : List WrittenCall) → AllPairs (λ a b. a.step < b.step) calls → (c : WrittenCall) → Contains calls c →
      gifts names calls c.step ≡ given_by (names c.at) c
  gift_at [] rise c inside = none_in c inside
  gift_at (d ∷ rest) rise c (zero, l, e) =
      subst (λ (z : WrittenCall). by_step (d.step == z.step) (given_by (names d.at) d) (gifts names rest z.step) ≡ given_by (names z.at) z) e
      (ap (λ b. by_step b (given_by (names d.at) d) (gifts names rest d.step)) (let t : (d.step == d.step) ≡ true = grind (arith, nat_tests) in t))
  gift_at (d ∷ rest) rise c (suc i, l, e) =
      let less : d.step < (get_or rest i c).step = rise 0 (suc i) c (omega arith) (omega arith) in
      let m : d.step < c.step = subst (λ (z : WrittenCall). d.step < z.step) e less in
      ap (λ b. by_step b (given_by (names d.at) d) (gifts names rest c.step)) (let t : (d.step == c.step) ≡ false = grind (arith, nat_tests) in t)
      ∙ gift_at rest (λ a b x h s. rise (suc a) (suc b) x (omega arith) (omega arith)) c (i, omega arith, e)

  -- words and bytes
  pub record IsSmall (c : WrittenCall) : Type 0 where
    pub words : All (λ v. v < 2 ^ 32) c.regs
    pub bytes : All (λ b. (b.0 < 2 ^ 32) × (1 ≤ b.1) × (b.1 ≤ 255)) c.bytes

  pub given_small : (registers : List ℕ) (c : WrittenCall) → IsSmall c → IsContent (given_by registers c)
  given_small registers c small = record {
    regs = λ r. value_small registers c.regs r small.words;
    flags = λ i. mod_below (c.flags / 2 ^ i) 2 (omega arith);
    mem = λ a. byte_small c.bytes (word 32 a) small.bytes;
  }

  step_small : (b : Bool) (g h : Content) → IsContent g → IsContent h → IsContent (by_step b g h)
  step_small true g h m n = record { regs = m.regs; flags = m.flags; mem = m.mem }
  step_small false g h m n = record { regs = n.regs; flags = n.flags; mem = n.mem }

  pub gifts_small : (calls : List WrittenCall) → All IsSmall calls → (n : ℕ) → IsContent (gifts names calls n)
  gifts_small [] h n = record { regs = λ r. omega arith; flags = λ i. omega arith; mem = λ a. omega arith }
  gifts_small (c ∷ rest) h n =
      step_small (c.step == n) (given_by (names c.at) c) (gifts names rest n) (given_small (names c.at) c (h 0 c (omega arith)))
      (gifts_small rest (λ i d l. h (suc i) d (omega arith)) n)
