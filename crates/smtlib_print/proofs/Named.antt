-- The inputs of terms of programs and of frames have symbols, and can be printed.
use Rattle.std.proofs.Common.{◌≡◌, ℕ, zero, suc, ◌+◌, ◌-◌, ◌<◌, ◌≤◌, refl, ap, sym, ◌∙◌, subst, arith, true, false, Bool, List, [], ◌∷◌, ◌++◌, Some, None, length, map, Contains}
use Rattle.std.specs.Prelude.{◌||◌, nat_eq, nat_lt, slice_index_or}
use Rattle.std.specs.List.{list_any}
use Rattle.std.proofs.lemmas.Bool.Decides.{nat_tests}
use Rattle.word_spec.specs.RowFiles.{from_to}
use Rattle.machine_spec.specs.StateText.{Layout}
use Rattle.term_spec.specs.Terms as terms
use Rattle.term_spec.specs.Terms.{TermNode, IsTypedOver, AreTypedFrom, AreTyped, node_at}
use Rattle.term_spec.specs.WalkQuestions.{IsNamedBelow}
use Rattle.walk_spec.specs.Unrolled as tables
use Rattle.walk_spec.specs.Unrolling.{IsLaidOut}
use Rattle.frame_spec.specs.Frames.{Writes}
use Rattle.frame_spec.specs.FrameWalk.{Action, Executes, Arrives, Gift, StepsOver, UnrolledPoint, UnrolledProgram, no_point}
use Rattle.frame_terms.specs.PassiveFrames as frames
use Rattle.frame_terms.specs.PassiveFrames.{IsGiftAt, NamesFlag, NamesMemory, NamesRegister, TakesMemory, inputs_of}
use Rattle.question_form.specs.declared.unrolled.Deed.{Deed}
use Rattle.question_form.specs.declared.unrolled.Deed.TheVariants.{Row, Arrival, Contract}
use Rattle.question_form.specs.declared.unrolled.Point.{Point}
use Rattle.question_form.specs.declared.unrolled.Unrolled.{Unrolled}
use Rattle.program_points.specs.Tables.{stack_at}
use Rattle.question_form.specs.FrameViews.{action_of, frame_unrolled_of, points_of}
use Rattle.question_form.specs.Views.{code_of}
use Rattle.smtlib_print.specs.Printable.{HasSymbols, IsPrintable}
use Rattle.frame_spec.specs.FrameScripts.{writes_some}
use Rattle.smtlib_print.specs.Commands.{Given, nothing}
use Rattle.smtlib_print.specs.Scripted.{given_by, givens_of}
use Rattle.smtlib_print.proofs.Drawn.{or_true}
use Rattle.smtlib_print.proofs.GivenSymbols.{given_at}
use Rattle.smtlib_print.proofs.Sources.{IsNamedIn, IsOfPart, gives_flag, gives_memory, gives_register}

-- a number of a range
in_range_by : (r first count : ℕ) (b : Bool) → nat_eq r first ≡ b → (b || list_any (nat_eq r) (from_to (first + 1) count)) ≡ true →
    (list_any (nat_eq r) (from_to (first + 1) count) ≡ true → (first + 1 ≤ r) × (r < first + 1 + count)) → (first ≤ r) × (r < first + suc count)
in_range_by r first count true e h more = let same : r ≡ first = grind (arith, nat_tests) in (omega (arith, same), omega (arith, same))
in_range_by r first count false e h more = let k = more h in (omega (arith, k), omega (arith, k))

in_range : (r first count : ℕ) → list_any (nat_eq r) (from_to first count) ≡ true → (first ≤ r) × (r < first + count)
in_range r first zero h = absurd (cc h)
in_range r first (suc count) h = in_range_by r first count (nat_eq r first) refl h (in_range r (first + 1) count)

-- which points draw
pub draws_at : (ps : List tables.UnrolledPoint) (i : ℕ) → i < length ps →
    slice_index_or (map (λ q. q.draws) ps) i false ≡ (slice_index_or ps i tables.no_point).draws
draws_at [] i l = absurd (omega (arith, l))
draws_at (q ∷ ps) zero l = refl
draws_at (q ∷ ps) (suc i) l = draws_at ps i (omega (arith, l))

pub draws_length : (ps : List tables.UnrolledPoint) → length (map (λ q. q.draws) ps) ≡ length ps
draws_length [] = refl
draws_length (q ∷ ps) = ap suc (draws_length ps)

pub frame_draws_at : (ps : List UnrolledPoint) (i : ℕ) → i < length ps → slice_index_or (map (λ q. q.draws) ps) i false ≡ (slice_index_or ps i no_point).draws
frame_draws_at [] i l = absurd (omega (arith, l))
frame_draws_at (q ∷ ps) zero l = refl
frame_draws_at (q ∷ ps) (suc i) l = frame_draws_at ps i (omega (arith, l))

pub frame_draws_length : (ps : List UnrolledPoint) → length (map (λ q. q.draws) ps) ≡ length ps
frame_draws_length [] = refl
frame_draws_length (q ∷ ps) = ap suc (frame_draws_length ps)

-- registers and flags of a layout
module _ (layout : Layout) (registers : List ℕ) (flags : ℕ) (registers_are : registers ≡ from_to layout.first (length layout.registers))
    (flags_are : flags ≡ length layout.flags) where
  register_in : (n : ℕ) → list_any (nat_eq n) registers ≡ true → (layout.first ≤ n) × (n - layout.first < length layout.registers)
  register_in n h =
      let k = in_range n layout.first (length layout.registers) (ap (list_any (nat_eq n)) (sym registers_are) ∙ h) in
      (k.0, omega (arith, k))

  flag_in : (f : ℕ) → nat_lt f flags ≡ true → f < length layout.flags
  flag_in f h = let k : f < flags = grind (arith, nat_tests) in omega (arith, k, flags_are)

-- the inputs of a program
module _ (u : tables.UnrolledProgram) (layout : Layout) (laid : IsLaidOut layout u) where
  pub program_named : (n : TermNode) → IsNamedBelow u 0 n → IsNamedIn layout false (map (λ q. q.draws) u.points) [] n
  program_named (terms.RegisterNode p n) h =
      let k = register_in layout u.registers u.flags laid.registers laid.flags n h.1 in (subst (IsOfPart false [] (gives_register n)) (sym h.0) tt, k.0, k.1)
  program_named (terms.FlagNode p f) h =
      (subst (IsOfPart false [] (gives_flag f)) (sym h.0) tt, flag_in layout u.registers u.flags laid.registers laid.flags f h.1)
  program_named (terms.ChoiceNode i) h =
      (let c = draws_length u.points in omega (arith, c, h.0), draws_at u.points i h.0 ∙ h.1)
  program_named (terms.BaseNode p j) h = absurd (omega (arith, h.1))
  program_named (terms.MemoryNode p) h = subst (IsOfPart false [] gives_memory) (sym h) tt
  program_named (terms.ConstantNode w v) h = tt
  program_named (terms.BinaryNode o w a b) h = tt
  program_named (terms.NotNode w a) h = tt
  program_named (terms.SelectNode w c a b) h = tt
  program_named (terms.ExtractNode hi lo a) h = tt
  program_named (terms.ConcatNode high low a b) h = tt
  program_named (terms.ExtendNode signed n m a) h = tt
  program_named (terms.LoadNode n e m a) h = tt
  program_named (terms.StoreNode n e m a v) h = tt
  program_named (terms.JoinNode c a b) h = tt
  program_named (terms.TakeNode n m a p) h = absurd h

-- what is given where this is done
abbrev pub given_in : Action → Given
given_in (Executes list) = nothing
given_in Arrives = nothing
given_in (StepsOver x) = record { registers = x.registers; flags = x.flags; writes = x.writes }

-- what is given at the places of a frame
abbrev pub givens : UnrolledProgram → List Given
givens u = map (λ q. given_in q.does) u.points

pub given_is : (ps : List UnrolledPoint) (i : ℕ) → i < length ps → given_at (map (λ q. given_in q.does) ps) i ≡ given_in (slice_index_or ps i no_point).does
given_is [] i l = absurd (omega (arith, l))
given_is (q ∷ ps) zero l = refl
given_is (q ∷ ps) (suc i) l = given_is ps i (omega (arith, l))

pub givens_length : (ps : List UnrolledPoint) → length (map (λ q. given_in q.does) ps) ≡ length ps
givens_length [] = refl
givens_length (q ∷ ps) = ap suc (givens_length ps)

any_of : (n : ℕ) (ks : List ℕ) → Contains ks n → list_any (nat_eq n) ks ≡ true
any_of n [] c = absurd (omega (arith, c.1))
any_of n (k ∷ ks) (zero, l, e) = let t : nat_eq n k ≡ true = grind (arith, nat_tests, e) in rw t refl
any_of n (k ∷ ks) (suc i, l, e) = or_true (nat_eq n k) (list_any (nat_eq n) ks) (any_of n ks (i, omega (arith, l), e))

some_writes : (ws : List Writes) (w : Writes) → Contains ws w → writes_some ws ≡ true
some_writes [] w c = absurd (omega (arith, c.1))
some_writes (v ∷ ws) w c = refl

-- the inputs of a frame
module _ (u : UnrolledProgram) (heads : Bool) (layout : Layout) (laid : IsLaidOut layout (inputs_of u)) where
  -- what a contract step gives is given at its place
  of_gift : (gives : Given → Bool) (i : ℕ) (x : Gift) → IsGiftAt u i x → gives (given_in (StepsOver x)) ≡ true → IsOfPart heads (givens u) gives (suc (suc i))
  of_gift gives i x gift is =
      (omega (arith, gift.place, givens_length u.points), ap gives (given_is u.points i gift.place ∙ ap given_in gift.does) ∙ is)

  of_register : (p n : ℕ) → NamesRegister u heads p n → IsOfPart heads (givens u) (gives_register n) p × (list_any (nat_eq n) u.registers ≡ true)
  of_register zero n h = (tt, h)
  of_register (suc zero) n h = (h.0, h.1)
  of_register (suc (suc i)) n h = (of_gift (gives_register n) i h.1.0 h.1.1 (any_of n h.1.0.registers h.1.2), h.0)

  of_flag : (p f : ℕ) → NamesFlag u heads p f → IsOfPart heads (givens u) (gives_flag f) p × (nat_lt f u.flags ≡ true)
  of_flag zero f h = (tt, h)
  of_flag (suc zero) f h = (h.0, h.1)
  of_flag (suc (suc i)) f h = (of_gift (gives_flag f) i h.1.0 h.1.1 (any_of f h.1.0.flags h.1.2), h.0)

  of_memory : (p : ℕ) → NamesMemory u heads p → IsOfPart heads (givens u) gives_memory p
  of_memory zero h = tt
  of_memory (suc zero) h = h
  of_memory (suc (suc i)) h = of_gift gives_memory i h.0 h.2 (some_writes h.0.writes h.1 h.3)

  of_take : (p : ℕ) → TakesMemory u p → IsOfPart heads (givens u) gives_memory p
  of_take zero h = absurd h
  of_take (suc zero) h = absurd h
  of_take (suc (suc i)) h = of_gift gives_memory i h.0 h.2 (some_writes h.0.writes h.1 h.3)

  pub frame_named : (n : TermNode) → frames.IsNamedBelow u heads 0 n → IsNamedIn layout heads (map (λ q. q.draws) u.points) (givens u) n
  frame_named (terms.RegisterNode p n) h =
      let k = of_register p n h in let r = register_in layout u.registers u.flags laid.registers laid.flags n k.1 in (k.0, r.0, r.1)
  frame_named (terms.FlagNode p f) h = let k = of_flag p f h in (k.0, flag_in layout u.registers u.flags laid.registers laid.flags f k.1)
  frame_named (terms.ChoiceNode i) h = (let c = frame_draws_length u.points in omega (arith, c, h.0), frame_draws_at u.points i h.0 ∙ h.1)
  frame_named (terms.BaseNode p j) h = absurd (omega (arith, h.1))
  frame_named (terms.MemoryNode p) h = of_memory p h
  frame_named (terms.ConstantNode w v) h = tt
  frame_named (terms.BinaryNode o w a b) h = tt
  frame_named (terms.NotNode w a) h = tt
  frame_named (terms.SelectNode w c a b) h = tt
  frame_named (terms.ExtractNode hi lo a) h = tt
  frame_named (terms.ConcatNode high low a b) h = tt
  frame_named (terms.ExtendNode signed n m a) h = tt
  frame_named (terms.LoadNode n e m a) h = tt
  frame_named (terms.StoreNode n e m a v) h = tt
  frame_named (terms.JoinNode c a b) h = tt
  frame_named (terms.TakeNode n m a p) h = of_take p h

-- the frame of a value gives what its contract steps give
one_given : (u : Unrolled) (d : Deed) (list : _) (stack : List ℕ) → given_in (action_of u d list stack) ≡ given_by u d
one_given u Row None stack = refl
one_given u Row (Some list) stack = refl
one_given u Arrival list stack = refl
one_given u (Contract n) list stack = refl

givens_are : (u : Unrolled) (qs : List Point) → map (λ q. given_in q.does) (points_of u qs) ≡ map (λ q. given_by u q.deed) qs
givens_are u [] = refl
givens_are u (q ∷ qs) =
    ap (λ g. g ∷ map (λ x. given_in x.does) (points_of u qs)) (one_given u q.deed (code_of u q).list (stack_at u.frames.items q.stack))
    ∙ ap (λ l. given_by u q.deed ∷ l) (givens_are u qs)

pub frame_gives : (u : Unrolled) → givens (frame_unrolled_of u) ≡ givens_of u
frame_gives u = givens_are u u.points.items

-- a part that has symbols has names
has_symbols : (heads : Bool) (given : List Given) (gives : Given → Bool) (count p : ℕ) → length given ≤ count → IsOfPart heads given gives p →
    HasSymbols count p
has_symbols heads given gives count zero l h = tt
has_symbols heads given gives count (suc zero) l h = tt
has_symbols heads given gives count (suc (suc i)) l h = omega (arith, h.0, l)

-- what has a symbol can be printed
module _ (layout : Layout) (heads : Bool) (draws : List Bool) (given : List Given) (count : ℕ) (same : count ≡ length draws)
    (fits : length given ≤ count) where
  printable_node : (before : List TermNode) (n : TermNode) → IsTypedOver before n → IsNamedIn layout heads draws given n → IsPrintable layout count n
  printable_node before (terms.RegisterNode p r) t h = (has_symbols heads given (gives_register r) count p fits h.0, h.1, omega (arith, h.1, h.2))
  printable_node before (terms.FlagNode p f) t h = (has_symbols heads given (gives_flag f) count p fits h.0, h.1)
  printable_node before (terms.ChoiceNode i) t h = omega (arith, h.0, same)
  printable_node before (terms.BaseNode p j) t h = tt
  printable_node before (terms.MemoryNode p) t h = has_symbols heads given gives_memory count p fits h
  printable_node before (terms.ConstantNode w v) t h = tt
  printable_node before (terms.BinaryNode o w a b) t h = t.0
  printable_node before (terms.NotNode w a) t h = tt
  printable_node before (terms.SelectNode w c a b) t h = tt
  printable_node before (terms.ExtractNode hi lo a) t h = tt
  printable_node before (terms.ConcatNode high low a b) t h = tt
  printable_node before (terms.ExtendNode signed n m a) t h = t.1
  printable_node before (terms.LoadNode n e m a) t h = t.0
  printable_node before (terms.StoreNode n e m a v) t h = t.0
  printable_node before (terms.JoinNode c a b) t h = tt
  printable_node before (terms.TakeNode n m a p) t h = has_symbols heads given gives_memory count p fits h

  printable_from : (before ns : List TermNode) → AreTypedFrom before ns → ((n : TermNode) → Contains ns n → IsNamedIn layout heads draws given n) →
      (t : ℕ) → t < length ns → IsPrintable layout count (node_at ns t)
  printable_from before [] typed named t l = absurd (omega (arith, l))
  printable_from before (n ∷ ns) typed named zero l = printable_node before n typed.0 (named n (0, omega arith, refl))
  printable_from before (n ∷ ns) typed named (suc t) l =
      printable_from (before ++ n ∷ []) ns typed.1 (λ m c. named m (suc c.0, omega (arith, c.1), c.2)) t (omega (arith, l))

  pub printable : (ns : List TermNode) → AreTyped ns → ((n : TermNode) → Contains ns n → IsNamedIn layout heads draws given n) → (t : ℕ) → t < length ns →
      IsPrintable layout count (node_at ns t)
  printable ns typed named t l = printable_from [] ns typed named t l
