-- Which ends of a point are calls that are stepped over.
use Rattle.std.proofs.Common.{◌≡◌, inl, inr, ℕ, ◌+◌, ◌≤◌, refl, ap, sym, ◌∙◌, arith, List, [], ◌∷◌, length, Option, Some, None, Bool, true, false}
use Rattle.std.specs.Prelude.{slice_get, Contains, nat_lt, ◌==◌, ◌&&◌, ◌||◌, not, if◌then◌else◌}
use Rattle.std.specs.List.{list_any}
use Rattle.std.proofs.lemmas.Bool.Decides.{nat_tests}
use Rattle.word_spec.specs.Words.{add}
use Rattle.bilv_spec.specs.Points.{file_row}
use Rattle.bilv_spec.proofs.PointSteps.{there}
use Rattle.machine_spec.specs.Machine.{Row}
use Rattle.frame_spec.specs.Frames as contracts
use Rattle.frame_spec.specs.Frames.{contract_at}
use Rattle.frame_spec.specs.FramePoints as points
use Rattle.frame_spec.specs.FramePoints.{is_contract_end}
use Rattle.frame_spec.specs.FrameRuns.{links_by}
use Rattle.graph_nodes.specs.declared.nodes.Letter.{Letter}
use Rattle.graph_nodes.specs.declared.nodes.Letter.TheVariants.{Next, Jump, Call, Return}
use Rattle.graph_nodes.specs.declared.nodes.Successor.{Successor}
use Rattle.graph_nodes.specs.declared.nodes.Node.{Node}
use Rattle.graph_nodes.specs.Graphs.{row_links, IsNode}
use Rattle.program_points.specs.declared.values.Frame.{Frame}
use Rattle.program_points.specs.declared.values.End.{End}
use Rattle.program_points.specs.Listed.{AreCuts}
use Rattle.program_points.specs.Tables.{frame, frame_at, stack_at, ends_of, is_call, is_among, is_stepped, linked}
use Rattle.program_points.proofs.Lists.{truth}
use Rattle.program_points.proofs.Stacked.{stack_none}
use Rattle.program_points.proofs.Ended.{stack_frame, end_stack}

-- a call is among successors
call_in : (xs : List Successor) → list_any (λ s. is_call s.letter) xs ≡ true → (x : Successor) × Contains xs x × (x.letter ≡ Call)
call_in [] h = absurd (cc)
call_in (y ∷ xs) h = by y.letter refl (λ t. call_in xs t)
  where
    later : (l : Letter) → is_call l ≡ false → y.letter ≡ l →
        (list_any (λ (s : Successor). is_call s.letter) xs ≡ true → (x : Successor) × Contains xs x × (x.letter ≡ Call)) →
        (x : Successor) × Contains (y ∷ xs) x × (x.letter ≡ Call)
    later l n e rest =
        let t : is_call y.letter ≡ false = ap is_call e ∙ n in
        let q = rest (sym (ap (λ b. b || list_any (λ (s : Successor). is_call s.letter) xs) t) ∙ h) in (q.0, there y xs q.0 q.1, q.2)

    by : (l : Letter) → y.letter ≡ l → (list_any (λ (s : Successor). is_call s.letter) xs ≡ true → (x : Successor) × Contains xs x × (x.letter ≡ Call)) →
        (x : Successor) × Contains (y ∷ xs) x × (x.letter ≡ Call)
    by Call e rest = (y, (0, omega arith, refl), e)
    by Next e rest = later Next refl e rest
    by Jump e rest = later Jump refl e rest
    by Return e rest = later Return refl e rest

-- the stack of a number is deeper than the point's where it is the one behind the call
abbrev IsDeeper : (own there : List ℕ) (called n : ℕ) → Type 0
IsDeeper own there called n = nat_lt (length own) (length there) ≡ (not (called == 0) && (n == called))

no_call_deeper : (own there : List ℕ) (called n : ℕ) → length there ≤ length own → called ≡ 0 → IsDeeper own there called n
no_call_deeper own there called n le z =
    let l : nat_lt (length own) (length there) ≡ false = grind (arith, nat_tests) in
    let r : (called == 0) ≡ true = grind (arith, nat_tests) in
    l ∙ sym (ap (λ b. not b && (n == called)) r)

not_deeper : (own there : List ℕ) (called n : ℕ) → length there ≤ length own → (n == called) ≡ false → IsDeeper own there called n
not_deeper own there called n le z =
    let l : nat_lt (length own) (length there) ≡ false = grind (arith, nat_tests) in
    l ∙ sym (ap (λ b. not (called == 0) && b) z ∙ none (not (called == 0)))
  where
    none : (b : Bool) → (b && false) ≡ false
    none true = refl
    none false = refl

deeper : (own there : List ℕ) (called : ℕ) → length there ≡ length own + 1 → (called == 0) ≡ false → IsDeeper own there called called
deeper own there called e z =
    let l : nat_lt (length own) (length there) ≡ true = grind (arith, nat_tests) in
    let r : (called == called) ≡ true = grind (arith, nat_tests) in
    l ∙ sym (ap (λ b. not b && (called == called)) z ∙ r)

-- the tests of the code and those of the definition
swap : (among here : Bool) → (here && among) ≡ (among && (true && here) && true)
swap true true = refl
swap true false = refl
swap false true = refl
swap false false = refl

none_here : (among links : Bool) → false ≡ (among && false && links)
none_here true true = refl
none_here true false = refl
none_here false true = refl
none_here false false = refl

no_link : (among here : Bool) → false ≡ (among && here && false)
no_link true true = refl
no_link true false = refl
no_link false true = refl
no_link false false = refl

tests : (stepped : List ℕ) (called : ℕ) (e : End) (links none : Bool) →
    is_stepped stepped (if links && not none then Some called else None) e ≡ (is_among stepped e.at && (not none && (e.stack == called)) && links)
tests stepped called e true false = swap (is_among stepped e.at) (e.stack == called)
tests stepped called e true true = none_here (is_among stepped e.at) true
tests stepped called e false none = no_link (is_among stepped e.at) (not none && (e.stack == called))

pub links_is : (o : Option Row) → row_links o ≡ links_by o
links_is None = refl
links_is (Some row) = refl

module _ (frames : List Frame) (low : (i : ℕ) (f : Frame) → slice_get frames i ≡ Some f → f.below ≤ i) (narrow : Bool) (n : Node) (stack called : ℕ)
    (fits : stack ≤ length frames)
    (pushes : (x : Successor) → Contains n.successors.items x → x.letter ≡ Call → frame_at frames called ≡ Some (frame (add 32 n.at n.length) stack))
    (none : list_any (λ s. is_call s.letter) n.successors.items ≡ false → called ≡ 0) where
  abbrev Deep : ℕ → Type 0
  Deep m = IsDeeper (stack_at frames stack) (stack_at frames m) called m

  pushed : (x : Successor) → Contains n.successors.items x → x.letter ≡ Call → stack_at frames called ≡ add 32 n.at n.length ∷ stack_at frames stack
  pushed x h l = stack_frame frames low called (frame (add 32 n.at n.length) stack) (pushes x h l)

  some_called : (x : Successor) → Contains n.successors.items x → x.letter ≡ Call → (called == 0) ≡ false
  some_called x h l = elim (truth (called == 0)) [
    | inr f ↦ f
    | inl t ↦ absurd (let z : called ≡ 0 = grind (arith, nat_tests) in
        let e : [] ≡ add 32 n.at n.length ∷ stack_at frames stack = sym (stack_none frames) ∙ ap (stack_at frames) (sym z) ∙ pushed x h l in cc)
  ]

  -- a stack that is no deeper than the point's
  shallow : (m : ℕ) → length (stack_at frames m) ≤ length (stack_at frames stack) → Deep m
  shallow m le = elim (truth (list_any (λ s. is_call s.letter) n.successors.items)) [
    | inr f ↦ no_call_deeper (stack_at frames stack) (stack_at frames m) called m le (none f)
    | inl t ↦ (let x = call_in n.successors.items t in
        let l : length (stack_at frames called) ≡ length (stack_at frames stack) + 1 = (let p = ap length (pushed x.0 x.1 x.2) in omega arith) in
        elim (truth (m == called)) [
          | inr f ↦ not_deeper (stack_at frames stack) (stack_at frames m) called m le f
          | inl e ↦ absurd (let s : m ≡ called = grind (arith, nat_tests) in
              let q : length (stack_at frames m) ≡ length (stack_at frames called) = ap (λ z. length (stack_at frames z)) s in omega arith)
        ])
  ]

  behind : (x : Successor) → Contains n.successors.items x → x.letter ≡ Call → Deep called
  behind x h l =
      let p : length (stack_at frames called) ≡ length (stack_at frames stack) + 1 = (let q = ap length (pushed x h l) in omega arith) in
      deeper (stack_at frames stack) (stack_at frames called) called p (some_called x h l)

  under : (f : Frame) → frame_at frames stack ≡ Some f → Deep f.below
  under f is = shallow f.below (let q = ap length (stack_frame frames low stack f is) in omega arith)

  deep : (e : End) → Contains (ends_of narrow n (frame_at frames stack) stack called) e → Deep e.stack
  deep e h =
      end_stack frames low narrow n.returns n.successors.items n.at (add 32 n.at n.length) stack called fits pushes Deep (shallow stack (omega arith)) behind under e
      h

  -- an end is a call that is stepped over by the tests of the code and of the definition alike
  pub step_is : (f : contracts.Frame) (heads stepped : List ℕ) → AreCuts f heads stepped → IsNode f.program n → (q : points.Point) → q.at ≡ n.at →
      q.stack ≡ stack_at frames stack → (e : End) → Contains (ends_of narrow n (frame_at frames stack) stack called) e →
      is_contract_end f q (stack_at frames e.stack) e.at ≡ is_stepped stepped (linked n.links called) e
  step_is f heads stepped cuts is q at own e h =
      ap (λ b. b && nat_lt (length q.stack) (length (stack_at frames e.stack)) && links_by (file_row f.program q.at)) (cuts.stepped e.at)
      ∙ ap (λ (l : List ℕ). is_among stepped e.at && nat_lt (length l) (length (stack_at frames e.stack)) && links_by (file_row f.program q.at)) own
      ∙ ap (λ b. is_among stepped e.at && b && links_by (file_row f.program q.at)) (deep e h)
      ∙ ap (λ b. is_among stepped e.at && (not (called == 0) && (e.stack == called)) && b) (ap (λ a. links_by (file_row f.program a)) at
      ∙ sym (links_is (file_row f.program n.at)) ∙ sym is.links)
      ∙ sym (tests stepped called e n.links (called == 0))
