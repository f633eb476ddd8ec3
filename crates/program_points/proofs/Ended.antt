-- The ends of a node are the edges that its successors give.
use Rattle.std.proofs.Common.{◌≡◌, inl, inr, ℕ, zero, suc, ◌%◌, ◌<◌, ◌≤◌, refl, ap, sym, ◌∙◌, subst, arith, List, [], ◌∷◌, length, get_or, Option, Some, None, Bool, true, false}
use Rattle.std.specs.Prelude.{map, slice_get, Contains, ◌&&◌, if◌then◌else◌}
use Rattle.std.specs.List.{filter_map, cons_option}
use Rattle.std.proofs.lemmas.Option.{slice_get-get_or, slice_get_within}
use Rattle.machine_spec.specs.Machine.{unit, is_place, IsAtPlace}
use Rattle.bilv_spec.specs.Points.{is_top}
use Rattle.bilv_spec.specs.Graph as graph
use Rattle.bilv_spec.specs.Graph.{NextLetter, JumpLetter, CallLetter, ReturnLetter}
use Rattle.bilv_spec.proofs.PointSteps.{there, in_map, in_left, in_right, same_number}
use Rattle.bilv_spec.proofs.PointsInGraph.{of_map, split_in}
use Rattle.graph_nodes.specs.declared.nodes.Letter.{Letter}
use Rattle.graph_nodes.specs.declared.nodes.Letter.TheVariants.{Next, Jump, Call, Return}
use Rattle.graph_nodes.specs.declared.nodes.Successor.{Successor}
use Rattle.graph_nodes.specs.Graphs.{letter_of, successor_of}
use Rattle.program_points.specs.declared.values.Frame.{Frame}
use Rattle.program_points.specs.declared.values.End.{End}
use Rattle.program_points.specs.Tables.{end, has_top, jump_end, letter_end, successor_end, return_end, back_end, listed, ends_from, frame, frame_at, stack_at}
use Rattle.program_points.proofs.Edges.{IsEdge, goes, jumps, calls, backs, tests_zero}
use Rattle.program_points.proofs.Stacked.{stack_none, stack_next}

both : (a b : ℕ) (xs ys : List ℕ) → a ∷ xs ≡ b ∷ ys → (a ≡ b) × (xs ≡ ys)
both a b xs ys e = ((cc), (cc))

same_letter : (l m : Letter) → letter_of l ≡ letter_of m → l ≡ m
same_letter Next Next e = refl
same_letter Jump Jump e = refl
same_letter Call Call e = refl
same_letter Return Return e = refl
same_letter Next Jump e = absurd (cc)
same_letter Next Call e = absurd (cc)
same_letter Next Return e = absurd (cc)
same_letter Jump Next e = absurd (cc)
same_letter Jump Call e = absurd (cc)
same_letter Jump Return e = absurd (cc)
same_letter Call Next e = absurd (cc)
same_letter Call Jump e = absurd (cc)
same_letter Call Return e = absurd (cc)
same_letter Return Next e = absurd (cc)
same_letter Return Jump e = absurd (cc)
same_letter Return Call e = absurd (cc)

put_some : (o : Option End) (ys : List End) (y : End) → o ≡ Some y → Contains (cons_option o ys) y
put_some None ys y e = absurd (cc)
put_some (Some w) ys y e = (0, omega arith, (cc))

pass_some : (o : Option End) (ys : List End) (y : End) → Contains ys y → Contains (cons_option o ys) y
pass_some None ys y h = h
pass_some (Some w) ys y h = there w ys y h

module _ {X : Type 0} where
  some_by : (f : X → Option End) (x : X) (xs : List X) (y : End) (o : Option End) → f x ≡ o →
      (Contains (filter_map f xs) y → (z : X) × Contains xs z × (f z ≡ Some y))
      → Contains (cons_option o (filter_map f xs)) y → (z : X) × Contains (x ∷ xs) z × (f z ≡ Some y)
  some_by f x xs y None e g h = (let q = g h in (q.0, there x xs q.0 q.1, q.2))
  some_by f x xs y (Some w) e g (zero, l, q) = (x, (0, omega arith, refl), e ∙ ap Some q)
  some_by f x xs y (Some w) e g (suc i, l, q) = (let r = g (i, omega arith, q) in (r.0, there x xs r.0 r.1, r.2))

  of_some : (f : X → Option End) (xs : List X) (y : End) → Contains (filter_map f xs) y → (x : X) × Contains xs x × (f x ≡ Some y)
  of_some f [] y (i, h, e) = absurd (omega arith)
  of_some f (x ∷ xs) y h = some_by f x xs y (f x) refl (of_some f xs y) h

  in_some : (f : X → Option End) (xs : List X) (x : X) (y : End) → Contains xs x → f x ≡ Some y → Contains (filter_map f xs) y
  in_some f [] x y (i, h, e) s = absurd (omega arith)
  in_some f (z ∷ xs) x y (zero, h, e) s = put_some (f z) (filter_map f xs) y (ap f e ∙ s)
  in_some f (z ∷ xs) x y (suc i, h, e) s = pass_some (f z) (filter_map f xs) y (in_some f xs x y (i, omega arith, e) s)

-- the frame of a stack has its top
module _ (frames : List Frame) (low : (i : ℕ) (f : Frame) → slice_get frames i ≡ Some f → f.below ≤ i) where
  pub stack_frame : (n : ℕ) (f : Frame) → frame_at frames n ≡ Some f → stack_at frames n ≡ f.top ∷ stack_at frames f.below
  stack_frame zero f e = absurd (cc)
  stack_frame (suc i) f e = stack_next frames i f e (low i f e)

  pub no_frame : (n : ℕ) → n ≤ length frames → frame_at frames n ≡ None → stack_at frames n ≡ []
  no_frame zero le e = stack_none frames
  no_frame (suc i) le e = absurd (let q = there_is i (omega arith) in cc)
    where
      there_is : (k : ℕ) → k < length frames → slice_get frames k ≡ Some (get_or frames k (frame 0 0))
      there_is k h = slice_get-get_or frames k (frame 0 0) h

  top_by : (o : Option Frame) (n a : ℕ) → n ≤ length frames → frame_at frames n ≡ o → is_top (stack_at frames n) a ≡ has_top o a
  top_by None n a le e = ap (λ l. is_top l a) (no_frame n le e)
  top_by (Some f) n a le e = ap (λ l. is_top l a) (stack_frame n f e)

  module _ (narrow returns : Bool) (items : List Successor) (at behind : ℕ) (stack called : ℕ) (fits : stack ≤ length frames)
      (pushes : (x : Successor) → Contains items x → x.letter ≡ Call → frame_at frames called ≡ Some (frame behind stack)) where
    abbrev top : Option Frame
    top = frame_at frames stack

    abbrev Edge : List ℕ → ℕ → Type 0
    Edge s a = IsEdge narrow returns behind (stack_at frames stack) (map successor_of items) s a

    abbrev ends : List End
    ends = ends_from narrow returns items top stack called

    tops : (a : ℕ) → (returns && is_top (stack_at frames stack) a) ≡ (returns && has_top top a)
    tops a = ap (λ b. returns && b) (top_by top stack a fits refl)

    called_stack : (x : Successor) → Contains items x → x.letter ≡ Call → stack_at frames called ≡ behind ∷ stack_at frames stack
    called_stack x h l = stack_frame called (frame behind stack) (pushes x h l)

    as_letter : (x : Successor) → Contains items x → (l : Letter) → x.letter ≡ l → Contains (map successor_of items) (graph.successor (letter_of l) x.to)
    as_letter x h l e =
        subst (λ (z : Letter). Contains (map successor_of items) (graph.successor (letter_of z) x.to)) e (in_map successor_of items x h)

    jump_by : (x : Successor) → Contains items x → x.letter ≡ Jump → (b : Bool) → (returns && has_top top x.to) ≡ b → (e : End) → jump_end b stack x.to ≡ Some e
        → Edge (stack_at frames e.stack) e.at
    jump_by x h l true t e q = absurd (cc)
    jump_by x h l false t e q =
        let r : end stack x.to ≡ e = (cc) in
        subst (λ (z : End). Edge (stack_at frames z.stack) z.at) r (jumps (as_letter x h Jump l) (tops x.to ∙ t) refl)

    by_letter : (x : Successor) → Contains items x → (l : Letter) → x.letter ≡ l → (e : End) → letter_end returns top stack called l x.to ≡ Some e
        → Edge (stack_at frames e.stack) e.at
    by_letter x h Next l e q =
        let r : end stack x.to ≡ e = (cc) in
        subst (λ (z : End). Edge (stack_at frames z.stack) z.at) r (goes (as_letter x h Next l) refl)
    by_letter x h Jump l e q = jump_by x h l (returns && has_top top x.to) refl e q
    by_letter x h Call l e q =
        let r : end called x.to ≡ e = (cc) in
        subst (λ (z : End). Edge (stack_at frames z.stack) z.at) r (calls (as_letter x h Call l) (called_stack x h l))
    by_letter x h Return l e q = absurd (cc)

    aligned_by : (b : Bool) (f : Frame) (e : End) → is_place narrow f.top ≡ b → (if b then Some (end f.below f.top) else None) ≡ Some e →
        IsAtPlace narrow f.top × (end f.below f.top ≡ e)
    aligned_by true f e t q = (same_number (f.top % unit narrow) 0 t, (cc))
    aligned_by false f e t q = absurd (cc)

    return_by : (o : Option Frame) → top ≡ o → returns ≡ true → (e : End) → return_end narrow o ≡ Some e → Edge (stack_at frames e.stack) e.at
    return_by None is r e q = absurd (cc)
    return_by (Some f) is r e q =
        let t = aligned_by (is_place narrow f.top) f e refl q in
        subst (λ (z : End). Edge (stack_at frames z.stack) z.at) t.1 (backs r (stack_frame stack f is) t.0)

    back_by : (b : Bool) → returns ≡ b → (e : End) → Contains (listed (back_end narrow b top)) e → Edge (stack_at frames e.stack) e.at
    back_by false r e (i, h, q) = absurd (omega arith)
    back_by true r e h = one (return_end narrow top) refl h
      where
        one : (o : Option End) → return_end narrow top ≡ o → Contains (listed o) e → Edge (stack_at frames e.stack) e.at
        one None is (i, l, q) = absurd (omega arith)
        one (Some w) is (zero, l, q) = return_by top refl r e (is ∙ ap Some q)
        one (Some w) is (suc i, l, q) = absurd (omega arith)

    -- each end is an edge
    pub end_edge : (e : End) → Contains ends e → Edge (stack_at frames e.stack) e.at
    end_edge e h = elim (split_in (filter_map (successor_end returns top stack called) items) (listed (back_end narrow returns top)) e h) [
      | inl s ↦ (let q = of_some (successor_end returns top stack called) items e s in by_letter q.0 q.1 q.0.letter refl e q.2)
      | inr b ↦ back_by returns refl e b
    ]

    pub of_letter : (l : Letter) (a : ℕ) → Contains (map successor_of items) (graph.successor (letter_of l) a) → (x : Successor) × Contains items x ×
        (x.letter ≡ l) × (x.to ≡ a)
    of_letter l a h =
        let q = of_map successor_of items (graph.successor (letter_of l) a) h in
        (q.0, q.1, same_letter q.0.letter l (ap (λ (z : graph.Successor). z.letter) q.2), ap (λ (z : graph.Successor). z.to) q.2)

    from_successor : (x : Successor) → Contains items x → (s a : ℕ) → x.to ≡ a → letter_end returns top stack called x.letter a ≡ Some (end s a) →
        Contains ends (end s a)
    from_successor x h s a t e =
        in_left (filter_map (successor_end returns top stack called) items) (listed (back_end narrow returns top)) (end s a)
        (in_some (successor_end returns top stack called) items x (end s a) h (ap (letter_end returns top stack called x.letter) t ∙ e))

    -- each edge is an end
    pub edge_end : (s : List ℕ) (a : ℕ) → Edge s a → (e : End) × Contains ends e × (stack_at frames e.stack ≡ s) × (e.at ≡ a)
    edge_end s a (goes h e) =
        let q = of_letter Next a h in
        (end stack a, from_successor q.0 q.1 stack a q.3 (ap (λ l. letter_end returns top stack called l a) q.2), sym e, refl)
    edge_end s a (jumps h t e) =
        let q = of_letter Jump a h in (
          end stack a,
          from_successor q.0 q.1 stack a q.3 (ap (λ l. letter_end returns top stack called l a) q.2 ∙ ap
              (λ b. jump_end b stack a) (sym (tops a) ∙ t)),
          sym e,
          refl,
        )
    edge_end s a (calls h e) =
        let q = of_letter Call a h in
        (end called a, from_successor q.0 q.1 called a q.3 (ap (λ l. letter_end returns top stack called l a) q.2), called_stack q.0 q.1 q.2 ∙ sym e, refl)
    edge_end s a (backs r e m) = popped top refl
      where
        aligned : (f : Frame) → f.top ≡ a → is_place narrow f.top ≡ true
        aligned f t = tests_zero (f.top % unit narrow) (ap (λ x. x % unit narrow) t ∙ m)

        popped : (o : Option Frame) → top ≡ o → (w : End) × Contains ends w × (stack_at frames w.stack ≡ s) × (w.at ≡ a)
        popped None is = absurd (let q : [] ≡ a ∷ s = sym (no_frame stack fits is) ∙ e in cc)
        popped (Some f) is =
            let q = both f.top a (stack_at frames f.below) s (sym (stack_frame stack f is) ∙ e) in
            let w : return_end narrow top ≡ Some (end f.below f.top) = ap (return_end narrow) is ∙ ap (λ b. if b then Some (end f.below f.top) else None) (aligned f q.0) in
            let v : back_end narrow returns top ≡ Some (end f.below f.top) = ap (λ b. back_end narrow b top) r ∙ w in (
              end f.below f.top,
              in_right (filter_map (successor_end returns top stack called) items) (listed (back_end narrow returns top)) (end f.below f.top)
                  (subst (λ (z : Option End). Contains (listed z) (end f.below f.top)) (sym v) (0, omega arith, refl)),
              q.1,
              q.0,
            )

    frame_low : (m : ℕ) (f : Frame) → frame_at frames m ≡ Some f → (m ≤ length frames) × (f.below ≤ length frames)
    frame_low zero f e = absurd (cc)
    frame_low (suc i) f e = (let l = slice_get_within frames i f e in let b = low i f e
        in ((let q : suc i ≤ length frames = omega arith in q), (let q : f.below ≤ length frames = omega arith in q)))

    -- what the stack of each end has, which is the point's own, the one behind its call, or the one below its top
    module _ (P : ℕ → Type 0) (own : P stack) (beyond : (x : Successor) → Contains items x → x.letter ≡ Call → P called)
        (under : (f : Frame) → top ≡ Some f → P f.below) where
      as_end : (m a : ℕ) (e : End) → P m → end m a ≡ e → P e.stack
      as_end m a e h r = subst (λ (z : End). P z.stack) r h

      at_jump : (a : ℕ) (b : Bool) (e : End) → jump_end b stack a ≡ Some e → P e.stack
      at_jump a true e q = absurd (cc)
      at_jump a false e q = as_end stack a e own (let r : end stack a ≡ e = (cc) in r)

      at_letter : (x : Successor) → Contains items x → (l : Letter) → x.letter ≡ l → (e : End) → letter_end returns top stack called l x.to ≡ Some e → P e.stack
      at_letter x h Next l e q = as_end stack x.to e own (let r : end stack x.to ≡ e = (cc) in r)
      at_letter x h Jump l e q = at_jump x.to (returns && has_top top x.to) e q
      at_letter x h Call l e q = as_end called x.to e (beyond x h l) (let r : end called x.to ≡ e = (cc) in r)
      at_letter x h Return l e q = absurd (cc)

      at_return : (o : Option Frame) → top ≡ o → (e : End) → return_end narrow o ≡ Some e → P e.stack
      at_return None is e q = absurd (cc)
      at_return (Some f) is e q = as_end f.below f.top e (under f is) (aligned_by (is_place narrow f.top) f e refl q).1

      at_one : (o : Option End) → return_end narrow top ≡ o → (e : End) → Contains (listed o) e → P e.stack
      at_one None is e (i, l, q) = absurd (omega arith)
      at_one (Some w) is e (zero, l, q) = at_return top refl e (is ∙ ap Some q)
      at_one (Some w) is e (suc i, l, q) = absurd (omega arith)

      at_back : (b : Bool) (e : End) → Contains (listed (back_end narrow b top)) e → P e.stack
      at_back false e (i, h, q) = absurd (omega arith)
      at_back true e h = at_one (return_end narrow top) refl e h

      pub end_stack : (e : End) → Contains ends e → P e.stack
      end_stack e h = elim (split_in (filter_map (successor_end returns top stack called) items) (listed (back_end narrow returns top)) e h) [
        | inl s ↦ (let q = of_some (successor_end returns top stack called) items e s in at_letter q.0 q.1 q.0.letter refl e q.2)
        | inr b ↦ at_back returns e b
      ]

    -- the stack of each end has a number
    pub end_low : (e : End) → Contains ends e → e.stack ≤ length frames
    end_low e h =
        end_stack (λ n. n ≤ length frames) fits (λ x c l. (frame_low called (frame behind stack) (pushes x c l)).0) (λ f is. (frame_low stack f is).1) e h
