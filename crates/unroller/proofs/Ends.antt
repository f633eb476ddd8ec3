-- The ends of a point at its node are its edges, by number.
use Rattle.std.proofs.Common.{◌≡◌, inl, inr, refl, ap, sym, ◌∙◌, subst, arith, ℕ, zero, suc, ◌%◌, ◌≤◌, Bool, true, false, Option, Some, None, List, [], ◌∷◌, ◌++◌, length}
use Rattle.std.specs.Prelude.{Contains, ◌↔◌, ◌||◌, not, filter, if◌then◌else◌}
use Rattle.std.specs.List.{filter_map, cons_option}
use Rattle.std.specs.BTreeMap.{BTreeMap}
use Rattle.word_spec.specs.Words.{add}
use Rattle.machine_spec.specs.Machine.{Row, unit, IsAtPlace}
use Rattle.bilv_spec.specs.Run.{Program}
use Rattle.bilv_spec.specs.Points.{Point, EdgeEnd, ToAddress, edges, edges_by, leads_on, fall_ends, jump_ends, file_row}
use Rattle.bilv_spec.proofs.PointSteps.{same_number, there, in_left, in_right}
use Rattle.bilv_spec.proofs.PointsInGraph.{split_in, of_filter, of_distinct}
use Rattle.graph_nodes.specs.declared.nodes.Node.{Node}
use Rattle.graph_nodes.specs.declared.nodes.Letter.{Letter}
use Rattle.graph_nodes.specs.declared.nodes.Letter.TheVariants.{Next, Jump, Call, Return}
use Rattle.graph_nodes.specs.declared.nodes.Successor.{Successor}
use Rattle.graph_nodes.specs.Graphs.{IsNode, row_length}
use Rattle.program_points.specs.declared.values.Frame.{Frame}
use Rattle.program_points.specs.declared.values.End.{End}
use Rattle.program_points.specs.Listed.{HasOneWay}
use Rattle.program_points.specs.Tables.{end, frame_at, stack_at, is_next, jumps_of, ends_of, successor_end, back_end, listed, IsTable}
use Rattle.program_points.proofs.Pinned.{are as ends_are}
use Rattle.program_points.proofs.Ways.{ways as ways_are}
use Rattle.program_points.proofs.Ended.{end_low}
use Rattle.program_points.proofs.Stacked.{one_number}
use Rattle.unroller.specs.Led.{goes_on, next_of, IsCalledBy}

-- filtered elements give no other ends
more_by : (o : Option End) (b : Bool) (few all : List End) (y : End) → (Contains few y → Contains all y) → Contains (if b then cons_option o few else few) y →
    Contains (cons_option o all) y
more_by None true few all y g h = g h
more_by None false few all y g h = g h
more_by (Some w) true few all y g (zero, l, e) = (0, omega arith, e)
more_by (Some w) true few all y g (suc i, l, e) = there w all y (g (i, omega arith, e))
more_by (Some w) false few all y g h = there w all y (g h)

filter_some : (f : Successor → Option End) (test : Successor → Bool) (x : Successor) (xs : List Successor) (b : Bool) → test x ≡ b →
    filter_map f (filter test (x ∷ xs)) ≡ (if b then cons_option (f x) (filter_map f (filter test xs)) else filter_map f (filter test xs))
filter_some f test x xs true e = ap (λ (b : Bool). filter_map f (if b then x ∷ filter test xs else filter test xs)) e
filter_some f test x xs false e = ap (λ (b : Bool). filter_map f (if b then x ∷ filter test xs else filter test xs)) e

more_ends : (f : Successor → Option End) (test : Successor → Bool) (xs : List Successor) (y : End) → Contains (filter_map f (filter test xs)) y →
    Contains (filter_map f xs) y
more_ends f test [] y h = h
more_ends f test (x ∷ xs) y h =
    more_by (f x) (test x) (filter_map f (filter test xs)) (filter_map f xs) y (more_ends f test xs y) (subst
    (λ (l : List End). Contains l y) (filter_some f test x xs (test x) refl) h)

in_cons : (o : Option End) (ys : List End) (y : End) → o ≡ Some y → Contains (cons_option o ys) y
in_cons None ys y e = absurd (cc)
in_cons (Some w) ys y e = (0, omega arith, (cc))

past_cons : (o : Option End) (ys : List End) (y : End) → Contains ys y → Contains (cons_option o ys) y
past_cons None ys y h = h
past_cons (Some w) ys y h = there w ys y h

some_in : (f : Successor → Option End) (xs : List Successor) (x : Successor) (y : End) → Contains xs x → f x ≡ Some y → Contains (filter_map f xs) y
some_in f [] x y (i, h, e) s = absurd (omega arith)
some_in f (z ∷ xs) x y (zero, h, e) s = in_cons (f z) (filter_map f xs) y (ap f e ∙ s)
some_in f (z ∷ xs) x y (suc i, h, e) s = past_cons (f z) (filter_map f xs) y (some_in f xs x y (i, omega arith, e) s)

-- a successor that is the next address, if one is
next_by : (x : Successor) (xs : List Successor) (b : Bool) → is_next x.letter ≡ b →
    (goes_on xs ≡ true → (y : Successor) × Contains xs y × (is_next y.letter ≡ true)) → (b || goes_on xs) ≡ true →
    (y : Successor) × Contains (x ∷ xs) y × (is_next y.letter ≡ true)
next_by x xs true e g h = (x, (0, omega arith, refl), e)
next_by x xs false e g h = (let q = g h in (q.0, there x xs q.0 q.1, q.2))

next_in : (xs : List Successor) → goes_on xs ≡ true → (y : Successor) × Contains xs y × (is_next y.letter ≡ true)
next_in [] h = absurd (cc)
next_in (x ∷ xs) h = next_by x xs (is_next x.letter) refl (next_in xs) h

goes_by : (x : Successor) (xs : List Successor) (b : Bool) → is_next x.letter ≡ b → goes_on xs ≡ true → (is_next x.letter || goes_on xs) ≡ true
goes_by x xs true e h = ap (λ (b : Bool). b || goes_on xs) e
goes_by x xs false e h = ap (λ (b : Bool). b || goes_on xs) e ∙ h

goes_next : (xs : List Successor) (a : ℕ) → Contains xs (record { letter = Next; to = a }) → goes_on xs ≡ true
goes_next [] a (i, w, e) = absurd (omega arith)
goes_next (x ∷ xs) a (zero, w, e) = ap (λ (s : Successor). is_next s.letter || goes_on xs) e
goes_next (x ∷ xs) a (suc i, w, e) = goes_by x xs (is_next x.letter) refl (goes_next xs a (i, omega arith, e))

is_the_next : (l : Letter) → is_next l ≡ true → l ≡ Next
is_the_next Next h = refl
is_the_next Jump h = absurd (cc)
is_the_next Call h = absurd (cc)
is_the_next Return h = absurd (cc)

one_fall : (b : Bool) (stack : List ℕ) (a c : ℕ) → Contains (if b then ToAddress stack a ∷ [] else []) (ToAddress stack c) → c ≡ a
one_fall true stack a c (zero, w, e) = (let q : ToAddress stack a ≡ ToAddress stack c = e in cc)
one_fall true stack a c (suc i, w, e) = absurd (omega arith)
one_fall false stack a c (i, w, e) = absurd (omega arith)

multiple : (narrow : Bool) (a : ℕ) → leads_on narrow (ToAddress [] a) ≡ true → IsAtPlace narrow a
multiple narrow a h = same_number (a % unit narrow) 0 h

module _ (p : Program) (n : Node) (frames : List Frame) (numbers : BTreeMap (ℕ ×
    ℕ) ℕ) (turns stack called : ℕ) (row : Row) (is : IsNode p n) (way : HasOneWay p) (table : IsTable frames numbers)
    (fits : stack ≤ length frames) (calls : IsCalledBy n stack frames called) (some : file_row p n.at ≡ Some row) where
  abbrev f : Option Frame
  f = frame_at frames stack

  abbrev jumps : List End
  jumps = jumps_of p.machine.narrow n f stack called

  abbrev all : List End
  all = jumps ++ listed (next_of n stack)

  abbrev point : Point
  point = record { turns = turns; stack = stack_at frames stack; at = n.at }

  abbrev end_at : End → EdgeEnd
  end_at e = ToAddress (stack_at frames e.stack) e.at

  jump_in : (e : End) → Contains jumps e → Contains (ends_of p.machine.narrow n f stack called) e
  jump_in e h = elim (split_in (filter_map (successor_end n.returns f stack called) (filter (λ s. not (is_next s.letter)) n.successors.items))
      (listed (back_end p.machine.narrow n.returns f)) e h) [
        | inl q ↦ in_left (filter_map (successor_end n.returns f stack called) n.successors.items) (listed (back_end p.machine.narrow n.returns f)) e
            (more_ends (successor_end n.returns f stack called) (λ s. not (is_next s.letter)) n.successors.items e q)
        | inr q ↦ in_right (filter_map (successor_end n.returns f stack called) n.successors.items) (listed (back_end p.machine.narrow n.returns f)) e q
      ]

  edge_of_end : (e : End) → Contains (ends_of p.machine.narrow n f stack called) e → Contains (edges p point) (end_at e)
  edge_of_end e h = (ends_are p n frames turns stack called is way table.below fits calls (stack_at frames e.stack) e.at).1 (e, h, refl, refl)

  end_placed : (e : End) → Contains (ends_of p.machine.narrow n f stack called) e → IsAtPlace p.machine.narrow e.at
  end_placed e h = multiple p.machine.narrow e.at ((of_filter (leads_on p.machine.narrow) (edges_by p point (file_row p n.at)) (end_at e)
      (of_distinct (filter (leads_on p.machine.narrow) (edges_by p point (file_row p n.at))) (end_at e) (edge_of_end e h))).1)

  -- a successor that is the next address is the one behind the row
  next_end : (x : Successor) → Contains n.successors.items x → is_next x.letter ≡ true → Contains (ends_of p.machine.narrow n f stack called) (end stack x.to) ×
      (x.to ≡ add 32 n.at n.length)
  next_end x h l =
      let letter = is_the_next x.letter l in
      let same : x ≡ record { letter = Next; to = x.to } = ap (λ (z : Letter). let s : Successor = record { letter = z; to = x.to } in s) letter in
      let inside : Contains n.successors.items (record { letter = Next; to = x.to }) = subst (λ (z : Successor). Contains n.successors.items z) same h in
      let has : Contains (ends_of p.machine.narrow n f stack called) (end stack x.to) =
      in_left (filter_map (successor_end n.returns f stack called) n.successors.items) (listed (back_end p.machine.narrow n.returns f)) (end stack x.to)
      (some_in (successor_end n.returns f stack called) n.successors.items (record { letter = Next; to = x.to }) (end stack x.to) inside refl) in
      let fall = (ways_are p n frames turns stack called row is way table.below fits calls some (stack_at frames stack) x.to
      (end_placed (end stack x.to) has)).0.1 (refl, inside) in (
        has,
        one_fall (row.successors n.at).next (stack_at frames stack) (add 32 n.at row.length) x.to fall ∙ ap
            (λ (z : ℕ). add 32 n.at z) (sym (is.length ∙ ap row_length some)),
      )

  next_listed : (b : Bool) → goes_on n.successors.items ≡ b → (e : End) → Contains (listed (if b then Some (end stack (add 32 n.at n.length)) else None)) e →
      (e ≡ end stack (add 32 n.at n.length)) × Contains (ends_of p.machine.narrow n f stack called) e
  next_listed true g e (zero, w, q) =
      let x = next_in n.successors.items g in
      let r = next_end x.0 x.1 x.2 in
      (sym q, subst (λ (z : End). Contains (ends_of p.machine.narrow n f stack called) z) (ap (end stack) r.1 ∙ q) r.0)
  next_listed true g e (suc i, w, q) = absurd (omega arith)
  next_listed false g e (i, w, q) = absurd (omega arith)

  pub of_next : (e : End) → Contains (listed (next_of n stack)) e → (e ≡ end stack (add 32 n.at n.length)) × Contains (ends_of p.machine.narrow n f stack called) e
  of_next e h = next_listed (goes_on n.successors.items) refl e h

  -- each of the ends is an end of the node
  pub all_in : (e : End) → Contains all e → Contains (ends_of p.machine.narrow n f stack called) e
  all_in e h = elim (split_in jumps (listed (next_of n stack)) e h) [ inl q ↦ jump_in e q | inr q ↦ (of_next e q).1 ]

  pub all_edge : (e : End) → Contains all e → Contains (edges p point) (end_at e)
  all_edge e h = edge_of_end e (all_in e h)

  pub all_low : (e : End) → Contains all e → e.stack ≤ length frames
  all_low e h = end_low frames table.below p.machine.narrow n.returns n.successors.items n.at (add 32 n.at n.length) stack called fits calls e (all_in e h)

  pub all_placed : (e : End) → Contains all e → IsAtPlace p.machine.narrow e.at
  all_placed e h = end_placed e (all_in e h)

  next_there : (b : Bool) → goes_on n.successors.items ≡ b → b ≡ true →
      Contains (listed (if b then Some (end stack (add 32 n.at n.length)) else None)) (end stack (add 32 n.at n.length))
  next_there true g h = (0, omega arith, refl)
  next_there false g h = absurd (cc)

  -- each edge to an address is at one of the ends
  pub edge_all : (s : List ℕ) (a : ℕ) → Contains (edges p point) (ToAddress s a) → (e : End) × Contains all e × (stack_at frames e.stack ≡ s) × (e.at ≡ a)
  edge_all s a h =
      let q = of_filter (leads_on p.machine.narrow) (edges_by p point (file_row p n.at)) (ToAddress s a)
      (of_distinct (filter (leads_on p.machine.narrow) (edges_by p point (file_row p n.at))) (ToAddress s a) h) in
      let placed = multiple p.machine.narrow a q.1 in
      let w = ways_are p n frames turns stack called row is way table.below fits calls some s a placed in
      let inside : Contains (jump_ends p point row (row.successors n.at) ++ fall_ends point row (row.successors n.at)) (ToAddress s a) =
      subst (λ (o : Option Row). Contains (edges_by p point o) (ToAddress s a)) some q.0 in
      elim (split_in (jump_ends p point row (row.successors n.at)) (fall_ends point row (row.successors n.at)) (ToAddress s a) inside) [
        | inl j ↦ (let r = w.1.0 j in (r.0, in_left jumps (listed (next_of n stack)) r.0 r.1, r.2, r.3))
        | inr g ↦ (let r = w.0.0 g in
            let goes = goes_next n.successors.items a r.1 in
            let at = (next_end (record { letter = Next; to = a }) r.1 refl).1 in (
              end stack (add 32 n.at n.length),
              in_right jumps (listed (next_of n stack)) (end stack (add 32 n.at n.length))
                  (next_there (goes_on n.successors.items) refl goes),
              sym r.0,
              sym at,
            ))
      ]

  one_of : (e d : End) → e.stack ≤ length frames → d.stack ≤ length frames → stack_at frames e.stack ≡ stack_at frames d.stack → e.at ≡ d.at → e ≡ d
  one_of e d le ld same at =
      let number = one_number frames numbers table e.stack e.stack d.stack (omega arith) le ld same in
      ap (λ (z : ℕ). let r : End = record { stack = z; at = e.at } in r) number ∙ ap (λ (z : ℕ). let r : End = record { stack = d.stack; at = z } in r) at

  -- an end is by a jump exactly where the row's jump leads there
  pub by_jump : (e : End) → Contains all e → Contains (jump_ends p point row (row.successors n.at)) (end_at e) ↔ Contains jumps e
  by_jump e h =
      let w = (ways_are p n frames turns stack called row is way table.below fits calls some (stack_at frames e.stack) e.at (all_placed e h)).1 in (
        (λ j. let r = w.0 j in subst (λ (z : End). Contains jumps z)
            (one_of r.0 e (all_low r.0 (in_left jumps (listed (next_of n stack)) r.0 r.1)) (all_low e h) r.2 r.3) r.1),
        (λ j. w.1 (e, j, refl, refl)),
      )

  -- and by going on exactly where it is the end of the next address
  pub by_fall : (e : End) → Contains all e → Contains (fall_ends point row (row.successors n.at)) (end_at e) ↔ Contains (listed (next_of n stack)) e
  by_fall e h =
      let w = (ways_are p n frames turns stack called row is way table.below fits calls some (stack_at frames e.stack) e.at (all_placed e h)).0 in (
        (λ j. let r = w.0 j in
            let goes = goes_next n.successors.items e.at r.1 in
            let at = (next_end (record { letter = Next; to = e.at }) r.1 refl).1 in
            subst (λ (z : End). Contains (listed (next_of n stack)) z) (sym (one_of e (end stack (add 32 n.at n.length)) (all_low e h) fits r.0 at))
            (next_there (goes_on n.successors.items) refl goes)),
        (λ j. let r = of_next e j in
            let s : stack_at frames e.stack ≡ stack_at frames stack = ap (λ (z : End). stack_at frames z.stack) r.0 in
            let to : e.at ≡ add 32 n.at n.length = ap (λ (z : End). z.at) r.0 in
            let goes = next_goes e j in
            let x = next_in n.successors.items goes in
            let q = next_end x.0 x.1 x.2 in
            let same : x.0 ≡ record { letter = Next; to = e.at } =
            ap (λ (z : Letter). let t : Successor = record { letter = z; to = x.0.to } in t) (is_the_next x.0.letter x.2) ∙ ap
            (λ (z : ℕ). let t : Successor = record { letter = Next; to = z } in t) (q.1 ∙ sym to) in
            w.1 (s, subst (λ (z : Successor). Contains n.successors.items z) same x.1)),
      )
    where
      goes_listed : (b : Bool) (e : End) → Contains (listed (if b then Some (end stack (add 32 n.at n.length)) else None)) e → b ≡ true
      goes_listed true e h = refl
      goes_listed false e (i, w, q) = absurd (omega arith)

      next_goes : (e : End) → Contains (listed (next_of n stack)) e → goes_on n.successors.items ≡ true
      next_goes e h = goes_listed (goes_on n.successors.items) e h
