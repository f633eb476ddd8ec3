-- A question about two functions is true of two readings exactly where the cells of both sides say so.
use Rattle.std.proofs.Common.{◌≡◌, refl, ap, sym, ◌∙◌, subst, ℕ, List, Bool, true, false, length}
use Rattle.std.specs.Prelude.{All}
use Rattle.word_spec.specs.State.{State}
use Rattle.bilv_spec.specs.Run.{Program}
use Rattle.bilv_spec.specs.Questions.{Reading, IsReading}
use Rattle.term_spec.specs.Terms.{TermReading}
use Rattle.walk_spec.specs.Unrolled.{Carried, UnrolledProgram}
use Rattle.term_spec.specs.WalkQuestions.{MeetsLines, HasAsked}
use Rattle.walk_laws.proofs.CellValues.{Agree}
use Rattle.pair_spec.specs.Links.{Link, ComparesAlike, asking}
use Rattle.call_spec.specs.Calls.{PairQuestion, PairOfStates, DifferenceOfExits}
use Rattle.pair_spec.specs.Pairs.{Readings, PairEndsBy, ReadingsDiffer, IsTrueOfPairOver}
use Rattle.pair_spec.specs.PairTerms.{SideTerm, SideCells, SideEnds, WalkLeaves, ExitsAs, MakesPairTrue, same_words, words_at, all_entry_words, all_exit_words}
use Rattle.pair_spec.specs.PairLayers.{IsPairSide}
use Rattle.pair_spec.proofs.LeavingRuns.{IsCarriedOut}
use Rattle.pair_spec.proofs.LinkWords.{words_in, linked_words, differing_words}
use Rattle.pair_spec.proofs.PairSides as sides

-- what only the question of the difference asks
side_ends : (u : UnrolledProgram) (r : Reading) (q : PairQuestion) → (q ≡ DifferenceOfExits → (o : Carried) × (pc : ℕ) × WalkLeaves u r o pc) → SideEnds u r q
side_ends u r PairOfStates f = tt
side_ends u r DifferenceOfExits f = f refl

exits_as : (q : PairQuestion) (xs ys : List ℕ) → (q ≡ DifferenceOfExits → same_words xs ys ≡ false) → ExitsAs q xs ys
exits_as PairOfStates xs ys f = tt
exits_as DifferenceOfExits xs ys f = f refl

ends_by : (a b : Program) (k : ℕ) (links : List Link) (r : Readings) (q : PairQuestion) → (q ≡ DifferenceOfExits → ReadingsDiffer a b k links r) →
    PairEndsBy a b k links r q
ends_by a b k links r PairOfStates f = tt
ends_by a b k links r DifferenceOfExits f = f refl

both_words : (xs ys vs ws : List ℕ) → xs ≡ vs → ys ≡ ws → same_words xs ys ≡ same_words vs ws
both_words xs ys vs ws e f = ap (λ z. same_words z ys) e ∙ ap (same_words vs) f

module _ (a b : Program) (k : ℕ) (links : List Link) (question : PairQuestion) (first_asked second_asked : ℕ → Bool) (u w : UnrolledProgram)
    (t x : SideTerm) (c d : SideCells) (alike : All ComparesAlike links) (one : IsPairSide a k false links question first_asked u t c)
    (two : IsPairSide b k true links question second_asked w x d) where
  abbrev pub first : Reading → TermReading
  first r = sides.read_as a k false links question first_asked u t c one r

  abbrev pub second : Reading → TermReading
  second r = sides.read_as b k true links question second_asked w x d two r

  abbrev pub IsTruePair : Readings → Type 0
  IsTruePair r = IsTrueOfPairOver a b first_asked second_asked k links r question

  abbrev Makes : TermReading → TermReading → Type 0
  Makes y z = MakesPairTrue question c d y z

  pub first_is : (r : Readings) → IsTruePair r → IsReading r.first
  first_is r h = record { state = h.first_entry.state; choice = h.first_choice }

  pub second_is : (r : Readings) → IsTruePair r → IsReading r.second
  second_is r h = record { state = h.second_entry.state; choice = h.second_choice }

  -- the words of the cells are those of the states
  module _ (r : Readings) (is : IsReading r.first) (si : IsReading r.second) (pc : r.first.state.pc ≡ u.entry) (other : r.second.state.pc ≡ w.entry) where
    entries_are : same_words (words_at (first r.first) c c.entries) (words_at (second r.second) d d.entries)
        ≡ same_words (words_in r.first.state (all_entry_words false links)) (words_in r.second.state (all_entry_words true links))
    entries_are =
        both_words _ _ _ _ (sides.entry_words_are a k false links question first_asked u t c one r.first is pc)
        (sides.entry_words_are b k true links question second_asked w x d two r.second si other)

    exits_are : question ≡ DifferenceOfExits → (o n : Carried) (at to : ℕ) (s z : State) → MeetsLines u r.first.state → MeetsLines w r.second.state →
        WalkLeaves u r.first o at → IsCarriedOut (asking false links a) s o at → WalkLeaves w r.second n to → IsCarriedOut (asking true links b) z n to →
        same_words (words_at (first r.first) c c.exits) (words_at (second r.second) d d.exits)
        ≡ same_words (words_in s (all_exit_words false links)) (words_in z (all_exit_words true links))
    exits_are e o n at to s z fl sl lo co ln cn =
        both_words _ _ _ _ (sides.exit_words_are a k false links question first_asked u t c one alike e r.first o at s is pc fl lo co)
        (sides.exit_words_are b k true links question second_asked w x d two alike e r.second n to z si other sl ln cn)

  -- readings of which the question is true have these words, and what was asked
  pub to_made : (r : Readings) → IsTruePair r →
      (r.first.state.pc ≡ u.entry) × (r.second.state.pc ≡ w.entry) × MakesPairTrue question c d (first r.first) (second r.second)
  to_made r h =
      let is = first_is r h in
      let si = second_is r h in
      let over = sides.over_to a k false links question first_asked u t c one r.first.state h.first_entry in
      let other = sides.over_to b k true links question second_asked w x d two r.second.state h.second_entry in
      let differ : question ≡ DifferenceOfExits → ReadingsDiffer a b k links r = λ e. subst (PairEndsBy a b k links r) e h.ends in
      let out : (e : question ≡ DifferenceOfExits) → (o : Carried) × (pc : ℕ) × WalkLeaves u r.first o pc
      × IsCarriedOut (asking false links a) (differ e).first_state o pc
      = λ e. sides.leaves_at a k false links question first_asked u t c one r.first h.first_choice h.first_entry (differ e).first_state (differ e).first in
      let left : (e : question ≡ DifferenceOfExits) → (o : Carried) × (pc : ℕ) × WalkLeaves w r.second o pc
      × IsCarriedOut (asking true links b) (differ e).second_state o pc
      = λ e. sides.leaves_at b k true links question second_asked w x d two r.second h.second_choice h.second_entry (differ e).second_state (differ e).second in
      let m = sides.to_root a k false links question first_asked u t c one r.first is over
      (side_ends u r.first question (λ e. let q = out e in (q.0, q.1, q.2))) in
      let n = sides.to_root b k true links question second_asked w x d two r.second si other
      (side_ends w r.second question (λ e. let q = left e in (q.0, q.1, q.2))) in (
        m.0,
        n.0,
        record {
          first_allowed = sides.allowed a k false links question first_asked u t c one r.first is m.1;
          second_allowed = sides.allowed b k true links question second_asked w x d two r.second si n.1;
          first_root = m.2;
          second_root = n.2;
          linked = entries_are r is si m.0 n.0 ∙ (linked_words links r.first.state r.second.state).1 h.linked;
          ends = exits_as question (words_at (first r.first) c c.exits) (words_at (second r.second) d d.exits)
              (λ e. let q = out e in let z = left e in let g = differ e in
              exits_are r is si m.0 n.0 e q.0 z.0 q.1 z.1 g.first_state g.second_state
              (sides.lines_are a k false links question first_asked u t c one r.first over)
              (sides.lines_are b k true links question second_asked w x d two r.second other) q.2 q.3 z.2 z.3
              ∙ (differing_words links g.first_state g.second_state).1 (g.line, g.apart));
        },
      )

  -- and back, where both have the asked bytes
  pub from_made : (r : Readings) → IsReading r.first → IsReading r.second → r.first.state.pc ≡ u.entry → r.second.state.pc ≡ w.entry →
      HasAsked u first_asked r.first.state.mem → HasAsked w second_asked r.second.state.mem → MakesPairTrue question c d (first r.first) (second r.second) →
      IsTruePair r
  from_made r is si pc other has have made =
      let m = sides.from_root a k false links question first_asked u t c one r.first is pc has made.first_root in
      let n = sides.from_root b k true links question second_asked w x d two r.second si other have made.second_root in
      record {
        first_choice = is.choice;
        second_choice = si.choice;
        first_entry = sides.over_from a k false links question first_asked u t c one r.first.state m.0;
        second_entry = sides.over_from b k true links question second_asked w x d two r.second.state n.0;
        linked = (linked_words links r.first.state r.second.state).0 (sym (entries_are r is si pc other) ∙ made.linked);
        ends = ends_by a b k links r question (λ e.
            (let o = subst (SideEnds u r.first) e m.1 in
            let q = subst (SideEnds w r.second) e n.1 in
            let s = sides.exits_at a k false links question first_asked u t c one r.first is.choice m.0 o.0 o.1 o.2 in
            let z = sides.exits_at b k true links question second_asked w x d two r.second si.choice n.0 q.0 q.1 q.2 in
            let apart : same_words (words_at (first r.first) c c.exits) (words_at (second r.second) d d.exits) ≡ false
            = subst (λ g. ExitsAs g (words_at (first r.first) c c.exits) (words_at (second r.second) d d.exits)) e made.ends in
            let line = (differing_words links s.0 z.0).0 (sym (exits_are r is si pc other e o.0 q.0 o.1 q.1 s.0 z.0
            (sides.lines_are a k false links question first_asked u t c one r.first m.0)
            (sides.lines_are b k true links question second_asked w x d two r.second n.0) o.2 s.2 q.2 z.2) ∙ apart) in
            record { line = line.0; first_state = s.0; second_state = z.0; first = s.1; second = z.1; apart = line.1 }));
      }

  -- all of this hangs on the inputs of both sides
  pub made_same : (y y2 z z2 : TermReading) → Agree u (length c.cells.addresses) y y2 → Agree w (length d.cells.addresses) z z2 →
      MakesPairTrue question c d y z → MakesPairTrue question c d y2 z2
  made_same y y2 z z2 f g made = record {
    first_allowed = sides.allowed_same a k false links question first_asked u t c one y y2 f made.first_allowed;
    second_allowed = sides.allowed_same b k true links question second_asked w x d two z z2 g made.second_allowed;
    first_root = sym (sides.root_same a k false links question first_asked u t c one y y2 f) ∙ made.first_root;
    second_root = sym (sides.root_same b k true links question second_asked w x d two z z2 g) ∙ made.second_root;
    linked = sym (both_words (words_at y c c.entries) (words_at z d d.entries) (words_at y2 c c.entries) (words_at z2 d d.entries)
        (sides.entries_same a k false links question first_asked u t c one y y2 f) (sides.entries_same b k true links question second_asked w x d two z z2 g))
        ∙ made.linked;
    ends = exits_as question (words_at y2 c c.exits) (words_at z2 d d.exits) (λ e.
        (sym (both_words (words_at y c c.exits) (words_at z d d.exits) (words_at y2 c c.exits) (words_at z2 d d.exits)
        (sides.exits_same a k false links question first_asked u t c one e y y2 f) (sides.exits_same b k true links question second_asked w x d two e z z2 g))
        ∙ subst (λ q. ExitsAs q (words_at y c c.exits) (words_at z d d.exits)) e made.ends));
  }
