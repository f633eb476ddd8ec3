-- The inputs of the form with the exit as a place, its clauses and its starts.
use Rattle.std.proofs.Common.{◌≡◌, inl, inr, refl, ℕ, zero, suc, ◌+◌, ◌*◌, ◌<◌, ◌≤◌, ap, sym, ◌∙◌, subst, arith, List, [], ◌∷◌, length, get_or, Bool, true, false}
use Rattle.std.specs.Prelude.{Contains, ◌==◌, ◌&&◌, nat_lt, if◌then◌else◌, filter}
use Rattle.std.proofs.lemmas.Bool.{both_ways, cases_lt}
use Rattle.std.proofs.lemmas.Bool.Decides.{nat_tests}
use Rattle.std.proofs.lemmas.List.{get_or_past}
use Rattle.std.proofs.lemmas.List.Elements.{All-filter, Contains-get_or, filter_passes}
use Rattle.std.proofs.lemmas.List.Kept.{AllPairs-filter}
use Rattle.std.proofs.Math.Path.{fun_ext}
use Rattle.std.specs.Str.{bytes_eq}
use Rattle.word_spec.specs.Words.{bit}
use Rattle.word_spec.specs.State.{Written}
use Rattle.word_spec.specs.Memory.{byte_in}
use Rattle.clause_spec.specs.Clauses.{Cnf, ExtendsOnceWhere}
use Rattle.bilv_spec.specs.Run.{Program}
use Rattle.bilv_spec.specs.Points.{Point, IsPoint, first, next}
use Rattle.bilv_spec.specs.Questions.{Reading}
use Rattle.bilv_spec.proofs.PointSteps.{in_map}
use Rattle.term_spec.specs.Terms.{TermReading, TermNode, TermValue, RegisterNode, FlagNode, ChoiceNode, BaseNode, MemoryNode, ConstantNode, BinaryNode, NotNode, SelectNode, ExtractNode, ConcatNode, ExtendNode, LoadNode, StoreNode, JoinNode, TakeNode, with_mem, node_at, node_value, term_gates, term_value, word_value}
use Rattle.walk_spec.specs.Unrolled.{Carried, UnrolledPoint, UnrolledProgram, ExitsLeadLater, Walk, WalkIsAt, WalkExits, WalkFails, WalkTurns, is_register_of, is_flag_of, no_point, point_at, walk, walk_from, walk_on}
use Rattle.term_spec.specs.WalkQuestions.{DrawsAt, IsNamedBelow, term_reading}
use Rattle.term_spec.specs.Cells.{Cells, AreFormed, Gives}
use Rattle.term_spec.specs.ClauseForm.{IsReadingOf, IsStartOf, bits_from, drawn_below, first_byte, first_choice, first_flag, inputs, place_in, reading, start_memory}
use Rattle.walk_spec.proofs.WalkOrder.{Inside, Later, inside, next_later}
use Rattle.walk_laws.proofs.CellValues.{same_up_to}
use Rattle.call_spec.specs.Calls.{PairQuestion}
use Rattle.pair_spec.specs.Links.{Link}
use Rattle.pair_spec.specs.Pairs.{shared_bytes, same_bytes}
use Rattle.pair_spec.specs.PairEvidence.{behind}
use Rattle.pair_spec.specs.PairTerms.{MakesPairTrue, SideCells, TellsPair, exit_place, with_exit_place}
use Rattle.pair_spec.specs.ExitPlaces.{ExitIsOwn, ExitPlacePairs, ExitPlaceReads, ExitPlaceStarts, ExitPlaceTerms, HasOwnExit, before_step, is_exit_point}
use Rattle.pair_spec.proofs.ExitPlace.{walk_same}
use Rattle.pair_spec.proofs.ExitPlaces.{at_last, by_place, early, size}

-- ---- the inputs

module _ (u : UnrolledProgram) where
  past : (i : ℕ) → length u.points ≤ i → (point_at u i).draws ≡ false
  past i le = ap (λ (q : UnrolledPoint). q.draws) (get_or_past u.points i no_point le)

  drawn : (i : ℕ) → (point_at (with_exit_place u) i).draws ≡ (point_at u i).draws
  drawn i = elim (cases_lt i (length u.points)) as (λ _. (point_at (with_exit_place u) i).draws ≡ (point_at u i).draws) [
    | inl low ↦ ap (λ (q : UnrolledPoint). q.draws) (early u i low)
    | inr high ↦ elim (cases_lt i (length u.points + 1)) as (λ _. (point_at (with_exit_place u) i).draws ≡ (point_at u i).draws) [
      | inl low ↦
          let e : i ≡ length u.points = omega arith in
          ap (λ j. (point_at (with_exit_place u) j).draws) e ∙ ap (λ (q : UnrolledPoint). q.draws) (at_last u) ∙ sym (past i high)
      | inr far ↦
          let s = size u in
          ap (λ (q : UnrolledPoint). q.draws) (get_or_past (with_exit_place u).points i no_point (omega arith)) ∙ sym (past i high)
    ]
  ]

  below_same : (i : ℕ) → drawn_below (with_exit_place u) i ≡ drawn_below u i
  below_same zero = refl
  below_same (suc i) = (λ k. below_same i k + bit (drawn i k))

  byte_same : first_byte (with_exit_place u) ≡ first_byte u
  byte_same =
      let a : drawn_below u (suc (length u.points)) ≡ drawn_below u (length u.points) + 0 =
      ap (λ b. drawn_below u (length u.points) + bit b) (past (length u.points) (omega arith)) in
      let s : length (with_exit_place u).points ≡ suc (length u.points) = (let z = size u in omega arith) in
      ap (λ n. first_choice u + 2 * n) (ap (drawn_below (with_exit_place u)) s ∙ below_same (suc (length u.points)) ∙ a
      ∙ (let e : drawn_below u (length u.points) + 0 ≡ drawn_below u (length u.points) = omega arith in e))

  inputs_same : (c : Cells) → inputs (with_exit_place u) c ≡ inputs u c
  inputs_same c = ap (λ n. n + 8 * length c.addresses) byte_same

  abbrev read : (c : Cells) (v : ℕ → Bool) (choice base : ℕ → ℕ) → TermReading
  read c v choice base = record {
    regs = λ p n. if is_register_of u n then bits_from v (32 * place_in u.registers n) 32 else 0;
    flags = λ p f. if is_flag_of u f then bits_from v (first_flag u + f) 1 else 0;
    mem = λ p a. 0;
    choice = choice;
    base = λ p. base;
  }

  choice_same : (c : Cells) (v : ℕ → Bool) (i : ℕ) → (reading (with_exit_place u) c v).choice i ≡ (reading u c v).choice i
  choice_same c v i =
      (λ k. if drawn i k then bits_from v (first_choice u + 2 * below_same i k) 2 else 0)

  base_same : (c : Cells) (v : ℕ → Bool) (j : ℕ) → (reading (with_exit_place u) c v).base 0 j ≡ (reading u c v).base 0 j
  base_same c v j = (λ k. if nat_lt j (length c.addresses) then bits_from v (byte_same k + 8 * j) 8 else 0)

  pub reading_same : (c : Cells) (v : ℕ → Bool) → reading (with_exit_place u) c v ≡ reading u c v
  reading_same c v =
      ap (λ f. read c v f ((reading (with_exit_place u) c v).base 0)) (fun_ext (choice_same c v))
      ∙ ap (read c v (reading u c v).choice) (fun_ext (base_same c v))

  -- ---- the nodes

  draws_from : (i : ℕ) → DrawsAt (with_exit_place u) i → DrawsAt u i
  draws_from i h = (
    elim (cases_lt i (length u.points)) as (λ _. i < length u.points) [
      | inl low ↦ low
      | inr high ↦ absurd (both_ways _ (past i high) (sym (drawn i) ∙ h.1))
    ],
    sym (drawn i) ∙ h.1,
  )

  draws_to : (i : ℕ) → DrawsAt u i → DrawsAt (with_exit_place u) i
  draws_to i h = ((let a = h.0 in let s = size u in omega arith), drawn i ∙ h.1)

  from_form : (reads : ℕ) (n : TermNode) → IsNamedBelow (with_exit_place u) reads n → IsNamedBelow u reads n
  from_form reads (RegisterNode p r) h = h
  from_form reads (FlagNode p f) h = h
  from_form reads (ChoiceNode i) h = draws_from i h
  from_form reads (BaseNode p j) h = h
  from_form reads (MemoryNode p) h = h
  from_form reads (ConstantNode w x) h = h
  from_form reads (BinaryNode o w a b) h = h
  from_form reads (NotNode w a) h = h
  from_form reads (SelectNode w c a b) h = h
  from_form reads (ExtractNode hi lo a) h = h
  from_form reads (ConcatNode high low a b) h = h
  from_form reads (ExtendNode signed n m a) h = h
  from_form reads (LoadNode n e m a) h = h
  from_form reads (StoreNode n e m a x) h = h
  from_form reads (JoinNode c a b) h = h
  from_form reads (TakeNode n m a p) h = h

  to_form : (reads : ℕ) (n : TermNode) → IsNamedBelow u reads n → IsNamedBelow (with_exit_place u) reads n
  to_form reads (RegisterNode p r) h = h
  to_form reads (FlagNode p f) h = h
  to_form reads (ChoiceNode i) h = draws_to i h
  to_form reads (BaseNode p j) h = h
  to_form reads (MemoryNode p) h = h
  to_form reads (ConstantNode w x) h = h
  to_form reads (BinaryNode o w a b) h = h
  to_form reads (NotNode w a) h = h
  to_form reads (SelectNode w c a b) h = h
  to_form reads (ExtractNode hi lo a) h = h
  to_form reads (ConcatNode high low a b) h = h
  to_form reads (ExtendNode signed n m a) h = h
  to_form reads (LoadNode n e m a) h = h
  to_form reads (StoreNode n e m a x) h = h
  to_form reads (JoinNode c a b) h = h
  to_form reads (TakeNode n m a p) h = h

  formed_from : (c : Cells) → AreFormed (with_exit_place u) c → AreFormed u c
  formed_from c is = record {
    typed = is.typed;
    words = is.words;
    named = λ n h. from_form (length c.addresses) n (is.named n h);
    addresses = is.addresses;
    early = λ j i l m. from_form j (node_at c.nodes i) (is.early j i l m);
    agrees = is.agrees;
    asked = is.asked;
    root = is.root;
  }

  formed_to : (c : Cells) → AreFormed u c → AreFormed (with_exit_place u) c
  formed_to c is = record {
    typed = is.typed;
    words = is.words;
    named = λ n h. to_form (length c.addresses) n (is.named n h);
    addresses = is.addresses;
    early = λ j i l m. to_form j (node_at c.nodes i) (is.early j i l m);
    agrees = is.agrees;
    asked = is.asked;
    root = is.root;
  }

pub exit_place_reads : ExitPlaceReads
exit_place_reads u = (
  below_same u,
  byte_same u,
  inputs_same u,
  reading_same u,
  (λ reads nodes. ((λ h n c. from_form u reads n (h n c)), (λ h n c. to_form u reads n (h n c)))),
  (λ c. (formed_from u c, formed_to u c)),
  (λ c x at. ((λ h. h), (λ h. h))),
)

-- ---- terms

module _ (u : UnrolledProgram) (r : Reading) where
  value_same : (vs : List TermValue) (n : TermNode) → IsNamedBelow u 0 n →
      node_value (term_reading (with_exit_place u) r) vs n ≡ node_value (term_reading u r) vs n
  value_same vs (RegisterNode p m) h = refl
  value_same vs (FlagNode p f) h = refl
  value_same vs (ChoiceNode i) h = ap (λ (q : UnrolledPoint). word_value (r.choice q.point)) (early u i h.0)
  value_same vs (BaseNode p j) h = refl
  value_same vs (MemoryNode p) h = refl
  value_same vs (ConstantNode w x) h = refl
  value_same vs (BinaryNode o w a b) h = refl
  value_same vs (NotNode w a) h = refl
  value_same vs (SelectNode w c a b) h = refl
  value_same vs (ExtractNode hi lo a) h = refl
  value_same vs (ConcatNode high low a b) h = refl
  value_same vs (ExtendNode signed n m a) h = refl
  value_same vs (LoadNode n e m a) h = refl
  value_same vs (StoreNode n e m a x) h = refl
  value_same vs (JoinNode c a b) h = refl
  value_same vs (TakeNode n m a p) h = refl

pub exit_place_terms : ExitPlaceTerms
exit_place_terms u r nodes named i l =
    let e : i + 0 ≡ i = omega arith in
    ap (term_value (term_reading (with_exit_place u) r) nodes) (sym e)
    ∙ same_up_to (term_reading (with_exit_place u) r) (term_reading u r) nodes [] i
    (λ j le vs. value_same u r vs (node_at nodes j) (named (node_at nodes j) (among j (omega arith)))) l
    ∙ ap (term_value (term_reading u r) nodes) e
  where
    among : (j : ℕ) → j < length nodes → Contains nodes (node_at nodes j)
    among j w = Contains-get_or nodes j _ w

-- ---- clauses

module _ (links : List Link) (question : PairQuestion) (c d : SideCells) (cnf : Cnf) where
  abbrev Tells : (a b : ℕ) (f g : (ℕ → Bool) → TermReading) → Type 0
  Tells a b f g = ExtendsOnceWhere (a + b) cnf (λ v. MakesPairTrue question c d (f v) (g (behind a v)))

  abbrev IsFew : (a b : ℕ) → Type 0
  IsFew a b =
      cnf.variables ≤ a + b + 1 + term_gates c.cells.nodes + term_gates d.cells.nodes + (512 * length links + 512 * (shared_bytes links + same_bytes links))

  told : (u w : UnrolledProgram) → TellsPair (with_exit_place u) (with_exit_place w) links question c d cnf → TellsPair u w links question c d cnf
  told u w is =
      let a = inputs_same u c.cells in
      let b = inputs_same w d.cells in
      record {
        extends =
            subst (λ z. Tells z (inputs w d.cells) (reading u c.cells) (reading w d.cells)) a
            (subst (λ z. Tells (inputs (with_exit_place u) c.cells) z (reading u c.cells) (reading w d.cells)) b
            (subst (λ f. Tells (inputs (with_exit_place u) c.cells) (inputs (with_exit_place w) d.cells) f (reading w d.cells))
            (fun_ext (reading_same u c.cells))
            (subst (λ g. Tells (inputs (with_exit_place u) c.cells) (inputs (with_exit_place w) d.cells) (reading (with_exit_place u) c.cells) g)
            (fun_ext (reading_same w d.cells)) is.extends)));
        all = (let h = is.all in omega arith);
        few = subst (λ z. IsFew z (inputs w d.cells)) a (subst (λ z. IsFew (inputs (with_exit_place u) c.cells) z) b is.few);
      }

pub exit_place_pairs : ExitPlacePairs
exit_place_pairs u w links question c d cnf is = told links question c d cnf u w is

-- ---- starts

-- a number is found alike where only greater ones are left out
found_by : (n : ℕ) (x : ℕ × ℕ) (xs : List (ℕ × ℕ)) (step : ℕ) → step < n → (b : Bool) → nat_lt x.0 n ≡ b →
    byte_in (filter (λ x. nat_lt x.0 n) xs) step ≡ byte_in xs step →
    byte_in (if b then x ∷ filter (λ x. nat_lt x.0 n) xs else filter (λ x. nat_lt x.0 n) xs) step ≡ byte_in (x ∷ xs) step
found_by n x xs step l true e rest = ap (λ m. if step == x.0 then x.1 else m) rest
found_by n x xs step l false e rest =
    let other : (step == x.0) ≡ false = grind (arith, nat_tests) in rest ∙ sym (ap (λ b. if b then x.1 else byte_in xs step) other)

found_same : (n : ℕ) (xs : List (ℕ × ℕ)) (step : ℕ) → step < n → byte_in (filter (λ x. nat_lt x.0 n) xs) step ≡ byte_in xs step
found_same n [] step l = refl
found_same n (x ∷ xs) step l = found_by n x xs step l (nat_lt x.0 n) refl (found_same n xs step l)

module _ (u : UnrolledProgram) (some : 0 < length u.points) (later : ExitsLeadLater u) where
  -- a walk has made no more steps than its place tells
  climbs_on : (r : Reading) (n i : ℕ) (d : Carried) (w : Walk) → walk u r n ≡ w → walk_on u r w ≡ WalkIsAt i d →
      ((j : ℕ) (c : Carried) → walk u r n ≡ WalkIsAt j c → n ≤ j) → suc n ≤ i
  unfolding walk
  climbs_on r n i d (WalkIsAt j c) at e low =
      let up : Later u some later r j (WalkIsAt i d) = subst (Later u some later r j) (ap (walk_on u r) at ∙ e) (next_later u some later r n j c at) in
      let l = up.0 in
      let m = low j c at in
      omega arith
  climbs_on r n i d WalkExits at e low = absurd (cc)
  climbs_on r n i d (WalkFails x) at e low = absurd (cc)
  climbs_on r n i d WalkTurns at e low = absurd (cc)

  climbs : (r : Reading) (n i : ℕ) (d : Carried) → walk u r n ≡ WalkIsAt i d → n ≤ i
  unfolding walk
  climbs r zero i d e = omega arith
  climbs r (suc n) i d e = climbs_on r n i d (walk u r n) refl e (climbs r n)

  module _ (own : HasOwnExit u) where
    -- a reading that chooses 0 at the exit's place
    abbrev choose : Reading → Reading
    choose r = record { state = r.state; choice = λ q. if is_exit_point q then 0 else r.choice q }

    alike : (r : Reading) (i : ℕ) → i < length u.points → (choose r).choice (point_at u i).point ≡ r.choice (point_at u i).point
    alike r i l = ap (λ b. if b then 0 else r.choice (point_at u i).point) (own i l)

    on_same : (r : Reading) (w : Walk) → Inside u some later r w → walk_on u (choose r) w ≡ walk_on u r w
    on_same r (WalkIsAt i c) l = ap (λ z. walk_from u r.state (point_at u i) z c) (alike r i l)
    on_same r WalkExits l = refl
    on_same r (WalkFails e) l = refl
    on_same r WalkTurns l = refl

    walks_alike : (r : Reading) (n : ℕ) → walk u (choose r) n ≡ walk u r n
    unfolding walk
    walks_alike r zero = refl
    walks_alike r (suc n) = ap (walk_on u (choose r)) (walks_alike r n) ∙ on_same r (walk u r n) (inside u some later r n)

    module _ (c : Cells) (v : ℕ → Bool) (s : Written) (is : IsStartOf (with_exit_place u) c v s) where
      none_drawn : (reading u c v).choice (length u.points) ≡ 0
      none_drawn =
          ap (λ b. if b then bits_from v (first_choice u + 2 * drawn_below u (length u.points)) 2 else 0) (past u (length u.points) (omega arith))

      of_form : (r : Reading) → IsReadingOf u c v (before_step (length u.points) s) r → IsReadingOf (with_exit_place u) c v s (choose r)
      of_form r of = record {
        pc = of.pc;
        regs = of.regs;
        flags = of.flags;
        mem = of.mem;
        choice = by_place u (λ j q. (choose r).choice q.point ≡ (reading (with_exit_place u) c v).choice j)
            (λ j l. alike r j l ∙ of.choice j l ∙ sym (choice_same u c v j)) (sym (choice_same u c v (length u.points) ∙ none_drawn));
      }

      follows : (r : Reading) → IsReadingOf u c v (before_step (length u.points) s) r → (step i : ℕ) (d : Carried) → walk u r step ≡ WalkIsAt i d →
          byte_in (before_step (length u.points) s).choices step ≡ (reading u c v).choice i
      follows r of step i d at =
          let low = climbs r step i d at in
          let within : i < length u.points = subst (Inside u some later r) at (inside u some later r step) in
          found_same (length u.points) s.choices step (omega arith)
          ∙ is.follows (choose r) (of_form r of) step i d (walk_same u some later (choose r) step i d (walks_alike r step ∙ at))
          ∙ choice_same u c v i

      below : (x : ℕ × ℕ) → nat_lt x.0 (length u.points) ≡ true → x.0 < length u.points
      below x e = grind (arith, nat_tests)

      started : IsStartOf u c v (before_step (length u.points) s)
      started = record {
        regs = is.regs;
        flags = is.flags;
        flags_fit = is.flags_fit;
        bytes = is.bytes;
        bytes_rise = is.bytes_rise;
        unknown = is.unknown;
        gives = subst (λ z. Gives c (with_mem z (start_memory u s))) (reading_same u c v) is.gives;
        choices = λ i d w.
            let a = All-filter (λ x. nat_lt x.0 (length u.points))
            (λ x. (x.0 < length (with_exit_place u).points) × (1 ≤ x.1) × (x.1 ≤ 3)) s.choices is.choices i d w in
            let x = get_or (filter (λ x. nat_lt x.0 (length u.points)) s.choices) i d in
            (below x (filter_passes (λ x. nat_lt x.0 (length u.points)) s.choices i d w), a.1, a.2);
        choices_rise = AllPairs-filter (λ x y. x.0 < y.0) (λ x. nat_lt x.0 (length u.points)) s.choices is.choices_rise;
        follows = follows;
      }

pub exit_place_starts : ExitPlaceStarts
exit_place_starts u some later own c v s is = started u some later own c v s is

-- ---- an exit of its own

few_turns : (p : Program) (k : ℕ) (q : Point) → IsPoint p k q → q.turns ≤ k
few_turns p k _ first = omega arith
few_turns p k _ (next at edge few) = few

earlier : (a b : ℕ) (c d : Bool) → a < b → (((a == b) && c) && d) ≡ false
earlier a b c d l = let e : (a == b) ≡ false = grind (arith, nat_tests) in ap (λ z. (z && c) && d) e

pub exit_is_own : ExitIsOwn
exit_is_own p k u un more i l =
    let q = (point_at u i).point in
    let few = few_turns p k q (un.points.only q (in_map (λ (x : UnrolledPoint). x.point) u.points (point_at u i) (Contains-get_or u.points i no_point l))) in
    earlier q.turns exit_place.point.turns (q.at == exit_place.point.at) (bytes_eq q.stack exit_place.point.stack) (omega arith)
