-- What a list leaves, by where it leads.
use Rattle.std.proofs.Common.{◌≡◌, ℕ, ◌≤◌, List, [], ◌++◌, length, Vec, Global, None, refl, sym, ap, ◌∙◌, subst, arith}
use Rattle.std.specs.Prelude.{◌↔◌, Contains, sum_by}
use Rattle.word_spec.specs.Words as words
use Rattle.machine_spec.specs.Bil.{Statements}
use Rattle.machine_spec.specs.BilCounts.{byte_stores, unknowns}
use Rattle.machine_spec.specs.BilMeaning.{Stuck, Ending, Ends, RaisesException, OutOfTurns, Wrong, execute}
use Rattle.machine_spec.specs.BilStores.{list_stored}
use Rattle.machine_spec.specs.Simulation.{position}
use Rattle.term_spec.specs.Terms.{TermReading, InRange, TermNode, TermValue, ConstantNode, NotNode, HasWidth, term_word}
use Rattle.walk_spec.specs.Unrolled.{state_at}
use Rattle.walk_spec.specs.Unrolling.{is_variable_of}
use Rattle.term_spec.specs.Passive.{AreNames}
use Rattle.term_dag.specs.Made.{IsMade, IsInterned}
use Rattle.term_dag.specs.declared.nodes.Term.{Term}
use Rattle.term_dag.proofs.Growth.{grew_on, grew_more, grew_width, interned_grew, interned_inputs, interned_width, made_grew, made_inputs, made_width, inputs_on, inputs_more}
use Rattle.term_names.specs.Views.{form_of, names_of}
use Rattle.term_names.specs.declared.names.Names.{Names}
use Rattle.term_names.specs.Chosen.{HaveSameForm, HaveSameTerms}
use Rattle.bil_terms.specs.declared.left.Begun.{Begun}
use Rattle.bil_terms.specs.declared.left.Left.{Left}
use Rattle.bil_terms.specs.declared.run.Run.{Run}
use Rattle.bil_terms.specs.declared.stored.Stored.{Stored}
use Rattle.bil_terms.specs.Begun.{HasBegun}
use Rattle.bil_terms.specs.Leading.{CanLead}
use Rattle.bil_terms.specs.Left.{CanBeLed, AreLeft, IsLeft}
use Rattle.bil_terms.specs.Runs.{IsRun, Comes, IsStoredBy, IsLed}
use Rattle.bil_terms.proofs.Asked.{leads}
use Rattle.bil_terms.proofs.Gathering.{Draws, store_kept}
use Rattle.bil_terms.proofs.Ifs.{run_kept, side_denotes, side_run, stands_kept}
use Rattle.bil_terms.proofs.Joined.{names_kept}
use Rattle.bil_terms.proofs.Leads.{leads_same}
use Rattle.bil_terms.proofs.Prices.{gates_within, joins_within, nodes_within}
use Rattle.bil_terms.proofs.Scopes.{denotes_kept, word_kept}
use Rattle.bil_terms.proofs.Stores.{same_form_on, stored_kept, stored_then}

form_of_terms : (a b : Names) → HaveSameTerms a b → HaveSameForm a b
form_of_terms a b h = record { first = h.first; registers = ap length h.registers; flags = ap length h.flags }

-- the list of a beginning can be led
pub begun_leads : (d0 d1 : List TermNode) (n : Names) (b : Begun) (list : Statements) → HasBegun d0 d1 n b → CanBeLed (form_of n) list →
    CanLead list (is_variable_of (form_of b.run.names))
begun_leads d0 d1 n b list h k = leads_same list n b.run.names (form_of_terms n b.run.names h.same) (leads (form_of n) list k)

-- what is handed on of a run
abbrev left : Run → Term → Vec Stored Global → Left
left r t v = record { names = r.names; jumped = r.jumped; target = r.target; raised = t; stored = v }

raised_word : (d2 d3 : List TermNode) (x : TermReading) (live t w : ℕ) → IsMade d2 d3 (NotNode 1 live) t → InRange x → term_word x d2 live ≡ w →
    term_word x d3 t ≡ words.complement 1 w
raised_word d2 d3 x live t w m i e = ap (λ (v : TermValue). v.word) (m.value x i) ∙ ap (words.complement 1) e

-- under a reading, what was come to, in the terms that are handed on
left_of : (d2 d3 : List TermNode) (x : TermReading) (r : Run) (t : Term) (v : Vec Stored Global) (o : Ending) → IsRun d2 r →
    IsMade d2 d3 (NotNode 1 r.live.0) t.0 → InRange x → Comes d2 x r o →
    AreLeft d3 x (left r t v) o
left_of d2 d3 x r t v (Ends p) run m i h =
    let k = stands_kept d2 d3 _ _ _ _ _ x r p (made_grew d2 d3 (NotNode 1 r.live.0) t.0 m) run h in
    (raised_word d2 d3 x r.live.0 t.0 1 m i h.live, k.jump, k.holds.names)
left_of d2 d3 x r t v (RaisesException n p) run m i h = raised_word d2 d3 x r.live.0 t.0 0 m i h
left_of d2 d3 x r t v (OutOfTurns p) run m i h = h
left_of d2 d3 x r t v Wrong run m i h = h

-- a list from its beginning to what it leaves
pub list_left : (d0 d1 d2 d3 : List TermNode) (place : ℕ) (n : Names) (b : Begun) (r : Run) (t : Term) (v : Vec Stored Global) (s : List Stored)
    (list : Statements) → CanBeLed (form_of n) list →
    HasBegun d0 d1 n b → s ≡ [] → IsLed d1 d2 place b.run r s v.items list → IsMade d2 d3 (NotNode 1 r.live.0) t.0 → IsLeft d0 d3 place n list (left r t v)
list_left d0 d1 d2 d3 place n b r t v s list can h e p m =
    let g = made_grew d2 d3 (NotNode 1 r.live.0) t.0 m in
    let g02 = grew_on d0 d1 d2 _ _ _ _ _ _ _ _ _ _ h.grew p.grew in
    let after = run_kept d2 d3 _ _ _ _ _ r g p.run in
    let at : v.items ≡ p.more = p.behind ∙ ap (λ (z : List Stored). z ++ p.more) e in record {
      grew = grew_more d0 d3 _ _ _ _ _ _ _ _ _ _ (omega (arith, gates_within list can.nests)) (omega arith) (omega arith)
          (omega (arith, joins_within list can.nests))
          (omega (arith, nodes_within list can.nests)) (grew_on d0 d2 d3 _ _ _ _ _ _ _ _ _ _ g02 g);
      inputs = inputs_on d0 d2 d3 (Draws place (unknowns list))
          (inputs_on d0 d1 d2 (Draws place (unknowns list)) (inputs_more d0 d1 (λ o. ⊥) (Draws place (unknowns list)) (λ o i f. absurd f) h.inputs) p.inputs)
          (made_inputs d2 d3 (NotNode 1 r.live.0) t.0 (Draws place (unknowns list)) m (λ j. absurd j));
      typed = m.typed;
      form = same_form_on n b.run.names r.names (form_of_terms n b.run.names h.same) p.form;
      names = after.names;
      jumped = after.jumped;
      target = after.target;
      raised = made_width d2 d3 (NotNode 1 r.live.0) t.0 1 m refl;
      stores = λ o k. store_kept d2 d3 _ _ _ _ _ o g (p.stores o (subst (λ (z : List Stored). Contains z o) at k));
      bytes = subst (λ (z : List Stored). sum_by (λ (o : Stored). o.bytes) z ≤ byte_stores list) (sym at) p.bytes;
      leaves = λ x i c k a. left_of d2 d3 x r t v (execute list (x.choice place) (position (λ y w. Stuck) 0 None (state_at c a))) p.run m i
          (p.comes x i _ (h.stands x c k a));
      stored_bytes = λ x i c k a y.
          subst (λ (z : List Stored). Contains (list_stored list (x.choice place) (position (λ y w. Stuck) 0 None (state_at c a))) y ↔
          IsStoredBy d3 x z y) (sym at)
          (stored_then d3 x p.more y _ (IsStoredBy d2 x p.more y) (p.stored x i _ (h.stands x c k a) y) (stored_kept d2 d3 _ _ _ _ _ x p.more y g p.stores));
    }

-- a run over copied names, from constants
pub run_begins : (d0 d1 d2 d3 : List TermNode) (n copy : Names) (zero one target : Term) → AreNames (form_of n) d0 (names_of n) →
    IsInterned d0 d1 (ConstantNode 1 0) zero.0 →
    IsInterned d1 d2 (ConstantNode 1 1) one.0 → IsInterned d2 d3 (ConstantNode 32 0) target.0 → HaveSameTerms n copy →
    HasBegun d0 d3 n (record { run = record { names = copy; jumped = zero; target = target; live = one }; bits = record { zero = zero; one = one } })
run_begins d0 d1 d2 d3 n copy zero one target names z o t same =
    let g01 = interned_grew d0 d1 (ConstantNode 1 0) zero.0 z in
    let g12 = interned_grew d1 d2 (ConstantNode 1 1) one.0 o in
    let g23 = interned_grew d2 d3 (ConstantNode 32 0) target.0 t in
    let g13 = grew_on d1 d2 d3 _ _ _ _ _ _ _ _ _ _ g12 g23 in
    let g03 = grew_on d0 d1 d3 _ _ _ _ _ _ _ _ _ _ g01 g13 in
    let zero_bit : HasWidth d3 1 zero.0 = grew_width d1 d3 _ _ _ _ _ 1 zero.0 g13 (interned_width d0 d1 (ConstantNode 1 0) zero.0 1 z refl) in
    let one_bit : HasWidth d3 1 one.0 = grew_width d2 d3 _ _ _ _ _ 1 one.0 g23 (interned_width d1 d2 (ConstantNode 1 1) one.0 1 o refl) in
    let zero_word : (x : TermReading) → term_word x d3 zero.0
    ≡ 0 = λ x. word_kept d1 d3 _ _ _ _ _ zero.0 x g13 z.within ∙ ap (λ (v : TermValue). v.word) (z.value x) in
    let one_word : (x : TermReading) → term_word x d3 one.0 ≡ 1 = λ x. word_kept d2 d3 _ _ _ _ _ one.0 x g23 o.within ∙ ap
    (λ (v : TermValue). v.word) (o.value x) in
    let first : Run = record { names = n; jumped = zero; target = target; live = one } in
    let run : IsRun d3 first = record {
      names = names_kept d0 d3 _ _ _ _ _ n g03 names;
      jumped = zero_bit;
      target = interned_width d2 d3 (ConstantNode 32 0) target.0 32 t refl;
      live = one_bit;
    } in record {
      grew = g03;
      inputs = inputs_on d0 d2 d3 (λ m. ⊥)
          (inputs_on d0 d1 d2 (λ m. ⊥) (interned_inputs d0 d1 (ConstantNode 1 0) zero.0 (λ m. ⊥) z (λ j. j)) (interned_inputs d1 d2 (ConstantNode 1 1) one.0
          (λ m. ⊥) o (λ j. j)))
          (interned_inputs d2 d3 (ConstantNode 32 0) target.0 (λ m. ⊥) t (λ j. j));
      same = same;
      run = side_run d3 first (record { names = copy; jumped = zero; target = target; live = one }) one.0 run
          (record { names = same; jumped = refl; target = refl; live = refl }) one_bit;
      bits = record { zero_bit = zero_bit; one_bit = one_bit; zero = zero_word; one = one_word };
      stands = λ x c k a. record {
        live = one_word x;
        jump = zero_word x;
        holds = record { names = side_denotes d3 x n copy c same (denotes_kept d0 d3 _ _ _ _ _ n x c g03 names k); locals = refl };
      };
    }
