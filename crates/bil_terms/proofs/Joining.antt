-- One list behind another.
use Rattle.std.proofs.Common.{◌≡◌, ℕ, ◌+◌, ◌≤◌, true, List, ◌++◌, refl, sym, ap, ◌∙◌, subst, arith, append_assoc, inl, inr}
use Rattle.std.specs.Prelude.{◌↔◌, ◌&&◌, Contains}
use Rattle.std.proofs.lemmas.Bool.{false≢true}
use Rattle.std.proofs.lemmas.List.Elements.{Contains-append_cases}
use Rattle.std.proofs.lemmas.List.Sums.{sum_by-append}
use Rattle.machine_spec.proofs.BilSound.{both}
use Rattle.machine_spec.specs.Bil.{Expression, Statements, Empty, Assign, JumpTo, Raise, Special, While, If, total, list_total}
use Rattle.machine_spec.specs.BilCounts.{has_no_loop, unknowns, own_loads, own_stores, own_unknowns}
use Rattle.machine_spec.specs.BilMeaning.{Position, Ending, Ends, RaisesException, OutOfTurns, Wrong, assign, assigned, jumped, branch_on, loop, evaluate, execute, then_do}
use Rattle.machine_spec.specs.BilStores.{stored_by, list_stored, then_stored, chosen}
use Rattle.term_spec.specs.Terms.{TermReading, TermNode, term_word}
use Rattle.term_dag.proofs.Growth.{grew_on, grew_more, inputs_on, inputs_more}
use Rattle.term_names.specs.Choices.{places}
use Rattle.term_names.specs.Chosen.{HaveSameForm, differing_memory}
use Rattle.bil_eval.specs.Passes.{join}
use Rattle.bil_terms.specs.declared.run.Run.{Run}
use Rattle.bil_terms.specs.declared.stored.Stored.{Stored}
use Rattle.bil_terms.specs.Costs.{changed_bits, changes, list_gates, list_nodes, list_joins}
use Rattle.bil_terms.specs.Runs.{Stands, Comes, IsStoredBy, IsLed, bits_apart, terms_apart}
use Rattle.bil_terms.proofs.Distances.{same_count, differs_triangle, differing_triangle}
use Rattle.bil_terms.proofs.Scopes.{contains_none, word_kept}
use Rattle.bil_terms.proofs.Gathering.{Draws, store_kept}
use Rattle.bil_terms.proofs.Stores.{none_stored, same_form_on, stored_kept, stored_both, stored_then}

total_join : (f : Expression → ℕ) (a b : Statements) → list_total f (join a b) ≡ list_total f a + list_total f b
total_join f Empty b = omega arith
total_join f (Assign x e rest) b = omega (arith, total_join f rest b)
total_join f (JumpTo e rest) b = omega (arith, total_join f rest b)
total_join f (Raise n rest) b = total_join f rest b
total_join f (Special t rest) b = total_join f rest b
total_join f (While e body rest) b = omega (arith, total_join f rest b)
total_join f (If e x y rest) b = omega (arith, total_join f rest b)

bits_join : (a b : Statements) → changed_bits (join a b) ≡ changed_bits a + changed_bits b
bits_join Empty b = omega arith
bits_join (Assign x e rest) b = omega (arith, bits_join rest b)
bits_join (JumpTo e rest) b = omega (arith, bits_join rest b)
bits_join (Raise n rest) b = omega (arith, bits_join rest b)
bits_join (Special t rest) b = bits_join rest b
bits_join (While e body rest) b = omega (arith, bits_join rest b)
bits_join (If e x y rest) b = omega (arith, bits_join rest b)

changes_join : (a b : Statements) → changes (join a b) ≡ changes a + changes b
changes_join Empty b = omega arith
changes_join (Assign x e rest) b = omega (arith, changes_join rest b)
changes_join (JumpTo e rest) b = omega (arith, changes_join rest b)
changes_join (Raise n rest) b = omega (arith, changes_join rest b)
changes_join (Special t rest) b = changes_join rest b
changes_join (While e body rest) b = omega (arith, changes_join rest b)
changes_join (If e x y rest) b = omega (arith, changes_join rest b)

gates_join : (a b : Statements) → list_gates (join a b) ≡ list_gates a + list_gates b
gates_join Empty b = omega arith
gates_join (Assign x e rest) b = omega (arith, gates_join rest b)
gates_join (JumpTo e rest) b = omega (arith, gates_join rest b)
gates_join (Raise n rest) b = gates_join rest b
gates_join (Special t rest) b = gates_join rest b
gates_join (While e body rest) b = omega (arith, gates_join rest b)
gates_join (If e x y rest) b = omega (arith, gates_join rest b)

nodes_join : (a b : Statements) → list_nodes (join a b) ≡ list_nodes a + list_nodes b
nodes_join Empty b = omega arith
nodes_join (Assign x e rest) b = omega (arith, nodes_join rest b)
nodes_join (JumpTo e rest) b = omega (arith, nodes_join rest b)
nodes_join (Raise n rest) b = nodes_join rest b
nodes_join (Special t rest) b = nodes_join rest b
nodes_join (While e body rest) b = omega (arith, nodes_join rest b)
nodes_join (If e x y rest) b = omega (arith, nodes_join rest b)

joins_join : (a b : Statements) → list_joins (join a b) ≡ list_joins a + list_joins b
joins_join Empty b = omega arith
joins_join (Assign x e rest) b = joins_join rest b
joins_join (JumpTo e rest) b = joins_join rest b
joins_join (Raise n rest) b = joins_join rest b
joins_join (Special t rest) b = joins_join rest b
joins_join (While e body rest) b = omega (arith, joins_join rest b)
joins_join (If e x y rest) b = omega (arith, joins_join rest b)

then_more : (o : Ending) (f g h : Position → Ending) → ((p : Position) → f p ≡ then_do (g p) h) → then_do o f ≡ then_do (then_do o g) h
then_more (Ends p) f g h k = k p
then_more (RaisesException n p) f g h k = refl
then_more (OutOfTurns p) f g h k = refl
then_more Wrong f g h k = refl

-- what a list does, and then the other
pub execute_join : (a b : Statements) (c : ℕ) (p : Position) → execute (join a b) c p ≡ then_do (execute a c p) (execute b c)
execute_join Empty b c p = refl
execute_join (Assign x e rest) b c p = then_more (assigned (assign x (evaluate e c p.env) p.env) p) (execute (join rest b) c) (execute rest c) (execute b c)
    (execute_join rest b c)
execute_join (JumpTo e rest) b c p = then_more (jumped (evaluate e c p.env) p) (execute (join rest b) c) (execute rest c) (execute b c) (execute_join rest b c)
execute_join (Raise n rest) b c p = refl
execute_join (Special t rest) b c p = execute_join rest b c p
execute_join (While e body rest) b c p = then_more (loop p.turns
    (λ t. evaluate e c t.env) (execute body c) p) (execute (join rest b) c) (execute rest c) (execute b c) (execute_join rest b c)
execute_join (If e x y rest) b c p = then_more (branch_on (evaluate e c p.env) (execute x c p) (execute y c p)) (execute (join rest b) c) (execute rest c)
    (execute b c) (execute_join rest b c)

stored_more : (o : Ending) (f g k : Position → List ℕ) (h : Position → Ending) → ((p : Position) → f p ≡ g p ++ then_stored (h p) k) →
    then_stored o f ≡ then_stored o g ++ then_stored (then_do o h) k
stored_more (Ends p) f g k h e = e p
stored_more (RaisesException n p) f g k h e = refl
stored_more (OutOfTurns p) f g k h e = refl
stored_more Wrong f g k h e = refl

-- what a list without loops stores, and then the other
pub stored_join : (a b : Statements) (c : ℕ) → has_no_loop a ≡ true → (p : Position) →
    list_stored (join a b) c p ≡ list_stored a c p ++ then_stored (execute a c p) (list_stored b c)
stored_join Empty b c n p = refl
stored_join (Assign x e rest) b c n p =
    ap (λ z. stored_by e c p.env ++ z) (stored_more (assigned (assign x (evaluate e c p.env) p.env) p) (list_stored (join rest b) c) (list_stored rest c)
    (list_stored b c) (execute rest c) (stored_join rest b c n))
    ∙ sym (append_assoc (stored_by e c p.env) _ _)
stored_join (JumpTo e rest) b c n p =
    ap (λ z. stored_by e c p.env ++ z) (stored_more (jumped (evaluate e c p.env) p) (list_stored (join rest b) c) (list_stored rest c) (list_stored b c)
    (execute rest c) (stored_join rest b c n)) ∙ sym (append_assoc (stored_by e c p.env) _ _)
stored_join (Raise m rest) b c n p = refl
stored_join (Special t rest) b c n p = stored_join rest b c n p
stored_join (While e body rest) b c n p = absurd (false≢true n)
stored_join (If e x y rest) b c n p =
    let s = stored_by e c p.env in
    let t = chosen (evaluate e c p.env) (list_stored x c p) (list_stored y c p) in
    let o = branch_on (evaluate e c p.env) (execute x c p) (execute y c p) in
    let k = both (has_no_loop x && has_no_loop y) (has_no_loop rest) n in
    ap (λ z. s ++ t ++ z) (stored_more o (list_stored (join rest b) c) (list_stored rest c) (list_stored b c) (execute rest c) (stored_join rest b c k.1))
    ∙ sym (append_assoc (s ++ t) _ _)

pub apart_on : (r s t : Run) → HaveSameForm r.names s.names → (bits_apart r t ≤ bits_apart r s + bits_apart s t) ×
    (terms_apart r t ≤ terms_apart r s + terms_apart s t)
    × (differing_memory r.names t.names ≤ differing_memory r.names s.names + differing_memory s.names t.names)
apart_on r s t h =
    let registers = differing_triangle (places r.names.registers.items) (places s.names.registers.items) (places t.names.registers.items)
    (same_count _ _ h.registers) in
    let flags = differing_triangle (places r.names.flags.items) (places s.names.flags.items) (places t.names.flags.items) (same_count _ _ h.flags) in
    let memory = differs_triangle r.names.memory.0 s.names.memory.0 t.names.memory.0 in
    let target = differs_triangle r.target.0 s.target.0 t.target.0 in
    let live = differs_triangle r.live.0 s.live.0 t.live.0 in
    (omega arith, omega arith, memory)

comes_on : (d0 d1 : List TermNode) (x : TermReading) (r s : Run) (o : Ending) (f : Position → Ending) → Comes d0 x r o →
    ((p : Position) → Stands d0 x r p → Comes d1 x s (f p)) →
    (term_word x d0 r.live.0 ≡ 0 → term_word x d1 s.live.0 ≡ 0) → Comes d1 x s (then_do o f)
comes_on d0 d1 x r s (Ends p) f h k z = k p h
comes_on d0 d1 x r s (RaisesException n p) f h k z = z h
comes_on d0 d1 x r s (OutOfTurns p) f h k z = h
comes_on d0 d1 x r s Wrong f h k z = h

stored_on : (d0 d1 : List TermNode) (x : TermReading) (r : Run) (o : Ending) (f : Position → List ℕ) (more : List Stored) (a : ℕ) → Comes d0 x r o →
    ((p : Position) → Stands d0 x r p → Contains (f p) a ↔ IsStoredBy d1 x more a) →
    (term_word x d0 r.live.0 ≡ 0 → (t : Stored) → Contains more t → term_word x d1 t.guard.0 ≡ 0) → Contains (then_stored o f) a ↔ IsStoredBy d1 x more a
stored_on d0 d1 x r (Ends p) f more a h k z = k p h
stored_on d0 d1 x r (RaisesException n p) f more a h k z = (λ c. absurd (contains_none a c), λ c. absurd (none_stored d1 x more a (z h) c))
stored_on d0 d1 x r (OutOfTurns p) f more a h k z = absurd h
stored_on d0 d1 x r Wrong f more a h k z = absurd h

-- one list, and then the other
pub led_on : (d0 d1 d2 : List TermNode) (place : ℕ) (r0 r1 r2 : Run) (s0 s1 s2 : List Stored) (a b : Statements) → has_no_loop a ≡ true →
    IsLed d0 d1 place r0 r1 s0 s1 a →
    IsLed d1 d2 place r1 r2 s1 s2 b → IsLed d0 d2 place r0 r2 s0 s2 (join a b)
led_on d0 d1 d2 place r0 r1 r2 s0 s1 s2 a b n p q =
    let apart = apart_on r0 r1 r2 p.form in
    let cb = bits_join a b in
    let cm = changes_join a b in
    let cs = total_join (total own_stores) a b in
    let cl = total_join (total own_loads) a b in
    let cu = total_join (total own_unknowns) a b in
    let cg = gates_join a b in
    let cn = nodes_join a b in
    let cj = joins_join a b in record {
      grew = grew_more d0 d2 _ _ _ _ _ _ _ _ _ _ (omega (arith, cg)) (omega (arith, cl)) (omega (arith, cs)) (omega (arith, cj)) (omega (arith, cn))
          (grew_on d0 d1 d2 _ _ _ _ _ _ _ _ _ _ p.grew q.grew);
      inputs = inputs_on d0 d1 d2 (Draws place (unknowns (join a b)))
          (inputs_more d0 d1 (Draws place (unknowns a)) (Draws place (unknowns (join a b))) (λ m i k. (k.0, omega (arith, k.1, cu))) p.inputs)
          (inputs_more d1 d2 (Draws place (unknowns b)) (Draws place (unknowns (join a b))) (λ m i k. (k.0, omega (arith, k.1, cu))) q.inputs);
      run = q.run;
      form = same_form_on r0.names r1.names r2.names p.form q.form;
      bits = omega (arith, apart.0, p.bits, q.bits, cb);
      terms = omega (arith, apart.1, p.terms, q.terms, cm);
      memory = omega (arith, apart.2, p.memory, q.memory, cs);
      more = p.more ++ q.more;
      behind = q.behind ∙ ap (λ z. z ++ q.more) p.behind ∙ append_assoc s0 p.more q.more;
      stores = λ t c. elim (Contains-append_cases p.more q.more t c) [
        | inl i ↦ store_kept d1 d2 _ _ _ _ _ t q.grew (p.stores t i)
        | inr i ↦ q.stores t i
      ];
      bytes = omega (arith, p.bytes, q.bytes, cs, sum_by-append (λ (t : Stored). t.bytes) p.more q.more);
      comes = λ x i u h. subst (λ (z : Ending). Comes d2 x r2 z) (sym (execute_join a b (x.choice place) u))
          (comes_on d1 d2 x r1 r2 (execute a (x.choice place) u) (execute b (x.choice place)) (p.comes x i u h) (q.comes x i) (q.passes x i));
      passes = λ x i h. q.passes x i (p.passes x i h);
      stored = λ x i u h e.
          let o = execute a (x.choice place) u in
          subst (λ (z : List ℕ). Contains z e ↔ IsStoredBy d2 x (p.more ++ q.more) e) (sym (stored_join a b (x.choice place) n u))
          (stored_both d2 x p.more q.more e (list_stored a (x.choice place) u) (then_stored o (list_stored b (x.choice place)))
          (stored_then d2 x p.more e (list_stored a (x.choice place) u) (IsStoredBy d1 x p.more e) (p.stored x i u h e)
          (stored_kept d1 d2 _ _ _ _ _ x p.more e q.grew p.stores))
          (stored_on d1 d2 x r1 o (list_stored b (x.choice place)) q.more e (p.comes x i u h) (λ v k. q.stored x i v k e) (q.silent x i)));
      silent = λ x i h t c. elim (Contains-append_cases p.more q.more t c) [
        | inl k ↦ word_kept d1 d2 _ _ _ _ _ t.guard.0 x q.grew (p.stores t k).guard.0 ∙ p.silent x i h t k
        | inr k ↦ q.silent x i (p.passes x i h) t k
      ];
    }
