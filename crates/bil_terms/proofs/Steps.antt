-- Statements of one expression.
use Rattle.std.proofs.Common.{◌≡◌, ℕ, ◌+◌, ◌<◌, ◌≤◌, List, [], ◌++◌, length, set, Vec, Global, Some, None, refl, sym, ap, ◌∙◌, subst, arith, append-nil}
use Rattle.std.specs.Prelude.{◌↔◌, Option, Contains, slice_index}
use Rattle.std.proofs.lemmas.List.{length-map, length-set}
use Rattle.word_spec.specs.RowFiles.{from_to}
use Rattle.word_spec.specs.State.{put}
use Rattle.machine_spec.specs.Bil.{Bank, Register, Expression, Statements, Empty, Assign, total}
use Rattle.machine_spec.specs.BilCounts.{width, weight, own_loads, own_stores, own_unknowns, byte_loads, byte_stores, unknowns}
use Rattle.machine_spec.specs.BilMeaning.{Value, Word, Env, Position, Ending, Ends, RaisesException, OutOfTurns, Wrong, assign, assigned, jumped, evaluate, execute, then_do}
use Rattle.machine_spec.specs.BilStores.{stored_by, list_stored, then_stored}
use Rattle.term_spec.specs.Terms.{TermReading, InRange, TermNode, HasWidth, term_word}
use Rattle.walk_spec.specs.Unrolling.{is_variable_of}
use Rattle.term_spec.specs.Passive.{AreNames, Denotes}
use Rattle.term_dag.specs.Made.{Grew}
use Rattle.term_dag.specs.declared.nodes.Term.{Term}
use Rattle.term_dag.proofs.Growth.{grew_more, grew_width, inputs_more}
use Rattle.term_names.specs.Views.{form_of, names_of}
use Rattle.term_names.specs.declared.names.Names.{Names}
use Rattle.term_names.specs.Choices.{places, AreWide, differing}
use Rattle.term_names.specs.Chosen.{HaveSameForm, differing_memory}
use Rattle.term_names.proofs.Choices.{differs_same}
use Rattle.term_names.proofs.Stated.{count_of, number_at, rows_are_names}
use Rattle.bil_terms.specs.declared.run.Run.{Run}
use Rattle.bil_terms.specs.declared.stored.Stored.{Stored}
use Rattle.bil_terms.specs.declared.variables.LocalTerm.{LocalTerm}
use Rattle.bil_eval.specs.Checked.{IsWord, IsMemory}
use Rattle.bil_terms.specs.Naming.{IsScope, known}
use Rattle.bil_terms.specs.Gathered.{IsAmong, Gathered, own_nodes, expression_cost}
use Rattle.bil_terms.specs.Lowered.{IsWordTerm}
use Rattle.bil_terms.specs.Costs.{changed_bits, changes, list_gates, list_nodes}
use Rattle.bil_terms.specs.Runs.{IsRun, Jumps, Stands, Comes, IsStoredBy, IsLed, bits_apart, terms_apart}
use Rattle.bil_terms.proofs.Rows.{differing_same, differing_set, wide_set, word_set}
use Rattle.bil_terms.proofs.Scopes.{contains_none, word_kept, denotes_kept}
use Rattle.bil_terms.proofs.Gathering.{Draws}

-- a run is a scope without locals
pub run_scope : (d : List TermNode) (r : Run) → IsRun d r → IsScope d r.names [] r.live.0
run_scope d r h = record { names = h.names; locals = λ l c. absurd (contains_none l c); live_bit = h.live }

-- without locals an expression is read in the variables of the names alone
pub word_without : (n : Names) (ls : List LocalTerm) (e : Expression) → ls ≡ [] → IsWord e (is_variable_of (form_of n)) → IsWord e (known n ls)
word_without n ls e h k = subst (λ (z : List LocalTerm). IsWord e (known n z)) (sym h) k

pub memory_without : (n : Names) (ls : List LocalTerm) (e : Expression) → ls ≡ [] → IsMemory e (is_variable_of (form_of n)) → IsMemory e (known n ls)
memory_without n ls e h k = subst (λ (z : List LocalTerm). IsMemory e (known n z)) (sym h) k

-- what an expression stores is stored where the run comes by
pub among_stored : (d : List TermNode) (x : TermReading) (live : ℕ) (more : List Stored) (a : ℕ) → ((s : Stored) → Contains more s → s.guard.0 ≡ live) →
    term_word x d live ≡ 1 →
    IsAmong d x more a ↔ IsStoredBy d x more a
among_stored d x live more a h e = (λ c. (c.0, c.1, ap (term_word x d) (h c.0 c.1) ∙ e, c.2), λ c. (c.0, c.1, c.3))

pub same_bytes : (d : List TermNode) (x : TermReading) (more : List Stored) (a : ℕ) (ps qs : List ℕ) → qs ≡ ps → Contains ps a ↔ IsAmong d x more a →
    IsAmong d x more a ↔ IsStoredBy d x more a →
    Contains qs a ↔ IsStoredBy d x more a
same_bytes d x more a ps qs e f k = (
  λ c. k.0 (f.0 (subst (λ (z : List ℕ). Contains z a) e c)),
  λ c. subst (λ (z : List ℕ). Contains z a) (sym e) (f.1 (k.1 c)),
)

-- a statement that stores what its expression does, and goes on
pub led_simple : (d0 d1 : List TermNode) (place : ℕ) (r s : Run) (s0 s1 : List Stored) (e : Expression) (list : Statements) → IsRun d0 r →
    Gathered d0 d1 r.names [] place r.live.0 s0 s1 (expression_cost e) (stored_by e) → IsRun d1 s → HaveSameForm r.names s.names → s.live ≡ r.live →
    weight e ≤ list_gates list → total own_loads e ≤ byte_loads list → total own_stores e ≤ byte_stores list → total own_nodes e ≤ list_nodes list →
    total own_unknowns e ≤ unknowns list →
    bits_apart r s ≤ changed_bits list → terms_apart r s ≤ changes list → differing_memory r.names s.names ≤ byte_stores list →
    ((c : ℕ) (p : Position) → list_stored list c p ≡ stored_by e c p.env) →
    ((x : TermReading) → InRange x → (p : Position) → Stands d0 x r p → Comes d1 x s (execute list (x.choice place) p)) →
    IsLed d0 d1 place r s s0 s1 list
led_simple d0 d1 place r s s0 s1 e list run g after form live hg hl hs hn hu bits terms memory st comes =
    let same : (x : TermReading) → term_word x d1 r.live.0 ≡ term_word x d0 r.live.0 = λ x. word_kept d0 d1 _ _ _ _ _ r.live.0 x g.grew run.live.0 in record {
      grew = grew_more d0 d1 _ _ _ _ _ _ _ _ _ _ hg hl hs (omega arith) hn g.grew;
      inputs = inputs_more d0 d1 (Draws place (total own_unknowns e)) (Draws place (unknowns list)) (λ m i k. (k.0, omega (arith, k.1, hu))) g.inputs;
      run = after;
      form = form;
      bits = bits;
      terms = terms;
      memory = memory;
      more = g.more;
      behind = g.behind;
      stores = λ t c. (g.stores t c).0;
      bytes = omega (arith, g.bytes, hs);
      comes = comes;
      passes = λ x i h. ap (λ (z : Term). term_word x d1 z.0) live ∙ same x ∙ h;
      stored = λ x i p h a. same_bytes d1 x g.more a (stored_by e (x.choice place) p.env) (list_stored list (x.choice place) p) (st (x.choice place) p)
          (g.stored x i p.env h.holds a)
          (among_stored d1 x r.live.0 g.more a (λ t c. (g.stores t c).1) (same x ∙ h.live));
      silent = λ x i h t c. ap (term_word x d1) (g.stores t c).1 ∙ same x ∙ h;
    }

-- the jump that was made before
pub jump_kept : (d0 d1 : List TermNode) (g l s j n : ℕ) (x : TermReading) (jumped target : ℕ) (o : Option ℕ) → Grew d0 d1 g l s j n → HasWidth d0 1 jumped →
    HasWidth d0 32 target →
    Jumps d0 x jumped target o → Jumps d1 x jumped target o
jump_kept d0 d1 g l s j n x jumped target None p hj ht h = word_kept d0 d1 g l s j n jumped x p hj.0 ∙ h
jump_kept d0 d1 g l s j n x jumped target (Some a) p hj ht h =
    (word_kept d0 d1 g l s j n jumped x p hj.0 ∙ h.0, word_kept d0 d1 g l s j n target x p ht.0 ∙ h.1)

pub nothing_after : (o : Ending) → then_stored o (λ s. []) ≡ []
nothing_after (Ends s) = refl
nothing_after (RaisesException n s) = refl
nothing_after (OutOfTurns s) = refl
nothing_after Wrong = refl

-- the run with another register
abbrev pub with_registers : Run → Vec Term Global → Run
with_registers r v = record r { names = record r.names { registers = v } }

pub rows_wide : (d : List TermNode) (n : Names) → AreNames (form_of n) d (names_of n) → AreWide d 32 (places n.registers.items) ×
    AreWide d 1 (places n.flags.items)
rows_wide d n h =
    let k = length-map n.registers.items (λ (t : Term). t.0) in
    let l = length-map n.flags.items (λ (t : Term). t.0) in
    let c = count_of n.first (length n.registers.items) in
    (λ i m. h.words i (omega arith), λ f m. h.bits f (omega arith))

-- the registers and flags that a state with one register changed has
register_denotes : (d : List TermNode) (x : TermReading) (n : Names) (v : Vec Term Global) (i q : ℕ) (t : Term) (e : Env) → q ≡ n.first + i →
    i < length n.registers.items →
    v.items ≡ set n.registers.items i t → Denotes (form_of n) d x (names_of n) (record { regs = e.regs; flags = e.flags; mem = e.mem }) →
    Denotes (form_of (record n { registers = v })) d x (names_of (record n { registers = v }))
    (record { regs = put e.regs q (term_word x d t.0); flags = e.flags; mem = e.mem })
register_denotes d x n v i q t e eq h is p =
    let many : length v.items ≡ length n.registers.items = ap length is ∙ length-set n.registers.items i t in
    let cv = count_of n.first (length v.items) in
    let cn = count_of n.first (length n.registers.items) in record {
      registers = λ j l.
          let lv : j < length v.items = omega arith in
          let ln : j < length n.registers.items = omega arith in
          let at : slice_index (from_to n.first (length v.items)) j ≡ n.first + j = number_at n.first (length v.items) j lv in
          let before : slice_index (from_to n.first (length n.registers.items)) j ≡ n.first + j = number_at n.first (length n.registers.items) j ln in
          ap (λ (z : List Term). term_word x d (slice_index (places z) j)) is
          ∙ word_set d x n.registers.items i j (n.first + j) q t e.regs h ln (λ z. omega arith)
          (λ z. omega arith) (p.registers j (omega arith) ∙ ap e.regs before)
          ∙ ap (put e.regs q (term_word x d t.0)) (sym at);
      flags = p.flags;
      memory = p.memory;
    }

assigned_register : (b : Bank) (q w v c : ℕ) (e : Expression) (p : Position) → evaluate e c p.env ≡ Word w v → w ≡ 32 →
    Ends (record p { env = record p.env { regs = put p.env.regs q v } }) ≡ execute (Assign (Register b q) e Empty) c p
assigned_register b q w v c e p h k =
    sym (ap (λ (z : Value). then_do (assigned (assign (Register b q) z p.env) p) Ends) (h ∙ ap (λ z. Word z v) k))

-- an assignment to a register
pub led_register : (d0 d1 : List TermNode) (place : ℕ) (r : Run) (v : Vec Term Global) (s0 s1 : List Stored) (b : Bank) (q i : ℕ) (e : Expression) (t : Term) →
    IsRun d0 r →
    q ≡ r.names.first + i → i < length r.names.registers.items → v.items ≡ set r.names.registers.items i t → width e ≡ 32 →
    IsWordTerm d0 d1 r.names [] place r.live.0 s0 s1 e t.0 → IsLed d0 d1 place r (with_registers r v) s0 s1 (Assign (Register b q) e Empty)
led_register d0 d1 place r v s0 s1 b q i e t run eq h is w k =
    let n = r.names in
    let g = k.gathered.grew in
    let rows = rows_wide d0 n run.names in
    let many : length v.items ≡ length n.registers.items = ap length is ∙ length-set n.registers.items i t in
    let wide : AreWide d1 32 (places v.items) = subst (λ (z : List Term). AreWide d1 32 (places z)) (sym is)
    (wide_set d1 32 n.registers.items i t h (λ j l. grew_width d0 d1 _ _ _ _ _ 32 _ g (rows.0 j l)) (subst (λ z. HasWidth d1 z t.0) w k.at)) in
    let apart : differing (places n.registers.items) (places v.items) ≤ 1 =
    subst (λ (z : List Term). differing (places n.registers.items) (places z) ≤ 1) (sym is) (differing_set n.registers.items i t) in
    let flags = differing_same (places n.flags.items) in
    let target = differs_same r.target.0 r.target.0 refl in
    let live = differs_same r.live.0 r.live.0 refl in
    let memory = differs_same n.memory.0 n.memory.0 refl in
    led_simple d0 d1 place r (with_registers r v) s0 s1 e (Assign (Register b q) e Empty) run k.gathered
    (record {
      names = rows_are_names d1 (record n { registers = v }) wide
          (λ j l. grew_width d0 d1 _ _ _ _ _ 1 _ g (rows.1 j l)) (grew_width d0 d1 _ _ _ _ _ 0 _ g run.names.memory);
      jumped = grew_width d0 d1 _ _ _ _ _ 1 _ g run.jumped;
      target = grew_width d0 d1 _ _ _ _ _ 32 _ g run.target;
      live = grew_width d0 d1 _ _ _ _ _ 1 _ g run.live;
    })
    (record { first = refl; registers = sym many; flags = refl }) refl (omega arith) (omega arith) (omega arith) (omega arith) (omega arith) (omega arith)
    (omega arith) (omega arith)
    (λ c p. ap (λ z. stored_by e c p.env ++ z) (nothing_after (assigned (assign (Register b q) (evaluate e c p.env) p.env) p)) ∙ append-nil
    (stored_by e c p.env))
    (λ x y p c. subst (λ (z : Ending). Comes d1 x (with_registers r v) z)
    (assigned_register b q (width e) (term_word x d1 t.0) (x.choice place) e p (k.value x y p.env c.holds) w) (record {
      live = word_kept d0 d1 _ _ _ _ _ r.live.0 x g run.live.0 ∙ c.live;
      jump = jump_kept d0 d1 _ _ _ _ _ x r.jumped.0 r.target.0 p.jump g run.jumped run.target c.jump;
      holds = record {
        names = register_denotes d1 x n v i q t p.env eq h is (denotes_kept d0 d1 _ _ _ _ _ n x _ g run.names c.holds.names);
        locals = c.holds.locals;
      };
    }))
