-- Assignments to flags and to the memory, jumps and exceptions.
use Rattle.std.proofs.Common.{◌≡◌, ℕ, zero, suc, ◌<◌, ◌≤◌, List, [], ◌++◌, length, set, Vec, Global, Some, refl, sym, ap, ◌∙◌, subst, arith, append-nil}
use Rattle.std.specs.Prelude.{slice_index}
use Rattle.std.proofs.lemmas.List.{length-set}
use Rattle.word_spec.specs.State.{put}
use Rattle.machine_spec.specs.Bil.{Flag, Mem, Expression, Empty, Assign, JumpTo, Raise, total}
use Rattle.machine_spec.specs.BilCounts.{width, own_stores}
use Rattle.machine_spec.specs.BilMeaning.{Value, Word, Bytes, Env, Position, Ending, Ends, assign, assigned, jumped, evaluate, execute, then_do}
use Rattle.machine_spec.specs.BilStores.{stored_by}
use Rattle.term_spec.specs.Terms.{TermReading, TermNode, HasWidth, term_word, term_value}
use Rattle.term_spec.specs.Passive.{Denotes}
use Rattle.term_dag.specs.declared.nodes.Term.{Term}
use Rattle.term_dag.proofs.Growth.{grew_none, grew_width, inputs_none}
use Rattle.term_names.specs.Views.{form_of, names_of}
use Rattle.term_names.specs.declared.names.Names.{Names}
use Rattle.term_names.specs.Choices.{places, AreWide, differs, differing}
use Rattle.term_names.proofs.Choices.{differs_same}
use Rattle.term_names.proofs.Stated.{rows_are_names}
use Rattle.bil_terms.specs.declared.run.Run.{Run}
use Rattle.bil_terms.specs.declared.run.Bits.{Bits}
use Rattle.bil_terms.specs.declared.stored.Stored.{Stored}
use Rattle.bil_terms.specs.Lowered.{IsWordTerm, IsMemoryTerm}
use Rattle.bil_terms.specs.Runs.{IsRun, AreBits, Comes, IsLed}
use Rattle.bil_terms.proofs.Rows.{differs_most, differing_same, differing_set, wide_set, word_set}
use Rattle.bil_terms.proofs.Scopes.{contains_none, word_kept, denotes_kept}
use Rattle.bil_terms.proofs.Gathering.{Draws}
use Rattle.bil_terms.proofs.Steps.{led_simple, jump_kept, nothing_after, rows_wide}

-- the run with another flag
abbrev pub with_flags : Run → Vec Term Global → Run
with_flags r v = record r { names = record r.names { flags = v } }

flag_denotes : (d : List TermNode) (x : TermReading) (n : Names) (v : Vec Term Global) (f : ℕ) (t : Term) (e : Env) → f < length n.flags.items →
    v.items ≡ set n.flags.items f t →
    Denotes (form_of n) d x (names_of n) (record { regs = e.regs; flags = e.flags; mem = e.mem }) →
    Denotes (form_of (record n { flags = v })) d x (names_of (record n { flags = v }))
    (record { regs = e.regs; flags = put e.flags f (term_word x d t.0); mem = e.mem })
flag_denotes d x n v f t e h is p =
    let many : length v.items ≡ length n.flags.items = ap length is ∙ length-set n.flags.items f t in record {
      registers = p.registers;
      flags = λ j l.
          let ln : j < length n.flags.items = omega arith in
          ap (λ (z : List Term). term_word x d (slice_index (places z) j)) is
          ∙ word_set d x n.flags.items f j j f t e.flags h ln (λ z. z) (λ z. z) (p.flags j ln);
      memory = p.memory;
    }

assigned_flag : (f w v c : ℕ) (e : Expression) (p : Position) → evaluate e c p.env ≡ Word w v → w ≡ 1 →
    Ends (record p { env = record p.env { flags = put p.env.flags f v } }) ≡ execute (Assign (Flag f) e Empty) c p
assigned_flag f w v c e p h k = sym (ap (λ (z : Value). then_do (assigned (assign (Flag f) z p.env) p) Ends) (h ∙ ap (λ z. Word z v) k))

-- an assignment to a flag
pub led_flag : (d0 d1 : List TermNode) (place : ℕ) (r : Run) (v : Vec Term Global) (s0 s1 : List Stored) (f : ℕ) (e : Expression) (t : Term) → IsRun d0 r →
    f < length r.names.flags.items → v.items ≡ set r.names.flags.items f t → width e ≡ 1 → IsWordTerm d0 d1 r.names [] place r.live.0 s0 s1 e t.0 →
    IsLed d0 d1 place r (with_flags r v) s0 s1 (Assign (Flag f) e Empty)
led_flag d0 d1 place r v s0 s1 f e t run h is w k =
    let n = r.names in
    let g = k.gathered.grew in
    let rows = rows_wide d0 n run.names in
    let many : length v.items ≡ length n.flags.items = ap length is ∙ length-set n.flags.items f t in
    let wide : AreWide d1 1 (places v.items) = subst (λ (z : List Term). AreWide d1 1 (places z)) (sym is)
    (wide_set d1 1 n.flags.items f t h (λ j l. grew_width d0 d1 _ _ _ _ _ 1 _ g (rows.1 j l)) (subst (λ z. HasWidth d1 z t.0) w k.at)) in
    let apart : differing (places n.flags.items) (places v.items) ≤ 1 =
    subst (λ (z : List Term). differing (places n.flags.items) (places z) ≤ 1) (sym is) (differing_set n.flags.items f t) in
    let registers = differing_same (places n.registers.items) in
    let target = differs_same r.target.0 r.target.0 refl in
    let live = differs_same r.live.0 r.live.0 refl in
    let memory = differs_same n.memory.0 n.memory.0 refl in
    led_simple d0 d1 place r (with_flags r v) s0 s1 e (Assign (Flag f) e Empty) run k.gathered
    (record {
      names = rows_are_names d1 (record n { flags = v }) (λ j l. grew_width d0 d1 _ _ _ _ _ 32 _ g (rows.0 j l)) wide
          (grew_width d0 d1 _ _ _ _ _ 0 _ g run.names.memory);
      jumped = grew_width d0 d1 _ _ _ _ _ 1 _ g run.jumped;
      target = grew_width d0 d1 _ _ _ _ _ 32 _ g run.target;
      live = grew_width d0 d1 _ _ _ _ _ 1 _ g run.live;
    })
    (record { first = refl; registers = refl; flags = sym many }) refl (omega arith) (omega arith) (omega arith) (omega arith) (omega arith) (omega arith)
    (omega arith) (omega arith)
    (λ c p. ap (λ z. stored_by e c p.env ++ z) (nothing_after (assigned (assign (Flag f) (evaluate e c p.env) p.env) p)) ∙ append-nil (stored_by e c p.env))
    (λ x y p c. subst (λ (z : Ending). Comes d1 x (with_flags r v) z)
    (assigned_flag f (width e) (term_word x d1 t.0) (x.choice place) e p (k.value x y p.env c.holds) w) (record {
      live = word_kept d0 d1 _ _ _ _ _ r.live.0 x g run.live.0 ∙ c.live;
      jump = jump_kept d0 d1 _ _ _ _ _ x r.jumped.0 r.target.0 p.jump g run.jumped run.target c.jump;
      holds = record {
        names = flag_denotes d1 x n v f t p.env h is (denotes_kept d0 d1 _ _ _ _ _ n x _ g run.names c.holds.names);
        locals = c.holds.locals;
      };
    }))

-- the run with another memory
abbrev pub with_memory : Run → Term → Run
with_memory r t = record r { names = record r.names { memory = t } }

few_memories : (m t stores : ℕ) → (stores ≡ 0 → t ≡ m) → differs m t ≤ stores
few_memories m t zero h = omega (arith, differs_same m t (sym (h refl)))
few_memories m t (suc n) h = omega (arith, differs_most m t)

assigned_memory : (m : ℕ → ℕ) (c : ℕ) (e : Expression) (p : Position) → evaluate e c p.env ≡ Bytes m →
    Ends (record p { env = record p.env { mem = m } }) ≡ execute (Assign Mem e Empty) c p
assigned_memory m c e p h = sym (ap (λ (z : Value). then_do (assigned (assign Mem z p.env) p) Ends) h)

-- an assignment to the memory
pub led_memory : (d0 d1 : List TermNode) (place : ℕ) (r : Run) (s0 s1 : List Stored) (e : Expression) (t : Term) → IsRun d0 r →
    IsMemoryTerm d0 d1 r.names [] place r.live.0 s0 s1 e t.0 → IsLed d0 d1 place r (with_memory r t) s0 s1 (Assign Mem e Empty)
led_memory d0 d1 place r s0 s1 e t run k =
    let n = r.names in
    let g = k.gathered.grew in
    let rows = rows_wide d0 n run.names in
    let registers = differing_same (places n.registers.items) in
    let flags = differing_same (places n.flags.items) in
    let target = differs_same r.target.0 r.target.0 refl in
    let live = differs_same r.live.0 r.live.0 refl in
    let memory : differs n.memory.0 t.0 ≤ total own_stores e = few_memories n.memory.0 t.0 (total own_stores e) k.kept in
    let most = differs_most n.memory.0 t.0 in
    led_simple d0 d1 place r (with_memory r t) s0 s1 e (Assign Mem e Empty) run k.gathered
    (record {
      names = rows_are_names d1 (record n { memory = t }) (λ j l. grew_width d0 d1 _ _ _ _ _ 32 _ g (rows.0 j l))
          (λ j l. grew_width d0 d1 _ _ _ _ _ 1 _ g (rows.1 j l)) k.at;
      jumped = grew_width d0 d1 _ _ _ _ _ 1 _ g run.jumped;
      target = grew_width d0 d1 _ _ _ _ _ 32 _ g run.target;
      live = grew_width d0 d1 _ _ _ _ _ 1 _ g run.live;
    })
    (record { first = refl; registers = refl; flags = refl }) refl (omega arith) (omega arith) (omega arith) (omega arith) (omega arith) (omega arith)
    (omega arith) (omega arith)
    (λ c p. ap (λ z. stored_by e c p.env ++ z) (nothing_after (assigned (assign Mem (evaluate e c p.env) p.env) p)) ∙ append-nil (stored_by e c p.env))
    (λ x y p c.
    let before = denotes_kept d0 d1 _ _ _ _ _ n x _ g run.names c.holds.names in
    subst (λ (z : Ending). Comes d1 x (with_memory r t) z) (assigned_memory (term_value x d1 t.0).bytes (x.choice place) e p (k.value x y p.env c.holds))
    (record {
      live = word_kept d0 d1 _ _ _ _ _ r.live.0 x g run.live.0 ∙ c.live;
      jump = jump_kept d0 d1 _ _ _ _ _ x r.jumped.0 r.target.0 p.jump g run.jumped run.target c.jump;
      holds = record {
        names = record { registers = before.registers; flags = before.flags; memory = refl };
        locals = c.holds.locals;
      };
    }))

-- the run with a jump
abbrev pub with_jump : Run → (jumped target : Term) → Run
with_jump r j t = record r { jumped = j; target = t }

jumps_to : (w v c : ℕ) (e : Expression) (p : Position) → evaluate e c p.env ≡ Word w v → w ≡ 32 →
    Ends (record p { jump = Some v }) ≡ execute (JumpTo e Empty) c p
jumps_to w v c e p h k = sym (ap (λ (z : Value). then_do (jumped z p) Ends) (h ∙ ap (λ z. Word z v) k))

-- a jump
pub led_jump : (d0 d1 : List TermNode) (place : ℕ) (r : Run) (b : Bits) (s0 s1 : List Stored) (e : Expression) (t : Term) → IsRun d0 r → AreBits d0 b →
    width e ≡ 32 →
    IsWordTerm d0 d1 r.names [] place r.live.0 s0 s1 e t.0 → IsLed d0 d1 place r (with_jump r b.one t) s0 s1 (JumpTo e Empty)
led_jump d0 d1 place r b s0 s1 e t run bits w k =
    let n = r.names in
    let g = k.gathered.grew in
    let rows = rows_wide d0 n run.names in
    let registers = differing_same (places n.registers.items) in
    let flags = differing_same (places n.flags.items) in
    let target = differs_most r.target.0 t.0 in
    let live = differs_same r.live.0 r.live.0 refl in
    let memory = differs_same n.memory.0 n.memory.0 refl in
    led_simple d0 d1 place r (with_jump r b.one t) s0 s1 e (JumpTo e Empty) run k.gathered
    (record {
      names = rows_are_names d1 n (λ j l. grew_width d0 d1 _ _ _ _ _ 32 _ g (rows.0 j l)) (λ j l. grew_width d0 d1 _ _ _ _ _ 1 _ g (rows.1 j l))
          (grew_width d0 d1 _ _ _ _ _ 0 _ g run.names.memory);
      jumped = grew_width d0 d1 _ _ _ _ _ 1 _ g bits.one_bit;
      target = subst (λ z. HasWidth d1 z t.0) w k.at;
      live = grew_width d0 d1 _ _ _ _ _ 1 _ g run.live;
    })
    (record { first = refl; registers = refl; flags = refl }) refl (omega arith) (omega arith) (omega arith) (omega arith) (omega arith) (omega arith)
    (omega arith) (omega arith)
    (λ c p. ap (λ z. stored_by e c p.env ++ z) (nothing_after (jumped (evaluate e c p.env) p)) ∙ append-nil (stored_by e c p.env))
    (λ x y p c. subst (λ (z : Ending). Comes d1 x (with_jump r b.one t) z)
    (jumps_to (width e) (term_word x d1 t.0) (x.choice place) e p (k.value x y p.env c.holds) w) (record {
      live = word_kept d0 d1 _ _ _ _ _ r.live.0 x g run.live.0 ∙ c.live;
      jump = (word_kept d0 d1 _ _ _ _ _ b.one.0 x g bits.one_bit.0 ∙ bits.one x, refl);
      holds = record {
        names = denotes_kept d0 d1 _ _ _ _ _ n x _ g run.names c.holds.names;
        locals = c.holds.locals;
      };
    }))

-- the run that does not come by any more
abbrev pub with_live : Run → Term → Run
with_live r t = record r { live = t }

-- an exception
pub led_raise : (d : List TermNode) (place : ℕ) (r : Run) (b : Bits) (so : List Stored) (number : ℕ) → IsRun d r → AreBits d b →
    IsLed d d place r (with_live r b.zero) so so (Raise number Empty)
led_raise d place r b so number run bits =
    let n = r.names in
    let registers = differing_same (places n.registers.items) in
    let flags = differing_same (places n.flags.items) in
    let target = differs_same r.target.0 r.target.0 refl in
    let live = differs_most r.live.0 b.zero.0 in
    let memory = differs_same n.memory.0 n.memory.0 refl in record {
      grew = grew_none d;
      inputs = inputs_none d (Draws place 0);
      run = record { names = run.names; jumped = run.jumped; target = run.target; live = bits.zero_bit };
      form = record { first = refl; registers = refl; flags = refl };
      bits = omega arith;
      terms = omega arith;
      memory = omega arith;
      more = [];
      behind = sym (append-nil so);
      stores = λ t c. absurd (contains_none t c);
      bytes = omega arith;
      comes = λ x i p h. bits.zero x;
      passes = λ x i h. bits.zero x;
      stored = λ x i p h a. (λ c. absurd (contains_none a c), λ c. absurd (contains_none c.0 c.1));
      silent = λ x i h t c. absurd (contains_none t c);
    }

-- a list that does nothing
pub led_none : (d : List TermNode) (place : ℕ) (r : Run) (so : List Stored) → IsRun d r → IsLed d d place r r so so Empty
led_none d place r so run =
    let n = r.names in
    let registers = differing_same (places n.registers.items) in
    let flags = differing_same (places n.flags.items) in
    let target = differs_same r.target.0 r.target.0 refl in
    let live = differs_same r.live.0 r.live.0 refl in
    let memory = differs_same n.memory.0 n.memory.0 refl in record {
      grew = grew_none d;
      inputs = inputs_none d (Draws place 0);
      run = run;
      form = record { first = refl; registers = refl; flags = refl };
      bits = omega arith;
      terms = omega arith;
      memory = omega arith;
      more = [];
      behind = sym (append-nil so);
      stores = λ t c. absurd (contains_none t c);
      bytes = omega arith;
      comes = λ x i p h. h;
      passes = λ x i h. h;
      stored = λ x i p h a. (λ c. absurd (contains_none a c), λ c. absurd (contains_none c.0 c.1));
      silent = λ x i h t c. absurd (contains_none t c);
    }
