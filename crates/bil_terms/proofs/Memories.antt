-- Terms of expressions that read or make memories, choose, cast and bind.
use Rattle.std.proofs.Common.{◌≡◌, ℕ, zero, suc, ◌+◌, ◌-◌, ◌/◌, ◌%◌, ◌^◌, ◌<◌, ◌≤◌, Bool, true, List, [], ◌∷◌, ◌++◌, refl, sym, ap, ◌∙◌, subst, arith, append-nil, append_assoc, Some, None}
use Rattle.std.specs.Prelude.{Option, ◌↔◌, Contains, ◌==◌, nat_lt, nat_le, if◌then◌else◌}
use Rattle.std.proofs.lemmas.Bool.{eq-eqb, eqb-true}
use Rattle.std.proofs.lemmas.Bool.Decides.{nat_tests}
use Rattle.machine_spec.proofs.BilSound.{both}
use Rattle.word_spec.specs.Memory as memory
use Rattle.word_spec.specs.Memory.{load, store, span}
use Rattle.machine_spec.specs.Bil.{BilVariable, Register, Flag, Mem, Local, CastKind, Low, High, Signed, Unsigned, Expression, Var, Constant, Load, Store, Binary, Unary, Cast, Let, Unknown, Choose, Extract, Concat, total}
use Rattle.machine_spec.specs.BilTyping.{cast_fits, is_width, is_load_width}
use Rattle.machine_spec.specs.BilCounts.{width, own_stores, own_chosen_stores}
use Rattle.machine_spec.specs.BilMeaning.{Value, Word, Bytes, Stuck, Env, assign, evaluate, put_local, load_from, store_to, extract_from, choose, cast_to, in_env}
use Rattle.machine_spec.specs.BilStores.{bytes_at, chosen, stored_in, stored_by}
use Rattle.term_spec.specs.Terms.{TermReading, InRange, TermNode, TermValue, SelectNode, ExtractNode, ExtendNode, LoadNode, StoreNode, HasWidth, HasMemory, IsWidth, term_value, term_word, width_of, node_at, select, own_gates, own_loads, own_joins}
use Rattle.term_spec.specs.Terms as terms
use Rattle.term_dag.specs.Nodes.{IsInput}
use Rattle.term_dag.specs.Made.{Grew, IsMade}
use Rattle.term_dag.proofs.Growth.{grew_width, grew_on, made_grew, made_width}
use Rattle.term_dag.proofs.Ranges.{word_fits}
use Rattle.term_names.specs.declared.names.Names.{Names}
use Rattle.bil_eval.specs.Checked.{IsMemory}
use Rattle.bil_terms.specs.declared.stored.Stored.{Stored}
use Rattle.bil_terms.specs.declared.variables.LocalTerm.{LocalTerm}
use Rattle.bil_terms.specs.Naming.{IsScope, Holds}
use Rattle.bil_terms.specs.Gathered.{expression_cost, IsAmong, Gathered}
use Rattle.bil_terms.specs.Lowered.{IsWordTerm, IsMemoryTerm, cast_node}
use Rattle.bil_terms.proofs.Scopes.{word_kept, holds_kept, holds_back, holds_push, scope_kept}
use Rattle.bil_terms.proofs.Gathering.{gathered_none, gathered_on, gathered_then, gathered_as, gathered_made, gathered_store}
use Rattle.bil_terms.proofs.Operations.{load_is, store_is, choose_is, extract_is, cast_is, cast_word}
use Rattle.bil_terms.proofs.Words.{reads, reads_memory, reads_later, reads_before, memory_later}

-- the width of a load or a store
pub load_width : (w : ℕ) → is_load_width w ≡ true → (1 ≤ w) × (w ≤ 64) × (w % 8 ≡ 0)
load_width w h =
    let a = both (is_width w) (w % 8 == 0) h in
    let b = both (nat_lt 0 w) (nat_le w 64) a.0 in
    let c = b.0 in let d = b.1 in
    (grind (arith, nat_tests), grind (arith, nat_tests), eqb-true (w % 8) 0 a.1)

-- the machine's memory
pub memory_variable : (d : List TermNode) (n : Names) (ls : List LocalTerm) (place live : ℕ) (s : List Stored) (y : BilVariable) (known : BilVariable → Bool) →
    IsScope d n ls live →
    IsMemory (Var y) known → IsMemoryTerm d d n ls place live s s (Var y) n.memory.0
memory_variable d n ls place live s (Register b r) known sc h = absurd h
memory_variable d n ls place live s (Flag f) known sc h = absurd h
memory_variable d n ls place live s (Local x w) known sc h = absurd h
memory_variable d n ls place live s Mem known sc h = record {
  gathered = gathered_none d n ls place live s;
  at = sc.names.memory;
  kept = λ e. refl;
  value = λ x g v h. ap Bytes (sym h.names.memory);
}

-- a load
pub load_word : (d0 d1 d2 d3 : List TermNode) (n : Names) (ls : List LocalTerm) (place live : ℕ) (s0 s1 s2 : List Stored) (m a : Expression)
    (e f : memory.Endian) (w tm ta t nb : ℕ) →
    IsScope d0 n ls live → IsMemoryTerm d0 d1 n ls place live s0 s1 m tm → IsWordTerm d1 d2 n ls place live s1 s2 a ta → width a ≡ 32 → is_load_width w ≡ true →
    nb ≡ w / 8 → f ≡ e → IsMade d2 d3 (LoadNode nb f tm ta) t → IsWordTerm d0 d3 n ls place live s0 s2 (Load m a e w) t
load_word d0 d1 d2 d3 n ls place live s0 s1 s2 m a e f w tm ta t nb sc p q wa lw en ef made =
    let rm = memory_later d0 d1 d2 n ls place m tm _ _ _ _ _ q.gathered.grew (reads_memory d0 d1 n ls place live s0 s1 m tm p) in
    let ra = reads_before d0 d1 d2 n ls place live a ta _ _ _ _ _ sc p.gathered.grew (reads d1 d2 n ls place live s1 s2 a ta q) in
    let l = load_width w lw in
    let node = LoadNode (w / 8) e tm ta in
    let k : IsMade d2 d3 node t = subst (λ (z : memory.Endian). IsMade d2 d3 (LoadNode (w / 8) z tm ta) t) ef
    (subst (λ (z : ℕ). IsMade d2 d3 (LoadNode z f tm ta) t) en made) in record {
      gathered = gathered_as d0 d3 n ls place live s0 s2 _ (expression_cost (Load m a e w)) _ (stored_by (Load m a e w)) (omega arith) (omega arith)
          (omega arith) (omega arith) (omega arith)
          (λ x g v h. refl)
          (gathered_then d0 d2 d3 n ls place live s0 s2 _ _ _ sc (gathered_on d0 d1 d2 n ls place live s0 s1 s2 _ _ _ _ sc p.gathered q.gathered)
          (gathered_made d2 d3 n ls place live s2 node t 0 (w / 8) 0 k (λ i. i) refl refl refl refl));
      wide = (l.0, l.1);
      at = made_width d2 d3 node t w k (omega (arith, l.2));
      value = λ x g v h.
          ap (λ z. load_from e w z (evaluate a (x.choice place) v)) (rm.value x g v h) ∙ ap (load_from e w (Bytes (term_value x d2 tm).bytes))
          (ra.value x g v h)
          ∙ load_is e w (width a) (term_value x d2 tm).bytes (term_word x d2 ta) wa ∙ ap (Word w) (sym (ap (λ (z : TermValue). z.word) (k.value x g)));
    }

-- a store
pub store_memory : (d0 d1 d2 d3 d4 : List TermNode) (n : Names) (ls : List LocalTerm) (place live : ℕ) (s0 s1 s2 s3 s4 : List Stored) (m a v : Expression)
    (e f : memory.Endian)
    (w tm ta tv t nb : ℕ) (one : Stored) →
    IsScope d0 n ls live → IsMemoryTerm d0 d1 n ls place live s0 s1 m tm → IsWordTerm d1 d2 n ls place live s1 s2 a ta →
    IsWordTerm d2 d3 n ls place live s2 s3 v tv →
    width a ≡ 32 → width v ≡ w → is_load_width w ≡ true → nb ≡ w / 8 → f ≡ e → IsMade d3 d4 (StoreNode nb f tm ta tv) t → s4 ≡ s3 ++ one ∷ [] →
    one.guard.0 ≡ live →
    one.address.0 ≡ ta → one.bytes ≡ nb → IsMemoryTerm d0 d4 n ls place live s0 s4 (Store m a e w v) t
store_memory d0 d1 d2 d3 d4 n ls place live s0 s1 s2 s3 s4 m a v e f w tm ta tv t nb one sc p q r wa wv lw en ef made push og oa ob =
    let g2 = grew_on d1 d2 d3 _ _ _ _ _ _ _ _ _ _ q.gathered.grew r.gathered.grew in
    let g02 = grew_on d0 d1 d2 _ _ _ _ _ _ _ _ _ _ p.gathered.grew q.gathered.grew in
    let g03 = grew_on d0 d2 d3 _ _ _ _ _ _ _ _ _ _ g02 r.gathered.grew in
    let rm = memory_later d0 d1 d3 n ls place m tm _ _ _ _ _ g2 (reads_memory d0 d1 n ls place live s0 s1 m tm p) in
    let ra = reads_later d0 d2 d3 n ls place a ta _ _ _ _ _ r.gathered.grew
    (reads_before d0 d1 d2 n ls place live a ta _ _ _ _ _ sc p.gathered.grew (reads d1 d2 n ls place live s1 s2 a ta q)) in
    let rv = reads_before d0 d2 d3 n ls place live v tv _ _ _ _ _ sc g02 (reads d2 d3 n ls place live s2 s3 v tv r) in
    let l = load_width w lw in
    let node = StoreNode (w / 8) e tm ta tv in
    let k : IsMade d3 d4 node t = subst (λ (z : memory.Endian). IsMade d3 d4 (StoreNode (w / 8) z tm ta tv) t) ef
    (subst (λ (z : ℕ). IsMade d3 d4 (StoreNode z f tm ta tv) t) en made) in
    let g4 = made_grew d3 d4 node t k in
    let bytes : one.bytes ≡ w / 8 = ob ∙ en in
    let at : HasWidth d4 32 one.address.0 = subst (HasWidth d4 32) (sym oa) (grew_width d3 d4 _ _ _ _ _ 32 ta g4 (subst
    (λ (z : ℕ). HasWidth d3 z ta) wa ra.at)) in
    let bit = scope_kept d3 d4 _ _ _ _ _ n ls live g4 (scope_kept d0 d3 _ _ _ _ _ n ls live g03 sc) in
    let own = gathered_store d3 d4 n ls place live s3 s4 node one t (w / 8) (λ c z. bytes_at (w / 8) (evaluate a c z)) k (λ i. i) refl refl refl refl push
    (record { guard = subst (HasWidth d4 1) (sym og) bit.live_bit; address = at; some = omega (arith, l.0, l.2); few = omega (arith, l.1) }) og bytes
    (λ x g z h.
    ap (bytes_at (w / 8)) (ra.value x g z (holds_back d0 d3 _ _ _ _ _ n ls live x z g03 sc h))
    ∙ ap (λ c. span c (w / 8)) (sym (word_kept d3 d4 _ _ _ _ _ ta x g4 ra.at.0) ∙ ap (term_word x d4) (sym oa)) ∙ ap (span (term_word x d4 one.address.0))
    (sym bytes)) in record {
      gathered = gathered_as d0 d4 n ls place live s0 s4 _ (expression_cost (Store m a e w v)) _ (stored_by (Store m a e w v)) (omega arith) (omega arith)
          (omega arith) (omega arith) (omega arith)
          (λ x g z h. simp append_assoc)
          (gathered_on d0 d3 d4 n ls place live s0 s3 s4 _ _ _ _ sc
          (gathered_on d0 d2 d3 n ls place live s0 s2 s3 _ _ _ _ sc
          (gathered_on d0 d1 d2 n ls place live s0 s1 s2 _ _ _ _ sc p.gathered q.gathered) r.gathered) own);
      at = made_width d3 d4 node t 0 k refl;
      kept = λ z. absurd (omega (arith, l.0, l.2, z));
      value = λ x g z h.
          ap (λ c. store_to e w c (evaluate a (x.choice place) z) (evaluate v (x.choice place) z)) (rm.value x g z h)
          ∙ ap (λ c. store_to e w (Bytes (term_value x d3 tm).bytes) c (evaluate v (x.choice place) z)) (ra.value x g z h)
          ∙ ap (store_to e w (Bytes (term_value x d3 tm).bytes) (Word (width a) (term_word x d3 ta))) (rv.value x g z h)
          ∙ store_is e w (width a) (width v) _ _ _ wa wv ∙ ap Bytes (sym (ap (λ (c : TermValue). c.bytes) (k.value x g)));
    }

-- bits of a word
pub extract_word : (d0 d1 d2 : List TermNode) (n : Names) (ls : List LocalTerm) (place live : ℕ) (s0 s1 : List Stored) (hi lo : ℕ) (a : Expression) (ta t : ℕ) →
    IsScope d0 n ls live → IsWordTerm d0 d1 n ls place live s0 s1 a ta → lo ≤ hi → hi < width a → IsMade d1 d2 (ExtractNode hi lo ta) t →
    IsWordTerm d0 d2 n ls place live s0 s1 (Extract hi lo a) t
extract_word d0 d1 d2 n ls place live s0 s1 hi lo a ta t sc p le lt k = record {
  gathered = gathered_as d0 d2 n ls place live s0 s1 _ (expression_cost (Extract hi lo a)) _ (stored_by (Extract hi lo a)) (omega arith) (omega arith)
      (omega arith) (omega arith) (omega arith)
      (λ x g v h. refl)
      (gathered_then d0 d1 d2 n ls place live s0 s1 _ _ _ sc p.gathered (gathered_made d1 d2 n ls place live s1 (ExtractNode hi lo ta) t 0 0 0 k
      (λ i. i) refl refl refl refl));
  wide = (omega arith, omega (arith, p.wide.1));
  at = made_width d1 d2 (ExtractNode hi lo ta) t (hi + 1 - lo) k refl;
  value = λ x g v h. ap (extract_from hi lo) (p.value x g v h) ∙ extract_is hi lo (width a) _ le lt ∙ ap (Word (hi + 1 - lo)) (sym (ap
      (λ (z : TermValue). z.word) (k.value x g)));
}

-- what is known of the node of a cast
record IsCastNode (m : TermNode) : Type 0 where
  input : IsInput m → ⊥
  gates : own_gates m ≡ 0
  loads : own_loads m ≡ 0
  stores : terms.own_stores m ≡ 0
  joins : own_joins m ≡ 0

cast_costs : (k : CastKind) (n m a : ℕ) → IsCastNode (cast_node k n m a)
cast_costs Low n m a = record { input = λ i. i; gates = refl; loads = refl; stores = refl; joins = refl }
cast_costs High n m a = record { input = λ i. i; gates = refl; loads = refl; stores = refl; joins = refl }
cast_costs Signed n m a = record { input = λ i. i; gates = refl; loads = refl; stores = refl; joins = refl }
cast_costs Unsigned n m a = record { input = λ i. i; gates = refl; loads = refl; stores = refl; joins = refl }

cast_width : (k : CastKind) (n m a : ℕ) → cast_fits k m n ≡ true → 1 ≤ m → width_of (cast_node k n m a) ≡ m
cast_width Low n m a f h = omega arith
cast_width High n m a f h = (let le : m ≤ n = grind (arith, nat_tests) in omega arith)
cast_width Signed n m a f h = refl
cast_width Unsigned n m a f h = refl

cast_value : (k : CastKind) (old new : List TermNode) (n m a t : ℕ) (x : TermReading) → InRange x → IsMade old new (cast_node k n m a) t →
    term_word x new t ≡ cast_word k n m (term_word x old a)
cast_value Low old new n m a t x g k = ap (λ (z : TermValue). z.word) (k.value x g)
cast_value High old new n m a t x g k = ap (λ (z : TermValue). z.word) (k.value x g)
cast_value Signed old new n m a t x g k = ap (λ (z : TermValue). z.word) (k.value x g)
cast_value Unsigned old new n m a t x g k = ap (λ (z : TermValue). z.word) (k.value x g)

-- a word in another width
pub cast_to_word : (d0 d1 d2 : List TermNode) (n : Names) (ls : List LocalTerm) (place live : ℕ) (s0 s1 : List Stored) (kind : CastKind) (m : ℕ)
    (a : Expression) (ta t w : ℕ) (node : TermNode) →
    IsScope d0 n ls live → IsWordTerm d0 d1 n ls place live s0 s1 a ta → cast_fits kind m (width a) ≡ true → IsWidth m → w ≡ width_of (node_at d1 ta) →
    node ≡ cast_node kind w m ta →
    IsMade d1 d2 node t → IsWordTerm d0 d2 n ls place live s0 s1 (Cast kind m a) t
cast_to_word d0 d1 d2 n ls place live s0 s1 kind m a ta t w node sc p f wm e is made =
    let own = cast_node kind (width a) m ta in
    let k : IsMade d1 d2 own t = subst (λ (z : ℕ). IsMade d1 d2 (cast_node kind z m ta) t) (e ∙ p.at.1) (subst (λ (z : TermNode). IsMade d1 d2 z t) is made) in
    let c = cast_costs kind (width a) m ta in
    let g2 = made_grew d1 d2 own t k in record {
      gathered = gathered_as d0 d2 n ls place live s0 s1 _ (expression_cost (Cast kind m a)) _ (stored_by (Cast kind m a)) (omega arith) (omega arith)
          (omega arith) (omega arith) (omega arith)
          (λ x g v h. refl)
          (gathered_then d0 d1 d2 n ls place live s0 s1 _ _ _ sc p.gathered
          (gathered_made d1 d2 n ls place live s1 own t 0 0 0 k c.input c.gates c.loads c.stores c.joins));
      wide = wm;
      at = made_width d1 d2 own t m k (cast_width kind (width a) m ta f wm.0);
      value = λ x g v h.
          ap (cast_to kind m) (p.value x g v h)
          ∙ cast_is kind (width a) m (term_word x d1 ta) f wm.0
          (subst (λ (z : ℕ). z < 2 ^ width a) (word_kept d1 d2 _ _ _ _ _ ta x g2 p.at.0)
          (word_fits x d2 (width a) ta g k.typed (grew_width d1 d2 _ _ _ _ _ (width a) ta g2 p.at)))
          ∙ ap (Word m) (sym (cast_value kind d1 d2 (width a) m ta t x g k));
    }

none_chosen : (v : Value) → chosen v [] [] ≡ []
none_chosen (Word n zero) = refl
none_chosen (Word n (suc v)) = refl
none_chosen (Bytes m) = refl
none_chosen Stuck = refl

none_at : (n : ℕ) (v : Value) → n ≡ 0 → bytes_at n v ≡ []
none_at n (Word k a) e = ap (span a) e
none_at n (Bytes m) e = refl
none_at n Stuck e = refl

none_in : (o : Option Env) (f : Env → List ℕ) → ((e : Env) → f e ≡ []) → stored_in o f ≡ []
none_in None f h = refl
none_in (Some e) f h = h e

two_none : (xs ys : List ℕ) → xs ≡ [] → ys ≡ [] → xs ++ ys ≡ []
two_none xs ys p q = ap (λ z. z ++ ys) p ∙ q

-- an expression without stores stores nothing
pub no_stores : (e : Expression) → total own_stores e ≡ 0 → (c : ℕ) (v : Env) → stored_by e c v ≡ []
no_stores (Var x) h c v = refl
no_stores (Constant n a) h c v = refl
no_stores (Load m a o n) h c v = two_none _ _ (no_stores m (omega arith) c v) (no_stores a (omega arith) c v)
no_stores (Store m a o n b) h c v =
    let z : n / 8 ≡ 0 = omega arith in
    simp (no_stores m (omega arith) c v, no_stores a (omega arith) c v, no_stores b (omega arith) c v, none_at (n / 8) (evaluate a c v) z)
no_stores (Binary o a b) h c v = two_none _ _ (no_stores a (omega arith) c v) (no_stores b (omega arith) c v)
no_stores (Unary o a) h c v = no_stores a (omega arith) c v
no_stores (Cast k n a) h c v = no_stores a (omega arith) c v
no_stores (Let x n a b) h c v =
    two_none _ _ (no_stores a (omega arith) c v) (none_in (assign (Local x n) (evaluate a c v) v) (stored_by b c) (λ e. no_stores b (omega arith) c e))
no_stores (Unknown t) h c v = refl
no_stores (Choose t a b) h c v =
    two_none _ _ (no_stores t (omega arith) c v)
    (ap (λ z. chosen (evaluate t c v) z (stored_by b c v)) (no_stores a (omega arith) c v) ∙ ap (chosen (evaluate t c v) [])
    (no_stores b (omega arith) c v) ∙ none_chosen (evaluate t c v))
no_stores (Extract hi lo a) h c v = no_stores a (omega arith) c v
no_stores (Concat a b) h c v = two_none _ _ (no_stores a (omega arith) c v) (no_stores b (omega arith) c v)

-- a choice, whose sides store nothing
pub choose_word : (d0 d1 d2 d3 d4 : List TermNode) (n : Names) (ls : List LocalTerm) (place live : ℕ) (s0 s1 s2 s3 : List Stored) (c a b : Expression)
    (tc ta tb t w : ℕ) →
    IsScope d0 n ls live → IsWordTerm d0 d1 n ls place live s0 s1 c tc → IsWordTerm d1 d2 n ls place live s1 s2 a ta →
    IsWordTerm d2 d3 n ls place live s2 s3 b tb →
    width c ≡ 1 → width a ≡ width b → total own_chosen_stores (Choose c a b) ≡ 0 → w ≡ width_of (node_at d3 ta) → IsMade d3 d4 (SelectNode w tc ta tb) t →
    IsWordTerm d0 d4 n ls place live s0 s3 (Choose c a b) t
choose_word d0 d1 d2 d3 d4 n ls place live s0 s1 s2 s3 c a b tc ta tb t w sc p q r wc e steady f made =
    let g13 = grew_on d1 d2 d3 _ _ _ _ _ _ _ _ _ _ q.gathered.grew r.gathered.grew in
    let g02 = grew_on d0 d1 d2 _ _ _ _ _ _ _ _ _ _ p.gathered.grew q.gathered.grew in
    let rc = reads_later d0 d1 d3 n ls place c tc _ _ _ _ _ g13 (reads d0 d1 n ls place live s0 s1 c tc p) in
    let ra = reads_later d0 d2 d3 n ls place a ta _ _ _ _ _ r.gathered.grew
    (reads_before d0 d1 d2 n ls place live a ta _ _ _ _ _ sc p.gathered.grew (reads d1 d2 n ls place live s1 s2 a ta q)) in
    let rb = reads_before d0 d2 d3 n ls place live b tb _ _ _ _ _ sc g02 (reads d2 d3 n ls place live s2 s3 b tb r) in
    let node = SelectNode (width a) tc ta tb in
    let k : IsMade d3 d4 node t = subst (λ (z : ℕ). IsMade d3 d4 (SelectNode z tc ta tb) t) (f ∙ ra.at.1) made in
    let quiet_a : total own_stores a ≡ 0 = omega arith in
    let quiet_b : total own_stores b ≡ 0 = omega arith in record {
      gathered = gathered_as d0 d4 n ls place live s0 s3 _ (expression_cost (Choose c a b)) _ (stored_by (Choose c a b)) (omega arith) (omega arith)
          (omega arith) (omega arith) (omega arith)
          (λ x g v h. chosen_none (evaluate c (x.choice place) v) (stored_by c (x.choice place) v) _ _ (no_stores a quiet_a (x.choice place) v)
          (no_stores b quiet_b (x.choice place) v))
          (gathered_then d0 d3 d4 n ls place live s0 s3 _ _ _ sc
          (gathered_on d0 d2 d3 n ls place live s0 s2 s3 _ _ _ _ sc (gathered_on d0 d1 d2 n ls place live s0 s1 s2 _ _ _ _ sc p.gathered q.gathered) r.gathered)
          (gathered_made d3 d4 n ls place live s3 node t (width a) 0 0 k (λ i. i) refl refl refl refl));
      wide = q.wide;
      at = made_width d3 d4 node t (width a) k refl;
      value = λ x g v h.
          ap (λ z. choose z (evaluate a (x.choice place) v) (evaluate b (x.choice place) v)) (rc.value x g v h)
          ∙ ap (λ z. choose (Word (width c) (term_word x d3 tc)) z (evaluate b (x.choice place) v)) (ra.value x g v h)
          ∙ ap (choose (Word (width c) (term_word x d3 tc)) (Word (width a) (term_word x d3 ta))) (rb.value x g v h)
          ∙ choose_is (width c) (width a) (width b) _ _ _ wc e ∙ ap (Word (width a)) (sym (ap (λ (z : TermValue). z.word) (k.value x g)));
    }
  where
    chosen_none : (v : Value) (ts xs ys : List ℕ) → xs ≡ [] → ys ≡ [] → (ts ++ xs) ++ ys ≡ ts ++ chosen v xs ys
    chosen_none v ts xs ys p q =
        ap (λ z. (ts ++ z) ++ ys) p ∙ ap (λ z. (ts ++ []) ++ z) q ∙ append-nil (ts ++ [])
        ∙ ap (λ z. ts ++ z) (sym (ap (λ z. chosen v z ys) p ∙ ap (chosen v []) q ∙ none_chosen v))

-- the environment under a let
bound : (y w a : ℕ) (v : Env) → assign (Local y w) (Word w a) v ≡ Some (record v { locals = put_local y w a v.locals })
bound y w a v = ap (λ (z : Bool). if z then Some (record v { locals = put_local y w a v.locals }) else None) (eq-eqb w w refl)

gathered_let : (d0 d1 d2 : List TermNode) (n : Names) (ls : List LocalTerm) (place live : ℕ) (s1 s2 : List Stored) (y w ta g l s j k : ℕ) (term : LocalTerm)
    (a b : Expression) → IsScope d0 n ls live →
    Grew d0 d1 g l s j k → term.number ≡ y → term.width ≡ w → term.term.0 ≡ ta →
    ((x : TermReading) → InRange x → (v : Env) → Holds d0 x n ls v → evaluate a (x.choice place) v ≡ Word w (term_word x d1 ta)) →
    Gathered d1 d2 n (ls ++ term ∷ []) place live s1 s2 (expression_cost b) (stored_by b) →
    Gathered d1 d2 n ls place live s1 s2 (expression_cost b) (λ c v. stored_in (assign (Local y w) (evaluate a c v) v) (stored_by b c))
gathered_let d0 d1 d2 n ls place live s1 s2 y w ta g l s j k term a b sc grew ey ew et val p = record {
  grew = p.grew;
  inputs = p.inputs;
  more = p.more;
  behind = p.behind;
  stores = p.stores;
  bytes = p.bytes;
  stored = λ x i v h z.
      let q = val x i v (holds_back d0 d1 g l s j k n ls live x v grew sc h) in
      let list : stored_in (assign (Local y w) (evaluate a (x.choice place) v) v) (stored_by b (x.choice place)) ≡
      stored_by b (x.choice place) (record v { locals = put_local y w (term_word x d1 ta) v.locals }) =
      ap (λ (u : Value). stored_in (assign (Local y w) u v) (stored_by b (x.choice place))) q
      ∙ ap (λ (u : Option Env). stored_in u (stored_by b (x.choice place))) (bound y w (term_word x d1 ta) v) in
      let env : put_local term.number term.width (term_word x d1 term.term.0) v.locals ≡ put_local y w (term_word x d1 ta) v.locals =
      ap (λ (u : ℕ). put_local u term.width (term_word x d1 term.term.0) v.locals) ey ∙ ap (λ (u : ℕ). put_local y u (term_word x d1 term.term.0) v.locals) ew
      ∙ ap (λ (u : ℕ). put_local y w (term_word x d1 u) v.locals) et in
      let at = p.stored x i (record v { locals = put_local term.number term.width (term_word x d1 term.term.0) v.locals }) (holds_push d1 x n ls term v h) z in
      let same : stored_by b (x.choice place) (record v { locals = put_local term.number term.width (term_word x d1 term.term.0) v.locals }) ≡
      stored_in (assign (Local y w) (evaluate a (x.choice place) v) v) (stored_by b (x.choice place)) =
      ap (λ (u : ℕ → ℕ → Value). stored_by b (x.choice place) (record v { locals = u })) env ∙ sym list in
      subst (λ (u : List ℕ). Contains u z ↔ IsAmong d2 x p.more z) same at;
}

let_env : (y w ta : ℕ) (term : LocalTerm) (d1 : List TermNode) (x : TermReading) (v : Env) → term.number ≡ y → term.width ≡ w → term.term.0 ≡ ta →
    put_local term.number term.width (term_word x d1 term.term.0) v.locals ≡ put_local y w (term_word x d1 ta) v.locals
let_env y w ta term d1 x v ey ew et =
    ap (λ (u : ℕ). put_local u term.width (term_word x d1 term.term.0) v.locals) ey ∙ ap (λ (u : ℕ). put_local y u (term_word x d1 term.term.0) v.locals) ew
    ∙ ap (λ (u : ℕ). put_local y w (term_word x d1 u) v.locals) et

-- the value of a let
let_value : (d0 d1 : List TermNode) (n : Names) (ls : List LocalTerm) (place live y w ta g l s j k : ℕ) (term : LocalTerm) (a b : Expression) (x : TermReading)
    (v : Env) (r : Value) →
    IsScope d0 n ls live → Grew d0 d1 g l s j k → term.number ≡ y → term.width ≡ w → term.term.0 ≡ ta →
    evaluate a (x.choice place) v ≡ Word w (term_word x d1 ta) →
    evaluate b (x.choice place) (record v { locals = put_local term.number term.width (term_word x d1 term.term.0) v.locals }) ≡ r →
    evaluate (Let y w a b) (x.choice place) v ≡ r
let_value d0 d1 n ls place live y w ta g l s j k term a b x v r sc grew ey ew et q h =
    ap (λ (u : Value). in_env (assign (Local y w) u v) (evaluate b (x.choice place))) q
    ∙ ap (λ (u : Option Env). in_env u (evaluate b (x.choice place))) (bound y w (term_word x d1 ta) v)
    ∙ ap (λ (u : ℕ → ℕ → Value). evaluate b (x.choice place) (record v { locals = u })) (sym (let_env y w ta term d1 x v ey ew et)) ∙ h

-- a word under a let
pub let_word : (d0 d1 d2 : List TermNode) (n : Names) (ls : List LocalTerm) (place live : ℕ) (s0 s1 s2 : List Stored) (y w ta tb : ℕ) (term : LocalTerm)
    (a b : Expression) →
    IsScope d0 n ls live → IsWordTerm d0 d1 n ls place live s0 s1 a ta → width a ≡ w → term.number ≡ y → term.width ≡ w → term.term.0 ≡ ta →
    IsWordTerm d1 d2 n (ls ++ term ∷ []) place live s1 s2 b tb → IsWordTerm d0 d2 n ls place live s0 s2 (Let y w a b) tb
let_word d0 d1 d2 n ls place live s0 s1 s2 y w ta tb term a b sc p wa ey ew et q =
    let val : (x : TermReading) → InRange x → (v : Env) → Holds d0 x n ls v → evaluate a (x.choice place) v ≡ Word w (term_word x d1 ta) =
    λ x g v h. p.value x g v h ∙ ap (λ (u : ℕ). Word u (term_word x d1 ta)) wa in record {
      gathered = gathered_as d0 d2 n ls place live s0 s2 _ (expression_cost (Let y w a b)) _ (stored_by (Let y w a b)) (omega arith) (omega arith) (omega arith)
          (omega arith) (omega arith)
          (λ x g v h. refl)
          (gathered_on d0 d1 d2 n ls place live s0 s1 s2 _ _ _ _ sc p.gathered
          (gathered_let d0 d1 d2 n ls place live s1 s2 y w ta _ _ _ _ _ term a b sc p.gathered.grew ey ew et val q.gathered));
      wide = q.wide;
      at = q.at;
      value = λ x g v h.
          let_value d0 d1 n ls place live y w ta _ _ _ _ _ term a b x v _ sc p.gathered.grew ey ew et (val x g v h)
          (q.value x g _ (holds_push d1 x n ls term v (holds_kept d0 d1 _ _ _ _ _ n ls live x v p.gathered.grew sc h)));
    }

-- and a memory
pub let_memory : (d0 d1 d2 : List TermNode) (n : Names) (ls : List LocalTerm) (place live : ℕ) (s0 s1 s2 : List Stored) (y w ta tb : ℕ) (term : LocalTerm)
    (a b : Expression) →
    IsScope d0 n ls live → IsWordTerm d0 d1 n ls place live s0 s1 a ta → width a ≡ w → term.number ≡ y → term.width ≡ w → term.term.0 ≡ ta →
    IsMemoryTerm d1 d2 n (ls ++ term ∷ []) place live s1 s2 b tb → IsMemoryTerm d0 d2 n ls place live s0 s2 (Let y w a b) tb
let_memory d0 d1 d2 n ls place live s0 s1 s2 y w ta tb term a b sc p wa ey ew et q =
    let val : (x : TermReading) → InRange x → (v : Env) → Holds d0 x n ls v → evaluate a (x.choice place) v ≡ Word w (term_word x d1 ta) =
    λ x g v h. p.value x g v h ∙ ap (λ (u : ℕ). Word u (term_word x d1 ta)) wa in record {
      gathered = gathered_as d0 d2 n ls place live s0 s2 _ (expression_cost (Let y w a b)) _ (stored_by (Let y w a b)) (omega arith) (omega arith) (omega arith)
          (omega arith) (omega arith)
          (λ x g v h. refl)
          (gathered_on d0 d1 d2 n ls place live s0 s1 s2 _ _ _ _ sc p.gathered
          (gathered_let d0 d1 d2 n ls place live s1 s2 y w ta _ _ _ _ _ term a b sc p.gathered.grew ey ew et val q.gathered));
      at = q.at;
      kept = λ e. q.kept (omega arith);
      value = λ x g v h.
          let_value d0 d1 n ls place live y w ta _ _ _ _ _ term a b x v _ sc p.gathered.grew ey ew et (val x g v h)
          (q.value x g _ (holds_push d1 x n ls term v (holds_kept d0 d1 _ _ _ _ _ n ls live x v p.gathered.grew sc h)));
    }
