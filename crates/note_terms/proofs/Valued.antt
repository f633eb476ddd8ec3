-- Values of expressions as terms.
use Rattle.std.proofs.Common.{inl, inr, ◌≡◌, ℕ, zero, suc, ◌+◌, ◌-◌, ◌*◌, ◌<◌, ◌≤◌, ◌⊎◌, Bool, true, false, not, ◌||◌, nat_eq, List, [], ◌∷◌, map, length, slice_index, refl, ap, sym, subst, ◌∙◌, arith, if◌then◌else◌, ◌==◌}
use Rattle.std.proofs.lemmas.Bool.{eqb-true}
use Rattle.std.proofs.lemmas.Bool.Decides.{eqb_tells}
use Rattle.std.specs.List.{list_any}
use Rattle.word_spec.specs.Words.{bit}
use Rattle.word_spec.specs.Memory.{Endian, Little, endian, load}
use Rattle.bilv_spec.specs.Notes.{Expr, Op, Number, Register, Flag, Pc, Bound, Memory, Old, Not, Binary, Each, apply, is_true, value, put_bound, each, written_out}
use Rattle.bilv_spec.specs.Points.{line_price, bytes_loaded, products, operations, value_count, is_product, is_written}
use Rattle.bilv_spec.specs.Notes as notes
use Rattle.word_spec.specs.RowFiles.{from_to}
use Rattle.term_spec.specs.Terms.{TermReading, TermNode, ConstantNode, LoadNode, AreTyped, HasMemory, HasWidth, term_value, term_word}
use Rattle.walk_spec.specs.Unrolled.{Carried, UnrolledProgram, state_at}
use Rattle.walk_spec.specs.Unrolling.{IsReadable}
use Rattle.term_spec.specs.Passive.{AreNames, Denotes}
use Rattle.walk_spec.specs.Prices.{line_size}
use Rattle.term_dag.specs.Made.{Grew, IsMade, IsInterned}
use Rattle.term_dag.proofs.Growth.{grew_none, grew_on, grew_more, grew_width, inputs_none, inputs_on}
use Rattle.notes_value.specs.declared.expressions.Size.TheVariants as size
use Rattle.notes_value.proofs.WrittenOut.{put_written, put_zero, loads_put}
use Rattle.notes_value.proofs.Looped.{behind, behind_is, behind_none}
use Rattle.term_names.specs.declared.names.Names.{Names}
use Rattle.term_names.specs.Views.{form_of, names_of}
use Rattle.term_names.specs.Chosen.{HaveSameForm}
use Rattle.note_terms.specs.declared.Now.{Now}
use Rattle.note_terms.specs.Steps.{IsShown, IsZero, IsStep, operator_gates, gates_of, nodes_of}
use Rattle.note_terms.specs.Lines.{IsStateOf, AreStateTerms, IsLine, IsWord, IsValue}
use Rattle.note_terms.proofs.Steps.{step_made, step_kept, step_as, step_on}

-- the names of a state stay names
pub names_stay : (u : UnrolledProgram) (old new : List TermNode) (g l s j n : ℕ) (m : _) → Grew old new g l s j n → AreNames u old m → AreNames u new m
names_stay u old new g l s j n m p h = record {
  registers = h.registers;
  flags = h.flags;
  words = λ i k. grew_width old new g l s j n 32 _ p (h.words i k);
  bits = λ f k. grew_width old new g l s j n 1 _ p (h.bits f k);
  memory = grew_width old new g l s j n 0 _ p h.memory;
}

-- they keep what they denote
pub denotes_stays : (u : UnrolledProgram) (old new : List TermNode) (g l s j n : ℕ) (m : _) (x : TermReading) (c : Carried) → Grew old new g l s j n →
    AreNames u old m →
    Denotes u old x m c → Denotes u new x m c
denotes_stays u old new g l s j n m x c p h d = record {
  registers = λ i k. ap (λ v. v.word) (p.keeps x _ (h.words i k).0) ∙ d.registers i k;
  flags = λ f k. ap (λ v. v.word) (p.keeps x _ (h.bits f k).0) ∙ d.flags f k;
  memory = ap (λ v. v.bytes) (p.keeps x _ h.memory.0) ∙ d.memory;
}

-- terms for a state stay so
pub state_stays : (old new : List TermNode) (g l s j n : ℕ) (w : Now) → Grew old new g l s j n → AreStateTerms old w → AreStateTerms new w
state_stays old new g l s j n w p h = record { names = names_stay _ old new g l s j n _ p h.names; pc = grew_width old new g l s j n 32 _ p h.pc }

-- and are the same state
pub is_state_stays : (old new : List TermNode) (g l s j n : ℕ) (w : Now) (x : TermReading) (c : Carried) (at : ℕ) → Grew old new g l s j n →
    AreStateTerms old w →
    IsStateOf old x w c at → IsStateOf new x w c at
is_state_stays old new g l s j n w x c at p h d = record {
  carried = denotes_stays _ old new g l s j n _ x c p h.names d.carried;
  pc = ap (λ v. v.word) (p.keeps x _ h.pc.0) ∙ d.pc;
}

-- zero stays zero
pub zero_stays : (old new : List TermNode) (g l s j n t : ℕ) → Grew old new g l s j n → IsZero old t → IsZero new t
zero_stays old new g l s j n t p h = record {
  word = grew_width old new g l s j n 32 t p h.word;
  value = λ x r. ap (λ v. v.word) (p.keeps x t h.word.0) ∙ h.value x r;
}

-- the form of names, by its parts
abbrev form_by : (first registers flags : ℕ) → UnrolledProgram
form_by first registers flags = record {
  endian = Little;
  narrow = false;
  registers = from_to first registers;
  flags = flags;
  link = 0;
  entry = 0;
  requires = [];
  ensures = [];
  kept = [];
  known = [];
  literals = [];
  points = [];
}

-- names of one form
pub form_same : (a b : Names) → HaveSameForm a b → form_of a ≡ form_of b
form_same a b h =
    ap (λ f. form_by f (length a.registers.items) (length a.flags.items)) h.first
    ∙ ap (λ r. form_by b.first r (length a.flags.items)) h.registers ∙ ap (form_by b.first (length b.registers.items)) h.flags

-- a number of a range, which is its first or one of the rest
in_range_by : (r first count : ℕ) (b : Bool) → nat_eq r first ≡ b → (b || list_any (nat_eq r) (from_to (first + 1) count)) ≡ true →
    (list_any (nat_eq r) (from_to (first + 1) count) ≡ true → (first + 1 ≤ r) × (r < first + 1 + count)) → (first ≤ r) × (r < first + suc count)
in_range_by r first count true e h more = let same = eqb-true r first e in (omega arith, omega arith)
in_range_by r first count false e h more = let k = more h in (omega arith, omega arith)

-- a number of a range
pub in_range : (r first count : ℕ) → list_any (nat_eq r) (from_to first count) ≡ true → (first ≤ r) × (r < first + count)
in_range r first zero h = cc
in_range r first (suc count) h = in_range_by r first count (nat_eq r first) refl h (in_range r (first + 1) count)

-- the term at a place of a range
pub range_at : (first count i : ℕ) → i < count → slice_index (from_to first count) i ≡ first + i
range_at first zero i h = absurd (omega arith)
range_at first (suc count) zero h = omega arith
range_at first (suc count) (suc i) h = range_at (first + 1) count i (omega arith) ∙ omega arith

-- how long a range is
pub range_length : (first count : ℕ) → length (from_to first count) ≡ count
range_length first zero = refl
range_length first (suc count) = ap suc (range_length (first + 1) count)

-- a load at a value as an address, in 32 bits
pub loaded_step : (a b c d : List TermNode) (n k : ℕ) (e : Endian) (m l p q t : ℕ) → k ≡ n → HasMemory a m → l < length a →
    IsStep a b 0 0 1 (λ w. w ≡ 32) (λ x. term_word x a l) p →
    IsMade b c (LoadNode k e m p) q → IsStep c d 0 0 1 (λ w. w ≡ 32) (λ x. term_word x c q) t →
    IsStep a d 0 n 4 (λ w. w ≡ 32) (λ x. load e n (term_value x a m).bytes (term_word x a l)) t
loaded_step a b c d n k e m l p q t same h within s k-made last =
    let made = subst (λ (n : ℕ). IsMade b c (LoadNode n e m p) q) same k-made in
    let loads : IsStep b c 0 n 2 (λ w. w ≡ 8 * n) (λ x. load e n (term_value x b m).bytes (term_word x b p)) q =
    step_made b c 0 n _ _ (LoadNode n e m p) q made (omega arith) (omega arith) refl refl (λ i. i) (λ w e. e) (λ x r. refl) in
    step_as a d 0 (0 + n + 0) (1 + 2 + 1) 0 n 4 _ _ _ _ t
    (step_on a c d 0 (0 + n) (1 + 2) 0 0 1 _ _ _ _ q t (step_on a b c 0 0 1 0 n 2 _ _ _ _ p q s loads) last)
    (omega arith) (omega arith) (omega arith) (λ w f. f)
    (λ x r. loads.value x r ∙ ap (λ v. load e n v.bytes (term_word x b p)) (s.grew.keeps x m h.0) ∙ ap (load e n (term_value x a m).bytes) (s.value x r))

-- the value of a number
pub number_value : (old new : List TermNode) (big : Bool) (n : ℕ) (now entry : Now) (t : ℕ) → IsInterned old new (ConstantNode 32 n) t →
    IsValue old new big (Number n) now entry t
number_value old new big n now entry t k =
    let s = step_kept old new (λ w. w ≡ 32) (λ x. n) (ConstantNode 32 n) t k refl refl refl refl (λ i. i) (λ w e. e) (λ x r. refl) in
    record { grew = s.grew; inputs = s.inputs; typed = s.typed; within = s.within; shown = inr s.fits; value = λ x r c d at from h g. s.value x r }

-- a term that is there
there : (ns : List TermNode) (g l n : ℕ) → Grew ns ns g l 0 0 n
there ns g l n = grew_more ns ns 0 0 0 0 0 g l 0 0 n (omega arith) (omega arith) (omega arith) (omega arith) (omega arith) (grew_none ns)

-- the value of a register
pub register_value : (ns : List TermNode) (big : Bool) (r : ℕ) (now entry : Now) (t : ℕ) → AreTyped ns → AreStateTerms ns now → now.names.now.first ≤ r →
    r < now.names.now.first + length now.names.now.registers.items → t ≡ slice_index (names_of now.names.now).registers (r - now.names.now.first) →
    IsValue ns ns big (Register r) now entry t
register_value ns big r now entry t typed h low high is =
    let first = now.names.now.first in
    let count = length now.names.now.registers.items in
    let long = range_length first count in
    let k : r - first < length (from_to first count) = omega arith in
    let place : HasWidth ns 32 t = subst (HasWidth ns 32) (sym is) (h.names.words (r - first) k) in
    let at_range : slice_index (from_to first count) (r - first) ≡ r = range_at first count (r - first) (omega arith) ∙ omega arith in
    record {
      grew = there ns 0 0 1;
      inputs = inputs_none ns _;
      typed = typed;
      within = place.0;
      shown = inr place.1;
      value = λ x ok c d at from g f. ap (term_word x ns) is ∙ g.carried.registers (r - first) k ∙ ap c.regs at_range;
    }

-- the value of a flag
pub flag_value : (ns : List TermNode) (big : Bool) (f : ℕ) (now entry : Now) (t : ℕ) → AreTyped ns → AreStateTerms ns now →
    f < length now.names.now.flags.items →
    t ≡ slice_index (names_of now.names.now).flags f → IsValue ns ns big (Flag f) now entry t
flag_value ns big f now entry t typed h k is =
    let place : HasWidth ns 1 t = subst (HasWidth ns 1) (sym is) (h.names.bits f k) in
    record {
      grew = there ns 0 0 1;
      inputs = inputs_none ns _;
      typed = typed;
      within = place.0;
      shown = inl place.1;
      value = λ x ok c d at from g e. ap (term_word x ns) is ∙ g.carried.flags f k;
    }

-- the value of a load
pub memory_value : (a b c : List TermNode) (big : Bool) (n : ℕ) (e : Expr) (now entry : Now) (l t : ℕ) → AreStateTerms a now → IsValue a b big e now entry l →
    IsStep b c 0 n 4 (λ w. w ≡ 32) (λ x. load (endian big) n (term_value x b now.names.now.memory.0).bytes (term_word x b l)) t →
    IsValue a c big (Memory n e) now entry t
memory_value a b c big n e now entry l t h v s = record {
  grew = grew_more a c (gates_of e + 0) (bytes_loaded e + n) 0 0 (nodes_of e + 4) (gates_of e) (n + bytes_loaded e) 0 0 (4 + nodes_of e)
      (omega arith) (omega arith) (omega arith) (omega arith) (omega arith)
      (grew_on a b c (gates_of e) (bytes_loaded e) 0 0 (nodes_of e) 0 n 0 0 4 v.grew s.grew);
  inputs = inputs_on a b c _ v.inputs s.inputs;
  typed = s.typed;
  within = s.within;
  shown = inr s.fits;
  value = λ x ok k d at from g f.
      s.value x ok
      ∙ ap (λ w. load (endian big) n w.bytes (term_word x b l)) (v.grew.keeps x now.names.now.memory.0 h.names.memory.0)
      ∙ ap (λ m. load (endian big) n m (term_word x b l)) g.carried.memory
      ∙ ap (load (endian big) n k.mem) (v.value x ok k d at from g f);
}

-- the value of a negation
pub not_value : (a b c : List TermNode) (big : Bool) (e : Expr) (now entry : Now) (l t : ℕ) → IsValue a b big e now entry l →
    IsStep b c 32 0 2 (λ w. w ≡ 1) (λ x. bit (not (is_true (term_word x b l)))) t → IsValue a c big (Not e) now entry t
not_value a b c big e now entry l t v s = record {
  grew = grew_more a c (gates_of e + 32) (bytes_loaded e + 0) 0 0 (nodes_of e + 2) (384 + gates_of e) (bytes_loaded e) 0 0 (4 + nodes_of e)
      (omega arith) (omega arith) (omega arith) (omega arith) (omega arith)
      (grew_on a b c (gates_of e) (bytes_loaded e) 0 0 (nodes_of e) 32 0 0 0 2 v.grew s.grew);
  inputs = inputs_on a b c _ v.inputs s.inputs;
  typed = s.typed;
  within = s.within;
  shown = inl s.fits;
  value = λ x ok k d at from g f. s.value x ok ∙ ap (λ w. bit (not (is_true w))) (v.value x ok k d at from g f);
}

-- the value of a binary operator
pub binary_value : (a b c d : List TermNode) (big : Bool) (o : Op) (e e' : Expr) (now entry : Now) (l r t : ℕ) → AreStateTerms a now → AreStateTerms a entry →
    IsValue a b big e now entry l → IsValue b c big e' now entry r →
    IsStep c d (operator_gates o) 0 6 IsShown (λ x. apply o (term_word x c l) (term_word x c r)) t →
    IsValue a d big (Binary o e e') now entry t
binary_value a b c d big o e e' now entry l r t h h' v v' s = record {
  grew = grew_more a d (gates_of e + gates_of e' + operator_gates o) (bytes_loaded e + bytes_loaded e' + 0) 0 0 (nodes_of e + nodes_of e' + 6)
      (operator_gates o + gates_of e + gates_of e') (bytes_loaded e + bytes_loaded e') 0 0 (7 + nodes_of e + nodes_of e')
      (omega arith) (omega arith) (omega arith) (omega arith) (omega arith)
      (grew_on a c d (gates_of e + gates_of e') (bytes_loaded e + bytes_loaded e') 0 0 (nodes_of e + nodes_of e') (operator_gates o) 0 0 0 6
      (grew_on a b c (gates_of e) (bytes_loaded e) 0 0 (nodes_of e) (gates_of e') (bytes_loaded e') 0 0 (nodes_of e') v.grew v'.grew) s.grew);
  inputs = inputs_on a c d _ (inputs_on a b c _ v.inputs v'.inputs) s.inputs;
  typed = s.typed;
  within = s.within;
  shown = s.fits;
  value = λ x ok k m at from g f.
      let left = ap (λ w. w.word) (v'.grew.keeps x l v.within) ∙ v.value x ok k m at from g f in
      let right = v'.value x ok k m at from (is_state_stays a b _ _ _ _ _ now x k at v.grew h g) (is_state_stays a b _ _ _ _ _ entry x m from v.grew h' f) in
      s.value x ok ∙ ap (λ w. apply o w (term_word x c r)) left ∙ ap (apply o (value (endian big) e (state_at k at) (state_at m from))) right;
}

-- The value of an `all`'s first value, made after the others.
each_value : (a b c d : List TermNode) (big : Bool) (e rest : Expr) (now entry : Now) (l r t : ℕ) → AreStateTerms a now → AreStateTerms a entry →
    IsValue a b big rest now entry r → IsValue b c big e now entry l →
    IsStep c d 384 0 6 IsShown (λ x. apply notes.And (term_word x c l) (term_word x c r)) t →
    IsValue a d big (Binary Each e rest) now entry t
each_value a b c d big e rest now entry l r t h h' v v' s = record {
  grew = grew_more a d (gates_of rest + gates_of e + 384) (bytes_loaded rest + bytes_loaded e + 0) 0 0 (nodes_of rest + nodes_of e + 6)
      (384 + gates_of e + gates_of rest) (bytes_loaded e + bytes_loaded rest) 0 0 (7 + nodes_of e + nodes_of rest)
      (omega arith) (omega arith) (omega arith) (omega arith) (omega arith)
      (grew_on a c d (gates_of rest + gates_of e) (bytes_loaded rest + bytes_loaded e) 0 0 (nodes_of rest + nodes_of e) 384 0 0 0 6
      (grew_on a b c (gates_of rest) (bytes_loaded rest) 0 0 (nodes_of rest) (gates_of e) (bytes_loaded e) 0 0 (nodes_of e) v.grew v'.grew) s.grew);
  inputs = inputs_on a c d _ (inputs_on a b c _ v.inputs v'.inputs) s.inputs;
  typed = s.typed;
  within = s.within;
  shown = s.fits;
  value = λ x ok k m at from g f.
      let right = ap (λ w. w.word) (v'.grew.keeps x r v.within) ∙ v.value x ok k m at from g f in
      let left = v'.value x ok k m at from (is_state_stays a b _ _ _ _ _ now x k at v.grew h g) (is_state_stays a b _ _ _ _ _ entry x m from v.grew h' f) in
      s.value x ok ∙ ap (λ w. apply Each w (term_word x c r)) left ∙ ap (apply Each (value (endian big) e (state_at k at) (state_at m from))) right;
}

-- an expression for each of some values, joined
abbrev pub joined : Expr → List ℕ → Expr
joined e vs = each (map (λ v. put_bound v e) vs)

-- From the last value down to one above another, the values of an `all` are joined.
pub record IsJoinedTo (old new : List TermNode) (big : Bool) (e : Expr) (now entry : Now) (low high v t : ℕ) : Type 0 where
  pub value : IsValue old new big (joined e (behind high v)) now entry t
  pub below : v ≤ high
  pub above : (high ≤ v) ⊎ (low ≤ v)

module _ (big : Bool) (e : Expr) (now entry : Now) (low high : ℕ) where
  -- none is
  pub joined_none : (old new : List TermNode) (t : ℕ) → IsInterned old new (ConstantNode 32 1) t → IsJoinedTo old new big e now entry low high high t
  joined_none old new t k = record {
    value = subst (λ vs. IsValue old new big (joined e vs) now entry t) (sym (behind_none high high (omega arith))) (number_value old new big 1 now entry t k);
    below = omega arith;
    above = inl (omega arith);
  }

  -- one more is
  pub joined_more : (a b c d : List TermNode) (v u l r t : ℕ) → AreStateTerms a now → AreStateTerms a entry →
      IsJoinedTo a b big e now entry low high v r → low < v → u ≡ v - 1 → IsValue b c big (put_bound v e) now entry l →
      IsStep c d 384 0 6 IsShown (λ x. apply notes.And (term_word x c l) (term_word x c r)) t →
      IsJoinedTo a d big e now entry low high u t
  joined_more a b c d v u l r t h h' j less is one s =
      let whole = each_value a b c d big (put_bound v e) (joined e (behind high v)) now entry l r t h h' j.value one s in
      let below = j.below in
      let same : u + 1 ≡ v = omega arith in
      record {
        value = subst (λ vs. IsValue a d big (joined e vs) now entry t)
            (sym (behind_is high u (omega arith) ∙ ap (λ z. z ∷ behind high z) same)) whole;
        below = omega arith;
        above = inr (omega arith);
      }

  -- the first is, and so all are
  pub joined_all : (a b c d : List TermNode) (v l r t : ℕ) → AreStateTerms a now → AreStateTerms a entry →
      IsJoinedTo a b big e now entry low high v r → v ≤ low → IsValue b c big (put_bound low e) now entry l →
      IsStep c d 384 0 6 IsShown (λ x. apply notes.And (term_word x c l) (term_word x c r)) t →
      IsValue a d big (written_out low high e) now entry t
  joined_all a b c d v l r t h h' j le one s =
      let below = j.below in
      let same : behind high v ≡ behind high low =
      elim j.above [
        | inl k ↦ behind_none high v k ∙ sym (behind_none high low (omega arith))
        | inr k ↦ let q : v ≡ low = omega arith in ap (behind high) q
      ] in
      each_value a b c d big (put_bound low e) (joined e (behind high low)) now entry l r t h h'
      (subst (λ vs. IsValue a b big (joined e vs) now entry r) same j.value) one s

-- the value of an `all` has no bound name
pub all_value : (old new : List TermNode) (big : Bool) (bound low high : ℕ) (a b : Expr) (now entry : Now) (t : ℕ) → a ≡ b →
    IsValue old new big (written_out low high a) now entry t → IsValue old new big (put_bound bound (written_out low high b)) now entry t
all_value old new big bound low high a b now entry t same v =
    subst (λ z. IsValue old new big z now entry t) (ap (written_out low high) same ∙ sym (put_written bound low high b)) v

-- an expression may have as many gates with a number in place of its bound name
gates_put : (v : ℕ) (e : Expr) → gates_of (put_bound v e) ≡ gates_of e
gates_put v (Number n) = refl
gates_put v (Register r) = refl
gates_put v (Flag f) = refl
gates_put v Pc = refl
gates_put v Bound = refl
gates_put v (Memory n e) = gates_put v e
gates_put v (Old e) = gates_put v e
gates_put v (Not e) = ap (λ z. 384 + z) (gates_put v e)
gates_put v (Binary o a b) = let h = gates_put v a in let k = gates_put v b in omega arith

-- and as many nodes
nodes_put : (v : ℕ) (e : Expr) → nodes_of (put_bound v e) ≡ nodes_of e
nodes_put v (Number n) = refl
nodes_put v (Register r) = refl
nodes_put v (Flag f) = refl
nodes_put v Pc = refl
nodes_put v Bound = refl
nodes_put v (Memory n e) = ap (λ z. 4 + z) (nodes_put v e)
nodes_put v (Old e) = ap (λ z. 4 + z) (nodes_put v e)
nodes_put v (Not e) = ap (λ z. 4 + z) (nodes_put v e)
nodes_put v (Binary o a b) = let h = nodes_put v a in let k = nodes_put v b in omega arith

-- the value of an expression whose bound name counts as 0
pub free_value : (old new : List TermNode) (big : Bool) (e : Expr) (now entry : Now) (t : ℕ) → IsValue old new big (put_bound 0 e) now entry t →
    IsValue old new big e now entry t
free_value old new big e now entry t v =
    let gates = gates_put 0 e in
    let loads = loads_put 0 e in
    let nodes = nodes_put 0 e in
    record {
      grew = grew_more old new (gates_of (put_bound 0 e)) (bytes_loaded (put_bound 0 e)) 0 0 (nodes_of (put_bound 0 e))
          (gates_of e) (bytes_loaded e) 0 0 (nodes_of e) (omega arith) (omega arith) (omega arith) (omega arith) (omega arith) v.grew;
      inputs = v.inputs;
      typed = v.typed;
      within = v.within;
      shown = v.shown;
      value = λ x ok c d at from g f. v.value x ok c d at from g f ∙ put_zero (endian big) e (state_at c at) (state_at d from);
    }

-- what can be read with a number in place of the bound name can be read
reads_open : (u : UnrolledProgram) (v : ℕ) (e : Expr) → IsReadable u (put_bound v e) → IsReadable u e
reads_open u v (Number n) h = h
reads_open u v (Register r) h = h
reads_open u v (Flag f) h = h
reads_open u v Pc h = h
reads_open u v Bound h = tt
reads_open u v (Memory n a) h = (h.0, h.1, reads_open u v a h.2)
reads_open u v (Old a) h = reads_open u v a h
reads_open u v (Not a) h = reads_open u v a h
reads_open u v (Binary o a b) h = (reads_open u v a h.0, reads_open u v b h.1)

-- the expression of an `all` can be, where it can
pub reads_all : (u : UnrolledProgram) (low high : ℕ) (e : Expr) → IsReadable u (written_out low high e) → IsReadable u e
reads_all u low high e h = reads_open u low e h.0

-- an operator of the text is at most one product, and the one that joins values is none
product_few : (o : Op) → is_product o ≤ is_written o
product_few notes.Or = omega arith
product_few notes.And = omega arith
product_few notes.Equal = omega arith
product_few notes.NotEqual = omega arith
product_few notes.Below = omega arith
product_few notes.AtMost = omega arith
product_few notes.Above = omega arith
product_few notes.AtLeast = omega arith
product_few notes.SignedBelow = omega arith
product_few notes.SignedAtMost = omega arith
product_few notes.SignedAbove = omega arith
product_few notes.SignedAtLeast = omega arith
product_few notes.BitOr = omega arith
product_few notes.BitXor = omega arith
product_few notes.BitAnd = omega arith
product_few notes.ShiftLeft = omega arith
product_few notes.ShiftRight = omega arith
product_few notes.ShiftSigned = omega arith
product_few notes.Plus = omega arith
product_few notes.Minus = omega arith
product_few notes.Times = omega arith
product_few notes.Each = omega arith

-- an operator is of the text or joins values
written_few : (o : Op) → is_written o ≤ 1
written_few notes.Each = omega arith
written_few o = omega arith

-- products are among the operators
products_few : (e : Expr) → products e ≤ operations e
products_few (Number n) = omega arith
products_few (Register r) = omega arith
products_few (Flag f) = omega arith
products_few Pc = omega arith
products_few Bound = omega arith
products_few (Memory n e) = products_few e
products_few (Old e) = products_few e
products_few (Not e) = let h = products_few e in omega arith
products_few (Binary o a b) = let h = products_few a in let k = products_few b in let p = product_few o in omega arith

-- the gates of an operator
operator_few : (o : Op) → operator_gates o ≡ 384 + 2688 * is_product o
operator_few notes.Times = refl
operator_few o = refl

-- the gates of an expression are within its price
gates_few : (e : Expr) → gates_of e ≡ 384 * (operations e + value_count e) + 2688 * products e
gates_few (Number n) = refl
gates_few (Register r) = refl
gates_few (Flag f) = refl
gates_few Pc = refl
gates_few Bound = refl
gates_few (Memory n e) = gates_few e
gates_few (Old e) = gates_few e
gates_few (Not e) = let h = gates_few e in omega arith
gates_few (Binary o a b) = let h = gates_few a in let k = gates_few b in let p = operator_few o in let w = written_few o in omega arith

-- four nodes for each of an expression
nodes_few : (e : Expr) → nodes_of e + 3 ≤ 4 * line_size e
nodes_few (Number n) = omega arith
nodes_few (Register r) = omega arith
nodes_few (Flag f) = omega arith
nodes_few Pc = omega arith
nodes_few Bound = omega arith
nodes_few (Memory n e) = let h = nodes_few e in omega arith
nodes_few (Old e) = let h = nodes_few e in omega arith
nodes_few (Not e) = let h = nodes_few e in omega arith
nodes_few (Binary o a b) = let h = nodes_few a in let k = nodes_few b in omega arith

-- with 32 more they are within the price
price_enough : (n p v g : ℕ) → p ≤ n → g ≡ 384 * (n + v) + 2688 * p → g + 32 ≤ 8192 * p + 512 * ((if n == 0 then 1 else n - p) + v) - 64
price_enough n p v g h e = elim (eqb_tells n 0) [ inl k ↦ rw k.0 (omega (arith, h, e, k.1)) | inr k ↦ rw k.0 (omega (arith, h, e, k.1)) ]

-- a line, from its value
pub line_made : (a b c d : List TermNode) (big : Bool) (e : Expr) (now entry : Now) (z l t : ℕ) → AreStateTerms a now → AreStateTerms a entry →
    IsInterned a b (ConstantNode 32 0) z →
    IsValue b c big e now entry l → IsStep c d 32 0 2 (λ w. w ≡ 1) (λ x. bit (is_true (term_word x c l))) t → IsLine a d big e now entry t
line_made a b c d big e now entry z l t h h' k v s =
    let first : IsStep a b 0 0 1 (λ w. w ≡ 32) (λ x. 0) z = step_kept a b _ _ (ConstantNode 32 0) z k refl refl refl refl (λ i. i) (λ w e. e) (λ x r. refl) in
    let enough = price_enough (operations e) (products e) (value_count e) (gates_of e) (products_few e) (gates_few e) in
    let few = nodes_few e in
    record {
      grew = grew_more a d (0 + gates_of e + 32) (0 + bytes_loaded e + 0) 0 0 (1 + nodes_of e + 2) (line_price e - 64) (bytes_loaded e) 0 0
          (4 * line_size e + 8)
          (omega arith) (omega arith) (omega arith) (omega arith) (omega arith)
          (grew_on a c d (0 + gates_of e) (0 + bytes_loaded e) 0 0 (1 + nodes_of e) 32 0 0 0 2
          (grew_on a b c 0 0 0 0 1 (gates_of e) (bytes_loaded e) 0 0 (nodes_of e) first.grew v.grew) s.grew);
      inputs = inputs_on a c d _ (inputs_on a b c _ first.inputs v.inputs) s.inputs;
      width = (s.within, s.fits);
      value = λ x ok m n at from g f.
          s.value x ok
          ∙ ap (λ w. bit (is_true w)) (v.value x ok m n at from (is_state_stays a b _ _ _ _ _ now x m at first.grew h g)
          (is_state_stays a b _ _ _ _ _ entry x n from first.grew h' f));
    }

-- a word, from its value
pub word_made : (a b c d : List TermNode) (big : Bool) (e : Expr) (now entry : Now) (z l t : ℕ) → AreStateTerms a now → AreStateTerms a entry →
    IsInterned a b (ConstantNode 32 0) z →
    IsValue b c big e now entry l → IsStep c d 0 0 1 (λ w. w ≡ 32) (λ x. term_word x c l) t → IsWord a d big e now entry t
word_made a b c d big e now entry z l t h h' k v s =
    let first : IsStep a b 0 0 1 (λ w. w ≡ 32) (λ x. 0) z = step_kept a b _ _ (ConstantNode 32 0) z k refl refl refl refl (λ i. i) (λ w e. e) (λ x r. refl) in
    let enough = price_enough (operations e) (products e) (value_count e) (gates_of e) (products_few e) (gates_few e) in
    let few = nodes_few e in
    record {
      grew = grew_more a d (0 + gates_of e + 0) (0 + bytes_loaded e + 0) 0 0 (1 + nodes_of e + 1) (line_price e - 64) (bytes_loaded e) 0 0
          (4 * line_size e + 8)
          (omega arith) (omega arith) (omega arith) (omega arith) (omega arith)
          (grew_on a c d (0 + gates_of e) (0 + bytes_loaded e) 0 0 (1 + nodes_of e) 0 0 0 0 1
          (grew_on a b c 0 0 0 0 1 (gates_of e) (bytes_loaded e) 0 0 (nodes_of e) first.grew v.grew) s.grew);
      inputs = inputs_on a c d _ (inputs_on a b c _ first.inputs v.inputs) s.inputs;
      width = (s.within, s.fits);
      value = λ x ok m n at from g f.
          s.value x ok
          ∙ v.value x ok m n at from (is_state_stays a b _ _ _ _ _ now x m at first.grew h g) (is_state_stays a b _ _ _ _ _ entry x n from first.grew h' f);
    }

-- a line costs 64 gates at least
pub line_enough : (e : Expr) → 64 ≤ line_price e
line_enough e = let enough = price_enough (operations e) (products e) (value_count e) (gates_of e) (products_few e) (gates_few e) in omega (arith, enough)
