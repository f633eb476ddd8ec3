-- What a list asks, and a list statement by statement.
use Rattle.std.proofs.Common.{◌≡◌, ℕ, zero, suc, ◌+◌, ◌<◌, ◌≤◌, Bool, true, List, [], ◌∷◌, ◌++◌, length, get_or, take, Vec, Global, refl, sym, ap, ◌∙◌, subst, arith, append-nil, add-one}
use Rattle.std.specs.Prelude.{◌&&◌}
use Rattle.std.proofs.Math.Seq.{take-suc}
use Rattle.std.proofs.lemmas.List.{take_all}
use Rattle.word_spec.specs.RowFiles.{from_to}
use Rattle.machine_spec.specs.Bil.{Bits as OfBits, BilVariable, Statements, Empty, Assign, JumpTo, Raise, Special, While, If}
use Rattle.machine_spec.specs.BilCounts.{has_no_loop}
use Rattle.bil_ast.proofs.Blocks.{statement_if}
use Rattle.bil_ast.specs.declared.names.Bank.{Bank}
use Rattle.bil_ast.specs.declared.names.Var.{Var}
use Rattle.bil_ast.specs.declared.names.Var.TheVariants as var
use Rattle.bil_ast.specs.declared.expressions.Exp.{Exp}
use Rattle.bil_ast.specs.declared.statements.Stmt.{Stmt}
use Rattle.bil_ast.specs.declared.statements.Stmt.TheVariants as stmt
use Rattle.bil_ast.specs.Views.{bank_of, expression, variable_of, statement, statements, block}
use Rattle.term_spec.specs.Terms.{TermNode}
use Rattle.walk_spec.specs.Unrolled.{UnrolledProgram}
use Rattle.walk_spec.specs.Unrolling.{is_variable_of}
use Rattle.term_dag.specs.Made.{Grew}
use Rattle.term_dag.proofs.Growth.{grew_none, grew_width, inputs_none}
use Rattle.term_names.specs.Views.{form_of}
use Rattle.term_names.specs.declared.names.Names.{Names}
use Rattle.term_names.specs.Choices.{places}
use Rattle.term_names.specs.Chosen.{HaveSameForm}
use Rattle.term_names.proofs.Choices.{differs_same}
use Rattle.bil_eval.specs.Checked.{IsChecked}
use Rattle.bil_eval.specs.Passes.{join}
use Rattle.bil_terms.specs.declared.run.Run.{Run}
use Rattle.bil_terms.specs.declared.run.Bits.{Bits}
use Rattle.bil_terms.specs.declared.stored.Stored.{Stored}
use Rattle.bil_terms.specs.Lowered.{IsSteady}
use Rattle.bil_terms.specs.Leading.{CanLead}
use Rattle.bil_terms.specs.Merged.{IsSide}
use Rattle.bil_terms.specs.Runs.{IsRun, AreBits, IsLed}
use Rattle.bil_terms.proofs.Rows.{differing_same}
use Rattle.bil_terms.proofs.Scopes.{contains_none, register_within, word_kept}
use Rattle.bil_terms.proofs.Joining.{led_on}

-- a statement before two lists
join_statement : (s : Stmt) (rest b : Statements) → join (statement s rest) b ≡ statement s (join rest b)
join_statement (stmt.Assign x e) rest b = refl
join_statement (stmt.Jump e) rest b = refl
join_statement (stmt.Raise n) rest b = refl
join_statement (stmt.Special t) rest b = refl
join_statement (stmt.While' e m body) rest b = refl
join_statement (stmt.If' e m x k y) rest b = refl

statements_join : (xs ys : List Stmt) → statements (xs ++ ys) ≡ join (statements xs) (statements ys)
statements_join [] ys = refl
statements_join (x ∷ xs) ys = ap (statement x) (statements_join xs ys) ∙ sym (join_statement x (statements xs) (statements ys))

-- the statements up to a place, and the one there
up_to : (xs : List Stmt) (i : ℕ) (s : Stmt) → i < length xs → s ≡ get_or xs i s →
    join (statements (take i xs)) (statement s Empty) ≡ statements (take (i + 1) xs)
up_to xs i s h e =
    sym (statements_join (take i xs) (s ∷ []))
    ∙ ap statements (ap (λ (z : Stmt). take i xs ++ (z ∷ [])) e ∙ sym (take-suc xs i s h) ∙ ap (λ z. take z xs) (sym (add-one i)))

-- of a list the first statement can be led, and the rest
first_leads : (s : Stmt) (rest : Statements) (known : BilVariable → Bool) → CanLead (statement s rest) known → CanLead (statement s Empty) known ×
    CanLead rest known
first_leads (stmt.Assign x e) rest known r = ((r.0, r.1, r.2, tt), r.3)
first_leads (stmt.Jump e) rest known r = ((r.0, r.1, tt), r.2)
first_leads (stmt.Raise n) rest known r = (tt, r)
first_leads (stmt.Special t) rest known r = absurd r
first_leads (stmt.While' e m body) rest known r = absurd r
first_leads (stmt.If' e m a k b) rest known r = ((r.0, r.1, r.2, r.3, tt), r.4)

-- each statement of such a list can
one_leads : (xs : List Stmt) (i : ℕ) (s : Stmt) (known : BilVariable → Bool) → CanLead (statements xs) known → i < length xs → s ≡ get_or xs i s →
    CanLead (statement s Empty) known
one_leads [] i s known r h e = absurd (omega arith)
one_leads (x ∷ xs) zero s known r h e = subst (λ (z : Stmt). CanLead (statement z Empty) known) (sym e) (first_leads x (statements xs) known r).0
one_leads (x ∷ xs) (suc i) s known r h e = one_leads xs i s known (first_leads x (statements xs) known r).1 (omega arith) e

-- and none is a loop
pub no_loop : (list : Statements) (known : BilVariable → Bool) → CanLead list known → has_no_loop list ≡ true
no_loop Empty known r = refl
no_loop (Assign x e rest) known r = no_loop rest known r.3
no_loop (JumpTo e rest) known r = no_loop rest known r.2
no_loop (Raise n rest) known r = no_loop rest known r
no_loop (Special t rest) known r = absurd r
no_loop (While e body rest) known r = absurd r
no_loop (If e a b rest) known r =
    ap (λ z. z && has_no_loop b && has_no_loop rest) (no_loop a known r.2) ∙ ap (λ z. z && has_no_loop rest) (no_loop b known r.3) ∙ no_loop rest known r.4

no_loop_first : (s : Stmt) (rest : Statements) (known : BilVariable → Bool) → CanLead (statement s Empty) known → has_no_loop rest ≡ true →
    has_no_loop (statement s rest) ≡ true
no_loop_first (stmt.Assign x e) rest known r h = h
no_loop_first (stmt.Jump e) rest known r h = h
no_loop_first (stmt.Raise n) rest known r h = h
no_loop_first (stmt.Special t) rest known r h = absurd r
no_loop_first (stmt.While' e m body) rest known r h = absurd r
no_loop_first (stmt.If' e m a k b) rest known r h =
    ap (λ z. z && has_no_loop (block b) && has_no_loop rest) (no_loop (block a) known r.2) ∙ ap (λ z. z && has_no_loop rest) (no_loop (block b) known r.3) ∙ h

no_loop_up_to : (xs : List Stmt) (i : ℕ) (known : BilVariable → Bool) → CanLead (statements xs) known → has_no_loop (statements (take i xs)) ≡ true
no_loop_up_to xs zero known r = refl
no_loop_up_to [] (suc i) known r = refl
no_loop_up_to (x ∷ xs) (suc i) known r =
    let f = first_leads x (statements xs) known r in
    no_loop_first x (statements (take i xs)) known f.0 (no_loop_up_to xs i known f.1)

-- the form is all that matters of names
form_same : (a b : Names) → HaveSameForm a b → form_of a ≡ form_of b
form_same a b h =
    let f : ℕ → ℕ → ℕ → UnrolledProgram = λ first words bits. record (form_of a) { registers = from_to first words; flags = bits } in
    ap (λ z. f z (length a.registers.items) (length a.flags.items)) h.first
    ∙ ap (λ z. f b.first z (length a.flags.items)) h.registers ∙ ap (λ z. f b.first (length b.registers.items) z) h.flags

pub leads_same : (list : Statements) (a b : Names) → HaveSameForm a b → CanLead list (is_variable_of (form_of a)) → CanLead list (is_variable_of (form_of b))
leads_same list a b h r = subst (λ (z : UnrolledProgram). CanLead list (is_variable_of z)) (form_same a b h) r

-- the words of 1 bit stay what they are as nodes are added
pub bits_kept : (old new : List TermNode) (g l s j n : ℕ) (b : Bits) → Grew old new g l s j n → AreBits old b → AreBits new b
bits_kept old new g l s j n b p h = record {
  zero_bit = grew_width old new g l s j n 1 b.zero.0 p h.zero_bit;
  one_bit = grew_width old new g l s j n 1 b.one.0 p h.one_bit;
  zero = λ x. word_kept old new g l s j n b.zero.0 x p h.zero_bit.0 ∙ h.zero x;
  one = λ x. word_kept old new g l s j n b.one.0 x p h.one_bit.0 ∙ h.one x;
}

-- an empty list leads nowhere
pub led_none : (d : List TermNode) (place : ℕ) (r : Run) (s : List Stored) → IsRun d r → IsLed d d place r r s s Empty
led_none d place r s run =
    let registers = differing_same (places r.names.registers.items) in
    let flags = differing_same (places r.names.flags.items) in
    let memory = differs_same r.names.memory.0 r.names.memory.0 refl in
    let target = differs_same r.target.0 r.target.0 refl in
    let live = differs_same r.live.0 r.live.0 refl in record {
      grew = grew_none d;
      inputs = inputs_none d _;
      run = run;
      form = record { first = refl; registers = refl; flags = refl };
      bits = omega arith;
      terms = omega arith;
      memory = omega arith;
      more = [];
      behind = sym (append-nil s);
      stores = λ t c. absurd (contains_none t c);
      bytes = omega arith;
      comes = λ x i p h. h;
      passes = λ x i h. h;
      stored = λ x i p h a. (λ c. absurd (contains_none a c), λ c. absurd (contains_none c.0 c.1));
      silent = λ x i h t c. absurd (contains_none t c);
    }

-- what a turn of the loop over a list needs and does
pub turn_leads : (xs : List Stmt) (i : ℕ) (s : Stmt) (a b : Names) → CanLead (statements xs) (is_variable_of (form_of a)) → i < length xs → s ≡ get_or xs i s →
    HaveSameForm a b →
    CanLead (statement s Empty) (is_variable_of (form_of b))
turn_leads xs i s a b r h e k = leads_same (statement s Empty) a b k (one_leads xs i s (is_variable_of (form_of a)) r h e)

pub turn_led : (d0 d1 d2 : List TermNode) (place : ℕ) (r0 r1 r2 : Run) (s0 s1 s2 : List Stored) (xs : List Stmt) (i : ℕ) (s : Stmt) →
    CanLead (statements xs) (is_variable_of (form_of r0.names)) →
    i < length xs → s ≡ get_or xs i s → IsLed d0 d1 place r0 r1 s0 s1 (statements (take i xs)) → IsLed d1 d2 place r1 r2 s1 s2 (statement s Empty) →
    IsLed d0 d2 place r0 r2 s0 s2 (statements (take (i + 1) xs))
turn_led d0 d1 d2 place r0 r1 r2 s0 s1 s2 xs i s r h e p q =
    subst (λ (z : Statements). IsLed d0 d2 place r0 r2 s0 s2 z) (up_to xs i s h e)
    (led_on d0 d1 d2 place r0 r1 r2 s0 s1 s2 (statements (take i xs)) (statement s Empty) (no_loop_up_to xs i (is_variable_of (form_of r0.names)) r) p q)

-- behind its last statement all of the list is done
pub all_led : (d0 d1 : List TermNode) (place : ℕ) (r0 r1 : Run) (s0 s1 : List Stored) (xs : List Stmt) (i : ℕ) → length xs ≤ i →
    IsLed d0 d1 place r0 r1 s0 s1 (statements (take i xs)) →
    IsLed d0 d1 place r0 r1 s0 s1 (statements xs)
all_led d0 d1 place r0 r1 s0 s1 xs i h p = subst (λ (z : List Stmt). IsLed d0 d1 place r0 r1 s0 s1 (statements z)) (take_all i xs h) p

-- the parts of an if that can be led
pub if_parts : (s : Stmt) (e : Exp) (a b : Vec Stmt Global) (known : BilVariable → Bool) → s ≡ stmt.If e a b → CanLead (statement s Empty) known →
    IsChecked (expression e) (OfBits 1) known × IsSteady (expression e) × CanLead (statements a.items) known × CanLead (statements b.items) known
if_parts s e a b known p r =
    let f : statement s Empty ≡ If (expression e) (statements a.items) (statements b.items) Empty = ap
    (λ (z : Stmt). statement z Empty) p ∙ statement_if e a b Empty in
    let g = subst (λ (z : Statements). CanLead z known) f r in
    (g.0, g.1, g.2, g.3)

-- a side's list, from its beginning
pub side_leads : (xs ys : List Stmt) (r a : Run) (l : ℕ) → xs ≡ ys → IsSide r l a → CanLead (statements ys) (is_variable_of (form_of r.names)) →
    CanLead (statements xs) (is_variable_of (form_of a.names))
side_leads xs ys r a l e s h =
    leads_same (statements xs) r.names a.names (record { first = s.names.first; registers = ap length s.names.registers; flags = ap length s.names.flags })
    (subst (λ (z : List Stmt). CanLead (statements z) (is_variable_of (form_of r.names))) (sym e) h)

-- a known register is among those of the names
pub named_register : (n : Names) (x : Var) (b : Bank) (r : ℕ) → x ≡ var.Register b r → is_variable_of (form_of n) (variable_of x) ≡ true →
    (n.first ≤ r) × (r < n.first + length n.registers.items)
named_register n x b r e h = register_within n [] (bank_of b) r (subst (λ (z : Var). is_variable_of (form_of n) (variable_of z) ≡ true) e h)

-- an exception, as a statement
pub raise_led : (d : List TermNode) (place : ℕ) (r0 r1 : Run) (s0 s1 : List Stored) (s : Stmt) (n : ℕ) → s ≡ stmt.Raise n → s1 ≡ s0 →
    ((number : ℕ) → IsLed d d place r0 r1 s1 s1 (Raise number Empty)) → IsLed d d place r0 r1 s0 s0 (statement s Empty)
raise_led d place r0 r1 s0 s1 s n e f h =
    subst (λ (z : Stmt). IsLed d d place r0 r1 s0 s0 (statement z Empty)) (sym e) (subst
    (λ (z : List Stored). IsLed d d place r0 r1 z z (Raise n Empty)) f (h n))
