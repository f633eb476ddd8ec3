-- The liftings of rows by shape: an assignment to a register, a branch, a jump with a link, a store, nothing, and an exception.
use Rattle.std.proofs.Common.{◌≡◌, ◌↔◌, ℕ, zero, suc, ◌+◌, ◌/◌, ◌^◌, ◌<◌, ◌≤◌, ◌==◌, Bool, true, false, refl, sym, subst, ap, ◌∙◌, arith, List, [], ◌++◌, append-nil, Option, Some, None}
use Rattle.std.specs.Prelude.{Contains}
use Rattle.word_spec.specs.Words.{add, bit}
use Rattle.word_spec.specs.Memory.{Little, store, span}
use Rattle.word_spec.specs.State.{State, with_pc}
use Rattle.machine_spec.specs.Machine.{Cost, Offset, Successors, How, Goes}
use Rattle.machine_spec.specs.Rv.{row_of, plain_cost, with_reg, on, branch_by}
use Rattle.machine_spec.specs.RvMachine.{rv32}
use Rattle.machine_spec.specs.Bil.{XRegisters, Mem, Expression, Var, Store, Empty, Assign, JumpTo, If}
use Rattle.machine_spec.specs.BilMeaning.{Word, Bytes, Position, Ends, then_do, branch_on, execute, evaluate}
use Rattle.machine_spec.specs.BilTyping.{is_load_width, list_fault}
use Rattle.machine_spec.specs.BilCounts.{list_weight}
use Rattle.machine_spec.specs.BilStores.{list_stored, chosen, then_stored}
use Rattle.machine_spec.specs.Simulation.{Locals, env_of, position, of_list, of_row, jump_of}
use Rattle.machine_spec.specs.MachineLaws.{IsLifting}
use Rattle.rv_lift.specs.Lifted as lifts
use Rattle.rv_lift.proofs.Plain.{IsPlain, IsPriced, own_register, number_plain, weight_of, formula_plain}
use Rattle.rv_decode.specs.declared.operations.Operation.{Operation}
use Rattle.word_formula.specs.Formulas.{value, expression_of}
use Rattle.word_formula.proofs.Values.{evaluates}

-- an expression's value in a state at an address
abbrev pub HasValue : ℕ → Expression → (State → ℕ) → ℕ → Type 0
HasValue n e f at = (s : State) → s.pc ≡ at → (c : ℕ) (l : Locals) → evaluate e c (env_of l s) ≡ Word n (f s)

-- the same addresses
pub same : (xs ys : List ℕ) (a : ℕ) → xs ≡ ys → Contains xs a ↔ Contains ys a
same xs ys a e = (subst (λ (z : List ℕ). Contains z a) e, subst (λ (z : List ℕ). Contains z a) (sym e))

-- rd takes a word
pub assigned_lifting : (rvc : Bool) (d w l : ℕ) (e : Expression) (f : State → ℕ) (k : Cost) (p : Option Offset) (g : State → Option (ℕ × ℕ)) (at : ℕ) →
    d < 32 → IsPlain 32 w l e → HasValue 32 e f at → w + 128 ≤ k.row → l ≤ k.loads →
    IsLifting (rv32 rvc) XRegisters (record (row_of (λ s. on s (with_reg s d (f s)))) { cost = k; adds_pc = p; loaded = g }) at (lifts.assigned d e)
assigned_lifting rvc zero w l e f k p g at small plain value h i = record {
  simulates = λ s is here c turns few locals. refl;
  stored = λ s is here c turns few locals a. same [] [] a refl;
  typed = refl;
  no_loop = refl;
  no_special = refl;
  nests = omega arith;
  names = refl;
  assigns = λ f few t. cc;
  surely = λ f few t. cc;
  reads = λ f few. refl;
  reads_first = λ f few. refl;
  draws = λ t. refl;
  picks = refl;
  steady = refl;
  literal = λ a t. cc;
  weight = omega arith;
  loads = omega arith;
  stores = omega arith;
}
assigned_lifting rvc (suc d) w l e f k p g at small plain value h i = record {
  simulates = λ s is here c turns few locals. rw (value s here c locals) refl;
  stored = λ s is here c turns few locals a. same _ [] a (rw (plain.stored c (env_of locals s), value s here c locals) refl);
  typed = rw (plain.typed 1) refl;
  no_loop = refl;
  no_special = refl;
  nests = omega arith;
  names = rw (own_register d small, plain.names) refl;
  assigns = λ f few t. cc;
  surely = λ f few t. cc;
  reads = λ f few. rw (plain.flags f) refl;
  reads_first = λ f few. refl;
  draws = λ t. omega arith;
  picks = let h = plain.picks in omega arith;
  steady = let h = plain.steady in omega arith;
  literal = λ a t. cc;
  weight = omega arith;
  loads = omega arith;
  stores = omega arith;
}

-- rd takes what an operation makes of two words
pub computed_lifting : (rvc : Bool) (d : ℕ) (line : Operation) (a b : Expression) (f g : State → ℕ) (at : ℕ) → d < 32 → IsPriced line → IsPlain 32 0 0 a →
    IsPlain 32 0 0 b → HasValue 32 a f at → HasValue 32 b g at →
    IsLifting (rv32 rvc) XRegisters (record (row_of (λ s. on s (with_reg s d (value line.formula (f s) (g s))))) {
      cost = record { row = line.price; loads = 0; stores = 0 };
    }) at (lifts.assigned d (expression_of line.formula a b))
computed_lifting rvc d line a b f g at small priced p q v w =
    assigned_lifting rvc d (weight_of line.formula) 0 (expression_of line.formula a b) (λ s. value line.formula (f s) (g s))
    (record { row = line.price; loads = 0; stores = 0 }) None (λ s. None) at small
    (subst (λ n. IsPlain n (weight_of line.formula) 0 (expression_of line.formula a b)) priced.width (formula_plain line.formula a b p q))
    (λ s here c l. evaluates line.formula a b c (env_of l s) (f s) (g s) (v s here c l) (w s here c l)
    ∙ ap (λ n. Word n (value line.formula (f s) (g s))) priced.width)
    priced.room (omega arith)

branch_ends : (b : Bool) (to c turns : ℕ) (l : Locals) (s : State) →
    of_list (then_do (branch_on (Word 1 (bit b)) (execute (JumpTo (lifts.number (add 32 s.pc to)) Empty) c (position l turns None s))
    (execute Empty c (position l turns None s))) (execute Empty c))
    ≡ of_row l turns (branch_by b s to)
branch_ends true to c turns l s = refl
branch_ends false to c turns l s = refl

branch_stores : (b : Bool) (to c : ℕ) (s : Position) →
    chosen (Word 1 (bit b)) (list_stored (JumpTo (lifts.number to) Empty) c s) []
    ++ then_stored (branch_on (Word 1 (bit b)) (execute (JumpTo (lifts.number to) Empty) c s) (execute Empty c s)) (list_stored Empty c) ≡ []
branch_stores true to c s = refl
branch_stores false to c s = refl

-- a jump where a test holds
pub branch_lifting : (rvc : Bool) (e : Expression) (f : State → Bool) (w to : ℕ) (next : ℕ → Successors) (at : ℕ) → IsPlain 1 w 0 e →
    HasValue 1 e (λ s. bit (f s)) at → w ≤ 892 →
    IsLifting (rv32 rvc) XRegisters (record (row_of (λ s. branch_by (f s) s to)) { successors = next }) at
    (If e (JumpTo (lifts.number (add 32 at to)) Empty) Empty Empty)
branch_lifting rvc e f w to next at plain value h = record {
  simulates = λ s is here c turns few locals. rw (value s here c locals, ← here) (branch_ends (f s) to c turns locals s);
  stored = λ s is here c turns few locals a. same _ [] a (rw (plain.stored c (env_of locals s), value s here c locals)
      (branch_stores (f s) (add 32 at to) c (position locals turns None s)));
  typed = let k = (number_plain (add 32 at to) (omega arith)).typed in rw (plain.typed 1, k _) refl;
  no_loop = refl;
  no_special = refl;
  nests = omega arith;
  names = rw plain.names refl;
  assigns = λ g few t. cc;
  surely = λ g few t. cc;
  reads = λ g few. rw (plain.flags g) refl;
  reads_first = λ g few. refl;
  draws = λ t. omega arith;
  picks = let h = plain.picks in omega arith;
  steady = let h = plain.steady in omega arith;
  literal = λ a t. cc;
  weight = omega arith;
  loads = omega arith;
  stores = omega arith;
}

linked_ends : (d n to c turns : ℕ) (l : Locals) (s : State) →
    execute (lifts.assigned d (lifts.number (add 32 s.pc n))) c (position l turns (Some to) s)
    ≡ Ends (position l turns (Some to) (with_pc (with_reg s d (add 32 s.pc n)) to))
linked_ends zero n to c turns l s = refl
linked_ends (suc d) n to c turns l s = refl

link_stores : (d v c : ℕ) (s : Position) → list_stored (lifts.assigned d (lifts.number v)) c s ≡ []
link_stores zero v c s = refl
link_stores (suc d) v c s = refl

link_typed : (d v at : ℕ) → v < 2 ^ 32 → list_fault at (lifts.assigned d (lifts.number v)) ≡ None
link_typed zero v at h = refl
link_typed (suc d) v at h = rw ((number_plain v h).typed _) refl

link_weight : (d v : ℕ) → list_weight (lifts.assigned d (lifts.number v)) ≤ 64
link_weight zero v = omega arith
link_weight (suc d) v = omega arith

link_lifting : (rvc : Bool) (d v at : ℕ) → d < 32 → v < 2 ^ 32 →
    IsLifting (rv32 rvc) XRegisters (row_of (λ s. on s (with_reg s d v))) at (lifts.assigned d (lifts.number v))
link_lifting rvc d v at h k = assigned_lifting rvc d 0 0 (lifts.number v) (λ s. v) plain_cost None (λ s. None) at h (number_plain v k)
    (λ s here c l. refl) (omega arith) (omega arith)

-- a jump of a row of m bytes, and rd takes the address n bytes on
pub jump_lifting : (rvc : Bool) (m n : ℕ) (e : Expression) (f : State → ℕ) (d w : ℕ) (how : How) (next : ℕ → Successors) (p : Option Offset) (b : Bool)
    (at : ℕ) → d < 32 → IsPlain 32 w 0 e → HasValue 32 e f at → w ≤ 832 → ((s : State) → jump_of how s ≡ Some s.pc) →
    IsLifting (rv32 rvc) XRegisters (record (row_of (λ s. Goes how (with_pc (with_reg s d (add 32 s.pc n)) (f s)))) {
      length = m;
      successors = next;
      jumps_to = p;
      links = b;
    }) at (JumpTo e (lifts.assigned d (lifts.number (add 32 at n))))
jump_lifting rvc m n e f d w how next p b at small plain value h jumps =
    let rest = link_lifting rvc d (add 32 at n) at small (omega arith) in
    record {
      simulates = λ s is here c turns few locals. rw (value s here c locals, jumps _, ← here) (ap of_list (linked_ends d n (f s) c turns locals s));
      stored = λ s is here c turns few locals a. same _ [] a (rw (plain.stored c (env_of locals s), value s here c locals) (link_stores d _ c _));
      typed = rw (plain.typed 1) (link_typed d (add 32 at n) _ (omega arith));
      no_loop = rest.no_loop;
      no_special = rest.no_special;
      nests = rest.nests;
      names = rw plain.names rest.names;
      assigns = rest.assigns;
      surely = rest.surely;
      reads = λ g few. rw (plain.flags g) (rest.reads g few);
      reads_first = rest.reads_first;
      draws = λ t. let r = rest.draws t in omega arith;
      picks = let h = plain.picks in let r = rest.picks in omega arith;
      steady = let h = plain.steady in let r = rest.steady in omega arith;
      literal = λ a t. cc;
      weight = let r = link_weight d (add 32 at n) in omega arith;
      loads = let r = rest.loads in omega arith;
      stores = let r = rest.stores in omega arith;
    }

-- a store of the low n / 8 bytes of a word
pub store_lifting : (rvc : Bool) (n w v : ℕ) (t u : Expression) (f g : State → ℕ) (at : ℕ) → IsPlain 32 w 0 t → IsPlain n v 0 u → HasValue 32 t f at →
    ((s : State) → s.pc ≡ at → (c : ℕ) (l : Locals) → evaluate (Store (Var Mem) t Little n u) c (env_of l s) ≡ Bytes (store Little (n / 8) s.mem (f s) (g s))) →
    w + v ≤ 960 → (n == n) ≡ true → is_load_width n ≡ true →
    IsLifting (rv32 rvc) XRegisters (record (row_of (λ s. on s (record s { mem = store Little (n / 8) s.mem (f s) (g s) }))) {
      stored =
          λ s. Some (f s, n / 8);
      cost = record { row = 1024; loads = 0; stores = n / 8 };
    }) at
    (Assign Mem (Store (Var Mem) t Little n u) Empty)
store_lifting rvc n w v t u f g at p q value result h same_width wide = record {
  simulates = λ s is here c turns few locals. rw (result s here c locals) refl;
  stored = λ s is here c turns few locals a. same _ (span (f s) (n / 8)) a
      (rw (p.stored c (env_of locals s), q.stored c (env_of locals s), result s here c locals, value s here c locals) (append-nil _));
  typed = rw (p.typed _, q.typed _, same_width, wide) refl;
  no_loop = refl;
  no_special = refl;
  nests = omega arith;
  names = rw (p.names, q.names) refl;
  assigns = λ k few x. cc;
  surely = λ k few x. cc;
  reads = λ k few. rw (p.flags k, q.flags k) refl;
  reads_first = λ k few. refl;
  draws = λ x. omega arith;
  picks = let h = p.picks in let i = q.picks in omega arith;
  steady = let h = p.steady in let i = q.steady in omega arith;
  literal = λ a x. cc;
  weight = omega arith;
  loads = omega arith;
  stores = omega arith;
}
