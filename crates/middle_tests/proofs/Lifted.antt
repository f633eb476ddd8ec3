-- What the list of a row of RV32IM is fit for: to be run, and to become terms over the registers of a state.
use Rattle.std.proofs.Common.{◌≡◌, ℕ, zero, suc, ◌+◌, ◌<◌, ◌≤◌, Bool, true, false, Option, Some, None, length, refl, ap, subst, ◌∙◌, arith}
use Rattle.std.specs.Prelude.{◌&&◌, ◌||◌, nat_eq, nat_le, nat_lt}
use Rattle.std.specs.Global.{Vec}
use Rattle.std.specs.List.{list_any}
use Rattle.std.proofs.lemmas.Bool.Decides.{nat_tests}
use Rattle.machine_spec.specs.Bil.{XRegisters, Register, Flag, Mem, Local, Statements}
use Rattle.machine_spec.specs.BilCounts.{list_names_only, is_own, is_bank}
use Rattle.machine_spec.specs.Machine.{Row}
use Rattle.machine_spec.specs.MachineLaws.{IsLifting}
use Rattle.machine_spec.specs.RvMachine.{rv32}
use Rattle.word_spec.specs.RowFiles.{from_to}
use Rattle.walk_spec.specs.Unrolling.{is_variable_of}
use Rattle.bil_ast.specs.Views.{statements}
use Rattle.bil_ast.specs.declared.statements.Stmt.{Stmt}
use Rattle.bil_eval.specs.Views.{is_machine}
use Rattle.machine_law.specs.Facts.{IsLiftedWord}
use Rattle.bil_terms.specs.Left.{CanBeLed}
use Rattle.term_names.specs.declared.names.Names.{Names}
use Rattle.term_names.specs.Views.{form_of}
use Rattle.middle_tests.proofs.Wider.{Wider, all_wider, both}

-- a register of the machine is one of 32
below : (b : Bool) (r : ℕ) → (b && (nat_le 1 r && nat_le r 31)) ≡ true → nat_lt r 32 ≡ true
below b r h = let k = (both (nat_le 1 r) (nat_le r 31) (both b (nat_le 1 r && nat_le r 31) h).1).1 in grind (arith, nat_tests)

own_held : Wider (is_own (rv32 false) XRegisters) is_machine
own_held (Register b r) h = below (is_bank b XRegisters) r h
own_held (Flag f) h = absurd (cc)
own_held Mem h = refl
own_held (Local x n) h = absurd (cc)

-- a number is among those of a range
step : (c : Bool) (first count r : ℕ) → nat_eq r first ≡ c → first ≤ r → (suc first ≤ r → list_any (nat_eq r) (from_to (first + 1) count) ≡ true) →
    (c || list_any (nat_eq r) (from_to (first + 1) count)) ≡ true
step true first count r e low next = refl
step false first count r e low next = next (grind (arith, nat_tests))

among : (first count r : ℕ) → first ≤ r → r < first + count → list_any (nat_eq r) (from_to first count) ≡ true
among first zero r low high = absurd (omega arith)
among first (suc count) r low high =
    ap (λ z. z || list_any (nat_eq r) (from_to (first + 1) count)) refl
    ∙ step (nat_eq r first) first count r refl low (λ l. among (first + 1) count r (omega arith) (omega arith))

among_names : (b : Bool) (r first count : ℕ) → first ≡ 1 → count ≡ 31 → (b && (nat_le 1 r && nat_le r 31)) ≡ true →
    list_any (nat_eq r) (from_to first count) ≡ true
among_names b r first count one all h =
    let k = both (nat_le 1 r) (nat_le r 31) (both b (nat_le 1 r && nat_le r 31) h).1 in
    let low : 1 ≤ r = let e = k.0 in grind (arith, nat_tests) in
    let high : r ≤ 31 = let e = k.1 in grind (arith, nat_tests) in
    among first count r (omega arith) (omega arith)

own_named : (n : Names) → n.first ≡ 1 → length n.registers.items ≡ 31 → Wider (is_own (rv32 false) XRegisters) (is_variable_of (form_of n))
own_named n one all (Register b r) h = among_names (is_bank b XRegisters) r n.first (length n.registers.items) one all h
own_named n one all (Flag f) h = absurd (cc)
own_named n one all Mem h = refl
own_named n one all (Local x k) h = absurd (cc)

-- the list names only what an evaluation holds
pub list_held : (row : Row) (at : ℕ) (list : Statements) → IsLifting (rv32 false) XRegisters row at list → list_names_only list is_machine ≡ true
list_held row at list h = all_wider list (is_own (rv32 false) XRegisters) is_machine own_held h.names

-- it can become terms
pub list_led : (row : Row) (at : ℕ) (list : Statements) → IsLifting (rv32 false) XRegisters row at list → (n : Names) → n.first ≡ 1 → length n.registers.items ≡ 31 →
    CanBeLed (form_of n) list
list_led row at list h n one all = record {
  typed = h.typed;
  no_loop = h.no_loop;
  no_special = h.no_special;
  nests = h.nests;
  picks = h.picks;
  steady = h.steady;
  names = all_wider list (is_own (rv32 false) XRegisters) (is_variable_of (form_of n)) (own_named n one all) h.names;
}

-- the list of a word is that of a row
pub has_row : (o : Option Row) (r : Option (Vec Stmt)) (v : Vec Stmt) → IsLiftedWord (rv32 false) XRegisters o 65536 r → r ≡ Some v →
    (row : Row) × IsLifting (rv32 false) XRegisters row 65536 (statements v.items)
has_row (Some row) (Some w) v h e = let same : w ≡ v = cc in (row, subst (λ (z : Vec Stmt). IsLifting (rv32 false) XRegisters row 65536 (statements z.items)) same h)
has_row (Some row) None v h e = absurd h
has_row None (Some w) v h e = absurd h
has_row None None v h e = absurd (cc)
