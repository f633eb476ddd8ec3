-- Where a run of a list comes by.
use Rattle.std.specs.Prelude.{ℕ, suc, ◌≡◌}
use Rattle.machine_spec.specs.Bil.{Expression, Statements, Empty, Assign, JumpTo, Raise, Special, While, If}
use Rattle.machine_spec.specs.BilMeaning.{Env, Word, Position, Ends, evaluate, execute}

-- one list behind another
abbrev pub join : Statements → Statements → Statements
join Empty list = list
join (Assign x e rest) list = Assign x e (join rest list)
join (JumpTo e rest) list = JumpTo e (join rest list)
join (Raise n rest) list = Raise n (join rest list)
join (Special t rest) list = Special t (join rest list)
join (While e body rest) list = While e body (join rest list)
join (If e a b rest) list = If e a b (join rest list)

-- The run of a list from a position comes by an environment: it stands there before a statement of the list or of its blocks, or at the end, when just the
-- finished assignments have been made.
pub data Passes (choice : ℕ) (e : Env) : Statements → Position → Type 0 where
  AtStart : {list : Statements} {p : Position} → e ≡ p.env → Passes choice e list p
  InFront : (front rest : Statements) {list : Statements} {p : Position} → list ≡ join front rest → Passes choice e front p → Passes choice e list p
  Behind : (front rest : Statements) {list : Statements} {p q : Position} → list ≡ join front rest → execute front choice p ≡ Ends q →
      Passes choice e rest q → Passes choice e list p
  InThen : {test : Expression} {a b : Statements} {p : Position} → evaluate test choice p.env ≡ Word 1 1 → Passes choice e a p →
      Passes choice e (If test a b Empty) p
  InElse : {test : Expression} {a b : Statements} {p : Position} → evaluate test choice p.env ≡ Word 1 0 → Passes choice e b p →
      Passes choice e (If test a b Empty) p
  InTurn : {test : Expression} {body : Statements} {p : Position} {turns : ℕ} → evaluate test choice p.env ≡ Word 1 1 → p.turns ≡ suc turns →
      Passes choice e body (record p { turns = turns }) → Passes choice e (While test body Empty) p
  NextTurn : {test : Expression} {body : Statements} {p q : Position} {turns : ℕ} → evaluate test choice p.env ≡ Word 1 1 → p.turns ≡ suc turns →
      execute body choice (record p { turns = turns }) ≡ Ends q → Passes choice e (While test body Empty) q → Passes choice e (While test body Empty) p
