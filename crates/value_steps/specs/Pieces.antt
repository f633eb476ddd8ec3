-- Pieces of what is told of an expression.
use Rattle.std.specs.Prelude.{ℕ, Bool, true, false, List, [], codes, map}
use Rattle.word_spec.specs.Memory.{Endian}
use Rattle.word_spec.specs.State.{State}
use Rattle.bilv_spec.specs.Notes.{Expr, each, put_bound}
use Rattle.trace_texts_spec.specs.ValueLines.{shown}

-- the round brackets around a text that does not stand bare
abbrev pub opening : Bool → List ℕ
opening true = []
opening false = codes "("

abbrev pub closing : Bool → List ℕ
closing true = []
closing false = codes ")"

-- what is shown of the instances of an expression for some numbers
abbrev pub tried : Endian → (now entry : State) → Expr → List ℕ → Expr
tried order now entry e vs = shown order now entry (each (map (λ v. put_bound v e) vs))
