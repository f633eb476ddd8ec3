-- What making terms of an expression costs, and the stores that were gathered on the way.
use Rattle.std.specs.Prelude.{ℕ, ◌≡◌, ◌≤◌, ◌+◌, ◌↔◌, List, ◌++◌, sum_by, Contains}
use Rattle.word_spec.specs.Memory.{span}
use Rattle.machine_spec.specs.Bil.{Expression, Var, Unary, Let, total}
use Rattle.machine_spec.specs.BilCounts.{weight, own_loads, own_stores, own_unknowns}
use Rattle.machine_spec.specs.BilMeaning.{Env}
use Rattle.term_spec.specs.Terms.{TermReading, InRange, TermNode, ChoiceNode, HasWidth, term_word}
use Rattle.term_dag.specs.Made.{Grew, InputsFrom}
use Rattle.term_names.specs.declared.names.Names.{Names}
use Rattle.bil_terms.specs.declared.stored.Stored.{Stored}
use Rattle.bil_terms.specs.declared.variables.LocalTerm.{LocalTerm}
use Rattle.bil_terms.specs.Naming.{Holds}

-- gates, byte loads, byte stores and nodes that are added at most, and how many unknowns are read
pub record Cost : Type 0 where
  pub gates : ℕ
  pub loads : ℕ
  pub stores : ℕ
  pub nodes : ℕ
  pub unknowns : ℕ

-- nothing
abbrev pub no_cost : Cost
no_cost = record { gates = 0; loads = 0; stores = 0; nodes = 0; unknowns = 0 }

-- one after the other
abbrev pub both_cost : Cost → Cost → Cost
both_cost a b = record {
  gates = a.gates + b.gates;
  loads = a.loads + b.loads;
  stores = a.stores + b.stores;
  nodes = a.nodes + b.nodes;
  unknowns = a.unknowns + b.unknowns;
}

-- the nodes that a node of an expression adds at most
abbrev pub own_nodes : Expression → ℕ
own_nodes (Var x) = 0
own_nodes (Let x n a b) = 0
own_nodes (Unary o a) = 3
own_nodes e = 2

-- what an expression may cost
abbrev pub expression_cost : Expression → Cost
expression_cost e = record {
  gates = weight e;
  loads = total own_loads e;
  stores = total own_stores e;
  nodes = total own_nodes e;
  unknowns = total own_unknowns e;
}

-- what is stored is of 1 to 8 bytes, under a bit, from a word on
pub record IsStore (nodes : List TermNode) (s : Stored) : Type 0 where
  pub guard : HasWidth nodes 1 s.guard.0
  pub address : HasWidth nodes 32 s.address.0
  pub some : 1 ≤ s.bytes
  pub few : s.bytes ≤ 8

-- the byte at an address is among those stored, whatever the guards
abbrev pub IsAmong : List TermNode → TermReading → List Stored → ℕ → Type 0
IsAmong nodes x stored a = (s : Stored) × Contains stored s × Contains (span (term_word x nodes s.address.0) s.bytes) a

-- Nodes have come within a cost, whose inputs are the choice of a place, and stores under one guard, by which exactly those bytes are stored that are so in
-- each environment that the terms before denote.
pub record Gathered
    (old new : List TermNode) (n : Names) (ls : List LocalTerm) (place live : ℕ) (before after : List Stored) (cost : Cost) (st : ℕ → Env →
    List ℕ) : Type 0 where
  pub grew : Grew old new cost.gates cost.loads cost.stores 0 cost.nodes
  pub inputs : InputsFrom old new (λ m. (m ≡ ChoiceNode place) × (1 ≤ cost.unknowns))
  pub more : List Stored
  pub behind : after ≡ before ++ more
  pub stores : (s : Stored) → Contains more s → IsStore new s × (s.guard.0 ≡ live)
  pub bytes : sum_by (λ s. s.bytes) more ≤ cost.stores
  pub stored : (x : TermReading) → InRange x → (v : Env) → Holds old x n ls v → (a : ℕ) → Contains (st (x.choice place) v) a ↔ IsAmong new x more a
