-- What a list costs as terms is within its weight, its stores and its size.
use Rattle.std.proofs.Common.{◌+◌, ◌*◌, ◌≤◌, arith}
use Rattle.machine_spec.specs.Bil.{Expression, Var, Constant, Load, Store, Binary, Unary, Cast, Let, Unknown, Choose, Extract, Concat, Statements, Empty, Assign, JumpTo, Raise, Special, While, If, total, size, list_size}
use Rattle.machine_spec.specs.BilCounts.{list_weight, byte_stores, nesting}
use Rattle.bil_terms.specs.Gathered.{own_nodes}
use Rattle.bil_terms.specs.Costs.{changed_bits, changes, list_gates, list_nodes, list_joins}

-- an expression leaves two of its nodes unused
two_left : (e : Expression) → total own_nodes e + 2 ≤ 4 * size e
two_left (Var x) = omega arith
two_left (Constant n v) = omega arith
two_left (Load m a o n) = omega (arith, two_left m, two_left a)
two_left (Store m a o n v) = omega (arith, two_left m, two_left a, two_left v)
two_left (Binary o a b) = omega (arith, two_left a, two_left b)
two_left (Unary o a) = omega (arith, two_left a)
two_left (Cast k n a) = omega (arith, two_left a)
two_left (Let x n a b) = omega (arith, two_left a, two_left b)
two_left (Unknown t) = omega arith
two_left (Choose c a b) = omega (arith, two_left c, two_left a, two_left b)
two_left (Extract hi lo a) = omega (arith, two_left a)
two_left (Concat a b) = omega (arith, two_left a, two_left b)

-- a list without ifs leaves of its weight what two selections cost
flat_gates : (list : Statements) → nesting list ≤ 0 → list_gates list + 2 * changed_bits list ≤ list_weight list
flat_gates Empty h = omega arith
flat_gates (Assign x e rest) h = omega (arith, flat_gates rest h)
flat_gates (JumpTo e rest) h = omega (arith, flat_gates rest h)
flat_gates (Raise n rest) h = omega (arith, flat_gates rest h)
flat_gates (Special t rest) h = flat_gates rest h
flat_gates (While e body rest) h = omega (arith, flat_gates body (omega (arith, h)), flat_gates rest (omega (arith, h)))
flat_gates (If e a b rest) h = absurd (omega (arith, h))

-- one with ifs that have none in them leaves what one costs
once_gates : (list : Statements) → nesting list ≤ 1 → list_gates list + changed_bits list ≤ list_weight list
once_gates Empty h = omega arith
once_gates (Assign x e rest) h = omega (arith, once_gates rest h)
once_gates (JumpTo e rest) h = omega (arith, once_gates rest h)
once_gates (Raise n rest) h = omega (arith, once_gates rest h)
once_gates (Special t rest) h = once_gates rest h
once_gates (While e body rest) h = omega (arith, once_gates body (omega (arith, h)), once_gates rest (omega (arith, h)))
once_gates (If e a b rest) h =
    omega (arith, flat_gates a (omega (arith, h)), flat_gates b (omega (arith, h)), once_gates rest (omega (arith, h)))

-- the gates of a list are within its weight where its ifs are at most two deep
pub gates_within : (list : Statements) → nesting list ≤ 2 → list_gates list ≤ list_weight list
gates_within Empty h = omega arith
gates_within (Assign x e rest) h = omega (arith, gates_within rest h)
gates_within (JumpTo e rest) h = omega (arith, gates_within rest h)
gates_within (Raise n rest) h = omega (arith, gates_within rest h)
gates_within (Special t rest) h = gates_within rest h
gates_within (While e body rest) h = omega (arith, gates_within body (omega (arith, h)), gates_within rest (omega (arith, h)))
gates_within (If e a b rest) h =
    omega (arith, once_gates a (omega (arith, h)), once_gates b (omega (arith, h)), gates_within rest (omega (arith, h)))

flat_nodes : (list : Statements) → nesting list ≤ 0 → list_nodes list + 4 * changes list ≤ 4 * list_size list
flat_nodes Empty h = omega arith
flat_nodes (Assign x e rest) h = omega (arith, two_left e, flat_nodes rest h)
flat_nodes (JumpTo e rest) h = omega (arith, two_left e, flat_nodes rest h)
flat_nodes (Raise n rest) h = omega (arith, flat_nodes rest h)
flat_nodes (Special t rest) h = omega (arith, flat_nodes rest h)
flat_nodes (While e body rest) h = omega (arith, flat_nodes body (omega (arith, h)), flat_nodes rest (omega (arith, h)))
flat_nodes (If e a b rest) h = absurd (omega (arith, h))

once_nodes : (list : Statements) → nesting list ≤ 1 → list_nodes list + 2 * changes list ≤ 4 * list_size list
once_nodes Empty h = omega arith
once_nodes (Assign x e rest) h = omega (arith, two_left e, once_nodes rest h)
once_nodes (JumpTo e rest) h = omega (arith, two_left e, once_nodes rest h)
once_nodes (Raise n rest) h = omega (arith, once_nodes rest h)
once_nodes (Special t rest) h = omega (arith, once_nodes rest h)
once_nodes (While e body rest) h = omega (arith, once_nodes body (omega (arith, h)), once_nodes rest (omega (arith, h)))
once_nodes (If e a b rest) h =
    omega (arith, two_left e, flat_nodes a (omega (arith, h)), flat_nodes b (omega (arith, h)), once_nodes rest (omega (arith, h)))

-- its nodes are within four for each of its nodes
pub nodes_within : (list : Statements) → nesting list ≤ 2 → list_nodes list ≤ 4 * list_size list
nodes_within Empty h = omega arith
nodes_within (Assign x e rest) h = omega (arith, two_left e, nodes_within rest h)
nodes_within (JumpTo e rest) h = omega (arith, two_left e, nodes_within rest h)
nodes_within (Raise n rest) h = omega (arith, nodes_within rest h)
nodes_within (Special t rest) h = omega (arith, nodes_within rest h)
nodes_within (While e body rest) h = omega (arith, nodes_within body (omega (arith, h)), nodes_within rest (omega (arith, h)))
nodes_within (If e a b rest) h =
    omega (arith, two_left e, once_nodes a (omega (arith, h)), once_nodes b (omega (arith, h)), nodes_within rest (omega (arith, h)))

flat_joins : (list : Statements) → nesting list ≤ 0 → list_joins list ≤ 0
flat_joins Empty h = omega arith
flat_joins (Assign x e rest) h = flat_joins rest h
flat_joins (JumpTo e rest) h = flat_joins rest h
flat_joins (Raise n rest) h = flat_joins rest h
flat_joins (Special t rest) h = flat_joins rest h
flat_joins (While e body rest) h = omega (arith, flat_joins body (omega (arith, h)), flat_joins rest (omega (arith, h)))
flat_joins (If e a b rest) h = absurd (omega (arith, h))

once_joins : (list : Statements) → nesting list ≤ 1 → list_joins list ≤ byte_stores list
once_joins Empty h = omega arith
once_joins (Assign x e rest) h = omega (arith, once_joins rest h)
once_joins (JumpTo e rest) h = omega (arith, once_joins rest h)
once_joins (Raise n rest) h = once_joins rest h
once_joins (Special t rest) h = once_joins rest h
once_joins (While e body rest) h = omega (arith, once_joins body (omega (arith, h)), once_joins rest (omega (arith, h)))
once_joins (If e a b rest) h =
    omega (arith, flat_joins a (omega (arith, h)), flat_joins b (omega (arith, h)), once_joins rest (omega (arith, h)))

-- its joins are at most two for each byte that it stores
pub joins_within : (list : Statements) → nesting list ≤ 2 → list_joins list ≤ 2 * byte_stores list
joins_within Empty h = omega arith
joins_within (Assign x e rest) h = omega (arith, joins_within rest h)
joins_within (JumpTo e rest) h = omega (arith, joins_within rest h)
joins_within (Raise n rest) h = joins_within rest h
joins_within (Special t rest) h = joins_within rest h
joins_within (While e body rest) h = omega (arith, joins_within body (omega (arith, h)), joins_within rest (omega (arith, h)))
joins_within (If e a b rest) h =
    omega (arith, once_joins a (omega (arith, h)), once_joins b (omega (arith, h)), joins_within rest (omega (arith, h)))
