-- The flow graph of a program: its addresses, the successors of each, and the flags whose assignments stay.
use Rattle.std.specs.Prelude.{ℕ, ◌≡◌, ◌≢◌, Bool, true, false, ◌==◌, ◌&&◌, ◌||◌, not, nat_lt, if◌then◌else◌, List, [], ◌∷◌, ◌++◌, Option, Some, None, map, filter, Contains}
use Rattle.word_spec.specs.Words.{add}
use Rattle.machine_spec.specs.Machine.{Row, Successors, is_place}
use Rattle.bilv_spec.specs.Run.{Program, named, some_of}
use Rattle.bilv_spec.specs.Points.{file_row, file_word}

-- a successor is the next address, a jump's target, a call's target, or the address after a call
pub data Letter : Type 0 where
  NextLetter : Letter
  JumpLetter : Letter
  CallLetter : Letter
  ReturnLetter : Letter

-- an address with its letter
pub record Successor : Type 0 where
  pub letter : Letter
  pub to : ℕ

-- the order of the letters
abbrev pub letter_order : Letter → ℕ
letter_order NextLetter = 0
letter_order JumpLetter = 1
letter_order CallLetter = 2
letter_order ReturnLetter = 3

-- a successor from its parts
abbrev pub successor : Letter → ℕ → Successor
successor l a = record { letter = l; to = a }

-- the successors of a row at an address
abbrev pub successors_of : Program → ℕ → Row → Successors → List Successor
successors_of p at row s =
    (if s.next then successor NextLetter (add 32 at row.length) ∷ [] else [])
    ++ map (successor (if s.call then CallLetter else JumpLetter)) (some_of s.direct)
    ++ (if s.indirect then map (successor (if s.call then CallLetter else JumpLetter)) (named p (file_word p) row at) else [])
    ++ (if s.call then successor ReturnLetter (add 32 at row.length) ∷ [] else [])

-- the successors by the row at the address at which a row can stand; any other next address ends a run
abbrev pub successors_by : Program → ℕ → Option Row → List Successor
successors_by p at None = []
successors_by p at (Some row) = filter (λ x. is_place p.machine.narrow x.to) (successors_of p at row (row.successors at))

-- one successor stands before another: its address is less, or it is the same and its letter comes first
abbrev pub comes_before : Successor → Successor → Bool
comes_before x y = nat_lt x.to y.to || ((x.to == y.to) && nat_lt (letter_order x.letter) (letter_order y.letter))

-- a successor put in its place among others that are in order; one that stands there already is not put twice
abbrev pub insert : Successor → List Successor → List Successor
insert x [] = x ∷ []
insert x (y ∷ ys) = if comes_before x y then x ∷ y ∷ ys else if comes_before y x then y ∷ insert x ys else y ∷ ys

-- successors in order, each once
abbrev pub sort : List Successor → List Successor
sort [] = []
sort (x ∷ xs) = insert x (sort xs)

-- the successors of an address, by rising address and in the order of their letters
abbrev pub successors_at : Program → ℕ → List Successor
successors_at p at = sort (successors_by p at (file_row p at))

-- the row at an address may return or exit
abbrev pub returns_by : ℕ → Option Row → Bool
returns_by at None = false
returns_by at (Some row) = (row.successors at).indirect && not (row.successors at).call

-- the row at the address may return or exit
abbrev pub may_return : Program → ℕ → Bool
may_return p at = returns_by at (file_row p at)

-- the addresses of the graph: the entry, and each successor that is listed
pub data IsAddress (p : Program) : ℕ → Type 0 where
  entry : IsAddress p p.entry
  listed : {a : ℕ} {x : Successor} → IsAddress p a → Contains (successors_at p a) x → IsAddress p x.to

-- a static path goes along next addresses, jumps and calls; a return goes to every address after a call
pub data LeadsTo (p : Program) (a b : ℕ) : Type 0 where
  along : (x : Successor) → Contains (successors_at p a) x → x.letter ≢ ReturnLetter → x.to ≡ b → LeadsTo p a b
  back : {c : ℕ} → may_return p a ≡ true → IsAddress p c → Contains (successors_at p c) (successor ReturnLetter b) → LeadsTo p a b
