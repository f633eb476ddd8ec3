-- The parts of a reading whose memories are read, and at which addresses.
use Rattle.std.specs.Prelude.{ℕ, zero, suc, ◌≡◌, ◌≤◌, ◌+◌, Bool, true, nat_eq, nat_lt, if◌then◌else◌, List, [], ◌∷◌, ◌++◌, map, slice_index_or, Contains}
use Rattle.std.specs.List.{list_any}
use Rattle.std.specs.Global.{Vec}
use Rattle.term_spec.specs.Terms.{TermNode, BaseNode}
use Rattle.frame_spec.specs.FrameWalk.{UnrolledProgram, point_at}
use Rattle.frame_terms.specs.PassiveFrames.{GivesMemory, NamesMemory}
use Rattle.question_form.specs.FrameQuestions.{frame_of_question, heads_of_question}
use Rattle.mem_cells.specs.declared.building.Build.{Build}
use Rattle.mem_cells.specs.declared.cells.BaseRead.{BaseRead}

-- the unrolled frame of what is built, and whether it has a head
abbrev pub frame_of_build : Build → UnrolledProgram
frame_of_build b = frame_of_question b.question.now

abbrev pub heads_of_build : Build → Bool
heads_of_build b = heads_of_question b.question.now

-- terms may read the memory of a part
abbrev pub HasPart : Build → (part : ℕ) → Type 0
HasPart b p = NamesMemory (frame_of_build b) (heads_of_build b) p

-- each place where a contract step may write is counted with a byte store at least
abbrev pub CountsGifts : UnrolledProgram → Type 0
CountsGifts u = (i : ℕ) → GivesMemory u i → 1 ≤ (point_at u i).stores

-- lists as they are
abbrev pub lists_of : List (Vec ℕ) → List (List ℕ)
lists_of parts = map (λ v. v.items) parts

-- a part is one of some
abbrev pub has_part : List ℕ → (part : ℕ) → Bool
has_part r p = list_any (nat_eq p) r

-- the parts that are read at the address of a number
abbrev pub parts_at : List (List ℕ) → (number : ℕ) → List ℕ
parts_at parts j = slice_index_or parts j []

-- a part is read there
abbrev pub is_read : List (List ℕ) → (part number : ℕ) → Bool
is_read parts p j = has_part (parts_at parts j) p

-- parts that rise, from a least one on
abbrev pub Rise : (least : ℕ) → List ℕ → Type 0
Rise n [] = Unit {0}
Rise n (p ∷ ps) = (n ≤ p) × Rise (p + 1) ps

-- these, and one more, in its place
abbrev pub and_part : List ℕ → (part : ℕ) → List ℕ
and_part [] p = p ∷ []
and_part (q ∷ qs) p = if nat_lt p q then p ∷ q ∷ qs else (if nat_eq p q then q ∷ qs else q ∷ and_part qs p)

-- a part more at the address of a number, if it is there
abbrev pub with_read : List (List ℕ) → (part number : ℕ) → List (List ℕ)
with_read [] p j = []
with_read (r ∷ rs) p zero = and_part r p ∷ rs
with_read (r ∷ rs) p (suc j) = r ∷ with_read rs p j

-- what a node reads
abbrev pub noted : List (List ℕ) → TermNode → List (List ℕ)
noted parts (BaseNode p j) = with_read parts p j
noted parts n = parts

-- these are the parts that are read at the address of each number
pub record AreParts (b : Build) (parts : List (List ℕ)) : Type 0 where
  pub rise : (j : ℕ) → Rise 0 (parts_at parts j)
  pub sound : (p j : ℕ) → is_read parts p j ≡ true → Contains b.dag (BaseNode p j)
  pub complete : (p j : ℕ) → Contains b.dag (BaseNode p j) → is_read parts p j ≡ true

-- no other part is read at any address
abbrev pub KeepsParts : (old new : Build) → Type 0
KeepsParts old new = (p j : ℕ) → Contains new.dag (BaseNode p j) → Contains old.dag (BaseNode p j)

-- one more, if it is one
abbrev pub one_if : {X : Type 0} → Bool → X → List X
one_if b x = if b then x ∷ [] else []

-- the read of a part at the address of a number
abbrev pub read_at : (part number : ℕ) → BaseRead
read_at p j = record { part = p; address = j }

-- the reads of the address of a number
abbrev pub reads_at : List ℕ → (number : ℕ) → List BaseRead
reads_at r j = map (λ p. read_at p j) r

-- the reads of the addresses from a number on
abbrev pub reads_from : (number : ℕ) → List (List ℕ) → List BaseRead
reads_from j [] = []
reads_from j (r ∷ rs) = reads_at r j ++ reads_from (j + 1) rs
