-- An unrolled frame with several entries, one for each anchor, whose points execute a list, are an arrival at a head, or make a contract step; the walk of a
-- reading from an anchor; and the sweep over all places, which is the walks of all anchors at once.
use Rattle.std.specs.Prelude.{ℕ, zero, suc, ◌≡◌, ◌+◌, ◌<◌, ◌↔◌, Bool, true, false, not, ◌==◌, ◌&&◌, ◌||◌, nat_lt, nat_eq, if◌then◌else◌, List, [], ◌∷◌, Option, Some, None, slice_index_or, length, Contains}
use Rattle.std.specs.List.{list_any}
use Rattle.std.specs.Str.{bytes_eq}
use Rattle.word_spec.specs.Words.{add}
use Rattle.word_spec.specs.Memory.{Endian}
use Rattle.word_spec.specs.State.{State}
use Rattle.machine_spec.specs.Machine.{is_place}
use Rattle.bilv_spec.specs.Notes.{Expr, NoteLine, value, is_true}
use Rattle.machine_spec.specs.Bil.{Statements, Empty}
use Rattle.machine_spec.specs.BilMeaning.{Ending, Ends, RaisesException, OutOfTurns, Wrong, Stuck, execute}
use Rattle.machine_spec.specs.BilStores.{list_stored}
use Rattle.machine_spec.specs.Simulation.{position}
use Rattle.machine_spec.specs.Endings.{AssertFails, EnsureFails, CodeWritten, AlignFails, JumpFails}
use Rattle.bilv_spec.specs.Run.{false_line}
use Rattle.walk_spec.specs.Unrolled.{AddressRun, ByteRun, is_in, number_event}
use Rattle.frame_spec.specs.Frames.{Content, Writes, FrameEvent, OfStep, InvariantFails, NeedsFails, WritesFails, GivesFails, ModifiesFails, written, covers, content_at, content_of}
use Rattle.frame_spec.specs.FramePoints.{Anchor, AtEntry, AtHead, Point, is_entry}
use Rattle.frame_spec.specs.FrameQuestions.{Reading}

-- a line that is judged at an address: an assert line, or an invariant
pub record Check : Type 0 where
  pub line : ℕ
  pub invariant : Bool
  pub says : Expr

-- its event
abbrev pub check_event : Check → FrameEvent
check_event x = if x.invariant then InvariantFails x.line else OfStep (AssertFails x.line)

-- Where an exit of a point leads: on to the point at a place; to a head, which is judged by its lines; out of the frame; over the last backward transfer; to an
-- event; to the end of a segment; nowhere, since there is no such run.
pub data Aim : Type 0 where
  OnTo : ℕ → Aim
  IntoHead : (at : ℕ) → List Check → Aim
  Outward : Aim
  OverLast : Aim
  ToEvent : FrameEvent → Aim
  Cutting : Aim
  Nowhere : Aim

-- The exits of a point, as without heads and contracts, and: a line that is false of what a contract needs; a byte stored that the frame's contract may not
-- write; what a contract step is given breaks what the contract gives.
pub data PointExit : Type 0 where
  FalseCheck : Check → PointExit
  FalseNeed : (line : ℕ) → Expr → PointExit
  Always : Aim → PointExit
  Raising : PointExit
  WritingKept : PointExit
  WritingOutside : PointExit
  NotGiven : PointExit
  Unaligned : PointExit
  Along : (falls jumps : Bool) → (to : Option ℕ) → Aim → PointExit

-- what a contract step does: it goes to an address, and takes from what is given the registers and flags that may change and the bytes that may be written
pub record Gift : Type 0 where
  pub to : ℕ
  pub writes : List Writes
  pub gives : List NoteLine
  pub registers : List ℕ
  pub flags : List ℕ

-- What a point does: it executes a list of statements, arrives at a head, or makes a contract step.
pub data Action : Type 0 where
  Executes : Statements → Action
  Arrives : Action
  StepsOver : Gift → Action

-- a point, with what the price counts of it
pub record UnrolledPoint : Type 0 where
  pub point : Point
  pub length : ℕ
  pub does : Action
  pub draws : Bool
  pub row : ℕ
  pub loads : ℕ
  pub stores : ℕ
  pub exits : List PointExit

-- where a segment begins: a place, and the invariants that its state has to make true
pub record Root : Type 0 where
  pub place : ℕ
  pub assumes : List NoteLine

-- how a contract's frame is left: what it gives, what it may change, and the bytes that it may write
pub record Own : Type 0 where
  pub gives : List NoteLine
  pub writes : List Writes
  pub registers : List ℕ
  pub flags : List ℕ

-- An unrolled frame. roots: the places at which segments begin, the entry's first, which is place 0; the others are those of anchors at heads.
pub record UnrolledProgram : Type 0 where
  pub endian : Endian
  pub narrow : Bool
  pub registers : List ℕ
  pub flags : ℕ
  pub link : ℕ
  pub entry : ℕ
  pub requires : List NoteLine
  pub ensures : List NoteLine
  pub own : Option Own
  pub kept : List AddressRun
  pub known : List ByteRun
  pub literals : List ℕ
  pub roots : List Root
  pub points : List UnrolledPoint

-- no point
abbrev pub no_point : UnrolledPoint
no_point = record {
  point = record { anchor = AtEntry; turns = 0; contract = false; stack = []; at = 0 };
  length = 0;
  does = Executes Empty;
  draws = false;
  row = 0;
  loads = 0;
  stores = 0;
  exits = [];
}

-- the point at a place
abbrev pub point_at : UnrolledProgram → ℕ → UnrolledPoint
point_at u i = slice_index_or u.points i no_point

-- how a point is left: on to an address; by an exception; or not at all
pub data Leaving : Type 0 where
  GoesOn : (jumped : Bool) → (to : ℕ) → Content → Leaving
  RaisesOne : ℕ → Leaving
  IsStuck : Leaving

-- a list's ending
abbrev pub goes_on : UnrolledPoint → Option ℕ → Content → Leaving
goes_on q None c = GoesOn false (add 32 q.point.at q.length) c
goes_on q (Some a) c = GoesOn true a c

abbrev pub leaving_by : UnrolledPoint → Ending → Leaving
leaving_by q (Ends p) = goes_on q p.jump (record { regs = p.env.regs; flags = p.env.flags; mem = p.env.mem })
leaving_by q (RaisesException n p) = RaisesOne n
leaving_by q (OutOfTurns p) = IsStuck
leaving_by q Wrong = IsStuck

-- the contents after a contract step
abbrev pub gifted : UnrolledProgram → Gift → State → Content → Content
gifted u x s g = record {
  regs = λ r. if list_any (nat_eq r) u.registers && not (list_any (nat_eq r) x.registers) then s.regs r else g.regs r;
  flags = λ n. if nat_lt n u.flags && not (list_any (nat_eq n) x.flags) then s.flags n else g.flags n;
  mem = λ a. if nat_lt a 4294967296 && not (covers u.endian x.writes s a) then s.mem a else g.mem a;
}

-- how an action leaves its point, under a choice and what is given
abbrev pub left_by : UnrolledProgram → UnrolledPoint → (choice : ℕ) → (given c : Content) → Action → Leaving
left_by u q choice g c (Executes list) = leaving_by q (execute list choice (position (λ x t. Stuck) 0 None (content_at c q.point.at)))
left_by u q choice g c Arrives = IsStuck
left_by u q choice g c (StepsOver x) = GoesOn true x.to (gifted u x (content_at c q.point.at) g)

-- the addresses of the bytes that an action stores
abbrev pub stored_by : UnrolledProgram → UnrolledPoint → (choice : ℕ) → Content → Action → List ℕ
stored_by u q choice c (Executes list) = list_stored list choice (position (λ x t. Stuck) 0 None (content_at c q.point.at))
stored_by u q choice c Arrives = []
stored_by u q choice c (StepsOver x) = written u.endian x.writes (content_at c q.point.at)

-- the state that a leaving goes to
abbrev pub next_state : Leaving → Content → State
next_state (GoesOn jumped to c) old = content_at c to
next_state (RaisesOne n) old = content_at old 0
next_state IsStuck old = content_at old 0

abbrev pub is_raised : Leaving → Bool
is_raised (RaisesOne n) = true
is_raised l = false

abbrev pub is_unaligned : (narrow : Bool) → Leaving → Bool
is_unaligned narrow (GoesOn jumped to c) = not (is_place narrow to)
is_unaligned narrow l = false

abbrev pub raised_event : Leaving → FrameEvent
raised_event (RaisesOne n) = OfStep (number_event n)
raised_event l = OfStep CodeWritten

-- the address at which an edge is taken
abbrev pub edge_address : UnrolledProgram → (entry : State) → Option ℕ → ℕ
edge_address u entry None = entry.regs u.link
edge_address u entry (Some a) = a

abbrev pub goes_along : UnrolledProgram → (entry : State) → (falls jumps : Bool) → Option ℕ → Leaving → Bool
goes_along u entry falls jumps at (GoesOn jumped to c) = (if jumped then jumps else falls) && (to == edge_address u entry at)
goes_along u entry falls jumps at l = false

-- one of the stored bytes is none that the frame's contract may write
abbrev pub is_outside : Option Own → Endian → (entry : State) → List ℕ → Bool
is_outside None e entry places = false
is_outside (Some x) e entry places = list_any (λ a. not (covers e x.writes entry a)) places

-- the lines that a contract step has to meet after it
abbrev pub gives_of : Action → List NoteLine
gives_of (StepsOver x) = x.gives
gives_of a = []

-- one of the lines is false
abbrev pub is_line_false : Option ℕ → Bool
is_line_false None = false
is_line_false (Some n) = true

-- What decides which exit is taken: the states at entry, at the point and after it, the stored bytes, and how the point is left.
pub record Situation : Type 0 where
  pub entry : State
  pub now : State
  pub next : State
  pub stored : List ℕ
  pub leaving : Leaving
  pub gives : List NoteLine

-- an exit is taken
abbrev pub is_taken : UnrolledProgram → Situation → PointExit → Bool
is_taken u s (FalseCheck x) = not (is_true (value u.endian x.says s.now s.entry))
is_taken u s (FalseNeed line e) = not (is_true (value u.endian e s.now s.now))
is_taken u s (Always aim) = true
is_taken u s Raising = is_raised s.leaving
is_taken u s WritingKept = list_any (is_in u.kept) s.stored
is_taken u s WritingOutside = is_outside u.own u.endian s.entry s.stored
is_taken u s NotGiven = is_line_false (false_line u.endian s.gives s.next s.now)
is_taken u s Unaligned = is_unaligned u.narrow s.leaving
is_taken u s (Along falls jumps to aim) = goes_along u s.entry falls jumps to s.leaving

-- where an exit leads
abbrev pub aim_of : Leaving → PointExit → Aim
aim_of l (FalseCheck x) = ToEvent (check_event x)
aim_of l (FalseNeed line e) = ToEvent (NeedsFails line)
aim_of l (Always aim) = aim
aim_of l Raising = ToEvent (raised_event l)
aim_of l WritingKept = ToEvent (OfStep CodeWritten)
aim_of l WritingOutside = ToEvent WritesFails
aim_of l NotGiven = Nowhere
aim_of l Unaligned = ToEvent (OfStep AlignFails)
aim_of l (Along falls jumps to aim) = aim

abbrev pub first_aim : UnrolledProgram → Situation → List PointExit → Aim
first_aim u s [] = ToEvent (OfStep JumpFails)
first_aim u s (x ∷ rest) = if is_taken u s x then aim_of s.leaving x else first_aim u s rest

-- A walk is at the point at a place; it arrives at a head, whose lines are judged next; or it has ended: out of the frame, by an event, by one backward
-- transfer too many, at a head, or nowhere.
pub data Walk : Type 0 where
  WalkIsAt : (place : ℕ) → Content → Walk
  WalkArrives : (at : ℕ) → List Check → Content → Walk
  WalkExits : Walk
  WalkFails : FrameEvent → Walk
  WalkTurns : Walk
  WalkIsCut : Walk
  WalkBreaks : Walk

-- the first false line of some checks
abbrev pub false_check : Endian → List Check → State → State → Option Check
false_check e [] now entry = None
false_check e (x ∷ rest) now entry = if is_true (value e x.says now entry) then false_check e rest now entry else Some x

abbrev pub arrival_by : Option Check → Walk
arrival_by None = WalkIsCut
arrival_by (Some x) = WalkFails (check_event x)

-- the flags below a number
abbrev pub flags_below : ℕ → List ℕ
flags_below zero = []
flags_below (suc n) = n ∷ flags_below n

-- a register or a flag differs that the frame's contract may not change
abbrev pub has_changed : UnrolledProgram → Own → State → State → Bool
has_changed u x entry new =
    list_any (λ r. not (list_any (nat_eq r) x.registers) && not (new.regs r == entry.regs r)) u.registers
    || list_any (λ g. not (list_any (nat_eq g) x.flags) && not (new.flags g == entry.flags g)) (flags_below u.flags)

-- the exit of the frame is judged
abbrev pub out_by : Option ℕ → (ℕ → FrameEvent) → Bool → Walk
out_by (Some line) event changed = WalkFails (event line)
out_by None event true = WalkFails ModifiesFails
out_by None event false = WalkExits

abbrev pub walk_out : Option Own → UnrolledProgram → (entry next : State) → Walk
walk_out None u entry next = out_by (false_line u.endian u.ensures next entry) (λ n. OfStep (EnsureFails n)) false
walk_out (Some x) u entry next = out_by (false_line u.endian x.gives next entry) GivesFails (has_changed u x entry next)

-- the walk after an exit that leads there
abbrev pub walk_to : UnrolledProgram → (entry next : State) → Aim → Walk
walk_to u entry next (OnTo i) = WalkIsAt i (content_of next)
walk_to u entry next (IntoHead at checks) = WalkArrives at checks (content_of next)
walk_to u entry next Outward = walk_out u.own u entry next
walk_to u entry next OverLast = WalkTurns
walk_to u entry next (ToEvent e) = WalkFails e
walk_to u entry next Cutting = WalkIsCut
walk_to u entry next Nowhere = WalkBreaks

-- what decides at a point
abbrev pub situation_at : UnrolledProgram → (entry : State) → UnrolledPoint → (choice : ℕ) → (given c : Content) → Situation
situation_at u entry q choice g c = record {
  entry = entry;
  now = content_at c q.point.at;
  next = next_state (left_by u q choice g c q.does) c;
  stored = stored_by u q choice c q.does;
  leaving = left_by u q choice g c q.does;
  gives = gives_of q.does;
}

-- the walk after a point
abbrev pub walk_from : UnrolledProgram → (entry : State) → UnrolledPoint → (choice : ℕ) → (given c : Content) → Walk
walk_from u entry q choice g c =
    walk_to u entry (next_state (left_by u q choice g c q.does) c) (first_aim u (situation_at u entry q choice g c) q.exits)

-- the walk after one more point
abbrev pub walk_on : UnrolledProgram → Reading → Walk → Walk
walk_on u r (WalkIsAt i c) = walk_from u r.state (point_at u i) (r.choice (point_at u i).point) (r.given (point_at u i).point) c
walk_on u r (WalkArrives at checks c) = arrival_by (false_check u.endian checks (content_at c at) r.state)
walk_on u r w = w

-- the part of a reading that a root begins with
abbrev pub root_content : Reading → Anchor → Content
root_content r AtEntry = content_of r.state
root_content r (AtHead stack a) = r.head

-- no root
abbrev pub no_root : Root
no_root = record { place = 0; assumes = [] }

-- the root of a number
abbrev pub root_at : UnrolledProgram → ℕ → Root
root_at u n = slice_index_or u.roots n no_root

-- where the segment of a root begins
abbrev pub root_walk : UnrolledProgram → Reading → Root → Walk
root_walk u r x = WalkIsAt x.place (root_content r (point_at u x.place).point.anchor)

-- the walk of a reading from a root after a number of points
unfoldable pub walk_of : UnrolledProgram → Reading → Root → ℕ → Walk
walk_of u r x zero = root_walk u r x
walk_of u r x (suc n) = walk_on u r (walk_of u r x n)

-- the reading's state at the root makes its invariants true
abbrev pub is_assumed : UnrolledProgram → Reading → Root → Bool
is_assumed u r x =
    not (is_line_false (false_line u.endian x.assumes (content_at (root_content r (point_at u x.place).point.anchor) (point_at u x.place).point.at) r.state))

-- What the places hold: which are met, what is carried to each; and whether a segment from the entry had an event, one from a head, and any of them one
-- backward transfer too many.
pub record Held : Type 0 where
  pub met : ℕ → Bool
  pub carried : ℕ → Content
  pub fails : Bool
  pub steps : Bool
  pub turns : Bool

abbrev pub content_if : Bool → Content → Content → Content
content_if b c d = record {
  regs = λ n. if b then c.regs n else d.regs n;
  flags = λ f. if b then c.flags f else d.flags f;
  mem = λ a. if b then c.mem a else d.mem a;
}

abbrev pub held_if : Bool → Held → Held → Held
held_if b g h = record {
  met = λ i. if b then g.met i else h.met i;
  carried = λ i. content_if b (g.carried i) (h.carried i);
  fails = if b then g.fails else h.fails;
  steps = if b then g.steps else h.steps;
  turns = if b then g.turns else h.turns;
}

-- the end of a walk is handed on: an event counts for the entry or for the heads
abbrev pub hand_end : Anchor → Walk → Held → Held
hand_end AtEntry (WalkFails e) h = record h { fails = true }
hand_end (AtHead stack a) (WalkFails e) h = record h { steps = true }
hand_end anchor WalkTurns h = record h { turns = true }
hand_end anchor w h = h

-- where a walk comes to is handed on; an arrival is judged at once
abbrev pub hand : UnrolledProgram → Reading → Anchor → Walk → Held → Held
hand u r anchor (WalkIsAt j c) h = record h { met = λ i. (i == j) || h.met i; carried = λ i. content_if (i == j) c (h.carried i) }
hand u r anchor (WalkArrives at checks c) h = hand_end anchor (walk_on u r (WalkArrives at checks c)) h
hand u r anchor w h = hand_end anchor w h

abbrev pub sweep_on : UnrolledProgram → Reading → (place : ℕ) → Held → Held
sweep_on u r t h = held_if (h.met t) (hand u r (point_at u t).point.anchor (walk_on u r (WalkIsAt t (h.carried t))) h) h

-- some root begins at the place, and its invariants are true
abbrev pub is_begun : UnrolledProgram → Reading → ℕ → Bool
is_begun u r i = list_any (λ x. (x.place == i) && is_assumed u r x) u.roots

-- what is held after the first places
unfoldable pub held : UnrolledProgram → Reading → ℕ → Held
held u r zero = record {
  met = is_begun u r;
  carried = λ i. root_content r (point_at u i).point.anchor;
  fails = false;
  steps = false;
  turns = false;
}
held u r (suc t) = sweep_on u r t (held u r t)

-- what is held after all places
abbrev pub swept : UnrolledProgram → Reading → Held
swept u r = held u r (length u.points)

-- How the walks of the roots end: those from the entry, and those from head states whose invariants are true.
abbrev pub SomeRoot : UnrolledProgram → Reading → (Anchor → Bool) → (Walk → Type 0) → Type 0
SomeRoot u r which Comes =
    (x : Root) × Contains u.roots x × (which (point_at u x.place).point.anchor ≡ true) × (is_assumed u r x ≡ true) × ((n : ℕ) × Comes (walk_of u r x n))

abbrev pub HasEvent : Walk → Type 0
HasEvent w = (e : FrameEvent) × (w ≡ WalkFails e)

-- an exit that leads to a point leads to a later place, of the same anchor
abbrev pub AimsLater : UnrolledProgram → (i : ℕ) → Aim → Type 0
AimsLater u i (OnTo j) = (i < j) × (j < length u.points) × ((point_at u j).point.anchor ≡ (point_at u i).point.anchor)
AimsLater u i aim = Unit {0}

abbrev pub LeadsLater : UnrolledProgram → (i : ℕ) → PointExit → Type 0
LeadsLater u i (Always aim) = AimsLater u i aim
LeadsLater u i (Along falls jumps to aim) = AimsLater u i aim
LeadsLater u i x = Unit {0}

-- exits lead to later places of the same anchor; roots are at places, and each anchor has one
pub record IsRooted (u : UnrolledProgram) : Type 0 where
  pub later : (i : ℕ) (x : PointExit) → i < length u.points → Contains (point_at u i).exits x → LeadsLater u i x
  pub places : (x : Root) → Contains u.roots x → x.place < length u.points
  pub one : (x y : Root) → Contains u.roots x → Contains u.roots y → (point_at u x.place).point.anchor ≡ (point_at u y.place).point.anchor → x ≡ y

-- two anchors are the same
abbrev pub same_anchor : Anchor → Anchor → Bool
same_anchor AtEntry AtEntry = true
same_anchor (AtHead s a) (AtHead t b) = (a == b) && bytes_eq s t
same_anchor a b = false

-- how many of the first places are met by the segment of an anchor
abbrev pub met_of : UnrolledProgram → Held → Anchor → ℕ → ℕ
met_of u h anchor zero = 0
met_of u h anchor (suc i) =
    if h.met i && same_anchor (point_at u i).point.anchor anchor then met_of u h anchor i + 1 else met_of u h anchor i

abbrev pub is_head_anchor : Anchor → Bool
is_head_anchor anchor = not (is_entry anchor)

-- The sweep is the walks of all roots whose invariants are true: it has an event of the entry's segment or of another, or one backward transfer too many, where
-- one of them comes to that; and the walk of a root is at a place after so many points, with what it carries, exactly where the place is of its anchor, is met,
-- holds that, and has so many met places of the anchor before it.
abbrev pub SweepIsWalks : Type 0
SweepIsWalks =
    (u : UnrolledProgram) → IsRooted u → (r : Reading) →
    (((swept u r).fails ≡ true) ↔ SomeRoot u r is_entry HasEvent)
    × (((swept u r).steps ≡ true) ↔ SomeRoot u r is_head_anchor HasEvent)
    × (((swept u r).turns ≡ true) ↔ SomeRoot u r (λ a. true) (λ w. w ≡ WalkTurns))
    × ((x : Root) → Contains u.roots x → is_assumed u r x ≡ true → (n i : ℕ) (c : Content) →
    (walk_of u r x n ≡ WalkIsAt i c)
    ↔ ((i < length u.points) × ((point_at u i).point.anchor ≡ (point_at u x.place).point.anchor) × ((swept u r).met i ≡ true)
    × ((swept u r).carried i ≡ c) × (met_of u (swept u r) (point_at u x.place).point.anchor i ≡ n)))
