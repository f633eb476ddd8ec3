-- What the scripts of a frame declare, as values by which an answer is read.
use Rattle.std.specs.Prelude.{ℕ, ◌≡◌, ◌<◌, ◌+◌, Bool, true, false, nat_eq, if◌then◌else◌, List, Option, Some, None, length, map, slice_get}
use Rattle.std.specs.List.{list_any}
use Rattle.machine_spec.specs.StateText.{Layout}
use Rattle.frame_spec.specs.Frames.{Contract, Frame, contract_at}
use Rattle.frame_spec.specs.FramePoints.{Point, has_heads}
use Rattle.frame_spec.specs.FrameScripts.{point_draws, writes_some}
use Rattle.notes_value.specs.FrameViews.{is_in}
use Rattle.model_text.specs.declared.symbol.Gift.{Gift}
use Rattle.model_text.specs.declared.symbol.Others.{Others}
use Rattle.model_text.specs.Symbols.{AreFrameSymbols, gift_in}
use Rattle.answer_spec.specs.FrameModels.{frame_declared}

-- the contract that a point steps over
abbrev pub stepped_by : Frame → Point → Option Contract
stepped_by f q = if q.contract then contract_at f.stepped q.at else None

-- what its step is given
pub record IsGiftOf (layout : Layout) (x : Contract) (g : Gift) : Type 0 where
  pub registers : (i : ℕ) → i < length layout.registers → is_in g.registers (layout.first + i) ≡ list_any (nat_eq (layout.first + i)) x.registers
  pub flags : (i : ℕ) → i < length layout.flags → is_in g.flags i ≡ list_any (nat_eq i) x.flags
  pub memory : g.memory ≡ writes_some x.writes

abbrev pub IsGiftIf : Layout → Option Contract → Option Gift → Type 0
IsGiftIf layout None None = Unit {0}
IsGiftIf layout None (Some g) = ⊥
IsGiftIf layout (Some x) None = ⊥
IsGiftIf layout (Some x) (Some g) = IsGiftOf layout x g

-- a head state has all registers, all flags and the memory
pub record IsWhole (layout : Layout) (g : Gift) : Type 0 where
  pub registers : (i : ℕ) → i < length layout.registers → is_in g.registers (layout.first + i) ≡ true
  pub flags : (i : ℕ) → i < length layout.flags → is_in g.flags i ≡ true
  pub memory : g.memory ≡ true

abbrev pub IsHeadGift : Layout → (heads : Bool) → Option Gift → Type 0
IsHeadGift layout false None = Unit {0}
IsHeadGift layout false (Some g) = ⊥
IsHeadGift layout true None = ⊥
IsHeadGift layout true (Some g) = IsWhole layout g

-- the values are those of the frame's points in the order of scripts
pub record AreOfFrame (f : Frame) (layout : Layout) (points : List Point) (drawn : List Bool) (o : Others) : Type 0 where
  pub draws : drawn ≡ map (point_draws f) points
  pub head : IsHeadGift layout (has_heads f) o.head
  pub count : length o.given.items ≡ length points
  pub given : (n : ℕ) (q : Point) → slice_get points n ≡ Some q → IsGiftIf layout (stepped_by f q) (gift_in (slice_get o.given.items n))

-- an answer is then read by exactly what the scripts of the frame's questions declare
abbrev pub DeclaredAreRead : Type 0
DeclaredAreRead =
    (f : Frame) (layout : Layout) (points : List Point) (drawn : List Bool) (o : Others) → AreOfFrame f layout points drawn o →
    AreFrameSymbols layout drawn o (frame_declared f layout points)
