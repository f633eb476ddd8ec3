-- What a contract's frame may have changed where it is left, as a term.
use Rattle.std.specs.Prelude.{ℕ, ◌+◌, ◌&&◌, ◌||◌, ◌==◌, not, nat_eq, Bool, List, slice_index}
use Rattle.std.specs.List.{list_any}
use Rattle.word_spec.specs.RowFiles.{from_to}
use Rattle.term_spec.specs.Terms.{TermReading, TermNode, term_word}
use Rattle.term_spec.specs.Passive.{Denotes, Tells}
use Rattle.walk_spec.specs.Unrolled.{Carried}
use Rattle.frame_spec.specs.Frames.{Contract}
use Rattle.frame_spec.specs.FrameWalk.{flags_below}
use Rattle.term_names.specs.declared.names.Names.{Names}
use Rattle.term_names.specs.Gifts.{is_in}
use Rattle.term_names.specs.Views.{form_of, names_of}

-- one of the first of two rows of terms differs, whose numbers from a first one on are not in a set
abbrev pub differs_among : List TermNode → TermReading → (set first : ℕ) → (entry next : List ℕ) → (count : ℕ) → Bool
differs_among nodes x set first entry next count =
    list_any (λ i. not (is_in set (first + i)) && not (term_word x nodes (slice_index next i) == term_word x nodes (slice_index entry i))) (from_to 0 count)

-- a bit tells that another is 1, or that one of them does
abbrev pub TellsAmong : (old new : List TermNode) → (set first : ℕ) → (entry next : List ℕ) → (count before t : ℕ) → TermReading → Type 0
TellsAmong old new set first entry next count before t x =
    (p : Bool) → Tells old x before p → Tells new x t (p || differs_among old x set first entry next count)

-- a register or a flag of a form differs between two contents, and is none that a contract may change
abbrev pub changes : Contract → Names → (entry next : Carried) → Bool
changes c n entry next =
    list_any (λ r. not (list_any (nat_eq r) c.registers) && not (next.regs r == entry.regs r)) (form_of n).registers
    || list_any (λ g. not (list_any (nat_eq g) c.flags) && not (next.flags g == entry.flags g)) (flags_below (form_of n).flags)

-- a bit tells so of what terms denote
abbrev pub TellsChanged : (old new : List TermNode) → Contract → (entry next : Names) → (t : ℕ) → TermReading → Type 0
TellsChanged old new c entry next t x =
    (d e : Carried) → Denotes (form_of entry) old x (names_of entry) d → Denotes (form_of next) old x (names_of next) e → Tells new x t (changes c next d e)
