-- What the tokens of an answer say: what is kept behind each, and the first fault so far.
use Rattle.std.specs.Prelude.{ℕ, zero, suc, ◌^◌, ◌==◌, ◌&&◌, not, nat_lt, Bool, true, false, if◌then◌else◌, List, [], ◌∷◌, ◌++◌, Option, Some, None, is_some, codes}
use Rattle.std.specs.Option.{option_map}
use Rattle.model_spec.specs.ModelText as text
use Rattle.model_spec.specs.ModelText.{ModelToken, Placed, Value, WordIs, ConstantIs, StoredIs, Definition, Gives, PassedOver, Words, Memories, array_sort, ModelFault, AnswerFault, SyntaxFault, SortFault, TwiceFault}
use Rattle.model_spec.specs.Models.{given}
use Rattle.model_text.specs.declared.bits.Bits.{Bits as BitsRead}
use Rattle.model_text.specs.declared.bits.BitsPlace.{BitsPlace}
use Rattle.model_text.specs.declared.bits.BitsPlace.TheVariants as bits
use Rattle.model_text.specs.declared.place.Role.{Role}
use Rattle.model_text.specs.declared.place.Role.TheVariants.{Base, Fill, Index, Byte}
use Rattle.model_text.specs.declared.place.Place.{Place}
use Rattle.model_text.specs.declared.place.Place.TheVariants as places
use Rattle.model_text.specs.declared.symbol.Symbol.{Symbol}
use Rattle.model_text.specs.declared.symbol.Symbol.TheVariants.{Memory}
use Rattle.model_text.specs.Tokens.{is_close, name_text, when}
use Rattle.model_text.specs.Bits.{bits_next, bits_traced, is_whole}
use Rattle.model_text.specs.Places.{next_place, begins, is_closing, is_value}
use Rattle.model_text.specs.Symbols.{sort_of, pattern_of}
use Rattle.model_text.specs.Pieces.{left_of, is_done}
use Rattle.model_text.specs.Faults.{Found, found, first_fault, with_fault}

-- What tokens said: the whole definitions; and of the last definition of a declared symbol the symbol, its name, the tokens of its sort and of the sort of its
-- array with one value, the last word of bits, the last index, and its value.
pub record Trace : Type 0 where
  pub definitions : List Definition
  pub symbol : Symbol
  pub name : List ℕ
  pub sort : List ModelToken
  pub constant : List ModelToken
  pub bits : BitsRead
  pub index : BitsRead
  pub value : Value

-- a value of no sort
abbrev pub no_value : Value
no_value = StoredIs (WordIs 0 0) 0 0 0 0

abbrev pub no_bits : BitsRead
no_bits = record { width = 0; number = 0 }

abbrev pub empty_trace : Trace
empty_trace = record {
  definitions = [];
  symbol = Memory;
  name = codes "mem";
  sort = [];
  constant = [];
  bits = no_bits;
  index = no_bits;
  value = no_value;
}

-- the symbols that are declared, by their names
abbrev pub Known : Type 0
Known = List ℕ → Option Symbol

-- behind the name of a definition
abbrev pub named : Option Symbol → List ℕ → Trace → Trace
named None w tr = tr
named (Some s) w tr = record tr { symbol = s; name = w; sort = []; value = no_value }

-- behind a whole word of bits
abbrev pub with_role : Role → Trace → Trace
with_role Base tr = record tr { value = WordIs tr.bits.width tr.bits.number }
with_role Fill tr = record tr { value = ConstantIs tr.constant tr.bits.width tr.bits.number }
with_role Index tr = record tr { index = tr.bits }
with_role Byte tr = record tr { value = StoredIs tr.value tr.index.width tr.index.number tr.bits.width tr.bits.number }

abbrev pub role_if : Bool → Role → Trace → Trace
role_if true role tr = with_role role tr
role_if false role tr = tr

-- behind a token of a word of bits
abbrev pub with_bits : Role → BitsPlace → ModelToken → Trace → Trace
with_bits role at t tr = role_if (is_whole (bits_next at t)) role (record tr { bits = bits_traced at t tr.bits })

-- behind one that is passed over
abbrev pub passed_trace : ℕ → Trace → Trace
passed_trace zero tr = record tr { definitions = tr.definitions ++ PassedOver ∷ [] }
passed_trace (suc d) tr = tr

-- behind a token within a sort or a value
abbrev pub drafted : Place → ModelToken → Trace → Trace
drafted (places.Sort at) t tr = record tr { sort = tr.sort ++ t ∷ [] }
drafted (places.Value d) t tr = with_bits Base bits.Wanted t tr
drafted (places.Const d) t tr = record tr { constant = [] }
drafted (places.ConstSort d at) t tr = record tr { constant = tr.constant ++ t ∷ [] }
drafted (places.Bits role d at) t tr = with_bits role at t tr
drafted other t tr = tr

-- behind any token; the symbol is that of the name that a definition has
abbrev pub traced : Place → Option Symbol → ModelToken → Trace → Trace
traced places.Name s t tr = named s (name_text t) tr
traced (places.Passing d) s t tr = if is_close t then passed_trace d tr else tr
traced places.Closing s t tr = record tr { definitions = tr.definitions ++ Gives tr.name tr.sort tr.value ∷ []; value = no_value }
traced other s t tr = drafted other t tr

-- ---- faults

-- the value is of the sort
abbrev pub is_of_sort : text.Sort → Value → Bool
is_of_sort (Words n) (WordIs m v) = (m == n) && nat_lt v (2 ^ n)
is_of_sort (Words n) (ConstantIs sort m v) = false
is_of_sort (Words n) (StoredIs a m i k v) = false
is_of_sort Memories (WordIs m v) = false
is_of_sort Memories (ConstantIs sort m v) = is_done (left_of array_sort sort) && ((m == 8) && nat_lt v 256)
is_of_sort Memories (StoredIs a m i k v) = is_of_sort Memories a && (((m == 32) && nat_lt i (2 ^ 32)) && ((k == 8) && nat_lt v 256))

-- the fault that a token shows, by the place before it and the place and the trace behind it
abbrev pub fault_at : Place → Option Symbol → Place → Trace → Option ModelFault
fault_at places.Name None next tr = None
fault_at places.Name (Some s) next tr = when (is_some (given tr.definitions tr.name)) TwiceFault
fault_at (places.Sort at) s next tr = when (is_value next && not (is_done (left_of (pattern_of tr.symbol) tr.sort))) SortFault
fault_at other s next tr = when (is_closing next && not (is_of_sort (sort_of tr.symbol) tr.value)) SortFault

-- ---- answers

-- where the reading stands: its place, what the tokens said, the line on which the last name, sort or value begins, and the first fault
pub record At : Type 0 where
  pub place : Place
  pub trace : Trace
  pub begun : ℕ
  pub kept : Option Found

abbrev pub start : At
start = record { place = places.Start; trace = empty_trace; begun = 0; kept = None }

-- the symbol that a token names
abbrev pub symbol_at : Known → Place → ModelToken → Option Symbol
symbol_at known places.Name t = known (name_text t)
symbol_at known other t = None

abbrev pub begun_at : Bool → ℕ → ℕ → ℕ
begun_at b line before = if b then line else before

abbrev pub behind : At → Option Symbol → Placed → Place → At
behind s symbol t next = record {
  place = next;
  trace = traced s.place symbol t.token s.trace;
  begun = begun_at (begins s.place) t.line s.begun;
  kept = with_fault (fault_at s.place symbol next (traced s.place symbol t.token s.trace)) (begun_at (begins s.place) t.line s.begun) s.kept;
}

-- behind one more token, if it can stand there
abbrev pub next_at : Known → At → Placed → Option At
next_at known s t =
    option_map (behind s (symbol_at known s.place t.token) t) (next_place (is_some (symbol_at known s.place t.token)) s.place t.token)

-- what is answered: whole definitions, or a fault
pub data Outcome : Type 0 where
  Whole : List Definition → Outcome
  Refused : Found → Outcome

-- the fault of a token that can't stand there
abbrev pub fault_before : Place → ModelFault
fault_before places.Start = AnswerFault
fault_before other = SyntaxFault

abbrev pub refused : At → (line : ℕ) → Outcome
refused s line = Refused (first_fault s.kept (found line (fault_before s.place)))

abbrev pub whole : Option Found → List Definition → Outcome
whole None ds = Whole ds
whole (Some f) ds = Refused f

-- at the end of the text, by the line behind its last
abbrev pub ended : ℕ → At → Place → Outcome
ended last s places.Done = whole s.kept s.trace.definitions
ended last s other = refused s last

abbrev pub moved : Option At → (At → Outcome) → Outcome → Outcome
moved None go stop = stop
moved (Some s) go stop = go s

-- what is answered to tokens
unfoldable pub judged : Known → (last : ℕ) → At → List Placed → Outcome
judged known last s [] = ended last s s.place
judged known last s (t ∷ ts) = moved (next_at known s t) (λ next. judged known last next ts) (refused s t.line)
