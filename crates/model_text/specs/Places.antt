-- Where the reading of an answer stands, token by token.
use Rattle.std.specs.Prelude.{ℕ, zero, suc, ◌+◌, ◌==◌, ◌&&◌, not, max, Bool, true, false, if◌then◌else◌, Option, Some, None, is_some, codes}
use Rattle.std.specs.Option.{option_map}
use Rattle.model_spec.specs.ModelText.{ModelToken}
use Rattle.model_text.specs.declared.sort_place.SortPlace.{SortPlace}
use Rattle.model_text.specs.declared.sort_place.SortPlace.TheVariants as sorts
use Rattle.model_text.specs.declared.bits.BitsPlace.{BitsPlace}
use Rattle.model_text.specs.declared.bits.BitsPlace.TheVariants as bits
use Rattle.model_text.specs.declared.place.Role.{Role}
use Rattle.model_text.specs.declared.place.Role.TheVariants.{Base, Fill, Index, Byte}
use Rattle.model_text.specs.declared.place.Place.{Place}
use Rattle.model_text.specs.declared.place.Place.TheVariants.{Start, Sat, List, Begun, Name, Passing, Arguments, NoArguments, Sort, Value, Opened, As, Const, ConstSort, ConstClose, Bits, FillClose, StoreClose, Closing, Done}
use Rattle.model_text.specs.Bits.{literal, bits_next}
use Rattle.model_text.specs.Sorts.{sort_next, sort_depth}
use Rattle.model_text.specs.Tokens.{is_open, is_close, is_bad, is_name, is_the_word, when}

-- behind the closing bracket of something that is passed over
abbrev pub passed : ℕ → Place
passed zero = List false
passed (suc d) = Passing d

-- behind a whole value
abbrev pub after_value : ℕ → Place
after_value zero = Closing
after_value (suc o) = Bits Index o bits.Wanted

-- behind a whole word of bits
abbrev pub after_bits : Role → ℕ → Place
after_bits Base d = after_value d
after_bits Fill d = FillClose d
after_bits Index d = Bits Byte d bits.Wanted
after_bits Byte d = StoreClose d

abbrev pub sort_then : SortPlace → Place
sort_then sorts.Whole = Value 0
sort_then (sorts.Wanted d) = Sort (sorts.Wanted d)
sort_then (sorts.Opened d) = Sort (sorts.Opened d)
sort_then (sorts.HeadOpened d) = Sort (sorts.HeadOpened d)
sort_then (sorts.Name head d) = Sort (sorts.Name head d)
sort_then (sorts.FirstIndex head d) = Sort (sorts.FirstIndex head d)
sort_then (sorts.Indices head d) = Sort (sorts.Indices head d)
sort_then (sorts.More o) = Sort (sorts.More o)

abbrev pub const_then : ℕ → SortPlace → Place
const_then n sorts.Whole = ConstClose n
const_then n (sorts.Wanted d) = ConstSort n (sorts.Wanted d)
const_then n (sorts.Opened d) = ConstSort n (sorts.Opened d)
const_then n (sorts.HeadOpened d) = ConstSort n (sorts.HeadOpened d)
const_then n (sorts.Name head d) = ConstSort n (sorts.Name head d)
const_then n (sorts.FirstIndex head d) = ConstSort n (sorts.FirstIndex head d)
const_then n (sorts.Indices head d) = ConstSort n (sorts.Indices head d)
const_then n (sorts.More o) = ConstSort n (sorts.More o)

abbrev pub bits_then : Role → ℕ → BitsPlace → Place
bits_then role d bits.Whole = after_bits role d
bits_then role d bits.Wanted = Bits role d bits.Wanted
bits_then role d bits.Opened = Bits role d bits.Opened
bits_then role d bits.Number = Bits role d bits.Number
bits_then role d bits.Width = Bits role d bits.Width
bits_then role d bits.Close = Bits role d bits.Close

-- where the reading stands behind one more token outside of sorts and values
abbrev pub next_outside : (known : Bool) → Place → ModelToken → Option Place
next_outside known Start t = when (is_the_word (codes "sat") t) Sat
next_outside known Sat t = when (is_open t) (List true)
next_outside known (List first) t =
    if is_open t then Some Begun else if is_close t then Some Done else when (first && is_the_word (codes "model") t) (List false)
next_outside known Begun t = when (is_the_word (codes "define-fun") t) Name
next_outside known Name t = when (is_name t) (if known then Arguments else Passing 0)
next_outside known (Passing d) t =
    if is_open t then Some (Passing (d + 1)) else if is_close t then Some (passed d) else when (not (is_bad t)) (Passing d)
next_outside known Arguments t = when (is_open t) NoArguments
next_outside known NoArguments t = when (is_close t) (Sort (sorts.Wanted 0))
next_outside known Closing t = when (is_close t) (List false)
next_outside known other t = None

-- and within them
abbrev pub next_inside : Place → ModelToken → Option Place
next_inside (Sort at) t = option_map sort_then (sort_next at t)
next_inside (Value d) t = if is_open t then Some (Opened d) else when (is_some (literal t)) (after_value d)
next_inside (Opened d) t =
    if is_open t then Some (As d) else if is_the_word (codes "_") t then Some (Bits Base d bits.Number) else when (is_the_word (codes "store") t) (Value (d + 1))
next_inside (As d) t = when (is_the_word (codes "as") t) (Const d)
next_inside (Const d) t = when (is_the_word (codes "const") t) (ConstSort d (sorts.Wanted 0))
next_inside (ConstSort d at) t = option_map (const_then d) (sort_next at t)
next_inside (ConstClose d) t = when (is_close t) (Bits Fill d bits.Wanted)
next_inside (Bits role d at) t = option_map (bits_then role d) (bits_next at t)
next_inside (FillClose d) t = when (is_close t) (after_value d)
next_inside (StoreClose d) t = when (is_close t) (after_value d)
next_inside other t = None

-- and behind any token
abbrev pub next_place : (known : Bool) → Place → ModelToken → Option Place
next_place known (Sort at) t = next_inside (Sort at) t
next_place known (Value d) t = next_inside (Value d) t
next_place known (Opened d) t = next_inside (Opened d) t
next_place known (As d) t = next_inside (As d) t
next_place known (Const d) t = next_inside (Const d) t
next_place known (ConstSort d at) t = next_inside (ConstSort d at) t
next_place known (ConstClose d) t = next_inside (ConstClose d) t
next_place known (Bits role d at) t = next_inside (Bits role d at) t
next_place known (FillClose d) t = next_inside (FillClose d) t
next_place known (StoreClose d) t = next_inside (StoreClose d) t
next_place known other t = next_outside known other t

-- a definition's name, its sort or its value begins here
abbrev pub begins : Place → Bool
begins Name = true
begins (Sort (sorts.Wanted d)) = d == 0
begins (Value d) = d == 0
begins other = false

abbrev pub is_closing : Place → Bool
is_closing Closing = true
is_closing other = false

-- how many brackets are counted
abbrev pub place_depth : Place → ℕ
place_depth (Passing d) = d
place_depth (Sort at) = sort_depth at
place_depth (Value d) = d
place_depth (Opened d) = d
place_depth (As d) = d
place_depth (Const d) = d
place_depth (ConstSort d at) = max d (sort_depth at)
place_depth (ConstClose d) = d
place_depth (Bits role d at) = d
place_depth (FillClose d) = d
place_depth (StoreClose d) = d
place_depth other = 0

-- before a value
abbrev pub is_value : Place → Bool
is_value (Value d) = true
is_value other = false
