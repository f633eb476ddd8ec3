-- What was read of a file.
use Rattle.std.specs.Prelude.{ℕ, ◌≤◌, length}
use Rattle.call_spec.specs.Outside.{Held, Agrees, IsLonger, Rose}
use Rattle.bilv_top.specs.declared.reading.FileRead.{FileRead}
use Rattle.bilv_top.specs.declared.reading.FileRead.TheVariants.{Bytes, TooLarge, Failed}

-- Of a name and a limit, by the counts of the name's faults before and after: bytes that agree with what is told of the name, within the limit; that there are
-- more; that a read failed.
abbrev pub IsFileRead : Held → (limit before after : ℕ) → FileRead → Type 0
IsFileRead held limit before after (Bytes v) = Agrees held v.items × (length v.items ≤ limit)
IsFileRead held limit before after TooLarge = IsLonger held limit
IsFileRead held limit before after Failed = Rose before after
