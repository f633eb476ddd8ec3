-- What sinks have, and their counts.
use Rattle.std.specs.Prelude.{ℕ, ◌-◌, min, List, length}
use Rattle.io_edges.specs.declared.mem_sink.MemSink.{MemSink}
use Rattle.io_edges.specs.declared.system.OutSink.{OutSink}

-- all that was written
abbrev pub text_in : MemSink → List ℕ
text_in s = s.text.items

-- the most bytes that the text may have
abbrev pub room_of : MemSink → ℕ
room_of s = s.room

-- the most bytes that a write takes
abbrev pub most_of : MemSink → ℕ
most_of s = s.most

-- how many bytes of a piece the sink takes, where the write does not fail
abbrev pub taken_of : MemSink → List ℕ → ℕ
taken_of s piece = min (min (length piece) (most_of s)) (room_of s - length (text_in s))

-- the numbers of the writes that fail
abbrev pub failing_writes : MemSink → List ℕ
failing_writes s = s.failing.items

-- how many writes were made, which is the next one's number
abbrev pub writes_made : MemSink → ℕ
writes_made s = s.calls

-- how many writes failed, or took nothing of a piece
abbrev pub write_faults : MemSink → ℕ
write_faults s = s.faults

-- how many writes failed
abbrev pub write_errors : MemSink → ℕ
write_errors s = s.errors

-- the writer that a sink passes its pieces to
abbrev pub writer_of : {W : Type 0} → OutSink W → W
writer_of s = s.to

-- how many writes to a writer failed, or took nothing of a piece
abbrev pub out_faults : {W : Type 0} → OutSink W → ℕ
out_faults s = s.faults

-- how many writes to a writer failed
abbrev pub out_errors : {W : Type 0} → OutSink W → ℕ
out_errors s = s.errors
