-- The words that begin lines, as definitions see them.
use Rattle.std.specs.Prelude.{ℕ, Bool, true, ◌&&◌, List, codes, Contains}
use Rattle.notes_spec.specs.NotesFaults.{line_words}
use Rattle.word_spec.specs.Tokens.{Token, NumberToken, NameToken, SignToken, BadByte, BadText}
use Rattle.notes_lang.specs.declared.line_words.FrameWord.{FrameWord}
use Rattle.notes_lang.specs.declared.line_words.FrameWord.TheVariants as frame
use Rattle.notes_lang.specs.declared.line_words.LineWord.{LineWord}
use Rattle.notes_lang.specs.declared.line_words.LineWord.TheVariants as word

-- the text of a word that begins lines of invariants and contracts
abbrev pub frame_word_text : FrameWord → List ℕ
frame_word_text frame.Invariant = codes "invariant"
frame_word_text frame.Needs = codes "needs"
frame_word_text frame.Gives = codes "gives"
frame_word_text frame.Modifies = codes "modifies"
frame_word_text frame.Writes = codes "writes"

-- the text of a word that begins lines
abbrev pub word_text : LineWord → List ℕ
word_text word.Entry = codes "entry"
word_text word.Function = codes "function"
word_text word.Require = codes "require"
word_text word.Ensure = codes "ensure"
word_text word.Assert = codes "assert"
word_text word.Targets = codes "targets"
word_text word.Fixed = codes "fixed"
word_text word.Notes = codes "notes"
word_text word.Const = codes "const"
word_text word.Loaded = codes "loaded"
word_text (word.Frame w) = frame_word_text w

-- a token begins lines of some text
abbrev pub IsSomeWord : Token → Type 0
IsSomeWord (NameToken w) = Contains (line_words true true) w
IsSomeWord (NumberToken n) = ⊥
IsSomeWord (SignToken w) = ⊥
IsSomeWord BadByte = ⊥
IsSomeWord BadText = ⊥

-- the word begins lines of a text of this version, where lines of invariants and contracts are read or are not
abbrev pub begins_lines : (is_second framed : Bool) → LineWord → Bool
begins_lines is_second framed word.Const = is_second
begins_lines is_second framed word.Loaded = is_second
begins_lines is_second framed (word.Frame w) = is_second && framed
begins_lines is_second framed _ = true
