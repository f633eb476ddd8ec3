-- The texts of warnings.
use Rattle.std.specs.Prelude.{ℕ, Bool, List, [], ◌∷◌, ◌++◌, codes, if◌then◌else◌}
use Rattle.word_spec.specs.Texts.{number_text, word_text}
use Rattle.note_check.specs.declared.warning.Warning.{Warning}
use Rattle.note_check.specs.declared.warning.Warning.TheVariants.{UnreachedAssert, UnreachedInvariant, UnreachedTargets, UncalledContract, WritableCode, CompressedCode, ThumbFunction, NoSymbols, ConstantRequire, ConstantEnsure}

-- a line with its number, at an address that is not reached
abbrev pub placed_text : (word : List ℕ) → (line at : ℕ) → List ℕ
placed_text word line at = word ++ number_text line ++ codes " at " ++ word_text at ++ codes " is not reached"

-- an address between two texts
abbrev pub about_text : (front : List ℕ) → (at : ℕ) → (back : List ℕ) → List ℕ
about_text front at back = front ++ word_text at ++ back

-- the first and the last address of code that may be written
abbrev pub range_text : (first last : ℕ) → List ℕ
range_text first last = codes "code from " ++ word_text first ++ codes " to " ++ word_text last ++ codes " is writable: a store there is codewrite"

-- a line of constants alone, with its number
abbrev pub constant_text : (word : List ℕ) → (line : ℕ) → List ℕ
constant_text word line = word ++ number_text line ++ codes " says the same of every state"

-- what a warning says
abbrev pub warning_text : Warning → List ℕ
warning_text (UnreachedAssert line at) = placed_text (codes "assert ") line at
warning_text (UnreachedInvariant line at) = placed_text (codes "invariant ") line at
warning_text (UnreachedTargets at) = about_text (codes "targets at ") at (codes " are not reached")
warning_text (UncalledContract at) = about_text (codes "contract at ") at (codes " is not reached")
warning_text (WritableCode first last) = range_text first last
warning_text CompressedCode = codes "the file has compressed code: use --rvc"
warning_text ThumbFunction = codes "the function is Thumb code"
warning_text NoSymbols = codes "the file has no symbols: use entry"
warning_text (ConstantRequire line) = constant_text (codes "require ") line
warning_text (ConstantEnsure line) = constant_text (codes "ensure ") line

-- the warning alone where a test says that it is so
abbrev pub only : Bool → Warning → List Warning
only so w = if so then w ∷ [] else []
