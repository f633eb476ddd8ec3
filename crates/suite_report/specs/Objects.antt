-- The line of a check as a JSON object (RFC 8259).
use Rattle.std.specs.Prelude.{ℕ, ◌/◌, ◌%◌, ◌==◌, nat_eq, nat_lt, Bool, true, false, List, [], ◌∷◌, ◌++◌, codes, drop, if◌then◌else◌}
use Rattle.std.specs.List.{list_all, starts_with}
use Rattle.word_spec.specs.Texts.{blank, hex_digit, line, number_text}
use Rattle.word_spec.specs.Tokens.{is_digit}
use Rattle.note_check.specs.Warnings.{warning_text}
use Rattle.note_check.specs.declared.warning.Warning.{Warning}
use Rattle.suite_report.specs.Reports.{Told, begins_with, first_line, is_expected}

-- a byte of a string: a quotation mark, a backslash and a control character are escaped
abbrev pub json_byte : ℕ → List ℕ
json_byte b =
    if b == 34 then codes "\\\"" else if b == 92 then codes "\\\\"
    else if nat_lt b 32 then codes "\\u00" ++ hex_digit (b / 16) ∷ hex_digit (b % 16) ∷ [] else b ∷ []

abbrev pub json_bytes : List ℕ → List ℕ
json_bytes [] = []
json_bytes (b ∷ bs) = json_byte b ++ json_bytes bs

-- a string
abbrev pub json_text : List ℕ → List ℕ
json_text text = codes "\"" ++ json_bytes text ++ codes "\""

-- the word in front of a text, and what stands behind the blank that ends it
abbrev pub first_word : List ℕ → List ℕ
first_word [] = []
first_word (b ∷ bs) = if b == blank then [] else b ∷ first_word bs

abbrev pub behind_word : List ℕ → List ℕ
behind_word [] = []
behind_word (b ∷ bs) = if b == blank then bs else behind_word bs

-- the word behind the first ` at `, or none
abbrev pub place_word : List ℕ → List ℕ
place_word [] = []
place_word (b ∷ bs) = if starts_with nat_eq (b ∷ bs) (codes " at ") then first_word (drop 4 (b ∷ bs)) else place_word bs

-- where a report says that a function fails, its event, and the number of the line that is false
abbrev pub event_word : List ℕ → List ℕ
event_word report = if begins_with (codes "fails") report then first_word (behind_word report) else []

abbrev pub line_word : List ℕ → List ℕ
line_word report = if begins_with (codes "fails") report then first_word (behind_word (behind_word report)) else []

-- a word as a string, and one of digits as a number; or null
abbrev pub word_or_null : List ℕ → List ℕ
word_or_null [] = codes "null"
word_or_null (b ∷ bs) = json_text (b ∷ bs)

abbrev pub number_or_null : List ℕ → List ℕ
number_or_null [] = codes "null"
number_or_null (b ∷ bs) = if list_all is_digit (b ∷ bs) then b ∷ bs else codes "null"

abbrev pub truth_text : Bool → List ℕ
truth_text true = codes "true"
truth_text false = codes "false"

-- warnings as strings, each behind a comma but the first
abbrev pub json_more : List Warning → List ℕ
json_more [] = []
json_more (w ∷ ws) = codes "," ++ json_text (warning_text w) ++ json_more ws

abbrev pub json_warnings : List Warning → List ℕ
json_warnings [] = []
json_warnings (w ∷ ws) = json_text (warning_text w) ++ json_more ws

-- what the first line of a report says: its verdict and event, its place, and all of it
abbrev pub json_verdict : List ℕ → List ℕ
json_verdict report = codes ",\"verdict\":" ++ word_or_null (first_word report) ++ codes ",\"event\":" ++ word_or_null (event_word report)

abbrev pub json_place : List ℕ → List ℕ
json_place report = codes ",\"line\":" ++ number_or_null (line_word report) ++ codes ",\"address\":" ++ word_or_null (place_word report)

abbrev pub json_report : List ℕ → List ℕ
json_report report = json_verdict report ++ json_place report ++ codes ",\"report\":" ++ json_text report

-- the name of a check, what is expected of it, and whether it came to that with which status
abbrev pub json_head : Told → List ℕ
json_head t =
    codes "{\"name\":" ++ json_text t.name ++ codes ",\"expect\":" ++ json_text t.expect ++ codes ",\"ok\":" ++ truth_text (is_expected t)
    ++ codes ",\"status\":" ++ number_text t.status

-- the line of a check
abbrev pub json_line : Told → List ℕ
json_line t = json_head t ++ json_report (first_line t.report) ++ codes ",\"warnings\":[" ++ json_warnings t.warnings ++ line (codes "]}")
