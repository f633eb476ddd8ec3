-- Tokens of answers, and the form of one, by computation and by hand.
use Rattle.std.proofs.Common.{◌≡◌, ℕ, refl, List, [], ◌∷◌, ◌++◌, arith}
use Rattle.std.specs.Prelude.{codes}
use Rattle.model_spec.specs.ModelText.{ModelToken, Open, Close, Word, Quoted, Text, Bad, Placed, at_line, placed_tokens, words, word_sort, bare, in_brackets}
use Rattle.model_spec.specs.Models.{byte_of}
use Rattle.model_spec.specs.ModelText as text

tokens : placed_tokens (codes "sat" ++ 10 ∷ codes "(|x1|;a (comment" ++ 10 ∷ codes "#b1)") ≡
    at_line 1 (Word (codes "sat")) ∷ at_line 2 Open ∷ at_line 2 (Quoted (codes "x1")) ∷ at_line 3 (Word (codes "#b1")) ∷ at_line 3 Close ∷ []
unfolding placed_tokens
tokens = refl

-- a quoted symbol and a string may go over lines, and begin where they begin; one without its end is bad
over_lines : placed_tokens (codes "|a" ++ 10 ∷ codes "(| " ++ 34 ∷ codes "b" ++ 34 ∷ 34 ∷ 10 ∷ codes "(" ++ 34 ∷ codes " |") ≡
    at_line 1 (Quoted (codes "a" ++ 10 ∷ codes "(")) ∷ at_line 2 Text ∷ at_line 3 Bad ∷ []
unfolding placed_tokens
over_lines = refl

-- one definition, of a symbol that is declared
abbrev declared : List (List ℕ)
declared = codes "c0" ∷ []

abbrev three : List ModelToken
three = Word (codes "#b11") ∷ []

abbrev definition : List ModelToken
definition = text.begins_definition (Word (codes "c0")) ++ Open ∷ Close ∷ text.word_sort (codes "2") ++ three ++ Close ∷ []

is_three : text.IsWord three 2 3
is_three = text.IsWord.binary 49 (49 ∷ []) refl

sort_2 : text.IsSortForm (text.word_sort (codes "2"))
sort_2 = text.IsSortForm.indexed (Word (codes "BitVec")) (Word (codes "2")) (codes "BitVec") [] (text.IsName.plain (codes "BitVec") refl)
    (text.IsIndex.by_number (codes "2") 2 refl) (λ i d l. absurd (omega arith))

is_definition : text.IsDefinition declared definition (text.Gives (codes "c0") (text.word_sort (codes "2")) (text.WordIs 2 3))
is_definition = text.IsDefinition.gives {t = Word (codes "c0")} {w = codes "c0"} {sort = text.word_sort (codes "2")} {ts = three}
    (text.IsName.plain (codes "c0") refl) (0, omega arith, refl) sort_2 (text.IsValue.word is_three)

-- an answer with it
answer_tokens : bare (placed_tokens (codes "sat ((define-fun c0 () (_ BitVec 2) #b11))")) ≡
    (Word (codes "sat") ∷ Open ∷ []) ++ (definition ++ []) ++ Close ∷ []
unfolding placed_tokens
answer_tokens = refl

is_answer : text.HasForm declared ((Word (codes "sat") ∷ Open ∷ []) ++ (definition ++ []) ++ Close ∷ [])
    (text.Gives (codes "c0") (text.word_sort (codes "2")) (text.WordIs 2 3) ∷ [])
is_answer = text.HasForm.whole {head = Word (codes "sat") ∷ Open ∷ []} {ts = definition ++ []} text.IsHead.plain
    (text.AreDefinitions.some {ts = definition} {us = []} is_definition text.AreDefinitions.none)

-- a number is no name, and a word that is changed is a value of no sort
no_name : text.IsName (Word (codes "5")) (codes "5") → ⊥
no_name (text.IsName.plain w h) = cc

no_array : text.IsOfSort text.Memories (text.StoredIs (text.WordIs 8 0) 32 0x10000 8 0) → ⊥
no_array h = h.0

-- the last store of an address counts, and the constant elsewhere
stores : byte_of (text.StoredIs (text.StoredIs (text.ConstantIs [] 8 7) 32 5 8 1) 32 5 8 2) 5 ≡ 2
stores = refl

elsewhere : byte_of (text.StoredIs (text.ConstantIs [] 8 7) 32 5 8 1) 6 ≡ 7
elsewhere = refl
