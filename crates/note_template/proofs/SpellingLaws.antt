-- Texts whose forms are spelled, piece by piece.
use Rattle.std.proofs.Common.{◌≡◌, ◌≢◌, ℕ, zero, suc, ◌+◌, ◌<◌, refl, ap, sym, ◌∙◌, arith, Bool, true, false, List, [], ◌∷◌, ◌++◌, Result, Ok, Err, append_assoc, append-nil, length, drop, get_or, get_or-drop}
use Rattle.std.specs.Prelude.{◌==◌}
use Rattle.std.proofs.lemmas.Bool.Decides.{nat_tests}
use Rattle.std.proofs.lemmas.List.{drop-drop}
use Rattle.word_spec.specs.Texts.{word_text}
use Rattle.symbol_table.specs.Symbols.{Symbol}
use Rattle.note_template.specs.Templates.{Fault, Refusal, WrongForm, behind, form_at, is_joining, replaced, spelled}

-- two texts in front
pub behind_two : {E : Type 0} (a b : List ℕ) (r : Result (List ℕ) E) → behind a (behind b r) ≡ behind (a ++ b) r
behind_two a b (Ok text) = ap (λ t. Ok t) (sym (append_assoc a b text))
behind_two a b (Err e) = refl

-- nothing in front
pub behind_none : {E : Type 0} (r : Result (List ℕ) E) → behind [] r ≡ r
behind_none (Ok text) = refl
behind_none (Err e) = refl

-- nothing is left
pub behind_end : {E : Type 0} (a : List ℕ) → behind {E = E} a (Ok []) ≡ Ok a
behind_end a = ap (λ t. Ok t) (append-nil a)

module _ (table : List Symbol) where
  -- bytes of a form are passed over
  pub skipped : (joined : Bool) (n column : ℕ) (text : List ℕ) →
      spelled table joined n column text ≡ spelled table joined 0 (column + n) (drop n text)
  skipped joined zero column [] = refl
  skipped joined zero column (b ∷ text) = let same : column ≡ column + 0 = omega arith in ap (λ k. spelled table joined 0 k (b ∷ text)) same
  skipped joined (suc n) column [] = refl
  skipped joined (suc n) column (b ∷ text) =
      let same : column + 1 + n ≡ column + suc n = omega arith in
      skipped joined n (column + 1) text ∙ ap (λ k. spelled table joined 0 k (drop n text)) same

  -- a form is first
  pub form_first : (joined : Bool) (column : ℕ) (text : List ℕ) → 0 < length text → get_or text 0 0 ≡ 64 →
      spelled table joined 0 column text ≡ replaced table joined column (form_at (drop 1 text)) (λ skip. spelled table true skip (column + 1) (drop 1 text))
  form_first joined column [] some e = absurd (omega arith)
  form_first joined column (b ∷ text) some e =
      let t : (b == 64) ≡ true = grind (arith, nat_tests, e) in
      rw t

  -- another byte is first
  pub byte_first : (joined : Bool) (column : ℕ) (text : List ℕ) → 0 < length text → get_or text 0 0 ≢ 64 →
      spelled table joined 0 column text ≡ behind (get_or text 0 0 ∷ []) (spelled table (is_joining (get_or text 0 0)) 0 (column + 1) (drop 1 text))
  byte_first joined column [] some other = absurd (omega arith)
  byte_first joined column (b ∷ text) some other =
      let t : (b == 64) ≡ false = grind (arith, nat_tests, other) in
      rw t

  -- a form was appended
  pub form_pushed : (column count number : ℕ) (before after text : List ℕ) → 0 < length text → get_or text 0 0 ≡ 64 →
      ((rest : ℕ → Result (List ℕ) Fault) → replaced table false column (form_at (drop 1 text)) rest ≡ behind (word_text number) (rest count)) →
      after ≡ before ++ word_text number →
      behind before (spelled table false 0 column text) ≡ behind after (spelled table true 0 (column + (count + 1)) (drop (count + 1) text))
  form_pushed column count number before after [] some e form push = absurd (omega arith)
  form_pushed column count number before after (b ∷ text) some e form push =
      let place : column + 1 + count ≡ column + (count + 1) = omega arith in
      let left : suc count ≡ count + 1 = omega arith in
      ap (behind before) (form_first false column (b ∷ text) some e ∙ form (λ skip. spelled table true skip (column + 1) text))
      ∙ behind_two before (word_text number) (spelled table true count (column + 1) text)
      ∙ ap (λ t. behind t (spelled table true count (column + 1) text)) (sym push)
      ∙ ap (behind after) (skipped true count (column + 1) text ∙ ap (λ k. spelled table true 0 k (drop count text)) place
      ∙ ap (λ k. spelled table true 0 (column + (count + 1)) (drop k (b ∷ text))) left)

  -- a byte was appended
  pub byte_pushed : (joined : Bool) (column : ℕ) (before after text : List ℕ) → 0 < length text → get_or text 0 0 ≢ 64 → after ≡ before ++ get_or text 0 0 ∷ [] →
      behind before (spelled table joined 0 column text) ≡ behind after (spelled table (is_joining (get_or text 0 0)) 0 (column + 1) (drop 1 text))
  byte_pushed joined column before after text some other push =
      ap (behind before) (byte_first joined column text some other)
      ∙ behind_two before (get_or text 0 0 ∷ []) (spelled table (is_joining (get_or text 0 0)) 0 (column + 1) (drop 1 text))
      ∙ ap (λ t. behind t (spelled table (is_joining (get_or text 0 0)) 0 (column + 1) (drop 1 text))) (sym push)

  -- where no form may begin
  pub joined_refused : (joined : Bool) (column : ℕ) (text : List ℕ) → 0 < length text → get_or text 0 0 ≡ 64 → joined ≡ true →
      spelled table joined 0 column text ≡ Err (record { column = column; refusal = WrongForm })
  joined_refused joined column text some e touches =
      form_first joined column text some e
      ∙ ap (λ j. replaced table j column (form_at (drop 1 text)) (λ skip. spelled table true skip (column + 1) (drop 1 text))) touches

  -- a form that has no number
  pub form_refused : (joined : Bool) (column : ℕ) (text behind_sign : List ℕ) (r : Refusal) → 0 < length text → get_or text 0 0 ≡ 64 → joined ≡ false →
      behind_sign ≡ drop 1 text →
      ((rest : ℕ → Result (List ℕ) Fault) → replaced table false column (form_at behind_sign) rest ≡ Err (record { column = column; refusal = r })) →
      spelled table joined 0 column text ≡ Err (record { column = column; refusal = r })
  form_refused joined column text behind_sign r some e stands same refused =
      form_first joined column text some e
      ∙ ap (λ j. replaced table j column (form_at (drop 1 text)) (λ skip. spelled table true skip (column + 1) (drop 1 text))) stands
      ∙ ap (λ t. replaced table false column (form_at t) (λ skip. spelled table true skip (column + 1) (drop 1 text))) (sym same)
      ∙ refused (λ skip. spelled table true skip (column + 1) (drop 1 text))

  -- a form was appended, by what stands behind its sign
  pub number_pushed : (joined : Bool) (column count number : ℕ) (before after text behind_sign : List ℕ) → 0 < length text → get_or text 0 0 ≡ 64 →
      joined ≡ false → behind_sign ≡ drop 1 text →
      ((rest : ℕ → Result (List ℕ) Fault) → replaced table false column (form_at behind_sign) rest ≡ behind (word_text number) (rest count)) →
      after ≡ before ++ word_text number →
      behind before (spelled table joined 0 column text) ≡ behind after (spelled table true 0 (column + (count + 1)) (drop (count + 1) text))
  number_pushed joined column count number before after text behind_sign some e stands same form push =
      ap (λ j. behind before (spelled table j 0 column text)) stands
      ∙ form_pushed column count number before after text some e
      (λ rest. ap (λ t. replaced table false column (form_at t) rest) (sym same) ∙ form rest) push

  -- a piece was appended, in the midst of a text
  pub next_pushed : (before after : List ℕ) (joined : Bool) (at count : ℕ) (text left : List ℕ) (start : Result (List ℕ) Fault) → at < length text →
      left ≡ drop at text →
      start ≡ behind before (spelled table joined 0 (at + 1) (drop at text)) →
      behind before (spelled table joined 0 (at + 1) left) ≡ behind after (spelled table (is_joining (get_or left 0 0)) 0 (at + 1 + count) (drop count left)) →
      start ≡ behind after (spelled table (is_joining (get_or text at 0)) 0 (at + count + 1) (drop (at + count) text))
  next_pushed before after joined at count text left start within same told pushed =
      let place : at + 1 + count ≡ at + count + 1 = omega arith in
      let first : at + 0 ≡ at = omega arith in
      let byte : get_or left 0 0 ≡ get_or text at 0 = ap (λ l. get_or l 0 0) same ∙ get_or-drop at text 0 0 ∙ ap (λ k. get_or text k 0) first in
      let gone : drop count left ≡ drop (at + count) text = ap (drop count) same ∙ drop-drop count at text in
      told ∙ ap (λ l. behind before (spelled table joined 0 (at + 1) l)) (sym same) ∙ pushed
      ∙ ap (λ k. behind after (spelled table (is_joining (get_or left 0 0)) 0 k (drop count left))) place
      ∙ ap (λ b. behind after (spelled table (is_joining b) 0 (at + count + 1) (drop count left))) byte
      ∙ ap (λ l. behind after (spelled table (is_joining (get_or text at 0)) 0 (at + count + 1) l)) gone

-- behind a form no form may begin
pub joining_form : (b : ℕ) → b ≡ 64 → true ≡ is_joining b
joining_form b e = let t : (b == 64) ≡ true = grind (arith, nat_tests, e) in sym (rw t)
