-- What stands where contract steps are made.
use Rattle.std.specs.Prelude.{ℕ, ◌≡◌, ◌<◌, ◌^◌, ◌++◌, List, length, map, slice_index_or, sum_by}
use Rattle.machine_spec.specs.Bil.{Bank}
use Rattle.bilv_spec.specs.Run.{Program}
use Rattle.frame_spec.specs.Frames as frames
use Rattle.notes_value.specs.declared.notes.Contract.{Contract}
use Rattle.question_form.specs.declared.unrolled.Code.{Code}
use Rattle.notes_value.specs.FrameViews.{contract_of}
use Rattle.question_form.specs.FrameViews.{no_contract}
use Rattle.unroller.specs.Keys.{place_in}
use Rattle.unroller.specs.Places.{AreCodes, step_code}

-- the bytes that a contract may write can be counted by a number of 64 bits
abbrev pub WritesFew : Contract → Type 0
WritesFew x = sum_by (λ w. w.count) (contract_of x).writes < 2 ^ 64

-- the contract of a number
abbrev pub contract_by : List Contract → ℕ → frames.Contract
contract_by contracts n = slice_index_or (map contract_of contracts) n no_contract

-- the codes of contract steps at addresses, by the contracts that are stepped over and their addresses
abbrev pub step_codes : List Contract → (stepped steps : List ℕ) → List Code
step_codes contracts stepped steps = map (λ a. step_code (contract_by contracts (place_in stepped a))) steps

-- The codes are those of the addresses of rows, and behind them those of contract steps.
pub record AreAllCodes (p : Program) (bank : Bank) (noted : List frames.Contract) (contracts : List Contract) (stepped rows steps : List ℕ) (asserts : List (ℕ × ℕ))
    (codes : List Code) : Type 0 where
  pub of_rows : List Code
  pub are : AreCodes p bank noted rows asserts (length rows) of_rows
  pub is : codes ≡ of_rows ++ step_codes contracts stepped steps
