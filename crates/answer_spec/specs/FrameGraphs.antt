-- The flow graph of notes with contracts: it has the address of each contract beside that of the entry, and keeps the flags that a contract step reads, and the
-- exit of a contract's frame.
use Rattle.std.specs.Prelude.{ℕ, ◌≡◌, ◌≢◌, ◌<◌, ◌||◌, Bool, true, false, ◌↔◌, List, Contains, length, slice_index}
use Rattle.std.specs.List.{flat_map}
use Rattle.bilv_spec.specs.Points.{file_row}
use Rattle.bilv_spec.specs.Graph.{ReturnLetter, Successor, successor, successors_at, may_return}
use Rattle.bilv_spec.specs.GraphText.{graph_line}
use Rattle.bilv_spec.specs.LiveFlags.{reads_by, assigns_by, surely_by, asserts_flag, ensures_flag}
use Rattle.frame_spec.specs.Frames.{Contract, contract_at}
use Rattle.frame_spec.specs.FrameUnrolling.{contract_reads, exit_reads}
use Rattle.frame_spec.specs.FrameVerdict.{Whole}

-- the addresses of the graph: the entry, that of each contract, and each successor that is listed
pub data IsAddress (w : Whole) : ℕ → Type 0 where
  entry : IsAddress w w.program.entry
  contract : (x : Contract) → Contains w.contracts x → IsAddress w x.at
  listed : {a : ℕ} {x : Successor} → IsAddress w a → Contains (successors_at w.program a) x → IsAddress w x.to

-- a static path goes along next addresses, jumps and calls; a return goes to every address after a call
pub data LeadsTo (w : Whole) (a b : ℕ) : Type 0 where
  along : (x : Successor) → Contains (successors_at w.program a) x → x.letter ≢ ReturnLetter → x.to ≡ b → LeadsTo w a b
  back : {c : ℕ} → may_return w.program a ≡ true → IsAddress w c → Contains (successors_at w.program c) (successor ReturnLetter b) → LeadsTo w a b

mutual
  -- the flag is read from an address on before it is surely assigned; a contract step reads it on every path to its address
  pub data IsRead (w : Whole) (f : ℕ) : ℕ → Type 0 where
    by_assert : {a : ℕ} → asserts_flag w.program f a ≡ true → IsRead w f a
    by_row : {a : ℕ} → reads_by f (file_row w.program a) ≡ true → IsRead w f a
    by_contract : {a : ℕ} → contract_reads f (contract_at w.contracts a) ≡ true → IsRead w f a
    later : {a : ℕ} → surely_by f (file_row w.program a) ≡ false → IsReadAfter w f a → IsRead w f a

  -- the flag is read after the row at an address, before it is surely assigned again; each exit may be that of any frame
  pub data IsReadAfter (w : Whole) (f : ℕ) : ℕ → Type 0 where
    on_path : {a b : ℕ} → LeadsTo w a b → IsRead w f b → IsReadAfter w f a
    at_exit : {a : ℕ} → may_return w.program a ≡ true → (ensures_flag w.program f || exit_reads f w.contracts) ≡ true → IsReadAfter w f a

-- the assignment of a flag at an address is live: some static path reads the flag before it is assigned again
pub record IsLive (w : Whole) (f a : ℕ) : Type 0 where
  pub assigns : assigns_by f (file_row w.program a) ≡ true
  pub read : IsReadAfter w f a

-- the text of the graph: a line for each address, in rising order, with the flags whose assignment there is live
pub record IsFrameGraphText (w : Whole) (text : List ℕ) : Type 0 where
  pub addresses : List ℕ
  pub keeps : ℕ → ℕ → Bool
  pub all : (a : ℕ) → Contains addresses a ↔ IsAddress w a
  pub rising : (i j : ℕ) → i < j → j < length addresses → slice_index addresses i < slice_index addresses j
  pub live : (a f : ℕ) → IsAddress w a → f < 4 → (keeps a f ≡ true) ↔ IsLive w f a
  pub text_is : text ≡ flat_map (λ a. graph_line w.program a (keeps a)) addresses
