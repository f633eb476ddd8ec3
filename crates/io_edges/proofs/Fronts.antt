-- Fronts of files and of texts, piece by piece.
use Rattle.std.proofs.Common.{◌≡◌, ℕ, ◌+◌, ◌-◌, ◌≤◌, ◌<◌, List, [], ◌++◌, Option, Some, None, length, take, drop, refl, ap, sym, ◌∙◌, arith, append_assoc, subst}
use Rattle.std.proofs.Math.Seq.{take-add}
use Rattle.std.proofs.lemmas.Grind.{common_steps}
use Rattle.call_spec.specs.Outside.{Held, Untold, Absent, Bytes, Agrees, IsLonger, Reads, Appends}

-- the bytes read so far are the front of the file, as far as it is told; of a file that is absent none was read
abbrev pub IsFront : Held → List ℕ → Type 0
IsFront Untold bytes = Unit {0}
IsFront Absent bytes = length bytes ≡ 0
IsFront (Bytes file) bytes = (length bytes ≤ length file) × (bytes ≡ take (length bytes) file)

pub front_start : (held : Held) → IsFront held []
front_start Untold = tt
front_start Absent = refl
front_start (Bytes file) = (omega arith, grind (arith, common_steps))

pub front_more : (held : Held) (bytes piece : List ℕ) (n : ℕ) → n ≤ length piece → IsFront held bytes →
    Reads held (length bytes) piece n → IsFront held (bytes ++ take n piece)
front_more Untold bytes piece n within front reads = tt
front_more Absent bytes piece n within front reads = absurd reads
front_more (Bytes file) bytes piece n within front reads =
    let inside : n ≤ length file - length bytes = reads.1 in
    let long : length (bytes ++ take n piece) ≡ length bytes + n = grind (arith, common_steps) in (
      omega arith,
      ap (λ xs. bytes ++ xs) reads.0 ∙ ap (λ xs. xs ++ take n (drop (length bytes) file)) front.1
          ∙ sym (take-add (length bytes) n file) ∙ ap (λ k. take k file) (sym long),
    )

pub front_whole : (held : Held) (bytes piece : List ℕ) (n : ℕ) → n ≡ 0 → 0 < length piece → IsFront held bytes → Reads held (length bytes) piece n →
    Agrees held bytes
front_whole Untold bytes piece n none some front reads = tt
front_whole Absent bytes piece n none some front reads = absurd reads
front_whole (Bytes file) bytes piece n none some front reads = let ended : length file ≤ length bytes = reads.2 none some in grind (arith, common_steps)

pub front_longer : (held : Held) (bytes : List ℕ) (limit : ℕ) → IsFront held bytes → limit < length bytes → IsLonger held limit
front_longer Untold bytes limit front over = (bytes, tt, over)
front_longer Absent bytes limit front over = absurd (omega arith)
front_longer (Bytes file) bytes limit front over = (file, refl, omega arith)

-- a piece more is longer than the limit
pub front_over : (held : Held) (bytes piece : List ℕ) (n limit : ℕ) → n ≤ length piece → length bytes ≤ limit → limit - length bytes < n → IsFront held bytes
    → Reads held (length bytes) piece n → IsLonger held limit
front_over held bytes piece n limit within fits over front reads =
    let long : length (bytes ++ take n piece) ≡ length bytes + n = grind (arith, common_steps) in
    front_longer held (bytes ++ take n piece) limit (front_more held bytes piece n within front reads) (omega arith)

-- the rest of a slice
rest_is : (bytes : List ℕ) (done : ℕ) → take (length bytes - done) (drop done bytes) ≡ drop done bytes
rest_is bytes done = grind (arith, common_steps)

pub rest_long : (bytes : List ℕ) (done n : ℕ) → done ≤ length bytes → n ≤ length (take (length bytes - done) (drop done bytes)) → done + n ≤ length bytes
rest_long bytes done n h k = grind (arith, common_steps)

pub appends_more : (old mid new : Option (List ℕ)) (bytes : List ℕ) (done n : ℕ) → Appends old (take done bytes) mid →
    Appends mid (take n (take (length bytes - done) (drop done bytes))) new → Appends old (take (done + n) bytes) new
appends_more None mid new bytes done n first second =
    subst (λ m. Appends m (take n (take (length bytes - done) (drop done bytes))) new) first second
appends_more (Some text) mid new bytes done n first second =
    let mid_is : Appends (Some (text ++ take done bytes)) (take n (take (length bytes - done) (drop done bytes))) new =
    subst (λ m. Appends m (take n (take (length bytes - done) (drop done bytes))) new) first second in
    mid_is ∙ ap (λ xs. Some ((text ++ take done bytes) ++ take n xs)) (rest_is bytes done)
    ∙ ap (λ xs. Some xs) (append_assoc text (take done bytes) _ ∙ ap (λ xs. text ++ xs) (sym (take-add done n bytes)))
