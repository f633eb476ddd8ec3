-- Sorts, token by token.
use Rattle.std.specs.Prelude.{ℕ, zero, suc, ◌+◌, Bool, true, false, if◌then◌else◌, Option, Some, None, codes}
use Rattle.model_spec.specs.ModelText.{ModelToken}
use Rattle.model_text.specs.declared.sort_place.SortPlace.{SortPlace}
use Rattle.model_text.specs.declared.sort_place.SortPlace.TheVariants.{Wanted, Opened, HeadOpened, Name, FirstIndex, Indices, More, Whole}
use Rattle.model_text.specs.Tokens.{is_open, is_close, is_name, is_index, is_the_word, when}

-- behind a sort in so many brackets
abbrev pub completed : ℕ → SortPlace
completed zero = Whole
completed (suc outer) = More outer

-- behind the indices of a name
abbrev pub behind_indices : (head : Bool) → ℕ → SortPlace
behind_indices true d = Wanted (d + 1)
behind_indices false d = completed d

-- where the reading stands behind one more token
abbrev pub sort_next : SortPlace → ModelToken → Option SortPlace
sort_next (Wanted d) t = if is_open t then Some (Opened d) else when (is_name t) (completed d)
sort_next (Opened d) t =
    if is_open t then Some (HeadOpened d) else if is_the_word (codes "_") t then Some (Name false d) else when (is_name t) (Wanted (d + 1))
sort_next (HeadOpened d) t = when (is_the_word (codes "_") t) (Name true d)
sort_next (Name head d) t = when (is_name t) (FirstIndex head d)
sort_next (FirstIndex head d) t = when (is_index t) (Indices head d)
sort_next (Indices head d) t = if is_close t then Some (behind_indices head d) else when (is_index t) (Indices head d)
sort_next (More o) t = if is_close t then Some (completed o) else if is_open t then Some (Opened (o + 1)) else when (is_name t) (More o)
sort_next Whole t = None

-- how many brackets are counted
abbrev pub sort_depth : SortPlace → ℕ
sort_depth (Wanted d) = d
sort_depth (Opened d) = d
sort_depth (HeadOpened d) = d
sort_depth (Name head d) = d
sort_depth (FirstIndex head d) = d
sort_depth (Indices head d) = d
sort_depth (More o) = o
sort_depth Whole = 0
