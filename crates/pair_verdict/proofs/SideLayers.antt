-- The layers of a side below the clauses, by the unrolled program in which its exit is a place.
use Rattle.std.proofs.Common.{ℕ, Bool, List}
use Rattle.std.specs.Prelude.{All, get_or}
use Rattle.bilv_spec.specs.Run.{Program}
use Rattle.call_spec.specs.Calls.{PairQuestion}
use Rattle.machine_spec.specs.StateText.{Layout}
use Rattle.links_lang.specs.Views.{AreLinksOf, IsLinkOf, link_of, links_of}
use Rattle.links_lang.specs.declared.links.Link as declared
use Rattle.links_lang.specs.declared.links.Link.TheVariants.{Entry, Exit, Share, Same}
use Rattle.start_value.specs.declared.layout.Layout as forms
use Rattle.pair_spec.specs.Links.{ComparesAlike, Link, asking, compares_flag}
use Rattle.std.specs.List.{list_any}
use Rattle.std.proofs.lemmas.List.Elements.{All-map}
use Rattle.pair_spec.specs.PairLayers.{IsPairSide}
use Rattle.pair_spec.specs.PairTerms.{SideCells, SideTerm, TellsSide, TellsSideCells}
use Rattle.pair_spec.proofs.Asking.{points_of}
use Rattle.term_spec.proofs.Asked.{asked_is_right}
use Rattle.walk_spec.specs.Unrolled.{UnrolledProgram}
use Rattle.term_spec.specs.WalkQuestions.{is_asked}
use Rattle.verdict.specs.Grounds.{IsGround}
use Rattle.verdict.specs.Rounds.{AreAdded}
use Rattle.verdict.proofs.Answering.{asks}

one_alike : (form other : forms.Layout) (l : declared.Link) → IsLinkOf form other l → ComparesAlike (link_of l)
one_alike form other (Entry line x y) h = h.2
one_alike form other (Exit line x y) h = h.2
one_alike form other (Share line low high) h = tt
one_alike form other (Same line low high) h = tt

-- links between two forms compare registers with registers, and flags with flags
pub alike : (form other : forms.Layout) (links : List declared.Link) → AreLinksOf form other links → All ComparesAlike (links_of links)
alike form other links h = All-map ComparesAlike link_of links (λ k d l. one_alike form other (get_or links k d) (h k d l))

-- what was added and the literals are asked of a side
module _ (p : Program) (k : ℕ) (form : Layout) (second : Bool) (links : List Link) (question : PairQuestion) (u : UnrolledProgram)
    (g : IsGround (asking second links p) k form u) (added : List ℕ) (h : AreAdded u added) (t : SideTerm) (c : SideCells)
    (term : TellsSide u second links question t) (cells : TellsSideCells u links question t (is_asked added u.literals) c) where
  pub side_layers : IsPairSide p k second links question (is_asked added u.literals) u t c
  side_layers =
      let right = asked_is_right (asking second links p) k u g.unrolling added (asks (asking second links p) k form u g added h) in
      let out : ℕ → Bool = λ f. list_any (compares_flag second f) links in
      record {
        lawful = g.lawful;
        unrolling = g.unrolling;
        fitting = g.fitting;
        asks_known = right.0;
        asks_literals = λ a i is l. right.1 a i (record {
          point = is.point;
          is_point = points_of p p.out out k is.point is.is_point;
          row = is.row;
          is_row = is.is_row;
          loads = is.loads;
          is_kept = is.is_kept;
        }) l;
        term = term;
        cells = cells;
      }
