use Rattle.std.proofs.Common.{◌≡◌, map, drop, string_bytes}
use Rattle.toml.specs.View.{items_view}
use Rattle.suite_file.specs.Suites.{texts_in}
use Rattle.suite_file.specs.Views.{place_of}
use Rattle.suite_file.proofs.Readings.{behind}
use Rattle.suite_file.proofs.keys.texts_in.Given as goal

abbrev pub invariant-loop-value : goal.invariant-loop-value
invariant-loop-value l =
    behind (map string_bytes l.texts.items) (texts_in (place_of l.place) l.key (items_view (drop l.value-index l.value-items))) ≡ texts_in (place_of l.place) l.key (items_view l.value-items)
