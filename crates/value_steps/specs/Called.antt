-- What a machine's registers are called.
use Rattle.start_value.specs.declared.layout.Layout.{Layout}
use Rattle.start_value.specs.Starts.{layout_of}
use Rattle.trace_texts_spec.specs.Names as names
use Rattle.trace_texts_spec.specs.Names.{Names}

abbrev pub names_of : Layout → Names
names_of layout = names.names_of (layout_of layout)
