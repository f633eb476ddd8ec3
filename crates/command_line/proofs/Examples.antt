-- Command lines, and what they ask for.
use Rattle.std.proofs.Common.{◌≡◌, true, false, refl, codes, [], ◌∷◌, Some, None}
use Rattle.call_spec.specs.Framed.{FailQuestion, TurnQuestion}
use Rattle.call_spec.specs.Calls.{default_budget, default_options}
use Rattle.word_spec.specs.Profiles.{V4, V4T, V5}
use Rattle.command_spec.specs.Commands.{Lift, Graph, Script, Certify, SelfRun, Upgrade, Equal, Model, Verify}
use Rattle.clap.proofs.OnLiterals.{clap_on_literals}
use Rattle.command_line.specs.Lines.{bilv_app, command_named, lawful_command, takes_line}

verify_plain : lawful_command (codes "bilv" ∷ codes "verify" ∷ codes "e" ∷ codes "n" ∷ [])
    ≡ Some (Verify default_options (codes "e") (codes "n") default_budget)
unfolding clap_on_literals bilv_app takes_line command_named
verify_plain = refl

verify_most : lawful_command (codes "bilv" ∷ codes "verify" ∷ codes "e" ∷ codes "n" ∷ codes "--unroll" ∷ codes "4096" ∷ [])
    ≡ Some (Verify default_options (codes "e") (codes "n") (record default_budget { unroll = 4096 }))
unfolding clap_on_literals bilv_app takes_line command_named
verify_most = refl

verify_attached : lawful_command (codes "bilv" ∷ codes "verify" ∷ codes "--unroll=+007" ∷ codes "e" ∷ codes "n" ∷ [])
    ≡ Some (Verify default_options (codes "e") (codes "n") (record default_budget { unroll = 7 }))
unfolding clap_on_literals bilv_app takes_line command_named
verify_attached = refl

smt_fail : lawful_command (codes "bilv" ∷ codes "smt" ∷ codes "e" ∷ codes "n" ∷ codes "--question" ∷ codes "fail" ∷ codes "--size" ∷ codes "5" ∷ [])
    ≡ Some (Script default_options (codes "e") (codes "n") FailQuestion None (record default_budget { size = 5 }))
unfolding clap_on_literals bilv_app takes_line command_named
smt_fail = refl

cert_of_frame : lawful_command (codes "bilv" ∷ codes "cert" ∷ codes "e" ∷ codes "n" ∷ codes "--question=turn" ∷ codes "--frame" ∷ codes "0x10000" ∷ [])
    ≡ Some (Certify default_options (codes "e") (codes "n") TurnQuestion (Some (codes "0x10000")) default_budget)
unfolding clap_on_literals bilv_app takes_line command_named
cert_of_frame = refl

smt_of_any_word : lawful_command (codes "bilv" ∷ codes "smt" ∷ codes "e" ∷ codes "n" ∷ codes "--frame=" ∷ codes "--question" ∷ codes "fail" ∷ [])
    ≡ Some (Script default_options (codes "e") (codes "n") FailQuestion (Some []) default_budget)
unfolding clap_on_literals bilv_app takes_line command_named
smt_of_any_word = refl

verify_of_frame : lawful_command (codes "bilv" ∷ codes "verify" ∷ codes "e" ∷ codes "n" ∷ codes "--frame" ∷ codes "0x10000" ∷ []) ≡ None
unfolding clap_on_literals bilv_app takes_line command_named
verify_of_frame = refl

frame_twice : lawful_command (codes "bilv" ∷ codes "smt" ∷ codes "e" ∷ codes "n" ∷ codes "--question" ∷ codes "fail" ∷ codes "--frame=1" ∷ codes "--frame=1" ∷ [])
    ≡ None
unfolding clap_on_literals bilv_app takes_line command_named
frame_twice = refl

graph_by_dashes : lawful_command (codes "bilv" ∷ codes "graph" ∷ codes "--" ∷ codes "-e" ∷ codes "--n" ∷ [])
    ≡ Some (Graph default_options (codes "-e") (codes "--n"))
unfolding clap_on_literals bilv_app takes_line command_named
graph_by_dashes = refl

help_is_a_name : lawful_command (codes "bilv" ∷ codes "lift" ∷ codes "help" ∷ []) ≡ Some (Lift default_options (codes "help"))
unfolding clap_on_literals bilv_app takes_line command_named
help_is_a_name = refl

selfrun_most : lawful_command (codes "bilv" ∷ codes "selfrun" ∷ codes "2147483647" ∷ codes "16000" ∷ []) ≡ Some (SelfRun 2147483647 16000)
unfolding clap_on_literals bilv_app takes_line command_named
selfrun_most = refl

verify_above : lawful_command (codes "bilv" ∷ codes "verify" ∷ codes "e" ∷ codes "n" ∷ codes "--unroll" ∷ codes "4097" ∷ []) ≡ None
unfolding clap_on_literals bilv_app takes_line command_named
verify_above = refl

verify_twice : lawful_command (codes "bilv" ∷ codes "verify" ∷ codes "e" ∷ codes "n" ∷ codes "--unroll" ∷ codes "5" ∷ codes "--unroll" ∷ codes "5" ∷ []) ≡ None
unfolding clap_on_literals bilv_app takes_line command_named
verify_twice = refl

no_subcommand : lawful_command (codes "bilv" ∷ []) ≡ None
unfolding clap_on_literals bilv_app takes_line command_named
no_subcommand = refl

verify_one : lawful_command (codes "bilv" ∷ codes "verify" ∷ codes "e" ∷ []) ≡ None
unfolding clap_on_literals bilv_app takes_line command_named
verify_one = refl

help_asked : lawful_command (codes "bilv" ∷ codes "help" ∷ []) ≡ None
unfolding clap_on_literals bilv_app takes_line command_named
help_asked = refl

help_flag : lawful_command (codes "bilv" ∷ codes "--help" ∷ []) ≡ None
unfolding clap_on_literals bilv_app takes_line command_named
help_flag = refl

help_flag_behind : lawful_command (codes "bilv" ∷ codes "lift" ∷ codes "-h" ∷ []) ≡ None
unfolding clap_on_literals bilv_app takes_line command_named
help_flag_behind = refl

hyphen_name : lawful_command (codes "bilv" ∷ codes "verify" ∷ codes "e" ∷ codes "-n" ∷ []) ≡ None
unfolding clap_on_literals bilv_app takes_line command_named
hyphen_name = refl

check_two : lawful_command (codes "bilv" ∷ codes "check" ∷ codes "a" ∷ codes "b" ∷ []) ≡ None
unfolding clap_on_literals bilv_app takes_line command_named
check_two = refl

other_question : lawful_command (codes "bilv" ∷ codes "smt" ∷ codes "e" ∷ codes "n" ∷ codes "--question" ∷ codes "exit" ∷ []) ≡ None
unfolding clap_on_literals bilv_app takes_line command_named
other_question = refl

no_question : lawful_command (codes "bilv" ∷ codes "cert" ∷ codes "e" ∷ codes "n" ∷ []) ≡ None
unfolding clap_on_literals bilv_app takes_line command_named
no_question = refl

selfrun_none : lawful_command (codes "bilv" ∷ codes "selfrun" ∷ codes "0" ∷ codes "0" ∷ []) ≡ None
unfolding clap_on_literals bilv_app takes_line command_named
selfrun_none = refl

other_name : lawful_command (codes "bilv" ∷ codes "decide" ∷ codes "e" ∷ codes "n" ∷ []) ≡ None
unfolding clap_on_literals bilv_app takes_line command_named
other_name = refl

no_words : lawful_command [] ≡ None
unfolding clap_on_literals bilv_app takes_line command_named
no_words = refl

lift_fifth : lawful_command (codes "bilv" ∷ codes "lift" ∷ codes "e" ∷ codes "--arm=v5" ∷ []) ≡ Some (Lift (record { profile = V5; compressed = false }) (codes "e"))
unfolding clap_on_literals bilv_app takes_line command_named
lift_fifth = refl

upgrade_with_exchange : lawful_command (codes "bilv" ∷ codes "upgrade" ∷ codes "e" ∷ codes "n" ∷ codes "--arm" ∷ codes "v4t" ∷ [])
    ≡ Some (Upgrade (record { profile = V4T; compressed = false }) (codes "e") (codes "n"))
unfolding clap_on_literals bilv_app takes_line command_named
upgrade_with_exchange = refl

model_of_three : lawful_command (codes "bilv" ∷ codes "model" ∷ codes "e" ∷ codes "n" ∷ codes "a" ∷ codes "--question" ∷ codes "turn" ∷ codes "--unroll" ∷ codes "3" ∷ [])
    ≡ Some (Model (record { profile = V4; compressed = false }) (codes "e") (codes "n") (codes "a") TurnQuestion
    (record { unroll = 3; points = 65536; size = 1073741824; conflicts = 200000 }))
unfolding clap_on_literals bilv_app takes_line command_named
model_of_three = refl

equal_of_five : lawful_command (codes "bilv" ∷ codes "equal" ∷ codes "e" ∷ codes "n" ∷ codes "f" ∷ codes "m" ∷ codes "--points=9" ∷ codes "l" ∷ [])
    ≡ Some (Equal default_options (record { elf = codes "e"; notes = codes "n"; other_elf = codes "f"; other_notes = codes "m"; links = codes "l" })
    (record default_budget { points = 9 }))
unfolding clap_on_literals bilv_app takes_line command_named
equal_of_five = refl

differ_with_budget : lawful_command (codes "bilv" ∷ codes "differ" ∷ codes "e" ∷ codes "n" ∷ codes "f" ∷ codes "m" ∷ codes "l" ∷ codes "r" ∷ codes "--unroll=5" ∷ [])
    ≡ None
unfolding clap_on_literals bilv_app takes_line command_named
differ_with_budget = refl

graph_compressed : lawful_command (codes "bilv" ∷ codes "graph" ∷ codes "--rvc" ∷ codes "e" ∷ codes "n" ∷ [])
    ≡ Some (Graph (record { profile = V4; compressed = true }) (codes "e") (codes "n"))
unfolding clap_on_literals bilv_app takes_line command_named
graph_compressed = refl

compressed_with_value : lawful_command (codes "bilv" ∷ codes "lift" ∷ codes "e" ∷ codes "--rvc=1" ∷ []) ≡ None
unfolding clap_on_literals bilv_app takes_line command_named
compressed_with_value = refl

compressed_twice : lawful_command (codes "bilv" ∷ codes "lift" ∷ codes "e" ∷ codes "--rvc" ∷ codes "--rvc" ∷ []) ≡ None
unfolding clap_on_literals bilv_app takes_line command_named
compressed_twice = refl

other_profile : lawful_command (codes "bilv" ∷ codes "graph" ∷ codes "e" ∷ codes "n" ∷ codes "--arm" ∷ codes "v6" ∷ []) ≡ None
unfolding clap_on_literals bilv_app takes_line command_named
other_profile = refl

profile_twice : lawful_command (codes "bilv" ∷ codes "lift" ∷ codes "e" ∷ codes "--arm=v5" ∷ codes "--arm=v5" ∷ []) ≡ None
unfolding clap_on_literals bilv_app takes_line command_named
profile_twice = refl

check_of_profile : lawful_command (codes "bilv" ∷ codes "check" ∷ codes "c" ∷ codes "--arm=v5" ∷ []) ≡ None
unfolding clap_on_literals bilv_app takes_line command_named
check_of_profile = refl

upgrade_with_budget : lawful_command (codes "bilv" ∷ codes "upgrade" ∷ codes "e" ∷ codes "n" ∷ codes "--unroll" ∷ codes "5" ∷ []) ≡ None
unfolding clap_on_literals bilv_app takes_line command_named
upgrade_with_budget = refl
