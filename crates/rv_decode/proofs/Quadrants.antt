-- The lemmas of the table of compressed instructions, by quadrant.
use Rattle.machine_spec.proofs.ShortParts.{part_0_0, part_0_2, part_0_6, none_0, part_1_0, part_1_1, part_1_2, part_1_5, part_1_6, part_1_7, part_2_0, part_2_2, part_2_6, none_2}

pub ruleset quadrant_0 = (part_0_0, part_0_2, part_0_6, none_0)

pub ruleset quadrant_1 = (part_1_0, part_1_1, part_1_2, part_1_5, part_1_6, part_1_7)

pub ruleset quadrant_2 = (part_2_0, part_2_2, part_2_6, none_2)
