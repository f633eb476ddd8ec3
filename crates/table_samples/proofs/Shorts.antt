-- The expansions of all halfwords, 4096 at a time. The sums are those of a copy of the table in Python, whose expansions were compared with those of GNU objdump.
use Rattle.std.proofs.Common.{◌≡◌, ℕ, zero, suc, ◌+◌, ◌*◌, ◌%◌, ◌^◌, List, Option, Some, None, refl}
use Rattle.machine_spec.specs.RvShort.{Short, shorts, expansion_in, expansion}

-- the expansion as a number, 0 for none
abbrev pub number : Option ℕ → ℕ
number None = 0
number (Some w) = w + 1

-- a sum that tells the expansions of n halfwords from one on
abbrev pub checksum : List Short → (n h sum : ℕ) → ℕ
checksum table zero h sum = sum
checksum table (suc n) h sum = checksum table n (h + 1) ((sum * 31 + number (expansion_in table h)) % 2 ^ 61)

pub first_row : expansion 0x0505 ≡ Some 0x00150513
unfolding expansion shorts
first_row = refl

-- blocks of so many halfwords
abbrev pub blocks : List Short → (count size h sum : ℕ) → ℕ
blocks table zero size h sum = sum
blocks table (suc n) size h sum = blocks table n size (h + size) (checksum table size h sum)

-- those whose low two bits are 11 have no row in this table
pub sum_0 : blocks shorts 16 256 0x0 0 ≡ 1030584226919991968
unfolding shorts
sum_0 = refl

pub sum_1 : blocks shorts 16 256 0x1000 0 ≡ 373034981157634048
unfolding shorts
sum_1 = refl

pub sum_2 : blocks shorts 16 256 0x2000 0 ≡ 2102664035232366592
unfolding shorts
sum_2 = refl

pub sum_3 : blocks shorts 16 256 0x3000 0 ≡ 1951134112249266176
unfolding shorts
sum_3 = refl

pub sum_4 : blocks shorts 16 256 0x4000 0 ≡ 996488433874976896
unfolding shorts
sum_4 = refl

pub sum_5 : blocks shorts 16 256 0x5000 0 ≡ 2064774963288031360
unfolding shorts
sum_5 = refl

pub sum_6 : blocks shorts 16 256 0x6000 0 ≡ 1307404186753258916
unfolding shorts
sum_6 = refl

pub sum_7 : blocks shorts 16 256 0x7000 0 ≡ 462495561553599360
unfolding shorts
sum_7 = refl

pub sum_8 : blocks shorts 16 256 0x8000 0 ≡ 1182279448503716072
unfolding shorts
sum_8 = refl

pub sum_9 : blocks shorts 16 256 0x9000 0 ≡ 195241260481544564
unfolding shorts
sum_9 = refl

pub sum_a : blocks shorts 16 256 0xa000 0 ≡ 1105629720206229504
unfolding shorts
sum_a = refl

pub sum_b : blocks shorts 16 256 0xb000 0 ≡ 954099797223129088
unfolding shorts
sum_b = refl

pub sum_c : blocks shorts 16 256 0xc000 0 ≡ 1745960974539976704
unfolding shorts
sum_c = refl

pub sum_d : blocks shorts 16 256 0xd000 0 ≡ 151001836603076608
unfolding shorts
sum_d = refl

pub sum_e : blocks shorts 16 256 0xe000 0 ≡ 1131839028469927936
unfolding shorts
sum_e = refl

pub sum_f : blocks shorts 16 256 0xf000 0 ≡ 756968430176931840
unfolding shorts
sum_f = refl
