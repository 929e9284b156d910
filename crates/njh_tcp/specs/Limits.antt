-- How long the parts of what comes are.
use Rattle.std.specs.Prelude.{ℕ}

-- the head of a TTB, and that of a TTR
abbrev pub ttb_head : ℕ
ttb_head = 8

abbrev pub ttr_head : ℕ
ttr_head = 4

-- the shortest TTB: its head, and the end
abbrev pub shortest_ttb : ℕ
shortest_ttb = 12

-- the most data of a TTR: 10 02 and the longest text
abbrev pub longest_ttr : ℕ
longest_ttr = 4098
