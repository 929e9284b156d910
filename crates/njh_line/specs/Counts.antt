-- The count rule (IBM SC23-0070, multileaving). All that a session knows for it is its last BCB: that of the last block
-- acted on, those whose count isn't checked aside.
use Rattle.std.specs.Prelude.{ℕ, ◌+◌, ◌/◌, ◌%◌, Bool, false, Option, Some, None, ◌==◌, cond, ◌||◌}
use Rattle.njh_line.specs.declared.counts.Counted.{Counted}
use Rattle.njh_line.specs.declared.counts.Counted.TheVariants.{Acts, Repeats, OutOfSequence}
use Rattle.njh_line.specs.declared.session.Session.{Session}

-- 0: the count is checked; 1: it isn't; 2: it is set
abbrev pub bcb_type : ℕ → ℕ
bcb_type bcb = bcb / 16 % 8

abbrev pub bcb_count : ℕ → ℕ
bcb_count bcb = bcb % 16

abbrev pub count_after : ℕ → ℕ
count_after bcb = (bcb_count bcb + 1) % 16

-- the count that is expected
abbrev pub expected_count : Option ℕ → ℕ
expected_count None = 0
expected_count (Some last) = cond (bcb_type last == 2) (bcb_count last) (count_after last)

-- whether a count is one of those taken
abbrev pub is_taken : Option ℕ → ℕ → Bool
is_taken None k = (k == 0) || (k == 1)
is_taken (Some last) k =
    cond (bcb_type last == 2) ((k == bcb_count last) || (k == count_after last)) (k == count_after last)

-- whether a block is the last one again
abbrev pub is_repeat : Option ℕ → ℕ → Bool
is_repeat None bcb = false
is_repeat (Some last) bcb = last == bcb

-- what a block does by its count
abbrev pub count_verdict : Option ℕ → ℕ → Counted
count_verdict last bcb =
    cond (bcb_type bcb == 1) Acts
    (cond (is_repeat last bcb) Repeats
    (cond (bcb_type bcb == 2) Acts
    (cond (is_taken last (bcb_count bcb)) Acts OutOfSequence)))

-- a session once a block is acted on
abbrev pub after_acting : ℕ → ℕ × ℕ → Session → Session
after_acting bcb fcs s =
    record s { tries = 0; last_bcb = cond (bcb_type bcb == 1) s.last_bcb (Some bcb); peer_fcs = fcs }
