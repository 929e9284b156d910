-- When a customer's peers have to wait (IBM SC23-0070, function control sequences): little of its quota is left, and a
-- file of its own goes out.
use Rattle.std.specs.Prelude.{ℕ, ◌-◌, Bool, true, false, nat_lt, cond, ◌&&◌}
use Rattle.std.specs.List.{list_any}
use Rattle.njh_spool.specs.CustomerSpool.{CustomerSpool, WholeFile, used_blocks}
use Rattle.njh_spool.specs.declared.State.{State}
use Rattle.njh_spool.specs.declared.State.TheVariants.{Sending}

abbrev pub is_sending : State → Bool
is_sending Sending = true
is_sending _ = false

abbrev pub is_being_sent : WholeFile → Bool
is_being_sent f = is_sending f.state

-- whether one of a customer's files is being sent
abbrev pub sends_a_file : CustomerSpool → Bool
sends_a_file s = list_any is_being_sent s.whole

-- fewer than 16 blocks of the quota are left, and a file is being sent
abbrev pub is_tight : CustomerSpool → Bool
is_tight s = nat_lt (s.quota - used_blocks s) 16 && sends_a_file s

-- the function control sequence of a customer's blocks: streams wait where it is tight, and nothing does elsewhere
abbrev pub own_fcs : CustomerSpool → ℕ × ℕ
own_fcs s = cond (is_tight s) (0x80, 0xc0) (0x8f, 0xcf)
