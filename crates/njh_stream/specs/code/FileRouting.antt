-- One file of a customer, looked at for a line.
use Rattle.std.specs.Prelude.{ℕ, true, false}
use Rattle.njh_table.specs.Entries.{CustomerEntry}
use Rattle.njh_spool.specs.declared.State.TheVariants.{Ready}
use Rattle.njh_spool.specs.CustomerSpool.{CustomerSpool, whole_numbered, with_state}
use Rattle.njh_stream.specs.Sending.{holds_of, may_go_again}

-- the whole file of a number may go again, where it was refused and goes by the line
abbrev pub with_retry : CustomerEntry → ℕ → ℕ → CustomerSpool → CustomerSpool
with_retry entry l n s =
    elim (holds_of (may_go_again entry l) (whole_numbered n s)) [ true ↦ with_state n Ready s | false ↦ s ]
