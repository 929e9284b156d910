-- Which records of a file a walk for its destination looks at, and which of them it reads.
use Rattle.std.specs.Prelude.{ℕ, Bool, true, false, Option, Some, None, ◌==◌, ◌&&◌, cond, not}
use Rattle.njh_record.specs.declared.Kind.{Kind}
use Rattle.njh_record.specs.declared.Kind.TheVariants.{In, Out}
use Rattle.njh_header.specs.Redirecting.{is_after_header}

-- of so many records, of a job's file the first, of an output file all
abbrev pub looked_at : Kind → ℕ → ℕ
looked_at In n = cond (n == 0) 0 1
looked_at Out n = n

-- whether a record may name the destination, by its SRCB and that of the record before it
abbrev pub may_name : Kind → Option ℕ → ℕ → Bool
may_name In None srcb = true
may_name In (Some before) srcb = false
may_name Out before srcb = (srcb == 0xe0) && not (is_after_header before)
