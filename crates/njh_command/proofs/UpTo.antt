-- How far a walk over a customer's files, or over a file's records, has come.
use Rattle.std.proofs.Common.{ℕ, zero, suc, Bool, not, List, ◌++◌, length, take, drop, map, filter, Option, Some, None}
use Rattle.njh_record.specs.Stored.{Stored}
use Rattle.njh_record.specs.declared.Kind.{Kind}
use Rattle.njh_header.specs.Redirecting.{records_to_node}
use Rattle.njh_spool.specs.CustomerSpool.{CustomerSpool, WholeFile}
use Rattle.njh_command.specs.Files.{stored_at}

-- the first so many files are changed
abbrev pub changed_up_to : (WholeFile → WholeFile) → ℕ → CustomerSpool → CustomerSpool
changed_up_to change n s = record s { whole = map change (take n s.whole) ++ drop n s.whole }

-- of the first so many files, those that don't pass
abbrev pub left_up_to : (WholeFile → Bool) → ℕ → CustomerSpool → List WholeFile
left_up_to p n s = filter (λ f. not (p f)) (take n s.whole)

-- of the first so many files, those that pass are removed
abbrev pub removed_up_to : (WholeFile → Bool) → ℕ → CustomerSpool → CustomerSpool
removed_up_to p n s = record s { whole = left_up_to p n s ++ drop n s.whole }

-- how many of the first so many files pass
abbrev pub count_up_to : (WholeFile → Bool) → ℕ → CustomerSpool → ℕ
count_up_to p n s = length (filter p (take n s.whole))

-- the SRCB of the record before the n-th
abbrev pub srcb_before : ℕ → List Stored → Option ℕ
srcb_before zero records = None
srcb_before (suc n) records = Some (stored_at n records).srcb

-- the first so many records have another destination node, where they name one
abbrev pub redirected_up_to : Kind → List ℕ → ℕ → List Stored → List Stored
redirected_up_to kind node n records = records_to_node kind node None (take n records) ++ drop n records
