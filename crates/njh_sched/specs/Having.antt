-- Whether a line's next block would have a record, were it filled now.
use Rattle.std.specs.Prelude.{◌≡◌, ◌≤◌, Bool, true, false, List, [], ◌∷◌, length, slice_get, not, ◌&&◌, All, IfSome}
use Rattle.std.specs.List.{list_any}
use Rattle.std.specs.Option.{is_some}
use Rattle.njh_block.specs.Blocks.{Item, all_suspended}
use Rattle.njh_block.specs.Writing.{Writing}
use Rattle.njh_spool.specs.CustomerSpool.{CustomerSpool, WholeFile}
use Rattle.njh_spool.specs.Spools.{HasShortRecords}
use Rattle.njh_sched.specs.NextBlock.{Outlet, Source, candidate, filled_block, filling, sources}

-- whether a source has something
abbrev pub has_candidate : (WholeFile → Bool) → Outlet → CustomerSpool → Source → Bool
has_candidate goes o s source = is_some (candidate goes source o s)

-- Whether the peer doesn't suspend all, and one of a block's sources has something.
abbrev pub has_record : (WholeFile → Bool) → Outlet → CustomerSpool → Bool
has_record goes o s = not (all_suspended o.peer_fcs) && list_any (has_candidate goes o s) (sources 1 o)

-- ---- a block that was empty has room for what comes first

abbrev pub has_items : List Item → Bool
has_items [] = false
has_items (i ∷ is) = true

-- What waits is no longer than a record may be: the nodal message that waits longest, and each file's records.
pub record IsShort (o : Outlet) (s : CustomerSpool) : Type 0 where
  pub message : IfSome (slice_get o.messages 0) (λ m. length m ≤ 256)
  pub records : All HasShortRecords s.whole

-- So a block that had no record has one once it is filled exactly where there is one to come.
abbrev pub FirstHasRoom : Type 0
FirstHasRoom =
    (goes : WholeFile → Bool) (w : Writing) (o : Outlet) (s : CustomerSpool) → w.items ≡ [] → 300 ≤ w.limit
    → IsShort o s → has_items (filled_block goes (filling w o s)).block.items ≡ has_record goes o s
