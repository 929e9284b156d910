-- The words of this crate and of those below that the proofs share.
pub use Rattle.std.proofs.Common.{[], ap, append-nil, append_assoc, arith, Bool, bytes_eq, cond, Contains, count_by}
pub use Rattle.std.proofs.Common.{drop, Err, false, filter, get_or, IfOk, inl, inr, is_some, IsOk, length}
pub use Rattle.std.proofs.Common.{length-append, length-drop, List, map, min, nat_le, nat_lt, None, not, Ok, OnOk}
pub use Rattle.std.proofs.Common.{Option, option_map, refl, remove, replicate, Result, rules, set, slice_get}
pub use Rattle.std.proofs.Common.{slice_index_or, slice_set, Some, string_bytes, subst, suc, sym, take, true, zero, ℕ}
pub use Rattle.std.proofs.Common.{◌&&◌, ◌++◌, ◌+◌, ◌-◌, ◌<◌, ◌==◌, ◌^◌, ◌||◌, ◌∙◌, ◌∷◌, ◌≡◌, ◌≢◌, ◌≤◌, ◌⊎◌}
pub use Rattle.std.proofs.lemmas.Bool.{and_parts, cases_Bool, cases_lt, eqb-false, eqb-true, lt-ltb, Decides.nat_tests}
pub use Rattle.std.proofs.lemmas.List.{drop_all, drop_more, get_or-map, get_or-set_other, get_or-set_same, get_or-take}
pub use Rattle.std.proofs.lemmas.List.{get_or_default, length-map, length-replicate, length-set, length-take-le}
pub use Rattle.std.proofs.lemmas.List.{map-append, map-set, set-get_or, take-append-drop, take-append-le, take-take}
pub use Rattle.std.proofs.lemmas.List.{take_all, take_more, Edits.length-remove, Elements.All-filter}
pub use Rattle.std.proofs.lemmas.List.Elements.{All-from_recursion, filter_passes, recursion_from_All}
pub use Rattle.std.proofs.lemmas.{List.{Recursion.is_sum_by, Sums.sum_by_push}, Result.{IfOk-weaker, on_ok_weaker}}
pub use Rattle.std.{proofs.lemmas.{Simd.map-map, Slice.Eq.bytes_eq-Decides}, specs.Cmp.Lexicographic.bytes_decides}
pub use Rattle.std.specs.{List.{AllByRecursion, AllZip, filter_map}, Prelude.{fold, IsPermutation, ⊤}, Vec.with_item}
pub use Rattle.sqlite.specs.{Effect.Database, State.{HasCleanDisk, State, Survives}, Store.Ghosts}
pub use Rattle.{sqlite_trees.specs.Tree.Trees, njh_ebcdic.specs.{declared.name.NameFault.NameFault, Names.is_name}}
pub use Rattle.{njh_ebcdic.specs.{Reading.name_of_text, Users.User}, njh_bisync.specs.Reading.Nothing}
pub use Rattle.njh_record.specs.{declared.Kind.{Kind, TheVariants.{In, Out}}, Stored.Stored}
pub use Rattle.njh_header.{proofs.DestinationRecords.stays, specs.FileHeaders.destination_of}
pub use Rattle.njh_header.specs.{Redirecting.{destination_node, records_to_node}, WholeFiles.HasHeaders}
pub use Rattle.njh_spoolfile.proofs.{ReadingLaws.ok_then, Rows.{all_put, put_rises, without_rises}}
pub use Rattle.njh_spoolfile.specs.{CommitState.{CommitState, Stands}, declared.kept.StoredFile.StoredFile}
pub use Rattle.njh_spoolfile.specs.{declared.kept.StoredRecord.StoredRecord, Kept.{contents_in, contents_of, entry_of}}
pub use Rattle.njh_spoolfile.specs.Kept.{File, file_of, Holds, kept, put, Record, records_of, Rise, SpoolContents}
pub use Rattle.njh_spoolfile.specs.Kept.{Whole, whole_in, with_changed, with_file, with_record, without, without_file}
pub use Rattle.njh_spoolfile.specs.{Kept.without_records, Origin.StandsAsFound, Shelf.shown, Steps.{Changes, Stays}}
pub use Rattle.njh_table.specs.{Accepted.AreDistinct, Entries.{CustomerEntry, LineEntry, RouteEntry}}
pub use Rattle.njh_table.specs.{Marks.entry_unmarked, TableFile.{customer_at, NamedCustomer, no_customer, TableFile}}
pub use Rattle.njh_spool.{proofs.NumberLaws.next_number-fresh, specs.CustomerSpool.{cost, CustomerSpool, max_arrived}}
pub use Rattle.njh_spool.specs.CustomerSpool.{partial_numbered, partial_records, PartialFile, used_blocks, WholeFile}
pub use Rattle.njh_spool.specs.{CustomerSpool.with_arrived, declared.restoring.fault.RestoreFault.RestoreFault}
pub use Rattle.njh_spool.specs.declared.restoring.fault.RestoreFault.TheVariants.{BadHeader, FilesOver, QuotaOver}
pub use Rattle.njh_spool.specs.{declared.State.TheVariants.{Held, Ready, Sending}, Restoring.has_blocks_for}
pub use Rattle.njh_spool.specs.{Restoring.{has_headers, KeptFile, restore_fault, state_back}, Spools.IsSound}
pub use Rattle.{njh_spool.specs.Spools.records_numbered, njh_stream.specs.Holding.destination_unrouted}
pub use Rattle.njh_stream.specs.{Holding.{has_lost_route, held_file, waits_in_state}, SpoolFiles.records_in}
pub use Rattle.{njh_stream.specs.WholeFiles.HaveHeaders, njh_line.specs.{declared.Phase.TheVariants.Down, Laws.is_up}}
pub use Rattle.{njh_line.specs.Sessions.fresh, njh_customer.specs.Customer.{config_of, CustomerLine, idle_line}}
pub use Rattle.njh_customer.specs.{Customer.{line_at, no_customer_line}, Growing.{FilesGrow, HasShortRests}}
pub use Rattle.njh_customer.specs.{InOrder.{IsIdle, phase_of}, NewRoutes.{entry_with, part_after_routes}}
pub use Rattle.njh_customer.specs.{Orders.part_after_order, OutgoingFiles.outgoing, Part.rest_at}
pub use Rattle.njh_customer.specs.Runs.{OwnOrder, OwnSignal}
pub use Rattle.njh_customer.specs.Surviving.{IsRerouted, IsStill, leaves, none, Survive}
pub use Rattle.njh_hub.specs.{declared.file_summary.FileSummaryView.FileSummaryView, Files.said_destination}
pub use Rattle.njh_hub.specs.{Restored.part_with_file, Views.file_summary, WholeHub.{no_part, Part, part, part_at_open}}
pub use Rattle.{njh_hub.specs.WholeHub.SameLines, njh_turns.specs.declared.depot.DepotFault.DepotFault}
pub use Rattle.njh_turns.specs.Keeping.{is_held, IsLed, kept_file, kept_of}
pub use Rattle.njh_keeper.specs.code.{Gathering.Writes, Apart.{AreFilesApart, have_low_ids, rises}}
pub use Rattle.njh_spoolfile.specs.Sent.{as_stored, is_sent, kind_of_word, kind_word, records_now, with_mark}
pub use Rattle.njh_keeper.specs.code.{Remembered.IsStored, Shown.field_text}
pub use Rattle.njh_keeper.specs.code.Following.{AddsRow, AreFronts, claim_of, GoesTo, GoOnIn, HasFiles, IsAt}
pub use Rattle.njh_keeper.specs.code.Following.{IsFrontOf, IsFrontWhere, IsQuiet, IsRowFor, IsStillAt}
pub use Rattle.njh_keeper.specs.code.Following.{LeadsFiles, Memory, memory_of, Stage, stage_of}
pub use Rattle.njh_keeper.specs.code.{Following.Remain, Knowing.{AreNamedApart, HasOwn, HasSpool, IsSoundPart, Knows}}
pub use Rattle.njh_keeper.specs.code.{Knowing.{LeadsStep, StepGoes}, Leading.Leads, Memory.{numbers_of, own_memory_of}}
pub use Rattle.njh_keeper.specs.code.{Memory.{own_of, partial_of, sweep_in, whole_of}, Mirrored.contents_from}
pub use Rattle.njh_keeper.specs.code.Mirrored.{FitsHub, front_then, HasRecords, IsOrdered, own_rows, ReadsAs}
pub use Rattle.njh_keeper.specs.code.{Mirrored.{WritesRowsOf, WritesUnder}, Nodes.{AreOne, named_nodes}}
pub use Rattle.njh_keeper.specs.code.{Nodes.with_first, Opening.{AllAreFound, AllAreRead, AreFound, AreRemembered}}
pub use Rattle.njh_keeper.specs.code.Opening.{entries, files_at, HasBegun, IsOpened, IsOwnOf, IsRead, IsReadFor}
pub use Rattle.njh_keeper.specs.code.{Opening.{keyed_rows, name_at, owned_of, Reads, Remembering}, Partly.AllClosed}
pub use Rattle.njh_keeper.specs.code.Partly.{AllGoOn, AllSeen, AllUpToDate, Goes, GoesOn, IsSeen, IsUpToDate, KeepsNew}
pub use Rattle.njh_keeper.specs.code.{Partly.{KeepsOn, KeepsPartly}, Remembered.{AllAreApart, AllBeside, AreApart}}
pub use Rattle.njh_keeper.specs.code.Remembered.{AreBelow, Claim, claim, IsKept, IsPartlyKept, IsRowOf, KeptPartial}
pub use Rattle.njh_keeper.specs.code.Remembered.{KeptWhole, keyed, may_be_given, Mirrored, Moves, NameOneNode}
pub use Rattle.njh_keeper.specs.code.Remembered.{none_beside, Numbers, one_beside, one_if, OwnFiles, Remembers, Sweep}
pub use Rattle.njh_keeper.specs.code.Remembered.{uses, uses_of_all, uses_of_files, with_key}
pub use Rattle.njh_keeper.specs.{code.Restoring.{hub_with_all, NoneFails, wholes}, Opened.{hub_fault, hub_with}}
pub use Rattle.njh_keeper.specs.Opened.{number_from, number_of}
pub use Rattle.njh_keeper.specs.code.{Walking.{AreNumbered, IsWalkedTo}, Writing.{emptied_at, free_at, id_behind}}
pub use Rattle.njh_keeper.specs.code.Writing.{is_marked, is_used, IsTaken, key_behind, marked_by, numbers_but}
pub use Rattle.njh_keeper.specs.code.Writing.{ShowsNow, sweep_of, unmarked, without_keys}
pub use Rattle.njh_keeper.specs.declared.fault.FileFault.{FileFault, TheVariants.{BadFile, Refused}}
pub use Rattle.njh_keeper.specs.{declared.writer.SpoolWriter.SpoolWriter, Keeper.{IsSettledFrom, Keeping, KnowsHub}}
pub use Rattle.njh_keeper.specs.{Keeper.{KnowsNow, left_in, MayLeave, MayLeaveOf}, LinesLost.{bare, file_at_rest}}
pub use Rattle.njh_keeper.specs.Opened.{AllAreBack, are_records_from, are_records_of, AreBack, Contents}
pub use Rattle.njh_keeper.specs.Opened.{file_fault, file_in, hub_opened, is_name_of, is_own, is_record_at}
pub use Rattle.njh_keeper.specs.Opened.{own_files, part_opened, whole_fault, whole_records, with_whole}
pub use Rattle.njh_keeper.specs.OpenedFiles.{as_opened, HasOpened, opened_of, OpenedFile}
pub use Rattle.njh_keeper.proofs.LeadingLaws.{clean_before, leads_by, leads_nothing, leads_then, leads_weaker}
pub use Rattle.njh_keeper.proofs.LeadingLaws.{survives_as, survives_both, survives_here}
pub use Rattle.{njh_keeper.specs.code.Counting.{Grows, rows_of}, njh_turns.proofs.KeepingLaws.on_ok}
