-- The words of this crate and of those below that the proofs share.
pub use Rattle.std.proofs.Common.{All, Bool, Err, IsSomeAnd, List, None, Ok, Option, Result, Some, [], add_assoc, ap}
pub use Rattle.std.proofs.Common.{append-nil, append_assoc, ap₂, arith, cond, count_by, drop, eq-eqb, eqb-true, false}
pub use Rattle.std.proofs.Common.{filter, find, fold, get_or, inl, inr, length, length-append, map, nat_le, nat_lt, not}
pub use Rattle.std.proofs.Common.{not-suc-le-zero, option_map, refl, replicate, rules, set, set-set, slice_get}
pub use Rattle.std.proofs.{Common.{slice_set, subst, suc, sum, sym, take, true, zero, ℕ}, Math.ListN.get_or-map}
pub use Rattle.std.proofs.{Math.Seq.map-set_same, lemmas.Bool.{and_parts, cases_Bool, cases_eq, cases_lt, ne_eqb}}
pub use Rattle.std.proofs.lemmas.Bool.{cond_both, eqb-false, false≢true, leb-true, ltb-false, ltb-true, not-true}
pub use Rattle.std.proofs.lemmas.{Bool.{not_from_false, or_parts}, Grind.get_or-set_at, List.get_or-set_other}
pub use Rattle.std.proofs.lemmas.List.{get_or-set_same, get_or_default, get_or_past, length-drop, length-map}
pub use Rattle.std.proofs.lemmas.List.{length-replicate, length-set, length-take-le, map-set, map_more, set-get_or}
pub use Rattle.std.proofs.lemmas.List.{take-append-le, take_all, Elements.{All-contains, All-filter, All-map, All-nil}}
pub use Rattle.std.proofs.lemmas.List.Elements.{All-push, All-same, All-set, Contains-append_cases}
pub use Rattle.std.proofs.lemmas.List.Elements.{Contains-append_left, Contains-append_right, Contains-get_or}
pub use Rattle.std.proofs.lemmas.List.{Elements.{Contains-push_cases, filter_passes}, Filters.length-filter_both}
pub use Rattle.std.proofs.lemmas.List.{Filters.sum_by-filter_both, Folds.{list_any-append, list_any_at}}
pub use Rattle.std.proofs.lemmas.{List.Sums.{length-filter, sum-map, sum_by-cons, sum_by_push}, Simd.map-map}
pub use Rattle.std.specs.{List.{AllByRecursion, Contains, cons_option, flat_map, list_any}, Prelude.{IsTrue, sum_by}}
pub use Rattle.njh_bisync.specs.ByteSteps.{Fed, RestStep, ends, feed_outcome, frames_after, kept_with, on_to, rest_step}
pub use Rattle.njh_bisync.specs.{ByteSteps.stop_or, Frames.{IsShort, text_or_spoiled}, Limits.longest_text}
pub use Rattle.njh_bisync.specs.{Reading.{AfterDle, AfterSoh, InText, Nothing, Rest}, Written.text_bytes}
pub use Rattle.njh_bisync.specs.declared.frame.Control.TheVariants.{Ack0, Enquiry, Nak}
pub use Rattle.{njh_ebcdic.specs.{Names.is_name, Users.User}, njh_record.proofs.Fronts.front_leaves_less}
pub use Rattle.njh_record.{proofs.ReadingLaws.{by_steps, read_on}, specs.{Spelling.added_bytes, Stored.Stored}}
pub use Rattle.njh_record.specs.Unspelled.{Bad, Cut, Fault, Front, OfEnd, OfItem, Unspelled, record_at_front}
pub use Rattle.njh_record.specs.{Unspelled.with_front, code.Parts.StandsFirst, declared.End.{End, TheVariants.Record}}
pub use Rattle.{njh_record.specs.declared.Kind.Kind, njh_block.specs.Blocks.{Aborted, First, General, Item}}
pub use Rattle.njh_block.specs.Blocks.{after_control, all_suspended, block_with, first_record, form_of, is_bcb, is_fcs}
pub use Rattle.njh_block.specs.Blocks.{item_of, items_in, messages_on, rcb_of, read_block, read_items, record_of_form}
pub use Rattle.njh_block.specs.Blocks.{record_of_one_byte, record_of_spelling, same_fcs, stream_number, stream_of}
pub use Rattle.njh_block.specs.{Blocks.{text_of, with_item}, Codes.kind_of, Writing.{Writing, has_room}}
pub use Rattle.njh_block.specs.declared.{answer.Answer.Answer, fault.BlockFault.{BlockFault, TheVariants.BadBcb}}
pub use Rattle.njh_block.specs.declared.{fault.BlockFault.TheVariants.BadFcs, rcb.Form.Form}
pub use Rattle.njh_header.specs.{FileHeaders.{destination_of, with_destination}, FileNames.FileName}
pub use Rattle.{njh_header.specs.{Redirecting.records_to_node, WholeFiles.HasHeaders}, njh_nmr.specs.Nodal.Nodal}
pub use Rattle.njh_nmr.specs.Nodal.{cut_after_message, is_user_command, nodal_of, notice_record, sender_of}
pub use Rattle.{njh_nmr.specs.declared.fault.NmrFault.NmrFault, njh_texts.specs.Texts.node_unknown}
pub use Rattle.njh_spool.{proofs.OnlyOne.count_by_none, specs.CustomerSpool.{CustomerSpool, PartialFile, WholeFile}}
pub use Rattle.njh_spool.specs.CustomerSpool.{as_whole, cost, empty_spool, has_block, has_file_room, has_room_for}
pub use Rattle.njh_spool.specs.CustomerSpool.{is_number, max_arrived, next_number, one_more, partial_numbered}
pub use Rattle.njh_spool.specs.CustomerSpool.{partial_records, stored_size, used_blocks, whole_numbered, with_appended}
pub use Rattle.njh_spool.specs.CustomerSpool.{with_arrived, with_finished, with_new_partial, with_state}
pub use Rattle.njh_spool.specs.{CustomerSpool.{without_partial, without_whole}, Spools.{files_numbered, no_spool}}
pub use Rattle.njh_spool.specs.{Spools.spool_at, declared.State.{State, TheVariants.{Held, Ready, Refused}}}
pub use Rattle.njh_table.specs.{Entries.{CustomerEntry, LineEntry, RouteEntry, route_of}, Keys.Walked}
pub use Rattle.njh_table.specs.{Marks.{customer_marked, entry_marked, entry_unmarked, with_mark}, NewRoutes.NewRoute}
pub use Rattle.njh_table.specs.{NewRoutes.{entries_of_routes, routes_checked}, TableFile.{HasLine, NamedCustomer}}
pub use Rattle.njh_table.specs.TableFile.{NamedLine, TableFile, customer_at, entry_of, no_customer}
pub use Rattle.njh_table.specs.declared.{LineId.LineId, Route.{Route, TheVariants.{Here, Line, Unknown}}}
pub use Rattle.njh_stream.proofs.{OnlyOneLaws.{counted_at, only_found}, ReceivingLaws.find_counts}
pub use Rattle.njh_stream.specs.{Arrivals.answer_on, Holding.{destination_unrouted, has_lost_route, held_file}}
pub use Rattle.njh_stream.specs.{Holding.{is_unknown, unrouted_held, waits_in_state}, Receiving.{Arrival, Notice}}
pub use Rattle.njh_stream.specs.Receiving.{Request, closed_by, received_arrival, received_request, requested_where}
pub use Rattle.njh_stream.specs.{Receiving.{stored_by, without_all_open, without_open}, Sending.SenderOutcome}
pub use Rattle.njh_stream.specs.Sending.{after_abort, after_completion, after_grant, after_refusal, all_ended}
pub use Rattle.njh_stream.specs.Sending.{destination_goes_by, file_in, goes_by, is_line, is_refused, may_go_again}
pub use Rattle.njh_stream.specs.Sending.{next_at, next_of, ready, record_at, spool_after_session, tried_again}
pub use Rattle.njh_stream.specs.{Streams.{coming_file, stream_at, streams_at, with_stream}, Transmissions.Cancelled}
pub use Rattle.njh_stream.specs.Transmissions.{Fitting, Taken, is_whole, judged_coming, verdict_of, with_room}
pub use Rattle.njh_stream.specs.{WholeFiles.HaveHeaders, code.Agreement.{Agrees, AreTied}}
pub use Rattle.njh_stream.specs.declared.{receiver.Receiver.Receiver, sender.Sender.{Sender, TheVariants.Aborting}}
pub use Rattle.njh_stream.specs.declared.sender.Sender.TheVariants.{EofSent, Requested}
pub use Rattle.njh_sched.specs.{Carrying.{end_of_file, file_records, record_item, records_of}, Laws.records_under}
pub use Rattle.njh_sched.specs.NextBlock.{Candidate, Filling, Outlet, Source, StreamAbort, StreamRequest, StreamTurn}
pub use Rattle.njh_sched.specs.NextBlock.{WaitingAnswer, WaitingMessage, abort_where, aborts, added_where}
pub use Rattle.njh_sched.specs.NextBlock.{after_candidate, after_source_where, answering, asking, candidate}
pub use Rattle.njh_sched.specs.NextBlock.{filled_where, filling, is_idle, is_ready, may_ask, may_go, messages_where}
pub use Rattle.njh_sched.specs.NextBlock.{next_served, oldest, requests, same_kind, sends_file, serving, sources}
pub use Rattle.njh_sched.specs.{NextBlock.{telling, turns, waiting_answers, waiting_messages}, Tight.own_fcs}
pub use Rattle.njh_command.specs.CommandLaws.{FilesMove, cancelled, held, released, rerouted, stay}
pub use Rattle.njh_command.specs.Commands.{CommandOutcome, aborted_where, changed_file, file_in_state, is_about}
pub use Rattle.njh_command.specs.Commands.{is_busy, is_of_name, is_sending, may_change, message_outcome, spool_after}
pub use Rattle.njh_command.specs.{Commands.{state_after_reroute, with_new_destination, without_file}, Files.no_file}
pub use Rattle.njh_command.specs.{Words.command_of, declared.command.Command.{Command, TheVariants.Cancel}}
pub use Rattle.njh_line.specs.{Answering.{control_verdict, does_nothing, is_answered, no_verdict}, Laws.is_disregarded}
pub use Rattle.njh_line.specs.{Laws.is_up, LineTable.{Input, cell, end, hang_up, table_outcome, try_nak, with_reply}}
pub use Rattle.njh_line.specs.Lines.{LineState, after_end, after_input, with_answer, with_message, with_session}
pub use Rattle.njh_line.specs.{Lines.without_turn, Openings.opening, RecordEnds.record_end, Sessions.in_session}
pub use Rattle.njh_line.specs.{Up.{KeepsUp, is_next}, declared.Phase.{Phase, TheVariants.{Calling, Down, Up}}}
pub use Rattle.njh_line.specs.declared.{config.Config.Config, ending.SessionEnd.SessionEnd}
pub use Rattle.njh_line.specs.declared.{session.Session.Session, verdict.LineReply.LineReply}
pub use Rattle.njh_customer.specs.Acting.{acted_where, after_arrival, after_message, after_permission, after_record}
pub use Rattle.njh_customer.specs.Acting.{after_stream_arrival, after_stream_record, after_stream_request}
pub use Rattle.njh_customer.specs.Acting.{after_unknown_node, after_user_command, all_acted, ended_or}
pub use Rattle.njh_customer.specs.Acting.{message_read, message_routed, peer_answered, refusal_of, with_outcome}
pub use Rattle.njh_customer.specs.{Acting.{with_sender_outcome, with_senders_by, without_sending}, Alone.CustomerStep}
pub use Rattle.njh_customer.specs.Alone.{accepted_on, after_block, after_frame, after_line_input, after_received}
pub use Rattle.njh_customer.specs.Alone.{after_signal, after_records, block_input, carried_out, goes_up, goes_up_by}
pub use Rattle.njh_customer.specs.Alone.{replied_to, session_ended, session_over, session_over_where, signal_input}
pub use Rattle.njh_customer.specs.Alone.{silent, spool_over, text_read, verdict_on, with_idle_streams, with_raised_line}
pub use Rattle.njh_customer.specs.Customer.{Customer, CustomerLine, IsMarked, config_of, customer_with, fresh_customer}
pub use Rattle.njh_customer.specs.Customer.{idle_line, in_state, line_at, no_customer_line, on_line, password_in}
pub use Rattle.njh_customer.specs.Customer.{receiver_at, with_marks, with_notice, with_receiver, with_sender}
pub use Rattle.njh_customer.specs.CustomerSteps.{ChangesMarks, IsReady, IsThere, KeepsOtherEntries, ChangesFiles}
pub use Rattle.njh_customer.specs.CustomerSteps.{LeavesReady, StepSends, customer_of, with_customer}
pub use Rattle.njh_customer.specs.Disregarding.{BadBlocksAreDisregarded, GarbledIsDisregarded, IsButSession}
pub use Rattle.njh_customer.specs.{Disregarding.{IsDisregarded, SpoiledIsDisregarded, session_on}, Feeding.LineRun}
pub use Rattle.njh_customer.specs.Feeding.{Taking, acted_on, byte_step, bytes_run, later_by, or_later, sent_first}
pub use Rattle.njh_customer.specs.{Feeding.{sent_on, take_step}, FrameEffects.{Carries, Ends, GoesOut, IsNoNewBlock}}
pub use Rattle.njh_customer.specs.FrameEffects.{again, block_records, control, count, new_block, no_block, nothing_sent}
pub use Rattle.njh_customer.specs.FrameEffects.{over_now, records_of_frame, sign_on, still_on, without_records}
pub use Rattle.njh_customer.specs.Growing.{EventsKeepShortRests, FilesGrow, FilesGrowFurther, HasBecomeWhole, HasCome}
pub use Rattle.njh_customer.specs.Growing.{IsShortRest, IsShortText, ManyRecordsGoOn, OpenedHasShortRests}
pub use Rattle.njh_customer.specs.Growing.{ReroutesKeepCounts, RoutesGrowFiles, SignalsGrowFiles, TakesGrowFiles}
pub use Rattle.njh_customer.specs.Growing.{OrdersGrowFiles}
pub use Rattle.njh_customer.specs.{Growing.{TakesKeepShortRests, few, goes_on}, InOrder.{AreApart, AreBeingSent}}
pub use Rattle.njh_customer.specs.InOrder.{AreSetUp, IdleUnlessUp, IsAbout, IsIdle, IsInOrder, IsOnStream}
pub use Rattle.njh_customer.specs.InOrder.{IsWithinQuota, LossesLeaveFiles, StaysInOrder, after_losses, at_rest}
pub use Rattle.njh_customer.specs.{InOrder.{customer_with_last_file, losses, phase_of, state_at_rest}, Laws.CutsAreLike}
pub use Rattle.njh_customer.specs.Laws.{EventsKeepEntries, EventsKeepFaults, EventsKeepLines, FirstBytesSendFirst}
pub use Rattle.njh_customer.specs.Laws.{MarksAreRight, NoBytesDoNothing, StepsFollowBytes, TakesKeepEntries}
pub use Rattle.njh_customer.specs.{Laws.followed_by, Moves.{Acts, Coming, Commands, LeadsByMoves, Moves, MovesBy}}
pub use Rattle.njh_customer.specs.Moves.{OneActs, Over, Records, Routes, RoutesMove, Sends, Tells, busy_numbers, by_end}
pub use Rattle.njh_customer.specs.Moves.{CommandMoves, Order, OrderMoves, OrdersCommand}
pub use Rattle.njh_customer.specs.Moves.{by_record, by_sending, nowhere, onward, with_changed, without_cancelled}
pub use Rattle.njh_customer.specs.{Moves.without_files, MovingLaws.{EventsMoveSo, FileMoves, FilesLeaveSo}}
pub use Rattle.njh_customer.specs.MovingLaws.{FilesLeaveSoBetween, IdleStreamsTakeFiles, IsMovedAlone, Leaves, LeavesBy}
pub use Rattle.njh_customer.specs.MovingLaws.{RecordsChangeSo, RoutesDo, RoutesDoSo, RoutesMoveFile, StreamMoves}
pub use Rattle.njh_customer.specs.MovingLaws.{StreamsMoveSo, TakesMoveSo, coming, is_as_before, is_held}
pub use Rattle.njh_customer.specs.MovingLaws.{LeavesByOrder, OrderDoes, OrderMovesFile, OrderMovesStream, OrdersDoSo}
pub use Rattle.njh_customer.specs.MovingLaws.{OrdersDoAsCommands, cancels_file, is_rerouted, keeps_records, remains}
pub use Rattle.njh_customer.specs.NewRoutes.{UnroutedFilesStay, customer_with_routes, entry_with, routes_given}
pub use Rattle.njh_customer.specs.Orders.{customer_after_order, has_way, leads_to_line, part_after_order, with_command}
pub use Rattle.njh_customer.specs.{NewRoutes.taken_where, OutgoingFiles.{Outgoing, each_stream, has_file, outgoing}}
pub use Rattle.njh_customer.specs.OutgoingFiles.{record_numbered, sender_on, streams_from_hub, streams_of, with_arrival}
pub use Rattle.njh_customer.specs.OutgoingFiles.{with_file_state, with_files, with_sender_on, without_numbered}
pub use Rattle.njh_customer.specs.{Part.{Part, part_after_bytes, rest_at, rest_on}, Runs.{OwnBytes, OwnEvent}}
pub use Rattle.njh_customer.specs.{Runs.{OwnOrder, OwnRoutes, OwnSignal, Run, alone_run, event_run}, Sending.next_block}
pub use Rattle.njh_customer.specs.Sending.{outlet_of, own_block, sending_of_block, sending_of_control, sending_of_empty}
pub use Rattle.njh_customer.specs.Sending.{sending_of_no_block, sending_of_reply, sending_of_written, with_outlet}
pub use Rattle.njh_customer.specs.Surviving.{EventsKeepFiles, FilesGoOn, FilesGoOnFurther, FilesSurvive}
pub use Rattle.njh_customer.specs.Surviving.{FirstFilesSurvive, IsRerouted, IsStill, RunsKeepFiles, Survive}
pub use Rattle.njh_customer.specs.Surviving.{SurvivorsAreNumbered, TakesKeepFiles, as_before, leaves, stays, to_node}
pub use Rattle.njh_customer.specs.Waiting.{all_said, goes, with_answer_on, with_message_to, with_notice_to}
pub use Rattle.njh_customer.specs.{Waiting.with_waiting, code.Coherence.{HasStreams, IsCoherent, RoutesKeepCoherent}}
pub use Rattle.njh_customer.specs.code.Coherence.{OrdersKeepCoherent, limits_of, streams_to_hub}
pub use Rattle.njh_customer.specs.declared.shared.Shared.{Shared}
pub use Rattle.njh_customer.specs.declared.given_order.GivenOrder.{GivenOrder, TheVariants.Message}
pub use Rattle.njh_customer.specs.declared.signal.Signal.{Signal, TheVariants.Lost}
